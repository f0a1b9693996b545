-- The number of entries in a list, counted with all their parents at any level, and their depth.
use Rattle.std.proofs.Common.{◌≡◌, ℕ, ◌+◌, List, ◌∷◌, ◌++◌, ◌<◌, length, ap, arith, max}
use denote.Param.Weighed.{most, most-append}
use Rattle.std.specs.List.{sum_by, flat_map}
use Rattle.std.proofs.lemmas.List.Concat.{length-flat_map}
use Rattle.std.proofs.lemmas.List.Sums.{sum_by-append}
use Rattle.lit_model.specs.Entry.{parents_of, preorder}
use Rattle.lit_model.specs.declared.entry.Entry.{Entry}
use Rattle.lit_model.specs.declared.entry.Entry.TheViews.{size-Entry, size_is-Entry}
use Rattle.lit_model.proofs.Preorder.{preorder_out}

-- the number of levels of an entry
abbrev pub size : Entry → ℕ
size e = size-Entry e

-- the number of entries in its preorder
abbrev pub lineage : Entry → ℕ
lineage e = length (preorder e)

abbrev pub lineages : List Entry → ℕ
lineages es = sum_by lineage es

pub lineage_out : (e : Entry) → lineage e ≡ lineages (parents_of e) + 1
lineage_out e =
    let first : lineage e ≡ length (e ∷ flat_map preorder (parents_of e)) = ap length (preorder_out e) in
    omega (arith, first, length-flat_map preorder (parents_of e))

pub lineages_append : (xs ys : List Entry) → lineages (xs ++ ys) ≡ lineages xs + lineages ys
lineages_append xs ys = sum_by-append lineage xs ys

-- an entry has more levels than each of its parents
pub parents_fall : (e : Entry) → most size (parents_of e) < size e
parents_fall e = omega (arith, size_is-Entry e)

pub most_appended : (xs ys : List Entry) → most size (xs ++ ys) ≡ max (most size xs) (most size ys)
most_appended xs ys = most-append size xs ys

-- for the loop that drops parents
pub ruleset lineage_laws = (lineage_out, lineages_append, parents_fall, most_appended)
