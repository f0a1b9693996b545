-- The depth of a parent is less than that of the entry.
use Rattle.std.proofs.Common.{ℕ, ◌<◌, ◌≤◌, List, [], ◌∷◌, subst}
use mathlib.Core.Former.{Count, none_left, one_more, list, this, children}
use mathlib.Core.Former as One
use mathlib.Core.Sorted.{All}
use denote.Hole.Carrier.{listed, list-listed}
use denote.Hole.Rolled.{depth, depth_falls, repeat, onto}
use Rattle.lit_model.specs.declared.entry.Entry.{Entry, out-Entry}
use Rattle.lit_model.specs.declared.entry.Entry.TheBlock as block
use Rattle.lit_model.specs.Entry.{parents_of}

-- each item of the list has the property
abbrev pub EachOf : {A : Type 0} → (A → Type 0) → List A → Type 0
EachOf P [] = Unit {0}
EachOf P (x ∷ xs) = P x × EachOf P xs

each_listed : (I : Type 0) (X : I → Type 0) (P : (j : I) → X j → Type 0) (i : I) (m : Count) (ys : One.Row (X i) m) → All I X P (repeat I i m []) (onto I i X m ys [] tt) → EachOf (P i) (listed m ys)
each_listed I X P i none_left ys all = tt
each_listed I X P i (one_more m) ys all = (all.0, each_listed I X P i m ys.1 all.1)

-- the depth of an entry
abbrev pub depth_of : Entry → ℕ
depth_of e = block.the_depth block.member-Entry e

pub parents_less : (e : Entry) (n : ℕ) → depth_of e ≤ n → EachOf (λ y. depth_of y < n) (parents_of e)
unfolding block.the_depth out-Entry denote.Hole.Carrier.out
parents_less e n p = subst (EachOf (λ y. depth block.the_members block.the_sigs block.the_carrier block.member-Entry y < n)) (list-listed Entry (parents_of e))
    (each_listed block.the_members block.the_family (λ j y. depth block.the_members block.the_sigs block.the_carrier j y < n) block.member-Entry _ (children (list this) Entry (parents_of e))
    (depth_falls block.the_members block.the_sigs block.the_carrier block.member-Entry e n p))
