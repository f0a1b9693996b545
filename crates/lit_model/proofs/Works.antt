-- `works` of an entry, from its own fields and `works` of its parents.
use Rattle.std.proofs.Common.{◌≡◌, List, length, map, ap}
use Rattle.std.proofs.lemmas.List.{length-map}
use Rattle.lit_model.specs.Entry.{parents_of}
use Rattle.lit_model.specs.Work.{Work, own_of, work_of, works}
use Rattle.lit_model.specs.declared.entry.Entry.{Entry}
use Rattle.lit_model.proofs.Prefix.{shown_same}

tells : (a b : Entry) → work_of a ≡ work_of b → length (parents_of a) ≡ length (parents_of b)
tells a b = ap (λ (w : Work). w.parent_count)

same_count : (xs ys : List Entry) → map works xs ≡ map works ys → length xs ≡ length ys
same_count xs ys h = simp length-map at (ap length h)

-- entries have the same `works` if their own fields and `works` of their parents are the same
pub works_same : (e d : Entry) → own_of e ≡ own_of d → map works (parents_of e) ≡ map works (parents_of d) → works e ≡ works d
works_same e d own parents =
    let count = same_count (parents_of e) (parents_of d) parents in
    shown_same work_of tells e d (λ i. record { own = own i; parent_count = count i }) parents
