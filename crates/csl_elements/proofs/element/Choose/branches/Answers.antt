use Rattle.std.proofs.Common.{◌≡◌, [], ◌∷◌, Some, Bor, ap, ◌∙◌}
use Rattle.std.specs.Iterator.Adapters.{once_steps, once_item}
use Rattle.std.specs.Slice.Iter.{iter_rest}
use Rattle.std.specs.declared.iter.Once.{Once}
use Rattle.std.proofs.lemmas.Iterator.{YieldsList, YieldsList-from_slice}
use Rattle.std.proofs.lemmas.Iterator.Consumers.{YieldsList-from_chain}
use Rattle.csl_elements.proofs.element.Choose.branches.Goals as goal

-- `once` of a reference yields the value that it refers to
once_given : {A : Type 0} (s : Once (Bor A)) (x : Bor A) → once_item s ≡ Some x → YieldsList once_steps (λ y. y.now) s (x.now ∷ [])
once_given {A} s x is = record { runs = ((λ j h. let e = h.0 in cc), λ y j h. ((let e : Some y ≡ Some x = h.0 ∙ is in let f : y ≡ x = cc in ap (λ (z : Bor A). z.now) f), λ z k g. let e = h.1 in let f = g.0 in cc)) }

pub returns : goal.returns
returns c =
    let road = YieldsList-from_chain (once_given _ _ (ap once_item c.chain.ensures.first ∙ c.once.ensures.item))
    (YieldsList-from_slice _ (ap (λ r. iter_rest r) c.chain.ensures.second ∙ (c.iter.ensures.rest ∙ c.deref.ensures.value)))
    c.chain.ensures.first_done c.chain.ensures.second_done in
    road.runs
