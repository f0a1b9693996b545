use Rattle.std.proofs.Common.{◌≡◌, refl, rules}
use Rattle.std.specs.Ordering.{int_cmp}
use Rattle.std.proofs.lemmas.Iterator.{YieldsList-from_slice, YieldsList-from_map}
use Rattle.std.proofs.lemmas.Iterator.Search.{cmp_from_yields_List}
use Rattle.csl_entry.proofs.number_result.compare_lists.Goals as goal

pub returns : goal.returns
returns c = cmp_from_yields_List (λ x y. y ≡ x) _ int_cmp _ c.cmp.ensures.ran
    (YieldsList-from_map _ (λ x. x.0) (YieldsList-from_slice c.args.a.now cc) c.map-left.ensures.closure (λ x r q k. search rules))
    (λ it e. YieldsList-from_map _ (λ x. x.0) (YieldsList-from_slice c.args.b.now cc) c.map-right.ensures.closure (λ x r q k. search rules))
    (λ x y. refl)
