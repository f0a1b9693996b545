use Rattle.std.proofs.Common.{ℕ, List, Bor, refl, sym, ap, ◌∙◌}
use Rattle.std.specs.Prelude.{◌≢◌}
use Rattle.std.proofs.lemmas.Bool.{both_ways}
use Rattle.std.proofs.lemmas.List.{get_or_default}
use Rattle.std.proofs.lemmas.List.Elements.{AllWithin-more}
use Rattle.std.proofs.lemmas.Slice.Eq.{bytes_eq-Decides}
use Rattle.csl_finish.proofs.links.is_one_of.Goals as goal

pub loop-it-preserved : goal.loop-it-preserved
loop-it-preserved c =
    let texts = c.args.texts.now in
    let i = c.loop-it.it-index in
    AllWithin-more (λ t. t.now ≢ c.args.text.now) texts 0 i c.loop-it.invariant
    (λ d same. both_ways _ (sym c.eq.ensures ∙ c.if-eq.false) ((bytes_eq-Decides _ _).1 (ap (λ (t : Bor (List ℕ)). t.now) (get_or_default texts i _ d c.loop-it-test.true) ∙ same)))

pub returns-then-eq : goal.returns-then-eq
returns-then-eq c = (
  λ _. (
    c.loop-it.it-index,
    c.loop-it-test.true,
    λ d. ap (λ (t : Bor (List ℕ)). t.now) (get_or_default c.args.texts.now c.loop-it.it-index d _ c.loop-it-test.true) ∙ (bytes_eq-Decides _ _).0 (sym c.eq.ensures ∙ c.if-eq.true),
  ),
  λ _. refl,
)
