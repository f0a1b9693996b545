use Rattle.std.proofs.Common.{List, ℕ, ◌<◌, ◌++◌, length, ap, sym, ◌∙◌, arith}
use Rattle.std.proofs.lemmas.Bool.Decides.{nat_tests}
use Rattle.csl_tree.proofs.Escaped.{escaped-plain, found_text}
use Rattle.csl_tree.proofs.marks.text_at.Goals as goal

pub returns-then-not-is_empty-clause-found : goal.returns-then-not-is_empty-clause-found
returns-then-not-is_empty-clause-found c =
    let some : 0 < length c.split_plain.result.0.now = grind (arith, nat_tests) in
    (some, c.split_plain.ensures.whole ∙ ap (λ (l : List ℕ). l ++ c.split_plain.result.1.now) (sym (escaped-plain c.split_plain.result.0.now c.split_plain.ensures.plain)))

pub returns-clause-found : goal.returns-clause-found
returns-clause-found c = found_text _ c.reference_at.result c.reference_at.ensures
