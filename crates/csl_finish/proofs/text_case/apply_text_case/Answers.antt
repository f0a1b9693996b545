use Rattle.std.proofs.Common.{rules, ◌≡◌, false, sym}
use Rattle.csl_tree.specs.Tokens.{tokens}
use Rattle.csl_finish.specs.CaseMarks.{have_mark}
use Rattle.csl_finish.proofs.WithoutMarks.{solids_same}
use Rattle.csl_finish.proofs.text_case.apply_text_case.Goals as goal

pub returns-then-not-has_mark-clause-solids : goal.returns-then-not-has_mark-clause-solids
returns-then-not-has_mark-clause-solids c =
    let none : have_mark (tokens c.args.content.now) ≡ false = search rules in
    sym (solids_same (tokens c.args.content.now) none)
