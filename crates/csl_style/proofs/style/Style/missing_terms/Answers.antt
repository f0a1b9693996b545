use Rattle.std.proofs.Common.{◌≡◌, IfOk, Vec, Global, rules}
use Rattle.csl_style.proofs.AskedTerms.{first_listed, first_missing}
use Rattle.csl_style.specs.MissingTerm.{AskedTerm, asked_terms, missing_term, missing_terms}
use Rattle.csl_style.proofs.style.Style.missing_terms.Goals as goal

pub returns-clause-first : goal.returns-clause-first
returns-clause-first c =
    let style = c.args.self.now in
    let layout = c.args.layout.now in
    let list : IfOk c.ok_or.result (λ (found : Vec AskedTerm Global). found.items ≡ missing_terms style layout) = search rules in
    first_listed c.ok_or.result (missing_terms style layout) (missing_term style layout) (first_missing style.locales (asked_terms style layout)) list
