use Rattle.std.proofs.Common.{bytes_eq, ◌∙◌, rules, tests}
use Rattle.std.proofs.lemmas.Iterator.{YieldsList-from_slice}
use Rattle.std.proofs.lemmas.Iterator.Search.{find_from_yields_List}
use Rattle.csl_elements.specs.TermNames.{role_name}
use Rattle.csl_elements.specs.declared.taxonomy.variable_names.TheConstants.{NAME_VARIABLES}
use Rattle.csl_elements.proofs.ByName.{named}
use Rattle.csl_elements.proofs.OneName.{role_by_name}
use Rattle.csl_elements.proofs.term.term_names.role_of_name.Goals as goal

pub returns : goal.returns
returns c =
    named role_name NAME_VARIABLES role_by_name _ _ (c.copied.ensures
    ∙ find_from_yields_List (λ v. bytes_eq (role_name v) c.args.name.now) _ _ c.find.result c.find.ensures.ran (YieldsList-from_slice NAME_VARIABLES c.iter.ensures.rest) (λ x b q k. search (rules, tests)))
