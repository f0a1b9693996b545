use Rattle.std.proofs.Common.{bytes_eq, ◌∙◌, rules, tests}
use Rattle.std.proofs.lemmas.Iterator.{YieldsList-from_slice}
use Rattle.std.proofs.lemmas.Iterator.Search.{find_from_yields_List}
use Rattle.csl_elements.specs.VariableNames.{date_name}
use Rattle.csl_elements.specs.declared.taxonomy.variable_names.TheConstants.{DATE_VARIABLES}
use Rattle.csl_elements.proofs.ByName.{named}
use Rattle.csl_elements.proofs.OneName.{date_by_name}
use Rattle.csl_elements.proofs.taxonomy.DateVariable.from_name.Goals as goal

pub returns : goal.returns
returns c =
    named date_name DATE_VARIABLES date_by_name _ _ (c.copied.ensures
    ∙ find_from_yields_List (λ v. bytes_eq (date_name v) c.args.name.now) _ _ c.find.result c.find.ensures.ran (YieldsList-from_slice DATE_VARIABLES c.iter.ensures.rest) (λ x b q k. search (rules, tests)))
