use Rattle.std.proofs.Common.{bytes_eq, ◌∙◌, rules, tests}
use Rattle.std.proofs.lemmas.Iterator.{YieldsList-from_slice}
use Rattle.std.proofs.lemmas.Iterator.Search.{find_from_yields_List}
use Rattle.csl_elements.specs.VariableNames.{page_name}
use Rattle.csl_elements.specs.declared.taxonomy.variable_names.TheConstants.{PAGE_VARIABLES}
use Rattle.csl_elements.proofs.ByName.{named}
use Rattle.csl_elements.proofs.OneName.{page_by_name}
use Rattle.csl_elements.proofs.taxonomy.PageVariable.from_name.Goals as goal

pub returns : goal.returns
returns c =
    named page_name PAGE_VARIABLES page_by_name _ _ (c.copied.ensures
    ∙ find_from_yields_List (λ v. bytes_eq (page_name v) c.args.name.now) _ _ c.find.result c.find.ensures.ran (YieldsList-from_slice PAGE_VARIABLES c.iter.ensures.rest) (λ x b q k. search (rules, tests)))
