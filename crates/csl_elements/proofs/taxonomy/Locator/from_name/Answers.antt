use Rattle.std.proofs.Common.{bytes_eq, ◌∙◌, rules, tests}
use Rattle.std.proofs.lemmas.Iterator.{YieldsList-from_slice}
use Rattle.std.proofs.lemmas.Iterator.Search.{find_from_yields_List}
use Rattle.csl_elements.specs.LocatorNames.{locator_name}
use Rattle.csl_elements.specs.declared.taxonomy.locator_names.TheConstants.{LOCATORS}
use Rattle.csl_elements.proofs.ByName.{named}
use Rattle.csl_elements.proofs.OneName.{locator_by_name}
use Rattle.csl_elements.proofs.taxonomy.Locator.from_name.Goals as goal

pub returns : goal.returns
returns c =
    named locator_name LOCATORS locator_by_name _ _ (c.copied.ensures
    ∙ find_from_yields_List (λ l. bytes_eq (locator_name l) c.args.name.now) _ _ c.find.result c.find.ensures.ran (YieldsList-from_slice LOCATORS c.iter.ensures.rest) (λ x b q k. search (rules, tests)))
