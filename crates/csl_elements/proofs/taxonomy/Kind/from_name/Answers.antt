use Rattle.std.proofs.Common.{bytes_eq, ◌∙◌, rules, tests}
use Rattle.std.proofs.lemmas.Iterator.{YieldsList-from_slice}
use Rattle.std.proofs.lemmas.Iterator.Search.{find_from_yields_List}
use Rattle.csl_elements.specs.Taxonomy.{name_of}
use Rattle.csl_elements.specs.declared.taxonomy.kind_names.TheConstants.{KINDS}
use Rattle.csl_elements.proofs.ByName.{named}
use Rattle.csl_elements.proofs.OneName.{kind_by_name}
use Rattle.csl_elements.proofs.taxonomy.Kind.from_name.Goals as goal

pub returns : goal.returns
returns c =
    named name_of KINDS kind_by_name _ _ (c.copied.ensures
    ∙ find_from_yields_List (λ k. bytes_eq (name_of k) c.args.name.now) _ _ c.find.result c.find.ensures.ran (YieldsList-from_slice KINDS c.iter.ensures.rest) (λ x b q k. search (rules, tests)))
