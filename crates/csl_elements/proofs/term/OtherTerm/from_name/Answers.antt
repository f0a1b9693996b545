use Rattle.std.proofs.Common.{◌∙◌, rules, tests}
use Rattle.std.proofs.lemmas.Iterator.{YieldsList-from_slice}
use Rattle.std.proofs.lemmas.Iterator.Search.{find_from_yields_List}
use Rattle.csl_elements.specs.TermNames.{other_name}
use Rattle.csl_elements.specs.declared.term.term_names.TheConstants.{OTHER_TERMS}
use Rattle.csl_elements.proofs.OneTerm.{is_name, other_named}
use Rattle.csl_elements.proofs.term.OtherTerm.from_name.Goals as goal

pub returns : goal.returns
returns c =
    other_named _ _ (c.copied.ensures
    ∙ find_from_yields_List (λ t. is_name c.args.name.now (other_name t)) _ _ c.find.result c.find.ensures.ran (YieldsList-from_slice OTHER_TERMS c.iter.ensures.rest) (λ x b q k. search (rules, tests)))
