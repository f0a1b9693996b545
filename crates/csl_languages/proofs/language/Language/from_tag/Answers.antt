use Rattle.std.proofs.Common.{◌∙◌, rules, tests}
use Rattle.std.proofs.lemmas.Iterator.{YieldsList-from_slice}
use Rattle.std.proofs.lemmas.Iterator.Search.{find_from_yields_List}
use Rattle.csl_languages.specs.Tag.{is_named}
use Rattle.csl_languages.specs.declared.tag.TheConstants.{LANGUAGES}
use Rattle.csl_languages.proofs.language.Language.from_tag.Goals as goal

pub returns : goal.returns
returns c = c.copied.ensures
    ∙ find_from_yields_List (is_named c.args.tag.now) _ _ c.find.result c.find.ensures.ran (YieldsList-from_slice LANGUAGES c.iter.ensures.rest) (λ x b q k. search (rules, tests))
