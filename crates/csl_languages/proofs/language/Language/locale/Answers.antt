use Rattle.csl_languages.specs.Languages.{contents, first_words}
use Rattle.csl_languages.proofs.FirstTerms.{same_contents, begins_with}
use Rattle.csl_languages.proofs.language.Language.locale.Goals as goal

pub returns-clause-whole : goal.returns-clause-whole
returns-clause-whole c = same_contents _ _ (contents c.args.self) c.in_ok-made.ensures c.tables.ensures.rows

pub returns-clause-words : goal.returns-clause-words
returns-clause-words c = begins_with _ _ _ _ (first_words c.args.self) c.in_ok-made.ensures.terms c.tables.ensures.words
