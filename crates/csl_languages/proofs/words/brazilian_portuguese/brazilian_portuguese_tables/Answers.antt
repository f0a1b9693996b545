use Rattle.std.proofs.Common.{refl}
use Rattle.std.specs.Char.{encode_utf8}
use Rattle.csl_languages.proofs.words.brazilian_portuguese.brazilian_portuguese_tables.Goals as goal

pub returns-clause-rows : goal.returns-clause-rows
returns-clause-rows c = refl

pub returns-clause-words : goal.returns-clause-words
unfolding encode_utf8
returns-clause-words c = refl
