-- Which of two characters in a row stay. One that does not stay is neither a letter nor a digit.
use Rattle.std.specs.Prelude.{◌≡◌, [], ⊤}
use Rattle.csl_finish.specs.declared.letters.Letter.{Letter}
use Rattle.csl_finish.specs.declared.punctuation.Kept.{Kept}
use Rattle.csl_finish.specs.declared.punctuation.Kept.TheVariants.{Both, First, Second}
use Rattle.csl_finish.specs.Letters.{word_of}

abbrev pub KeepsWords : Kept → Letter → Letter → Type 0
KeepsWords Both before letter = ⊤
KeepsWords First before letter = word_of letter ≡ []
KeepsWords Second before letter = word_of before ≡ []
