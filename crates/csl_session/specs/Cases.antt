-- Contents and keys whose texts are in the cases that their marks set (CSL 1.0.2, Text-case). Which
-- letters these are, `apply_text_case` of `csl_finish` says in words.
use Rattle.std.specs.Prelude.{◌≡◌, ℕ, false, List}
use Rattle.csl.specs.Tree.Tokens.{Token}
use Rattle.csl_finish.specs.CaseMarks.{have_mark, has_mark, solids, unmarked_solids}

-- No mark is left; without a mark all is as before; links, markup and elements are so in any case,
-- but for marks in them.
pub record IsCased (before after : List Token) : Type 0 where
  pub unmarked : have_mark after ≡ false
  pub same : have_mark before ≡ false → after ≡ before
  pub others : solids after ≡ unmarked_solids before

-- the same of a text
pub record IsCasedText (before after : List ℕ) : Type 0 where
  pub unmarked : has_mark after ≡ false
  pub same : has_mark before ≡ false → after ≡ before
