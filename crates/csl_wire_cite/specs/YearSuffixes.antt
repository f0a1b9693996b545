-- Which year suffixes words are (CSL 1.0.2, Disambiguation: disambiguate-add-year-suffix): the
-- number of a word of letters from a to z, from 0.
use Rattle.std.specs.Prelude.{◌≡◌, ℕ, List}
use Rattle.csl_entry.specs.Letters.{IsWord, word_index}

pub record IsSuffix (word : List ℕ) (n : ℕ) : Type 0 where
  pub letters : IsWord word
  pub place : word_index word ≡ n
