-- The text of numbers, number by number.
use Rattle.std.proofs.Common.{◌≡◌, ℕ, ◌+◌, ◌<◌, List, [], ◌∷◌, ◌++◌, length, get_or, take, Option, ℤ, sym, ap, ◌∙◌}
use Rattle.std.proofs.lemmas.List.{take_more, append-nil}
use Rattle.std.proofs.lemmas.List.Concat.{flat_map-append}
use Rattle.lit_model.specs.declared.numeric.NumericDelimiter.{NumericDelimiter}
use Rattle.lit_model.specs.NumericWrite.{delimiter_text, numbers_text}

abbrev pub Numbers : Type 0
Numbers = List (ℤ × Option NumericDelimiter)

-- one more number adds its text and its delimiter
pub numbers_text-more : (text : ℤ → List ℕ) (xs : Numbers) (i : ℕ) (d : ℤ × Option NumericDelimiter) → i < length xs
    → numbers_text text (take i xs) ++ (text (get_or xs i d).0 ++ delimiter_text (get_or xs i d).1) ≡ numbers_text text (take (i + 1) xs)
numbers_text-more text xs i d lt =
    let piece : ℤ × Option NumericDelimiter → List ℕ = λ x. text x.0 ++ delimiter_text x.1 in
    sym (ap (numbers_text text) (take_more xs i d lt) ∙ flat_map-append piece (take i xs) (get_or xs i d ∷ [])
    ∙ ap (λ (t : List ℕ). numbers_text text (take i xs) ++ t) (append-nil (piece (get_or xs i d))))
