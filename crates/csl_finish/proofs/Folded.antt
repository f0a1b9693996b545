-- What characters sort as, one after the other.
use Rattle.std.proofs.Common.{◌≡◌, ◌∙◌, ◌<◌, ◌+◌, ℕ, List, ◌∷◌, ◌++◌, length, get_or, drop, add-one, drop-cons, append_assoc, refl, sym, ap}
use Rattle.std.specs.Prelude.{String, chars, encode_utf8_all, string_bytes}
use Rattle.std.proofs.lemmas.Str.{IsUtf8-string_bytes, chars_from_encodes, encodes-append}
use Rattle.csl_finish.specs.Folding.{folded_char, folded_chars}

-- one more character
pub folded_more : (cs : List ℕ) (i c : ℕ) (after s t w : List ℕ) → i < length cs → c ≡ get_or cs i c → after ≡ drop (i + 1) cs → t ≡ s ++ encode_utf8_all (folded_char c after) → s ++ encode_utf8_all (folded_chars (drop i cs)) ≡ w → t ++ encode_utf8_all (folded_chars (drop (i + 1) cs)) ≡ w
folded_more cs i c after s t w lt is left e h =
    let at : drop i cs ≡ get_or cs i c ∷ drop (i + 1) cs = rw (add-one, drop-cons cs i c) refl in
    let front : drop i cs ≡ c ∷ after = at ∙ ap (λ x. x ∷ drop (i + 1) cs) (sym is) ∙ ap (λ ds. c ∷ ds) (sym left) in
    let char = folded_char c after in
    let rest = folded_chars after in
    ap (λ u. u ++ encode_utf8_all (folded_chars (drop (i + 1) cs))) e
    ∙ ap (λ ds. (s ++ encode_utf8_all char) ++ encode_utf8_all (folded_chars ds)) (sym left)
    ∙ append_assoc s (encode_utf8_all char) (encode_utf8_all rest)
    ∙ ap (λ u. s ++ u) (sym (encodes-append char rest))
    ∙ ap (λ ds. s ++ encode_utf8_all (folded_chars ds)) (sym front)
    ∙ h

-- the characters of a text that spells them
pub chars_spelled : {Z : Type 0} (s : String Z) (cs : List ℕ) → string_bytes s ≡ encode_utf8_all cs → chars (string_bytes s) ≡ cs
chars_spelled s cs e = sym (chars_from_encodes cs (string_bytes s) (IsUtf8-string_bytes s) (sym e))
