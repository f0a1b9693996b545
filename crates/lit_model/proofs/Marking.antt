-- Lemmas on a given name with its single letters marked.
use Rattle.std.proofs.Common.{◌≡◌, ◌≢◌, ℕ, Bool, true, false, cond, List, [], ◌∷◌, ◌++◌, length, Option, refl, sym, ap, ◌∙◌, arith, ⊎_elim, append_assoc, append-nil, chars, encode_utf8}
use Rattle.std.specs.Prelude.{IsUtf8, Some, None, codes, drop, nat_lt, ◌==◌, ◌&&◌, encode_utf8_all, if◌then◌else◌}
use Rattle.std.specs.Char.{is_whitespace}
use Rattle.std.specs.Str.{drop_trailing_whitespace, trim_end}
use Rattle.std.proofs.lemmas.Bool.{ltb-false}
use Rattle.std.proofs.lemmas.Bool.Decides.{eqb_tells}
use Rattle.std.proofs.Math.Seq.{drop-append_seam}
use Rattle.std.proofs.lemmas.List.{length-append}
use Rattle.std.proofs.lemmas.Str.{encodes-append, encodes-chars, IsUtf8-past_char, chars_past_char, chars-nil}
use Rattle.unicode.specs.GeneralCategory.{general_category}
use Rattle.lit_model.specs.FirstNames.{is_capital, is_single_capital, without_dot, single_letter, letter_or_word, last_letter_or_word, space_after, lettered_words}
use Rattle.lit_model.specs.Marked.{gap_after, names_text}

-- ---- one uppercase letter

none_left : (xs : List ℕ) → length xs ≡ 0 → chars xs ≡ []
none_left [] h = chars-nil
none_left (x ∷ xs) h = absurd (omega (arith, h))

-- a text of one character is a single uppercase letter exactly if that character is one
pub one_letter : (bs rest : List ℕ) (c : ℕ) → IsUtf8 bs → bs ≡ encode_utf8 c ++ rest → length rest ≡ 0 → is_capital (general_category c) ≡ is_single_capital (chars bs)
one_letter bs rest c u e h = sym (ap is_single_capital (chars_past_char bs rest c u e ∙ ap (λ (l : List ℕ). c ∷ l) (none_left rest h)))

-- a text of two or more characters is none
pub more_letters : (bs rest more : List ℕ) (c d : ℕ) → IsUtf8 bs → bs ≡ encode_utf8 c ++ rest → rest ≡ encode_utf8 d ++ more → false ≡ is_single_capital (chars bs)
more_letters bs rest more c d u e f = sym (ap is_single_capital (chars_past_char bs rest c u e ∙ ap (λ (l : List ℕ). c ∷ l) (chars_past_char rest more d (IsUtf8-past_char bs rest c u e) f)))

-- ---- a dot at the end

pub dot_cut : (front : List ℕ) → without_dot (front ++ (46 ∷ [])) ≡ front
dot_cut [] = refl
dot_cut (b ∷ []) = refl
dot_cut (b ∷ c ∷ cs) = ap (λ (l : List ℕ). b ∷ l) (dot_cut (c ∷ cs))

pub dot_none : (bs : List ℕ) → ((front : List ℕ) → bs ≢ front ++ (46 ∷ [])) → bs ≡ without_dot bs
dot_none [] h = refl
dot_none (b ∷ []) h = ⊎_elim (λ same. absurd (h [] (ap (λ (x : ℕ). x ∷ []) same.1))) (λ other. sym (ap (λ (t : Bool). cond t [] (b ∷ [])) other.0)) (eqb_tells b 46)
dot_none (b ∷ c ∷ cs) h = ap (λ (l : List ℕ). b ∷ l) (dot_none (c ∷ cs) (λ front e. h (b ∷ front) (ap (λ (l : List ℕ). b ∷ l) e)))

-- ---- a loop over the words of a name

-- the invariant still holds after one more word
pub next_name : (text so_far target gap after w : List ℕ) (o : Option (List ℕ)) (all more : List (List ℕ)) → all ≡ w ∷ more → o ≡ single_letter w → after ≡ gap_after text o → so_far ++ names_text text gap all ≡ target → (so_far ++ (gap ++ last_letter_or_word text o w)) ++ names_text text after more ≡ target
next_name text so_far target gap after w o all more split letter behind whole =
    append_assoc so_far (gap ++ last_letter_or_word text o w) (names_text text after more)
    ∙ ap (λ (x : List ℕ). so_far ++ x) (append_assoc gap (last_letter_or_word text o w) (names_text text after more)
    ∙ ap (λ (x : List ℕ). gap ++ (last_letter_or_word text o w ++ names_text text x more)) behind
    ∙ ap (λ (p : Option (List ℕ)). gap ++ (last_letter_or_word text p w ++ names_text text (gap_after text p) more)) letter
    ∙ ap (names_text text gap) (sym split))
    ∙ whole

-- after the last word, the text so far is the whole text
pub last_name : (text so_far target gap : List ℕ) (all : List (List ℕ)) → all ≡ [] → so_far ++ names_text text gap all ≡ target → so_far ≡ target
last_name text so_far target gap all none whole = sym (append-nil so_far) ∙ ap (λ (ws : List (List ℕ)). so_far ++ names_text text gap ws) (sym none) ∙ whole

-- ---- the words, as they are written and as they are defined

-- `drop_trailing_whitespace` returns a front of the characters
trailing : (cs : List ℕ) → (t : List ℕ) × (drop_trailing_whitespace cs ++ t ≡ cs)
trailing [] = ([], refl)
trailing (c ∷ cs) = cut (trailing cs) (is_whitespace c && length (drop_trailing_whitespace cs) == 0)
  where
    cut : ((t : List ℕ) × (drop_trailing_whitespace cs ++ t ≡ cs)) → (b : Bool) → (t : List ℕ) × (cond b [] (c ∷ drop_trailing_whitespace cs) ++ t ≡ c ∷ cs)
    cut rest true = (c ∷ cs, refl)
    cut rest false = (rest.0, ap (λ (l : List ℕ). c ∷ l) rest.1)

-- `trim_end` returns a front of the text
trimmed : (text : List ℕ) → IsUtf8 text → (t : List ℕ) × (trim_end text ++ t ≡ text)
unfolding trim_end
trimmed text u =
    let parts = trailing (chars text) in
    (encode_utf8_all parts.0, sym (encodes-append (drop_trailing_whitespace (chars text)) parts.0) ∙ ap encode_utf8_all parts.1 ∙ encodes-chars text u)

-- A word written as the last one, then the gap after it, has the same bytes as the word written as
-- any other one, then the space after it.
gap_written : (text w : List ℕ) (o : Option (List ℕ)) → IsUtf8 text → last_letter_or_word text o w ++ gap_after text o ≡ letter_or_word text o w ++ space_after text o
gap_written text w None u = refl
gap_written text w (Some letter) u = written (trimmed text u) (nat_lt (length (trim_end text)) (length text)) refl
  where
    rest_of : (p t : List ℕ) → p ++ t ≡ text → p ++ drop (length p) text ≡ text
    rest_of p t e = ap (λ (x : List ℕ). p ++ drop (length p) x) (sym e) ∙ ap (λ (x : List ℕ). p ++ x) (drop-append_seam p t) ∙ e

    whole : (p t : List ℕ) → p ++ t ≡ text → nat_lt (length p) (length text) ≡ false → p ≡ text
    whole p [] e h = sym (append-nil p) ∙ e
    whole p (x ∷ t) e h = absurd (omega (arith, ltb-false (length p) (length text) h, ap length e, length-append p (x ∷ t)))

    written : ((t : List ℕ) × (trim_end text ++ t ≡ text)) → (b : Bool) → nat_lt (length (trim_end text)) (length text) ≡ b
        → (letter ++ trim_end text) ++ (if b then drop (length (trim_end text)) text else codes " ") ≡ (letter ++ text) ++ (if b then [] else codes " ")
    written parts true h = append_assoc letter (trim_end text) (drop (length (trim_end text)) text) ∙ ap (λ (x : List ℕ). letter ++ x) (rest_of (trim_end text) parts.0 parts.1) ∙ sym (append-nil (letter ++ text))
    written parts false h = ap (λ (x : List ℕ). (letter ++ x) ++ codes " ") (whole (trim_end text) parts.0 parts.1 h)

pub written_names : (text gap w : List ℕ) (ws : List (List ℕ)) → IsUtf8 text → names_text text gap (w ∷ ws) ≡ gap ++ lettered_words text (w ∷ ws)
written_names text gap w [] u = ap (λ (x : List ℕ). gap ++ x) (append-nil (last_letter_or_word text (single_letter w) w))
written_names text gap w (v ∷ ws) u =
    let o = single_letter w in
    ap (λ (x : List ℕ). gap ++ x) (ap (λ (x : List ℕ). last_letter_or_word text o w ++ x) (written_names text (gap_after text o) v ws u)
    ∙ sym (append_assoc (last_letter_or_word text o w) (gap_after text o) (lettered_words text (v ∷ ws)))
    ∙ ap (λ (x : List ℕ). x ++ lettered_words text (v ∷ ws)) (gap_written text w o u)
    ∙ append_assoc (letter_or_word text o w) (space_after text o) (lettered_words text (v ∷ ws)))

-- the written text of all words is the defined one
pub all_written : (text : List ℕ) (ws : List (List ℕ)) → IsUtf8 text → names_text text [] ws ≡ lettered_words text ws
all_written text [] u = refl
all_written text (w ∷ ws) u = written_names text [] w ws u
