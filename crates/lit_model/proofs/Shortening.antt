-- Lemmas on the initials of a given name.
use Rattle.std.proofs.Common.{◌≡◌, ◌≢◌, ℕ, ◌<◌, Bool, true, false, cond, not, List, [], ◌∷◌, ◌++◌, length, get_or, map, Option, Some, None, eqb, refl, sym, ap, ◌∙◌, subst, arith, append_assoc, append-nil, chars, encode_utf8}
use Rattle.std.specs.Prelude.{filter, filter_map, slice_get, option_to_list, IsUtf8, encode_utf8_all, ⊤}
use Rattle.std.specs.Char.{is_whitespace, is_not_whitespace}
use Rattle.std.specs.List.{All, slice_split, onto_first, cons_option}
use Rattle.std.specs.Str.{trim_end, NonePass, NoCharPasses, EmptyOrStartsWithPassing}
use Rattle.std.proofs.lemmas.List.Elements.{All-nil, All-cons}
use Rattle.std.proofs.lemmas.List.Splits.{slice_split_none, slice_split_at}
use Rattle.std.proofs.lemmas.Str.{encodes-append, encodes-chars, chars_from_encodes, IsUtf8-past_char, chars_past_char, chars-nil}
use Rattle.unicode_segmentation.specs.Grapheme.{graphemes}
use Rattle.lit_model.specs.Initials.{is_nonempty, char_words, given_words, first_grapheme, initials_of, initials_separator, word_initials, all_initials}
use Rattle.lit_model.specs.Shortened.{gap, word_text, before_piece, before_word, end_text, words_text}
use Rattle.lit_model.specs.declared.initials.Before.{Before}
use Rattle.lit_model.specs.declared.initials.Before.TheVariants.{Nothing, Word, Piece}
use Rattle.lit_model.proofs.Particles.{lacks}

-- ---- pieces of a word

-- the first grapheme of a text is the first of its clusters; without clusters there is none
pub first_is : (piece g : List ℕ) (gs : List (List ℕ)) → graphemes true piece ≡ g ∷ gs → first_grapheme piece ≡ Some g
first_is piece g gs h = ap (λ (l : List (List ℕ)). slice_get l 0) h

pub first_none : (piece : List ℕ) → graphemes true piece ≡ [] → first_grapheme piece ≡ None
first_none piece h = ap (λ (l : List (List ℕ)). slice_get l 0) h

module _ (text : List ℕ) (hyphen : Bool) where
  -- the text of a piece with an initial is the gap and the initial
  pub piece_written : (before : Before) (piece g : List ℕ) → first_grapheme piece ≡ Some g → gap text hyphen before ++ g ≡ word_text text hyphen before (option_to_list (first_grapheme piece))
  piece_written before piece g h = ap (λ (r : List ℕ). gap text hyphen before ++ r) (sym (append-nil g)) ∙ ap (λ (o : Option (List ℕ)). word_text text hyphen before (option_to_list o)) (sym h)

  -- the text of a word's initials, one piece at a time
  pub word_step : (before : Before) (o : Option (List ℕ)) (gs : List (List ℕ)) → word_text text hyphen before (option_to_list o) ++ word_text text hyphen (before_piece before (option_to_list o)) gs ≡ word_text text hyphen before (cons_option o gs)
  word_step before None gs = refl
  word_step before (Some g) gs = simp (append_assoc, append-nil)

pub place_step : (before : Before) (o : Option (List ℕ)) (gs : List (List ℕ)) → before_piece (before_piece before (option_to_list o)) gs ≡ before_piece before (cons_option o gs)
place_step before None gs = refl
place_step before (Some g) [] = refl
place_step before (Some g) (h ∷ hs) = refl

pub initials_more : (word piece after : List ℕ) → word ≡ piece ++ (45 ∷ after) → ((i : ℕ) → i < length piece → get_or piece i 0 ≢ 45) → initials_of word ≡ cons_option (first_grapheme piece) (initials_of after)
initials_more word piece after e h = ap initials_of e ∙ ap (filter_map first_grapheme) (slice_split_at (λ b. eqb b 45) piece 45 after (lacks 45 piece h) refl)

pub initials_one : (word : List ℕ) → ((i : ℕ) → i < length word → get_or word i 0 ≢ 45) → initials_of word ≡ cons_option (first_grapheme word) []
initials_one word h = ap (filter_map first_grapheme) (slice_split_none (λ b. eqb b 45) word (lacks 45 word h))

-- ---- words of a text

none_all : (p : ℕ → Bool) (cs : List ℕ) → NonePass p cs → All (λ c. p c ≡ false) cs
none_all p [] h = All-nil (λ c. p c ≡ false)
none_all p (c ∷ cs) h = All-cons (λ c. p c ≡ false) c cs h.0 (none_all p cs h.1)

space_true : (b : Bool) → not b ≡ false → b ≡ true
space_true true h = refl
space_true false h = cc

skip_space : (c : ℕ) (cs : List ℕ) → is_whitespace c ≡ true → char_words (c ∷ cs) ≡ char_words cs
skip_space c cs h = ap (λ b. filter is_nonempty (cond b ([] ∷ slice_split is_whitespace cs) (onto_first c (slice_split is_whitespace cs)))) h

skip_gap : (cs ds : List ℕ) → NonePass is_not_whitespace cs → char_words (cs ++ ds) ≡ char_words ds
skip_gap [] ds h = refl
skip_gap (c ∷ cs) ds h = skip_space c (cs ++ ds) (space_true (is_whitespace c) h.0) ∙ skip_gap cs ds h.1

abbrev StartsWithSpace : List ℕ → Type 0
StartsWithSpace [] = ⊤
StartsWithSpace (c ∷ cs) = is_whitespace c ≡ true

kept_word : (w : List ℕ) (ws : List (List ℕ)) → 0 < length w → filter is_nonempty (w ∷ ws) ≡ w ∷ filter is_nonempty ws
kept_word [] ws h = absurd (omega (arith, h))
kept_word (c ∷ cs) ws h = refl

take_word : (w ds : List ℕ) → NonePass is_whitespace w → 0 < length w → StartsWithSpace ds → char_words (w ++ ds) ≡ w ∷ char_words ds
take_word w [] none some starts = ap char_words (append-nil w) ∙ ap (filter is_nonempty) (slice_split_none is_whitespace w (none_all is_whitespace w none)) ∙ kept_word w [] some
take_word w (d ∷ ds) none some starts = ap (filter is_nonempty) (slice_split_at is_whitespace w d ds (none_all is_whitespace w none) starts) ∙ kept_word w (slice_split is_whitespace ds) some ∙ ap (λ (l : List (List ℕ)). w ∷ l) (sym (skip_space d ds starts))

-- the bytes after some characters of a text are UTF-8 too
after_chars : (cs bs rest : List ℕ) → IsUtf8 bs → bs ≡ encode_utf8_all cs ++ rest → IsUtf8 rest
after_chars [] bs rest u e = subst IsUtf8 e u
after_chars (c ∷ cs) bs rest u e =
    let split : bs ≡ encode_utf8 c ++ (encode_utf8_all cs ++ rest) = e ∙ append_assoc (encode_utf8 c) (encode_utf8_all cs) rest in
    after_chars cs (encode_utf8_all cs ++ rest) rest (IsUtf8-past_char bs (encode_utf8_all cs ++ rest) c u split) refl

encodes_three : (xs bs cs : List ℕ) → encode_utf8_all (xs ++ (bs ++ cs)) ≡ encode_utf8_all xs ++ (encode_utf8_all bs ++ encode_utf8_all cs)
encodes_three xs bs cs = encodes-append xs (bs ++ cs) ∙ ap (λ (x : List ℕ). encode_utf8_all xs ++ x) (encodes-append bs cs)

longer : (cs : List ℕ) → 0 < length (encode_utf8_all cs) → 0 < length cs
longer [] h = absurd (omega (arith, h))
longer (c ∷ cs) h = omega arith

starts_with_space : (bs more : List ℕ) → IsUtf8 bs → EmptyOrStartsWithPassing is_whitespace bs more → StartsWithSpace (chars bs)
starts_with_space [] more u h = let empty : chars [] ≡ [] = chars-nil in subst StartsWithSpace (sym empty) tt
starts_with_space (b ∷ bs) more u h =
    let first = h (omega arith) in
    subst StartsWithSpace (sym (chars_past_char (b ∷ bs) more first.0 u first.2)) first.1

-- the next word of a text, after a gap of white space
pub words_more : (rest gap w more : List ℕ) → IsUtf8 rest → rest ≡ gap ++ (w ++ more) → 0 < length w → NoCharPasses is_not_whitespace gap → NoCharPasses is_whitespace w → (x : List ℕ) × EmptyOrStartsWithPassing is_whitespace more x → (given_words rest ≡ w ∷ given_words more) × IsUtf8 more
words_more rest gap w more u e some space word starts =
    let before : encode_utf8_all (space.0 ++ word.0) ≡ gap ++ w = encodes-append space.0 word.0 ∙ ap (λ (x : List ℕ). x ++ encode_utf8_all word.0) space.1 ∙ ap (λ (x : List ℕ). gap ++ x) word.1 in
    let split : rest ≡ encode_utf8_all (space.0 ++ word.0) ++ more = e ∙ sym (append_assoc gap w more) ∙ ap (λ (x : List ℕ). x ++ more) (sym before) in
    let text : IsUtf8 more = after_chars (space.0 ++ word.0) rest more u split in
    let all : chars rest ≡ space.0 ++ (word.0 ++ chars more) = sym (chars_from_encodes (space.0 ++ (word.0 ++ chars more)) rest u (encodes_three space.0 word.0 (chars more) ∙ ap (λ (x : List ℕ). x ++ (encode_utf8_all word.0 ++ encode_utf8_all (chars more))) space.1 ∙ ap (λ (x : List ℕ). gap ++ (x ++ encode_utf8_all (chars more))) word.1 ∙ ap (λ (x : List ℕ). gap ++ (w ++ x)) (encodes-chars more text) ∙ sym e)) in
    let long : 0 < length word.0 = longer word.0 (subst (λ (x : List ℕ). 0 < length x) (sym word.1) some) in
    let cut : char_words (chars rest) ≡ word.0 ∷ char_words (chars more) = ap char_words all ∙ skip_gap space.0 (word.0 ++ chars more) space.2 ∙ take_word word.0 (chars more) word.2 long (starts_with_space more starts.0 text starts.1) in
    (ap (map encode_utf8_all) cut ∙ ap (λ (x : List ℕ). x ∷ given_words more) word.1, text)

-- a text of white space has no words
pub words_none : (rest : List ℕ) → IsUtf8 rest → NoCharPasses is_not_whitespace rest → given_words rest ≡ []
words_none rest u space =
    let all : chars rest ≡ space.0 = sym (chars_from_encodes space.0 rest u space.1) in
    ap (λ (cs : List ℕ). map encode_utf8_all (char_words cs)) (all ∙ sym (append-nil space.0)) ∙ ap (map encode_utf8_all) (skip_gap space.0 [] space.2)

-- ---- a loop over the pieces of a word

option_alone : (o : Option (List ℕ)) → cons_option o [] ≡ option_to_list o
option_alone None = refl
option_alone (Some g) = refl

-- the invariants still hold after one more piece
pub next_piece : (text : List ℕ) (hyphen : Bool) (so_far target : List ℕ) (before place : Before) (o : Option (List ℕ)) (all gs : List (List ℕ)) → all ≡ cons_option o gs → place ≡ before_piece before (option_to_list o) → so_far ++ word_text text hyphen before all ≡ target → (so_far ++ word_text text hyphen before (option_to_list o)) ++ word_text text hyphen place gs ≡ target
next_piece text hyphen so_far target before place o all gs split at whole =
    append_assoc so_far (word_text text hyphen before (option_to_list o)) (word_text text hyphen place gs)
    ∙ ap (λ (b : Before). so_far ++ (word_text text hyphen before (option_to_list o) ++ word_text text hyphen b gs)) at
    ∙ ap (λ (x : List ℕ). so_far ++ x) (word_step text hyphen before o gs ∙ ap (word_text text hyphen before) (sym split))
    ∙ whole

pub next_place : (before place target : Before) (o : Option (List ℕ)) (all gs : List (List ℕ)) → all ≡ cons_option o gs → place ≡ before_piece before (option_to_list o) → before_piece before all ≡ target → before_piece place gs ≡ target
next_place before place target o all gs split at whole = ap (λ (b : Before). before_piece b gs) at ∙ place_step before o gs ∙ ap (before_piece before) (sym split) ∙ whole

-- after the last piece, the text and the position are those of the whole word
pub last_piece : (text : List ℕ) (hyphen : Bool) (so_far target : List ℕ) (before : Before) (o : Option (List ℕ)) (all : List (List ℕ)) → all ≡ cons_option o [] → so_far ++ word_text text hyphen before all ≡ target → so_far ++ word_text text hyphen before (option_to_list o) ≡ target
last_piece text hyphen so_far target before o all split whole = ap (λ (gs : List (List ℕ)). so_far ++ word_text text hyphen before gs) (sym (split ∙ option_alone o)) ∙ whole

pub last_place : (before place target : Before) (o : Option (List ℕ)) (all : List (List ℕ)) → all ≡ cons_option o [] → place ≡ before_piece before (option_to_list o) → before_piece before all ≡ target → place ≡ target
last_place before place target o all split at whole = at ∙ ap (before_piece before) (sym (split ∙ option_alone o)) ∙ whole

-- ---- a loop over the words of a name

-- the invariant still holds after one more word
pub next_word : (text : List ℕ) (hyphen : Bool) (so_far target : List ℕ) (before place : Before) (w : List ℕ) (all more : List (List ℕ)) → all ≡ w ∷ more → place ≡ before_word (before_piece before (initials_of w)) → so_far ++ words_text text hyphen before (map initials_of all) ≡ target → (so_far ++ word_text text hyphen before (initials_of w)) ++ words_text text hyphen place (map initials_of more) ≡ target
next_word text hyphen so_far target before place w all more split at whole =
    append_assoc so_far (word_text text hyphen before (initials_of w)) (words_text text hyphen place (map initials_of more))
    ∙ ap (λ (b : Before). so_far ++ (word_text text hyphen before (initials_of w) ++ words_text text hyphen b (map initials_of more))) at
    ∙ ap (λ (ws : List (List ℕ)). so_far ++ words_text text hyphen before (map initials_of ws)) (sym split)
    ∙ whole

-- after the last word, the text so far and the text at the end are the whole text
pub last_word : (text : List ℕ) (hyphen : Bool) (so_far target : List ℕ) (before : Before) (all : List (List ℕ)) → all ≡ [] → so_far ++ words_text text hyphen before (map initials_of all) ≡ target → so_far ++ end_text text before ≡ target
last_word text hyphen so_far target before all none whole = ap (λ (ws : List (List ℕ)). so_far ++ words_text text hyphen before (map initials_of ws)) (sym none) ∙ whole

-- ---- the initials, as they are written and as they are defined

-- the initials of a word are its first one and the text of those after it
later : (text : List ℕ) (hyphen : Bool) (g : List ℕ) (gs : List (List ℕ)) → g ++ word_text text hyphen Piece gs ≡ word_initials text hyphen (g ∷ gs)
later text hyphen g [] = append-nil g
later text hyphen g (h ∷ gs) = ap (λ (x : List ℕ). g ++ (initials_separator text hyphen ++ x)) (later text hyphen h gs)

module _ (text : List ℕ) (hyphen : Bool) where
  -- the text after a word that has initials, given the later words that have some
  abbrev behind : List (List (List ℕ)) → List ℕ
  behind [] = trim_end text
  behind (w ∷ ws) = text ++ all_initials text hyphen (w ∷ ws)

  first_of_all : (w : List (List ℕ)) (ws : List (List (List ℕ))) → word_initials text hyphen w ++ behind ws ≡ all_initials text hyphen (w ∷ ws)
  first_of_all w [] = refl
  first_of_all w (v ∷ ws) = refl

  written_behind : (ws : List (List (List ℕ))) → words_text text hyphen Word ws ≡ behind (filter is_nonempty ws)
  written_behind [] = refl
  written_behind ([] ∷ ws) = written_behind ws
  written_behind ((g ∷ gs) ∷ ws) =
      append_assoc text (g ++ word_text text hyphen Piece gs) (words_text text hyphen Word ws)
      ∙ ap (λ (x : List ℕ). text ++ (x ++ words_text text hyphen Word ws)) (later text hyphen g gs)
      ∙ ap (λ (x : List ℕ). text ++ (word_initials text hyphen (g ∷ gs) ++ x)) (written_behind ws)
      ∙ ap (λ (x : List ℕ). text ++ x) (first_of_all (g ∷ gs) (filter is_nonempty ws))

  pub written_initials : (ws : List (List (List ℕ))) → words_text text hyphen Nothing ws ≡ all_initials text hyphen (filter is_nonempty ws)
  written_initials [] = refl
  written_initials ([] ∷ ws) = written_initials ws
  written_initials ((g ∷ gs) ∷ ws) =
      ap (λ (x : List ℕ). x ++ words_text text hyphen Word ws) (later text hyphen g gs)
      ∙ ap (λ (x : List ℕ). word_initials text hyphen (g ∷ gs) ++ x) (written_behind ws)
      ∙ first_of_all (g ∷ gs) (filter is_nonempty ws)
