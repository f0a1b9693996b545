-- The letters and digits of letters in a row.
use Rattle.std.proofs.Common.{◌≡◌, ◌∙◌, ℕ, Bool, true, false, List, [], ◌∷◌, ◌++◌, Option, None, Some, map, refl, sym, ap, append_assoc, arith}
use Rattle.std.specs.List.{flat_map, filter}
use Rattle.std.proofs.lemmas.List.{append-nil, map-append}
use Rattle.std.proofs.lemmas.Grind.{flat_map-append}
use Rattle.csl_finish.specs.declared.letters.Letter.{Letter}
use Rattle.csl_finish.specs.Letters.{is_word_char}
use Rattle.csl_finish.specs.Letters.{placed, word, word_of, words}

pub words-append : (ks ls : List Letter) → words (ks ++ ls) ≡ words ks ++ words ls
words-append ks ls = flat_map-append word_of ks ls

pub words_push : (ls : List Letter) (l : Letter) → words (ls ++ l ∷ []) ≡ words ls ++ word_of l
words_push ls l = flat_map-append word_of ls (l ∷ []) ∙ ap (λ ws. words ls ++ ws) (append-nil (word_of l))

pub placed-append : (i : Option ℕ) (cs ds : List ℕ) → placed i (cs ++ ds) ≡ placed i cs ++ placed i ds
placed-append None cs ds = refl
placed-append (Some k) cs ds = map-append (λ c. (k, c)) cs ds

by_test : (b : Bool) (c : ℕ) (cs : List ℕ) → is_word_char c ≡ b → filter is_word_char (c ∷ cs) ≡ word c ++ filter is_word_char cs
by_test true c cs e = rw e refl
by_test false c cs e = rw e refl

filter_cons : (c : ℕ) (cs : List ℕ) → filter is_word_char (c ∷ cs) ≡ word c ++ filter is_word_char cs
filter_cons c cs = by_test (is_word_char c) c cs refl

pub filter_push : (cs : List ℕ) (c : ℕ) → filter is_word_char (cs ++ c ∷ []) ≡ filter is_word_char cs ++ word c
filter_push [] c = filter_cons c [] ∙ append-nil (word c)
filter_push (b ∷ cs) c =
    filter_cons b (cs ++ c ∷ []) ∙ ap (λ ds. word b ++ ds) (filter_push cs c)
    ∙ sym (append_assoc (word b) (filter is_word_char cs) (word c))
    ∙ ap (λ ds. ds ++ word c) (sym (filter_cons b cs))

-- a letter that is appended to letters
pub pushed : (ls ms : List Letter) (base : List (ℕ × ℕ)) (i : Option ℕ) (cs : List ℕ) (l : Letter) → ms ≡ ls ++ l ∷ [] → l.text ≡ i → words ls ≡ base ++ placed i (filter is_word_char cs) → words ms ≡ base ++ placed i (filter is_word_char (cs ++ l.value ∷ []))
pushed ls ms base i cs l e t h =
    ap words e ∙ words_push ls l ∙ ap (λ ws. ws ++ word_of l) h
    ∙ append_assoc base (placed i (filter is_word_char cs)) (word_of l)
    ∙ ap (λ j. base ++ (placed i (filter is_word_char cs) ++ placed j (word l.value))) t
    ∙ ap (λ ws. base ++ ws) (sym (placed-append i (filter is_word_char cs) (word l.value)))
    ∙ ap (λ ds. base ++ placed i ds) (sym (filter_push cs l.value))
