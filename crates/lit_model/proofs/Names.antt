-- Lemmas on the parts of names.
use Rattle.std.proofs.Common.{◌≡◌, ℕ, ◌<◌, Bool, true, false, not, ◌&&◌, ◌||◌, cond, ltb, List, [], ◌∷◌, ◌++◌, length, drop, Some, None, eqb, refl, sym, ap, subst, ◌∙◌, arith, chars}
use Rattle.std.specs.Prelude.{filter}
use Rattle.std.specs.List.{list_any, list_all, starts_with}
use Rattle.std.specs.Str.Pattern.{FindsTextPrefix, StripsPrefix}
use Rattle.std.proofs.lemmas.Bool.Decides.{nat_tests}
use Rattle.std.proofs.lemmas.List.Folds.{list_all-append}
use Rattle.std.proofs.lemmas.Str.Pattern.{starts_text}
use Rattle.std.specs.Prelude.{IsCharBoundary}
use Rattle.unicode.specs.Binary.{is_alphabetic}
use Rattle.unicode.specs.Script.{script}
use Rattle.lit_model.specs.Name.{is_cjk_script, letters, are_cjk, strip_article}

pub trans_to : (r m t : Bool) → t ≡ m → r ≡ m → r ≡ t
trans_to r m t e h = h ∙ sym e

-- ---- tests of the elements that pass another test

module _ {X : Type 0} (p q : X → Bool) where
  some_kept : (x : X) (b r : Bool) (fs : List X) → ltb 0 (length fs) ≡ r → ltb 0 (length (cond b (x ∷ fs) fs)) ≡ (b || r)
  some_kept x true r fs h = grind (arith, nat_tests)
  some_kept x false r fs h = h

  -- some element is kept exactly if some element passes
  kept-list_any : (xs : List X) → ltb 0 (length (filter p xs)) ≡ list_any p xs
  kept-list_any [] = refl
  kept-list_any (x ∷ xs) = some_kept x (p x) _ (filter p xs) (kept-list_any xs)

  all_kept : (x : X) (b r : Bool) (fs : List X) → list_all q fs ≡ r → list_all q (cond b (x ∷ fs) fs) ≡ ((not b || q x) && r)
  all_kept x true r fs h = ap (λ t. q x && t) h
  all_kept x false r fs h = h

  -- each kept element passes q exactly if each element that passes p does
  kept-list_all : (xs : List X) → list_all q (filter p xs) ≡ list_all (λ x. not (p x) || q x) xs
  kept-list_all [] = refl
  kept-list_all (x ∷ xs) = all_kept x (p x) _ (filter p xs) (kept-list_all xs)

some-append : {X : Type 0} (xs ys : List X) → ltb 0 (length (xs ++ ys)) ≡ (ltb 0 (length xs) || ltb 0 (length ys))
some-append [] ys = refl
some-append (x ∷ xs) ys = grind (arith, nat_tests)

-- whether the letters of two texts are CJK, by a test of each character
pub are_cjk-letters : (name given : List ℕ) → are_cjk (letters name ++ letters given) ≡ ((list_any is_alphabetic (chars name) || list_any is_alphabetic (chars given)) && (list_all (λ c. not (is_alphabetic c) || is_cjk_script (script c)) (chars name) && list_all (λ c. not (is_alphabetic c) || is_cjk_script (script c)) (chars given)))
are_cjk-letters name given =
    let q : ℕ → Bool = λ c. is_cjk_script (script c) in
    let a = some-append (letters name) (letters given) in
    let b = list_all-append q (letters name) (letters given) in
    let n = kept-list_any is_alphabetic q (chars name) in
    let g = kept-list_any is_alphabetic q (chars given) in
    let m = kept-list_all is_alphabetic q (chars name) in
    let h = kept-list_all is_alphabetic q (chars given) in
    cc

-- ---- articles

-- a text that does not begin with the article loses nothing
pub without_lacking : (a s : List ℕ) → FindsTextPrefix a s None → None ≡ strip_article a s
without_lacking a s h = ap (λ b. cond (b && ltb (length a) (length s)) (Some (drop (length a) s)) None) (starts_text false a s h)

module _ (a s x : List ℕ) (strips : StripsPrefix (FindsTextPrefix a) s x) where
  begins : starts_with eqb s a ≡ true
  begins = sym (starts_text true a s (strips.0, strips.1, subst (λ i. IsCharBoundary s i) (sym strips.1.0) strips.1.2))

  -- a text that is the article alone loses nothing
  pub without_alone : length x ≡ 0 → None ≡ strip_article a s
  without_alone h =
      let cut : ltb (length a) (length s) ≡ false = grind (arith, nat_tests, strips.3, strips.1.0) in
      let none : strip_article a s ≡ None = ap (λ b. cond (b && ltb (length a) (length s)) (Some (drop (length a) s)) None) begins ∙ ap (λ b. cond b (Some (drop (length a) s)) None) cut in
      sym none

  -- any other text that begins with the article loses it
  pub without_more : 0 < length x → Some x ≡ strip_article a s
  without_more h =
      let more : ltb (length a) (length s) ≡ true = grind (arith, nat_tests, strips.3, strips.1.0) in
      let some : strip_article a s ≡ Some (drop (length a) s) = ap (λ b. cond (b && ltb (length a) (length s)) (Some (drop (length a) s)) None) begins ∙ ap (λ b. cond b (Some (drop (length a) s)) None) more in
      ap Some (strips.2 ∙ ap (λ i. drop i s) strips.1.0) ∙ sym some
