-- The rest of a text after a front.
use Rattle.std.proofs.Common.{◌≡◌, inl, inr, ℕ, true, List, [], ◌∷◌, ◌++◌, drop, refl, sym, ap, ◌∙◌}
use Rattle.std.specs.Prelude.{Option, Some, None, MatchOption, unwrap_or, ◌==◌}
use Rattle.std.specs.Str.Pattern.{FindsTextPrefix, StripsPrefix}
use Rattle.std.proofs.lemmas.Bool.{eq-eqb}
use Rattle.std.proofs.lemmas.Bool.Decides.{eqb_tells}
use denote.Ref.{Bor}
use Rattle.csl_tree.specs.Marks.{without, after, rest_found}

-- the rest of a front and a text is the text
pub without-append : (xs more : List ℕ) → without xs (xs ++ more) ≡ Some more
without-append [] more = refl
without-append (x ∷ xs) more = let same : (x == x) ≡ true = eq-eqb x x refl in rw same (without-append xs more)

-- a text with a rest is the front, then the rest
pub without-is : (xs bs more : List ℕ) → without xs bs ≡ Some more → bs ≡ xs ++ more
without-is [] bs more h = cc
without-is (x ∷ xs) [] more h = absurd (cc h)
without-is (x ∷ xs) (b ∷ bs) more h =
    elim (eqb_tells b x) [
      | inl w ↦ let e : without xs bs ≡ Some more = rw w.0 at h in let more_is = without-is xs bs more e in let same : b ≡ x = w.1 in cc
      | inr w ↦ let e : None ≡ Some more = rw w.0 at h in absurd (cc e)
    ]

-- the result of `strip_prefix`
pub stripped : (front bs : List ℕ) (r : Option (Bor (List ℕ))) → MatchOption r (FindsTextPrefix front bs None) (λ x. StripsPrefix (FindsTextPrefix front) bs x.now) → rest_found r ≡ without front bs
stripped front bs None h =
    elim (without front bs) as (λ o. without front bs ≡ o → None ≡ o) [
      | None ↦ λ e. refl
      | Some more ↦ λ e. absurd (h more (without-is front bs more e))
    ] refl
stripped front bs (Some x) h =
    let whole : bs ≡ front ++ drop h.0 bs = h.1.1 in
    let rest : x.now ≡ drop h.0 bs = h.2 in
    ap Some rest ∙ sym (without-append front (drop h.0 bs)) ∙ ap (without front) (sym whole)

pub stripped_or_all : (front : List ℕ) (text : Bor (List ℕ)) (r : Option (Bor (List ℕ))) → MatchOption r (FindsTextPrefix front text.now None) (λ x. StripsPrefix (FindsTextPrefix front) text.now x.now) → (unwrap_or r text).now ≡ after front text.now
stripped_or_all front text None h = ap (λ (o : Option (List ℕ)). unwrap_or o text.now) (stripped front text.now None h)
stripped_or_all front text (Some x) h = ap (λ (o : Option (List ℕ)). unwrap_or o text.now) (stripped front text.now (Some x) h)
