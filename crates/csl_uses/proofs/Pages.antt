-- The lines of a page, one after another.
use Rattle.std.proofs.Common.{◌≡◌, ◌<◌, ◌+◌, ℕ, List, [], ◌∷◌, ◌++◌, get_or, take, length, subst, sym, arith}
use Rattle.std.specs.List.{AllZip, enumerate_from, flat_map}
use Rattle.std.proofs.lemmas.Grind.{common_steps}
use Rattle.csl.specs.Entry.Answers.{Answers}
use Rattle.csl.specs.Literature.WebAddress.{IsWebAddress}
use Rattle.csl.specs.Style.Style.{StyleParts}
use Rattle.csl.specs.Tree.Tokens.{Token}
use Rattle.csl_uses.specs.Page.{AreWebLines, IsLineWith, entry_html}

-- a text gains three others
pub in_element : (text start line end one two three : List ℕ) → one ≡ text ++ start → two ≡ one ++ line → three ≡ two ++ end → three ≡ text ++ (start ++ (line ++ end))
in_element text start line end one two three a b c = grind (arith, common_steps, a, b, c)

-- a text gains what is made of one more
one_more : {L : Type 0} (f : L → List ℕ) (lines : List L) (line : L) (start before after : List ℕ) → before ≡ start ++ flat_map f lines → after ≡ before ++ f line → after ≡ start ++ flat_map f (lines ++ line ∷ [])
one_more f lines line start before after was now = grind (arith, common_steps, was, now)

-- a fact of elements with their places and of what is made of them holds of one more
zip_more : {T L : Type 0} (R : ℕ × T → L → Type 0) (n : ℕ) (works : List T) (lines : List L) (work : T) (line : L) → AllZip R (enumerate_from n works) lines → R (n + length works, work) line → AllZip R (enumerate_from n (works ++ work ∷ [])) (lines ++ line ∷ [])
zip_more {T} R n [] [] work line h r = (subst (λ (i : ℕ). R (i, work) line) (omega arith) r, tt)
zip_more {T} R n (x ∷ xs) (y ∷ ys) work line h r = (h.0, zip_more R (n + 1) xs ys work line h.1 (subst (λ (i : ℕ). R (i, work) line) (omega arith) r))
zip_more R n [] (y ∷ ys) work line h r = absurd h
zip_more R n (x ∷ xs) [] work line h r = absurd h

-- the works up to the next
next_work : {T : Type 0} (works : List T) (place : ℕ) (work : T) → place < length works → work ≡ get_or works place work → (length (take place works) ≡ place) × (take (place + 1) works ≡ take place works ++ work ∷ [])
next_work works place work lt at = (grind (arith, common_steps, lt), grind (arith, common_steps, lt, at))

-- the page gains the line of the next work
pub next_line : {T : Type 0} (answers : T → Answers) (style : StyleParts) (works : List T) (place : ℕ) (work : T) (lines : List (List Token)) (line : List Token) (start before after : List ℕ) → place < length works → work ≡ get_or works place work
    → AreWebLines answers style (take place works) lines → IsLineWith IsWebAddress style place (answers work) line → before ≡ start ++ flat_map entry_html lines → after ≡ before ++ entry_html line
    → (more : List (List Token)) × AreWebLines answers style (take (place + 1) works) more × (after ≡ start ++ flat_map entry_html more)
next_line {T} answers style works place work lines line start before after lt at are is was now =
    let next = next_work works place work lt at in
    let here : IsLineWith IsWebAddress style (0 + length (take place works)) (answers work) line = subst (λ (p : ℕ). IsLineWith IsWebAddress style p (answers work) line) (omega (arith, next.0)) is in (
      lines ++ line ∷ [],
      subst (λ (ws : List T). AreWebLines answers style ws (lines ++ line ∷ [])) (sym next.1) (zip_more (λ e l. IsLineWith IsWebAddress style e.0 (answers e.1) l) 0 (take place works) lines work line are here),
      one_more entry_html lines line start before after was now,
    )
