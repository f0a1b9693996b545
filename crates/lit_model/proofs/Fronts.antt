-- The longest front of a text whose characters pass a test.
use Rattle.std.proofs.Common.{◌≡◌, ℕ, ◌+◌, ◌-◌, ◌≤◌, Bool, true, false, List, [], ◌∷◌, ◌++◌, length, take, refl, sym, ap, ◌∙◌, append_assoc, arith}
use Rattle.std.proofs.lemmas.List.{take_at, length-append}
use Rattle.lit_model.specs.NumericParse.{longest_prefix, after_longest_prefix}

-- the text before the rest grows by the piece that is cut from the rest
pub take_grown : (text rest next e : List ℕ) → length rest ≤ length text → text ≡ take (length text - length rest) text ++ rest → rest ≡ e ++ next → take (length text - length next) text ≡ take (length text - length rest) text ++ e
take_grown text rest next e le whole split =
    let f = take (length text - length rest) text in
    let regrouped : text ≡ (f ++ e) ++ next = whole ∙ ap (λ (x : List ℕ). f ++ x) split ∙ sym (append_assoc f e next) in
    let lengths : length text ≡ length (f ++ e) + length next = ap length regrouped ∙ length-append (f ++ e) next in
    let here : length (f ++ e) ≡ length text - length next = omega arith in
    let cut : take (length text - length next) ((f ++ e) ++ next) ≡ f ++ e = take_at (f ++ e) next (length text - length next) here in
    ap (take (length text - length next)) regrouped ∙ cut

pub whole_grown : (text rest next e : List ℕ) → length rest ≤ length text → text ≡ take (length text - length rest) text ++ rest → rest ≡ e ++ next → text ≡ take (length text - length next) text ++ next
whole_grown text rest next e le whole split =
    let f = take (length text - length rest) text in
    let regrouped : text ≡ (f ++ e) ++ next = whole ∙ ap (λ (x : List ℕ). f ++ x) split ∙ sym (append_assoc f e next) in
    regrouped ∙ ap (λ (x : List ℕ). x ++ next) (sym (take_grown text rest next e le whole split))

-- the longest front, and the characters after it, by whether the first character passes
pub front-cons_yes : (p : ℕ → Bool) (c : ℕ) (cs : List ℕ) → p c ≡ true → longest_prefix p (c ∷ cs) ≡ c ∷ longest_prefix p cs
front-cons_yes p c cs h = rw h refl

pub after-cons_yes : (p : ℕ → Bool) (c : ℕ) (cs : List ℕ) → p c ≡ true → after_longest_prefix p (c ∷ cs) ≡ after_longest_prefix p cs
after-cons_yes p c cs h = rw h refl

pub front-cons_no : (p : ℕ → Bool) (c : ℕ) (cs : List ℕ) → p c ≡ false → longest_prefix p (c ∷ cs) ≡ []
front-cons_no p c cs h = rw h refl

pub after-cons_no : (p : ℕ → Bool) (c : ℕ) (cs : List ℕ) → p c ≡ false → after_longest_prefix p (c ∷ cs) ≡ c ∷ cs
after-cons_no p c cs h = rw h refl
