-- Fronts of characters of one class, and the characters after them.
use Rattle.std.proofs.Common.{◌≡◌, ℕ, suc, ◌+◌, ◌<◌, Bool, true, false, cond, List, [], ◌∷◌, ◌++◌, length, Option, Some, None, count_by, refl, inl, inr, ap, arith}
use Rattle.std.specs.Prelude.{⊤, ◌⊎◌}
use Rattle.std.proofs.lemmas.List.Sums.{sum_by-append}
use Rattle.lit_model.specs.Numeric.{AllChars}
use Rattle.lit_model.specs.NumericParse.{◌>>=◌, longest_prefix, after_longest_prefix}

-- if a bind returns a value, so does its first step
pub bind_some : {A B : Type 0} (o : Option A) (f : A → Option B) (y : B) → (o >>= f) ≡ Some y → (x : A) × (o ≡ Some x) × (f x ≡ Some y)
bind_some None f y h = absurd cc
bind_some (Some x) f y h = (x, refl, h)

pub some_is : {A : Type 0} (x y : A) → Some x ≡ Some y → x ≡ y
some_is x y h = cc

-- which branch a conditional took
pub chosen : {A : Type 0} (b : Bool) (x y z : A) → cond b x y ≡ z → ((b ≡ true) × (x ≡ z)) ⊎ ((b ≡ false) × (y ≡ z))
chosen true x y z h = inl (refl, h)
chosen false x y z h = inr (refl, h)

-- ---- a front and the characters after it

front_after_case : (p : ℕ → Bool) (c : ℕ) (cs : List ℕ) (b : Bool) → cs ≡ longest_prefix p cs ++ after_longest_prefix p cs → c ∷ cs ≡ cond b (c ∷ longest_prefix p cs) [] ++ cond b (after_longest_prefix p cs) (c ∷ cs)
front_after_case p c cs true rest = ap (λ (x : List ℕ). c ∷ x) rest
front_after_case p c cs false rest = refl

-- together they are all the characters
pub front_after : (p : ℕ → Bool) (cs : List ℕ) → cs ≡ longest_prefix p cs ++ after_longest_prefix p cs
front_after p [] = refl
front_after p (c ∷ cs) = front_after_case p c cs (p c) (front_after p cs)

-- the characters are empty, or the first one fails the test
abbrev pub Stops : (ℕ → Bool) → List ℕ → Type 0
Stops p [] = ⊤
Stops p (c ∷ cs) = p c ≡ false

pub front_stops : (p : ℕ → Bool) (ys : List ℕ) → Stops p ys → (longest_prefix p ys ≡ []) × (after_longest_prefix p ys ≡ ys)
front_stops p [] h = (refl, refl)
front_stops p (y ∷ ys) h = (rw h refl, rw h refl)

-- a front of passing characters is the longest if no passing character follows
pub front_is : (p : ℕ → Bool) (xs ys : List ℕ) → AllChars p xs → Stops p ys → longest_prefix p (xs ++ ys) ≡ xs
front_is p [] ys only stops = (front_stops p ys stops).0
front_is p (x ∷ xs) ys only stops = let here : p x ≡ true = only.0 in rw here (ap (λ (z : List ℕ). x ∷ z) (front_is p xs ys only.1 stops))

pub after_is : (p : ℕ → Bool) (xs ys : List ℕ) → AllChars p xs → Stops p ys → after_longest_prefix p (xs ++ ys) ≡ ys
after_is p [] ys only stops = (front_stops p ys stops).1
after_is p (x ∷ xs) ys only stops = let here : p x ≡ true = only.0 in rw here (after_is p xs ys only.1 stops)

-- characters of another class end a front
pub stops_by : (p q : ℕ → Bool) (xs ys : List ℕ) → ((c : ℕ) → q c ≡ true → p c ≡ false) → AllChars q xs → Stops p ys → Stops p (xs ++ ys)
stops_by p q [] ys apart only stops = stops
stops_by p q (x ∷ xs) ys apart only stops = apart x only.0

pub stops_first : (p q : ℕ → Bool) (xs ys : List ℕ) → ((c : ℕ) → q c ≡ true → p c ≡ false) → AllChars q xs → 0 < length xs → Stops p (xs ++ ys)
stops_first p q [] ys apart only some = absurd (omega arith)
stops_first p q (x ∷ xs) ys apart only some = apart x only.0

-- ---- the number of characters that pass a test

pub count_none : (p q : ℕ → Bool) (xs : List ℕ) → ((c : ℕ) → q c ≡ true → p c ≡ false) → AllChars q xs → count_by p xs ≡ 0
count_none p q [] apart only = refl
count_none p q (x ∷ xs) apart only = let here : p x ≡ false = apart x only.0 in let rest = count_none p q xs apart only.1 in rw here (omega (arith, rest))

pub count_append : (p : ℕ → Bool) (xs ys : List ℕ) → count_by p (xs ++ ys) ≡ count_by p xs + count_by p ys
count_append p xs ys = sum_by-append (λ x. cond (p x) 1 0) xs ys

pub count_yes : (p : ℕ → Bool) (c : ℕ) (cs : List ℕ) → p c ≡ true → count_by p (c ∷ cs) ≡ suc (count_by p cs)
count_yes p c cs h = let one : count_by p (c ∷ []) ≡ 1 = rw h refl in omega (arith, count_append p (c ∷ []) cs, one)
