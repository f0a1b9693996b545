-- Text in HTML.
use Rattle.std.proofs.Common.{◌≡◌, ◌<◌, ◌≤◌, ◌⊎◌, inl, inr, ℕ, suc, true, false, cond, List, [], ◌∷◌, ◌++◌, length, take, get_or, refl, sym, ap, subst, ◌∙◌, append_assoc, length-append, arith}
use Rattle.std.specs.Prelude.{Option, Some, None, IfSome, not, ◌==◌, unwrap_or, option_map}
use Rattle.std.specs.List.{list_all}
use Rattle.std.proofs.lemmas.Bool.{eqb-true}
use Rattle.std.proofs.lemmas.Bool.Decides.{eqb_tells}
use Rattle.std.proofs.lemmas.Grind.{common_steps, flat_map-append}
use Rattle.std.proofs.lemmas.List.{append-nil, get_or-take, length-take}
use denote.Ref.{Bor}
use Rattle.csl_tree.specs.Escapes.{escape, escape_all, is_plain, is_reserved, starts_plain, ampersand, less_than, greater_than, quotation_mark}
use Rattle.csl_tree.specs.Marks.{without, reference_at, byte_at, texts_found, as_text, entity_at, or_else}
use Rattle.csl_tree.proofs.Fronts.{without-is}

-- bytes are plain if none of them is reserved
pub all_plain : (bs : List ℕ) → ((i : ℕ) → i < length bs → is_reserved (get_or bs i 0) ≡ false) → list_all is_plain bs ≡ true
all_plain [] h = refl
all_plain (b ∷ bs) h =
    let first : is_plain b ≡ true = ap not (h 0 (omega arith)) in
    let rest : list_all is_plain bs ≡ true = all_plain bs (λ i l. h (suc i) (omega arith)) in
    rw (first, rest) refl

pub plain_front : (bs : List ℕ) (n : ℕ) → ((i : ℕ) → i < n → is_reserved (get_or bs i 0) ≡ false) → list_all is_plain (take n bs) ≡ true
plain_front bs n h = all_plain (take n bs) (λ i l. let below : i < n = omega (arith, length-take n bs) in ap is_reserved (get_or-take n bs i 0 below) ∙ h i below)

-- a plain byte is escaped as itself
pub escape-plain : (b : ℕ) → is_plain b ≡ true → escape b ≡ b ∷ []
escape-plain b h =
    let p : (b == ampersand) ≡ false = grind (arith, common_steps) in
    let q : (b == less_than) ≡ false = grind (arith, common_steps) in
    let r : (b == greater_than) ≡ false = grind (arith, common_steps) in
    let s : (b == quotation_mark) ≡ false = grind (arith, common_steps) in
    rw (p, q, r, s) refl

plain_byte : (b : ℕ) (more : List ℕ) → is_plain b ≡ true → byte_at (escape b ++ more) ≡ Some (b, more)
plain_byte b more h = let one = escape-plain b h in rw one (rw h refl)

-- a plain text is escaped as itself
pub escaped-plain : (bs : List ℕ) → list_all is_plain bs ≡ true → escape_all bs ≡ bs
escaped-plain [] h = refl
escaped-plain (b ∷ bs) h =
    let one : is_plain b ≡ true = grind (arith, common_steps) in
    let rest : list_all is_plain bs ≡ true = grind (arith, common_steps) in
    (λ i. escape-plain b one i ++ escaped-plain bs rest i)

-- ---- the reference that HTML begins with

pub or_else-is : {A : Type 0} (o r : Option A) (x : A) → or_else o r ≡ Some x → (o ≡ Some x) ⊎ (r ≡ Some x)
or_else-is None r x h = inr h
or_else-is (Some y) r x h = inl h

pub same_pair : {A B : Type 0} (a c : A) (b d : B) → ◌≡◌ {A = Option (A × B)} (Some (a, b)) (Some (c, d)) → (a ≡ c) × (b ≡ d)
same_pair {A} {B} a c b d h = (ap (λ (o : Option (A × B)). (unwrap_or o (a, b)).0) h, ap (λ (o : Option (A × B)). (unwrap_or o (a, b)).1) h)

beside-is : {A : Type 0} (b c : A) (o : Option (List ℕ)) (more : List ℕ) → option_map {U = A × List ℕ} (λ rest. (b, rest)) o ≡ Some (c, more) → (b ≡ c) × (o ≡ Some more)
beside-is b c None more h = absurd (cc h)
beside-is b c (Some rest) more h = let p = same_pair b c rest more h in (p.0, ap Some p.1)

pub named-is : {A : Type 0} (b c : A) (front bs more : List ℕ) → entity_at b front bs ≡ Some (c, more) → (b ≡ c) × (bs ≡ front ++ more)
named-is b c front bs more h = let p = beside-is b c (without front bs) more h in (p.0, without-is front bs more p.1)

one_reference : (b c : ℕ) (bs more : List ℕ) → entity_at b (escape b) bs ≡ Some (c, more) → bs ≡ escape c ++ more
one_reference b c bs more h = let k = named-is b c (escape b) bs more h in k.1 ∙ ap (λ (n : ℕ). escape n ++ more) k.0

pub reference_at-is : (bs : List ℕ) (c : ℕ) (more : List ℕ) → reference_at bs ≡ Some (c, more) → bs ≡ escape c ++ more
unfolding reference_at
reference_at-is bs c more h = elim (or_else-is _ _ _ h) [
  | inl k ↦ one_reference ampersand c bs more k
  | inr k ↦ elim (or_else-is _ _ _ k) [
    | inl m ↦ one_reference less_than c bs more m
    | inr m ↦ elim (or_else-is _ _ _ m) [
      | inl n ↦ one_reference greater_than c bs more n
      | inr n ↦ one_reference quotation_mark c bs more n
    ]
  ]
]

-- ---- the first bytes of HTML decide the first byte of its text

pub byte_at-is : (bs : List ℕ) (c : ℕ) (more : List ℕ) → byte_at bs ≡ Some (c, more) → bs ≡ escape c ++ more
byte_at-is [] c more h = absurd (cc h)
byte_at-is (b ∷ bs) c more h =
    elim (is_plain b) as (λ t. is_plain b ≡ t → cond t (Some (b, bs)) (reference_at (b ∷ bs)) ≡ Some (c, more) → b ∷ bs ≡ escape c ++ more) [
      | true ↦ λ e k. let p = same_pair b c bs more k in
          (λ i. p.0 i ∷ p.1 i) ∙ ap (λ (l : List ℕ). l ++ more) (sym (escape-plain c (ap is_plain (sym p.0) ∙ e)))
      | false ↦ λ e k. reference_at-is (b ∷ bs) c more k
    ] refl h

pub which : (b : ℕ) → is_reserved b ≡ true → (b ≡ ampersand) ⊎ ((b ≡ less_than) ⊎ ((b ≡ greater_than) ⊎ (b ≡ quotation_mark)))
which b h = elim (eqb_tells b ampersand) [
  | inl e ↦ inl e.1
  | inr e ↦ elim (eqb_tells b less_than) [
    | inl f ↦ inr (inl f.1)
    | inr f ↦ elim (eqb_tells b greater_than) [
      | inl g ↦ inr (inr (inl g.1))
      | inr g ↦ let k : (b == quotation_mark) ≡ true = rw (e.0, f.0, g.0) at h in inr (inr (inr (eqb-true b quotation_mark k)))
    ]
  ]
]

reference-escape : (b : ℕ) (more : List ℕ) → is_reserved b ≡ true → byte_at (escape b ++ more) ≡ Some (b, more)
unfolding reference_at
reference-escape b more h = elim (which b h) [
  | inl e ↦ subst (λ (n : ℕ). byte_at (escape n ++ more) ≡ Some (n, more)) (sym e) refl
  | inr e ↦ elim e [
    | inl f ↦ subst (λ (n : ℕ). byte_at (escape n ++ more) ≡ Some (n, more)) (sym f) refl
    | inr f ↦ elim f [
      | inl g ↦ subst (λ (n : ℕ). byte_at (escape n ++ more) ≡ Some (n, more)) (sym g) refl
      | inr g ↦ subst (λ (n : ℕ). byte_at (escape n ++ more) ≡ Some (n, more)) (sym g) refl
    ]
  ]
]

pub byte_at-escape : (b : ℕ) (more : List ℕ) → byte_at (escape b ++ more) ≡ Some (b, more)
byte_at-escape b more =
    elim (is_reserved b) as (λ t. is_reserved b ≡ t → byte_at (escape b ++ more) ≡ Some (b, more)) [
      | true ↦ λ e. reference-escape b more e
      | false ↦ λ e. plain_byte b more (ap not e)
    ] refl

-- ---- the text that HTML begins with

-- the bytes begin with no text
pub no_byte : (bs : List ℕ) → starts_plain bs ≡ false → reference_at bs ≡ None → byte_at bs ≡ None
no_byte [] h k = refl
no_byte (b ∷ bs) h k = rw h k

-- two texts, each before a rest that begins with no text: equal HTML has equal texts and rests
pub texts_tell : (xs bs x y : List ℕ) → byte_at x ≡ None → byte_at y ≡ None → escape_all xs ++ x ≡ escape_all bs ++ y → (xs ≡ bs) × (x ≡ y)
texts_tell [] [] x y h k e = (refl, e)
texts_tell [] (b ∷ bs) x y h k e =
    let f : x ≡ escape b ++ (escape_all bs ++ y) = e ∙ append_assoc (escape b) (escape_all bs) y in
    absurd (cc (sym h ∙ ap byte_at f ∙ byte_at-escape b (escape_all bs ++ y)))
texts_tell (a ∷ xs) [] x y h k e =
    let f : y ≡ escape a ++ (escape_all xs ++ x) = sym e ∙ append_assoc (escape a) (escape_all xs) x in
    absurd (cc (sym k ∙ ap byte_at f ∙ byte_at-escape a (escape_all xs ++ x)))
texts_tell (a ∷ xs) (b ∷ bs) x y h k e =
    let f : escape a ++ (escape_all xs ++ x) ≡ escape b ++ (escape_all bs ++ y) = sym (append_assoc (escape a) (escape_all xs) x) ∙ e ∙ append_assoc (escape b) (escape_all bs) y in
    let p = same_pair a b (escape_all xs ++ x) (escape_all bs ++ y) (sym (byte_at-escape a (escape_all xs ++ x)) ∙ ap byte_at f ∙ byte_at-escape b (escape_all bs ++ y)) in
    let q = texts_tell xs bs x y h k p.1 in
    ((λ i. p.0 i ∷ q.0 i), q.1)

pub escaped-append : (xs ys : List ℕ) → escape_all (xs ++ ys) ≡ escape_all xs ++ escape_all ys
escaped-append xs ys = flat_map-append escape xs ys

pub reference_text : (html : List ℕ) (t rest : List ℕ) → Some (t, rest) ≡ as_text (reference_at html) → (0 < length t) × (html ≡ escape_all t ++ rest)
reference_text html t rest h =
    elim (reference_at html) as (λ o. reference_at html ≡ o → Some (t, rest) ≡ as_text o → (0 < length t) × (html ≡ escape_all t ++ rest)) [
      | None ↦ λ e k. absurd (cc k)
      | Some x ↦ λ e k.
          let p = same_pair t (x.0 ∷ []) rest x.1 k in
          let whole = reference_at-is html x.0 x.1 e in
          let one : escape_all (x.0 ∷ []) ≡ escape x.0 = append-nil (escape x.0) in
          let text : escape x.0 ≡ escape_all t = sym one ∙ ap escape_all (sym p.0) in
          let tail : x.1 ≡ rest = sym p.1 in
          (omega (arith, ap length p.0), whole ∙ (λ i. text i ++ tail i))
    ] refl h

pub found_text : (html : List ℕ) (r : Option (Bor (List ℕ) × Bor (List ℕ))) → texts_found r ≡ as_text (reference_at html) → IfSome r (λ x. (0 < length x.0.now) × (html ≡ escape_all x.0.now ++ x.1.now))
found_text html None h = tt
found_text html (Some x) h = reference_text html x.0.now x.1.now h

pub escape_long : (b : ℕ) → 0 < length (escape b)
escape_long b =
    elim (escape b) as (λ l. escape b ≡ l → 0 < length l) [
      | [] ↦ λ e. absurd (cc (ap byte_at (sym (append-nil (escape b) ∙ e)) ∙ byte_at-escape b []))
      | x ∷ l ↦ λ e. omega arith
    ] refl

escaped_long : (xs : List ℕ) → length xs ≤ length (escape_all xs)
escaped_long [] = omega arith
escaped_long (b ∷ xs) = omega (arith, escape_long b, escaped_long xs, length-append (escape b) (escape_all xs))

pub text_shortens : (html xs rest : List ℕ) → 0 < length xs → html ≡ escape_all xs ++ rest → length rest < length html
text_shortens html xs rest h e = omega (arith, escaped_long xs, ap length e, length-append (escape_all xs) rest)

pub texts_join : (html xs mid ys rest : List ℕ) → html ≡ escape_all xs ++ mid → mid ≡ escape_all ys ++ rest → html ≡ escape_all (xs ++ ys) ++ rest
texts_join html xs mid ys rest e f =
    e ∙ ap (λ (l : List ℕ). escape_all xs ++ l) f ∙ sym (append_assoc (escape_all xs) (escape_all ys) rest) ∙ ap (λ (l : List ℕ). l ++ rest) (sym (escaped-append xs ys))

-- ---- writing a text

-- the HTML of a front, a byte, and a plain text after it
pub escaped_on : (front plain : List ℕ) (b : ℕ) → list_all is_plain plain ≡ true → escape_all front ++ (escape b ++ plain) ≡ escape_all (front ++ (b ∷ plain))
escaped_on front plain b h = ap (λ (l : List ℕ). escape_all front ++ (escape b ++ l)) (sym (escaped-plain plain h)) ∙ sym (escaped-append front (b ∷ plain))

pub fronts_on : (text front rest next plain last : List ℕ) (b : ℕ) → text ≡ front ++ rest → rest ≡ b ∷ next → next ≡ plain ++ last → text ≡ (front ++ (b ∷ plain)) ++ last
fronts_on text front rest next plain last b e f g = e ∙ ap (λ (l : List ℕ). front ++ l) (f ∙ ap (λ (l : List ℕ). b ∷ l) g) ∙ sym (append_assoc front (b ∷ plain) last)

pub on_shortens : (rest next plain last : List ℕ) (b : ℕ) → rest ≡ b ∷ next → next ≡ plain ++ last → length last < length rest
on_shortens rest next plain last b f g = omega (arith, ap length f, ap length g, length-append plain last)
