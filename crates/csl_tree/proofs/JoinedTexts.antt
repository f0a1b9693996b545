-- Adjacent texts are joined, child by child. The children up to `last` are joined, and the next one
-- is at `next`; the children between the two have no meaning.
use Rattle.std.proofs.Common.{◌≡◌, ◌≢◌, ℕ, ◌+◌, ◌<◌, ◌≤◌, suc, zero, List, [], ◌∷◌, ◌++◌, length, get_or, take, drop, set, refl, sym, ap, ◌∙◌, append_assoc, arith}
use Rattle.std.specs.List.{flat_map, swap}
use Rattle.std.proofs.lemmas.Grind.{flat_map-append}
use Rattle.std.proofs.lemmas.List.{take_more, take-take, take_at, take-set-le, take-append-drop, take-append-le, drop-append-le, drop_more, drop_all, drop-set-lt, append-nil, length-set, length-take-le, get_or_default, get_or-set_other, get_or-take, get_or-drop, set-append_left}
use Rattle.csl_tree.specs.Tokens.{Token, Solid, solid, child_tokens}
use Rattle.csl_tree.specs.Content.{◌++>◌}
use Rattle.csl_tree.specs.declared.elem.ElemChild.{ElemChild}
use Rattle.csl_tree.specs.FlatChildren.{content_of, IsJoined, tokens_at}
use Rattle.csl_tree.proofs.Joins.{join_assoc, join-none}
use Rattle.csl_tree.proofs.Appended.{Begins, child_begins, join_after, solid_next}
use Rattle.csl_tree.proofs.Flats.{content-append, content-push}

pub tokens_are : (xs : List ElemChild) (i : ℕ) (x : ElemChild) → i < length xs → x ≡ get_or xs i x → tokens_at xs i ≡ child_tokens x
tokens_are [] i x h e = absurd (omega arith)
tokens_are (k ∷ xs) zero x h e = ap child_tokens (sym e)
tokens_are (k ∷ xs) (suc i) x h e = tokens_are xs i x (omega arith) e

-- a content that begins with a solid token does not join the content before it
pub solid_apart : (a b : List Token) (s : Solid) (l : List Token) → b ≡ solid s ∷ l → a ++> b ≡ a ++ b
solid_apart a b s l h = rw h (solid_next a s l)

some_child : (xs : List ElemChild) (i : ℕ) → i < length xs → (x : ElemChild) × (x ≡ get_or xs i x)
some_child [] i h = absurd (omega arith)
some_child (k ∷ xs) i h = (get_or (k ∷ xs) i k, get_or_default (k ∷ xs) i k (get_or (k ∷ xs) i k) h)

-- ---- a child is set, and two trade places

at-set : (xs : List ElemChild) (i : ℕ) (z : ElemChild) → i < length xs → tokens_at (set xs i z) i ≡ child_tokens z
at-set [] i z h = absurd (omega arith)
at-set (k ∷ xs) zero z h = refl
at-set (k ∷ xs) (suc i) z h = at-set xs i z (omega arith)

at-set_after : (xs : List ElemChild) (i j : ℕ) (z : ElemChild) → i < j → tokens_at (set xs j z) i ≡ tokens_at xs i
at-set_after [] i j z h = refl
at-set_after (k ∷ xs) i zero z h = absurd (omega arith)
at-set_after (k ∷ xs) zero (suc j) z h = refl
at-set_after (k ∷ xs) (suc i) (suc j) z h = at-set_after xs i j z (omega arith)

at-traded : (xs : List ElemChild) (i j : ℕ) (x y : ElemChild) → i ≤ j → j < length xs → x ≡ get_or xs i x → y ≡ get_or xs j y → tokens_at (set (set xs i y) j x) i ≡ tokens_at xs j
at-traded [] i j x y o h ex ey = absurd (omega arith)
at-traded (k ∷ xs) zero zero x y o h ex ey = ap child_tokens ex
at-traded (k ∷ xs) zero (suc j) x y o h ex ey = sym (tokens_are xs j y (omega arith) ey)
at-traded (k ∷ xs) (suc i) zero x y o h ex ey = absurd (omega arith)
at-traded (k ∷ xs) (suc i) (suc j) x y o h ex ey = at-traded xs i j x y (omega arith) (omega arith) ex ey

swap-is : (xs : List ElemChild) (i j : ℕ) (x y : ElemChild) → i < length xs → j < length xs → x ≡ get_or xs i x → y ≡ get_or xs j y → swap xs i j ≡ set (set xs i y) j x
swap-is [] i j x y hi hj ex ey = absurd (omega arith)
swap-is (d ∷ xs) i j x y hi hj ex ey =
    ap (λ (w : ElemChild). set (set (d ∷ xs) i w) j (get_or (d ∷ xs) i d)) (get_or_default (d ∷ xs) j d y hj ∙ sym ey)
    ∙ ap (λ (w : ElemChild). set (set (d ∷ xs) i y) j w) (get_or_default (d ∷ xs) i d x hi ∙ sym ex)

module _ (xs : List ElemChild) (i j : ℕ) (o : i ≤ j) (h : j < length xs) where
  traded : (x : ElemChild) × (y : ElemChild) × (x ≡ get_or xs i x) × (y ≡ get_or xs j y) × (swap xs i j ≡ set (set xs i y) j x)
  traded =
      let s = some_child xs i (omega arith) in
      let t = some_child xs j h in
      (s.0, t.0, s.1, t.1, swap-is xs i j s.0 t.0 (omega arith) h s.1 t.1)

  pub swap-take : (n : ℕ) → n ≤ i → take n (swap xs i j) ≡ take n xs
  swap-take n m = let t = traded in ap (take n) t.4 ∙ take-set-le n (set xs i t.1) j t.0 (omega arith) ∙ take-set-le n xs i t.1 m

  pub swap-drop : (n : ℕ) → j < n → drop n (swap xs i j) ≡ drop n xs
  swap-drop n m = let t = traded in ap (drop n) t.4 ∙ drop-set-lt n (set xs i t.1) j t.0 m ∙ drop-set-lt n xs i t.1 (omega arith)

  pub swap-before : (n : ℕ) → n < i → tokens_at (swap xs i j) n ≡ tokens_at xs n
  swap-before n m = let t = traded in ap (λ (l : List ElemChild). tokens_at l n) t.4 ∙ at-set_after (set xs i t.1) n j t.0 (omega arith) ∙ at-set_after xs n i t.1 m

  pub swap-at : tokens_at (swap xs i j) i ≡ tokens_at xs j
  swap-at = let t = traded in ap (λ (l : List ElemChild). tokens_at l i) t.4 ∙ at-traded xs i j t.0 t.1 o h t.2 t.3

-- the list is cut in two at `next`, and the child at `last` is set
module _ (xs front back : List ElemChild) (last next : ℕ) (o : last < next) (h : next < length xs) (ef : front ≡ take next xs) (eb : back ≡ drop next xs) where
  front_length : length front ≡ next
  front_length = ap length ef ∙ length-take-le next xs (omega arith)

  whole : front ++ back ≡ xs
  whole = ap (λ (l : List ElemChild). l ++ back) ef ∙ ap (λ (l : List ElemChild). take next xs ++ l) eb ∙ take-append-drop next xs

  pub at_last : (d : ElemChild) → tokens_at xs last ≡ child_tokens (get_or front last d)
  at_last d =
      let x = get_or front last d in
      tokens_are xs last x (omega arith) (ap (λ (l : List ElemChild). get_or l last d) ef ∙ get_or-take next xs last d o ∙ get_or_default xs last d x (omega arith))

  pub at_next : (d : ElemChild) → tokens_at xs next ≡ child_tokens (get_or back 0 d)
  at_next d =
      let y = get_or back 0 d in
      let n : next + 0 ≡ next = omega arith in
      tokens_are xs next y h (ap (λ (l : List ElemChild). get_or l 0 d) eb ∙ get_or-drop next xs 0 d ∙ ap (λ (k : ℕ). get_or xs k d) n ∙ get_or_default xs next d y h)

  module _ (z : ElemChild) where
    put : set front last z ++ back ≡ set xs last z
    put = sym (set-append_left front back last z (omega (arith, front_length))) ∙ ap (λ (l : List ElemChild). set l last z) whole

    pub put_back : (n : ℕ) → n ≡ length xs → take n ((set front last z ++ back) ++ drop (length (set front last z ++ back)) xs) ≡ set xs last z
    put_back n e =
        take_at (set front last z ++ back) (drop (length (set front last z ++ back)) xs) n (ap length put ∙ length-set xs last z ∙ sym e) ∙ put

    pub put-before : take last (set xs last z) ≡ take last xs
    put-before = take-set-le last xs last z (omega arith)

    pub put-last : tokens_at (set xs last z) last ≡ child_tokens z
    put-last = at-set xs last z (omega arith)

    pub put-drop : (n : ℕ) → last < n → drop n (set xs last z) ≡ drop n xs
    put-drop n m = drop-set-lt n xs last z m

    pub put-next : tokens_at (set xs last z) next ≡ tokens_at xs next
    put-next =
        let s = some_child xs next h in
        let ne : next ≢ last = omega arith in
        tokens_are (set xs last z) next s.0 (omega (arith, length-set {A = ElemChild})) (s.1 ∙ sym (get_or-set_other xs last next z s.0 ne)) ∙ sym (tokens_are xs next s.0 h s.1)

    pub put-length : length (set xs last z) ≡ length xs
    put-length = length-set xs last z

-- the children from `from` up to a place, and the one there
module _ (xs : List ElemChild) (from k : ℕ) (f : from ≤ k) (h : k < length xs) where
  pub part_more : (x : ElemChild) → x ≡ get_or xs k x → drop from (take (k + 1) xs) ≡ drop from (take k xs) ++ x ∷ []
  part_more x e =
      ap (drop from) (take_more xs k x h ∙ ap (λ (y : ElemChild). take k xs ++ y ∷ []) (sym e))
      ∙ drop-append-le from (take k xs) (x ∷ []) (omega (arith, length-take-le k xs (omega arith)))

  pub content_more : content_of (drop from (take (k + 1) xs)) ≡ content_of (drop from (take k xs)) ++> tokens_at xs k
  content_more =
      let s = some_child xs k h in
      ap content_of (part_more s.0 s.1) ∙ content-push (drop from (take k xs)) s.0 ∙ ap (λ (l : List Token). content_of (drop from (take k xs)) ++> l) (sym (tokens_are xs k s.0 h s.1))

  pub flat_more : flat_map child_tokens (drop from (take (k + 1) xs)) ≡ flat_map child_tokens (drop from (take k xs)) ++ tokens_at xs k
  flat_more =
      let s = some_child xs k h in
      ap (flat_map child_tokens) (part_more s.0 s.1) ∙ flat_map-append child_tokens (drop from (take k xs)) (s.0 ∷ []) ∙ ap (λ (l : List Token). flat_map child_tokens (drop from (take k xs)) ++ l) (append-nil (child_tokens s.0) ∙ sym (tokens_are xs k s.0 h s.1))

  pub tokens-begin : Begins (tokens_at xs k)
  tokens-begin = let s = some_child xs k h in rw (tokens_are xs k s.0 h s.1) (child_begins s.0)

-- a content is appended to tokens that are not none
join_last : (p u b : List Token) → Begins u → (p ++ u) ++> b ≡ p ++ (u ++> b)
join_last p u b h = rw h.is (join_after p h.first h.rest b)

-- the part up to `last` before and after a step
module _ (xs ys : List ElemChild) (from last next : ℕ) (f : from ≤ last) (o : last < next) (h : next < length xs) (l : length ys ≡ length xs) (b : take last ys ≡ take last xs) where
  front : drop from (take last ys) ≡ drop from (take last xs)
  front = ap (drop from) b

  within : last < length ys
  within = omega arith

  pub before_kept : take from ys ≡ take from xs
  before_kept = sym (take-take from last ys f) ∙ ap (take from) b ∙ take-take from last xs f

  pub step_kept : tokens_at ys last ≡ tokens_at xs last → content_of (drop from (take (last + 1) ys)) ≡ content_of (drop from (take (last + 1) xs))
  step_kept e =
      content_more ys from last f within ∙ ap (λ (ks : List ElemChild). content_of ks ++> tokens_at ys last) front ∙ ap (λ (t : List Token). content_of (drop from (take last xs)) ++> t) e ∙ sym (content_more xs from last f (omega arith))

  flat_kept : tokens_at ys last ≡ tokens_at xs last → flat_map child_tokens (drop from (take (last + 1) ys)) ≡ flat_map child_tokens (drop from (take (last + 1) xs))
  flat_kept e =
      flat_more ys from last f within ∙ ap (λ (ks : List ElemChild). flat_map child_tokens ks ++ tokens_at ys last) front ∙ ap (λ (t : List Token). flat_map child_tokens (drop from (take last xs)) ++ t) e ∙ sym (flat_more xs from last f (omega arith))

  -- the next child is joined to the last one
  pub step_joins : tokens_at ys last ≡ tokens_at xs last ++> tokens_at xs next → content_of (drop from (take (last + 1) ys)) ≡ content_of (drop from (take (last + 1) xs)) ++> tokens_at xs next
  step_joins e =
      content_more ys from last f within ∙ ap (λ (ks : List ElemChild). content_of ks ++> tokens_at ys last) front ∙ ap (λ (t : List Token). content_of (drop from (take last xs)) ++> t) e
      ∙ sym (join_assoc (content_of (drop from (take last xs))) (tokens_at xs last) (tokens_at xs next)) ∙ ap (λ (t : List Token). t ++> tokens_at xs next) (sym (content_more xs from last f (omega arith)))

  pub joined_joins : tokens_at ys last ≡ tokens_at xs last ++> tokens_at xs next → IsJoined (drop from (take (last + 1) xs)) → IsJoined (drop from (take (last + 1) ys))
  joined_joins e j =
      let t = flat_map child_tokens (drop from (take last xs)) in
      flat_more ys from last f within ∙ ap (λ (ks : List ElemChild). flat_map child_tokens ks ++ tokens_at ys last) front ∙ ap (λ (u : List Token). t ++ u) e
      ∙ sym (join_last t (tokens_at xs last) (tokens_at xs next) (tokens-begin xs from last f (omega arith))) ∙ ap (λ (u : List Token). u ++> tokens_at xs next) (sym (flat_more xs from last f (omega arith)) ∙ j) ∙ sym (step_joins e)

  -- the next child does not join the last one, and follows it
  module _ (e : tokens_at ys last ≡ tokens_at xs last) (n : tokens_at ys (last + 1) ≡ tokens_at xs next) where
    pub step_moves : content_of (drop from (take (last + 1 + 1) ys)) ≡ content_of (drop from (take (last + 1) xs)) ++> tokens_at xs next
    step_moves =
        content_more ys from (last + 1) (omega arith) (omega arith) ∙ ap (λ (t : List Token). t ++> tokens_at ys (last + 1)) (step_kept e) ∙ ap (λ (t : List Token). content_of (drop from (take (last + 1) xs)) ++> t) n

    pub joined_moves : tokens_at xs last ++> tokens_at xs next ≡ tokens_at xs last ++ tokens_at xs next → IsJoined (drop from (take (last + 1) xs)) → IsJoined (drop from (take (last + 1 + 1) ys))
    joined_moves a j =
        let t = flat_map child_tokens (drop from (take last xs)) in
        let u = tokens_at xs last in
        let v = tokens_at xs next in
        let all = flat_more xs from last f (omega arith) in
        flat_more ys from (last + 1) (omega arith) (omega arith) ∙ ap (λ (w : List Token). w ++ tokens_at ys (last + 1)) (flat_kept e ∙ all) ∙ ap (λ (w : List Token). (t ++ u) ++ w) n
        ∙ append_assoc t u v ∙ ap (λ (w : List Token). t ++ w) (sym a) ∙ sym (join_last t u v (tokens-begin xs from last f (omega arith))) ∙ ap (λ (w : List Token). w ++> v) (sym all ∙ j) ∙ sym step_moves

-- the first child of the part
module _ (xs : List ElemChild) (from : ℕ) (h : from < length xs) where
  first : (x : ElemChild) → x ≡ get_or xs from x → drop from (take (from + 1) xs) ≡ x ∷ []
  first x e = part_more xs from from (omega arith) h x e ∙ ap (λ (l : List ElemChild). l ++ x ∷ []) (drop_all from (take from xs) (omega (arith, length-take-le from xs (omega arith))))

  pub joined_first : IsJoined (drop from (take (from + 1) xs))
  joined_first = let s = some_child xs from h in rw (first s.0 s.1) (append-nil (child_tokens s.0) ∙ sym (join-none (child_tokens s.0)))

-- the part without the children between `last` and `next`
pub part_is : (xs : List ElemChild) (from last next : ℕ) → from ≤ last → last < length xs → content_of (drop from (take (last + 1) xs ++ drop next xs)) ≡ content_of (drop from (take (last + 1) xs)) ++> content_of (drop next xs)
part_is xs from last next f h =
    ap content_of (drop-append-le from (take (last + 1) xs) (drop next xs) (omega (arith, length-take-le (last + 1) xs (omega arith)))) ∙ content-append (drop from (take (last + 1) xs)) (drop next xs)

pub next_is : (xs : List ElemChild) (next : ℕ) → next < length xs → content_of (drop next xs) ≡ tokens_at xs next ++> content_of (drop (next + 1) xs)
next_is xs next h = let s = some_child xs next h in ap content_of (drop_more xs next s.0 h ∙ ap (λ (y : ElemChild). y ∷ drop (next + 1) xs) (sym s.1)) ∙ ap (λ (t : List Token). t ++> content_of (drop (next + 1) xs)) (sym (tokens_are xs next s.0 h s.1))

pub gap_before : (xs : List ElemChild) (from last next : ℕ) → from ≤ last → last < length xs → take from (take (last + 1) xs ++ drop next xs) ≡ take from xs
gap_before xs from last next f h = take-append-le from (take (last + 1) xs) (drop next xs) (omega (arith, length-take-le (last + 1) xs (omega arith))) ∙ take-take from (last + 1) xs (omega arith)

-- no child is after the last one
pub part_whole : (xs : List ElemChild) (from last next : ℕ) → length xs ≤ next → content_of (drop from (take (last + 1) xs)) ++> content_of (drop next xs) ≡ content_of (drop from (take (last + 1) xs))
part_whole xs from last next h = ap (λ (l : List ElemChild). content_of (drop from (take (last + 1) xs)) ++> content_of l) (drop_all next xs h) ∙ join-none (content_of (drop from (take (last + 1) xs)))

-- the next child is done with
pub going_on : (all c : List Token) (xs ys : List ElemChild) (next : ℕ) (d : List Token) → next < length xs → drop (next + 1) ys ≡ drop (next + 1) xs → d ≡ c ++> tokens_at xs next → c ++> content_of (drop next xs) ≡ all → d ++> content_of (drop (next + 1) ys) ≡ all
going_on all c xs ys next d h a e s =
    ap (λ (l : List Token). l ++> content_of (drop (next + 1) ys)) e ∙ ap (λ (l : List ElemChild). (c ++> tokens_at xs next) ++> content_of l) a ∙ join_assoc c (tokens_at xs next) (content_of (drop (next + 1) xs)) ∙ ap (λ (l : List Token). c ++> l) (sym (next_is xs next h)) ∙ s
