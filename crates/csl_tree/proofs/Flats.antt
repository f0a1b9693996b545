-- Laws of the contents of a flat list of children with marks.
use Rattle.std.proofs.Common.{◌≡◌, ℕ, ◌+◌, ◌<◌, ◌≤◌, ◌==◌, cond, suc, Option, List, [], ◌∷◌, ◌++◌, length, get_or, take, drop, set, reverse, not, true, false, length-drop, refl, sym, ap, ◌∙◌, arith}
use Rattle.std.specs.List.{flat_map}
use Rattle.std.proofs.lemmas.Grind.{common_steps}
use Rattle.std.proofs.lemmas.List.{take_more, take_more_set, take_all, take-take, take-append-le, take-append-drop, drop-append-le, drop_all, length-set, length-take, length-take-le, length-reverse, reverse-append}
use Rattle.csl_elements.specs.declared.formatting.Display.{Display}
use Rattle.csl_tree.specs.Tokens.{Token, Meta, solid, has_children, text, tokens, optional_meta, child_tokens}
use Rattle.csl_tree.specs.Content.{◌++>◌, text_before, join_tokens, elem_content, affixed_content}
use Rattle.csl_tree.specs.Formatting.{same_formatting}
use Rattle.csl_tree.specs.declared.formatting.Formatting.{Formatting}
use Rattle.csl_tree.proofs.Joins.{join_assoc, join-none}
use Rattle.csl_tree.proofs.Appended.{Begins, child_begins, elem_child, boxed_is}
use Rattle.csl_tree.proofs.Trees.{tokens_out, elem_tokens_are}
use Rattle.csl_tree.specs.declared.elem.Elem as elem
use Rattle.csl_tree.specs.declared.elem.ElemChild.{ElemChild}
use Rattle.csl_tree.specs.declared.elem.ElemChild.TheVariants as variants
use Rattle.csl_tree.specs.Flat.{OpenParts, with_tokens, open_part, close_into, close_part, discard_into, discard_part}
use Rattle.csl_tree.specs.FlatChildren.{content_of, contents_at, open_parts, FallFrom, AreMarks, IsJoined}

-- ---- children in a row

pub content-append : (xs ys : List ElemChild) → content_of (xs ++ ys) ≡ content_of xs ++> content_of ys
content-append [] ys = refl
content-append (k ∷ xs) ys = ap (λ (l : List Token). child_tokens k ++> l) (content-append xs ys) ∙ sym (join_assoc (child_tokens k) (content_of xs) (content_of ys))

pub content-push : (xs : List ElemChild) (k : ElemChild) → content_of (xs ++ k ∷ []) ≡ content_of xs ++> child_tokens k
content-push xs k = content-append xs (k ∷ []) ∙ ap (λ (l : List Token). content_of xs ++> l) (join-none (child_tokens k))

text_before-begins : (x : List ℕ) (f : Formatting) (b : List Token) → Begins (text_before x f b)
text_before-begins x f [] = record { first = _; rest = _; is = refl }
text_before-begins x f (text y g ∷ b) = elim (same_formatting f g) as (λ s. Begins (cond s (text (x ++ y) f ∷ b) (text x f ∷ text y g ∷ b))) [ true ↦ record { first = _; rest = _; is = refl } | false ↦ record { first = _; rest = _; is = refl } ]
text_before-begins x f (solid s ∷ b) = record { first = _; rest = _; is = refl }

joined-begins : (t : Token) (a b : List Token) → Begins (join_tokens t a b)
joined-begins (text x f) [] b = text_before-begins x f b
joined-begins (solid s) [] b = record { first = _; rest = _; is = refl }
joined-begins t (u ∷ a) b = record { first = _; rest = _; is = refl }

-- children have a content
pub content-begins : (xs : List ElemChild) → 0 < length xs → Begins (content_of xs)
content-begins [] h = absurd (omega arith)
content-begins (k ∷ xs) h = let b = child_begins k in rw b.is (joined-begins b.first b.rest (content_of xs))

-- ---- the parts

-- the lists are the same before the mark
pub same_outer : (xs ys : List ElemChild) (start : ℕ) (around : List ℕ) → take start xs ≡ take start ys → (open_parts xs start around).outer ≡ (open_parts ys start around).outer
same_outer xs ys start around e = ap (λ (ks : List ElemChild). contents_at ks (reverse around)) e

pub parts_are : (xs ys : List ElemChild) (start : ℕ) (around : List ℕ) (c : List Token) → take start xs ≡ take start ys → content_of (drop start xs) ≡ c → open_parts xs start around ≡ record { inner = c; outer = (open_parts ys start around).outer }
parts_are xs ys start around c e h = λ i. record { inner = h i; outer = same_outer xs ys start around e i }

-- one more child
pub parts_pushed : (xs ys : List ElemChild) (start : ℕ) (around : List ℕ) (k : ElemChild) → ys ≡ xs ++ k ∷ [] → start ≤ length xs → open_parts ys start around ≡ with_tokens (child_tokens k) (open_parts xs start around)
parts_pushed xs ys start around k e h =
    parts_are ys xs start around (content_of (drop start xs) ++> child_tokens k)
    (ap (take start) e ∙ take-append-le start xs (k ∷ []) h)
    (ap (λ (l : List ElemChild). content_of (drop start l)) e ∙ ap content_of (drop-append-le start xs (k ∷ []) h) ∙ content-push (drop start xs) k)

-- the last child, and the children before it
last_is : (xs : List ElemChild) (i : ℕ) (x : ElemChild) → i + 1 ≡ length xs → x ≡ get_or xs i x → xs ≡ take i xs ++ x ∷ []
last_is xs i x h e = sym (take_all (i + 1) xs (omega arith)) ∙ take_more xs i x (omega arith) ∙ ap (λ (y : ElemChild). take i xs ++ y ∷ []) (sym e)

last_set : (xs : List ElemChild) (i : ℕ) (y : ElemChild) → i + 1 ≡ length xs → set xs i y ≡ take i xs ++ y ∷ []
last_set xs i y h = sym (take_all (i + 1) (set xs i y) (omega (arith, length-set {A = ElemChild}))) ∙ take_more_set xs i y (omega arith)

module _ (xs ys : List ElemChild) (i start : ℕ) (around : List ℕ) (x y : ElemChild) (h : i + 1 ≡ length xs) (m : start ≤ i) (e : x ≡ get_or xs i x) (s : ys ≡ set xs i y) where
  within : start ≤ length (take i xs)
  within = omega (arith, length-take-le i xs (omega arith))

  before : open_parts xs start around ≡ with_tokens (child_tokens x) (open_parts (take i xs) start around)
  before = parts_pushed (take i xs) xs start around x (last_is xs i x h e) within

  after : open_parts ys start around ≡ with_tokens (child_tokens y) (open_parts (take i xs) start around)
  after = parts_pushed (take i xs) ys start around y (s ∙ last_set xs i y h) within

  -- the last child has a content appended
  pub joined_last : (b : List Token) → child_tokens y ≡ child_tokens x ++> b → open_parts ys start around ≡ with_tokens b (open_parts xs start around)
  joined_last b f =
      let p = open_parts (take i xs) start around in
      after ∙ ap (λ (l : List Token). with_tokens l p) f ∙ ap (λ (l : List Token). record { inner = l; outer = p.outer }) (sym (join_assoc p.inner (child_tokens x) b)) ∙ ap (with_tokens b) (sym before)

  -- the last child has the same tokens
  pub kept_last : child_tokens y ≡ child_tokens x → open_parts ys start around ≡ open_parts xs start around
  kept_last f = after ∙ ap (λ (l : List Token). with_tokens l (open_parts (take i xs) start around)) f ∙ sym before

-- a part is opened
pub opened : (xs : List ElemChild) (start : ℕ) (around more : List ℕ) → more ≡ around ++ start ∷ [] → open_parts xs (length xs) more ≡ open_part (open_parts xs start around)
opened xs start around more e =
    let r : reverse more ≡ start ∷ reverse around = ap reverse e ∙ reverse-append around (start ∷ []) in
    λ i. record { inner = ap content_of (drop_all (length xs) xs (omega arith)) i; outer = (ap (contents_at (take (length xs) xs)) r ∙ ap (λ (ks : List ElemChild). contents_at ks (start ∷ reverse around)) (take_all (length xs) xs (omega arith))) i }

-- the part that is left belongs to the part around it
module _ (xs : List ElemChild) (start mark : ℕ) (around more : List ℕ) (e : more ≡ around ++ mark ∷ []) (m : AreMarks xs start more) where
  rest_is : reverse more ≡ mark ∷ reverse around
  rest_is = ap reverse e ∙ reverse-append around (mark ∷ [])

  marks_are : (start ≤ length xs) × (mark ≤ start) × FallFrom mark (reverse around)
  marks_are =
      let f : (mark ≤ start) × FallFrom mark (reverse around) = rw rest_is at m.1 in
      (m.0, f.0, f.1)

  pub left : open_parts xs mark around ≡ close_part (open_parts xs start more).inner (open_parts xs start more)
  left =
      let l : length (take start xs) ≡ start = length-take-le start xs marks_are.0 in
      let c : drop mark xs ≡ drop mark (take start xs) ++ drop start xs = ap (drop mark) (sym (take-append-drop start xs)) ∙ drop-append-le mark (take start xs) (drop start xs) (omega (arith, l, marks_are.1)) in
      let t : take mark xs ≡ take mark (take start xs) = sym (take-take mark start xs marks_are.1) in
      let o : (open_parts xs start more).outer ≡ content_of (drop mark (take start xs)) ∷ contents_at (take mark (take start xs)) (reverse around) = ap (contents_at (take start xs)) rest_is in
      let n : open_parts xs mark around ≡ record { inner = content_of (drop mark (take start xs)) ++> content_of (drop start xs); outer = contents_at (take mark (take start xs)) (reverse around) } = λ i. record { inner = (ap content_of c ∙ content-append (drop mark (take start xs)) (drop start xs)) i; outer = ap (λ (ks : List ElemChild). contents_at ks (reverse around)) t i } in
      n ∙ sym (ap (close_into (content_of (drop start xs)) (open_parts xs start more)) o)

-- how many parts are open
contents-length : (xs : List ElemChild) (marks : List ℕ) → length (contents_at xs marks) ≡ length marks
contents-length xs [] = refl
contents-length xs (mark ∷ marks) = ap suc (contents-length (take mark xs) marks)

pub outer-length : (xs : List ElemChild) (start : ℕ) (around : List ℕ) → length (open_parts xs start around).outer ≡ length around
outer-length xs start around = contents-length (take start xs) (reverse around) ∙ length-reverse around

-- the root has all children
root_start : (start : ℕ) (around : List ℕ) → length around ≡ 0 → FallFrom start (reverse around) → start ≡ 0
root_start start [] h f = f
root_start start (mark ∷ around) h f = absurd (omega arith)

pub root_is : (xs : List ElemChild) (start : ℕ) (around : List ℕ) → AreMarks xs start around → length (open_parts xs start around).outer ≡ 0 → (open_parts xs start around).inner ≡ content_of xs
root_is xs start around m h = ap (λ (k : ℕ). content_of (drop k xs)) (root_start start around (sym (outer-length xs start around) ∙ h) m.1)

-- ---- a part is closed

-- the parts around it are the same
pub closed_same : (p q : OpenParts) (c d : List Token) → p.outer ≡ q.outer → 0 < length q.outer → c ≡ d → close_part c p ≡ close_part d q
closed_same p q c d o h e = ap (close_into c p) o ∙ goes q.outer h
  where
    goes : (os : List (List Token)) → 0 < length os → close_into c p os ≡ close_into d q os
    goes [] h = absurd (omega arith)
    goes (part ∷ parts) h = ap (λ (l : List Token). record { inner = part ++> l; outer = parts }) e

pub discarded : (p q : OpenParts) → p.outer ≡ q.outer → 0 < length q.outer → p.inner ≡ [] → close_part p.inner p ≡ discard_part q
discarded p q o h e = ap (close_into p.inner p) o ∙ goes q.outer h
  where
    goes : (os : List (List Token)) → 0 < length os → close_into p.inner p os ≡ discard_into q os
    goes [] h = absurd (omega arith)
    goes (part ∷ parts) h = ap (λ (l : List Token). record { inner = part ++> l; outer = parts }) e ∙ ap (λ (l : List Token). record { inner = l; outer = parts }) (join-none part)

-- the innermost part has no children
pub none_inner : (xs : List ElemChild) (start : ℕ) (around : List ℕ) → length xs ≤ start → (open_parts xs start around).inner ≡ []
none_inner xs start around h = ap content_of (drop_all start xs h)

-- the children of the innermost part are dropped
pub truncated : (xs ts : List ElemChild) (start : ℕ) (around : List ℕ) → ts ≡ take start xs → ((open_parts ts start around).outer ≡ (open_parts xs start around).outer) × ((open_parts ts start around).inner ≡ [])
truncated xs ts start around e = (
  same_outer ts xs start around (ap (take start) e ∙ take-take start start xs (omega arith)),
  none_inner ts start around (omega (arith, ap length e, length-take start xs)),
)

-- or some
pub some_inner : (xs : List ElemChild) (start : ℕ) (around : List ℕ) → start < length xs → Begins (open_parts xs start around).inner
some_inner xs start around h = content-begins (drop start xs) (omega (arith, length-drop {A = ElemChild}))

empty_from : (l : List ElemChild) (n start : ℕ) → length l + start ≡ n → (n == start) ≡ not (has_children (content_of l))
empty_from [] n start h = let e : n ≡ start = omega arith in grind (arith, common_steps, e)
empty_from (k ∷ l) n start h = let b = content-begins (k ∷ l) (omega arith) in let lt : start < n = omega arith in rw b.is (grind (arith, common_steps, lt))

pub empty_is : (xs : List ElemChild) (start : ℕ) (around : List ℕ) (n : ℕ) → n ≡ length xs → start ≤ length xs → (n == start) ≡ not (has_children (open_parts xs start around).inner)
empty_is xs start around n e h = empty_from (drop start xs) n start (omega (arith, length-drop {A = ElemChild}))

some_children : (ks : List ElemChild) → Begins (content_of ks) → 0 < length ks
some_children [] b = absurd (cc b.is)
some_children (k ∷ ks) b = omega arith

pub elem_box : (e : elem.Elem) (l : List Token) → l ≡ tokens e.children → 0 < length e.children.0.items → child_tokens (variants.Elem e) ≡ elem_content e.display (optional_meta e.meta) l
elem_box e l g h = elem_child e ∙ elem_tokens_are e ∙ sym (boxed_is e.display (optional_meta e.meta) e.children h) ∙ ap (elem_content e.display (optional_meta e.meta)) (sym g)

pub affixed_is : (b a i : List Token) → Begins i → affixed_content b a i ≡ b ++> (i ++> a)
affixed_is b a i f = rw f.is refl

pub with_none : (p : OpenParts) (l : List Token) → l ≡ [] → p ≡ with_tokens l p
with_none p l e = rw e (ap (λ (l : List Token). record { inner = l; outer = p.outer }) (sym (join-none p.inner)))

-- the innermost part has the given content, and the parts around it are the same
pub closed_with : (p q : OpenParts) (c : List Token) → p ≡ record { inner = c; outer = q.outer } → 0 < length q.outer → close_part p.inner p ≡ close_part c q
closed_with p q c e h = closed_same p q p.inner c (ap (λ (r : OpenParts). r.outer) e) h (ap (λ (r : OpenParts). r.inner) e)

-- a text is put at the end, then one at the mark
pub spliced : (xs ys zs : List ElemChild) (n start : ℕ) (around : List ℕ) (b a : List Token) → n ≡ length xs → start < n
    → take n ys ≡ take n xs → content_of (drop n ys) ≡ a ++> content_of (drop n xs)
    → take start zs ≡ take start ys → content_of (drop start zs) ≡ b ++> content_of (drop start ys)
    → open_parts zs start around ≡ record { inner = affixed_content b a (open_parts xs start around).inner; outer = (open_parts xs start around).outer }
spliced xs ys zs n start around b a l h ty cy tz cz =
    let all : take n xs ≡ xs = take_all n xs (omega arith) in
    let is : ys ≡ xs ++ drop n ys = sym (take-append-drop n ys) ∙ ap (λ (l : List ElemChild). l ++ drop n ys) (ty ∙ all) in
    let after : content_of (drop n ys) ≡ a = cy ∙ ap (λ (l : List ElemChild). a ++> content_of l) (drop_all n xs (omega arith)) ∙ join-none a in
    let inner : content_of (drop start ys) ≡ content_of (drop start xs) ++> a =
    ap (λ (l : List ElemChild). content_of (drop start l)) is ∙ ap content_of (drop-append-le start xs (drop n ys) (omega arith)) ∙ content-append (drop start xs) (drop n ys) ∙ ap (λ (t : List Token). content_of (drop start xs) ++> t) after in
    parts_are zs xs start around (affixed_content b a (content_of (drop start xs)))
    (tz ∙ ap (take start) is ∙ take-append-le start xs (drop n ys) (omega arith))
    (cz ∙ ap (λ (t : List Token). b ++> t) inner ∙ sym (affixed_is b a (content_of (drop start xs)) (some_inner xs start around (omega arith))))

-- the joined children become an element
pub boxed : (xs ys rest zs : List ElemChild) (start : ℕ) (around : List ℕ) (e : elem.Elem) → start < length xs
    → take start ys ≡ take start xs → content_of (drop start ys) ≡ content_of (drop start xs) → IsJoined (drop start ys)
    → e.children.0.items ≡ drop start ys → rest ≡ take start ys → zs ≡ rest ++ variants.Elem e ∷ []
    → open_parts zs start around ≡ record { inner = elem_content e.display (optional_meta e.meta) (open_parts xs start around).inner; outer = (open_parts xs start around).outer }
boxed xs ys rest zs start around e h t c j ke re ze =
    let b = some_inner xs start around h in
    let more : 0 < length (drop start ys) = some_children (drop start ys) (rw c b) in
    let count = length-drop start ys in
    let len : length rest ≡ start = ap length re ∙ length-take-le start ys (omega (arith, more, count)) in
    let none : content_of (drop start rest) ≡ [] = ap content_of (drop_all start rest (omega (arith, len))) in
    let inside : content_of (drop start xs) ≡ tokens e.children = sym (tokens_out e.children ∙ ap (flat_map child_tokens) ke ∙ j ∙ c) in
    let box = elem_box e (content_of (drop start xs)) inside (rw ke more) in
    let outer : take start zs ≡ take start xs = ap (take start) ze ∙ take-append-le start rest (variants.Elem e ∷ []) (omega (arith, len)) ∙ ap (take start) re ∙ take-take start start ys (omega arith) ∙ t in
    parts_are zs xs start around (elem_content e.display (optional_meta e.meta) (content_of (drop start xs))) outer
    (ap (λ (l : List ElemChild). content_of (drop start l)) ze ∙ ap content_of (drop-append-le start rest (variants.Elem e ∷ []) (omega (arith, len))) ∙ content-push (drop start rest) (variants.Elem e) ∙ ap (λ (l : List Token). l ++> child_tokens (variants.Elem e)) none ∙ box)

-- no content is added to a part without children
pub closed_none : (p : OpenParts) (c : List Token) → p.inner ≡ [] → c ≡ [] → close_part p.inner p ≡ close_part c p
closed_none p c h e = ap (λ (l : List Token). close_part l p) (h ∙ sym e)

pub elem_none : (d : Option Display) (m : Option Meta) (l : List Token) → l ≡ [] → elem_content d m l ≡ []
elem_none d m l e = ap (elem_content d m) e

pub affixed_none : (b a l : List Token) → l ≡ [] → affixed_content b a l ≡ []
affixed_none b a l e = ap (affixed_content b a) e

-- whether the innermost part has children, by the test of it
pub without_children : (xs : List ElemChild) (start : ℕ) (around : List ℕ) → not (has_children (open_parts xs start around).inner) ≡ true → (open_parts xs start around).inner ≡ []
without_children xs start around h = goes (open_parts xs start around).inner h
  where
    goes : (l : List Token) → not (has_children l) ≡ true → l ≡ []
    goes [] h = refl
    goes (t ∷ l) h = absurd (cc h)

pub with_children : (xs : List ElemChild) (start : ℕ) (around : List ℕ) → not (has_children (open_parts xs start around).inner) ≡ false → start < length xs
with_children xs start around h = let m = goes (drop start xs) h in omega (arith, m, length-drop start xs)
  where
    goes : (l : List ElemChild) → not (has_children (content_of l)) ≡ false → 0 < length l
    goes [] h = absurd (cc h)
    goes (k ∷ l) h = omega arith
