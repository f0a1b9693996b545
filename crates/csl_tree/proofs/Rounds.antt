-- A round keeps the styled value. A normal tree is unchanged, and any other has fewer nodes.
use Rattle.std.proofs.Common.{◌≡◌, ℕ, ◌+◌, ◌<◌, ◌≤◌, Bool, true, false, not, ◌&&◌, ◌||◌, cond, List, [], ◌∷◌, ◌++◌, refl, sym, ap, ◌∙◌, append_assoc, arith}
use Rattle.std.specs.Prelude.{Option, Some, None, if◌then◌else◌}
use Rattle.std.proofs.lemmas.List.{append-nil, map-append}
use Rattle.csl_elements.specs.declared.formatting.Display.{Display}
use Rattle.csl_tree.specs.declared.formatting.Formatting.{Formatting}
use Rattle.csl_tree.specs.Formatting.{same_formatting}
use Rattle.csl_tree.specs.Tokens.{Token, Meta, text, solid, elem_around}
use Rattle.csl_tree.specs.Tree.{Leaf, Tree, empty_tree, text_then, leaf_then, element_then, ◌⊕◌, leaf_token}
use Rattle.csl_tree.specs.Simplify.{is_plain, is_empty_tree, with_text, simplified_elem, simplify_once_after, simplify_once, styled_bytes, styled_value, begins_with, is_normal, node_count}
use Rattle.csl_tree.proofs.Joins.{same_formatting-is}

pub ⊕-nothing : (t : Tree) → t ⊕ empty_tree ≡ t
⊕-nothing empty_tree = refl
⊕-nothing (text_then bs f t) = ap (λ u. text_then bs f u) (⊕-nothing t)
⊕-nothing (leaf_then l t) = ap (λ u. leaf_then l u) (⊕-nothing t)
⊕-nothing (element_then d m inside t) = ap (λ u. element_then d m inside u) (⊕-nothing t)

pub ⊕-assoc : (t u v : Tree) → (t ⊕ u) ⊕ v ≡ t ⊕ (u ⊕ v)
⊕-assoc empty_tree u v = refl
⊕-assoc (text_then bs f t) u v = ap (λ w. text_then bs f w) (⊕-assoc t u v)
⊕-assoc (leaf_then l t) u v = ap (λ w. leaf_then l w) (⊕-assoc t u v)
⊕-assoc (element_then d m inside t) u v = ap (λ w. element_then d m inside w) (⊕-assoc t u v)

-- ---- the styled value

abbrev shown : Option Display → Option Meta → List Token → List Token
shown d m inside = if is_plain d m then inside else elem_around d m inside

pub styled-⊕ : (t u : Tree) → styled_value (t ⊕ u) ≡ styled_value t ++ styled_value u
styled-⊕ empty_tree u = refl
styled-⊕ (text_then bs f t) u = ap (λ l. styled_bytes bs f ++ l) (styled-⊕ t u) ∙ sym (append_assoc (styled_bytes bs f) (styled_value t) (styled_value u))
styled-⊕ (leaf_then l t) u = ap (λ w. solid (leaf_token l) ∷ w) (styled-⊕ t u)
styled-⊕ (element_then d m inside t) u = ap (λ l. shown d m (styled_value inside) ++ l) (styled-⊕ t u) ∙ sym (append_assoc (shown d m (styled_value inside)) (styled_value t) (styled_value u))

apart-append : (xs ys : List ℕ) (f : Formatting) → styled_bytes (xs ++ ys) f ≡ styled_bytes xs f ++ styled_bytes ys f
apart-append xs ys f = map-append (λ b. text (b ∷ []) f) xs ys

-- a text that may join the last one
styled-last : (cs bs : List ℕ) (g f : Formatting) → styled_value (with_text (text_then cs g empty_tree) bs f) ≡ styled_bytes cs g ++ styled_bytes bs f
styled-last cs bs g f =
    elim (same_formatting g f) as (λ s. same_formatting g f ≡ s → styled_value (cond s (text_then (cs ++ bs) g empty_tree) (text_then cs g (text_then bs f empty_tree))) ≡ styled_bytes cs g ++ styled_bytes bs f) [
      | true ↦ λ h. append-nil (styled_bytes (cs ++ bs) g) ∙ apart-append cs bs g ∙ ap (λ k. styled_bytes cs g ++ styled_bytes bs k) (same_formatting-is g f h)
      | false ↦ λ h. ap (λ l. styled_bytes cs g ++ l) (append-nil (styled_bytes bs f))
    ] refl

styled-with_text : (t : Tree) (bs : List ℕ) (f : Formatting) → styled_value (with_text t bs f) ≡ styled_value t ++ styled_bytes bs f
styled-with_text empty_tree bs f = append-nil (styled_bytes bs f)
styled-with_text (text_then cs g empty_tree) bs f = styled-last cs bs g f ∙ ap (λ l. l ++ styled_bytes bs f) (sym (append-nil (styled_bytes cs g)))
styled-with_text (text_then cs g (text_then ds h t)) bs f = ap (λ l. styled_bytes cs g ++ l) (styled-with_text (text_then ds h t) bs f) ∙ sym (append_assoc (styled_bytes cs g) (styled_value (text_then ds h t)) (styled_bytes bs f))
styled-with_text (text_then cs g (leaf_then l t)) bs f = ap (λ l. styled_bytes cs g ++ l) (styled-with_text (leaf_then l t) bs f) ∙ sym (append_assoc (styled_bytes cs g) (styled_value (leaf_then l t)) (styled_bytes bs f))
styled-with_text (text_then cs g (element_then d m inside t)) bs f = ap (λ l. styled_bytes cs g ++ l) (styled-with_text (element_then d m inside t) bs f) ∙ sym (append_assoc (styled_bytes cs g) (styled_value (element_then d m inside t)) (styled_bytes bs f))
styled-with_text (leaf_then l t) bs f = ap (λ w. solid (leaf_token l) ∷ w) (styled-with_text t bs f)
styled-with_text (element_then d m inside t) bs f = ap (λ l. shown d m (styled_value inside) ++ l) (styled-with_text t bs f) ∙ sym (append_assoc (shown d m (styled_value inside)) (styled_value t) (styled_bytes bs f))

styled-stands_for : (d : Option Display) (m : Option Meta) (inside rounded : Tree) → styled_value rounded ≡ styled_value inside → styled_value (simplified_elem d m inside rounded) ≡ shown d m (styled_value inside)
styled-stands_for None None inside rounded h = refl
styled-stands_for None (Some m) inside rounded h = append-nil (elem_around None (Some m) (styled_value rounded)) ∙ ap (elem_around None (Some m)) h
styled-stands_for (Some d) m inside rounded h = append-nil (elem_around (Some d) m (styled_value rounded)) ∙ ap (elem_around (Some d) m) h

-- the tokens before a node, its own, and then the rest
in_turn : (b t : List Token) (x y : List Token) → x ≡ b ++ y → x ++ t ≡ b ++ (y ++ t)
in_turn b t x y h = ap (λ l. l ++ t) h ∙ append_assoc b y t

styled-round_behind : (b t : Tree) → styled_value (simplify_once_after b t) ≡ styled_value b ++ styled_value t
styled-round_behind b empty_tree = sym (append-nil (styled_value b))
styled-round_behind b (text_then bs f t) = styled-round_behind (with_text b bs f) t ∙ in_turn (styled_value b) (styled_value t) (styled_value (with_text b bs f)) (styled_bytes bs f) (styled-with_text b bs f)
styled-round_behind b (leaf_then l t) = styled-round_behind (b ⊕ leaf_then l empty_tree) t ∙ in_turn (styled_value b) (styled_value t) (styled_value (b ⊕ leaf_then l empty_tree)) (solid (leaf_token l) ∷ []) (styled-⊕ b (leaf_then l empty_tree))
styled-round_behind b (element_then d m inside t) =
    let put = simplified_elem d m inside (simplify_once_after empty_tree inside) in
    let same : styled_value put ≡ shown d m (styled_value inside) = styled-stands_for d m inside (simplify_once_after empty_tree inside) (styled-round_behind empty_tree inside) in
    styled-round_behind (b ⊕ put) t ∙ in_turn (styled_value b) (styled_value t) (styled_value (b ⊕ put)) (shown d m (styled_value inside)) (styled-⊕ b put ∙ ap (λ l. styled_value b ++ l) same)

pub styled_kept : (t : Tree) → styled_value (simplify_once t) ≡ styled_value t
styled_kept t = styled-round_behind empty_tree t

-- ---- whether a text joins

-- the last node is a text of this formatting
abbrev ends_with : Tree → Formatting → Bool
ends_with empty_tree f = false
ends_with (text_then cs g t) f = if is_empty_tree t then same_formatting g f else ends_with t f
ends_with (leaf_then l t) f = ends_with t f
ends_with (element_then d m inside t) f = ends_with t f

something : (t u : Tree) → is_empty_tree u ≡ false → is_empty_tree (t ⊕ u) ≡ false
something empty_tree u h = h
something (text_then cs g t) u h = refl
something (leaf_then l t) u h = refl
something (element_then d m inside t) u h = refl

-- two trees in a row end as the second, if that is not empty
ends_with-⊕ : (t u : Tree) (f : Formatting) → is_empty_tree u ≡ false → ends_with (t ⊕ u) f ≡ ends_with u f
ends_with-⊕ empty_tree u f h = refl
ends_with-⊕ (text_then cs g t) u f h = ap (λ b. cond b (same_formatting g f) (ends_with (t ⊕ u) f)) (something t u h) ∙ ends_with-⊕ t u f h
ends_with-⊕ (leaf_then l t) u f h = ends_with-⊕ t u f h
ends_with-⊕ (element_then d m inside t) u f h = ends_with-⊕ t u f h

with_text-apart : (t : Tree) (bs : List ℕ) (f : Formatting) → ends_with t f ≡ false → with_text t bs f ≡ t ⊕ text_then bs f empty_tree
with_text-apart empty_tree bs f h = refl
with_text-apart (text_then cs g empty_tree) bs f h = ap (λ s. cond s (text_then (cs ++ bs) g empty_tree) (text_then cs g (text_then bs f empty_tree))) h
with_text-apart (text_then cs g (text_then ds k t)) bs f h = ap (λ u. text_then cs g u) (with_text-apart (text_then ds k t) bs f h)
with_text-apart (text_then cs g (leaf_then l t)) bs f h = ap (λ u. text_then cs g u) (with_text-apart (leaf_then l t) bs f h)
with_text-apart (text_then cs g (element_then d m inside t)) bs f h = ap (λ u. text_then cs g u) (with_text-apart (element_then d m inside t) bs f h)
with_text-apart (leaf_then l t) bs f h = ap (λ u. leaf_then l u) (with_text-apart t bs f h)
with_text-apart (element_then d m inside t) bs f h = ap (λ u. element_then d m inside u) (with_text-apart t bs f h)

nodes-joined : (t : Tree) (bs : List ℕ) (f : Formatting) → ends_with t f ≡ true → node_count (with_text t bs f) ≡ node_count t
nodes-joined empty_tree bs f h = absurd (cc h)
nodes-joined (text_then cs g empty_tree) bs f h = ap (λ s. node_count (cond s (text_then (cs ++ bs) g empty_tree) (text_then cs g (text_then bs f empty_tree)))) h
nodes-joined (text_then cs g (text_then ds k t)) bs f h = ap (λ n. 1 + n) (nodes-joined (text_then ds k t) bs f h)
nodes-joined (text_then cs g (leaf_then l t)) bs f h = ap (λ n. 1 + n) (nodes-joined (leaf_then l t) bs f h)
nodes-joined (text_then cs g (element_then d m inside t)) bs f h = ap (λ n. 1 + n) (nodes-joined (element_then d m inside t) bs f h)
nodes-joined (leaf_then l t) bs f h = ap (λ n. 1 + n) (nodes-joined t bs f h)
nodes-joined (element_then d m inside t) bs f h = ap (λ n. 1 + (node_count inside + n)) (nodes-joined t bs f h)

pub nodes-⊕ : (t u : Tree) → node_count (t ⊕ u) ≡ node_count t + node_count u
nodes-⊕ empty_tree u = omega arith
nodes-⊕ (text_then cs g t) u = let h = nodes-⊕ t u in omega (arith, h)
nodes-⊕ (leaf_then l t) u = let h = nodes-⊕ t u in omega (arith, h)
nodes-⊕ (element_then d m inside t) u = let h = nodes-⊕ t u in omega (arith, h)

-- the first node of the second tree joins the last of the first
abbrev meets : Tree → Tree → Bool
meets b empty_tree = false
meets b (text_then bs f t) = ends_with b f
meets b (leaf_then l t) = false
meets b (element_then d m inside t) = false

-- no node is before the tree
meets-nothing : (t : Tree) → meets empty_tree t ≡ false
meets-nothing empty_tree = refl
meets-nothing (text_then bs f t) = refl
meets-nothing (leaf_then l t) = refl
meets-nothing (element_then d m inside t) = refl

meets-text : (b : Tree) (bs : List ℕ) (f : Formatting) (t : Tree) → meets (b ⊕ text_then bs f empty_tree) t ≡ begins_with f t
meets-text b bs f empty_tree = refl
meets-text b bs f (text_then cs g t) = ends_with-⊕ b (text_then bs f empty_tree) g refl
meets-text b bs f (leaf_then l t) = refl
meets-text b bs f (element_then d m inside t) = refl

meets-leaf : (b : Tree) (l : Leaf) (t : Tree) → meets (b ⊕ leaf_then l empty_tree) t ≡ false
meets-leaf b l empty_tree = refl
meets-leaf b l (text_then cs g t) = ends_with-⊕ b (leaf_then l empty_tree) g refl
meets-leaf b l (leaf_then k t) = refl
meets-leaf b l (element_then d m inside t) = refl

meets-element : (b : Tree) (c : Option Display) (k : Option Meta) (inner t : Tree) → meets (b ⊕ element_then c k inner empty_tree) t ≡ false
meets-element b c k inner empty_tree = refl
meets-element b c k inner (text_then cs g t) = ends_with-⊕ b (element_then c k inner empty_tree) g refl
meets-element b c k inner (leaf_then l t) = refl
meets-element b c k inner (element_then d m inside t) = refl

-- ---- a normal tree is unchanged

first_false : (p q : Bool) → (not p && q) ≡ true → p ≡ false
first_false true q h = absurd (cc h)
first_false false q h = refl

second_true : (p q : Bool) → (p && q) ≡ true → q ≡ true
second_true true q h = h
second_true false q h = absurd (cc h)

first_true : (p q : Bool) → (p && q) ≡ true → p ≡ true
first_true true q h = refl
first_true false q h = h

-- an element that is not plain stays, and a plain one is replaced by the tree inside
pub stands_for-itself : (d : Option Display) (m : Option Meta) (inside rounded : Tree) → is_plain d m ≡ false → simplified_elem d m inside rounded ≡ element_then d m rounded empty_tree
stands_for-itself d m inside rounded h = ap (λ p. cond p inside (element_then d m rounded empty_tree)) h

pub stands_for-inside : (d : Option Display) (m : Option Meta) (inside rounded : Tree) → is_plain d m ≡ true → simplified_elem d m inside rounded ≡ inside
stands_for-inside d m inside rounded h = ap (λ p. cond p inside (element_then d m rounded empty_tree)) h

normal_stays : (b t : Tree) → meets b t ≡ false → is_normal t ≡ true → simplify_once_after b t ≡ b ⊕ t
normal_stays b empty_tree h n = sym (⊕-nothing b)
normal_stays b (text_then bs f t) h n =
    let put = b ⊕ text_then bs f empty_tree in
    let apart_here : meets put t ≡ false = meets-text b bs f t ∙ first_false (begins_with f t) (is_normal t) n in
    ap (λ u. simplify_once_after u t) (with_text-apart b bs f h) ∙ normal_stays put t apart_here (second_true (not (begins_with f t)) (is_normal t) n) ∙ ⊕-assoc b (text_then bs f empty_tree) t
normal_stays b (leaf_then l t) h n = normal_stays (b ⊕ leaf_then l empty_tree) t (meets-leaf b l t) n ∙ ⊕-assoc b (leaf_then l empty_tree) t
normal_stays b (element_then d m inside t) h n =
    let rest : (is_normal inside && is_normal t) ≡ true = second_true (not (is_plain d m)) (is_normal inside && is_normal t) n in
    let within : simplify_once inside ≡ inside = normal_stays empty_tree inside (meets-nothing inside) (first_true (is_normal inside) (is_normal t) rest) in
    let itself : simplified_elem d m inside (simplify_once inside) ≡ element_then d m inside empty_tree = stands_for-itself d m inside (simplify_once inside) (first_false (is_plain d m) (is_normal inside && is_normal t) n) ∙ ap (λ u. element_then d m u empty_tree) within in
    ap (λ u. simplify_once_after (b ⊕ u) t) itself ∙ normal_stays (b ⊕ element_then d m inside empty_tree) t (meets-element b d m inside t) (second_true (is_normal inside) (is_normal t) rest) ∙ ⊕-assoc b (element_then d m inside empty_tree) t

pub normal_unchanged : (t : Tree) → is_normal t ≡ true → simplify_once t ≡ t
normal_unchanged t n = normal_stays empty_tree t (meets-nothing t) n

-- ---- any other tree has fewer nodes after a round

nodes-with_text : (t : Tree) (bs : List ℕ) (f : Formatting) → node_count (with_text t bs f) ≤ node_count t + 1
nodes-with_text t bs f =
    elim (ends_with t f) as (λ s. ends_with t f ≡ s → node_count (with_text t bs f) ≤ node_count t + 1) [
      | true ↦ λ h. let e = nodes-joined t bs f h in omega (arith, e)
      | false ↦ λ h. let e : node_count (with_text t bs f) ≡ node_count t + node_count (text_then bs f empty_tree) = ap node_count (with_text-apart t bs f h) ∙ nodes-⊕ t (text_then bs f empty_tree) in omega (arith, e)
    ] refl

nodes-stands_for : (d : Option Display) (m : Option Meta) (inside rounded : Tree) → node_count rounded ≤ node_count inside → node_count (simplified_elem d m inside rounded) ≤ node_count inside + 1
nodes-stands_for None None inside rounded h = omega (arith, h)
nodes-stands_for None (Some m) inside rounded h = omega (arith, h)
nodes-stands_for (Some d) m inside rounded h = omega (arith, h)

nodes-round_behind : (b t : Tree) → node_count (simplify_once_after b t) ≤ node_count b + node_count t
nodes-round_behind b empty_tree = omega arith
nodes-round_behind b (text_then bs f t) = let h = nodes-round_behind (with_text b bs f) t in let e = nodes-with_text b bs f in omega (arith, h, e)
nodes-round_behind b (leaf_then l t) = let h = nodes-round_behind (b ⊕ leaf_then l empty_tree) t in let e = nodes-⊕ b (leaf_then l empty_tree) in omega (arith, h, e)
nodes-round_behind b (element_then d m inside t) =
    let put = simplified_elem d m inside (simplify_once_after empty_tree inside) in
    let within : node_count (simplify_once_after empty_tree inside) ≤ node_count inside = omega (arith, nodes-round_behind empty_tree inside) in
    let h = nodes-round_behind (b ⊕ put) t in
    let e = nodes-⊕ b put in
    let k = nodes-stands_for d m inside (simplify_once_after empty_tree inside) within in
    omega (arith, h, e, k)

-- the tree joins the tree before it, or is not normal
abbrev unfinished : Tree → Tree → Bool
unfinished b t = meets b t || not (is_normal t)

not_both : (p q : Bool) → not (not p && q) ≡ true → (p || not q) ≡ true
not_both true q h = refl
not_both false q h = h

or_true : (p : Bool) → (p || true) ≡ true
or_true true = refl
or_true false = refl

fewer_behind : (b t : Tree) → unfinished b t ≡ true → node_count (simplify_once_after b t) < node_count b + node_count t
fewer_behind b empty_tree h = absurd (cc h)
fewer_behind b (text_then bs f t) h =
    elim (ends_with b f) as (λ s. ends_with b f ≡ s → (s || not (not (begins_with f t) && is_normal t)) ≡ true → node_count (simplify_once_after (with_text b bs f) t) < node_count b + node_count (text_then bs f t)) [
      | true ↦ λ e k. let same = nodes-joined b bs f e in let rest = nodes-round_behind (with_text b bs f) t in omega (arith, same, rest)
      | false ↦ λ e k.
          let put = b ⊕ text_then bs f empty_tree in
          let left : unfinished put t ≡ true = ap (λ s. s || not (is_normal t)) (meets-text b bs f t) ∙ not_both (begins_with f t) (is_normal t) k in
          let rest = fewer_behind put t left in
          let same : node_count (simplify_once_after (with_text b bs f) t) ≡ node_count (simplify_once_after put t) = ap (λ u. node_count (simplify_once_after u t)) (with_text-apart b bs f e) in
          let size = nodes-⊕ b (text_then bs f empty_tree) in
          omega (arith, rest, same, size)
    ] refl h
fewer_behind b (leaf_then l t) h =
    let left : unfinished (b ⊕ leaf_then l empty_tree) t ≡ true = ap (λ s. s || not (is_normal t)) (meets-leaf b l t) ∙ h in
    let rest = fewer_behind (b ⊕ leaf_then l empty_tree) t left in
    let size = nodes-⊕ b (leaf_then l empty_tree) in
    omega (arith, rest, size)
fewer_behind b (element_then d m inside t) h =
    let rounded = simplify_once_after empty_tree inside in
    let put = simplified_elem d m inside rounded in
    let within : node_count rounded ≤ node_count inside = omega (arith, nodes-round_behind empty_tree inside) in
    let size = nodes-⊕ b put in
    let at_most = nodes-round_behind (b ⊕ put) t in
    elim (is_plain d m) as (λ p. is_plain d m ≡ p → not (not p && (is_normal inside && is_normal t)) ≡ true → node_count (simplify_once_after (b ⊕ put) t) < node_count b + (1 + (node_count inside + node_count t))) [
      | true ↦ λ e k. let same : node_count put ≡ node_count inside = ap node_count (stands_for-inside d m inside rounded e) in omega (arith, size, at_most, same)
      | false ↦ λ e k.
          let same : node_count put ≡ node_count (element_then d m rounded empty_tree) = ap node_count (stands_for-itself d m inside rounded e) in
          elim (is_normal inside) as (λ p. is_normal inside ≡ p → not (p && is_normal t) ≡ true → node_count (simplify_once_after (b ⊕ put) t) < node_count b + (1 + (node_count inside + node_count t))) [
            | true ↦ λ i j.
                let left : unfinished (b ⊕ put) t ≡ true = ap (λ u. unfinished (b ⊕ u) t) (stands_for-itself d m inside rounded e) ∙ ap (λ s. s || not (is_normal t)) (meets-element b d m rounded t) ∙ j in
                let rest = fewer_behind (b ⊕ put) t left in
                omega (arith, size, same, within, rest)
            | false ↦ λ i j.
                let left : unfinished empty_tree inside ≡ true = ap (λ s. meets empty_tree inside || not s) i ∙ or_true (meets empty_tree inside) in
                let rest = fewer_behind empty_tree inside left in
                omega (arith, size, same, at_most, rest)
          ] refl k
    ] refl h

pub fewer : (t : Tree) → is_normal t ≡ false → node_count (simplify_once t) < node_count t
fewer t n =
    let left : unfinished empty_tree t ≡ true = ap (λ s. meets empty_tree t || not s) n ∙ or_true (meets empty_tree t) in
    let rest = fewer_behind empty_tree t left in
    omega (arith, rest)
