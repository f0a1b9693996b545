-- A tree is normal after one round for each of its nodes. Normal trees without empty texts are
-- equal if their styled values are.
use Rattle.std.proofs.Common.{◌≡◌, ℕ, zero, suc, ◌≤◌, Bool, true, false, not, ◌&&◌, cond, List, [], ◌∷◌, ◌++◌, ◌↔◌, refl, sym, ap, ◌∙◌, append_assoc, arith}
use Rattle.std.specs.Prelude.{Option, Some, None}
use Rattle.std.proofs.lemmas.List.{append-nil}
use Rattle.csl_elements.specs.declared.formatting.Display.{Display}
use Rattle.csl_tree.specs.declared.formatting.Formatting.{Formatting}
use Rattle.csl_tree.specs.Formatting.{same_formatting}
use Rattle.csl_tree.specs.Tokens.{Token, Meta, text, solid, elem_start, elem_end, elem_around}
use Rattle.csl_tree.specs.Content.{text_before}
use Rattle.csl_tree.specs.Tree.{Tree, empty_tree, text_then, leaf_then, element_then, ◌⊕◌, leaf_token, tokens_of}
use Rattle.csl_tree.specs.Simplify.{is_plain, is_empty_tree, with_text, simplified_elem, simplify_once_after, simplify_once, styled_bytes, styled_value, begins_with, is_normal, node_count, simplify_times, normal_form, is_nonempty_text, has_no_empty_text}
use Rattle.csl_tree.proofs.Joins.{same_formatting-refl, text_before-same}
use Rattle.csl_tree.proofs.TreeTokens.{tokens_tell}
use Rattle.csl_tree.proofs.Rounds.{styled_kept, normal_unchanged, fewer}

-- ---- one round for each node

normal_for_ever : (n : ℕ) (t : Tree) → is_normal t ≡ true → is_normal (simplify_times n t) ≡ true
normal_for_ever zero t h = h
normal_for_ever (suc n) t h = normal_for_ever n (simplify_once t) (ap is_normal (normal_unchanged t h) ∙ h)

enough : (n : ℕ) (t : Tree) → node_count t ≤ n → is_normal (simplify_times n t) ≡ true
enough zero t h =
    elim (is_normal t) as (λ s. is_normal t ≡ s → is_normal t ≡ true) [
      | true ↦ λ e. e
      | false ↦ λ e. let less = fewer t e in absurd (omega (arith, less, h))
    ] refl
enough (suc n) t h =
    elim (is_normal t) as (λ s. is_normal t ≡ s → is_normal (simplify_times n (simplify_once t)) ≡ true) [
      | true ↦ λ e. normal_for_ever (suc n) t e
      | false ↦ λ e. let less = fewer t e in enough n (simplify_once t) (omega (arith, less, h))
    ] refl

pub ends_normal : (t : Tree) → is_normal (normal_form t) ≡ true
ends_normal t = enough (node_count t) t (omega arith)

pub rounds_kept : (n : ℕ) (t : Tree) → styled_value (simplify_times n t) ≡ styled_value t
rounds_kept zero t = refl
rounds_kept (suc n) t = rounds_kept n (simplify_once t) ∙ styled_kept t

-- ---- no text becomes empty

both : (p q : Bool) → p ≡ true → q ≡ true → (p && q) ≡ true
both p q h k = ap (λ s. s && q) h ∙ k

pub left : (p q : Bool) → (p && q) ≡ true → p ≡ true
left true q h = refl
left false q h = h

pub right : (p q : Bool) → (p && q) ≡ true → q ≡ true
right true q h = h
right false q h = absurd (cc h)

no_empty-⊕ : (t u : Tree) → has_no_empty_text t ≡ true → has_no_empty_text u ≡ true → has_no_empty_text (t ⊕ u) ≡ true
no_empty-⊕ empty_tree u h k = k
no_empty-⊕ (text_then bs f t) u h k = both (is_nonempty_text bs) (has_no_empty_text (t ⊕ u)) (left (is_nonempty_text bs) (has_no_empty_text t) h) (no_empty-⊕ t u (right (is_nonempty_text bs) (has_no_empty_text t) h) k)
no_empty-⊕ (leaf_then l t) u h k = no_empty-⊕ t u h k
no_empty-⊕ (element_then d m inside t) u h k = both (has_no_empty_text inside) (has_no_empty_text (t ⊕ u)) (left (has_no_empty_text inside) (has_no_empty_text t) h) (no_empty-⊕ t u (right (has_no_empty_text inside) (has_no_empty_text t) h) k)

filled-append : (bs cs : List ℕ) → is_nonempty_text bs ≡ true → is_nonempty_text (bs ++ cs) ≡ true
filled-append [] cs h = absurd (cc h)
filled-append (b ∷ bs) cs h = refl

joined_no_empty : (cs : List ℕ) (g : Formatting) (u : Tree) (bs : List ℕ) (s : Bool) → is_nonempty_text cs ≡ true → has_no_empty_text u ≡ true → has_no_empty_text (cond s (text_then (cs ++ bs) g empty_tree) (text_then cs g u)) ≡ true
joined_no_empty cs g u bs true h k = both (is_nonempty_text (cs ++ bs)) true (filled-append cs bs h) refl
joined_no_empty cs g u bs false h k = both (is_nonempty_text cs) (has_no_empty_text u) h k

no_empty-with_text : (t : Tree) (bs : List ℕ) (f : Formatting) → has_no_empty_text t ≡ true → is_nonempty_text bs ≡ true → has_no_empty_text (with_text t bs f) ≡ true
no_empty-with_text empty_tree bs f h k = both (is_nonempty_text bs) true k refl
no_empty-with_text (text_then cs g t) bs f h k = joined_no_empty cs g (with_text t bs f) bs (is_empty_tree t && same_formatting g f) (left (is_nonempty_text cs) (has_no_empty_text t) h) (no_empty-with_text t bs f (right (is_nonempty_text cs) (has_no_empty_text t) h) k)
no_empty-with_text (leaf_then l t) bs f h k = no_empty-with_text t bs f h k
no_empty-with_text (element_then d m inside t) bs f h k = both (has_no_empty_text inside) (has_no_empty_text (with_text t bs f)) (left (has_no_empty_text inside) (has_no_empty_text t) h) (no_empty-with_text t bs f (right (has_no_empty_text inside) (has_no_empty_text t) h) k)

no_empty-stands_for : (d : Option Display) (m : Option Meta) (inside rounded : Tree) → has_no_empty_text inside ≡ true → has_no_empty_text rounded ≡ true → has_no_empty_text (simplified_elem d m inside rounded) ≡ true
no_empty-stands_for None None inside rounded h k = h
no_empty-stands_for None (Some m) inside rounded h k = both (has_no_empty_text rounded) true k refl
no_empty-stands_for (Some d) m inside rounded h k = both (has_no_empty_text rounded) true k refl

no_empty-behind : (b t : Tree) → has_no_empty_text b ≡ true → has_no_empty_text t ≡ true → has_no_empty_text (simplify_once_after b t) ≡ true
no_empty-behind b empty_tree h k = h
no_empty-behind b (text_then bs f t) h k = no_empty-behind (with_text b bs f) t (no_empty-with_text b bs f h (left (is_nonempty_text bs) (has_no_empty_text t) k)) (right (is_nonempty_text bs) (has_no_empty_text t) k)
no_empty-behind b (leaf_then l t) h k = no_empty-behind (b ⊕ leaf_then l empty_tree) t (no_empty-⊕ b (leaf_then l empty_tree) h refl) k
no_empty-behind b (element_then d m inside t) h k =
    let within = left (has_no_empty_text inside) (has_no_empty_text t) k in
    let put = simplified_elem d m inside (simplify_once_after empty_tree inside) in
    no_empty-behind (b ⊕ put) t (no_empty-⊕ b put h (no_empty-stands_for d m inside (simplify_once_after empty_tree inside) within (no_empty-behind empty_tree inside refl within))) (right (has_no_empty_text inside) (has_no_empty_text t) k)

no_empty_ever : (n : ℕ) (t : Tree) → has_no_empty_text t ≡ true → has_no_empty_text (simplify_times n t) ≡ true
no_empty_ever zero t h = h
no_empty_ever (suc n) t h = no_empty_ever n (simplify_once t) (no_empty-behind empty_tree t refl h)

-- ---- the tokens of a styled value, with its texts joined

abbrev gathered : List Token → List Token
gathered [] = []
gathered (text bs f ∷ ts) = text_before bs f (gathered ts)
gathered (solid s ∷ ts) = solid s ∷ gathered ts

gathered-apart : (b : ℕ) (bs : List ℕ) (f : Formatting) (ts : List Token) → gathered (styled_bytes (b ∷ bs) f ++ ts) ≡ text_before (b ∷ bs) f (gathered ts)
gathered-apart b [] f ts = refl
gathered-apart b (c ∷ bs) f ts = ap (text_before (b ∷ []) f) (gathered-apart c bs f ts) ∙ sym (text_before-same (b ∷ []) (c ∷ bs) f (gathered ts) (same_formatting-refl f))

-- the list does not begin with a text
abbrev Solidly : List Token → Type 0
Solidly [] = Unit {0}
Solidly (text bs f ∷ l) = ⊥
Solidly (solid s ∷ l) = Unit {0}

alone : (bs : List ℕ) (f : Formatting) (r : List Token) → Solidly r → text_before bs f r ≡ text bs f ∷ r
alone bs f [] h = refl
alone bs f (text cs g ∷ r) h = absurd h
alone bs f (solid s ∷ r) h = refl

not_joined : (bs : List ℕ) (f : Formatting) (t : Tree) (r : List Token) → not (begins_with f t) ≡ true → Solidly r → text_before bs f (tokens_of t ++ r) ≡ text bs f ∷ (tokens_of t ++ r)
not_joined bs f empty_tree r h k = alone bs f r k
not_joined bs f (text_then cs g t) r h k =
    elim (same_formatting f g) as (λ s. not s ≡ true → cond s (text (bs ++ cs) f ∷ (tokens_of t ++ r)) (text bs f ∷ text cs g ∷ (tokens_of t ++ r)) ≡ text bs f ∷ text cs g ∷ (tokens_of t ++ r)) [ true ↦ λ e. absurd (cc e) | false ↦ λ e. refl ] h
not_joined bs f (leaf_then l t) r h k = refl
not_joined bs f (element_then d m inside t) r h k = refl

gathered-shown : (d : Option Display) (m : Option Meta) (inside t r : List Token) → gathered ((elem_around d m inside ++ t) ++ r) ≡ solid (elem_start d m) ∷ gathered (inside ++ solid (elem_end d) ∷ (t ++ r))
gathered-shown d m inside t r = ap (λ l. solid (elem_start d m) ∷ gathered l) (append_assoc (inside ++ solid (elem_end d) ∷ []) t r ∙ append_assoc inside (solid (elem_end d) ∷ []) (t ++ r))

pub not_true : (p : Bool) → not p ≡ true → p ≡ false
not_true true h = absurd (cc h)
not_true false h = refl

gathered-styled : (t : Tree) (r : List Token) → is_normal t ≡ true → has_no_empty_text t ≡ true → Solidly (gathered r) → gathered (styled_value t ++ r) ≡ tokens_of t ++ gathered r
gathered-styled empty_tree r n e h = refl
gathered-styled (text_then [] f t) r n e h = absurd (cc e)
gathered-styled (text_then (b ∷ bs) f t) r n e h =
    ap gathered (append_assoc (styled_bytes (b ∷ bs) f) (styled_value t) r) ∙ gathered-apart b bs f (styled_value t ++ r)
    ∙ ap (text_before (b ∷ bs) f) (gathered-styled t r (right (not (begins_with f t)) (is_normal t) n) e h)
    ∙ not_joined (b ∷ bs) f t (gathered r) (left (not (begins_with f t)) (is_normal t) n) h
gathered-styled (leaf_then l t) r n e h = ap (λ w. solid (leaf_token l) ∷ w) (gathered-styled t r n e h)
gathered-styled (element_then d m inside t) r n e h =
    let others : (is_normal inside && is_normal t) ≡ true = right (not (is_plain d m)) (is_normal inside && is_normal t) n in
    let unlike : is_plain d m ≡ false = not_true (is_plain d m) (left (not (is_plain d m)) (is_normal inside && is_normal t) n) in
    let rest = gathered-styled t r (right (is_normal inside) (is_normal t) others) (right (has_no_empty_text inside) (has_no_empty_text t) e) h in
    let within = gathered-styled inside (solid (elem_end d) ∷ (styled_value t ++ r)) (left (is_normal inside) (is_normal t) others) (left (has_no_empty_text inside) (has_no_empty_text t) e) tt in
    ap (λ p. gathered ((cond p (styled_value inside) (elem_around d m (styled_value inside)) ++ styled_value t) ++ r)) unlike
    ∙ gathered-shown d m (styled_value inside) (styled_value t) r
    ∙ ap (λ l. solid (elem_start d m) ∷ l) (within ∙ ap (λ l. tokens_of inside ++ solid (elem_end d) ∷ l) rest)
    ∙ sym (ap (λ l. solid (elem_start d m) ∷ l) (append_assoc (tokens_of inside ++ solid (elem_end d) ∷ []) (tokens_of t) (gathered r) ∙ append_assoc (tokens_of inside) (solid (elem_end d) ∷ []) (tokens_of t ++ gathered r)))

gathered_tokens : (t : Tree) → is_normal t ≡ true → has_no_empty_text t ≡ true → gathered (styled_value t) ≡ tokens_of t
gathered_tokens t n e = ap gathered (sym (append-nil (styled_value t))) ∙ gathered-styled t [] n e tt ∙ append-nil (tokens_of t)

pub styled_tells : (t u : Tree) → is_normal t ≡ true → is_normal u ≡ true → has_no_empty_text t ≡ true → has_no_empty_text u ≡ true → styled_value t ≡ styled_value u → t ≡ u
styled_tells t u n k e i h = tokens_tell t u (sym (gathered_tokens t n e) ∙ ap gathered h ∙ gathered_tokens u k i)

-- the normal forms of trees without empty texts are equal exactly if the styled values are
pub end_equal : (t u : Tree) → has_no_empty_text t ≡ true → has_no_empty_text u ≡ true → (normal_form t ≡ normal_form u) ↔ (styled_value t ≡ styled_value u)
end_equal t u e i = (
  λ h. sym (rounds_kept (node_count t) t) ∙ ap styled_value h ∙ rounds_kept (node_count u) u,
  λ h. styled_tells (simplify_times (node_count t) t) (simplify_times (node_count u) u) (ends_normal t) (ends_normal u) (no_empty_ever (node_count t) t e) (no_empty_ever (node_count u) u i) (rounds_kept (node_count t) t ∙ h ∙ sym (rounds_kept (node_count u) u)),
)
