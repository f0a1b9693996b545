-- A content that ends with the last item of a list, and a content appended to it.
use Rattle.std.proofs.Common.{◌≡◌, ℕ, ◌+◌, ◌<◌, ◌≤◌, List, [], ◌∷◌, ◌++◌, length, get_or, take, set, refl, sym, ap, ◌∙◌, append_assoc, arith}
use Rattle.std.specs.List.{flat_map}
use Rattle.std.proofs.lemmas.Grind.{flat_map-append}
use Rattle.csl_tree.specs.Tokens.{Token, Solid, text, Meta, solid, elem_start, elem_end, markup, link, transparent, optional_meta, child_step, elem_step, children_step, child_tokens, elem_tokens, tokens, has_children}
use Rattle.csl_tree.specs.Formatting.{same_formatting}
use Rattle.csl_tree.specs.Content.{last_before, ◌++>◌, elem_content, layer_content, child_content}
use Rattle.std.proofs.Common.{Bool, true, false, not, cond, Option, vec_len, ◌==◌}
use Rattle.std.specs.Prelude.{Result, Ok, Err, OnErr}
use Rattle.std.specs.Bool.{OnTrue, OnFalse}
use Rattle.std.proofs.lemmas.Grind.{common_steps}
use Rattle.csl_tree.proofs.Trees.{tokens_out, elem_tokens_are}
use Rattle.csl_elements.specs.declared.formatting.Display.{Display}
use Rattle.csl_tree.specs.declared.elem.ElemChild.{ElemChild}
use Rattle.std.specs.Prelude.{string_bytes}
use Rattle.std.specs.declared.string.String.{String}
use Rattle.std.specs.declared.alloc.Global.{Global}
use Rattle.csl_tree.specs.declared.formatting.Formatting.{Formatting}
use Rattle.csl_tree.specs.declared.formatting.Formatted.{Formatted}
use Rattle.csl_tree.specs.declared.elem.Elem as elem
use Rattle.csl_tree.specs.declared.elem.ElemChildren.{ElemChildren}
use Rattle.csl_tree.specs.declared.elem.ElemChild.TheOpen.{ElemChild-F, Text, Elem, Markup, Link, Transparent}
use Rattle.csl_tree.specs.declared.elem.ElemChild.TheViews.{out-ElemChild, outs-Elem}
use Rattle.csl_tree.specs.declared.elem.ElemChild.TheFolds.{fold_out-ElemChild, map-ElemChild, fold-roll-ElemChild}
use Rattle.csl_tree.specs.declared.elem.ElemChild.TheVariants as variants
use Rattle.std.proofs.lemmas.List.{take_more, take_more_set, take_all, append-nil, length-set}

-- a claim that holds in any case holds if a call returns an error
pub on_err : {T E P : Type 0} (r : Result T E) → P → OnErr r P
on_err (Ok x) p = tt
on_err (Err e) p = p

pub on_err_two : {T E P Q : Type 0} (r : Result T E) → P → Q → OnErr r (P × Q)
on_err_two r p q = on_err r (p, q)

-- a claim on a boolean, from another on it
pub on_true : {P Q : Type 0} (b : Bool) → (P → Q) → OnTrue b P → OnTrue b Q
on_true true f p = f p
on_true false f p = tt

pub on_false : {P Q : Type 0} (b : Bool) → (P → Q) → OnFalse b P → OnFalse b Q
on_false true f p = tt
on_false false f p = f p

-- appending a content leaves the tokens before a non-empty end unchanged
pub join_after : (p : List Token) (u : Token) (l b : List Token) → (p ++ u ∷ l) ++> b ≡ p ++ ((u ∷ l) ++> b)
join_after [] u l b = refl
join_after (t ∷ []) u l b = refl
join_after (t ∷ v ∷ p) u l b = ap (λ w. t ∷ w) (join_after (v ∷ p) u l b)

pub solid_last : (a : List Token) (s : Solid) (b : List Token) → (a ++ solid s ∷ []) ++> b ≡ (a ++ solid s ∷ []) ++ b
solid_last a s b = join_after a (solid s) [] b ∙ sym (append_assoc a (solid s ∷ []) b)

-- a list that is not empty, as the tokens of each child are
pub record Begins (l : List Token) : Type 0 where
  pub first : Token
  pub rest : List Token
  pub is : l ≡ first ∷ rest

layer_begins : (x : ElemChild-F ElemChild elem.Elem ElemChildren) → Begins (child_step (map-ElemChild ElemChild elem.Elem ElemChildren (List Token) (List Token) (List Token) child_tokens elem_tokens tokens x))
layer_begins (Text f) = record { first = _; rest = _; is = refl }
layer_begins (Elem e) = record { first = _; rest = _; is = elem_tokens_are e }
layer_begins (Markup s) = record { first = _; rest = _; is = refl }
layer_begins (Link f url) = record { first = _; rest = _; is = refl }
layer_begins (Transparent n f) = record { first = _; rest = _; is = refl }

pub child_begins : (k : ElemChild) → Begins (child_tokens k)
child_begins k = let e = fold_out-ElemChild (List Token) (List Token) (List Token) child_step elem_step children_step k in let b = layer_begins (out-ElemChild k) in record { first = b.first; rest = b.rest; is = e ∙ b.is }

pub elem_child : (e : elem.Elem) → child_tokens (variants.Elem e) ≡ elem_tokens e
elem_child e = ap child_tokens (sym (variants.rolls-Elem e)) ∙ fold-roll-ElemChild (List Token) (List Token) (List Token) child_step elem_step children_step (Elem e)

-- a content after an element does not join it
pub elem_apart : (e : elem.Elem) (b : List Token) → child_tokens (variants.Elem e) ++> b ≡ child_tokens (variants.Elem e) ++ b
elem_apart e b = rw (elem_child e, elem_tokens_are e) (solid_last (solid (elem_start e.display (optional_meta e.meta)) ∷ tokens e.children) (elem_end e.display) b)

module _ {A B : Type 0} (f : A → List B) (xs : List A) (i : ℕ) (last : i + 1 ≡ length xs) where
  pub flat_map-last : (x : A) → x ≡ get_or xs i x → flat_map f xs ≡ flat_map f (take i xs) ++ f x
  flat_map-last x h =
      let one : f (get_or xs i x) ++ [] ≡ f x = append-nil _ ∙ ap f (sym h) in
      sym (ap (flat_map f) (take_all (i + 1) xs (omega arith))) ∙ ap (flat_map f) (take_more xs i x (omega arith)) ∙ flat_map-append f (take i xs) (get_or xs i x ∷ []) ∙ ap (λ l. flat_map f (take i xs) ++ l) one

  pub flat_map-set_last : (y : A) → flat_map f (set xs i y) ≡ flat_map f (take i xs) ++ f y
  flat_map-set_last y =
      sym (ap (flat_map f) (take_all (i + 1) (set xs i y) (omega (arith, length-set {A = A})))) ∙ ap (flat_map f) (take_more_set xs i y (omega arith)) ∙ flat_map-append f (take i xs) (y ∷ []) ∙ ap (λ l. flat_map f (take i xs) ++ l) (append-nil (f y))

-- a content that begins with a solid token does not join the content before it
pub solid_next : (a : List Token) (s : Solid) (b : List Token) → a ++> (solid s ∷ b) ≡ a ++ solid s ∷ b
solid_next [] s b = refl
solid_next (text x f ∷ []) s b = refl
solid_next (solid u ∷ []) s b = refl
solid_next (t ∷ u ∷ a) s b = ap (λ l. t ∷ l) (solid_next (u ∷ a) s b)

-- only the first token of the second content can join; those after it are unchanged
last_next : (t u : Token) (l r : List Token) → last_before t (u ∷ (l ++ r)) ≡ last_before t (u ∷ l) ++ r
last_next (text x f) (text y g) l r = elim (same_formatting f g) as (λ s. cond s (text (x ++ y) f ∷ (l ++ r)) (text x f ∷ text y g ∷ (l ++ r)) ≡ cond s (text (x ++ y) f ∷ l) (text x f ∷ text y g ∷ l) ++ r) [ true ↦ refl | false ↦ refl ]
last_next (text x f) (solid s) l r = refl
last_next (solid s) u l r = refl

join_next : (a : List Token) (u : Token) (l r : List Token) → a ++> (u ∷ (l ++ r)) ≡ (a ++> (u ∷ l)) ++ r
join_next [] u l r = refl
join_next (t ∷ []) u l r = last_next t u l r
join_next (t ∷ v ∷ a) u l r = ap (λ w. t ∷ w) (join_next (v ∷ a) u l r)

-- the last item of a list, if each item has at least one token
module _ {A : Type 0} (tokens_of : A → List Token) (begins : (a : A) → Begins (tokens_of a)) where
  -- an appended content joins only the last item
  pub join_item : (p : List Token) (k : A) (b : List Token) → (p ++ tokens_of k) ++> b ≡ p ++ (tokens_of k ++> b)
  join_item p k b = let h = begins k in rw h.is (join_after p h.first h.rest b)

  -- the new last item is the old one with a content appended
  pub last_joined : (xs : List A) (i : ℕ) (x y : A) (b : List Token) → i + 1 ≡ length xs → x ≡ get_or xs i x → tokens_of y ≡ tokens_of x ++> b → flat_map tokens_of (set xs i y) ≡ flat_map tokens_of xs ++> b
  last_joined xs i x y b h k e = rw (flat_map-set_last tokens_of xs i h y, flat_map-last tokens_of xs i h x k, e) (sym (join_item _ x b))

  -- the new last item has the tokens of the old one, and the appended content does not join it
  pub last_apart : (xs ys : List A) (i : ℕ) (x y : A) (b : List Token) → i + 1 ≡ length xs → x ≡ get_or xs i x → ys ≡ set xs i y → tokens_of y ≡ tokens_of x → tokens_of x ++> b ≡ tokens_of x ++ b → flat_map tokens_of ys ++ b ≡ flat_map tokens_of xs ++> b
  last_apart xs ys i x y b h k s e a = rw (s, flat_map-set_last tokens_of xs i h y, flat_map-last tokens_of xs i h x k, e, join_item _ x b, a) (append_assoc (flat_map tokens_of (take i xs)) (tokens_of x) b)

  -- the new last item has the tokens of the old one
  pub last_kept : (xs ys : List A) (i : ℕ) (x y : A) → i + 1 ≡ length xs → x ≡ get_or xs i x → ys ≡ set xs i y → tokens_of y ≡ tokens_of x → flat_map tokens_of ys ≡ flat_map tokens_of xs
  last_kept xs ys i x y h k s e = rw (s, flat_map-set_last tokens_of xs i h y, flat_map-last tokens_of xs i h x k, e) refl

  -- the list is empty
  pub none_apart : (xs ys : List A) (b : List Token) → ys ≡ xs → length xs ≤ 0 → flat_map tokens_of ys ++ b ≡ flat_map tokens_of xs ++> b
  none_apart [] ys b e h = rw e
  none_apart (x ∷ xs) ys b e h = absurd (omega arith)

pub text_child : (f : Formatted) → child_tokens (variants.Text f) ≡ text (string_bytes f.text) f.formatting ∷ []
text_child f = ap child_tokens (sym (variants.rolls-Text f)) ∙ fold-roll-ElemChild (List Token) (List Token) (List Token) child_step elem_step children_step (Text f)

-- the tokens of children and of one more, which is a text
pub pushed : (xs ys : List ElemChild) (s : String Global) (bs : List ℕ) (f : Formatting) → ys ≡ xs ++ variants.Text (record { text = s; formatting = f }) ∷ [] → string_bytes s ≡ bs → flat_map child_tokens ys ≡ flat_map child_tokens xs ++ text bs f ∷ []
pushed xs ys s bs f e h =
    ap (flat_map child_tokens) e ∙ flat_map-append child_tokens xs (variants.Text (record { text = s; formatting = f }) ∷ [])
    ∙ ap (λ l. flat_map child_tokens xs ++ (l ++ [])) (text_child (record { text = s; formatting = f }))
    ∙ ap (λ l. flat_map child_tokens xs ++ text l f ∷ []) h

pub markup_child : (m : String Global) → child_tokens (variants.Markup m) ≡ solid (markup (string_bytes m)) ∷ []
markup_child m = ap child_tokens (sym (variants.rolls-Markup m)) ∙ fold-roll-ElemChild (List Token) (List Token) (List Token) child_step elem_step children_step (Markup m)

pub link_child : (f : Formatted) (u : String Global) → child_tokens (variants.Link f u) ≡ solid (link (string_bytes f.text) f.formatting (string_bytes u)) ∷ []
link_child f u = ap child_tokens (sym (variants.rolls-Link f u)) ∙ fold-roll-ElemChild (List Token) (List Token) (List Token) child_step elem_step children_step (Link f u)

pub transparent_child : (n : ℕ) (f : Formatting) → child_tokens (variants.Transparent n f) ≡ solid (transparent n f) ∷ []
transparent_child n f = ap child_tokens (sym (variants.rolls-Transparent n f)) ∙ fold-roll-ElemChild (List Token) (List Token) (List Token) child_step elem_step children_step (Transparent n f)

some : (xs : List ElemChild) → 0 < length xs → Begins (flat_map child_tokens xs)
some [] h = absurd (omega arith)
some (x ∷ xs) h = let b = child_begins x in record { first = b.first; rest = b.rest ++ flat_map child_tokens xs; is = ap (λ l. l ++ flat_map child_tokens xs) b.is }

has_more : (xs : List ElemChild) (n : ℕ) → n ≡ length xs → has_children (flat_map child_tokens xs) ≡ not (n == 0)
has_more [] n h = rw h refl
has_more (x ∷ xs) n h = let b = child_begins x in let more : not (n == 0) ≡ true = grind (arith, common_steps, h) in rw b.is (sym more)

pub has_children_is : (c : ElemChildren) → has_children (tokens c) ≡ not (vec_len c.0 == 0)
has_children_is c = ap has_children (tokens_out c) ∙ has_more c.0.items (vec_len c.0) (omega (arith, c.0.ok.0))

pub boxed_is : (d : Option Display) (m : Option Meta) (c : ElemChildren) → 0 < length c.0.items → elem_content d m (tokens c) ≡ solid (elem_start d m) ∷ (tokens c ++ solid (elem_end d) ∷ [])
boxed_is d m c h = let b = some c.0.items h in rw (tokens_out c ∙ b.is) refl

-- the content of an element is its tokens
pub elem_shows : (e : elem.Elem) → child_content (variants.Elem e) ≡ child_tokens (variants.Elem e)
elem_shows e = ap layer_content (outs-Elem e) ∙ sym (elem_child e ∙ elem_tokens_are e)
