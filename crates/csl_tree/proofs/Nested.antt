-- The HTML of every tree and of every content is nested, and its joined texts are the leaf text.
use Rattle.std.proofs.Common.{◌≡◌, ℕ, true, false, cond, List, [], ◌∷◌, ◌++◌, map, refl, sym, subst, ◌∙◌, append_assoc}
use Rattle.std.specs.Prelude.{Option, Some, None, string_bytes}
use Rattle.std.specs.List.{flat_map}
use Rattle.std.proofs.lemmas.Grind.{flat_map-append}
use Rattle.std.proofs.lemmas.List.{append-nil}
use Rattle.std.proofs.lemmas.List.Folds.{flat_map-map}
use Rattle.csl_elements.specs.declared.formatting.Display.{Display}
use Rattle.csl_tree.specs.declared.formatting.Formatting.{Formatting}
use Rattle.csl_tree.specs.declared.elem.ElemChild.{ElemChild}
use Rattle.csl_tree.specs.declared.elem.ElemChild.TheOpen.{ElemChild-F, Elem-F, ElemChildren-F, Text, Elem, Markup, Link, Transparent}
use Rattle.csl_tree.specs.declared.elem.ElemChild.TheViews.{roll-ElemChild, roll-Elem, roll-ElemChildren}
use Rattle.csl_tree.specs.declared.elem.ElemChild.TheFolds.{map-ElemChild, map-Elem, map-ElemChildren, fold-roll-ElemChild, fold-roll-Elem, fold-roll-ElemChildren, ind-ElemChild, ind-Elem, ind-ElemChildren}
use Rattle.csl_tree.specs.declared.elem.Elem as elem
use Rattle.csl_tree.specs.declared.elem.ElemChildren.{ElemChildren}
use Rattle.csl_tree.specs.declared.elem.BufWriteFormat.TheVariants.{Html}
use Rattle.csl_tree.specs.Content as content
use Rattle.csl_tree.specs.Content.{IsContent}
use Rattle.csl_tree.specs.Formatting.{same_formatting, default_formatting}
use Rattle.csl_tree.specs.Tokens.{Token, Meta, text, solid, markup, link, transparent, elem_start, elem_end, elem_around, optional_meta, child_step, elem_step, children_step, child_tokens, elem_tokens, tokens, token_text, leaf_text}
use Rattle.csl_tree.specs.Html.{HtmlToken, div, span, anchor, start_tag, end_tag, characters, html_of_text, html_of, html, IsNested, nothing, text_then, element_then, characters_of, html_text, IsHtmlOf}
use Rattle.csl_tree.specs.Write.{text_in_format}

-- two nested lists in a row are nested
pub nested_append : {a : List HtmlToken} (b : List HtmlToken) → IsNested a → IsNested b → IsNested (a ++ b)
nested_append b nothing k = k
nested_append b (text_then bs rest h) k = text_then bs (rest ++ b) (nested_append b h k)
nested_append b (element_then tag inside rest h i) k =
    subst (λ (l : List HtmlToken). IsNested (start_tag tag ∷ l)) (sym (append_assoc inside (end_tag tag ∷ rest) b)) (element_then tag inside (rest ++ b) h (nested_append b i k))

nested_formatted : (bs : List ℕ) (f : Formatting) → IsNested (html_of_text bs f)
nested_formatted bs f =
    elim (same_formatting f default_formatting) as (λ s. IsNested (cond s (characters bs ∷ []) (start_tag (span f) ∷ characters bs ∷ end_tag (span f) ∷ []))) [
      | true ↦ text_then bs [] nothing
      | false ↦ element_then (span f) (characters bs ∷ []) [] (text_then bs [] nothing) nothing
    ]

-- the HTML of a single token
alone : (t : Token) → IsNested (html_of t) → IsNested (html (t ∷ []))
alone t h = subst IsNested (sym (append-nil (html_of t))) h

nested_around : (d : Option Display) (m : Option Meta) (inside : List Token) → IsNested (html inside) → IsNested (html (elem_around d m inside))
nested_around None m inside h = subst IsNested (sym (flat_map-append html_of inside (solid (elem_end None) ∷ []) ∙ append-nil (html inside))) h
nested_around (Some d) m inside h = subst (λ (l : List HtmlToken). IsNested (start_tag (div d) ∷ l)) (sym (flat_map-append html_of inside (solid (elem_end (Some d)) ∷ []))) (element_then (div d) (html inside) [] h nothing)

abbrev NestedChild : ElemChild → Type 0
NestedChild k = IsNested (html (child_tokens k))

abbrev NestedElem : elem.Elem → Type 0
NestedElem e = IsNested (html (elem_tokens e))

abbrev NestedChildren : ElemChildren → Type 0
NestedChildren c = IsNested (html (tokens c))

nested_all : (ks : List ((k : ElemChild) × NestedChild k)) → IsNested (html (flat_map child_tokens (map (λ e. e.0) ks)))
nested_all [] = nothing
nested_all (k ∷ ks) = subst IsNested (sym (flat_map-append html_of (child_tokens k.0) (flat_map child_tokens (map (λ e. e.0) ks)))) (nested_append _ k.1 (nested_all ks))

text_nested : (bs : List ℕ) (f : Formatting) → IsNested (html (text bs f ∷ []))
text_nested bs f = alone (text bs f) (nested_formatted bs f)

link_nested : (bs : List ℕ) (f : Formatting) (url : List ℕ) → IsNested (html (solid (link bs f url) ∷ []))
link_nested bs f url = alone (solid (link bs f url)) (element_then (anchor url) (html_of_text bs f) [] (nested_formatted bs f) nothing)

-- one level of a tree whose parts are nested
child_layer : (y : ElemChild-F ((k : ElemChild) × NestedChild k) ((e : elem.Elem) × NestedElem e) ((c : ElemChildren) × NestedChildren c)) → NestedChild (roll-ElemChild (map-ElemChild _ _ _ ElemChild elem.Elem ElemChildren (λ e. e.0) (λ e. e.0) (λ e. e.0) y))
child_layer (Text t) = subst (λ (ts : List Token). IsNested (html ts)) (sym (fold-roll-ElemChild (List Token) (List Token) (List Token) child_step elem_step children_step (Text t))) (text_nested (string_bytes t.text) t.formatting)
child_layer (Elem e) = subst (λ (ts : List Token). IsNested (html ts)) (sym (fold-roll-ElemChild (List Token) (List Token) (List Token) child_step elem_step children_step (Elem e.0))) e.1
child_layer (Markup s) = subst (λ (ts : List Token). IsNested (html ts)) (sym (fold-roll-ElemChild (List Token) (List Token) (List Token) child_step elem_step children_step (Markup s))) (text_then (string_bytes s) [] nothing)
child_layer (Link t url) = subst (λ (ts : List Token). IsNested (html ts)) (sym (fold-roll-ElemChild (List Token) (List Token) (List Token) child_step elem_step children_step (Link t url))) (link_nested (string_bytes t.text) t.formatting (string_bytes url))
child_layer (Transparent n f) = subst (λ (ts : List Token). IsNested (html ts)) (sym (fold-roll-ElemChild (List Token) (List Token) (List Token) child_step elem_step children_step (Transparent n f))) nothing

elem_layer : (y : Elem-F ((k : ElemChild) × NestedChild k) ((e : elem.Elem) × NestedElem e) ((c : ElemChildren) × NestedChildren c)) → NestedElem (roll-Elem (map-Elem _ _ _ ElemChild elem.Elem ElemChildren (λ e. e.0) (λ e. e.0) (λ e. e.0) y))
elem_layer y =
    subst (λ (ts : List Token). IsNested (html ts)) (sym (fold-roll-Elem (List Token) (List Token) (List Token) child_step elem_step children_step (map-Elem _ _ _ ElemChild elem.Elem ElemChildren (λ e. e.0) (λ e. e.0) (λ e. e.0) y)))
    (nested_around y.display (optional_meta y.meta) (tokens y.children.0) y.children.1)

children_layer : (y : ElemChildren-F ((k : ElemChild) × NestedChild k) ((e : elem.Elem) × NestedElem e) ((c : ElemChildren) × NestedChildren c)) → NestedChildren (roll-ElemChildren (map-ElemChildren _ _ _ ElemChild elem.Elem ElemChildren (λ e. e.0) (λ e. e.0) (λ e. e.0) y))
children_layer y =
    subst (λ (ts : List Token). IsNested (html ts))
    (sym (fold-roll-ElemChildren (List Token) (List Token) (List Token) child_step elem_step children_step (map-ElemChildren _ _ _ ElemChild elem.Elem ElemChildren (λ e. e.0) (λ e. e.0) (λ e. e.0) y) ∙ flat_map-map (λ ts. ts) child_tokens (map (λ e. e.0) y.0.items)))
    (nested_all y.0.items)

pub nested_child : (k : ElemChild) → NestedChild k
nested_child = ind-ElemChild NestedChild NestedElem NestedChildren
    (λ x y is. subst (λ z. NestedChild (roll-ElemChild z)) is (child_layer y))
    (λ x y is. subst (λ z. NestedElem (roll-Elem z)) is (elem_layer y))
    (λ x y is. subst (λ z. NestedChildren (roll-ElemChildren z)) is (children_layer y))

pub nested_elem : (e : elem.Elem) → NestedElem e
nested_elem = ind-Elem NestedChild NestedElem NestedChildren
    (λ x y is. subst (λ z. NestedChild (roll-ElemChild z)) is (child_layer y))
    (λ x y is. subst (λ z. NestedElem (roll-Elem z)) is (elem_layer y))
    (λ x y is. subst (λ z. NestedChildren (roll-ElemChildren z)) is (children_layer y))

pub nested_children : (c : ElemChildren) → NestedChildren c
nested_children = ind-ElemChildren NestedChild NestedElem NestedChildren
    (λ x y is. subst (λ z. NestedChild (roll-ElemChild z)) is (child_layer y))
    (λ x y is. subst (λ z. NestedElem (roll-Elem z)) is (elem_layer y))
    (λ x y is. subst (λ z. NestedChildren (roll-ElemChildren z)) is (children_layer y))

formatted_text : (bs : List ℕ) (f : Formatting) → html_text (html_of_text bs f) ≡ bs
formatted_text bs f =
    elim (same_formatting f default_formatting) as (λ s. html_text (cond s (characters bs ∷ []) (start_tag (span f) ∷ characters bs ∷ end_tag (span f) ∷ [])) ≡ bs) [
      | true ↦ append-nil bs
      | false ↦ append-nil bs
    ]

-- the joined texts of one token's HTML are the token's text
token_leaves : (t : Token) → html_text (html_of t) ≡ token_text t
token_leaves (text bs f) = formatted_text bs f
token_leaves (solid (markup bs)) = append-nil bs
token_leaves (solid (link bs f url)) = flat_map-append characters_of (html_of_text bs f) (end_tag (anchor url) ∷ []) ∙ append-nil (html_text (html_of_text bs f)) ∙ formatted_text bs f
token_leaves (solid (transparent n f)) = refl
token_leaves (solid (elem_start None m)) = refl
token_leaves (solid (elem_start (Some d) m)) = refl
token_leaves (solid (elem_end None)) = refl
token_leaves (solid (elem_end (Some d))) = refl

-- the joined texts of the HTML are the leaf text
pub html_leaves : (ts : List Token) → html_text (html ts) ≡ leaf_text ts
html_leaves [] = refl
html_leaves (t ∷ ts) = flat_map-append characters_of (html_of t) (html ts) ∙ (λ i. token_leaves t i ++ html_leaves ts i)

nested_content : {c : List Token} → IsContent c → IsNested (html c)
nested_content content.nothing = nothing
nested_content (content.text_then b bs f rest h) = nested_append (html rest) (nested_formatted (b ∷ bs) f) (nested_content h)
nested_content (content.markup_then b bs rest h) = text_then (b ∷ bs) (html rest) (nested_content h)
nested_content (content.link_then b bs f url rest h) =
    nested_append (html rest) (element_then (anchor url) (html_of_text (b ∷ bs) f) [] (nested_formatted (b ∷ bs) f) nothing) (nested_content h)
nested_content (content.transparent_then n f rest h) = nested_content h
nested_content (content.element_then None m t inside rest h k) =
    subst IsNested (sym (flat_map-append html_of (t ∷ inside) (solid (elem_end None) ∷ rest))) (nested_append (html rest) (nested_content h) (nested_content k))
nested_content (content.element_then (Some d) m t inside rest h k) =
    subst (λ (l : List HtmlToken). IsNested (start_tag (div d) ∷ l)) (sym (flat_map-append html_of (t ∷ inside) (solid (elem_end (Some d)) ∷ rest)))
    (element_then (div d) (html (t ∷ inside)) (html rest) (nested_content h) (nested_content k))

-- ---- the output is HTML of the leaf text

pub tree_is_html : (c : ElemChildren) → IsHtmlOf (text_in_format Html (tokens c)) (leaf_text (tokens c))
tree_is_html c = record { tokens = html (tokens c); nested = nested_children c; written = refl; texts = sym (html_leaves (tokens c)) }

pub content_is_html : (c : List Token) → IsContent c → IsHtmlOf (text_in_format Html c) (leaf_text c)
content_is_html c is = record { tokens = html c; nested = nested_content is; written = refl; texts = sym (html_leaves c) }
