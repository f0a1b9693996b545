-- Laws of contents: joined texts, the leaf text, and `IsContent`.
use Rattle.std.proofs.Common.{◌≡◌, ℕ, true, false, cond, List, [], ◌∷◌, ◌++◌, refl, sym, ap, subst, ◌∙◌, append_assoc}
use Rattle.std.proofs.lemmas.List.{append-nil}
use Rattle.std.specs.Prelude.{Option}
use Rattle.csl_elements.specs.declared.formatting.Display.{Display}
use Rattle.csl_tree.specs.declared.formatting.Formatting.{Formatting}
use Rattle.csl_tree.specs.Formatting.{same_formatting}
use Rattle.csl_tree.specs.Tokens.{Token, Solid, Meta, text, solid, markup, link, transparent, elem_start, elem_end, token_text, leaf_text}
use Rattle.csl_tree.specs.Content.{text_before, last_before, join_tokens, ◌++>◌, text_content, markup_content, link_content, elem_content, affixed_content, IsContent, nothing, text_then, markup_then, link_then, transparent_then, element_then}
use Rattle.csl_tree.proofs.Joins.{same_formatting-refl}
use Rattle.csl_tree.proofs.Appended.{join_after}
pub use Rattle.csl_tree.proofs.Joins.{join_assoc, join-none}

-- two texts of one formatting, in a row, have the content of their joined text
pub text_content-append : (x y : List ℕ) (f : Formatting) → text_content x f ++> text_content y f ≡ text_content (x ++ y) f
text_content-append [] y f = refl
text_content-append (b ∷ x) [] f = ap (λ l. text (b ∷ l) f ∷ []) (sym (append-nil x))
text_content-append (b ∷ x) (c ∷ y) f = rw (same_formatting-refl f) refl

leaf_text-text_before : (x : List ℕ) (f : Formatting) (b : List Token) → leaf_text (text_before x f b) ≡ x ++ leaf_text b
leaf_text-text_before x f [] = refl
leaf_text-text_before x f (text y g ∷ b) =
    elim (same_formatting f g) as (λ s. leaf_text (cond s (text (x ++ y) f ∷ b) (text x f ∷ text y g ∷ b)) ≡ x ++ (y ++ leaf_text b)) [ true ↦ append_assoc x y (leaf_text b) | false ↦ refl ]
leaf_text-text_before x f (solid s ∷ b) = refl

leaf_text-last_before : (t : Token) (b : List Token) → leaf_text (last_before t b) ≡ token_text t ++ leaf_text b
leaf_text-last_before (text x f) b = leaf_text-text_before x f b
leaf_text-last_before (solid s) b = refl

leaf_text-joined : (t : Token) (a b : List Token) → leaf_text (join_tokens t a b) ≡ token_text t ++ (leaf_text a ++ leaf_text b)
leaf_text-joined t [] b = leaf_text-last_before t b
leaf_text-joined t (u ∷ a) b = ap (λ l. token_text t ++ l) (leaf_text-joined u a b ∙ sym (append_assoc (token_text u) (leaf_text a) (leaf_text b)))

-- the leaf text of two contents in a row is that of the first, then that of the second
pub leaf_text-join : (a b : List Token) → leaf_text (a ++> b) ≡ leaf_text a ++ leaf_text b
leaf_text-join [] b = refl
leaf_text-join (t ∷ a) b = leaf_text-joined t a b ∙ sym (append_assoc (token_text t) (leaf_text a) (leaf_text b))

pub IsContent-text : (x : List ℕ) (f : Formatting) → IsContent (text_content x f)
IsContent-text [] f = nothing
IsContent-text (b ∷ x) f = text_then b x f [] nothing

pub IsContent-markup : (x : List ℕ) → IsContent (markup_content x)
IsContent-markup [] = nothing
IsContent-markup (b ∷ x) = markup_then b x [] nothing

pub IsContent-link : (x : List ℕ) (f : Formatting) (url : List ℕ) → IsContent (link_content x f url)
IsContent-link [] f url = nothing
IsContent-link (b ∷ x) f url = link_then b x f url [] nothing

pub IsContent-boxed : (d : Option Display) (m : Option Meta) (c : List Token) → IsContent c → IsContent (elem_content d m c)
IsContent-boxed d m [] h = nothing
IsContent-boxed d m (t ∷ c) h = element_then d m t c [] h nothing

-- a text that is not empty before a content
before_content : (b : ℕ) (x : List ℕ) (f : Formatting) {c : List Token} → IsContent c → IsContent (text_before (b ∷ x) f c)
before_content b x f nothing = text_then b x f [] nothing
before_content b x f (text_then e y g c h) =
    elim (same_formatting f g) as (λ s. IsContent (cond s (text (b ∷ (x ++ e ∷ y)) f ∷ c) (text (b ∷ x) f ∷ text (e ∷ y) g ∷ c))) [
      | true ↦ text_then b (x ++ e ∷ y) f c h
      | false ↦ text_then b x f (text (e ∷ y) g ∷ c) (text_then e y g c h)
    ]
before_content b x f (markup_then e y c h) = text_then b x f (solid (markup (e ∷ y)) ∷ c) (markup_then e y c h)
before_content b x f (link_then e y g url c h) = text_then b x f (solid (link (e ∷ y) g url) ∷ c) (link_then e y g url c h)
before_content b x f (transparent_then n g c h) = text_then b x f (solid (transparent n g) ∷ c) (transparent_then n g c h)
before_content b x f (element_then d m t inside c h i) = text_then b x f (solid (elem_start d m) ∷ (t ∷ (inside ++ solid (elem_end d) ∷ c))) (element_then d m t inside c h i)

text_joined : (b : ℕ) (x : List ℕ) (f : Formatting) (a c : List Token) → IsContent (a ++> c) → IsContent (join_tokens (text (b ∷ x) f) a c)
text_joined b x f [] c h = before_content b x f h
text_joined b x f (t ∷ a) c h = text_then b x f (join_tokens t a c) h

-- a solid token joins neither of the contents after it
solid_joined : (s : Solid) (a c : List Token) → join_tokens (solid s) a c ≡ solid s ∷ (a ++> c)
solid_joined s [] c = refl
solid_joined s (t ∷ a) c = refl

element_joined : (d : Option Display) (m : Option Meta) (t : Token) (inside a c : List Token) → (solid (elem_start d m) ∷ (t ∷ (inside ++ solid (elem_end d) ∷ a))) ++> c ≡ solid (elem_start d m) ∷ (t ∷ (inside ++ solid (elem_end d) ∷ (a ++> c)))
element_joined d m t inside a c = join_after (solid (elem_start d m) ∷ t ∷ inside) (solid (elem_end d)) a c ∙ ap (λ l. solid (elem_start d m) ∷ (t ∷ (inside ++ l))) (solid_joined (elem_end d) a c)

pub IsContent-join : {a : List Token} (c : List Token) → IsContent a → IsContent c → IsContent (a ++> c)
IsContent-join c nothing k = k
IsContent-join c (text_then b bs f rest h) k = text_joined b bs f rest c (IsContent-join c h k)
IsContent-join c (markup_then b bs rest h) k = subst IsContent (sym (solid_joined _ rest c)) (markup_then b bs (rest ++> c) (IsContent-join c h k))
IsContent-join c (link_then b bs f url rest h) k = subst IsContent (sym (solid_joined _ rest c)) (link_then b bs f url (rest ++> c) (IsContent-join c h k))
IsContent-join c (transparent_then n f rest h) k = subst IsContent (sym (solid_joined _ rest c)) (transparent_then n f (rest ++> c) (IsContent-join c h k))
IsContent-join c (element_then d m t inside rest h i) k = subst IsContent (sym (element_joined d m t inside rest c)) (element_then d m t inside (rest ++> c) h (IsContent-join c i k))

pub IsContent-affixed : (p s c : List Token) → IsContent p → IsContent s → IsContent c → IsContent (affixed_content p s c)
IsContent-affixed p s [] h k i = nothing
IsContent-affixed p s (t ∷ c) h k i = IsContent-join ((t ∷ c) ++> s) h (IsContent-join s i k)
