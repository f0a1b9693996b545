-- Simplification keeps the plain text: it is that of the styled value.
use Rattle.std.proofs.Common.{◌≡◌, ℕ, List, [], ◌∷◌, ◌++◌, refl, sym, ap, ◌∙◌}
use Rattle.std.specs.Prelude.{Option, Some, None, if◌then◌else◌}
use Rattle.std.specs.List.{flat_map}
use Rattle.std.proofs.lemmas.Grind.{flat_map-append}
use Rattle.std.proofs.lemmas.List.{append-nil}
use Rattle.csl_elements.specs.declared.formatting.Display.{Display}
use Rattle.csl_tree.specs.declared.formatting.Formatting.{Formatting}
use Rattle.csl_tree.specs.Tokens.{Token, Meta, text, solid, elem_start, elem_end, elem_around}
use Rattle.csl_tree.specs.Tree.{Leaf, Tree, empty_tree, text_then, leaf_then, element_then, leaf_token, tokens_of}
use Rattle.csl_tree.specs.Simplify.{is_plain, styled_bytes, styled_value}
use Rattle.csl_tree.specs.Write.{line_break, plain_of, plain_text}

plain_bytes : (bs : List ℕ) (f : Formatting) → plain_text (styled_bytes bs f) ≡ bs
plain_bytes [] f = refl
plain_bytes (b ∷ bs) f = ap (λ l. b ∷ l) (plain_bytes bs f)

-- around two contents of one text an element has one text
around_alike : (d : Option Display) (m : Option Meta) (x y : List Token) → plain_text x ≡ plain_text y → plain_text (elem_around d m x) ≡ plain_text (elem_around d m y)
around_alike d m x y e =
    ap (λ l. line_break d ++ l) (flat_map-append plain_of x (solid (elem_end d) ∷ []))
    ∙ ap (λ l. line_break d ++ (l ++ plain_text (solid (elem_end d) ∷ []))) e
    ∙ ap (λ l. line_break d ++ l) (sym (flat_map-append plain_of y (solid (elem_end d) ∷ [])))

-- an element that is plain adds nothing
shown_alike : (d : Option Display) (m : Option Meta) (x y : List Token) → plain_text x ≡ plain_text y → plain_text (elem_around d m x) ≡ plain_text (if is_plain d m then y else elem_around d m y)
shown_alike None None x y e = flat_map-append plain_of x (solid (elem_end None) ∷ []) ∙ append-nil (plain_text x) ∙ e
shown_alike None (Some m) x y e = around_alike None (Some m) x y e
shown_alike (Some d) m x y e = around_alike (Some d) m x y e

pub plain_styled : (t : Tree) → plain_text (tokens_of t) ≡ plain_text (styled_value t)
plain_styled empty_tree = refl
plain_styled (text_then bs f t) =
    ap (λ l. bs ++ l) (plain_styled t) ∙ ap (λ l. l ++ plain_text (styled_value t)) (sym (plain_bytes bs f)) ∙ sym (flat_map-append plain_of (styled_bytes bs f) (styled_value t))
plain_styled (leaf_then l t) = ap (λ k. plain_of (solid (leaf_token l)) ++ k) (plain_styled t)
plain_styled (element_then d m inside t) =
    let shown : List Token = if is_plain d m then styled_value inside else elem_around d m (styled_value inside) in
    flat_map-append plain_of (elem_around d m (tokens_of inside)) (tokens_of t)
    ∙ ap (λ k. k ++ plain_text (tokens_of t)) (shown_alike d m (tokens_of inside) (styled_value inside) (plain_styled inside))
    ∙ ap (λ k. plain_text shown ++ k) (plain_styled t)
    ∙ sym (flat_map-append plain_of shown (styled_value t))
