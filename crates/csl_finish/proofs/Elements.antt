-- Elements around contents: what they keep, if the contents inside do.
use Rattle.std.proofs.Common.{◌≡◌, ◌∙◌, false, List, [], ◌∷◌, ◌++◌, Option, sym, ap}
use Rattle.std.specs.Prelude.{◌||◌}
use Rattle.std.proofs.lemmas.List.{map-append}
use Rattle.std.proofs.lemmas.List.Folds.{list_any-append}
use Rattle.std.proofs.lemmas.Grind.{flat_map-append}
use Rattle.csl_elements.specs.declared.formatting.Display.{Display}
use Rattle.csl_tree.proofs.Appended.{elem_child}
use Rattle.csl_tree.proofs.Trees.{elem_tokens_are}
use Rattle.csl_tree.specs.declared.elem.Elem as elem
use Rattle.csl_tree.specs.declared.elem.ElemChild.{ElemChild}
use Rattle.csl_tree.specs.declared.elem.ElemChild.TheFolds.{fold-roll-Elem}
use Rattle.csl_tree.specs.declared.elem.ElemChild.TheOpen.{Elem-F}
use Rattle.csl_tree.specs.declared.elem.ElemChild.TheVariants as variants
use Rattle.csl_tree.specs.declared.elem.ElemChildren.{ElemChildren}
use Rattle.csl_tree.specs.Tokens.{Meta, Token, solid, elem_start, elem_end, elem_around, optional_meta, child_step, elem_step, children_step, child_tokens, tokens}
use Rattle.csl_finish.specs.CaseMarks.{token_has_mark, have_mark, solid_of, unmarked_solid, solids, unmarked_solids}
use Rattle.csl_finish.specs.Letters.{bare, bares}

-- the tokens of an element, by its parts
pub opened : (e : elem.Elem) → child_tokens (variants.Elem e) ≡ elem_around (elem.out-Elem e).display (optional_meta (elem.out-Elem e).meta) (tokens (elem.out-Elem e).children)
opened e = elem_child e ∙ elem_tokens_are e

-- the tokens of an element that is made of these parts
pub made : (parts : Elem-F ElemChild elem.Elem ElemChildren) → child_tokens (variants.Elem (elem.roll-Elem parts)) ≡ elem_around parts.display (optional_meta parts.meta) (tokens parts.children)
made parts = elem_child (elem.roll-Elem parts) ∙ fold-roll-Elem (List Token) (List Token) (List Token) child_step elem_step children_step parts

pub bares_around : (d : Option Display) (m n : Option Meta) (xs ys : List Token) → m ≡ n → bares xs ≡ bares ys → bares (elem_around d m xs) ≡ bares (elem_around d n ys)
bares_around d m n xs ys e h =
    ap (λ k. solid (elem_start d k) ∷ bares (xs ++ solid (elem_end d) ∷ [])) e
    ∙ ap (λ ts. solid (elem_start d n) ∷ ts) (map-append bare xs (solid (elem_end d) ∷ []) ∙ ap (λ ts. ts ++ solid (elem_end d) ∷ []) h ∙ sym (map-append bare ys (solid (elem_end d) ∷ [])))

pub no_mark_around : (d : Option Display) (m : Option Meta) (xs : List Token) → have_mark xs ≡ false → have_mark (elem_around d m xs) ≡ false
no_mark_around d m xs h = list_any-append token_has_mark xs (solid (elem_end d) ∷ []) ∙ ap (λ b. b || false) h

pub solids_around : (d : Option Display) (m n : Option Meta) (xs ys : List Token) → m ≡ n → solids xs ≡ unmarked_solids ys → solids (elem_around d m xs) ≡ unmarked_solids (elem_around d n ys)
solids_around d m n xs ys e h =
    ap (λ k. solid (elem_start d k) ∷ solids (xs ++ solid (elem_end d) ∷ [])) e
    ∙ ap (λ ts. solid (elem_start d n) ∷ ts) (flat_map-append solid_of xs (solid (elem_end d) ∷ []) ∙ ap (λ ts. ts ++ solid (elem_end d) ∷ []) h ∙ sym (flat_map-append unmarked_solid ys (solid (elem_end d) ∷ [])))
