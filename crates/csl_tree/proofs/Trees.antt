-- The tokens of a tree are those of its parts.
use Rattle.std.proofs.Common.{◌≡◌, ℕ, List, [], ◌∷◌, ◌++◌, refl, ap, ◌∙◌}
use Rattle.std.specs.List.{flat_map}
use Rattle.std.proofs.lemmas.Grind.{flat_map-append}
use Rattle.std.proofs.lemmas.List.Folds.{flat_map-map}
use Rattle.csl_tree.specs.Tokens.{Token, elem_around, optional_meta, child_step, elem_step, children_step, child_tokens, elem_tokens, tokens}
use Rattle.csl_tree.specs.declared.elem.ElemChild.TheFolds.{fold_out-ElemChildren, fold_out-Elem}
use Rattle.csl_tree.specs.declared.elem.ElemChildren.{ElemChildren}
use Rattle.csl_tree.specs.declared.elem.Elem as elem

-- the tokens of children are those of each, in order
pub tokens_out : (c : ElemChildren) → tokens c ≡ flat_map child_tokens c.0.items
tokens_out c = fold_out-ElemChildren (List Token) (List Token) (List Token) child_step elem_step children_step c ∙ flat_map-map (λ ts. ts) child_tokens c.0.items

pub flat_map-flat_map : {A B C : Type 0} (f : B → List C) (g : A → List B) (xs : List A) → flat_map f (flat_map g xs) ≡ flat_map (λ x. flat_map f (g x)) xs
flat_map-flat_map f g [] = refl
flat_map-flat_map f g (x ∷ xs) = flat_map-append f (g x) (flat_map g xs) ∙ ap (λ l. flat_map f (g x) ++ l) (flat_map-flat_map f g xs)

-- the bytes for the tokens of a tree are those for the tokens of each child, in order
pub tokens_give : (f : Token → List ℕ) (c : ElemChildren) → flat_map f (tokens c) ≡ flat_map (λ k. flat_map f (child_tokens k)) c.0.items
tokens_give f c = ap (flat_map f) (tokens_out c) ∙ flat_map-flat_map f child_tokens c.0.items

pub elem_tokens_are : (e : elem.Elem) → elem_tokens e ≡ elem_around (elem.out-Elem e).display (optional_meta (elem.out-Elem e).meta) (tokens (elem.out-Elem e).children)
elem_tokens_are e = fold_out-Elem (List Token) (List Token) (List Token) child_step elem_step children_step e
