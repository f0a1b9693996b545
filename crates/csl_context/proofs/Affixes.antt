-- Optional texts, and their contents.
use Rattle.std.proofs.Common.{◌≡◌, ℕ, List, [], ◌∷◌, ◌++◌, Bool, refl, sym, ap, ◌∙◌}
use Rattle.std.specs.Prelude.{Option, Some, None}
use Rattle.csl_tree.specs.declared.formatting.Formatting.{Formatting}
use Rattle.csl_tree.specs.Content.{◌++>◌, text_content, affixed_content}
use Rattle.csl_tree.specs.Tokens.{Token}
use Rattle.csl_tree.specs.Flat.{OpenParts, close_into, discard_into}
use Rattle.csl_tree.proofs.ContentLaws.{text_content-append}
use Rattle.csl_tree.proofs.Joins.{join-none}
use Rattle.csl_context.specs.Texts.{optional_strip_if, optional_formatted_text}

pub text_if : (s : Bool) (f : Formatting) (o : Option (List ℕ)) → optional_formatted_text s f o ≡ text_content (optional_strip_if s o) f
text_if s f None = refl
text_if s f (Some bs) = refl

-- two optional texts in a row
pub two_texts : (s : Bool) (f : Formatting) (a b : Option (List ℕ)) (x y z : List ℕ) → x ≡ [] → y ≡ x ++ optional_strip_if s a → z ≡ y ++ optional_strip_if s b → text_content z f ≡ optional_formatted_text s f a ++> optional_formatted_text s f b
two_texts s f a b x y z e g h =
    let is : z ≡ optional_strip_if s a ++ optional_strip_if s b = h ∙ ap (λ l. l ++ optional_strip_if s b) (g ∙ ap (λ l. l ++ optional_strip_if s a) e) in
    ap (λ l. text_content l f) is ∙ sym (text_content-append (optional_strip_if s a) (optional_strip_if s b) f) ∙ ap (λ l. l ++> text_content (optional_strip_if s b) f) (sym (text_if s f a)) ∙ ap (λ l. optional_formatted_text s f a ++> l) (sym (text_if s f b))

-- a content between empty affixes
pub bare : (c : List Token) → affixed_content [] [] c ≡ c
bare [] = refl
bare (t ∷ c) = join-none (t ∷ c)

-- dropping a part is closing it with the empty content
pub dropped_is : (p : OpenParts) (os : List (List Token)) → discard_into p os ≡ close_into [] p os
dropped_is p [] = refl
dropped_is p (part ∷ os) = ap (λ (l : List Token). record { inner = l; outer = os }) (sym (join-none part))
