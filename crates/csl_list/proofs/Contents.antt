-- The tokens of contents that grow.
use Rattle.std.proofs.Common.{◌≡◌, ◌∙◌, ◌==◌, ℕ, true, false, List, [], ◌∷◌, ◌++◌, length, refl, sym, ap, append_assoc, append-nil, suc-ne-zero, true≢false, eqb-true}
use Rattle.std.specs.List.{flat_map}
use Rattle.std.proofs.lemmas.Grind.{flat_map-append}
use Rattle.csl_tree.proofs.Trees.{tokens_out}
use Rattle.csl_tree.specs.Tokens.{Token, child_tokens, text, tokens}
use Rattle.csl_tree.specs.declared.elem.ElemChild.{ElemChild}
use Rattle.csl_tree.specs.declared.elem.ElemChildren.{ElemChildren}
use Rattle.csl_tree.specs.declared.formatting.Formatting.{Formatting}
use Rattle.csl_list.specs.Pieces.{text_of}

pub tokens_more : (before after : ElemChildren) (child : ElemChild) → after.0.items ≡ before.0.items ++ child ∷ [] → tokens after ≡ tokens before ++ child_tokens child
tokens_more before after child e =
    tokens_out after ∙ ap (flat_map child_tokens) e ∙ flat_map-append child_tokens before.0.items (child ∷ [])
    ∙ ap (λ ts. flat_map child_tokens before.0.items ++ ts) (append-nil (child_tokens child))
    ∙ ap (λ ts. ts ++ child_tokens child) (sym (tokens_out before))

pub tokens_joined : (before more after : ElemChildren) → after.0.items ≡ before.0.items ++ more.0.items → tokens after ≡ tokens before ++ tokens more
tokens_joined before more after e =
    tokens_out after ∙ ap (flat_map child_tokens) e ∙ flat_map-append child_tokens before.0.items more.0.items
    ∙ ap (λ ts. ts ++ flat_map child_tokens more.0.items) (sym (tokens_out before))
    ∙ ap (λ ts. tokens before ++ ts) (sym (tokens_out more))

pub nothing_after : (ts us : List Token) → us ≡ [] → ts ≡ ts ++ us
nothing_after ts us e = sym (append-nil ts) ∙ ap (λ vs. ts ++ vs) (sym e)

pub text_of_none : (bs : List ℕ) (formatting : Formatting) → (length bs == 0) ≡ true → text_of bs formatting ≡ []
text_of_none [] formatting e = refl
text_of_none (b ∷ bs) formatting e = absurd (suc-ne-zero (length bs) (eqb-true (length (b ∷ bs)) 0 e))

pub text_of_some : (bs : List ℕ) (formatting : Formatting) → (length bs == 0) ≡ false → text_of bs formatting ≡ text bs formatting ∷ []
text_of_some [] formatting e = absurd (true≢false e)
text_of_some (b ∷ bs) formatting e = refl

pub three_after : (os ps qs rs bs cs ds : List Token) → bs ≡ os ++ ps → cs ≡ bs ++ qs → ds ≡ cs ++ rs → ds ≡ os ++ (ps ++ (qs ++ rs))
three_after os ps qs rs bs cs ds e f g =
    g ∙ ap (λ ts. ts ++ rs) (f ∙ ap (λ ts. ts ++ qs) e) ∙ ap (λ ts. ts ++ rs) (append_assoc os ps qs) ∙ append_assoc os (ps ++ qs) rs ∙ ap (λ ts. os ++ ts) (append_assoc ps qs rs)

pub four_after : (os ps qs rs ss bs cs ds es : List Token) → bs ≡ os ++ ps → cs ≡ bs ++ qs → ds ≡ cs ++ rs → es ≡ ds ++ ss → es ≡ os ++ (ps ++ (qs ++ (rs ++ ss)))
four_after os ps qs rs ss bs cs ds es e f g h =
    h ∙ ap (λ ts. ts ++ ss) (three_after os ps qs rs bs cs ds e f g) ∙ append_assoc os (ps ++ (qs ++ rs)) ss
    ∙ ap (λ ts. os ++ ts) (append_assoc ps (qs ++ rs) ss ∙ ap (λ ts. ps ++ ts) (append_assoc qs rs ss))
