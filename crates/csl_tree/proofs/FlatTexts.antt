-- The leaf text of children in a row, and its last character.
use Rattle.std.proofs.Common.{◌≡◌, ℕ, ◌==◌, not, true, List, [], ◌∷◌, ◌++◌, length, refl, sym, subst, ap, ◌∙◌, arith}
use Rattle.std.specs.Prelude.{Some, None, is_some}
use Rattle.std.specs.List.{flat_map, last_or}
use Rattle.std.specs.Str.{IsUtf8, chars}
use Rattle.std.proofs.Math.Utf8.{encodes}
use Rattle.std.proofs.lemmas.Str.{encodes-chars}
use Rattle.std.proofs.lemmas.Grind.{common_steps, flat_map-append}
use Rattle.csl_tree.specs.Tokens.{child_tokens, token_text, leaf_text, last_char}
use Rattle.csl_tree.specs.declared.elem.ElemChild.{ElemChild}
use Rattle.csl_tree.specs.FlatChildren.{content_of}
use Rattle.csl_tree.proofs.ContentLaws.{leaf_text-join}
use Rattle.csl_tree.proofs.LastChars.{leaf_of, row_spells, last_char-none}

-- joining texts keeps the leaf text
pub content_leaf : (ks : List ElemChild) → leaf_text (content_of ks) ≡ leaf_of ks
content_leaf [] = refl
content_leaf (k ∷ ks) = leaf_text-join (child_tokens k) (content_of ks) ∙ ap (λ (bs : List ℕ). leaf_text (child_tokens k) ++ bs) (content_leaf ks) ∙ sym (flat_map-append token_text (child_tokens k) (flat_map child_tokens ks))

pub content_spells : (ks : List ElemChild) → IsUtf8 (leaf_text (content_of ks))
content_spells ks = subst IsUtf8 (sym (content_leaf ks)) (row_spells ks)

some_from : (c : ℕ) (cs : List ℕ) → is_some (last_or (Some c) cs) ≡ true
some_from c [] = refl
some_from c (d ∷ cs) = some_from d cs

some_last : (b : ℕ) (bs cs : List ℕ) → encodes cs ≡ b ∷ bs → is_some (last_or None cs) ≡ true
some_last b bs [] h = absurd (cc h)
some_last b bs (c ∷ cs) h = some_from c cs

-- a text has a last character exactly if it is not empty
pub has_last : (bs : List ℕ) → IsUtf8 bs → is_some (last_char bs) ≡ not (length bs == 0)
has_last [] h = ap is_some last_char-none
has_last (b ∷ bs) h = let more : not (length (b ∷ bs) == 0) ≡ true = grind (arith, common_steps) in some_last b bs (chars (b ∷ bs)) (encodes-chars (b ∷ bs) h) ∙ sym more
