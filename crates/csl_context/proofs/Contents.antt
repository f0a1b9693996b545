-- After each call, no open part has an empty leaf or an element without children.
use Rattle.std.proofs.Common.{◌≡◌, ℕ, suc, Bool, true, false, not, List, [], ◌∷◌, ◌++◌, length, refl, sym, ap, subst, arith}
use Rattle.std.proofs.lemmas.Grind.{common_steps}
use Rattle.std.specs.List.{list_all}
use Rattle.std.specs.Prelude.{◌&&◌, ◌==◌, Option, Some, None, Result, Ok, Err, OnOk, OnErr, string_bytes}
use Rattle.csl_tree.specs.Tokens.{Token, solid, elem_end, is_empty_token, is_empty, has_children}
use Rattle.csl_tree.specs.Content.{IsContent, nothing, text_then, markup_then, link_then, transparent_then, element_then}
use Rattle.csl_tree.specs.declared.formatting.Formatted.{Formatted}
use Rattle.csl_tree.specs.Flat.{OpenParts, only_root, with_tokens, open_part, close_part, affix_content}
use Rattle.csl_tree.proofs.ContentLaws.{IsContent-join, IsContent-text}
use Rattle.csl_context.specs.Context.{AreContents, HasContents}

pub at_the_root : (p : OpenParts) → p ≡ only_root → HasContents p
at_the_root p e = subst HasContents (sym e) (nothing, tt)

-- a content was appended, or the call failed and nothing changed
pub after_writing : {R E : Type 0} (r : Result R E) (c : List Token) (old new : OpenParts) → OnOk r (new ≡ with_tokens c old) → OnErr r (new ≡ old) → IsContent c → HasContents old → HasContents new
after_writing (Ok _) c old new e _ k h = subst HasContents (sym e) (IsContent-join c h.0 k, h.1)
after_writing (Err _) c old new _ e k h = subst HasContents (sym e) h

-- a part was opened, or the call failed and nothing changed
pub after_opening : {R E : Type 0} (r : Result R E) (old new : OpenParts) → OnOk r (new ≡ open_part old) → OnErr r (new ≡ old) → HasContents old → HasContents new
after_opening (Ok _) old new e _ h = subst HasContents (sym e) (nothing, (h.0, h.1))
after_opening (Err _) old new _ e h = subst HasContents (sym e) h

close_onto : (c inner : List Token) (outer : List (List Token)) → IsContent c → IsContent inner → AreContents outer → HasContents (close_part c (record { inner = inner; outer = outer }))
close_onto c inner [] k h hs = (h, hs)
close_onto c inner (part ∷ parts) k h hs = (IsContent-join c hs.0 k, hs.1)

pub after_the_close : (c : List Token) (old new : OpenParts) → new ≡ close_part c old → IsContent c → HasContents old → HasContents new
after_the_close c old new e k h = subst HasContents (sym e) (close_onto c old.inner old.outer k h.0 h.1)

-- a part was closed and a content appended, or the call failed and nothing changed
pub after_closing : {R E : Type 0} (r : Result R E) (c : List Token) (old new : OpenParts) → OnOk r (new ≡ close_part c old) → OnErr r (new ≡ old) → IsContent c → HasContents old → HasContents new
after_closing (Ok _) c old new e _ k h = after_the_close c old new e k h
after_closing (Err _) c old new _ e k h = subst HasContents (sym e) h

pub IsContent-affix : (t : Option Formatted) → IsContent (affix_content t)
IsContent-affix None = nothing
IsContent-affix (Some t) = IsContent-text (string_bytes t.text) t.formatting

list_all-append : (p : Token → Bool) (a b : List Token) → list_all p a ≡ false → list_all p (a ++ b) ≡ false
list_all-append p [] b h = cc
list_all-append p (t ∷ a) b h = elim (p t) as (λ x. (x && list_all p a) ≡ false → (x && list_all p (a ++ b)) ≡ false) [
  | true ↦ λ k. list_all-append p a b k
  | false ↦ λ k. refl
] h

nonzero : (n : ℕ) → (suc n == 0) ≡ false
nonzero n = grind (arith, common_steps)

-- a content is empty exactly if it has no tokens
pub is_empty-content : (c : List Token) → IsContent c → is_empty c ≡ not (has_children c)
is_empty-content _ nothing = refl
is_empty-content _ (text_then b bs f rest h) = ap (λ x. x && list_all is_empty_token rest) (nonzero (length bs))
is_empty-content _ (markup_then b bs rest h) = ap (λ x. x && list_all is_empty_token rest) (nonzero (length bs))
is_empty-content _ (link_then b bs f url rest h) = ap (λ x. x && list_all is_empty_token rest) (nonzero (length bs))
is_empty-content _ (transparent_then n f rest h) = refl
is_empty-content _ (element_then d m t inside rest h i) = list_all-append is_empty_token (t ∷ inside) (solid (elem_end d) ∷ rest) (is_empty-content (t ∷ inside) h)
