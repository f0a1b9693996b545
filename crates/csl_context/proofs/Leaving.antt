-- Calls of a context, one after another.
use Rattle.std.proofs.Common.{◌≡◌, ℕ, false, List, Option, ap, ◌∙◌}
use Rattle.csl_context.specs.Context.{ContextView, Becomes, with_inherited_delimiter}

module _ {T : Type 0} (f g : ContextView T → ContextView T) (a b c : ContextView T) where
  -- a call, and another one after it
  pub and_then : Becomes f a b → Becomes g b c → Becomes (λ now. g (f now)) a c
  and_then l r = record { was_live = l.was_live; becomes = r.becomes ∙ ap g l.becomes }

  -- a call, and one after it that cannot fail
  pub and_so : Becomes f a b → (f a).failed ≡ a.failed → (b.failed ≡ false → c ≡ g b) → Becomes (λ now. g (f now)) a c
  and_so l kept r = record { was_live = l.was_live; becomes = r (ap (λ now. now.failed) l.becomes ∙ kept ∙ l.was_live) ∙ ap g l.becomes }

  -- a call, and one after it that returns no `Result`
  pub and_is : Becomes f a b → c ≡ g b → Becomes (λ now. g (f now)) a c
  and_is l is = record { was_live = l.was_live; becomes = is ∙ ap g l.becomes }

-- ---- an inherited delimiter that the caller keeps

-- a call inside a delimiter, or inside none
pub in_delimiter_calls : {T : Type 0} (d before : Option (List ℕ)) (g : ContextView T → ContextView T) (a b m e : ContextView T)
    → Becomes (with_inherited_delimiter d) a b → before ≡ a.inherited.delimiter → Becomes g b m → e ≡ with_inherited_delimiter before m
    → Becomes (λ now. with_inherited_delimiter now.inherited.delimiter (g (with_inherited_delimiter d now))) a e
in_delimiter_calls d before g a b m e entered kept inside left = record {
  was_live = entered.was_live;
  becomes = left
      ∙ ap (λ o. with_inherited_delimiter o m) kept
      ∙ ap (with_inherited_delimiter a.inherited.delimiter) (inside.becomes ∙ ap g entered.becomes);
}
