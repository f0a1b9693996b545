-- The preorder of an entry, and the first value along it.
use Rattle.std.proofs.Common.{◌≡◌, ℕ, ◌+◌, ◌<◌, List, [], ◌∷◌, ◌++◌, Option, Some, None, length, get_or, drop, map, refl, sym, ap, ◌∙◌, add-one, drop-cons}
use Rattle.std.specs.List.{flat_map}
use Rattle.std.specs.Option.{option_or}
use Rattle.std.proofs.lemmas.List.Folds.{flat_map-map}
use Rattle.lit_model.specs.Entry.{parents_of, preorder_step, preorder}
use Rattle.csl_common.specs.Lists.{first_some}
use Rattle.lit_model.specs.declared.entry.Entry.{Entry, out-Entry, roll-Entry, roll-out-Entry, para-Entry, para-roll-Entry}

-- the entry comes first, before the preorders of its parents
pub preorder_out : (e : Entry) → preorder e ≡ e ∷ flat_map preorder (parents_of e)
preorder_out e =
    let walk : Entry → Entry → List Entry = para-Entry (Entry → List Entry) preorder_step in
    let rolled : walk (roll-Entry (out-Entry e)) e ≡ e ∷ flat_map (λ p. p.1 p.0) (map (λ y. (y, walk y)) (parents_of e)) = ap (λ f. f e) (para-roll-Entry (Entry → List Entry) preorder_step (out-Entry e)) in
    ap (λ d. walk d e) (sym (roll-out-Entry e)) ∙ rolled ∙ ap (λ l. e ∷ l) (flat_map-map (λ p. p.1 p.0) (λ y. (y, walk y)) (parents_of e))

option_or_assoc : {X : Type 0} (a b c : Option X) → option_or a (option_or b c) ≡ option_or (option_or a b) c
option_or_assoc None b c = refl
option_or_assoc (Some x) b c = refl

-- the first value over two lists, one after the other
pub first_some-append : {X : Type 0} (f : Entry → Option X) (xs ys : List Entry) → first_some f (xs ++ ys) ≡ option_or (first_some f xs) (first_some f ys)
first_some-append f [] ys = refl
first_some-append f (x ∷ xs) ys = ap (option_or (f x)) (first_some-append f xs ys) ∙ option_or_assoc (f x) (first_some f xs) (first_some f ys)

module _ {X : Type 0} (f : Entry → Option X) where
  -- the entry's own value comes first
  pub first_some_here : (e : Entry) → first_some f (preorder e) ≡ option_or (f e) (first_some f (flat_map preorder (parents_of e)))
  first_some_here e = ap (first_some f) (preorder_out e)

  -- then the first value along the next parent, and then those of the parents after it
  pub first_some_turn : (es : List Entry) (i : ℕ) (d : Entry) → i < length es → first_some f (flat_map preorder (drop i es)) ≡ option_or (first_some f (preorder (get_or es i d))) (first_some f (flat_map preorder (drop (i + 1) es)))
  first_some_turn es i d h =
      rw (add-one, drop-cons es i d) (first_some-append f (preorder (get_or es i d)) _)
