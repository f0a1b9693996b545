-- One turn of a loop that searches for the first value of a function over a list.
use Rattle.std.proofs.Common.{◌≡◌, ℕ, ◌+◌, ◌<◌, List, length, get_or, drop, Option, None, Some, ap, ◌∙◌, refl, add-one, drop-cons}
use Rattle.std.specs.Option.{option_or}
use Rattle.csl_common.specs.Lists.{first_some}

module _ {X Y : Type 0} (f : X → Option Y) (xs : List X) (i : ℕ) (d : X) where
  turn : i < length xs → first_some f (drop i xs) ≡ option_or (f (get_or xs i d)) (first_some f (drop (i + 1) xs))
  turn h = rw (add-one, drop-cons xs i d) refl

  -- an item with a value ends the search
  pub first_some_here : (y : Y) → f (get_or xs i d) ≡ Some y → i < length xs → first_some f (drop i xs) ≡ Some y
  first_some_here y found h = turn h ∙ ap (λ o. option_or o (first_some f (drop (i + 1) xs))) found

  -- an item without a value is skipped
  pub first_some_past : f (get_or xs i d) ≡ None → i < length xs → first_some f (drop i xs) ≡ first_some f (drop (i + 1) xs)
  first_some_past none h = turn h ∙ ap (λ o. option_or o (first_some f (drop (i + 1) xs))) none
