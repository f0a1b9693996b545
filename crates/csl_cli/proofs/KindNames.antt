-- A text names a kind exactly if it is the kind's name.
use Rattle.std.proofs.Common.{◌≡◌, ℕ, Bool, true, false, List, [], ◌∷◌, refl, sym, ap, ◌∙◌}
use Rattle.std.specs.Prelude.{Option, Some, None, IfSome, find, if◌then◌else◌, ◌↔◌}
use Rattle.std.specs.Str.{bytes_eq}
use Rattle.std.proofs.lemmas.Slice.Eq.{bytes_eq-Decides}
use Rattle.csl_elements.specs.Taxonomy.{name_of}
use Rattle.csl_elements.specs.declared.taxonomy.Kind.{Kind}
use Rattle.csl_elements.specs.declared.taxonomy.Kind.TheVariants as kinds
use Rattle.csl_cli.specs.Command.{all_kinds, named_kind}

-- the item that is found passes the test
first_or : {X : Type 0} (p : X → Bool) (x : X) (o : Option X) (b : Bool) → p x ≡ b → IfSome o (λ y. p y ≡ true) → IfSome (if b then Some x else o) (λ y. p y ≡ true)
first_or p x o true e h = e
first_or p x o false e h = h

found_passes : {X : Type 0} (p : X → Bool) (xs : List X) → IfSome (find p xs) (λ y. p y ≡ true)
found_passes p [] = tt
found_passes p (x ∷ xs) = first_or p x (find p xs) (p x) refl (found_passes p xs)

by_its_name : (kind : Kind) → named_kind (name_of kind) ≡ Some kind
by_its_name kinds.Article = refl
by_its_name _ = refl

by_no_name : (name : List ℕ) (o : Option Kind) → ((kind : Kind) → (None ≡ Some kind) ↔ (name ≡ name_of kind)) → IfSome o (λ kind. bytes_eq name (name_of kind) ≡ true) → None ≡ o
by_no_name name None h passes = refl
by_no_name name (Some kind) h passes = (h kind).1 ((bytes_eq-Decides name (name_of kind)).0 passes)

-- an option that is a kind exactly if the text is its name is the kind that the text names
pub kind_by_name : (name : List ℕ) (o : Option Kind) → ((kind : Kind) → (o ≡ Some kind) ↔ (name ≡ name_of kind)) → o ≡ named_kind name
kind_by_name name (Some kind) h = sym (ap named_kind ((h kind).0 refl) ∙ by_its_name kind)
kind_by_name name None h = by_no_name name (named_kind name) h (found_passes (λ kind. bytes_eq name (name_of kind)) all_kinds)
