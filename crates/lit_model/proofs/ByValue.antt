-- A test of a whole value decides equality if the tests of its parts do.
use Rattle.std.proofs.Common.{◌≡◌, Bool, true, false, ◌&&◌, Option, Some, None, refl}
use Rattle.std.specs.Prelude.{String, string_bytes, option_map}
use Rattle.std.specs.Bool.{Decides}
use Rattle.std.specs.Option.{option_eq}
use Rattle.std.specs.Str.{bytes_eq}
use Rattle.std.specs.declared.alloc.Global.{Global}
use Rattle.std.proofs.lemmas.Bool.{false≢true}
use Rattle.std.proofs.lemmas.Slice.Eq.{bytes_eq-Decides}

pub both : {P Q : Type 0} (p q : Bool) → Decides p P → Decides q Q → Decides (p && q) (P × Q)
both true true d e = (λ _. (d.0 refl, e.0 refl), λ _. refl)
both true false d e = (λ h. absurd (false≢true h), λ h. e.1 h.1)
both false q d e = (λ h. absurd (false≢true h), λ h. d.1 h.0)

pub through : {P Q : Type 0} (p : Bool) → Decides p P → (P → Q) → (Q → P) → Decides p Q
through p d f g = (λ h. f (d.0 h), λ h. d.1 (g h))

pub option_view : {A B : Type 0} (E : A → A → Bool) (v : A → B) → ((a b : A) → Decides (E a b) (v a ≡ v b)) → (x y : Option A) → Decides (option_eq E x y) (option_map v x ≡ option_map v y)
option_view E v d None None = (λ h. refl, λ h. refl)
option_view E v d None (Some y) = ((λ h. cc), λ h. cc)
option_view E v d (Some x) None = ((λ h. cc), λ h. cc)
option_view E v d (Some x) (Some y) = let here = d x y in (λ h. let e = here.0 h in cc, λ h. here.1 cc)

pub option_same : {A : Type 0} (E : A → A → Bool) → ((a b : A) → Decides (E a b) (a ≡ b)) → (x y : Option A) → Decides (option_eq E x y) (x ≡ y)
option_same E d None None = (λ h. refl, λ h. refl)
option_same E d None (Some y) = ((λ h. cc), λ h. cc)
option_same E d (Some x) None = ((λ h. cc), λ h. cc)
option_same E d (Some x) (Some y) = let here = d x y in (λ h. let e = here.0 h in cc, λ h. here.1 cc)

pub text_decides : (a b : String Global) → Decides (bytes_eq (string_bytes a) (string_bytes b)) (string_bytes a ≡ string_bytes b)
text_decides a b = bytes_eq-Decides (string_bytes a) (string_bytes b)

pub optional_text : (x y : Option (String Global)) → Decides (option_eq (λ a b. bytes_eq (string_bytes a) (string_bytes b)) x y) (option_map string_bytes x ≡ option_map string_bytes y)
optional_text = option_view (λ a b. bytes_eq (string_bytes a) (string_bytes b)) string_bytes text_decides
