-- Two persons *show the same* if name, given name, prefix, suffix and alias have the same bytes, or
-- are absent in both, and either both or neither have a comma before the suffix. Two lists show the
-- same if they have the same length and show the same at each place.
use Rattle.std.specs.Prelude.{ℕ, Bool, ◌&&◌, List, Option}
use Rattle.std.specs.Bool.{beq}
use Rattle.std.specs.Cmp.Lexicographic.{pointwise}
use Rattle.std.specs.Option.{option_eq}
use Rattle.std.specs.Str.{bytes_eq}
use Rattle.lit_model.specs.Person.{PersonView}

-- whether both texts are absent, or both are present and equal
abbrev pub same_text : Option (List ℕ) → Option (List ℕ) → Bool
same_text = option_eq bytes_eq

-- whether two persons show the same
abbrev pub same_person : PersonView → PersonView → Bool
same_person a b = bytes_eq a.name b.name && (same_text a.given_name b.given_name && (same_text a.prefix b.prefix && (same_text a.suffix b.suffix && (same_text a.alias b.alias && beq a.comma_suffix b.comma_suffix))))

-- whether two lists have the same length and show the same at each place
abbrev pub same_persons : List PersonView → List PersonView → Bool
same_persons = pointwise same_person
