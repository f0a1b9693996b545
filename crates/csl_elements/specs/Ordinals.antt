-- The ordinals of a style are those of the first locale that has any (CSL 1.0.2, Ordinals;
-- Gender-specific Ordinals).
-- - A slot from 0 to 99 fits a number whose digits are the slot: the last digit for a slot below 10
--   and the last two for any other, unless the ordinal names the last digit, the last two digits or
--   the whole number. The sign of the number does not count.
-- - The slots from 10 to 99 come first, then those from 0 to 9, then the default. In each of these
--   three groups, the first ordinal of the requested gender comes before the first neutral one.
-- - The word for an ordinal is that of the slot of that word, for 1 to 10 only, with the same rule
--   of gender.
use Rattle.std.specs.Prelude.{ℕ, ◌%◌, Bool, false, ◌&&◌, ◌==◌, nat_lt, nat_le, List, [], ◌∷◌, unsigned_abs, Option, Some, None, option_map, find, if◌then◌else◌}
use Rattle.std.specs.Option.{option_or, option_eq}
use denote.Enum.Bare.{sameb}
use Rattle.csl_common.specs.declared.ordinal.GrammarGender.{GrammarGender}
use Rattle.csl_common.specs.contracts.ordinal.GrammarGender.{the_type}
use Rattle.csl_common.specs.Ordinal.{OrdinalTexts, has_long_ordinal}
use Rattle.csl_elements.specs.declared.locale.OrdinalSlot.{OrdinalSlot}
use Rattle.csl_elements.specs.declared.locale.OrdinalSlot.TheVariants.{Default, Two, Long}
use Rattle.csl_elements.specs.declared.locale.OrdinalMatch.{OrdinalMatch}
use Rattle.csl_elements.specs.declared.locale.OrdinalMatch.TheVariants.{LastDigit, LastTwoDigits, WholeNumber}
use Rattle.csl_elements.specs.contracts.locale.OrdinalSlotPartialEq.TheImpl.{eq-value}
use Rattle.csl_elements.specs.declared.locale.ordinals.OrdinalGroup.{OrdinalGroup}
use Rattle.csl_elements.specs.declared.locale.ordinals.OrdinalGroup.TheVariants.{Between, Slot}
use Rattle.csl_elements.specs.Locale.{OrdinalView}

-- the digits of a number that are compared with a slot: the last for the slots 0 to 9 and the last
-- two for 10 to 99, unless the ordinal sets which
abbrev pub digits_for : Option OrdinalMatch → ℕ → ℕ → ℕ
digits_for None slot n = if nat_lt slot 10 then n % 10 else n % 100
digits_for (Some LastDigit) slot n = n % 10
digits_for (Some LastTwoDigits) slot n = n % 100
digits_for (Some WholeNumber) slot n = n

-- a slot from low to high is for the number
abbrev pub slot_between : ℕ → ℕ → ℕ → OrdinalSlot → Option OrdinalMatch → Bool
slot_between low high n Default matching = false
slot_between low high n (Two slot) matching = nat_le low slot && (nat_le slot high && (slot == digits_for matching slot n))
slot_between low high n (Long word) matching = false

-- the ordinal is for the number n, by a slot from low to high
abbrev pub is_between : ℕ → ℕ → ℕ → OrdinalView → Bool
is_between low high n o = slot_between low high n o.slot o.matching

-- the ordinal has this slot
abbrev pub is_in : OrdinalSlot → OrdinalView → Bool
is_in slot o = eq-value.it o.slot slot

-- the ordinal is one of the group
abbrev pub is_in_group : OrdinalGroup → OrdinalView → Bool
is_in_group (Between low high n) = is_between low high n
is_in_group (Slot slot) = is_in slot

-- the first of the group that is for the gender, or, with no gender, the first neutral one
abbrev pub for_gender : (OrdinalView → Bool) → List OrdinalView → Option GrammarGender → Option OrdinalView
for_gender group ordinals gender = find (λ o. group o && option_eq (sameb the_type) o.gender gender) ordinals

-- the first of the group for the gender, else the first neutral one
abbrev pub first_of : (OrdinalView → Bool) → List OrdinalView → Option GrammarGender → Option OrdinalView
first_of group ordinals gender = option_or (for_gender group ordinals gender) (for_gender group ordinals None)

-- the ordinals of the first locale that has any
abbrev pub first_ordinals : List (List OrdinalView) → List OrdinalView
first_ordinals [] = []
first_ordinals ([] ∷ locales) = first_ordinals locales
first_ordinals ((o ∷ ordinals) ∷ locales) = o ∷ ordinals

-- the ordinal for a number: by a slot from 10 to 99, else by one from 0 to 9, else the default
abbrev pub ordinal_for : List OrdinalView → ℕ → Option GrammarGender → Option OrdinalView
ordinal_for ordinals n gender =
    option_or (first_of (is_between 10 99 n) ordinals gender)
    (option_or (first_of (is_between 0 9 n) ordinals gender)
    (first_of (is_in Default) ordinals gender))

-- the ordinal suffix of a number, whatever its sign
abbrev pub ordinals : List (List OrdinalView) → OrdinalTexts
ordinals locales n gender = option_map (λ o. o.text) (ordinal_for (first_ordinals locales) (unsigned_abs n) gender)

-- the word for the ordinal of a number from 1 to 10
abbrev pub long_ordinals : List (List OrdinalView) → OrdinalTexts
long_ordinals locales n gender =
    if has_long_ordinal n then option_map (λ o. o.text) (first_of (is_in (Long (unsigned_abs n))) (first_ordinals locales) gender)
    else None
