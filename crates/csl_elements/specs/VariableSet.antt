-- A set of variables is known by the variables that it has (CSL 1.0.2, Appendix IV: Variables). It
-- is a function from them to a boolean, as `has set`. A `VariableSet` is stored in the bits of a
-- number: each of the 98 variables has a place of its own, in the order of the five types, and the
-- set has the variables at whose places a bit is set. The places above mean nothing.
use Rattle.std.specs.Prelude.{◌≡◌, ℕ, ◌+◌, ◌==◌, ◌||◌, Bool, true, false, List, [], ◌∷◌, if◌then◌else◌}
use Rattle.std.specs.BTreeSet.{BTreeSet, contains}
use Rattle.std.specs.Int.{bit_at}
use denote.Enum.Declared.{tag_of}
use Rattle.csl_elements.specs.contracts.taxonomy.DateVariable as of_date
use Rattle.csl_elements.specs.contracts.taxonomy.NameVariable as of_name
use Rattle.csl_elements.specs.contracts.taxonomy.NumberVariable as of_number
use Rattle.csl_elements.specs.contracts.taxonomy.StandardVariable as of_standard
use Rattle.csl_elements.specs.contracts.taxonomy.VariableOrd.TheImpl.{cmp-value as cmp_variable}
use Rattle.csl_elements.specs.contracts.taxonomy.VariablePartialEq.TheImpl.{eq-value}
use Rattle.csl_elements.specs.declared.taxonomy.Variable.{Variable}
use Rattle.csl_elements.specs.declared.taxonomy.Variable.TheVariants as variable
use Rattle.csl_elements.specs.declared.variable_set.VariableSet.{VariableSet}

-- ---- sets as functions

-- the set without variables
abbrev pub no_variables : Variable → Bool
no_variables v = false

-- the set with one more variable
unfoldable pub with_variable : Variable → (Variable → Bool) → Variable → Bool
with_variable u set v = eq-value.it v u || set v

-- the set `now` with those of the variables, too, that `set` has
unfoldable pub with_held : (Variable → Bool) → List Variable → (Variable → Bool) → Variable → Bool
with_held set [] now = now
with_held set (u ∷ us) now = with_held set us (if set u then with_variable u now else now)

-- the variables of an ordered set
unfoldable pub members_of : BTreeSet Variable → Variable → Bool
members_of ordered v = contains cmp_variable.it ordered v

-- ---- sets in the bits of a number

abbrev pub place : Variable → ℕ
place (variable.Standard v) = tag_of of_standard.the_type v
place (variable.Number v) = 47 + tag_of of_number.the_type v
place (variable.Page v) = 64
place (variable.Date v) = 65 + tag_of of_date.the_type v
place (variable.Name v) = 71 + tag_of of_name.the_type v

-- whether the set has the variable
unfoldable pub has : VariableSet → Variable → Bool
has set v = bit_at set.places (place v) == 1

abbrev pub Has : VariableSet → Variable → Type 0
Has set v = has set v ≡ true

-- two sets have the same of the variables that were read
abbrev pub AreAlikeOn : VariableSet → VariableSet → VariableSet → Type 0
AreAlikeOn read a b = (v : Variable) → Has read v → has a v ≡ has b v

-- the second set has each variable of the first
abbrev pub IsWithin : VariableSet → VariableSet → Type 0
IsWithin a b = (v : Variable) → Has a v → Has b v
