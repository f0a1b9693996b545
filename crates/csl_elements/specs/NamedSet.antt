-- A set of variables and kinds is a function from them to a boolean. `named_set` reads the six sets
-- of a `Named` as one: one for each type of variable, and one of kinds.
use Rattle.std.specs.Prelude.{Bool, false, ◌||◌}
use Rattle.std.specs.BTreeSet.{contains}
use Rattle.csl_elements.specs.declared.named.Named.{Named}
use Rattle.csl_elements.specs.declared.taxonomy.Variable.{Variable}
use Rattle.csl_elements.specs.declared.taxonomy.Variable.TheVariants as variable
use Rattle.csl_elements.specs.declared.taxonomy.Kind.{Kind}
use Rattle.csl_elements.specs.contracts.taxonomy.NumberVariableOrd.TheImpl.{cmp-value as cmp_number}
use Rattle.csl_elements.specs.contracts.taxonomy.PageVariableOrd.TheImpl.{cmp-value as cmp_page}
use Rattle.csl_elements.specs.contracts.taxonomy.StandardVariableOrd.TheImpl.{cmp-value as cmp_standard}
use Rattle.csl_elements.specs.contracts.taxonomy.NameVariableOrd.TheImpl.{cmp-value as cmp_name}
use Rattle.csl_elements.specs.contracts.taxonomy.DateVariableOrd.TheImpl.{cmp-value as cmp_date}
use Rattle.csl_elements.specs.contracts.taxonomy.KindOrd.TheImpl.{cmp-value as cmp_kind}

-- an item that a style may name: a variable or a kind
pub data NamedItem : Type 0 where
  a_variable : Variable → NamedItem
  a_kind : Kind → NamedItem

abbrev pub NamedSet : Type 0
NamedSet = NamedItem → Bool

abbrev pub empty_named_set : NamedSet
empty_named_set q = false

-- the union of two sets
unfoldable pub named_union : NamedSet → NamedSet → NamedSet
named_union a b q = a q || b q

unfoldable pub named_set : Named → NamedSet
named_set n (a_variable (variable.Number v)) = contains cmp_number.it n.numbers v
named_set n (a_variable (variable.Page v)) = contains cmp_page.it n.pages v
named_set n (a_variable (variable.Standard v)) = contains cmp_standard.it n.standards v
named_set n (a_variable (variable.Name v)) = contains cmp_name.it n.names v
named_set n (a_variable (variable.Date v)) = contains cmp_date.it n.dates v
named_set n (a_kind k) = contains cmp_kind.it n.kinds k
