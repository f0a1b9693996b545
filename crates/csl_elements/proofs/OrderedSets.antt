-- Ordered sets of variables, by the variables that they have. All 98 variables stand in one list:
-- so a set is the set of those in the list that it has.
use Rattle.std.proofs.Common.{◌≡◌, Bool, true, false, List, [], ◌∷◌, cond, refl, sym, ap, ap₂, ◌∙◌}
use Rattle.std.specs.Prelude.{◌||◌, ◌&&◌, if◌then◌else◌}
use Rattle.std.specs.BTreeMap.{is_at}
use Rattle.std.specs.BTreeSet.{BTreeSet, IsEmpty, Updates, contains}
use Rattle.std.specs.List.{list_any}
use Rattle.csl_elements.specs.contracts.taxonomy.VariableOrd.TheImpl.{cmp-value as cmp_variable}
use Rattle.csl_elements.specs.contracts.taxonomy.VariablePartialEq.TheImpl.{eq-value as eq_variable}
use Rattle.csl_elements.specs.declared.taxonomy.StandardVariable.TheVariants as standards
use Rattle.csl_elements.specs.declared.taxonomy.NumberVariable.TheVariants as numbers
use Rattle.csl_elements.specs.declared.taxonomy.PageVariable.TheVariants as pages
use Rattle.csl_elements.specs.declared.taxonomy.DateVariable.TheVariants as dates
use Rattle.csl_elements.specs.declared.taxonomy.NameVariable.TheVariants as names
use Rattle.csl_elements.specs.declared.taxonomy.Variable.{Variable}
use Rattle.csl_elements.specs.declared.taxonomy.Variable.TheVariants as variables
use Rattle.csl_elements.specs.declared.taxonomy.all_variables.TheConstants.{VARIABLES}
use Rattle.csl_elements.specs.VariableSet.{no_variables, with_variable, with_held, members_of}
use Rattle.csl_elements.proofs.Sets.{or_false}
use Rattle.csl_elements.proofs.Variables.{variable_decides}
use Rattle.csl_elements.proofs.VariableSets.{same_by_order, same_either_way}

-- ---- insertions

cond_or : (a b : Bool) → cond a true b ≡ (a || b)
cond_or true b = refl
cond_or false b = refl

-- an ordered set after an insertion
added_at : (u : Variable) (old new : BTreeSet Variable) → Updates cmp_variable.it old new u true → (v : Variable) → members_of new v ≡ with_variable u (members_of old) v
unfolding members_of with_variable
added_at u old new updates v =
    updates.0 v
    ∙ cond_or (is_at (cmp_variable.it u) v) (contains cmp_variable.it old v)
    ∙ ap (λ b. b || contains cmp_variable.it old v) (same_by_order u v ∙ same_either_way u v)

pub added : (u : Variable) (old new : BTreeSet Variable) → Updates cmp_variable.it old new u true → members_of new ≡ with_variable u (members_of old)
added u old new updates = λ i v. added_at u old new updates v i

pub no_members : (ordered : BTreeSet Variable) → IsEmpty ordered → members_of ordered ≡ no_variables
unfolding members_of
no_members ordered none = λ i v. ap (list_any (is_at (cmp_variable.it v))) none i

-- ---- lists of variables

and_false : (a : Bool) → (a && false) ≡ false
and_false true = refl
and_false false = refl

or_turns : (a b c : Bool) → ((a || b) || c) ≡ (b || ((a && true) || c))
or_turns true true c = refl
or_turns true false c = refl
or_turns false true c = refl
or_turns false false c = refl

and_over : (a b c : Bool) → ((a && c) || (b && c)) ≡ ((a || b) && c)
and_over true true true = refl
and_over true true false = refl
and_over true false true = refl
and_over true false false = refl
and_over false b c = refl

by_first : (a b c : Bool) → (a ≡ true → b ≡ c) → (a && b) ≡ (a && c)
by_first true b c f = f refl
by_first false b c f = refl

-- whether the variable is one of the list that the set has
any_held : (Variable → Bool) → List Variable → Variable → Bool
any_held set us v = list_any (λ u. eq_variable.it v u && set u) us

one_held : (b : Bool) (u v : Variable) (now : Variable → Bool) (rest : Bool) → ((if b then with_variable u now else now) v || rest) ≡ (now v || ((eq_variable.it v u && b) || rest))
unfolding with_variable
one_held true u v now rest = or_turns (eq_variable.it v u) (now v) rest
one_held false u v now rest = ap (λ b. now v || (b || rest)) (sym (and_false (eq_variable.it v u)))

held_is : (set : Variable → Bool) (us : List Variable) (now : Variable → Bool) (v : Variable) → with_held set us now v ≡ (now v || any_held set us v)
unfolding with_held any_held
held_is set [] now v = sym (or_false (now v))
held_is set (u ∷ us) now v = held_is set us (if set u then with_variable u now else now) v ∙ one_held (set u) u v now (any_held set us v)

-- it is so exactly if the variable is in the list, and the set has it
any_held_is : (set : Variable → Bool) (us : List Variable) (v : Variable) → any_held set us v ≡ (list_any (eq_variable.it v) us && set v)
unfolding any_held
any_held_is set [] v = refl
any_held_is set (u ∷ us) v =
    ap₂ (λ a b. a || b) (by_first (eq_variable.it v u) (set u) (set v) (λ e. ap set (sym ((variable_decides v u).0 e)))) (any_held_is set us v)
    ∙ and_over (eq_variable.it v u) (list_any (eq_variable.it v) us) (set v)

-- each variable is in the list of all
listed : (v : Variable) → list_any (eq_variable.it v) VARIABLES ≡ true
listed (variables.Standard standards.Abstract) = refl
listed (variables.Standard _) = refl
listed (variables.Number numbers.ChapterNumber) = refl
listed (variables.Number _) = refl
listed (variables.Page pages.Page) = refl
listed (variables.Date dates.Accessed) = refl
listed (variables.Date _) = refl
listed (variables.Name names.Author) = refl
listed (variables.Name _) = refl

pub all_held : (set : Variable → Bool) → with_held set VARIABLES no_variables ≡ set
all_held set = λ i v. (held_is set VARIABLES no_variables v ∙ any_held_is set VARIABLES v ∙ ap (λ b. b && set v) (listed v)) i
