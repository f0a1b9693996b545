-- A mutable reference to a form of a name. A value written there replaces the form that was read
-- (`with_form` of `NameProperties`), and nothing else changes.
-- `FormList`, `list_row`, `lends_list` and `lends_shown` are the code's own: only private contracts
-- cite them.
use Rattle.std.specs.Prelude.{◌≡◌, ℕ, Option, Some, OnSome}
use Rattle.std.specs.Vec.{with_item}
use Rattle.std.specs.Borrow.{Fml, MutBor, Lends, LendsSo}
use Rattle.std.specs.declared.vec.Vec.{Vec}
use Rattle.std.specs.declared.alloc.Global.{Global}
use denote.RattleType.{RattleType}
use Rattle.std.specs.contracts.alloc.Global as global
use Rattle.std.specs.contracts.vec.Vec as vec
use Rattle.std.specs.contracts.option.Option as option
use Rattle.std.specs.contracts.impls.GlobalAllocator.TheImpl.{ghosts}
use Rattle.csl_entry.specs.declared.forms.name_form.DisambiguatedNameForm.{DisambiguatedNameForm}
use Rattle.csl_entry.specs.declared.forms.name_properties.NameDisambiguationProperties.{NameDisambiguationProperties}
use Rattle.csl_entry.specs.contracts.forms.name_form.DisambiguatedNameForm as form
use Rattle.csl_entry.specs.contracts.forms.name_properties.NameDisambiguationProperties as properties
use Rattle.csl_entry.specs.NameProperties.{name_properties, with_form}

-- a list of forms as the code stores it
abbrev pub FormList : Type 0
FormList = Vec (Option DisambiguatedNameForm) Global

abbrev pub list_row : RattleType
list_row = vec.the_row (option.the_row form.the_row) global.the_row ghosts

-- the list at place i ends as the last value behind r; nothing else changes
abbrev pub lends_list : MutBor NameDisambiguationProperties → ℕ → MutBor FormList → Fml
lends_list s i r = Lends properties.the_row list_row s r (λ v. record s.now { name_forms = with_item s.now.name_forms i v })

-- the form at place i of a list ends as the last value behind r, and is present
abbrev pub lends_shown : MutBor FormList → ℕ → MutBor DisambiguatedNameForm → Fml
lends_shown s i r = Lends list_row form.the_row s r (λ w. with_item s.now i (Some w))

-- the properties end with the last value behind r at the place to which r refers, and nothing else
-- changes
abbrev pub lends_form : MutBor NameDisambiguationProperties → ℕ → Option (MutBor DisambiguatedNameForm) → Fml
lends_form s i r = LendsSo properties.the_row form.the_row s r (λ n w. OnSome r (name_properties n ≡ with_form i (name_properties s.now) w)) (λ n. name_properties n ≡ name_properties s.now)
