use Rattle.std.proofs.Common.{◌≡◌, drop}
use Rattle.lit_model.specs.declared.person.PersonRole.TheVariants.{Translator}
use Rattle.lit_model.specs.Person.{same_role, with_role}
use Rattle.csl_entry.specs.EntryName.{is_one_of}
use Rattle.csl_entry.proofs.entry.name.is_translator.Given as goal

abbrev pub invariant-loop-group : goal.invariant-loop-group
invariant-loop-group l =
    is_one_of (with_role (λ r. same_role r Translator) (drop l.group-index l.group-items)) l.person ≡ is_one_of (with_role (λ r. same_role r Translator) l.group-items) l.person
