use Rattle.std.proofs.Common.{◌≡◌, ◌++◌, map, drop}
use Rattle.std.specs.List.{filter}
use Rattle.lit_model.specs.declared.person.PersonRole.TheVariants.{Translator}
use Rattle.lit_model.specs.Person.{person_view}
use Rattle.csl_entry.specs.Answers.{cow_view}
use Rattle.csl_entry.specs.Creators.{in_role}
use Rattle.csl_entry.specs.EntryName.{is_one_of}
use Rattle.csl_entry.proofs.entry.name.editor_translators.Given as goal

abbrev pub invariant-loop-editor : goal.invariant-loop-editor
invariant-loop-editor l =
    map (cow_view person_view) l.found.items ++ map person_view (filter (is_one_of (in_role Translator l.entry)) (drop l.editor-index l.editors)) ≡ map person_view (filter (is_one_of (in_role Translator l.entry)) l.editors)
