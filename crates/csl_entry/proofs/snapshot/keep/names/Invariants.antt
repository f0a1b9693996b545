use Rattle.std.proofs.Common.{◌≡◌, ◌++◌, map}
use Rattle.lit_model.specs.Person.{person_view}
use Rattle.csl_entry.specs.Snapshot.{keyed, kept_answers, unless_empty}
use Rattle.csl_entry.proofs.snapshot.keep.names.Given as goal

-- what is kept so far, and the answers to the remaining variables, are the answers to all
abbrev pub invariant-loop-variable : goal.invariant-loop-variable
invariant-loop-variable g l =
    map (keyed (λ persons. map person_view persons.items)) l.kept.items ++ kept_answers (λ v. unless_empty ((g.T.EntryLike.answers l.entry).names v)) l.variable-iterator ≡ kept_answers (λ v. unless_empty ((g.T.EntryLike.answers l.entry).names v)) l.variables.keys
