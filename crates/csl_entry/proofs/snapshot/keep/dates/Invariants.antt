use Rattle.std.proofs.Common.{◌≡◌, ◌++◌, map}
use Rattle.lit_model.specs.Date.{date_view}
use Rattle.csl_entry.specs.Snapshot.{keyed, kept_answers}
use Rattle.csl_entry.proofs.snapshot.keep.dates.Given as goal

-- what is kept so far, and the answers to the remaining variables, are the answers to all
abbrev pub invariant-loop-variable : goal.invariant-loop-variable
invariant-loop-variable g l =
    map (keyed date_view) l.kept.items ++ kept_answers (g.T.EntryLike.answers l.entry).dates l.variable-iterator ≡ kept_answers (g.T.EntryLike.answers l.entry).dates l.variables.keys
