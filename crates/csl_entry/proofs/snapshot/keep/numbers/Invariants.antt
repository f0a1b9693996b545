use Rattle.std.proofs.Common.{◌≡◌, ◌++◌, map}
use Rattle.lit_model.specs.MaybeTyped.{maybe_view}
use Rattle.lit_model.specs.Numeric.{numeric_view}
use Rattle.csl_entry.specs.Snapshot.{keyed, kept_answers}
use Rattle.csl_entry.proofs.snapshot.keep.numbers.Given as goal

-- what is kept so far, and the answers to the remaining variables, are the answers to all
abbrev pub invariant-loop-variable : goal.invariant-loop-variable
invariant-loop-variable g l =
    map (keyed (maybe_view numeric_view)) l.kept.items ++ kept_answers (g.T.EntryLike.answers l.entry).numbers l.variable-iterator ≡ kept_answers (g.T.EntryLike.answers l.entry).numbers l.variables.keys
