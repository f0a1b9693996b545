use Rattle.std.proofs.Common.{◌≡◌, ◌++◌, map}
use Rattle.lit_model.specs.MaybeTyped.{maybe_view}
use Rattle.lit_model.specs.Page.{pages_view}
use Rattle.csl_entry.specs.Snapshot.{keyed, kept_answers}
use Rattle.csl_entry.proofs.snapshot.keep.pages.Given as goal

-- what is kept so far, and the answers to the remaining variables, are the answers to all
abbrev pub invariant-loop-variable : goal.invariant-loop-variable
invariant-loop-variable g l =
    map (keyed (maybe_view pages_view)) l.kept.items ++ kept_answers (g.T.EntryLike.answers l.entry).pages l.variable-iterator ≡ kept_answers (g.T.EntryLike.answers l.entry).pages l.variables.keys
