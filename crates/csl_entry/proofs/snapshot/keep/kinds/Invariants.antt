use Rattle.std.proofs.Common.{◌≡◌, ◌++◌}
use Rattle.std.specs.List.{filter}
use Rattle.csl_entry.proofs.snapshot.keep.kinds.Given as goal

-- what is kept so far, and what is to be kept of the remaining kinds, is what is kept of all
abbrev pub invariant-loop-kind : goal.invariant-loop-kind
invariant-loop-kind g l =
    l.kept.items ++ filter (g.T.EntryLike.answers l.entry).kinds l.kind-iterator ≡ filter (g.T.EntryLike.answers l.entry).kinds l.kinds.keys
