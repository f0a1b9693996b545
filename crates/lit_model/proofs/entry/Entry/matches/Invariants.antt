use Rattle.std.proofs.Common.{◌≡◌, map, drop}
use Rattle.lit_model.specs.Select.{clause_view, matches}
use Rattle.lit_model.proofs.entry.Entry.matches.Given as goal

abbrev pub invariant-loop-clause : goal.invariant-loop-clause
invariant-loop-clause l = matches (map clause_view (drop l.clause-index l.clauses)) l.self ≡ matches (map clause_view l.clauses) l.self
