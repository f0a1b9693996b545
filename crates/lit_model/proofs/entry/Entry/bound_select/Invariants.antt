use Rattle.std.proofs.Common.{◌≡◌, map, drop}
use Rattle.lit_model.specs.Select.{clause_view, bound_select}
use Rattle.lit_model.proofs.entry.Entry.bound_select.Given as goal

abbrev pub invariant-loop-clause : goal.invariant-loop-clause
invariant-loop-clause l = bound_select (map clause_view (drop l.clause-index l.clauses)) l.self ≡ bound_select (map clause_view l.clauses) l.self
