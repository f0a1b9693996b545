use Rattle.std.proofs.Common.{◌≡◌, Option, drop}
use Rattle.std.specs.List.{flat_map}
use Rattle.lit_model.specs.declared.entry.Entry.{Entry}
use Rattle.lit_model.specs.Entry.{preorder, AnswersBy}
use Rattle.csl_common.specs.Lists.{first_some}
use Rattle.lit_model.proofs.entry.Entry.+first.Given as goal

abbrev pub invariant-loop-parent : goal.invariant-loop-parent
invariant-loop-parent g l = (f : Entry → Option g.row.X.Denot) → AnswersBy (goal.F-post g l.f) f → first_some f (preorder l.self) ≡ first_some f (flat_map preorder (drop l.parent-index l.parent-items))
