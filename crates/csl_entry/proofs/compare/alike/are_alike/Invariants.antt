use Rattle.std.proofs.Common.{◌↔◌}
use Rattle.csl_entry.specs.Alike.{Each, SameAnswer}
use Rattle.csl_entry.proofs.compare.alike.are_alike.Given as goal

-- both answer alike to the remaining items exactly if they answer alike to all
abbrev pub invariant-loop-v : goal.invariant-loop-v
invariant-loop-v g l =
    let same = SameAnswer (g.T.EntryLike.answers l.a) (g.U.EntryLike.answers l.b) in
    Each (λ v. same (g.S.Sort.item v)) l.v-iterator ↔ Each (λ v. same (g.S.Sort.item v)) l.set.keys
