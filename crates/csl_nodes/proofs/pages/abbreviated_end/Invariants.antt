use Rattle.std.proofs.Common.{◌≡◌, ◌+◌, drop, nat_eq}
use Rattle.std.specs.List.{common_prefix_len}
use Rattle.csl_nodes.proofs.pages.abbreviated_end.Given as goal

-- the bytes before this place are the same in both numbers
abbrev pub invariant-loop-place : goal.invariant-loop-place
invariant-loop-place l = l.place + common_prefix_len nat_eq (drop l.place l.from) (drop l.place l.to) ≡ common_prefix_len nat_eq l.from l.to
