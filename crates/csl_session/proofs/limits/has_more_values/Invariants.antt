use Rattle.std.proofs.Common.{◌≡◌, ◌+◌, drop}
use Rattle.csl_session.specs.Limits.{values}
use Rattle.csl_session.proofs.limits.has_more_values.Given as goal

-- what is left counts what was met
abbrev pub invariant-loop-byte : goal.invariant-loop-byte
invariant-loop-byte l = l.most + values (drop l.byte-index l.text) ≡ l.left + values l.text
