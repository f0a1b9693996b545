use Rattle.std.proofs.Common.{◌≡◌, drop, map}
use Rattle.csl_wire.specs.Reading.{borrowed, pair_by, value_named}
use Rattle.csl_wire.proofs.form.paired.Given as goal

-- no pair so far has the name
abbrev pub invariant-loop-known : goal.invariant-loop-known
invariant-loop-known g l = value_named (map (pair_by borrowed) (drop l.known-index l.names)) l.name ≡ value_named (map (pair_by borrowed) l.names) l.name
