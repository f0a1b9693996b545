use Rattle.std.proofs.Common.{◌≡◌, take}
use Rattle.std.specs.Fmt.{WritesInCalls}
use Rattle.lit_model.specs.NumericWrite.{integer_text, numbers_text}
use Rattle.lit_model.proofs.numeric.write.write_numbers.Given as goal

-- so far the sink took the numbers before this one, and no refusal is new
abbrev pub invariant-loop-number : goal.invariant-loop-number
invariant-loop-number g l = record {
  taken : WritesInCalls g.S.Write.write_str_gives l.fn.sink (numbers_text (integer_text l.machine_readable) (take l.number-index l.numbers)) l.sink;
  kept : g.S.Sink.refused l.sink ≡ g.S.Sink.refused l.fn.sink;
}
