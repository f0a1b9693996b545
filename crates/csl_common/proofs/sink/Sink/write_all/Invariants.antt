use Rattle.std.proofs.Common.{◌≡◌, take}
use Rattle.std.specs.Fmt.{WritesInCalls}
use Rattle.csl_common.specs.Sink.{concat_texts}
use Rattle.csl_common.proofs.sink.Sink.write_all.Given as goal

-- so far the writer took the texts before this one, and no refusal is new
abbrev pub invariant-loop-text : goal.invariant-loop-text
invariant-loop-text g l = record {
  taken : WritesInCalls g.Self.Write.write_str_gives l.fn.self (concat_texts (take l.text-index l.texts)) l.self;
  kept : g.Self.Sink.refused l.self ≡ g.Self.Sink.refused l.fn.self;
}
