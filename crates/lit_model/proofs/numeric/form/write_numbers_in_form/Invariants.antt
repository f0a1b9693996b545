use Rattle.std.proofs.Common.{◌≡◌, take}
use Rattle.std.specs.Fmt.{WritesInCalls}
use Rattle.lit_model.specs.NumericWrite.{numbers_text}
use Rattle.lit_model.specs.NumericForm.{form_text}
use Rattle.lit_model.proofs.numeric.form.write_numbers_in_form.Given as goal

-- so far the sink took the numbers before this one, and no refusal is new
abbrev pub invariant-loop-number : goal.invariant-loop-number
invariant-loop-number g l = record {
  taken : WritesInCalls g.S.Write.write_str_gives l.fn.sink (numbers_text (form_text (g.O.Ordinals.ordinals l.ordinals) (g.O.Ordinals.long_ordinals l.ordinals) l.form l.gender) (take l.number-index l.numbers)) l.sink;
  kept : g.S.Sink.refused l.sink ≡ g.S.Sink.refused l.fn.sink;
}
