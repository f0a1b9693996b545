use Rattle.std.proofs.Common.{take}
use Rattle.csl_entry.proofs.ToldApart.{IsToldApart}
use Rattle.csl_entry.proofs.forms.form_list.disambiguate_forms.Given as goal

abbrev pub invariant-loop-place : goal.invariant-loop-place
invariant-loop-place l = IsToldApart l.default (take l.place-index l.places) l.initial.forms l.forms l.changed
