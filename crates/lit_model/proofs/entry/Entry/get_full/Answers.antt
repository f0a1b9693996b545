use Rattle.std.proofs.Common.{sym, ap, ◌∙◌}
use Rattle.std.specs.Prelude.{slice_get}
use Rattle.lit_model.proofs.Whole.{full_whole, full_alone, full_up}
use Rattle.lit_model.proofs.entry.Entry.get_full.Goals as goal

pub returns-then-not-is_untitled_part : goal.returns-then-not-is_untitled_part
returns-then-not-is_untitled_part c = sym (full_whole c.loop-entry.entry.now (sym c.if-not-is_untitled_part.ensures)) ∙ c.loop-entry.invariant

pub returns-in-None : goal.returns-in-None
returns-in-None c =
    sym (full_alone c.loop-entry.entry.now (ap (λ ps. slice_get ps 0) (sym c.deref.ensures.value) ∙ sym c.in-None.ensures.value)) ∙ c.loop-entry.invariant

pub loop-entry-preserved : goal.loop-entry-preserved
loop-entry-preserved c =
    sym (full_up c.loop-entry.entry.now c.in-Some.parent.now (sym c.if-not-is_untitled_part.ensures) (ap (λ ps. slice_get ps 0) (sym c.deref.ensures.value) ∙ sym c.in-Some.ensures.value)) ∙ c.loop-entry.invariant
