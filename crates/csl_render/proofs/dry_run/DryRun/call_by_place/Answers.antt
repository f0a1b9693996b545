use Rattle.std.proofs.Common.{sym, ◌∙◌}
use Rattle.csl_render.proofs.DryRuns.{recalled}
use Rattle.csl_render.proofs.dry_run.DryRun.call_by_place.Goals as goal

pub returns : goal.returns
returns g c = rw (← c.self.view_is, c.in_ok-place.was) (recalled _ c.copied.result (λ a e. c.self.invariant.1 c.in_ok-place.place a (sym c.get.ensures.value ∙ sym c.copied.ensures ∙ e)))
