use Rattle.std.proofs.Common.{sym, ◌∙◌}
use Rattle.csl_elements.specs.View.{definitions}
use Rattle.csl_style.proofs.PlacesByName.{within-list}
use Rattle.csl_style.proofs.Meanings.{meaning-if}
use Rattle.csl_style.proofs.style.Style.macro_index.Goals as goal

pub returns-clause-within : goal.returns-clause-within
returns-clause-within c = rw (← c.self.view_is) (within-list c.self.inside.macros.items c.args.name.now c.get.result (sym (c.self.invariant.2 c.args.name.now) ∙ sym c.get.ensures))

pub returns-clause-meaning : goal.returns-clause-meaning
returns-clause-meaning c = rw (← c.self.view_is) (meaning-if (definitions c.self.inside.macros.items) c.args.name.now c.self.invariant.0 c.get.result (sym (c.self.invariant.2 c.args.name.now) ∙ sym c.get.ensures))
