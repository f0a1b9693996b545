use Rattle.std.proofs.Common.{ap, ◌∙◌}
use Rattle.csl_elements.specs.View.{definitions, view_nodes}
use Rattle.csl_style.specs.Expansion.{macro_body}
use Rattle.csl_style.proofs.Meanings.{meaning-of}
use Rattle.csl_style.proofs.style.Style.get_macro.Goals as goal

pub returns-clause-meaning : goal.returns-clause-meaning
returns-clause-meaning c =
    let ds = definitions c.self.inside.macros.items in
    rw (← c.self.view_is) (meaning-of ds c.args.name.now (λ m. view_nodes m.now.children.items) c.first_macro.result c.self.invariant.0
    (c.first_macro.ensures.holds ∙ ap (λ ms. macro_body c.args.name.now (definitions ms)) c.deref.ensures.value))
