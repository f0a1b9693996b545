use Rattle.std.proofs.Common.{ℕ, List, ap, ◌∙◌}
use Rattle.std.specs.Prelude.{Option, None, unwrap_or, codes}
use Rattle.csl_tree.specs.Marks.{without, or_else}
use Rattle.csl_tree.proofs.Fronts.{stripped}
use Rattle.csl_tree.proofs.marks.after_weight.Goals as goal

pub returns : goal.returns
returns c =
    let css = c.args.css.now in
    c.after.ensures ∙ ap (λ (o : Option (List ℕ)). unwrap_or (or_else o (without (codes "font-weight: lighter;") css)) css) (stripped (codes "font-weight: bold;") css None c.in_default.ensures.cases)
