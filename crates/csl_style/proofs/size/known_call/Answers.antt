use Rattle.std.proofs.Common.{◌≡◌, ◌+◌, Bool, not, ◌∙◌, rules}
use Rattle.std.proofs.Math.Dec.{eqb}
use Rattle.csl_elements.specs.Node.{expand}
use Rattle.csl_elements.specs.View.{view_node}
use Rattle.csl_style.specs.Expanded.{macro_env}
use Rattle.csl_style.proofs.AllWithins.{size_by}
use Rattle.csl_style.proofs.size.known_call.Goals as goal

pub returns-clause-size : goal.returns-clause-size
returns-clause-size g c =
    let once : Bool = not (eqb g.row.ONCE 0) in
    let inside = c.room_for_next_branch-inside.result in
    let found = c.in_ok-found.found in
    let one_more : inside + 1 ≡ c.in_ok-size.size = search rules in
    size_by c.args.style.now (expand (macro_env c.args.style.now) (view_node c.args.element.now)) found.rendered found.all inside once c.in_ok-found.ensures.all c.in_ok-found.ensures.rendered c.room_for_next_branch-inside.ensures ∙ one_more
