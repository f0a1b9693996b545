use Rattle.std.proofs.Common.{arith, not}
use Rattle.std.proofs.Math.Dec.{eqb}
use Rattle.csl_style.proofs.YearSuffixes.{names_sized}
use Rattle.csl_style.proofs.Depths.{names_deep}
use Rattle.csl_style.proofs.Weights.{names_heavy}
use Rattle.csl_style.proofs.size.+size.Goals as goal
use Rattle.csl_style.specs.Expanded.{macro_env}
use Rattle.csl_style.specs.Size.{counted}

pub room_left_by_names-loop-child-init : goal.room_left_by_names-loop-child-init
room_left_by_names-loop-child-init g t c =
    let env = macro_env c.args.style.now in
    let once = not (eqb g.row.ONCE 0) in
    let sized = names_sized env c.args.names.now in
    let heavy = names_heavy once (counted once c.args.style.now.locales) env c.args.names.now in
    let deep = names_deep env c.args.names.now in
    rw c.deref-child-items.ensures.value record {
      taken = grind (arith, heavy);
      lighter = omega arith;
      deep = grind (arith, deep);
      inside = omega arith;
    }
