use Rattle.std.proofs.Common.{arith}
use Rattle.csl_style.proofs.YearSuffixes.{names_sized}
use Rattle.csl_style.proofs.Depths.{names_deep}
use Rattle.csl_style.proofs.depth.+depth.Goals as goal
use Rattle.csl_style.specs.Expanded.{macro_env}

pub depth_of_names-loop-child-init : goal.depth_of_names-loop-child-init
depth_of_names-loop-child-init t c =
    let sized = names_sized (macro_env c.args.style.now) c.args.names.now in
    let deep = names_deep (macro_env c.args.style.now) c.args.names.now in
    rw c.deref-child-items.ensures.value record {
      told = grind (arith, deep);
      small = omega arith;
      inside = omega arith;
    }
