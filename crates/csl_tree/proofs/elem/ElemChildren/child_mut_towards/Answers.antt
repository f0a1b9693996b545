use Rattle.std.proofs.Common.{◌≡◌, refl, ap, arith}
use Rattle.std.specs.Prelude.{unwrap_or}
use Rattle.csl_tree.specs.Places.{put_child, no_child}
use Rattle.csl_tree.specs.Walks.{index_towards}
use Rattle.csl_tree.proofs.Indices.{at_index}
use Rattle.csl_tree.proofs.elem.ElemChildren.child_mut_towards.Goals as goal

pub returns : goal.returns
returns c =
    let s = c.args.self.now in
    let i = c.in-Some.i in
    let e : i ≡ index_towards c.args.to s = ap (λ o. unwrap_or o 0) c.in-Some.ensures.value in (
      (refl, λ w. ap (λ j. put_child s j w) e),
      record { writes_back = tt; value = at_index s.0.items i (index_towards c.args.to s) no_child e (omega (arith, s.0.ok.0, c.in-Some.ensures.index)) c.index_mut.ensures.value },
    )
