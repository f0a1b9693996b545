use Rattle.std.proofs.Common.{refl, ◌∙◌, arith}
use Rattle.csl_tree.proofs.NamesPlace.{has_here, put_names, names_are, child_here}
use Rattle.csl_tree.proofs.elem.ElemChildren.existing_names_mut.Goals as goal

pub first_of_names-first-requires : goal.first_of_names-first-requires
first_of_names-first-requires c = has_here c.args.self.now c.requires c.items_mut_towards-items.result.now c.items_mut_towards-items.ensures.value

pub elem_mut-requires : goal.elem_mut-requires
elem_mut-requires c =
    let v = c.items_mut_towards-items.result.now in
    child_here c.args.self.now c.requires v c.items_mut_towards-items.ensures.value c.first_of_names-first.result c.first_of_names-first.ensures.here (omega (arith, v.ok.0, c.first_of_names-first.ensures.index)) c.index_mut-child.result.now c.index_mut-child.ensures.value

pub returns : goal.returns
returns c =
    let s = c.args.self.now in
    let v = c.items_mut_towards-items.result.now in
    let is = c.items_mut_towards-items.ensures.value in
    let n = c.first_of_names-first.result in
    let here = c.first_of_names-first.ensures.here in (
      (refl, put_names s c.requires v is n here),
      record { writes_back = tt; value = c.elem_mut.ensures.value ∙ names_are s c.requires v is n here (omega (arith, v.ok.0, c.first_of_names-first.ensures.index)) c.index_mut-child.result.now c.index_mut-child.ensures.value },
    )
