use Rattle.std.proofs.Common.{◌≡◌, ◌-◌, ◌∙◌, ap, refl, length, arith, is_some}
use Rattle.csl_tree.specs.Places.{text_of_child}
use Rattle.csl_tree.proofs.LastPlace.{insert_text, final_is, has_final, text_at_end}
use Rattle.csl_tree.proofs.elem.ElemChildren.existing_text_mut.Goals as goal

pub overflow_sub-last : goal.overflow_sub-last
overflow_sub-last c =
    let v = c.items_mut_towards-items.result.now in
    let some = has_final c.args.self.now v c.items_mut_towards-items.ensures.value c.requires in
    omega (arith, v.ok.0, c.len-last.ensures, some)

pub index_mut-child-requires : goal.index_mut-child-requires
index_mut-child-requires c =
    let v = c.items_mut_towards-items.result.now in
    let some = has_final c.args.self.now v c.items_mut_towards-items.ensures.value c.requires in
    omega (arith, v.ok.0, c.len-last.ensures, some)

pub text_mut-requires : goal.text_mut-requires
text_mut-requires c =
    let s = c.args.self.now in
    let v = c.items_mut_towards-items.result.now in
    let is = c.items_mut_towards-items.ensures.value in
    let n = c.len-last.result - 1 in
    let some = has_final s v is c.requires in
    let end : n ≡ length v.items - 1 = omega (arith, v.ok.0, c.len-last.ensures) in
    ap is_some (ap text_of_child (final_is s v is n end c.index_mut-child.result.now (omega (arith, end, some)) c.index_mut-child.ensures.value) ∙ text_at_end s) ∙ c.requires

pub returns : goal.returns
returns c =
    let s = c.args.self.now in
    let v = c.items_mut_towards-items.result.now in
    let is = c.items_mut_towards-items.ensures.value in
    let n = c.len-last.result - 1 in
    let some = has_final s v is c.requires in
    let end : n ≡ length v.items - 1 = omega (arith, v.ok.0, c.len-last.ensures) in (
      (refl, insert_text s v is n end),
      record { writes_back = tt; value = c.text_mut.ensures.value ∙ ap text_of_child (final_is s v is n end c.index_mut-child.result.now (omega (arith, end, some)) c.index_mut-child.ensures.value) ∙ text_at_end s },
    )
