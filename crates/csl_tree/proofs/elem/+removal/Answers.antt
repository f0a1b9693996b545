use Rattle.std.proofs.Common.{◌≡◌, ◌<◌, not, Some, true, length, get_or, take, set, refl, sym, ap, ◌∙◌, option_map, arith, subst}
use Rattle.std.specs.List.{flat_map, remove, find}
use Rattle.std.specs.Vec.{with_item}
use Rattle.std.proofs.lemmas.List.{take_all}
use Rattle.csl_tree.specs.Tokens.{tokens, child_tokens}
use Rattle.csl_tree.specs.Search.{has_meta, child_has_meta, as_child, HasNoMeta}
use Rattle.csl_tree.specs.declared.elem.ElemChildren.{ElemChildren}
use Rattle.csl_tree.proofs.Trees.{tokens_out}
use Rattle.csl_tree.proofs.Removals.{found_here, found_below, found_later, taken_here, taken_below, nothing_more, same_item, children_of_vec, none_elem, none_in, found_inside, taken_in, nothing_inside, same_inside, if_some, if_none, same_at, moved}
use Rattle.csl_tree.proofs.Searches.{preorder_out}
use Rattle.csl_tree.proofs.elem.+removal.Goals as goal

pub ElemChildren::remove_any_meta-returns-then-has_meta-clause-found : goal.ElemChildren::remove_any_meta-returns-then-has_meta-clause-found
ElemChildren::remove_any_meta-returns-then-has_meta-clause-found t c =
    let s = c.args.self.now in
    let i = c.loop-i.i in
    let h : i < length s.0.items = omega (arith, c.loop-i-test.true, c.len-i-end.ensures, s.0.ok.0) in
    let k = c.remove.result in
    let is : k ≡ get_or s.0.items i k = c.remove.ensures.value ∙ ap (λ (d : ElemChildren). get_or d.0.items i k) c.loop-i.invariant.0 in
    let at : c.index.result.now ≡ k = same_at s.0.items i c.index.result.now k h (c.index.ensures ∙ ap (λ (d : ElemChildren). get_or d.0.items i c.index.result.now) c.loop-i.invariant.0) is in
    let m : child_has_meta k ≡ true = ap child_has_meta (sym at) ∙ sym c.has_meta.ensures ∙ c.if-has_meta.true in
    sym (ap (option_map as_child) c.loop-i.invariant.1 ∙ found_here s.0.items i k h is m)

pub ElemChildren::remove_any_meta-returns-then-has_meta-clause-some : goal.ElemChildren::remove_any_meta-returns-then-has_meta-clause-some
ElemChildren::remove_any_meta-returns-then-has_meta-clause-some t c =
    let s = c.args.self.now in
    let i = c.loop-i.i in
    let h : i < length s.0.items = omega (arith, c.loop-i-test.true, c.len-i-end.ensures, s.0.ok.0) in
    let k = c.remove.result in
    let is : k ≡ get_or s.0.items i k = c.remove.ensures.value ∙ ap (λ (d : ElemChildren). get_or d.0.items i k) c.loop-i.invariant.0 in
    moved (child_tokens k) (tokens_out s) (tokens_out (record { 0 = c.remove.new.self }) ∙ ap (flat_map child_tokens) (c.remove.ensures.items ∙ ap (λ (d : ElemChildren). remove d.0.items i) c.loop-i.invariant.0)) (taken_here s.0.items i k h is c.loop-i.invariant.2)

pub ElemChildren::remove_any_meta-returns-in-Some-clause-found : goal.ElemChildren::remove_any_meta-returns-in-Some-clause-found
ElemChildren::remove_any_meta-returns-in-Some-clause-found t c =
    let s = c.args.self.now in
    let i = c.loop-i.i in
    let h : i < length s.0.items = omega (arith, c.loop-i-test.true, c.len-i-end.ensures, s.0.ok.0) in
    let k = c.index_mut.result.now in
    let is : k ≡ get_or s.0.items i k = c.index_mut.ensures.value ∙ ap (λ (d : ElemChildren). get_or d.0.items i k) c.loop-i.invariant.0 in
    sym (ap (option_map as_child) c.loop-i.invariant.1 ∙ found_below s.0.items i k h is (Some c.in-Some.found) c.in-Some.ensures.found refl)

pub ElemChildren::remove_any_meta-returns-in-Some-clause-some : goal.ElemChildren::remove_any_meta-returns-in-Some-clause-some
ElemChildren::remove_any_meta-returns-in-Some-clause-some t c =
    let s = c.args.self.now in
    let i = c.loop-i.i in
    let h : i < length s.0.items = omega (arith, c.loop-i-test.true, c.len-i-end.ensures, s.0.ok.0) in
    let k = c.index_mut.result.now in
    let is : k ≡ get_or s.0.items i k = c.index_mut.ensures.value ∙ ap (λ (d : ElemChildren). get_or d.0.items i k) c.loop-i.invariant.0 in
    let j = c.remove_below.new.self in
    let after : tokens (record { 0 = with_item c.loop-i.self.0 i j }) ≡ flat_map child_tokens (set s.0.items i j) = tokens_out (record { 0 = with_item c.loop-i.self.0 i j }) ∙ ap (λ (d : ElemChildren). flat_map child_tokens (set d.0.items i j)) c.loop-i.invariant.0 in
    moved (child_tokens c.in-Some.found) (tokens_out s) after (taken_below s.0.items i k h is (child_tokens c.in-Some.found) j c.loop-i.invariant.2 c.in-Some.ensures.some)

pub ElemChildren::remove_any_meta-loop-i-preserved : goal.ElemChildren::remove_any_meta-loop-i-preserved
ElemChildren::remove_any_meta-loop-i-preserved t c =
    let s = c.args.self.now in
    let i = c.loop-i.i in
    let h : i < length s.0.items = omega (arith, c.loop-i-test.true, c.len-i-end.ensures, s.0.ok.0) in
    let k = c.index_mut.result.now in
    let is : k ≡ get_or s.0.items i k = c.index_mut.ensures.value ∙ ap (λ (d : ElemChildren). get_or d.0.items i k) c.loop-i.invariant.0 in
    let j = c.remove_below.new.self in
    let e : j ≡ k = c.in_default.ensures.none.1 in
    let same : with_item c.loop-i.self.0 i j ≡ c.loop-i.self.0 = same_item c.loop-i.self.0 i j (e ∙ c.index_mut.ensures.value ∙ ap (get_or c.loop-i.self.0.items i) (sym e)) in (
      ap children_of_vec same ∙ c.loop-i.invariant.0,
      c.loop-i.invariant.1 ∙ found_later s.0.items i k h is c.in_default.ensures.found,
      nothing_more s.0.items i k h is c.loop-i.invariant.2 c.in_default.ensures.none.0,
    )

pub ElemChildren::remove_any_meta-returns-clause-none : goal.ElemChildren::remove_any_meta-returns-clause-none
ElemChildren::remove_any_meta-returns-clause-none t c =
    let s = c.args.self.now in
    let all : take c.loop-i.i s.0.items ≡ s.0.items = take_all c.loop-i.i s.0.items (omega (arith, c.loop-i-test.false, c.len-i-end.ensures, s.0.ok.0)) in
    (subst HasNoMeta (ap (flat_map child_tokens) all ∙ sym (tokens_out s)) c.loop-i.invariant.2, c.loop-i.invariant.0)

pub ElemChildren::remove_any_meta-loop-i-init : goal.ElemChildren::remove_any_meta-loop-i-init
ElemChildren::remove_any_meta-loop-i-init t c = (refl, ap (find has_meta) (preorder_out c.args.self.now), refl)

pub ElemChild::remove_below-returns-then-is_none-clause-found : goal.ElemChild::remove_below-returns-then-is_none-clause-found
ElemChild::remove_below-returns-then-is_none-clause-found t c = none_in c.args.self.now (none_elem c.as_elem.result c.args.self.now c.as_elem.ensures (c.is_none.ensures ∙ ap not c.if-is_none.true))

pub ElemChild::remove_below-returns-clause-found : goal.ElemChild::remove_below-returns-clause-found
ElemChild::remove_below-returns-clause-found t c = c.remove_any_meta.ensures.found ∙ ap (option_map as_child) (sym (found_inside c.args.self.now c.children_mut.result.now c.requires c.children_mut.ensures.value))

pub ElemChild::remove_below-returns-clause-some : goal.ElemChild::remove_below-returns-clause-some
ElemChild::remove_below-returns-clause-some t c =
    if_some c.remove_any_meta.result (λ k. taken_in c.args.self.now c.children_mut.result.now c.requires c.children_mut.ensures.value (child_tokens k) c.remove_any_meta.new.self) c.remove_any_meta.ensures.some

pub ElemChild::remove_below-returns-clause-none : goal.ElemChild::remove_below-returns-clause-none
ElemChild::remove_below-returns-clause-none t c =
    let k = c.args.self.now in
    let d = c.children_mut.result.now in
    if_none c.remove_any_meta.result (λ h. (nothing_inside k d c.requires c.children_mut.ensures.value h.0, same_inside k d c.requires c.children_mut.ensures.value c.remove_any_meta.new.self h.1)) c.remove_any_meta.ensures.none
