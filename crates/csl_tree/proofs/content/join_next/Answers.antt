use Rattle.std.proofs.Common.{◌<◌, ◌+◌, ◌∙◌, length, get_or, take, drop, set, sym, ap, arith}
use Rattle.std.specs.List.{swap}
use Rattle.csl_tree.specs.Content.{◌++>◌}
use Rattle.csl_tree.specs.Tokens.{child_tokens}
use Rattle.csl_tree.specs.FlatChildren.{tokens_at}
use Rattle.csl_tree.proofs.Appended.{on_err_two}
use Rattle.csl_tree.proofs.JoinedTexts.{at_last, at_next, put_back, put-before, put-last, put-drop, put-next, put-length, swap-take, swap-drop, swap-before, swap-at}
use Rattle.csl_tree.proofs.content.join_next.Goals as goal

pub returns-in_err-join_onto-clause-err : goal.returns-in_err-join_onto-clause-err
returns-in_err-join_onto-clause-err c =
    let xs = c.args.children.now.items in
    let last = c.args.last in
    let next = c.args.next in
    let o : last < next = c.requires.within.0 in
    let h : next < length xs = c.requires.within.1 in
    let front = c.split_at_mut-kept.result.0.now in
    let back = c.split_at_mut-kept.result.1.now in
    let ef = c.split_at_mut-kept.ensures.front ∙ ap (take next) c.deref_mut.ensures.value in
    let eb = c.split_at_mut-kept.ensures.back ∙ ap (drop next) c.deref_mut.ensures.value in
    let z = c.join_onto.new.left in
    let is = put_back xs front back last next o h ef eb z c.args.children.now.len (omega (arith, c.args.children.now.ok.0)) in
    let tokens = ap (λ l. tokens_at l last) is ∙ put-last xs front back last next o h ef eb z ∙ c.in_err-join_onto.ensures.err ∙ sym (at_last xs front back last next o h ef eb c.index-kept-last.result) in
    let rest = ap (drop next) is ∙ put-drop xs front back last next o h ef eb z next o in
    on_err_two _ tokens rest

pub returns-then-branch-clause-after : goal.returns-then-branch-clause-after
returns-then-branch-clause-after c =
    let xs = c.args.children.now.items in
    let last = c.args.last in
    let next = c.args.next in
    let o : last < next = c.requires.within.0 in
    let h : next < length xs = c.requires.within.1 in
    let front = c.split_at_mut-kept.result.0.now in
    let back = c.split_at_mut-kept.result.1.now in
    let ef = c.split_at_mut-kept.ensures.front ∙ ap (take next) c.deref_mut.ensures.value in
    let eb = c.split_at_mut-kept.ensures.back ∙ ap (drop next) c.deref_mut.ensures.value in
    let z = c.join_onto.new.left in
    let is = put_back xs front back last next o h ef eb z c.args.children.now.len (omega (arith, c.args.children.now.ok.0)) in
    ap (drop (next + 1)) is ∙ put-drop xs front back last next o h ef eb z (next + 1) (omega (arith, o))

pub returns-then-branch-clause-joins : goal.returns-then-branch-clause-joins
returns-then-branch-clause-joins c =
    let xs = c.args.children.now.items in
    let last = c.args.last in
    let next = c.args.next in
    let o : last < next = c.requires.within.0 in
    let h : next < length xs = c.requires.within.1 in
    let front = c.split_at_mut-kept.result.0.now in
    let back = c.split_at_mut-kept.result.1.now in
    let ef = c.split_at_mut-kept.ensures.front ∙ ap (take next) c.deref_mut.ensures.value in
    let eb = c.split_at_mut-kept.ensures.back ∙ ap (drop next) c.deref_mut.ensures.value in
    let z = c.join_onto.new.left in
    let is = put_back xs front back last next o h ef eb z c.args.children.now.len (omega (arith, c.args.children.now.ok.0)) in
    ap (λ l. tokens_at l last) is ∙ put-last xs front back last next o h ef eb z ∙ rw c.if-branch.true at c.in_ok-join_onto.ensures.joins
    ∙ ap (λ t. t ++> child_tokens (get_or back 0 c.index-rest-0.result)) (sym (at_last xs front back last next o h ef eb c.index-kept-last.result))
    ∙ ap (λ t. tokens_at xs last ++> t) (sym (at_next xs front back last next o h ef eb c.index-rest-0.result))

pub returns-clause-before : goal.returns-clause-before
returns-clause-before c =
    let xs = c.args.children.now.items in
    let last = c.args.last in
    let next = c.args.next in
    let o : last < next = c.requires.within.0 in
    let h : next < length xs = c.requires.within.1 in
    let front = c.split_at_mut-kept.result.0.now in
    let back = c.split_at_mut-kept.result.1.now in
    let ef = c.split_at_mut-kept.ensures.front ∙ ap (take next) c.deref_mut.ensures.value in
    let eb = c.split_at_mut-kept.ensures.back ∙ ap (drop next) c.deref_mut.ensures.value in
    let z = c.join_onto.new.left in
    let is = put_back xs front back last next o h ef eb z c.args.children.now.len (omega (arith, c.args.children.now.ok.0)) in
    let n = put-length xs front back last next o h ef eb z in
    ap (take last) (c.swap.ensures.items ∙ ap (λ l. swap l (last + 1) next) is) ∙ swap-take (set xs last z) (last + 1) next (omega (arith, o)) (omega (arith, h, n)) last (omega arith) ∙ put-before xs front back last next o h ef eb z

pub returns-clause-after : goal.returns-clause-after
returns-clause-after c =
    let xs = c.args.children.now.items in
    let last = c.args.last in
    let next = c.args.next in
    let o : last < next = c.requires.within.0 in
    let h : next < length xs = c.requires.within.1 in
    let front = c.split_at_mut-kept.result.0.now in
    let back = c.split_at_mut-kept.result.1.now in
    let ef = c.split_at_mut-kept.ensures.front ∙ ap (take next) c.deref_mut.ensures.value in
    let eb = c.split_at_mut-kept.ensures.back ∙ ap (drop next) c.deref_mut.ensures.value in
    let z = c.join_onto.new.left in
    let is = put_back xs front back last next o h ef eb z c.args.children.now.len (omega (arith, c.args.children.now.ok.0)) in
    let n = put-length xs front back last next o h ef eb z in
    ap (drop (next + 1)) (c.swap.ensures.items ∙ ap (λ l. swap l (last + 1) next) is) ∙ swap-drop (set xs last z) (last + 1) next (omega (arith, o)) (omega (arith, h, n)) (next + 1) (omega arith) ∙ put-drop xs front back last next o h ef eb z (next + 1) (omega (arith, o))

pub returns-clause-unchanged : goal.returns-clause-unchanged
returns-clause-unchanged c =
    let xs = c.args.children.now.items in
    let last = c.args.last in
    let next = c.args.next in
    let o : last < next = c.requires.within.0 in
    let h : next < length xs = c.requires.within.1 in
    let front = c.split_at_mut-kept.result.0.now in
    let back = c.split_at_mut-kept.result.1.now in
    let ef = c.split_at_mut-kept.ensures.front ∙ ap (take next) c.deref_mut.ensures.value in
    let eb = c.split_at_mut-kept.ensures.back ∙ ap (drop next) c.deref_mut.ensures.value in
    let z = c.join_onto.new.left in
    let is = put_back xs front back last next o h ef eb z c.args.children.now.len (omega (arith, c.args.children.now.ok.0)) in
    let n = put-length xs front back last next o h ef eb z in
    ap (λ l. tokens_at l last) (c.swap.ensures.items ∙ ap (λ l. swap l (last + 1) next) is) ∙ swap-before (set xs last z) (last + 1) next (omega (arith, o)) (omega (arith, h, n)) last (omega arith)
    ∙ put-last xs front back last next o h ef eb z ∙ rw c.if-branch.false at c.in_ok-join_onto.ensures.unchanged ∙ sym (at_last xs front back last next o h ef eb c.index-kept-last.result)

pub returns-clause-moves : goal.returns-clause-moves
returns-clause-moves c =
    let xs = c.args.children.now.items in
    let last = c.args.last in
    let next = c.args.next in
    let o : last < next = c.requires.within.0 in
    let h : next < length xs = c.requires.within.1 in
    let front = c.split_at_mut-kept.result.0.now in
    let back = c.split_at_mut-kept.result.1.now in
    let ef = c.split_at_mut-kept.ensures.front ∙ ap (take next) c.deref_mut.ensures.value in
    let eb = c.split_at_mut-kept.ensures.back ∙ ap (drop next) c.deref_mut.ensures.value in
    let z = c.join_onto.new.left in
    let is = put_back xs front back last next o h ef eb z c.args.children.now.len (omega (arith, c.args.children.now.ok.0)) in
    let n = put-length xs front back last next o h ef eb z in
    ap (λ l. tokens_at l (last + 1)) (c.swap.ensures.items ∙ ap (λ l. swap l (last + 1) next) is) ∙ swap-at (set xs last z) (last + 1) next (omega (arith, o)) (omega (arith, h, n)) ∙ put-next xs front back last next o h ef eb z

pub returns-clause-apart : goal.returns-clause-apart
returns-clause-apart c =
    let xs = c.args.children.now.items in
    let last = c.args.last in
    let next = c.args.next in
    let o : last < next = c.requires.within.0 in
    let h : next < length xs = c.requires.within.1 in
    let front = c.split_at_mut-kept.result.0.now in
    let back = c.split_at_mut-kept.result.1.now in
    let ef = c.split_at_mut-kept.ensures.front ∙ ap (take next) c.deref_mut.ensures.value in
    let eb = c.split_at_mut-kept.ensures.back ∙ ap (drop next) c.deref_mut.ensures.value in
    let x = at_last xs front back last next o h ef eb c.index-kept-last.result in
    let y = at_next xs front back last next o h ef eb c.index-rest-0.result in
    rw (x, y) (rw c.if-branch.false at c.in_ok-join_onto.ensures.apart)
