use Rattle.std.proofs.Common.{◌+◌, ◌<◌, ◌∙◌, List, length, take, drop, refl, sym, ap, arith}
use Rattle.std.proofs.lemmas.List.{take-append-drop}
use Rattle.csl_tree.specs.Tokens.{Token}
use Rattle.csl_tree.specs.Content.{◌++>◌}
use Rattle.csl_tree.specs.declared.elem.ElemChild.{ElemChild}
use Rattle.csl_tree.specs.FlatChildren.{content_of}
use Rattle.csl_tree.proofs.JoinedTexts.{before_kept, step_kept, step_joins, step_moves, joined_joins, joined_moves, joined_first, part_is, part_whole, gap_before, going_on}
use Rattle.csl_tree.proofs.content.join_texts.Goals as goal
use Rattle.csl_tree.proofs.content.join_texts.Goals.{then-not-joined, else-not-joined}

pub loop-next-init : goal.loop-next-init
loop-next-init c =
    let xs = c.args.children.now.items in
    let at = c.args.from in
    record {
      from = omega arith;
      order = omega arith;
      within = omega (arith, c.requires.within, c.if-from-len.false, c.args.children.now.ok.0);
      before = refl;
      same = sym (part_is xs at at (at + 1) (omega arith) (omega (arith, c.requires.within, c.if-from-len.false, c.args.children.now.ok.0))) ∙ ap (λ (l : List ElemChild). content_of (drop at l)) (take-append-drop (at + 1) xs);
      joined = joined_first xs at (omega (arith, c.requires.within, c.if-from-len.false, c.args.children.now.ok.0));
    }

pub returns-in-Err-clause-before : goal.returns-in-Err-clause-before
returns-in-Err-clause-before c =
    let xs = c.loop-next.children.items in
    let ys = c.join_next.new.children.items in
    let from = c.args.from in
    let last = c.loop-next.last in
    let next = c.loop-next.next in
    let h : next < length xs = omega (arith, c.loop-next-test.true, c.loop-next.children.ok.0) in
    ap (take from) c.close_gap.ensures ∙ gap_before ys from last next c.loop-next.invariant.from (omega (arith, c.loop-next.invariant.order, h, c.in-Err.ensures.len))
    ∙ before_kept xs ys from last next c.loop-next.invariant.from c.loop-next.invariant.order h c.in-Err.ensures.len c.in-Err.ensures.before ∙ c.loop-next.invariant.before

pub returns-in-Err-clause-same : goal.returns-in-Err-clause-same
returns-in-Err-clause-same c =
    let xs = c.loop-next.children.items in
    let ys = c.join_next.new.children.items in
    let from = c.args.from in
    let last = c.loop-next.last in
    let next = c.loop-next.next in
    let h : next < length xs = omega (arith, c.loop-next-test.true, c.loop-next.children.ok.0) in
    ap (λ (l : List ElemChild). content_of (drop from l)) c.close_gap.ensures
    ∙ part_is ys from last next c.loop-next.invariant.from (omega (arith, c.loop-next.invariant.order, h, c.in-Err.ensures.len))
    ∙ ap (λ (l : List Token). l ++> content_of (drop next ys)) (step_kept xs ys from last next c.loop-next.invariant.from c.loop-next.invariant.order h c.in-Err.ensures.len c.in-Err.ensures.before c.in-Err.ensures.err.0)
    ∙ ap (λ (l : List ElemChild). content_of (drop from (take (last + 1) xs)) ++> content_of l) c.in-Err.ensures.err.1 ∙ c.loop-next.invariant.same

pub loop-next-preserved : goal.loop-next-preserved
loop-next-preserved c =
    let xs = c.loop-next.children.items in
    let ys = c.join_next.new.children.items in
    let from = c.args.from in
    let last = c.loop-next.last in
    let next = c.loop-next.next in
    let i = c.loop-next.invariant in
    let h : next < length xs = omega (arith, c.loop-next-test.true, c.loop-next.children.ok.0) in
    let l = c.in-Ok.ensures.len in
    let b = c.in-Ok.ensures.before in
    let kept = before_kept xs ys from last next i.from i.order h l b ∙ i.before in
    let all = content_of (drop from c.args.children.now.items) in
    let so_far = content_of (drop from (take (last + 1) xs)) in
    elim c.if-not-joined.branch [
      | then-not-joined w ↦ (
          let e = rw w.if-not-joined.true at c.in-Ok.ensures.unchanged in
          let n = rw w.if-not-joined.true at c.in-Ok.ensures.moves in
          let a = rw w.if-not-joined.true at c.in-Ok.ensures.apart in
          rw w.last-is (record {
            from = omega (arith, i.from);
            order = omega (arith, i.order);
            within = omega (arith, h, l);
            before = kept;
            same = going_on all so_far xs ys next (content_of (drop from (take (last + 1 + 1) ys))) h c.in-Ok.ensures.after (step_moves xs ys from last next i.from i.order h l b e n) i.same;
            joined = joined_moves xs ys from last next i.from i.order h l b e n a i.joined;
          })
          )
      | else-not-joined w ↦ (
          let e = rw w.if-not-joined.false at c.in-Ok.ensures.joins in
          rw w.last-is (record {
            from = i.from;
            order = omega (arith, i.order);
            within = omega (arith, h, l);
            before = kept;
            same = going_on all so_far xs ys next (content_of (drop from (take (last + 1) ys))) h c.in-Ok.ensures.after (step_joins xs ys from last next i.from i.order h l b e) i.same;
            joined = joined_joins xs ys from last next i.from i.order h l b e i.joined;
          })
          )
    ]

pub returns-clause-same : goal.returns-clause-same
returns-clause-same c =
    let xs = c.loop-next.children.items in
    let from = c.args.from in
    let last = c.loop-next.last in
    ap (λ (l : List ElemChild). content_of (drop from l)) c.truncate.ensures.items ∙ sym (part_whole xs from last c.loop-next.next (omega (arith, c.loop-next-test.false, c.len-in-loop-next.ensures, c.loop-next.children.ok.0))) ∙ c.loop-next.invariant.same
