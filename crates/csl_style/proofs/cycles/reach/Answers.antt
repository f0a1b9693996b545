use Rattle.std.proofs.Common.{◌≡◌, ◌<◌, [], ◌∷◌, ◌++◌, length, slice_index, set, replicate, true, false, Contains, sym, ap, ◌∙◌, subst, arith, rules, get_or-set_same}
use Rattle.std.proofs.lemmas.Grind.{common_steps}
use Rattle.std.proofs.lemmas.List.{get_or_read}
use Rattle.csl_style.specs.Cycles.{row_at, HasEdge, is_marked}
use Rattle.csl_style.proofs.Marks.{marks-le, still-marked, first-marked-more}
use Rattle.csl_style.proofs.Edges.{edge-within, row-read, edge-read, row-marked}
use Rattle.csl_style.proofs.Searching.{start, add, followed, done, before-push, unfinished-push}
use Rattle.csl_style.proofs.cycles.reach.Goals as goal
use Rattle.csl_style.proofs.cycles.reach.Goals.{then-not-index+in_ok-push, else-not-index}

pub loop-next-init : goal.loop-next-init
loop-next-init c =
    let e : c.in_ok-seen.seen.items ≡ replicate (length c.args.graph.now) false = search rules in
    let f : c.in_ok-found.found.items ≡ c.args.from ∷ [] = search rules in
    rw (e, f) (start c.args.graph.now c.args.from c.requires.from)

pub offset_bounds-graph-at : goal.offset_bounds-graph-at
offset_bounds-graph-at c =
    let e : c.index-at.result.now ≡ slice_index c.loop-next.found.items c.loop-next.next = grind (arith, common_steps) in
    let h = c.loop-next.invariant.inside c.loop-next.next in
    omega arith

pub loop-to-preserved : goal.loop-to-preserved
loop-to-preserved c =
    let so = c.loop-to.invariant in
    let graph = c.args.graph.now in
    let seen = c.loop-to.seen.items in
    let found = c.loop-to.found.items in
    let next = c.loop-next.next in
    let at = c.index-at.result.now in
    let k = c.loop-to.to-index in
    let row = c.deref-to-items.result.now in
    let to = slice_index row k in
    let there : at < length graph = subst (λ a. a < length graph) so.here (so.search.inside next so.unfinished) in
    let same : row_at graph at ≡ row = row-read graph at c.index-graph-at.result there c.index-graph-at.is ∙ sym c.deref-to-items.ensures.value in
    let edge : HasEdge graph (slice_index found next) to = subst (λ a. HasEdge graph a to) (sym so.here) (edge-read graph at row k same (omega arith)) in
    let inside = edge-within graph (length graph) _ to c.requires.graph edge in
    let in_seen : to < length seen = omega (arith, so.search.each) in
    elim c.if-not-index.branch [
      | then-not-index+in_ok-push w ↦
          let fresh : is_marked seen to ≡ false = search rules in
          let e : c.if-not-index.seen.items ≡ set seen to true = ap (λ v. v.items) w.seen-is in
          let f : c.if-not-index.found.items ≡ found ++ to ∷ [] = ap (λ v. v.items) w.found-is ∙ w.in_ok-push.ensures.items in
          rw (e, f) record {
            search = add so.search to so.unfinished edge inside fresh;
            unfinished = unfinished-push found to next so.unfinished;
            here = before-push found to next so.unfinished ∙ so.here;
            marked = first-marked-more (set seen to true) row k (λ j less. still-marked seen to in_seen (slice_index row j) (so.marked j less)) (get_or-set_same seen to true false in_seen);
          }
      | else-not-index w ↦
          let read = get_or_read seen _ _ in_seen c.index.ensures false in
          let already : is_marked seen to ≡ true = grind (arith, common_steps) in
          rw (w.seen-is, w.found-is) record {
            search = so.search;
            unfinished = so.unfinished;
            here = so.here;
            marked = first-marked-more seen row k so.marked already;
          }
    ]

pub loop-next-smaller : goal.loop-next-smaller
loop-next-smaller c =
    let s = c.loop-to.invariant.search in
    let h = marks-le c.loop-to.seen.items in
    let less = c.loop-to.invariant.unfinished in
    omega (arith, s.each, s.counted)

pub loop-next-preserved : goal.loop-next-preserved
loop-next-preserved c =
    let so = c.loop-to.invariant in
    let graph = c.args.graph.now in
    let found = c.loop-to.found.items in
    let next = c.loop-next.next in
    let at = c.index-at.result.now in
    let row = c.deref-to-items.result.now in
    let there : at < length graph = subst (λ a. a < length graph) so.here (so.search.inside next so.unfinished) in
    let same : row_at graph (slice_index found next) ≡ row = ap (row_at graph) so.here ∙ row-read graph at c.index-graph-at.result there c.index-graph-at.is ∙ sym c.deref-to-items.ensures.value in
    followed so.search so.unfinished (λ q edge. row-marked c.loop-to.seen.items row q (λ k less. so.marked k (omega arith)) (subst (λ tos. Contains tos q) same edge))

pub returns : goal.returns
returns c = done c.loop-next.invariant (omega arith)
