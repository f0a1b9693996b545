use Rattle.std.proofs.Common.{◌≡◌, ◌<◌, ◌+◌, [], ◌∷◌, length, drop, map, slice_index_or, rules, ap, sym, ◌∙◌, subst, arith}
use Rattle.std.proofs.lemmas.List.{drop_more}
use Rattle.csl_elements.specs.Locale.{ordinal_view}
use Rattle.csl_elements.specs.OrdinalTable.{row_views, with_ordinal}
use Rattle.csl_elements.proofs.OrdinalRows.{AreRowsSoFar, no_ordinals, one_more, one_left_out, row_view}
use Rattle.csl_elements.proofs.locale.ordinal_table.rows_of.Goals as goal
use Rattle.csl_elements.proofs.locale.ordinal_table.rows_of.Goals.{then-place-lt-ROWS+in_ok-add, else-place-lt-ROWS}

pub loop-ordinal-init : goal.loop-ordinal-init
loop-ordinal-init c = no_ordinals c.in_ok-rows.rows.items (map ordinal_view c.args.ordinals.now) c.in_ok-rows.ensures

pub loop-ordinal-preserved : goal.loop-ordinal-preserved
loop-ordinal-preserved c =
    let all = c.args.ordinals.now in
    let i = c.loop-ordinal.ordinal-index in
    let o = c.ordinal-item.result in
    let rows = c.loop-ordinal.rows.items in
    let within : i < length all = omega arith in
    let item : drop i all ≡ o ∷ drop (i + 1) all = drop_more all i o within ∙ ap (λ x. x ∷ drop (i + 1) all) (sym c.ordinal-item.is) in
    let left = map ordinal_view (drop (i + 1) all) in
    let so-far : AreRowsSoFar rows (ordinal_view o ∷ left) (map ordinal_view all) = subst (λ os. AreRowsSoFar rows (map ordinal_view os) (map ordinal_view all)) item c.loop-ordinal.invariant in
    elim c.if-place-lt-ROWS.branch [
      | then-place-lt-ROWS+in_ok-add w ↦
          let place = c.slot_place-place.result in
          let low : place < 111 = search (rules, arith) in
          let row : map ordinal_view w.add.new.row.items ≡ with_ordinal (slice_index_or (row_views rows) place []) (ordinal_view o) =
          w.in_ok-add.ensures
          ∙ ap (λ r. with_ordinal r (ordinal_view o)) (ap (λ v. map ordinal_view v.items) w.index_mut.ensures.value ∙ row_view rows place w.index_mut.result.now (omega (arith, low, c.loop-ordinal.invariant.count))) in
          rw w.rows-is (one_more rows (ordinal_view o) left (map ordinal_view all) so-far w.add.new.row place c.slot_place-place.ensures low row)
      | else-place-lt-ROWS w ↦ rw w.rows-is (one_left_out rows (ordinal_view o) left (map ordinal_view all) so-far (search (rules, arith)))
    ]
