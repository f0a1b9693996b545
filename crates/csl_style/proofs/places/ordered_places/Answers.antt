use Rattle.std.proofs.Common.{◌≡◌, ◌<◌, length, true, None, Some, is_some, string_bytes, ◌∙◌, subst, arith, rules}
use Rattle.std.specs.BTreeMap.{get_by_text}
use Rattle.std.specs.Map.{update}
use Rattle.std.specs.Str.{bytes_eq}
use Rattle.std.proofs.lemmas.Map.Text.{btree_map_updates_text}
use Rattle.std.proofs.lemmas.Grind.{common_steps}
use Rattle.csl_style.proofs.PlacesByName.{with_seen_name, with_new_name}
use Rattle.csl_style.proofs.places.ordered_places.Goals as goal
use Rattle.csl_style.proofs.places.ordered_places.Goals.{then-not-contains_key+in_ok-clone+in_ok-insert, else-not-contains_key}

pub loop-i-preserved : goal.loop-i-preserved
loop-i-preserved c = λ q.
    let ms = c.args.macros.now in
    let i = c.loop-i.i in
    let m = c.index-macros-i.result in
    let places = c.loop-i.places in
    let within : i < length ms = omega arith in
    elim c.if-not-contains_key.branch [
      | then-not-contains_key+in_ok-clone+in_ok-insert w ↦
          let none : get_by_text places (string_bytes m.name) ≡ None = grind (arith, common_steps) in
          let key = w.in_ok-clone.field-0 in
          let named : string_bytes key ≡ string_bytes m.name = search rules in
          let put : get_by_text w.insert.new.self q ≡ update bytes_eq (get_by_text places) (string_bytes m.name) (Some i) q =
          subst (λ bs. get_by_text w.insert.new.self q ≡ update bytes_eq (get_by_text places) bs (Some i) q) named (btree_map_updates_text (string_bytes key) places w.insert.new.self _ w.in_ok-insert.ensures.updates q) in
          rw w.places-is (with_new_name i ms m within c.index-macros-i.is (get_by_text places) q (get_by_text w.insert.new.self) none put ∙ c.loop-i.invariant q)
      | else-not-contains_key w ↦
          let some : is_some (get_by_text places (string_bytes m.name)) ≡ true = grind (arith, common_steps) in
          rw w.places-is (with_seen_name i ms m within c.index-macros-i.is (get_by_text places) q some ∙ c.loop-i.invariant q)
    ]
