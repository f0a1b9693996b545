use Rattle.std.proofs.Common.{rules, ◌∙◌, ap}
use Rattle.std.proofs.lemmas.List.{get_or_default}
use Rattle.csl_entry.specs.Numbers.{citation_number}
use Rattle.csl_list.proofs.Counts.{counted, mapped}
use Rattle.csl_list.proofs.bibliography.items.Goals as goal

pub loop-place-preserved : goal.loop-place-preserved
loop-place-preserved g c =
    let item = c.in_ok-finished_item in (
      mapped (λ i. i.work) c.loop-place.items.items c.push.new.self.items item.field-0 c.args.order.now c.loop-place.place c.loop-place.invariant.0 c.loop-place-test.true
          (item.ensures.work ∙ get_or_default c.args.order.now c.loop-place.place _ 0 c.loop-place-test.true) (search rules),
      counted (λ i. citation_number i.number) c.loop-place.items.items c.push.new.self.items item.field-0 c.loop-place.place c.loop-place.invariant.1
          (ap citation_number item.ensures.number ∙ c.in_ok-number.ensures.ok) (search rules),
    )
