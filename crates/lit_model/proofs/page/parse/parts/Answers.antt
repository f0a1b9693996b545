use Rattle.std.proofs.Common.{◌≡◌, ◌-◌, ◌+◌, [], ◌∷◌, ◌++◌, Some, None, chars, sym, ap, ◌∙◌, rules}
use Rattle.std.proofs.lemmas.List.{map_push}
use Rattle.lit_model.specs.Page.{PartView, part_view, parts_view}
use Rattle.lit_model.specs.PageParse.{parts_at, item_at, separator_at, item_of}
use Rattle.lit_model.proofs.PageLoops.{Parts, with_front, parts_turn, gone_item, gone_separator, last_item}
use Rattle.lit_model.proofs.page.parse.parts.Goals as goal

pub returns-in_default : goal.returns-in_default
returns-in_default c =
    let none : item_at (chars c.loop.rest.now) ≡ None = search rules in
    sym c.loop.invariant.so_far ∙ ap (with_front (parts_view c.loop.parts.items)) (gone_item c.args.separators c.loop.counter (chars c.loop.rest.now) none)

pub returns-in_default-separator : goal.returns-in_default-separator
returns-in_default-separator c =
    let none : separator_at (chars c.in-Some.after.now) ≡ None = search rules in
    sym c.loop.invariant.so_far ∙ ap (with_front (parts_view c.loop.parts.items)) (gone_separator c.args.separators c.loop.counter (chars c.loop.rest.now) (chars c.in-Some.after.now) _ c.loop-test.true (sym c.in-Some.ensures) none)

pub loop-preserved : goal.loop-preserved
loop-preserved c =
    let before = parts_view c.loop.parts.items in
    let made : part_view c.in_ok-item.item ≡ item_of c.in-Some.shape = c.in_ok-item.ensures in
    let one : parts_view c.push.new.self.items ≡ before ++ item_of c.in-Some.shape ∷ [] = ap parts_view c.in_ok-push.ensures.items ∙ map_push part_view c.loop.parts.items c.in_ok-item.item ∙ ap (λ (p : PartView). before ++ p ∷ []) made in
    let two : parts_view c.push-in-loop.new.self.items ≡ (before ++ item_of c.in-Some.shape ∷ []) ++ part_view c.in-Some-separator.separator ∷ [] = ap parts_view c.in_ok-push-2.ensures.items ∙ map_push part_view c.push.new.self.items c.in-Some-separator.separator ∙ ap (λ (ps : Parts). ps ++ part_view c.in-Some-separator.separator ∷ []) one in
    record {
      text = search rules;
      so_far = ap (λ (x : Parts). with_front x (parts_at (c.args.separators - (c.loop.counter + 1)) (chars c.in-Some-separator.after.now))) two
          ∙ parts_turn c.args.separators c.loop.counter before (chars c.loop.rest.now) (chars c.in-Some.after.now) (chars c.in-Some-separator.after.now) (item_of c.in-Some.shape) (part_view c.in-Some-separator.separator) c.loop-test.true (sym c.in-Some.ensures) (sym c.in-Some-separator.ensures) ∙ c.loop.invariant.so_far;
    }

pub returns-in_default-item : goal.returns-in_default-item
returns-in_default-item c =
    let none : item_at (chars c.loop.rest.now) ≡ None = search rules in
    sym c.loop.invariant.so_far ∙ ap (with_front (parts_view c.loop.parts.items)) (gone_item c.args.separators c.loop.counter (chars c.loop.rest.now) none)

pub returns : goal.returns
returns c =
    let before = parts_view c.loop.parts.items in
    let made : part_view c.in_ok-item-2.item ≡ item_of c.in-Some-item.shape = c.in_ok-item-2.ensures in
    let one : parts_view c.push-2.new.self.items ≡ before ++ item_of c.in-Some-item.shape ∷ [] = ap parts_view c.in_ok-push-3.ensures.items ∙ map_push part_view c.loop.parts.items c.in_ok-item-2.item ∙ ap (λ (p : PartView). before ++ p ∷ []) made in
    sym c.loop.invariant.so_far ∙ ap (with_front before) (last_item c.args.separators c.loop.counter (chars c.loop.rest.now) _ (item_of c.in-Some-item.shape) c.loop-test.false (sym c.in-Some-item.ensures)) ∙ ap Some (sym one)
