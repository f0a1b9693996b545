use Rattle.std.proofs.Common.{◌≡◌, None, chars, sym, ap, ◌∙◌, rules}
use Rattle.lit_model.specs.NumericParse.{rest_of}
use Rattle.lit_model.specs.PageParse.{item_at, separator_at}
use Rattle.lit_model.proofs.PageLoops.{rest_turn, gone_item, gone_separator, last_item}
use Rattle.lit_model.proofs.page.parse.skip_parts.Goals as goal

pub returns-in_default : goal.returns-in_default
returns-in_default c =
    let none : item_at (chars c.loop.rest.now) ≡ None = search rules in
    ap rest_of (sym (gone_item c.args.separators c.loop.counter (chars c.loop.rest.now) none)) ∙ c.loop.invariant.rest_same

pub returns-in_default-separator : goal.returns-in_default-separator
returns-in_default-separator c =
    let none : separator_at (chars c.in-Some.after.now) ≡ None = search rules in
    ap rest_of (sym (gone_separator c.args.separators c.loop.counter (chars c.loop.rest.now) (chars c.in-Some.after.now) _ c.loop-test.true (sym c.in-Some.ensures) none)) ∙ c.loop.invariant.rest_same

pub loop-preserved : goal.loop-preserved
loop-preserved c = record {
  text = search rules;
  rest_same = rest_turn c.args.separators c.loop.counter (chars c.loop.rest.now) (chars c.in-Some.after.now) (chars c.in-Some-separator.after.now) _ _ c.loop-test.true (sym c.in-Some.ensures) (sym c.in-Some-separator.ensures) ∙ c.loop.invariant.rest_same;
}

pub returns-in-Some-item : goal.returns-in-Some-item
returns-in-Some-item c =
    ap rest_of (sym (last_item c.args.separators c.loop.counter (chars c.loop.rest.now) (chars c.in-Some-item.rest.now) _ c.loop-test.false (sym c.in-Some-item.ensures))) ∙ c.loop.invariant.rest_same

pub returns-in-None : goal.returns-in-None
returns-in-None c =
    let none : item_at (chars c.loop.rest.now) ≡ None = search rules in
    ap rest_of (sym (gone_item c.args.separators c.loop.counter (chars c.loop.rest.now) none)) ∙ c.loop.invariant.rest_same
