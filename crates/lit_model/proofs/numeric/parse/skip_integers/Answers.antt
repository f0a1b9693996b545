use Rattle.std.proofs.Common.{◌≡◌, None, chars, sym, ap, ◌∙◌, rules}
use Rattle.lit_model.specs.NumericParse.{rest_of, integer_at, delimiter_at}
use Rattle.lit_model.proofs.Loops.{rest_turn, gone_integer, gone_delimiter, last_integer}
use Rattle.lit_model.proofs.numeric.parse.skip_integers.Goals as goal

pub returns-in_default : goal.returns-in_default
returns-in_default c =
    let none : integer_at (chars c.loop.rest.now) ≡ None = search rules in
    ap rest_of (sym (gone_integer c.args.delimiters c.loop.counter (chars c.loop.rest.now) none)) ∙ c.loop.invariant.rest_same

pub returns-in_default-delimiter : goal.returns-in_default-delimiter
returns-in_default-delimiter c =
    let none : delimiter_at (chars c.in-Some.after.now) ≡ None = search rules in
    ap rest_of (sym (gone_delimiter c.args.delimiters c.loop.counter (chars c.loop.rest.now) (chars c.in-Some.after.now) _ c.loop-test.true (sym c.in-Some.ensures) none)) ∙ c.loop.invariant.rest_same

pub loop-preserved : goal.loop-preserved
loop-preserved c = record {
  text = search rules;
  rest_same = rest_turn c.args.delimiters c.loop.counter (chars c.loop.rest.now) (chars c.in-Some.after.now) (chars c.in-Some-delimiter.after.now) _ _ c.loop-test.true (sym c.in-Some.ensures) (sym c.in-Some-delimiter.ensures) ∙ c.loop.invariant.rest_same;
}

pub returns-in-Some-integer : goal.returns-in-Some-integer
returns-in-Some-integer c =
    ap rest_of (sym (last_integer c.args.delimiters c.loop.counter (chars c.loop.rest.now) (chars c.in-Some-integer.rest.now) _ c.loop-test.false (sym c.in-Some-integer.ensures))) ∙ c.loop.invariant.rest_same

pub returns-in-None : goal.returns-in-None
returns-in-None c =
    let none : integer_at (chars c.loop.rest.now) ≡ None = search rules in
    ap rest_of (sym (gone_integer c.args.delimiters c.loop.counter (chars c.loop.rest.now) none)) ∙ c.loop.invariant.rest_same
