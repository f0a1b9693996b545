use Rattle.std.proofs.Common.{◌≡◌, ◌-◌, ◌+◌, [], ◌∷◌, ◌++◌, Some, None, chars, sym, ap, ◌∙◌, rules}
use Rattle.std.proofs.lemmas.Int.{ints, to_z-of_z}
use Rattle.lit_model.specs.NumericParse.{integers_at, integer_at, delimiter_at}
use Rattle.lit_model.proofs.Loops.{Numbers, with_front, numbers_turn, gone_integer, gone_delimiter, last_integer}
use Rattle.lit_model.proofs.numeric.parse.integers.Goals as goal

pub returns-in_default : goal.returns-in_default
returns-in_default c =
    let none : integer_at (chars c.loop.rest.now) ≡ None = search rules in
    sym c.loop.invariant.so_far ∙ ap (with_front c.loop.numbers.items) (gone_integer c.args.delimiters c.loop.counter (chars c.loop.rest.now) none)

pub returns-in_default-delimiter : goal.returns-in_default-delimiter
returns-in_default-delimiter c =
    let none : delimiter_at (chars c.in-Some.after.now) ≡ None = search rules in
    sym c.loop.invariant.so_far ∙ ap (with_front c.loop.numbers.items) (gone_delimiter c.args.delimiters c.loop.counter (chars c.loop.rest.now) (chars c.in-Some.after.now) _ c.loop-test.true (sym c.in-Some.ensures) none)

pub loop-preserved : goal.loop-preserved
loop-preserved c =
    let pushed : c.push.new.self.items ≡ c.loop.numbers.items ++ (c.in-Some.number, Some c.in-Some-delimiter.delimiter) ∷ [] = search (rules, ints, to_z-of_z) in
    record {
      text = search rules;
      so_far = ap (λ (x : Numbers). with_front x (integers_at (c.args.delimiters - (c.loop.counter + 1)) (chars c.in-Some-delimiter.after.now))) pushed
          ∙ numbers_turn c.args.delimiters c.loop.counter c.loop.numbers.items (chars c.loop.rest.now) (chars c.in-Some.after.now) (chars c.in-Some-delimiter.after.now) c.in-Some.number c.in-Some-delimiter.delimiter c.loop-test.true (sym c.in-Some.ensures) (sym c.in-Some-delimiter.ensures) ∙ c.loop.invariant.so_far;
    }

pub returns-in_default-integer : goal.returns-in_default-integer
returns-in_default-integer c =
    let none : integer_at (chars c.loop.rest.now) ≡ None = search rules in
    sym c.loop.invariant.so_far ∙ ap (with_front c.loop.numbers.items) (gone_integer c.args.delimiters c.loop.counter (chars c.loop.rest.now) none)

pub returns : goal.returns
returns c =
    let pushed : c.push-2.new.self.items ≡ c.loop.numbers.items ++ (c.in-Some-integer.number, None) ∷ [] = search (rules, ints, to_z-of_z) in
    sym c.loop.invariant.so_far ∙ ap (with_front c.loop.numbers.items) (last_integer c.args.delimiters c.loop.counter (chars c.loop.rest.now) _ c.in-Some-integer.number c.loop-test.false (sym c.in-Some-integer.ensures)) ∙ ap Some (sym pushed)
