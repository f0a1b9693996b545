use Rattle.std.proofs.Common.{◌≡◌, ℕ, Some, None, Ok, Err, refl, chars, rules}
use Rattle.std.specs.Char.{is_ascii_digit}
use Rattle.std.proofs.lemmas.Int.{ints, to_z-of_z}
use Rattle.lit_model.specs.NumericParse.{longest_prefix, integer_from, integer_at}
use Rattle.lit_model.proofs.Integers.{Only-front, integer_parsed}
use Rattle.lit_model.proofs.scan.integer.Goals as goal

pub returns-in-Ok : goal.returns-in-Ok
unfolding integer_at
returns-in-Ok c =
    let cs = chars c.args.text.now in
    let read : integer_from (longest_prefix is_ascii_digit cs) ≡ Some c.in-Ok.number = integer_parsed {E = ℕ} (longest_prefix is_ascii_digit cs) c.split_front.result.0.now (Ok c.in-Ok.number) (Only-front is_ascii_digit cs) c.split_front.ensures.front c.in-Ok.ensures.value.0 in
    rw (read, ← c.split_front.ensures.rest) (search (rules, ints, to_z-of_z))

pub returns-in-Err : goal.returns-in-Err
unfolding integer_at
returns-in-Err c =
    let cs = chars c.args.text.now in
    let read : integer_from (longest_prefix is_ascii_digit cs) ≡ None = integer_parsed {E = ℕ} (longest_prefix is_ascii_digit cs) c.split_front.result.0.now (Err 0) (Only-front is_ascii_digit cs) c.split_front.ensures.front c.in-Err.ensures.value.0 in
    rw read refl
