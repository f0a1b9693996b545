use Rattle.std.proofs.Common.{pos, None, get_or, arith, rules}
use Rattle.std.specs.Prelude.{FitsSigned}
use Rattle.std.specs.Int.{w32}
use Rattle.std.proofs.lemmas.Int.{to_z-of_z}
use Rattle.std.proofs.lemmas.Grind.{common_steps}
use Rattle.lit_model.specs.NumericWrite.{integer_text}
use Rattle.csl_common.proofs.Writes.{three_writes}
use Rattle.lit_model.proofs.Texts.{numbers_text-more}
use Rattle.lit_model.proofs.numeric.write.write_numbers.Goals as goal

pub loop-number-preserved : goal.loop-number-preserved
loop-number-preserved g c =
    let item = get_or c.args.numbers.now c.loop-number.number-index (pos 0, None) in
    let fits : FitsSigned w32 item.0 = search rules in
    record {
      taken = three_writes _ _ _ _ _ _ _ _ _ c.loop-number.invariant.taken c.in_ok-write_integer.ensures.ok c.in_ok-put.ensures.ok
          (rw (to_z-of_z w32 item.0 fits, c.delimiter_str.ensures) (numbers_text-more (integer_text c.args.machine_readable) c.args.numbers.now c.loop-number.number-index (pos 0, None) c.loop-number-test.true));
      kept = grind (arith, common_steps);
    }
