use Rattle.std.proofs.Common.{◌≡◌, ◌+◌, ◌-◌, arith, drop, length, take}
use Rattle.std.specs.Prelude.{string_bytes}
use Rattle.std.proofs.lemmas.Grind.{common_steps}
use Rattle.csl_finish.proofs.Folded.{folded_more}
use Rattle.csl_finish.proofs.folding.folded_letters.Goals as goal

pub loop-index-preserved : goal.loop-index-preserved
loop-index-preserved c =
    let letters = c.args.letters.now in
    let next = c.loop-index.index + 1 in
    let left : take (length letters - next) (drop next letters) ≡ drop next letters = grind (arith, common_steps) in
    folded_more letters c.loop-index.index c.index-letters-index.result _ (string_bytes c.loop-index.folded) (string_bytes c.push_folded.new.folded) _ c.loop-index-test.true c.index-letters-index.is left c.in_ok-push_folded.ensures c.loop-index.invariant
