use Rattle.std.proofs.Common.{◌≡◌, take}
use Rattle.csl_finish.specs.Letters.{words}
use Rattle.csl_finish.proofs.spaces.with_narrow_spaces.Given as goal

abbrev pub invariant-loop-index : goal.invariant-loop-index
invariant-loop-index l = words l.narrow.items ≡ words (take l.index l.letters)
