use Rattle.std.proofs.Common.{◌≡◌}
use Rattle.csl_finish.specs.Letters.{words}
use Rattle.csl_finish.proofs.quotes.push_quote.Given as goal

abbrev pub invariant-loop-value : goal.invariant-loop-value
invariant-loop-value l = words l.letters.items ≡ words l.initial.letters.items
