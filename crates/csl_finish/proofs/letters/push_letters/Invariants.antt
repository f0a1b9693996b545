use Rattle.std.proofs.Common.{◌≡◌, ◌++◌}
use Rattle.std.specs.List.{filter}
use Rattle.csl_finish.specs.Letters.{is_word_char}
use Rattle.csl_finish.specs.Letters.{placed, words}
use Rattle.csl_finish.proofs.letters.push_letters.Given as goal

abbrev pub invariant-loop-value : goal.invariant-loop-value
invariant-loop-value l =
    words l.letters.items ≡ words l.initial.letters.items ++ placed l.index (filter is_word_char l.yielded)
