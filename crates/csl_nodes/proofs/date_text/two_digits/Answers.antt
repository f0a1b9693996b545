use Rattle.std.proofs.Common.{rules}
use Rattle.std.specs.Prelude.{decimal}
use Rattle.csl_nodes.proofs.PaddedNumbers.{zeros_before}
use Rattle.csl_nodes.proofs.date_text.two_digits.Goals as goal

pub returns : goal.returns
returns c = search (rules, zeros_before 2 (decimal c.args.number))
