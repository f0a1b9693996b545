use Rattle.std.proofs.Common.{rules}
use Rattle.csl_entry.proofs.Typings.{stands_in_found}
use Rattle.csl_entry.proofs.entry.kind.is_part_of.Goals as goal

pub returns : goal.returns
returns c = let found = stands_in_found c.args.types.now c.args.entry.now in search (rules, found)
