use Rattle.std.proofs.Common.{◌≡◌, map, take}
use Rattle.csl_tree.specs.Tokens.{names_of}
use Rattle.csl_tree.proofs.copies.copy_names.Given as goal

abbrev pub invariant-loop-name : goal.invariant-loop-name
invariant-loop-name l = map names_of l.copies.items ≡ map names_of (take l.name-index l.names)
