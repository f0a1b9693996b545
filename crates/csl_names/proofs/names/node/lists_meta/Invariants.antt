use Rattle.std.proofs.Common.{◌≡◌, map, take}
use Rattle.csl_tree.specs.Tokens.{names_of}
use Rattle.csl_names.specs.NamesLists.{list_of}
use Rattle.csl_names.proofs.names.node.lists_meta.Given as goal

abbrev pub invariant-loop-list : goal.invariant-loop-list
invariant-loop-list l = map names_of l.copies.items ≡ map list_of (take l.list-index l.lists)
