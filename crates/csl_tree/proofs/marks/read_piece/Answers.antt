use Rattle.std.proofs.Common.{rules, sym}
use Rattle.csl_tree.proofs.Tags.{read_end_tag-is}
use Rattle.csl_tree.proofs.Pieces.{no_piece}
use Rattle.csl_tree.proofs.marks.read_piece.Goals as goal

pub returns-in-Some-read_end_tag-clause-found : goal.returns-in-Some-read_end_tag-clause-found
returns-in-Some-read_end_tag-clause-found c = read_end_tag-is c.args.html.now c.in-Some-read_end_tag.element c.in-Some-read_end_tag.rest.now (sym c.in-Some-read_end_tag.ensures)

pub returns-in-None-clause-none : goal.returns-in-None-clause-none
returns-in-None-clause-none c = no_piece c.args.html.now (search rules) (search rules) (search rules)
