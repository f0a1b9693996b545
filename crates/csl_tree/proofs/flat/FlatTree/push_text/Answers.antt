use Rattle.std.proofs.Common.{arith}
use Rattle.std.proofs.lemmas.Grind.{common_steps}
use Rattle.csl_tree.proofs.Joins.{text_content-none}
use Rattle.csl_tree.proofs.Flats.{with_none}
use Rattle.csl_tree.proofs.flat.FlatTree.push_text.Goals as goal

pub returns-then-is_empty-clause-ok : goal.returns-then-is_empty-clause-ok
returns-then-is_empty-clause-ok c = with_none _ _ (text_content-none c.args.more.now c.args.formatting (grind (arith, common_steps)))
