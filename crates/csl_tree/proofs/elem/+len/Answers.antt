use Rattle.std.proofs.Common.{arith}
use Rattle.std.proofs.lemmas.Grind.{common_steps}
use Rattle.csl_tree.specs.Tokens.{token_text}
use Rattle.csl_tree.proofs.Trees.{tokens_give}
use Rattle.csl_tree.proofs.elem.+len.Goals as goal

pub ElemChildren::str_len-returns : goal.ElemChildren::str_len-returns
ElemChildren::str_len-returns t c = grind (arith, common_steps, tokens_give token_text c.args.self.now)
