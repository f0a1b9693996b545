use Rattle.std.proofs.Common.{ℕ, List, Bor, ap, ◌∙◌}
use Rattle.csl_tree.proofs.Fronts.{stripped_or_all}
use Rattle.csl_tree.proofs.marks.after.Goals as goal

pub returns : goal.returns
returns c = ap (λ (x : Bor (List ℕ)). x.now) c.unwrap_or.ensures ∙ stripped_or_all c.args.declaration.now c.args.css c.strip_prefix.result c.strip_prefix.ensures.cases
