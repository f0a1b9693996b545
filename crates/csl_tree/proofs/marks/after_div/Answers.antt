use Rattle.std.proofs.Common.{◌≡◌, ◌∙◌}
use Rattle.std.specs.Prelude.{None, codes}
use Rattle.csl_tree.specs.Marks.{without, or_else, div_at}
use Rattle.csl_tree.proofs.Fronts.{stripped}
use Rattle.csl_tree.proofs.marks.after_div.Goals as goal

pub returns : goal.returns
unfolding div_at
returns c =
    let html = c.args.html.now in
    let last = codes "<div style=\"float: right; clear: both;\">" in
    let block : None ≡ without (codes "<div>") html = stripped (codes "<div>") html None c.in_default.ensures.cases in
    let indent : None ≡ without (codes "<div style=\"padding-left: 4em;\">") html = stripped (codes "<div style=\"padding-left: 4em;\">") html None c.in_default-strip_prefix.ensures.cases in
    let left : None ≡ without (codes "<div style=\"float: left;\">") html = stripped (codes "<div style=\"float: left;\">") html None c.in_default-strip_prefix-2.ensures.cases in
    stripped last html c.strip_prefix-4.result c.strip_prefix-4.ensures.cases
    ∙ (λ i. or_else (block i) (or_else (indent i) (or_else (left i) (without last html))))
