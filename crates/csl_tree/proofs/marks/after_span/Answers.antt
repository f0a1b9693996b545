use Rattle.std.proofs.Common.{◌≡◌, ℕ, List, sym, ap, ◌∙◌}
use Rattle.std.specs.Prelude.{Option, Some, None, option_and_then, codes}
use Rattle.csl_tree.specs.Marks.{without, after_css, span_at, rest_found}
use Rattle.csl_tree.proofs.Fronts.{stripped}
use Rattle.csl_tree.proofs.marks.after_span.Goals as goal

abbrev behind_css : Option (List ℕ) → Option (List ℕ)
behind_css o = option_and_then (λ rest. without (codes "\">") (after_css rest)) o

pub returns-in_err-css : goal.returns-in_err-css
unfolding span_at
returns-in_err-css c = ap rest_found c.from_residual.ensures ∙ ap behind_css (stripped (codes "<span style=\"") c.args.html.now None c.in_err-css.ensures.cases)

pub returns : goal.returns
unfolding span_at
returns c =
    let front : without (codes "<span style=\"") c.args.html.now ≡ Some c.in_ok-css.css.now = sym (stripped (codes "<span style=\"") c.args.html.now c.strip_prefix.result c.strip_prefix.ensures.cases) ∙ ap rest_found c.in_ok-css.was in
    stripped (codes "\">") c.after_css.result.now c.strip_prefix-2.result c.strip_prefix-2.ensures.cases ∙ ap (without (codes "\">")) c.after_css.ensures ∙ ap behind_css (sym front)
