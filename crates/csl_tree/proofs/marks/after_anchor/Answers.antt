use Rattle.std.proofs.Common.{◌≡◌, sym, ap, subst, ◌∙◌}
use Rattle.std.specs.Prelude.{Some, None, codes}
use Rattle.csl_tree.specs.Marks.{without, rest_found, IsAfterAnchor}
use Rattle.csl_tree.proofs.Fronts.{stripped}
use Rattle.csl_tree.proofs.Tags.{anchor_after, no_anchor}
use Rattle.csl_tree.proofs.marks.after_anchor.Goals as goal

pub returns-in_err-url : goal.returns-in_err-url
returns-in_err-url c =
    let lacks : without (codes "<a href=\"") c.args.html.now ≡ None = sym (stripped (codes "<a href=\"") c.args.html.now None c.in_err-url.ensures.cases) in
    subst (IsAfterAnchor c.args.html.now) (sym (ap rest_found c.from_residual.ensures)) (no_anchor c.args.html.now lacks)

pub returns : goal.returns
returns c =
    let front : without (codes "<a href=\"") c.args.html.now ≡ Some c.in_ok-url.url.now = sym (stripped (codes "<a href=\"") c.args.html.now c.strip_prefix.result c.strip_prefix.ensures.cases) ∙ ap rest_found c.in_ok-url.was in
    let behind = stripped (codes "\">") c.after_text.result.now c.strip_prefix-2.result c.strip_prefix-2.ensures.cases in
    subst (IsAfterAnchor c.args.html.now) (sym behind) (anchor_after c.args.html.now c.in_ok-url.url.now c.after_text.result.now front c.after_text.ensures)
