use Rattle.std.proofs.Common.{◌++◌, ◌∙◌, ap, codes, string_bytes, ℕ, List}
use Rattle.csl.specs.Tree.Tokens.{tokens}
use Rattle.csl_uses.proofs.Pages.{next_line}
use Rattle.csl_uses.proofs.page.page.Goals as goal

pub loop-place-preserved : goal.loop-place-preserved
loop-place-preserved g c =
    let text = c.as_str.ensures.value ∙ c.in_ok-line-2.ensures in
    next_line g.T.EntryLike.answers c.args.style.now c.args.entries.now c.loop-place.place c.index-entries-place.result c.loop-place.invariant.0 (tokens c.in_ok-line.line) _ _ _ c.loop-place-test.true c.index-entries-place.is
    c.loop-place.invariant.1 (c.in_ok-line.ensures.text, c.in_ok-line.ensures.web) c.loop-place.invariant.2
    (c.in_ok-push_entry.ensures ∙ ap (λ (xs : List ℕ). string_bytes c.loop-place.html ++ (codes "<div class=\"entry\">" ++ (xs ++ codes "</div>\n"))) text)
