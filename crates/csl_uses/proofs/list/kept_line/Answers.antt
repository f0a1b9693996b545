use Rattle.std.proofs.Common.{◌≡◌, sym, subst, ◌∙◌}
use Rattle.std.specs.Prelude.{IfSome, string_bytes}
use Rattle.csl.specs.Entry.Snapshot.{snapshot_answers}
use Rattle.csl_uses.specs.List.{line_html}
use Rattle.csl_uses.proofs.KeptLines.{alike_lines, lines_with}
use Rattle.csl_uses.proofs.list.kept_line.Goals as goal

pub returns-in-Some-clause-line : goal.returns-in-Some-clause-line
returns-in-Some-clause-line g c names kept =
    let style = c.args.style.now in
    let s = c.in_ok-snapshot.snapshot in
    let found : string_bytes c.in-Some.html.now ≡ line_html style (snapshot_answers s) =
    subst (λ o. IfSome o (λ h. string_bytes h ≡ line_html style (snapshot_answers s))) (sym c.in-Some.ensures.value) (kept s) in
    c.in_ok-html.ensures.cases ∙ found ∙ alike_lines style c.args.named.now (snapshot_answers s) (g.T.EntryLike.answers c.args.work.now) c.in_ok-snapshot.ensures.alike names

pub returns-clause-line : goal.returns-clause-line
returns-clause-line g c names kept =
    let style = c.args.style.now in
    let s = c.in_ok-snapshot.snapshot in
    c.in_ok-html-2.ensures ∙ alike_lines style c.args.named.now (snapshot_answers s) (g.T.EntryLike.answers c.args.work.now) c.in_ok-snapshot.ensures.alike names

pub returns-clause-kept : goal.returns-clause-kept
returns-clause-kept g c kept =
    lines_with c.args.style.now c.args.kept.now c.insert.new.self kept c.in_ok-snapshot.snapshot c.in_ok-clone.field-0 (c.in_ok-clone.ensures.cases ∙ c.in_ok-html-2.ensures) c.in_ok-insert.ensures.updates
