use Rattle.std.proofs.Common.{◌≡◌, Some, [], map, is_some, if◌then◌else◌, sym, ap, ◌∙◌, arith}
use Rattle.std.proofs.lemmas.Grind.{common_steps}
use Rattle.std.proofs.lemmas.List.{take_all}
use Rattle.std.specs.Option.{option_copied}
use Rattle.csl_uses.specs.List.{line_html}
use Rattle.csl_uses.proofs.KeptLines.{named_by_layout}
use Rattle.csl_uses.proofs.list.lines.Goals as goal

pub loop-work-preserved : goal.loop-work-preserved
loop-work-preserved g c =
    let style = c.args.style.now in
    let bibliography : style.bibliography ≡ Some c.in-Some.layout.now = sym c.bibliography.ensures ∙ ap option_copied c.in-Some.is in
    let names = named_by_layout style c.in_ok-named.named c.in-Some.layout.now bibliography c.in_ok-named.ensures in (
      λ kept.
          let before = c.loop-work.invariant.0 kept in
          let line = c.in_ok-kept_line.ensures.line names (c.loop-work.invariant.1 kept) in
          grind (arith, common_steps, before, line),
      λ kept. c.in_ok-kept_line.ensures.kept (c.loop-work.invariant.1 kept),
    )

pub returns-clause-lines : goal.returns-clause-lines
returns-clause-lines g c kept =
    let style = c.args.style.now in
    let works = c.args.works.now in
    let bibliography : style.bibliography ≡ Some c.in-Some.layout.now = sym c.bibliography.ensures ∙ ap option_copied c.in-Some.is in
    c.loop-work.invariant.0 kept
    ∙ ap (λ xs. map (λ work. line_html style (g.T.EntryLike.answers work)) xs) (take_all c.loop-work.work-index works (omega arith))
    ∙ ap (λ o. if is_some o then map (λ work. line_html style (g.T.EntryLike.answers work)) works else []) (sym bibliography)
