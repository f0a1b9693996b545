use Rattle.std.proofs.Common.{Some, ap, ◌∙◌}
use Rattle.csl_render.specs.Cites.{cite_content}
use Rattle.csl_samples.specs.Title.{title_answers}
use Rattle.csl_cli.proofs.content.title_content.Goals as goal

-- the witness is the style that the function builds
pub returns-in-Ok : goal.returns-in-Ok
returns-in-Ok c =
    let style = c.in_ok-style.style in
    (style, c.in_ok-style.ensures, c.in-Ok.ensures ∙ ap (λ title. cite_content style (title_answers (Some title))) c.in_ok-title.ensures)
