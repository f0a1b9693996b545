use Rattle.std.proofs.Common.{◌&&◌, ◌||◌, ap, ◌∙◌}
use Rattle.csl_nodes.specs.Usage.{info_of, usage_flags, should_render_group}
use Rattle.csl_render.proofs.Eithers.{or_false}
use Rattle.csl_render.proofs.flags.InfoFlags.of_macro.Goals as goal

pub returns : goal.returns
returns c =
    let shows = c.shows-shows.ensures ∙ ap (λ i. should_render_group i.flags && i.prints) c.without_group_flag.ensures in
    let prints = c.with-2.ensures 0 ∙ c.with.ensures 0 ∙ ap (λ b. c.shows-shows.result || b) (c.only.ensures 0) ∙ or_false c.shows-shows.result ∙ shows in
    let macros = c.with-2.ensures 3 ∙ ap (λ b. c.shows-shows.result || b) (c.with.ensures 3 ∙ c.only.ensures 3) ∙ or_false c.shows-shows.result ∙ shows in
    λ i. info_of (prints i) (usage_flags ((c.with-2.ensures 1 ∙ c.with.ensures 1 ∙ c.only.ensures 1) i) ((c.with-2.ensures 2 ∙ c.with.ensures 2 ∙ c.only.ensures 2) i) (macros i) ((c.with-2.ensures 4 ∙ c.with.ensures 4 ∙ c.only.ensures 4) i))
