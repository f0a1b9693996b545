use Rattle.std.proofs.Common.{◌||◌, ap, ◌∙◌}
use Rattle.csl_nodes.specs.Usage.{info_of, usage_flags}
use Rattle.csl_render.proofs.Eithers.{or_false}
use Rattle.csl_render.proofs.flags.InfoFlags.of.Goals as goal

pub returns : goal.returns
returns c =
    let prints = c.args.answer.0 in
    let usage = c.args.answer.1 in
    let printed = c.with-5.ensures 0 ∙ c.with-4.ensures 0 ∙ c.with-3.ensures 0 ∙ c.with-2.ensures 0 ∙ c.with.ensures 0 ∙ ap (λ b. prints || b) (c.none.ensures.none 0) ∙ or_false prints in
    let vars = c.with-5.ensures 1 ∙ c.with-4.ensures 1 ∙ c.with-3.ensures 1 ∙ c.with-2.ensures 1 ∙ ap (λ b. usage.has_vars || b) (c.with.ensures 1 ∙ c.none.ensures.none 1) ∙ or_false usage.has_vars in
    let non_empty = c.with-5.ensures 2 ∙ c.with-4.ensures 2 ∙ c.with-3.ensures 2 ∙ ap (λ b. usage.has_non_empty_vars || b) (c.with-2.ensures 2 ∙ c.with.ensures 2 ∙ c.none.ensures.none 2) ∙ or_false usage.has_non_empty_vars in
    let macros = c.with-5.ensures 3 ∙ c.with-4.ensures 3 ∙ ap (λ b. usage.has_used_macros || b) (c.with-3.ensures 3 ∙ c.with-2.ensures 3 ∙ c.with.ensures 3 ∙ c.none.ensures.none 3) ∙ or_false usage.has_used_macros in
    let group = c.with-5.ensures 4 ∙ ap (λ b. usage.has_non_empty_group || b) (c.with-4.ensures 4 ∙ c.with-3.ensures 4 ∙ c.with-2.ensures 4 ∙ c.with.ensures 4 ∙ c.none.ensures.none 4) ∙ or_false usage.has_non_empty_group in
    λ i. info_of (printed i) (usage_flags (vars i) (non_empty i) (macros i) (group i))
