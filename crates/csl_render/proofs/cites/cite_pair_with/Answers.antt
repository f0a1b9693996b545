use Rattle.std.proofs.Common.{None, sym, subst, ◌∙◌}
use Rattle.csl_elements.specs.NamedSet.{named_set}
use Rattle.csl_style.specs.declared.style.settings.Scope.TheVariants.{Citation}
use Rattle.csl_entry.specs.Cite.{cite_state}
use Rattle.csl_context.specs.State.{left_state_view}
use Rattle.csl_render.specs.Cites.{named_by, Covers}
use Rattle.csl_render.specs.Pair.{cite_input}
use Rattle.csl_render.proofs.Pairs.{printed_same}
use Rattle.csl_render.proofs.cites.cite_pair_with.Goals as goal

pub returns-clause-same : goal.returns-clause-same
returns-clause-same g c covers e =
    let a = g.T.EntryLike.answers c.args.left.now in
    let b = g.U.EntryLike.answers c.args.right.now in
    let style = c.args.style.now in
    let w = cite_input style Citation (cite_state c.args.cite_props.now) None None a in
    let layout = c.citation-layout.result.now in
    let same = c.in_ok-alike.ensures.ok.0 (sym c.in_ok-pair.ensures.alike ∙ e) in
    let covered = subst (λ l. Covers (named_set c.args.named.now) (named_by style l)) (sym c.citation-layout.ensures) covers in
    printed_same (left_state_view c.new-start.result) w layout a b (λ item h. same item (covered item h)) _ _ _ _ c.in_ok-pair.ensures.left c.in_ok-pair.ensures.right
