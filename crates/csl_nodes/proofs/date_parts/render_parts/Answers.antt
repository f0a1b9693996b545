use Rattle.std.proofs.Common.{◌≡◌, ◌+◌, ◌<◌, ◌&&◌, not, length, List, [], ◌∷◌, drop, map, filter, unwrap_or, option_map, Bor, sym, ap, ◌∙◌, arith}
use Rattle.std.proofs.lemmas.Grind.{common_steps}
use Rattle.std.proofs.lemmas.List.{at_drop_more}
use Rattle.lit_model.specs.Date.{date_view}
use Rattle.csl_elements.specs.declared.date.DatePart.{DatePart}
use Rattle.csl_elements.specs.View.{view_date_part}
use Rattle.csl_elements.specs.declared.date.DateParts.TheVariants.{YearMonthDay}
use Rattle.csl_tree.proofs.Joins.{join-none, join_assoc}
use Rattle.csl_tree.specs.Content.{◌++>◌}
use Rattle.csl_tree.specs.Tokens.{has_children}
use Rattle.csl_context.specs.Context.{render_input}
use Rattle.csl_context.specs.Texts.{text_in_if}
use Rattle.csl_nodes.specs.Date.{own_part, own_parts, part_content, joined_by, localized_node}
use Rattle.csl_nodes.proofs.JoinedParts.{behind_delimiter, none_to_come, one_to_come, part_with, part_of, contents_of, parts_of, with_one_under, with_one_more}
use Rattle.csl_nodes.proofs.date_parts.render_parts.Goals as goal

pub loop-part-preserved : goal.loop-part-preserved
loop-part-preserved g c =
    let now = c.args.ctx.now in
    let ctx = c.loop-part.ctx in
    let parts = c.parts-parts.result.now in
    let i = c.loop-part.part-index in
    let p = c.part-item.result in
    let first = c.loop-part.first in
    let made = parts_of g.T.EntryLike.answers c.args.date c.args.found now in
    let content = part_of g.T.EntryLike.answers c.args.date c.args.found now p in
    let behind = behind_delimiter now.inherited (localized_node c.args.date).delimiter first content in
    let rest = drop (i + 1) parts in
    let contents = contents_of g.T.EntryLike.answers c.args.date c.args.found now rest in
    let less : i < length parts = grind (arith, common_steps) in
    let own : option_map (λ (q : Bor DatePart). view_date_part q.now) c.named.result ≡ own_part (own_parts c.args.date) p.name = c.named.ensures ∙ c.own_parts-own.ensures p.name in
    let step : c.render_next_part.new.ctx ≡ record now { inner = ctx.inner ++> behind } =
    c.in_ok-first.ensures.after.becomes
    ∙ ap (λ o. with_one_under g.T.EntryLike.answers c.args.date c.args.found o first p ctx) own
    ∙ ap (with_one_more g.T.EntryLike.answers c.args.date c.args.found first p) c.loop-part.invariant.frame in
    let inner = ap (λ b. b.inner) step in
    let value : c.in_ok-first.first ≡ (first && not (has_children content)) =
    c.in_ok-first.ensures.value
    ∙ ap (λ o. first && not (has_children (part_with g.T.EntryLike.answers c.args.date c.args.found o ctx p))) own
    ∙ ap (λ b. first && not (has_children (part_of g.T.EntryLike.answers c.args.date c.args.found b p))) c.loop-part.invariant.frame in
    record {
      sound = c.loop-part.invariant.sound;
      frame = step ∙ ap (λ ts. record now { inner = ts }) (sym inner);
      told = ap (λ ts. ts ++> made c.in_ok-first.first rest) inner
          ∙ ap (λ b. (ctx.inner ++> behind) ++> made b rest) value
          ∙ join_assoc ctx.inner behind (made (first && not (has_children content)) rest)
          ∙ ap (λ ts. ctx.inner ++> ts) (one_to_come now.inherited (localized_node c.args.date).delimiter first content contents)
          ∙ ap (λ q. ctx.inner ++> made first (q ∷ rest)) c.part-item.is
          ∙ sym (at_drop_more (λ (ps : List DatePart). ctx.inner ++> made first ps) parts i p less)
          ∙ c.loop-part.invariant.told;
    }

pub returns : goal.returns
returns g c =
    let now = c.args.ctx.now in
    let ctx = c.loop-part.ctx in
    let parts = c.parts-parts.result.now in
    let first = c.loop-part.first in
    let n = localized_node c.args.date in
    let made = parts_of g.T.EntryLike.answers c.args.date c.args.found now in
    let content = part_content (render_input g.T.EntryLike.answers now) (unwrap_or n.parts YearMonthDay) c.args.found.suffix.now (date_view c.args.found.date.now) now.inherited in
    let ended : drop c.loop-part.part-index parts ≡ [] = grind (arith, common_steps) in
    let delimiter = text_in_if now.inherited n.delimiter in
    let inner : ctx.inner ≡ now.inner ++> joined_by delimiter (filter has_children (map content n.date_part)) =
    sym (join-none ctx.inner)
    ∙ ap (λ ts. ctx.inner ++> ts) (sym (none_to_come delimiter first))
    ∙ ap (λ (ps : List DatePart). ctx.inner ++> made first ps) (sym ended)
    ∙ c.loop-part.invariant.told
    ∙ ap (λ ps. now.inner ++> joined_by delimiter (filter has_children (map content ps))) c.parts-parts.ensures in
    record {
      was_live = c.loop-part.invariant.sound;
      becomes = c.loop-part.invariant.frame ∙ ap (λ ts. record now { inner = ts }) inner;
    }
