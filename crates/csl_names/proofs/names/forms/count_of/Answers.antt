use Rattle.std.proofs.Common.{◌≡◌, ◌+◌, ◌∷◌, drop, map, length, sym, ap, ◌∙◌, arith}
use Rattle.std.proofs.lemmas.List.{at_drop_more}
use Rattle.std.proofs.lemmas.Grind.{common_steps}
use Rattle.csl_elements.specs.NamesOptions.{complete_options}
use Rattle.csl_names.specs.NamesForms.{count_of, saturated_count, shown_count}
use Rattle.csl_names.specs.NamesLists.{list_of}
use Rattle.csl_names.proofs.Counts.{capped, twice}
use Rattle.csl_names.proofs.names.forms.count_of.Goals as goal

pub loop-list-preserved : goal.loop-list-preserved
loop-list-preserved c =
    let o = complete_options c.args.options.now in
    let lists = c.args.lists.now in
    let i = c.loop-list.list-index in
    let x = c.list-item.result in
    let count = c.loop-list.count in
    let shown = shown_count o c.args.later (length (list_of x).0) in
    let rest = count_of o c.args.later (map list_of (drop (i + 1) lists)) in
    let more : c.saturating_add-count.result ≡ saturated_count (count + shown) = grind (arith, common_steps) in
    record {
      kept = ap saturated_count more ∙ twice _ (count + shown) ∙ sym more;
      left = ap (λ n. saturated_count (n + rest)) more ∙ capped _ count shown rest
          ∙ ap (λ y. saturated_count (count + count_of o c.args.later (map list_of (y ∷ drop (i + 1) lists)))) c.list-item.is
          ∙ sym (at_drop_more (λ ys. saturated_count (count + count_of o c.args.later (map list_of ys))) lists i x (omega arith))
          ∙ c.loop-list.invariant.left;
    }
