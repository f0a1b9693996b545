use Rattle.std.proofs.Common.{◌≡◌, drop, map, true, false}
use Rattle.csl_names.specs.NamesNode.{with_lists, with_names_written, names_style_view}
use Rattle.csl_names.specs.NamesLists.{list_of}
use Rattle.csl_names.proofs.names.written.NamesStyle.push_lists.Given as goal

-- the content so far, with the remaining lists, is the content with all lists
abbrev pub invariant-loop-list : goal.invariant-loop-list
invariant-loop-list g l = record {
  sound : l.initial.ctx.failed ≡ false;
  counted : l.place ≡ l.list-index;
  left : with_names_written (λ w. with_lists w (names_style_view l.self) l.first l.place (map (λ f. f.items) l.forms) (map list_of (drop l.list-index l.lists))) l.ctx
      ≡ with_names_written (λ w. with_lists w (names_style_view l.self) true 0 (map (λ f. f.items) l.forms) (map list_of l.lists)) l.initial.ctx;
}
