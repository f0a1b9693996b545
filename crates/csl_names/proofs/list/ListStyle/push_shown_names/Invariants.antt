use Rattle.std.proofs.Common.{◌≡◌, drop, map, false}
use Rattle.std.specs.Cow.{cow_value}
use Rattle.lit_model.specs.Person.{person_view}
use Rattle.csl_names.specs.Piece.{with_pieces}
use Rattle.csl_names.specs.List.{names_from}
use Rattle.csl_names.specs.ListStyles.{list_style_view}
use Rattle.csl_names.proofs.list.ListStyle.push_shown_names.Given as goal

-- the context so far, with the names from this place on, is the context with all names
abbrev pub invariant-loop-person : goal.invariant-loop-person
invariant-loop-person g l = record {
  sound : l.initial.ctx.failed ≡ false;
  counted : l.place ≡ l.person-index;
  left : with_pieces (names_from l.ctx.inherited (list_style_view l.self) l.ends l.forms l.place (map (λ p. person_view (cow_value p)) (drop l.person-index l.persons))) l.ctx
      ≡ with_pieces (names_from l.initial.ctx.inherited (list_style_view l.self) l.ends l.forms 0 (map (λ p. person_view (cow_value p)) l.persons)) l.initial.ctx;
}
