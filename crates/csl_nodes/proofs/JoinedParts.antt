-- The parts of a date, as the code renders them. The delimiter precedes each part with content but
-- the first one.
use Rattle.std.proofs.Common.{◌≡◌, ℕ, Bool, true, false, not, ◌&&◌, List, [], ◌∷◌, Option, Some, None, map, filter, unwrap_or, option_map, Bor, if◌then◌else◌, refl, ap, ◌∙◌}
use Rattle.lit_model.specs.Date.{date_view}
use Rattle.csl_elements.specs.declared.date.Date.{Date}
use Rattle.csl_elements.specs.declared.date.DatePart.{DatePart}
use Rattle.csl_elements.specs.declared.date.DatePartName.{DatePartName}
use Rattle.csl_elements.specs.declared.date.DatePartName.TheVariants.{Day, Month, Year}
use Rattle.csl_elements.specs.declared.date.DateParts.TheVariants.{YearMonthDay}
use Rattle.csl_elements.specs.Node.{DatePartNode}
use Rattle.csl_elements.specs.View.{view_date, view_date_part}
use Rattle.csl_tree.proofs.Joins.{join-none, join_assoc}
use Rattle.csl_tree.specs.Content.{◌++>◌}
use Rattle.csl_tree.specs.Tokens.{Token, has_children}
use Rattle.csl_entry.specs.Answers.{Answers}
use Rattle.csl_context.specs.Context.{ContextView, render_input, with_content}
use Rattle.csl_context.specs.State.{Inherited}
use Rattle.csl_context.specs.Texts.{text_in_if, between_in}
use Rattle.csl_nodes.specs.declared.date_parts.DateValue.{DateValue}
use Rattle.csl_nodes.specs.declared.date_parts.LocalizedDate.{LocalizedDate}
use Rattle.csl_nodes.specs.declared.date_parts.OwnParts.{OwnParts}
use Rattle.csl_nodes.specs.Date.{own_part, part_under, part_over, date_part_over, part_content, each_after_delimiter, joined_by, localized_node, own_parts, own_named, over_localized}

-- Without a localized date the parts are unchanged.
as_they_are : (ps : List DatePartNode) → map (part_over []) ps ≡ ps
as_they_are [] = refl
as_they_are (p ∷ ps) = ap (λ qs. p ∷ qs) (as_they_are ps)

pub not_localized : (n : Date) (l : Option (Bor Date)) (ps qs : List DatePartNode) → l ≡ None → ps ≡ qs → map (part_over (over_localized n l)) ps ≡ date_part_over qs (option_map (λ d. view_date d.now) l)
not_localized n None ps qs h e = as_they_are ps ∙ e
not_localized n (Some d) ps qs h e = cc

-- the three own parts are those of the three names
pub each_named : (own : OwnParts) (part : DatePartName → Option DatePartNode) → own_named own Day ≡ part Day → own_named own Month ≡ part Month → own_named own Year ≡ part Year
    → (name : DatePartName) → own_named own name ≡ part name
each_named own part day month year Day = day
each_named own part day month year Month = month
each_named own part day month year Year = year

-- a part, after the delimiter unless it is the first one with content
abbrev pub behind_delimiter : Inherited → Option (List ℕ) → Bool → List Token → List Token
behind_delimiter inh delimiter first c = if first then c else between_in inh delimiter None c

-- the remaining parts, with or without an earlier part that has content
abbrev pub to_come : List Token → Bool → List (List Token) → List Token
to_come delimiter true cs = joined_by delimiter cs
to_come delimiter false cs = each_after_delimiter delimiter cs

pub none_to_come : (delimiter : List Token) (first : Bool) → to_come delimiter first [] ≡ []
none_to_come delimiter true = refl
none_to_come delimiter false = refl

pub one_to_come : (inh : Inherited) (delimiter : Option (List ℕ)) (first : Bool) (c : List Token) (cs : List (List Token))
    → behind_delimiter inh delimiter first c ++> to_come (text_in_if inh delimiter) (first && not (has_children c)) (filter has_children cs) ≡ to_come (text_in_if inh delimiter) first (filter has_children (c ∷ cs))
one_to_come inh delimiter true [] cs = refl
one_to_come inh delimiter true (t ∷ ts) cs = refl
one_to_come inh delimiter false [] cs = refl
one_to_come inh delimiter false (t ∷ ts) cs =
    let between = text_in_if inh delimiter in
    let rest = each_after_delimiter between (filter has_children cs) in
    join_assoc between ((t ∷ ts) ++> []) rest ∙ ap (λ c. between ++> (c ++> rest)) (join-none (t ∷ ts))

module _ {T : Type 0} (answers : T → Answers) (written : LocalizedDate) (found : DateValue) where
  -- the content of a part in a context, with an own part over it
  abbrev pub part_with : Option DatePartNode → ContextView T → DatePart → List Token
  part_with own now p = part_content (render_input answers now) (unwrap_or (localized_node written).parts YearMonthDay) found.suffix.now (date_view found.date.now) now.inherited (part_under own (view_date_part p))

  -- the content of a part in a context
  abbrev pub part_of : ContextView T → DatePart → List Token
  part_of now p = part_with (own_part (own_parts written) p.name) now p

  -- the contents of parts
  abbrev pub contents_of : ContextView T → List DatePart → List (List Token)
  contents_of now ps = map (part_content (render_input answers now) (unwrap_or (localized_node written).parts YearMonthDay) found.suffix.now (date_view found.date.now) now.inherited) (map (part_over (own_parts written)) (map view_date_part ps))

  -- the content of the remaining parts, with or without an earlier part that has content
  abbrev pub parts_of : ContextView T → Bool → List DatePart → List Token
  parts_of now first ps = to_come (text_in_if now.inherited (localized_node written).delimiter) first (filter has_children (contents_of now ps))

  -- the context after one more part, with an own part over it
  abbrev pub with_one_under : Option DatePartNode → Bool → DatePart → ContextView T → ContextView T
  with_one_under own first p now = with_content (λ inh. behind_delimiter inh (localized_node written).delimiter first (part_content (render_input answers now) (unwrap_or (localized_node written).parts YearMonthDay) found.suffix.now (date_view found.date.now) inh (part_under own (view_date_part p)))) now

  -- the context after one more part
  abbrev pub with_one_more : Bool → DatePart → ContextView T → ContextView T
  with_one_more first p now = with_one_under (own_part (own_parts written) p.name) first p now
