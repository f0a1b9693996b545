-- Dates (CSL 1.0.2, Date; Date-part; Localized Date Formats; Sorting; Disambiguation,
-- `disambiguate-add-year-suffix`): the dry run of a date, the variables that it shows, its content
-- and the state that it leaves (`date_info`, `date_shows`, `date_output`). The texts of its parts
-- are in `DateText`, and its sort keys in `DateKey`.
use Rattle.std.specs.Prelude.{ℕ, Bool, true, false, not, ◌&&◌, List, [], ◌∷◌, ◌++◌, map, filter, Option, Some, None, option_map, is_some, unwrap_or, find, if◌then◌else◌}
use Rattle.std.specs.Option.{option_or}
use denote.Enum.Bare.{sameb}
use Rattle.csl_common.specs.declared.form.LongShortForm.TheVariants as text_form
use Rattle.lit_model.specs.Chunks.{chunks_text}
use Rattle.lit_model.specs.Date.{DateView, date_view}
use Rattle.lit_model.specs.Text.{Chunk}
use Rattle.csl_elements.specs.contracts.date.DatePartName.{the_type}
use Rattle.csl_elements.specs.declared.date.DateAnyForm.{DateAnyForm}
use Rattle.csl_elements.specs.declared.date.DateForm.{DateForm}
use Rattle.csl_elements.specs.declared.date.DatePartName.{DatePartName}
use Rattle.csl_elements.specs.declared.date.DatePartName.TheVariants.{Day, Month, Year}
use Rattle.csl_elements.specs.declared.date.DateParts.{DateParts}
use Rattle.csl_elements.specs.declared.date.DateParts.TheVariants.{YearMonthDay}
use Rattle.csl_elements.specs.declared.formatting.Formatting as partial
use Rattle.csl_elements.specs.declared.taxonomy.DateVariable.{DateVariable}
use Rattle.csl_elements.specs.declared.taxonomy.StandardVariable.TheVariants.{YearSuffix}
use Rattle.csl_elements.specs.declared.taxonomy.Variable.{Variable}
use Rattle.csl_elements.specs.declared.taxonomy.Variable.TheVariants as variable
use Rattle.csl_elements.specs.Dressing.{Dressing}
use Rattle.csl_elements.specs.Formatting.{apply_partial}
use Rattle.csl_elements.specs.Node.{DateNode, DatePartNode}
use Rattle.csl_style.specs.YearSuffix.{reached_layout, is_year_suffix_implicit}
use Rattle.csl_style.specs.Style.{StyleParts}
use Rattle.csl_tree.specs.Content.{◌++>◌}
use Rattle.csl_tree.specs.Tokens.{Token, of_date, has_children}
use Rattle.csl_entry.specs.declared.citation.cite.Sorting.{Sorting}
use Rattle.csl_entry.specs.declared.citation.cite.SpecialForm.{SpecialForm}
use Rattle.csl_entry.specs.declared.citation.cite.SpecialForm.TheVariants.{VarOnly, OnlyFirstDate, OnlyYearSuffix, SuppressAuthor}
use Rattle.csl_context.specs.State.{State, Inherited, state_after_resolve}
use Rattle.csl_context.specs.Texts.{text_in, text_in_if, between_in}
use Rattle.csl_context.specs.RenderInput.{RenderInput, peek_standard, peek_date, localized_date}
use Rattle.csl_nodes.specs.Boxes.{in_plain, plain_between, plain_box}
use Rattle.csl_nodes.specs.DateText.{is_written, part_text}
use Rattle.csl_nodes.specs.DateKey.{sort_key}
use Rattle.csl_nodes.specs.Usage.{Info, no_info}
use Rattle.csl_nodes.specs.Number.{presence_info}
use Rattle.csl_nodes.specs.Text.{RenderOutput, render_output, same_variable, no_affix_texts}
use Rattle.std.specs.Borrow.{Bor}
use Rattle.csl_elements.specs.declared.date.Date.{Date}
use Rattle.csl_elements.specs.declared.date.DatePart.{DatePart}
use Rattle.csl_elements.specs.View.{view_date, view_date_part}
use Rattle.csl_nodes.specs.declared.date_parts.DateValue.{DateValue}
use Rattle.csl_nodes.specs.declared.date_parts.LocalizedDate.{LocalizedDate}
use Rattle.csl_nodes.specs.declared.date_parts.OwnParts.{OwnParts}

-- ---- dry runs
-- A date shows its own variable, unless the special form shows only another one. Under the two
-- forms for the first date and the year suffix it shows any variable, even without one of its own,
-- until a date of the cite was rendered, even to nothing. After that it shows none.
-- A date without a variable calls one and does not print. A date that does not show its own
-- variable does not print and has no flags. Any other date prints if its variable is found. The
-- variable is then called and not empty; otherwise it is only called. Whether any of the parts
-- prints something does not count.

abbrev pub is_own : Option DateVariable → Variable → Bool
is_own None asked = false
is_own (Some v) asked = same_variable (variable.Date v) asked

-- whether a date of the variable `own` shows the variable `asked`
abbrev pub date_shows_variable : Option SpecialForm → Bool → Option DateVariable → Variable → Bool
date_shows_variable None first own asked = is_own own asked
date_shows_variable (Some (VarOnly only)) first own asked = is_own own asked && is_own own only
date_shows_variable (Some OnlyFirstDate) first own asked = first
date_shows_variable (Some OnlyYearSuffix) first own asked = first
date_shows_variable (Some SuppressAuthor) first own asked = is_own own asked

-- no date was rendered before, even to nothing
abbrev pub is_first : State → Bool
is_first s = not s.first_date_seen

abbrev pub date_shows : RenderInput → State → Variable → DateNode → Bool
date_shows w s v n = date_shows_variable w.instance.special (is_first s) n.variable v

abbrev pub date_shows_own : RenderInput → State → DateVariable → Bool
date_shows_own w s v = date_shows_variable w.instance.special (is_first s) (Some v) (variable.Date v)

abbrev pub variable_info : RenderInput → State → Option DateVariable → Info
variable_info w s None = presence_info false
variable_info w s (Some v) = if date_shows_own w s v then presence_info (is_some (peek_date w s v)) else no_info

-- the dry run of a date: its variable is called, unless the date does not show it, and not empty if
-- it is found
abbrev pub date_info : RenderInput → State → DateNode → Info
date_info w s n = variable_info w s n.variable

-- ---- the year suffix after the first year
-- The year of the first date that is rendered has the *implicit year suffix* after it, inside its
-- affixes: that of the cite, if the layout of the scope reaches no text of the year suffix. Under
-- the form for the year suffix the parts are this suffix alone, without affixes.

abbrev pub suffix_text : Option (List Chunk) → List ℕ
suffix_text None = []
suffix_text (Some cs) = chunks_text cs

-- the year suffix after the first year, if the layout of the scope reaches no text of it
abbrev pub implicit_suffix : RenderInput → State → List ℕ
implicit_suffix w s =
    if is_year_suffix_implicit (reached_layout w.scope w.style) then suffix_text (peek_standard w s text_form.Long YearSuffix) else []

abbrev pub first_suffix : RenderInput → State → List ℕ
first_suffix w s = if is_first s then implicit_suffix w s else []

-- under the form for the year suffix the parts lose all but this suffix
abbrev pub is_suffix_alone : Option SpecialForm → Bool
is_suffix_alone None = false
is_suffix_alone (Some (VarOnly only)) = false
is_suffix_alone (Some OnlyFirstDate) = false
is_suffix_alone (Some OnlyYearSuffix) = true
is_suffix_alone (Some SuppressAuthor) = false

-- ---- a localized date with the node over it
-- A date with a form is the style's localized date of that form with the node over it, and nothing
-- if the style has none. The localized date gives the parts in order, and the delimiter between
-- them or none. The node's affixes and display stay. Its date-parts and its formatting are over
-- those of the localized date.
-- The first part of the node with the same name overrides a part of the localized date. Its form
-- replaces that of the part, set or not, and its formatting is over that of the part. The affixes
-- and the stripping of the part stay.

-- the first of the node's own parts with that name
abbrev pub own_part : List DatePartNode → DatePartName → Option DatePartNode
own_part own name = find (λ p. sameb the_type p.name name) own

abbrev pub form_over : Option DatePartNode → Option DateAnyForm → Option DateAnyForm
form_over None form = form
form_over (Some own) form = own.form

abbrev pub formatting_over : Option DatePartNode → partial.Formatting → partial.Formatting
formatting_over None f = f
formatting_over (Some own) f = apply_partial own.formatting f

-- a part with another over it, if there is one
abbrev pub part_under : Option DatePartNode → DatePartNode → DatePartNode
part_under own p = record p { form = form_over own p.form; formatting = formatting_over own p.formatting }

-- a part of the localized date, with the node's own part of its name over it
abbrev pub part_over : List DatePartNode → DatePartNode → DatePartNode
part_over own p = part_under (own_part own p.name) p

abbrev pub parts_over : Option DateParts → Option DateNode → Option DateParts
parts_over own None = own
parts_over own (Some l) = option_or own l.parts

abbrev pub date_part_over : List DatePartNode → Option DateNode → List DatePartNode
date_part_over own None = own
date_part_over own (Some l) = map (part_over own) l.date_part

abbrev pub delimiter_over : Option (List ℕ) → Option DateNode → Option (List ℕ)
delimiter_over own None = own
delimiter_over own (Some l) = l.delimiter

abbrev pub whole_formatting : partial.Formatting → Option DateNode → partial.Formatting
whole_formatting own None = own
whole_formatting own (Some l) = apply_partial own l.dressing.formatting

abbrev pub dressing_over : Dressing → Option DateNode → Dressing
dressing_over own l = record own { formatting = whole_formatting own.formatting l }

-- the node over its localized date, or the node alone if there is none
abbrev pub date_over : DateNode → Option DateNode → DateNode
date_over n l = record n {
  parts = parts_over n.parts l;
  date_part = date_part_over n.date_part l;
  delimiter = delimiter_over n.delimiter l;
  dressing = dressing_over n.dressing l;
}

-- the date as it is written: with a form the node over the style's localized date, or none
abbrev pub localized_over : StyleParts → DateNode → Option DateForm → Option DateNode
localized_over style n None = Some n
localized_over style n (Some form) = option_map (λ l. date_over n (Some l)) (localized_date style form)

-- ---- a part
-- A part is its text, in its affixes, in its formatting. A part's own strip-periods applies to a
-- month alone, and not to the affixes.

-- the suffix comes with the year
abbrev pub suffix_with : DatePartName → List ℕ → List ℕ
suffix_with Day suffix = []
suffix_with Month suffix = []
suffix_with Year suffix = suffix

-- the text of a part: its value, if it is written and not only the suffix is, and after a year the
-- suffix
abbrev pub part_value : StyleParts → Bool → DateParts → List ℕ → DateView → DatePartName → Option DateAnyForm → List ℕ
part_value style alone parts suffix d name form =
    (if not alone && is_written parts d name then part_text style name form d else []) ++ suffix_with name suffix

-- only a month can strip its periods
abbrev pub is_stripped : DatePartName → Bool → Bool
is_stripped Day strip = false
is_stripped Month strip = strip
is_stripped Year strip = false

-- the attributes of a part; it has no affixes if only the suffix is written
abbrev pub part_dressing : Bool → DatePartNode → Dressing
part_dressing alone p = record { formatting = p.formatting; affixes = if alone then no_affix_texts else p.affixes; display = None }

abbrev pub part_content : RenderInput → DateParts → List ℕ → DateView → Inherited → DatePartNode → List Token
part_content w parts suffix d inh p =
    let alone = is_suffix_alone w.instance.special in
    plain_between (part_dressing alone p) inh (text_in (in_plain (part_dressing alone p) (is_stripped p.name p.strip_periods) inh)
    (part_value w.style alone parts suffix d p.name p.form))

-- ---- the parts that print something, in order, with the delimiter between them, in the date's
-- formatting

-- contents in a row, each after a delimiter
abbrev pub each_after_delimiter : List Token → List (List Token) → List Token
each_after_delimiter delimiter [] = []
each_after_delimiter delimiter (c ∷ cs) = delimiter ++> (c ++> each_after_delimiter delimiter cs)

-- contents in a row, with a delimiter between two
abbrev pub joined_by : List Token → List (List Token) → List Token
joined_by delimiter [] = []
joined_by delimiter (c ∷ cs) = c ++> each_after_delimiter delimiter cs

abbrev pub date_body : RenderInput → DateNode → List ℕ → DateView → Inherited → List Token
date_body w n suffix d inh =
    joined_by (text_in_if inh n.delimiter)
    (filter has_children (map (part_content w (unwrap_or n.parts YearMonthDay) suffix d inh) n.date_part))

-- ---- rendering
-- A date without a variable, or one that does not show it, renders nothing. Any other date looks
-- its variable up for printing, and renders nothing if it finds none. While sorting it renders its
-- sort key: one text without box, affixes or formatting of its own. Then it does not count as a
-- rendered date. Otherwise its content is a box in its formatting, around its parts in its affixes,
-- with the meta of a date. From then on a date counts as rendered, even to nothing.

-- the state after a date was rendered, even to nothing
abbrev pub date_seen : State → State
date_seen s = record s { first_date_seen = true }

abbrev pub date_box : RenderInput → DateNode → List ℕ → DateView → Inherited → List Token
date_box w n suffix d inh = plain_box n.dressing of_date inh (date_body w n suffix d (in_plain n.dressing false inh))

-- the box of a date that was found; nothing if the style lacks the localized date
abbrev pub printed_date : RenderInput → Option DateNode → DateView → Inherited → State → RenderOutput
printed_date w None d inh s = render_output [] s
printed_date w (Some n) d inh s = render_output (date_box w n (first_suffix w s) d inh) (date_seen s)

-- a sort key is one text without a box, and does not count as a rendered date
abbrev pub date_or_key : RenderInput → DateNode → Option Sorting → DateView → Inherited → State → RenderOutput
date_or_key w n None d inh s = printed_date w (localized_over w.style n n.form) d inh s
date_or_key w n (Some sorting) d inh s = render_output (text_in inh (sort_key n sorting (implicit_suffix w s) d)) s

abbrev pub resolved_date : RenderInput → DateNode → Option DateView → Inherited → State → RenderOutput
resolved_date w n None inh s = render_output [] s
resolved_date w n (Some d) inh s = date_or_key w n w.instance.sorting d inh s

-- the variable is looked up for printing if the date shows it
abbrev pub variable_output : RenderInput → DateNode → Option DateVariable → Inherited → State → RenderOutput
variable_output w n None inh s = render_output [] s
variable_output w n (Some v) inh s =
    if date_shows_own w s v then resolved_date w n (peek_date w s v) inh (state_after_resolve (variable.Date v) s) else render_output [] s

abbrev pub date_output : RenderInput → DateNode → Inherited → State → RenderOutput
date_output w n inh s = variable_output w n n.variable inh s

abbrev pub localized_node : LocalizedDate → DateNode
localized_node d = date_over (view_date d.node.now) (option_map (λ l. view_date l.now) d.localized)

-- the node's own parts if there is a localized date, which they override; else none
abbrev pub over_localized : Date → Option (Bor Date) → List DatePartNode
over_localized n None = []
over_localized n (Some l) = map view_date_part n.date_part.items

abbrev pub own_parts : LocalizedDate → List DatePartNode
own_parts d = over_localized d.node.now d.localized

-- the own part with this name, of the first of each
abbrev pub own_named : OwnParts → DatePartName → Option DatePartNode
own_named own Day = option_map (λ part. view_date_part part.now) own.day
own_named own Month = option_map (λ part. view_date_part part.now) own.month
own_named own Year = option_map (λ part. view_date_part part.now) own.year

-- the content of a part of a date as it is written, with the own part of its name over it
abbrev pub printed_part : RenderInput → LocalizedDate → DateValue → Inherited → Option (Bor DatePart) → DatePart → List Token
printed_part w date found inh own part =
    part_content w (unwrap_or (localized_node date).parts YearMonthDay) found.suffix.now (date_view found.date.now) inh
    (part_under (option_map (λ part. view_date_part part.now) own) (view_date_part part))

-- the same after the delimiter, unless it is the first part that prints something
abbrev pub next_part : RenderInput → LocalizedDate → DateValue → Inherited → Option (Bor DatePart) → Bool → DatePart → List Token
next_part w date found inh own first part =
    let content = printed_part w date found inh own part in
    if first then content else between_in inh (localized_node date).delimiter None content
