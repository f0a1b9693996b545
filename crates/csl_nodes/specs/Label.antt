-- Labels (CSL 1.0.2, Label; Locators). A label has no flags and shows no variable.
-- - *Printing.* If the special form shows one number variable alone, a label of any other variable
--   does not print. Otherwise, under the forms for one variable, the first date and the year
--   suffix, each label prints except that of a locator. Any other label prints if its variable and
--   its term are found, by a silent lookup.
-- - *Term.* It is the variable's. A locator has the term of its kind; the custom kind has none.
--   Beside pages it is in the plural if the pages are. Beside a number variable it is always or
--   never in the plural if the label sets so, and otherwise if the number is. In this last case it
--   is in the singular beside a text or a place that the caller fills.
-- - *Rendering.* A label that prints, and finds its variable and its term, renders a box without a
--   display, in its own formatting, around its term in its affixes. Its own strip-periods applies
--   to the term alone.
use Rattle.std.specs.Prelude.{ℕ, Bool, true, false, not, ◌||◌, List, [], Option, Some, None, is_some, unwrap_or, if◌then◌else◌}
use denote.Enum.Bare.{sameb}
use Rattle.lit_model.specs.MaybeTyped.{MaybeView, typed, text}
use Rattle.lit_model.specs.Numeric.{numbers, is_plural_number}
use Rattle.lit_model.specs.Page.{PartView, plural_pages}
use Rattle.csl_elements.specs.contracts.taxonomy.Locator.{the_type as the_locator}
use Rattle.csl_elements.specs.contracts.taxonomy.NumberVariable.{the_type as the_number}
use Rattle.csl_elements.specs.declared.number.LabelPluralize.{LabelPluralize}
use Rattle.csl_elements.specs.declared.number.LabelPluralize.TheVariants.{Contextual, Always, Never}
use Rattle.csl_elements.specs.declared.taxonomy.Locator.TheVariants.{Custom}
use Rattle.csl_elements.specs.declared.taxonomy.NumberVariable.TheVariants.{Locator, NumberOfPages, NumberOfVolumes}
use Rattle.csl_elements.specs.declared.taxonomy.NumberOrPageVariable.{NumberOrPageVariable}
use Rattle.csl_elements.specs.declared.taxonomy.NumberOrPageVariable.TheVariants as number_or_page
use Rattle.csl_elements.specs.declared.taxonomy.Variable.{Variable}
use Rattle.csl_elements.specs.declared.taxonomy.Variable.TheVariants as variable
use Rattle.csl_elements.specs.declared.term.Term.{Term}
use Rattle.csl_elements.specs.declared.term.Term.TheVariants as terms
use Rattle.csl_elements.specs.Dressing.{Dressing}
use Rattle.csl_elements.specs.Names.{LabelNode}
use Rattle.csl_elements.specs.Taxonomy.{variable_of}
use Rattle.csl_tree.specs.Tokens.{Token, of_label}
use Rattle.csl_entry.specs.declared.citation.cite.SpecialForm.{SpecialForm}
use Rattle.csl_entry.specs.declared.citation.cite.SpecialForm.TheVariants.{VarOnly, OnlyFirstDate, OnlyYearSuffix, SuppressAuthor}
use Rattle.csl_entry.specs.Cite.{CiteState, LocatorView}
use Rattle.csl_entry.specs.NumberResult.{ResultView, regular, transparent, NumberOrPageView, number, page}
use Rattle.csl_context.specs.State.{State, Inherited}
use Rattle.csl_context.specs.Texts.{text_in}
use Rattle.csl_context.specs.RenderInput.{RenderInput, term_in}
use Rattle.csl_nodes.specs.NumberOrPage.{peek_number_or_page}
use Rattle.csl_nodes.specs.Boxes.{in_plain, plain_box}
use Rattle.csl_nodes.specs.Usage.{no_usage_flags, Info, info_of}
use Rattle.csl_nodes.specs.Text.{RenderOutput, render_output, same_variable}

-- ---- the term

-- the term of the kind of a locator; the custom kind has none
abbrev pub kind_term : Option LocatorView → Option Term
kind_term None = None
kind_term (Some place) = if sameb the_locator place.kind Custom then None else Some (terms.Locator place.kind)

-- the term of a label: that of the locator's kind, or that of any other variable
abbrev pub label_term : CiteState → NumberOrPageVariable → Option Term
label_term cite (number_or_page.Number v) = if sameb the_number v Locator then kind_term cite.locator else Some (terms.Number v)
label_term cite (number_or_page.Page v) = Some (terms.Page v)

-- ---- one or several

-- a number of pages or of volumes is in the plural above 1
abbrev pub is_count : NumberOrPageVariable → Bool
is_count (number_or_page.Number v) = sameb the_number v NumberOfPages || sameb the_number v NumberOfVolumes
is_count (number_or_page.Page v) = false

abbrev pub plural_number : Bool → ResultView → Bool
plural_number counts (regular (typed n)) = is_plural_number counts (numbers n.value)
plural_number counts (regular (text bs)) = false
plural_number counts (transparent index) = false

abbrev pub plural_page : MaybeView (List PartView) → Bool
plural_page (typed parts) = plural_pages parts
plural_page (text bs) = false

-- whether a label is in the plural beside a number variable
abbrev pub plural_by : LabelPluralize → Bool → ResultView → Bool
plural_by Contextual counts r = plural_number counts r
plural_by Always counts r = true
plural_by Never counts r = false

abbrev pub is_plural : LabelPluralize → NumberOrPageVariable → NumberOrPageView → Bool
is_plural asked v (number r) = plural_by asked (is_count v) r
is_plural asked v (page pages) = plural_page pages

-- ---- the text, if the variable and the term are found

abbrev pub term_if : RenderInput → LabelNode → Option Term → Bool → Option (List ℕ)
term_if w l None several = None
term_if w l (Some term) several = term_in w.style term l.form several

abbrev pub text_beside : RenderInput → NumberOrPageVariable → LabelNode → Option NumberOrPageView → Option (List ℕ)
text_beside w v l None = None
text_beside w v l (Some found) = term_if w l (label_term w.instance.cite v) (is_plural l.plural v found)

-- the text of a label, by a silent lookup
abbrev pub label_text : RenderInput → State → NumberOrPageVariable → LabelNode → Option (List ℕ)
label_text w s v l = text_beside w v l (peek_number_or_page w s v)

-- ---- the dry run

abbrev pub is_locator : NumberOrPageVariable → Bool
is_locator (number_or_page.Number v) = sameb the_number v Locator
is_locator (number_or_page.Page v) = false

-- the only variable that the form shows is a number variable, and not the label's
abbrev pub is_other_number : Variable → NumberOrPageVariable → Bool
is_other_number (variable.Standard u) v = false
is_other_number (variable.Number u) v = not (same_variable (variable.Number u) (variable_of v))
is_other_number (variable.Page u) v = false
is_other_number (variable.Name u) v = false
is_other_number (variable.Date u) v = false

abbrev pub label_unless_locator : NumberOrPageVariable → Option Bool
label_unless_locator v = if is_locator v then None else Some true

-- whether a label prints, if the special form decides it without a lookup
abbrev pub label_by_special_form : Option SpecialForm → NumberOrPageVariable → Option Bool
label_by_special_form None v = None
label_by_special_form (Some (VarOnly only)) v = if is_other_number only v then Some false else label_unless_locator v
label_by_special_form (Some OnlyFirstDate) v = label_unless_locator v
label_by_special_form (Some OnlyYearSuffix) v = label_unless_locator v
label_by_special_form (Some SuppressAuthor) v = None

abbrev pub label_prints : RenderInput → State → NumberOrPageVariable → LabelNode → Bool
label_prints w s v l = unwrap_or (label_by_special_form w.instance.special v) (is_some (label_text w s v l))

abbrev pub label_info : RenderInput → State → NumberOrPageVariable → LabelNode → Info
label_info w s v l = info_of (label_prints w s v l) no_usage_flags

-- ---- rendering

-- a label has no display
abbrev pub label_dressing : LabelNode → Dressing
label_dressing l = record { formatting = l.formatting; affixes = l.affixes; display = None }

abbrev pub label_box : LabelNode → Option (List ℕ) → Inherited → List Token
label_box l None inh = []
label_box l (Some bs) inh = plain_box (label_dressing l) of_label inh (text_in (in_plain (label_dressing l) l.strip_periods inh) bs)

abbrev pub label_output : RenderInput → NumberOrPageVariable → LabelNode → Inherited → State → RenderOutput
label_output w v l inh s = render_output (if label_prints w s v l then label_box l (label_text w s v l) inh else []) s
