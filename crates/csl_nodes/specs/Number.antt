-- Numbers (CSL 1.0.2, Number; Sorting).
-- - *Dry run.* A number shows its own variable, unless the special form shows only another one.
--   Under the two forms for the first date and the year suffix a number of the locator shows any
--   variable, and any other number shows none. A number prints if it shows its own variable and
--   finds it. The variable is then called and not empty. Any other number calls its variable and
--   does not print.
-- - *Rendering.* A number that does not show its own variable renders nothing. Any other number
--   looks it up for printing. While sorting, a number or pages render their sort text: one text
--   without box, affixes or formatting of its own. It has each number in at least four places,
--   without prefix and suffix, and pages in full. Otherwise the content is a box in the node's
--   formatting, around the answer in its affixes (`number_node_text`), in the gender of the
--   variable's term. The meta is that of a number, or of a citation number.
use Rattle.std.specs.Prelude.{ℕ, Bool, true, false, ◌&&◌, List, [], Option, Some, None, is_some, if◌then◌else◌}
use denote.Enum.Bare.{sameb}
use Rattle.lit_model.specs.MaybeTyped.{typed, text}
use Rattle.lit_model.specs.NumericWrite.{integer_text, value_text}
use Rattle.lit_model.specs.PageWrite.{pages_text}
use Rattle.csl_elements.specs.contracts.taxonomy.NumberVariable.{the_type as the_number}
use Rattle.csl_elements.specs.declared.taxonomy.NumberVariable.TheVariants.{CitationNumber}
use Rattle.csl_elements.specs.declared.taxonomy.NumberOrPageVariable.{NumberOrPageVariable}
use Rattle.csl_elements.specs.declared.taxonomy.NumberOrPageVariable.TheVariants as number_or_page
use Rattle.csl_elements.specs.declared.taxonomy.Variable.{Variable}
use Rattle.csl_elements.specs.Node.{NumberNode}
use Rattle.csl_elements.specs.Taxonomy.{variable_of, term_of}
use Rattle.csl_tree.specs.Tokens.{Token, Meta, of_number, of_citation_number}
use Rattle.csl_entry.specs.declared.citation.cite.Sorting.{Sorting}
use Rattle.csl_entry.specs.declared.citation.cite.SpecialForm.{SpecialForm}
use Rattle.csl_entry.specs.declared.citation.cite.SpecialForm.TheVariants.{VarOnly, OnlyFirstDate, OnlyYearSuffix, SuppressAuthor}
use Rattle.csl_entry.specs.NumberResult.{regular, transparent, NumberOrPageView, number, page}
use Rattle.csl_context.specs.State.{State, Inherited, state_after_resolve}
use Rattle.csl_context.specs.Texts.{text_in}
use Rattle.csl_context.specs.RenderInput.{RenderInput, gender_in}
use Rattle.csl_nodes.specs.NumberOrPage.{peek_number_or_page, shown_in, number_node_text}
use Rattle.csl_nodes.specs.Boxes.{in_plain, plain_box}
use Rattle.csl_nodes.specs.Usage.{usage_flags, Info, info_of}
use Rattle.csl_nodes.specs.Text.{RenderOutput, render_output, same_variable, survives_only_forms}

-- ---- dry runs

-- whether a number of the variable `own` shows the variable `asked`
abbrev pub is_shown : Option SpecialForm → Variable → Variable → Bool
is_shown None own asked = same_variable own asked
is_shown (Some (VarOnly only)) own asked = same_variable own asked && same_variable only own
is_shown (Some OnlyFirstDate) own asked = survives_only_forms own
is_shown (Some OnlyYearSuffix) own asked = survives_only_forms own
is_shown (Some SuppressAuthor) own asked = same_variable own asked

abbrev pub number_shows : RenderInput → Variable → NumberNode → Bool
number_shows w v n = is_shown w.instance.special (variable_of n.variable) v

abbrev pub shows_own : RenderInput → NumberNode → Bool
shows_own w n = number_shows w (variable_of n.variable) n

-- the dry run of a number: its variable is called, and not empty if it is found
abbrev pub presence_info : Bool → Info
presence_info found = info_of found (usage_flags true found false false)

abbrev pub number_info : RenderInput → State → NumberNode → Info
number_info w s n = presence_info (if shows_own w n then is_some (peek_number_or_page w s n.variable) else false)

-- ---- rendering

-- the sort text of a number or pages: each number in at least four places, without prefix and
-- suffix; pages in full
abbrev pub sort_text : NumberOrPageView → Option (List ℕ)
sort_text (number (regular (typed n))) = Some (value_text (integer_text true) n.value)
sort_text (number (regular (text bs))) = None
sort_text (number (transparent index)) = None
sort_text (page (typed parts)) = Some (pages_text parts)
sort_text (page (text bs)) = None

-- the sort text, if the cite is rendered for sorting
abbrev pub optional_sort_text : Option Sorting → NumberOrPageView → Option (List ℕ)
optional_sort_text None found = None
optional_sort_text (Some sorting) found = sort_text found

abbrev pub number_meta : NumberOrPageVariable → Meta
number_meta (number_or_page.Number v) = if sameb the_number v CitationNumber then of_citation_number else of_number
number_meta (number_or_page.Page v) = of_number

-- an answer in the number's form, in the gender of its variable's term
abbrev pub number_body : RenderInput → NumberNode → NumberOrPageView → Inherited → List Token
number_body w n found inh = shown_in inh (number_node_text w.style n.form (gender_in w.style (term_of n.variable)) found)

-- a sort text is one text without a box
abbrev pub number_content : RenderInput → NumberNode → NumberOrPageView → Option (List ℕ) → Inherited → List Token
number_content w n found (Some key) inh = text_in inh key
number_content w n found None inh = plain_box n.dressing (number_meta n.variable) inh (number_body w n found (in_plain n.dressing false inh))

abbrev pub optional_number_content : RenderInput → NumberNode → Option NumberOrPageView → Inherited → List Token
optional_number_content w n None inh = []
optional_number_content w n (Some found) inh = number_content w n found (optional_sort_text w.instance.sorting found) inh

-- the variable is looked up for printing if the number shows it
abbrev pub number_output : RenderInput → NumberNode → Inherited → State → RenderOutput
number_output w n inh s = if shows_own w n
    then render_output (optional_number_content w n (peek_number_or_page w s n.variable) inh) (state_after_resolve (variable_of n.variable) s)
    else render_output [] s
