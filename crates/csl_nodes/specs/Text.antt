-- Texts that call no macro (CSL 1.0.2, Text; Affixes; Quotes; Strip-periods; Appendix VI, Links):
-- how they resolve, their dry run, the variables that they show, their content and the state that
-- they leave. A resolved text of the code is plain data by `resolved_view`.
use Rattle.std.specs.Prelude.{ℕ, Bool, true, false, not, ◌&&◌, ◌||◌, ◌==◌, List, [], ◌++◌, length, Option, Some, None, option_map, is_some, Result, codes, bytes_eq, if◌then◌else◌}
use denote.Enum.Bare.{sameb}
use Rattle.lit_model.specs.Text.{Chunk, chunks}
use Rattle.lit_model.specs.Chunks.{chunks_text, is_empty}
use Rattle.csl_common.specs.declared.form.LongShortForm.{LongShortForm}
use Rattle.csl_elements.specs.declared.taxonomy.Variable.{Variable}
use Rattle.csl_elements.specs.declared.taxonomy.Variable.TheVariants as variable
use Rattle.csl_elements.specs.declared.taxonomy.StandardVariable.{StandardVariable}
use Rattle.csl_elements.specs.declared.taxonomy.StandardVariable.TheVariants as standard
use Rattle.csl_elements.specs.declared.taxonomy.NumberVariable.TheVariants.{CitationNumber, Locator}
use Rattle.csl_elements.specs.declared.taxonomy.NumberOrPageVariable.{NumberOrPageVariable}
use Rattle.csl_elements.specs.declared.taxonomy.NumberOrPageVariable.TheVariants as number_or_page
use Rattle.csl_elements.specs.contracts.taxonomy.StandardVariable.{the_type as the_standard}
use Rattle.csl_elements.specs.contracts.taxonomy.NumberVariable.{the_type as the_number}
use Rattle.csl_elements.specs.contracts.taxonomy.VariablePartialEq.TheImpl.{eq-value}
use Rattle.csl_elements.specs.declared.term.Term.{Term}
use Rattle.csl_elements.specs.declared.term.TermForm.{TermForm}
use Rattle.csl_elements.specs.Dressing.{AffixTexts, TextDressing}
use Rattle.csl_elements.specs.Node.{Target, of_variable, of_term, of_value}
use Rattle.csl_style.specs.Style.{StyleParts}
use Rattle.csl_tree.specs.Formatting.{apply_formatting}
use Rattle.csl_tree.specs.Tokens.{Token, Meta, of_text, of_citation_label, of_citation_number}
use Rattle.csl_tree.specs.Content.{◌++>◌, elem_content}
use Rattle.csl_entry.specs.declared.citation.cite.SpecialForm.{SpecialForm}
use Rattle.csl_entry.specs.declared.citation.cite.SpecialForm.TheVariants.{VarOnly, OnlyFirstDate, OnlyYearSuffix, SuppressAuthor}
use Rattle.csl_entry.specs.Answers.{Answers, cow_view}
use Rattle.csl_entry.specs.NumberResult.{NumberOrPageView, number_or_page_view}
use Rattle.csl_context.specs.State.{State, Inherited, state_after_resolve, with_node_formatting}
use Rattle.csl_context.specs.RenderInput.{RenderInput, peek_standard, term_in}
use Rattle.csl_context.specs.Texts.{text_in, chunks_in, link_in}
use Rattle.csl_context.specs.Context.{ContextView, Runs, render_input}
use Rattle.csl_context.specs.declared.error.RenderError.{RenderError}
use Rattle.csl_context.specs.Quotes.{toggled_if, quoted_between}
use Rattle.csl_nodes.specs.NumberOrPage.{peek_number_or_page, shown_in, text_node_text}
use Rattle.csl_nodes.specs.Usage.{usage_flags, no_usage_flags, Info, info_of}
use Rattle.csl_nodes.specs.declared.resolved.ResolvedText as declared
use Rattle.csl_nodes.specs.declared.resolved.ResolvedText.TheVariants as of_found

-- the rendering of a node: its content, and the state that it leaves
pub record RenderOutput : Type 0 where
  pub content : List Token
  pub state : State

abbrev pub render_output : List Token → State → RenderOutput
render_output c s = record { content = c; state = s }

-- a content, and then a rendering after it
abbrev pub then_output : List Token → RenderOutput → RenderOutput
then_output c m = render_output (c ++> m.content) m.state

-- a context after a rendering is appended to it
abbrev pub with_output : {T : Type 0} → RenderOutput → ContextView T → ContextView T
with_output m now = record now { inner = now.inner ++> m.content; state = m.state }

-- A call appends the rendering `m` of the input, the inherited values and the state, or it fails.
abbrev pub Appends : {R T : Type 0} → (T → Answers) → (RenderInput → Inherited → State → RenderOutput) → Result R RenderError → ContextView T → ContextView T → Type 0
Appends answers m result old new = Runs (λ now. with_output (m (render_input answers now) now.inherited now.state) now) result old new

abbrev pub same_variable : Variable → Variable → Bool
same_variable = eq-value.it

abbrev pub is_standard : StandardVariable → StandardVariable → Bool
is_standard u v = sameb the_standard v u

-- ---- texts under a special form

-- the two forms for the first date and the year suffix show a text of the year suffix or the
-- locator, and of no other variable
abbrev pub survives_only_forms : Variable → Bool
survives_only_forms (variable.Standard v) = is_standard standard.YearSuffix v
survives_only_forms (variable.Number v) = sameb the_number v Locator
survives_only_forms (variable.Page v) = false
survives_only_forms (variable.Name v) = false
survives_only_forms (variable.Date v) = false

-- the form shows a text of the variable
abbrev pub shows_variable : Option SpecialForm → Variable → Bool
shows_variable None v = true
shows_variable (Some (VarOnly u)) v = same_variable u v
shows_variable (Some OnlyFirstDate) v = survives_only_forms v
shows_variable (Some OnlyYearSuffix) v = survives_only_forms v
shows_variable (Some SuppressAuthor) v = true

-- the form shows a text of a term or of a value
abbrev pub shows_terms_and_values : Option SpecialForm → Bool
shows_terms_and_values None = true
shows_terms_and_values (Some (VarOnly u)) = false
shows_terms_and_values (Some OnlyFirstDate) = false
shows_terms_and_values (Some OnlyYearSuffix) = false
shows_terms_and_values (Some SuppressAuthor) = true

-- a text of a macro has its affixes, unless the form shows one variable alone
abbrev pub shows_macro_affixes : Option SpecialForm → Bool
shows_macro_affixes None = true
shows_macro_affixes (Some (VarOnly u)) = false
shows_macro_affixes (Some OnlyFirstDate) = true
shows_macro_affixes (Some OnlyYearSuffix) = true
shows_macro_affixes (Some SuppressAuthor) = true

-- ---- resolved texts
-- A text resolves to the answer to its variable, the text of its term, or its value. Under the form
-- for one variable only a text of that variable resolves to anything. Under the two forms for the
-- first date and the year suffix only the year suffix and the locator do. A text of a name or a
-- date variable never resolves to anything.

-- the answer to a standard variable, the answer to one that holds a number or pages, the text of a
-- term, the value in the style
pub data ResolvedText : Type 0 where
  standard_text : StandardVariable → List Chunk → ResolvedText
  number_result : NumberOrPageVariable → NumberOrPageView → ResolvedText
  term : List ℕ → ResolvedText
  value : List ℕ → ResolvedText

abbrev pub resolved_number : RenderInput → State → NumberOrPageVariable → Option ResolvedText
resolved_number w s v = option_map (number_result v) (peek_number_or_page w s v)

-- a name or a date variable resolves to nothing
abbrev pub resolved_variable : RenderInput → State → LongShortForm → Variable → Option ResolvedText
resolved_variable w s form (variable.Standard v) = option_map (standard_text v) (peek_standard w s form v)
resolved_variable w s form (variable.Number v) = resolved_number w s (number_or_page.Number v)
resolved_variable w s form (variable.Page v) = resolved_number w s (number_or_page.Page v)
resolved_variable w s form (variable.Name v) = None
resolved_variable w s form (variable.Date v) = None

abbrev pub resolved_term : RenderInput → Term → TermForm → Bool → Option ResolvedText
resolved_term w t form plural = option_map term (term_in w.style t form plural)

abbrev pub resolved_text : RenderInput → State → Target → Option ResolvedText
resolved_text w s (of_variable v form) = if shows_variable w.instance.special v then resolved_variable w s form v else None
resolved_text w s (of_term t form plural) = if shows_terms_and_values w.instance.special then resolved_term w t form plural else None
resolved_text w s (of_value bs) = if shows_terms_and_values w.instance.special then Some (value bs) else None

-- ---- dry runs
-- Lookups are silent. A text that resolves to nothing does not print. It still calls its variable,
-- except for the year suffix. A text with an answer calls its variable, and prints unless the
-- answer is an empty standard text. A term that is found prints, and so does a value that is not
-- empty; neither has flags. A text shows its variable if it resolves to an answer.

-- a text that resolves to nothing still calls its variable, except for the year suffix
abbrev pub calls_variable : Variable → Bool
calls_variable (variable.Standard v) = not (is_standard standard.YearSuffix v)
calls_variable (variable.Number v) = true
calls_variable (variable.Page v) = true
calls_variable (variable.Name v) = true
calls_variable (variable.Date v) = true

abbrev pub calls : Target → Bool
calls (of_variable v form) = calls_variable v
calls (of_term t form plural) = false
calls (of_value bs) = false

abbrev pub resolved_info : Bool → Option ResolvedText → Info
resolved_info called None = info_of false (usage_flags called false false false)
resolved_info called (Some (standard_text v cs)) = info_of (not (is_empty cs)) (usage_flags true (not (is_empty cs)) false false)
resolved_info called (Some (number_result v n)) = info_of true (usage_flags true true false false)
resolved_info called (Some (term bs)) = info_of true no_usage_flags
resolved_info called (Some (value bs)) = info_of (not (length bs == 0)) no_usage_flags

-- whether a resolved text prints: unless it is an empty text or value
abbrev pub prints : ResolvedText → Bool
prints (standard_text v cs) = not (is_empty cs)
prints (number_result v n) = true
prints (term bs) = true
prints (value bs) = not (length bs == 0)

-- the dry run of a text of a variable, by whether its answer prints, if it has one
abbrev pub answer_info : Bool → Option Bool → Info
answer_info called None = info_of false (usage_flags called false false false)
answer_info called (Some prints) = info_of prints (usage_flags true prints false false)

abbrev pub target_info : RenderInput → State → Target → Info
target_info w s t = resolved_info (calls t) (resolved_text w s t)

-- whether a text is of the variable
abbrev pub is_of : Variable → Target → Bool
is_of v (of_variable u form) = same_variable u v
is_of v (of_term t form plural) = false
is_of v (of_value bs) = false

abbrev pub target_shows : RenderInput → State → Variable → Target → Bool
target_shows w s v t = is_some (resolved_text w s t) && is_of v t

-- ---- links (CSL 1.0.2, Appendix VI, Links)
-- The answer to DOI, PMID or PMCID is a link to an address: a prefix, then the answer. The answer
-- to URL is a link to itself. If the node's prefix is that of the address, it begins the text of
-- the link, and the node has no affixes.

abbrev pub doi_prefix : List ℕ
doi_prefix = codes "https://doi.org/"

abbrev pub pmid_prefix : List ℕ
pmid_prefix = codes "https://www.ncbi.nlm.nih.gov/pubmed/"

abbrev pub pmcid_prefix : List ℕ
pmcid_prefix = codes "https://www.ncbi.nlm.nih.gov/pmc/articles/"

-- the text before the answer in the address that it links to
abbrev pub url_prefix : StandardVariable → Option (List ℕ)
url_prefix v =
    if is_standard standard.DOI v then Some doi_prefix
    else if is_standard standard.PMID v then Some pmid_prefix
    else if is_standard standard.PMCID v then Some pmcid_prefix
    else None

-- the text before the answer in the address that it links to; for a URL it is empty, because the
-- answer is the address
abbrev pub address_prefix : StandardVariable → Option (List ℕ)
address_prefix v = if is_standard standard.URL v then Some [] else url_prefix v

abbrev is_prefix : Option (List ℕ) → List ℕ → Bool
is_prefix None bs = false
is_prefix (Some p) bs = bytes_eq p bs

-- the node's prefix is that of the address
abbrev is_address_prefix : Option (List ℕ) → Option (List ℕ) → Bool
is_address_prefix None prefix = false
is_address_prefix (Some bs) prefix = is_prefix prefix bs

-- whether the node's prefix is that of the address: then it begins the text of the link, and the
-- node has no affixes
abbrev pub begins_link : TextDressing → StandardVariable → Bool
begins_link d v = is_address_prefix (url_prefix v) d.dressing.affixes.prefix

-- ---- rendering
-- The content of a resolved text is a box in the text's formatting, around its body in quotes and
-- affixes. The text's own strip-periods applies to the body alone. The body of a standard answer is
-- its chunks, or its link. For a number or page variable it is `text_node_text` of `NumberOrPage`.
-- The box of an answer has the meta of a text, a citation label or a citation number. The box of a
-- term or a value has none. A text of a variable looks it up for printing, whatever it resolves to.
-- There is no lookup for a name or a date variable, or if the special form does not show the text.

-- the inherited values of a text's body
abbrev pub in_body : TextDressing → Inherited → Inherited
in_body d inh = record inh {
  formatting = apply_formatting d.dressing.formatting inh.formatting;
  in_quotes = toggled_if d.quotes inh.in_quotes;
  strip_periods = d.strip_periods || inh.strip_periods;
}

-- a text's box around its body
abbrev pub text_box : StyleParts → AffixTexts → TextDressing → Option Meta → Inherited → List Token → List Token
text_box style a d meta inh c =
    elem_content d.dressing.display meta (quoted_between d.quotes style a (with_node_formatting d.dressing.formatting inh) c)

abbrev pub no_affix_texts : AffixTexts
no_affix_texts = record { prefix = None; suffix = None }

-- the affixes of a text: none if its prefix begins a link
abbrev pub resolved_affixes : TextDressing → ResolvedText → AffixTexts
resolved_affixes d (standard_text v cs) = if begins_link d v then no_affix_texts else d.dressing.affixes
resolved_affixes d (number_result v n) = d.dressing.affixes
resolved_affixes d (term bs) = d.dressing.affixes
resolved_affixes d (value bs) = d.dressing.affixes

-- the meta of a text's box
abbrev pub standard_meta : StandardVariable → Meta
standard_meta v = if is_standard standard.CitationLabel v then of_citation_label else of_text

abbrev pub numeral_meta : NumberOrPageVariable → Meta
numeral_meta (number_or_page.Number v) = if sameb the_number v CitationNumber then of_citation_number else of_text
numeral_meta (number_or_page.Page v) = of_text

abbrev pub resolved_meta : ResolvedText → Option Meta
resolved_meta (standard_text v cs) = Some (standard_meta v)
resolved_meta (number_result v n) = Some (numeral_meta v)
resolved_meta (term bs) = None
resolved_meta (value bs) = None

-- the body of an answer: a link to its address if it has one, else its chunks
abbrev pub answer_body : Option (List ℕ) → Bool → Inherited → List Chunk → List Token
answer_body (Some p) begins inh cs = link_in inh (if begins then p ++ chunks_text cs else chunks_text cs) (p ++ chunks_text cs)
answer_body None begins inh cs = chunks_in inh cs

abbrev pub resolved_body : StyleParts → TextDressing → Inherited → ResolvedText → List Token
resolved_body style d inh (standard_text v cs) = answer_body (address_prefix v) (begins_link d v) inh cs
resolved_body style d inh (number_result v n) = shown_in inh (text_node_text style n)
resolved_body style d inh (term bs) = text_in inh bs
resolved_body style d inh (value bs) = text_in inh bs

abbrev pub resolved_content : RenderInput → TextDressing → Inherited → Option ResolvedText → List Token
resolved_content w d inh None = []
resolved_content w d inh (Some f) = text_box w.style (resolved_affixes d f) d (resolved_meta f) inh (resolved_body w.style d (in_body d inh) f)

-- no name and no date is looked up
abbrev pub state_after_text_resolve : Variable → State → State
state_after_text_resolve (variable.Standard v) s = state_after_resolve (variable.Standard v) s
state_after_text_resolve (variable.Number v) s = state_after_resolve (variable.Number v) s
state_after_text_resolve (variable.Page v) s = state_after_resolve (variable.Page v) s
state_after_text_resolve (variable.Name v) s = s
state_after_text_resolve (variable.Date v) s = s

-- a text that the form shows looks its variable up for printing, whatever it resolves to
abbrev pub variable_state : RenderInput → Variable → State → State
variable_state w v s = if shows_variable w.instance.special v then state_after_text_resolve v s else s

abbrev pub target_state : RenderInput → Target → State → State
target_state w (of_variable v form) s = variable_state w v s
target_state w (of_term t form plural) s = s
target_state w (of_value bs) s = s

abbrev pub text_output : RenderInput → Target → TextDressing → Inherited → State → RenderOutput
text_output w t d inh s = render_output (resolved_content w d inh (resolved_text w s t)) (target_state w t s)

-- ---- resolved texts of the code

-- a resolved text of the code, as plain data
abbrev pub resolved_view : declared.ResolvedText → ResolvedText
resolved_view (of_found.StandardText v found) = standard_text v (cow_view chunks found)
resolved_view (of_found.NumberResult v found) = number_result v (number_or_page_view found)
resolved_view (of_found.Term words) = term words.now
resolved_view (of_found.Value words) = value words.now
