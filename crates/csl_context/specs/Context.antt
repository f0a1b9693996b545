-- Rendering reads and writes a context. Its record has the fixed values (style, scope, entry,
-- citation state, sorting, special form), the open parts, the inherited values, the state, and
-- whether it has failed. Each call is one equation on the whole record, so a field that it does not
-- name stays unchanged.
-- - Elements, the content between affixes and the inside of quotes are *open parts*, and the root
--   is always open. Text goes into the innermost part. The *mark* of a part is the number of open
--   parts around it, not counting the root. A call closes the innermost part by its mark
--   (`IsInnermost`). A closed part becomes an element (nothing if it is empty), or joins the part
--   around it as it is, between affixes or in quotes, or is dropped. Opening and closing leave
--   everything else unchanged (`with_part`, `close_part_by`). No contract mentions how a part is
--   stored.
-- - `ensure_space` writes a space unless the leaf text of the innermost part is empty or ends in
--   white space (`with_space`).
-- - A call ends as its clause states, or it fails. One predicate covers both: `Runs`; `Reads` for a
--   call that reads a value and changes nothing; `Looks` for a lookup on a shared context. `Ok`:
--   the context had not failed, and is as stated (`Becomes`). `Memory`: it had not failed and has
--   failed now; the fixed values are unchanged (`Frame`), and the rest may be anything. `Failed`:
--   it had failed already, and nothing changes (`FailsAs`). A shared lookup that returns `Memory`
--   leaves the context unchanged. The pops of inherited values and `discard_elem` return nothing,
--   and do not change a failed context.
-- - In every context each open part holds a content in which no text, markup or link is empty and
--   no element is without children (`HasContents`).
-- - An error has a text (`error_text`).
use Rattle.std.specs.Prelude.{◌≡◌, ℕ, ◌+◌, Bool, true, false, not, List, [], ◌∷◌, length, Option, Some, None, Result, IfOk, MatchResult, ⊤, codes}
use Rattle.std.specs.Bool.{OnFalse}
use Rattle.std.specs.Option.{option_or}
use Rattle.csl_elements.specs.declared.formatting.Formatting as partial
use Rattle.csl_style.specs.declared.style.settings.Scope.{Scope}
use Rattle.csl_elements.specs.declared.taxonomy.Variable.{Variable}
use Rattle.csl_elements.specs.NamesOptions.{PartialOptions, apply_options}
use Rattle.csl_elements.specs.VariableSet.{no_variables}
use Rattle.csl_style.specs.Scopes.{base_options}
use Rattle.csl_style.specs.Style.{StyleParts}
use Rattle.csl_tree.specs.declared.formatting.Formatting.{Formatting}
use Rattle.csl_tree.specs.Formatting.{apply_formatting, default_formatting}
use Rattle.csl_tree.specs.Tokens.{Token}
use Rattle.csl_tree.specs.Content.{◌++>◌, IsContent}
use Rattle.csl_tree.specs.Flat.{OpenParts}
use Rattle.csl_entry.specs.declared.citation.cite.Sorting.{Sorting}
use Rattle.csl_entry.specs.declared.citation.cite.SpecialForm.{SpecialForm}
use Rattle.csl_entry.specs.Answers.{Answers}
use Rattle.csl_entry.specs.Cite.{CiteState}
use Rattle.csl_entry.specs.NameProperties.{NameProperties}
use Rattle.csl_entry.specs.Instance.{Instance}
use Rattle.csl_context.specs.State.{State, Inherited, state_after_resolve, with_node_formatting}
use Rattle.csl_context.specs.Quotes.{quoted_content}
use Rattle.csl_context.specs.Texts.{text_in, wanted_space}
use Rattle.csl_context.specs.RenderInput.{RenderInput}
use Rattle.csl_context.specs.declared.error.RenderError.{RenderError}
use Rattle.csl_context.specs.declared.error.RenderError.TheVariants.{Memory, Failed}

-- The fixed values; the innermost open part; the parts around it, from the inside out; the
-- inherited values; the formattings, the delimiters and the options under them, from the inside
-- out; the state; whether the context has failed.
pub record ContextView (T : Type 0) : Type 0 where
  pub style : StyleParts
  pub scope : Scope
  pub entry : T
  pub cite : CiteState
  pub sorting : Option Sorting
  pub special : Option SpecialForm
  pub inner : List Token
  pub outer : List (List Token)
  pub inherited : Inherited
  pub formats : List Formatting
  pub delimiters : List (Option (List ℕ))
  pub options : List PartialOptions
  pub state : State
  pub failed : Bool

abbrev pub instance_in : {T : Type 0} → (T → Answers) → ContextView T → Instance
instance_in answers now = record {
  answers = answers now.entry;
  cite = now.cite;
  sorting = now.sorting;
  special = now.special;
}

abbrev pub render_input : {T : Type 0} → (T → Answers) → ContextView T → RenderInput
render_input answers now = record { style = now.style; scope = now.scope; instance = instance_in answers now }

-- ---- a new context

abbrev pub initial_state : State
initial_state = record { suppressed = no_variables; suppressing = false; first_date_seen = false; first_names = None }

abbrev pub base_inherited : StyleParts → Scope → Inherited
base_inherited style scope = record {
  formatting = default_formatting;
  delimiter = None;
  options = base_options scope style.settings;
  in_quotes = false;
  strip_periods = false;
}

-- the context at the beginning of a rendering, with nothing written
abbrev pub new_context : {T : Type 0} → StyleParts → Scope → T → CiteState → Option Sorting → Option SpecialForm → State → ContextView T
new_context style scope entry cite sorting special state = record {
  style = style;
  scope = scope;
  entry = entry;
  cite = cite;
  sorting = sorting;
  special = special;
  inner = [];
  outer = [];
  inherited = base_inherited style scope;
  formats = [];
  delimiters = [];
  options = [];
  state = state;
  failed = false;
}

-- ---- outcomes of a call

-- the fixed values of a context, which no call changes
pub record Frame (T : Type 0) : Type 0 where
  pub style : StyleParts
  pub scope : Scope
  pub entry : T
  pub cite : CiteState
  pub sorting : Option Sorting
  pub special : Option SpecialForm

abbrev pub frame : {T : Type 0} → ContextView T → Frame T
frame now = record {
  style = now.style;
  scope = now.scope;
  entry = now.entry;
  cite = now.cite;
  sorting = now.sorting;
  special = now.special;
}

-- A call failed. `Memory`: the context had not failed, fails now and keeps its fixed values.
-- `Failed`: it had failed already, and nothing changes.
abbrev pub FailsAs : {T : Type 0} → RenderError → ContextView T → ContextView T → Type 0
FailsAs Memory old new = (old.failed ≡ false) × (new.failed ≡ true) × (frame new ≡ frame old)
FailsAs Failed old new = (old.failed ≡ true) × (new ≡ old)

-- The context had not failed, and the call turned it into the wanted one.
pub record Becomes {T : Type 0} (wanted : ContextView T → ContextView T) (old new : ContextView T) : Type 0 where
  pub was_live : old.failed ≡ false
  pub becomes : new ≡ wanted old

-- A call changes a context by `f`, or it fails.
abbrev pub Runs : {T R : Type 0} → (ContextView T → ContextView T) → Result R RenderError → ContextView T → ContextView T → Type 0
Runs f result old new = MatchResult result (λ _. Becomes f old new) (λ e. FailsAs e old new)

-- If a call returns a value, the view of that value is the wanted one.
abbrev pub GivesBy : {R E V : Type 0} → (R → V) → Result R E → V → Type 0
GivesBy view result wanted = IfOk result (λ value. view value ≡ wanted)

-- If a call returns a value, it is the wanted one.
abbrev pub Gives : {V E : Type 0} → Result V E → V → Type 0
Gives result wanted = IfOk result (λ value. value ≡ wanted)

-- The context had not failed. The call read the wanted value and left the context unchanged.
pub record ReadsAs {R V T : Type 0} (view : R → V) (answer : R) (wanted : V) (old new : ContextView T) : Type 0 where
  pub value : view answer ≡ wanted
  pub was_live : old.failed ≡ false
  pub kept : new ≡ old

-- A call reads the wanted value and leaves the context unchanged, or it fails.
abbrev pub Reads : {R V T : Type 0} → (R → V) → Result R RenderError → V → ContextView T → ContextView T → Type 0
Reads view result wanted old new = MatchResult result (λ answer. ReadsAs view answer wanted old new) (λ e. FailsAs e old new)

-- A lookup on a shared context failed. The context stays unchanged, and the caller has to fail it.
abbrev pub FailsSilently : {T : Type 0} → RenderError → ContextView T → Type 0
FailsSilently e now = FailsAs e now (record now { failed = true })

-- A lookup on a shared context reads the wanted value, or it fails.
abbrev pub Looks : {R V T : Type 0} → (R → V) → Result R RenderError → V → ContextView T → Type 0
Looks view result wanted now = MatchResult result (λ answer. ReadsAs view answer wanted now now) (λ e. FailsSilently e now)

-- The outcome of such a lookup, with any value.
abbrev pub IsSilent : {R T : Type 0} → Result R RenderError → ContextView T → Type 0
IsSilent outcome now = MatchResult outcome (λ _. now.failed ≡ false) (λ e. FailsSilently e now)

-- The mark is that of the innermost open part, or the context has failed. The parts in `outer`
-- include the root, which no mark counts.
abbrev pub IsInnermost : {T : Type 0} → ℕ → ContextView T → Type 0
IsInnermost mark now = OnFalse now.failed (length now.outer ≡ mark + 1)

-- ---- writing

abbrev pub same_context : {T : Type 0} → ContextView T → ContextView T
same_context now = now

-- the context after a content is appended to the innermost part
abbrev pub with_content : {T : Type 0} → (Inherited → List Token) → ContextView T → ContextView T
with_content c now = record now { inner = now.inner ++> c now.inherited }

-- the context after a space, if one is wanted
abbrev pub with_space : {T : Type 0} → ContextView T → ContextView T
with_space now = with_content (λ inh. text_in inh (wanted_space now.inner)) now

-- the context after a space, if one is wanted, in a formatting over the inherited one
abbrev pub with_space_in : {T : Type 0} → partial.Formatting → ContextView T → ContextView T
with_space_in f now = with_content (λ inh. text_in (with_node_formatting f inh) (wanted_space now.inner)) now

-- the context with one more open part
abbrev pub with_part : {T : Type 0} → ContextView T → ContextView T
with_part now = record now { inner = []; outer = now.inner ∷ now.outer }

abbrev pub close_part_into : {T : Type 0} → List Token → ContextView T → List (List Token) → ContextView T
close_part_into content now [] = now
close_part_into content now (part ∷ parts) = record now { inner = part ++> content; outer = parts }

-- the context after the innermost part is closed, and its content, changed by `f`, is appended to
-- the part around it
abbrev pub close_part_by : {T : Type 0} → (Inherited → List Token → List Token) → ContextView T → ContextView T
close_part_by f now = close_part_into (f now.inherited now.inner) now now.outer

-- the content of a dropped part
abbrev pub no_content : Inherited → List Token → List Token
no_content inh c = []

-- the context with the parity of quotes toggled
abbrev pub with_quotes_toggled : {T : Type 0} → ContextView T → ContextView T
with_quotes_toggled now = record now { inherited = record now.inherited { in_quotes = not now.inherited.in_quotes } }

-- the context after the innermost part is closed, and its content is appended in quotes to the part
-- around it
unfoldable pub with_quotes : {T : Type 0} → Option (List ℕ) → ContextView T → ContextView T
with_quotes suffix now = close_part_into (quoted_content now.style now.inherited suffix now.inner) now now.outer

-- ---- inherited values

-- the context with a node's formatting over the inherited one
abbrev pub with_format : {T : Type 0} → partial.Formatting → ContextView T → ContextView T
with_format f now = record now {
  inherited = record now.inherited { formatting = apply_formatting f now.inherited.formatting };
  formats = now.inherited.formatting ∷ now.formats;
}

abbrev pub restore_format : {T : Type 0} → ContextView T → List Formatting → ContextView T
restore_format now [] = now
restore_format now (f ∷ fs) = record now { inherited = record now.inherited { formatting = f }; formats = fs }

abbrev pub without_format : {T : Type 0} → ContextView T → ContextView T
without_format now = restore_format now now.formats

-- the context in which a node's formatting is over the inherited one; `formats` stays, since the
-- caller keeps the inherited one
abbrev pub in_format : {T : Type 0} → partial.Formatting → ContextView T → ContextView T
in_format f now = record now { inherited = with_node_formatting f now.inherited }

-- the context in which this formatting is inherited
abbrev pub with_inherited_format : {T : Type 0} → Formatting → ContextView T → ContextView T
with_inherited_format f now = record now { inherited = record now.inherited { formatting = f } }

-- the context with this delimiter, or none, instead of the inherited one
abbrev pub with_delimiter : {T : Type 0} → Option (List ℕ) → ContextView T → ContextView T
with_delimiter d now = record now {
  inherited = record now.inherited { delimiter = d };
  delimiters = now.inherited.delimiter ∷ now.delimiters;
}

abbrev pub restore_delimiter : {T : Type 0} → ContextView T → List (Option (List ℕ)) → ContextView T
restore_delimiter now [] = now
restore_delimiter now (d ∷ ds) = record now { inherited = record now.inherited { delimiter = d }; delimiters = ds }

abbrev pub without_delimiter : {T : Type 0} → ContextView T → ContextView T
without_delimiter now = restore_delimiter now now.delimiters

-- the context in which this delimiter, or none, is inherited; `delimiters` stays, since the caller
-- keeps the one before
abbrev pub with_inherited_delimiter : {T : Type 0} → Option (List ℕ) → ContextView T → ContextView T
with_inherited_delimiter d now = record now { inherited = record now.inherited { delimiter = d } }

-- the context with a node's options of names over the inherited ones
abbrev pub with_options : {T : Type 0} → PartialOptions → ContextView T → ContextView T
with_options o now = record now {
  inherited = record now.inherited { options = apply_options o now.inherited.options };
  options = now.inherited.options ∷ now.options;
}

abbrev pub restore_options : {T : Type 0} → ContextView T → List PartialOptions → ContextView T
restore_options now [] = now
restore_options now (o ∷ os) = record now { inherited = record now.inherited { options = o }; options = os }

abbrev pub without_options : {T : Type 0} → ContextView T → ContextView T
without_options now = restore_options now now.options

abbrev pub with_stripping : {T : Type 0} → Bool → ContextView T → ContextView T
with_stripping on now = record now { inherited = record now.inherited { strip_periods = on } }

-- ---- the state

-- the context after a lookup for printing
abbrev pub after_resolve : {T : Type 0} → Variable → ContextView T → ContextView T
after_resolve v now = record now { state = state_after_resolve v now.state }

abbrev pub with_switch : {T : Type 0} → Bool → ContextView T → ContextView T
with_switch on now = record now { state = record now.state { suppressing = on } }

abbrev pub with_first_date : {T : Type 0} → ContextView T → ContextView T
with_first_date now = record now { state = record now.state { first_date_seen = true } }

-- the context with these first names, unless it keeps some already
abbrev pub with_first_names : {T : Type 0} → NameProperties → ContextView T → ContextView T
with_first_names p now = record now { state = record now.state { first_names = option_or now.state.first_names (Some p) } }

-- ---- the contents of open parts

-- each of them is a content
abbrev pub AreContents : List (List Token) → Type 0
AreContents [] = ⊤
AreContents (c ∷ cs) = IsContent c × AreContents cs

-- the innermost open part and those around it hold contents
abbrev pub HasContents : OpenParts → Type 0
HasContents p = IsContent p.inner × AreContents p.outer

-- ---- errors

-- the text that `Display` writes for each error
abbrev pub error_text : RenderError → List ℕ
error_text Memory = codes "out of memory"
error_text Failed = codes "the context had failed before"
