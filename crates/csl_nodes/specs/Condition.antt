-- The tests of a branch (CSL 1.0.2, Choose) are one list of booleans, one for each test, in the
-- order disambiguate, is-numeric, is-uncertain-date, locator, position, type, variable
-- (`conditions`). A match combines them, and a choice takes the nodes of the first branch whose
-- match holds. Each lookup is silent, and in the long form.
use Rattle.std.specs.Prelude.{Bool, true, false, not, ◌==◌, List, [], ◌∷◌, ◌++◌, map, length, Option, Some, None, is_some, chars, if◌then◌else◌}
use Rattle.std.specs.Bool.{beq}
use Rattle.std.specs.List.{list_all, list_any}
use denote.Enum.Bare.{sameb}
use Rattle.lit_model.specs.Chunks.{chunks_text, is_white_space}
use Rattle.lit_model.specs.MaybeTyped.{MaybeView, typed, text}
use Rattle.lit_model.specs.NumericParse.{numeric_from}
use Rattle.lit_model.specs.Text.{Chunk}
use Rattle.csl_common.specs.declared.form.LongShortForm.TheVariants.{Long}
use Rattle.csl_elements.specs.declared.element.ChooseMatch.{ChooseMatch}
use Rattle.csl_elements.specs.declared.element.ChooseMatch.TheVariants as matched
use Rattle.csl_elements.specs.declared.element.TestPosition.{TestPosition}
use Rattle.csl_elements.specs.declared.element.TestPosition.TheVariants.{First, Subsequent, Ibid, IbidWithLocator, NearNote}
use Rattle.csl_style.specs.declared.style.settings.Scope.{Scope}
use Rattle.csl_style.specs.declared.style.settings.Scope.TheVariants.{Citation, Bibliography}
use Rattle.csl_elements.specs.declared.taxonomy.DateVariable.{DateVariable}
use Rattle.csl_elements.specs.declared.taxonomy.Kind.{Kind}
use Rattle.csl_elements.specs.declared.taxonomy.Locator.{Locator}
use Rattle.csl_elements.specs.declared.taxonomy.Variable.{Variable}
use Rattle.csl_elements.specs.declared.taxonomy.Variable.TheVariants as variable
use Rattle.csl_elements.specs.contracts.taxonomy.Locator.{the_type as the_locator}
use Rattle.csl_elements.specs.Node.{Tests, Node, Nodes, Branches, no_branches, otherwise, branch}
use Rattle.csl_elements.specs.Node as node
use Rattle.csl_entry.specs.declared.citation.cite.IbidState.{IbidState}
use Rattle.csl_entry.specs.declared.citation.cite.IbidState.TheVariants as ibid
use Rattle.csl_entry.specs.Cite.{CiteState}
use Rattle.csl_entry.specs.NumberResult.{ResultView, regular, transparent}
use Rattle.csl_context.specs.State.{State}
use Rattle.csl_context.specs.RenderInput.{RenderInput, should_disambiguate, peek_number, peek_page, peek_standard, peek_names, peek_date}
use Rattle.csl_nodes.specs.declared.branch_conditions.BranchConditionPos.{BranchConditionPos}
use Rattle.csl_nodes.specs.declared.branch_conditions.BranchConditionPos.TheVariants as arm

-- ---- one test
-- - *disambiguate* compares the wanted boolean with whether the citation state asks for such
--   branches.
-- - A standard variable *is numeric* if its text spells a number, and a number or pages are if they
--   were parsed. A date, a name and a place that the caller fills are not numeric. A date *is
--   uncertain* if it is found and approximate.
-- - *locator* holds if the cite points to a part of that kind, suppressed or not.
-- - *position*: first if no cite of the entry comes before; subsequent if one does; ibid if the
--   cite before is of the same entry, with the same locator or another; ibid with locator if the
--   cite has a locator that the one before did not have; near note if the citation state has its
--   flag set. In a bibliography each is false.
-- - *type* holds if it is one of the entry's kinds.
-- - A *variable* is present if it is found: a text with a character that is not white space, names
--   with a person.

abbrev pub is_some_and : {A : Type 0} → (A → Bool) → Option A → Bool
is_some_and p None = false
is_some_and p (Some x) = p x

-- the text spells a number
unfoldable pub is_number : List Chunk → Bool
is_number cs = is_some (numeric_from (chars (chunks_text cs)))

abbrev pub is_typed : {V : Type 0} → MaybeView V → Bool
is_typed (typed v) = true
is_typed (text bs) = false

-- a place that the caller fills is no number
abbrev pub is_typed_result : ResultView → Bool
is_typed_result (regular v) = is_typed v
is_typed_result (transparent i) = false

-- no name and no date is a number
abbrev pub is_numeric : RenderInput → State → Variable → Bool
is_numeric w s (variable.Standard v) = is_some_and is_number (peek_standard w s Long v)
is_numeric w s (variable.Number v) = is_some_and is_typed_result (peek_number w s v)
is_numeric w s (variable.Page v) = is_some_and is_typed (peek_page w s v)
is_numeric w s (variable.Name v) = false
is_numeric w s (variable.Date v) = false

abbrev pub is_uncertain : RenderInput → State → DateVariable → Bool
is_uncertain w s v = is_some_and (λ d. d.approximate) (peek_date w s v)

-- The cite points to a part of that kind. This is not a lookup, so a suppressed locator counts.
abbrev pub is_located : RenderInput → Locator → Bool
is_located w kind = is_some_and (λ place. sameb the_locator place.kind kind) w.instance.cite.locator

abbrev pub is_ibid : IbidState → Bool
is_ibid ibid.Different = false
is_ibid ibid.Ibid = true
is_ibid ibid.IbidWithLocator = true

abbrev pub is_ibid_with_locator : IbidState → Bool
is_ibid_with_locator ibid.Different = false
is_ibid_with_locator ibid.Ibid = false
is_ibid_with_locator ibid.IbidWithLocator = true

abbrev stands_at : CiteState → TestPosition → Bool
stands_at c First = c.is_first
stands_at c Subsequent = not c.is_first
stands_at c Ibid = is_ibid c.ibid
stands_at c IbidWithLocator = is_ibid_with_locator c.ibid
stands_at c NearNote = c.is_near_note

-- In a bibliography each test of a position is false.
abbrev is_positioned_in : Scope → CiteState → TestPosition → Bool
is_positioned_in Citation c p = stands_at c p
is_positioned_in Bibliography c p = false

abbrev pub is_positioned : RenderInput → TestPosition → Bool
is_positioned w p = is_positioned_in w.scope w.instance.cite p

abbrev pub is_of_kind : RenderInput → Kind → Bool
is_of_kind w kind = w.instance.answers.kinds kind

-- a text of white space is not present, nor is an empty list of names
abbrev pub is_present : RenderInput → State → Variable → Bool
is_present w s (variable.Standard v) = is_some_and (λ cs. not (is_white_space cs)) (peek_standard w s Long v)
is_present w s (variable.Number v) = is_some (peek_number w s v)
is_present w s (variable.Page v) = is_some (peek_page w s v)
is_present w s (variable.Name v) = not (length (peek_names w s v) == 0)
is_present w s (variable.Date v) = is_some (peek_date w s v)

-- whether the citation state asks for branches with `disambiguate`, or does not, as wanted
abbrev pub is_disambiguated : RenderInput → Bool → Bool
is_disambiguated w true = should_disambiguate w.instance.cite.disambiguation
is_disambiguated w false = not (should_disambiguate w.instance.cite.disambiguation)

-- ---- the tests of a branch

-- the one item of a test, or all items of a test
abbrev pub one_if : {A : Type 0} → Option A → List A
one_if None = []
one_if (Some x) = x ∷ []

abbrev pub all_if : {A : Type 0} → Option (List A) → List A
all_if None = []
all_if (Some xs) = xs

-- the booleans of the tests of one sort
abbrev pub conditions_at : RenderInput → State → Tests → BranchConditionPos → List Bool
conditions_at w s ts arm.Disambiguate = map (is_disambiguated w) (one_if ts.disambiguate)
conditions_at w s ts arm.IsNumeric = map (is_numeric w s) (all_if ts.is_numeric)
conditions_at w s ts arm.IsUncertainDate = map (is_uncertain w s) (all_if ts.is_uncertain_date)
conditions_at w s ts arm.Locator = map (is_located w) (all_if ts.locator)
conditions_at w s ts arm.Position = map (is_positioned w) (all_if ts.position)
conditions_at w s ts arm.Type_ = map (is_of_kind w) (all_if ts.type_)
conditions_at w s ts arm.Variable = map (is_present w s) (all_if ts.variable)

-- ---- one boolean for each test: those of a sort, and of all later sorts
module _ (w : RenderInput) (s : State) (ts : Tests) where
  abbrev pub of_kinds : List Bool
  of_kinds = conditions_at w s ts arm.Type_ ++ conditions_at w s ts arm.Variable

  abbrev pub of_positions : List Bool
  of_positions = conditions_at w s ts arm.Position ++ of_kinds

  abbrev pub of_locators : List Bool
  of_locators = conditions_at w s ts arm.Locator ++ of_positions

  abbrev pub of_dates : List Bool
  of_dates = conditions_at w s ts arm.IsUncertainDate ++ of_locators

  abbrev pub of_numbers : List Bool
  of_numbers = conditions_at w s ts arm.IsNumeric ++ of_dates

  abbrev pub conditions : List Bool
  conditions = conditions_at w s ts arm.Disambiguate ++ of_numbers

-- whether a test comes out so
abbrev pub has_outcome : Bool → List Bool → Bool
has_outcome outcome bs = list_any (λ b. beq b outcome) bs

-- ---- branches
-- A match holds if all, any or none of the list is true. On an empty list all and none hold, and
-- any does not. A choice *takes* the nodes of the first branch whose list satisfies its match, else
-- those of its `else`, if it has one.

abbrev pub satisfies : ChooseMatch → List Bool → Bool
satisfies matched.All bs = list_all (λ b. b) bs
satisfies matched.Any bs = list_any (λ b. b) bs
satisfies matched.None bs = not (list_any (λ b. b) bs)

-- whether a branch with these tests is taken if no branch before it is
unfoldable pub branch_matches : RenderInput → State → Tests → Bool
branch_matches w s ts = satisfies ts.match_ (conditions w s ts)

-- the nodes of the first branch whose match holds, else those of the `else`, if there is one
abbrev pub chosen_nodes : RenderInput → State → Branches → Option Nodes
chosen_nodes w s no_branches = None
chosen_nodes w s (otherwise ns) = Some ns
chosen_nodes w s (branch ts ns bs) = if branch_matches w s ts then Some ns else chosen_nodes w s bs

abbrev pub chosen_children : RenderInput → State → Node → Option Nodes
chosen_children w s (node.text t d) = None
chosen_children w s (node.call name d) = None
chosen_children w s (node.number n) = None
chosen_children w s (node.label v l) = None
chosen_children w s (node.date d) = None
chosen_children w s (node.names n ss) = None
chosen_children w s (node.choose bs) = chosen_nodes w s bs
chosen_children w s (node.group delimiter d ns) = None
