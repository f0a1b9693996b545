-- A *plan* is the result of a dry run for a node and for the nodes inside it. By its plan a node is
-- rendered without another dry run (CSL 1.0.2, Group). A dry run reads two things of a state
-- (`state_for_dry_run`): the suppressed variables and, under two special forms, whether a date was
-- rendered. A result has the set of the variables that its dry run read. It is the same in each
-- state that agrees on them and on the date (`AreAlikeOn`). So a variable that names in a
-- substitute suppress ends the plans of the nodes that read it, and leaves those whose set is
-- without it. In a cite that suppresses the author a result also tells whether the node shows the
-- author (`TellsAuthor`): names that do are refused. All results of a dry run stand in one list, in
-- the order of the nodes: each before those for the nodes inside its node. The results for a list
-- of nodes may break off. The nodes after its end have no plan. A dry run is *whole* if it tells
-- all flags. One for a plan may leave out some nodes, and tells what groups count (`CountsAs`). Only
-- private contracts cite these definitions.
use Rattle.std.specs.Prelude.{◌≡◌, ◌≤◌, ⊤, ℕ, zero, suc, Bool, true, false, ◌&&◌, ◌||◌, List, [], ◌∷◌, length, take, drop, Option, Some, None, if◌then◌else◌}
use Rattle.std.specs.Bool.{MatchBool}
use Rattle.csl_elements.specs.declared.element.Choose.{Choose, out-Choose}
use Rattle.csl_elements.specs.declared.element.Names.{Names}
use Rattle.csl_elements.specs.declared.taxonomy.Variable.{Variable}
use Rattle.csl_elements.specs.declared.taxonomy.Variable.TheVariants as variable
use Rattle.csl_elements.specs.declared.variable_set.VariableSet.{VariableSet}
use Rattle.csl_elements.specs.Node as node
use Rattle.csl_elements.specs.Node.{Tests, Node, Nodes, Branches, no_branches, otherwise, branch, ExpandedNode, expanded_text, expanded_macro, unknown_macro, expanded_number, expanded_label, expanded_date, expanded_names, shorthand, expanded_choose, expanded_group, ExpandedNodes, no_expanded_nodes, expanded_node, ExpandedBranches, no_expanded_branches, expanded_otherwise, expanded_branch, ExpandedSubstitutes, no_expanded_substitutes, expanded_substitute}
use Rattle.csl_elements.specs.VariableSet.{has, Has}
use Rattle.csl_elements.specs.View.{view_branch}
use Rattle.csl_style.specs.Expanded.{expanded, expanded_nodes}
use Rattle.csl_entry.specs.declared.citation.cite.SpecialForm.{SpecialForm}
use Rattle.csl_entry.specs.declared.citation.cite.SpecialForm.TheVariants.{VarOnly, OnlyFirstDate, OnlyYearSuffix, SuppressAuthor}
use Rattle.csl_entry.specs.Alike.{Each}
use Rattle.csl_entry.specs.Answers.{Answers}
use Rattle.csl_context.specs.State.{State, is_suppressed}
use Rattle.csl_context.specs.RenderInput.{RenderInput}
use Rattle.csl_context.specs.Context.{ContextView, render_input}
use Rattle.csl_nodes.specs.Condition.{all_if, branch_matches}
use Rattle.csl_nodes.specs.Usage.{usage_flags, Info, info_of, without_group_flag}
use Rattle.csl_render.specs.declared.plan.OwnedPlan.{OwnedPlan}
use Rattle.csl_render.specs.declared.plan.DryState.{DryState}
use Rattle.csl_render.specs.declared.plan.ListPlan.{ListPlan}
use Rattle.csl_render.specs.declared.plan.NodeInfo.{NodeInfo}
use Rattle.csl_render.specs.declared.plan.NodePlan.{NodePlan}
use Rattle.csl_render.specs.declared.plan.PlanItem.{PlanItem}
use Rattle.csl_render.specs.Flags.{info_of_flags}
use Rattle.csl_render.specs.Expanded.{expanded_substitutes}
use Rattle.csl_render.specs.Names.{author}
use Rattle.csl_render.specs.Tree.{info, nodes_info, substitute_info, shows, any_shows, substitute_shows}

-- ---- what dry runs read of a state

-- the special forms that ask whether a date was rendered
abbrev pub asks_for_dates : Option SpecialForm → Bool
asks_for_dates None = false
asks_for_dates (Some (VarOnly v)) = false
asks_for_dates (Some OnlyFirstDate) = true
asks_for_dates (Some OnlyYearSuffix) = true
asks_for_dates (Some SuppressAuthor) = false

-- whether the dry run is whole, the set of the suppressed variables, and whether a date was rendered,
-- if dry runs ask
pub record DryView : Type 0 where
  pub whole : Bool
  pub suppressed : Variable → Bool
  pub first_date_seen : Bool

abbrev pub state_for_dry_run : Bool → Option SpecialForm → State → DryView
state_for_dry_run whole special s = record {
  whole = whole;
  suppressed = s.suppressed;
  first_date_seen = asks_for_dates special && s.first_date_seen;
}

abbrev pub dry_view : DryState → DryView
dry_view d = record { whole = false; suppressed = has d.suppressed; first_date_seen = d.first_date_seen }

-- both states suppress the same of these variables
abbrev pub AreSuppressedAlike : VariableSet → State → State → Type 0
AreSuppressedAlike read s t = (v : Variable) → Has read v → is_suppressed s v ≡ is_suppressed t v

-- dry runs that read these variables read `d` of the state
abbrev pub AreAlikeOn : RenderInput → VariableSet → DryView → State → Type 0
AreAlikeOn w read d s = (d.first_date_seen ≡ (state_for_dry_run d.whole w.instance.special s).first_date_seen) × ((v : Variable) → Has read v → d.suppressed v ≡ is_suppressed s v)

-- the set has the variables that the tests of a branch, or of a choice, look up
abbrev pub HasTested : VariableSet → Tests → Type 0
HasTested read ts = Each (Has read) (all_if ts.is_numeric) × Each (λ v. Has read (variable.Date v)) (all_if ts.is_uncertain_date) × Each (Has read) (all_if ts.variable)

abbrev pub HasAllTested : VariableSet → Choose → Type 0
HasAllTested read c = HasTested read (view_branch (out-Choose c).if_).tests × Each (λ b. HasTested read (view_branch b).tests) (out-Choose c).else_if.items

-- the special form that refuses names that show the author
abbrev pub asks_for_author : Option SpecialForm → Bool
asks_for_author None = false
asks_for_author (Some (VarOnly v)) = false
asks_for_author (Some OnlyFirstDate) = false
asks_for_author (Some OnlyYearSuffix) = false
asks_for_author (Some SuppressAuthor) = true

-- a dry run tells whether nodes show the author, if the special form asks
abbrev pub TellsAuthor : RenderInput → Bool → Bool → Type 0
TellsAuthor w told shown = asks_for_author w.instance.special ≡ true → told ≡ shown

-- ---- what a dry run leaves out
-- Once children of a substitute print and have a variable that is not empty, a dry run for a plan
-- leaves out those after them. These could only add that a text of a macro prints. No group asks
-- for that if a variable is not empty.

-- a result as groups count it
abbrev pub as_counted : Info → Info
as_counted i = info_of i.prints (usage_flags i.flags.has_vars i.flags.has_non_empty_vars (i.flags.has_non_empty_vars || i.flags.has_used_macros) i.flags.has_non_empty_group)

-- what a dry run tells of a result
abbrev pub counted : Bool → Info → Info
counted true i = i
counted false i = as_counted i

-- a dry run gives the one result where the other is right
abbrev pub CountsAs : Bool → Info → Info → Type 0
CountsAs whole given i = counted whole given ≡ counted whole i

-- ---- the branch that a choice takes
-- A branch is told by the number of branches with conditions before it. The `else` is after all of
-- them.

abbrev pub branch_at : Branches → ℕ → Option Nodes
branch_at no_branches i = None
branch_at (otherwise ns) i = Some ns
branch_at (branch ts ns bs) zero = Some ns
branch_at (branch ts ns bs) (suc i) = branch_at bs i

-- the nodes of a branch of a choice, if it has it
abbrev pub nodes_of_branch : Node → ℕ → Option Nodes
nodes_of_branch (node.text t d) i = None
nodes_of_branch (node.call name d) i = None
nodes_of_branch (node.number n) i = None
nodes_of_branch (node.label v l) i = None
nodes_of_branch (node.date d) i = None
nodes_of_branch (node.names n ss) i = None
nodes_of_branch (node.choose bs) i = branch_at bs i
nodes_of_branch (node.group delimiter d ns) i = None

abbrev pub expanded_branch_at : ExpandedBranches → ℕ → Option ExpandedNodes
expanded_branch_at no_expanded_branches i = None
expanded_branch_at (expanded_otherwise fs) i = Some fs
expanded_branch_at (expanded_branch ts fs cs) zero = Some fs
expanded_branch_at (expanded_branch ts fs cs) (suc i) = expanded_branch_at cs i

-- the nodes that a choice takes in a state, if it takes any
abbrev pub taken_nodes : RenderInput → State → ExpandedBranches → Option ExpandedNodes
taken_nodes w s no_expanded_branches = None
taken_nodes w s (expanded_otherwise fs) = Some fs
taken_nodes w s (expanded_branch ts fs cs) = if branch_matches w s ts then Some fs else taken_nodes w s cs

-- a choice takes the nodes of this branch; other nodes have no branch
abbrev pub TakesBranch : RenderInput → State → ExpandedNode → ℕ → Type 0
TakesBranch w s (expanded_text t e) i = ⊤
TakesBranch w s (expanded_macro fs e) i = ⊤
TakesBranch w s unknown_macro i = ⊤
TakesBranch w s (expanded_number n) i = ⊤
TakesBranch w s (expanded_label v l) i = ⊤
TakesBranch w s (expanded_date n) i = ⊤
TakesBranch w s (expanded_names n ss) i = ⊤
TakesBranch w s (shorthand written n) i = ⊤
TakesBranch w s (expanded_choose cs) i = expanded_branch_at cs i ≡ taken_nodes w s cs
TakesBranch w s (expanded_group delimiter e fs) i = ⊤

-- ---- the results for a node and for the nodes inside it

abbrev pub answer_of : NodeInfo → Info
answer_of i = info_of_flags i.flags

-- `d` is what the dry runs read of their state
module _ (w : RenderInput) (d : DryView) where
  abbrev mutual
    -- The items for the nodes inside a node, in a state in which they hold: the children of a group,
    -- the nodes of a macro, the nodes that a choice takes, and the children of the first substitute
    -- of names.
    pub AreItemsInside : State → ExpandedNode → List PlanItem → Type 0
    AreItemsInside s (expanded_text t e) is = ⊤
    AreItemsInside s (expanded_macro fs e) is = AreItems fs is
    AreItemsInside s unknown_macro is = ⊤
    AreItemsInside s (expanded_number n) is = ⊤
    AreItemsInside s (expanded_label v l) is = ⊤
    AreItemsInside s (expanded_date n) is = ⊤
    AreItemsInside s (expanded_names n ss) is = AreItemsOfSubstitutes ss is
    AreItemsInside s (shorthand written n) is = ⊤
    AreItemsInside s (expanded_choose cs) is = AreItemsOfBranches s cs is
    AreItemsInside s (expanded_group delimiter e fs) is = AreItems fs is

    -- Each node has its result, then the items for the nodes inside it. The last nodes may have
    -- none.
    pub AreItems : ExpandedNodes → List PlanItem → Type 0
    AreItems no_expanded_nodes is = ⊤
    AreItems (expanded_node f fs) [] = ⊤
    AreItems (expanded_node f fs) (i ∷ is) =
        (i.descendants ≤ length is)
        × ((s : State) → AreAlikeOn w i.info.variables_read d s → CountsAs d.whole (answer_of i.info) (info w s f) × TellsAuthor w i.info.shows_author (shows w s author f) × AreItemsInside s f (take i.descendants is) × TakesBranch w s f i.info.branch)
        × AreItems fs (drop i.descendants is)

    pub AreItemsOfBranches : State → ExpandedBranches → List PlanItem → Type 0
    AreItemsOfBranches s no_expanded_branches is = ⊤
    AreItemsOfBranches s (expanded_otherwise fs) is = AreItems fs is
    AreItemsOfBranches s (expanded_branch ts fs cs) is = MatchBool (branch_matches w s ts) (AreItems fs is) (AreItemsOfBranches s cs is)

    pub AreItemsOfSubstitutes : ExpandedSubstitutes → List PlanItem → Type 0
    AreItemsOfSubstitutes no_expanded_substitutes is = ⊤
    AreItemsOfSubstitutes (expanded_substitute fs ss) is = AreItems fs is

  -- the items for the nodes that a choice takes, if it takes any, or for those of a substitute
  abbrev pub AreItemsIfTaken : Option ExpandedNodes → List PlanItem → Type 0
  AreItemsIfTaken None is = ⊤
  AreItemsIfTaken (Some fs) is = AreItems fs is

  -- the result for a node, and the items for the nodes inside it
  abbrev pub IsInfo : ExpandedNode → NodeInfo → List PlanItem → Type 0
  IsInfo f i is = (s : State) → AreAlikeOn w i.variables_read d s → CountsAs d.whole (answer_of i) (info w s f) × TellsAuthor w i.shows_author (shows w s author f) × AreItemsInside s f is × TakesBranch w s f i.branch

  -- the result for nodes together, and the items for each
  abbrev pub IsInfoOfNodes : ExpandedNodes → NodeInfo → List PlanItem → Type 0
  IsInfoOfNodes fs i is = ((s : State) → AreAlikeOn w i.variables_read d s → CountsAs d.whole (answer_of i) (nodes_info w s fs) × TellsAuthor w i.shows_author (any_shows w s author fs)) × AreItems fs is

  -- the result for children of a substitute together, but for the group flag, and the items for each
  abbrev pub IsInfoOfTried : ExpandedNodes → NodeInfo → List PlanItem → Type 0
  IsInfoOfTried fs i is =
      ((s : State) → AreAlikeOn w i.variables_read d s → CountsAs d.whole (without_group_flag (answer_of i)) (without_group_flag (nodes_info w s fs)) × TellsAuthor w i.shows_author (any_shows w s author fs)) × AreItems fs is

  -- the result for substitutes, and the items for the children of the first
  abbrev pub IsInfoOfSubstitutes : ExpandedSubstitutes → NodeInfo → List PlanItem → Type 0
  IsInfoOfSubstitutes ss i is = ((s : State) → AreAlikeOn w i.variables_read d s → CountsAs d.whole (answer_of i) (substitute_info w s ss) × TellsAuthor w i.shows_author (substitute_shows w s author ss)) × AreItemsOfSubstitutes ss is

-- ---- plans

-- a plan of a list of nodes; it may not hold for the state any more
abbrev pub ArePlans : RenderInput → ExpandedNodes → ListPlan → Type 0
ArePlans w fs p = AreItems w (dry_view p.at.now) fs p.items.now

-- a plan of a node that holds for a state
abbrev pub IsPlan : RenderInput → State → ExpandedNode → NodePlan → Type 0
IsPlan w s f p = CountsAs false (info_of_flags p.flags) (info w s f) × TellsAuthor w p.shows_author (shows w s author f) × AreItemsInside w (dry_view p.inside.at.now) s f p.inside.items.now × TakesBranch w s f p.branch

-- a plan of a node with plans of the nodes inside: of these, or of the first of these substitutes
abbrev pub HasPlans : RenderInput → ExpandedNodes → NodePlan → Type 0
HasPlans w fs p = ArePlans w fs p.inside

abbrev pub HasPlansOfSubstitutes : RenderInput → ExpandedSubstitutes → NodePlan → Type 0
HasPlansOfSubstitutes w ss p = AreItemsOfSubstitutes w (dry_view p.inside.at.now) ss p.inside.items.now

-- ---- plans in a context

-- what dry runs for a plan read of the state of a context
abbrev pub dry_now : {T : Type 0} → ContextView T → DryView
dry_now now = state_for_dry_run false now.special now.state

module _ {T : Type 0} (answers : T → Answers) (now : ContextView T) where
  -- what a dry run of a node gives a plan that holds
  abbrev pub IsDryRun : ExpandedNode → OwnedPlan → Type 0
  IsDryRun f r =
      CountsAs false (info_of_flags r.flags) (info (render_input answers now) now.state f)
      × TellsAuthor (render_input answers now) r.shows_author (shows (render_input answers now) now.state author f)
      × AreItemsInside (render_input answers now) (dry_view r.at) now.state f r.inside.items
      × TakesBranch (render_input answers now) now.state f r.branch

  abbrev pub IsDryRunOf : Node → OwnedPlan → Type 0
  IsDryRunOf n = IsDryRun (expanded now.style n)

  abbrev pub TellsAuthorOf : Node → Bool → Type 0
  TellsAuthorOf n told = TellsAuthor (render_input answers now) told (shows (render_input answers now) now.state author (expanded now.style n))

  abbrev pub IsPlanOf : Node → NodePlan → Type 0
  IsPlanOf n p = IsPlan (render_input answers now) now.state (expanded now.style n) p

  abbrev pub HasPlansOf : Nodes → NodePlan → Type 0
  HasPlansOf ns p = HasPlans (render_input answers now) (expanded_nodes now.style ns) p

  abbrev pub HasPlansWithin : Names → NodePlan → Type 0
  HasPlansWithin n p = HasPlansOfSubstitutes (render_input answers now) (expanded_substitutes now.style n) p
