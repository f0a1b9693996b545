-- Dry runs and queries. A dry run adds its results to a list (`Adds`). Both keep results for macros
-- (CSL 1.0.2, Macro). In one input and state the result for a text that calls a macro depends on the
-- macro's name alone. One result for each name is enough. It is kept by the name, or by the place of
-- the first macro of the name. A dry run keeps the set of the variables that it read, too.
use Rattle.std.specs.Prelude.{◌≡◌, ◌++◌, ℕ, All, Bool, false, not, ◌&&◌, List, Option, Some, None, is_some}
use Rattle.std.specs.BTreeMap.{BTreeMap, get}
use Rattle.std.specs.Ordering.{nat_cmp}
use Rattle.csl_elements.specs.declared.taxonomy.Variable.{Variable}
use Rattle.csl_elements.specs.Node.{ExpandedNodes}
use Rattle.csl_elements.specs.View.{definitions}
use Rattle.csl_style.specs.CallGraph.{name_at}
use Rattle.csl_style.specs.Expanded.{macro_env}
use Rattle.csl_style.specs.Style.{StyleParts}
use Rattle.csl_context.specs.Context.{ContextView}
use Rattle.csl_context.specs.State.{State}
use Rattle.csl_context.specs.RenderInput.{RenderInput}
use Rattle.csl_nodes.specs.Usage.{Info, no_info, without_group_flag, macro_info}
use Rattle.csl_render.specs.declared.dry_run.CallKey.{CallKey}
use Rattle.csl_render.specs.declared.dry_run.CallKey.TheVariants.{Name, Place}
use Rattle.csl_render.specs.declared.dry_run.KeptCall.{KeptCall}
use Rattle.csl_render.specs.declared.plan.NodeInfo.{NodeInfo}
use Rattle.csl_render.specs.declared.plan.PlanItem.{PlanItem}
use Rattle.csl_render.specs.Names.{author}
use Rattle.csl_render.specs.Plan.{DryView, state_for_dry_run, AreAlikeOn, CountsAs, answer_of, TellsAuthor}
use Rattle.csl_render.specs.Tree.{nodes_info, any_shows}

-- the dry run of a text that calls a macro, from the macro's nodes, if the style has it
abbrev pub call_info : RenderInput → State → Option ExpandedNodes → Info
call_info w s None = no_info
call_info w s (Some fs) = macro_info (without_group_flag (nodes_info w s fs))

-- whether a text that calls a macro shows a variable
abbrev pub call_shows : RenderInput → State → Variable → Option ExpandedNodes → Bool
call_shows w s v None = false
call_shows w s v (Some fs) = any_shows w s v fs

-- the nodes that the name of the macro at a place stands for, if there is a place
abbrev pub nodes_at : StyleParts → Option ℕ → Option ExpandedNodes
nodes_at style None = None
nodes_at style (Some place) = macro_env style (name_at (definitions style.macros) place)

-- the nodes that a key stands for
abbrev pub nodes_of : StyleParts → CallKey → Option ExpandedNodes
nodes_of style (Name name) = macro_env style name.now
nodes_of style (Place place) = nodes_at style place

-- a result for a text that calls a macro; `d` is what the dry run read of its state
abbrev pub IsCallInfo : RenderInput → DryView → Option ExpandedNodes → NodeInfo → Type 0
IsCallInfo w d nodes i = (s : State) → AreAlikeOn w i.variables_read d s → CountsAs d.whole (answer_of i) (call_info w s nodes) × TellsAuthor w i.shows_author (call_shows w s author nodes)

-- each result is that of a text that calls the macro of its name
abbrev pub HasListed : RenderInput → DryView → List KeptCall → Type 0
HasListed w d calls = All (λ c. IsCallInfo w d (macro_env w.style c.name.now) c.info) calls

-- each result is that of a text that calls the macro at its place
abbrev pub HasInfos : RenderInput → DryView → BTreeMap ℕ NodeInfo → Type 0
HasInfos w d calls = (place : ℕ) (i : NodeInfo) → get nat_cmp calls place ≡ Some i → IsCallInfo w d (nodes_at w.style (Some place)) i

-- each result is whether a text that calls the macro at its place shows the variable
abbrev pub HasShown : RenderInput → State → Variable → BTreeMap ℕ Bool → Type 0
HasShown w s v calls = (place : ℕ) (shows : Bool) → get nat_cmp calls place ≡ Some shows → shows ≡ call_shows w s v (nodes_at w.style (Some place))

-- a context, and the variable of the query
pub record Query (T : Type 0) : Type 0 where
  pub now : ContextView T
  pub variable : Variable

-- a context, whether the run is whole, and the items of the plan so far
pub record Run (T : Type 0) : Type 0 where
  pub now : ContextView T
  pub whole : Bool
  pub items : List PlanItem

-- what a dry run reads of the state of its context
abbrev pub dry_of : {T : Type 0} → Run T → DryView
dry_of run = state_for_dry_run run.whole run.now.special run.now.state

-- a dry run for a plan may leave nodes out, if there is no special form
abbrev pub may_stop : {T : Type 0} → Run T → Bool
may_stop run = not run.whole && not (is_some run.now.special)

-- the run has more items at the end, of which `P`
pub record Adds {T : Type 0} (P : List PlanItem → Type 0) (old new : Run T) : Type 0 where
  pub more : List PlanItem
  pub added : new ≡ record { now = old.now; whole = old.whole; items = old.items ++ more }
  pub hold : P more
