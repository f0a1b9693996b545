-- Rendering by a plan. The plan of a choice is that of the nodes that it takes. A call by a plan
-- changes the context as the definition states.
use Rattle.std.proofs.Common.{◌≡◌, ℕ, true, false, Option, Some, None, IfSome, Result, Ok, Err, List, option_map, subst, sym, ◌∙◌}
use denote.Bor.{Bor}
use Rattle.csl_elements.specs.declared.element.Choose.{Choose}
use Rattle.csl_elements.specs.declared.element.Names.{Names}
use Rattle.csl_elements.specs.NamesParts.{names_node, names_substitutes, first_substitute}
use Rattle.csl_elements.specs.Node.{Nodes, ExpandedNodes, expand, expand_nodes}
use Rattle.csl_elements.specs.View.{view_choose}
use Rattle.csl_context.specs.Context.{ContextView, frame, Runs, Becomes, FailsAs}
use Rattle.csl_context.specs.State.{State}
use Rattle.csl_context.specs.RenderInput.{RenderInput}
use Rattle.csl_context.specs.declared.error.RenderError.{RenderError}
use Rattle.csl_context.specs.declared.error.RenderError.TheVariants.{Memory, Failed}
use Rattle.csl_render.specs.declared.plan.NodePlan.{NodePlan}
use Rattle.csl_render.specs.Plan.{dry_view, AreItemsIfTaken, IsPlan, HasPlans, HasPlansOfSubstitutes}
use Rattle.csl_nodes.specs.Condition.{chosen_children}
use Rattle.csl_render.specs.Names.{expanded_substitutes_of}
use Rattle.csl_render.proofs.Plans.{planned_nodes}
use Rattle.csl_render.proofs.Within.{planned_by}

-- the plan of the first substitute is that of its children
pub substitute_planned : (w : RenderInput) (env : List ℕ → Option ExpandedNodes) (x : Names) (ns : Nodes) → Some ns ≡ first_substitute (names_substitutes x)
    → (plan : Option (Bor NodePlan)) → IfSome plan (λ p. HasPlansOfSubstitutes w (expanded_substitutes_of env x) p.now) → IfSome plan (λ p. HasPlans w (expand_nodes env ns) p.now)
substitute_planned w env x ns here None h = tt
substitute_planned w env x ns here (Some p) h =
    let at = dry_view p.now.inside.at.now in
    let is = p.now.inside.items.now in
    subst (λ o. AreItemsIfTaken w at (option_map (expand_nodes env) o) is) (sym here) (planned_by env (names_node x) w at (names_substitutes x) is h)

-- the plan of a choice is that of the nodes that it takes
pub taken_planned : {A : Type 0} (w : RenderInput) (s : State) (env : List ℕ → Option ExpandedNodes) (c : Choose) (f : A → Nodes) (taken : Option A)
    → option_map (expand_nodes env) (option_map f taken) ≡ option_map (expand_nodes env) (chosen_children w s (view_choose c))
    → (plan : Option (Bor NodePlan)) → IfSome plan (λ p. IsPlan w s (expand env (view_choose c)) p.now) → IfSome taken (λ a. IfSome plan (λ p. HasPlans w (expand_nodes env (f a)) p.now))
taken_planned w s env c f None same plan h = tt
taken_planned w s env c f (Some a) same None h = tt
taken_planned w s env c f (Some a) same (Some p) h =
    let at = dry_view p.now.inside.at.now in
    let is = p.now.inside.items.now in
    subst (λ o. AreItemsIfTaken w at o is) (sym same) (planned_nodes w env at s is c h.2)

-- ---- calls that change the context by an equal function

pub ends_as : {T R : Type 0} (f h : ContextView T → ContextView T) (old new : ContextView T) (r : Result R RenderError) → f old ≡ h old → Runs f r old new → Runs h r old new
ends_as f h old new (Ok x) e l = record { was_live = l.was_live; becomes = l.becomes ∙ e }
ends_as f h old new (Err x) e l = l

pub shown_as : {T : Type 0} (f h : ContextView T → ContextView T) (old new : ContextView T) → f old ≡ h old → Becomes f old new → Becomes h old new
shown_as f h old new e l = record { was_live = l.was_live; becomes = l.becomes ∙ e }

never : {P : Type 0} → true ≡ false → P
never e = cc

-- a call that fails after others that left the fixed values
pub fails_later : {T : Type 0} (f : ContextView T → ContextView T) (a b c : ContextView T) (e : RenderError) → Becomes f a b → frame b ≡ frame a → b.failed ≡ a.failed → FailsAs e b c → FailsAs e a c
fails_later f a b c Memory l same live h = (l.was_live, h.1, h.2 ∙ same)
fails_later f a b c Failed l same live h = never (sym h.0 ∙ live ∙ l.was_live)
