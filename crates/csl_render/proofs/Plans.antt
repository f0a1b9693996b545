-- Plans. The dry run of a group, a macro, names or a choice adds the plan of the nodes inside.
use Rattle.std.proofs.Common.{◌≡◌, ℕ, ◌<◌, ◌+◌, ◌-◌, ◌++◌, get_or, set, drop, suc, Bool, true, false, length, subst, List, [], ◌∷◌, Option, Some, None, option_map, map, if◌then◌else◌, refl, sym, ap, ap₂, ◌∙◌, arith}
use Rattle.std.specs.Prelude.{⊤, ◌||◌, ◌&&◌}
use Rattle.std.specs.Bool.{MatchBool}
use Rattle.std.proofs.lemmas.Bool.{false≢true}
use Rattle.std.proofs.lemmas.List.{append-nil, append_assoc, at_drop_more, drop_at, length-append, set_at, take_at}
use Rattle.csl_elements.specs.declared.element.Choose.{Choose, out-Choose}
use Rattle.csl_elements.specs.declared.element.ChooseBranch.{ChooseBranch}
use Rattle.csl_elements.specs.declared.element.Group.{Group}
use Rattle.csl_elements.specs.declared.element.LayoutRenderingElement.{LayoutRenderingElement}
use Rattle.csl_elements.specs.declared.element.Names.{Names}
use Rattle.csl_elements.specs.declared.taxonomy.NameVariable.TheVariants.{Author}
use Rattle.csl_elements.specs.declared.taxonomy.Variable.TheVariants as variable
use Rattle.csl_elements.specs.Names.{NamesNode}
use Rattle.csl_elements.specs.NamesParts.{names_node, names_substitutes, first_substitute}
use Rattle.csl_elements.specs.Node.{Node, Nodes, Branches, no_branches, otherwise, branch, ExpandedNode, expanded_text, expanded_macro, unknown_macro, expanded_number, expanded_label, expanded_date, expanded_names, shorthand, expanded_choose, expanded_group, ExpandedNodes, no_expanded_nodes, expanded_node, ExpandedBranches, no_expanded_branches, expanded_otherwise, expanded_branch, ExpandedSubstitutes, no_expanded_substitutes, expanded_substitute, expand, expand_nodes, expand_branches}
use Rattle.csl_elements.specs.View.{view_node, view_branch, view_choose, view_group, view_names, view_nodes, branches_of}
use Rattle.csl_entry.specs.Alike.{Each}
use Rattle.csl_entry.specs.declared.citation.cite.SpecialForm.{SpecialForm}
use Rattle.csl_entry.specs.declared.citation.cite.SpecialForm.TheVariants.{VarOnly, OnlyFirstDate, OnlyYearSuffix, SuppressAuthor}
use Rattle.csl_context.specs.State.{State}
use Rattle.csl_context.specs.Context.{ContextView, render_input}
use Rattle.csl_context.specs.RenderInput.{RenderInput}
use Rattle.csl_entry.specs.Answers.{Answers}
use Rattle.csl_names.specs.NamesForms.{writes_no_name}
use Rattle.csl_names.specs.NamesLists.{PersonLists, all_empty, peeked_lists}
use Rattle.csl_nodes.specs.Condition.{branch_matches, chosen_nodes, chosen_children}
use Rattle.csl_nodes.specs.Usage.{Info, group_info, no_info, info_union, as_child_info, without_group_flag}
use Rattle.csl_render.specs.declared.plan.OwnedPlan.{OwnedPlan}
use Rattle.csl_render.specs.declared.plan.NodeInfo.{NodeInfo}
use Rattle.csl_render.specs.declared.plan.PlanItem.{PlanItem}
use Rattle.csl_render.specs.DryRun.{Adds, Run, dry_of}
use Rattle.csl_render.specs.Flags.{info_of_flags}
use Rattle.csl_render.specs.Names.{author, has_variable, is_refused, names_show, names_or_substitute_info, expanded_substitutes_of}
use Rattle.csl_elements.specs.declared.variable_set.VariableSet.{VariableSet}
use Rattle.csl_render.specs.Plan.{DryView, asks_for_author, state_for_dry_run, dry_now, dry_view, AreSuppressedAlike, AreAlikeOn, HasTested, HasAllTested, TellsAuthor, counted, CountsAs, answer_of, AreItemsInside, AreItems, AreItemsOfBranches, AreItemsIfTaken, AreItemsOfSubstitutes, TakesBranch, nodes_of_branch, IsInfo, IsInfoOfNodes, IsInfoOfSubstitutes, IsDryRun}
use Rattle.csl_render.specs.Tree.{info, nodes_info, substitute_info, choice_info, shows, any_shows, substitute_shows, choice_shows, is_group}
use Rattle.csl_elements.specs.VariableSet.{Has, IsWithin}
use Rattle.csl_render.proofs.Chosen.{IsChoice, is_choice, choice_out, info_of_choice, shows_of_choice, takes_branch}
use Rattle.csl_render.proofs.Counted.{group_counts, no_group_counts, child_counts, settled}
use Rattle.csl_render.proofs.Eithers.{or_assoc, or_false, either_assoc, either_nothing}
use Rattle.csl_render.proofs.GroupView.{group_out}
use Rattle.csl_elements.proofs.Rolled.{names_view}
use Rattle.csl_render.proofs.Reading.{matches_same, lists_same, alike_within, alike_to_itself}
use Rattle.csl_render.proofs.Within.{info_by, shows_of_substitute, asked_by}

-- ---- no plan

module _ (w : RenderInput) (d : DryView) where
  pub no_items : (fs : ExpandedNodes) → AreItems w d fs []
  no_items no_expanded_nodes = tt
  no_items (expanded_node f fs) = tt

  no_case : (s : State) (b : Bool) (fs : ExpandedNodes) (cs : ExpandedBranches) → AreItemsOfBranches w d s cs [] → MatchBool b (AreItems w d fs []) (AreItemsOfBranches w d s cs [])
  no_case s true fs cs h = no_items fs
  no_case s false fs cs h = h

  no_taken : (s : State) (cs : ExpandedBranches) → AreItemsOfBranches w d s cs []
  no_taken s no_expanded_branches = tt
  no_taken s (expanded_otherwise fs) = no_items fs
  no_taken s (expanded_branch ts fs cs) = no_case s (branch_matches w s ts) fs cs (no_taken s cs)

  pub unplanned : (fs : ExpandedNodes) (is : List PlanItem) → length is ≡ 0 → AreItems w d fs is
  unplanned fs [] e = no_items fs
  unplanned fs (i ∷ is) e = absurd (omega (arith, e))

  pub none_of_substitutes : (ss : ExpandedSubstitutes) → AreItemsOfSubstitutes w d ss []
  none_of_substitutes no_expanded_substitutes = tt
  none_of_substitutes (expanded_substitute fs ss) = no_items fs

  pub none_inside : (s : State) (f : ExpandedNode) → AreItemsInside w d s f []
  none_inside s (expanded_text t e) = tt
  none_inside s (expanded_macro fs e) = no_items fs
  none_inside s unknown_macro = tt
  none_inside s (expanded_number n) = tt
  none_inside s (expanded_label v l) = tt
  none_inside s (expanded_date n) = tt
  none_inside s (expanded_names n ss) = none_of_substitutes ss
  none_inside s (shorthand written n) = tt
  none_inside s (expanded_choose cs) = no_taken s cs
  none_inside s (expanded_group delimiter e fs) = no_items fs

-- ---- what a dry run adds

only_one : (is : List PlanItem) → length is ≡ 1 → (i : PlanItem) × (is ≡ i ∷ [])
only_one [] e = absurd (omega (arith, e))
only_one (i ∷ []) e = (i, refl)
only_one (i ∷ j ∷ is) e = absurd (omega (arith, e))

-- the result for a node, and the items for the nodes inside it, of which `P`
abbrev pub AreClosed : NodeInfo → (List PlanItem → Type 0) → List PlanItem → Type 0
AreClosed i P is = (inside : List PlanItem) × (is ≡ record { info = i; descendants = length inside } ∷ inside) × P inside

module _ {T : Type 0} where
  pub adds_none : (P : List PlanItem → Type 0) (run : Run T) → P [] → Adds P run run
  adds_none P run h = record { more = []; added = ap (λ is. record { now = run.now; whole = run.whole; items = is }) (sym (append-nil run.items)); hold = h }

  pub adds_as : (P Q : List PlanItem → Type 0) (old new : Run T) → ((is : List PlanItem) → P is → Q is) → Adds P old new → Adds Q old new
  adds_as P Q old new to h = record { more = h.more; added = h.added; hold = to h.more h.hold }

  -- room for a node, the nodes inside it, and then its result
  pub closed : (P : List PlanItem → Type 0) (i : NodeInfo) (place : ℕ) (start opened end next : Run T) → place ≡ length start.items → Adds (λ is. length is ≡ 1) start opened → Adds P opened end
      → next ≡ record { now = end.now; whole = end.whole; items = set end.items place (record { info = i; descendants = length end.items - place - 1 }) }
      → Adds (AreClosed i P) start next
  closed P i place start opened end next at room inside e =
      let (j, one) = only_one room.more room.hold in
      let with_room : opened.items ≡ start.items ++ (j ∷ []) = ap (λ r. r.items) room.added ∙ ap (λ is. start.items ++ is) one in
      let ended : end.items ≡ start.items ++ (j ∷ inside.more) = ap (λ r. r.items) inside.added ∙ ap (λ is. is ++ inside.more) with_room ∙ append_assoc start.items (j ∷ []) inside.more in
      let now : end.now ≡ start.now = ap (λ r. r.now) inside.added ∙ ap (λ r. r.now) room.added in
      let whole : end.whole ≡ start.whole = ap (λ r. r.whole) inside.added ∙ ap (λ r. r.whole) room.added in
      let long : length end.items ≡ length start.items + suc (length inside.more) = ap length ended ∙ length-append start.items (j ∷ inside.more) in
      let count : length end.items - place - 1 ≡ length inside.more = omega (arith, long, at) in
      record {
        more = record { info = i; descendants = length inside.more } ∷ inside.more;
        added =
            e
            ∙ ap (λ n. record { now = n; whole = end.whole; items = set end.items place (record { info = i; descendants = length end.items - place - 1 }) }) now
            ∙ ap (λ b. record { now = start.now; whole = b; items = set end.items place (record { info = i; descendants = length end.items - place - 1 }) }) whole
            ∙ ap (λ k. record { now = start.now; whole = start.whole; items = set end.items place (record { info = i; descendants = k }) }) count
            ∙ ap (λ is. record { now = start.now; whole = start.whole; items = set is place (record { info = i; descendants = length inside.more }) }) ended
            ∙ ap (λ is. record { now = start.now; whole = start.whole; items = is }) (set_at start.items j inside.more (record { info = i; descendants = length inside.more }) place (sym at));
        hold = (inside.more, refl, inside.hold);
      }

  -- a node without nodes inside does not show the author
  pub leaf : (answers : T → Answers) (run : Run T) (f : ExpandedNode) (i : NodeInfo) → i.shows_author ≡ false → ((s : State) → TellsAuthor (render_input answers run.now) false (shows (render_input answers run.now) s author f))
      → ((s : State) → AreAlikeOn (render_input answers run.now) i.variables_read (dry_of run) s → answer_of i ≡ info (render_input answers run.now) s f) → ((s : State) → TakesBranch (render_input answers run.now) s f i.branch) → Adds (IsInfo (render_input answers run.now) (dry_of run) f i) run run
  leaf answers run f i told silent h takes =
      adds_none (IsInfo (render_input answers run.now) (dry_of run) f i) run
      (λ s alike. (ap (counted run.whole) (h s alike), λ asks. told ∙ silent s asks, none_inside (render_input answers run.now) (dry_of run) s f, takes s))

-- ---- node by node

-- the nodes from a place on: the node there, and those after it
pub nodes_from : (env : List ℕ → Option ExpandedNodes) (ns : List LayoutRenderingElement) (i : ℕ) (x : LayoutRenderingElement) → i < length ns → x ≡ get_or ns i x → expand_nodes env (view_nodes (drop i ns)) ≡ expanded_node (expand env (view_node x)) (expand_nodes env (view_nodes (drop (i + 1) ns)))
nodes_from env ns i x within is = at_drop_more (λ l. expand_nodes env (view_nodes l)) ns i x within ∙ ap (λ y. expand_nodes env (view_nodes (y ∷ drop (i + 1) ns))) (sym is)

-- the result for a node and the items for those inside it, before the items for the nodes after it
pub first_planned : (w : RenderInput) (d : DryView) (f : ExpandedNode) (fs : ExpandedNodes) (i : NodeInfo) (inside others : List PlanItem) → IsInfo w d f i inside → AreItems w d fs others → AreItems w d (expanded_node f fs) (record { info = i; descendants = length inside } ∷ (inside ++ others))
first_planned w d f fs i inside others one rest = (
  (let long = length-append inside others in omega (arith, long)),
  (λ s alike. subst (λ is. CountsAs d.whole (answer_of i) (info w s f) × TellsAuthor w i.shows_author (shows w s author f) × AreItemsInside w d s f is × TakesBranch w s f i.branch) (sym (take_at inside others (length inside) refl)) (one s alike)),
  subst (λ is. AreItems w d fs is) (sym (drop_at inside others (length inside) refl)) rest,
)

-- the items so far, with any for the remaining nodes, are those of all nodes
abbrev pub ArePlanned : RenderInput → DryView → ExpandedNodes → ExpandedNodes → List PlanItem → Type 0
ArePlanned w d rest all is = (others : List PlanItem) → AreItems w d rest others → AreItems w d all (is ++ others)

pub one_more : {T : Type 0} (w : RenderInput) (d : DryView) (f : ExpandedNode) (fs rest all : ExpandedNodes) (i : NodeInfo) (start now next : Run T) → rest ≡ expanded_node f fs → Adds (ArePlanned w d rest all) start now → Adds (AreClosed i (IsInfo w d f i)) now next → Adds (ArePlanned w d fs all) start next
one_more w d f fs rest all i start now next from before more =
    let (inside, is, one) = more.hold in
    record {
      more = before.more ++ more.more;
      added = more.added
          ∙ ap (λ r. record { now = r.now; whole = r.whole; items = r.items ++ more.more }) before.added
          ∙ ap (λ is. record { now = start.now; whole = start.whole; items = is }) (append_assoc start.items before.more more.more);
      hold = λ others h.
          let first = subst (λ is. AreItems w d (expanded_node f fs) (is ++ others)) (sym is) (first_planned w d f fs i inside others one h) in
          subst (λ is. AreItems w d all is) (sym (append_assoc before.more more.more others)) (before.hold (more.more ++ others) (subst (λ ns. AreItems w d ns (more.more ++ others)) (sym from) first));
    }

-- the results so far, with those for the remaining nodes, count as those of all nodes
abbrev pub CountsSoFar : RenderInput → DryView → ExpandedNodes → ExpandedNodes → NodeInfo → Type 0
CountsSoFar w d rest all i = (s : State) → AreAlikeOn w i.variables_read d s → CountsAs d.whole (info_union (answer_of i) (nodes_info w s rest)) (nodes_info w s all) × TellsAuthor w (i.shows_author || any_shows w s author rest) (any_shows w s author all)

-- and so do they with that for one more node
pub counts_one_more : (w : RenderInput) (d : DryView) (f : ExpandedNode) (fs rest all : ExpandedNodes) (grouped : Bool) (before one more : NodeInfo) (items : List PlanItem) → rest ≡ expanded_node f fs → grouped ≡ is_group f
    → IsWithin before.variables_read more.variables_read → IsWithin one.variables_read more.variables_read → answer_of more ≡ info_union (answer_of before) (as_child_info grouped (answer_of one)) → more.shows_author ≡ (before.shows_author || one.shows_author)
    → CountsSoFar w d rest all before → IsInfo w d f one items → CountsSoFar w d fs all more
counts_one_more w d f fs rest all grouped before one more items from same_group before_within one_within answer author_told so_far found s alike =
    let told = so_far s (alike_within w before.variables_read more.variables_read d s before_within alike) in
    let new = found s (alike_within w one.variables_read more.variables_read d s one_within alike) in (
      ap (λ a. counted d.whole (info_union a (nodes_info w s fs))) (answer ∙ ap (λ b. info_union (answer_of before) (as_child_info b (answer_of one))) same_group)
          ∙ child_counts (answer_of before) (nodes_info w s fs) (is_group f) d.whole (answer_of one) (info w s f) new.0
          ∙ ap (counted d.whole) (either_assoc (answer_of before) (as_child_info (is_group f) (info w s f)) (nodes_info w s fs))
          ∙ ap (λ ns. counted d.whole (info_union (answer_of before) (nodes_info w s ns))) (sym from)
          ∙ told.0,
      λ asks. ap (λ b. b || any_shows w s author fs) (author_told ∙ ap (λ b. before.shows_author || b) (new.1 asks))
          ∙ or_assoc before.shows_author (shows w s author f) (any_shows w s author fs)
          ∙ ap (λ ns. before.shows_author || any_shows w s author ns) (sym from)
          ∙ told.1 asks,
    )

-- no nodes are left
pub counts_all : (w : RenderInput) (d : DryView) (rest all : ExpandedNodes) (i : NodeInfo) → rest ≡ no_expanded_nodes → CountsSoFar w d rest all i → (s : State) → AreAlikeOn w i.variables_read d s
    → CountsAs d.whole (answer_of i) (nodes_info w s all) × TellsAuthor w i.shows_author (any_shows w s author all)
counts_all w d rest all i none so_far s alike =
    let told = so_far s alike in (
      ap (counted d.whole) (sym (either_nothing (answer_of i)) ∙ ap (λ ns. info_union (answer_of i) (nodes_info w s ns)) (sym none)) ∙ told.0,
      λ asks. sym (or_false i.shows_author) ∙ ap (λ ns. i.shows_author || any_shows w s author ns) (sym none) ∙ told.1 asks,
    )

-- the nodes that are left change nothing that groups count, and no special form asks for them
pub counts_enough : (w : RenderInput) (d : DryView) (rest all : ExpandedNodes) (i : NodeInfo) → d.whole ≡ false → w.instance.special ≡ None → (answer_of i).prints ≡ true → (answer_of i).flags.has_vars ≡ true → (answer_of i).flags.has_non_empty_vars ≡ true → CountsSoFar w d rest all i
    → (s : State) → AreAlikeOn w i.variables_read d s → CountsAs d.whole (without_group_flag (answer_of i)) (without_group_flag (nodes_info w s all)) × TellsAuthor w i.shows_author (any_shows w s author all)
counts_enough w d rest all i plan plain prints vars full so_far s alike = (
  settled d.whole (answer_of i) (nodes_info w s rest) plan prints vars full ∙ no_group_counts d.whole (info_union (answer_of i) (nodes_info w s rest)) (nodes_info w s all) (so_far s alike).0,
  λ asks. absurd (false≢true (ap asks_for_author (sym plain) ∙ asks)),
)

-- the context of a run and what it is for
pub in_run : {T : Type 0} (P : ContextView T → Bool → Type 0) (a b : Run T) → a.now ≡ b.now → a.whole ≡ b.whole → P a.now a.whole → P b.now b.whole
in_run P a b now whole h = subst (λ m. P b.now m) whole (subst (λ n. P n a.whole) now h)

-- ---- a plan of a node

-- the plan of the nodes inside names is that of their first substitute
pub substitutes_inside : (w : RenderInput) (d : DryView) (s : State) (env : List ℕ → Option ExpandedNodes) (x : Names) (is : List PlanItem) → AreItemsInside w d s (expand env (view_names x)) is → AreItemsOfSubstitutes w d (expanded_substitutes_of env x) is
substitutes_inside w d s env x is h = subst (λ n. AreItemsInside w d s (expand env n) is) (names_view x) h

pub names_asked : (w : RenderInput) (d : DryView) (s : State) (env : List ℕ → Option ExpandedNodes) (x : Names) (is : List PlanItem) → AreItemsOfSubstitutes w d (expanded_substitutes_of env x) is → AreItemsInside w d s (expand env (view_names x)) is
names_asked w d s env x is h = subst (λ n. AreItemsInside w d s (expand env n) is) (sym (names_view x)) h

-- what a dry run from an empty plan gives
pub asked : {T : Type 0} (answers : T → Answers) (now : ContextView T) (f : ExpandedNode) (i : NodeInfo) (end : Run T) (r : OwnedPlan) → Adds (IsInfo (render_input answers now) (dry_now now) f i) (record { now = now; whole = false; items = [] }) end
    → dry_view r.at ≡ dry_now end.now → r.flags ≡ i.flags → r.shows_author ≡ i.shows_author → r.branch ≡ i.branch → r.inside.items ≡ end.items → IsDryRun answers now f r
asked answers now f i end r h at answer told taken inside =
    let w = render_input answers now in
    let holds = h.hold now.state (alike_to_itself false w i.variables_read now.state) in (
      ap (λ flags. counted false (info_of_flags flags)) answer ∙ holds.0,
      λ asks. told ∙ holds.1 asks,
      subst (λ d. AreItemsInside w d now.state f r.inside.items) (sym (at ∙ ap (λ r. dry_now r.now) h.added)) (subst (AreItemsInside w (dry_now now) now.state f) (sym (inside ∙ ap (λ r. r.items) h.added)) holds.2),
      subst (TakesBranch w now.state f) (sym taken) holds.3,
    )

-- ---- the nodes that a choice takes

module _ (w : RenderInput) (env : List ℕ → Option ExpandedNodes) (d : DryView) (s : State) (is : List PlanItem) where
  -- the results for the nodes that are taken in a state, by those for the choice
  taken_here : (b : Bool) (fs : ExpandedNodes) (cs : ExpandedBranches) (ns : Nodes) (o : Option Nodes) → fs ≡ expand_nodes env ns
      → (AreItemsOfBranches w d s cs is → AreItemsIfTaken w d (option_map (expand_nodes env) o) is)
      → MatchBool b (AreItems w d fs is) (AreItemsOfBranches w d s cs is) → AreItemsIfTaken w d (option_map (expand_nodes env) (if b then Some ns else o)) is
  taken_here true fs cs ns o f k h = subst (λ x. AreItems w d x is) f h
  taken_here false fs cs ns o f k h = k h

  of_branches : (bs : Branches) → AreItemsOfBranches w d s (expand_branches env bs) is → AreItemsIfTaken w d (option_map (expand_nodes env) (chosen_nodes w s bs)) is
  of_branches no_branches h = tt
  of_branches (otherwise ns) h = h
  of_branches (branch ts ns bs) h = taken_here (branch_matches w s ts) _ _ ns (chosen_nodes w s bs) refl (of_branches bs) h

  of_node : (n : Node) → IsChoice n → AreItemsInside w d s (expand env n) is → AreItemsIfTaken w d (option_map (expand_nodes env) (chosen_children w s n)) is
  of_node n (bs, e) h = rw e (of_branches bs (rw e at h))

  pub planned_nodes : (c : Choose) → AreItemsInside w d s (expand env (view_choose c)) is → AreItemsIfTaken w d (option_map (expand_nodes env) (chosen_children w s (view_choose c))) is
  planned_nodes c = of_node (view_choose c) (is_choice c)

  -- and the other way round
  asked_here : (b : Bool) (fs : ExpandedNodes) (cs : ExpandedBranches) (ns : Nodes) (o : Option Nodes) → fs ≡ expand_nodes env ns
      → (AreItemsIfTaken w d (option_map (expand_nodes env) o) is → AreItemsOfBranches w d s cs is)
      → AreItemsIfTaken w d (option_map (expand_nodes env) (if b then Some ns else o)) is → MatchBool b (AreItems w d fs is) (AreItemsOfBranches w d s cs is)
  asked_here true fs cs ns o f k h = subst (λ x. AreItems w d x is) (sym f) h
  asked_here false fs cs ns o f k h = k h

  to_branches : (bs : Branches) → AreItemsIfTaken w d (option_map (expand_nodes env) (chosen_nodes w s bs)) is → AreItemsOfBranches w d s (expand_branches env bs) is
  to_branches no_branches h = tt
  to_branches (otherwise ns) h = h
  to_branches (branch ts ns bs) h = asked_here (branch_matches w s ts) _ _ ns (chosen_nodes w s bs) refl (to_branches bs) h

  to_node : (n : Node) → IsChoice n → AreItemsIfTaken w d (option_map (expand_nodes env) (chosen_children w s n)) is → AreItemsInside w d s (expand env n) is
  to_node n (bs, e) h = rw e (to_branches bs (rw e at h))

  pub asked_nodes : (c : Choose) → AreItemsIfTaken w d (option_map (expand_nodes env) (chosen_children w s (view_choose c))) is → AreItemsInside w d s (expand env (view_choose c)) is
  asked_nodes c = to_node (view_choose c) (is_choice c)

-- a choice takes the same nodes in two states that suppress the same of the variables that it tests
module _ (w : RenderInput) (s t : State) (read : VariableSet) (alike : AreSuppressedAlike read s t) where
  same_otherwise : (o : Option Nodes) → chosen_nodes w s (branches_of [] o) ≡ chosen_nodes w t (branches_of [] o)
  same_otherwise None = refl
  same_otherwise (Some ns) = refl

  same_taken : (bs : List ChooseBranch) (o : Option Nodes) → Each (λ b. HasTested read (view_branch b).tests) bs → chosen_nodes w s (branches_of (map view_branch bs) o) ≡ chosen_nodes w t (branches_of (map view_branch bs) o)
  same_taken [] o h = same_otherwise o
  same_taken (b ∷ bs) o h = ap₂ (λ m r. if m then Some (view_branch b).nodes else r) (matches_same w s t read alike (view_branch b).tests h.0) (same_taken bs o h.1)

  pub same_chosen : (c : Choose) → HasAllTested read c → chosen_children w s (view_choose c) ≡ chosen_children w t (view_choose c)
  same_chosen c h = let seen = choice_out c in rw seen.1 (same_taken ((out-Choose c).if_ ∷ (out-Choose c).else_if.items) seen.0 h)

-- ---- a node around nodes, by the dry run of these nodes

module _ (w : RenderInput) (d : DryView) (i r : NodeInfo) (read : r.variables_read ≡ i.variables_read) (told : r.shows_author ≡ i.shows_author) where
  pub around : (fs : ExpandedNodes) (f : Info → Info) (is : List PlanItem) → ((whole : Bool) (a b : Info) → CountsAs whole a b → CountsAs whole (f a) (f b)) → IsInfoOfNodes w d fs i is → answer_of r ≡ f (answer_of i)
      → (s : State) → AreAlikeOn w r.variables_read d s → CountsAs d.whole (answer_of r) (f (nodes_info w s fs)) × TellsAuthor w r.shows_author (any_shows w s author fs) × AreItems w d fs is × ⊤
  around fs f is counts h e s alike =
      let holds = h.0 s (subst (λ x. AreAlikeOn w x d s) read alike) in
      (ap (counted d.whole) e ∙ counts d.whole (answer_of i) (nodes_info w s fs) holds.0, λ asks. told ∙ holds.1 asks, h.1, tt)

  pub around_group : (env : List ℕ → Option ExpandedNodes) (g : Group) (is : List PlanItem) → IsInfoOfNodes w d (expand_nodes env (view_nodes g.children.items)) i is → answer_of r ≡ group_info (answer_of i) → IsInfo w d (expand env (view_group g)) r is
  around_group env g is h e = subst (λ n. IsInfo w d (expand env n) r is) (sym (group_out g)) (around _ group_info is group_counts h e)

-- the result for a choice, by that for the nodes that it takes in the state of the dry run
pub around_taken : (whole : Bool) (w : RenderInput) (s : State) (env : List ℕ → Option ExpandedNodes) (c : Choose) (taken : Option Nodes) (tested : VariableSet) (r : NodeInfo) (is : List PlanItem) → HasAllTested tested c → IsWithin tested r.variables_read → taken ≡ chosen_children w s (view_choose c)
    → ((u : State) → AreAlikeOn w r.variables_read (state_for_dry_run whole w.instance.special s) u → CountsAs whole (answer_of r) (choice_info w u (option_map (expand_nodes env) taken)) × TellsAuthor w r.shows_author (choice_shows w u author (option_map (expand_nodes env) taken)))
    → AreItemsIfTaken w (state_for_dry_run whole w.instance.special s) (option_map (expand_nodes env) taken) is → nodes_of_branch (view_choose c) r.branch ≡ taken → IsInfo w (state_for_dry_run whole w.instance.special s) (expand env (view_choose c)) r is
around_taken whole w s env c taken tested r is has within here tells inside place u alike =
    let there = here ∙ same_chosen w s u tested (λ v h. alike.1 v (within v h)) c has in
    let told = tells u alike in (
      told.0 ∙ ap (λ o. counted whole (choice_info w u (option_map (expand_nodes env) o))) there ∙ ap (counted whole) (sym (info_of_choice w u env c)),
      λ asks. told.1 asks ∙ ap (λ o. choice_shows w u author (option_map (expand_nodes env) o)) there ∙ sym (shows_of_choice w u env author c),
      asked_nodes w env (state_for_dry_run whole w.instance.special s) u is c (subst (λ o. AreItemsIfTaken w (state_for_dry_run whole w.instance.special s) (option_map (expand_nodes env) o) is) there inside),
      takes_branch w u env c r.branch (place ∙ there),
    )

-- the result for substitutes, by that for the nodes that they take
around_first : (w : RenderInput) (d : DryView) (ss : ExpandedSubstitutes) (taken : Option ExpandedNodes) (r : NodeInfo) (is : List PlanItem) → ((u : State) → substitute_info w u ss ≡ choice_info w u taken) → ((u : State) → substitute_shows w u author ss ≡ choice_shows w u author taken) → (AreItemsIfTaken w d taken is → AreItemsOfSubstitutes w d ss is)
    → ((u : State) → AreAlikeOn w r.variables_read d u → CountsAs d.whole (answer_of r) (choice_info w u taken) × TellsAuthor w r.shows_author (choice_shows w u author taken)) → AreItemsIfTaken w d taken is → IsInfoOfSubstitutes w d ss r is
around_first w d ss taken r is same shown from tells inside = (λ u alike. ((tells u alike).0 ∙ ap (counted d.whole) (sym (same u)), λ asks. (tells u alike).1 asks ∙ sym (shown u)), from inside)

-- the result for the substitutes of a names node, by that for the children of the first
pub around_substitute : (w : RenderInput) (d : DryView) (env : List ℕ → Option ExpandedNodes) (x : Names) (taken : Option Nodes) (r : NodeInfo) (is : List PlanItem) → taken ≡ first_substitute (names_substitutes x)
    → ((u : State) → AreAlikeOn w r.variables_read d u → CountsAs d.whole (answer_of r) (choice_info w u (option_map (expand_nodes env) taken)) × TellsAuthor w r.shows_author (choice_shows w u author (option_map (expand_nodes env) taken)))
    → AreItemsIfTaken w d (option_map (expand_nodes env) taken) is → IsInfoOfSubstitutes w d (expanded_substitutes_of env x) r is
around_substitute w d env x taken r is here tells inside =
    around_first w d (expanded_substitutes_of env x) (option_map (expand_nodes env) taken) r is
    (λ u. info_by env (names_node x) w u (names_substitutes x) ∙ ap (λ o. choice_info w u (option_map (expand_nodes env) o)) (sym here))
    (λ u. shows_of_substitute env x w u author ∙ ap (λ o. choice_shows w u author (option_map (expand_nodes env) o)) (sym here))
    (λ h. asked_by env (names_node x) w d (names_substitutes x) is (subst (λ o. AreItemsIfTaken w d (option_map (expand_nodes env) o) is) here h))
    tells inside

-- ---- names

module _ (n : NamesNode) (ss : ExpandedSubstitutes) where
  more_shown : (own empty sub : Bool) → (own || (empty && false)) ≡ true → (own || (empty && sub)) ≡ true
  more_shown true empty sub h = refl
  more_shown false true sub h = absurd (false≢true h)
  more_shown false false sub h = absurd (false≢true h)

  -- names that are refused even if their substitute does not show the author
  pub refused_alone : (special : Option SpecialForm) (empty sub : Bool) → is_refused special n empty ss (names_show author n empty false) ≡ true
      → (is_refused special n empty ss (names_show author n empty sub) ≡ true) × (asks_for_author special ≡ true → names_show author n empty false ≡ names_show author n empty sub)
  refused_alone None empty sub h = (h, λ asks. absurd (false≢true asks))
  refused_alone (Some (VarOnly v)) empty sub h = (h, λ asks. absurd (false≢true asks))
  refused_alone (Some OnlyFirstDate) empty sub h = (h, λ asks. absurd (false≢true asks))
  refused_alone (Some OnlyYearSuffix) empty sub h = (h, λ asks. absurd (false≢true asks))
  refused_alone (Some SuppressAuthor) empty sub h = let more = more_shown (has_variable Author n.variables) empty sub h in (more, λ asks. h ∙ sym more)

  module _ (w : RenderInput) where
    -- whether names show the author in a state, and their dry run, if this holds of their lists
    abbrev pub shown_by : Bool → State → Bool
    shown_by empty u = names_show author n empty (substitute_shows w u author ss)

    abbrev pub told_by : Bool → Bool → State → Info
    told_by empty void u = if is_refused w.instance.special n empty ss (shown_by empty u) then no_info else names_or_substitute_info void (substitute_info w u ss)

    names_told : (whole : Bool) (s : State) (own : VariableSet) (empty void : Bool) (r : NodeInfo) (is : List PlanItem) → Each (λ v. Has own (variable.Name v)) n.variables → IsWithin own r.variables_read
        → empty ≡ all_empty (peeked_lists w s n.variables) → void ≡ writes_no_name n (peeked_lists w s n.variables)
        → ((u : State) → AreAlikeOn w r.variables_read (state_for_dry_run whole w.instance.special s) u → CountsAs whole (answer_of r) (told_by empty void u) × TellsAuthor w r.shows_author (shown_by empty u))
        → AreItemsOfSubstitutes w (state_for_dry_run whole w.instance.special s) ss is → IsInfo w (state_for_dry_run whole w.instance.special s) (expanded_names n ss) r is
    names_told whole s own empty void r is has within empties voids tells inside u alike =
        let told = tells u alike in
        let lists = lists_same w s u own (alike_within w own r.variables_read (state_for_dry_run whole w.instance.special s) u within alike).1 n.variables has in (
          told.0
              ∙ ap (λ b. counted whole (told_by empty b u)) voids
              ∙ ap (λ b. counted whole (told_by b (writes_no_name n (peeked_lists w s n.variables)) u)) empties
              ∙ ap (λ (ls : PersonLists). counted whole (told_by (all_empty ls) (writes_no_name n ls) u)) lists,
          λ asks. told.1 asks ∙ ap (λ b. shown_by b u) empties ∙ ap (λ (ls : PersonLists). shown_by (all_empty ls) u) lists,
          inside,
          tt,
        )

-- the result for names, by what the dry run finds of their lists, and the result for their substitutes
pub around_names : (whole : Bool) (w : RenderInput) (s : State) (env : List ℕ → Option ExpandedNodes) (x : Names) (own : VariableSet) (empty void : Bool) (r : NodeInfo) (is : List PlanItem) → Each (λ v. Has own (variable.Name v)) (names_node x).variables → IsWithin own r.variables_read
    → empty ≡ all_empty (peeked_lists w s (names_node x).variables) → void ≡ writes_no_name (names_node x) (peeked_lists w s (names_node x).variables)
    → ((u : State) → AreAlikeOn w r.variables_read (state_for_dry_run whole w.instance.special s) u
    → CountsAs whole (answer_of r) (told_by (names_node x) (expanded_substitutes_of env x) w empty void u) × TellsAuthor w r.shows_author (shown_by (names_node x) (expanded_substitutes_of env x) w empty u))
    → AreItemsOfSubstitutes w (state_for_dry_run whole w.instance.special s) (expanded_substitutes_of env x) is → IsInfo w (state_for_dry_run whole w.instance.special s) (expand env (view_names x)) r is
around_names whole w s env x own empty void r is has within empties voids tells inside =
    subst (λ m. IsInfo w (state_for_dry_run whole w.instance.special s) (expand env m) r is) (sym (names_view x)) (names_told (names_node x) (expanded_substitutes_of env x) w whole s own empty void r is has within empties voids tells inside)
