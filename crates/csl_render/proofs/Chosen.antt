-- A choice has the dry run (without the group flag), the shown variables and the output of the
-- nodes that it takes.
use Rattle.std.proofs.Common.{◌≡◌, ℕ, ◌<◌, ◌≤◌, ◌+◌, zero, suc, Bool, true, false, List, [], ◌∷◌, map, drop, length, get_or, slice_get, Option, Some, None, option_map, Result, Ok, Err, IfOk, if◌then◌else◌, refl, ap, sym, ◌∙◌, arith}
use Rattle.std.proofs.lemmas.List.{at_drop_more}
use Rattle.csl_elements.specs.declared.element.Choose.{Choose, out-Choose}
use Rattle.csl_elements.specs.declared.element.ChooseBranch.{ChooseBranch, out-ChooseBranch}
use Rattle.csl_elements.specs.declared.taxonomy.Variable.{Variable}
use Rattle.csl_elements.specs.declared.element.LayoutRenderingElement.TheFolds.{fold_out-Choose, fold_out-ChooseBranch}
use Rattle.csl_elements.specs.Node.{Node, choose, Nodes, Branches, no_branches, otherwise, branch, ExpandedNodes, expand, expand_nodes, expand_branches, size, sizes, expanded_branches_size}
use Rattle.csl_elements.specs.View.{view_branch, view_choose, view_nodes, branches_of, NamesChildView, BranchView, element_step, child_step, choose_step, branch_step, group_step, names_step, substitute_step}
use Rattle.csl_elements.proofs.Rolled.{choose_view}
use Rattle.csl_context.specs.State.{State, Inherited}
use Rattle.csl_context.specs.RenderInput.{RenderInput}
use Rattle.csl_nodes.specs.Condition.{branch_matches, chosen_nodes, chosen_children}
use Rattle.csl_render.specs.Plan.{TakesBranch, branch_at, nodes_of_branch, expanded_branch_at, taken_nodes}
use Rattle.csl_render.specs.Tree.{info, shows, node_output, branches_info, branches_show, branches_output, choice_info, choice_shows, choice_output}

abbrev pub IsChoice : Node → Type 0
IsChoice n = (bs : Branches) × (n ≡ choose bs)

pub is_choice : (c : Choose) → IsChoice (view_choose c)
is_choice c = (_, fold_out-Choose Node NamesChildView Node BranchView Node Node Nodes element_step child_step choose_step branch_step group_step names_step substitute_step c)

-- a choice as data
pub choice_out : (c : Choose) → (o : Option Nodes) × (view_choose c ≡ choose (branches_of (map view_branch ((out-Choose c).if_ ∷ (out-Choose c).else_if.items)) o))
choice_out c = (_, fold_out-Choose Node NamesChildView Node BranchView Node Node Nodes element_step child_step choose_step branch_step group_step names_step substitute_step c)

module _ (w : RenderInput) (s : State) (env : List ℕ → Option ExpandedNodes) where
  -- a function of the chosen nodes, branch by branch
  by_branch : {A : Type 0} (b : Bool) (f : Option ExpandedNodes → A) (x y : A) (ns : Nodes) (o : Option Nodes) → x ≡ f (Some (expand_nodes env ns)) → y ≡ f (option_map (expand_nodes env) o) → (if b then x else y) ≡ f (option_map (expand_nodes env) (if b then Some ns else o))
  by_branch true f x y ns o h k = h
  by_branch false f x y ns o h k = k

  cases_info_are : (bs : Branches) → branches_info w s (expand_branches env bs) ≡ choice_info w s (option_map (expand_nodes env) (chosen_nodes w s bs))
  cases_info_are no_branches = refl
  cases_info_are (otherwise ns) = refl
  cases_info_are (branch ts ns bs) = by_branch (branch_matches w s ts) (choice_info w s) _ _ ns (chosen_nodes w s bs) refl (cases_info_are bs)

  cases_tree_are : (inh : Inherited) (bs : Branches) → branches_output w (expand_branches env bs) inh s ≡ choice_output w (option_map (expand_nodes env) (chosen_nodes w s bs)) inh s
  cases_tree_are inh no_branches = refl
  cases_tree_are inh (otherwise ns) = refl
  cases_tree_are inh (branch ts ns bs) = by_branch (branch_matches w s ts) (λ o. choice_output w o inh s) _ _ ns (chosen_nodes w s bs) refl (cases_tree_are inh bs)

  cases_show_are : (v : Variable) (bs : Branches) → branches_show w s v (expand_branches env bs) ≡ choice_shows w s v (option_map (expand_nodes env) (chosen_nodes w s bs))
  cases_show_are v no_branches = refl
  cases_show_are v (otherwise ns) = refl
  cases_show_are v (branch ts ns bs) = by_branch (branch_matches w s ts) (choice_shows w s v) _ _ ns (chosen_nodes w s bs) refl (cases_show_are v bs)

  -- the nodes of a branch, and those that are taken
  branch_expanded : (bs : Branches) (i : ℕ) → expanded_branch_at (expand_branches env bs) i ≡ option_map (expand_nodes env) (branch_at bs i)
  branch_expanded no_branches i = refl
  branch_expanded (otherwise ns) i = refl
  branch_expanded (branch ts ns bs) zero = refl
  branch_expanded (branch ts ns bs) (suc i) = branch_expanded bs i

  cases_taken_are : (bs : Branches) → taken_nodes w s (expand_branches env bs) ≡ option_map (expand_nodes env) (chosen_nodes w s bs)
  cases_taken_are no_branches = refl
  cases_taken_are (otherwise ns) = refl
  cases_taken_are (branch ts ns bs) = by_branch (branch_matches w s ts) (λ o. o) _ _ ns (chosen_nodes w s bs) refl (cases_taken_are bs)

  info_of_node : (n : Node) → IsChoice n → info w s (expand env n) ≡ choice_info w s (option_map (expand_nodes env) (chosen_children w s n))
  info_of_node n (bs, e) = rw e (cases_info_are bs)

  tree_of_node : (inh : Inherited) (n : Node) → IsChoice n → node_output w (expand env n) inh s ≡ choice_output w (option_map (expand_nodes env) (chosen_children w s n)) inh s
  tree_of_node inh n (bs, e) = rw e (cases_tree_are inh bs)

  shows_of_node : (v : Variable) (n : Node) → IsChoice n → shows w s v (expand env n) ≡ choice_shows w s v (option_map (expand_nodes env) (chosen_children w s n))
  shows_of_node v n (bs, e) = rw e (cases_show_are v bs)

  node_takes : (n : Node) (i : ℕ) → IsChoice n → nodes_of_branch n i ≡ chosen_children w s n → TakesBranch w s (expand env n) i
  node_takes n i (bs, e) h = rw e (branch_expanded bs i ∙ ap (option_map (expand_nodes env)) (rw e at h) ∙ sym (cases_taken_are bs))

  taken_by_node : (n : Node) (i : ℕ) → IsChoice n → TakesBranch w s (expand env n) i → option_map (expand_nodes env) (nodes_of_branch n i) ≡ option_map (expand_nodes env) (chosen_children w s n)
  taken_by_node n i (bs, e) h = rw e (sym (branch_expanded bs i) ∙ rw e at h ∙ cases_taken_are bs)

  pub info_of_choice : (c : Choose) → info w s (expand env (view_choose c)) ≡ choice_info w s (option_map (expand_nodes env) (chosen_children w s (view_choose c)))
  info_of_choice c = info_of_node (view_choose c) (is_choice c)

  pub tree_of_choice : (inh : Inherited) (c : Choose) → node_output w (expand env (view_choose c)) inh s ≡ choice_output w (option_map (expand_nodes env) (chosen_children w s (view_choose c))) inh s
  tree_of_choice inh c = tree_of_node inh (view_choose c) (is_choice c)

  pub shows_of_choice : (v : Variable) (c : Choose) → shows w s v (expand env (view_choose c)) ≡ choice_shows w s v (option_map (expand_nodes env) (chosen_children w s (view_choose c)))
  shows_of_choice v c = shows_of_node v (view_choose c) (is_choice c)

  -- a choice takes the branch with the nodes that it takes, and no other nodes
  pub takes_branch : (c : Choose) (i : ℕ) → nodes_of_branch (view_choose c) i ≡ chosen_children w s (view_choose c) → TakesBranch w s (expand env (view_choose c)) i
  takes_branch c i = node_takes (view_choose c) i (is_choice c)

  pub if_taken : {E : Type 0} (c : Choose) (r : Result ℕ E) → IfOk r (λ i. nodes_of_branch (view_choose c) i ≡ chosen_children w s (view_choose c)) → IfOk r (TakesBranch w s (expand env (view_choose c)))
  if_taken c (Ok i) h = takes_branch c i h
  if_taken c (Err e) h = tt

  pub taken_by : (c : Choose) (i : ℕ) → TakesBranch w s (expand env (view_choose c)) i → option_map (expand_nodes env) (nodes_of_branch (view_choose c) i) ≡ option_map (expand_nodes env) (chosen_children w s (view_choose c))
  taken_by c i = taken_by_node (view_choose c) i (is_choice c)

-- ---- the nodes of a branch

module _ (env : List ℕ → Option ExpandedNodes) where
  branch_within : (bs : Branches) (i : ℕ) (m : Nodes) → branch_at bs i ≡ Some m → sizes (expand_nodes env m) < suc (expanded_branches_size (expand_branches env bs))
  branch_within no_branches i m e = grind arith
  branch_within (otherwise ns) i m e = let same : ns ≡ m = cc in let same_size = ap (λ n. sizes (expand_nodes env n)) same in omega arith
  branch_within (branch ts ns bs) zero m e = let same : ns ≡ m = cc in let same_size = ap (λ n. sizes (expand_nodes env n)) same in omega arith
  branch_within (branch ts ns bs) (suc i) m e = let less = branch_within bs i m e in omega arith

  node_within : (n : Node) (i : ℕ) (m : Nodes) → IsChoice n → nodes_of_branch n i ≡ Some m → sizes (expand_nodes env m) < size (expand env n)
  node_within n i m (bs, e) h = rw e (branch_within bs i m (rw e at h))

  pub choice_within : (c : Choose) (i : ℕ) (m : Nodes) → Some m ≡ nodes_of_branch (view_choose c) i → sizes (expand_nodes env m) < size (expand env (view_choose c))
  choice_within c i m h = node_within (view_choose c) i m (is_choice c) (sym h)

-- the nodes of a branch that was found, else those of the `else`
abbrev pub found_or : Option ChooseBranch → Option Nodes → Option Nodes
found_or None o = o
found_or (Some b) o = Some (view_branch b).nodes

at_place : (bs : List ChooseBranch) (o : Option Nodes) (i : ℕ) → branch_at (branches_of (map view_branch bs) o) i ≡ found_or (slice_get bs i) o
at_place [] None zero = refl
at_place [] None (suc i) = refl
at_place [] (Some ns) zero = refl
at_place [] (Some ns) (suc i) = refl
at_place (b ∷ bs) o zero = refl
at_place (b ∷ bs) o (suc i) = at_place bs o i

next : (i : ℕ) → i + 1 ≡ suc i
next i = omega arith

-- the nodes of the `if` branch
pub branch_first : (c : Choose) → nodes_of_branch (view_choose c) 0 ≡ Some (view_branch (out-Choose c).if_).nodes
branch_first c = ap (λ n. nodes_of_branch n 0) (choose_view c)

-- the nodes of each `else-if`, and then those of the `else`
pub branch_after : (c : Choose) (i : ℕ) → nodes_of_branch (view_choose c) (i + 1) ≡ found_or (slice_get (out-Choose c).else_if.items i) (option_map (λ v. view_nodes v.items) (out-Choose c).otherwise)
branch_after c i =
    ap (nodes_of_branch (view_choose c)) (next i)
    ∙ ap (λ n. nodes_of_branch n (suc i)) (choose_view c)
    ∙ at_place (out-Choose c).else_if.items (option_map (λ v. view_nodes v.items) (out-Choose c).otherwise) i

pub branch_view : (b : ChooseBranch) → (view_branch b).nodes ≡ view_nodes (out-ChooseBranch b).children.items
branch_view b = rw (fold_out-ChooseBranch Node NamesChildView Node BranchView Node Node Nodes element_step child_step choose_step branch_step group_step names_step substitute_step b) refl

there : {A : Type 0} (xs : List A) (i : ℕ) (x : A) → i < length xs → x ≡ get_or xs i x → slice_get xs i ≡ Some x
there [] i x within is = absurd (omega (arith, within))
there (y ∷ ys) zero x within is = ap Some (sym is)
there (y ∷ ys) (suc i) x within is = there ys i x (omega (arith, within)) is

behind_all : {A : Type 0} (xs : List A) (i : ℕ) → length xs ≤ i → slice_get xs i ≡ None
behind_all [] zero behind = refl
behind_all [] (suc i) behind = refl
behind_all (y ∷ ys) zero behind = absurd (omega (arith, behind))
behind_all (y ∷ ys) (suc i) behind = behind_all ys i (omega (arith, behind))

pub branch_here : (c : Choose) (i : ℕ) (b : ChooseBranch) → i < length (out-Choose c).else_if.items → b ≡ get_or (out-Choose c).else_if.items i b → nodes_of_branch (view_choose c) (i + 1) ≡ Some (view_branch b).nodes
branch_here c i b within is = branch_after c i ∙ ap (λ found. found_or found (option_map (λ v. view_nodes v.items) (out-Choose c).otherwise)) (there (out-Choose c).else_if.items i b within is)

pub branch_last : (c : Choose) (i : ℕ) → length (out-Choose c).else_if.items ≤ i → nodes_of_branch (view_choose c) (i + 1) ≡ option_map (λ v. view_nodes v.items) (out-Choose c).otherwise
branch_last c i behind = branch_after c i ∙ ap (λ found. found_or found (option_map (λ v. view_nodes v.items) (out-Choose c).otherwise)) (behind_all (out-Choose c).else_if.items i behind)

-- ---- the first branch that holds

of_others : (w : RenderInput) (s : State) (o : Option Nodes) → chosen_nodes w s (branches_of [] o) ≡ o
of_others w s None = refl
of_others w s (Some ns) = refl

dropped_all : {A B : Type 0} (f : List A → B) (xs : List A) (i : ℕ) → length xs ≤ i → f (drop i xs) ≡ f []
dropped_all f [] zero behind = refl
dropped_all f [] (suc i) behind = refl
dropped_all f (x ∷ xs) zero behind = absurd (omega (arith, behind))
dropped_all f (x ∷ xs) (suc i) behind = dropped_all f xs i (omega (arith, behind))

module _ (w : RenderInput) (s : State) (c : Choose) where
  abbrev pub else_ifs : List ChooseBranch
  else_ifs = (out-Choose c).else_if.items

  abbrev pub others : Option Nodes
  others = option_map (λ v. view_nodes v.items) (out-Choose c).otherwise

  -- the nodes that a choice takes if it takes none before the `else-if` at a place
  abbrev pub taken_from : ℕ → Option Nodes
  taken_from i = chosen_nodes w s (branches_of (map view_branch (drop i else_ifs)) others)

  pub first_holds : branch_matches w s (view_branch (out-Choose c).if_).tests ≡ true → nodes_of_branch (view_choose c) 0 ≡ chosen_children w s (view_choose c)
  first_holds holds =
      let first = (out-Choose c).if_ in
      branch_first c
      ∙ ap (λ b. if b then Some (view_branch first).nodes else taken_from 0) (sym holds)
      ∙ ap (chosen_children w s) (sym (choose_view c))

  pub here_holds : (i k : ℕ) (b : ChooseBranch) → k ≡ i + 1 → i < length else_ifs → b ≡ get_or else_ifs i b → branch_matches w s (view_branch b).tests ≡ true → taken_from i ≡ chosen_children w s (view_choose c) → nodes_of_branch (view_choose c) k ≡ chosen_children w s (view_choose c)
  here_holds i k b counted within is holds rest =
      ap (nodes_of_branch (view_choose c)) counted
      ∙ branch_here c i b within is
      ∙ ap (λ m. if m then Some (view_branch b).nodes else taken_from (i + 1)) (sym holds)
      ∙ ap (λ x. if branch_matches w s (view_branch x).tests then Some (view_branch x).nodes else taken_from (i + 1)) is
      ∙ sym (at_drop_more (λ l. chosen_nodes w s (branches_of (map view_branch l) others)) else_ifs i b within)
      ∙ rest

  pub none_holds : (i k : ℕ) → k ≡ i + 1 → length else_ifs ≤ i → taken_from i ≡ chosen_children w s (view_choose c) → nodes_of_branch (view_choose c) k ≡ chosen_children w s (view_choose c)
  none_holds i k counted behind rest =
      ap (nodes_of_branch (view_choose c)) counted
      ∙ branch_last c i behind
      ∙ sym (of_others w s others)
      ∙ sym (dropped_all (λ l. chosen_nodes w s (branches_of (map view_branch l) others)) else_ifs i behind)
      ∙ rest
