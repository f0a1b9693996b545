-- A walk through all nodes of a list: what is left of it, and what its nodes tell by themselves, which
-- is together what the list tells.
use Rattle.std.proofs.Common.{◌≡◌, ℕ, zero, suc, ◌+◌, ◌<◌, ◌≤◌, Bool, false, ◌||◌, List, [], ◌∷◌, ◌++◌, length, map, drop, get_or, Option, Some, None, option_map, Vec, Global, refl, sym, ap, ap₂, ◌∙◌, arith, append_assoc, append-nil}
use Rattle.std.proofs.Math.Bool.{or_assoc, or-false}
use Rattle.std.specs.Option.{option_or, option_to_list}
use denote.Bor.{Bor}
use Rattle.csl_elements.specs.Node.{Node, text, call, names, choose, group, Nodes, no_nodes, node, Branches, no_branches, otherwise, branch, Substitutes, no_substitutes, substitute, ExpandedNodes, expand, expand_call, expand_nodes, expand_branches, size, sizes, expanded_branches_size}
use Rattle.csl_elements.specs.Dressing.{TextDressing}
use Rattle.csl_elements.specs.View.{Definition, view_node, view_nodes, view_choose, view_branch, view_child, view_names, branches_of, substitutes, NamesChildView, a_substitute}
use Rattle.csl_elements.specs.declared.element.LayoutRenderingElement.{LayoutRenderingElement}
use Rattle.csl_elements.specs.declared.element.Choose.{Choose, out-Choose}
use Rattle.csl_elements.specs.declared.element.ChooseBranch.{ChooseBranch, out-ChooseBranch}
use Rattle.csl_elements.specs.declared.element.Names.{Names, out-Names}
use Rattle.csl_elements.specs.declared.element.NamesChild.{NamesChild}
use Rattle.csl_elements.proofs.Rolled.{names_view}
use Rattle.csl_style.specs.AllNodes.{all_nodes, nodes_inside, nodes_in_branches, nodes_in_substitutes, nodes_in_child, nodes_of_lists, called_name, is_suffix_text}
use Rattle.csl_style.specs.CallGraph.{calls_in_all, call_of}
use Rattle.csl_style.specs.Expansion.{macro_index}
use Rattle.csl_style.specs.Missing.{if_missing, missing_in_nodes}
use Rattle.csl_style.specs.OverCalls.{over_node, over_nodes, over_branches, over_substitutes}
use Rattle.csl_style.specs.YearSuffix.{has_year_suffix, any_has_year_suffix, branches_have_year_suffix}
use Rattle.csl_style.proofs.Called.{place-is}
use Rattle.csl_style.proofs.Meanings.{body-none}
use Rattle.csl_style.proofs.YearSuffixes.{nodes_out, behind, choose_out, substitute_has_year_suffix, substitutes_size, insteads_same, insteads_sized}

-- ---- what is left

-- the last of some lists comes first
pub left_pushed : (ls : List (Bor (List LayoutRenderingElement))) (l : Bor (List LayoutRenderingElement)) → nodes_of_lists (ls ++ l ∷ []) ≡ all_nodes (view_nodes l.now) ++ nodes_of_lists ls
left_pushed [] l = sym (append-nil (all_nodes (view_nodes l.now)))
left_pushed (x ∷ ls) l = ap (λ ns. ns ++ all_nodes (view_nodes x.now)) (left_pushed ls l) ∙ append_assoc (all_nodes (view_nodes l.now)) (nodes_of_lists ls) (all_nodes (view_nodes x.now))

pub none_in : (xs : List LayoutRenderingElement) → length xs ≡ 0 → all_nodes (view_nodes xs) ≡ []
none_in [] e = refl
none_in (x ∷ xs) e = absurd (omega (arith, e))

pub first_in : (ls : List LayoutRenderingElement) (x : LayoutRenderingElement) (xs : List LayoutRenderingElement) → ls ≡ x ∷ xs → all_nodes (view_nodes ls) ≡ view_node x ∷ (nodes_inside (view_node x) ++ all_nodes (view_nodes xs))
first_in ls x xs e = ap (λ (ys : List LayoutRenderingElement). all_nodes (view_nodes ys)) e

pub joined : (xs ys zs : List Node) → (xs ++ ys) ++ zs ≡ xs ++ (ys ++ zs)
joined xs ys zs = append_assoc xs ys zs

-- ---- the branches of a choose and the children of names, from the last to the first

-- the branches from a place on, and the nodes of `cs:else`
abbrev pub branches_from : List ChooseBranch → Option (Vec LayoutRenderingElement Global) → ℕ → List Node
branches_from bs o i = nodes_in_branches (branches_of (map view_branch (drop i bs)) (option_map (λ v. view_nodes v.items) o))

branch_step' : (bs : List ChooseBranch) (o : Option (Vec LayoutRenderingElement Global)) (i : ℕ) (b : ChooseBranch) → i < length bs → b ≡ get_or bs i b
    → branches_from bs o i ≡ all_nodes (view_nodes (out-ChooseBranch b).children.items) ++ branches_from bs o (suc i)
branch_step' [] o i b less is = absurd (omega arith)
branch_step' (x ∷ bs) o zero b less is = ap (λ ns. all_nodes ns ++ branches_from bs o 0) (nodes_out x ∙ ap (λ y. view_nodes (out-ChooseBranch y).children.items) (sym is))
branch_step' (x ∷ bs) o (suc i) b less is = branch_step' bs o i b (omega arith) is

next-place : (i : ℕ) → suc i ≡ i + 1
next-place i = omega arith

pub branch_left : (bs : List ChooseBranch) (o : Option (Vec LayoutRenderingElement Global)) (i : ℕ) (b : ChooseBranch) → i < length bs → b ≡ get_or bs i b
    → branches_from bs o i ≡ all_nodes (view_nodes (out-ChooseBranch b).children.items) ++ branches_from bs o (i + 1)
branch_left bs o i b less is = branch_step' bs o i b less is ∙ ap (λ k. all_nodes (view_nodes (out-ChooseBranch b).children.items) ++ branches_from bs o k) (next-place i)

pub no_branch_left : (bs : List ChooseBranch) (o : Option (Vec LayoutRenderingElement Global)) → branches_from bs o (length bs) ≡ nodes_in_branches (branches_of [] (option_map (λ v. view_nodes v.items) o))
no_branch_left [] o = refl
no_branch_left (x ∷ bs) o = no_branch_left bs o

pub choose_inside : (x : Choose) → nodes_inside (view_choose x) ≡ all_nodes (view_nodes (out-ChooseBranch (out-Choose x).if_).children.items) ++ branches_from (out-Choose x).else_if.items (out-Choose x).otherwise 0
choose_inside x = ap nodes_inside (choose_out x) ∙ ap (λ ns. all_nodes ns ++ nodes_in_branches (behind x)) (nodes_out (out-Choose x).if_)

abbrev pub children_from : List NamesChild → ℕ → List Node
children_from cs i = nodes_in_substitutes (substitutes (map view_child (drop i cs)))

one_child : (c : NamesChildView) (cs : List NamesChildView) → nodes_in_substitutes (substitutes (c ∷ cs)) ≡ nodes_in_child c ++ nodes_in_substitutes (substitutes cs)
one_child (a_substitute ns) cs = refl
one_child other cs = refl

child_step' : (cs : List NamesChild) (i : ℕ) (c : NamesChild) → i < length cs → c ≡ get_or cs i c → children_from cs i ≡ nodes_in_child (view_child c) ++ children_from cs (suc i)
child_step' [] i c less is = absurd (omega arith)
child_step' (x ∷ cs) zero c less is = one_child (view_child x) (map view_child cs) ∙ ap (λ y. nodes_in_child (view_child y) ++ children_from cs 0) (sym is)
child_step' (x ∷ cs) (suc i) c less is = child_step' cs i c (omega arith) is

pub child_left : (cs : List NamesChild) (i : ℕ) (c : NamesChild) → i < length cs → c ≡ get_or cs i c → children_from cs i ≡ nodes_in_child (view_child c) ++ children_from cs (i + 1)
child_left cs i c less is = child_step' cs i c less is ∙ ap (λ k. nodes_in_child (view_child c) ++ children_from cs k) (next-place i)

pub no_child_left : (cs : List NamesChild) → children_from cs (length cs) ≡ []
no_child_left [] = refl
no_child_left (x ∷ cs) = no_child_left cs

pub names_inside : (x : Names) → nodes_inside (view_names x) ≡ children_from (out-Names x).children.items 0
names_inside x = ap nodes_inside (names_view x)

-- ---- what nodes tell by the names that they call

module _ {A : Type 0} (none : A) (one : List ℕ → A) (both : A → A → A) where
  abbrev pub told_by : Option (List ℕ) → A
  told_by None = none
  told_by (Some name) = one name

  abbrev pub over_all : List Node → A
  over_all [] = none
  over_all (n ∷ ns) = both (told_by (called_name n)) (over_all ns)

module _ {A : Type 0} (none : A) (one : List ℕ → A) (both : A → A → A) (left : (a : A) → both none a ≡ a) (right : (a : A) → both a none ≡ a) (assoc : (a b c : A) → both (both a b) c ≡ both a (both b c)) where
  abbrev told : Node → A
  told n = told_by none one both (called_name n)

  abbrev all : List Node → A
  all = over_all none one both

  over_append : (xs ys : List Node) → all (xs ++ ys) ≡ both (all xs) (all ys)
  over_append [] ys = sym (left (all ys))
  over_append (x ∷ xs) ys = ap (both (told x)) (over_append xs ys) ∙ sym (assoc (told x) (all xs) (all ys))

  mutual
    pub all_over : (ns : Nodes) → all (all_nodes ns) ≡ over_nodes none one both ns
    all_over no_nodes = refl
    all_over (node n ns) =
        ap (both (told n)) (over_append (nodes_inside n) (all_nodes ns))
        ∙ sym (assoc (told n) (all (nodes_inside n)) (all (all_nodes ns)))
        ∙ ap₂ both (node_over n) (all_over ns)

    node_over : (n : Node) → both (told n) (all (nodes_inside n)) ≡ over_node none one both n
    node_over (call name d) = right (one name)
    node_over (names n ss) = left (all (nodes_in_substitutes ss)) ∙ substitute_over ss
    node_over (choose bs) = left (all (nodes_in_branches bs)) ∙ branch_over bs
    node_over (group delimiter d ns) = left (all (all_nodes ns)) ∙ all_over ns
    node_over other = left none

    branch_over : (bs : Branches) → all (nodes_in_branches bs) ≡ over_branches none one both bs
    branch_over no_branches = refl
    branch_over (otherwise ns) = all_over ns
    branch_over (branch ts ns bs) = over_append (all_nodes ns) (nodes_in_branches bs) ∙ ap₂ both (all_over ns) (branch_over bs)

    substitute_over : (ss : Substitutes) → all (nodes_in_substitutes ss) ≡ over_substitutes none one both ss
    substitute_over no_substitutes = refl
    substitute_over (substitute ns ss) = over_append (all_nodes ns) (nodes_in_substitutes ss) ∙ ap₂ both (all_over ns) (substitute_over ss)

-- ---- the calls of macros

module _ (ds : List Definition) where
  abbrev pub calls_of : List Node → List ℕ
  calls_of ns = over_all [] (call_of ds) (λ a b. a ++ b) ns

  pub all_calls : (ns : Nodes) → calls_of (all_nodes ns) ≡ calls_in_all ds ns
  all_calls = all_over [] (call_of ds) (λ a b. a ++ b) (λ a. refl) append-nil append_assoc

  calls_by : (n : Node) (name : List ℕ) (o : Option ℕ) (ns : List Node) → called_name n ≡ Some name → macro_index name ds ≡ o → calls_of (n ∷ ns) ≡ option_to_list o ++ calls_of ns
  calls_by n name o ns named is = ap (λ m. told_by [] (call_of ds) (λ a b. a ++ b) m ++ calls_of ns) named ∙ ap (λ p. option_to_list p ++ calls_of ns) is

  pub call_taken : (ps : List ℕ) (n : Node) (name : List ℕ) (i : ℕ) (ns : List Node) → called_name n ≡ Some name → macro_index name ds ≡ Some i → (ps ++ i ∷ []) ++ calls_of ns ≡ ps ++ calls_of (n ∷ ns)
  call_taken ps n name i ns named is = append_assoc ps (i ∷ []) (calls_of ns) ∙ ap (λ xs. ps ++ xs) (sym (calls_by n name (Some i) ns named is))

  pub missing_passed : (n : Node) (name : List ℕ) (ns : List Node) → called_name n ≡ Some name → macro_index name ds ≡ None → calls_of (n ∷ ns) ≡ calls_of ns
  missing_passed n name ns named is = calls_by n name None ns named is

-- ---- the first missing name

or-none : (a : Option (List ℕ)) → option_or a None ≡ a
or-none None = refl
or-none (Some x) = refl

pub or-assoc : (a b c : Option (List ℕ)) → option_or (option_or a b) c ≡ option_or a (option_or b c)
or-assoc None b c = refl
or-assoc (Some x) b c = refl

module _ (ds : List Definition) where
  abbrev pub first_missing : List Node → Option (List ℕ)
  first_missing ns = over_all None (if_missing ds) option_or ns

  pub all_missing : (ns : Nodes) → first_missing (all_nodes ns) ≡ missing_in_nodes ds ns
  all_missing = all_over None (if_missing ds) option_or (λ a. refl) or-none or-assoc

  missing_here : (name : List ℕ) → macro_index name ds ≡ None → if_missing ds name ≡ Some name
  missing_here name h = rw (body-none name ds h) refl

  defined_here : (name : List ℕ) (i : ℕ) → macro_index name ds ≡ Some i → if_missing ds name ≡ None
  defined_here name i h = rw (place-is name ds i h).holds refl

  missing_by : (n : Node) (name : List ℕ) (o : Option (List ℕ)) (ns : List Node) → called_name n ≡ Some name → if_missing ds name ≡ o → first_missing (n ∷ ns) ≡ option_or o (first_missing ns)
  missing_by n name o ns named is = ap (λ m. option_or (told_by None (if_missing ds) option_or m) (first_missing ns)) named ∙ ap (λ p. option_or p (first_missing ns)) is

  pub defined_passed : (n : Node) (name : List ℕ) (i : ℕ) (ns : List Node) → called_name n ≡ Some name → macro_index name ds ≡ Some i → first_missing (n ∷ ns) ≡ first_missing ns
  defined_passed n name i ns named is = missing_by n name None ns named (defined_here name i is)

  pub missing_taken : (m : Option (List ℕ)) (n : Node) (name : List ℕ) (ns : List Node) → called_name n ≡ Some name → macro_index name ds ≡ None → option_or (option_or m (Some name)) (first_missing ns) ≡ option_or m (first_missing (n ∷ ns))
  missing_taken m n name ns named is = or-assoc m (Some name) (first_missing ns) ∙ ap (option_or m) (sym (missing_by n name (Some name) ns named (missing_here name is)))

pub or_names : (a b : Option (Bor (List ℕ))) → option_map (λ name. name.now) (option_or a b) ≡ option_or (option_map (λ name. name.now) a) (option_map (λ name. name.now) b)
or_names None b = refl
or_names (Some x) b = refl

-- ---- texts of the year suffix

-- whether one is in the nodes that a name stands for
abbrev pub macro_has_year_suffix : Option ExpandedNodes → Bool
macro_has_year_suffix None = false
macro_has_year_suffix (Some fs) = any_has_year_suffix fs

module _ (env : List ℕ → Option ExpandedNodes) where
  abbrev pub called_has : Option (List ℕ) → Bool
  called_has None = false
  called_has (Some name) = macro_has_year_suffix (env name)

  -- whether a node has such a text, without the nodes inside it
  abbrev pub own_has : Node → Bool
  own_has n = is_suffix_text n || called_has (called_name n)

  abbrev pub any_own : List Node → Bool
  any_own [] = false
  any_own (n ∷ ns) = own_has n || any_own ns

  pub own_append : (xs ys : List Node) → any_own (xs ++ ys) ≡ (any_own xs || any_own ys)
  own_append [] ys = refl
  own_append (x ∷ xs) ys = ap (λ b. own_has x || b) (own_append xs ys) ∙ sym (or_assoc (own_has x) (any_own xs) (any_own ys))

  by_call : (d : TextDressing) (o : Option ExpandedNodes) → ((false || macro_has_year_suffix o) || false) ≡ has_year_suffix (expand_call d o)
  by_call d None = refl
  by_call d (Some fs) = or-false (any_has_year_suffix fs)

  mutual
    pub all_has : (ns : Nodes) → any_own (all_nodes ns) ≡ any_has_year_suffix (expand_nodes env ns)
    all_has no_nodes = refl
    all_has (node n ns) =
        ap (λ b. own_has n || b) (own_append (nodes_inside n) (all_nodes ns))
        ∙ sym (or_assoc (own_has n) (any_own (nodes_inside n)) (any_own (all_nodes ns)))
        ∙ ap₂ (λ a b. a || b) (node_has n) (all_has ns)

    node_has : (n : Node) → (own_has n || any_own (nodes_inside n)) ≡ has_year_suffix (expand env n)
    node_has (text t d) = or-false (is_suffix_text (text t d) || false) ∙ or-false (is_suffix_text (text t d))
    node_has (call name d) = by_call d (env name)
    node_has (names n ss) = substitute_has ss ∙ sym (insteads_same env n ss)
    node_has (choose bs) = branch_has bs
    node_has (group delimiter d ns) = all_has ns
    node_has other = refl

    branch_has : (bs : Branches) → any_own (nodes_in_branches bs) ≡ branches_have_year_suffix (expand_branches env bs)
    branch_has no_branches = refl
    branch_has (otherwise ns) = all_has ns
    branch_has (branch ts ns bs) = own_append (all_nodes ns) (nodes_in_branches bs) ∙ ap₂ (λ a b. a || b) (all_has ns) (branch_has bs)

    substitute_has : (ss : Substitutes) → any_own (nodes_in_substitutes ss) ≡ substitute_has_year_suffix env ss
    substitute_has no_substitutes = refl
    substitute_has (substitute ns ss) = own_append (all_nodes ns) (nodes_in_substitutes ss) ∙ ap₂ (λ a b. a || b) (all_has ns) (substitute_has ss)

  -- ---- how much is left to be gone through, macros included

  abbrev pub expansion_cost : Option ExpandedNodes → ℕ
  expansion_cost None = 0
  expansion_cost (Some fs) = suc (sizes fs)

  abbrev pub called_cost : Option (List ℕ) → ℕ
  called_cost None = 0
  called_cost (Some name) = expansion_cost (env name)

  abbrev pub own_cost : Node → ℕ
  own_cost n = suc (called_cost (called_name n))

  abbrev pub costs : List Node → ℕ
  costs [] = 0
  costs (n ∷ ns) = own_cost n + costs ns

  pub costs_append : (xs ys : List Node) → costs (xs ++ ys) ≡ costs xs + costs ys
  costs_append [] ys = omega arith
  costs_append (x ∷ xs) ys = omega (arith, costs_append xs ys)

  by_call_cost : (d : TextDressing) (o : Option ExpandedNodes) → suc (expansion_cost o) + 0 ≤ suc (size (expand_call d o))
  by_call_cost d None = omega arith
  by_call_cost d (Some fs) = omega arith

  mutual
    pub all_cost : (ns : Nodes) → costs (all_nodes ns) ≤ sizes (expand_nodes env ns)
    all_cost no_nodes = omega arith
    all_cost (node n ns) = omega (arith, costs_append (nodes_inside n) (all_nodes ns), node_cost n, all_cost ns)

    node_cost : (n : Node) → own_cost n + costs (nodes_inside n) ≤ suc (size (expand env n))
    node_cost (call name d) = by_call_cost d (env name)
    node_cost (names n ss) = omega (arith, substitute_cost ss, insteads_sized env n ss)
    node_cost (choose bs) = omega (arith, branch_cost bs)
    node_cost (group delimiter d ns) = omega (arith, all_cost ns)
    node_cost other = omega arith

    branch_cost : (bs : Branches) → costs (nodes_in_branches bs) ≤ expanded_branches_size (expand_branches env bs)
    branch_cost no_branches = omega arith
    branch_cost (otherwise ns) = omega (arith, all_cost ns)
    branch_cost (branch ts ns bs) = omega (arith, costs_append (all_nodes ns) (nodes_in_branches bs), all_cost ns, branch_cost bs)

    substitute_cost : (ss : Substitutes) → costs (nodes_in_substitutes ss) ≤ substitutes_size env ss
    substitute_cost no_substitutes = omega arith
    substitute_cost (substitute ns ss) = omega (arith, costs_append (all_nodes ns) (nodes_in_substitutes ss), all_cost ns, substitute_cost ss)

-- ---- what the sources name

-- for the nodes inside a choice and a names node
pub ruleset choose_laws = (branch_left, no_branch_left, choose_inside, joined)

pub ruleset names_laws = (child_left, no_child_left, names_inside, joined)

-- for the next node of a walk
pub ruleset next_laws = (left_pushed, none_in, first_in, joined)
