-- What the nodes of a list name one by one, which is together what the list names with all macros
-- expanded.
use Rattle.std.proofs.Common.{◌≡◌, ℕ, Bool, true, false, List, [], ◌∷◌, ◌++◌, map, Option, Some, None, option_map, refl, sym, ap, ap₂, ◌∙◌, if◌then◌else◌}
use Rattle.std.proofs.lemmas.Grind.{common_steps}
use Rattle.csl_elements.specs.NamedSet.{named_set, NamedSet, empty_named_set, named_union}
use Rattle.std.specs.Prelude.{◌||◌}
use Rattle.csl_elements.specs.declared.taxonomy.NameVariable.{NameVariable}
use Rattle.csl_elements.specs.declared.taxonomy.Variable.{Variable}
use Rattle.csl_elements.specs.declared.taxonomy.Variable.TheVariants as variable
use Rattle.csl_elements.specs.Names.{NamesNode, shorthand_expansion}
use Rattle.csl_elements.specs.Node.{Node, text, call, number, label, date, names, choose, group, Nodes, no_nodes, node, Branches, no_branches, otherwise, branch, Substitutes, no_substitutes, substitute, expanded_names, shorthand, ExpandedNodes, no_expanded_substitutes, as_substitute_child, is_childless, expand, expand_call, expand_nodes, expand_substitute_nodes, expand_branches, expand_substitutes}
use Rattle.csl_elements.specs.Dressing.{TextDressing}
use Rattle.csl_elements.specs.NamesParts.{names_node, names_substitutes}
use Rattle.csl_elements.specs.View.{view_choose, view_branch, view_names, branches_of, NamesChildView, BranchView, element_step, child_step, choose_step, branch_step, group_step, names_step, substitute_step}
use Rattle.csl_elements.specs.declared.element.Choose.{Choose, out-Choose}
use Rattle.csl_elements.specs.declared.element.ChooseBranch.{ChooseBranch, out-ChooseBranch}
use Rattle.csl_elements.specs.declared.element.LayoutRenderingElement.TheFolds.{fold_out-ChooseBranch}
use Rattle.csl_elements.specs.declared.element.Names.{Names, out-Names}
use Rattle.csl_elements.specs.declared.named.Named.{Named}
use Rattle.csl_elements.proofs.Rolled.{names_view}
use Rattle.csl_elements.proofs.Sets.{join_assoc, join_none, none_join, join_same, join_turn}
use Rattle.csl_style.specs.AllNodes.{all_nodes, nodes_inside, nodes_in_branches, nodes_in_substitutes, called_name}
use Rattle.csl_style.specs.Named.{named_in_node, named_in_nodes, named_in_branches, named_in_substitutes, named_in_names, named_in_target, named_in_tests, the_number_or_page, date_if, each_of, each_if, the_name, the_variable, the_date, the_kind}
use Rattle.csl_style.specs.NamedWalk.{Adds, named_itself, tested_itself, told_itself, part_itself, part_in, named_in_all_tests, named_in_tests_of}
use Rattle.csl_style.specs.Reached.{called_nodes}
use Rattle.csl_style.specs.NamesOf.{has_variable, is_names_of, any_is_names_of, substitute_has_names_of, has_alone, is_written_names_of, any_is_written_names_of, substitute_has_written_names_of, has_written_alone}
use Rattle.csl_style.specs.Tested.{tested_in_node, tested_in_nodes, tested_in_branches, tested_in_substitutes}
use Rattle.csl_style.specs.Told.{names_if, names_told, told_in_node, told_in_nodes, told_in_branches, told_in_substitutes}
use Rattle.csl_style.specs.declared.named.Part.{Part}
use Rattle.csl_style.specs.declared.named.Part.TheVariants.{Whole, Tested, Beside}
use Rattle.csl_style.proofs.Within.{substitutes_within}
use Rattle.csl_style.proofs.YearSuffixes.{choose_out}

pub adds_nothing : (n : Named) → Adds empty_named_set n n
adds_nothing n = sym (join_none (named_set n))

pub adds_both : (a b : NamedSet) (x y z : Named) → Adds a x y → Adds b y z → Adds (named_union a b) x z
adds_both a b x y z f g = g ∙ ap (λ n. named_union n b) f ∙ join_assoc (named_set x) a b

-- for a loop that adds what each item names
pub ruleset join_laws = (common_steps, join_assoc, join_none)

-- ---- one level of names, a branch and a choose

pub names_itself : (x : Names) → named_itself (view_names x) ≡ each_of the_name (out-Names x).variable.items
names_itself x = ap named_itself (names_view x)

pub tests_out : (b : ChooseBranch) → named_in_tests_of b ≡ named_union (each_if the_variable (option_map (λ v. v.items) (out-ChooseBranch b).is_numeric)) (named_union (each_if the_date (option_map (λ v. v.items) (out-ChooseBranch b).is_uncertain_date)) (named_union (each_if the_kind (option_map (λ v. v.items) (out-ChooseBranch b).type_)) (each_if the_variable (option_map (λ v. v.items) (out-ChooseBranch b).variable))))
tests_out b = rw (fold_out-ChooseBranch Node NamesChildView Node BranchView Node Node Nodes element_step child_step choose_step branch_step group_step names_step substitute_step b) refl

all_tests : (bs : List ChooseBranch) (o : Option Nodes) → named_in_all_tests (branches_of (map view_branch bs) o) ≡ each_of named_in_tests_of bs
all_tests [] None = refl
all_tests [] (Some ns) = refl
all_tests (b ∷ bs) o = ap (named_union (named_in_tests_of b)) (all_tests bs o)

pub choose_itself : (x : Choose) → named_itself (view_choose x) ≡ named_union (named_in_tests_of (out-Choose x).if_) (each_of named_in_tests_of (out-Choose x).else_if.items)
choose_itself x = ap named_itself (choose_out x) ∙ ap (named_union (named_in_tests_of (out-Choose x).if_)) (all_tests (out-Choose x).else_if.items _)

pub choose_tested : (x : Choose) → tested_itself (view_choose x) ≡ named_itself (view_choose x)
choose_tested x = ap tested_itself (choose_out x) ∙ sym (ap named_itself (choose_out x))

pub choose_told : (v : Variable) (x : Choose) → told_itself v (view_choose x) ≡ named_itself (view_choose x)
choose_told v x = ap (told_itself v) (choose_out x) ∙ sym (ap named_itself (choose_out x))

pub names_written : (v : NameVariable) (x : Names) → is_written_names_of v (view_names x) ≡ has_variable v (names_node x).variables
names_written v x = ap (is_written_names_of v) (names_view x)

pub names_told_itself : (v : Variable) (x : Names) → told_itself v (view_names x) ≡ names_if (has_written_alone v (names_node x) (names_substitutes x)) (names_node x)
names_told_itself v x = ap (told_itself v) (names_view x)

pub names_named : (x : Names) → named_itself (view_names x) ≡ named_in_names (names_node x)
names_named x = ap named_itself (names_view x)

pub ruleset names_laws = (join_laws, names_itself)

pub ruleset told_names_laws = (common_steps, names_told_itself, names_named)

pub ruleset choose_laws = (join_laws, choose_itself)

-- ---- all nodes

join_cross : (a b c d : NamedSet) → named_union (named_union a b) (named_union c d) ≡ named_union a (named_union c (named_union b d))
join_cross a b c d =
    sym (join_assoc (named_union a b) c d) ∙ ap (λ s. named_union s d) (join_turn a b c)
    ∙ join_assoc (named_union a c) b d ∙ join_assoc a c (named_union b d)

-- what a macro's nodes name; nothing if the style lacks the macro
abbrev pub in_macro : (ExpandedNodes → NamedSet) → Option ExpandedNodes → NamedSet
in_macro whole None = empty_named_set
in_macro whole (Some fs) = whole fs

-- `itself` says what a node names without those inside it, `whole` what nodes name altogether
module _ (itself : Node → NamedSet) (whole : ExpandedNodes → NamedSet) (env : List ℕ → Option ExpandedNodes) where
  -- what a node names itself and by the macro that it calls, without the nodes inside it
  abbrev pub own_named : Node → NamedSet
  own_named n = named_union (itself n) (in_macro whole (called_nodes env (called_name n)))

  abbrev pub all_named : List Node → NamedSet
  all_named [] = empty_named_set
  all_named (n ∷ ns) = named_union (own_named n) (all_named ns)

  pub named_append : (xs ys : List Node) → all_named (xs ++ ys) ≡ named_union (all_named xs) (all_named ys)
  named_append [] ys = sym (none_join (all_named ys))
  named_append (x ∷ xs) ys = ap (named_union (own_named x)) (named_append xs ys) ∙ sym (join_assoc (own_named x) (all_named xs) (all_named ys))

leaf : (a : NamedSet) → named_union (named_union a empty_named_set) empty_named_set ≡ a
leaf a = join_none (named_union a empty_named_set) ∙ join_none a

nothing_before : (a : NamedSet) → named_union (named_union empty_named_set empty_named_set) a ≡ a
nothing_before a = ap (λ s. named_union s a) (join_none empty_named_set) ∙ none_join a

-- ---- all that they name

module _ (env : List ℕ → Option ExpandedNodes) where
  -- substitutes as written: a node without children names the same in one and elsewhere
  abbrev whole_substitutes : Substitutes → NamedSet
  whole_substitutes no_substitutes = empty_named_set
  whole_substitutes (substitute ns ss) = named_union (named_in_nodes (expand_nodes env ns)) (whole_substitutes ss)

  whole_within : (original : NamesNode) (ss : Substitutes) → named_in_substitutes (expand_substitutes env original ss) ≡ whole_substitutes ss
  whole_within =
      substitutes_within env (named_in_node) (named_in_nodes) named_union (λ original n. join_same (named_in_names n) ∙ sym (join_none (named_in_names n))) (λ f fs. refl)
      (named_in_substitutes) whole_substitutes named_union refl (λ fs is. refl) (λ ns ss. refl)

  whole_by_call : (d : TextDressing) (o : Option ExpandedNodes) → in_macro named_in_nodes o ≡ named_in_node (expand_call d o)
  whole_by_call d None = refl
  whole_by_call d (Some fs) = refl

  mutual
    pub whole_list : (ns : Nodes) → all_named named_itself named_in_nodes env (all_nodes ns) ≡ named_in_nodes (expand_nodes env ns)
    whole_list no_nodes = refl
    whole_list (node n ns) =
        ap (named_union (own_named named_itself named_in_nodes env n)) (named_append named_itself named_in_nodes env (nodes_inside n) (all_nodes ns))
        ∙ sym (join_assoc (own_named named_itself named_in_nodes env n) (all_named named_itself named_in_nodes env (nodes_inside n)) (all_named named_itself named_in_nodes env (all_nodes ns)))
        ∙ ap₂ named_union (whole_node n) (whole_list ns)

    whole_node : (n : Node) → named_union (own_named named_itself named_in_nodes env n) (all_named named_itself named_in_nodes env (nodes_inside n)) ≡ named_in_node (expand env n)
    whole_node (text t d) = leaf (named_in_target t)
    whole_node (call name d) = join_none _ ∙ none_join (in_macro named_in_nodes (env name)) ∙ whole_by_call d (env name)
    whole_node (number n) = leaf (the_number_or_page n.variable)
    whole_node (label u l) = leaf (the_number_or_page u)
    whole_node (date d) = leaf (date_if d.variable)
    whole_node (names n ss) = ap₂ named_union (join_none (named_in_names n)) (whole_insides ss ∙ sym (whole_within n ss))
    whole_node (choose bs) = ap (λ a. named_union a (all_named named_itself named_in_nodes env (nodes_in_branches bs))) (join_none (named_in_all_tests bs)) ∙ whole_branches bs
    whole_node (group delimiter d ns) = nothing_before (all_named named_itself named_in_nodes env (all_nodes ns)) ∙ whole_list ns

    whole_branches : (bs : Branches) → named_union (named_in_all_tests bs) (all_named named_itself named_in_nodes env (nodes_in_branches bs)) ≡ named_in_branches (expand_branches env bs)
    whole_branches no_branches = join_none empty_named_set
    whole_branches (otherwise ns) = none_join (all_named named_itself named_in_nodes env (all_nodes ns)) ∙ whole_list ns
    whole_branches (branch ts ns bs) =
        ap (named_union (named_union (named_in_tests ts) (named_in_all_tests bs))) (named_append named_itself named_in_nodes env (all_nodes ns) (nodes_in_branches bs))
        ∙ join_cross (named_in_tests ts) (named_in_all_tests bs) (all_named named_itself named_in_nodes env (all_nodes ns)) (all_named named_itself named_in_nodes env (nodes_in_branches bs))
        ∙ ap (named_union (named_in_tests ts)) (ap₂ named_union (whole_list ns) (whole_branches bs))

    whole_insides : (ss : Substitutes) → all_named named_itself named_in_nodes env (nodes_in_substitutes ss) ≡ whole_substitutes ss
    whole_insides no_substitutes = refl
    whole_insides (substitute ns ss) = named_append named_itself named_in_nodes env (all_nodes ns) (nodes_in_substitutes ss) ∙ ap₂ named_union (whole_list ns) (whole_insides ss)

-- ---- what tests of branches name

module _ (env : List ℕ → Option ExpandedNodes) where
  -- substitutes as written: a node without children names the same in one and elsewhere
  abbrev tested_substitutes : Substitutes → NamedSet
  tested_substitutes no_substitutes = empty_named_set
  tested_substitutes (substitute ns ss) = named_union (tested_in_nodes (expand_nodes env ns)) (tested_substitutes ss)

  tested_within : (original : NamesNode) (ss : Substitutes) → tested_in_substitutes (expand_substitutes env original ss) ≡ tested_substitutes ss
  tested_within =
      substitutes_within env (tested_in_node) (tested_in_nodes) named_union (λ original n. refl) (λ f fs. refl)
      (tested_in_substitutes) tested_substitutes named_union refl (λ fs is. refl) (λ ns ss. refl)

  tested_by_call : (d : TextDressing) (o : Option ExpandedNodes) → in_macro tested_in_nodes o ≡ tested_in_node (expand_call d o)
  tested_by_call d None = refl
  tested_by_call d (Some fs) = refl

  mutual
    pub tested_list : (ns : Nodes) → all_named tested_itself tested_in_nodes env (all_nodes ns) ≡ tested_in_nodes (expand_nodes env ns)
    tested_list no_nodes = refl
    tested_list (node n ns) =
        ap (named_union (own_named tested_itself tested_in_nodes env n)) (named_append tested_itself tested_in_nodes env (nodes_inside n) (all_nodes ns))
        ∙ sym (join_assoc (own_named tested_itself tested_in_nodes env n) (all_named tested_itself tested_in_nodes env (nodes_inside n)) (all_named tested_itself tested_in_nodes env (all_nodes ns)))
        ∙ ap₂ named_union (tested_node n) (tested_list ns)

    tested_node : (n : Node) → named_union (own_named tested_itself tested_in_nodes env n) (all_named tested_itself tested_in_nodes env (nodes_inside n)) ≡ tested_in_node (expand env n)
    tested_node (text t d) = leaf empty_named_set
    tested_node (call name d) = join_none _ ∙ none_join (in_macro tested_in_nodes (env name)) ∙ tested_by_call d (env name)
    tested_node (number n) = leaf empty_named_set
    tested_node (label u l) = leaf empty_named_set
    tested_node (date d) = leaf empty_named_set
    tested_node (names n ss) = nothing_before (all_named tested_itself tested_in_nodes env (nodes_in_substitutes ss)) ∙ tested_insides ss ∙ sym (tested_within n ss)
    tested_node (choose bs) = ap (λ a. named_union a (all_named tested_itself tested_in_nodes env (nodes_in_branches bs))) (join_none (named_in_all_tests bs)) ∙ tested_branches bs
    tested_node (group delimiter d ns) = nothing_before (all_named tested_itself tested_in_nodes env (all_nodes ns)) ∙ tested_list ns

    tested_branches : (bs : Branches) → named_union (named_in_all_tests bs) (all_named tested_itself tested_in_nodes env (nodes_in_branches bs)) ≡ tested_in_branches (expand_branches env bs)
    tested_branches no_branches = join_none empty_named_set
    tested_branches (otherwise ns) = none_join (all_named tested_itself tested_in_nodes env (all_nodes ns)) ∙ tested_list ns
    tested_branches (branch ts ns bs) =
        ap (named_union (named_union (named_in_tests ts) (named_in_all_tests bs))) (named_append tested_itself tested_in_nodes env (all_nodes ns) (nodes_in_branches bs))
        ∙ join_cross (named_in_tests ts) (named_in_all_tests bs) (all_named tested_itself tested_in_nodes env (all_nodes ns)) (all_named tested_itself tested_in_nodes env (nodes_in_branches bs))
        ∙ ap (named_union (named_in_tests ts)) (ap₂ named_union (tested_list ns) (tested_branches bs))

    tested_insides : (ss : Substitutes) → all_named tested_itself tested_in_nodes env (nodes_in_substitutes ss) ≡ tested_substitutes ss
    tested_insides no_substitutes = refl
    tested_insides (substitute ns ss) = named_append tested_itself tested_in_nodes env (all_nodes ns) (nodes_in_substitutes ss) ∙ ap₂ named_union (tested_list ns) (tested_insides ss)

-- ---- what a cite of one variable tells beside it

is_written : (env : List ℕ → Option ExpandedNodes) (v : NameVariable) (original : NamesNode) (n : Node) → is_written_names_of v n ≡ is_names_of v (as_substitute_child original n (expand env n))
is_written env v original (text t d) = refl
is_written env v original (call name d) = by_meaning (env name) where
  by_meaning : (o : Option ExpandedNodes) → false ≡ is_names_of v (expand_call d o)
  by_meaning None = refl
  by_meaning (Some fs) = refl
is_written env v original (number n) = refl
is_written env v original (label u l) = refl
is_written env v original (date d) = refl
is_written env v original (names n ss) = either_way (is_childless n ss) where
  either_way : (b : Bool) → has_variable v n.variables ≡ is_names_of v (if b then shorthand n (shorthand_expansion original n) else expand env (names n ss))
  either_way true = refl
  either_way false = refl
is_written env v original (choose bs) = refl
is_written env v original (group delimiter d ns) = refl

any_is_written : (env : List ℕ → Option ExpandedNodes) (v : NameVariable) (original : NamesNode) (ns : Nodes) → any_is_written_names_of v ns ≡ any_is_names_of v (expand_substitute_nodes env original ns)
any_is_written env v original no_nodes = refl
any_is_written env v original (node n ns) = ap₂ (λ a b. a || b) (is_written env v original n) (any_is_written env v original ns)

substitute_written : (env : List ℕ → Option ExpandedNodes) (v : NameVariable) (original : NamesNode) (ss : Substitutes) → substitute_has_written_names_of v ss ≡ substitute_has_names_of v (expand_substitutes env original ss)
substitute_written env v original no_substitutes = refl
substitute_written env v original (substitute ns ss) = any_is_written env v original ns

alone_written : (env : List ℕ → Option ExpandedNodes) (v : Variable) (n : NamesNode) (ss : Substitutes) → has_written_alone v n ss ≡ has_alone v n (expand_substitutes env n ss)
alone_written env (variable.Standard x) n ss = refl
alone_written env (variable.Number x) n ss = refl
alone_written env (variable.Page x) n ss = refl
alone_written env (variable.Name x) n ss = ap (λ b. has_variable x n.variables || b) (substitute_written env x n ss)
alone_written env (variable.Date x) n ss = refl

-- names without children have in a substitute the variables that they have elsewhere
alone_in_place : (v : Variable) (original n : NamesNode) → has_alone v (shorthand_expansion original n) no_expanded_substitutes ≡ has_alone v n no_expanded_substitutes
alone_in_place (variable.Standard x) original n = refl
alone_in_place (variable.Number x) original n = refl
alone_in_place (variable.Page x) original n = refl
alone_in_place (variable.Name x) original n = refl
alone_in_place (variable.Date x) original n = refl

names_in_place : (b : Bool) (original n : NamesNode) → names_if b (shorthand_expansion original n) ≡ names_if b n
names_in_place true original n = refl
names_in_place false original n = refl

shorthand_told : (v : Variable) (original n : NamesNode) → told_in_node v (shorthand n (shorthand_expansion original n)) ≡ told_in_node v (expanded_names n no_expanded_substitutes)
shorthand_told v original n =
    ap (named_union (names_told v n no_expanded_substitutes)) (names_in_place (has_alone v (shorthand_expansion original n) no_expanded_substitutes) original n ∙ ap (λ b. names_if b n) (alone_in_place v original n))
    ∙ join_same (names_told v n no_expanded_substitutes) ∙ sym (join_none (names_told v n no_expanded_substitutes))

module _ (v : Variable) (env : List ℕ → Option ExpandedNodes) where
  -- substitutes as written: a node without children names the same in one and elsewhere
  abbrev told_substitutes : Substitutes → NamedSet
  told_substitutes no_substitutes = empty_named_set
  told_substitutes (substitute ns ss) = named_union (told_in_nodes v (expand_nodes env ns)) (told_substitutes ss)

  told_within : (original : NamesNode) (ss : Substitutes) → told_in_substitutes v (expand_substitutes env original ss) ≡ told_substitutes ss
  told_within =
      substitutes_within env (told_in_node v) (told_in_nodes v) named_union (shorthand_told v) (λ f fs. refl)
      (told_in_substitutes v) told_substitutes named_union refl (λ fs is. refl) (λ ns ss. refl)

  told_by_call : (d : TextDressing) (o : Option ExpandedNodes) → in_macro (told_in_nodes v) o ≡ told_in_node v (expand_call d o)
  told_by_call d None = refl
  told_by_call d (Some fs) = refl

  mutual
    pub told_list : (ns : Nodes) → all_named (told_itself v) (told_in_nodes v) env (all_nodes ns) ≡ told_in_nodes v (expand_nodes env ns)
    told_list no_nodes = refl
    told_list (node n ns) =
        ap (named_union (own_named (told_itself v) (told_in_nodes v) env n)) (named_append (told_itself v) (told_in_nodes v) env (nodes_inside n) (all_nodes ns))
        ∙ sym (join_assoc (own_named (told_itself v) (told_in_nodes v) env n) (all_named (told_itself v) (told_in_nodes v) env (nodes_inside n)) (all_named (told_itself v) (told_in_nodes v) env (all_nodes ns)))
        ∙ ap₂ named_union (told_node n) (told_list ns)

    told_node : (n : Node) → named_union (own_named (told_itself v) (told_in_nodes v) env n) (all_named (told_itself v) (told_in_nodes v) env (nodes_inside n)) ≡ told_in_node v (expand env n)
    told_node (text t d) = leaf empty_named_set
    told_node (call name d) = join_none _ ∙ none_join (in_macro (told_in_nodes v) (env name)) ∙ told_by_call d (env name)
    told_node (number n) = leaf empty_named_set
    told_node (label u l) = leaf (the_number_or_page u)
    told_node (date d) = leaf empty_named_set
    told_node (names n ss) = ap₂ named_union (join_none (names_if (has_written_alone v n ss) n) ∙ ap (λ b. names_if b n) (alone_written env v n ss)) (told_insides ss ∙ sym (told_within n ss))
    told_node (choose bs) = ap (λ a. named_union a (all_named (told_itself v) (told_in_nodes v) env (nodes_in_branches bs))) (join_none (named_in_all_tests bs)) ∙ told_branches bs
    told_node (group delimiter d ns) = nothing_before (all_named (told_itself v) (told_in_nodes v) env (all_nodes ns)) ∙ told_list ns

    told_branches : (bs : Branches) → named_union (named_in_all_tests bs) (all_named (told_itself v) (told_in_nodes v) env (nodes_in_branches bs)) ≡ told_in_branches v (expand_branches env bs)
    told_branches no_branches = join_none empty_named_set
    told_branches (otherwise ns) = none_join (all_named (told_itself v) (told_in_nodes v) env (all_nodes ns)) ∙ told_list ns
    told_branches (branch ts ns bs) =
        ap (named_union (named_union (named_in_tests ts) (named_in_all_tests bs))) (named_append (told_itself v) (told_in_nodes v) env (all_nodes ns) (nodes_in_branches bs))
        ∙ join_cross (named_in_tests ts) (named_in_all_tests bs) (all_named (told_itself v) (told_in_nodes v) env (all_nodes ns)) (all_named (told_itself v) (told_in_nodes v) env (nodes_in_branches bs))
        ∙ ap (named_union (named_in_tests ts)) (ap₂ named_union (told_list ns) (told_branches bs))

    told_insides : (ss : Substitutes) → all_named (told_itself v) (told_in_nodes v) env (nodes_in_substitutes ss) ≡ told_substitutes ss
    told_insides no_substitutes = refl
    told_insides (substitute ns ss) = named_append (told_itself v) (told_in_nodes v) env (all_nodes ns) (nodes_in_substitutes ss) ∙ ap₂ named_union (told_list ns) (told_insides ss)

-- ---- each part

-- what the nodes of a list name one by one is what the list names
abbrev pub AddsUp : (Node → NamedSet) → (ExpandedNodes → NamedSet) → Type 0
AddsUp itself whole = (env : List ℕ → Option ExpandedNodes) (ns : Nodes) → all_named itself whole env (all_nodes ns) ≡ whole (expand_nodes env ns)

pub part_adds_up : (part : Part) → AddsUp (part_itself part) (part_in part)
part_adds_up Whole = whole_list
part_adds_up Tested = tested_list
part_adds_up (Beside v) = told_list v

pub join_comm : (a b : NamedSet) → named_union a b ≡ named_union b a
unfolding named_union
join_comm a b = join_turn empty_named_set a b
