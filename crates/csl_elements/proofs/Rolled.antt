-- The view of a node that holds nodes, by its fields. Callers name these lemmas where they build
-- such a node, with a struct literal or by struct update.
use Rattle.std.proofs.Common.{◌≡◌, Bool, false, ◌∷◌, map, length, refl, sym, ap, ◌∙◌, arith}
use Rattle.std.proofs.lemmas.Grind.{common_steps}
use Rattle.std.specs.Prelude.{Option, option_map, Vec, String}
use Rattle.std.specs.declared.alloc.Global.{Global}
use Rattle.csl_elements.specs.declared.affixes.Affixes.{Affixes}
use Rattle.csl_elements.specs.declared.formatting.Formatting.{Formatting}
use Rattle.csl_elements.specs.declared.formatting.Display.{Display}
use Rattle.csl_elements.specs.declared.names.options.InheritableNameOptions.{InheritableNameOptions}
use Rattle.csl_elements.specs.declared.taxonomy.DateVariable.{DateVariable}
use Rattle.csl_elements.specs.declared.taxonomy.Kind.{Kind}
use Rattle.csl_elements.specs.declared.taxonomy.Locator.{Locator}
use Rattle.csl_elements.specs.declared.taxonomy.NameVariable.{NameVariable}
use Rattle.csl_elements.specs.declared.taxonomy.Variable.{Variable}
use Rattle.csl_elements.specs.declared.element.ChooseMatch.{ChooseMatch}
use Rattle.csl_elements.specs.declared.element.TestPosition.{TestPosition}
use Rattle.csl_elements.specs.declared.element.Group.{Group, out-Group, roll-Group}
use Rattle.csl_elements.specs.declared.element.Choose.{Choose, out-Choose, roll-Choose}
use Rattle.csl_elements.specs.declared.element.ChooseBranch.{ChooseBranch, roll-ChooseBranch}
use Rattle.csl_elements.specs.declared.element.Names.{Names, roll-Names}
use Rattle.csl_elements.specs.declared.element.NamesChild.{NamesChild}
use Rattle.csl_elements.specs.declared.element.LayoutRenderingElement.{LayoutRenderingElement}
use Rattle.csl_elements.specs.declared.element.LayoutRenderingElement.TheVariants as elements
use Rattle.csl_elements.specs.declared.element.LayoutRenderingElement.TheOpen as level
use Rattle.csl_elements.specs.declared.element.LayoutRenderingElement.TheFolds.{fold-roll-LayoutRenderingElement, fold_out-Group, fold_out-Choose, fold_out-Names, fold-roll-Choose, fold-roll-ChooseBranch}
use Rattle.csl_elements.specs.Dressing.{text_if, dressing_of}
use Rattle.csl_elements.specs.NamesOptions.{partial_options}
use Rattle.csl_elements.specs.NamesParts.{names_node, names_substitutes}
use Rattle.csl_elements.specs.Node.{Node, Nodes, choose, group, names}
use Rattle.csl_elements.specs.View.{NamesChildView, BranchView, branches_of, first_et_al, first_label, name_children, substitutes, view_node, view_branch, view_child, view_choose, view_group, view_names, view_nodes, element_step, child_step, choose_step, branch_step, group_step, names_step, substitute_step}

-- ---- a node by its fields

pub group_view : (x : Group) → view_group x ≡ group (text_if (out-Group x).delimiter) (dressing_of (out-Group x).formatting (out-Group x).affixes (out-Group x).display) (view_nodes (out-Group x).children.items)
group_view x = rw (fold_out-Group Node NamesChildView Node BranchView Node Node Nodes element_step child_step choose_step branch_step group_step names_step substitute_step x) refl

pub names_view : (x : Names) → view_names x ≡ names (names_node x) (names_substitutes x)
names_view x = rw (fold_out-Names Node NamesChildView Node BranchView Node Node Nodes element_step child_step choose_step branch_step group_step names_step substitute_step x) refl

pub choose_view : (x : Choose) → view_choose x ≡ choose (branches_of (view_branch (out-Choose x).if_ ∷ map view_branch (out-Choose x).else_if.items) (option_map (λ v. view_nodes v.items) (out-Choose x).otherwise))
choose_view x = rw (fold_out-Choose Node NamesChildView Node BranchView Node Node Nodes element_step child_step choose_step branch_step group_step names_step substitute_step x) (grind (arith, common_steps))

-- ---- a node as a rendering element

pub in_group : (x : Group) → view_node (elements.Group x) ≡ view_group x
in_group x = ap view_node (sym (elements.rolls-Group x)) ∙ fold-roll-LayoutRenderingElement Node NamesChildView Node BranchView Node Node Nodes element_step child_step choose_step branch_step group_step names_step substitute_step (level.Group x)

pub in_names : (x : Names) → view_node (elements.Names x) ≡ view_names x
in_names x = ap view_node (sym (elements.rolls-Names x)) ∙ fold-roll-LayoutRenderingElement Node NamesChildView Node BranchView Node Node Nodes element_step child_step choose_step branch_step group_step names_step substitute_step (level.Names x)

pub in_choose : (x : Choose) → view_node (elements.Choose x) ≡ view_choose x
in_choose x = ap view_node (sym (elements.rolls-Choose x)) ∙ fold-roll-LayoutRenderingElement Node NamesChildView Node BranchView Node Node Nodes element_step child_step choose_step branch_step group_step names_step substitute_step (level.Choose x)

-- ---- a node built from its fields

pub group_made : (children : Vec LayoutRenderingElement Global) (delimiter : Option (String Global)) (f : Formatting) (a : Affixes) (d : Option Display) → view_node (elements.Group (roll-Group record { children = children; delimiter = delimiter; formatting = f; affixes = a; display = d })) ≡ group (text_if delimiter) (dressing_of f a d) (view_nodes children.items)
group_made children delimiter f a d =
    let x = roll-Group record { children = children; delimiter = delimiter; formatting = f; affixes = a; display = d } in
    in_group x ∙ group_view x

pub names_made : (variables : Vec NameVariable Global) (children : Vec NamesChild Global) (options : InheritableNameOptions) (delimiter : Option (String Global)) (f : Formatting) (a : Affixes) (d : Option Display) → view_node (elements.Names (roll-Names record { variable = variables; children = children; options = options; delimiter = delimiter; formatting = f; affixes = a; display = d })) ≡ names (record { variables = variables.items; options = partial_options options; delimiter = text_if delimiter; dressing = dressing_of f a d; name_children = name_children (map view_child children.items); et_al = first_et_al (map view_child children.items); label = first_label false (map view_child children.items); child_count = length (map view_child children.items) }) (substitutes (map view_child children.items))
names_made variables children options delimiter f a d =
    let x = roll-Names record { variable = variables; children = children; options = options; delimiter = delimiter; formatting = f; affixes = a; display = d } in
    in_names x ∙ names_view x

pub choose_made : (b : ChooseBranch) (bs : Vec ChooseBranch Global) (o : Option (Vec LayoutRenderingElement Global)) → view_node (elements.Choose (roll-Choose record { if_ = b; else_if = bs; otherwise = o })) ≡ choose (branches_of (view_branch b ∷ map view_branch bs.items) (option_map (λ v. view_nodes v.items) o))
choose_made b bs o = in_choose (roll-Choose record { if_ = b; else_if = bs; otherwise = o }) ∙ (rw (fold-roll-Choose Node NamesChildView Node BranchView Node Node Nodes element_step child_step choose_step branch_step group_step names_step substitute_step record { if_ = b; else_if = bs; otherwise = o }) (grind (arith, common_steps)))

pub branch_made : (disambiguate : Option Bool) (is_numeric : Option (Vec Variable Global)) (is_uncertain_date : Option (Vec DateVariable Global)) (locator : Option (Vec Locator Global)) (position : Option (Vec TestPosition Global)) (type_ : Option (Vec Kind Global)) (variable : Option (Vec Variable Global)) (match_ : ChooseMatch) (children : Vec LayoutRenderingElement Global) → view_branch (roll-ChooseBranch record { disambiguate = disambiguate; is_numeric = is_numeric; is_uncertain_date = is_uncertain_date; locator = locator; position = position; type_ = type_; variable = variable; match_ = match_; children = children }) ≡ record { tests = record { disambiguate = disambiguate; is_numeric = option_map (λ v. v.items) is_numeric; is_uncertain_date = option_map (λ v. v.items) is_uncertain_date; locator = option_map (λ v. v.items) locator; position = option_map (λ v. v.items) position; type_ = option_map (λ v. v.items) type_; variable = option_map (λ v. v.items) variable; match_ = match_ }; nodes = view_nodes children.items }
branch_made disambiguate is_numeric is_uncertain_date locator position type_ variable match_ children = fold-roll-ChooseBranch Node NamesChildView Node BranchView Node Node Nodes element_step child_step choose_step branch_step group_step names_step substitute_step (record { disambiguate = disambiguate; is_numeric = is_numeric; is_uncertain_date = is_uncertain_date; locator = locator; position = position; type_ = type_; variable = variable; match_ = match_; children = children })
