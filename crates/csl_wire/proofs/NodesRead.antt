-- Nodes that were read, by the facts of their parts.
use Rattle.std.proofs.Common.{◌≡◌, ◌≤◌, refl, sym, ap, subst, ◌∙◌, ℕ, ◌+◌, suc, List, length, take, take_all, map, Option, Some, option_map, option_and_then, codes, arith}
use Rattle.std.specs.Prelude.{Bool, Vec, String, not, ◌&&◌}
use Rattle.std.specs.declared.alloc.Global.{Global}
use Rattle.std.specs.List.{AllZip}
use Rattle.serde_json.specs.Data.{Data}
use Rattle.serde_json.specs.Find.{as_bool, as_str}
use Rattle.serde_json.specs.View.{view}
use Rattle.serde_json.specs.declared.value.Value.{Value}
use Rattle.csl_elements.specs.declared.affixes.Affixes.{Affixes}
use Rattle.csl_elements.specs.declared.formatting.Formatting.{Formatting}
use Rattle.csl_elements.specs.declared.formatting.Display.{Display}
use Rattle.csl_elements.specs.declared.names.options.InheritableNameOptions.{InheritableNameOptions}
use Rattle.csl_elements.specs.declared.taxonomy.DateVariable.{DateVariable}
use Rattle.csl_elements.specs.declared.taxonomy.Kind.{Kind}
use Rattle.csl_elements.specs.declared.taxonomy.Locator.{Locator}
use Rattle.csl_elements.specs.declared.taxonomy.NameVariable.{NameVariable}
use Rattle.csl_elements.specs.declared.taxonomy.Variable.{Variable}
use Rattle.csl_elements.specs.declared.names.Name.{Name}
use Rattle.csl_elements.specs.declared.number.Label.{Label}
use Rattle.csl_elements.specs.declared.number.VariablelessLabel.{VariablelessLabel}
use Rattle.csl_elements.specs.declared.element.ChooseMatch.{ChooseMatch}
use Rattle.csl_elements.specs.declared.element.TestPosition.{TestPosition}
use Rattle.csl_elements.specs.declared.element.Choose.{Choose}
use Rattle.csl_elements.specs.declared.element.ChooseBranch.{roll-ChooseBranch}
use Rattle.csl_elements.specs.declared.element.Group.{Group, roll-Group}
use Rattle.csl_elements.specs.declared.element.LayoutRenderingElement.{LayoutRenderingElement}
use Rattle.csl_elements.specs.declared.element.LayoutRenderingElement.TheVariants as elements
use Rattle.csl_elements.specs.declared.element.LayoutRenderingElement.TheOpen as level
use Rattle.csl_elements.specs.declared.element.LayoutRenderingElement.TheFolds.{fold-roll-LayoutRenderingElement, fold-roll-NamesChild, fold_out-Substitute}
use Rattle.csl_elements.specs.declared.element.Names.{Names, roll-Names}
use Rattle.csl_elements.specs.declared.element.NamesChild.{NamesChild}
use Rattle.csl_elements.specs.declared.element.NamesChild.TheVariants as of_names
use Rattle.csl_elements.specs.declared.element.Substitute.{Substitute, roll-Substitute}
use Rattle.csl_elements.specs.declared.text.Text.{Text}
use Rattle.csl_elements.specs.declared.text.TextTarget.{TextTarget}
use Rattle.csl_elements.specs.declared.text.TextTarget.TheVariants as target
use Rattle.csl_elements.specs.Dressing.{AffixTexts, Dressing, TextDressing, affix_texts, dressing_of, text_if}
use Rattle.csl_elements.specs.declared.names.NamePart.{NamePart}
use Rattle.csl_elements.specs.Names.{view_label, view_name, view_part}
use Rattle.csl_elements.specs.NamesOptions.{partial_options}
use Rattle.csl_elements.specs.Node.{Node, Nodes, label}
use Rattle.csl_elements.specs.View.{NamesChildView, BranchView, a_label, a_name, a_substitute, view_branch, view_child, view_choose, view_group, view_layout, view_names, view_node, view_nodes, view_substitute, view_text, element_step, child_step, choose_step, branch_step, group_step, names_step, substitute_step}
use Rattle.csl_elements.proofs.Rolled.{branch_made, group_view, in_choose, in_group, in_names, names_view}
use Rattle.csl_wire.specs.Dressed.{read_affixes, read_cased_affixes, read_display, read_formatting}
use Rattle.csl_wire.specs.Leaves.{AreNamed, AreNamedIf, IsLabel, IsTarget, IsText, is_link, read_cased_dressing, read_dressing, read_text_dressing}
use Rattle.csl_wire.specs.Named.{date_variable_has, kind_has, locator_has, name_variable_has, variable_has}
use Rattle.csl_wire.specs.Names.{AreOptions, IsName}
use Rattle.csl_wire.specs.Parts.{read_label, read_name_part}
use Rattle.csl_wire.specs.Nodes.{AreNodes, AreNodesIn, has_position, IsBranch, IsChild, IsChildOf, IsNode, IsNodeOf, read_element, read_match}
use Rattle.csl_wire.specs.Reading.{read_flag, read_items, read_list, read_member}
use Rattle.csl_wire.specs.Styles.{IsLayout}

-- ---- nodes by their parts

abbrev with_parts : Formatting → AffixTexts → Option Display → Dressing
with_parts f a s = record { formatting = f; affixes = a; display = s }

pub dressing_read : (d : Data) (f : Formatting) (a : Affixes) (s : Option Display) → read_formatting d ≡ Some f → read_affixes d ≡ Some (affix_texts a) → read_display d ≡ Some s → read_dressing d ≡ Some (dressing_of f a s)
dressing_read d f a s e1 e2 e3 =
    ap (option_and_then (λ f2. option_and_then (λ a2. option_map (with_parts f2 a2) (read_display d)) (read_affixes d))) e1
    ∙ (ap (option_and_then (λ a2. option_map (with_parts f a2) (read_display d))) e2
    ∙ ap (option_map (with_parts f (affix_texts a))) e3)

pub group_read : (marks : Bool) (P : List Data → List Node → Type 0) (d : Data) (children : Vec LayoutRenderingElement Global) (delimiter : Option (String Global)) (f : Formatting) (a : Affixes) (s : Option Display) (items : List Data)
    → read_member as_str (codes "delimiter") d ≡ Some (text_if delimiter)
    → read_formatting d ≡ Some f → read_affixes d ≡ Some (affix_texts a) → read_display d ≡ Some s
    → read_list (codes "children") d ≡ Some items → P items (map view_node children.items)
    → IsNodeOf marks P (codes "group") d (view_group (roll-Group record { children = children; delimiter = delimiter; formatting = f; affixes = a; display = s }))
group_read marks P d children delimiter f a s items e0 e1 e2 e3 e4 p =
    subst (IsNodeOf marks P (codes "group") d) (sym (group_view (roll-Group record { children = children; delimiter = delimiter; formatting = f; affixes = a; display = s }))) (
      refl,
      record {
        delimiter_ = e0;
        dressing_ = dressing_read d f a s e1 e2 e3;
        children = record { items = items; are = e4; list = map view_node children.items; is = refl; each = p };
      },
    )

pub names_read : (marks : Bool) (P : List Data → List Node → Type 0) (d : Data) (variables : Vec NameVariable Global) (children : Vec NamesChild Global) (options : InheritableNameOptions) (delimiter : Option (String Global)) (f : Formatting) (a : Affixes) (s : Option Display) (items : List Data)
    → AreNamed name_variable_has (codes "variable") d variables.items
    → AreOptions (codes "name-form") (codes "name-delimiter") d (partial_options options)
    → read_member as_str (codes "delimiter") d ≡ Some (text_if delimiter)
    → read_formatting d ≡ Some f → read_affixes d ≡ Some (affix_texts a) → read_display d ≡ Some s
    → read_list (codes "children") d ≡ Some items → AllZip (IsChild marks P) items (map view_child children.items)
    → IsNodeOf marks P (codes "names") d (view_names (roll-Names record { variable = variables; children = children; options = options; delimiter = delimiter; formatting = f; affixes = a; display = s }))
names_read marks P d variables children options delimiter f a s items named opts e0 e1 e2 e3 e4 p =
    subst (IsNodeOf marks P (codes "names") d) (sym (names_view (roll-Names record { variable = variables; children = children; options = options; delimiter = delimiter; formatting = f; affixes = a; display = s }))) (
      refl,
      record {
        variables_ = named;
        options_ = opts;
        delimiter_ = e0;
        dressing_ = dressing_read d f a s e1 e2 e3;
        items = items;
        are = e4;
        children = map view_child children.items;
        each = p;
        name_children_ = refl;
        et_al_ = refl;
        label_ = refl;
        child_count_ = refl;
        substitutes_ = refl;
      },
    )

pub branch_read : (P : List Data → List Node → Type 0) (d : Data) (disambiguate : Option Bool) (is_numeric : Option (Vec Variable Global)) (is_uncertain_date : Option (Vec DateVariable Global)) (locator : Option (Vec Locator Global)) (position : Option (Vec TestPosition Global)) (type_ : Option (Vec Kind Global)) (variable : Option (Vec Variable Global)) (match_ : ChooseMatch) (children : Vec LayoutRenderingElement Global) (items : List Data)
    → read_member as_bool (codes "disambiguate") d ≡ Some disambiguate
    → AreNamedIf variable_has (codes "is-numeric") d (option_map (λ v. v.items) is_numeric)
    → AreNamedIf date_variable_has (codes "is-uncertain-date") d (option_map (λ v. v.items) is_uncertain_date)
    → AreNamedIf locator_has (codes "locator") d (option_map (λ v. v.items) locator)
    → AreNamedIf has_position (codes "position") d (option_map (λ v. v.items) position)
    → AreNamedIf kind_has (codes "type") d (option_map (λ v. v.items) type_)
    → AreNamedIf variable_has (codes "variable") d (option_map (λ v. v.items) variable)
    → read_match d ≡ Some match_
    → read_list (codes "children") d ≡ Some items → P items (map view_node children.items)
    → IsBranch P d (view_branch (roll-ChooseBranch record { disambiguate = disambiguate; is_numeric = is_numeric; is_uncertain_date = is_uncertain_date; locator = locator; position = position; type_ = type_; variable = variable; match_ = match_; children = children }))
branch_read P d disambiguate is_numeric is_uncertain_date locator position type_ variable match_ children items e1 e2 e3 e4 e5 e6 e7 e8 e9 p =
    subst (IsBranch P d) (sym (branch_made disambiguate is_numeric is_uncertain_date locator position type_ variable match_ children))
    (record {
      disambiguate = e1;
      is_numeric = e2;
      is_uncertain_date = e3;
      locator = e4;
      position = e5;
      type_ = e6;
      variable = e7;
      match_ = e8;
      children = record { items = items; are = e9; list = map view_node children.items; is = refl; each = p };
    })

-- a layout by its parts
pub layout_read : (marks : Bool) (d : Data) (delimiter : Option (String Global)) (f : Formatting) (elements : Vec LayoutRenderingElement Global)
    → read_member as_str (codes "delimiter") d ≡ Some (text_if delimiter)
    → read_formatting d ≡ Some f
    → AreNodesIn (AreNodes marks 43) (codes "children") d (view_nodes elements.items)
    → IsLayout marks d (view_layout (record { elements = elements; delimiter = delimiter; formatting = f }))
layout_read marks d delimiter f elements e1 e2 p = record { delimiter_ = e1; formatting_ = e2; elements_ = p }

-- a name by its parts
pub name_read : (marks : Bool) (d : Data) (options : InheritableNameOptions) (f : Formatting) (parts : Vec NamePart Global) (items : List Data)
    → AreOptions (codes "form") (codes "delimiter") d (partial_options options)
    → read_formatting d ≡ Some f
    → read_list (codes "name-part") d ≡ Some items → map (read_name_part marks) items ≡ map Some (map view_part parts.items)
    → IsName marks d (view_name (record { options = options; formatting = f; parts = parts }))
name_read marks d options f parts items o e1 e2 e3 = record {
  options_ = o;
  formatting_ = e1;
  parts_ = record { items = items; are = e2; read_as = e3 };
}

-- ---- texts

cased_dressing_read : (marks : Bool) (d : Data) (f : Formatting) (a : Affixes) (s : Option Display) → read_formatting d ≡ Some f → read_cased_affixes marks d ≡ Some (affix_texts a) → read_display d ≡ Some s → read_cased_dressing marks d ≡ Some (dressing_of f a s)
cased_dressing_read marks d f a s e1 e2 e3 =
    ap (option_and_then (λ f2. option_and_then (λ a2. option_map (with_parts f2 a2) (read_display d)) (read_cased_affixes marks d))) e1
    ∙ (ap (option_and_then (λ a2. option_map (with_parts f a2) (read_display d))) e2
    ∙ ap (option_map (with_parts f (affix_texts a))) e3)

abbrev with_flags : Dressing → Bool → Bool → TextDressing
with_flags dressing quotes strip = record { dressing = dressing; quotes = quotes; strip_periods = strip }

text_dressing_read : (marks : Bool) (d : Data) (f : Formatting) (a : Affixes) (s : Option Display) (quotes strip : Bool) → read_formatting d ≡ Some f → read_cased_affixes marks d ≡ Some (affix_texts a) → read_display d ≡ Some s → read_flag (codes "quotes") d ≡ Some quotes → read_flag (codes "strip-periods") d ≡ Some strip → read_text_dressing marks d ≡ Some (with_flags (dressing_of f a s) quotes strip)
text_dressing_read marks d f a s quotes strip e1 e2 e3 e4 e5 =
    ap (option_and_then (λ g. option_and_then (λ q. option_map (with_flags g q) (read_flag (codes "strip-periods") d)) (read_flag (codes "quotes") d))) (cased_dressing_read marks d f a s e1 e2 e3)
    ∙ (ap (option_and_then (λ q. option_map (with_flags (dressing_of f a s) q) (read_flag (codes "strip-periods") d))) e4
    ∙ ap (option_map (with_flags (dressing_of f a s) quotes)) e5)

-- a text by its parts, with marks if it prints no link
pub text_read : (marks own : Bool) (d : Data) (t : TextTarget) (f : Formatting) (a : Affixes) (s : Option Display) (quotes strip : Bool)
    → IsTarget d t → own ≡ marks && not (is_link t)
    → read_formatting d ≡ Some f → read_cased_affixes own d ≡ Some (affix_texts a) → read_display d ≡ Some s
    → read_flag (codes "quotes") d ≡ Some quotes → read_flag (codes "strip-periods") d ≡ Some strip
    → IsText marks d (record { target = t; formatting = f; affixes = a; display = s; quotes = quotes; strip_periods = strip })
text_read marks own d t f a s quotes strip target e e1 e2 e3 e4 e5 = record {
  target = target;
  dressing = subst (λ b. read_text_dressing b d ≡ Some (with_flags (dressing_of f a s) quotes strip)) e (text_dressing_read own d f a s quotes strip e1 e2 e3 e4 e5);
}

-- ---- nodes as rendering elements

-- a node of an element of this name
node_of : (marks : Bool) (P : List Data → List Node → Type 0) (kind name : List ℕ) (e d : Data) (n : Node) → read_element d ≡ Some (kind, e) → kind ≡ name → IsNodeOf marks P name e n → IsNode marks P d n
node_of marks P kind name e d n is k r = record { kind = name; inside = e; is = subst (λ w. read_element d ≡ Some (w, e)) k is; node = r }

pub group_node : (marks : Bool) (P : List Data → List Node → Type 0) (kind : List ℕ) (e d : Data) (g : Group) → read_element d ≡ Some (kind, e) → kind ≡ codes "group" → IsNodeOf marks P (codes "group") e (view_group g) → IsNode marks P d (view_node (elements.Group g))
group_node marks P kind e d g is k r = node_of marks P kind (codes "group") e d (view_node (elements.Group g)) is k (subst (IsNodeOf marks P (codes "group") e) (sym (in_group g)) r)

pub names_node : (marks : Bool) (P : List Data → List Node → Type 0) (kind : List ℕ) (e d : Data) (g : Names) → read_element d ≡ Some (kind, e) → kind ≡ codes "names" → IsNodeOf marks P (codes "names") e (view_names g) → IsNode marks P d (view_node (elements.Names g))
names_node marks P kind e d g is k r = node_of marks P kind (codes "names") e d (view_node (elements.Names g)) is k (subst (IsNodeOf marks P (codes "names") e) (sym (in_names g)) r)

pub choose_node : (marks : Bool) (P : List Data → List Node → Type 0) (kind : List ℕ) (e d : Data) (g : Choose) → read_element d ≡ Some (kind, e) → kind ≡ codes "choose" → IsNodeOf marks P (codes "choose") e (view_choose g) → IsNode marks P d (view_node (elements.Choose g))
choose_node marks P kind e d g is k r = node_of marks P kind (codes "choose") e d (view_node (elements.Choose g)) is k (subst (IsNodeOf marks P (codes "choose") e) (sym (in_choose g)) r)

in_text : (x : Text) → view_node (elements.Text x) ≡ view_text x
in_text x = ap view_node (sym (elements.rolls-Text x)) ∙ fold-roll-LayoutRenderingElement Node NamesChildView Node BranchView Node Node Nodes element_step child_step choose_step branch_step group_step names_step substitute_step (level.Text x)

text_is : (marks : Bool) (P : List Data → List Node → Type 0) (e : Data) (t : Text) (source : TextTarget) → t.target ≡ source → IsText marks e t → IsNodeOf marks P (codes "text") e (view_text t)
text_is marks P e t (target.Variable v form) is r = rw is (refl, record { value = t; is_read = r; is = rw is refl })
text_is marks P e t (target.Macro name) is r = rw is (refl, record { value = t; is_read = r; is = rw is refl })
text_is marks P e t (target.Term v form plural) is r = rw is (refl, record { value = t; is_read = r; is = rw is refl })
text_is marks P e t (target.Value words) is r = rw is (refl, record { value = t; is_read = r; is = rw is refl })

pub text_node : (marks : Bool) (P : List Data → List Node → Type 0) (kind : List ℕ) (e d : Data) (x : Text) → read_element d ≡ Some (kind, e) → kind ≡ codes "text" → IsText marks e x → IsNode marks P d (view_node (elements.Text x))
text_node marks P kind e d x is k r = node_of marks P kind (codes "text") e d (view_node (elements.Text x)) is k (subst (IsNodeOf marks P (codes "text") e) (sym (in_text x)) (text_is marks P e x x.target refl r))

in_label : (x : Label) → view_node (elements.Label x) ≡ label x.variable (view_label x.label)
in_label x = ap view_node (sym (elements.rolls-Label x)) ∙ fold-roll-LayoutRenderingElement Node NamesChildView Node BranchView Node Node Nodes element_step child_step choose_step branch_step group_step names_step substitute_step (level.LayoutRenderingElement::Label x)

pub label_node : (marks : Bool) (P : List Data → List Node → Type 0) (kind : List ℕ) (e d : Data) (x : Label) → read_element d ≡ Some (kind, e) → kind ≡ codes "label" → IsLabel marks e x.variable (view_label x.label) → IsNode marks P d (view_node (elements.Label x))
label_node marks P kind e d x is k r = node_of marks P kind (codes "label") e d (view_node (elements.Label x)) is k (subst (IsNodeOf marks P (codes "label") e) (sym (in_label x)) (refl, r))

-- ---- children of names

substitute_out : (x : Substitute) → view_substitute x ≡ view_nodes x.children.items
substitute_out x = rw (fold_out-Substitute Node NamesChildView Node BranchView Node Node Nodes element_step child_step choose_step branch_step group_step names_step substitute_step x) refl

substitute_view : (x : Substitute) → view_child (of_names.Substitute x) ≡ a_substitute (view_nodes x.children.items)
substitute_view x = ap view_child (sym (of_names.rolls-Substitute x)) ∙ fold-roll-NamesChild Node NamesChildView Node BranchView Node Node Nodes element_step child_step choose_step branch_step group_step names_step substitute_step (level.Substitute x) ∙ ap a_substitute (substitute_out x)

pub substitute_child : (marks : Bool) (P : List Data → List Node → Type 0) (kind : List ℕ) (e d : Data) (children : Vec LayoutRenderingElement Global) (items : List Data) → read_element d ≡ Some (kind, e) → kind ≡ codes "substitute" → read_items e ≡ Some items → P items (map view_node children.items) → IsChild marks P d (view_child (of_names.Substitute (roll-Substitute record { children = children })))
substitute_child marks P kind e d children items is k e1 p =
    let x = roll-Substitute record { children = children } in
    subst (IsChild marks P d) (sym (substitute_view x))
    (record { kind = codes "substitute"; inside = e; is = subst (λ w. read_element d ≡ Some (w, e)) k is; child = (refl, record { items = items; are = e1; list = map view_node children.items; is = refl; each = p }) })

child_of : (marks : Bool) (P : List Data → List Node → Type 0) (kind name : List ℕ) (e d : Data) (c : NamesChildView) → read_element d ≡ Some (kind, e) → kind ≡ name → IsChildOf marks P name e c → IsChild marks P d c
child_of marks P kind name e d c is k r = record { kind = name; inside = e; is = subst (λ w. read_element d ≡ Some (w, e)) k is; child = r }

in_name : (x : Name) → view_child (of_names.Name x) ≡ a_name (view_name x)
in_name x = ap view_child (sym (of_names.rolls-Name x)) ∙ fold-roll-NamesChild Node NamesChildView Node BranchView Node Node Nodes element_step child_step choose_step branch_step group_step names_step substitute_step (level.Name x)

in_label_child : (x : VariablelessLabel) → view_child (of_names.Label x) ≡ a_label (view_label x)
in_label_child x = ap view_child (sym (of_names.rolls-Label x)) ∙ fold-roll-NamesChild Node NamesChildView Node BranchView Node Node Nodes element_step child_step choose_step branch_step group_step names_step substitute_step (level.NamesChild::Label x)

pub name_child : (marks : Bool) (P : List Data → List Node → Type 0) (kind : List ℕ) (e d : Data) (x : Name) → read_element d ≡ Some (kind, e) → kind ≡ codes "name" → IsName marks e (view_name x) → IsChild marks P d (view_child (of_names.Name x))
name_child marks P kind e d x is k r = child_of marks P kind (codes "name") e d (view_child (of_names.Name x)) is k (subst (IsChildOf marks P (codes "name") e) (sym (in_name x)) (refl, r))

pub label_child : (marks : Bool) (P : List Data → List Node → Type 0) (kind : List ℕ) (e d : Data) (x : VariablelessLabel) → read_element d ≡ Some (kind, e) → kind ≡ codes "label" → read_label marks e ≡ Some (view_label x) → IsChild marks P d (view_child (of_names.Label x))
label_child marks P kind e d x is k r = child_of marks P kind (codes "label") e d (view_child (of_names.Label x)) is k (subst (IsChildOf marks P (codes "label") e) (sym (in_label_child x)) (refl, r))

-- ---- lists of nodes

-- a list of nodes, with one list more
pub nodes_above : (marks : Bool) (left lower i : ℕ) (vs : List Value) (es : List LayoutRenderingElement) → lower + 1 ≡ left → length vs ≤ i → AllZip (IsNode marks (AreNodes marks lower)) (map view (take i vs)) (map view_node es) → AreNodes marks left (map view vs) (map view_node es)
unfolding AreNodes
nodes_above marks left lower i vs es e all z =
    let next : suc lower ≡ left = omega (arith, e) in
    let whole : take i vs ≡ vs = take_all i vs all in
    subst (λ k. AreNodes marks k (map view vs) (map view_node es)) next (subst (λ us. AllZip (IsNode marks (AreNodes marks lower)) (map view us) (map view_node es)) whole z)
