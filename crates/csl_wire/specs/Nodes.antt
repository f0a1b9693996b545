-- Which nodes JSON values are read as (CSL 1.0.2, Rendering Elements). A node is an object of one
-- member: the name of its element, with its attributes. `AreNodes marks left` says so of a list of values
-- and a list of nodes, with at most `left` lists in one another; what it says of one node is by what
-- it says of the lists inside (`P`). `marks` is whether cases are read as marks in affixes.
use Rattle.std.specs.Prelude.{◌≡◌, ℕ, Bool, zero, suc, List, [], ◌∷◌, length, false, Option, Some, None, option_map, unwrap_or, map, codes}
use Rattle.std.specs.List.{AllZip}
use Rattle.serde_json.specs.Data.{Data, Members, no_members, member as a_member}
use Rattle.serde_json.specs.Find.{as_bool, as_object, as_str}
use Rattle.csl_elements.specs.declared.element.ChooseMatch.{ChooseMatch}
use Rattle.csl_elements.specs.declared.element.ChooseMatch.TheVariants.{All}
use Rattle.csl_elements.specs.declared.element.TestPosition.{TestPosition}
use Rattle.csl_elements.specs.declared.text.Text.{Text}
use Rattle.csl_elements.specs.Dressing.{Dressing}
use Rattle.csl_elements.specs.Names.{NamesNode}
use Rattle.csl_elements.specs.Node.{Branches, Node, Nodes, Substitutes, text, call, number, label, date, names, choose, group}
use Rattle.csl_elements.specs.View.{BranchView, NamesChildView, a_name, an_et_al, a_label, a_substitute, branches_of, first_et_al, first_label, name_children, nodes_of, substitutes, view_text}
use Rattle.csl_wire.specs.Reading.{lent, pair_by, member, read_choice, read_items, read_list, read_member}
use Rattle.csl_wire.specs.Named.{date_variable_has, kind_has, locator_has, name_variable_has, variable_has}
use Rattle.csl_wire.specs.Leaves.{has_choice, AreNamed, AreNamedIf, IsDate, IsLabel, IsNumber, IsText, read_dressing}
use Rattle.csl_wire.specs.Names.{AreOptions, IsName, read_et_al}
use Rattle.csl_wire.specs.Parts.{read_label}
use Rattle.csl_wire.specs.declared.choices.TheConstants as tables

abbrev only_of : Members → Option (List ℕ × Data)
only_of no_members = None
only_of (a_member name d no_members) = Some (name, d)
only_of (a_member name d (a_member other e ms)) = None

-- the name of an element, and what it has
abbrev pub element_of : Option Members → Option (List ℕ × Data)
element_of None = None
element_of (Some ms) = only_of ms

abbrev pub read_element : Data → Option (List ℕ × Data)
read_element d = element_of (as_object d)

-- a value is a list of these nodes
pub record IsListOf (P : List Data → List Node → Type 0) (d : Data) (ns : Nodes) : Type 0 where
  pub items : List Data
  pub are : read_items d ≡ Some items
  pub list : List Node
  pub is : ns ≡ nodes_of list
  pub each : P items list

-- a member is a list of these nodes; one that is absent, of none
pub record AreNodesIn (P : List Data → List Node → Type 0) (name : List ℕ) (d : Data) (ns : Nodes) : Type 0 where
  pub items : List Data
  pub are : read_list name d ≡ Some items
  pub list : List Node
  pub is : ns ≡ nodes_of list
  pub each : P items list

abbrev pub AreNodesIf : (List Data → List Node → Type 0) → List ℕ → Data → Option Nodes → Type 0
AreNodesIf P name d None = member name d ≡ None
AreNodesIf P name d (Some ns) = AreNodesIn P name d ns

pub record IsGroup (P : List Data → List Node → Type 0) (d : Data) (delimiter : Option (List ℕ)) (dressing : Dressing) (ns : Nodes) : Type 0 where
  pub delimiter_ : read_member as_str (codes "delimiter") d ≡ Some delimiter
  pub dressing_ : read_dressing d ≡ Some dressing
  pub children : AreNodesIn P (codes "children") d ns

-- a branch of a choice
abbrev pub has_position : List ℕ → TestPosition → Type 0
has_position = has_choice (map (pair_by lent) tables.POSITIONS)

abbrev pub read_match : Data → Option ChooseMatch
read_match d = option_map (λ o. unwrap_or o All)
    (read_member (read_choice (map (pair_by lent) tables.MATCHES)) (codes "match") d)

pub record IsBranch (P : List Data → List Node → Type 0) (d : Data) (b : BranchView) : Type 0 where
  pub disambiguate : read_member as_bool (codes "disambiguate") d ≡ Some b.tests.disambiguate
  pub is_numeric : AreNamedIf variable_has (codes "is-numeric") d b.tests.is_numeric
  pub is_uncertain_date : AreNamedIf date_variable_has (codes "is-uncertain-date") d b.tests.is_uncertain_date
  pub locator : AreNamedIf locator_has (codes "locator") d b.tests.locator
  pub position : AreNamedIf has_position (codes "position") d b.tests.position
  pub type_ : AreNamedIf kind_has (codes "type") d b.tests.type_
  pub variable : AreNamedIf variable_has (codes "variable") d b.tests.variable
  pub match_ : read_match d ≡ Some b.tests.match_
  pub children : AreNodesIn P (codes "children") d b.nodes

-- a choice: `if`, the list `else-if`, and perhaps `else`
pub record IsChoose (P : List Data → List Node → Type 0) (d : Data) (bs : Branches) : Type 0 where
  pub first_value : Data
  pub is_first : member (codes "if") d ≡ Some first_value
  pub first : BranchView
  pub first_branch : IsBranch P first_value first
  pub items : List Data
  pub are : read_list (codes "else-if") d ≡ Some items
  pub others : List BranchView
  pub other_branches : AllZip (IsBranch P) items others
  pub last : Option Nodes
  pub otherwise : AreNodesIf P (codes "else") d last
  pub is : bs ≡ branches_of (first ∷ others) last

-- a child of names
abbrev pub IsChildOf : Bool → (List Data → List Node → Type 0) → List ℕ → Data → NamesChildView → Type 0
IsChildOf marks P kind d (a_name n) = (kind ≡ codes "name") × IsName marks d n
IsChildOf marks P kind d (an_et_al e) = (kind ≡ codes "et-al") × (read_et_al d ≡ Some e)
IsChildOf marks P kind d (a_label l) = (kind ≡ codes "label") × (read_label marks d ≡ Some l)
IsChildOf marks P kind d (a_substitute ns) = (kind ≡ codes "substitute") × IsListOf P d ns

pub record IsChild (marks : Bool) (P : List Data → List Node → Type 0) (d : Data) (c : NamesChildView) : Type 0 where
  pub kind : List ℕ
  pub inside : Data
  pub is : read_element d ≡ Some (kind, inside)
  pub child : IsChildOf marks P kind inside c

-- Names, with their children in order.
pub record IsNames (marks : Bool) (P : List Data → List Node → Type 0) (d : Data) (n : NamesNode) (ss : Substitutes) : Type 0 where
  pub variables_ : AreNamed name_variable_has (codes "variable") d n.variables
  pub options_ : AreOptions (codes "name-form") (codes "name-delimiter") d n.options
  pub delimiter_ : read_member as_str (codes "delimiter") d ≡ Some n.delimiter
  pub dressing_ : read_dressing d ≡ Some n.dressing
  pub items : List Data
  pub are : read_list (codes "children") d ≡ Some items
  pub children : List NamesChildView
  pub each : AllZip (IsChild marks P) items children
  pub name_children_ : n.name_children ≡ name_children children
  pub et_al_ : n.et_al ≡ first_et_al children
  pub label_ : n.label ≡ first_label false children
  pub child_count_ : n.child_count ≡ length children
  pub substitutes_ : ss ≡ substitutes children

pub record IsTextNode (marks : Bool) (d : Data) (n : Node) : Type 0 where
  pub value : Text
  pub is_read : IsText marks d value
  pub is : n ≡ view_text value

-- the node of an element of this name
abbrev pub IsNodeOf : Bool → (List Data → List Node → Type 0) → List ℕ → Data → Node → Type 0
IsNodeOf marks P kind d (text t dr) = (kind ≡ codes "text") × IsTextNode marks d (text t dr)
IsNodeOf marks P kind d (call name dr) = (kind ≡ codes "text") × IsTextNode marks d (call name dr)
IsNodeOf marks P kind d (number n) = (kind ≡ codes "number") × IsNumber marks d n
IsNodeOf marks P kind d (label v l) = (kind ≡ codes "label") × IsLabel marks d v l
IsNodeOf marks P kind d (date n) = (kind ≡ codes "date") × IsDate marks d n
IsNodeOf marks P kind d (names n ss) = (kind ≡ codes "names") × IsNames marks P d n ss
IsNodeOf marks P kind d (choose bs) = (kind ≡ codes "choose") × IsChoose P d bs
IsNodeOf marks P kind d (group delimiter dr ns) = (kind ≡ codes "group") × IsGroup P d delimiter dr ns

pub record IsNode (marks : Bool) (P : List Data → List Node → Type 0) (d : Data) (n : Node) : Type 0 where
  pub kind : List ℕ
  pub inside : Data
  pub is : read_element d ≡ Some (kind, inside)
  pub node : IsNodeOf marks P kind inside n

unfoldable pub AreNodes : Bool → ℕ → List Data → List Node → Type 0
AreNodes marks zero ds ns = ⊥
AreNodes marks (suc left) ds ns = AllZip (IsNode marks (AreNodes marks left)) ds ns
