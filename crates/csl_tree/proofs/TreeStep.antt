-- `==` of two trees, one level at a time: the fields, and the children one by one.
use Rattle.std.proofs.Common.{◌≡◌, ℕ, ◌<◌, ◌≤◌, Bool, true, false, ◌&&◌, List, [], ◌∷◌, refl, sym, ap, subst, ◌∙◌}
use Rattle.std.specs.Prelude.{string_bytes, ◌==◌}
use Rattle.std.specs.Option.{option_eq}
use Rattle.std.specs.Str.{bytes_eq}
use Rattle.std.specs.Cmp.Lexicographic.{pointwise}
use mathlib.Core.Former.{Count, none_left, one_more, list, this, children}
use mathlib.Core.Former as One
use mathlib.Core.Sorted.{All}
use denote.Hole.Carrier.{listed, list-listed}
use denote.Hole.Compared.{Local, compared, compared_is}
use denote.Hole.Rolled.{depth, depth_falls, repeat, onto}
use Rattle.lit_model.proofs.Depth.{EachOf}
use Rattle.csl_elements.specs.contracts.formatting.DisplayPartialEq.TheImpl.{eq-value as eq_display}
use Rattle.csl_tree.specs.contracts.formatting.FormattingPartialEq.TheImpl.{eq-value as eq_formatting}
use Rattle.csl_tree.specs.contracts.formatting.FormattedPartialEq.TheImpl.{eq-value as eq_formatted}
use Rattle.csl_tree.specs.contracts.elem.ElemMetaPartialEq.TheImpl.{eq-value as eq_meta}
use Rattle.csl_tree.specs.contracts.elem.ElemChildPartialEq.TheImpl.{eq-value as eq_child, the_step}
use Rattle.csl_tree.specs.contracts.elem.ElemPartialEq.TheImpl.{eq-value as eq_elem}
use Rattle.csl_tree.specs.contracts.elem.ElemChildrenPartialEq.TheImpl.{eq-value as eq_children}
use Rattle.csl_tree.specs.declared.elem.ElemChild.{ElemChild, out-ElemChild}
use Rattle.csl_tree.specs.declared.elem.ElemChild.TheBlock as block
use Rattle.csl_tree.specs.declared.elem.ElemChild.TheOpen.{ElemChild-F}
use Rattle.csl_tree.specs.declared.elem.ElemChild.TheOpen as open_child
use Rattle.csl_tree.specs.declared.elem.ElemChild.TheVariants.{Text, Elem', Markup, Link, Transparent}
use Rattle.csl_tree.specs.declared.elem.Elem.{Elem}
use Rattle.csl_tree.specs.declared.elem.ElemChildren.{ElemChildren}

-- ---- the parts of a tree are less deep

each_listed : (I : Type 0) (X : I → Type 0) (P : (j : I) → X j → Type 0) (i : I) (m : Count) (ys : One.Row (X i) m) → All I X P (repeat I i m []) (onto I i X m ys [] tt) → EachOf (P i) (listed m ys)
each_listed I X P i none_left ys all = tt
each_listed I X P i (one_more m) ys all = (all.0, each_listed I X P i m ys.1 all.1)

children_less : (c : ElemChildren) (n : ℕ) → block.the_depth block.member-ElemChildren c ≤ n → EachOf (λ k. block.the_depth block.member-ElemChild k < n) c.0.items
unfolding block.the_depth denote.Hole.Carrier.out
children_less c n p = subst (EachOf (λ k. depth block.the_members block.the_sigs block.the_carrier block.member-ElemChild k < n)) (list-listed ElemChild c.0.items)
    (each_listed block.the_members block.the_family (λ j y. depth block.the_members block.the_sigs block.the_carrier j y < n) block.member-ElemChild _ (children (list this) ElemChild c.0.items)
    (depth_falls block.the_members block.the_sigs block.the_carrier block.member-ElemChildren c n p))

elem_less : (e : Elem) (n : ℕ) → block.the_depth block.member-Elem e ≤ n → block.the_depth block.member-ElemChildren e.children < n
unfolding block.the_depth denote.Hole.Carrier.out
elem_less e n p = (depth_falls block.the_members block.the_sigs block.the_carrier block.member-Elem e n p).0

-- if a child is an element, the element has the property
abbrev pub Held : (Elem → Type 0) → ElemChild-F ElemChild Elem ElemChildren → Type 0
Held P (open_child.Text t) = Unit {0}
Held P (open_child.Elem e) = P e
Held P (open_child.Markup s) = Unit {0}
Held P (open_child.Link t url) = Unit {0}
Held P (open_child.Transparent n f) = Unit {0}

child_less : (k : ElemChild) (n : ℕ) → block.the_depth block.member-ElemChild k ≤ n → Held (λ e. block.the_depth block.member-Elem e < n) (out-ElemChild k)
unfolding block.the_depth out-ElemChild denote.Hole.Carrier.out
child_less (Text t) n p = tt
child_less (Elem' s row d m) n p = (depth_falls block.the_members block.the_sigs block.the_carrier block.member-ElemChild (Elem' s row d m) n p).0
child_less (Markup s) n p = tt
child_less (Link t url) n p = tt
child_less (Transparent i f) n p = tt

-- ---- one level

-- whether the fields of two elements are equal, given whether their children are
abbrev pub same_fields : Elem → Elem → Bool → Bool
same_fields a b children = children && (option_eq eq_display.it a.display b.display && option_eq eq_meta.it a.meta b.meta)

-- whether two children are equal, given the comparison of elements
abbrev pub same_child : (Elem → Elem → Bool) → ElemChild-F ElemChild Elem ElemChildren → ElemChild-F ElemChild Elem ElemChildren → Bool
same_child r (open_child.Text a) (open_child.Text b) = eq_formatted.it a b
same_child r (open_child.Elem a) (open_child.Elem b) = r a b
same_child r (open_child.Markup a) (open_child.Markup b) = bytes_eq (string_bytes a) (string_bytes b)
same_child r (open_child.Link t url) (open_child.Link s other) = eq_formatted.it t s && bytes_eq (string_bytes url) (string_bytes other)
same_child r (open_child.Transparent i f) (open_child.Transparent j g) = (i == j) && eq_formatting.it f g
same_child r x y = false

module _ (r : (j : block.the_members) → block.the_family j → block.the_family j → Bool) where
  child_step : (a b : ElemChild) → the_step r block.member-ElemChild a b ≡ same_child (r block.member-Elem) (out-ElemChild a) (out-ElemChild b)
  unfolding out-ElemChild denote.Hole.Carrier.out
  child_step (Text a) (Text b) = refl
  child_step (Text a) (Elem' s row d m) = refl
  child_step (Text a) (Markup b) = refl
  child_step (Text a) (Link b url) = refl
  child_step (Text a) (Transparent i f) = refl
  child_step (Elem' s row d m) (Text b) = refl
  child_step (Elem' s row d m) (Elem' t other c n) = refl
  child_step (Elem' s row d m) (Markup b) = refl
  child_step (Elem' s row d m) (Link b url) = refl
  child_step (Elem' s row d m) (Transparent i f) = refl
  child_step (Markup a) (Text b) = refl
  child_step (Markup a) (Elem' s row d m) = refl
  child_step (Markup a) (Markup b) = refl
  child_step (Markup a) (Link b url) = refl
  child_step (Markup a) (Transparent i f) = refl
  child_step (Link a url) (Text b) = refl
  child_step (Link a url) (Elem' s row d m) = refl
  child_step (Link a url) (Markup b) = refl
  child_step (Link a url) (Link b other) = refl
  child_step (Link a url) (Transparent i f) = refl
  child_step (Transparent i f) (Text b) = refl
  child_step (Transparent i f) (Elem' s row d m) = refl
  child_step (Transparent i f) (Markup b) = refl
  child_step (Transparent i f) (Link b url) = refl
  child_step (Transparent i f) (Transparent j g) = refl

module _ {A : Type 0} (r t : A → A → Bool) (P : A → Type 0) (agree : (x y : A) → P x → P y → r x y ≡ t x y) where
  pointwise_agree : (xs ys : List A) → EachOf P xs → EachOf P ys → pointwise r xs ys ≡ pointwise t xs ys
  pointwise_agree [] [] p q = refl
  pointwise_agree [] (y ∷ ys) p q = refl
  pointwise_agree (x ∷ xs) [] p q = refl
  pointwise_agree (x ∷ xs) (y ∷ ys) p q = λ i. agree x y p.0 q.0 i && pointwise_agree xs ys p.1 q.1 i

child_agrees : (r t : Elem → Elem → Bool) (P : Elem → Type 0) → ((a b : Elem) → P a → P b → r a b ≡ t a b) → (x y : ElemChild-F ElemChild Elem ElemChildren) → Held P x → Held P y → same_child r x y ≡ same_child t x y
child_agrees r t P agree (open_child.Text a) y p q = refl
child_agrees r t P agree (open_child.Elem a) (open_child.Text b) p q = refl
child_agrees r t P agree (open_child.Elem a) (open_child.Elem b) p q = agree a b p q
child_agrees r t P agree (open_child.Elem a) (open_child.Markup b) p q = refl
child_agrees r t P agree (open_child.Elem a) (open_child.Link b url) p q = refl
child_agrees r t P agree (open_child.Elem a) (open_child.Transparent i f) p q = refl
child_agrees r t P agree (open_child.Markup a) y p q = refl
child_agrees r t P agree (open_child.Link a url) y p q = refl
child_agrees r t P agree (open_child.Transparent i f) y p q = refl

-- one level compares only trees that are less deep
step_local : Local block.the_members block.the_family block.the_depth Bool true the_step
step_local r t n agree block.member-ElemChild a b p q =
    child_step r a b
    ∙ child_agrees (r block.member-Elem) (t block.member-Elem) (λ e. block.the_depth block.member-Elem e < n) (agree block.member-Elem) (out-ElemChild a) (out-ElemChild b) (child_less a n p) (child_less b n q)
    ∙ sym (child_step t a b)
step_local r t n agree block.member-Elem a b p q = ap (same_fields a b) (agree block.member-ElemChildren a.children b.children (elem_less a n p) (elem_less b n q))
step_local r t n agree block.member-ElemChildren a b p q =
    pointwise_agree (r block.member-ElemChild) (t block.member-ElemChild) (λ k. block.the_depth block.member-ElemChild k < n) (agree block.member-ElemChild) a.0.items b.0.items (children_less a n p) (children_less b n q)

-- `==` at each of the three types
abbrev same_below : (j : block.the_members) → block.the_family j → block.the_family j → Bool
same_below = compared block.the_members block.the_family block.the_depth Bool true the_step

pub child_out : (a b : ElemChild) → eq_child.it a b ≡ same_child eq_elem.it (out-ElemChild a) (out-ElemChild b)
child_out a b = compared_is block.the_members block.the_family block.the_depth Bool true the_step step_local block.member-ElemChild a b ∙ child_step same_below a b

pub elem_out : (a b : Elem) → eq_elem.it a b ≡ same_fields a b (eq_children.it a.children b.children)
elem_out a b = compared_is block.the_members block.the_family block.the_depth Bool true the_step step_local block.member-Elem a b

pub children_out : (a b : ElemChildren) → eq_children.it a b ≡ pointwise eq_child.it a.0.items b.0.items
children_out a b = compared_is block.the_members block.the_family block.the_depth Bool true the_step step_local block.member-ElemChildren a b
