-- The leaf text of every tree is UTF-8. Its last character, child by child. The last character of a
-- text, from its back.
use Rattle.std.proofs.Common.{◌≡◌, ℕ, ◌+◌, ◌<◌, ◌≤◌, true, false, List, [], ◌∷◌, ◌++◌, length, get_or, take, map, refl, sym, subst, ap, ◌∙◌, arith}
use Rattle.std.specs.Prelude.{Option, Some, None, is_some, string_bytes, IfSome, MatchOption, encode_utf8}
use Rattle.std.specs.Char.{IsScalar}
use Rattle.std.specs.List.{flat_map, last_or}
use Rattle.std.specs.Str.{IsUtf8, chars}
use Rattle.std.proofs.lemmas.Grind.{flat_map-append}
use Rattle.std.proofs.Math.Seq.{take-append_seam}
use Rattle.std.proofs.lemmas.List.{append-nil, take_more, nil_from_length}
use Rattle.std.proofs.lemmas.List.Folds.{flat_map-map}
use Rattle.std.proofs.lemmas.Str.{chars-append, chars-nil, chars_from_encodes, IsCharBoundary-at_seam, IsUtf8-nil, IsUtf8-append, IsUtf8-encode, IsUtf8-string_bytes, IsUtf8-take}
use Rattle.csl_tree.specs.declared.elem.ElemChild.{ElemChild}
use Rattle.csl_tree.specs.declared.elem.ElemChild.TheOpen.{ElemChild-F, Elem-F, ElemChildren-F, Text, Elem, Markup, Link, Transparent}
use Rattle.csl_tree.specs.declared.elem.ElemChild.TheViews.{roll-ElemChild, roll-Elem, roll-ElemChildren}
use Rattle.csl_tree.specs.declared.elem.ElemChild.TheFolds.{map-ElemChild, map-Elem, map-ElemChildren, fold-roll-ElemChild, fold-roll-Elem, fold-roll-ElemChildren, ind-ElemChild}
use Rattle.csl_tree.specs.declared.elem.Elem as elem
use Rattle.csl_tree.specs.declared.elem.ElemChildren.{ElemChildren}
use Rattle.csl_tree.specs.Tokens.{Token, Meta, solid, elem_end, elem_around, optional_meta, child_step, elem_step, children_step, child_tokens, elem_tokens, tokens, token_text, leaf_text, last_char}
use Rattle.csl_elements.specs.declared.formatting.Display.{Display}

-- the leaf text of children in a row
abbrev pub leaf_of : List ElemChild → List ℕ
leaf_of ks = leaf_text (flat_map child_tokens ks)

abbrev ChildSpells : ElemChild → Type 0
ChildSpells k = IsUtf8 (leaf_text (child_tokens k))

abbrev ElemSpells : elem.Elem → Type 0
ElemSpells e = IsUtf8 (leaf_text (elem_tokens e))

abbrev ChildrenSpell : ElemChildren → Type 0
ChildrenSpell c = IsUtf8 (leaf_text (tokens c))

all_spell : (ks : List ((k : ElemChild) × ChildSpells k)) → IsUtf8 (leaf_of (map (λ e. e.0) ks))
all_spell [] = IsUtf8-nil
all_spell (k ∷ ks) = subst IsUtf8 (sym (flat_map-append token_text (child_tokens k.0) (flat_map child_tokens (map (λ e. e.0) ks)))) (IsUtf8-append _ _ k.1 (all_spell ks))

-- the leaf text of a leaf alone
one_spells : (bs : List ℕ) → IsUtf8 bs → IsUtf8 (bs ++ [])
one_spells bs h = subst IsUtf8 (sym (append-nil bs)) h

around_spells : (d : Option Display) (m : Option Meta) (inside : List Token) → IsUtf8 (leaf_text inside) → IsUtf8 (leaf_text (elem_around d m inside))
around_spells d m inside h = subst IsUtf8 (sym (flat_map-append token_text inside (solid (elem_end d) ∷ []) ∙ append-nil (leaf_text inside))) h

-- one level of a tree whose parts are UTF-8
child_layer : (y : ElemChild-F ((k : ElemChild) × ChildSpells k) ((e : elem.Elem) × ElemSpells e) ((c : ElemChildren) × ChildrenSpell c)) → ChildSpells (roll-ElemChild (map-ElemChild _ _ _ ElemChild elem.Elem ElemChildren (λ e. e.0) (λ e. e.0) (λ e. e.0) y))
child_layer (Text t) = subst (λ (ts : List Token). IsUtf8 (leaf_text ts)) (sym (fold-roll-ElemChild (List Token) (List Token) (List Token) child_step elem_step children_step (Text t))) (one_spells (string_bytes t.text) (IsUtf8-string_bytes t.text))
child_layer (Elem e) = subst (λ (ts : List Token). IsUtf8 (leaf_text ts)) (sym (fold-roll-ElemChild (List Token) (List Token) (List Token) child_step elem_step children_step (Elem e.0))) e.1
child_layer (Markup s) = subst (λ (ts : List Token). IsUtf8 (leaf_text ts)) (sym (fold-roll-ElemChild (List Token) (List Token) (List Token) child_step elem_step children_step (Markup s))) (one_spells (string_bytes s) (IsUtf8-string_bytes s))
child_layer (Link t url) = subst (λ (ts : List Token). IsUtf8 (leaf_text ts)) (sym (fold-roll-ElemChild (List Token) (List Token) (List Token) child_step elem_step children_step (Link t url))) (one_spells (string_bytes t.text) (IsUtf8-string_bytes t.text))
child_layer (Transparent n f) = subst (λ (ts : List Token). IsUtf8 (leaf_text ts)) (sym (fold-roll-ElemChild (List Token) (List Token) (List Token) child_step elem_step children_step (Transparent n f))) IsUtf8-nil

elem_layer : (y : Elem-F ((k : ElemChild) × ChildSpells k) ((e : elem.Elem) × ElemSpells e) ((c : ElemChildren) × ChildrenSpell c)) → ElemSpells (roll-Elem (map-Elem _ _ _ ElemChild elem.Elem ElemChildren (λ e. e.0) (λ e. e.0) (λ e. e.0) y))
elem_layer y =
    subst (λ (ts : List Token). IsUtf8 (leaf_text ts)) (sym (fold-roll-Elem (List Token) (List Token) (List Token) child_step elem_step children_step (map-Elem _ _ _ ElemChild elem.Elem ElemChildren (λ e. e.0) (λ e. e.0) (λ e. e.0) y)))
    (around_spells y.display (optional_meta y.meta) (tokens y.children.0) y.children.1)

children_layer : (y : ElemChildren-F ((k : ElemChild) × ChildSpells k) ((e : elem.Elem) × ElemSpells e) ((c : ElemChildren) × ChildrenSpell c)) → ChildrenSpell (roll-ElemChildren (map-ElemChildren _ _ _ ElemChild elem.Elem ElemChildren (λ e. e.0) (λ e. e.0) (λ e. e.0) y))
children_layer y =
    subst (λ (ts : List Token). IsUtf8 (leaf_text ts))
    (sym (fold-roll-ElemChildren (List Token) (List Token) (List Token) child_step elem_step children_step (map-ElemChildren _ _ _ ElemChild elem.Elem ElemChildren (λ e. e.0) (λ e. e.0) (λ e. e.0) y) ∙ flat_map-map (λ ts. ts) child_tokens (map (λ e. e.0) y.0.items)))
    (all_spell y.0.items)

-- the leaf text of a child is UTF-8
pub child_spells : (k : ElemChild) → ChildSpells k
child_spells = ind-ElemChild ChildSpells ElemSpells ChildrenSpell
    (λ x y is. subst (λ z. ChildSpells (roll-ElemChild z)) is (child_layer y))
    (λ x y is. subst (λ z. ElemSpells (roll-Elem z)) is (elem_layer y))
    (λ x y is. subst (λ z. ChildrenSpell (roll-ElemChildren z)) is (children_layer y))

pub row_spells : (ks : List ElemChild) → IsUtf8 (leaf_of ks)
row_spells [] = IsUtf8-nil
row_spells (k ∷ ks) = subst IsUtf8 (sym (flat_map-append token_text (child_tokens k) (flat_map child_tokens ks))) (IsUtf8-append _ _ (child_spells k) (row_spells ks))

pub last_or-append : (o : Option ℕ) (x y : List ℕ) → last_or o (x ++ y) ≡ last_or (last_or o x) y
last_or-append o [] y = refl
last_or-append o (c ∷ x) y = last_or-append (Some c) x y

pub last_or-none : (o : Option ℕ) (x : List ℕ) → last_or None x ≡ None → last_or o x ≡ o
last_or-none o [] h = refl
last_or-none o (c ∷ x) h = absurd (goes c x h)
  where
    goes : (c : ℕ) (x : List ℕ) → last_or (Some c) x ≡ None → ⊥
    goes c [] h = cc
    goes c (d ∷ x) h = goes d x h

pub last_or-some : (o : Option ℕ) (x : List ℕ) (d : ℕ) → last_or None x ≡ Some d → last_or o x ≡ Some d
last_or-some o [] d h = cc
last_or-some o (c ∷ x) d h = h

-- the last character after one more child
pub one_more : (xs : List ElemChild) (i : ℕ) (x : ElemChild) → i < length xs → x ≡ get_or xs i x → last_char (leaf_of (take (i + 1) xs)) ≡ last_or (last_char (leaf_of (take i xs))) (chars (leaf_text (child_tokens x)))
one_more xs i x h e =
    let k = get_or xs i x in
    let split : leaf_of (take (i + 1) xs) ≡ leaf_of (take i xs) ++ leaf_text (child_tokens k) =
    ap leaf_of (take_more xs i x h) ∙ ap leaf_text (flat_map-append child_tokens (take i xs) (k ∷ []) ∙ ap (λ (l : List Token). flat_map child_tokens (take i xs) ++ l) (append-nil (child_tokens k))) ∙ flat_map-append token_text (flat_map child_tokens (take i xs)) (child_tokens k) in
    ap last_char split
    ∙ ap (last_or None) (chars-append (leaf_of (take i xs)) (leaf_text (child_tokens k)) (row_spells (take i xs)))
    ∙ last_or-append None (chars (leaf_of (take i xs))) (chars (leaf_text (child_tokens k)))
    ∙ ap (λ (y : ElemChild). last_or (last_char (leaf_of (take i xs))) (chars (leaf_text (child_tokens y)))) (sym e)

-- after a child with text, the last character is the child's
pub at_text : (xs : List ElemChild) (i j : ℕ) (x : ElemChild) (o : Option ℕ) → i ≡ j + 1 → j < length xs → x ≡ get_or xs j x → o ≡ last_char (leaf_text (child_tokens x)) → is_some o ≡ true → last_char (leaf_of (take i xs)) ≡ o
at_text xs i j x None n h e is some = absurd (cc some)
at_text xs i j x (Some d) n h e is some = ap (λ (k : ℕ). last_char (leaf_of (take k xs))) n ∙ one_more xs j x h e ∙ last_or-some (last_char (leaf_of (take j xs))) (chars (leaf_text (child_tokens x))) d (sym is)

-- after a child without text, the last character is unchanged
pub past_none : (xs : List ElemChild) (i j : ℕ) (x : ElemChild) (o : Option ℕ) → i ≡ j + 1 → j < length xs → x ≡ get_or xs j x → o ≡ last_char (leaf_text (child_tokens x)) → is_some o ≡ false → last_char (leaf_of (take i xs)) ≡ last_char (leaf_of (take j xs))
past_none xs i j x None n h e is none = ap (λ (k : ℕ). last_char (leaf_of (take k xs))) n ∙ one_more xs j x h e ∙ last_or-none (last_char (leaf_of (take j xs))) (chars (leaf_text (child_tokens x))) (sym is)
past_none xs i j x (Some d) n h e is none = absurd (cc none)

pub last_char-none : last_char [] ≡ None
last_char-none = ap (last_or None) chars-nil

take_none : {A : Type 0} (xs : List A) → take 0 xs ≡ []
take_none [] = refl
take_none (x ∷ xs) = refl

-- before the first child, there is no last character
pub before_all : (xs : List ElemChild) (i : ℕ) → i ≤ 0 → last_char (leaf_of (take i xs)) ≡ None
before_all xs i h = let zero : i ≡ 0 = omega (arith, h) in ap (λ (k : ℕ). last_char (leaf_of (take k xs))) zero ∙ ap (λ (ks : List ElemChild). last_char (leaf_of ks)) (take_none xs) ∙ last_char-none

last_of_cut : (bs rest : List ℕ) (c : ℕ) → IsUtf8 bs → IsScalar c → bs ≡ rest ++ encode_utf8 c → last_char bs ≡ Some c
last_of_cut bs rest c u s e =
    let cut : take (length rest) bs ≡ rest = ap (take (length rest)) e ∙ take-append_seam rest (encode_utf8 c) in
    let front : IsUtf8 rest = subst IsUtf8 cut (IsUtf8-take bs (length rest) u (IsCharBoundary-at_seam bs rest (encode_utf8 c) e (IsUtf8-encode c s))) in
    let one : chars (encode_utf8 c) ≡ c ∷ [] = sym (chars_from_encodes (c ∷ []) (encode_utf8 c) (IsUtf8-encode c s) (append-nil (encode_utf8 c))) in
    ap last_char e ∙ ap (last_or None) (chars-append rest (encode_utf8 c) front ∙ ap (λ (l : List ℕ). chars rest ++ l) one) ∙ last_or-append None (chars rest) (c ∷ [])

-- the character that comes off the back of a text is its last
pub last_from_back : (T : Type 0) (bs rest : List ℕ) (o : Option ℕ) → IsUtf8 bs → IfSome o IsScalar → MatchOption o ((length bs ≡ 0) × T) (λ c. bs ≡ rest ++ encode_utf8 c) → o ≡ last_char bs
last_from_back T bs rest None u s h = sym (ap last_char (nil_from_length bs h.0) ∙ last_char-none)
last_from_back T bs rest (Some c) u s h = sym (last_of_cut bs rest c u s h)
