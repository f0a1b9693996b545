-- The contents of the open parts of a `FlatTree`. Their children are in one list, from the root
-- inwards. A part has the children from its mark, the place of its first child, up to the mark of
-- the part within it; the innermost part has all from its mark on. Adjacent texts of equal
-- formatting count as one text. The definitions from `IsJoined` on are internal: only the contracts
-- of private functions cite them.
use Rattle.std.specs.Prelude.{◌≡◌, ℕ, zero, suc, ◌≤◌, List, [], ◌∷◌, length, take, drop, reverse}
use Rattle.std.specs.List.{flat_map}
use Rattle.csl_tree.specs.Tokens.{Token, child_tokens}
use Rattle.csl_tree.specs.Content.{◌++>◌}
use Rattle.csl_tree.specs.Flat.{OpenParts}
use Rattle.csl_tree.specs.declared.elem.ElemChild.{ElemChild}

-- the content of children in a row
abbrev pub content_of : List ElemChild → List Token
content_of [] = []
content_of (k ∷ ks) = child_tokens k ++> content_of ks

-- the contents of the parts with these marks, from the inside out
abbrev pub contents_at : List ElemChild → List ℕ → List (List Token)
contents_at ks [] = []
contents_at ks (mark ∷ marks) = content_of (drop mark ks) ∷ contents_at (take mark ks) marks

-- the contents of the innermost part and of those around it, whose marks are from the root inwards
abbrev pub open_parts : List ElemChild → ℕ → List ℕ → OpenParts
open_parts ks start around = record { inner = content_of (drop start ks); outer = contents_at (take start ks) (reverse around) }

-- from a place on, no mark is above the one before it, and the last is 0
abbrev pub FallFrom : ℕ → List ℕ → Type 0
FallFrom n [] = n ≡ 0
FallFrom n (mark ∷ marks) = (mark ≤ n) × FallFrom mark marks

-- each part begins within the part around it, and the root at the first child
abbrev pub AreMarks : List ElemChild → ℕ → List ℕ → Type 0
AreMarks ks start around = FallFrom (length ks) (start ∷ reverse around)

-- no adjacent children are texts of equal formatting
abbrev pub IsJoined : List ElemChild → Type 0
IsJoined ks = flat_map child_tokens ks ≡ content_of ks

-- the tokens of the child at a place
abbrev pub tokens_at : List ElemChild → ℕ → List Token
tokens_at [] i = []
tokens_at (k ∷ ks) zero = child_tokens k
tokens_at (k ∷ ks) (suc i) = tokens_at ks i
