-- If only some addresses are allowed, a link to any other address becomes its text. The text is not
-- joined with a text beside it.
use Rattle.std.specs.Prelude.{◌≡◌, ℕ, Bool, List, [], ◌∷◌, map, if◌then◌else◌}
use Rattle.std.specs.List.{flat_map}
use Rattle.csl_tree.specs.declared.elem.ElemChild.{ElemChild}
use Rattle.csl_tree.specs.declared.elem.ElemChild.TheOpen.{ElemChild-F, Text, Elem, Markup, Link, Transparent}
use Rattle.csl_tree.specs.declared.elem.ElemChild.TheViews.{out-ElemChild}
use Rattle.csl_tree.specs.declared.elem.ElemChild.TheVariants as variants
use Rattle.csl_tree.specs.declared.elem.Elem as elem
use Rattle.csl_tree.specs.declared.elem.ElemChildren.{ElemChildren}
use Rattle.csl_tree.specs.Tokens.{Token, text, solid, markup, link, transparent, elem_start, elem_end}

-- the token, or its text if it is a link to an address that is not allowed
abbrev pub kept_link : (List ℕ → Bool) → Token → Token
kept_link allowed (text bs f) = text bs f
kept_link allowed (solid (markup bs)) = solid (markup bs)
kept_link allowed (solid (link bs f url)) = if allowed url then solid (link bs f url) else text bs f
kept_link allowed (solid (transparent n f)) = solid (transparent n f)
kept_link allowed (solid (elem_start d m)) = solid (elem_start d m)
kept_link allowed (solid (elem_end d)) = solid (elem_end d)

abbrev pub kept_links : (List ℕ → Bool) → List Token → List Token
kept_links allowed ts = map (kept_link allowed) ts

abbrev pub layer_unlinked : ElemChild-F ElemChild elem.Elem ElemChildren → ElemChild → ElemChild
layer_unlinked (Text t) k = k
layer_unlinked (Elem e) k = k
layer_unlinked (Markup s) k = k
layer_unlinked (Link t u) k = variants.Text t
layer_unlinked (Transparent n f) k = k

-- the text of a link, and any other child unchanged
abbrev pub child_without_link : ElemChild → ElemChild
child_without_link k = layer_unlinked (out-ElemChild k) k

-- the address of a link, and none for any other token
abbrev pub link_address : Token → List (List ℕ)
link_address (text bs f) = []
link_address (solid (markup bs)) = []
link_address (solid (link bs f url)) = url ∷ []
link_address (solid (transparent n f)) = []
link_address (solid (elem_start d m)) = []
link_address (solid (elem_end d)) = []

abbrev pub addresses : List Token → List (List ℕ)
addresses ts = flat_map link_address ts

-- Links that a closure keeps. It is called, by `called`, at the address of each link in turn, and each
-- call may change it, from `f` to `g`. A link that it rejects becomes its text. Only the contracts of
-- private functions cite `KeepsToken` and `KeepsInTurn`.
abbrev pub KeepsToken : {F : Type 0} → (F → List ℕ → Bool → F → Type 0) → F → Token → Token → F → Type 0
KeepsToken called f (text bs s) new g = (new ≡ text bs s) × (g ≡ f)
KeepsToken called f (solid (markup bs)) new g = (new ≡ solid (markup bs)) × (g ≡ f)
KeepsToken called f (solid (link bs s url)) new g = (keep : Bool) × called f url keep g × (new ≡ (if keep then solid (link bs s url) else text bs s))
KeepsToken called f (solid (transparent n s)) new g = (new ≡ solid (transparent n s)) × (g ≡ f)
KeepsToken called f (solid (elem_start d m)) new g = (new ≡ solid (elem_start d m)) × (g ≡ f)
KeepsToken called f (solid (elem_end d)) new g = (new ≡ solid (elem_end d)) × (g ≡ f)

abbrev pub KeepsInTurn : {F : Type 0} → (F → List ℕ → Bool → F → Type 0) → F → List Token → List Token → F → Type 0
KeepsInTurn called f [] new g = (new ≡ []) × (g ≡ f)
KeepsInTurn {F} called f (t ∷ ts) new g = (u : Token) × (h : F) × KeepsToken called f t u h × (us : List Token) × KeepsInTurn called h ts us g × (new ≡ u ∷ us)
