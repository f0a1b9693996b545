-- Joining is associative, and the empty content is its unit.
use Rattle.std.proofs.Common.{◌≡◌, ℕ, ◌<◌, suc, zero, length, true, false, cond, List, [], ◌∷◌, ◌++◌, refl, sym, ap, ◌∙◌, append_assoc, arith}
use Rattle.std.proofs.lemmas.Grind.{common_steps}
use Rattle.csl_elements.specs.declared.formatting.FontStyle.{FontStyle}
use Rattle.csl_elements.specs.declared.formatting.FontStyle.TheVariants as style
use Rattle.csl_elements.specs.declared.formatting.FontVariant.{FontVariant}
use Rattle.csl_elements.specs.declared.formatting.FontVariant.TheVariants as variant
use Rattle.csl_elements.specs.declared.formatting.FontWeight.{FontWeight}
use Rattle.csl_elements.specs.declared.formatting.FontWeight.TheVariants as weight
use Rattle.csl_elements.specs.declared.formatting.TextDecoration.{TextDecoration}
use Rattle.csl_elements.specs.declared.formatting.TextDecoration.TheVariants as decoration
use Rattle.csl_elements.specs.declared.formatting.VerticalAlign.{VerticalAlign}
use Rattle.csl_elements.specs.declared.formatting.VerticalAlign.TheVariants as align
use Rattle.csl_tree.specs.declared.formatting.Formatting.{Formatting}
use Rattle.csl_tree.specs.Formatting.{same_formatting, style_place, variant_place, weight_place, decoration_place, align_place}
use Rattle.csl_tree.specs.Tokens.{Token, text, solid}
use Rattle.csl_tree.specs.Content.{text_before, last_before, join_tokens, ◌++>◌, text_content}

-- the value with a number
style_at : ℕ → FontStyle
style_at zero = style.Normal
style_at (suc n) = style.Italic

variant_at : ℕ → FontVariant
variant_at zero = variant.Normal
variant_at (suc n) = variant.SmallCaps

weight_at : ℕ → FontWeight
weight_at zero = weight.Normal
weight_at (suc zero) = weight.Bold
weight_at (suc (suc n)) = weight.Light

decoration_at : ℕ → TextDecoration
decoration_at zero = decoration.None
decoration_at (suc n) = decoration.Underline

align_at : ℕ → VerticalAlign
align_at zero = align.None
align_at (suc zero) = align.Baseline
align_at (suc (suc zero)) = align.Sup
align_at (suc (suc (suc n))) = align.Sub

style_found : (f : FontStyle) → style_at (style_place f) ≡ f
unfolding style_at
style_found style.Normal = refl
style_found style.Italic = refl

variant_found : (f : FontVariant) → variant_at (variant_place f) ≡ f
unfolding variant_at
variant_found variant.Normal = refl
variant_found variant.SmallCaps = refl

weight_found : (f : FontWeight) → weight_at (weight_place f) ≡ f
unfolding weight_at
weight_found weight.Normal = refl
weight_found weight.Bold = refl
weight_found weight.Light = refl

decoration_found : (f : TextDecoration) → decoration_at (decoration_place f) ≡ f
unfolding decoration_at
decoration_found decoration.None = refl
decoration_found decoration.Underline = refl

align_found : (f : VerticalAlign) → align_at (align_place f) ≡ f
unfolding align_at
align_found align.None = refl
align_found align.Baseline = refl
align_found align.Sup = refl
align_found align.Sub = refl

-- two values with one number are equal
at_one_place : {A : Type 0} (at : ℕ → A) (place : A → ℕ) (found : (a : A) → at (place a) ≡ a) (a b : A) → place a ≡ place b → a ≡ b
at_one_place at place found a b h = sym (found a) ∙ ap at h ∙ found b

pub same_formatting-is : (f g : Formatting) → same_formatting f g ≡ true → f ≡ g
same_formatting-is f g h =
    let all : (style_place f.font_style ≡ style_place g.font_style) × (variant_place f.font_variant ≡ variant_place g.font_variant) × (weight_place f.font_weight ≡ weight_place g.font_weight) × (decoration_place f.text_decoration ≡ decoration_place g.text_decoration) × (align_place f.vertical_align ≡ align_place g.vertical_align) = grind (arith, common_steps) in
    λ i. record {
      font_style = at_one_place style_at style_place style_found f.font_style g.font_style all.0 i;
      font_variant = at_one_place variant_at variant_place variant_found f.font_variant g.font_variant all.1 i;
      font_weight = at_one_place weight_at weight_place weight_found f.font_weight g.font_weight all.2 i;
      text_decoration = at_one_place decoration_at decoration_place decoration_found f.text_decoration g.text_decoration all.3 i;
      vertical_align = at_one_place align_at align_place align_found f.vertical_align g.vertical_align all.4 i;
    }

pub same_formatting-refl : (f : Formatting) → same_formatting f f ≡ true
same_formatting-refl f = grind (arith, common_steps)

-- two texts of one formatting, before a content, are one text before it
pub text_before-same : (x y : List ℕ) (f : Formatting) (c : List Token) → same_formatting f f ≡ true → text_before (x ++ y) f c ≡ text_before x f (text_before y f c)
text_before-same x y f [] e = rw e
text_before-same x y f (text z h ∷ b) e =
    elim (same_formatting f h) as (λ s. cond s (text ((x ++ y) ++ z) f ∷ b) (text (x ++ y) f ∷ text z h ∷ b) ≡ text_before x f (cond s (text (y ++ z) f ∷ b) (text y f ∷ text z h ∷ b))) [
      | true ↦ rw (e, append_assoc)
      | false ↦ rw e
    ]
text_before-same x y f (solid s ∷ b) e = rw e

-- a text does not join a text of another formatting
text_before-apart : (x y : List ℕ) (f g : Formatting) (c : List Token) → same_formatting f g ≡ false → text x f ∷ text_before y g c ≡ text_before x f (text_before y g c)
text_before-apart x y f g [] h = rw h
text_before-apart x y f g (text z k ∷ c) h =
    elim (same_formatting g k) as (λ s. text x f ∷ cond s (text (y ++ z) g ∷ c) (text y g ∷ text z k ∷ c) ≡ text_before x f (cond s (text (y ++ z) g ∷ c) (text y g ∷ text z k ∷ c))) [ true ↦ rw h | false ↦ rw h ]
text_before-apart x y f g (solid s ∷ c) h = rw h

-- a text before two contents in a row
text_before-joined : (x : List ℕ) (f : Formatting) (b c : List Token) → text_before x f b ++> c ≡ text_before x f (b ++> c)
text_before-joined x f [] c = refl
text_before-joined x f (solid s ∷ []) c = refl
text_before-joined x f (solid s ∷ t ∷ b) c = refl
text_before-joined x f (text y g ∷ []) c =
    elim (same_formatting f g) as (λ s. same_formatting f g ≡ s → cond s (text (x ++ y) f ∷ []) (text x f ∷ text y g ∷ []) ++> c ≡ text_before x f (text_before y g c)) [
      | true ↦ λ h. rw (sym (same_formatting-is f g h)) (text_before-same x y f c (same_formatting-refl f))
      | false ↦ λ h. text_before-apart x y f g c h
    ] refl
text_before-joined x f (text y g ∷ t ∷ b) c =
    elim (same_formatting f g) as (λ s. cond s (text (x ++ y) f ∷ t ∷ b) (text x f ∷ text y g ∷ t ∷ b) ++> c ≡ cond s (text (x ++ y) f ∷ join_tokens t b c) (text x f ∷ text y g ∷ join_tokens t b c)) [ true ↦ refl | false ↦ refl ]

last_before-joined : (t : Token) (b c : List Token) → last_before t b ++> c ≡ last_before t (b ++> c)
last_before-joined (text x f) b c = text_before-joined x f b c
last_before-joined (solid s) [] c = refl
last_before-joined (solid s) (u ∷ b) c = refl

-- a first token stays before a content that is not empty
text_before-cons : (t : Token) (x : List ℕ) (f : Formatting) (b c : List Token) → join_tokens t (text_before x f b) c ≡ t ∷ (text_before x f b ++> c)
text_before-cons t x f [] c = refl
text_before-cons t x f (text y g ∷ b) c = elim (same_formatting f g) as (λ s. join_tokens t (cond s (text (x ++ y) f ∷ b) (text x f ∷ text y g ∷ b)) c ≡ t ∷ (cond s (text (x ++ y) f ∷ b) (text x f ∷ text y g ∷ b) ++> c)) [ true ↦ refl | false ↦ refl ]
text_before-cons t x f (solid s ∷ b) c = refl

joined-cons : (t u : Token) (a b c : List Token) → join_tokens t (join_tokens u a b) c ≡ t ∷ (join_tokens u a b ++> c)
joined-cons t (text x f) [] b c = text_before-cons t x f b c
joined-cons t (solid s) [] b c = refl
joined-cons t u (v ∷ a) b c = refl

joined-joined : (t : Token) (a b c : List Token) → join_tokens t a b ++> c ≡ join_tokens t a (b ++> c)
joined-joined t [] b c = last_before-joined t b c
joined-joined t (u ∷ a) b c = joined-cons t u a b c ∙ ap (λ l. t ∷ l) (joined-joined u a b c)

-- joining is associative
pub join_assoc : (a b c : List Token) → (a ++> b) ++> c ≡ a ++> (b ++> c)
join_assoc [] b c = refl
join_assoc (t ∷ a) b c = joined-joined t a b c

last_before-none : (t : Token) → last_before t [] ≡ t ∷ []
last_before-none (text x f) = refl
last_before-none (solid s) = refl

joined-none : (t : Token) (a : List Token) → join_tokens t a [] ≡ t ∷ a
joined-none t [] = last_before-none t
joined-none t (u ∷ a) = ap (λ l. t ∷ l) (joined-none u a)

pub join-none : (a : List Token) → a ++> [] ≡ a
join-none [] = refl
join-none (t ∷ a) = joined-none t a

pub text_content-some : (x : List ℕ) (f : Formatting) → 0 < length x → text_content x f ≡ text x f ∷ []
text_content-some [] f h = absurd (omega arith)
text_content-some (b ∷ x) f h = refl

pub text_content-none : (x : List ℕ) (f : Formatting) → length x ≡ 0 → text_content x f ≡ []
text_content-none [] f h = refl
text_content-none (b ∷ x) f h = absurd (omega arith)
