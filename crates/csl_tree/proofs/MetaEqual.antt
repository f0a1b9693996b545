-- `==` of metas, formattings and texts decides whether their views are equal.
use Rattle.std.proofs.Common.{◌≡◌, ℕ, Bool, ◌&&◌, List, [], ◌∷◌, map, refl, ap, rules}
use Rattle.std.specs.Prelude.{Vec, Option, Some, None, string_bytes}
use Rattle.std.specs.Bool.{Decides}
use Rattle.std.specs.Option.{option_eq}
use Rattle.std.specs.Cmp.Lexicographic.{pointwise}
use Rattle.std.specs.declared.alloc.Global.{Global}
use Rattle.lit_model.specs.Person.{PersonView}
use Rattle.lit_model.specs.declared.person.Person.{Person}
use Rattle.lit_model.specs.contracts.person.PersonPartialEq.TheImpl.{eq-value as eq_person}
use Rattle.lit_model.proofs.PersonEqual.{person_decides}
use Rattle.lit_model.proofs.PageEqual.{pointwise_view}
use Rattle.lit_model.proofs.ByValue.{both, through, text_decides}
use Rattle.csl_elements.specs.declared.taxonomy.NameVariable.{NameVariable}
use Rattle.csl_elements.specs.contracts.taxonomy.NameVariablePartialEq.TheImpl.{eq-value as eq_variable}
use Rattle.csl_elements.specs.declared.formatting.FontStyle.{FontStyle}
use Rattle.csl_elements.specs.contracts.formatting.FontStylePartialEq.TheImpl.{eq-value as eq_style}
use Rattle.csl_elements.specs.declared.formatting.FontVariant.{FontVariant}
use Rattle.csl_elements.specs.contracts.formatting.FontVariantPartialEq.TheImpl.{eq-value as eq_variant}
use Rattle.csl_elements.specs.declared.formatting.FontWeight.{FontWeight}
use Rattle.csl_elements.specs.contracts.formatting.FontWeightPartialEq.TheImpl.{eq-value as eq_weight}
use Rattle.csl_elements.specs.declared.formatting.TextDecoration.{TextDecoration}
use Rattle.csl_elements.specs.contracts.formatting.TextDecorationPartialEq.TheImpl.{eq-value as eq_decoration}
use Rattle.csl_elements.specs.declared.formatting.VerticalAlign.{VerticalAlign}
use Rattle.csl_elements.specs.contracts.formatting.VerticalAlignPartialEq.TheImpl.{eq-value as eq_align}
use Rattle.csl_tree.specs.Tokens.{Token, text, text_tokens, names_of, Meta, of_names, meta_of, optional_meta}
use Rattle.csl_tree.specs.Formatting.{default_formatting}
use Rattle.csl_tree.specs.declared.formatting.Formatting.{Formatting}
use Rattle.csl_tree.specs.declared.formatting.Formatted.{Formatted}
use Rattle.csl_tree.specs.contracts.formatting.FormattingPartialEq.TheImpl.{eq-value as eq_formatting}
use Rattle.csl_tree.specs.contracts.formatting.FormattedPartialEq.TheImpl.{eq-value as eq_formatted}
use Rattle.csl_tree.specs.declared.elem.ElemMeta.{ElemMeta}
use Rattle.csl_tree.specs.declared.elem.ElemMeta.TheVariants.{Names}
use Rattle.csl_tree.specs.contracts.elem.ElemMetaPartialEq.TheImpl.{eq-value as eq_meta}

abbrev same_names : Vec Person Global × NameVariable → Vec Person Global × NameVariable → Bool
same_names p q = pointwise eq_person.it p.0.items q.0.items && eq_variable.it p.1 q.1

variable_decides : (v w : NameVariable) → Decides (eq_variable.it v w) (v ≡ w)
variable_decides v w = search rules

names_decide : (p q : Vec Person Global × NameVariable) → Decides (same_names p q) (names_of p ≡ names_of q)
names_decide p q = through _ (both _ _ (pointwise_view eq_person.it _ person_decides p.0.items q.0.items) (variable_decides p.1 q.1))
    (λ h i. (h.0 i, h.1 i))
    (λ h. (ap (λ (n : List PersonView × NameVariable). n.0) h, ap (λ (n : List PersonView × NameVariable). n.1) h))

lists_decide : (x y : List (Vec Person Global × NameVariable)) → Decides (pointwise same_names x y) (map names_of x ≡ map names_of y)
lists_decide = pointwise_view same_names names_of names_decide

abbrev names_in : Meta → List (List PersonView × NameVariable)
names_in (of_names l) = l
names_in m = []

all_names_decide : (x y : Vec (Vec Person Global × NameVariable) Global) → Decides (eq_meta.it (Names x) (Names y)) (of_names (map names_of x.items) ≡ of_names (map names_of y.items))
all_names_decide x y = through _ (lists_decide x.items y.items) (ap of_names) (ap names_in)

pub meta_decides : (a b : ElemMeta) → Decides (eq_meta.it a b) (meta_of a ≡ meta_of b)
meta_decides a b = let d = all_names_decide in search (rules, d)

pub metas_decide : (m n : Option ElemMeta) → Decides (option_eq eq_meta.it m n) (optional_meta m ≡ optional_meta n)
metas_decide None None = (λ h. refl, λ h. refl)
metas_decide None (Some b) = (λ h. cc, λ h. cc)
metas_decide (Some a) None = (λ h. cc, λ h. cc)
metas_decide (Some a) (Some b) = let d = meta_decides a b in (λ h. ap Some (d.0 h), λ h. d.1 cc)

pub optional_decides : (m : Option ElemMeta) (b : ElemMeta) → Decides (option_eq eq_meta.it m (Some b)) (optional_meta m ≡ Some (meta_of b))
optional_decides None b = (λ h. cc, λ h. cc)
optional_decides (Some a) b = let d = meta_decides a b in (λ h. ap Some (d.0 h), λ h. d.1 cc)

style_decides : (v w : FontStyle) → Decides (eq_style.it v w) (v ≡ w)
style_decides v w = search rules

variant_decides : (v w : FontVariant) → Decides (eq_variant.it v w) (v ≡ w)
variant_decides v w = search rules

weight_decides : (v w : FontWeight) → Decides (eq_weight.it v w) (v ≡ w)
weight_decides v w = search rules

decoration_decides : (v w : TextDecoration) → Decides (eq_decoration.it v w) (v ≡ w)
decoration_decides v w = search rules

align_decides : (v w : VerticalAlign) → Decides (eq_align.it v w) (v ≡ w)
align_decides v w = search rules

pub formatting_decides : (f g : Formatting) → Decides (eq_formatting.it f g) (f ≡ g)
formatting_decides f g = through _ (both _ _ (style_decides f.font_style g.font_style) (both _ _ (variant_decides f.font_variant g.font_variant) (both _ _ (weight_decides f.font_weight g.font_weight) (both _ _ (decoration_decides f.text_decoration g.text_decoration) (align_decides f.vertical_align g.vertical_align)))))
    (λ h i. record { font_style = h.0 i; font_variant = h.1.0 i; font_weight = h.1.1.0 i; text_decoration = h.1.1.1.0 i; vertical_align = h.1.1.1.1 i })
    (λ h. (ap (λ (x : Formatting). x.font_style) h, (ap (λ (x : Formatting). x.font_variant) h, (ap (λ (x : Formatting). x.font_weight) h, (ap (λ (x : Formatting). x.text_decoration) h, ap (λ (x : Formatting). x.vertical_align) h)))))

abbrev bytes_in : List Token → List ℕ
bytes_in (text bs f ∷ ts) = bs
bytes_in ts = []

abbrev formatting_in : List Token → Formatting
formatting_in (text bs f ∷ ts) = f
formatting_in ts = default_formatting

pub formatted_same : (a b : Formatted) → Decides (eq_formatted.it a b) ((string_bytes a.text ≡ string_bytes b.text) × (a.formatting ≡ b.formatting))
formatted_same a b = both _ _ (text_decides a.text b.text) (formatting_decides a.formatting b.formatting)

pub formatted_decides : (a b : Formatted) → Decides (eq_formatted.it a b) (text_tokens a ≡ text_tokens b)
formatted_decides a b = through _ (formatted_same a b)
    (λ h. let e = h.0 in let f = h.1 in cc)
    (λ h. (ap bytes_in h, ap formatting_in h))
