-- The start tag or end tag that HTML begins with, and the rest after it.
use Rattle.std.proofs.Common.{◌≡◌, ◌⊎◌, inl, inr, ℕ, List, ◌++◌, refl, sym, ap, ◌∙◌, append_assoc}
use Rattle.std.specs.Prelude.{Option, Some, None, unwrap_or, option_and_then, codes}
use Rattle.csl_elements.specs.declared.formatting.Display.{Display}
use Rattle.csl_elements.specs.declared.formatting.Display.TheVariants.{Block, LeftMargin, RightInline, Indent}
use Rattle.csl_elements.specs.declared.formatting.FontStyle.{FontStyle}
use Rattle.csl_elements.specs.declared.formatting.FontStyle.TheVariants as style
use Rattle.csl_elements.specs.declared.formatting.FontVariant.{FontVariant}
use Rattle.csl_elements.specs.declared.formatting.FontVariant.TheVariants as variant
use Rattle.csl_elements.specs.declared.formatting.FontWeight.{FontWeight}
use Rattle.csl_elements.specs.declared.formatting.FontWeight.TheVariants as weight
use Rattle.csl_elements.specs.declared.formatting.TextDecoration.{TextDecoration}
use Rattle.csl_elements.specs.declared.formatting.TextDecoration.TheVariants as decoration
use Rattle.csl_elements.specs.declared.formatting.VerticalAlign.{VerticalAlign}
use Rattle.csl_elements.specs.declared.formatting.VerticalAlign.TheVariants as align
use Rattle.csl_tree.specs.declared.formatting.Formatting.{Formatting}
use Rattle.csl_tree.specs.declared.marks.Element.{Element}
use Rattle.csl_tree.specs.declared.marks.Element.TheVariants as element
use Rattle.csl_tree.specs.Escapes.{escape_all}
use Rattle.csl_tree.specs.Html.{div, span, anchor, css, style_css, weight_css, decoration_css, variant_css, align_css, div_start}
use Rattle.csl_tree.specs.Marks.{end_bytes, without, after, or_else, entity_at, reference_at, div_at, span_at, read_end_tag, after_css, after_style, after_weight, after_decoration, after_variant, after_align, IsAfterText, IsAfterAnchor, IsStart, BeginsNoStart}
use Rattle.csl_tree.proofs.Fronts.{without-append, without-is}
use Rattle.csl_tree.proofs.Escaped.{or_else-is, named-is, texts_tell}

-- the end of a start tag, then the rest
abbrev Closing : List ℕ → List ℕ
Closing more = codes "\">" ++ more

-- ---- the declarations of a span, the last first

after-align : (a : VerticalAlign) (more : List ℕ) → after_align (align_css a ++ Closing more) ≡ Closing more
after-align align.None more = refl
after-align align.Baseline more = refl
after-align align.Sup more = refl
after-align align.Sub more = refl

after-variant : (v : FontVariant) (a : VerticalAlign) (more : List ℕ) → after_variant (variant_css v ++ (align_css a ++ Closing more)) ≡ align_css a ++ Closing more
after-variant variant.SmallCaps a more = refl
after-variant variant.Normal align.None more = refl
after-variant variant.Normal align.Baseline more = refl
after-variant variant.Normal align.Sup more = refl
after-variant variant.Normal align.Sub more = refl

after-decoration : (d : TextDecoration) (v : FontVariant) (a : VerticalAlign) (more : List ℕ) → after_decoration (decoration_css d ++ (variant_css v ++ (align_css a ++ Closing more))) ≡ variant_css v ++ (align_css a ++ Closing more)
after-decoration decoration.Underline v a more = refl
after-decoration decoration.None variant.SmallCaps a more = refl
after-decoration decoration.None variant.Normal align.None more = refl
after-decoration decoration.None variant.Normal align.Baseline more = refl
after-decoration decoration.None variant.Normal align.Sup more = refl
after-decoration decoration.None variant.Normal align.Sub more = refl

after-weight : (w : FontWeight) (d : TextDecoration) (v : FontVariant) (a : VerticalAlign) (more : List ℕ) → after_weight (weight_css w ++ (decoration_css d ++ (variant_css v ++ (align_css a ++ Closing more)))) ≡ decoration_css d ++ (variant_css v ++ (align_css a ++ Closing more))
after-weight weight.Bold d v a more = refl
after-weight weight.Light d v a more = refl
after-weight weight.Normal decoration.Underline v a more = refl
after-weight weight.Normal decoration.None variant.SmallCaps a more = refl
after-weight weight.Normal decoration.None variant.Normal align.None more = refl
after-weight weight.Normal decoration.None variant.Normal align.Baseline more = refl
after-weight weight.Normal decoration.None variant.Normal align.Sup more = refl
after-weight weight.Normal decoration.None variant.Normal align.Sub more = refl

after-style : (s : FontStyle) (w : FontWeight) (d : TextDecoration) (v : FontVariant) (a : VerticalAlign) (more : List ℕ) → after_style (style_css s ++ (weight_css w ++ (decoration_css d ++ (variant_css v ++ (align_css a ++ Closing more))))) ≡ weight_css w ++ (decoration_css d ++ (variant_css v ++ (align_css a ++ Closing more)))
after-style style.Italic w d v a more = refl
after-style style.Normal weight.Bold d v a more = refl
after-style style.Normal weight.Light d v a more = refl
after-style style.Normal weight.Normal decoration.Underline v a more = refl
after-style style.Normal weight.Normal decoration.None variant.SmallCaps a more = refl
after-style style.Normal weight.Normal decoration.None variant.Normal align.None more = refl
after-style style.Normal weight.Normal decoration.None variant.Normal align.Baseline more = refl
after-style style.Normal weight.Normal decoration.None variant.Normal align.Sup more = refl
after-style style.Normal weight.Normal decoration.None variant.Normal align.Sub more = refl

five : (p q r s t more : List ℕ) → (p ++ (q ++ (r ++ (s ++ t)))) ++ more ≡ p ++ (q ++ (r ++ (s ++ (t ++ more))))
five p q r s t more =
    append_assoc p (q ++ (r ++ (s ++ t))) more
    ∙ ap (λ (l : List ℕ). p ++ l) (append_assoc q (r ++ (s ++ t)) more
    ∙ ap (λ (l : List ℕ). q ++ l) (append_assoc r (s ++ t) more
    ∙ ap (λ (l : List ℕ). r ++ l) (append_assoc s t more)))

after_css-css : (f : Formatting) (more : List ℕ) → after_css (css f ++ Closing more) ≡ Closing more
unfolding after_css
after_css-css f more =
    ap (λ (l : List ℕ). after_align (after_variant (after_decoration (after_weight (after_style l))))) (five (style_css f.font_style) (weight_css f.font_weight) (decoration_css f.text_decoration) (variant_css f.font_variant) (align_css f.vertical_align) (Closing more))
    ∙ ap (λ (l : List ℕ). after_align (after_variant (after_decoration (after_weight l)))) (after-style f.font_style f.font_weight f.text_decoration f.font_variant f.vertical_align more)
    ∙ ap (λ (l : List ℕ). after_align (after_variant (after_decoration l))) (after-weight f.font_weight f.text_decoration f.font_variant f.vertical_align more)
    ∙ ap (λ (l : List ℕ). after_align (after_variant l)) (after-decoration f.text_decoration f.font_variant f.vertical_align more)
    ∙ ap after_align (after-variant f.font_variant f.vertical_align more)
    ∙ after-align f.vertical_align more

-- a declaration or none, then the rest
after-is : (front bs : List ℕ) → (bs ≡ front ++ after front bs) ⊎ (bs ≡ after front bs)
after-is front bs =
    elim (without front bs) as (λ o. without front bs ≡ o → (bs ≡ front ++ unwrap_or o bs) ⊎ (bs ≡ unwrap_or o bs)) [
      | None ↦ λ e. inr refl
      | Some more ↦ λ e. inl (without-is front bs more e)
    ] refl

either-is : (one two bs : List ℕ) → let rest : List ℕ = unwrap_or (or_else (without one bs) (without two bs)) bs in (bs ≡ one ++ rest) ⊎ ((bs ≡ two ++ rest) ⊎ (bs ≡ rest))
either-is one two bs =
    elim (without one bs) as (λ o. without one bs ≡ o → (bs ≡ one ++ unwrap_or (or_else o (without two bs)) bs) ⊎ ((bs ≡ two ++ unwrap_or (or_else o (without two bs)) bs) ⊎ (bs ≡ unwrap_or (or_else o (without two bs)) bs))) [
      | None ↦ λ e. inr (after-is two bs)
      | Some more ↦ λ e. inl (without-is one bs more e)
    ] refl

style_after : (bs : List ℕ) → (s : FontStyle) × (bs ≡ style_css s ++ after_style bs)
style_after bs = elim (after-is (codes "font-style: italic;") bs) [ inl e ↦ (style.Italic, e) | inr e ↦ (style.Normal, e) ]

weight_after : (bs : List ℕ) → (w : FontWeight) × (bs ≡ weight_css w ++ after_weight bs)
weight_after bs = elim (either-is (codes "font-weight: bold;") (codes "font-weight: lighter;") bs) [ inl e ↦ (weight.Bold, e) | inr e ↦ elim e [ inl f ↦ (weight.Light, f) | inr f ↦ (weight.Normal, f) ] ]

decoration_after : (bs : List ℕ) → (d : TextDecoration) × (bs ≡ decoration_css d ++ after_decoration bs)
decoration_after bs = elim (after-is (codes "text-decoration: underline;") bs) [ inl e ↦ (decoration.Underline, e) | inr e ↦ (decoration.None, e) ]

variant_after : (bs : List ℕ) → (v : FontVariant) × (bs ≡ variant_css v ++ after_variant bs)
variant_after bs = elim (after-is (codes "font-variant: small-caps;") bs) [ inl e ↦ (variant.SmallCaps, e) | inr e ↦ (variant.Normal, e) ]

align_after : (bs : List ℕ) → (a : VerticalAlign) × (bs ≡ align_css a ++ after_align bs)
align_after bs = elim (either-is (codes "vertical-align: super;") (codes "vertical-align: sub;") bs) [ inl e ↦ (align.Sup, e) | inr e ↦ elim e [ inl f ↦ (align.Sub, f) | inr f ↦ (align.None, f) ] ]

after_css-is : (bs : List ℕ) → (f : Formatting) × (bs ≡ css f ++ after_css bs)
unfolding after_css
after_css-is bs =
    let s = style_after bs in
    let w = weight_after (after_style bs) in
    let d = decoration_after (after_weight (after_style bs)) in
    let v = variant_after (after_decoration (after_weight (after_style bs))) in
    let a = align_after (after_variant (after_decoration (after_weight (after_style bs)))) in
    let f : Formatting = record { font_style = s.0; font_variant = v.0; font_weight = w.0; text_decoration = d.0; vertical_align = a.0 } in (
      f,
      s.1 ∙ ap (λ (l : List ℕ). style_css s.0 ++ l) (w.1
          ∙ ap (λ (l : List ℕ). weight_css w.0 ++ l) (d.1
          ∙ ap (λ (l : List ℕ). decoration_css d.0 ++ l) (v.1
          ∙ ap (λ (l : List ℕ). variant_css v.0 ++ l) a.1)))
          ∙ sym (five (style_css s.0) (weight_css w.0) (decoration_css d.0) (variant_css v.0) (align_css a.0) (after_css bs)),
    )

-- ---- start tags

abbrev pub anchor_bytes : List ℕ → List ℕ
anchor_bytes url = codes "<a href=\"" ++ (escape_all url ++ codes "\">")

pub anchor-split : (url more : List ℕ) → anchor_bytes url ++ more ≡ codes "<a href=\"" ++ (escape_all url ++ Closing more)
anchor-split url more = append_assoc (codes "<a href=\"") (escape_all url ++ codes "\">") more ∙ ap (λ (l : List ℕ). codes "<a href=\"" ++ l) (append_assoc (escape_all url) (codes "\">") more)

pub anchor_after : (html r s : List ℕ) → without (codes "<a href=\"") html ≡ Some r → IsAfterText r s → IsAfterAnchor html (without (codes "\">") s)
unfolding reference_at
anchor_after html r s e p =
    let whole : html ≡ codes "<a href=\"" ++ r = without-is (codes "<a href=\"") html r e in
    elim (without (codes "\">") s) as (λ o. without (codes "\">") s ≡ o → IsAfterAnchor html o) [
      | None ↦ λ f. λ url more g.
          let h : Some r ≡ Some (escape_all url ++ Closing more) = sym e ∙ ap (without (codes "<a href=\"")) (g ∙ anchor-split url more) ∙ without-append (codes "<a href=\"") (escape_all url ++ Closing more) in
          let k : escape_all p.0 ++ s ≡ escape_all url ++ Closing more = sym p.1 ∙ ap (λ (o : Option (List ℕ)). unwrap_or o r) h in
          let t = texts_tell p.0 url s (Closing more) p.2 refl k in
          absurd (cc (sym f ∙ ap (without (codes "\">")) t.1 ∙ without-append (codes "\">") more))
      | Some rest ↦ λ f.
          (p.0, whole ∙ ap (λ (l : List ℕ). codes "<a href=\"" ++ l) (p.1 ∙ ap (λ (l : List ℕ). escape_all p.0 ++ l) (without-is (codes "\">") s rest f)) ∙ sym (anchor-split p.0 rest))
    ] refl

pub no_anchor : (html : List ℕ) → without (codes "<a href=\"") html ≡ None → IsAfterAnchor html None
no_anchor html e url more g = absurd (cc (sym e ∙ ap (without (codes "<a href=\"")) (g ∙ anchor-split url more) ∙ without-append (codes "<a href=\"") (escape_all url ++ Closing more)))

pub div_at-start : (d : Display) (more : List ℕ) → div_at (div_start d ++ more) ≡ Some more
unfolding div_at
div_at-start Block more = refl
div_at-start LeftMargin more = refl
div_at-start RightInline more = refl
div_at-start Indent more = refl

pub div_at-is : (bs more : List ℕ) → div_at bs ≡ Some more → (d : Display) × (bs ≡ div_start d ++ more)
unfolding div_at
div_at-is bs more h =
    let o : Display → Option (List ℕ) = λ d. without (div_start d) bs in
    elim (or_else-is (o Block) (or_else (o Indent) (or_else (o LeftMargin) (o RightInline))) more h) [
      | inl k ↦ (Block, without-is (div_start Block) bs more k)
      | inr k ↦ elim (or_else-is (o Indent) (or_else (o LeftMargin) (o RightInline)) more k) [
        | inl m ↦ (Indent, without-is (div_start Indent) bs more m)
        | inr m ↦ elim (or_else-is (o LeftMargin) (o RightInline) more m) [
          | inl n ↦ (LeftMargin, without-is (div_start LeftMargin) bs more n)
          | inr n ↦ (RightInline, without-is (div_start RightInline) bs more n)
        ]
      ]
    ]

abbrev pub span_bytes : Formatting → List ℕ
span_bytes f = codes "<span style=\"" ++ (css f ++ codes "\">")

span-split : (f : Formatting) (more : List ℕ) → span_bytes f ++ more ≡ codes "<span style=\"" ++ (css f ++ Closing more)
span-split f more = append_assoc (codes "<span style=\"") (css f ++ codes "\">") more ∙ ap (λ (l : List ℕ). codes "<span style=\"" ++ l) (append_assoc (css f) (codes "\">") more)

pub span_at-start : (f : Formatting) (more : List ℕ) → span_at (span_bytes f ++ more) ≡ Some more
unfolding span_at
span_at-start f more =
    ap (λ (l : List ℕ). option_and_then (λ rest. without (codes "\">") (after_css rest)) (without (codes "<span style=\"") l)) (span-split f more)
    ∙ ap (option_and_then (λ rest. without (codes "\">") (after_css rest))) (without-append (codes "<span style=\"") (css f ++ Closing more))
    ∙ ap (without (codes "\">")) (after_css-css f more)
    ∙ without-append (codes "\">") more

pub span_at-is : (bs more : List ℕ) → span_at bs ≡ Some more → (f : Formatting) × (bs ≡ span_bytes f ++ more)
unfolding span_at
span_at-is bs more h =
    elim (without (codes "<span style=\"") bs) as (λ o. without (codes "<span style=\"") bs ≡ o → option_and_then (λ rest. without (codes "\">") (after_css rest)) o ≡ Some more → (f : Formatting) × (bs ≡ span_bytes f ++ more)) [
      | None ↦ λ e k. absurd (cc k)
      | Some rest ↦ λ e k.
          let c = after_css-is rest in
          (c.0, without-is (codes "<span style=\"") bs rest e ∙ ap (λ (l : List ℕ). codes "<span style=\"" ++ l) (c.1 ∙ ap (λ (l : List ℕ). css c.0 ++ l) (without-is (codes "\">") (after_css rest) more k)) ∙ sym (span-split c.0 more))
    ] refl h

-- ---- the results of the code

pub div_found : (html rest : List ℕ) → Some rest ≡ div_at html → IsStart html element.Div rest
div_found html rest h = let d = div_at-is html rest (sym h) in (div d.0, refl, d.1)

pub span_found : (html rest : List ℕ) → Some rest ≡ span_at html → IsStart html element.Span rest
span_found html rest h = let f = span_at-is html rest (sym h) in (span f.0, refl, f.1)

pub anchor_found : (html rest : List ℕ) → IsAfterAnchor html (Some rest) → IsStart html element.Anchor rest
anchor_found html rest h = (anchor h.0, refl, h.1)

pub none_found : (html : List ℕ) → None ≡ div_at html → None ≡ span_at html → IsAfterAnchor html None → BeginsNoStart html
none_found html h k m (div d) more e = absurd (cc (h ∙ ap div_at e ∙ div_at-start d more))
none_found html h k m (span f) more e = absurd (cc (k ∙ ap span_at e ∙ span_at-start f more))
none_found html h k m (anchor url) more e = m url more e

-- ---- end tags

pub read_end_tag-bytes : (e : Element) (more : List ℕ) → read_end_tag (end_bytes e ++ more) ≡ Some (e, more)
unfolding read_end_tag
read_end_tag-bytes element.Div more = refl
read_end_tag-bytes element.Span more = refl
read_end_tag-bytes element.Anchor more = refl

ended : (o : Element) (e : Element) (bs more : List ℕ) → entity_at o (end_bytes o) bs ≡ Some (e, more) → bs ≡ end_bytes e ++ more
ended o e bs more h = let k = named-is o e (end_bytes o) bs more h in k.1 ∙ ap (λ (x : Element). end_bytes x ++ more) k.0

pub read_end_tag-is : (bs : List ℕ) (e : Element) (more : List ℕ) → read_end_tag bs ≡ Some (e, more) → bs ≡ end_bytes e ++ more
unfolding read_end_tag
read_end_tag-is bs e more h =
    let o : Element → Option (Element × List ℕ) = λ x. entity_at x (end_bytes x) bs in
    elim (or_else-is (o element.Div) (or_else (o element.Span) (o element.Anchor)) (e, more) h) [
      | inl k ↦ ended element.Div e bs more k
      | inr k ↦ elim (or_else-is (o element.Span) (o element.Anchor) (e, more) k) [
        | inl m ↦ ended element.Span e bs more m
        | inr m ↦ ended element.Anchor e bs more m
      ]
    ]
