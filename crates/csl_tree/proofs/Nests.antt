-- Nested lists of tags and texts, as pieces that end each element that they start.
use Rattle.std.proofs.Common.{◌≡◌, ℕ, true, false, cond, List, [], ◌∷◌, ◌++◌, map, refl, sym, ap, subst, ◌∙◌, append_assoc, arith}
use Rattle.std.specs.Prelude.{Some, None, ◌==◌, option_and_then}
use Rattle.std.specs.List.{flat_map}
use Rattle.std.proofs.lemmas.Bool.{eqb-true, eq-eqb}
use Rattle.std.proofs.lemmas.Grind.{flat_map-append}
use Rattle.std.proofs.lemmas.List.{append-nil}
use Rattle.csl_tree.specs.declared.marks.Element.{Element}
use Rattle.csl_tree.specs.declared.marks.Element.TheVariants as element
use Rattle.csl_tree.specs.Escapes.{escape, escape_all}
use Rattle.csl_tree.specs.Html.{Tag, div, span, anchor, HtmlToken, start_tag, end_tag, characters, IsNested, nothing, text_then, element_then, characters_of, html_text, html_bytes_of, html_bytes, IsHtmlOf}
use Rattle.csl_tree.specs.Marks.{Piece, start_piece, end_piece, byte_piece, piece_bytes, element_of, end_bytes}
use Rattle.csl_tree.specs.Read.{pieces_bytes, piece_text, pieces_text, element_place, within_after, within_after_all}

-- ---- a text as pieces

pub within-of_text : (o : List Element) (bs : List ℕ) → within_after_all o (map byte_piece bs) ≡ Some o
within-of_text o [] = refl
within-of_text o (b ∷ bs) = within-of_text o bs

pub bytes-of_text : (bs : List ℕ) → pieces_bytes (map byte_piece bs) ≡ escape_all bs
bytes-of_text [] = refl
bytes-of_text (b ∷ bs) = ap (λ (l : List ℕ). escape b ++ l) (bytes-of_text bs)

pub text-of_text : (bs : List ℕ) → pieces_text (map byte_piece bs) ≡ bs
text-of_text [] = refl
text-of_text (b ∷ bs) = ap (λ (l : List ℕ). b ∷ l) (text-of_text bs)

pub within-append : (o : List Element) (ss ts : List Piece) → within_after_all o (ss ++ ts) ≡ option_and_then (λ m. within_after_all m ts) (within_after_all o ss)
within-append o [] ts = refl
within-append o (s ∷ ss) ts =
    elim (within_after o s) as (λ p. option_and_then (λ m. within_after_all m (ss ++ ts)) p ≡ option_and_then (λ m. within_after_all m ts) (option_and_then (λ m. within_after_all m ss) p)) [
      | None ↦ refl
      | Some m ↦ within-append m ss ts
    ]

-- ---- tokens as pieces

abbrev pub pieces_of : HtmlToken → List Piece
pieces_of (start_tag tag) = start_piece tag ∷ []
pieces_of (end_tag tag) = end_piece (element_of tag) ∷ []
pieces_of (characters bs) = map byte_piece bs

abbrev pub pieces : List HtmlToken → List Piece
pieces hs = flat_map pieces_of hs

end_tag_bytes : (tag : Tag) → end_bytes (element_of tag) ≡ html_bytes_of (end_tag tag)
end_tag_bytes (div d) = refl
end_tag_bytes (span f) = refl
end_tag_bytes (anchor url) = refl

bytes-pieces_of : (h : HtmlToken) → pieces_bytes (pieces_of h) ≡ html_bytes_of h
bytes-pieces_of (start_tag tag) = append-nil (html_bytes_of (start_tag tag))
bytes-pieces_of (end_tag tag) = append-nil (end_bytes (element_of tag)) ∙ end_tag_bytes tag
bytes-pieces_of (characters bs) = bytes-of_text bs

text-pieces_of : (h : HtmlToken) → pieces_text (pieces_of h) ≡ characters_of h
text-pieces_of (start_tag tag) = refl
text-pieces_of (end_tag tag) = refl
text-pieces_of (characters bs) = text-of_text bs

pub bytes-pieces : (hs : List HtmlToken) → pieces_bytes (pieces hs) ≡ html_bytes hs
bytes-pieces [] = refl
bytes-pieces (h ∷ hs) = flat_map-append piece_bytes (pieces_of h) (pieces hs) ∙ (λ i. bytes-pieces_of h i ++ bytes-pieces hs i)

pub text-pieces : (hs : List HtmlToken) → pieces_text (pieces hs) ≡ html_text hs
text-pieces [] = refl
text-pieces (h ∷ hs) = flat_map-append piece_text (pieces_of h) (pieces hs) ∙ (λ i. text-pieces_of h i ++ text-pieces hs i)

-- a nested list ends each element that it starts
pub nested_within : {hs : List HtmlToken} (o : List Element) → IsNested hs → within_after_all o (pieces hs) ≡ Some o
nested_within o nothing = refl
nested_within o (text_then bs rest n) =
    within-append o (map byte_piece bs) (pieces rest)
    ∙ ap (option_and_then (λ m. within_after_all m (pieces rest))) (within-of_text o bs)
    ∙ nested_within o n
nested_within o (element_then tag inside rest n k) =
    let e = element_of tag in
    let same : (element_place e == element_place e) ≡ true = eq-eqb (element_place e) (element_place e) refl in
    let behind : within_after_all (e ∷ o) (end_piece e ∷ pieces rest) ≡ Some o = rw same (nested_within o k) in
    ap (within_after_all (e ∷ o)) (flat_map-append pieces_of inside (end_tag tag ∷ rest))
    ∙ within-append (e ∷ o) (pieces inside) (end_piece e ∷ pieces rest)
    ∙ ap (option_and_then (λ m. within_after_all m (end_piece e ∷ pieces rest))) (nested_within (e ∷ o) n)
    ∙ behind

-- ---- pieces as tokens

-- the list ends these elements, innermost first; nested lists are before and after each end tag
abbrev Closes : List Tag → List HtmlToken → Type 0
Closes [] hs = IsNested hs
Closes (t ∷ tags) hs = (inside : List HtmlToken) × (rest : List HtmlToken) × IsNested inside × Closes tags rest × (hs ≡ inside ++ end_tag t ∷ rest)

closes_text : (bs : List ℕ) (tags : List Tag) (hs : List HtmlToken) → Closes tags hs → Closes tags (characters bs ∷ hs)
closes_text bs [] hs c = text_then bs hs c
closes_text bs (t ∷ tags) hs c = (characters bs ∷ c.0, c.1, text_then bs c.0 c.2, c.3, ap (λ (l : List HtmlToken). characters bs ∷ l) c.4)

closes_element : (tag : Tag) (tags : List Tag) (hs : List HtmlToken) → Closes (tag ∷ tags) hs → Closes tags (start_tag tag ∷ hs)
closes_element tag [] hs c = subst (λ (l : List HtmlToken). IsNested (start_tag tag ∷ l)) (sym c.4) (element_then tag c.0 c.1 c.2 c.3)
closes_element tag (t ∷ tags) hs c =
    let d = c.3 in (
      start_tag tag ∷ (c.0 ++ end_tag tag ∷ d.0),
      d.1,
      element_then tag c.0 d.0 c.2 d.2,
      d.3,
      ap (λ (l : List HtmlToken). start_tag tag ∷ l) (c.4 ∙ ap (λ (l : List HtmlToken). c.0 ++ end_tag tag ∷ l) d.4 ∙ sym (append_assoc c.0 (end_tag tag ∷ d.0) (end_tag t ∷ d.1))),
    )

closes_end : (t : Tag) (tags : List Tag) (hs : List HtmlToken) → Closes tags hs → Closes (t ∷ tags) (end_tag t ∷ hs)
closes_end t tags hs c = ([], hs, nothing, c, refl)

pub one_place : (d e : Element) → element_place d ≡ element_place e → d ≡ e
one_place element.Div element.Div h = refl
one_place element.Div element.Span h = absurd (omega (arith, h))
one_place element.Div element.Anchor h = absurd (omega (arith, h))
one_place element.Span element.Div h = absurd (omega (arith, h))
one_place element.Span element.Span h = refl
one_place element.Span element.Anchor h = absurd (omega (arith, h))
one_place element.Anchor element.Div h = absurd (omega (arith, h))
one_place element.Anchor element.Span h = absurd (omega (arith, h))
one_place element.Anchor element.Anchor h = refl

-- tokens that end these elements, and have these pieces
record FromPieces (tags : List Tag) (ss : List Piece) : Type 0 where
  pub tokens : List HtmlToken
  pub closes : Closes tags tokens
  pub bytes : pieces_bytes ss ≡ html_bytes tokens
  pub text : pieces_text ss ≡ html_text tokens

from_pieces : (tags : List Tag) (ss : List Piece) → within_after_all (map element_of tags) ss ≡ Some [] → FromPieces tags ss
from_pieces [] [] h = record { tokens = []; closes = nothing; bytes = refl; text = refl }
from_pieces (t ∷ tags) [] h = absurd (cc h)
from_pieces tags (start_piece tag ∷ ss) h =
    let r = from_pieces (tag ∷ tags) ss h in
    record {
      tokens = start_tag tag ∷ r.tokens;
      closes = closes_element tag tags r.tokens r.closes;
      bytes = ap (λ (l : List ℕ). html_bytes_of (start_tag tag) ++ l) r.bytes;
      text = r.text;
    }
from_pieces [] (end_piece e ∷ ss) h = absurd (cc h)
from_pieces (t ∷ tags) (end_piece e ∷ ss) h =
    elim (element_place (element_of t) == element_place e) as (λ b. (element_place (element_of t) == element_place e) ≡ b → option_and_then (λ m. within_after_all m ss) (cond b (Some (map element_of tags)) None) ≡ Some [] → FromPieces (t ∷ tags) (end_piece e ∷ ss)) [
      | true ↦ λ k m.
          let r = from_pieces tags ss m in
          let same : e ≡ element_of t = sym (one_place (element_of t) e (eqb-true (element_place (element_of t)) (element_place e) k)) in
          record {
            tokens = end_tag t ∷ r.tokens;
            closes = closes_end t tags r.tokens r.closes;
            bytes = (λ i. (ap end_bytes same ∙ end_tag_bytes t) i ++ r.bytes i);
            text = r.text;
          }
      | false ↦ λ k m. absurd (cc m)
    ] refl h
from_pieces tags (byte_piece b ∷ ss) h =
    let r = from_pieces tags ss h in
    record {
      tokens = characters (b ∷ []) ∷ r.tokens;
      closes = closes_text (b ∷ []) tags r.tokens r.closes;
      bytes = (λ i. sym (append-nil (escape b)) i ++ r.bytes i);
      text = ap (λ (l : List ℕ). b ∷ l) r.text;
    }

-- pieces that end each element that they start are HTML
pub html_from_pieces : (html leaves : List ℕ) (ss : List Piece) → html ≡ pieces_bytes ss → leaves ≡ pieces_text ss → within_after_all [] ss ≡ Some [] → IsHtmlOf html leaves
html_from_pieces html leaves ss e f h =
    let r = from_pieces [] ss h in
    record { tokens = r.tokens; nested = r.closes; written = e ∙ r.bytes; texts = f ∙ r.text }
