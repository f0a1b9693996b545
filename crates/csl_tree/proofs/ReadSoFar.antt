-- Reading HTML: the pieces so far, and whether the bytes are HTML.
use Rattle.std.proofs.Common.{◌≡◌, ◌<◌, ℕ, Bool, true, false, cond, List, [], ◌∷◌, ◌++◌, map, length, refl, sym, ap, subst, ◌∙◌, append_assoc, length-append, arith}
use Rattle.std.specs.Prelude.{Option, Some, None, unwrap_or, option_and_then}
use Rattle.std.proofs.lemmas.Grind.{flat_map-append}
use Rattle.std.proofs.lemmas.List.{append-nil}
use Rattle.csl_tree.specs.declared.marks.Element.{Element}
use Rattle.csl_tree.specs.declared.marks.Mark.{Mark}
use Rattle.csl_tree.specs.declared.marks.Mark.TheVariants as marks
use Rattle.csl_tree.specs.Html.{IsHtmlOf, IsNotHtml}
use Rattle.csl_tree.specs.Marks.{Piece, start_piece, end_piece, byte_piece, piece_bytes, BeginsNoPiece, IsMark}
use Rattle.csl_tree.specs.Read.{pieces_bytes, piece_text, pieces_text, within_after, within_after_all, within_after_mark, mark_text, IsReadTo}
use Rattle.csl_tree.proofs.Escaped.{text_shortens}
use Rattle.csl_tree.proofs.Pieces.{piece_tells, piece_long, pieces_tell}
use Rattle.csl_tree.proofs.Nests.{within-of_text, bytes-of_text, text-of_text, within-append, pieces, bytes-pieces, text-pieces, nested_within, html_from_pieces}

-- reading goes on by more pieces
read_more : (html rest next : List ℕ) (w v : List Element) (leaves : List ℕ) (ss : List Piece) → IsReadTo html rest w leaves → rest ≡ pieces_bytes ss ++ next → within_after_all w ss ≡ Some v → IsReadTo html next v (leaves ++ pieces_text ss)
read_more html rest next w v leaves ss r e t = record {
  pieces = r.pieces ++ ss;
  bytes = r.bytes ∙ ap (λ (l : List ℕ). pieces_bytes r.pieces ++ l) e ∙ sym (append_assoc (pieces_bytes r.pieces) (pieces_bytes ss) next) ∙ ap (λ (l : List ℕ). l ++ next) (sym (flat_map-append piece_bytes r.pieces ss));
  around = within-append [] r.pieces ss ∙ ap (option_and_then (λ m. within_after_all m ss)) r.around ∙ t;
  texts = ap (λ (l : List ℕ). l ++ pieces_text ss) r.texts ∙ sym (flat_map-append piece_text r.pieces ss);
}

one_piece : (s : Piece) (rest next : List ℕ) → rest ≡ piece_bytes s ++ next → rest ≡ pieces_bytes (s ∷ []) ++ next
one_piece s rest next e = e ∙ ap (λ (l : List ℕ). l ++ next) (sym (append-nil (piece_bytes s)))

one_within : (w v : List Element) (s : Piece) → within_after w s ≡ Some v → within_after_all w (s ∷ []) ≡ Some v
one_within w v s h = ap (option_and_then (λ m. within_after_all m [])) h

-- reading goes on by a mark that is allowed there
pub read_mark : (html rest next : List ℕ) (w v : List Element) (leaves : List ℕ) (mark : Mark) → IsReadTo html rest w leaves → IsMark rest mark next → within_after_mark w mark ≡ Some v → IsReadTo html next v (leaves ++ mark_text mark)
read_mark html rest next w v leaves (marks.Text text) r m t =
    let bs = text.now in
    let e : rest ≡ pieces_bytes (map byte_piece bs) ++ next = m.1 ∙ ap (λ (l : List ℕ). l ++ next) (sym (bytes-of_text bs)) in
    subst (λ (l : List ℕ). IsReadTo html next v (leaves ++ l)) (text-of_text bs) (read_more html rest next w v leaves (map byte_piece bs) r e (within-of_text w bs ∙ t))
read_mark html rest next w v leaves (marks.Start e) r m t =
    let same : within_after w (start_piece m.0) ≡ Some v = ap (λ (x : Element). Some (x ∷ w)) m.1 ∙ t in
    read_more html rest next w v leaves (start_piece m.0 ∷ []) r (one_piece (start_piece m.0) rest next m.2) (one_within w v (start_piece m.0) same)
read_mark html rest next w v leaves (marks.End e) r m t =
    read_more html rest next w v leaves (end_piece e ∷ []) r (one_piece (end_piece e) rest next m) (one_within w v (end_piece e) t)

-- ---- bytes that are not HTML

-- if all the bytes are HTML, the rest is pieces that end the open elements
pub others : (html rest : List ℕ) (w : List Element) (leaves found : List ℕ) → IsReadTo html rest w leaves → IsHtmlOf html found → (back : List Piece) × (rest ≡ pieces_bytes back) × (within_after_all w back ≡ Some []) × (found ≡ leaves ++ pieces_text back)
others html rest w leaves found r h =
    let ts = pieces h.tokens in
    let f = pieces_tell r.pieces ts rest (sym r.bytes ∙ h.written ∙ sym (bytes-pieces h.tokens)) in (
      f.back,
      f.bytes,
      sym (ap (option_and_then (λ m. within_after_all m f.back)) r.around) ∙ sym (f.around []) ∙ nested_within [] h.nested,
      h.texts ∙ sym (text-pieces h.tokens) ∙ f.texts ∙ ap (λ (l : List ℕ). l ++ pieces_text f.back) (sym r.texts),
    )

refuse_piece : (w : List Element) (s : Piece) (next : List ℕ) (back : List Piece) → within_after w s ≡ None → piece_bytes s ++ next ≡ pieces_bytes back → within_after_all w back ≡ Some [] → ⊥
refuse_piece w s next [] n e t = omega (arith, piece_long s, ap length e, length-append (piece_bytes s) next)
refuse_piece w s next (b ∷ back) n e t =
    let p = piece_tells s b next (pieces_bytes back) e in
    cc (sym (ap (option_and_then (λ m. within_after_all m back)) (sym (p.0.0 w) ∙ n)) ∙ t)

-- an end tag that does not end the innermost element
pub refuse_mark : (html rest next : List ℕ) (w : List Element) (leaves : List ℕ) (mark : Mark) → IsReadTo html rest w leaves → IsMark rest mark next → within_after_mark w mark ≡ None → IsNotHtml html
refuse_mark html rest next w leaves (marks.Text text) r m t found h = cc t
refuse_mark html rest next w leaves (marks.Start e) r m t found h = cc t
refuse_mark html rest next w leaves (marks.End e) r m t found h =
    let o = others html rest w leaves found r h in
    refuse_piece w (end_piece e) next o.0 t (sym m ∙ o.1) o.2

refuse_back : (rest : List ℕ) (w : List Element) (back : List Piece) → BeginsNoPiece rest → (rest ≡ [] → w ≡ [] → ⊥) → rest ≡ pieces_bytes back → within_after_all w back ≡ Some [] → ⊥
refuse_back rest w [] b k e t = k e (ap (λ (o : Option (List Element)). unwrap_or o w) t)
refuse_back rest w (s ∷ back) b k e t = b s (pieces_bytes back) e

-- the rest begins with no piece, and bytes or open elements are left
pub refuse_rest : (html rest : List ℕ) (w : List Element) (leaves : List ℕ) → IsReadTo html rest w leaves → BeginsNoPiece rest → (rest ≡ [] → w ≡ [] → ⊥) → IsNotHtml html
refuse_rest html rest w leaves r b k found h =
    let o = others html rest w leaves found r h in
    refuse_back rest w o.0 b k o.1 o.2

-- ---- bytes that are HTML

pub read_all : (html rest : List ℕ) (w : List Element) (leaves : List ℕ) → IsReadTo html rest w leaves → rest ≡ [] → w ≡ [] → IsHtmlOf html leaves
read_all html rest w leaves r e f =
    html_from_pieces html leaves r.pieces (r.bytes ∙ ap (λ (l : List ℕ). pieces_bytes r.pieces ++ l) e ∙ append-nil (pieces_bytes r.pieces)) r.texts (r.around ∙ ap Some f)

nothing_left : (back : List Piece) → [] ≡ pieces_bytes back → pieces_text back ≡ []
nothing_left [] e = refl
nothing_left (s ∷ back) e = absurd (omega (arith, piece_long s, ap length e, length-append (piece_bytes s) (pieces_bytes back)))

-- HTML has one text
pub one_text : (html x y : List ℕ) → IsHtmlOf html x → IsHtmlOf html y → x ≡ y
one_text html x y h k =
    let ss = pieces h.tokens in
    let f = pieces_tell ss (pieces k.tokens) [] (append-nil (pieces_bytes ss) ∙ bytes-pieces h.tokens ∙ sym h.written ∙ k.written ∙ sym (bytes-pieces k.tokens)) in
    h.texts ∙ sym (text-pieces h.tokens)
    ∙ sym (append-nil (pieces_text ss))
    ∙ ap (λ (l : List ℕ). pieces_text ss ++ l) (sym (nothing_left f.back f.bytes))
    ∙ sym f.texts ∙ text-pieces k.tokens ∙ sym k.texts

pub mark_shortens : (rest next : List ℕ) (mark : Mark) → IsMark rest mark next → length next < length rest
mark_shortens rest next (marks.Text text) m = text_shortens rest text.now next m.0 m.1
mark_shortens rest next (marks.Start e) m = omega (arith, piece_long (start_piece m.0), ap length m.2, length-append (piece_bytes (start_piece m.0)) next)
mark_shortens rest next (marks.End e) m = omega (arith, piece_long (end_piece e), ap length m, length-append (piece_bytes (end_piece e)) next)

-- the mark is allowed, or it is not
pub fits : (b : Bool) (v : List Element) (t : Option (List Element)) → t ≡ cond b (Some v) None → b ≡ true → t ≡ Some v
fits true v t e h = e
fits false v t e h = absurd (cc h)

pub fits_not : (b : Bool) (v : List Element) (t : Option (List Element)) → t ≡ cond b (Some v) None → b ≡ false → t ≡ None
fits_not false v t e h = e
fits_not true v t e h = absurd (cc h)
