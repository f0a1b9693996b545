-- The first bytes of HTML decide its first piece, so HTML has at most one list of pieces. Only the
-- alignments none and baseline of a `span` are not distinguished.
use Rattle.std.proofs.Common.{◌≡◌, ◌<◌, ◌⊎◌, inl, inr, ℕ, true, false, List, [], ◌∷◌, ◌++◌, length, get_or, refl, sym, ap, subst, ◌∙◌, append_assoc, length-append, arith, lit<}
use Rattle.std.specs.Prelude.{Option, Some, None, not, ◌==◌, unwrap_or, option_and_then, codes, if◌then◌else◌}
use Rattle.std.proofs.lemmas.Grind.{common_steps}
use Rattle.csl_elements.specs.declared.formatting.Display.TheVariants.{Block, LeftMargin, RightInline, Indent}
use Rattle.csl_tree.specs.declared.marks.Element.{Element}
use Rattle.csl_tree.specs.declared.marks.Element.TheVariants as element
use Rattle.csl_tree.specs.Escapes.{escape, escape_all, is_reserved}
use Rattle.csl_tree.specs.Html.{div, span, anchor}
use Rattle.csl_tree.specs.Marks.{without, reference_at, byte_at, div_at, span_at, read_end_tag, BeginsNoStart, Piece, start_piece, end_piece, byte_piece, piece_bytes, BeginsNoPiece}
use Rattle.csl_tree.specs.Read.{pieces_bytes, piece_text, pieces_text, within_after, within_after_all}
use Rattle.csl_tree.proofs.Fronts.{without-append}
use Rattle.csl_tree.proofs.Escaped.{byte_at-escape, same_pair, texts_tell, which, escape-plain, escape_long}
use Rattle.csl_tree.proofs.Tags.{div_at-start, span_at-start, read_end_tag-bytes, anchor_bytes, anchor-split}

-- ---- the sort of a piece

-- the second byte of a tag, and 0 for a byte of a text, whose HTML has no `<`
abbrev sort_of : Piece → ℕ
sort_of (start_piece (div d)) = 100
sort_of (start_piece (span f)) = 115
sort_of (start_piece (anchor url)) = 97
sort_of (end_piece e) = 47
sort_of (byte_piece b) = 0

abbrev sort_at : List ℕ → ℕ
sort_at bs = if get_or bs 0 0 == 60 then get_or bs 1 0 else 0

escape_begins : (b : ℕ) (more : List ℕ) → (get_or (escape b ++ more) 0 0 == 60) ≡ false
escape_begins b more =
    elim (is_reserved b) as (λ t. is_reserved b ≡ t → (get_or (escape b ++ more) 0 0 == 60) ≡ false) [
      | true ↦ λ e. reserved (which b e)
      | false ↦ λ e. let one = escape-plain b (ap not e) in let apart : (b == 60) ≡ false = grind (arith, common_steps) in rw one apart
    ] refl
  where
    reserved : (b ≡ 38) ⊎ ((b ≡ 60) ⊎ ((b ≡ 62) ⊎ (b ≡ 34))) → (get_or (escape b ++ more) 0 0 == 60) ≡ false
    reserved (inl e) = subst (λ (n : ℕ). (get_or (escape n ++ more) 0 0 == 60) ≡ false) (sym e) refl
    reserved (inr (inl e)) = subst (λ (n : ℕ). (get_or (escape n ++ more) 0 0 == 60) ≡ false) (sym e) refl
    reserved (inr (inr (inl e))) = subst (λ (n : ℕ). (get_or (escape n ++ more) 0 0 == 60) ≡ false) (sym e) refl
    reserved (inr (inr (inr e))) = subst (λ (n : ℕ). (get_or (escape n ++ more) 0 0 == 60) ≡ false) (sym e) refl

sort_is : (s : Piece) (more : List ℕ) → sort_at (piece_bytes s ++ more) ≡ sort_of s
sort_is (start_piece (div Block)) more = refl
sort_is (start_piece (div LeftMargin)) more = refl
sort_is (start_piece (div RightInline)) more = refl
sort_is (start_piece (div Indent)) more = refl
sort_is (start_piece (span f)) more = refl
sort_is (start_piece (anchor url)) more = refl
sort_is (end_piece element.Div) more = refl
sort_is (end_piece element.Span) more = refl
sort_is (end_piece element.Anchor) more = refl
sort_is (byte_piece b) more = rw (escape_begins b more) refl

one_sort : (s t : Piece) (x y : List ℕ) → piece_bytes s ++ x ≡ piece_bytes t ++ y → sort_of s ≡ sort_of t
one_sort s t x y h = sym (sort_is s x) ∙ ap sort_at h ∙ sort_is t y

-- pieces that mean the same: two formattings may have the same bytes
abbrev pub Same : Piece → Piece → Type 0
Same s t = ((w : List Element) → within_after w s ≡ within_after w t) × (piece_text s ≡ piece_text t)

pub some_same : {A : Type 0} (x y : A) → Some x ≡ Some y → x ≡ y
some_same {A} x y h = ap (λ (o : Option A). unwrap_or o x) h

anchors_tell : (u v x y : List ℕ) → anchor_bytes u ++ x ≡ anchor_bytes v ++ y → x ≡ y
unfolding reference_at
anchors_tell u v x y h =
    let front = codes "<a href=\"" in
    let close = codes "\">" in
    let inside = some_same (escape_all u ++ (close ++ x)) (escape_all v ++ (close ++ y)) (sym (without-append front (escape_all u ++ (close ++ x))) ∙ ap (without front) (sym (anchor-split u x) ∙ h ∙ anchor-split v y) ∙ without-append front (escape_all v ++ (close ++ y))) in
    let t = texts_tell u v (close ++ x) (close ++ y) refl refl inside in
    some_same x y (sym (without-append close x) ∙ ap (without close) t.1 ∙ without-append close y)

pub piece_tells : (s t : Piece) (x y : List ℕ) → piece_bytes s ++ x ≡ piece_bytes t ++ y → Same s t × (x ≡ y)
piece_tells (start_piece (div d)) (start_piece (div e)) x y h = ((λ w. refl, refl), some_same x y (sym (div_at-start d x) ∙ ap div_at h ∙ div_at-start e y))
piece_tells (start_piece (div d)) t x y h = absurd (omega (arith, one_sort (start_piece (div d)) t x y h))
piece_tells (start_piece (span f)) (start_piece (span g)) x y h = ((λ w. refl, refl), some_same x y (sym (span_at-start f x) ∙ ap span_at h ∙ span_at-start g y))
piece_tells (start_piece (span f)) t x y h = absurd (omega (arith, one_sort (start_piece (span f)) t x y h))
piece_tells (start_piece (anchor u)) (start_piece (anchor v)) x y h = ((λ w. refl, refl), anchors_tell u v x y h)
piece_tells (start_piece (anchor u)) t x y h = absurd (omega (arith, one_sort (start_piece (anchor u)) t x y h))
piece_tells (end_piece d) (end_piece e) x y h =
    let p = same_pair d e x y (sym (read_end_tag-bytes d x) ∙ ap read_end_tag h ∙ read_end_tag-bytes e y) in
    ((λ w. ap (λ (k : Element). within_after w (end_piece k)) p.0, refl), p.1)
piece_tells (end_piece d) (start_piece (div e)) x y h = absurd (omega (arith, one_sort (end_piece d) (start_piece (div e)) x y h))
piece_tells (end_piece d) (start_piece (span f)) x y h = absurd (omega (arith, one_sort (end_piece d) (start_piece (span f)) x y h))
piece_tells (end_piece d) (start_piece (anchor u)) x y h = absurd (omega (arith, one_sort (end_piece d) (start_piece (anchor u)) x y h))
piece_tells (end_piece d) (byte_piece b) x y h = absurd (omega (arith, one_sort (end_piece d) (byte_piece b) x y h))
piece_tells (byte_piece b) (byte_piece c) x y h =
    let p = same_pair b c x y (sym (byte_at-escape b x) ∙ ap byte_at h ∙ byte_at-escape c y) in
    ((λ w. refl, λ i. p.0 i ∷ []), p.1)
piece_tells (byte_piece b) (start_piece (div e)) x y h = absurd (omega (arith, one_sort (byte_piece b) (start_piece (div e)) x y h))
piece_tells (byte_piece b) (start_piece (span f)) x y h = absurd (omega (arith, one_sort (byte_piece b) (start_piece (span f)) x y h))
piece_tells (byte_piece b) (start_piece (anchor u)) x y h = absurd (omega (arith, one_sort (byte_piece b) (start_piece (anchor u)) x y h))
piece_tells (byte_piece b) (end_piece d) x y h = absurd (omega (arith, one_sort (byte_piece b) (end_piece d) x y h))

pub piece_long : (s : Piece) → 0 < length (piece_bytes s)
piece_long (start_piece (div Block)) = lit< tt
piece_long (start_piece (div LeftMargin)) = lit< tt
piece_long (start_piece (div RightInline)) = lit< tt
piece_long (start_piece (div Indent)) = lit< tt
piece_long (start_piece (span f)) = omega arith
piece_long (start_piece (anchor url)) = omega arith
piece_long (end_piece element.Div) = lit< tt
piece_long (end_piece element.Span) = lit< tt
piece_long (end_piece element.Anchor) = lit< tt
piece_long (byte_piece b) = escape_long b

pub nothing_begins : (s : Piece) (more : List ℕ) → [] ≡ piece_bytes s ++ more → ⊥
nothing_begins s more h = omega (arith, piece_long s, ap length h, length-append (piece_bytes s) more)

and_then_same : (ts ss back : List Piece) → ((m : List Element) → within_after_all m ts ≡ option_and_then (λ n. within_after_all n back) (within_after_all m ss)) → (o : Option (List Element)) → option_and_then (λ m. within_after_all m ts) o ≡ option_and_then (λ n. within_after_all n back) (option_and_then (λ m. within_after_all m ss) o)
and_then_same ts ss back h None = refl
and_then_same ts ss back h (Some m) = h m

-- the second list means the same as the first and further pieces
pub record Follow (ss ts : List Piece) (x : List ℕ) : Type 0 where
  pub back : List Piece
  pub bytes : x ≡ pieces_bytes back
  pub around : (w : List Element) → within_after_all w ts ≡ option_and_then (λ m. within_after_all m back) (within_after_all w ss)
  pub texts : pieces_text ts ≡ pieces_text ss ++ pieces_text back

pub pieces_tell : (ss ts : List Piece) (x : List ℕ) → pieces_bytes ss ++ x ≡ pieces_bytes ts → Follow ss ts x
pieces_tell [] ts x h = record { back = ts; bytes = h; around = λ w. refl; texts = refl }
pieces_tell (s ∷ ss) [] x h = absurd (nothing_begins s (pieces_bytes ss ++ x) (sym h ∙ append_assoc (piece_bytes s) (pieces_bytes ss) x))
pieces_tell (s ∷ ss) (t ∷ ts) x h =
    let p = piece_tells s t (pieces_bytes ss ++ x) (pieces_bytes ts) (sym (append_assoc (piece_bytes s) (pieces_bytes ss) x) ∙ h) in
    let rest = pieces_tell ss ts x p.1 in
    record {
      back = rest.back;
      bytes = rest.bytes;
      around = λ w. ap (option_and_then (λ m. within_after_all m ts)) (sym (p.0.0 w)) ∙ and_then_same ts ss rest.back rest.around (within_after w s);
      texts = (λ i. sym p.0.1 i ++ rest.texts i) ∙ sym (append_assoc (piece_text s) (pieces_text ss) (pieces_text rest.back));
    }

-- ---- the results of the code

pub no_piece : (html : List ℕ) → byte_at html ≡ None → BeginsNoStart html → None ≡ read_end_tag html → BeginsNoPiece html
no_piece html h k m (start_piece tag) more e = k tag more e
no_piece html h k m (end_piece d) more e = absurd (cc (m ∙ ap read_end_tag e ∙ read_end_tag-bytes d more))
no_piece html h k m (byte_piece b) more e = absurd (cc (sym h ∙ ap byte_at e ∙ byte_at-escape b more))
