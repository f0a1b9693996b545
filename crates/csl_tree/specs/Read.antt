-- Reading HTML, piece by piece: the text so far, and the *open* elements, which have not ended. An
-- end tag names a `div`, a `span` or an anchor, and has to end the innermost open element.
use Rattle.std.specs.Prelude.{◌≡◌, ℕ, ◌==◌, List, [], ◌∷◌, ◌++◌, Option, Some, None, option_and_then, if◌then◌else◌}
use Rattle.std.specs.List.{flat_map}
use Rattle.csl_tree.specs.declared.marks.Element.{Element}
use Rattle.csl_tree.specs.declared.marks.Element.TheVariants.{Div, Span, Anchor}
use Rattle.csl_tree.specs.declared.marks.Mark.{Mark}
use Rattle.csl_tree.specs.declared.marks.Mark.TheVariants as marks
use Rattle.csl_tree.specs.Marks.{Piece, start_piece, end_piece, byte_piece, piece_bytes, element_of}

abbrev pub pieces_bytes : List Piece → List ℕ
pieces_bytes ps = flat_map piece_bytes ps

abbrev pub piece_text : Piece → List ℕ
piece_text (start_piece tag) = []
piece_text (end_piece e) = []
piece_text (byte_piece b) = b ∷ []

abbrev pub pieces_text : List Piece → List ℕ
pieces_text ps = flat_map piece_text ps

abbrev pub element_place : Element → ℕ
element_place Div = 0
element_place Span = 1
element_place Anchor = 2

-- the open elements after an end tag, innermost first; `None` if it does not end the innermost one
abbrev pub within_after_end : List Element → Element → Option (List Element)
within_after_end [] e = None
within_after_end (innermost ∷ within) e = if element_place innermost == element_place e then Some within else None

-- the open elements after a piece
abbrev pub within_after : List Element → Piece → Option (List Element)
within_after within (start_piece tag) = Some (element_of tag ∷ within)
within_after within (end_piece e) = within_after_end within e
within_after within (byte_piece b) = Some within

-- the open elements after several pieces
abbrev pub within_after_all : List Element → List Piece → Option (List Element)
within_after_all within [] = Some within
within_after_all within (p ∷ ps) = option_and_then (λ more. within_after_all more ps) (within_after within p)

-- the open elements after a mark
abbrev pub within_after_mark : List Element → Mark → Option (List Element)
within_after_mark within (marks.Text text) = Some within
within_after_mark within (marks.Start e) = Some (e ∷ within)
within_after_mark within (marks.End e) = within_after_end within e

abbrev pub mark_text : Mark → List ℕ
mark_text (marks.Text text) = text.now
mark_text (marks.Start e) = []
mark_text (marks.End e) = []

-- the pieces before `rest` have the text `leaves`, and the elements `within` are open after them
pub record IsReadTo (html rest : List ℕ) (within : List Element) (leaves : List ℕ) : Type 0 where
  pub pieces : List Piece
  pub bytes : html ≡ pieces_bytes pieces ++ rest
  pub around : within_after_all [] pieces ≡ Some within
  pub texts : leaves ≡ pieces_text pieces

abbrev pub HasEnded : List ℕ → List Element → Type 0
HasEnded rest within = (rest ≡ []) × (within ≡ [])
