-- Two lists of pieces, one after the other.
use Rattle.std.proofs.Common.{◌≡◌, List, [], ◌∷◌, ◌++◌, refl}
use Rattle.csl_tree.specs.Tokens.{Token}
use Rattle.csl_context.specs.State.{Inherited}
use Rattle.csl_names.specs.Piece.{Piece, append_piece, append_pieces}

pub written_append : (inh : Inherited) (ps qs : List Piece) (ts : List Token)
    → append_pieces inh (ps ++ qs) ts ≡ append_pieces inh qs (append_pieces inh ps ts)
written_append inh [] qs ts = refl
written_append inh (p ∷ ps) qs ts = written_append inh ps qs (append_piece inh ts p)
