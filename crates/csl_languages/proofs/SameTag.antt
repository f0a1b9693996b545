-- Two texts of one length are the same tag if they are so byte by byte.
use Rattle.std.proofs.Common.{◌≡◌, ℕ, List, [], ◌∷◌, length, Bool, nat_eq, ◌&&◌, refl, ap, arith}
use Rattle.std.specs.Prelude.{zip}
use Rattle.std.specs.List.{list_all}
use Rattle.std.specs.Str.{bytes_eq}
use Rattle.csl_languages.specs.Tag.{folded_byte, folded}

abbrev pub same_byte : ℕ × ℕ → Bool
same_byte p = nat_eq (folded_byte p.0) (folded_byte p.1)

pub same_by_bytes : (a b : List ℕ) → length a ≡ length b → list_all same_byte (zip a b) ≡ bytes_eq (folded a) (folded b)
same_by_bytes [] [] e = refl
same_by_bytes [] (y ∷ b) e = absurd (omega arith)
same_by_bytes (x ∷ a) [] e = absurd (omega arith)
same_by_bytes (x ∷ a) (y ∷ b) e = ap (λ (r : Bool). nat_eq (folded_byte x) (folded_byte y) && r) (same_by_bytes a b (omega arith))
