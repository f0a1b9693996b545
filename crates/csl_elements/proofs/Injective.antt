-- `Some` takes no two values to one.
use Rattle.std.proofs.Common.{◌≡◌}
use Rattle.std.specs.Prelude.{Some}

pub some_injective : {A : Type 0} (x y : A) → Some x ≡ Some y → x ≡ y
some_injective x y e = cc
