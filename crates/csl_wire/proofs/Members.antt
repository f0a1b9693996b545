-- Members that were read.
use Rattle.std.proofs.Common.{◌≡◌, refl, ℕ, List, Option, Some, None, option_map, option_and_then}
use Rattle.serde_json.specs.Data.{Data}
use Rattle.csl_wire.specs.Reading.{member, read_if, read_member, read_one}

one_mapped : {T : Type 0} (o : Option T) (v : T) → option_map Some o ≡ Some (Some v) → o ≡ Some v
one_mapped None v e = cc
one_mapped (Some x) v e = cc

none_mapped : {T : Type 0} (o : Option T) (d : Option Data) → option_map Some o ≡ Some None → d ≡ None
none_mapped None d e = cc
none_mapped (Some x) d e = cc

there : {T : Type 0} (read : Data → Option T) (o : Option Data) (v : T) → read_if read o ≡ Some (Some v) → option_and_then read o ≡ Some v
there read None v e = cc
there read (Some d) v e = one_mapped (read d) v e

absent : {T : Type 0} (read : Data → Option T) (o : Option Data) → read_if read o ≡ Some None → o ≡ None
absent read None e = refl
absent read (Some d) e = none_mapped (read d) (Some d) e

-- a member that is there
pub one_read : {T : Type 0} (read : Data → Option T) (name : List ℕ) (d : Data) (v : T) → read_member read name d ≡ Some (Some v) → read_one read name d ≡ Some v
one_read read name d v e = there read (member name d) v e

-- a member that is absent
pub none_read : {T : Type 0} (read : Data → Option T) (name : List ℕ) (d : Data) → read_member read name d ≡ Some None → member name d ≡ None
none_read read name d e = absent read (member name d) e

pub ruleset members = (one_read, none_read)
