-- What is read of JSON values (docs/WIRE.md): `Some` is what is read, `None` a refusal.
-- - A member that is not there, or that is `null`, is read as nothing (`read_member`). Any other
--   has to be read.
-- - A choice is the value of the first pair that its word names (`read_choice`).
-- - A number is a whole one from 0 to 4294967295.
-- - A list is read if each of its items is (`all_some`).
use Rattle.std.specs.Prelude.{ℕ, ◌^◌, nat_lt, List, [], ◌∷◌, Bool, false, unwrap_or, Option, Some, None, is_some, option_map, option_and_then, cond, bytes_eq}
use Rattle.std.specs.Borrow.{Bor}
use Rattle.serde_json.specs.Data.{Data, Items, no_items, item}
use Rattle.serde_json.specs.Find.{get, as_null, as_str, as_bool, as_number, as_u64, as_array}

-- a text that a constant refers to
abbrev pub Lent : Type 0
Lent = record { now : List ℕ }

abbrev pub lent : Lent → List ℕ
lent t = t.now

abbrev pub borrowed : Bor (List ℕ) → List ℕ
borrowed t = t.now

abbrev pub pair_by : {S T : Type 0} → (S → List ℕ) → S × T → List ℕ × T
pair_by text p = (text p.0, p.1)

-- the value of the first pair with this name
abbrev pub value_named : {T : Type 0} → List (List ℕ × T) → List ℕ → Option T
value_named [] word = None
value_named (p ∷ ps) word = cond (bytes_eq p.0 word) (Some p.1) (value_named ps word)

abbrev pub read_choice : {T : Type 0} → List (List ℕ × T) → Data → Option T
read_choice names d = option_and_then (value_named names) (as_str d)

abbrev pub number_in_range : ℕ → Option ℕ
number_in_range n = cond (nat_lt n (2 ^ 32)) (Some n) None

abbrev pub read_number : Data → Option ℕ
read_number d = option_and_then number_in_range (option_and_then as_u64 (as_number d))

-- `null` is no member
abbrev pub unless_null : Option Data → Option Data
unless_null None = None
unless_null (Some d) = cond (is_some (as_null d)) None (Some d)

abbrev pub member : List ℕ → Data → Option Data
member name d = unless_null (get name d)

abbrev pub read_if : {T : Type 0} → (Data → Option T) → Option Data → Option (Option T)
read_if read None = Some None
read_if read (Some d) = option_map Some (read d)

abbrev pub read_member : {T : Type 0} → (Data → Option T) → List ℕ → Data → Option (Option T)
read_member read name d = read_if read (member name d)

-- a member that has to be there
abbrev pub read_one : {T : Type 0} → (Data → Option T) → List ℕ → Data → Option T
read_one read name d = option_and_then read (member name d)

-- a boolean that is false if it is not there
abbrev pub read_flag : List ℕ → Data → Option Bool
read_flag name d = option_map (λ o. unwrap_or o false) (read_member as_bool name d)

abbrev pub list_of : Items → List Data
list_of no_items = []
list_of (item d ds) = d ∷ list_of ds

abbrev pub read_items : Data → Option (List Data)
read_items d = option_map list_of (as_array d)

abbrev items_or_none : Option Data → Option (List Data)
items_or_none None = Some []
items_or_none (Some d) = read_items d

-- the items of a member that is a list; none if there is no such member
abbrev pub read_list : List ℕ → Data → Option (List Data)
read_list name d = items_or_none (member name d)
