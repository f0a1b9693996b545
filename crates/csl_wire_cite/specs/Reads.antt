-- What is read of lists and of integers: `Some` is what is read, `None` a refusal.
use Rattle.std.specs.Prelude.{ℤ, List, [], ◌∷◌, Option, Some, None, option_and_then, option_map}
use Rattle.serde_json.specs.Data.{Data}
use Rattle.serde_json.specs.Find.{as_i64, as_number}
use Rattle.csl_wire.specs.Reading.{read_items}

-- each item read
abbrev pub read_each : {T : Type 0} → (Data → Option T) → List Data → Option (List T)
read_each read [] = Some []
read_each read (d ∷ ds) = option_and_then (λ t. option_map (λ ts. t ∷ ts) (read_each read ds)) (read d)

-- a list, each of its items read
abbrev pub read_list_of : {T : Type 0} → (Data → Option T) → Data → Option (List T)
read_list_of read d = option_and_then (read_each read) (read_items d)

abbrev pub read_integer : Data → Option ℤ
read_integer d = option_and_then as_i64 (as_number d)
