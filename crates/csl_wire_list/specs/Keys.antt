-- Which keys JSON objects are read as (CSL 1.0.2, Sorting): one of `variable` and `macro`, and a
-- direction, upwards if it is absent.
use Rattle.std.specs.Prelude.{◌≡◌, List, Bool, false, Option, Some, None, map, option_map, unwrap_or, codes, string_bytes}
use Rattle.std.specs.List.{AllZip}
use Rattle.serde_json.specs.Data.{Data}
use Rattle.serde_json.specs.Find.{as_str}
use Rattle.csl_wire.specs.Leaves.{IsNamed}
use Rattle.csl_wire.specs.Named.{variable_has}
use Rattle.csl_wire.specs.Reading.{lent, pair_by, member, read_choice, read_list, read_member, read_one}
use Rattle.csl_list.specs.declared.options.KeySource.{KeySource}
use Rattle.csl_list.specs.declared.options.KeySource.TheVariants as sources
use Rattle.csl_list.specs.declared.options.SortKey.{SortKey}
use Rattle.csl_wire_list.specs.declared.choices.TheConstants as tables

abbrev pub IsSource : Data → KeySource → Type 0
IsSource d (sources.Macro name) = (read_one as_str (codes "macro") d ≡ Some (string_bytes name)) × (member (codes "variable") d ≡ None)
IsSource d (sources.Variable variable) = IsNamed variable_has (codes "variable") d variable × (member (codes "macro") d ≡ None)

-- whether a key sorts downwards
abbrev pub read_direction : Data → Option Bool
read_direction d = option_map (λ o. unwrap_or o false) (read_member (read_choice (map (pair_by lent) tables.DIRECTIONS)) (codes "sort") d)

pub record IsKey (d : Data) (key : SortKey) : Type 0 where
  pub source_ : IsSource d key.source
  pub direction_ : read_direction d ≡ Some key.is_descending

-- the keys of `sort`, none if it is absent
pub record AreKeys (d : Data) (keys : List SortKey) : Type 0 where
  pub items : List Data
  pub are : read_list (codes "sort") d ≡ Some items
  pub keys_ : AllZip IsKey items keys
