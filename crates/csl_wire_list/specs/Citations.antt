-- Which citations JSON objects are read as (CSL 1.0.2, Citation).
use Rattle.std.specs.Prelude.{◌≡◌, ℕ, List, [], Some, map, option_map, unwrap_or, codes}
use Rattle.std.specs.List.{AllZip}
use Rattle.serde_json.specs.Data.{Data}
use Rattle.csl_entry.specs.Numbers.{note_number}
use Rattle.csl_list.specs.declared.request.CitationRequest.{CitationRequest}
use Rattle.csl_wire.specs.Reading.{read_list, read_member, read_number}
use Rattle.csl_wire_list.specs.Items.{name_in, IsItem}

-- the names that the cites of a citation give
abbrev pub names_in : Data → List (List ℕ)
names_in d = map name_in (unwrap_or (read_list (codes "items") d) [])

pub record IsCitation (names : List (List ℕ)) (d : Data) (request : CitationRequest) : Type 0 where
  pub values : List Data
  pub are : read_list (codes "items") d ≡ Some values
  pub items_ : AllZip (IsItem names) values request.items.items
  pub note : read_member read_number (codes "note-number") d ≡ Some (option_map note_number request.note_number)
