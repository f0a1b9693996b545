-- Which documents JSON objects are read as (CSL 1.0.2, Citation; Bibliography). The works are those
-- that cites name, as they are first named, and then those of `works`, each once.
use Rattle.std.specs.Prelude.{◌≡◌, ℕ, List, [], Some, map, unwrap_or, codes}
use Rattle.std.specs.List.{AllZip, flat_map}
use Rattle.serde_json.specs.Data.{Data}
use Rattle.serde_json.specs.Find.{as_str}
use Rattle.csl_list.specs.declared.request.CitationRequest.{CitationRequest}
use Rattle.csl_wire.specs.Reading.{read_list}
use Rattle.csl_wire_list.specs.Citations.{names_in, IsCitation}
use Rattle.csl_wire_list.specs.Works.{with_names}

abbrev pub word_in : Data → List ℕ
word_in d = unwrap_or (as_str d) []

pub record IsDocument (d : Data) (names : List (List ℕ)) (requests : List CitationRequest) : Type 0 where
  pub cited : List Data
  pub are_cited : read_list (codes "citations") d ≡ Some cited
  pub citations_ : AllZip (IsCitation names) cited requests
  pub listed : List Data
  pub are_listed : read_list (codes "works") d ≡ Some listed
  pub names_ : names ≡ with_names (with_names [] (flat_map names_in cited)) (map word_in listed)
