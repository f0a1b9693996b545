-- Which persons JSON objects are read as (CSL 1.0.2, Name Variables): each part of the name from the
-- member of its name. The given name may have no other.
use Rattle.std.specs.Prelude.{ℕ, List, Option, None, option_map, option_and_then, codes}
use Rattle.serde_json.specs.Data.{Data}
use Rattle.serde_json.specs.Find.{as_str}
use Rattle.lit_model.specs.Person.{PersonView}
use Rattle.csl_wire.specs.Reading.{read_flag, read_member, read_one}
use Rattle.csl_wire_cite.specs.Reads.{read_list_of}

abbrev pub read_person : Data → Option PersonView
read_person d =
    option_and_then (λ comma. option_and_then (λ family. option_and_then (λ given.
    option_and_then (λ prefix. option_map (λ suffix. record {
      name = family;
      given_name = given;
      prefix = prefix;
      suffix = suffix;
      alias = None;
      comma_suffix = comma;
    })
    (read_member as_str (codes "suffix") d)) (read_member as_str (codes "prefix") d))
    (read_member as_str (codes "given") d)) (read_one as_str (codes "family") d))
    (read_flag (codes "comma-suffix") d)

abbrev pub read_persons : Data → Option (List PersonView)
read_persons = read_list_of read_person
