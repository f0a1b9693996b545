-- Which dates JSON objects are read as (CSL 1.0.2, Date Variables). Months and days count from 1 in
-- JSON, and from 0 in a date. The year before year 1 is 0 in both.
use Rattle.std.specs.Prelude.{◌≡◌, ℤ, suc, List, Option, Some, map, option_map, codes}
use Rattle.serde_json.specs.Data.{Data}
use Rattle.lit_model.specs.Date.{DateView}
use Rattle.csl_wire.specs.Reading.{lent, pair_by, read_choice, read_flag, read_member, read_number, read_one}
use Rattle.csl_wire_cite.specs.Reads.{read_integer}
use Rattle.csl_wire_cite.specs.declared.dates.TheConstants as tables

pub record IsDate (d : Data) (v : DateView) : Type 0 where
  pub year_ : read_one read_integer (codes "year") d ≡ Some v.year
  pub month_ : read_member read_number (codes "month") d ≡ Some (option_map suc v.month)
  pub day_ : read_member read_number (codes "day") d ≡ Some (option_map suc v.day)
  pub season_ : read_member (read_choice (map (pair_by lent) tables.SEASONS)) (codes "season") d ≡ Some v.season
  pub circa : read_flag (codes "circa") d ≡ Some v.approximate
