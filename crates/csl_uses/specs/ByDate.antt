-- The layout of a sort key by the date of issue alone, as `<key variable="issued"/>` (CSL 1.0.2,
-- Sorting): one date of that variable, which sets nothing else. By a variable its key has the year,
-- the month and the day, though no part is listed.
use Rattle.std.specs.Prelude.{[], Some, None}
use Rattle.csl.specs.Style.Constructors.{no_dressing}
use Rattle.csl.specs.Style.Node.{DateNode}
use Rattle.csl.specs.Style.declared.taxonomy.DateVariable.TheVariants.{Issued}

abbrev pub issue : DateNode
issue = record {
  variable = Some Issued;
  form = None;
  parts = None;
  date_part = [];
  delimiter = None;
  dressing = no_dressing;
}
