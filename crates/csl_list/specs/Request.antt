-- A cite of the whole work, as the style has it.
use Rattle.std.specs.Prelude.{ℕ, false, None}
use Rattle.csl_list.specs.declared.request.CitationItem.{CitationItem}

abbrev pub item_of : ℕ → CitationItem
item_of index = record {
  work = index;
  locator = None;
  purpose = None;
  hidden = false;
  prefix = None;
  suffix = None;
}
