-- The law of sort keys of dates, over the definitions of `DateKey`, proved for every date.
use Rattle.std.proofs.Common.{arith}
use Rattle.lit_model.specs.Date.{date_view}
use Rattle.lit_model.specs.declared.date.Date.{Date}
use Rattle.csl_nodes.specs.DateKey.{full_key, SortsByTime}
use Rattle.csl_nodes.proofs.KeyOrder.{key_order, in_range}

-- The bytes of two full sort keys compare as the dates do in time, for years in range.
pub full_keys_sort_by_time : (d : Date) → SortsByTime (full_key (date_view d)) d
full_keys_sort_by_time d other h k =
    key_order (date_view d) (date_view other) h k
    (in_range d.month 11 (omega arith) d.month_of_year) (in_range other.month 11 (omega arith) other.month_of_year)
    (in_range d.day 30 (omega arith) d.day_of_month) (in_range other.day 30 (omega arith) other.day_of_month)
