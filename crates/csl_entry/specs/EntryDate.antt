-- The answers of the built-in entry to date variables (CSL 1.0.2, Appendix IV, Date Variables).
-- - Accessed: the visit date of the first address along the work and its parents.
-- - Issued: the first date along the work and its parents.
-- - Event date, original date: the own date of the event, of the original.
-- - Available date, submitted: none.
use Rattle.std.specs.Prelude.{Option, None, option_map, option_and_then}
use Rattle.csl_elements.specs.declared.taxonomy.DateVariable.{DateVariable}
use Rattle.csl_elements.specs.declared.taxonomy.DateVariable.TheVariants.{Accessed, AvailableDate, EventDate, Issued, OriginalDate, Submitted}
use Rattle.lit_model.specs.declared.date.Date.{Date}
use Rattle.lit_model.specs.declared.entry.Entry.{Entry, out-Entry}
use Rattle.lit_model.specs.Date.{DateView, date_view}
use Rattle.lit_model.specs.Entry.{preorder}
use Rattle.csl_common.specs.Lists.{first_some}
use Rattle.lit_model.specs.Select.{event, original, bound_select}

-- the work's own date
abbrev pub date_in : Entry → Option Date
date_in e = (out-Entry e).date

-- the first date along the work and its parents
abbrev pub issue_date : Entry → Option Date
issue_date e = first_some date_in (preorder e)

-- the visit date of the first address along the work and its parents
abbrev pub visit_date : Entry → Option Date
visit_date e = option_and_then (λ url. url.visit_date) (first_some (λ x. (out-Entry x).url) (preorder e))

abbrev pub date_of : Entry → DateVariable → Option DateView
date_of e Accessed = option_map date_view (visit_date e)
date_of e AvailableDate = None
date_of e EventDate = option_map date_view (option_and_then date_in (bound_select event e))
date_of e Issued = option_map date_view (issue_date e)
date_of e OriginalDate = option_map date_view (option_and_then date_in (bound_select original e))
date_of e Submitted = None
