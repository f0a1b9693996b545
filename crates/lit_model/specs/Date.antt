-- A date has a year, may have a month, a day and a season, and may be approximate. Year 0 is the
-- year before year 1. Months and days count from 0: month 0 is January, month 11 is December, and
-- day 0 is the first day.
-- A month and a day are in range (`AreInRange`) if the month is absent or at most 11, and the day is
-- absent or at most 30. The length of the month does not count.
use Rattle.std.specs.Prelude.{ℕ, ℤ, ◌≤◌, Bool, false, Option, None, IfSome}
use Rattle.lit_model.specs.declared.date.Date.{Date}
use Rattle.csl_common.specs.declared.season.Season.{Season}

-- a month of a year and a day of the longest months, if they are given
abbrev pub AreInRange : Option ℕ → Option ℕ → Type 0
AreInRange month day = IfSome month (λ m. m ≤ 11) × IfSome day (λ d. d ≤ 30)

-- the parts of a date
pub record DateView : Type 0 where
  pub year : ℤ
  pub month : Option ℕ
  pub day : Option ℕ
  pub season : Option Season
  pub approximate : Bool

abbrev pub date_view : Date → DateView
date_view d = record { year = d.year; month = d.month; day = d.day; season = d.season; approximate = d.approximate }

-- a date with only a year
abbrev pub year_alone : ℤ → DateView
year_alone year = record { year = year; month = None; day = None; season = None; approximate = false }
