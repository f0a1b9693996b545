-- The book of the examples, with its title, authors, date and publisher.
use Rattle.std.specs.Prelude.{◌≡◌, pos, [], ◌∷◌, Some, None, false, map, option_map, codes}
use Rattle.csl.specs.Literature.declared.entry.Entry.{Entry, out-Entry}
use Rattle.csl.specs.Literature.Date.{DateView, date_view}
use Rattle.csl.specs.Literature.Person.{person_view, person_of}
use Rattle.csl.specs.Literature.Source.{press_of}
use Rattle.csl.specs.Literature.Text.{format_string_view, plain_forms}

abbrev pub february_1978 : DateView
february_1978 = record { year = pos 1978; month = Some 1; day = None; season = None; approximate = false }

pub record IsTheCBook (book : Entry) : Type 0 where
  pub title_is : option_map format_string_view (out-Entry book).title ≡ Some (plain_forms (codes "The C Programming Language"))
  pub authors_are : option_map (λ v. map person_view v.items) (out-Entry book).authors ≡ Some (person_of (codes "Kernighan") (codes "Brian W.") ∷ person_of (codes "Ritchie") (codes "Dennis M.") ∷ [])
  pub date_is : option_map date_view (out-Entry book).date ≡ Some february_1978
  pub publisher_is : option_map press_of (out-Entry book).publisher ≡ Some (record { name = Some (plain_forms (codes "Prentice Hall")); location = None })
