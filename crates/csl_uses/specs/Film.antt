-- The films of the examples: the answers of a film, and the film `Metropolis`.
use Rattle.std.specs.Prelude.{◌≡◌, ℕ, pos, List, [], ◌∷◌, Option, Some, None, Bool, true, false, codes}
use Rattle.csl.specs.Literature.Chunks.{chunks_text}
use Rattle.csl.specs.Literature.Date.{DateView, date_view}
use Rattle.csl.specs.Literature.Person.{PersonView, person_view, person_of}
use Rattle.csl.specs.Literature.Text.{Chunk, chunks, in_one_piece}
use Rattle.csl.specs.Common.declared.form.LongShortForm.TheVariants.{Long}
use Rattle.csl.specs.Style.declared.taxonomy.DateVariable.{DateVariable}
use Rattle.csl.specs.Style.declared.taxonomy.DateVariable.TheVariants.{Issued}
use Rattle.csl.specs.Style.declared.taxonomy.Kind.{Kind}
use Rattle.csl.specs.Style.declared.taxonomy.Kind.TheVariants.{MotionPicture}
use Rattle.csl.specs.Style.declared.taxonomy.NameVariable.{NameVariable}
use Rattle.csl.specs.Style.declared.taxonomy.NameVariable.TheVariants.{Director}
use Rattle.csl.specs.Style.declared.taxonomy.StandardVariable.{StandardVariable}
use Rattle.csl.specs.Style.declared.taxonomy.StandardVariable.TheVariants.{Title}
use Rattle.csl.specs.Entry.Answers.{Answers}
use Rattle.csl_uses.specs.declared.film.Film.{Film}

abbrev pub standard_of : Film → StandardVariable → Option (List Chunk)
standard_of film Title = Some (chunks film.title)
standard_of film _ = None

abbrev pub persons_of : Film → NameVariable → List PersonView
persons_of film Director = person_view film.director ∷ []
persons_of film _ = []

abbrev pub date_of : Film → DateVariable → Option DateView
date_of film Issued = Some (date_view film.shown)
date_of film _ = None

abbrev pub is_film : Kind → Bool
is_film MotionPicture = true
is_film _ = false

abbrev pub answers_of : Film → Answers
answers_of film = record {
  numbers = λ _. None;
  pages = λ _. None;
  standards = λ _ variable. standard_of film variable;
  names = persons_of film;
  dates = date_of film;
  kinds = is_film;
}

-- the title among the answers of an entry of any type
abbrev pub title_among : Option (List Chunk) → List ℕ
title_among (Some title) = chunks_text title
title_among None = []

abbrev pub title_of : Answers → List ℕ
title_of answers = title_among (answers.standards Long Title)

abbrev pub january_10_1927 : DateView
january_10_1927 = record { year = pos 1927; month = Some 0; day = Some 9; season = None; approximate = false }

pub record IsMetropolis (film : Film) : Type 0 where
  pub title_is : chunks film.title ≡ in_one_piece (codes "Metropolis")
  pub director_is : person_view film.director ≡ person_of (codes "Lang") (codes "Fritz")
  pub date_is : date_view film.shown ≡ january_10_1927
