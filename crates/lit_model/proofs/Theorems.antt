-- The laws of numbers and pages as texts, proved for every input.
use Rattle.std.proofs.Common.{chars}
use Rattle.lit_model.specs.Laws.{NumbersAreReadAsSpelled, NumbersAreUnique, SpelledNumbersAreWritable, WrittenNumbersReadBack, PagesAreReadAsSpelled, PagesAreUnique, SpelledPagesAreWritable, WrittenPagesReadBack}
use Rattle.lit_model.specs.NumericWrite.{numeric_text}
use Rattle.lit_model.specs.PageWrite.{pages_text}
use Rattle.lit_model.proofs.Complete.{numeric_complete}
use Rattle.lit_model.proofs.PageComplete.{pages_complete}
use Rattle.lit_model.proofs.PageRoundTrip.{pages_spelled, pages_writable}
use Rattle.lit_model.proofs.PageSound.{pages_sound}
use Rattle.lit_model.proofs.PagesParsed as pages
use Rattle.lit_model.proofs.Parsed as numbers
use Rattle.lit_model.proofs.RoundTrip.{numeric_spelled}
use Rattle.lit_model.proofs.Writable.{numeric_writable}

pub numbers_are_read_as_spelled : NumbersAreReadAsSpelled
numbers_are_read_as_spelled cs v = numbers.grammar cs v

pub numbers_are_unique : NumbersAreUnique
numbers_are_unique cs v w s t = numbers.unique cs v w s t

pub spelled_numbers_are_writable : SpelledNumbersAreWritable
spelled_numbers_are_writable cs v is_scalar s = numeric_writable v cs is_scalar s

pub written_numbers_read_back : WrittenNumbersReadBack
written_numbers_read_back v w = numeric_complete v (chars (numeric_text v)) (numeric_spelled v w)

pub pages_are_read_as_spelled : PagesAreReadAsSpelled
pages_are_read_as_spelled cs v = (pages_sound cs v, pages_complete v cs)

pub pages_are_unique : PagesAreUnique
pages_are_unique cs v w s t = pages.unique cs v w s t

pub spelled_pages_are_writable : SpelledPagesAreWritable
spelled_pages_are_writable cs v is_scalar s = pages_writable v cs is_scalar s

pub written_pages_read_back : WrittenPagesReadBack
written_pages_read_back v w = pages_complete v (chars (pages_text v)) (pages_spelled v w)
