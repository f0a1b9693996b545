use Rattle.std.proofs.Common.{rules, ◌≡◌, ◌∙◌}
use Rattle.std.specs.Prelude.{chars, encode_utf8_all, filter, string_bytes}
use Rattle.std.proofs.lemmas.Iterator.{YieldsList-from_chars, text_from_collect}
use Rattle.std.proofs.lemmas.Iterator.Consumers.{YieldsList-from_filter}
use borrow.Author.Tests.{tests}
use Rattle.csl_finish.specs.CaseMarks.{is_no_mark}
use Rattle.csl_finish.proofs.WithoutMarks.{no_marks_left, without_is}
use Rattle.csl_finish.proofs.case_marks.without_case_marks.Goals as goal

pub returns-clause-value : goal.returns-clause-value
returns-clause-value c =
    let all = text_from_collect c.collect.result c.collect.ensures.ran (YieldsList-from_filter _ is_no_mark (YieldsList-from_chars c.args.text.now c.utf8.text cc) c.filter.ensures.closure (λ x r q k. search (rules, tests))) in
    let e : string_bytes c.in_ok-plain.plain ≡ encode_utf8_all (filter is_no_mark (chars c.args.text.now)) = rw c.in_ok-plain.was at all in
    e ∙ without_is c.args.text.now c.utf8.text

pub returns-clause-unmarked : goal.returns-clause-unmarked
returns-clause-unmarked c =
    let all = text_from_collect c.collect.result c.collect.ensures.ran (YieldsList-from_filter _ is_no_mark (YieldsList-from_chars c.args.text.now c.utf8.text cc) c.filter.ensures.closure (λ x r q k. search (rules, tests))) in
    let e : string_bytes c.in_ok-plain.plain ≡ encode_utf8_all (filter is_no_mark (chars c.args.text.now)) = rw c.in_ok-plain.was at all in
    no_marks_left c.in_ok-plain.plain (chars c.args.text.now) e
