use Rattle.std.proofs.Common.{◌≡◌, ◌∙◌, true, length, ap}
use Rattle.std.specs.Prelude.{nat_le}
use Rattle.std.specs.Char.{is_ascii_digit}
use Rattle.std.specs.List.{list_all}
use Rattle.std.proofs.lemmas.Bool.{le-leb}
use Rattle.csl_finish.proofs.folding.begins_with_year.Goals as goal

pub returns-in-Some : goal.returns-in-Some
returns-in-Some c =
    let enough : nat_le 9 (length c.args.text.now) ≡ true = le-leb 9 (length c.args.text.now) c.in-Some.ensures.cases.0 in
    rw enough (c.are_digits.ensures ∙ ap (list_all is_ascii_digit) c.in-Some.ensures.cases.1)
