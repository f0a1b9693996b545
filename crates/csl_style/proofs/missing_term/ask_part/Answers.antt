use Rattle.csl_style.proofs.missing_term.ask_part.Goals as goal

pub returns-in-Month : goal.returns-in-Month
returns-in-Month c = rw c.in-Month.is (rw (c.season.ensures, c.season-in-Month.ensures, c.season-in-Month-2.ensures, c.season-in-Month-3.ensures) at c.ask_all.ensures)
