use Rattle.std.proofs.Common.{rules, tests, ◌≡◌, ◌∙◌, sym, ap, length, not, ◌&&◌, ◌==◌, true}
use Rattle.std.specs.Char.{is_ascii_digit}
use Rattle.std.specs.List.{list_all}
use Rattle.std.proofs.lemmas.Iterator.Adapters.{YieldsList-from_bytes}
use Rattle.std.proofs.lemmas.Iterator.Search.{all_from_yields_List}
use Rattle.csl_nodes.proofs.pages.is_digits.Goals as goal

pub returns-then-not-is_empty-clause-value : goal.returns-then-not-is_empty-clause-value
returns-then-not-is_empty-clause-value c =
    let digits : c.all.result ≡ list_all is_ascii_digit c.args.text.now = all_from_yields_List is_ascii_digit _ _ _ c.all.ensures.ran (YieldsList-from_bytes c.args.text.now c.bytes.ensures.rest) (λ x b q k. search (rules, tests)) in
    let some : not (length c.args.text.now == 0) ≡ true = search rules in
    digits ∙ ap (λ b. b && list_all is_ascii_digit c.args.text.now) (sym some)
