use Rattle.std.proofs.Common.{◌≡◌, subst, rules, string_bytes}
use Rattle.std.specs.Prelude.{IfOk, encode_utf8_all}
use borrow.Author.Tests.{tests}
use Rattle.std.proofs.lemmas.Iterator.{YieldsList-from_chars}
use Rattle.std.proofs.lemmas.Iterator.Adapters.{fact_from_collect}
use Rattle.std.proofs.lemmas.Iterator.Consumers.{YieldsList-from_filter}
use Rattle.csl_context.specs.Texts.{is_no_period, without_periods}
use Rattle.csl_context.proofs.texts.without_periods.Goals as goal

pub returns : goal.returns
unfolding without_periods
returns c =
    let made = fact_from_collect (λ xs s. string_bytes s ≡ encode_utf8_all xs) c.collect.result c.collect.ensures.ran (YieldsList-from_filter _ is_no_period (YieldsList-from_chars _ c.utf8.text cc) c.filter.ensures.closure (λ x b q k. search (rules, tests))) in
    subst (λ r. IfOk r (λ s. string_bytes s ≡ without_periods c.args.text.now)) c.in_ok-kept.was made
