use Rattle.std.proofs.Common.{◌≡◌, subst, rules, string_bytes}
use Rattle.std.specs.Prelude.{IfOk, encode_utf8_all}
use borrow.Author.Tests.{tests}
use Rattle.std.proofs.lemmas.Iterator.{YieldsList-from_chars, YieldsList-from_map}
use Rattle.std.proofs.lemmas.Iterator.Adapters.{fact_from_collect}
use Rattle.csl_nodes.specs.Pages.{en_dash_of, with_dashes}
use Rattle.csl_nodes.proofs.pages.with_dashes.Goals as goal

pub returns : goal.returns
unfolding with_dashes
returns c =
    let made = fact_from_collect (λ xs s. string_bytes s ≡ encode_utf8_all xs) c.collect.result c.collect.ensures.ran (YieldsList-from_map _ en_dash_of (YieldsList-from_chars _ c.utf8.text cc) c.map.ensures.closure (λ x r q k. search (rules, tests))) in
    subst (λ r. IfOk r (λ s. string_bytes s ≡ with_dashes c.args.text.now)) c.in_ok-dashed.was made
