use Rattle.std.proofs.Common.{◌≡◌, subst, rules, string_bytes}
use Rattle.std.specs.Prelude.{IfOk, encode_utf8_all}
use borrow.Author.Tests.{tests}
use Rattle.std.proofs.lemmas.Iterator.{YieldsList-from_chars}
use Rattle.std.proofs.lemmas.Iterator.Adapters.{fact_from_collect}
use Rattle.std.proofs.lemmas.Iterator.Consumers.{YieldsList-from_filter}
use Rattle.unicode.specs.Binary.{is_alphabetic}
use Rattle.csl_entry.specs.CitationLabel.{alphabetic_part}
use Rattle.csl_entry.proofs.label.citation_label.alphabetic_part.Goals as goal

pub returns : goal.returns
returns c =
    let made = fact_from_collect (λ xs s. string_bytes s ≡ encode_utf8_all xs) c.collect.result c.collect.ensures.ran (YieldsList-from_filter _ is_alphabetic (YieldsList-from_chars _ c.utf8.key cc) c.filter.ensures.closure (λ x b q k. search (rules, tests))) in
    subst (λ r. IfOk r (λ s. string_bytes s ≡ alphabetic_part c.args.key.now)) c.in_ok-letters.was made
