use Rattle.std.proofs.Common.{rules, ◌≡◌, ◌<◌, length, map, take, ap, sym, ◌∙◌, arith}
use Rattle.std.specs.Char.{to_ascii_lowercase}
use Rattle.std.proofs.lemmas.List.{length-map, length-take}
use Rattle.std.proofs.lemmas.Str.Ascii.{trim_ascii_start_is}
use Rattle.lit_model.specs.WebAddress.{trimmed}
use Rattle.lit_model.proofs.web_address.begins_with.Goals as goal

pub returns-in-Some : goal.returns-in-Some
returns-in-Some c =
    let text = c.args.text.now in
    let start = c.args.start.now in
    let test = c.eq_ignore_ascii_case.ensures.test in
    let rest : c.as_bytes-text.result.now ≡ trimmed text = c.as_bytes-text.ensures.value ∙ trim_ascii_start_is text c.trim_ascii_start.result.now c.trim_ascii_start.ensures.value in
    let begin = ap (map to_ascii_lowercase) (c.in-Some.ensures.cases.1 ∙ ap (take (length start)) rest) in
    let wanted = ap (map to_ascii_lowercase) c.as_bytes.ensures.value in
    (λ same. sym begin ∙ test.0 same ∙ wanted, λ begins. test.1 (begin ∙ begins ∙ sym wanted))

pub returns-in-None : goal.returns-in-None
returns-in-None c =
    let text = c.args.text.now in
    let start = c.args.start.now in
    let rest : c.as_bytes-text.result.now ≡ trimmed text = c.as_bytes-text.ensures.value ∙ trim_ascii_start_is text c.trim_ascii_start.result.now c.trim_ascii_start.ensures.value in
    let short : length (trimmed text) < length start = rw rest at c.in-None.ensures.cases in
    let begin = take (length start) (trimmed text) in
    (λ no. search rules, λ begins. absurd (omega (arith, ap length begins, length-map begin to_ascii_lowercase, length-map start to_ascii_lowercase, length-take (length start) (trimmed text))))
