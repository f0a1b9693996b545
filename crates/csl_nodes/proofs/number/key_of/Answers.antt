use Rattle.std.proofs.Common.{string_bytes, rules}
use Rattle.std.proofs.lemmas.Fmt.{contents_after_writes}
use Rattle.csl_nodes.proofs.number.key_of.Goals as goal

pub returns-in-Ok : goal.returns-in-Ok
returns-in-Ok c =
    let written = contents_after_writes _ string_bytes (λ w bs v h. h) _ _ _ c.in-Ok.ensures in
    search (rules, written)
