use Rattle.std.proofs.Common.{◌≡◌, ◌++◌, string_bytes, ◌∙◌}
use Rattle.std.proofs.lemmas.Fmt.{contents_after_writes}
use Rattle.lit_model.specs.Person.{person_view}
use Rattle.csl_names.proofs.GivenNames.{letters_given}
use Rattle.csl_names.proofs.given.lettered_name.Goals as goal

pub returns-in-Ok : goal.returns-in-Ok
returns-in-Ok c =
    (rw c.new-short.ensures.bytes
    at (contents_after_writes (λ s bs t. string_bytes t ≡ string_bytes s ++ bs) string_bytes (λ w bs v h. h) _ _ _ c.in-Ok.ensures))
    ∙ letters_given c.args.text.now (person_view c.args.person.now).given_name
