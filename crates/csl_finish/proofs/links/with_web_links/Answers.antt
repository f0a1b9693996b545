use Rattle.std.proofs.Common.{rules}
use Rattle.std.specs.Bool.{⊤}
use Rattle.csl_finish.proofs.Addresses.{All-from_calls}
use Rattle.lit_model.specs.WebAddress.{IsWebAddress}
use Rattle.csl_finish.proofs.links.with_web_links.Goals as goal

pub returns-clause-web : goal.returns-clause-web
returns-clause-web c = All-from_calls _ IsWebAddress (λ f. ⊤) (λ f x b g k i. (search rules parts 8, tt)) _ _ _ tt c.keep_links.ensures.filtered
