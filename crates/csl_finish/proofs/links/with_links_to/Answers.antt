use Rattle.std.proofs.Common.{◌≡◌, rules, refl}
use Rattle.csl_finish.proofs.Addresses.{All-from_calls}
use Rattle.csl_finish.specs.Links.{IsWebAddressAt}
use Rattle.csl_finish.proofs.links.with_links_to.Goals as goal

pub returns-clause-sites : goal.returns-clause-sites
returns-clause-sites c = All-from_calls _ (IsWebAddressAt c.args.hosts.now) (λ f. f.1.now ≡ c.args.hosts.now) (λ f x b g k i. (search (rules, i) parts 8, search (rules, i) parts 8)) _ _ _ refl c.keep_links.ensures.filtered
