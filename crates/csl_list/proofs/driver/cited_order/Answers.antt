use Rattle.std.proofs.Common.{◌∙◌}
use Rattle.csl_list.proofs.Works.{cited_there}
use Rattle.csl_list.proofs.driver.cited_order.Goals as goal

pub first_cites-requires : goal.first_cites-requires
first_cites-requires c = cited_there c.args.works c.args.requests.now c.deref.result.now (c.deref.ensures.value ∙ c.in_ok-cited.ensures) c.requires
