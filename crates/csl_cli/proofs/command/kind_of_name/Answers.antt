use Rattle.csl_cli.proofs.KindNames.{kind_by_name}
use Rattle.csl_cli.proofs.command.kind_of_name.Goals as goal

pub returns : goal.returns
returns c = kind_by_name c.args.name.now c.from_name.result c.from_name.ensures
