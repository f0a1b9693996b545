use Rattle.csl_entry.specs.contracts.forms.name_properties.NameDisambiguationPropertiesHash.TheImpl.Laws.{respects_eq-law}
use Rattle.csl_entry.proofs.PropertiesEqual.{properties_decide}
use Rattle.csl_laws.proofs.cites.same_name_properties.Goals as goal

pub returns-clause-hashed : goal.returns-clause-hashed
returns-clause-hashed c = λ h. respects_eq-law c.args.a.now c.args.b.now ((properties_decide c.args.a.now c.args.b.now).1 h)
