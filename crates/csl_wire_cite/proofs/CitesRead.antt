-- Cites that were read, by the facts of their members.
use Rattle.std.proofs.Common.{◌≡◌, Option, Some, codes}
use Rattle.serde_json.specs.Data.{Data}
use Rattle.csl_elements.specs.declared.taxonomy.Variable.{Variable}
use Rattle.csl_entry.specs.declared.citation.cite.SpecialForm.{SpecialForm}
use Rattle.csl_wire.specs.Leaves.{IsNamedIf}
use Rattle.csl_wire.specs.Named.{variable_has}
use Rattle.csl_wire_cite.specs.Cites.{one_of, read_form, IsPart}

pub part_read : (d : Data) (only : Option Variable) (form part : Option SpecialForm) → IsNamedIf variable_has (codes "only") d only → read_form d ≡ Some form → one_of only form ≡ Some part → IsPart d part
part_read d only form part o f e = record { only = only; is_only = o; form = form; is_form = f; is = e }
