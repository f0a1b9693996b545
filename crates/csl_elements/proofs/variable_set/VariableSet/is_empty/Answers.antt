use Rattle.std.proofs.Common.{Bool, ap, sym, ◌∙◌}
use Rattle.csl_elements.specs.declared.taxonomy.Variable.{Variable}
use Rattle.csl_elements.proofs.variable_set.VariableSet.is_empty.Goals as goal

pub returns : goal.returns
returns c =
    let alike = c.is_alike_on.ensures in (
      λ h. λ i v. (alike.0 h v (c.full.ensures v) ∙ c.new.ensures v) i,
      λ e. alike.1 (λ v read. ap (λ (set : Variable → Bool). set v) e ∙ sym (c.new.ensures v)),
    )
