use Rattle.std.proofs.Common.{Bool, ap, sym, ◌∙◌}
use Rattle.csl_elements.specs.declared.taxonomy.Variable.{Variable}
use Rattle.csl_elements.specs.declared.taxonomy.all_variables.TheConstants.{VARIABLES}
use Rattle.csl_elements.specs.VariableSet.{has, with_held}
use Rattle.csl_elements.proofs.OrderedSets.{no_members, all_held}
use Rattle.csl_elements.proofs.variable_set.VariableSet.to_ordered.Goals as goal

pub returns-then-is_empty : goal.returns-then-is_empty
returns-then-is_empty c = no_members c.new-ordered.result c.new-ordered.ensures.empty ∙ sym (c.is_empty.ensures.0 c.if-is_empty.true)

pub returns : goal.returns
returns c =
    c.in_ok-insert_all_into.ensures
    ∙ ap (λ (now : Variable → Bool). with_held (has c.args.self) VARIABLES now) (no_members c.new-ordered.result c.new-ordered.ensures.empty)
    ∙ all_held (has c.args.self)
