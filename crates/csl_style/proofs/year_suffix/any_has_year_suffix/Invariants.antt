use Rattle.csl_elements.specs.View.{view_nodes}
use Rattle.csl_style.proofs.SuffixSearch.{IsSearch}
use Rattle.csl_style.proofs.Walks.{cost_left}
use Rattle.csl_style.proofs.year_suffix.any_has_year_suffix.Given as goal

-- no node that was taken is a text of the year suffix
abbrev pub invariant-loop-reached : goal.invariant-loop-reached
invariant-loop-reached l = IsSearch l.macros (view_nodes l.elements) l.reached

abbrev pub decreases-loop-reached : goal.decreases-loop-reached
decreases-loop-reached l = cost_left l.reached
