-- A macro *leads to* a name (CSL 1.0.2, Macro) if it calls it, in a text at any depth, or if it
-- calls a macro that leads to it. Any depth means in groups, in each branch of a choice and in its
-- `cs:else`, and in each substitute of names. Of several macros of one name only the first counts.
use Rattle.std.specs.Prelude.{◌≡◌, ℕ, List, Option, Some, None, ◌⊎◌}
use Rattle.csl_elements.specs.Node.{Node, call, names, choose, group, Nodes, no_nodes, node, Branches, no_branches, otherwise, branch, Substitutes, no_substitutes, substitute}
use Rattle.csl_elements.specs.View.{Definition}
use Rattle.csl_style.specs.Expansion.{macro_body}

-- the node calls the name, at any depth
abbrev mutual
  pub Calls : List ℕ → Node → Type 0
  Calls name (call other d) = name ≡ other
  Calls name (names n ss) = SubstituteCalls name ss
  Calls name (choose bs) = BranchCalls name bs
  Calls name (group delimiter d ns) = OneCalls name ns
  Calls name other = ⊥

  pub OneCalls : List ℕ → Nodes → Type 0
  OneCalls name no_nodes = ⊥
  OneCalls name (node n ns) = Calls name n ⊎ OneCalls name ns

  pub BranchCalls : List ℕ → Branches → Type 0
  BranchCalls name no_branches = ⊥
  BranchCalls name (otherwise ns) = OneCalls name ns
  BranchCalls name (branch ts ns bs) = OneCalls name ns ⊎ BranchCalls name bs

  pub SubstituteCalls : List ℕ → Substitutes → Type 0
  SubstituteCalls name no_substitutes = ⊥
  SubstituteCalls name (substitute ns ss) = OneCalls name ns ⊎ SubstituteCalls name ss

abbrev pub BodyCalls : List ℕ → Option Nodes → Type 0
BodyCalls name None = ⊥
BodyCalls name (Some ns) = OneCalls name ns

-- one macro leads to another, by one call or more
pub data LeadsTo (ds : List Definition) : List ℕ → List ℕ → Type 0 where
  at_once : {a b : List ℕ} → BodyCalls b (macro_body a ds) → LeadsTo ds a b
  through : {a b c : List ℕ} → BodyCalls b (macro_body a ds) → LeadsTo ds b c → LeadsTo ds a c
