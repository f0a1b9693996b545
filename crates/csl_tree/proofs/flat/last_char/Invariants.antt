use Rattle.std.proofs.Common.{◌≡◌, ◌≤◌, length, take}
use Rattle.csl_tree.specs.Tokens.{last_char}
use Rattle.csl_tree.proofs.LastChars.{leaf_of}
use Rattle.csl_tree.proofs.flat.last_char.Given as goal

-- the last character of all children is that of the first `i`
abbrev pub invariant-loop-i : goal.invariant-loop-i
invariant-loop-i l = record {
  within : l.i ≤ length l.children;
  ends : last_char (leaf_of l.children) ≡ last_char (leaf_of (take l.i l.children));
}

abbrev pub decreases-loop-i : goal.decreases-loop-i
decreases-loop-i l = l.i
