use Rattle.std.proofs.Common.{◌≡◌, ◌≤◌, length, take}
use Rattle.csl_tree.specs.Tokens.{last_char}
use Rattle.csl_tree.proofs.LastChars.{leaf_of}
use Rattle.csl_tree.proofs.elem.+ends.Given as goal

-- the last character of all children is that of the first `i`
abbrev pub invariant-ElemChildren::last_char-loop-i : goal.invariant-ElemChildren::last_char-loop-i
invariant-ElemChildren::last_char-loop-i l = record {
  within : l.i ≤ length l.self.0.items;
  ends : last_char (leaf_of l.self.0.items) ≡ last_char (leaf_of (take l.i l.self.0.items));
}

abbrev pub decreases-ElemChildren::last_char-loop-i : goal.decreases-ElemChildren::last_char-loop-i
decreases-ElemChildren::last_char-loop-i l = l.i
