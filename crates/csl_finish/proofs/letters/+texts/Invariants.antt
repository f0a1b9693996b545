use Rattle.std.proofs.Common.{◌≡◌, take}
use Rattle.std.specs.List.{flat_map}
use Rattle.csl_tree.specs.Tokens.{child_tokens}
use Rattle.csl_finish.specs.Letters.{bares}
use Rattle.csl_finish.proofs.letters.+texts.Given as goal

-- the copies so far differ from the children before this one in the characters of texts alone
abbrev pub invariant-with_texts-loop-child : goal.invariant-with_texts-loop-child
invariant-with_texts-loop-child l = bares (flat_map child_tokens l.copies.items) ≡ bares (flat_map child_tokens (take l.child-index l.child-items))
