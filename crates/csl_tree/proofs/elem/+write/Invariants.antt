use Rattle.std.proofs.Common.{◌≡◌, take}
use Rattle.std.specs.List.{flat_map}
use Rattle.std.specs.Fmt.{WritesInCalls}
use Rattle.csl_tree.specs.Tokens.{child_tokens}
use Rattle.csl_tree.specs.Write.{text_in_format}
use Rattle.csl_tree.proofs.elem.+write.Given as goal

-- the sink took the output of the children before this one, and refused none of it
abbrev pub invariant-ElemChildren::write_into-loop-child : goal.invariant-ElemChildren::write_into-loop-child
invariant-ElemChildren::write_into-loop-child g l = record {
  taken : WritesInCalls g.S.Write.write_str_gives l.fn.sink (flat_map (λ k. text_in_format l.format (child_tokens k)) (take l.child-index l.child-items)) l.sink;
  kept : g.S.Sink.refused l.sink ≡ g.S.Sink.refused l.fn.sink;
}
