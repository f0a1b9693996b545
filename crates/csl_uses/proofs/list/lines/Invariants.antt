use Rattle.std.proofs.Common.{◌≡◌, map, take, string_bytes}
use Rattle.csl_uses.specs.List.{line_html, AreLines}
use Rattle.csl_uses.proofs.list.lines.Given as goal

-- the lines so far are those of the works so far, and what is kept stays so
abbrev pub invariant-loop-work : goal.invariant-loop-work
invariant-loop-work g l = (AreLines l.style l.fn.kept → map (λ line. string_bytes line.html) l.lines.items ≡ map (λ w. line_html l.style (g.T.EntryLike.answers w)) (take l.work-index l.works)) × (AreLines l.style l.fn.kept → AreLines l.style l.kept)
