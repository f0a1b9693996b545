use Rattle.std.proofs.Common.{◌≡◌, drop, true, false}
use Rattle.csl_tree.specs.Content.{◌++>◌}
use Rattle.csl_nodes.proofs.JoinedParts.{parts_of}
use Rattle.csl_nodes.proofs.date_parts.render_parts.Given as goal

-- the content so far, with the remaining parts, is the content with all parts
abbrev pub invariant-loop-part : goal.invariant-loop-part
invariant-loop-part g l =
    let made = parts_of g.T.EntryLike.answers l.date l.found l.fn.ctx in
    record {
      sound : l.fn.ctx.failed ≡ false;
      frame : l.ctx ≡ record l.fn.ctx { inner = l.ctx.inner };
      told : l.ctx.inner ++> made l.first (drop l.part-index l.parts) ≡ l.fn.ctx.inner ++> made true l.parts;
    }
