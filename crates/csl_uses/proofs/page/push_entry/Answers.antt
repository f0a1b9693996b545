use Rattle.std.proofs.Common.{codes, string_bytes}
use Rattle.csl_uses.proofs.Pages.{in_element}
use Rattle.csl_uses.proofs.page.push_entry.Goals as goal

pub returns : goal.returns
returns c =
    in_element (string_bytes c.args.html.now) (codes "<div class=\"entry\">") c.args.line.now (codes "</div>\n") _ _ _
    c.in_ok-push_str.ensures.bytes c.in_ok-push_str-2.ensures.bytes c.in_ok-push_str-3.ensures.bytes
