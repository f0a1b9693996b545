use Rattle.std.proofs.Common.{rules, ◌∙◌, sym, ap, subst, IsUtf8, IfSome}
use Rattle.std.specs.Char.{IsScalar}
use Rattle.csl_tree.specs.Tokens.{last_char}
use Rattle.csl_tree.proofs.LastChars.{last_from_back}
use Rattle.csl_tree.proofs.ends.last_char.Goals as goal

pub returns : goal.returns
returns c =
    let text : IsUtf8 c.chars.result.rest.now = subst IsUtf8 (sym c.chars.ensures.rest) c.utf8.text in
    let scalar : IfSome c.next_back.result IsScalar = search rules in
    last_from_back _ c.chars.result.rest.now c.next_back.new.self.rest.now c.next_back.result text scalar c.next_back.ensures.steps ∙ ap last_char c.chars.ensures.rest
