use Rattle.std.proofs.Common.{rules}
use Rattle.lit_model.proofs.Names.{are_cjk-letters, trans_to}
use Rattle.lit_model.proofs.person.is_cjk_name.Goals as goal

-- neither text has a letter
pub returns-then-not-has_letter-2 : goal.returns-then-not-has_letter-2
returns-then-not-has_letter-2 c = let e = are_cjk-letters c.args.name.now c.args.given.now in trans_to _ _ _ e (search rules)

-- each letter of the name is CJK
pub returns-then-is_cjk_text : goal.returns-then-is_cjk_text
returns-then-is_cjk_text c = let e = are_cjk-letters c.args.name.now c.args.given.now in trans_to _ _ _ e (search rules)

-- some letter of the name is not CJK
pub returns-else-is_cjk_text : goal.returns-else-is_cjk_text
returns-else-is_cjk_text c = let e = are_cjk-letters c.args.name.now c.args.given.now in trans_to _ _ _ e (search rules)
