-- The renderings of one request: by which style, and how many bytes they may still write. What a
-- call returns takes the bytes of its text from them.
use Rattle.std.specs.Prelude.{ℕ, ◌==◌, if◌then◌else◌, List, length}
use Rattle.csl_style.specs.Style.{StyleParts}
use Rattle.csl_tree.specs.Tokens.{Token, leaf_text}
use Rattle.csl.specs.declared.error.Error.{Error}
use Rattle.csl.specs.declared.error.Error.TheVariants.{Memory, Limit}

pub record RendererView : Type 0 where
  pub style : StyleParts
  pub room : ℕ

-- why a call failed, by the bytes that are left
abbrev pub refusal : ℕ → Error
refusal room = if room == 0 then Limit else Memory

-- the bytes of a content's text
abbrev pub text_len : List Token → ℕ
text_len content = length (leaf_text content)
