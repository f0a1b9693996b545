-- What is rendered of an item of a batch, as JSON (docs/HOSTS.md, Requests and replies): a cite, or
-- a line of the bibliography, in the formats that are wanted, or the text of a key. Texts are in their
-- cases.
use Rattle.std.specs.Prelude.{◌≡◌, ℕ, List, Option, Some, None}
use Rattle.serde_json.specs.Data.{Data, null, string}
use Rattle.csl.specs.Tree.Tokens.{Token, tokens}
use Rattle.csl.specs.Tree.declared.elem.ElemChildren.{ElemChildren}
use Rattle.csl_session.specs.Cases.{IsCased, IsCasedText}
use Rattle.csl_wire_reply.specs.Contents.{IsContent}
use Rattle.csl_wire_reply.specs.declared.formats.Formats.{Formats}

-- a content of these tokens, its texts in their cases, in these formats
pub record IsContentOf (formats : Formats) (ts : List Token) (d : Data) : Type 0 where
  pub content : ElemChildren
  pub has : IsCased ts (tokens content)
  pub is : IsContent formats content d

-- a line of the bibliography in these formats, or `null` without a bibliography
abbrev pub IsLineOf : Formats → Option (List Token) → Data → Type 0
IsLineOf formats None d = d ≡ null
IsLineOf formats (Some ts) d = IsContentOf formats ts d

-- the text of a key in its case
pub record IsKeyOf (key : List ℕ) (d : Data) : Type 0 where
  pub text : List ℕ
  pub has : IsCasedText key text
  pub is : d ≡ string text
