-- What was rendered, as JSON.
use Rattle.std.proofs.Common.{◌≡◌, ℕ, List, Option, subst}
use Rattle.serde_json.specs.Data.{Data, string}
use Rattle.csl.specs.Tree.Tokens.{Token, tokens}
use Rattle.csl.specs.Tree.declared.elem.ElemChildren.{ElemChildren}
use Rattle.csl_wire_reply.specs.Contents.{IsContent}
use Rattle.csl_wire_reply.specs.declared.formats.Formats.{Formats}
use Rattle.csl_session.specs.Cases.{IsCased, IsCasedText}
use Rattle.csl_session.specs.Rendered.{IsContentOf, IsKeyOf, IsLineOf}

pub content_made : (formats : Formats) (ts : List Token) (content : ElemChildren) (d : Data) → IsCased ts (tokens content) → IsContent formats content d → IsContentOf formats ts d
content_made formats ts content d has is = record { content = content; has = has; is = is }

pub key_made : (key text : List ℕ) (d : Data) → IsCasedText key text → d ≡ string text → IsKeyOf key d
key_made key text d has is = record { text = text; has = has; is = is }

pub content_same : (formats : Formats) (ts us : List Token) (d : Data) → ts ≡ us → IsContentOf formats ts d → IsContentOf formats us d
content_same formats ts us d e is = subst (λ vs. IsContentOf formats vs d) e is

pub line_same : (formats : Formats) (o p : Option (List Token)) (d : Data) → o ≡ p → IsLineOf formats o d → IsLineOf formats p d
line_same formats o p d e is = subst (λ q. IsLineOf formats q d) e is
