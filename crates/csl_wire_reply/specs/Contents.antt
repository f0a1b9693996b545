-- A content in the formats of a reply (docs/WIRE.md, Replies): its texts as the tree writes them,
-- and the tree in its normal form.
use Rattle.std.specs.Prelude.{◌≡◌, Bool, true, false, ℕ, List, codes}
use Rattle.std.specs.List.{All}
use Rattle.serde_json.specs.Data.{Data, Members, string, object, no_members, put}
use Rattle.lit_model.specs.WebAddress.{IsWebAddress}
use Rattle.csl_tree.specs.Links.{addresses}
use Rattle.csl_tree.specs.Simplify.{normal_form}
use Rattle.csl_tree.specs.Tokens.{leaf_text, tokens}
use Rattle.csl_tree.specs.Tree.{tree}
use Rattle.csl_tree.specs.Write.{text_in_format}
use Rattle.csl_tree.specs.declared.elem.BufWriteFormat.{BufWriteFormat}
use Rattle.csl_tree.specs.declared.elem.BufWriteFormat.TheVariants as format
use Rattle.csl_tree.specs.declared.elem.ElemChildren.{ElemChildren}
use Rattle.csl_wire_reply.specs.Tree.{tree_data}
use Rattle.csl_wire_reply.specs.declared.formats.Formats.{Formats}

-- the members, with the text of a content in a format, if it is wanted
unfoldable pub put_format : List ℕ → BufWriteFormat → ElemChildren → Bool → Members → Members
put_format name format content false ms = ms
put_format name format content true ms = put name (string (text_in_format format (tokens content))) ms

-- the members `ns` are `ms`, with the normal form of a content
pub record HasTree (content : ElemChildren) (ms ns : Members) : Type 0 where
  pub simple : ElemChildren
  pub is_normal : tree simple ≡ normal_form (tree content)
  pub is : ns ≡ put (codes "tree") (tree_data simple) ms

-- the members before, with the HTML and the tree of a content, if they are wanted
pub record IsMarked (formats : Formats) (content : ElemChildren) (before : Members) (d : Data) : Type 0 where
  pub members : Members
  pub is : d ≡ object members
  pub wanted : formats.tree ≡ true → HasTree content (put_format (codes "html") format.Html content formats.html before) members
  pub left : formats.tree ≡ false → members ≡ put_format (codes "html") format.Html content formats.html before

-- the content, with all its links or with those to web pages alone
pub record IsLinked (has_all_links : Bool) (content linked : ElemChildren) : Type 0 where
  pub all : has_all_links ≡ true → linked ≡ content
  pub text : leaf_text (tokens linked) ≡ leaf_text (tokens content)
  pub web : has_all_links ≡ false → All IsWebAddress (addresses (tokens linked))

-- a content in these formats: without links in plain text, with some in the others
pub record IsContent (formats : Formats) (content : ElemChildren) (d : Data) : Type 0 where
  pub linked : ElemChildren
  pub is_linked : IsLinked formats.has_all_links content linked
  pub is : IsMarked formats linked (put_format (codes "plain") format.Plain content formats.plain no_members) d
