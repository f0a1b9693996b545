-- Contents, by their parts.
use Rattle.std.proofs.Common.{◌≡◌, true, false, codes, refl, sym, ap, ◌∙◌, subst}
use Rattle.std.proofs.lemmas.Bool.{true≢false, false≢true}
use Rattle.std.specs.List.{All}
use Rattle.serde_json.specs.Data.{Data, Members, object, no_members, put}
use Rattle.lit_model.specs.WebAddress.{IsWebAddress}
use Rattle.csl_tree.specs.Links.{addresses}
use Rattle.csl_tree.specs.Simplify.{normal_form}
use Rattle.csl_tree.specs.Tokens.{leaf_text, tokens}
use Rattle.csl_tree.specs.Tree.{tree}
use Rattle.csl_tree.specs.declared.elem.BufWriteFormat.TheVariants as format
use Rattle.csl_tree.specs.declared.elem.ElemChildren.{ElemChildren}
use Rattle.csl_wire_reply.specs.Tree.{tree_data}
use Rattle.csl_wire_reply.specs.Contents.{put_format, HasTree, IsContent, IsLinked, IsMarked}
use Rattle.csl_wire_reply.specs.declared.formats.Formats.{Formats}

pub tree_put : (content simple : ElemChildren) (ms ns : Members) (d : Data) → tree simple ≡ normal_form (tree content) → d ≡ tree_data simple → ns ≡ put (codes "tree") d ms → HasTree content ms ns
tree_put content simple ms ns d n q e = record { simple = simple; is_normal = n; is = e ∙ ap (λ t. put (codes "tree") t ms) q }

pub marked : (formats : Formats) (content : ElemChildren) (before html members : Members) (d : Data) → html ≡ put_format (codes "html") format.Html content formats.html before → (formats.tree ≡ true → HasTree content html members) → (formats.tree ≡ false → members ≡ html) → d ≡ object members → IsMarked formats content before d
marked formats content before html members d h w l e = record { members = members; is = e; wanted = λ t. subst (λ ms. HasTree content ms members) h (w t); left = λ f. l f ∙ h }

pub with_all : (formats : Formats) (content : ElemChildren) (plain : Members) (d : Data) → formats.has_all_links ≡ true → plain ≡ put_format (codes "plain") format.Plain content formats.plain no_members → IsMarked formats content plain d → IsContent formats content d
with_all formats content plain d a p m = record { linked = content; is_linked = record { all = λ t. refl; text = refl; web = λ f. absurd (true≢false (sym a ∙ f)) }; is = subst (λ ms. IsMarked formats content ms d) p m }

pub with_web : (formats : Formats) (content linked : ElemChildren) (plain : Members) (d : Data) → formats.has_all_links ≡ false → leaf_text (tokens linked) ≡ leaf_text (tokens content) → All IsWebAddress (addresses (tokens linked)) → plain ≡ put_format (codes "plain") format.Plain content formats.plain no_members → IsMarked formats linked plain d → IsContent formats content d
with_web formats content linked plain d a t w p m = record { linked = linked; is_linked = record { all = λ e. absurd (false≢true (sym a ∙ e)); text = t; web = λ f. w }; is = subst (λ ms. IsMarked formats linked ms d) p m }
