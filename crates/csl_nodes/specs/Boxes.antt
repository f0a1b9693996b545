-- The box of a node without quotes (CSL 1.0.2, Formatting, Affixes, Display, Strip-periods): its
-- body in its affixes, in its formatting, with its display and meta. The node's own strip-periods
-- applies to the body alone.
use Rattle.std.specs.Prelude.{Bool, ◌||◌, List, Some}
use Rattle.csl_elements.specs.Dressing.{Dressing}
use Rattle.csl_tree.specs.Content.{elem_content}
use Rattle.csl_tree.specs.Tokens.{Token, Meta}
use Rattle.csl_context.specs.State.{Inherited, with_node_formatting}
use Rattle.csl_context.specs.Texts.{affixed_in, text_in, chunks_in, link_in}
use Rattle.lit_model.specs.Text.{chunks}
use Rattle.csl_nodes.specs.NumberOrPage.{number_text_view, shown_in}
use Rattle.csl_nodes.specs.declared.dressing.Body.{Body}
use Rattle.csl_nodes.specs.declared.dressing.Body.TheVariants as body

-- the inherited values of the body; the node's own strip-periods applies here, not to the affixes
abbrev pub in_plain : Dressing → Bool → Inherited → Inherited
in_plain d strip inh = record (with_node_formatting d.formatting inh) { strip_periods = strip || inh.strip_periods }

-- a body in its affixes
abbrev pub plain_between : Dressing → Inherited → List Token → List Token
plain_between d inh c = affixed_in (with_node_formatting d.formatting inh) d.affixes c

-- a node's box around its body
abbrev pub plain_box : Dressing → Meta → Inherited → List Token → List Token
plain_box d meta inh c = elem_content d.display (Some meta) (plain_between d inh c)

abbrev pub body_in : Inherited → Body → List Token
body_in inh (body.Str words) = text_in inh words.now
body_in inh (body.Chunks pieces) = chunks_in inh (chunks pieces.now)
body_in inh (body.Link text url) = link_in inh text.now url.now
body_in inh (body.Number shown) = shown_in inh (number_text_view shown.now)
