-- Nodes in a style, with each macro's nodes in the place of its name (CSL 1.0.2, Macro).
use Rattle.std.specs.Prelude.{List, Option, option_map}
use denote.Bor.{Bor}
use Rattle.csl_elements.specs.declared.element.LayoutRenderingElement.{LayoutRenderingElement}
use Rattle.csl_elements.specs.declared.element.Names.{Names}
use Rattle.csl_elements.specs.declared.text.Text.{Text}
use Rattle.csl_elements.specs.Node.{Nodes, ExpandedNode, expanded_macro, ExpandedNodes, ExpandedSubstitutes}
use Rattle.csl_elements.specs.View.{view_nodes, text_dressing}
use Rattle.csl_style.specs.Expanded.{macro_env, expanded_nodes}
use Rattle.csl_style.specs.Style.{StyleParts}
use Rattle.csl_render.specs.Names.{expanded_substitutes_of}

-- the nodes that a choice or a substitute takes, if any
abbrev pub expanded_taken : StyleParts → Option (Bor (List LayoutRenderingElement)) → Option ExpandedNodes
expanded_taken style taken = option_map (expanded_nodes style) (option_map (λ ns. view_nodes ns.now) taken)

-- a text that calls a macro of these nodes
abbrev pub expanded_call : StyleParts → Nodes → Text → ExpandedNode
expanded_call style ns t = expanded_macro (expanded_nodes style ns) (text_dressing t)

-- the substitutes of a names node
abbrev pub expanded_substitutes : StyleParts → Names → ExpandedSubstitutes
expanded_substitutes style n = expanded_substitutes_of (macro_env style) n
