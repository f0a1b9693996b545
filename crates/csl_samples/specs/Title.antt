-- An entry that has a title or nothing at all, and the style that it is cited in (`CitesTitles`).
-- The entry answers the variable `title` in both forms, exactly if it has a title. The style has no
-- macros and no locales. Its layout is a group in parentheses, delimited by `: `, of the word
-- `Title` and the title in italics.
use Rattle.std.specs.Prelude.{◌≡◌, List, [], Option, Some, None, false, codes}
use Rattle.lit_model.specs.Text.{Chunk}
use Rattle.csl_common.specs.declared.form.LongShortForm.TheVariants.{Long}
use Rattle.csl_elements.specs.declared.taxonomy.StandardVariable.{StandardVariable}
use Rattle.csl_elements.specs.declared.taxonomy.StandardVariable.TheVariants.{Title}
use Rattle.csl_elements.specs.declared.taxonomy.Variable.TheVariants.{Standard}
use Rattle.csl_elements.specs.Constructors.{italic, texts_around}
use Rattle.csl_elements.specs.NamesParts.{no_formatting}
use Rattle.csl_elements.specs.Node.{of_variable, of_value, Node, text, group, Nodes, no_nodes, node, LayoutNode}
use Rattle.csl_style.specs.Style.{StyleParts}
use Rattle.csl_elements.specs.View.{view_layout}
use Rattle.csl_entry.specs.Answers.{Answers}
use Rattle.csl_samples.specs.Nodes.{only_affixes, formatted_dressing}

-- ---- the entry

abbrev pub title_of : Option (List Chunk) → StandardVariable → Option (List Chunk)
title_of title Title = title
title_of title _ = None

abbrev pub title_answers : Option (List Chunk) → Answers
title_answers title = record {
  numbers = λ _. None;
  pages = λ _. None;
  standards = λ _ variable. title_of title variable;
  names = λ _. [];
  dates = λ _. None;
  kinds = λ _. false;
}

-- ---- the style

-- the word `Title`
abbrev pub label : Node
label = text (of_value (codes "Title")) (formatted_dressing no_formatting)

-- the title in italics
abbrev pub title_text : Node
title_text = text (of_variable (Standard Title) Long) (formatted_dressing italic)

abbrev pub label_and_title : Nodes
label_and_title = node label (node title_text no_nodes)

-- the word `Title` and the title, in parentheses
abbrev pub title_group : Node
title_group = group (Some (codes ": ")) (only_affixes (texts_around (codes "(") (codes ")"))) label_and_title

abbrev pub title_layout : LayoutNode
title_layout = record { delimiter = None; formatting = no_formatting; elements = node title_group no_nodes }

pub record CitesTitles (style : StyleParts) : Type 0 where
  pub citation : view_layout style.citation ≡ title_layout
  pub macros : style.macros ≡ []
  pub locales : style.locales ≡ []
