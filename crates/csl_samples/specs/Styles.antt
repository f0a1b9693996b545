-- Two styles are built in, by name (`IsBuiltInStyle`; CSL 1.0.2, Rendering Elements). Each has a
-- citation layout, default settings and one locale (`IsEnglish`), no bibliography and no macros. A
-- date part has no form of its own unless one is named here.
-- - `author-date` is a group in parentheses, delimited by `, `: the authors in their short form,
--   with the word `and` before the last, and the year of issue.
-- - `reference` is two groups. The first ends with a period and is delimited by `, `: the authors,
--   the first with the family name first and the last after the word `and`, with the editors as
--   their substitute, written like the authors; the title in quotes; the title of the container in
--   italics; the volume and the pages, each after its short label and a space; the month of issue
--   in its long form and the year, with a space between them. The second begins with a space and
--   is the DOI after `https://doi.org/`.
use Rattle.std.specs.Prelude.{◌≡◌, ℕ, Bool, true, false, List, [], ◌∷◌, length, Option, Some, None, codes, if◌then◌else◌}
use Rattle.std.specs.Str.{bytes_eq}
use Rattle.csl_common.specs.declared.form.NumberForm.TheVariants as number_forms
use Rattle.csl_common.specs.declared.form.LongShortForm.TheVariants.{Long}
use Rattle.csl_elements.specs.declared.date.DateAnyForm.{DateAnyForm}
use Rattle.csl_elements.specs.declared.date.DateAnyForm.TheVariants as part_forms
use Rattle.csl_elements.specs.declared.date.DatePartName.{DatePartName}
use Rattle.csl_elements.specs.declared.date.DatePartName.TheVariants.{Month, Year}
use Rattle.csl_elements.specs.declared.formatting.Formatting.{Formatting}
use Rattle.csl_elements.specs.declared.locale.Locale.{Locale}
use Rattle.csl_elements.specs.declared.names.NameAnd.TheVariants as ands
use Rattle.csl_elements.specs.declared.names.NameAsSortOrder.{NameAsSortOrder}
use Rattle.csl_elements.specs.declared.names.NameAsSortOrder.TheVariants.{First}
use Rattle.csl_elements.specs.declared.names.NameForm.{NameForm}
use Rattle.csl_elements.specs.declared.names.NameForm.TheVariants as name_forms
use Rattle.csl_elements.specs.declared.taxonomy.DateVariable.TheVariants.{Issued}
use Rattle.csl_elements.specs.declared.taxonomy.NameVariable.{NameVariable}
use Rattle.csl_elements.specs.declared.taxonomy.NameVariable.TheVariants.{Author, Editor}
use Rattle.csl_elements.specs.declared.taxonomy.NumberOrPageVariable.{NumberOrPageVariable}
use Rattle.csl_elements.specs.declared.taxonomy.NumberOrPageVariable.TheVariants as counts
use Rattle.csl_elements.specs.declared.taxonomy.NumberVariable.TheVariants.{Volume}
use Rattle.csl_elements.specs.declared.taxonomy.PageVariable.TheVariants as pages
use Rattle.csl_elements.specs.declared.taxonomy.StandardVariable.TheVariants.{Title, ContainerTitle, DOI}
use Rattle.csl_elements.specs.declared.taxonomy.Variable.{Variable}
use Rattle.csl_elements.specs.declared.taxonomy.Variable.TheVariants.{Standard, Page}
use Rattle.csl_elements.specs.Constructors.{italic, short_label_of, text_before, text_after, texts_around, no_dressing}
use Rattle.csl_elements.specs.Dressing.{AffixTexts}
use Rattle.csl_elements.specs.NamesOptions.{PartialOptions, no_options}
use Rattle.csl_elements.specs.Names.{NameNode, view_label}
use Rattle.csl_elements.specs.NamesParts.{default_name, no_formatting}
use Rattle.csl_elements.specs.Node.{of_variable, DatePartNode, DateNode, Node, text, number, label, date, names, group, Nodes, no_nodes, node, LayoutNode}
use Rattle.csl_style.specs.Style.{StyleParts, AreDefaults}
use Rattle.csl_elements.specs.View.{view_layout, NamesChildView, a_name, a_substitute, name_children, first_et_al, first_label, substitutes}
use Rattle.csl_samples.specs.English.{IsEnglish}
use Rattle.csl_samples.specs.Nodes.{no_affixes, only_affixes}
use Rattle.csl_samples.specs.declared.styles.BuiltInStyle.{BuiltInStyle}
use Rattle.csl_samples.specs.declared.styles.BuiltInStyle.TheVariants.{AuthorDate, Reference}

-- the name of a built-in style
abbrev pub style_name : BuiltInStyle → List ℕ
style_name AuthorDate = codes "author-date"
style_name Reference = codes "reference"

-- the built-in style with this name
abbrev pub named_style : List ℕ → Option BuiltInStyle
named_style name =
    if bytes_eq name (style_name AuthorDate) then Some AuthorDate
    else (if bytes_eq name (style_name Reference) then Some Reference else None)

-- ---- nodes of several sorts

-- a text of a variable
abbrev pub variable_text : Variable → Formatting → AffixTexts → Bool → Node
variable_text variable formatting affixes quotes = text (of_variable variable Long) (record {
  dressing = record no_dressing { formatting = formatting; affixes = affixes };
  quotes = quotes;
  strip_periods = false;
})

-- the short label of a number or of pages, in the plural if there are several
abbrev pub short_label : NumberOrPageVariable → Node
short_label variable = label variable (view_label (short_label_of variable).label)

abbrev pub date_part : DatePartName → Option DateAnyForm → DatePartNode
date_part name form = record { name = name; form = form; formatting = no_formatting; affixes = no_affixes; strip_periods = false }

-- the date of issue, with these parts
abbrev pub issued_date : List DatePartNode → Option (List ℕ) → DateNode
issued_date parts delimiter = record {
  variable = Some Issued;
  form = None;
  parts = None;
  date_part = parts;
  delimiter = delimiter;
  dressing = no_dressing;
}

-- the names of one variable, with these children
abbrev pub persons_by : NameVariable → List NamesChildView → Node
persons_by variable children = names (record {
  variables = variable ∷ [];
  options = no_options;
  delimiter = None;
  dressing = no_dressing;
  name_children = name_children children;
  et_al = first_et_al children;
  label = first_label false children;
  child_count = length children;
}) (substitutes children)

-- name options with the word `and` before the last name, with or without a form and an order
abbrev pub joined_by_and : Option NameForm → Option NameAsSortOrder → PartialOptions
joined_by_and form order = record no_options { and = Some ands.Text; form = form; name_as_sort_order = order }

abbrev pub name_by : PartialOptions → NameNode
name_by options = record default_name { options = options }

-- ---- author and date in parentheses

abbrev pub short_authors : Node
short_authors = persons_by Author (a_name (name_by (joined_by_and (Some name_forms.Short) None)) ∷ [])

abbrev pub year : Node
year = date (issued_date (date_part Year None ∷ []) None)

abbrev pub author_date : Node
author_date = group (Some (codes ", ")) (only_affixes (texts_around (codes "(") (codes ")"))) (node short_authors (node year no_nodes))

-- ---- a reference in full

abbrev pub editors : Node
editors = persons_by Editor []

-- The authors, the first with the family name first. The editors are their substitute, and are
-- written like the authors.
abbrev pub authors : Node
authors = persons_by Author (a_name (name_by (joined_by_and None (Some First))) ∷ a_substitute (node editors no_nodes) ∷ [])

abbrev pub quoted_title : Node
quoted_title = variable_text (Standard Title) no_formatting no_affixes true

abbrev pub container_title : Node
container_title = variable_text (Standard ContainerTitle) italic no_affixes false

-- a group of two nodes with a space between them
abbrev pub space_group : Node → Node → Node
space_group first second = group (Some (codes " ")) no_dressing (node first (node second no_nodes))

abbrev pub bare_volume : Node
bare_volume = number (record { variable = counts.Number Volume; form = number_forms.Numeric; dressing = no_dressing })

abbrev pub volume : Node
volume = space_group (short_label (counts.Number Volume)) bare_volume

abbrev pub page : Node
page = space_group (short_label (counts.Page pages.Page)) (variable_text (Page pages.Page) no_formatting no_affixes false)

abbrev pub month_and_year : Node
month_and_year = date (issued_date (date_part Month (Some part_forms.Long) ∷ date_part Year None ∷ []) (Some (codes " ")))

abbrev pub description_elements : Nodes
description_elements = node authors (node quoted_title (node container_title (node volume (node page (node month_and_year no_nodes)))))

-- the first group of a reference: its parts with commas between them, and a period
abbrev pub description : Node
description = group (Some (codes ", ")) (only_affixes (text_after (codes "."))) description_elements

-- the digital object identifier after the address of its resolver
abbrev pub link : Node
link = variable_text (Standard DOI) no_formatting (text_before (codes "https://doi.org/")) false

-- the second group of a reference: the resolver's address and the DOI, after a space
abbrev pub address : Node
address = group None (only_affixes (text_before (codes " "))) (node link no_nodes)

-- ---- the styles

abbrev pub elements_of : BuiltInStyle → Nodes
elements_of AuthorDate = node author_date no_nodes
elements_of Reference = node description (node address no_nodes)

abbrev pub built_in_layout : BuiltInStyle → LayoutNode
built_in_layout style = record { delimiter = None; formatting = no_formatting; elements = elements_of style }

-- A style with only a citation layout, in English. It has default settings and no macros.
pub record IsBuiltInStyle (style : BuiltInStyle) (parts : StyleParts) : Type 0 where
  pub citation : view_layout parts.citation ≡ built_in_layout style
  pub bibliography : parts.bibliography ≡ None
  pub macros : parts.macros ≡ []
  pub settings : AreDefaults parts.settings
  pub locales : (locale : Locale) × (parts.locales ≡ locale ∷ []) × IsEnglish locale
