-- Which macros, layouts and settings JSON objects are read as (CSL 1.0.2, Style Structure): each
-- attribute from the member of its name. One that is absent has its default: particles that are
-- demoted in display and sorting, and hyphens with initials.
use Rattle.std.specs.Prelude.{◌≡◌, ℕ, List, Bool, true, Option, Some, None, map, option_map, unwrap_or, codes}
use Rattle.std.specs.List.{AllZip}
use Rattle.serde_json.specs.Data.{Data}
use Rattle.serde_json.specs.Find.{as_bool, as_str}
use Rattle.csl_elements.specs.NamesOptions.{PartialOptions, no_options, partial_options}
use Rattle.csl_elements.specs.Node.{LayoutNode, no_nodes}
use Rattle.csl_elements.specs.NamesParts.{no_formatting}
use Rattle.csl_elements.specs.declared.element.CslMacro.{CslMacro}
use Rattle.csl_elements.specs.declared.element.Layout.{Layout}
use Rattle.csl_elements.specs.View.{Definition, definitions, view_layout}
use Rattle.csl_style.specs.declared.style.settings.DemoteNonDroppingParticle.{DemoteNonDroppingParticle}
use Rattle.csl_style.specs.declared.style.settings.DemoteNonDroppingParticle.TheVariants.{DisplayAndSort}
use Rattle.csl_style.specs.declared.style.settings.PageRangeFormat.{PageRangeFormat}
use Rattle.csl_style.specs.declared.style.settings.StyleSettings.{StyleSettings}
use Rattle.csl_wire.specs.Dressed.{read_formatting}
use Rattle.csl_wire.specs.Names.{AreOptions}
use Rattle.csl_wire.specs.Nodes.{AreNodes, AreNodesIn}
use Rattle.csl_wire.specs.Reading.{lent, pair_by, member, read_choice, read_list, read_member, read_one}
use Rattle.csl_wire.specs.declared.choices.TheConstants as tables

pub record IsMacro (marks : Bool) (d : Data) (m : Definition) : Type 0 where
  pub name : read_one as_str (codes "name") d ≡ Some m.0
  pub children : AreNodesIn (AreNodes marks 43) (codes "children") d m.1

pub record IsLayout (marks : Bool) (d : Data) (l : LayoutNode) : Type 0 where
  pub delimiter_ : read_member as_str (codes "delimiter") d ≡ Some l.delimiter
  pub formatting_ : read_formatting d ≡ Some l.formatting
  pub elements_ : AreNodesIn (AreNodes marks 43) (codes "children") d l.elements

-- the options of a layout
abbrev pub AreLayoutOptions : Data → PartialOptions → Type 0
AreLayoutOptions d o = AreOptions (codes "name-form") (codes "name-delimiter") d o

-- a layout that may be absent, and its options
abbrev pub IsLayoutIf : Bool → Option Data → Option LayoutNode → PartialOptions → Type 0
IsLayoutIf marks None None o = o ≡ no_options
IsLayoutIf marks None (Some l) o = ⊥
IsLayoutIf marks (Some d) None o = ⊥
IsLayoutIf marks (Some d) (Some l) o = IsLayout marks d l × AreLayoutOptions d o

abbrev empty_layout : LayoutNode
empty_layout = record { delimiter = None; formatting = no_formatting; elements = no_nodes }

-- the layout of the citation, which is empty if it is absent, and its options
abbrev pub IsCitation : Bool → Option Data → LayoutNode → PartialOptions → Type 0
IsCitation marks None l o = (l ≡ empty_layout) × (o ≡ no_options)
IsCitation marks (Some d) l o = IsLayout marks d l × AreLayoutOptions d o

abbrev read_demotion : Data → Option DemoteNonDroppingParticle
read_demotion d = option_map (λ o. unwrap_or o DisplayAndSort)
    (read_member (read_choice (map (pair_by lent) tables.DEMOTIONS)) (codes "demote-non-dropping-particle") d)

abbrev read_hyphens : Data → Option Bool
read_hyphens d = option_map (λ o. unwrap_or o true) (read_member as_bool (codes "initialize-with-hyphen") d)

-- the settings, but the options of the layouts
pub record AreSettings (d : Data) (format : Option PageRangeFormat) (demotion : DemoteNonDroppingParticle) (hyphens : Bool) (names : PartialOptions) : Type 0 where
  pub format_ : read_member (read_choice (map (pair_by lent) tables.PAGE_FORMATS)) (codes "page-range-format") d ≡ Some format
  pub demotion_ : read_demotion d ≡ Some demotion
  pub hyphens_ : read_hyphens d ≡ Some hyphens
  pub names_ : AreLayoutOptions d names

-- what a style is read as, but its locales, with marks of cases or without
pub record IsStyle (marks : Bool) (d : Data) (settings : StyleSettings) (macros : List CslMacro) (citation : Layout) (bibliography : Option Layout) : Type 0 where
  pub settings_ : AreSettings d settings.page_range_format settings.demote_non_dropping_particle settings.initialize_with_hyphen (partial_options settings.names)
  pub items : List Data
  pub are : read_list (codes "macros") d ≡ Some items
  pub macros_ : AllZip (IsMacro marks) items (definitions macros)
  pub citation_ : IsCitation marks (member (codes "citation") d) (view_layout citation) (partial_options settings.citation_names)
  pub bibliography_ : IsLayoutIf marks (member (codes "bibliography") d) (option_map view_layout bibliography) (partial_options settings.bibliography_names)
