-- Styles that were read, by the facts of their parts.
use Rattle.std.proofs.Common.{◌≡◌, List, Bool, Option, Some, option_map, codes}
use Rattle.std.specs.List.{AllZip}
use Rattle.serde_json.specs.Data.{Data}
use Rattle.csl_elements.specs.NamesOptions.{partial_options}
use Rattle.csl_elements.specs.View.{definitions, view_layout}
use Rattle.csl_elements.specs.declared.element.CslMacro.{CslMacro}
use Rattle.csl_elements.specs.declared.element.Layout.{Layout}
use Rattle.csl_style.specs.declared.style.settings.StyleSettings.{StyleSettings}
use Rattle.csl_wire.specs.Reading.{member, read_list}
use Rattle.csl_wire.specs.Styles.{AreSettings, IsCitation, IsLayoutIf, IsMacro, IsStyle}

pub style_read : (marks : Bool) (d : Data) (settings : StyleSettings) (macros : List CslMacro) (citation : Layout) (bibliography : Option Layout) (items : List Data)
    → AreSettings d settings.page_range_format settings.demote_non_dropping_particle settings.initialize_with_hyphen (partial_options settings.names)
    → read_list (codes "macros") d ≡ Some items → AllZip (IsMacro marks) items (definitions macros)
    → IsCitation marks (member (codes "citation") d) (view_layout citation) (partial_options settings.citation_names)
    → IsLayoutIf marks (member (codes "bibliography") d) (option_map view_layout bibliography) (partial_options settings.bibliography_names)
    → IsStyle marks d settings macros citation bibliography
style_read marks d settings macros citation bibliography items own are each c b = record {
  settings_ = own;
  items = items;
  are = are;
  macros_ = each;
  citation_ = c;
  bibliography_ = b;
}
