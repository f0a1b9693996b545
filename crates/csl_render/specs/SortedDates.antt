-- Sorting by a date (CSL 1.0.2, Sorting): the sort keys of two entries by a layout of one date and
-- nothing else compare by bytes as their dates do in time. The key of an entry without the date is
-- empty, and comes first. The key has to be *whole*, with year, month and day: without a form it
-- always is, if the sorting is by a variable. No year suffix may follow the year, because `2014a`
-- of May would come after `2014` of June: the cite has none, or the layout of the scope writes it
-- in a text of its own. The years have to be those whose keys are in the order of time.
use Rattle.std.specs.Prelude.{◌≡◌, ℕ, Bool, true, false, ◌&&◌, List, Some, is_some, IfSome}
use Rattle.std.specs.Cmp.Lexicographic.{slice_cmp}
use Rattle.std.specs.Option.{option_cmp}
use Rattle.std.specs.Ordering.{nat_cmp}
use Rattle.lit_model.specs.Date.{DateView, AreInRange}
use Rattle.csl_elements.specs.declared.date.DatePartName.{DatePartName}
use Rattle.csl_elements.specs.declared.element.Layout.{Layout}
use Rattle.csl_elements.specs.declared.taxonomy.DateVariable.{DateVariable}
use Rattle.csl_elements.specs.Node.{DateNode, date, node, no_nodes}
use Rattle.csl_elements.specs.View.{view_layout}
use Rattle.csl_style.specs.declared.style.settings.Scope.{Scope}
use Rattle.csl_style.specs.Style.{StyleParts}
use Rattle.csl_style.specs.YearSuffix.{reached_layout, is_year_suffix_implicit}
use Rattle.csl_entry.specs.Answers.{Answers}
use Rattle.csl_entry.specs.Cite.{CiteState}
use Rattle.csl_entry.specs.Instance.{year_suffix}
use Rattle.csl_entry.specs.declared.citation.cite.Sorting.{Sorting}
use Rattle.csl_nodes.specs.DateKey.{is_keyed, HasKeyYear, time_order}
use Rattle.csl_render.specs.Cites.{sort_key_text}

-- the layout has this date, of this variable, and nothing else
abbrev pub IsDateAlone : Layout → DateNode → DateVariable → Type 0
IsDateAlone layout n v = ((view_layout layout).elements ≡ node (date n) no_nodes) × (n.variable ≡ Some v)

-- the key of the date has the year, the month and the day
abbrev pub IsKeyedWhole : DateNode → Sorting → Type 0
IsKeyedWhole n sorting = (part : DatePartName) → is_keyed n sorting part ≡ true

-- whether a suffix follows the year in the key: the cite has one, and the layout of the scope
-- reaches no text of it
abbrev pub has_keyed_suffix : StyleParts → Scope → CiteState → Bool
has_keyed_suffix style scope cite = is_year_suffix_implicit (reached_layout scope style) && is_some (year_suffix cite.disambiguation)

-- a date whose key is in the order of time
abbrev pub IsKeyDate : DateView → Type 0
IsKeyDate d = HasKeyYear d.year × AreInRange d.month d.day

-- A key, of an entry with these answers in this cite, compares with that of any other entry in any
-- cite as the dates of both do in time.
abbrev pub SortsByDate : List ℕ → StyleParts → Scope → CiteState → Sorting → Answers → Layout → Type 0
SortsByDate key style scope cite sorting a layout = (n : DateNode) (v : DateVariable) (other : CiteState) (b : Answers)
    → IsDateAlone layout n v → IsKeyedWhole n sorting → has_keyed_suffix style scope cite ≡ false → has_keyed_suffix style scope other ≡ false
    → IfSome (a.dates v) IsKeyDate → IfSome (b.dates v) IsKeyDate
    → slice_cmp nat_cmp key (sort_key_text style scope other sorting b layout) ≡ option_cmp time_order (a.dates v) (b.dates v)
