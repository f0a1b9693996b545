-- The sort key of an entry by a layout of one date is the full key of its date, or empty without
-- one. So two keys compare as the dates do in time.
use Rattle.std.proofs.Common.{◌≡◌, ℕ, ◌≤◌, ℤ, pos, negsuc, Bool, true, false, List, [], ◌∷◌, ◌++◌, Option, Some, None, refl, sym, ap, ap₂, subst, ◌∙◌, append-nil, if◌then◌else◌}
use Rattle.std.specs.Prelude.{◌&&◌, is_some, IfSome}
use Rattle.std.specs.Cmp.Lexicographic.{slice_cmp}
use Rattle.std.specs.Option.{ForSome, option_cmp}
use Rattle.std.specs.Ordering.{nat_cmp}
use Rattle.std.specs.declared.cmp.Ordering.TheVariants.{Less, Greater}
use Rattle.std.proofs.lemmas.Bool.{false≢true}
use Rattle.std.proofs.lemmas.Option.{none-some, same_Some}
use Rattle.lit_model.specs.Date.{DateView, AreInRange}
use Rattle.lit_model.specs.declared.date.Date.{Date}
use Rattle.lit_model.specs.Text.{Chunk}
use Rattle.csl_elements.specs.declared.date.DatePartName.TheVariants.{Day, Month, Year}
use Rattle.csl_elements.specs.declared.element.Layout.{Layout}
use Rattle.csl_elements.specs.declared.taxonomy.DateVariable.{DateVariable}
use Rattle.csl_elements.specs.declared.taxonomy.Variable.TheVariants as variable
use Rattle.csl_elements.specs.Node.{DateNode, Nodes, expand_nodes}
use Rattle.csl_elements.specs.View.{view_layout}
use Rattle.csl_elements.proofs.Variables.{variable_decides}
use Rattle.csl_style.specs.declared.style.settings.Scope.{Scope}
use Rattle.csl_style.specs.Expanded.{macro_env}
use Rattle.csl_style.specs.Style.{StyleParts}
use Rattle.csl_style.specs.YearSuffix.{reached_layout, is_year_suffix_implicit}
use Rattle.csl_tree.specs.declared.formatting.Formatting.{Formatting}
use Rattle.csl_tree.specs.Content.{◌++>◌, text_content}
use Rattle.csl_tree.specs.Write.{plain_text}
use Rattle.csl_entry.specs.Answers.{Answers}
use Rattle.csl_entry.specs.Cite.{CiteState}
use Rattle.csl_entry.specs.Instance.{year_suffix}
use Rattle.csl_entry.specs.declared.citation.cite.Sorting.{Sorting}
use Rattle.csl_context.specs.Context.{initial_state, base_inherited}
use Rattle.csl_context.specs.State.{Inherited, state_after_resolve, with_node_formatting}
use Rattle.csl_context.specs.RenderInput.{RenderInput, peek_date}
use Rattle.csl_nodes.specs.DateKey.{place_key, year_key, key_if, is_keyed, sort_key, full_key, time_order}
use Rattle.csl_nodes.specs.Date.{date_shows_own, suffix_text, implicit_suffix, resolved_date, variable_output}
use Rattle.csl_nodes.specs.Text.{render_output}
use Rattle.csl_nodes.proofs.Theorems.{full_keys_sort_by_time}
use Rattle.csl_render.specs.Cites.{sort_key_text}
use Rattle.csl_render.specs.Pair.{cite_input}
use Rattle.csl_render.specs.SortedDates.{IsDateAlone, IsKeyedWhole, has_keyed_suffix, IsKeyDate, SortsByDate}
use Rattle.csl_render.specs.Tree.{nodes_output}

-- ---- full keys, and the empty key of no date

at_most : (o : Option ℕ) (most : ℕ) → IfSome o (λ n. n ≤ most) → ForSome o (λ n. n ≤ most)
at_most None most h x e = absurd (none-some x e)
at_most (Some n) most h x e = subst (λ (k : ℕ). k ≤ most) (same_Some n x e) h

-- the date of a view in range
abbrev date_of : (d : DateView) → AreInRange d.month d.day → Date
date_of d h = record {
  year = d.year;
  month = d.month;
  day = d.day;
  season = d.season;
  approximate = d.approximate;
  month_of_year = at_most d.month 11 h.0;
  day_of_month = at_most d.day 30 h.1;
}

-- the key of a date, if there is one
abbrev key_text : Option DateView → List ℕ
key_text None = []
key_text (Some d) = full_key d

before_year : (year : ℤ) (bs : List ℕ) → slice_cmp nat_cmp [] ((year_key year ++ []) ++ bs) ≡ Less
before_year (pos n) bs = refl
before_year (negsuc n) bs = refl

after_none : (year : ℤ) (bs : List ℕ) → slice_cmp nat_cmp ((year_key year ++ []) ++ bs) [] ≡ Greater
after_none (pos n) bs = refl
after_none (negsuc n) bs = refl

pub texts_order : (o p : Option DateView) → IfSome o IsKeyDate → IfSome p IsKeyDate → slice_cmp nat_cmp (key_text o) (key_text p) ≡ option_cmp time_order o p
texts_order None None h k = refl
texts_order None (Some e) h k = before_year e.year (place_key e.month ++ place_key e.day)
texts_order (Some d) None h k = after_none d.year (place_key d.month ++ place_key d.day)
texts_order (Some d) (Some e) h k = full_keys_sort_by_time (date_of d h.1) (date_of e k.1) h.0 k.0

-- ---- the text of a rendered key

plain_of_text : (bs : List ℕ) (f : Formatting) → plain_text (text_content bs f ++> []) ≡ bs
plain_of_text [] f = refl
plain_of_text (b ∷ bs) f = append-nil (b ∷ bs)

no_suffix : (implicit : Bool) (o : Option (List Chunk)) → (implicit && is_some o) ≡ false → (if implicit then suffix_text o else []) ≡ []
no_suffix true None h = refl
no_suffix true (Some cs) h = absurd (false≢true (sym h))
no_suffix false o h = refl

whole_key : (n : DateNode) (sorting : Sorting) (suffix : List ℕ) (d : DateView) → IsKeyedWhole n sorting → suffix ≡ [] → sort_key n sorting suffix d ≡ full_key d
unfolding sort_key
whole_key n sorting suffix d whole e =
    ap (λ (b : Bool). key_if b (year_key d.year ++ suffix) ++ (key_if (is_keyed n sorting Month) (place_key d.month) ++ key_if (is_keyed n sorting Day) (place_key d.day))) (whole Year)
    ∙ ap (λ (b : Bool). (year_key d.year ++ suffix) ++ (key_if b (place_key d.month) ++ key_if (is_keyed n sorting Day) (place_key d.day))) (whole Month)
    ∙ ap (λ (b : Bool). (year_key d.year ++ suffix) ++ (place_key d.month ++ key_if b (place_key d.day))) (whole Day)
    ∙ ap (λ (t : List ℕ). (year_key d.year ++ t) ++ (place_key d.month ++ place_key d.day)) e

module _ (style : StyleParts) (scope : Scope) (cite : CiteState) (sorting : Sorting) (a : Answers) (layout : Layout) where
  abbrev w : RenderInput
  w = cite_input style scope cite (Some sorting) None a

  -- the inherited values in the layout
  abbrev inside : Inherited
  inside = record (with_node_formatting (view_layout layout).formatting (base_inherited style scope)) { delimiter = (view_layout layout).delimiter }

  abbrev text_by : Nodes → List ℕ
  text_by ns = plain_text (nodes_output w (expand_nodes (macro_env style) ns) inside initial_state).content

  found_text : (n : DateNode) (o : Option DateView) → IsKeyedWhole n sorting → has_keyed_suffix style scope cite ≡ false → plain_text ((resolved_date w n o inside initial_state).content ++> []) ≡ key_text o
  found_text n None whole h = refl
  found_text n (Some d) whole h =
      let suffix = implicit_suffix w initial_state in
      plain_of_text (sort_key n sorting suffix d) inside.formatting
      ∙ whole_key n sorting suffix d whole (no_suffix (is_year_suffix_implicit (reached_layout scope style)) (year_suffix cite.disambiguation) h)

  pub text_of_key : (n : DateNode) (v : DateVariable) → IsDateAlone layout n v → IsKeyedWhole n sorting → has_keyed_suffix style scope cite ≡ false → sort_key_text style scope cite sorting a layout ≡ key_text (a.dates v)
  text_of_key n v alone whole h =
      let shown : date_shows_own w initial_state v ≡ true = (variable_decides (variable.Date v) (variable.Date v)).1 refl in
      ap (λ (ns : Nodes). text_by ns) alone.0
      ∙ ap (λ (o : Option DateVariable). plain_text ((variable_output w n o inside initial_state).content ++> [])) alone.1
      ∙ ap (λ (b : Bool). plain_text ((if b then resolved_date w n (peek_date w initial_state v) inside (state_after_resolve (variable.Date v) initial_state) else render_output [] initial_state).content ++> [])) shown
      ∙ found_text n (a.dates v) whole h

pub keys_order : (style : StyleParts) (scope : Scope) (cite : CiteState) (sorting : Sorting) (a : Answers) (layout : Layout) → SortsByDate (sort_key_text style scope cite sorting a layout) style scope cite sorting a layout
keys_order style scope cite sorting a layout n v other b alone whole h k d e =
    ap₂ (λ (x y : List ℕ). slice_cmp nat_cmp x y) (text_of_key style scope cite sorting a layout n v alone whole h) (text_of_key style scope other sorting b layout n v alone whole k)
    ∙ texts_order (a.dates v) (b.dates v) d e
