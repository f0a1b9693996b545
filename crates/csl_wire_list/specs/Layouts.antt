-- What is read of the member `layout` of options (CSL 1.0.2, Layout; Affixes; Delimiter). A text that
-- is absent is empty.
use Rattle.std.specs.Prelude.{ℕ, List, [], Option, Some, None, option_map, unwrap_or, codes}
use Rattle.serde_json.specs.Data.{Data}
use Rattle.serde_json.specs.Find.{as_str}
use Rattle.csl_wire.specs.Reading.{member, read_member}

-- the text of a member, which may be absent
abbrev pub read_text : List ℕ → Data → Option (List ℕ)
read_text name d = option_map (λ o. unwrap_or o []) (read_member as_str name d)

abbrev pub read_text_in : List ℕ → Option Data → Option (List ℕ)
read_text_in name None = Some []
read_text_in name (Some layout) = read_text name layout

-- a text of the layout, which may be absent
abbrev pub read_layout_text : List ℕ → Data → Option (List ℕ)
read_layout_text name d = read_text_in name (member (codes "layout") d)
