-- Which cites JSON objects are read as (CSL 1.0.2, Citation; Locators). The texts around a cite have
-- no formatting.
use Rattle.std.specs.Prelude.{◌≡◌, ℕ, List, [], Option, Some, map, option_map, unwrap_or, slice_get, codes}
use Rattle.serde_json.specs.Data.{Data}
use Rattle.serde_json.specs.Find.{as_str}
use Rattle.csl_entry.specs.Cite.{locator_view}
use Rattle.csl_list.specs.Pieces.{text_of}
use Rattle.csl_list.specs.declared.request.CitationItem.{CitationItem}
use Rattle.csl_tree.specs.Formatting.{default_formatting}
use Rattle.csl_tree.specs.Tokens.{Token, tokens}
use Rattle.csl_wire.specs.Reading.{lent, pair_by, member, read_choice, read_flag, read_member, read_one}
use Rattle.csl_wire_cite.specs.Cites.{IsLocatorIf}
use Rattle.csl_wire_list.specs.declared.choices.TheConstants as tables

-- the name that a cite gives
abbrev pub name_in : Data → List ℕ
name_in d = unwrap_or (read_one as_str (codes "work") d) []

-- the work at this index has the name that the cite gives
pub record IsOfWork (names : List (List ℕ)) (d : Data) (index : ℕ) : Type 0 where
  pub name : List ℕ
  pub is : read_one as_str (codes "work") d ≡ Some name
  pub at : slice_get names index ≡ Some name

abbrev plain_tokens : List ℕ → List Token
plain_tokens text = text_of text default_formatting

abbrev pub read_affix : List ℕ → Data → Option (Option (List Token))
read_affix name d = option_map (option_map plain_tokens) (read_member as_str name d)

pub record IsItem (names : List (List ℕ)) (d : Data) (item : CitationItem) : Type 0 where
  pub work_ : IsOfWork names d item.work
  pub locator_ : IsLocatorIf (member (codes "locator") d) (option_map locator_view item.locator)
  pub purpose_ : read_member (read_choice (map (pair_by lent) tables.PURPOSES)) (codes "purpose") d ≡ Some item.purpose
  pub hidden_ : read_flag (codes "hidden") d ≡ Some item.hidden
  pub prefix_ : read_affix (codes "prefix") d ≡ Some (option_map tokens item.prefix)
  pub suffix_ : read_affix (codes "suffix") d ≡ Some (option_map tokens item.suffix)
