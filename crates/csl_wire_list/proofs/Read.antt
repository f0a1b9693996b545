-- What was read, by the facts of its members.
use Rattle.std.proofs.Common.{◌≡◌, sym, ap, subst, ◌∙◌, ℕ, Bool, true, List, [], Some, map, option_map, unwrap_or, slice_get, codes}
use Rattle.std.specs.List.{AllZip, flat_map}
use Rattle.serde_json.specs.Data.{Data}
use Rattle.serde_json.specs.Find.{as_str}
use Rattle.csl_entry.specs.Numbers.{note_number}
use Rattle.csl_style.specs.Style.{StyleParts}
use Rattle.csl_list.specs.ListStyle.{bibliography_of, citation_of, english_of, style_of}
use Rattle.csl_list.specs.declared.list_style.ListStyle.{ListStyle}
use Rattle.csl_list.specs.declared.options.CitationOptions.{CitationOptions}
use Rattle.csl_list.specs.declared.options.SortKey.{SortKey}
use Rattle.csl_list.specs.declared.request.CitationRequest.{CitationRequest}
use Rattle.csl_wire.specs.Reading.{member, read_list, read_member, read_number}
use Rattle.csl_wire.specs.Styles.{IsStyle}
use Rattle.csl_wire.proofs.Members.{one_read}
use Rattle.csl_wire_list.specs.CitationOptions.{read_class, AreCitationOptions, AreCitationOptionsIf}
use Rattle.csl_wire_list.specs.Citations.{names_in, IsCitation}
use Rattle.csl_wire_list.specs.Documents.{word_in, IsDocument}
use Rattle.csl_wire_list.specs.Items.{name_in, IsItem, IsOfWork}
use Rattle.csl_wire_list.specs.Keys.{AreKeys, IsKey}
use Rattle.csl_wire_list.specs.ListStyles.{read_english, AreOwnOptions, IsListStyle, IsStyleIn}
use Rattle.csl_wire_list.specs.Works.{with_name, with_names}
use Rattle.csl_wire_list.proofs.Longer.{kept_by_listed}

pub keys_read : (d : Data) (items : List Data) (keys : List SortKey) → read_list (codes "sort") d ≡ Some items → AllZip IsKey items keys → AreKeys d keys
keys_read d items keys are each = record { items = items; are = are; keys_ = each }

pub style_read : (d own : Data) (s : StyleParts) → Some own ≡ member (codes "style") d → IsStyle true own s.settings s.macros s.citation s.bibliography → IsStyleIn d s
style_read d own s is style = record { own = own; is = sym is; style_ = style }

pub citation_options_read : (d value : Data) (o : CitationOptions) → Some value ≡ member (codes "citation") d → AreCitationOptions value o → AreCitationOptionsIf (member (codes "citation") d) o
citation_options_read d value o is h = subst (λ m. AreCitationOptionsIf m o) is h

-- a style with its options, for which works are set to be English or not
pub english_set : (d : Data) (made list : ListStyle) (english : Bool) → IsStyleIn d (style_of made)
    → AreCitationOptionsIf (member (codes "citation") d) (citation_of made)
    → read_class d ≡ Some (citation_of made).begins_with_capital → AreOwnOptions d (bibliography_of made)
    → read_english d ≡ Some english → english_of list ≡ english → style_of list ≡ style_of made
    → citation_of list ≡ citation_of made → bibliography_of list ≡ bibliography_of made → IsListStyle d list
english_set d made list english style citation kind bibliography read is same_style same_citation same_bibliography = record {
  style_ = subst (IsStyleIn d) (sym same_style) style;
  citation_ = subst (AreCitationOptionsIf (member (codes "citation") d)) (sym same_citation) citation;
  class_ = kind ∙ ap (λ o. Some o.begins_with_capital) (sym same_citation);
  bibliography_ = subst (AreOwnOptions d) (sym same_bibliography) bibliography;
  english_ = read ∙ ap Some (sym is);
}

-- ---- the work of a cite

pub of_work_read : (names : List (List ℕ)) (d : Data) (name : List ℕ) (index : ℕ) → read_member as_str (codes "work") d ≡ Some (Some name) → slice_get names index ≡ Some name → IsOfWork names d index
of_work_read names d name index is at = record { name = name; is = one_read as_str (codes "work") d name is; at = at }

pub name_read : (names more : List (List ℕ)) (d : Data) (name : List ℕ) → read_member as_str (codes "work") d ≡ Some (Some name) → more ≡ with_name names name → more ≡ with_name names (name_in d)
name_read names more d name is e = e ∙ ap (with_name names) (sym (ap (λ o. unwrap_or o []) (one_read as_str (codes "work") d name is)))

pub word_read : (names more : List (List ℕ)) (d : Data) (name : List ℕ) → as_str d ≡ Some name → more ≡ with_name names name → more ≡ with_name names (word_in d)
word_read names more d name is e = e ∙ ap (with_name names) (sym (ap (λ o. unwrap_or o []) is))

-- ---- citations

pub citation_read : (names : List (List ℕ)) (d : Data) (values : List Data) (request : CitationRequest) → read_list (codes "items") d ≡ Some values → AllZip (IsItem names) values request.items.items → read_member read_number (codes "note-number") d ≡ Some (option_map note_number request.note_number) → IsCitation names d request
citation_read names d values request are items note = record { values = values; are = are; items_ = items; note = note }

pub names_read : (start names : List (List ℕ)) (d : Data) (values : List Data) → read_list (codes "items") d ≡ Some values → names ≡ with_names start (map name_in values) → names ≡ with_names start (names_in d)
names_read start names d values are e = e ∙ ap (λ o. with_names start (map name_in (unwrap_or o []))) (sym are)

-- ---- documents

pub document_read : (d : Data) (cited listed : List Data) (before names : List (List ℕ)) (requests : List CitationRequest) → read_list (codes "citations") d ≡ Some cited → read_list (codes "works") d ≡ Some listed → before ≡ with_names [] (flat_map names_in cited) → AllZip (IsCitation before) cited requests → names ≡ with_names before (map word_in listed) → IsDocument d names requests
document_read d cited listed before names requests are_cited are_listed e each f = record {
  cited = cited;
  are_cited = are_cited;
  citations_ = rw f (kept_by_listed before (map word_in listed) cited requests each);
  listed = listed;
  are_listed = are_listed;
  names_ = f ∙ ap (λ ns. with_names ns (map word_in listed)) e;
}
