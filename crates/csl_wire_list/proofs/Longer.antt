-- Cites and citations that were read stay so when further works are named.
use Rattle.std.proofs.Common.{◌≡◌, refl, sym, ap, subst, ◌∙◌, ℕ, ◌+◌, ◌<◌, Bool, true, false, if◌then◌else◌, List, [], ◌∷◌, ◌++◌, length, get_or, take, map, Some, slice_get, bytes_eq}
use Rattle.std.proofs.lemmas.List.{map-append, map_more, append_assoc}
use Rattle.std.proofs.lemmas.List.Sums.{fold-append}
use Rattle.std.proofs.lemmas.Grind.{flat_map-append}
use Rattle.std.proofs.lemmas.Slice.Zip.{all_zipped_more}
use Rattle.std.specs.List.{AllZip, flat_map, list_any}
use Rattle.serde_json.specs.Data.{Data}
use Rattle.serde_json.specs.View.{view}
use Rattle.serde_json.specs.declared.value.Value.{Value}
use Rattle.csl_list.specs.declared.request.CitationItem.{CitationItem}
use Rattle.csl_list.specs.declared.request.CitationRequest.{CitationRequest}
use Rattle.csl_wire_list.specs.Citations.{names_in, IsCitation}
use Rattle.csl_wire_list.specs.Documents.{word_in}
use Rattle.csl_wire_list.specs.Items.{name_in, IsItem, IsOfWork}
use Rattle.csl_wire_list.specs.Works.{with_name, with_names}
use Rattle.csl_wire_list.proofs.Names.{still_there}

-- ---- further names come last

record IsLonger (names more : List (List ℕ)) : Type 0 where
  rest : List (List ℕ)
  is : more ≡ names ++ rest

append_nil : (names : List (List ℕ)) → names ≡ names ++ []
append_nil [] = refl
append_nil (n ∷ names) = ap (λ ns. n ∷ ns) (append_nil names)

longer_by : (names : List (List ℕ)) (name : List ℕ) (b : Bool) → IsLonger names (if b then names else names ++ name ∷ [])
longer_by names name true = record { rest = []; is = append_nil names }
longer_by names name false = record { rest = name ∷ []; is = refl }

longer_with : (names : List (List ℕ)) (name : List ℕ) → IsLonger names (with_name names name)
longer_with names name = longer_by names name (list_any (bytes_eq name) names)

longer_twice : (a b c : List (List ℕ)) → IsLonger a b → IsLonger b c → IsLonger a c
longer_twice a b c h k = record { rest = h.rest ++ k.rest; is = k.is ∙ ap (λ ns. ns ++ k.rest) h.is ∙ append_assoc a h.rest k.rest }

longer_with_all : (names others : List (List ℕ)) → IsLonger names (with_names names others)
longer_with_all names [] = record { rest = []; is = append_nil names }
longer_with_all names (o ∷ others) = longer_twice names (with_name names o) (with_names (with_name names o) others) (longer_with names o) (longer_with_all (with_name names o) others)

-- ---- what was read stays so

of_work_kept : (names more : List (List ℕ)) → IsLonger names more → (d : Data) (index : ℕ) → IsOfWork names d index → IsOfWork more d index
of_work_kept names more longer d index h = record {
  name = h.name;
  is = h.is;
  at = subst (λ ns. slice_get ns index ≡ Some h.name) (sym longer.is) (still_there names longer.rest index h.name h.at);
}

item_kept : (names more : List (List ℕ)) → IsLonger names more → (d : Data) (item : CitationItem) → IsItem names d item → IsItem more d item
item_kept names more longer d item h = record {
  work_ = of_work_kept names more longer d item.work h.work_;
  locator_ = h.locator_;
  purpose_ = h.purpose_;
  hidden_ = h.hidden_;
  prefix_ = h.prefix_;
  suffix_ = h.suffix_;
}

items_kept : (names more : List (List ℕ)) → IsLonger names more → (ds : List Data) (items : List CitationItem) → AllZip (IsItem names) ds items → AllZip (IsItem more) ds items
items_kept names more longer [] [] h = h
items_kept names more longer [] (i ∷ items) h = h
items_kept names more longer (d ∷ ds) [] h = h
items_kept names more longer (d ∷ ds) (i ∷ items) h = (item_kept names more longer d i h.0, items_kept names more longer ds items h.1)

citation_kept : (names more : List (List ℕ)) → IsLonger names more → (d : Data) (request : CitationRequest) → IsCitation names d request → IsCitation more d request
citation_kept names more longer d request h = record {
  values = h.values;
  are = h.are;
  items_ = items_kept names more longer h.values request.items.items h.items_;
  note = h.note;
}

citations_kept : (names more : List (List ℕ)) → IsLonger names more → (ds : List Data) (requests : List CitationRequest) → AllZip (IsCitation names) ds requests → AllZip (IsCitation more) ds requests
citations_kept names more longer [] [] h = h
citations_kept names more longer [] (r ∷ requests) h = h
citations_kept names more longer (d ∷ ds) [] h = h
citations_kept names more longer (d ∷ ds) (r ∷ requests) h = (citation_kept names more longer d r h.0, citations_kept names more longer ds requests h.1)

-- further works that are listed
pub kept_by_listed : (names listed : List (List ℕ)) (ds : List Data) (requests : List CitationRequest) → AllZip (IsCitation names) ds requests → AllZip (IsCitation (with_names names listed)) ds requests
kept_by_listed names listed ds requests h = citations_kept names (with_names names listed) (longer_with_all names listed) ds requests h

-- ---- one more value

view_more : (vs : List Value) (i : ℕ) (v : Value) → i < length vs → v ≡ get_or vs i v → map view (take (i + 1) vs) ≡ map view (take i vs) ++ view v ∷ []
view_more vs i v h is = map_more view vs i v h ∙ ap (λ u. map view (take i vs) ++ view u ∷ []) (sym is)

-- the names with one more, by a name in each value
with_names_more : (name_of : Data → List ℕ) (start : List (List ℕ)) (vs : List Value) (i : ℕ) (v : Value) → i < length vs → v ≡ get_or vs i v → with_names start (map name_of (map view (take (i + 1) vs))) ≡ with_name (with_names start (map name_of (map view (take i vs)))) (name_of (view v))
with_names_more name_of start vs i v h is =
    ap (λ ds. with_names start (map name_of ds)) (view_more vs i v h is)
    ∙ ap (with_names start) (map-append name_of (map view (take i vs)) (view v ∷ []))
    ∙ fold-append with_name start (map name_of (map view (take i vs))) (name_of (view v) ∷ [])

pub one_name_more : (start : List (List ℕ)) (vs : List Value) (i : ℕ) (v : Value) (names more : List (List ℕ)) → i < length vs → v ≡ get_or vs i v → names ≡ with_names start (map name_in (map view (take i vs))) → more ≡ with_name names (name_in (view v)) → more ≡ with_names start (map name_in (map view (take (i + 1) vs)))
one_name_more start vs i v names more h is e f = f ∙ ap (λ ns. with_name ns (name_in (view v))) e ∙ sym (with_names_more name_in start vs i v h is)

pub one_word_more : (start : List (List ℕ)) (vs : List Value) (i : ℕ) (v : Value) (names more : List (List ℕ)) → i < length vs → v ≡ get_or vs i v → names ≡ with_names start (map word_in (map view (take i vs))) → more ≡ with_name names (word_in (view v)) → more ≡ with_names start (map word_in (map view (take (i + 1) vs)))
one_word_more start vs i v names more h is e f = f ∙ ap (λ ns. with_name ns (word_in (view v))) e ∙ sym (with_names_more word_in start vs i v h is)

-- the names with those of one more citation
pub names_more : (start : List (List ℕ)) (vs : List Value) (i : ℕ) (v : Value) (names more : List (List ℕ)) → i < length vs → v ≡ get_or vs i v → names ≡ with_names start (flat_map names_in (map view (take i vs))) → more ≡ with_names names (names_in (view v)) → more ≡ with_names start (flat_map names_in (map view (take (i + 1) vs)))
names_more start vs i v names more h is e f =
    let before = map view (take i vs) in
    let last : flat_map names_in (view v ∷ []) ≡ names_in (view v) = sym (append_nil (names_in (view v))) in
    f ∙ ap (λ ns. with_names ns (names_in (view v))) e
    ∙ ap (with_names (with_names start (flat_map names_in before))) (sym last)
    ∙ sym (fold-append with_name start (flat_map names_in before) (flat_map names_in (view v ∷ [])))
    ∙ ap (with_names start) (sym (flat_map-append names_in before (view v ∷ [])))
    ∙ ap (λ ds. with_names start (flat_map names_in ds)) (sym (view_more vs i v h is))

-- one more cite, after those that were read
pub one_item_more : (vs : List Value) (i : ℕ) (v : Value) (names more : List (List ℕ)) (items : List CitationItem) (item : CitationItem) → i < length vs → v ≡ get_or vs i v → more ≡ with_name names (name_in (view v)) → AllZip (IsItem names) (map view (take i vs)) items → IsItem more (view v) item → AllZip (IsItem more) (map view (take (i + 1) vs)) (items ++ item ∷ [])
one_item_more vs i v names more items item h is e z r =
    let kept : AllZip (IsItem more) (map view (take i vs)) items = items_kept names more (subst (IsLonger names) (sym e) (longer_with names (name_in (view v)))) (map view (take i vs)) items z in
    rw (view_more vs i v h is) (all_zipped_more (IsItem more) (map view (take i vs)) items (view v) item kept r)

-- one more citation, after those that were read
pub one_citation_more : (vs : List Value) (i : ℕ) (v : Value) (names more : List (List ℕ)) (requests : List CitationRequest) (request : CitationRequest) → i < length vs → v ≡ get_or vs i v → more ≡ with_names names (names_in (view v)) → AllZip (IsCitation names) (map view (take i vs)) requests → IsCitation more (view v) request → AllZip (IsCitation more) (map view (take (i + 1) vs)) (requests ++ request ∷ [])
one_citation_more vs i v names more requests request h is e z r =
    let kept : AllZip (IsCitation more) (map view (take i vs)) requests = citations_kept names more (subst (IsLonger names) (sym e) (longer_with_all names (names_in (view v)))) (map view (take i vs)) requests z in
    rw (view_more vs i v h is) (all_zipped_more (IsCitation more) (map view (take i vs)) requests (view v) request kept r)
