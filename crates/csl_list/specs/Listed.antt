-- The works of a list (CSL 1.0.2, Bibliography): all works of the document, or those that a cite is
-- of, also a hidden one. A cite names its work by the index among the works of the document. A
-- document is refused at its first cite of a work that is not there.
use Rattle.std.specs.Prelude.{ℕ, ◌<◌, ◌≤◌, ◌==◌, ⊤, Bool, true, List, length, map, Option, Some, None, filter}
use Rattle.std.specs.List.{All, AllWithin, HoldsAt, flat_map, list_any, range_with_len}
use Rattle.csl_list.specs.declared.error.ListError.{ListError}
use Rattle.csl_list.specs.declared.error.ListError.TheVariants.{Memory, Limit, NoSuchWork, TooManyWorks}
use Rattle.csl_list.specs.declared.listed.ListedWorks.{ListedWorks}
use Rattle.csl_list.specs.declared.listed.ListedWorks.TheVariants as listing
use Rattle.csl_list.specs.declared.request.CitationItem.{CitationItem}
use Rattle.csl_list.specs.declared.request.CitationRequest.{CitationRequest}

-- the works of the cites of a citation, and of all citations, in the order of the cites
abbrev pub works_of : List CitationItem → List ℕ
works_of items = map (λ item. item.work) items

abbrev pub cited_works : List CitationRequest → List ℕ
cited_works requests = flat_map (λ request. works_of request.items.items) requests

-- whether a work is among those that are cited
abbrev pub is_cited : List ℕ → ℕ → Bool
is_cited cited work = list_any (λ w. w == work) cited

abbrev pub is_listed : ListedWorks → Bool → Bool
is_listed listing.All cited = true
is_listed listing.Cited cited = cited

-- the works that are listed, in the order of the document's works, of which there are so many
abbrev pub listed_works : ListedWorks → List ℕ → ℕ → List ℕ
listed_works listed cited works = filter (λ work. is_listed listed (is_cited cited work)) (range_with_len 0 works)

-- each cite of a citation is of a work that is there
abbrev pub AreWorksThere : ℕ → CitationRequest → Type 0
AreWorksThere works request = All (λ item. item.work < works) request.items.items

-- the first cite of a citation that is of a work that is not there
abbrev pub IsFirstUnknown : ℕ → List CitationItem → ℕ → Type 0
IsFirstUnknown works items place = (place < length items) × AllWithin (λ item. item.work < works) items 0 place × HoldsAt (λ item. works ≤ item.work) items place

abbrev pub IsUnknownPlace : ℕ → List CitationItem → Option ℕ → Type 0
IsUnknownPlace works items None = All (λ item. item.work < works) items
IsUnknownPlace works items (Some place) = IsFirstUnknown works items place

abbrev pub IsRefusal : ℕ → List CitationRequest → ListError → Type 0
IsRefusal works requests Memory = ⊤
IsRefusal works requests Limit = ⊤
IsRefusal works requests (NoSuchWork citation item) = (citation < length requests) × AllWithin (AreWorksThere works) requests 0 citation × HoldsAt (λ request. IsFirstUnknown works request.items.items item) requests citation
IsRefusal works requests TooManyWorks = ⊤
