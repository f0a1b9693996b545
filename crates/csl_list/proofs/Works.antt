-- The works that cites are of, and those that a list has.
use Rattle.std.proofs.Common.{◌≡◌, ◌<◌, ◌+◌, ℕ, Bool, cond, List, [], ◌∷◌, ◌++◌, Option, None, is_some, get_or, filter, length, sym, ap, subst, ◌∙◌}
use Rattle.std.specs.List.{All, range_with_len}
use Rattle.std.specs.List.Sorted.{IsPermutation}
use Rattle.std.proofs.lemmas.List.Elements.{All-nil, All-head, All-tail, All-append, All-map, All-filter, filter_agree, filter-append}
use Rattle.std.proofs.lemmas.List.Sorted.{All-permutation, IsPermutation-trans}
use Rattle.csl_list.specs.Listed.{works_of, cited_works, is_cited, is_listed, listed_works, AreWorksThere}
use Rattle.csl_list.specs.declared.listed.ListedWorks.{ListedWorks}
use Rattle.csl_list.specs.declared.request.CitationRequest.{CitationRequest}
use Rattle.csl_list.proofs.Counts.{range_more}
use Rattle.csl_list.proofs.Orders.{range_below}

-- the cites are of works that are there
works_there : (works : ℕ) (requests : List CitationRequest) → All (AreWorksThere works) requests → All (λ work. work < works) (cited_works requests)
works_there works [] a = All-nil (λ work. work < works)
works_there works (request ∷ requests) a =
    All-append (λ work. work < works) (works_of request.items.items) (cited_works requests)
    (All-map (λ work. work < works) (λ item. item.work) request.items.items (All-head (AreWorksThere works) request requests a))
    (works_there works requests (All-tail (AreWorksThere works) request requests a))

abbrev has_cite : List (Option ℕ) → ℕ → Bool
has_cite firsts work = is_some (get_or firsts work None)

-- the works that have a first cite, or all, are those that are listed
listed_are : (listed : ListedWorks) (firsts : List (Option ℕ)) (cited : List ℕ) (works : ℕ) → length firsts ≡ works → ((work : ℕ) → has_cite firsts work ≡ is_cited cited work)
    → filter (λ work. is_listed listed (is_some (get_or firsts work None))) (range_with_len 0 (length firsts)) ≡ listed_works listed cited works
listed_are listed firsts cited works e h =
    filter_agree (λ work. is_listed listed (has_cite firsts work)) (λ work. is_listed listed (is_cited cited work)) (λ work. ap (is_listed listed) (h work)) (range_with_len 0 (length firsts))
    ∙ ap (λ n. filter (λ work. is_listed listed (is_cited cited work)) (range_with_len 0 n)) e

listed_within : (listed : ListedWorks) (cited : List ℕ) (works : ℕ) → All (λ work. work < works) (listed_works listed cited works)
listed_within listed cited works = All-filter (λ work. is_listed listed (is_cited cited work)) (λ work. work < works) (range_with_len 0 works) (range_below works)

pub within_list : (listed : ListedWorks) (cited : List ℕ) (works : ℕ) (order : List ℕ) → IsPermutation (listed_works listed cited works) order → All (λ work. work < works) order
within_list listed cited works order h = All-permutation (λ work. work < works) (listed_works listed cited works) order h (listed_within listed cited works)

pub permuted_again : (works order again : List ℕ) → IsPermutation works order → IsPermutation order again → IsPermutation works again
permuted_again works order again h i = IsPermutation-trans works order again h i

pub within_again : (listed : ListedWorks) (cited : List ℕ) (works : ℕ) (order again : List ℕ) → IsPermutation (listed_works listed cited works) order → IsPermutation order again → All (λ work. work < works) again
within_again listed cited works order again h i = within_list listed cited works again (permuted_again (listed_works listed cited works) order again h i)

pub cited_there : (works : ℕ) (requests : List CitationRequest) (cited : List ℕ) → cited ≡ cited_works requests → All (AreWorksThere works) requests → All (λ work. work < works) cited
cited_there works requests cited e a = subst (λ ws. All (λ work. work < works) ws) (sym e) (works_there works requests a)

pub listed_permuted : (listed : ListedWorks) (requests : List CitationRequest) (works : ℕ) (cited : List ℕ) (firsts : List (Option ℕ)) (found order : List ℕ) → cited ≡ cited_works requests → length firsts ≡ works → ((work : ℕ) → is_some (get_or firsts work None) ≡ is_cited cited work)
    → found ≡ filter (λ work. is_listed listed (is_some (get_or firsts work None))) (range_with_len 0 (length firsts)) → IsPermutation found order → IsPermutation (listed_works listed (cited_works requests) works) order
listed_permuted listed requests works cited firsts found order e f h g p =
    subst (λ (ws : List ℕ). IsPermutation ws order) (g ∙ listed_are listed firsts cited works f h ∙ ap (λ ws. listed_works listed ws works) e) p

-- the works that are listed up to a work, and that work if it is
pub listed_more : (p : ℕ → Bool) (work : ℕ) → filter p (range_with_len 0 (work + 1)) ≡ filter p (range_with_len 0 work) ++ cond (p work) (work ∷ []) []
listed_more p work = ap (filter p) (range_more work) ∙ filter-append p (range_with_len 0 work) (work ∷ [])
