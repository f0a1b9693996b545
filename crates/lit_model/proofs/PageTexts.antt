-- The text of pages, part by part.
use Rattle.std.proofs.Common.{◌≡◌, ℕ, ◌+◌, ◌<◌, List, [], ◌∷◌, ◌++◌, length, get_or, take, sym, ap, ◌∙◌}
use Rattle.std.proofs.lemmas.List.{take_more, append-nil, map_push}
use Rattle.std.proofs.lemmas.List.Concat.{flat_map-append}
use Rattle.lit_model.specs.declared.page.PageRangesPart.{PageRangesPart}
use Rattle.lit_model.specs.Page.{part_view, parts_view}
use Rattle.lit_model.specs.PageWrite.{part_text, pages_text}

-- one more part adds its text
pub pages_text-more : (xs : List PageRangesPart) (i : ℕ) (x : PageRangesPart) → i < length xs → x ≡ get_or xs i x
    → pages_text (parts_view (take i xs)) ++ part_text (part_view x) ≡ pages_text (parts_view (take (i + 1) xs))
pages_text-more xs i x lt is =
    let so_far = parts_view (take i xs) in
    sym (ap (λ (ys : List PageRangesPart). pages_text (parts_view ys)) (take_more xs i x lt ∙ ap (λ (y : PageRangesPart). take i xs ++ y ∷ []) (sym is))
    ∙ ap pages_text (map_push part_view (take i xs) x)
    ∙ flat_map-append part_text so_far (part_view x ∷ [])
    ∙ ap (λ (t : List ℕ). pages_text so_far ++ t) (append-nil (part_text (part_view x))))
