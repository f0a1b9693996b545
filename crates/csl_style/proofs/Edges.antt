-- Edges of a graph, and the rows that hold them.
use Rattle.std.proofs.Common.{◌≡◌, ℕ, zero, suc, ◌<◌, List, [], ◌∷◌, length, slice_index, get_or, Bool, true, sym, ap, ◌∙◌, subst, arith, Vec, Global, All, Contains}
use Rattle.std.proofs.lemmas.List.Elements.{All-head, All-tail, All-contains, Contains-get_or}
use Rattle.std.proofs.lemmas.Grind.{get_or_default_zero}
use Rattle.csl_style.specs.Cycles.{Graph, InRange, row_at, HasEdge, Reaches, along_edge, along_edges, is_marked}
use Rattle.csl_style.proofs.Marks.{FirstMarked}

edge-nowhere : (b : ℕ) → Contains [] b → ⊥
edge-nowhere b (k, less, e) = omega arith

pub edge-within : (g : Graph) (n a b : ℕ) → InRange g n → HasEdge g a b → b < n
edge-within [] n a b r h = absurd (edge-nowhere b h)
edge-within (row ∷ g) n zero b r h =
    All-contains (λ to. to < n) row.items b (All-head (λ row. All (λ to. to < n) row.items) row g r) h
edge-within (row ∷ g) n (suc a) b r h =
    edge-within g n a b (All-tail (λ row. All (λ to. to < n) row.items) row g r) h

pub edge-from : (g : Graph) (a b : ℕ) → HasEdge g a b → a < length g
edge-from [] a b h = absurd (edge-nowhere b h)
edge-from (row ∷ g) zero b h = omega arith
edge-from (row ∷ g) (suc a) b h = let less = edge-from g a b h in omega arith

pub row-read : (g : Graph) (a : ℕ) (row : Vec ℕ Global) → a < length g → row ≡ get_or g a row → row_at g a ≡ row.items
row-read [] a row less is = absurd (omega arith)
row-read (x ∷ g) zero row less is = ap (λ (v : Vec ℕ Global). v.items) (sym is)
row-read (x ∷ g) (suc a) row less is = row-read g a row (omega arith) is

pub edge-read : (g : Graph) (a : ℕ) (tos : List ℕ) (k : ℕ) → row_at g a ≡ tos → k < length tos → HasEdge g a (slice_index tos k)
edge-read g a tos k e within = rw e (Contains-get_or tos k 0 within)

pub row-marked : (seen : List Bool) (row : List ℕ) (q : ℕ) → FirstMarked seen row (length row) → Contains row q → is_marked seen q ≡ true
row-marked seen row q h (k, less, is) =
    let e : slice_index row k ≡ q = sym (get_or_default_zero row k q less) ∙ is in
    subst (λ to. is_marked seen to ≡ true) e (h k less)

pub reaches-on : {g : Graph} {a b c : ℕ} → Reaches g a b → HasEdge g b c → Reaches g a c
reaches-on (along_edge h) e = along_edges h (along_edge e)
reaches-on (along_edges h l) e = along_edges h (reaches-on l e)
