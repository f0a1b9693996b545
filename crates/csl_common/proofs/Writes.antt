-- Consecutive writes, and writes through a borrow.
use Rattle.std.proofs.Common.{◌≡◌, ℕ, List, [], ◌∷◌, ◌++◌, sym, ap, subst, ◌∙◌, MutBor}
use Rattle.std.specs.Fmt.{WritesInCalls, HasWritten, HasWrittenStyled, IsFlush, IsPlainFormatter, IsDefaultSpec}
use Rattle.std.specs.List.{FoldsTo, concat}
use Rattle.std.specs.Prelude.{Result, Ok, Err, OnOk, IsOk}
use Rattle.std.specs.declared.fmt.Formatter.{Formatter}
use Rattle.std.proofs.Output.{writes_in_calls_single, writes_in_calls_append, has_written_styled_nil, has_written_styled_append}

module _ {W : Type 0} (took : W → List ℕ → W → Type 0) where
  -- a write of equal bytes
  pub writes_of_eq : (w : W) (a b : List ℕ) (v : W) → a ≡ b → WritesInCalls took w a v → WritesInCalls took w b v
  writes_of_eq w a b v e = subst (λ (bytes : List ℕ). WritesInCalls took w bytes v) e

  -- two writes in a row are one write
  pub two_writes : (w v u : W) (a b all : List ℕ) → WritesInCalls took w a v → WritesInCalls took v b u → a ++ b ≡ all → WritesInCalls took w all u
  two_writes w v u a b all p q e = writes_of_eq w (a ++ b) all u e (writes_in_calls_append took w a v b u p q)

  pub three_writes : (w v u t : W) (a b c all : List ℕ) → WritesInCalls took w a v → WritesInCalls took v b u → WritesInCalls took u c t → a ++ (b ++ c) ≡ all → WritesInCalls took w all t
  three_writes w v u t a b c all p q r e = two_writes w v t a (b ++ c) all p (writes_in_calls_append took v b u c t q r) e

  pub four_writes : (w v u t s : W) (a b c d all : List ℕ) → WritesInCalls took w a v → WritesInCalls took v b u → WritesInCalls took u c t → WritesInCalls took t d s → a ++ (b ++ (c ++ d)) ≡ all → WritesInCalls took w all s
  four_writes w v u t s a b c d all p q r x e = three_writes w v u s a b (c ++ d) all p q (writes_in_calls_append took u c t d s r x) e

  pub five_writes : (w v u t s r : W) (a b c d f all : List ℕ) → WritesInCalls took w a v → WritesInCalls took v b u → WritesInCalls took u c t → WritesInCalls took t d s → WritesInCalls took s f r → a ++ (b ++ (c ++ (d ++ f))) ≡ all → WritesInCalls took w all r
  five_writes w v u t s r a b c d f all p q x y z e = four_writes w v u t r a b c (d ++ f) all p q x (writes_in_calls_append took t d s f r y z) e

  -- a call that succeeds is a write
  pub one_write : {T E : Type 0} (r : Result T E) (w : W) (bs : List ℕ) (v : W) → OnOk r (took w bs v) → OnOk r (WritesInCalls took w bs v)
  one_write (Ok x) w bs v t = writes_in_calls_single took w bs v t
  one_write (Err e) w bs v t = t

  -- a writer that passes its texts on to the one that it borrows
  module _ {S : Type 0} (inner : S → MutBor W) where
    abbrev pub PassedOn : S → List ℕ → S → Type 0
    PassedOn s bs t = ((inner t).ghost_name ≡ (inner s).ghost_name) × took (inner s).now bs (inner t).now

    passed_on_calls : (s : S) (texts : List (List ℕ)) (t : S) → FoldsTo PassedOn s texts t → ((inner t).ghost_name ≡ (inner s).ghost_name) × FoldsTo took (inner s).now texts (inner t).now
    passed_on_calls s [] t p = (ap (λ (x : S). (inner x).ghost_name) (sym p), ap (λ (x : S). (inner x).now) p)
    passed_on_calls s (x ∷ texts) t p = let rest = passed_on_calls p.0 texts t p.2 in (rest.0 ∙ p.1.0, (((inner p.0).now, p.1.1, rest.1)))

    -- The borrowed writer took the texts that this writer took. It is v after the end of the loan.
    pub passed_back : (s t : S) (lent back : MutBor W) (v : W) (bs : List ℕ) → inner s ≡ lent → back ≡ inner t → (back.ghost_name ≡ lent.ghost_name → v ≡ back.now) → WritesInCalls PassedOn s bs t → WritesInCalls took lent.now bs v
    passed_back s t lent back v bs from to ends p =
        let all = passed_on_calls s p.parts t p.calls in
        let same : back.ghost_name ≡ lent.ghost_name = ap (λ (m : MutBor W). m.ghost_name) to ∙ all.0 ∙ ap (λ (m : MutBor W). m.ghost_name) from in
        let last : (inner t).now ≡ v = ap (λ (m : MutBor W). m.now) (sym to) ∙ sym (ends same) in
        subst (λ (w : W). WritesInCalls took w bs v) (ap (λ (m : MutBor W). m.now) from)
        (subst (WritesInCalls took (inner s).now bs) last (record { parts = p.parts; calls = all.1; whole = p.whole }))

    -- on success of a call, the borrowed writer took the texts that this writer took
    pub passed_on : {T E : Type 0} (r : Result T E) (s t : S) (lent back : MutBor W) (v : W) (bs : List ℕ) → inner s ≡ lent → back ≡ inner t → (back.ghost_name ≡ lent.ghost_name → v ≡ back.now) → OnOk r (WritesInCalls PassedOn s bs t) → OnOk r (WritesInCalls took lent.now bs v)
    passed_on (Err e) s t lent back v bs from to ends p = p
    passed_on (Ok x) s t lent back v bs from to ends p = passed_back s t lent back v bs from to ends p

  -- a styled write leaves a plain formatter plain
  pub plain_written : (f : Formatter W) (bs : List ℕ) (g : Formatter W) → HasWrittenStyled took f bs g → IsPlainFormatter f → HasWritten took f bs g
  plain_written f bs g h plain = record { wrote = h.wrote; plain = record { bare = subst IsDefaultSpec (sym h.spec) plain.bare; flush = h.flush } }

  -- a writer that passes its texts on to the formatter that it borrows
  module _ {S : Type 0} (inner : S → MutBor (Formatter W)) where
    abbrev pub Displayed : S → List ℕ → S → Type 0
    Displayed s bs t = ((inner t).ghost_name ≡ (inner s).ghost_name) × (IsFlush (inner s).now → HasWrittenStyled took (inner s).now bs (inner t).now)

    displayed_calls : (s : S) (texts : List (List ℕ)) (t : S) → FoldsTo Displayed s texts t → Displayed s (concat texts) t
    displayed_calls s [] t p = (ap (λ (x : S). (inner x).ghost_name) (sym p), λ flush. subst (λ (x : S). HasWrittenStyled took (inner s).now [] (inner x).now) p (has_written_styled_nil took (inner s).now flush))
    displayed_calls s (x ∷ texts) t p =
        let rest = displayed_calls p.0 texts t p.2 in
        (rest.0 ∙ p.1.0, λ flush. let first = p.1.1 flush in has_written_styled_append took (inner s).now x (inner p.0).now (concat texts) (inner t).now first (rest.1 first.flush))

    -- On success, the formatter wrote the texts that this writer took. It is g after the end of the
    -- loan.
    pub displayed : {T E : Type 0} (r : Result T E) (s t : S) (lent back : MutBor (Formatter W)) (g : Formatter W) (bs : List ℕ) → inner s ≡ lent → back ≡ inner t → (back.ghost_name ≡ lent.ghost_name → g ≡ back.now) → OnOk r (WritesInCalls Displayed s bs t) → IsFlush lent.now → IsOk r → HasWrittenStyled took lent.now bs g
    displayed (Err e) s t lent back g bs from to ends p flush ok = cc
    displayed (Ok x) s t lent back g bs from to ends p flush ok =
        let all = subst (λ (bytes : List ℕ). Displayed s bytes t) p.whole (displayed_calls s p.parts t p.calls) in
        let same : back.ghost_name ≡ lent.ghost_name = ap (λ (m : MutBor (Formatter W)). m.ghost_name) to ∙ all.0 ∙ ap (λ (m : MutBor (Formatter W)). m.ghost_name) from in
        let last : (inner t).now ≡ g = ap (λ (m : MutBor (Formatter W)). m.now) (sym to) ∙ sym (ends same) in
        let first : (inner s).now ≡ lent.now = ap (λ (m : MutBor (Formatter W)). m.now) from in
        subst (λ (f : Formatter W). HasWrittenStyled took f bs g) first
        (subst (HasWrittenStyled took (inner s).now bs) last (all.1 (subst IsFlush (sym first) flush)))

-- a fact that always holds, together with one that holds on success
pub on_ok_both : {T E A : Type 0} (B : Type 0) (r : Result T E) → A → OnOk r B → OnOk r (A × B)
on_ok_both B (Ok x) a b = (a, b)
on_ok_both B (Err e) a b = b

-- if a writer is unchanged, so is the writer that it borrows
pub kept_back : {W S : Type 0} (inner : S → MutBor W) (s t : S) (lent back : MutBor W) (v : W) → inner s ≡ lent → back ≡ inner t → (back.ghost_name ≡ lent.ghost_name → v ≡ back.now) → t ≡ s → v ≡ lent.now
kept_back {W} inner s t lent back v from to ends same =
    let whole : back ≡ lent = to ∙ ap inner same ∙ from in
    ends (ap (λ (m : MutBor W). m.ghost_name) whole) ∙ ap (λ (m : MutBor W). m.now) whole
