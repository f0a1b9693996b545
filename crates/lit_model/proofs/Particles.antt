-- Lemmas on the particle of a name.
use Rattle.std.proofs.Common.{◌≡◌, ◌≢◌, ℕ, ◌-◌, ◌<◌, ◌≤◌, Bool, true, false, if◌then◌else◌, List, [], ◌∷◌, ◌++◌, length, get_or, take, Option, Some, None, eqb, refl, sym, ap, ◌∙◌, subst, arith, ⊎_elim, append_assoc}
use Rattle.std.specs.Option.{MatchOption}
use Rattle.std.specs.Prelude.{slice_range}
use Rattle.std.specs.List.{All, onto_first, join_with_byte}
use Rattle.std.proofs.lemmas.Bool.Decides.{eqb_tells}
use Rattle.std.proofs.lemmas.List.{length-append}
use Rattle.std.proofs.lemmas.List.Elements.{All-from_get_or}
use Rattle.std.proofs.lemmas.List.Splits.{slice_split_none, slice_split_at, join_with_byte-slice_split}
use Rattle.std.proofs.lemmas.Grind.{common_steps}
use Rattle.lit_model.specs.Name.{words, is_particle_word, particle_words, after_particle, join_words, name_particle, name_without_particle}

-- ---- words

eqb_apart : (a b : ℕ) → a ≢ b → eqb a b ≡ false
eqb_apart a b h = ⊎_elim (λ same. absurd (h same.1)) (λ other. other.0) (eqb_tells a b)

-- if a byte is not in a text, each byte of the text differs from it
pub lacks : (c : ℕ) (xs : List ℕ) → ((i : ℕ) → i < length xs → get_or xs i 0 ≢ c) → All (λ b. eqb b c ≡ false) xs
lacks c xs h = All-from_get_or (λ b. eqb b c ≡ false) xs 0 (λ i k. eqb_apart (get_or xs i 0) c (h i k))

-- a text without a space is one word
pub words_one : (text : List ℕ) → ((i : ℕ) → i < length text → get_or text i 0 ≢ 32) → words text ≡ text ∷ []
words_one text h = slice_split_none (λ b. eqb b 32) text (lacks 32 text h)

-- the first word ends at the first space
pub words_more : (text w after : List ℕ) → text ≡ w ++ (32 ∷ after) → ((i : ℕ) → i < length w → get_or w i 0 ≢ 32) → words text ≡ w ∷ words after
words_more text w after e h = ap words e ∙ slice_split_at (λ b. eqb b 32) w 32 after (lacks 32 w h) refl

abbrev HasFirst : List (List ℕ) → Type 0
HasFirst ws = (v : List ℕ) × (vs : List (List ℕ)) × (ws ≡ v ∷ vs)

onto_first_some : (x : ℕ) (ws : List (List ℕ)) → HasFirst (onto_first x ws)
onto_first_some x [] = (x ∷ [], [], refl)
onto_first_some x (w ∷ ws) = (x ∷ w, ws, refl)

cut_some_first : (b : Bool) (x : ℕ) (ws : List (List ℕ)) → HasFirst (if b then [] ∷ ws else onto_first x ws)
cut_some_first true x ws = ([], ws, refl)
cut_some_first false x ws = onto_first_some x ws

-- there is always a first word
words_some : (text : List ℕ) → HasFirst (words text)
words_some [] = ([], [], refl)
words_some (x ∷ xs) = cut_some_first (eqb x 32) x (words xs)

-- ---- the name after its particle

-- a name of one word is unchanged
pub left_one : (text : List ℕ) → words text ≡ text ∷ [] → name_without_particle text ≡ text
left_one text e = ap (λ ws. join_with_byte 32 (after_particle ws)) e

module _ (text w after : List ℕ) (split : words text ≡ w ∷ words after) where
  abbrev then_word : Bool → List ℕ → List (List ℕ) → List ℕ
  then_word b v vs = join_with_byte 32 (if b then after_particle (v ∷ vs) else w ∷ v ∷ vs)

  left : (v : List ℕ) (vs : List (List ℕ)) → words after ≡ v ∷ vs → (b : Bool) → is_particle_word w ≡ b → name_without_particle text ≡ then_word b v vs
  left v vs e b h = ap (λ ws. join_with_byte 32 (after_particle ws)) (split ∙ ap (λ ws. w ∷ ws) e) ∙ ap (λ c. then_word c v vs) h

  -- a particle word with more words after it is dropped
  pub left_step : is_particle_word w ≡ true → name_without_particle text ≡ name_without_particle after
  left_step h =
      let s = words_some after in
      left s.0 s.1 s.2 true h ∙ ap (λ ws. join_with_byte 32 (after_particle ws)) (sym s.2)

  -- a name that begins with any other word is unchanged
  pub left_stop : is_particle_word w ≡ false → name_without_particle text ≡ text
  left_stop h =
      let s = words_some after in
      left s.0 s.1 s.2 false h ∙ ap (join_with_byte 32) (sym (split ∙ ap (λ ws. w ∷ ws) s.2)) ∙ join_with_byte-slice_split 32 text

-- ---- the particle before the rest of the name

-- the text is the particle, a space and the rest, or only the rest if there is no particle
abbrev IsCut : Option (List ℕ) → List ℕ → List ℕ → Type 0
IsCut particle rest text = MatchOption particle (text ≡ rest) (λ p. text ≡ p ++ (32 ∷ rest))

cut_word : (w : List ℕ) (front : List (List ℕ)) (rest text : List ℕ) → IsCut (join_words front) rest text → IsCut (join_words (w ∷ front)) rest (w ++ (32 ∷ text))
cut_word w [] rest text h = ap (λ t. w ++ (32 ∷ t)) h
cut_word w (v ∷ vs) rest text h = ap (λ t. w ++ (32 ∷ t)) h ∙ sym (append_assoc w (32 ∷ join_with_byte 32 (v ∷ vs)) (32 ∷ rest))

abbrev front_if : Bool → List ℕ → List (List ℕ) → List (List ℕ)
front_if b w front = if b then w ∷ front else []

cut_if : (b : Bool) (w v : List ℕ) (vs : List (List ℕ)) → IsCut (join_words (particle_words (v ∷ vs))) (join_with_byte 32 (after_particle (v ∷ vs))) (join_with_byte 32 (v ∷ vs)) → IsCut (join_words (front_if b w (particle_words (v ∷ vs)))) (join_with_byte 32 (if b then after_particle (v ∷ vs) else w ∷ v ∷ vs)) (join_with_byte 32 (w ∷ v ∷ vs))
cut_if true w v vs h = cut_word w (particle_words (v ∷ vs)) (join_with_byte 32 (after_particle (v ∷ vs))) (join_with_byte 32 (v ∷ vs)) h
cut_if false w v vs h = refl

cut_words : (ws : List (List ℕ)) → IsCut (join_words (particle_words ws)) (join_with_byte 32 (after_particle ws)) (join_with_byte 32 ws)
cut_words [] = refl
cut_words (w ∷ []) = refl
cut_words (w ∷ v ∷ vs) = cut_if (is_particle_word w) w v vs (cut_words (v ∷ vs))

cut_name : (text : List ℕ) → IsCut (name_particle text) (name_without_particle text) text
cut_name text = subst (λ t. IsCut (name_particle text) (name_without_particle text) t) (join_with_byte-slice_split 32 text) (cut_words (words text))

none_at : (o : Option (List ℕ)) (rest text : List ℕ) → IsCut o rest text → length text - length rest ≡ 0 → None ≡ o
none_at None rest text e h = refl
none_at (Some p) rest text e h = absurd (omega (arith, ap length e, length-append p (32 ∷ rest)))

take_front : (p rest : List ℕ) (n : ℕ) → n ≡ length p → take n (p ++ rest) ≡ p
take_front p rest n h = grind (arith, common_steps)

some_at : (o : Option (List ℕ)) (rest text : List ℕ) → IsCut o rest text → 0 < length text - length rest → Some (take (length text - length rest - 1) text) ≡ o
some_at None rest text e h = absurd (omega (arith, ap length e))
some_at (Some p) rest text e h =
    let n : length text - length rest - 1 ≡ length p = omega (arith, ap length e, length-append p (32 ∷ rest)) in
    ap Some (ap (take (length text - length rest - 1)) e ∙ take_front p (32 ∷ rest) (length text - length rest - 1) n)

space_after : (p rest : List ℕ) (n : ℕ) → n ≡ length p → get_or (p ++ (32 ∷ rest)) n 0 ≡ 32
space_after p rest n h = grind (arith, common_steps)

space_at : (o : Option (List ℕ)) (rest text : List ℕ) → IsCut o rest text → 0 < length text - length rest → get_or text (length text - length rest - 1) 0 ≡ 32
space_at None rest text e h = absurd (omega (arith, ap length e))
space_at (Some p) rest text e h =
    let n : length text - length rest - 1 ≡ length p = omega (arith, ap length e, length-append p (32 ∷ rest)) in
    ap (λ t. get_or t (length text - length rest - 1) 0) e ∙ space_after p rest (length text - length rest - 1) n

-- the range from 0 to n is the first n bytes
pub range_front : (s : List ℕ) (n : ℕ) → slice_range s 0 n ≡ take n s
range_front s n = grind (arith, common_steps)

within : (o : Option (List ℕ)) (rest text : List ℕ) → IsCut o rest text → length rest ≤ length text
within None rest text e = omega (arith, ap length e)
within (Some p) rest text e = omega (arith, ap length e, length-append p (32 ∷ rest))

module _ (text rest : List ℕ) (is : rest ≡ name_without_particle text) where
  cut : IsCut (name_particle text) rest text
  cut = subst (λ t. IsCut (name_particle text) t text) (sym is) (cut_name text)

  pub rest_within : length rest ≤ length text
  rest_within = within (name_particle text) rest text cut

  -- if nothing was cut off, there is no particle
  pub particle_none : length text - length rest ≡ 0 → None ≡ name_particle text
  particle_none = none_at (name_particle text) rest text cut

  -- if something was cut off, it is the particle and one space
  pub particle_some : 0 < length text - length rest → Some (take (length text - length rest - 1) text) ≡ name_particle text
  particle_some = some_at (name_particle text) rest text cut

  pub particle_space : 0 < length text - length rest → get_or text (length text - length rest - 1) 0 ≡ 32
  particle_space = space_at (name_particle text) rest text cut
