-- A body around a content is that content in quotes and affixes. A part that is not needed is not
-- opened, which changes nothing.
use Rattle.std.proofs.Common.{◌≡◌, ℕ, ◌<◌, Bool, true, false, List, [], ◌∷◌, length, refl, sym, ap, subst, ◌∙◌, arith}
use Rattle.std.proofs.lemmas.Grind.{common_steps}
use Rattle.std.specs.Prelude.{Option, Some, None}
use Rattle.std.specs.Bool.{OnTrue, OnFalse}
use Rattle.csl_elements.specs.declared.formatting.Formatting as partial
use Rattle.csl_tree.specs.Content.{◌++>◌}
use Rattle.csl_tree.specs.Tokens.{Token}
use Rattle.csl_context.specs.State.{State, Inherited, with_node_formatting}
use Rattle.csl_context.specs.Quotes.{quoted_content, quoted_between}
use Rattle.csl_context.specs.Context.{ContextView, Becomes, FailsAs, frame, close_part_into}
use Rattle.csl_context.specs.Bodies.{BodyAttributes, values_before, with_open_body, with_closed_body, HasOpenParts, HasOpenBody, has_affixes, close_part_if, with_quotes_closed, around_body}
use Rattle.csl_context.specs.declared.bodies.OpenBody.{OpenBody}
use Rattle.csl_context.specs.declared.error.RenderError.{RenderError}
use Rattle.csl_context.specs.declared.error.RenderError.TheVariants.{Memory, Failed}
use Rattle.csl_context.proofs.Affixes.{bare}

-- a context with more content, and with another state
abbrev pub with_more : {T : Type 0} → List Token → State → ContextView T → ContextView T
with_more c s now = record now { inner = now.inner ++> c; state = s }

-- the content of a body in its quotes and affixes
abbrev pub in_attributes : {T : Type 0} → BodyAttributes → List Token → ContextView T → List Token
in_attributes d c now = quoted_between d.quotes now.style d.affixes (with_node_formatting d.formatting now.inherited) c

abbrev attributes : partial.Formatting → Option (List ℕ) → Option (List ℕ) → Bool → Bool → BodyAttributes
attributes f p q quotes strip = record { formatting = f; affixes = record { prefix = p; suffix = q }; quotes = quotes; strip_periods = strip }

-- with or without affixes, with or without quotes
around : {T : Type 0} (now : ContextView T) (c : List Token) (s : State) (f : partial.Formatting) (strip : Bool) (p q : Option (List ℕ)) (quotes : Bool)
    → with_closed_body (attributes f p q quotes strip) (values_before now.inherited) (with_more c s (with_open_body (attributes f p q quotes strip) now)) ≡ with_more (in_attributes (attributes f p q quotes strip) c now) s now
around now c s f strip None None false = ap (λ l. with_more l s now) (sym (bare c))
around now c s f strip None None true = ap (λ l. with_more l s now) (sym (bare _))
around now c s f strip (Some p) q false = refl
around now c s f strip (Some p) q true = refl
around now c s f strip None (Some q) false = refl
around now c s f strip None (Some q) true = refl

-- a body that is opened, gets a content and is closed
pub body_around : {T : Type 0} (d : BodyAttributes) (now : ContextView T) (c : List Token) (s : State)
    → with_closed_body d (values_before now.inherited) (with_more c s (with_open_body d now)) ≡ with_more (in_attributes d c now) s now
body_around d now c s = around now c s d.formatting d.strip_periods d.affixes.prefix d.affixes.suffix d.quotes

close_inside : {T : Type 0} (content : List Token) (now : ContextView T) (os : List (List Token)) → 1 < length os → 0 < length (close_part_into content now os).outer
close_inside content now [] h = grind (arith, common_steps)
close_inside content now (o ∷ []) h = grind (arith, common_steps)
close_inside content now (o ∷ (p ∷ os)) h = grind (arith, common_steps)

-- the part between affixes is open after that inside quotes is closed
pub still_open : {T : Type 0} (affixed quoted : Bool) (f : Inherited → List Token → List Token) (now : ContextView T) → HasOpenParts affixed quoted now.outer → OnTrue affixed (0 < length (close_part_if quoted f now).outer)
still_open false quoted f now h = tt
still_open true false f now h = h
still_open true true f now h = close_inside (f now.inherited now.inner) now now.outer h

never : {P : Type 0} → true ≡ false → P
never e = cc

live_so : {P : Type 0} (failed : Bool) → failed ≡ false → OnFalse failed P → P
live_so false e h = h
live_so true e h = cc

-- the same after the calls that close a body begin
pub still_open_after : {T : Type 0} (d : BodyAttributes) (before : OpenBody) (now a b : ContextView T)
    → a ≡ around_body before now → Becomes (with_quotes_closed d) a b → HasOpenBody d now → OnTrue (has_affixes d.affixes) (0 < length b.outer)
still_open_after d before now a b left closed h =
    let live : now.failed ≡ false = ap (λ x. x.failed) (sym left) ∙ closed.was_live in
    let is : b ≡ with_quotes_closed d (around_body before now) = closed.becomes ∙ ap (with_quotes_closed d) left in
    subst (λ x. OnTrue (has_affixes d.affixes) (0 < length x.outer)) (sym is)
    (still_open (has_affixes d.affixes) d.quotes (λ inh c. quoted_content now.style inh d.affixes.suffix c) (around_body before now) (live_so now.failed live h))

into_kept : {T : Type 0} (content : List Token) (now : ContextView T) (os : List (List Token)) → (frame (close_part_into content now os) ≡ frame now) × ((close_part_into content now os).failed ≡ now.failed)
into_kept content now [] = (refl, refl)
into_kept content now (o ∷ os) = (refl, refl)

closed_kept : {T : Type 0} (quoted : Bool) (f : Inherited → List Token → List Token) (now : ContextView T) → (frame (close_part_if quoted f now) ≡ frame now) × ((close_part_if quoted f now).failed ≡ now.failed)
closed_kept true f now = into_kept (f now.inherited now.inner) now now.outer
closed_kept false f now = (refl, refl)

pub closed_live : {T : Type 0} (d : BodyAttributes) (a b : ContextView T) → Becomes (with_quotes_closed d) a b → b.failed ≡ false
closed_live d a b closed = ap (λ x. x.failed) closed.becomes ∙ (closed_kept d.quotes (λ inh c. quoted_content a.style inh d.affixes.suffix c) a).1 ∙ closed.was_live

-- a call after them fails
pub closed_fails : {T : Type 0} (d : BodyAttributes) (before : OpenBody) (now a b e : ContextView T) (error : RenderError)
    → a ≡ around_body before now → Becomes (with_quotes_closed d) a b → FailsAs error b e → FailsAs error now e
closed_fails d before now a b e Memory left closed h = (
  ap (λ x. x.failed) (sym left) ∙ closed.was_live,
  h.1,
  h.2 ∙ ap frame closed.becomes ∙ (closed_kept d.quotes (λ inh c. quoted_content a.style inh d.affixes.suffix c) a).0 ∙ ap frame left,
)
closed_fails d before now a b e Failed left closed h = never (sym h.0 ∙ closed_live d a b closed)

-- ---- the calls for a body, one after another

pub body_calls : {T : Type 0} (d : BodyAttributes) (before : OpenBody) (f : ContextView T → ContextView T) (a b m e : ContextView T)
    → Becomes (with_open_body d) a b → before ≡ values_before a.inherited → Becomes f b m → Becomes (with_closed_body d before) m e
    → Becomes (λ now. with_closed_body d (values_before now.inherited) (f (with_open_body d now))) a e
body_calls d before f a b m e opened values inside closed = record {
  was_live = opened.was_live;
  becomes = closed.becomes
      ∙ ap (λ o. with_closed_body d o m) values
      ∙ ap (λ x. with_closed_body d (values_before a.inherited) x) (inside.becomes ∙ ap f opened.becomes);
}
