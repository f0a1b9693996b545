-- The *body* of a node is inside its formatting, affixes, quotes and strip-periods (CSL 1.0.2,
-- Formatting, Affixes, Quotes, Strip-periods). Opening it changes the inherited values, and opens a
-- part between the affixes if the node has some, and a part inside the quotes if it has them.
-- Closing it closes these parts, and restores the inherited values. The node's own strip-periods
-- applies to the body alone, and its formatting also to its affixes and quotes.
-- Whatever is appended to an open body is appended in quotes and affixes once it is closed
-- (`body_around` in proofs/BodyAround.antt).
use Rattle.std.specs.Prelude.{◌<◌, Bool, true, false, ◌||◌, List, is_some, length, ⊤}
use Rattle.std.specs.Bool.{OnFalse}
use Rattle.csl_elements.specs.declared.formatting.Formatting as partial
use Rattle.csl_elements.specs.Dressing.{AffixTexts, affix_texts}
use Rattle.csl_tree.specs.Formatting.{apply_formatting}
use Rattle.csl_tree.specs.Tokens.{Token}
use Rattle.csl_context.specs.declared.bodies.BodyDressing.{BodyDressing}
use Rattle.csl_context.specs.declared.bodies.OpenBody.{OpenBody}
use Rattle.csl_context.specs.State.{Inherited}
use Rattle.csl_context.specs.Quotes.{toggled_if, moved_if, quoted_content, affixed_after}
use Rattle.csl_context.specs.Context.{ContextView, with_part, close_part_by}

-- the attributes of a node that apply to its body
pub record BodyAttributes : Type 0 where
  pub formatting : partial.Formatting
  pub affixes : AffixTexts
  pub quotes : Bool
  pub strip_periods : Bool

abbrev pub body_attributes : BodyDressing → BodyAttributes
body_attributes b = record {
  formatting = b.formatting;
  affixes = affix_texts b.affixes.now;
  quotes = b.quotes;
  strip_periods = b.strip_periods;
}

abbrev pub has_affixes : AffixTexts → Bool
has_affixes a = is_some a.prefix || is_some a.suffix

-- the inherited values in a body
abbrev pub inside_body : BodyAttributes → Inherited → Inherited
inside_body d inh = record inh {
  formatting = apply_formatting d.formatting inh.formatting;
  in_quotes = toggled_if d.quotes inh.in_quotes;
  strip_periods = d.strip_periods || inh.strip_periods;
}

-- the values that an open body changes
abbrev pub values_before : Inherited → OpenBody
values_before inh = record { formatting = inh.formatting; in_quotes = inh.in_quotes; strip_periods = inh.strip_periods }

abbrev pub with_part_if : {T : Type 0} → Bool → ContextView T → ContextView T
with_part_if true now = with_part now
with_part_if false now = now

-- the parts of a body, each if it has them: one between the affixes, and one inside the quotes
abbrev pub body_parts : {T : Type 0} → BodyAttributes → ContextView T → ContextView T
body_parts d now = with_part_if d.quotes (with_part_if (has_affixes d.affixes) now)

abbrev pub with_parts_opened : {T : Type 0} → BodyAttributes → ContextView T → ContextView T
with_parts_opened d now = record now { inner = (body_parts d now).inner; outer = (body_parts d now).outer }

abbrev pub with_body_inherited : {T : Type 0} → BodyAttributes → ContextView T → ContextView T
with_body_inherited d now = record now { inherited = inside_body d now.inherited }

-- the context with an open body
abbrev pub with_open_body : {T : Type 0} → BodyAttributes → ContextView T → ContextView T
with_open_body d now = with_body_inherited d (with_parts_opened d now)

-- the parts of a body are open: as many as it has, between affixes and inside quotes
abbrev pub HasOpenParts : Bool → Bool → List (List Token) → Type 0
HasOpenParts false false outer = ⊤
HasOpenParts true false outer = 0 < length outer
HasOpenParts false true outer = 0 < length outer
HasOpenParts true true outer = 1 < length outer

-- the parts of a body are open, or the context has failed
abbrev pub HasOpenBody : {T : Type 0} → BodyAttributes → ContextView T → Type 0
HasOpenBody d now = OnFalse now.failed (HasOpenParts (has_affixes d.affixes) d.quotes now.outer)

abbrev pub close_part_if : {T : Type 0} → Bool → (Inherited → List Token → List Token) → ContextView T → ContextView T
close_part_if true f now = close_part_by f now
close_part_if false f now = now

-- whether the front of the suffix moves into the quotes of an open body
abbrev pub moved_in : {T : Type 0} → BodyAttributes → ContextView T → Bool
moved_in d now = moved_if d.quotes now.style d.affixes.suffix now.inner

-- the context after the part inside quotes is closed, if there are any
abbrev pub with_quotes_closed : {T : Type 0} → BodyAttributes → ContextView T → ContextView T
with_quotes_closed d now = close_part_if d.quotes (λ inh c. quoted_content now.style inh d.affixes.suffix c) now

-- the context after the part between affixes is closed, if there are any
abbrev pub with_affixes_closed : {T : Type 0} → BodyAttributes → Bool → ContextView T → ContextView T
with_affixes_closed d moved now = close_part_if (has_affixes d.affixes) (λ inh c. affixed_after moved inh d.affixes c) now

-- the context with the quotes and strip-periods around a body
abbrev pub around_body : {T : Type 0} → OpenBody → ContextView T → ContextView T
around_body before now = record now { inherited = record now.inherited { in_quotes = before.in_quotes; strip_periods = before.strip_periods } }

abbrev pub with_formatting : {T : Type 0} → OpenBody → ContextView T → ContextView T
with_formatting before now = record now { inherited = record now.inherited { formatting = before.formatting } }

-- the context after a body is closed
abbrev pub with_closed_body : {T : Type 0} → BodyAttributes → OpenBody → ContextView T → ContextView T
with_closed_body d before now =
    with_formatting before (with_affixes_closed d (moved_in d now) (with_quotes_closed d (around_body before now)))
