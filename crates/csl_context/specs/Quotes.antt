-- *Quoted* (CSL 1.0.2, Quotes; Locale, `punctuation-in-quote`): nothing if the content is empty,
-- else the opening term, the content, the moved character and the closing term. Both terms are the
-- outer ones inside an even number of quotes, and the inner ones inside an odd number. A term that
-- no locale has writes nothing.
-- The moved character is a `,` or `.` that the suffix of the same node begins with, before any
-- stripping. It moves if the first locale asks for it, and the suffix is then written without it
-- (`affixed_after`). No character moves if the content is empty.
use Rattle.std.specs.Prelude.{ℕ, Bool, true, false, not, ◌||◌, ◌&&◌, ◌==◌, List, [], ◌∷◌, Option, Some, None, is_some, option_map, if◌then◌else◌}
use Rattle.lit_model.specs.Characters.{comma_char, dot_char}
use Rattle.csl_elements.specs.declared.term.OtherTerm.{OtherTerm}
use Rattle.csl_elements.specs.declared.term.OtherTerm.TheVariants.{OpenQuote, CloseQuote, OpenInnerQuote, CloseInnerQuote}
use Rattle.csl_elements.specs.declared.term.Term.TheVariants.{Other}
use Rattle.csl_elements.specs.declared.term.TermForm.TheVariants.{Long}
use Rattle.csl_elements.specs.Dressing.{AffixTexts}
use Rattle.csl_style.specs.Scopes.{is_punctuation_in_quote}
use Rattle.csl_style.specs.Style.{StyleParts}
use Rattle.csl_tree.specs.Tokens.{Token, has_children}
use Rattle.csl_tree.specs.Content.{◌++>◌, affixed_content}
use Rattle.csl_context.specs.State.{Inherited}
use Rattle.csl_context.specs.Texts.{text_in_if, affixed_in}
use Rattle.csl_context.specs.RenderInput.{term_in}

-- the opening term: the inner one inside an odd number of quotes
abbrev pub opening_quote : Bool → OtherTerm
opening_quote false = OpenQuote
opening_quote true = OpenInnerQuote

abbrev pub closing_quote : Bool → OtherTerm
closing_quote false = CloseQuote
closing_quote true = CloseInnerQuote

abbrev pub quote_text : StyleParts → OtherTerm → Option (List ℕ)
quote_text style term = term_in style (Other term) Long false

-- whether a byte may move: a comma or a period
abbrev pub is_movable : ℕ → Bool
is_movable b = (b == comma_char) || (b == dot_char)

abbrev pub leading_punctuation : List ℕ → Option (List ℕ)
leading_punctuation [] = None
leading_punctuation (b ∷ bs) = if is_movable b then Some (b ∷ []) else None

-- the suffix without a leading comma or period
abbrev pub after_leading_punctuation : List ℕ → List ℕ
after_leading_punctuation [] = []
after_leading_punctuation (b ∷ bs) = if is_movable b then bs else b ∷ bs

-- the character that moves from the suffix to before the closing quote, if the first locale asks
-- for it
abbrev pub moved_punctuation : StyleParts → Option (List ℕ) → Option (List ℕ)
moved_punctuation style None = None
moved_punctuation style (Some suffix) = if is_punctuation_in_quote style.locales then leading_punctuation suffix else None

-- whether a character moves into the quotes around this content; none does if the content is empty
abbrev pub moves_punctuation : StyleParts → Option (List ℕ) → List Token → Bool
moves_punctuation style suffix c = is_some (moved_punctuation style suffix) && has_children c

-- Quoted: the content in quotes, with the moved character before the closing quote
abbrev pub quoted_content : StyleParts → Inherited → Option (List ℕ) → List Token → List Token
quoted_content style inh suffix c =
    affixed_content (text_in_if inh (quote_text style (opening_quote inh.in_quotes)))
    (text_in_if inh (moved_punctuation style suffix) ++> text_in_if inh (quote_text style (closing_quote inh.in_quotes))) c

-- the affixes around quotes: the suffix lacks its front if that moved into the quotes
abbrev pub affixes_after_move : Bool → AffixTexts → AffixTexts
affixes_after_move moved a = record { prefix = a.prefix; suffix = if moved then option_map after_leading_punctuation a.suffix else a.suffix }

abbrev pub affixed_after : Bool → Inherited → AffixTexts → List Token → List Token
affixed_after moved inh a c = affixed_in inh (affixes_after_move moved a) c

-- ---- the quotes of a node that may have none

-- quotes within quotes are of the other kind
abbrev pub toggled_if : Bool → Bool → Bool
toggled_if true inside = not inside
toggled_if false inside = inside

-- a body in quotes, if the node has them
abbrev pub in_quotes_if : Bool → StyleParts → Inherited → Option (List ℕ) → List Token → List Token
in_quotes_if true style inh suffix c = quoted_content style inh suffix c
in_quotes_if false style inh suffix c = c

-- whether the front of the suffix moved into the quotes
abbrev pub moved_if : Bool → StyleParts → Option (List ℕ) → List Token → Bool
moved_if true style suffix c = moves_punctuation style suffix c
moved_if false style suffix c = false

-- a body in quotes and affixes
abbrev pub quoted_between : Bool → StyleParts → AffixTexts → Inherited → List Token → List Token
quoted_between quotes style a inh c =
    affixed_after (moved_if quotes style a.suffix c) inh a (in_quotes_if quotes style inh a.suffix c)
