-- Texts in their cases, by what is known of their marks.
use Rattle.std.proofs.Common.{◌≡◌, ap, refl, sym, ◌∙◌, ℕ, true, false, List}
use Rattle.csl.specs.Tree.Tokens.{tokens}
use Rattle.csl.specs.Tree.declared.elem.ElemChildren.{ElemChildren}
use Rattle.csl_finish.specs.CaseMarks.{have_mark, has_mark, solids, unmarked_solids}
use Rattle.csl_session.specs.Cases.{IsCased, IsCasedText}

pub content_cased : (before after : ElemChildren) → have_mark (tokens after) ≡ false → (have_mark (tokens before) ≡ false → after ≡ before) → solids (tokens after) ≡ unmarked_solids (tokens before) → IsCased (tokens before) (tokens after)
content_cased before after unmarked same others = record { unmarked = unmarked; same = λ e. ap tokens (same e); others = others }

pub text_same : (text : List ℕ) → has_mark text ≡ false → IsCasedText text text
text_same text e = record { unmarked = e; same = λ h. refl }

pub text_cased : (before after : List ℕ) → has_mark before ≡ true → has_mark after ≡ false → IsCasedText before after
text_cased before after marked e = record { unmarked = e; same = λ h. let no : true ≡ false = sym marked ∙ h in cc }
