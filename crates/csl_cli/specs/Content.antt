-- The command `title` renders the first cite of an entry, in the style of titles
-- (`IsTitleContent`). The entry answers only the given title, in one normal chunk. The command
-- `cite` renders the first cite of a built-in entry, by its answers, in a built-in style
-- (`IsEntryContent`). `csl_render` defines the content (`cite_content`).
-- The cite of a title is written as `(Title: `, the title and `)` (`title_text`). In HTML the title
-- is escaped, in a span that declares italics. If the title is empty, the group around it does not
-- print, and nothing is written.
use Rattle.std.specs.Prelude.{◌≡◌, ℕ, List, [], ◌∷◌, ◌++◌, Some, codes}
use Rattle.csl_style.specs.Style.{StyleParts}
use Rattle.csl_tree.specs.Escapes.{escape_all}
use Rattle.csl_tree.specs.Tokens.{Token}
use Rattle.csl_tree.specs.declared.elem.BufWriteFormat.{BufWriteFormat}
use Rattle.csl_tree.specs.declared.elem.BufWriteFormat.TheVariants.{Plain, Html}
use Rattle.csl_entry.specs.Entry.{answers_of}
use Rattle.csl_render.specs.Cites.{cite_content}
use Rattle.lit_model.specs.declared.entry.Entry.{Entry}
use Rattle.lit_model.specs.Text.{in_one_piece}
use Rattle.csl_samples.specs.Entries.{IsBuiltIn}
use Rattle.csl_samples.specs.Styles.{IsBuiltInStyle}
use Rattle.csl_samples.specs.Title.{CitesTitles, title_answers}
use Rattle.csl_samples.specs.declared.entries.BuiltIn.{BuiltIn}
use Rattle.csl_samples.specs.declared.styles.BuiltInStyle.{BuiltInStyle}

-- the content of the first cite of an entry with only this title, in the style of titles
abbrev pub IsTitleContent : List ℕ → List Token → Type 0
IsTitleContent title content = (style : StyleParts) × CitesTitles style × (content ≡ cite_content style (title_answers (Some (in_one_piece title))))

-- the text of the cite of a title, in a format
abbrev pub title_text : List ℕ → BufWriteFormat → List ℕ
title_text [] format = []
title_text (b ∷ bs) Plain = codes "(Title: " ++ ((b ∷ bs) ++ codes ")")
title_text (b ∷ bs) Html = codes "(Title: <span style=\"font-style: italic;\">" ++ (escape_all (b ∷ bs) ++ codes "</span>)")

-- the content of the first cite of a built-in entry in a built-in style
abbrev pub IsEntryContent : BuiltIn → BuiltInStyle → List Token → Type 0
IsEntryContent entry style content =
    (parts : StyleParts) × IsBuiltInStyle style parts × (e : Entry) × IsBuiltIn entry e × (content ≡ cite_content parts (answers_of e))
