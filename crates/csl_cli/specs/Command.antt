-- The words of the program, read from the left. No words at all mean the title `Nature` in HTML.
-- - `title`, a text, and `plain` or `html`: that title in that format.
-- - `cite`, a key, the name of a style, and `plain` or `html`: a cite of that built-in entry in
--   that built-in style.
-- - `label` and a key: the label of that built-in entry.
-- - `kind`, a key and the name of a kind: whether that built-in entry is of that kind.
-- - `leaf` and a text: the leaf text of that HTML.
-- A word that is not expected at its place, or that follows the last one, is unknown. If a word is
-- expected and none is left, a word is missing.
use Rattle.std.specs.Prelude.{ℕ, List, [], ◌∷◌, Option, Some, None, find, map, Result, Ok, Err, String, codes, string_bytes, if◌then◌else◌}
use Rattle.std.specs.Str.{bytes_eq}
use Rattle.std.specs.declared.alloc.Global.{Global}
use Rattle.csl_elements.specs.Taxonomy.{name_of}
use Rattle.csl_elements.specs.declared.taxonomy.Kind.{Kind}
use Rattle.csl_elements.specs.declared.taxonomy.Kind.TheVariants as kinds
use Rattle.csl_tree.specs.declared.elem.BufWriteFormat.{BufWriteFormat}
use Rattle.csl_tree.specs.declared.elem.BufWriteFormat.TheVariants.{Plain, Html}
use Rattle.csl_samples.specs.Entries.{named_built_in}
use Rattle.csl_samples.specs.Styles.{named_style}
use Rattle.csl_samples.specs.declared.entries.BuiltIn.{BuiltIn}
use Rattle.csl_samples.specs.declared.styles.BuiltInStyle.{BuiltInStyle}
use Rattle.csl_cli.specs.declared.command.Command.{Command}
use Rattle.csl_cli.specs.declared.command.Command.TheVariants as commands
use Rattle.csl_cli.specs.declared.command.WordsError.{WordsError}
use Rattle.csl_cli.specs.declared.command.WordsError.TheVariants.{Missing, Unknown}

-- The verdict on the words. It is a command: a title in a format, a cite of an entry by a style in
-- a format, the label of an entry, whether an entry is of a kind, or the leaf text of HTML. Or a
-- word is missing or unknown.
pub data CommandView : Type 0 where
  title_in : List ℕ → BufWriteFormat → CommandView
  cite_in : BuiltIn → BuiltInStyle → BufWriteFormat → CommandView
  label_of : BuiltIn → CommandView
  kind_of : BuiltIn → Kind → CommandView
  leaf_of : List ℕ → CommandView
  missing : CommandView
  unknown : List ℕ → CommandView

-- the verdict if no word follows; otherwise the next word is unknown
abbrev pub when_last : CommandView → List (List ℕ) → CommandView
when_last v [] = v
when_last v (word ∷ words) = unknown word

-- the verdict `next` on the thing that a word names; if it names nothing, the word is unknown
abbrev pub or_unknown : {T : Type 0} → List ℕ → Option T → (T → CommandView) → CommandView
or_unknown word None next = unknown word
or_unknown word (Some x) next = next x

-- the format with this name
abbrev pub named_format : List ℕ → Option BufWriteFormat
named_format name = if bytes_eq name (codes "plain") then Some Plain else (if bytes_eq name (codes "html") then Some Html else None)

-- the verdict on the words after `title`: the title and its format
abbrev pub parse_title : List (List ℕ) → CommandView
parse_title [] = missing
parse_title (title ∷ []) = missing
parse_title (title ∷ name ∷ words) = or_unknown name (named_format name) (λ format. when_last (title_in title format) words)

-- the verdict on the words after `cite`, an entry and a style: the format
abbrev pub cite_verdict_in : BuiltIn → BuiltInStyle → List (List ℕ) → CommandView
cite_verdict_in entry style [] = missing
cite_verdict_in entry style (name ∷ words) = or_unknown name (named_format name) (λ format. when_last (cite_in entry style format) words)

-- the verdict on the words after `cite` and an entry: the style and the format
abbrev pub cite_verdict_of : BuiltIn → List (List ℕ) → CommandView
cite_verdict_of entry [] = missing
cite_verdict_of entry (name ∷ words) = or_unknown name (named_style name) (λ style. cite_verdict_in entry style words)

-- the verdict on the words after `cite`: the entry, the style and the format
abbrev pub parse_cite : List (List ℕ) → CommandView
parse_cite [] = missing
parse_cite (key ∷ words) = or_unknown key (named_built_in key) (λ entry. cite_verdict_of entry words)

-- the verdict on the words after `label`: the entry
abbrev pub parse_label : List (List ℕ) → CommandView
parse_label [] = missing
parse_label (key ∷ words) = or_unknown key (named_built_in key) (λ entry. when_last (label_of entry) words)

-- all kinds of entries
abbrev pub all_kinds : List Kind
all_kinds =
    kinds.Article ∷ kinds.ArticleJournal ∷ kinds.ArticleMagazine ∷ kinds.ArticleNewspaper ∷ kinds.Bill ∷ kinds.Book ∷ kinds.Broadcast ∷ kinds.Chapter
    ∷ kinds.Classic ∷ kinds.Collection ∷ kinds.Dataset ∷ kinds.Document ∷ kinds.Entry ∷ kinds.EntryDictionary ∷ kinds.EntryEncyclopedia ∷ kinds.Event
    ∷ kinds.Figure ∷ kinds.Graphic ∷ kinds.Hearing ∷ kinds.Interview ∷ kinds.LegalCase ∷ kinds.Legislation ∷ kinds.Manuscript ∷ kinds.Map
    ∷ kinds.MotionPicture ∷ kinds.MusicalScore ∷ kinds.Pamphlet ∷ kinds.PaperConference ∷ kinds.Patent ∷ kinds.Performance ∷ kinds.Periodical
    ∷ kinds.PersonalCommunication ∷ kinds.Post ∷ kinds.PostWeblog ∷ kinds.Regulation ∷ kinds.Report ∷ kinds.Review ∷ kinds.ReviewBook
    ∷ kinds.Software ∷ kinds.Song ∷ kinds.Speech ∷ kinds.Standard ∷ kinds.Thesis ∷ kinds.Treaty ∷ kinds.Webpage ∷ []

abbrev pub named_kind : List ℕ → Option Kind
named_kind name = find (λ kind. bytes_eq name (name_of kind)) all_kinds

-- the verdict on the words after `kind` and an entry: the kind
abbrev pub kind_verdict_of : BuiltIn → List (List ℕ) → CommandView
kind_verdict_of entry [] = missing
kind_verdict_of entry (name ∷ words) = or_unknown name (named_kind name) (λ kind. when_last (kind_of entry kind) words)

-- the verdict on the words after `kind`: the entry and the kind
abbrev pub parse_kind : List (List ℕ) → CommandView
parse_kind [] = missing
parse_kind (key ∷ words) = or_unknown key (named_built_in key) (λ entry. kind_verdict_of entry words)

-- the verdict on the words after `leaf`: the HTML
abbrev pub leaf_verdict : List (List ℕ) → CommandView
leaf_verdict [] = missing
leaf_verdict (html ∷ words) = when_last (leaf_of html) words

-- the verdict on all words; no words at all mean the title `Nature` in HTML
abbrev pub verdict_on : List (List ℕ) → CommandView
verdict_on [] = title_in (codes "Nature") Html
verdict_on (name ∷ words) =
    if bytes_eq name (codes "title") then parse_title words
    else (if bytes_eq name (codes "cite") then parse_cite words
    else (if bytes_eq name (codes "label") then parse_label words
    else (if bytes_eq name (codes "kind") then parse_kind words
    else (if bytes_eq name (codes "leaf") then leaf_verdict words else unknown name))))

-- the verdicts for values of the code: an error, a command, and the result of parsing
abbrev pub refusal : WordsError → CommandView
refusal Missing = missing
refusal (Unknown word) = unknown word.now

abbrev pub command_verdict : Command → CommandView
command_verdict (commands.Title title format) = title_in title.now format
command_verdict (commands.Cite entry style format) = cite_in entry style format
command_verdict (commands.Label entry) = label_of entry
command_verdict (commands.Kind entry kind) = kind_of entry kind
command_verdict (commands.Leaf html) = leaf_of html.now

abbrev pub command_view : Result Command WordsError → CommandView
command_view (Ok command) = command_verdict command
command_view (Err error) = refusal error

-- the verdict on the program's words
abbrev pub parse_words : List (String Global) → CommandView
parse_words words = verdict_on (map string_bytes words)
