-- The program's output for its words. The answer is the text of a title or the content of a cite,
-- in a format; a label with three letters; `true` or `false`; or a leaf text. A newline follows it.
-- A missing word, an unknown word and a text that is not HTML each get a line of complaint instead.
use Rattle.std.specs.Prelude.{◌≡◌, ◌⊎◌, ℕ, Bool, true, false, List, ◌++◌, Option, Some, None, IsSomeAnd, codes, string_bytes}
use Rattle.std.specs.Fmt.{WritesInCalls}
use Rattle.csl_tree.specs.Html.{IsHtmlOf, IsNotHtml}
use Rattle.csl_tree.specs.Tokens.{Token, tokens}
use Rattle.csl_tree.specs.Write.{text_in_format}
use Rattle.csl_samples.specs.Entries.{label_text, is_built_in_kind}
use Rattle.csl_cli.specs.Content.{title_text, IsEntryContent}
use Rattle.csl_cli.specs.Command.{CommandView, title_in, cite_in, label_of, kind_of, leaf_of, missing, unknown}
use Rattle.csl_cli.specs.declared.answers.Answer.{Answer}
use Rattle.csl_cli.specs.declared.answers.Answer.TheVariants.{Content, Text, Truth}

abbrev pub newline : List ℕ
newline = codes "\n"

abbrev pub line : List ℕ → List ℕ
line text = text ++ newline

abbrev pub truth_text : Bool → List ℕ
truth_text true = codes "true"
truth_text false = codes "false"

-- The text answers the words: it is the text of the title; the written content of the cite of the
-- built-in entry, in the style of the command; the label of the built-in entry; whether that entry
-- is of the kind; or the leaf text of the HTML.
abbrev pub IsAnswer : CommandView → List ℕ → Type 0
IsAnswer (title_in title format) text = text ≡ title_text title format
IsAnswer (cite_in entry style format) text = (content : List Token) × IsEntryContent entry style content × (text ≡ text_in_format format content)
IsAnswer (label_of entry) text = text ≡ label_text entry
IsAnswer (kind_of entry kind) text = text ≡ truth_text (is_built_in_kind kind entry)
IsAnswer (leaf_of html) text = IsHtmlOf html text
IsAnswer missing text = ⊥
IsAnswer (unknown word) text = ⊥

-- the text that the code writes for an answer
abbrev pub answer_text : Answer → List ℕ
answer_text (Content content format) = text_in_format format (tokens content)
answer_text (Text text) = string_bytes text
answer_text (Truth truth) = truth_text truth

-- the complaint about words that are not a command, without the newline
abbrev pub complaint : CommandView → Option (List ℕ)
complaint (title_in title format) = None
complaint (cite_in entry style format) = None
complaint (label_of entry) = None
complaint (kind_of entry kind) = None
complaint (leaf_of html) = None
complaint missing = Some (codes "missing word")
complaint (unknown word) = Some (codes "unknown: " ++ word)

-- the words ask for the leaf text of a text that is not HTML
abbrev pub IsRefused : CommandView → Type 0
IsRefused (title_in title format) = ⊥
IsRefused (cite_in entry style format) = ⊥
IsRefused (label_of entry) = ⊥
IsRefused (kind_of entry kind) = ⊥
IsRefused (leaf_of html) = IsNotHtml html
IsRefused missing = ⊥
IsRefused (unknown word) = ⊥

-- no text answers the words
abbrev pub HasNoAnswer : CommandView → Type 0
HasNoAnswer verdict = (text : List ℕ) → IsAnswer verdict text → ⊥

-- the complaint about a text that is not HTML, without the newline
abbrev pub not_html : List ℕ
not_html = codes "not html"

-- the complaint if memory ran out, without the newline
abbrev pub out_of_memory : List ℕ
out_of_memory = codes "out of memory"

-- ---- A writer went from `old` to `new` by calls. For each call, `gives` relates the old writer,
-- the text and the new writer. Together the calls wrote a line, the answer, or the complaint.

abbrev pub TakesLine : {W : Type 0} → (W → List ℕ → W → Type 0) → W → List ℕ → W → Type 0
TakesLine gives old text new = WritesInCalls gives old (line text) new

abbrev pub Replies : {W : Type 0} → (W → List ℕ → W → Type 0) → CommandView → W → W → Type 0
Replies gives verdict old new = (text : List ℕ) × IsAnswer verdict text × TakesLine gives old text new

abbrev pub Complains : {W : Type 0} → (W → List ℕ → W → Type 0) → CommandView → W → W → Type 0
Complains gives verdict old new = IsSomeAnd (complaint verdict) (λ text. TakesLine gives old text new)

-- if neither of two writers had refused a text before, one of them has refused one now
abbrev pub OneRefuses : {W F : Type 0} → (W → Bool) → W → W → (F → Bool) → F → F → Type 0
OneRefuses out_refused out out_after fault_refused fault fault_after =
    out_refused out ≡ false → fault_refused fault ≡ false → (out_refused out_after ≡ true) ⊎ (fault_refused fault_after ≡ true)
