-- The web pages of the examples: the answers of a page, its line in a numbered list, the
-- characters that a list drops, and what it prints.
use Rattle.std.specs.Prelude.{◌≡◌, ℕ, List, [], ◌∷◌, ◌++◌, Option, Some, None, Bool, true, false, not, ◌||◌, codes, filter, option_map, unwrap_or}
use Rattle.std.specs.Int.{is_in_range}
use Rattle.std.specs.List.{All, AllZip, enumerate_from, flat_map}
use Rattle.std.specs.Str.{chars}
use Rattle.csl.specs.Literature.Person.{PersonView, person_view}
use Rattle.csl.specs.Literature.Text.{Chunk, chunks}
use Rattle.csl.specs.Literature.WebAddress.{IsWebAddress}
use Rattle.csl.specs.Style.declared.taxonomy.Kind.{Kind}
use Rattle.csl.specs.Style.declared.taxonomy.Kind.TheVariants.{Webpage}
use Rattle.csl.specs.Style.declared.taxonomy.NameVariable.{NameVariable}
use Rattle.csl.specs.Style.declared.taxonomy.NameVariable.TheVariants.{Author}
use Rattle.csl.specs.Style.declared.taxonomy.StandardVariable.{StandardVariable}
use Rattle.csl.specs.Style.declared.taxonomy.StandardVariable.TheVariants.{Title, URL}
use Rattle.csl.specs.Style.declared.style.settings.Scope.TheVariants.{Bibliography}
use Rattle.csl.specs.Style.Style.{StyleParts}
use Rattle.csl.specs.Tree.Links.{addresses}
use Rattle.csl.specs.Tree.Tokens.{Token, leaf_text}
use Rattle.csl.specs.Tree.Write.{text_in_format}
use Rattle.csl.specs.Tree.declared.elem.BufWriteFormat.TheVariants.{Html}
use Rattle.csl.specs.Entry.Answers.{Answers}
use Rattle.csl.specs.Entry.Cite.{CiteState, first_cite, no_disambiguation}
use Rattle.csl.specs.Render.Cites.{whole_cite}
use Rattle.csl_uses.specs.declared.page.WebPage.{WebPage}

abbrev pub standard_of : WebPage → StandardVariable → Option (List Chunk)
standard_of page Title = Some (chunks page.title)
standard_of page URL = Some (chunks page.address)
standard_of page _ = None

abbrev pub persons_of : WebPage → NameVariable → List PersonView
persons_of page Author = person_view page.author ∷ []
persons_of page _ = []

abbrev pub is_web_page : Kind → Bool
is_web_page Webpage = true
is_web_page _ = false

abbrev pub answers_of : WebPage → Answers
answers_of page = record {
  numbers = λ _. None;
  pages = λ _. None;
  standards = λ _ variable. standard_of page variable;
  names = persons_of page;
  dates = λ _. None;
  kinds = is_web_page;
}

-- ---- the list

-- the state of a first cite with this citation number
abbrev pub numbered_cite : ℕ → CiteState
numbered_cite number = record (first_cite no_disambiguation) { citation_number = number }

-- the content of an entry in the bibliography, empty if the style has none
abbrev pub numbered_line : StyleParts → ℕ → Answers → List Token
numbered_line style number answers =
    unwrap_or (option_map (λ layout. (whole_cite style Bibliography (numbered_cite number) answers layout).content) style.bibliography) []

-- ---- directions

-- the character is an explicit formatting character of Unicode's bidirectional algorithm (UAX 9, 2):
-- an embedding, an override, an isolate, or the end of one
abbrev pub is_direction_control : ℕ → Bool
is_direction_control c = is_in_range 0x202A 0x202E c || is_in_range 0x2066 0x2069 c

-- ---- what is printed

-- the line has the text of the entry's, and links of one kind alone
abbrev pub IsLineWith : (List ℕ → Type 0) → StyleParts → ℕ → Answers → List Token → Type 0
IsLineWith IsKept style place answers line = (leaf_text line ≡ leaf_text (numbered_line style place answers)) × All IsKept (addresses line)

-- the other text is this one without its direction controls
abbrev pub IsStripped : List ℕ → List ℕ → Type 0
IsStripped text stripped = chars stripped ≡ filter (λ c. not (is_direction_control c)) (chars text)

-- the lines have the texts of the entries', in their order, and links to web addresses alone
abbrev pub AreWebLines : {T : Type 0} → (T → Answers) → StyleParts → List T → List (List Token) → Type 0
AreWebLines answers style entries lines = AllZip (λ entry line. IsLineWith IsWebAddress style entry.0 (answers entry.1) line) (enumerate_from 0 entries) lines

-- a line in an element of the page
abbrev pub entry_html : List Token → List ℕ
entry_html line = codes "<div class=\"entry\">" ++ (text_in_format Html line ++ codes "</div>\n")

-- a page of these lines, from its beginning to its end
abbrev pub page_html : List ℕ → List (List Token) → List ℕ → List ℕ
page_html head lines tail = (head ++ flat_map entry_html lines) ++ tail
