-- Each kind of locator has one name, such as `sub-verbo` (CSL 1.0.2, Locators). No two have the same.
-- A custom locator, which CSL does not have, is `custom`.
use Rattle.std.specs.Prelude.{ℕ, List, codes}
use Rattle.csl_elements.specs.declared.taxonomy.Locator.{Locator}
use Rattle.csl_elements.specs.declared.taxonomy.Locator.TheVariants as locators

-- the name of a kind of locator
abbrev pub locator_name : Locator → List ℕ
locator_name locators.Act = codes "act"
locator_name locators.Appendix = codes "appendix"
locator_name locators.Book = codes "book"
locator_name locators.Canon = codes "canon"
locator_name locators.Chapter = codes "chapter"
locator_name locators.Column = codes "column"
locator_name locators.Equation = codes "equation"
locator_name locators.Figure = codes "figure"
locator_name locators.Folio = codes "folio"
locator_name locators.Issue = codes "issue"
locator_name locators.Line = codes "line"
locator_name locators.Note = codes "note"
locator_name locators.Number = codes "number"
locator_name locators.Opus = codes "opus"
locator_name locators.Page = codes "page"
locator_name locators.Paragraph = codes "paragraph"
locator_name locators.Part = codes "part"
locator_name locators.Rule = codes "rule"
locator_name locators.Scene = codes "scene"
locator_name locators.Section = codes "section"
locator_name locators.SubVerbo = codes "sub-verbo"
locator_name locators.Supplement = codes "supplement"
locator_name locators.Table = codes "table"
locator_name locators.Timestamp = codes "timestamp"
locator_name locators.Verse = codes "verse"
locator_name locators.Version = codes "version"
locator_name locators.Volume = codes "volume"
locator_name locators.Custom = codes "custom"
