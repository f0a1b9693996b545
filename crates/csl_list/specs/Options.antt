-- The options of a style that sets none.
use Rattle.std.specs.Prelude.{◌≡◌, [], false, None, string_bytes}
use Rattle.csl_list.specs.declared.options.BibliographyOptions.{BibliographyOptions}
use Rattle.csl_list.specs.declared.options.CitationOptions.{CitationOptions}
use Rattle.csl_list.specs.declared.options.GivenNameRule.TheVariants.{ByCite}

abbrev pub HasNoTexts : CitationOptions → Type 0
HasNoTexts o = (string_bytes o.prefix ≡ []) × (string_bytes o.suffix ≡ []) × (string_bytes o.delimiter ≡ [])

-- cites are neither shortened nor put together
abbrev pub IsNotShortened : CitationOptions → Type 0
IsNotShortened o =
    (o.collapse ≡ None)
    × (o.cite_group_delimiter ≡ None)
    × (o.year_suffix_delimiter ≡ None)
    × (o.after_collapse_delimiter ≡ None)

-- works are not told apart
abbrev pub HasNoDisambiguation : CitationOptions → Type 0
HasNoDisambiguation o =
    (o.adds_names ≡ false)
    × (o.adds_given_names ≡ false)
    × (o.given_name_rule ≡ ByCite)
    × (o.adds_year_suffix ≡ false)

-- a space of one line between two works
abbrev pub HasNoOptions : BibliographyOptions → Type 0
HasNoOptions o =
    (string_bytes o.prefix ≡ [])
    × (string_bytes o.suffix ≡ [])
    × (o.keys.items ≡ [])
    × (o.hanging_indent ≡ false)
    × (o.second_field_align ≡ None)
    × (o.line_spacing ≡ 1)
    × (o.entry_spacing ≡ 1)
    × (o.author_substitute ≡ None)
