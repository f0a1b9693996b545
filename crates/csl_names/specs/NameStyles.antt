-- A style's settings for one name (CSL 1.0.2, Name; Name-part; `demote-non-dropping-particle`,
-- `initialize-with-hyphen`). The first given part and the first family part of a Name count; a
-- missing one sets nothing (`part_in`). A particle is demoted always, only in sorting, or never, by
-- the style's setting (`demotes`). The separator and `initialize-with` come from the options
-- (`name_style`, `name_style_in`).
use Rattle.std.specs.Prelude.{Bool, true, false, Option, Some, None, is_some}
use Rattle.lit_model.specs.Person.{PersonView}
use Rattle.csl_elements.specs.declared.names.NamePartName.{NamePartName}
use Rattle.csl_elements.specs.declared.names.NamePartName.TheVariants.{Given, Family}
use Rattle.csl_style.specs.declared.style.settings.DemoteNonDroppingParticle.{DemoteNonDroppingParticle}
use Rattle.csl_style.specs.declared.style.settings.DemoteNonDroppingParticle.TheVariants.{DisplayAndSort, SortOnly, Never}
use Rattle.csl_style.specs.declared.style.settings.StyleSettings.{StyleSettings}
use Rattle.csl_elements.specs.Names.{NameNode, NamePartNode}
use Rattle.csl_elements.specs.NamesOptions.{CompleteOptions}
use Rattle.csl_elements.specs.NamesParts.{no_formatting, first_part}
use Rattle.csl_entry.specs.declared.forms.name_form.DisambiguatedNameForm.{DisambiguatedNameForm}
use Rattle.csl_context.specs.Context.{ContextView, with_content}
use Rattle.csl_names.specs.Name.{PartStyleView, NameStyleView, name_content}

-- a part as the Name sets it, or one that sets nothing
abbrev pub part_style_of : Option NamePartNode → PartStyleView
part_style_of None = record { formatting = no_formatting; affixes = record { prefix = None; suffix = None } }
part_style_of (Some p) = record { formatting = p.formatting; affixes = p.affixes }

-- the formatting and the affixes of a part of a name
abbrev pub part_in : NamePartName → NameNode → PartStyleView
part_in which name = part_style_of (first_part which name)

-- whether a particle is demoted, by the style's setting
abbrev pub demotes : DemoteNonDroppingParticle → Bool → Bool
demotes DisplayAndSort sorting = true
demotes SortOnly sorting = sorting
demotes Never sorting = false

-- the settings of a name, in a sort key or not
abbrev pub name_style : StyleSettings → Bool → NameNode → CompleteOptions → NameStyleView
name_style settings sorting name o = record {
  given = part_in Given name;
  family = part_in Family name;
  separator = o.sort_separator;
  initialize_with = o.initialize_with;
  hyphen = settings.initialize_with_hyphen;
  demotes = demotes settings.demote_non_dropping_particle sorting;
  sorting = sorting;
}

-- the settings of a name in a context
abbrev pub name_style_in : {T : Type 0} → ContextView T → NameNode → CompleteOptions → NameStyleView
name_style_in now name o = name_style now.style.settings (is_some now.sorting) name o

-- the context after one name
abbrev pub with_one_name : {T : Type 0} → NameNode → CompleteOptions → DisambiguatedNameForm → Bool → PersonView → ContextView T → ContextView T
with_one_name name o form reversed p now = with_content (name_content (name_style_in now name o) form reversed p) now
