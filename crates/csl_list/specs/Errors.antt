-- The errors of a list. Rendering has two: out of memory, and its limit.
use Rattle.std.specs.Prelude.{⊤}
use Rattle.csl.specs.declared.error.Error as rendering
use Rattle.csl.specs.declared.error.Error.TheVariants as rendering_errors
use Rattle.csl_list.specs.declared.error.ListError.{ListError}
use Rattle.csl_list.specs.declared.error.ListError.TheVariants.{Memory, Limit, NoSuchWork, TooManyWorks}

abbrev pub of_render : rendering.Error → ListError
of_render rendering_errors.Memory = Memory
of_render rendering_errors.Limit = Limit
of_render rendering_errors.NotNumeric = Memory
of_render rendering_errors.NotHtml = Memory
of_render rendering_errors.DateOutOfRange = Memory
of_render (rendering_errors.Style error) = Memory
of_render rendering_errors.Refused = Memory

-- an error of a document whose cites are all of works that it has
abbrev pub IsListingError : ListError → Type 0
IsListingError Memory = ⊤
IsListingError Limit = ⊤
IsListingError (NoSuchWork citation item) = ⊥
IsListingError TooManyWorks = ⊤
