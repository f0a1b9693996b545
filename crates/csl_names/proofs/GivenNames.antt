-- Without a given name, a person has the shortened given name of an empty one.
use Rattle.std.proofs.Common.{◌≡◌, ℕ, Bool, List, [], Option, Some, None, map, filter, refl, sym, ap}
use Rattle.std.proofs.lemmas.Str.{chars-nil}
use Rattle.std.specs.Prelude.{unwrap_or, encode_utf8_all}
use Rattle.lit_model.specs.FirstNames.{lettered_words, optional_names}
use Rattle.lit_model.specs.Initials.{is_nonempty, char_words, initials_of, all_initials, initials, optional_initials}
use Rattle.csl_names.specs.Name.{lettered_name}

pub initials_given : (text : List ℕ) (hyphen : Bool) (o : Option (List ℕ)) → optional_initials text hyphen o ≡ initials text hyphen (unwrap_or o [])
initials_given text hyphen None = sym (ap (λ cs. all_initials text hyphen (filter is_nonempty (map initials_of (map encode_utf8_all (char_words cs))))) chars-nil)
initials_given text hyphen (Some given) = refl

pub letters_given : (text : List ℕ) (o : Option (List ℕ)) → optional_names text o ≡ lettered_name text (unwrap_or o [])
letters_given text None = sym (ap (λ cs. lettered_words text (map encode_utf8_all (char_words cs))) chars-nil)
letters_given text (Some given) = refl
