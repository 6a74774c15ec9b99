-- The schemes by name and by code. Assumes nothing.
use Rattle.std.specs.Prelude.{ℕ, cond, List, ◌++◌, Some, None, codes, decimal, Option, Result, ◌==◌}
use Rattle.std.specs.Option.{ok_or}
use Rattle.film.specs.Schemes.{SchemeMeaning, feet35, feet16, timecode24}
use Rattle.film.specs.declared.name.SchemeName.{SchemeName}
use Rattle.film.specs.declared.name.SchemeName.TheVariants.{Film35, Film16, Seconds24}
use Rattle.film.specs.declared.name.UnknownScheme.{UnknownScheme}

abbrev pub scheme_of : SchemeName → SchemeMeaning
scheme_of Film35 = feet35
scheme_of Film16 = feet16
scheme_of Seconds24 = timecode24

abbrev pub scheme_named : ℕ → Option SchemeName
scheme_named code = cond (code == 1) (Some Film35) (cond (code == 2) (Some Film16) (cond (code == 3) (Some Seconds24) None))

abbrev pub scheme_by : ℕ → Result SchemeName UnknownScheme
scheme_by code = ok_or (scheme_named code) (record { code = code })

-- as it is printed
abbrev pub unknown_scheme_text : UnknownScheme → List ℕ
unknown_scheme_text unknown = codes "no scheme " ++ decimal unknown.code
