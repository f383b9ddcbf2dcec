-- The standard names that are procedures, and those that are streams.
use Rattle.std.specs.Prelude.{ℕ, Bool, false, Option, Some, None}
use Rattle.sim_scope.specs.declared.standard.StandardName.{StandardName}
use Rattle.sim_scope.specs.declared.standard.StandardName.TheVariants as found
use Rattle.sim_values.specs.declared.standard.Standard.{Standard}
use Rattle.sim_values.specs.Standard.{is_image}

-- `sysin` and `sysout` themselves are no procedures, nor are classes
abbrev pub procedure_named : StandardName → Option Standard
procedure_named (found.Procedure name) = Some name
procedure_named _ = None

-- `sysin` and `sysout`, by the numbers of their images
abbrev pub stream_named : StandardName → Option ℕ
stream_named found.Sysin = Some 0
stream_named found.Sysout = Some 1
stream_named _ = None

-- whether a name is `image`
abbrev pub is_image_in : Option Standard → Bool
is_image_in None = false
is_image_in (Some name) = is_image name
