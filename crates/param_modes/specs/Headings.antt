-- The headings of the procedures and the classes of the tables.
use Rattle.std.specs.Prelude.{◌≡◌, ℕ, List, [], ◌∷◌, ◌++◌, length, drop, Option, Some, None, slice_get}
use Rattle.sim_base.specs.declared.numbering.DeclNo.{DeclNo}
use Rattle.sim_scope.specs.declared.types.Entry.{Entry}
use Rattle.sim_scope.specs.declared.types.Entry.TheVariants as entry
use Rattle.sim_scope.specs.declared.types.Formal.{Formal}
use Rattle.sim_scope.specs.declared.types.SimType.{SimType}
use Rattle.sim_scope.specs.Scopes.{class_formal, class_formals, entry_of, formal_in, formal_of, formals_of}
use Rattle.sim_scope.specs.Tables.{Tables}
use Rattle.param_modes.specs.declared.heading.Heading.{Heading}

pub record HeadingOf : Type 0 where
  pub result : Option SimType
  pub formals : List Formal

abbrev pub heading_value : Heading → HeadingOf
heading_value h = record { result = h.result; formals = h.formals.items }

-- what declarations are as formal parameters, where each of them is one
abbrev pub with_formal : Option Formal → Option (List Formal) → Option (List Formal)
with_formal None fs = None
with_formal (Some f) None = None
with_formal (Some f) (Some fs) = Some (f ∷ fs)

unfoldable pub formals_among : Tables → List DeclNo → Option (List Formal)
formals_among s [] = Some []
formals_among s (d ∷ ds) = with_formal (formal_in (entry_of s d)) (formals_among s ds)

abbrev pub with_result : Option SimType → Option (List Formal) → Option HeadingOf
with_result result None = None
with_result result (Some fs) = Some (record { result = result; formals = fs })

abbrev pub heading_in : Tables → DeclNo → Option Entry → Option HeadingOf
heading_in s d (Some (entry.Procedure result block)) = with_result result (formals_among s (formals_of s d))
heading_in s d (Some (entry.Class block)) = with_result None (formals_among s (class_formals s block))
heading_in s d _ = None

-- the heading of a procedure or of a class, where each of its formal parameters is specified; a class has the parameters of all its levels
unfoldable pub heading_of : Tables → DeclNo → Option HeadingOf
heading_of s d = heading_in s d (entry_of s d)

-- In other words: a procedure with these formal parameters.
pub record HasHeading (s : Tables) (d : DeclNo) (result : Option SimType) (fs : List Formal) : Type 0 where
  pub block : ℕ
  pub procedure : entry_of s d ≡ Some (entry.Procedure result block)
  pub as_many : length (formals_of s d) ≡ length fs
  pub each : (place : ℕ) → formal_of s d place ≡ slice_get fs place

-- In other words: a class whose levels have these formal parameters.
pub record HasClassHeading (s : Tables) (d : DeclNo) (fs : List Formal) : Type 0 where
  pub block : ℕ
  pub class : entry_of s d ≡ Some (entry.Class block)
  pub as_many : length (class_formals s block) ≡ length fs
  pub each : (place : ℕ) → class_formal s block place ≡ slice_get fs place

-- a heading is that of a procedure, or that of a class
pub data IsHeading (s : Tables) (d : DeclNo) (h : HeadingOf) : Type 0 where
  OfProcedure : HasHeading s d h.result h.formals → IsHeading s d h
  OfClass : h.result ≡ None → HasClassHeading s d h.formals → IsHeading s d h

-- in a loop: those found so far stand in front of the rest
abbrev pub ahead : List Formal → Option (List Formal) → Option (List Formal)
ahead fs None = None
ahead fs (Some gs) = Some (fs ++ gs)

unfoldable pub Gathers : Tables → List DeclNo → (found : List Formal) → ℕ → Type 0
Gathers s ds found i = ahead found (formals_among s (drop i ds)) ≡ formals_among s ds
