-- The rules that the declarations of a program break, each at its token.
use Rattle.std.specs.Prelude.{ℕ, Bool, true, false, not, ◌&&◌, nat_eq, nat_lt, if◌then◌else◌, List, [], ◌∷◌, ◌++◌, length, Option, Some, None, slice_get}
use Rattle.std.specs.List.{list_any}
use Rattle.std.specs.Str.{bytes_eq}
use Rattle.sim_base.specs.declared.numbering.DeclNo.{DeclNo}
use Rattle.sim_base.specs.declared.numbering.TokenNo.{TokenNo}
use Rattle.sim_base.specs.declared.rule.Rule.{Rule}
use Rattle.sim_base.specs.declared.rule.Rule.TheVariants as r
use Rattle.sim_tree.specs.declared.expr.Identifier.{Identifier}
use Rattle.sim_tree.specs.Syntax.{Program}
use Rattle.sim_scope.specs.declared.found.Fault.{Fault}
use Rattle.sim_scope.specs.declared.types.Entry.{Entry}
use Rattle.sim_scope.specs.declared.types.Entry.TheVariants as entry
use Rattle.sim_scope.specs.declared.types.FormalKind.{FormalKind}
use Rattle.sim_scope.specs.declared.types.Mode.{Mode}
use Rattle.sim_scope.specs.declared.types.SimType.{SimType}
use Rattle.sim_scope.specs.declared.types.WrittenMode.{WrittenMode}
use Rattle.sim_scope.specs.Building.{BuildingOf, Mark, Opens, Closes, Declares, DeclaresProcedure, DeclaresClass, Parameter, Moded, Specified, Headed, Qualifies, Prefixes, Brings, Provides, Protects, Inner, Breaks, block_around, found_in, in_class, is_match, is_by_name, is_procedure, level_in, marked, mode_allowed, most_declarations, most_levels, token_in, unspecified_at, unspecified_in}
use Rattle.sim_scope.specs.Declare.{declaring, empty}
use Rattle.sim_scope.specs.Found.{fault}
use Rattle.sim_scope.specs.Scopes.{declared_in, entry_of}
use Rattle.sim_scope.specs.Tables.{BlockOf}
use Rattle.sim_scope.specs.Walk.{program_events}

abbrev pub at : (token : ℕ) → Rule → List Fault
at token rule = fault token rule ∷ []

abbrev pub where_true : Bool → (token : ℕ) → Rule → List Fault
where_true true token rule = at token rule
where_true false token rule = []

-- L1: a block at a level past the last one, at the first token of its text
abbrev pub level_breaks : (text level : ℕ) → List Fault
level_breaks text level = where_true (nat_lt most_levels level) text r.TooManyLevels

-- S1: an identifier that its block declares already. L3: the declaration past the last one that a program may have.
abbrev pub counting_breaks : BuildingOf → Identifier → List Fault
counting_breaks b x = where_true (nat_eq b.own most_declarations) x.token.0 r.TooManyDeclarations

abbrev pub again_breaks : BuildingOf → Identifier → Entry → Option DeclNo → List Fault
again_breaks b x e None = at x.token.0 r.DeclaredTwice
again_breaks b x e (Some d) = if is_match e (entry_of b.tables d) then counting_breaks b x else at x.token.0 r.DeclaredTwice

abbrev pub row_breaks : BuildingOf → Identifier → Entry → Option BlockOf → List Fault
row_breaks b x e None = []
row_breaks b x e (Some row) =
    if list_any (bytes_eq x.name) row.names then again_breaks b x e (declared_in (Some row) x.name) else counting_breaks b x

abbrev pub declaration_breaks : BuildingOf → Identifier → Entry → Option ℕ → List Fault
declaration_breaks b x e None = []
declaration_breaks b x e (Some block) = row_breaks b x e (slice_get b.tables.blocks block)

-- S5: an identifier of the mode part that is no parameter, or that a mode part names before, or by name in a class
abbrev pub mode_breaks_of : BuildingOf → TokenNo → Mode → Option (Option WrittenMode) → List Fault
mode_breaks_of b token m None = at token.0 r.ModeNotAllowed
mode_breaks_of b token m (Some (Some written)) = at token.0 r.ModeNotAllowed
mode_breaks_of b token m (Some None) = where_true (is_by_name m && in_class b) token.0 r.ModeNotAllowed

abbrev pub mode_breaks : BuildingOf → TokenNo → Mode → Option DeclNo → List Fault
mode_breaks b token m None = at token.0 r.ModeNotAllowed
mode_breaks b token m (Some d) = mode_breaks_of b token m (unspecified_in (entry_of b.tables d))

-- S5: the identifier in the mode part, where what is specified may not be passed so
abbrev pub written_breaks : FormalKind → Option SimType → Option WrittenMode → List Fault
written_breaks k ty None = []
written_breaks k ty (Some w) = where_true (not (mode_allowed w.mode k ty)) w.token.0 r.ModeNotAllowed

-- S4: an identifier of a specification that is no parameter, or that a specification names before. S5: the parameter of a class that is a procedure.
abbrev pub specification_breaks_of : BuildingOf → TokenNo → FormalKind → Option SimType → DeclNo → Option (Option WrittenMode) → List Fault
specification_breaks_of b token k ty d None = at token.0 r.SpecificationDisagrees
specification_breaks_of b token k ty d (Some written) =
    written_breaks k ty written ++ where_true (is_procedure k && in_class b) (token_in (slice_get b.tables.declarations d.0)) r.ModeNotAllowed

abbrev pub specification_breaks : BuildingOf → TokenNo → FormalKind → Option SimType → Option DeclNo → List Fault
specification_breaks b token k ty None = at token.0 r.SpecificationDisagrees
specification_breaks b token k ty (Some d) = specification_breaks_of b token k ty d (unspecified_in (entry_of b.tables d))

-- S4: a parameter without a specification
abbrev pub heading_breaks : TokenNo → Option (Option WrittenMode) → List Fault
heading_breaks token None = []
heading_breaks token (Some written) = at token.0 r.SpecificationDisagrees

-- S6: a second `inner` in the statement list of a class's body (and `inner` elsewhere, which is met as such)
abbrev pub inner_breaks_in : (token : ℕ) → Option ℕ → List Fault
inner_breaks_in token None = []
inner_breaks_in token (Some other) = at token r.InnerOutOfPlace

abbrev pub inner_breaks_of : (token : ℕ) → Option BlockOf → List Fault
inner_breaks_of token None = []
inner_breaks_of token (Some row) = inner_breaks_in token row.inner

abbrev pub inner_breaks : BuildingOf → (token : ℕ) → Option ℕ → List Fault
inner_breaks b token None = []
inner_breaks b token (Some block) = inner_breaks_of token (slice_get b.tables.blocks block)

-- what breaks a rule where it is met
unfoldable pub breaks : BuildingOf → Mark → List Fault
breaks b (Opens k text first) = level_breaks text (level_in k (block_around b.tables b.current))
breaks b (Closes end) = []
breaks b (Declares x e) = declaration_breaks b x e b.current
breaks b (DeclaresProcedure x result) = declaration_breaks b x (entry.Procedure result (length b.tables.blocks)) b.current
breaks b (DeclaresClass x) = declaration_breaks b x (entry.Class (length b.tables.blocks)) b.current
breaks b (Parameter x) = declaration_breaks b x (entry.Unspecified None) b.current
breaks b (Moded x m) = mode_breaks b x.token m (found_in b.tables b.current x.name)
breaks b (Specified x k ty) = specification_breaks b x.token k ty (found_in b.tables b.current x.name)
breaks b (Headed x) = heading_breaks x.token (unspecified_at b.tables (found_in b.tables b.current x.name))
breaks b (Qualifies class) = []
breaks b (Prefixes class) = []
breaks b (Brings which token) = []
breaks b (Provides which name token) = []
breaks b (Protects hides keeps x) = []
breaks b (Inner token) = inner_breaks b token b.current
breaks b (Breaks token rule) = at token rule

unfoldable pub all_breaks : BuildingOf → List Mark → List Fault
all_breaks b [] = []
all_breaks b (m ∷ ms) = breaks b m ++ all_breaks (marked b m) ms

-- all rules that the declarations of a program break
unfoldable pub broken_by : Program → List Fault
broken_by p = all_breaks empty (program_events declaring p)
