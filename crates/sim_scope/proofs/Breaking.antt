-- The least of the rules that declarations break.
use Rattle.std.proofs.Common.{◌≡◌, ◌+◌, ℕ, Bool, true, false, if◌then◌else◌, not, List, [], ◌∷◌, ◌++◌, length, Option, Some, None, refl, sym, ap, ◌∙◌, subst}
use Rattle.std.specs.Prelude.{◌&&◌, nat_eq, nat_lt, slice_get}
use Rattle.std.specs.List.{list_any}
use Rattle.std.specs.Str.{bytes_eq}
use Rattle.sim_base.specs.declared.numbering.DeclNo.{DeclNo}
use Rattle.sim_base.specs.declared.numbering.TokenNo.{TokenNo}
use Rattle.sim_base.specs.declared.rule.Rule.{Rule}
use Rattle.sim_base.specs.declared.rule.Rule.TheVariants as r
use Rattle.sim_tree.specs.declared.expr.Identifier.{Identifier}
use Rattle.sim_tree.specs.Syntax.{Program}
use Rattle.sim_scope.specs.declared.found.Fault.{Fault}
use Rattle.sim_scope.specs.declared.scopes.Declaration.{Declaration}
use Rattle.sim_values.specs.declared.standard.Standard.{Standard}
use Rattle.sim_scope.specs.declared.types.Entry.{Entry}
use Rattle.sim_scope.specs.declared.types.Entry.TheVariants as entry
use Rattle.sim_scope.specs.declared.types.FormalKind.{FormalKind}
use Rattle.sim_scope.specs.declared.types.Mode.{Mode}
use Rattle.sim_scope.specs.declared.types.SimType.{SimType}
use Rattle.sim_scope.specs.declared.types.StandardClass.{StandardClass}
use Rattle.sim_scope.specs.declared.types.WrittenMode.{WrittenMode}
use Rattle.sim_scope.specs.Breaks.{again_breaks, all_breaks, at, breaks, counting_breaks, broken_by, declaration_breaks, inner_breaks, inner_breaks_in, inner_breaks_of, mode_breaks, mode_breaks_of, row_breaks, specification_breaks, specification_breaks_of, where_true, heading_breaks, written_breaks}
use Rattle.sim_scope.specs.Building.{Breaks, Brings, BuildingOf, Closes, Declares, DeclaresClass, DeclaresProcedure, Headed, Inner, Mark, Moded, Opens, Parameter, Prefixes, Protects, Provides, Qualifies, Specified, added, block_around, brings, brings_at, broken, broken_if, changed, changed_row, closed, closed_at, counted, counted_in, declared, declared_again, declared_at, declared_inside, declared_new, declared_twice, entered, first_brought, formal, found_in, guards, guards_at, headed, holding_class, in_class, inner, inner_at, inner_in, is_by_name, is_match, is_procedure, level_in, marked, match_known, matched, mode_allowed, moded, moded_as, most_declarations, most_levels, name_of, place_of, prefixed_by, provided_alone, provided_in, provides, provides_in, qualified, specified, specified_as, token_in, unspecified_at, unspecified_in, with_entry, with_mode}
use Rattle.sim_scope.specs.Declare.{declared_by, declaring, empty}
use Rattle.sim_scope.specs.Least.{IsLeast}
use Rattle.sim_scope.specs.Runs.{run}
use Rattle.sim_scope.specs.Scopes.{declared_in, entry_of}
use Rattle.sim_scope.specs.Standard.{attribute_name}
use Rattle.sim_scope.specs.Tables.{BlockOf}
use Rattle.sim_scope.specs.Walk.{program_events}
use Rattle.sim_scope.proofs.Leasts.{noted, noted-least}

noted-append : (f : Option Fault) (xs ys : List Fault) → noted f (xs ++ ys) ≡ noted (noted f xs) ys
unfolding noted
noted-append f [] ys = refl
noted-append f (x ∷ xs) ys = noted-append (noted f (x ∷ [])) xs ys

if-broken : (c : Bool) (b : BuildingOf) (token : ℕ) (rule : Rule) → (broken_if c b token rule).least ≡ noted b.least (where_true c token rule)
unfolding noted
if-broken true b token rule = refl
if-broken false b token rule = refl

added-least : (b : BuildingOf) (x : Identifier) (e : Entry) (block : ℕ) (listed : Bool) → (added b x e block listed).least ≡ noted b.least (counting_breaks b x)
unfolding noted
added-least b x e block listed = if-broken (nat_eq b.own most_declarations) _ x.token.0 r.TooManyDeclarations

again-least : (b : BuildingOf) (x : Identifier) (e : Entry) (block : ℕ) (o : Option DeclNo) → (declared_again b x e block o).least ≡ noted b.least (again_breaks b x e o)
unfolding noted
again-least b x e block None = refl
again-least b x e block (Some d) = go (is_match e (entry_of b.tables d))
  where
    go : (c : Bool) → (if c then matched b x e block d else declared_twice b x (Some d)).least ≡ noted b.least (if c then counting_breaks b x else at x.token.0 r.DeclaredTwice)
    go true = added-least (match_known b d) x e block false
    go false = refl

declaring-row : (b : BuildingOf) (x : Identifier) (e : Entry) (block : ℕ) (o : Option BlockOf) → (declared_at b x e block o).least ≡ noted b.least (row_breaks b x e o)
unfolding noted
declaring-row b x e block None = refl
declaring-row b x e block (Some row) = go (list_any (bytes_eq x.name) row.names)
  where
    go : (c : Bool) → (if c then declared_again b x e block (declared_in (Some row) x.name) else declared_new b x e block row).least ≡ noted b.least (if c then again_breaks b x e (declared_in (Some row) x.name) else counting_breaks b x)
    go true = again-least b x e block (declared_in (Some row) x.name)
    go false = if-broken (nat_eq b.own most_declarations) _ x.token.0 r.TooManyDeclarations

declaring-least : (b : BuildingOf) (x : Identifier) (e : Entry) (o : Option ℕ) → (declared_inside b x e o).least ≡ noted b.least (declaration_breaks b x e o)
unfolding noted
declaring-least b x e None = refl
declaring-least b x e (Some block) = declaring-row b x e block (slice_get b.tables.blocks block)

changed-row : (b : BuildingOf) (change : BlockOf → BlockOf) (block : ℕ) (o : Option BlockOf) → (changed_row b change block o).least ≡ b.least
changed-row b change block None = refl
changed-row b change block (Some row) = refl

changed-least : (b : BuildingOf) (change : BlockOf → BlockOf) (o : Option ℕ) → (changed b change o).least ≡ b.least
changed-least b change None = refl
changed-least b change (Some block) = changed-row b change block (slice_get b.tables.blocks block)

counted-row : (b : BuildingOf) (block : ℕ) (o : Option BlockOf) → (counted b block o).least ≡ b.least
counted-row b block None = refl
counted-row b block (Some row) = refl

counted-least : (b : BuildingOf) (o : Option ℕ) → (counted_in b o).least ≡ b.least
counted-least b None = refl
counted-least b (Some block) = counted-row b block (slice_get b.tables.blocks block)

closed-row : (b : BuildingOf) (token block : ℕ) (o : Option BlockOf) → (closed_at b token block o).least ≡ b.least
closed-row b token block None = refl
closed-row b token block (Some row) = refl

closed-least : (b : BuildingOf) (token : ℕ) (o : Option ℕ) → (closed b token o).least ≡ b.least
closed-least b token None = refl
closed-least b token (Some block) = closed-row b token block (slice_get b.tables.blocks block)

entered-row : (b : BuildingOf) (d : DeclNo) (e : Entry) (o : Option Declaration) → (entered b d e o).least ≡ b.least
entered-row b d e None = refl
entered-row b d e (Some row) = refl

entry-least : (b : BuildingOf) (d : DeclNo) (e : Entry) → (with_entry b d e).least ≡ b.least
entry-least b d e = entered-row b d e (slice_get b.tables.declarations d.0)

moded-row : (b : BuildingOf) (token : TokenNo) (m : Mode) (d : DeclNo) (o : Option (Option WrittenMode)) → (moded_as b token m d o).least ≡ noted b.least (mode_breaks_of b token m o)
unfolding noted
moded-row b token m d None = refl
moded-row b token m d (Some (Some written)) = refl
moded-row b token m d (Some None) = go (is_by_name m && in_class b)
  where
    go : (c : Bool) → (if c then broken b token.0 r.ModeNotAllowed else with_entry b d (entry.Unspecified (Some (record { token = token; mode = m })))).least ≡ noted b.least (where_true c token.0 r.ModeNotAllowed)
    go true = refl
    go false = entry-least b d (entry.Unspecified (Some (record { token = token; mode = m })))

moded-least : (b : BuildingOf) (token : TokenNo) (m : Mode) (o : Option DeclNo) → (moded b token m o).least ≡ noted b.least (mode_breaks b token m o)
unfolding noted
moded-least b token m None = refl
moded-least b token m (Some d) = moded-row b token m d (unspecified_in (entry_of b.tables d))

with-mode : (b : BuildingOf) (d : DeclNo) (k : FormalKind) (ty : Option SimType) (o : Option WrittenMode) → (with_mode b d k ty o).least ≡ noted b.least (written_breaks k ty o)
unfolding noted
with-mode b d k ty None = entry-least b d _
with-mode b d k ty (Some w) =
    if-broken (not (mode_allowed w.mode k ty)) (with_entry b d (formal w.mode k ty)) w.token.0 r.ModeNotAllowed
    ∙ ap (λ z. noted z (where_true (not (mode_allowed w.mode k ty)) w.token.0 r.ModeNotAllowed)) (entry-least b d (formal w.mode k ty))

specified-row : (b : BuildingOf) (token : TokenNo) (k : FormalKind) (ty : Option SimType) (d : DeclNo) (o : Option (Option WrittenMode)) → (specified_as b token k ty d o).least ≡ noted b.least (specification_breaks_of b token k ty d o)
unfolding noted
specified-row b token k ty d None = refl
specified-row b token k ty d (Some written) =
    let c : Bool = is_procedure k && in_class b in
    let at : ℕ = token_in (slice_get b.tables.declarations d.0) in
    if-broken c (with_mode b d k ty written) at r.ModeNotAllowed
    ∙ ap (λ z. noted z (where_true c at r.ModeNotAllowed)) (with-mode b d k ty written)
    ∙ sym (noted-append b.least (written_breaks k ty written) (where_true c at r.ModeNotAllowed))

specified-least : (b : BuildingOf) (token : TokenNo) (k : FormalKind) (ty : Option SimType) (o : Option DeclNo) → (specified b token k ty o).least ≡ noted b.least (specification_breaks b token k ty o)
unfolding noted
specified-least b token k ty None = refl
specified-least b token k ty (Some d) = specified-row b token k ty d (unspecified_in (entry_of b.tables d))

headed-least : (b : BuildingOf) (token : TokenNo) (o : Option (Option WrittenMode)) → (headed b token o).least ≡ noted b.least (heading_breaks token o)
unfolding noted
headed-least b token None = refl
headed-least b token (Some written) = refl

inner-in : (b : BuildingOf) (token block : ℕ) (row : BlockOf) (o : Option ℕ) → (inner_in b token block row o).least ≡ noted b.least (inner_breaks_in token o)
unfolding noted
inner-in b token block row None = refl
inner-in b token block row (Some other) = refl

inner-row : (b : BuildingOf) (token block : ℕ) (o : Option BlockOf) → (inner_at b token block o).least ≡ noted b.least (inner_breaks_of token o)
unfolding noted
inner-row b token block None = refl
inner-row b token block (Some row) = inner-in b token block row row.inner

inner-least : (b : BuildingOf) (token : ℕ) (o : Option ℕ) → (inner b token o).least ≡ noted b.least (inner_breaks b token o)
unfolding noted
inner-least b token None = refl
inner-least b token (Some block) = inner-row b token block (slice_get b.tables.blocks block)

if-same : (c : Bool) (b n : BuildingOf) → n.least ≡ b.least → (if c then b else n).least ≡ b.least
if-same true b n e = refl
if-same false b n e = e

qualified-least : (b : BuildingOf) (class : Identifier) (o : Option DeclNo) → (qualified b class o).least ≡ b.least
qualified-least b class None = refl
qualified-least b class (Some d) = refl

brings-row : (b : BuildingOf) (which : StandardClass) (token block : ℕ) (o : Option BlockOf) → (brings_at b which token block o).least ≡ b.least
brings-row b which token block None = refl
brings-row b which token block (Some row) = if-same (list_any (bytes_eq (name_of which)) row.brought_names) b _ refl

brings-least : (b : BuildingOf) (which : StandardClass) (token : ℕ) (o : Option ℕ) → (brings b which token o).least ≡ b.least
brings-least b which token None = refl
brings-least b which token (Some block) = brings-row b which token block (slice_get b.tables.blocks block)

alone-row : (b : BuildingOf) (name : Standard) (token : ℕ) (first : Option DeclNo) (block : ℕ) (o : Option BlockOf) → (provided_alone b name token first block o).least ≡ b.least
alone-row b name token first block None = refl
alone-row b name token first block (Some row) = if-same (list_any (bytes_eq (attribute_name name)) row.brought_names) b _ refl

provided-row : (b : BuildingOf) (name : Standard) (token : ℕ) (first : Option DeclNo) (block : ℕ) (o : Option BlockOf) → (provided_in b name token first block o).least ≡ b.least
provided-row b name token first block None = refl
provided-row b name token first block (Some row) = if-same (list_any (bytes_eq (attribute_name name)) row.names) b _ refl

provides-at : (b : BuildingOf) (which : Option StandardClass) (name : Standard) (token block : ℕ) (first : Option DeclNo) → (provides_in b which name token block first).least ≡ b.least
provides-at b None name token block first = alone-row b name token first block (slice_get b.tables.blocks block)
provides-at b (Some which) name token block first = provided-row b name token first (block + 1 + place_of which) (slice_get b.tables.blocks (block + 1 + place_of which))

provides-least : (b : BuildingOf) (which : Option StandardClass) (name : Standard) (token : ℕ) (o : Option ℕ) → (provides b which name token o).least ≡ b.least
provides-least b which name token None = refl
provides-least b which name token (Some block) = provides-at b which name token block (first_brought (slice_get b.tables.blocks block))

guards-row : (b : BuildingOf) (hides keeps : Bool) (x : Identifier) (block : ℕ) (o : Option BlockOf) → (guards_at b hides keeps x block o).least ≡ b.least
guards-row b hides keeps x block None = refl
guards-row b hides keeps x block (Some row) = refl

guards-least : (b : BuildingOf) (hides keeps : Bool) (x : Identifier) (o : Option ℕ) → (guards b hides keeps x o).least ≡ b.least
guards-least b hides keeps x None = refl
guards-least b hides keeps x (Some block) = guards-row b hides keeps x block (slice_get b.tables.blocks block)

marked-least : (b : BuildingOf) (m : Mark) → (marked b m).least ≡ noted b.least (breaks b m)
unfolding marked breaks noted
marked-least b (Opens k text first) = if-broken (nat_lt most_levels (level_in k (block_around b.tables b.current))) _ text r.TooManyLevels
marked-least b (Closes end) = closed-least b end b.current
marked-least b (Declares x e) = declaring-least b x e b.current
marked-least b (DeclaresProcedure x result) = declaring-least b x (entry.Procedure result (length b.tables.blocks)) b.current
marked-least b (DeclaresClass x) = changed-least (declared b x (entry.Class (length b.tables.blocks))) holding_class b.current ∙ declaring-least b x (entry.Class (length b.tables.blocks)) b.current
marked-least b (Parameter x) = counted-least (declared b x (entry.Unspecified None)) (declared b x (entry.Unspecified None)).current ∙ declaring-least b x (entry.Unspecified None) b.current
marked-least b (Moded x m) = moded-least b x.token m (found_in b.tables b.current x.name)
marked-least b (Specified x k ty) = let d = found_in b.tables b.current x.name in specified-least (record b { latest = d }) x.token k ty d
marked-least b (Headed x) = headed-least b x.token (unspecified_at b.tables (found_in b.tables b.current x.name))
marked-least b (Qualifies class) = qualified-least b class b.latest
marked-least b (Prefixes class) = changed-least b (prefixed_by class) b.current
marked-least b (Brings which token) = brings-least b which token b.current
marked-least b (Provides which name token) = provides-least b which name token b.current
marked-least b (Protects hides keeps x) = guards-least b hides keeps x b.current
marked-least b (Inner token) = inner-least b token b.current
marked-least b (Breaks token rule) = refl

all-least : (b : BuildingOf) (ms : List Mark) → (run marked b ms).least ≡ noted b.least (all_breaks b ms)
unfolding run all_breaks noted
all-least b [] = refl
all-least b (m ∷ ms) =
    all-least (marked b m) ms ∙ ap (λ z. noted z (all_breaks (marked b m) ms)) (marked-least b m) ∙ sym (noted-append b.least (breaks b m) (all_breaks (marked b m) ms))

pub least_declared : (p : Program) → IsLeast (broken_by p) (declared_by p).least
unfolding broken_by declared_by
least_declared p =
    let ms : List Mark = program_events declaring p in
    subst (λ o. IsLeast (all_breaks empty ms) o) (sym (all-least empty ms)) (noted-least (all_breaks empty ms))
