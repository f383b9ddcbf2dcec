-- Where no rule on declarations is broken, all that a program declares is in its tables, each parameter is specified and stands in front, and
-- the classes that are written are those of references.
use Rattle.std.proofs.Common.{◌≡◌, ◌<◌, ◌≤◌, ◌+◌, ◌⊎◌, inl, inr, ℕ, Bool, true, false, List, [], ◌∷◌, ◌++◌, length, Option, Some, None, refl, sym, ap, ◌∙◌, subst, arith, if◌then◌else◌}
use Rattle.std.specs.Prelude.{◌&&◌, nat_eq, not, slice_get, slice_set}
use Rattle.std.specs.List.{list_any}
use Rattle.std.specs.Str.{bytes_eq}
use Rattle.std.proofs.lemmas.List.{length-append}
use Rattle.std.proofs.lemmas.Option.{slice_get_within}
use Rattle.sim_base.specs.declared.numbering.DeclNo.{DeclNo}
use Rattle.sim_base.specs.declared.numbering.TokenNo.{TokenNo}
use Rattle.sim_base.specs.declared.rule.Rule.{Rule}
use Rattle.sim_base.specs.declared.rule.Rule.TheVariants as r
use Rattle.sim_tree.specs.declared.expr.Identifier.{Identifier}
use Rattle.sim_scope.specs.declared.found.Fault.{Fault}
use Rattle.sim_scope.specs.declared.scopes.Declaration.{Declaration}
use Rattle.sim_scope.specs.declared.scopes.Qualification.{Qualification}
use Rattle.sim_scope.specs.declared.types.Entry.{Entry}
use Rattle.sim_scope.specs.declared.types.Entry.TheVariants as entry
use Rattle.sim_scope.specs.declared.types.FormalKind.{FormalKind}
use Rattle.sim_scope.specs.declared.types.Mode.{Mode}
use Rattle.sim_scope.specs.declared.types.SimType.{SimType}
use Rattle.sim_scope.specs.declared.types.WrittenMode.{WrittenMode}
use Rattle.sim_scope.specs.Building.{BuildingOf, Declares, Headed, Mark, Qualifies, broken, broken_if, changed, changed_row, declared, declared_again, declared_at, declared_inside, declared_new, declared_twice, default_mode, entered, formal, headed as headed_of, holding_class, in_class, inner, inner_at, inner_in, is_procedure, marked, matched, mode_allowed, moded as moded_of, moded_as, qualified, row_of as new_row, specified as specified_of, specified_as, token_in, unspecified_in, with_entry, with_mode, with_name, prefixed_by, guards, guards_at, row_matching, is_match, is_by_name}
use Rattle.sim_scope.specs.Found.{fault, lesser, precedes}
use Rattle.sim_scope.specs.Runs.{run}
use Rattle.sim_scope.specs.Access.{around}
use Rattle.sim_scope.specs.Scopes.{declared_in, entry_in, entry_of}
use Rattle.sim_scope.specs.Tables.{BlockOf}
use Rattle.sim_scope.proofs.Kept.{more_here, set_here}
use Rattle.sim_meaning.specs.Entries.{numbers_in}
use Rattle.sim_sound.specs.Held.{Among}
use Rattle.sim_meaning.specs.Texts.{Text}
use Rattle.sim_agree.proofs.Calm.{Calm, Span, span}
use Rattle.sim_agree.proofs.Groups.{ArrayWritten, Has, NoHeaded, OfReferences, Open, OwnEntry, Quals, declared_in_text, item, own_marks, qualifies, unqualified}
use Rattle.sim_agree.proofs.Steps.{Becomes, Changed, IsParameter, Listed, Nothing, RowIs, Step, among_at}
use Rattle.sim_agree.proofs.Marks.{last_cases, matching_length}
use Rattle.sim_agree.proofs.Fine.{Fine, Stack, same_around, step_fine}

-- ---- no rule is broken

pub never_none : (o : Option Fault) (f : Fault) → lesser o f ≡ None → ⊥
never_none None f e = cc
never_none (Some least) f e = go (precedes f least) e
  where
    go : (c : Bool) → (if c then Some f else Some least) ≡ None → ⊥
    go true e = cc
    go false e = cc

pub if_clean : (a : Bool) (b : BuildingOf) (token : ℕ) (rule : Rule) → (broken_if a b token rule).least ≡ None → (a ≡ false) × (b.least ≡ None)
if_clean true b token rule e = absurd (never_none b.least (fault token rule) e)
if_clean false b token rule e = (refl, e)

pub some_same : {A : Type 0} (a b : A) → Some a ≡ Some b → a ≡ b
some_same a b e = cc

-- the new row is there
abbrev pub Made : BuildingOf → Identifier → Entry → (block : ℕ) → BuildingOf → Type 0
Made b x e n c = (listed : Bool) × (slice_get c.tables.declarations (length b.tables.declarations) ≡ Some (new_row x e n listed))

declared_row : (b : BuildingOf) (x : Identifier) (e : Entry) (n : ℕ) (o : Option BlockOf) (row : BlockOf) → o ≡ Some row → (declared_at b x e n o).least ≡ None → (b.least ≡ None) × Made b x e n (declared_at b x e n o)
declared_row b x e n None row is clean = absurd (cc)
declared_row b x e n (Some found) row is clean = go (list_any (bytes_eq x.name) found.names) clean
  where
    next : DeclNo
    next = record { 0 = length b.tables.declarations }

    knowing : DeclNo → List Declaration
    knowing d = row_matching (slice_get b.tables.declarations d.0) next b.tables.declarations d.0

    behind : DeclNo → BuildingOf
    behind d = record b { tables = record b.tables { declarations = knowing d ++ new_row x e n false ∷ [] }; own = b.own + 1; latest = Some (record { 0 = length (knowing d) }) }

    known : (d : DeclNo) (c : Bool) → (broken_if c (behind d) x.token.0 r.TooManyDeclarations).least ≡ None → (b.least ≡ None) × Made b x e n (broken_if c (behind d) x.token.0 r.TooManyDeclarations)
    known d true clean = absurd (never_none b.least (fault x.token.0 r.TooManyDeclarations) clean)
    known d false clean = (clean, (false, ap (slice_get (knowing d ++ new_row x e n false ∷ [])) (sym (matching_length (slice_get b.tables.declarations d.0) next b.tables.declarations d.0)) ∙ more_here (knowing d) (new_row x e n false)))

    either : (d : DeclNo) (c : Bool) → (if c then matched b x e n d else declared_twice b x (Some d)).least ≡ None → (b.least ≡ None) × Made b x e n (if c then matched b x e n d else declared_twice b x (Some d))
    either d true clean = known d (nat_eq b.own 65535) clean
    either d false clean = absurd (never_none b.least (fault x.token.0 r.DeclaredTwice) clean)

    again : (o : Option DeclNo) → (declared_again b x e n o).least ≡ None → (b.least ≡ None) × Made b x e n (declared_again b x e n o)
    again None clean = absurd (never_none b.least (fault x.token.0 r.DeclaredTwice) clean)
    again (Some d) clean = either d (is_match e (entry_of b.tables d)) clean

    go : (c : Bool) → (if c then declared_again b x e n (declared_in (Some found) x.name) else declared_new b x e n found).least ≡ None
        → (b.least ≡ None) × Made b x e n (if c then declared_again b x e n (declared_in (Some found) x.name) else declared_new b x e n found)
    go true clean = again (declared_in (Some found) x.name) clean
    go false clean = new (nat_eq b.own 65535) clean
      where
        after : BuildingOf
        after = record b {
          tables = record b.tables {
            blocks = slice_set b.tables.blocks n (with_name found x.name (record { 0 = length b.tables.declarations }));
            declarations = b.tables.declarations ++ new_row x e n true ∷ [];
          };
          own = b.own + 1;
          latest = Some (record { 0 = length b.tables.declarations });
        }

        new : (c : Bool) → (broken_if c after x.token.0 r.TooManyDeclarations).least ≡ None → (b.least ≡ None) × Made b x e n (broken_if c after x.token.0 r.TooManyDeclarations)
        new true clean = absurd (never_none b.least (fault x.token.0 r.TooManyDeclarations) clean)
        new false clean = (clean, (true, more_here b.tables.declarations (new_row x e n true)))

pub declared_clean : (b : BuildingOf) (x : Identifier) (e : Entry) (n : ℕ) (row : BlockOf) → b.current ≡ Some n → slice_get b.tables.blocks n ≡ Some row → (declared b x e).least ≡ None → (b.least ≡ None) × Made b x e n (declared b x e)
declared_clean b x e n row cur at clean =
    subst (λ o. (b.least ≡ None) × Made b x e n (declared_inside b x e o)) (sym cur)
    (declared_row b x e n (slice_get b.tables.blocks n) row at (subst (λ o. (declared_inside b x e o).least ≡ None) cur clean))

-- ---- what changes no blocks

-- blocks and classes written for references stay, and a rule that was broken stays broken
abbrev pub Quiet : BuildingOf → BuildingOf → Type 0
Quiet b c = (c.tables.qualifications ≡ b.tables.qualifications) × (c.least ≡ None → b.least ≡ None)

entered_quiet : (b : BuildingOf) (d : DeclNo) (e : Entry) (o : Option Declaration) → Quiet b (entered b d e o)
entered_quiet b d e None = (refl, λ q. q)
entered_quiet b d e (Some row) = (refl, λ q. q)

broken_quiet : (b : BuildingOf) (token : ℕ) (rule : Rule) → Quiet b (broken b token rule)
broken_quiet b token rule = (refl, λ e. absurd (never_none b.least (fault token rule) e))

if_quiet : (a : Bool) (b c : BuildingOf) (token : ℕ) (rule : Rule) → Quiet b c → Quiet b (broken_if a c token rule)
if_quiet true b c token rule q = (q.0, λ e. absurd (never_none c.least (fault token rule) e))
if_quiet false b c token rule q = q

entry_quiet : (b : BuildingOf) (d : DeclNo) (e : Entry) → Quiet b (with_entry b d e)
entry_quiet b d e = entered_quiet b d e (slice_get b.tables.declarations d.0)

moded_row : (b : BuildingOf) (token : TokenNo) (m : Mode) (d : DeclNo) (o : Option (Option WrittenMode)) → Quiet b (moded_as b token m d o)
moded_row b token m d None = broken_quiet b token.0 r.ModeNotAllowed
moded_row b token m d (Some (Some w)) = broken_quiet b token.0 r.ModeNotAllowed
moded_row b token m d (Some None) = go (is_by_name m && in_class b)
  where
    go : (c : Bool) → Quiet b (if c then broken b token.0 r.ModeNotAllowed else with_entry b d (entry.Unspecified (Some (record { token = token; mode = m }))))
    go true = broken_quiet b token.0 r.ModeNotAllowed
    go false = entry_quiet b d _

pub moded_quiet : (b : BuildingOf) (token : TokenNo) (m : Mode) (o : Option DeclNo) → Quiet b (moded_of b token m o)
moded_quiet b token m None = broken_quiet b token.0 r.ModeNotAllowed
moded_quiet b token m (Some d) = moded_row b token m d (unspecified_in (entry_of b.tables d))

mode_quiet : (b : BuildingOf) (d : DeclNo) (k : FormalKind) (ty : Option SimType) (o : Option WrittenMode) → Quiet b (with_mode b d k ty o)
mode_quiet b d k ty None = entry_quiet b d _
mode_quiet b d k ty (Some w) = if_quiet (not (mode_allowed w.mode k ty)) b _ w.token.0 r.ModeNotAllowed (entry_quiet b d _)

specified_row : (b : BuildingOf) (token : TokenNo) (k : FormalKind) (ty : Option SimType) (d : DeclNo) (o : Option (Option WrittenMode)) → Quiet b (specified_as b token k ty d o)
specified_row b token k ty d None = broken_quiet b token.0 r.SpecificationDisagrees
specified_row b token k ty d (Some w) = if_quiet (is_procedure k && in_class b) b _ (token_in (slice_get b.tables.declarations d.0)) r.ModeNotAllowed (mode_quiet b d k ty w)

pub specified_quiet : (b : BuildingOf) (token : TokenNo) (k : FormalKind) (ty : Option SimType) (o : Option DeclNo) → Quiet b (specified_of b token k ty o)
specified_quiet b token k ty None = broken_quiet b token.0 r.SpecificationDisagrees
specified_quiet b token k ty (Some d) = specified_row b token k ty d (unspecified_in (entry_of b.tables d))

inner_one : (b : BuildingOf) (token n : ℕ) (row : BlockOf) (o : Option ℕ) → Quiet b (inner_in b token n row o)
inner_one b token n row None = (refl, λ q. q)
inner_one b token n row (Some other) = broken_quiet b token r.InnerOutOfPlace

inner_found : (b : BuildingOf) (token n : ℕ) (o : Option BlockOf) → Quiet b (inner_at b token n o)
inner_found b token n None = (refl, λ q. q)
inner_found b token n (Some row) = inner_one b token n row row.inner

prefix_found : (b : BuildingOf) (x : Identifier) (n : ℕ) (o : Option BlockOf) → Quiet b (changed_row b (prefixed_by x) n o)
prefix_found b x n None = (refl, λ q. q)
prefix_found b x n (Some row) = (refl, λ q. q)

pub prefix_quiet : (b : BuildingOf) (x : Identifier) (o : Option ℕ) → Quiet b (changed b (prefixed_by x) o)
prefix_quiet b x None = (refl, λ q. q)
prefix_quiet b x (Some n) = prefix_found b x n (slice_get b.tables.blocks n)

guards_found : (b : BuildingOf) (hides keeps : Bool) (x : Identifier) (n : ℕ) (o : Option BlockOf) → Quiet b (guards_at b hides keeps x n o)
guards_found b hides keeps x n None = (refl, λ q. q)
guards_found b hides keeps x n (Some row) = (refl, λ q. q)

pub guards_quiet : (b : BuildingOf) (hides keeps : Bool) (x : Identifier) (o : Option ℕ) → Quiet b (guards b hides keeps x o)
guards_quiet b hides keeps x None = (refl, λ q. q)
guards_quiet b hides keeps x (Some n) = guards_found b hides keeps x n (slice_get b.tables.blocks n)

pub inner_quiet : (b : BuildingOf) (token : ℕ) (o : Option ℕ) → Quiet b (inner b token o)
inner_quiet b token None = (refl, λ q. q)
inner_quiet b token (Some n) = inner_found b token n (slice_get b.tables.blocks n)

declared_within : (b : BuildingOf) (x : Identifier) (e : Entry) (n : ℕ) (o : Option BlockOf) → (declared_at b x e n o).tables.qualifications ≡ b.tables.qualifications
declared_within b x e n None = refl
declared_within b x e n (Some found) = go (list_any (bytes_eq x.name) found.names)
  where
    if_same : (a : Bool) (c : BuildingOf) → (broken_if a c x.token.0 r.TooManyDeclarations).tables.qualifications ≡ c.tables.qualifications
    if_same true c = refl
    if_same false c = refl

    either : (d : DeclNo) (c : Bool) → (if c then matched b x e n d else declared_twice b x (Some d)).tables.qualifications ≡ b.tables.qualifications
    either d true = if_same (nat_eq b.own 65535) _
    either d false = refl

    again : (o : Option DeclNo) → (declared_again b x e n o).tables.qualifications ≡ b.tables.qualifications
    again None = refl
    again (Some d) = either d (is_match e (entry_of b.tables d))

    go : (c : Bool) → (if c then declared_again b x e n (declared_in (Some found) x.name) else declared_new b x e n found).tables.qualifications ≡ b.tables.qualifications
    go true = again (declared_in (Some found) x.name)
    go false = if_same (nat_eq b.own 65535) _

pub declared_refs : (b : BuildingOf) (x : Identifier) (e : Entry) (n : ℕ) → b.current ≡ Some n → (declared b x e).tables.qualifications ≡ b.tables.qualifications
declared_refs b x e n cur = subst (λ o. (declared_inside b x e o).tables.qualifications ≡ b.tables.qualifications) (sym cur) (declared_within b x e n (slice_get b.tables.blocks n))

-- a block that has a class
pub holding_same : (b : BuildingOf) (o : Option ℕ) → ((changed b holding_class o).least ≡ b.least) × ((changed b holding_class o).tables.qualifications ≡ b.tables.qualifications) × ((changed b holding_class o).tables.declarations ≡ b.tables.declarations)
holding_same b None = (refl, refl, refl)
holding_same b (Some n) = go (slice_get b.tables.blocks n)
  where
    go : (o : Option BlockOf) → ((changed_row b holding_class n o).least ≡ b.least) × ((changed_row b holding_class n o).tables.qualifications ≡ b.tables.qualifications) × ((changed_row b holding_class n o).tables.declarations ≡ b.tables.declarations)
    go None = (refl, refl, refl)
    go (Some row) = (refl, refl, refl)

pub headed_clean : (b : BuildingOf) (token : TokenNo) (o : Option (Option WrittenMode)) → (headed_of b token o).least ≡ None → (o ≡ None) × Quiet b (headed_of b token o)
headed_clean b token None e = (refl, (refl, λ is. is))
headed_clean b token (Some w) e = absurd (never_none b.least (fault token.0 r.SpecificationDisagrees) e)

pub quals_least : (b : BuildingOf) (R : Type 0) (quals : List Mark) → Quals R quals → (run marked b quals).least ≡ b.least
unfolding run marked
quals_least b R quals (unqualified free) = refl
quals_least b R quals (qualifies x q) = go b.latest
  where
    go : (o : Option DeclNo) → (qualified b x o).least ≡ b.least
    go None = refl
    go (Some d) = refl

-- ---- a specification that breaks no rule

pub record SpecifiedRow (c : BuildingOf) (d : DeclNo) (k : FormalKind) (ty : Option SimType) : Type 0 where
  pub row : Declaration
  pub at : slice_get c.tables.declarations d.0 ≡ Some row
  pub mode : Mode
  pub entry : row.entry ≡ formal mode k ty

entered_at : (b : BuildingOf) (d : DeclNo) (m : Mode) (k : FormalKind) (ty : Option SimType) (o : Option Declaration) (w : Option WrittenMode) → slice_get b.tables.declarations d.0 ≡ o → unspecified_in (entry_in o) ≡ Some w → SpecifiedRow (entered b d (formal m k ty) o) d k ty
entered_at b d m k ty None w at is = absurd (cc)
entered_at b d m k ty (Some old) w at is = record { row = record old { entry = formal m k ty }; at = set_here b.tables.declarations d.0 old (record old { entry = formal m k ty }) at; mode = m; entry = refl }

if_row : (a : Bool) (c : BuildingOf) (token : ℕ) (rule : Rule) (d : DeclNo) (k : FormalKind) (ty : Option SimType) → (broken_if a c token rule).least ≡ None → (c.least ≡ None → SpecifiedRow c d k ty) → SpecifiedRow (broken_if a c token rule) d k ty
if_row true c token rule d k ty e h = absurd (never_none c.least (fault token rule) e)
if_row false c token rule d k ty e h = h e

mode_at : (b : BuildingOf) (d : DeclNo) (k : FormalKind) (ty : Option SimType) (w : Option WrittenMode) → unspecified_in (entry_of b.tables d) ≡ Some w → (with_mode b d k ty w).least ≡ None → SpecifiedRow (with_mode b d k ty w) d k ty
unfolding entry_of
mode_at b d k ty None is e = entered_at b d (default_mode k ty) k ty (slice_get b.tables.declarations d.0) None refl is
mode_at b d k ty (Some w) is e = if_row (not (mode_allowed w.mode k ty)) _ w.token.0 r.ModeNotAllowed d k ty e (λ q. entered_at b d w.mode k ty (slice_get b.tables.declarations d.0) (Some w) refl is)

as_at : (b : BuildingOf) (token : TokenNo) (k : FormalKind) (ty : Option SimType) (d : DeclNo) (o : Option (Option WrittenMode)) → unspecified_in (entry_of b.tables d) ≡ o → (specified_as b token k ty d o).least ≡ None → SpecifiedRow (specified_as b token k ty d o) d k ty
as_at b token k ty d None is e = absurd (never_none b.least (fault token.0 r.SpecificationDisagrees) e)
as_at b token k ty d (Some w) is e = if_row (is_procedure k && in_class b) (with_mode b d k ty w) (token_in (slice_get b.tables.declarations d.0)) r.ModeNotAllowed d k ty e (λ q. mode_at b d k ty w is q)

pub specified_at : (b : BuildingOf) (token : TokenNo) (k : FormalKind) (ty : Option SimType) (o : Option DeclNo) → (specified_of b token k ty o).least ≡ None → (d : DeclNo) × (o ≡ Some d) × SpecifiedRow (specified_of b token k ty o) d k ty
specified_at b token k ty None e = absurd (never_none b.least (fault token.0 r.SpecificationDisagrees) e)
specified_at b token k ty (Some d) e = (d, refl, as_at b token k ty d (unspecified_in (entry_of b.tables d)) refl e)

if_latest : (a : Bool) (b : BuildingOf) (token : ℕ) (rule : Rule) → (broken_if a b token rule).latest ≡ b.latest
if_latest true b token rule = refl
if_latest false b token rule = refl

entered_latest : (b : BuildingOf) (d : DeclNo) (e : Entry) (o : Option Declaration) → (entered b d e o).latest ≡ b.latest
entered_latest b d e None = refl
entered_latest b d e (Some row) = refl

pub specified_latest : (b : BuildingOf) (token : TokenNo) (k : FormalKind) (ty : Option SimType) (o : Option DeclNo) → (specified_of b token k ty o).latest ≡ b.latest
specified_latest b token k ty None = refl
specified_latest b token k ty (Some d) = go (unspecified_in (entry_of b.tables d))
  where
    with_one : (w : Option WrittenMode) → (with_mode b d k ty w).latest ≡ b.latest
    with_one None = entered_latest b d _ (slice_get b.tables.declarations d.0)
    with_one (Some w) = if_latest (not (mode_allowed w.mode k ty)) _ w.token.0 r.ModeNotAllowed ∙ entered_latest b d _ (slice_get b.tables.declarations d.0)

    go : (o : Option (Option WrittenMode)) → (specified_as b token k ty d o).latest ≡ b.latest
    go None = refl
    go (Some w) = if_latest (is_procedure k && in_class b) (with_mode b d k ty w) (token_in (slice_get b.tables.declarations d.0)) r.ModeNotAllowed ∙ with_one w

-- ---- marks that are still to come

abbrev pub out : List BlockOf → Option ℕ → Option ℕ
out bs None = None
out bs (Some k) = around (slice_get bs k)

-- a mark is still to come in the block with this number
abbrev pub OwedAt : List BlockOf → (current : Option ℕ) → List Open → (block : ℕ) → Mark → Type 0
OwedAt bs current [] n m = ⊥
OwedAt bs current (o ∷ os) n m = ((current ≡ Some n) × Has m o.owed) ⊎ OwedAt bs (out bs current) os n m

abbrev pub Same : List BlockOf → List BlockOf → List Text → Type 0
Same bs cs ts = (n : ℕ) (x : Text) → slice_get ts n ≡ Some x → around (slice_get cs n) ≡ around (slice_get bs n)

pub owed_kept : (bs cs : List BlockOf) (ts : List Text) → Same bs cs ts → (os : List Open) (current : Option ℕ) (n : ℕ) (m : Mark) → Stack bs ts current os → OwedAt bs current os n m → OwedAt cs current os n m
owed_kept bs cs ts keep [] current n m s q = absurd q
owed_kept bs cs ts keep (o ∷ os) current n m s (inl q) = inl q
owed_kept bs cs ts keep (o ∷ os) current n m s (inr q) =
    let e : out bs current ≡ around (slice_get bs s.0) = ap (out bs) s.1 in
    let f : out cs current ≡ around (slice_get bs s.0) = ap (out cs) s.1 ∙ keep s.0 o.text s.2 in
    inr (subst (λ z. OwedAt cs z os n m) (sym f) (owed_kept bs cs ts keep os (around (slice_get bs s.0)) n m s.3 (subst (λ z. OwedAt bs z os n m) e q)))

-- what is owed further out is owed in earlier blocks
pub owed_below : (bs : List BlockOf) → ((t u : ℕ) → around (slice_get bs t) ≡ Some u → u < t) → (os : List Open) (current : Option ℕ) (k n : ℕ) (m : Mark) → ((u : ℕ) → current ≡ Some u → u < k) → OwedAt bs current os n m → n < k
owed_below bs nested [] current k n m under q = absurd q
owed_below bs nested (o ∷ os) current k n m under (inl q) = under n q.0
owed_below bs nested (o ∷ os) current k n m under (inr q) = owed_below bs nested os (out bs current) k n m (go current under) q
  where
    go : (c : Option ℕ) → ((u : ℕ) → c ≡ Some u → u < k) → (u : ℕ) → out bs c ≡ Some u → u < k
    go None h u e = absurd (cc)
    go (Some t) h u e = let lt : u < t = nested t u e in let le : t < k = h t refl in omega arith

-- behind the heading of the innermost text nothing of a heading is owed in it
pub heading_past : (b : BuildingOf) (ts : List Text) (x : Text) (owed : List Mark) (os : List Open) → Fine b ts (item x owed ∷ os) → NoHeaded owed → (n : ℕ) → b.current ≡ Some n → (y : Identifier) → OwedAt b.tables.blocks b.current (item x owed ∷ os) n (Headed y) → ⊥
heading_past b ts x owed os f free n cur y (inl q) = free y q.1
heading_past b ts x owed os f free n cur y (inr q) =
    let lt : n < n = owed_below b.tables.blocks f.nested os (out b.tables.blocks b.current) n n (Headed y) (λ u e. f.nested n u (sym (ap (out b.tables.blocks) cur) ∙ e)) q in
    omega arith

-- a declaration of a text has its row
pub record RowFor (b : BuildingOf) (n : ℕ) (x : Identifier) (e : Entry) : Type 0 where
  pub number : ℕ
  pub row : Declaration
  pub at : slice_get b.tables.declarations number ≡ Some row
  pub name : row.name ≡ x.name
  pub token : row.token ≡ x.token
  pub block : row.block ≡ n
  pub entry : row.entry ≡ e
  pub own : OwnEntry e

-- the first declarations of a block are its formal parameters, as many as it has
pub record Counts (ds : List Declaration) (row : BlockOf) : Type 0 where
  pub fits : row.formals ≤ length row.numbers
  pub front : (n : ℕ) (d : DeclNo) (r : Declaration) → slice_get row.numbers n ≡ Some d → slice_get ds d.0 ≡ Some r → n < row.formals → IsParameter r.entry
  pub back : (n : ℕ) (d : DeclNo) (r : Declaration) → slice_get row.numbers n ≡ Some d → slice_get ds d.0 ≡ Some r → IsParameter r.entry → n < row.formals

-- the array of a row is declared in the text of its block, with this class
pub record WrittenFor (ts : List Text) (row : Declaration) (class : Identifier) : Type 0 where
  pub text : Text
  pub at : slice_get ts row.block ≡ Some text
  pub name : Identifier
  pub token : name.token ≡ row.token
  pub written : ArrayWritten name (Qualifies class ∷ []) (declared_in_text text)

abbrev pub Origins : BuildingOf → List Text → Type 0
Origins b ts = (q : ℕ) (x : Qualification) (row : Declaration) (ty : SimType) (n : ℕ) → slice_get b.tables.qualifications q ≡ Some x → slice_get b.tables.declarations x.declaration.0 ≡ Some row → row.entry ≡ entry.Array ty n → WrittenFor ts row x.class

pub record Clean (b : BuildingOf) (ts : List Text) (os : List Open) : Type 0 where
  pub complete : (n : ℕ) (x : Text) → slice_get ts n ≡ Some x → (y : Identifier) (e : Entry) → Has (Declares y e) (own_marks (declared_in_text x)) → RowFor b n y e ⊎ OwedAt b.tables.blocks b.current os n (Declares y e)
  pub heads : (d : ℕ) (row : Declaration) (w : Option WrittenMode) → slice_get b.tables.declarations d ≡ Some row → row.entry ≡ entry.Unspecified w → (y : Identifier) × (y.name ≡ row.name) × OwedAt b.tables.blocks b.current os row.block (Headed y) × (row.listed ≡ true)
  -- in front of the end of a heading a block lists but parameters
  pub early : (n : ℕ) (y : Identifier) → OwedAt b.tables.blocks b.current os n (Headed y) → (d : ℕ) (row : Declaration) → slice_get b.tables.declarations d ≡ Some row → row.block ≡ n → row.listed ≡ true → IsParameter row.entry
  pub counts : (k : ℕ) (row : BlockOf) → slice_get b.tables.blocks k ≡ Some row → Counts b.tables.declarations row
  pub refs : (q : ℕ) (x : Qualification) → slice_get b.tables.qualifications q ≡ Some x → (row : Declaration) × (slice_get b.tables.declarations x.declaration.0 ≡ Some row) × OfReferences row.entry
  pub origins : Origins b ts

-- ---- what becomes of entries

pub param_stays : (old new : Entry) → Becomes old new → IsParameter old → IsParameter new
param_stays old new (inl e) p = subst IsParameter (sym e) p
param_stays old new (inr (inl q)) p = q.3
param_stays old new (inr (inr q)) p = absurd (subst IsParameter q.2 p)

pub param_was : (old new : Entry) → Becomes old new → IsParameter new → IsParameter old
param_was old new (inl e) p = subst IsParameter e p
param_was old new (inr (inl q)) p = subst IsParameter (sym q.1) tt
param_was old new (inr (inr q)) p = absurd (subst IsParameter q.3 p)

refs_stay : (old new : Entry) → Becomes old new → OfReferences old → OfReferences new
refs_stay old new (inl e) p = subst OfReferences (sym e) p
refs_stay old new (inr (inl q)) p = absurd (subst OfReferences q.1 p)
refs_stay old new (inr (inr q)) p = subst OfReferences (sym q.3) (subst OfReferences q.2 p)

array_was : (old new : Entry) (ty : SimType) (n : ℕ) → Becomes old new → new ≡ entry.Array ty n → old ≡ entry.Array ty n
array_was old new ty n (inl e) is = sym e ∙ is
array_was old new ty n (inr (inl q)) is = absurd (subst IsParameter is q.3)
array_was old new ty n (inr (inr q)) is = absurd (let e : entry.Virtual q.0 (Some q.1) ≡ entry.Array ty n = sym q.3 ∙ is in cc)

-- ---- steps

abbrev formals_of : Option Span → ℕ
formals_of None = 0
formals_of (Some x) = x.formals

-- a row is an old one or the next one
abbrev pub IsNew : (next : ℕ) → (ℕ → Declaration → Type 0) → Type 0
IsNew next New = (d : ℕ) (row : Declaration) → New d row → d ≡ next

module _ (b c : BuildingOf) (New : ℕ → Declaration → Type 0) (s : Step b c New) (ts : List Text) where
  keeps : Same b.tables.blocks c.tables.blocks ts
  keeps n x is = same_around (slice_get c.tables.blocks n) (slice_get b.tables.blocks n) (s.fixes n)

  kept_back : Same c.tables.blocks b.tables.blocks ts
  kept_back n x is = same_around (slice_get b.tables.blocks n) (slice_get c.tables.blocks n) (sym (s.fixes n))

  row_stays : (n : ℕ) (x : Identifier) (e : Entry) → RowFor b n x e → RowFor c n x e
  row_stays n x e f =
      let new = s.stays f.number f.row f.at in record {
        number = f.number;
        row = new.0;
        at = new.1;
        name = new.2.name ∙ f.name;
        token = new.2.token ∙ f.token;
        block = new.2.block ∙ f.block;
        entry = same new.0 new.2.entry;
        own = f.own;
      }
    where
      same : (new : Declaration) → Becomes f.row.entry new.entry → new.entry ≡ e
      same new (inl q) = q ∙ f.entry
      same new (inr (inl q)) = absurd (subst OwnEntry (sym f.entry ∙ q.1) f.own)
      same new (inr (inr q)) = absurd (subst OwnEntry (sym f.entry ∙ q.2) f.own)

  owed_stays : (os : List Open) → Stack b.tables.blocks ts b.current os → (n : ℕ) (m : Mark) → OwedAt b.tables.blocks b.current os n m → OwedAt c.tables.blocks c.current os n m
  owed_stays os k n m q = subst (λ z. OwedAt c.tables.blocks z os n m) (sym s.current) (owed_kept b.tables.blocks c.tables.blocks ts keeps os b.current n m k q)

  owed_was : (os : List Open) → Stack c.tables.blocks ts c.current os → (n : ℕ) (m : Mark) → OwedAt c.tables.blocks c.current os n m → OwedAt b.tables.blocks b.current os n m
  owed_was os k n m q = subst (λ z. OwedAt b.tables.blocks z os n m) s.current (owed_kept c.tables.blocks b.tables.blocks ts kept_back os c.current n m k q)

  pub complete_stays : (os : List Open) → Stack b.tables.blocks ts b.current os → (n : ℕ) (x : Identifier) (e : Entry) → RowFor b n x e ⊎ OwedAt b.tables.blocks b.current os n (Declares x e) → RowFor c n x e ⊎ OwedAt c.tables.blocks c.current os n (Declares x e)
  complete_stays os k n x e (inl f) = inl (row_stays n x e f)
  complete_stays os k n x e (inr q) = inr (owed_stays os k n (Declares x e) q)

  pub heads_stay : (os : List Open) → Stack b.tables.blocks ts b.current os → Clean b ts os → (d : ℕ) (row old : Declaration) (w : Option WrittenMode) → slice_get b.tables.declarations d ≡ Some old → Changed old row → row.entry ≡ entry.Unspecified w
      → (y : Identifier) × (y.name ≡ row.name) × OwedAt c.tables.blocks c.current os row.block (Headed y) × (row.listed ≡ true)
  heads_stay os k f d row old w at ch is = go ch.entry
    where
      found : (v : Option WrittenMode) → old.entry ≡ entry.Unspecified v → (y : Identifier) × (y.name ≡ row.name) × OwedAt c.tables.blocks c.current os row.block (Headed y) × (row.listed ≡ true)
      found v e = let q = f.heads d old v at e in (q.0, q.1 ∙ sym ch.name, subst (λ z. OwedAt c.tables.blocks c.current os z (Headed q.0)) (sym ch.block) (owed_stays os k old.block (Headed q.0) q.2), ch.listed ∙ q.3)

      go : Becomes old.entry row.entry → (y : Identifier) × (y.name ≡ row.name) × OwedAt c.tables.blocks c.current os row.block (Headed y) × (row.listed ≡ true)
      go (inl e) = found w (sym e ∙ is)
      go (inr (inl q)) = found q.0 q.1
      go (inr (inr q)) = absurd (let e : entry.Virtual q.0 (Some q.1) ≡ entry.Unspecified w = sym q.3 ∙ is in cc)

  pub references_stay : c.tables.qualifications ≡ b.tables.qualifications → (os : List Open) → Clean b ts os → (q : ℕ) (x : Qualification) → slice_get c.tables.qualifications q ≡ Some x → (row : Declaration) × (slice_get c.tables.declarations x.declaration.0 ≡ Some row) × OfReferences row.entry
  references_stay same os f q x at =
      let old = f.refs q x (ap (λ z. slice_get z q) (sym same) ∙ at) in
      let new = s.stays x.declaration.0 old.0 old.1 in (new.0, new.1, refs_stay old.0.entry new.0.entry new.2.entry old.2)

  pub origins_stay : c.tables.qualifications ≡ b.tables.qualifications → (os : List Open) → Clean b ts os → Origins c ts
  origins_stay same os f q x row ty n at is array =
      let was : slice_get b.tables.qualifications q ≡ Some x = ap (λ z. slice_get z q) (sym same) ∙ at in
      let old = f.refs q x was in
      let new = s.stays x.declaration.0 old.0 old.1 in
      go old.0 (subst (Changed old.0) (some_same new.0 row (sym new.1 ∙ is)) new.2) (λ e. f.origins q x old.0 ty n was old.1 e)
    where
      go : (old : Declaration) → Changed old row → (old.entry ≡ entry.Array ty n → WrittenFor ts old x.class) → WrittenFor ts row x.class
      go old ch h =
          let w = h (array_was old.entry row.entry ty n ch.entry array) in
          record { text = w.text; at = subst (λ z. slice_get ts z ≡ Some w.text) (sym ch.block) w.at; name = w.name; token = w.token ∙ sym ch.token; written = w.written }

  -- an old declaration of a block is no new row
  pub old_row : (os : List Open) → Fine b ts os → IsNew (length b.tables.declarations) New → (k : ℕ) (d : DeclNo) (row : Declaration) → Among d (numbers_in (slice_get b.tables.blocks k)) → slice_get c.tables.declarations d.0 ≡ Some row
      → (old : Declaration) × (slice_get b.tables.declarations d.0 ≡ Some old) × Changed old row
  old_row os f new k d row a at = go (s.rows d.0 row at)
    where
      go : RowIs b c New d.0 row
          → (old : Declaration) × (slice_get b.tables.declarations d.0 ≡ Some old) × Changed old row
      go (inl q) = q
      go (inr q) =
          let e : d.0 ≡ length b.tables.declarations = new d.0 row q.0 in
          let o = f.own k d a in
          let lt : d.0 < length b.tables.declarations = slice_get_within b.tables.declarations d.0 o.0 o.1 in absurd (omega arith)

  old_block : ((j : ℕ) → span (slice_get c.tables.blocks j) ≡ span (slice_get b.tables.blocks j)) → (k : ℕ) (row : BlockOf) → slice_get c.tables.blocks k ≡ Some row → (old : BlockOf) × (slice_get b.tables.blocks k ≡ Some old) × (old.formals ≡ row.formals)
  old_block spans k row at = go (slice_get b.tables.blocks k) refl
    where
      go : (o : Option BlockOf) → slice_get b.tables.blocks k ≡ o → (old : BlockOf) × (o ≡ Some old) × (old.formals ≡ row.formals)
      go None is = absurd (let e : span (Some row) ≡ None = sym (ap span at) ∙ spans k ∙ ap span is in cc)
      go (Some old) is = (old, refl, sym (ap formals_of (sym (ap span at) ∙ spans k ∙ ap span is)))

  -- no formal parameter is declared
  counts_stay : (os : List Open) → Fine b ts os → IsNew (length b.tables.declarations) New → ((d : ℕ) (row : Declaration) → New d row → IsParameter row.entry → ⊥) → ((j : ℕ) → span (slice_get c.tables.blocks j) ≡ span (slice_get b.tables.blocks j))
      → Clean b ts os → (k : ℕ) (row : BlockOf) → slice_get c.tables.blocks k ≡ Some row → Counts c.tables.declarations row
  counts_stay os f new other spans g k row at =
      let o = old_block spans k row at in
      let q = g.counts k o.0 o.1 in
      go o.0 o.1 o.2 q (subst (λ z. Listed (length b.tables.declarations) (numbers_in z) row.numbers) o.1 (subst (λ z. Listed (length b.tables.declarations) (numbers_in (slice_get b.tables.blocks k)) (numbers_in z)) at (s.lists k)))
    where
      next : DeclNo
      next = record { 0 = length b.tables.declarations }

      go : (old : BlockOf) → slice_get b.tables.blocks k ≡ Some old → old.formals ≡ row.formals → Counts b.tables.declarations old → Listed (length b.tables.declarations) old.numbers row.numbers → Counts c.tables.declarations row
      go old is same q listed = record { fits = fits listed; front = λ n d r p t lt. front n d r t lt (cases listed n d p); back = λ n d r p t param. back n d r t param (cases listed n d p) }
        where
          fits : Listed (length b.tables.declarations) old.numbers row.numbers → row.formals ≤ length row.numbers
          fits (inl e) = let le : old.formals ≤ length old.numbers = q.fits in let l : length row.numbers ≡ length old.numbers = ap length e in omega (arith, same)
          fits (inr e) = let le : old.formals ≤ length old.numbers = q.fits in let l : length row.numbers ≡ length old.numbers + 1 = ap length e ∙ length-append old.numbers (next ∷ []) in omega (arith, same)

          cases : Listed (length b.tables.declarations) old.numbers row.numbers → (n : ℕ) (d : DeclNo) → slice_get row.numbers n ≡ Some d → (slice_get old.numbers n ≡ Some d) ⊎ ((n ≡ length old.numbers) × (next ≡ d))
          cases (inl e) n d p = inl (ap (λ z. slice_get z n) (sym e) ∙ p)
          cases (inr e) n d p = last_cases old.numbers next n d (ap (λ z. slice_get z n) (sym e) ∙ p)

          among : (n : ℕ) (d : DeclNo) → slice_get old.numbers n ≡ Some d → Among d (numbers_in (slice_get b.tables.blocks k))
          among n d p = subst (λ z. Among d (numbers_in z)) (sym is) (among_at old.numbers n d p)

          front : (n : ℕ) (d : DeclNo) (r : Declaration) → slice_get c.tables.declarations d.0 ≡ Some r → n < row.formals → (slice_get old.numbers n ≡ Some d) ⊎ ((n ≡ length old.numbers) × (next ≡ d)) → IsParameter r.entry
          front n d r t lt (inl p) = let w = old_row os f new k d r (among n d p) t in param_stays w.0.entry r.entry w.2.entry (q.front n d w.0 p w.1 (omega (arith, same, lt)))
          front n d r t lt (inr p) = let le : old.formals ≤ length old.numbers = q.fits in let e : n ≡ length old.numbers = p.0 in absurd (omega (arith, same, lt))

          back : (n : ℕ) (d : DeclNo) (r : Declaration) → slice_get c.tables.declarations d.0 ≡ Some r → IsParameter r.entry → (slice_get old.numbers n ≡ Some d) ⊎ ((n ≡ length old.numbers) × (next ≡ d)) → n < row.formals
          back n d r t param (inl p) =
              let w = old_row os f new k d r (among n d p) t in
              let lt : n < old.formals = q.back n d w.0 p w.1 (param_was w.0.entry r.entry w.2.entry param) in omega (arith, same)
          back n d r t param (inr p) = absurd (none (s.rows d.0 r t))
            where
              none : RowIs b c New d.0 r → ⊥
              none (inl u) = let e : length b.tables.declarations ≡ d.0 = ap (λ (z : DeclNo). z.0) p.1 in let lt : d.0 < length b.tables.declarations = slice_get_within b.tables.declarations d.0 u.0 u.1 in omega arith
              none (inr u) = other d.0 r u.0 param

  pub early_stays : (os : List Open) → Stack c.tables.blocks ts c.current os → ((d : ℕ) (row : Declaration) → New d row → (y : Identifier) → OwedAt b.tables.blocks b.current os row.block (Headed y) → IsParameter row.entry) → Clean b ts os
      → (n : ℕ) (y : Identifier) → OwedAt c.tables.blocks c.current os n (Headed y) → (d : ℕ) (row : Declaration) → slice_get c.tables.declarations d ≡ Some row → row.block ≡ n → row.listed ≡ true → IsParameter row.entry
  early_stays os k newly g n y q d row at is l = go (s.rows d row at)
    where
      was : OwedAt b.tables.blocks b.current os n (Headed y)
      was = owed_was os k n (Headed y) q

      go : RowIs b c New d row → IsParameter row.entry
      go (inl p) = param_stays p.0.entry row.entry p.2.entry (g.early n y was d p.0 p.1 (sym p.2.block ∙ is) (sym p.2.listed ∙ l))
      go (inr p) = newly d row p.0 y (subst (λ z. OwedAt b.tables.blocks b.current os z (Headed y)) (sym is) was)

-- what ends and begins no text, and declares no parameter
pub step_clean : (b c : BuildingOf) (New : ℕ → Declaration → Type 0) (s : Step b c New) (ts : List Text) (os : List Open) → Fine b ts os → IsNew (length b.tables.declarations) New → ((d : ℕ) (row : Declaration) → New d row → IsParameter row.entry → ⊥)
    → ((d : ℕ) (row : Declaration) → New d row → (y : Identifier) → OwedAt b.tables.blocks b.current os row.block (Headed y) → ⊥) → ((j : ℕ) → span (slice_get c.tables.blocks j) ≡ span (slice_get b.tables.blocks j)) → c.tables.qualifications ≡ b.tables.qualifications
    → Clean b ts os → Clean c ts os
step_clean b c New s ts os f new other past spans same g = record {
  complete = λ n x at y e has. complete_stays b c New s ts os f.stack n y e (g.complete n x at y e has);
  heads = λ d row w at is. heads d row w is (s.rows d row at);
  early = early_stays b c New s ts os (step_fine b c New s ts os f).stack (λ d row p y q. absurd (past d row p y q)) g;
  counts = counts_stay b c New s ts os f new other spans g;
  refs = references_stay b c New s ts same os g;
  origins = origins_stay b c New s ts same os g;
}
  where
    heads : (d : ℕ) (row : Declaration) (w : Option WrittenMode) → row.entry ≡ entry.Unspecified w → RowIs b c New d row
        → (y : Identifier) × (y.name ≡ row.name) × OwedAt c.tables.blocks c.current os row.block (Headed y) × (row.listed ≡ true)
    heads d row w is (inl q) = heads_stay b c New s ts os f.stack g d row q.0 w q.1 q.2 is
    heads d row w is (inr q) = absurd (other d row q.0 (subst IsParameter (sym is) tt))

pub quiet_clean : (b c : BuildingOf) (ts : List Text) (os : List Open) → Step b c Nothing → Calm b c → c.tables.qualifications ≡ b.tables.qualifications → Fine b ts os → Clean b ts os → Clean c ts os
quiet_clean b c ts os s calm same f g = step_clean b c Nothing s ts os f (λ d row p. absurd p) (λ d row p. absurd p) (λ d row p. absurd p) calm.spans same g

-- what was declared last, if it is an array, is declared with the class that is written
abbrev pub Origin : BuildingOf → List Mark → List Text → Type 0
Origin c quals ts = (class : Identifier) → quals ≡ Qualifies class ∷ [] → (d : DeclNo) → c.latest ≡ Some d → (row : Declaration) (ty : SimType) (n : ℕ) → slice_get c.tables.declarations d.0 ≡ Some row → row.entry ≡ entry.Array ty n → WrittenFor ts row class

-- the classes that are written for references
pub quals_clean : (c : BuildingOf) (R : Type 0) (quals : List Mark) (ts : List Text) (os : List Open) → Quals R quals → (R → (d : DeclNo) × (c.latest ≡ Some d) × (row : Declaration) × (slice_get c.tables.declarations d.0 ≡ Some row) × OfReferences row.entry) → Origin c quals ts → Clean c ts os → Clean (run marked c quals) ts os
unfolding run marked
quals_clean c R quals ts os (unqualified free) last origin g = g
quals_clean c R quals ts os (qualifies x q) last origin g = let l = last q in subst (λ o. Clean (qualified c x o) ts os) (sym l.1) (record {
  complete = λ n z at y e has. rows l.0 n y e (g.complete n z at y e has);
  heads = g.heads;
  early = g.early;
  counts = g.counts;
  refs = λ n z at. refs l.0 (l.2, l.3, l.4) n z (last_cases c.tables.qualifications (record { declaration = l.0; class = x }) n z at);
  origins = λ n z row ty m at is e. origins l.0 l.1 n z row ty m (last_cases c.tables.qualifications (record { declaration = l.0; class = x }) n z at) is e;
})
  where
    rows : (d : DeclNo) (n : ℕ) (y : Identifier) (e : Entry) → RowFor c n y e ⊎ OwedAt c.tables.blocks c.current os n (Declares y e) → RowFor (qualified c x (Some d)) n y e ⊎ OwedAt c.tables.blocks c.current os n (Declares y e)
    rows d n y e (inl p) = inl (record { number = p.number; row = p.row; at = p.at; name = p.name; token = p.token; block = p.block; entry = p.entry; own = p.own })
    rows d n y e (inr p) = inr p

    refs : (d : DeclNo) → (row : Declaration) × (slice_get c.tables.declarations d.0 ≡ Some row) × OfReferences row.entry → (n : ℕ) (z : Qualification) → (slice_get c.tables.qualifications n ≡ Some z) ⊎ ((n ≡ length c.tables.qualifications) × (record { declaration = d; class = x } ≡ z))
        → (row : Declaration) × (slice_get c.tables.declarations z.declaration.0 ≡ Some row) × OfReferences row.entry
    refs d known n z (inl p) = g.refs n z p
    refs d known n z (inr p) = subst (λ (w : Qualification). (row : Declaration) × (slice_get c.tables.declarations w.declaration.0 ≡ Some row) × OfReferences row.entry) p.1 known

    origins : (d : DeclNo) → c.latest ≡ Some d → (n : ℕ) (z : Qualification) (row : Declaration) (ty : SimType) (m : ℕ) → (slice_get c.tables.qualifications n ≡ Some z) ⊎ ((n ≡ length c.tables.qualifications) × (record { declaration = d; class = x } ≡ z))
        → slice_get c.tables.declarations z.declaration.0 ≡ Some row → row.entry ≡ entry.Array ty m → WrittenFor ts row z.class
    origins d is n z row ty m (inl p) at e = g.origins n z row ty m p at e
    origins d is n z row ty m (inr p) at e = subst (λ (w : Qualification). slice_get c.tables.declarations w.declaration.0 ≡ Some row → WrittenFor ts row w.class) p.1 (λ known. origin x refl d is row ty m known e) at
