-- A class that is written for references is written for a declaration of the innermost block.
use Rattle.std.proofs.Common.{◌≡◌, ◌⊎◌, inl, inr, ℕ, Bool, true, false, List, [], ◌∷◌, ◌++◌, length, Option, Some, None, refl, sym, ap, ◌∙◌, subst, if◌then◌else◌}
use Rattle.std.specs.List.{list_any}
use Rattle.std.specs.Prelude.{◌+◌, nat_eq, position, slice_get, slice_set}
use Rattle.std.specs.Str.{bytes_eq}
use Rattle.sim_base.specs.declared.numbering.DeclNo.{DeclNo}
use Rattle.sim_base.specs.declared.numbering.TokenNo.{TokenNo}
use Rattle.sim_base.specs.declared.rule.Rule.{Rule}
use Rattle.sim_base.specs.declared.rule.Rule.TheVariants as r
use Rattle.sim_tree.specs.declared.expr.Identifier.{Identifier}
use Rattle.sim_scope.specs.declared.scopes.Declaration.{Declaration}
use Rattle.sim_scope.specs.declared.scopes.Qualification.{Qualification}
use Rattle.sim_scope.specs.declared.types.Entry.{Entry}
use Rattle.sim_scope.specs.declared.types.FormalKind.{FormalKind}
use Rattle.sim_scope.specs.declared.types.SimType.{SimType}
use Rattle.sim_scope.specs.Building.{BuildingOf, Mark, broken_if, declared, declared_again, declared_at, declared_inside, declared_new, declared_twice, found_in, is_match, marked, matched, qualified, row_matching, row_of, specified, with_name}
use Rattle.sim_scope.specs.Runs.{run}
use Rattle.sim_scope.specs.Scopes.{declared_in, entry_of, lookup}
use Rattle.sim_scope.specs.Tables.{BlockOf, Tables}
use Rattle.sim_scope.proofs.Kept.{more_here}
use Rattle.sim_meaning.specs.Entries.{numbers_in}
use Rattle.sim_sound.specs.Held.{Among}
use Rattle.sim_agree.proofs.Clean.{specified_latest}
use Rattle.sim_agree.proofs.Groups.{Quals, TypedFormal, qualifies, unqualified}
use Rattle.sim_agree.proofs.Laid.{AllRecent, Recent}
use Rattle.sim_agree.proofs.Marks.{last_cases, met, specified_met}
use Rattle.sim_agree.proofs.Steps.{Nothing, Step}
use Rattle.sim_agree.proofs.Unprefixed.{numbered_among}

some_same : {A : Type 0} (a b : A) → Some a ≡ Some b → a ≡ b
some_same a b e = cc

-- a block lists a declaration, or its row names the block
abbrev pub InBlock : Tables → DeclNo → ℕ → Type 0
InBlock t d n = Among d (numbers_in (slice_get t.blocks n)) ⊎ ((row : Declaration) × (slice_get t.declarations d.0 ≡ Some row) × (row.block ≡ n))

pub step_block : (b c : BuildingOf) (New : ℕ → Declaration → Type 0) → Step b c New → (d : DeclNo) (n : ℕ) → InBlock b.tables d n → InBlock c.tables d n
step_block b c New s d n (inl a) = inl (s.more n d a)
step_block b c New s d n (inr q) = let w = s.stays d.0 q.0 q.1 in inr (w.0, w.1, w.2.block ∙ q.2)

-- what is found in a block is listed there
pub lookup_among : (T : Tables) (k : ℕ) (name : List ℕ) (d : DeclNo) → lookup T k name ≡ Some d → Among d (numbers_in (slice_get T.blocks k))
unfolding lookup
lookup_among T k name d e = go (slice_get T.blocks k) e
  where
    go : (o : Option BlockOf) → declared_in o name ≡ Some d → Among d (numbers_in o)
    go None f = absurd (cc)
    go (Some row) f = numbered_among row.numbers (position (bytes_eq name) row.names) d f

-- what was declared last stands in this block
abbrev pub LatestIn : BuildingOf → ℕ → Type 0
LatestIn b n = (d : DeclNo) → b.latest ≡ Some d → InBlock b.tables d n

if_latest : (c : Bool) (b : BuildingOf) (token : ℕ) (rule : Rule) (n : ℕ) → LatestIn b n → LatestIn (broken_if c b token rule) n
if_latest true b token rule n h = h
if_latest false b token rule n h = h

declared_row : (b : BuildingOf) (x : Identifier) (e : Entry) (n : ℕ) (row : BlockOf) → slice_get b.tables.blocks n ≡ Some row → LatestIn (declared_at b x e n (Some row)) n
declared_row b x e n row at = go (list_any (bytes_eq x.name) row.names)
  where
    -- a new row
    last : (c : BuildingOf) (ds : List Declaration) (listed : Bool) → c.tables.declarations ≡ ds ++ row_of x e n listed ∷ [] → c.latest ≡ Some (record { 0 = length ds }) → LatestIn c n
    last c ds listed rows is v late =
        let same : record { 0 = length ds } ≡ v = some_same (record { 0 = length ds }) v (sym is ∙ late) in
        inr (row_of x e n listed, subst (λ (z : DeclNo). slice_get c.tables.declarations z.0 ≡ Some (row_of x e n listed)) same (ap (λ z. slice_get z (length ds)) rows ∙ more_here ds (row_of x e n listed)), refl)

    knowing : DeclNo → List Declaration
    knowing d = row_matching (slice_get b.tables.declarations d.0) (record { 0 = length b.tables.declarations }) b.tables.declarations d.0

    behind : DeclNo → BuildingOf
    behind d = record b { tables = record b.tables { declarations = knowing d ++ row_of x e n false ∷ [] }; own = b.own + 1; latest = Some (record { 0 = length (knowing d) }) }

    either : (d : DeclNo) → declared_in (Some row) x.name ≡ Some d → (c : Bool) → LatestIn (if c then matched b x e n d else declared_twice b x (Some d)) n
    either d is true = if_latest (nat_eq b.own 65535) (behind d) x.token.0 r.TooManyDeclarations n (last (behind d) (knowing d) false refl refl)
    either d is false = λ v late. (
        let same : d ≡ v = some_same d v late in
        inl (subst (λ o. Among v (numbers_in o)) (sym at) (subst (λ z. Among z row.numbers) same (numbered_among row.numbers (position (bytes_eq x.name) row.names) d is))))

    again : (o : Option DeclNo) → declared_in (Some row) x.name ≡ o → LatestIn (declared_again b x e n o) n
    again None is = λ v late. absurd (let f : None ≡ Some v = late in cc)
    again (Some d) is = either d is (is_match e (entry_of b.tables d))

    go : (c : Bool) → LatestIn (if c then declared_again b x e n (declared_in (Some row) x.name) else declared_new b x e n row) n
    go true = again (declared_in (Some row) x.name) refl
    go false = if_latest (nat_eq b.own 65535) after x.token.0 r.TooManyDeclarations n (last after b.tables.declarations true refl refl)
      where
        after : BuildingOf
        after = record b {
          tables = record b.tables {
            blocks = slice_set b.tables.blocks n (with_name row x.name (record { 0 = length b.tables.declarations }));
            declarations = b.tables.declarations ++ row_of x e n true ∷ [];
          };
          own = b.own + 1;
          latest = Some (record { 0 = length b.tables.declarations });
        }

pub declared_latest : (b : BuildingOf) (x : Identifier) (e : Entry) (n : ℕ) (row : BlockOf) → b.current ≡ Some n → slice_get b.tables.blocks n ≡ Some row → LatestIn (declared b x e) n
declared_latest b x e n row cur at = subst (λ o. LatestIn (declared_inside b x e o) n) (sym cur) (subst (λ o. LatestIn (declared_at b x e n o) n) (sym at) (declared_row b x e n row at))

-- a parameter that is specified
pub parameter_latest : (b : BuildingOf) (x : Identifier) (token : TokenNo) (k : FormalKind) (ty : Option SimType) (n : ℕ) → TypedFormal k ty → b.current ≡ Some n
    → LatestIn (specified (met b (found_in b.tables b.current x.name)) token k ty (found_in b.tables b.current x.name)) n
parameter_latest b x token k ty n p cur = λ v late. (
    let found : lookup b.tables n x.name ≡ Some v = sym (ap (λ o. found_in b.tables o x.name) cur) ∙ sym (specified_latest (met b (found_in b.tables b.current x.name)) token k ty (found_in b.tables b.current x.name)) ∙ late in
    step_block b _ Nothing (specified_met b token k ty (found_in b.tables b.current x.name) p) v n (inl (lookup_among b.tables n x.name v found)))

-- a class that is written is recent, and that of what was declared last
pub written_latest : (recent : List ℕ) (c : BuildingOf) (R : Type 0) (quals : List Mark) → Quals R quals → AllRecent recent quals → (n : ℕ) → LatestIn c n → (i : ℕ) (z : Qualification) → slice_get (run marked c quals).tables.qualifications i ≡ Some z
    → (slice_get c.tables.qualifications i ≡ Some z) ⊎ (Recent recent z.class.token.0 × InBlock (run marked c quals).tables z.declaration n)
unfolding run marked
written_latest recent c R quals (unqualified free) all n late i z at = inl at
written_latest recent c R quals (qualifies x holds) all n late i z at = go c.latest refl at
  where
    go : (o : Option DeclNo) → c.latest ≡ o → slice_get (qualified c x o).tables.qualifications i ≡ Some z → (slice_get c.tables.qualifications i ≡ Some z) ⊎ (Recent recent z.class.token.0 × InBlock (qualified c x o).tables z.declaration n)
    go None is at = inl at
    go (Some d) is at = pick (last_cases c.tables.qualifications (record { declaration = d; class = x }) i z at)
      where
        new : Qualification
        new = record { declaration = d; class = x }

        pick : (slice_get c.tables.qualifications i ≡ Some z) ⊎ ((i ≡ length c.tables.qualifications) × (new ≡ z)) → (slice_get c.tables.qualifications i ≡ Some z) ⊎ (Recent recent z.class.token.0 × InBlock (qualified c x (Some d)).tables z.declaration n)
        pick (inl q) = inl q
        pick (inr q) = inr (subst (λ (w : Qualification). Recent recent w.class.token.0 × InBlock (qualified c x (Some d)).tables w.declaration n) q.1 (all.0, late d is))
