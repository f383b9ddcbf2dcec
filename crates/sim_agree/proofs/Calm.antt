-- What marks that begin and end no block leave as it is: where blocks begin and end, what is around them, and how many parameters they have.
use Rattle.std.proofs.Common.{◌≡◌, ℕ, Bool, true, false, List, length, Option, Some, None, refl, ◌∙◌, if◌then◌else◌}
use Rattle.std.specs.Prelude.{◌&&◌, nat_eq, not, slice_get, slice_set}
use Rattle.std.specs.List.{list_any}
use Rattle.std.specs.Str.{bytes_eq}
use Rattle.std.proofs.lemmas.List.{length-set}
use Rattle.sim_base.specs.declared.numbering.DeclNo.{DeclNo}
use Rattle.sim_base.specs.declared.numbering.TokenNo.{TokenNo}
use Rattle.sim_base.specs.declared.rule.Rule.{Rule}
use Rattle.sim_base.specs.declared.rule.Rule.TheVariants as r
use Rattle.sim_tree.specs.declared.expr.Identifier.{Identifier}
use Rattle.sim_scope.specs.declared.scopes.Declaration.{Declaration}
use Rattle.sim_scope.specs.declared.types.Entry.{Entry}
use Rattle.sim_scope.specs.declared.types.Entry.TheVariants as entry
use Rattle.sim_scope.specs.declared.types.FormalKind.{FormalKind}
use Rattle.sim_scope.specs.declared.types.Mode.{Mode}
use Rattle.sim_scope.specs.declared.types.SimType.{SimType}
use Rattle.sim_scope.specs.declared.types.WrittenMode.{WrittenMode}
use Rattle.sim_scope.specs.Building.{BuildingOf, Mark, broken, broken_if, changed, changed_row, declared, declared_again, declared_at, declared_inside, declared_new, declared_twice, entered, headed, holding_class, in_class, inner, inner_at, inner_in, is_match, is_procedure, marked, matched, mode_allowed, moded, moded_as, qualified, specified, specified_as, token_in, unspecified_in, with_entry, with_mode, with_name, prefixed_by, guards, guards_at, protecting, is_by_name}
use Rattle.sim_scope.specs.Runs.{run}
use Rattle.sim_scope.specs.Scopes.{declared_in, entry_of}
use Rattle.sim_scope.specs.Tables.{BlockOf}
use Rattle.sim_scope.proofs.Kept.{kept_set}
use Rattle.sim_agree.proofs.Groups.{Quals, qualifies, unqualified}

pub record Span : Type 0 where
  pub first : ℕ
  pub end : ℕ
  pub encloser : Option ℕ
  pub formals : ℕ

abbrev pub span : Option BlockOf → Option Span
span None = None
span (Some row) = Some (record { first = row.first; end = row.end; encloser = row.encloser; formals = row.formals })

pub record Calm (b c : BuildingOf) : Type 0 where
  pub current : c.current ≡ b.current
  pub size : length c.tables.blocks ≡ length b.tables.blocks
  pub places : c.tables.places ≡ b.tables.places
  pub spans : (j : ℕ) → span (slice_get c.tables.blocks j) ≡ span (slice_get b.tables.blocks j)

pub nothing_calm : (b : BuildingOf) → Calm b b
nothing_calm b = record { current = refl; size = refl; places = refl; spans = λ j. refl }

pub calm_both : (b c d : BuildingOf) → Calm b c → Calm c d → Calm b d
calm_both b c d x y = record { current = y.current ∙ x.current; size = y.size ∙ x.size; places = y.places ∙ x.places; spans = λ j. y.spans j ∙ x.spans j }

if_calm : (a : Bool) (b c : BuildingOf) (token : ℕ) (rule : Rule) → Calm b c → Calm b (broken_if a c token rule)
if_calm true b c token rule h = record { current = h.current; size = h.size; places = h.places; spans = h.spans }
if_calm false b c token rule h = h

-- a row is replaced by one with the same span
row_calm : (b : BuildingOf) (n : ℕ) (row new : BlockOf) → slice_get b.tables.blocks n ≡ Some row → span (Some new) ≡ span (Some row) → Calm b (record b { tables = record b.tables { blocks = slice_set b.tables.blocks n new } })
row_calm b n row new at alike = record { current = refl; size = length-set b.tables.blocks n new; places = refl; spans = λ j. kept_set span b.tables.blocks n row new at alike j }

-- ---- a declaration

declared_row : (b : BuildingOf) (x : Identifier) (e : Entry) (n : ℕ) (o : Option BlockOf) → slice_get b.tables.blocks n ≡ o → Calm b (declared_at b x e n o)
declared_row b x e n None at = nothing_calm b
declared_row b x e n (Some row) at = go (list_any (bytes_eq x.name) row.names)
  where
    either : (d : DeclNo) (c : Bool) → Calm b (if c then matched b x e n d else declared_twice b x (Some d))
    either d true = if_calm (nat_eq b.own 65535) b _ x.token.0 r.TooManyDeclarations (record { current = refl; size = refl; places = refl; spans = λ j. refl })
    either d false = record { current = refl; size = refl; places = refl; spans = λ j. refl }

    again : (o : Option DeclNo) → Calm b (declared_again b x e n o)
    again None = record { current = refl; size = refl; places = refl; spans = λ j. refl }
    again (Some d) = either d (is_match e (entry_of b.tables d))

    go : (c : Bool) → Calm b (if c then declared_again b x e n (declared_in (Some row) x.name) else declared_new b x e n row)
    go true = again (declared_in (Some row) x.name)
    go false = if_calm (nat_eq b.own 65535) b _ x.token.0 r.TooManyDeclarations (record {
      current = refl;
      size = length-set b.tables.blocks n (with_name row x.name (record { 0 = length b.tables.declarations }));
      places = refl;
      spans = λ j. kept_set span b.tables.blocks n row (with_name row x.name (record { 0 = length b.tables.declarations })) at refl j;
    })

declared_within : (b : BuildingOf) (x : Identifier) (e : Entry) (o : Option ℕ) → Calm b (declared_inside b x e o)
declared_within b x e None = nothing_calm b
declared_within b x e (Some n) = declared_row b x e n (slice_get b.tables.blocks n) refl

pub declared_calm : (b : BuildingOf) (x : Identifier) (e : Entry) → Calm b (declared b x e)
declared_calm b x e = declared_within b x e b.current

-- ---- a class in a block, and `inner`

holding_at : (b : BuildingOf) (n : ℕ) (o : Option BlockOf) → slice_get b.tables.blocks n ≡ o → Calm b (changed_row b holding_class n o)
holding_at b n None at = nothing_calm b
holding_at b n (Some row) at = row_calm b n row (holding_class row) at refl

holding_in : (b : BuildingOf) (o : Option ℕ) → Calm b (changed b holding_class o)
holding_in b None = nothing_calm b
holding_in b (Some n) = holding_at b n (slice_get b.tables.blocks n) refl

pub class_calm : (b : BuildingOf) (x : Identifier) (e : Entry) (o : Option ℕ) → Calm b (changed (declared b x e) holding_class o)
class_calm b x e o = calm_both b (declared b x e) (changed (declared b x e) holding_class o) (declared_calm b x e) (holding_in (declared b x e) o)

inner_one : (b : BuildingOf) (token n : ℕ) (row : BlockOf) (o : Option ℕ) → slice_get b.tables.blocks n ≡ Some row → Calm b (inner_in b token n row o)
inner_one b token n row None at = row_calm b n row (record row { inner = Some token }) at refl
inner_one b token n row (Some other) at = record { current = refl; size = refl; places = refl; spans = λ j. refl }

inner_found : (b : BuildingOf) (token n : ℕ) (o : Option BlockOf) → slice_get b.tables.blocks n ≡ o → Calm b (inner_at b token n o)
inner_found b token n None at = nothing_calm b
inner_found b token n (Some row) at = inner_one b token n row row.inner at

pub inner_calm : (b : BuildingOf) (token : ℕ) (o : Option ℕ) → Calm b (inner b token o)
inner_calm b token None = nothing_calm b
inner_calm b token (Some n) = inner_found b token n (slice_get b.tables.blocks n) refl

-- a prefix
prefix_at : (b : BuildingOf) (x : Identifier) (n : ℕ) (o : Option BlockOf) → slice_get b.tables.blocks n ≡ o → Calm b (changed_row b (prefixed_by x) n o)
prefix_at b x n None at = nothing_calm b
prefix_at b x n (Some row) at = row_calm b n row (prefixed_by x row) at refl

pub prefix_calm : (b : BuildingOf) (x : Identifier) (o : Option ℕ) → Calm b (changed b (prefixed_by x) o)
prefix_calm b x None = nothing_calm b
prefix_calm b x (Some n) = prefix_at b x n (slice_get b.tables.blocks n) refl

-- protection
guards_found : (b : BuildingOf) (hides keeps : Bool) (x : Identifier) (n : ℕ) (o : Option BlockOf) → slice_get b.tables.blocks n ≡ o → Calm b (guards_at b hides keeps x n o)
guards_found b hides keeps x n None at = nothing_calm b
guards_found b hides keeps x n (Some row) at = let h = row_calm b n row (protecting hides keeps x.name row) at refl in record { current = h.current; size = h.size; places = h.places; spans = h.spans }

pub guards_calm : (b : BuildingOf) (hides keeps : Bool) (x : Identifier) (o : Option ℕ) → Calm b (guards b hides keeps x o)
guards_calm b hides keeps x None = nothing_calm b
guards_calm b hides keeps x (Some n) = guards_found b hides keeps x n (slice_get b.tables.blocks n) refl

pub rule_calm : (b : BuildingOf) (token : ℕ) (rule : Rule) → Calm b (broken b token rule)
rule_calm b token rule = record { current = refl; size = refl; places = refl; spans = λ j. refl }

-- ---- the class that is written for references

qualified_calm : (b : BuildingOf) (x : Identifier) (o : Option DeclNo) → Calm b (qualified b x o)
qualified_calm b x None = nothing_calm b
qualified_calm b x (Some d) = record { current = refl; size = refl; places = refl; spans = λ j. refl }

pub quals_calm : (b : BuildingOf) (R : Type 0) (quals : List Mark) → Quals R quals → Calm b (run marked b quals)
unfolding run marked
quals_calm b R quals (unqualified free) = nothing_calm b
quals_calm b R quals (qualifies x q) = qualified_calm b x b.latest

-- ---- what becomes known of a parameter

entered_calm : (b : BuildingOf) (d : DeclNo) (e : Entry) (o : Option Declaration) → Calm b (entered b d e o)
entered_calm b d e None = nothing_calm b
entered_calm b d e (Some row) = record { current = refl; size = refl; places = refl; spans = λ j. refl }

entry_calm : (b : BuildingOf) (d : DeclNo) (e : Entry) → Calm b (with_entry b d e)
entry_calm b d e = entered_calm b d e (slice_get b.tables.declarations d.0)

moded_row : (b : BuildingOf) (token : TokenNo) (m : Mode) (d : DeclNo) (o : Option (Option WrittenMode)) → Calm b (moded_as b token m d o)
moded_row b token m d None = rule_calm b token.0 r.ModeNotAllowed
moded_row b token m d (Some (Some w)) = rule_calm b token.0 r.ModeNotAllowed
moded_row b token m d (Some None) = go (is_by_name m && in_class b)
  where
    go : (c : Bool) → Calm b (if c then broken b token.0 r.ModeNotAllowed else with_entry b d (entry.Unspecified (Some (record { token = token; mode = m }))))
    go true = rule_calm b token.0 r.ModeNotAllowed
    go false = entry_calm b d _

pub moded_calm : (b : BuildingOf) (token : TokenNo) (m : Mode) (o : Option DeclNo) → Calm b (moded b token m o)
moded_calm b token m None = rule_calm b token.0 r.ModeNotAllowed
moded_calm b token m (Some d) = moded_row b token m d (unspecified_in (entry_of b.tables d))

mode_calm : (b : BuildingOf) (d : DeclNo) (k : FormalKind) (ty : Option SimType) (o : Option WrittenMode) → Calm b (with_mode b d k ty o)
mode_calm b d k ty None = entry_calm b d _
mode_calm b d k ty (Some w) = if_calm (not (mode_allowed w.mode k ty)) b _ w.token.0 r.ModeNotAllowed (entry_calm b d _)

specified_row : (b : BuildingOf) (token : TokenNo) (k : FormalKind) (ty : Option SimType) (d : DeclNo) (o : Option (Option WrittenMode)) → Calm b (specified_as b token k ty d o)
specified_row b token k ty d None = rule_calm b token.0 r.SpecificationDisagrees
specified_row b token k ty d (Some w) = if_calm (is_procedure k && in_class b) b _ (token_in (slice_get b.tables.declarations d.0)) r.ModeNotAllowed (mode_calm b d k ty w)

specified_one : (b : BuildingOf) (token : TokenNo) (k : FormalKind) (ty : Option SimType) (o : Option DeclNo) → Calm b (specified b token k ty o)
specified_one b token k ty None = rule_calm b token.0 r.SpecificationDisagrees
specified_one b token k ty (Some d) = specified_row b token k ty d (unspecified_in (entry_of b.tables d))

pub specified_calm : (b : BuildingOf) (token : TokenNo) (k : FormalKind) (ty : Option SimType) (o : Option DeclNo) → Calm b (specified (record b { latest = o }) token k ty o)
specified_calm b token k ty o = let h = specified_one (record b { latest = o }) token k ty o in record { current = h.current; size = h.size; places = h.places; spans = h.spans }

pub headed_calm : (b : BuildingOf) (token : TokenNo) (o : Option (Option WrittenMode)) → Calm b (headed b token o)
headed_calm b token None = nothing_calm b
headed_calm b token (Some w) = rule_calm b token.0 r.SpecificationDisagrees
