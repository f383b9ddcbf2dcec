-- What is passed by name, or is a procedure, is a parameter of a procedure: what each mark does to that.
use Rattle.std.proofs.Common.{◌≡◌, ◌⊎◌, inl, inr, ℕ, Bool, true, false, List, [], ◌∷◌, ◌++◌, length, Option, Some, None, refl, sym, ap, ◌∙◌, subst, arith, if◌then◌else◌}
use Rattle.std.specs.Prelude.{◌&&◌, nat_eq, nat_lt, not, slice_get, slice_set}
use Rattle.std.specs.List.{list_any}
use Rattle.std.specs.Str.{bytes_eq}
use Rattle.std.proofs.lemmas.Bool.{false≢true}
use Rattle.std.proofs.lemmas.Bool.Decides.{nat_tests}
use Rattle.sim_base.specs.declared.numbering.DeclNo.{DeclNo}
use Rattle.sim_base.specs.declared.numbering.TokenNo.{TokenNo}
use Rattle.sim_base.specs.declared.rule.Rule.{Rule}
use Rattle.sim_base.specs.declared.rule.Rule.TheVariants as r
use Rattle.sim_tree.specs.declared.expr.Identifier.{Identifier}
use Rattle.sim_scope.specs.declared.scopes.Declaration.{Declaration}
use Rattle.sim_scope.specs.declared.types.BlockKind.{BlockKind}
use Rattle.sim_scope.specs.declared.types.Entry.{Entry}
use Rattle.sim_scope.specs.declared.types.Entry.TheVariants as entry
use Rattle.sim_scope.specs.declared.types.FormalKind.{FormalKind}
use Rattle.sim_scope.specs.declared.types.FormalKind.TheVariants as shape
use Rattle.sim_scope.specs.declared.types.Mode.{Mode}
use Rattle.sim_scope.specs.declared.types.Mode.TheVariants as mode
use Rattle.sim_scope.specs.declared.types.SimType.{SimType}
use Rattle.sim_scope.specs.declared.types.WrittenMode.{WrittenMode}
use Rattle.sim_scope.specs.Building.{BuildingOf, block_around, broken, broken_if, changed, changed_row, closed, closed_at, declared, declared_again, declared_at, declared_inside, declared_new, declared_twice, default_mode, entered, formal, found_in, guards, guards_at, in_class, is_class as is_class_kind, is_class_block, inner, inner_at, inner_in, is_by_name as is_name_mode, is_match, is_procedure, is_simple, level_in, matched, matching, mode_allowed, moded, moded_as, most_levels, opened, parameter, row_matching, row_of, specified, specified_as, token_in, unspecified_in, with_entry, with_mode}
use Rattle.sim_scope.specs.Scopes.{declared_in, entry_in, entry_of, lookup}
use Rattle.sim_scope.specs.Tables.{BlockOf}
use Rattle.sim_scope.proofs.Kept.{set_here, set_other}
use Rattle.sim_meaning.specs.Texts.{BlockText, ClassText, ConnectionText, PrefixedText, ProcedureText, StandardText, Text}
use Rattle.sim_agree.proofs.Clean.{if_clean}
use Rattle.sim_agree.proofs.CleanSteps.{counted_same}
use Rattle.sim_agree.proofs.Fine.{KindIs}
use Rattle.sim_agree.proofs.Groups.{Taking}
use Rattle.sim_agree.proofs.Marks.{is_unspecified, last_cases}
use Rattle.sim_agree.proofs.Steps.{some_same}
use Rattle.sim_agree.proofs.Unprefixed.{NamesFound}

-- a parameter by name, specified or not, or one that is a procedure
abbrev pub WrittenByName : Option WrittenMode → Type 0
WrittenByName None = ⊥
WrittenByName (Some w) = w.mode ≡ mode.ByName

abbrev pub OfName : Entry → Type 0
OfName (entry.Unspecified w) = WrittenByName w
OfName (entry.Formal f) = (f.mode ≡ mode.ByName) ⊎ (f.kind ≡ shape.Procedure)
OfName _ = ⊥

abbrev pub OfProcedure : Text → Type 0
OfProcedure (ProcedureText result h a) = Unit {0}
OfProcedure _ = ⊥

pub record Passed (ts : List Text) (row : Declaration) : Type 0 where
  pub text : Text
  pub at : slice_get ts row.block ≡ Some text
  pub procedure : OfProcedure text

abbrev pub ByNames : BuildingOf → List Text → Type 0
ByNames b ts = (d : ℕ) (row : Declaration) → slice_get b.tables.declarations d ≡ Some row → OfName row.entry → Passed ts row

-- ---- what leaves such declarations as they are

abbrev pub SameNamed : BuildingOf → BuildingOf → Type 0
SameNamed b c = (d : ℕ) (row : Declaration) → slice_get c.tables.declarations d ≡ Some row → OfName row.entry → slice_get b.tables.declarations d ≡ Some row

abbrev pub TextsStay : List Text → List Text → Type 0
TextsStay ts us = (n : ℕ) (x : Text) → slice_get ts n ≡ Some x → slice_get us n ≡ Some x

pub named_stay : (b c : BuildingOf) (ts us : List Text) → SameNamed b c → TextsStay ts us → ByNames b ts → ByNames c us
named_stay b c ts us same stay v d row at q = let p = v d row (same d row at q) q in record { text = p.text; at = stay row.block p.text p.at; procedure = p.procedure }

abbrev pub SameRows : BuildingOf → BuildingOf → Type 0
SameRows b c = c.tables.declarations ≡ b.tables.declarations

pub rows_stay : (b c : BuildingOf) (ts : List Text) → SameRows b c → ByNames b ts → ByNames c ts
rows_stay b c ts same = named_stay b c ts ts (λ d row at q. ap (λ z. slice_get z d) (sym same) ∙ at) (λ n x e. e)

if_rows : (a : Bool) (b : BuildingOf) (token : ℕ) (rule : Rule) → SameRows b (broken_if a b token rule)
if_rows true b token rule = refl
if_rows false b token rule = refl

-- a block begins
pub opened_names : (b : BuildingOf) (k : BlockKind) (text first : ℕ) (ts us : List Text) → TextsStay ts us → ByNames b ts → ByNames (opened b k text first) us
opened_names b k text first ts us = named_stay b (opened b k text first) ts us (λ d row at q. ap (λ z. slice_get z d) (sym same) ∙ at)
  where
    same : SameRows b (opened b k text first)
    same = if_rows (nat_lt most_levels (level_in k (block_around b.tables b.current))) _ text r.TooManyLevels

pub closed_rows : (b : BuildingOf) (end : ℕ) (o : Option ℕ) → SameRows b (closed b end o)
closed_rows b end None = refl
closed_rows b end (Some n) = go (slice_get b.tables.blocks n)
  where
    go : (o : Option BlockOf) → SameRows b (closed_at b end n o)
    go None = refl
    go (Some row) = refl

pub changed_rows : (b : BuildingOf) (change : BlockOf → BlockOf) (o : Option ℕ) → SameRows b (changed b change o)
changed_rows b change None = refl
changed_rows b change (Some n) = go (slice_get b.tables.blocks n)
  where
    go : (o : Option BlockOf) → SameRows b (changed_row b change n o)
    go None = refl
    go (Some row) = refl

pub inner_rows : (b : BuildingOf) (token : ℕ) (o : Option ℕ) → SameRows b (inner b token o)
inner_rows b token None = refl
inner_rows b token (Some n) = go (slice_get b.tables.blocks n)
  where
    one : (row : BlockOf) (o : Option ℕ) → SameRows b (inner_in b token n row o)
    one row None = refl
    one row (Some other) = refl

    go : (o : Option BlockOf) → SameRows b (inner_at b token n o)
    go None = refl
    go (Some row) = one row row.inner

pub guards_rows : (b : BuildingOf) (hides keeps : Bool) (x : Identifier) (o : Option ℕ) → SameRows b (guards b hides keeps x o)
guards_rows b hides keeps x None = refl
guards_rows b hides keeps x (Some n) = go (slice_get b.tables.blocks n)
  where
    go : (o : Option BlockOf) → SameRows b (guards_at b hides keeps x n o)
    go None = refl
    go (Some row) = refl

-- ---- declarations

-- a virtual is no parameter, whether it knows its match or not
matching_named : (e : Entry) (d : DeclNo) → OfName (matching e d) → matching e d ≡ e
matching_named (entry.Formal f) d q = refl
matching_named (entry.Unspecified w) d q = refl
matching_named (entry.Variable ty) d q = refl
matching_named (entry.Constant ty) d q = refl
matching_named (entry.Array ty n) d q = refl
matching_named (entry.Procedure result k) d q = refl
matching_named (entry.Class k) d q = refl
matching_named (entry.Attribute name given result) d q = refl
matching_named (entry.Virtual result own) d q = absurd q

knowing_named : (ds : List Declaration) (v next : DeclNo) (o : Option Declaration) → slice_get ds v.0 ≡ o → (m : ℕ) (row : Declaration) → slice_get (row_matching o next ds v.0) m ≡ Some row → OfName row.entry → slice_get ds m ≡ Some row
knowing_named ds v next None at m row is q = is
knowing_named ds v next (Some known) at m row is q = go (nat_eq v.0 m) refl
  where
    new : Declaration
    new = record known { entry = matching known.entry next }

    go : (c : Bool) → nat_eq v.0 m ≡ c → slice_get ds m ≡ Some row
    go true z =
        let same : v.0 ≡ m = grind (arith, nat_tests) in
        let one : new ≡ row = some_same new row (sym (set_here ds v.0 known new at) ∙ subst (λ k. slice_get (slice_set ds v.0 new) k ≡ Some row) (sym same) is) in
        let old : new ≡ known = ap (λ e. let w : Declaration = record known { entry = e } in w) (matching_named known.entry next (subst (λ (w : Declaration). OfName w.entry) (sym one) q)) in
        subst (λ k. slice_get ds k ≡ Some known) same at ∙ ap Some (sym old ∙ one)
    go false z = sym (set_other ds v.0 m new z) ∙ is

-- what is declared is no parameter by name
module _ (b : BuildingOf) (x : Identifier) (e : Entry) (free : OfName e → ⊥) where
  last_named : (ds : List Declaration) (fresh : Declaration) → fresh.entry ≡ e → (m : ℕ) (row : Declaration) → slice_get (ds ++ fresh ∷ []) m ≡ Some row → OfName row.entry → slice_get ds m ≡ Some row
  last_named ds fresh is m row at q = go (last_cases ds fresh m row at)
    where
      go : (slice_get ds m ≡ Some row) ⊎ ((m ≡ length ds) × (fresh ≡ row)) → slice_get ds m ≡ Some row
      go (inl p) = p
      go (inr p) = absurd (free (subst OfName (ap (λ (w : Declaration). w.entry) (sym p.1) ∙ is) q))

  if_named : (a : Bool) (c : BuildingOf) (token : ℕ) (rule : Rule) → SameNamed b c → SameNamed b (broken_if a c token rule)
  if_named true c token rule h = h
  if_named false c token rule h = h

  matched_named : (n : ℕ) (d : DeclNo) → SameNamed b (matched b x e n d)
  matched_named n d = if_named (nat_eq b.own 65535) _ x.token.0 r.TooManyDeclarations (λ m row at q. knowing_named b.tables.declarations d next (slice_get b.tables.declarations d.0) refl m row (last_named knowing (row_of x e n false) refl m row at q) q)
    where
      next : DeclNo
      next = record { 0 = length b.tables.declarations }

      knowing : List Declaration
      knowing = row_matching (slice_get b.tables.declarations d.0) next b.tables.declarations d.0

  at_named : (n : ℕ) (o : Option BlockOf) → SameNamed b (declared_at b x e n o)
  at_named n None = λ m row at q. at
  at_named n (Some found) = go (list_any (bytes_eq x.name) found.names)
    where
      either : (d : DeclNo) (c : Bool) → SameNamed b (if c then matched b x e n d else declared_twice b x (Some d))
      either d true = matched_named n d
      either d false = λ m row at q. at

      again : (o : Option DeclNo) → SameNamed b (declared_again b x e n o)
      again None = λ m row at q. at
      again (Some d) = either d (is_match e (entry_of b.tables d))

      go : (c : Bool) → SameNamed b (if c then declared_again b x e n (declared_in (Some found) x.name) else declared_new b x e n found)
      go true = again (declared_in (Some found) x.name)
      go false = if_named (nat_eq b.own 65535) _ x.token.0 r.TooManyDeclarations (λ m row at q. last_named b.tables.declarations (row_of x e n true) refl m row at q)

  inside_named : (o : Option ℕ) → SameNamed b (declared_inside b x e o)
  inside_named None = λ m row at q. at
  inside_named (Some n) = at_named n (slice_get b.tables.blocks n)

  pub declared_names : (ts : List Text) → ByNames b ts → ByNames (declared b x e) ts
  declared_names ts = named_stay b (declared b x e) ts ts (inside_named b.current) (λ n y z. z)

pub parameter_names : (b : BuildingOf) (x : Identifier) (ts : List Text) → ByNames b ts → ByNames (parameter b x) ts
parameter_names b x ts v =
    let c : BuildingOf = declared b x (entry.Unspecified None) in
    rows_stay c (parameter b x) ts (counted_same c c.current).1 (declared_names b x (entry.Unspecified None) (λ q. q) ts v)

-- ---- what becomes known of a parameter

if_names : (a : Bool) (b : BuildingOf) (token : ℕ) (rule : Rule) (ts : List Text) → ByNames b ts → ByNames (broken_if a b token rule) ts
if_names a b token rule ts = rows_stay b (broken_if a b token rule) ts (if_rows a b token rule)

entered_names : (b : BuildingOf) (ts : List Text) (d : DeclNo) (e : Entry) (o : Option Declaration) → slice_get b.tables.declarations d.0 ≡ o → ((old : Declaration) → o ≡ Some old → OfName e → Passed ts (record old { entry = e })) → ByNames b ts → ByNames (entered b d e o) ts
entered_names b ts d e None at new v = v
entered_names b ts d e (Some old) at new v = λ m row is q. go m row is q (nat_eq d.0 m) refl
  where
    now : Declaration
    now = record old { entry = e }

    go : (m : ℕ) (row : Declaration) → slice_get (slice_set b.tables.declarations d.0 (record old { entry = e })) m ≡ Some row → OfName row.entry → (c : Bool) → nat_eq d.0 m ≡ c → Passed ts row
    go m row is q true z =
        let same : d.0 ≡ m = grind (arith, nat_tests) in
        let one : now ≡ row = some_same now row (sym (set_here b.tables.declarations d.0 old now at) ∙ subst (λ k. slice_get (slice_set b.tables.declarations d.0 now) k ≡ Some row) (sym same) is) in
        subst (Passed ts) one (new old refl (subst (λ (w : Declaration). OfName w.entry) (sym one) q))
    go m row is q false z = v m row (sym (set_other b.tables.declarations d.0 m now z) ∙ is) q

no_default : (k : FormalKind) (ty : Option SimType) → default_mode k ty ≡ mode.ByName → ⊥
unfolding default_mode
no_default shape.Simple ty e = go (is_simple ty) e
  where
    go : (c : Bool) → (if c then mode.ByValue else mode.ByReference) ≡ mode.ByName → ⊥
    go true e = cc
    go false e = cc
no_default shape.Array ty e = cc
no_default shape.Procedure ty e = cc

-- in a class nothing is passed by name, and no parameter is a procedure
in_procedure : (b : BuildingOf) (x : Text) → KindIs (block_around b.tables b.current) (Some x) → Taking x → in_class b ≡ false → OfProcedure x
in_procedure b (ProcedureText result h a) kind takes free = tt
in_procedure b (ClassText prefix h ds ss) kind takes free = go (block_around b.tables b.current) kind free
  where
    go : (o : Option BlockOf) → KindIs o (Some (ClassText prefix h ds ss)) → is_class_block o ≡ false → ⊥
    go None k e = k
    go (Some row) k e = false≢true (sym e ∙ ap is_class_kind k)
in_procedure b (BlockText i ds ss) kind takes free = takes
in_procedure b ConnectionText kind takes free = takes
in_procedure b (PrefixedText class es ds ss) kind takes free = takes
in_procedure b (StandardText which) kind takes free = takes

-- a mark of the heading of the innermost block names a declaration of this block
module _ (b : BuildingOf) (ts : List Text) (x : Text) (n : ℕ) (y : Identifier) (found : NamesFound b.tables) (cur : b.current ≡ Some n) (text : slice_get ts n ≡ Some x) (kind : KindIs (slice_get b.tables.blocks n) (slice_get ts n)) (takes : Taking x) (v : ByNames b ts) where
  around : KindIs (block_around b.tables b.current) (Some x)
  around = subst (λ o. KindIs (block_around b.tables o) (Some x)) (sym cur) (subst (KindIs (slice_get b.tables.blocks n)) text kind)

  abbrev Here : DeclNo → Type 0
  Here d = (row : Declaration) × (slice_get b.tables.declarations d.0 ≡ Some row) × (row.name ≡ y.name) × (row.block ≡ n)

  here : (o : Option DeclNo) → found_in b.tables b.current y.name ≡ o → (d : DeclNo) → o ≡ Some d → Here d
  unfolding lookup
  here o is d e = found n y.name d (ap (λ z. found_in b.tables z y.name) (sym cur) ∙ is ∙ e)

  -- such a parameter of the heading, where no class is around
  passed_here : (d : DeclNo) (e : Entry) → Here d → in_class b ≡ false → (old : Declaration) → slice_get b.tables.declarations d.0 ≡ Some old → Passed ts (record old { entry = e })
  passed_here d e h free old at =
      let one : h.0 ≡ old = some_same h.0 old (sym h.1 ∙ at) in record {
        text = x;
        at = ap (slice_get ts) (ap (λ (z : Declaration). z.block) (sym one) ∙ h.3) ∙ text;
        procedure = in_procedure b x around takes free;
      }

  moded_here : (token : TokenNo) (m : Mode) (d : DeclNo) → Here d → (is_name_mode m && in_class b) ≡ false → ByNames (with_entry b d (entry.Unspecified (Some (record { token = token; mode = m })))) ts
  moded_here token m d h free = entered_names b ts d (entry.Unspecified (Some (record { token = token; mode = m }))) (slice_get b.tables.declarations d.0) refl new v
    where
      new : (old : Declaration) → slice_get b.tables.declarations d.0 ≡ Some old → m ≡ mode.ByName → Passed ts (record old { entry = entry.Unspecified (Some (record { token = token; mode = m })) })
      new old at is = passed_here d (entry.Unspecified (Some (record { token = token; mode = m }))) h (ap (λ z. is_name_mode z && in_class b) (sym is) ∙ free) old at

  moded_row : (token : TokenNo) (m : Mode) (d : DeclNo) → Here d → (o : Option (Option WrittenMode)) → ByNames (moded_as b token m d o) ts
  moded_row token m d h None = v
  moded_row token m d h (Some (Some other)) = v
  moded_row token m d h (Some None) = go (is_name_mode m && in_class b) refl
    where
      go : (c : Bool) → (is_name_mode m && in_class b) ≡ c → ByNames (if c then broken b token.0 r.ModeNotAllowed else with_entry b d (entry.Unspecified (Some (record { token = token; mode = m })))) ts
      go true e = v
      go false e = moded_here token m d h e

  moded_by : (token : TokenNo) (m : Mode) (o : Option DeclNo) → ((d : DeclNo) → o ≡ Some d → Here d) → ByNames (moded b token m o) ts
  moded_by token m None h = v
  moded_by token m (Some d) h = moded_row token m d (h d refl) (unspecified_in (entry_of b.tables d))

  pub moded_names : (m : Mode) → ByNames (moded b y.token m (found_in b.tables b.current y.name)) ts
  moded_names m = moded_by y.token m (found_in b.tables b.current y.name) (here (found_in b.tables b.current y.name) refl)

  -- what was written by name stays so, and a procedure is specified in no class
  specified_here : (d : DeclNo) (w : Option WrittenMode) (m : Mode) (k : FormalKind) (ty : Option SimType) → Here d → unspecified_in (entry_of b.tables d) ≡ Some w → (m ≡ mode.ByName → WrittenByName w) → (is_procedure k && in_class b) ≡ false
      → (old : Declaration) → slice_get b.tables.declarations d.0 ≡ Some old → (m ≡ mode.ByName) ⊎ (k ≡ shape.Procedure) → Passed ts (record old { entry = formal m k ty })
  unfolding entry_of
  specified_here d w m k ty h is written free old at (inl by_name) =
      let e : old.entry ≡ entry.Unspecified w = some_same old.entry (entry.Unspecified w) (ap entry_in (sym at) ∙ is_unspecified (entry_in (slice_get b.tables.declarations d.0)) w is) in
      let p = v d.0 old at (subst OfName (sym e) (written by_name)) in record { text = p.text; at = p.at; procedure = p.procedure }
  specified_here d w m k ty h is written free old at (inr procedure) = passed_here d (formal m k ty) h (ap (λ z. is_procedure z && in_class b) (sym procedure) ∙ free) old at

  specified_mode : (d : DeclNo) → Here d → (k : FormalKind) → (is_procedure k && in_class b) ≡ false → (ty : Option SimType) (w : Option WrittenMode) → unspecified_in (entry_of b.tables d) ≡ Some w → ByNames (with_mode b d k ty w) ts
  specified_mode d h k free ty None is = entered_names b ts d (formal (default_mode k ty) k ty) (slice_get b.tables.declarations d.0) refl (λ old at q. specified_here d None (default_mode k ty) k ty h is (no_default k ty) free old at q) v
  specified_mode d h k free ty (Some w) is =
      if_names (not (mode_allowed w.mode k ty)) _ w.token.0 r.ModeNotAllowed ts
      (entered_names b ts d (formal w.mode k ty) (slice_get b.tables.declarations d.0) refl (λ old at q. specified_here d (Some w) w.mode k ty h is (λ by_name. by_name) free old at q) v)

  specified_row : (token : TokenNo) (d : DeclNo) → Here d → (k : FormalKind) (ty : Option SimType) (o : Option (Option WrittenMode)) → unspecified_in (entry_of b.tables d) ≡ o → (specified_as b token k ty d o).least ≡ None → ByNames (specified_as b token k ty d o) ts
  specified_row token d h k ty None is clean = v
  specified_row token d h k ty (Some w) is clean =
      let free = if_clean (is_procedure k && in_class b) (with_mode b d k ty w) (token_in (slice_get b.tables.declarations d.0)) r.ModeNotAllowed clean in
      if_names (is_procedure k && in_class b) _ (token_in (slice_get b.tables.declarations d.0)) r.ModeNotAllowed ts (specified_mode d h k free.0 ty w is)

  specified_by : (token : TokenNo) (k : FormalKind) (ty : Option SimType) (o : Option DeclNo) → ((d : DeclNo) → o ≡ Some d → Here d) → (specified b token k ty o).least ≡ None → ByNames (specified b token k ty o) ts
  specified_by token k ty None h clean = v
  specified_by token k ty (Some d) h clean = specified_row token d (h d refl) k ty (unspecified_in (entry_of b.tables d)) refl clean

  pub specified_names : (k : FormalKind) (ty : Option SimType) → (specified b y.token k ty (found_in b.tables b.current y.name)).least ≡ None → ByNames (specified b y.token k ty (found_in b.tables b.current y.name)) ts
  specified_names k ty clean = specified_by y.token k ty (found_in b.tables b.current y.name) (here (found_in b.tables b.current y.name) refl) clean
