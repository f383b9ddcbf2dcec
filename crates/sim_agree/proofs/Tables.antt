-- What the tables of an allowed program are.
use Rattle.std.proofs.Common.{◌≡◌, ◌<◌, ◌≤◌, ◌+◌, ◌⊎◌, inl, inr, ℕ, suc, true, false, List, [], ◌∷◌, length, Option, Some, None, refl, sym, ap, ◌∙◌, subst, arith}
use Rattle.std.specs.Prelude.{slice_get}
use Rattle.std.proofs.lemmas.Option.{slice_get_within}
use Rattle.sim_base.specs.declared.numbering.DeclNo.{DeclNo}
use Rattle.sim_agree.specs.Order.{InOrder}
use Rattle.sim_tree.specs.Syntax.{Begin, Block, Prefix, Program}
use Rattle.sim_scope.specs.declared.scopes.Declaration.{Declaration}
use Rattle.sim_scope.specs.declared.scopes.Qualification.{Qualification}
use Rattle.sim_scope.specs.declared.types.BlockKind.{BlockKind}
use Rattle.sim_scope.specs.declared.types.BlockKind.TheVariants as kind
use Rattle.sim_scope.specs.declared.types.Entry.{Entry}
use Rattle.sim_scope.specs.declared.types.Entry.TheVariants as entry
use Rattle.sim_scope.specs.declared.types.Formal.{Formal}
use Rattle.sim_scope.specs.declared.types.FormalKind.TheVariants as shape
use Rattle.sim_scope.specs.declared.types.Mode.TheVariants as mode
use Rattle.sim_scope.specs.declared.types.WrittenMode.{WrittenMode}
use Rattle.sim_scope.specs.declared.types.StandardClass.{StandardClass}
use Rattle.sim_scope.specs.declared.types.StandardPrefix.{StandardPrefix}
use Rattle.sim_scope.specs.declared.types.StandardPrefix.TheVariants as prefixes
use Rattle.sim_scope.specs.Access.{around, encloser, joined}
use Rattle.sim_scope.specs.Building.{attribute_entry, place_of}
use Rattle.sim_scope.specs.Declare.{declared_by, declaring, empty, result_named}
use Rattle.sim_scope.specs.Levels.{standard_in, base, base_in, class_block, class_block_in, is_standard_class}
use Rattle.sim_scope.specs.Scopes.{declared_in, entry_in, entry_of, lookup}
use Rattle.sim_scope.specs.Source.{Source, block_of, block_of_row, level_in, level_of}
use Rattle.sim_scope.specs.Tables.{BlockOf, Tables, deeper}
use Rattle.sim_scope.specs.Walk.{program_events}
use Rattle.virtual_match.specs.Qualifying.{entry_to}
use Rattle.sim_meaning.specs.Attributes.{first_in, is_connection}
use Rattle.sim_meaning.specs.Entries.{numbers_in, numbers_of}
use Rattle.sim_meaning.specs.Texts.{BlockText, ClassText, ConnectionText, PrefixedText, ProcedureText, StandardText, Text, program_texts, text}
use Rattle.sim_sound.specs.Held.{Among}
use Rattle.prefix_bind.specs.Prefixes.{prefixed}
use Rattle.sim_agree.specs.TablesOf.{TablesOf}
use Rattle.sim_agree.proofs.ByNames.{ByNames, OfName, OfProcedure as of_procedure}
use Rattle.sim_agree.proofs.Clean.{Clean, Counts}
use Rattle.sim_agree.proofs.Covered.{Covered}
use Rattle.sim_agree.proofs.Owned.{Owned}
use Rattle.sim_agree.proofs.CleanRuns.{run_clean}
use Rattle.sim_agree.proofs.Completing.{AllReferences, Completes, HasNext, Retyped, bare_row, entry_is_class, has_base, kind_in, prefixable_base}
use Rattle.sim_agree.proofs.Prefixing.{Based, PrefixOf, complete, prefix_more, prefixed_tables, showing_kept}
use Rattle.sim_agree.proofs.Steps.{fixed}
use Rattle.sim_agree.proofs.Fine.{Agree, Headed, IsStandard, StandardGroup, attribute_row, simulation_row, first_or_none, own_base, KindIs, Rising, RowIn, TopFixed, RowOf, names_found, class_row, deeper_in, formal_row, own_row, owner_in, procedure_row, virtual_row}
use Rattle.sim_agree.proofs.FineRuns.{run_agrees}
use Rattle.sim_agree.proofs.Groups.{NoBreaks, OfReferences, PlainKind, program_grouped, Declaring}
use Rattle.sim_agree.proofs.Laid.{program_held, program_laid}
use Rattle.sim_agree.proofs.Openings.{Opened, program_opened}
use Rattle.sim_agree.proofs.Spots.{Final, run_laid}
use Rattle.sim_agree.proofs.TokenBlocks.{Here, Lay, none_recent}
use Rattle.sim_agree.proofs.StandardBlocks.{no_base, no_standard, showing, standard_base_of}
use Rattle.sim_agree.proofs.Unprefixed.{Brings, Known, Named, NamesFound, Showing, brings_of, StandsIn, is_prefixable, nothing_bare}
use Rattle.sim_agree.proofs.ClassRows.{class_entry, class_of_kind, class_stands, levels_of_kind, no_connection}
use Rattle.sim_meaning.specs.Levels.{has_levels, is_class}
use Rattle.sim_agree.proofs.Retypes.{alike_new, bare_around, bare_deeper, bare_first, bare_kind, bare_level, bare_numbers, bare_owner, class_new, formal_was, kind_bare, param_now, param_was, parametric_new, procedure_new, unspecified_was, virtual_new, virtual_was}

-- ---- the whole program, as it is declared

nothing_based : (k : ℕ) → base_in (slice_get empty.tables.blocks k) ≡ own_base (slice_get empty.tables.blocks k)
nothing_based k = refl

nothing_textless : (k : ℕ) → first_or_none (slice_get empty.tables.blocks k) ≡ 0
nothing_textless k = refl

nothing_agrees : Agree empty [] []
nothing_agrees = record {
  fine = record {
    size = refl;
    stack = refl;
    nested = λ t u is. absurd (cc);
    levels = λ t u is. absurd (cc);
    tops = λ t. tt;
    kinds = λ t. tt;
    listed = λ d row is l. absurd (cc);
    evens = λ j. tt;
    finds = λ d row is l. absurd (cc);
    own = λ k d a. absurd (elim a [ ]);
    rising = λ k n m d e at to lt. absurd (cc);
    based = λ k. nothing_based k;
    bare = nothing_bare;
    known = λ v row result d at e. absurd (cc);
    standards = λ k which is. absurd (cc);
    headed = λ n p e. absurd (cc);
    textless = λ k. nothing_textless k;
    brought = λ k d a. absurd (elim a [ ]);
    named = λ k i name d x y. absurd (cc);
  };
  rows = λ d row is. absurd (cc);
}

nothing_clean : Clean empty [] []
nothing_clean = record {
  complete = λ n x is y e has. absurd (cc);
  heads = λ d row w is e. absurd (cc);
  early = λ n y q. absurd q;
  counts = λ k row at. absurd (cc);
  refs = λ q x at. absurd (cc);
  origins = λ q x row ty n at is e. absurd (cc);
}

nothing_laid : Lay empty [] [] 0
nothing_laid = record {
  size = refl;
  stack = refl;
  reach = omega arith;
  done = λ n x p is has. absurd (cc);
  firsts = λ k row is other. absurd (cc);
  joins = λ n i a is. absurd (cc);
  below = λ d row is. absurd (cc);
  rising = λ d e row other is at lt own. absurd (cc);
  bare = nothing_bare;
  written = λ i q at. absurd (cc);
}

pub program_agrees : (p : Program) → Agree (declared_by p) (program_texts p.prefix p.block) []
unfolding declared_by
program_agrees p = run_agrees empty [] (program_grouped p) tt nothing_agrees

pub program_clean : (p : Program) → (declared_by p).least ≡ None → Clean (declared_by p) (program_texts p.prefix p.block) []
unfolding declared_by
program_clean p clean = (run_clean empty [] (program_grouped p) tt nothing_agrees clean).1 nothing_clean

pub program_unbroken : (p : Program) → (declared_by p).least ≡ None → NoBreaks (program_events declaring p)
unfolding declared_by
program_unbroken p clean = (run_clean empty [] (program_grouped p) tt nothing_agrees clean).2

nothing_owned : Owned empty []
nothing_owned n x is = absurd (cc)

-- the block of each procedure and of each class is that of a declaration
pub program_owned : (p : Program) → (declared_by p).least ≡ None → Owned (declared_by p) (program_texts p.prefix p.block)
unfolding declared_by
program_owned p clean = (run_clean empty [] (program_grouped p) tt nothing_agrees clean).4 nothing_owned

nothing_covered : Covered empty
nothing_covered d row at refs = absurd (cc)

-- each declaration of references has a qualification
pub program_covered : (p : Program) → (declared_by p).least ≡ None → Covered (declared_by p)
unfolding declared_by
program_covered p clean = (run_clean empty [] (program_grouped p) tt nothing_agrees clean).3 nothing_covered

nothing_by_name : ByNames empty []
nothing_by_name d row at q = absurd (cc)

-- what is passed by name is a parameter of a procedure, and no array
pub program_by_name : (p : Program) → (declared_by p).least ≡ None → ByNames (declared_by p) (program_texts p.prefix p.block)
unfolding declared_by
program_by_name p clean = (run_clean empty [] (program_grouped p) tt nothing_agrees clean).5 nothing_by_name

pub program_final : (p : Program) → InOrder p → Final (declared_by p) (program_held p.prefix p.block)
unfolding declared_by
program_final p order = run_laid empty [] 0 (program_laid p) (none_recent empty 0) order nothing_laid

-- a block begins at its first token
pub first_place : (p : Program) → InOrder p → (k : ℕ) (row : BlockOf) → slice_get (declared_by p).tables.blocks k ≡ Some row → is_standard_class row.kind ≡ false → slice_get (declared_by p).tables.places row.first ≡ Some (Some k)
first_place p order k row at other = go (f.laid.firsts k row at other)
  where
    f : Final (declared_by p) (program_held p.prefix p.block)
    f = program_final p order

    go : Here (declared_by p) f.to k row.first → slice_get (declared_by p).tables.places row.first ≡ Some (Some k)
    go (inl h) = h
    go (inr h) = absurd (let e : None ≡ Some k = sym f.laid.stack ∙ h.2 in cc)

-- ---- and complete

-- a text is a class
abbrev pub IsClassText : Program → ℕ → Type 0
IsClassText p n = is_class (slice_get (program_texts p.prefix p.block) n) ≡ true

pub all_references : (D : Tables) (qs : List Qualification) → ((i : ℕ) (x : Qualification) → slice_get qs i ≡ Some x → (row : Declaration) × (slice_get D.declarations x.declaration.0 ≡ Some row) × OfReferences row.entry) → AllReferences D qs
all_references D [] h = tt
all_references D (q ∷ qs) h = (h 0 q refl, all_references D qs (λ i x at. h (suc i) x at))

-- where a class stands: in a block or a class, which lists it
pub record ClassStands (p : Program) (k : ℕ) : Type 0 where
  pub declaration : DeclNo
  pub row : Declaration
  pub at : slice_get (declared_by p).tables.declarations declaration.0 ≡ Some row
  pub entry : row.entry ≡ entry.Class k
  pub around : around (slice_get (declared_by p).tables.blocks k) ≡ Some row.block
  pub text : Text
  pub is : slice_get (program_texts p.prefix p.block) row.block ≡ Some text
  pub declaring : Declaring text

stands_by : (p : Program) → (d : DeclNo) (row : Declaration) (k : ℕ) → slice_get (declared_by p).tables.declarations d.0 ≡ Some row → row.entry ≡ entry.Class k → ClassStands p k
stands_by p d row k at e = go (slice_get (program_texts p.prefix p.block) row.block) refl ((program_agrees p).rows d.0 row at)
  where
    go : (o : Option Text) → slice_get (program_texts p.prefix p.block) row.block ≡ o → RowOf (declared_by p).tables.blocks (program_texts p.prefix p.block) o d.0 row → ClassStands p k
    go None is q = absurd q
    go (Some x) is q =
        let s = class_stands x (declared_by p).tables.blocks (program_texts p.prefix p.block) d.0 row k e q in
        record { declaration = d; row = row; at = at; entry = e; around = s.1; text = x; is = is; declaring = s.0 }

-- each declared class, with its row
pub class_at : (p : Program) → (d : DeclNo) (k : ℕ) → class_block (declared_by p).tables d ≡ Some k → (row : Declaration) × (slice_get (declared_by p).tables.declarations d.0 ≡ Some row) × (around (slice_get (declared_by p).tables.blocks k) ≡ Some row.block)
unfolding class_block
class_at p d k e = go (slice_get (declared_by p).tables.declarations d.0) refl e
  where
    go : (o : Option Declaration) → slice_get (declared_by p).tables.declarations d.0 ≡ o → class_block_in (elim o [ None ↦ None | Some row ↦ Some row.entry ]) ≡ Some k
        → (row : Declaration) × (o ≡ Some row) × (around (slice_get (declared_by p).tables.blocks k) ≡ Some row.block)
    go None at f = absurd (cc)
    go (Some row) at f = (row, refl, around_of (slice_get (program_texts p.prefix p.block) row.block) ((program_agrees p).rows d.0 row at))
      where
        around_of : (o : Option Text) → RowOf (declared_by p).tables.blocks (program_texts p.prefix p.block) o d.0 row → around (slice_get (declared_by p).tables.blocks k) ≡ Some row.block
        around_of None q = absurd q
        around_of (Some x) q = (class_stands x (declared_by p).tables.blocks (program_texts p.prefix p.block) d.0 row k (entry_is_class k row.entry f) q).1

-- each block of the kind of a class
pub class_block_at : (p : Program) → (declared_by p).least ≡ None → (k : ℕ) (row : BlockOf) → slice_get (declared_by p).tables.blocks k ≡ Some row → row.kind ≡ kind.Class → ClassStands p k
class_block_at p clean k row at e =
    let x = class_of_kind row (slice_get (program_texts p.prefix p.block) k) (subst (λ o. KindIs o (slice_get (program_texts p.prefix p.block) k)) at ((program_agrees p).fine.kinds k)) e in
    let q = program_owned p clean k (ClassText x.0 x.1 x.2 x.3) x.4 in
    stands_by p q.0 q.1 k q.3 q.4

-- the tables with the prefixes of classes and blocks
pub program_prefixed : (p : Program) → Based (declared_by p).tables (prefixed (declared_by p).tables)
unfolding base
program_prefixed p =
    let f = (program_agrees p).fine in
    prefixed_tables (declared_by p).tables (showing (declared_by p) (program_texts p.prefix p.block) [] f) (no_base (declared_by p) (program_texts p.prefix p.block) [] f) (no_standard (declared_by p) (program_texts p.prefix p.block) [] f)

pub completes : (s : Source) → TablesOf s → InOrder s.program → Completes (declared_by s.program).tables s.tables (IsClassText s.program)
unfolding base
completes s of order =
    subst (λ z. Completes D z (IsClassText s.program)) (sym of.tables)
    (complete D s.program (IsClassText s.program) (program_prefixed s.program) (all_references D D.qualifications (program_clean s.program of.unbroken).refs) classes standard_bases conn (program_opened s.program))
  where
    D : Tables
    D = (declared_by s.program).tables

    agree : Agree (declared_by s.program) (program_texts s.program.prefix s.program.block) []
    agree = program_agrees s.program

    classes : (d n : ℕ) (row : Declaration) → slice_get D.declarations d ≡ Some row → row.entry ≡ entry.Class n → IsClassText s.program n
    classes d n row at e = go (slice_get (program_texts s.program.prefix s.program.block) row.block) (agree.rows d row at)
      where
        go : (o : Option Text) → RowOf D.blocks (program_texts s.program.prefix s.program.block) o d row → IsClassText s.program n
        go None q = absurd q
        go (Some x) q = class_entry x D.blocks (program_texts s.program.prefix s.program.block) d row n e q

    standard_bases : (k c : ℕ) → base D k ≡ Some c → HasNext D k × IsClassText s.program c
    standard_bases k c e =
        let q = standard_base_of (declared_by s.program) (program_texts s.program.prefix s.program.block) [] agree.fine k c e in
        ((q.0, q.1, inr (ap has_base q.2.kind)), ap is_class q.2.above_text)

    conn : (i k : ℕ) → Opened D.blocks i → joined (slice_get D.places i) ≡ Some k → (row : BlockOf) × (slice_get D.blocks k ≡ Some row) × (row.kind ≡ kind.Connection)
    conn i k o at =
        let e : slice_get D.places i ≡ Some (Some o.number) = ap (slice_get D.places) (sym o.begins) ∙ first_place s.program order o.number o.row o.at (ap is_standard_class o.is) in
        let same : o.number ≡ k = some_number o.number k (sym (ap joined e) ∙ at) in
        (o.row, subst (λ z. slice_get D.blocks z ≡ Some o.row) same o.at, o.is)
      where
        some_number : (m n : ℕ) → Some m ≡ Some n → m ≡ n
        some_number m n q = cc

module _ (s : Source) (of : TablesOf s) (order : InOrder s.program) where
  abbrev pub Bs : List BlockOf
  Bs = s.tables.blocks

  abbrev pub Ts : List Text
  Ts = program_texts s.program.prefix s.program.block

  D : Tables
  D = (declared_by s.program).tables

  agree : Agree (declared_by s.program) (program_texts s.program.prefix s.program.block) []
  agree = program_agrees s.program

  pub clean : Clean (declared_by s.program) (program_texts s.program.prefix s.program.block) []
  clean = program_clean s.program of.unbroken

  pub completed_tables : Completes (declared_by s.program).tables s.tables (IsClassText s.program)
  completed_tables = completes s of order

  C : Completes (declared_by s.program).tables s.tables (IsClassText s.program)
  C = completes s of order

  -- what is the same of a block
  pub same_around : (k : ℕ) → around (slice_get s.tables.blocks k) ≡ around (slice_get (declared_by s.program).tables.blocks k)
  same_around k = sym (bare_around (slice_get s.tables.blocks k)) ∙ ap around (C.blocks k) ∙ bare_around (slice_get (declared_by s.program).tables.blocks k)

  pub same_first : (k : ℕ) → first_in (slice_get s.tables.blocks k) ≡ first_in (slice_get (declared_by s.program).tables.blocks k)
  same_first k = sym (bare_first (slice_get s.tables.blocks k)) ∙ ap first_in (C.blocks k) ∙ bare_first (slice_get (declared_by s.program).tables.blocks k)

  pub same_numbers : (k : ℕ) → numbers_in (slice_get s.tables.blocks k) ≡ numbers_in (slice_get (declared_by s.program).tables.blocks k)
  same_numbers k = sym (bare_numbers (slice_get s.tables.blocks k)) ∙ ap numbers_in (C.blocks k) ∙ bare_numbers (slice_get (declared_by s.program).tables.blocks k)

  same_level : (k : ℕ) → level_in (slice_get s.tables.blocks k) ≡ level_in (slice_get (declared_by s.program).tables.blocks k)
  same_level k = sym (bare_level (slice_get s.tables.blocks k)) ∙ ap level_in (C.blocks k) ∙ bare_level (slice_get (declared_by s.program).tables.blocks k)

  pub same_owner : (k : ℕ) → owner_in (slice_get s.tables.blocks k) ≡ owner_in (slice_get (declared_by s.program).tables.blocks k)
  same_owner k = sym (bare_owner (slice_get s.tables.blocks k)) ∙ ap owner_in (C.blocks k) ∙ bare_owner (slice_get (declared_by s.program).tables.blocks k)

  same_deeper : (k n : ℕ) → deeper_in (slice_get s.tables.blocks k) n ≡ deeper_in (slice_get (declared_by s.program).tables.blocks k) n
  same_deeper k n = sym (bare_deeper n (slice_get s.tables.blocks k)) ∙ ap (λ o. deeper_in o n) (C.blocks k) ∙ bare_deeper n (slice_get (declared_by s.program).tables.blocks k)

  -- the block of the declared tables
  pub row_was : (k : ℕ) (row : BlockOf) → slice_get s.tables.blocks k ≡ Some row → (old : BlockOf) × (slice_get (declared_by s.program).tables.blocks k ≡ Some old) × (record row { base = None; standard = None } ≡ record old { base = None; standard = None })
  row_was k row at = go (slice_get (declared_by s.program).tables.blocks k) refl (sym (ap bare_row at) ∙ C.blocks k)
    where
      go : (o : Option BlockOf) → slice_get (declared_by s.program).tables.blocks k ≡ o → Some (record row { base = None; standard = None }) ≡ bare_row (slice_get (declared_by s.program).tables.blocks k)
          → (old : BlockOf) × (o ≡ Some old) × (record row { base = None; standard = None } ≡ record old { base = None; standard = None })
      go None is e = absurd (let f : Some (record row { base = None; standard = None }) ≡ None = e ∙ ap bare_row is in cc)
      go (Some old) is e = (old, refl, some_row (record row { base = None; standard = None }) (record old { base = None; standard = None }) (e ∙ ap bare_row is))
        where
          some_row : (a b : BlockOf) → Some a ≡ Some b → a ≡ b
          some_row a b q = cc

  pub P : Based (declared_by s.program).tables (prefixed (declared_by s.program).tables)
  P = program_prefixed s.program

  pub stands_now : (k : ℕ) (d : DeclNo) → StandsIn (declared_by s.program).tables k d → StandsIn s.tables k d
  stands_now k d q = let n = C.rows.stays d.0 q.0 q.1 in (n.0, n.1, n.2.block ∙ q.2)

  -- what is looked for in them
  pub shows : Showing s.tables
  shows = showing_kept (declared_by s.program).tables s.tables (showing (declared_by s.program) (program_texts s.program.prefix s.program.block) [] agree.fine) C.blocks stands_now

  found_bare : (name : List ℕ) (o : Option BlockOf) → declared_in (bare_row o) name ≡ declared_in o name
  found_bare name None = refl
  found_bare name (Some row) = refl

  same_found : (k : ℕ) (name : List ℕ) → declared_in (slice_get s.tables.blocks k) name ≡ declared_in (slice_get (declared_by s.program).tables.blocks k) name
  same_found k name = sym (found_bare name (slice_get s.tables.blocks k)) ∙ ap (λ o. declared_in o name) (C.blocks k) ∙ found_bare name (slice_get (declared_by s.program).tables.blocks k)

  -- what is listed is found by its name, and what is found has that name
  pub finds_now : (d : DeclNo) (row : Declaration) → slice_get s.tables.declarations d.0 ≡ Some row → row.listed ≡ true → lookup s.tables row.block row.name ≡ Some d
  unfolding lookup
  finds_now d row at l =
      let w = C.rows.was d.0 row at in
      same_found row.block row.name ∙ ap (λ k. declared_in (slice_get (declared_by s.program).tables.blocks k) row.name) w.2.block
      ∙ ap (λ n. declared_in (slice_get (declared_by s.program).tables.blocks w.0.block) n) w.2.name ∙ agree.fine.finds d.0 w.0 w.1 (sym w.2.listed ∙ l)

  pub names_now : NamesFound s.tables
  names_now k name d e =
      let q = names_found (declared_by s.program) (program_texts s.program.prefix s.program.block) [] agree.fine k name d (sym (same_found k name) ∙ e) in
      let n = C.rows.stays d.0 q.0 q.1 in (n.0, n.1, n.2.name ∙ q.2, n.2.block ∙ q.3)

  -- the match that a virtual knows
  pub known : Known s.tables.declarations
  known v row result d at is =
      let w = C.rows.was v row at in
      let u = virtual_was w.0.entry row.entry w.2.entry result (Some d) is in
      let m = agree.fine.known v w.0 u.0 d w.1 u.1 in
      let n = C.rows.stays d.0 m.row m.at in
      record { row = n.0; at = n.1; name = n.2.name ∙ m.name ∙ sym w.2.name; block = n.2.block ∙ m.block ∙ sym w.2.block; procedure = procedure_new m.row.entry n.0.entry n.2.entry ∙ m.procedure }

  pub nesting : (t u : ℕ) → encloser s.tables t ≡ Some u → u < t
  unfolding encloser
  nesting t u e = agree.fine.nested t u (sym (same_around t) ∙ e)

  pub outermost : encloser s.tables 0 ≡ None
  outermost = go (encloser s.tables 0) refl
    where
      go : (o : Option ℕ) → encloser s.tables 0 ≡ o → encloser s.tables 0 ≡ None
      go None e = e
      go (Some u) e = absurd (let lt : u < 0 = nesting 0 u e in omega arith)

  pub as_many : length s.tables.blocks ≡ length (program_texts s.program.prefix s.program.block)
  as_many = C.size ∙ agree.fine.size

  pub kind_at : (t : ℕ) → KindIs (slice_get Bs t) (slice_get Ts t)
  kind_at t = bare_kind (slice_get Ts t) (slice_get Bs t) (subst (λ o. KindIs o (slice_get Ts t)) (sym (C.blocks t)) (kind_bare (slice_get Ts t) (slice_get (declared_by s.program).tables.blocks t) (agree.fine.kinds t)))

  pub depths : (t u : ℕ) → encloser s.tables t ≡ Some u → level_of s t ≡ deeper_in (slice_get s.tables.blocks t) (level_of s u)
  unfolding encloser level_of
  depths t u e =
      same_level t ∙ agree.fine.levels t u (sym (same_around t) ∙ e) ∙ ap (deeper_in (slice_get (declared_by s.program).tables.blocks t)) (sym (same_level u)) ∙ sym (same_deeper t (level_in (slice_get s.tables.blocks u)))

  -- what the kind of a block says of its text
  connection_of : (o : Option BlockOf) (x : Option Text) → KindIs o x → (n : ℕ) → (is_connection x ≡ false → (row : BlockOf) → o ≡ Some row → deeper row.kind n ≡ suc n) × (is_connection x ≡ true → deeper_in o n ≡ n)
  connection_of None None k n = (λ e row is. absurd (cc), λ e. refl)
  connection_of None (Some x) k n = absurd k
  connection_of (Some row) None k n = absurd k
  connection_of (Some row) (Some (BlockText i ds ss)) k n = (λ e found is. subst (λ (z : BlockOf). deeper z.kind n ≡ suc n) (some_row is) (go row.kind k), λ e. absurd (cc))
    where
      some_row : {a b : BlockOf} → Some a ≡ Some b → a ≡ b
      some_row q = cc

      go : (k : BlockKind) → PlainKind k → deeper k n ≡ suc n
      go kind.Program p = omega arith
      go kind.SubBlock p = omega arith
      go kind.Procedure p = absurd p
      go kind.Class p = absurd p
      go kind.Prefixed p = absurd p
      go kind.Connection p = absurd p
      go (kind.StandardClass which) p = absurd p
  connection_of (Some row) (Some (ProcedureText result h a)) k n = (λ e found is. ap (λ (z : BlockOf). deeper z.kind n) (sym (some_row is)) ∙ ap (λ z. deeper z n) k ∙ (let q : n + 1 ≡ suc n = omega arith in q), λ e. absurd (cc))
    where
      some_row : {a b : BlockOf} → Some a ≡ Some b → a ≡ b
      some_row q = cc
  connection_of (Some row) (Some (ClassText prefix h ds ss)) k n = (λ e found is. ap (λ (z : BlockOf). deeper z.kind n) (sym (some_row is)) ∙ ap (λ z. deeper z n) k ∙ (let q : n + 1 ≡ suc n = omega arith in q), λ e. absurd (cc))
    where
      some_row : {a b : BlockOf} → Some a ≡ Some b → a ≡ b
      some_row q = cc
  connection_of (Some row) (Some ConnectionText) k n = (λ e found is. absurd (cc), λ e. ap (λ z. deeper z n) k)
  connection_of (Some row) (Some (PrefixedText class es ds ss)) k n = (λ e found is. ap (λ (z : BlockOf). deeper z.kind n) (sym (some_row is)) ∙ ap (λ z. deeper z n) k ∙ (let q : n + 1 ≡ suc n = omega arith in q), λ e. absurd (cc))
    where
      some_row : {a b : BlockOf} → Some a ≡ Some b → a ≡ b
      some_row q = cc
  connection_of (Some row) (Some (StandardText which)) k n = (λ e found is. ap (λ (z : BlockOf). deeper z.kind n) (sym (some_row is)) ∙ ap (λ z. deeper z n) k ∙ (let q : n + 1 ≡ suc n = omega arith in q), λ e. absurd (cc))
    where
      some_row : {a b : BlockOf} → Some a ≡ Some b → a ≡ b
      some_row q = cc

  pub levels : (t u : ℕ) → is_connection (text s t) ≡ false → encloser s.tables t ≡ Some u → level_of s t ≡ suc (level_of s u)
  unfolding encloser text
  levels t u other e = depths t u e ∙ go (slice_get s.tables.blocks t) refl e
    where
      go : (o : Option BlockOf) → slice_get s.tables.blocks t ≡ o → around o ≡ Some u → deeper_in o (level_of s u) ≡ suc (level_of s u)
      go None at f = absurd (cc)
      go (Some row) at f = (connection_of (slice_get s.tables.blocks t) (slice_get Ts t) (kind_at t) (level_of s u)).0 other row at

  -- what is around none is on the first level
  pub top_level : (t : ℕ) (row : BlockOf) → slice_get s.tables.blocks t ≡ Some row → encloser s.tables t ≡ None → level_of s t ≡ 1
  unfolding encloser level_of
  top_level t row at none = go (slice_get (declared_by s.program).tables.blocks t) refl (agree.fine.tops t)
    where
      go : (o : Option BlockOf) → slice_get (declared_by s.program).tables.blocks t ≡ o → TopFixed (fixed o) → level_in (slice_get s.tables.blocks t) ≡ 1
      go None is top = absurd (let old = row_was t row at in let z : None ≡ Some old.0 = sym is ∙ old.1 in cc)
      go (Some old) is top = same_level t ∙ ap level_in is ∙ top (sym (ap around is) ∙ sym (same_around t) ∙ none)

  pub levels_of_connections : (t u : ℕ) → is_connection (text s t) ≡ true → encloser s.tables t ≡ Some u → level_of s t ≡ level_of s u
  unfolding text
  levels_of_connections t u is e = depths t u e ∙ (connection_of (slice_get s.tables.blocks t) (slice_get Ts t) (kind_at t) (level_of s u)).1 is

  pub listed : (d : DeclNo) (row : Declaration) → slice_get s.tables.declarations d.0 ≡ Some row → row.listed ≡ true → Among d (numbers_of s row.block)
  listed d row at l =
      let w = C.rows.was d.0 row at in
      subst (λ z. Among d (numbers_of s z)) (sym w.2.block) (subst (λ ns. Among d ns) (sym (same_numbers w.0.block)) (agree.fine.listed d.0 w.0 w.1 (sym w.2.listed ∙ l)))

  pub owned : (k : ℕ) (d : DeclNo) → Among d (numbers_of s k) → (row : Declaration) × (slice_get s.tables.declarations d.0 ≡ Some row) × (row.block ≡ k)
  owned k d a =
      let q = agree.fine.own k d (subst (λ ns. Among d ns) (same_numbers k) a) in
      let n = C.rows.stays d.0 q.0 q.1 in (n.0, n.1, n.2.block ∙ q.2)

  pub owned_block : (k : ℕ) (d : DeclNo) → Among d (numbers_of s k) → block_of s d ≡ k
  unfolding block_of
  owned_block k d a = let r = owned k d a in ap block_of_row r.1 ∙ r.2

  pub rising : (k : ℕ) → Rising (numbers_of s k)
  rising k = subst Rising (sym (same_numbers k)) (agree.fine.rising k)

  -- a standard class has its next level from the start
  standard_base_stays : (k : ℕ) (which : StandardClass) → text s k ≡ Some (StandardText which) → base_in (slice_get s.tables.blocks k) ≡ base_in (slice_get (declared_by s.program).tables.blocks k)
  unfolding text base
  standard_base_stays k which is = C.steady k other ∙ go (base_in (slice_get (prefixed (declared_by s.program).tables).blocks k)) refl (base_in (slice_get (declared_by s.program).tables.blocks k)) refl
    where
      kind_is : (row : BlockOf) → slice_get (declared_by s.program).tables.blocks k ≡ Some row → row.kind ≡ kind.StandardClass which
      kind_is row at = subst (λ o. KindIs (Some row) o) is (subst (λ o. KindIs o (slice_get Ts k)) at (agree.fine.kinds k))

      other : kind_in (slice_get (declared_by s.program).tables.blocks k) ≡ Some kind.Connection → ⊥
      other e = there (slice_get (declared_by s.program).tables.blocks k) refl e
        where
          there : (o : Option BlockOf) → slice_get (declared_by s.program).tables.blocks k ≡ o → kind_in o ≡ Some kind.Connection → ⊥
          there None at f = cc
          there (Some row) at f = let q : kind.StandardClass which ≡ kind.Connection = sym (kind_is row at) ∙ (let h : row.kind ≡ kind.Connection = cc in h) in cc

      never : (c : ℕ) → PrefixOf (declared_by s.program).tables (prefixed (declared_by s.program).tables) k c → ⊥
      never c p = let e : false ≡ true = ap is_prefixable (sym (kind_is p.row p.at)) ∙ p.kind in cc

      go : (o : Option ℕ) → base_in (slice_get (prefixed (declared_by s.program).tables).blocks k) ≡ o → (p : Option ℕ) → base_in (slice_get (declared_by s.program).tables.blocks k) ≡ p → o ≡ p
      go None e None f = refl
      go (Some c) e p f = pick (P.bases k c e)
        where
          pick : PrefixOf (declared_by s.program).tables (prefixed (declared_by s.program).tables) k c ⊎ (base_in (slice_get (declared_by s.program).tables.blocks k) ≡ Some c) → Some c ≡ p
          pick (inl q) = absurd (never c q)
          pick (inr q) = sym q ∙ f
      go None e (Some c) f = absurd (let h : None ≡ Some c = sym e ∙ P.kept k c f in cc)

  pub group_now : (p : StandardPrefix) (n : ℕ) (first : DeclNo) → StandardGroup p (declared_by s.program).tables.blocks Ts n first → StandardGroup p Bs Ts n first
  unfolding text
  group_now p n first g = record {
    host = g.host;
    texts = g.texts;
    bases = λ which is. standard_base_stays (n + 1 + place_of which) which (g.texts which is) ∙ g.bases which is;
    around = λ which is. same_around (n + 1 + place_of which) ∙ g.around which is;
    owners = λ which is. same_owner (n + 1 + place_of which) ∙ g.owners which is;
  }

  -- what a block brings is found by its name
  pub named_now : (k : ℕ) → Named s.tables.declarations (brings_of (slice_get s.tables.blocks k))
  named_now k i name d x y =
      let same : brings_of (slice_get s.tables.blocks k) ≡ brings_of (slice_get (declared_by s.program).tables.blocks k) = sym (brings_bare (slice_get s.tables.blocks k)) ∙ ap brings_of (C.blocks k) ∙ brings_bare (slice_get (declared_by s.program).tables.blocks k) in
      let old = agree.fine.named k i name d (subst (λ (z : Brings). slice_get z.names i ≡ Some name) same x) (subst (λ (z : Brings). slice_get z.numbers i ≡ Some d) same y) in
      let new = C.rows.stays d.0 old.0 old.1 in (new.0, new.1, new.2.name ∙ old.2)
    where
      brings_bare : (o : Option BlockOf) → brings_of (bare_row o) ≡ brings_of o
      brings_bare None = refl
      brings_bare (Some row) = refl

  -- behind a block with a standard prefix stand its classes
  pub headed_now : (k : ℕ) (p : StandardPrefix) → standard_in (slice_get s.tables.blocks k) ≡ Some p → Headed p Bs Ts k
  headed_now k p e = let h = agree.fine.headed k p (P.standards k p (sym (C.standards k) ∙ e)) in (h.0, group_now p k h.0 h.1)

  row_in : (x : Text) (d : ℕ) (old new : Declaration) → Retyped old new → RowIn (declared_by s.program).tables.blocks Ts x d old → RowIn Bs Ts x d new
  row_in x d old new r (own_row y p) = own_row y (record { entry = p.entry; fits = p.fits; alike = alike_new old.entry new.entry r.entry p.entry p.alike; name = p.name; named = p.named ∙ sym r.name; token = p.token ∙ sym r.token; listed = r.listed ∙ p.listed; mark = p.mark })
  row_in x d old new r (procedure_row y p) =
      procedure_row y (record {
        result = p.result;
        heading = p.heading;
        body = p.body;
        number = p.number;
        entry = alike_new old.entry new.entry r.entry (entry.Procedure (result_named p.result) p.number) p.entry;
        text = p.text;
        around = same_around p.number ∙ p.around ∙ ap Some (sym r.block);
        owner = same_owner p.number ∙ p.owner;
      })
  row_in x d old new r (class_row y p) =
      class_row y (record { class = p.class; is = p.is; number = p.number; entry = class_new old.entry new.entry r.entry p.number p.entry; listed = still p.listed; hidden = λ q. r.listed ∙ p.hidden q; named = λ w q. r.name ∙ p.named w q; text = p.text; around = same_around p.number ∙ p.around ∙ ap Some (sym r.block); owner = same_owner p.number ∙ p.owner })
    where
      still : (old.listed ≡ true) ⊎ IsStandard p.class → (new.listed ≡ true) ⊎ IsStandard p.class
      still (inl l) = inl (r.listed ∙ l)
      still (inr q) = inr q
  row_in x d old new r (formal_row y p l) = formal_row y (parametric_new old.entry new.entry r.entry p) (r.listed ∙ l)
  row_in x d old new r (virtual_row y p l) = virtual_row y (virtual_new old.entry new.entry r.entry ∙ p) (r.listed ∙ l)
  row_in x d old new r (attribute_row y p) =
      attribute_row y (record { name = p.name; class = p.class; owner = p.owner; is_attribute = p.is_attribute; prefix = p.prefix; block = p.block; first = p.first; group = group_now p.prefix p.block p.first p.group; is = p.is; entry = go r.entry; listed = r.listed ∙ p.listed; stands = r.block ∙ p.stands })
    where
      go : (new.entry ≡ old.entry) ⊎ (OfReferences old.entry × ((class : DeclNo) × (new.entry ≡ entry_to class old.entry))) → new.entry ≡ attribute_entry (Some p.first) p.name
      go (inl e) = e ∙ p.entry
      go (inr q) = absurd (subst OfReferences p.entry q.0)
  row_in x d old new r (simulation_row y p) = simulation_row y (record { name = p.name; is_simulation = p.is_simulation; first = p.first; group = subst (λ n. StandardGroup prefixes.Simulation Bs Ts n p.first) (sym r.block) (group_now prefixes.Simulation old.block p.first p.group); entry = go r.entry; listed = r.listed ∙ p.listed })
    where
      go : (new.entry ≡ old.entry) ⊎ (OfReferences old.entry × ((class : DeclNo) × (new.entry ≡ entry_to class old.entry))) → new.entry ≡ attribute_entry (Some p.first) p.name
      go (inl e) = e ∙ p.entry
      go (inr q) = absurd (subst OfReferences p.entry q.0)

  pub row_at : (d : ℕ) (row : Declaration) → slice_get s.tables.declarations d ≡ Some row → RowOf Bs Ts (slice_get Ts row.block) d row
  row_at d row at =
      let w = C.rows.was d row at in
      subst (λ z. RowOf Bs Ts (slice_get Ts z) d row) (sym w.2.block) (go (slice_get Ts w.0.block) w.0 w.2 (agree.rows d w.0 w.1))
    where
      go : (o : Option Text) (old : Declaration) → Retyped old row → RowOf (declared_by s.program).tables.blocks Ts o d old → RowOf Bs Ts o d row
      go None old r q = absurd q
      go (Some x) old r q = row_in x d old row r q

  -- the text in which a declaration stands
  pub text_of_row : (d : ℕ) (row : Declaration) → slice_get s.tables.declarations d ≡ Some row → (x : Text) × (slice_get Ts row.block ≡ Some x) × RowIn Bs Ts x d row
  text_of_row d row at = go (slice_get Ts row.block) refl (row_at d row at)
    where
      go : (o : Option Text) → slice_get Ts row.block ≡ o → RowOf Bs Ts o d row → (x : Text) × (o ≡ Some x) × RowIn Bs Ts x d row
      go None e q = absurd q
      go (Some x) e q = (x, refl, q)

  pub entry_row : (d : DeclNo) (e : Entry) → entry_of s.tables d ≡ Some e → (row : Declaration) × (slice_get s.tables.declarations d.0 ≡ Some row) × (row.entry ≡ e)
  unfolding entry_of
  entry_row d e at = go (slice_get s.tables.declarations d.0) refl at
    where
      go : (o : Option Declaration) → slice_get s.tables.declarations d.0 ≡ o → entry_in o ≡ Some e → (row : Declaration) × (slice_get s.tables.declarations d.0 ≡ Some row) × (row.entry ≡ e)
      go None f g = absurd (cc)
      go (Some row) f g = (row, f, (let h : row.entry ≡ e = cc in h))

  pub row_entry : (d : DeclNo) (row : Declaration) → slice_get s.tables.declarations d.0 ≡ Some row → entry_of s.tables d ≡ Some row.entry
  unfolding entry_of
  row_entry d row e = ap entry_in e

  pub block_is : (d : DeclNo) (row : Declaration) → slice_get s.tables.declarations d.0 ≡ Some row → block_of s d ≡ row.block
  unfolding block_of
  block_is d row e = ap block_of_row e

  -- there is a text
  pub first_text : (x : Text) × (text s 0 ≡ Some x)
  unfolding text
  first_text = go s.program.prefix s.program.block
    where
      go : (prefix : Option Prefix) (b : Block) → (x : Text) × (slice_get (program_texts prefix b) 0 ≡ Some x)
      go None (Begin i ds ss end) = (BlockText i ds ss, refl)
      go (Some p) (Begin i ds ss end) = (PrefixedText p.class p.arguments ds ss, refl)

  pub some_block : 0 < length s.tables.blocks
  unfolding text
  some_block = go (slice_get s.tables.blocks 0) refl (subst (λ o. KindIs (slice_get s.tables.blocks 0) o) first_text.1 (kind_at 0))
    where
      go : (o : Option BlockOf) → slice_get s.tables.blocks 0 ≡ o → KindIs o (Some first_text.0) → 0 < length s.tables.blocks
      go None at q = absurd q
      go (Some row) at q = slice_get_within s.tables.blocks 0 row at

  -- ---- what is connected

  -- a next level is a class
  pub connects : (k c : ℕ) → base s.tables k ≡ Some c → is_class (text s c) ≡ true
  unfolding base text
  connects k c e = (C.bases k c e).1

  -- what is no connection has no block of that kind
  pub other_kind : (k : ℕ) → is_connection (text s k) ≡ false → kind_in (slice_get (declared_by s.program).tables.blocks k) ≡ Some kind.Connection → ⊥
  unfolding text
  other_kind k other is = go (slice_get (declared_by s.program).tables.blocks k) refl is
    where
      conn : (row : BlockOf) → slice_get (declared_by s.program).tables.blocks k ≡ Some row → row.kind ≡ kind.Connection → is_connection (slice_get Ts k) ≡ true
      conn row at is = by_text (slice_get Ts k) (subst (λ o. KindIs o (slice_get Ts k)) at (agree.fine.kinds k))
        where
          program_kind : (b : BlockKind) → PlainKind b → b ≡ kind.Connection → ⊥
          program_kind kind.Program p e = cc
          program_kind kind.SubBlock p e = cc
          program_kind kind.Procedure p e = p
          program_kind kind.Class p e = p
          program_kind kind.Prefixed p e = p
          program_kind kind.Connection p e = p
          program_kind (kind.StandardClass which) p e = p

          by_text : (o : Option Text) → KindIs (Some row) o → is_connection o ≡ true
          by_text None q = absurd q
          by_text (Some (BlockText i ds ss)) q = absurd (program_kind row.kind q is)
          by_text (Some (ProcedureText result h a)) q = absurd (let f : kind.Procedure ≡ kind.Connection = sym q ∙ is in cc)
          by_text (Some (ClassText prefix h ds ss)) q = absurd (let f : kind.Class ≡ kind.Connection = sym q ∙ is in cc)
          by_text (Some ConnectionText) q = refl
          by_text (Some (PrefixedText class es ds ss)) q = absurd (let f : kind.Prefixed ≡ kind.Connection = sym q ∙ is in cc)
          by_text (Some (StandardText which)) q = absurd (let f : kind.StandardClass which ≡ kind.Connection = sym q ∙ is in cc)

      go : (o : Option BlockOf) → slice_get (declared_by s.program).tables.blocks k ≡ o → kind_in o ≡ Some kind.Connection → ⊥
      go None at f = cc
      go (Some row) at f = let q : false ≡ true = sym other ∙ conn row at (let h : row.kind ≡ kind.Connection = cc in h) in cc

  pub based_there : (k c : ℕ) → base s.tables k ≡ Some c → k < length s.tables.blocks
  unfolding base
  based_there k c e = go (slice_get s.tables.blocks k) refl e
    where
      go : (o : Option BlockOf) → slice_get s.tables.blocks k ≡ o → base_in o ≡ Some c → k < length s.tables.blocks
      go None at f = absurd (cc)
      go (Some row) at f = slice_get_within s.tables.blocks k row at

  -- what is no connection has the next level that its prefix gives it
  pub own_base_of : (k : ℕ) → is_connection (text s k) ≡ false → base s.tables k ≡ base (prefixed (declared_by s.program).tables) k
  unfolding base
  own_base_of k other = C.steady k (other_kind k other)

  -- a class has levels
  pub class_levels : (k : ℕ) → is_class (text s k) ≡ true → has_levels (text s k) ≡ true
  unfolding text
  class_levels k e = go (slice_get Bs k) (slice_get Ts k) (kind_at k) e
    where
      go : (o : Option BlockOf) (x : Option Text) → KindIs o x → is_class x ≡ true → has_levels x ≡ true
      go o None q f = absurd (cc)
      go o (Some (BlockText i ds ss)) q f = absurd (cc)
      go o (Some (ProcedureText result h a)) q f = absurd (cc)
      go o (Some (ClassText prefix h ds ss)) q f = refl
      go o (Some ConnectionText) q f = absurd (cc)
      go o (Some (PrefixedText class es ds ss)) q f = refl
      go o (Some (StandardText which)) q f = refl

  -- what may have a prefix has levels
  pub levels_there : (k : ℕ) (row : BlockOf) → slice_get (declared_by s.program).tables.blocks k ≡ Some row → has_base row.kind ≡ true → has_levels (text s k) ≡ true
  unfolding text
  levels_there k row at e = levels_of_kind row (slice_get Ts k) (subst (λ o. KindIs o (slice_get Ts k)) at (agree.fine.kinds k)) e

  -- and is no connection
  pub prefixed_other : (k : ℕ) (row : BlockOf) → slice_get (declared_by s.program).tables.blocks k ≡ Some row → has_base row.kind ≡ true → is_connection (text s k) ≡ false
  prefixed_other k row at e = no_connection (text s k) (levels_there k row at e)

  -- what has a next level before connections are made
  pub next_there : (k b : ℕ) → PrefixOf (declared_by s.program).tables (prefixed (declared_by s.program).tables) k b ⊎ (base (declared_by s.program).tables k ≡ Some b) → is_connection (text s k) ≡ false
  unfolding base
  next_there k b (inl p) = prefixed_other k p.row p.at (prefixable_base p.row.kind p.kind)
  next_there k b (inr e) = let q = standard_base_of (declared_by s.program) (program_texts s.program.prefix s.program.block) [] agree.fine k b e in prefixed_other k q.0 q.1 (ap has_base q.2.kind)

  -- what a prefix gives stays
  pub base_stays : (k b : ℕ) → base (prefixed (declared_by s.program).tables) k ≡ Some b → base s.tables k ≡ Some b
  base_stays k b e = own_base_of k (next_there k b (P.bases k b e)) ∙ e

  pub prefix_is : (k b : ℕ) → is_connection (text s k) ≡ false → base s.tables k ≡ Some b → PrefixOf (declared_by s.program).tables s.tables k b ⊎ (base (declared_by s.program).tables k ≡ Some b)
  prefix_is k b other e = go (P.bases k b (sym (own_base_of k other) ∙ e))
    where
      go : PrefixOf (declared_by s.program).tables (prefixed (declared_by s.program).tables) k b ⊎ (base (declared_by s.program).tables k ≡ Some b) → PrefixOf (declared_by s.program).tables s.tables k b ⊎ (base (declared_by s.program).tables k ≡ Some b)
      go (inl p) = inl (prefix_more (declared_by s.program).tables (prefixed (declared_by s.program).tables) s.tables base_stays (λ j h. (h.0, C.standards j ∙ h.1)) k b p)
      go (inr f) = inr f

  -- nothing stands in a connection
  pub nothing_stands_in_connections : (k : ℕ) → is_connection (text s k) ≡ true → (d : DeclNo) → StandsIn s.tables k d → ⊥
  unfolding text
  nothing_stands_in_connections k is d r =
      let w = text_of_row d.0 r.0 r.1 in none w.0 (ap is_connection (sym w.1) ∙ ap (λ z. is_connection (slice_get Ts z)) r.2 ∙ is) w.2
    where
      none : (x : Text) → is_connection (Some x) ≡ true → RowIn Bs Ts x d.0 r.0 → ⊥
      none ConnectionText e (own_row y p) = y
      none ConnectionText e (procedure_row y p) = y
      none ConnectionText e (class_row y p) = y
      none ConnectionText e (formal_row y p l) = y
      none ConnectionText e (virtual_row y p l) = y
      none ConnectionText e (attribute_row y p) = y
      none ConnectionText e (simulation_row y p) = y
      none (BlockText i ds ss) e q = cc
      none (ProcedureText result h b) e q = cc
      none (ClassText prefix h ds ss) e q = cc
      none (PrefixedText class es ds ss) e q = cc
      none (StandardText which) e q = cc

  pub nothing_in_connections : (k : ℕ) → is_connection (text s k) ≡ true → (d : DeclNo) → Among d (numbers_of s k) → ⊥
  nothing_in_connections k is d a = nothing_stands_in_connections k is d (owned k d a)

  -- ---- places

  pub begun : (k : ℕ) (row : BlockOf) → slice_get s.tables.blocks k ≡ Some row → is_standard_class row.kind ≡ false → slice_get s.tables.places row.first ≡ Some (Some k)
  begun k row at other =
      let w = row_was k row at in
      ap (λ z. slice_get z row.first) C.places ∙ ap (λ (z : BlockOf). slice_get (declared_by s.program).tables.places z.first) w.2 ∙ first_place s.program order k w.0 w.1 (ap (λ (z : BlockOf). is_standard_class z.kind) (sym w.2) ∙ other)

  -- what is known of parameters: the first declarations of a block, as many as it has
  pub counts : (k : ℕ) (row : BlockOf) → slice_get s.tables.blocks k ≡ Some row → Counts s.tables.declarations row
  counts k row at =
      let w = row_was k row at in
      let c = clean.counts k w.0 w.1 in
      let formals : row.formals ≡ w.0.formals = ap (λ (z : BlockOf). z.formals) w.2 in
      let numbers : row.numbers ≡ w.0.numbers = ap (λ (z : BlockOf). z.numbers) w.2 in record {
        fits = (let le : w.0.formals ≤ length w.0.numbers = c.fits in let l : length row.numbers ≡ length w.0.numbers = ap length numbers in omega arith);
        front = λ n d r p t lt. (let o = C.rows.was d.0 r t in param_now o.0.entry r.entry o.2.entry (c.front n d o.0 (ap (λ z. slice_get z n) (sym numbers) ∙ p) o.1 (omega (arith, formals, lt))));
        back = λ n d r p t param. (let o = C.rows.was d.0 r t in let lt : n < w.0.formals = c.back n d o.0 (ap (λ z. slice_get z n) (sym numbers) ∙ p) o.1 (param_was o.0.entry r.entry o.2.entry param) in omega (arith, formals));
      }

  pub by_name_row : (d : ℕ) (row : Declaration) (f : Formal) → slice_get s.tables.declarations d ≡ Some row → row.entry ≡ entry.Formal f → (f.mode ≡ mode.ByName) ⊎ (f.kind ≡ shape.Procedure) → has_levels (slice_get Ts row.block) ≡ false
  by_name_row d row f at is passed =
      let o = C.rows.was d row at in
      let g = formal_was o.0.entry row.entry o.2.entry f is in
      let p = program_by_name s.program of.unbroken d o.0 o.1 (subst OfName (sym g.1) (same_passed g.0 f g.2 g.3 passed)) in
      ap (λ n. has_levels (slice_get Ts n)) o.2.block ∙ ap has_levels p.at ∙ without_levels p.text p.procedure
    where
      same_passed : (old new : Formal) → old.mode ≡ new.mode → old.kind ≡ new.kind → (new.mode ≡ mode.ByName) ⊎ (new.kind ≡ shape.Procedure) → (old.mode ≡ mode.ByName) ⊎ (old.kind ≡ shape.Procedure)
      same_passed old new modes kinds (inl by_name) = inl (modes ∙ by_name)
      same_passed old new modes kinds (inr procedure) = inr (kinds ∙ procedure)

      without_levels : (x : Text) → of_procedure x → has_levels (Some x) ≡ false
      without_levels (ProcedureText result h a) q = refl
      without_levels (BlockText i ds ss) q = absurd q
      without_levels (ClassText prefix h ds ss) q = absurd q
      without_levels ConnectionText q = absurd q
      without_levels (PrefixedText class es ds ss) q = absurd q
      without_levels (StandardText which) q = absurd q

  -- a parameter by name, or one that is a procedure, stands in the text of a procedure
  pub by_name_outside : (d : DeclNo) (f : Formal) → entry_of s.tables d ≡ Some (entry.Formal f) → (f.mode ≡ mode.ByName) ⊎ (f.kind ≡ shape.Procedure) → has_levels (text s (block_of s d)) ≡ false
  unfolding text
  by_name_outside d f e passed =
      let r = entry_row d (entry.Formal f) e in
      ap (λ n. has_levels (slice_get Ts n)) (block_is d r.0 r.1) ∙ by_name_row d.0 r.0 f r.1 r.2 passed

  -- each parameter is specified
  pub specified_row : (d : ℕ) (row : Declaration) → slice_get s.tables.declarations d ≡ Some row → (w : Option WrittenMode) → row.entry ≡ entry.Unspecified w → ⊥
  specified_row d row at w e = let o = C.rows.was d row at in (clean.heads d o.0 w o.1 (unspecified_was o.0.entry row.entry o.2.entry w e)).2
