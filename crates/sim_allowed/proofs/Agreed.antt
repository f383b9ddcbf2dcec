-- The tables of an allowed program agree with its texts as far as its being typed rests on them: from the agreement of tables alone, where
-- the parts of each text stand in it.
use Rattle.std.proofs.Common.{◌≡◌, ℕ, ◌+◌, ◌⊎◌, inl, inr, Bool, true, false, List, [], ◌∷◌, Option, Some, None, refl, sym, ap, ◌∙◌, arith, if◌then◌else◌, subst}
use Rattle.std.proofs.lemmas.Bool.{false≢true}
use Rattle.std.specs.Prelude.{slice_get}
use Rattle.sim_base.specs.declared.numbering.DeclNo.{DeclNo}
use Rattle.prefix_bind.specs.Prefixes.{least_of, prefix_faults, prefixed}
use Rattle.inspect_types.specs.Connecting.{connections}
use Rattle.sim_scope.specs.declared.found.Fault.{Fault}
use Rattle.sim_scope.specs.declared.scopes.Denotation.TheVariants as denotation
use Rattle.sim_scope.specs.declared.scopes.Declaration.{Declaration}
use Rattle.sim_scope.specs.declared.types.BlockKind.{BlockKind}
use Rattle.sim_scope.specs.declared.types.BlockKind.TheVariants as block_kind
use Rattle.sim_scope.specs.declared.types.Entry.{Entry}
use Rattle.sim_scope.specs.declared.types.Entry.TheVariants as entry
use Rattle.sim_scope.specs.declared.types.Formal.{Formal}
use Rattle.sim_scope.specs.declared.types.FormalKind.{FormalKind}
use Rattle.sim_scope.specs.declared.types.FormalKind.TheVariants as shape
use Rattle.sim_scope.specs.declared.types.Mode.{Mode}
use Rattle.sim_scope.specs.declared.types.Mode.TheVariants as mode
use Rattle.sim_scope.specs.declared.types.SimType.{SimType}
use Rattle.sim_scope.specs.declared.types.SimType.TheVariants as t
use Rattle.sim_scope.specs.declared.types.StandardClass.{StandardClass}
use Rattle.sim_scope.specs.declared.types.StandardClass.TheVariants as standard
use Rattle.sim_scope.specs.Access.{around as around_in, block_at, encloser, is_connection as is_connection_kind, is_kind, is_so, joined, kind_in}
use Rattle.sim_scope.specs.Declare.{declared_by}
use Rattle.sim_scope.specs.Found.{lesser_of, precedes}
use Rattle.sim_scope.specs.Levels.{is_standard_class}
use Rattle.sim_scope.specs.Scopes.{binding, class_formals, entry_of, found_in, is_procedure_entry}
use Rattle.sim_scope.specs.Source.{Source, block_around, block_of}
use Rattle.sim_scope.specs.Tables.{BlockOf}
use Rattle.sim_scope.specs.Walk.{program_events}
use Rattle.sim_tree.specs.declared.expr.Identifier.{Identifier}
use Rattle.sim_tree.specs.Syntax.{Declarations, Heading, Statements, Expressions}
use Rattle.sim_values.specs.declared.standard.Owner.{Owner}
use Rattle.sim_values.specs.declared.standard.Owner.TheVariants as owner
use Rattle.sim_values.specs.declared.standard.Standard.{Standard}
use Rattle.sim_values.specs.Standard.{row_of}
use Rattle.sim_meaning.specs.Attributes.{first_in, is_connection}
use Rattle.sim_meaning.specs.Closing.{class_parameters}
use Rattle.sim_meaning.specs.Entries.{numbers_of}
use Rattle.sim_meaning.specs.Levels.{has_levels, is_class, qualification}
use Rattle.sim_meaning.specs.Texts.{kind_of_type, BlockText, ClassText, ConnectionText, ProcedureText, StandardText, Text, text, PrefixedText}
use Rattle.sim_meaning.specs.Virtuals.{match_in_text}
use Rattle.sim_sound.specs.Held.{Among, ArrayOf, ByName, Holds, Place, Procedure, Simply, entry_holds, first, formal_holds, held_by, later, reference_to}
use Rattle.sim_sound.specs.Typed.{ConnectionTyped, FormalsAre, IsAttribute, NoFormal, NoFormals, SetClasses, SetProcedureThere, owner_place, MatchThere}
use Rattle.sim_agree.specs.Facts.{Tabled}
use Rattle.sim_agree.specs.TablesAgree.{TablesAgree, is_attribute}
use Rattle.sim_agree.specs.TablesOf.{TablesOf}
use Rattle.sim_agree.proofs.Connected.{connections_connect}
use Rattle.sim_agree.proofs.Enclosed.{connection_enclosed}
use Rattle.sim_agree.proofs.Fitted.{AllConnect}
use Rattle.sim_agree.proofs.Matches.{match_found, seen_fits}
use Rattle.sim_agree.proofs.Placing.{block_placed, body_placed, class_placed, prefixed_placed}
use Rattle.sim_agree.proofs.Proper.{proper}
use Rattle.sim_agree.proofs.Results.{result_written}
use Rattle.sim_agree.proofs.Simulating.{attribute_simulates, found_named, found_simulates, process_found}
use Rattle.sim_agree.proofs.Tables.{row_entry}
use Rattle.sim_agree.proofs.Whole.{tables_agree}
use Rattle.sim_allowed.proofs.Allowed.{AllowedIs}
use Rattle.sim_allowed.proofs.Bounds.{ArraysNamed}
use Rattle.sim_allowed.proofs.Constants.{constant_is, constant_plain}
use Rattle.sim_allowed.proofs.Expressions.{AllNear}
use Rattle.sim_allowed.proofs.Matching.{result_given}
use Rattle.sim_allowed.proofs.NearFormals.{all_near, formals_near}
use Rattle.sim_allowed.proofs.Outside.{connected_fine, outside}
use Rattle.sim_allowed.proofs.Whole.{Agreed}

-- What of the texts is known beside: the names of one array declaration are of one type, and no match of a virtual has parameters.
pub record Written (s : Source) : Type 0 where
  pub arrays : (k i : ℕ) (ds : Declarations) (ss : Statements) → text s k ≡ Some (BlockText i ds ss) → ArraysNamed s ds
  pub class_arrays : (k : ℕ) (prefix : Option Identifier) (h : Heading) (ds : Declarations) (ss : Statements) → text s k ≡ Some (ClassText prefix h ds ss) → ArraysNamed s ds
  pub prefixed_arrays : (k : ℕ) (class : Identifier) (es : Expressions) (ds : Declarations) (ss : Statements) → text s k ≡ Some (PrefixedText class es ds ss) → ArraysNamed s ds

-- nothing in a list without formal parameters is one
no_formal : (s : Source) (d : DeclNo) (ds : List DeclNo) → NoFormals s ds → Among d ds → NoFormal (entry_of s.tables d)
no_formal s d [] n among = elim among [ ]
no_formal s d (x ∷ xs) n first = n.0
no_formal s d (x ∷ xs) n (later among) = no_formal s d xs n.1 among

-- a variable holds no array
no_array : (s : Source) (type : SimType) (h : Holds) → held_by s type ≡ ArrayOf h → ⊥
no_array s t.Integer h e = absurd (cc)
no_array s t.Boolean h e = absurd (cc)
no_array s t.Character h e = absurd (cc)
no_array s t.Text h e = absurd (cc)
no_array s t.NoneType h e = absurd (cc)
no_array s (t.Ref d) h e = go (qualification s (Some (t.Ref d))) e
  where
    go : (o : Option ℕ) → reference_to o ≡ ArrayOf h → ⊥
    go None f = absurd (cc)
    go (Some c) f = absurd (cc)

some_same : {A : Type 0} (a b : A) → Some a ≡ Some b → a ≡ b
some_same a b e = cc

-- what holds an array and is no formal parameter is an array
array_entry : (s : Source) (o : Option Entry) (h : Holds) → NoFormal o → entry_holds s false o ≡ Some (ArrayOf h) → (element : SimType) × (dimensions : ℕ) × (o ≡ Some (entry.Array element dimensions))
array_entry s (Some (entry.Array element dimensions)) h n e = (element, dimensions, refl)
array_entry s (Some (entry.Variable type)) h n e = absurd (no_array s type h (some_same (held_by s type) (ArrayOf h) e))
array_entry s (Some (entry.Formal f)) h n e = absurd n
array_entry s (Some (entry.Constant type)) h n e = absurd (cc)
array_entry s (Some (entry.Procedure result k)) h n e = absurd (cc)
array_entry s (Some (entry.Class k)) h n e = absurd (cc)
array_entry s (Some (entry.Virtual result own)) h n e = absurd (cc)
array_entry s (Some (entry.Unspecified w)) h n e = absurd (cc)
array_entry s (Some (entry.Attribute name given result)) h n e = absurd (cc)
array_entry s None h n e = absurd (cc)

-- the first round finds nothing that the declarations break
lesser_none : (o q : Option Fault) → lesser_of o q ≡ None → o ≡ None
lesser_none None q e = refl
lesser_none (Some f) None e = e
lesser_none (Some f) (Some g) e = go (precedes g f) e
  where
    go : (c : Bool) → (if c then Some g else Some f) ≡ None → Some f ≡ None
    go true e = absurd (cc)
    go false e = e

lesser_other : (o q : Option Fault) → lesser_of o q ≡ None → q ≡ None
lesser_other None None e = e
lesser_other None (Some g) e = e
lesser_other (Some f) None e = refl
lesser_other (Some f) (Some g) e = go (precedes g f) e
  where
    go : (c : Bool) → (if c then Some g else Some f) ≡ None → Some g ≡ None
    go true e = e
    go false e = absurd (cc)

-- a connection is no class of SIMSET
no_standard : (k : BlockKind) → is_connection_kind k ≡ true → is_standard_class k ≡ false
no_standard block_kind.Connection e = refl
no_standard block_kind.Program e = refl
no_standard block_kind.SubBlock e = refl
no_standard block_kind.Procedure e = refl
no_standard block_kind.Class e = refl
no_standard block_kind.Prefixed e = refl
no_standard (block_kind.StandardClass which) e = absurd (false≢true e)

-- neither a class, a standard attribute nor a procedure has a cell, and all else is listed
class_no_cell : (s : Source) (e : Entry) (k : ℕ) (h : Holds) → e ≡ entry.Class k → entry_holds s true (Some e) ≡ Some h → ⊥
class_no_cell s e k h is holds = let none : None ≡ Some h = sym (ap (λ z. entry_holds s true (Some z)) is) ∙ holds in cc

attribute_no_cell : (s : Source) (e : Entry) (h : Holds) → is_attribute e ≡ true → entry_holds s true (Some e) ≡ Some h → ⊥
attribute_no_cell s (entry.Attribute name w result) h is holds = cc
attribute_no_cell s (entry.Variable type) h is holds = false≢true is
attribute_no_cell s (entry.Constant type) h is holds = false≢true is
attribute_no_cell s (entry.Array element n) h is holds = false≢true is
attribute_no_cell s (entry.Procedure result k) h is holds = false≢true is
attribute_no_cell s (entry.Class k) h is holds = false≢true is
attribute_no_cell s (entry.Virtual result own) h is holds = false≢true is
attribute_no_cell s (entry.Formal f) h is holds = false≢true is
attribute_no_cell s (entry.Unspecified w) h is holds = false≢true is

procedure_no_cell : (s : Source) (e : Entry) (h : Holds) → is_procedure_entry e ≡ true → entry_holds s true (Some e) ≡ Some h → ⊥
procedure_no_cell s (entry.Procedure result k) h is holds = cc
procedure_no_cell s (entry.Variable type) h is holds = false≢true is
procedure_no_cell s (entry.Constant type) h is holds = false≢true is
procedure_no_cell s (entry.Array element n) h is holds = false≢true is
procedure_no_cell s (entry.Class k) h is holds = false≢true is
procedure_no_cell s (entry.Virtual result own) h is holds = false≢true is
procedure_no_cell s (entry.Formal f) h is holds = false≢true is
procedure_no_cell s (entry.Unspecified w) h is holds = false≢true is
procedure_no_cell s (entry.Attribute name w result) h is holds = false≢true is

attribute_entry_is : (e : Entry) → is_attribute e ≡ true → IsAttribute (Some e)
attribute_entry_is (entry.Attribute name w result) is = tt
attribute_entry_is (entry.Variable type) is = absurd (false≢true is)
attribute_entry_is (entry.Constant type) is = absurd (false≢true is)
attribute_entry_is (entry.Array element n) is = absurd (false≢true is)
attribute_entry_is (entry.Procedure result k) is = absurd (false≢true is)
attribute_entry_is (entry.Class k) is = absurd (false≢true is)
attribute_entry_is (entry.Virtual result own) is = absurd (false≢true is)
attribute_entry_is (entry.Formal f) is = absurd (false≢true is)
attribute_entry_is (entry.Unspecified w) is = absurd (false≢true is)

cells_listed : (s : Source) → TablesAgree s → (d : DeclNo) (row : Declaration) (h : Holds) → slice_get s.tables.declarations d.0 ≡ Some row → entry_holds s true (Some row.entry) ≡ Some h → Among d (numbers_of s row.block)
cells_listed s g d row h at holds = go row.listed refl
  where
    go : (b : Bool) → row.listed ≡ b → Among d (numbers_of s row.block)
    go true is = g.listed d row at is
    go false is = absurd (unlisted (g.unlisted d row at is))
      where
        unlisted : ((k : ℕ) × (row.entry ≡ entry.Class k)) ⊎ ((is_attribute row.entry ≡ true) ⊎ (is_procedure_entry row.entry ≡ true)) → ⊥
        unlisted (inl q) = class_no_cell s row.entry q.0 h q.1 holds
        unlisted (inr (inl q)) = attribute_no_cell s row.entry h q holds
        unlisted (inr (inr q)) = procedure_no_cell s row.entry h q holds

-- what holds an actual parameter by name, or a procedure, is a parameter, and that of no class
abbrev Special : Holds → Type 0
Special (ByName h) = Unit {0}
Special (Procedure r) = Unit {0}
Special _ = ⊥

no_special : (s : Source) (type : SimType) → Special (held_by s type) → ⊥
no_special s t.Integer e = e
no_special s t.Boolean e = e
no_special s t.Character e = e
no_special s t.Text e = e
no_special s t.NoneType e = e
no_special s (t.Ref d) e = go (qualification s (Some (t.Ref d))) e
  where
    go : (o : Option ℕ) → Special (reference_to o) → ⊥
    go None f = f
    go (Some c) f = f

same_special : (g h : Holds) → Some g ≡ Some h → Special h → Special g
same_special g h e a = let same : h ≡ g = sym (some_same g h e) in subst Special same a

special_formal : (s : Source) (m : Mode) (k : FormalKind) (type : Option SimType) (h : Holds) → formal_holds s m k type ≡ Some h → Special h → (m ≡ mode.ByName) ⊎ (k ≡ shape.Procedure)
special_formal s mode.ByName k type h e a = inl refl
special_formal s mode.ByValue shape.Simple (Some type) h e a = absurd (no_special s type (same_special (held_by s type) h e a))
special_formal s mode.ByReference shape.Simple (Some type) h e a = absurd (no_special s type (same_special (held_by s type) h e a))
special_formal s mode.ByValue shape.Array (Some type) h e a = absurd (same_special (ArrayOf (held_by s type)) h e a)
special_formal s mode.ByReference shape.Array (Some type) h e a = absurd (same_special (ArrayOf (held_by s type)) h e a)
special_formal s mode.ByValue shape.Simple None h e a = absurd (cc)
special_formal s mode.ByReference shape.Simple None h e a = absurd (cc)
special_formal s mode.ByValue shape.Array None h e a = absurd (cc)
special_formal s mode.ByReference shape.Array None h e a = absurd (cc)
special_formal s mode.ByValue shape.Procedure type h e a = inr refl
special_formal s mode.ByReference shape.Procedure type h e a = inr refl

special_entry : (s : Source) (o : Option Entry) (h : Holds) → entry_holds s true o ≡ Some h → Special h → (f : Formal) × (o ≡ Some (entry.Formal f)) × ((f.mode ≡ mode.ByName) ⊎ (f.kind ≡ shape.Procedure))
special_entry s (Some (entry.Formal f)) h e a = (f, refl, special_formal s f.mode f.kind f.ty h e a)
special_entry s (Some (entry.Variable type)) h e a = absurd (no_special s type (same_special (held_by s type) h e a))
special_entry s (Some (entry.Constant type)) h e a = absurd (same_special (Simply (kind_of_type type)) h e a)
special_entry s (Some (entry.Array element dimensions)) h e a = absurd (same_special (ArrayOf (held_by s element)) h e a)
special_entry s (Some (entry.Procedure result k)) h e a = absurd (cc)
special_entry s (Some (entry.Class k)) h e a = absurd (cc)
special_entry s (Some (entry.Virtual result own)) h e a = absurd (cc)
special_entry s (Some (entry.Unspecified w)) h e a = absurd (cc)
special_entry s (Some (entry.Attribute name given result)) h e a = absurd (cc)
special_entry s None h e a = absurd (cc)

none_special : (s : Source) → TablesAgree s → (k : ℕ) → has_levels (text s k) ≡ true → (d : DeclNo) (h : Holds) → Among d (numbers_of s k) → entry_holds s true (entry_of s.tables d) ≡ Some h → Special h → ⊥
none_special s g k levels d h among holds a =
    let f = special_entry s (entry_of s.tables d) h holds a in
    false≢true (sym (g.by_name d f.0 f.1 f.2) ∙ ap (λ n. has_levels (text s n)) (g.owned k d among) ∙ levels)

not_by_name : (s : Source) → TablesAgree s → (k : ℕ) → has_levels (text s k) ≡ true → (d : DeclNo) (h : Holds) → Among d (numbers_of s k) → entry_holds s true (entry_of s.tables d) ≡ Some (ByName h) → ⊥
not_by_name s g k levels d h among holds = none_special s g k levels d (ByName h) among holds tt

no_procedure : (s : Source) → TablesAgree s → (k : ℕ) → has_levels (text s k) ≡ true → (d : DeclNo) (r : Option SimType) → Among d (numbers_of s k) → entry_holds s true (entry_of s.tables d) ≡ Some (Procedure r) → ⊥
no_procedure s g k levels d r among holds = none_special s g k levels d (Procedure r) among holds tt

-- the standard class in which an attribute is declared
attribute_class : (s : Source) (d : DeclNo) (name : Standard) (parameter result : Option SimType) → SetProcedureThere s d name parameter result → is_class (text s (block_of s d)) ≡ true
attribute_class s d name parameter result p = ap (λ z. is_class (text s z)) p.declared ∙ go (row_of name).owner p.place p.placed p.of_process
  where
    at : (k : ℕ) (which : StandardClass) (n : ℕ) → k ≡ n → text s n ≡ Some (StandardText which) → is_class (text s k) ≡ true
    at k which n same is = ap (λ z. is_class (text s z)) same ∙ ap is_class is

    c : SetClasses s p.linkage
    c = p.classes

    go : (o : Owner) (place : ℕ) → owner_place o ≡ Some place → (place ≡ 3 → text s (p.linkage + 3) ≡ Some (StandardText standard.Process)) → is_class (text s (p.linkage + place)) ≡ true
    go owner.Linkage place e last = let zero : 0 ≡ place = cc in at (p.linkage + place) standard.Linkage p.linkage (omega (arith, zero)) c.linkage_is
    go owner.Link place e last = let one : 1 ≡ place = cc in at (p.linkage + place) standard.Link (p.linkage + 1) (omega (arith, one)) c.link_is
    go owner.Head place e last = let two : 2 ≡ place = cc in at (p.linkage + place) standard.Head (p.linkage + 2) (omega (arith, two)) c.head_is
    go owner.Process place e last = let three : 3 ≡ place = cc in at (p.linkage + place) standard.Process (p.linkage + 3) (omega (arith, three)) (last (sym three))
    go owner.Environment place e last = absurd (cc)
    go owner.Text place e last = absurd (cc)
    go owner.Sysin place e last = absurd (cc)
    go owner.Sysout place e last = absurd (cc)
    go owner.Images place e last = absurd (cc)
    go owner.Object place e last = absurd (cc)
    go owner.Simulation place e last = absurd (cc)

-- the parameters of a class
class_heading_is : (s : Source) → TablesAgree s → (k : ℕ) → is_class (text s k) ≡ true → FormalsAre s (class_formals s.tables k) (class_parameters s (Some k))
class_heading_is s g k class = go (text s k) refl class
  where
    go : (o : Option Text) → text s k ≡ o → is_class o ≡ true → FormalsAre s (class_formals s.tables k) (class_parameters s (Some k))
    go (Some (ClassText prefix h ds ss)) at e = (g.class_texts k prefix h ds ss at).formals
    go (Some (StandardText which)) at e = (g.standard_texts k which at).formals
    go (Some (BlockText i ds ss)) at e = absurd (false≢true e)
    go (Some (ProcedureText r h a)) at e = absurd (false≢true e)
    go (Some (PrefixedText c es ds ss)) at e = absurd (false≢true e)
    go (Some ConnectionText) at e = absurd (false≢true e)
    go None at e = absurd (false≢true e)

module _ (s : Source) (a : AllowedIs s) where
  pub tables_of : TablesOf s
  tables_of = record {
    tables = a.tables;
    unbroken = lesser_none (declared_by s.program).least (least_of (prefix_faults (prefixed (declared_by s.program).tables))) a.first;
    prefixes = lesser_other (declared_by s.program).least (least_of (prefix_faults (prefixed (declared_by s.program).tables))) a.first;
  }

  agrees : TablesAgree s
  agrees = tables_agree s tables_of a.order

  connects : AllConnect s None (program_events connections s.program)
  connects = connections_connect s tables_of a.order

  pub not_found_outside : (token found : ℕ) (name : List ℕ) (d : DeclNo) (k : ℕ) → binding s.tables token name ≡ Some (denotation.Declared d) → entry_of s.tables d ≡ Some (entry.Class k) → found_in s.tables token name ≡ Some found → is_connection (text s found) ≡ false
  not_found_outside = outside s tables_of a.order agrees a.says

  tabled : Tabled s
  tabled = let g = agrees in record {
    some_block = g.some_block;
    there = g.there;
    attributes = g.attributes;
    proper = proper s tables_of a.order a.second not_found_outside (constant_plain s tables_of a.filled a.order a.says);
    headings = λ d result k e. (let p = g.procedures d result k e in g.bodies k p.given p.heading p.body p.is);
    owned = λ d result k e. (g.procedures d result k e).owned;
    class_headings = λ d k e. (let c = (g.classes d k e).0 in class_heading_is s g k c.is);
    classes = λ d k e. (let c = g.classes d k e in (c.0.is, c.1));
    owners = g.owners;
    constants = constant_is s tables_of a.filled a.order a.says;
    attribute_owners = λ d name parameter result e is. attribute_class s d name parameter result (g.set_procedures d name parameter result e is);
    virtuals = g.virtuals;
    matches = λ x v match result own binds is seen. seen_fits s tables_of a.order a.second v result own is x match binds seen;
    around = g.around;
    inside = g.inside;
    outside = not_found_outside;
    connected = connected_fine s tables_of a.order a.says;
    simulates = found_simulates s tables_of a.order;
    simulates_behind = attribute_simulates s tables_of a.order;
    simulation_levels = λ k e. (g.simulations k e).has;
    class_named = found_named s tables_of a.order;
    processes_found = process_found s tables_of a.order;
    block_prefixes = g.block_prefixes;
    class_levels = g.class_levels;
    level_kinds = g.level_kinds;
    connects = g.connects;
    connections = g.connections;
    prefixes = g.prefixes;
  }

  -- the class of each type is declared around
  pub near_there : (f : Place) → AllNear s f
  near_there = all_near s tables_of a.order agrees tabled a.second

  module _ (written : Written s) where
    -- a connection is the text around its first token
    begins_at : (k : ℕ) (row : BlockOf) → slice_get s.tables.blocks k ≡ Some row → is_connection (text s k) ≡ true → joined (slice_get s.tables.places row.first) ≡ Some k
    unfolding block_at is_kind
    begins_at k row at is =
        let kind : is_connection_kind row.kind ≡ true = sym (ap (λ o. is_so is_connection_kind (kind_in o)) at) ∙ agrees.connections k ∙ is in
        agrees.begins k row at (no_standard row.kind kind)

    -- it stands in another text
    connection_typed : (k : ℕ) → text s k ≡ Some ConnectionText → ConnectionTyped s k
    unfolding block_around encloser
    connection_typed k is = record {
      around = begins (slice_get s.tables.blocks k) refl;
      stands = (out.0, out.1, agrees.levels_of_connections k out.0 (ap is_connection is) out.1);
    }
      where
        out : (u : ℕ) × (encloser s.tables k ≡ Some u)
        out = connection_enclosed s tables_of a.order k is

        begins : (o : Option BlockOf) → slice_get s.tables.blocks k ≡ o → joined (slice_get s.tables.places (first_in o)) ≡ Some k
        begins (Some row) at = begins_at k row at (ap is_connection is)
        begins None at = absurd (let f : None ≡ Some out.0 = sym (ap around_in at) ∙ out.1 in cc)

    -- what matches a virtual
    match_there : (v : DeclNo) (result : Option SimType) (own : Option DeclNo) (k match : ℕ) → entry_of s.tables v ≡ Some (entry.Virtual result own) → match_in_text s v.0 (Some k) ≡ Some (Some match) → MatchThere s result k match
    match_there v result own k match is found =
        let m = match_found s tables_of a.order a.second v result own is k match found in
        let declares : entry_of s.tables m.declaration ≡ Some (entry.Procedure m.given match) = row_entry s tables_of a.order m.declaration m.row m.at ∙ ap Some m.entry in
        let p = agrees.procedures m.declaration m.given match declares in
        record {
          given = p.given;
          heading = p.heading;
          body = p.body;
          is = p.is;
          declaration = m.declaration;
          own = m.given;
          declares = declares;
          level = m.level;
          gives = result_given s result m.given (tabled.proper v (entry.Virtual result own) is) (tabled.proper m.declaration (entry.Procedure m.given match) declares) m.fits;
        }

    pub agreed_where : Agreed s
    agreed_where = let g = agrees in record {
      tabled = tabled;
      starts = g.starts;
      outermost = g.outermost;
      levels = g.levels;
      listed = cells_listed s g;
      procedures = g.procedures;
      matches = match_there;
      classes = λ d k e. (g.classes d k e).0;
      set_classes = g.set_classes;
      set_procedures = g.set_procedures;
      simulations = g.simulations;
      processes = g.processes;
      simulation_procedures = g.simulation_procedures;
      bare = λ d row which at is. attribute_entry_is row.entry (g.bare d row which at is);
      blocks = λ k i ds ss is. (let b = g.blocks k i ds ss is in let p = block_placed s tables_of a.order connects k i ds ss is in record {
        no_formals = b.no_formals;
        distinct = b.arrays.distinct;
        made = λ d element among e. (let x = array_entry s (entry_of s.tables d) element (no_formal s d (numbers_of s k) b.no_formals among) e in b.arrays.made d x.0 x.1 among x.2);
        own = b.arrays.own;
        named = written.arrays k i ds ss is;
        arrays = p.0;
        statements = p.1;
      });
      bodies = λ k result h x is. record { written = result_written s tables_of a.order k result h x is; formals = g.bodies k result h x is; near = formals_near s tables_of a.order g tabled a.second k result h x is (g.bodies k result h x is); body = body_placed s tables_of a.order connects k result h x is };
      class_bodies = λ k prefix h ds ss is. (let b = g.class_texts k prefix h ds ss is in let p = class_placed s tables_of a.order connects k prefix h ds ss is in record {
        formals = b.formals;
        parameters = b.parameters;
        different = g.different k;
        not_by_name = not_by_name s g k (ap has_levels is);
        no_procedure = no_procedure s g k (ap has_levels is);
        distinct = b.arrays.distinct;
        made = b.arrays.made;
        own = b.arrays.own;
        named = written.class_arrays k prefix h ds ss is;
        arrays = p.0;
        statements = p.1;
        stays = b.stays;
      });
      prefixed_bodies = λ k class es ds ss is. (let b = g.prefixed_texts k class es ds ss is in let p = prefixed_placed s tables_of a.order connects k class es ds ss is in record {
        formals = b.formals;
        parameters = b.parameters;
        different = g.different k;
        not_by_name = not_by_name s g k (ap has_levels is);
        no_procedure = no_procedure s g k (ap has_levels is);
        distinct = b.arrays.distinct;
        made = b.arrays.made;
        own = b.arrays.own;
        named = written.prefixed_arrays k class es ds ss is;
        arrays = p.0;
        statements = p.1;
        stays = b.stays;
      });
      standard_bodies = λ k which is. (let b = g.standard_texts k which is in record {
        formals = b.formals;
        parameters = b.parameters;
        different = g.different k;
        not_by_name = not_by_name s g k (ap has_levels is);
        no_procedure = no_procedure s g k (ap has_levels is);
        distinct = b.arrays.distinct;
        made = b.arrays.made;
        own = b.arrays.own;
        named = tt;
        arrays = tt;
        statements = tt;
        stays = b.stays;
      });
      connections = connection_typed;
      not_class_free = g.outward;
      no_set_block = g.no_set_block;
    }
