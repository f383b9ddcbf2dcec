-- A typed expression that is closed is a fine tree.
use Rattle.sim_base.specs.declared.numbering.DeclNo.{DeclNo}
use Rattle.sim_scope.specs.declared.scopes.Denotation.{Denotation}
use Rattle.sim_scope.specs.declared.scopes.Denotation.TheVariants as denotation
use Rattle.sim_scope.specs.declared.types.Entry.{Entry}
use Rattle.sim_scope.specs.declared.types.Entry.TheVariants as entry
use Rattle.sim_scope.specs.declared.types.Formal.{Formal}
use Rattle.sim_scope.specs.declared.types.FormalKind.{FormalKind}
use Rattle.sim_scope.specs.declared.types.FormalKind.TheVariants as shape
use Rattle.sim_scope.specs.declared.types.Mode.{Mode}
use Rattle.sim_scope.specs.declared.types.Mode.TheVariants as mode
use Rattle.sim_scope.specs.declared.types.SimType.{SimType}
use Rattle.sim_tree.specs.declared.expr.Identifier.{Identifier}
use Rattle.sim_tree.specs.declared.expr.Sign.{Sign}
use Rattle.sim_tree.specs.declared.expr.Sign.TheVariants as sign
use Rattle.sim_tree.specs.Syntax.{Expression, Expressions, Literal, NoMore, Then}
use Rattle.sim_tree.specs.Syntax as syntax
use Rattle.sim_values.specs.declared.kind.Kind.{Kind}
use Rattle.sim_values.specs.declared.kind.Kind.TheVariants as kind
use Rattle.sim_values.specs.declared.standard.Standard.{Standard}
use Rattle.sim_values.specs.Standard.{is_image, moves_position, on_image, operands_of, row_of}
use Rattle.sim_scope.specs.declared.standard.StandardName.{StandardName}
use Rattle.sim_scope.specs.declared.standard.StandardName.TheVariants as found
use Rattle.sim_values.specs.declared.standard.Standard.TheVariants as name_of
use Rattle.sim_meaning.specs.Closing as closing
use Rattle.sim_meaning.specs.Names.{procedure_named, stream_named}
use Rattle.std.proofs.Common.{◌≡◌, ℕ, Bool, true, false, List, [], ◌∷◌, Option, Some, None, refl, sym, ap, ◌∙◌, subst}
use Rattle.std.specs.Prelude.{◌&&◌, ◌||◌, not, if◌then◌else◌}
use Rattle.sim_scope.specs.Levels.{base, has_level}
use Rattle.sim_scope.specs.Scopes.{entry_of}
use Rattle.sim_scope.specs.Source.{Source, block_of, denoted, found_at, level_of, line_at}
use Rattle.sim_tree.specs.declared.expr.Membership.{Membership}
use Rattle.sim_values.specs.Plain.{Nothing, Object}
use Rattle.sim_code.specs.Instances.{at_level}
use Rattle.sim_code.specs.Transfers.{Calling, Detaching, Resuming, Transfer}
use Rattle.sim_code.specs.Simulations.{is_simulation_name}
use Rattle.sim_meaning.specs.Attributes.{attribute_procedure, origin_if, attribute, attribute_denoted, attribute_formals, attribute_if, block_found, cell_of_connection, connected_object, connection_at, declared_attribute, detach_term, generation, if_any, is_connection, is_standard_attribute, membership_term, own_attribute, own_term, place_of_attribute, qua_term, simulation_term, this_instance, this_term, transfer_at, transfer_term, with_arrays_kept, has_type}
use Rattle.sim_meaning.specs.Closing.{Joining, Lazily, Negated, Plainly, Sort, array_place, array_term, behind_dot, class_parameters, close, close_actuals, close_all, close_place, close_procedure, constant_term, declared_place, declared_term, dot_term, formal_place, formal_term, home_of, home_of_class, image_place, in_instance, is_attribute, is_attribute_denoted, is_image_behind, is_text, is_variable, is_variable_denoted, is_variable_entry, literal_term, class_of_formal, formal_by_name, named_formal, named_place, named_term, type_of_formal, object_term, signed_term, sort_of, standard_name_term, standard_term, stream_denoted, stream_of, sysout, two_term, variable_place, variable_term}
use Rattle.sim_meaning.specs.Constants.{text_constant}
use Rattle.sim_meaning.specs.Entries.{formals_of}
use Rattle.sim_meaning.specs.Levels.{class_at, has_levels, is_class, is_process_itself, qualification}
use Rattle.sim_meaning.specs.Pending.{CheckedOf, MatchOf, NewOf, ProcedureOf, ActualOf, Cell, CallOf, Declared, ElementOf, ForPlace, ForValue, NamedOf, Use, Further, ImageOf, Instances, Key, NoTerm, PlaceOf, StandardOf, Term, Terms, NoMeaning, ValueAt, Given}
use Rattle.sim_meaning.specs.Texts.{constant_of, is_class_free, kind_of_type, text}
use Rattle.sim_sound.specs.Held.{ArrayOf, ByName, Fits, Holds, In, InBound, IsFixed, Place, Refers, Sees, SeesConnected, Simply, StandsAround, declared_holds, entry_holds, entry_names, formal_holds, held_by, reference_to, Procedure, ResultFits, given_by, formal_means}
use Rattle.sim_sound.specs.Expressions.{NamedIs, FormalStands, ProcedureDeclared, ProcedureDot, ProcedureNamed, CheckedGives, FormalCalled, ParametersAre, ProcedureIs, ActualsFit, AreIntegers, AreOf, ArrayNames, BehindGives, CallGives, ConstantNames, DeclaredGives, DotGives, ExprIs, HeldNames, IdentifierGives, IsReference, KnownAt, LeftHeld, LiteralIs, NameGives, NamedGives, NewIs, ObjectHas, OfText, OwnGives, OwnKnown, OwnNameGives, SimulationGives, SimulationKnown, SortKinds, StandardGives, ThisFound, ThisIs, VariableNames}
use Rattle.sim_sound.specs.Typed.{ClassThere, Typed}
use Rattle.sim_sound.proofs.Attributes.{IsNoProcedure, NamedEntry, entry_alone, entry_fine, holds_result, entry_lies, gives_result, held_of_kind, held_plain, known_of, left_known, named_entry, not_named, left_variable_is, leveled, names_variable, no_left_variable, procedure_in, text_left, virtual_in}
use Rattle.sim_sound.proofs.Calls.{dot_transfers_not, identifier_transfers_not, not_own, own_denoted, own_is_attribute}
use Rattle.sim_sound.proofs.Constants.{constant_no_reference, text_no_reference, value_fine}
use Rattle.sim_sound.proofs.Fitting.{level_self, plain_fits}
use Rattle.sim_sound.proofs.Cells.{own_level, stands_level_of}
use Rattle.sim_sound.proofs.Formals.{formals_same}
use Rattle.sim_sound.proofs.Prefixes.{LevelOf, class_has, class_solid, level_has, level_has_levels, level_is, level_of_levels, levels_solid}
use Rattle.sim_sound.proofs.Reach.{Reached, Reaches, ReachesText, reaches_from, text_from}
use Rattle.sim_sound.proofs.ProcessClasses.{itself_process}
use Rattle.sim_sound.proofs.Results.{itself_fits}
use Rattle.sim_sound.proofs.Running.{StoreFine}
use Rattle.sim_sound.proofs.Sound.{Makes, Gets, BlockIn, IntegersFine, OperandIs, OperandsAre, OperandsFine, TermFine, TermsFine, class_kinds, formal_kinds, in_connection, in_instance as at_cell, simple}
use Rattle.sim_sound.proofs.Values.{Stands, Whichever, AddressOf, AllArrays, CellTarget, Component, ImageAddress, IsImage, IsPlain, Kinds, ObjectOf, PlainFine, Value, Whole, held_kinds, NewObject}
use Rattle.sim_sound.proofs.Passed.{class_itself, actual_fine, class_actual, value_kinds, values_are, and_second, or_first, StreamIs, stream_denotes, nothing_left, value_gets, attribute_entry, class_named, target_of, whole_of, TransferFrom}

plain_no_procedure : (h : Holds) → IsPlain h → IsNoProcedure (Some h)
plain_no_procedure (Simply k) is = tt
plain_no_procedure (Refers c) is = tt
plain_no_procedure (ArrayOf h) is = absurd is
plain_no_procedure (Procedure r) is = absurd is
plain_no_procedure (ByName h) is = absurd is

pub formal_no_procedure : (s : Source) (g : FormalKind) (ty : Option SimType) (es : Expressions) → closing.is_variable_formal g es ≡ true → IsNoProcedure (formal_means s g ty)
formal_no_procedure s shape.Simple (Some ty) es v = plain_no_procedure (held_by s ty) (held_plain s ty)
formal_no_procedure s shape.Simple None es v = tt
formal_no_procedure s shape.Array (Some ty) es v = tt
formal_no_procedure s shape.Array None es v = tt
formal_no_procedure s shape.Procedure ty es v = absurd (cc)

no_procedure_left : (Known : Type 0) (es : Expressions) (Indices : Type 0) (r : Option SimType) (h : Holds) → LeftHeld Known es Indices (Some (Procedure r)) h → ⊥
no_procedure_left Known NoMore Indices r h a = a
no_procedure_left Known (Then e es) Indices r h a = a

module _ (s : Source) (ok : Typed s) (o : AllArrays) (m : Instances) (store : StoreFine s o m) (i t : ℕ) (todo : List DeclNo) (from : Place) (at : Stands s m i from) where
  reach : Reaches s m i from
  reach = reaches_from s ok o m store i from at

  around : ReachesText s m i from
  around = text_from s ok o m store i from at

  stream_is : (a : Expression) → StreamIs (stream_of s a)
  unfolding stream_of
  stream_is (syntax.Named name es) = stream_denotes (denoted s name.token.0)
  stream_is _ = tt

  abbrev Fine : Term → Option Kinds → Type 0
  Fine x g = TermFine s m i t todo x g

  found_in : (x : Option ℕ) (j : ℕ) (f : ℕ → Term) (g : Option Kinds) → x ≡ Some j → Fine (f j) g → Fine (in_instance x f) g
  found_in x j f g e a = subst (λ y. Fine (in_instance y f) g) (sym e) a

  -- a cell of what is seen
  cell_seen : (d : DeclNo) (h : Holds) (f : ℕ → Term) (g : Option Kinds) → declared_holds s (block_of s d) d ≡ Some h → Sees s from d → ((j : ℕ) → CellTarget s m i j (Declared d.0) h → Fine (f j) g) → Fine (in_instance (home_of s m i d) f) g
  cell_seen d h f g e sees go = let x = reach d sees in found_in (home_of s m i d) x.instance f g x.found (go x.instance (target_of s ok m i d h x e))

  -- what a cell holds is given where it fits
  cell_given : (j : ℕ) (key : Key) (held h : Holds) → Fits s held h → CellTarget s m i j key held → Fine (Cell j key) (Some (Value h))
  cell_given j key held h fits c = (held, (h, fits, refl), at_cell c)

  array_given : (j : ℕ) (key : Key) (k h : Holds) → ArrayOf k ≡ h → CellTarget s m i j key (ArrayOf k) → Fine (Cell j key) (Some (Value h))
  array_given j key k h same c = cell_given j key (ArrayOf k) h (subst (Fits s (ArrayOf k)) same refl) c

  variable_fine : (d : DeclNo) (es : Expressions) (held h : Holds) → declared_holds s (block_of s d) d ≡ Some held → VariableNames s (Sees s from d) es held h → Fine (variable_term s m i d es) (Some (Value h))
  variable_fine d NoMore held h e a = cell_seen d held (λ j. Cell j (Declared d.0)) (Some (Value h)) e a.1 (λ j c. cell_given j (Declared d.0) held h a.0 c)
  variable_fine d (Then x es) held h e a = absurd a

  array_fine : (d : DeclNo) (line : ℕ) (es : Expressions) (ts : Terms) (Indices : Type 0) (k h : Holds) → declared_holds s (block_of s d) d ≡ Some (ArrayOf k) → (Indices → IntegersFine s m i t todo ts) → ArrayNames s (Sees s from d) es Indices k h → Fine (array_term s m i line d es ts) (Some (Value h))
  array_fine d line NoMore ts Indices k h e go a = cell_seen d (ArrayOf k) (λ j. Cell j (Declared d.0)) (Some (Value h)) e a.1 (λ j c. array_given j (Declared d.0) k h a.0 c)
  array_fine d line (Then x es) ts Indices k h e go a =
      cell_seen d (ArrayOf k) (λ j. ValueAt (ElementOf line (Cell j (Declared d.0)) ts)) (Some (Value h)) e a.1 (λ j c. (h, AddressOf k, a.0, refl, (k, refl, array_given j (Declared d.0) k (ArrayOf k) refl c, go a.2)))

  -- a parameter by name that is used
  named_seen : (d : DeclNo) (ty : SimType) (wanted : Use) (x : Kinds) → declared_holds s (block_of s d) d ≡ Some (ByName (Simply (kind_of_type ty))) → Gets s (Simply (kind_of_type ty)) wanted x → Sees s from d → Fine (closing.name_term s m i d NoMore wanted) (Some x)
  named_seen d ty wanted x e gets sees = cell_seen d (ByName (Simply (kind_of_type ty))) (λ j. NamedOf j (Declared d.0) wanted) (Some x) e sees (λ j c. (Simply (kind_of_type ty), x, gets, refl, at_cell c))

  value_used : (d : DeclNo) (ty : SimType) (line : ℕ) (es : Expressions) (h : Holds) → declared_holds s (block_of s d) d ≡ Some (ByName (Simply (kind_of_type ty))) → type_of_formal (entry_of s.tables d) ≡ Some ty → VariableNames s (Sees s from d) es (held_by s ty) h → Fine (closing.name_term s m i d es (ForValue (class_of_formal s d) line)) (Some (Value h))
  value_used d ty line NoMore h e is a = named_seen d ty (ForValue (class_of_formal s d) line) (Value h) e (subst (λ z. Gets s (Simply (kind_of_type ty)) (ForValue (qualification s z) line) (Value h)) (sym is) (value_gets s ty line h a.0)) a.1
  value_used d ty line (Then x es) h e is a = absurd a

  -- an array by name, which is a use of its own
  named_array : (d : DeclNo) (line : ℕ) (k : Holds) (j : ℕ) → CellTarget s m i j (Declared d.0) (ByName (ArrayOf k)) → Fine (NamedOf j (Declared d.0) (ForValue None line)) (Some (Value (ArrayOf k)))
  named_array d line k j c = (ArrayOf k, Value (ArrayOf k), refl, refl, at_cell c)

  array_used : (d : DeclNo) (line : ℕ) (es : Expressions) (ts : Terms) (Indices : Type 0) (k h : Holds) → declared_holds s (block_of s d) d ≡ Some (ByName (ArrayOf k)) → (Indices → IntegersFine s m i t todo ts) → ArrayNames s (Sees s from d) es Indices k h → Fine (closing.named_array s m i line d es ts) (Some (Value h))
  array_used d line NoMore ts Indices k h e go a = cell_seen d (ByName (ArrayOf k)) (λ j. NamedOf j (Declared d.0) (ForValue None line)) (Some (Value h)) e a.1 (λ j c. subst (λ z. Fine (NamedOf j (Declared d.0) (ForValue None line)) (Some (Value z))) a.0 (named_array d line k j c))
  array_used d line (Then x es) ts Indices k h e go a =
      cell_seen d (ByName (ArrayOf k)) (λ j. ValueAt (ElementOf line (NamedOf j (Declared d.0) (ForValue None line)) ts)) (Some (Value h)) e a.1 (λ j c. (h, AddressOf k, a.0, refl, (k, refl, named_array d line k j c, go a.2)))

  -- a formal procedure as a value
  abbrev procedure_cell : Mode → Option SimType → Holds
  procedure_cell mode.ByValue ty = Procedure ty
  procedure_cell mode.ByReference ty = Procedure ty
  procedure_cell mode.ByName ty = ByName (Procedure ty)

  procedure_holds : (f : Mode) (ty : Option SimType) → formal_holds s f shape.Procedure ty ≡ Some (procedure_cell f ty)
  procedure_holds mode.ByValue ty = refl
  procedure_holds mode.ByReference ty = refl
  procedure_holds mode.ByName ty = refl

  formal_value_fine : (d : DeclNo) (line : ℕ) (ty r : Option SimType) → ResultFits s (given_by s ty) (given_by s r) → (f : Mode) (j : ℕ) → CellTarget s m i j (Declared d.0) (procedure_cell f ty) → Fine (closing.formal_value line d f j) (Some (Value (Procedure r)))
  formal_value_fine d line ty r fits mode.ByValue j c = cell_given j (Declared d.0) (Procedure ty) (Procedure r) fits c
  formal_value_fine d line ty r fits mode.ByReference j c = cell_given j (Declared d.0) (Procedure ty) (Procedure r) fits c
  formal_value_fine d line ty r fits mode.ByName j c = (Procedure ty, Value (Procedure r), (Procedure r, fits, refl), refl, at_cell c)

  called_fine : (d : DeclNo) (f : Mode) (ty : Option SimType) (line : ℕ) (es : Expressions) (h : Option Holds) → declared_holds s (block_of s d) d ≡ formal_holds s f shape.Procedure ty → CheckedGives s (Sees s from d) ty (ParametersAre s from es) h → Fine (in_instance (home_of s m i d) (λ j. CheckedOf (closing.formal_value line d f j) (has_type ty) i es line)) (held_kinds h)
  called_fine d f ty line es h e a =
      cell_seen d (procedure_cell f ty) (λ j. CheckedOf (closing.formal_value line d f j) (has_type ty) i es line) (held_kinds h) (e ∙ procedure_holds f ty) a.1
      (λ j c. (ty, h, a.0, refl, refl, refl, formal_value_fine d line ty ty (itself_fits s ok ty) f j c, from, at, a.2))

  formal_called : (d : DeclNo) (f : Mode) (ty : Option SimType) (line : ℕ) (es : Expressions) (ts : Terms) (h : Option Holds) → declared_holds s (block_of s d) d ≡ formal_holds s f shape.Procedure ty → CheckedGives s (Sees s from d) ty (ParametersAre s from es) h → Fine (formal_term s m i line d f shape.Procedure (has_type ty) es ts) (held_kinds h)
  formal_called d mode.ByValue ty line es ts h e a = called_fine d mode.ByValue ty line es h e a
  formal_called d mode.ByReference ty line es ts h e a = called_fine d mode.ByReference ty line es h e a
  formal_called d mode.ByName ty line es ts h e a = called_fine d mode.ByName ty line es h e a

  formal_fine : (d : DeclNo) (f : Mode) (g : FormalKind) (ty : Option SimType) (line : ℕ) (es : Expressions) (ts : Terms) (Indices Checked : Type 0) (h : Holds) → declared_holds s (block_of s d) d ≡ formal_holds s f g ty → type_of_formal (entry_of s.tables d) ≡ ty → (Indices → IntegersFine s m i t todo ts) → (Checked → ParametersAre s from es) → HeldNames s (Sees s from d) es Indices Checked (formal_means s g ty) h → Fine (formal_term s m i line d f g (has_type ty) es ts) (Some (Value h))
  formal_fine d mode.ByName shape.Simple (Some ty) line es ts Indices Checked h e is go checked a = value_used d ty line es h e is (names_variable s (Sees s from d) es Indices Checked (held_by s ty) h (held_plain s ty) a)
  formal_fine d mode.ByValue shape.Simple (Some ty) line es ts Indices Checked h e is go checked a = variable_fine d es (held_by s ty) h e (names_variable s (Sees s from d) es Indices Checked (held_by s ty) h (held_plain s ty) a)
  formal_fine d mode.ByReference shape.Simple (Some ty) line es ts Indices Checked h e is go checked a = variable_fine d es (held_by s ty) h e (names_variable s (Sees s from d) es Indices Checked (held_by s ty) h (held_plain s ty) a)
  formal_fine d mode.ByValue shape.Array (Some ty) line es ts Indices Checked h e is go checked a = array_fine d line es ts Indices (held_by s ty) h e go a
  formal_fine d mode.ByReference shape.Array (Some ty) line es ts Indices Checked h e is go checked a = array_fine d line es ts Indices (held_by s ty) h e go a
  formal_fine d mode.ByName shape.Array (Some ty) line es ts Indices Checked h e is go checked a = array_used d line es ts Indices (held_by s ty) h e go a
  formal_fine d f shape.Procedure ty line es ts Indices Checked h e is go checked a = formal_called d f ty line es ts (Some h) e (a.0, a.1, checked a.2)
  formal_fine d f shape.Simple None line es ts Indices Checked h e is go checked a = absurd a
  formal_fine d f shape.Array None line es ts Indices Checked h e is go checked a = absurd a

  constant_fine : (d : DeclNo) (es : Expressions) (h : Holds) → ConstantNames s (Sees s from d) d es h → Fine (constant_term (constant_of s d) es) (Some (Value h))
  constant_fine d NoMore h a = subst (λ z. Fine (constant_term z NoMore) (Some (Value h))) (sym a.1) (h, refl, subst (λ z. PlainFine s m z a.0) a.2 (value_fine s m (constant_of s d) a.0 (constant_no_reference s d) a.1))
  constant_fine d (Then x es) h a = absurd a

  not_fixed : (d : DeclNo) (result : Option SimType) (k : ℕ) → entry_of s.tables d ≡ Some (entry.Procedure result k) → IsFixed (entry_of s.tables d) → ⊥
  not_fixed d result k e a = subst IsFixed e a

  call_fine : (d : DeclNo) (result : Option SimType) (k line : ℕ) (Actuals : List Formal → Type 0) (acts : List Formal → Terms) (h : Option Holds) → entry_of s.tables d ≡ Some (entry.Procedure result k) → ((fs : List Formal) → Actuals fs → TermsFine s m i t todo (acts fs) (formal_kinds s fs)) → CallGives s (Sees s from d) result k Actuals h → Fine (in_instance (home_of s m i d) (λ j. CallOf j k (acts (closing.formals_at s d)) line)) (held_kinds h)
  call_fine d result k line Actuals acts h e go a =
      let x = reach d a.1 in
      found_in (home_of s m i d) x.instance (λ j. CallOf j k (acts (closing.formals_at s d)) line) (held_kinds h) x.found (record {
        around = block_of s d;
        near = x.near;
        whole = whole_of s m i d x (not_fixed d result k e);
        procedure = procedure_in s ok d result k e;
        gives = gives_result s ok d result k h e a.0;
        actuals = subst (λ fs. TermsFine s m i t todo (acts fs) (formal_kinds s (formals_of s k))) (sym (formals_same s d result k e)) (go (formals_of s k) a.2);
      })

  -- an instance that stands for a text with levels is an object or a prefixed block
  object_at : (k j : ℕ) → has_levels (text s k) ≡ true → Whole s m j k → ObjectOf s m j k
  object_at k j has p =
      let f = store.instances j p.now p.lives in
      let at : LevelOf s (p.now).text k = own_level s p.now k (levels_solid (text s k) has) p.stands in
      let inner : has_levels (text s (p.now).text) ≡ true = level_of_levels s ok f.solid at has in
      let free : is_class_free s (p.now).text ≡ false = ((leveled s ok (p.now).text inner).typed).stays in
      record {
        now = p.now;
        lives = p.lives;
        object = inner;
        levels = level_has s ok (p.now).text k f.solid at;
        stays = ap (λ z. z && not (p.now).kept) (f.ends ∙ free);
        words = p.words;
        has_text = p.has_text;
        made = p.made;
      }

  virtual_fixed : (d : DeclNo) (result : Option SimType) (own : Option DeclNo) → entry_of s.tables d ≡ Some (entry.Virtual result own) → IsFixed (entry_of s.tables d) → ⊥
  virtual_fixed d result own e a = subst IsFixed e a

  -- what matches a virtual of the object around, and its call
  match_fine : (d : DeclNo) (result wanted : Option SimType) (own : Option DeclNo) (line : ℕ) → entry_of s.tables d ≡ Some (entry.Virtual result own) → ResultFits s (given_by s result) (given_by s wanted) → (x : Reached s m i d) → Fine (MatchOf (Given (Object x.instance)) d.0 line) (Some (Value (Procedure wanted)))
  match_fine d result wanted own line e fits x =
      let class = ok.virtuals d result own e in
      let u = block_of s d in
      (u, wanted, virtual_in s ok d u result wanted own e (class_itself s ok u class) fits, refl, (Refers u, refl, object_at u x.instance (class_has s ok u class) (whole_of s m i d x (virtual_fixed d result own e))))

  virtual_fine : (d : DeclNo) (result : Option SimType) (own : Option DeclNo) (line : ℕ) (es : Expressions) (h : Option Holds) → entry_of s.tables d ≡ Some (entry.Virtual result own) → CheckedGives s (Sees s from d) result (ParametersAre s from es) h → Fine (in_instance (home_of s m i d) (λ j. CheckedOf (MatchOf (Given (Object j)) d.0 line) (has_type result) i es line)) (held_kinds h)
  virtual_fine d result own line es h e a =
      let x = reach d a.1 in
      found_in (home_of s m i d) x.instance (λ j. CheckedOf (MatchOf (Given (Object j)) d.0 line) (has_type result) i es line) (held_kinds h) x.found
      (result, h, a.0, refl, refl, refl, match_fine d result result own line e (itself_fits s ok result) x, from, at, a.2)

  -- ---- procedures that stand alone

  declared_alone : (line : ℕ) (d : DeclNo) (e : Option Entry) (wanted : Option SimType) → entry_of s.tables d ≡ e → ProcedureDeclared s (Sees s from d) e wanted → Fine (closing.declared_procedure s m i line d e) (Some (Value (Procedure wanted)))
  declared_alone line d (Some (entry.Procedure result k)) wanted e a =
      let x = reach d a.1 in
      found_in (home_of s m i d) x.instance (λ j. ProcedureOf j k) (Some (Value (Procedure wanted))) x.found
      (block_of s d, x.near, whole_of s m i d x (not_fixed d result k e), procedure_in s ok d result k e, (wanted, subst (λ z. ResultFits s z (given_by s wanted)) (sym (holds_result s ok d result k e)) a.0, refl))
  declared_alone line d (Some (entry.Virtual result own)) wanted e a =
      let x = reach d a.1 in
      found_in (home_of s m i d) x.instance (λ j. MatchOf (Given (Object j)) d.0 line) (Some (Value (Procedure wanted))) x.found (match_fine d result wanted own line e a.0 x)
  declared_alone line d (Some (entry.Formal f)) wanted e a = by_kind f.mode f.kind f.ty (ap (entry_holds s (has_levels (text s (block_of s d)))) e) a
    where
      by_kind : (f : Mode) (g : FormalKind) (ty : Option SimType) → declared_holds s (block_of s d) d ≡ formal_holds s f g ty → FormalStands s (Sees s from d) g ty wanted → Fine (closing.formal_procedure s m i line d f g) (Some (Value (Procedure wanted)))
      by_kind f shape.Procedure ty h a = cell_seen d (procedure_cell f ty) (λ j. closing.formal_value line d f j) (Some (Value (Procedure wanted))) (h ∙ procedure_holds f ty) a.1 (λ j c. formal_value_fine d line ty wanted a.0 f j c)
      by_kind f shape.Simple ty h a = absurd a
      by_kind f shape.Array ty h a = absurd a
  declared_alone line d None wanted e a = absurd a
  declared_alone line d (Some _) wanted e a = absurd a

  -- a name of texts behind its text
  of_text_fine : (line : ℕ) (ts : Terms) (Operands : List Kind → Type 0) → ((ks : List Kind) → Operands ks → OperandsFine s m i t todo ts (value_kinds ks)) → (n : Standard) (first : Term) (x : Kinds) (h : Option Holds) → Fine first (Some x) → OperandIs kind.Text x → OfText n Operands h → Fine (StandardOf n (Further first ts) line) (held_kinds h)
  of_text_fine line ts Operands ops n first x h f is a =
      let r = a.0 in
      (r.0, ap held_kinds r.1, x ∷ value_kinds a.1, subst (λ z. OperandsAre z (x ∷ value_kinds a.1)) (sym a.2) (is, values_are a.1), (x, value_kinds a.1, refl, f, ops a.1 a.3))

  name_fine : (line : ℕ) (ts : Terms) (Operands : List Kind → Type 0) → ((ks : List Kind) → Operands ks → OperandsFine s m i t todo ts (value_kinds ks)) → (is_image : Bool) (on : Option Standard) (n : Standard) (image : ℕ) (h : Option Holds) → IsImage image → NameGives is_image on n Operands h → Fine (standard_name_term is_image on n image line ts) (held_kinds h)
  name_fine line ts Operands ops true on n image h is a = (Simply kind.Text, ImageAddress, refl, ap held_kinds a.0, (refl, is))
  name_fine line ts Operands ops false (Some of_text) n image h is a = of_text_fine line ts Operands ops of_text (ImageOf image) ImageAddress h (refl, is) refl a
  name_fine line ts Operands ops false None n image h is a =
      let r = a.0 in
      (r.0, ap held_kinds r.1, value_kinds (operands_of (row_of n).function), values_are (operands_of (row_of n).function), ops (operands_of (row_of n).function) a.1)

  -- a copy of a text
  copy_fine : (line : ℕ) (a : Term) → Fine a (simple kind.Text) → Fine (StandardOf name_of.Copy (Further a NoTerm) line) (simple kind.Text)
  unfolding row_of
  copy_fine line a f = ((refl, refl, refl), refl, Value (Simply kind.Text) ∷ [], (refl, tt), (Value (Simply kind.Text), [], refl, f, refl))

  -- ---- what is connected, and `this`

  -- the object of a connection that stands around
  connected_fine : (k : ℕ) (h : Holds) → is_connection (text s k) ≡ true → StandsAround s from k → Fits s (reference_to (base s.tables k)) h → Fine (connected_object s m i k) (Some (Value h))
  connected_fine k h is stands fits =
      let x = around k stands in
      subst (λ z. Fine (if_any z (λ j. Cell j (cell_of_connection s k)) NoMeaning) (Some (Value h))) (sym x.found) (reference_to (base s.tables k), (h, fits, refl), in_connection x.near x.whole is refl refl)

  connected_around : (from : Place) (k : ℕ) (d : DeclNo) → SeesConnected s from k d → StandsAround s from k
  connected_around (In t) k d a = a.around
  connected_around (InBound t) k d a = record { next = a.around; stands_in = a.stands_in; around = (a.seen).around }

  connected_by : (from : Place) (k : ℕ) (d : DeclNo) → SeesConnected s from k d → (u : ℕ) × (is_connection (text s k) ≡ true) × (base s.tables k ≡ Some u) × (is_class (text s u) ≡ true) × (has_level s.tables u (block_of s d) ≡ true)
  connected_by (In t) k d a = (a.class, a.is, a.connects, a.is_class, a.level)
  connected_by (InBound t) k d a = let b = a.seen in (b.class, b.is, b.connects, b.is_class, b.level)

  connected_levels : (from : Place) (k : ℕ) (d : DeclNo) → SeesConnected s from k d → has_levels (text s (block_of s d)) ≡ true
  connected_levels (In t) k d a = level_has_levels s ok (class_has s ok a.class a.is_class) (level_is s a.class (block_of s d) a.level)
  connected_levels (InBound t) k d a = let b = a.seen in level_has_levels s ok (class_has s ok b.class b.is_class) (level_is s b.class (block_of s d) b.level)

  -- what is seen through a connection is no parameter by name
  pub connected_other : (k : ℕ) (d : DeclNo) (ys : Expressions) (Indices : Type 0) (h : Holds) → LeftHeld (SeesConnected s from k d) ys Indices (entry_names s (entry_of s.tables d)) h → formal_by_name d (entry_of s.tables d) ≡ None
  connected_other k d ys Indices h a = by_name (formal_by_name d (entry_of s.tables d)) refl
    where
      by_name : (x : Option DeclNo) → formal_by_name d (entry_of s.tables d) ≡ x → formal_by_name d (entry_of s.tables d) ≡ None
      by_name None is = is
      by_name (Some named) is =
          let x = named_entry s d named (entry_of s.tables d) (SeesConnected s from k d) ys Indices h is a in
          let b = connected_by from k d x.known in
          absurd (not_named s ok d b.0 b.4 (Simply (kind_of_type x.type)) (x.holds true) (connected_levels from k d x.known))

  -- the object through which an attribute is seen
  object_seen : (k : ℕ) (d : DeclNo) → SeesConnected s from k d → (c : ℕ) × (is_class (text s c) ≡ true) × (has_level s.tables c (block_of s d) ≡ true) × Fine (connected_object s m i k) (Some (Value (Refers c)))
  object_seen k d a =
      let b = connected_by from k d a in
      let itself : has_level s.tables b.0 b.0 ≡ true = level_self s b.0 (block_of s d) b.4 in
      (b.0, b.3, b.4, connected_fine k (Refers b.0) b.1 (connected_around from k d a) (subst (λ z. Fits s (reference_to z) (Refers b.0)) (sym b.2) itself))

  -- the simulation block around, by the level that has the procedure
  block_known : (token : ℕ) (d : DeclNo) → SimulationKnown s from token d → (j : ℕ) × (block_found s m i (found_at s token) ≡ Some j) × BlockIn s m i j (block_of s d)
  block_known token d a =
      let x = around a.found a.around in
      let p = x.whole in
      let stands = stands_level_of s p.now a.found (block_of s d) a.solid p.stands (level_is s a.found (block_of s d) a.level) in
      (x.instance, ap (block_found s m i) a.is_found ∙ x.found, record { near = x.near; whole = record { now = p.now; lives = p.lives; stands = stands; words = p.words; has_text = p.has_text; made = p.made }; simulates = a.simulates })

  -- `this` is the object or the prefixed block around, or what is connected
  instance_this : (k : ℕ) (h : Holds) → has_levels (text s k) ≡ true → StandsAround s from k → Fits s (Refers k) h → Fine (this_instance (at_level m (level_of s k) i)) (Some (Value h))
  instance_this k h has stands fits =
      let x = around k stands in
      let object = object_at k x.instance has x.whole in
      subst (λ z. Fine (this_instance z) (Some (Value h))) (sym x.found) (h, refl, plain_fits s ok o m store (Refers k) h (Object x.instance) fits object)

  this_fine : (k : ℕ) (h : Holds) (c d : Bool) → is_connection (text s k) ≡ c → has_levels (text s k) ≡ d → ThisIs s from c d k h → Fine (this_term s m i (Some k)) (Some (Value h))
  this_fine k h true d is has a = subst (λ z. Fine (if_any (if z then Some k else None) (λ c. connected_object s m i c) (this_instance (at_level m (level_of s k) i))) (Some (Value h))) (sym is) (connected_fine k h is a.0 a.1)
  this_fine k h false true is has a = subst (λ z. Fine (if_any (if z then Some k else None) (λ c. connected_object s m i c) (this_instance (at_level m (level_of s k) i))) (Some (Value h))) (sym is) (instance_this k h has a.0 a.1)
  this_fine k h false false is has a = absurd a

  this_found : (x : Option ℕ) (h : Holds) → ThisFound s from x h → Fine (this_term s m i x) (Some (Value h))
  this_found None h a = absurd a
  this_found (Some k) h a = this_fine k h (is_connection (text s k)) (has_levels (text s k)) refl refl a

  -- a call that transfers nothing
  other_call : (x : Option Transfer) (f : Transfer → Term) (a : Term) (g : Option Kinds) → x ≡ None → Fine a g → Fine (if_any x f a) g
  other_call None f a g e fine = fine
  other_call (Some c) f a g e fine = absurd (cc)

  -- ---- identifiers

  module _ (line : ℕ) (es : Expressions) (ts : Terms) (acts : List Formal → Terms) (Indices Checked : Type 0) (Operands : List Kind → Type 0) (Actuals : List Formal → Type 0) (ints : Indices → IntegersFine s m i t todo ts) (checked : Checked → ParametersAre s from es) (ops : (ks : List Kind) → Operands ks → OperandsFine s m i t todo ts (value_kinds ks)) (go : (fs : List Formal) → Actuals fs → TermsFine s m i t todo (acts fs) (formal_kinds s fs)) where
    held_in : (d : DeclNo) (e : Entry) (h : Holds) → entry_of s.tables d ≡ Some e → ((c : Bool) → entry_holds s c (Some e) ≡ Some h) → declared_holds s (block_of s d) d ≡ Some h
    held_in d e h is f = ap (entry_holds s (has_levels (text s (block_of s d)))) is ∙ f (has_levels (text s (block_of s d)))

    formal_none : (d : DeclNo) (f : Mode) (g : FormalKind) (ty : Option SimType) → declared_holds s (block_of s d) d ≡ formal_holds s f g ty → FormalCalled s (Sees s from d) g ty Checked → Fine (formal_term s m i line d f g (has_type ty) es ts) None
    formal_none d f shape.Procedure ty e a = formal_called d f ty line es ts None e (a.0, a.1, checked a.2)
    formal_none d f shape.Simple ty e a = absurd a
    formal_none d f shape.Array ty e a = absurd a

    declared_fine : (d : DeclNo) (e : Option Entry) (h : Option Holds) → entry_of s.tables d ≡ e → is_standard_attribute e ≡ false → DeclaredGives s (Sees s from d) d es Indices Checked Actuals e h → Fine (declared_term s m i line d e es ts acts) (held_kinds h)
    declared_fine d (Some (entry.Procedure result k)) h e free a = call_fine d result k line Actuals acts h e go a
    declared_fine d (Some (entry.Attribute n parameter result)) h e free a = absurd (cc)
    declared_fine d (Some (entry.Virtual result own)) h e free a = virtual_fine d result own line es h e (a.0, a.1, checked a.2)
    declared_fine d (Some (entry.Constant ty)) (Some h) e free a = constant_fine d es h a
    declared_fine d (Some (entry.Variable ty)) (Some h) e free a = variable_fine d es (held_by s ty) h (held_in d (entry.Variable ty) (held_by s ty) e (λ c. refl)) (names_variable s (Sees s from d) es Indices Checked (held_by s ty) h (held_plain s ty) a)
    declared_fine d (Some (entry.Array ty n)) (Some h) e free a = array_fine d line es ts Indices (held_by s ty) h (held_in d (entry.Array ty n) (ArrayOf (held_by s ty)) e (λ c. refl)) ints a
    declared_fine d (Some (entry.Formal f)) (Some h) e free a = formal_fine d f.mode f.kind f.ty line es ts Indices Checked h (ap (entry_holds s (has_levels (text s (block_of s d)))) e) (ap type_of_formal e) ints checked a
    declared_fine d (Some (entry.Formal f)) None e free a = formal_none d f.mode f.kind f.ty (ap (entry_holds s (has_levels (text s (block_of s d)))) e) a
    declared_fine d None h e free a = absurd a
    declared_fine d (Some _) None e free a = absurd a
    declared_fine d (Some _) (Some h) e free a = absurd a

    standard_fine : (n : Option Standard) (image : ℕ) (h : Option Holds) → IsImage image → StandardGives n Operands h → Fine (standard_term n image line ts) (held_kinds h)
    standard_fine None image h is a = absurd a
    standard_fine (Some n) image h is a = name_fine line ts Operands ops (is_image n) (on_image n) n image h is a

    -- an attribute of an object that a tree gives
    attribute_of : (object : Term) (c : ℕ) (Known : Type 0) (d : DeclNo) (h : Option Holds) → is_class (text s c) ≡ true → has_level s.tables c (block_of s d) ≡ true → Fine object (Some (Value (Refers c))) → DeclaredGives s Known d es Indices Checked Actuals (entry_of s.tables d) h → Fine (attribute s i line object es ts (λ d. acts (closing.formals_at s d)) d) (held_kinds h)
    attribute_of object c Known d h class level fine a =
        entry_fine s ok d c level m i t todo line object fine class Known es ts (acts (closing.formals_at s d)) Indices Checked Actuals (entry_of s.tables d) h refl ints (λ y. (from, at, checked y))
        (λ result k e actuals. subst (λ fs. TermsFine s m i t todo (acts fs) (formal_kinds s (formals_of s k))) (sym (formals_same s d result k e)) (go (formals_of s k) actuals))
        (λ n parameter result e actuals. subst (λ fs. TermsFine s m i t todo (acts fs) (formal_kinds s (attribute_formals parameter))) (sym (ap (closing.formals_declared s d) e)) (go (attribute_formals parameter) actuals)) a

    -- the tree of an identifier: one of the object or of the simulation block around
    abbrev around_term : (token : ℕ) → DeclNo → Term
    around_term token d = attribute s i line (this_term s m i (found_at s token)) es ts (λ d. acts (closing.formals_at s d)) d

    abbrev own_tree : (token : ℕ) → DeclNo → Option Entry → Term
    own_tree token d e = own_term s e (block_found s m i (found_at s token)) (acts (closing.formals_at s d)) line (around_term token d)

    abbrev identifier_term : (token : ℕ) → Option ℕ → Option DeclNo → Option Denotation → Term
    identifier_term token c own x = if_any c (λ k. if_any (declared_attribute x) (attribute s i line (connected_object s m i k) es ts (λ d. acts (closing.formals_at s d))) NoMeaning) (if_any own (λ d. own_tree token d (entry_of s.tables d)) (named_term s m i line x es ts acts))

    free_entry : (d : DeclNo) → attribute_denoted s (Some (denotation.Declared d)) ≡ None → is_standard_attribute (entry_of s.tables d) ≡ false
    free_entry d e = by_flag (is_standard_attribute (entry_of s.tables d)) refl e
      where
        by_flag : (b : Bool) → is_standard_attribute (entry_of s.tables d) ≡ b → attribute_if b d ≡ None → is_standard_attribute (entry_of s.tables d) ≡ false
        by_flag false is f = is
        by_flag true is f = absurd (cc)

    -- no procedure of SIMSET that is seen without a dot
    named_fine : (token : ℕ) (x : Option Denotation) (h : Option Holds) → attribute_denoted s x ≡ None → NamedGives s from None x es Indices Checked Operands Actuals h → Fine (identifier_term token None None x) (held_kinds h)
    named_fine token (Some (denotation.Declared d)) h free a = declared_fine d (entry_of s.tables d) h refl (free_entry d free) a
    named_fine token (Some (denotation.Standard n)) h free a = standard_fine (procedure_named n) sysout h tt a
    named_fine token None h free a = absurd a

    connected_name_fine : (token k : ℕ) (own : Option DeclNo) (x : Option Denotation) (h : Option Holds) → NamedGives s from (Some k) x es Indices Checked Operands Actuals h → Fine (identifier_term token (Some k) own x) (held_kinds h)
    connected_name_fine token k own (Some (denotation.Declared d)) h a = let b = object_seen k d (known_of s (SeesConnected s from k d) d es Indices Checked Actuals (entry_of s.tables d) h a) in attribute_of (connected_object s m i k) b.0 (SeesConnected s from k d) d h b.1 b.2 b.3 a
    connected_name_fine token k own None h a = absurd a
    connected_name_fine token k own (Some (denotation.Standard n)) h a = absurd a

    -- a procedure of SIMSET of the object around, or an attribute of a process
    around_fine : (token : ℕ) (d : DeclNo) (h : Option Holds) → DeclaredGives s (OwnKnown s from token d) d es Indices Checked Actuals (entry_of s.tables d) h → Fine (around_term token d) (held_kinds h)
    around_fine token d h a =
        let known = known_of s (OwnKnown s from token d) d es Indices Checked Actuals (entry_of s.tables d) h a in
        attribute_of (this_term s m i (found_at s token)) known.0 (OwnKnown s from token d) d h known.1 known.2 (this_found (found_at s token) (Refers known.0) known.3) a

    -- a procedure of the simulation block around
    simulation_fine : (token : ℕ) (d : DeclNo) (n : Standard) (parameter result : Option SimType) (h : Option Holds) → entry_of s.tables d ≡ Some (entry.Attribute n parameter result) → is_simulation_name n ≡ true → SimulationGives s (SimulationKnown s from token d) parameter result Actuals h → Fine (simulation_term s true n (block_found s m i (found_at s token)) (acts (closing.formals_at s d)) line (around_term token d)) (held_kinds h)
    simulation_fine token d n parameter result h e named a =
        let b = block_known token d a.1 in
        subst (λ z. Fine (simulation_term s true n z (acts (closing.formals_at s d)) line (around_term token d)) (held_kinds h)) (sym b.1) (
          record { declaration = d; parameter = parameter; result = result; named = named; there = ok.simulation_procedures d n parameter result e named },
          h,
          a.0,
          refl,
          b.2,
          subst (λ fs. TermsFine s m i t todo (acts fs) (formal_kinds s (attribute_formals parameter))) (sym (ap (closing.formals_declared s d) e)) (go (attribute_formals parameter) a.2),
        )

    own_fine : (token : ℕ) (d : DeclNo) (h : Option Holds) (e : Option Entry) → entry_of s.tables d ≡ e → is_standard_attribute e ≡ true → OwnGives s from token d Actuals e h (DeclaredGives s (OwnKnown s from token d) d es Indices Checked Actuals (entry_of s.tables d) h) → Fine (own_tree token d e) (held_kinds h)
    own_fine token d h (Some (entry.Attribute n parameter result)) e is a = by_name (is_simulation_name n) refl a
      where
        by_name : (b : Bool) → is_simulation_name n ≡ b → OwnNameGives b (SimulationGives s (SimulationKnown s from token d) parameter result Actuals h) (DeclaredGives s (OwnKnown s from token d) d es Indices Checked Actuals (entry_of s.tables d) h) → Fine (simulation_term s b n (block_found s m i (found_at s token)) (acts (closing.formals_at s d)) line (around_term token d)) (held_kinds h)
        by_name true named a = simulation_fine token d n parameter result h e named a
        by_name false named a = around_fine token d h a
    own_fine token d h None e is a = absurd (cc)
    own_fine token d h (Some _) e is a = absurd (cc)

    identifier_fine : (token : ℕ) (c : Option ℕ) (own : Option DeclNo) (h : Option Holds) → own_attribute s token ≡ own → IdentifierGives s from token c own es Indices Checked Operands Actuals h → Fine (identifier_term token c own (denoted s token)) (held_kinds h)
    identifier_fine token None None h e a = named_fine token (denoted s token) h (not_own s token e) a
    identifier_fine token (Some k) own h e a = connected_name_fine token k own (denoted s token) h a
    identifier_fine token None (Some d) h e a = own_fine token d h (entry_of s.tables d) refl (own_is_attribute s token d e) a

    -- ---- where they lie

    variable_lies : (d : DeclNo) (ys : Expressions) (held h : Holds) → IsPlain held → declared_holds s (block_of s d) d ≡ Some held → LeftHeld (Sees s from d) ys Indices (Some held) h → Fine (variable_place s m i d ys) (Some (AddressOf h))
    variable_lies d NoMore held h plain e a =
        let x = left_variable_is (Sees s from d) Indices held h plain a in
        cell_seen d held (λ j. PlaceOf j (Declared d.0)) (Some (AddressOf h)) e x.1 (λ j c. (held, ap (λ z. Some (AddressOf z)) x.0, c))
    variable_lies d (Then y ys) held h plain e a = absurd (no_left_variable (Sees s from d) Indices y ys held h plain a)

    element_lies : (d : DeclNo) (ys : Expressions) (k h : Holds) → declared_holds s (block_of s d) d ≡ Some (ArrayOf k) → LeftHeld (Sees s from d) ys Indices (Some (ArrayOf k)) h → Fine (array_place s m i line d ys ts) (Some (AddressOf h))
    element_lies d NoMore k h e a = absurd a
    element_lies d (Then y ys) k h e a = cell_seen d (ArrayOf k) (λ j. ElementOf line (Cell j (Declared d.0)) ts) (Some (AddressOf h)) e a.1 (λ j c. (k, ap (λ z. Some (AddressOf z)) a.0, array_given j (Declared d.0) k (ArrayOf k) refl c, ints a.2))

    array_lies : (d : DeclNo) (ys : Expressions) (k h : Holds) → declared_holds s (block_of s d) d ≡ Some (ByName (ArrayOf k)) → LeftHeld (Sees s from d) ys Indices (Some (ArrayOf k)) h → Fine (closing.named_array_place s m i line d ys ts) (Some (AddressOf h))
    array_lies d NoMore k h e a = absurd a
    array_lies d (Then y ys) k h e a = cell_seen d (ByName (ArrayOf k)) (λ j. ElementOf line (NamedOf j (Declared d.0) (ForValue None line)) ts) (Some (AddressOf h)) e a.1 (λ j c. (k, ap (λ z. Some (AddressOf z)) a.0, named_array d line k j c, ints a.2))

    -- what is no simple parameter by name
    formal_lies : (d : DeclNo) (f : Mode) (g : FormalKind) (ty : Option SimType) (ys : Expressions) (h : Holds) → declared_holds s (block_of s d) d ≡ formal_holds s f g ty → named_formal f g d ≡ None → LeftHeld (Sees s from d) ys Indices (formal_means s g ty) h → Fine (formal_place s m i line d f g ys ts) (Some (AddressOf h))
    formal_lies d mode.ByName shape.Simple ty ys h e other a = absurd (cc)
    formal_lies d mode.ByValue shape.Simple (Some ty) ys h e other a = variable_lies d ys (held_by s ty) h (held_plain s ty) e a
    formal_lies d mode.ByReference shape.Simple (Some ty) ys h e other a = variable_lies d ys (held_by s ty) h (held_plain s ty) e a
    formal_lies d mode.ByValue shape.Array (Some ty) ys h e other a = element_lies d ys (held_by s ty) h e a
    formal_lies d mode.ByReference shape.Array (Some ty) ys h e other a = element_lies d ys (held_by s ty) h e a
    formal_lies d mode.ByName shape.Array (Some ty) ys h e other a = array_lies d ys (held_by s ty) h e a
    formal_lies d f shape.Procedure ty ys h e other a = absurd (no_procedure_left (Sees s from d) ys Indices ty h a)
    formal_lies d mode.ByValue shape.Simple None ys h e other a = absurd (nothing_left (Sees s from d) ys Indices h a)
    formal_lies d mode.ByReference shape.Simple None ys h e other a = absurd (nothing_left (Sees s from d) ys Indices h a)
    formal_lies d f shape.Array None ys h e other a = absurd (nothing_left (Sees s from d) ys Indices h a)

    declared_lies : (d : DeclNo) (e : Option Entry) (h : Holds) → entry_of s.tables d ≡ e → formal_by_name d e ≡ None → LeftHeld (Sees s from d) es Indices (entry_names s e) h → Fine (declared_place s m i line d e es ts) (Some (AddressOf h))
    declared_lies d (Some (entry.Variable ty)) h e other a = variable_lies d es (held_by s ty) h (held_plain s ty) (held_in d (entry.Variable ty) (held_by s ty) e (λ c. refl)) a
    declared_lies d (Some (entry.Array ty n)) h e other a = element_lies d es (held_by s ty) h (held_in d (entry.Array ty n) (ArrayOf (held_by s ty)) e (λ c. refl)) a
    declared_lies d (Some (entry.Formal f)) h e other a = formal_lies d f.mode f.kind f.ty es h (ap (entry_holds s (has_levels (text s (block_of s d)))) e) other a
    declared_lies d None h e other a = absurd (nothing_left (Sees s from d) es Indices h a)
    declared_lies d (Some _) h e other a = absurd (nothing_left (Sees s from d) es Indices h a)

    abbrev identifier_place : Option ℕ → Option Denotation → Term
    identifier_place c x = if_any c (λ k. if_any (declared_attribute x) (place_of_attribute s line (connected_object s m i k) es ts) NoMeaning) (named_place s m i line x es ts)

    -- where what is declared lies, seen through a connection or not
    pub lies_at : (c : Option ℕ) (d : DeclNo) (h : Holds) → formal_by_name d (entry_of s.tables d) ≡ None → LeftHeld (KnownAt s from c d) es Indices (entry_names s (entry_of s.tables d)) h → Fine (identifier_place c (Some (denotation.Declared d))) (Some (AddressOf h))
    lies_at None d h other a = declared_lies d (entry_of s.tables d) h refl other a
    lies_at (Some k) d h other a =
        let b = object_seen k d (left_known s (SeesConnected s from k d) d es Indices (entry_names s (entry_of s.tables d)) h a) in
        entry_lies s ok d b.0 b.2 m i t todo line (connected_object s m i k) b.3 (SeesConnected s from k d) es ts Indices (entry_of s.tables d) h refl ints a

    -- and where one by name alone does, or what it is for
    pub named_lies : (value_too : Bool) (d named : DeclNo) (at : ℕ) (h : Holds) → formal_by_name d (entry_of s.tables d) ≡ Some named → (x : NamedEntry s d named (entry_of s.tables d) (Sees s from d) es h) → Fine (closing.name_term s m i d NoMore (ForPlace value_too at)) (Some (Whichever value_too (kind_of_type x.type)))
    named_lies value_too d named at h is x = named_seen d x.type (ForPlace value_too at) (Whichever value_too (kind_of_type x.type)) (x.holds (has_levels (text s (block_of s d)))) refl x.known

    place_named : (d named : DeclNo) (e : Option Entry) → formal_by_name d e ≡ Some named → declared_place s m i line d e es ts ≡ closing.name_term s m i d es (ForPlace true line)
    place_named d named (Some (entry.Formal f)) is = by_mode f.mode f.kind is
      where
        by_mode : (f : Mode) (g : FormalKind) → named_formal f g d ≡ Some named → formal_place s m i line d f g es ts ≡ closing.name_term s m i d es (ForPlace true line)
        by_mode mode.ByName shape.Simple is = refl
        by_mode mode.ByName shape.Array is = absurd (cc)
        by_mode mode.ByName shape.Procedure is = absurd (cc)
        by_mode mode.ByValue g is = absurd (cc)
        by_mode mode.ByReference g is = absurd (cc)
    place_named d named None is = absurd (cc)
    place_named d named (Some _) is = absurd (cc)

    pub named_place_lies : (d named : DeclNo) (h : Holds) → formal_by_name d (entry_of s.tables d) ≡ Some named → (x : NamedEntry s d named (entry_of s.tables d) (Sees s from d) es h) → Fine (identifier_place None (Some (denotation.Declared d))) (Some (Whichever true (kind_of_type x.type)))
    named_place_lies d named h is x =
        subst (λ z. Fine z (Some (Whichever true (kind_of_type x.type)))) (sym (place_named d named (entry_of s.tables d) is ∙ ap (λ z. closing.name_term s m i d z (ForPlace true line)) x.alone)) (named_lies true d named line h is x)

    variable_left : (Known : Type 0) (d : DeclNo) (e : Option Entry) → is_variable_entry e es ≡ true → DeclaredGives s Known d es Indices Checked Actuals e (Some (Simply kind.Text)) → LeftHeld Known es Indices (entry_names s e) (Simply kind.Text)
    variable_left Known d (Some (entry.Variable ty)) v a = text_left s Known d es Indices Checked (Some (held_by s ty)) (plain_no_procedure (held_by s ty) (held_plain s ty)) a
    variable_left Known d (Some (entry.Array ty n)) v a = text_left s Known d es Indices Checked (Some (ArrayOf (held_by s ty))) tt a
    variable_left Known d (Some (entry.Formal f)) v a = text_left s Known d es Indices Checked (formal_means s f.kind f.ty) (formal_no_procedure s f.kind f.ty es v) a
    variable_left Known d None v a = absurd (cc)
    variable_left Known d (Some _) v a = absurd (cc)

    -- a text variable before a dot
    seen_text_lies : (d : DeclNo) (x : Option DeclNo) → formal_by_name d (entry_of s.tables d) ≡ x → LeftHeld (Sees s from d) es Indices (entry_names s (entry_of s.tables d)) (Simply kind.Text) → (y : Kinds) × Fine (identifier_place None (Some (denotation.Declared d))) (Some y) × OperandIs kind.Text y
    seen_text_lies d None is a = (AddressOf (Simply kind.Text), lies_at None d (Simply kind.Text) is a, (refl, refl))
    seen_text_lies d (Some named) is a =
        let x = named_entry s d named (entry_of s.tables d) (Sees s from d) es Indices (Simply kind.Text) is a in
        (Whichever true (kind_of_type x.type), named_place_lies d named (Simply kind.Text) is x, (refl, held_of_kind s x.type kind.Text x.held))

    named_text_lies : (c : Option ℕ) (x : Option Denotation) → is_variable_denoted s x es ≡ true → NamedGives s from c x es Indices Checked Operands Actuals (Some (Simply kind.Text)) → (y : Kinds) × Fine (identifier_place c x) (Some y) × OperandIs kind.Text y
    named_text_lies None (Some (denotation.Declared d)) v a = seen_text_lies d (formal_by_name d (entry_of s.tables d)) refl (variable_left (Sees s from d) d (entry_of s.tables d) v a)
    named_text_lies (Some k) (Some (denotation.Declared d)) v a =
        let held = variable_left (SeesConnected s from k d) d (entry_of s.tables d) v a in
        (AddressOf (Simply kind.Text), lies_at (Some k) d (Simply kind.Text) (connected_other k d es Indices (Simply kind.Text) held) held, (refl, refl))
    named_text_lies None (Some (denotation.Standard n)) v a = (ImageAddress, (refl, tt), refl)
    named_text_lies (Some k) (Some (denotation.Standard n)) v a = absurd a
    named_text_lies None None v a = absurd a
    named_text_lies (Some k) None v a = absurd a

    own_no_variable : (e : Option Entry) → is_standard_attribute e ≡ true → is_variable_entry e es ≡ true → ⊥
    own_no_variable (Some (entry.Attribute n parameter result)) f v = cc
    own_no_variable None f v = cc
    own_no_variable (Some (entry.Variable ty)) f v = cc
    own_no_variable (Some (entry.Array ty n)) f v = cc
    own_no_variable (Some (entry.Formal g)) f v = cc
    own_no_variable (Some _) f v = cc

    text_lies : (token : ℕ) (c : Option ℕ) (own : Option DeclNo) → own_attribute s token ≡ own → is_variable_denoted s (denoted s token) es ≡ true → IdentifierGives s from token c own es Indices Checked Operands Actuals (Some (Simply kind.Text)) → (y : Kinds) × Fine (identifier_place c (denoted s token)) (Some y) × OperandIs kind.Text y
    text_lies token None None e v a = named_text_lies None (denoted s token) v a
    text_lies token (Some k) own e v a = named_text_lies (Some k) (denoted s token) v a
    text_lies token None (Some d) e v a = absurd (own_no_variable (entry_of s.tables d) (own_is_attribute s token d e) (ap (λ z. is_variable_denoted s z es) (sym (own_denoted s token d e)) ∙ v))

    -- an attribute of the object that a tree gives
    pub attribute_lies : (object : Term) (c : ℕ) (Known : Type 0) (d : DeclNo) (h : Holds) → has_level s.tables c (block_of s d) ≡ true → Fine object (Some (Value (Refers c))) → LeftHeld Known es Indices (entry_names s (entry_of s.tables d)) h → Fine (place_of_attribute s line object es ts d) (Some (AddressOf h))
    attribute_lies object c Known d h level fine a = entry_lies s ok d c level m i t todo line object fine Known es ts Indices (entry_of s.tables d) h refl ints a

  no_object : (h : Holds) → IsReference h → PlainFine s m h Nothing
  no_object (Simply k) e = (e, tt)
  no_object (Refers c) e = tt
  no_object (ArrayOf k) e = absurd e
  no_object (Procedure r) e = absurd e
  no_object (ByName k) e = absurd e

  literal_fine : (token : ℕ) (x : Literal) (h : Holds) → LiteralIs s token x h → Fine (literal_term s token x) (Some (Value h))
  literal_fine token (syntax.IntegerValue z) h e = (Simply kind.Integer, ap held_kinds e, (refl, tt))
  literal_fine token (syntax.CharacterValue z) h e = (Simply kind.Character, ap held_kinds e, (refl, tt))
  literal_fine token (syntax.BooleanValue z) h e = (Simply kind.Boolean, ap held_kinds e, (refl, tt))
  literal_fine token syntax.NoObject h e = (h, refl, no_object h e)
  literal_fine token syntax.NoText h e = (Simply kind.Text, ap held_kinds e, (refl, tt))
  literal_fine token (syntax.TextValue bytes) h e = subst (λ z. Fine (closing.given_term z) (Some (Value h))) (sym e.1) (h, refl, subst (λ z. PlainFine s m z e.0) e.2 (value_fine s m (text_constant s token) e.0 (text_no_reference s token) e.1))

  two_fine : (x : Sort) (line : ℕ) (k v : Kind) (a b : Term) (h : Holds) → SortKinds x k v → Simply v ≡ h → Fine a (simple k) → Fine b (simple k) → Fine (two_term x line a b) (Some (Value h))
  two_fine (Plainly op) line k v a b h x e f g = (k, v, x, ap (λ z. Some (Value z)) e, f, g)
  two_fine (Lazily true) line k v a b h x e f g =
      let is : Value (Simply kind.Boolean) ≡ Value h = ap (λ z. Value (Simply z)) (sym x.1) ∙ ap Value e in
      (Value h, refl, subst (λ z. Fine a (simple z)) x.0 f, (Simply kind.Boolean, ap Some is, (refl, tt)), subst (λ z. Fine b (Some z)) (ap (λ z. Value (Simply z)) x.0 ∙ is) g)
  two_fine (Lazily false) line k v a b h x e f g =
      let is : Value (Simply kind.Boolean) ≡ Value h = ap (λ z. Value (Simply z)) (sym x.1) ∙ ap Value e in
      (Value h, refl, subst (λ z. Fine a (simple z)) x.0 f, subst (λ z. Fine b (Some z)) (ap (λ z. Value (Simply z)) x.0 ∙ is) g, (Simply kind.Boolean, ap Some is, (refl, tt)))
  two_fine (Negated op) line k v a b h x e f g =
      (kind.Boolean, refl, ap (λ z. Some (Value (Simply z))) (sym x.1) ∙ ap (λ z. Some (Value z)) e, (k, kind.Boolean, x.0, refl, f, g))
  two_fine Joining line k v a b h x e f g =
      (ap (λ z. Some (Value (Simply z))) (sym x.1) ∙ ap (λ z. Some (Value z)) e, subst (λ z. Fine a (simple z)) x.0 f, subst (λ z. Fine b (simple z)) x.0 g)

  signed_fine : (x : Sign) (line : ℕ) (a : Term) (h : Holds) → Simply kind.Integer ≡ h → Fine a (simple kind.Integer) → Fine (signed_term x line a) (Some (Value h))
  signed_fine sign.Plus line a h e f = subst (λ z. Fine a (Some (Value z))) e f
  signed_fine sign.Minus line a h e f = (kind.Integer, refl, ap (λ z. Some (Value z)) e, f)

  -- ---- what is before a dot

  -- sysin and sysout are no values
  stream_no_value : (n : StandardName) (Operands : List Kind → Type 0) (h : Option Holds) → StandardGives (procedure_named n) Operands h → stream_named n ≡ None
  stream_no_value (found.Procedure name) Operands h a = refl
  stream_no_value found.Sysin Operands h a = absurd a
  stream_no_value found.Sysout Operands h a = absurd a
  stream_no_value _ Operands h a = absurd a

  named_no_stream : (c : Option ℕ) (x : Option Denotation) (es : Expressions) (Indices Checked : Type 0) (Operands : List Kind → Type 0) (Actuals : List Formal → Type 0) (h : Option Holds) → NamedGives s from c x es Indices Checked Operands Actuals h → stream_denoted x ≡ None
  named_no_stream None (Some (denotation.Standard n)) es Indices Checked Operands Actuals h a = stream_no_value n Operands h a
  named_no_stream (Some k) (Some (denotation.Standard n)) es Indices Checked Operands Actuals h a = absurd a
  named_no_stream c (Some (denotation.Declared d)) es Indices Checked Operands Actuals h a = refl
  named_no_stream c None es Indices Checked Operands Actuals h a = refl

  identifier_no_stream : (token : ℕ) (c : Option ℕ) (own : Option DeclNo) (es : Expressions) (Indices Checked : Type 0) (Operands : List Kind → Type 0) (Actuals : List Formal → Type 0) (h : Option Holds) → own_attribute s token ≡ own → IdentifierGives s from token c own es Indices Checked Operands Actuals h → stream_denoted (denoted s token) ≡ None
  identifier_no_stream token None None es Indices Checked Operands Actuals h e a = named_no_stream None (denoted s token) es Indices Checked Operands Actuals h a
  identifier_no_stream token (Some k) own es Indices Checked Operands Actuals h e a = named_no_stream (Some k) (denoted s token) es Indices Checked Operands Actuals h a
  identifier_no_stream token None (Some d) es Indices Checked Operands Actuals h e a = ap stream_denoted (own_denoted s token d e)

  pub value_no_stream : (a : Expression) (h : Holds) → ExprIs s from a h → stream_of s a ≡ None
  unfolding stream_of
  value_no_stream (syntax.Named name es) h x = identifier_no_stream name.token.0 (connection_at s name.token.0) (own_attribute s name.token.0) es (AreIntegers s from es) (ParametersAre s from es) (λ ks. AreOf s from es ks) (λ fs. ActualsFit s from es fs) (Some h) refl x
  value_no_stream _ h x = refl

  image_place_fine : (stream : Option ℕ) (other : Term) (d : Option Denotation) → StreamIs stream → is_image_behind stream d ≡ true → (y : Kinds) × Fine (image_place stream other) (Some y) × OperandIs kind.Text y
  image_place_fine None other d is v = absurd (cc)
  image_place_fine (Some image) other d is v = (ImageAddress, (refl, is), refl)

  -- a name behind a text
  behind_fine : (line : ℕ) (a : Expression) (es : Expressions) (h : Option Holds) (Front : Type 0) (Operands : List Kind → Type 0) → (Front → Fine (close s m i a) (simple kind.Text)) → ((is_variable s a || is_attribute s a) ≡ true → Front → (y : Kinds) × Fine (close_place s m i a) (Some y) × OperandIs kind.Text y) → ((ks : List Kind) → Operands ks → OperandsFine s m i t todo (close_all s m i es) (value_kinds ks))
      → (stream : Option ℕ) (n : Option Standard) → StreamIs stream → BehindGives stream n Front Operands h → Fine (behind_dot stream n (is_variable s a || is_attribute s a) line (close_place s m i a) (close s m i a) (close_all s m i es)) (held_kinds h)
  behind_fine line a es h Front Operands value place ops (Some image) None is x = absurd x
  behind_fine line a es h Front Operands value place ops (Some image) (Some n) is x = name_fine line (close_all s m i es) Operands ops (is_image n) (on_image n) n image h is x
  behind_fine line a es h Front Operands value place ops None None is x = absurd x
  behind_fine line a es h Front Operands value place ops None (Some n) is x = by_place (moves_position n && (is_variable s a || is_attribute s a)) (λ e. and_second (moves_position n) (is_variable s a || is_attribute s a) e)
    where
      by_place : (b : Bool) → (b ≡ true → (is_variable s a || is_attribute s a) ≡ true) → Fine (StandardOf n (Further (object_term b (close_place s m i a) (close s m i a)) (close_all s m i es)) line) (held_kinds h)
      by_place true v = let y = place (v refl) x.0 in of_text_fine line (close_all s m i es) Operands ops n (close_place s m i a) y.0 h y.1 y.2 x.1
      by_place false v = of_text_fine line (close_all s m i es) Operands ops n (close s m i a) (Value (Simply kind.Text)) h (value x.0) refl x.1

  -- behind a dot: a name of texts, or an attribute of an object
  abbrev dotted_term : (line : ℕ) → Expression → Expressions → Option Denotation → Term
  dotted_term line a es x =
      if_any (declared_attribute x) (attribute s i line (close s m i a) es (close_all s m i es) (λ d. close_actuals s m i line es (closing.formals_at s d)))
      (dot_term x (stream_of s a) (is_variable s a || is_attribute s a) line (close_place s m i a) (close s m i a) (close_all s m i es))

  dot_denoted : (line : ℕ) (a : Expression) (es : Expressions) (h : Option Holds) → ((h : Holds) → ExprIs s from a h → Fine (close s m i a) (Some (Value h))) → ((is_variable s a || is_attribute s a) ≡ true → ExprIs s from a (Simply kind.Text) → (y : Kinds) × Fine (close_place s m i a) (Some y) × OperandIs kind.Text y) → (AreIntegers s from es → IntegersFine s m i t todo (close_all s m i es)) → ((ks : List Kind) → AreOf s from es ks → OperandsFine s m i t todo (close_all s m i es) (value_kinds ks))
      → ((fs : List Formal) → ActualsFit s from es fs → TermsFine s m i t todo (close_actuals s m i line es fs) (formal_kinds s fs)) → (x : Option Denotation) → DotGives s x (stream_of s a) (ExprIs s from a (Simply kind.Text)) (λ c. ExprIs s from a (Refers c)) es (AreIntegers s from es) (ParametersAre s from es) (λ ks. AreOf s from es ks) (λ fs. ActualsFit s from es fs) h → Fine (dotted_term line a es x) (held_kinds h)
  dot_denoted line a es h value place ints ops acts None x = absurd x
  dot_denoted line a es h value place ints ops acts (Some (denotation.Declared d)) x =
      let known = known_of s (ObjectHas s (λ c. ExprIs s from a (Refers c)) d) d es (AreIntegers s from es) (ParametersAre s from es) (λ fs. ActualsFit s from es fs) (entry_of s.tables d) h x in
      attribute_of line es (close_all s m i es) (λ fs. close_actuals s m i line es fs) (AreIntegers s from es) (ParametersAre s from es) (λ ks. AreOf s from es ks) (λ fs. ActualsFit s from es fs) ints (λ y. y) ops acts (close s m i a) known.0 (ObjectHas s (λ c. ExprIs s from a (Refers c)) d) d h known.1 known.2 (value (Refers known.0) known.3) x
  dot_denoted line a es h value place ints ops acts (Some (denotation.Standard n)) x = behind_fine line a es h (ExprIs s from a (Simply kind.Text)) (λ ks. AreOf s from es ks) (λ y. value (Simply kind.Text) y) place ops (stream_of s a) (procedure_named n) (stream_is a) x

  variable_named : (name : Identifier) (es : Expressions) → (is_variable s (syntax.Named name es) || is_attribute s (syntax.Named name es)) ≡ true → is_variable_denoted s (denoted s name.token.0) es ≡ true
  unfolding is_variable is_attribute
  variable_named name es v = or_first (is_variable_denoted s (denoted s name.token.0) es) false refl v

  -- where a text behind a dot lies: an image, or an attribute
  dot_lies : (line : ℕ) (a : Expression) (es : Expressions) (x : Option Denotation) → ((c : ℕ) → ExprIs s from a (Refers c) → Fine (close s m i a) (Some (Value (Refers c)))) → (AreIntegers s from es → IntegersFine s m i t todo (close_all s m i es)) → ((ks : List Kind) → AreOf s from es ks → OperandsFine s m i t todo (close_all s m i es) (value_kinds ks)) → ((fs : List Formal) → ActualsFit s from es fs → TermsFine s m i t todo (close_actuals s m i line es fs) (formal_kinds s fs)) → (is_image_behind (stream_of s a) x || is_attribute_denoted s x es) ≡ true
      → DotGives s x (stream_of s a) (ExprIs s from a (Simply kind.Text)) (λ c. ExprIs s from a (Refers c)) es (AreIntegers s from es) (ParametersAre s from es) (λ ks. AreOf s from es ks) (λ fs. ActualsFit s from es fs) (Some (Simply kind.Text)) → (y : Kinds) × Fine (image_place (stream_of s a) (if_any (declared_attribute x) (place_of_attribute s line (close s m i a) es (close_all s m i es)) NoMeaning)) (Some y) × OperandIs kind.Text y
  dot_lies line a es None value ints ops acts v x = absurd x
  dot_lies line a es (Some (denotation.Standard n)) value ints ops acts v x = image_place_fine (stream_of s a) NoMeaning (Some (denotation.Standard n)) (stream_is a) (or_first (is_image_behind (stream_of s a) (Some (denotation.Standard n))) false refl v)
  dot_lies line a es (Some (denotation.Declared d)) value ints ops acts v x =
      let known = known_of s (ObjectHas s (λ c. ExprIs s from a (Refers c)) d) d es (AreIntegers s from es) (ParametersAre s from es) (λ fs. ActualsFit s from es fs) (entry_of s.tables d) (Some (Simply kind.Text)) x in
      let held = variable_left line es (close_all s m i es) (λ fs. close_actuals s m i line es fs) (AreIntegers s from es) (ParametersAre s from es) (λ ks. AreOf s from es ks) (λ fs. ActualsFit s from es fs) ints (λ y. y) ops acts (ObjectHas s (λ c. ExprIs s from a (Refers c)) d) d (entry_of s.tables d) (attribute_entry s (stream_of s a) d es v) x in (
        AddressOf (Simply kind.Text),
        subst (λ z. Fine (image_place z (place_of_attribute s line (close s m i a) es (close_all s m i es) d)) (Some (AddressOf (Simply kind.Text)))) (sym (value_no_stream a (Refers known.0) known.3))
            (entry_lies s ok d known.0 known.2 m i t todo line (close s m i a) (value known.0 known.3) (ObjectHas s (λ c. ExprIs s from a (Refers c)) d) es (close_all s m i es) (AreIntegers s from es) (entry_of s.tables d) (Simply kind.Text) refl ints held),
        (refl, refl),
      )

  abbrev NoPlace : Expression → Type 0
  NoPlace (syntax.Named name es) = ⊥
  NoPlace (syntax.Dot token a name es) = ⊥
  NoPlace _ = Unit {0}

  not_variable : (e : Expression) → NoPlace e → (is_variable s e || is_attribute s e) ≡ true → ⊥
  unfolding is_variable is_attribute
  not_variable (syntax.Named name es) n v = n
  not_variable (syntax.Dot token a name es) n v = n
  not_variable _ n v = cc

  dot_variable : (token : ℕ) (a : Expression) (name : Identifier) (es : Expressions) → (is_variable s (syntax.Dot token a name es) || is_attribute s (syntax.Dot token a name es)) ≡ true → (is_image_behind (stream_of s a) (denoted s name.token.0) || is_attribute_denoted s (denoted s name.token.0) es) ≡ true
  unfolding is_variable is_attribute
  dot_variable token a name es v = v

  -- ---- classes

  member_fine : (member : Membership) (x : Option ℕ) (k : ℕ) (a : Term) (h : Holds) → x ≡ Some k → Simply kind.Boolean ≡ h → Fine a (simple kind.Reference) → Fine (membership_term member x a) (Some (Value h))
  member_fine member x k a h e is f = subst (λ z. Fine (membership_term member z a) (Some (Value h))) (sym e) (ap (λ z. Some (Value z)) is, f)

  qua_fine : (x : Option ℕ) (k line : ℕ) (a : Term) (h : Holds) → x ≡ Some k → Fits s (Refers k) h → Fine a (simple kind.Reference) → Fine (qua_term x line a) (Some (Value h))
  qua_fine x k line a h e fits f = subst (λ z. Fine (qua_term z line a) (Some (Value h))) (sym e) ((h, fits, refl), f)

  class_fixed : (d : DeclNo) (k : ℕ) → entry_of s.tables d ≡ Some (entry.Class k) → IsFixed (entry_of s.tables d) → ⊥
  class_fixed d k e a = subst IsFixed e a

  -- `new`
  new_fine : (token line other : ℕ) (es : Expressions) (h : Holds) → ((fs : List Formal) → ActualsFit s from es fs → TermsFine s m i t todo (with_arrays_kept fs (close_actuals s m i line es fs)) (class_kinds s fs)) → NewIs s from token (λ fs. ActualsFit s from es fs) h
      → Fine (generation s token (home_of_class s m i (denoted s token)) (class_at s token) (with_arrays_kept (class_parameters s (class_at s token)) (close_actuals s m i line es (class_parameters s (class_at s token)))) other) (Some (Value h))
  new_fine token line other es h acts a =
      let n = a.0 in
      let home : home_of_class s m i (denoted s token) ≡ Some New.instance = ap (home_of_class s m i) n.denotes ∙ New.found in
      let class : class_at s token ≡ Some n.class = class_named s token n.declaration n.class n.denotes n.declares w.is in
      subst (λ z. Fine (generation s token z (class_at s token) (with_arrays_kept (class_parameters s (class_at s token)) (close_actuals s m i line es (class_parameters s (class_at s token)))) other) (Some (Value h))) (sym home)
      (subst (λ z. Fine (generation s token (Some New.instance) z (with_arrays_kept (class_parameters s z) (close_actuals s m i line es (class_parameters s z))) other) (Some (Value h))) (sym class)
      (by_process (is_process_itself s n.class) refl))
    where
      New : Reached s m i (a.0).declaration
      New = reach (a.0).declaration (a.0).seen

      w : ClassThere s (a.0).declaration (a.0).class
      w = ok.classes (a.0).declaration (a.0).class (a.0).declares

      solid : is_connection (text s (a.0).class) ≡ false
      solid = class_solid (text s (a.0).class) w.is

      Parts : Terms
      Parts = with_arrays_kept (class_parameters s (Some (a.0).class)) (close_actuals s m i line es (class_parameters s (Some (a.0).class)))

      made : (x : Kinds) → Makes s (a.0).class x → Fine (NewOf New.instance (a.0).class Parts other) (Some x)
      made x is = record {
        around = block_of s (a.0).declaration;
        near = New.near;
        whole = whole_of s m i (a.0).declaration New (class_fixed (a.0).declaration (a.0).class (a.0).declares);
        class = record { stands_in = w.around; is = w.is; single = (a.0).single; process = (a.0).process };
        kinds = x;
        made = is;
        gives = refl;
        actuals = acts (class_parameters s (Some (a.0).class)) (a.0).actuals;
      }

      by_process : (b : Bool) → is_process_itself s (a.0).class ≡ b → Fine (origin_if b (a.0).class token other (NewOf New.instance (a.0).class Parts other)) (Some (Value h))
      by_process false is = made (Value h) a.1
      by_process true is = (h, record { process = itself_process s ok (a.0).class solid is; fits = a.1 }, refl, made (NewObject (a.0).class) (class_itself s ok (a.0).class w.is, w.is))

  -- ---- calls

  abbrev named_transfer : Identifier → Expressions → Transfer → Term
  named_transfer name es c = transfer_term c (line_at s name.token.0) (this_term s m i (found_at s name.token.0)) (close_all s m i es)

  abbrev named_other : Identifier → Expressions → Term
  named_other name es =
      if_any (connection_at s name.token.0) (λ k. if_any (declared_attribute (denoted s name.token.0)) (attribute s i (line_at s name.token.0) (connected_object s m i k) es (close_all s m i es) (λ d. close_actuals s m i (line_at s name.token.0) es (closing.formals_at s d))) NoMeaning)
      (if_any (own_attribute s name.token.0) (λ d. own_term s (entry_of s.tables d) (block_found s m i (found_at s name.token.0)) (close_actuals s m i (line_at s name.token.0) es (closing.formals_at s d)) (line_at s name.token.0) (attribute s i (line_at s name.token.0) (this_term s m i (found_at s name.token.0)) es (close_all s m i es) (λ d. close_actuals s m i (line_at s name.token.0) es (closing.formals_at s d)) d))
      (named_term s m i (line_at s name.token.0) (denoted s name.token.0) es (close_all s m i es) (λ fs. close_actuals s m i (line_at s name.token.0) es fs)))

  named_keeps : (name : Identifier) (es : Expressions) (h : Option Holds) → IdentifierGives s from name.token.0 (connection_at s name.token.0) (own_attribute s name.token.0) es (AreIntegers s from es) (ParametersAre s from es) (λ ks. AreOf s from es ks) (λ fs. ActualsFit s from es fs) h → transfer_at s name.token.0 ≡ None
  named_keeps name es h x = identifier_transfers_not s from (connection_at s name.token.0) name.token.0 es (AreIntegers s from es) (ParametersAre s from es) (λ ks. AreOf s from es ks) (λ fs. ActualsFit s from es fs) h x

  dot_keeps : (a : Expression) (name : Identifier) (es : Expressions) (h : Option Holds) → DotGives s (denoted s name.token.0) (stream_of s a) (ExprIs s from a (Simply kind.Text)) (λ c. ExprIs s from a (Refers c)) es (AreIntegers s from es) (ParametersAre s from es) (λ ks. AreOf s from es ks) (λ fs. ActualsFit s from es fs) h → transfer_at s name.token.0 ≡ None
  dot_keeps a name es h x = dot_transfers_not s name.token.0 (stream_of s a) (ExprIs s from a (Simply kind.Text)) (λ c. ExprIs s from a (Refers c)) es (AreIntegers s from es) (ParametersAre s from es) (λ ks. AreOf s from es ks) (λ fs. ActualsFit s from es fs) h x

  -- a procedure that stands alone behind a dot, or is seen through a connection
  attribute_alone : (line : ℕ) (object : Term) (d : DeclNo) (c : ℕ) (Known : Type 0) (wanted : Option SimType) → is_class (text s c) ≡ true → has_level s.tables c (block_of s d) ≡ true → Fine object (Some (Value (Refers c))) → ProcedureDeclared s Known (entry_of s.tables d) wanted → Fine (attribute_procedure s line object d) (Some (Value (Procedure wanted)))
  attribute_alone line object d c Known wanted class level fine a = entry_alone s ok d c level m i t todo line object fine class Known (entry_of s.tables d) wanted refl a

  procedure_known : (Known : Type 0) (e : Option Entry) (wanted : Option SimType) → ProcedureDeclared s Known e wanted → Known
  procedure_known Known (Some (entry.Procedure result k)) wanted a = a.1
  procedure_known Known (Some (entry.Virtual result own)) wanted a = a.1
  procedure_known Known (Some (entry.Formal f)) wanted a = by_kind f.kind a
    where
      by_kind : (g : FormalKind) → FormalStands s Known g f.ty wanted → Known
      by_kind shape.Procedure a = a.1
      by_kind shape.Simple a = absurd a
      by_kind shape.Array a = absurd a
  procedure_known Known None wanted a = absurd a
  procedure_known Known (Some _) wanted a = absurd a

  named_alone : (line : ℕ) (c : Option ℕ) (x : Option Denotation) (wanted : Option SimType) → ProcedureNamed s from c x wanted → Fine (if_any c (λ k. if_any (declared_attribute x) (attribute_procedure s line (connected_object s m i k)) NoMeaning) (closing.procedure_denoted s m i line x)) (Some (Value (Procedure wanted)))
  named_alone line None (Some (denotation.Declared d)) wanted a = declared_alone line d (entry_of s.tables d) wanted refl a
  named_alone line (Some k) (Some (denotation.Declared d)) wanted a =
      let b = object_seen k d (procedure_known (SeesConnected s from k d) (entry_of s.tables d) wanted a) in
      attribute_alone line (connected_object s m i k) d b.0 (SeesConnected s from k d) wanted b.1 b.2 b.3 a
  named_alone line None None wanted a = absurd a
  named_alone line (Some k) None wanted a = absurd a
  named_alone line None (Some (denotation.Standard n)) wanted a = absurd a
  named_alone line (Some k) (Some (denotation.Standard n)) wanted a = absurd a

  dot_alone : (line : ℕ) (a : Expression) (x : Option Denotation) (wanted : Option SimType) → ((h : Holds) → ExprIs s from a h → Fine (close s m i a) (Some (Value h))) → ProcedureDot s x (λ c. ExprIs s from a (Refers c)) wanted → Fine (if_any (declared_attribute x) (attribute_procedure s line (close s m i a)) NoMeaning) (Some (Value (Procedure wanted)))
  dot_alone line a (Some (denotation.Declared d)) wanted value y =
      let known = procedure_known (ObjectHas s (λ c. ExprIs s from a (Refers c)) d) (entry_of s.tables d) wanted y in
      attribute_alone line (close s m i a) d known.0 (ObjectHas s (λ c. ExprIs s from a (Refers c)) d) wanted known.1 known.2 (value (Refers known.0) known.3) y
  dot_alone line a None wanted value y = absurd y
  dot_alone line a (Some (denotation.Standard n)) wanted value y = absurd y

  mutual
    pub alone_fine : (e : Expression) (wanted : Option SimType) → ProcedureIs s from e wanted → Fine (close_procedure s m i e) (Some (Value (Procedure wanted)))
    alone_fine (syntax.Named name NoMore) wanted x = named_alone (line_at s name.token.0) (connection_at s name.token.0) (denoted s name.token.0) wanted x
    alone_fine (syntax.Dot token a name NoMore) wanted x = dot_alone (line_at s name.token.0) a (denoted s name.token.0) wanted (λ h y. expr_fine a h y) x
    alone_fine (syntax.Named name (Then e es)) wanted x = absurd x
    alone_fine (syntax.Dot token a name (Then e es)) wanted x = absurd x
    alone_fine _ wanted x = absurd x

    pub expr_fine : (e : Expression) (h : Holds) → ExprIs s from e h → Fine (close s m i e) (Some (Value h))
    expr_fine (syntax.If token c a b) h x = (Value h, refl, expr_fine c (Simply kind.Boolean) x.0, expr_fine a h x.1, expr_fine b h x.2)
    expr_fine (syntax.Binary op token a b) h x =
        two_fine (sort_of (is_text s a) op) (line_at s token) x.0 x.1 (close s m i a) (close s m i b) h x.2 x.3 (expr_fine a (Simply x.0) x.4) (expr_fine b (Simply x.0) x.5)
    expr_fine (syntax.Not token a) h x = (kind.Boolean, refl, ap (λ z. Some (Value z)) x.0, expr_fine a (Simply kind.Boolean) x.1)
    expr_fine (syntax.Signed sign token a) h x = signed_fine sign (line_at s token) (close s m i a) h x.0 (expr_fine a (Simply kind.Integer) x.1)
    expr_fine (syntax.Member member token a class) h x = let c = x.1 in member_fine member (class_at s class.token.0) c.class (close s m i a) h c.is x.0 (expr_fine a (Simply kind.Reference) x.2)
    expr_fine (syntax.Qua token a class) h x = let c = x.0 in qua_fine (class_at s class.token.0) c.class (line_at s token) (close s m i a) h c.is x.1 (expr_fine a (Simply kind.Reference) x.2)
    expr_fine (syntax.Constant literal token) h x = literal_fine token literal h x
    expr_fine (syntax.Dot token a name es) h x =
        other_call (transfer_at s name.token.0) (λ c. detach_term (line_at s name.token.0) (close s m i a)) (dotted_term (line_at s name.token.0) a es (denoted s name.token.0)) (Some (Value h)) (dot_keeps a name es (Some h) x)
        (dot_denoted (line_at s name.token.0) a es (Some h) (λ h y. expr_fine a h y) (λ v y. place_fine a v y) (λ y. integers_fine es y) (λ ks y. of_fine es ks y) (λ fs y. actuals_fine (line_at s name.token.0) es fs y) (denoted s name.token.0) x)
    expr_fine (syntax.Named name es) h x =
        other_call (transfer_at s name.token.0) (named_transfer name es) (named_other name es) (Some (Value h)) (named_keeps name es (Some h) x)
        (identifier_fine (line_at s name.token.0) es (close_all s m i es) (λ fs. close_actuals s m i (line_at s name.token.0) es fs) (AreIntegers s from es) (ParametersAre s from es) (λ ks. AreOf s from es ks) (λ fs. ActualsFit s from es fs) (λ a. integers_fine es a) (λ a. a) (λ ks a. of_fine es ks a) (λ fs a. actuals_fine (line_at s name.token.0) es fs a) name.token.0 (connection_at s name.token.0) (own_attribute s name.token.0) (Some h) refl x)
    expr_fine (syntax.This token class) h x = this_found (found_at s token) h x
    expr_fine (syntax.New token class es) h x = new_fine class.token.0 (line_at s class.token.0) (line_at s token) es h (λ fs a. class_fine (line_at s class.token.0) es fs a) x
    expr_fine (syntax.Parentheses token a) h x = expr_fine a h x

    pub integers_fine : (es : Expressions) → AreIntegers s from es → IntegersFine s m i t todo (close_all s m i es)
    integers_fine NoMore x = x
    integers_fine (Then e es) x = (expr_fine e (Simply kind.Integer) x.0, integers_fine es x.1)

    -- where a text variable before a dot lies
    place_fine : (e : Expression) → (is_variable s e || is_attribute s e) ≡ true → ExprIs s from e (Simply kind.Text) → (y : Kinds) × Fine (close_place s m i e) (Some y) × OperandIs kind.Text y
    place_fine (syntax.Named name es) v x =
        text_lies (line_at s name.token.0) es (close_all s m i es) (λ fs. close_actuals s m i (line_at s name.token.0) es fs) (AreIntegers s from es) (ParametersAre s from es) (λ ks. AreOf s from es ks) (λ fs. ActualsFit s from es fs) (λ y. integers_fine es y) (λ a. a) (λ ks a. of_fine es ks a) (λ fs a. actuals_fine (line_at s name.token.0) es fs a) name.token.0 (connection_at s name.token.0) (own_attribute s name.token.0) refl (variable_named name es v) x
    place_fine (syntax.Dot token a name es) v x = dot_lies (line_at s name.token.0) a es (denoted s name.token.0) (λ c y. expr_fine a (Refers c) y) (λ y. integers_fine es y) (λ ks y. of_fine es ks y) (λ fs y. actuals_fine (line_at s name.token.0) es fs y) (dot_variable token a name es v) x
    place_fine (syntax.If token c a b) v x = absurd (not_variable (syntax.If token c a b) tt v)
    place_fine (syntax.Binary op token a b) v x = absurd (not_variable (syntax.Binary op token a b) tt v)
    place_fine (syntax.Not token a) v x = absurd (not_variable (syntax.Not token a) tt v)
    place_fine (syntax.Signed sign token a) v x = absurd (not_variable (syntax.Signed sign token a) tt v)
    place_fine (syntax.Constant literal token) v x = absurd (not_variable (syntax.Constant literal token) tt v)
    place_fine (syntax.Parentheses token a) v x = absurd (not_variable (syntax.Parentheses token a) tt v)
    place_fine (syntax.Member member token a class) v x = absurd (not_variable (syntax.Member member token a class) tt v)
    place_fine (syntax.Qua token a class) v x = absurd (not_variable (syntax.Qua token a class) tt v)
    place_fine (syntax.This token class) v x = absurd (not_variable (syntax.This token class) tt v)
    place_fine (syntax.New token class es) v x = absurd (not_variable (syntax.New token class es) tt v)

    pub of_fine : (es : Expressions) (ks : List Kind) → AreOf s from es ks → OperandsFine s m i t todo (close_all s m i es) (value_kinds ks)
    of_fine NoMore [] x = refl
    of_fine NoMore (k ∷ ks) x = absurd x
    of_fine (Then e es) [] x = absurd x
    of_fine (Then e es) (k ∷ ks) x = (Value (Simply k), value_kinds ks, refl, expr_fine e (Simply k) x.0, of_fine es ks x.1)

    pub actuals_fine : (line : ℕ) (es : Expressions) (fs : List Formal) → ActualsFit s from es fs → TermsFine s m i t todo (close_actuals s m i line es fs) (formal_kinds s fs)
    actuals_fine line NoMore [] x = refl
    actuals_fine line NoMore (f ∷ fs) x = absurd x
    actuals_fine line (Then e es) [] x = absurd x
    actuals_fine line (Then e es) (f ∷ fs) x =
        let a = actual_fine s ok (ExprIs s from e) (λ k. NamedIs s from e k) (ProcedureIs s from e) (λ z h. Fine z (Some h)) line (close s m i e) (close_procedure s m i e) (λ p. ActualOf i p e) (λ h y. expr_fine e h y) (λ q y. alone_fine e q y) (λ k y. (Simply k, from, refl, refl, at, y)) (λ h y. (ArrayOf h, from, refl, refl, at, y)) (λ q y. (Procedure q, from, refl, refl, at, y)) (λ y. copy_fine line (close s m i e) y) (λ k y. (k, refl, y)) (λ k y. (k, refl, y)) (λ z k level y. ((Refers k, level, refl), y)) f.mode f.kind f.ty x.0 in
        (a.0, formal_kinds s fs, ap (λ z. z ∷ formal_kinds s fs) a.1, a.2, actuals_fine line es fs x.1)

    pub class_fine : (line : ℕ) (es : Expressions) (fs : List Formal) → ActualsFit s from es fs → TermsFine s m i t todo (with_arrays_kept fs (close_actuals s m i line es fs)) (class_kinds s fs)
    class_fine line NoMore [] x = refl
    class_fine line NoMore (f ∷ fs) x = absurd x
    class_fine line (Then e es) [] x = absurd x
    class_fine line (Then e es) (f ∷ fs) x =
        let a = class_actual s ok (ExprIs s from e) (λ k. NamedIs s from e k) (ProcedureIs s from e) (λ z h. Fine z (Some h)) line (close s m i e) (close_procedure s m i e) (λ p. ActualOf i p e) (λ h y. expr_fine e h y) (λ q y. alone_fine e q y) (λ k y. (Simply k, from, refl, refl, at, y)) (λ h y. (ArrayOf h, from, refl, refl, at, y)) (λ q y. (Procedure q, from, refl, refl, at, y)) (λ y. copy_fine line (close s m i e) y) (λ k y. (k, refl, y)) (λ k y. (k, refl, y)) (λ z k level y. ((Refers k, level, refl), y)) f.mode f.kind f.ty x.0 in
        (a.0, class_kinds s fs, ap (λ z. z ∷ class_kinds s fs) a.1, a.2, class_fine line es fs x.1)

  -- a call that stands as a statement
  pub given_fine : (name : Identifier) (es : Expressions) (h : Option Holds) → IdentifierGives s from name.token.0 (connection_at s name.token.0) (own_attribute s name.token.0) es (AreIntegers s from es) (ParametersAre s from es) (λ ks. AreOf s from es ks) (λ fs. ActualsFit s from es fs) h → Fine (close s m i (syntax.Named name es)) (held_kinds h)
  given_fine name es h x = other_call (transfer_at s name.token.0) (named_transfer name es) (named_other name es) (held_kinds h) (named_keeps name es h x)
      (identifier_fine (line_at s name.token.0) es (close_all s m i es) (λ fs. close_actuals s m i (line_at s name.token.0) es fs) (AreIntegers s from es) (ParametersAre s from es) (λ ks. AreOf s from es ks) (λ fs. ActualsFit s from es fs) (λ a. integers_fine es a) (λ a. a) (λ ks a. of_fine es ks a) (λ fs a. actuals_fine (line_at s name.token.0) es fs a) name.token.0 (connection_at s name.token.0) (own_attribute s name.token.0) h refl x)

  pub dot_fine : (token : ℕ) (a : Expression) (name : Identifier) (es : Expressions) (h : Option Holds) → DotGives s (denoted s name.token.0) (stream_of s a) (ExprIs s from a (Simply kind.Text)) (λ c. ExprIs s from a (Refers c)) es (AreIntegers s from es) (ParametersAre s from es) (λ ks. AreOf s from es ks) (λ fs. ActualsFit s from es fs) h → Fine (close s m i (syntax.Dot token a name es)) (held_kinds h)
  dot_fine token a name es h x =
      other_call (transfer_at s name.token.0) (λ c. detach_term (line_at s name.token.0) (close s m i a)) (dotted_term (line_at s name.token.0) a es (denoted s name.token.0)) (held_kinds h) (dot_keeps a name es h x)
      (dot_denoted (line_at s name.token.0) a es h (λ h y. expr_fine a h y) (λ v y. place_fine a v y) (λ y. integers_fine es y) (λ ks y. of_fine es ks y) (λ fs y. actuals_fine (line_at s name.token.0) es fs y) (denoted s name.token.0) x)

  -- and one that transfers control
  some_transfer : (x : Option Transfer) (c : Transfer) (f : Transfer → Term) (a : Term) → x ≡ Some c → Fine (f c) None → Fine (if_any x f a) None
  some_transfer x c f a e fine = subst (λ z. Fine (if_any z f a) None) (sym e) fine

  transfer_is : (c : Transfer) (line : ℕ) (found : Option ℕ) (es : Expressions) → TransferFrom s from c found es → Fine (transfer_term c line (this_term s m i found) (close_all s m i es)) None
  transfer_is Detaching line found es a = (refl, (Simply kind.Reference, Component, refl, refl, this_found found (Simply kind.Reference) a))
  transfer_is Calling line found NoMore a = absurd a
  transfer_is Calling line found (Then e NoMore) a = (refl, expr_fine e (Simply kind.Reference) a.0)
  transfer_is Calling line found (Then e (Then d es)) a = absurd a.1
  transfer_is Resuming line found NoMore a = absurd a
  transfer_is Resuming line found (Then e NoMore) a = (refl, expr_fine e (Simply kind.Reference) a.0)
  transfer_is Resuming line found (Then e (Then d es)) a = absurd a.1

  pub transfer_fine : (name : Identifier) (es : Expressions) (c : Transfer) → transfer_at s name.token.0 ≡ Some c → TransferFrom s from c (found_at s name.token.0) es → Fine (close s m i (syntax.Named name es)) None
  transfer_fine name es c e a = some_transfer (transfer_at s name.token.0) c (named_transfer name es) (named_other name es) e (transfer_is c (line_at s name.token.0) (found_at s name.token.0) es a)

  pub detach_fine : (token : ℕ) (a : Expression) (name : Identifier) (es : Expressions) (c : Transfer) → transfer_at s name.token.0 ≡ Some c → ExprIs s from a (Simply kind.Reference) → Fine (close s m i (syntax.Dot token a name es)) None
  detach_fine token a name es c e x = some_transfer (transfer_at s name.token.0) c (λ c. detach_term (line_at s name.token.0) (close s m i a)) (dotted_term (line_at s name.token.0) a es (denoted s name.token.0)) e (refl, (Simply kind.Reference, Component, refl, refl, expr_fine a (Simply kind.Reference) x))
