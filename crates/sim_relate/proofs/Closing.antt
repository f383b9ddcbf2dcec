-- The code of an expression evaluates its closed tree.
use Rattle.std.proofs.Common.{◌≡◌, ℕ, suc, Bool, true, false, List, [], ◌∷◌, length, Option, Some, None, refl, sym, ap, ◌∙◌, subst}
use Rattle.std.specs.Prelude.{pos, ◌||◌, if◌then◌else◌}
use Rattle.sim_base.specs.declared.numbering.DeclNo.{DeclNo}
use Rattle.sim_scope.specs.declared.scopes.Denotation.{Denotation}
use Rattle.sim_scope.specs.declared.scopes.Denotation.TheVariants as denotation
use Rattle.sim_scope.specs.declared.types.Entry.{Entry}
use Rattle.sim_scope.specs.declared.types.Entry.TheVariants as entry
use Rattle.sim_scope.specs.declared.types.Formal.{Formal}
use Rattle.sim_scope.specs.declared.types.FormalKind.{FormalKind}
use Rattle.sim_scope.specs.declared.types.FormalKind.TheVariants as shape
use Rattle.sim_scope.specs.declared.types.Mode.{Mode}
use Rattle.sim_scope.specs.declared.types.SimType.{SimType}
use Rattle.sim_scope.specs.Access.{encloser}
use Rattle.sim_scope.specs.Levels.{class_block}
use Rattle.sim_scope.specs.Scopes.{entry_of}
use Rattle.sim_scope.specs.Source.{Source, block_of, denoted, found_at, level_of, line_at}
use Rattle.sim_tree.specs.declared.expr.Identifier.{Identifier}
use Rattle.sim_tree.specs.declared.expr.Membership.{Membership}
use Rattle.sim_tree.specs.Syntax.{Expression, Expressions, NoMore, Then}
use Rattle.sim_tree.specs.Syntax as syntax
use Rattle.sim_values.specs.Plain.{Object}
use Rattle.sim_code.specs.declared.instr.Instr.TheVariants as i
use Rattle.sim_code.specs.Code.{CodeOf}
use Rattle.sim_code.specs.Instances.{at_level}
use Rattle.sim_code.specs.Transfers.{Transfer}
use Rattle.sim_meaning.specs.Attributes.{array_attribute, attribute, attribute_place, attribute_procedure, block_found, cell_of_connection, connected_object, connection_at, declared_attribute, detach_term, entry_at, entry_attribute, generation, if_any, is_connection, membership_term, own_attribute, own_term, parameter_at, parameter_attribute, place_of_attribute, qua_term, qualified, qualified_place, this_instance, this_term, transfer_at, transfer_term, variable_attribute, with_arrays_kept, entry_procedure, origin_if}
use Rattle.sim_meaning.specs.Attributes as attributes
use Rattle.sim_meaning.specs.Closing.{class_parameters, close, close_actuals, close_all, close_parameters, close_place, close_procedure, declared_procedure, formal_procedure, formal_value, procedure_denoted, dot_term, formals_at, home_of, home_of_class, in_instance, is_attribute, is_text, is_variable, named_place, named_term, reference_place, result_meant, result_place, sort_of, stream_of, left_type, has_type}
use Rattle.sim_meaning.specs.Levels.{class_at, class_denoted, is_process_itself, qualification}
use Rattle.sim_meaning.specs.Names.{procedure_named}
use Rattle.sim_meaning.specs.Pending.{Cell, Declared, ElementOf, Further, Instances, MatchOf, NewOf, NoTerm, Origin, PlaceOf, ProcedureOf, RemoteCallOf, Result, Term, Terms, NoMeaning, ValueAt, Given}
use Rattle.sim_meaning.specs.Steps.{count}
use Rattle.sim_meaning.specs.Texts.{text}
use Rattle.codegen_expr.specs.Sites.{At, Inside, Is, LevelOf, Pushes, Site, block_number, class_number, frame_text, is_constant, slot_of}
use Rattle.codegen_expr.specs.CodeExpr.{ActualsAt, ArrayOfAt, ArrayPlaceOfAt, AttributePlaceAt, ConnectedAt, ConnectedNameAt, ConstantAttributeAt, DotAt, ElementOfAt, ExprAt, ExprsAt, GenerationAt, MemberAt, NamedAt, NamedPlaceAt, OfObjectAt, OwnAt, OwnNameAt, ParameterOfAt, ParameterPlaceOfAt, PlaceAt, PlaceBehindAt, PlaceOfObjectAt, PlaceOrResultAt, QuaAt, QualifiedPlaceAt, ReferencePlaceAt, RemoteCallAt, ThisFoundAt, ThisOfAt, ThroughAt, VariableOfAt, VariablePlaceOfAt, gives_entry, operands, Checked, DeclaredProcedureAt, FormalValueAt, Listed, NewAt, OriginIfAt, Parameters, PassedAt, ProcedureAt, ProcedureBehindAt, ProcedureEntryAt, ProcedureNamedAt, ProcedureOfObjectAt, parameters_at, parameters_of}
use Rattle.codegen_expr.specs.CodeExpr as code_gives
use Rattle.codegen.specs.Agrees.{Agrees}
use Rattle.sim_relate.proofs.AttributeTerms.{object_attribute_at, own_name_at}
use Rattle.sim_relate.proofs.ClassNames.{class_found, class_is, declared_class, denoted_classed, qualification_classed}
use Rattle.sim_relate.proofs.ActualTrees.{given_for, passes_given}
use Rattle.sim_relate.proofs.ClosedNames.{NamedIs, ReadAt, Qualified, class_given, QualifiedIs, PlacedAt, element_placed, place_placed, literal_at, two_at, signed_at, own, ActualsGive, GivenFor, value_call_at, formal_found, match_at, match_around, named_at, named_place_at, OnlyImages, stream_is, image_place_at, behind_dot_at}
use Rattle.sim_relate.proofs.Formals.{actuals_counted, formals_same}
use Rattle.sim_relate.proofs.Frames.{frame_idem, frame_level, own_frame}
use Rattle.sim_relate.proofs.Known.{Any, Finds, FixedOf, Located, Stands, attribute_kind, inside, is_read, kind_unless, outermost, seen_at, text_gives}
use Rattle.sim_relate.proofs.Roomy.{FitsWhere, connected_fits, expression_fits, this_fits}
use Rattle.sim_relate.proofs.OwnNames.{own_denoted}
use Rattle.sim_relate.proofs.TransferNames.{no_transfer}
use Rattle.sim_relate.proofs.Trees.{Classed, FoundIs, OperandAt, TermsAt, ProcedureIs}

module _ (s : Source) (code : CodeOf) (m : Instances) (inst : ℕ) (site : Site) (agrees : Agrees s) (reach : (u : ℕ) → Inside s.tables site.text u → Finds s m inst u) where
  -- ---- what objects have

  -- the code of an object: in front of a dot, or connected
  abbrev pub ObjectIs : (n : ℕ) → (Base : ℕ → ℕ → Type 0) → Term → Type 0
  ObjectIs n Base x = (p q : ℕ) → Base p q → OperandAt s code m inst site n x p q

  varying : (d : DeclNo) → is_constant (entry_of s.tables d) ≡ false → attribute_kind s (Declared d.0) None ≡ Located
  varying d e = ap (λ b. kind_unless b d.0) e

  attribute_placed : (o : Option (Qualified s code m inst site agrees reach)) (d : DeclNo) (line n : ℕ) (Base : ℕ → ℕ → Type 0) (x : Term) → ObjectIs n Base x → (p q : ℕ) → is_constant (entry_of s.tables d) ≡ false → AttributePlaceAt s code line (class_given s code m inst site agrees reach o) d Base p q → PlacedAt s code m inst site agrees reach o n (attribute_place s line d x) p q
  attribute_placed None d line n Base x f p q varies a =
      let e = varying d varies in
      ((a.x, f p a.x a.object, subst (λ z. FoundIs s code z (block_of s d) (Declared d.0) line a.x q) (sym e) (record { is = a.found; own = own s code m inst site agrees reach d a.within; has = a.within; varies = varies; declared = refl })), ap is_read e)
  attribute_placed (Some k) d line n Base x f p q varies a = record {
    term = (a.x, f p a.x a.object, record { is_class = k.is_class; place = record { is = a.found; own = own s code m inst site agrees reach d a.within; has = a.within; varies = varies; declared = refl } });
    leaves = λ ks. refl;
  }

  -- its value
  value_of : (d : DeclNo) (line n : ℕ) (Base : ℕ → ℕ → Type 0) (x : Term) → ObjectIs n Base x → (p y q : ℕ) → is_constant (entry_of s.tables d) ≡ false → AttributePlaceAt s code line 0 d Base p y → Is code i.Fetch y q → OperandAt s code m inst site n (ValueAt (attribute_place s line d x)) p q
  value_of d line n Base x f p y q varies a b =
      ((y, (attribute_placed None d line n Base x f p y varies a).0, record { kind = Located; left = λ ks. ap (λ z. z ∷ ks) (varying d varies); fetches = b }), refl)

  variable_of_at : (d : DeclNo) (es : Expressions) (line n : ℕ) (Base : ℕ → ℕ → Type 0) (x : Term) → ObjectIs n Base x → (p q : ℕ) → is_constant (entry_of s.tables d) ≡ false → VariableOfAt s code line d es Base p q → NamedIs s code m inst site agrees reach n true (variable_attribute (attribute_place s line d x) es) p q
  variable_of_at d NoMore line n Base x f p q varies a = value_of d line n Base x f p a.0 q varies a.1 a.2
  variable_of_at d (Then e es) line n Base x f p q varies a = absurd a

  constant_of_at : (d : DeclNo) (es : Expressions) (line n : ℕ) (Base : ℕ → ℕ → Type 0) (x : Term) → ObjectIs n Base x → (p q : ℕ) → is_constant (entry_of s.tables d) ≡ true → ConstantAttributeAt s code site n line d es Base p q → NamedIs s code m inst site agrees reach n true (variable_attribute (attribute_place s line d x) es) p q
  constant_of_at d NoMore line n Base x f p q fixed a =
      let e : attribute_kind s (Declared d.0) None ≡ FixedOf d.0 = ap (λ b. kind_unless b d.0) fixed in (
        (
          a.y,
          (a.x, f p a.x a.object, subst (λ z. FoundIs s code z (block_of s d) (Declared d.0) line a.x a.y) (sym e) (record { is = a.there; own = own s code m inst site agrees reach d a.within; has = a.within })),
          record { kind = FixedOf d.0; left = λ ks. ap (λ z. z ∷ ks) e; fetches = record { x = a.z; dropped = a.dropped; value = a.value } },
        ),
        refl,
      )
  constant_of_at d (Then e es) line n Base x f p q fixed a = absurd a

  element_of_at : (o : Option (Qualified s code m inst site agrees reach)) (d : DeclNo) (line n : ℕ) (es : Expressions) (Base Inner : ℕ → ℕ → Type 0) (x : Term) (terms : Terms) → ObjectIs n Base x → ((p q : ℕ) → Inner p q → TermsAt s code m inst site (suc n) terms p q) → operands es ≡ count terms → (p q : ℕ) → is_constant (entry_of s.tables d) ≡ false → ElementOfAt s code line (class_given s code m inst site agrees reach o) d es Base Inner p q
      → PlacedAt s code m inst site agrees reach o n (ElementOf line (ValueAt (attribute_place s line d x)) terms) p q
  element_of_at o d line n es Base Inner x terms f g counts p q varies a =
      element_placed s code m inst site agrees reach o n line (ValueAt (attribute_place s line d x)) terms p a.y a.z q (value_of d line n Base x f p a.x a.y varies a.place a.array) (g a.y a.z a.subscripts) (subst (λ k. At code (i.Elem (pos k) (pos (class_given s code m inst site agrees reach o))) line a.z q) counts a.found)

  array_of_at : (d : DeclNo) (line n : ℕ) (es : Expressions) (Base Inner : ℕ → ℕ → Type 0) (x : Term) (terms : Terms) → ObjectIs n Base x → ((p q : ℕ) → Inner p q → TermsAt s code m inst site (suc n) terms p q) → operands es ≡ count terms → (p q : ℕ) → is_constant (entry_of s.tables d) ≡ false → ArrayOfAt s code line d es Base Inner p q → NamedIs s code m inst site agrees reach n true (array_attribute line (attribute_place s line d x) es terms) p q
  array_of_at d line n NoMore Base Inner x terms f g counts p q varies a = variable_of_at d NoMore line n Base x f p q varies a
  array_of_at d line n (Then e es) Base Inner x terms f g counts p q varies a =
      ((a.0, (element_of_at None d line n (Then e es) Base Inner x terms f g counts p a.0 varies a.1).0, record { kind = Any; left = λ ks. refl; fetches = a.2 }), refl)

  parameter_of_at : (d : DeclNo) (line n : ℕ) (kind : FormalKind) (type : Option SimType) (es : Expressions) (Base Inner : ℕ → ℕ → Type 0) (x : Term) (terms : Terms) → ObjectIs n Base x → ((p q : ℕ) → Inner p q → TermsAt s code m inst site (suc n) terms p q) → operands es ≡ count terms → (p q : ℕ) → is_constant (entry_of s.tables d) ≡ false → ParameterOfAt s code line d kind es Base Inner p q → NamedIs s code m inst site agrees reach n (code_gives.gives_formal kind type) (parameter_attribute line kind (attribute_place s line d x) es terms) p q
  parameter_of_at d line n shape.Simple type es Base Inner x terms f g counts p q varies a = variable_of_at d es line n Base x f p q varies a
  parameter_of_at d line n shape.Array type es Base Inner x terms f g counts p q varies a = array_of_at d line n es Base Inner x terms f g counts p q varies a
  parameter_of_at d line n shape.Procedure type es Base Inner x terms f g counts p q varies a = absurd a

  -- actual parameters of what an object has
  abbrev pub ActualsAre : (n line : ℕ) → Expressions → DeclNo → (Actuals : ℕ → ℕ → Type 0) → (List Formal → Terms) → Type 0
  ActualsAre n line es d Actuals actuals = (p q : ℕ) → Actuals p q → ActualsGive s code m inst site agrees reach n line es actuals (parameters_at s d) p q

  abbrev pub EntryGiven : (n line : ℕ) → Expressions → DeclNo → (Actuals : ℕ → ℕ → Type 0) → (List Formal → Terms) → Option Entry → Type 0
  EntryGiven n line es d Actuals actuals o = (p q : ℕ) → Actuals p q → ActualsGive s code m inst site agrees reach n line es actuals (parameters_of o (formals_at s d)) p q

  remote_call_at : (d : DeclNo) (line n : ℕ) (result : Option SimType) (k : ℕ) (es : Expressions) (Base Actuals : ℕ → ℕ → Type 0) (x : Term) (actuals : List Formal → Terms) → ObjectIs n Base x → FitsWhere s code site n Base → EntryGiven n line es d Actuals actuals (Some (entry.Procedure result k)) → (p q : ℕ) → entry_of s.tables d ≡ Some (entry.Procedure result k) → RemoteCallAt s code line k es Base Actuals p q
      → NamedIs s code m inst site agrees reach n (gives_entry (Some (entry.Procedure result k))) (RemoteCallOf x k (actuals (formals_at s d)) line) p q
  remote_call_at d line n result k es Base Actuals x actuals f fits h p q is a =
      let y = agrees.procedures d result k is in
      let inner = h a.y a.z a.actuals in (
        record {
          text = block_of s d;
          x = a.x;
          y = a.y;
          z = a.z;
          object = f p a.x a.object;
          fits = fits p a.x a.object;
          there = a.there;
          actuals = inner.0;
          call = subst (λ c. At code (i.Call (pos (block_number s k)) (pos c)) line a.z q) inner.1 a.call;
          procedure = record { result = y.given; heading = y.heading; body = y.body; is = y.is; stands_in = y.around };
          as_many = sym inner.1 ∙ inner.2 ∙ ap length (formals_same s d result k is);
        },
        ap text_gives y.is ∙ y.same,
      )

  of_object_at : (d : DeclNo) (line n : ℕ) (o : Option Entry) (es : Expressions) (Base Inner Actuals : ℕ → ℕ → Type 0) (x : Term) (terms : Terms) (actuals : List Formal → Terms) → ObjectIs n Base x → FitsWhere s code site n Base → ((p q : ℕ) → Inner p q → TermsAt s code m inst site (suc n) terms p q) → operands es ≡ count terms → EntryGiven n line es d Actuals actuals o
      → (p q : ℕ) → entry_of s.tables d ≡ o → OfObjectAt s code site n line d o es Base Inner Actuals p q → NamedIs s code m inst site agrees reach n (gives_entry o) (entry_attribute s inst line d o x es terms (actuals (formals_at s d))) p q
  of_object_at d line n (Some (entry.Variable type)) es Base Inner Actuals x terms actuals f fits g counts h p q is a = variable_of_at d es line n Base x f p q (ap is_constant is) a
  of_object_at d line n (Some (entry.Constant type)) es Base Inner Actuals x terms actuals f fits g counts h p q is a = constant_of_at d es line n Base x f p q (ap is_constant is) a
  of_object_at d line n (Some (entry.Array element dimensions)) es Base Inner Actuals x terms actuals f fits g counts h p q is a = array_of_at d line n es Base Inner x terms f g counts p q (ap is_constant is) a
  of_object_at d line n (Some (entry.Formal y)) es Base Inner Actuals x terms actuals f fits g counts h p q is a = parameter_of_at d line n y.kind y.ty es Base Inner x terms f g counts p q (ap is_constant is) a
  of_object_at d line n (Some (entry.Procedure result k)) es Base Inner Actuals x terms actuals f fits g counts h p q is a = remote_call_at d line n result k es Base Actuals x actuals f fits h p q is a
  of_object_at d line n (Some (entry.Class block)) es Base Inner Actuals x terms actuals f fits g counts h p q is a = absurd a
  of_object_at d line n (Some (entry.Virtual result own)) es Base Inner Actuals x terms actuals f fits g counts h p q is a =
      value_call_at s code m inst site agrees reach line n (has_type result) es (MatchOf x d.0 line) p a.x a.y q (match_at s code m inst site agrees reach d line n result own Base x f p a.x is a.procedure) (fits p a.procedure.x a.procedure.object) (h a.x a.y a.actuals) a.called
  of_object_at d line n (Some (entry.Unspecified written)) es Base Inner Actuals x terms actuals f fits g counts h p q is a = absurd a
  of_object_at d line n (Some (entry.Attribute name parameter result)) es Base Inner Actuals x terms actuals f fits g counts h p q is a = object_attribute_at s code m inst site line n name parameter result es Base Actuals x (actuals (formals_at s d)) f (λ p q b. let r = h p q b in (r.0, r.1)) p q a
  of_object_at d line n None es Base Inner Actuals x terms actuals f fits g counts h p q is a = absurd a

  declared_object_at : (d : DeclNo) (line n : ℕ) (es : Expressions) (Base Inner Actuals : ℕ → ℕ → Type 0) (x : Term) (terms : Terms) (actuals : List Formal → Terms) → ObjectIs n Base x → FitsWhere s code site n Base → ((p q : ℕ) → Inner p q → TermsAt s code m inst site (suc n) terms p q) → operands es ≡ count terms → ActualsAre n line es d Actuals actuals
      → (p q : ℕ) → OfObjectAt s code site n line d (entry_of s.tables d) es Base Inner Actuals p q → NamedIs s code m inst site agrees reach n (gives_entry (entry_of s.tables d)) (attribute s inst line x es terms (λ d. actuals (formals_at s d)) d) p q
  declared_object_at d line n es Base Inner Actuals x terms actuals f fits g counts h p q a = of_object_at d line n (entry_of s.tables d) es Base Inner Actuals x terms actuals f fits g counts h p q refl a

  -- where they lie
  variable_place_of : (o : Option (Qualified s code m inst site agrees reach)) (d : DeclNo) (es : Expressions) (line n : ℕ) (Base : ℕ → ℕ → Type 0) (x : Term) → ObjectIs n Base x → (p q : ℕ) → is_constant (entry_of s.tables d) ≡ false → VariablePlaceOfAt s code line (class_given s code m inst site agrees reach o) d es Base p q → PlacedAt s code m inst site agrees reach o n (attributes.variable_at (attribute_place s line d x) es) p q
  variable_place_of o d NoMore line n Base x f p q varies a = attribute_placed o d line n Base x f p q varies a
  variable_place_of o d (Then e es) line n Base x f p q varies a = absurd a

  array_place_of : (o : Option (Qualified s code m inst site agrees reach)) (d : DeclNo) (line n : ℕ) (es : Expressions) (Base Inner : ℕ → ℕ → Type 0) (x : Term) (terms : Terms) → ObjectIs n Base x → ((p q : ℕ) → Inner p q → TermsAt s code m inst site (suc n) terms p q) → operands es ≡ count terms → (p q : ℕ) → is_constant (entry_of s.tables d) ≡ false → ArrayPlaceOfAt s code line (class_given s code m inst site agrees reach o) d es Base Inner p q → PlacedAt s code m inst site agrees reach o n (attributes.element_at line (attribute_place s line d x) es terms) p q
  array_place_of o d line n NoMore Base Inner x terms f g counts p q varies a = absurd a
  array_place_of o d line n (Then e es) Base Inner x terms f g counts p q varies a = element_of_at o d line n (Then e es) Base Inner x terms f g counts p q varies a

  parameter_place_of : (o : Option (Qualified s code m inst site agrees reach)) (d : DeclNo) (line n : ℕ) (kind : FormalKind) (es : Expressions) (Base Inner : ℕ → ℕ → Type 0) (x : Term) (terms : Terms) → ObjectIs n Base x → ((p q : ℕ) → Inner p q → TermsAt s code m inst site (suc n) terms p q) → operands es ≡ count terms → (p q : ℕ) → is_constant (entry_of s.tables d) ≡ false → ParameterPlaceOfAt s code line (class_given s code m inst site agrees reach o) d kind es Base Inner p q → PlacedAt s code m inst site agrees reach o n (parameter_at line kind (attribute_place s line d x) es terms) p q
  parameter_place_of o d line n shape.Simple es Base Inner x terms f g counts p q varies a = variable_place_of o d es line n Base x f p q varies a
  parameter_place_of o d line n shape.Array es Base Inner x terms f g counts p q varies a = array_place_of o d line n es Base Inner x terms f g counts p q varies a
  parameter_place_of o d line n shape.Procedure es Base Inner x terms f g counts p q varies a = absurd a

  place_of_object_at : (o : Option (Qualified s code m inst site agrees reach)) (d : DeclNo) (line n : ℕ) (e : Option Entry) (es : Expressions) (Base Inner : ℕ → ℕ → Type 0) (x : Term) (terms : Terms) → ObjectIs n Base x → ((p q : ℕ) → Inner p q → TermsAt s code m inst site (suc n) terms p q) → operands es ≡ count terms → (p q : ℕ) → entry_of s.tables d ≡ e → PlaceOfObjectAt s code line (class_given s code m inst site agrees reach o) d e es Base Inner p q → PlacedAt s code m inst site agrees reach o n (entry_at s line d e x es terms) p q
  place_of_object_at o d line n (Some (entry.Variable type)) es Base Inner x terms f g counts p q is a = variable_place_of o d es line n Base x f p q (ap is_constant is) a
  place_of_object_at o d line n (Some (entry.Array element dimensions)) es Base Inner x terms f g counts p q is a = array_place_of o d line n es Base Inner x terms f g counts p q (ap is_constant is) a
  place_of_object_at o d line n (Some (entry.Formal y)) es Base Inner x terms f g counts p q is a = parameter_place_of o d line n y.kind es Base Inner x terms f g counts p q (ap is_constant is) a
  place_of_object_at o d line n (Some (entry.Constant type)) es Base Inner x terms f g counts p q is a = absurd a
  place_of_object_at o d line n (Some (entry.Procedure result k)) es Base Inner x terms f g counts p q is a = absurd a
  place_of_object_at o d line n (Some (entry.Class block)) es Base Inner x terms f g counts p q is a = absurd a
  place_of_object_at o d line n (Some (entry.Virtual result own)) es Base Inner x terms f g counts p q is a = absurd a
  place_of_object_at o d line n (Some (entry.Unspecified written)) es Base Inner x terms f g counts p q is a = absurd a
  place_of_object_at o d line n (Some (entry.Attribute name parameter result)) es Base Inner x terms f g counts p q is a = absurd a
  place_of_object_at o d line n None es Base Inner x terms f g counts p q is a = absurd a

  place_behind_at : (o : Option (Qualified s code m inst site agrees reach)) (u : Option Denotation) (line n : ℕ) (es : Expressions) (Base Inner : ℕ → ℕ → Type 0) (x : Term) (terms : Terms) → ObjectIs n Base x → ((p q : ℕ) → Inner p q → TermsAt s code m inst site (suc n) terms p q) → operands es ≡ count terms → (p q : ℕ) → PlaceBehindAt s code line (class_given s code m inst site agrees reach o) u es Base Inner p q
      → PlacedAt s code m inst site agrees reach o n (if_any (declared_attribute u) (place_of_attribute s line x es terms) NoMeaning) p q
  place_behind_at o (Some (denotation.Declared d)) line n es Base Inner x terms f g counts p q a = place_of_object_at o d line n (entry_of s.tables d) es Base Inner x terms f g counts p q refl a
  place_behind_at o (Some (denotation.Standard name)) line n es Base Inner x terms f g counts p q a = absurd a
  place_behind_at o None line n es Base Inner x terms f g counts p q a = absurd a

  -- an attribute of an object, a text or a stream
  dot_at : (u : Option Denotation) (stream : Option ℕ) (is : Bool) (line n : ℕ) (es : Expressions) (Place Value Operands Inner : ℕ → ℕ → Type 0) (Actuals : Parameters → ℕ → ℕ → Type 0) (x y : Term) (terms : Terms) (actuals : List Formal → Terms) → OnlyImages s code m inst site agrees reach stream → ((p q : ℕ) → Place p q → ReadAt s code m inst site agrees reach n x p q) → ((p q : ℕ) → Value p q → OperandAt s code m inst site n y p q) → FitsWhere s code site n Value → ((p q : ℕ) → Operands p q → TermsAt s code m inst site n terms p q) → ((p q : ℕ) → Inner p q → TermsAt s code m inst site (suc n) terms p q) → operands es ≡ count terms
      → GivenFor s code m inst site agrees reach n line es Actuals actuals → (p q : ℕ) → DotAt s code site n line u stream is es Place Value Operands Inner Actuals p q → NamedIs s code m inst site agrees reach n (code_gives.gives s u) (if_any (declared_attribute u) (attribute s inst line y es terms (λ d. actuals (formals_at s d))) (dot_term u stream is line x y terms)) p q
  dot_at (Some (denotation.Standard name)) stream is line n es Place Value Operands Inner Actuals x y terms actuals known f g fits h0 h counts ha p q a = behind_dot_at s code m inst site agrees reach stream (procedure_named name) is line n es Place Value Operands Inner x y terms known f g h0 h counts p q a
  dot_at (Some (denotation.Declared d)) stream is line n es Place Value Operands Inner Actuals x y terms actuals known f g fits h0 h counts ha p q a = declared_object_at d line n es Value Inner (Actuals (parameters_at s d)) y terms actuals g fits h counts (ha (parameters_at s d)) p q a
  dot_at None stream is line n es Place Value Operands Inner Actuals x y terms actuals known f g fits h0 h counts ha p q a = absurd a

  -- ---- connections

  -- a connection stands in the frames of the text around
  frame_stands : {j t : ℕ} → Stands s m j t → Stands s m j (frame_text s t)
  frame_stands {j} {t} (outermost {x = x} is levels level rooted around) = outermost is (subst (LevelOf s.tables x.text) (sym (frame_idem s agrees t)) levels) (level ∙ sym (frame_level s agrees t)) rooted (ap (encloser s.tables) (frame_idem s agrees t) ∙ around)
  frame_stands {j} {t} (inside {x = x} is levels level out around before stands) = inside is (subst (LevelOf s.tables x.text) (sym (frame_idem s agrees t)) levels) (level ∙ sym (frame_level s agrees t)) out (ap (encloser s.tables) (frame_idem s agrees t) ∙ around) before stands

  connected_at : (t n p q : ℕ) → ConnectedAt s code site n t p q → OperandAt s code m inst site n (connected_object s m inst t) p q
  connected_at t n p q a =
      let r = reach t a.inside in
      let same = frame_level s agrees t in
      let key = cell_of_connection s t in
      subst (λ z. OperandAt s code m inst site n (if_any z (λ j. Cell j key) NoMeaning) p q) (sym r.2) (
        record {
          text = frame_text s t;
          load = subst (λ l. Pushes code site n (i.Load (pos l) (pos (slot_of s code (frame_text s t) key))) p q) (sym same) a.load;
          reaches = record { found = ap (λ l. seen_at m l inst) same ∙ (r.1).found; stands = frame_stands (r.1).stands };
          own = frame_idem s agrees t;
          has = a.within;
          varies = refl;
        },
        refl,
      )

  connected_name_at : (t : ℕ) (u : Option Denotation) (line n : ℕ) (es : Expressions) (Inner : ℕ → ℕ → Type 0) (Actuals : Parameters → ℕ → ℕ → Type 0) (terms : Terms) (actuals : List Formal → Terms) → ((p q : ℕ) → Inner p q → TermsAt s code m inst site (suc n) terms p q) → operands es ≡ count terms → GivenFor s code m inst site agrees reach n line es Actuals actuals
      → (p q : ℕ) → ConnectedNameAt s code site n line t u es Inner Actuals p q → NamedIs s code m inst site agrees reach n (code_gives.gives s u) (if_any (declared_attribute u) (attribute s inst line (connected_object s m inst t) es terms (λ d. actuals (formals_at s d))) NoMeaning) p q
  connected_name_at t (Some (denotation.Declared d)) line n es Inner Actuals terms actuals g counts ha p q a =
      declared_object_at d line n es (ConnectedAt s code site n t) Inner (Actuals (parameters_at s d)) (connected_object s m inst t) terms actuals (λ p q. connected_at t n p q) (λ p q. connected_fits s code site t n p q) g counts (ha (parameters_at s d)) p q a
  connected_name_at t (Some (denotation.Standard name)) line n es Inner Actuals terms actuals g counts ha p q a = absurd a
  connected_name_at t None line n es Inner Actuals terms actuals g counts ha p q a = absurd a

  -- what is seen through a connection, or else is seen without one
  through_at : (c : Option ℕ) (u : Option Denotation) (line n : ℕ) (es : Expressions) (Inner Direct : ℕ → ℕ → Type 0) (Actuals : Parameters → ℕ → ℕ → Type 0) (terms : Terms) (actuals : List Formal → Terms) (other : Term) → ((p q : ℕ) → Inner p q → TermsAt s code m inst site (suc n) terms p q) → operands es ≡ count terms
      → GivenFor s code m inst site agrees reach n line es Actuals actuals → ((p q : ℕ) → Direct p q → NamedIs s code m inst site agrees reach n (code_gives.gives s u) other p q)
      → (p q : ℕ) → ThroughAt c (λ t. ConnectedNameAt s code site n line t u es Inner Actuals) Direct p q → NamedIs s code m inst site agrees reach n (code_gives.gives s u) (if_any c (λ t. if_any (declared_attribute u) (attribute s inst line (connected_object s m inst t) es terms (λ d. actuals (formals_at s d))) NoMeaning) other) p q
  through_at None u line n es Inner Direct Actuals terms actuals other f counts g h p q a = h p q a
  through_at (Some t) u line n es Inner Direct Actuals terms actuals other f counts g h p q a = connected_name_at t u line n es Inner Actuals terms actuals f counts g p q a

  place_through : (c : Option ℕ) (o : Option (Qualified s code m inst site agrees reach)) (u : Option Denotation) (line n : ℕ) (es : Expressions) (Inner : ℕ → ℕ → Type 0) (terms : Terms) → ((p q : ℕ) → Inner p q → TermsAt s code m inst site (suc n) terms p q) → operands es ≡ count terms → (p q : ℕ) → ThroughAt c (λ t. PlaceBehindAt s code line (class_given s code m inst site agrees reach o) u es (ConnectedAt s code site n t) Inner) (NamedPlaceAt s code site n line (class_given s code m inst site agrees reach o) u es Inner) p q
      → PlacedAt s code m inst site agrees reach o n (if_any c (λ t. if_any (declared_attribute u) (place_of_attribute s line (connected_object s m inst t) es terms) NoMeaning) (named_place s m inst line u es terms)) p q
  place_through None o u line n es Inner terms f counts p q a = named_place_at s code m inst site agrees reach o u line n es Inner terms f counts p q a
  place_through (Some t) o u line n es Inner terms f counts p q a = place_behind_at o u line n es (ConnectedAt s code site n t) Inner (connected_object s m inst t) terms (λ p q. connected_at t n p q) f counts p q a

  -- ---- classes

  this_by : (t n p q : ℕ) (c : Bool) → ThisOfAt s code site n t c p q → OperandAt s code m inst site n (if_any (if c then Some t else None) (λ c. connected_object s m inst c) (this_instance (at_level m (level_of s t) inst))) p q
  this_by t n p q true a = connected_at t n p q a
  this_by t n p q false a =
      let r = reach t a.inside in
      subst (λ z. OperandAt s code m inst site n (this_instance z) p q) (sym r.2) (record { text = t; push = a.push; reaches = r.1 }, refl)

  pub this_at : (found : Option ℕ) (n p q : ℕ) → ThisFoundAt s code site n found p q → OperandAt s code m inst site n (this_term s m inst found) p q
  this_at None n p q a = absurd a
  this_at (Some t) n p q a = this_by t n p q (is_connection (text s t)) a

  -- an attribute that is seen without a dot: a procedure of the simulation block around, or one that the object around has
  own_at : (own : Option DeclNo) (u : Option Denotation) (found : Option ℕ) (line n : ℕ) (es : Expressions) (Operands Inner : ℕ → ℕ → Type 0) (Actuals : Parameters → ℕ → ℕ → Type 0) (terms : Terms) (actuals : List Formal → Terms) → ((d : DeclNo) → own ≡ Some d → u ≡ Some (denotation.Declared d))
      → ((p q : ℕ) → Operands p q → TermsAt s code m inst site n terms p q) → ((p q : ℕ) → Inner p q → TermsAt s code m inst site (suc n) terms p q) → operands es ≡ count terms → GivenFor s code m inst site agrees reach n line es Actuals actuals
      → (p q : ℕ) → OwnAt own (λ d. OwnNameAt s code site n line found (entry_of s.tables d) es (Actuals (Listed (formals_at s d))) (OfObjectAt s code site n line d (entry_of s.tables d) es (ThisFoundAt s code site n found) Inner (Actuals (parameters_at s d)))) (NamedAt s code site n line u es Operands Inner Actuals) p q
      → NamedIs s code m inst site agrees reach n (code_gives.gives s u) (if_any own (λ d. own_term s (entry_of s.tables d) (block_found s m inst found) (actuals (formals_at s d)) line (attribute s inst line (this_term s m inst found) es terms (λ d. actuals (formals_at s d)) d)) (named_term s m inst line u es terms actuals)) p q
  own_at None u found line n es Operands Inner Actuals terms actuals is f0 f counts g p q a = named_at s code m inst site agrees reach u line n es Operands Inner Actuals terms actuals f0 f counts g p q a
  own_at (Some d) u found line n es Operands Inner Actuals terms actuals is f0 f counts g p q a =
      let fs = formals_at s d in
      subst (λ z. NamedIs s code m inst site agrees reach n (code_gives.gives s z) (own_term s (entry_of s.tables d) (block_found s m inst found) (actuals fs) line (attribute s inst line (this_term s m inst found) es terms (λ d. actuals (formals_at s d)) d)) p q) (sym (is d refl))
      (own_name_at s code m inst site reach line n es (Actuals (Listed fs)) (actuals fs) (λ p q b. let r = g (Listed fs) p q b in (r.0, r.1)) found (entry_of s.tables d)
      (OfObjectAt s code site n line d (entry_of s.tables d) es (ThisFoundAt s code site n found) Inner (Actuals (parameters_at s d))) (attribute s inst line (this_term s m inst found) es terms (λ d. actuals (formals_at s d)) d)
      (λ p q b. declared_object_at d line n es (ThisFoundAt s code site n found) Inner (Actuals (parameters_at s d)) (this_term s m inst found) terms actuals (λ p q. this_at found n p q) (λ p q. this_fits s code site found n p q) f counts (g (parameters_at s d)) p q b) p q a)

  member_at : (member : Membership) (u : Option Denotation) (class : Option ℕ) → class_denoted s u ≡ class → (A : ℕ → ℕ → Type 0) (n : ℕ) (x : Term) → ObjectIs n A x → (p q : ℕ) → MemberAt s code member class A p q → OperandAt s code m inst site n (membership_term member class x) p q
  member_at member u None e A n x f p q a = absurd a
  member_at member u (Some k) e A n x f p q a = ((a.0, f p a.0 a.1, (denoted_classed s u k e, a.2)), refl)

  qua_at : (line : ℕ) (u : Option Denotation) (class : Option ℕ) → class_denoted s u ≡ class → (A : ℕ → ℕ → Type 0) (n : ℕ) (x : Term) → ObjectIs n A x → (p q : ℕ) → QuaAt s code line class A p q → OperandAt s code m inst site n (qua_term class line x) p q
  qua_at line u None e A n x f p q a = absurd a
  qua_at line u (Some k) e A n x f p q a = ((a.0, f p a.0 a.1, (denoted_classed s u k e, a.2)), refl)

  new_at : (d : DeclNo) (t line n : ℕ) (es : Expressions) (Actuals : ℕ → ℕ → Type 0) (terms : Terms) → class_denoted s (Some (denotation.Declared d)) ≡ Some t → ((p q : ℕ) → Actuals p q → TermsAt s code m inst site (suc n) terms p q × (operands es ≡ count terms)) → (p q : ℕ) → (a : NewAt s code site n line d t es Actuals p q)
      → OperandAt s code m inst site n (NewOf (reach (block_of s d) a.inside).0 t terms line) p q
  new_at d t line n es Actuals terms e h p q a =
      let r = reach (block_of s d) a.inside in
      let class = class_found s (class_block s.tables d) t e in
      let inner = h a.x a.y a.actuals in (
        record {
          text = block_of s d;
          x = a.x;
          y = a.y;
          link = a.link;
          reaches = r.1;
          actuals = inner.0;
          new = subst (λ c. At code (i.New (pos (class_number s code t)) (pos c)) line a.y q) inner.1 a.new;
          stands_in = agrees.classes d t (declared_class s d t class.0);
          class = class.1;
        },
        refl,
      )

  home_reached : (d : DeclNo) (r : Finds s m inst (block_of s d)) → home_of s m inst d ≡ Some r.0
  unfolding home_of
  home_reached d r = r.2

  generation_at : (u : Option Denotation) (class : Option ℕ) (line token n : ℕ) (es : Expressions) (Actuals : ℕ → ℕ → Type 0) (terms : Terms) → class_denoted s u ≡ class → ((p q : ℕ) → Actuals p q → TermsAt s code m inst site (suc n) terms p q × (operands es ≡ count terms)) → (p q : ℕ) → GenerationAt s code site n line token u class es Actuals p q
      → OperandAt s code m inst site n (generation s token (home_of_class s m inst u) class terms line) p q
  generation_at None class line token n es Actuals terms e h p q a = absurd a
  generation_at (Some (denotation.Standard name)) class line token n es Actuals terms e h p q a = absurd a
  generation_at (Some (denotation.Declared d)) None line token n es Actuals terms e h p q a = absurd a
  generation_at (Some (denotation.Declared d)) (Some t) line token n es Actuals terms e h p q a = by (is_process_itself s t) refl a
    where
      made : (c : Bool) (r : Finds s m inst (block_of s d)) → is_process_itself s t ≡ c → OperandAt s code m inst site n (origin_if c t token line (NewOf r.0 t terms line)) p q → OperandAt s code m inst site n (generation s token (home_of s m inst d) (Some t) terms line) p q
      made c r f b =
          subst (λ z. OperandAt s code m inst site n (generation s token z (Some t) terms line) p q) (sym (home_reached d r))
          (subst (λ z. OperandAt s code m inst site n (origin_if z t token line (NewOf r.0 t terms line)) p q) (sym f) b)

      by : (c : Bool) → is_process_itself s t ≡ c → OriginIfAt s code site n line token t c (NewAt s code site n line d t es Actuals) p q → OperandAt s code m inst site n (generation s token (home_of s m inst d) (Some t) terms line) p q
      by false f b = made false (reach (block_of s d) b.inside) f (new_at d t line n es Actuals terms e h p q b)
      by true f b =
          let new = b.new in
          made true (reach (block_of s d) new.inside) f (
            (
              b.x,
              new_at d t line n es Actuals terms e h p b.x new,
              record { x = b.y; y = b.z; z = b.w; again = b.again; address = b.address; pushed = b.token_pushed; put = b.put; own = own_frame s agrees t Origin b.within refl; has = b.within },
            ),
            refl,
          )

  -- ---- actual parameters

  abbrev pub kept_all : Bool → List Formal → Terms → Terms
  kept_all true fs ts = with_arrays_kept fs ts
  kept_all false fs ts = ts

  count_kept : (fs : List Formal) (ts : Terms) → count (with_arrays_kept fs ts) ≡ count ts
  count_kept [] ts = refl
  count_kept (f ∷ fs) NoTerm = refl
  count_kept (f ∷ fs) (Further x ts) = ap suc (count_kept fs ts)

  pub count_close : (es : Expressions) → operands es ≡ count (close_all s m inst es)
  count_close NoMore = refl
  count_close (Then e es) = ap suc (count_close es)

  count_actuals : (line n : ℕ) (keeps : Bool) (es : Expressions) (fs : List Formal) (p q : ℕ) → PassedAt s code site n line keeps es fs p q → operands es ≡ count (close_actuals s m inst line es fs)
  count_actuals line n keeps NoMore [] p q a = refl
  count_actuals line n keeps NoMore (f ∷ fs) p q a = absurd a
  count_actuals line n keeps (Then e es) [] p q a = absurd a
  count_actuals line n keeps (Then e es) (f ∷ fs) p q a = ap suc (count_actuals line (suc n) keeps es fs a.0 q a.2)

  -- of a call that is no generation
  given_actuals : (line n : ℕ) (es : Expressions) → ((fs : List Formal) (n p q : ℕ) → PassedAt s code site n line false es fs p q → TermsAt s code m inst site n (close_actuals s m inst line es fs) p q) → GivenFor s code m inst site agrees reach n line es (λ fs. ActualsAt s code site (suc n) line false es fs) (λ fs. close_actuals s m inst line es fs)
  given_actuals line n es g (Listed fs) p q b = (g fs (suc n) p q b, count_actuals line (suc n) false es fs p q b, actuals_counted s code site line (suc n) false es fs p q b)
  given_actuals line n es g Checked p q b = (b.0, b.1, passes_given s code m inst site es (suc n) 0 line b.0 q b.2)

  -- ---- calls that are no transfers of control

  -- what is seen without a dot and without a connection
  abbrev pub direct_tree : Identifier → Expressions → Term
  direct_tree name es =
      if_any (own_attribute s name.token.0)
      (λ d. own_term s (entry_of s.tables d) (block_found s m inst (found_at s name.token.0)) (close_actuals s m inst (line_at s name.token.0) es (formals_at s d)) (line_at s name.token.0)
      (attribute s inst (line_at s name.token.0) (this_term s m inst (found_at s name.token.0)) es (close_all s m inst es) (λ d. close_actuals s m inst (line_at s name.token.0) es (formals_at s d)) d))
      (named_term s m inst (line_at s name.token.0) (denoted s name.token.0) es (close_all s m inst es) (λ fs. close_actuals s m inst (line_at s name.token.0) es fs))

  abbrev pub named_tree : Identifier → Expressions → Term
  named_tree name es =
      if_any (connection_at s name.token.0)
      (λ k. if_any (declared_attribute (denoted s name.token.0)) (attribute s inst (line_at s name.token.0) (connected_object s m inst k) es (close_all s m inst es) (λ d. close_actuals s m inst (line_at s name.token.0) es (formals_at s d))) NoMeaning) (direct_tree name es)

  abbrev pub dot_tree : Expression → Identifier → Expressions → Term
  dot_tree x name es =
      if_any (declared_attribute (denoted s name.token.0)) (attribute s inst (line_at s name.token.0) (close s m inst x) es (close_all s m inst es) (λ d. close_actuals s m inst (line_at s name.token.0) es (formals_at s d)))
      (dot_term (denoted s name.token.0) (stream_of s x) (is_variable s x || is_attribute s x) (line_at s name.token.0) (close_place s m inst x) (close s m inst x) (close_all s m inst es))

  abbrev pub DirectCallAt : Identifier → Expressions → (n p q : ℕ) → Type 0
  DirectCallAt name es n p q =
      OwnAt (own_attribute s name.token.0)
      (λ d. OwnNameAt s code site n (line_at s name.token.0) (found_at s name.token.0) (entry_of s.tables d) es (ActualsAt s code site (suc n) (line_at s name.token.0) false es (Listed (formals_at s d)))
      (OfObjectAt s code site n (line_at s name.token.0) d (entry_of s.tables d) es (ThisFoundAt s code site n (found_at s name.token.0)) (ExprsAt s code site (suc n) es) (ActualsAt s code site (suc n) (line_at s name.token.0) false es (parameters_at s d))))
      (NamedAt s code site n (line_at s name.token.0) (denoted s name.token.0) es (ExprsAt s code site n es) (ExprsAt s code site (suc n) es) (λ fs. ActualsAt s code site (suc n) (line_at s name.token.0) false es fs)) p q

  abbrev pub NamedCallAt : Identifier → Expressions → (n p q : ℕ) → Type 0
  NamedCallAt name es n p q =
      ThroughAt (connection_at s name.token.0) (λ t. ConnectedNameAt s code site n (line_at s name.token.0) t (denoted s name.token.0) es (ExprsAt s code site (suc n) es) (λ fs. ActualsAt s code site (suc n) (line_at s name.token.0) false es fs)) (DirectCallAt name es n) p q

  abbrev pub DotCallAt : Expression → Identifier → Expressions → (n p q : ℕ) → Type 0
  DotCallAt x name es n p q =
      DotAt s code site n (line_at s name.token.0) (denoted s name.token.0) (stream_of s x) (is_variable s x || is_attribute s x) es (PlaceAt s code site n 0 x) (ExprAt s code site n x) (ExprsAt s code site n es) (ExprsAt s code site (suc n) es) (λ fs. ActualsAt s code site (suc n) (line_at s name.token.0) false es fs) p q

  pub named_call : (name : Identifier) (es : Expressions) → ((n p q : ℕ) → ExprsAt s code site n es p q → TermsAt s code m inst site n (close_all s m inst es) p q) → ((fs : List Formal) (n p q : ℕ) → PassedAt s code site n (line_at s name.token.0) false es fs p q → TermsAt s code m inst site n (close_actuals s m inst (line_at s name.token.0) es fs) p q)
      → (n p q : ℕ) → NamedCallAt name es n p q → NamedIs s code m inst site agrees reach n (code_gives.gives s (denoted s name.token.0)) (named_tree name es) p q
  named_call name es f g n p q a =
      let line = line_at s name.token.0 in
      let Actuals : Parameters → ℕ → ℕ → Type 0 = λ fs. ActualsAt s code site (suc n) line false es fs in
      let actuals : List Formal → Terms = λ fs. close_actuals s m inst line es fs in
      through_at (connection_at s name.token.0) (denoted s name.token.0) line n es (ExprsAt s code site (suc n) es) (DirectCallAt name es n) Actuals (close_all s m inst es) actuals (direct_tree name es) (λ p q. f (suc n) p q) (count_close es) (given_actuals line n es g)
      (λ p q b. own_at (own_attribute s name.token.0) (denoted s name.token.0) (found_at s name.token.0) line n es (ExprsAt s code site n es) (ExprsAt s code site (suc n) es) Actuals (close_all s m inst es) actuals (own_denoted s name.token.0) (λ p q. f n p q) (λ p q. f (suc n) p q) (count_close es) (given_actuals line n es g) p q b) p q a

  pub dot_call : (x : Expression) (name : Identifier) (es : Expressions) (n : ℕ) → ((p q : ℕ) → PlaceAt s code site n 0 x p q → ReadAt s code m inst site agrees reach n (close_place s m inst x) p q) → ((p q : ℕ) → ExprAt s code site n x p q → OperandAt s code m inst site n (close s m inst x) p q) → ((n p q : ℕ) → ExprsAt s code site n es p q → TermsAt s code m inst site n (close_all s m inst es) p q)
      → ((fs : List Formal) (n p q : ℕ) → PassedAt s code site n (line_at s name.token.0) false es fs p q → TermsAt s code m inst site n (close_actuals s m inst (line_at s name.token.0) es fs) p q) → (p q : ℕ) → DotCallAt x name es n p q → NamedIs s code m inst site agrees reach n (code_gives.gives s (denoted s name.token.0)) (dot_tree x name es) p q
  dot_call x name es n place object f g p q a =
      dot_at (denoted s name.token.0) (stream_of s x) (is_variable s x || is_attribute s x) (line_at s name.token.0) n es (PlaceAt s code site n 0 x) (ExprAt s code site n x) (ExprsAt s code site n es) (ExprsAt s code site (suc n) es) (λ fs. ActualsAt s code site (suc n) (line_at s name.token.0) false es fs)
      (close_place s m inst x) (close s m inst x) (close_all s m inst es) (λ fs. close_actuals s m inst (line_at s name.token.0) es fs)
      (stream_is s code m inst site agrees reach x) place object (λ p q. expression_fits s code site x n p q) (λ p q. f n p q) (λ p q. f (suc n) p q) (count_close es)
      (given_actuals (line_at s name.token.0) n es g) p q a

  -- ---- procedures as values

  procedure_is : (d : DeclNo) (result : Option SimType) (k : ℕ) → entry_of s.tables d ≡ Some (entry.Procedure result k) → ProcedureIs s code k (block_of s d)
  procedure_is d result k is = let y = agrees.procedures d result k is in record { result = y.given; heading = y.heading; body = y.body; is = y.is; stands_in = y.around }

  procedure_of_object : (d : DeclNo) (line n : ℕ) (o : Option Entry) (Base : ℕ → ℕ → Type 0) (x : Term) → ObjectIs n Base x → (p q : ℕ) → entry_of s.tables d ≡ o → ProcedureOfObjectAt s code line d o Base p q → OperandAt s code m inst site n (entry_procedure line d o x) p q
  procedure_of_object d line n (Some (entry.Procedure result k)) Base x f p q is a = (record { text = block_of s d; x = a.x; y = a.y; object = f p a.x a.object; there = a.there; value = a.value; procedure = procedure_is d result k is }, refl)
  procedure_of_object d line n (Some (entry.Virtual result own)) Base x f p q is a = match_at s code m inst site agrees reach d line n result own Base x f p q is a
  procedure_of_object d line n (Some (entry.Variable type)) Base x f p q is a = absurd a
  procedure_of_object d line n (Some (entry.Constant type)) Base x f p q is a = absurd a
  procedure_of_object d line n (Some (entry.Array element dimensions)) Base x f p q is a = absurd a
  procedure_of_object d line n (Some (entry.Formal y)) Base x f p q is a = absurd a
  procedure_of_object d line n (Some (entry.Class block)) Base x f p q is a = absurd a
  procedure_of_object d line n (Some (entry.Unspecified written)) Base x f p q is a = absurd a
  procedure_of_object d line n (Some (entry.Attribute name parameter result)) Base x f p q is a = absurd a
  procedure_of_object d line n None Base x f p q is a = absurd a

  procedure_behind : (u : Option Denotation) (line n : ℕ) (Base : ℕ → ℕ → Type 0) (x : Term) → ObjectIs n Base x → (p q : ℕ) → ProcedureBehindAt s code line u Base p q → OperandAt s code m inst site n (if_any (declared_attribute u) (attribute_procedure s line x) NoMeaning) p q
  procedure_behind (Some (denotation.Declared d)) line n Base x f p q a = procedure_of_object d line n (entry_of s.tables d) Base x f p q refl a
  procedure_behind (Some (denotation.Standard name)) line n Base x f p q a = absurd a
  procedure_behind None line n Base x f p q a = absurd a

  formal_handed : (d : DeclNo) (line n : ℕ) (by : Mode) (kind : FormalKind) (p q : ℕ) → is_constant (entry_of s.tables d) ≡ false → FormalValueAt s code site n line d by kind p q → OperandAt s code m inst site n (formal_procedure s m inst line d by kind) p q
  formal_handed d line n by shape.Procedure p q varies a =
      let y = formal_found s code m inst site agrees reach d line n by p q varies a in
      subst (λ z. OperandAt s code m inst site n (in_instance z (λ j. formal_value line d by j)) p q) (sym y.is) y.value
  formal_handed d line n by shape.Simple p q varies a = absurd a
  formal_handed d line n by shape.Array p q varies a = absurd a

  procedure_declared : (d : DeclNo) (line n : ℕ) (result : Option SimType) (k p q : ℕ) → entry_of s.tables d ≡ Some (entry.Procedure result k) → DeclaredProcedureAt s code site n d k p q → OperandAt s code m inst site n (in_instance (home_of s m inst d) (λ j. ProcedureOf j k)) p q
  unfolding home_of
  procedure_declared d line n result k p q is a =
      let r = reach (block_of s d) a.inside in
      subst (λ z. OperandAt s code m inst site n (in_instance z (λ j. ProcedureOf j k)) p q) (sym r.2) (record { text = block_of s d; x = a.x; link = a.link; reaches = r.1; value = a.value; procedure = procedure_is d result k is }, refl)

  procedure_entry : (d : DeclNo) (line n : ℕ) (o : Option Entry) (p q : ℕ) → entry_of s.tables d ≡ o → ProcedureEntryAt s code site n line d o p q → OperandAt s code m inst site n (declared_procedure s m inst line d o) p q
  procedure_entry d line n (Some (entry.Procedure result k)) p q is a = procedure_declared d line n result k p q is a
  procedure_entry d line n (Some (entry.Virtual result own)) p q is a = match_around s code m inst site agrees reach d line n result own (λ z. OperandAt s code m inst site n z p q) (λ j. MatchOf (Given (Object j)) d.0 line) p q is a (λ j b. b)
  procedure_entry d line n (Some (entry.Formal y)) p q is a = formal_handed d line n y.mode y.kind p q (ap is_constant is) a
  procedure_entry d line n (Some (entry.Variable type)) p q is a = absurd a
  procedure_entry d line n (Some (entry.Constant type)) p q is a = absurd a
  procedure_entry d line n (Some (entry.Array element dimensions)) p q is a = absurd a
  procedure_entry d line n (Some (entry.Class block)) p q is a = absurd a
  procedure_entry d line n (Some (entry.Unspecified written)) p q is a = absurd a
  procedure_entry d line n (Some (entry.Attribute name parameter result)) p q is a = absurd a
  procedure_entry d line n None p q is a = absurd a

  procedure_named_at : (u : Option Denotation) (line n p q : ℕ) → ProcedureNamedAt s code site n line u p q → OperandAt s code m inst site n (procedure_denoted s m inst line u) p q
  procedure_named_at (Some (denotation.Declared d)) line n p q a = procedure_entry d line n (entry_of s.tables d) p q refl a
  procedure_named_at (Some (denotation.Standard name)) line n p q a = absurd a
  procedure_named_at None line n p q a = absurd a

  procedure_through : (c : Option ℕ) (u : Option Denotation) (line n p q : ℕ) → ThroughAt c (λ k. ProcedureBehindAt s code line u (ConnectedAt s code site n k)) (ProcedureNamedAt s code site n line u) p q
      → OperandAt s code m inst site n (if_any c (λ k. if_any (declared_attribute u) (attribute_procedure s line (connected_object s m inst k)) NoMeaning) (procedure_denoted s m inst line u)) p q
  procedure_through None u line n p q a = procedure_named_at u line n p q a
  procedure_through (Some k) u line n p q a = procedure_behind u line n (ConnectedAt s code site n k) (connected_object s m inst k) (λ p q. connected_at k n p q) p q a

  -- an expression gives a value, so that it is no transfer
  no_transfer_at : (token : ℕ) (f : Transfer → Term) (x : Term) (n p q : ℕ) → code_gives.gives s (denoted s token) ≡ true → OperandAt s code m inst site n x p q → OperandAt s code m inst site n (if_any (transfer_at s token) f x) p q
  no_transfer_at token f x n p q e a = subst (λ z. OperandAt s code m inst site n (if_any z f x) p q) (sym (no_transfer s token e)) a

  -- ---- expressions

  mutual
    pub close_at : (e : Expression) (n p q : ℕ) → ExprAt s code site n e p q → OperandAt s code m inst site n (close s m inst e) p q
    close_at (syntax.If token c x y) n p q a =
        (record { y = a.y; z = a.z; w = a.w; x = a.x; test = close_at c n p a.y a.test; jump = a.jump; leads = a.leads; first = close_at x n a.z a.w a.first; over = a.over; past = a.past; second = close_at y n a.x q a.second }, refl)
    close_at (syntax.Binary op token x y) n p q a =
        two_at s code m inst site agrees reach (sort_of (is_text s x) op) (line_at s token) n (ExprAt s code site n x) (ExprAt s code site n y) (ExprAt s code site (suc n) y) (close s m inst x) (close s m inst y) p q (λ p q. close_at x n p q) (λ p q. close_at y n p q) (λ p q. close_at y (suc n) p q) a
    close_at (syntax.Not token x) n p q a = ((a.0, close_at x n p a.0 a.1, a.2), refl)
    close_at (syntax.Signed k token x) n p q a = signed_at s code m inst site agrees reach k (line_at s token) n (ExprAt s code site n x) (close s m inst x) p q (λ p q. close_at x n p q) a
    close_at (syntax.Member member token x class) n p q a = member_at member (denoted s class.token.0) (class_at s class.token.0) (class_is s class.token.0) (ExprAt s code site n x) n (close s m inst x) (λ p q. close_at x n p q) p q a
    close_at (syntax.Dot token x name es) n p q a =
        let y = dot_call x name es n (λ p q. place_at None x n p q) (λ p q. close_at x n p q) (λ n p q. close_all_at es n p q) (λ fs n p q. close_actuals_at false (line_at s name.token.0) es fs n p q) p q a.1 in
        no_transfer_at name.token.0 (λ way. detach_term (line_at s name.token.0) (close s m inst x)) (dot_tree x name es) n p q a.0 (y.0, y.1 ∙ a.0)
    close_at (syntax.Qua token x class) n p q a = qua_at (line_at s token) (denoted s class.token.0) (class_at s class.token.0) (class_is s class.token.0) (ExprAt s code site n x) n (close s m inst x) (λ p q. close_at x n p q) p q a
    close_at (syntax.Constant x token) n p q a = literal_at s code m inst site agrees reach token x n p q a
    close_at (syntax.Named name es) n p q a =
        let x = named_call name es (λ n p q. close_all_at es n p q) (λ fs n p q. close_actuals_at false (line_at s name.token.0) es fs n p q) n p q a.1 in
        no_transfer_at name.token.0 (λ way. transfer_term way (line_at s name.token.0) (this_term s m inst (found_at s name.token.0)) (close_all s m inst es)) (named_tree name es) n p q a.0 (x.0, x.1 ∙ a.0)
    close_at (syntax.This token class) n p q a = this_at (found_at s token) n p q a
    close_at (syntax.New token class es) n p q a =
        let fs = class_parameters s (class_at s class.token.0) in
        generation_at (denoted s class.token.0) (class_at s class.token.0) (line_at s token) class.token.0 n es (ActualsAt s code site (suc n) (line_at s class.token.0) true es (Listed fs)) (with_arrays_kept fs (close_actuals s m inst (line_at s class.token.0) es fs)) (class_is s class.token.0)
        (λ p q b. (close_actuals_at true (line_at s class.token.0) es fs (suc n) p q b, count_actuals (line_at s class.token.0) (suc n) true es fs p q b ∙ sym (count_kept fs (close_actuals s m inst (line_at s class.token.0) es fs)))) p q a
    close_at (syntax.Parentheses token x) n p q a = close_at x n p q a

    -- where a variable lies, with the class of a reference there
    pub place_at : (o : Option (Qualified s code m inst site agrees reach)) (e : Expression) (n p q : ℕ) → PlaceAt s code site n (class_given s code m inst site agrees reach o) e p q → PlacedAt s code m inst site agrees reach o n (close_place s m inst e) p q
    place_at o (syntax.Named name es) n p q a =
        place_through (connection_at s name.token.0) o (denoted s name.token.0) (line_at s name.token.0) n es (ExprsAt s code site (suc n) es) (close_all s m inst es) (λ p q. close_all_at es (suc n) p q) (count_close es) p q a
    place_at o (syntax.Dot token x name es) n p q a =
        image_place_at s code m inst site agrees reach o (stream_of s x) (PlaceBehindAt s code (line_at s name.token.0) (class_given s code m inst site agrees reach o) (denoted s name.token.0) es (ExprAt s code site n x) (ExprsAt s code site (suc n) es)) (if_any (declared_attribute (denoted s name.token.0)) (place_of_attribute s (line_at s name.token.0) (close s m inst x) es (close_all s m inst es)) NoMeaning) n p q (stream_is s code m inst site agrees reach x)
        (λ p q b. place_behind_at o (denoted s name.token.0) (line_at s name.token.0) n es (ExprAt s code site n x) (ExprsAt s code site (suc n) es) (close s m inst x) (close_all s m inst es) (λ p q. close_at x n p q) (λ p q. close_all_at es (suc n) p q) (count_close es) p q b) a
    place_at o (syntax.If token c x y) n p q a = absurd a
    place_at o (syntax.Binary op token x y) n p q a = absurd a
    place_at o (syntax.Not token x) n p q a = absurd a
    place_at o (syntax.Signed k token x) n p q a = absurd a
    place_at o (syntax.Member member token x class) n p q a = absurd a
    place_at o (syntax.Qua token x class) n p q a = absurd a
    place_at o (syntax.Constant x token) n p q a = absurd a
    place_at o (syntax.This token class) n p q a = absurd a
    place_at o (syntax.New token class es) n p q a = absurd a
    place_at o (syntax.Parentheses token x) n p q a = absurd a

    pub close_all_at : (es : Expressions) (n p q : ℕ) → ExprsAt s code site n es p q → TermsAt s code m inst site n (close_all s m inst es) p q
    close_all_at NoMore n p q a = a
    close_all_at (Then e es) n p q a = (a.0, close_at e n p a.0 a.1, close_all_at es (suc n) a.0 q a.2)

    -- a procedure that stands alone
    pub close_procedure_at : (e : Expression) (n p q : ℕ) → ProcedureAt s code site n e p q → OperandAt s code m inst site n (close_procedure s m inst e) p q
    close_procedure_at (syntax.Named name NoMore) n p q a = procedure_through (connection_at s name.token.0) (denoted s name.token.0) (line_at s name.token.0) n p q a
    close_procedure_at (syntax.Named name (Then e es)) n p q a = absurd a
    close_procedure_at (syntax.Dot token x name NoMore) n p q a = procedure_behind (denoted s name.token.0) (line_at s name.token.0) n (ExprAt s code site n x) (close s m inst x) (λ p q. close_at x n p q) p q a
    close_procedure_at (syntax.Dot token x name (Then e es)) n p q a = absurd a
    close_procedure_at (syntax.If token c x y) n p q a = absurd a
    close_procedure_at (syntax.Binary op token x y) n p q a = absurd a
    close_procedure_at (syntax.Not token x) n p q a = absurd a
    close_procedure_at (syntax.Signed k token x) n p q a = absurd a
    close_procedure_at (syntax.Member member token x class) n p q a = absurd a
    close_procedure_at (syntax.Qua token x class) n p q a = absurd a
    close_procedure_at (syntax.Constant x token) n p q a = absurd a
    close_procedure_at (syntax.This token class) n p q a = absurd a
    close_procedure_at (syntax.New token class es) n p q a = absurd a
    close_procedure_at (syntax.Parentheses token x) n p q a = absurd a

    pub close_actuals_at : (keeps : Bool) (line : ℕ) (es : Expressions) (fs : List Formal) (n p q : ℕ) → PassedAt s code site n line keeps es fs p q → TermsAt s code m inst site n (kept_all keeps fs (close_actuals s m inst line es fs)) p q
    close_actuals_at true line NoMore [] n p q a = a
    close_actuals_at false line NoMore [] n p q a = a
    close_actuals_at keeps line NoMore (f ∷ fs) n p q a = absurd a
    close_actuals_at keeps line (Then e es) [] n p q a = absurd a
    close_actuals_at true line (Then e es) (f ∷ fs) n p q a =
        (a.0, given_for s code m inst site e (close s m inst e) (close_procedure s m inst e) true f line n (ExprAt s code site n e) (ProcedureAt s code site n e) (λ p q. close_at e n p q) (λ p q. close_procedure_at e n p q) p a.0 a.1, close_actuals_at true line es fs (suc n) a.0 q a.2)
    close_actuals_at false line (Then e es) (f ∷ fs) n p q a =
        (a.0, given_for s code m inst site e (close s m inst e) (close_procedure s m inst e) false f line n (ExprAt s code site n e) (ProcedureAt s code site n e) (λ p q. close_at e n p q) (λ p q. close_procedure_at e n p q) p a.0 a.1, close_actuals_at false line es fs (suc n) a.0 q a.2)

  -- the actual parameters of a block prefix
  pub close_parameters_at : (line : ℕ) (es : Expressions) (fs : List Formal) (n p q : ℕ) → PassedAt s code site n line true es fs p q → TermsAt s code m inst site n (close_parameters s m inst line es fs) p q × (operands es ≡ count (close_parameters s m inst line es fs))
  close_parameters_at line es fs n p q a = (close_actuals_at true line es fs n p q a, count_actuals line n true es fs p q a ∙ sym (count_kept fs (close_actuals s m inst line es fs)))

  -- ---- where references lie

  reference_by : (k : (Qualified s code m inst site agrees reach)) (e : Expression) (n p q : ℕ) (own : Option ℕ) → PlaceOrResultAt s code site n (class_number s code k.class) own (PlaceAt s code site n (class_number s code k.class) e) p q → QualifiedIs s code m inst site agrees reach k.class n (qualified k.class (result_place s m inst own (close_place s m inst e))) p q
  reference_by k e n p q None a = place_at (Some k) e n p q a
  reference_by k e n p q (Some t) a =
      let r = reach t a.inside in
      subst (λ z. QualifiedIs s code m inst site agrees reach k.class n (qualified k.class (in_instance z (λ j. PlaceOf j Result))) p q) (sym r.2)
      (place_placed s code m inst site agrees reach (Some k) n r.0 Result p q (record { text = t; address = a.address; reaches = r.1; own = own_frame s agrees t Result a.within refl; has = a.within; varies = refl; declared = refl }))

  pub record ReferenceFound (e : Expression) (n p q : ℕ) : Type 0 where
    pub class : ℕ
    pub is_class : Classed s class
    pub is : qualification s (left_type s e) ≡ Some class
    pub place : QualifiedIs s code m inst site agrees reach class n (reference_place s m inst e) p q

  pub reference_at : (e : Expression) (n p q : ℕ) → ReferencePlaceAt s code site n e p q → ReferenceFound e n p q
  reference_at e n p q a = by_class (qualification s (left_type s e)) refl a
    where
      by_class : (o : Option ℕ) → qualification s (left_type s e) ≡ o → QualifiedPlaceAt s code site n o e p q → ReferenceFound e n p q
      by_class None h a = absurd a
      by_class (Some k) h a =
          let c = qualification_classed s (left_type s e) k h in
          record {
            class = k;
            is_class = c;
            is = h;
            place = subst (λ z. QualifiedIs s code m inst site agrees reach k n (qualified_place z (result_place s m inst (result_meant s e) (close_place s m inst e))) p q) (sym h) (reference_by (record { class = k; is_class = c }) e n p q (result_meant s e) a);
          }
