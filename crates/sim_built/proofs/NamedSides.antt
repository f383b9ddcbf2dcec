-- Left sides that are formal parameters by name are built.
use Rattle.std.proofs.Common.{◌≡◌, ℕ, Bool, true, false, List, Option, Some, None, refl, sym, ap, ◌∙◌, subst}
use Rattle.sim_base.specs.declared.numbering.DeclNo.{DeclNo}
use Rattle.sim_scope.specs.declared.scopes.Denotation.{Denotation}
use Rattle.sim_scope.specs.declared.scopes.Denotation.TheVariants as denotation
use Rattle.sim_scope.specs.declared.types.Entry.{Entry}
use Rattle.sim_scope.specs.declared.types.Entry.TheVariants as entry
use Rattle.sim_scope.specs.declared.types.Formal.{Formal}
use Rattle.sim_scope.specs.declared.types.FormalKind.{FormalKind}
use Rattle.sim_scope.specs.declared.types.FormalKind.TheVariants as shape
use Rattle.sim_scope.specs.declared.types.Mode.{Mode}
use Rattle.sim_scope.specs.declared.types.Mode.TheVariants as mode
use Rattle.sim_scope.specs.declared.types.SimType.{SimType}
use Rattle.sim_scope.specs.Calls.{match_seen, own_of}
use Rattle.sim_scope.specs.Scopes.{entry_is, entry_of, is_virtual}
use Rattle.sim_scope.specs.Source.{Source, block_of, denoted}
use Rattle.sim_tree.specs.declared.expr.Identifier.{Identifier}
use Rattle.sim_tree.specs.declared.stmt.Assignment.{Assignment}
use Rattle.sim_tree.specs.declared.stmt.Assignment.TheVariants as assignment
use Rattle.sim_tree.specs.Syntax.{Expression, NoMore, Then}
use Rattle.sim_tree.specs.Syntax as syntax
use Rattle.sim_values.specs.declared.kind.Kind.{Kind}
use Rattle.sim_values.specs.declared.kind.Kind.TheVariants as kind
use Rattle.sim_meaning.specs.Attributes.{connection_at, is_standard_attribute, own_attribute}
use Rattle.sim_meaning.specs.Closing.{by_name, class_of_formal, formal_by_name, is_variable_entry, is_virtual_denoted, match_if_virtual, name_denoted, named_formal, own_block, own_block_denoted, own_match, own_result, result_meant, result_or_own, type_of_formal, unless_connected}
use Rattle.sim_meaning.specs.Levels.{qualification}
use Rattle.sim_meaning.specs.Texts.{Text, kind_of_type, text}
use Rattle.sim_meaning.specs.Virtuals.{text_of_procedure}
use Rattle.sim_sound.specs.Held.{ByName, Holds, In, Refers, Simply, entry_names, held_by}
use Rattle.sim_sound.specs.Expressions.{ActualsFit, AreIntegers, AreOf, ExprIs, IdentifierGives, KnownAt, LeftHeld, NamedGives, ParametersAre, PlaceDeclared, PlaceNamed}
use Rattle.sim_sound.specs.Statements.{LeftDeclared, LeftIs, LeftNamed, LeftOf, LeftResultOr, OwnText, ReferenceAt, TextLeft}
use Rattle.sim_sound.specs.Typed.{Typed}
use Rattle.sim_sound.proofs.Attributes.{NamedEntry, held_qualified, named_entry, not_named}
use Rattle.sim_sound.proofs.Calls.{own_denoted, own_is_attribute}
use Rattle.sim_sound.proofs.Prefixes.{class_has, level_has_levels, level_is}
use Rattle.codegen_expr.specs.Built.{CellBuilt}
use Rattle.codegen.specs.BuiltProgram.{LeftBuilt}
use Rattle.codegen.specs.CodeLeft.{stored_held, stored_named_by}
use Rattle.sim_built.specs.Laid.{Laid}
use Rattle.sim_built.proofs.Cells.{declared_has}
use Rattle.sim_built.proofs.Expressions.{Stands}
use Rattle.sim_built.proofs.Lists.{gives_place}
use Rattle.sim_built.proofs.Standing.{stands_here}

-- ---- such a parameter means no result

module _ (s : Source) where
  no_virtual : (d named : DeclNo) (e : Option Entry) → formal_by_name d e ≡ Some named → entry_is is_virtual e ≡ false
  no_virtual d named (Some (entry.Formal f)) by = refl
  no_virtual d named None by = absurd (cc)
  no_virtual d named (Some _) by = absurd (cc)

  no_procedure : (d named : DeclNo) (token : ℕ) (e : Option Entry) → formal_by_name d e ≡ Some named → own_block s token e ≡ None
  no_procedure d named token (Some (entry.Formal f)) by = refl
  no_procedure d named token None by = absurd (cc)
  no_procedure d named token (Some _) by = absurd (cc)

  denotes_no_virtual : (y : Option Denotation) (named : DeclNo) → name_denoted s y ≡ Some named → is_virtual_denoted s y ≡ false
  denotes_no_virtual (Some (denotation.Declared d)) named by = no_virtual d named (entry_of s.tables d) by
  denotes_no_virtual (Some (denotation.Standard n)) named by = refl
  denotes_no_virtual None named by = refl

  denotes_no_procedure : (y : Option Denotation) (named : DeclNo) (token : ℕ) → name_denoted s y ≡ Some named → own_block_denoted s token y ≡ None
  denotes_no_procedure (Some (denotation.Declared d)) named token by = no_procedure d named token (entry_of s.tables d) by
  denotes_no_procedure (Some (denotation.Standard n)) named token by = refl
  denotes_no_procedure None named token by = refl

  no_match : (name : Identifier) (named : DeclNo) → name_denoted s (denoted s name.token.0) ≡ Some named → own_match s (syntax.Named name NoMore) ≡ None
  unfolding own_match
  no_match name named by = ap (λ z. match_if_virtual z (own_of s.tables name (match_seen s.tables name))) (denotes_no_virtual (denoted s name.token.0) named by)

  no_own : (name : Identifier) (named : DeclNo) → name_denoted s (denoted s name.token.0) ≡ Some named → own_result s (syntax.Named name NoMore) ≡ None
  unfolding own_result
  no_own name named by = denotes_no_procedure (denoted s name.token.0) named name.token.0 by

  unless_none : (c : Option ℕ) → unless_connected c None ≡ None
  unless_none None = refl
  unless_none (Some k) = refl

  no_result : (name : Identifier) (named : DeclNo) → name_denoted s (denoted s name.token.0) ≡ Some named → result_meant s (syntax.Named name NoMore) ≡ None
  unfolding result_meant
  no_result name named by =
      let c = connection_at s name.token.0 in
      ap (λ z. unless_connected c (result_or_own (text_of_procedure s z) (own_result s (syntax.Named name NoMore)))) (no_match name named by) ∙ ap (unless_connected c) (no_own name named by) ∙ unless_none c

-- ---- what is known of it where it is assigned to

module _ (s : Source) (ok : Typed s) (laid : Laid s) (t : ℕ) (x : Text) (there : text s t ≡ Some x) where
  here : Stands s t (In t)
  here = stands_here s ok laid t x there

  -- it has a cell in a text around, and holds what its type says
  record IsNamed (named : DeclNo) (h : Holds) : Type 0 where
    cell : CellBuilt s t named
    type : SimType
    typed : type_of_formal (entry_of s.tables named) ≡ Some type
    held : held_by s type ≡ h

  -- no parameter by name is seen through a connection
  named_cell : (c : Option ℕ) (d named : DeclNo) (h : Holds) → NamedEntry s d named (entry_of s.tables d) (KnownAt s (In t) c d) NoMore h → CellBuilt s t d
  named_cell None d named h n = record { has = declared_has s ok laid d (ByName (Simply (kind_of_type n.type))) false (here.solid d n.known) (n.holds false); inside = here.seen d n.known }
  named_cell (Some k) d named h n =
      let seen = n.known in
      absurd (not_named s ok d seen.class seen.level (Simply (kind_of_type n.type)) (n.holds true) (level_has_levels s ok (class_has s ok seen.class seen.is_class) (level_is s seen.class (block_of s d) seen.level)))

  held_named : (c : Option ℕ) (d named : DeclNo) (Indices : Type 0) (h : Holds) → formal_by_name d (entry_of s.tables d) ≡ Some named → LeftHeld (KnownAt s (In t) c d) NoMore Indices (entry_names s (entry_of s.tables d)) h → IsNamed named h
  held_named c d named Indices h by a =
      let n = named_entry s d named (entry_of s.tables d) (KnownAt s (In t) c d) NoMore Indices h by a in
      record { cell = subst (CellBuilt s t) n.same (named_cell c d named h n); type = n.type; typed = subst (λ z. type_of_formal (entry_of s.tables z) ≡ Some n.type) n.same n.has_type; held = n.held }

  -- as a place
  place_held : (d named : DeclNo) (Known Indices : Type 0) (e : Option Entry) (h : Holds) → formal_by_name d e ≡ Some named → PlaceDeclared s Known NoMore Indices e h → LeftHeld Known NoMore Indices (entry_names s e) h
  place_held d named Known Indices (Some (entry.Formal f)) h by a = a
  place_held d named Known Indices None h by a = absurd (cc)
  place_held d named Known Indices (Some _) h by a = absurd (cc)

  place_named : (c : Option ℕ) (y : Option Denotation) (named : DeclNo) (h : Holds) → name_denoted s y ≡ Some named → PlaceNamed s (In t) c y NoMore (AreIntegers s (In t) NoMore) h → IsNamed named h
  place_named c (Some (denotation.Declared d)) named h by a =
      held_named c d named (AreIntegers s (In t) NoMore) h by (place_held d named (KnownAt s (In t) c d) (AreIntegers s (In t) NoMore) (entry_of s.tables d) h by a)
  place_named c (Some (denotation.Standard n)) named h by a = absurd a
  place_named c None named h by a = absurd a

  -- as a left side
  left_held : (d named : DeclNo) (Known : Type 0) (Own : ℕ → Type 0) (Indices : Type 0) (e : Option Entry) (h : Holds) → formal_by_name d e ≡ Some named → LeftDeclared s Known Own NoMore Indices e h → LeftHeld Known NoMore Indices (entry_names s e) h
  left_held d named Known Own Indices (Some (entry.Formal f)) h by a = a
  left_held d named Known Own Indices None h by a = absurd (cc)
  left_held d named Known Own Indices (Some _) h by a = absurd (cc)

  left_named : (c : Option ℕ) (y : Option Denotation) (named : DeclNo) (h : Holds) → name_denoted s y ≡ Some named → LeftNamed s t c y NoMore (AreIntegers s (In t) NoMore) h → IsNamed named h
  left_named c (Some (denotation.Declared d)) named h by a =
      held_named c d named (AreIntegers s (In t) NoMore) h by (left_held d named (KnownAt s (In t) c d) (OwnText s t c) (AreIntegers s (In t) NoMore) (entry_of s.tables d) h by a)
  left_named c (Some (denotation.Standard n)) named h by a = absurd a
  left_named c None named h by a = absurd a

  left_is : (name : Identifier) (named : DeclNo) (h : Holds) → name_denoted s (denoted s name.token.0) ≡ Some named → LeftIs s t (syntax.Named name NoMore) h → IsNamed named h
  left_is name named h by a = by_match (connection_at s name.token.0) (text_of_procedure s (own_match s (syntax.Named name NoMore))) (ap (text_of_procedure s) (no_match s name named by)) a
    where
      by_match : (c match : Option ℕ) → match ≡ None → LeftResultOr s t c match h (LeftNamed s t c (denoted s name.token.0) NoMore (AreIntegers s (In t) NoMore) h) → IsNamed named h
      by_match None None none a = left_named None (denoted s name.token.0) named h by a
      by_match None (Some block) none a = absurd (cc)
      by_match (Some k) match none a = left_named (Some k) (denoted s name.token.0) named h by a

  -- as a text
  variable_named : (d named : DeclNo) (e : Option Entry) → formal_by_name d e ≡ Some named → is_variable_entry e NoMore ≡ true
  variable_named d named (Some (entry.Formal f)) by = by_mode f.mode f.kind by
    where
      by_mode : (m : Mode) (k : FormalKind) → named_formal m k d ≡ Some named → is_variable_entry (Some (entry.Formal (record { mode = m; kind = k; ty = f.ty }))) NoMore ≡ true
      by_mode mode.ByName shape.Simple by = refl
      by_mode mode.ByName shape.Array by = absurd (cc)
      by_mode mode.ByName shape.Procedure by = absurd (cc)
      by_mode mode.ByValue k by = absurd (cc)
      by_mode mode.ByReference k by = absurd (cc)
  variable_named d named None by = absurd (cc)
  variable_named d named (Some _) by = absurd (cc)

  no_attribute : (d named : DeclNo) (e : Option Entry) → formal_by_name d e ≡ Some named → is_standard_attribute e ≡ true → ⊥
  no_attribute d named (Some (entry.Formal f)) by is = cc
  no_attribute d named None by is = cc
  no_attribute d named (Some _) by is = cc

  text_named : (c : Option ℕ) (y : Option Denotation) (named : DeclNo) (Operands : List Kind → Type 0) (Actuals : List Formal → Type 0) → name_denoted s y ≡ Some named → NamedGives s (In t) c y NoMore (AreIntegers s (In t) NoMore) (ParametersAre s (In t) NoMore) Operands Actuals (Some (Simply kind.Text))
      → (h : Holds) × IsNamed named h
  text_named c (Some (denotation.Declared d)) named Operands Actuals by a =
      let e = entry_of s.tables d in
      let z = gives_place s (KnownAt s (In t) c d) (AreIntegers s (In t) NoMore) (ParametersAre s (In t) NoMore) d NoMore Actuals e kind.Text (variable_named d named e by) a in
      (z.0, held_named c d named (AreIntegers s (In t) NoMore) z.0 by (place_held d named (KnownAt s (In t) c d) (AreIntegers s (In t) NoMore) e z.0 by z.1))
  text_named c (Some (denotation.Standard n)) named Operands Actuals by a = absurd (cc)
  text_named c None named Operands Actuals by a = absurd (cc)

  text_is : (name : Identifier) (named : DeclNo) → name_denoted s (denoted s name.token.0) ≡ Some named → ExprIs s (In t) (syntax.Named name NoMore) (Simply kind.Text) → (h : Holds) × IsNamed named h
  text_is name named by a = by_own (connection_at s name.token.0) (own_attribute s name.token.0) refl a
    where
      Operands : List Kind → Type 0
      Operands ks = AreOf s (In t) NoMore ks

      Actuals : List Formal → Type 0
      Actuals fs = ActualsFit s (In t) NoMore fs

      by_own : (c : Option ℕ) (own : Option DeclNo) → own_attribute s name.token.0 ≡ own → IdentifierGives s (In t) name.token.0 c own NoMore (AreIntegers s (In t) NoMore) (ParametersAre s (In t) NoMore) (λ ks. AreOf s (In t) NoMore ks) (λ fs. ActualsFit s (In t) NoMore fs) (Some (Simply kind.Text)) → (h : Holds) × IsNamed named h
      by_own None None e a = text_named None (denoted s name.token.0) named Operands Actuals by a
      by_own (Some k) own e a = text_named (Some k) (denoted s name.token.0) named Operands Actuals by a
      by_own None (Some d) e a =
          absurd (no_attribute d named (entry_of s.tables d) (sym (ap (name_denoted s) (own_denoted s name.token.0 d e)) ∙ by) (own_is_attribute s name.token.0 d e))

  -- ---- left sides

  name_built : (is_text : Bool) (sign : Assignment) (line : ℕ) (name : Identifier) (k : Kind) (named : DeclNo) → name_denoted s (denoted s name.token.0) ≡ Some named → LeftOf is_text sign s t (syntax.Named name NoMore) k → LeftBuilt s t (stored_named_by is_text sign s named line)
  name_built true assignment.Value line name k named by a =
      let n = text_is name named by (subst (λ z. TextLeft s t (syntax.Named name NoMore) z) (no_result s name named by) a.1) in (n.1).cell
  name_built true assignment.Reference line name k named by a = (left_is name named (Simply k) by a.1).cell
  name_built false assignment.Value line name k named by a = (left_is name named (Simply k) by a.1).cell
  name_built false assignment.Reference line name k named by a =
      let left = a.1 in
      let n = place_named (connection_at s name.token.0) (denoted s name.token.0) named (Refers left.class) by (subst (λ z. ReferenceAt s t (syntax.Named name NoMore) z left.class) (no_result s name named by) left.at) in
      let class : class_of_formal s named ≡ Some left.class = ap (qualification s) n.typed ∙ (held_qualified s n.type left.class n.held).1 in
      subst (λ z. LeftBuilt s t (stored_held named z line)) (sym class) n.cell

  pub named_built : (is_text : Bool) (sign : Assignment) (line : ℕ) (e : Expression) (k : Kind) (named : DeclNo) → by_name s e ≡ Some named → LeftOf is_text sign s t e k → LeftBuilt s t (stored_named_by is_text sign s named line)
  unfolding by_name
  named_built is_text sign line (syntax.Named name NoMore) k named by a = name_built is_text sign line name k named by a
  named_built is_text sign line (syntax.Named name (Then y ys)) k named by a = absurd (cc)
  named_built is_text sign line (syntax.If i c b d) k named by a = absurd (cc)
  named_built is_text sign line (syntax.Binary op i b d) k named by a = absurd (cc)
  named_built is_text sign line (syntax.Not i b) k named by a = absurd (cc)
  named_built is_text sign line (syntax.Signed g i b) k named by a = absurd (cc)
  named_built is_text sign line (syntax.Dot i b name es) k named by a = absurd (cc)
  named_built is_text sign line (syntax.Constant literal i) k named by a = absurd (cc)
  named_built is_text sign line (syntax.Parentheses i b) k named by a = absurd (cc)
  named_built is_text sign line (syntax.Member m i b c) k named by a = absurd (cc)
  named_built is_text sign line (syntax.Qua i b c) k named by a = absurd (cc)
  named_built is_text sign line (syntax.This i c) k named by a = absurd (cc)
  named_built is_text sign line (syntax.New i c es) k named by a = absurd (cc)
