-- The result of each procedure of an allowed program has the type that is written.
use Rattle.std.proofs.Common.{◌≡◌, ℕ, Option, Some, None, refl, sym, ap, ◌∙◌, subst}
use Rattle.sim_base.specs.declared.numbering.DeclNo.{DeclNo}
use Rattle.sim_tree.specs.declared.stmt.TypeName.{TypeName}
use Rattle.sim_tree.specs.declared.stmt.TypeName.TheVariants as type_name
use Rattle.sim_agree.specs.Order.{InOrder}
use Rattle.sim_tree.specs.Syntax.{Heading, Statement}
use Rattle.sim_scope.specs.declared.types.Entry.{Entry}
use Rattle.sim_scope.specs.declared.types.Entry.TheVariants as entry
use Rattle.sim_scope.specs.declared.types.SimType.{SimType}
use Rattle.sim_scope.specs.declared.types.SimType.TheVariants as t
use Rattle.sim_scope.specs.Declare.{result_named, type_named}
use Rattle.sim_scope.specs.Levels.{owner_of_level}
use Rattle.sim_scope.specs.Scopes.{result_in, result_of}
use Rattle.sim_scope.specs.Source.{Source}
use Rattle.sim_meaning.specs.Levels.{qualification}
use Rattle.sim_meaning.specs.Texts.{ProcedureText, kind_named, kind_of_type, text}
use Rattle.sim_values.specs.declared.kind.Kind.TheVariants as kind
use Rattle.sim_sound.specs.Held.{IsOfKind, given_by, held_by, reference_to, result_declared, result_holds}
use Rattle.sim_sound.specs.Typed.{ResultWritten}
use Rattle.sim_agree.specs.TablesOf.{TablesOf}
use Rattle.sim_agree.proofs.Fine.{Alike, AlikeResults, alike_results}
use Rattle.sim_agree.proofs.Headings as headings
use Rattle.sim_agree.proofs.Tables as tables
use Rattle.sim_agree.proofs.Tables.{program_owned}
use Rattle.sim_agree.proofs.Retypes.{alike_new}

-- the kind of the type that is written
named_kind : (type : TypeName) → kind_of_type (type_named type) ≡ kind_named type
unfolding type_named
named_kind (type_name.Integer i) = refl
named_kind (type_name.Boolean i) = refl
named_kind (type_name.Character i) = refl
named_kind (type_name.Text i) = refl
named_kind (type_name.Reference i class) = refl

-- a variable of a type holds values of its kind
held_kind : (s : Source) (ty : SimType) → IsOfKind (held_by s ty) (kind_of_type ty)
held_kind s t.Integer = refl
held_kind s t.Boolean = refl
held_kind s t.Character = refl
held_kind s t.Text = refl
held_kind s t.NoneType = refl
held_kind s (t.Ref d) = go (qualification s (Some (t.Ref d)))
  where
    go : (o : Option ℕ) → IsOfKind (reference_to o) kind.Reference
    go None = refl
    go (Some k) = refl

written : (s : Source) (result : Option TypeName) (r : Option SimType) → AlikeResults (result_named result) r → ResultWritten result (given_by s r)
unfolding result_named
written s None None a = tt
written s None (Some ty) a = absurd a
written s (Some type) None a = absurd a
written s (Some type) (Some ty) a = subst (IsOfKind (held_by s ty)) (sym a ∙ named_kind type) (held_kind s ty)

procedure_like : (e : Entry) (r : Option SimType) (n : ℕ) → Alike (entry.Procedure r n) e → AlikeResults r (result_in (Some e))
procedure_like (entry.Procedure q m) r n a = a.0
procedure_like (entry.Variable ty) r n a = absurd a
procedure_like (entry.Constant ty) r n a = absurd a
procedure_like (entry.Array ty m) r n a = absurd a
procedure_like (entry.Class m) r n a = absurd a
procedure_like (entry.Virtual q m) r n a = absurd a
procedure_like (entry.Formal f) r n a = absurd a
procedure_like (entry.Unspecified w) r n a = absurd a
procedure_like (entry.Attribute name given q) r n a = absurd a

module _ (s : Source) (of : TablesOf s) (order : InOrder s.program) where
  -- the block of the text of a procedure belongs to a declaration that has its result
  pub result_written : (k : ℕ) (result : Option TypeName) (h : Heading) (a : Statement) → text s k ≡ Some (ProcedureText result h a) → ResultWritten result (result_holds s k)
  unfolding text result_of
  result_written k result h a at =
      let q = program_owned s.program of.unbroken k (ProcedureText result h a) at in
      let d : DeclNo = q.0 in
      let new = (tables.completed_tables s of order).rows.stays d.0 q.1 q.3 in
      let like : Alike (entry.Procedure (result_named result) k) new.0.entry =
      alike_new q.1.entry new.0.entry new.2.entry (entry.Procedure (result_named result) k) (subst (Alike (entry.Procedure (result_named result) k)) (sym q.4) (alike_results (result_named result), refl)) in
      let own : owner_of_level s.tables (Some k) ≡ Some d = headings.owner_at s of order k d (tables.same_owner s of order k ∙ q.2) in
      let there : result_declared s (owner_of_level s.tables (Some k)) ≡ result_in (Some new.0.entry) =
      ap (result_declared s) own ∙ ap result_in (tables.row_entry s of order d new.0 new.1) in
      subst (λ r. ResultWritten result (given_by s r)) (sym there) (written s result (result_in (Some new.0.entry)) (procedure_like new.0.entry (result_named result) k like))
