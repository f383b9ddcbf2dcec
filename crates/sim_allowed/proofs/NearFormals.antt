-- The classes of the types of expressions, and of formal parameters, are declared in a text around.
use Rattle.std.proofs.Common.{◌≡◌, ℕ, List, [], ◌∷◌, Option, Some, None, refl, sym, ap, ◌∙◌, subst}
use Rattle.std.proofs.lemmas.Bool.{false≢true}
use Rattle.std.specs.Prelude.{length, slice_get}
use Rattle.sim_base.specs.declared.numbering.DeclNo.{DeclNo}
use Rattle.sim_scope.specs.declared.types.Entry.TheVariants as entry
use Rattle.sim_scope.specs.declared.types.Formal.{Formal}
use Rattle.sim_scope.specs.declared.types.FormalKind.{FormalKind}
use Rattle.sim_scope.specs.declared.types.FormalKind.TheVariants as shape
use Rattle.sim_scope.specs.declared.types.SimType.{SimType}
use Rattle.sim_scope.specs.declared.types.SimType.TheVariants as t
use Rattle.sim_scope.specs.Access.{encloser}
use Rattle.sim_scope.specs.Levels.{has_level}
use Rattle.sim_scope.specs.Scopes.{entry_of}
use Rattle.sim_scope.specs.Source.{Source, block_of, level_of}
use Rattle.sim_static.specs.Check.{second_least}
use Rattle.sim_tree.specs.Syntax.{Heading, Statement}
use Rattle.sim_tree.specs.declared.stmt.TypeName.{TypeName}
use Rattle.sim_meaning.specs.Attributes.{is_connection}
use Rattle.sim_meaning.specs.Entries.{formals_of, numbers_of}
use Rattle.sim_meaning.specs.Levels.{has_levels}
use Rattle.sim_meaning.specs.Texts.{ProcedureText, Text, text}
use Rattle.sim_sound.specs.Held.{Among, In, Place, first, later, text_of}
use Rattle.sim_sound.specs.Expressions.{ClassNear}
use Rattle.sim_sound.specs.Typed.{FormalsAre, FormalsNear}
use Rattle.sim_agree.specs.Facts.{ProperFormal, ProperResult, Tabled}
use Rattle.sim_agree.specs.Order.{InOrder}
use Rattle.sim_agree.specs.TablesAgree.{TablesAgree}
use Rattle.sim_agree.specs.TablesOf.{TablesOf}
use Rattle.sim_agree.proofs.ClassRows.{class_stands}
use Rattle.sim_agree.proofs.Groups.{Declaring}
use Rattle.sim_agree.proofs.Prefixing.{Reaches, itself, through}
use Rattle.sim_agree.proofs.Tables as tables
use Rattle.sim_agree.proofs.WrittenTypes.{types_stand}
use Rattle.sim_allowed.proofs.Actuals.{ReachedFrom, result_near}
use Rattle.sim_allowed.proofs.Classes.{level_reached}
use Rattle.sim_allowed.proofs.Expressions.{AllNear}
use Rattle.sim_allowed.proofs.NearExpressions.{expression_low}
use Rattle.sim_allowed.proofs.Nearness.{LowResult, LowType, NoClass, closed_type, low_result, reached}
use Rattle.sim_allowed.proofs.This.{extent_of}

formal_proper : (s : Source) (k : FormalKind) (o : Option SimType) → ProperFormal s k o → ProperResult s o
formal_proper s shape.Procedure o p = p
formal_proper s shape.Simple (Some ty) p = p
formal_proper s shape.Array (Some ty) p = p
formal_proper s shape.Simple None p = absurd p
formal_proper s shape.Array None p = absurd p

same_text : (x y : Text) → Some x ≡ Some y → x ≡ y
same_text x y e = cc

module _ (s : Source) (of : TablesOf s) (order : InOrder s.program) (g : TablesAgree s) (known : Tabled s) (second : second_least s.tables ≡ None) where
  reached_from : (f : Place) → ReachedFrom s f
  reached_from f d c low = reached s of order g known second (text_of f) d c low

  -- everywhere
  pub all_near : (f : Place) → AllNear s f
  all_near f = (reached_from f, λ e placed. expression_low s of order g known second (text_of f) (extent_of f) e placed)

  -- no class is declared in a procedure itself, which has no prefix
  module _ (k : ℕ) (result : Option TypeName) (h : Heading) (a : Statement) (is : text s k ≡ Some (ProcedureText result h a)) where
    no_class_in : (class : DeclNo) (c : ℕ) → entry_of s.tables class ≡ Some (entry.Class c) → block_of s class ≡ k → ⊥
    unfolding text
    no_class_in class c e same =
        let r = tables.entry_row s of order class (entry.Class c) e in
        let w = tables.text_of_row s of order class.0 r.0 r.1 in
        let stands = class_stands w.0 s.tables.blocks (tables.Ts s of order) class.0 r.0 c r.2 w.2 in
        let block = sym (tables.block_is s of order class r.0 r.1) ∙ same in
        subst Declaring (same_text w.0 (ProcedureText result h a) (sym w.1 ∙ ap (slice_get (tables.Ts s of order)) block ∙ is)) stands.0

    only_itself : (u : ℕ) → Reaches s.tables k u → u ≡ k
    only_itself u itself = refl
    only_itself u (through {b = b} e x) = absurd (let p = g.prefixes.prefixed_by k b (ap is_connection is) e in false≢true (sym (ap has_levels is) ∙ p.has))

    no_class : (d : DeclNo) → block_of s d ≡ k → NoClass s of order g known second d
    unfolding has_level
    no_class d here = λ token name class c binds e level. no_class_in class c e (only_itself (block_of s class) (subst (λ z. Reaches s.tables z (block_of s class)) here (level_reached s.tables (length s.tables.blocks) (block_of s d) (block_of s class) level)))

    formal_low : (d : DeclNo) (f : Formal) → block_of s d ≡ k → entry_of s.tables d ≡ Some (entry.Formal f) → LowResult s (level_of s k) f.ty
    formal_low d f here e =
        let solid = ap (λ z. is_connection (text s z)) here ∙ ap is_connection is in
        low_result s (level_of s k) d (λ class stands. subst (λ z. LowClassOf z class) here (closed_type s of order g known second d solid (no_class d here) (λ name parameter given other sim. absurd (cc)) class stands)) f.ty (types_stand s of order second known.outside d (entry.Formal f) e)
      where
        LowClassOf : ℕ → DeclNo → Type 0
        LowClassOf z class = LowType s (level_of s z) (t.Ref class)

    one_near : (around : ℕ) → encloser s.tables k ≡ Some around → (d : DeclNo) (f : Formal) → block_of s d ≡ k → entry_of s.tables d ≡ Some (entry.Formal f) → ClassNear s (In around) f.ty
    one_near around out d f here e =
        let level = g.levels k around (ap is_connection is) out in
        result_near s (In around) (reached_from (In around)) f.ty (formal_proper s f.kind f.ty (known.proper d (entry.Formal f) e)) (subst (λ n. LowResult s n f.ty) level (formal_low d f here e))

    all_formals_near : (around : ℕ) → encloser s.tables k ≡ Some around → (ds : List DeclNo) (fs : List Formal) → FormalsAre s ds fs → ((d : DeclNo) → Among d ds → block_of s d ≡ k) → FormalsNear s around fs
    all_formals_near around out [] [] are own = tt
    all_formals_near around out [] (f ∷ fs) are own = absurd are
    all_formals_near around out (d ∷ ds) [] are own = absurd are
    all_formals_near around out (d ∷ ds) (f ∷ fs) are own = (one_near around out d f (own d first) are.1, all_formals_near around out ds fs are.3 (λ x among. own x (later among)))

    -- the formal parameters of a procedure
    pub formals_near : FormalsAre s (numbers_of s k) (formals_of s k) → (around : ℕ) → encloser s.tables k ≡ Some around → FormalsNear s around (formals_of s k)
    formals_near are around out = all_formals_near around out (numbers_of s k) (formals_of s k) are (g.owned k)
