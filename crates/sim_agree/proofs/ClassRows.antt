-- The text of a class, its block and its declaration.
use Rattle.std.proofs.Common.{◌≡◌, ℕ, false, List, Option, Some, None, refl, sym, ap, ◌∙◌, subst, true}
use Rattle.std.specs.Prelude.{slice_get}
use Rattle.sim_tree.specs.declared.expr.Identifier.{Identifier}
use Rattle.sim_tree.specs.Syntax.{Declarations, Heading, Statements}
use Rattle.sim_scope.specs.declared.scopes.Declaration.{Declaration}
use Rattle.sim_scope.specs.declared.types.BlockKind.{BlockKind}
use Rattle.sim_scope.specs.declared.types.BlockKind.TheVariants as kind
use Rattle.sim_scope.specs.declared.types.Entry.{Entry}
use Rattle.sim_scope.specs.declared.types.Entry.TheVariants as entry
use Rattle.sim_scope.specs.Access.{around}
use Rattle.sim_scope.specs.Building.{attribute_entry}
use Rattle.sim_scope.specs.Declare.{result_named}
use Rattle.sim_scope.specs.Tables.{BlockOf}
use Rattle.sim_scope.specs.Scopes.{is_virtual}
use Rattle.sim_meaning.specs.Texts.{BlockText, ClassText, ConnectionText, PrefixedText, ProcedureText, StandardText, Text}
use Rattle.sim_agree.proofs.Fine.{Alike, KindIs, RowIn, attribute_row, class_row, formal_row, own_row, procedure_row, simulation_row, virtual_row}
use Rattle.sim_agree.proofs.Groups.{OwnEntry, PlainKind, Declaring}
use Rattle.sim_agree.proofs.Steps.{Parametric}
use Rattle.sim_meaning.specs.Levels.{has_levels, is_class}
use Rattle.sim_meaning.specs.Attributes.{is_connection}
use Rattle.sim_agree.proofs.Completing.{has_base}

-- what is no class is not declared as one
pub own_no_class : (e : Entry) (n : ℕ) → OwnEntry e → Alike e (entry.Class n) → ⊥
own_no_class (entry.Variable ty) n own a = a
own_no_class (entry.Constant ty) n own a = a
own_no_class (entry.Array ty m) n own a = a
own_no_class (entry.Procedure result m) n own a = own
own_no_class (entry.Class m) n own a = own
own_no_class (entry.Virtual result m) n own a = own
own_no_class (entry.Formal f) n own a = own
own_no_class (entry.Unspecified v) n own a = own
own_no_class (entry.Attribute name given result) n own a = own

same_number : (m n : ℕ) → entry.Class m ≡ entry.Class n → m ≡ n
same_number m n q = cc

pub class_entry : (x : Text) (bs : List BlockOf) (ts : List Text) (d : ℕ) (row : Declaration) (n : ℕ) → row.entry ≡ entry.Class n → RowIn bs ts x d row → is_class (slice_get ts n) ≡ true
class_entry x bs ts d row n e (own_row y p) = absurd (own_no_class p.entry n p.fits (subst (Alike p.entry) e p.alike))
class_entry x bs ts d row n e (procedure_row y p) = absurd (subst (Alike (entry.Procedure (result_named p.result) p.number)) e p.entry)
class_entry x bs ts d row n e (class_row y p) = ap (λ m. is_class (slice_get ts m)) (sym (same_number p.number n (sym p.entry ∙ e))) ∙ ap is_class p.text ∙ p.is
class_entry x bs ts d row n e (formal_row y p l) = absurd (subst Parametric e p)
class_entry x bs ts d row n e (virtual_row y p l) = absurd (let f : false ≡ true = sym (ap is_virtual e) ∙ p in cc)
class_entry x bs ts d row n e (attribute_row y p) = absurd (let f : attribute_entry (Some p.first) p.name ≡ entry.Class n = sym p.entry ∙ e in cc)
class_entry x bs ts d row n e (simulation_row y p) = absurd (let f : attribute_entry (Some p.first) p.name ≡ entry.Class n = sym p.entry ∙ e in cc)

-- the text of a class stands in a block or in a class
pub class_stands : (x : Text) (bs : List BlockOf) (ts : List Text) (d : ℕ) (row : Declaration) (n : ℕ) → row.entry ≡ entry.Class n → RowIn bs ts x d row → Declaring x × (around (slice_get bs n) ≡ Some row.block)
class_stands x bs ts d row n e (own_row y p) = absurd (own_no_class p.entry n p.fits (subst (Alike p.entry) e p.alike))
class_stands x bs ts d row n e (procedure_row y p) = absurd (subst (Alike (entry.Procedure (result_named p.result) p.number)) e p.entry)
class_stands x bs ts d row n e (class_row y p) = (y, subst (λ z. around (slice_get bs z) ≡ Some row.block) (same_number p.number n (sym p.entry ∙ e)) p.around)
class_stands x bs ts d row n e (formal_row y p l) = absurd (subst Parametric e p)
class_stands x bs ts d row n e (virtual_row y p l) = absurd (let f : false ≡ true = sym (ap is_virtual e) ∙ p in cc)
class_stands x bs ts d row n e (attribute_row y p) = absurd (let f : attribute_entry (Some p.first) p.name ≡ entry.Class n = sym p.entry ∙ e in cc)
class_stands x bs ts d row n e (simulation_row y p) = absurd (let f : attribute_entry (Some p.first) p.name ≡ entry.Class n = sym p.entry ∙ e in cc)

plain_no_class : (k : BlockKind) → PlainKind k → k ≡ kind.Class → ⊥
plain_no_class kind.Program p e = cc
plain_no_class kind.SubBlock p e = cc
plain_no_class kind.Procedure p e = p
plain_no_class kind.Class p e = p
plain_no_class kind.Prefixed p e = p
plain_no_class kind.Connection p e = p
plain_no_class (kind.StandardClass which) p e = p

-- a block of the kind of a class is that of the text of one
pub class_of_kind : (row : BlockOf) (o : Option Text) → KindIs (Some row) o → row.kind ≡ kind.Class → (prefix : Option Identifier) × (h : Heading) × (ds : Declarations) × (ss : Statements) × (o ≡ Some (ClassText prefix h ds ss))
class_of_kind row None k e = absurd k
class_of_kind row (Some (BlockText i ds ss)) k e = absurd (plain_no_class row.kind k e)
class_of_kind row (Some (ProcedureText result h a)) k e = absurd (let f : kind.Procedure ≡ kind.Class = sym k ∙ e in cc)
class_of_kind row (Some (ClassText prefix h ds ss)) k e = (prefix, h, ds, ss, refl)
class_of_kind row (Some ConnectionText) k e = absurd (let f : kind.Connection ≡ kind.Class = sym k ∙ e in cc)
class_of_kind row (Some (PrefixedText class es ds ss)) k e = absurd (let f : kind.Prefixed ≡ kind.Class = sym k ∙ e in cc)
class_of_kind row (Some (StandardText which)) k e = absurd (let f : kind.StandardClass which ≡ kind.Class = sym k ∙ e in cc)

-- a block of a kind that may have a next level, and is no connection, is that of a text with levels
pub levels_of_kind : (row : BlockOf) (o : Option Text) → KindIs (Some row) o → has_base row.kind ≡ true → has_levels o ≡ true
levels_of_kind row None k e = absurd k
levels_of_kind row (Some (BlockText i ds ss)) k e = absurd (go row.kind k e)
  where
    go : (k : BlockKind) → PlainKind k → has_base k ≡ true → ⊥
    go kind.Program p e = cc
    go kind.SubBlock p e = cc
    go kind.Procedure p e = p
    go kind.Class p e = p
    go kind.Prefixed p e = p
    go kind.Connection p e = p
    go (kind.StandardClass which) p e = p
levels_of_kind row (Some (ProcedureText result h a)) k e = absurd (let f : false ≡ true = sym (ap has_base k) ∙ e in cc)
levels_of_kind row (Some (ClassText prefix h ds ss)) k e = refl
levels_of_kind row (Some ConnectionText) k e = absurd (let f : false ≡ true = sym (ap has_base k) ∙ e in cc)
levels_of_kind row (Some (PrefixedText class es ds ss)) k e = refl
levels_of_kind row (Some (StandardText which)) k e = refl

pub no_connection : (o : Option Text) → has_levels o ≡ true → is_connection o ≡ false
no_connection None e = absurd (cc)
no_connection (Some (BlockText i ds ss)) e = refl
no_connection (Some (ProcedureText result h a)) e = refl
no_connection (Some (ClassText prefix h ds ss)) e = refl
no_connection (Some ConnectionText) e = absurd (cc)
no_connection (Some (PrefixedText class es ds ss)) e = refl
no_connection (Some (StandardText which)) e = refl

pub no_class_connection : (o : Option Text) → is_class o ≡ true → is_connection o ≡ false
no_class_connection None e = absurd (cc)
no_class_connection (Some (BlockText i ds ss)) e = refl
no_class_connection (Some (ProcedureText result h a)) e = refl
no_class_connection (Some (ClassText prefix h ds ss)) e = refl
no_class_connection (Some ConnectionText) e = absurd (cc)
no_class_connection (Some (PrefixedText class es ds ss)) e = refl
no_class_connection (Some (StandardText which)) e = refl
