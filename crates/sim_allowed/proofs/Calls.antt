-- Calls without actuals, values and operands.
use Rattle.std.proofs.Common.{◌≡◌, inl, inr, ℕ, Bool, true, false, List, [], ◌∷◌, length, Option, Some, None, refl, sym, ap, subst, arith, if◌then◌else◌}
use Rattle.std.proofs.lemmas.Bool.Decides.{nat_tests}
use Rattle.std.specs.Prelude.{nat_eq}
use Rattle.sim_base.specs.declared.rule.Rule.TheVariants as r
use Rattle.sim_base.specs.declared.numbering.DeclNo.{DeclNo}
use Rattle.sim_base.specs.declared.numbering.TokenNo.{TokenNo}
use Rattle.sim_scope.specs.declared.outcome.Outcome.{Outcome}
use Rattle.sim_scope.specs.declared.outcome.Outcome.TheVariants as is
use Rattle.sim_scope.specs.declared.outcome.Side.{Side}
use Rattle.sim_scope.specs.declared.standard.StandardName.{StandardName}
use Rattle.sim_scope.specs.declared.types.Entry.{Entry}
use Rattle.sim_scope.specs.declared.types.Entry.TheVariants as entry
use Rattle.sim_scope.specs.declared.types.Formal.{Formal}
use Rattle.sim_scope.specs.declared.types.SimType.{SimType}
use Rattle.sim_scope.specs.Judged.{Judged, gives, next, telling}
use Rattle.sim_scope.specs.Outcomes.{breaks, call_of, called, is_stream, procedure_called, side, side_of, in_parentheses, parenthesized, signature_called, type_in, value_of, valued}
use Rattle.sim_scope.specs.Scopes.{formals_of, entry_of}
use Rattle.sim_scope.specs.Source.{Source}
use Rattle.sim_scope.specs.Standard.{signature}
use Rattle.sim_tree.specs.Syntax.{Expression, NoMore}
use Rattle.sim_tree.specs.Syntax as syntax
use Rattle.sim_code.specs.Transfers.{Transfer}
use Rattle.sim_meaning.specs.Attributes.{transfer_at}
use Rattle.sim_meaning.specs.Closing.{is_placed, is_text, result_meant, stream_of, own_match}
use Rattle.sim_meaning.specs.Entries.{formals_of as meant_formals}
use Rattle.sim_meaning.specs.Statements.{leaves}
use Rattle.sim_sound.specs.Held.{Holds, Place}
use Rattle.sim_sound.specs.Expressions.{ActualsFit, ExprIs}
use Rattle.sim_sound.specs.Statements.{OrTransferIs, is_given}
use Rattle.sim_agree.specs.Facts.{Tabled}
use Rattle.sim_meaning.specs.Checks.{passed}
use Rattle.sim_allowed.proofs.Headings.{HeadingIs, heading}
use Rattle.sim_allowed.proofs.Classes.{proper_value}
use Rattle.sim_allowed.proofs.Meant.{CallsFor, DotAs, Means, NamedAs, ProcedureIs, SetIs, StandardIs, Takes, TypeThere, Unowned, Unplaced, ValueIs, VirtualIs, IsChecked, Shown}
use Rattle.sim_allowed.proofs.Said.{AllSay, next_says}

-- ---- calls

-- what gives a value is no transfer of control
gives_value : (o : Option Transfer) (Other : Type 0) → OrTransferIs o (λ c. ⊥) Other → Other
gives_value None Other a = a
gives_value (Some c) Other a = absurd a

-- what a call is
call_value : (s : Source) (from : Place) (e : Expression) (type : SimType) → CallsFor s from e (Some type) → (h : Holds) → Takes s type h → ExprIs s from e h
call_value s from (syntax.Named x es) type a h f = (gives_value (transfer_at s x.token.0) (NamedAs s from x es (Some h) × (leaves s (syntax.Named x es) ≡ is_given (Some h))) (a h f)).0
call_value s from (syntax.Dot i a x es) type b h f = (gives_value (transfer_at s x.token.0) (DotAs s from a x es (Some h) × (leaves s (syntax.Dot i a x es) ≡ is_given (Some h))) (b h f)).0
call_value s from (syntax.New i class es) type a h f = a h f
call_value s from (syntax.If i a b c) type g h f = absurd (g h f)
call_value s from (syntax.Binary o i a b) type g h f = absurd (g h f)
call_value s from (syntax.Not i a) type g h f = absurd (g h f)
call_value s from (syntax.Signed o i a) type g h f = absurd (g h f)
call_value s from (syntax.Member m i a class) type g h f = absurd (g h f)
call_value s from (syntax.Qua i a class) type g h f = absurd (g h f)
call_value s from (syntax.Constant l i) type g h f = absurd (g h f)
call_value s from (syntax.This i class) type g h f = absurd (g h f)
call_value s from (syntax.Parentheses i a) type g h f = absurd (g h f)

pub call_means : (s : Source) (from : Place) (e : Expression) (result : Option SimType) → TypeThere s e result → CallsFor s from e result → (alone : Bool) → Unowned alone s e → Unplaced alone s e → Shown alone s e → Means alone s from e (call_of result)
call_means s from e None there call alone own free shown = call
call_means s from e (Some type) there call alone own free shown =
    (record { proper = proper_value s type there.0; texts = there.1; stream = there.2; typed = there.3; value = call_value s from e type call }, call, own, free, shown)

-- ---- calls without actuals

no_formals : (n : ℕ) (fs : List Formal) → n ≡ 0 → n ≡ length fs → fs ≡ []
no_formals n [] a b = refl
no_formals n (f ∷ fs) a b = absurd (omega (arith, a, b))

procedure_means : (s : Source) → Tabled s → (from : Place) (e : Expression) (d : DeclNo) (token : TokenNo) (own : Option DeclNo) (alone : Bool) (p : ProcedureIs s from e d own) → Unowned alone s e → Unplaced alone s e → Shown alone s e
    → AllSay s (called s.tables (is.Procedure d token own)).events → Means alone s from e (called s.tables (is.Procedure d token own)).value
unfolding called breaks gives telling
procedure_means s known from e d token own alone p none free shown said =
    subst (λ z. Means alone s from e (procedure_called token.0 (length (formals_of s.tables d)) z).value) (sym p.declared)
    (go (nat_eq (length (formals_of s.tables d)) 0) refl (subst (λ z. AllSay s (procedure_called token.0 (length (formals_of s.tables d)) z).events) p.declared said))
  where
    head : HeadingIs s d p.block
    head = heading s known d p.result p.block p.declared

    fit : length (formals_of s.tables d) ≡ 0 → ActualsFit s from NoMore (meant_formals s p.block)
    fit zero = subst (λ fs. ActualsFit s from NoMore fs) (sym (no_formals (length (formals_of s.tables d)) (meant_formals s p.block) zero head.count)) tt

    go : (b : Bool) → nat_eq (length (formals_of s.tables d)) 0 ≡ b → AllSay s (if b then gives (call_of p.result) else breaks token.0 r.WrongNumber).events
        → Means alone s from e (if b then gives (call_of p.result) else breaks token.0 r.WrongNumber).value
    go true zero said = call_means s from e p.result p.typed (p.calls (fit (grind (arith, nat_tests)))) alone none free shown
    go false other said = absurd said.0

set_means : (s : Source) (from : Place) (e : Expression) (d : DeclNo) (token : TokenNo) (own : Option DeclNo) (alone : Bool) (p : SetIs s from e d own) → Unowned alone s e → Unplaced alone s e → Shown alone s e
    → AllSay s (called s.tables (is.Procedure d token own)).events → Means alone s from e (called s.tables (is.Procedure d token own)).value
unfolding called breaks gives telling
set_means s from e d token own alone p none free shown said =
    subst (λ z. Means alone s from e (procedure_called token.0 (length (formals_of s.tables d)) z).value) (sym p.declared)
    (go p.parameter refl (subst (λ z. AllSay s (procedure_called token.0 (length (formals_of s.tables d)) z).events) p.declared said))
  where
    go : (w : Option SimType) → p.parameter ≡ w → AllSay s (procedure_called token.0 (length (formals_of s.tables d)) (Some (entry.Attribute p.name w p.result))).events
        → Means alone s from e (procedure_called token.0 (length (formals_of s.tables d)) (Some (entry.Attribute p.name w p.result))).value
    go None is said = call_means s from e p.result p.typed (p.calls is) alone none free shown
    go (Some ty) is said = absurd said.0

virtual_means : (s : Source) (from : Place) (e : Expression) (d : DeclNo) (token : TokenNo) (own : Option DeclNo) (alone : Bool) (p : VirtualIs s from e d own) → Unowned alone s e → Unplaced alone s e → Shown alone s e
    → AllSay s (called s.tables (is.Procedure d token own)).events → Means alone s from e (called s.tables (is.Procedure d token own)).value
unfolding called breaks gives telling
virtual_means s from e d token own alone p none free shown said = go (entry_of s.tables d) p.declared
  where
    given : (o : Option SimType) → o ≡ p.result → Means alone s from e (call_of o)
    given o same = subst (λ z. Means alone s from e (call_of z)) (sym same) (call_means s from e p.result p.typed p.calls alone none free shown)

    go : (o : Option Entry) → IsChecked o p.result → Means alone s from e (procedure_called token.0 (length (formals_of s.tables d)) o).value
    go (Some (entry.Virtual result k)) same = given result same
    go (Some (entry.Formal f)) same = given f.ty same.1
    go (Some (entry.Variable type)) same = absurd same
    go (Some (entry.Constant type)) same = absurd same
    go (Some (entry.Array type n)) same = absurd same
    go (Some (entry.Procedure result k)) same = absurd same
    go (Some (entry.Class k)) same = absurd same
    go (Some (entry.Unspecified w)) same = absurd same
    go (Some (entry.Attribute name w result)) same = absurd same
    go None same = absurd same

standard_means : (s : Source) (from : Place) (e : Expression) (name : StandardName) (token : TokenNo) (alone : Bool) → StandardIs s from e name → Unowned alone s e → Unplaced alone s e → Shown alone s e
    → AllSay s (called s.tables (is.Standard name token)).events → Means alone s from e (called s.tables (is.Standard name token)).value
unfolding called breaks gives telling
standard_means s from e name token alone p none free shown said = go (is_stream name) refl said
  where
    second : (first : Option SimType) → (signature name).first ≡ first → AllSay s (elim first as (λ z. Judged Outcome) [ None ↦ gives (call_of (signature name).result) | Some a ↦ breaks token.0 r.WrongNumber ]).events
        → is_stream name ≡ false → Means alone s from e (elim first as (λ z. Judged Outcome) [ None ↦ gives (call_of (signature name).result) | Some a ↦ breaks token.0 r.WrongNumber ]).value
    second None is said other = call_means s from e (signature name).result (p.typed other) (p.calls other is) alone none free shown
    second (Some a) is said other = absurd said.0

    go : (b : Bool) → is_stream name ≡ b → AllSay s (if b then breaks token.0 r.StandardNameLeftOut else signature_called token.0 (signature name)).events
        → Means alone s from e (if b then breaks token.0 r.StandardNameLeftOut else signature_called token.0 (signature name)).value
    go true there said = absurd said.0
    go false other said = second (signature name).first refl said other

-- what an expression is after calls are made
pub called_means : (s : Source) → Tabled s → (from : Place) (e : Expression) (o : Outcome) → Means true s from e o → AllSay s (called s.tables o).events → Means false s from e (called s.tables o).value
unfolding called gives
called_means s known from e is.Refused m said = absurd m
called_means s known from e is.NoValue m said = m
called_means s known from e is.NoValueInParentheses m said = tt
called_means s known from e (is.Value ty) m said = (m.0, tt, tt, tt)
called_means s known from e (is.Called ty) m said = (m.0, m.1, tt, tt, tt)
called_means s known from e (is.Variable ty) m said = (m.0, m.1, m.2, tt, tt)
called_means s known from e (is.Constant ty) m said = (m.0, tt, tt)
called_means s known from e (is.Array ty) m said = m
called_means s known from e (is.Procedure d token own) (inl p) said = procedure_means s known from e d token own false p tt tt tt said
called_means s known from e (is.Procedure d token own) (inr (inl p)) said = set_means s from e d token own false p tt tt tt said
called_means s known from e (is.Procedure d token own) (inr (inr p)) said = virtual_means s from e d token own false p tt tt tt said
called_means s known from e (is.Standard name token) m said = standard_means s from e name token false m tt tt tt said
called_means s known from e is.Class m said = tt
called_means s known from e (is.Barred b) m said = absurd m

-- ---- values

-- a value of a type, found so
pub record Valued (s : Source) (from : Place) (e : Expression) (o : Outcome) : Type 0 where
  pub ty : SimType
  pub is : o ≡ is.Value ty
  pub value : ValueIs s from e ty

value_means : (s : Source) (from : Place) (e : Expression) (first : ℕ) (o : Outcome) → Means false s from e o → AllSay s (value_of first o).events → Valued s from e (value_of first o).value
unfolding value_of gives breaks telling
value_means s from e first is.Refused m said = absurd m
value_means s from e first is.NoValue m said = absurd said.0
value_means s from e first is.NoValueInParentheses m said = absurd said.0
value_means s from e first (is.Value ty) m said = record { ty = ty; is = refl; value = m.0 }
value_means s from e first (is.Called ty) m said = record { ty = ty; is = refl; value = m.0 }
value_means s from e first (is.Variable ty) m said = record { ty = ty; is = refl; value = m.0 }
value_means s from e first (is.Constant ty) m said = record { ty = ty; is = refl; value = m.0 }
value_means s from e first (is.Array ty) m said = absurd said.0
value_means s from e first (is.Procedure d token own) m said = absurd m
value_means s from e first (is.Standard name token) m said = absurd m
value_means s from e first is.Class m said = absurd said.0
value_means s from e first (is.Barred b) m said = absurd m

pub valued_means : (s : Source) → Tabled s → (from : Place) (e : Expression) (first : ℕ) (o : Outcome) → Means true s from e o → AllSay s (valued s.tables first o).events → Valued s from e (valued s.tables first o).value
unfolding valued next
valued_means s known from e first o m said =
    let parts = next_says s (called s.tables o) (value_of first) said in
    value_means s from e first (called s.tables o).value (called_means s known from e o m parts.0) parts.1

-- an operand
pub record OperandIs (s : Source) (from : Place) (e : Expression) (x : Side) : Type 0 where
  pub ty : SimType
  pub is : x.ty ≡ Some ty
  pub value : ValueIs s from e ty

pub side_means : (s : Source) → Tabled s → (from : Place) (e : Expression) (first : ℕ) (o : Outcome) → Means true s from e o → AllSay s (side s.tables first o).events → OperandIs s from e (side s.tables first o).value
unfolding side next gives
side_means s known from e first o m said =
    let v = valued_means s known from e first o m (next_says s (valued s.tables first o) (λ v. gives (side_of first (type_in v))) said).0 in
    record { ty = v.ty; is = ap type_in v.is; value = v.value }

-- an expression in parentheses
pub parentheses_mean : (s : Source) → Tabled s → (from : Place) (e : Expression) (token first : ℕ) (o : Outcome) → Means true s from e o → AllSay s (in_parentheses s.tables first o).events
    → Means true s from (syntax.Parentheses token e) (in_parentheses s.tables first o).value
unfolding in_parentheses next is_text is_placed own_match result_meant stream_of parenthesized gives value_of breaks telling passed
parentheses_mean s known from e token first o m said =
    let parts = next_says s (called s.tables o) (parenthesized first) said in
    go (called s.tables o).value (called_means s known from e o m parts.0) parts.1
  where
    inside : (o : Outcome) → Valued s from e o → Means true s from (syntax.Parentheses token e) o
    inside o v = subst (λ z. Means true s from (syntax.Parentheses token e) z) (sym v.is) (record { proper = v.value.proper; texts = v.value.texts; stream = refl; typed = v.value.typed; value = v.value.value }, (refl, refl), refl, refl)

    go : (o : Outcome) → Means false s from e o → AllSay s (parenthesized first o).events → Means true s from (syntax.Parentheses token e) (parenthesized first o).value
    go is.NoValue m said = tt
    go is.NoValueInParentheses m said = tt
    go is.Refused m said = absurd m
    go (is.Value ty) m said = inside (is.Value ty) (value_means s from e first (is.Value ty) m said)
    go (is.Called ty) m said = inside (is.Value ty) (value_means s from e first (is.Called ty) m said)
    go (is.Variable ty) m said = inside (is.Value ty) (value_means s from e first (is.Variable ty) m said)
    go (is.Constant ty) m said = inside (is.Value ty) (value_means s from e first (is.Constant ty) m said)
    go (is.Array ty) m said = absurd said.0
    go (is.Procedure d t own) m said = absurd m
    go (is.Standard name t) m said = absurd m
    go is.Class m said = absurd said.0
    go (is.Barred b) m said = absurd m
