-- What an identifier is, alone and with actuals.
use Rattle.std.proofs.Common.{◌≡◌, ◌⊎◌, inl, inr, ℕ, Bool, true, false, List, [], ◌∷◌, Option, Some, None, refl, sym, ap, ◌∙◌, subst, arith, if◌then◌else◌}
use Rattle.std.proofs.lemmas.Bool.{false≢true}
use Rattle.std.proofs.lemmas.Bool.Decides.{nat_tests}
use Rattle.std.specs.Prelude.{nat_eq}
use Rattle.sim_base.specs.declared.numbering.DeclNo.{DeclNo}
use Rattle.sim_base.specs.declared.numbering.TokenNo.{TokenNo}
use Rattle.sim_base.specs.declared.rule.Rule.TheVariants as r
use Rattle.sim_scope.specs.declared.found.Fault.{Fault}
use Rattle.sim_scope.specs.declared.outcome.Actuals.{Actuals}
use Rattle.sim_scope.specs.declared.outcome.Extent.{Extent}
use Rattle.sim_scope.specs.declared.outcome.Occurrence.{Occurrence}
use Rattle.sim_scope.specs.declared.outcome.Outcome.{Outcome}
use Rattle.sim_scope.specs.declared.outcome.Outcome.TheVariants as is
use Rattle.sim_scope.specs.declared.scopes.Denotation.{Denotation}
use Rattle.sim_scope.specs.declared.scopes.Denotation.TheVariants as denotation
use Rattle.sim_scope.specs.declared.standard.StandardName.{StandardName}
use Rattle.sim_scope.specs.declared.standard.StandardName.TheVariants as found
use Rattle.sim_scope.specs.declared.types.Entry.{Entry}
use Rattle.sim_scope.specs.declared.types.Entry.TheVariants as entry
use Rattle.sim_scope.specs.declared.types.Formal.{Formal}
use Rattle.sim_scope.specs.declared.types.SimType.{SimType}
use Rattle.sim_scope.specs.Calls.{bound, found_as, is_barred, located, misfitting_or, occurs, parameter_count, resulting, standard_applied, typed_if, used_in, used_or_barred, match_seen, own_of}
use Rattle.sim_scope.specs.Judged.{Judged, gives, next, telling}
use Rattle.sim_scope.specs.Outcomes.{breaks, call_of, is_stream}
use Rattle.sim_scope.specs.Scopes.{binding, entry_of, found_in, entry_is, is_virtual}
use Rattle.sim_scope.specs.Source.{Source, denoted, found_at, type_at}
use Rattle.sim_scope.specs.Standard.{is_standard_class, signature}
use Rattle.sim_tree.specs.declared.expr.Identifier.{Identifier}
use Rattle.sim_tree.specs.Syntax.{Expression, Expressions, NoMore, Then}
use Rattle.sim_tree.specs.Syntax as syntax
use Rattle.sim_values.specs.declared.kind.Kind.TheVariants as kind
use Rattle.sim_values.specs.declared.standard.Standard.TheVariants as name_of
use Rattle.sim_code.specs.Simulations.{is_simulation_name}
use Rattle.sim_code.specs.Transfers.{Calling, Detaching, Resuming, Transfer}
use Rattle.sim_meaning.specs.Attributes.{attribute_denoted, attribute_if, connection_at, is_standard_attribute, own_attribute, transfer_at, transfer_denoted, transfer_named}
use Rattle.sim_meaning.specs.Closing.{is_attribute_denoted, is_placed, is_text, is_text_type, own_block, own_block_denoted, own_result, result_meant, stream_denoted, stream_of, typed_token, unless_connected, is_virtual_denoted, match_if_virtual, own_match, result_or_own}
use Rattle.sim_meaning.specs.Names.{procedure_named, stream_named}
use Rattle.sim_meaning.specs.Statements.{denoted_leaves, leaves}
use Rattle.sim_meaning.specs.Virtuals.{text_of_procedure}
use Rattle.sim_sound.specs.Held.{Holds, In, InBound, Place, Refers, Simply, held_by}
use Rattle.sim_sound.specs.Expressions.{ActualsFit, AreIntegers, AreOf, DeclaredGives, DotGives, ExprIs, IdentifierGives, KnownAt, NamedGives, ObjectHas, OwnGives, OwnKnown, OwnNameGives, ParametersAre, PlaceDeclared, PlaceDot, PlaceNamed, SetGives, SimulationGives, SimulationKnown, ThisFound, ProcedureDeclared, ProcedureDot, ProcedureNamed, ProcedureIs as GivesProcedure}
use Rattle.sim_sound.specs.Statements.{LeftDeclared, OrTransferIs, TransferIs, is_given, LeftResultOr}
use Rattle.sim_agree.specs.Facts.{PlainGiven}
use Rattle.sim_agree.proofs.Unprefixed.{standard_is as standard_found}
use Rattle.sim_meaning.specs.Checks.{denoted_passed, passed, value_passed}
use Rattle.sim_allowed.proofs.Actuals.{AllFit, all_operands, size}
use Rattle.sim_allowed.proofs.Calls.{call_means}
use Rattle.sim_allowed.proofs.Classes.{plain_proper, plain_same}
use Rattle.sim_allowed.proofs.Declared.{GivenFor, NoResult, UseGives, UseIs, WhenAlone, shown_as}
use Rattle.sim_allowed.proofs.Meant.{CallGiven, CallsFor, DotAs, GivesNone, InText, Means, NamedAs, TypeThere, Varies, NoOwn}
use Rattle.sim_allowed.proofs.Names.{IsProcedure, NoAttribute, alone_name, call_kinds, call_result, detach_kinds, detach_result, given_by, kinds_of, parameter_kinds, resume_kinds, resume_result, standard_gives, standard_left, which_transfer}
use Rattle.sim_allowed.proofs.Nowhere.{is_nowhere}
use Rattle.sim_allowed.proofs.Said.{AllSay, both_say}
use Rattle.sim_allowed.proofs.Sights.{OwnHere, ThroughSeen}
use Rattle.sim_allowed.proofs.Simulations.{AttributeThere, EitherAttribute, of_class}

-- ---- what an identifier denotes

pub record BoundIs (s : Source) (x : Extent) (name : Identifier) (o : Occurrence) : Type 0 where
  pub denotation : Denotation
  pub is : o ≡ occurs (Some denotation) false
  pub says : denoted s name.token.0 ≡ Some denotation
  pub binds : binding s.tables name.token.0 name.name ≡ Some denotation
  pub open_to : is_barred s.tables x name.token.0 denotation ≡ false
  pub found : (block : ℕ) → found_in s.tables name.token.0 name.name ≡ Some block → found_at s name.token.0 ≡ Some block
  pub nowhere : is_nowhere denotation ≡ true → found_at s name.token.0 ≡ None

pub located_says : (s : Source) (token : ℕ) (o : Option ℕ) → AllSay s (located token o).events → (block : ℕ) → o ≡ Some block → found_at s token ≡ Some block
unfolding located gives telling
located_says s token None said block e = absurd (cc)
located_says s token (Some c) said block e = let same : c ≡ block = cc in said.0 ∙ ap Some same

pub bound_is : (s : Source) (x : Extent) (name : Identifier) → AllSay s (bound s.tables x name).events → BoundIs s x name (bound s.tables x name).value
unfolding bound used_in next telling
bound_is s x name said = go (binding s.tables name.token.0 name.name) refl said
  where
    barred : (d : Denotation) → binding s.tables name.token.0 name.name ≡ Some d → ((block : ℕ) → found_in s.tables name.token.0 name.name ≡ Some block → found_at s name.token.0 ≡ Some block)
        → (b : Bool) → is_barred s.tables x name.token.0 d ≡ b → AllSay s (used_or_barred name.token.0 d b).events → BoundIs s x name (used_or_barred name.token.0 d b).value
    barred d e found true b said = absurd said.0
    barred d e found false b said = (let use_said = said.0 in record { denotation = d; is = refl; says = use_said.0; binds = e; open_to = b; found = found; nowhere = use_said.1 })

    go : (o : Option Denotation) → binding s.tables name.token.0 name.name ≡ o → AllSay s (found_as s.tables x name.token.0 name.name o).events → BoundIs s x name (found_as s.tables x name.token.0 name.name o).value
    go None e said = absurd said.0
    go (Some d) e said =
        let both = both_say s (located name.token.0 (found_in s.tables name.token.0 name.name)).events (used_or_barred name.token.0 d (is_barred s.tables x name.token.0 d)).events said in
        barred d e (located_says s name.token.0 (found_in s.tables name.token.0 name.name) both.0) (is_barred s.tables x name.token.0 d) refl both.1

-- a standard name that is found alone is no attribute of texts
pub bound_name : (s : Source) (token : ℕ) (name : List ℕ) (k : StandardName) → binding s.tables token name ≡ Some (denotation.Standard k) → NoAttribute k
bound_name s token name k e = alone_name name k (standard_found s.tables token name k e)

-- ---- types of what is named

typed_is : (token : ℕ) (result : Option SimType) (o : Outcome) → (typed_if token result o).value ≡ o
unfolding telling gives
typed_is token None o = refl
typed_is token (Some ty) o = refl

-- no misfit, where no rule is broken
no_misfit : (s : Source) (m : Option Fault) (j : Judged Outcome) → AllSay s (misfitting_or m j).events → m ≡ None
unfolding breaks telling
no_misfit s None j said = refl
no_misfit s (Some f) j said = absurd said.0

-- ---- standard names, alone or behind a dot

no_stream : (name : StandardName) → is_stream name ≡ false → stream_named name ≡ None
no_stream found.Sysin e = absurd (false≢true (sym e))
no_stream found.Sysout e = absurd (false≢true (sym e))
no_stream _ e = refl

is_procedure : (name : StandardName) → NoAttribute name → is_stream name ≡ false → is_standard_class name ≡ false → transfer_named (procedure_named name) ≡ None → IsProcedure name
unfolding is_standard_class
is_procedure found.Sysin a e class none = absurd (false≢true (sym e))
is_procedure found.Sysout a e class none = absurd (false≢true (sym e))
is_procedure (found.Prefix which) a e class none = absurd (false≢true (sym class))
is_procedure (found.Procedure x) a e class none = (a, none)

no_parameters : (first second : Option SimType) → first ≡ None → parameter_kinds first second ≡ []
no_parameters None second e = refl
no_parameters (Some a) second e = absurd (cc)

module _ (s : Source) (from : Place) (e : Expression) (name : StandardName) (naming : ℕ) (at : typed_token e ≡ naming) (stream : stream_of s e ≡ stream_named name) (unowned : NoOwn s e) (unplaced : is_placed s e ≡ false) (shown : passed s e ≡ value_passed s e) (proper : PlainGiven (signature name).result) where
  type_there : (o : Outcome) → AllSay s (typed_if naming (signature name).result o).events → is_stream name ≡ false → TypeThere s e (signature name).result
  unfolding telling gives is_text
  type_there o said other = go (signature name).result proper said
    where
      go : (w : Option SimType) → PlainGiven w → AllSay s (typed_if naming w o).events → TypeThere s e w
      go None p said = tt
      go (Some type) p said = let typed = ap (type_at s) at ∙ said.0 in (plain_proper s type p, ap is_text_type typed, stream ∙ no_stream name other, typed)

  -- without any
  pub standard_without : (token : TokenNo) → (is_stream name ≡ false → is_standard_class name ≡ false → AreOf s from NoMore (kinds_of (signature name)) → CallsFor s from e (signature name).result)
      → AllSay s (if is_standard_class name then gives is.Class else typed_if naming (signature name).result (is.Standard name token)).events
      → Means true s from e (if is_standard_class name then gives is.Class else typed_if naming (signature name).result (is.Standard name token)).value
  unfolding gives
  standard_without token calls said = go (is_standard_class name) refl said
    where
      typed : is_standard_class name ≡ false → AllSay s (typed_if naming (signature name).result (is.Standard name token)).events → Means true s from e (typed_if naming (signature name).result (is.Standard name token)).value
      typed class said = subst (λ z. Means true s from e z) (sym (typed_is naming (signature name).result (is.Standard name token))) (record {
        calls = λ other none. calls other class (subst (λ ks. AreOf s from NoMore ks) (sym (no_parameters (signature name).first (signature name).second none)) tt);
        typed = type_there (is.Standard name token) said;
        stream = stream;
        unowned = unowned;
        unplaced = unplaced;
        shown = shown;
      })

      go : (b : Bool) → is_standard_class name ≡ b → AllSay s (if b then gives is.Class else typed_if naming (signature name).result (is.Standard name token)).events
          → Means true s from e (if b then gives is.Class else typed_if naming (signature name).result (is.Standard name token)).value
      go true is said = tt
      go false is said = typed is said

  -- with operands
  pub standard_with : (es : Expressions) → (is_stream name ≡ false → is_standard_class name ≡ false → AreOf s from es (kinds_of (signature name)) → CallsFor s from e (signature name).result)
      → (a : Actuals) → a.count ≡ size es → (a.misfit ≡ None → AllFit s from (Some (denotation.Standard name)) 0 es) → (token : ℕ) → AllSay s (standard_applied naming token name (signature name) a).events → Means true s from e (standard_applied naming token name (signature name) a).value
  unfolding resulting breaks telling
  standard_with es calls a count fits token said = go (is_stream name) refl said
    where
      result : is_stream name ≡ false → is_standard_class name ≡ false → parameter_count (signature name) ≡ a.count → (m : Option Fault) → a.misfit ≡ m → AllSay s (resulting naming m (signature name).result).events → Means true s from e (resulting naming m (signature name).result).value
      result other class same (Some f) is said = absurd said.0
      result other class same None is said =
          subst (λ z. Means true s from e z) (sym (typed_is naming (signature name).result (call_of (signature name).result)))
          (call_means s from e (signature name).result (type_there (call_of (signature name).result) said other) (calls other class (all_operands s from name es (same ∙ count) (fits is))) true unowned unplaced shown)

      counted : is_stream name ≡ false → is_standard_class name ≡ false → (b : Bool) → nat_eq (parameter_count (signature name)) a.count ≡ b → AllSay s (if b then resulting naming a.misfit (signature name).result else breaks token r.WrongNumber).events
          → Means true s from e (if b then resulting naming a.misfit (signature name).result else breaks token r.WrongNumber).value
      counted other class true same said = result other class (grind (arith, nat_tests)) a.misfit refl said
      counted other class false same said = absurd said.0

      tested : is_stream name ≡ false → (c : Bool) → is_standard_class name ≡ c → AllSay s (if c then breaks token r.WrongKind else if nat_eq (parameter_count (signature name)) a.count then resulting naming a.misfit (signature name).result else breaks token r.WrongNumber).events
          → Means true s from e (if c then breaks token r.WrongKind else if nat_eq (parameter_count (signature name)) a.count then resulting naming a.misfit (signature name).result else breaks token r.WrongNumber).value
      tested other true is said = absurd said.0
      tested other false is said = counted other is (nat_eq (parameter_count (signature name)) a.count) refl said

      go : (b : Bool) → is_stream name ≡ b → AllSay s (if b then breaks token r.StandardNameLeftOut else if is_standard_class name then breaks token r.WrongKind else if nat_eq (parameter_count (signature name)) a.count then resulting naming a.misfit (signature name).result else breaks token r.WrongNumber).events
          → Means true s from e (if b then breaks token r.StandardNameLeftOut else if is_standard_class name then breaks token r.WrongKind else if nat_eq (parameter_count (signature name)) a.count then resulting naming a.misfit (signature name).result else breaks token r.WrongNumber).value
      go true is said = absurd said.0
      go false is said = tested is (is_standard_class name) refl said

-- ---- calls of standard names

pub plain_given : (s : Source) (Given : Option Holds → Type 0) (result : Option SimType) → PlainGiven result → Given (given_by result) → GivenFor s Given result
plain_given s G None p v = v
plain_given s G (Some type) p v = λ h f. subst (λ z. G (Some z)) (plain_same s type h p f) v

pub named_calls : (s : Source) (from : Place) (x : Identifier) (es : Expressions) (result : Option SimType) → GivenFor s (CallGiven s from (syntax.Named x es)) result → CallsFor s from (syntax.Named x es) result
named_calls s from x es None g = g
named_calls s from x es (Some type) g = g

pub dot_calls : (s : Source) (from : Place) (i : ℕ) (a : Expression) (x : Identifier) (es : Expressions) (result : Option SimType) → GivenFor s (CallGiven s from (syntax.Dot i a x es)) result → CallsFor s from (syntax.Dot i a x es) result
dot_calls s from i a x es None g = g
dot_calls s from i a x es (Some type) g = g

-- an identifier, with the connection through which it is seen, or as a procedure of SIMSET
abbrev IdentifierAs : Source → Place → Identifier → Expressions → (connection : Option ℕ) → (own : Option DeclNo) → Option Holds → Type 0
IdentifierAs s from x es c own h = IdentifierGives s from x.token.0 c own es (AreIntegers s from es) (ParametersAre s from es) (λ ks. AreOf s from es ks) (λ fs. ActualsFit s from es fs) h

-- whether an identifier denotes a transfer of control
pub standard_transfers : (s : Source) (token : ℕ) (name : StandardName) → denoted s token ≡ Some (denotation.Standard name) → transfer_at s token ≡ transfer_named (procedure_named name)
unfolding transfer_at
standard_transfers s token name says = ap transfer_denoted says

-- whether it denotes a procedure of SIMSET
own_standard : (s : Source) (token : ℕ) (name : StandardName) → denoted s token ≡ Some (denotation.Standard name) → own_attribute s token ≡ None
unfolding own_attribute
own_standard s token name says = ap (attribute_denoted s) says

pub own_declared : (s : Source) (token : ℕ) (d : DeclNo) → denoted s token ≡ Some (denotation.Declared d) → own_attribute s token ≡ attribute_if (is_standard_attribute (entry_of s.tables d)) d
unfolding own_attribute
own_declared s token d says = ap (attribute_denoted s) says

declared_transfers : (s : Source) (token : ℕ) (d : DeclNo) → denoted s token ≡ Some (denotation.Declared d) → transfer_at s token ≡ None
unfolding transfer_at
declared_transfers s token d says = ap transfer_denoted says

-- what a call gives that is no transfer of control, and one that is
named_given : (s : Source) (from : Place) (x : Identifier) (es : Expressions) (h : Option Holds) → transfer_at s x.token.0 ≡ None → NamedAs s from x es h → leaves s (syntax.Named x es) ≡ is_given h → CallGiven s from (syntax.Named x es) h
named_given s from x es h none a left =
    subst (λ o. OrTransferIs o (λ c. GivesNone (InText from (λ t. TransferIs s t c (found_at s x.token.0) es)) h) (NamedAs s from x es h × (leaves s (syntax.Named x es) ≡ is_given h))) (sym none) (a, left)

named_transfers : (s : Source) (from : Place) (x : Identifier) (es : Expressions) (c : Transfer) → transfer_at s x.token.0 ≡ Some c → InText from (λ t. TransferIs s t c (found_at s x.token.0) es) → CallGiven s from (syntax.Named x es) None
named_transfers s from x es c is a =
    subst (λ o. OrTransferIs o (λ c. GivesNone (InText from (λ t. TransferIs s t c (found_at s x.token.0) es)) None) (NamedAs s from x es None × (leaves s (syntax.Named x es) ≡ is_given None))) (sym is) a

pub dot_given : (s : Source) (from : Place) (i : ℕ) (a : Expression) (x : Identifier) (es : Expressions) (h : Option Holds) → transfer_at s x.token.0 ≡ None → DotAs s from a x es h → leaves s (syntax.Dot i a x es) ≡ is_given h
    → CallGiven s from (syntax.Dot i a x es) h
dot_given s from i a x es h none b left =
    subst (λ o. OrTransferIs o (λ c. GivesNone (ExprIs s from a (Simply kind.Reference) × AreOf s from es []) h) (DotAs s from a x es h × (leaves s (syntax.Dot i a x es) ≡ is_given h))) (sym none) (b, left)

-- `detach` of an object, behind a dot
pub dot_detaches : (s : Source) (from : Place) (i : ℕ) (a : Expression) (x : Identifier) (es : Expressions) → denoted s x.token.0 ≡ Some (denotation.Standard (found.Procedure name_of.Detach)) → ExprIs s from a (Simply kind.Reference)
    → AreOf s from es (kinds_of (signature (found.Procedure name_of.Detach))) → CallsFor s from (syntax.Dot i a x es) (signature (found.Procedure name_of.Detach)).result
dot_detaches s from i a x es says object are =
    subst (λ z. CallsFor s from (syntax.Dot i a x es) z) (sym detach_result)
    (subst (λ o. OrTransferIs o (λ c. GivesNone (ExprIs s from a (Simply kind.Reference) × AreOf s from es []) None) (DotAs s from a x es None × (leaves s (syntax.Dot i a x es) ≡ is_given None)))
    (sym (standard_transfers s x.token.0 (found.Procedure name_of.Detach) says)) (object, subst (λ ks. AreOf s from es ks) detach_kinds are))

-- an expression that names a standard procedure, with its operands
pub standard_call : (s : Source) (from : Place) (x : Identifier) (es : Expressions) (name : StandardName) → denoted s x.token.0 ≡ Some (denotation.Standard name) → (transfer_named (procedure_named name) ≡ None → connection_at s x.token.0 ≡ None)
    → (name ≡ found.Procedure name_of.Detach → InText from (λ t. ThisFound s (In t) (found_at s x.token.0) (Simply kind.Reference))) → NoAttribute name → is_stream name ≡ false → is_standard_class name ≡ false → PlainGiven (signature name).result
    → AreOf s from es (kinds_of (signature name)) → CallsFor s from (syntax.Named x es) (signature name).result
standard_call s from x es name says unconnected around alone other class proper are = go (which_transfer name)
  where
    transfers : (k : StandardName) → name ≡ k → transfer_at s x.token.0 ≡ transfer_named (procedure_named k)
    transfers k is = standard_transfers s x.token.0 name says ∙ ap (λ z. transfer_named (procedure_named z)) is

    are_of : (k : StandardName) → name ≡ k → AreOf s from es (kinds_of (signature k))
    are_of k is = subst (λ z. AreOf s from es (kinds_of (signature z))) is are

    back : (k : StandardName) → name ≡ k → (signature k).result ≡ None → CallGiven s from (syntax.Named x es) None → CallsFor s from (syntax.Named x es) (signature name).result
    back k is none a = subst (λ z. CallsFor s from (syntax.Named x es) (signature z).result) (sym is) (subst (λ z. CallsFor s from (syntax.Named x es) z) (sym none) a)

    detaches : (f : Place) → InText f (λ t. ThisFound s (In t) (found_at s x.token.0) (Simply kind.Reference)) → AreOf s f es [] → InText f (λ t. TransferIs s t Detaching (found_at s x.token.0) es)
    detaches (In t) found are = (found, are)
    detaches (InBound t) found are = tt

    calls : (f : Place) → AreOf s f es (kind.Reference ∷ []) → InText f (λ t. TransferIs s t Calling (found_at s x.token.0) es)
    calls (In t) are = are
    calls (InBound t) are = tt

    resumes : (f : Place) → AreOf s f es (kind.Reference ∷ []) → InText f (λ t. TransferIs s t Resuming (found_at s x.token.0) es)
    resumes (In t) are = are
    resumes (InBound t) are = tt

    done : transfer_named (procedure_named name) ≡ None → CallsFor s from (syntax.Named x es) (signature name).result
    done none =
        named_calls s from x es (signature name).result (plain_given s (CallGiven s from (syntax.Named x es)) (signature name).result proper (
        named_given s from x es (given_by (signature name).result) (standard_transfers s x.token.0 name says ∙ none)
        (subst (λ c. IdentifierAs s from x es c (own_attribute s x.token.0) (given_by (signature name).result)) (sym (unconnected none))
        (subst (λ o. IdentifierAs s from x es None o (given_by (signature name).result)) (sym (own_standard s x.token.0 name says))
        (subst (λ z. NamedGives s from None z es (AreIntegers s from es) (ParametersAre s from es) (λ ks. AreOf s from es ks) (λ fs. ActualsFit s from es fs) (given_by (signature name).result)) (sym says)
        (standard_gives name (is_procedure name alone other class none) (λ ks. AreOf s from es ks) are))))
        (ap (denoted_leaves s) says ∙ sym (standard_left name))
        ))

    go : (name ≡ found.Procedure name_of.Detach) ⊎ ((name ≡ found.Procedure name_of.Call) ⊎ ((name ≡ found.Procedure name_of.Resume) ⊎ (transfer_named (procedure_named name) ≡ None))) → CallsFor s from (syntax.Named x es) (signature name).result
    go (inl is) =
        let k = found.Procedure name_of.Detach in
        back k is detach_result (named_transfers s from x es Detaching (transfers k is) (detaches from (around is) (subst (λ ks. AreOf s from es ks) detach_kinds (are_of k is))))
    go (inr (inl is)) =
        let k = found.Procedure name_of.Call in
        back k is call_result (named_transfers s from x es Calling (transfers k is) (calls from (subst (λ ks. AreOf s from es ks) call_kinds (are_of k is))))
    go (inr (inr (inl is))) =
        let k = found.Procedure name_of.Resume in
        back k is resume_result (named_transfers s from x es Resuming (transfers k is) (resumes from (subst (λ ks. AreOf s from es ks) resume_kinds (are_of k is))))
    go (inr (inr (inr none))) = done none

-- ---- identifiers and attributes that are declared

-- what is no procedure is a left side where it is a place
place_left : (s : Source) (Known Indices : Type 0) (Own : ℕ → Type 0) (es : Expressions) (e : Entry) (h : Holds) → PlaceDeclared s Known es Indices (Some e) h → LeftDeclared s Known Own es Indices (Some e) h
place_left s K I Own NoMore (entry.Variable type) h a = a
place_left s K I Own NoMore (entry.Constant type) h a = a
place_left s K I Own NoMore (entry.Array type n) h a = a
place_left s K I Own NoMore (entry.Class k) h a = a
place_left s K I Own NoMore (entry.Virtual result own) h a = a
place_left s K I Own NoMore (entry.Formal f) h a = a
place_left s K I Own NoMore (entry.Unspecified w) h a = a
place_left s K I Own NoMore (entry.Attribute name w result) h a = a
place_left s K I Own NoMore (entry.Procedure result k) h a = absurd a
place_left s K I Own (Then e es) (entry.Variable type) h a = a
place_left s K I Own (Then e es) (entry.Constant type) h a = a
place_left s K I Own (Then e es) (entry.Array type n) h a = a
place_left s K I Own (Then e es) (entry.Class k) h a = a
place_left s K I Own (Then e es) (entry.Virtual result own) h a = a
place_left s K I Own (Then e es) (entry.Formal f) h a = a
place_left s K I Own (Then e es) (entry.Unspecified w) h a = a
place_left s K I Own (Then e es) (entry.Attribute name w result) h a = a
place_left s K I Own (Then e es) (entry.Procedure result k) h a = absurd a

pub left_there : (s : Source) (Known Indices : Type 0) (Own : ℕ → Type 0) (es : Expressions) (o : Option Entry) (h : Holds) → PlaceDeclared s Known es Indices o h → LeftDeclared s Known Own es Indices o h
left_there s K I Own es None h a = absurd a
left_there s K I Own es (Some e) h a = place_left s K I Own es e h a

pub unconnected_none : (c : Option ℕ) → unless_connected c None ≡ None
unconnected_none None = refl
unconnected_none (Some k) = refl

-- a left side that is the result of no match
pub left_or : (s : Source) (t : ℕ) (c m : Option ℕ) (h : Holds) (Other : Type 0) → m ≡ None → Other → LeftResultOr s t c m h Other
left_or s t None None h O e a = a
left_or s t (Some k) None h O e a = a
left_or s t c (Some b) h O e a = absurd (cc)

-- it is the result of no match
no_match_of : (s : Source) (x : Identifier) (es : Expressions) → is_virtual_denoted s (denoted s x.token.0) ≡ false → own_match s (syntax.Named x es) ≡ None
unfolding own_match
no_match_of s x (Then e es) plain = refl
no_match_of s x NoMore plain = ap (λ c. match_if_virtual c (own_of s.tables x (match_seen s.tables x))) plain

pub no_match : (s : Source) (x : Identifier) (d : DeclNo) (es : Expressions) → denoted s x.token.0 ≡ Some (denotation.Declared d) → entry_is is_virtual (entry_of s.tables d) ≡ false → own_match s (syntax.Named x es) ≡ None
no_match s x d es says plain = no_match_of s x es (ap (is_virtual_denoted s) says ∙ plain)

pub standard_no_match : (s : Source) (x : Identifier) (es : Expressions) (name : StandardName) → denoted s x.token.0 ≡ Some (denotation.Standard name) → own_match s (syntax.Named x es) ≡ None
standard_no_match s x es name says = no_match_of s x es (ap (is_virtual_denoted s) says)

result_no_match : (s : Source) (x : Identifier) (d : DeclNo) (es : Expressions) → denoted s x.token.0 ≡ Some (denotation.Declared d) → NoResult (entry_of s.tables d) es → own_match s (syntax.Named x es) ≡ None
unfolding own_match
result_no_match s x d (Then e es) says none = refl
result_no_match s x d NoMore says none = no_match s x d NoMore says (go (entry_of s.tables d) none)
  where
    go : (o : Option Entry) → NoResult o NoMore → entry_is is_virtual o ≡ false
    go None n = refl
    go (Some (entry.Procedure result k)) n = refl
    go (Some (entry.Variable type)) n = refl
    go (Some (entry.Constant type)) n = refl
    go (Some (entry.Array type m)) n = refl
    go (Some (entry.Class k)) n = refl
    go (Some (entry.Virtual result own)) n = absurd n
    go (Some (entry.Formal f)) n = refl
    go (Some (entry.Unspecified w)) n = refl
    go (Some (entry.Attribute name w result)) n = refl

-- then what is meant is the result of the procedure that is denoted
pub meant_without : (s : Source) (x : Identifier) (es : Expressions) → own_match s (syntax.Named x es) ≡ None → result_meant s (syntax.Named x es) ≡ unless_connected (connection_at s x.token.0) (own_result s (syntax.Named x es))
unfolding result_meant
meant_without s x es none = ap (λ m. unless_connected (connection_at s x.token.0) (result_or_own (text_of_procedure s m) (own_result s (syntax.Named x es)))) none

no_own : (s : Source) (x : Identifier) (d : DeclNo) (es : Expressions) → denoted s x.token.0 ≡ Some (denotation.Declared d) → NoResult (entry_of s.tables d) es → own_result s (syntax.Named x es) ≡ None
unfolding own_result
no_own s x d (Then e es) says none = refl
no_own s x d NoMore says none = ap (own_block_denoted s x.token.0) says ∙ go (entry_of s.tables d) none
  where
    go : (o : Option Entry) → NoResult o NoMore → own_block s x.token.0 o ≡ None
    go None n = refl
    go (Some (entry.Procedure result k)) n = absurd n
    go (Some (entry.Variable type)) n = refl
    go (Some (entry.Constant type)) n = refl
    go (Some (entry.Array type m)) n = refl
    go (Some (entry.Class k)) n = refl
    go (Some (entry.Virtual result own)) n = refl
    go (Some (entry.Formal f)) n = refl
    go (Some (entry.Unspecified w)) n = refl
    go (Some (entry.Attribute name w result)) n = refl

-- how what an identifier denotes is known where it stands
abbrev pub KnownHere : Source → Place → (token : ℕ) → (connection : Option ℕ) → (own : Option DeclNo) → DeclNo → Type 0
KnownHere s from token None (Some q) d = OwnHere s from token d (entry_of s.tables d)
KnownHere s from token None None d = KnownAt s from None d
KnownHere s from token (Some k) own d = KnownAt s from (Some k) d

-- a procedure of SIMSET is what is denoted
record IsOwn (s : Source) (q d : DeclNo) : Type 0 where
  is : is_standard_attribute (entry_of s.tables d) ≡ true
  same : d ≡ q

own_is : (s : Source) (q d : DeclNo) → Some q ≡ attribute_if (is_standard_attribute (entry_of s.tables d)) d → IsOwn s q d
own_is s q d e = go (is_standard_attribute (entry_of s.tables d)) refl e
  where
    go : (b : Bool) → is_standard_attribute (entry_of s.tables d) ≡ b → Some q ≡ attribute_if b d → IsOwn s q d
    go true is e = record { is = is; same = cc }
    go false is e = absurd (cc)

pub known_here : (s : Source) (from : Place) (token : ℕ) (d : DeclNo) (c : Option ℕ) (own : Option DeclNo) → own ≡ attribute_if (is_standard_attribute (entry_of s.tables d)) d → KnownAt s from c d
    → (is_standard_attribute (entry_of s.tables d) ≡ true → c ≡ None → OwnHere s from token d (entry_of s.tables d)) → KnownHere s from token c own d
known_here s from token d (Some k) own e at seen = at
known_here s from token d None None e at seen = at
known_here s from token d None (Some q) e at seen = seen (own_is s q d e).is refl

-- where it is none of `simulation` itself it gives what is declared
declared_gives : (s : Source) (Known Indices Checked : Type 0) (Actuals : List Formal → Type 0) (d : DeclNo) (es : Expressions) (o : Option Entry) (h : Option Holds) → AttributeThere o → UseGives s Known d es Indices Checked Actuals o h → DeclaredGives s Known d es Indices Checked Actuals o h
declared_gives s K I C A d es (Some (entry.Attribute name w result)) h is a = (is, a.0, a.1, a.2)
declared_gives s K I C A d es (Some (entry.Variable type)) h is a = a
declared_gives s K I C A d es (Some (entry.Constant type)) h is a = a
declared_gives s K I C A d es (Some (entry.Array type n)) h is a = a
declared_gives s K I C A d es (Some (entry.Procedure result k)) h is a = a
declared_gives s K I C A d es (Some (entry.Class k)) h is a = a
declared_gives s K I C A d es (Some (entry.Virtual result own)) h is a = a
declared_gives s K I C A d es (Some (entry.Formal f)) (Some h) is a = a
declared_gives s K I C A d es (Some (entry.Formal f)) None is a = a
declared_gives s K I C A d es (Some (entry.Unspecified w)) h is a = a
declared_gives s K I C A d es None h is a = a

-- and an attribute is one of both
own_gives : (s : Source) (from : Place) (token : ℕ) (d : DeclNo) (es : Expressions) (I C : Type 0) (A : List Formal → Type 0) (o : Option Entry) (h : Option Holds) → EitherAttribute o → is_standard_attribute o ≡ true → UseGives s (OwnHere s from token d o) d es I C A o h
    → OwnGives s from token d A o h (DeclaredGives s (OwnKnown s from token d) d es I C A o h)
own_gives s from token d es I C A (Some (entry.Attribute name w result)) h either e a = go (is_simulation_name name) refl a.1
  where
    go : (c : Bool) → is_simulation_name name ≡ c → OwnNameGives c (SimulationKnown s from token d) (OwnKnown s from token d)
        → OwnNameGives c (SimulationGives s (SimulationKnown s from token d) w result A h) (SetGives s (OwnKnown s from token d) name w result A h)
    go true is known = (a.0, known, a.2)
    go false is known = (of_class name either is, a.0, known, a.2)
own_gives s from token d es I C A (Some (entry.Variable type)) h either e a = absurd (false≢true e)
own_gives s from token d es I C A (Some (entry.Constant type)) h either e a = absurd (false≢true e)
own_gives s from token d es I C A (Some (entry.Array type n)) h either e a = absurd (false≢true e)
own_gives s from token d es I C A (Some (entry.Procedure result k)) h either e a = absurd (false≢true e)
own_gives s from token d es I C A (Some (entry.Class k)) h either e a = absurd (false≢true e)
own_gives s from token d es I C A (Some (entry.Virtual result own)) h either e a = absurd (false≢true e)
own_gives s from token d es I C A (Some (entry.Formal f)) h either e a = absurd (false≢true e)
own_gives s from token d es I C A (Some (entry.Unspecified w)) h either e a = absurd (false≢true e)
own_gives s from token d es I C A None h either e a = absurd (false≢true e)

none_attribute : (o : Option Entry) (d : DeclNo) → None ≡ attribute_if (is_standard_attribute o) d → AttributeThere o
none_attribute (Some (entry.Attribute name w result)) d e = absurd (cc)
none_attribute (Some (entry.Variable type)) d e = tt
none_attribute (Some (entry.Constant type)) d e = tt
none_attribute (Some (entry.Array type n)) d e = tt
none_attribute (Some (entry.Procedure result k)) d e = tt
none_attribute (Some (entry.Class k)) d e = tt
none_attribute (Some (entry.Virtual result own)) d e = tt
none_attribute (Some (entry.Formal f)) d e = tt
none_attribute (Some (entry.Unspecified w)) d e = tt
none_attribute None d e = tt

identifier_gives : (s : Source) (from : Place) (x : Identifier) (es : Expressions) (d : DeclNo) → denoted s x.token.0 ≡ Some (denotation.Declared d) → EitherAttribute (entry_of s.tables d) → (c : Option ℕ) → ((k : ℕ) → c ≡ Some k → AttributeThere (entry_of s.tables d))
    → (own : Option DeclNo) → own ≡ attribute_if (is_standard_attribute (entry_of s.tables d)) d → (h : Option Holds)
    → UseGives s (KnownHere s from x.token.0 c own d) d es (AreIntegers s from es) (ParametersAre s from es) (λ fs. ActualsFit s from es fs) (entry_of s.tables d) h → IdentifierAs s from x es c own h
identifier_gives s from x es d says either (Some k) through own e h a =
    subst (λ z. NamedGives s from (Some k) z es (AreIntegers s from es) (ParametersAre s from es) (λ ks. AreOf s from es ks) (λ fs. ActualsFit s from es fs) h) (sym says)
    (declared_gives s (KnownAt s from (Some k) d) (AreIntegers s from es) (ParametersAre s from es) (λ fs. ActualsFit s from es fs) d es (entry_of s.tables d) h (through k refl) a)
identifier_gives s from x es d says either None through None e h a =
    subst (λ z. NamedGives s from None z es (AreIntegers s from es) (ParametersAre s from es) (λ ks. AreOf s from es ks) (λ fs. ActualsFit s from es fs) h) (sym says)
    (declared_gives s (KnownAt s from None d) (AreIntegers s from es) (ParametersAre s from es) (λ fs. ActualsFit s from es fs) d es (entry_of s.tables d) h (none_attribute (entry_of s.tables d) d e) a)
identifier_gives s from x es d says either None through (Some q) e h a =
    let own = own_is s q d e in
    subst (λ z. OwnGives s from x.token.0 z (λ fs. ActualsFit s from es fs) (entry_of s.tables z) h (DeclaredGives s (OwnKnown s from x.token.0 z) z es (AreIntegers s from es) (ParametersAre s from es) (λ fs. ActualsFit s from es fs) (entry_of s.tables z) h)) own.same
    (own_gives s from x.token.0 d es (AreIntegers s from es) (ParametersAre s from es) (λ fs. ActualsFit s from es fs) (entry_of s.tables d) h either own.is a)

-- it is no place
attribute_no_place : (s : Source) (Known Indices : Type 0) (es : Expressions) (o : Option Entry) (h : Holds) → is_standard_attribute o ≡ true → PlaceDeclared s Known es Indices o h → ⊥
attribute_no_place s K I NoMore (Some (entry.Attribute name w result)) h e a = a
attribute_no_place s K I (Then x xs) (Some (entry.Attribute name w result)) h e a = a
attribute_no_place s K I es (Some (entry.Variable type)) h e a = false≢true e
attribute_no_place s K I es (Some (entry.Constant type)) h e a = false≢true e
attribute_no_place s K I es (Some (entry.Array type n)) h e a = false≢true e
attribute_no_place s K I es (Some (entry.Procedure result n)) h e a = false≢true e
attribute_no_place s K I es (Some (entry.Class n)) h e a = false≢true e
attribute_no_place s K I es (Some (entry.Virtual result own)) h e a = false≢true e
attribute_no_place s K I es (Some (entry.Formal f)) h e a = false≢true e
attribute_no_place s K I es (Some (entry.Unspecified w)) h e a = false≢true e
attribute_no_place s K I es None h e a = false≢true e

identifier_place : (s : Source) (from : Place) (token : ℕ) (es : Expressions) (Indices : Type 0) (d : DeclNo) (c : Option ℕ) (own : Option DeclNo) → own ≡ attribute_if (is_standard_attribute (entry_of s.tables d)) d → (h : Holds)
    → PlaceDeclared s (KnownHere s from token c own d) es Indices (entry_of s.tables d) h → PlaceDeclared s (KnownAt s from c d) es Indices (entry_of s.tables d) h
identifier_place s from token es I d (Some k) own e h a = a
identifier_place s from token es I d None None e h a = a
identifier_place s from token es I d None (Some q) e h a = absurd (attribute_no_place s (OwnHere s from token d (entry_of s.tables d)) I es (entry_of s.tables d) h (own_is s q d e).is a)

-- nor does it stand for a procedure
attribute_no_procedure : (s : Source) (Known : Type 0) (o : Option Entry) (wanted : Option SimType) → is_standard_attribute o ≡ true → ProcedureDeclared s Known o wanted → ⊥
attribute_no_procedure s K (Some (entry.Attribute name w result)) wanted e a = a
attribute_no_procedure s K (Some (entry.Variable type)) wanted e a = a
attribute_no_procedure s K (Some (entry.Constant type)) wanted e a = a
attribute_no_procedure s K (Some (entry.Array type n)) wanted e a = a
attribute_no_procedure s K (Some (entry.Procedure result n)) wanted e a = false≢true e
attribute_no_procedure s K (Some (entry.Class n)) wanted e a = a
attribute_no_procedure s K (Some (entry.Virtual result own)) wanted e a = false≢true e
attribute_no_procedure s K (Some (entry.Formal f)) wanted e a = false≢true e
attribute_no_procedure s K (Some (entry.Unspecified w)) wanted e a = a
attribute_no_procedure s K None wanted e a = a

identifier_procedure : (s : Source) (from : Place) (token : ℕ) (d : DeclNo) (c : Option ℕ) (own : Option DeclNo) → own ≡ attribute_if (is_standard_attribute (entry_of s.tables d)) d → (wanted : Option SimType)
    → ProcedureDeclared s (KnownHere s from token c own d) (entry_of s.tables d) wanted → ProcedureDeclared s (KnownAt s from c d) (entry_of s.tables d) wanted
identifier_procedure s from token d (Some k) own e wanted a = a
identifier_procedure s from token d None None e wanted a = a
identifier_procedure s from token d None (Some q) e wanted a = absurd (attribute_no_procedure s (OwnHere s from token d (entry_of s.tables d)) (entry_of s.tables d) wanted (own_is s q d e).is a)

named_stands : (s : Source) (from : Place) (x : Identifier) (es : Expressions) (d : DeclNo) → denoted s x.token.0 ≡ Some (denotation.Declared d)
    → WhenAlone es ((wanted : Option SimType) → ProcedureDeclared s (KnownHere s from x.token.0 (connection_at s x.token.0) (own_attribute s x.token.0) d) (entry_of s.tables d) wanted → GivesProcedure s from (syntax.Named x es) wanted)
named_stands s from x NoMore d says = λ wanted a.
    subst (λ z. ProcedureNamed s from (connection_at s x.token.0) z wanted) (sym says)
    (identifier_procedure s from x.token.0 d (connection_at s x.token.0) (own_attribute s x.token.0) (own_declared s x.token.0 d says) wanted a)
named_stands s from x (Then e es) d says = tt

dot_stands : (s : Source) (from : Place) (i : ℕ) (b : Expression) (x : Identifier) (es : Expressions) (d : DeclNo) → denoted s x.token.0 ≡ Some (denotation.Declared d)
    → WhenAlone es ((wanted : Option SimType) → ProcedureDeclared s (ObjectHas s (λ c. ExprIs s from b (Refers c)) d) (entry_of s.tables d) wanted → GivesProcedure s from (syntax.Dot i b x es) wanted)
dot_stands s from i b x NoMore d says = λ wanted a. subst (λ z. ProcedureDot s z (λ c. ExprIs s from b (Refers c)) wanted) (sym says) a
dot_stands s from i b x (Then e es) d says = tt

-- as an actual parameter
named_shown : (s : Source) (x : Identifier) (es : Expressions) (d : DeclNo) → denoted s x.token.0 ≡ Some (denotation.Declared d) → passed s (syntax.Named x es) ≡ shown_as s (syntax.Named x es) d es
unfolding passed
named_shown s x NoMore d says = ap (λ z. denoted_passed s z (value_passed s (syntax.Named x NoMore))) says
named_shown s x (Then e es) d says = refl

dot_shown : (s : Source) (i : ℕ) (b : Expression) (x : Identifier) (es : Expressions) (d : DeclNo) → denoted s x.token.0 ≡ Some (denotation.Declared d) → passed s (syntax.Dot i b x es) ≡ shown_as s (syntax.Dot i b x es) d es
unfolding passed
dot_shown s i b x NoMore d says = ap (λ z. denoted_passed s z (value_passed s (syntax.Dot i b x NoMore))) says
dot_shown s i b x (Then e es) d says = refl

pub named_use : (s : Source) (from : Place) (x : Identifier) (es : Expressions) (d : DeclNo) → denoted s x.token.0 ≡ Some (denotation.Declared d) → EitherAttribute (entry_of s.tables d) → ThroughSeen s x.token.0 d → UseIs s from (syntax.Named x es) x.token.0 d es (KnownHere s from x.token.0 (connection_at s x.token.0) (own_attribute s x.token.0) d)
unfolding is_placed stream_of
named_use s from x es d says either through = record {
  at = refl;
  stream = ap stream_denoted says;
  value = λ h a. identifier_gives s from x es d says either (connection_at s x.token.0) through (own_attribute s x.token.0) (own_declared s x.token.0 d says) (Some h) a;
  call = λ h a left.
      named_given s from x es h (declared_transfers s x.token.0 d says) (identifier_gives s from x es d says either (connection_at s x.token.0) through (own_attribute s x.token.0) (own_declared s x.token.0 d says) h a) (ap (denoted_leaves s) says ∙ left);
  calls = λ result g. named_calls s from x es result g;
  place = place;
  unowned = λ none. (let m = result_no_match s x d es says none in
      (meant_without s x es m ∙ ap (unless_connected (connection_at s x.token.0)) (no_own s x d es says none) ∙ unconnected_none (connection_at s x.token.0), m));
  unplaced = λ none. ap (λ z. is_attribute_denoted s z es) says ∙ none;
  shown = named_shown s x es d says;
  stands = named_stands s from x es d says;
}
  where
    place : (type : SimType) → PlaceDeclared s (KnownHere s from x.token.0 (connection_at s x.token.0) (own_attribute s x.token.0) d) es (AreIntegers s from es) (entry_of s.tables d) (held_by s type) → Varies s from (syntax.Named x es) type
    place type a =
        subst (λ z. PlaceNamed s from (connection_at s x.token.0) z es (AreIntegers s from es) (held_by s type)) (sym says)
        (identifier_place s from x.token.0 es (AreIntegers s from es) d (connection_at s x.token.0) (own_attribute s x.token.0) (own_declared s x.token.0 d says) (held_by s type) a)

pub dot_use : (s : Source) (from : Place) (i : ℕ) (b : Expression) (x : Identifier) (es : Expressions) (d : DeclNo) → denoted s x.token.0 ≡ Some (denotation.Declared d) → AttributeThere (entry_of s.tables d) → UseIs s from (syntax.Dot i b x es) i d es (ObjectHas s (λ c. ExprIs s from b (Refers c)) d)
unfolding is_placed own_match result_meant stream_of
dot_use s from i b x es d says plain = record {
  at = refl;
  stream = refl;
  value = λ h a. subst (λ z. DotGives s z (stream_of s b) (ExprIs s from b (Simply kind.Text)) (λ c. ExprIs s from b (Refers c)) es (AreIntegers s from es) (ParametersAre s from es) (λ ks. AreOf s from es ks) (λ fs. ActualsFit s from es fs) (Some h)) (sym says) (declared_gives s (ObjectHas s (λ c. ExprIs s from b (Refers c)) d) (AreIntegers s from es) (ParametersAre s from es) (λ fs. ActualsFit s from es fs) d es (entry_of s.tables d) (Some h) plain a);
  call = λ h a left.
      dot_given s from i b x es h (declared_transfers s x.token.0 d says) (subst (λ z. DotGives s z (stream_of s b) (ExprIs s from b (Simply kind.Text)) (λ c. ExprIs s from b (Refers c)) es (AreIntegers s from es) (ParametersAre s from es) (λ ks. AreOf s from es ks) (λ fs. ActualsFit s from es fs) h) (sym says) (declared_gives s (ObjectHas s (λ c. ExprIs s from b (Refers c)) d) (AreIntegers s from es) (ParametersAre s from es) (λ fs. ActualsFit s from es fs) d es (entry_of s.tables d) h plain a))
      (ap (denoted_leaves s) says ∙ left);
  calls = λ result g. dot_calls s from i b x es result g;
  place = place;
  unowned = λ none. (refl, refl);
  unplaced = λ none. ap (λ z. is_attribute_denoted s z es) says ∙ none;
  shown = dot_shown s i b x es d says;
  stands = dot_stands s from i b x es d says;
}
  where
    place : (type : SimType) → PlaceDeclared s (ObjectHas s (λ c. ExprIs s from b (Refers c)) d) es (AreIntegers s from es) (entry_of s.tables d) (held_by s type) → Varies s from (syntax.Dot i b x es) type
    place type a = subst (λ z. PlaceDot s z (λ c. ExprIs s from b (Refers c)) es (AreIntegers s from es) (held_by s type)) (sym says) a
