-- What the outcome of an expression says of it.
use Rattle.std.proofs.Common.{◌≡◌, ◌⊎◌, ℕ, Bool, true, false, [], Option, Some, None}
use Rattle.sim_base.specs.declared.numbering.DeclNo.{DeclNo}
use Rattle.sim_scope.specs.declared.outcome.Outcome.{Outcome}
use Rattle.sim_scope.specs.declared.outcome.Outcome.TheVariants as is
use Rattle.sim_scope.specs.declared.standard.StandardName.{StandardName}
use Rattle.sim_scope.specs.declared.types.Entry.{Entry}
use Rattle.sim_scope.specs.declared.types.Entry.TheVariants as entry
use Rattle.sim_scope.specs.declared.types.FormalKind.TheVariants as shape
use Rattle.sim_scope.specs.declared.types.SimType.{SimType}
use Rattle.sim_scope.specs.declared.types.SimType.TheVariants as t
use Rattle.sim_scope.specs.Outcomes.{is_stream}
use Rattle.sim_scope.specs.Scopes.{entry_of}
use Rattle.sim_scope.specs.Source.{Source, denoted, found_at, type_at}
use Rattle.sim_scope.specs.Standard.{signature}
use Rattle.sim_tree.specs.declared.expr.Identifier.{Identifier}
use Rattle.sim_tree.specs.Syntax.{Expression, Expressions, NoMore}
use Rattle.sim_tree.specs.Syntax as syntax
use Rattle.sim_meaning.specs.Attributes.{connection_at, own_attribute, transfer_at}
use Rattle.sim_meaning.specs.Closing.{is_placed, is_text, is_text_type, result_meant, stream_of, typed_token, left_type, own_match}
use Rattle.sim_meaning.specs.Entries.{formals_of}
use Rattle.sim_meaning.specs.Names.{stream_named}
use Rattle.sim_meaning.specs.Statements.{leaves}
use Rattle.sim_sound.specs.Held.{ArrayOf, Fits, Holds, In, InBound, Place, Refers, Simply, held_by, ResultFits, given_by}
use Rattle.sim_sound.specs.Expressions.{ActualsFit, AreIntegers, AreOf, DotGives, ExprIs, IdentifierGives, IsReference, ParametersAre, PlaceIs, ProcedureIs as GivesProcedure}
use Rattle.sim_sound.specs.Statements.{LeftIs, OrTransferIs, ResultIs, TransferIs, is_given}
use Rattle.sim_agree.specs.Facts.{ProperType, MatchFits, ProperResult}
use Rattle.sim_values.specs.declared.kind.Kind.TheVariants as kind
use Rattle.sim_meaning.specs.Checks.{PassedArray, PassedProcedure, passed, value_passed}
use Rattle.std.specs.Prelude.{length}
use Rattle.sim_values.specs.declared.standard.Standard.{Standard}

-- the types of values: those of variables, and that of `none`
abbrev pub ValueType : Source → SimType → Type 0
ValueType s t.NoneType = Unit {0}
ValueType s type = ProperType s type

-- what may stand where a value of a type does: `none` is a reference with each qualification
abbrev pub Takes : Source → SimType → Holds → Type 0
Takes s t.NoneType h = IsReference h
Takes s type h = Fits s (held_by s type) h

-- a value of a type
pub record ValueIs (s : Source) (from : Place) (e : Expression) (type : SimType) : Type 0 where
  pub proper : ValueType s type
  pub texts : is_text s e ≡ is_text_type (Some type)
  pub stream : stream_of s e ≡ None
  pub typed : type_at s (typed_token e) ≡ Some type
  pub value : (h : Holds) → Takes s type h → ExprIs s from e h

-- what is said of a text, and of no bound
abbrev pub InText : Place → (ℕ → Type 0) → Type 0
InText (In t) P = P t
InText (InBound t) P = Unit {0}

-- a transfer of control gives nothing
abbrev pub GivesNone : Type 0 → Option Holds → Type 0
GivesNone Transfers None = Transfers
GivesNone Transfers (Some h) = ⊥

abbrev pub NamedAs : Source → Place → Identifier → Expressions → Option Holds → Type 0
NamedAs s from name es h =
    IdentifierGives s from name.token.0 (connection_at s name.token.0) (own_attribute s name.token.0) es (AreIntegers s from es) (ParametersAre s from es) (λ ks. AreOf s from es ks) (λ fs. ActualsFit s from es fs) h

abbrev pub DotAs : Source → Place → Expression → Identifier → Expressions → Option Holds → Type 0
DotAs s from a name es h =
    DotGives s (denoted s name.token.0) (stream_of s a) (ExprIs s from a (Simply kind.Text)) (λ c. ExprIs s from a (Refers c)) es (AreIntegers s from es) (ParametersAre s from es) (λ ks. AreOf s from es ks) (λ fs. ActualsFit s from es fs) h

-- what a call gives
abbrev pub CallGiven : Source → Place → Expression → Option Holds → Type 0
CallGiven s from (syntax.Named name es) h =
    OrTransferIs (transfer_at s name.token.0) (λ c. GivesNone (InText from (λ t. TransferIs s t c (found_at s name.token.0) es)) h) (NamedAs s from name es h × (leaves s (syntax.Named name es) ≡ is_given h))
CallGiven s from (syntax.Dot token a name es) h =
    OrTransferIs (transfer_at s name.token.0) (λ c. GivesNone (ExprIs s from a (Simply kind.Reference) × AreOf s from es []) h) (DotAs s from a name es h × (leaves s (syntax.Dot token a name es) ≡ is_given h))
CallGiven s from _ h = ⊥

-- a call with a result of this type, or without one
abbrev pub CallsFor : Source → Place → Expression → Option SimType → Type 0
CallsFor s from (syntax.New token class es) (Some type) = (h : Holds) → Takes s type h → ExprIs s from (syntax.New token class es) h
CallsFor s from e None = CallGiven s from e None
CallsFor s from e (Some type) = (h : Holds) → Takes s type h → CallGiven s from e (Some h)

-- a variable, which may be a left side
abbrev pub Varies : Source → Place → Expression → SimType → Type 0
Varies s from e type = PlaceIs s from e (held_by s type)

-- it is the result of no procedure in whose text it stands
abbrev pub NoOwn : Source → Expression → Type 0
NoOwn s e = (result_meant s e ≡ None) × (own_match s e ≡ None)

abbrev pub Unowned : (alone : Bool) → Source → Expression → Type 0
Unowned true s e = NoOwn s e
Unowned false s e = Unit {0}

-- it is no variable that is declared, and no element of such an array
abbrev pub Unplaced : (alone : Bool) → Source → Expression → Type 0
Unplaced true s e = is_placed s e ≡ false
Unplaced false s e = Unit {0}

-- what is known of a type that an expression may have
abbrev pub TypeThere : Source → Expression → Option SimType → Type 0
TypeThere s e None = Unit {0}
TypeThere s e (Some type) = ProperType s type × (is_text s e ≡ is_text_type (Some type)) × (stream_of s e ≡ None) × (type_at s (typed_token e) ≡ Some type)

-- an expression from the inside of the text of a procedure, as a left side
abbrev pub OwnResult : Source → Place → Expression → (own : Option DeclNo) → DeclNo → (result : Option SimType) → (block : ℕ) → Type 0
OwnResult s from e None d result block = NoOwn s e
OwnResult s (InBound t) e (Some q) d result block = q ≡ d
OwnResult s (In t) e (Some q) d result block = (q ≡ d) × (result_meant s e ≡ Some block) × (own_match s e ≡ None) × ((type : SimType) → result ≡ Some type → LeftIs s t e (held_by s type) × ResultIs s t block (held_by s type))

-- an expression from the inside of the match of a virtual, as a left side: the result of the match, of its own type
pub record MatchLeft (s : Source) (t : ℕ) (e : Expression) (result : Option SimType) (match : DeclNo) : Type 0 where
  pub there : MatchFits s result match
  pub meant : result_meant s e ≡ Some there.block
  pub typed : left_type s e ≡ there.given
  pub left : (type : SimType) → there.given ≡ Some type → LeftIs s t e (held_by s type) × ResultIs s t there.block (held_by s type)

abbrev pub MatchResult : Source → Place → Expression → (result : Option SimType) → (own : Option DeclNo) → Type 0
MatchResult s from e result None = NoOwn s e
MatchResult s (InBound t) e result (Some q) = Unit {0}
MatchResult s (In t) e result (Some q) = MatchLeft s t e result q

-- it stands for a procedure, where what it gives is wanted
abbrev pub Gives : Source → Place → Expression → (result : Option SimType) → Type 0
Gives s from e result = (wanted : Option SimType) → ResultFits s (given_by s result) (given_by s wanted) → GivesProcedure s from e wanted

-- the identifier of a procedure alone
pub record ProcedureIs (s : Source) (from : Place) (e : Expression) (d : DeclNo) (own : Option DeclNo) : Type 0 where
  pub result : Option SimType
  pub block : ℕ
  pub declared : entry_of s.tables d ≡ Some (entry.Procedure result block)
  pub typed : TypeThere s e result
  -- where it has no parameters it is a call
  pub calls : ActualsFit s from NoMore (formals_of s block) → CallsFor s from e result
  -- as a left side it is the result inside the text of the procedure
  pub inside : OwnResult s from e own d result block
  pub unplaced : is_placed s e ≡ false
  -- as an actual parameter it is a procedure
  pub stands : Gives s from e result
  pub shown : passed s e ≡ PassedProcedure result (length (formals_of s block))

-- the identifier of a procedure of SIMSET alone
pub record SetIs (s : Source) (from : Place) (e : Expression) (d : DeclNo) (own : Option DeclNo) : Type 0 where
  pub name : Standard
  pub parameter : Option SimType
  pub result : Option SimType
  pub declared : entry_of s.tables d ≡ Some (entry.Attribute name parameter result)
  pub typed : TypeThere s e result
  -- where it has no parameter it is a call
  pub calls : parameter ≡ None → CallsFor s from e result
  -- it has no text from whose inside it is a left side
  pub no_own : own ≡ None
  pub unowned : NoOwn s e
  pub unplaced : is_placed s e ≡ false
  pub shown : passed s e ≡ value_passed s e

-- a virtual or a formal procedure, which gives this
abbrev pub IsChecked : Option Entry → (result : Option SimType) → Type 0
IsChecked (Some (entry.Virtual given own)) result = given ≡ result
IsChecked (Some (entry.Formal f)) result = (f.kind ≡ shape.Procedure) × (f.ty ≡ result)
IsChecked _ result = ⊥

-- the identifier of a virtual or of a formal procedure alone
pub record VirtualIs (s : Source) (from : Place) (e : Expression) (d : DeclNo) (own : Option DeclNo) : Type 0 where
  pub result : Option SimType
  pub proper : ProperResult s result
  pub declared : IsChecked (entry_of s.tables d) result
  pub typed : TypeThere s e result
  -- it is a call
  pub calls : CallsFor s from e result
  -- as a left side it is the result inside the text of the match
  pub inside : MatchResult s from e result own
  pub unplaced : is_placed s e ≡ false
  pub stands : Gives s from e result
  pub shown : passed s e ≡ PassedProcedure result 0

-- a standard name alone
pub record StandardIs (s : Source) (from : Place) (e : Expression) (standard : StandardName) : Type 0 where
  pub calls : is_stream standard ≡ false → (signature standard).first ≡ None → CallsFor s from e (signature standard).result
  pub typed : is_stream standard ≡ false → TypeThere s e (signature standard).result
  pub stream : stream_of s e ≡ stream_named standard
  pub unowned : NoOwn s e
  pub unplaced : is_placed s e ≡ false
  pub shown : passed s e ≡ value_passed s e

-- as an actual parameter of any call it is a value
abbrev pub Shown : (alone : Bool) → Source → Expression → Type 0
Shown true s e = passed s e ≡ value_passed s e
Shown false s e = Unit {0}

-- what is so only before calls are made
abbrev pub Only : (alone : Bool) → Type 0 → Type 0
Only true P = P
Only false P = ⊥

-- An outcome before calls are made, where nothing is the result of a procedure but the identifier of one, and only variables are placed; and after.
abbrev pub Means : (alone : Bool) → Source → Place → Expression → Outcome → Type 0
Means alone s from e is.Refused = ⊥
Means alone s from e is.NoValue = CallsFor s from e None
Means alone s from e is.NoValueInParentheses = Unit {0}
Means alone s from e (is.Value type) = ValueIs s from e type × Unowned alone s e × Unplaced alone s e × Shown alone s e
Means alone s from e (is.Called type) = ValueIs s from e type × CallsFor s from e (Some type) × Unowned alone s e × Unplaced alone s e × Shown alone s e
Means alone s from e (is.Variable type) = ValueIs s from e type × ProperType s type × Varies s from e type × Unowned alone s e × Shown alone s e
Means alone s from e (is.Constant type) = ValueIs s from e type × Unplaced alone s e × Shown alone s e
Means alone s from e (is.Array type) = ProperType s type × ExprIs s from e (ArrayOf (held_by s type)) × (passed s e ≡ PassedArray (Some type))
Means alone s from e (is.Procedure d token own) = Only alone (ProcedureIs s from e d own ⊎ (SetIs s from e d own ⊎ VirtualIs s from e d own))
Means alone s from e (is.Standard name token) = Only alone (StandardIs s from e name)
Means alone s from e is.Class = Unit {0}
Means alone s from e (is.Barred b) = ⊥
