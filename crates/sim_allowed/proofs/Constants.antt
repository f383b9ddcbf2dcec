-- A declared constant of an allowed program has a value, of its type.
use Rattle.std.proofs.Common.{◌≡◌, ◌⊎◌, inl, inr, ℕ, Bool, true, false, List, [], ◌∷◌, ◌++◌, Some, refl, ◌∙◌, subst, if◌then◌else◌}
use Rattle.std.proofs.lemmas.Bool.{false≢true}
use Rattle.sim_base.specs.declared.numbering.DeclNo.{DeclNo}
use Rattle.sim_base.specs.declared.rule.Rule.TheVariants as r
use Rattle.sim_scope.specs.declared.types.Entry.TheVariants as entry
use Rattle.sim_scope.specs.declared.types.SimType.{SimType}
use Rattle.sim_scope.specs.declared.types.SimType.TheVariants as t
use Rattle.sim_scope.specs.Declare.{type_named}
use Rattle.sim_scope.specs.Found.{Broken}
use Rattle.sim_scope.specs.Runs.{each}
use Rattle.sim_scope.specs.Scopes.{entry_of}
use Rattle.sim_scope.specs.Source.{Source}
use Rattle.sim_scope.specs.Statements.{constant_fits, constant_token, constant_type, has_type, judging, type_events, value_fits, value_type, variable_events}
use Rattle.sim_scope.specs.Walk.{declaration_events, declarations_events, program_events}
use Rattle.sim_tree.specs.declared.stmt.Constant.{Constant}
use Rattle.sim_tree.specs.declared.stmt.Constant.TheVariants as constant
use Rattle.sim_tree.specs.declared.stmt.TypeName.{TypeName}
use Rattle.sim_tree.specs.declared.stmt.TypeName.TheVariants as type_name
use Rattle.sim_tree.specs.declared.stmt.Variable.{Variable}
use Rattle.sim_tree.specs.Filled.{Filled}
use Rattle.sim_agree.specs.Order.{InOrder}
use Rattle.sim_tree.specs.Syntax.{Declarations, NoDeclaration, Variables, With}
use Rattle.sim_values.specs.declared.kind.Kind.{Kind}
use Rattle.sim_values.specs.declared.kind.Kind.TheVariants as kind
use Rattle.sim_values.specs.Plain.{Plain as Value, kind_of}
use Rattle.sim_meaning.specs.Constants.{declaration_constants, declarations_constants, value_constants, variables_constants}
use Rattle.sim_meaning.specs.Texts.{BlockText, ClassText, Text, constant_value, kind_of_type, text, PrefixedText}
use Rattle.sim_agree.specs.ConstantAt.{InBlock, InClass, Lists, OneOf, at_first, further, head, tail, InPrefixed}
use Rattle.sim_agree.specs.Facts.{ConstantIs, PlainType}
use Rattle.sim_agree.specs.TablesOf.{TablesOf}
use Rattle.sim_agree.proofs.Constants.{constant_at}
use Rattle.sim_allowed.proofs.Expressions.{AllThere, both_there}
use Rattle.sim_allowed.proofs.Said.{AllSay, both_say}
use Rattle.sim_allowed.proofs.TextsOf.{TextFine, constants_there, text_fine}

-- ---- constants

-- the events of a declared variable
variable_says : (s : Source) (type : TypeName) (v : Variable) (vs : List Variable) → OneOf v vs → AllSay s (each (variable_events type) vs) → AllSay s (variable_events type v)
variable_says s type v [] o said = elim o [ ]
variable_says s type v (w ∷ vs) head said = (both_say s (variable_events type v) (each (variable_events type) vs) said).0
variable_says s type v (w ∷ vs) (tail o) said = variable_says s type v vs o (both_say s (variable_events type w) (each (variable_events type) vs) said).1

declared_says : (s : Source) (type : TypeName) (vs : List Variable) (ds : Declarations) → Lists type vs ds → AllSay s (declarations_events (judging s.tables) ds) → AllSay s (each (variable_events type) vs)
unfolding judging
declared_says s type vs NoDeclaration h said = elim h [ ]
declared_says s type vs (With (Variables t ws) ds) at_first said =
    (both_say s (type_events s.tables type) (each (variable_events type) vs) (both_say s (type_events s.tables type ++ each (variable_events type) vs) (declarations_events (judging s.tables) ds) said).0).1
declared_says s type vs (With d ds) (further h) said = declared_says s type vs ds h (both_say s (declaration_events (judging s.tables) d) (declarations_events (judging s.tables) ds) said).1

-- its text constants
variable_there : (s : Source) (v : Variable) (vs : List Variable) → OneOf v vs → AllThere s (variables_constants vs) → AllThere s (value_constants v.value)
variable_there s v [] o there = elim o [ ]
variable_there s v (w ∷ vs) head there = (both_there s (value_constants v.value) (variables_constants vs) there).0
variable_there s v (w ∷ vs) (tail o) there = variable_there s v vs o (both_there s (value_constants w.value) (variables_constants vs) there).1

declared_there : (s : Source) (type : TypeName) (vs : List Variable) (ds : Declarations) → Lists type vs ds → AllThere s (declarations_constants ds) → AllThere s (variables_constants vs)
declared_there s type vs NoDeclaration h there = elim h [ ]
declared_there s type vs (With (Variables t ws) ds) at_first there = (both_there s (variables_constants vs) (declarations_constants ds) there).0
declared_there s type vs (With d ds) (further h) there = declared_there s type vs ds h (both_there s (declaration_constants d) (declarations_constants ds) there).1

-- a constant fits its type
fits_type : (s : Source) (type : TypeName) (c : Constant) → AllSay s (constant_fits (value_type type) c) → has_type (value_type type) (constant_type c) ≡ true
fits_type s type c said = go (has_type (value_type type) (constant_type c)) refl said
  where
    go : (b : Bool) → has_type (value_type type) (constant_type c) ≡ b → AllSay s (if b then [] else Broken (constant_token c) r.WrongType ∷ []) → has_type (value_type type) (constant_type c) ≡ true
    go true e said = e
    go false e said = absurd said.0

-- the value of a constant, and its kind
value_of_type : (s : Source) (type : TypeName) (c : Constant) → has_type (value_type type) (constant_type c) ≡ true → AllThere s (value_constants (Some c)) → (v : Value) × (constant_value s c ≡ Some v) × (kind_of v ≡ kind_of_type (type_named type))
unfolding type_named
value_of_type s (type_name.Integer i) (constant.Integer sign j n) e there = (_, refl, refl)
value_of_type s (type_name.Character i) (constant.Character j n) e there = (_, refl, refl)
value_of_type s (type_name.Boolean i) (constant.True j) e there = (_, refl, refl)
value_of_type s (type_name.Boolean i) (constant.False j) e there = (_, refl, refl)
value_of_type s (type_name.Text i) (constant.Text j bytes) e there = there.0
value_of_type s _ _ e there = absurd (false≢true e)

-- what the last round says of the declarations of a block, with a prefix or not, and of those of a class
declarations_say : (s : Source) (k : ℕ) (ds : Declarations) → ((x : Text) → text s k ≡ Some x → TextFine s x) → InBlock s k ds ⊎ (InClass s k ds ⊎ InPrefixed s k ds) → AllThere s (declarations_constants ds) × AllSay s (declarations_events (judging s.tables) ds)
declarations_say s k ds fine (inl b) = let f = fine (BlockText b.begin ds b.statements) b.is in f.0
declarations_say s k ds fine (inr (inl c)) = let f = fine (ClassText c.prefix c.heading ds c.statements) c.is in f.0
declarations_say s k ds fine (inr (inr c)) = let f = fine (PrefixedText c.class c.arguments ds c.statements) c.is in f.0

pub constant_is : (s : Source) → TablesOf s → Filled s.program → InOrder s.program → AllSay s (program_events (judging s.tables) s.program) → (d : DeclNo) (ty : SimType) → entry_of s.tables d ≡ Some (entry.Constant ty) → ConstantIs s d ty
unfolding variable_events
constant_is s of filled order said d ty there =
    let c = constant_at s of order d ty there in
    let fine = declarations_say s c.block c.declarations (λ x is. text_fine s filled (constants_there s) said c.block x is) c.is in
    let events = variable_says s c.type c.variable c.variables c.one (declared_says s c.type c.variables c.declarations c.declared fine.1) in
    let ok = fits_type s c.type c.constant (subst (λ z. AllSay s (value_fits (value_type c.type) z)) c.has events) in
    let texts = subst (λ z. AllThere s (value_constants z)) c.has (variable_there s c.variable c.variables c.one (declared_there s c.type c.variables c.declarations c.declared fine.0)) in
    let v = value_of_type s c.type c.constant ok texts in
    record { value = v.0; is = c.value ∙ v.1; of_type = v.2 ∙ c.named }

-- no constant is of references
no_reference : (type : TypeName) (c : Constant) → has_type (value_type type) (constant_type c) ≡ true → kind_of_type (type_named type) ≡ kind.Reference → ⊥
unfolding type_named
no_reference (type_name.Reference i class) c e f = false≢true e
no_reference (type_name.Integer i) c e f = absurd (cc)
no_reference (type_name.Boolean i) c e f = absurd (cc)
no_reference (type_name.Character i) c e f = absurd (cc)
no_reference (type_name.Text i) c e f = absurd (cc)

plain_of : (k : Kind) (ty : SimType) → k ≡ kind_of_type ty → (k ≡ kind.Reference → ⊥) → PlainType ty
plain_of k t.Integer e n = tt
plain_of k t.Boolean e n = tt
plain_of k t.Character e n = tt
plain_of k t.Text e n = tt
plain_of k (t.Ref class) e n = absurd (n e)
plain_of k t.NoneType e n = absurd (n e)

pub constant_plain : (s : Source) → TablesOf s → Filled s.program → InOrder s.program → AllSay s (program_events (judging s.tables) s.program) → (d : DeclNo) (ty : SimType) → entry_of s.tables d ≡ Some (entry.Constant ty) → PlainType ty
unfolding variable_events
constant_plain s of filled order said d ty there =
    let c = constant_at s of order d ty there in
    let fine = declarations_say s c.block c.declarations (λ x is. text_fine s filled (constants_there s) said c.block x is) c.is in
    let events = variable_says s c.type c.variable c.variables c.one (declared_says s c.type c.variables c.declarations c.declared fine.1) in
    let ok = fits_type s c.type c.constant (subst (λ z. AllSay s (value_fits (value_type c.type) z)) c.has events) in
    plain_of (kind_of_type (type_named c.type)) ty c.named (no_reference c.type c.constant ok)
