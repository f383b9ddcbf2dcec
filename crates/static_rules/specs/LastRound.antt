-- The rules of the last round, each a clause of its own: what the bodies of a program break.
use Rattle.std.specs.Prelude.{◌≡◌, ℕ, Bool, true, false, ◌&&◌, nat_eq, List, length, Option, Some, None, slice_get}
use Rattle.sim_base.specs.declared.numbering.DeclNo.{DeclNo}
use Rattle.sim_base.specs.declared.numbering.TokenNo.{TokenNo}
use Rattle.sim_base.specs.declared.rule.Rule.{Rule}
use Rattle.sim_base.specs.declared.rule.Rule.TheVariants as r
use Rattle.sim_tree.specs.declared.expr.Identifier.{Identifier}
use Rattle.sim_tree.specs.declared.operator.Operator.{Operator}
use Rattle.sim_tree.specs.declared.stmt.Assignment.{Assignment}
use Rattle.sim_tree.specs.declared.stmt.Constant.{Constant}
use Rattle.sim_tree.specs.declared.stmt.TypeName.{TypeName}
use Rattle.sim_tree.specs.declared.stmt.Variable.{Variable as VariableTree}
use Rattle.sim_tree.specs.Syntax.{Expression, Expressions, RightSide, first_of}
use Rattle.sim_scope.specs.Assignments.{first_sign, last_value, left_sides, lefts, no_lefts, same_sign, takes}
use Rattle.sim_scope.specs.Calls.{attribute_in, attribute_missing, is_barred, missing}
use Rattle.sim_scope.specs.Found.{fault}
use Rattle.sim_scope.specs.Levels.{class_block, has_classes}
use Rattle.sim_scope.specs.Operators.{common_type, is_reference, is_same, misfit_of, operands_fit}
use Rattle.sim_scope.specs.Outcomes.{is_stream}
use Rattle.sim_scope.specs.References.{block_of_class, formal_count, is_only_prefix, other_chain, this_barred, this_block, wrong_number}
use Rattle.sim_scope.specs.Scopes.{binding, entry_of, formals_of, is_passed_over}
use Rattle.sim_scope.specs.Standard.{signature, sysin_attribute, sysout_attribute, text_attribute, undeclared}
use Rattle.sim_scope.specs.Statements.{constant_token, constant_type, has_type, process_at, value_type}
use Rattle.sim_scope.specs.Tables.{Tables}
use Rattle.sim_scope.specs.declared.found.Fault.{Fault}
use Rattle.sim_scope.specs.declared.outcome.Actuals.{Actuals}
use Rattle.sim_scope.specs.declared.outcome.Barred.TheVariants as bar
use Rattle.sim_scope.specs.declared.outcome.Extent.{Extent}
use Rattle.sim_scope.specs.declared.outcome.Extent.TheVariants as extent
use Rattle.sim_scope.specs.declared.outcome.Fit.TheVariants as fit
use Rattle.sim_scope.specs.declared.outcome.Occurrence.{Occurrence}
use Rattle.sim_scope.specs.declared.outcome.Outcome.{Outcome}
use Rattle.sim_scope.specs.declared.outcome.Outcome.TheVariants as is
use Rattle.sim_scope.specs.declared.outcome.Parameter.{Parameter}
use Rattle.sim_scope.specs.declared.scopes.Denotation.{Denotation}
use Rattle.sim_scope.specs.declared.scopes.Denotation.TheVariants as denotation
use Rattle.sim_scope.specs.declared.standard.StandardName.{StandardName}
use Rattle.sim_scope.specs.declared.standard.StandardName.TheVariants as standard
use Rattle.sim_scope.specs.declared.types.Entry.TheVariants as entry
use Rattle.sim_scope.specs.declared.types.SimType.{SimType}
use Rattle.sim_scope.specs.declared.types.SimType.TheVariants as t
use Rattle.sim_values.specs.declared.standard.Standard.{Standard}
use Rattle.static_rules.specs.Judgements.{Activates, ActualFor, Alone, Arm, Arms, Assigned, Attribute, ComparedWith, Controls, Declared, InParentheses, Inspects, InspectsWhen, Judgement, NamesClass, Needs, NewOf, Occurs, Operand, Operands, PrefixOf, Process, Sign, StartsFrom, TakenBy, Target, ThisOf, Used, Value, class_of, given, occurrence, operand, outcome, type_of}
use Rattle.static_rules.specs.LeftSides.{NotSimple, Of, Simple, WithoutKind, WithoutValue, is_called_left, left_of, variable_of}
use Rattle.static_rules.specs.Types.{called_as}
use Rattle.static_rules.specs.Words.{agrees, count_of, has_attributes, has_parameters, is_array_or_class, is_call, is_class, is_known, is_left_out, is_no_value, is_stream_alone, is_stream_of, is_taken}

-- a judgement is one of these
pub record IsJudged (js : List Judgement) (j : Judgement) : Type 0 where
  pub place : ℕ
  pub at : slice_get js place ≡ Some j

-- ---- what is missing

-- An identifier that denotes nothing, with the rule that says why.
pub data IsMissing (s : Tables) (js : List Judgement) : Rule → (token : ℕ) → Type 0 where
  nowhere : (e : Extent) {x : Identifier} → IsJudged js (Occurs e x) → binding s x.token.0 x.name ≡ None
      → IsMissing s js (missing (is_passed_over s x.token.0 x.name) x.name) x.token.0
  not_of_sysin : (e : Extent) {a : Expression} {x : Identifier} (token : TokenNo) → IsJudged js (Attribute e a x)
      → outcome s e a ≡ is.Standard standard.Sysin token → sysin_attribute x.name ≡ None → IsMissing s js (undeclared x.name) x.token.0
  not_of_sysout : (e : Extent) {a : Expression} {x : Identifier} (token : TokenNo) → IsJudged js (Attribute e a x)
      → outcome s e a ≡ is.Standard standard.Sysout token → sysout_attribute x.name ≡ None → IsMissing s js (undeclared x.name) x.token.0
  not_of_text : (e : Extent) {a : Expression} {x : Identifier} → IsJudged js (Attribute e a x) → is_stream_alone (outcome s e a) ≡ false
      → type_of s e a ≡ Some t.Text → text_attribute x.name ≡ None → IsMissing s js (undeclared x.name) x.token.0
  of_none : (e : Extent) {a : Expression} {x : Identifier} → IsJudged js (Attribute e a x) → is_stream_alone (outcome s e a) ≡ false
      → type_of s e a ≡ Some t.NoneType → IsMissing s js (undeclared x.name) x.token.0
  not_of_class : (e : Extent) {a : Expression} {x : Identifier} {class : DeclNo} {block : ℕ} → IsJudged js (Attribute e a x)
      → is_stream_alone (outcome s e a) ≡ false → type_of s e a ≡ Some (t.Ref class) → class_block s class ≡ Some block
      → attribute_in s x.token.0 block x.name ≡ None → IsMissing s js (attribute_missing s block x) x.token.0

-- ---- values and calls

-- An expression is taken as a value: an operand; the object before a dot; an actual. Its first token, and what it is.
pub data IsTaken (s : Tables) (js : List Judgement) : (first : ℕ) → Outcome → Type 0 where
  as_operand : (e : Extent) {x : Expression} → IsJudged js (Value e x) → IsTaken s js (first_of x) (outcome s e x)
  as_object : (e : Extent) {a : Expression} {x : Identifier} → IsJudged js (Attribute e a x) → is_stream_alone (outcome s e a) ≡ false
      → IsTaken s js (first_of a) (outcome s e a)
  as_actual : (e : Extent) {q : Parameter} {x : Expression} → IsJudged js (ActualFor q e x) → is_taken q (outcome s e x) ≡ true
      → IsTaken s js (first_of x) (outcome s e x)

-- What is called if it is an identifier alone.
pub data IsCalled (s : Tables) (js : List Judgement) : Outcome → Type 0 where
  for_value : {first : ℕ} {o : Outcome} → IsTaken s js first o → IsCalled s js o
  in_parentheses : (e : Extent) {x : Expression} → IsJudged js (InParentheses e x) → IsCalled s js (outcome s e x)
  as_statement : {x : Expression} → IsJudged js (Alone x) → IsCalled s js (outcome s extent.Statement x)
  as_left_side : {sign : Assignment} {x : Expression} → IsJudged js (Target sign x) → is_called_left s sign (outcome s extent.Statement x) ≡ true
      → IsCalled s js (outcome s extent.Statement x)

-- an identifier alone, with its token
pub data IsAlone : Outcome → Denotation → (token : ℕ) → Type 0 where
  procedure_alone : {d : DeclNo} {token : TokenNo} {own : Option DeclNo} → IsAlone (is.Procedure d token own) (denotation.Declared d) token.0
  standard_alone : {name : StandardName} {token : TokenNo} → IsAlone (is.Standard name token) (denotation.Standard name) token.0
  barred_procedure : {d : DeclNo} {token : TokenNo} → IsAlone (is.Barred (bar.Procedure d token)) (denotation.Declared d) token.0
  barred_standard : {name : StandardName} {token : TokenNo} → IsAlone (is.Barred (bar.Standard name token)) (denotation.Standard name) token.0

-- what has parameters and is not called without
pub data NeedsActuals (s : Tables) : Denotation → Type 0 where
  procedure_needs : {d : DeclNo} {result : Option SimType} {block : ℕ} → entry_of s d ≡ Some (entry.Procedure result block)
      → nat_eq (length (formals_of s d)) 0 ≡ false → NeedsActuals s (denotation.Declared d)
  attribute_needs : {d : DeclNo} {name : Standard} {ty : SimType} {result : Option SimType}
      → entry_of s d ≡ Some (entry.Attribute name (Some ty) result) → NeedsActuals s (denotation.Declared d)
  standard_needs : {name : StandardName} {ty : SimType} → is_stream name ≡ false → (signature name).first ≡ Some ty
      → NeedsActuals s (denotation.Standard name)

-- An identifier with actual parameters or subscripts.
pub data IsApplied (s : Tables) (js : List Judgement) : (token : ℕ) → Denotation → Actuals → Type 0 where
  with_actuals : (naming : ℕ) {x : Identifier} (e : Extent) {o : Occurrence} (args : Expressions) {d : Denotation}
      → IsJudged js (Used naming x e o args) → o.denotes ≡ Some d → nat_eq (given s e o.denotes args).count 0 ≡ false
      → IsApplied s js x.token.0 d (given s e o.denotes args)

-- The least misfit of the actuals of a call, a generation or a block prefix, where each has a type and their number is right; and of the left sides
-- of an assignment.
pub data IsMisfit (s : Tables) (js : List Judgement) : Fault → Type 0 where
  in_call : {token : ℕ} {d : Denotation} {a : Actuals} {f : Fault} → IsApplied s js token d a → a.typed ≡ true → is_stream_of d ≡ false
      → has_parameters s d ≡ true → agrees (count_of s d) a.count ≡ true → is_known s d ≡ true → a.misfit ≡ Some f → IsMisfit s js f
  in_generation : {e : Extent} {token : ℕ} {class : Identifier} {args : Expressions} {d : Denotation} {f : Fault}
      → IsJudged js (NewOf e token class args) → (class_of s e class).denotes ≡ Some d
      → wrong_number s d (given s e (class_of s e class).denotes args) ≡ false → is_only_prefix s d ≡ false → (class_of s e class).barred ≡ false
      → (given s e (class_of s e class).denotes args).typed ≡ true → (given s e (class_of s e class).denotes args).misfit ≡ Some f
      → IsMisfit s js f
  in_prefix : {token : ℕ} {d : Denotation} {args : Expressions} {f : Fault} → IsJudged js (PrefixOf token (Some d) args)
      → (given s extent.Statement (Some d) args).typed ≡ true → nat_eq (formal_count s d) (given s extent.Statement (Some d) args).count ≡ true
      → (given s extent.Statement (Some d) args).misfit ≡ Some f → IsMisfit s js f
  in_assignment : {left : Expression} {parts : List RightSide} {f : Fault} → IsJudged js (Assigned left parts)
      → (lefts s (first_sign parts) (operand s extent.Statement (last_value left parts)) no_lefts (left_sides left parts)).value.typed ≡ true
      → (lefts s (first_sign parts) (operand s extent.Statement (last_value left parts)) no_lefts (left_sides left parts)).value.misfit ≡ Some f
      → IsMisfit s js f

-- A value that goes to a place of another type, at its first token, with the rule: to a controlled variable, and to an activation.
pub data GoesTo (s : Tables) (js : List Judgement) : Rule → (first : ℕ) → Type 0 where
  to_controlled : {a b : SimType} {x : Expression} {rule : Rule} → IsJudged js (TakenBy (Some a) x) → type_of s extent.Statement x ≡ Some b
      → misfit_of s a b ≡ Some rule → GoesTo s js rule (first_of x)
  to_activation : {process : DeclNo} {b : SimType} {x : Expression} {rule : Rule} → IsJudged js (Process (Some process) x)
      → type_of s extent.Statement x ≡ Some b → misfit_of s (t.Ref process) b ≡ Some rule → GoesTo s js rule (first_of x)

-- ---- the rules

-- S12: a class is wanted and the identifier is none; an array or a class where a value is needed, in parentheses, or as a left side; a statement that
-- is no call; parameters or subscripts of what has none
pub data WrongKind (s : Tables) (js : List Judgement) : (token : ℕ) → Type 0 where
  no_class : {e : Extent} {x : Identifier} {d : Denotation} → IsJudged js (NamesClass e x) → (occurrence s e x).denotes ≡ Some d
      → is_class s d ≡ false → WrongKind s js x.token.0
  no_value : {first : ℕ} {o : Outcome} → IsTaken s js first o → is_array_or_class (called_as s o) ≡ true → WrongKind s js first
  no_value_in_parentheses : (e : Extent) {x : Expression} → IsJudged js (InParentheses e x)
      → is_array_or_class (called_as s (outcome s e x)) ≡ true → WrongKind s js (first_of x)
  no_statement : {x : Expression} → IsJudged js (Alone x) → is_call (called_as s (outcome s extent.Statement x)) ≡ false → WrongKind s js (first_of x)
  no_left_side : {sign : Assignment} {x : Expression} → IsJudged js (Target sign x) → left_of s sign (outcome s extent.Statement x) ≡ WithoutKind
      → WrongKind s js (first_of x)
  no_parameters : {token : ℕ} {d : Denotation} {a : Actuals} → IsApplied s js token d a → a.typed ≡ true → is_stream_of d ≡ false
      → has_parameters s d ≡ false → WrongKind s js token

-- S13, at the first token of the operand
pub data WrongType (s : Tables) (js : List Judgement) : (token : ℕ) → Type 0 where
  no_result : {first : ℕ} {o : Outcome} → IsTaken s js first o → is_no_value (called_as s o) ≡ true → WrongType s js first
  first_operand : {e : Extent} {operator : Operator} {token : ℕ} {x y : Expression} {a b : SimType} → IsJudged js (Operands e operator token x y)
      → type_of s e x ≡ Some a → type_of s e y ≡ Some b → operands_fit operator a b ≡ fit.FirstWrong → WrongType s js (first_of x)
  second_operand : {e : Extent} {operator : Operator} {token : ℕ} {x y : Expression} {a b : SimType}
      → IsJudged js (Operands e operator token x y) → type_of s e x ≡ Some a → type_of s e y ≡ Some b
      → operands_fit operator a b ≡ fit.SecondWrong → WrongType s js (first_of y)
  one_operand : {e : Extent} {wanted a : SimType} {token : ℕ} {x : Expression} → IsJudged js (Operand e wanted token x) → type_of s e x ≡ Some a
      → is_same a wanted ≡ false → WrongType s js (first_of x)
  condition : {e : Extent} {token : ℕ} {c x y : Expression} {a b d : SimType} → IsJudged js (Arms e token c x y) → type_of s e c ≡ Some a
      → type_of s e x ≡ Some b → type_of s e y ≡ Some d → is_same a t.Boolean ≡ false → WrongType s js (first_of c)
  second_arm : {e : Extent} {token : ℕ} {c x y : Expression} {a b d : SimType} → IsJudged js (Arms e token c x y) → type_of s e c ≡ Some a
      → type_of s e x ≡ Some b → type_of s e y ≡ Some d → is_same a t.Boolean ≡ true → common_type s b d ≡ None → WrongType s js (first_of y)
  no_attributes : {e : Extent} {x : Expression} {name : Identifier} {a : SimType} → IsJudged js (Attribute e x name)
      → is_stream_alone (outcome s e x) ≡ false → type_of s e x ≡ Some a → has_attributes a ≡ false → WrongType s js (first_of x)
  no_reference : {e : Extent} {x : Expression} {class : Identifier} {a : SimType} → IsJudged js (ComparedWith e x class) → type_of s e x ≡ Some a
      → is_reference a ≡ false → WrongType s js (first_of x)
  not_needed : {e : Extent} {wanted a : SimType} {x : Expression} → IsJudged js (Needs e wanted x) → type_of s e x ≡ Some a
      → is_same a wanted ≡ false → WrongType s js (first_of x)
  left_without_value : {sign : Assignment} {x : Expression} → IsJudged js (Target sign x)
      → left_of s sign (outcome s extent.Statement x) ≡ WithoutValue → WrongType s js (first_of x)
  sign_of_left : {sign : Assignment} {x : Expression} {variable : Bool} {a : SimType} → IsJudged js (Target sign x)
      → left_of s sign (outcome s extent.Statement x) ≡ Of variable a → takes sign a ≡ false → WrongType s js (first_of x)
  sign_of_controlled : {sign : Assignment} {x : Identifier} {a : SimType} → IsJudged js (Controls sign x)
      → variable_of s (occurrence s extent.Statement x).denotes ≡ Simple a → takes sign a ≡ false → WrongType s js x.token.0
  no_steps : {a b : SimType} {x : Expression} → IsJudged js (StartsFrom (Some a) x) → type_of s extent.Statement x ≡ Some b
      → (is_same a t.Integer && is_same b t.Integer) ≡ false → WrongType s js (first_of x)
  constant_of_type : {type : TypeName} {v : VariableTree} {c : Constant} → IsJudged js (Declared type v) → v.value ≡ Some c
      → has_type (value_type type) (constant_type c) ≡ false → WrongType s js (constant_token c)
  inspected : {token : ℕ} {x : Expression} {a : SimType} → IsJudged js (Inspects token x) → type_of s extent.Statement x ≡ Some a
      → is_reference a ≡ false → WrongType s js (first_of x)
  inspected_when : {x : Expression} {a : SimType} → IsJudged js (InspectsWhen x) → type_of s extent.Statement x ≡ Some a → is_reference a ≡ false
      → WrongType s js (first_of x)
  of_other_type : {first : ℕ} → GoesTo s js r.WrongType first → WrongType s js first
  misfit_of_type : {token : ℕ} → IsMisfit s js (fault token r.WrongType) → WrongType s js token

-- S14, at the first token of a left side that is no variable, and at a sign that is not that of the first one
pub data LeftSideIsNoVariable (s : Tables) (js : List Judgement) : (token : ℕ) → Type 0 where
  no_variable : {sign : Assignment} {x : Expression} {a : SimType} → IsJudged js (Target sign x)
      → left_of s sign (outcome s extent.Statement x) ≡ Of false a → LeftSideIsNoVariable s js (first_of x)
  other_sign : {first sign : Assignment} {token : ℕ} → IsJudged js (Sign first sign token) → same_sign first sign ≡ false
      → LeftSideIsNoVariable s js token

-- S15, at the identifier that is called or subscripted
pub data WrongNumber (s : Tables) (js : List Judgement) : (token : ℕ) → Type 0 where
  without_actuals : {o : Outcome} {d : Denotation} {token : ℕ} → IsCalled s js o → IsAlone o d token → NeedsActuals s d → WrongNumber s js token
  other_number : {token : ℕ} {d : Denotation} {a : Actuals} → IsApplied s js token d a → a.typed ≡ true → is_stream_of d ≡ false
      → has_parameters s d ≡ true → agrees (count_of s d) a.count ≡ false → WrongNumber s js token
  of_class : {e : Extent} {token : ℕ} {class : Identifier} {args : Expressions} {d : Denotation} → IsJudged js (NewOf e token class args)
      → (class_of s e class).denotes ≡ Some d → wrong_number s d (given s e (class_of s e class).denotes args) ≡ true
      → WrongNumber s js class.token.0
  of_prefix : {token : ℕ} {d : Denotation} {args : Expressions} → IsJudged js (PrefixOf token (Some d) args)
      → (given s extent.Statement (Some d) args).typed ≡ true → nat_eq (formal_count s d) (given s extent.Statement (Some d) args).count ≡ false
      → WrongNumber s js token

-- S16, at the class behind `is`, `in`, `qua` or `when`, or at the first token of what goes to a reference
pub data DifferentChains (s : Tables) (js : List Judgement) : (token : ℕ) → Type 0 where
  with_class : {e : Extent} {x : Expression} {class : Identifier} → IsJudged js (ComparedWith e x class)
      → other_chain s (class_of s e class).denotes (type_of s e x) ≡ true → DifferentChains s js class.token.0
  with_arm : {token : ℕ} {x : Expression} {class : Identifier} → IsJudged js (Arm token x class)
      → other_chain s (class_of s extent.Statement class).denotes (type_of s extent.Statement x) ≡ true → DifferentChains s js class.token.0
  of_other_chain : {first : ℕ} → GoesTo s js r.DifferentChains first → DifferentChains s js first
  misfit_of_chain : {token : ℕ} → IsMisfit s js (fault token r.DifferentChains) → DifferentChains s js token

-- S17, at the identifier behind the dot of an object of a class with classes, or at `inspect`
pub data ClassWithClasses (s : Tables) (js : List Judgement) : (token : ℕ) → Type 0 where
  behind_dot : {e : Extent} {a : Expression} {x : Identifier} {class : DeclNo} {block : ℕ} → IsJudged js (Attribute e a x)
      → is_stream_alone (outcome s e a) ≡ false → type_of s e a ≡ Some (t.Ref class) → class_block s class ≡ Some block
      → has_classes s block ≡ true → ClassWithClasses s js x.token.0
  by_inspection : {token : ℕ} {x : Expression} {class : DeclNo} {block : ℕ} → IsJudged js (Inspects token x)
      → type_of s extent.Statement x ≡ Some (t.Ref class) → class_block s class ≡ Some block → has_classes s block ≡ true
      → ClassWithClasses s js token
  by_arm : {token : ℕ} {x : Expression} {class : Identifier} {d : Denotation} {block : ℕ} → IsJudged js (Arm token x class)
      → (class_of s extent.Statement class).denotes ≡ Some d → block_of_class s d ≡ Some block → has_classes s block ≡ true
      → ClassWithClasses s js token

-- S18, at the class behind `this`, where no block around is of it
pub data ThisOutsideItsClass (s : Tables) (js : List Judgement) : (token : ℕ) → Type 0 where
  outside : {e : Extent} {token : ℕ} {class : Identifier} {d : Denotation} → IsJudged js (ThisOf e token class)
      → (class_of s e class).denotes ≡ Some d → this_block s class.token.0 d ≡ None → ThisOutsideItsClass s js class.token.0

-- S19, at the identifier behind `for`
pub data ControlledVariableNotSimple (s : Tables) (js : List Judgement) : (token : ℕ) → Type 0 where
  controlled : {sign : Assignment} {x : Identifier} → IsJudged js (Controls sign x)
      → variable_of s (occurrence s extent.Statement x).denotes ≡ NotSimple → ControlledVariableNotSimple s js x.token.0

-- S20, at `activate` or `reactivate`
pub data ActivationOutsideSimulation (s : Tables) (js : List Judgement) : (token : ℕ) → Type 0 where
  no_simulation : {token : ℕ} → IsJudged js (Activates token) → process_at s token ≡ None → ActivationOutsideSimulation s js token

-- S21, at a class that is only for prefixing, behind `is`, `in`, `qua`, `when`, `this` or `new`
pub data OnlyForPrefixing (s : Tables) (js : List Judgement) : (token : ℕ) → Type 0 where
  compared_with : {e : Extent} {x : Expression} {class : Identifier} {d : Denotation} → IsJudged js (ComparedWith e x class)
      → (class_of s e class).denotes ≡ Some d → is_only_prefix s d ≡ true → OnlyForPrefixing s js class.token.0
  when_of : {token : ℕ} {x : Expression} {class : Identifier} {d : Denotation} → IsJudged js (Arm token x class)
      → (class_of s extent.Statement class).denotes ≡ Some d → is_only_prefix s d ≡ true → OnlyForPrefixing s js class.token.0
  this_of : {e : Extent} {token : ℕ} {class : Identifier} {d : Denotation} → IsJudged js (ThisOf e token class)
      → (class_of s e class).denotes ≡ Some d → is_only_prefix s d ≡ true → OnlyForPrefixing s js class.token.0
  new_of : {e : Extent} {token : ℕ} {class : Identifier} {args : Expressions} {d : Denotation} → IsJudged js (NewOf e token class args)
      → (class_of s e class).denotes ≡ Some d → is_only_prefix s d ≡ true → OnlyForPrefixing s js class.token.0

-- S22, at an identifier in a bound whose block is that of the array, and which is neither a parameter nor a constant; and at the class of a `this`
-- there that means this block
pub data BoundDependsOnItsBlock (s : Tables) (js : List Judgement) : (token : ℕ) → Type 0 where
  identifier_of_block : {e : Extent} {x : Identifier} {d : Denotation} → IsJudged js (Occurs e x) → binding s x.token.0 x.name ≡ Some d
      → is_barred s e x.token.0 d ≡ true → BoundDependsOnItsBlock s js x.token.0
  attribute_of_block : {e : Extent} {a : Expression} {x : Identifier} {class : DeclNo} {block : ℕ} {d : Denotation}
      → IsJudged js (Attribute e a x) → is_stream_alone (outcome s e a) ≡ false → type_of s e a ≡ Some (t.Ref class)
      → class_block s class ≡ Some block → attribute_in s x.token.0 block x.name ≡ Some d → is_barred s e x.token.0 d ≡ true
      → BoundDependsOnItsBlock s js x.token.0
  this_of_block : {e : Extent} {token : ℕ} {class : Identifier} {d : Denotation} → IsJudged js (ThisOf e token class)
      → (class_of s e class).denotes ≡ Some d → this_barred s e class.token.0 (this_block s class.token.0 d) ≡ true
      → BoundDependsOnItsBlock s js class.token.0

-- S23, at `sysin` or `sysout` where it stands before no dot, and at the first token of a standard name that is passed as a procedure
pub data StandardNameLeftOut (s : Tables) (js : List Judgement) : (token : ℕ) → Type 0 where
  stream_alone : {o : Outcome} {name : StandardName} {token : ℕ} → IsCalled s js o → IsAlone o (denotation.Standard name) token
      → is_stream name ≡ true → StandardNameLeftOut s js token
  stream_applied : {token : ℕ} {d : Denotation} {a : Actuals} → IsApplied s js token d a → is_stream_of d ≡ true → StandardNameLeftOut s js token
  passed : {e : Extent} {q : Parameter} {x : Expression} → IsJudged js (ActualFor q e x) → is_taken q (outcome s e x) ≡ false
      → is_left_out s q (outcome s e x) ≡ true → StandardNameLeftOut s js (first_of x)
  misfit_of_name : {token : ℕ} → IsMisfit s js (fault token r.StandardNameLeftOut) → StandardNameLeftOut s js token
