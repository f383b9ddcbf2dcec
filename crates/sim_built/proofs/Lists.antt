-- What stands alone, and what has subscripts.
use Rattle.std.proofs.Common.{◌≡◌, ℕ, true, List, Option, Some, None, refl}
use Rattle.sim_scope.specs.declared.types.Entry.{Entry}
use Rattle.sim_scope.specs.declared.types.Entry.TheVariants as entry
use Rattle.sim_scope.specs.declared.types.Formal.{Formal}
use Rattle.sim_scope.specs.declared.types.FormalKind.{FormalKind}
use Rattle.sim_scope.specs.declared.types.FormalKind.TheVariants as shape
use Rattle.sim_scope.specs.declared.types.SimType.{SimType}
use Rattle.sim_scope.specs.declared.types.SimType.TheVariants as t
use Rattle.sim_scope.specs.Source.{Source}
use Rattle.sim_base.specs.declared.numbering.DeclNo.{DeclNo}
use Rattle.sim_tree.specs.Syntax.{Expressions, NoMore, Then}
use Rattle.sim_values.specs.declared.kind.Kind.{Kind}
use Rattle.sim_meaning.specs.Closing.{is_variable_entry, is_variable_formal}
use Rattle.sim_meaning.specs.Levels.{qualification}
use Rattle.sim_sound.specs.Held.{ArrayOf, ByName, Holds, Procedure, Refers, Simply, entry_names, formal_means, held_by, reference_to}
use Rattle.sim_sound.specs.Expressions.{DeclaredGives, HeldNames, LeftHeld, PlaceDeclared}
use Rattle.sim_sound.specs.Statements.{LeftDeclared}

abbrev pub Alone : (Known : Type 0) → Expressions → Type 0
Alone Known NoMore = Known
Alone Known (Then e es) = ⊥

abbrev pub Indexed : (Known : Type 0) → Expressions → (Indices : Type 0) → Type 0
Indexed Known NoMore Indices = ⊥
Indexed Known (Then e es) Indices = Known × Indices

-- variables hold no arrays
abbrev pub NoArray : Holds → Type 0
NoArray (ArrayOf h) = ⊥
NoArray (Procedure result) = ⊥
NoArray _ = Unit {0}

abbrev NoProcedure : Option Holds → Type 0
NoProcedure (Some (Procedure result)) = ⊥
NoProcedure _ = Unit {0}

reference_no_array : (class : Option ℕ) → NoArray (reference_to class)
reference_no_array None = tt
reference_no_array (Some k) = tt

pub no_array : (s : Source) (type : SimType) → NoArray (held_by s type)
no_array s t.Integer = tt
no_array s t.Boolean = tt
no_array s t.Character = tt
no_array s t.Text = tt
no_array s (t.Ref d) = reference_no_array (qualification s (Some (t.Ref d)))
no_array s t.NoneType = tt

pub data LeftCase (s : Source) (Known Indices : Type 0) (Own : ℕ → Type 0) (h : Holds) : Expressions → Option Entry → Type 0 where
  a_result : {type : SimType} {k : ℕ} → Own k → LeftCase s Known Indices Own h NoMore (Some (entry.Procedure (Some type) k))
  a_place : {es : Expressions} {y : Option Entry} → PlaceDeclared s Known es Indices y h → LeftCase s Known Indices Own h es y

module _ (s : Source) (Known Indices : Type 0) where
  pub left_alone : (es : Expressions) (x h : Holds) → NoArray x → LeftHeld Known es Indices (Some x) h → Alone Known es
  left_alone NoMore (Simply k) h p a = a.1
  left_alone NoMore (Refers c) h p a = a.1
  left_alone NoMore (ArrayOf k) h p a = absurd p
  left_alone NoMore (ByName k) h p a = absurd a
  left_alone NoMore (Procedure k) h p a = absurd a
  left_alone (Then e es) (Simply k) h p a = absurd a
  left_alone (Then e es) (Refers c) h p a = absurd a
  left_alone (Then e es) (ArrayOf k) h p a = absurd p
  left_alone (Then e es) (ByName k) h p a = absurd a
  left_alone (Then e es) (Procedure k) h p a = absurd a

  pub left_indexed : (es : Expressions) (x h : Holds) → LeftHeld Known es Indices (Some (ArrayOf x)) h → Indexed Known es Indices
  left_indexed NoMore x h a = absurd a
  left_indexed (Then e es) x h a = (a.1, a.2)

  pub left_none : (es : Expressions) (h : Holds) → LeftHeld Known es Indices None h → ⊥
  left_none NoMore h a = a
  left_none (Then e es) h a = a

  pub left_procedure : (es : Expressions) (ty : Option SimType) (h : Holds) → LeftHeld Known es Indices (Some (Procedure ty)) h → ⊥
  left_procedure NoMore ty h a = a
  left_procedure (Then e es) ty h a = a

  pub names_alone : (Checks : Type 0) (es : Expressions) (x h : Holds) → NoArray x → HeldNames s Known es Indices Checks (Some x) h → Alone Known es
  names_alone Checks NoMore (Simply k) h p a = a.1
  names_alone Checks NoMore (Refers c) h p a = a.1
  names_alone Checks (Then e es) (Simply k) h p a = absurd a
  names_alone Checks (Then e es) (Refers c) h p a = absurd a
  names_alone Checks es (ArrayOf k) h p a = absurd p
  names_alone Checks es (ByName k) h p a = absurd a
  names_alone Checks es (Procedure k) h p a = absurd p

  -- what is a variable or an element lies somewhere
  names_left : (Checks : Type 0) (es : Expressions) (o : Option Holds) (x : Kind) → NoProcedure o → HeldNames s Known es Indices Checks o (Simply x) → (h : Holds) × LeftHeld Known es Indices o h
  names_left Checks es None x p a = absurd a
  names_left Checks NoMore (Some (Simply k)) x p a = (Simply k, (refl, a.1))
  names_left Checks NoMore (Some (Refers c)) x p a = (Refers c, (refl, a.1))
  names_left Checks es (Some (ByName k)) x p a = absurd a
  names_left Checks es (Some (Procedure k)) x p a = absurd p
  names_left Checks NoMore (Some (ArrayOf k)) x p a = let e = a.0 in absurd (cc)
  names_left Checks (Then e es) (Some (Simply k)) x p a = absurd a
  names_left Checks (Then e es) (Some (Refers c)) x p a = absurd a
  names_left Checks (Then e es) (Some (ArrayOf k)) x p a = (k, (refl, a.1, a.2))

  plain_no_procedure : (x : Holds) → NoArray x → NoProcedure (Some x)
  plain_no_procedure (Simply k) p = tt
  plain_no_procedure (Refers c) p = tt
  plain_no_procedure (ByName k) p = tt
  plain_no_procedure (ArrayOf k) p = tt
  plain_no_procedure (Procedure k) p = absurd p

  formal_no_procedure : (k : FormalKind) (ty : Option SimType) (es : Expressions) → is_variable_formal k es ≡ true → NoProcedure (formal_means s k ty)
  formal_no_procedure shape.Simple (Some ty) es b = plain_no_procedure (held_by s ty) (no_array s ty)
  formal_no_procedure shape.Array (Some ty) es b = tt
  formal_no_procedure shape.Simple None es b = tt
  formal_no_procedure shape.Array None es b = tt
  formal_no_procedure shape.Procedure ty es b = absurd (cc)

  pub gives_place : (Checks : Type 0) (d : DeclNo) (es : Expressions) (Actuals : List Formal → Type 0) (y : Option Entry) (x : Kind) → is_variable_entry y es ≡ true → DeclaredGives s Known d es Indices Checks Actuals y (Some (Simply x)) → (h : Holds) × PlaceDeclared s Known es Indices y h
  gives_place Checks d es Actuals None x b a = absurd a
  gives_place Checks d es Actuals (Some (entry.Variable ty)) x b a = names_left Checks es (entry_names s (Some (entry.Variable ty))) x (plain_no_procedure (held_by s ty) (no_array s ty)) a
  gives_place Checks d es Actuals (Some (entry.Array ty n)) x b a = names_left Checks es (entry_names s (Some (entry.Array ty n))) x tt a
  gives_place Checks d es Actuals (Some (entry.Formal f)) x b a = names_left Checks es (entry_names s (Some (entry.Formal f))) x (formal_no_procedure f.kind f.ty es b) a
  gives_place Checks d es Actuals (Some (entry.Constant ty)) x b a = absurd (cc)
  gives_place Checks d es Actuals (Some (entry.Procedure r k)) x b a = absurd (cc)
  gives_place Checks d es Actuals (Some (entry.Class k)) x b a = absurd (cc)
  gives_place Checks d es Actuals (Some (entry.Virtual r k)) x b a = absurd (cc)
  gives_place Checks d es Actuals (Some (entry.Unspecified w)) x b a = absurd (cc)
  gives_place Checks d es Actuals (Some (entry.Attribute name parameter result)) x b a = absurd (cc)

  -- a left side is the result of a procedure, or a place
  pub left_case : (Own : ℕ → Type 0) (es : Expressions) (y : Option Entry) (h : Holds) → LeftDeclared s Known Own es Indices y h → LeftCase s Known Indices Own h es y
  left_case Own NoMore (Some (entry.Procedure (Some type) k)) h a = a_result a.1
  left_case Own NoMore (Some (entry.Procedure None k)) h a = absurd a
  left_case Own (Then e es) (Some (entry.Procedure r k)) h a = absurd a
  left_case Own NoMore None h a = absurd a
  left_case Own (Then e es) None h a = absurd a
  left_case Own NoMore (Some (entry.Variable ty)) h a = a_place a
  left_case Own (Then e es) (Some (entry.Variable ty)) h a = a_place a
  left_case Own NoMore (Some (entry.Array ty x)) h a = a_place a
  left_case Own (Then e es) (Some (entry.Array ty x)) h a = a_place a
  left_case Own NoMore (Some (entry.Formal f)) h a = a_place a
  left_case Own (Then e es) (Some (entry.Formal f)) h a = a_place a
  left_case Own NoMore (Some (entry.Constant ty)) h a = a_place a
  left_case Own (Then e es) (Some (entry.Constant ty)) h a = a_place a
  left_case Own NoMore (Some (entry.Class k)) h a = a_place a
  left_case Own (Then e es) (Some (entry.Class k)) h a = a_place a
  left_case Own NoMore (Some (entry.Virtual r k)) h a = a_place a
  left_case Own (Then e es) (Some (entry.Virtual r k)) h a = a_place a
  left_case Own NoMore (Some (entry.Unspecified w)) h a = a_place a
  left_case Own (Then e es) (Some (entry.Unspecified w)) h a = a_place a
  left_case Own NoMore (Some (entry.Attribute name parameter result)) h a = a_place a
  left_case Own (Then e es) (Some (entry.Attribute name parameter result)) h a = a_place a

  pub left_place : (Own : ℕ → Type 0) (es : Expressions) (y : Option Entry) (h : Holds) → ((k : ℕ) → Own k → ⊥) → LeftCase s Known Indices Own h es y → PlaceDeclared s Known es Indices y h
  left_place Own _ _ h n (a_result {k = k} a) = absurd (n k a)
  left_place Own _ _ h n (a_place a) = a
