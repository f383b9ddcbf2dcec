-- The values of constants, gathered by the tokens at which they are declared.
use Rattle.std.specs.Prelude.{◌≡◌, ◌≢◌, ◌<◌, ◌≤◌, ℕ, ◌==◌, if◌then◌else◌, List, [], ◌∷◌, ◌++◌, length, map, drop, slice_get, Option, Some, None, option_map}
use Rattle.std.specs.declared.alloc.Global.{Global}
use Rattle.std.specs.declared.vec.Vec.{Vec}
use Rattle.sim_scope.specs.declared.scopes.Declaration.{Declaration as Row}
use Rattle.sim_scope.specs.Source.{Source}
use Rattle.sim_tree.specs.declared.stmt.Constant.{Constant}
use Rattle.sim_tree.specs.declared.stmt.Decl.{Decl}
use Rattle.sim_tree.specs.declared.stmt.Variable.{Variable}
use Rattle.sim_tree.specs.Syntax.{Arrays, Declaration, DeclareClass, DeclareProcedure, Variables}
use Rattle.sim_tree.specs.SyntaxOfProgram.{declaration_syntax}
use Rattle.sim_values.specs.Plain.{Plain}
use Rattle.sim_meaning.specs.Texts.{among_variables, constant_in, constant_value, value_in}
use Rattle.codegen_expr.specs.declared.cells.ConstantValue.{ConstantValue}
use Rattle.codegen_expr.specs.Known.{plain_in}
use Rattle.program_texts.specs.declared.tree.TextTree.{TextTree}
use Rattle.program_texts.specs.TextTrees.{text_in}
use Rattle.text_tables.specs.declared.constants.Entered.{Entered}

-- ---- what is entered at a token

abbrev pub Table : Type 0
Table = List (Vec Entered Global)

abbrev pub entered_in : Option (Vec Entered Global) → List Entered
entered_in None = []
entered_in (Some v) = v.items

abbrev pub entered_at : Table → (token : ℕ) → List Entered
entered_at table token = entered_in (slice_get table token)

-- the value of a constant, in each program
unfoldable pub IsValue : Option ConstantValue → Constant → Type 0
IsValue v x = (s : Source) → plain_in s v ≡ constant_value s x

unfoldable pub IsValueIn : Option ConstantValue → Option Constant → Type 0
IsValueIn v x = (s : Source) → plain_in s v ≡ value_in s x

-- what was entered first for a text
abbrev pub first_of : Source → (text : ℕ) → List Entered → Option (Option Plain)
first_of s k [] = None
first_of s k (e ∷ es) = if e.text == k then Some (plain_in s e.value) else first_of s k es

abbrev pub or_else : Option (Option Plain) → Option Plain → Option Plain
or_else None other = other
or_else (Some v) other = v

-- the constant of a text at a token, if one is entered, else another value
unfoldable pub found_at : Source → Table → (text token : ℕ) → (other : Option Plain) → Option Plain
found_at s table k token other = or_else (first_of s k (entered_at table token)) other

abbrev pub found_in : Source → List Entered → (text : ℕ) → Option Plain
found_in s es k = or_else (first_of s k es) None

unfoldable pub OwesFirst : List Entered → (text done : ℕ) → Type 0
OwesFirst es k i = (s : Source) → found_in s (drop i es) k ≡ found_in s es k

-- ---- tables that grow

-- the same is entered, and there is a row for a token
pub record Reaches (old new : Table) (token : ℕ) : Type 0 where
  pub long : token < length new
  pub same : (t : ℕ) → entered_at new t ≡ entered_at old t

-- the same is entered, and there are as many rows
pub record Grown (old new : Table) (rows : ℕ) : Type 0 where
  pub long : rows ≤ length new
  pub same : (t : ℕ) → entered_at new t ≡ entered_at old t

-- there is one entry more at a token
pub record Enters (old new : Table) (token : ℕ) (e : Entered) : Type 0 where
  pub at : entered_at new token ≡ entered_at old token ++ (e ∷ [])
  pub others : (t : ℕ) → t ≢ token → entered_at new t ≡ entered_at old t

-- What is found among declarations, or else, in each program.
abbrev pub Among : Type 0
Among = Source → ℕ → Option Plain → Option Plain

-- the constants of a part are entered for a text; `among` says what is found in the part, or else
pub record Gathers (k : ℕ) (old new : Table) (among : Among) : Type 0 where
  pub here : (s : Source) (t : ℕ) (other : Option Plain) → found_at s new k t other ≡ found_at s old k t (among s t other)
  pub elsewhere : (s : Source) (j : ℕ) → j ≢ k → (t : ℕ) (other : Option Plain) → found_at s new j t other ≡ found_at s old j t other

abbrev pub among_variable : Variable → Among
among_variable v s t other = if v.name.token.0 == t then value_in s v.value else other

abbrev pub among_declaration : Declaration → Among
among_declaration (Variables type vs) s t other = among_variables s t vs other
among_declaration (Arrays type i segments) s t other = other
among_declaration (DeclareProcedure result i h a end) s t other = other
among_declaration (DeclareClass prefix i h interface a end) s t other = other

abbrev pub among_decls : List Decl → Among
among_decls [] s t other = other
among_decls (x ∷ xs) s t other = among_declaration (declaration_syntax x) s t (among_decls xs s t other)

abbrev pub among_variable_list : List Variable → Among
among_variable_list vs s t other = among_variables s t vs other

unfoldable pub OwesVariables : (k : ℕ) → (old : Table) → List Variable → (now : Table) → (done : ℕ) → Type 0
OwesVariables k old vs now i = (end : Table) → Gathers k now end (among_variable_list (drop i vs)) → Gathers k old end (among_variable_list vs)

unfoldable pub OwesDeclarations : (k : ℕ) → (old : Table) → List Decl → (now : Table) → (done : ℕ) → Type 0
OwesDeclarations k old ds now i = (end : Table) → Gathers k now end (among_decls (drop i ds)) → Gathers k old end (among_decls ds)

-- the constants of a text are entered, if none were before
pub record TextGathers (k : ℕ) (old new : Table) (x : TextTree) : Type 0 where
  pub here : ((s : Source) (t : ℕ) (other : Option Plain) → found_at s old k t other ≡ other) → (s : Source) (t : ℕ) → found_at s new k t None ≡ constant_in s (Some (text_in x)) t
  pub elsewhere : (s : Source) (j : ℕ) → j ≢ k → (t : ℕ) (other : Option Plain) → found_at s new j t other ≡ found_at s old j t other

-- ---- all texts

-- the constants of the first texts are entered
pub record GatheredTo (ts : List TextTree) (table : Table) (done : ℕ) : Type 0 where
  pub gathered : (s : Source) (j t : ℕ) → j < done → found_at s table j t None ≡ constant_in s (option_map text_in (slice_get ts j)) t
  pub free : (s : Source) (j t : ℕ) (other : Option Plain) → done ≤ j → found_at s table j t other ≡ other

-- the constant of a row of the tables of scopes
abbrev pub constant_row : Source → List TextTree → Row → Option Plain
constant_row s ts row = constant_in s (option_map text_in (slice_get ts row.block)) row.token.0

unfoldable pub ConstantsOf : List TextTree → List Row → List (Option ConstantValue) → Type 0
ConstantsOf ts rows values = (s : Source) → map (plain_in s) values ≡ map (constant_row s ts) rows
