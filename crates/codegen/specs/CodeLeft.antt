-- Which code stands for an assignment.
use Rattle.std.specs.Prelude.{◌≡◌, ◌<◌, ◌≤◌, ℕ, suc, Bool, true, false, pos, List, [], ◌∷◌, reverse, Option, Some, None}
use Rattle.sim_base.specs.declared.numbering.DeclNo.{DeclNo}
use Rattle.sim_scope.specs.declared.scopes.Denotation.{Denotation}
use Rattle.sim_scope.specs.declared.scopes.Denotation.TheVariants as denotation
use Rattle.sim_scope.specs.declared.types.Entry.{Entry}
use Rattle.sim_scope.specs.declared.types.Entry.TheVariants as entry
use Rattle.sim_scope.specs.declared.types.FormalKind.{FormalKind}
use Rattle.sim_scope.specs.declared.types.FormalKind.TheVariants as shape
use Rattle.sim_scope.specs.declared.types.Mode.{Mode}
use Rattle.sim_scope.specs.declared.types.Mode.TheVariants as mode
use Rattle.sim_scope.specs.Assignments.{LeftSide}
use Rattle.sim_scope.specs.Scopes.{entry_of}
use Rattle.sim_scope.specs.Source.{Source, block_of, denoted, level_of, line_at}
use Rattle.sim_tree.specs.declared.stmt.Assignment.{Assignment}
use Rattle.sim_tree.specs.declared.stmt.Assignment.TheVariants as assignment
use Rattle.sim_tree.specs.Syntax.{Expression, Expressions, NoMore, Then}
use Rattle.sim_tree.specs.Syntax as syntax
use Rattle.sim_code.specs.declared.instr.Instr.TheVariants as i
use Rattle.sim_code.specs.Code.{CodeOf}
use Rattle.sim_meaning.specs.Attributes.{connection_at, declared_attribute}
use Rattle.sim_meaning.specs.Closing.{by_name, class_of_formal, is_text, own_match, result_meant}
use Rattle.sim_meaning.specs.Pending.{Declared, ForPlace, Key, Result}
use Rattle.sim_meaning.specs.Virtuals.{text_of_procedure}
use Rattle.codegen_expr.specs.Sites.{At, HasCell, Inside, Is, Pushes, Site, class_number, slot_of}
use Rattle.codegen_expr.specs.CodeExpr.{ByNameAt, ElementAt, ExprAt, ExprsAt, HeldAt, PlaceAt, ReferencePlaceAt}

-- What a left side is in code: a cell, by its level and its slot; the address on the stack of an element, of what is found anew, or of
-- a reference, which is held against its class; a text on the stack to which a text is assigned, which is the value of an expression or lies
-- in the cell of the result of a procedure; or what is no place.
pub data Stored : Type 0 where
  InCell : (text : ℕ) → Key → Stored
  AtAddress : DeclNo → Expressions → (line : ℕ) → Stored
  AtAttribute : Expression → Stored
  ToReference : Expression → (line : ℕ) → Stored
  ToText : Expression → (line : ℕ) → Stored
  ToResult : (text line : ℕ) → Stored
  -- the variable of a formal parameter by name; its text; and where it is a reference, which is held against the class of the formal parameter too
  ToNamed : DeclNo → (line : ℕ) → Stored
  ToNamedText : DeclNo → (line : ℕ) → Stored
  ToNamedReference : DeclNo → (class line : ℕ) → Stored
  NoPlace : Stored

abbrev pub stored_variable : Source → DeclNo → Expressions → Stored
stored_variable s d NoMore = InCell (block_of s d) (Declared d.0)
stored_variable s d (Then e es) = NoPlace

abbrev pub stored_element : DeclNo → Expressions → (line : ℕ) → Stored
stored_element d NoMore line = NoPlace
stored_element d (Then e es) line = AtAddress d (Then e es) line

-- an element of an array by name is found anew, as the whole left side is
abbrev pub stored_anew : Expression → Expressions → Stored
stored_anew e NoMore = NoPlace
stored_anew e (Then a es) = AtAttribute e

abbrev pub stored_formal : Source → Expression → DeclNo → Expressions → (line : ℕ) → Mode → FormalKind → Stored
stored_formal s e d es line mode.ByName shape.Simple = NoPlace
stored_formal s e d es line mode.ByName shape.Array = stored_anew e es
stored_formal s e d es line mode shape.Simple = stored_variable s d es
stored_formal s e d es line mode shape.Array = stored_element d es line
stored_formal s e d es line mode shape.Procedure = NoPlace

abbrev pub stored_result : (text : ℕ) → Expressions → Stored
stored_result text NoMore = InCell text Result
stored_result text (Then e es) = NoPlace

abbrev pub stored_declared : Source → Expression → DeclNo → Expressions → (line : ℕ) → Option Entry → Stored
stored_declared s e d es line (Some (entry.Variable type)) = stored_variable s d es
stored_declared s e d es line (Some (entry.Array element dimensions)) = stored_element d es line
stored_declared s e d es line (Some (entry.Formal f)) = stored_formal s e d es line f.mode f.kind
stored_declared s e d es line (Some (entry.Procedure result text)) = stored_result text es
stored_declared s e d es line _ = NoPlace

abbrev pub stored_named : Source → Expression → Option Denotation → Expressions → (line : ℕ) → Stored
stored_named s e (Some (denotation.Declared d)) es line = stored_declared s e d es line (entry_of s.tables d)
stored_named s e _ es line = NoPlace

-- what is seen behind a dot or through a connection is an attribute of an object
abbrev pub stored_found : {A : Type 0} → Option A → Expression → Stored → Stored
stored_found None e other = other
stored_found (Some a) e other = AtAttribute e

-- the result of a match
abbrev pub stored_match : (match : Option ℕ) → Stored → Stored
stored_match None other = other
stored_match (Some text) other = InCell text Result

-- a variable as a left side
abbrev pub stored_left : Source → Expression → Stored
stored_left s (syntax.Named name es) = stored_found (connection_at s name.token.0) (syntax.Named name es) (stored_match (text_of_procedure s (own_match s (syntax.Named name es))) (stored_named s (syntax.Named name es) (denoted s name.token.0) es (line_at s name.token.0)))
stored_left s (syntax.Dot token a name es) = stored_found (declared_attribute (denoted s name.token.0)) (syntax.Dot token a name es) NoPlace
stored_left s e = NoPlace

-- a text to which a text is assigned, with the line of the sign
abbrev pub stored_text : Option ℕ → Expression → (line : ℕ) → Stored
stored_text None e line = ToText e line
stored_text (Some block) e line = ToResult block line

abbrev pub stored_by_sign : (text : Bool) → Assignment → Source → (line : ℕ) → Expression → Stored
stored_by_sign true assignment.Value s line e = stored_text (result_meant s e) e line
stored_by_sign true assignment.Reference s line e = stored_left s e
stored_by_sign false assignment.Value s line e = stored_left s e
stored_by_sign false assignment.Reference s line e = ToReference e line

abbrev pub stored_held : DeclNo → (class : Option ℕ) → (line : ℕ) → Stored
stored_held d None line = NoPlace
stored_held d (Some k) line = ToNamedReference d k line

abbrev pub stored_named_by : (text : Bool) → Assignment → Source → DeclNo → (line : ℕ) → Stored
stored_named_by true assignment.Value s d line = ToNamedText d line
stored_named_by true assignment.Reference s d line = ToNamed d line
stored_named_by false assignment.Value s d line = ToNamed d line
stored_named_by false assignment.Reference s d line = stored_held d (class_of_formal s d) line

abbrev pub stored_or_named : Option DeclNo → (text : Bool) → Assignment → Source → (line : ℕ) → Expression → Stored
stored_or_named None text sign s line e = stored_by_sign text sign s line e
stored_or_named (Some d) text sign s line e = stored_named_by text sign s d line

abbrev pub stored_of : (text : Bool) → Assignment → Source → (line : ℕ) → Expression → Stored
stored_of text sign s line e = stored_or_named (by_name s e) text sign s line e

-- a left side, with the line of its sign
abbrev pub stored : Source → Assignment → (line : ℕ) → Expression → Stored
stored s sign line e = stored_of (is_text s e) sign s line e

-- the text in the cell of the result of a procedure
pub record ResultAt (s : Source) (code : CodeOf) (site : Site) (n text p q : ℕ) : Type 0 where
  pub load : Pushes code site n (i.Load (pos (level_of s text)) (pos (slot_of s code text Result))) p q
  pub inside : Inside s.tables site.text text
  pub within : HasCell s text Result

-- the addresses and the texts of left sides, from left to right, each on one value more
abbrev pub LeftsAt : Source → CodeOf → Site → ℕ → List Stored → (end : ℕ → ℕ → ℕ → Type 0) → ℕ → ℕ → Type 0
LeftsAt s code site n [] End p q = End n p q
LeftsAt s code site n (InCell text key ∷ rest) End p q = Inside s.tables site.text text × HasCell s text key × LeftsAt s code site n rest End p q
LeftsAt s code site n (AtAddress d es line ∷ rest) End p q =
    (x : ℕ) × ElementAt s code site n line 0 d es (ExprsAt s code site (suc n) es) p x × LeftsAt s code site (suc n) rest End x q
LeftsAt s code site n (AtAttribute e ∷ rest) End p q = (x : ℕ) × PlaceAt s code site n 0 e p x × LeftsAt s code site (suc n) rest End x q
LeftsAt s code site n (ToReference e line ∷ rest) End p q = (x : ℕ) × ReferencePlaceAt s code site n e p x × LeftsAt s code site (suc n) rest End x q
LeftsAt s code site n (ToText e line ∷ rest) End p q = (x : ℕ) × ExprAt s code site n e p x × LeftsAt s code site (suc n) rest End x q
LeftsAt s code site n (ToResult text line ∷ rest) End p q = (x : ℕ) × ResultAt s code site n text p x × LeftsAt s code site (suc n) rest End x q
LeftsAt s code site n (ToNamed d line ∷ rest) End p q = (x : ℕ) × ByNameAt s code site n d NoMore (ForPlace false line) p x × LeftsAt s code site (suc n) rest End x q
LeftsAt s code site n (ToNamedText d line ∷ rest) End p q = (x : ℕ) × (y : ℕ) × ByNameAt s code site n d NoMore (ForPlace false line) p x × Is code i.Fetch x y × LeftsAt s code site (suc n) rest End y q
LeftsAt s code site n (ToNamedReference d class line ∷ rest) End p q = (x : ℕ) × ByNameAt s code site n d NoMore (ForPlace false line) p x × LeftsAt s code site (suc n) rest End x q
LeftsAt s code site n (NoPlace ∷ rest) End p q = ⊥

-- the value on top of n others goes to one left side
abbrev pub StoreAt : Source → CodeOf → Site → ℕ → Stored → ℕ → ℕ → Type 0
StoreAt s code site n (InCell text key) p q = Is code (i.Store (pos (level_of s text)) (pos (slot_of s code text key))) p q
StoreAt s code site n (AtAddress d es line) p q = Is code i.Put p q
StoreAt s code site n (AtAttribute e) p q = Is code i.Put p q
StoreAt s code site n (ToReference e line) p q = At code i.Put line p q
StoreAt s code site n (ToText e line) p q = At code i.AssignT line p q
StoreAt s code site n (ToResult text line) p q = At code i.AssignT line p q
StoreAt s code site n (ToNamed d line) p q = Is code i.Put p q
StoreAt s code site n (ToNamedText d line) p q = At code i.AssignT line p q
StoreAt s code site n (ToNamedReference d class line) p q = (x : ℕ) × HeldAt s code site n line (class_number s code class) p x × At code i.Put line x q
StoreAt s code site n NoPlace p q = ⊥

abbrev pub addresses : List Stored → ℕ
addresses [] = 0
addresses (AtAddress d es line ∷ rest) = suc (addresses rest)
addresses (AtAttribute e ∷ rest) = suc (addresses rest)
addresses (ToReference e line ∷ rest) = suc (addresses rest)
addresses (ToText e line ∷ rest) = suc (addresses rest)
addresses (ToResult text line ∷ rest) = suc (addresses rest)
addresses (ToNamed d line ∷ rest) = suc (addresses rest)
addresses (ToNamedText d line ∷ rest) = suc (addresses rest)
addresses (ToNamedReference d class line ∷ rest) = suc (addresses rest)
addresses (_ ∷ rest) = addresses rest

-- how many values are left where one left side has its value: one fewer behind an address or a text
abbrev pub below : Stored → ℕ → ℕ
below (AtAddress d es line) (suc n) = n
below (AtAttribute e) (suc n) = n
below (ToReference e line) (suc n) = n
below (ToText e line) (suc n) = n
below (ToResult text line) (suc n) = n
below (ToNamed d line) (suc n) = n
below (ToNamedText d line) (suc n) = n
below (ToNamedReference d class line) (suc n) = n
below _ n = n

-- It goes to several, the last one first, from a temp of its own; the addresses and texts that still wait are among the n values.
abbrev pub GivesAt : Source → CodeOf → Site → (temp n : ℕ) → List Stored → ℕ → ℕ → Type 0
GivesAt s code site temp n [] p q = q ≡ p
GivesAt s code site temp n (t ∷ rest) p q =
    (x : ℕ) × (y : ℕ) × Pushes code site n (i.Load (pos (level_of s site.text)) (pos temp)) p x × StoreAt s code site n t x y × GivesAt s code site temp (below t n) rest y q

-- the value on the right, and where it goes
pub record SharesAt (s : Source) (code : CodeOf) (site : Site) (n : ℕ) (e : Expression) (ts : List Stored) (p q : ℕ) : Type 0 where
  pub x : ℕ
  pub y : ℕ
  pub temp : ℕ
  pub behind : site.used ≤ temp
  pub within : temp < site.size
  pub value : ExprAt s code site n e p x
  pub kept : Is code (i.Store (pos (level_of s site.text)) (pos temp)) x y
  pub gives : GivesAt s code site temp n (reverse ts) y q

abbrev pub GoesAt : Source → CodeOf → Site → Expression → List Stored → ℕ → ℕ → ℕ → Type 0
GoesAt s code site e (t ∷ []) n p q = (x : ℕ) × ExprAt s code site n e p x × StoreAt s code site n t x q
GoesAt s code site e ts n p q = SharesAt s code site n e ts p q

abbrev pub each_stored : Source → List LeftSide → List Stored
each_stored s [] = []
each_stored s (l ∷ ls) = stored s l.sign (line_at s l.token) l.target ∷ each_stored s ls

abbrev pub AssignAt : Source → CodeOf → Site → ℕ → List Stored → Expression → ℕ → ℕ → Type 0
AssignAt s code site n ts e p q = LeftsAt s code site n ts (GoesAt s code site e ts) p q
