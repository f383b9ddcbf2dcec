-- Where `inner` stands: at most once among the statements of a class, and nowhere else.
use Rattle.std.specs.Prelude.{◌≡◌, ℕ, Bool, true, false, Some}
use Rattle.sim_scope.specs.Source.{Source}
use Rattle.sim_meaning.specs.Levels.{writes_inner}
use Rattle.sim_meaning.specs.Texts.{BlockText, ClassText, ProcedureText, Text, text, PrefixedText}
use Rattle.sim_tree.specs.Syntax as s
use Rattle.sim_tree.specs.Syntax.{Arms, Block, Statement, Statements}

-- of declarations nothing is said, since their texts are others
abbrev mutual
  pub NoInner : Statement → Type 0
  NoInner (s.Inner token) = ⊥
  NoInner (s.Compound b) = NoInnerWithin b
  NoInner (s.Choose token c a b) = NoInner a × NoInners b
  NoInner (s.Repeat token c a) = NoInner a
  NoInner (s.For token x sign assign es a) = NoInner a
  NoInner (s.Inspect token e opening a end other) = NoInner a × NoInners other
  NoInner (s.InspectWhen token e arms other) = NoInnerArms arms × NoInners other
  NoInner _ = Unit {0}

  pub NoInners : Statements → Type 0
  NoInners s.NoStatement = Unit {0}
  NoInners (s.Also a more) = NoInner a × NoInners more

  pub NoInnerArms : Arms → Type 0
  NoInnerArms s.NoArm = Unit {0}
  NoInnerArms (s.When token class opening a end more) = NoInner a × NoInnerArms more

  pub NoInnerWithin : Block → Type 0
  NoInnerWithin (s.Begin token ds ss end) = NoInners ss

-- one of the statements is `inner`
pub data OneInner : Statements → Type 0 where
  here : {token : ℕ} {more : Statements} → NoInners more → OneInner (s.Also (s.Inner token) more)
  behind : {a : Statement} {more : Statements} → NoInner a → OneInner more → OneInner (s.Also a more)

-- in a text, of whose class the tables have an `inner` or none
abbrev pub InnersIn : (written : Bool) → Text → Type 0
InnersIn written (BlockText begin ds ss) = NoInners ss
InnersIn written (ProcedureText result h a) = NoInner a
InnersIn true (ClassText prefix h ds ss) = OneInner ss
InnersIn false (ClassText prefix h ds ss) = NoInners ss
InnersIn written (PrefixedText class es ds ss) = NoInners ss
InnersIn written _ = Unit {0}

abbrev pub Inners : Source → Type 0
Inners x = (k : ℕ) (y : Text) → text x k ≡ Some y → InnersIn (writes_inner x k) y
