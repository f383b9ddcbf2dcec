-- What is known of a program that breaks no rule.
use Rattle.std.specs.Prelude.{◌≡◌, List}
use Rattle.sim_base.specs.declared.token.Token.{Token}
use Rattle.sim_scope.specs.Source.{Source}
use Rattle.sim_static.specs.Check.{Allowed, check_of}
use Rattle.sim_tree.specs.SyntaxOfProgram.{program_syntax}
use Rattle.sim_tree.specs.Tree.{IsTree}
use Rattle.sim_tree.specs.declared.program.Program.{Program as Tree}

-- this is the program of a tree that breaks no rule, with what the static rules give it
pub record IsChecked (tree : Tree) (s : Source) : Type 0 where
  pub allowed : check_of tree ≡ Allowed s.tables s.uses s.found_in s.types
  pub program : s.program ≡ program_syntax tree
  pub lines : s.lines ≡ tree.lines.items

-- it is so of the tree of these tokens
pub record IsAllowed (tokens : List Token) (tree : Tree) (s : Source) : Type 0 where
  pub reads : IsTree tokens tree
  pub checked : IsChecked tree s
