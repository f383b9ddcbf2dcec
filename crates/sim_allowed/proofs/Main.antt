-- An allowed program is typed, so it always has a rule.
use Rattle.std.proofs.Common.{◌≡◌, ℕ, List}
use Rattle.sim_base.specs.declared.limits.Limits.{Limits}
use Rattle.sim_base.specs.declared.token.Token.{Token}
use Rattle.sim_scope.specs.Source.{Source}
use Rattle.sim_tree.specs.declared.program.Program.{Program as Tree}
use Rattle.sim_tree.specs.SyntaxOfProgram.{program_syntax}
use Rattle.sim_tree.specs.Tree.{IsTree}
use Rattle.sim_static.specs.Check.{Allowed, check_of}
use Rattle.sim_code.specs.Outcome.{Ended, NoRule, World}
use Rattle.sim_meaning.specs.Meaning.{run}
use Rattle.sim_sound.specs.Typed.{Typed}
use Rattle.sim_sound.proofs.Main.{never_no_rule}
use Rattle.sim_allowed.proofs.Agreed.{Written, agreed_where, near_there}
use Rattle.sim_allowed.proofs.Allowed.{AllowedIs, allowed_says, allowed_typed_where}
use Rattle.sim_allowed.proofs.ArrayKinds.{arrays, class_arrays, prefixed_arrays}

written : (s : Source) → AllowedIs s → Written s
written s a = record {
  arrays = arrays s a;
  class_arrays = class_arrays s a;
  prefixed_arrays = prefixed_arrays s a;
}

pub allowed_typed : (tokens : List Token) (tree : Tree) (s : Source) → IsTree tokens tree → s.program ≡ program_syntax tree → check_of tree ≡ Allowed s.tables s.uses s.found_in s.types → Typed s
allowed_typed tokens tree s is same allowed =
    let a = allowed_says tokens tree s is same allowed in
    allowed_typed_where s a (agreed_where s a (written s a)) (near_there s a)

pub allowed_never_no_rule : (tokens : List Token) (tree : Tree) (s : Source) → IsTree tokens tree → s.program ≡ program_syntax tree → check_of tree ≡ Allowed s.tables s.uses s.found_in s.types
    → (l : Limits) (input : List ℕ) (n : ℕ) (o : World) → run s l input n ≡ Ended o NoRule → ⊥
allowed_never_no_rule tokens tree s is same allowed = never_no_rule s (allowed_typed tokens tree s is same allowed)
