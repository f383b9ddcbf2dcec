use Rattle.std.proofs.Common.{◌≡◌, true, sym, ◌∙◌}
use Rattle.std.specs.Prelude.{not}
use Rattle.sim_tree.specs.Grammar as g
use Rattle.sim_tree.specs.Reading.{Forest, done, node}
use Rattle.sim_tree.specs.Tree.{limit, is_bare}
use Rattle.sim_tree.specs.Nesting.{is_full}
use Rattle.sim_tree.specs.ProgramDerivation.{program_derivation}
use Rattle.sim_tree.proofs.Full.{reads_full}
use Rattle.sim_tree.proofs.Laws.{one_reading}
use Rattle.sim_tree.proofs.Nests.{inside_of}
use Rattle.sim_tree.proofs.ReadPrograms.{same_syntax}
use Rattle.sim_tree.proofs.grammar.one_tree.Goals as goal

insides : (f h : Forest) → node g.Program f done ≡ node g.Program h done → f ≡ h
insides f h e = cc

pub returns-clause-derivation : goal.returns-clause-derivation
returns-clause-derivation c = λ ws p q x y. (insides _ _ (one_reading limit ws x.reads y.reads).0, x.lines ∙ sym y.lines)

pub returns-clause-syntax : goal.returns-clause-syntax
returns-clause-syntax c = λ ws p q x y.
    let f = program_derivation p in
    same_syntax p q (inside_of (not (is_bare f)) (is_full f) true (reads_full x.reads)) (insides _ _ (one_reading limit ws x.reads y.reads).0)
