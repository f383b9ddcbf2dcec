use Rattle.std.proofs.Common.{◌≡◌, ◌+◌, List, length, refl, sym, ap, ◌∙◌, subst}
use Rattle.sim_base.specs.declared.token.Lexeme.{Lexeme}
use Rattle.sim_tree.specs.Grammar as g
use Rattle.sim_tree.specs.Grammar.{right_side, is}
use Rattle.sim_tree.specs.Reading.{Forest, done, node, kind_at, value_at}
use Rattle.sim_tree.specs.Claim.{one}
use Rattle.sim_tree.specs.Examples.{source}
use Rattle.sim_tree.specs.ProgramDerivation.{program_derivation}
use Rattle.sim_tree.specs.Syntax.{Program}
use Rattle.sim_tree.specs.SyntaxExamples.{HasSyntax}
use Rattle.sim_tree.specs.Tree.{limit}
use Rattle.sim_tree.proofs.Decide.{Answer, Read, run, Sound, sound}
use Rattle.sim_tree.proofs.Full.{reads_full}
use Rattle.sim_tree.proofs.Laws.{one_reading}
use Rattle.sim_tree.proofs.ReadBack.{program_read}
use Rattle.sim_tree.proofs.ReadExpressions.{is_full-Full}
use Rattle.sim_tree.proofs.ReadPrograms.{read_program}
use Rattle.sim_tree.proofs.grammar.syntax_examples.Goals as goal

insides : (f h : Forest) → node g.Program f done ≡ node g.Program h done → f ≡ h
insides f h e = cc

-- what the grammar computes, read back
has : {lexemes : List Lexeme} {program : Program} (f : Forest) → run 200 limit (source lexemes) 0 (one g.Program) 0 ≡ Read (node g.Program f done) (length lexemes + 1)
    → program_read f ≡ program → HasSyntax lexemes program
has {lexemes} {program} f e is =
    let ws = source lexemes in
    let P : Answer → Type 0 = Sound limit ws 0 (one g.Program) 0 in
    let reads = subst P e (sound limit ws 200 0 (one g.Program) 0) in
    record {
      derivation = f;
      is_program = reads;
      syntax = λ tree h.
          let full = is_full-Full (node g.Program (program_derivation tree) done) (reads_full h.reads) in
          sym (read_program tree full.1) ∙ ap program_read (insides _ _ (one_reading limit ws h.reads reads).0) ∙ is;
    }

pub returns-clause-sum : goal.returns-clause-sum
unfolding run right_side is kind_at value_at
returns-clause-sum c = has _ refl refl

pub returns-clause-chain : goal.returns-clause-chain
unfolding run right_side is kind_at value_at
returns-clause-chain c = has _ refl refl

pub returns-clause-procedure : goal.returns-clause-procedure
unfolding run right_side is kind_at value_at
returns-clause-procedure c = has _ refl refl

pub returns-clause-connection : goal.returns-clause-connection
unfolding run right_side is kind_at value_at
returns-clause-connection c = has _ refl refl

pub returns-clause-prefixed : goal.returns-clause-prefixed
unfolding run right_side is kind_at value_at
returns-clause-prefixed c = has _ refl refl
