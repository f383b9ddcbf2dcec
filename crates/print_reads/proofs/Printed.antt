-- The canonical text of each program of a source is read as its tokens.
use Rattle.std.proofs.Common.{◌≤◌, ℕ, List, length}
use Rattle.std.specs.List.{AllByRecursion}
use Rattle.sim_base.specs.declared.token.Token.{Token}
use Rattle.sim_lexer.specs.Spelling.{Reads, Spelled}
use Rattle.sim_print.specs.Canonical.{canonical_text}
use Rattle.sim_print.specs.Tokens.{program}
use Rattle.sim_tree.specs.declared.program.Program.{Program as Tree}
use Rattle.sim_tree.specs.SyntaxOfProgram.{program_syntax}
use Rattle.sim_tree.specs.Tree.{IsTree}
use Rattle.print_reads.specs.ReadBack.{ReadsAs}
use Rattle.print_reads.specs.Writable.{CanBeWritten, IsByte, IsWritable}
use Rattle.print_reads.proofs.Programs.{canonical_read}
use Rattle.print_reads.proofs.Sources.{spelled_are_writable}
use Rattle.print_reads.proofs.Trees.{program_writable}

pub tokens_writable : (tokens : List Token) (p : Tree) → AllByRecursion CanBeWritten tokens → IsTree tokens p → AllByRecursion IsWritable (program (program_syntax p))
tokens_writable tokens p all tree = (program_writable tokens p all tree).all

pub printed_read : (source : List ℕ) (tokens : List Token) (p : Tree) → AllByRecursion IsByte source → Reads source (Spelled tokens) → IsTree tokens p
    → length (canonical_text (program_syntax p)) ≤ 1048576 → ReadsAs (canonical_text (program_syntax p)) (program (program_syntax p))
printed_read source tokens p bytes spelled tree within =
    canonical_read (program_syntax p) (tokens_writable tokens p (spelled_are_writable source tokens bytes spelled) tree) within
