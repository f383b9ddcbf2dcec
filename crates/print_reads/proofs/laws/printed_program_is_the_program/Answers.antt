use Rattle.std.proofs.Common.{ap, sym, ◌∙◌}
use Rattle.sim_print.specs.Canonical.{canonical_text}
use Rattle.sim_tree.specs.SyntaxOfProgram.{program_syntax}
use Rattle.print_reads.proofs.Backs.{has_tree, same_program}
use Rattle.print_reads.proofs.Printed.{printed_read}
use Rattle.print_reads.proofs.laws.printed_program_is_the_program.Goals as goal

pub returns : goal.returns
returns c = λ source tokens p bytes spelled is within.
    let back = printed_read source tokens p bytes spelled is within in
    let ends = c.each_source_is_read.ensures.tokens (canonical_text (program_syntax p)) back.tokens back.reads in
    let found = has_tree tokens back.tokens p is back.are (c.one_tree_or_one_fault.ensures.either back.tokens ends.0 ends.1) in
    record {
      tokens = back.tokens;
      reads = back.reads;
      tree = found.tree;
      is = found.is;
      same = λ q it. same_program tokens back.tokens p q is it back.are;
      printed = λ q it. c.no_numbers.ensures (program_syntax q) ∙ ap canonical_text (same_program tokens back.tokens p q is it back.are) ∙ sym (c.no_numbers.ensures (program_syntax p));
    }
