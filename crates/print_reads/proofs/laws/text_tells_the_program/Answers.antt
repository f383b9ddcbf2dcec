use Rattle.std.proofs.Common.{◌≡◌, ◌≤◌, ℕ, List, length, sym, ap, ◌∙◌, subst}
use Rattle.sim_base.specs.declared.token.Token.{Token}
use Rattle.sim_lexer.specs.Spelling.{Reads, Spelled}
use Rattle.sim_print.specs.Canonical.{canonical_text}
use Rattle.sim_tree.specs.SyntaxOfProgram.{program_syntax}
use Rattle.sim_tree.specs.Tree.{IsTree}
use Rattle.print_reads.proofs.Programs.{tokens_of}
use Rattle.print_reads.proofs.laws.text_tells_the_program.Goals as goal

pub returns : goal.returns
returns c = λ first second tokens others p q bytes bytes' spelled spelled' is is' within same.
    let short : length (canonical_text (program_syntax q)) ≤ 1048576 = subst (λ (l : List ℕ). length l ≤ 1048576) same within in
    let one = c.printed_program_is_the_program.ensures first tokens p bytes spelled is within in
    let two = c.printed_program_is_the_program.ensures second others q bytes' spelled' is' short in
    let both = c.one_reading.ensures.one (canonical_text (program_syntax q)) (Spelled one.tokens) (Spelled two.tokens) (subst (λ (l : List ℕ). Reads l (Spelled one.tokens)) same one.reads) two.reads in
    let list : one.tokens ≡ two.tokens = ap tokens_of both in
    sym (one.same one.tree one.is) ∙ two.same one.tree (subst (λ (l : List Token). IsTree l one.tree) list one.is)
