-- The canonical tokens of a program have its tree, but for numbers.
use Rattle.std.proofs.Common.{◌≡◌, ℕ, suc, ◌+◌, List, [], ◌∷◌, ◌++◌, length, map, refl, sym, ap, ◌∙◌, subst, arith}
use Rattle.sim_base.specs.Lexeme.{bare}
use Rattle.sim_base.specs.declared.token.Lexeme.{Lexeme}
use Rattle.sim_base.specs.declared.token.Token.{Token}
use Rattle.sim_base.specs.declared.token.TokenKind.TheVariants as k
use Rattle.sim_tree.specs.declared.program.Program.{Program as Tree}
use Rattle.sim_tree.specs.Claim.{one}
use Rattle.sim_tree.specs.Grammar as g
use Rattle.sim_tree.specs.Grammar.{Of, Once, Symbol}
use Rattle.sim_tree.specs.ProgramDerivation.{program_derivation}
use Rattle.sim_tree.specs.Reading.{Forest, done, node}
use Rattle.sim_tree.specs.Syntax.{Program}
use Rattle.sim_tree.specs.SyntaxOfProgram.{program_syntax}
use Rattle.sim_tree.specs.Tree.{IsTree, limit}
use Rattle.sim_tree.proofs.Full.{reads_full}
use Rattle.sim_tree.proofs.Laws.{never_both, one_reading}
use Rattle.sim_print.specs.Tokens as token
use Rattle.sim_print.specs.Unnumbered.{unnumbered}
use Rattle.sim_readings.specs.Readable.{TreeOrFault, fault, tree}
use Rattle.print_reads.specs.ReadBack.{IsSame, lexeme_of}
use Rattle.sim_tree.proofs.ReadBack.{Item, Whole, items, program_read}
use Rattle.sim_tree.proofs.ReadExpressions.{is_full-Full}
use Rattle.sim_tree.proofs.ReadPrograms.{read_program}
use Rattle.print_reads.proofs.Ahead.{canon, no_true}
use Rattle.print_reads.proofs.Carried.{Lists, last, none, part, whole}
use Rattle.print_reads.proofs.Carry.{Again, Spans, carry}

-- ---- tokens with such lexemes

behind_one : (t : Token) (us : List Token) (l : List Lexeme) (i j : ℕ) → Spans us i l j → Spans (t ∷ us) (suc i) l (suc j)
behind_one t us [] i j h = ap suc h
behind_one t us (x ∷ l) i j h = let same : suc (i + 1) ≡ suc i + 1 = omega arith in (h.0, subst (λ z. Spans (t ∷ us) z l (suc j)) same (behind_one t us l (i + 1) j h.1))

spans_all : (us : List Token) → Spans us 0 (map lexeme_of us) (length us)
spans_all [] = refl
spans_all (t ∷ us) = (refl, behind_one t us (map lexeme_of us) 0 (length us) (spans_all us))

-- tokens of lexemes, wherever they stand
abbrev standing : Lexeme → Token
standing x = record { lexeme = x; place = 0; line = record { 0 = 0 } }

standing_are : (l : List Lexeme) → map lexeme_of (map standing l) ≡ l
standing_are [] = refl
standing_are (x ∷ l) = ap (λ z. x ∷ z) (standing_are l)

-- ---- a program

abbrev end : List Lexeme
end = bare k.EndOfSource ∷ []

tokens_are : (x : Program) (m : List Item) (ls : List Lexeme) → Lists (one g.Program) (Whole x ∷ []) m ls → token.program x ++ end ≡ ls
tokens_are x m ls (part (whole e h) none) = last e

programs_are : (x y : Program) (ls : List Lexeme) → Lists (one g.Program) (Whole x ∷ []) (Whole y ∷ []) ls → IsSame x y
programs_are x y ls (part (whole e h) none) = h

full_tree : (ws : List Token) (p : Tree) → IsTree ws p → program_read (program_derivation p) ≡ program_syntax p
full_tree ws p is = read_program p (is_full-Full (node g.Program (program_derivation p) done) (reads_full is.reads)).1

-- its canonical tokens, read again
again : (ws us : List Token) (p : Tree) (is : IsTree ws p) → canon is.reads ≡ map lexeme_of us
    → Again limit us 0 (one g.Program) 0 (length us) (items (node g.Program (program_derivation p) done)) (canon is.reads)
again ws us p is same = (carry us is.reads).0 refl 0 (length us) (subst (λ z. Spans us 0 z (length us)) (sym same) (spans_all us)) (λ e. no_true e)

canonical_tokens : (ws : List Token) (p : Tree) (is : IsTree ws p) → canon is.reads ≡ token.program (program_syntax p) ++ end
canonical_tokens ws p is =
    let us = map standing (canon is.reads) in
    let back = again ws us p is (sym (standing_are (canon is.reads))) in
    sym (tokens_are (program_read (program_derivation p)) (items back.forest) (canon is.reads) back.lists) ∙ ap (λ z. token.program z ++ end) (full_tree ws p is)

insides : {f h : Forest} → node g.Program f done ≡ node g.Program h done → f ≡ h
insides e = cc

pub same_program : (ws us : List Token) (p q : Tree) → IsTree ws p → IsTree us q → map lexeme_of us ≡ token.program (program_syntax p) ++ end → IsSame (program_syntax q) (program_syntax p)
same_program ws us p q is it are =
    let back = again ws us p is (canonical_tokens ws p is ∙ sym are) in
    let forest = (one_reading limit us back.reads it.reads).0 in
    let x = program_read (program_derivation p) in
    let y = program_read (program_derivation q) in
    let lists : Lists (one g.Program) (Whole x ∷ []) (Whole y ∷ []) (canon is.reads) = subst (λ z. Lists (one g.Program) (Whole x ∷ []) (items z) (canon is.reads)) forest back.lists in
    sym (ap unnumbered (full_tree us q it)) ∙ sym (programs_are x y (canon is.reads) lists) ∙ ap unnumbered (full_tree ws p is)

pub record HasTree (us : List Token) : Type 0 where
  pub tree : Tree
  pub is : IsTree us tree

pub has_tree : (ws us : List Token) (p : Tree) → IsTree ws p → map lexeme_of us ≡ token.program (program_syntax p) ++ end → TreeOrFault us → HasTree us
has_tree ws us p is are (tree q it) = record { tree = q; is = it }
has_tree ws us p is are (fault e fails) = absurd (never_both limit us (again ws us p is (canonical_tokens ws p is ∙ sym are)).reads fails)
