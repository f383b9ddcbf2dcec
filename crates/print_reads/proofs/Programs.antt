-- The canonical text of a program is read as its tokens.
use Rattle.std.proofs.Common.{◌≡◌, ◌≤◌, ℕ, List, [], ◌∷◌, ◌++◌, length, map, refl, sym, ap, ◌∙◌, subst}
use Rattle.sim_base.specs.Lexeme.{bare}
use Rattle.sim_base.specs.declared.token.Lexeme.{Lexeme}
use Rattle.sim_base.specs.declared.token.Token.{Token}
use Rattle.sim_base.specs.declared.token.TokenKind.TheVariants as k
use Rattle.sim_lexer.specs.Spelling.{Broken, Lexed, Reads, Spelled}
use Rattle.std.specs.List.{AllByRecursion}
use Rattle.sim_print.specs.Canonical.{canonical_text}
use Rattle.sim_print.specs.Tokens.{program}
use Rattle.sim_tree.specs.Syntax.{Program}
use Rattle.print_reads.specs.ReadBack.{ReadsAs, lexeme_of}
use Rattle.print_reads.specs.Writable.{IsWritable}
use Rattle.print_reads.proofs.Neighbours.{tokens_stand}
use Rattle.print_reads.proofs.Readings.{read_again}

pub canonical_read : (p : Program) → AllByRecursion IsWritable (program p) → length (canonical_text p) ≤ 1048576 → ReadsAs (canonical_text p) (program p)
unfolding canonical_text
canonical_read p all within = read_again (program p) all (tokens_stand p) within

-- ---- one text, one list of tokens

abbrev pub tokens_of : Lexed → List Token
tokens_of (Spelled tokens) = tokens
tokens_of (Broken rule place) = []

without_last : List Lexeme → List Lexeme
without_last [] = []
without_last (x ∷ []) = []
without_last (x ∷ y ∷ xs) = x ∷ without_last (y ∷ xs)

without_end : (xs : List Lexeme) (e : Lexeme) → without_last (xs ++ e ∷ []) ≡ xs
unfolding without_last
without_end [] e = refl
without_end (x ∷ []) e = refl
without_end (x ∷ y ∷ xs) e = ap (λ (l : List Lexeme). x ∷ l) (without_end (y ∷ xs) e)

abbrev pub OneReading : Type 0
OneReading = (source : List ℕ) (first second : Lexed) → Reads source first → Reads source second → first ≡ second

same_lexemes : OneReading → (source : List ℕ) (xs ys : List Lexeme) → ReadsAs source xs → ReadsAs source ys → xs ≡ ys
same_lexemes one source xs ys a b =
    let same : a.tokens ≡ b.tokens = ap tokens_of (one source (Spelled a.tokens) (Spelled b.tokens) a.reads b.reads) in
    sym (without_end xs (bare k.EndOfSource)) ∙ ap without_last (sym a.are ∙ ap (λ (l : List Token). map lexeme_of l) same ∙ b.are) ∙ without_end ys (bare k.EndOfSource)

pub same_tokens : OneReading → (p q : Program) → AllByRecursion IsWritable (program p) → AllByRecursion IsWritable (program q)
    → length (canonical_text p) ≤ 1048576 → canonical_text p ≡ canonical_text q → program p ≡ program q
same_tokens one p q here there within same =
    let short : length (canonical_text q) ≤ 1048576 = subst (λ (l : List ℕ). length l ≤ 1048576) same within in
    same_lexemes one (canonical_text p) (program p) (program q) (canonical_read p here within)
    (subst (λ (l : List ℕ). ReadsAs l (program q)) (sym same) (canonical_read q there short))
