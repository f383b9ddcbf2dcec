-- The text of a whole program.
use Rattle.std.proofs.Common.{◌≡◌, List, [], ◌∷◌, ◌++◌, ℕ, Option, Some, None, refl, sym, ap, ◌∙◌, subst}
use Rattle.std.specs.Prelude.{option_map}
use Rattle.sim_tree.specs.declared.program.BlockPrefix.{BlockPrefix}
use Rattle.sim_tree.specs.declared.program.Program.{Program}
use Rattle.sim_tree.specs.SyntaxOfProgram.{prefix_syntax, program_syntax}
use Rattle.sim_print.specs.Canonical.{canonical_text}
use Rattle.sim_print.specs.Laid.{LaidOut, Prints, nothing}
use Rattle.sim_print.specs.Tokens as t
use Rattle.sim_print.specs.Trees.{of_actuals, of_block, of_prefix, of_program_prefix}
use Rattle.sim_print.proofs.Steps.{both, none, prints_as}
use Rattle.sim_print.proofs.Texts.{whole_text}

pub print_program_prefix : (a b : LaidOut) (x : Option BlockPrefix) (y : BlockPrefix) → x ≡ Some y → Prints a b (of_prefix y) → Prints a b (of_program_prefix x)
unfolding of_program_prefix of_prefix of_actuals
print_program_prefix a b x y is h = prints_as a b _ _ (sym (ap (λ z. t.block_prefix (option_map prefix_syntax z)) is)) h

pub print_no_program_prefix : (a : LaidOut) (x : Option BlockPrefix) → x ≡ None → Prints a a (of_program_prefix x)
unfolding of_program_prefix
print_no_program_prefix a x is = prints_as a a [] _ (sym (ap (λ z. t.block_prefix (option_map prefix_syntax z)) is)) (none a)

tokens_of : (p : Program) → of_program_prefix p.prefix ++ of_block p.block ≡ t.program (program_syntax p)
unfolding t.program program_syntax of_program_prefix of_block
tokens_of p = refl

text_is : (c : LaidOut) (p : Program) → Prints nothing c (t.program (program_syntax p)) → c.text ++ (10 ∷ []) ≡ canonical_text (program_syntax p)
unfolding Prints canonical_text
text_is c p h = ap (λ (z : LaidOut). z.text ++ (10 ∷ [])) h ∙ whole_text (t.program (program_syntax p))

pub print_program : (a b c : LaidOut) (p : Program) (text : List ℕ) → a ≡ nothing → Prints a b (of_program_prefix p.prefix) → Prints b c (of_block p.block) → text ≡ c.text ++ (10 ∷ []) → text ≡ canonical_text (program_syntax p)
print_program a b c p text start f g is =
    let whole : Prints a c (t.program (program_syntax p)) = prints_as a c _ _ (tokens_of p) (both a b c _ _ f g) in
    is ∙ text_is c p (subst (λ z. Prints z c (t.program (program_syntax p))) start whole)

pub ruleset program_rules = (print_program_prefix, print_no_program_prefix, print_program)
