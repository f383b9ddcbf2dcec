-- Signs and `not`.
use Rattle.std.proofs.Common.{◌≡◌, ◌<◌, ◌+◌, ℕ, List, ◌++◌, drop, length, Option, Some, None, sym, ap}
use Rattle.std.proofs.lemmas.List.{drop_more}
use Rattle.sim_base.specs.declared.numbering.TokenNo.{TokenNo}
use Rattle.sim_base.specs.declared.token.Lexeme.{Lexeme}
use Rattle.sim_base.specs.declared.token.TokenKind.TheVariants as k
use Rattle.sim_tree.specs.declared.expr.LeadingSign.{LeadingSign}
use Rattle.sim_tree.specs.Derivation.{sign_kind}
use Rattle.sim_print.specs.Laid.{LaidOut, Owes, Prints}
use Rattle.sim_print.specs.Spelling.{each}
use Rattle.sim_print.specs.Tokens.{one, sign_tokens}
use Rattle.sim_print.specs.Trees.{of_not, of_sign}
use Rattle.sim_print.specs.Unnumbered.{zero_token}
use Rattle.sim_print.proofs.Steps.{both, prints_as, none, owes_all, owes_end}

pub print_sign : (a b : LaidOut) (x : Option LeadingSign) (y : LeadingSign) → x ≡ Some y → Prints a b (one (sign_kind y.sign)) → Prints a b (of_sign x)
unfolding of_sign
print_sign a b x y is h = prints_as a b (one (sign_kind y.sign)) (of_sign x) (sym (ap sign_tokens is)) h

pub print_no_sign : (a : LaidOut) (x : Option LeadingSign) → x ≡ None → Prints a a (of_sign x)
unfolding of_sign
print_no_sign a x is = prints_as a a _ (of_sign x) (sym (ap sign_tokens is)) (none a)

-- whichever token stands there
pub owes_not : (a b c : LaidOut) (t : List Lexeme) (xs : List TokenNo) (i : ℕ) → Owes of_not a t xs b i → i < length xs → Prints b c (one k.Not) → Owes of_not a t xs c (i + 1)
unfolding Owes
owes_not a b c t xs i owes le h end rest =
    let further = each of_not (drop (i + 1) xs) in
    let from : one k.Not ++ further ≡ each of_not (drop i xs) = ap (each of_not) (sym (drop_more xs i zero_token le)) in
    owes end (prints_as b end _ _ from (both b c end (one k.Not) further h rest))

pub ruleset sign_rules = (print_sign, print_no_sign)

pub ruleset not_rules = (owes_all, owes_not, owes_end)
