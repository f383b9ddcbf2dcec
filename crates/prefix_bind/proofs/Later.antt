-- Faults that come later change nothing.
use Rattle.std.proofs.Common.{◌≡◌, ℕ, Bool, true, false, Option, Some, None, refl, sym, ap, ◌∙◌, arith}
use Rattle.std.proofs.lemmas.Bool.Decides.{nat_tests}
use Rattle.std.specs.Prelude.{if◌then◌else◌, nat_lt, nat_eq, ◌&&◌, ◌||◌}
use Rattle.sim_base.specs.declared.rule.Rule.{Rule}
use Rattle.sim_base.specs.declared.rule.Rule.TheVariants as r
use Rattle.sim_tree.specs.declared.expr.Identifier.{Identifier}
use Rattle.sim_scope.specs.declared.found.Fault.{Fault}
use Rattle.sim_scope.specs.Found.{fault, precedes, rank}
use Rattle.sim_scope.specs.Runs.{Runs, run}
use Rattle.sim_scope.specs.Tables.{BlockOf, Tables}
use Rattle.sim_scope.proofs.Walks.{runs_both}
use Rattle.prefix_bind.specs.Sums.{comes_later, is_past, is_past_prefix}
use Rattle.prefix_bind.specs.Prefixes.{breaks_cells, breaks_prefix, is_in_own_chain, noted, prefix_token, row_faults, where_true}

not_before : (token other : ℕ) (a b : ℕ) → nat_lt other token ≡ true → (nat_lt token other || nat_eq token other && nat_lt a b) ≡ false
not_before token other a b h = grind (arith, nat_tests)

stays : (x : Fault) (token : ℕ) (rule : Rule) → nat_lt x.token.0 token ≡ true → noted (Some x) (fault token rule) ≡ Some x
unfolding noted precedes
stays x token rule h = ap (λ t. if t then Some (fault token rule) else Some x) (not_before token x.token.0 (rank rule) (rank x.rule) h)

one_later : (least : Option Fault) (b : Bool) (token : ℕ) (rule : Rule) → is_past least token ≡ true → Runs noted least least (where_true b token rule)
unfolding Runs run
one_later None b token rule h = absurd (cc)
one_later (Some x) true token rule h = sym (stays x token rule h)
one_later (Some x) false token rule h = refl

prefix_later : (s : Tables) (row : BlockOf) (least : Option Fault) (p : Option Identifier) → is_past_prefix least p ≡ true → Runs noted least least (where_true (breaks_prefix s row p) (prefix_token p) r.PrefixIsNoClass)
unfolding Runs run
prefix_later s row least None h = refl
prefix_later s row least (Some x) h = one_later least (breaks_prefix s row (Some x)) x.token.0 r.PrefixIsNoClass h

first_true : (a b : Bool) → (a && b) ≡ true → a ≡ true
first_true true b h = refl
first_true false b h = h

second_true : (a b : Bool) → (a && b) ≡ true → b ≡ true
second_true true b h = h
second_true false b h = absurd (cc)

pub later : (s : Tables) (block : ℕ) (row : BlockOf) (least : Option Fault) (c : Bool) → c ≡ comes_later least row → c ≡ true → Runs noted least least (row_faults s block row)
unfolding row_faults
later s block row least c is true_so =
    let h : comes_later least row ≡ true = sym is ∙ true_so in
    let past : is_past least row.first ≡ true = first_true (is_past least row.first) _ h in
    runs_both noted least least least _ _ (prefix_later s row least row.prefix (second_true (is_past least row.first) _ h))
    (runs_both noted least least least _ _ (one_later least (is_in_own_chain s block) row.first r.ClassInItsOwnChain past) (one_later least (breaks_cells s block) row.first r.TooManyCells past))
