-- The table of the static rules is an index of their clauses.
use Rattle.std.proofs.Common.{◌≡◌, ℕ, Some, refl}
use Rattle.std.specs.Prelude.{slice_get}
use Rattle.sim_tree.specs.Syntax.{Program}
use Rattle.sim_scope.specs.Found.{fault}
use Rattle.sim_scope.specs.declared.found.Fault.{Fault}
use Rattle.static_rules.specs.Index.{HasRow, IsIndex}
use Rattle.static_rules.specs.Rules.{Breaks, Round, Row, l1, l2, l3, n1, n2, n3, n4, rows, s1, s10, s11, s12, s13, s14, s15, s16, s17, s18, s19, s2, s20, s21, s22, s23, s3, s4, s5, s6, s7, s8, s9}

at : (place : ℕ) (w : Row) (token : ℕ) → slice_get rows place ≡ Some w → HasRow w.round (fault token w.rule)
at place w token there = record { place = place; w = w; there = there; in_round = refl; of_rule = refl }

has_row : (p : Program) (round : Round) (x : Fault) → Breaks p round x → HasRow round x
has_row p _ _ (s1 {token = k} b) = at 0 _ k refl
has_row p _ _ (s2 {token = k} b) = at 1 _ k refl
has_row p _ _ (s3 {token = k} b) = at 2 _ k refl
has_row p _ _ (s4 {token = k} b) = at 3 _ k refl
has_row p _ _ (s5 {token = k} b) = at 4 _ k refl
has_row p _ _ (s6 {token = k} b) = at 5 _ k refl
has_row p _ _ (l1 {token = k} b) = at 6 _ k refl
has_row p _ _ (l2 {token = k} b) = at 7 _ k refl
has_row p _ _ (l3 {token = k} b) = at 8 _ k refl
has_row p _ _ (s7 {token = k} b) = at 9 _ k refl
has_row p _ _ (s8 {token = k} b) = at 10 _ k refl
has_row p _ _ (s9 {token = k} b) = at 11 _ k refl
has_row p _ _ (s10 {token = k} b) = at 12 _ k refl
has_row p _ _ (s11 {token = k} b) = at 13 _ k refl
has_row p _ _ (s12 {token = k} b) = at 14 _ k refl
has_row p _ _ (s13 {token = k} b) = at 15 _ k refl
has_row p _ _ (s14 {token = k} b) = at 16 _ k refl
has_row p _ _ (s15 {token = k} b) = at 17 _ k refl
has_row p _ _ (s16 {token = k} b) = at 18 _ k refl
has_row p _ _ (s17 {token = k} b) = at 19 _ k refl
has_row p _ _ (s18 {token = k} b) = at 20 _ k refl
has_row p _ _ (s19 {token = k} b) = at 21 _ k refl
has_row p _ _ (s20 {token = k} b) = at 22 _ k refl
has_row p _ _ (s21 {token = k} b) = at 23 _ k refl
has_row p _ _ (s22 {token = k} b) = at 24 _ k refl
has_row p _ _ (s23 {token = k} b) = at 25 _ k refl
has_row p _ _ (n1 {token = k} b) = at 26 _ k refl
has_row p _ _ (n2 {token = k} b) = at 27 _ k refl
has_row p _ _ (n3 {token = k} b) = at 28 _ k refl
has_row p _ _ (n4 {token = k} b) = at 29 _ k refl

pub is_index : IsIndex
is_index = record { printed = (refl, (refl, (refl, (refl, (refl, (refl, (refl, (refl, (refl, (refl, (refl, (refl, (refl, (refl, (refl, (refl, (refl, (refl, (refl, (refl, (refl, (refl, (refl, (refl, (refl, (refl, (refl, (refl, (refl, (refl, tt)))))))))))))))))))))))))))))); in_order = refl; complete = has_row }
