-- The rows of statements, at what the parser tests.
use Rattle.std.proofs.Common.{◌≡◌, ◌≤◌, ◌<◌, ℕ, ◌+◌, Bool, true, false, List, [], ◌∷◌, length, Some, None, Result, Ok, Err, refl, sym, subst, ap, ◌∙◌, arith, if◌then◌else◌}
use Rattle.std.proofs.lemmas.Bool.{false≢true, le-leb, lt-leb}
use Rattle.std.specs.Prelude.{◌||◌, ◌&&◌, nat_le, not}
use Rattle.sim_base.specs.declared.token.Token.{Token}
use Rattle.sim_tree.specs.declared.stmt.Stmt.{Stmt}
use Rattle.sim_base.specs.declared.token.TokenKind.{TokenKind}
use Rattle.sim_base.specs.declared.token.TokenKind.TheVariants as k
use Rattle.sim_tree.specs.Grammar as g
use Rattle.sim_tree.specs.Grammar.{Symbol, Of, Once, Maybe, Many, Kept, Mark, Here, is, one_of, just, right_side, is_counted}
use Rattle.sim_tree.specs.Reading.{done, place, kind_at, is_empty, is_too_deep, reads-done, reads-here, Fails, fails-deep, fails-inside, TooDeep}
use Rattle.sim_tree.specs.Claim.{one}
use Rattle.sim_tree.specs.ProgramDerivation.{statement_derivation}
use Rattle.sim_tree.specs.Tree.{limit, ReadsPart}
use Rattle.sim_expr_parser.specs.declared.refusal.Stop.{Stop}
use Rattle.sim_expr_parser.specs.declared.refusal.Stop.TheVariants as stop
use Rattle.sim_expr_parser.specs.Parsing.{Stops}
use Rattle.sim_expr_parser.proofs.Tables.{just_is, one_row}
use Rattle.sim_parser.specs.declared.statement.Branch.{Branch}
use Rattle.sim_parser.specs.declared.statement.Branch.TheVariants as branch
use Rattle.sim_parser.specs.Parsing.{GivesPart, GivesAll, GivesInside, identified_row, operation_row, if_row, while_row, for_row, inspect_row, activation_row, begins, branch_word, branch_part}

-- The row of a statement that its next token begins.
pub record Begun (a : TokenKind) : Type 0 where
  pub right : List Symbol
  pub row : right_side g.Statement a ≡ Some right
  pub some : is_empty right ≡ false

pub begun_row : (a : TokenKind) → one_of begins a ≡ true → Begun a
unfolding right_side is
begun_row k.Identifier h = record { right = identified_row; row = refl; some = refl }
begun_row k.Begin h = record { right = Of Once g.Compound ∷ []; row = refl; some = refl }
begun_row k.Inner h = record { right = Kept (just k.Inner) ∷ []; row = refl; some = refl }
begun_row k.This h = record { right = operation_row; row = refl; some = refl }
begun_row k.New h = record { right = operation_row; row = refl; some = refl }
begun_row k.Open h = record { right = operation_row; row = refl; some = refl }
begun_row k.If h = record { right = if_row; row = refl; some = refl }
begun_row k.While h = record { right = while_row; row = refl; some = refl }
begun_row k.For h = record { right = for_row; row = refl; some = refl }
begun_row k.Inspect h = record { right = inspect_row; row = refl; some = refl }
begun_row k.Activate h = record { right = activation_row; row = refl; some = refl }
begun_row k.Reactivate h = record { right = activation_row; row = refl; some = refl }
begun_row _ h = absurd (false≢true h)

pub empty_row : (a : TokenKind) → one_of begins a ≡ false → right_side g.Statement a ≡ Some (Here ∷ [])
unfolding right_side is
empty_row k.Identifier h = absurd (false≢true (sym h))
empty_row k.Begin h = absurd (false≢true (sym h))
empty_row k.Inner h = absurd (false≢true (sym h))
empty_row k.This h = absurd (false≢true (sym h))
empty_row k.New h = absurd (false≢true (sym h))
empty_row k.Open h = absurd (false≢true (sym h))
empty_row k.If h = absurd (false≢true (sym h))
empty_row k.While h = absurd (false≢true (sym h))
empty_row k.For h = absurd (false≢true (sym h))
empty_row k.Inspect h = absurd (false≢true (sym h))
empty_row k.Activate h = absurd (false≢true (sym h))
empty_row k.Reactivate h = absurd (false≢true (sym h))
empty_row _ h = refl

-- what begins a statement, and is none of the words
pub operation_begins : (a : TokenKind) → one_of begins a ≡ true → (a ≡ k.Begin → ⊥) → (a ≡ k.Identifier → ⊥) → (a ≡ k.Inner → ⊥) → (a ≡ k.If → ⊥) → (a ≡ k.While → ⊥)
    → (a ≡ k.For → ⊥) → (a ≡ k.Inspect → ⊥) → (a ≡ k.Activate → ⊥) → (a ≡ k.Reactivate → ⊥) → one_of (k.This ∷ k.New ∷ k.Open ∷ []) a ≡ true
unfolding is
operation_begins k.Begin h n1 n2 n3 n4 n5 n6 n7 n8 n9 = absurd (n1 refl)
operation_begins k.Identifier h n1 n2 n3 n4 n5 n6 n7 n8 n9 = absurd (n2 refl)
operation_begins k.Inner h n1 n2 n3 n4 n5 n6 n7 n8 n9 = absurd (n3 refl)
operation_begins k.If h n1 n2 n3 n4 n5 n6 n7 n8 n9 = absurd (n4 refl)
operation_begins k.While h n1 n2 n3 n4 n5 n6 n7 n8 n9 = absurd (n5 refl)
operation_begins k.For h n1 n2 n3 n4 n5 n6 n7 n8 n9 = absurd (n6 refl)
operation_begins k.Inspect h n1 n2 n3 n4 n5 n6 n7 n8 n9 = absurd (n7 refl)
operation_begins k.Activate h n1 n2 n3 n4 n5 n6 n7 n8 n9 = absurd (n8 refl)
operation_begins k.Reactivate h n1 n2 n3 n4 n5 n6 n7 n8 n9 = absurd (n9 refl)
operation_begins k.This h n1 n2 n3 n4 n5 n6 n7 n8 n9 = refl
operation_begins k.New h n1 n2 n3 n4 n5 n6 n7 n8 n9 = refl
operation_begins k.Open h n1 n2 n3 n4 n5 n6 n7 n8 n9 = refl
operation_begins _ h n1 n2 n3 n4 n5 n6 n7 n8 n9 = absurd (false≢true h)

pub operation_stands : (a : TokenKind) → one_of (k.This ∷ k.New ∷ k.Open ∷ []) a ≡ true → right_side g.Statement a ≡ Some operation_row
unfolding right_side is
operation_stands k.This h = refl
operation_stands k.New h = refl
operation_stands k.Open h = refl
operation_stands _ h = absurd (false≢true h)

pub block_at : right_side g.Statement k.Begin ≡ Some (Of Once g.Compound ∷ [])
unfolding right_side is
block_at = refl

pub identified_at : right_side g.Statement k.Identifier ≡ Some identified_row
unfolding right_side is
identified_at = refl

pub inner_at : right_side g.Statement k.Inner ≡ Some (Kept (just k.Inner) ∷ [])
unfolding right_side is
inner_at = refl

pub if_at : right_side g.Statement k.If ≡ Some if_row
unfolding right_side is
if_at = refl

pub while_at : right_side g.Statement k.While ≡ Some while_row
unfolding right_side is
while_at = refl

pub for_at : right_side g.Statement k.For ≡ Some for_row
unfolding right_side is
for_at = refl

pub inspect_at : right_side g.Statement k.Inspect ≡ Some inspect_row
unfolding right_side is
inspect_at = refl

pub activate_at : right_side g.Statement k.Activate ≡ Some activation_row
unfolding right_side is
activate_at = refl

pub reactivate_at : right_side g.Statement k.Reactivate ≡ Some activation_row
unfolding right_side is
reactivate_at = refl

same_row : {right other : List Symbol} → Some right ≡ Some other → right ≡ other
same_row e = cc

shallow_statement : (d : ℕ) (right : List Symbol) → d < 200 → is_too_deep limit g.Statement d right ≡ false
shallow_statement d right lt = ap (λ x. x && not (is_empty right)) (lt-leb 200 d lt)

not_deep : (b : Bool) → (b && false) ≡ false
not_deep true = refl
not_deep false = refl

stops_inside : (ws : List Token) (d i : ℕ) (r : Begun (kind_at ws i)) → d < 200 → (x : Stop) → Stops ws (d + 1) r.right i x → Stops ws d (one g.Statement) i x
stops_inside ws d i r lt (stop.Unexpected m) h = fails-inside r.row (shallow_statement d r.right lt) h
stops_inside ws d i r lt (stop.TooDeep m) h = fails-inside r.row (shallow_statement d r.right lt) h
stops_inside ws d i r lt stop.Memory h = tt

-- the inside of a statement, read by its row
pub inside : (ws : List Token) (d i : ℕ) (right : List Symbol) → right_side g.Statement (kind_at ws i) ≡ Some right → (r : Result (Stmt × ℕ) Stop) → GivesAll ws d right i statement_derivation r → GivesInside ws d i r
inside ws d i right e (Ok x) h = record { right = right; begins = e; all = h }
inside ws d i right e (Err x) h = λ other f. subst (λ z. Stops ws d z i x) (same_row (sym e ∙ f)) h

-- a statement from its inside
pub from_inside : (ws : List Token) (d i : ℕ) → one_of begins (kind_at ws i) ≡ true → d < 200 → (r : Result (Stmt × ℕ) Stop) → GivesInside ws (d + 1) i r → GivesPart ws d g.Statement i statement_derivation r
from_inside ws d i b lt (Ok x) h = record {
  right = h.right;
  begins = h.begins;
  shallow = shallow_statement d h.right lt;
  inside = h.all.reads;
  ahead = h.all.ahead;
  within = h.all.within;
}
from_inside ws d i b lt (Err x) h = let r = begun_row (kind_at ws i) b in stops_inside ws d i r lt x (h r.right r.row)

-- a statement too deep
pub too_deep : (ws : List Token) (d i : ℕ) → one_of begins (kind_at ws i) ≡ true → 200 ≤ d → Fails limit ws d (one g.Statement) i (TooDeep i)
too_deep ws d i b le =
    let r = begun_row (kind_at ws i) b in
    fails-deep r.row (ap (λ x. x && not (is_empty r.right)) (le-leb 200 d le) ∙ ap not r.some)

-- a statement that no token begins
pub nothing_read : (ws : List Token) (d i : ℕ) → one_of begins (kind_at ws i) ≡ false → i < length ws → ReadsPart ws d g.Statement i (place i done) i
nothing_read ws d i none within = record {
  right = Here ∷ [];
  begins = empty_row (kind_at ws i) none;
  shallow = not_deep (nat_le 200 d);
  inside = reads-here reads-done;
  ahead = omega arith;
  within = within;
}

-- Branches.
pub branch_row : (b : Branch) (a : TokenKind) (v : Bool) → is a (branch_word b) ≡ v → right_side (branch_part b) a ≡ (if v then Some (Mark (branch_word b) ∷ Of Once g.Statement ∷ []) else None)
branch_row branch.Else a v h = one_row g.ElseBranch (just k.Else) (Mark k.Else ∷ Of Once g.Statement ∷ []) a v refl (just_is _ _ _ h)
branch_row branch.Otherwise a v h = one_row g.OtherwiseBranch (just k.Otherwise) (Mark k.Otherwise ∷ Of Once g.Statement ∷ []) a v refl (just_is _ _ _ h)

pub branch_uncounted : (b : Branch) → is_counted (branch_part b) ≡ false
branch_uncounted branch.Else = refl
branch_uncounted branch.Otherwise = refl

pub branch_no_end : (b : Branch) → is k.EndOfSource (branch_word b) ≡ false
unfolding is
branch_no_end branch.Else = refl
branch_no_end branch.Otherwise = refl

-- what stands behind an identifier that begins a statement
pub after_head : (a : TokenKind) (v : Bool) → is a k.Begin ≡ v → right_side g.AfterFirstOperand a ≡ Some (if v then Of Once g.Compound ∷ [] else Of Many g.Selection ∷ Of Many g.Assigned ∷ [])
unfolding right_side
after_head a true h = ap (λ x. if x || false then Some (Of Once g.Compound ∷ []) else Some (Of Many g.Selection ∷ Of Many g.Assigned ∷ [])) h
after_head a false h = ap (λ x. if x || false then Some (Of Once g.Compound ∷ []) else Some (Of Many g.Selection ∷ Of Many g.Assigned ∷ [])) h
