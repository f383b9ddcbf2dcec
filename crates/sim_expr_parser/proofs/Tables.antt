-- The grammar's table, at what the parser tests.
use Rattle.std.proofs.Common.{◌≡◌, ◌<◌, ◌≤◌, ℕ, ◌+◌, suc, Bool, true, false, List, [], ◌∷◌, length, Option, Some, None, refl, sym, ap, ◌∙◌, ◌⊎◌, inl, inr, arith, if◌then◌else◌}
use Rattle.std.specs.Prelude.{◌||◌, ◌&&◌, nat_le}
use Rattle.std.proofs.lemmas.Bool.{le-leb}
use Rattle.std.proofs.lemmas.Bool.Decides.{leb_tells}
use native.Mathlib.Decide.{dec_lt}
use Rattle.sim_base.specs.declared.token.Token.{Token}
use Rattle.sim_base.specs.declared.token.TokenKind.{TokenKind}
use Rattle.sim_base.specs.declared.token.TokenKind.TheVariants as k
use Rattle.sim_tree.specs.Grammar as g
use Rattle.sim_tree.specs.Grammar.{Part, Row, At, Else, Once, Maybe, Many, Of, Kept, Mark, Symbol, is, one_of, just, rows, chosen, right_side, begins_simple, literals}
use Rattle.sim_tree.specs.Reading.{kind_at, is_too_deep, Fails, fails-part, fails-deep, Unexpected, TooDeep}
use Rattle.sim_tree.specs.Claim.{one}
use Rattle.std.proofs.lemmas.Bool.{false≢true}
use Rattle.sim_tree.specs.Derivation.{level_part}
use Rattle.sim_tree.specs.Tree.{limit}
use Rattle.sim_tree.proofs.Completion.{is_same}
use Rattle.sim_tree.proofs.Steps.{start}
use Rattle.sim_expr_parser.specs.declared.level.Level.{Level}
use Rattle.sim_expr_parser.specs.declared.level.Level.TheVariants as level
use Rattle.sim_expr_parser.specs.Level.{under, operator, many}
use Rattle.sim_expr_parser.specs.Parsing.{TookBare}
use Rattle.sim_expr_parser.proofs.Steps.{Within, opened}
use Rattle.sim_expr_parser.proofs.Tokens.{took_one}

-- a part with the same row for every token
pub only : (n : Part) (right : List Symbol) (a : TokenKind) → rows n ≡ Else right ∷ [] → right_side n a ≡ Some right
unfolding right_side
only n right a h = ap (λ r. chosen r a) h

-- a part with one row
pub one_row : (n : Part) (next : List TokenKind) (right : List Symbol) (a : TokenKind) (v : Bool) → rows n ≡ At next right ∷ [] → one_of next a ≡ v
    → right_side n a ≡ (if v then Some right else None)
unfolding right_side
one_row n next right a v h e = ap (λ r. chosen r a) h ∙ ap (λ b. if b then Some right else None) e

-- the row of a kind that was tested
pub by_test : (n : Part) (a b : TokenKind) (right : List Symbol) → is a b ≡ true → right_side n b ≡ Some right → right_side n a ≡ Some right
by_test n a b right h e = ap (right_side n) (is_same a b h) ∙ e

pub just_is : (a b : TokenKind) (v : Bool) → is a b ≡ v → one_of (just b) a ≡ v
just_is a b true h = ap (λ x. x || false) h
just_is a b false h = ap (λ x. x || false) h

-- The levels with one operator.
abbrev pub level_symbols : Level → List Symbol
level_symbols lv = Of Once (level_part (under lv)) ∷ Of Many (many lv) ∷ []

abbrev pub item_symbols : Level → List Symbol
item_symbols lv = Kept (just (operator lv)) ∷ Of Once (level_part (under lv)) ∷ []

pub open-level : (lv : Level) (ws : List Token) (d i : ℕ) → i < length ws → Within ws d (level_part (suc (under lv))) i (λ f. f) d (level_symbols lv) i
open-level level.OrElse ws d i h = opened ws d i g.SimpleExpression (level_symbols level.OrElse) refl (only g.SimpleExpression (level_symbols level.OrElse) (kind_at ws i) refl) h
open-level level.AndThen ws d i h = opened ws d i g.AndThen (level_symbols level.AndThen) refl (only g.AndThen (level_symbols level.AndThen) (kind_at ws i) refl) h
open-level level.Eqv ws d i h = opened ws d i g.Equivalence (level_symbols level.Eqv) refl (only g.Equivalence (level_symbols level.Eqv) (kind_at ws i) refl) h
open-level level.Imp ws d i h = opened ws d i g.Implication (level_symbols level.Imp) refl (only g.Implication (level_symbols level.Imp) (kind_at ws i) refl) h
open-level level.Or ws d i h = opened ws d i g.Disjunction (level_symbols level.Or) refl (only g.Disjunction (level_symbols level.Or) (kind_at ws i) refl) h
open-level level.And ws d i h = opened ws d i g.Conjunction (level_symbols level.And) refl (only g.Conjunction (level_symbols level.And) (kind_at ws i) refl) h
open-level level.Concatenation ws d i h = opened ws d i g.Concatenation (level_symbols level.Concatenation) refl (only g.Concatenation (level_symbols level.Concatenation) (kind_at ws i) refl) h
open-level level.Power ws d i h = opened ws d i g.Factor (level_symbols level.Power) refl (only g.Factor (level_symbols level.Power) (kind_at ws i) refl) h

pub open-item : (lv : Level) (ws : List Token) (d i : ℕ) → is (kind_at ws i) (operator lv) ≡ true → i < length ws → Within ws d (many lv) i (λ f. f) d (item_symbols lv) i
open-item level.OrElse ws d i e h = opened ws d i g.NextOrElse (item_symbols level.OrElse) refl (one_row g.NextOrElse (just k.OrElse) (item_symbols level.OrElse) (kind_at ws i) true refl (just_is _ _ _ e)) h
open-item level.AndThen ws d i e h = opened ws d i g.NextAndThen (item_symbols level.AndThen) refl (one_row g.NextAndThen (just k.AndThen) (item_symbols level.AndThen) (kind_at ws i) true refl (just_is _ _ _ e)) h
open-item level.Eqv ws d i e h = opened ws d i g.NextEquivalence (item_symbols level.Eqv) refl (one_row g.NextEquivalence (just k.Eqv) (item_symbols level.Eqv) (kind_at ws i) true refl (just_is _ _ _ e)) h
open-item level.Imp ws d i e h = opened ws d i g.NextImplication (item_symbols level.Imp) refl (one_row g.NextImplication (just k.Imp) (item_symbols level.Imp) (kind_at ws i) true refl (just_is _ _ _ e)) h
open-item level.Or ws d i e h = opened ws d i g.NextOr (item_symbols level.Or) refl (one_row g.NextOr (just k.Or) (item_symbols level.Or) (kind_at ws i) true refl (just_is _ _ _ e)) h
open-item level.And ws d i e h = opened ws d i g.NextAnd (item_symbols level.And) refl (one_row g.NextAnd (just k.And) (item_symbols level.And) (kind_at ws i) true refl (just_is _ _ _ e)) h
open-item level.Concatenation ws d i e h = opened ws d i g.NextConcatenated (item_symbols level.Concatenation) refl (one_row g.NextConcatenated (just k.Ampersand) (item_symbols level.Concatenation) (kind_at ws i) true refl (just_is _ _ _ e)) h
open-item level.Power ws d i e h = opened ws d i g.NextPower (item_symbols level.Power) refl (one_row g.NextPower (just k.Power) (item_symbols level.Power) (kind_at ws i) true refl (just_is _ _ _ e)) h

pub no-item : (lv : Level) (a : TokenKind) → is a (operator lv) ≡ false → right_side (many lv) a ≡ None
no-item level.OrElse a e = one_row g.NextOrElse (just k.OrElse) (item_symbols level.OrElse) a false refl (just_is _ _ _ e)
no-item level.AndThen a e = one_row g.NextAndThen (just k.AndThen) (item_symbols level.AndThen) a false refl (just_is _ _ _ e)
no-item level.Eqv a e = one_row g.NextEquivalence (just k.Eqv) (item_symbols level.Eqv) a false refl (just_is _ _ _ e)
no-item level.Imp a e = one_row g.NextImplication (just k.Imp) (item_symbols level.Imp) a false refl (just_is _ _ _ e)
no-item level.Or a e = one_row g.NextOr (just k.Or) (item_symbols level.Or) a false refl (just_is _ _ _ e)
no-item level.And a e = one_row g.NextAnd (just k.And) (item_symbols level.And) a false refl (just_is _ _ _ e)
no-item level.Concatenation a e = one_row g.NextConcatenated (just k.Ampersand) (item_symbols level.Concatenation) a false refl (just_is _ _ _ e)
no-item level.Power a e = one_row g.NextPower (just k.Power) (item_symbols level.Power) a false refl (just_is _ _ _ e)

pub took-item : (lv : Level) (ws : List Token) (i j : ℕ) → (is (kind_at ws i) (operator lv) ≡ true) × (j ≡ i + 1) × (j < length ws) → TookBare ws i (just (operator lv)) (operator lv) j
took-item level.OrElse ws i j w = took_one ws i j (operator level.OrElse) refl w
took-item level.AndThen ws i j w = took_one ws i j (operator level.AndThen) refl w
took-item level.Eqv ws i j w = took_one ws i j (operator level.Eqv) refl w
took-item level.Imp ws i j w = took_one ws i j (operator level.Imp) refl w
took-item level.Or ws i j w = took_one ws i j (operator level.Or) refl w
took-item level.And ws i j w = took_one ws i j (operator level.And) refl w
took-item level.Concatenation ws i j w = took_one ws i j (operator level.Concatenation) refl w
took-item level.Power ws i j w = took_one ws i j (operator level.Power) refl w

pub no_end : (lv : Level) → is k.EndOfSource (operator lv) ≡ false
unfolding is
no_end level.OrElse = refl
no_end level.AndThen = refl
no_end level.Eqv = refl
no_end level.Imp = refl
no_end level.Or = refl
no_end level.And = refl
no_end level.Concatenation = refl
no_end level.Power = refl

-- Expressions.
abbrev pub if_symbols : List Symbol
if_symbols = Kept (just k.If) ∷ Of Once g.Expression ∷ Mark k.Then ∷ Of Once g.SimpleExpression ∷ Mark k.Else ∷ Of Once g.Expression ∷ []

abbrev pub simple_symbols : List Symbol
simple_symbols = Of Once g.SimpleExpression ∷ []

pub expression : (a : TokenKind) (v w : Bool) → is a k.If ≡ v → one_of begins_simple a ≡ w
    → right_side g.Expression a ≡ (if v || false then Some if_symbols else (if w then Some simple_symbols else None))
unfolding right_side
expression a v w h e =
    ap (λ x. if x || false then Some if_symbols else (if one_of begins_simple a then Some simple_symbols else None)) h
    ∙ ap (λ x. if v || false then Some if_symbols else (if x then Some simple_symbols else None)) e

leb_no : (a b : ℕ) → b < a → nat_le a b ≡ false
leb_no a b h = go (leb_tells a b)
  where
    go : ((nat_le a b ≡ true) × (a ≤ b)) ⊎ ((nat_le a b ≡ false) × (b < a)) → nat_le a b ≡ false
    go (inl w) = absurd (omega (arith, w.1, h))
    go (inr w) = w.0

pub too_deep_if : (d : ℕ) → 200 ≤ d → is_too_deep limit g.Expression d if_symbols ≡ true
too_deep_if d h = ap (λ x. x && true) (le-leb 200 d h)

pub too_deep_simple : (d : ℕ) → 200 ≤ d → is_too_deep limit g.Expression d simple_symbols ≡ true
too_deep_simple d h = ap (λ x. x && true) (le-leb 200 d h)

pub shallow_if : (d : ℕ) → d < 200 → is_too_deep limit g.Expression d if_symbols ≡ false
shallow_if d h = ap (λ x. x && true) (leb_no 200 d h)

pub shallow_simple : (d : ℕ) → d < 200 → is_too_deep limit g.Expression d simple_symbols ≡ false
shallow_simple d h = ap (λ x. x && true) (leb_no 200 d h)

-- Primaries.
abbrev pub name_symbols : List Symbol
name_symbols = Kept (just k.Identifier) ∷ Of Maybe g.Arguments ∷ []

abbrev pub this_symbols : List Symbol
this_symbols = Kept (just k.This) ∷ Kept (just k.Identifier) ∷ []

abbrev pub new_symbols : List Symbol
new_symbols = Kept (just k.New) ∷ Kept (just k.Identifier) ∷ Of Maybe g.Arguments ∷ []

abbrev pub open_symbols : List Symbol
open_symbols = Kept (just k.Open) ∷ Of Once g.Expression ∷ Mark k.Close ∷ []

pub primary_name : right_side g.Primary k.Identifier ≡ Some name_symbols
unfolding right_side is
primary_name = refl

pub primary_this : right_side g.Primary k.This ≡ Some this_symbols
unfolding right_side is
primary_this = refl

pub primary_new : right_side g.Primary k.New ≡ Some new_symbols
unfolding right_side is
primary_new = refl

pub primary_open : right_side g.Primary k.Open ≡ Some open_symbols
unfolding right_side is
primary_open = refl

abbrev choice : Bool → Bool → Bool → Bool → Bool → Option (List Symbol)
choice l i h n o =
    if l then Some (Kept literals ∷ []) else (if i || false then Some name_symbols else (if h || false then Some this_symbols else (if n || false then Some new_symbols else (if o || false then Some open_symbols else None))))

primary : (a : TokenKind) (l i h n o : Bool) → one_of literals a ≡ l → is a k.Identifier ≡ i → is a k.This ≡ h → is a k.New ≡ n → is a k.Open ≡ o
    → right_side g.Primary a ≡ choice l i h n o
unfolding right_side
primary a l i h n o el ei eh en eo =
    ap (λ x. choice x (is a k.Identifier) (is a k.This) (is a k.New) (is a k.Open)) el
    ∙ ap (λ x. choice l x (is a k.This) (is a k.New) (is a k.Open)) ei
    ∙ ap (λ x. choice l i x (is a k.New) (is a k.Open)) eh
    ∙ ap (λ x. choice l i h x (is a k.Open)) en
    ∙ ap (λ x. choice l i h n x) eo

pub primary_constant : (a : TokenKind) → one_of literals a ≡ true → right_side g.Primary a ≡ Some (Kept literals ∷ [])
primary_constant a e = primary a true (is a k.Identifier) (is a k.This) (is a k.New) (is a k.Open) e refl refl refl refl

pub no_primary : (a : TokenKind) → one_of literals a ≡ false → is a k.Identifier ≡ false → is a k.This ≡ false → is a k.New ≡ false → is a k.Open ≡ false
    → right_side g.Primary a ≡ None
no_primary a l i h n o = primary a false false false false false l i h n o

-- Actuals.
abbrev pub args_symbols : List Symbol
args_symbols = Mark k.Open ∷ Of Once g.Expression ∷ Of Many g.NextArgument ∷ Mark k.Close ∷ []

abbrev pub more_symbols : List Symbol
more_symbols = Mark k.Comma ∷ Of Once g.Expression ∷ []

-- What is taken of an object.
abbrev pub dot_symbols : List Symbol
dot_symbols = Kept (just k.Dot) ∷ Kept (just k.Identifier) ∷ Of Maybe g.Arguments ∷ []

abbrev pub qua_symbols : List Symbol
qua_symbols = Kept (just k.Qua) ∷ Kept (just k.Identifier) ∷ []

pub selected_dot : right_side g.Selection k.Dot ≡ Some dot_symbols
unfolding right_side is
selected_dot = refl

pub selected_qua : right_side g.Selection k.Qua ≡ Some qua_symbols
unfolding right_side is
selected_qua = refl

pub no_selected : (a : TokenKind) → is a k.Dot ≡ false → is a k.Qua ≡ false → right_side g.Selection a ≡ None
unfolding right_side
no_selected a h e =
    ap (λ x. if x || false then Some dot_symbols else (if is a k.Qua || false then Some qua_symbols else None)) h
    ∙ ap (λ x. if x || false then Some qua_symbols else None) e

-- Relations.
abbrev pub related_symbols : List Symbol
related_symbols = Kept g.relations ∷ Of Once g.Concatenation ∷ []

abbrev pub tests : List TokenKind
tests = k.Is ∷ k.In ∷ []

abbrev pub member_symbols : List Symbol
member_symbols = Kept tests ∷ Kept (just k.Identifier) ∷ []

pub related : (a : TokenKind) (v w : Bool) → one_of g.relations a ≡ v → one_of tests a ≡ w
    → right_side g.RelationTail a ≡ (if v then Some related_symbols else (if w then Some member_symbols else None))
unfolding right_side
related a v w h e =
    ap (λ x. if x then Some related_symbols else (if one_of tests a then Some member_symbols else None)) h
    ∙ ap (λ x. if v then Some related_symbols else (if x then Some member_symbols else None)) e

is_at : right_side g.RelationTail k.Is ≡ Some member_symbols
unfolding right_side is
is_at = refl

in_at : right_side g.RelationTail k.In ≡ Some member_symbols
unfolding right_side is
in_at = refl

-- the two kinds of operators of a relation differ
pub test_alone : (a : TokenKind) → one_of tests a ≡ true → right_side g.RelationTail a ≡ Some member_symbols
test_alone a h = go (is a k.Is) refl h
  where
    end : (v : Bool) → (v || false) ≡ true → v ≡ true
    end true x = refl
    end false x = x

    go : (v : Bool) → is a k.Is ≡ v → (v || (is a k.In || false)) ≡ true → right_side g.RelationTail a ≡ Some member_symbols
    go true e x = by_test g.RelationTail a k.Is member_symbols e is_at
    go false e x = by_test g.RelationTail a k.In member_symbols (end (is a k.In) x) in_at

-- Inside an expression one level deeper.
pub open-if : (ws : List Token) (d i : ℕ) → i < length ws → is (kind_at ws i) k.If ≡ true → d < 200 → Within ws d g.Expression i (λ f. f) (d + 1) if_symbols i
open-if ws d i within h lt = record {
  right = if_symbols;
  begins = expression (kind_at ws i) true (one_of begins_simple (kind_at ws i)) h refl;
  shallow = shallow_if d lt;
  depth = refl;
  leads = start (d + 1) if_symbols i;
  ahead = omega arith;
  within = within;
}

pub open-simple : (ws : List Token) (d i : ℕ) → i < length ws → is (kind_at ws i) k.If ≡ false → one_of begins_simple (kind_at ws i) ≡ true → d < 200
    → Within ws d g.Expression i (λ f. f) (d + 1) simple_symbols i
open-simple ws d i within h b lt = record {
  right = simple_symbols;
  begins = expression (kind_at ws i) false true h b;
  shallow = shallow_simple d lt;
  depth = refl;
  leads = start (d + 1) simple_symbols i;
  ahead = omega arith;
  within = within;
}

-- What begins an expression, and what does not.
pub no_expression : (ws : List Token) (d i : ℕ) → is (kind_at ws i) k.If ≡ false → one_of begins_simple (kind_at ws i) ≡ false → Fails limit ws d (one g.Expression) i (Unexpected i)
no_expression ws d i h b = fails-part (expression (kind_at ws i) false false h b) refl

pub deep-expression : (ws : List Token) (d i : ℕ) → (is (kind_at ws i) k.If ≡ true) ⊎ (one_of begins_simple (kind_at ws i) ≡ true) → 200 ≤ d → Fails limit ws d (one g.Expression) i (TooDeep i)
deep-expression ws d i (inl h) le = fails-deep (expression (kind_at ws i) true (one_of begins_simple (kind_at ws i)) h refl) (too_deep_if d le)
deep-expression ws d i (inr b) le = go (is (kind_at ws i) k.If) refl
  where
    go : (v : Bool) → is (kind_at ws i) k.If ≡ v → Fails limit ws d (one g.Expression) i (TooDeep i)
    go true h = fails-deep (expression (kind_at ws i) true (one_of begins_simple (kind_at ws i)) h refl) (too_deep_if d le)
    go false h = fails-deep (expression (kind_at ws i) false true h b) (too_deep_simple d le)

pub simple-begins : (ws : List Token) (i : ℕ) → (is (kind_at ws i) k.If ≡ true) ⊎ (one_of begins_simple (kind_at ws i) ≡ true) → is (kind_at ws i) k.If ≡ false → one_of begins_simple (kind_at ws i) ≡ true
simple-begins ws i (inl h) other = absurd (false≢true (sym other ∙ h))
simple-begins ws i (inr b) other = b

pub under-limit : (d : ℕ) → d ≤ 200 → (d ≡ 200 → ⊥) → d < 200
under-limit d le other = go (dec_lt d 200)
  where
    go : Dec (d < 200) → d < 200
    go (yes h) = h
    go (no h) = absurd (other (omega (arith, h, le)))
