-- What a node of a list stands for, where the list is not empty.
use Rattle.std.proofs.Common.{◌≡◌, ◌<◌, ℕ, ◌+◌, true, false, List, [], ◌∷◌, ◌++◌, length, map, Option, Some, None, refl, sym, ap, ◌∙◌, subst, arith}
use Rattle.std.proofs.lemmas.Bool.{false≢true}
use Rattle.std.specs.Option.{is_some}
use Rattle.sim_base.specs.declared.token.Token.{Token}
use Rattle.sim_base.specs.declared.token.TokenKind.{TokenKind}
use Rattle.sim_base.specs.declared.token.TokenKind.TheVariants as k
use Rattle.sim_base.specs.declared.numbering.TokenNo.{TokenNo}
use Rattle.sim_tree.specs.declared.expr.LeadingSign.{LeadingSign}
use Rattle.sim_tree.specs.declared.expr.Expr.{Expr}
use Rattle.sim_tree.proofs.DerivationLemmas.{row-append, map-append}
use Rattle.sim_tree.specs.Grammar as g
use Rattle.sim_tree.specs.Grammar.{Part, Kept, Of, Maybe, signs}
use Rattle.sim_tree.specs.Reading.{Forest, done, node, kind_at, bare_leaf}
use Rattle.sim_tree.specs.Derivation.{Derivation, derivation_of, Item, item, level_part, raise, row, not_mark, sign_kind, operated, negated, summed, multiplied, selected, arguments, argument, whole}
use Rattle.sim_expr_parser.specs.Parsing.{GivesSign, ReadsTo, listed}
use Rattle.sim_expr_parser.proofs.Tables.{one_row}
use Rattle.sim_expr_parser.proofs.Steps.{opened, to, kept, gone, maybe, skipped}

pub operated-some : (l : ℕ) (kind : TokenKind) (n : Part) (s : Derivation) (xs : List Item) → 0 < length xs
    → operated l kind n s xs ≡ record { level = l + 1; inside = node (level_part l) (raise l s) (row n (map (item l kind) xs) done) }
operated-some l kind n s [] h = absurd (omega (arith, h))
operated-some l kind n s (x ∷ xs) h = refl

pub negated-some : (xs : List TokenNo) (s : Derivation) → 0 < length xs → negated xs s ≡ record { level = 7; inside = row g.NotSign (map not_mark xs) (node g.Relation (raise 6 s) done) }
negated-some [] s h = absurd (omega (arith, h))
negated-some (x ∷ xs) s h = refl

pub multiplied-some : (s : Derivation) (fs : List Forest) → 0 < length fs → multiplied s fs ≡ record { level = 3; inside = node g.Factor (raise 2 s) (row g.NextFactor fs done) }
multiplied-some s [] h = absurd (omega (arith, h))
multiplied-some s (x ∷ xs) h = refl

pub selected-some : (s : Derivation) (fs : List Forest) → 0 < length fs → selected s fs ≡ record { level = 1; inside = node g.Primary (raise 0 s) (row g.Selection fs done) }
selected-some s [] h = absurd (omega (arith, h))
selected-some s (x ∷ xs) h = refl

-- the sign in front of a sum
abbrev pub front : Option LeadingSign → Forest → Forest
front None f = f
front (Some s) f = node g.LeadingSign (bare_leaf s.token.0 (sign_kind s.sign) done) f

pub summed-signed : (x : LeadingSign) (s : Derivation) (fs : List Forest) → summed (Some x) s fs ≡ record { level = 4; inside = front (Some x) (node g.Term (raise 3 s) (row g.NextTerm fs done)) }
summed-signed x s fs = refl

pub summed-some : (x : Option LeadingSign) (s : Derivation) (fs : List Forest) → 0 < length fs → summed x s fs ≡ record { level = 4; inside = front x (node g.Term (raise 3 s) (row g.NextTerm fs done)) }
summed-some None s [] h = absurd (omega (arith, h))
summed-some None s (f ∷ fs) h = refl
summed-some (Some x) s fs h = refl

pub summed-is : (x : Option LeadingSign) (s : Derivation) (fs : List Forest) → is_some x ≡ true → summed x s fs ≡ record { level = 4; inside = front x (node g.Term (raise 3 s) (row g.NextTerm fs done)) }
summed-is None s fs h = absurd (false≢true h)
summed-is (Some x) s fs h = refl

pub front-none : (x : Option LeadingSign) (f : Forest) → is_some x ≡ false → front x f ≡ f
front-none None f h = refl
front-none (Some x) f h = absurd (false≢true (sym h))

pub sign-to : (ws : List Token) (d i j : ℕ) (s : Option LeadingSign) → GivesSign ws i s j → i < length ws → ReadsTo ws d (Of Maybe g.LeadingSign) i (front s) j
sign-to ws d i j None h within = subst (λ z. ReadsTo ws d (Of Maybe g.LeadingSign) i (λ f. f) z) (sym h.1) (skipped (one_row g.LeadingSign signs (Kept signs ∷ []) (kind_at ws i) false refl h.0) within)
sign-to ws d i j (Some s) h within =
    maybe (gone (to (opened ws d i g.LeadingSign (Kept signs ∷ []) refl (one_row g.LeadingSign signs (Kept signs ∷ []) (kind_at ws i) true refl h.0.among) within) (kept s.token.0 h.1 h.0))
    (bare_leaf s.token.0 (sign_kind s.sign) done) refl)

pub some-mapped : {A B : Type 0} (f : A → B) (xs : List A) → 0 < length xs → 0 < length (map f xs)
some-mapped f [] h = h
some-mapped f (x ∷ xs) h = omega arith

pub arguments-some : (xs : List Derivation) (f : Forest) → 0 < length xs → arguments xs f ≡ node g.Arguments (listed xs done) f
arguments-some [] f h = absurd (omega (arith, h))
arguments-some (x ∷ xs) f h = refl

pub listed-more : (xs ys : List Expr) (y : Expr) (h : Forest) → 0 < length xs → ys ≡ xs ++ y ∷ []
    → listed (map derivation_of xs) (node g.NextArgument (argument (derivation_of y)) h) ≡ listed (map derivation_of ys) h
listed-more [] ys y h some e = absurd (omega (arith, some))
listed-more (x ∷ xs) ys y h some e =
    sym (ap (λ l. listed (map derivation_of l) h) e ∙ ap (λ l. node g.Expression (whole (derivation_of x)) (row g.NextArgument (map argument l) h)) (map-append derivation_of xs y)
    ∙ ap (λ l. node g.Expression (whole (derivation_of x)) (row g.NextArgument l h)) (map-append argument (map derivation_of xs) (derivation_of y))
    ∙ ap (node g.Expression (whole (derivation_of x))) (row-append g.NextArgument (map argument (map derivation_of xs)) (argument (derivation_of y)) h))

pub if-forest : (i n : ℕ) (a a' b b' x x' : Expr) → n ≡ i → a' ≡ a → b' ≡ b → x' ≡ x
    → bare_leaf i k.If (node g.Expression (whole (derivation_of a)) (node g.SimpleExpression (raise 13 (derivation_of b)) (node g.Expression (whole (derivation_of x)) done)))
    ≡ bare_leaf n k.If (node g.Expression (whole (derivation_of a')) (node g.SimpleExpression (raise 13 (derivation_of b')) (node g.Expression (whole (derivation_of x')) done)))
if-forest i n a a' b b' x x' en ea eb ex = sym (
    ap (λ z. bare_leaf z k.If (node g.Expression (whole (derivation_of a')) (node g.SimpleExpression (raise 13 (derivation_of b')) (node g.Expression (whole (derivation_of x')) done)))) en
    ∙ ap (λ z. bare_leaf i k.If (node g.Expression (whole (derivation_of z)) (node g.SimpleExpression (raise 13 (derivation_of b')) (node g.Expression (whole (derivation_of x')) done)))) ea
    ∙ ap (λ z. bare_leaf i k.If (node g.Expression (whole (derivation_of a)) (node g.SimpleExpression (raise 13 (derivation_of z)) (node g.Expression (whole (derivation_of x')) done)))) eb
    ∙ ap (λ z. bare_leaf i k.If (node g.Expression (whole (derivation_of a)) (node g.SimpleExpression (raise 13 (derivation_of b)) (node g.Expression (whole (derivation_of z)) done)))) ex)
