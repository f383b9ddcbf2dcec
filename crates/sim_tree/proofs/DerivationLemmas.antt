-- What the nodes of an expression's tree stand for.
use Rattle.std.proofs.Common.{◌≡◌, ◌≤◌, ℕ, ℤ, Bool, true, false, zero, suc, List, [], ◌∷◌, ◌++◌, Option, map, refl, sym, ap, ◌∙◌, arith, if◌then◌else◌}
use Rattle.std.proofs.lemmas.Bool.{eq-eqb, eqb-true}
use Rattle.std.specs.Prelude.{nat_eq}
use Rattle.std.specs.declared.alloc.Global.{Global}
use Rattle.std.specs.declared.boxed.Box.{Box}
use Rattle.std.specs.declared.vec.Vec.{Vec}
use Rattle.sim_base.specs.declared.numbering.TokenNo.{TokenNo}
use Rattle.sim_base.specs.declared.token.TokenKind.TheVariants as k
use Rattle.sim_base.specs.declared.token.TokenValue.TheVariants as token_value
use Rattle.sim_tree.specs.declared.expr.Identifier.{Identifier}
use Rattle.sim_tree.specs.declared.expr.LeadingSign.{LeadingSign}
use Rattle.sim_tree.specs.declared.expr.Sign.{Sign}
use Rattle.sim_tree.specs.declared.expr.Multiplication.{Multiplication}
use Rattle.sim_tree.specs.declared.expr.Relation.{Relation}
use Rattle.sim_tree.specs.declared.expr.Membership.{Membership}
use Rattle.sim_tree.specs.declared.expr.Expr.{Expr}
use Rattle.sim_tree.specs.declared.expr.Expr.TheVariants as e
use Rattle.sim_tree.specs.declared.expr.Expr.TheOpen.{Expr-F, Selector-F}
use Rattle.sim_tree.specs.declared.expr.Expr.TheFolds.{fold-roll-Expr, fold-roll-Operand, fold-roll-Term, fold-roll-Factor, fold-roll-Selector}
use Rattle.sim_tree.specs.declared.expr.Expr.TheViews.{roll-Operand, roll-Term, roll-Factor}
use Rattle.sim_tree.specs.declared.expr.Selector.TheVariants as selector
use Rattle.sim_tree.specs.declared.expr.Operand.{Operand}
use Rattle.sim_tree.specs.declared.expr.Term.{Term}
use Rattle.sim_tree.specs.declared.expr.Factor.{Factor}
use Rattle.sim_tree.specs.declared.expr.Selector.{Selector}
use Rattle.sim_tree.specs.Grammar as g
use Rattle.sim_tree.specs.Reading.{Forest, done, leaf, node, bare_leaf}
use Rattle.sim_tree.specs.Derivation.{Derivation, Item, level_part, raise, whole, row, identifier, arguments, sign_kind, multiplication_kind, relation_kind, membership_kind, operated, negated, summed, multiplied, selected, expr_layer, selector_layer, factor_layer, operand_layer, term_layer, derivation_of, operand_derivation, term_derivation, factor_derivation, selector_derivation}

pub derivation-If : (i : TokenNo) (a : Box Expr Global) (b : Box Expr Global) (c : Box Expr Global) → derivation_of (e.If i a b c) ≡ record { level = 14; inside = bare_leaf i.0 k.If (node g.Expression (whole (derivation_of a.value)) (node g.SimpleExpression (raise 13 (derivation_of b.value)) (node g.Expression (whole (derivation_of c.value)) done))) }
derivation-If i a b c = ap derivation_of (sym (e.rolls-If i a b c)) ∙ fold-roll-Expr Derivation Forest Forest Item Forest expr_layer selector_layer factor_layer operand_layer term_layer (Expr-F.If i a b c)

pub derivation-OrElse : (a : Box Expr Global) (v : Vec Operand Global) → derivation_of (e.OrElse a v) ≡ operated 12 k.OrElse g.NextOrElse (derivation_of a.value) (map operand_derivation v.items)
derivation-OrElse a v = ap derivation_of (sym (e.rolls-OrElse a v)) ∙ fold-roll-Expr Derivation Forest Forest Item Forest expr_layer selector_layer factor_layer operand_layer term_layer (Expr-F.OrElse a v)

pub derivation-AndThen : (a : Box Expr Global) (v : Vec Operand Global) → derivation_of (e.AndThen a v) ≡ operated 11 k.AndThen g.NextAndThen (derivation_of a.value) (map operand_derivation v.items)
derivation-AndThen a v = ap derivation_of (sym (e.rolls-AndThen a v)) ∙ fold-roll-Expr Derivation Forest Forest Item Forest expr_layer selector_layer factor_layer operand_layer term_layer (Expr-F.AndThen a v)

pub derivation-Eqv : (a : Box Expr Global) (v : Vec Operand Global) → derivation_of (e.Eqv a v) ≡ operated 10 k.Eqv g.NextEquivalence (derivation_of a.value) (map operand_derivation v.items)
derivation-Eqv a v = ap derivation_of (sym (e.rolls-Eqv a v)) ∙ fold-roll-Expr Derivation Forest Forest Item Forest expr_layer selector_layer factor_layer operand_layer term_layer (Expr-F.Eqv a v)

pub derivation-Imp : (a : Box Expr Global) (v : Vec Operand Global) → derivation_of (e.Imp a v) ≡ operated 9 k.Imp g.NextImplication (derivation_of a.value) (map operand_derivation v.items)
derivation-Imp a v = ap derivation_of (sym (e.rolls-Imp a v)) ∙ fold-roll-Expr Derivation Forest Forest Item Forest expr_layer selector_layer factor_layer operand_layer term_layer (Expr-F.Imp a v)

pub derivation-Or : (a : Box Expr Global) (v : Vec Operand Global) → derivation_of (e.Or a v) ≡ operated 8 k.Or g.NextOr (derivation_of a.value) (map operand_derivation v.items)
derivation-Or a v = ap derivation_of (sym (e.rolls-Or a v)) ∙ fold-roll-Expr Derivation Forest Forest Item Forest expr_layer selector_layer factor_layer operand_layer term_layer (Expr-F.Or a v)

pub derivation-And : (a : Box Expr Global) (v : Vec Operand Global) → derivation_of (e.And a v) ≡ operated 7 k.And g.NextAnd (derivation_of a.value) (map operand_derivation v.items)
derivation-And a v = ap derivation_of (sym (e.rolls-And a v)) ∙ fold-roll-Expr Derivation Forest Forest Item Forest expr_layer selector_layer factor_layer operand_layer term_layer (Expr-F.And a v)

pub derivation-Concatenation : (a : Box Expr Global) (v : Vec Operand Global) → derivation_of (e.Concatenation a v) ≡ operated 4 k.Ampersand g.NextConcatenated (derivation_of a.value) (map operand_derivation v.items)
derivation-Concatenation a v = ap derivation_of (sym (e.rolls-Concatenation a v)) ∙ fold-roll-Expr Derivation Forest Forest Item Forest expr_layer selector_layer factor_layer operand_layer term_layer (Expr-F.Concatenation a v)

pub derivation-Power : (a : Box Expr Global) (v : Vec Operand Global) → derivation_of (e.Power a v) ≡ operated 1 k.Power g.NextPower (derivation_of a.value) (map operand_derivation v.items)
derivation-Power a v = ap derivation_of (sym (e.rolls-Power a v)) ∙ fold-roll-Expr Derivation Forest Forest Item Forest expr_layer selector_layer factor_layer operand_layer term_layer (Expr-F.Power a v)

pub derivation-Not : (v : Vec TokenNo Global) (a : Box Expr Global) → derivation_of (e.Not v a) ≡ negated v.items (derivation_of a.value)
derivation-Not v a = ap derivation_of (sym (e.rolls-Not v a)) ∙ fold-roll-Expr Derivation Forest Forest Item Forest expr_layer selector_layer factor_layer operand_layer term_layer (Expr-F.Not v a)

pub derivation-Related : (a : Box Expr Global) (i : TokenNo) (r : Relation) (b : Box Expr Global) → derivation_of (e.Related a i r b) ≡ record { level = 6; inside = node g.Concatenation (raise 5 (derivation_of a.value)) (node g.RelationTail (bare_leaf i.0 (relation_kind r) (node g.Concatenation (raise 5 (derivation_of b.value)) done)) done) }
derivation-Related a i r b = ap derivation_of (sym (e.rolls-Related a i r b)) ∙ fold-roll-Expr Derivation Forest Forest Item Forest expr_layer selector_layer factor_layer operand_layer term_layer (Expr-F.Related a i r b)

pub derivation-Member : (a : Box Expr Global) (i : TokenNo) (r : Membership) (x : Identifier) → derivation_of (e.Member a i r x) ≡ record { level = 6; inside = node g.Concatenation (raise 5 (derivation_of a.value)) (node g.RelationTail (bare_leaf i.0 (membership_kind r) (identifier x done)) done) }
derivation-Member a i r x = ap derivation_of (sym (e.rolls-Member a i r x)) ∙ fold-roll-Expr Derivation Forest Forest Item Forest expr_layer selector_layer factor_layer operand_layer term_layer (Expr-F.Member a i r x)

pub derivation-Sum : (s : Option LeadingSign) (a : Box Expr Global) (v : Vec Term Global) → derivation_of (e.Sum s a v) ≡ summed s (derivation_of a.value) (map term_derivation v.items)
derivation-Sum s a v = ap derivation_of (sym (e.rolls-Sum s a v)) ∙ fold-roll-Expr Derivation Forest Forest Item Forest expr_layer selector_layer factor_layer operand_layer term_layer (Expr-F.Sum s a v)

pub derivation-Product : (a : Box Expr Global) (v : Vec Factor Global) → derivation_of (e.Product a v) ≡ multiplied (derivation_of a.value) (map factor_derivation v.items)
derivation-Product a v = ap derivation_of (sym (e.rolls-Product a v)) ∙ fold-roll-Expr Derivation Forest Forest Item Forest expr_layer selector_layer factor_layer operand_layer term_layer (Expr-F.Product a v)

pub derivation-Postfix : (a : Box Expr Global) (v : Vec Selector Global) → derivation_of (e.Postfix a v) ≡ selected (derivation_of a.value) (map selector_derivation v.items)
derivation-Postfix a v = ap derivation_of (sym (e.rolls-Postfix a v)) ∙ fold-roll-Expr Derivation Forest Forest Item Forest expr_layer selector_layer factor_layer operand_layer term_layer (Expr-F.Postfix a v)

pub derivation-Integer : (i : TokenNo) (n : ℤ) → derivation_of (e.Integer i n) ≡ record { level = 0; inside = leaf i.0 k.Integer (token_value.Integer n) done }
derivation-Integer i n = ap derivation_of (sym (e.rolls-Integer i n)) ∙ fold-roll-Expr Derivation Forest Forest Item Forest expr_layer selector_layer factor_layer operand_layer term_layer (Expr-F.Integer i n)

pub derivation-Character : (i : TokenNo) (n : ℕ) → derivation_of (e.Character i n) ≡ record { level = 0; inside = leaf i.0 k.Character (token_value.Character n) done }
derivation-Character i n = ap derivation_of (sym (e.rolls-Character i n)) ∙ fold-roll-Expr Derivation Forest Forest Item Forest expr_layer selector_layer factor_layer operand_layer term_layer (Expr-F.Character i n)

pub derivation-Text : (i : TokenNo) (n : List ℕ) → derivation_of (e.Text i n) ≡ record { level = 0; inside = leaf i.0 k.Text (token_value.Bytes n) done }
derivation-Text i n = ap derivation_of (sym (e.rolls-Text i n)) ∙ fold-roll-Expr Derivation Forest Forest Item Forest expr_layer selector_layer factor_layer operand_layer term_layer (Expr-F.Text i n)

pub derivation-True : (i : TokenNo) → derivation_of (e.True i) ≡ record { level = 0; inside = bare_leaf i.0 k.True done }
derivation-True i = ap derivation_of (sym (e.rolls-True i)) ∙ fold-roll-Expr Derivation Forest Forest Item Forest expr_layer selector_layer factor_layer operand_layer term_layer (Expr-F.True i)

pub derivation-False : (i : TokenNo) → derivation_of (e.False i) ≡ record { level = 0; inside = bare_leaf i.0 k.False done }
derivation-False i = ap derivation_of (sym (e.rolls-False i)) ∙ fold-roll-Expr Derivation Forest Forest Item Forest expr_layer selector_layer factor_layer operand_layer term_layer (Expr-F.False i)

pub derivation-NoObject : (i : TokenNo) → derivation_of (e.NoObject i) ≡ record { level = 0; inside = bare_leaf i.0 k.None done }
derivation-NoObject i = ap derivation_of (sym (e.rolls-NoObject i)) ∙ fold-roll-Expr Derivation Forest Forest Item Forest expr_layer selector_layer factor_layer operand_layer term_layer (Expr-F.NoObject i)

pub derivation-Notext : (i : TokenNo) → derivation_of (e.Notext i) ≡ record { level = 0; inside = bare_leaf i.0 k.Notext done }
derivation-Notext i = ap derivation_of (sym (e.rolls-Notext i)) ∙ fold-roll-Expr Derivation Forest Forest Item Forest expr_layer selector_layer factor_layer operand_layer term_layer (Expr-F.Notext i)

pub derivation-Named : (x : Identifier) (v : Vec Expr Global) → derivation_of (e.Named x v) ≡ record { level = 0; inside = identifier x (arguments (map derivation_of v.items) done) }
derivation-Named x v = ap derivation_of (sym (e.rolls-Named x v)) ∙ fold-roll-Expr Derivation Forest Forest Item Forest expr_layer selector_layer factor_layer operand_layer term_layer (Expr-F.Named x v)

pub derivation-This : (i : TokenNo) (x : Identifier) → derivation_of (e.This i x) ≡ record { level = 0; inside = bare_leaf i.0 k.This (identifier x done) }
derivation-This i x = ap derivation_of (sym (e.rolls-This i x)) ∙ fold-roll-Expr Derivation Forest Forest Item Forest expr_layer selector_layer factor_layer operand_layer term_layer (Expr-F.This i x)

pub derivation-New : (i : TokenNo) (x : Identifier) (v : Vec Expr Global) → derivation_of (e.New i x v) ≡ record { level = 0; inside = bare_leaf i.0 k.New (identifier x (arguments (map derivation_of v.items) done)) }
derivation-New i x v = ap derivation_of (sym (e.rolls-New i x v)) ∙ fold-roll-Expr Derivation Forest Forest Item Forest expr_layer selector_layer factor_layer operand_layer term_layer (Expr-F.New i x v)

pub derivation-Parentheses : (i : TokenNo) (a : Box Expr Global) → derivation_of (e.Parentheses i a) ≡ record { level = 0; inside = bare_leaf i.0 k.Open (node g.Expression (whole (derivation_of a.value)) done) }
derivation-Parentheses i a = ap derivation_of (sym (e.rolls-Parentheses i a)) ∙ fold-roll-Expr Derivation Forest Forest Item Forest expr_layer selector_layer factor_layer operand_layer term_layer (Expr-F.Parentheses i a)

pub derivation-Dot : (i : TokenNo) (x : Identifier) (v : Vec Expr Global) → selector_derivation (selector.Dot i x v) ≡ bare_leaf i.0 k.Dot (identifier x (arguments (map derivation_of v.items) done))
derivation-Dot i x v = ap selector_derivation (sym (selector.rolls-Dot i x v)) ∙ fold-roll-Selector Derivation Forest Forest Item Forest expr_layer selector_layer factor_layer operand_layer term_layer (Selector-F.Dot i x v)

pub derivation-Qua : (i : TokenNo) (x : Identifier) → selector_derivation (selector.Qua i x) ≡ bare_leaf i.0 k.Qua (identifier x done)
derivation-Qua i x = ap selector_derivation (sym (selector.rolls-Qua i x)) ∙ fold-roll-Selector Derivation Forest Forest Item Forest expr_layer selector_layer factor_layer operand_layer term_layer (Selector-F.Qua i x)

pub derivation-operand : (i : TokenNo) (a : Expr) → operand_derivation (roll-Operand (record { token = i; operand = a })) ≡ record { token = i.0; operand = derivation_of a }
derivation-operand i a = fold-roll-Operand Derivation Forest Forest Item Forest expr_layer selector_layer factor_layer operand_layer term_layer (record { token = i; operand = a })

pub derivation-term : (i : TokenNo) (s : Sign) (a : Expr) → term_derivation (roll-Term (record { token = i; sign = s; term = a })) ≡ bare_leaf i.0 (sign_kind s) (node g.Term (raise 3 (derivation_of a)) done)
derivation-term i s a = fold-roll-Term Derivation Forest Forest Item Forest expr_layer selector_layer factor_layer operand_layer term_layer (record { token = i; sign = s; term = a })

pub derivation-factor : (i : TokenNo) (m : Multiplication) (a : Expr) → factor_derivation (roll-Factor (record { token = i; operator = m; factor = a })) ≡ bare_leaf i.0 (multiplication_kind m) (node g.Factor (raise 2 (derivation_of a)) done)
derivation-factor i m a = fold-roll-Factor Derivation Forest Forest Item Forest expr_layer selector_layer factor_layer operand_layer term_layer (record { token = i; operator = m; factor = a })

-- one level up
pub raise-up : (m : ℕ) (s : Derivation) → s.level ≤ m → raise (suc m) s ≡ node (level_part m) (raise m s) done
unfolding raise
raise-up m s h = ap (λ b. if b then s.inside else node (level_part m) (raise m s) done) (other (nat_eq s.level (suc m)) refl)
  where
    other : (b : Bool) → nat_eq s.level (suc m) ≡ b → nat_eq s.level (suc m) ≡ false
    other true e = absurd (omega (arith, h, eqb-true s.level (suc m) e))
    other false e = e

-- at its own level
pub raise-same : (m : ℕ) (s : Derivation) → s.level ≡ m → raise m s ≡ s.inside
unfolding raise
raise-same zero s h = ap (λ b. if b then s.inside else done) (eq-eqb s.level zero h)
raise-same (suc m) s h = ap (λ b. if b then s.inside else node (level_part m) (raise m s) done) (eq-eqb s.level (suc m) h)

pub row-append : (n : g.Part) (xs : List Forest) (x f : Forest) → row n (xs ++ x ∷ []) f ≡ row n xs (node n x f)
row-append n [] x f = refl
row-append n (y ∷ xs) x f = ap (node n y) (row-append n xs x f)

pub map-append : {A B : Type 0} (h : A → B) (xs : List A) (x : A) → map h (xs ++ x ∷ []) ≡ map h xs ++ h x ∷ []
map-append h [] x = refl
map-append h (y ∷ xs) x = ap (λ l. h y ∷ l) (map-append h xs x)
