-- The trees of expressions that derivations are those of.
use Rattle.std.proofs.Common.{◌≡◌, ◌≤◌, ◌<◌, ℕ, suc, ◌+◌, inl, inr, true, List, [], ◌∷◌, length, map, Some, None, refl, sym, ◌∙◌, ap, arith}
use Rattle.std.proofs.lemmas.Bool.{false≢true}
use Rattle.std.specs.Prelude.{◌^◌}
use Rattle.std.specs.declared.alloc.Global.{Global}
use Rattle.std.specs.declared.boxed.Box.{Box}
use Rattle.std.specs.declared.vec.Vec.{Vec}
use Rattle.sim_base.specs.declared.numbering.TokenNo.{TokenNo}
use Rattle.sim_base.specs.declared.token.Token.{Token}
use Rattle.sim_base.specs.declared.token.TokenKind.{TokenKind}
use Rattle.sim_base.specs.declared.token.TokenKind.TheVariants as k
use Rattle.sim_base.specs.declared.token.TokenValue.{TokenValue}
use Rattle.sim_base.specs.Lexeme.{bytes_of, character_of, integer_of, value_for}
use Rattle.sim_tree.specs.declared.expr.Expr.{Expr}
use Rattle.sim_tree.specs.declared.expr.Expr.TheVariants as e
use Rattle.sim_tree.specs.declared.expr.Expr.TheViews.{roll-Operand, roll-Term, roll-Factor}
use Rattle.sim_tree.specs.declared.expr.Factor.{Factor}
use Rattle.sim_tree.specs.declared.expr.LeadingSign.{LeadingSign}
use Rattle.sim_tree.specs.declared.expr.Membership.{Membership}
use Rattle.sim_tree.specs.declared.expr.Membership.TheVariants as membership
use Rattle.sim_tree.specs.declared.expr.Multiplication.{Multiplication}
use Rattle.sim_tree.specs.declared.expr.Multiplication.TheVariants as multiplication
use Rattle.sim_tree.specs.declared.expr.Operand.{Operand}
use Rattle.sim_tree.specs.declared.expr.Relation.{Relation}
use Rattle.sim_tree.specs.declared.expr.Relation.TheVariants as relation
use Rattle.sim_tree.specs.declared.expr.Selector.{Selector}
use Rattle.sim_tree.specs.declared.expr.Selector.TheVariants as selector
use Rattle.sim_tree.specs.declared.expr.Sign.{Sign}
use Rattle.sim_tree.specs.declared.expr.Sign.TheVariants as sign
use Rattle.sim_tree.specs.declared.expr.Term.{Term}
use Rattle.sim_tree.specs.Grammar as g
use Rattle.sim_tree.specs.Grammar.{Kept, Many, Mark, Maybe, Of, Once, Part, is, just, literals, one_of, relations, signs}
use Rattle.sim_tree.specs.Reading.{Forest, done, kind_at, leaf, node, bare_leaf, value_at}
use Rattle.sim_tree.specs.Derivation.{Derivation, argument, arguments, item, level_part, membership_kind, multiplication_kind, not_mark, operand_derivation, operated, raise, relation_kind, row, selector_derivation, derivation_of, sign_kind, term_derivation, factor_derivation}
use Rattle.sim_tree.proofs.DerivationLemmas as says
use Rattle.sim_tree.proofs.DerivationLemmas.{raise-same, raise-up}
use Rattle.sim_expr_parser.proofs.Tokens.{is_bare}
use Rattle.sim_readings.proofs.Making.{at, bare-is, beside, boxed, gather, leaf-is, level-made, listed, maps, name_of, named, node-is, row-is, word, word-is}
use Rattle.sim_readings.proofs.Parts.{Good, Items, Levelled, Row, Tailed, absent, kept, many, mark, nil, once, there}

-- ---- what tokens stand for

pub sign_in : (x : TokenKind) → one_of signs x ≡ true → (s : Sign) × (x ≡ sign_kind s) × (is_bare (sign_kind s) ≡ true)
unfolding is
sign_in k.Plus h = (sign.Plus, refl, refl)
sign_in k.Minus h = (sign.Minus, refl, refl)
sign_in _ h = absurd (false≢true h)

multiplication_in : (x : TokenKind) → one_of (k.Times ∷ k.Divide ∷ []) x ≡ true → (s : Multiplication) × (x ≡ multiplication_kind s) × (is_bare (multiplication_kind s) ≡ true)
unfolding is
multiplication_in k.Times h = (multiplication.Times, refl, refl)
multiplication_in k.Divide h = (multiplication.Divide, refl, refl)
multiplication_in _ h = absurd (false≢true h)

relation_in : (x : TokenKind) → one_of relations x ≡ true → (s : Relation) × (x ≡ relation_kind s) × (is_bare (relation_kind s) ≡ true)
unfolding is
relation_in k.Less h = (relation.Less, refl, refl)
relation_in k.LessEqual h = (relation.LessEqual, refl, refl)
relation_in k.Equal h = (relation.Equal, refl, refl)
relation_in k.GreaterEqual h = (relation.GreaterEqual, refl, refl)
relation_in k.Greater h = (relation.Greater, refl, refl)
relation_in k.NotEqual h = (relation.NotEqual, refl, refl)
relation_in k.SameReference h = (relation.SameReference, refl, refl)
relation_in k.OtherReference h = (relation.OtherReference, refl, refl)
relation_in _ h = absurd (false≢true h)

membership_in : (x : TokenKind) → one_of (k.Is ∷ k.In ∷ []) x ≡ true → (s : Membership) × (x ≡ membership_kind s) × (is_bare (membership_kind s) ≡ true)
unfolding is
membership_in k.Is h = (membership.Is, refl, refl)
membership_in k.In h = (membership.In, refl, refl)
membership_in _ h = absurd (false≢true h)

literal_in : (i : ℕ) (x : TokenKind) (held : TokenValue) → one_of literals x ≡ true → (a : Expr) × (derivation_of a ≡ record { level = 0; inside = leaf i x (value_for x held) done })
unfolding is
literal_in i k.Integer held h = let v = integer_of held in (e.Integer (at i) v, says.derivation-Integer (at i) v)
literal_in i k.Character held h = let v = character_of held in (e.Character (at i) v, says.derivation-Character (at i) v)
literal_in i k.Text held h = let v = bytes_of held in (e.Text (at i) v, says.derivation-Text (at i) v)
literal_in i k.True held h = (e.True (at i), says.derivation-True (at i))
literal_in i k.False held h = (e.False (at i), says.derivation-False (at i))
literal_in i k.None held h = (e.NoObject (at i), says.derivation-NoObject (at i))
literal_in i k.Notext held h = (e.Notext (at i), says.derivation-Notext (at i))
literal_in i _ held h = absurd (false≢true h)

abbrev shown_at : Forest → ℕ → Derivation
shown_at f n = record { level = n; inside = f }

next_level : (m : ℕ) (f : Forest) → shown_at f (m + 1) ≡ shown_at f (suc m)
next_level m f = let e : m + 1 ≡ suc m = omega arith in ap (shown_at f) e

module _ (ws : List Token) (room : (n : ℕ) → n ≤ length ws + 1 → n < 2 ^ 63) where
  -- ---- operators of a level

  up : (m : ℕ) {f : Forest} → Levelled m f → Levelled (suc m) (node (level_part m) f done)
  up m a = (a.0, omega (arith, a.1), raise-up m (derivation_of a.0) a.1 ∙ node-is (level_part m) a.2 refl)

  binary : (m : ℕ) (kind : TokenKind) (n : Part) (make : Box Expr Global → Vec Operand Global → Expr)
      → ((a : Box Expr Global) (v : Vec Operand Global) → derivation_of (make a v) ≡ operated m kind n (derivation_of a.value) (map operand_derivation v.items))
      → {x : Forest} → Levelled m x → (xs : List Forest) → (l : List Operand) → map (λ o. item m kind (operand_derivation o)) l ≡ xs → length l ≤ length ws
      → Levelled (suc m) (node (level_part m) x (row n xs done))
  binary m kind n make shows a xs [] es small = let all = up m a in (all.0, all.1, all.2 ∙ node-is (level_part m) refl (row-is n es refl))
  binary m kind n make shows a xs (o ∷ os) es small =
      let v : Vec Operand Global = listed (o ∷ os) (room (length (o ∷ os)) (omega (arith, small))) in
      level-made (suc m) (make (boxed a.0) v) (node (level_part m) (raise m (derivation_of a.0)) (row n (map (item m kind) (map operand_derivation (o ∷ os))) done)) (shows (boxed a.0) v ∙ next_level m (node (level_part m) (raise m (derivation_of a.0)) (row n (map (item m kind) (map operand_derivation (o ∷ os))) done)))
      (node-is (level_part m) a.2 (row-is n (maps (item m kind) operand_derivation (o ∷ os) ∙ es) refl))

  operators : (m : ℕ) (kind : TokenKind) (n : Part) (make : Box Expr Global → Vec Operand Global → Expr)
      → ((a : Box Expr Global) (v : Vec Operand Global) → derivation_of (make a v) ≡ operated m kind n (derivation_of a.value) (map operand_derivation v.items))
      → ((i : ℕ) (f : Forest) → Good ws n i f → Tailed m kind f) → {x : Forest} → Levelled m x → (xs : List Forest) → Items ws n xs → length xs ≤ length ws
      → Levelled (suc m) (node (level_part m) x (row n xs done))
  operators m kind n make shows each a xs its small =
      let l = gather ws (λ o. item m kind (operand_derivation o)) n each xs its in binary m kind n make shows a xs l.0 l.1 (omega (arith, small, l.2))

  -- an operator and its operand
  tail : (m : ℕ) (kind : TokenKind) {i : ℕ} {x : Forest} → kind_at ws i ≡ kind → is_bare kind ≡ true → Levelled m x → Tailed m kind (leaf i (kind_at ws i) (value_at ws i) (node (level_part m) x done))
  tail m kind {i = i} word bare a = (roll-Operand (record { token = at i; operand = a.0 }), ap (item m kind) (says.derivation-operand (at i) a.0) ∙ bare-is ws i word bare (node-is (level_part m) a.2 refl))

  pub simple_expression : {i : ℕ} {f : Forest} → Row ws (Of Once g.AndThen ∷ Of Many g.NextOrElse ∷ []) i f → Good ws g.SimpleExpression i f
  simple_expression (once a ahead took (many xs its small nil)) = operators 12 k.OrElse g.NextOrElse e.OrElse says.derivation-OrElse (λ i f x. x) a xs its (omega (arith, small))

  pub and_then : {i : ℕ} {f : Forest} → Row ws (Of Once g.Equivalence ∷ Of Many g.NextAndThen ∷ []) i f → Good ws g.AndThen i f
  and_then (once a ahead took (many xs its small nil)) = operators 11 k.AndThen g.NextAndThen e.AndThen says.derivation-AndThen (λ i f x. x) a xs its (omega (arith, small))

  pub equivalence : {i : ℕ} {f : Forest} → Row ws (Of Once g.Implication ∷ Of Many g.NextEquivalence ∷ []) i f → Good ws g.Equivalence i f
  equivalence (once a ahead took (many xs its small nil)) = operators 10 k.Eqv g.NextEquivalence e.Eqv says.derivation-Eqv (λ i f x. x) a xs its (omega (arith, small))

  pub implication : {i : ℕ} {f : Forest} → Row ws (Of Once g.Disjunction ∷ Of Many g.NextImplication ∷ []) i f → Good ws g.Implication i f
  implication (once a ahead took (many xs its small nil)) = operators 9 k.Imp g.NextImplication e.Imp says.derivation-Imp (λ i f x. x) a xs its (omega (arith, small))

  pub disjunction : {i : ℕ} {f : Forest} → Row ws (Of Once g.Conjunction ∷ Of Many g.NextOr ∷ []) i f → Good ws g.Disjunction i f
  disjunction (once a ahead took (many xs its small nil)) = operators 8 k.Or g.NextOr e.Or says.derivation-Or (λ i f x. x) a xs its (omega (arith, small))

  pub conjunction : {i : ℕ} {f : Forest} → Row ws (Of Once g.Negation ∷ Of Many g.NextAnd ∷ []) i f → Good ws g.Conjunction i f
  conjunction (once a ahead took (many xs its small nil)) = operators 7 k.And g.NextAnd e.And says.derivation-And (λ i f x. x) a xs its (omega (arith, small))

  pub concatenation : {i : ℕ} {f : Forest} → Row ws (Of Once g.Sum ∷ Of Many g.NextConcatenated ∷ []) i f → Good ws g.Concatenation i f
  concatenation (once a ahead took (many xs its small nil)) = operators 4 k.Ampersand g.NextConcatenated e.Concatenation says.derivation-Concatenation (λ i f x. x) a xs its (omega (arith, small))

  pub factor : {i : ℕ} {f : Forest} → Row ws (Of Once g.Postfix ∷ Of Many g.NextPower ∷ []) i f → Good ws g.Factor i f
  factor (once a ahead took (many xs its small nil)) = operators 1 k.Power g.NextPower e.Power says.derivation-Power (λ i f x. x) (a.0, a.1, a.2) xs its (omega (arith, small))

  pub next_or_else : {i : ℕ} {f : Forest} → Row ws (Kept (just k.OrElse) ∷ Of Once g.AndThen ∷ []) i f → Good ws g.NextOrElse i f
  next_or_else {i = i} (kept h (once a ahead took nil)) = tail 12 k.OrElse (word (kind_at ws i) k.OrElse h) refl a

  pub next_and_then : {i : ℕ} {f : Forest} → Row ws (Kept (just k.AndThen) ∷ Of Once g.Equivalence ∷ []) i f → Good ws g.NextAndThen i f
  next_and_then {i = i} (kept h (once a ahead took nil)) = tail 11 k.AndThen (word (kind_at ws i) k.AndThen h) refl a

  pub next_equivalence : {i : ℕ} {f : Forest} → Row ws (Kept (just k.Eqv) ∷ Of Once g.Implication ∷ []) i f → Good ws g.NextEquivalence i f
  next_equivalence {i = i} (kept h (once a ahead took nil)) = tail 10 k.Eqv (word (kind_at ws i) k.Eqv h) refl a

  pub next_implication : {i : ℕ} {f : Forest} → Row ws (Kept (just k.Imp) ∷ Of Once g.Disjunction ∷ []) i f → Good ws g.NextImplication i f
  next_implication {i = i} (kept h (once a ahead took nil)) = tail 9 k.Imp (word (kind_at ws i) k.Imp h) refl a

  pub next_or : {i : ℕ} {f : Forest} → Row ws (Kept (just k.Or) ∷ Of Once g.Conjunction ∷ []) i f → Good ws g.NextOr i f
  next_or {i = i} (kept h (once a ahead took nil)) = tail 8 k.Or (word (kind_at ws i) k.Or h) refl a

  pub next_and : {i : ℕ} {f : Forest} → Row ws (Kept (just k.And) ∷ Of Once g.Negation ∷ []) i f → Good ws g.NextAnd i f
  next_and {i = i} (kept h (once a ahead took nil)) = tail 7 k.And (word (kind_at ws i) k.And h) refl a

  pub next_concatenated : {i : ℕ} {f : Forest} → Row ws (Kept (just k.Ampersand) ∷ Of Once g.Sum ∷ []) i f → Good ws g.NextConcatenated i f
  next_concatenated {i = i} (kept h (once a ahead took nil)) = tail 4 k.Ampersand (word (kind_at ws i) k.Ampersand h) refl a

  pub next_power : {i : ℕ} {f : Forest} → Row ws (Kept (just k.Power) ∷ Of Once g.Postfix ∷ []) i f → Good ws g.NextPower i f
  next_power {i = i} (kept h (once a ahead took nil)) = tail 1 k.Power (word (kind_at ws i) k.Power h) refl (a.0, a.1, a.2)

  -- ---- the other levels

  negated_of : {xs : List Forest} (l : List TokenNo) → map not_mark l ≡ xs → length l < 2 ^ 63 → {x : Forest} → Levelled 6 x → Levelled 7 (row g.NotSign xs (node g.Relation x done))
  negated_of [] es some a = let all = up 6 a in (all.0, all.1, all.2 ∙ row-is g.NotSign es refl)
  negated_of (y ∷ ys) es some a =
      level-made 7 (e.Not (listed (y ∷ ys) some) (boxed a.0)) (row g.NotSign (map not_mark (y ∷ ys)) (node g.Relation (raise 6 (derivation_of a.0)) done)) (says.derivation-Not (listed (y ∷ ys) some) (boxed a.0))
      (row-is g.NotSign es (node-is g.Relation a.2 refl))

  negated_by : (xs : List Forest) → Items ws g.NotSign xs → length xs ≤ length ws → {x : Forest} → Levelled 6 x → Levelled 7 (row g.NotSign xs (node g.Relation x done))
  negated_by xs its small a = let l = gather ws not_mark g.NotSign (λ i f x. x) xs its in negated_of l.0 l.1 (room (length l.0) (omega (arith, l.2, small))) a

  pub negation : {i : ℕ} {f : Forest} → Row ws (Of Many g.NotSign ∷ Of Once g.Relation ∷ []) i f → Good ws g.Negation i f
  negation (many xs its small (once a ahead took nil)) = negated_by xs its (omega (arith, small)) a

  pub not_sign : {i : ℕ} {f : Forest} → Row ws (Kept (just k.Not) ∷ []) i f → Good ws g.NotSign i f
  not_sign {i = i} (kept h nil) = (at i, word-is ws i k.Not refl h refl)

  pub relation_row : {i : ℕ} {f : Forest} → Row ws (Of Once g.Concatenation ∷ Of Maybe g.RelationTail ∷ []) i f → Good ws g.Relation i f
  relation_row (once a ahead took (absent nil)) = up 5 a
  relation_row (once a ahead took (there (inl b) nil)) =
      level-made 6 (e.Related (boxed a.0) b.1 b.0 (boxed b.2)) _ (says.derivation-Related (boxed a.0) b.1 b.0 (boxed b.2)) (node-is g.Concatenation a.2 (node-is g.RelationTail b.3 refl))
  relation_row (once a ahead took (there (inr b) nil)) =
      level-made 6 (e.Member (boxed a.0) b.1 b.0 b.2) _ (says.derivation-Member (boxed a.0) b.1 b.0 b.2) (node-is g.Concatenation a.2 (node-is g.RelationTail b.3 refl))

  pub related : {i : ℕ} {f : Forest} → Row ws (Kept relations ∷ Of Once g.Concatenation ∷ []) i f → Good ws g.RelationTail i f
  related {i = i} (kept h (once a ahead took nil)) = let r = relation_in (kind_at ws i) h in inl (r.0, at i, a.0, bare-is ws i r.1 r.2 (node-is g.Concatenation a.2 refl))

  pub tested : {i : ℕ} {f : Forest} → Row ws (Kept (k.Is ∷ k.In ∷ []) ∷ Kept (just k.Identifier) ∷ []) i f → Good ws g.RelationTail i f
  tested {i = i} (kept h (kept c nil)) =
      let r = membership_in (kind_at ws i) h in
      let x = name_of ws (i + 1) c in inr (r.0, at i, named (i + 1) x.0, bare-is ws i r.1 r.2 (leaf-is (sym x.1) (sym x.2) refl))

  summed_of : {xs : List Forest} (l : List Term) → map term_derivation l ≡ xs → length l < 2 ^ 63 → {x : Forest} → Levelled 3 x → Levelled 4 (node g.Term x (row g.NextTerm xs done))
  summed_of [] es some a = let all = up 3 a in (all.0, all.1, all.2 ∙ node-is g.Term refl (row-is g.NextTerm es refl))
  summed_of (y ∷ ys) es some a =
      level-made 4 (e.Sum None (boxed a.0) (listed (y ∷ ys) some)) (node g.Term (raise 3 (derivation_of a.0)) (row g.NextTerm (map term_derivation (y ∷ ys)) done)) (says.derivation-Sum None (boxed a.0) (listed (y ∷ ys) some))
      (node-is g.Term a.2 (row-is g.NextTerm es refl))

  signed_of : (s : LeadingSign) {y : Forest} → bare_leaf s.token.0 (sign_kind s.sign) done ≡ y → {xs : List Forest} (l : List Term) → map term_derivation l ≡ xs → length l < 2 ^ 63 → {x : Forest} → Levelled 3 x
      → Levelled 4 (node g.LeadingSign y (node g.Term x (row g.NextTerm xs done)))
  signed_of s front l es some a =
      level-made 4 (e.Sum (Some s) (boxed a.0) (listed l some)) (node g.LeadingSign (bare_leaf s.token.0 (sign_kind s.sign) done) (node g.Term (raise 3 (derivation_of a.0)) (row g.NextTerm (map term_derivation l) done)))
      (says.derivation-Sum (Some s) (boxed a.0) (listed l some)) (node-is g.LeadingSign front (node-is g.Term a.2 (row-is g.NextTerm es refl)))

  pub sum : {i : ℕ} {f : Forest} → Row ws (Of Maybe g.LeadingSign ∷ Of Once g.Term ∷ Of Many g.NextTerm ∷ []) i f → Good ws g.Sum i f
  sum (there s (once a ahead took (many xs its small nil))) = let l = gather ws term_derivation g.NextTerm (λ i f x. x) xs its in signed_of s.0 s.1 l.0 l.1 (room (length l.0) (omega (arith, l.2, small))) a
  sum (absent (once a ahead took (many xs its small nil))) = let l = gather ws term_derivation g.NextTerm (λ i f x. x) xs its in summed_of l.0 l.1 (room (length l.0) (omega (arith, l.2, small))) a

  pub leading_sign : {i : ℕ} {f : Forest} → Row ws (Kept signs ∷ []) i f → Good ws g.LeadingSign i f
  leading_sign {i = i} (kept h nil) = let s = sign_in (kind_at ws i) h in (record { token = at i; sign = s.0 }, bare-is ws i s.1 s.2 refl)

  pub next_term : {i : ℕ} {f : Forest} → Row ws (Kept signs ∷ Of Once g.Term ∷ []) i f → Good ws g.NextTerm i f
  next_term {i = i} (kept h (once a ahead took nil)) =
      let s = sign_in (kind_at ws i) h in (roll-Term (record { token = at i; sign = s.0; term = a.0 }), says.derivation-term (at i) s.0 a.0 ∙ bare-is ws i s.1 s.2 (node-is g.Term a.2 refl))

  multiplied_of : {xs : List Forest} (l : List Factor) → map factor_derivation l ≡ xs → length l < 2 ^ 63 → {x : Forest} → Levelled 2 x → Levelled 3 (node g.Factor x (row g.NextFactor xs done))
  multiplied_of [] es some a = let all = up 2 a in (all.0, all.1, all.2 ∙ node-is g.Factor refl (row-is g.NextFactor es refl))
  multiplied_of (y ∷ ys) es some a =
      level-made 3 (e.Product (boxed a.0) (listed (y ∷ ys) some)) (node g.Factor (raise 2 (derivation_of a.0)) (row g.NextFactor (map factor_derivation (y ∷ ys)) done)) (says.derivation-Product (boxed a.0) (listed (y ∷ ys) some))
      (node-is g.Factor a.2 (row-is g.NextFactor es refl))

  pub term : {i : ℕ} {f : Forest} → Row ws (Of Once g.Factor ∷ Of Many g.NextFactor ∷ []) i f → Good ws g.Term i f
  term (once a ahead took (many xs its small nil)) = let l = gather ws factor_derivation g.NextFactor (λ i f x. x) xs its in multiplied_of l.0 l.1 (room (length l.0) (omega (arith, l.2, small))) a

  pub next_factor : {i : ℕ} {f : Forest} → Row ws (Kept (k.Times ∷ k.Divide ∷ []) ∷ Of Once g.Factor ∷ []) i f → Good ws g.NextFactor i f
  next_factor {i = i} (kept h (once a ahead took nil)) =
      let s = multiplication_in (kind_at ws i) h in
      (roll-Factor (record { token = at i; operator = s.0; factor = a.0 }), says.derivation-factor (at i) s.0 a.0 ∙ bare-is ws i s.1 s.2 (node-is g.Factor a.2 refl))

  pub selected_of : {xs : List Forest} (l : List Selector) → map selector_derivation l ≡ xs → length l < 2 ^ 63 → {x : Forest} → Levelled 0 x → Levelled 1 (node g.Primary x (row g.Selection xs done))
  selected_of [] es some a = let all = up 0 a in (all.0, all.1, all.2 ∙ node-is g.Primary refl (row-is g.Selection es refl))
  selected_of (y ∷ ys) es some a =
      level-made 1 (e.Postfix (boxed a.0) (listed (y ∷ ys) some)) (node g.Primary (raise 0 (derivation_of a.0)) (row g.Selection (map selector_derivation (y ∷ ys)) done)) (says.derivation-Postfix (boxed a.0) (listed (y ∷ ys) some))
      (node-is g.Primary a.2 (row-is g.Selection es refl))

  pub postfix : {i : ℕ} {f : Forest} → Row ws (Of Once g.Primary ∷ Of Many g.Selection ∷ []) i f → Good ws g.Postfix i f
  postfix (once a ahead took (many xs its small nil)) =
      let l = gather ws selector_derivation g.Selection (λ i f x. x) xs its in
      let x = selected_of l.0 l.1 (room (length l.0) (omega (arith, l.2, small))) (a.0, omega (arith, a.1), a.2) in (x.0, x.1, x.2, a.3, row g.Selection xs done, node-is g.Primary a.4 refl)

  -- ---- operands

  primary : {i : ℕ} (rest : Forest) (x : Expr) {h : Forest} → derivation_of x ≡ record { level = 0; inside = h } → h ≡ leaf i (kind_at ws i) (value_at ws i) rest → Good ws g.Primary i (leaf i (kind_at ws i) (value_at ws i) rest)
  primary rest x shows e = let same : (derivation_of x).level ≡ 0 = ap (λ s. s.level) shows in (x, same, raise-same 0 (derivation_of x) same ∙ ap (λ s. s.inside) shows ∙ e, rest, refl)

  pub literal : {i : ℕ} {f : Forest} → Row ws (Kept literals ∷ []) i f → Good ws g.Primary i f
  unfolding value_at
  literal {i = i} (kept h nil) = let x = literal_in i (kind_at ws i) (beside ws i) h in primary done x.0 x.1 refl

  -- actual parameters, where some are written
  pub actuals : (i : ℕ) {f : Forest} → Good ws g.Arguments i f → (rest : Forest) → (l : List Expr) × (length l ≤ length ws + 1) × (arguments (map derivation_of l) rest ≡ node g.Arguments f rest)
  actuals i a rest = (a.0 ∷ a.1, omega (arith, a.2), node-is g.Arguments a.3 refl)

  pub identifier_row : {i : ℕ} {f : Forest} → Row ws (Kept (just k.Identifier) ∷ Of Maybe g.Arguments ∷ []) i f → Good ws g.Primary i f
  identifier_row {i = i} (kept h (absent nil)) =
      let x = name_of ws i h in
      let v : Vec Expr Global = listed [] (room 0 (omega arith)) in primary done (e.Named (named i x.0) v) (says.derivation-Named (named i x.0) v) (leaf-is (sym x.1) (sym x.2) refl)
  identifier_row {i = i} (kept h (there a nil)) =
      let x = name_of ws i h in
      let l = actuals i a done in
      let v = listed l.0 (room (length l.0) l.1) in primary _ (e.Named (named i x.0) v) (says.derivation-Named (named i x.0) v) (leaf-is (sym x.1) (sym x.2) l.2)

  pub this_row : {i : ℕ} {f : Forest} → Row ws (Kept (just k.This) ∷ Kept (just k.Identifier) ∷ []) i f → Good ws g.Primary i f
  this_row {i = i} (kept h (kept c nil)) =
      let x = name_of ws (i + 1) c in
      primary _ (e.This (at i) (named (i + 1) x.0)) (says.derivation-This (at i) (named (i + 1) x.0)) (word-is ws i k.This refl h (leaf-is (sym x.1) (sym x.2) refl))

  pub new_row : {i : ℕ} {f : Forest} → Row ws (Kept (just k.New) ∷ Kept (just k.Identifier) ∷ Of Maybe g.Arguments ∷ []) i f → Good ws g.Primary i f
  new_row {i = i} (kept h (kept c (absent nil))) =
      let x = name_of ws (i + 1) c in
      let v : Vec Expr Global = listed [] (room 0 (omega arith)) in
      primary _ (e.New (at i) (named (i + 1) x.0) v) (says.derivation-New (at i) (named (i + 1) x.0) v) (word-is ws i k.New refl h (leaf-is (sym x.1) (sym x.2) refl))
  new_row {i = i} (kept h (kept c (there a nil))) =
      let x = name_of ws (i + 1) c in
      let l = actuals i a done in
      let v = listed l.0 (room (length l.0) l.1) in
      primary _ (e.New (at i) (named (i + 1) x.0) v) (says.derivation-New (at i) (named (i + 1) x.0) v) (word-is ws i k.New refl h (leaf-is (sym x.1) (sym x.2) l.2))

  pub open_row : {i : ℕ} {f : Forest} → Row ws (Kept (just k.Open) ∷ Of Once g.Expression ∷ Mark k.Close ∷ []) i f → Good ws g.Primary i f
  open_row {i = i} (kept h (once a ahead took (mark nil))) =
      primary _ (e.Parentheses (at i) (boxed a.0)) (says.derivation-Parentheses (at i) (boxed a.0)) (word-is ws i k.Open refl h (node-is g.Expression a.2 refl))

  pub dot_row : {i : ℕ} {f : Forest} → Row ws (Kept (just k.Dot) ∷ Kept (just k.Identifier) ∷ Of Maybe g.Arguments ∷ []) i f → Good ws g.Selection i f
  dot_row {i = i} (kept h (kept c (absent nil))) =
      let x = name_of ws (i + 1) c in
      let v : Vec Expr Global = listed [] (room 0 (omega arith)) in
      (selector.Dot (at i) (named (i + 1) x.0) v, says.derivation-Dot (at i) (named (i + 1) x.0) v ∙ word-is ws i k.Dot refl h (leaf-is (sym x.1) (sym x.2) refl))
  dot_row {i = i} (kept h (kept c (there a nil))) =
      let x = name_of ws (i + 1) c in
      let l = actuals i a done in
      let v = listed l.0 (room (length l.0) l.1) in
      (selector.Dot (at i) (named (i + 1) x.0) v, says.derivation-Dot (at i) (named (i + 1) x.0) v ∙ word-is ws i k.Dot refl h (leaf-is (sym x.1) (sym x.2) l.2))

  pub qua_row : {i : ℕ} {f : Forest} → Row ws (Kept (just k.Qua) ∷ Kept (just k.Identifier) ∷ []) i f → Good ws g.Selection i f
  qua_row {i = i} (kept h (kept c nil)) =
      let x = name_of ws (i + 1) c in
      (selector.Qua (at i) (named (i + 1) x.0), says.derivation-Qua (at i) (named (i + 1) x.0) ∙ word-is ws i k.Qua refl h (leaf-is (sym x.1) (sym x.2) refl))

  pub arguments_row : {i : ℕ} {f : Forest} → Row ws (Mark k.Open ∷ Of Once g.Expression ∷ Of Many g.NextArgument ∷ Mark k.Close ∷ []) i f → Good ws g.Arguments i f
  arguments_row (mark (once a ahead took (many xs its small (mark nil)))) =
      let l = gather ws (λ x. argument (derivation_of x)) g.NextArgument (λ i f x. x) xs its in
      (a.0, l.0, omega (arith, l.2, small), node-is g.Expression a.2 (row-is g.NextArgument (maps argument derivation_of l.0 ∙ l.1) refl))

  pub next_argument : {i : ℕ} {f : Forest} → Row ws (Mark k.Comma ∷ Of Once g.Expression ∷ []) i f → Good ws g.NextArgument i f
  next_argument (mark (once a ahead took nil)) = (a.0, node-is g.Expression a.2 refl)

  pub if_row : {i : ℕ} {f : Forest} → Row ws (Kept (just k.If) ∷ Of Once g.Expression ∷ Mark k.Then ∷ Of Once g.SimpleExpression ∷ Mark k.Else ∷ Of Once g.Expression ∷ []) i f → Good ws g.Expression i f
  if_row {i = i} (kept h (once a ahead took (mark (once b ahead' took' (mark (once c ahead'' took'' nil)))))) =
      level-made 14 (e.If (at i) (boxed a.0) (boxed b.0) (boxed c.0)) _ (says.derivation-If (at i) (boxed a.0) (boxed b.0) (boxed c.0))
      (word-is ws i k.If refl h (node-is g.Expression a.2 (node-is g.SimpleExpression b.2 (node-is g.Expression c.2 refl))))

  pub simple_row : {i : ℕ} {f : Forest} → Row ws (Of Once g.SimpleExpression ∷ []) i f → Good ws g.Expression i f
  simple_row (once a ahead took nil) = up 13 a
