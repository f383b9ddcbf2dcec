-- How a part of a level is raised to the levels above it.
use Rattle.std.proofs.Common.{◌≡◌, ◌≤◌, ◌<◌, ℕ, ◌+◌, zero, suc, Bool, true, false, List, [], ◌∷◌, length, map, Option, Some, None, Result, Ok, Err, refl, sym, ap, ◌∙◌, subst, ◌⊎◌, inl, inr, arith, lit<}
use Rattle.std.specs.Prelude.{◌&&◌, nat_le}
use Rattle.std.specs.Option.{is_some}
use Rattle.std.proofs.lemmas.Bool.{false≢true, le-leb}
use Rattle.std.proofs.lemmas.Bool.Decides.{leb_tells}
use Rattle.sim_base.specs.declared.numbering.TokenNo.{TokenNo}
use Rattle.sim_tree.specs.declared.expr.LeadingSign.{LeadingSign}
use Rattle.sim_base.specs.declared.token.Token.{Token}
use Rattle.sim_tree.specs.declared.expr.Expr.{Expr}
use Rattle.sim_base.specs.declared.token.TokenKind.{TokenKind}
use Rattle.sim_base.specs.declared.token.TokenKind.TheVariants as k
use Rattle.sim_tree.specs.Grammar as g
use Rattle.sim_tree.specs.Grammar.{Part, Once, Maybe, Many, Kept, Of, Symbol, is, just, one_of, right_side, literals, signs}
use Rattle.sim_tree.specs.Reading.{Forest, done, kind_at, may_skip, Reads, reads-done, reads-skip, after-skip}
use Rattle.sim_tree.specs.Claim.{one}
use Rattle.sim_tree.specs.Derivation.{derivation_of, row, level_part, not_mark}
use Rattle.sim_tree.specs.Tree.{limit, ReadsPart}
use Rattle.sim_expr_parser.specs.declared.level.Level.TheVariants as level
use Rattle.sim_expr_parser.specs.declared.operators.Operators.{Operators}
use Rattle.sim_expr_parser.specs.declared.operators.Operators.TheVariants as operators
use Rattle.sim_expr_parser.specs.declared.refusal.Stop.{Stop}
use Rattle.sim_expr_parser.specs.declared.refusal.Stop.TheVariants as stop
use Rattle.sim_expr_parser.specs.Level.{below_of, level_of, operators_of, tail_of, tail_part, tail_times}
use Rattle.sim_expr_parser.specs.Operators.{Follows, NoneFollows, IsPlain, IsRead, ReadsTail, GivesTail}
use Rattle.sim_expr_parser.specs.Parsing.{GivesConstant, GivesLevel, GivesSign, Stops, ReadsTo}
use Rattle.sim_tree.proofs.Completion.{is_self, left_true, right_true}
use Rattle.sim_expr_parser.proofs.Steps.{Within, opened, to, once, skipped, stops, once-stops, level-made, level-up, kept, unexpected-primary}
use Rattle.sim_expr_parser.proofs.Tables.{only, one_row, just_is, open-level, related, tests, primary_constant}

-- where the operators of a kind are others, no part behind an operand begins
pub no-tail : (o : Operators) (a : TokenKind) → (operators_of a ≡ Some o → ⊥) → right_side (tail_part o) a ≡ None
unfolding right_side is
no-tail (operators.Single level.OrElse) k.OrElse h = absurd (h refl)
no-tail (operators.Single level.OrElse) _ h = refl
no-tail (operators.Single level.AndThen) k.AndThen h = absurd (h refl)
no-tail (operators.Single level.AndThen) _ h = refl
no-tail (operators.Single level.Eqv) k.Eqv h = absurd (h refl)
no-tail (operators.Single level.Eqv) _ h = refl
no-tail (operators.Single level.Imp) k.Imp h = absurd (h refl)
no-tail (operators.Single level.Imp) _ h = refl
no-tail (operators.Single level.Or) k.Or h = absurd (h refl)
no-tail (operators.Single level.Or) _ h = refl
no-tail (operators.Single level.And) k.And h = absurd (h refl)
no-tail (operators.Single level.And) _ h = refl
no-tail (operators.Single level.Concatenation) k.Ampersand h = absurd (h refl)
no-tail (operators.Single level.Concatenation) _ h = refl
no-tail (operators.Single level.Power) k.Power h = absurd (h refl)
no-tail (operators.Single level.Power) _ h = refl
no-tail operators.Relations k.Less h = absurd (h refl)
no-tail operators.Relations k.LessEqual h = absurd (h refl)
no-tail operators.Relations k.Equal h = absurd (h refl)
no-tail operators.Relations k.GreaterEqual h = absurd (h refl)
no-tail operators.Relations k.Greater h = absurd (h refl)
no-tail operators.Relations k.NotEqual h = absurd (h refl)
no-tail operators.Relations k.SameReference h = absurd (h refl)
no-tail operators.Relations k.OtherReference h = absurd (h refl)
no-tail operators.Relations k.Is h = absurd (h refl)
no-tail operators.Relations k.In h = absurd (h refl)
no-tail operators.Relations _ h = refl
no-tail operators.Signs k.Plus h = absurd (h refl)
no-tail operators.Signs k.Minus h = absurd (h refl)
no-tail operators.Signs _ h = refl
no-tail operators.Multiplications k.Times h = absurd (h refl)
no-tail operators.Multiplications k.Divide h = absurd (h refl)
no-tail operators.Multiplications _ h = refl

may-tail : (o : Operators) → may_skip (tail_times o) ≡ true
may-tail (operators.Single lv) = refl
may-tail operators.Relations = refl
may-tail operators.Signs = refl
may-tail operators.Multiplications = refl

-- what makes the level above n: `not`, or operators
step_of : (n : ℕ) → 1 ≤ n → n < 13 → (n ≡ 6) ⊎ ((o : Operators) × (below_of o ≡ n))
step_of zero some low = absurd (omega (arith, some))
step_of (suc zero) some low = inr (operators.Single level.Power, refl)
step_of (suc (suc zero)) some low = inr (operators.Multiplications, refl)
step_of (suc (suc (suc zero))) some low = inr (operators.Signs, refl)
step_of (suc (suc (suc (suc zero)))) some low = inr (operators.Single level.Concatenation, refl)
step_of (suc (suc (suc (suc (suc zero))))) some low = inr (operators.Relations, refl)
step_of (suc (suc (suc (suc (suc (suc zero)))))) some low = inl refl
step_of (suc (suc (suc (suc (suc (suc (suc zero))))))) some low = inr (operators.Single level.And, refl)
step_of (suc (suc (suc (suc (suc (suc (suc (suc zero)))))))) some low = inr (operators.Single level.Or, refl)
step_of (suc (suc (suc (suc (suc (suc (suc (suc (suc zero))))))))) some low = inr (operators.Single level.Imp, refl)
step_of (suc (suc (suc (suc (suc (suc (suc (suc (suc (suc zero)))))))))) some low = inr (operators.Single level.Eqv, refl)
step_of (suc (suc (suc (suc (suc (suc (suc (suc (suc (suc (suc zero))))))))))) some low = inr (operators.Single level.AndThen, refl)
step_of (suc (suc (suc (suc (suc (suc (suc (suc (suc (suc (suc (suc zero)))))))))))) some low = inr (operators.Single level.OrElse, refl)
step_of (suc (suc (suc (suc (suc (suc (suc (suc (suc (suc (suc (suc (suc n))))))))))))) some low = absurd (omega (arith, low))

module _ {ws : List Token} {d i : ℕ} where
  -- a repeated part that does not stand there
  none-repeated : {n : Part} → right_side n (kind_at ws i) ≡ None → i < length ws → ReadsTo ws d (Of Many n) i (λ f. f) i
  none-repeated h within = record {
    reads = λ s f m q. reads-skip h refl q;
    fails = λ s e q. after-skip h refl q;
    ahead = omega arith;
    within = within;
  }

  -- operators that do not stand there
  no-operators : (o : Operators) → (operators_of (kind_at ws i) ≡ Some o → ⊥) → i < length ws → ReadsTo ws d (tail_of o) i (λ f. f) i
  no-operators o none within = record {
    reads = λ s f m q. reads-skip (no-tail o (kind_at ws i) none) (may-tail o) q;
    fails = λ s e q. after-skip (no-tail o (kind_at ws i) none) (may-tail o) q;
    ahead = omega arith;
    within = within;
  }

-- what is plain up to top is so from a higher level on
pub higher : {ws : List Token} {i low high top : ℕ} → low ≤ high → IsPlain ws i low top → IsPlain ws i high top
higher le plain = record { unsigned = λ a b. plain.unsigned (omega (arith, a, le)) b; affirmed = λ a b. plain.affirmed (omega (arith, a, le)) b }

module _ {ws : List Token} {d i : ℕ} where
  -- the level that operators make, at its first operand
  open-operators : (o : Operators) (top : ℕ) → level_of o ≤ top → IsPlain ws i (below_of o) top → i < length ws
      → Within ws d (level_part (level_of o)) i (λ f. f) d (Of Once (level_part (below_of o)) ∷ tail_of o ∷ []) i
  open-operators (operators.Single lv) top le plain h = open-level lv ws d i h
  open-operators operators.Relations top le plain h =
      let sy = Of Once g.Concatenation ∷ Of Maybe g.RelationTail ∷ [] in
      opened ws d i g.Relation sy refl (only g.Relation sy (kind_at ws i) refl) h
  open-operators operators.Signs top le plain h =
      let sy = Of Maybe g.LeadingSign ∷ Of Once g.Term ∷ Of Many g.NextTerm ∷ [] in
      to (opened ws d i g.Sum sy refl (only g.Sum sy (kind_at ws i) refl) h)
      (skipped (one_row g.LeadingSign signs (Kept signs ∷ []) (kind_at ws i) false refl (plain.unsigned (lit< tt) le)) h)
  open-operators operators.Multiplications top le plain h =
      let sy = Of Once g.Factor ∷ Of Many g.NextFactor ∷ [] in
      opened ws d i g.Term sy refl (only g.Term sy (kind_at ws i) refl) h

  -- the level that `not` makes, where none stands
  open-affirmed : (top : ℕ) → 7 ≤ top → IsPlain ws i 6 top → i < length ws → Within ws d g.Negation i (λ f. f) d (Of Once g.Relation ∷ []) i
  open-affirmed top le plain h =
      let sy = Of Many g.NotSign ∷ Of Once g.Relation ∷ [] in
      to (opened ws d i g.Negation sy refl (only g.Negation sy (kind_at ws i) refl) h)
      (none-repeated (one_row g.NotSign (just k.Not) (Kept (just k.Not) ∷ []) (kind_at ws i) false refl (just_is _ _ _ (plain.affirmed (lit< tt) le))) h)

  from : {n : Part} {f : Forest} {j : ℕ} → ReadsPart ws d n i f j → i < length ws
  from p = omega (arith, p.ahead, p.within)

  -- one level up
  up-operators : (o : Operators) (top : ℕ) {e : Expr} {j : ℕ} → level_of o ≤ top → NoneFollows ws j (below_of o) (level_of o) → IsRead ws d i (below_of o) top e j → IsRead ws d i (level_of o) top e j
  up-operators o top {e} {j} le none r =
      let w0 = open-operators o top le r.plain (from r.part) in
      let w2 = to (to w0 (once r.part)) (no-operators o (λ h. none o h (omega arith) (omega arith)) r.part.within) in
      let up = level-up (below_of o) e r.low w2 refl in
      record { low = up.0; part = up.1; plain = higher (omega arith) r.plain }

  up-affirmed : (top : ℕ) {e : Expr} {j : ℕ} → 7 ≤ top → IsRead ws d i 6 top e j → IsRead ws d i 7 top e j
  up-affirmed top {e} le r =
      let w0 = open-affirmed top le r.plain (from r.part) in
      let up = level-up 6 e r.low (to w0 (once r.part)) refl in
      record { low = up.0; part = up.1; plain = higher (omega arith) r.plain }

  up : (n top : ℕ) {e : Expr} {j : ℕ} → 1 ≤ n → n < 13 → suc n ≤ top → NoneFollows ws j n (suc n) → IsRead ws d i n top e j → IsRead ws d i (suc n) top e j
  up n top {e} {j} some low le none r = go (step_of n some low)
    where
      go : (n ≡ 6) ⊎ ((o : Operators) × (below_of o ≡ n)) → IsRead ws d i (suc n) top e j
      go (inl h) = subst (λ z. IsRead ws d i (suc z) top e j) (sym h) (up-affirmed top (omega (arith, h, le)) (subst (λ z. IsRead ws d i z top e j) h r))
      go (inr w) =
          subst (λ z. IsRead ws d i (suc z) top e j) w.1
          (up-operators w.0 top (omega (arith, w.1, le)) (subst (λ z. NoneFollows ws j z (suc z)) (sym w.1) none) (subst (λ z. IsRead ws d i z top e j) (sym w.1) r))

  -- k levels up, to n
  pub climb : (k l n top : ℕ) {e : Expr} {j : ℕ} → l + k ≡ n → 1 ≤ l → n ≤ 13 → n ≤ top → NoneFollows ws j l n → IsRead ws d i l top e j → IsRead ws d i n top e j
  climb zero l n top {e} {j} sum some low le none r = let same : l ≡ n = omega (arith, sum) in subst (λ z. IsRead ws d i z top e j) same r
  climb (suc k) l n top {e} {j} sum some low le none r =
      climb k (suc l) n top (omega (arith, sum)) (omega arith) low le (λ o h a b. none o h (omega (arith, a)) b)
      (up l top some (omega (arith, sum, low)) (omega (arith, sum, le)) (λ o h a b. none o h a (omega (arith, b, sum))) r)

  -- a first operand with the operators behind it
  pub with-tail : (o : Operators) (top : ℕ) {first e : Expr} {j k : ℕ} → level_of o ≤ top → IsRead ws d i (below_of o) top first j → ReadsTail ws d j o first e k → IsRead ws d i (level_of o) top e k
  with-tail o top {first} {e} le r tail =
      let w0 = open-operators o top le r.plain (from r.part) in
      let made = level-made (level_of o) e (derivation_of e) refl tail.level_is (to (to w0 (once r.part)) tail.reads) (sym tail.inside_is) in
      record { low = made.0; part = made.1; plain = higher (omega arith) r.plain }

  pub tail-stops : (o : Operators) (top : ℕ) {first : Expr} {j : ℕ} (x : Stop) → level_of o ≤ top → IsRead ws d i (below_of o) top first j → ((s : List Symbol) → Stops ws d (tail_of o ∷ s) j x)
      → Stops ws d (one (level_part (level_of o))) i x
  tail-stops o top x le r h = stops (to (open-operators o top le r.plain (from r.part)) (once r.part)) x h

-- the same of where reading stops
stop-up : (ws : List Token) (d i : ℕ) (n top : ℕ) (x : Stop) → 1 ≤ n → n < 13 → suc n ≤ top → IsPlain ws i n top → i < length ws → Stops ws d (one (level_part n)) i x → Stops ws d (one (level_part (suc n))) i x
stop-up ws d i n top x some low le plain within h = go (step_of n some low)
  where
    go : (n ≡ 6) ⊎ ((o : Operators) × (below_of o ≡ n)) → Stops ws d (one (level_part (suc n))) i x
    go (inl e) =
        let w = open-affirmed top (omega (arith, e, le)) (subst (λ z. IsPlain ws i z top) e plain) within in
        subst (λ z. Stops ws d (one (level_part (suc z))) i x) (sym e) (stops w x (once-stops ws d i g.Relation x (subst (λ z. Stops ws d (one (level_part z)) i x) e h)))
    go (inr v) =
        let w = open-operators v.0 top (omega (arith, v.1, le)) (subst (λ z. IsPlain ws i z top) (sym v.1) plain) within in
        subst (λ z. Stops ws d (one (level_part (suc z))) i x) v.1
        (stops w x (once-stops ws d i (level_part (below_of v.0)) x (subst (λ z. Stops ws d (one (level_part z)) i x) (sym v.1) h)))

pub climb-stops : (ws : List Token) (d i : ℕ) (k l n top : ℕ) (x : Stop) → l + k ≡ n → 1 ≤ l → n ≤ 13 → n ≤ top → IsPlain ws i l top → i < length ws → Stops ws d (one (level_part l)) i x → Stops ws d (one (level_part n)) i x
climb-stops ws d i zero l n top x sum some low le plain within h = let same : l ≡ n = omega (arith, sum) in subst (λ z. Stops ws d (one (level_part z)) i x) same h
climb-stops ws d i (suc k) l n top x sum some low le plain within h =
    climb-stops ws d i k (suc l) n top x (omega (arith, sum)) (omega arith) low le (higher (omega arith) plain) within
    (stop-up ws d i l top x some (omega (arith, sum, low)) (omega (arith, sum, le)) plain within h)

-- operators that stand at a token are those alone
pub none-below : {ws : List Token} {i reached top : ℕ} {o : Operators} → Follows ws i reached top o → NoneFollows ws i reached (below_of o)
none-below {o = o} f p h above within = let same : o ≡ p = cc in omega (arith, ap below_of same, within)

some-same : {A : Type 0} {x y : A} → Some x ≡ Some y → x ≡ y
some-same h = cc

some≢none : {A : Type 0} {x : A} → Some x ≡ None → ⊥
some≢none h = cc

-- operators that a kind is one of begin the part behind an operand
pub tail-stands : (a : TokenKind) (o : Operators) → operators_of a ≡ Some o → right_side (tail_part o) a ≡ None → ⊥
unfolding right_side is
tail-stands k.OrElse o h = subst (λ p. right_side (tail_part p) k.OrElse ≡ None → ⊥) (some-same h) some≢none
tail-stands k.AndThen o h = subst (λ p. right_side (tail_part p) k.AndThen ≡ None → ⊥) (some-same h) some≢none
tail-stands k.Eqv o h = subst (λ p. right_side (tail_part p) k.Eqv ≡ None → ⊥) (some-same h) some≢none
tail-stands k.Imp o h = subst (λ p. right_side (tail_part p) k.Imp ≡ None → ⊥) (some-same h) some≢none
tail-stands k.Or o h = subst (λ p. right_side (tail_part p) k.Or ≡ None → ⊥) (some-same h) some≢none
tail-stands k.And o h = subst (λ p. right_side (tail_part p) k.And ≡ None → ⊥) (some-same h) some≢none
tail-stands k.Ampersand o h = subst (λ p. right_side (tail_part p) k.Ampersand ≡ None → ⊥) (some-same h) some≢none
tail-stands k.Power o h = subst (λ p. right_side (tail_part p) k.Power ≡ None → ⊥) (some-same h) some≢none
tail-stands k.Less o h = subst (λ p. right_side (tail_part p) k.Less ≡ None → ⊥) (some-same h) some≢none
tail-stands k.LessEqual o h = subst (λ p. right_side (tail_part p) k.LessEqual ≡ None → ⊥) (some-same h) some≢none
tail-stands k.Equal o h = subst (λ p. right_side (tail_part p) k.Equal ≡ None → ⊥) (some-same h) some≢none
tail-stands k.GreaterEqual o h = subst (λ p. right_side (tail_part p) k.GreaterEqual ≡ None → ⊥) (some-same h) some≢none
tail-stands k.Greater o h = subst (λ p. right_side (tail_part p) k.Greater ≡ None → ⊥) (some-same h) some≢none
tail-stands k.NotEqual o h = subst (λ p. right_side (tail_part p) k.NotEqual ≡ None → ⊥) (some-same h) some≢none
tail-stands k.SameReference o h = subst (λ p. right_side (tail_part p) k.SameReference ≡ None → ⊥) (some-same h) some≢none
tail-stands k.OtherReference o h = subst (λ p. right_side (tail_part p) k.OtherReference ≡ None → ⊥) (some-same h) some≢none
tail-stands k.Is o h = subst (λ p. right_side (tail_part p) k.Is ≡ None → ⊥) (some-same h) some≢none
tail-stands k.In o h = subst (λ p. right_side (tail_part p) k.In ≡ None → ⊥) (some-same h) some≢none
tail-stands k.Plus o h = subst (λ p. right_side (tail_part p) k.Plus ≡ None → ⊥) (some-same h) some≢none
tail-stands k.Minus o h = subst (λ p. right_side (tail_part p) k.Minus ≡ None → ⊥) (some-same h) some≢none
tail-stands k.Times o h = subst (λ p. right_side (tail_part p) k.Times ≡ None → ⊥) (some-same h) some≢none
tail-stands k.Divide o h = subst (λ p. right_side (tail_part p) k.Divide ≡ None → ⊥) (some-same h) some≢none
tail-stands _ o h = absurd (some≢none (sym h))

pub relation-stands : (a : TokenKind) → operators_of a ≡ Some operators.Relations → one_of tests a ≡ false → one_of g.relations a ≡ false → ⊥
relation-stands a h test relation = tail-stands a operators.Relations h (related a false false relation test)

-- a repeated part that stands there is read at least once
nothing-read : {ws : List Token} {d i j : ℕ} {n : Part} → Reads limit ws d (Of Many n ∷ []) i done j → right_side n (kind_at ws i) ≡ None
nothing-read (reads-skip h may r) = h

pub some-read : {ws : List Token} {d i j : ℕ} {n : Part} (fs : List Forest) → ReadsTo ws d (Of Many n) i (row n fs) j → (right_side n (kind_at ws i) ≡ None → ⊥) → 0 < length fs
some-read {j = j} [] r stands = absurd (stands (nothing-read (r.reads [] done j reads-done)))
some-read (f ∷ fs) r stands = omega arith

pub mapped-some : {A B : Type 0} (f : A → B) (xs : List A) → 0 < length (map f xs) → 0 < length xs
mapped-some f [] h = h
mapped-some f (x ∷ xs) h = omega arith

-- one `not` is read at least
pub not-read : {ws : List Token} {d i j : ℕ} (xs : List TokenNo) → ReadsTo ws d (Of Many g.NotSign) i (row g.NotSign (map not_mark xs)) j → is (kind_at ws i) k.Not ≡ true → 0 < length xs
not-read {ws} {i = i} xs r h =
    mapped-some not_mark xs (some-read (map not_mark xs) r (λ e. some≢none (sym (one_row g.NotSign (just k.Not) (Kept (just k.Not) ∷ []) (kind_at ws i) true refl (just_is _ _ _ h)) ∙ e)))

-- What an operand of a level begins with, by the parser's tests.
pub and-split : (a b : Bool) → (a && b) ≡ true → (a ≡ true) × (b ≡ true)
and-split a b h = (left_true a b h, right_true a b h)

pub le-of : (m n : ℕ) → nat_le m n ≡ true → m ≤ n
le-of m n h = go (leb_tells m n)
  where
    go : ((nat_le m n ≡ true) × (m ≤ n)) ⊎ ((nat_le m n ≡ false) × (n < m)) → m ≤ n
    go (inl w) = w.1
    go (inr w) = absurd (false≢true (sym w.0 ∙ h))

pub and-not : (m n : ℕ) (b : Bool) → (nat_le m n && b) ≡ false → m ≤ n → b ≡ false
and-not m n b h le = sym (ap (λ x. x && b) (le-leb m n le)) ∙ h

pub negated-plain : (ws : List Token) (i top : ℕ) → IsPlain ws i 7 top
negated-plain ws i top = record { unsigned = λ a b. absurd (omega (arith, a)); affirmed = λ a b. absurd (omega (arith, a)) }

pub signed-plain : (ws : List Token) (i top : ℕ) → (7 ≤ top → is (kind_at ws i) k.Not ≡ false) → IsPlain ws i 4 top
signed-plain ws i top other = record { unsigned = λ a b. absurd (omega (arith, a)); affirmed = λ a b. other b }

pub bare-plain : (ws : List Token) (i top : ℕ) → (4 ≤ top → one_of signs (kind_at ws i) ≡ false) → (7 ≤ top → is (kind_at ws i) k.Not ≡ false) → IsPlain ws i 1 top
bare-plain ws i top sign other = record { unsigned = λ a b. sign b; affirmed = λ a b. other b }

pub sign-stands : (ws : List Token) (i j : ℕ) (s : Option LeadingSign) → one_of signs (kind_at ws i) ≡ true → GivesSign ws i s j → is_some s ≡ true
sign-stands ws i j None h given = absurd (false≢true (sym given.0 ∙ h))
sign-stands ws i j (Some s) h given = refl

-- where the operators are known by an equation
pub tail-at : {ws : List Token} {d i k : ℕ} {o p : Operators} {first e : Expr} → p ≡ o → ReadsTail ws d i o first e k → ReadsTail ws d i p first e k
tail-at {ws} {d} {i} {k} {o} {p} {first} {e} h r = subst (λ z. ReadsTail ws d i z first e k) (sym h) r

pub tail-fails : (ws : List Token) (d i : ℕ) {o p : Operators} (x : Stop) → p ≡ o → ((s : List Symbol) → Stops ws d (tail_of o ∷ s) i x) → (s : List Symbol) → Stops ws d (tail_of p ∷ s) i x
tail-fails ws d i x h f s = subst (λ z. Stops ws d (tail_of z ∷ s) i x) (sym h) (f s)

-- the kind that a branch was taken for
pub is-that : (a b : TokenKind) → a ≡ b → is b a ≡ true
is-that a b h = subst (λ z. is z a ≡ true) h (is_self a)

-- A primary that is none of identifier, `this`, `new` and parenthesis.
no-primary : (a : TokenKind) → one_of literals a ≡ false → (a ≡ k.Identifier → ⊥) → (a ≡ k.This → ⊥) → (a ≡ k.New → ⊥) → (a ≡ k.Open → ⊥) → right_side g.Primary a ≡ None
unfolding right_side is
no-primary k.Identifier l i h n o = absurd (i refl)
no-primary k.This l i h n o = absurd (h refl)
no-primary k.New l i h n o = absurd (n refl)
no-primary k.Open l i h n o = absurd (o refl)
no-primary k.Integer l i h n o = absurd (false≢true (sym l))
no-primary k.Character l i h n o = absurd (false≢true (sym l))
no-primary k.Text l i h n o = absurd (false≢true (sym l))
no-primary k.True l i h n o = absurd (false≢true (sym l))
no-primary k.False l i h n o = absurd (false≢true (sym l))
no-primary k.None l i h n o = absurd (false≢true (sym l))
no-primary k.Notext l i h n o = absurd (false≢true (sym l))
no-primary _ l i h n o = refl

pub constant-level : (ws : List Token) (d i : ℕ) → i < length ws → (a : TokenKind) → a ≡ kind_at ws i → (a ≡ k.Identifier → ⊥) → (a ≡ k.This → ⊥) → (a ≡ k.New → ⊥) → (a ≡ k.Open → ⊥)
    → (r : Result (Expr × ℕ) Stop) → GivesConstant ws i r → GivesLevel ws d 0 i r
constant-level ws d i within a e name this new group (Ok r) h =
    level-made 0 r.0 _ h.1 refl (to (opened ws d i g.Primary (Kept literals ∷ []) refl (primary_constant (kind_at ws i) h.0.among) within) (kept i refl h.0)) refl
constant-level ws d i within a e name this new group (Err (stop.Unexpected k)) h =
    unexpected-primary ws d i (stop.Unexpected k) (ap stop.Unexpected h.0) (ap (right_side g.Primary) (sym e) ∙ no-primary a (ap (one_of literals) e ∙ h.1) name this new group)
constant-level ws d i within a e name this new group (Err (stop.TooDeep k)) h = absurd h
constant-level ws d i within a e name this new group (Err stop.Memory) h = tt

pub extended-as : (ws : List Token) (d i : ℕ) {o p : Operators} (first : Expr) → p ≡ o → (r : Result (Expr × ℕ) Stop) → GivesTail ws d i o first r → GivesTail ws d i p first r
extended-as ws d i first h (Ok r) given = tail-at h given
extended-as ws d i first h (Err e) given = tail-fails ws d i e h given
