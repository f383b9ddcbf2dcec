-- The grammar's rows of activations, and the shapes of statements that an operand begins.
use Rattle.std.proofs.Common.{◌≡◌, ◌<◌, ℕ, Bool, true, false, List, [], ◌∷◌, length, map, Option, Some, None, refl, sym, subst, ap, ◌∙◌, arith, if◌then◌else◌}
use Rattle.std.specs.Prelude.{◌||◌}
use Rattle.std.proofs.lemmas.Bool.{false≢true}
use Rattle.sim_base.specs.declared.token.Token.{Token}
use Rattle.sim_base.specs.declared.token.TokenKind.{TokenKind}
use Rattle.sim_base.specs.declared.token.TokenKind.TheVariants as k
use Rattle.sim_base.specs.declared.token.TokenValue.{TokenValue}
use Rattle.sim_tree.specs.declared.expr.Expr.{Expr}
use Rattle.sim_tree.specs.declared.stmt.Assigned.{Assigned}
use Rattle.sim_tree.specs.Grammar as g
use Rattle.sim_tree.specs.Grammar.{Part, Once, Maybe, Many, Kept, Of, Symbol, is, one_of, right_side}
use Rattle.sim_tree.specs.Reading.{Forest, done, leaf, node, kind_at, Reads, reads-kept, reads-part, reads-skip, value_at}
use Rattle.sim_tree.specs.Derivation.{raise, row, derivation_of}
use Rattle.sim_tree.specs.ProgramDerivation.{acted, assigned_derivation, assigning}
use Rattle.sim_tree.specs.Tree.{limit, ReadsPart}
use Rattle.sim_expr_parser.proofs.Tables.{only, by_test, this_symbols, new_symbols, open_symbols, primary_this, primary_new, primary_open}

abbrev pub times : List TokenKind
times = k.At ∷ k.Delay ∷ []

abbrev pub places : List TokenKind
places = k.Before ∷ k.After ∷ []

abbrev pub time_symbols : List Symbol
time_symbols = Kept times ∷ Of Once g.Expression ∷ Of Maybe g.PriorMark ∷ []

abbrev pub place_symbols : List Symbol
place_symbols = Kept places ∷ Of Once g.Expression ∷ []

pub timing_at : right_side g.Timing k.At ≡ Some time_symbols
unfolding right_side is
timing_at = refl

pub timing_delay : right_side g.Timing k.Delay ≡ Some time_symbols
unfolding right_side is
timing_delay = refl

pub timing_before : right_side g.Timing k.Before ≡ Some place_symbols
unfolding right_side is
timing_before = refl

pub timing_after : right_side g.Timing k.After ≡ Some place_symbols
unfolding right_side is
timing_after = refl

abbrev choice : Bool → Bool → Bool → Bool → Option (List Symbol)
choice a d b f = if a || (d || false) then Some time_symbols else (if b || (f || false) then Some place_symbols else None)

pub no_timing : (a : TokenKind) → is a k.At ≡ false → is a k.Delay ≡ false → is a k.Before ≡ false → is a k.After ≡ false → right_side g.Timing a ≡ None
unfolding right_side
no_timing a at delay before after =
    ap (λ x. choice x (is a k.Delay) (is a k.Before) (is a k.After)) at
    ∙ ap (λ x. choice false x (is a k.Before) (is a k.After)) delay
    ∙ ap (λ x. choice false false x (is a k.After)) before
    ∙ ap (λ x. choice false false false x) after

pub assigning-some : (e : Expr) (xs : List Assigned) → 0 < length xs → assigning e xs ≡ acted (raise 1 (derivation_of e)) (row g.Assigned (map assigned_derivation xs) done)
assigning-some e [] h = absurd (omega (arith, h))
assigning-some e (x ∷ xs) h = refl

-- Where no identifier begins an operand, it is read as one part.
acted-leaf : (i : ℕ) (kind : TokenKind) (value : TokenValue) (f s rest : Forest) → is kind k.Identifier ≡ false → acted (node g.Primary (leaf i kind value f) s) rest ≡ node g.Postfix (node g.Primary (leaf i kind value f) s) rest
unfolding is
acted-leaf i k.Identifier value f s rest h = absurd (false≢true (sym h))
acted-leaf i _ value f s rest h = refl

same-row : {a b : List Symbol} → Some a ≡ Some b → a ≡ b
same-row {a} {b} h = ap (λ o. elim o [ Some r ↦ r | None ↦ a ]) h

begins-kept : (ws : List Token) (d i m : ℕ) (any : List TokenKind) (s : List Symbol) (f : Forest) → Reads limit ws d (Kept any ∷ s) i f m → (rest : Forest) × (f ≡ leaf i (kind_at ws i) (value_at ws i) rest)
begins-kept ws d i m any s f (reads-kept h r) = (_, refl)

not-identifier : (a : TokenKind) → one_of (k.This ∷ k.New ∷ k.Open ∷ []) a ≡ true → is a k.Identifier ≡ false
unfolding is
not-identifier k.Identifier h = absurd (false≢true h)
not-identifier _ h = refl

kept-row : (a : TokenKind) → one_of (k.This ∷ k.New ∷ k.Open ∷ []) a ≡ true → (any : List TokenKind) × (s : List Symbol) × (right_side g.Primary a ≡ Some (Kept any ∷ s))
kept-row a h = go (is a k.This) refl (is a k.New) refl (is a k.Open) refl h
  where
    go : (x : Bool) → is a k.This ≡ x → (y : Bool) → is a k.New ≡ y → (z : Bool) → is a k.Open ≡ z → (x || (y || (z || false))) ≡ true
        → (any : List TokenKind) × (s : List Symbol) × (right_side g.Primary a ≡ Some (Kept any ∷ s))
    go true x y ey z ez e = (_, _, by_test g.Primary a k.This this_symbols x primary_this)
    go false ex true y z ez e = (_, _, by_test g.Primary a k.New new_symbols y primary_new)
    go false ex false ey true z e = (_, _, by_test g.Primary a k.Open open_symbols z primary_open)
    go false ex false ey false ez e = absurd (false≢true e)

acted-read : (ws : List Token) (d i j : ℕ) (f rest : Forest) → Reads limit ws d (Of Once g.Primary ∷ Of Many g.Selection ∷ []) i f j → one_of (k.This ∷ k.New ∷ k.Open ∷ []) (kind_at ws i) ≡ true
    → acted f rest ≡ node g.Postfix f rest
acted-read ws d i j f rest (reads-part {m = m} {right = right} {f = inner} {g = others} b shallow r q) h =
    let kept = kept-row (kind_at ws i) h in
    let shape = begins-kept ws d i m kept.0 kept.1 inner (subst (λ s. Reads limit ws d s i inner m) (same-row (sym b ∙ kept.2)) r) in
    subst (λ x. acted (node g.Primary x others) rest ≡ node g.Postfix (node g.Primary x others) rest) (sym shape.1)
    (acted-leaf i (kind_at ws i) (value_at ws i) shape.0 others rest (not-identifier (kind_at ws i) h))
acted-read ws d i j f rest (reads-skip b may r) h = absurd (false≢true may)

pub acted-other : (ws : List Token) (d i j : ℕ) (f rest : Forest) → ReadsPart ws d g.Postfix i f j → one_of (k.This ∷ k.New ∷ k.Open ∷ []) (kind_at ws i) ≡ true → acted f rest ≡ node g.Postfix f rest
acted-other ws d i j f rest p h =
    let sy = Of Once g.Primary ∷ Of Many g.Selection ∷ [] in
    acted-read ws d i j f rest (subst (λ s. Reads limit ws d s i f j) (same-row (sym p.begins ∙ only g.Postfix sy (kind_at ws i) refl)) p.inside) h
