-- The tokens and places of a derivation, and what is kept of them.
use Rattle.std.proofs.Common.{◌≡◌, ◌≤◌, ℕ, ◌+◌, List, [], ◌∷◌, ◌++◌, refl, sym, ap, ◌∙◌, subst, arith}
use Rattle.sim_base.specs.declared.token.Token.{Token as Word}
use Rattle.sim_tree.specs.Grammar.{Symbol}
use Rattle.sim_tree.specs.Named.{named}
use Rattle.sim_tree.proofs.Laws.{reads_ahead}
use Rattle.sim_tree.specs.Order.{AllBelow, Ascends, Behind, Spot, Token, in_expression, tokens}
use Rattle.sim_tree.specs.Reading.{Forest, Reads, done, leaf, node, place, reads-any, reads-done, reads-here, reads-kept, reads-mark, reads-none, reads-part, reads-skip}
use Rattle.sim_tree.specs.Syntax.{Expression}
use Rattle.sim_allowed.proofs.NamedExpressions.{Among, Puts, among-keep, among-none, among-skip, leaves}

-- the tokens and places of a derivation, in front of others
abbrev pub spots : Forest → List Spot → List Spot
spots done q = q
spots (leaf i kind value f) q = Token i ∷ spots f q
spots (place i f) q = Behind i ∷ spots f q
spots (node n inside f) q = spots inside (spots f q)

-- some of them, in their order; a token may be kept as the place in front of it
pub data Kept : List Spot → List Spot → Type 0 where
  kept-none : Kept [] []
  kept-skip : {x : Spot} {r q : List Spot} → Kept r q → Kept r (x ∷ q)
  kept-same : {x : Spot} {r q : List Spot} → Kept r q → Kept (x ∷ r) (x ∷ q)
  kept-place : {i : ℕ} {r q : List Spot} → Kept r q → Kept (Behind i ∷ r) (Token i ∷ q)

-- Some of what one function puts in front are what the other puts there.
pub record Lays (h g : List Spot → List Spot) : Type 0 where
  pub lays : (r q : List Spot) → Kept r q → Kept (h r) (g q)

pub same_spots : {h g k : List Spot → List Spot} → ((q : List Spot) → g q ≡ k q) → Lays h k → Lays h g
same_spots {h} is p = record { lays = λ r q a. subst (λ z. Kept (h r) z) (sym (is q)) (p.lays r q a) }

pub keep : {x : Spot} {h g : List Spot → List Spot} → Lays h g → Lays (λ r. x ∷ h r) (λ q. x ∷ g q)
keep p = record { lays = λ r q a. kept-same (p.lays r q a) }

pub skip : {x : Spot} {h g : List Spot → List Spot} → Lays h g → Lays h (λ q. x ∷ g q)
skip p = record { lays = λ r q a. kept-skip (p.lays r q a) }

-- the place in front of a token
pub ahead : {i : ℕ} {h g : List Spot → List Spot} → Lays h g → Lays (λ r. Behind i ∷ h r) (λ q. Token i ∷ g q)
ahead p = record { lays = λ r q a. kept-place (p.lays r q a) }

pub none : Lays (λ r. r) (λ q. q)
none = record { lays = λ r q a. a }

-- one after the other
pub both : {h i g k : List Spot → List Spot} → Lays h g → Lays i k → Lays (λ r. h (i r)) (λ q. g (k q))
both {i = i} {k = k} one two = record { lays = λ r q a. one.lays (i r) (k q) (two.lays r q a) }

-- nothing is kept
pub lays_none : (f : Forest) → Lays (λ r. r) (spots f)
lays_none done = none
lays_none (leaf i kind value f) = skip (lays_none f)
lays_none (place i f) = skip (lays_none f)
lays_none (node n inside f) = both (lays_none inside) (lays_none f)

-- ---- numbers among spots

abbrev strip : List Spot → List ℕ
strip [] = []
strip (Token x ∷ l) = x ∷ strip l
strip (Behind x ∷ l) = strip l

strip-spots : (f : Forest) (q : List Spot) → strip (spots f q) ≡ leaves f (strip q)
strip-spots done q = refl
strip-spots (leaf i kind value f) q = ap (λ z. i ∷ z) (strip-spots f q)
strip-spots (place i f) q = strip-spots f q
strip-spots (node n inside f) q = strip-spots inside (spots f q) ∙ ap (leaves inside) (strip-spots f q)

lifted : (r : List ℕ) (ss : List Spot) → Among r (strip ss) → Kept (tokens r []) ss
lifted _ [] among-none = kept-none
lifted r (Token x ∷ ss) (among-skip h) = kept-skip (lifted r ss h)
lifted _ (Token x ∷ ss) (among-keep {r = r} h) = kept-same (lifted r ss h)
lifted r (Behind x ∷ ss) h = kept-skip (lifted r ss h)

kept_both : (r q r' q' : List Spot) → Kept r q → Kept r' q' → Kept (r ++ r') (q ++ q')
kept_both _ _ r' q' kept-none b = b
kept_both r _ r' q' (kept-skip {q = q} a) b = kept-skip (kept_both r q r' q' a b)
kept_both _ _ r' q' (kept-same {r = r} {q = q} a) b = kept-same (kept_both r q r' q' a b)
kept_both _ _ r' q' (kept-place {r = r} {q = q} a) b = kept-place (kept_both r q r' q' a b)

tokens-append : (r : List ℕ) (l : List Spot) → tokens r l ≡ tokens r [] ++ l
tokens-append [] l = refl
tokens-append (x ∷ r) l = ap (λ z. Token x ∷ z) (tokens-append r l)

append-twice : (a b c : List Spot) → (a ++ b) ++ c ≡ a ++ (b ++ c)
append-twice [] b c = refl
append-twice (x ∷ a) b c = ap (λ z. x ∷ z) (append-twice a b c)

spots-append : (f : Forest) (q : List Spot) → spots f q ≡ spots f [] ++ q
spots-append done q = refl
spots-append (leaf i kind value f) q = ap (λ z. Token i ∷ z) (spots-append f q)
spots-append (place i f) q = ap (λ z. Behind i ∷ z) (spots-append f q)
spots-append (node n inside f) q =
    spots-append inside (spots f q) ∙ ap (λ z. spots inside [] ++ z) (spots-append f q) ∙ sym (append-twice (spots inside []) (spots f []) q) ∙ ap (λ z. z ++ q) (sym (spots-append inside (spots f [])))

-- the tokens of an expression
pub expression_lays : (e : Expression) (f : Forest) → Puts (named e) (leaves f) → Lays (in_expression e) (spots f)
expression_lays e f p = record {
  lays = λ r q a.
      let here = lifted (named e []) (spots f []) (subst (λ z. Among (named e []) z) (sym (strip-spots f [])) (p.puts [] [] among-none)) in
      subst (λ z. Kept z (spots f q)) (sym (tokens-append (named e []) r)) (subst (λ z. Kept (tokens (named e []) [] ++ r) z) (sym (spots-append f q)) (kept_both (tokens (named e []) []) (spots f []) r q here a));
}

-- ---- what was read ascends

pub weaker : (i j : ℕ) (q : List Spot) → i ≤ j → Ascends j q → Ascends i q
weaker i j [] le a = tt
weaker i j (Token x ∷ q) le a = (let low = a.0 in omega (arith, le, low), a.1)
weaker i j (Behind x ∷ q) le a = (let low = a.0 in omega (arith, le, low), a.1)

module _ {most : ℕ} {ws : List Word} where
  pub reads_ascend : {d i j : ℕ} {s : List Symbol} {f : Forest} → Reads most ws d s i f j → (q : List Spot) → Ascends j q → Ascends i (spots f q)
  reads_ascend reads-done q a = a
  reads_ascend (reads-kept {start = i} h r) q a = (let z : i ≤ i = omega arith in z, reads_ascend r q a)
  reads_ascend (reads-mark {start = i} {f = f} h r) q a = weaker i (i + 1) (spots f q) (omega arith) (reads_ascend r q a)
  reads_ascend (reads-any {start = i} {f = f} h r) q a = weaker i (i + 1) (spots f q) (omega arith) (reads_ascend r q a)
  reads_ascend (reads-none h r) q a = reads_ascend r q a
  reads_ascend (reads-here {start = i} r) q a = (let z : i ≤ i = omega arith in z, reads_ascend r q a)
  reads_ascend (reads-part {g = h} b sh r o) q a = reads_ascend r (spots h q) (reads_ascend o q a)
  reads_ascend (reads-skip b may r) q a = reads_ascend r q a

pub kept_ascend : (i : ℕ) (r q : List Spot) → Kept r q → Ascends i q → Ascends i r
kept_ascend i r q kept-none a = tt
kept_ascend i r q (kept-skip {x = Token x} {r = s} {q = p} h) a = kept_ascend i s p h (weaker i (x + 1) p (let low = a.0 in omega (arith, low)) a.1)
kept_ascend i r q (kept-skip {x = Behind x} {r = s} {q = p} h) a = kept_ascend i s p h (weaker i x p a.0 a.1)
kept_ascend i r q (kept-same {x = Token x} {r = s} {q = p} h) a = (a.0, kept_ascend (x + 1) s p h a.1)
kept_ascend i r q (kept-same {x = Behind x} {r = s} {q = p} h) a = (a.0, kept_ascend x s p h a.1)
kept_ascend i r q (kept-place {i = x} {r = s} {q = p} h) a = (a.0, kept_ascend x s p h (weaker x (x + 1) p (omega arith) a.1))

-- ---- what was read is below its end

module _ {most : ℕ} {ws : List Word} where
  pub reads_below : {d i j : ℕ} {s : List Symbol} {f : Forest} → Reads most ws d s i f j → (n : ℕ) → j ≤ n → (q : List Spot) → AllBelow n q → AllBelow n (spots f q)
  reads_below reads-done n le q a = a
  reads_below (reads-kept {start = i} h r) n le q a = (let ahead = reads_ahead most ws r in omega (arith, le, ahead), reads_below r n le q a)
  reads_below (reads-mark h r) n le q a = reads_below r n le q a
  reads_below (reads-any h r) n le q a = reads_below r n le q a
  reads_below (reads-none h r) n le q a = reads_below r n le q a
  reads_below (reads-here r) n le q a = reads_below r n le q a
  reads_below (reads-part {g = h} b sh r o) n le q a = reads_below r n (let ahead = reads_ahead most ws o in omega (arith, le, ahead)) (spots h q) (reads_below o n le q a)
  reads_below (reads-skip b may r) n le q a = reads_below r n le q a

pub kept_below : (n : ℕ) (r q : List Spot) → Kept r q → AllBelow n q → AllBelow n r
kept_below n r q kept-none a = tt
kept_below n r q (kept-skip {x = Token x} {r = s} {q = p} h) a = kept_below n s p h a.1
kept_below n r q (kept-skip {x = Behind x} {r = s} {q = p} h) a = kept_below n s p h a
kept_below n r q (kept-same {x = Token x} {r = s} {q = p} h) a = (a.0, kept_below n s p h a.1)
kept_below n r q (kept-same {x = Behind x} {r = s} {q = p} h) a = kept_below n s p h a
kept_below n r q (kept-place {i = x} {r = s} {q = p} h) a = kept_below n s p h a.1
