-- Steps over semicolons.
use Rattle.std.proofs.Common.{◌≡◌, ◌≤◌, ◌<◌, ℕ, ◌+◌, Bool, true, false, List, [], ◌∷◌, length, Some, None, Ok, Err, refl, subst, sym, ap, ◌∙◌, arith, if◌then◌else◌}
use Rattle.std.specs.Prelude.{◌||◌}
use Rattle.sim_base.specs.declared.token.Token.{Token}
use Rattle.sim_base.specs.declared.token.TokenKind.{TokenKind}
use Rattle.sim_base.specs.declared.token.TokenKind.TheVariants as k
use Rattle.sim_tree.specs.Grammar as g
use Rattle.sim_tree.specs.Grammar.{Symbol, Mark, Any, Of, Once, is, right_side}
use Rattle.sim_tree.specs.Reading.{Forest, done, node, kind_at, reads-none, after-none, fails-part}
use Rattle.sim_tree.proofs.Steps.{Leads, start, past-any}
use Rattle.sim_expr_parser.specs.declared.refusal.Stop.TheVariants as stop
use Rattle.sim_expr_parser.specs.Parsing.{ReadsTo}
use Rattle.sim_expr_parser.proofs.Steps.{opened, to, gone, once, marked, leads-stops}
use Rattle.sim_parser.specs.Parsing.{Closes}

-- the semicolons from i up to j are taken, and there may be more
abbrev pub Skips : List Token → ℕ → ℕ → ℕ → Type 0
Skips ws d i j = (s : List Symbol) → Leads ws d (Any k.Semicolon ∷ s) i (λ f. f) d (Any k.Semicolon ∷ s) j

module _ {ws : List Token} {d i : ℕ} where
  pub skips-more : {j m : ℕ} → Skips ws d i j → is (kind_at ws j) k.Semicolon ≡ true → m ≡ j + 1 → Skips ws d i m
  skips-more l h e s = subst (λ z. Leads ws d (Any k.Semicolon ∷ s) i (λ f. f) d (Any k.Semicolon ∷ s) z) (sym e) (past-any (l s) h)

  pub skips-end : {j : ℕ} → Skips ws d i j → is (kind_at ws j) k.Semicolon ≡ false → i ≤ j → j < length ws → ReadsTo ws d (Any k.Semicolon) i (λ f. f) j
  skips-end l h ahead within = record {
    reads = λ s f m q. (l s).reads f m (reads-none h q);
    fails = λ s e q. (l s).fails e (after-none h q);
    ahead = ahead;
    within = within;
  }

pub to-leads : {ws : List Token} {d i j : ℕ} {first : Symbol} {G : Forest → Forest} → ReadsTo ws d first i G j → (s : List Symbol) → Leads ws d (first ∷ s) i G d s j
to-leads r s = record { reads = λ f m q. r.reads s f m q; fails = λ e q. r.fails s e q }

-- What ends a declaration.
abbrev semicolon_row : List Symbol
semicolon_row = Mark k.Semicolon ∷ []

closing : (a : TokenKind) (v w : Bool) → is a k.Semicolon ≡ v → is a k.End ≡ w
    → right_side g.AfterDeclaration a ≡ (if v || false then Some semicolon_row else (if w || false then Some [] else None))
unfolding right_side
closing a v w h e =
    ap (λ x. if x || false then Some semicolon_row else (if is a k.End || false then Some [] else None)) h
    ∙ ap (λ x. if v || false then Some semicolon_row else (if x || false then Some [] else None)) e

closed : {ws : List Token} {d i m j : ℕ} → ReadsTo ws d (Of Once g.AfterDeclaration) i (node g.AfterDeclaration done) m → ReadsTo ws d (Any k.Semicolon) m (λ f. f) j → Closes ws d i (Ok j)
closed c r = (
  omega (arith, c.ahead, r.ahead),
  r.within,
  λ s f m q. c.reads (Any k.Semicolon ∷ s) f m (r.reads s f m q),
  λ s e q. leads-stops (to-leads c (Any k.Semicolon ∷ s)) e (leads-stops (to-leads r s) e q),
)

pub closed-by-semicolon : (ws : List Token) (d i m j : ℕ) → (is (kind_at ws i) k.Semicolon ≡ true) × (m ≡ i + 1) × (m < length ws) → i < length ws → ReadsTo ws d (Any k.Semicolon) m (λ f. f) j → Closes ws d i (Ok j)
closed-by-semicolon ws d i m j w within r =
    closed (once (gone (to (opened ws d i g.AfterDeclaration semicolon_row refl (closing (kind_at ws i) true (is (kind_at ws i) k.End) w.0 refl) within) (marked w)) done refl)) r

pub closed-by-end : (ws : List Token) (d i : ℕ) → is (kind_at ws i) k.Semicolon ≡ false → is (kind_at ws i) k.End ≡ true → i < length ws → Closes ws d i (Ok i)
closed-by-end ws d i n e within =
    closed (once (gone (opened ws d i g.AfterDeclaration [] refl (closing (kind_at ws i) false true n e) within) done refl))
    (skips-end (λ s. start d (Any k.Semicolon ∷ s) i) n (omega arith) within)

pub not-closed : (ws : List Token) (d i : ℕ) → is (kind_at ws i) k.Semicolon ≡ false → is (kind_at ws i) k.End ≡ false → Closes ws d i (Err (stop.Unexpected i))
not-closed ws d i n e s = fails-part (closing (kind_at ws i) false false n e) refl
