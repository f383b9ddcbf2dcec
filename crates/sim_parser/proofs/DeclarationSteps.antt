-- Parts that one token alone begins, and the rest of a part.
use Rattle.std.proofs.Common.{◌≡◌, ◌<◌, ℕ, Bool, true, false, List, [], ◌∷◌, length, None, Result, refl, sym, ◌∙◌, subst, arith}
use Rattle.std.proofs.lemmas.Bool.{false≢true}
use Rattle.sim_base.specs.declared.token.Token.{Token}
use Rattle.sim_base.specs.declared.token.TokenKind.{TokenKind}
use Rattle.sim_tree.specs.Grammar.{Part, Symbol, At, Kept, Once, one_of, rows, right_side, is_counted}
use Rattle.sim_tree.specs.Reading.{Forest, done, kind_at, Reads, reads-done, reads-kept, Fails, fails-kept, fails-part, after-kept, Fault}
use Rattle.sim_tree.specs.Claim.{one}
use Rattle.sim_tree.specs.Tree.{limit, ReadsPart}
use Rattle.sim_expr_parser.specs.declared.refusal.Stop.{Stop}
use Rattle.sim_expr_parser.specs.declared.refusal.Stop.TheVariants as stop
use Rattle.sim_expr_parser.specs.Parsing.{Stops, ReadsTo}
use Rattle.sim_expr_parser.proofs.Steps.{Within, opened, to, stops-at, passed}
use Rattle.sim_expr_parser.proofs.Tables.{one_row}
use Rattle.sim_parser.specs.Parsing.{ReadsAll, GivesAll, GivesPart}

-- past all the rest of a part
pub gone-all : {ws : List Token} {d i j e m : ℕ} {n : Part} {F : Forest → Forest} {s : List Symbol} {f : Forest} → Within ws d n i F e s j → ReadsAll ws e s j f m
    → (h : Forest) → F f ≡ h → ReadsPart ws d n i h m
gone-all {ws} {d} {i} {j} {e} {m} {n} {F} {s} {f} w r h same = record {
  right = w.right;
  begins = w.begins;
  shallow = w.shallow;
  inside = subst (λ x. Reads limit ws x w.right i h m) (sym w.depth) (subst (λ y. Reads limit ws e w.right i y m) same (w.leads.reads f m r.reads));
  ahead = omega (arith, w.ahead, r.ahead);
  within = r.within;
}

-- no row of a part begins with the next token
pub unexpected : (ws : List Token) (d i : ℕ) (n : Part) (x : Stop) → x ≡ stop.Unexpected i → right_side n (kind_at ws i) ≡ None → Stops ws d (one n) i x
unexpected ws d i n x h none = subst (λ z. Stops ws d (one n) i z) (sym h) (fails-part none refl)

-- where the token that alone begins a part was read, or was to be
pub first-stops : (ws : List Token) (d i : ℕ) (n : Part) (any : List TokenKind) (s : List Symbol) → rows n ≡ At any (Kept any ∷ s) ∷ [] → is_counted n ≡ false → i < length ws
    → (x : Stop) → Stops ws d (Kept any ∷ s) i x → Stops ws d (one n) i x
first-stops ws d i n any s is_row plain within x h = go (one_of any (kind_at ws i)) refl
  where
    missing : {y : Fault} → one_of any (kind_at ws i) ≡ false → Fails limit ws d (Kept any ∷ s) i y → Fails limit ws d (one n) i y
    missing over (fails-kept e) = fails-part (one_row n any (Kept any ∷ s) (kind_at ws i) false is_row over) refl
    missing over (after-kept e r) = absurd (false≢true (sym over ∙ e))

    absent : (y : Stop) → one_of any (kind_at ws i) ≡ false → Stops ws d (Kept any ∷ s) i y → Stops ws d (one n) i y
    absent (stop.Unexpected m) over q = missing over q
    absent (stop.TooDeep m) over q = missing over q
    absent stop.Memory over q = tt

    go : (v : Bool) → one_of any (kind_at ws i) ≡ v → Stops ws d (one n) i x
    go true e = stops-at Once (opened ws d i n (Kept any ∷ s) plain (one_row n any (Kept any ∷ s) (kind_at ws i) true is_row e) within) x h []
    go false e = absent x e h

kept-there : {ws : List Token} {d i j : ℕ} {any : List TokenKind} {s : List Symbol} {f : Forest} → Reads limit ws d (Kept any ∷ s) i f j → one_of any (kind_at ws i) ≡ true
kept-there (reads-kept e r) = e

-- past the token that alone begins a part
pub opened-past : (ws : List Token) (d i j : ℕ) (n : Part) (any : List TokenKind) (s : List Symbol) (G : Forest → Forest) → rows n ≡ At any (Kept any ∷ s) ∷ [] → is_counted n ≡ false → i < length ws
    → ReadsTo ws d (Kept any) i G j → Within ws d n i G d s j
opened-past ws d i j n any s G is_row plain within r =
    to (opened ws d i n (Kept any ∷ s) plain (one_row n any (Kept any ∷ s) (kind_at ws i) true is_row (kept-there (r.reads [] done j reads-done))) within) r

-- a part that one token alone begins, from all its symbols
pub kept-part : {A : Type 0} (ws : List Token) (d i : ℕ) (n : Part) (any : List TokenKind) (s : List Symbol) (view : A → Forest) → rows n ≡ At any (Kept any ∷ s) ∷ [] → is_counted n ≡ false → i < length ws
    → (r : Result (A × ℕ) Stop) → GivesAll ws d (Kept any ∷ s) i view r → GivesPart ws d n i view r
kept-part {A} ws d i n any s view is_row plain within r h =
    passed (GivesAll ws d (Kept any ∷ s) i view) (GivesPart ws d n i view)
    (λ x p. gone-all (opened ws d i n (Kept any ∷ s) plain (one_row n any (Kept any ∷ s) (kind_at ws i) true is_row (kept-there p.reads)) within) p (view x.0) refl)
    (λ e p. first-stops ws d i n any s is_row plain within e p) r h
