-- The exits of a `?`: where symbols end that were read up to a place at which one of them stops.
use Rattle.std.proofs.Common.{◌≡◌, ◌<◌, ℕ, ◌+◌, true, false, List, [], ◌∷◌, length, Some, Result, subst}
use Rattle.std.specs.Result.{IsErrAnd}
use Rattle.sim_base.specs.declared.token.Token.{Token}
use Rattle.sim_base.specs.declared.token.TokenKind.{TokenKind}
use Rattle.sim_tree.specs.Grammar.{Part, Symbol, Kept, Mark, Of, Once, just, is, right_side, is_counted}
use Rattle.sim_tree.specs.Reading.{Forest, kind_at, Fails, Unexpected, TooDeep, after-kept}
use Rattle.sim_tree.specs.Claim.{one}
use Rattle.sim_tree.specs.Tree.{limit, ReadsPart}
use Rattle.sim_expr_parser.specs.declared.refusal.Stop.{Stop}
use Rattle.sim_expr_parser.specs.declared.refusal.Stop.TheVariants as stop
use Rattle.sim_expr_parser.specs.Parsing.{Stops, ReadsTo}
use Rattle.sim_expr_parser.proofs.Steps.{exit, kept-stops, mark-stops, marked, once, once-stops, opened, stops-at}
use Rattle.sim_expr_parser.proofs.Tables.{just_is}
use Rattle.sim_parser.specs.Parsing.{GivesAll, GivesPart}

-- Reading these symbols from i on ends so. It says the same as Stops, by a name that does not compute.
pub record Ends (ws : List Token) (d : ℕ) (s : List Symbol) (i : ℕ) (x : Stop) : Type 0 where
  pub stops : Stops ws d s i x

module _ {ws : List Token} {d i : ℕ} {x : Stop} where
  -- here
  pub rest : {s : List Symbol} → Stops ws d s i x → Ends ws d s i x
  rest h = record { stops = h }

  pub here : {first : Symbol} {s : List Symbol} → ((s : List Symbol) → Stops ws d (first ∷ s) i x) → Ends ws d (first ∷ s) i x
  here {s = s} h = rest (h s)

  pub here_part : {n : Part} {s : List Symbol} → Stops ws d (one n) i x → Ends ws d (Of Once n ∷ s) i x
  here_part {n} {s} h = rest (once-stops ws d i n x h s)

  pub here_mark : {a : TokenKind} {s : List Symbol} → (is (kind_at ws i) a ≡ false) × (x ≡ stop.Unexpected i) → Ends ws d (Mark a ∷ s) i x
  here_mark {a} {s} h = rest (mark-stops ws d i a x h s)

  pub here_kept : {a : TokenKind} {s : List Symbol} → (is (kind_at ws i) a ≡ false) × (x ≡ stop.Unexpected i) → Ends ws d (Kept (just a) ∷ s) i x
  here_kept {a} {s} h = rest (kept-stops ws d i (just a) x (just_is _ _ _ h.0) h.1 s)

  -- further on
  pub past_to : {first : Symbol} {s : List Symbol} {G : Forest → Forest} {j : ℕ} → ReadsTo ws d first i G j → Ends ws d s j x → Ends ws d (first ∷ s) i x
  past_to {first} {s} {G} {j} r h = rest (go x h.stops)
    where
      go : (y : Stop) → Stops ws d s j y → Stops ws d (first ∷ s) i y
      go (stop.Unexpected m) q = r.fails s (Unexpected m) q
      go (stop.TooDeep m) q = r.fails s (TooDeep m) q
      go stop.Memory q = tt

  pub past_part : {n : Part} {s : List Symbol} {f : Forest} {j : ℕ} → ReadsPart ws d n i f j → Ends ws d s j x → Ends ws d (Of Once n ∷ s) i x
  past_part r h = past_to (once r) h

  pub past_mark : {a : TokenKind} {s : List Symbol} {j : ℕ} → (is (kind_at ws i) a ≡ true) × (j ≡ i + 1) × (j < length ws) → Ends ws d s j x → Ends ws d (Mark a ∷ s) i x
  past_mark w h = past_to (marked w) h

  pub past_kept : {a : TokenKind} {s : List Symbol} {j : ℕ} → (is (kind_at ws i) a ≡ true) × (j ≡ i + 1) × (j < length ws) → Ends ws d s j x → Ends ws d (Kept (just a) ∷ s) i x
  past_kept {a} {s} {j} w h = rest (go x h.stops)
    where
      go : (y : Stop) → Stops ws d s j y → Stops ws d (Kept (just a) ∷ s) i y
      go (stop.Unexpected m) q = after-kept (just_is _ _ _ w.0) (subst (λ z. Fails limit ws d s z (Unexpected m)) w.1 q)
      go (stop.TooDeep m) q = after-kept (just_is _ _ _ w.0) (subst (λ z. Fails limit ws d s z (TooDeep m)) w.1 q)
      go stop.Memory q = tt

-- out of a function that reads all that is left inside a part
pub out : {A : Type 0} (ws : List Token) (d : ℕ) (s : List Symbol) (i : ℕ) (view : A → Forest) (r : Result (A × ℕ) Stop) (e : Stop) → IsErrAnd r (λ y. y ≡ e) → Ends ws d s i e → GivesAll ws d s i view r
out ws d s i view r e h q = exit (λ z. GivesAll ws d s i view z) r e h q.stops

-- out of one that reads a part
pub out_part : {A : Type 0} (ws : List Token) (d i : ℕ) (n : Part) (right : List Symbol) → is_counted n ≡ false → right_side n (kind_at ws i) ≡ Some right → i < length ws
    → (view : A → Forest) (r : Result (A × ℕ) Stop) (e : Stop) → IsErrAnd r (λ y. y ≡ e) → Ends ws d right i e → GivesPart ws d n i view r
out_part ws d i n right plain begins within view r e h q = exit (λ z. GivesPart ws d n i view z) r e h (stops-at Once (opened ws d i n right plain begins within) e q.stops [])
