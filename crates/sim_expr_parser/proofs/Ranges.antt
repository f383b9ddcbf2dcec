-- A fault inside of an ended source names one of its tokens, since no part but the program takes the end.
use Rattle.std.proofs.Common.{◌≡◌, ◌<◌, ℕ, ◌+◌, ◌-◌, Bool, true, false, List, [], ◌∷◌, length, Some, refl, sym, ap, ◌∙◌, arith, if◌then◌else◌}
use Rattle.std.specs.Prelude.{◌&&◌, not}
use Rattle.std.proofs.lemmas.Bool.{false≢true}
use native.Mathlib.Decide.{dec_lt}
use Rattle.sim_base.specs.declared.token.Token.{Token}
use Rattle.sim_base.specs.declared.token.TokenKind.{TokenKind}
use Rattle.sim_base.specs.declared.token.TokenKind.TheVariants as k
use Rattle.sim_tree.specs.Grammar as g
use Rattle.sim_tree.specs.Grammar.{Part, Times, Once, Maybe, Many, Symbol, Kept, Mark, Any, Here, Of, is, one_of, rows, right_side, is_begun}
use Rattle.sim_tree.specs.Reading.{Forest, kind_at, after, first_of, Reads, reads-done, reads-kept, reads-mark, reads-any, reads-none, reads-here, reads-part, reads-skip, Fails, fails-kept, fails-mark, fails-part, fails-deep, fails-inside, after-kept, after-mark, after-any, after-none, after-here, after-part, after-skip, Fault}
use Rattle.sim_tree.specs.Tree.{IsEnded}
use Rattle.sim_tree.proofs.Follow.{each_row}
use Rattle.sim_tree.proofs.Laws.{fault_at}
use Rattle.sim_tree.proofs.Completion.{row_get, left_true, right_true}

abbrev takes_end : Part → Bool
takes_end g.Program = true
takes_end _ = false

-- no symbol takes the end
abbrev pub stays : List Symbol → Bool
stays [] = true
stays (Kept any ∷ s) = not (one_of any k.EndOfSource) && stays s
stays (Mark a ∷ s) = not (is k.EndOfSource a) && stays s
stays (Any a ∷ s) = not (is k.EndOfSource a) && stays s
stays (Here ∷ s) = stays s
stays (Of times n ∷ s) = not (takes_end n) && stays s

rows_stay : (n : Part) → not (takes_end n) ≡ true → each_row (rows n) stays ≡ true
unfolding is
rows_stay g.Program h = absurd (false≢true h)
rows_stay _ h = refl

right_stays : (n : Part) (a : TokenKind) (right : List Symbol) → not (takes_end n) ≡ true → right_side n a ≡ Some right → stays right ≡ true
unfolding right_side
right_stays n a right h e = row_get (rows n) stays a right (rows_stay n h) e

after_stays : (times : Times) (n : Part) (s : List Symbol) → (not (takes_end n) && stays s) ≡ true → stays (after times n s) ≡ true
after_stays Once n s h = right_true _ _ h
after_stays Maybe n s h = right_true _ _ h
after_stays Many n s h = h

next : {ws : List Token} → IsEnded ws → (p : TokenKind → Bool) (i : ℕ) → not (p k.EndOfSource) ≡ true → p (kind_at ws i) ≡ true → i < length ws → i + 1 < length ws
next {ws} ended p i stay h within = go (dec_lt (i + 1) (length ws))
  where
    at_end : i ≡ length ws - 1 → false ≡ true
    at_end e = sym (ap not (ap p (sym ended.last ∙ ap (kind_at ws) (sym e)) ∙ h)) ∙ stay

    go : Dec (i + 1 < length ws) → i + 1 < length ws
    go (yes le) = le
    go (no n) = absurd (false≢true (at_end (omega (arith, n, within))))

first_within : (ws : List Token) (n : Part) (i : ℕ) → i < length ws → first_of n i < length ws
first_within ws n i w = go (is_begun n) w
  where
    go : (b : Bool) → i < length ws → (if b then i - 1 else i) < length ws
    go true w = omega (arith, w)
    go false w = w

module _ {limit : ℕ} {ws : List Token} (ended : IsEnded ws) where
  pub reads_within : {d i j : ℕ} {s : List Symbol} {f : Forest} → Reads limit ws d s i f j → stays s ≡ true → i < length ws → j < length ws
  reads_within reads-done h w = w
  reads_within (reads-kept {start = i} {any = any} e r) h w = reads_within r (right_true _ _ h) (next ended (one_of any) i (left_true _ _ h) e w)
  reads_within (reads-mark {start = i} {a = a} e r) h w = reads_within r (right_true _ _ h) (next ended (λ x. is x a) i (left_true _ _ h) e w)
  reads_within (reads-any {start = i} {a = a} e r) h w = reads_within r h (next ended (λ x. is x a) i (left_true _ _ h) e w)
  reads_within (reads-none e r) h w = reads_within r (right_true _ _ h) w
  reads_within (reads-here r) h w = reads_within r h w
  reads_within (reads-part {t = times} {n = n} {right = right} {s = s} b sh r q) h w = reads_within q (after_stays times n s h) (reads_within r (right_stays n _ right (left_true _ _ h) b) w)
  reads_within (reads-skip b may r) h w = reads_within r (right_true _ _ h) w

  pub fails_within : {d i : ℕ} {s : List Symbol} {e : Fault} → Fails limit ws d s i e → stays s ≡ true → i < length ws → fault_at e < length ws
  fails_within (fails-kept e) h w = w
  fails_within (fails-mark e) h w = w
  fails_within (fails-part b may) h w = w
  fails_within (fails-deep {start = i} {n = n} b deep) h w = first_within ws n i w
  fails_within (fails-inside {n = n} {right = right} b sh r) h w = fails_within r (right_stays n _ right (left_true _ _ h) b) w
  fails_within (after-kept {start = i} {any = any} e r) h w = fails_within r (right_true _ _ h) (next ended (one_of any) i (left_true _ _ h) e w)
  fails_within (after-mark {start = i} {a = a} e r) h w = fails_within r (right_true _ _ h) (next ended (λ x. is x a) i (left_true _ _ h) e w)
  fails_within (after-any {start = i} {a = a} e r) h w = fails_within r h (next ended (λ x. is x a) i (left_true _ _ h) e w)
  fails_within (after-none e r) h w = fails_within r (right_true _ _ h) w
  fails_within (after-here r) h w = fails_within r h w
  fails_within (after-part {t = times} {n = n} {right = right} {s = s} b sh r q) h w = fails_within q (after_stays times n s h) (reads_within r (right_stays n _ right (left_true _ _ h) b) w)
  fails_within (after-skip b may r) h w = fails_within r (right_true _ _ h) w
