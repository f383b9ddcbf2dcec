-- In what the grammar gives, no part lacks its token.
use Rattle.std.proofs.Common.{◌≡◌, ℕ, Bool, true, false, List, [], ◌∷◌, Some, refl}
use Rattle.std.proofs.lemmas.Bool.{false≢true}
use Rattle.std.specs.Prelude.{◌&&◌, not}
use Rattle.sim_base.specs.declared.token.Token.{Token}
use Rattle.sim_tree.specs.Grammar as g
use Rattle.sim_tree.specs.Grammar.{Part, Once, Maybe, Many, Symbol, Kept, Mark, Any, Here, Of, rows, right_side}
use Rattle.sim_tree.specs.Reading.{Forest, kind_at, Reads, reads-done, reads-kept, reads-mark, reads-any, reads-none, reads-here, reads-part, reads-skip}
use Rattle.sim_tree.specs.Tree.{is_bare}
use Rattle.sim_tree.specs.Nesting.{has_token, is_full}
use Rattle.sim_tree.proofs.Follow.{each_row}
use Rattle.sim_tree.proofs.Completion.{row_get}

-- the symbols keep a token or have a part, or have a place
abbrev solid : Bool → List Symbol → Bool
solid places [] = false
solid places (Kept any ∷ s) = true
solid places (Mark a ∷ s) = solid places s
solid places (Any a ∷ s) = solid places s
solid places (Here ∷ s) = places
solid places (Of Once n ∷ s) = true
solid places (Of Maybe n ∷ s) = solid places s
solid places (Of Many n ∷ s) = solid places s

abbrev fitting : Part → List Symbol → Bool
fitting g.AfterDeclaration s = true
fitting g.Heading s = true
fitting g.AfterFirstOperand s = true
fitting g.Statement s = solid true s
fitting g.ForList (Kept any ∷ s) = solid false s
fitting g.ForList s = false
fitting g.ArraySegment (Of Once names ∷ Mark opening ∷ s) = solid false s
fitting g.ArraySegment s = false
fitting _ s = solid false s

rows_fit : (n : Part) → each_row (rows n) (fitting n) ≡ true
rows_fit g.Expression = refl
rows_fit _ = refl

module _ {most : ℕ} {ws : List Token} where
  token : {d i j : ℕ} {s : List Symbol} {f : Forest} → solid false s ≡ true → Reads most ws d s i f j → not (is_bare f) ≡ true
  token e reads-done = absurd (false≢true e)
  token e (reads-kept h r) = refl
  token e (reads-mark h r) = token e r
  token e (reads-any h r) = token e r
  token e (reads-none h r) = token e r
  token e (reads-here r) = absurd (false≢true e)
  token e (reads-part b sh r q) = refl
  token e (reads-skip {t = Once} b may r) = absurd (false≢true may)
  token e (reads-skip {t = Maybe} b may r) = token e r
  token e (reads-skip {t = Many} b may r) = token e r

  placed : {d i j : ℕ} {s : List Symbol} {f : Forest} → solid true s ≡ true → Reads most ws d s i f j → has_token g.Statement f ≡ true
  placed e reads-done = absurd (false≢true e)
  placed e (reads-kept h r) = refl
  placed e (reads-mark h r) = placed e r
  placed e (reads-any h r) = placed e r
  placed e (reads-none h r) = placed e r
  placed e (reads-here r) = refl
  placed e (reads-part b sh r q) = refl
  placed e (reads-skip {t = Once} b may r) = absurd (false≢true may)
  placed e (reads-skip {t = Maybe} b may r) = placed e r
  placed e (reads-skip {t = Many} b may r) = placed e r

  part_token : {d i j : ℕ} (n : Part) {s : List Symbol} {f : Forest} → fitting n s ≡ true → Reads most ws d s i f j → has_token n f ≡ true
  part_token g.AfterDeclaration e r = refl
  part_token g.Heading e r = refl
  part_token g.AfterFirstOperand e r = refl
  part_token g.Statement e r = placed e r
  part_token g.ForList e (reads-kept h r) = token e r
  part_token g.ForList e reads-done = absurd (false≢true e)
  part_token g.ForList e (reads-mark h r) = absurd (false≢true e)
  part_token g.ForList e (reads-any h r) = absurd (false≢true e)
  part_token g.ForList e (reads-none h r) = absurd (false≢true e)
  part_token g.ForList e (reads-here r) = absurd (false≢true e)
  part_token g.ForList e (reads-part b sh r q) = absurd (false≢true e)
  part_token g.ForList e (reads-skip b may r) = absurd (false≢true e)
  part_token g.ArraySegment {s = Of Once names ∷ Mark opening ∷ s} e (reads-part b sh r (reads-mark h q)) = token e q
  part_token g.ArraySegment {s = Of Once names ∷ Mark opening ∷ s} e (reads-skip b may r) = absurd (false≢true may)
  part_token g.ArraySegment {s = Of Once names ∷ Kept any ∷ s} e r = absurd (false≢true e)
  part_token g.ArraySegment {s = Of Once names ∷ Any a ∷ s} e r = absurd (false≢true e)
  part_token g.ArraySegment {s = Of Once names ∷ Here ∷ s} e r = absurd (false≢true e)
  part_token g.ArraySegment {s = Of Once names ∷ Of t n ∷ s} e r = absurd (false≢true e)
  part_token g.ArraySegment {s = Of Once names ∷ []} e r = absurd (false≢true e)
  part_token g.ArraySegment {s = Of Maybe names ∷ s} e r = absurd (false≢true e)
  part_token g.ArraySegment {s = Of Many names ∷ s} e r = absurd (false≢true e)
  part_token g.ArraySegment {s = []} e r = absurd (false≢true e)
  part_token g.ArraySegment {s = Kept any ∷ s} e r = absurd (false≢true e)
  part_token g.ArraySegment {s = Mark a ∷ s} e r = absurd (false≢true e)
  part_token g.ArraySegment {s = Any a ∷ s} e r = absurd (false≢true e)
  part_token g.ArraySegment {s = Here ∷ s} e r = absurd (false≢true e)
  part_token _ e r = token e r

right_fits : (n : Part) (ws : List Token) (i : ℕ) (right : List Symbol) → right_side n (kind_at ws i) ≡ Some right → fitting n right ≡ true
unfolding right_side
right_fits n ws i right e = row_get (rows n) (fitting n) (kind_at ws i) right (rows_fit n) e

pub all_true : (a b c : Bool) → a ≡ true → b ≡ true → c ≡ true → (a && b && c) ≡ true
all_true true true c x y z = z
all_true true false c x y z = absurd (false≢true y)
all_true false b c x y z = absurd (false≢true x)

module _ {most : ℕ} {ws : List Token} where
  pub reads_full : {d i j : ℕ} {s : List Symbol} {f : Forest} → Reads most ws d s i f j → is_full f ≡ true
  reads_full reads-done = refl
  reads_full (reads-kept h r) = reads_full r
  reads_full (reads-mark h r) = reads_full r
  reads_full (reads-any h r) = reads_full r
  reads_full (reads-none h r) = reads_full r
  reads_full (reads-here r) = reads_full r
  reads_full (reads-part {start = i} {n = n} {right = right} {f = f} {g = g} b sh r q) =
      all_true (has_token n f) (is_full f) (is_full g) (part_token n (right_fits n ws i right b) r) (reads_full r) (reads_full q)
  reads_full (reads-skip b k r) = reads_full r
