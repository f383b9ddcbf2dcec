-- An expression begins with a token that the tree keeps.
use Rattle.std.proofs.Common.{◌≡◌, ℕ, Bool, true, false, List, [], ◌∷◌, Some, refl, sym, ap, ◌∙◌}
use Rattle.std.proofs.lemmas.Bool.{false≢true}
use Rattle.std.specs.Prelude.{◌&&◌, ◌||◌, not}
use Rattle.sim_base.specs.declared.token.Token.{Token}
use Rattle.sim_tree.specs.Grammar as g
use Rattle.sim_tree.specs.Grammar.{Part, Once, Maybe, Many, Symbol, Kept, Mark, Any, Here, Of, rows, right_side}
use Rattle.sim_tree.specs.Reading.{Forest, kind_at, Reads, reads-done, reads-kept, reads-mark, reads-any, reads-none, reads-here, reads-part, reads-skip}
use Rattle.sim_tree.specs.Tree.{first_leaf}
use Rattle.sim_tree.proofs.Follow.{each_row}
use Rattle.sim_tree.proofs.Completion.{row_get, left_true, right_true}

-- the parts that a kept token begins
abbrev leading : Part → Bool
leading g.Expression = true
leading g.SimpleExpression = true
leading g.AndThen = true
leading g.Equivalence = true
leading g.Implication = true
leading g.Disjunction = true
leading g.Conjunction = true
leading g.Negation = true
leading g.NotSign = true
leading g.Relation = true
leading g.Concatenation = true
leading g.Sum = true
leading g.LeadingSign = true
leading g.Term = true
leading g.Factor = true
leading g.Postfix = true
leading g.Primary = true
leading _ = false

abbrev pub leads : List Symbol → Bool
leads [] = false
leads (Kept any ∷ s) = true
leads (Of Once n ∷ s) = leading n
leads (Of Maybe n ∷ s) = leading n && leads s
leads (Of Many n ∷ s) = leading n && leads s
leads (_ ∷ s) = false

rows_lead : (n : Part) → (not (leading n) || each_row (rows n) leads) ≡ true
rows_lead g.Expression = refl
rows_lead _ = refl

inside_leads : (n : Part) (ws : List Token) (i : ℕ) (right : List Symbol) → leading n ≡ true → right_side n (kind_at ws i) ≡ Some right → leads right ≡ true
unfolding right_side
inside_leads n ws i right h e = row_get (rows n) leads (kind_at ws i) right (sym (ap (λ b. not b || each_row (rows n) leads) h) ∙ rows_lead n) e

module _ {most : ℕ} {ws : List Token} where
  pub first_kept : {d i j : ℕ} {s : List Symbol} {f : Forest} → leads s ≡ true → Reads most ws d s i f j → first_leaf f ≡ Some i
  first_kept e reads-done = absurd (false≢true e)
  first_kept e (reads-kept h r) = refl
  first_kept e (reads-mark h r) = absurd (false≢true e)
  first_kept e (reads-any h r) = absurd (false≢true e)
  first_kept e (reads-none h r) = absurd (false≢true e)
  first_kept e (reads-here r) = absurd (false≢true e)
  first_kept e (reads-part {start = i} {t = Once} {n = n} {right = right} b sh r q) = first_kept (inside_leads n ws i right e b) r
  first_kept e (reads-part {start = i} {t = Maybe} {n = n} {right = right} {s = s} b sh r q) = first_kept (inside_leads n ws i right (left_true (leading n) (leads s) e) b) r
  first_kept e (reads-part {start = i} {t = Many} {n = n} {right = right} {s = s} b sh r q) = first_kept (inside_leads n ws i right (left_true (leading n) (leads s) e) b) r
  first_kept e (reads-skip {t = Once} b may r) = absurd (false≢true may)
  first_kept e (reads-skip {t = Maybe} {n = n} {s = s} b may r) = first_kept (right_true (leading n) (leads s) e) r
  first_kept e (reads-skip {t = Many} {n = n} {s = s} b may r) = first_kept (right_true (leading n) (leads s) e) r

pub expr_leads : {most : ℕ} {ws : List Token} {d i j : ℕ} {right : List Symbol} {f : Forest} → right_side g.Expression (kind_at ws i) ≡ Some right → Reads most ws d right i f j → first_leaf f ≡ Some i
expr_leads {ws = ws} {i = i} {right = right} b r = first_kept (inside_leads g.Expression ws i right refl b) r
