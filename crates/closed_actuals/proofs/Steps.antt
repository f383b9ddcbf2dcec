-- What each step does.
use Rattle.std.proofs.Common.{◌≡◌, ℕ, Bool, true, false, List, [], ◌∷◌, ◌++◌, length, Option, Some, None, refl, arith}
use Rattle.std.proofs.lemmas.Bool.Decides.{nat_tests}
use Rattle.std.specs.Prelude.{◌==◌, slice_get}
use Rattle.sim_base.specs.declared.limits.Limits.{Limits}
use Rattle.sim_chains.specs.Chains.{Cut, cut_at}
use Rattle.sim_chains.specs.Components.{AttachedObject, DetachedObject, NoObject, ResumedObject, Standing, TerminatedObject}
use Rattle.sim_scope.specs.Source.{Source}
use Rattle.sim_code.specs.Outcome.{Run, World}
use Rattle.sim_code.specs.Events.{ticking}
use Rattle.sim_code.specs.Instances.{ended_as, going_below, is_given_at_end, main_goes_on, object_ended, system_head}
use Rattle.sim_code.specs.Thunks.{locating}
use Rattle.sim_meaning.specs.Attributes.{parameter_qualification}
use Rattle.sim_meaning.specs.Checks.{copied_for}
use Rattle.sim_meaning.specs.Levels.{levels, stands_in}
use Rattle.sim_meaning.specs.Meaning.{admitted, do_chain, do_item, do_work, evaluated, formal_in_hand, is_place, leaving, program_entered, step, value_given}
use Rattle.sim_meaning.specs.Pending.{Activation, Configuration, Do, EndBlock, EndEvaluation, EndLevel, EndObject, EndPrefixed, EndProcedure, EndProgram, ForParameter, ForPlace, ForValue, Instances, Item, Of, Result, Use, Val, array_in, cell, owner, plain}
use Rattle.sim_meaning.specs.Pending as pending
use Rattle.sim_meaning.specs.Texts.{BlockText, PrefixedText, ProcedureText, Text, text}
use Rattle.closed_actuals.specs.Evaluations.{EndsInstance, of_block, of_prefixed, of_procedure}
use Rattle.closed_actuals.proofs.Adding.{declarations_own, levels_own}
use Rattle.closed_actuals.proofs.Does.{ChainDoes, Does, FirstDoes, ItemDoes, WorkDoes, attached_ends, first_enters, given_if, gives, leaves, level_ends, operator_does, own_end, own_operator, resumed_ends}
use Rattle.code_finite.proofs.Lifts.{Goes, copied_goes, entering_goes, goes_with, having_goes, none, popping_goes, qualifying_goes, stops, ticking_goes, when_knows}
use Rattle.closed_actuals.proofs.Operators.{op_does}

-- ---- ends

-- an instance ends, and the one below goes on
leaving_does : (s : Source) (o : World) (m : Instances) (i : ℕ) (w : List Item) (rest : List Activation) (v : Option Val) (end : Item) → EndsInstance end → Goes (λ _. ItemDoes m i w rest end) (leaving s rest v i o m)
unfolding leaving
leaving_does s o m i w [] v end ends = none (λ _. ItemDoes m i w [] end) o
leaving_does s o m i w (a ∷ rest) v end ends = leaves a rest ends (given_if (is_given_at_end m i) m i) refl

module _ (P : World → Configuration → Type 0) where
  locating_goes : (line : ℕ) (place value_too : Bool) (o : World) (r : Run Configuration) → Goes P r → Goes P (locating line place value_too o r)
  unfolding locating
  locating_goes line true value_too o r x = x
  locating_goes line false true o r x = x
  locating_goes line false false o r x = stops P _ o

  admitted_goes : (s : Source) (m : Instances) (class : Option ℕ) (line : ℕ) (v : Val) (o : World) (r : Run Configuration) → Goes P r → Goes P (admitted s m class line v o r)
  admitted_goes s m None line v o r x = x
  admitted_goes s m (Some k) line v o r x = having_goes P (plain v) o _ (λ p. qualifying_goes P line (stands_in s m k) p o _ x)

-- an evaluation ends, and what is below gets what it asked for
evaluated_does : (s : Source) (l : Limits) (o : World) (m : Instances) (i : ℕ) (w : List Item) (rest : List Activation) (wanted : Use) (v : Val) → Goes (λ _. ItemDoes m i w rest (EndEvaluation wanted)) (evaluated s l o m rest wanted v)
evaluated_does s l o m i w [] wanted v = none (λ _. ItemDoes m i w [] (EndEvaluation wanted)) o
evaluated_does s l o m i w (a ∷ rest) (ForValue class line) v =
    let P : World → Configuration → Type 0 = λ _. ItemDoes m i w (a ∷ rest) (EndEvaluation (ForValue class line)) in
    having_goes P (value_given o m v) o _ (λ u. admitted_goes P s m class line u o _ (gives a rest refl))
evaluated_does s l o m i w (a ∷ rest) (ForPlace value_too line) v = locating_goes (λ _. ItemDoes m i w (a ∷ rest) (EndEvaluation (ForPlace value_too line))) line (is_place v) value_too o _ (gives a rest refl)
evaluated_does s l o m i w (a ∷ rest) (ForParameter number line) v =
    let P : World → Configuration → Type 0 = λ _. ItemDoes m i w (a ∷ rest) (EndEvaluation (ForParameter number line)) in
    having_goes P (formal_in_hand s number a.values) o _ (λ f. having_goes P (value_given o m v) o _ (λ u.
    admitted_goes P s m (parameter_qualification s f.kind f.ty) line u o _ (copied_goes P Of plain pending.ArrayValue array_in l line a.instance (copied_for f) u o _ (λ v p _. gives a rest refl))))

-- an object ends, and what is below goes on
object_does : (l : Limits) (o : World) (m : Instances) (i : ℕ) (w : List Item) (rest : List Activation) → Goes (λ _. ItemDoes m i w rest EndObject) (ticking l o (λ p. object_ended owner p m i rest))
unfolding object_ended
object_does l o m i w rest = ticking_goes (λ _. ItemDoes m i w rest EndObject) l o _ (λ p _ _. by_standing p rest refl (slice_get m.standings i) refl)
  where
    by_below : (p : World) (operating : List Activation) (standings : List (Standing Activation)) → ItemDoes m i w rest EndObject (record { chain = operating; memory = record m { standings = standings } })
        → Goes (λ _. ItemDoes m i w rest EndObject) (going_below p operating (record m { standings = standings }))
    by_below p [] standings a = tt
    by_below p (b ∷ below) standings a = a

    by_main : (p : World) (k : Option (Cut Activation)) (x : Option (Standing Activation)) → slice_get m.standings i ≡ Some ResumedObject → cut_at owner (system_head m i) rest ≡ k → slice_get m.standings (system_head m i) ≡ x
        → Goes (λ _. ItemDoes m i w rest EndObject) (main_goes_on owner p m i (system_head m i) k x)
    by_main p None x is cut at = tt
    by_main p (Some k) None is cut at = tt
    by_main p (Some k) (Some (NoObject None)) is cut at = tt
    by_main p (Some k) (Some (NoObject (Some main))) is cut at = by_below p (main ++ k.here ∷ k.below) _ (resumed_ends k main is cut at)
    by_main p (Some k) (Some AttachedObject) is cut at = tt
    by_main p (Some k) (Some (DetachedObject chain)) is cut at = tt
    by_main p (Some k) (Some ResumedObject) is cut at = tt
    by_main p (Some k) (Some TerminatedObject) is cut at = tt

    by_standing : (p : World) (below : List Activation) → below ≡ rest → (x : Option (Standing Activation)) → slice_get m.standings i ≡ x → Goes (λ _. ItemDoes m i w rest EndObject) (ended_as owner p m i rest x)
    by_standing p below same (Some AttachedObject) is = by_below p rest _ (attached_ends is)
    by_standing p below same None is = tt
    by_standing p below same (Some (NoObject main)) is = tt
    by_standing p below same (Some (DetachedObject chain)) is = tt
    by_standing p below same (Some ResumedObject) is = by_main p (cut_at owner (system_head m i) rest) (slice_get m.standings (system_head m i)) is refl refl
    by_standing p below same (Some TerminatedObject) is = tt

-- ---- one step

module _ (s : Source) (l : Limits) (o : World) (m : Instances) where
  item_does : (i : ℕ) (w : List Item) (vals : List Val) (rest : List Activation) (x : Item) → Goes (λ _. ItemDoes m i w rest x) (do_item s l o m i w vals rest x)
  item_does i w vals rest (Do op) = goes_with (λ _. Does op m i w rest) (λ _. ItemDoes m i w rest (Do op)) (do_item s l o m i w vals rest (Do op)) (λ _ c a. operator_does a) (op_does s l o m i w vals rest op)
  item_does i w vals rest EndBlock = leaving_does s o m i w rest None EndBlock of_block
  item_does i w vals rest (EndProcedure true) = having_goes (λ _. ItemDoes m i w rest (EndProcedure true)) (cell m i Result) o _ (λ v. leaving_does s o m i w rest (Some v) (EndProcedure true) of_procedure)
  item_does i w vals rest (EndProcedure false) = leaving_does s o m i w rest None (EndProcedure false) of_procedure
  item_does i w vals rest (EndLevel k) = level_ends
  item_does i w vals rest EndObject = object_does l o m i w rest
  item_does i w vals rest EndPrefixed = leaving_does s o m i w rest None EndPrefixed of_prefixed
  item_does i w vals rest (EndEvaluation wanted) = popping_goes (λ _. ItemDoes m i w rest (EndEvaluation wanted)) vals o _ (λ v vals. evaluated_does s l o m i w rest wanted v)
  item_does i w vals rest EndProgram = stops (λ _. ItemDoes m i w rest EndProgram) _ o

  work_does : (i : ℕ) (vals : List Val) (rest : List Activation) (w : List Item) → Goes (λ _. WorkDoes m i rest w) (do_work s l o m i vals rest w)
  work_does i vals rest [] = none (λ _. WorkDoes m i rest []) o
  work_does i vals rest (x ∷ w) = item_does i w vals rest x

  program_does : length m.instances ≡ 0 → (x : Option Text) → Goes (λ _. FirstDoes m) (program_entered s l o m x)
  program_does empty None = none (λ _. FirstDoes m) o
  program_does empty (Some (BlockText begin ds ss)) = entering_goes (λ _. FirstDoes m) l _ _ o _ (λ p _ _. first_enters _ refl empty (own_operator (declarations_own s _ (length m.instances) ds (own_operator (own_end refl refl)))))
  program_does empty (Some (ProcedureText result h a)) = none (λ _. FirstDoes m) o
  program_does empty (Some (PrefixedText class arguments ds ss)) = having_goes (λ _. FirstDoes m) (levels s 0) o _ (λ xs. entering_goes (λ _. FirstDoes m) l _ _ o _ (λ p _ _. first_enters _ refl empty (own_operator (levels_own xs EndProgram refl refl))))
  program_does empty (Some _) = none (λ _. FirstDoes m) o

  chain_does : (chain : List Activation) → Goes (λ _. ChainDoes m chain) (do_chain s l o m chain)
  chain_does [] = when_knows (λ _. FirstDoes m) (length m.instances == 0) o _ (λ e. program_does (grind (arith, nat_tests, e)) (text s 0))
  chain_does (a ∷ rest) = work_does a.instance a.values rest a.work

pub step_does : (s : Source) (l : Limits) (o : World) (c : Configuration) → Goes (λ _. ChainDoes c.memory c.chain) (step s l o c)
step_does s l o c = chain_does s l o c.memory c.chain
