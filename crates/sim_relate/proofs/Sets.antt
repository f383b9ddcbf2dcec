-- The procedures of SIMSET: both sides do the same on the same linkages.
use Rattle.std.proofs.Common.{◌≡◌, ℕ, Bool, true, false, List, ◌∷◌, Option, Some, None, refl, ap, sym, ◌∙◌}
use Rattle.std.specs.Prelude.{if◌then◌else◌, pos}
use Rattle.sim_base.specs.declared.limits.Limits.{Limits}
use Rattle.sim_scope.specs.Source.{Source}
use Rattle.sim_values.specs.declared.standard.Standard.{Standard}
use Rattle.sim_values.specs.Plain.{Plain}
use Rattle.sim_values.specs.Standard.{row_of}
use Rattle.sim_code.specs.declared.instr.Instr.TheVariants as i
use Rattle.sim_code.specs.Code.{CodeOf}
use Rattle.sim_code.specs.Outcome.{Run, World}
use Rattle.sim_code.specs.Events.{choosing, having}
use Rattle.sim_code.specs.Machine.{Frames, Machine, Value}
use Rattle.sim_code.specs.Machine as machine
use Rattle.sim_code.specs.Rows.{on_top, standard_of}
use Rattle.sim_code.specs.Simulations.{named_in}
use Rattle.sim_code.specs.Sets.{SetEffect, is_set_name, linkage_given, linkage_named, parameter_count, performing_set, pop_given, set_effect, takes_linkage}
use Rattle.sim_code.proofs.Lifts.{alike_found, alike_no_rule, alike_same}
use Rattle.sim_code.proofs.Simulation.{Alike}
use Rattle.sim_meaning.specs.Meaning.{do_op}
use Rattle.sim_meaning.specs.Pending.{Activation, Configuration, Instances, Item, SetOp, Val}
use Rattle.sim_meaning.specs.Pending as meaning
use Rattle.sim_relate.proofs.Calls.{left_with}
use Rattle.sim_relate.proofs.Hands.{Goes, hand_plain}
use Rattle.sim_relate.proofs.Here.{Here, act, at_row, kinds_as}
use Rattle.sim_relate.proofs.Known.{Any, HandAt, Kind, Runs, StackAt, anys, site_at, Settled}
use Rattle.sim_relate.proofs.Operators.{chosen, onward, same_plain}
use Rattle.sim_relate.proofs.Pending.{anys_more}
use Rattle.sim_relate.proofs.Relation.{ChainAt, OpAt, StateAt, WorkAt}
use Rattle.sim_relate.proofs.SetNames.{set_valued}

module _ (S M : Type 0) (R : S → M → Type 0) (V X : Type 0) (W : Kind → V → X → Type 0) (plain : V → Option Plain) (plain' : X → Option Plain) (same : (v : V) (x : X) → W Any v x → plain v ≡ plain' x) where
  -- alike with what is left
  abbrev Leaves : {A : Type 0} → List Kind → (A → List V → Run S) → (A → List X → Run M) → Type 0
  Leaves {A} left r q = Goes S M R V X W plain plain' same {A = A} left r q

  -- the actual parameter, if there is one
  hand_given : (takes : Bool) (left : List Kind) (vals : List V) (stack : List X) (o : World) (r : Option ℕ → List V → Run S) (q : Option ℕ → List X → Run M) → StackAt W (anys (if takes then 1 else 0) left) vals stack → Leaves left r q → Alike R (pop_given plain takes vals o r) (pop_given plain' takes stack o q)
  unfolding pop_given
  hand_given false left vals stack o r q h a = a None vals stack h
  hand_given true left vals stack o r q h a =
      hand_plain S M R V X W plain plain' same left vals stack o _ _ h
      (λ p vals' stack' h'. alike_same S M R (Option ℕ) (linkage_given o.members p) o (λ x. r x vals') (λ x. q x stack') (λ x. a x vals' stack' h'))

  effected : (x : Option SetEffect) (o : World) (r : SetEffect → Run S) (q : SetEffect → Run M) → ((e : SetEffect) → x ≡ Some e → Alike R (r e) (q e)) → Alike R (having x o r) (having x o q)
  unfolding having
  effected None o r q f = alike_no_rule S M R o
  effected (Some e) o r q f = f e refl

  pub hand_set : (name : Standard) (left : List Kind) (vals : List V) (stack : List X) (o : World) (r : World → Option Plain → List V → Run S) (q : World → Option Plain → List X → Run M) → StackAt W (anys (parameter_count name) (Any ∷ left)) vals stack
      → ((e : SetEffect) (x : ℕ) (given : Option ℕ) (vals' : List V) (stack' : List X) → set_effect name (named_in o.simulations) o.members x given ≡ Some e → StackAt W left vals' stack' → Alike R (r (record o { members = e.members }) e.value vals') (q (record o { members = e.members }) e.value stack'))
      → Alike R (performing_set plain name vals o r) (performing_set plain' name stack o q)
  unfolding performing_set
  hand_set name left vals stack o r q h a =
      hand_given (takes_linkage name) (Any ∷ left) vals stack o _ _ h (λ given vals1 stack1 h1.
      hand_plain S M R V X W plain plain' same left vals1 stack1 o _ _ h1 (λ p vals2 stack2 h2.
      alike_same S M R ℕ (linkage_named o.members p) o _ _ (λ x.
      effected (set_effect name (named_in o.simulations) o.members x given) o _ _ (λ e is. a e x given vals2 stack2 is h2))))

module _ (s : Source) (code : CodeOf) (l : Limits) (o : World) (m : Instances) (inst : ℕ) (w : List Item) (vals : List Val) (rest : List Activation) (fs : Frames) (t : ℕ) (b : Runs) (pc : ℕ) (stack : List Value) (below : List machine.Activation) (ks : List Kind) (here : Here s code m fs inst rest t b ks vals stack) (u q : ℕ) (ks' : List Kind) (low : Settled s code t b u) (k : WorkAt s code m fs (λ v. ChainAt s code m fs rest v below) inst t b u w q ks') where
  abbrev R : Configuration → Machine → Type 0
  R = StateAt s code

  as_set : (c : Bool) (r : Run Configuration) (x y : Run Machine) → c ≡ true → Alike R r x → Alike R r (choosing c x y)
  unfolding choosing
  as_set c r x y e h = chosen (λ z. Alike R r z) c x y e h

  pub set_op : (name : Standard) → OpAt s code m fs inst (site_at t b u) (SetOp name) pc q ks ks' → Alike R (do_op s l o m inst w vals rest (SetOp name)) (on_top code l o fs (act inst pc stack b) below)
  set_op name a =
      let x = a.is in
      let done = x.done in
      let before : ks ≡ anys (parameter_count name) (Any ∷ a.left) = a.«in» ∙ ap (λ n. anys n a.left) x.as_many ∙ sym (anys_more (parameter_count name) a.left) in
      at_row s code l o fs (act inst pc stack b) below _ (i.Std (pos x.number)) done.line q done.is
      (alike_found Configuration Machine R Standard (standard_of (pos x.number)) name o _ _ x.numbered
      (as_set (is_set_name name) _ _ _ x.is_name
      (hand_set Configuration Machine R Val Value (HandAt s code m) meaning.plain machine.plain same_plain name a.left vals stack o _ _ (kinds_as s code before here.values)
      (λ e j given vals' stack' is h.
      let hs = left_with s code l o m inst w vals rest fs t b pc stack below ks here u q ks' low k e.value (row_of name).result a.left vals' stack' (set_valued name (named_in o.simulations) o.members j given e is) a.out h in
      onward s code l o m inst w vals rest fs t b pc stack below ks here u q ks' low k hs refl done.is.on))))
