-- The value of a constant of an object: it is pushed in place of the object.
use Rattle.std.proofs.Common.{◌≡◌, ℕ, List, ◌∷◌, length, Option, Some, None, ⊎_elim, refl, sym, ap, ◌∙◌, subst}
use Rattle.sim_base.specs.declared.limits.Limits.{Limits}
use Rattle.sim_scope.specs.Source.{Source}
use Rattle.sim_values.specs.Plain.{Plain}
use Rattle.sim_code.specs.declared.instr.Instr.TheVariants as i
use Rattle.sim_code.specs.Code.{CodeOf}
use Rattle.sim_code.specs.Outcome.{Run, World}
use Rattle.sim_code.specs.Events.{having, popping}
use Rattle.sim_code.specs.Machine.{Frames, Machine, Value}
use Rattle.sim_code.specs.Machine as machine
use Rattle.sim_code.specs.Rows.{mstep}
use Rattle.sim_code.proofs.Simulation.{Alike}
use Rattle.sim_code.proofs.Lifts.{alike_unruled}
use Rattle.sim_meaning.specs.Meaning.{do_op}
use Rattle.sim_meaning.specs.Objects.{constant_cell}
use Rattle.sim_meaning.specs.Pending.{Activation, Configuration, Declared, FetchOp, Instances, Item, Val, cell, place_in}
use Rattle.sim_meaning.specs.Pending as meaning
use Rattle.sim_meaning.specs.Steps.{go}
use Rattle.sim_meaning.specs.Steps as steps
use Rattle.sim_meaning.specs.Texts.{constant_of}
use Rattle.codegen_expr.specs.CodeExpr.{GivenAt}
use Rattle.codegen.specs.Compiled.{Compiled}
use Rattle.sim_relate.proofs.Hands.{stack_length}
use Rattle.sim_relate.proofs.Here.{Here, kinds_as}
use Rattle.sim_relate.proofs.Known.{Any, FixedIs, FixedOf, HandAt, Kind, Runs, StackAt, more_at, plain_at, site_at, Settled}
use Rattle.sim_relate.proofs.Operators.{onward}
use Rattle.sim_relate.proofs.Ranked.{Follows, InEach, Meets, at_once, caught, in_steps, simply}
use Rattle.sim_relate.proofs.Relation.{ChainAt, StateAt, WorkAt}
use Rattle.sim_relate.proofs.Silent.{dropped_row, matched, place_at, plain_pushed, silent}
use Rattle.sim_relate.proofs.Stores.{constant_read}
use Rattle.sim_relate.proofs.Trees.{ConstantPushed, FetchesAt}

module _ (s : Source) (code : CodeOf) (coding : Compiled s code) (l : Limits) (o : World) (m : Instances) (inst : ℕ) (w : List Item) (vals : List Val) (rest : List Activation) (fs : Frames) (t : ℕ) (b : Runs) (pc : ℕ) (stack : List Value) (below : List machine.Activation) (ks : List Kind) (here : Here s code m fs inst rest t b ks vals stack) (u q : ℕ) (ks' : List Kind) (low : Settled s code t b u) (k : WorkAt s code m fs (λ v. ChainAt s code m fs rest v below) inst t b u w q ks') where
  abbrev R : Configuration → Machine → Type 0
  R = StateAt s code

  abbrev at : ℕ → List Value → Machine
  at p stack' = place_at code l inst b below p stack' fs

  abbrev fetching : Val → List Val → Run Configuration
  fetching v vals' = having (place_in v) o (λ p. having (steps.value_at o m p) o (λ v. go o m inst w (v ∷ vals') rest))

  module _ (d : ℕ) (left : List Kind) (out : ks' ≡ Any ∷ left) (a : ConstantPushed s code (site_at t b u) (length left) d pc q) (v : Val) (x : Value) (vals' : List Val) (stack' : List Value) (h : FixedIs s m d v x) (hs : StackAt (HandAt s code m) left vals' stack') where
    abbrev value : Option Val
    value = cell m h.instance (Declared d)

    opened : fetching v vals' ≡ having value o (λ v. go o m inst w (v ∷ vals') rest)
    unfolding having
    opened = ap (λ z. fetching z vals') h.is_val

    pushed : (p : Option Plain) → constant_of s (record { 0 = d }) ≡ p → GivenAt s code (site_at t b u) (length left) p a.x q → value ≡ constant_cell p → Follows (mstep code l) R (fetching v vals') o (at pc (x ∷ stack'))
    unfolding having
    pushed None e y given = absurd y
    pushed (Some p) e y given =
        let is : fetching v vals' ≡ go o m inst w (meaning.Of p ∷ vals') rest = opened ∙ ap (λ z. having z o (λ v. go o m inst w (v ∷ vals') rest)) given in
        let dropped = a.dropped in
        let alike = onward s code l o m inst w vals rest fs t b pc stack below ks here u q ks' low k {p = o} (more_at (plain_at {p = p}) hs) out refl in
        in_steps (subst (λ z. Meets (mstep code l) (InEach R) z o (at pc (x ∷ stack'))) (sym is)
        (silent code l inst b below R i.Pop dropped.is (dropped_row code l inst b below dropped.line fs o pc x stack')
        (matched code l inst b below R _ (plain_pushed code l inst b below s coding.texts (site_at t b u) (length left) fs o p a.x q stack' (stack_length left vals' stack' hs) here.roomy y) (caught (simply (λ p same. absurd (cc (same))) alike)))))

    nothing_there : value ≡ None → Follows (mstep code l) R (fetching v vals') o (at pc (x ∷ stack'))
    unfolding having
    nothing_there none = at_once (subst (λ z. Alike R z (mstep code l o (at pc (x ∷ stack')))) (sym (opened ∙ ap (λ z. having z o (λ v. go o m inst w (v ∷ vals') rest)) none)) (alike_unruled Configuration Machine R o _))

    fetched : Follows (mstep code l) R (fetching v vals') o (at pc (x ∷ stack'))
    fetched = ⊎_elim nothing_there (λ e. pushed (constant_of s (record { 0 = d })) refl a.value e) (constant_read s code m fs h.instance h.text (Declared d) here.store h.stands h.own h.has h.fixed)

  in_hand : (d : ℕ) (left : List Kind) → ks' ≡ Any ∷ left → ConstantPushed s code (site_at t b u) (length left) d pc q → (vs : List Val) (xs : List Value) → StackAt (HandAt s code m) (FixedOf d ∷ left) vs xs → Follows (mstep code l) R (popping vs o (λ v vals'. fetching v vals')) o (at pc xs)
  unfolding popping
  in_hand d left out a _ _ (more_at {v = v} {vals = vals'} {x = x} {stack = stack'} h hs) = fetched d left out a v x vals' stack' h hs

  -- where a constant is fetched from
  pub fetch_constant : (d : ℕ) (left : List Kind) → ks ≡ FixedOf d ∷ left → ks' ≡ Any ∷ left → FetchesAt s code (site_at t b u) (length left) (FixedOf d) pc q → Follows (mstep code l) R (do_op s l o m inst w vals rest FetchOp) o (at pc stack)
  fetch_constant d left e out a = in_hand d left out a vals stack (kinds_as s code e here.values)
