-- Virtual procedures: what matches one in the class of an object is found.
use Rattle.std.proofs.Common.{◌≡◌, ℕ, suc, List, ◌∷◌, Option, Some, None, refl, sym, subst}
use Rattle.std.specs.Option.{option_map}
use Rattle.std.specs.Prelude.{pos}
use Rattle.sim_base.specs.declared.limits.Limits.{Limits}
use Rattle.sim_scope.specs.Source.{Source}
use Rattle.sim_code.specs.declared.instr.Instr.TheVariants as i
use Rattle.sim_code.specs.Code.{CodeOf}
use Rattle.sim_code.specs.Events.{having}
use Rattle.sim_code.specs.Machine.{Frames, Machine, Value}
use Rattle.sim_code.specs.Machine as machine
use Rattle.sim_code.specs.Outcome.{Going, World}
use Rattle.sim_code.specs.Rows.{on_top}
use Rattle.sim_code.specs.Virtuals.{match_found, matching}
use Rattle.sim_code.proofs.Lifts.{alike_stopping, alike_unruled}
use Rattle.sim_code.proofs.Simulation.{Alike}
use Rattle.sim_meaning.specs.Meaning.{do_op}
use Rattle.sim_meaning.specs.Pending.{Activation, Configuration, Instances, Item, Op, ProcedureValue, Val, VirtualOp}
use Rattle.sim_meaning.specs.Steps.{go}
use Rattle.sim_meaning.specs.Texts.{text}
use Rattle.sim_meaning.specs.Virtuals.{match_at, match_in_text}
use Rattle.codegen_expr.specs.Sites.{block_number}
use Rattle.codegen.specs.Compiled.{Compiled}
use Rattle.sim_relate.proofs.Here.{Here, act, at_row}
use Rattle.sim_relate.proofs.Known.{Any, HandAt, Kind, Runs, Settled, StackAt, more_at, procedure_at, site_at}
use Rattle.sim_relate.proofs.Matches.{match_same, match_stands}
use Rattle.sim_relate.proofs.ObjectsHere.{ObjectHere}
use Rattle.sim_relate.proofs.Operators.{alike_indexed, onward}
use Rattle.sim_relate.proofs.References as references
use Rattle.sim_relate.proofs.Relation.{ChainAt, OpAt, StateAt, WorkAt}
use Rattle.sim_relate.proofs.Trees.{IsVirtual}

module _ (s : Source) (code : CodeOf) (coding : Compiled s code) (l : Limits) (o : World) (m : Instances) (inst : ℕ) (w : List Item) (vals : List Val) (rest : List Activation) (fs : Frames) (t : ℕ) (b : Runs) (pc : ℕ) (stack : List Value) (below : List machine.Activation) (ks : List Kind) (here : Here s code m fs inst rest t b ks vals stack) (u q : ℕ) (ks' : List Kind) (low : Settled s code t b u) (k : WorkAt s code m fs (λ v. ChainAt s code m fs rest v below) inst t b u w q ks') where
  abbrev R : Configuration → Machine → Type 0
  R = StateAt s code

  abbrev top : machine.Activation
  top = act inst pc stack b

  abbrev Follows : Op → Type 0
  Follows op = OpAt s code m fs inst (site_at t b u) op pc q ks ks' → Alike R (do_op s l o m inst w vals rest op) (on_top code l o fs top below)

  on_with : {p : World} {ks2 : List Kind} {vals2 : List Val} {stack2 : List Value} {next : ℕ} → StackAt (HandAt s code m) ks2 vals2 stack2 → ks' ≡ ks2 → q ≡ next → Alike R (go p m inst w vals2 rest) (Going p (record { chain = act inst next stack2 b ∷ below; memory = fs }))
  on_with h e place = onward s code l o m inst w vals rest fs t b pc stack below ks here u q ks' low k h e place

  -- ---- the match

  matched_on : (line v j : ℕ) (found : Option (Option ℕ)) → match_at s m v j ≡ found → IsVirtual s v → ObjectHere s code coding m fs here.store j → (vals' : List Val) (stack' : List Value) (left : List Kind) → StackAt (HandAt s code m) left vals' stack' → ks' ≡ Any ∷ left → q ≡ suc pc
      → Alike R (matching line found o (λ k. go o m inst w (ProcedureValue k j ∷ vals') rest)) (matching line (match_found code fs v j) o (λ k. machine.on o fs top (machine.ProcedureValue k j ∷ stack') below))
  unfolding matching having
  matched_on line v j None e is x vals' stack' left hs out place = alike_unruled Configuration Machine R o _
  matched_on line v j (Some found) e is x vals' stack' left hs out place =
      let a = match_same s code coding m fs here.store v j found x is e in
      subst (λ z. Alike R (matching line (Some found) o (λ k. go o m inst w (ProcedureValue k j ∷ vals') rest)) (matching line z o (λ k. machine.on o fs top (machine.ProcedureValue k j ∷ stack') below))) (sym a.same) (by found a.is)
    where
      by : (found : Option ℕ) → match_in_text s v (Some x.instance.text) ≡ Some found
          → Alike R (matching line (Some found) o (λ k. go o m inst w (ProcedureValue k j ∷ vals') rest)) (matching line (Some (option_map (block_number s) found)) o (λ k. machine.on o fs top (machine.ProcedureValue k j ∷ stack') below))
      by None e = alike_stopping Configuration Machine R _ o
      by (Some text) e =
          let y = coding.agrees.matches v x.instance.text text is x.levels e in
          on_with (more_at (procedure_at (record { around = y.around; result = y.given; heading = y.heading; body = y.body; is = y.procedure; stands_in = y.is; stands = match_stands s code coding m fs here.store j y.around x y.level })) hs) out place

  pub virtual : (v line : ℕ) → Follows (VirtualOp v line)
  virtual v line a = at_row s code l o fs top below _ (i.Virt (pos v)) line q a.is
      (alike_indexed s code l o m inst w vals rest fs t b pc stack below ks here v _ _
      (references.pops_object s code coding l o m inst w vals rest fs t b pc stack below ks here u q ks' low k line a.left _ _ a.«in»
      (λ j vals' stack' n hs. matched_on line v j (match_at s m v j) refl a.declared (references.object_named s code coding l o m inst w vals rest fs t b pc stack below ks here u q ks' low k j n) vals' stack' a.left hs a.out (a.is).on)))
