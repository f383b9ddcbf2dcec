-- An actual parameter by name in hand: its code is gone past, and its thunk is pushed.
use Rattle.std.proofs.Common.{◌≡◌, ℕ, Bool, List, length, Some, refl, sym, subst, arith}
use Rattle.std.specs.Prelude.{pos, slice_get}
use Rattle.sim_base.specs.declared.limits.Limits.{Limits}
use Rattle.sim_scope.specs.Source.{Source}
use Rattle.sim_tree.specs.Syntax.{Expression}
use Rattle.sim_code.specs.declared.code.ThunkRecord.{ThunkRecord}
use Rattle.sim_code.specs.declared.instr.Instr.TheVariants as i
use Rattle.sim_code.specs.Code.{CodeOf}
use Rattle.sim_code.specs.Outcome.{World}
use Rattle.sim_code.specs.Machine.{Frames, Machine, ThunkValue, Value, index}
use Rattle.sim_code.specs.Machine as machine
use Rattle.sim_code.specs.Rows.{mstep}
use Rattle.sim_meaning.specs.Meaning.{do_op}
use Rattle.sim_meaning.specs.Pending.{Activation, Actual, ActualOf, Configuration, Eval, Instances, Item, Val}
use Rattle.codegen_expr.specs.CodeExpr.{PastThunkAt}
use Rattle.codegen_expr.specs.Sites.{block_number, frame_text}
use Rattle.sim_relate.proofs.Hands.{stack_length}
use Rattle.sim_relate.proofs.Here.{Here}
use Rattle.sim_relate.proofs.Known.{ValAt, ActualCode, Kind, Low, Runs, Settled, Stands, ThunkIs, actual_at, more_at, site_at}
use Rattle.sim_relate.proofs.Operators.{onward}
use Rattle.sim_relate.proofs.Ranked.{Follows, caught, in_steps, simply}
use Rattle.sim_relate.proofs.Relation.{ChainAt, OpAt, StateAt, WorkAt}
use Rattle.sim_relate.proofs.Silent.{matched, over, place_at, steps_to}
use Rattle.sim_relate.proofs.Straight.{found, pushes_on}

-- a thunk that the code of an activation goes past
pub thunk_there : (s : Source) (code : CodeOf) (m : Instances) (inst t : ℕ) (b : Runs) (u was : ℕ) (as_procedure : Bool) (e : Expression) (number p q : ℕ) → Stands s m inst t → slice_get code.blocks (block_number s (frame_text s t)) ≡ Some b.block → Low s code t b u
    → PastThunkAt code (site_at t b u) number (λ inner x y. ActualCode s code (record inner { used = was }) as_procedure e x y) p q → ThunkIs s code m inst as_procedure e number
thunk_there s code m inst t b u was as_procedure e number p q stands block low a =
    let forward = (a.past).forward in
    let there = (a.past).there in
    let on = (a.over).is.on in
    record {
      text = t;
      block = b.block;
      room = a.room;
      used = was;
      entry = a.x;
      done = a.y;
      last = q;
      stands = stands;
      found = block;
      there = a.there;
      within = omega (arith, forward, there, on);
      gives = subst (λ z. ActualCode s code (record { text = t; room = a.room; temps = z; used = was; size = length b.block.types; thunk = Some number }) as_procedure e a.x a.y) low.temps a.given;
      end = a.end;
    }

module _ (s : Source) (code : CodeOf) (l : Limits) (o : World) (m : Instances) (inst : ℕ) (w : List Item) (vals : List Val) (rest : List Activation) (fs : Frames) (t : ℕ) (b : Runs) (pc : ℕ) (stack : List Value) (below : List machine.Activation) (ks : List Kind) (here : Here s code m fs inst rest t b ks vals stack) (u q : ℕ) (ks' : List Kind) (low : Settled s code t b u) (k : WorkAt s code m fs (λ v. ChainAt s code m fs rest v below) inst t b u w q ks') where
  abbrev R : Configuration → Machine → Type 0
  R = StateAt s code

  pub passed : (home : ℕ) (as_procedure : Bool) (e : Expression) → OpAt s code m fs inst (site_at t b u) (Eval (ActualOf home as_procedure e)) pc q ks ks' → Follows (mstep code l) R (do_op s l o m inst w vals rest (Eval (ActualOf home as_procedure e))) o (place_at code l inst b below pc stack fs)
  unfolding index
  passed home as_procedure e a =
      let c = a.0 in
      let th = c.thunk in
      let past = th.past in
      let thunk = thunk_there s code m inst t b u c.was as_procedure e th.number pc th.z here.stands here.found low.at past in
      let is = (th.thunk).is in
      let fits = (th.thunk).fits in
      let deep = stack_length ks vals stack here.values in
      let roomy = here.roomy in
      let row = found ℕ (machine.number (pos th.number)) th.number o _ _ refl
      (found ThunkRecord (slice_get code.thunks th.number) (record { entry = past.x; room = past.room }) o _ _ past.there
      (pushes_on code l is.line inst b below o stack (ThunkValue th.number inst) _ _ (omega (arith, deep, roomy, fits)) refl)) in
      in_steps (over code l inst b below R (past.over).is past.past
      (matched code l inst b below R _ (steps_to code l inst b below stack _ fs fs o o (i.Thunk (pos th.number)) is.is row)
      (caught (simply (λ p same. absurd (cc (same)))
      (onward s code l o m inst w vals rest fs t b pc stack below ks here u q ks' low k {p = o} (more_at (subst (λ z. ValAt s code m (Actual z as_procedure e) (ThunkValue th.number inst)) (sym c.here) (actual_at thunk)) here.values) a.1 refl)))))
