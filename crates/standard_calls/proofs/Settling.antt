-- What a row comes to, where it is known what becomes of the name on its operands.
use Rattle.std.proofs.Common.{◌≡◌, ℕ, ◌+◌, ◌<◌, ◌≤◌, List, [], ◌++◌, sym, subst, ap, ◌∙◌, arith}
use Rattle.std.specs.Prelude.{true, false, Option, Some, None, Result, Ok, Err, nat_lt, if◌then◌else◌}
use Rattle.sim_base.specs.declared.limits.Limits.{Limits}
use Rattle.sim_base.specs.declared.run_error.RunError.{RunError}
use Rattle.sim_values.specs.declared.standard.Standard.{Standard}
use Rattle.sim_values.specs.declared.value.TextVal.{TextVal}
use Rattle.sim_values.specs.Plain.{Plain}
use Rattle.sim_values.specs.Standard.{standard_effect}
use Rattle.sim_values.specs.Store.{Effect}
use Rattle.sim_code.specs.Outcome.{Run, StorageExhausted, World}
use Rattle.sim_code.specs.Events.{computing, having, stopping, taking}
use Rattle.sim_code.specs.Machine.{Machine, Value}
use Rattle.sim_code.specs.Rows.{with_value}
use Rattle.basic_io.specs.Input.{left_of}
use Rattle.frame_arena.specs.declared.slot.Slot.{Slot}
use Rattle.frame_arena.specs.Stacks.{values_of}
use Rattle.standard_calls.specs.declared.came.Came.{Came}
use Rattle.standard_calls.specs.declared.came.Came.TheVariants as came
use Rattle.standard_calls.specs.declared.names.Performed.TheVariants as performed
use Rattle.standard_calls.specs.Calls.{CameAs, CameFaults, CameStops, Cut, EffectIs, IfCameMoved, Lacks, Leaves, Takes, effect_to, going_on, plain_value, settled}
use Rattle.standard_calls.specs.Performed.{Agrees, IfMoved, IsCut, IsDone, Parts, PerformedAs, PerformedFaults, PerformedStops, held, standard_row, store_of, wrote}

lt_not : (a b : ℕ) → b ≤ a → nat_lt a b ≡ false
lt_not a b h = grind (arith, h)

lt_yes : (a b : ℕ) → a < b → nat_lt a b ≡ true
lt_yes a b h = grind (arith, h)

agrees_store : (l : Limits) (o : World) (old : Parts) → Agrees l o old → o.store ≡ store_of old o.store.written
agrees_store l o old a =
    ap (λ f. record (o.store) { frames = f }) a.frames
    ∙ ap (λ i. record (o.store) { frames = old.frames; sysin = i }) a.sysin
    ∙ ap (λ b. record (o.store) { frames = old.frames; sysin = old.input.image; endfile = b }) a.endfile
    ∙ ap (λ b. record (o.store) { frames = old.frames; sysin = old.input.image; endfile = old.input.endfile; left = b }) a.left
    ∙ ap (λ i. record (o.store) { frames = old.frames; sysin = old.input.image; endfile = old.input.endfile; left = left_of old.input.held old.source; sysout = i }) a.image

module _ (budget : ℕ) (n : Standard) (vs : List Plain) (depth : ℕ) (slots : List Slot) (at : ℕ) (old new : Parts) (takes : Takes n depth slots at vs) where
  module _ (l : Limits) (line : ℕ) (o : World) (go : World → Option TextVal → List Value → Run Machine) (b : l.storage ≡ budget) (a : Agrees l o old) where
    abbrev rest : List Value
    rest = values_of at slots

    effect_row : (effect : (written : List ℕ) → Effect) → EffectIs n vs old effect → standard_row l line n (held depth slots) o go ≡ going_on l line o go rest (effect o.store.written)
    unfolding having
    effect_row effect e =
        takes l line o go
        ∙ ap (λ s. having (standard_effect n vs s) o (going_on l line o go rest)) (agrees_store l o old a)
        ∙ ap (λ m. having m o (going_on l line o go rest)) (e o.store.written)

    taken : (K : World → Run Machine) (wanted w : ℕ) → o.words + wanted ≡ w → w ≤ l.storage → taking l line wanted o K ≡ K (record o { words = w })
    unfolding taking
    taken K wanted w e h =
        ap (λ b. if b then stopping (StorageExhausted line o.words wanted) o else K (record o { words = o.words + wanted })) (lt_not l.storage (o.words + wanted) (omega (arith, e, h)))
        ∙ ap (λ w. K (record o { words = w })) e

    left_row : (bytes : List ℕ) (moved : Option TextVal) (answer : Result (Option Plain) RunError) (e : Leaves budget n vs old new bytes moved answer) →
        standard_row l line n (held depth slots) o go ≡ computing line answer (wrote o new bytes) (λ value. go (wrote o new bytes) moved (with_value value rest))
    left_row bytes moved answer e =
        let fits : old.words ≤ budget = subst (λ m. old.words ≤ m) b a.budget in
        let inside = e.fits fits in
        effect_row (effect_to e.wanted new moved answer bytes) e.effect
        ∙ taken (λ p. computing line answer (record p { store = store_of new (o.store.written ++ bytes) }) (λ value. go (record p { store = store_of new (o.store.written ++ bytes) }) moved (with_value value rest)))
        e.wanted new.words (ap (λ w. w + e.wanted) a.words ∙ sym e.words) (subst (λ m. new.words ≤ m) (sym b) inside)

    full_row : (wanted : ℕ) → Lacks budget n vs old wanted → standard_row l line n (held depth slots) o go ≡ stopping (StorageExhausted line old.words wanted) o
    unfolding taking
    full_row wanted e =
        let m = e.full in
        effect_row e.done e.effect
        ∙ ap (λ w. taking l line w o (λ p. computing line (e.done o.store.written).answer (record p { store = (e.done o.store.written).store }) (λ value.
        go (record p { store = (e.done o.store.written).store }) (e.done o.store.written).moved (with_value value rest)))) (e.wants o.store.written)
        ∙ ap (λ c. if c then stopping (StorageExhausted line o.words wanted) o else computing line (e.done o.store.written).answer (record o { words = o.words + wanted; store = (e.done o.store.written).store }) (λ value.
        go (record o { words = o.words + wanted; store = (e.done o.store.written).store }) (e.done o.store.written).moved (with_value value rest))) (lt_yes l.storage (o.words + wanted) (omega (arith, b, m, a.words)))
        ∙ ap (λ w. stopping (StorageExhausted line w wanted) o) a.words

    cut_row : (e : Cut n vs old new) → standard_row l line n (held depth slots) o go ≡ go (record o { store = e.left o.store.written }) None rest
    unfolding computing
    cut_row e =
        effect_row (λ written. record { wanted = 0; store = e.left written; moved = None; answer = Ok None }) e.effect
        ∙ taken (λ p. go (record p { store = e.left o.store.written }) None rest) 0 o.words (omega arith) (omega (arith, a.words, a.budget))

  pub settled_done : (value : Option Slot) (moved : Option TextVal) (depth2 : ℕ) (slots2 : List Slot) → values_of depth2 slots2 ≡ with_value (plain_value value) (values_of at slots) → CameAs (came.Done value moved) budget n vs old new →
      IsDone budget n (held depth slots) old new moved (held depth2 slots2)
  unfolding computing
  settled_done value moved depth2 slots2 is e = (
    e.0,
    e.1.sink,
    e.1.fits,
    λ l line o go b a. left_row l line o go b a e.0 moved (Ok (plain_value value)) e.1 ∙ ap (go (wrote o new e.0) moved) (sym is),
  )

  pub settled_fault : (e : RunError) (slots2 : List Slot) → CameAs (came.Fault e) budget n vs old new → PerformedAs (performed.Fault e) budget n (held depth slots) slots2 old new
  unfolding computing
  settled_fault e slots2 d = (d.1.sink, d.1.fits, λ l line o go b a. left_row l line o go b a [] d.0 (Err e) d.1)

  pub settled_full : (wanted : ℕ) (slots2 : List Slot) → CameAs (came.Full wanted) budget n vs old new → PerformedAs (performed.Full wanted) budget n (held depth slots) slots2 old new
  settled_full wanted slots2 d = (d.0, λ l line o go b a. full_row l line o go b a wanted d.1)

  pub settled_cut : Cut n vs old new → IsCut budget n (held depth slots) old new
  settled_cut e = (
    e.bytes,
    e.sink,
    λ l line o b a. (record o { store = e.left o.store.written }, values_of at slots, e.more, e.whole o.store.written, λ go. cut_row l line o go b a e),
  )

-- ---- what the outcome on the operands says of the name

module _ (depth : ℕ) where
  pub settled_stops : {S : Type 0} (written : S → Option (List ℕ)) (faults : S → ℕ) (old new : S) (c : Came) → CameStops written faults old new c → PerformedStops written faults old new (settled c depth)
  settled_stops written faults old new (came.Done value None) h = tt
  settled_stops written faults old new (came.Done value (Some t)) h = tt
  settled_stops written faults old new (came.Fault e) h = tt
  settled_stops written faults old new (came.Full w) h = tt
  settled_stops written faults old new came.Memory h = tt
  settled_stops written faults old new came.WriteFault h = h
  settled_stops written faults old new came.InputFault h = tt

  pub settled_faults : (before now before2 now2 : ℕ) (c : Came) → CameFaults c before now before2 now2 → PerformedFaults (settled c depth) before now before2 now2
  settled_faults before now before2 now2 (came.Done value None) h = h
  settled_faults before now before2 now2 (came.Done value (Some t)) h = h
  settled_faults before now before2 now2 (came.Fault e) h = h
  settled_faults before now before2 now2 (came.Full w) h = h
  settled_faults before now before2 now2 came.Memory h = h
  settled_faults before now before2 now2 came.WriteFault h = h
  settled_faults before now before2 now2 came.InputFault h = h

  pub settled_still : (P Q : Type 0) → (P → Q) → (c : Came) → IfCameMoved c P → IfMoved (settled c depth) Q
  settled_still P Q f (came.Done value None) h = tt
  settled_still P Q f (came.Done value (Some t)) h = f h
  settled_still P Q f (came.Fault e) h = tt
  settled_still P Q f (came.Full w) h = tt
  settled_still P Q f came.Memory h = tt
  settled_still P Q f came.WriteFault h = tt
  settled_still P Q f came.InputFault h = tt
