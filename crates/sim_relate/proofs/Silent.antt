-- Steps of the machine of which all but one show nothing, where the program makes one.
use Rattle.std.proofs.Common.{◌≡◌, ◌<◌, ◌≤◌, ℕ, suc, Bool, true, false, List, ◌∷◌, length, Some, None, refl, sym, ap, ◌∙◌, subst, arith}
use Rattle.std.specs.Prelude.{nat_lt, not, pos, slice_get, if◌then◌else◌}
use Rattle.sim_base.specs.declared.limits.Limits.{Limits}
use Rattle.sim_scope.specs.Source.{Source}
use Rattle.sim_values.specs.Operators.{one_of, same_objects, two_of}
use Rattle.sim_values.specs.Plain.{Character, Integer, Nothing, Object, Plain, Text, Truth, MainOf}
use Rattle.sim_code.specs.declared.instr.Instr.{Instr}
use Rattle.sim_code.specs.declared.instr.Instr.TheVariants as i
use Rattle.sim_code.specs.Classes as classes
use Rattle.sim_code.specs.Code.{CodeOf}
use Rattle.sim_code.specs.Events.{answering, applying_one, applying_two, choosing, computing, having, no_rule, pop_plain, pop_truth, popping, stopping, when}
use Rattle.sim_code.specs.Instances.{CellPlace, at_level}
use Rattle.sim_code.specs.Machine.{Address, Frames, Machine, Of, Value, cell_set, index, is_there, is_tick, jumping}
use Rattle.sim_code.specs.Machine as machine
use Rattle.sim_code.specs.Outcome.{Ending, Going, Run, World}
use Rattle.sim_code.specs.Rows.{code_of, mstep, putting, qualified, text_value, truth_of}
use Rattle.sim_meaning.specs.Constants.{constants_of}
use Rattle.sim_meaning.specs.Pending.{Configuration}
use Rattle.codegen_expr.specs.CodeExpr.{PlainAt}
use Rattle.codegen_expr.specs.Sites.{Ahead, At, Site}
use Rattle.sim_relate.proofs.Here.{act}
use Rattle.sim_relate.proofs.Known.{Runs, IsReference}
use Rattle.sim_relate.proofs.Operators.{chosen, is_instr}
use Rattle.sim_relate.proofs.Ranked.{Catches, InEach, Meets, first, meets}
use Rattle.sim_relate.proofs.Straight.{RowIs, cell_on, found, pushes_on, step_at, tested}
use Rattle.sim_relate.proofs.Straight as straight

-- a jump forward
jumps_to : (code : CodeOf) (pc x : ℕ) (o : World) (go : ℕ → Run Machine) → Ahead code pc x → jumping code pc (pos x) o go ≡ go x
unfolding jumping index having when
jumps_to code pc x o go a =
    let e : nat_lt pc x ≡ true = grind (arith, a.forward) in
    ap (λ b. if (if b then is_there (slice_get code.instrs x) else is_tick (slice_get code.instrs x)) then go x else no_rule o) e ∙ ap (λ b. if b then go x else no_rule o) (is_instr code.instrs x a.there)

-- the class that goes with an address
qualified_is : (code : CodeOf) (class n : ℕ) → class ≡ suc n → classes.class_named code (pos class) ≡ Some class → (o : World) (go : ℕ → Run Machine) → qualified code (pos class) o go ≡ go class
qualified_is code class n e h o go = subst (λ y. classes.class_named code (pos y) ≡ Some y → qualified code (pos y) o go ≡ go y) (sym e) (λ h. found ℕ (classes.class_named code (pos (suc n))) (suc n) o go (go (suc n)) h refl) h

module _ (code : CodeOf) (l : Limits) (inst : ℕ) (runs : Runs) (below : List machine.Activation) where
  -- where the machine stands
  abbrev pub place_at : (pc : ℕ) → List Value → Frames → Machine
  place_at pc stack fs = record { chain = act inst pc stack runs ∷ below; memory = fs }

  -- ---- rows

  module _ (line : ℕ) where
    abbrev pub Row : Instr → (pc : ℕ) → World → List Value → Frames → Run Machine → Type 0
    Row x pc o stack fs z = RowIs code l line inst runs below x pc o stack fs z

    pub addr_row : (fs : Frames) (o : World) (pc : ℕ) (stack : List Value) (z c class n : ℕ) → class ≡ suc n → classes.class_named code (pos class) ≡ Some class → at_level fs z inst ≡ Some inst → machine.has_cell fs inst c ≡ true → length stack < runs.room → Row (i.Addr (pos z) (pos c) (pos class)) pc o stack fs (Going o (place_at (suc pc) (Address (CellPlace inst c class) ∷ stack) fs))
    addr_row fs o pc stack z c class n e named at there lt =
        qualified_is code class n e named o _ ∙ cell_on code l line inst runs below fs o pc stack z c _ _ at (tested (machine.has_cell fs inst c) o _ _ there (pushes_on code l line inst runs below o stack (Address (CellPlace inst c class)) _ _ lt refl))

    pub swap_row : (fs : Frames) (o : World) (pc : ℕ) (v x : Value) (stack : List Value) → Row i.Swap pc o (v ∷ x ∷ stack) fs (Going o (place_at (suc pc) (x ∷ v ∷ stack) fs))
    unfolding popping
    swap_row fs o pc v x stack = refl

    -- a value is put where it may stand, or that ends the run
    pub put_row : (fs fs' : Frames) (o : World) (pc : ℕ) (v : Value) (stack : List Value) (j c class : ℕ) → ((z : Run Machine) → classes.admitting code fs line class v o z ≡ z) → cell_set fs j c v ≡ Some fs' → Row i.Put pc o (v ∷ Address (CellPlace j c class) ∷ stack) fs (Going o (place_at (suc pc) stack fs'))
    unfolding popping having putting
    put_row fs fs' o pc v stack j c class passes set = passes _ ∙ found Frames (cell_set fs j c v) fs' o _ _ set refl

    pub put_stops : (fs : Frames) (o : World) (pc : ℕ) (v : Value) (stack : List Value) (j c class : ℕ) (e : Ending) → ((z : Run Machine) → classes.admitting code fs line class v o z ≡ stopping e o) → Row i.Put pc o (v ∷ Address (CellPlace j c class) ∷ stack) fs (stopping e o)
    unfolding popping having
    put_stops fs o pc v stack j c class e stops = stops _

    pub none_row : (fs : Frames) (o : World) (pc : ℕ) (stack : List Value) → length stack < runs.room → Row i.None pc o stack fs (Going o (place_at (suc pc) (Of Nothing ∷ stack) fs))
    none_row fs o pc stack lt = pushes_on code l line inst runs below o stack (Of Nothing) _ _ lt refl

    -- `==` against none
    pub other_row : (fs : Frames) (o : World) (pc : ℕ) (p : Plain) → IsReference p → (stack : List Value) → Row i.Same pc o (Of Nothing ∷ Of p ∷ stack) fs (Going o (place_at (suc pc) (Of (Truth false) ∷ stack) fs))
    unfolding applying_two pop_plain popping having answering two_of same_objects computing
    other_row fs o pc (Object j) r stack = refl
    other_row fs o pc (MainOf j) r stack = refl
    other_row fs o pc Nothing r stack = absurd r
    other_row fs o pc (Integer z) r stack = absurd r
    other_row fs o pc (Truth b) r stack = absurd r
    other_row fs o pc (Character c) r stack = absurd r
    other_row fs o pc (Text x) r stack = absurd r

    pub same_row : (fs : Frames) (o : World) (pc : ℕ) (stack : List Value) → Row i.Same pc o (Of Nothing ∷ Of Nothing ∷ stack) fs (Going o (place_at (suc pc) (Of (Truth true) ∷ stack) fs))
    unfolding applying_two pop_plain popping having answering two_of same_objects computing
    same_row fs o pc stack = refl

    pub not_row : (fs : Frames) (o : World) (pc : ℕ) (b : Bool) (stack : List Value) → Row i.Not pc o (Of (Truth b) ∷ stack) fs (Going o (place_at (suc pc) (Of (Truth (not b)) ∷ stack) fs))
    unfolding applying_one pop_plain popping having answering one_of computing
    not_row fs o pc b stack = refl

    pub stays_row : (fs : Frames) (o : World) (pc x : ℕ) (stack : List Value) → Row (i.JumpF (pos x)) pc o (Of (Truth true) ∷ stack) fs (Going o (place_at (suc pc) stack fs))
    unfolding pop_truth pop_plain popping having choosing
    stays_row fs o pc x stack = refl

    pub jumps_row : (fs : Frames) (o : World) (pc x : ℕ) (stack : List Value) → Ahead code pc x → Row (i.JumpF (pos x)) pc o (Of (Truth false) ∷ stack) fs (Going o (place_at x stack fs))
    unfolding pop_truth pop_plain popping having choosing
    jumps_row fs o pc x stack a = jumps_to code pc x o _ a

    pub in_row : (fs : Frames) (o : World) (pc class : ℕ) (p : Plain) (b : Bool) (stack : List Value) → classes.class_named code (pos class) ≡ Some class → classes.is_in code fs class p ≡ Some b → Row (i.In (pos class)) pc o (Of p ∷ stack) fs (Going o (place_at (suc pc) (Of (Truth b) ∷ stack) fs))
    unfolding pop_plain popping
    in_row fs o pc class p b stack named is = found ℕ (classes.class_named code (pos class)) class o _ _ named (found Plain (Some p) p o _ _ refl (found Bool (classes.is_in code fs class p) b o _ _ is refl))

    pub dropped_row : (fs : Frames) (o : World) (pc : ℕ) (v : Value) (stack : List Value) → Row i.Pop pc o (v ∷ stack) fs (Going o (place_at (suc pc) stack fs))
    dropped_row fs o pc v stack = straight.pop_row code l line inst runs below fs o pc v stack

  -- ---- steps

  pub steps_to : {line p q : ℕ} (stack stack' : List Value) (fs fs' : Frames) (o o' : World) (x : Instr) → At code x line p q → Row line x p o stack fs (Going o' (place_at (suc p) stack' fs')) → mstep code l o (place_at p stack fs) ≡ Going o' (place_at q stack' fs')
  steps_to {line} {p} {q} stack stack' fs fs' o o' x a e = step_at code l line inst runs below x p q o stack fs (Going o' (place_at (suc p) stack' fs')) a e ∙ ap (λ z. Going o' (place_at z stack' fs')) (sym a.on)

  -- constants
  pub plain_pushed : (s : Source) → code.texts ≡ constants_of s → (site : Site) (n : ℕ) (fs : Frames) (o : World) (v : Plain) (p q : ℕ) (stack : List Value) → n ≡ length stack → site.room ≤ runs.room → PlainAt s code site n v p q → mstep code l o (place_at p stack fs) ≡ Going o (place_at q (Of v ∷ stack) fs)
  unfolding index
  plain_pushed s texts site n fs o (Integer z) p q stack e room a =
      let fits = a.fits in
      steps_to stack _ fs fs o o (i.Int z) a.is.is (pushes_on code l a.is.line inst runs below o stack (Of (Integer z)) _ _ (omega (arith, e, room, fits)) refl)
  plain_pushed s texts site n fs o (Truth true) p q stack e room a =
      let fits = a.fits in
      steps_to stack _ fs fs o o (i.Bool (pos 1)) a.is.is (found Bool (truth_of (pos 1)) true o _ _ refl (pushes_on code l a.is.line inst runs below o stack (Of (Truth true)) _ _ (omega (arith, e, room, fits)) refl))
  plain_pushed s texts site n fs o (Truth false) p q stack e room a =
      let fits = a.fits in
      steps_to stack _ fs fs o o (i.Bool (pos 0)) a.is.is (found Bool (truth_of (pos 0)) false o _ _ refl (pushes_on code l a.is.line inst runs below o stack (Of (Truth false)) _ _ (omega (arith, e, room, fits)) refl))
  plain_pushed s texts site n fs o (Character c) p q stack e room a =
      let x = a.1 in
      let fits = x.fits in
      let small : nat_lt c 256 ≡ true = grind (arith, a.0) in
      steps_to stack _ fs fs o o (i.Char (pos c)) x.is.is (found ℕ (code_of (pos c)) c o _ _ (chosen (λ z. z ≡ Some c) (nat_lt c 256) (Some c) None small refl) (pushes_on code l x.is.line inst runs below o stack (Of (Character c)) _ _ (omega (arith, e, room, fits)) refl))
  plain_pushed s texts site n fs o (Text t) p q stack e room a =
      let c = a.0 in
      let x = a.1 in
      let fits = x.fits in
      let there : slice_get code.texts t.text_frame ≡ Some c.bytes = ap (λ z. slice_get z t.text_frame) texts ∙ c.listed in
      steps_to stack (Of (text_value t.text_frame c.bytes) ∷ stack) fs fs o o (i.TextK (pos t.text_frame)) x.is.is
      (found ℕ (machine.number (pos t.text_frame)) t.text_frame o _ _ refl
      (found (List ℕ) (slice_get code.texts t.text_frame) c.bytes o _ _ there
      (pushes_on code l x.is.line inst runs below o stack (Of (text_value t.text_frame c.bytes)) _ _ (omega (arith, e, room, fits)) refl))) ∙
      ap (λ z. Going o (place_at q (Of z ∷ stack) fs)) (sym c.whole)
  plain_pushed s texts site n fs o (Object j) p q stack e room a = absurd a
  plain_pushed s texts site n fs o (MainOf j) p q stack e room a = absurd a
  plain_pushed s texts site n fs o Nothing p q stack e room a = absurd a

  -- ---- one step of the program

  module _ (R : Configuration → Machine → Type 0) where
    pub silent : {r : Run Configuration} {line p q : ℕ} {stack stack' : List Value} {fs fs' : Frames} {o : World} (x : Instr) → At code x line p q → Row line x p o stack fs (Going o (place_at (suc p) stack' fs')) → Meets (mstep code l) (InEach R) r o (place_at q stack' fs') → Meets (mstep code l) (InEach R) r o (place_at p stack fs)
    silent {stack = stack} {stack'} {fs} {fs'} {o} x a e more = first (steps_to stack stack' fs fs' o o x a e) more

    -- a jump that is taken
    pub jumps : {r : Run Configuration} {line p q : ℕ} {stack : List Value} {fs : Frames} {o : World} (x : ℕ) → At code (i.JumpF (pos x)) line p q → Ahead code p x → Meets (mstep code l) (InEach R) r o (place_at x stack fs) → Meets (mstep code l) (InEach R) r o (place_at p (Of (Truth false) ∷ stack) fs)
    jumps {line = line} {p} {q} {stack} {fs} {o} x a ahead more = first (step_at code l line inst runs below (i.JumpF (pos x)) p q o (Of (Truth false) ∷ stack) fs (Going o (place_at x stack fs)) a (jumps_row line fs o p x stack ahead)) more

    -- a jump that is always taken
    pub over : {r : Run Configuration} {line p q : ℕ} {stack : List Value} {fs : Frames} {o : World} {x : ℕ} → At code (i.Jump (pos x)) line p q → Ahead code p x → Meets (mstep code l) (InEach R) r o (place_at x stack fs) → Meets (mstep code l) (InEach R) r o (place_at p stack fs)
    over {line = line} {p} {q} {stack} {fs} {o} {x} a ahead more = first (step_at code l line inst runs below (i.Jump (pos x)) p q o stack fs (Going o (place_at x stack fs)) a (jumps_to code p x o _ ahead)) more

    -- the step that is matched
    pub matched : {r : Run Configuration} {o : World} {x : Machine} (z : Run Machine) → mstep code l o x ≡ z → Catches (mstep code l) (InEach R) r z → Meets (mstep code l) (InEach R) r o x
    matched {r} z e a = meets (subst (λ y. Catches (mstep code l) (InEach R) r y) (sym e) a)
