-- Instructions that stand one behind another, each as the step that it makes.
use Rattle.std.proofs.Common.{◌≡◌, ◌<◌, ◌+◌, ℕ, zero, suc, Bool, true, false, List, [], ◌∷◌, length, Option, Some, refl, ap, ◌∙◌, subst, arith}
use Rattle.std.specs.Prelude.{nat_lt, pos, slice_get, if◌then◌else◌, ℤ, Ok, Err, None}
use Rattle.sim_base.specs.declared.limits.Limits.{Limits}
use Rattle.sim_base.specs.declared.run_error.RunError.{RunError}
use Rattle.sim_values.specs.declared.standard.Standard.{Standard}
use Rattle.sim_values.specs.declared.standard.Standard.TheVariants as name
use Rattle.sim_values.specs.declared.value.TextVal.{TextVal}
use Rattle.sim_values.specs.Arithmetic.{sum_of}
use Rattle.sim_values.specs.Operators.{an_integer, calculate, same_texts, two_of}
use Rattle.sim_values.specs.Plain.{Integer, Plain, Text, Truth}
use Rattle.sim_values.specs.Standard.{row_of, standard_effect, take_integer, take_nothing, take_text}
use Rattle.sim_values.specs.Store.{valued}
use Rattle.sim_values.specs.Texts.{assign_refusal, assigned, blanks, done, new_text, same_text, sub, unless}
use Rattle.sim_values.specs.Words.{is_exhausted}
use Rattle.sim_code.specs.declared.instr.Instr.{Instr}
use Rattle.sim_code.specs.declared.instr.Instr.TheVariants as i
use Rattle.sim_code.specs.Code.{CodeOf}
use Rattle.sim_code.specs.Outcome.{Going, Run, RunFault, StorageExhausted, World}
use Rattle.sim_code.specs.Events.{answering, applying_two, assigning, choosing, computing, having, no_rule, performing, pop_operands, pop_plain, pop_text, popping, putting_back, stopping, taking, when, with_texts}
use Rattle.sim_code.specs.Instances.{at_level}
use Rattle.sim_code.specs.Machine.{Frames, Machine, Of, Value, cell, cell_at, cell_set, index, level, on, operand, pushing}
use Rattle.sim_code.specs.Machine as machine
use Rattle.sim_code.specs.Rows.{mstep, put_back, room_for, row, standard_of}
use Rattle.codegen_expr.specs.CodeExpr.{Stand}
use Rattle.codegen_expr.specs.Sites.{At}
use Rattle.sim_relate.proofs.Known.{Runs}
use Rattle.sim_relate.proofs.Here.{act}
use Rattle.sim_relate.proofs.JoinTexts.{spaces}

-- ---- events that go on for sure

no_words : (o : World) → (let p : World = record o { words = o.words + 0 } in p) ≡ o
no_words o = let e : o.words + 0 ≡ o.words = omega arith in ap (λ n. let p : World = record o { words = n } in p) e

module _ {S : Type 0} (l : Limits) (line : ℕ) (o : World) (go : World → Run S) where
  pub takes_none : is_exhausted l.storage o.words 0 ≡ false → taking l line 0 o go ≡ go o
  unfolding taking
  takes_none e = ap (λ b. if b then stopping (StorageExhausted line o.words 0) o else go (record o { words = o.words + 0 })) e ∙ ap go (no_words o)

  pub takes_some : (wanted : ℕ) → is_exhausted l.storage o.words wanted ≡ false → taking l line wanted o go ≡ go (record o { words = o.words + wanted })
  unfolding taking
  takes_some wanted e = ap (λ b. if b then stopping (StorageExhausted line o.words wanted) o else go (record o { words = o.words + wanted })) e

  pub takes_too_many : (wanted : ℕ) → is_exhausted l.storage o.words wanted ≡ true → taking l line wanted o go ≡ stopping (StorageExhausted line o.words wanted) o
  unfolding taking
  takes_too_many wanted e = ap (λ b. if b then stopping (StorageExhausted line o.words wanted) o else go (record o { words = o.words + wanted })) e

pub found : (B : Type 0) (y : Option B) (b : B) (o : World) (q : B → Run Machine) (z : Run Machine) → y ≡ Some b → q b ≡ z → having y o q ≡ z
unfolding having
found B y b o q z e h = ap (λ y. having y o q) e ∙ h

pub tested : (t : Bool) (o : World) (r z : Run Machine) → t ≡ true → r ≡ z → when t o r ≡ z
unfolding when
tested t o r z e h = ap (λ b. if b then r else no_rule o) e ∙ h

-- ---- places

-- so many places on
abbrev pub up : ℕ → ℕ → ℕ
up zero p = p
up (suc k) p = suc (up k p)

up_suc : (k p : ℕ) → up k (suc p) ≡ suc (up k p)
up_suc zero p = refl
up_suc (suc k) p = ap suc (up_suc k p)

-- one instruction of a list that stands there
pub stands_at : (code : CodeOf) (line : ℕ) (xs : List Instr) (p q : ℕ) → Stand code line xs p q → (k : ℕ) (x : Instr) → slice_get xs k ≡ Some x → At code x line (up k p) (suc (up k p))
stands_at code line [] p q a k x e = absurd (cc)
stands_at code line (y ∷ xs) p q a zero x e = let same : y ≡ x = cc in let is = a.1 in subst (λ z. At code z line p (suc p)) same (record { at = is.at; on = refl })
stands_at code line (y ∷ xs) p q a (suc k) x e =
    let is = a.1 in
    subst (λ z. At code x line z (suc z)) (up_suc k p) (subst (λ z. At code x line (up k z) (suc (up k z))) is.on (stands_at code line xs a.0 q a.2 k x e))

pub stands_to : (code : CodeOf) (line : ℕ) (xs : List Instr) (p q : ℕ) → Stand code line xs p q → q ≡ up (length xs) p
stands_to code line [] p q a = a
stands_to code line (y ∷ xs) p q a = let is = a.1 in stands_to code line xs a.0 q a.2 ∙ ap (up (length xs)) is.on ∙ up_suc (length xs) p

-- ---- rows

module _ (code : CodeOf) (l : Limits) (line inst : ℕ) (runs : Runs) (below : List machine.Activation) where
  abbrev pub st : (pc : ℕ) → List Value → Frames → Machine
  st pc stack fs = record { chain = act inst pc stack runs ∷ below; memory = fs }

  abbrev pub RowIs : Instr → (pc : ℕ) → World → List Value → Frames → Run Machine → Type 0
  RowIs x pc o stack fs z = row code l o fs (act inst pc stack runs) below line x ≡ z

  -- the row of the instruction that stands there
  pub step_at : (x : Instr) (pc q : ℕ) (o : World) (stack : List Value) (fs : Frames) (z : Run Machine) → At code x line pc q → RowIs x pc o stack fs z → mstep code l o (st pc stack fs) ≡ z
  unfolding having
  step_at x pc q o stack fs z is e = ap (λ y. having y o (λ y. row code l o fs (act inst pc stack runs) below y.line.0 y.instr)) is.at ∙ e

  pub pushes_on : (o : World) (stack : List Value) (v : Value) (go : List Value → Run Machine) (z : Run Machine) → length stack < runs.room → go (v ∷ stack) ≡ z → pushing runs.room stack v o go ≡ z
  unfolding pushing
  pushes_on o stack v go z lt h = let e : nat_lt (length stack) runs.room ≡ true = grind (arith, lt) in tested (nat_lt (length stack) runs.room) o (go (v ∷ stack)) z e h

  pub cell_on : (fs : Frames) (o : World) (pc : ℕ) (stack : List Value) (z c : ℕ) (go : ℕ → ℕ → Run Machine) (x : Run Machine) → at_level fs z inst ≡ Some inst → go inst c ≡ x → cell_at fs (act inst pc stack runs) (pos z) (pos c) o go ≡ x
  unfolding cell_at level index having
  cell_on fs o pc stack z c go x e h = found ℕ (at_level fs z inst) inst o (λ j. go j c) x e h

  pub load_row : (fs : Frames) (o : World) (pc : ℕ) (stack : List Value) (z c : ℕ) (v : Value) → at_level fs z inst ≡ Some inst → cell fs inst c ≡ Some v → length stack < runs.room → RowIs (i.Load (pos z) (pos c)) pc o stack fs (Going o (st (suc pc) (v ∷ stack) fs))
  load_row fs o pc stack z c v e h lt = cell_on fs o pc stack z c _ _ e (found Value (cell fs inst c) v o _ _ h (pushes_on o stack v _ _ lt refl))

  pub store_row : (fs fs' : Frames) (o : World) (pc : ℕ) (v : Value) (stack : List Value) (z c : ℕ) → at_level fs z inst ≡ Some inst → cell_set fs inst c v ≡ Some fs' → RowIs (i.Store (pos z) (pos c)) pc o (v ∷ stack) fs (Going o (st (suc pc) stack fs'))
  unfolding popping
  store_row fs fs' o pc v stack z c e h = cell_on fs o pc (v ∷ stack) z c _ _ e (found Frames (cell_set fs inst c v) fs' o _ _ h refl)

  pub int_row : (fs : Frames) (o : World) (pc : ℕ) (stack : List Value) (z : ℤ) → length stack < runs.room → RowIs (i.Int z) pc o stack fs (Going o (st (suc pc) (Of (Integer z) ∷ stack) fs))
  int_row fs o pc stack z lt = pushes_on o stack _ _ _ lt refl

  pub dup_row : (fs : Frames) (o : World) (pc : ℕ) (v : Value) (stack : List Value) → suc (length stack) < runs.room → RowIs i.Dup pc o (v ∷ stack) fs (Going o (st (suc pc) (v ∷ v ∷ stack) fs))
  unfolding popping
  dup_row fs o pc v stack lt = pushes_on o (v ∷ stack) v _ _ lt refl

  pub pop_row : (fs : Frames) (o : World) (pc : ℕ) (v : Value) (stack : List Value) → RowIs i.Pop pc o (v ∷ stack) fs (Going o (st (suc pc) stack fs))
  unfolding popping
  pop_row fs o pc v stack = refl

  pub same_row : (fs : Frames) (o : World) (pc : ℕ) (a b : TextVal) (stack : List Value) → RowIs i.SameT pc o (Of (Text b) ∷ Of (Text a) ∷ stack) fs (Going o (st (suc pc) (Of (Truth (same_text a b)) ∷ stack) fs))
  unfolding applying_two pop_plain popping having answering two_of same_texts computing
  same_row fs o pc a b stack = refl

  pub add_row : (fs : Frames) (o : World) (pc : ℕ) (x y z : ℤ) (stack : List Value) → sum_of x y ≡ Ok z → RowIs i.Add pc o (Of (Integer y) ∷ Of (Integer x) ∷ stack) fs (Going o (st (suc pc) (Of (Integer z) ∷ stack) fs))
  unfolding applying_two pop_plain popping having answering two_of calculate computing
  add_row fs o pc x y z stack e = ap (λ r. answering line (an_integer r) o (λ v. on o fs (act inst pc (Of (Integer y) ∷ Of (Integer x) ∷ stack) runs) (Of v ∷ stack) below)) e

  pub add_fault : (fs : Frames) (o : World) (pc : ℕ) (x y : ℤ) (error : RunError) (stack : List Value) → sum_of x y ≡ Err error → RowIs i.Add pc o (Of (Integer y) ∷ Of (Integer x) ∷ stack) fs (stopping (RunFault error line) o)
  unfolding applying_two pop_plain popping having answering two_of calculate computing
  add_fault fs o pc x y error stack e = ap (λ r. answering line (an_integer r) o (λ v. on o fs (act inst pc (Of (Integer y) ∷ Of (Integer x) ∷ stack) runs) (Of v ∷ stack) below)) e

  -- `length`
  performs_length : (t : TextVal) (stack : List Value) (o : World) (fs : Frames) (go : World → Frames → Option Plain → List Value → Run Machine) → is_exhausted l.storage o.words 0 ≡ false → performing operand put_back l line name.TextLength (Of (Text t) ∷ stack) o fs go ≡ go o fs (Some (Integer (pos t.length))) stack
  unfolding performing pop_operands popping having standard_effect row_of take_text take_nothing computing putting_back
  performs_length t stack o fs go fits = takes_none l line o (λ p. go (record p { store = o.store }) fs (Some (Integer (pos t.length))) stack) fits

  length_stops : (t : TextVal) (stack : List Value) (o : World) (fs : Frames) (go : World → Frames → Option Plain → List Value → Run Machine) → is_exhausted l.storage o.words 0 ≡ true → performing operand put_back l line name.TextLength (Of (Text t) ∷ stack) o fs go ≡ stopping (StorageExhausted line o.words 0) o
  unfolding performing pop_operands popping having standard_effect row_of take_text take_nothing computing putting_back
  length_stops t stack o fs go full = takes_too_many l line o (λ p. go (record p { store = o.store }) fs (Some (Integer (pos t.length))) stack) 0 full

  length_room : (pc : ℕ) (v : Value) (stack : List Value) → length stack < runs.room → room_for name.TextLength (act inst pc (v ∷ stack) runs) ≡ true
  unfolding row_of
  length_room pc v stack lt = grind (arith, lt)

  pub length_row : (fs : Frames) (o : World) (pc : ℕ) (t : TextVal) (stack : List Value) → is_exhausted l.storage o.words 0 ≡ false → length stack < runs.room → RowIs (i.Std (pos 20)) pc o (Of (Text t) ∷ stack) fs (Going o (st (suc pc) (Of (Integer (pos t.length)) ∷ stack) fs))
  unfolding choosing
  length_row fs o pc t stack fits lt =
      found Standard (standard_of (pos 20)) name.TextLength o _ _ refl (tested (room_for name.TextLength (act inst pc (Of (Text t) ∷ stack) runs)) o _ _ (length_room pc (Of (Text t)) stack lt) (performs_length t stack o fs _ fits))

  pub length_full : (fs : Frames) (o : World) (pc : ℕ) (t : TextVal) (stack : List Value) → is_exhausted l.storage o.words 0 ≡ true → length stack < runs.room → RowIs (i.Std (pos 20)) pc o (Of (Text t) ∷ stack) fs (stopping (StorageExhausted line o.words 0) o)
  unfolding choosing
  length_full fs o pc t stack full lt =
      found Standard (standard_of (pos 20)) name.TextLength o _ _ refl (tested (room_for name.TextLength (act inst pc (Of (Text t) ∷ stack) runs)) o _ _ (length_room pc (Of (Text t)) stack lt) (length_stops t stack o fs _ full))

  -- `blanks`
  abbrev pub made : World → ℕ → World
  made o n = let p : World = record o { words = o.words + (blanks o.store.frames (pos n)).wanted } in with_texts p (blanks o.store.frames (pos n)).frames

  performs_blanks : (n : ℕ) (stack : List Value) (o : World) (fs : Frames) (go : World → Frames → Option Plain → List Value → Run Machine) → is_exhausted l.storage o.words (blanks o.store.frames (pos n)).wanted ≡ false → performing operand put_back l line name.Blanks (Of (Integer (pos n)) ∷ stack) o fs go ≡ go (made o n) fs (Some (Text (new_text o.store.frames (length (spaces n))))) stack
  unfolding performing pop_operands popping having standard_effect row_of take_integer take_nothing computing putting_back
  performs_blanks n stack o fs go fits = takes_some l line o (λ p. go (with_texts (record p { store = o.store }) (blanks o.store.frames (pos n)).frames) fs (Some (Text (new_text o.store.frames (length (spaces n))))) stack) (blanks o.store.frames (pos n)).wanted fits

  blanks_stop : (n : ℕ) (stack : List Value) (o : World) (fs : Frames) (go : World → Frames → Option Plain → List Value → Run Machine) → is_exhausted l.storage o.words (blanks o.store.frames (pos n)).wanted ≡ true → performing operand put_back l line name.Blanks (Of (Integer (pos n)) ∷ stack) o fs go ≡ stopping (StorageExhausted line o.words (blanks o.store.frames (pos n)).wanted) o
  unfolding performing pop_operands popping having standard_effect row_of take_integer take_nothing computing putting_back
  blanks_stop n stack o fs go full = takes_too_many l line o (λ p. go (with_texts (record p { store = o.store }) (blanks o.store.frames (pos n)).frames) fs (Some (Text (new_text o.store.frames (length (spaces n))))) stack) (blanks o.store.frames (pos n)).wanted full

  blanks_room : (pc : ℕ) (v : Value) (stack : List Value) → length stack < runs.room → room_for name.Blanks (act inst pc (v ∷ stack) runs) ≡ true
  unfolding row_of
  blanks_room pc v stack lt = grind (arith, lt)

  pub blanks_row : (fs : Frames) (o : World) (pc n : ℕ) (stack : List Value) → is_exhausted l.storage o.words (blanks o.store.frames (pos n)).wanted ≡ false → length stack < runs.room → RowIs (i.Std (pos 14)) pc o (Of (Integer (pos n)) ∷ stack) fs (Going (made o n) (st (suc pc) (Of (Text (new_text o.store.frames (length (spaces n)))) ∷ stack) fs))
  unfolding choosing
  blanks_row fs o pc n stack fits lt =
      found Standard (standard_of (pos 14)) name.Blanks o _ _ refl (tested (room_for name.Blanks (act inst pc (Of (Integer (pos n)) ∷ stack) runs)) o _ _ (blanks_room pc (Of (Integer (pos n))) stack lt) (performs_blanks n stack o fs _ fits))

  pub blanks_full : (fs : Frames) (o : World) (pc n : ℕ) (stack : List Value) → is_exhausted l.storage o.words (blanks o.store.frames (pos n)).wanted ≡ true → length stack < runs.room → RowIs (i.Std (pos 14)) pc o (Of (Integer (pos n)) ∷ stack) fs (stopping (StorageExhausted line o.words (blanks o.store.frames (pos n)).wanted) o)
  unfolding choosing
  blanks_full fs o pc n stack full lt =
      found Standard (standard_of (pos 14)) name.Blanks o _ _ refl (tested (room_for name.Blanks (act inst pc (Of (Integer (pos n)) ∷ stack) runs)) o _ _ (blanks_room pc (Of (Integer (pos n))) stack lt) (blanks_stop n stack o fs _ full))

  -- `:=` of texts
  pub assign_row : (fs : Frames) (o : World) (pc : ℕ) (left right : TextVal) (stack : List Value) → assign_refusal o.store.frames left right ≡ None → RowIs i.AssignT pc o (Of (Text right) ∷ Of (Text left) ∷ stack) fs (Going (with_texts o (assigned o.store.frames left right)) (st (suc pc) stack fs))
  unfolding assigning pop_text pop_plain popping having computing
  assign_row fs o pc left right stack e =
      let f = o.store.frames in
      ap (λ r. computing line (unless r f left (done (assigned f left right) left tt)).answer o (λ x. on (with_texts o (unless r f left (done (assigned f left right) left tt)).frames) fs (act inst pc (Of (Text right) ∷ Of (Text left) ∷ stack) runs) stack below)) e

  -- `sub`
  performs_sub : (t part : TextVal) (k n : ℕ) (stack : List Value) (o : World) (fs : Frames) (go : World → Frames → Option Plain → List Value → Run Machine) → sub t (pos k) (pos n) ≡ Ok part → is_exhausted l.storage o.words 0 ≡ false → performing operand put_back l line name.TextSub (Of (Integer (pos n)) ∷ Of (Integer (pos k)) ∷ Of (Text t) ∷ stack) o fs go ≡ go o fs (Some (Text part)) stack
  unfolding performing pop_operands popping having standard_effect row_of take_text take_integer take_nothing computing putting_back
  performs_sub t part k n stack o fs go e fits =
      ap (λ r. taking l line 0 o (λ p. computing line (valued Text r) (record p { store = o.store }) (λ value. go (record p { store = o.store }) fs value stack))) e ∙ takes_none l line o (λ p. go (record p { store = o.store }) fs (Some (Text part)) stack) fits

  sub_room : (pc : ℕ) (v x y : Value) (stack : List Value) → length stack < runs.room → room_for name.TextSub (act inst pc (v ∷ x ∷ y ∷ stack) runs) ≡ true
  unfolding row_of
  sub_room pc v x y stack lt = grind (arith, lt)

  pub sub_row : (fs : Frames) (o : World) (pc k n : ℕ) (t part : TextVal) (stack : List Value) → sub t (pos k) (pos n) ≡ Ok part → is_exhausted l.storage o.words 0 ≡ false → length stack < runs.room → RowIs (i.Std (pos 27)) pc o (Of (Integer (pos n)) ∷ Of (Integer (pos k)) ∷ Of (Text t) ∷ stack) fs (Going o (st (suc pc) (Of (Text part) ∷ stack) fs))
  unfolding choosing
  sub_row fs o pc k n t part stack e fits lt =
      found Standard (standard_of (pos 27)) name.TextSub o _ _ refl
      (tested (room_for name.TextSub (act inst pc (Of (Integer (pos n)) ∷ Of (Integer (pos k)) ∷ Of (Text t) ∷ stack) runs)) o _ _ (sub_room pc (Of (Integer (pos n))) (Of (Integer (pos k))) (Of (Text t)) stack lt) (performs_sub t part k n stack o fs _ e fits))
