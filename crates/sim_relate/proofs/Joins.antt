-- `&` is one event of the program. The machine makes thirty-one steps: `blanks` is the one that is matched, those before it leave the
-- world, and those behind it change nothing of what is shown.
use Rattle.std.proofs.Common.{◌≡◌, ◌<◌, ◌+◌, ℕ, suc, Bool, true, false, List, ◌∷◌, length, Option, Some, None, refl, sym, ap, ◌∙◌, subst, arith}
use Rattle.std.specs.Prelude.{Err, ⊤, nat_lt, pos, slice_get, if◌then◌else◌}
use Rattle.sim_base.specs.declared.limits.Limits.{Limits}
use Rattle.sim_base.specs.declared.run_error.RunError.TheVariants.{IntegerOverflow}
use Rattle.sim_scope.specs.Source.{Source, level_of}
use Rattle.sim_values.specs.declared.operators.Dyadic.TheVariants as dyadic
use Rattle.sim_values.specs.declared.value.TextVal.{TextVal}
use Rattle.sim_values.specs.Arithmetic.{is_integer}
use Rattle.sim_values.specs.Operators.{same_texts, two_of}
use Rattle.sim_values.specs.Plain.{Character, Integer, Nothing, Object, Plain, Text, Truth, MainOf}
use Rattle.sim_values.specs.Texts.{Frame, assigned, blanks, concatenated, part, same_text, with_both}
use Rattle.sim_values.specs.Words.{is_exhausted}
use Rattle.sim_code.specs.declared.instr.Instr.{Instr}
use Rattle.sim_code.specs.declared.instr.Instr.TheVariants as i
use Rattle.sim_code.specs.Code.{CodeOf}
use Rattle.sim_code.specs.Outcome.{Ending, Going, Run, RunFault, StorageExhausted, World}
use Rattle.sim_code.specs.Events.{answering, applying_two, computing, having, joining, making_text, no_rule, pop_plain, pop_text, popping, stopping, taking, text_val, with_texts}
use Rattle.sim_code.specs.Instances.{at_level}
use Rattle.sim_code.specs.Machine.{Frames, Machine, Value}
use Rattle.sim_code.specs.Machine as machine
use Rattle.sim_code.specs.Rows.{mstep}
use Rattle.sim_code.proofs.Simulation.{Alike}
use Rattle.sim_meaning.specs.Meaning.{do_op}
use Rattle.sim_meaning.specs.Pending.{Activation, Configuration, Instances, Item, JoinOp, Val, plain}
use Rattle.sim_meaning.specs.Pending as meaning
use Rattle.sim_meaning.specs.Steps.{go}
use Rattle.codegen_expr.specs.CodeExpr.{Stand, join_instrs}
use Rattle.codegen_expr.specs.Sites.{frame_text, own_end}
use Rattle.sim_relate.specs.SameRuns.{seen_world}
use Rattle.sim_relate.proofs.Known.{Every, actual_at, HandAt, Kind, StackAt, ValAt, anys, array_at, element_at, image_at, link_at, more_at, plain_at, site_at, Runs, Settled, procedure_at}
use Rattle.sim_relate.proofs.Relation.{ChainAt, Changed, OpAt, StateAt, StoreAt, WorkAt}
use Rattle.sim_relate.proofs.Carried.{all_every, kept_every, changed_twice}
use Rattle.sim_relate.proofs.Hands.{stack_length}
use Rattle.sim_relate.proofs.Here.{Here, act, goes, kinds_as}
use Rattle.sim_relate.proofs.JoinTexts.{first_assigns, frames1, new, second_assigns, smaller, sub_is, sum_bad, sum_ok}
use Rattle.sim_relate.proofs.Living.{own_level}
use Rattle.sim_relate.proofs.Moved.{moved, work_moved}
use Rattle.sim_relate.proofs.Ranked.{AlikeIn, both_no_rule, both_stopping, Catches, InEach, Meets, caught, first, lags, meets, simply}
use Rattle.sim_relate.proofs.Stores.{levels_same, scratch_written}
use Rattle.sim_relate.proofs.Straight.{RowIs, add_fault, add_row, assign_row, blanks_full, blanks_row, dup_row, int_row, length_full, length_row, load_row, made, pop_row, same_row, st, stands_at, stands_to, step_at, store_row, sub_row, takes_none, takes_some, takes_too_many, up}

-- ---- texts in hand

abbrev NoText : Option Plain → Type 0
NoText None = ⊤
NoText (Some (Text t)) = ⊥
NoText (Some p) = ⊤

-- a value is a text on both sides, or on none
data TextOr (v : Val) (x : Value) : Type 0 where
  is_text : (t : TextVal) → v ≡ meaning.Of (Text t) → x ≡ machine.Of (Text t) → TextOr v x
  no_text : NoText (plain v) → NoText (machine.plain x) → TextOr v x

plain_text : (p : Plain) → TextOr (meaning.Of p) (machine.Of p)
plain_text (Integer z) = no_text tt tt
plain_text (Truth c) = no_text tt tt
plain_text (Character c) = no_text tt tt
plain_text (Text t) = is_text t refl refl
plain_text (Object j) = no_text tt tt
plain_text (MainOf j) = no_text tt tt
plain_text Nothing = no_text tt tt

text_or : {s : Source} {code : CodeOf} {m : Instances} (v : Val) (x : Value) → ValAt s code m v x → TextOr v x
text_or _ _ (plain_at {p}) = plain_text p
text_or _ _ link_at = no_text tt tt
text_or _ _ array_at = no_text tt tt
text_or _ _ element_at = no_text tt tt
text_or _ _ image_at = no_text tt tt
text_or _ _ (actual_at h) = no_text tt tt
text_or _ _ (procedure_at h) = no_text tt tt

module _ {S : Type 0} (o : World) where
  none_goes : (p : Option Plain) (go : TextVal → Run S) → NoText p → having p o (λ v. having (text_val v) o go) ≡ no_rule o
  unfolding having
  none_goes None go h = refl
  none_goes (Some (Integer z)) go h = refl
  none_goes (Some (Truth c)) go h = refl
  none_goes (Some (Character c)) go h = refl
  none_goes (Some (Text t)) go h = absurd h
  none_goes (Some (Object j)) go h = refl
  none_goes (Some (MainOf j)) go h = refl
  none_goes (Some Nothing) go h = refl

  -- `==` of two values that are not both texts
  right_none : (line : ℕ) (frames : List Frame) (p r : Option Plain) (go : Plain → Run S) → NoText p → having p o (λ y. having r o (λ x. answering line (two_of dyadic.SameText frames x y) o go)) ≡ no_rule o
  unfolding having answering two_of same_texts
  right_none line frames None r go h = refl
  right_none line frames (Some (Text t)) r go h = absurd h
  right_none line frames (Some (Integer z)) None go h = refl
  right_none line frames (Some (Truth c)) None go h = refl
  right_none line frames (Some (Character c)) None go h = refl
  right_none line frames (Some (Object j)) None go h = refl
  right_none line frames (Some (MainOf j)) None go h = refl
  right_none line frames (Some Nothing) None go h = refl
  right_none line frames (Some (Integer z)) (Some x) go h = refl
  right_none line frames (Some (Truth c)) (Some x) go h = refl
  right_none line frames (Some (Character c)) (Some x) go h = refl
  right_none line frames (Some (Object j)) (Some x) go h = refl
  right_none line frames (Some (MainOf j)) (Some x) go h = refl
  right_none line frames (Some Nothing) (Some x) go h = refl

  left_none : (line : ℕ) (frames : List Frame) (t : TextVal) (r : Option Plain) (go : Plain → Run S) → NoText r → having r o (λ x. answering line (two_of dyadic.SameText frames x (Text t)) o go) ≡ no_rule o
  unfolding having answering two_of same_texts
  left_none line frames t None go h = refl
  left_none line frames t (Some (Text x)) go h = absurd h
  left_none line frames t (Some (Integer z)) go h = refl
  left_none line frames t (Some (Truth c)) go h = refl
  left_none line frames t (Some (Character c)) go h = refl
  left_none line frames t (Some (Object j)) go h = refl
  left_none line frames t (Some (MainOf j)) go h = refl
  left_none line frames t (Some Nothing) go h = refl

-- words that were in the budget stay so
fits_on : (storage used wanted : ℕ) → is_exhausted storage used wanted ≡ false → is_exhausted storage (used + wanted) 0 ≡ false
fits_on storage used wanted e = let same : used + wanted + 0 ≡ used + wanted = omega arith in ap (nat_lt storage) same ∙ e

module _ (s : Source) (code : CodeOf) (l : Limits) (o : World) (m : Instances) (inst : ℕ) (w : List Item) (vals : List Val) (rest : List Activation) (fs : Frames) (t : ℕ) (b : Runs) (pc : ℕ) (stack : List Value) (below : List machine.Activation) (ks : List Kind) (here : Here s code m fs inst rest t b ks vals stack) (u q : ℕ) (ks' : List Kind) (low : Settled s code t b u) (k : WorkAt s code m fs (λ v. ChainAt s code m fs rest v below) inst t b u w q ks') where
  abbrev R : Configuration → Machine → Type 0
  R = StateAt s code

  abbrev g : World → Machine → Run Machine
  g = mstep code l

  -- frames in which temps of expressions have other values
  abbrev Temps : Frames → Type 0
  Temps f = Changed s code Every m fs m f

  module _ (line temp : ℕ) (left : List Kind) (first_is : temp ≡ own_end s code (frame_text s t)) (within : suc (suc temp) < length b.block.types) (room : suc (suc (length left)) < b.limit) (joins : Stand code line (join_instrs (level_of s t) temp) pc q) (out : ks' ≡ anys 1 left)
      (vals' : List Val) (stack' : List Value) (hands : StackAt (HandAt s code m) left vals' stack') where
    abbrev lev : ℕ
    lev = level_of s t

    abbrev at : ℕ → List Value → Frames → Machine
    at n stk f = st code l line inst b below (up n pc) stk f

    abbrev Row : Instr → ℕ → World → List Value → Frames → Run Machine → Type 0
    Row x n p stk f z = RowIs code l line inst b below x (up n pc) p stk f z

    deep : length left ≡ length stack'
    deep = stack_length left vals' stack' hands

    fits2 : suc (suc (length stack')) < b.room
    fits2 =
        let e = deep in
        let roomy = here.roomy in
        omega (arith, e, room, roomy)

    fits1 : suc (length stack') < b.room
    fits1 = let fits = fits2 in omega (arith, fits)

    fits0 : length stack' < b.room
    fits0 = let fits = fits2 in omega (arith, fits)

    own_frame : (f : Frames) → StoreAt s code m f → at_level f lev inst ≡ Some inst
    own_frame f store = levels_same s code store lev inst ∙ own_level s m inst t here.stands here.lives

    -- ---- steps

    steps : (n : ℕ) (x : Instr) (p : World) (stk : List Value) (f : Frames) (z : Run Machine) → slice_get (join_instrs lev temp) n ≡ Some x → Row x n p stk f z → g p (at n stk f) ≡ z
    steps n x p stk f z e a = step_at code l line inst b below x (up n pc) (suc (up n pc)) p stk f z (stands_at code line (join_instrs lev temp) pc q joins n x e) a

    silent : {r : Run Configuration} {stk stk' : List Value} {f f' : Frames} (n : ℕ) (x : Instr) → slice_get (join_instrs lev temp) n ≡ Some x → Row x n o stk f (Going o (at (suc n) stk' f')) → Meets g (InEach R) r o (at (suc n) stk' f') → Meets g (InEach R) r o (at n stk f)
    silent {stk = stk} {f = f} n x e a more = first (steps n x o stk f _ e a) more

    lag : {r : Run Configuration} {p p' : World} {stk stk' : List Value} {f f' : Frames} (n : ℕ) (x : Instr) → slice_get (join_instrs lev temp) n ≡ Some x → Row x n p stk f (Going p' (at (suc n) stk' f')) → seen_world p None ≡ seen_world p' None → Catches g (InEach R) r (Going p' (at (suc n) stk' f')) → Catches g (InEach R) r (Going p (at n stk f))
    lag {p = p} {stk = stk} {f = f} n x e a same more = lags (steps n x p stk f _ e a) same more

    both_end : (r : Run Configuration) (x : Machine) → r ≡ no_rule o → g o x ≡ no_rule o → Meets g (InEach R) r o x
    both_end r x e f = meets (caught (subst (λ z. AlikeIn (InEach R) r z) (sym f) (subst (λ z. AlikeIn (InEach R) z (no_rule o)) (sym e) (both_no_rule o))))

    both_stop : (e : Ending) (r : Run Configuration) (x : Machine) → r ≡ stopping e o → g o x ≡ stopping e o → Meets g (InEach R) r o x
    both_stop e r x f h = meets (caught (subst (λ z. AlikeIn (InEach R) r z) (sym h) (subst (λ z. AlikeIn (InEach R) z (stopping e o)) (sym f) (both_stopping e o))))

    -- the end
    ends : (p : World) (f : Frames) → Temps f → (x : TextVal) → Alike R (go p m inst w (meaning.Of (Text x) ∷ vals') rest) (Going p (at 31 (machine.Of (Text x) ∷ stack') f))
    ends p f temps x =
        goes s code u q (moved s code temps (kept_every m) here (kinds_as s code (sym out) (more_at plain_at hands)))
        (work_moved s code temps here (all_every rest) below u (λ frame c le within lt. temps.keeps.temps inst t c b.block tt here.stands here.found (record { behind = le; within = within })) w q ks' k) (stands_to code line (join_instrs lev temp) pc q joins)

    -- what `&` does in the program
    abbrev joined_run : Val → Val → Run Configuration
    joined_run v v' = joining plain l line (v ∷ v' ∷ vals') o (λ z p vals. go p m inst w (meaning.Of z ∷ vals) rest)

    no_right : (v v' : Val) → NoText (plain v) → joined_run v v' ≡ no_rule o
    unfolding joining pop_text pop_plain popping
    no_right v v' h = none_goes o (plain v) _ h

    no_left : (y : TextVal) (v' : Val) → NoText (plain v') → joined_run (meaning.Of (Text y)) v' ≡ no_rule o
    unfolding joining pop_text pop_plain popping having
    no_left y v' h = none_goes o (plain v') _ h

    row_no_right : (x x' : Value) (f : Frames) → NoText (machine.plain x) → Row i.SameT 4 o (x ∷ x' ∷ stack') f (no_rule o)
    unfolding applying_two pop_plain popping
    row_no_right x x' f h = right_none o line o.store.frames (machine.plain x) (machine.plain x') _ h

    row_no_left : (y : TextVal) (x' : Value) (f : Frames) → NoText (machine.plain x') → Row i.SameT 4 o (machine.Of (Text y) ∷ x' ∷ stack') f (no_rule o)
    unfolding applying_two pop_plain popping having
    row_no_left y x' f h = left_none o line o.store.frames y (machine.plain x') _ h

    -- ---- two texts

    module _ (ta tb : TextVal) (f : Frames) (temps : Temps f) (in_a : machine.cell f inst temp ≡ Some (machine.Of (Text ta))) (in_b : machine.cell f inst (suc temp) ≡ Some (machine.Of (Text tb))) where
      abbrev va : Value
      va = machine.Of (Text ta)

      abbrev vb : Value
      vb = machine.Of (Text tb)

      abbrev la : ℕ
      la = ta.length

      abbrev lb : ℕ
      lb = tb.length

      abbrev frames : List Frame
      frames = o.store.frames

      abbrev text_run : Run Configuration
      text_run = joined_run (meaning.Of (Text tb)) (meaning.Of (Text ta))

      abbrev made_run : World → Run Configuration
      made_run p = making_text l line (concatenated p.store.frames ta tb) p (λ t p. go p m inst w (meaning.Of (Text t) ∷ vals') rest)

      opens : text_run ≡ taking l line 0 o made_run
      unfolding joining pop_text pop_plain popping having
      opens = refl

      overflows : is_integer (pos (la + 1 + lb)) ≡ false → is_exhausted l.storage o.words 0 ≡ false → made_run o ≡ stopping (RunFault IntegerOverflow line) o
      unfolding making_text computing
      overflows e fits =
          ap (λ c. let x = blanks frames (pos (la + lb)) in making_text l line (if c then with_both x x.answer ta tb else record { wanted = 0; frames = frames; answer = Err IntegerOverflow }) o (λ t p. go p m inst w (meaning.Of (Text t) ∷ vals') rest)) e ∙
          takes_none l line o (λ p. computing line (Err IntegerOverflow) (with_texts p frames) (λ t. go (with_texts p frames) m inst w (meaning.Of (Text t) ∷ vals') rest)) fits

      abbrev words : ℕ
      words = (blanks frames (pos (la + lb))).wanted

      abbrev both_frames : List Frame
      both_frames = assigned (assigned (frames1 frames ta tb) (new frames ta tb) ta) (part (new frames ta tb) (la + 1) lb) tb

      abbrev after_words : World → Run Configuration
      after_words p = go (with_texts p both_frames) m inst w (meaning.Of (Text (new frames ta tb)) ∷ vals') rest

      taken : is_integer (pos (la + 1 + lb)) ≡ true → made_run o ≡ taking l line words o after_words
      unfolding making_text computing
      taken e = ap (λ c. let x = blanks frames (pos (la + lb)) in making_text l line (if c then with_both x x.answer ta tb else record { wanted = 0; frames = frames; answer = Err IntegerOverflow }) o (λ t p. go p m inst w (meaning.Of (Text t) ∷ vals') rest)) e

      -- behind `blanks`
      behind_blanks : is_integer (pos (la + 1 + lb)) ≡ true → is_exhausted l.storage o.words words ≡ false → Catches g (InEach R) (after_words (let p : World = record o { words = o.words + words } in p)) (Going (made code l line inst b below o (la + lb)) (at 16 (machine.Of (Text (new frames ta tb)) ∷ stack') f))
      behind_blanks big fits =
          let one_more = smaller (la + 1) (la + 1 + lb) (omega arith) big in
          let vr : Value = machine.Of (Text (new frames ta tb)) in
          let r = scratch_written s code m f inst t b (suc (suc temp)) vr temps.store here.stands here.lives here.found (omega (arith, first_is)) (omega (arith, first_is)) within in
          let e = own_frame f temps.store in
          let e3 = own_frame r.frames r.changed.store in
          let in_a3 : machine.cell r.frames inst temp ≡ Some va = r.reads_others temp (λ same. (let no : ⊥ = omega (arith, same) in no)) ∙ in_a in
          let in_b3 : machine.cell r.frames inst (suc temp) ≡ Some vb = r.reads_others (suc temp) (λ same. (let no : ⊥ = omega (arith, same) in no)) ∙ in_b in
          let o2 = made code l line inst b below o (la + lb) in
          let o3 = with_texts o2 (assigned (frames1 frames ta tb) (new frames ta tb) ta) in
          let o4 = with_texts o3 both_frames in
          let full : is_exhausted l.storage (o.words + words) 0 ≡ false = fits_on l.storage o.words words fits in
          let h0 = load_row code l line inst b below r.frames in
          lag 16 (i.Store (pos lev) (pos (suc (suc temp)))) refl (store_row code l line inst b below f r.frames o2 (up 16 pc) vr stack' lev (suc (suc temp)) e r.is) refl
          (lag 17 (i.Load (pos lev) (pos (suc (suc temp)))) refl (h0 o2 (up 17 pc) stack' lev (suc (suc temp)) vr e3 r.reads fits0) refl
          (lag 18 (i.Load (pos lev) (pos temp)) refl (h0 o2 (up 18 pc) (vr ∷ stack') lev temp va e3 in_a3 fits1) refl
          (lag 19 i.AssignT refl (assign_row code l line inst b below r.frames o2 (up 19 pc) (new frames ta tb) ta stack' (first_assigns frames ta tb)) refl
          (lag 20 (i.Load (pos lev) (pos (suc (suc temp)))) refl (h0 o3 (up 20 pc) stack' lev (suc (suc temp)) vr e3 r.reads fits0) refl
          (lag 21 (i.Load (pos lev) (pos temp)) refl (h0 o3 (up 21 pc) (vr ∷ stack') lev temp va e3 in_a3 fits1) refl
          (lag 22 (i.Std (pos 20)) refl (length_row code l line inst b below r.frames o3 (up 22 pc) ta (vr ∷ stack') full fits1) refl
          (lag 23 (i.Int (pos 1)) refl (int_row code l line inst b below r.frames o3 (up 23 pc) (machine.Of (Integer (pos la)) ∷ vr ∷ stack') (pos 1) fits2) refl
          (lag 24 i.Add refl (add_row code l line inst b below r.frames o3 (up 24 pc) (pos la) (pos 1) (pos (la + 1)) (vr ∷ stack') (sum_ok la 1 (la + 1) refl one_more)) refl
          (lag 25 (i.Load (pos lev) (pos (suc temp))) refl (h0 o3 (up 25 pc) (machine.Of (Integer (pos (la + 1))) ∷ vr ∷ stack') lev (suc temp) vb e3 in_b3 fits2) refl
          (lag 26 (i.Std (pos 20)) refl (length_row code l line inst b below r.frames o3 (up 26 pc) tb (machine.Of (Integer (pos (la + 1))) ∷ vr ∷ stack') full fits2) refl
          (lag 27 (i.Std (pos 27)) refl (sub_row code l line inst b below r.frames o3 (up 27 pc) (la + 1) lb (new frames ta tb) (part (new frames ta tb) (la + 1) lb) stack' (sub_is frames ta tb) full fits0) refl
          (lag 28 (i.Load (pos lev) (pos (suc temp))) refl (h0 o3 (up 28 pc) (machine.Of (Text (part (new frames ta tb) (la + 1) lb)) ∷ stack') lev (suc temp) vb e3 in_b3 fits1) refl
          (lag 29 i.AssignT refl (assign_row code l line inst b below r.frames o3 (up 29 pc) (part (new frames ta tb) (la + 1) lb) tb stack' (second_assigns frames ta tb)) refl
          (lag 30 (i.Load (pos lev) (pos (suc (suc temp)))) refl (h0 o4 (up 30 pc) stack' lev (suc (suc temp)) vr e3 r.reads fits0) refl
          (caught (simply (λ p same. absurd (cc)) (ends o4 r.frames (changed_twice s code temps r.changed) (new frames ta tb))))))))))))))))))

      abbrev sums : List Value
      sums = machine.Of (Integer (pos (la + lb))) ∷ stack'

      words_split : (c : Bool) → is_exhausted l.storage o.words words ≡ c → is_integer (pos (la + 1 + lb)) ≡ true → Meets g (InEach R) (made_run o) o (at 15 sums f)
      words_split true e big =
          both_stop (StorageExhausted line o.words words) (made_run o) (at 15 sums f) (taken big ∙ takes_too_many l line o after_words words e) (steps 15 (i.Std (pos 14)) o sums f _ refl (blanks_full code l line inst b below f o (up 15 pc) (la + lb) stack' e fits0))
      words_split false e big =
          meets (subst (λ z. Catches g (InEach R) (made_run o) z) (sym (steps 15 (i.Std (pos 14)) o sums f _ refl (blanks_row code l line inst b below f o (up 15 pc) (la + lb) stack' e fits0)))
          (subst (λ z. Catches g (InEach R) z (Going (made code l line inst b below o (la + lb)) (at 16 (machine.Of (Text (new frames ta tb)) ∷ stack') f))) (sym (taken big ∙ takes_some l line o after_words words e)) (behind_blanks big e)))

      abbrev lengths : List Value
      lengths = machine.Of (Integer (pos lb)) ∷ machine.Of (Integer (pos la)) ∷ stack'

      sum_of_both : is_integer (pos (la + lb)) ≡ true → Meets g (InEach R) (made_run o) o (at 13 (machine.Of (Integer (pos 1)) ∷ machine.Of (Integer (pos (la + lb))) ∷ sums) f) → Meets g (InEach R) (made_run o) o (at 10 lengths f)
      sum_of_both small more =
          silent 10 i.Add refl (add_row code l line inst b below f o (up 10 pc) (pos la) (pos lb) (pos (la + lb)) stack' (sum_ok la lb (la + lb) refl small))
          (silent 11 i.Dup refl (dup_row code l line inst b below f o (up 11 pc) (machine.Of (Integer (pos (la + lb)))) stack' fits1)
          (silent 12 (i.Int (pos 1)) refl (int_row code l line inst b below f o (up 12 pc) (machine.Of (Integer (pos (la + lb))) ∷ sums) (pos 1) fits2) more))

      sum_too_great : (c : Bool) → is_integer (pos (la + lb)) ≡ c → is_integer (pos (la + 1 + lb)) ≡ false → is_exhausted l.storage o.words 0 ≡ false → Meets g (InEach R) (made_run o) o (at 10 lengths f)
      sum_too_great false small e fits =
          both_stop (RunFault IntegerOverflow line) (made_run o) (at 10 lengths f) (overflows e fits) (steps 10 i.Add o lengths f _ refl (add_fault code l line inst b below f o (up 10 pc) (pos la) (pos lb) IntegerOverflow stack' (sum_bad la lb (la + lb) refl small)))
      sum_too_great true small e fits =
          sum_of_both small
          (both_stop (RunFault IntegerOverflow line) (made_run o) (at 13 (machine.Of (Integer (pos 1)) ∷ machine.Of (Integer (pos (la + lb))) ∷ sums) f) (overflows e fits)
          (steps 13 i.Add o (machine.Of (Integer (pos 1)) ∷ machine.Of (Integer (pos (la + lb))) ∷ sums) f _ refl (add_fault code l line inst b below f o (up 13 pc) (pos (la + lb)) (pos 1) IntegerOverflow sums (sum_bad (la + lb) 1 (la + 1 + lb) (omega arith) e))))

      sum_split : (c : Bool) → is_integer (pos (la + 1 + lb)) ≡ c → is_exhausted l.storage o.words 0 ≡ false → Meets g (InEach R) (made_run o) o (at 10 lengths f)
      sum_split false e fits = sum_too_great (is_integer (pos (la + lb))) refl e fits
      sum_split true e fits =
          sum_of_both (smaller (la + lb) (la + 1 + lb) (omega arith) e)
          (silent 13 i.Add refl (add_row code l line inst b below f o (up 13 pc) (pos (la + lb)) (pos 1) (pos (la + 1 + lb)) sums (sum_ok (la + lb) 1 (la + 1 + lb) (omega arith) e))
          (silent 14 i.Pop refl (pop_row code l line inst b below f o (up 14 pc) (machine.Of (Integer (pos (la + 1 + lb)))) sums) (words_split (is_exhausted l.storage o.words words) refl e)))

      length_split : (c : Bool) → is_exhausted l.storage o.words 0 ≡ c → Meets g (InEach R) text_run o (at 7 (va ∷ stack') f)
      length_split true e =
          both_stop (StorageExhausted line o.words 0) text_run (at 7 (va ∷ stack') f) (opens ∙ takes_too_many l line o made_run 0 e) (steps 7 (i.Std (pos 20)) o (va ∷ stack') f _ refl (length_full code l line inst b below f o (up 7 pc) ta stack' e fits0))
      length_split false e =
          subst (λ z. Meets g (InEach R) z o (at 7 (va ∷ stack') f)) (sym (opens ∙ takes_none l line o made_run e))
          (silent 7 (i.Std (pos 20)) refl (length_row code l line inst b below f o (up 7 pc) ta stack' e fits0)
          (silent 8 (i.Load (pos lev) (pos (suc temp))) refl (load_row code l line inst b below f o (up 8 pc) (machine.Of (Integer (pos la)) ∷ stack') lev (suc temp) vb (own_frame f temps.store) in_b fits1)
          (silent 9 (i.Std (pos 20)) refl (length_row code l line inst b below f o (up 9 pc) tb (machine.Of (Integer (pos la)) ∷ stack') e fits1) (sum_split (is_integer (pos (la + 1 + lb))) refl e))))

      text_meets : Meets g (InEach R) text_run o (at 4 (vb ∷ va ∷ stack') f)
      text_meets =
          silent 4 i.SameT refl (same_row code l line inst b below f o (up 4 pc) ta tb stack')
          (silent 5 i.Pop refl (pop_row code l line inst b below f o (up 5 pc) (machine.Of (Truth (same_text ta tb))) stack')
          (silent 6 (i.Load (pos lev) (pos temp)) refl (load_row code l line inst b below f o (up 6 pc) stack' lev temp va (own_frame f temps.store) in_a fits0) (length_split (is_exhausted l.storage o.words 0) refl)))

    -- ---- two values

    after_loads : (v v' : Val) (x x' : Value) → TextOr v x → TextOr v' x' → (f : Frames) → Temps f → machine.cell f inst temp ≡ Some x' → machine.cell f inst (suc temp) ≡ Some x → Meets g (InEach R) (joined_run v v') o (at 4 (x ∷ x' ∷ stack') f)
    after_loads v v' x x' (no_text h h') a f temps in_a in_b = both_end (joined_run v v') (at 4 (x ∷ x' ∷ stack') f) (no_right v v' h) (steps 4 i.SameT o (x ∷ x' ∷ stack') f _ refl (row_no_right x x' f h'))
    after_loads v v' x x' (is_text tb ev ex) (no_text h h') f temps in_a in_b =
        both_end (joined_run v v') (at 4 (x ∷ x' ∷ stack') f) (ap (λ z. joined_run z v') ev ∙ no_left tb v' h)
        (steps 4 i.SameT o (x ∷ x' ∷ stack') f (no_rule o) refl (subst (λ z. Row i.SameT 4 o (z ∷ x' ∷ stack') f (no_rule o)) (sym ex) (row_no_left tb x' f h')))
    after_loads v v' x x' (is_text tb ev ex) (is_text ta ev' ex') f temps in_a in_b =
        subst (λ z. Meets g (InEach R) (joined_run z v') o (at 4 (x ∷ x' ∷ stack') f)) (sym ev)
        (subst (λ z. Meets g (InEach R) (joined_run (meaning.Of (Text tb)) z) o (at 4 (x ∷ x' ∷ stack') f)) (sym ev')
        (subst (λ z. Meets g (InEach R) (joined_run (meaning.Of (Text tb)) (meaning.Of (Text ta))) o (at 4 (z ∷ x' ∷ stack') f)) (sym ex)
        (subst (λ z. Meets g (InEach R) (joined_run (meaning.Of (Text tb)) (meaning.Of (Text ta))) o (at 4 (machine.Of (Text tb) ∷ z ∷ stack') f)) (sym ex') (text_meets ta tb f temps (in_a ∙ ap Some ex') (in_b ∙ ap Some ex)))))

    starts : (v v' : Val) (x x' : Value) → ValAt s code m v x → ValAt s code m v' x' → Meets g (InEach R) (joined_run v v') o (at 0 (x ∷ x' ∷ stack') fs)
    starts v v' x x' h h' =
        let r1 = scratch_written s code m fs inst t b (suc temp) x here.store here.stands here.lives here.found (omega (arith, first_is)) (omega (arith, first_is)) (omega (arith, within)) in
        let r2 = scratch_written s code m r1.frames inst t b temp x' r1.changed.store here.stands here.lives here.found (omega (arith, first_is)) (omega (arith, first_is)) (omega (arith, within)) in
        let in_b : machine.cell r2.frames inst (suc temp) ≡ Some x = r2.reads_others (suc temp) (λ same. (let no : ⊥ = omega (arith, same) in no)) ∙ r1.reads in
        let e2 = own_frame r2.frames r2.changed.store in
        silent 0 (i.Store (pos lev) (pos (suc temp))) refl (store_row code l line inst b below fs r1.frames o (up 0 pc) x (x' ∷ stack') lev (suc temp) (own_frame fs here.store) r1.is)
        (silent 1 (i.Store (pos lev) (pos temp)) refl (store_row code l line inst b below r1.frames r2.frames o (up 1 pc) x' stack' lev temp (own_frame r1.frames r1.changed.store) r2.is)
        (silent 2 (i.Load (pos lev) (pos temp)) refl (load_row code l line inst b below r2.frames o (up 2 pc) stack' lev temp x' e2 r2.reads fits0)
        (silent 3 (i.Load (pos lev) (pos (suc temp))) refl (load_row code l line inst b below r2.frames o (up 3 pc) (x' ∷ stack') lev (suc temp) x e2 in_b fits1)
        (after_loads v v' x x' (text_or v x h) (text_or v' x' h') r2.frames (changed_twice s code r1.changed r2.changed) r2.reads in_b))))

  in_hands : (line : ℕ) (left : List Kind) (vs : List Val) (xs : List Value) → StackAt (HandAt s code m) (anys 2 left) vs xs → (temp : ℕ) → temp ≡ own_end s code (frame_text s t) → suc (suc temp) < length b.block.types → suc (suc (length left)) < b.limit → Stand code line (join_instrs (level_of s t) temp) pc q → ks' ≡ anys 1 left
      → Meets g (InEach R) (joining plain l line vs o (λ z p vals. go p m inst w (meaning.Of z ∷ vals) rest)) o (record { chain = act inst pc xs b ∷ below; memory = fs })
  in_hands line left _ _ (more_at {v = v} {x = x} h (more_at {v = v'} {vals = vals'} {x = x'} {stack = stack'} h' hands)) temp first_is within room joins out = starts line temp left first_is within room joins out vals' stack' hands v v' x x' h h'

  pub join : (line : ℕ) → OpAt s code m fs inst (site_at t b u) (JoinOp line) pc q ks ks' → Meets (mstep code l) (InEach (StateAt s code)) (do_op s l o m inst w vals rest (JoinOp line)) o (record { chain = act inst pc stack b ∷ below; memory = fs })
  join line a = let j = a.joins in in_hands line a.left vals stack (kinds_as s code a.«in» here.values) b.temps (low.at).temps j.within j.room j.joins a.out
