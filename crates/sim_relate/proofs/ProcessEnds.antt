-- The end of a process, behind `inner` of the level of the class `process`: the machine finds the process's own class, whose end has the line, or
-- for an object of that class itself the token that it keeps, and passivates there. It alone makes the tests before.
use Rattle.std.proofs.Common.{◌≡◌, ◌<◌, ℕ, zero, suc, Bool, true, false, List, [], ◌∷◌, length, Some, refl, sym, ap, ◌∙◌, subst, arith, ◌⊎◌, inl, inr, ◌≤◌, ◌+◌, ◌-◌, Option, None}
use Rattle.std.proofs.lemmas.Option.{slice_get_past}
use Rattle.std.specs.declared.cmp.Ordering.TheVariants as order
use Rattle.std.specs.Ordering.{int_cmp}
use Rattle.std.specs.Prelude.{◌==◌, pos, slice_get, Ok, ℤ, negsuc, cond, int_lt}
use Rattle.sim_scope.specs.Access.{joined}
use Rattle.sim_base.specs.declared.limits.Limits.{Limits}
use Rattle.notices.specs.Scheduling.{passivated}
use Rattle.sim_scope.specs.Source.{Source, level_of, denoted, line_at}
use Rattle.sim_values.specs.declared.operators.Comparison.TheVariants as comparison
use Rattle.sim_values.specs.declared.standard.Standard.{Standard}
use Rattle.sim_values.specs.declared.standard.Standard.TheVariants as name
use Rattle.sim_values.specs.Plain.{Object, Plain, Truth, Integer, Character, Text as PlainText, MainOf, Nothing}
use Rattle.sim_code.specs.declared.instr.Instr.{Instr}
use Rattle.sim_code.specs.declared.instr.Instr.TheVariants as i
use Rattle.sim_code.specs.Classes as classes
use Rattle.sim_code.specs.Code.{CodeOf}
use Rattle.sim_code.specs.Events.{choosing, having, pop_plain, popping, answering, applying_two, computing, no_rule}
use Rattle.sim_code.specs.Instances.{Instance, at_level, encloser_of, live}
use Rattle.sim_code.specs.Levels.{ending_process, frame_if}
use Rattle.sim_code.specs.Machine.{Frames, Link, Machine, Of, Value, index, level, link_in}
use Rattle.sim_code.specs.Machine as machine
use Rattle.sim_code.specs.Names.{standard_names}
use Rattle.sim_code.specs.Outcome.{Ended, Going, NoRule, Run, Simulation, World}
use Rattle.sim_code.specs.Rows.{mstep, standard_of}
use Rattle.sim_code.specs.Rows as rows
use Rattle.sim_code.specs.Scheduling.{performing_simulation, pop_block}
use Rattle.sim_code.specs.Simulations.{located, with_ended}
use Rattle.sim_code.proofs.Lifts.{alike_first, alike_same, Both}
use Rattle.sim_code.proofs.Simulation.{Alike}
use Rattle.sim_meaning.specs.Levels.{end_line, end_line_of, has_levels, is_class, is_of, text_is, class_at, class_denoted, end_line_if, is_process_class, is_process_itself, is_standard_text, last_line, line_before, line_of_origin, origin_line}
use Rattle.sim_meaning.specs.Meaning.{do_op}
use Rattle.sim_meaning.specs.Objects.{decided}
use Rattle.sim_meaning.specs.Pending.{Activation, Configuration, EndProcessOp, Held, Instances, Item, Val, Origin, cell}
use Rattle.sim_meaning.specs.Pending as meaning
use Rattle.sim_meaning.specs.Texts.{text, BlockText, ClassText, ConnectionText, PrefixedText, ProcedureText, StandardText, Text}
use Rattle.codegen_expr.specs.Sites.{class_number, HasCell, slot_of}
use Rattle.codegen.specs.CodeStm.{EndOfAt, EndsAt, OriginEndAt, LastEndAt, OriginsAt, is_class_text, is_same, means, origins, origins_from, with_subclass}
use Rattle.codegen.specs.Compiled.{Compiled}
use Rattle.sim_values.specs.Operators.{compare, holds, two_of}
use Rattle.sim_relate.proofs.Subclasses.{class_is}
use Rattle.sim_relate.proofs.Layouts.{less_or}
use Rattle.sim_relate.proofs.ClassLevels.{levels_solid}
use Rattle.sim_relate.proofs.Components.{decides}
use Rattle.sim_relate.proofs.Here.{Here, act}
use Rattle.sim_relate.proofs.Known.{HandAt, Kind, Runs, Spot, StackAt, behind_process, is_process_level, none_at, site_at, ValAt, is_process_in, plain_at}
use Rattle.sim_relate.proofs.LevelCode.{levels_around}
use Rattle.sim_relate.proofs.Living.{lives_now, own_level, reached}
use Rattle.sim_relate.proofs.ObjectsHere.{ObjectHere, class_named, is_of_same, object_here, text_here}
use Rattle.sim_relate.proofs.Ranked.{InEach, Meets, caught, simply}
use Rattle.sim_relate.proofs.Reach.{EncloserSeen, encloser_seen}
use Rattle.sim_relate.proofs.Relation.{ChainAt, EndProcessIs, StateAt, WorkAt}
use Rattle.sim_relate.proofs.Settle.{comes_over}
use Rattle.sim_relate.proofs.Silent.{jumps, matched, place_at, silent, stays_row}
use Rattle.sim_relate.proofs.Simulations.{ends_told}
use Rattle.sim_relate.proofs.Stores.{levels_same, cell_read}
use Rattle.sim_relate.proofs.Straight.{RowIs, found, pushes_on, step_at, int_row, load_row}
use Rattle.sim_relate.proofs.Waiting.{NoValue, Wait, GetsIs}
use Rattle.sim_relate.proofs.Carried.{work_flag}

-- ---- integers

abbrev equal : ℤ → ℤ → Bool
equal x y = holds comparison.Equal (int_cmp x y)

equal_same : (x y : ℤ) → equal x y ≡ true → x ≡ y
equal_same x y e = by (int_lt x y) (int_lt y x) refl refl e
  where
    by : (c d : Bool) → int_lt x y ≡ c → int_lt y x ≡ d → holds comparison.Equal (cond c order.Less (cond d order.Greater order.Equal)) ≡ true → x ≡ y
    by true d ec ed h = absurd (cc (h))
    by false true ec ed h = absurd (cc (h))
    by false false ec ed h = grind (arith, ec, ed)

equal_itself : (x : ℤ) → equal x x ≡ true
equal_itself x = let no : int_lt x x ≡ false = grind arith in ap (λ z. holds comparison.Equal (cond z order.Less (cond z order.Greater order.Equal))) no

-- ---- classes and tokens

class_ordinary : (x : Option Text) → is_class_text x ≡ true → is_standard_text is_process_class x ≡ false
class_ordinary None e = absurd (cc (e))
class_ordinary (Some (BlockText begin ds ss)) e = absurd (cc (e))
class_ordinary (Some (ProcedureText result h a)) e = absurd (cc (e))
class_ordinary (Some (ClassText prefix h ds ss)) e = refl
class_ordinary (Some (PrefixedText class es ds ss)) e = absurd (cc (e))
class_ordinary (Some ConnectionText) e = absurd (cc (e))
class_ordinary (Some (StandardText which)) e = absurd (cc (e))

not_itself : (s : Source) (k : ℕ) → is_class_text (text s k) ≡ true → is_process_itself s k ≡ false
unfolding is_process_itself
not_itself s k e = class_ordinary (text s k) e

itself : (s : Source) (k : ℕ) → is_process_in s k ≡ true → is_process_itself s k ≡ true
unfolding is_process_itself
itself s k e = e

means_so : (s : Source) (k token : ℕ) → means s k token ≡ text_is k (class_at s token)
means_so s k token = by (class_at s token)
  where
    by : (o : Option ℕ) → is_same k o ≡ text_is k o
    by None = refl
    by (Some j) = refl

-- the tokens at which a class is meant are all there, and no others
module _ (s : Source) (k : ℕ) where
  each_with : (a t count : ℕ) → ((n : ℕ) → slice_get (origins_from s k (suc a) count) n ≡ Some t → means s k t ≡ true) → (b : Bool) → means s k a ≡ b → (n : ℕ) → slice_get (with_subclass b a (origins_from s k (suc a) count)) n ≡ Some t → means s k t ≡ true
  each_with a t count more false f n e = more n e
  each_with a t count more true f zero e = let same : a ≡ t = cc (e) in ap (means s k) (sym same) ∙ f
  each_with a t count more true f (suc n) e = more n e

  each_from : (a count n t : ℕ) → slice_get (origins_from s k a count) n ≡ Some t → means s k t ≡ true
  each_from a zero n t e = absurd (cc (e))
  each_from a (suc count) n t e = each_with a t count (λ n e. each_from (suc a) count n t e) (means s k a) refl n e

  each_token : (n t : ℕ) → slice_get (origins s k) n ≡ Some t → means s k t ≡ true
  unfolding origins
  each_token n t e = each_from 0 (length s.uses) n t e

  abbrev Among : List ℕ → ℕ → Type 0
  Among ts t = (n : ℕ) × (slice_get ts n ≡ Some t)

  behind_one : (b : Bool) (a t : ℕ) (ts : List ℕ) → Among ts t → Among (with_subclass b a ts) t
  behind_one false a t ts x = x
  behind_one true a t ts x = (suc x.0, x.1)

  first_one : (b : Bool) (a : ℕ) (ts : List ℕ) → b ≡ true → Among (with_subclass b a ts) a
  first_one true a ts e = (0, refl)
  first_one false a ts e = absurd (cc (e))

  all_from : (a count t : ℕ) → means s k t ≡ true → a ≤ t → t < a + count → Among (origins_from s k a count) t
  all_from a zero t h low high = absurd (omega (arith, low, high))
  all_from a (suc count) t h low high = by (a == t) refl (λ low. all_from (suc a) count t h low (omega (arith, high)))
    where
      by : (c : Bool) → (a == t) ≡ c → (suc a ≤ t → Among (origins_from s k (suc a) count) t) → Among (origins_from s k a (suc count)) t
      by true e more =
          let same : a ≡ t = grind (arith, e) in
          subst (λ z. Among (origins_from s k a (suc count)) z) same (first_one (means s k a) a (origins_from s k (suc a) count) (ap (means s k) same ∙ h))
      by false e more = behind_one (means s k a) a t (origins_from s k (suc a) count) (more (grind (arith, low, e)))

  -- an identifier that means a class is there
  no_use : (t : ℕ) → length s.uses ≤ t → means s k t ≡ false
  unfolding class_at denoted
  no_use t le = ap (λ o. is_same k (class_denoted s (joined o))) (slice_get_past s.uses t le)

  all_tokens : (t : ℕ) → means s k t ≡ true → Among (origins s k) t
  unfolding origins
  all_tokens t h = less_or t (length s.uses) (λ lt. all_from 0 (length s.uses) t h (omega arith) (omega (arith, lt))) (λ le. absurd (cc (sym h ∙ no_use t le)))

-- ---- rows

module _ (code : CodeOf) (l : Limits) (inst : ℕ) (runs : Runs) (below : List machine.Activation) (line : ℕ) where
  abbrev Row : Instr → (pc : ℕ) → World → List Value → Frames → Run Machine → Type 0
  Row x pc o stack fs z = RowIs code l line inst runs below x pc o stack fs z

  abbrev at : ℕ → List Value → Frames → Machine
  at p stack fs = place_at code l inst runs below p stack fs

  this_row : (fs : Frames) (o : World) (pc z j : ℕ) (stack : List Value) → at_level fs z inst ≡ Some j → length stack < runs.room → Row (i.This (pos z)) pc o stack fs (Going o (at (suc pc) (Of (Object j) ∷ stack) fs))
  unfolding level index
  this_row fs o pc z j stack e lt = found ℕ (machine.number (pos z)) z o _ _ refl (found ℕ (at_level fs z inst) j o _ _ e (pushes_on code l line inst runs below o stack (Of (Object j)) _ _ lt refl))

  link_row : (fs : Frames) (o : World) (pc z j : ℕ) (stack : List Value) → at_level fs z inst ≡ Some j → length stack < runs.room → Row (i.Link (pos z)) pc o stack fs (Going o (at (suc pc) (Link j ∷ stack) fs))
  unfolding level index
  link_row fs o pc z j stack e lt = found ℕ (machine.number (pos z)) z o _ _ refl (found ℕ (at_level fs z inst) j o _ _ e (pushes_on code l line inst runs below o stack (Link j) _ _ lt refl))

  is_row : (fs : Frames) (o : World) (pc class : ℕ) (p : Plain) (b : Bool) (stack : List Value) → classes.class_named code (pos class) ≡ Some class → classes.is_of code fs class p ≡ Some b → Row (i.Is (pos class)) pc o (Of p ∷ stack) fs (Going o (at (suc pc) (Of (Truth b) ∷ stack) fs))
  unfolding pop_plain popping
  is_row fs o pc class p b stack named is = found ℕ (classes.class_named code (pos class)) class o _ _ named (found Plain (Some p) p o _ _ refl (found Bool (classes.is_of code fs class p) b o _ _ is refl))

  equal_row : (fs : Frames) (o : World) (pc : ℕ) (x y : ℤ) (stack : List Value) → Row (i.Rel (pos 2)) pc o (Of (Integer y) ∷ Of (Integer x) ∷ stack) fs (Going o (at (suc pc) (Of (Truth (equal x y)) ∷ stack) fs))
  unfolding having applying_two pop_plain popping answering computing two_of compare
  equal_row fs o pc x y stack = refl

  -- `passivate` of the block to which a link leads, where a process is at its end
  abbrev Passivates : (fs : Frames) (o : World) (pc j : ℕ) → Run Machine
  Passivates fs o pc j = having (located o.simulations j) o (λ x. rows.decided o fs (act inst pc (Link j ∷ []) runs) below line o (x.0, with_ended inst x.1) (Ok (passivated x.1.notices)) [])

  passivate_row : (fs : Frames) (o : World) (pc number j : ℕ) → slice_get standard_names number ≡ Some name.Passivate → ending_process code fs (act inst pc (Link j ∷ []) runs) ≡ Some inst → Row (i.Std (pos number)) pc o (Link j ∷ []) fs (Passivates fs o pc j)
  unfolding choosing performing_simulation pop_block popping having
  passivate_row fs o pc number j numbered ends =
      found Standard (standard_of (pos number)) name.Passivate o _ _ numbered
      (ap (λ e. performing_simulation machine.plain link_in (classes.in_process code fs) e name.Passivate (Link j ∷ []) o (λ v stack. machine.on o fs (act inst pc (Link j ∷ []) runs) (Of v ∷ stack) below) (rows.decided o fs (act inst pc (Link j ∷ []) runs) below line)) ends)

-- ---- the end

module _ (s : Source) (code : CodeOf) (compiled : Compiled s code) (l : Limits) (o : World) (m : Instances) (inst : ℕ) (w : List Item) (vals : List Val) (rest : List Activation) (fs : Frames) (t : ℕ) (b : Runs) (pc : ℕ) (stack : List Value) (below : List machine.Activation) (ks : List Kind) (here : Here s code m fs inst rest t b ks vals stack) (u q : ℕ) (ks' : List Kind) where
  abbrev R : Configuration → Machine → Type 0
  R = StateAt s code

  abbrev g : World → Machine → Run Machine
  g = mstep code l

  abbrev stands_at : ℕ → List Value → Machine
  stands_at p stack' = place_at code l inst b below p stack' fs

  abbrev Below : Wait → Type 0
  Below v = ChainAt s code m fs rest v below

  abbrev ends : Run Configuration
  ends = do_op s l o m inst w vals rest EndProcessOp

  module _ (c : Spot) (a : EndProcessIs s code (site_at t b u) b c pc q ks ks') (work : WorkAt s code m fs Below inst t b u w q []) (ruled : (p : World) → ends ≡ Ended p NoRule → ⊥) where
    has_own : has_levels (text s b.own) ≡ true
    has_own = levels_around s code compiled b.own t a.level.level a.level.has

    -- its own class
    abbrev OwnIn : List ℕ → Type 0
    OwnIn classes = ((n : ℕ) × (slice_get classes n ≡ Some b.own)) ⊎ (b.own ≡ t)

    -- the instance itself
    own_there : at_level fs (level_of s t) inst ≡ Some inst
    own_there = levels_same s code here.store (level_of s t) inst ∙ own_level s m inst t here.stands here.lives

    around : EncloserSeen s m inst a.around
    around = encloser_seen s m inst t a.around compiled.agrees here.stands a.level.frame (levels_solid s code compiled t a.level.has) a.is_around

    block_there : at_level fs (level_of s a.around) inst ≡ Some around.encloser
    block_there = levels_same s code here.store (level_of s a.around) inst ∙ reached s m inst a.around around.encloser here.lives around.reaches

    -- its class
    of_class : (k : ℕ) → is_class (text s k) ≡ true → classes.is_of code fs (class_number s code k) (Object inst) ≡ Some (b.own == k)
    unfolding is_of
    of_class k c =
        let now = lives_now m inst here.lives in
        is_of_same s code compiled m fs here.store inst k (object_of now.0 now.1) c ∙ ap (λ o. Some (text_is k o)) here.own
      where
        own_is : (x : Instance (List Held)) → live m inst ≡ Some x → x.text ≡ b.own
        own_is x lives = let e : Some x.text ≡ Some b.own = sym (text_here s code compiled m fs here.store inst x lives) ∙ here.own in cc (e)

        object_of : (x : Instance (List Held)) → live m inst ≡ Some x → ObjectHere s code compiled m fs here.store inst
        object_of x lives = object_here s code compiled m fs here.store inst (record { instance = x; lives = lives; levels = ap (λ k. has_levels (text s k)) (own_is x lives) ∙ has_own })

    at_end : (p : ℕ) (stack' : List Value) → ending_process code fs (act inst p stack' b) ≡ Some inst
    unfolding ending_process
    at_end p stack' =
        ap (λ z. ending_process code fs (record { thunk = z; home = inst; pc = p; stack = stack'; room = b.room; stage = b.stage })) a.level.base ∙ ap (λ c. frame_if c (Some inst)) (ends_told s code compiled m fs inst rest t b ks vals stack here has_own ∙ ap (behind_process s b.own) a.was ∙ ap (is_process_level s) a.level.place_is ∙ a.process)

    -- what is left in hand
    empty : StackAt (HandAt s code m) [] vals stack
    empty = subst (λ z. StackAt (HandAt s code m) z vals stack) a.none here.values

    none_left : (vs : List Val) (xs : List Value) → StackAt (HandAt s code m) [] vs xs → xs ≡ []
    none_left _ _ none_at = refl

    no_stack : stack ≡ []
    no_stack = none_left vals stack empty

    -- the process waits behind its `passivate`
    waits : (p : ℕ) → WorkAt s code m fs Below inst t b u w (suc p) [] → ChainAt s code m fs (record { instance = inst; work = w; values = vals } ∷ rest) NoValue (act inst (suc p) [] b ∷ below)
    waits p later = record {
      home = refl;
      text = t;
      block = b;
      base = refl;
      found = here.found;
      stands = here.stands;
      own = here.own;
      roomy = here.roomy;
      room = refl;
      stage = refl;
      kinds = [];
      values = subst (λ z. StackAt (HandAt s code m) [] vals z) no_stack empty;
      gets = NoValue;
      gets_is = subst (λ z. GetsIs z NoValue NoValue) (sym here.free) refl;
      fits = λ no. absurd (cc (no));
      asked = tt;
      used = u;
      goes = later;
    }

    line_first : (o' : Option ℕ) (line : ℕ) (r : ℕ → Run Configuration) (q : Run Machine) → o' ≡ Some line → Alike R (r line) q → Alike R (having o' o r) q
    unfolding having
    line_first o' line r q e h = subst (λ z. Alike R (having z o r) q) (sym e) h

    abbrev told : ℕ → Run Configuration
    told z = having (located o.simulations z) o (λ x. having (end_line s m inst) o (λ line. decided m inst w rest line o (x.0, with_ended inst x.1) (Ok (passivated x.1.notices)) vals))

    -- both make the process terminated, and go on with the next one
    passivates : (p line : ℕ) → end_line s m inst ≡ Some line → WorkAt s code m fs Below inst t b u w (suc p) [] → Alike R ends (Passivates code l inst b below line fs o p around.encloser)
    passivates p line at later =
        alike_first Configuration Machine R ℕ (encloser_of m inst) o _ _
        (λ z e.
        let same : z ≡ around.encloser = cc (sym e ∙ around.is) in
        subst (λ y. Alike R (told z) (Passivates code l inst b below line fs o p y)) same
        (alike_same Configuration Machine R (ℕ × Simulation) (located o.simulations z) o _ _
        (λ x. line_first (end_line s m inst) line _ _ at
        (decides s code compiled o m fs here.store here.parked line _ _ (waits p later) (here.formed w vals (work_flag s code m fs Below inst t b u w (suc p) [] later)) (x.0, with_ended inst x.1) (Ok (passivated x.1.notices))))))

    -- without a line there is no rule
    no_line : end_line s m inst ≡ None → ends ≡ Ended o NoRule
    unfolding having no_rule
    no_line e = by_block (encloser_of m inst)
      where
        by_world : (x : Option (ℕ × Simulation)) → having x o (λ x. having (end_line s m inst) o (λ line. decided m inst w rest line o (x.0, with_ended inst x.1) (Ok (passivated x.1.notices)) vals)) ≡ Ended o NoRule
        by_world None = refl
        by_world (Some x) = ap (λ z. having z o (λ line. decided m inst w rest line o (x.0, with_ended inst x.1) (Ok (passivated x.1.notices)) vals)) e

        by_block : (z : Option ℕ) → having z o told ≡ Ended o NoRule
        by_block None = refl
        by_block (Some z) = by_world (located o.simulations z)

    line_is : end_line s m inst ≡ end_line_if (is_process_itself s b.own) s b.own (cell m inst Origin)
    line_is = ap (λ z. end_line_of s z (cell m inst Origin)) here.own

    -- of a class of the program it is that of its end
    class_line : (k : ℕ) → is_class_text (text s k) ≡ true → b.own ≡ k → end_line s m inst ≡ Some (last_line s k)
    class_line k class same =
        line_is ∙ ap (λ z. end_line_if (is_process_itself s z) s z (cell m inst Origin)) same ∙ ap (λ z. end_line_if z s k (cell m inst Origin)) (not_itself s k class)

    same_number : (x y : ℕ) → (x == y) ≡ true → x ≡ y
    same_number x y e = grind (arith, e)

    equal_number : (x : ℕ) → (x == x) ≡ true
    equal_number x = grind arith

    module _ (k : ℕ) (more : List ℕ) (p : ℕ) (e : EndOfAt s code (site_at t b u) a.around k (EndsAt s code (site_at t b u) a.around more (origins s t)) p q) (class : is_class_text (text s k) ≡ true) where
      room : 0 < b.room
      room = let fits = e.this.fits in let roomy = here.roomy in omega (arith, fits, roomy)

      -- whether it is of this class
      tested : (y : Bool) → (b.own == k) ≡ y → Meets g (InEach R) ends o (stands_at e.b (Of (Truth y) ∷ [])) → Meets g (InEach R) ends o (stands_at p [])
      tested y f rest' =
          let this = e.this.is in
          let test = e.test in
          silent code l inst b below R (i.This (pos (level_of s t))) this.is (this_row code l inst b below this.line fs o p (level_of s t) inst [] own_there room)
          (silent code l inst b below R (i.Is (pos (class_number s code k))) test.is (is_row code l inst b below test.line fs o e.a (class_number s code k) (Object inst) y [] (class_named s code compiled m fs here.store k (class_is (text s k) class)) (of_class k (class_is (text s k) class) ∙ ap Some f)) rest')

      here_ends : (b.own == k) ≡ true → Meets g (InEach R) ends o (stands_at p [])
      here_ends f =
          let jump = e.jump in
          let link = e.link.is in
          let later = comes_over s code m fs Below inst t b u w e.e q e.y [] e.over e.past work in
          tested true f
          (silent code l inst b below R (i.JumpF (pos e.y)) jump.is (stays_row code l inst b below jump.line fs o e.b e.y [])
          (silent code l inst b below R (i.Link (pos (level_of s a.around))) link.is (link_row code l inst b below link.line fs o e.c (level_of s a.around) around.encloser [] block_there room)
          (matched code l inst b below R (Passivates code l inst b below (last_line s k) fs o e.d around.encloser)
          (step_at code l (last_line s k) inst b below (i.Std (pos e.number)) e.d e.e o (Link around.encloser ∷ []) fs _ e.done (passivate_row code l inst b below (last_line s k) fs o e.d e.number around.encloser e.numbered (at_end e.d (Link around.encloser ∷ []))))
          (caught (simply ruled (passivates e.d (last_line s k) (class_line k class (same_number b.own k f)) (subst (λ z. WorkAt s code m fs Below inst t b u w z []) e.done.on later)))))))

      next_ends : (b.own == k) ≡ false → Meets g (InEach R) ends o (stands_at e.y []) → Meets g (InEach R) ends o (stands_at p [])
      next_ends f rest' = let jump = e.jump in tested false f (jumps code l inst b below R e.y jump.is e.leads rest')

      either : (y : Bool) → (b.own == k) ≡ y → OwnIn (k ∷ more) → (OwnIn more → Meets g (InEach R) ends o (stands_at e.y [])) → Meets g (InEach R) ends o (stands_at p [])
      either true f own rest' = here_ends f
      either false f own rest' = next_ends f (rest' (behind own))
        where
          behind : OwnIn (k ∷ more) → OwnIn more
          behind (inl x) = further x.0 x.1
            where
              further : (n : ℕ) → slice_get (k ∷ more) n ≡ Some b.own → OwnIn more
              further zero is = let same : k ≡ b.own = cc (is) in absurd (cc (sym f ∙ ap (λ z. b.own == z) same ∙ equal_number b.own))
              further (suc n) is = inl (n, is)
          behind (inr same) = inr same

    -- ---- an object of `process` itself

    module _ (same : b.own ≡ t) where
      line_there : (v : Option Val) → cell m inst Origin ≡ v → end_line s m inst ≡ line_of_origin s t v
      line_there v e =
          line_is ∙ ap (λ z. end_line_if (is_process_itself s z) s z (cell m inst Origin)) same ∙ ap (λ z. end_line_if z s t (cell m inst Origin)) (itself s t a.process) ∙ ap (line_of_origin s t) e

      module _ (z : ℤ) (kept : cell m inst Origin ≡ Some (meaning.Of (Integer z))) where
        slot_there : HasCell s t Origin → machine.cell fs inst (slot_of s code t Origin) ≡ Some (Of (Integer z))
        slot_there has = by (machine.cell fs inst (slot_of s code t Origin)) (subst (λ v. Both (ValAt s code m) v (machine.cell fs inst (slot_of s code t Origin))) kept (cell_read s code m fs inst t Origin here.store here.stands a.level.frame has refl))
          where
            value : (x : Value) → ValAt s code m (meaning.Of (Integer z)) x → Some x ≡ Some (Of (Integer z))
            value _ plain_at = refl

            by : (x : Option Value) → Both (ValAt s code m) (Some (meaning.Of (Integer z))) x → x ≡ Some (Of (Integer z))
            by None h = absurd h
            by (Some x) h = value x h

        abbrev Left : List ℕ → Type 0
        Left ts = (n : ℕ) → z ≡ pos n → means s t n ≡ true → Among s t ts n

        -- behind all tests
        last_ends : (p : ℕ) → LastEndAt s code (site_at t b u) a.around p q → Left [] → Meets g (InEach R) ends o (stands_at p [])
        last_ends p e none =
            let link = e.link.is in
            let fits = e.link.fits in
            let roomy = here.roomy in
            silent code l inst b below R (i.Link (pos (level_of s a.around))) link.is (link_row code l inst b below link.line fs o p (level_of s a.around) around.encloser [] block_there (omega (arith, fits, roomy)))
            (matched code l inst b below R (Passivates code l inst b below (line_at s 0) fs o e.a around.encloser)
            (step_at code l (line_at s 0) inst b below (i.Std (pos e.number)) e.a q o (Link around.encloser ∷ []) fs _ e.done (passivate_row code l inst b below (line_at s 0) fs o e.a e.number around.encloser e.numbered (at_end e.a (Link around.encloser ∷ []))))
            (caught (simply ruled (passivates e.a (line_at s 0) (line_there (Some (meaning.Of (Integer z))) kept ∙ ap Some (other z refl)) (subst (λ y. WorkAt s code m fs Below inst t b u w y []) e.done.on work)))))
          where
            by : (n : ℕ) (c : Bool) → text_is t (class_at s n) ≡ c → (c ≡ true → ⊥) → line_before (text_is t (class_at s n)) s n ≡ line_at s 0
            by n true f no_more = absurd (no_more refl)
            by n false f no_more = ap (λ c. line_before c s n) f

            other : (x : ℤ) → z ≡ x → origin_line s t x ≡ line_at s 0
            other (negsuc n) f = refl
            other (pos n) f = by n (text_is t (class_at s n)) refl (λ yes'. absurd (cc ((none n f (means_so s t n ∙ yes')).1)))

        module _ (token : ℕ) (more : List ℕ) (p : ℕ) (e : OriginEndAt s code (site_at t b u) a.around token (OriginsAt s code (site_at t b u) a.around more) p q) (meant : means s t token ≡ true) where
          tried : (y : Bool) → equal z (pos token) ≡ y → Meets g (InEach R) ends o (stands_at e.c (Of (Truth y) ∷ [])) → Meets g (InEach R) ends o (stands_at p [])
          tried y f rest' =
              let load = e.kept.is in
              let given = e.given.is in
              let test = e.test in
              let fits = e.kept.fits in
              let fits' = e.given.fits in
              let roomy = here.roomy in
              silent code l inst b below R (i.Load (pos (level_of s t)) (pos (slot_of s code t Origin))) load.is (load_row code l load.line inst b below fs o p [] (level_of s t) (slot_of s code t Origin) (Of (Integer z)) itself_there (slot_there e.within) (omega (arith, fits, roomy)))
              (silent code l inst b below R (i.Int (pos token)) given.is (int_row code l given.line inst b below fs o e.a (Of (Integer z) ∷ []) (pos token) (omega (arith, fits', roomy)))
              (silent code l inst b below R (i.Rel (pos 2)) test.is (equal_row code l inst b below test.line fs o e.b z (pos token) []) (subst (λ c. Meets g (InEach R) ends o (stands_at e.c (Of (Truth c) ∷ []))) (sym f) rest')))
            where
              itself_there : at_level fs (level_of s t) inst ≡ Some inst
              itself_there = own_there

          token_ends : equal z (pos token) ≡ true → Meets g (InEach R) ends o (stands_at p [])
          token_ends f =
              let jump = e.jump in
              let link = e.link.is in
              let fits = e.link.fits in
              let roomy = here.roomy in
              let later = comes_over s code m fs Below inst t b u w e.f q e.y [] e.over e.past work in
              let is : z ≡ pos token = equal_same z (pos token) f in
              let line : origin_line s t z ≡ line_at s (token - 1) = ap (origin_line s t) is ∙ ap (λ c. line_before c s token) (sym (means_so s t token) ∙ meant) in
              tried true f
              (silent code l inst b below R (i.JumpF (pos e.y)) jump.is (stays_row code l inst b below jump.line fs o e.c e.y [])
              (silent code l inst b below R (i.Link (pos (level_of s a.around))) link.is (link_row code l inst b below link.line fs o e.d (level_of s a.around) around.encloser [] block_there (omega (arith, fits, roomy)))
              (matched code l inst b below R (Passivates code l inst b below (line_at s (token - 1)) fs o e.e around.encloser)
              (step_at code l (line_at s (token - 1)) inst b below (i.Std (pos e.number)) e.e e.f o (Link around.encloser ∷ []) fs _ e.done (passivate_row code l inst b below (line_at s (token - 1)) fs o e.e e.number around.encloser e.numbered (at_end e.e (Link around.encloser ∷ []))))
              (caught (simply ruled (passivates e.e (line_at s (token - 1)) (line_there (Some (meaning.Of (Integer z))) kept ∙ ap Some line) (subst (λ y. WorkAt s code m fs Below inst t b u w y []) e.done.on later)))))))

          tried_next : equal z (pos token) ≡ false → Meets g (InEach R) ends o (stands_at e.y []) → Meets g (InEach R) ends o (stands_at p [])
          tried_next f rest' = let jump = e.jump in tried false f (jumps code l inst b below R e.y jump.is e.leads rest')

          left_behind : equal z (pos token) ≡ false → Left (token ∷ more) → Left more
          left_behind f all n is h = by (all n is h).0 (all n is h).1
            where
              by : (i : ℕ) → slice_get (token ∷ more) i ≡ Some n → Among s t more n
              by zero e' = let one : token ≡ n = cc (e') in absurd (cc (sym f ∙ ap (λ y. equal z (pos y)) one ∙ ap (λ y. equal z y) (sym is) ∙ equal_itself z))
              by (suc i) e' = (i, e')

        tokens_walk : (tokens : List ℕ) (p : ℕ) → OriginsAt s code (site_at t b u) a.around tokens p q → ((n t' : ℕ) → slice_get tokens n ≡ Some t' → means s t t' ≡ true) → Left tokens → Meets g (InEach R) ends o (stands_at p [])
        tokens_walk [] p e each all = last_ends p e all
        tokens_walk (token ∷ more) p e each all = by (equal z (pos token)) refl (λ rest. tokens_walk more e.y e.more (λ n t' h. each (suc n) t' h) rest)
          where
            by : (y : Bool) → equal z (pos token) ≡ y → (Left more → Meets g (InEach R) ends o (stands_at e.y [])) → Meets g (InEach R) ends o (stands_at p [])
            by true f go_on = token_ends token more p e (each 0 token refl) f
            by false f go_on = tried_next token more p e (each 0 token refl) f (go_on (left_behind token more p e (each 0 token refl) f all))

      origins_walk : (p : ℕ) → OriginsAt s code (site_at t b u) a.around (origins s t) p q → Meets g (InEach R) ends o (stands_at p [])
      origins_walk p e = by (cell m inst Origin) refl
        where
          never : (v : Option Val) → cell m inst Origin ≡ v → line_of_origin s t v ≡ None → Meets g (InEach R) ends o (stands_at p [])
          never v f none = absurd (ruled o (no_line (line_there v f ∙ none)))

          by : (v : Option Val) → cell m inst Origin ≡ v → Meets g (InEach R) ends o (stands_at p [])
          by None f = never None f refl
          by (Some (meaning.Of (Integer z))) f = tokens_walk z f (origins s t) p e (each_token s t) (λ n is h. all_tokens s t n h)
          by (Some (meaning.Of (Truth x))) f = never (Some (meaning.Of (Truth x))) f refl
          by (Some (meaning.Of (Character x))) f = never (Some (meaning.Of (Character x))) f refl
          by (Some (meaning.Of (PlainText x))) f = never (Some (meaning.Of (PlainText x))) f refl
          by (Some (meaning.Of (Object x))) f = never (Some (meaning.Of (Object x))) f refl
          by (Some (meaning.Of (MainOf x))) f = never (Some (meaning.Of (MainOf x))) f refl
          by (Some (meaning.Of Nothing)) f = never (Some (meaning.Of Nothing)) f refl
          by (Some (meaning.Link j)) f = never (Some (meaning.Link j)) f refl
          by (Some (meaning.ArrayValue x)) f = never (Some (meaning.ArrayValue x)) f refl
          by (Some (meaning.Address x)) f = never (Some (meaning.Address x)) f refl
          by (Some (meaning.ProcedureValue k j)) f = never (Some (meaning.ProcedureValue k j)) f refl
          by (Some (meaning.Actual home as_procedure x)) f = never (Some (meaning.Actual home as_procedure x)) f refl

    walk : (classes : List ℕ) (p : ℕ) → EndsAt s code (site_at t b u) a.around classes (origins s t) p q → ((n k : ℕ) → slice_get classes n ≡ Some k → is_class_text (text s k) ≡ true) → OwnIn classes → Meets g (InEach R) ends o (stands_at p [])
    walk [] p e each (inl x) = absurd (cc (x.1))
    walk [] p e each (inr same) = origins_walk same p e
    walk (k ∷ more) p e each own = either k more p e (each 0 k refl) (b.own == k) refl own (λ own. walk more e.y e.more (λ m j f. each (suc m) j f) own)

    process_meets : Meets g (InEach R) ends o (stands_at pc stack)
    process_meets = subst (λ z. Meets g (InEach R) ends o (stands_at pc z)) (sym no_stack) (walk a.classes pc a.ends a.each_class a.own)

  pub process_ends : (c : Spot) → EndProcessIs s code (site_at t b u) b c pc q ks ks' → WorkAt s code m fs Below inst c.text c.runs c.used w q ks' → ((p : World) → ends ≡ Ended p NoRule → ⊥) → Meets g (InEach R) ends o (stands_at pc stack)
  process_ends c a work ruled =
      process_meets c a
      (subst (λ z. WorkAt s code m fs Below inst t b u w q z) a.none_behind (subst (λ z. WorkAt s code m fs Below inst z.text z.runs z.used w q ks') a.goes_on work)) ruled
