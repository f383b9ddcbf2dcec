-- The code of the levels of an instance, as the code of its program has it, and the work of a level.
use Rattle.std.proofs.Common.{◌+◌, ◌⊎◌, inl, inr, ◌≡◌, ◌<◌, ◌≤◌, ℕ, zero, suc, Bool, true, false, List, [], ◌∷◌, length, Option, Some, None, refl, sym, ap, ◌∙◌, subst, arith}
use Rattle.std.specs.Prelude.{drop, not, pos, slice_get}
use Rattle.sim_scope.specs.Access.{encloser}
use Rattle.sim_scope.specs.Source.{Source, level_of}
use Rattle.sim_tree.specs.Syntax.{Also, Declarations, NoStatement, Statements}
use Rattle.sim_code.specs.declared.instr.Instr.TheVariants as i
use Rattle.sim_code.specs.declared.stage.Stage.{Stage}
use Rattle.sim_code.specs.declared.stage.Stage.TheVariants as stage
use Rattle.sim_code.specs.Code.{BlockOf, ClassOf, CodeOf}
use Rattle.sim_code.specs.Machine.{Frames}
use Rattle.sim_code.specs.Transfers.{Detaching}
use Rattle.sim_meaning.specs.Levels.{both, has_levels, level_made, levels_made, levels_of}
use Rattle.sim_meaning.specs.Objects.{level_work, no_line, process_begun, process_done, with_inner}
use Rattle.sim_meaning.specs.Pending.{Do, EndProcessOp, Execs, InnerOp, Instances, Item, Level, SelfOp, TransferOp}
use Rattle.sim_meaning.specs.Texts.{text}
use Rattle.codegen_expr.specs.Sites.{Pushes, expression_temps, Is, LevelOf, Site, block_in_front, block_number, block_of_text, frame_text, innermost, outer, own_end, prefix_of, room_of_block}
use Rattle.codegen.specs.CodeArrays.{ArraysAt}
use Rattle.codegen.specs.CodeStm.{EndsAt, LevelAt, ProcessAt, StmsAt, WithInnerAt, is_class_text, origins, subclasses}
use Rattle.codegen.specs.Compiled.{Compiled, site_of}
use Rattle.sim_relate.proofs.ClassLevels.{class_levels, level_levels, levels_solid, numbered}
use Rattle.sim_relate.proofs.ClassTexts.{ClassHas, LevelHas, class_has}
use Rattle.sim_relate.proofs.Frames.{frame_self, same_frame}
use Rattle.sim_relate.proofs.Known.{Low, Any, HasClass, Kind, Runs, Settled, is_process_in, site_at, spot}
use Rattle.sim_relate.proofs.LevelLists.{place_level}
use Rattle.sim_relate.proofs.Pending.{pends, pends_in}
use Rattle.sim_relate.proofs.Subclasses.{each_class, own_class}
use Rattle.sim_relate.proofs.Waiting.{Wait}
use Rattle.sim_relate.proofs.Relation.{at_level, AtLevel, LevelIs, WorkAt, ends_process, inner_last, with_inner as among_them}

some_is : {A : Type 0} {x y : A} → Some x ≡ Some y → x ≡ y
some_is e = cc (e)

-- ---- levels that are made

-- the first of them, and those behind it
pub record MadeOf (s : Source) (ks : List ℕ) (x : Level) (xs : List Level) : Type 0 where
  pub number : ℕ
  pub more : List ℕ
  pub is : ks ≡ number ∷ more
  pub first : level_made s number (text s number) ≡ Some x
  pub rest : levels_made s more ≡ Some xs

module _ (s : Source) where
  both_parts : (y : Option Level) (ys : Option (List Level)) (x : Level) (xs : List Level) → both y ys ≡ Some (x ∷ xs) → (y ≡ Some x) × (ys ≡ Some xs)
  both_parts None ys x xs e = absurd (cc)
  both_parts (Some y) None x xs e = absurd (cc)
  both_parts (Some y) (Some ys) x xs e = (cc (e), cc (e))

  both_none : (y : Option Level) (ys : Option (List Level)) → both y ys ≡ Some [] → ⊥
  both_none None ys e = absurd (cc)
  both_none (Some y) None e = absurd (cc)
  both_none (Some y) (Some ys) e = absurd (cc)

  pub made_of : (ks : List ℕ) (x : Level) (xs : List Level) → levels_made s ks ≡ Some (x ∷ xs) → MadeOf s ks x xs
  made_of [] x xs e = absurd (cc)
  made_of (k ∷ ks) x xs e = let p = both_parts (level_made s k (text s k)) (levels_made s ks) x xs e in record { number = k; more = ks; is = refl; first = p.0; rest = p.1 }

  pub none_made : (ks : List ℕ) → levels_made s ks ≡ Some [] → ks ≡ []
  none_made [] e = refl
  none_made (k ∷ ks) e = absurd (both_none (level_made s k (text s k)) (levels_made s ks) e)

-- what stands in a list behind so many
pub dropped_at : {A : Type 0} (n : ℕ) (xs : List A) (k : A) (rest : List A) → drop n xs ≡ k ∷ rest → (slice_get xs n ≡ Some k) × (drop (suc n) xs ≡ rest)
dropped_at zero [] k rest e = absurd (cc)
dropped_at zero (x ∷ xs) k rest e = (cc (e), cc (e))
dropped_at (suc n) [] k rest e = absurd (cc)
dropped_at (suc n) (x ∷ xs) k rest e = dropped_at n xs k rest e

pub dropped_none : {A : Type 0} (n : ℕ) (xs : List A) → drop n xs ≡ [] → slice_get xs n ≡ None
dropped_none zero [] e = refl
dropped_none zero (x ∷ xs) e = absurd (cc)
dropped_none (suc n) [] e = refl
dropped_none (suc n) (x ∷ xs) e = dropped_none n xs e

-- ---- classes and prefixed blocks

module _ (s : Source) (code : CodeOf) (compiled : Compiled s code) where
  pub levels_frame : (k : ℕ) → has_levels (text s k) ≡ true → frame_text s k ≡ k
  levels_frame k h = frame_self s compiled.agrees k (levels_solid s code compiled k h)

  -- what has a level with levels has them too
  pub levels_around : (own k : ℕ) → LevelOf s.tables own k → has_levels (text s k) ≡ true → has_levels (text s own) ≡ true
  levels_around own _ innermost c = c
  levels_around own k (outer {u = u} e more) c = (compiled.agrees.prefixes own u e).has

  -- what stands in front of a text with levels
  pub front_has : (own u : ℕ) → prefix_of s.tables own ≡ Some u → ClassHas s code u
  front_has own u e = class_has s code compiled u (class_levels s code compiled u (compiled.agrees.prefixes own u e).class)

  one_block : (n : ℕ) (x y : BlockOf) → slice_get code.blocks n ≡ Some x → slice_get code.blocks n ≡ Some y → x ≡ y
  one_block n x y e f = some_is (sym e ∙ f)

  -- a level needs no more room
  pub room_within : (own k : ℕ) (x y : BlockOf) → LevelOf s.tables own k → has_levels (text s own) ≡ true → slice_get code.blocks (block_number s own) ≡ Some x → slice_get code.blocks (block_number s k) ≡ Some y → y.room ≤ x.room
  unfolding block_in_front
  room_within own _ x y innermost c e f = let same = ap (λ z. z.room) (one_block (block_number s own) x y e f) in omega (arith, same)
  room_within own k x y (outer {u = u} front more) c e f =
      let a = class_has s code compiled own c in
      let next = front_has own u front in
      let same = ap (λ z. z.room) (one_block (block_number s own) x a.block e a.found) in
      let in_front : block_in_front s code own ≡ Some next.block = ap (block_of_text s code) front ∙ next.found in
      let less = subst (λ z. room_of_block z ≤ a.block.room) in_front a.has.heads.roomy in
      let inside = room_within u k next.block y more next.levels next.found f in
      omega (arith, same, less, inside)

  -- ---- levels

  -- The statements of a level: those of the class `process`, or of another.
  abbrev pub StatedAs : Source → CodeOf → Site → (place after : ℕ) → (process written : Bool) → Statements → ℕ → ℕ → Type 0
  StatedAs s code site n after false written ss p q = LevelAt s code site n after written ss p q
  StatedAs s code site n after true written ss p q = ProcessAt s code site n p after q × (written ≡ false) × (ss ≡ NoStatement)

  -- A level of an instance, the code of it, and what it is made of: where its declarations and its statements begin and end, and where control
  -- goes on behind `inner`.
  pub record LevelCode (b : Runs) (k n : ℕ) (x : Level) : Type 0 where
    pub block : BlockOf
    pub class : ClassOf
    pub level : LevelIs s code b k n block class
    pub text_is : x.text ≡ k
    pub declared_there : class.declarations < length code.instrs
    pub last_declared : ℕ
    pub on : ℕ
    pub declared : ArraysAt s code (site_of s code k block) x.declarations class.declarations last_declared
    pub next : Is code (i.NextDecl (pos n)) last_declared on
    pub stated_there : class.statements < length code.instrs
    pub stop : ℕ
    pub written : Bool
    pub last : x.inner_last ≡ not written
    pub process : Bool
    pub process_is : is_process_in s k ≡ process
    pub of_process : x.process ≡ process
    pub stated : StatedAs s code (site_of s code k block) n class.after_inner process written x.statements class.statements stop
    pub behind_there : class.after_inner < length code.instrs
    pub behind : ℕ
    pub ends : Is code (i.EndLevel (pos n)) stop behind

  module _ (b : Runs) (own_block : BlockOf) (found : slice_get code.blocks (block_number s b.own) ≡ Some own_block) (roomy : own_block.room ≤ b.room) (own_levels : has_levels (text s b.own) ≡ true) (of_class : HasClass s b.own) (base : b.thunk ≡ None) where
    pub level_is : (k n : ℕ) → slice_get (levels_of s b.own) n ≡ Some k → (x : ClassHas s code k) × LevelIs s code b k n x.block x.has.class
    level_is k n e =
        let at = place_level s compiled.agrees b.own k n (levels_solid s code compiled b.own own_levels) e in
        let c = level_levels s code compiled b.own k at.0 own_levels in
        let x = class_has s code compiled k c in (
          x,
          record {
            level = at.0;
            has = c;
            place_is = e;
            frame = levels_frame k c;
            found = x.found;
            numbered = numbered s code compiled k x;
            roomy = let less = room_within b.own k own_block x.block at.0 own_levels found x.found in omega (arith, less, roomy);
            own_roomy = λ y f. let same = ap (λ z. z.room) (one_block (block_number s b.own) y own_block f found) in omega (arith, same, roomy);
            of_class = of_class;
            base = base;
          },
        )

    -- its code, for the level that is made of it
    level_by : (k n : ℕ) (x : Level) (block : BlockOf) (class : ClassOf) → LevelIs s code b k n block class → suc n ≡ length (levels_of s k) → (process : Bool) → is_process_in s k ≡ process → (written : Bool) (ds : Declarations) (ss : Statements)
        → LevelHas s code k process written ds ss block class → record { text = k; declarations = ds; statements = ss; inner_last = not written; process = process } ≡ x → LevelCode b k n x
    level_by k n x block class is at false p written ds ss here same =
        let placed : here.place ≡ n = let e = here.placed in omega (arith, e, at) in
        subst (λ z. LevelCode b k n z) same (record {
          block = block;
          class = class;
          level = is;
          text_is = refl;
          declared_there = here.declared_there;
          last_declared = here.x;
          on = here.y;
          declared = here.declared;
          next = subst (λ z. Is code (i.NextDecl (pos z)) here.x here.y) placed here.next;
          stated_there = here.stated_there;
          stop = here.stop;
          written = written;
          last = refl;
          process = false;
          process_is = p;
          of_process = refl;
          stated = subst (λ z. LevelAt s code (site_of s code k block) z class.after_inner written ss class.statements here.stop) placed here.stated;
          behind_there = here.behind_there;
          behind = here.last;
          ends = subst (λ z. Is code (i.EndLevel (pos z)) here.stop here.last) placed here.ends;
        })
    level_by k n x block class is at true p written ds ss h same =
        let here = h.0 in
        let placed : here.place ≡ n = let e = here.placed in omega (arith, e, at) in
        subst (λ z. LevelCode b k n z) same (record {
          block = block;
          class = class;
          level = is;
          text_is = refl;
          declared_there = here.declared_there;
          last_declared = class.declarations;
          on = here.x;
          declared = subst (λ z. ArraysAt s code (site_of s code k block) z class.declarations class.declarations) (sym h.2) refl;
          next = subst (λ z. Is code (i.NextDecl (pos z)) class.declarations here.x) placed here.next;
          stated_there = here.stated_there;
          stop = here.stop;
          written = written;
          last = refl;
          process = true;
          process_is = p;
          of_process = refl;
          stated = (subst (λ z. ProcessAt s code (site_of s code k block) z class.statements class.after_inner here.stop) placed here.stated, h.1, h.3);
          behind_there = here.behind_there;
          behind = here.last;
          ends = subst (λ z. Is code (i.EndLevel (pos z)) here.stop here.last) placed here.ends;
        })

    pub level_code : (k n : ℕ) (x : Level) → slice_get (levels_of s b.own) n ≡ Some k → level_made s k (text s k) ≡ Some x → LevelCode b k n x
    level_code k n x e made =
        let at = place_level s compiled.agrees b.own k n (levels_solid s code compiled b.own own_levels) e in
        let r = level_is k n e in
        let a = r.0 in
        level_by k n x a.block a.has.class r.1 at.1 a.process a.process_is a.written a.declarations a.statements a.has.level (a.made x made)

  -- ---- the work of a level

  -- a level does not depend on where control is
  pub moved_level : (b c : Runs) (k n : ℕ) (block : BlockOf) (class : ClassOf) → c.own ≡ b.own → c.room ≡ b.room → c.thunk ≡ b.thunk → LevelIs s code b k n block class → LevelIs s code c k n block class
  moved_level b c k n block class own room thunk a = record {
    level = subst (λ z. LevelOf s.tables z k) (sym own) a.level;
    has = a.has;
    place_is = subst (λ z. slice_get (levels_of s z) n ≡ Some k) (sym own) a.place_is;
    frame = a.frame;
    found = a.found;
    numbered = a.numbered;
    roomy = subst (λ z. block.room ≤ z) (sym room) a.roomy;
    own_roomy = λ x f. subst (λ z. x.room ≤ z) (sym room) (a.own_roomy x (subst (λ z. slice_get code.blocks (block_number s z) ≡ Some x) own f));
    of_class = subst (λ z. HasClass s z) (sym own) a.of_class;
    base = thunk ∙ a.base;
  }

  module _ (m : Instances) (fs : Frames) (Below : Wait → Type 0) (inst : ℕ) (b : Runs) (k n : ℕ) (x : Level) (a : LevelCode b k n x) where
    abbrev at_runs : Runs
    at_runs = (at_level s code b k a.block (stage.Stating n)).runs

    abbrev behind_runs : Runs
    behind_runs = (at_level s code b k a.block (stage.Behind n)).runs

    abbrev used : ℕ
    used = own_end s code k + expression_temps

    at_inner : AtLevel s code (site_at k at_runs used) at_runs (spot k behind_runs used) n a.class.after_inner [] []
    at_inner = record {
      was = refl;
      class = a.class;
      level = moved_level b at_runs k n a.block a.class refl refl refl a.level;
      leads = refl;
      there = a.behind_there;
      low = refl;
      limit_is = refl;
      temps_are = refl;
      goes_on = refl;
      none = refl;
      none_behind = refl;
    }

    pub low_here : (g : Stage) → Low s code k (at_level s code b k a.block g).runs used
    low_here g =
        let same = ap (own_end s code) a.level.frame in
        record { low = omega (arith, same); temps = sym same; full = λ number e. absurd (cc (e, a.level.base)) }

    -- The statements of a level, with those of the levels inside; then what is behind it, which stands at its end. A process detaches first, and
    -- comes to its end behind `inner`.
    settled_here : Settled s code k at_runs used
    settled_here = record { at = low_here (stage.Stating n); calm = refl }

    abbrev Pends : Runs → List Item → ℕ → List Kind → Type 0
    Pends c w p ks = WorkAt s code m fs Below inst k c used w p ks

    -- what stands for `inner` behind the statements
    inner_pends : (xs : List Level) (w : List Item) (p : ℕ) → levels_made s (drop (suc n) (levels_of s b.own)) ≡ Some xs → Is code (i.Inner (pos n)) p a.class.after_inner → Pends behind_runs w a.class.after_inner [] → Pends at_runs (Do (InnerOp xs) ∷ w) p []
    inner_pends xs w p inside is work =
        pends_in s code m fs Below inst k at_runs used (low_here (stage.Stating n)) w (InnerOp xs) k (spot k behind_runs used) p a.class.after_inner [] [] (same_frame s k)
        (inner_last xs refl (record { place = n; at = at_inner; is = is; inside = inside })) work

    -- no thunk runs a level
    as_here : (A : Site → Type 0) → A (site_of s code k a.block) → A (record (site_of s code k a.block) { thunk = b.thunk })
    as_here A h = subst (λ z. A (record (site_of s code k a.block) { thunk = z })) (sym a.level.base) h

    others_begin : (xs : List Level) (w : List Item) → levels_made s (drop (suc n) (levels_of s b.own)) ≡ Some xs → is_process_in s k ≡ false → Pends behind_runs w a.stop []
        → (written last : Bool) → last ≡ not written → LevelAt s code (site_of s code k a.block) n a.class.after_inner written x.statements a.class.statements a.stop → Pends at_runs (Do (Execs x.statements) ∷ with_inner last xs w) a.class.statements []
    others_begin xs w inside ordinary work true true e h = absurd (cc)
    others_begin xs w inside ordinary work true false e h =
        pends_in s code m fs Below inst k at_runs used (low_here (stage.Stating n)) w (Execs x.statements) k (spot k behind_runs used) a.class.statements a.stop [] [] (same_frame s k)
        (among_them x.statements refl (record { place = n; after = a.class.after_inner; at = at_inner; is = as_here (λ z. WithInnerAt s code z n a.class.after_inner x.statements a.class.statements a.stop) h; ordinary = ordinary })) work
    others_begin xs w inside ordinary work false false e h = absurd (cc)
    others_begin xs w inside ordinary work false true e h =
        pends s code m fs Below inst k at_runs used settled_here (Do (InnerOp xs) ∷ w) (Execs x.statements) a.class.statements h.x [] [] (as_here (λ z. StmsAt s code z 0 x.statements a.class.statements h.x) h.statements, refl)
        (inner_pends xs w h.x inside h.inner (subst (λ z. Pends behind_runs w z []) h.on work))

    process_ends : (w : List Item) → is_process_in s k ≡ true → (around : ℕ) → encloser s.tables k ≡ Some around → EndsAt s code (site_of s code k a.block) around (subclasses s k) (origins s k) a.class.after_inner a.stop → Pends behind_runs w a.stop [] → Pends behind_runs (Do EndProcessOp ∷ w) a.class.after_inner []
    process_ends w process around is_around ends work =
        pends_in s code m fs Below inst k behind_runs used (low_here (stage.Behind n)) w EndProcessOp k (spot k behind_runs used) a.class.after_inner a.stop [] [] (same_frame s k)
        (ends_process refl (record {
          place = n;
          was = refl;
          class = a.class;
          level = moved_level b behind_runs k n a.block a.class refl refl refl a.level;
          process = process;
          around = around;
          is_around = is_around;
          classes = subclasses s k;
          each_class = each_class s k;
          own = own (a.level.of_class k a.level.level process);
          ends = as_here (λ z. EndsAt s code z around (subclasses s k) (origins s k) a.class.after_inner a.stop) ends;
          low = refl;
          goes_on = refl;
          none = refl;
          none_behind = refl;
        })) work
      where
        own : (is_class_text (text s b.own) ≡ true) ⊎ (b.own ≡ k) → ((n : ℕ) × (slice_get (subclasses s k) n ≡ Some b.own)) ⊎ (b.own ≡ k)
        own (inl class) = inl (own_class s k compiled.agrees b.own (levels_solid s code compiled b.own (levels_around b.own k a.level.level a.level.has)) class a.level.level)
        own (inr same) = inr same

    process_begins : (xs : List Level) (w : List Item) → levels_made s (drop (suc n) (levels_of s b.own)) ≡ Some xs → is_process_in s k ≡ true → Pends behind_runs w a.stop [] → (last : Bool) → last ≡ true → (ss : Statements) → ss ≡ NoStatement
        → ProcessAt s code (site_of s code k a.block) n a.class.statements a.class.after_inner a.stop → Pends at_runs (Do SelfOp ∷ Do (TransferOp Detaching no_line) ∷ Do (Execs ss) ∷ with_inner last xs (Do EndProcessOp ∷ w)) a.class.statements []
    process_begins xs w inside process work false e ss none h = absurd (cc)
    process_begins xs w inside process work true e (Also y more) none h = absurd (cc)
    process_begins xs w inside process work true e NoStatement none h =
        pends s code m fs Below inst k at_runs used settled_here (Do (TransferOp Detaching no_line) ∷ Do (Execs NoStatement) ∷ Do (InnerOp xs) ∷ Do EndProcessOp ∷ w) SelfOp a.class.statements h.a [] (Any ∷ []) (record { push = as_here (λ z. Pushes code z 0 (i.This (pos (level_of s k))) a.class.statements h.a) h.this; out = refl })
        (pends s code m fs Below inst k at_runs used settled_here (Do (Execs NoStatement) ∷ Do (InnerOp xs) ∷ Do EndProcessOp ∷ w) (TransferOp Detaching no_line) h.a h.b (Any ∷ []) [] (record { is = h.detach; left = []; «in» = refl; out = refl })
        (pends s code m fs Below inst k at_runs used settled_here (Do (InnerOp xs) ∷ Do EndProcessOp ∷ w) (Execs NoStatement) h.b h.b [] [] (refl, refl)
        (inner_pends xs (Do EndProcessOp ∷ w) h.b inside h.inner (process_ends w process h.around h.is_around h.ends work))))

    pub level_begins : (xs : List Level) (w : List Item) → levels_made s (drop (suc n) (levels_of s b.own)) ≡ Some xs → WorkAt s code m fs Below inst k behind_runs used w a.stop [] → WorkAt s code m fs Below inst k at_runs used (level_work x xs w) a.class.statements []
    level_begins xs w inside work = by a.process a.process_is x.process a.of_process a.stated
      where
        by : (process : Bool) → is_process_in s k ≡ process → (made : Bool) → made ≡ process → StatedAs s code (site_of s code k a.block) n a.class.after_inner process a.written x.statements a.class.statements a.stop
            → Pends at_runs (process_begun made no_line (Do (Execs x.statements) ∷ with_inner x.inner_last xs (process_done made w))) a.class.statements []
        by true p false e h = absurd (cc)
        by false p true e h = absurd (cc)
        by false p false e h = others_begin xs w inside p work a.written x.inner_last a.last h
        by true p true e h = process_begins xs w inside p work x.inner_last (a.last ∙ ap not h.1) x.statements h.2 h.0
