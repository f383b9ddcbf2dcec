-- Objects and main programs, and of which classes they are on both sides.
use Rattle.std.proofs.Common.{◌≡◌, ◌≤◌, ℕ, zero, suc, Bool, true, false, List, length, map, Option, Some, None, ⊎_elim, refl, sym, ap, ◌∙◌, arith}
use Rattle.std.proofs.lemmas.Bool.{cases_lt}
use Rattle.std.proofs.lemmas.Option.{slice_get_past}
use Rattle.std.specs.Option.{option_map}
use Rattle.std.specs.Prelude.{is_some, pos, slice_get}
use Rattle.sim_scope.specs.Source.{Source}
use Rattle.sim_values.specs.Plain.{Character, Integer, MainOf, Nothing, Object, Plain, Text as PlainText, Truth}
use Rattle.sim_code.specs.declared.code.BlockKind.{BlockKind}
use Rattle.sim_code.specs.declared.code.BlockKind.TheVariants as kind
use Rattle.sim_code.specs.Classes as classes
use Rattle.sim_code.specs.Code.{BlockOf, CodeOf}
use Rattle.sim_code.specs.Instances.{Instance, live}
use Rattle.sim_code.specs.Machine.{Cells, Frames}
use Rattle.sim_code.specs.Machine as machine
use Rattle.sim_meaning.specs.Attributes.{is_connection}
use Rattle.sim_meaning.specs.Levels.{has_levels, in_process, in_process_class, is_class, is_in, is_of, levels_of, process_at, process_class, process_in, stands_in, text_at, text_in, text_is, text_is_in}
use Rattle.sim_meaning.specs.Pending.{Held, Instances, Of}
use Rattle.sim_meaning.specs.Sane.{IsObject, IsSimulation, Names}
use Rattle.sim_meaning.specs.Texts.{BlockText, ClassText, ConnectionText, PrefixedText, ProcedureText, StandardText, Text, program_texts, text}
use Rattle.codegen_expr.specs.Sites.{block_number, class_number, is_connected}
use Rattle.codegen.specs.Compiled.{CodeHas, Compiled}
use Rattle.sim_relate.proofs.ClassLevels.{among_same, class_levels, class_test, in_same, is_same, levels_here, levels_numbers, levels_solid, numbered, own_class}
use Rattle.sim_relate.proofs.ClassTexts.{class_has, of_levels}
use Rattle.sim_relate.proofs.Frames.{frame_self}
use Rattle.sim_relate.proofs.Heads.{both_found, is_live_at}
use Rattle.sim_relate.proofs.Known.{Stands, IsReference}
use Rattle.sim_relate.proofs.LevelLists.{has_level_is, solid_level}
use Rattle.sim_relate.proofs.Lists.{there_get}
use Rattle.sim_relate.proofs.ProcessClasses.{beyond, no_process, process_same, process_text, process_there}
use Rattle.sim_relate.proofs.Reach.{stands_as}
use Rattle.sim_relate.proofs.Relation.{InstanceAt, StoreAt}
use Rattle.sim_relate.proofs.Stores.{live_pair}
use Rattle.sim_relate.proofs.Trees.{Classed}

module _ (s : Source) (code : CodeOf) (coding : Compiled s code) where
  -- a block of another kind is of no class
  no_class : (o : Option BlockOf) (b : BlockOf) (x : BlockKind) → o ≡ Some b → b.kind ≡ x → of_levels x ≡ false → classes.class_in o ≡ None
  no_class o b x e f h = ap classes.class_in e ∙ by b x f h
    where
      by : (b : BlockOf) (x : BlockKind) → b.kind ≡ x → of_levels x ≡ false → classes.class_in (Some b) ≡ None
      by b kind.SubBlock f h = rw f refl
      by b kind.Procedure f h = rw f refl
      by b kind.Object f h = absurd (cc (h))
      by b kind.Prefixed f h = absurd (cc (h))

  other_class : (k : ℕ) → is_connected s.tables k ≡ false → has_levels (text s k) ≡ false → classes.class_in (slice_get code.blocks (block_number s k)) ≡ None
  unfolding block_number text
  other_class k solid none = by k (text s k) refl solid none (slice_get code.blocks (block_number s k)) refl (λ y f. coding.each k y f)
    where
      past : (k : ℕ) → text s k ≡ None → length code.blocks ≤ block_number s k
      past k e = ⊎_elim (λ lt. let x = there_get (program_texts s.program.prefix s.program.block) k lt in absurd (cc (sym e ∙ x.1)))
          (λ le. let n = coding.agrees.as_many in let many = coding.as_many in let same = beyond k s.tables.blocks (omega (arith, le, n)) in omega (arith, many, same)) (cases_lt k (length (program_texts s.program.prefix s.program.block)))

      by : (k : ℕ) (x : Option Text) → text s k ≡ x → is_connected s.tables k ≡ false → has_levels x ≡ false → (o : Option BlockOf) → slice_get code.blocks (block_number s k) ≡ o → ((y : Text) → text s k ≡ Some y → CodeHas s code k y o) → classes.class_in o ≡ None
      by k None is solid h o e has = ap classes.class_in (sym e ∙ slice_get_past code.blocks (block_number s k) (past k is))
      by k (Some (BlockText begin ds ss)) is solid h None e has = refl
      by zero (Some (BlockText begin ds ss)) is solid h (Some b) e has = no_class (Some b) b kind.SubBlock refl (has (BlockText begin ds ss) is).heads.is_kind refl
      by (suc k) (Some (BlockText begin ds ss)) is solid h (Some b) e has = no_class (Some b) b kind.SubBlock refl (has (BlockText begin ds ss) is).heads.is_kind refl
      by k (Some (ProcedureText result f a)) is solid h None e has = refl
      by k (Some (ProcedureText result f a)) is solid h (Some b) e has = no_class (Some b) b kind.Procedure refl (has (ProcedureText result f a) is).heads.is_kind refl
      by k (Some ConnectionText) is solid h o e has = absurd (cc (sym solid ∙ coding.agrees.connected k ∙ ap is_connection is))
      by k (Some (ClassText prefix f ds ss)) is solid h o e has = absurd (cc (h))
      by k (Some (PrefixedText class es ds ss)) is solid h o e has = absurd (cc (h))
      by k (Some (StandardText which)) is solid h o e has = absurd (cc (h))

module _ (s : Source) (code : CodeOf) (coding : Compiled s code) (m : Instances) (fs : Frames) (store : StoreAt s code m fs) where
  -- an object and its frame
  pub record ObjectHere (j : ℕ) : Type 0 where
    pub instance : Instance (List Held)
    pub there : slice_get m.instances j ≡ Some instance
    pub alive : live m j ≡ Some instance
    pub levels : has_levels (text s instance.text) ≡ true
    pub frame : Instance Cells
    pub lives : live fs j ≡ Some frame
    pub number : frame.text ≡ block_number s instance.text

  pub object_here : (j : ℕ) → IsObject s m j → ObjectHere j
  object_here j x =
      let y = both_found (InstanceAt s code m) (live m j) (live fs j) x.instance x.lives (live_pair s code m fs store j) in
      record { instance = x.instance; there = (is_live_at (slice_get m.instances j) x.instance x.lives).there; alive = x.lives; levels = x.levels; frame = y.it; lives = y.is; number = (y.related).number }

  pub text_is_at : (j : ℕ) (x : ObjectHere j) → text_at m j ≡ Some x.instance.text
  text_is_at j x = ap text_in x.there

  -- it is in a class on both sides, or on neither
  pub in_class_same : (j k : ℕ) → ObjectHere j → Classed s k → classes.in_class code fs (class_number s code k) j ≡ Some (is_in s m k j)
  unfolding is_in
  in_class_same j k x c =
      in_same s code coding fs j x.instance.text k x.frame x.lives x.number x.levels (class_levels s code coding k c) ∙ ap (λ o. Some (text_is_in s k o)) (sym (text_is_at j x))

  pub is_of_same : (j k : ℕ) → ObjectHere j → Classed s k → classes.is_class (class_number s code k) (classes.class_of code fs j) ≡ Some (is_of m k j)
  unfolding is_of
  is_of_same j k x c =
      is_same s code coding fs j x.instance.text k x.frame x.lives x.number x.levels (class_levels s code coding k c) ∙ ap (λ o. Some (text_is k o)) (sym (text_is_at j x))

  -- it stands for each of its levels
  pub of_text : (j u : ℕ) → ObjectHere j → is_in s m u j ≡ true → Stands s m j u
  unfolding is_in
  of_text j u x e =
      let own = x.instance.text in
      let solid = levels_solid s code coding own x.levels in
      let level = has_level_is s coding.agrees own u (sym (ap (text_is_in s u) (text_is_at j x)) ∙ e) solid in
      let is = frame_self s coding.agrees u (solid_level s coding.agrees own u level solid) in
      stands_as s m coding.agrees j own u (text_is_at j x) (store.all j x.instance x.there) level is (frame_self s coding.agrees own solid)

  -- a class has a number, which names it
  pub class_named : (k : ℕ) → Classed s k → classes.class_named code (pos (class_number s code k)) ≡ Some (class_number s code k)
  class_named k c =
      let x = class_has s code coding k (class_levels s code coding k c) in
      ap (classes.if_there (class_number s code k)) (numbered s code coding k x)

  -- ---- simulation blocks

  -- an instance that was not given back, and its frame
  record Living (j : ℕ) (x : Instance (List Held)) : Type 0 where
    there : slice_get m.instances j ≡ Some x
    frame : Instance Cells
    lives : live fs j ≡ Some frame
    number : frame.text ≡ block_number s x.text
    solid : is_connected s.tables x.text ≡ false

  living : (j : ℕ) (x : Instance (List Held)) → live m j ≡ Some x → Living j x
  living j x lives =
      let y = both_found (InstanceAt s code m) (live m j) (live fs j) x lives (live_pair s code m fs store j) in
      record { there = (is_live_at (slice_get m.instances j) x lives).there; frame = y.it; lives = y.is; number = (y.related).number; solid = (y.related).solid }

  -- ---- levels

  pub text_here : (j : ℕ) (x : Instance (List Held)) → live m j ≡ Some x → text_at m j ≡ Some x.text
  text_here j x lives = ap text_in (is_live_at (slice_get m.instances j) x lives).there

  -- the levels that the machine finds of an instance, if it has any
  pub some_levels : (j : ℕ) (x : Instance (List Held)) → live m j ≡ Some x → has_levels (text s x.text) ≡ true → classes.levels_in code (classes.class_of code fs j) ≡ Some (map (class_number s code) (levels_of s x.text))
  some_levels j x lives has = let a = living j x lives in levels_here s code coding fs j x.text a.frame a.lives a.number has

  pub no_levels : (j : ℕ) (x : Instance (List Held)) → live m j ≡ Some x → has_levels (text s x.text) ≡ false → classes.class_of code fs j ≡ None
  no_levels j x lives none =
      let a = living j x lives in
      ap (λ o. classes.class_in (classes.block_in code (machine.text_in o))) a.lives ∙ ap (λ n. classes.class_in (slice_get code.blocks n)) a.number ∙ other_class s code coding x.text a.solid none

  -- ---- the class `process` of an instance

  pub process_at_same : (j : ℕ) (x : Instance (List Held)) → live m j ≡ Some x → classes.process_at code fs j ≡ option_map (class_number s code) (process_at s m j)
  process_at_same j x lives = by (has_levels (text s x.text)) refl
    where
      a : Living j x
      a = living j x lives

      own : process_at s m j ≡ process_class s x.text
      own = ap (λ o. process_in s (text_in o)) (is_live_at (slice_get m.instances j) x lives).there

      by : (c : Bool) → has_levels (text s x.text) ≡ c → classes.process_at code fs j ≡ option_map (class_number s code) (process_at s m j)
      by true has = ap (classes.process_in code) (own_class s code coding fs j x.text a.frame a.lives a.number has) ∙ process_same s code coding x.text has ∙ sym (ap (option_map (class_number s code)) own)
      by false none =
          ap (classes.process_in code) (no_levels j x lives none) ∙ sym (ap (option_map (class_number s code)) (own ∙ no_process s code coding x.text a.solid none))

  -- ---- main programs

  -- the class of a main program
  record MainHere (b : ℕ) : Type 0 where
    class : ℕ
    is : process_at s m b ≡ Some class
    levels : has_levels (text s class) ≡ true
    found : classes.process_at code fs b ≡ Some (class_number s code class)

  main_here : (b : ℕ) → IsSimulation s m b → MainHere b
  main_here b x = by (process_class s x.instance.text) refl x.simulates
    where
      by : (o : Option ℕ) → process_class s x.instance.text ≡ o → is_some o ≡ true → MainHere b
      by None e h = absurd (cc (h))
      by (Some k) e h =
          let is = ap (λ o. process_in s (text_in o)) (is_live_at (slice_get m.instances b) x.instance x.lives).there ∙ e in
          record { class = k; is = is; levels = ap has_levels (process_text (text s k) (process_there s code coding x.instance.text k e)); found = process_at_same b x.instance x.lives ∙ ap (option_map (class_number s code)) is }

  -- it is in a class on both sides, or on neither
  pub main_in_same : (b k : ℕ) → IsSimulation s m b → Classed s k → classes.main_in_class code fs (class_number s code k) b ≡ Some (stands_in s m k (MainOf b))
  unfolding stands_in
  main_in_same b k x c =
      let a = main_here b x in
      ap (λ o. classes.is_among (class_number s code k) (classes.levels_in code o)) a.found ∙ ap (classes.is_among (class_number s code k)) (levels_numbers s code coding a.class a.levels) ∙
      ap Some (among_same s code coding a.class k a.levels (class_levels s code coding k c)) ∙ sym (ap (λ o. Some (text_is_in s k o)) a.is)

  pub main_is_same : (b k : ℕ) → IsSimulation s m b → Classed s k → classes.is_class (class_number s code k) (classes.process_at code fs b) ≡ Some (text_is k (process_at s m b))
  main_is_same b k x c =
      let a = main_here b x in
      ap (classes.is_class (class_number s code k)) a.found ∙ ap Some (class_test s code coding a.class k a.levels (class_levels s code coding k c)) ∙ sym (ap (λ o. Some (text_is k o)) a.is)

  -- ---- what a reference names

  pub object_in_same : (j k : ℕ) → IsObject s m j → Classed s k → classes.in_class code fs (class_number s code k) j ≡ Some (stands_in s m k (Object j))
  unfolding stands_in
  object_in_same j k x c = in_class_same j k (object_here j x) c

  pub named_in_same : (k : ℕ) → Classed s k → (p : Plain) → Names s m (Of p) → IsReference p → classes.is_in code fs (class_number s code k) p ≡ Some (stands_in s m k p)
  named_in_same k c (Object j) n i = object_in_same j k n c
  named_in_same k c (MainOf b) n i = main_in_same b k n c
  named_in_same k c Nothing n i = absurd i
  named_in_same k c (Integer z) n i = absurd i
  named_in_same k c (Truth z) n i = absurd i
  named_in_same k c (Character z) n i = absurd i
  named_in_same k c (PlainText z) n i = absurd i

  pub named_may_stand : (k : ℕ) → Classed s k → (p : Plain) → Names s m (Of p) → IsReference p → classes.may_stand code fs (class_number s code k) (Some p) ≡ Some (stands_in s m k p)
  named_may_stand k c (Object j) n i = object_in_same j k n c
  named_may_stand k c (MainOf b) n i = main_in_same b k n c
  named_may_stand k c Nothing n i = absurd i
  named_may_stand k c (Integer z) n i = absurd i
  named_may_stand k c (Truth z) n i = absurd i
  named_may_stand k c (Character z) n i = absurd i
  named_may_stand k c (PlainText z) n i = absurd i

  -- what is seen of it from a block, whose class `process` is the same on both sides
  pub in_process_same : (b : ℕ) (x : Instance (List Held)) → live m b ≡ Some x → (p : Plain) → Names s m (Of p) → IsReference p → classes.in_process code fs b p ≡ in_process s m b p
  in_process_same b x lives p n r = ap (λ o. classes.in_process_class code fs o p) (process_at_same b x lives) ∙ by (process_at s m b) refl
    where
      classed : (k : ℕ) → process_at s m b ≡ Some k → Classed s k
      classed k e =
          let own = ap (λ o. process_in s (text_in o)) (is_live_at (slice_get m.instances b) x lives).there in
          ap is_class (process_text (text s k) (process_there s code coding x.text k (sym own ∙ e)))

      by : (o : Option ℕ) → process_at s m b ≡ o → classes.in_process_class code fs (option_map (class_number s code) o) p ≡ in_process_class s m o p
      by None e = refl
      by (Some k) e = named_in_same k (classed k e) p n r
