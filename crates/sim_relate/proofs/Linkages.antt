-- What objects and blocks are made as: the marks of the blocks of their levels tell which classes of SIMSET and SIMULATION these are.
use Rattle.std.proofs.Common.{◌≡◌, ℕ, suc, Bool, true, false, List, [], ◌∷◌, map, Option, Some, None, refl, ap, ◌∙◌, sym, subst, arith}
use Rattle.std.specs.Option.{option_map}
use Rattle.std.specs.List.{list_any}
use Rattle.std.specs.Prelude.{◌==◌, ◌||◌, is_some, slice_get}
use Rattle.sim_scope.specs.declared.types.StandardClass.TheVariants as standard
use Rattle.sim_scope.specs.Source.{Source}
use Rattle.sim_values.specs.Words.{instance_words}
use Rattle.sim_code.specs.Classes.{block_in_record, head_mark, is_mark_of, is_marked, is_marked_in, levels, linkage_mark, process_class, process_mark}
use Rattle.sim_code.specs.Code.{CodeOf}
use Rattle.sim_code.specs.Levels.{block_begun as block_begun_of_code, is_process_class as is_process_class_of_code, is_process_record, is_simulation_class, linkage_in, linkage_of_class, linkage_with, object_made as object_made_of_code, words_of_object}
use Rattle.sim_code.specs.Outcome.{World}
use Rattle.sim_code.specs.Sets.{enrolled, linkage_by}
use Rattle.sim_code.specs.Simulations.{begun_in, joined}
use Rattle.sim_meaning.specs.Levels.{has_levels, has_standard_class, is_class, is_head_class, is_linkage_class, is_process_class, is_process_text, is_simulation_text, is_standard_text, levels_of, linkage_of_text}
use Rattle.sim_meaning.specs.Levels as meaning
use Rattle.sim_meaning.specs.Objects.{block_begun, object_made}
use Rattle.sim_meaning.specs.Texts.{BlockText, ClassText, ConnectionText, PrefixedText, ProcedureText, StandardText, Text, text}
use Rattle.codegen_expr.specs.Sites.{class_number}
use Rattle.codegen.specs.Compiled.{Compiled, Marked, mark_of}
use Rattle.sim_relate.proofs.ClassLevels.{level_levels, levels_numbers, levels_solid, number_is, numbered}
use Rattle.sim_relate.proofs.ClassTexts.{ClassHas, class_has}
use Rattle.sim_relate.proofs.Known.{is_process_in}
use Rattle.sim_relate.proofs.LevelLists.{place_level}
use Rattle.sim_relate.proofs.ProcessClasses.{process_same}

-- the marks of `linkage`, `head` and `process`
linkage_text : (o : Option Text) → (mark_of o == linkage_mark) ≡ is_standard_text is_linkage_class o
linkage_text None = refl
linkage_text (Some (BlockText begin ds ss)) = refl
linkage_text (Some (ProcedureText result h a)) = refl
linkage_text (Some (ClassText prefix h ds ss)) = refl
linkage_text (Some (PrefixedText class es ds ss)) = refl
linkage_text (Some ConnectionText) = refl
linkage_text (Some (StandardText standard.Linkage)) = refl
linkage_text (Some (StandardText standard.Link)) = refl
linkage_text (Some (StandardText standard.Head)) = refl
linkage_text (Some (StandardText standard.Process)) = refl

head_text : (o : Option Text) → (mark_of o == head_mark) ≡ is_standard_text is_head_class o
head_text None = refl
head_text (Some (BlockText begin ds ss)) = refl
head_text (Some (ProcedureText result h a)) = refl
head_text (Some (ClassText prefix h ds ss)) = refl
head_text (Some (PrefixedText class es ds ss)) = refl
head_text (Some ConnectionText) = refl
head_text (Some (StandardText standard.Linkage)) = refl
head_text (Some (StandardText standard.Link)) = refl
head_text (Some (StandardText standard.Head)) = refl
head_text (Some (StandardText standard.Process)) = refl

process_text : (o : Option Text) → (mark_of o == process_mark) ≡ is_standard_text is_process_class o
process_text None = refl
process_text (Some (BlockText begin ds ss)) = refl
process_text (Some (ProcedureText result h a)) = refl
process_text (Some (ClassText prefix h ds ss)) = refl
process_text (Some (PrefixedText class es ds ss)) = refl
process_text (Some ConnectionText) = refl
process_text (Some (StandardText standard.Linkage)) = refl
process_text (Some (StandardText standard.Link)) = refl
process_text (Some (StandardText standard.Head)) = refl
process_text (Some (StandardText standard.Process)) = refl

-- a prefixed block has no mark
unmarked : (o : Option Text) (mark : ℕ) → has_levels o ≡ true → is_class o ≡ false → (mark_of o == suc mark) ≡ false
unmarked None mark h e = absurd (cc (h))
unmarked (Some (BlockText begin ds ss)) mark h e = absurd (cc (h))
unmarked (Some (ProcedureText result f a)) mark h e = absurd (cc (h))
unmarked (Some (ClassText prefix f ds ss)) mark h e = absurd (cc (e))
unmarked (Some (PrefixedText class es ds ss)) mark h e = grind arith
unmarked (Some ConnectionText) mark h e = absurd (cc (h))
unmarked (Some (StandardText which)) mark h e = absurd (cc (e))

any_same : (f g : ℕ → Bool) (h : ℕ → ℕ) (ks : List ℕ) → ((n k : ℕ) → slice_get ks n ≡ Some k → f (h k) ≡ g k) → list_any f (map h ks) ≡ list_any g ks
any_same f g h [] same = refl
any_same f g h (k ∷ ks) same = ap (λ b. b || list_any f (map h ks)) (same 0 k refl) ∙ ap (λ b. g k || b) (any_same f g h ks (λ n j e. same (suc n) j e))

module _ (s : Source) (code : CodeOf) (compiled : Compiled s code) where
  -- the mark of a level's block
  pub marked_is : (mark k : ℕ) → has_levels (text s k) ≡ true → is_marked code (suc mark) (class_number s code k) ≡ (mark_of (text s k) == suc mark)
  marked_is mark k h =
      ap (λ z. is_marked_in (suc mark) (block_in_record code z)) (numbered s code compiled k x) ∙ ap (λ n. is_marked_in (suc mark) (slice_get code.blocks n)) x.has.is.of_block ∙ ap (is_marked_in (suc mark)) x.found ∙
      ap (λ z. is_mark_of (suc mark) z x.block.entry) x.has.heads.is_kind ∙ by (is_class (text s k)) refl
    where
      x : ClassHas s code k
      x = class_has s code compiled k h

      by : (c : Bool) → is_class (text s k) ≡ c → is_mark_of (suc mark) x.kind x.block.entry ≡ (mark_of (text s k) == suc mark)
      by true c =
          let object = x.of_class c in
          let marked : x.block.entry ≡ mark_of (text s k) = subst (λ z. Marked z (mark_of (text s k)) x.block.entry) object x.has.marked in
          ap (λ z. is_mark_of (suc mark) z x.block.entry) object ∙ ap (λ n. n == suc mark) marked
      by false c = ap (λ z. is_mark_of (suc mark) z x.block.entry) (x.of_block c) ∙ sym (unmarked (text s k) mark h c)

  pub process_marked : (k : ℕ) → has_levels (text s k) ≡ true → is_marked code process_mark (class_number s code k) ≡ is_process_in s k
  process_marked k h = marked_is 3 k h ∙ process_text (text s k)

  module _ (g : ℕ) (has : has_levels (text s g) ≡ true) where
    any_marked : (mark : ℕ) (test : Option Text → Bool) → ((o : Option Text) → (mark_of o == suc mark) ≡ test o) → list_any (is_marked code (suc mark)) (map (class_number s code) (levels_of s g)) ≡ list_any (λ k. test (text s k)) (levels_of s g)
    any_marked mark test same =
        any_same (is_marked code (suc mark)) (λ k. test (text s k)) (class_number s code) (levels_of s g)
        (λ n k e. marked_is mark k (level_levels s code compiled g k (place_level s compiled.agrees g k n (levels_solid s code compiled g has) e).0 has) ∙ same (text s k))

  -- both sides make the same of an object
  pub linkage_same : (g : ℕ) (x : ClassHas s code g) → linkage_of_class code x.block.class ≡ linkage_of_text s g
  unfolding linkage_with linkage_of_text
  linkage_same g x =
      let head = any_marked g x.levels 2 (is_standard_text is_head_class) head_text in
      let linkage = any_marked g x.levels 0 (is_standard_text is_linkage_class) linkage_text in
      ap (linkage_in code) (ap (levels code) (sym (number_is s code compiled g x)) ∙ levels_numbers s code compiled g x.levels) ∙
      ap (λ b. linkage_by b (list_any (is_marked code linkage_mark) (map (class_number s code) (levels_of s g)))) head ∙ ap (linkage_by (has_standard_class s is_head_class g)) linkage

  -- and it is a process on both, or on neither
  pub process_record : (g : ℕ) (x : ClassHas s code g) → is_process_class_of_code code x.block.class ≡ is_process_text s g
  process_record g x = ap is_process_record x.has.is.numbered ∙ x.has.is.process

  -- a block of levels is a simulation block on both, or on neither
  pub simulation_same : (g : ℕ) (x : ClassHas s code g) → is_simulation_class code x.block.class ≡ is_simulation_text s g
  simulation_same g x = ap (λ c. is_some (process_class code c)) (sym (number_is s code compiled g x)) ∙ ap is_some (process_same s code compiled g x.levels) ∙ some_mapped (meaning.process_class s g)
    where
      some_mapped : (o : Option ℕ) → is_some (option_map (class_number s code) o) ≡ is_some o
      some_mapped None = refl
      some_mapped (Some k) = refl

  -- so both worlds change alike
  pub object_same : (g : ℕ) (x : ClassHas s code g) (parent object : ℕ) (o : World) → object_made_of_code code x.block.class parent object o ≡ object_made s g parent object o
  object_same g x parent object o =
      ap (λ b. joined b parent object (enrolled object (linkage_of_class code x.block.class) o)) (process_record g x) ∙ ap (λ z. joined (is_process_text s g) parent object (enrolled object z o)) (linkage_same g x)

  pub block_same : (g : ℕ) (x : ClassHas s code g) (block : ℕ) (o : World) → block_begun_of_code code x.block.class block o ≡ block_begun s g block o
  block_same g x block o = ap (λ b. begun_in b block o) (simulation_same g x)

  -- a process takes as many words
  pub words_same : (g : ℕ) (x : ClassHas s code g) → words_of_object code x.block ≡ instance_words x.block.cells (is_process_text s g)
  words_same g x = ap (instance_words x.block.cells) (process_record g x)
