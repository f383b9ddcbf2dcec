-- The work of a new object or prefixed block: the declarations of all its levels, then the statements of the outermost one, and its end.
use Rattle.std.proofs.Common.{◌+◌, None, ◌≡◌, ◌<◌, ◌≤◌, ℕ, suc, true, List, [], ◌∷◌, length, Some, refl, sym, ap, ◌∙◌, subst}
use Rattle.std.specs.Prelude.{drop, pos, slice_get}
use Rattle.sim_scope.specs.Source.{Source}
use Rattle.sim_code.specs.declared.instr.Instr.TheVariants as i
use Rattle.sim_code.specs.declared.stage.Stage.TheVariants as stage
use Rattle.sim_code.specs.Code.{BlockOf, CodeOf}
use Rattle.sim_code.specs.Machine.{Frames}
use Rattle.sim_meaning.specs.Levels.{has_levels, level_made, levels_made, levels_of}
use Rattle.sim_meaning.specs.Objects.{declared, level_work, levels_work}
use Rattle.sim_meaning.specs.Pending.{DeclareOp, Do, Instances, Item, Level, LevelOp}
use Rattle.sim_meaning.specs.Texts.{text}
use Rattle.codegen_expr.specs.Sites.{expression_temps, Is, block_number, frame_text, own_end}
use Rattle.codegen.specs.CodeArrays.{ArraysAt}
use Rattle.codegen.specs.Compiled.{Compiled, site_of}
use Rattle.sim_relate.proofs.Frames.{same_frame}
use Rattle.sim_relate.proofs.Known.{HasClass, Runs, Spot}
use Rattle.sim_relate.proofs.LevelCode.{low_here, LevelCode, dropped_at, dropped_none, level_begins, level_code, made_of, moved_level, none_made}
use Rattle.sim_relate.proofs.Pending.{ends_at, pends, pends_in}
use Rattle.sim_relate.proofs.Relation.{DeclaredTo, EndAt, WorkAt, at_level, declares, to_first, to_next}
use Rattle.sim_relate.proofs.Waiting.{Wait}

module _ (s : Source) (code : CodeOf) (compiled : Compiled s code) (m : Instances) (fs : Frames) (Below : Wait → Type 0) (inst : ℕ) (b : Runs) (own_block : BlockOf) (found : slice_get code.blocks (block_number s b.own) ≡ Some own_block) (roomy : own_block.room ≤ b.room) (own_levels : has_levels (text s b.own) ≡ true) (of_class : HasClass s b.own) (base : b.thunk ≡ None) where
  abbrev Code : (k n : ℕ) → Level → Type 0
  Code k n x = LevelCode s code compiled b k n x

  -- at the declarations of a level
  abbrev declaring : {k n : ℕ} {x : Level} → Code k n x → Runs
  declaring {k} {n} {x} a = (at_level s code b k a.block (stage.Declaring n)).runs

  abbrev Pends : (k : ℕ) → Runs → List Item → (p : ℕ) → Type 0
  Pends k c w p = WorkAt s code m fs Below inst k c (own_end s code k + expression_temps) w p []

  one_level : (k n : ℕ) (x : Level) (a : Code k n x) (c : Spot) (q : ℕ) (w : List Item) → q < length code.instrs → DeclaredTo s code (declaring a) n c q → WorkAt s code m fs Below inst c.text c.runs c.used w q [] → Pends k (declaring a) (Do (DeclareOp x.declarations) ∷ Do (LevelOp x.text) ∷ w) a.class.declarations
  one_level k n x a c q w within to work =
      let low = low_here s code compiled m fs Below inst b k n x a (stage.Declaring n) in
      pends s code m fs Below inst k (declaring a) (own_end s code k + expression_temps) (record { at = low; calm = refl }) (Do (LevelOp x.text) ∷ w) (DeclareOp x.declarations) a.class.declarations a.last_declared [] [] (subst (λ z. ArraysAt s code (record (site_of s code k a.block) { thunk = z }) x.declarations a.class.declarations a.last_declared) (sym a.level.base) a.declared, refl, refl)
      (pends_in s code m fs Below inst k (declaring a) (own_end s code k + expression_temps) low w (LevelOp x.text) k c a.last_declared q [] [] (same_frame s k)
      (declares x.text refl (record { place = n; was = refl; on = a.on; is = a.next; there = within; to = to; none = refl; none_behind = refl })) work)

  module _ (first : ℕ) (first_level : Level) (outermost : Code first 0 first_level) (w : List Item) (stated : Pends first (at_level s code b first outermost.block (stage.Stating 0)).runs w outermost.class.statements) where
    declared_pends : (ks : List ℕ) (k n : ℕ) (x : Level) (xs : List Level) (a : Code k n x) → drop n (levels_of s b.own) ≡ k ∷ ks → levels_made s ks ≡ Some xs → Pends k (declaring a) (declared (x ∷ xs) w) a.class.declarations
    declared_pends [] k n x (y ∷ ys) a at e = absurd (cc)
    declared_pends [] k n x [] a at e =
        let here = dropped_at n (levels_of s b.own) k [] at in
        one_level k n x a (at_level s code (declaring a) first outermost.block (stage.Stating 0)) outermost.class.statements w outermost.stated_there
        (to_first (record {
          last = dropped_none (suc n) (levels_of s b.own) here.1;
          text = first;
          block = outermost.block;
          class = outermost.class;
          level = moved_level s code compiled b (declaring a) first 0 outermost.block outermost.class refl refl refl outermost.level;
          leads = refl;
          goes_on = refl;
        })) stated
    declared_pends (k' ∷ ks) k n x [] a at e = let none = none_made s (k' ∷ ks) e in absurd (cc (none))
    declared_pends (k' ∷ ks) k n x (y ∷ ys) a at e =
        let p = made_of s (k' ∷ ks) y ys e in
        let is = p.is in
        let number : p.number ≡ k' = cc (is) in
        let more : p.more ≡ ks = cc (is) in
        let here = dropped_at n (levels_of s b.own) k (k' ∷ ks) at in
        let inward = dropped_at (suc n) (levels_of s b.own) k' ks here.1 in
        let next = level_code s code compiled b own_block found roomy own_levels of_class base k' (suc n) y inward.0 (subst (λ z. level_made s z (text s z) ≡ Some y) number p.first) in
        one_level k n x a (at_level s code (declaring a) k' next.block (stage.Declaring (suc n))) next.class.declarations (declared (y ∷ ys) w) next.declared_there
        (to_next (record {
          text = k';
          block = next.block;
          class = next.class;
          level = moved_level s code compiled b (declaring a) k' (suc n) next.block next.class refl refl refl next.level;
          leads = refl;
          goes_on = refl;
        })) (declared_pends ks k' (suc n) y ys next here.1 (subst (λ z. levels_made s z ≡ Some ys) more p.rest))

  -- What is pending at the beginning of an object or a prefixed block. Its levels are those that are made of this list.
  pub levels_pend : (end : Item) (k : ℕ) (ks : List ℕ) (x : Level) (xs : List Level) (a : Code k 0 x) → levels_of s b.own ≡ k ∷ ks → levels_made s ks ≡ Some xs
      → ((p last : ℕ) → Is code (i.EndLevel (pos 0)) p last → EndAt s code Below (frame_text s k) (at_level s code b k a.block (stage.Behind 0)).runs end [] p []) → Pends k (declaring a) (levels_work (x ∷ xs) end) a.class.declarations
  levels_pend end k ks x xs a is made ends =
      declared_pends k x a (level_work x xs (end ∷ []))
      (level_begins s code compiled m fs Below inst b k 0 x a xs (end ∷ []) (ap (λ z. levels_made s (drop 1 z)) is ∙ made)
      (ends_at s code m fs Below inst k (at_level s code b k a.block (stage.Behind 0)).runs (own_end s code k + expression_temps) end [] a.stop []
      (ends a.stop a.behind a.ends)))
      ks k 0 x xs a is made
