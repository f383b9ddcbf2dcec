-- Where levels begin and end.
use Rattle.std.proofs.Common.{◌≡◌, ℕ, pos, Bool, length, ap, ◌∙◌}
use Rattle.sim_scope.specs.declared.bound.Bound.{Bound}
use Rattle.sim_scope.specs.Source.{source_of}
use Rattle.sim_code.specs.declared.code.CodeType.TheVariants as type
use Rattle.sim_code.specs.declared.instr.Instr.{Instr}
use Rattle.sim_code.specs.declared.instr.Instr.TheVariants as i
use Rattle.sim_meaning.specs.Levels.{is_process_text}
use Rattle.codegen_expr.specs.Drafts.{class_of, with_instr}
use Rattle.codegen_expr.specs.Sites.{block_number}
use Rattle.codegen.specs.declared.class_texts.LevelHead.{LevelHead}
use Rattle.codegen.specs.declared.level_records.LevelStart.{LevelStart}
use Rattle.codegen.specs.declared.texts.ClassAt.{ClassAt}
use Rattle.codegen.specs.declared.texts.Written.{Written}
use Rattle.codegen.specs.EmitProgram.{AddsBlock, BeginsLevel, EndsLevel, FrontClass, LevelPlace, OwnEnd, PutsClass}

abbrev start_of : (block start level prefix class : ℕ) → (process : Bool) → (used : ℕ) → LevelStart
start_of block start level prefix class process used = record { block = block; start = start; level = level; prefix = prefix; class = class; process = process; used = used }

abbrev class_of_level : LevelStart → (stated after : ℕ) → ClassAt
class_of_level x stated after = record { prefix = x.prefix; block = x.block; declarations = x.start; statements = stated; after_inner = after; process = x.process }

module _ (b : Bound) where
  pub begun : (old new : Written) (k block start level prefix class j used : ℕ) (process : Bool) → block ≡ length old.blocks.items → start ≡ length old.draft.instrs → LevelPlace b k level → FrontClass b old.draft.classes k prefix → j ≡ block_number (source_of b) k → class ≡ class_of old.draft.classes j
      → process ≡ is_process_text (source_of b) k → OwnEnd b old.draft.classes k used → new.draft ≡ record old.draft { room = 0; size = used } → new.blocks ≡ old.blocks → new.classes ≡ old.classes → BeginsLevel b old new k (start_of block start level prefix class process used)
  unfolding BeginsLevel LevelPlace FrontClass OwnEnd
  begun old new k block start level prefix class j used process eb es el ep ej ec er eu ed ebl ecs = record { block = eb; start = es; level = el; prefix = ep; class = ec ∙ ap (class_of old.draft.classes) ej; process = er; used = eu; draft = ed; blocks = ebl; classes = ecs }

  pub ended : (old mid more new : Written) (h : LevelHead) (x : LevelStart) (stated after : ℕ) (y : Instr) → y ≡ i.EndLevel (pos x.level) → mid.draft ≡ with_instr old.draft y 0 → mid.blocks ≡ old.blocks → mid.classes ≡ old.classes
      → AddsBlock b mid more (record { kind = h.kind; text = h.text; entry = h.entry; result_type = type.Nothing }) → PutsClass more new x.class (class_of_level x stated after) → EndsLevel b old new h x stated after
  unfolding EndsLevel AddsBlock PutsClass
  ended old mid more new h x stated after y ey ed eb ec f g = record { mid = mid; draft = ed ∙ ap (λ z. with_instr old.draft z 0) ey; blocks = eb; classes = ec; more = more; added = f; put = g }

pub ruleset levels = (begun, ended)
