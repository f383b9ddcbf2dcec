-- Texts with levels: classes, and blocks with a prefix; and all texts, by the part of the tree.
use Rattle.std.proofs.Common.{◌≡◌, ◌≢◌, ◌<◌, ◌≤◌, ◌+◌, ℕ, zero, suc, pos, true, false, List, [], ◌∷◌, ◌++◌, length, map, Bool, Bor, Option, Some, None, refl, sym, ap, ◌∙◌, subst, arith, append-nil, length-append}
use Rattle.std.specs.Prelude.{⊤, slice_get, slice_set}
use Rattle.sim_scope.specs.declared.bound.Bound.{Bound}
use Rattle.sim_scope.specs.declared.types.StandardClass.{StandardClass}
use Rattle.sim_scope.specs.declared.types.StandardClass.TheVariants as standard
use Rattle.sim_scope.specs.Source.{Source, line_at, source_of}
use Rattle.sim_tree.specs.declared.expr.Identifier.{Identifier}
use Rattle.sim_tree.specs.declared.program.BlockPrefix.{BlockPrefix}
use Rattle.sim_tree.specs.declared.stmt.Block.{Block}
use Rattle.sim_tree.specs.declared.stmt.Class.{Class}
use Rattle.sim_tree.specs.declared.stmt.Decl.{Decl}
use Rattle.sim_tree.specs.declared.stmt.Procedure.{Procedure}
use Rattle.sim_tree.specs.declared.stmt.Stmt.{Stmt}
use Rattle.sim_tree.specs.declared.stmt.TypeName.{TypeName}
use Rattle.sim_tree.specs.Syntax.{Also, Declarations, Heading, NoDeclaration, NoStatement, Statements, declarations, statements}
use Rattle.sim_tree.specs.SyntaxOfProgram.{block_syntax, declaration_syntax, heading_syntax, prefix_syntax, statement_syntax}
use Rattle.sim_tree.proofs.ProgramSyntaxLemmas as v
use Rattle.sim_code.specs.declared.code.BlockKind.{BlockKind}
use Rattle.sim_code.specs.declared.code.BlockKind.TheVariants as kind
use Rattle.sim_code.specs.declared.code.CodeType.TheVariants as type
use Rattle.sim_code.specs.declared.code.Match.{Match}
use Rattle.sim_code.specs.declared.instr.Instr.{Instr}
use Rattle.sim_code.specs.declared.instr.Instr.TheVariants as i
use Rattle.sim_code.specs.declared.instr.Lined.{Lined}
use Rattle.sim_code.specs.Classes.{class_numbered}
use Rattle.sim_code.specs.Code.{BlockOf, ClassOf, CodeOf}
use Rattle.sim_code.specs.Running.{AllRun}
use Rattle.sim_meaning.specs.Attributes as Attributes
use Rattle.sim_meaning.specs.Levels.{is_process_class, is_process_itself, is_standard_text, writes_inner}
use Rattle.sim_meaning.specs.Texts.{ClassText, PrefixedText, ProcedureText, StandardText, Text, text}
use Rattle.program_texts.specs.declared.tree.TextTree.{TextTree}
use Rattle.program_texts.specs.declared.tree.TextTree.TheVariants as tree
use Rattle.program_texts.specs.TextTrees.{class_text, heading_of, prefixed_text, text_in}
use Rattle.codegen_expr.specs.declared.spot.Spot.{Spot}
use Rattle.codegen_expr.specs.Drafts.{DraftOf, Emits, Grows, Longer, ThunksGrow, class_of, given_up, open_thunk, planned_at, planned_front, planned_in, with_instr}
use Rattle.codegen_expr.proofs.Slots.{front_planned}
use Rattle.codegen_expr.specs.Sites.{At, Is, Site, block_in_front, block_number, class_in, lined, prefix_of}
use Rattle.codegen.proofs.ClassLevels.{emits_to}
use Rattle.codegen_expr.proofs.Pieces.{Fronts, append_at, emits_at, emits_then, fronts_le, fronts_then, grows_front, grows_then, more_before, more_behind, more_same, still_before, still_behind, still_same}
use Rattle.codegen.specs.declared.class_texts.LevelHead.{LevelHead}
use Rattle.codegen.specs.declared.level_records.LevelStart.{LevelStart}
use Rattle.codegen.specs.declared.texts.ClassAt.{ClassAt}
use Rattle.codegen.specs.declared.texts.Head.{Head}
use Rattle.codegen.specs.declared.texts.Written.{Written}
use Rattle.codegen.specs.BuiltProgram.{ArraysBuilt, LevelBuilt, TextBuilt}
use Rattle.codegen.specs.CodeArrays.{ArraysAt}
use Rattle.codegen.specs.CodeStm.{LevelAt, ProcessAt}
use Rattle.codegen.specs.Compiled.{ClassIs, ClassTextOf, CodeHas, LevelOf, ProcessOf, RecordOf, StandardTextOf, mark_of, parameters_of, site_of, standard_mark}
use Rattle.codegen.specs.EmitArrays.{WritesArrays}
use Rattle.codegen.specs.EmitProcesses.{WritesProcess}
use Rattle.codegen.specs.EmitProgram.{BeginsLevel, ClassPut, Ends, EndsLevel, Entered, LevelBegun, LevelEnded, LevelText, Next, OwnEnd, TextEmitted, WritesBlockText, WritesClassText, WritesLevel, WritesLevelText, WritesPrefixedText, WritesProcedureText, WritesProcessText, WritesStandardText, WritesText, a_block, a_class, a_standard, blocks_in, class_record, classes_in, formals_by_kind, is_planned}
use Rattle.codegen.proofs.Walked.{head_of, kinds_agree, one_only, recorded, spot, syntax_of_block, text_given_up, within}

-- ---- classes in their places

ends_with : (c : DraftOf) (stop : Instr) (d : DraftOf) → d ≡ with_instr c stop 0 → d.instrs ≡ c.instrs ++ (lined stop 0 ∷ [])
unfolding with_instr
ends_with c stop d e = ap (λ z. z.instrs) e

whole_with : (c : DraftOf) (stop : Instr) (d : DraftOf) → d ≡ with_instr c stop 0 → d.whole ≡ c.whole
unfolding with_instr
whole_with c stop d e = ap (λ z. z.whole) e

classes_with : (c : DraftOf) (stop : Instr) (d : DraftOf) → d ≡ with_instr c stop 0 → d.classes ≡ c.classes
unfolding with_instr
classes_with c stop d e = ap (λ z. z.classes) e

thunks_with : (c : DraftOf) (stop : Instr) (d : DraftOf) → d ≡ with_instr c stop 0 → d.thunks ≡ c.thunks
unfolding with_instr
thunks_with c stop d e = ap (λ z. z.thunks) e

lists_with : (c : DraftOf) (stop : Instr) (d : DraftOf) → d ≡ with_instr c stop 0 → d.lists ≡ c.lists
unfolding with_instr
lists_with c stop d e = ap (λ z. z.lists) e

set_there : {A : Type 0} (xs : List A) (p : ℕ) (y v : A) → slice_get xs p ≡ Some y → slice_get (slice_set xs p v) p ≡ Some v
set_there [] p y v e = absurd (cc)
set_there (x ∷ xs) zero y v e = refl
set_there (x ∷ xs) (suc p) y v e = set_there xs p y v e

-- what is put where none is leaves the others
set_keeps : (xs : List (Option ClassAt)) (p j : ℕ) (v : Option ClassAt) (c : ClassAt) → slice_get xs p ≡ Some None → slice_get xs j ≡ Some (Some c) → slice_get (slice_set xs p v) j ≡ Some (Some c)
set_keeps [] p j v c none is = absurd (cc)
set_keeps (x ∷ xs) zero zero v c none is = let clash : Some None ≡ Some (Some c) = sym none ∙ is in absurd (cc)
set_keeps (x ∷ xs) zero (suc j) v c none is = is
set_keeps (x ∷ xs) (suc p) zero v c none is = is
set_keeps (x ∷ xs) (suc p) (suc j) v c none is = set_keeps xs p j v c none is

kept_by : (new newer : Written) (number : ℕ) (at : ClassAt) → ClassPut new newer number at → (j : ℕ) (c : ClassAt) → slice_get new.classes.items j ≡ Some (Some c) → slice_get newer.classes.items j ≡ Some (Some c)
kept_by new newer number at f j c is = ap (λ z. slice_get z j) f.put ∙ set_keeps new.classes.items f.place j (Some at) c f.none is

-- with a class more, what was there is still there
fewer : (new newer : Written) (number : ℕ) (at : ClassAt) (final : CodeOf) → ClassPut new newer number at → Ends newer final → Ends new final
fewer new newer number at final f g = record {
  grows = subst (λ z. Grows z final.instrs) (ap (λ z. z.instrs) f.draft) g.grows;
  blocks = λ j x is. g.blocks j x (ap (λ z. slice_get z.items j) f.blocks ∙ is);
  classes = λ j x is. g.classes j x (kept_by new newer number at f j x is);
  classed = λ j. g.classed j ∙ ap (λ z. planned_at z.classes j) f.draft;
  thunked = subst (λ z. ThunksGrow z final.thunks) (ap (λ z. z.thunks) f.draft) g.thunked;
  closed = ap (λ z. open_thunk z.thunks) (sym f.draft) ∙ g.closed;
  listed = subst (λ z. Longer z final.actual_lists) (ap (λ z. z.lists) f.draft) g.listed;
}

-- ---- the code of a level

abbrev Place : Type 1
Place = CodeOf → Site → ℕ → ℕ → Type 0

-- the class of a level
abbrev class_of_level : LevelStart → (stated after : ℕ) → List Match → ClassOf
class_of_level x stated after matches = class_record (record { prefix = x.prefix; block = x.block; declarations = x.start; statements = stated; after_inner = after; process = x.process }) matches

-- what is known of a text with levels but its code
pub record Kinded (s : Source) (h : LevelHead) (x : Text) : Type 0 where
  pub planned : is_planned x ≡ true
  pub formals : formals_by_kind s h.kind h.text ≡ parameters_of s h.text (Some x)
  pub one_block : 1 ≡ blocks_in x
  pub one_class : 0 < classes_in x

module _ (b : Bound) where
  -- Behind before a text begins, and behind old its level, whose body is this. The level ends in mid.
  level_recorded : (before old begun mid new : Written) (c : DraftOf) (h : LevelHead) (y : LevelStart) (stated behind : ℕ) (x : Text) (P : Type 0) (Body : Place) → Entered before old → LevelBegun (source_of b) old begun h.text y → Emits (spot h.text y.used) begun.draft c P Body → mid.draft ≡ c → mid.blocks ≡ begun.blocks → mid.classes ≡ begun.classes
      → LevelEnded (source_of b) mid new h y stated behind → Next (source_of b) before h.text x → Kinded (source_of b) h x → (TextBuilt (source_of b) h.text x → P)
      → ((final : CodeOf) (block : BlockOf) (matches : List Match) → Grows old.draft.instrs final.instrs → block.entry ≡ h.entry → RecordOf (source_of b) final h.text h.kind type.Nothing block → ClassIs (source_of b) final h.text block (class_of_level y stated behind matches) → y.start ≡ length old.draft.instrs
      → Body final (site_of (source_of b) final h.text block) (length begun.draft.instrs) (length c.instrs) → length begun.draft.instrs ≡ y.start → length begun.draft.instrs ≤ length c.instrs → length c.instrs < length final.instrs → Is final (i.EndLevel (pos y.level)) (length c.instrs) (suc (length c.instrs)) → CodeHas (source_of b) final h.text x (Some block))
      → TextEmitted (source_of b) before new h.text x
  unfolding kinds_agree OwnEnd
  level_recorded before old begun mid new c h y stated behind x P Body entered f e ed eb ec g next kinded from code =
      let s = source_of b in
      let k = h.text in
      let m = y.used in
      let stop = i.EndLevel (pos y.level) in
      let plan = before.draft.classes in
      let w2 = g.more in
      let ended : g.mid.draft ≡ with_instr c stop 0 = g.draft ∙ ap (λ z. with_instr z stop 0) ed in
      let blocks_old : g.mid.blocks ≡ old.blocks = g.blocks ∙ eb ∙ f.blocks in
      let classes_old : g.mid.classes ≡ old.classes = g.classes ∙ ec ∙ f.classes in
      let i1 : begun.draft.instrs ≡ old.draft.instrs = ap (λ z. z.instrs) f.draft in
      let at_start : length begun.draft.instrs ≡ y.start = ap length i1 ∙ sym f.start in
      let draft : new.draft ≡ with_instr c stop 0 = g.put.draft ∙ g.added.same ∙ ended in
      let i5 : new.draft.instrs ≡ c.instrs ++ (lined stop 0 ∷ []) = ends_with c stop new.draft draft in
      let w5 : new.draft.whole ≡ c.whole = whole_with c stop new.draft draft in
      let last = emits_at (spot k m) c new.draft stop 0 draft (λ z. cc) refl in
      let fr : Fronts old.draft.instrs c.instrs = subst (λ z. Fronts z c.instrs) i1 (e.rest, e.front) in
      let le1 : length begun.draft.instrs ≤ length c.instrs = fronts_le begun.draft.instrs c.instrs (e.rest, e.front) in
      let whole : begun.draft.whole ≡ before.draft.whole = ap (λ z. z.whole) f.draft ∙ entered.whole in
      let classed : c.classes ≡ plan = e.classed ∙ ap (λ z. z.classes) f.draft ∙ entered.planned in
      let mid_plan : g.mid.draft.classes ≡ plan = classes_with c stop g.mid.draft ended ∙ classed in
      let own : planned_in (Some g.added.block) ≡ planned_at plan (block_number s k) = g.added.planned ∙ ap (λ z. planned_at z (block_number s k)) mid_plan in
      let its : y.class ≡ (planned_at plan (block_number s k)).class = f.class ∙ ap (λ z. class_of z (block_number s k)) entered.planned in
      let front_is : y.prefix ≡ (planned_front s plan k).class = f.prefix ∙ ap (λ z. (planned_front s z k).class) entered.planned in
      let counts : g.added.block.class ≡ suc g.put.place = ap (λ z. z.class) own ∙ sym its ∙ g.put.counts in
      let behind_old : Fronts old.draft.instrs new.draft.instrs = fronts_then old.draft.instrs c.instrs new.draft.instrs fr (lined stop 0 ∷ [], i5) in
      let all_there : Fronts before.draft.instrs new.draft.instrs = fronts_then before.draft.instrs old.draft.instrs new.draft.instrs (entered.rest, entered.front) behind_old in
      let blocks = blocks_old ∙ entered.blocks in
      let classes : w2.classes.items ≡ before.classes.items = g.added.same_classes ∙ ap (λ z. z.items) (classes_old ∙ entered.classes) in
      record {
        rest = all_there.0;
        front = all_there.1;
        classed = classes_with c stop new.draft draft ∙ classed;
        thunked = still_behind (thunks_with c stop new.draft draft) (still_before (ap (λ z. z.thunks) f.draft ∙ entered.thunks) e.thunked);
        listed = more_behind (lists_with c stop new.draft draft) (more_before (ap (λ z. z.lists) f.draft ∙ entered.lists) e.listed);
        fits = λ q. last.fits (e.fits (subst AllRun (sym i1) (entered.fits q)));
        added = g.added.block ∷ [];
        blocks = ap (λ z. z.items) g.put.blocks ∙ g.added.is ∙ ap (λ z. z.items ++ (g.added.block ∷ [])) blocks;
        kept = λ j c is. kept_by w2 new y.class _ g.put j c (ap (λ z. slice_get z j) classes ∙ is);
        earlier = λ q. sym whole ∙ e.before (sym w5 ∙ q);
        built = λ q o. w5 ∙ e.built (from q) (whole ∙ o);
        counted = λ q. kinded.one_block;
        numbered = λ q j blk is.
            let one = one_only g.added.block j blk is in
            let first = one.1 in
            let same : length before.blocks.items ≡ length before.blocks.items + j = omega (arith, first) in
            ap (λ z. planned_in (Some z)) (sym one.0) ∙ own ∙ ap (planned_at plan) next.block ∙ ap (planned_at plan) same;
        at = λ q final t.
            let less = fewer w2 new y.class _ final g.put t in
            let r = recorded b k x c stop before g.mid w2 (head_of h.kind k h.entry type.Nothing) final m g.added next kinded.planned (subst (λ z. OwnEnd b z k m) entered.planned f.used) ended (λ z. cc) (ap (λ z. z.items) blocks) classed refl kinded.formals less in
            let there : slice_get final.instrs (length c.instrs) ≡ Some (lined stop 0) = t.grows.keeps (length c.instrs) (lined stop 0) (ap (λ z. slice_get z (length c.instrs)) i5 ∙ append_at c.instrs (lined stop 0)) (λ z. cc) in
            let inside : length c.instrs < length final.instrs = within final.instrs (length c.instrs) (lined stop 0) there in
            let stands = e.at (sym w5 ∙ q) final (site_of s final k g.added.block) r.becomes in
            let put : slice_get new.classes.items g.put.place ≡ Some (Some _) = ap (λ z. slice_get z g.put.place) g.put.put ∙ set_there w2.classes.items g.put.place None (Some _) g.put.none in
            let known : (j : ℕ) → planned_in (slice_get final.blocks j) ≡ planned_at plan j = λ j. t.classed j ∙ ap (λ z. planned_at z j) (classes_with c stop new.draft draft ∙ classed) in
            let in_front : class_in (block_in_front s final k) ≡ (planned_front s plan k).class = ap (λ z. z.class) (front_planned s final plan k known) in
            let lower = (next.plan.each k x next.is kinded.planned).class kinded.one_class in
            let its_own : g.added.block.class ≡ (planned_at plan (block_number s k)).class = ap (λ z. z.class) own in
            let class = t.classes g.put.place _ put in
            subst (λ z. CodeHas s final k x z) (sym r.found)
            (code final g.added.block class.0 (grows_then old.draft.instrs new.draft.instrs final.instrs (grows_front old.draft.instrs new.draft.instrs behind_old) t.grows) r.entry r.heads
            (record {
              numbered = ap (class_numbered final) counts ∙ class.1;
              of_block = f.block ∙ ap (λ z. length z.items) entered.blocks ∙ sym next.block;
              prefix = front_is ∙ sym in_front;
              lower = omega (arith, front_is, lower, its_own);
              process = f.process;
            })
            f.start stands at_start le1 inside (record { line = 0; is = record { at = there; on = refl } }));
      }

  pub level_written : (old begun mid new : Written) (c2 c3 c4 : DraftOf) (ds : List Decl) (ss : List Stmt) (h : LevelHead) (y : LevelStart) (stated after behind : ℕ) (x3 : Instr) (w : Spot) → BeginsLevel b old begun h.text y → w ≡ spot h.text y.used → WritesArrays b w begun.draft c2 ds → x3 ≡ i.NextDecl (pos y.level) → c3 ≡ with_instr c2 x3 0 → stated ≡ length c3.instrs
      → WritesLevel b w y.level h.inner c3 c4 ss after → behind ≡ after → mid.draft ≡ c4 → mid.blocks ≡ begun.blocks → mid.classes ≡ begun.classes → EndsLevel b mid new h y stated behind → WritesLevelText b old new h ds ss
  unfolding WritesLevelText WritesArrays WritesLevel BeginsLevel EndsLevel
  level_written old begun mid new c2 c3 c4 ds ss h y stated after behind x3 w f is fa' e3' e3 est fl' ea ed eb ec g before x its_text next =
      let s = source_of b in
      let k = h.text in
      let xs = declarations (map declaration_syntax ds) in
      let ys = statements (map statement_syntax ss) in
      let c1 = begun.draft in
      let fa = subst (λ z. WritesArrays b z c1 c2 ds) is fa' in
      let fl = subst (λ z. WritesLevel b z y.level h.inner c3 c4 ss after) is fl' in
      let le3 : length c3.instrs ≤ length c4.instrs = fronts_le c3.instrs c4.instrs (fl.1.rest, fl.1.front) in
      let le_after = fl.0 in
      let body = emits_then (spot k y.used) _ _ _ _ c1 c2 c4 fa (emits_then (spot k y.used) _ _ _ _ c2 c3 c4 (emits_to b (spot k y.used) c2 c3 ⊤ _ stated est (emits_at (spot k y.used) c2 c3 (i.NextDecl (pos y.level)) 0 (e3 ∙ ap (λ z. with_instr c2 z 0) e3') (λ z. cc) refl)) fl.1) in
      level_recorded before old begun mid new c4 h y stated behind x _ _ its_text.entered f body ed eb ec g next (record { planned = its_text.planned; formals = its_text.formals; one_block = its_text.one_block; one_class = its_text.one_class })
      (λ q. (let parts = its_text.parts q in (parts.0, (tt, parts.1))))
      (λ final block matches grows entry heads its starts stands at_start le1 inside ends.
      let site = site_of s final k block in
      its_text.code final block (class_of_level y stated behind matches) grows entry starts heads its
      (record {
        place = y.level;
        placed = f.level;
        x = stands.0;
        y = stands.2.0;
        declared_there = omega (arith, at_start, le1, inside);
        declared = subst (λ z. ArraysAt s final site xs z stands.0) at_start stands.1;
        next = record { line = 0; is = stands.2.1.0 };
        stated_there = omega (arith, est, le3, inside);
        stop = length c4.instrs;
        stated = subst (λ z. LevelAt s final site y.level z h.inner ys stated (length c4.instrs)) (sym ea) (subst (λ z. LevelAt s final site y.level after h.inner ys z (length c4.instrs)) stands.2.1.1 stands.2.2);
        behind_there = omega (arith, ea, le_after, inside);
        last = suc (length c4.instrs);
        ends = ends;
      }))

-- ---- texts with levels that are no programs

level_kinds : (s : Source) (k : ℕ) {ds : Declarations} {ss : Statements} {a : BlockKind} {e : ℕ} {r : Bool} {x : Text} → LevelText s k ds ss a e r x → formals_by_kind s a k ≡ parameters_of s k (Some x)
level_kinds s k a_class = refl
level_kinds s k (a_standard set) = refl
level_kinds s k (a_block ne) = refl

level_planned : (s : Source) (k : ℕ) {ds : Declarations} {ss : Statements} {a : BlockKind} {e : ℕ} {r : Bool} {x : Text} → LevelText s k ds ss a e r x → is_planned x ≡ true
level_planned s k a_class = refl
level_planned s k (a_standard set) = refl
level_planned s k (a_block ne) = refl

level_counted : (s : Source) (k : ℕ) {ds : Declarations} {ss : Statements} {a : BlockKind} {e : ℕ} {r : Bool} {x : Text} → LevelText s k ds ss a e r x → 1 ≡ blocks_in x
level_counted s k a_class = refl
level_counted s k (a_standard set) = refl
level_counted s k (a_block ne) = refl

level_numbered : (s : Source) (k : ℕ) {ds : Declarations} {ss : Statements} {a : BlockKind} {e : ℕ} {r : Bool} {x : Text} → LevelText s k ds ss a e r x → 0 < classes_in x
level_numbered s k a_class = omega arith
level_numbered s k (a_standard set) = omega arith
level_numbered s k (a_block ne) = omega arith

level_parts : (s : Source) (k : ℕ) {ds : Declarations} {ss : Statements} {a : BlockKind} {e : ℕ} {r : Bool} {x : Text} → k ≢ 0 → LevelText s k ds ss a e r x → TextBuilt s k x → ArraysBuilt s k ds × LevelBuilt s k r ss
level_parts s zero ne kinded h = absurd (ne refl)
level_parts s (suc k) ne a_class h = h
level_parts s (suc k) ne (a_standard set) h = (tt, tt)
level_parts s (suc k) ne (a_block no_program) h = h

standard_code : (s : Source) (final : CodeOf) (k : ℕ) (blk : BlockOf) (which : StandardClass) → is_process_class which ≡ false → ClassTextOf s final k kind.Object false NoDeclaration NoStatement blk → StandardTextOf s final k which blk
standard_code s final k blk standard.Linkage set h = h
standard_code s final k blk standard.Link set h = h
standard_code s final k blk standard.Head set h = h
standard_code s final k blk standard.Process set h = absurd (cc)

level_code : (s : Source) (final : CodeOf) (k : ℕ) (blk : BlockOf) (class : ClassOf) {ds : Declarations} {ss : Statements} {a : BlockKind} {e : ℕ} {r : Bool} {x : Text} → k ≢ 0 → LevelText s k ds ss a e r x → text s k ≡ Some x → blk.entry ≡ e
    → RecordOf s final k a type.Nothing blk → ClassIs s final k blk class → LevelOf s final k r ds ss blk class → CodeHas s final k x (Some blk)
level_code s final zero blk class ne kinded is ee heads its level = absurd (ne refl)
level_code s final (suc k) blk class ne a_class is ee heads its level = record { heads = heads; marked = ee ∙ ap mark_of (sym is); class = class; is = its; level = level }
level_code s final (suc k) blk class ne (a_standard set) is ee heads its level = standard_code s final (suc k) blk _ set (record { heads = heads; marked = ee ∙ ap mark_of (sym is); class = class; is = its; level = level })
level_code s final (suc k) blk class ne (a_block no_program) is ee heads its level = record { heads = heads; marked = tt; class = class; is = its; level = level }

level_first : (s : Source) {ds : Declarations} {ss : Statements} {a : BlockKind} {e : ℕ} {r : Bool} {x : Text} → LevelText s 0 ds ss a e r x → TextBuilt s 0 x → ⊥
level_first s a_class h = h
level_first s (a_standard set) h = h
level_first s (a_block no_program) h = no_program refl

at_once : (w : Written) → Entered w w
at_once w = record { rest = []; front = sym (append-nil w.draft.instrs); thunks = refl; lists = refl; whole = refl; planned = refl; fits = λ h. h; blocks = refl; classes = refl }

process_itself : (s : Source) (k : ℕ) → text s k ≡ Some (StandardText standard.Process) → is_process_itself s k ≡ true
unfolding is_process_itself
process_itself s k is = ap (is_standard_text is_process_class) is

module _ (b : Bound) where
  pub class_text_written : (old new : Written) (ds : List Decl) (ss : List Stmt) (h : LevelHead) → h.text ≢ 0 → WritesLevelText b old new h ds ss → WritesClassText b old new h ds ss
  unfolding WritesLevelText WritesClassText
  class_text_written old new ds ss h ne f x kinded next =
      let s = source_of b in
      f old x (record {
        entered = at_once old;
        parts = level_parts s h.text ne kinded;
        planned = level_planned s h.text kinded;
        formals = level_kinds s h.text kinded;
        one_block = level_counted s h.text kinded;
        one_class = level_numbered s h.text kinded;
        code = λ final block class g ee ed heads its level. level_code s final h.text block class ne kinded next.is ee heads its level;
      }) next

  first_given_up : (old new : Written) (k : ℕ) {ds : Declarations} {ss : Statements} {a : BlockKind} {e : ℕ} {r : Bool} (x : Text) → k ≡ 0 → new.draft ≡ given_up old.draft → new.blocks ≡ old.blocks → new.classes ≡ old.classes → LevelText (source_of b) k ds ss a e r x → TextEmitted (source_of b) old new k x
  first_given_up old new zero x e ed eb ec kinded = text_given_up (source_of b) old new 0 x (level_first (source_of b) kinded) ed eb ec
  first_given_up old new (suc k) x e ed eb ec kinded = absurd (omega (arith, e))

  pub class_first : (old new : Written) (ds : List Decl) (ss : List Stmt) (h : LevelHead) → h.text ≡ 0 → new.draft ≡ given_up old.draft → new.blocks ≡ old.blocks → new.classes ≡ old.classes → WritesClassText b old new h ds ss
  unfolding WritesClassText
  class_first old new ds ss h e ed eb ec x kinded next = first_given_up old new h.text x e ed eb ec kinded

  -- ---- programs and blocks with a prefix

  abbrev Prefixed : (old new : Written) → (k : ℕ) → Text → Type 0
  Prefixed old new k x = Next (source_of b) old k x → TextEmitted (source_of b) old new k x

  prefixed_as : (p : BlockPrefix) (q : Block) (ds : List Decl) (ss : List Stmt) → ds ≡ q.declarations.items → ss ≡ q.statements.items
      → prefixed_text (prefix_syntax p) (block_syntax q) ≡ PrefixedText p.class (prefix_syntax p).arguments (declarations (map declaration_syntax ds)) (statements (map statement_syntax ss))
  prefixed_as p q ds ss ed es = ap (prefixed_text (prefix_syntax p)) (syntax_of_block q ds ss ed es)

  -- the jump to the next instruction, with which the program begins
  jump_there : (mid final : List Lined) (line : ℕ) → length mid ≡ 1 → slice_get mid 0 ≡ Some (lined (i.Jump (pos 1)) line) → Grows mid final → slice_get final 0 ≡ Some (lined (i.Jump (pos 1)) line)
  jump_there mid final line one at g = g.keeps 0 (lined (i.Jump (pos 1)) line) at (λ z. cc)

  pub program_prefixed : (old mid new : Written) (p : BlockPrefix) (q : Block) (ds : List Decl) (ss : List Stmt) (line : ℕ) (r : Option ℕ) → r ≡ prefix_of b.scopes 0 → r ≡ None → line ≡ line_at (source_of b) p.class.token.0 → mid.draft ≡ with_instr old.draft (i.Jump (pos 1)) line → mid.blocks ≡ old.blocks → mid.classes ≡ old.classes
      → ds ≡ q.declarations.items → ss ≡ q.statements.items → WritesLevelText b mid new (record { kind = kind.Prefixed; text = 0; entry = 0; inner = false }) ds ss → WritesPrefixedText b old new 0 p q
  unfolding WritesPrefixedText WritesLevelText with_instr source_of
  program_prefixed old mid new p q ds ss line r er none el em eb ec ed es f =
      let s = source_of b in
      let jump = lined (i.Jump (pos 1)) line in
      let fits = emits_at (spot 0 0) old.draft mid.draft (i.Jump (pos 1)) line em (λ z. cc) refl in
      let im : mid.draft.instrs ≡ old.draft.instrs ++ (jump ∷ []) = ap (λ z. z.instrs) em in
      subst (Prefixed old new 0) (sym (prefixed_as p q ds ss ed es))
      (λ next.
      let empty : length old.draft.instrs ≡ 0 = next.first refl in
      let one : length mid.draft.instrs ≡ 1 = (let h : length mid.draft.instrs ≡ length old.draft.instrs + 1 = ap length im ∙ length-append old.draft.instrs (jump ∷ []) in omega (arith, h, empty)) in
      let at : slice_get mid.draft.instrs 0 ≡ Some jump = ap (λ z. slice_get z 0) im ∙ ap (λ z. slice_get (old.draft.instrs ++ (jump ∷ [])) z) (sym empty) ∙ append_at old.draft.instrs jump in
      f old _ (record {
        entered = record { rest = jump ∷ []; front = im; thunks = ap (λ z. z.thunks) em; lists = ap (λ z. z.lists) em; whole = ap (λ z. z.whole) em; planned = ap (λ z. z.classes) em; fits = fits.fits; blocks = eb; classes = ec };
        parts = λ t. (t.1, t.2);
        planned = refl;
        formals = refl;
        one_block = refl;
        one_class = omega arith;
        code = λ final block class g ee ef heads its level. record {
          heads = heads;
          alone = sym er ∙ none;
          class = class;
          is = its;
          enter = record {
            at = ap (slice_get final.instrs) ee ∙ jump_there mid.draft.instrs final.instrs line one at g ∙ ap (λ z. Some (lined (i.Jump (pos 1)) z)) el ∙ ap (λ z. Some (lined (i.Jump (pos z)) (line_at s p.class.token.0))) (sym (ef ∙ one));
            on = ef ∙ one ∙ ap suc (sym ee);
          };
          level = level;
        };
      }) next)

  pub program_behind : (old new : Written) (p : BlockPrefix) (q : Block) (r : Option ℕ) (k : ℕ) → r ≡ prefix_of b.scopes 0 → r ≡ Some k → new.draft ≡ given_up old.draft → new.blocks ≡ old.blocks → new.classes ≡ old.classes → WritesPrefixedText b old new 0 p q
  unfolding WritesPrefixedText source_of
  program_behind old new p q r k er some ed eb ec =
      subst (Prefixed old new 0) (sym (prefixed_as p q q.declarations.items q.statements.items refl refl))
      (λ next. text_given_up (source_of b) old new 0 _ (λ h. let t : Some k ≡ None = sym some ∙ er ∙ h.0 in cc) ed eb ec)

  pub first_prefixed : (old new : Written) (k : ℕ) (p : BlockPrefix) (q : Block) → k ≡ 0 → WritesPrefixedText b old new 0 p q → WritesPrefixedText b old new k p q
  first_prefixed old new k p q e f = subst (λ z. WritesPrefixedText b old new z p q) (sym e) f

  pub inner_prefixed : (old new : Written) (k entry : ℕ) (p : BlockPrefix) (q : Block) (ds : List Decl) (ss : List Stmt) → k ≢ 0 → ds ≡ q.declarations.items → ss ≡ q.statements.items → WritesClassText b old new (record { kind = kind.Prefixed; text = k; entry = entry; inner = false }) ds ss → WritesPrefixedText b old new k p q
  unfolding WritesPrefixedText WritesClassText
  inner_prefixed old new k entry p q ds ss ne ed es f = subst (Prefixed old new k) (sym (prefixed_as p q ds ss ed es)) (f _ (a_block ne))

  -- ---- classes of SIMSET and SIMULATION

  pub standard_written : (old new : Written) (k mark : ℕ) (which : StandardClass) (r : Bool) → r ≡ is_process_class which → r ≡ false → mark ≡ standard_mark which → WritesClassText b old new (record { kind = kind.Object; text = k; entry = mark; inner = false }) [] [] → WritesStandardText b old new k which
  unfolding WritesStandardText WritesClassText
  standard_written old new k mark which r er none em f next = f (StandardText which) (subst (λ z. LevelText (source_of b) k NoDeclaration NoStatement kind.Object z false (StandardText which)) (sym em) (a_standard (sym er ∙ none))) next

  is_process : (which : StandardClass) → is_process_class which ≡ true → which ≡ standard.Process
  is_process standard.Linkage is = absurd (cc)
  is_process standard.Link is = absurd (cc)
  is_process standard.Head is = absurd (cc)
  is_process standard.Process is = refl

  pub process_standard : (old new : Written) (k : ℕ) (which : StandardClass) (r : Bool) → r ≡ is_process_class which → r ≡ true → WritesProcessText b old new k → WritesStandardText b old new k which
  unfolding WritesStandardText WritesProcessText
  process_standard old new k which r er is f = subst (λ z. Next (source_of b) old k (StandardText z) → TextEmitted (source_of b) old new k (StandardText z)) (sym (is_process which (sym er ∙ is))) f

  pub process_first : (old new : Written) (k : ℕ) → k ≡ 0 → new.draft ≡ given_up old.draft → new.blocks ≡ old.blocks → new.classes ≡ old.classes → WritesProcessText b old new k
  unfolding WritesProcessText
  process_first old new zero e ed eb ec next = text_given_up (source_of b) old new 0 _ (λ h. h) ed eb ec
  process_first old new (suc k) e ed eb ec next = absurd (omega (arith, e))

  process_code : (final : CodeOf) (k : ℕ) (block : BlockOf) (class : ClassOf) → k ≢ 0 → block.entry ≡ 4 → RecordOf (source_of b) final k kind.Object type.Nothing block → ClassIs (source_of b) final k block class → ProcessOf (source_of b) final k block class → CodeHas (source_of b) final k (StandardText standard.Process) (Some block)
  process_code final zero block class ne entry heads its level = absurd (ne refl)
  process_code final (suc k) block class ne entry heads its level = record { heads = heads; marked = entry; class = class; is = its; level = level }

  pub process_written : (old begun mid new : Written) (c2 c3 : DraftOf) (k : ℕ) (y : LevelStart) (stated after behind : ℕ) (x2 : Instr) (w : Spot) → k ≢ 0 → BeginsLevel b old begun k y → w ≡ spot k y.used → x2 ≡ i.NextDecl (pos y.level) → c2 ≡ with_instr begun.draft x2 0 → stated ≡ length c2.instrs → WritesProcess b w y.level c2 c3 after → behind ≡ after
      → mid.draft ≡ c3 → mid.blocks ≡ begun.blocks → mid.classes ≡ begun.classes → EndsLevel b mid new (record { kind = kind.Object; text = k; entry = 4; inner = false }) y stated behind → WritesProcessText b old new k
  unfolding WritesProcessText WritesProcess BeginsLevel EndsLevel source_of
  process_written old begun mid new c2 c3 k y stated after behind x2 w ne f is e2' e2 est fp' ea ed eb ec g next =
      let s = source_of b in
      let c1 = begun.draft in
      let fp'' = subst (λ z. WritesProcess b z y.level c2 c3 after) is fp' in
      let fp = fp'' (process_itself (source_of b) k next.is) in
      let around = next.agrees.processes k next.is in
      let le2 : length c2.instrs ≤ length c3.instrs = fronts_le c2.instrs c3.instrs (fp.1.rest, fp.1.front) in
      let le_after = fp.0 in
      let body = emits_then (spot k y.used) _ _ _ _ c1 c2 c3 (emits_to b (spot k y.used) c1 c2 ⊤ _ stated est (emits_at (spot k y.used) c1 c2 (i.NextDecl (pos y.level)) 0 (e2 ∙ ap (λ z. with_instr c1 z 0) e2') (λ z. cc) refl)) fp.1 in
      level_recorded b old old begun mid new c3 (record { kind = kind.Object; text = k; entry = 4; inner = false }) y stated behind (StandardText standard.Process) _ _ (at_once old) f body ed eb ec g next (record { planned = refl; formals = refl; one_block = refl; one_class = omega arith })
      (λ q. (tt, (around.block, around.around)))
      (λ final block matches grows entry heads its starts stands at_start le1 inside ends.
      let site = site_of s final k block in
      process_code final k block (class_of_level y stated behind matches) ne entry heads its
      (record {
        place = y.level;
        placed = f.level;
        x = stands.0;
        declared_there = omega (arith, at_start, le1, inside);
        next = record { line = 0; is = subst (λ z. At final (i.NextDecl (pos y.level)) 0 z stands.0) at_start stands.1.0 };
        stated_there = omega (arith, est, le2, inside);
        behind_there = omega (arith, ea, le_after, inside);
        stop = length c3.instrs;
        stated = subst (λ z. ProcessAt s final site y.level stated z (length c3.instrs)) (sym ea) (subst (λ z. ProcessAt s final site y.level z after (length c3.instrs)) stands.1.1 stands.2);
        last = suc (length c3.instrs);
        ends = ends;
      }))

  -- ---- by the part of the tree

  text_as : (old new : Written) (k : ℕ) (x : TextTree) (y : Text) → text_in x ≡ y → (Next (source_of b) old k y → TextEmitted (source_of b) old new k y) → WritesText b old new k x
  unfolding WritesText
  text_as old new k x y is f = subst (λ z. Next (source_of b) old k z → TextEmitted (source_of b) old new k z) (sym is) f

  of_class : (old new : Written) (k : ℕ) (ds : List Decl) (ss : List Stmt) → WritesClassText b old new (record { kind = kind.Object; text = k; entry = 0; inner = writes_inner (source_of b) k }) ds ss
      → (prefix : Option Identifier) (heading : Heading) → Next (source_of b) old k (ClassText prefix heading (declarations (map declaration_syntax ds)) (statements (map statement_syntax ss))) → TextEmitted (source_of b) old new k (ClassText prefix heading (declarations (map declaration_syntax ds)) (statements (map statement_syntax ss)))
  unfolding WritesClassText
  of_class old new k ds ss f prefix heading = f _ a_class

  pub text_of_block : (old new : Written) (k : ℕ) (x : TextTree) (p : Bor Block) → x ≡ tree.Block p → WritesBlockText b old new k p.now → WritesText b old new k x
  unfolding WritesBlockText
  text_of_block old new k x p is f = text_as old new k x _ (ap text_in is) f

  pub text_of_procedure : (old new : Written) (k : ℕ) (x : TextTree) (r : Bor (Option TypeName)) (p : Bor Procedure) (y : Stmt) → x ≡ tree.Procedure r p → y ≡ p.now.body.value → WritesProcedureText b old new k r.now y → WritesText b old new k x
  unfolding WritesProcedureText
  text_of_procedure old new k x r p y is ey f =
      text_as old new k x _ (ap text_in is) (subst (λ z. (h : Heading) → Next (source_of b) old k (ProcedureText r.now h (statement_syntax z)) → TextEmitted (source_of b) old new k (ProcedureText r.now h (statement_syntax z))) ey f (heading_syntax p.now.name p.now.parameters.items p.now.modes.items p.now.specifications.items))

  pub text_of_class : (old new : Written) (k : ℕ) (x : TextTree) (r : Bor (Option Identifier)) (c : Bor Class) (p : Bor Block) (ds : List Decl) (ss : List Stmt) (h : LevelHead) → x ≡ tree.Class r c p → h ≡ record { kind = kind.Object; text = k; entry = 0; inner = writes_inner (source_of b) k } → ds ≡ p.now.declarations.items → ss ≡ p.now.statements.items → WritesClassText b old new h ds ss → WritesText b old new k x
  text_of_class old new k x r c p ds ss h is eh ed es f =
      text_as old new k x _ (ap text_in is ∙ ap (λ z. class_text r.now (heading_of c.now) z) (syntax_of_block p.now ds ss ed es)) (of_class old new k ds ss (subst (λ z. WritesClassText b old new z ds ss) eh f) r.now (heading_of c.now))

  pub text_of_statement : (old new : Written) (k : ℕ) (x : TextTree) (r : Bor (Option Identifier)) (c : Bor Class) (y : Stmt) (h : LevelHead) → x ≡ tree.ClassOfStatement r c → h ≡ record { kind = kind.Object; text = k; entry = 0; inner = writes_inner (source_of b) k } → y ≡ c.now.body.value → WritesClassText b old new h [] (y ∷ []) → WritesText b old new k x
  text_of_statement old new k x r c y h is eh ey f =
      text_as old new k x _ (ap text_in is ∙ ap (λ z. ClassText r.now (heading_of c.now) NoDeclaration (Also (statement_syntax z) NoStatement)) (sym ey)) (of_class old new k [] (y ∷ []) (subst (λ z. WritesClassText b old new z [] (y ∷ [])) eh f) r.now (heading_of c.now))

  pub text_of_prefixed : (old new : Written) (k : ℕ) (x : TextTree) (p : Bor BlockPrefix) (q : Bor Block) → x ≡ tree.Prefixed p q → WritesPrefixedText b old new k p.now q.now → WritesText b old new k x
  unfolding WritesPrefixedText
  text_of_prefixed old new k x p q is f = text_as old new k x _ (ap text_in is) f

  pub text_of_standard : (old new : Written) (k : ℕ) (x : TextTree) (which : StandardClass) → x ≡ tree.Standard which → WritesStandardText b old new k which → WritesText b old new k x
  unfolding WritesStandardText
  text_of_standard old new k x which is f = text_as old new k x _ (ap text_in is) f

  pub text_of_connection : (old : Written) (k : ℕ) (x : TextTree) → x ≡ tree.Connection → WritesText b old old k x
  text_of_connection old k x is = text_as old old k x _ (ap text_in is)
      (λ next. record {
        rest = [];
        front = sym (append-nil old.draft.instrs);
        classed = refl;
        thunked = still_same refl;
        listed = more_same refl;
        fits = λ h. h;
        added = [];
        blocks = sym (append-nil old.blocks.items);
        kept = λ j y is. is;
        earlier = λ w. w;
        built = λ h w. w;
        counted = λ w. refl;
        numbered = λ w j blk e. absurd (cc);
        at = λ w final g. tt;
      })

pub ruleset texts = (level_written, class_text_written, class_first, program_prefixed, program_behind, first_prefixed, inner_prefixed, standard_written, process_standard, text_of_block, text_of_procedure, text_of_class, text_of_statement, text_of_prefixed, text_of_standard, text_of_connection)

pub ruleset processes = (process_first, process_written)
