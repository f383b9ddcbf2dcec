-- Texts, one behind another.
use Rattle.std.proofs.Common.{◌≡◌, ◌≢◌, ◌<◌, ◌≤◌, ◌+◌, ℕ, zero, suc, pos, true, false, List, [], ◌∷◌, ◌++◌, length, map, Option, Some, refl, sym, ap, ◌∙◌, subst, arith, append-nil, length-append}
use Rattle.std.specs.Prelude.{slice_get}
use Rattle.sim_scope.specs.declared.bound.Bound.{Bound}
use Rattle.sim_scope.specs.Source.{Source, level_of, line_at, source_of}
use Rattle.sim_tree.specs.declared.stmt.Block.{Block}
use Rattle.sim_tree.specs.declared.stmt.Decl.{Decl}
use Rattle.sim_tree.specs.declared.stmt.Procedure.{Procedure}
use Rattle.sim_tree.specs.declared.stmt.Stmt.{Stmt}
use Rattle.sim_tree.specs.declared.stmt.TypeName.{TypeName}
use Rattle.sim_tree.specs.Syntax.{Begin, Declarations, Heading, Statement, Statements, declarations, statements}
use Rattle.sim_tree.specs.SyntaxOfProgram.{block_syntax, declaration_syntax, statement_syntax}
use Rattle.sim_tree.proofs.ProgramSyntaxLemmas as v
use Rattle.sim_code.specs.declared.code.BlockKind.{BlockKind}
use Rattle.sim_code.specs.declared.code.BlockKind.TheVariants as kind
use Rattle.sim_code.specs.declared.code.CodeType.{CodeType}
use Rattle.sim_code.specs.declared.code.CodeType.TheVariants as type
use Rattle.sim_code.specs.declared.instr.Instr.{Instr}
use Rattle.sim_code.specs.declared.instr.Instr.TheVariants as i
use Rattle.sim_code.specs.declared.instr.Lined.{Lined}
use Rattle.sim_code.specs.Code.{BlockOf, CodeOf}
use Rattle.sim_code.specs.Running.{AllRun, runs}
use Rattle.sim_meaning.specs.Attributes as Attributes
use Rattle.sim_meaning.specs.Texts.{BlockText, ProcedureText, Text, text}
use Rattle.program_texts.specs.declared.tree.TextTree.TheVariants as tree
use Rattle.program_texts.specs.TextTrees.{block_text}
use Rattle.codegen_expr.specs.declared.spot.Spot.{Spot}
use Rattle.codegen_expr.specs.Drafts.{Becomes, DraftOf, Emits, Grows, Longer, ThunksGrow, given_up, open_thunk, planned_at, planned_front, planned_in, with_instr}
use Rattle.codegen_expr.proofs.Slots.{front_planned, start_planned}
use Rattle.codegen_expr.specs.Sites.{Site, block_in_front, block_number, cells_in, expression_temps, lined, own_part, room_of_block}
use Rattle.codegen_expr.proofs.Pieces.{Fronts, append_at, emits_at, emits_then, fronts_le, fronts_then, get_front, grows_front, grows_then, more_before, more_behind, more_same, still_before, still_behind, still_same}
use Rattle.codegen.specs.declared.texts.Head.{Head}
use Rattle.codegen.specs.declared.texts.Written.{Written}
use Rattle.codegen.specs.BuiltProgram.{ArraysBuilt, StatementBuilt, StatementsBuilt, TextBuilt}
use Rattle.codegen.specs.CodeArrays.{ArraysAt}
use Rattle.codegen.specs.CodeStm.{StmAt, StmsAt}
use Rattle.codegen.specs.Compiled.{BlockBody, BodyOf, CodeHas, RecordOf, code_formal, parameters_of, site_of, type_of_cell, type_of_name}
use Rattle.codegen.specs.Emit.{WritesStatement, WritesStatements}
use Rattle.codegen.specs.EmitArrays.{WritesArrays}
use Rattle.codegen.specs.EmitProgram.{AddsBlock, BlockAdded, Ends, Next, OwnEnd, TextEmitted, WritesBlockText, WritesProcedureText, blocks_in, formals_by_kind, is_planned}

-- ---- lists

pub within : {A : Type 0} (xs : List A) (k : ℕ) (x : A) → slice_get xs k ≡ Some x → k < length xs
within [] k x e = absurd (cc)
within (y ∷ xs) zero x e = omega arith
within (y ∷ xs) (suc k) x e = let h = within xs k x e in omega (arith, h)

mapped : {A B : Type 0} (f : A → B) (xs : List A) → length (map f xs) ≡ length xs
mapped f [] = refl
mapped f (y ∷ ys) = ap suc (mapped f ys)

map_append : {A B : Type 0} (f : A → B) (xs ys : List A) → map f (xs ++ ys) ≡ map f xs ++ map f ys
map_append f [] ys = refl
map_append f (x ∷ xs) ys = ap (λ z. f x ∷ z) (map_append f xs ys)

pub one_only : {A : Type 0} (a : A) (j : ℕ) (b : A) → slice_get (a ∷ []) j ≡ Some b → (a ≡ b) × (j ≡ 0)
one_only a zero b e = (cc, refl)
one_only a (suc j) b e = absurd (cc)

-- ---- one text

abbrev Place : Type 1
Place = CodeOf → Site → ℕ → ℕ → Type 0

-- where the code of a text is written
abbrev pub spot : (text used : ℕ) → Spot
spot n m = record { text = n; temps = m; used = m + expression_temps }

-- a draft in which the code of a text begins
abbrev pub restarted : DraftOf → ℕ → DraftOf
restarted c n = record { instrs = c.instrs; room = 0; size = n; whole = c.whole; classes = c.classes; thunks = c.thunks; lists = c.lists }

-- What is known of a text whose record is added: the record in the end, where its code stands, and that its draft becomes the code.
pub record Recorded (s : Source) (k used : ℕ) (x : Text) (c : DraftOf) (new : Written) (head : Head) (final : CodeOf) (b : BlockOf) : Type 0 where
  pub found : slice_get final.blocks (block_number s k) ≡ Some b
  pub heads : RecordOf s final k head.kind head.result_type b
  pub entry : b.entry ≡ head.entry
  pub becomes : Becomes (spot k used) c final (site_of s final k b)

unfoldable pub kinds_agree : (s : Source) (k : ℕ) (x : Text) → BlockKind → Type 0
kinds_agree s k x a = formals_by_kind s a k ≡ parameters_of s k (Some x)

-- Of c the text is written, and then its last instruction: what the code has in the end.
pub recorded : (b : Bound) (k : ℕ) (x : Text) (c : DraftOf) (stop : Instr) (before mid new : Written) (head : Head) (final : CodeOf) (used : ℕ) (added : BlockAdded (source_of b) mid new head)
    → Next (source_of b) before k x → is_planned x ≡ true → OwnEnd b before.draft.classes k used → mid.draft ≡ with_instr c stop 0 → stop ≢ i.Halt → mid.blocks.items ≡ before.blocks.items → c.classes ≡ before.draft.classes → head.text ≡ k
    → kinds_agree (source_of b) k x head.kind → Ends new final → Recorded (source_of b) k used x c new head final added.block
unfolding with_instr kinds_agree OwnEnd
recorded b k x c stop before mid new head final used added next one eu em ne eb ecl et agrees g =
    let s = source_of b in
    let draft : new.draft ≡ with_instr c stop 0 = added.same ∙ em in
    let instrs : new.draft.instrs ≡ c.instrs ++ (lined stop 0 ∷ []) = ap (λ z. z.instrs) draft in
    let there : slice_get final.instrs (length c.instrs) ≡ Some (lined stop 0) = g.grows.keeps (length c.instrs) (lined stop 0) (ap (λ z. slice_get z (length c.instrs)) instrs ∙ append_at c.instrs (lined stop 0)) ne in
    let at : slice_get new.blocks.items (length before.blocks.items) ≡ Some added.block = ap (λ z. slice_get z (length before.blocks.items)) (added.is ∙ ap (λ z. z ++ (added.block ∷ [])) eb) ∙ append_at before.blocks.items added.block in
    let found : slice_get final.blocks (block_number s k) ≡ Some added.block = g.blocks (block_number s k) added.block (ap (slice_get new.blocks.items) next.block ∙ at) in
    let plan = before.draft.classes in
    let mid_plan : mid.draft.classes ≡ plan = ap (λ z. z.classes) em ∙ ecl in
    let known : (j : ℕ) → planned_in (slice_get final.blocks j) ≡ planned_at plan j = λ j. g.classed j ∙ ap (λ z. planned_at z j) (ap (λ z. z.classes) draft ∙ ecl) in
    let front : planned_in (block_in_front s final k) ≡ planned_front s plan k = front_planned s final plan k known in
    let planned = next.plan.each k x next.is one in
    let own : planned_in (Some added.block) ≡ planned_at plan (block_number s k) = added.planned ∙ ap (λ z. planned_at z (block_number s head.text)) mid_plan ∙ ap (λ z. planned_at plan (block_number s z)) et in
    let room_front : room_of_block (block_in_front s final k) ≡ (planned_front s plan k).room = ap (λ z. z.room) front in
    let room_own : added.block.room ≡ (planned_at plan (block_number s k)).room = ap (λ z. z.room) own in
    let room_grows = planned.room in
    let r1 : mid.draft.room ≡ c.room = ap (λ z. z.room) em in
    let r2 = added.room in
    let z1 : mid.draft.size ≡ c.size = ap (λ z. z.size) em in
    let z2 = added.size in
    record {
      found = found;
      entry = added.starts;
      heads = record {
        is_kind = added.is_kind;
        level = added.level ∙ ap (level_of s) et;
        cells = ap (λ z. z.cells) own ∙ planned.cells ∙ ap (λ z. z.cells + length (cells_in s k (text s k))) (sym front);
        class_free = added.class_free ∙ ap (Rattle.sim_meaning.specs.Texts.is_class_free s) et;
        gives = added.gives;
        formals = added.formals final (λ j. g.classed j ∙ ap (λ z. planned_at z.classes j) added.same) ∙ ap (map (code_formal s final)) (ap (formals_by_kind s head.kind) et ∙ agrees ∙ ap (parameters_of s k) (sym next.is));
        temps = planned.temps;
        types = ap (λ z. z.types) own ∙ planned.types ∙ ap (λ z. z.types ++ (map type_of_cell (own_part s k) ++ planned.temps)) (sym front);
        counted = added.temps;
        roomy = omega (arith, room_front, room_own, room_grows);
      };
      becomes = record {
        grows = grows_then c.instrs new.draft.instrs final.instrs (grows_front c.instrs new.draft.instrs (lined stop 0 ∷ [], instrs)) g.grows;
        roomy = omega (arith, r1, r2);
        sized = omega (arith, z1, z2);
        stands = refl;
        temps = ap (λ z. z + length (own_part s k)) (start_planned s final plan k known) ∙ sym eu;
        taken = ap (λ z. z + expression_temps) (ap (λ z. z + length (own_part s k)) (start_planned s final plan k known) ∙ sym eu);
        follows = within final.instrs (length c.instrs) (lined stop 0) there;
        classed = λ j. g.classed j ∙ ap (λ z. planned_at z.classes j) draft;
        thunked = subst (λ z. ThunksGrow z final.thunks) (ap (λ z. z.thunks) draft) g.thunked;
        belongs = sym g.closed ∙ ap (λ z. open_thunk z.thunks) draft;
        listed = subst (λ z. Longer z final.actual_lists) (ap (λ z. z.lists) draft) g.listed;
      };
    }

-- ---- texts with one entry

abbrev pub Body : Type 1
Body = CodeOf → Site → ℕ → ℕ → Type 0

-- Behind old the body of a text begins at c2 and ends at c3, and one more instruction ends it. Its record is added last.
text_emitted : (b : Bound) (k : ℕ) (x : Text) (old mid new : Written) (c2 c3 : DraftOf) (P : Type 0) (There : Body) (stop : Instr) (head : Head) (used : ℕ)
    → OwnEnd b old.draft.classes k used → Fronts old.draft.instrs c2.instrs → c2.whole ≡ old.draft.whole → c2.classes ≡ old.draft.classes → c2.thunks ≡ old.draft.thunks → c2.lists ≡ old.draft.lists → (AllRun old.draft.instrs → AllRun c2.instrs)
    → Emits (spot k used) c2 c3 P There → mid.draft ≡ with_instr c3 stop 0 → stop ≢ i.Halt → runs stop ≡ true → mid.blocks.items ≡ old.blocks.items → mid.classes.items ≡ old.classes.items
    → BlockAdded (source_of b) mid new head → Next (source_of b) old k x → head.text ≡ k → kinds_agree (source_of b) k x head.kind → blocks_in x ≡ 1 → is_planned x ≡ true → (TextBuilt (source_of b) k x → P)
    → ((final : CodeOf) (blk : BlockOf) → Grows new.draft.instrs final.instrs → blk.entry ≡ head.entry → RecordOf (source_of b) final k head.kind head.result_type blk → BodyOf final (There final (site_of (source_of b) final k blk)) stop (length c2.instrs) → CodeHas (source_of b) final k x (Some blk))
    → TextEmitted (source_of b) old new k x
unfolding with_instr
text_emitted b k x old mid new c2 c3 P There stop head used eu fr ew ecl ect els run e em ne rs ebl ecs added next et agrees one all from code =
    let s = source_of b in
    let draft : new.draft ≡ with_instr c3 stop 0 = added.same ∙ em in
    let i4 : new.draft.instrs ≡ c3.instrs ++ (lined stop 0 ∷ []) = ap (λ z. z.instrs) draft in
    let w4 : new.draft.whole ≡ c3.whole = ap (λ z. z.whole) draft in
    let last = emits_at (spot k used) c3 new.draft stop 0 draft ne rs in
    let all_there : Fronts old.draft.instrs new.draft.instrs = fronts_then old.draft.instrs c2.instrs new.draft.instrs fr (fronts_then c2.instrs c3.instrs new.draft.instrs (e.rest, e.front) (lined stop 0 ∷ [], i4)) in
    let le : length c2.instrs ≤ length c3.instrs = fronts_le c2.instrs c3.instrs (e.rest, e.front) in
    let classed : c3.classes ≡ old.draft.classes = e.classed ∙ ecl in
    record {
      rest = all_there.0;
      front = all_there.1;
      classed = ap (λ z. z.classes) draft ∙ classed;
      thunked = still_behind (ap (λ z. z.thunks) draft) (still_before ect e.thunked);
      listed = more_behind (ap (λ z. z.lists) draft) (more_before els e.listed);
      fits = λ h. last.fits (e.fits (run h));
      added = added.block ∷ [];
      blocks = added.is ∙ ap (λ z. z ++ (added.block ∷ [])) ebl;
      kept = λ j y is. ap (λ z. slice_get z j) (added.same_classes ∙ ecs) ∙ is;
      earlier = λ h. sym ew ∙ e.before (sym w4 ∙ h);
      built = λ h o. w4 ∙ e.built (from h) (ew ∙ o);
      counted = λ h. sym one;
      numbered = λ h j blk is. numbers j blk is (ap (λ z. z.classes) em ∙ classed);
      at = λ h final g.
          let r = recorded b k x c3 stop old mid new head final used added next all eu em ne ebl classed et agrees g in
          let there : slice_get final.instrs (length c3.instrs) ≡ Some (lined stop 0) = g.grows.keeps (length c3.instrs) (lined stop 0) (ap (λ z. slice_get z (length c3.instrs)) i4 ∙ append_at c3.instrs (lined stop 0)) ne in
          let inside : length c3.instrs < length final.instrs = within final.instrs (length c3.instrs) (lined stop 0) there in
          subst (λ z. CodeHas s final k x z) (sym r.found)
          (code final added.block g.grows r.entry r.heads (record { there = omega (arith, le, inside); stop = length c3.instrs; body = e.at (sym w4 ∙ h) final (site_of s final k added.block) r.becomes; last = suc (length c3.instrs); ends = record { line = 0; is = record { at = there; on = refl } } }));
    }
  where
    numbers : (j : ℕ) (blk : BlockOf) → slice_get (added.block ∷ []) j ≡ Some blk → mid.draft.classes ≡ old.draft.classes → planned_in (Some blk) ≡ planned_at old.draft.classes (length old.blocks.items + j)
    numbers j blk is same_classes =
        let h = one_only added.block j blk is in
        let first = h.1 in
        let n = length old.blocks.items in
        let same : n ≡ n + j = omega (arith, first) in
        ap (λ z. planned_in (Some z)) (sym h.0) ∙ added.planned ∙ ap (λ z. planned_at z (block_number (source_of b) head.text)) same_classes ∙ ap (λ z. planned_at old.draft.classes (block_number (source_of b) z)) et ∙ ap (planned_at old.draft.classes) next.block
        ∙ ap (planned_at old.draft.classes) same

pub syntax_of_block : (k : Block) (ds : List Decl) (ss : List Stmt) → ds ≡ k.declarations.items → ss ≡ k.statements.items → block_syntax k ≡ Begin k.token.0 (declarations (map declaration_syntax ds)) (statements (map statement_syntax ss)) k.end.0
syntax_of_block k ds ss ed es = v.syntax-block k.token k.declarations k.statements k.end ∙ ap (λ z. Begin k.token.0 (declarations (map declaration_syntax z)) (statements (map statement_syntax k.statements.items)) k.end.0) (sym ed) ∙ ap (λ z. Begin k.token.0 (declarations (map declaration_syntax ds)) (statements (map statement_syntax z)) k.end.0) (sym es)

abbrev pub head_of : BlockKind → (text entry : ℕ) → CodeType → Head
head_of a k entry rt = record { kind = a; text = k; entry = entry; result_type = rt }

module _ (b : Bound) where
  abbrev Parts : (ds : Declarations) (ss : Statements) → Body
  Parts ds ss final site p q = (x : ℕ) × ArraysAt (source_of b) final site ds p x × StmsAt (source_of b) final site 0 ss x q

  pub block_text_written : (old mid new : Written) (c1 c2 c3 : DraftOf) (k : Block) (ds : List Decl) (ss : List Stmt) (n entry m : ℕ) (w : Spot) → n ≢ 0 → entry ≡ length old.draft.instrs → OwnEnd b old.draft.classes n m
      → c1 ≡ restarted old.draft m → w ≡ spot n m → WritesArrays b w c1 c2 ds → ds ≡ k.declarations.items → WritesStatements b w c2 c3 ss → ss ≡ k.statements.items → mid.draft ≡ with_instr c3 i.Leave 0 → mid.blocks ≡ old.blocks → mid.classes ≡ old.classes
      → AddsBlock b mid new (head_of kind.SubBlock n entry type.Nothing) → WritesBlockText b old new n k
  unfolding WritesBlockText WritesArrays WritesStatements AddsBlock kinds_agree
  block_text_written old mid new c1 c2 c3 k ds ss zero entry m w ne ee eo e1 is fa ed fs es e4 ebl ecs fb = absurd (ne refl)
  block_text_written old mid new c1 c2 c3 k ds ss (suc n) entry m w ne ee eo e1 is fa ed fs es e4 ebl ecs fb =
      let s = source_of b in
      let xs = declarations (map declaration_syntax ds) in
      let ys = statements (map statement_syntax ss) in
      let i1 : c1.instrs ≡ old.draft.instrs = ap (λ z. z.instrs) e1 in
      let start : length c1.instrs ≡ entry = ap length i1 ∙ sym ee in
      subst (λ z. Next s old (suc n) (block_text z) → TextEmitted s old new (suc n) (block_text z)) (sym (syntax_of_block k ds ss ed es))
      (λ next. text_emitted b (suc n) (BlockText k.token.0 xs ys) old mid new c1 c3 (ArraysBuilt s (suc n) xs × StatementsBuilt s (suc n) ys) (Parts xs ys) i.Leave (head_of kind.SubBlock (suc n) entry type.Nothing) m eo
      (subst (λ z. Fronts old.draft.instrs z) (sym i1) ([], sym (append-nil old.draft.instrs))) (ap (λ z. z.whole) e1) (ap (λ z. z.classes) e1) (ap (λ z. z.thunks) e1) (ap (λ z. z.lists) e1) (subst AllRun (sym i1))
      (emits_then (spot (suc n) m) (ArraysBuilt s (suc n) xs) (StatementsBuilt s (suc n) ys) (λ f site. ArraysAt s f site xs) (λ f site. StmsAt s f site 0 ys) c1 c2 c3 (subst (λ z. WritesArrays b z c1 c2 ds) is fa) (subst (λ z. WritesStatements b z c2 c3 ss) is fs))
      e4 (λ z. cc) refl (ap (λ z. z.items) ebl) (ap (λ z. z.items) ecs) fb next refl refl refl refl (λ h. h)
      (λ final blk g eb rec body. record { heads = rec; body = subst (λ z. BodyOf final (BlockBody s final (site_of s final (suc n) blk) xs ys) i.Leave z) (start ∙ sym eb) body }))

  procedure_code : (final : CodeOf) (k : ℕ) (result : Option TypeName) (h : Heading) (a : Statement) (blk : BlockOf) → RecordOf (source_of b) final k kind.Procedure (type_of_name result) blk → BodyOf final (StmAt (source_of b) final (site_of (source_of b) final k blk) 0 a) i.Return blk.entry → CodeHas (source_of b) final k (ProcedureText result h a) (Some blk)
  procedure_code final zero result h a blk rec body = record { heads = rec; body = body }
  procedure_code final (suc k) result h a blk rec body = record { heads = rec; body = body }

  pub procedure_text_written : (old mid new : Written) (c1 c3 : DraftOf) (result : Option TypeName) (a : Stmt) (rt : CodeType) (n entry m : ℕ) (w : Spot) → entry ≡ length old.draft.instrs → OwnEnd b old.draft.classes n m
      → c1 ≡ restarted old.draft m → w ≡ spot n m → WritesStatement b w c1 c3 a → mid.draft ≡ with_instr c3 i.Return 0 → mid.blocks ≡ old.blocks → mid.classes ≡ old.classes → rt ≡ type_of_name result
      → AddsBlock b mid new (head_of kind.Procedure n entry rt) → WritesProcedureText b old new n result a
  unfolding WritesProcedureText WritesStatement AddsBlock kinds_agree
  procedure_text_written old mid new c1 c3 result a rt n entry m w ee eo e1 is fs e4 ebl ecs er fb = λ h next.
      let s = source_of b in
      let y = statement_syntax a in
      let i1 : c1.instrs ≡ old.draft.instrs = ap (λ z. z.instrs) e1 in
      let start : length c1.instrs ≡ entry = ap length i1 ∙ sym ee in
      text_emitted b n (ProcedureText result h y) old mid new c1 c3 (StatementBuilt s n y) (λ final site p q. StmAt s final site 0 y p q) i.Return (head_of kind.Procedure n entry (type_of_name result)) m eo
      (subst (λ z. Fronts old.draft.instrs z) (sym i1) ([], sym (append-nil old.draft.instrs))) (ap (λ z. z.whole) e1) (ap (λ z. z.classes) e1) (ap (λ z. z.thunks) e1) (ap (λ z. z.lists) e1) (subst AllRun (sym i1)) (subst (λ z. WritesStatement b z c1 c3 a) is fs) e4 (λ z. cc) refl (ap (λ z. z.items) ebl) (ap (λ z. z.items) ecs)
      (subst (λ z. BlockAdded s mid new (head_of kind.Procedure n entry z)) er fb) next refl refl refl refl (λ z. z)
      (λ final blk g eb rec body. procedure_code final n result h y blk rec (subst (λ z. BodyOf final (StmAt s final (site_of s final n blk) 0 y) i.Return z) (start ∙ sym eb) body))

  pub program_text_written : (old mid new : Written) (c1 c c2 c3 : DraftOf) (k : Block) (ds : List Decl) (ss : List Stmt) (m line : ℕ) (w : Spot) → OwnEnd b old.draft.classes 0 m
      → c1 ≡ restarted old.draft m → w ≡ spot 0 m → line ≡ line_at (source_of b) k.token.0 → c ≡ with_instr c1 (i.Jump (pos 1)) line → WritesArrays b w c c2 ds → ds ≡ k.declarations.items → WritesStatements b w c2 c3 ss → ss ≡ k.statements.items
      → mid.draft ≡ with_instr c3 (i.EndLevel (pos 0)) 0 → mid.blocks ≡ old.blocks → mid.classes ≡ old.classes → AddsBlock b mid new (head_of kind.SubBlock 0 0 type.Nothing) → WritesBlockText b old new 0 k
  unfolding WritesBlockText WritesArrays WritesStatements AddsBlock kinds_agree with_instr
  program_text_written old mid new c1 c c2 c3 k ds ss m line w eo e1 is el ec fa ed fs es e4 ebl ecs fb =
      let s = source_of b in
      let xs = declarations (map declaration_syntax ds) in
      let ys = statements (map statement_syntax ss) in
      let i1 : c1.instrs ≡ old.draft.instrs = ap (λ z. z.instrs) e1 in
      let jump = emits_at (spot 0 m) c1 c (i.Jump (pos 1)) line ec (λ z. cc) refl in
      let ic : c.instrs ≡ old.draft.instrs ++ (lined (i.Jump (pos 1)) line ∷ []) = ap (λ z. z.instrs) ec ∙ ap (λ z. z ++ (lined (i.Jump (pos 1)) line ∷ [])) i1 in
      let body = emits_then (spot 0 m) (ArraysBuilt s 0 xs) (StatementsBuilt s 0 ys) (λ f site. ArraysAt s f site xs) (λ f site. StmsAt s f site 0 ys) c c2 c3 (subst (λ z. WritesArrays b z c c2 ds) is fa) (subst (λ z. WritesStatements b z c2 c3 ss) is fs) in
      let i4 : new.draft.instrs ≡ c3.instrs ++ (lined (i.EndLevel (pos 0)) 0 ∷ []) = ap (λ z. z.instrs) (fb.same ∙ e4) in
      let fr : Fronts c.instrs new.draft.instrs = fronts_then c.instrs c3.instrs new.draft.instrs (body.rest, body.front) (lined (i.EndLevel (pos 0)) 0 ∷ [], i4) in
      subst (λ z. Next s old 0 (block_text z) → TextEmitted s old new 0 (block_text z)) (sym (syntax_of_block k ds ss ed es))
      (λ next.
      let none : length old.draft.instrs ≡ 0 = next.first refl in
      let one : length c.instrs ≡ 1 = (let h : length c.instrs ≡ length old.draft.instrs + 1 = ap length ic ∙ length-append old.draft.instrs (lined (i.Jump (pos 1)) line ∷ []) in omega (arith, h, none)) in
      let at : slice_get c.instrs 0 ≡ Some (lined (i.Jump (pos 1)) line) = ap (λ z. slice_get z 0) ic ∙ ap (λ z. slice_get (old.draft.instrs ++ (lined (i.Jump (pos 1)) line ∷ [])) z) (sym none) ∙ append_at old.draft.instrs (lined (i.Jump (pos 1)) line) in
      text_emitted b 0 (BlockText k.token.0 xs ys) old mid new c c3 (ArraysBuilt s 0 xs × StatementsBuilt s 0 ys) (Parts xs ys) (i.EndLevel (pos 0)) (head_of kind.SubBlock 0 0 type.Nothing) m eo
      (lined (i.Jump (pos 1)) line ∷ [], ic) (ap (λ z. z.whole) ec ∙ ap (λ z. z.whole) e1) (ap (λ z. z.classes) ec ∙ ap (λ z. z.classes) e1) (ap (λ z. z.thunks) ec ∙ ap (λ z. z.thunks) e1) (ap (λ z. z.lists) ec ∙ ap (λ z. z.lists) e1) (λ h. jump.fits (subst AllRun (sym i1) h)) body e4 (λ z. cc) refl (ap (λ z. z.items) ebl) (ap (λ z. z.items) ecs) fb next refl refl refl refl (λ h. h)
      (λ final blk g eb rec bd. record {
        heads = rec;
        start = 1;
        enter = record {
          at = ap (slice_get final.instrs) eb ∙ g.keeps 0 (lined (i.Jump (pos 1)) line) (front_at c.instrs new.draft.instrs fr 0 (lined (i.Jump (pos 1)) line) at) (λ z. cc) ∙ ap (λ z. Some (lined (i.Jump (pos 1)) z)) el;
          on = ap suc (sym eb);
        };
        body = subst (λ z. BodyOf final (BlockBody s final (site_of s final 0 blk) xs ys) (i.EndLevel (pos 0)) z) one bd;
      }))
    where
      front_at : (ls bs : List Lined) → Fronts ls bs → (k : ℕ) (x : Lined) → slice_get ls k ≡ Some x → slice_get bs k ≡ Some x
      front_at ls bs f k x e = ap (λ z. slice_get z k) f.1 ∙ get_front ls f.0 k x e

  pub first_block : (old new : Written) (k : ℕ) (p : Block) → k ≡ 0 → WritesBlockText b old new 0 p → WritesBlockText b old new k p
  first_block old new k p e f = subst (λ z. WritesBlockText b old new z p) (sym e) f

-- ---- texts that have no code

pub text_given_up : (s : Source) (old new : Written) (k : ℕ) (x : Text) → (TextBuilt s k x → ⊥) → new.draft ≡ given_up old.draft → new.blocks ≡ old.blocks → new.classes ≡ old.classes → TextEmitted s old new k x
unfolding given_up
text_given_up s old new k x never e eb ec =
    let ew : new.draft.whole ≡ false = ap (λ z. z.whole) e in
    let ei : new.draft.instrs ≡ old.draft.instrs = ap (λ z. z.instrs) e in
    record {
      rest = [];
      front = ei ∙ sym (append-nil old.draft.instrs);
      classed = ap (λ z. z.classes) e;
      thunked = still_same (ap (λ z. z.thunks) e);
      listed = more_same (ap (λ z. z.lists) e);
      fits = subst AllRun (sym ei);
      added = [];
      blocks = ap (λ z. z.items) eb ∙ sym (append-nil old.blocks.items);
      kept = λ j y is. ap (λ z. slice_get z.items j) ec ∙ is;
      earlier = λ w. absurd (clash (sym ew ∙ w));
      built = λ h w. absurd (never h);
      counted = λ w. absurd (clash (sym ew ∙ w));
      numbered = λ w j blk is. absurd (clash (sym ew ∙ w));
      at = λ w final g. absurd (clash (sym ew ∙ w));
    }
  where
    clash : false ≡ true → ⊥
    clash h = cc

pub ruleset blocks = (block_text_written, procedure_text_written, program_text_written, first_block)
