-- The whole code.
use Rattle.std.proofs.Common.{◌≡◌, ◌<◌, ◌≤◌, ◌+◌, ℕ, zero, suc, Bool, true, false, List, [], ◌∷◌, ◌++◌, drop, length, map, Option, Some, None, refl, sym, ap, ◌∙◌, subst, arith, length-append}
use Rattle.std.specs.Prelude.{slice_get}
use Rattle.sim_scope.specs.declared.bound.Bound.{Bound}
use Rattle.sim_scope.specs.declared.types.StandardClass.{StandardClass}
use Rattle.sim_scope.specs.declared.types.StandardClass.TheVariants as standard
use Rattle.sim_scope.specs.Source.{Source, source_of}
use Rattle.sim_scope.specs.Tables.{BlockOf as TableBlock}
use Rattle.sim_code.specs.declared.code.CodeActual.{CodeActual}
use Rattle.sim_code.specs.declared.code.Match.{Match}
use Rattle.sim_code.specs.declared.code.ThunkRecord.{ThunkRecord}
use Rattle.sim_code.specs.declared.instr.Lined.{Lined}
use Rattle.sim_code.specs.Classes.{class_numbered}
use Rattle.sim_code.specs.Code.{BlockOf, ClassOf, CodeOf}
use Rattle.sim_code.specs.Running.{AllRun}
use Rattle.sim_meaning.specs.Attributes as Attributes
use Rattle.sim_meaning.specs.Constants.{constants_of}
use Rattle.sim_meaning.specs.Levels.{has_levels}
use Rattle.sim_meaning.specs.Texts.{BlockText, ClassText, ConnectionText, PrefixedText, ProcedureText, StandardText, Text, program_texts, text}
use Rattle.program_texts.specs.declared.tree.TextTree.{TextTree}
use Rattle.program_texts.specs.TextTrees.{AreTexts, text_in}
use Rattle.codegen_expr.specs.Sites.{block_number, blocks_before, class_in, class_number, counted_unless, is_connected, is_connection}
use Rattle.codegen_expr.specs.Drafts.{DraftOf, PlannedOf, class_of, open_thunk, planned_at, planned_in, planned_or_none}
use Rattle.codegen_expr.proofs.Pieces.{get_front, grows_front, grows_then, more_same, more_then, thunks_grow}
use Rattle.codegen.specs.declared.texts.ClassAt.{ClassAt}
use Rattle.codegen.specs.declared.texts.Written.{Written}
use Rattle.codegen.specs.Agrees.{Agrees}
use Rattle.codegen.specs.BuiltProgram.{ProgramBuilt, TextBuilt, TextsBuilt, texts_of}
use Rattle.codegen.specs.Compiled.{ClassIs, CodeHas, Compiled, StandardTextOf, matches_of}
use Rattle.codegen.specs.EmitMatches.{AreTextsOfClasses}
use Rattle.codegen.specs.EmitProgram.{Begins, Ends, Next, Plans, TextEmitted, TextsEmitted, WritesProgram, WritesText, WritesTo, blocks_in}
use Rattle.codegen.specs.EmitRecords.{AreClasses, AreRecords, ClassesAre, matches_in_class, record_with}
use Rattle.codegen.specs.Planning.{IsPlan}

-- ---- lists

within : {A : Type 0} (xs : List A) (k : ℕ) (x : A) → slice_get xs k ≡ Some x → k < length xs
within [] k x e = absurd (cc)
within (y ∷ xs) zero x e = omega arith
within (y ∷ xs) (suc k) x e = let h = within xs k x e in omega (arith, h)

at_map : {A B : Type 0} (f : A → B) (xs : List A) (k : ℕ) (x : A) → slice_get xs k ≡ Some x → slice_get (map f xs) k ≡ Some (f x)
at_map f [] k x e = absurd (cc)
at_map f (y ∷ xs) zero x e = ap (option_map f) e
  where
    option_map : {A B : Type 0} (f : A → B) → Option A → Option B
    option_map f None = None
    option_map f (Some a) = Some (f a)
at_map f (y ∷ xs) (suc k) x e = at_map f xs k x e

drop_at : {A : Type 0} (xs : List A) (k : ℕ) (x : A) → slice_get xs k ≡ Some x → drop k xs ≡ x ∷ drop (suc k) xs
drop_at [] k x e = absurd (cc)
drop_at (y ∷ xs) zero x e = ap (λ z. first y z ∷ xs) e
  where
    first : {A : Type 0} → A → Option A → A
    first y None = y
    first y (Some z) = z
drop_at (y ∷ xs) (suc k) x e = drop_at xs k x e

drop_behind : {A : Type 0} (xs : List A) (k : ℕ) → length xs ≤ k → drop k xs ≡ []
drop_behind [] zero le = refl
drop_behind [] (suc k) le = refl
drop_behind (x ∷ xs) zero le = absurd (omega (arith, le))
drop_behind (x ∷ xs) (suc k) le = drop_behind xs k (omega (arith, le))

split_at : {A : Type 0} (xs ys : List A) (k : ℕ) (x : A) → slice_get (xs ++ ys) k ≡ Some x → (k < length xs → slice_get xs k ≡ Some x) × (length xs ≤ k → (j : ℕ) × (k ≡ length xs + j) × (slice_get ys j ≡ Some x))
split_at [] ys k x e = (λ le. absurd (omega (arith, le)), λ le. (k, omega arith, e))
split_at (y ∷ xs) ys zero x e = (λ le. e, λ le. absurd (omega (arith, le)))
split_at (y ∷ xs) ys (suc k) x e =
    let r = split_at xs ys k x e in
    (λ le. r.0 (omega (arith, le)), λ le. let q = r.1 (omega (arith, le)) in let same = q.1 in (q.0, omega (arith, same), q.2))

planned_past : (xs : List PlannedOf) (n : ℕ) → length xs ≤ n → planned_or_none None ≡ planned_at xs n
planned_past [] n le = refl
planned_past (x ∷ xs) zero le = absurd (omega (arith, le))
planned_past (x ∷ xs) (suc n) le = planned_past xs n (omega (arith, le))

some_same : {A : Type 0} (x y : A) → Some x ≡ Some y → x ≡ y
some_same x y e = cc

-- ---- one text more

abbrev one_unless : Bool → ℕ
one_unless true = 0
one_unless false = 1

count_next : (bs : List TableBlock) (k : ℕ) (b : TableBlock) → slice_get bs k ≡ Some b → blocks_before (suc k) bs ≡ blocks_before k bs + one_unless (is_connection b.kind)
count_next [] k b e = absurd (cc)
count_next (c ∷ bs) zero b e = cases (is_connection c.kind) refl
  where
    same : c ≡ b
    same = some_same c b e

    cases : (o : Bool) → is_connection c.kind ≡ o → counted_unless (is_connection c.kind) 0 ≡ 0 + one_unless (is_connection b.kind)
    cases true h = let g : is_connection b.kind ≡ true = ap (λ z. is_connection z.kind) (sym same) ∙ h in subst (λ z. counted_unless (is_connection c.kind) 0 ≡ 0 + one_unless z) (sym g) (ap (λ z. counted_unless z 0) h ∙ omega arith)
    cases false h = let g : is_connection b.kind ≡ false = ap (λ z. is_connection z.kind) (sym same) ∙ h in subst (λ z. counted_unless (is_connection c.kind) 0 ≡ 0 + one_unless z) (sym g) (ap (λ z. counted_unless z 0) h ∙ omega arith)
count_next (c ∷ bs) (suc k) b e = more (is_connection c.kind) (count_next bs k b e)
  where
    more : (o : Bool) → blocks_before (suc k) bs ≡ blocks_before k bs + one_unless (is_connection b.kind) → counted_unless o (blocks_before (suc k) bs) ≡ counted_unless o (blocks_before k bs) + one_unless (is_connection b.kind)
    more true h = h
    more false h = omega (arith, h)

texts_count : (x : Text) → one_unless (Attributes.is_connection (Some x)) ≡ blocks_in x
texts_count (BlockText begin ds ss) = refl
texts_count (ProcedureText result h a) = refl
texts_count (ClassText prefix h ds ss) = refl
texts_count (PrefixedText class arguments ds ss) = refl
texts_count ConnectionText = refl
texts_count (StandardText which) = refl

row_of : {A : Type 0} (xs : List A) (k : ℕ) → k < length xs → (x : A) × (slice_get xs k ≡ Some x)
row_of [] k le = absurd (omega (arith, le))
row_of (x ∷ xs) zero le = (x, refl)
row_of (x ∷ xs) (suc k) le = row_of xs k (omega (arith, le))

-- the number of the block behind a text
number_next : (s : Source) (k : ℕ) (x : Text) → Agrees s → text s k ≡ Some x → block_number s (suc k) ≡ block_number s k + blocks_in x
unfolding block_number is_connected text
number_next s k x agrees is =
    let inside : k < length (program_texts s.program.prefix s.program.block) = within (program_texts s.program.prefix s.program.block) k x is in
    let many = agrees.as_many in
    let row = row_of s.tables.blocks k (omega (arith, inside, many)) in
    let same : is_connection row.0.kind ≡ Attributes.is_connection (Some x) = sym (ap Rattle.codegen_expr.specs.Sites.connects row.1) ∙ agrees.connected k ∙ ap Attributes.is_connection is in
    count_next s.tables.blocks k row.0 row.1 ∙ ap (λ z. blocks_before k s.tables.blocks + one_unless z) same ∙ ap (λ z. blocks_before k s.tables.blocks + z) (texts_count x)

-- ---- texts that are built

text_built : (s : Source) (xs : List Text) (n k m : ℕ) (x : Text) → m ≡ n + k → TextsBuilt s n xs → slice_get xs k ≡ Some x → TextBuilt s m x
text_built s [] n k m x e h is = absurd (cc)
text_built s (y ∷ xs) n zero m x e h is = let same : n ≡ m = omega (arith, e) in subst (λ z. TextBuilt s z x) same (subst (TextBuilt s n) (some_same y x is) h.0)
text_built s (y ∷ xs) n (suc k) m x e h is = text_built s xs (suc n) k m x (omega (arith, e)) h.1 is

-- what is written later keeps what was there
ends_before : (s : Source) (old new : Written) (k : ℕ) (x : Text) (final : CodeOf) → TextEmitted s old new k x → Ends new final → Ends old final
ends_before s old new k x final f g = record {
  grows = grows_then old.draft.instrs new.draft.instrs final.instrs (grows_front old.draft.instrs new.draft.instrs (f.rest, f.front)) g.grows;
  blocks = λ j b is. g.blocks j b (ap (λ z. slice_get z j) f.blocks ∙ get_front old.blocks.items f.added j b is);
  classes = λ j c is. g.classes j c (f.kept j c is);
  classed = λ j. g.classed j ∙ ap (λ z. planned_at z j) f.classed;
  thunked = thunks_grow old.draft.thunks new.draft.thunks final.thunks f.thunked g.thunked;
  closed = sym f.thunked.opened ∙ g.closed;
  listed = more_then f.listed g.listed;
}

-- ---- the first texts

none_runs : AllRun []
unfolding AllRun
none_runs k x e = absurd (cc)

none_open : open_thunk [] ≡ None
unfolding open_thunk
none_open = refl

none_before : (s : Source) → block_number s 0 ≡ 0
unfolding block_number
none_before s = refl

started : (s : Source) (w : Written) → Begins s w → TextsEmitted s w w 0
started s w f = record {
  whole = f.whole;
  fits = subst AllRun (sym f.none) none_runs;
  plan = f.plan;
  closed = ap open_thunk f.no_thunk ∙ none_open;
  classed = refl;
  counted = none_before s ∙ ap length (sym f.no_block);
  started = λ e. ap length f.none;
  numbered = λ j b is. absurd (nowhere j b (sym (ap (λ z. slice_get z j) f.no_block) ∙ is));
  each = λ final g k x le is. absurd (omega (arith, le));
}
  where
    nowhere : (j : ℕ) (b : BlockOf) → slice_get [] j ≡ Some b → ⊥
    nowhere j b e = cc

data Below (j k : ℕ) : Type 0 where
  lower : j < k → Below j k
  equal : j ≡ k → Below j k

below : (j k : ℕ) → j < suc k → Below j k
below zero zero le = equal refl
below zero (suc k) le = lower (omega arith)
below (suc j) zero le = absurd (omega (arith, le))
below (suc j) (suc k) le = up (below j k (omega (arith, le)))
  where
    up : Below j k → Below (suc j) (suc k)
    up (lower h) = lower (omega (arith, h))
    up (equal h) = equal (ap suc h)

either : {A : Type 0} (j k : ℕ) → Below j k → (j < k → A) → (j ≡ k → A) → A
either j k (lower h) f g = f h
either j k (equal h) f g = g h

data Beside (j k : ℕ) : Type 0 where
  short : j < k → Beside j k
  long : k ≤ j → Beside j k

beside : (j k : ℕ) → Beside j k
beside j zero = long (omega arith)
beside zero (suc k) = short (omega arith)
beside (suc j) (suc k) = up (beside j k)
  where
    up : Beside j k → Beside (suc j) (suc k)
    up (short h) = short (omega (arith, h))
    up (long h) = long (omega (arith, h))

sides : {A : Type 0} (j k : ℕ) → Beside j k → (j < k → A) → (k ≤ j → A) → A
sides j k (short h) f g = f h
sides j k (long h) f g = g h

module _ (s : Source) (built : ProgramBuilt s) (old now new : Written) (k : ℕ) (x : Text) (is : text s k ≡ Some x) (e : TextsEmitted s old now k) where
  at : slice_get (texts_of s) k ≡ Some x
  unfolding text texts_of
  at = is

  next : Next s now k x
  next = record { agrees = built.agrees; plan = subst (Plans s) (sym e.classed) e.plan; is = is; block = e.counted; first = e.started }

  step : TextEmitted s now new k x → TextsEmitted s old new (suc k)
  step f =
      let whole : new.draft.whole ≡ true = f.built (text_built s (texts_of s) 0 k k x (omega arith) built.texts at) e.whole in
      let blocks : length new.blocks.items ≡ length now.blocks.items + blocks_in x = ap length f.blocks ∙ length-append now.blocks.items f.added ∙ ap (λ z. length now.blocks.items + z) (f.counted whole) in
      record {
        whole = whole;
        fits = f.fits e.fits;
        plan = e.plan;
        closed = f.thunked.opened ∙ e.closed;
        classed = f.classed ∙ e.classed;
        counted = number_next s k x built.agrees is ∙ ap (λ z. z + blocks_in x) e.counted ∙ sym blocks;
        started = λ q. absurd (omega (arith, q));
        numbered = λ j b there.
            let r = split_at now.blocks.items f.added j b (sym (ap (λ z. slice_get z j) f.blocks) ∙ there) in
            sides j (length now.blocks.items) (beside j (length now.blocks.items)) (λ le. e.numbered j b (r.0 le)) (λ le. let q = r.1 le in f.numbered whole q.0 b q.2 ∙ ap (λ z. planned_at z (length now.blocks.items + q.0)) e.classed ∙ ap (planned_at old.draft.classes) (sym q.1));
        each = λ final g j y le there. either j k (below j k le) (λ le. e.each final (ends_before s now new k x final f g) j y le there) (λ same. subst (λ z. CodeHas s final z y (slice_get final.blocks (block_number s z))) (sym same) (subst (λ z. CodeHas s final k z (slice_get final.blocks (block_number s k))) (some_same x y (sym is ∙ ap (text s) (sym same) ∙ there)) (f.at whole final g)));
      }

pub texts_first : (b : Bound) (old : Written) (ts : List TextTree) → WritesTo b old old ts 0
unfolding WritesTo
texts_first b old ts are built f = started (source_of b) old f

pub texts_next : (b : Bound) (old now new : Written) (ts : List TextTree) (k : ℕ) (x : TextTree) → WritesTo b old now ts k → slice_get ts k ≡ Some x → WritesText b now new k x → WritesTo b old new ts (k + 1)
unfolding WritesTo WritesText AreTexts text Rattle.sim_tree.specs.SyntaxOfProgram.program_syntax source_of
texts_next b old now new ts k x f is g are built begins =
    let s = source_of b in
    let here : text s k ≡ Some (text_in x) = sym (ap (λ z. slice_get z k) are) ∙ at_map text_in ts k x is in
    let e = f are built begins in
    let more : suc k ≡ k + 1 = omega arith in
    subst (λ z. TextsEmitted s old new z) more (step s built old now new k (text_in x) here e (g (next s built old now now k (text_in x) here e)))

pub texts_last : (b : Bound) (old new : Written) (ts : List TextTree) (k : ℕ) → WritesTo b old new ts k → k ≡ length ts → WritesProgram b old new ts
unfolding WritesProgram
texts_last b old new ts k f e = subst (WritesTo b old new ts) e f

-- ---- one text of each class

blocks_more : (j k : ℕ) (bs : List TableBlock) → j ≤ k → blocks_before j bs ≤ blocks_before k bs
blocks_more zero k bs le = omega arith
blocks_more (suc j) zero bs le = absurd (omega (arith, le))
blocks_more (suc j) (suc k) [] le = omega arith
blocks_more (suc j) (suc k) (b ∷ bs) le = more (is_connection b.kind) (blocks_more j k bs (omega (arith, le)))
  where
    more : (o : Bool) → blocks_before j bs ≤ blocks_before k bs → counted_unless o (blocks_before j bs) ≤ counted_unless o (blocks_before k bs)
    more true h = h
    more false h = omega (arith, h)

numbers_more : (s : Source) (j k : ℕ) → j ≤ k → block_number s j ≤ block_number s k
unfolding block_number
numbers_more s j k le = blocks_more j k s.tables.blocks le

-- a text with levels has a block of its own
levels_count : (x : Text) → has_levels (Some x) ≡ true → blocks_in x ≡ 1
levels_count (BlockText begin ds ss) h = absurd (cc)
levels_count (ProcedureText result h' a) h = absurd (cc)
levels_count (ClassText prefix h' ds ss) h = refl
levels_count (PrefixedText class arguments ds ss) h = refl
levels_count ConnectionText h = absurd (cc)
levels_count (StandardText which) h = refl

text_there : (o : Option Text) → has_levels o ≡ true → (x : Text) × (o ≡ Some x)
text_there None h = absurd (cc)
text_there (Some x) h = (x, refl)

block_behind : (s : Source) (k : ℕ) → Agrees s → has_levels (text s k) ≡ true → block_number s (suc k) ≡ block_number s k + 1
block_behind s k agrees levels =
    let t = text_there (text s k) levels in
    number_next s k t.0 agrees t.1 ∙ ap (λ z. block_number s k + z) (levels_count t.0 (sym (ap has_levels t.1) ∙ levels))

-- texts with levels that have the same block are the same
block_alone : (s : Source) (j k : ℕ) → Agrees s → has_levels (text s j) ≡ true → has_levels (text s k) ≡ true → block_number s j ≡ block_number s k → j ≡ k
block_alone s j k agrees first second e = sides j k (beside j k) (λ le. absurd (apart j k le first e)) (λ le. sides k j (beside k j) (λ more. absurd (apart k j more second (sym e))) (λ more. omega (arith, le, more)))
  where
    apart : (j k : ℕ) → j < k → has_levels (text s j) ≡ true → block_number s j ≡ block_number s k → ⊥
    apart j k le levels e = let next = block_behind s j agrees levels in let more = numbers_more s (suc j) k (omega (arith, le)) in omega (arith, next, more, e)

-- the class of a text with levels
record ClassOfText (s : Source) (code : CodeOf) (k : ℕ) : Type 0 where
  pub class : ClassOf
  pub numbered : class_numbered code (class_number s code k) ≡ Some class
  pub of_block : class.block ≡ block_number s k

class_found : (s : Source) (code : CodeOf) (k : ℕ) (b : BlockOf) (class : ClassOf) → slice_get code.blocks (block_number s k) ≡ Some b → ClassIs s code k b class → ClassOfText s code k
unfolding class_number
class_found s code k b class e f = record { class = class; numbered = ap (λ z. class_numbered code (class_in z)) e ∙ f.numbered; of_block = f.of_block }

class_of_standard : (s : Source) (code : CodeOf) (k : ℕ) (b : BlockOf) (which : StandardClass) → slice_get code.blocks (block_number s k) ≡ Some b → StandardTextOf s code k which b → ClassOfText s code k
class_of_standard s code k b standard.Linkage e f = class_found s code k b f.class e f.is
class_of_standard s code k b standard.Link e f = class_found s code k b f.class e f.is
class_of_standard s code k b standard.Head e f = class_found s code k b f.class e f.is
class_of_standard s code k b standard.Process e f = class_found s code k b f.class e f.is

class_of_text : (s : Source) (code : CodeOf) (k : ℕ) (x : Text) (o : Option BlockOf) → has_levels (Some x) ≡ true → slice_get code.blocks (block_number s k) ≡ o → CodeHas s code k x o → ClassOfText s code k
class_of_text s code k (BlockText begin ds ss) o h e f = absurd (cc)
class_of_text s code k (ProcedureText result h' a) o h e f = absurd (cc)
class_of_text s code k ConnectionText o h e f = absurd (cc)
class_of_text s code k (ClassText prefix h' ds ss) None h e f = absurd f
class_of_text s code zero (ClassText prefix h' ds ss) (Some b) h e f = absurd f
class_of_text s code (suc k) (ClassText prefix h' ds ss) (Some b) h e f = class_found s code (suc k) b f.class e f.is
class_of_text s code k (PrefixedText class arguments ds ss) None h e f = absurd f
class_of_text s code zero (PrefixedText class arguments ds ss) (Some b) h e f = class_found s code 0 b f.class e f.is
class_of_text s code (suc k) (PrefixedText class arguments ds ss) (Some b) h e f = class_found s code (suc k) b f.class e f.is
class_of_text s code k (StandardText which) None h e f = absurd f
class_of_text s code zero (StandardText which) (Some b) h e f = absurd f
class_of_text s code (suc k) (StandardText which) (Some b) h e f = class_of_standard s code (suc k) b which e f

module _ (s : Source) (code : CodeOf) (agrees : Agrees s) (each : (k : ℕ) (x : Text) → text s k ≡ Some x → CodeHas s code k x (slice_get code.blocks (block_number s k))) where
  class_there : (k : ℕ) → has_levels (text s k) ≡ true → ClassOfText s code k
  class_there k levels =
      let t = text_there (text s k) levels in
      class_of_text s code k t.0 (slice_get code.blocks (block_number s k)) (sym (ap has_levels t.1) ∙ levels) refl (each k t.0 t.1)

  -- texts of the same class are the same
  class_alone : (j k : ℕ) → has_levels (text s j) ≡ true → has_levels (text s k) ≡ true → class_number s code j ≡ class_number s code k → j ≡ k
  class_alone j k first second e =
      let f = class_there j first in
      let g = class_there k second in
      let same : f.class ≡ g.class = some_same f.class g.class (sym f.numbered ∙ ap (class_numbered code) e ∙ g.numbered) in
      block_alone s j k agrees first second (sym f.of_block ∙ ap (λ z. z.block) same ∙ g.of_block)

-- ---- the code

abbrev whole_code : List (List ℕ) → List ClassOf → Written → CodeOf
whole_code texts classes w = record { texts = texts; blocks = w.blocks.items; classes = classes; thunks = w.draft.thunks; actual_lists = w.draft.lists; instrs = w.draft.instrs }

abbrev nothing : List PlannedOf → DraftOf
nothing plan = record { instrs = []; room = 0; size = 0; whole = true; classes = plan; thunks = []; lists = [] }

map_length : {A B : Type 0} (f : A → B) (xs : List A) → length (map f xs) ≡ length xs
map_length f [] = refl
map_length f (x ∷ xs) = ap suc (map_length f xs)

counts : (code : CodeOf) (n : ℕ) (x : ClassOf) → class_numbered code n ≡ Some x → (j : ℕ) × (n ≡ suc j) × (slice_get code.classes j ≡ Some x)
counts code zero x e = absurd (cc)
counts code (suc j) x e = (j, refl, e)

module _ (b : Bound) (old new : Written) (ts : List TextTree) (plan : List PlannedOf) (built : ProgramBuilt (source_of b)) (are : AreTexts b.program ts) (no_draft : old.draft ≡ nothing plan) (no_block : old.blocks.items ≡ []) (planned : IsPlan b plan ts) (f : WritesProgram b old new ts) where
  plans : Plans (source_of b) plan
  unfolding IsPlan
  plans = planned built.agrees are

  begins : Begins (source_of b) old
  begins = record { none = ap (λ z. z.instrs) no_draft; whole = ap (λ z. z.whole) no_draft; plan = subst (Plans (source_of b)) (sym (ap (λ z. z.classes) no_draft)) plans; no_thunk = ap (λ z. z.thunks) no_draft; no_block = no_block }

  emitted : TextsEmitted (source_of b) old new (length ts)
  unfolding WritesProgram WritesTo
  emitted = f are built begins

  as_many : length ts ≡ length (texts_of (source_of b))
  unfolding AreTexts texts_of source_of Rattle.sim_tree.specs.SyntaxOfProgram.program_syntax
  as_many = sym (map_length text_in ts) ∙ ap length are

  same_plan : new.draft.classes ≡ plan
  same_plan = emitted.classed ∙ ap (λ z. z.classes) no_draft

  -- there are as many blocks as are planned
  same_count : length plan ≡ length new.blocks.items
  same_count = plans.as_many ∙ ap (block_number (source_of b)) (sym as_many) ∙ emitted.counted

  classed : (j : ℕ) → planned_in (slice_get new.blocks.items j) ≡ planned_at new.draft.classes j
  classed j = cases (slice_get new.blocks.items j) refl
    where
      behind : (xs : List BlockOf) (j : ℕ) → slice_get xs j ≡ None → length xs ≤ j
      behind [] j e = omega arith
      behind (x ∷ xs) zero e = absurd (cc)
      behind (x ∷ xs) (suc j) e = let le = behind xs j e in omega (arith, le)

      cases : (o : Option BlockOf) → slice_get new.blocks.items j ≡ o → planned_in o ≡ planned_at new.draft.classes j
      cases None e = let le = behind new.blocks.items j e in let many = same_count in planned_past plan j (omega (arith, le, many)) ∙ ap (λ z. planned_at z j) (sym same_plan)
      cases (Some x) e = emitted.numbered j x e ∙ ap (λ z. planned_at z j) (sym emitted.classed)

  -- and as many as texts that are no connections
  blocks_many : length new.blocks.items ≡ blocks_before (length (source_of b).tables.blocks) (source_of b).tables.blocks
  unfolding block_number texts_of
  blocks_many = sym emitted.counted ∙ ap (λ n. blocks_before n (source_of b).tables.blocks) (as_many ∙ sym built.agrees.as_many)

  module _ (texts : List (List ℕ)) (classes : List ClassOf) (g : AreClasses b new classes) where
    abbrev all : CodeOf
    all = whole_code texts classes new

    found : ClassesAre b new classes
    unfolding AreClasses
    found = g

    texts_many : length found.texts ≡ length new.classes.items
    unfolding AreTextsOfClasses
    texts_many = found.each.0

    as_long : length classes ≡ length new.classes.items
    unfolding AreRecords
    as_long = found.records.0

    -- each record, with its matches
    recorded : (j : ℕ) (c : Option ClassAt) → slice_get new.classes.items j ≡ Some c → (k : Option ℕ) × (slice_get found.texts j ≡ Some k) × (slice_get classes j ≡ Some (record_with c (matches_in_class (source_of b) k)))
    unfolding AreRecords
    recorded j c there =
        let inside : j < length new.classes.items = within new.classes.items j c there in
        let row = row_of found.texts j (omega (arith, inside, texts_many)) in
        (row.0, row.1, found.records.1 j c row.0 there row.1)

    ends : Ends new all
    ends = record {
      grows = record { keeps = λ j y there ne. there };
      blocks = λ j y there. there;
      classes = λ j y there. let r = recorded j (Some y) there in (matches_in_class (source_of b) r.0, r.2);
      classed = classed;
      thunked = record { keeps = λ k x is some'. is };
      closed = emitted.closed;
      listed = more_same refl;
    }

    each : (k : ℕ) (x : Text) → text (source_of b) k ≡ Some x → CodeHas (source_of b) all k x (slice_get all.blocks (block_number (source_of b) k))
    unfolding text texts_of
    each k x is =
        let inside : k < length (texts_of (source_of b)) = within (texts_of (source_of b)) k x is in
        let many = as_many in
        emitted.each all ends k x (omega (arith, inside, many)) is

    number_is : (k : ℕ) → class_number (source_of b) all k ≡ class_of new.draft.classes (block_number (source_of b) k)
    unfolding class_number
    number_is k = ap (λ z. z.class) (classed (block_number (source_of b) k))

    matches : (k : ℕ) (x : ClassOf) → has_levels (text (source_of b) k) ≡ true → class_numbered all (class_number (source_of b) all k) ≡ Some x → x.matches ≡ matches_of (source_of b) k
    unfolding AreTextsOfClasses
    matches k x levels e =
        let s = source_of b in
        let n = counts all (class_number s all k) x e in
        let j = n.0 in
        let inside : j < length classes = within classes j x n.2 in
        let row = row_of new.classes.items j (omega (arith, inside, as_long)) in
        let r = recorded j row.0 row.1 in
        let in_texts : j < length found.texts = omega (arith, inside, as_long, texts_many) in
        let its : class_of new.draft.classes (block_number s k) ≡ suc j = sym (number_is k) ∙ n.1 in
        let text_is : slice_get found.texts j ≡ Some (Some k) = found.each.1 k j levels its in_texts (λ l there same. class_alone s all built.agrees each l k there levels (number_is l ∙ same ∙ sym n.1)) in
        let of_text : r.0 ≡ Some k = some_same r.0 (Some k) (sym r.1 ∙ text_is) in
        let same : x ≡ record_with row.0 (matches_in_class s r.0) = some_same x _ (sym n.2 ∙ r.2) in
        ap (λ z. z.matches) same ∙ with_matches row.0 (matches_in_class s r.0) ∙ ap (matches_in_class s) of_text
      where
        with_matches : (c : Option ClassAt) (ms : List Match) → (record_with c ms).matches ≡ ms
        with_matches None ms = refl
        with_matches (Some c) ms = refl

    stands : texts ≡ constants_of (source_of b) → Compiled (source_of b) all
    stands et = record { agrees = built.agrees; texts = et; each = each; matches = matches; as_many = blocks_many }

pub code_stands : (b : Bound) (old new : Written) (ts for_plan for_code : List TextTree) (plan : List PlannedOf) (texts : List (List ℕ)) (classes : List ClassOf) (thunks : List ThunkRecord) (lists : List (List CodeActual)) (instrs : List Lined)
    → ProgramBuilt (source_of b) → AreTexts b.program ts → old.draft ≡ nothing plan → old.blocks.items ≡ [] → for_plan ≡ ts → IsPlan b plan for_plan → for_code ≡ ts → WritesProgram b old new for_code → texts ≡ constants_of (source_of b)
    → AreClasses b new classes → thunks ≡ new.draft.thunks → lists ≡ new.draft.lists → instrs ≡ new.draft.instrs → Compiled (source_of b) (record { texts = texts; blocks = new.blocks.items; classes = classes; thunks = thunks; actual_lists = lists; instrs = instrs })
code_stands b old new ts for_plan for_code plan texts classes thunks lists instrs built are ed eb e1 ep e2 f et g eth el ei =
    let s = source_of b in
    let blocks = new.blocks.items in
    let first = stands b old new ts plan built are ed eb (subst (IsPlan b plan) e1 ep) (subst (WritesProgram b old new) e2 f) texts classes g et in
    let with_thunks = subst (λ z. Compiled s (record { texts = texts; blocks = blocks; classes = classes; thunks = z; actual_lists = new.draft.lists; instrs = new.draft.instrs })) (sym eth) first in
    let with_lists = subst (λ z. Compiled s (record { texts = texts; blocks = blocks; classes = classes; thunks = thunks; actual_lists = z; instrs = new.draft.instrs })) (sym el) with_thunks in
    subst (λ z. Compiled s (record { texts = texts; blocks = blocks; classes = classes; thunks = thunks; actual_lists = lists; instrs = z })) (sym ei) with_lists

pub code_runs : (b : Bound) (old new : Written) (ts : List TextTree) (plan : List PlannedOf) → ProgramBuilt (source_of b) → AreTexts b.program ts → old.draft ≡ nothing plan → old.blocks.items ≡ [] → IsPlan b plan ts → WritesProgram b old new ts → AllRun new.draft.instrs
code_runs b old new ts plan built are ed eb ep f = (emitted b old new ts plan built are ed eb ep f).fits

pub ruleset wholes = (code_runs)
