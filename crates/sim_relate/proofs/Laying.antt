-- How the frames of a text are laid out by its code: the cells of its levels have slots of their own, apart from all temps.
use Rattle.std.proofs.Common.{◌≡◌, ◌≢◌, ◌⊎◌, inl, inr, ◌<◌, ◌≤◌, ◌+◌, ℕ, zero, suc, Bool, true, false, List, [], ◌∷◌, ◌++◌, length, map, Option, Some, None, ⊎_elim, refl, sym, ap, ◌∙◌, subst, arith, append_assoc, append-nil, length-append}
use Rattle.std.proofs.lemmas.Bool.{cases_eq}
use Rattle.std.proofs.lemmas.List.{length-map}
use Rattle.std.specs.Prelude.{◌==◌, ◌&&◌, if◌then◌else◌, pos, slice_get}
use Rattle.sim_base.specs.declared.numbering.DeclNo.{DeclNo}
use Rattle.sim_scope.specs.declared.types.Entry.{Entry}
use Rattle.sim_scope.specs.declared.types.Entry.TheVariants as entry
use Rattle.sim_scope.specs.Scopes.{entry_of}
use Rattle.sim_scope.specs.declared.types.StandardClass.TheVariants as standard
use Rattle.sim_scope.specs.Source.{Source, block_around, block_of}
use Rattle.sim_scope.specs.Tables as scope
use Rattle.sim_tree.specs.declared.stmt.TypeName.{TypeName}
use Rattle.sim_code.specs.declared.code.BlockKind.{BlockKind}
use Rattle.sim_code.specs.declared.code.CodeType.{CodeType}
use Rattle.sim_code.specs.Code.{BlockOf, CodeOf}
use Rattle.sim_meaning.specs.Attributes.{first_in, is_connection as is_connection_text}
use Rattle.sim_meaning.specs.Entries.{cells_from, first_cells, numbers_of, with_cell, with_result}
use Rattle.sim_values.specs.Plain.{Integer}
use Rattle.sim_meaning.specs.Levels.{has_levels, is_class, is_process_itself}
use Rattle.sim_meaning.specs.Pending.{Connection, Declared, Held, Key, Origin, Result, same_key}
use Rattle.sim_meaning.specs.Pending as meaning
use Rattle.sim_meaning.specs.Texts.{BlockText, ClassText, ConnectionText, PrefixedText, ProcedureText, StandardText, Text, text}
use Rattle.codegen_expr.specs.Sites.{HasCell, LevelOf, block_in_front, block_number, block_of_text, cells_in, connects, expression_temps, frame_text, hidden_before, hidden_from, hidden_in, innermost, is_connected, is_connection, origin_in, outer, own_end, own_part, place_of, prefix_of, room_of_block, slot_of, start_of, types_in}
use Rattle.codegen.specs.Agrees.{Agrees}
use Rattle.codegen.specs.Compiled.{CodeHas, Compiled, RecordOf, type_of_cell}
use Rattle.sim_relate.proofs.ClassTexts.{standard_heads}
use Rattle.sim_relate.proofs.OfClass.{process_is}
use Rattle.sim_relate.proofs.Reach.{alone, level_cases, level_either, same_some}
use Rattle.sim_relate.proofs.Relation.{Laid}
use Rattle.sim_relate.proofs.Slots.{place_injective, same_is}

-- ---- keys that are among cells

-- a key stands at a place among cells
record KeyAt (key : Key) (hs : List Held) : Type 0 where
  place : ℕ
  cell : Held
  is : slice_get hs place ≡ Some cell
  has : cell.key ≡ key

key_if : (b : Bool) (key : Key) (h : Held) (hs : List Held) → same_key h.key key ≡ b → (if b then 0 else suc (place_of key hs)) < suc (length hs) → (place_of key hs < length hs → KeyAt key hs) → KeyAt key (h ∷ hs)
key_if true key h hs e lt f = record { place = 0; cell = h; is = refl; has = same_is h.key key e }
key_if false key h hs e lt f = let x = f (omega (arith, lt)) in record { place = suc x.place; cell = x.cell; is = x.is; has = x.has }

key_at : (key : Key) (hs : List Held) → place_of key hs < length hs → KeyAt key hs
key_at key [] lt = absurd (omega (arith, lt))
key_at key (h ∷ hs) lt = key_if (same_key h.key key) key h hs refl lt (λ less. key_at key hs less)

-- the place of a key among cells and others: among the first, or among the others
place_append : (key : Key) (gs hs : List Held) → place_of key (gs ++ hs) < length (gs ++ hs) → (place_of key gs < length gs) ⊎ (place_of key hs < length hs)
place_append key [] hs lt = inr lt
place_append key (g ∷ gs) hs lt = by_key (same_key g.key key) lt (λ less. place_append key gs hs less)
  where
    by_key : (b : Bool) → (if b then 0 else suc (place_of key (gs ++ hs))) < suc (length (gs ++ hs)) → (place_of key (gs ++ hs) < length (gs ++ hs) → (place_of key gs < length gs) ⊎ (place_of key hs < length hs)) → ((if b then 0 else suc (place_of key gs)) < suc (length gs)) ⊎ (place_of key hs < length hs)
    by_key true lt f = inl (omega arith)
    by_key false lt f = ⊎_elim (λ a. inl (omega (arith, a))) (λ b. inr b) (f (omega (arith, lt)))

numbers_are : (a b : ℕ) → (a == b) ≡ true → a ≡ b
numbers_are a b e = grind (arith, e)

both_true : (a b : Bool) → (a && b) ≡ true → (a ≡ true) × (b ≡ true)
both_true true true e = (refl, refl)
both_true true false e = absurd (cc)
both_true false b e = absurd (cc)

-- ---- which keys a text's own part has

module _ (s : Source) where
  -- what is declared in the text, the result of a procedure, or the cell of a connection that stands in it
  data Among (k : ℕ) (key : Key) : Type 0 where
    declared_in : {d : DeclNo} → key ≡ Declared d.0 → block_of s d ≡ k → Among k key
    result_in : key ≡ Result → is_class (text s k) ≡ false → Among k key
    hidden_at : (n : ℕ) {b : scope.BlockOf} → key ≡ Connection b.first → slice_get s.tables.blocks n ≡ Some b → is_connection b.kind ≡ true → frame_text s n ≡ k → Among k key
    origin_at : key ≡ Origin → is_process_itself s k ≡ true → Among k key

  -- a declaration among others
  record Listed (ds : List DeclNo) (key : Key) : Type 0 where
    place : ℕ
    declaration : DeclNo
    is : slice_get ds place ≡ Some declaration
    has : key ≡ Declared declaration.0

  listed_on : (d : DeclNo) (ds : List DeclNo) (key : Key) → Listed ds key → Listed (d ∷ ds) key
  listed_on d ds key x = record { place = suc x.place; declaration = x.declaration; is = x.is; has = x.has }

  cell_first : (d : DeclNo) (ds : List DeclNo) (g : Held) (hs : List Held) (p : ℕ) (h : Held) → g.key ≡ Declared d.0 → slice_get (g ∷ hs) p ≡ Some h → ((p : ℕ) → slice_get hs p ≡ Some h → Listed ds h.key) → Listed (d ∷ ds) h.key
  cell_first d ds g hs zero h has e f = let same : h ≡ g = cc in record { place = 0; declaration = d; is = refl; has = ap (λ z. z.key) same ∙ has }
  cell_first d ds g hs (suc p) h has e f = listed_on d ds h.key (f p e)

  cell_listed : (d : DeclNo) (ds : List DeclNo) (o : Option Entry) (hs : List Held) (p : ℕ) (h : Held) → slice_get (with_cell d o hs) p ≡ Some h → ((p : ℕ) → slice_get hs p ≡ Some h → Listed ds h.key) → Listed (d ∷ ds) h.key
  cell_listed d ds (Some (entry.Variable type)) hs p h e f = cell_first d ds _ hs p h refl e f
  cell_listed d ds (Some (entry.Constant type)) hs p h e f = cell_first d ds _ hs p h refl e f
  cell_listed d ds (Some (entry.Array element dimensions)) hs p h e f = cell_first d ds _ hs p h refl e f
  cell_listed d ds (Some (entry.Formal f')) hs p h e f = cell_first d ds _ hs p h refl e f
  cell_listed d ds (Some (entry.Procedure result k)) hs p h e f = listed_on d ds h.key (f p e)
  cell_listed d ds (Some (entry.Class k)) hs p h e f = listed_on d ds h.key (f p e)
  cell_listed d ds (Some (entry.Virtual result own)) hs p h e f = listed_on d ds h.key (f p e)
  cell_listed d ds (Some (entry.Unspecified written)) hs p h e f = listed_on d ds h.key (f p e)
  cell_listed d ds (Some (entry.Attribute name parameter result)) hs p h e f = listed_on d ds h.key (f p e)
  cell_listed d ds None hs p h e f = listed_on d ds h.key (f p e)

  cells_listed : (ds : List DeclNo) (p : ℕ) (h : Held) → slice_get (cells_from s ds) p ≡ Some h → Listed ds h.key
  cells_listed [] p h e = absurd (cc)
  cells_listed (d ∷ ds) p h e = cell_listed d ds (entry_of s.tables d) (cells_from s ds) p h e (λ p e. cells_listed ds p h e)

  module _ (agrees : Agrees s) (k : ℕ) where
    declared_among : (p : ℕ) (h : Held) → slice_get (cells_from s (numbers_of s k)) p ≡ Some h → Among k h.key
    declared_among p h e = let x = cells_listed (numbers_of s k) p h e in declared_in x.has (agrees.owned k x.place x.declaration x.is)

    result_among : (result : Option TypeName) (p : ℕ) (h : Held) → is_class (text s k) ≡ false → slice_get (with_result result (cells_from s (numbers_of s k))) p ≡ Some h → Among k h.key
    result_among None p h c e = declared_among p h e
    result_among (Some type) zero h c e = result_in (first_key _ h e) c
      where
        first_key : (g h : Held) → Some g ≡ Some h → h.key ≡ g.key
        first_key g h e = let same : h ≡ g = cc in ap (λ z. z.key) same
    result_among (Some type) (suc p) h c e = declared_among p h e

    cells_among : (x : Option Text) (p : ℕ) (h : Held) → text s k ≡ x → slice_get (cells_in s k x) p ≡ Some h → Among k h.key
    unfolding first_cells
    cells_among None p h t e = absurd (cc)
    cells_among (Some (BlockText begin ds ss)) p h t e = declared_among p h e
    cells_among (Some (ProcedureText result h' a)) p h t e = result_among result p h (ap is_class t) e
    cells_among (Some (ClassText prefix h' ds ss)) p h t e = declared_among p h e
    cells_among (Some (PrefixedText class arguments ds ss)) p h t e = declared_among p h e
    cells_among (Some ConnectionText) p h t e = absurd (cc)
    cells_among (Some (StandardText which)) p h t e = declared_among p h e

    hidden_one : (c : Bool) (b : scope.BlockOf) (hs : List Held) (n p : ℕ) (h : Held) → (is_connection b.kind && frame_text s n == k) ≡ c → slice_get s.tables.blocks n ≡ Some b → slice_get (hidden_before c b hs) p ≡ Some h → ((p : ℕ) → slice_get hs p ≡ Some h → Among k h.key) → Among k h.key
    hidden_one false b hs n p h ec eb e f = f p e
    hidden_one true b hs n zero h ec eb e f =
        let x = both_true (is_connection b.kind) (frame_text s n == k) ec in
        hidden_at n (first_key _ h e) eb x.0 (numbers_are (frame_text s n) k x.1)
      where
        first_key : (g h : Held) → Some g ≡ Some h → h.key ≡ g.key
        first_key g h e = let same : h ≡ g = cc in ap (λ z. z.key) same
    hidden_one true b hs n (suc p) h ec eb e f = f p e

    hidden_among : (n : ℕ) (bs : List scope.BlockOf) (p : ℕ) (h : Held) → ((i : ℕ) (b : scope.BlockOf) → slice_get bs i ≡ Some b → slice_get s.tables.blocks (n + i) ≡ Some b) → slice_get (hidden_from s k n bs) p ≡ Some h → Among k h.key
    hidden_among n [] p h all e = by (is_process_itself s k) refl p e
      where
        by : (c : Bool) → is_process_itself s k ≡ c → (p : ℕ) → slice_get (origin_in c) p ≡ Some h → Among k h.key
        by true f zero e = let same : record { key = Origin; value = Some (meaning.Of (Integer (pos 0))) } ≡ h = cc (e) in origin_at (ap (λ z. z.key) (sym same)) f
        by true f (suc p) e = absurd (cc (e))
        by false f p e = absurd (cc (e))
    hidden_among n (b ∷ bs) p h all e =
        let here : n + 0 ≡ n = omega arith in
        hidden_one (is_connection b.kind && frame_text s n == k) b (hidden_from s k (suc n) bs) n p h refl (subst (λ z. slice_get s.tables.blocks z ≡ Some b) here (all 0 b refl)) e
        (λ p e. hidden_among (suc n) bs p h (λ i b' e'. let next : n + suc i ≡ suc n + i = omega arith in subst (λ z. slice_get s.tables.blocks z ≡ Some b') next (all (suc i) b' e')) e)

    among : (key : Key) → HasCell s k key → Among k key
    unfolding hidden_in
    among key has =
        ⊎_elim
        (λ lt. let x = key_at key (cells_in s k (text s k)) lt in subst (Among k) x.has (cells_among (text s k) x.place x.cell refl x.is))
        (λ lt. let x = key_at key (hidden_in s k) lt in subst (Among k) x.has (hidden_among 0 s.tables.blocks x.place x.cell (λ i b e. let same : i ≡ 0 + i = omega arith in subst (λ z. slice_get s.tables.blocks z ≡ Some b) same e) x.is))
        (place_append key (cells_in s k (text s k)) (hidden_in s k) has)

  declared_once : (d d' : DeclNo) (t u : ℕ) → Declared d.0 ≡ Declared d'.0 → block_of s d ≡ t → block_of s d' ≡ u → t ≡ u
  declared_once d d' t u e p q =
      let number : d.0 ≡ d'.0 = cc in
      let same : d ≡ d' = ap (λ (z : ℕ). record { 0 = z }) number in
      sym p ∙ ap (block_of s) same ∙ q

  connected_once : (agrees : Agrees s) (n n' t u : ℕ) (b b' : scope.BlockOf) → Connection b.first ≡ Connection b'.first → slice_get s.tables.blocks n ≡ Some b → slice_get s.tables.blocks n' ≡ Some b' → is_connection b.kind ≡ true → is_connection b'.kind ≡ true → frame_text s n ≡ t → frame_text s n' ≡ u → t ≡ u
  unfolding is_connected
  connected_once agrees n n' t u b b' e eb eb' c c' p q =
      let first : b.first ≡ b'.first = cc in
      let x = agrees.begun n (ap connects eb ∙ c) in
      let y = agrees.begun n' (ap connects eb' ∙ c') in
      let is : block_around s b.first ≡ Some n = ap (λ z. block_around s (first_in z)) (sym eb) ∙ x in
      let is' : block_around s b.first ≡ Some n' = ap (block_around s) first ∙ ap (λ z. block_around s (first_in z)) (sym eb') ∙ y in
      sym p ∙ ap (frame_text s) (same_some (block_around s b.first) n n' is is') ∙ q

  -- no other standard class has `process` in front of it
  origin_once : Agrees s → (own t u : ℕ) → LevelOf s.tables own t → LevelOf s.tables own u → is_process_itself s t ≡ true → is_process_itself s u ≡ true → t ≡ u
  unfolding is_process_itself
  origin_once agrees own t u p q a b =
      ⊎_elim (λ level. agrees.standards t u standard.Process (process_is (text s t) a) (process_is (text s u) b) level) (λ level. sym (agrees.standards u t standard.Process (process_is (text s u) b) (process_is (text s t) a) level)) (level_either s.tables own t u p q)

  -- only one level of a text has a cell with this key
  pub only_level : Agrees s → (own t u : ℕ) (key : Key) → LevelOf s.tables own t → LevelOf s.tables own u → HasCell s t key → HasCell s u key → t ≡ u
  only_level agrees own t u key p q ht hu = by_key (among agrees t key ht) (among agrees u key hu)
    where
      by_key : Among t key → Among u key → t ≡ u
      by_key (declared_in {d = d} e a) (declared_in {d = d'} e' a') = declared_once d d' t u (sym e ∙ e') a a'
      by_key (declared_in e a) (result_in e' a') = absurd (cc (e, e'))
      by_key (declared_in e a) (hidden_at n e' b c a') = absurd (cc (e, e'))
      by_key (result_in e a) (declared_in e' a') = absurd (cc (e, e'))
      by_key (result_in e a) (result_in e' a') = sym (alone s agrees own t a p) ∙ alone s agrees own u a' q
      by_key (result_in e a) (hidden_at n e' b c a') = absurd (cc (e, e'))
      by_key (hidden_at n e b c a) (declared_in e' a') = absurd (cc (e, e'))
      by_key (hidden_at n e b c a) (result_in e' a') = absurd (cc (e, e'))
      by_key (hidden_at n {b = x} e b c a) (hidden_at n' {b = x'} e' b' c' a') = connected_once agrees n n' t u x x' (sym e ∙ e') b b' c c' a a'
      by_key (declared_in e a) (origin_at e' a') = absurd (cc (e, e'))
      by_key (result_in e a) (origin_at e' a') = absurd (cc (e, e'))
      by_key (hidden_at n e b c a) (origin_at e' a') = absurd (cc (e, e'))
      by_key (origin_at e a) (declared_in e' a') = absurd (cc (e, e'))
      by_key (origin_at e a) (result_in e' a') = absurd (cc (e, e'))
      by_key (origin_at e a) (hidden_at n e' b c a') = absurd (cc (e, e'))
      by_key (origin_at e a) (origin_at e' a') = origin_once agrees own t u p q a a'

-- ---- the records of texts and of their levels

module _ (s : Source) (code : CodeOf) (compiled : Compiled s code) where
  -- What the record of a text says of its frames: they have all that those of the text in front of it have, then its own part, then temps.
  pub record Recorded (k : ℕ) : Type 0 where
    pub block : BlockOf
    pub found : slice_get code.blocks (block_number s k) ≡ Some block
    pub temps : List CodeType
    pub types : block.types ≡ types_in (block_in_front s code k) ++ (map type_of_cell (own_part s k) ++ temps)
    pub roomy : room_of_block (block_in_front s code k) ≤ block.room

  of_record : {kind : BlockKind} {result : CodeType} (k : ℕ) (b : BlockOf) → slice_get code.blocks (block_number s k) ≡ Some b → RecordOf s code k kind result b → Recorded k
  of_record k b e r = record { block = b; found = e; temps = r.temps; types = r.types; roomy = r.roomy }

  by_code : (k : ℕ) (x : Text) (o : Option BlockOf) → slice_get code.blocks (block_number s k) ≡ o → is_connection_text (Some x) ≡ false → CodeHas s code k x o → Recorded k
  by_code k ConnectionText o e c a = absurd (cc)
  by_code k (BlockText begin ds ss) None e c a = absurd a
  by_code zero (BlockText begin ds ss) (Some b) e c a = of_record 0 b e a.heads
  by_code (suc k) (BlockText begin ds ss) (Some b) e c a = of_record (suc k) b e a.heads
  by_code k (ProcedureText result h' a') None e c a = absurd a
  by_code zero (ProcedureText result h' a') (Some b) e c a = of_record 0 b e a.heads
  by_code (suc k) (ProcedureText result h' a') (Some b) e c a = of_record (suc k) b e a.heads
  by_code k (ClassText prefix h' ds ss) None e c a = absurd a
  by_code zero (ClassText prefix h' ds ss) (Some b) e c a = absurd a
  by_code (suc k) (ClassText prefix h' ds ss) (Some b) e c a = of_record (suc k) b e a.heads
  by_code k (PrefixedText class arguments ds ss) None e c a = absurd a
  by_code zero (PrefixedText class arguments ds ss) (Some b) e c a = of_record 0 b e a.heads
  by_code (suc k) (PrefixedText class arguments ds ss) (Some b) e c a = of_record (suc k) b e a.heads
  by_code k (StandardText which) None e c a = absurd a
  by_code zero (StandardText which) (Some b) e c a = absurd a
  by_code (suc k) (StandardText which) (Some b) e c a = of_record (suc k) b e (standard_heads s code (suc k) which b a)

  -- each text but connections has a record
  pub recorded : (k : ℕ) (x : Text) → text s k ≡ Some x → is_connection_text (Some x) ≡ false → Recorded k
  recorded k x e c = by_code k x (slice_get code.blocks (block_number s k)) refl c (compiled.each k x e)

  class_by_text : (k : ℕ) (o : Option Text) → text s k ≡ o → is_class o ≡ true → Recorded k
  class_by_text k None e c = absurd (cc)
  class_by_text k (Some (BlockText begin ds ss)) e c = absurd (cc)
  class_by_text k (Some (ProcedureText result h a)) e c = absurd (cc)
  class_by_text k (Some (ClassText prefix h ds ss)) e c = recorded k (ClassText prefix h ds ss) e refl
  class_by_text k (Some (PrefixedText class arguments ds ss)) e c = absurd (cc)
  class_by_text k (Some ConnectionText) e c = absurd (cc)
  class_by_text k (Some (StandardText which)) e c = recorded k (StandardText which) e refl

  pub class_recorded : (k : ℕ) → is_class (text s k) ≡ true → Recorded k
  class_recorded k c = class_by_text k (text s k) refl c

  levels_by_text : (k : ℕ) (o : Option Text) → text s k ≡ o → has_levels o ≡ true → Recorded k
  levels_by_text k None e c = absurd (cc)
  levels_by_text k (Some (BlockText begin ds ss)) e c = absurd (cc)
  levels_by_text k (Some (ProcedureText result h a)) e c = absurd (cc)
  levels_by_text k (Some (ClassText prefix h ds ss)) e c = recorded k (ClassText prefix h ds ss) e refl
  levels_by_text k (Some (PrefixedText class arguments ds ss)) e c = recorded k (PrefixedText class arguments ds ss) e refl
  levels_by_text k (Some ConnectionText) e c = absurd (cc)
  levels_by_text k (Some (StandardText which)) e c = recorded k (StandardText which) e refl

  pub levels_recorded : (k : ℕ) → has_levels (text s k) ≡ true → Recorded k
  levels_recorded k c = levels_by_text k (text s k) refl c

  pub level_recorded : (own k : ℕ) → Recorded own → LevelOf s.tables own k → Recorded k
  level_recorded own k r p = level_cases s compiled.agrees own k p (λ same. subst Recorded same r) (class_recorded k)

  -- the record of the block in front
  pub front_block : (k u : ℕ) (x : BlockOf) → prefix_of s.tables k ≡ Some u → slice_get code.blocks (block_number s u) ≡ Some x → block_in_front s code k ≡ Some x
  unfolding block_in_front
  front_block k u x e found = ap (block_of_text s code) e ∙ found

  -- the frames of a text have all that those of its levels have, and as much room for operands
  pub level_types : (own k : ℕ) (b x : BlockOf) → LevelOf s.tables own k → slice_get code.blocks (block_number s own) ≡ Some b → slice_get code.blocks (block_number s k) ≡ Some x → (rest : List CodeType) × (b.types ≡ x.types ++ rest)
  level_types own k b x innermost eb ex =
      let same : b ≡ x = same_some (slice_get code.blocks (block_number s own)) b x eb ex in
      ([], ap (λ z. z.types) same ∙ sym (append-nil x.types))
  level_types own k b x (outer {u = u} e p) eb ex =
      let there = compiled.agrees.prefixes own u e in
      let r = levels_recorded own there.has in
      let v = class_recorded u there.class in
      let same : b ≡ r.block = same_some (slice_get code.blocks (block_number s own)) b r.block eb r.found in
      let more = level_types u k v.block x p v.found ex in
      let own_types : List CodeType = map type_of_cell (own_part s own) ++ r.temps in
      (more.0 ++ own_types, ap (λ z. z.types) same ∙ r.types ∙ ap (λ z. types_in z ++ own_types) (front_block own u v.block e v.found) ∙ ap (λ z. z ++ own_types) more.1 ∙ append_assoc x.types more.0 own_types)

  pub level_longer : (own k : ℕ) (b x : BlockOf) → LevelOf s.tables own k → slice_get code.blocks (block_number s own) ≡ Some b → slice_get code.blocks (block_number s k) ≡ Some x → length x.types ≤ length b.types
  level_longer own k b x p eb ex =
      let y = level_types own k b x p eb ex in
      let e = ap length y.1 in
      let n = length-append x.types y.0 in
      omega (arith, e, n)

  pub level_room : (own k : ℕ) (b x : BlockOf) → LevelOf s.tables own k → slice_get code.blocks (block_number s own) ≡ Some b → slice_get code.blocks (block_number s k) ≡ Some x → x.room ≤ b.room
  level_room own k b x innermost eb ex =
      let same : b ≡ x = same_some (slice_get code.blocks (block_number s own)) b x eb ex in
      let e = ap (λ z. z.room) same in
      omega (arith, e)
  level_room own k b x (outer {u = u} e p) eb ex =
      let there = compiled.agrees.prefixes own u e in
      let r = levels_recorded own there.has in
      let v = class_recorded u there.class in
      let same : b ≡ r.block = same_some (slice_get code.blocks (block_number s own)) b r.block eb r.found in
      let equal = ap (λ z. z.room) same in
      let more = level_room u k v.block x p v.found ex in
      let front : v.block.room ≤ r.block.room = subst (λ z. room_of_block z ≤ r.block.room) (front_block own u v.block e v.found) r.roomy in
      omega (arith, equal, more, front)

  -- the own part of a text lies within its frames
  pub part_within : (k : ℕ) (r : Recorded k) → own_end s code k ≤ length r.block.types
  part_within k r =
      let e = ap length r.types in
      let n = length-append (types_in (block_in_front s code k)) (map type_of_cell (own_part s k) ++ r.temps) in
      let m = length-append (map type_of_cell (own_part s k)) r.temps in
      let p = length-map (own_part s k) type_of_cell in
      omega (arith, e, n, m, p)

  -- behind all that another level has that is in front of it
  pub starts_behind : (t u : ℕ) (x : BlockOf) → LevelOf s.tables t u → t ≢ u → slice_get code.blocks (block_number s u) ≡ Some x → length x.types ≤ start_of s code t
  starts_behind t u x innermost other ex = absurd (other refl)
  starts_behind t u x (outer {u = v} e p) other ex =
      let y = class_recorded v (compiled.agrees.prefixes t v e).class in
      let long = level_longer v u y.block x p y.found ex in
      let start : start_of s code t ≡ length y.block.types = ap (λ z. length (types_in z)) (front_block t v y.block e y.found) in
      omega (arith, long, start)

  pub slot_within : (t : ℕ) (key : Key) → HasCell s t key → slot_of s code t key < own_end s code t
  unfolding slot_of
  slot_within t key has = omega (arith, has)

  pub slot_behind : (t : ℕ) (key : Key) → start_of s code t ≤ slot_of s code t key
  unfolding slot_of
  slot_behind t key = omega arith

  one_place : (t : ℕ) (k l : Key) → HasCell s t k → slot_of s code t k ≡ slot_of s code t l → k ≡ l
  unfolding slot_of
  one_place t k l has e = place_injective (own_part s t) k l (omega (arith, e)) has

  same_slot : (t u : ℕ) (k l : Key) → Recorded u → LevelOf s.tables t u → HasCell s t k → HasCell s u l → slot_of s code t k ≡ slot_of s code u l → k ≡ l
  same_slot t u k l r p ht hu e =
      ⊎_elim (λ same. one_place t k l ht (e ∙ ap (λ z. slot_of s code z l) (sym same)))
      (λ other. let a = starts_behind t u r.block p other r.found in
      let b = part_within u r in
      let c = slot_within u l hu in
      let d = slot_behind t k in
      let no : ⊥ = omega (arith, a, b, c, d, e) in
      absurd no) (cases_eq t u)

  no_temp : (t f temp : ℕ) (k : Key) (b : BlockOf) → Recorded t → LevelOf s.tables t f ⊎ LevelOf s.tables f t → HasCell s t k → slice_get code.blocks (block_number s f) ≡ Some b → own_end s code f ≤ temp → temp < length b.types → slot_of s code t k ≢ temp
  no_temp t f temp k b r p has found behind within e =
      let c = slot_within t k has in
      ⊎_elim
      (λ same. let behind' : own_end s code t ≤ temp = subst (λ z. own_end s code z ≤ temp) (sym same) behind in omega (arith, c, behind', e))
      (λ other.
      ⊎_elim
      (λ q. let a = starts_behind t f b q other found in
      let d = slot_behind t k in
      omega (arith, a, d, within, e))
      (λ q. let a = starts_behind f t r.block q (λ same. other (sym same)) r.found in
      let d = part_within t r in
      let g : start_of s code f ≤ own_end s code f = omega arith in
      omega (arith, a, c, d, g, behind, e)) p) (cases_eq t f)

  -- a temp of the expressions of a level is no temp of the statements of any level
  apart_temps : (own t u c d : ℕ) (x y : BlockOf) → LevelOf s.tables own t → LevelOf s.tables own u → slice_get code.blocks (block_number s t) ≡ Some x → slice_get code.blocks (block_number s u) ≡ Some y → own_end s code t ≤ c → c < own_end s code t + expression_temps → c < length x.types → own_end s code u + expression_temps ≤ d → d < length y.types → c ≢ d
  apart_temps own t u c d x y p q ex ey low high within behind inside e =
      ⊎_elim
      (λ same. let behind' : own_end s code t + expression_temps ≤ d = subst (λ z. own_end s code z + expression_temps ≤ d) (sym same) behind in omega (arith, high, behind', e))
      (λ other.
      ⊎_elim
      (λ h. let a = starts_behind t u y h other ey in
      let g : start_of s code t ≤ own_end s code t = omega arith in
      omega (arith, a, g, low, inside, e))
      (λ h. let a = starts_behind u t x h (λ same. other (sym same)) ex in
      let g : start_of s code u ≤ own_end s code u = omega arith in
      omega (arith, a, g, within, behind, e)) (level_either s.tables own t u p q)) (cases_eq t u)

  -- the frames of a text are laid out
  pub laid : (own : ℕ) (x : Text) → text s own ≡ Some x → is_connection_text (Some x) ≡ false → Laid s code own
  laid own x is c =
      let r = recorded own x is c in
      record {
        one_level = λ t u key p q ht hu. only_level s compiled.agrees own t u key p q ht hu;
        one_key = λ t u k l p q ht hu e. ⊎_elim (λ y. same_slot t u k l (level_recorded own u r q) y ht hu e) (λ y. sym (same_slot u t l k (level_recorded own t r p) y hu ht (sym e))) (level_either s.tables own t u p q);
        apart = λ t u temp k b p q has found temps. no_temp t (frame_text s u) temp k b (level_recorded own t r p) (level_either s.tables own t (frame_text s u) p q) has found temps.behind temps.within;
        temps_apart = λ t u c d x y p q ex ey low high within temps. apart_temps own (frame_text s t) (frame_text s u) c d x y p q ex ey low high within temps.behind temps.within;
        fits = λ t k b p has found. let y = level_recorded own t r p in let a = slot_within t k has in let d = part_within t y in let g = level_longer own t b y.block p found y.found in omega (arith, a, d, g);
        longer = λ t x b p ex eb. level_longer own t b x p eb ex;
        block = (r.block, r.found);
      }
