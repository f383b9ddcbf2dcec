-- The class `process` of a simulation block is the same on both sides: code finds it four blocks behind that of a level where the meaning finds it
-- four texts behind that level.
use Rattle.std.proofs.Common.{◌≡◌, ◌<◌, ◌≤◌, ◌+◌, ℕ, zero, suc, Bool, true, false, List, [], ◌∷◌, length, map, Option, Some, None, ⊎_elim, refl, sym, ap, ◌∙◌, subst, arith}
use Rattle.std.proofs.lemmas.Bool.{cases_lt}
use Rattle.std.proofs.lemmas.Option.{slice_get_within}
use Rattle.std.specs.Option.{option_map}
use Rattle.std.specs.Prelude.{◌==◌, slice_get}
use Rattle.sim_scope.specs.declared.types.StandardClass.TheVariants as standard
use Rattle.sim_scope.specs.Source.{Source}
use Rattle.sim_scope.specs.Tables as scope
use Rattle.sim_code.specs.declared.code.BlockKind.{BlockKind}
use Rattle.sim_code.specs.declared.code.BlockKind.TheVariants as kind
use Rattle.sim_code.specs.Classes.{class_if, class_numbered, is_mark_of, is_marked_in, or_else, process_among, process_behind, process_class, process_mark, process_of_levels}
use Rattle.sim_code.specs.Code.{BlockOf, CodeOf}
use Rattle.sim_meaning.specs.Attributes.{is_connection}
use Rattle.sim_meaning.specs.Levels.{has_levels, is_class, is_process_class, is_standard_text, levels_of, process_if}
use Rattle.sim_meaning.specs.Levels as meaning
use Rattle.sim_meaning.specs.Texts.{BlockText, ClassText, ConnectionText, PrefixedText, ProcedureText, StandardText, Text, program_texts, text}
use Rattle.codegen_expr.specs.Sites.{block_number, blocks_before, class_number, counted_unless, is_connected, prefix_of}
use Rattle.codegen_expr.specs.Sites as sites
use Rattle.codegen.specs.Agrees.{ProcessBrought}
use Rattle.codegen.specs.Compiled.{CodeHas, Compiled, Marked, TextCode, mark_of}
use Rattle.sim_relate.proofs.ClassLevels.{level_levels, levels_numbers, levels_solid, number_is, numbered, one_number, row_there}
use Rattle.sim_relate.proofs.ClassTexts.{class_has}
use Rattle.sim_relate.proofs.Known.{is_process_in}
use Rattle.sim_relate.proofs.LevelLists.{levels_first, place_level}
use Rattle.sim_relate.proofs.Lists.{there_get}

-- ---- numbers of blocks

counted_next : (c : Bool) (n : ℕ) → counted_unless c (suc n) ≡ suc (counted_unless c n)
counted_next true n = refl
counted_next false n = refl

-- behind a text that is no connection
next_number : (k : ℕ) (blocks : List scope.BlockOf) (row : scope.BlockOf) → slice_get blocks k ≡ Some row → sites.is_connection row.kind ≡ false → blocks_before (suc k) blocks ≡ suc (blocks_before k blocks)
next_number k [] row e solid = absurd (cc (e))
next_number zero (b ∷ bs) row e solid =
    let same : b ≡ row = cc (e) in
    ap (λ z. counted_unless (sites.is_connection z.kind) (blocks_before 0 bs)) same ∙ ap (λ c. counted_unless c (blocks_before 0 bs)) solid
next_number (suc k) (b ∷ bs) row e solid =
    ap (counted_unless (sites.is_connection b.kind)) (next_number k bs row e solid) ∙ counted_next (sites.is_connection b.kind) (blocks_before k bs)

-- behind all texts
pub beyond : (k : ℕ) (blocks : List scope.BlockOf) → length blocks ≤ k → blocks_before k blocks ≡ blocks_before (length blocks) blocks
beyond zero [] le = refl
beyond (suc k) [] le = refl
beyond zero (b ∷ bs) le = let no : ⊥ = omega (arith, le) in absurd no
beyond (suc k) (b ∷ bs) le = ap (counted_unless (sites.is_connection b.kind)) (beyond k bs (omega (arith, le)))

-- each number of a block is that of a text
record TextNumbered (n : ℕ) (blocks : List scope.BlockOf) : Type 0 where
  text : ℕ
  row : scope.BlockOf
  there : slice_get blocks text ≡ Some row
  solid : sites.is_connection row.kind ≡ false
  number : blocks_before text blocks ≡ n

text_numbered : (n : ℕ) (blocks : List scope.BlockOf) → n < blocks_before (length blocks) blocks → TextNumbered n blocks
text_numbered n [] lt = let no : ⊥ = omega (arith, lt) in absurd no
text_numbered n (b ∷ bs) lt = by (sites.is_connection b.kind) refl n lt (λ k less. text_numbered k bs less)
  where
    by : (c : Bool) → sites.is_connection b.kind ≡ c → (n : ℕ) → n < counted_unless c (blocks_before (length bs) bs) → ((k : ℕ) → k < blocks_before (length bs) bs → TextNumbered k bs) → TextNumbered n (b ∷ bs)
    by true e n lt rest =
        let x = rest n lt in
        record { text = suc x.text; row = x.row; there = x.there; solid = x.solid; number = ap (λ c. counted_unless c (blocks_before x.text bs)) e ∙ x.number }
    by false e zero lt rest = record { text = 0; row = b; there = refl; solid = e; number = refl }
    by false e (suc n) lt rest =
        let x = rest n (omega (arith, lt)) in
        record { text = suc x.text; row = x.row; there = x.there; solid = x.solid; number = ap (λ c. counted_unless c (blocks_before x.text bs)) e ∙ ap (λ z. suc z) x.number }

-- ---- the class behind a level

-- a marked block is one of objects
record Mark (b : BlockOf) : Type 0 where
  object : b.kind ≡ kind.Object
  entry : b.entry ≡ process_mark

marked : (b : BlockOf) → is_mark_of process_mark b.kind b.entry ≡ true → Mark b
marked b e = by b.kind refl e
  where
    by : (x : BlockKind) → b.kind ≡ x → is_mark_of process_mark x b.entry ≡ true → Mark b
    by kind.Object f e = record { object = f; entry = grind (arith, e) }
    by kind.SubBlock f e = absurd (cc (e))
    by kind.Procedure f e = absurd (cc (e))
    by kind.Prefixed f e = absurd (cc (e))

object_marked : (b : BlockOf) → b.kind ≡ kind.Object → b.entry ≡ process_mark → is_mark_of process_mark b.kind b.entry ≡ true
object_marked b e f = ap (λ z. is_mark_of process_mark z b.entry) e ∙ ap (λ n. n == process_mark) f

-- a text of that class
pub process_text : (o : Option Text) → is_standard_text is_process_class o ≡ true → o ≡ Some (StandardText standard.Process)
process_text None e = absurd (cc (e))
process_text (Some (BlockText begin ds ss)) e = absurd (cc (e))
process_text (Some (ProcedureText result f a)) e = absurd (cc (e))
process_text (Some (ClassText prefix f ds ss)) e = absurd (cc (e))
process_text (Some (PrefixedText class es ds ss)) e = absurd (cc (e))
process_text (Some ConnectionText) e = absurd (cc (e))
process_text (Some (StandardText standard.Process)) e = refl
process_text (Some (StandardText standard.Linkage)) e = absurd (cc (e))
process_text (Some (StandardText standard.Link)) e = absurd (cc (e))
process_text (Some (StandardText standard.Head)) e = absurd (cc (e))

module _ (s : Source) (code : CodeOf) (compiled : Compiled s code) where
  abbrev Levelled : ℕ → Type 0
  Levelled k = has_levels (text s k) ≡ true

  one_further : (k : ℕ) → Levelled k → block_number s (suc k) ≡ suc (block_number s k)
  unfolding block_number
  one_further k h = let x = row_there s code compiled k h in next_number k s.tables.blocks x.row x.there x.unconnected

  -- the classes of `simulation` are directly behind
  four_further : (k : ℕ) (x : ProcessBrought s k) → block_number s k ≡ block_number s x.block + 4
  four_further k x =
      let n = x.block in
      let a = one_further n x.has in
      let b = one_further (n + 1) (ap has_levels x.linkage) in
      let c = one_further (n + 2) (ap has_levels x.link) in
      let d = one_further (n + 3) (ap has_levels x.head) in
      let at1 : block_number s (n + 1) ≡ block_number s (suc n) = ap (block_number s) (omega arith) in
      let at2 : block_number s (n + 2) ≡ block_number s (suc (n + 1)) = ap (block_number s) (omega arith) in
      let at3 : block_number s (n + 3) ≡ block_number s (suc (n + 2)) = ap (block_number s) (omega arith) in
      let at4 : block_number s (n + 4) ≡ block_number s (suc (n + 3)) = ap (block_number s) (omega arith) in
      let is = ap (block_number s) x.is in
      omega (arith, a, b, c, d, at1, at2, at3, at4, is)

  -- ---- a block with the mark is that of a class `process`

  is_process : (k : ℕ) (x : Text) → text s k ≡ Some x → (b : BlockOf) → Mark b → TextCode s code k x b → text s k ≡ Some (StandardText standard.Process)
  is_process zero (BlockText begin ds ss) is b m has = absurd (cc (sym has.heads.is_kind ∙ m.object))
  is_process (suc k) (BlockText begin ds ss) is b m has = absurd (cc (sym has.heads.is_kind ∙ m.object))
  is_process k (ProcedureText result h a) is b m has = absurd (cc (sym has.heads.is_kind ∙ m.object))
  is_process zero (ClassText prefix h ds ss) is b m has = absurd has
  is_process (suc k) (ClassText prefix h ds ss) is b m has = absurd (cc (sym (has.marked ∙ ap mark_of is) ∙ m.entry))
  is_process zero (PrefixedText class arguments ds ss) is b m has = absurd (cc (sym has.heads.is_kind ∙ m.object))
  is_process (suc k) (PrefixedText class arguments ds ss) is b m has = absurd (cc (sym has.heads.is_kind ∙ m.object))
  is_process k ConnectionText is b m has = absurd has
  is_process zero (StandardText which) is b m has = absurd has
  is_process (suc k) (StandardText standard.Process) is b m has = is
  is_process (suc k) (StandardText standard.Linkage) is b m has = absurd (cc (sym (has.marked ∙ ap mark_of is) ∙ m.entry))
  is_process (suc k) (StandardText standard.Link) is b m has = absurd (cc (sym (has.marked ∙ ap mark_of is) ∙ m.entry))
  is_process (suc k) (StandardText standard.Head) is b m has = absurd (cc (sym (has.marked ∙ ap mark_of is) ∙ m.entry))

  text_coded : (k : ℕ) (x : Text) → text s k ≡ Some x → is_connection (text s k) ≡ false → (b : BlockOf) → Mark b → (o : Option BlockOf) → o ≡ Some b → CodeHas s code k x o → text s k ≡ Some (StandardText standard.Process)
  text_coded k x is solid b m None e has = absurd (cc (e))
  text_coded k ConnectionText is solid b m (Some c) e has = absurd (cc (sym (ap is_connection is) ∙ solid))
  text_coded k (BlockText begin ds ss) is solid b m (Some c) e has = is_process k _ is b m (subst (λ z. TextCode s code k (BlockText begin ds ss) z) (cc (e)) has)
  text_coded k (ProcedureText result h a) is solid b m (Some c) e has = is_process k _ is b m (subst (λ z. TextCode s code k (ProcedureText result h a) z) (cc (e)) has)
  text_coded k (ClassText prefix h ds ss) is solid b m (Some c) e has = is_process k _ is b m (subst (λ z. TextCode s code k (ClassText prefix h ds ss) z) (cc (e)) has)
  text_coded k (PrefixedText class arguments ds ss) is solid b m (Some c) e has = is_process k _ is b m (subst (λ z. TextCode s code k (PrefixedText class arguments ds ss) z) (cc (e)) has)
  text_coded k (StandardText which) is solid b m (Some c) e has = is_process k _ is b m (subst (λ z. TextCode s code k (StandardText which) z) (cc (e)) has)

  -- the text of a block with the mark
  record ProcessAt (n : ℕ) : Type 0 where
    text' : ℕ
    is : text s text' ≡ Some (StandardText standard.Process)
    number : block_number s text' ≡ n

  process_at : (n : ℕ) (b : BlockOf) → slice_get code.blocks n ≡ Some b → is_mark_of process_mark b.kind b.entry ≡ true → ProcessAt n
  unfolding block_number text is_connected
  process_at n b e m =
      let lt = slice_get_within code.blocks n b e in
      let many = compiled.as_many in
      let x = text_numbered n s.tables.blocks (omega (arith, lt, many)) in
      let lt' = slice_get_within s.tables.blocks x.text x.row x.there in
      let n' = compiled.agrees.as_many in
      let y = there_get (program_texts s.program.prefix s.program.block) x.text (omega (arith, lt', n')) in
      let solid = sym (compiled.agrees.connected x.text) ∙ ap sites.connects x.there ∙ x.solid in
      record {
        text' = x.text;
        is = text_coded x.text y.0 y.1 solid b (marked b m) (slice_get code.blocks (block_number s x.text)) (ap (slice_get code.blocks) x.number ∙ e) (compiled.each x.text y.0 y.1);
        number = x.number;
      }

  -- two texts with levels and one number are one
  one_text : (k u : ℕ) → Levelled k → Levelled u → block_number s k ≡ block_number s u → k ≡ u
  one_text k u h g same =
      ⊎_elim (λ lt. absurd (one_number s code compiled k u h g same lt)) (λ ge. ⊎_elim (λ lt. absurd (one_number s code compiled u k g h (sym same) lt)) (λ le. omega (arith, ge, le)) (cases_lt u k)) (cases_lt k u)

  none_behind : (k : ℕ) → Levelled k → is_process_in s (k + 4) ≡ false → (o : Option BlockOf) → slice_get code.blocks (block_number s k + 4) ≡ o → class_if (is_marked_in process_mark o) o ≡ None
  none_behind k h e None f = refl
  none_behind k h e (Some b) f = by (is_mark_of process_mark b.kind b.entry) refl
    where
      by : (c : Bool) → is_mark_of process_mark b.kind b.entry ≡ c → class_if c (Some b) ≡ None
      by false g = refl
      by true g =
          let x = process_at (block_number s k + 4) b f g in
          let y = compiled.agrees.processes x.text' x.is in
          let four = four_further x.text' y in
          let n = x.number in
          let same : block_number s k ≡ block_number s y.block = omega (arith, four, n) in
          let one = one_text k y.block h y.has same in
          absurd (cc (sym (ap (λ z. is_process_in s (z + 4)) one ∙ sym (ap (is_process_in s) y.is) ∙ ap (is_standard_text is_process_class) x.is) ∙ e))

  -- ---- of a level

  behind_record : (k : ℕ) → Levelled k → process_behind code (class_numbered code (class_number s code k)) ≡ class_if (is_marked_in process_mark (slice_get code.blocks (block_number s k + 4))) (slice_get code.blocks (block_number s k + 4))
  behind_record k h =
      let x = class_has s code compiled k h in
      ap (process_behind code) (numbered s code compiled k x) ∙ ap (λ n. class_if (is_marked_in process_mark (slice_get code.blocks (n + 4))) (slice_get code.blocks (n + 4))) x.has.is.of_block

  some_there : (k : ℕ) → Levelled k → text s (k + 4) ≡ Some (StandardText standard.Process) → process_behind code (class_numbered code (class_number s code k)) ≡ Some (class_number s code (k + 4))
  some_there k g is =
      let y = compiled.agrees.processes (k + 4) is in
      let there = y.is in
      let one : k ≡ y.block = omega (arith, there) in
      let h : Levelled (k + 4) = ap has_levels is in
      let c : is_class (text s (k + 4)) ≡ true = ap is_class is in
      let x = class_has s code compiled (k + 4) h in
      let number : block_number s k + 4 ≡ block_number s (k + 4) = ap (λ z. block_number s z + 4) one ∙ sym (four_further (k + 4) y) in
      let found : slice_get code.blocks (block_number s k + 4) ≡ Some x.block = ap (slice_get code.blocks) number ∙ x.found in
      let object = x.of_class c in
      let entry : x.block.entry ≡ mark_of (text s (k + 4)) = subst (λ z. Marked z (mark_of (text s (k + 4))) x.block.entry) object x.has.marked in
      behind_record k g ∙ ap (λ o. class_if (is_marked_in process_mark o) o) found ∙
      ap (λ b. class_if b (Some x.block)) (object_marked x.block (x.has.heads.is_kind ∙ object) (entry ∙ ap mark_of is)) ∙ ap Some (sym (number_is s code compiled (k + 4) x))

  behind_same : (k : ℕ) → Levelled k → process_behind code (class_numbered code (class_number s code k)) ≡ option_map (class_number s code) (meaning.process_behind s k)
  behind_same k h = by (is_process_in s (k + 4)) refl
    where
      by : (c : Bool) → is_process_in s (k + 4) ≡ c → process_behind code (class_numbered code (class_number s code k)) ≡ option_map (class_number s code) (meaning.process_behind s k)
      by true e = some_there k h (process_text (text s (k + 4)) e) ∙ sym (ap (λ b. option_map (class_number s code) (process_if b (k + 4))) e)
      by false e = behind_record k h ∙ none_behind k h e (slice_get code.blocks (block_number s k + 4)) refl ∙ sym (ap (λ b. option_map (class_number s code) (process_if b (k + 4))) e)

  -- ---- of all levels

  or_same : (x y : Option ℕ) → or_else (option_map (class_number s code) x) (option_map (class_number s code) y) ≡ option_map (class_number s code) (meaning.or_else x y)
  or_same None y = refl
  or_same (Some k) y = refl

  among_same : (ks : List ℕ) → ((n k : ℕ) → slice_get ks n ≡ Some k → Levelled k) → process_among code (map (class_number s code) ks) ≡ option_map (class_number s code) (meaning.process_among s ks)
  among_same [] h = refl
  among_same (k ∷ ks) h =
      ap (λ z. or_else z (process_among code (map (class_number s code) ks))) (behind_same k (h 0 k refl)) ∙
      ap (or_else (option_map (class_number s code) (meaning.process_behind s k))) (among_same ks (λ n j e. h (suc n) j e)) ∙ or_same (meaning.process_behind s k) (meaning.process_among s ks)

  -- both sides have the same class `process`
  pub process_same : (k : ℕ) → Levelled k → process_class code (class_number s code k) ≡ option_map (class_number s code) (meaning.process_class s k)
  unfolding process_class meaning.process_class
  process_same k h =
      ap (process_of_levels code) (levels_numbers s code compiled k h) ∙
      among_same (levels_of s k) (λ n j e. level_levels s code compiled k j (place_level s compiled.agrees k j n (levels_solid s code compiled k h) e).0 h)

  -- it is the text of a class `process`
  process_behind_is : (k p : ℕ) → meaning.process_behind s k ≡ Some p → (p ≡ k + 4) × (is_process_in s p ≡ true)
  process_behind_is k p e = by (is_process_in s (k + 4)) refl e
    where
      by : (c : Bool) → is_process_in s (k + 4) ≡ c → process_if c (k + 4) ≡ Some p → (p ≡ k + 4) × (is_process_in s p ≡ true)
      by true f e = let same : k + 4 ≡ p = cc (e) in (sym same, ap (is_process_in s) (sym same) ∙ f)
      by false f e = absurd (cc (e))

  among_is : (ks : List ℕ) (p : ℕ) → meaning.process_among s ks ≡ Some p → is_process_in s p ≡ true
  among_is [] p e = absurd (cc (e))
  among_is (k ∷ ks) p e = by (meaning.process_behind s k) refl (λ f. among_is ks p f) e
    where
      by : (o : Option ℕ) → meaning.process_behind s k ≡ o → (meaning.process_among s ks ≡ Some p → is_process_in s p ≡ true) → meaning.or_else o (meaning.process_among s ks) ≡ Some p → is_process_in s p ≡ true
      by None f more e = more e
      by (Some u) f more e = (process_behind_is k p (f ∙ e)).1

  pub process_there : (own p : ℕ) → meaning.process_class s own ≡ Some p → is_process_in s p ≡ true
  unfolding meaning.process_class
  process_there own p e = among_is (levels_of s own) p e

  -- what has no levels is no simulation block
  pub no_process : (k : ℕ) → is_connected s.tables k ≡ false → has_levels (text s k) ≡ false → meaning.process_class s k ≡ None
  unfolding meaning.process_class
  no_process k solid h =
      ap (meaning.process_among s) (levels_first s compiled.agrees k (none_in_front (prefix_of s.tables k) refl) solid) ∙ by (meaning.process_behind s k) refl
    where
      none_in_front : (o : Option ℕ) → prefix_of s.tables k ≡ o → prefix_of s.tables k ≡ None
      none_in_front None e = e
      none_in_front (Some u) e = let yes = (compiled.agrees.prefixes k u e).has in absurd (cc (sym yes ∙ h))

      by : (o : Option ℕ) → meaning.process_behind s k ≡ o → meaning.or_else (meaning.process_behind s k) None ≡ None
      by None e = ap (λ z. meaning.or_else z None) e
      by (Some p) e =
          let x = process_behind_is k p e in
          let y = compiled.agrees.processes p (process_text (text s p) x.1) in
          let at = x.0 in
          let is = y.is in
          let one : k ≡ y.block = omega (arith, at, is) in
          absurd (cc (sym (ap (λ z. has_levels (text s z)) one ∙ y.has) ∙ h))
