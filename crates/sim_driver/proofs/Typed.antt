-- Each block of the code for a program has a type for each of its cells and temps: it is the block of a text.
use Rattle.std.proofs.Common.{◌≡◌, ◌<◌, ℕ, zero, suc, Bool, true, false, List, [], ◌∷◌, length, Option, Some, None, refl, sym, ap, ◌∙◌, subst, arith}
use Rattle.std.specs.List.{AllByRecursion}
use Rattle.std.proofs.lemmas.Option.{slice_get_within}
use Rattle.std.specs.Prelude.{slice_get}
use Rattle.code_file.specs.Spelling.{HasTypes}
use Rattle.sim_scope.specs.declared.types.StandardClass.TheVariants as standard
use Rattle.sim_scope.specs.Source.{Source}
use Rattle.sim_scope.specs.Tables as scope
use Rattle.sim_code.specs.Code.{BlockOf, CodeOf}
use Rattle.sim_meaning.specs.Attributes.{is_connection}
use Rattle.sim_meaning.specs.Texts.{BlockText, ClassText, ConnectionText, PrefixedText, ProcedureText, StandardText, Text, program_texts, text}
use Rattle.codegen_expr.specs.Sites.{block_number, blocks_before, counted_unless, is_connected}
use Rattle.codegen_expr.specs.Sites as sites
use Rattle.codegen.specs.Compiled.{CodeHas, Compiled, TextCode}

-- each number of a block is that of a text
record TextNumbered (n : ℕ) (blocks : List scope.BlockOf) : Type 0 where
  text_at : ℕ
  row : scope.BlockOf
  there : slice_get blocks text_at ≡ Some row
  solid : sites.is_connection row.kind ≡ false
  number : blocks_before text_at blocks ≡ n

text_numbered : (n : ℕ) (blocks : List scope.BlockOf) → n < blocks_before (length blocks) blocks → TextNumbered n blocks
text_numbered n [] lt = let no : ⊥ = omega (arith, lt) in absurd no
text_numbered n (b ∷ bs) lt = by (sites.is_connection b.kind) refl n lt (λ k less. text_numbered k bs less)
  where
    by : (c : Bool) → sites.is_connection b.kind ≡ c → (n : ℕ) → n < counted_unless c (blocks_before (length bs) bs) → ((k : ℕ) → k < blocks_before (length bs) bs → TextNumbered k bs) → TextNumbered n (b ∷ bs)
    by true e n lt rest =
        let x = rest n lt in
        record { text_at = suc x.text_at; row = x.row; there = x.there; solid = x.solid; number = ap (λ c. counted_unless c (blocks_before x.text_at bs)) e ∙ x.number }
    by false e zero lt rest = record { text_at = 0; row = b; there = refl; solid = e; number = refl }
    by false e (suc n) lt rest =
        let x = rest n (omega (arith, lt)) in
        record { text_at = suc x.text_at; row = x.row; there = x.there; solid = x.solid; number = ap (λ c. counted_unless c (blocks_before x.text_at bs)) e ∙ ap (λ z. suc z) x.number }

-- within a list there is something
there_get : {A : Type 0} (xs : List A) (k : ℕ) → k < length xs → (x : A) × slice_get xs k ≡ Some x
there_get [] k lt = let no : ⊥ = omega (arith, lt) in absurd no
there_get (x ∷ xs) zero lt = (x, refl)
there_get (x ∷ xs) (suc k) lt = there_get xs k (omega (arith, lt))

-- what holds at each number holds of all
all_of : {A : Type 0} (P : A → Type 0) (xs : List A) → ((k : ℕ) (x : A) → slice_get xs k ≡ Some x → P x) → AllByRecursion P xs
all_of P [] each = tt
all_of P (x ∷ xs) each = (each 0 x refl, all_of P xs (λ k y e. each (suc k) y e))

module _ (s : Source) (code : CodeOf) (compiled : Compiled s code) where
  typed_block : (k : ℕ) (x : Text) → (b : BlockOf) → TextCode s code k x b → HasTypes b
  typed_block zero (BlockText begin ds ss) b has = sym has.heads.counted
  typed_block (suc k) (BlockText begin ds ss) b has = sym has.heads.counted
  typed_block k (ProcedureText result h a) b has = sym has.heads.counted
  typed_block zero (ClassText prefix h ds ss) b has = absurd has
  typed_block (suc k) (ClassText prefix h ds ss) b has = sym has.heads.counted
  typed_block zero (PrefixedText class arguments ds ss) b has = sym has.heads.counted
  typed_block (suc k) (PrefixedText class arguments ds ss) b has = sym has.heads.counted
  typed_block k ConnectionText b has = absurd has
  typed_block zero (StandardText which) b has = absurd has
  typed_block (suc k) (StandardText standard.Process) b has = sym has.heads.counted
  typed_block (suc k) (StandardText standard.Linkage) b has = sym has.heads.counted
  typed_block (suc k) (StandardText standard.Link) b has = sym has.heads.counted
  typed_block (suc k) (StandardText standard.Head) b has = sym has.heads.counted

  typed_text : (k : ℕ) (x : Text) → text s k ≡ Some x → is_connection (text s k) ≡ false → (b : BlockOf) (o : Option BlockOf) → o ≡ Some b → CodeHas s code k x o → HasTypes b
  typed_text k x is solid b None e has = absurd (cc (e))
  typed_text k ConnectionText is solid b (Some c) e has = absurd (cc (sym (ap is_connection is) ∙ solid))
  typed_text k (BlockText begin ds ss) is solid b (Some c) e has = typed_block k (BlockText begin ds ss) b (subst (λ z. TextCode s code k (BlockText begin ds ss) z) (cc (e)) has)
  typed_text k (ProcedureText result h a) is solid b (Some c) e has = typed_block k (ProcedureText result h a) b (subst (λ z. TextCode s code k (ProcedureText result h a) z) (cc (e)) has)
  typed_text k (ClassText prefix h ds ss) is solid b (Some c) e has = typed_block k (ClassText prefix h ds ss) b (subst (λ z. TextCode s code k (ClassText prefix h ds ss) z) (cc (e)) has)
  typed_text k (PrefixedText class arguments ds ss) is solid b (Some c) e has = typed_block k (PrefixedText class arguments ds ss) b (subst (λ z. TextCode s code k (PrefixedText class arguments ds ss) z) (cc (e)) has)
  typed_text k (StandardText which) is solid b (Some c) e has = typed_block k (StandardText which) b (subst (λ z. TextCode s code k (StandardText which) z) (cc (e)) has)

  typed_at : (n : ℕ) (b : BlockOf) → slice_get code.blocks n ≡ Some b → HasTypes b
  unfolding block_number text is_connected
  typed_at n b e =
      let lt = slice_get_within code.blocks n b e in
      let many = compiled.as_many in
      let x = text_numbered n s.tables.blocks (omega (arith, lt, many)) in
      let lt' = slice_get_within s.tables.blocks x.text_at x.row x.there in
      let n' = compiled.agrees.as_many in
      let y = there_get (program_texts s.program.prefix s.program.block) x.text_at (omega (arith, lt', n')) in
      let solid = sym (compiled.agrees.connected x.text_at) ∙ ap sites.connects x.there ∙ x.solid in
      typed_text x.text_at y.0 y.1 solid b (slice_get code.blocks (block_number s x.text_at)) (ap (slice_get code.blocks) x.number ∙ e) (compiled.each x.text_at y.0 y.1)

-- a code file says each block
pub has_types : (s : Source) (code : CodeOf) → Compiled s code → AllByRecursion HasTypes code.blocks
has_types s code compiled = all_of HasTypes code.blocks (λ n b e. typed_at s code compiled n b e)
