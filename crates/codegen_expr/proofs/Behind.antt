-- Standard names, and names of texts behind their text.
use Rattle.std.proofs.Common.{◌≡◌, ◌+◌, ◌≢◌, ◌<◌, ◌-◌, ℕ, pos, suc, Bool, true, false, List, [], ◌∷◌, length, map, Option, Some, None, refl, sym, ap, ◌∙◌, subst, arith}
use Rattle.std.specs.Prelude.{⊤, slice_get}
use Rattle.sim_base.specs.declared.numbering.DeclNo.{DeclNo}
use Rattle.sim_base.specs.declared.numbering.TokenNo.{TokenNo}
use Rattle.sim_scope.specs.declared.bound.Bound.{Bound}
use Rattle.sim_scope.specs.declared.scopes.Denotation.{Denotation}
use Rattle.sim_scope.specs.declared.scopes.Denotation.TheVariants as denotation
use Rattle.sim_scope.specs.declared.standard.StandardName.{StandardName}
use Rattle.sim_scope.specs.declared.types.Entry.{Entry}
use Rattle.sim_scope.specs.declared.types.Entry.TheVariants as entry
use Rattle.sim_scope.specs.declared.types.FormalKind.{FormalKind}
use Rattle.sim_scope.specs.declared.types.FormalKind.TheVariants as shape
use Rattle.sim_scope.specs.declared.types.Mode.{Mode}
use Rattle.sim_scope.specs.declared.types.Mode.TheVariants as mode
use Rattle.sim_scope.specs.Scopes.{entry_of}
use Rattle.sim_scope.specs.Source.{block_of, denoted, level_of, line_at, source_of}
use Rattle.sim_tree.specs.declared.expr.Expr.{Expr}
use Rattle.sim_tree.specs.declared.expr.Identifier.{Identifier}
use Rattle.sim_tree.specs.Syntax.{Binary, Constant, Dot, Expression, Expressions, If, Member, Named, New, NoMore, Not, Parentheses, Qua, Signed, Then, This, expressions}
use Rattle.sim_tree.specs.SyntaxOf.{syntax_of}
use Rattle.sim_values.specs.declared.standard.Standard.{Standard as Row}
use Rattle.sim_values.specs.Standard.{is_image, on_image, operands_of, row_of}
use Rattle.sim_code.specs.declared.instr.Instr.{Instr}
use Rattle.sim_code.specs.declared.instr.Instr.TheVariants as i
use Rattle.sim_code.specs.Code.{CodeOf}
use Rattle.sim_code.specs.Running.{runs, standard_runs}
use Rattle.sim_meaning.specs.Attributes.{connection_at}
use Rattle.sim_meaning.specs.Names.{procedure_named}
use Rattle.sim_meaning.specs.Pending.{Declared}
use Rattle.codegen_expr.specs.declared.forms.Form.{Form}
use Rattle.codegen_expr.specs.declared.forms.Form.TheVariants as form
use Rattle.codegen_expr.specs.declared.names.OnImage.{OnImage}
use Rattle.codegen_expr.specs.declared.names.OnImage.TheVariants as image
use Rattle.codegen_expr.specs.declared.names.StandardCode.{StandardCode}
use Rattle.codegen_expr.specs.declared.operators.Seen.{Seen}
use Rattle.codegen_expr.specs.declared.operators.Seen.TheVariants as seen
use Rattle.codegen_expr.specs.declared.spot.Spot.{Spot}
use Rattle.codegen_expr.specs.Built.{AreBuilt, ConnectedBuilt, DeclaredPlaceBuilt, FormalPlaceBuilt, ImageNameBuilt, NamedPlaceBuilt, PlaceBehindBuilt, PlaceBuilt, StandardBuilt, ThroughBuilt, is_around, is_there, slot_in}
use Rattle.codegen_expr.specs.CodeExpr.{ConnectedAt, DeclaredPlaceAt, ExprsAt, FormalPlaceAt, NameAt, NamedPlaceAt, PlaceBehindAt, StandardAt, ThroughAt, operands}
use Rattle.codegen_expr.specs.Drafts.{DraftOf, Emits, given_up, planned_at, planned_in, planned_start, with_instr, with_push}
use Rattle.codegen_expr.specs.Emit.{AloneAt, AloneBuilt, Numbered, OnImageIs, PutsPlace, SeenPlaceAt, SeenPlaceBuilt, WritesAlone, WritesBehind, WritesCellPlace, WritesElement, WritesImage, WritesList, WritesNamePlace, WritesNamedElement, WritesNamedPlace, WritesPlace, WritesSeenPlace, WritesStandard, WritesUnconnectedPlace, WritesUse, is_named, seen_formal, seen_of}
use Rattle.codegen_expr.specs.EmitObjects.{OfConnection, PutsBase, WritesPlaceBehind}
use Rattle.codegen_expr.specs.Forms.{FindsForm, FormIs, IsOther}
use Rattle.codegen_expr.specs.Sites.{At, HasCell, Inside, Pushes, Site, slot_of}
use Rattle.codegen_expr.proofs.Around.{inside}
use Rattle.codegen_expr.proofs.Pieces.{emits_as, emits_at, emits_classed, emits_nothing, emits_push, emits_push_at, emits_then}
use Rattle.codegen_expr.proofs.Slots.{slot_found, slot_within}

abbrev Part : Type 1
Part = CodeOf → Site → ℕ → ℕ → Type 0

count : (es : List Expr) → operands (expressions (map syntax_of es)) ≡ length es
count [] = refl
count (x ∷ xs) = ap suc (count xs)

numbered_runs : (o : Option Row) (row : StandardCode) → Numbered (Some row) o → runs (i.Std (pos row.number)) ≡ true
numbered_runs None row h = absurd h
numbered_runs (Some name) row h = ap standard_runs h.named ∙ h.runs

no_number : (o : Option Row) (k : ℕ) → Numbered None o → AloneBuilt o k → ⊥
no_number None k h t = t
no_number (Some name) k h t = let r = t.runs in cc

other_number : (o : Option Row) (row : StandardCode) (k : ℕ) → Numbered (Some row) o → k ≢ row.operands → AloneBuilt o k → ⊥
other_number None row k h other t = h
other_number (Some name) row k h other t = other (t.as_many ∙ sym h.takes)

module _ (b : Bound) (w : Spot) (n : ℕ) where
  -- ---- by themselves

  alone_emits : (o : Option Row) (row : StandardCode) (k line : ℕ) (A : Part) (P : Type 0) (a c : DraftOf) → Numbered (Some row) o → k ≡ row.operands → Emits w a c (P × ⊤) (λ final site p q. (x : ℕ) × A final site p x × (At final (i.Std (pos row.number)) line x q × (n < site.room)))
      → Emits w a c (AloneBuilt o k × P) (λ final site p q. (x : ℕ) × A final site p x × AloneAt final site n line o k x q)
  alone_emits None row k line A P a c h many f = absurd h
  alone_emits (Some name) row k line A P a c h many f =
      let as_many : k ≡ length (operands_of (row_of name).function) = many ∙ h.takes in
      emits_as w _ _ _ _ a c (λ t. (t.1, tt)) (λ t. (record { runs = h.runs; as_many = as_many }, t.0)) (λ final site p q _ _ r. (r.0, r.1, record { as_many = as_many; number = row.number; numbered = h.named; is = r.2.0; fits = λ _. r.2.1 })) f

  performed : (a c0 c : DraftOf) (token : TokenNo) (o : Option Row) (row : StandardCode) (es : List Expr) (m k line : ℕ) (x : Instr) → Numbered (Some row) o → k ≡ row.operands → WritesList b w m a c0 es → x ≡ i.Std (pos row.number) → line ≡ line_at (source_of b) token.0 → c ≡ with_push c0 n x line
      → Emits w a c (AloneBuilt o k × AreBuilt (source_of b) w.text (expressions (map syntax_of es))) (λ final site p q. (y : ℕ) × ExprsAt (source_of b) final site m (expressions (map syntax_of es)) p y × AloneAt final site n (line_at (source_of b) token.0) o k y q)
  unfolding WritesList
  performed a c0 c token o row ys m k line x h many f ex el ec =
      let s = source_of b in
      let es = expressions (map syntax_of ys) in
      alone_emits o row k (line_at s token.0) (λ z site p q. ExprsAt s z site m es p q) _ a c h many
      (emits_then w _ _ (λ z site p q. ExprsAt s z site m es p q) (λ z site p q. At z (i.Std (pos row.number)) (line_at s token.0) p q × (n < site.room)) a c0 c f
      (emits_push_at w c0 c n (i.Std (pos row.number)) (line_at s token.0) (ec ∙ ap (λ z. with_push c0 n z line) ex ∙ ap (λ z. with_push c0 n (i.Std (pos row.number)) z) el) (λ z. cc) (numbered_runs o row h)))

  pub alone_performed : (a c0 c : DraftOf) (token : TokenNo) (name : StandardName) (es : List Expr) (o : Option StandardCode) (row : StandardCode) (line : ℕ) (x : Instr) → Numbered o (procedure_named name) → o ≡ Some row → length es ≡ row.operands → WritesList b w n a c0 es → x ≡ i.Std (pos row.number) → line ≡ line_at (source_of b) token.0 → c ≡ with_push c0 n x line → WritesAlone b w n a c token name es
  unfolding WritesAlone
  alone_performed a c0 c token name es o row line x h some many f ex el ec =
      performed a c0 c token (procedure_named name) row es n _ line x (subst (λ z. Numbered z (procedure_named name)) some h) (count es ∙ many) f ex el ec

  pub alone_no_number : (a c : DraftOf) (token : TokenNo) (name : StandardName) (es : List Expr) (o : Option StandardCode) → Numbered o (procedure_named name) → o ≡ None → c ≡ given_up a → WritesAlone b w n a c token name es
  unfolding WritesAlone
  alone_no_number a c token name es o h none ec = emits_nothing w a c _ _ (λ t. no_number (procedure_named name) _ (subst (λ z. Numbered z (procedure_named name)) none h) t.0) ec

  pub alone_other_number : (a c : DraftOf) (token : TokenNo) (name : StandardName) (es : List Expr) (o : Option StandardCode) (row : StandardCode) → Numbered o (procedure_named name) → o ≡ Some row → length es ≢ row.operands → c ≡ given_up a → WritesAlone b w n a c token name es
  unfolding WritesAlone
  alone_other_number a c token name es o row h some other ec = emits_nothing w a c _ _ (λ t. other_number (procedure_named name) row _ (subst (λ z. Numbered z (procedure_named name)) some h) (λ z. other (sym (count es) ∙ z)) t.0) ec

  -- ---- behind a text

  pub behind_performed : (a c0 c : DraftOf) (token : TokenNo) (name : StandardName) (es : List Expr) (o : Option StandardCode) (row : StandardCode) (m line : ℕ) (x : Instr) → Numbered o (procedure_named name) → o ≡ Some row → row.operands ≢ 0 → length es ≡ row.operands - 1 → m ≡ suc n → WritesList b w m a c0 es → x ≡ i.Std (pos row.number) → line ≡ line_at (source_of b) token.0 → c ≡ with_push c0 n x line → WritesBehind b w n a c token name es
  unfolding WritesBehind
  behind_performed a c0 c token name es o row m line x h some some' many em f ex el ec =
      let many' : suc (operands (expressions (map syntax_of es))) ≡ row.operands = ap suc (count es) ∙ (let q : suc (length es) ≡ row.operands = omega (arith, many, some') in q) in
      performed a c0 c token (procedure_named name) row es (suc n) _ line x (subst (λ z. Numbered z (procedure_named name)) some h) many' (subst (λ z. WritesList b w z a c0 es) em f) ex el ec

  pub behind_no_number : (a c : DraftOf) (token : TokenNo) (name : StandardName) (es : List Expr) (o : Option StandardCode) → Numbered o (procedure_named name) → o ≡ None → c ≡ given_up a → WritesBehind b w n a c token name es
  unfolding WritesBehind
  behind_no_number a c token name es o h none ec = emits_nothing w a c _ _ (λ t. no_number (procedure_named name) _ (subst (λ z. Numbered z (procedure_named name)) none h) t.0) ec

  pub behind_no_operand : (a c : DraftOf) (token : TokenNo) (name : StandardName) (es : List Expr) (o : Option StandardCode) (row : StandardCode) → Numbered o (procedure_named name) → o ≡ Some row → row.operands ≡ 0 → c ≡ given_up a → WritesBehind b w n a c token name es
  unfolding WritesBehind
  behind_no_operand a c token name es o row h some none ec = emits_nothing w a c _ _ (λ t. other_number (procedure_named name) row _ (subst (λ z. Numbered z (procedure_named name)) some h) (λ z. absurd (omega (arith, z, none))) t.0) ec

  pub behind_other_number : (a c : DraftOf) (token : TokenNo) (name : StandardName) (es : List Expr) (o : Option StandardCode) (row : StandardCode) → Numbered o (procedure_named name) → o ≡ Some row → length es ≢ row.operands - 1 → c ≡ given_up a → WritesBehind b w n a c token name es
  unfolding WritesBehind
  behind_other_number a c token name es o row h some other ec =
      emits_nothing w a c _ _ (λ t. other_number (procedure_named name) row _ (subst (λ z. Numbered z (procedure_named name)) some h) (λ z. let k = count es in other (let q : length es ≡ row.operands - 1 = omega (arith, z, k) in q)) t.0) ec

  -- ---- names of both images

  itself_emits : (o : Option Row) (line img : ℕ) (P : Type 0) (A B : Part) (a c : DraftOf) → OnImageIs image.Itself o → Emits w a c (⊤ × ⊤) (λ final site p q. (x : ℕ) × Pushes final site n (i.AddrImg (pos img)) p x × At final i.Fetch 0 x q)
      → Emits w a c (StandardBuilt o NoMore P) (λ final site p q. StandardAt final site n line img o NoMore (A final site) (B final site) p q)
  itself_emits None line img P A B a c h f = absurd h
  itself_emits (Some name) line img P A B a c h f =
      subst (λ z. Emits w a c (ImageNameBuilt z (on_image name) name NoMore P) (λ final site p q. NameAt final site n line img z (on_image name) name NoMore (A final site) (B final site) p q)) (sym h)
      (emits_as w _ _ _ _ a c (λ t. (tt, tt)) (λ t. tt) (λ final site p q _ _ r. (r.0, r.1, record { line = 0; is = r.2 })) f)

  pub image_itself : (a c0 c : DraftOf) (img : ℕ) (token : TokenNo) (name : StandardName) (es : List Expr) (k : OnImage) → OnImageIs k (procedure_named name) → k ≡ image.Itself → length es ≡ 0 → WritesImage w n a c0 img → c ≡ with_instr c0 i.Fetch 0 → WritesStandard b w n a c img token name es
  unfolding WritesStandard WritesImage
  image_itself a c0 c img token name [] k h is none f ec =
      itself_emits (procedure_named name) _ img _ _ _ a c (subst (λ z. OnImageIs z (procedure_named name)) is h)
      (emits_then w _ _ (λ z site. Pushes z site n (i.AddrImg (pos img))) (λ z site. At z i.Fetch 0) a c0 c f (emits_at w c0 c i.Fetch 0 ec (λ z. cc) refl))
  image_itself a c0 c img token name (y ∷ ys) k h is none f ec = absurd (omega (arith, none))

  itself_alone : (o : Option Row) (e : Expression) (es : Expressions) (P : Type 0) → OnImageIs image.Itself o → StandardBuilt o (Then e es) P → ⊥
  itself_alone None e es P h t = h
  itself_alone (Some name) e es P h t = subst (λ z. ImageNameBuilt z (on_image name) name (Then e es) P) h t

  pub image_with_operands : (a c : DraftOf) (img : ℕ) (token : TokenNo) (name : StandardName) (es : List Expr) (k : OnImage) → OnImageIs k (procedure_named name) → k ≡ image.Itself → length es ≢ 0 → c ≡ given_up a → WritesStandard b w n a c img token name es
  unfolding WritesStandard
  image_with_operands a c img token name [] k h is some' ec = absurd (some' refl)
  image_with_operands a c img token name (y ∷ ys) k h is some' ec = emits_nothing w a c _ _ (itself_alone (procedure_named name) _ _ _ (subst (λ z. OnImageIs z (procedure_named name)) is h)) ec

  of_text_emits : (o u : Option Row) (line img : ℕ) (es : Expressions) (P : Type 0) (A B : Part) (a c : DraftOf) (name : Row) → is_image name ≡ false → on_image name ≡ u → is_named u ≡ true
      → Emits w a c (⊤ × (AloneBuilt u (suc (operands es)) × P)) (λ final site p q. (x : ℕ) × Pushes final site n (i.AddrImg (pos img)) p x × ((y : ℕ) × B final site x y × AloneAt final site n line u (suc (operands es)) y q))
      → Emits w a c (StandardBuilt (Some name) es P) (λ final site p q. StandardAt final site n line img (Some name) es (A final site) (B final site) p q)
  of_text_emits o None line img es P A B a c name h g named f = absurd (cc)
  of_text_emits o (Some other) line img es P A B a c name h g named f =
      subst (λ z. Emits w a c (ImageNameBuilt z (on_image name) name es P) (λ final site p q. NameAt final site n line img z (on_image name) name es (A final site) (B final site) p q)) (sym h)
      (subst (λ z. Emits w a c (ImageNameBuilt false z name es P) (λ final site p q. NameAt final site n line img false z name es (A final site) (B final site) p q)) (sym g)
      (emits_as w _ _ _ _ a c (λ t. (tt, t)) (λ t. t.1) (λ final site p q _ _ r. (r.0, r.2.0, r.1, r.2.1, r.2.2)) f))

  on_text_emits : (o u : Option Row) (other : StandardName) (line img : ℕ) (es : Expressions) (P : Type 0) (A B : Part) (a c : DraftOf) → u ≡ procedure_named other → OnImageIs (image.OfText other) o
      → Emits w a c (⊤ × (AloneBuilt u (suc (operands es)) × P)) (λ final site p q. (x : ℕ) × Pushes final site n (i.AddrImg (pos img)) p x × ((y : ℕ) × B final site x y × AloneAt final site n line u (suc (operands es)) y q))
      → Emits w a c (StandardBuilt o es P) (λ final site p q. StandardAt final site n line img o es (A final site) (B final site) p q)
  on_text_emits None u other line img es P A B a c eu h f = absurd h
  on_text_emits (Some name) u other line img es P A B a c eu h f = of_text_emits (Some name) u line img es P A B a c name h.0 (h.1 ∙ sym eu) (ap is_named eu ∙ h.2) f

  pub image_of_text : (a c0 c : DraftOf) (img : ℕ) (token : TokenNo) (name other : StandardName) (es : List Expr) (k : OnImage) → OnImageIs k (procedure_named name) → k ≡ image.OfText other → WritesImage w n a c0 img → WritesBehind b w n c0 c token other es → WritesStandard b w n a c img token name es
  unfolding WritesStandard WritesImage WritesBehind
  image_of_text a c0 c img token name other ys k h is f g =
      let s = source_of b in
      let es = expressions (map syntax_of ys) in
      on_text_emits (procedure_named name) (procedure_named other) other (line_at s token.0) img es _ (λ z site p q. ExprsAt s z site n es p q) (λ z site p q. ExprsAt s z site (suc n) es p q) a c refl (subst (λ z. OnImageIs z (procedure_named name)) is h)
      (emits_then w _ _ (λ z site. Pushes z site n (i.AddrImg (pos img))) (λ z site p q. (y : ℕ) × ExprsAt s z site (suc n) es p y × AloneAt z site n (line_at s token.0) (procedure_named other) (suc (operands es)) y q) a c0 c f g)

  nothing_emits : (o : Option Row) (line img : ℕ) (es : Expressions) (P : Type 0) (A B : Part) (a c : DraftOf) → OnImageIs image.Nothing o
      → Emits w a c (AloneBuilt o (operands es) × P) (λ final site p q. (x : ℕ) × A final site p x × AloneAt final site n line o (operands es) x q)
      → Emits w a c (StandardBuilt o es P) (λ final site p q. StandardAt final site n line img o es (A final site) (B final site) p q)
  nothing_emits None line img es P A B a c h f = emits_as w _ _ _ _ a c (λ t. absurd t) (λ t. t.0) (λ final site p q _ _ r. r.2) f
  nothing_emits (Some name) line img es P A B a c h f =
      subst (λ z. Emits w a c (ImageNameBuilt z (on_image name) name es P) (λ final site p q. NameAt final site n line img z (on_image name) name es (A final site) (B final site) p q)) (sym h.0)
      (subst (λ z. Emits w a c (ImageNameBuilt false z name es P) (λ final site p q. NameAt final site n line img false z name es (A final site) (B final site) p q)) (sym h.1) f)

  pub image_nothing : (a c : DraftOf) (img : ℕ) (token : TokenNo) (name : StandardName) (es : List Expr) (k : OnImage) → OnImageIs k (procedure_named name) → k ≡ image.Nothing → WritesAlone b w n a c token name es → WritesStandard b w n a c img token name es
  unfolding WritesStandard WritesAlone
  image_nothing a c img token name ys k h is f =
      let s = source_of b in
      let es = expressions (map syntax_of ys) in
      nothing_emits (procedure_named name) (line_at s token.0) img es _ (λ z site p q. ExprsAt s z site n es p q) (λ z site p q. ExprsAt s z site (suc n) es p q) a c (subst (λ z. OnImageIs z (procedure_named name)) is h) f

  -- ---- where variables lie

  pub place_cell : (a c : DraftOf) (class : ℕ) (d : DeclNo) (x : Instr) (block k m v : ℕ) (slot : Option ℕ) → block ≡ block_of (source_of b) d → slot ≡ slot_in (source_of b) (block_of (source_of b) d) (Declared d.0) → slot ≡ Some k → is_around b.scopes (length b.scopes.blocks) w.text block ≡ true → v ≡ planned_start (source_of b) a.classes block + k → m ≡ level_of (source_of b) block → x ≡ i.Addr (pos m) (pos v) (pos class) → c ≡ with_push a n x 0 → WritesCellPlace b w n a c class d
  unfolding WritesCellPlace source_of
  place_cell a c class d x block k m v slot eb es some around ev em ex ec =
      let s = source_of b in
      let found : slot_in s (block_of s d) (Declared d.0) ≡ Some k = sym es ∙ some in
      let number : v ≡ planned_start s a.classes (block_of s d) + k = ev ∙ ap (λ z. planned_start s a.classes z + k) eb in
      let at : (final : CodeOf) → ((j : ℕ) → planned_in (slice_get final.blocks j) ≡ planned_at a.classes j) → x ≡ i.Addr (pos (level_of s (block_of s d))) (pos (slot_of s final (block_of s d) (Declared d.0))) (pos class) =
      λ final known. ex ∙ ap (λ z. i.Addr (pos z) (pos v) (pos class)) (em ∙ ap (level_of s) eb) ∙ ap (λ z. i.Addr (pos (level_of s (block_of s d))) (pos z) (pos class)) (slot_found s final a.classes (block_of s d) (Declared d.0) k v known found number) in
      let there : is_around s.tables (length s.tables.blocks) w.text (block_of s d) ≡ true = ap (λ z. is_around s.tables (length s.tables.blocks) w.text z) (sym eb) ∙ around in
      let is : Inside s.tables w.text (block_of s d) = inside s.tables (block_of s d) (length s.tables.blocks) w.text there in
      let has : HasCell s (block_of s d) (Declared d.0) = slot_within s (block_of s d) (Declared d.0) k found in
      emits_as w _ _ (λ final site p q. Pushes final site n (i.Addr (pos (level_of s (block_of s d))) (pos (slot_of s final (block_of s d) (Declared d.0))) (pos class)) p q) _ a c (λ t. tt) (λ t. record { has = ap is_there found; inside = record { found = there } })
      (λ final site p q stands _ r. record { address = r; inside = subst (λ z. Inside s.tables z (block_of s d)) (sym stands) is; within = has })
      (emits_classed w _ (λ final site p q. Pushes final site n x p q) _ a c (λ final site p q known r. subst (λ z. Pushes final site n z p q) (at final known) r) (emits_push w a c n x 0 ec (λ z. let h : i.Addr (pos m) (pos v) (pos class) ≡ i.Halt = sym ex ∙ z in cc) (ap runs ex)))

  pub place_no_slot : (a c : DraftOf) (class : ℕ) (d : DeclNo) (slot : Option ℕ) → slot ≡ slot_in (source_of b) (block_of (source_of b) d) (Declared d.0) → slot ≡ None → c ≡ given_up a → WritesCellPlace b w n a c class d
  unfolding WritesCellPlace
  place_no_slot a c class d slot es none ec = emits_nothing w a c _ _ (λ h. let k : true ≡ false = sym h.has ∙ ap is_there (sym es ∙ none) in cc) ec

  pub place_outside : (a c : DraftOf) (class : ℕ) (d : DeclNo) (block : ℕ) → block ≡ block_of (source_of b) d → is_around b.scopes (length b.scopes.blocks) w.text block ≡ false → c ≡ given_up a → WritesCellPlace b w n a c class d
  unfolding WritesCellPlace source_of
  place_outside a c class d block eb out ec = emits_nothing w a c _ _ (λ h. let t : is_around b.scopes (length b.scopes.blocks) w.text block ≡ true = ap (λ z. is_around b.scopes (length b.scopes.blocks) w.text z) eb ∙ h.inside.found in cc) ec

  abbrev Lies : (a c : DraftOf) → (class : ℕ) → TokenNo → DeclNo → Expressions → Seen → Type 0
  Lies a c class token d es x = Emits w a c (SeenPlaceBuilt (source_of b) w.text d x es (AreBuilt (source_of b) w.text es)) (λ final site p q. SeenPlaceAt (source_of b) final site n (line_at (source_of b) token.0) class d x es (λ u v. ExprsAt (source_of b) final site (suc n) es u v) p q)

  pub place_variable : (a c : DraftOf) (class : ℕ) (token : TokenNo) (d : DeclNo) (x : Seen) (es : List Expr) → x ≡ seen.Variable → length es ≡ 0 → WritesCellPlace b w n a c class d → WritesSeenPlace b w n a c class token d x es
  unfolding WritesSeenPlace WritesCellPlace
  place_variable a c class token d x [] is none f = subst (Lies a c class token d NoMore) (sym is) f
  place_variable a c class token d x (y ∷ ys) is none f = absurd (omega (arith, none))

  pub place_no_variable : (a c : DraftOf) (class : ℕ) (token : TokenNo) (d : DeclNo) (x : Seen) (es : List Expr) → x ≡ seen.Variable → length es ≢ 0 → c ≡ given_up a → WritesSeenPlace b w n a c class token d x es
  unfolding WritesSeenPlace
  place_no_variable a c class token d x [] is some' ec = absurd (some' refl)
  place_no_variable a c class token d x (y ∷ ys) is some' ec = subst (Lies a c class token d (expressions (map syntax_of (y ∷ ys)))) (sym is) (emits_nothing w a c _ _ (λ z. z) ec)

  pub place_element : (a c : DraftOf) (class : ℕ) (token : TokenNo) (d : DeclNo) (x : Seen) (es : List Expr) → x ≡ seen.Array → length es ≢ 0 → WritesElement b w n a c class token d es → WritesSeenPlace b w n a c class token d x es
  unfolding WritesSeenPlace WritesElement
  place_element a c class token d x [] is some' f = absurd (some' refl)
  place_element a c class token d x (y ∷ ys) is some' f = subst (Lies a c class token d (expressions (map syntax_of (y ∷ ys)))) (sym is) f

  pub place_array : (a c : DraftOf) (class : ℕ) (token : TokenNo) (d : DeclNo) (x : Seen) (es : List Expr) → x ≡ seen.Array → length es ≡ 0 → c ≡ given_up a → WritesSeenPlace b w n a c class token d x es
  unfolding WritesSeenPlace
  place_array a c class token d x [] is none ec = subst (Lies a c class token d NoMore) (sym is) (emits_nothing w a c _ _ (λ z. z) ec)
  place_array a c class token d x (y ∷ ys) is none ec = absurd (omega (arith, none))

  pub place_constant : (a c : DraftOf) (class : ℕ) (token : TokenNo) (d : DeclNo) (x : Seen) (es : List Expr) → x ≡ seen.Constant → c ≡ given_up a → WritesSeenPlace b w n a c class token d x es
  unfolding WritesSeenPlace
  place_constant a c class token d x es is ec = subst (Lies a c class token d (expressions (map syntax_of es))) (sym is) (emits_nothing w a c _ _ (λ z. z) ec)

  pub place_call : (a c : DraftOf) (class : ℕ) (token : TokenNo) (d : DeclNo) (x : Seen) (block : ℕ) (es : List Expr) → x ≡ seen.Call block → c ≡ given_up a → WritesSeenPlace b w n a c class token d x es
  unfolding WritesSeenPlace
  place_call a c class token d x block es is ec = subst (Lies a c class token d (expressions (map syntax_of es))) (sym is) (emits_nothing w a c _ _ (λ z. z) ec)

  pub place_virtual : (a c : DraftOf) (class : ℕ) (token : TokenNo) (d : DeclNo) (x : Seen) (es : List Expr) → x ≡ seen.Virtual → c ≡ given_up a → WritesSeenPlace b w n a c class token d x es
  unfolding WritesSeenPlace
  place_virtual a c class token d x es is ec = subst (Lies a c class token d (expressions (map syntax_of es))) (sym is) (emits_nothing w a c _ _ (λ z. z) ec)

  pub place_named : (a c : DraftOf) (class : ℕ) (token : TokenNo) (d : DeclNo) (x : Seen) (es : List Expr) → x ≡ seen.Named → length es ≡ 0 → WritesNamePlace b w n a c true token d → WritesSeenPlace b w n a c class token d x es
  unfolding WritesSeenPlace WritesNamePlace WritesUse
  place_named a c class token d x [] is none f = subst (Lies a c class token d NoMore) (sym is) f
  place_named a c class token d x (y ∷ ys) is none f = absurd (omega (arith, none))

  pub place_not_named : (a c : DraftOf) (class : ℕ) (token : TokenNo) (d : DeclNo) (x : Seen) (es : List Expr) → x ≡ seen.Named → length es ≢ 0 → c ≡ given_up a → WritesSeenPlace b w n a c class token d x es
  unfolding WritesSeenPlace
  place_not_named a c class token d x [] is some' ec = absurd (some' refl)
  place_not_named a c class token d x (y ∷ ys) is some' ec = subst (Lies a c class token d (expressions (map syntax_of (y ∷ ys)))) (sym is) (emits_nothing w a c _ _ (λ z. z) ec)

  pub place_named_element : (a c : DraftOf) (class : ℕ) (token : TokenNo) (d : DeclNo) (x : Seen) (es : List Expr) → x ≡ seen.NamedArray → length es ≢ 0 → WritesNamedElement b w n a c class token d es → WritesSeenPlace b w n a c class token d x es
  unfolding WritesSeenPlace WritesNamedElement
  place_named_element a c class token d x [] is some' f = absurd (some' refl)
  place_named_element a c class token d x (y ∷ ys) is some' f = subst (Lies a c class token d (expressions (map syntax_of (y ∷ ys)))) (sym is) f

  pub place_named_array : (a c : DraftOf) (class : ℕ) (token : TokenNo) (d : DeclNo) (x : Seen) (es : List Expr) → x ≡ seen.NamedArray → length es ≡ 0 → c ≡ given_up a → WritesSeenPlace b w n a c class token d x es
  unfolding WritesSeenPlace
  place_named_array a c class token d x [] is none ec = subst (Lies a c class token d NoMore) (sym is) (emits_nothing w a c _ _ (λ z. z) ec)
  place_named_array a c class token d x (y ∷ ys) is none ec = absurd (omega (arith, none))

  pub place_procedure : (a c : DraftOf) (class : ℕ) (token : TokenNo) (d : DeclNo) (x : Seen) (named : Bool) (es : List Expr) → x ≡ seen.Procedure named → c ≡ given_up a → WritesSeenPlace b w n a c class token d x es
  unfolding WritesSeenPlace
  place_procedure a c class token d x named es is ec = subst (Lies a c class token d (expressions (map syntax_of es))) (sym is) (emits_nothing w a c _ _ (λ z. z) ec)

  pub place_nothing : (a c : DraftOf) (class : ℕ) (token : TokenNo) (d : DeclNo) (x : Seen) (es : List Expr) → x ≡ seen.Nothing → c ≡ given_up a → WritesSeenPlace b w n a c class token d x es
  unfolding WritesSeenPlace
  place_nothing a c class token d x es is ec = subst (Lies a c class token d (expressions (map syntax_of es))) (sym is) (emits_nothing w a c _ _ (λ z. z) ec)

  lies_emits : (a c : DraftOf) (line class : ℕ) (d : DeclNo) (k : Option Entry) (es : Expressions) (O : Type 0) (A : Part)
      → Emits w a c (SeenPlaceBuilt (source_of b) w.text d (seen_of k) es O) (λ final site p q. SeenPlaceAt (source_of b) final site n line class d (seen_of k) es (A final site) p q)
      → Emits w a c (DeclaredPlaceBuilt (source_of b) w.text d k es O) (λ final site p q. DeclaredPlaceAt (source_of b) final site n line class d k es (A final site) p q)
  lies_emits a c line class d None es O A f = f
  lies_emits a c line class d (Some (entry.Variable type)) es O A f = f
  lies_emits a c line class d (Some (entry.Constant type)) es O A f = f
  lies_emits a c line class d (Some (entry.Array element dimensions)) es O A f = f
  lies_emits a c line class d (Some (entry.Procedure result block)) es O A f = f
  lies_emits a c line class d (Some (entry.Class text)) es O A f = f
  lies_emits a c line class d (Some (entry.Virtual result own)) es O A f = f
  lies_emits a c line class d (Some (entry.Unspecified written)) es O A f = f
  lies_emits a c line class d (Some (entry.Attribute name parameter result)) es O A f = f
  lies_emits a c line class d (Some (entry.Formal x)) es O A f = formal x.mode x.kind f
    where
      formal : (m : Mode) (k : FormalKind)
          → Emits w a c (SeenPlaceBuilt (source_of b) w.text d (seen_formal m k) es O) (λ final site p q. SeenPlaceAt (source_of b) final site n line class d (seen_formal m k) es (A final site) p q)
          → Emits w a c (FormalPlaceBuilt (source_of b) w.text d k es O) (λ final site p q. FormalPlaceAt (source_of b) final site n line class d m k es (A final site) p q)
      formal mode.ByName shape.Simple f = f
      formal mode.ByName shape.Array f = f
      formal mode.ByName shape.Procedure f = f
      formal mode.ByValue shape.Simple f = f
      formal mode.ByValue shape.Array f = f
      formal mode.ByValue shape.Procedure f = f
      formal mode.ByReference shape.Simple f = f
      formal mode.ByReference shape.Array f = f
      formal mode.ByReference shape.Procedure f = f

  abbrev LiesNamed : (a c : DraftOf) → (class : ℕ) → Identifier → List Expr → Option Denotation → Type 0
  LiesNamed a c class x es o =
      Emits w a c (NamedPlaceBuilt (source_of b) w.text o (expressions (map syntax_of es)) (AreBuilt (source_of b) w.text (expressions (map syntax_of es))))
      (λ final site p q. NamedPlaceAt (source_of b) final site n (line_at (source_of b) x.token.0) class o (expressions (map syntax_of es)) (λ u v. ExprsAt (source_of b) final site (suc n) (expressions (map syntax_of es)) u v) p q)

  lies_named : (a c : DraftOf) (class : ℕ) (x : Identifier) (es : List Expr) (o : Option Denotation) → o ≡ denoted (source_of b) x.token.0 → LiesNamed a c class x es o → WritesUnconnectedPlace b w n a c class x es
  unfolding WritesUnconnectedPlace
  lies_named a c class x es o eo f = subst (LiesNamed a c class x es) eo f

  pub place_declared : (a c : DraftOf) (class : ℕ) (x : Identifier) (es : List Expr) (o : Option Denotation) (d : DeclNo) (k : Option Entry) (r : Seen) → o ≡ denoted (source_of b) x.token.0 → o ≡ Some (denotation.Declared d) → k ≡ entry_of b.scopes d → r ≡ seen_of k → WritesSeenPlace b w n a c class x.token d r es → WritesUnconnectedPlace b w n a c class x es
  unfolding WritesSeenPlace source_of
  place_declared a c class x ys o d k r eo some ek er f =
      let s = source_of b in
      let es = expressions (map syntax_of ys) in
      let same : r ≡ seen_of (entry_of s.tables d) = er ∙ ap seen_of ek in
      lies_named a c class x ys o eo (subst (LiesNamed a c class x ys) (sym some)
      (lies_emits a c (line_at s x.token.0) class d (entry_of s.tables d) es (AreBuilt s w.text es) (λ final site p q. ExprsAt s final site (suc n) es p q) (subst (Lies a c class x.token d es) same f)))

  pub place_standard : (a c : DraftOf) (class : ℕ) (x : Identifier) (es : List Expr) (o : Option Denotation) (k : StandardName) → o ≡ denoted (source_of b) x.token.0 → o ≡ Some (denotation.Standard k) → WritesImage w n a c 1 → WritesUnconnectedPlace b w n a c class x es
  unfolding WritesImage
  place_standard a c class x es o k eo some f = lies_named a c class x es o eo (subst (LiesNamed a c class x es) (sym some) f)

  pub place_undeclared : (a c : DraftOf) (class : ℕ) (x : Identifier) (es : List Expr) (o : Option Denotation) → o ≡ denoted (source_of b) x.token.0 → o ≡ None → WritesImage w n a c 1 → WritesUnconnectedPlace b w n a c class x es
  unfolding WritesImage
  place_undeclared a c class x es o eo none f = lies_named a c class x es o eo (subst (LiesNamed a c class x es) (sym none) f)

  abbrev Seen' : (a c : DraftOf) → (class : ℕ) → Identifier → Expressions → (connection : Option ℕ) → Type 0
  Seen' a c class x es o =
      Emits w a c (ThroughBuilt o (λ k. PlaceBehindBuilt (source_of b) (denoted (source_of b) x.token.0) es (ConnectedBuilt (source_of b) w.text k) (AreBuilt (source_of b) w.text es)) (NamedPlaceBuilt (source_of b) w.text (denoted (source_of b) x.token.0) es (AreBuilt (source_of b) w.text es)))
      (λ final site p q. ThroughAt o
      (λ k. PlaceBehindAt (source_of b) final (line_at (source_of b) x.token.0) class (denoted (source_of b) x.token.0) es (λ u v. ConnectedAt (source_of b) final site n k u v) (λ u v. ExprsAt (source_of b) final site (suc n) es u v))
      (NamedPlaceAt (source_of b) final site n (line_at (source_of b) x.token.0) class (denoted (source_of b) x.token.0) es (λ u v. ExprsAt (source_of b) final site (suc n) es u v)) p q)

  pub place_through : (a c0 c : DraftOf) (class : ℕ) (x : Identifier) (es : List Expr) (o : Option ℕ) (k : ℕ) → o ≡ connection_at (source_of b) x.token.0 → o ≡ Some k → PutsBase (source_of b) w n a c0 (OfConnection k) → WritesPlaceBehind b w n c0 c class x.token es → WritesNamedPlace b w n a c class x es
  unfolding WritesNamedPlace PutsPlace WritesPlaceBehind
  place_through a c0 c class x es o k eo some f g = subst (Seen' a c class x (expressions (map syntax_of es))) (sym some ∙ eo) (g a (OfConnection k) f)

  pub place_unconnected : (a c : DraftOf) (class : ℕ) (x : Identifier) (es : List Expr) (o : Option ℕ) → o ≡ connection_at (source_of b) x.token.0 → o ≡ None → WritesUnconnectedPlace b w n a c class x es → WritesNamedPlace b w n a c class x es
  unfolding WritesNamedPlace PutsPlace WritesUnconnectedPlace
  place_unconnected a c class x es o eo none f = subst (Seen' a c class x (expressions (map syntax_of es))) (sym none ∙ eo) f

  no_place : (x : Expression) → IsOther x → PlaceBuilt (source_of b) w.text x → ⊥
  no_place (If i c a e) h t = t
  no_place (Binary op i a e) h t = t
  no_place (Not i a) h t = t
  no_place (Signed k i a) h t = t
  no_place (Member m i a k) h t = t
  no_place (Dot i a k args) h t = h
  no_place (Qua i a k) h t = h
  no_place (Constant l i) h t = t
  no_place (Named k args) h t = h
  no_place (This i k) h t = t
  no_place (New i k args) h t = h
  no_place (Parentheses i a) h t = h

  pub place_other_form : (a c : DraftOf) (class : ℕ) (x : Expr) (f : Form) → FindsForm f x → f ≡ form.Other → c ≡ given_up a → WritesPlace b w n a c class x
  unfolding FindsForm WritesPlace PutsPlace
  place_other_form a c class x f h is ec = emits_nothing w a c _ _ (no_place (syntax_of x) (subst (λ z. FormIs z (syntax_of x)) is h)) ec

-- standard names
pub ruleset behind = (alone_performed, alone_no_number, alone_other_number, behind_performed, behind_no_number, behind_no_operand, behind_other_number, image_itself, image_with_operands, image_of_text, image_nothing)

-- where variables lie
pub ruleset lies = (place_cell, place_no_slot, place_outside, place_variable, place_no_variable, place_element, place_array, place_constant, place_call, place_virtual, place_named, place_not_named, place_named_element, place_named_array, place_procedure, place_nothing, place_declared, place_standard, place_undeclared, place_through, place_unconnected)
