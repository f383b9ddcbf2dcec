-- Transfers of control, and calls that are none.
use Rattle.std.proofs.Common.{◌≡◌, ◌≢◌, ℕ, true, false, List, [], ◌∷◌, length, map, Option, Some, None, refl, sym, ap, ◌∙◌, subst, arith}
use Rattle.std.specs.Prelude.{⊤, ◌||◌, option_map}
use Rattle.sim_base.specs.declared.numbering.TokenNo.{TokenNo}
use Rattle.sim_scope.specs.declared.bound.Bound.{Bound}
use Rattle.sim_scope.specs.declared.scopes.Denotation.{Denotation}
use Rattle.sim_scope.specs.declared.scopes.Denotation.TheVariants as denotation
use Rattle.sim_scope.specs.declared.standard.StandardName.TheVariants as found
use Rattle.sim_scope.specs.Scopes.{entry_of}
use Rattle.sim_scope.specs.Source.{Source, denoted, found_at, line_at, source_of}
use Rattle.sim_tree.specs.declared.expr.Expr.{Expr}
use Rattle.sim_tree.specs.declared.expr.Identifier.{Identifier}
use Rattle.sim_tree.specs.Syntax.{Dot, Expression, Expressions, Named, expressions}
use Rattle.sim_tree.specs.SyntaxOf.{syntax_of}
use Rattle.sim_values.specs.declared.standard.Standard.{Standard}
use Rattle.sim_values.specs.declared.standard.Standard.TheVariants as name_of
use Rattle.sim_values.specs.Standard.{moves_position, row_of}
use Rattle.sim_code.specs.declared.instr.Instr.TheVariants as i
use Rattle.sim_code.specs.Code.{CodeOf}
use Rattle.sim_code.specs.Transfers.{Calling, Detaching, Resuming, Transfer}
use Rattle.sim_meaning.specs.Attributes.{connection_at, own_attribute, transfer_at, transfer_denoted, transfer_of}
use Rattle.sim_meaning.specs.Closing.{formals_at, is_attribute, is_variable, stream_of}
use Rattle.sim_meaning.specs.Statements.{denoted_leaves, has_value, leaves}
use Rattle.codegen_expr.specs.declared.operators.Object.{Object}
use Rattle.codegen_expr.specs.declared.operators.Object.TheVariants as object
use Rattle.codegen_expr.specs.declared.spot.Spot.{Spot}
use Rattle.codegen_expr.specs.Built.{ActualsBuilt, AreBuilt, ConnectedNameBuilt, DotBuilt, IsBuilt, NamedBuilt, OfObjectBuilt, OwnBuilt, OwnNameBuilt, PlaceBuilt, ThisFoundBuilt, ThroughBuilt}
use Rattle.codegen_expr.specs.CodeExpr.{ActualsAt, ConnectedNameAt, DotAt, ExprAt, ExprsAt, Listed, NamedAt, OfObjectAt, OwnAt, OwnNameAt, PlaceAt, ThisFoundAt, ThroughAt, gives, parameters_at}
use Rattle.codegen_expr.specs.Drafts.{DraftOf, Emits, given_up, with_instr}
use Rattle.codegen_expr.specs.Emit.{Puts, PutsBefore, WritesList, moves_denoted}
use Rattle.codegen_expr.specs.EmitObjects.{WritesThis}
use Rattle.codegen_expr.specs.Sites.{At, Site}
use Rattle.codegen_expr.proofs.Pieces.{emits_as, emits_at, emits_nothing, emits_then}
use Rattle.codegen_expr.proofs.Taken.{before_gives_up, streamless}
use Rattle.codegen.specs.declared.transfers.Transfer.{Transfer as Word}
use Rattle.codegen.specs.declared.transfers.Transfer.TheVariants as word
use Rattle.codegen.specs.BuiltProgram.{OrTransferBuilt, TransferBuilt}
use Rattle.codegen.specs.CodeStm.{DropsAt, OrTransferAt, TransferAt}
use Rattle.codegen.specs.Emit.{WritesCalled, WritesCalledBehind}
use Rattle.codegen.specs.EmitTransfers.{FindsTransfer, WritesDetach, WritesDetachBehind, WritesTransfer, meant}

abbrev Part : Type 1
Part = CodeOf → Site → ℕ → ℕ → Type 0

-- ---- calls, by whether they transfer control

-- a call of an identifier
abbrev pub NamedCall : Source → Spot → (a d : DraftOf) → Identifier → Expressions → Option Transfer → Type 0
NamedCall s w a d x es o =
    Emits w a d
    (OrTransferBuilt o (λ t. TransferBuilt t es (ThisFoundBuilt s w.text (found_at s x.token.0)) (AreBuilt s w.text es))
    ((leaves s (Named x es) ≡ gives s (denoted s x.token.0)) × ThroughBuilt (connection_at s x.token.0)
    (λ k. ConnectedNameBuilt s w.text k (denoted s x.token.0) es (AreBuilt s w.text es) (λ formals. ActualsBuilt s w.text es formals))
    (OwnBuilt (own_attribute s x.token.0)
    (λ j. OwnNameBuilt s w.text (found_at s x.token.0) (entry_of s.tables j) es (ActualsBuilt s w.text es (Listed (formals_at s j)))
    (OfObjectBuilt s j (entry_of s.tables j) es (ThisFoundBuilt s w.text (found_at s x.token.0)) (AreBuilt s w.text es) (ActualsBuilt s w.text es (parameters_at s j))))
    (NamedBuilt s w.text (denoted s x.token.0) es (AreBuilt s w.text es) (λ formals. ActualsBuilt s w.text es formals)))))
    (λ final site p q. (y : ℕ) × OrTransferAt o (λ t. TransferAt final (line_at s x.token.0) t es (ThisFoundAt s final site 0 (found_at s x.token.0)) (ExprsAt s final site 0 es))
    (λ p q. (leaves s (Named x es) ≡ gives s (denoted s x.token.0)) × ThroughAt (connection_at s x.token.0)
    (λ k. ConnectedNameAt s final site 0 (line_at s x.token.0) k (denoted s x.token.0) es (ExprsAt s final site 1 es) (λ formals. ActualsAt s final site 1 (line_at s x.token.0) false es formals))
    (OwnAt (own_attribute s x.token.0)
    (λ j. OwnNameAt s final site 0 (line_at s x.token.0) (found_at s x.token.0) (entry_of s.tables j) es (ActualsAt s final site 1 (line_at s x.token.0) false es (Listed (formals_at s j)))
    (OfObjectAt s final site 0 (line_at s x.token.0) j (entry_of s.tables j) es (ThisFoundAt s final site 0 (found_at s x.token.0)) (ExprsAt s final site 1 es) (ActualsAt s final site 1 (line_at s x.token.0) false es (parameters_at s j))))
    (NamedAt s final site 0 (line_at s x.token.0) (denoted s x.token.0) es (ExprsAt s final site 0 es) (ExprsAt s final site 1 es) (λ formals. ActualsAt s final site 1 (line_at s x.token.0) false es formals))) p q) p y
    × DropsAt final (leaves s (Named x es)) y q)

-- a call of an attribute behind its object
abbrev pub DotCall : Source → Spot → (a d : DraftOf) → Expression → (token : ℕ) → Identifier → Expressions → Option Transfer → Type 0
DotCall s w a d e token x es o =
    Emits w a d
    (OrTransferBuilt o (λ t. TransferBuilt Detaching es (IsBuilt s w.text e) (AreBuilt s w.text es))
    ((leaves s (Dot token e x es) ≡ gives s (denoted s x.token.0)) × DotBuilt s (denoted s x.token.0) (stream_of s e) (is_variable s e || is_attribute s e) es (PlaceBuilt s w.text e) (IsBuilt s w.text e) (AreBuilt s w.text es) (λ formals. ActualsBuilt s w.text es formals)))
    (λ final site p q. (y : ℕ) × OrTransferAt o (λ t. TransferAt final (line_at s x.token.0) Detaching es (ExprAt s final site 0 e) (ExprsAt s final site 0 es))
    (λ p q. (leaves s (Dot token e x es) ≡ gives s (denoted s x.token.0)) × DotAt s final site 0 (line_at s x.token.0) (denoted s x.token.0) (stream_of s e) (is_variable s e || is_attribute s e) es
    (PlaceAt s final site 0 0 e) (ExprAt s final site 0 e) (ExprsAt s final site 0 es) (ExprsAt s final site 1 es) (λ formals. ActualsAt s final site 1 (line_at s x.token.0) false es formals) p q) p y
    × DropsAt final (leaves s (Dot token e x es)) y q)

pub at_none : (s : Source) (token : ℕ) (u : Option Denotation) (r : Option Word) → u ≡ denoted s token → FindsTransfer r u → r ≡ None → transfer_at s token ≡ None
unfolding FindsTransfer transfer_at
at_none s token u r eu f none = ap transfer_denoted (sym eu) ∙ sym f ∙ ap (option_map meant) none

at_some : (s : Source) (token : ℕ) (u : Option Denotation) (r : Option Word) (t : Word) → u ≡ denoted s token → FindsTransfer r u → r ≡ Some t → transfer_at s token ≡ Some (meant t)
unfolding FindsTransfer transfer_at
at_some s token u r t eu f some = ap transfer_denoted (sym eu) ∙ sym f ∙ ap (option_map meant) some

-- none of these names has a value, and none moves the position of a text
of_name : (name : Standard) (t : Transfer) → transfer_of name ≡ Some t → (has_value (row_of name).result ≡ false) × (moves_position name ≡ false)
unfolding row_of
of_name name_of.Detach t is = (refl, refl)
of_name name_of.Call t is = (refl, refl)
of_name name_of.Resume t is = (refl, refl)
of_name _ t is = absurd (cc)

of_denoted : (s : Source) (u : Option Denotation) (t : Transfer) → transfer_denoted u ≡ Some t → (denoted_leaves s u ≡ false) × (moves_denoted u ≡ false)
of_denoted s None t is = absurd (cc)
of_denoted s (Some (denotation.Declared d)) t is = absurd (cc)
of_denoted s (Some (denotation.Standard (found.Procedure name))) t is = of_name name t is
of_denoted s (Some (denotation.Standard found.Sysin)) t is = absurd (cc)
of_denoted s (Some (denotation.Standard found.Sysout)) t is = absurd (cc)
of_denoted s (Some (denotation.Standard (found.Prefix x))) t is = absurd (cc)

of_token : (s : Source) (token : ℕ) (t : Transfer) → transfer_at s token ≡ Some t → (denoted_leaves s (denoted s token) ≡ false) × (moves_denoted (denoted s token) ≡ false)
unfolding transfer_at
of_token s token t is = of_denoted s (denoted s token) t is

-- ---- actual parameters

detached_without : (ys : List Expr) (P Q : Type 0) → TransferBuilt Detaching (expressions (map syntax_of ys)) P Q → P
detached_without [] P Q h = h
detached_without (y ∷ ys) P Q h = absurd h

detached_with : (ys : List Expr) (P Q : Type 0) → length ys ≢ 0 → TransferBuilt Detaching (expressions (map syntax_of ys)) P Q → ⊥
detached_with [] P Q some h = some refl
detached_with (y ∷ ys) P Q some h = h

called_with : (ys : List Expr) (P Q : Type 0) → length ys ≢ 1 → TransferBuilt Calling (expressions (map syntax_of ys)) P Q → ⊥
called_with [] P Q many h = h
called_with (y ∷ []) P Q many h = many refl
called_with (y ∷ z ∷ zs) P Q many h = h

resumed_with : (ys : List Expr) (P Q : Type 0) → length ys ≢ 1 → TransferBuilt Resuming (expressions (map syntax_of ys)) P Q → ⊥
resumed_with [] P Q many h = h
resumed_with (y ∷ []) P Q many h = many refl
resumed_with (y ∷ z ∷ zs) P Q many h = h

abbrev Detaches : (line : ℕ) → Part
Detaches line final site p q = (x : ℕ) × At final i.NotNone line p x × At final i.Detach line x q

-- an object, and `detach` of it
detached : (w : Spot) (P Q : Type 0) (A B : Part) (a c d : DraftOf) (line : ℕ) (ys : List Expr) → length ys ≡ 0 → Emits w a c P A → Emits w c d ⊤ (Detaches line)
    → Emits w a d (TransferBuilt Detaching (expressions (map syntax_of ys)) P Q) (λ final site p q. TransferAt final line Detaching (expressions (map syntax_of ys)) (A final site) (B final site) p q)
detached w P Q A B a c d line [] none f g =
    emits_as w (P × ⊤) P _ _ a d (λ h. (h, tt)) (λ h. h.0) (λ final site p q _ _ h. record { x = h.0; y = h.2.0; object = h.1; there = h.2.1; detaches = h.2.2 })
    (emits_then w P ⊤ A (Detaches line) a c d f g)
detached w P Q A B a c d line (y ∷ ys) none f g = absurd (omega (arith, none))

-- an actual parameter, and `call` of it
called : (w : Spot) (s : Source) (P : Type 0) (A : Part) (a c d : DraftOf) (line : ℕ) (ys : List Expr) → length ys ≡ 1
    → Emits w a c (AreBuilt s w.text (expressions (map syntax_of ys))) (λ final site p q. ExprsAt s final site 0 (expressions (map syntax_of ys)) p q) → Emits w c d ⊤ (λ final site p q. At final i.Attach line p q)
    → Emits w a d (TransferBuilt Calling (expressions (map syntax_of ys)) P (AreBuilt s w.text (expressions (map syntax_of ys)))) (λ final site p q. TransferAt final line Calling (expressions (map syntax_of ys)) (A final site) (ExprsAt s final site 0 (expressions (map syntax_of ys))) p q)
called w s P A a c d line [] one f g = absurd (omega (arith, one))
called w s P A a c d line (y ∷ []) one f g =
    emits_as w _ _ _ _ a d (λ h. (h, tt)) (λ h. h.0) (λ final site p q _ _ h. h)
    (emits_then w _ ⊤ (λ final site p q. ExprsAt s final site 0 (expressions (map syntax_of (y ∷ []))) p q) (λ final site p q. At final i.Attach line p q) a c d f g)
called w s P A a c d line (y ∷ z ∷ zs) one f g = absurd (omega (arith, one))

-- an actual parameter, and `resume` of it
resumed : (w : Spot) (s : Source) (P : Type 0) (A : Part) (a c d : DraftOf) (line : ℕ) (ys : List Expr) → length ys ≡ 1
    → Emits w a c (AreBuilt s w.text (expressions (map syntax_of ys))) (λ final site p q. ExprsAt s final site 0 (expressions (map syntax_of ys)) p q) → Emits w c d ⊤ (λ final site p q. At final i.Resume line p q)
    → Emits w a d (TransferBuilt Resuming (expressions (map syntax_of ys)) P (AreBuilt s w.text (expressions (map syntax_of ys)))) (λ final site p q. TransferAt final line Resuming (expressions (map syntax_of ys)) (A final site) (ExprsAt s final site 0 (expressions (map syntax_of ys))) p q)
resumed w s P A a c d line [] one f g = absurd (omega (arith, one))
resumed w s P A a c d line (y ∷ []) one f g =
    emits_as w _ _ _ _ a d (λ h. (h, tt)) (λ h. h.0) (λ final site p q _ _ h. h)
    (emits_then w _ ⊤ (λ final site p q. ExprsAt s final site 0 (expressions (map syntax_of (y ∷ []))) p q) (λ final site p q. At final i.Resume line p q) a c d f g)
resumed w s P A a c d line (y ∷ z ∷ zs) one f g = absurd (omega (arith, one))

module _ (b : Bound) (w : Spot) where
  -- ---- what is written of it

  pub detach_put : (a c d : DraftOf) (token : TokenNo) (k l : ℕ) → k ≡ line_at (source_of b) token.0 → c ≡ with_instr a i.NotNone k → l ≡ line_at (source_of b) token.0 → d ≡ with_instr c i.Detach l → WritesDetach b w a d token
  unfolding WritesDetach
  detach_put a c d token k l ek ec el ed =
      let line = line_at (source_of b) token.0 in
      emits_as w (⊤ × ⊤) ⊤ _ _ a d (λ h. (h, h)) (λ h. h.0) (λ final site p q _ _ h. h)
      (emits_then w ⊤ ⊤ (λ final site p q. At final i.NotNone line p q) (λ final site p q. At final i.Detach line p q) a c d
      (emits_at w a c i.NotNone line (ec ∙ ap (λ z. with_instr a i.NotNone z) ek) (λ z. cc) refl) (emits_at w c d i.Detach line (ed ∙ ap (λ z. with_instr c i.Detach z) el) (λ z. cc) refl))

  abbrev Moves : (a d : DraftOf) → Transfer → Identifier → Expressions → Type 0
  Moves a d t x es =
      Emits w a d (TransferBuilt t es (ThisFoundBuilt (source_of b) w.text (found_at (source_of b) x.token.0)) (AreBuilt (source_of b) w.text es))
      (λ final site p q. TransferAt final (line_at (source_of b) x.token.0) t es (ThisFoundAt (source_of b) final site 0 (found_at (source_of b) x.token.0)) (ExprsAt (source_of b) final site 0 es) p q)

  moves_as : (a d : DraftOf) (t u : Word) (x : Identifier) (ys : List Expr) → t ≡ u → Moves a d (meant u) x (expressions (map syntax_of ys)) → WritesTransfer b w a d t x ys
  unfolding WritesTransfer
  moves_as a d t u x ys is f = subst (λ z. Moves a d (meant z) x (expressions (map syntax_of ys))) (sym is) f

  pub transfer_detach : (a c d : DraftOf) (t : Word) (x : Identifier) (ys : List Expr) → t ≡ word.Detaching → length ys ≡ 0 → WritesThis b w 0 a c x.token → WritesDetach b w c d x.token → WritesTransfer b w a d t x ys
  unfolding WritesThis WritesDetach
  transfer_detach a c d t x ys is none f g =
      let s = source_of b in
      let es = expressions (map syntax_of ys) in
      moves_as a d t word.Detaching x ys is
      (detached w (ThisFoundBuilt s w.text (found_at s x.token.0)) (AreBuilt s w.text es) (λ final site p q. ThisFoundAt s final site 0 (found_at s x.token.0) p q) (λ final site p q. ExprsAt s final site 0 es p q) a c d (line_at s x.token.0) ys none f g)

  pub transfer_detach_with : (a c : DraftOf) (t : Word) (x : Identifier) (ys : List Expr) → t ≡ word.Detaching → length ys ≢ 0 → c ≡ given_up a → WritesTransfer b w a c t x ys
  transfer_detach_with a c t x ys is some ec = moves_as a c t word.Detaching x ys is (emits_nothing w a c _ _ (detached_with ys _ _ some) ec)

  pub transfer_call : (a c d : DraftOf) (t : Word) (x : Identifier) (ys : List Expr) (k : ℕ) → t ≡ word.Calling → length ys ≡ 1 → WritesList b w 0 a c ys → k ≡ line_at (source_of b) x.token.0 → d ≡ with_instr c i.Attach k → WritesTransfer b w a d t x ys
  unfolding WritesList
  transfer_call a c d t x ys k is one f ek ed =
      let s = source_of b in
      let line = line_at s x.token.0 in
      moves_as a d t word.Calling x ys is
      (called w s (ThisFoundBuilt s w.text (found_at s x.token.0)) (λ final site p q. ThisFoundAt s final site 0 (found_at s x.token.0) p q) a c d line ys one f
      (emits_at w c d i.Attach line (ed ∙ ap (λ z. with_instr c i.Attach z) ek) (λ z. cc) refl))

  pub transfer_call_with : (a c : DraftOf) (t : Word) (x : Identifier) (ys : List Expr) → t ≡ word.Calling → length ys ≢ 1 → c ≡ given_up a → WritesTransfer b w a c t x ys
  transfer_call_with a c t x ys is many ec = moves_as a c t word.Calling x ys is (emits_nothing w a c _ _ (called_with ys _ _ many) ec)

  pub transfer_resume : (a c d : DraftOf) (t : Word) (x : Identifier) (ys : List Expr) (k : ℕ) → t ≡ word.Resuming → length ys ≡ 1 → WritesList b w 0 a c ys → k ≡ line_at (source_of b) x.token.0 → d ≡ with_instr c i.Resume k → WritesTransfer b w a d t x ys
  unfolding WritesList
  transfer_resume a c d t x ys k is one f ek ed =
      let s = source_of b in
      let line = line_at s x.token.0 in
      moves_as a d t word.Resuming x ys is
      (resumed w s (ThisFoundBuilt s w.text (found_at s x.token.0)) (λ final site p q. ThisFoundAt s final site 0 (found_at s x.token.0) p q) a c d line ys one f
      (emits_at w c d i.Resume line (ed ∙ ap (λ z. with_instr c i.Resume z) ek) (λ z. cc) refl))

  pub transfer_resume_with : (a c : DraftOf) (t : Word) (x : Identifier) (ys : List Expr) → t ≡ word.Resuming → length ys ≢ 1 → c ≡ given_up a → WritesTransfer b w a c t x ys
  transfer_resume_with a c t x ys is many ec = moves_as a c t word.Resuming x ys is (emits_nothing w a c _ _ (resumed_with ys _ _ many) ec)

  -- ---- behind an object

  pub behind_value : (a c : DraftOf) (o : Object) (x : Identifier) (ys : List Expr) → length ys ≡ 0 → o ≡ object.Value → WritesDetach b w a c x.token → WritesDetachBehind b w a c o x ys
  unfolding WritesDetachBehind WritesDetach Puts
  behind_value a c o x ys none eo f start e before =
      let s = source_of b in
      let es = expressions (map syntax_of ys) in
      let g = subst (λ z. PutsBefore s w 0 start a false z e) eo before in
      detached w (IsBuilt s w.text e) (AreBuilt s w.text es) (λ final site p q. ExprAt s final site 0 e p q) (λ final site p q. ExprsAt s final site 0 es p q) start a c (line_at s x.token.0) ys none g.puts.0 f

  pub behind_stream : (a c : DraftOf) (o : Object) (x : Identifier) (ys : List Expr) (img : ℕ) → o ≡ object.Stream img → c ≡ given_up a → WritesDetachBehind b w a c o x ys
  unfolding WritesDetachBehind
  behind_stream a c o x ys img eo ec start e before =
      let g = subst (λ z. PutsBefore (source_of b) w 0 start a false z e) eo before in
      let same : a ≡ start = g.puts.0 in
      emits_nothing w start c _ _ (λ h. streamless b w 0 e img g.puts.1 (detached_without ys _ _ h)) (ec ∙ ap given_up same)

  pub behind_place : (a c : DraftOf) (o : Object) (x : Identifier) (ys : List Expr) → o ≡ object.Place → c ≡ given_up a → WritesDetachBehind b w a c o x ys
  unfolding WritesDetachBehind
  behind_place a c o x ys eo ec start e before =
      let g = subst (λ z. PutsBefore (source_of b) w 0 start a false z e) eo before in
      let never : false ≡ true = g.placed in absurd (cc)

  pub behind_with : (a c : DraftOf) (o : Object) (x : Identifier) (ys : List Expr) → length ys ≢ 0 → c ≡ given_up a → WritesDetachBehind b w a c o x ys
  unfolding WritesDetachBehind
  behind_with a c o x ys some ec start e before = before_gives_up b w 0 _ _ start a c false o e before (detached_with ys _ _ some) ec

  -- ---- calls that transfer control

  pub call_transferred : (a c : DraftOf) (x : Identifier) (ys : List Expr) (u : Option Denotation) (r : Option Word) (t : Word) → u ≡ denoted (source_of b) x.token.0 → FindsTransfer r u → r ≡ Some t → WritesTransfer b w a c t x ys → WritesCalled b w a c x ys
  unfolding WritesCalled WritesTransfer
  call_transferred a c x ys u r t eu f some g =
      let s = source_of b in
      let es = expressions (map syntax_of ys) in
      let is : transfer_at s x.token.0 ≡ Some (meant t) = at_some s x.token.0 u r t eu f some in
      let drops : denoted_leaves s (denoted s x.token.0) ≡ false = (of_token s x.token.0 (meant t) is).0 in
      subst (NamedCall s w a c x es) (sym is)
      (emits_as w _ _ _ _ a c (λ h. h) (λ h. h) (λ final site p q _ _ h. (q, h, subst (λ z. DropsAt final z q q) (sym drops) refl)) g)

  pub behind_transferred : (a c : DraftOf) (o : Object) (x : Identifier) (ys : List Expr) (u : Option Denotation) (r : Option Word) (t : Word) → u ≡ denoted (source_of b) x.token.0 → FindsTransfer r u → r ≡ Some t → WritesDetachBehind b w a c o x ys → WritesCalledBehind b w a c o x ys
  unfolding WritesCalledBehind WritesDetachBehind
  behind_transferred a c o x ys u r t eu f some g start e token before =
      let s = source_of b in
      let es = expressions (map syntax_of ys) in
      let is : transfer_at s x.token.0 ≡ Some (meant t) = at_some s x.token.0 u r t eu f some in
      let neither = of_token s x.token.0 (meant t) is in
      subst (DotCall s w start c e token x es) (sym is)
      (emits_as w _ _ _ _ start c (λ h. h) (λ h. h) (λ final site p q _ _ h. (q, h, subst (λ z. DropsAt final z q q) (sym neither.0) refl)) (g start e (subst (λ z. PutsBefore s w 0 start a z o e) neither.1 before)))

pub ruleset transfers = (detach_put, transfer_detach, transfer_detach_with, transfer_call, transfer_call_with, transfer_resume, transfer_resume_with, behind_value, behind_stream, behind_place, behind_with, call_transferred, behind_transferred)
