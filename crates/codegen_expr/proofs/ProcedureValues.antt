-- Procedures as values.
use Rattle.std.proofs.Common.{◌≡◌, ℕ, pos, Bool, true, false, Option, Some, None, refl, sym, ap, ◌∙◌, subst}
use Rattle.std.specs.Prelude.{◌&&◌, ⊤}
use Rattle.sim_base.specs.declared.numbering.DeclNo.{DeclNo}
use Rattle.sim_base.specs.declared.numbering.TokenNo.{TokenNo}
use Rattle.sim_scope.specs.declared.bound.Bound.{Bound}
use Rattle.sim_scope.specs.declared.scopes.Denotation.{Denotation}
use Rattle.sim_scope.specs.declared.scopes.Denotation.TheVariants as denotation
use Rattle.sim_scope.specs.declared.standard.StandardName.{StandardName}
use Rattle.sim_scope.specs.declared.types.Entry.{Entry}
use Rattle.sim_scope.specs.declared.types.Entry.TheVariants as entry
use Rattle.sim_scope.specs.declared.types.FormalKind.{FormalKind}
use Rattle.sim_scope.specs.declared.types.FormalKind.TheVariants as shape
use Rattle.sim_scope.specs.declared.types.Mode.{Mode}
use Rattle.sim_scope.specs.declared.types.Mode.TheVariants as mode
use Rattle.sim_scope.specs.Scopes.{entry_of}
use Rattle.sim_scope.specs.Source.{block_of, denoted, level_of, line_at, source_of}
use Rattle.sim_tree.specs.declared.expr.Identifier.{Identifier}
use Rattle.sim_code.specs.declared.instr.Instr.{Instr}
use Rattle.sim_code.specs.declared.instr.Instr.TheVariants as i
use Rattle.sim_meaning.specs.Attributes.{connection_at}
use Rattle.codegen_expr.specs.declared.operators.Object.{Object}
use Rattle.codegen_expr.specs.declared.operators.Object.TheVariants as object
use Rattle.codegen_expr.specs.declared.operators.Seen.{Seen}
use Rattle.codegen_expr.specs.declared.operators.Seen.TheVariants as seen
use Rattle.codegen_expr.specs.declared.spot.Spot.{Spot}
use Rattle.codegen_expr.specs.Built.{CellBuilt, ConnectedBuilt, FormalValueBuilt, ProcedureBehindBuilt, ProcedureEntryBuilt, ProcedureNamedBuilt, ProcedureOfObjectBuilt, StandsIn, ThroughBuilt}
use Rattle.codegen_expr.specs.CodeExpr.{ConnectedAt, FormalProcedureAt, FormalValueAt, ProcedureBehindAt, ProcedureEntryAt, ProcedureNamedAt, ProcedureOfObjectAt, ThisAt, ThroughAt}
use Rattle.codegen_expr.specs.Drafts.{DraftOf, Emits, given_up, with_instr}
use Rattle.codegen_expr.specs.Emit.{Puts, PutsBefore, WritesCell, WritesLink, WritesLinkTo, WritesNameWhole, WritesUse, attribute_seen, lies, moves_denoted, parameter_seen, seen_formal, seen_of}
use Rattle.codegen_expr.specs.EmitObjects.{Base, BaseAt, BaseBuilt, OfConnection, OfValue, PutsBase, WritesObjectOf}
use Rattle.codegen_expr.specs.EmitVirtuals.{ValueOfAt, ValueOfBuilt, ValueSeenAt, ValueSeenBuilt, WritesHeld, WritesMatch, WritesProcedureDot, WritesProcedureNamed, WritesProcedureOf, WritesProcedureSeen, WritesValueOf, WritesValueSeen}
use Rattle.codegen_expr.specs.Sites.{At, Inside, Pushes, block_number}
use Rattle.codegen_expr.proofs.Matched.{match_found}
use Rattle.codegen_expr.proofs.OfObjects.{gives_up}
use Rattle.codegen_expr.proofs.Pieces.{emits_as, emits_at, emits_nothing, emits_then}
use Rattle.codegen_expr.proofs.Taken.{before_gives_up, streamless}

module _ (b : Bound) (w : Spot) (n : ℕ) where
  -- ---- formal parameters

  pub held_by_name : (a c : DraftOf) (token : TokenNo) (d : DeclNo) (t : Bool) → t ≡ true → WritesNameWhole b w n a c token d → WritesHeld b w n a c token d t
  unfolding WritesHeld WritesNameWhole WritesUse
  held_by_name a c token d t et f = subst (λ z. Emits w a c (CellBuilt (source_of b) w.text d) (λ final site p q. FormalProcedureAt (source_of b) final site n (line_at (source_of b) token.0) d z p q)) (sym et) f

  pub held_in_cell : (a c : DraftOf) (token : TokenNo) (d : DeclNo) (t : Bool) → t ≡ false → WritesCell b w n a c d → WritesHeld b w n a c token d t
  unfolding WritesHeld WritesCell
  held_in_cell a c token d t et f = subst (λ z. Emits w a c (CellBuilt (source_of b) w.text d) (λ final site p q. FormalProcedureAt (source_of b) final site n (line_at (source_of b) token.0) d z p q)) (sym et) f

  -- ---- of objects

  abbrev Of : (start c : DraftOf) → TokenNo → Base → Option Denotation → Type 0
  Of start c token x o = Emits w start c (ProcedureBehindBuilt (source_of b) o (BaseBuilt (source_of b) w.text x)) (λ final site p q. ProcedureBehindAt (source_of b) final (line_at (source_of b) token.0) o (λ u v. BaseAt (source_of b) final site n x u v) p q)

  abbrev OfSeen : (start c : DraftOf) → TokenNo → DeclNo → Base → Seen → Type 0
  OfSeen start c token d x k = Emits w start c (ValueOfBuilt k (BaseBuilt (source_of b) w.text x)) (λ final site p q. ValueOfAt (source_of b) final (line_at (source_of b) token.0) d k (λ u v. BaseAt (source_of b) final site n x u v) p q)

  pub value_remote : (a c0 c : DraftOf) (token : TokenNo) (d : DeclNo) (k : Seen) (block number line : ℕ) (x : Instr) → k ≡ seen.Call block → line ≡ line_at (source_of b) token.0 → c0 ≡ with_instr a i.NotNone line → number ≡ block_number (source_of b) block → x ≡ i.ProcVal (pos number) → c ≡ with_instr c0 x 0 → WritesValueOf b w n a c token d k
  unfolding WritesValueOf PutsBase
  value_remote a c0 c token d k block number line x is el e0 en ex ec start y h =
      let s = source_of b in
      let ln = line_at s token.0 in
      let value = i.ProcVal (pos (block_number s block)) in
      let at : x ≡ value = ex ∙ ap (λ z. i.ProcVal (pos z)) en in
      subst (OfSeen start c token d y) (sym is)
      (emits_as w _ _ _ _ start c (λ t. (t, (tt, tt))) (λ t. t.0) (λ final site p q _ _ r. record { x = r.0; y = r.2.0; object = r.1; there = r.2.1; value = record { line = 0; is = r.2.2 } })
      (emits_then w _ _ (λ z site p q. BaseAt s z site n y p q) (λ z site p q. (u : ℕ) × At z i.NotNone ln p u × At z value 0 u q) start a c h
      (emits_then w _ _ (λ z site. At z i.NotNone ln) (λ z site. At z value 0) a c0 c (emits_at w a c0 i.NotNone ln (e0 ∙ ap (λ z. with_instr a i.NotNone z) el) (λ z. cc) refl)
      (emits_at w c0 c value 0 (ec ∙ ap (λ z. with_instr c0 z 0) at) (λ z. cc) refl))))

  pub value_matched : (a c : DraftOf) (token : TokenNo) (d : DeclNo) (k : Seen) → k ≡ seen.Virtual → WritesMatch b a c token d → WritesValueOf b w n a c token d k
  unfolding WritesValueOf PutsBase
  value_matched a c token d k is f start y h =
      subst (OfSeen start c token d y) (sym is) (match_found b w (BaseBuilt (source_of b) w.text y) (λ final site p q. BaseAt (source_of b) final site n y p q) start a c token d h f)

  pub value_of_variable : (a c : DraftOf) (token : TokenNo) (d : DeclNo) (k : Seen) → k ≡ seen.Variable → c ≡ given_up a → WritesValueOf b w n a c token d k
  unfolding WritesValueOf PutsBase
  value_of_variable a c token d k is ec start y h = subst (OfSeen start c token d y) (sym is) (gives_up b w n _ _ _ _ start a c h (λ t. t) ec)

  pub value_of_constant : (a c : DraftOf) (token : TokenNo) (d : DeclNo) (k : Seen) → k ≡ seen.Constant → c ≡ given_up a → WritesValueOf b w n a c token d k
  unfolding WritesValueOf PutsBase
  value_of_constant a c token d k is ec start y h = subst (OfSeen start c token d y) (sym is) (gives_up b w n _ _ _ _ start a c h (λ t. t) ec)

  pub value_of_array : (a c : DraftOf) (token : TokenNo) (d : DeclNo) (k : Seen) → k ≡ seen.Array → c ≡ given_up a → WritesValueOf b w n a c token d k
  unfolding WritesValueOf PutsBase
  value_of_array a c token d k is ec start y h = subst (OfSeen start c token d y) (sym is) (gives_up b w n _ _ _ _ start a c h (λ t. t) ec)

  pub value_of_named : (a c : DraftOf) (token : TokenNo) (d : DeclNo) (k : Seen) → k ≡ seen.Named → c ≡ given_up a → WritesValueOf b w n a c token d k
  unfolding WritesValueOf PutsBase
  value_of_named a c token d k is ec start y h = subst (OfSeen start c token d y) (sym is) (gives_up b w n _ _ _ _ start a c h (λ t. t) ec)

  pub value_of_named_array : (a c : DraftOf) (token : TokenNo) (d : DeclNo) (k : Seen) → k ≡ seen.NamedArray → c ≡ given_up a → WritesValueOf b w n a c token d k
  unfolding WritesValueOf PutsBase
  value_of_named_array a c token d k is ec start y h = subst (OfSeen start c token d y) (sym is) (gives_up b w n _ _ _ _ start a c h (λ t. t) ec)

  pub value_of_formal : (a c : DraftOf) (token : TokenNo) (d : DeclNo) (k : Seen) (named : Bool) → k ≡ seen.Procedure named → c ≡ given_up a → WritesValueOf b w n a c token d k
  unfolding WritesValueOf PutsBase
  value_of_formal a c token d k named is ec start y h = subst (OfSeen start c token d y) (sym is) (gives_up b w n _ _ _ _ start a c h (λ t. t) ec)

  pub value_of_nothing : (a c : DraftOf) (token : TokenNo) (d : DeclNo) (k : Seen) → k ≡ seen.Nothing → c ≡ given_up a → WritesValueOf b w n a c token d k
  unfolding WritesValueOf PutsBase
  value_of_nothing a c token d k is ec start y h = subst (OfSeen start c token d y) (sym is) (gives_up b w n _ _ _ _ start a c h (λ t. t) ec)

  entry_value : (start c : DraftOf) (token : TokenNo) (d : DeclNo) (y : Base) (k : Option Entry) → OfSeen start c token d y (attribute_seen k)
      → Emits w start c (ProcedureOfObjectBuilt k (BaseBuilt (source_of b) w.text y)) (λ final site p q. ProcedureOfObjectAt (source_of b) final (line_at (source_of b) token.0) d k (λ u v. BaseAt (source_of b) final site n y u v) p q)
  entry_value start c token d y None f = f
  entry_value start c token d y (Some (entry.Variable type)) f = f
  entry_value start c token d y (Some (entry.Constant type)) f = f
  entry_value start c token d y (Some (entry.Array element dimensions)) f = f
  entry_value start c token d y (Some (entry.Procedure result block)) f = f
  entry_value start c token d y (Some (entry.Class text)) f = f
  entry_value start c token d y (Some (entry.Virtual result own)) f = f
  entry_value start c token d y (Some (entry.Unspecified written)) f = f
  entry_value start c token d y (Some (entry.Attribute name parameter result)) f = f
  entry_value start c token d y (Some (entry.Formal x)) f = formal x.kind f
    where
      formal : (k : FormalKind) → OfSeen start c token d y (parameter_seen k) → Emits w start c ⊥ (λ final site p q. ⊥)
      formal shape.Simple f = f
      formal shape.Array f = f
      formal shape.Procedure f = f

  pub procedure_of : (a c : DraftOf) (token : TokenNo) (o : Option Denotation) (d : DeclNo) (k : Option Entry) (x : Seen) → o ≡ denoted (source_of b) token.0 → o ≡ Some (denotation.Declared d) → k ≡ entry_of b.scopes d → x ≡ attribute_seen k → WritesValueOf b w n a c token d x → WritesProcedureOf b w n a c token
  unfolding WritesProcedureOf WritesValueOf source_of
  procedure_of a c token o d k x eo some ek ex f start y h =
      let s = source_of b in
      subst (Of start c token y) (sym some ∙ eo) (entry_value start c token d y (entry_of s.tables d) (subst (OfSeen start c token d y) (ex ∙ ap attribute_seen ek) (f start y h)))

  pub procedure_of_standard : (a c : DraftOf) (token : TokenNo) (o : Option Denotation) (x : StandardName) → o ≡ denoted (source_of b) token.0 → o ≡ Some (denotation.Standard x) → c ≡ given_up a → WritesProcedureOf b w n a c token
  unfolding WritesProcedureOf PutsBase
  procedure_of_standard a c token o x eo some ec start y h = subst (Of start c token y) (sym some ∙ eo) (gives_up b w n _ _ _ _ start a c h (λ t. t) ec)

  pub procedure_of_undeclared : (a c : DraftOf) (token : TokenNo) (o : Option Denotation) → o ≡ denoted (source_of b) token.0 → o ≡ None → c ≡ given_up a → WritesProcedureOf b w n a c token
  unfolding WritesProcedureOf PutsBase
  procedure_of_undeclared a c token o eo none ec start y h = subst (Of start c token y) (sym none ∙ eo) (gives_up b w n _ _ _ _ start a c h (λ t. t) ec)

  -- ---- behind what stands before a dot

  pub behind_value : (a c : DraftOf) (o : Object) (x : Identifier) → o ≡ object.Value → WritesProcedureOf b w n a c x.token → WritesProcedureDot b w n a c o x
  unfolding WritesProcedureDot WritesProcedureOf PutsBase Puts
  behind_value a c o x eo f start e before =
      let g = subst (λ z. PutsBefore (source_of b) w n start a (moves_denoted (denoted (source_of b) x.token.0)) z e) eo before in
      f start (OfValue e) g.puts.0

  object_there : (o : Option Denotation) (P : Type 0) → ProcedureBehindBuilt (source_of b) o P → P
  object_there None P h = absurd h
  object_there (Some (denotation.Standard x)) P h = absurd h
  object_there (Some (denotation.Declared d)) P h = by (entry_of (source_of b).tables d) h
    where
      by : (k : Option Entry) → ProcedureOfObjectBuilt k P → P
      by None h = absurd h
      by (Some (entry.Variable type)) h = absurd h
      by (Some (entry.Constant type)) h = absurd h
      by (Some (entry.Array element dimensions)) h = absurd h
      by (Some (entry.Procedure result block)) h = h
      by (Some (entry.Class text)) h = absurd h
      by (Some (entry.Virtual result own)) h = h
      by (Some (entry.Unspecified written)) h = absurd h
      by (Some (entry.Attribute name parameter result)) h = absurd h
      by (Some (entry.Formal x)) h = absurd h

  pub behind_stream : (a c : DraftOf) (o : Object) (x : Identifier) (img : ℕ) → o ≡ object.Stream img → c ≡ given_up a → WritesProcedureDot b w n a c o x
  unfolding WritesProcedureDot
  behind_stream a c o x img eo ec start e before =
      let g = subst (λ z. PutsBefore (source_of b) w n start a (moves_denoted (denoted (source_of b) x.token.0)) z e) eo before in
      let same : a ≡ start = g.puts.0 in
      emits_nothing w start c _ _ (λ h. streamless b w n e img g.puts.1 (object_there (denoted (source_of b) x.token.0) _ h)) (ec ∙ ap given_up same)

  -- where the text lies in which a position is moved there is no procedure
  moves_nothing : (o : Option Denotation) (P : Type 0) → moves_denoted o ≡ true → ProcedureBehindBuilt (source_of b) o P → ⊥
  moves_nothing None P moved h = h
  moves_nothing (Some (denotation.Standard x)) P moved h = h
  moves_nothing (Some (denotation.Declared d)) P moved h = cc

  both_of : (m p : Bool) → (m && p) ≡ true → m ≡ true
  both_of true p h = refl
  both_of false p h = h

  pub behind_place : (a c : DraftOf) (o : Object) (x : Identifier) → o ≡ object.Place → c ≡ given_up a → WritesProcedureDot b w n a c o x
  unfolding WritesProcedureDot
  behind_place a c o x eo ec start e before =
      let g = subst (λ z. PutsBefore (source_of b) w n start a (moves_denoted (denoted (source_of b) x.token.0)) z e) eo before in
      before_gives_up b w n _ _ start a c _ object.Place e g (moves_nothing (denoted (source_of b) x.token.0) _ (both_of (moves_denoted (denoted (source_of b) x.token.0)) (lies (source_of b) e) g.placed)) ec

  -- ---- without a dot

  abbrev InSeen : (a c : DraftOf) → TokenNo → DeclNo → Seen → Type 0
  InSeen a c token d k = Emits w a c (ValueSeenBuilt (source_of b) w.text d k) (λ final site p q. ValueSeenAt (source_of b) final site n (line_at (source_of b) token.0) d k p q)

  pub value_declared : (a c0 c : DraftOf) (token : TokenNo) (d : DeclNo) (k : Seen) (block number : ℕ) (x : Instr) → k ≡ seen.Call block → WritesLink b w n a c0 d → number ≡ block_number (source_of b) block → x ≡ i.ProcVal (pos number) → c ≡ with_instr c0 x 0 → WritesValueSeen b w n a c token d k
  unfolding WritesValueSeen WritesLink WritesLinkTo
  value_declared a c0 c token d k block number x is f en ex ec =
      let s = source_of b in
      let value = i.ProcVal (pos (block_number s block)) in
      let at : x ≡ value = ex ∙ ap (λ z. i.ProcVal (pos z)) en in
      subst (InSeen a c token d) (sym is)
      (emits_as w _ _ _ _ a c (λ t. (t, tt)) (λ t. t.0) (λ final site p q _ _ r. record { x = r.0; link = r.1.0; inside = r.1.1; value = record { line = 0; is = r.2 } })
      (emits_then w _ ⊤ (λ z site p q. Pushes z site n (i.Link (pos (level_of s (block_of s d)))) p q × Inside s.tables site.text (block_of s d)) (λ z site. At z value 0) a c0 c f
      (emits_at w c0 c value 0 (ec ∙ ap (λ z. with_instr c0 z 0) at) (λ z. cc) refl)))

  pub value_virtual : (a c0 c : DraftOf) (token : TokenNo) (d : DeclNo) (k : Seen) (m : ℕ) → k ≡ seen.Virtual → m ≡ block_of (source_of b) d → WritesObjectOf b w n a c0 m → WritesMatch b c0 c token d → WritesValueSeen b w n a c token d k
  unfolding WritesValueSeen WritesObjectOf
  value_virtual a c0 c token d k m is em f g =
      let s = source_of b in
      let f' = subst (λ z. Emits w a c0 (StandsIn s w.text z) (λ final site p q. ThisAt s final site n z p q)) em f in
      subst (InSeen a c token d) (sym is) (match_found b w (StandsIn s w.text (block_of s d)) (λ final site p q. ThisAt s final site n (block_of s d) p q) a c0 c token d f' g)

  pub value_held : (a c : DraftOf) (token : TokenNo) (d : DeclNo) (k : Seen) (named : Bool) → k ≡ seen.Procedure named → WritesHeld b w n a c token d named → WritesValueSeen b w n a c token d k
  unfolding WritesValueSeen WritesHeld
  value_held a c token d k named is f = subst (InSeen a c token d) (sym is) f

  pub value_in_variable : (a c : DraftOf) (token : TokenNo) (d : DeclNo) (k : Seen) → k ≡ seen.Variable → c ≡ given_up a → WritesValueSeen b w n a c token d k
  unfolding WritesValueSeen
  value_in_variable a c token d k is ec = subst (InSeen a c token d) (sym is) (emits_nothing w a c _ _ (λ t. t) ec)

  pub value_in_constant : (a c : DraftOf) (token : TokenNo) (d : DeclNo) (k : Seen) → k ≡ seen.Constant → c ≡ given_up a → WritesValueSeen b w n a c token d k
  unfolding WritesValueSeen
  value_in_constant a c token d k is ec = subst (InSeen a c token d) (sym is) (emits_nothing w a c _ _ (λ t. t) ec)

  pub value_in_array : (a c : DraftOf) (token : TokenNo) (d : DeclNo) (k : Seen) → k ≡ seen.Array → c ≡ given_up a → WritesValueSeen b w n a c token d k
  unfolding WritesValueSeen
  value_in_array a c token d k is ec = subst (InSeen a c token d) (sym is) (emits_nothing w a c _ _ (λ t. t) ec)

  pub value_in_named : (a c : DraftOf) (token : TokenNo) (d : DeclNo) (k : Seen) → k ≡ seen.Named → c ≡ given_up a → WritesValueSeen b w n a c token d k
  unfolding WritesValueSeen
  value_in_named a c token d k is ec = subst (InSeen a c token d) (sym is) (emits_nothing w a c _ _ (λ t. t) ec)

  pub value_in_named_array : (a c : DraftOf) (token : TokenNo) (d : DeclNo) (k : Seen) → k ≡ seen.NamedArray → c ≡ given_up a → WritesValueSeen b w n a c token d k
  unfolding WritesValueSeen
  value_in_named_array a c token d k is ec = subst (InSeen a c token d) (sym is) (emits_nothing w a c _ _ (λ t. t) ec)

  pub value_in_nothing : (a c : DraftOf) (token : TokenNo) (d : DeclNo) (k : Seen) → k ≡ seen.Nothing → c ≡ given_up a → WritesValueSeen b w n a c token d k
  unfolding WritesValueSeen
  value_in_nothing a c token d k is ec = subst (InSeen a c token d) (sym is) (emits_nothing w a c _ _ (λ t. t) ec)

  seen_value : (a c : DraftOf) (token : TokenNo) (d : DeclNo) (k : Option Entry) → InSeen a c token d (seen_of k) → Emits w a c (ProcedureEntryBuilt (source_of b) w.text d k) (λ final site p q. ProcedureEntryAt (source_of b) final site n (line_at (source_of b) token.0) d k p q)
  seen_value a c token d None f = f
  seen_value a c token d (Some (entry.Variable type)) f = f
  seen_value a c token d (Some (entry.Constant type)) f = f
  seen_value a c token d (Some (entry.Array element dimensions)) f = f
  seen_value a c token d (Some (entry.Procedure result block)) f = f
  seen_value a c token d (Some (entry.Class text)) f = f
  seen_value a c token d (Some (entry.Virtual result own)) f = f
  seen_value a c token d (Some (entry.Unspecified written)) f = f
  seen_value a c token d (Some (entry.Attribute name parameter result)) f = f
  seen_value a c token d (Some (entry.Formal x)) f = formal x.mode x.kind f
    where
      formal : (m : Mode) (k : FormalKind) → InSeen a c token d (seen_formal m k) → Emits w a c (FormalValueBuilt (source_of b) w.text d k) (λ final site p q. FormalValueAt (source_of b) final site n (line_at (source_of b) token.0) d m k p q)
      formal mode.ByName shape.Simple f = f
      formal mode.ByName shape.Array f = f
      formal mode.ByName shape.Procedure f = f
      formal mode.ByValue shape.Simple f = f
      formal mode.ByValue shape.Array f = f
      formal mode.ByValue shape.Procedure f = f
      formal mode.ByReference shape.Simple f = f
      formal mode.ByReference shape.Array f = f
      formal mode.ByReference shape.Procedure f = f

  abbrev Named' : (a c : DraftOf) → TokenNo → Option Denotation → Type 0
  Named' a c token o = Emits w a c (ProcedureNamedBuilt (source_of b) w.text o) (λ final site p q. ProcedureNamedAt (source_of b) final site n (line_at (source_of b) token.0) o p q)

  pub procedure_named : (a c : DraftOf) (token : TokenNo) (o : Option Denotation) (d : DeclNo) (k : Option Entry) (x : Seen) → o ≡ denoted (source_of b) token.0 → o ≡ Some (denotation.Declared d) → k ≡ entry_of b.scopes d → x ≡ seen_of k → WritesValueSeen b w n a c token d x → WritesProcedureNamed b w n a c token
  unfolding WritesProcedureNamed WritesValueSeen source_of
  procedure_named a c token o d k x eo some ek ex f =
      subst (Named' a c token) (sym some ∙ eo) (seen_value a c token d (entry_of (source_of b).tables d) (subst (InSeen a c token d) (ex ∙ ap seen_of ek) f))

  pub procedure_standard : (a c : DraftOf) (token : TokenNo) (o : Option Denotation) (x : StandardName) → o ≡ denoted (source_of b) token.0 → o ≡ Some (denotation.Standard x) → c ≡ given_up a → WritesProcedureNamed b w n a c token
  unfolding WritesProcedureNamed
  procedure_standard a c token o x eo some ec = subst (Named' a c token) (sym some ∙ eo) (emits_nothing w a c _ _ (λ t. t) ec)

  pub procedure_undeclared : (a c : DraftOf) (token : TokenNo) (o : Option Denotation) → o ≡ denoted (source_of b) token.0 → o ≡ None → c ≡ given_up a → WritesProcedureNamed b w n a c token
  unfolding WritesProcedureNamed
  procedure_undeclared a c token o eo none ec = subst (Named' a c token) (sym none ∙ eo) (emits_nothing w a c _ _ (λ t. t) ec)

  abbrev Through' : (a c : DraftOf) → Identifier → (connection : Option ℕ) → Type 0
  Through' a c x o =
      Emits w a c (ThroughBuilt o (λ k. ProcedureBehindBuilt (source_of b) (denoted (source_of b) x.token.0) (ConnectedBuilt (source_of b) w.text k)) (ProcedureNamedBuilt (source_of b) w.text (denoted (source_of b) x.token.0)))
      (λ final site p q. ThroughAt o (λ k. ProcedureBehindAt (source_of b) final (line_at (source_of b) x.token.0) (denoted (source_of b) x.token.0) (ConnectedAt (source_of b) final site n k)) (ProcedureNamedAt (source_of b) final site n (line_at (source_of b) x.token.0) (denoted (source_of b) x.token.0)) p q)

  pub procedure_connected : (a c0 c : DraftOf) (x : Identifier) (o : Option ℕ) (k : ℕ) → o ≡ connection_at (source_of b) x.token.0 → o ≡ Some k → PutsBase (source_of b) w n a c0 (OfConnection k) → WritesProcedureOf b w n c0 c x.token → WritesProcedureSeen b w n a c x
  unfolding WritesProcedureSeen WritesProcedureOf
  procedure_connected a c0 c x o k eo some f g = subst (Through' a c x) (sym some ∙ eo) (g a (OfConnection k) f)

  pub procedure_unconnected : (a c : DraftOf) (x : Identifier) (o : Option ℕ) → o ≡ connection_at (source_of b) x.token.0 → o ≡ None → WritesProcedureNamed b w n a c x.token → WritesProcedureSeen b w n a c x
  unfolding WritesProcedureSeen WritesProcedureNamed
  procedure_unconnected a c x o eo none f = subst (Through' a c x) (sym none ∙ eo) f

pub ruleset procedures = (held_by_name, held_in_cell, value_remote, value_matched, value_of_variable, value_of_constant, value_of_array, value_of_named, value_of_named_array, value_of_formal, value_of_nothing, procedure_of, procedure_of_standard, procedure_of_undeclared, behind_value, behind_stream, behind_place, value_declared, value_virtual, value_held, value_in_variable, value_in_constant, value_in_array, value_in_named, value_in_named_array, value_in_nothing, procedure_named, procedure_standard, procedure_undeclared, procedure_connected, procedure_unconnected)
