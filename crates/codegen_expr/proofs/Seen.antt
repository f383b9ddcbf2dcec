-- Identifiers with their operands.
use Rattle.std.proofs.Common.{◌≡◌, ◌≢◌, ◌<◌, ℕ, pos, suc, Bool, List, [], ◌∷◌, length, map, Option, Some, None, true, false, refl, sym, ap, ◌∙◌, subst, arith}
use Rattle.std.specs.Prelude.{⊤}
use Rattle.sim_base.specs.declared.numbering.DeclNo.{DeclNo}
use Rattle.sim_base.specs.declared.numbering.TokenNo.{TokenNo}
use Rattle.sim_scope.specs.declared.bound.Bound.{Bound}
use Rattle.sim_scope.specs.declared.scopes.Denotation.{Denotation}
use Rattle.sim_scope.specs.declared.scopes.Denotation.TheVariants as denotation
use Rattle.sim_scope.specs.declared.standard.StandardName.{StandardName}
use Rattle.sim_scope.specs.declared.types.Entry.{Entry}
use Rattle.sim_scope.specs.declared.types.Entry.TheVariants as entry
use Rattle.sim_scope.specs.declared.types.Formal.{Formal}
use Rattle.sim_scope.specs.declared.types.FormalKind.{FormalKind}
use Rattle.sim_scope.specs.declared.types.FormalKind.TheVariants as shape
use Rattle.sim_scope.specs.declared.types.Mode.{Mode}
use Rattle.sim_scope.specs.declared.types.Mode.TheVariants as mode
use Rattle.sim_scope.specs.declared.types.SimType.{SimType}
use Rattle.sim_scope.specs.Scopes.{block_in, entry_of, formals_of}
use Rattle.sim_scope.specs.Scopes.{formals_at as formals_at_block}
use Rattle.sim_scope.specs.Source.{Source, block_of, denoted, found_at, level_of, line_at, source_of}
use Rattle.sim_tree.specs.declared.expr.Expr.{Expr}
use Rattle.sim_tree.specs.declared.expr.Identifier.{Identifier}
use Rattle.sim_tree.specs.Syntax.{Expression, Expressions, NoMore, Then, expressions}
use Rattle.sim_tree.specs.SyntaxOf.{syntax_of}
use Rattle.sim_values.specs.declared.standard.Standard.TheVariants as name_of
use Rattle.sim_values.specs.Plain.{Plain}
use Rattle.sim_values.specs.Standard.{row_of}
use Rattle.sim_code.specs.declared.instr.Instr.{Instr}
use Rattle.sim_code.specs.declared.instr.Instr.TheVariants as i
use Rattle.sim_code.specs.Code.{CodeOf}
use Rattle.sim_meaning.specs.Attributes.{connection_at, own_attribute}
use Rattle.sim_meaning.specs.Closing.{class_passed, formals_at, formals_declared, formals_from, is_text_type}
use Rattle.sim_meaning.specs.Texts.{constant_of}
use Rattle.codegen_expr.specs.declared.operators.Passed.{Passed}
use Rattle.codegen_expr.specs.declared.operators.Passed.TheVariants as passed
use Rattle.codegen_expr.specs.declared.operators.Seen.{Seen}
use Rattle.codegen_expr.specs.declared.operators.Seen.TheVariants as seen
use Rattle.codegen_expr.specs.declared.spot.Spot.{Spot}
use Rattle.codegen_expr.specs.Built.{ActualBuilt, ActualsBuilt, AreBuilt, CallBuilt, CellBuilt, PassedBuilt, ProcedureBuilt, ConnectedNameBuilt, ConstantBuilt, DeclaredBuilt, IsBuilt, FormalBuilt, NamedBuilt, OfObjectBuilt, OwnBuilt, OwnNameBuilt, StandsIn, ThisFoundBuilt, ThroughBuilt, is_around}
use Rattle.codegen_expr.specs.CodeExpr.{Checked, FormalProcedureAt, Listed, MatchAt, NamedElementAt, Parameters, PassedAt, ProcedureAt, ValueCallAt, parameters_at, ActualAt, ActualsAt, CallAt, ConnectedNameAt, DeclaredAt, ElementAt, ExprAt, ExprsAt, FittingAt, FormalAt, HeldAt, NamedAt, OfObjectAt, OwnAt, OwnNameAt, StandardIs, ThisAt, ThisFoundAt, ThroughAt, ThunkAt, gives, operands}
use Rattle.codegen_expr.specs.Drafts.{DraftOf, Emits, given_up, with_instr, with_push}
use Rattle.codegen_expr.specs.Emit.{GivenBuilt, OwesActuals, Puts, PutsNamed, PutsOwn, PutsSeen, PutsUnconnected, SeenAt, SeenBuilt, ThunkGivesAt, Writes, WritesActual, WritesActuals, WritesCall, WritesCell, WritesConstant, WritesElement, WritesGiving, WritesLink, WritesLinkTo, WritesName, WritesNameWhole, WritesNamed, WritesNamedElement, WritesOwn, WritesPassed, WritesSeen, WritesStandard, WritesThrough, WritesThunk, WritesUnconnected, WritesUse, formals_of_block, passed_of, seen_formal, seen_of}
use Rattle.codegen_expr.specs.EmitObjects.{OfConnection, PutsBase, WritesFit, WritesObjectOf, WritesOf}
use Rattle.codegen_expr.specs.EmitVirtuals.{WritesHeld, WritesMatch, WritesProcedure, WritesValueCall}
use Rattle.codegen_expr.specs.Sites.{At, Inside, Pushes, Site, block_number, class_number}
use Rattle.codegen_expr.proofs.Around.{inside}
use Rattle.codegen_expr.proofs.Pieces.{emits_as, emits_at, emits_none, emits_nothing, emits_push, emits_push_at, emits_then}
use Rattle.codegen_expr.proofs.Matched.{match_found}

abbrev Place : Type 1
Place = CodeOf → Site → ℕ → ℕ → Type 0

-- what thunks give
abbrev Gift : Type 1
Gift = CodeOf → Bool → Site → ℕ → ℕ → Type 0

pub block_formals : (s : Source) (d : DeclNo) (result : Option SimType) (block : ℕ) → Some (entry.Procedure result block) ≡ entry_of s.tables d → formals_of_block s block ≡ formals_at s d
unfolding formals_of
block_formals s d result block e = ap (λ k. formals_from s (formals_at_block s.tables (block_in k))) e ∙ ap (formals_declared s d) e

pub count : (es : List Expr) → operands (expressions (map syntax_of es)) ≡ length es
count [] = refl
count (x ∷ xs) = ap suc (count xs)

module _ (b : Bound) (w : Spot) (n : ℕ) where
  -- ---- calls

  pub to_link : (a c : DraftOf) (k m : ℕ) (x : Instr) → is_around b.scopes (length b.scopes.blocks) w.text k ≡ true → m ≡ level_of (source_of b) k → x ≡ i.Link (pos m) → c ≡ with_push a n x 0 → WritesLinkTo b w n a c k
  unfolding WritesLinkTo source_of
  to_link a c k m x around em ex ec =
      let s = source_of b in
      let at : x ≡ i.Link (pos (level_of s k)) = ex ∙ ap (λ z. i.Link (pos z)) em in
      let is : Inside s.tables w.text k = inside s.tables k (length s.tables.blocks) w.text around in
      emits_as w _ _ _ _ a c (λ t. tt) (λ t. record { found = around }) (λ final site p q stands _ r. (r, subst (λ z. Inside s.tables z k) (sym stands) is))
      (emits_push w a c n (i.Link (pos (level_of s k))) 0 (ec ∙ ap (λ z. with_push a n z 0) at) (λ z. cc) refl)

  pub to_no_link : (a c : DraftOf) (k : ℕ) → is_around b.scopes (length b.scopes.blocks) w.text k ≡ false → c ≡ given_up a → WritesLinkTo b w n a c k
  unfolding WritesLinkTo source_of
  to_no_link a c k out ec = emits_nothing w a c _ _ (λ h. let t : is_around b.scopes (length b.scopes.blocks) w.text k ≡ true = h.found in cc) ec

  pub link_declared : (a c : DraftOf) (d : DeclNo) (block : ℕ) → block ≡ block_of (source_of b) d → WritesLinkTo b w n a c block → WritesLink b w n a c d
  unfolding WritesLink
  link_declared a c d block eb f = subst (WritesLinkTo b w n a c) eb f

  pub see_call : (a c0 c1 c : DraftOf) (token : TokenNo) (d : DeclNo) (block : ℕ) (es : List Expr) (fs : List Formal) (m k line : ℕ) (x : Instr) (number : ℕ) → m ≡ suc n → WritesLink b w n a c0 d → fs ≡ formals_of_block (source_of b) block → WritesActuals b w m c0 c1 false token es fs → number ≡ block_number (source_of b) block → k ≡ length es → x ≡ i.Call (pos number) (pos k) → line ≡ line_at (source_of b) token.0 → c ≡ with_instr c1 x line → WritesCall b w n a c token d block es
  unfolding WritesCall WritesSeen PutsSeen WritesLink WritesLinkTo WritesActuals
  see_call a c0 c1 c token d block ys fs m k line x number em f ef g en ek ex el ec =
      let s = source_of b in
      let es = expressions (map syntax_of ys) in
      let is : i.Call (pos (block_number s block)) (pos (operands es)) ≢ i.Halt = λ z. cc in
      let at : x ≡ i.Call (pos (block_number s block)) (pos (operands es)) = ex ∙ ap (λ z. i.Call (pos z) (pos k)) en ∙ ap (λ z. i.Call (pos (block_number s block)) (pos z)) (ek ∙ sym (count ys)) in
      let g1 = subst (λ z. Emits w c0 c1 (ActualsBuilt s w.text es (Listed fs)) (λ final site p q. ActualsAt s final site z (line_at s token.0) false es (Listed fs) p q)) em g in
      let g2 = subst (λ z. Emits w c0 c1 (ActualsBuilt s w.text es (Listed z)) (λ final site p q. ActualsAt s final site (suc n) (line_at s token.0) false es (Listed z) p q)) ef g1 in
      emits_as w _ _ _ _ a c (λ t. (t.0, (t.1, tt))) (λ t. (t.0, t.1.0)) (λ final site p q _ _ r. record { x = r.0; y = r.2.0; link = r.1.0; inside = r.1.1; actuals = r.2.1; call = r.2.2 })
      (emits_then w _ _ (λ z site p q. Pushes z site n (i.Link (pos (level_of s (block_of s d)))) p q × Inside s.tables site.text (block_of s d)) (λ z site p q. (y : ℕ) × ActualsAt s z site (suc n) (line_at s token.0) false es (Listed (formals_of_block s block)) p y × At z (i.Call (pos (block_number s block)) (pos (operands es))) (line_at s token.0) y q) a c0 c f
      (emits_then w _ _ (λ z site p q. ActualsAt s z site (suc n) (line_at s token.0) false es (Listed (formals_of_block s block)) p q) (λ z site. At z (i.Call (pos (block_number s block)) (pos (operands es))) (line_at s token.0)) c0 c1 c g2
      (emits_at w c1 c (i.Call (pos (block_number s block)) (pos (operands es))) (line_at s token.0) (ec ∙ ap (λ z. with_instr c1 z line) at ∙ ap (λ z. with_instr c1 (i.Call (pos (block_number s block)) (pos (operands es))) z) el) is refl)))

  -- ---- actual parameters

  plain_passed : (keeps : Bool) (m : Mode) (k : FormalKind) (t : Bool) (line : ℕ) (P R G : Type 0) (A Q : Place) (T : Gift) (a c : DraftOf) → passed.Plain ≡ passed_of keeps m k t → Emits w a c P A → Emits w a c (ActualBuilt m k P R G) (λ final site p q. ActualAt final site n line keeps m k t (A final site) (Q final site) (T final) p q)
  plain_passed keeps mode.ByValue shape.Array t line P R G A Q T a c e f = absurd (cc)
  plain_passed keeps mode.ByValue shape.Simple true line P R G A Q T a c e f = absurd (cc)
  plain_passed keeps mode.ByValue shape.Simple false line P R G A Q T a c e f = f
  plain_passed keeps mode.ByValue shape.Procedure t line P R G A Q T a c e f = absurd (cc)
  plain_passed true mode.ByReference shape.Array t line P R G A Q T a c e f = absurd (cc)
  plain_passed false mode.ByReference shape.Array t line P R G A Q T a c e f = f
  plain_passed true mode.ByReference shape.Simple t line P R G A Q T a c e f = f
  plain_passed false mode.ByReference shape.Simple t line P R G A Q T a c e f = f
  plain_passed true mode.ByReference shape.Procedure t line P R G A Q T a c e f = absurd (cc)
  plain_passed false mode.ByReference shape.Procedure t line P R G A Q T a c e f = absurd (cc)
  plain_passed keeps mode.ByName shape.Array t line P R G A Q T a c e f = absurd (cc)
  plain_passed keeps mode.ByName shape.Simple t line P R G A Q T a c e f = absurd (cc)
  plain_passed keeps mode.ByName shape.Procedure t line P R G A Q T a c e f = absurd (cc)

  copied_passed : (keeps : Bool) (m : Mode) (k : FormalKind) (t : Bool) (line : ℕ) (P R G : Type 0) (A Q : Place) (T : Gift) (a c : DraftOf) → passed.Copied ≡ passed_of keeps m k t → Emits w a c (P × ⊤) (λ final site p q. (x : ℕ) × A final site p x × At final i.CopyArr line x q) → Emits w a c (ActualBuilt m k P R G) (λ final site p q. ActualAt final site n line keeps m k t (A final site) (Q final site) (T final) p q)
  copied_passed keeps mode.ByValue shape.Array t line P R G A Q T a c e f = emits_as w _ _ _ _ a c (λ t. (t, tt)) (λ t. t.0) (λ final site p q _ _ r. r) f
  copied_passed keeps mode.ByValue shape.Simple true line P R G A Q T a c e f = absurd (cc)
  copied_passed keeps mode.ByValue shape.Simple false line P R G A Q T a c e f = absurd (cc)
  copied_passed keeps mode.ByValue shape.Procedure t line P R G A Q T a c e f = absurd (cc)
  copied_passed true mode.ByReference shape.Array t line P R G A Q T a c e f = absurd (cc)
  copied_passed false mode.ByReference shape.Array t line P R G A Q T a c e f = absurd (cc)
  copied_passed true mode.ByReference shape.Simple t line P R G A Q T a c e f = absurd (cc)
  copied_passed false mode.ByReference shape.Simple t line P R G A Q T a c e f = absurd (cc)
  copied_passed true mode.ByReference shape.Procedure t line P R G A Q T a c e f = absurd (cc)
  copied_passed false mode.ByReference shape.Procedure t line P R G A Q T a c e f = absurd (cc)
  copied_passed keeps mode.ByName shape.Array t line P R G A Q T a c e f = absurd (cc)
  copied_passed keeps mode.ByName shape.Simple t line P R G A Q T a c e f = absurd (cc)
  copied_passed keeps mode.ByName shape.Procedure t line P R G A Q T a c e f = absurd (cc)

  kept_passed : (keeps : Bool) (m : Mode) (k : FormalKind) (t : Bool) (line : ℕ) (P R G : Type 0) (A Q : Place) (T : Gift) (a c : DraftOf) → passed.Kept ≡ passed_of keeps m k t → Emits w a c (P × ⊤) (λ final site p q. (x : ℕ) × A final site p x × At final i.Keep 0 x q) → Emits w a c (ActualBuilt m k P R G) (λ final site p q. ActualAt final site n line keeps m k t (A final site) (Q final site) (T final) p q)
  kept_passed keeps mode.ByValue shape.Array t line P R G A Q T a c e f = absurd (cc)
  kept_passed keeps mode.ByValue shape.Simple true line P R G A Q T a c e f = absurd (cc)
  kept_passed keeps mode.ByValue shape.Simple false line P R G A Q T a c e f = absurd (cc)
  kept_passed keeps mode.ByValue shape.Procedure t line P R G A Q T a c e f = absurd (cc)
  kept_passed true mode.ByReference shape.Array t line P R G A Q T a c e f = emits_as w _ _ _ _ a c (λ t. (t, tt)) (λ t. t.0) (λ final site p q _ _ r. (r.0, r.1, record { line = 0; is = r.2 })) f
  kept_passed false mode.ByReference shape.Array t line P R G A Q T a c e f = absurd (cc)
  kept_passed true mode.ByReference shape.Simple t line P R G A Q T a c e f = absurd (cc)
  kept_passed false mode.ByReference shape.Simple t line P R G A Q T a c e f = absurd (cc)
  kept_passed true mode.ByReference shape.Procedure t line P R G A Q T a c e f = absurd (cc)
  kept_passed false mode.ByReference shape.Procedure t line P R G A Q T a c e f = absurd (cc)
  kept_passed keeps mode.ByName shape.Array t line P R G A Q T a c e f = absurd (cc)
  kept_passed keeps mode.ByName shape.Simple t line P R G A Q T a c e f = absurd (cc)
  kept_passed keeps mode.ByName shape.Procedure t line P R G A Q T a c e f = absurd (cc)

  copies : (final : CodeOf) (site : Site) (line x q : ℕ) → At final (i.Std (pos 15)) line x q → n < site.room → StandardIs final site n line name_of.Copy 1 x q
  unfolding row_of
  copies final site line x q at fits = record { as_many = refl; number = 15; numbered = refl; is = at; fits = λ _. fits }

  text_passed : (keeps : Bool) (m : Mode) (k : FormalKind) (t : Bool) (line : ℕ) (P R G : Type 0) (A Q : Place) (T : Gift) (a c : DraftOf) → passed.CopiedText ≡ passed_of keeps m k t → Emits w a c (P × ⊤) (λ final site p q. (x : ℕ) × A final site p x × (At final (i.Std (pos 15)) line x q × (n < site.room))) → Emits w a c (ActualBuilt m k P R G) (λ final site p q. ActualAt final site n line keeps m k t (A final site) (Q final site) (T final) p q)
  text_passed keeps mode.ByValue shape.Array t line P R G A Q T a c e f = absurd (cc)
  text_passed keeps mode.ByValue shape.Simple true line P R G A Q T a c e f = emits_as w _ _ _ _ a c (λ t. (t, tt)) (λ t. t.0) (λ final site p q _ _ r. (r.0, r.1, copies final site line r.0 q r.2.0 r.2.1)) f
  text_passed keeps mode.ByValue shape.Simple false line P R G A Q T a c e f = absurd (cc)
  text_passed keeps mode.ByValue shape.Procedure t line P R G A Q T a c e f = absurd (cc)
  text_passed true mode.ByReference shape.Array t line P R G A Q T a c e f = absurd (cc)
  text_passed false mode.ByReference shape.Array t line P R G A Q T a c e f = absurd (cc)
  text_passed true mode.ByReference shape.Simple t line P R G A Q T a c e f = absurd (cc)
  text_passed false mode.ByReference shape.Simple t line P R G A Q T a c e f = absurd (cc)
  text_passed true mode.ByReference shape.Procedure t line P R G A Q T a c e f = absurd (cc)
  text_passed false mode.ByReference shape.Procedure t line P R G A Q T a c e f = absurd (cc)
  text_passed keeps mode.ByName shape.Array t line P R G A Q T a c e f = absurd (cc)
  text_passed keeps mode.ByName shape.Simple t line P R G A Q T a c e f = absurd (cc)
  text_passed keeps mode.ByName shape.Procedure t line P R G A Q T a c e f = absurd (cc)

  named_passed : (keeps : Bool) (m : Mode) (k : FormalKind) (t : Bool) (line : ℕ) (P R G : Type 0) (A Q : Place) (T : Gift) (a c : DraftOf) → passed.Named ≡ passed_of keeps m k t → Emits w a c G (λ final site p q. ThunkAt final site n (T final false) p q) → Emits w a c (ActualBuilt m k P R G) (λ final site p q. ActualAt final site n line keeps m k t (A final site) (Q final site) (T final) p q)
  named_passed keeps mode.ByValue shape.Array t line P R G A Q T a c e f = absurd (cc)
  named_passed keeps mode.ByValue shape.Simple true line P R G A Q T a c e f = absurd (cc)
  named_passed keeps mode.ByValue shape.Simple false line P R G A Q T a c e f = absurd (cc)
  named_passed keeps mode.ByValue shape.Procedure t line P R G A Q T a c e f = absurd (cc)
  named_passed true mode.ByReference shape.Array t line P R G A Q T a c e f = absurd (cc)
  named_passed false mode.ByReference shape.Array t line P R G A Q T a c e f = absurd (cc)
  named_passed true mode.ByReference shape.Simple t line P R G A Q T a c e f = absurd (cc)
  named_passed false mode.ByReference shape.Simple t line P R G A Q T a c e f = absurd (cc)
  named_passed true mode.ByReference shape.Procedure t line P R G A Q T a c e f = absurd (cc)
  named_passed false mode.ByReference shape.Procedure t line P R G A Q T a c e f = absurd (cc)
  named_passed keeps mode.ByName shape.Array t line P R G A Q T a c e f = f
  named_passed keeps mode.ByName shape.Simple t line P R G A Q T a c e f = f
  named_passed keeps mode.ByName shape.Procedure t line P R G A Q T a c e f = absurd (cc)

  named_procedure_passed : (keeps : Bool) (m : Mode) (k : FormalKind) (t : Bool) (line : ℕ) (P R G : Type 0) (A Q : Place) (T : Gift) (a c : DraftOf) → passed.NamedProcedure ≡ passed_of keeps m k t → Emits w a c R (λ final site p q. ThunkAt final site n (T final true) p q) → Emits w a c (ActualBuilt m k P R G) (λ final site p q. ActualAt final site n line keeps m k t (A final site) (Q final site) (T final) p q)
  named_procedure_passed keeps mode.ByValue shape.Array t line P R G A Q T a c e f = absurd (cc)
  named_procedure_passed keeps mode.ByValue shape.Simple true line P R G A Q T a c e f = absurd (cc)
  named_procedure_passed keeps mode.ByValue shape.Simple false line P R G A Q T a c e f = absurd (cc)
  named_procedure_passed keeps mode.ByValue shape.Procedure t line P R G A Q T a c e f = absurd (cc)
  named_procedure_passed true mode.ByReference shape.Array t line P R G A Q T a c e f = absurd (cc)
  named_procedure_passed false mode.ByReference shape.Array t line P R G A Q T a c e f = absurd (cc)
  named_procedure_passed true mode.ByReference shape.Simple t line P R G A Q T a c e f = absurd (cc)
  named_procedure_passed false mode.ByReference shape.Simple t line P R G A Q T a c e f = absurd (cc)
  named_procedure_passed true mode.ByReference shape.Procedure t line P R G A Q T a c e f = absurd (cc)
  named_procedure_passed false mode.ByReference shape.Procedure t line P R G A Q T a c e f = absurd (cc)
  named_procedure_passed keeps mode.ByName shape.Array t line P R G A Q T a c e f = absurd (cc)
  named_procedure_passed keeps mode.ByName shape.Simple t line P R G A Q T a c e f = absurd (cc)
  named_procedure_passed keeps mode.ByName shape.Procedure t line P R G A Q T a c e f = f

  procedure_passed : (keeps : Bool) (m : Mode) (k : FormalKind) (t : Bool) (line : ℕ) (P R G : Type 0) (A Q : Place) (T : Gift) (a c : DraftOf) → passed.Procedure ≡ passed_of keeps m k t → Emits w a c R Q → Emits w a c (ActualBuilt m k P R G) (λ final site p q. ActualAt final site n line keeps m k t (A final site) (Q final site) (T final) p q)
  procedure_passed keeps mode.ByValue shape.Array t line P R G A Q T a c e f = absurd (cc)
  procedure_passed keeps mode.ByValue shape.Simple true line P R G A Q T a c e f = absurd (cc)
  procedure_passed keeps mode.ByValue shape.Simple false line P R G A Q T a c e f = absurd (cc)
  procedure_passed keeps mode.ByValue shape.Procedure t line P R G A Q T a c e f = f
  procedure_passed true mode.ByReference shape.Array t line P R G A Q T a c e f = absurd (cc)
  procedure_passed false mode.ByReference shape.Array t line P R G A Q T a c e f = absurd (cc)
  procedure_passed true mode.ByReference shape.Simple t line P R G A Q T a c e f = absurd (cc)
  procedure_passed false mode.ByReference shape.Simple t line P R G A Q T a c e f = absurd (cc)
  procedure_passed true mode.ByReference shape.Procedure t line P R G A Q T a c e f = f
  procedure_passed false mode.ByReference shape.Procedure t line P R G A Q T a c e f = f
  procedure_passed keeps mode.ByName shape.Array t line P R G A Q T a c e f = absurd (cc)
  procedure_passed keeps mode.ByName shape.Simple t line P R G A Q T a c e f = absurd (cc)
  procedure_passed keeps mode.ByName shape.Procedure t line P R G A Q T a c e f = absurd (cc)

  abbrev Given : Expr → Type 0
  Given x = GivenBuilt (source_of b) w.text false (syntax_of x)

  abbrev Gives : Expr → Gift
  Gives x final as_procedure inner p q = ThunkGivesAt (source_of b) final inner as_procedure (syntax_of x) p q

  abbrev Proves : Expr → Type 0
  Proves x = ProcedureBuilt (source_of b) w.text (syntax_of x)

  abbrev Procedures : Expr → Place
  Procedures x final site p q = ProcedureAt (source_of b) final site n (syntax_of x) p q

  pub see_plain_actual : (a c : DraftOf) (keeps : Bool) (token : TokenNo) (x : Expr) (f : Formal) (k : Passed) → Writes b w n a c x → k ≡ passed_of keeps f.mode f.kind (is_text_type f.ty) → k ≡ passed.Plain → WritesPassed b w n a c keeps token x f
  unfolding WritesPassed Writes Puts
  see_plain_actual a c keeps token x f k g ek is = plain_passed keeps f.mode f.kind (is_text_type f.ty) (line_at (source_of b) token.0) _ (Proves x) (Given x) (λ z site p q. ExprAt (source_of b) z site n (syntax_of x) p q) (Procedures x) (Gives x) a c (sym is ∙ ek) g

  pub see_copied_actual : (a c0 c : DraftOf) (keeps : Bool) (token : TokenNo) (x : Expr) (f : Formal) (k : Passed) (line : ℕ) → Writes b w n a c0 x → k ≡ passed_of keeps f.mode f.kind (is_text_type f.ty) → k ≡ passed.Copied → line ≡ line_at (source_of b) token.0 → c ≡ with_instr c0 i.CopyArr line → WritesPassed b w n a c keeps token x f
  unfolding WritesPassed Writes Puts
  see_copied_actual a c0 c keeps token x f k line g ek is el ec =
      let s = source_of b in
      copied_passed keeps f.mode f.kind (is_text_type f.ty) (line_at s token.0) _ (Proves x) (Given x) (λ z site p q. ExprAt s z site n (syntax_of x) p q) (Procedures x) (Gives x) a c (sym is ∙ ek)
      (emits_then w _ _ (λ z site p q. ExprAt s z site n (syntax_of x) p q) (λ z site. At z i.CopyArr (line_at s token.0)) a c0 c g (emits_at w c0 c i.CopyArr (line_at s token.0) (ec ∙ ap (λ z. with_instr c0 i.CopyArr z) el) (λ z. cc) refl))

  pub see_text_actual : (a c0 c : DraftOf) (keeps : Bool) (token : TokenNo) (x : Expr) (f : Formal) (k : Passed) (line : ℕ) (y : Instr) → Writes b w n a c0 x → k ≡ passed_of keeps f.mode f.kind (is_text_type f.ty) → k ≡ passed.CopiedText → y ≡ i.Std (pos 15) → line ≡ line_at (source_of b) token.0 → c ≡ with_push c0 n y line → WritesPassed b w n a c keeps token x f
  unfolding WritesPassed Writes Puts
  see_text_actual a c0 c keeps token x f k line y g ek is ey el ec =
      let s = source_of b in
      text_passed keeps f.mode f.kind (is_text_type f.ty) (line_at s token.0) _ (Proves x) (Given x) (λ z site p q. ExprAt s z site n (syntax_of x) p q) (Procedures x) (Gives x) a c (sym is ∙ ek)
      (emits_then w _ _ (λ z site p q. ExprAt s z site n (syntax_of x) p q) (λ z site p q. At z (i.Std (pos 15)) (line_at s token.0) p q × (n < site.room)) a c0 c g
      (emits_push_at w c0 c n (i.Std (pos 15)) (line_at s token.0) (ec ∙ ap (λ z. with_push c0 n z line) ey ∙ ap (λ z. with_push c0 n (i.Std (pos 15)) z) el) (λ z. cc) refl))

  pub see_named_actual : (a c : DraftOf) (keeps : Bool) (token : TokenNo) (x : Expr) (f : Formal) (k : Passed) → k ≡ passed_of keeps f.mode f.kind (is_text_type f.ty) → k ≡ passed.Named → WritesThunk b w n a c false x → WritesPassed b w n a c keeps token x f
  unfolding WritesPassed WritesThunk
  see_named_actual a c keeps token x f k ek is g =
      named_passed keeps f.mode f.kind (is_text_type f.ty) (line_at (source_of b) token.0) (IsBuilt (source_of b) w.text (syntax_of x)) (Proves x) _ (λ z site p q. ExprAt (source_of b) z site n (syntax_of x) p q) (Procedures x) (Gives x) a c (sym is ∙ ek) g

  pub see_named_procedure : (a c : DraftOf) (keeps : Bool) (token : TokenNo) (x : Expr) (f : Formal) (k : Passed) → k ≡ passed_of keeps f.mode f.kind (is_text_type f.ty) → k ≡ passed.NamedProcedure → WritesThunk b w n a c true x → WritesPassed b w n a c keeps token x f
  unfolding WritesPassed WritesThunk
  see_named_procedure a c keeps token x f k ek is g =
      named_procedure_passed keeps f.mode f.kind (is_text_type f.ty) (line_at (source_of b) token.0) (IsBuilt (source_of b) w.text (syntax_of x)) _ (Given x) (λ z site p q. ExprAt (source_of b) z site n (syntax_of x) p q) (Procedures x) (Gives x) a c (sym is ∙ ek) g

  pub see_procedure_actual : (a c : DraftOf) (keeps : Bool) (token : TokenNo) (x : Expr) (f : Formal) (k : Passed) → k ≡ passed_of keeps f.mode f.kind (is_text_type f.ty) → k ≡ passed.Procedure → WritesProcedure b w n a c x → WritesPassed b w n a c keeps token x f
  unfolding WritesPassed WritesProcedure
  see_procedure_actual a c keeps token x f k ek is g =
      procedure_passed keeps f.mode f.kind (is_text_type f.ty) (line_at (source_of b) token.0) (IsBuilt (source_of b) w.text (syntax_of x)) _ (Given x) (λ z site p q. ExprAt (source_of b) z site n (syntax_of x) p q) (Procedures x) (Gives x) a c (sym is ∙ ek) g

  pub see_kept_actual : (a c0 c : DraftOf) (keeps : Bool) (token : TokenNo) (x : Expr) (f : Formal) (k : Passed) → Writes b w n a c0 x → k ≡ passed_of keeps f.mode f.kind (is_text_type f.ty) → k ≡ passed.Kept → c ≡ with_instr c0 i.Keep 0 → WritesPassed b w n a c keeps token x f
  unfolding WritesPassed Writes Puts
  see_kept_actual a c0 c keeps token x f k g ek is ec =
      let s = source_of b in
      kept_passed keeps f.mode f.kind (is_text_type f.ty) (line_at s token.0) _ (Proves x) (Given x) (λ z site p q. ExprAt s z site n (syntax_of x) p q) (Procedures x) (Gives x) a c (sym is ∙ ek)
      (emits_then w _ _ (λ z site p q. ExprAt s z site n (syntax_of x) p q) (λ z site. At z i.Keep 0) a c0 c g (emits_at w c0 c i.Keep 0 ec (λ z. cc) refl))

  abbrev Fitting : (a c : DraftOf) → (keeps : Bool) → TokenNo → Expr → Formal → Option ℕ → Type 0
  Fitting a c keeps token x f o =
      Emits w a c (ActualBuilt f.mode f.kind (IsBuilt (source_of b) w.text (syntax_of x)) (Proves x) (Given x))
      (λ final site p q. FittingAt (source_of b) final site n (line_at (source_of b) token.0) o (λ u v. ActualAt final site n (line_at (source_of b) token.0) keeps f.mode f.kind (is_text_type f.ty) (λ y z. ExprAt (source_of b) final site n (syntax_of x) y z) (λ y z. ProcedureAt (source_of b) final site n (syntax_of x) y z) (Gives x final) u v) p q)

  pub see_unfitted : (a c : DraftOf) (keeps : Bool) (token : TokenNo) (x : Expr) (f : Formal) (o : Option ℕ) → WritesPassed b w n a c keeps token x f → o ≡ class_passed (source_of b) f → o ≡ None → WritesActual b w n a c keeps token x f
  unfolding WritesPassed WritesActual
  see_unfitted a c keeps token x f o g eo none = subst (Fitting a c keeps token x f) (sym none ∙ eo) g

  pub see_fitted : (a c0 c : DraftOf) (keeps : Bool) (token : TokenNo) (x : Expr) (f : Formal) (o : Option ℕ) (k : ℕ) → WritesPassed b w n a c0 keeps token x f → o ≡ class_passed (source_of b) f → o ≡ Some k → WritesFit b w n c0 c token k → WritesActual b w n a c keeps token x f
  unfolding WritesPassed WritesActual WritesFit
  see_fitted a c0 c keeps token x f o k g eo some h =
      let s = source_of b in
      subst (Fitting a c keeps token x f) (sym some ∙ eo)
      (emits_as w _ _ _ _ a c (λ t. (t, tt)) (λ t. t.0) (λ final site p q _ _ r. r)
      (emits_then w _ _ (λ z site p q. ActualAt z site n (line_at s token.0) keeps f.mode f.kind (is_text_type f.ty) (λ u v. ExprAt s z site n (syntax_of x) u v) (λ u v. ProcedureAt s z site n (syntax_of x) u v) (Gives x z) p q)
      (λ z site p q. HeldAt s z site n (line_at s token.0) (class_number s z k) p q) a c0 c g h))

  unlike : (s : Source) (es : List Expr) (fs : List Formal) → length es ≢ length fs → PassedBuilt s w.text (expressions (map syntax_of es)) fs → ⊥
  unlike s [] [] other h = other refl
  unlike s [] (f ∷ fs) other h = h
  unlike s (x ∷ es) [] other h = h
  unlike s (x ∷ es) (f ∷ fs) other h = unlike s es fs (λ e. other (ap suc e)) h.1

  pub see_unlike : (a c : DraftOf) (keeps : Bool) (token : TokenNo) (es : List Expr) (fs : List Formal) → length es ≢ length fs → c ≡ given_up a → WritesActuals b w n a c keeps token es fs
  unfolding WritesActuals
  see_unlike a c keeps token es fs other ec = emits_nothing w a c _ _ (unlike (source_of b) es fs other) ec

  pub actuals_all : (a : DraftOf) (keeps : Bool) (token : TokenNo) (es : List Expr) (fs : List Formal) → OwesActuals b w n a keeps token es fs n a es fs
  unfolding OwesActuals
  actuals_all a keeps token es fs end f = f

  pub actuals_next : (a c d : DraftOf) (keeps : Bool) (token : TokenNo) (es r r' : List Expr) (fs g g' : List Formal) (m m' : ℕ) (x : Expr) (f : Formal) → OwesActuals b w n a keeps token es fs m c r g → r ≡ x ∷ r' → g ≡ f ∷ g' → WritesActual b w m c d keeps token x f → m' ≡ suc m → OwesActuals b w n a keeps token es fs m' d r' g'
  unfolding OwesActuals WritesActuals WritesActual
  actuals_next a c d keeps token es r r' fs g g' m m' x f owes er eg one em end rest =
      let s = source_of b in
      let line = line_at s token.0 in
      let xs' = expressions (map syntax_of r') in
      let rest' = subst (λ z. Emits w d end (PassedBuilt s w.text xs' g') (λ final site p q. PassedAt s final site z line keeps xs' g' p q)) em rest in
      owes end
      (subst (λ z. Emits w c end (PassedBuilt s w.text (expressions (map syntax_of z)) g) (λ final site p q. PassedAt s final site m line keeps (expressions (map syntax_of z)) g p q)) (sym er)
      (subst (λ z. Emits w c end (PassedBuilt s w.text (expressions (map syntax_of (x ∷ r'))) z) (λ final site p q. PassedAt s final site m line keeps (expressions (map syntax_of (x ∷ r'))) z p q)) (sym eg)
      (emits_as w _ _ _ _ c end (λ t. t) (λ t. t) (λ final site p q _ _ r. r)
      (emits_then w _ _ (λ z site p q. FittingAt s z site m line (class_passed s f) (λ y y'. ActualAt z site m line keeps f.mode f.kind (is_text_type f.ty) (λ u v. ExprAt s z site m (syntax_of x) u v) (λ u v. ProcedureAt s z site m (syntax_of x) u v) (Gives x z) y y') p q) (λ z site p q. PassedAt s z site (suc m) line keeps xs' g' p q) c d end one rest'))))

  pub actuals_none : (a c : DraftOf) (keeps : Bool) (token : TokenNo) (es r : List Expr) (fs g : List Formal) (m : ℕ) → OwesActuals b w n a keeps token es fs m c r g → r ≡ [] → g ≡ [] → WritesActuals b w n a c keeps token es fs
  unfolding OwesActuals WritesActuals
  actuals_none a c keeps token es r fs g m f er eg =
      let s = source_of b in
      f c (subst (λ z. Emits w c c (PassedBuilt s w.text (expressions (map syntax_of z)) g) (λ final site p q. PassedAt s final site m (line_at s token.0) keeps (expressions (map syntax_of z)) g p q)) (sym er)
      (subst (λ z. Emits w c c (PassedBuilt s w.text NoMore z) (λ final site p q. PassedAt s final site m (line_at s token.0) keeps NoMore z p q)) (sym eg) (emits_none w c)))

  -- ---- what a declared identifier is seen as

  abbrev AsSeen : (a c : DraftOf) → TokenNo → DeclNo → Seen → Expressions → Type 0
  AsSeen a c token d x es = PutsSeen (source_of b) w n a c token d x es

  pub see_variable : (a c : DraftOf) (token : TokenNo) (d : DeclNo) (x : Seen) (es : List Expr) → x ≡ seen.Variable → length es ≡ 0 → WritesCell b w n a c d → WritesSeen b w n a c token d x es
  unfolding WritesSeen PutsSeen WritesCell
  see_variable a c token d x [] is none f = subst (λ z. AsSeen a c token d z NoMore) (sym is) f
  see_variable a c token d x (y ∷ ys) is none f = absurd (omega (arith, none))

  pub see_no_variable : (a c : DraftOf) (token : TokenNo) (d : DeclNo) (x : Seen) (es : List Expr) → x ≡ seen.Variable → length es ≢ 0 → c ≡ given_up a → WritesSeen b w n a c token d x es
  unfolding WritesSeen PutsSeen
  see_no_variable a c token d x [] is some' ec = absurd (some' refl)
  see_no_variable a c token d x (y ∷ ys) is some' ec = subst (λ z. AsSeen a c token d z (expressions (map syntax_of (y ∷ ys)))) (sym is) (emits_nothing w a c _ _ (λ z. z) ec)

  pub see_constant : (a c : DraftOf) (token : TokenNo) (d : DeclNo) (x : Seen) (es : List Expr) → x ≡ seen.Constant → length es ≡ 0 → WritesConstant b w n a c d → WritesSeen b w n a c token d x es
  unfolding WritesSeen PutsSeen WritesConstant
  see_constant a c token d x [] is none f = subst (λ z. AsSeen a c token d z NoMore) (sym is) f
  see_constant a c token d x (y ∷ ys) is none f = absurd (omega (arith, none))

  with_operands : (o : Option Plain) (x : Expression) (xs : Expressions) → ConstantBuilt o (Then x xs) → ⊥
  with_operands None x xs h = h
  with_operands (Some v) x xs h = h

  pub see_no_constant : (a c : DraftOf) (token : TokenNo) (d : DeclNo) (x : Seen) (es : List Expr) → x ≡ seen.Constant → length es ≢ 0 → c ≡ given_up a → WritesSeen b w n a c token d x es
  unfolding WritesSeen PutsSeen
  see_no_constant a c token d x [] is some' ec = absurd (some' refl)
  see_no_constant a c token d x (y ∷ ys) is some' ec =
      subst (λ z. AsSeen a c token d z (expressions (map syntax_of (y ∷ ys)))) (sym is)
      (emits_nothing w a c _ _ (with_operands (constant_of (source_of b) d) (syntax_of y) (expressions (map syntax_of ys))) ec)

  pub see_array : (a c : DraftOf) (token : TokenNo) (d : DeclNo) (x : Seen) (es : List Expr) → x ≡ seen.Array → length es ≡ 0 → WritesCell b w n a c d → WritesSeen b w n a c token d x es
  unfolding WritesSeen PutsSeen WritesCell
  see_array a c token d x [] is none f = subst (λ z. AsSeen a c token d z NoMore) (sym is) f
  see_array a c token d x (y ∷ ys) is none f = absurd (omega (arith, none))

  pub see_element : (a c0 c : DraftOf) (token : TokenNo) (d : DeclNo) (x : Seen) (es : List Expr) → x ≡ seen.Array → length es ≢ 0 → WritesElement b w n a c0 0 token d es → c ≡ with_instr c0 i.Fetch 0 → WritesSeen b w n a c token d x es
  unfolding WritesSeen PutsSeen WritesElement
  see_element a c0 c token d x [] is some' f ec = absurd (some' refl)
  see_element a c0 c token d x (y ∷ ys) is some' f ec =
      let s = source_of b in
      let es = expressions (map syntax_of (y ∷ ys)) in
      subst (λ z. AsSeen a c token d z es) (sym is)
      (emits_as w _ _ _ _ a c (λ t. (t, tt)) (λ t. t.0) (λ final site p q _ _ r. (r.0, r.1, record { line = 0; is = r.2 }))
      (emits_then w _ _ (λ z site p q. ElementAt s z site n (line_at s token.0) 0 d es (λ u v. ExprsAt s z site (suc n) es u v) p q) (λ z site. At z i.Fetch 0) a c0 c f (emits_at w c0 c i.Fetch 0 ec (λ z. cc) refl)))

  pub see_called : (a c : DraftOf) (token : TokenNo) (d : DeclNo) (x : Seen) (block : ℕ) (es : List Expr) → x ≡ seen.Call block → WritesCall b w n a c token d block es → WritesSeen b w n a c token d x es
  unfolding WritesCall
  see_called a c token d x block es is f = subst (λ z. WritesSeen b w n a c token d z es) (sym is) f

  -- a checked call behind its procedure
  called_behind : (P : Type 0) (A : Place) (a c0 c : DraftOf) (token : TokenNo) (es : List Expr) → Emits w a c0 P A → WritesValueCall b w n c0 c token es
      → Emits w a c (P × ActualsBuilt (source_of b) w.text (expressions (map syntax_of es)) Checked)
      (λ final site p q. ValueCallAt final (line_at (source_of b) token.0) (expressions (map syntax_of es)) (A final site) (λ u v. ActualsAt (source_of b) final site (suc n) (line_at (source_of b) token.0) false (expressions (map syntax_of es)) Checked u v) p q)
  unfolding WritesValueCall
  called_behind P A a c0 c token ys f g =
      let s = source_of b in
      let es = expressions (map syntax_of ys) in
      emits_as w _ _ _ _ a c (λ t. t) (λ t. t) (λ final site p q _ _ r. record { x = r.0; y = r.2.0; procedure = r.1; actuals = r.2.1; called = r.2.2 })
      (emits_then w P _ A (λ z site p q. (y : ℕ) × ActualsAt s z site (suc n) (line_at s token.0) false es Checked p y × At z (i.CallV (pos (operands es))) (line_at s token.0) y q) a c0 c f g)

  pub see_virtual : (a c0 c1 c : DraftOf) (token : TokenNo) (d : DeclNo) (x : Seen) (k : ℕ) (es : List Expr) → x ≡ seen.Virtual → k ≡ block_of (source_of b) d → WritesObjectOf b w n a c0 k → WritesMatch b c0 c1 token d → WritesValueCall b w n c1 c token es → WritesSeen b w n a c token d x es
  unfolding WritesSeen PutsSeen WritesObjectOf
  see_virtual a c0 c1 c token d x k es is ek f g h =
      let s = source_of b in
      let f' = subst (λ z. Emits w a c0 (StandsIn s w.text z) (λ final site p q. ThisAt s final site n z p q)) ek f in
      subst (λ z. AsSeen a c token d z (expressions (map syntax_of es))) (sym is)
      (called_behind (StandsIn s w.text (block_of s d)) (λ final site p q. MatchAt final (line_at s token.0) d.0 (ThisAt s final site n (block_of s d)) p q) a c1 c token es
      (match_found b w (StandsIn s w.text (block_of s d)) (λ final site p q. ThisAt s final site n (block_of s d) p q) a c0 c1 token d f' g) h)

  pub see_procedure : (a c0 c : DraftOf) (token : TokenNo) (d : DeclNo) (x : Seen) (named : Bool) (es : List Expr) → x ≡ seen.Procedure named → WritesHeld b w n a c0 token d named → WritesValueCall b w n c0 c token es → WritesSeen b w n a c token d x es
  unfolding WritesSeen PutsSeen WritesHeld
  see_procedure a c0 c token d x named es is f h =
      let s = source_of b in
      subst (λ z. AsSeen a c token d z (expressions (map syntax_of es))) (sym is)
      (called_behind (CellBuilt s w.text d) (λ final site p q. FormalProcedureAt s final site n (line_at s token.0) d named p q) a c0 c token es f h)

  pub see_named_array : (a c : DraftOf) (token : TokenNo) (d : DeclNo) (x : Seen) (es : List Expr) → x ≡ seen.NamedArray → length es ≡ 0 → WritesNameWhole b w n a c token d → WritesSeen b w n a c token d x es
  unfolding WritesSeen PutsSeen WritesNameWhole WritesUse
  see_named_array a c token d x [] is none f = subst (λ z. AsSeen a c token d z NoMore) (sym is) f
  see_named_array a c token d x (y ∷ ys) is none f = absurd (omega (arith, none))

  pub see_named_element : (a c0 c : DraftOf) (token : TokenNo) (d : DeclNo) (x : Seen) (es : List Expr) → x ≡ seen.NamedArray → length es ≢ 0 → WritesNamedElement b w n a c0 0 token d es → c ≡ with_instr c0 i.Fetch 0 → WritesSeen b w n a c token d x es
  unfolding WritesSeen PutsSeen WritesNamedElement
  see_named_element a c0 c token d x [] is some' f ec = absurd (some' refl)
  see_named_element a c0 c token d x (y ∷ ys) is some' f ec =
      let s = source_of b in
      let es = expressions (map syntax_of (y ∷ ys)) in
      subst (λ z. AsSeen a c token d z es) (sym is)
      (emits_as w _ _ _ _ a c (λ t. (t, tt)) (λ t. t.0) (λ final site p q _ _ r. (r.0, r.1, record { line = 0; is = r.2 }))
      (emits_then w _ _ (λ z site p q. NamedElementAt s z site n (line_at s token.0) 0 d es (λ u v. ExprsAt s z site (suc n) es u v) p q) (λ z site. At z i.Fetch 0) a c0 c f (emits_at w c0 c i.Fetch 0 ec (λ z. cc) refl)))

  pub see_named : (a c : DraftOf) (token : TokenNo) (d : DeclNo) (x : Seen) (es : List Expr) → x ≡ seen.Named → length es ≡ 0 → WritesName b w n a c token d → WritesSeen b w n a c token d x es
  unfolding WritesSeen PutsSeen WritesName WritesUse
  see_named a c token d x [] is none f = subst (λ z. AsSeen a c token d z NoMore) (sym is) f
  see_named a c token d x (y ∷ ys) is none f = absurd (omega (arith, none))

  pub see_not_named : (a c : DraftOf) (token : TokenNo) (d : DeclNo) (x : Seen) (es : List Expr) → x ≡ seen.Named → length es ≢ 0 → c ≡ given_up a → WritesSeen b w n a c token d x es
  unfolding WritesSeen PutsSeen
  see_not_named a c token d x [] is some' ec = absurd (some' refl)
  see_not_named a c token d x (y ∷ ys) is some' ec = subst (λ z. AsSeen a c token d z (expressions (map syntax_of (y ∷ ys)))) (sym is) (emits_nothing w a c _ _ (λ z. z) ec)

  pub see_nothing : (a c : DraftOf) (token : TokenNo) (d : DeclNo) (x : Seen) (es : List Expr) → x ≡ seen.Nothing → c ≡ given_up a → WritesSeen b w n a c token d x es
  unfolding WritesSeen PutsSeen
  see_nothing a c token d x es is ec = subst (λ z. AsSeen a c token d z (expressions (map syntax_of es))) (sym is) (emits_nothing w a c _ _ (λ z. z) ec)

  -- ---- identifiers

  seen_emits : (a c : DraftOf) (line : ℕ) (d : DeclNo) (k : Option Entry) (es : Expressions) (O : Type 0) (P : Parameters → Type 0) (A : Place) (B : CodeOf → Site → Parameters → ℕ → ℕ → Type 0) → k ≡ entry_of (source_of b).tables d
      → Emits w a c (SeenBuilt (source_of b) w.text d (seen_of k) es O P) (λ final site p q. SeenAt (source_of b) final site n line d (seen_of k) es (A final site) (B final site) p q)
      → Emits w a c (DeclaredBuilt (source_of b) w.text d k es O P) (λ final site p q. DeclaredAt (source_of b) final site n line d k es (A final site) (B final site) p q)
  seen_emits a c line d None es O P A B ek f = f
  seen_emits a c line d (Some (entry.Variable type)) es O P A B ek f = f
  seen_emits a c line d (Some (entry.Constant type)) es O P A B ek f = f
  seen_emits a c line d (Some (entry.Array element dimensions)) es O P A B ek f = f
  seen_emits a c line d (Some (entry.Procedure result block)) es O P A B ek f =
      subst (λ fs. Emits w a c (CallBuilt (source_of b) w.text d (P (Listed fs))) (λ final site p q. CallAt (source_of b) final site n line d block es (B final site (Listed fs)) p q)) (block_formals (source_of b) d result block ek) f
  seen_emits a c line d (Some (entry.Class text)) es O P A B ek f = f
  seen_emits a c line d (Some (entry.Virtual result own)) es O P A B ek f = f
  seen_emits a c line d (Some (entry.Unspecified written)) es O P A B ek f = f
  seen_emits a c line d (Some (entry.Attribute name parameter result)) es O P A B ek f = f
  seen_emits a c line d (Some (entry.Formal x)) es O P A B ek f = formal x.mode x.kind f
    where
      formal : (m : Mode) (k : FormalKind)
          → Emits w a c (SeenBuilt (source_of b) w.text d (seen_formal m k) es O P) (λ final site p q. SeenAt (source_of b) final site n line d (seen_formal m k) es (A final site) (B final site) p q)
          → Emits w a c (FormalBuilt (source_of b) w.text d k es O P) (λ final site p q. FormalAt (source_of b) final site n line d m k es (A final site) (B final site) p q)
      formal mode.ByName shape.Simple f = f
      formal mode.ByName shape.Array f = f
      formal mode.ByName shape.Procedure f = f
      formal mode.ByValue shape.Simple f = f
      formal mode.ByValue shape.Array f = f
      formal mode.ByValue shape.Procedure f = f
      formal mode.ByReference shape.Simple f = f
      formal mode.ByReference shape.Array f = f
      formal mode.ByReference shape.Procedure f = f

  pub see_declared : (a c : DraftOf) (token : TokenNo) (es : List Expr) (u : Option Denotation) (d : DeclNo) (k : Option Entry) (x : Seen) → u ≡ Some (denotation.Declared d) → k ≡ entry_of b.scopes d → x ≡ seen_of k → WritesSeen b w n a c token d x es → WritesUnconnected b w n a c token u es
  unfolding WritesUnconnected PutsUnconnected WritesSeen PutsSeen source_of
  see_declared a c token ys u d k x some ek ex f =
      let s = source_of b in
      let es = expressions (map syntax_of ys) in
      let line = line_at s token.0 in
      let same : x ≡ seen_of (entry_of s.tables d) = ex ∙ ap seen_of ek in
      let f' = subst (λ z. PutsSeen s w n a c token d z es) same f in
      subst (λ z. PutsUnconnected s w n a c token z es) (sym some)
      (seen_emits a c line d (entry_of s.tables d) es (AreBuilt s w.text es) (λ formals. ActualsBuilt s w.text es formals) (λ final site p q. ExprsAt s final site (suc n) es p q) (λ final site formals p q. ActualsAt s final site (suc n) line false es formals p q) refl f')

  pub see_standard : (a c : DraftOf) (token : TokenNo) (es : List Expr) (u : Option Denotation) (k : StandardName) → u ≡ Some (denotation.Standard k) → WritesStandard b w n a c 1 token k es → WritesUnconnected b w n a c token u es
  unfolding WritesUnconnected PutsUnconnected WritesStandard
  see_standard a c token ys u k some f = subst (λ z. PutsUnconnected (source_of b) w n a c token z (expressions (map syntax_of ys))) (sym some) f

  pub see_undeclared : (a c : DraftOf) (token : TokenNo) (es : List Expr) (u : Option Denotation) → u ≡ None → c ≡ given_up a → WritesUnconnected b w n a c token u es
  unfolding WritesUnconnected PutsUnconnected
  see_undeclared a c token ys u none ec = subst (λ z. PutsUnconnected (source_of b) w n a c token z (expressions (map syntax_of ys))) (sym none) (emits_nothing w a c _ _ (λ z. z) ec)

  -- ---- through connections

  abbrev Connected : (a c : DraftOf) → TokenNo → (connection : ℕ) → Expressions → Option Denotation → Type 0
  Connected a c token k es o =
      Emits w a c (ConnectedNameBuilt (source_of b) w.text k o es (AreBuilt (source_of b) w.text es) (λ formals. ActualsBuilt (source_of b) w.text es formals))
      (λ final site p q. ConnectedNameAt (source_of b) final site n (line_at (source_of b) token.0) k o es (λ x y. ExprsAt (source_of b) final site (suc n) es x y) (λ formals x y. ActualsAt (source_of b) final site (suc n) (line_at (source_of b) token.0) false es formals x y) p q)

  pub through_declared : (a c0 c : DraftOf) (token : TokenNo) (es : List Expr) (k : ℕ) (o : Option Denotation) (d : DeclNo) → o ≡ Some (denotation.Declared d) → PutsBase (source_of b) w n a c0 (OfConnection k) → WritesOf b w n c0 c token d es → WritesThrough b w n a c token k o es
  unfolding WritesOf WritesThrough
  through_declared a c0 c token ys k o d some f g = subst (Connected a c token k (expressions (map syntax_of ys))) (sym some) (g a (OfConnection k) f)

  pub through_standard : (a c : DraftOf) (token : TokenNo) (es : List Expr) (k : ℕ) (o : Option Denotation) (x : StandardName) → o ≡ Some (denotation.Standard x) → c ≡ given_up a → WritesThrough b w n a c token k o es
  unfolding WritesThrough
  through_standard a c token ys k o x some ec = subst (Connected a c token k (expressions (map syntax_of ys))) (sym some) (emits_nothing w a c _ _ (λ z. z) ec)

  pub through_undeclared : (a c : DraftOf) (token : TokenNo) (es : List Expr) (k : ℕ) (o : Option Denotation) → o ≡ None → c ≡ given_up a → WritesThrough b w n a c token k o es
  unfolding WritesThrough
  through_undeclared a c token ys k o none ec = subst (Connected a c token k (expressions (map syntax_of ys))) (sym none) (emits_nothing w a c _ _ (λ z. z) ec)

  abbrev Through : (a c : DraftOf) → TokenNo → Option Denotation → Expressions → (connection : Option ℕ) → Type 0
  Through a c token u es o =
      Emits w a c
      (ThroughBuilt o (λ k. ConnectedNameBuilt (source_of b) w.text k u es (AreBuilt (source_of b) w.text es) (λ formals. ActualsBuilt (source_of b) w.text es formals))
      (OwnBuilt (own_attribute (source_of b) token.0)
      (λ d. OwnNameBuilt (source_of b) w.text (found_at (source_of b) token.0) (entry_of (source_of b).tables d) es (ActualsBuilt (source_of b) w.text es (Listed (formals_at (source_of b) d)))
      (OfObjectBuilt (source_of b) d (entry_of (source_of b).tables d) es (ThisFoundBuilt (source_of b) w.text (found_at (source_of b) token.0)) (AreBuilt (source_of b) w.text es) (ActualsBuilt (source_of b) w.text es (parameters_at (source_of b) d))))
      (NamedBuilt (source_of b) w.text u es (AreBuilt (source_of b) w.text es) (λ formals. ActualsBuilt (source_of b) w.text es formals))))
      (λ final site p q. ThroughAt o
      (λ k. ConnectedNameAt (source_of b) final site n (line_at (source_of b) token.0) k u es (λ x y. ExprsAt (source_of b) final site (suc n) es x y) (λ formals x y. ActualsAt (source_of b) final site (suc n) (line_at (source_of b) token.0) false es formals x y))
      (OwnAt (own_attribute (source_of b) token.0)
      (λ d. OwnNameAt (source_of b) final site n (line_at (source_of b) token.0) (found_at (source_of b) token.0) (entry_of (source_of b).tables d) es (λ x y. ActualsAt (source_of b) final site (suc n) (line_at (source_of b) token.0) false es (Listed (formals_at (source_of b) d)) x y)
      (λ x y. OfObjectAt (source_of b) final site n (line_at (source_of b) token.0) d (entry_of (source_of b).tables d) es (λ x y. ThisFoundAt (source_of b) final site n (found_at (source_of b) token.0) x y) (λ x y. ExprsAt (source_of b) final site (suc n) es x y) (λ x y. ActualsAt (source_of b) final site (suc n) (line_at (source_of b) token.0) false es (parameters_at (source_of b) d) x y) x y))
      (NamedAt (source_of b) final site n (line_at (source_of b) token.0) u es (λ x y. ExprsAt (source_of b) final site n es x y) (λ x y. ExprsAt (source_of b) final site (suc n) es x y) (λ formals x y. ActualsAt (source_of b) final site (suc n) (line_at (source_of b) token.0) false es formals x y))) p q)

  pub see_through : (a c : DraftOf) (token : TokenNo) (es : List Expr) (u : Option Denotation) (o : Option ℕ) (k : ℕ) → o ≡ connection_at (source_of b) token.0 → o ≡ Some k → WritesThrough b w n a c token k u es → WritesNamed b w n a c token u es
  unfolding WritesNamed PutsNamed WritesThrough
  see_through a c token ys u o k eo some f = subst (Through a c token u (expressions (map syntax_of ys))) (sym some ∙ eo) f

  pub see_unconnected : (a c : DraftOf) (token : TokenNo) (es : List Expr) (u : Option Denotation) (o : Option ℕ) → o ≡ connection_at (source_of b) token.0 → o ≡ None → WritesOwn b w n a c token u es → WritesNamed b w n a c token u es
  unfolding WritesNamed PutsNamed WritesOwn PutsOwn
  see_unconnected a c token ys u o eo none f = subst (Through a c token u (expressions (map syntax_of ys))) (sym none ∙ eo) f

  pub see_giving : (a c : DraftOf) (x : Identifier) (es : List Expr) (u : Option Denotation) → u ≡ denoted (source_of b) x.token.0 → gives (source_of b) u ≡ true → WritesNamed b w n a c x.token u es → WritesGiving b w n a c x es
  unfolding WritesNamed PutsNamed WritesGiving Puts
  see_giving a c x ys u eu does f =
      let s = source_of b in
      let es = expressions (map syntax_of ys) in
      let does' : gives s (denoted s x.token.0) ≡ true = ap (gives s) (sym eu) ∙ does in
      emits_as w _ _ _ _ a c (λ t. t.1) (λ t. (does', t)) (λ final site p q _ _ r. (does', r)) (subst (λ z. PutsNamed s w n a c x.token z es) eu f)

  pub see_not_giving : (a c : DraftOf) (x : Identifier) (es : List Expr) (u : Option Denotation) → u ≡ denoted (source_of b) x.token.0 → gives (source_of b) u ≡ false → c ≡ given_up a → WritesGiving b w n a c x es
  unfolding WritesGiving Puts
  see_not_giving a c x ys u eu not' ec = emits_nothing w a c _ _ (λ h. let t : gives (source_of b) u ≡ true = ap (gives (source_of b)) eu ∙ h.0 in cc) ec

pub ruleset links = (to_link, to_no_link, link_declared)

pub ruleset sees = (see_call, see_plain_actual, see_copied_actual, see_text_actual, see_named_actual, see_named_procedure, see_procedure_actual, see_kept_actual, see_unfitted, see_fitted, see_unlike, see_variable, see_no_variable, see_constant, see_no_constant, see_array, see_element, see_called, see_virtual, see_named, see_not_named, see_named_array, see_named_element, see_procedure, see_nothing, see_declared, see_standard, see_undeclared, through_declared, through_standard, through_undeclared, see_through, see_unconnected, see_giving, see_not_giving)
