-- Procedures of simulation blocks, and attributes that are seen without a dot.
use Rattle.std.proofs.Common.{◌≡◌, ◌≢◌, ℕ, pos, suc, Bool, List, length, map, Option, Some, None, true, false, refl, sym, ap, ◌∙◌, subst}
use Rattle.sim_base.specs.declared.numbering.DeclNo.{DeclNo}
use Rattle.sim_base.specs.declared.numbering.TokenNo.{TokenNo}
use Rattle.sim_scope.specs.declared.bound.Bound.{Bound}
use Rattle.sim_scope.specs.declared.scopes.Denotation.{Denotation}
use Rattle.sim_scope.specs.declared.types.Entry.{Entry}
use Rattle.sim_scope.specs.declared.types.Entry.TheVariants as entry
use Rattle.sim_scope.specs.Scopes.{entry_of}
use Rattle.sim_scope.specs.Source.{found_at, level_of, line_at, source_of}
use Rattle.sim_tree.specs.declared.expr.Expr.{Expr}
use Rattle.sim_tree.specs.Syntax.{Expressions, expressions}
use Rattle.sim_tree.specs.SyntaxOf.{syntax_of}
use Rattle.sim_values.specs.Standard.{row_of}
use Rattle.sim_code.specs.declared.instr.Instr.{Instr}
use Rattle.sim_code.specs.declared.instr.Instr.TheVariants as i
use Rattle.sim_code.specs.Code.{CodeOf}
use Rattle.sim_code.specs.Simulations.{actual_count, is_simulation_name}
use Rattle.sim_meaning.specs.Attributes.{attribute_formals, own_attribute}
use Rattle.sim_meaning.specs.Closing.{formals_at, formals_declared}
use Rattle.sim_meaning.specs.Statements.{has_value}
use Rattle.codegen_expr.specs.declared.sets.SetProcedure.{SetProcedure}
use Rattle.codegen_expr.specs.declared.spot.Spot.{Spot}
use Rattle.codegen_expr.specs.Built.{ActualsBuilt, AreBuilt, NamedBuilt, OfObjectBuilt, OwnBuilt, OwnByBuilt, OwnNameBuilt, SimulationFoundBuilt, ThisFoundBuilt}
use Rattle.codegen_expr.specs.CodeExpr.{ActualsAt, Listed, Parameters, parameters_at, ExprsAt, NamedAt, OfObjectAt, OwnAt, OwnBy, OwnNameAt, SimulationFoundAt, SimulationNamed, ThisFoundAt, operands}
use Rattle.codegen_expr.specs.Drafts.{DraftOf, Emits, given_up, with_instr}
use Rattle.codegen_expr.specs.Emit.{PutsOwn, PutsUnconnected, WritesActuals, WritesLinkTo, WritesOwn, WritesUnconnected}
use Rattle.codegen_expr.specs.EmitObjects.{OfThis, PutsBase, WritesOf, WritesThis}
use Rattle.codegen_expr.specs.EmitSets.{WritesReferences, as_declared}
use Rattle.codegen_expr.specs.EmitSimulations.{CodeOfSimulation, FindsSimulation, NumberOfSimulation, WritesOwnName, WritesSimulation, WritesSimulationOf, kept_if, simulation_procedure}
use Rattle.codegen_expr.specs.Sites.{At, Inside, Pushes, Site}
use Rattle.codegen_expr.proofs.Pieces.{emits_as, emits_at, emits_nothing, emits_then}
use Rattle.codegen_expr.proofs.Seen.{count}
use Rattle.codegen_expr.proofs.SetProcedures.{agrees, differs}

abbrev Part : Type 1
Part = CodeOf → Site → ℕ → ℕ → Type 0

-- ---- numbers

pub simulation_miscounted : (x : SetProcedure) (count k : ℕ) → k ≡ actual_count x.name → count ≢ k → FindsSimulation x count None
unfolding FindsSimulation
simulation_miscounted x count k ek other = λ h. other (h.as_many ∙ sym ek)

pub simulation_misdeclared : (x : SetProcedure) (count : ℕ) → as_declared x.result (has_value (row_of x.name).result) ≡ false → FindsSimulation x count None
unfolding FindsSimulation
simulation_misdeclared x count no' = λ h. differs x.result (has_value (row_of x.name).result) no' h.leaves

pub simulation_numbered : (x : SetProcedure) (count k : ℕ) (r : Option ℕ) → k ≡ actual_count x.name → count ≡ k → as_declared x.result (has_value (row_of x.name).result) ≡ true → NumberOfSimulation x.name r → FindsSimulation x count r
unfolding FindsSimulation
simulation_numbered x count k None ek many yes' h = λ t. let q : true ≡ false = sym t.is_name ∙ h in cc
simulation_numbered x count k (Some n) ek many yes' h = (record { is_name = h.0; as_many = many ∙ ek; leaves = agrees x.result (has_value (row_of x.name).result) yes' }, h.1, h.2)

-- ---- what is written

module _ (b : Bound) (w : Spot) (n : ℕ) where
  pub no_simulation : (a c : DraftOf) (token : TokenNo) (text : ℕ) (x : SetProcedure) (es : List Expr) (k : ℕ) (r : Option ℕ) → k ≡ length es → FindsSimulation x k r → r ≡ None → c ≡ given_up a → WritesSimulationOf b w n a c token text x es
  unfolding WritesSimulationOf FindsSimulation
  no_simulation a c token text x ys k r ek f none ec =
      let never : SimulationNamed x.name x.result k → ⊥ = subst (CodeOfSimulation x k) none f in
      emits_nothing w a c _ _ (λ t. never (subst (SimulationNamed x.name x.result) (count ys ∙ sym ek) t.0)) ec

  pub simulation_done : (a c0 c1 c : DraftOf) (token : TokenNo) (text : ℕ) (x : SetProcedure) (es : List Expr) (k number m line : ℕ) (r : Option ℕ) (j : Instr) → k ≡ length es → FindsSimulation x k r → r ≡ Some number → m ≡ suc n → WritesLinkTo b w n a c0 text
      → WritesReferences b w m c0 c1 token x.parameter es → j ≡ i.Std (pos number) → line ≡ line_at (source_of b) token.0 → c ≡ with_instr c1 j line → WritesSimulationOf b w n a c token text x es
  unfolding WritesSimulationOf WritesReferences WritesActuals WritesLinkTo FindsSimulation
  simulation_done a c0 c1 c token text x ys k number m line r j ek f some em e0 g ej el ec =
      let s = source_of b in
      let es = expressions (map syntax_of ys) in
      let fs = Listed (attribute_formals x.parameter) in
      let ln = line_at s token.0 in
      let of : CodeOfSimulation x k (Some number) = subst (CodeOfSimulation x k) some f in
      let named : SimulationNamed x.name x.result (operands es) = subst (SimulationNamed x.name x.result) (ek ∙ sym (count ys)) of.0 in
      let g' = subst (λ z. Emits w c0 c1 (ActualsBuilt s w.text es fs) (λ final site p q. ActualsAt s final site z ln false es fs p q)) em g in
      emits_as w _ _ _ _ a c (λ t. (t.1, (t.2, tt))) (λ t. (named, t.0, t.1.0))
      (λ final site p q _ _ r. record { x = r.0; y = r.2.0; named = named; link = r.1.0; inside = r.1.1; actuals = r.2.1; number = number; numbered = of.1; done = r.2.2 })
      (emits_then w _ _ (λ z site p q. Pushes z site n (i.Link (pos (level_of s text))) p q × Inside s.tables site.text text) (λ z site p q. (v : ℕ) × ActualsAt s z site (suc n) ln false es fs p v × At z (i.Std (pos number)) ln v q) a c0 c e0
      (emits_then w _ _ (λ z site p q. ActualsAt s z site (suc n) ln false es fs p q) (λ z site. At z (i.Std (pos number)) ln) c0 c1 c g'
      (emits_at w c1 c (i.Std (pos number)) ln (ec ∙ ap (λ z. with_instr c1 z line) ej ∙ ap (λ z. with_instr c1 (i.Std (pos number)) z) el) (λ z. cc) of.2)))

  -- in the block in which it is found
  abbrev Found : (a c : DraftOf) → TokenNo → SetProcedure → Expressions → (found : Option ℕ) → Type 0
  Found a c token x es o =
      Emits w a c (SimulationFoundBuilt (source_of b) w.text o x.name x.result es (ActualsBuilt (source_of b) w.text es (Listed (attribute_formals x.parameter))))
      (λ final site p q. SimulationFoundAt (source_of b) final site n (line_at (source_of b) token.0) o x.name x.result es (λ u v. ActualsAt (source_of b) final site (suc n) (line_at (source_of b) token.0) false es (Listed (attribute_formals x.parameter)) u v) p q)

  pub simulation_found : (a c : DraftOf) (token : TokenNo) (x : SetProcedure) (es : List Expr) (o : Option ℕ) (k : ℕ) → o ≡ found_at (source_of b) token.0 → o ≡ Some k → WritesSimulationOf b w n a c token k x es → WritesSimulation b w n a c token x es
  unfolding WritesSimulation WritesSimulationOf
  simulation_found a c token x ys o k eo some f = subst (Found a c token x (expressions (map syntax_of ys))) (sym some ∙ eo) f

  pub simulation_nowhere : (a c : DraftOf) (token : TokenNo) (x : SetProcedure) (es : List Expr) (o : Option ℕ) → o ≡ found_at (source_of b) token.0 → o ≡ None → c ≡ given_up a → WritesSimulation b w n a c token x es
  unfolding WritesSimulation
  simulation_nowhere a c token x ys o eo none ec = subst (Found a c token x (expressions (map syntax_of ys))) (sym none ∙ eo) (emits_nothing w a c _ _ (λ z. z) ec)

  -- ---- names that are seen without a dot

  named_emits : (a c : DraftOf) (line : ℕ) (d : DeclNo) (found : Option ℕ) (k : Option Entry) (x : SetProcedure) (es : Expressions) (A : Parameters → Type 0) (O : Type 0) (B : CodeOf → Site → Parameters → ℕ → ℕ → Type 0) (X : Part) → k ≡ entry_of (source_of b).tables d → simulation_procedure k ≡ Some x
      → Emits w a c (SimulationFoundBuilt (source_of b) w.text found x.name x.result es (A (Listed (attribute_formals x.parameter)))) (λ final site p q. SimulationFoundAt (source_of b) final site n line found x.name x.result es (B final site (Listed (attribute_formals x.parameter))) p q)
      → Emits w a c (OwnNameBuilt (source_of b) w.text found k es (A (Listed (formals_at (source_of b) d))) O) (λ final site p q. OwnNameAt (source_of b) final site n line found k es (B final site (Listed (formals_at (source_of b) d))) (X final site) p q)
  named_emits a c line d found None x es A O B X ek some f = absurd (cc)
  named_emits a c line d found (Some (entry.Variable type)) x es A O B X ek some f = absurd (cc)
  named_emits a c line d found (Some (entry.Constant type)) x es A O B X ek some f = absurd (cc)
  named_emits a c line d found (Some (entry.Array element dimensions)) x es A O B X ek some f = absurd (cc)
  named_emits a c line d found (Some (entry.Procedure result block)) x es A O B X ek some f = absurd (cc)
  named_emits a c line d found (Some (entry.Class text)) x es A O B X ek some f = absurd (cc)
  named_emits a c line d found (Some (entry.Virtual result own)) x es A O B X ek some f = absurd (cc)
  named_emits a c line d found (Some (entry.Unspecified written)) x es A O B X ek some f = absurd (cc)
  named_emits a c line d found (Some (entry.Formal y)) x es A O B X ek some f = absurd (cc)
  named_emits a c line d found (Some (entry.Attribute name parameter result)) x es A O B X ek some f = by (is_simulation_name name) some
    where
      y : SetProcedure
      y = record { name = name; parameter = parameter; result = result }

      by : (t : Bool) → kept_if t y ≡ Some x
          → Emits w a c (OwnByBuilt t (SimulationFoundBuilt (source_of b) w.text found name result es (A (Listed (formals_at (source_of b) d)))) O) (λ final site p q. OwnBy t (λ u v. SimulationFoundAt (source_of b) final site n line found name result es (B final site (Listed (formals_at (source_of b) d))) u v) (X final site) p q)
      by true h =
          let is : y ≡ x = cc in
          let f' = subst (λ z. Emits w a c (SimulationFoundBuilt (source_of b) w.text found z.name z.result es (A (Listed (attribute_formals z.parameter)))) (λ final site p q. SimulationFoundAt (source_of b) final site n line found z.name z.result es (B final site (Listed (attribute_formals z.parameter))) p q)) (sym is) f in
          subst (λ fs. Emits w a c (SimulationFoundBuilt (source_of b) w.text found name result es (A (Listed fs))) (λ final site p q. SimulationFoundAt (source_of b) final site n line found name result es (B final site (Listed fs)) p q)) (ap (formals_declared (source_of b) d) ek) f'
      by false h = absurd (cc)

  other_emits : (a c : DraftOf) (line : ℕ) (found : Option ℕ) (k : Option Entry) (es : Expressions) (P O : Type 0) (B X : Part) → simulation_procedure k ≡ None → Emits w a c O X
      → Emits w a c (OwnNameBuilt (source_of b) w.text found k es P O) (λ final site p q. OwnNameAt (source_of b) final site n line found k es (B final site) (X final site) p q)
  other_emits a c line found None es P O B X none f = f
  other_emits a c line found (Some (entry.Variable type)) es P O B X none f = f
  other_emits a c line found (Some (entry.Constant type)) es P O B X none f = f
  other_emits a c line found (Some (entry.Array element dimensions)) es P O B X none f = f
  other_emits a c line found (Some (entry.Procedure result block)) es P O B X none f = f
  other_emits a c line found (Some (entry.Class text)) es P O B X none f = f
  other_emits a c line found (Some (entry.Virtual result own)) es P O B X none f = f
  other_emits a c line found (Some (entry.Unspecified written)) es P O B X none f = f
  other_emits a c line found (Some (entry.Formal y)) es P O B X none f = f
  other_emits a c line found (Some (entry.Attribute name parameter result)) es P O B X none f = by (is_simulation_name name) none
    where
      by : (t : Bool) → kept_if t (record { name = name; parameter = parameter; result = result }) ≡ None
          → Emits w a c (OwnByBuilt t (SimulationFoundBuilt (source_of b) w.text found name result es P) O) (λ final site p q. OwnBy t (λ u v. SimulationFoundAt (source_of b) final site n line found name result es (B final site) u v) (X final site) p q)
      by true h = absurd (cc)
      by false h = f

  pub name_of_simulation : (a c : DraftOf) (token : TokenNo) (d : DeclNo) (es : List Expr) (k : Option Entry) (r : Option SetProcedure) (x : SetProcedure) → k ≡ entry_of b.scopes d → r ≡ simulation_procedure k → r ≡ Some x → WritesSimulation b w n a c token x es → WritesOwnName b w n a c token d es
  unfolding WritesOwnName WritesSimulation source_of
  name_of_simulation a c token d ys k r x ek er some f =
      let s = source_of b in
      let es = expressions (map syntax_of ys) in
      let line = line_at s token.0 in
      named_emits a c line d (found_at s token.0) (entry_of s.tables d) x es (λ formals. ActualsBuilt s w.text es formals) (OfObjectBuilt s d (entry_of s.tables d) es (ThisFoundBuilt s w.text (found_at s token.0)) (AreBuilt s w.text es) (ActualsBuilt s w.text es (parameters_at s d)))
      (λ final site formals p q. ActualsAt s final site (suc n) line false es formals p q) (λ final site p q. OfObjectAt s final site n line d (entry_of s.tables d) es (λ x y. ThisFoundAt s final site n (found_at s token.0) x y) (λ x y. ExprsAt s final site (suc n) es x y) (λ x y. ActualsAt s final site (suc n) line false es (parameters_at s d) x y) p q)
      refl (ap simulation_procedure (sym ek) ∙ sym er ∙ some) f

  pub name_of_object : (a c0 c : DraftOf) (token : TokenNo) (d : DeclNo) (es : List Expr) (k : Option Entry) (r : Option SetProcedure) → k ≡ entry_of b.scopes d → r ≡ simulation_procedure k → r ≡ None → WritesThis b w n a c0 token → WritesOf b w n c0 c token d es → WritesOwnName b w n a c token d es
  unfolding WritesOwnName WritesThis WritesOf PutsBase source_of
  name_of_object a c0 c token d ys k r ek er none f g =
      let s = source_of b in
      let es = expressions (map syntax_of ys) in
      let line = line_at s token.0 in
      other_emits a c line (found_at s token.0) (entry_of s.tables d) es (ActualsBuilt s w.text es (Listed (formals_at s d))) (OfObjectBuilt s d (entry_of s.tables d) es (ThisFoundBuilt s w.text (found_at s token.0)) (AreBuilt s w.text es) (ActualsBuilt s w.text es (parameters_at s d)))
      (λ final site p q. ActualsAt s final site (suc n) line false es (Listed (formals_at s d)) p q) (λ final site p q. OfObjectAt s final site n line d (entry_of s.tables d) es (λ x y. ThisFoundAt s final site n (found_at s token.0) x y) (λ x y. ExprsAt s final site (suc n) es x y) (λ x y. ActualsAt s final site (suc n) line false es (parameters_at s d) x y) p q)
      (ap simulation_procedure (sym ek) ∙ sym er ∙ none) (g a (OfThis (found_at s token.0)) f)

  abbrev Own : (a c : DraftOf) → TokenNo → Option Denotation → Expressions → Option DeclNo → Type 0
  Own a c token u es o =
      Emits w a c
      (OwnBuilt o
      (λ d. OwnNameBuilt (source_of b) w.text (found_at (source_of b) token.0) (entry_of (source_of b).tables d) es (ActualsBuilt (source_of b) w.text es (Listed (formals_at (source_of b) d)))
      (OfObjectBuilt (source_of b) d (entry_of (source_of b).tables d) es (ThisFoundBuilt (source_of b) w.text (found_at (source_of b) token.0)) (AreBuilt (source_of b) w.text es) (ActualsBuilt (source_of b) w.text es (parameters_at (source_of b) d))))
      (NamedBuilt (source_of b) w.text u es (AreBuilt (source_of b) w.text es) (λ formals. ActualsBuilt (source_of b) w.text es formals)))
      (λ final site p q. OwnAt o
      (λ d. OwnNameAt (source_of b) final site n (line_at (source_of b) token.0) (found_at (source_of b) token.0) (entry_of (source_of b).tables d) es (λ x y. ActualsAt (source_of b) final site (suc n) (line_at (source_of b) token.0) false es (Listed (formals_at (source_of b) d)) x y)
      (λ x y. OfObjectAt (source_of b) final site n (line_at (source_of b) token.0) d (entry_of (source_of b).tables d) es (λ x y. ThisFoundAt (source_of b) final site n (found_at (source_of b) token.0) x y) (λ x y. ExprsAt (source_of b) final site (suc n) es x y) (λ x y. ActualsAt (source_of b) final site (suc n) (line_at (source_of b) token.0) false es (parameters_at (source_of b) d) x y) x y))
      (NamedAt (source_of b) final site n (line_at (source_of b) token.0) u es (λ x y. ExprsAt (source_of b) final site n es x y) (λ x y. ExprsAt (source_of b) final site (suc n) es x y) (λ formals x y. ActualsAt (source_of b) final site (suc n) (line_at (source_of b) token.0) false es formals x y)) p q)

  pub own_name : (a c : DraftOf) (token : TokenNo) (es : List Expr) (u : Option Denotation) (o : Option DeclNo) (d : DeclNo) → o ≡ own_attribute (source_of b) token.0 → o ≡ Some d → WritesOwnName b w n a c token d es → WritesOwn b w n a c token u es
  unfolding WritesOwn PutsOwn WritesOwnName
  own_name a c token ys u o d eo some f = subst (Own a c token u (expressions (map syntax_of ys))) (sym some ∙ eo) f

  pub own_other : (a c : DraftOf) (token : TokenNo) (es : List Expr) (u : Option Denotation) (o : Option DeclNo) → o ≡ own_attribute (source_of b) token.0 → o ≡ None → WritesUnconnected b w n a c token u es → WritesOwn b w n a c token u es
  unfolding WritesOwn PutsOwn WritesUnconnected PutsUnconnected
  own_other a c token ys u o eo none f = subst (Own a c token u (expressions (map syntax_of ys))) (sym none ∙ eo) f

pub ruleset numbers = (simulation_miscounted, simulation_misdeclared, simulation_numbered)

pub ruleset simulations = (no_simulation, simulation_done, simulation_found, simulation_nowhere)

pub ruleset own_names = (name_of_simulation, name_of_object)

pub ruleset owns = (own_name, own_other)
