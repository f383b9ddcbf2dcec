-- The controlled variable.
use Rattle.std.proofs.Common.{◌≡◌, ℕ, suc, [], Option, Some, None, refl, sym, ap, ◌∙◌, subst, Bor}
use Rattle.std.specs.Prelude.{⊤, option_map}
use Rattle.sim_base.specs.declared.numbering.Line.{Line}
use Rattle.sim_scope.specs.declared.bound.Bound.{Bound}
use Rattle.sim_scope.specs.Source.{Source, source_of}
use Rattle.sim_tree.specs.declared.expr.Expr.{Expr}
use Rattle.sim_tree.specs.declared.expr.Identifier.{Identifier}
use Rattle.sim_tree.specs.Syntax.{Expression, Named, NoMore}
use Rattle.sim_tree.specs.SyntaxOf.{syntax_of}
use Rattle.sim_code.specs.declared.instr.Instr.TheVariants as i
use Rattle.sim_code.specs.Code.{CodeOf}
use Rattle.codegen_expr.specs.declared.spot.Spot.{Spot}
use Rattle.codegen_expr.specs.Built.{IsBuilt, PlaceBuilt, ReferenceBuilt}
use Rattle.codegen_expr.specs.CodeExpr.{ExprAt, PlaceAt, ReferencePlaceAt}
use Rattle.codegen_expr.specs.Drafts.{DraftOf, Emits, with_instr}
use Rattle.codegen_expr.specs.Emit.{Puts, PutsPlace, Writes, WritesNamedPlace}
use Rattle.codegen_expr.specs.Sites.{At, Is, Site}
use Rattle.codegen_expr.proofs.Pieces.{emits_as, emits_at, emits_then}
use Rattle.codegen.specs.declared.targets.Target.{Target}
use Rattle.codegen.specs.declared.targets.Target.TheVariants as target
use Rattle.codegen.specs.BuiltProgram.{VariableBuilt}
use Rattle.codegen.specs.CodeFor.{GivesBy, GivesVariable, LoadsVariable, OfCell, OfPlace, OfReference, PutsAt, StoresVariable, Variable}
use Rattle.codegen.specs.Emit.{WritesGiven}
use Rattle.codegen.specs.EmitLeft.{LoadsCell, StoresCell, WritesNamedReference}
use Rattle.codegen.specs.EmitTargets.{Controls, WritesLoaded, WritesStored, assigned_in, line_in}
use Rattle.codegen.proofs.Cells.{emits_load, emits_store}

module _ (b : Bound) (w : Spot) where
  -- a variable that is found anew, the value, and what puts it there
  puts_at : (n line : ℕ) (Built : Type 0) (Place : CodeOf → Site → ℕ → ℕ → Type 0) (a c d e : DraftOf) → Emits w a c Built Place → d ≡ with_instr c i.Swap 0 → e ≡ with_instr d i.Put line → Emits w a e Built (λ final site p q. PutsAt final (Place final site) (At final i.Put line) p q)
  puts_at n line Built Place a c d e f ed ee =
      emits_as w _ _ _ _ a e (λ h. (h, (tt, tt))) (λ h. h.0) (λ final site p q _ _ r. record { x = r.0; y = r.2.0; place = r.1; under = record { line = 0; is = r.2.1 }; put = r.2.2 })
      (emits_then w Built _ Place (λ final site p q. (y : ℕ) × At final i.Swap 0 p y × At final i.Put line y q) a c e f
      (emits_then w ⊤ ⊤ (λ final site p q. At final i.Swap 0 p q) (λ final site p q. At final i.Put line p q) c d e (emits_at w c d i.Swap 0 ed (λ z. cc) refl) (emits_at w d e i.Put line ee (λ z. cc) refl)))

  fetched : (Built : Type 0) (Place : CodeOf → Site → ℕ → ℕ → Type 0) (a c d : DraftOf) → Emits w a c Built Place → d ≡ with_instr c i.Fetch 0 → Emits w a d Built (λ final site p q. (x : ℕ) × Place final site p x × Is final i.Fetch x q)
  fetched Built Place a c d f ed =
      emits_as w _ _ _ _ a d (λ h. (h, tt)) (λ h. h.0) (λ final site p q _ _ r. (r.0, r.1, record { line = 0; is = r.2 }))
      (emits_then w Built ⊤ Place (λ final site p q. At final i.Fetch 0 p q) a c d f (emits_at w c d i.Fetch 0 ed (λ z. cc) refl))

  -- ---- a value goes to it

  abbrev Stores : (n : ℕ) → (a c : DraftOf) → Target → Variable → Type 0
  Stores n a c t v = Emits w a c (VariableBuilt (source_of b) w.text v) (λ final site p q. StoresVariable (source_of b) final site n v p q)

  pub stored_cell : (n : ℕ) (a c : DraftOf) (t : Target) (text place : ℕ) (o : Option Line) → t ≡ target.Cell text place o → StoresCell b a c text place → WritesStored b w n a c t
  unfolding WritesStored
  stored_cell n a c t text place o et ec v k = cases v (subst (λ z. Controls (source_of b) w.text z v) et k)
    where
      cases : (v : Variable) → Controls (source_of b) w.text (target.Cell text place o) v → Stores n a c t v
      cases (OfCell home key line) k =
          emits_as w ⊤ _ _ _ a c (λ h. tt) (λ h. k.3) (λ final site p q _ _ r. record { line = 0; is = r }) (emits_store b w a c home place key k.1 (subst (λ z. StoresCell b a c z place) k.0 ec))
      cases (OfPlace e line) k = absurd k
      cases (OfReference e line) k = absurd k

  pub stored_place : (n m : ℕ) (a c d e : DraftOf) (t : Target) (name : Bor Identifier) (o : Option Line) → t ≡ target.Place name o → m ≡ suc n → WritesNamedPlace b w m a c 0 name.now [] → d ≡ with_instr c i.Swap 0 → e ≡ with_instr d i.Put 0 → WritesStored b w n a e t
  unfolding WritesStored WritesNamedPlace PutsPlace
  stored_place n m a c d e t name o et em f ed ee v k = cases v (subst (λ z. Controls (source_of b) w.text z v) et k)
    where
      s : Source
      s = source_of b

      cases : (v : Variable) → Controls s w.text (target.Place name o) v → Stores n a e t v
      cases (OfCell home key line) k = absurd k
      cases (OfPlace x line) k =
          subst (λ z. Stores n a e t (OfPlace z line)) (sym k.0)
          (emits_as w _ _ _ _ a e (λ h. h) (λ h. h) (λ final site p q _ _ r. record { x = r.x; y = r.y; place = r.place; under = r.under; put = record { line = 0; is = r.put } })
          (puts_at n 0 (PlaceBuilt s w.text (Named name.now NoMore)) (λ final site p q. PlaceAt s final site (suc n) 0 (Named name.now NoMore) p q) a c d e (subst (λ z. Emits w a c (PlaceBuilt s w.text (Named name.now NoMore)) (λ final site p q. PlaceAt s final site z 0 (Named name.now NoMore) p q)) em f) ed ee))
      cases (OfReference x line) k = absurd k

  pub stored_reference : (n m line : ℕ) (a c d e : DraftOf) (t : Target) (name : Bor Identifier) (at : Line) → t ≡ target.Reference name at → m ≡ suc n → WritesNamedReference b w m a c name.now → d ≡ with_instr c i.Swap 0 → e ≡ with_instr d i.Put at.0 → WritesStored b w n a e t
  unfolding WritesStored WritesNamedReference
  stored_reference n m line a c d e t name at et em f ed ee v k = cases v (subst (λ z. Controls (source_of b) w.text z v) et k)
    where
      s : Source
      s = source_of b

      cases : (v : Variable) → Controls s w.text (target.Reference name at) v → Stores n a e t v
      cases (OfCell home key o) k = absurd k
      cases (OfPlace x o) k = absurd k
      cases (OfReference x l) k =
          subst (λ z. Stores n a e t (OfReference z l)) (sym k.0)
          (emits_as w _ _ _ _ a e (λ h. h) (λ h. h) (λ final site p q _ _ r. record { x = r.x; y = r.y; place = r.place; under = r.under; put = subst (λ z. At final i.Put z r.y q) k.1 r.put })
          (puts_at n at.0 (ReferenceBuilt s w.text (Named name.now NoMore)) (λ final site p q. ReferencePlaceAt s final site (suc n) (Named name.now NoMore) p q) a c d e (subst (λ z. Emits w a c (ReferenceBuilt s w.text (Named name.now NoMore)) (λ final site p q. ReferencePlaceAt s final site z (Named name.now NoMore) p q)) em f) ed ee))

  -- ---- its value

  abbrev Loads : (n : ℕ) → (a c : DraftOf) → Variable → Type 0
  Loads n a c v = Emits w a c (VariableBuilt (source_of b) w.text v) (λ final site p q. LoadsVariable (source_of b) final site n v p q)

  pub loaded_cell : (n : ℕ) (a c : DraftOf) (t : Target) (text place : ℕ) (o : Option Line) → t ≡ target.Cell text place o → LoadsCell b n a c text place → WritesLoaded b w n a c t
  unfolding WritesLoaded
  loaded_cell n a c t text place o et ec v k = cases v (subst (λ z. Controls (source_of b) w.text z v) et k)
    where
      cases : (v : Variable) → Controls (source_of b) w.text (target.Cell text place o) v → Loads n a c v
      cases (OfCell home key line) k =
          emits_as w ⊤ _ _ _ a c (λ h. tt) (λ h. k.3) (λ final site p q _ _ r. r) (emits_load b w n a c home place key k.1 (subst (λ z. LoadsCell b n a c z place) k.0 ec))
      cases (OfPlace e line) k = absurd k
      cases (OfReference e line) k = absurd k

  pub loaded_place : (n : ℕ) (a c d : DraftOf) (t : Target) (name : Bor Identifier) (o : Option Line) → t ≡ target.Place name o → WritesNamedPlace b w n a c 0 name.now [] → d ≡ with_instr c i.Fetch 0 → WritesLoaded b w n a d t
  unfolding WritesLoaded WritesNamedPlace PutsPlace
  loaded_place n a c d t name o et f ed v k = cases v (subst (λ z. Controls (source_of b) w.text z v) et k)
    where
      s : Source
      s = source_of b

      cases : (v : Variable) → Controls s w.text (target.Place name o) v → Loads n a d v
      cases (OfCell home key line) k = absurd k
      cases (OfPlace x line) k = subst (λ z. Loads n a d (OfPlace z line)) (sym k.0) (fetched (PlaceBuilt s w.text (Named name.now NoMore)) (λ final site p q. PlaceAt s final site n 0 (Named name.now NoMore) p q) a c d f ed)
      cases (OfReference x line) k = absurd k

  pub loaded_reference : (n : ℕ) (a c d : DraftOf) (t : Target) (name : Bor Identifier) (at : Line) → t ≡ target.Reference name at → WritesNamedReference b w n a c name.now → d ≡ with_instr c i.Fetch 0 → WritesLoaded b w n a d t
  unfolding WritesLoaded WritesNamedReference
  loaded_reference n a c d t name at et f ed v k = cases v (subst (λ z. Controls (source_of b) w.text z v) et k)
    where
      s : Source
      s = source_of b

      cases : (v : Variable) → Controls s w.text (target.Reference name at) v → Loads n a d v
      cases (OfCell home key line) k = absurd k
      cases (OfPlace x line) k = absurd k
      cases (OfReference x l) k = subst (λ z. Loads n a d (OfReference z l)) (sym k.0) (fetched (ReferenceBuilt s w.text (Named name.now NoMore)) (λ final site p q. ReferencePlaceAt s final site n (Named name.now NoMore) p q) a c d f ed)

  -- ---- a value of an expression

  -- by which line it gets the value
  by_line : (t : Target) (v : Variable) (o : Option Line) → Controls (source_of b) w.text t v → assigned_in t ≡ o → (final : CodeOf) (site : Site) (e : Expression) (p q : ℕ) → GivesBy (source_of b) final site 0 v (option_map line_in o) e p q → GivesVariable (source_of b) final site 0 v e p q
  by_line (target.Cell text place a) (OfCell home key line) o k ea final site e p q g = subst (λ z. GivesBy (source_of b) final site 0 (OfCell home key line) z e p q) (sym (ap (option_map line_in) ea) ∙ k.2) g
  by_line (target.Place name a) (OfPlace x line) o k ea final site e p q g = subst (λ z. GivesBy (source_of b) final site 0 (OfPlace x line) z e p q) (sym (ap (option_map line_in) ea) ∙ k.1) g
  by_line (target.Reference name at) (OfReference x l) o k ea final site e p q g = subst (λ z. GivesBy (source_of b) final site 0 (OfReference x l) (option_map line_in z) e p q) (sym ea) g
  by_line (target.Cell text place a) (OfPlace x line) o k ea final site e p q g = absurd k
  by_line (target.Cell text place a) (OfReference x line) o k ea final site e p q g = absurd k
  by_line (target.Place name a) (OfCell home key line) o k ea final site e p q g = absurd k
  by_line (target.Place name a) (OfReference x line) o k ea final site e p q g = absurd k
  by_line (target.Reference name at) (OfCell home key line) o k ea final site e p q g = absurd k
  by_line (target.Reference name at) (OfPlace x line) o k ea final site e p q g = absurd k

  pub given_value : (c0 c1 c2 : DraftOf) (t : Target) (v : Expr) (o : Option Line) → o ≡ assigned_in t → o ≡ None → Writes b w 0 c0 c1 v → WritesStored b w 0 c1 c2 t → WritesGiven b w c0 c2 t v
  unfolding WritesGiven WritesStored Writes Puts
  given_value c0 c1 c2 t v o eo none g f m k =
      let s = source_of b in
      emits_as w _ _ _ _ c0 c2 (λ h. (h.1, h.0)) (λ h. (h.1, h.0)) (λ final site p q _ _ r. by_line t m None k (sym eo ∙ none) final site (syntax_of v) p q (r.0, r.1, r.2))
      (emits_then w (IsBuilt s w.text (syntax_of v)) (VariableBuilt s w.text m) (λ z site. ExprAt s z site 0 (syntax_of v)) (λ final site p q. StoresVariable s final site 0 m p q) c0 c1 c2 g (f m k))

  pub given_text : (c0 c1 c2 c3 : DraftOf) (t : Target) (v : Expr) (line : Line) (o : Option Line) → o ≡ assigned_in t → o ≡ Some line → WritesLoaded b w 0 c0 c1 t → Writes b w 1 c1 c2 v → c3 ≡ with_instr c2 i.AssignT line.0 → WritesGiven b w c0 c3 t v
  unfolding WritesGiven WritesLoaded Writes Puts
  given_text c0 c1 c2 c3 t v line o eo some f g ec m k =
      let s = source_of b in
      emits_as w _ _ _ _ c0 c3 (λ h. (h.0, (h.1, tt))) (λ h. (h.0, h.1.0)) (λ final site p q _ _ r. by_line t m (Some line) k (sym eo ∙ some) final site (syntax_of v) p q (r.0, r.2.0, r.1, r.2.1, r.2.2))
      (emits_then w (VariableBuilt s w.text m) _ (λ final site p q. LoadsVariable s final site 0 m p q) (λ final site p q. (y : ℕ) × ExprAt s final site 1 (syntax_of v) p y × At final i.AssignT line.0 y q) c0 c1 c3 (f m k)
      (emits_then w (IsBuilt s w.text (syntax_of v)) ⊤ (λ z site. ExprAt s z site 1 (syntax_of v)) (λ final site p q. At final i.AssignT line.0 p q) c1 c2 c3 g (emits_at w c2 c3 i.AssignT line.0 ec (λ z. cc) refl)))

pub ruleset targets = (stored_cell, stored_place, stored_reference, loaded_cell, loaded_place, loaded_reference, given_value, given_text)
