-- The code of attributes of SIMSET and of SIMULATION evaluates their closed trees.
use Rattle.std.proofs.Common.{◌≡◌, ℕ, suc, Bool, true, false, Option, Some, None, refl, sym, ap, ◌∙◌, subst}
use Rattle.std.specs.Prelude.{◌||◌, pos}
use Rattle.sim_scope.specs.declared.types.Entry.{Entry}
use Rattle.sim_scope.specs.declared.types.Entry.TheVariants as entry
use Rattle.sim_scope.specs.declared.types.SimType.{SimType}
use Rattle.sim_scope.specs.Source.{Source}
use Rattle.sim_tree.specs.Syntax.{Expressions}
use Rattle.sim_values.specs.declared.standard.Standard.{Standard}
use Rattle.sim_code.specs.declared.instr.Instr.TheVariants as i
use Rattle.sim_code.specs.Code.{CodeOf}
use Rattle.sim_code.specs.Sets.{is_set_name}
use Rattle.sim_code.specs.Simulations.{is_process_name, is_simulation_name}
use Rattle.sim_meaning.specs.Attributes.{attribute_of_object, block_found, own_term, process_term, simulation_term}
use Rattle.sim_meaning.specs.Closing.{has_type}
use Rattle.sim_meaning.specs.Pending.{Further, Instances, NoTerm, NotNoneOf, ProcessOf, SetOf, Term, Terms}
use Rattle.sim_meaning.specs.Steps.{count}
use Rattle.codegen_expr.specs.Sites.{At, Inside, Site}
use Rattle.codegen_expr.specs.CodeExpr.{OwnBy, OwnNameAt, SetAt, SimulationFoundAt, gives_entry, operands}
use Rattle.sim_relate.proofs.Known.{Finds, gives}
use Rattle.sim_relate.proofs.SimulationNames.{process_alone, process_valued}
use Rattle.sim_relate.proofs.Trees.{OperandAt, TermAt, TermsAt}

module _ (s : Source) (code : CodeOf) (m : Instances) (inst : ℕ) (site : Site) where
  -- actual parameters, as many as are written
  abbrev pub AllActuals : (n : ℕ) → Expressions → (Actuals : ℕ → ℕ → Type 0) → Terms → Type 0
  AllActuals n es Actuals terms = (p q : ℕ) → Actuals p q → TermsAt s code m inst site (suc n) terms p q × (operands es ≡ count terms)

  -- the tree evaluates, and leaves a value just where g says so
  abbrev Gives : (n : ℕ) → Bool → Term → ℕ → ℕ → Type 0
  Gives n g t p q = TermAt s code m inst site n t p q × (gives s t ≡ g)

  -- nothing stands for no actual parameter
  none_there : (n : ℕ) (terms : Terms) (p q : ℕ) → count terms ≡ 0 → TermsAt s code m inst site n terms p q → q ≡ p
  none_there n NoTerm p q e a = a
  none_there n (Further t ts) p q e a = absurd (cc (e))

  module _ (line n : ℕ) (name : Standard) (parameter result : Option SimType) (es : Expressions) (Base Actuals : ℕ → ℕ → Type 0) (x : Term) (terms : Terms) (object : (p q : ℕ) → Base p q → OperandAt s code m inst site n x p q) (actuals : AllActuals n es Actuals terms) where
    set_at : is_set_name name ≡ true → (p q : ℕ) → SetAt code line name result es Base Actuals p q → Gives n (has_type result) (SetOf name (Further (NotNoneOf line x) terms)) p q
    set_at e p q a =
        let inner = actuals a.y a.z a.actuals in
        let named = a.named in (
          (
            a.z,
            (a.y, ((a.x, object p a.x a.object, a.there), refl), inner.0),
            record { is_name = e; as_many = ap suc (sym inner.1 ∙ named.as_many); number = a.number; numbered = a.numbered; done = record { line = line; is = a.done } },
          ),
          sym named.leaves,
        )

    process_at : is_process_name name ≡ true → (p q : ℕ) → SetAt code line name result es Base Actuals p q → Gives n (has_type result) (ProcessOf name line (NotNoneOf line x)) p q
    process_at e p q a =
        let inner = actuals a.y a.z a.actuals in
        let named = a.named in
        let next = none_there (suc n) terms a.y a.z (sym inner.1 ∙ named.as_many ∙ process_alone name e) inner.0 in (
          (
            a.y,
            ((a.x, object p a.x a.object, a.there), refl),
            record { is_name = e; number = a.number; numbered = a.numbered; done = subst (λ z. At code (i.Std (pos a.number)) line z q) next a.done },
          ),
          sym (named.leaves ∙ process_valued name e),
        )

    pub object_attribute_at : (p q : ℕ) → SetAt code line name result es Base Actuals p q → Gives n (has_type result) (attribute_of_object (is_set_name name) name line x terms) p q
    object_attribute_at p q a = by (is_set_name name) refl
      where
        or_process : (c : Bool) → is_process_name name ≡ c → is_set_name name ≡ false → Gives n (has_type result) (process_term c name line x) p q
        or_process true e f = process_at e p q a
        or_process false e f = absurd (cc (sym (ap (λ z. z || is_process_name name) f ∙ e) ∙ (a.named).is_name))

        by : (c : Bool) → is_set_name name ≡ c → Gives n (has_type result) (attribute_of_object c name line x terms) p q
        by true e = set_at e p q a
        by false e = or_process (is_process_name name) refl e

  -- ---- procedures of simulation blocks

  module _ (reach : (u : ℕ) → Inside s.tables site.text u → Finds s m inst u) (line n : ℕ) (es : Expressions) (Actuals : ℕ → ℕ → Type 0) (terms : Terms) (actuals : AllActuals n es Actuals terms) where
    simulation_at : (found : Option ℕ) (name : Standard) (result : Option SimType) (other : Term) (p q : ℕ) → SimulationFoundAt s code site n line found name result es Actuals p q → Gives n (has_type result) (simulation_term s true name (block_found s m inst found) terms line other) p q
    simulation_at None name result other p q a = absurd a
    simulation_at (Some k) name result other p q a =
        let r = reach k a.inside in
        let inner = actuals a.x a.y a.actuals in
        let named = a.named in
        subst (λ z. Gives n (has_type result) (simulation_term s true name z terms line other) p q) (sym r.2) (
          record {
            text = k;
            x = a.x;
            y = a.y;
            link = a.link;
            reaches = r.1;
            actuals = inner.0;
            is = record { is_name = named.is_name; as_many = sym inner.1 ∙ named.as_many; number = a.number; numbered = a.numbered; done = a.done };
          },
          sym named.leaves,
        )

    pub own_name_at : (found : Option ℕ) (o : Option Entry) (Other : ℕ → ℕ → Type 0) (other : Term) → ((p q : ℕ) → Other p q → Gives n (gives_entry o) other p q) → (p q : ℕ) → OwnNameAt s code site n line found o es Actuals Other p q → Gives n (gives_entry o) (own_term s o (block_found s m inst found) terms line other) p q
    own_name_at found (Some (entry.Attribute name parameter result)) Other other f p q a = by (is_simulation_name name) a
      where
        by : (c : Bool) → OwnBy c (SimulationFoundAt s code site n line found name result es Actuals) Other p q → Gives n (has_type result) (simulation_term s c name (block_found s m inst found) terms line other) p q
        by true a = simulation_at found name result other p q a
        by false a = f p q a
    own_name_at found (Some (entry.Variable type)) Other other f p q a = f p q a
    own_name_at found (Some (entry.Constant type)) Other other f p q a = f p q a
    own_name_at found (Some (entry.Array element dimensions)) Other other f p q a = f p q a
    own_name_at found (Some (entry.Formal y)) Other other f p q a = f p q a
    own_name_at found (Some (entry.Procedure result k)) Other other f p q a = f p q a
    own_name_at found (Some (entry.Class block)) Other other f p q a = f p q a
    own_name_at found (Some (entry.Virtual result own)) Other other f p q a = f p q a
    own_name_at found (Some (entry.Unspecified written)) Other other f p q a = f p q a
    own_name_at found None Other other f p q a = f p q a
