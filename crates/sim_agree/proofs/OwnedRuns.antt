-- The texts of procedures and of classes belong to their declarations: what begins them.
use Rattle.std.proofs.Common.{◌≡◌, ℕ, List, [], ◌∷◌, ◌++◌, length, Option, Some, None, refl, sym, ap, ◌∙◌}
use Rattle.std.specs.Prelude.{slice_get}
use Rattle.sim_tree.specs.declared.expr.Identifier.{Identifier}
use Rattle.sim_tree.specs.declared.stmt.TypeName.{TypeName}
use Rattle.sim_tree.specs.Syntax.{Declarations, Heading, Statement, Statements}
use Rattle.sim_scope.specs.declared.types.BlockKind.TheVariants as kind
use Rattle.sim_scope.specs.declared.types.Entry.{Entry}
use Rattle.sim_scope.specs.declared.types.Entry.TheVariants as entry
use Rattle.sim_scope.specs.Building.{BuildingOf, Mark, changed, declared, holding_class, marked, opened, row_of as new_row, changed_row}
use Rattle.sim_scope.specs.Declare.{result_named}
use Rattle.sim_scope.specs.Runs.{run}
use Rattle.sim_scope.specs.Tables.{BlockOf}
use Rattle.sim_meaning.specs.Texts.{ClassText, ProcedureText, Text}
use Rattle.sim_agree.proofs.Groups.{AreReferences, Quals}
use Rattle.sim_agree.proofs.Steps.{Step}
use Rattle.sim_agree.proofs.Marks.{Declared, class_step, declared_latest, declared_step, procedure_unmatched, quals_latest, quals_step}
use Rattle.sim_agree.proofs.FineRuns.{quals_rows}
use Rattle.sim_agree.proofs.Owned.{Owned, opened_owned, owned_step}
use Rattle.sim_agree.proofs.Covered.{opened_least}
use Rattle.sim_agree.proofs.Clean.{Made, declared_clean, holding_same, quals_least}

-- a procedure begins
pub procedure_owned : (b : BuildingOf) (text first : ℕ) (quals : List Mark) (result : Option TypeName) (h : Heading) (body : Statement) (ts : List Text) (row : BlockOf) → Quals (AreReferences (result_named result)) quals
    → (n : ℕ) → b.current ≡ Some n → slice_get b.tables.blocks n ≡ Some row → length b.tables.blocks ≡ length ts
    → (opened (run marked (declared b h.name (entry.Procedure (result_named result) (length b.tables.blocks))) quals) kind.Procedure text first).least ≡ None → Owned b ts
    → Owned (opened (run marked (declared b h.name (entry.Procedure (result_named result) (length b.tables.blocks))) quals) kind.Procedure text first) (ts ++ ProcedureText result h body ∷ [])
procedure_owned b text first quals result h body ts row q n cur at size clean v =
    opened_owned c kind.Procedure text first ts (ProcedureText result h body) (s.size ∙ size) (
      record { 0 = length b.tables.declarations },
      new_row h.name e n made.0,
      quals_latest c0 (AreReferences (result_named result)) quals q ∙ declared_latest b h.name e n (new_row h.name e n made.0) cur made.1,
      ap (λ z. slice_get z (length b.tables.declarations)) (quals_rows c0 (AreReferences (result_named result)) quals q) ∙ made.1,
      ap (entry.Procedure (result_named result)) (sym s.size),
    )
    (owned_step b c (Declared (length b.tables.declarations) h.name e n) ts s v)
  where
    e : Entry
    e = entry.Procedure (result_named result) (length b.tables.blocks)

    c0 : BuildingOf
    c0 = declared b h.name (entry.Procedure (result_named result) (length b.tables.blocks))

    c : BuildingOf
    c = run marked (declared b h.name (entry.Procedure (result_named result) (length b.tables.blocks))) quals

    s : Step b (run marked (declared b h.name (entry.Procedure (result_named result) (length b.tables.blocks))) quals) (Declared (length b.tables.declarations) h.name (entry.Procedure (result_named result) (length b.tables.blocks)) n)
    s = quals_step b c0 (Declared (length b.tables.declarations) h.name e n) (AreReferences (result_named result)) quals q (declared_step b h.name e n (procedure_unmatched (result_named result) (length b.tables.blocks)) cur)

    made : Made b h.name (entry.Procedure (result_named result) (length b.tables.blocks)) n (declared b h.name (entry.Procedure (result_named result) (length b.tables.blocks)))
    made = (declared_clean b h.name e n row cur at (sym (quals_least c0 (AreReferences (result_named result)) quals q) ∙ opened_least c kind.Procedure text first clean)).1

-- a class begins
kept_latest : (c : BuildingOf) (o : Option ℕ) → (changed c holding_class o).latest ≡ c.latest
kept_latest c None = refl
kept_latest c (Some m) = go (slice_get c.tables.blocks m)
  where
    go : (o : Option BlockOf) → (changed_row c holding_class m o).latest ≡ c.latest
    go None = refl
    go (Some row) = refl

pub class_owned : (b : BuildingOf) (text first : ℕ) (prefix : Option Identifier) (h : Heading) (ds : Declarations) (ss : Statements) (ts : List Text) (row : BlockOf) (n : ℕ) → b.current ≡ Some n → slice_get b.tables.blocks n ≡ Some row → length b.tables.blocks ≡ length ts
    → (opened (changed (declared b h.name (entry.Class (length b.tables.blocks))) holding_class b.current) kind.Class text first).least ≡ None → Owned b ts
    → Owned (opened (changed (declared b h.name (entry.Class (length b.tables.blocks))) holding_class b.current) kind.Class text first) (ts ++ ClassText prefix h ds ss ∷ [])
class_owned b text first prefix h ds ss ts row n cur at size clean v =
    opened_owned c kind.Class text first ts (ClassText prefix h ds ss) (s.size ∙ size) (
      record { 0 = length b.tables.declarations },
      new_row h.name e n made.0,
      kept_latest c0 b.current ∙ declared_latest b h.name e n (new_row h.name e n made.0) cur made.1,
      ap (λ z. slice_get z (length b.tables.declarations)) (holding_same c0 b.current).2 ∙ made.1,
      ap entry.Class (sym s.size),
    )
    (owned_step b c (Declared (length b.tables.declarations) h.name e n) ts s v)
  where
    e : Entry
    e = entry.Class (length b.tables.blocks)

    c0 : BuildingOf
    c0 = declared b h.name (entry.Class (length b.tables.blocks))

    c : BuildingOf
    c = changed (declared b h.name (entry.Class (length b.tables.blocks))) holding_class b.current

    s : Step b (changed (declared b h.name (entry.Class (length b.tables.blocks))) holding_class b.current) (Declared (length b.tables.declarations) h.name (entry.Class (length b.tables.blocks)) n)
    s = class_step b h.name (length b.tables.blocks) n cur

    made : Made b h.name (entry.Class (length b.tables.blocks)) n (declared b h.name (entry.Class (length b.tables.blocks)))
    made = (declared_clean b h.name e n row cur at (sym (holding_same c0 b.current).0 ∙ opened_least c kind.Class text first clean)).1
