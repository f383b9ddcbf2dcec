-- The formal parameters of a procedure: as many as the actual ones, and no more than its cells.
use Rattle.std.proofs.Common.{◌≡◌, ℕ, zero, suc, ◌+◌, ◌≤◌, Bool, List, [], ◌∷◌, length, Option, Some, None, refl, ap, ◌∙◌, arith}
use Rattle.std.specs.Prelude.{slice_get, take}
use Rattle.sim_base.specs.declared.numbering.DeclNo.{DeclNo}
use Rattle.sim_scope.specs.declared.types.Entry.{Entry}
use Rattle.sim_scope.specs.declared.types.Entry.TheVariants as entry
use Rattle.sim_scope.specs.declared.types.Formal.{Formal}
use Rattle.sim_scope.specs.declared.types.SimType.{SimType}
use Rattle.sim_scope.specs.Scopes.{entry_of, formal_in}
use Rattle.sim_scope.specs.Scopes as scopes
use Rattle.sim_scope.specs.Source.{Source}
use Rattle.sim_scope.specs.Tables.{BlockOf}
use Rattle.sim_tree.specs.declared.stmt.TypeName.{TypeName}
use Rattle.sim_tree.specs.Syntax.{Expressions, Heading, NoMore, Statement, Then}
use Rattle.sim_code.specs.Code.{CodeOf}
use Rattle.sim_meaning.specs.Closing as closing
use Rattle.sim_meaning.specs.Entries.{cells_from, first_cells, formal_before, formals_from, formals_of, numbers_of, with_cell, with_result}
use Rattle.sim_meaning.specs.Pending.{Held}
use Rattle.sim_meaning.specs.Texts.{ProcedureText}
use Rattle.codegen_expr.specs.CodeExpr.{PassedAt, operands}
use Rattle.codegen_expr.specs.Sites.{Site}
use Rattle.sim_relate.proofs.Slots.{results}

pub actuals_counted : (s : Source) (code : CodeOf) (site : Site) (line n : ℕ) (keeps : Bool) (es : Expressions) (fs : List Formal) (p q : ℕ) → PassedAt s code site n line keeps es fs p q → operands es ≡ length fs
actuals_counted s code site line n keeps NoMore [] p q a = refl
actuals_counted s code site line n keeps NoMore (f ∷ fs) p q a = absurd a
actuals_counted s code site line n keeps (Then e es) [] p q a = absurd a
actuals_counted s code site line n keeps (Then e es) (f ∷ fs) p q a = ap suc (actuals_counted s code site line (suc n) keeps es fs a.0 q a.2)

-- ---- both words for the formal parameters

before_same : (e : Option Entry) (fs : List Formal) → closing.formal_before (formal_in e) fs ≡ formal_before e fs
before_same (Some (entry.Formal f)) fs = refl
before_same _ fs = refl

from_same : (s : Source) (ds : List DeclNo) → closing.formals_from s ds ≡ formals_from s ds
from_same s [] = refl
from_same s (d ∷ ds) = before_same (entry_of s.tables d) (closing.formals_from s ds) ∙ ap (formal_before (entry_of s.tables d)) (from_same s ds)

block_same : (s : Source) (k : ℕ) (o : Option BlockOf) → slice_get s.tables.blocks k ≡ o → closing.formals_from s (scopes.formals_at s.tables (Some k)) ≡ formals_of s k
block_same s k None e = rw e
block_same s k (Some b) e = rw e (from_same s (take b.formals b.numbers))

pub formals_same : (s : Source) (d : DeclNo) (result : Option SimType) (k : ℕ) → entry_of s.tables d ≡ Some (entry.Procedure result k) → closing.formals_at s d ≡ formals_of s k
unfolding scopes.formals_of
formals_same s d result k e = ap (λ o. closing.formals_declared s d o) e ∙ ap (λ o. closing.formals_from s (scopes.formals_at s.tables (scopes.block_in o))) e ∙ block_same s k (slice_get s.tables.blocks k) refl

-- ---- formal parameters have cells

one_fits : (d : DeclNo) (e : Option Entry) (fs : List Formal) (hs : List Held) → length fs ≤ length hs → length (formal_before e fs) ≤ length (with_cell d e hs)
one_fits d (Some (entry.Formal f)) fs hs le = omega (arith, le)
one_fits d (Some (entry.Variable type)) fs hs le = omega (arith, le)
one_fits d (Some (entry.Constant type)) fs hs le = omega (arith, le)
one_fits d (Some (entry.Array element dimensions)) fs hs le = omega (arith, le)
one_fits d _ fs hs le = le

none_fits : (d : DeclNo) (e : Option Entry) (hs : List Held) (n : ℕ) → n ≤ length hs → n ≤ length (with_cell d e hs)
none_fits d (Some (entry.Formal f)) hs n le = omega (arith, le)
none_fits d (Some (entry.Variable type)) hs n le = omega (arith, le)
none_fits d (Some (entry.Constant type)) hs n le = omega (arith, le)
none_fits d (Some (entry.Array element dimensions)) hs n le = omega (arith, le)
none_fits d _ hs n le = le

from_fits : (s : Source) (n : ℕ) (ds : List DeclNo) → length (formals_from s (take n ds)) ≤ length (cells_from s ds)
from_fits s zero ds = omega arith
from_fits s (suc n) [] = omega arith
from_fits s (suc n) (d ∷ ds) = one_fits d (entry_of s.tables d) (formals_from s (take n ds)) (cells_from s ds) (from_fits s n ds)

block_fits : (s : Source) (k : ℕ) (o : Option BlockOf) → slice_get s.tables.blocks k ≡ o → length (formals_of s k) ≤ length (cells_from s (numbers_of s k))
block_fits s k None e = rw e (let le : 0 ≤ 0 = omega arith in le)
block_fits s k (Some b) e = rw e (from_fits s b.formals b.numbers)

result_fits : (result : Option TypeName) (n : ℕ) (hs : List Held) → n ≤ length hs → results result + n ≤ length (with_result result hs)
result_fits None n hs le = omega (arith, le)
result_fits (Some type) n hs le = omega (arith, le)

pub formals_fit : (s : Source) (k : ℕ) (result : Option TypeName) (h : Heading) (a : Statement) → results result + length (formals_of s k) ≤ length (first_cells s k (ProcedureText result h a))
unfolding first_cells
formals_fit s k result h a = result_fits result (length (formals_of s k)) (cells_from s (numbers_of s k)) (block_fits s k (slice_get s.tables.blocks k) refl)
