-- Blocks, procedures, classes and connections that tokens have end behind the token that begins them.
use Rattle.std.proofs.Common.{◌≡◌, ◌≤◌, ◌<◌, ◌+◌, arith, ℕ, true, List, [], ◌∷◌, Option, Some, None, map, refl}
use Rattle.sim_base.specs.declared.token.TokenKind.TheVariants as k
use Rattle.sim_tree.specs.declared.expr.Identifier.{Identifier}
use Rattle.sim_tree.specs.declared.program.BlockPrefix.{BlockPrefix}
use Rattle.sim_tree.specs.declared.program.Program.{Program as ProgramTree}
use Rattle.sim_tree.specs.declared.stmt.Block.{Block}
use Rattle.sim_tree.specs.declared.stmt.Class.{Class}
use Rattle.sim_tree.specs.declared.stmt.Decl.{Decl}
use Rattle.sim_tree.specs.declared.stmt.Decl.TheOpen.{Stmt-F, Decl-F}
use Rattle.sim_tree.specs.declared.stmt.Procedure.{Procedure}
use Rattle.sim_tree.specs.declared.stmt.Stmt.{Stmt}
use Rattle.sim_tree.specs.declared.stmt.TypeName.{TypeName}
use Rattle.sim_tree.specs.declared.stmt.When.{When}
use Rattle.sim_tree.specs.Grammar as g
use Rattle.sim_tree.specs.Reading.{Forest, done, leaf, place, node, bare_leaf}
use Rattle.sim_tree.specs.Tree.{IsTree}
use Rattle.sim_tree.proofs.Induction as induction
use Rattle.sim_tree.proofs.Full.{reads_full}
use Rattle.sim_tree.specs.Nesting.{has_token}
use Rattle.sim_tree.specs.Derivation.{arguments, Derivation, derivation_of, row}
use Rattle.sim_tree.specs.ProgramDerivation as d
use Rattle.sim_tree.specs.ProgramDerivation.{Declared, Plain, Prefixed, joined, acted, begun, contents, next_statement, assigned_derivation, statement_derivation, declaration_derivation, block_derivation, class_derivation, procedure_derivation, when_derivation, program_derivation}
use Rattle.sim_tree.specs.Syntax.{Statement, Declaration, statements, declarations}
use Rattle.sim_tree.specs.Syntax.{Block as BlockSyntax}
use Rattle.sim_tree.specs.SyntaxOfProgram.{Arm, arms, Classed, Headed, statement_syntax, declaration_syntax, block_syntax, arm_syntax, program_syntax}
use Rattle.sim_base.specs.declared.token.Token.{Token}
use Rattle.sim_tree.specs.declared.stmt.VirtualSpecification.{VirtualSpecification}
use Rattle.sim_tree.specs.Grammar.{Symbol}
use Rattle.sim_tree.specs.Reading.{Reads, reads-done, reads-kept, reads-mark, reads-any, reads-none, reads-here, reads-part, reads-skip, bare_leaf}
use Rattle.sim_tree.proofs.ReadStatements.{full_behind_row, full_behind_virtuals}
use Rattle.sim_tree.proofs.ReadExpressions.{full_behind_arguments, Full, is_full-Full}
use Rattle.sim_tree.specs.Ends.{InStatement, InStatements, InArms, InBlock, InDeclarations, InDeclaration, EndsBehind}

-- The tokens of a derivation ascend from a number on, up to another. A token that was not taken is at most the next one that is.
abbrev Ordered : ℕ → Forest → ℕ → Type 0
Ordered low done high = low ≤ high
Ordered low (leaf i kind value f) high = (low ≤ i) × Ordered (i + 1) f high
Ordered low (place i f) high = (low ≤ i) × Ordered i f high
Ordered low (node n inside f) high = (m : ℕ) × Ordered low inside m × Ordered m f high

upward : (f : Forest) (low high : ℕ) → Ordered low f high → low ≤ high
upward done low high o = o
upward (leaf i kind value f) low high o = let a = o.0 in let b = upward f (i + 1) high o.1 in omega (arith, a, b)
upward (place i f) low high o = let a = o.0 in let b = upward f i high o.1 in omega (arith, a, b)
upward (node n inside f) low high o = let a = upward inside low o.0 o.1 in let b = upward f o.0 high o.2 in omega (arith, a, b)

from_below : (f : Forest) (less low high : ℕ) → less ≤ low → Ordered low f high → Ordered less f high
from_below done less low high le o = omega (arith, le, o)
from_below (leaf i kind value f) less low high le o = (let a = o.0 in omega (arith, le, a), o.1)
from_below (place i f) less low high le o = (let a = o.0 in omega (arith, le, a), o.1)
from_below (node n inside f) less low high le o = (o.0, from_below inside less low o.0 le o.1, o.2)

module _ {most : ℕ} {ws : List Token} where
  reads_ordered : {d i j : ℕ} {s : List Symbol} {f : Forest} → Reads most ws d s i f j → Ordered i f j
  reads_ordered (reads-done {start = i}) = let z : i ≤ i = omega arith in z
  reads_ordered (reads-kept {start = i} h r) = (let z : i ≤ i = omega arith in z, reads_ordered r)
  reads_ordered (reads-mark {start = i} {end = j} {f = f} h r) = from_below f i (i + 1) j (omega arith) (reads_ordered r)
  reads_ordered (reads-any {start = i} {end = j} {f = f} h r) = from_below f i (i + 1) j (omega arith) (reads_ordered r)
  reads_ordered (reads-none h r) = reads_ordered r
  reads_ordered (reads-here {start = i} r) = (let z : i ≤ i = omega arith in z, reads_ordered r)
  reads_ordered (reads-part {m = m} b sh r o) = (m, reads_ordered r, reads_ordered o)
  reads_ordered (reads-skip b may r) = reads_ordered r

-- The claims of derivations.
abbrev Says : Forest → Statement → Type 0
Says f e = has_token g.Statement f ≡ true → Full f → (low high : ℕ) → Ordered low f high → InStatement e

abbrev Declares : Declared → Declaration → Type 0
Declares (Plain f) e = Full f → (low high : ℕ) → Ordered low f high → InDeclaration e
Declares (Prefixed x i f) e = Full f → (low high : ℕ) → i < low → Ordered low f high → InDeclaration e

abbrev Blocks : Forest → BlockSyntax → Type 0
Blocks f e = Full f → (low high : ℕ) → Ordered low f high → InBlock e

abbrev Classes : Forest → Classed → Type 0
Classes f e = Full f → (prefix : Option Identifier) (i : ℕ) (low high : ℕ) → i < low → Ordered low f high → InDeclaration (e prefix i)

abbrev Procedures : Forest → Headed → Type 0
Procedures f e = Full f → (result : Option TypeName) (i : ℕ) (low high : ℕ) → i < low → Ordered low f high → InDeclaration (e result i)

abbrev Arms : Forest → Arm → Type 0
Arms f e = Full f → (low high : ℕ) → Ordered low f high → (e.opening < e.end) × InStatement e.body

abbrev EachStatement : List Forest → List Statement → Type 0
EachStatement = induction.EachStatement Says Declares Blocks Classes Procedures Arms

abbrev EachDeclaration : List Declared → List Declaration → Type 0
EachDeclaration = induction.EachDeclaration Says Declares Blocks Classes Procedures Arms

begun_full : (f rest : Forest) → Full (begun f rest) → (has_token g.Statement f ≡ true) × Full f × Full rest
begun_full (leaf i k.Identifier value f) rest full = (refl, full.1.1, full.1.2)
begun_full f rest full = full

begun_ordered : (f rest : Forest) (low high : ℕ) → Ordered low (begun f rest) high → (m : ℕ) × (n : ℕ) × Ordered low f m × Ordered m rest n
begun_ordered (leaf i k.Identifier value f) rest low high o = (o.1.1.0, o.1.0, (o.0, o.1.1.1), o.1.1.2)
begun_ordered f rest low high o = (o.0, high, o.1, o.2)

-- what is behind actual parameters, and behind parts of one kind
behind_arguments : (xs : List Derivation) (f : Forest) (low high : ℕ) → Ordered low (arguments xs f) high → (m : ℕ) × Ordered m f high
behind_arguments [] f low high o = (low, o)
behind_arguments (x ∷ xs) f low high o = (o.0, o.2)

behind_row : (n : g.Part) (fs : List Forest) (f : Forest) (low high : ℕ) → Ordered low (row n fs f) high → (m : ℕ) × (low ≤ m) × Ordered m f high
behind_row n [] f low high o = (low, let z : low ≤ low = omega arith in z, o)
behind_row n (x ∷ xs) f low high o =
    let h = behind_row n xs f o.0 high o.2 in let a = upward x low o.0 o.1 in let b = h.1 in (h.0, let z : low ≤ h.0 = omega (arith, a, b) in z, h.2)

behind_virtuals : (vs : List VirtualSpecification) (f : Forest) (low high : ℕ) → Ordered low (d.virtuals_derivation vs f) high → (m : ℕ) × (low ≤ m) × Ordered m f high
behind_virtuals [] f low high o = (low, let z : low ≤ low = omega arith in z, o)
behind_virtuals (v ∷ vs) f low high o = (o.0, upward (row g.VirtualSpecification (map d.virtual_derivation (v ∷ vs)) done) low o.0 o.1, o.2)

-- Blocks.
more_statements : (fs : List Forest) (es : List Statement) (end : ℕ) → EachStatement fs es → (low high : ℕ) → Full (row g.NextStatement (map next_statement fs) (bare_leaf end k.End done))
    → Ordered low (row g.NextStatement (map next_statement fs) (bare_leaf end k.End done)) high → (low ≤ end) × InStatements (statements es)
more_statements [] [] end each low high full o = (o.0, tt)
more_statements [] (e ∷ es) end each low high full o = absurd each
more_statements (f ∷ fs) [] end each low high full o = absurd each
more_statements (f ∷ fs) (e ∷ es) end each low high full o =
    let h = more_statements fs es end each.1 o.0 high full.2 o.2 in
    let a = upward (next_statement f) low o.0 o.1 in
    let b = h.0 in
    (let z : low ≤ end = omega (arith, a, b) in z, (each.0 full.1.0 full.1.1 low o.1.0 o.1.1, h.1))

statements_end : (fs : List Forest) (es : List Statement) (end : ℕ) → EachStatement fs es → (low high : ℕ) → Full (d.statements fs end) → Ordered low (d.statements fs end) high → (low ≤ end) × InStatements (statements es)
statements_end [] [] end each low high full o = (o.0, tt)
statements_end [] (e ∷ es) end each low high full o = absurd each
statements_end (f ∷ fs) [] end each low high full o = absurd each
statements_end (f ∷ fs) (e ∷ es) end each low high full o =
    let rest = row g.NextStatement (map next_statement fs) (bare_leaf end k.End done) in
    let parts = begun_full f rest full in
    let p = begun_ordered f rest low high o in
    let h = more_statements fs es end each.1 p.0 p.1 parts.2 p.3 in
    let a = upward f low p.0 p.2 in
    let b = h.0 in
    (let z : low ≤ end = omega (arith, a, b) in z, (each.0 parts.0 parts.1 low p.0 p.2, h.1))

contents_end : (ds : List Declared) (xs : List Declaration) (fs : List Forest) (es : List Statement) (end : ℕ) → EachDeclaration ds xs → EachStatement fs es → (low high : ℕ) → Full (contents ds fs end)
    → Ordered low (contents ds fs end) high → (low ≤ end) × InDeclarations (declarations xs) × InStatements (statements es)
contents_end [] [] fs es end all each low high full o = let h = statements_end fs es end each low high full o in (h.0, tt, h.1)
contents_end [] (x ∷ xs) fs es end all each low high full o = absurd all
contents_end (y ∷ ds) [] fs es end all each low high full o = absurd all
contents_end (Plain f ∷ ds) (x ∷ xs) fs es end all each low high full o =
    let h = contents_end ds xs fs es end all.1 each o.2.0 o.2.2.0 full.2.2.1 o.2.2.1 in
    let a = upward f low o.0 o.1 in
    let b = o.2.1 in
    let c = h.0 in
    (let z : low ≤ end = omega (arith, a, b, c) in z, (all.0 full.1 low o.0 o.1, h.1), h.2)
contents_end (Prefixed name i f ∷ ds) (x ∷ xs) fs es end all each low high full o =
    let q = o.1.1.1 in
    let h = contents_end ds xs fs es end all.1 each q.2.0 q.2.2.0 full.1.2.2.1 q.2.2.1 in
    let a = upward f (i + 1) q.0 q.1 in
    let b = q.2.1 in
    let c = h.0 in
    let e = o.0 in
    let j = o.1.1.0 in
    (let z : low ≤ end = omega (arith, a, b, c, e, j) in z, (all.0 full.1.1 (i + 1) q.0 (let z : i < i + 1 = omega arith in z) q.1, h.1), h.2)

-- Each node.

abbrev StmtPair : Type 0
StmtPair = induction.StmtPair Says Declares Blocks Classes Procedures Arms

abbrev DeclPair : Type 0
DeclPair = induction.DeclPair Says Declares Blocks Classes Procedures Arms

abbrev BlockPair : Type 0
BlockPair = induction.BlockPair Says Declares Blocks Classes Procedures Arms

abbrev ClassPair : Type 0
ClassPair = induction.ClassPair Says Declares Blocks Classes Procedures Arms

abbrev ProcedurePair : Type 0
ProcedurePair = induction.ProcedurePair Says Declares Blocks Classes Procedures Arms

abbrev WhenPair : Type 0
WhenPair = induction.WhenPair Says Declares Blocks Classes Procedures Arms

abbrev first_stmt : StmtPair → Stmt
first_stmt x = x.0

abbrev first_decl : DeclPair → Decl
first_decl x = x.0

abbrev first_block : BlockPair → Block
first_block x = x.0

abbrev first_class : ClassPair → Class
first_class x = x.0

abbrev first_procedure : ProcedurePair → Procedure
first_procedure x = x.0

abbrev first_when : WhenPair → When
first_when x = x.0

arms_end : (xs : List WhenPair) (low high : ℕ) → Full (row g.WhenArm (map when_derivation (map first_when xs)) done) → Ordered low (row g.WhenArm (map when_derivation (map first_when xs)) done) high
    → InArms (arms (map arm_syntax (map first_when xs)))
arms_end [] low high full o = tt
arms_end (x ∷ xs) low high full o = let h = x.1 full.1 low o.0 o.1 in (h.0, h.1, arms_end xs o.0 high full.2 o.2)

connected : (f : Forest) (opening end low high : ℕ) → Ordered low (bare_leaf opening k.Do (node g.Statement f (place end done))) high → opening < end
connected f opening end low high o = let a = upward f (opening + 1) o.1.0 o.1.1 in let b = o.1.2.0 in omega (arith, a, b)

stmt_step : induction.StmtStep Says Declares Blocks Classes Procedures Arms
stmt_step (Stmt-F.Empty i) token full low high o = tt
stmt_step (Stmt-F.Block b) token full low high o = b.1 full.1 low o.0 o.1
stmt_step (Stmt-F.PrefixedBlock p b) token full low high o =
    let f = node g.AfterFirstOperand (node g.Compound (block_derivation b.0) done) done in
    let inner = full_behind_arguments (map derivation_of p.arguments.items) f full in
    let q = behind_arguments (map derivation_of p.arguments.items) f (p.class.token.0 + 1) high o.1 in
    b.1 inner.1.1 q.0 q.1.1.0 q.1.1.1
stmt_step (Stmt-F.Inner i) token full low high o = tt
stmt_step (Stmt-F.Call e) token full low high o = tt
stmt_step (Stmt-F.Assignment e v) token full low high o = tt
stmt_step (Stmt-F.If i e a None) token full low high o = (a.value.1 full.2.0 full.2.1 o.1.0 o.1.2.0 o.1.2.1, tt)
stmt_step (Stmt-F.If i e a (Some b)) token full low high o =
    let q = o.1.2.2.1 in (a.value.1 full.2.0 full.2.1 o.1.0 o.1.2.0 o.1.2.1, (b.value.1 full.2.2.1.0 full.2.2.1.1 o.1.2.0 q.0 q.1, tt))
stmt_step (Stmt-F.While i e a) token full low high o = a.value.1 full.2.0 full.2.1 o.1.0 o.1.2.0 o.1.2.1
stmt_step (Stmt-F.For i x n v a) token full low high o = let q = o.1.1 in a.value.1 full.2.0 full.2.1 q.0 q.2.0 q.2.1
stmt_step (Stmt-F.ForReference i x n v a) token full low high o = let q = o.1.1 in a.value.1 full.2.0 full.2.1 q.0 q.2.0 q.2.1
stmt_step (Stmt-F.Inspect i e n a m None) token full low high o =
    let q = o.1.2 in (connected (statement_derivation a.value.0) n.0 m.0 o.1.0 q.0 q.1, a.value.1 full.2.1.0 full.2.1.1 (n.0 + 1) q.1.1.0 q.1.1.1, tt)
stmt_step (Stmt-F.Inspect i e n a m (Some b)) token full low high o =
    let q = o.1.2 in
    let r = q.2.1 in
    (connected (statement_derivation a.value.0) n.0 m.0 o.1.0 q.0 q.1, a.value.1 full.2.1.0 full.2.1.1 (n.0 + 1) q.1.1.0 q.1.1.1, (b.value.1 full.2.2.1.0 full.2.2.1.1 q.0 r.0 r.1, tt))
stmt_step (Stmt-F.InspectWhen i e v None) token full low high o = let q = o.1.2 in (arms_end v.items o.1.0 q.0 full.2.1 q.1, tt)
stmt_step (Stmt-F.InspectWhen i e v (Some b)) token full low high o =
    let q = o.1.2 in let r = q.2.1 in (arms_end v.items o.1.0 q.0 full.2.1 q.1, (b.value.1 full.2.2.1.0 full.2.2.1.1 q.0 r.0 r.1, tt))
stmt_step (Stmt-F.Activation i w e p) token full low high o = tt

next : (i : ℕ) → i < i + 1
next i = omega arith

decl_step : induction.DeclStep Says Declares Blocks Classes Procedures Arms
decl_step (Decl-F.Variables n v) = λ full low high o. tt
decl_step (Decl-F.Arrays n i v) = λ full low high o. tt
decl_step (Decl-F.Procedure None i p) = λ full low high o. p.1 full.1 None i.0 (i.0 + 1) o.1.0 (next i.0) o.1.1
decl_step (Decl-F.Procedure (Some n) i p) = λ full low high o. let q = o.2.1.1 in p.1 full.2.1.1 (Some n) i.0 (i.0 + 1) q.0 (next i.0) q.1
decl_step (Decl-F.Class None i c) = λ full low high o. c.1 full.1 None i.0 (i.0 + 1) o.1.0 (next i.0) o.1.1
decl_step (Decl-F.Class (Some x) i c) = λ full low high below o. c.1 full (Some x) i.0 low high below o

block_step : induction.BlockStep Says Declares Blocks Classes Procedures Arms
block_step b full low high o =
    let h =
    contents_end (map declaration_derivation (map first_decl b.declarations.items)) (map declaration_syntax (map first_decl b.declarations.items)) (map statement_derivation (map first_stmt b.statements.items))
    (map statement_syntax (map first_stmt b.statements.items)) b.end.0 (induction.each_declaration Says Declares Blocks Classes Procedures Arms b.declarations.items) (induction.each_statement Says Declares Blocks Classes Procedures Arms b.statements.items) (b.token.0 + 1) o.1.0 full.1 o.1.1 in
    let a = h.0 in
    (let z : b.token.0 < b.end.0 = omega (arith, a) in z, h.1, h.2)

-- a heading and a body lie between a token and the end
ended : (x : ℕ) (heading body : Forest) (end i low a b c high : ℕ) → i < low → low ≤ x → Ordered (x + 1) heading a → a ≤ b → Ordered b body c → Ordered c (place end done) high → i < end
ended x heading body end i low a b c high below first one le two last =
    let h = upward heading (x + 1) a one in let j = upward body b c two in let m = last.0 in omega (arith, below, first, h, le, j, m)

class_step : induction.ClassStep Says Declares Blocks Classes Procedures Arms
class_step c full prefix i low high below o =
    let body = statement_derivation c.body.value.0 in
    let last = node g.Statement body (place c.end.0 done) in
    let middle = d.virtuals_derivation c.virtuals.items last in
    let ps = map d.protection_derivation c.protections.items in
    let end = full_behind_virtuals c.virtuals.items last (full_behind_row g.Protection ps middle full.2) in
    let q = o.1 in
    let r = behind_row g.Protection ps middle q.0 high q.2 in
    let v = behind_virtuals c.virtuals.items last r.0 high r.2 in
    let w = v.2 in
    (ended c.name.token.0 (d.heading_derivation c.parameters.items c.modes.items c.specifications.items) body c.end.0 i low q.0 v.0 w.0 high below o.0 q.1 (let a = r.1 in let b = v.1 in let z : q.0 ≤ v.0 = omega (arith, a, b) in z) w.1 w.2, c.body.value.1 end.0 end.1 v.0 w.0 w.1)

procedure_step : induction.ProcedureStep Says Declares Blocks Classes Procedures Arms
procedure_step p full result i low high below o =
    let q = o.1 in
    let w = q.2 in (
      ended p.name.token.0 (d.heading_derivation p.parameters.items p.modes.items p.specifications.items) (statement_derivation p.body.value.0) p.end.0 i low q.0 q.0 w.0 high below o.0 q.1 (let z : q.0 ≤ q.0 = omega arith in z) w.1 w.2,
      p.body.value.1 full.2.0 full.2.1 q.0 w.0 w.1,
    )

when_step : induction.WhenStep Says Declares Blocks Classes Procedures Arms
when_step w full low high o =
    let q = o.1.1 in (connected (statement_derivation w.body.0) w.opening.0 w.end.0 (w.class.token.0 + 1) high q, w.body.1 full.0 full.1 (w.opening.0 + 1) q.1.0 q.1.1)

end_block : (b : Block) → Blocks (block_derivation b) (block_syntax b)
end_block = induction.each_block Says Declares Blocks Classes Procedures Arms stmt_step decl_step block_step class_step procedure_step when_step

pub ends_behind : (ws : List Token) (p : ProgramTree) → IsTree ws p → EndsBehind (program_syntax p)
unfolding program_syntax
ends_behind ws p tree =
    let f = node g.Program (program_derivation p) done in
    let full = is_full-Full f (reads_full tree.reads) in
    let all = reads_ordered tree.reads in
    go p.prefix full.1 0 all.0 all.1
  where
    f : Forest
    f = block_derivation p.block

    go : (x : Option BlockPrefix) → Full (d.prefixed x (node g.Compound (block_derivation p.block) done)) → (low high : ℕ) → Ordered low (d.prefixed x (node g.Compound (block_derivation p.block) done)) high → InBlock (block_syntax p.block)
    go None full low high o = end_block p.block full.1 low o.0 o.1
    go (Some x) full low high o =
        let inner = full_behind_arguments (map derivation_of x.arguments.items) (node g.Compound f done) full in
        let q = behind_arguments (map derivation_of x.arguments.items) (node g.Compound f done) (x.class.token.0 + 1) high o.1 in
        end_block p.block inner.1 q.0 q.1.0 q.1.1
