-- A connection stands in a text.
use Rattle.std.proofs.Common.{◌≡◌, ℕ, zero, suc, true, false, List, [], ◌∷◌, ◌++◌, Option, Some, None, refl, sym, ap, ◌∙◌}
use Rattle.std.specs.Prelude.{map, slice_get}
use Rattle.sim_agree.specs.Order.{InOrder}
use Rattle.sim_tree.specs.Syntax.{Also, Arms, Arrays, Begin, Block, Declaration, Declarations, DeclareClass, DeclareProcedure, NoArm, NoDeclaration, NoStatement, Statement, Statements, Variables, When, With, Expressions, Prefix}
use Rattle.sim_tree.specs.Syntax as syntax
use Rattle.sim_scope.specs.declared.types.StandardClass.{StandardClass}
use Rattle.sim_scope.specs.Access.{encloser}
use Rattle.sim_scope.specs.Bodies.{classes_declared}
use Rattle.sim_scope.specs.Standard.{standard_prefix}
use Rattle.sim_scope.specs.Source.{Source}
use Rattle.sim_meaning.specs.Texts.{ConnectionText, text, StandardText, prefix_texts, standard_texts}
use Rattle.sim_meaning.specs.Attributes.{is_connection}
use Rattle.sim_agree.specs.TablesOf.{TablesOf}
use Rattle.sim_agree.proofs.Laid.{Held, Joined, Whole, arms_held, block_held, declaration_held, declarations_held, held_program, program_held, statement_held, statements_held, text_held, prefixed_held, all_held}
use Rattle.sim_agree.proofs.Placing as p
use Rattle.sim_agree.proofs.Tables as t
use Rattle.sim_agree.proofs.Tables.{program_final}
use Rattle.sim_tree.specs.declared.expr.Identifier.{Identifier}

-- whole texts are no connections
abbrev AllWhole : List Held → Type 0
AllWhole [] = Unit {0}
AllWhole (Whole x ∷ hs) = (is_connection (Some x) ≡ false) × AllWhole hs
AllWhole (Joined i a ∷ hs) = AllWhole hs

both_whole : (xs ys : List Held) → AllWhole xs → AllWhole ys → AllWhole (xs ++ ys)
both_whole [] ys a b = b
both_whole (Whole x ∷ xs) ys a b = (a.0, both_whole xs ys a.1 b)
both_whole (Joined i x ∷ xs) ys a b = both_whole xs ys a b

all_whole : (cs : List StandardClass) → AllWhole (all_held (map StandardText cs))
all_whole [] = tt
all_whole (c ∷ cs) = (refl, all_whole cs)

standard_whole : (name : List ℕ) → AllWhole (all_held (standard_texts name))
unfolding standard_texts
standard_whole name = all_whole (classes_declared (standard_prefix name))

prefix_whole : (prefix : Option Identifier) → AllWhole (all_held (prefix_texts prefix))
prefix_whole None = tt
prefix_whole (Some y) = standard_whole y.name

mutual
  statement_whole : (a : Statement) → AllWhole (statement_held a)
  statement_whole (syntax.Empty i) = tt
  statement_whole (syntax.Compound b) = block_whole b
  statement_whole (syntax.Prefixed class es b) = prefixed_whole class es b
  statement_whole (syntax.Inner i) = tt
  statement_whole (syntax.Call e) = tt
  statement_whole (syntax.Assign e sides) = tt
  statement_whole (syntax.Choose i e a b) = both_whole (statement_held a) (statements_held b) (statement_whole a) (statements_whole b)
  statement_whole (syntax.Repeat i e a) = statement_whole a
  statement_whole (syntax.For i name sign j es a) = statement_whole a
  statement_whole (syntax.Inspect i e opening a end b) = both_whole (statement_held a) (statements_held b) (statement_whole a) (statements_whole b)
  statement_whole (syntax.InspectWhen i e arms b) = both_whole (arms_held arms) (statements_held b) (arms_whole arms) (statements_whole b)
  statement_whole (syntax.Activate i word e schedule) = tt

  statements_whole : (ss : Statements) → AllWhole (statements_held ss)
  statements_whole NoStatement = tt
  statements_whole (Also a more) = both_whole (statement_held a) (statements_held more) (statement_whole a) (statements_whole more)

  arms_whole : (arms : Arms) → AllWhole (arms_held arms)
  arms_whole NoArm = tt
  arms_whole (When i class opening a end more) = both_whole (statement_held a) (arms_held more) (statement_whole a) (arms_whole more)

  prefixed_whole : (class : Identifier) (es : Expressions) (b : Block) → AllWhole (prefixed_held class es b)
  prefixed_whole class es (Begin i ds ss e) =
      (refl, both_whole (all_held (standard_texts class.name)) (declarations_held ds ++ statements_held ss) (standard_whole class.name) (both_whole (declarations_held ds) (statements_held ss) (declarations_whole ds) (statements_whole ss)))

  block_whole : (b : Block) → AllWhole (block_held b)
  block_whole (Begin i NoDeclaration ss e) = statements_whole ss
  block_whole (Begin i (With d ds) ss e) =
      (refl, both_whole (declaration_held d) (declarations_held ds ++ statements_held ss) (declaration_whole d) (both_whole (declarations_held ds) (statements_held ss) (declarations_whole ds) (statements_whole ss)))

  declarations_whole : (ds : Declarations) → AllWhole (declarations_held ds)
  declarations_whole NoDeclaration = tt
  declarations_whole (With d ds) = both_whole (declaration_held d) (declarations_held ds) (declaration_whole d) (declarations_whole ds)

  declaration_whole : (d : Declaration) → AllWhole (declaration_held d)
  declaration_whole (Variables type vs) = tt
  declaration_whole (Arrays type i segments) = tt
  declaration_whole (DeclareProcedure result i h a e) = (refl, statement_whole a)
  declaration_whole (DeclareClass prefix i h interface (syntax.Compound (Begin j ds ss e)) end) =
      (refl, both_whole (all_held (prefix_texts prefix)) (declarations_held ds ++ statements_held ss) (prefix_whole prefix) (both_whole (declarations_held ds) (statements_held ss) (declarations_whole ds) (statements_whole ss)))
  declaration_whole (DeclareClass prefix i h interface a end) = (refl, both_whole (all_held (prefix_texts prefix)) (statement_held a) (prefix_whole prefix) (statement_whole a))

program_whole : (prefix : Option Prefix) (b : Block) → AllWhole (program_held prefix b)
program_whole (Some x) b = prefixed_whole x.class x.arguments b
program_whole None (Begin i ds ss end) = (refl, both_whole (declarations_held ds) (statements_held ss) (declarations_whole ds) (statements_whole ss))

joined_at : (hs : List Held) (n : ℕ) (h : Held) → AllWhole hs → slice_get hs n ≡ Some h → text_held h ≡ ConnectionText → (i : ℕ) × (a : Statement) × (slice_get hs n ≡ Some (Joined i a))
joined_at [] n h w at e = absurd (cc)
joined_at (Whole x ∷ hs) zero h w at e =
    let same : Whole x ≡ h = cc in
    let f : is_connection (Some x) ≡ true = ap (λ z. is_connection (Some (text_held z))) same ∙ ap (λ z. is_connection (Some z)) e in absurd (let g : false ≡ true = sym w.0 ∙ f in cc)
joined_at (Whole x ∷ hs) (suc n) h w at e = joined_at hs n h w.1 at e
joined_at (Joined i a ∷ hs) zero h w at e = (i, a, refl)
joined_at (Joined i a ∷ hs) (suc n) h w at e = joined_at hs n h w at e

module _ (s : Source) (of : TablesOf s) (order : InOrder s.program) where
  pub connection_enclosed : (k : ℕ) → text s k ≡ Some ConnectionText → (u : ℕ) × (encloser s.tables k ≡ Some u)
  unfolding text encloser
  connection_enclosed k at =
      let texts = held_program s.program.prefix s.program.block in
      let h = p.what_is_held (program_held s.program.prefix s.program.block) k ConnectionText (ap (λ z. slice_get z k) texts ∙ at) in
      let j = joined_at (program_held s.program.prefix s.program.block) k h.0 (program_whole s.program.prefix s.program.block) h.1 h.2 in
      let q = (program_final s.program order).laid.joins k j.0 j.1 j.2 in
      (q.1.0, t.same_around s of order k ∙ q.1.1)
