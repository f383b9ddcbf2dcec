-- Declarations and their lists.
use Rattle.std.proofs.Common.{[], ◌∷◌, refl, map, sym, ap, ◌∙◌, subst, arith, Ok}
use Rattle.std.proofs.lemmas.Bool.{false≢true}
use Rattle.sim_base.specs.declared.token.TokenKind.TheVariants as k
use Rattle.sim_expr_parser.proofs.Steps.{exit, gone, kept, once, once-stops, opened, passed, stops-at, stops-in, to, stops}
use Rattle.sim_expr_parser.proofs.Tables.{by_test, only}
use Rattle.sim_expr_parser.proofs.Tokens.{took_one}
use Rattle.sim_expr_parser.specs.Parsing.{ReadsTo}
use Rattle.sim_parser.proofs.Exits.{here, here_part, out_part, past_part, past_to}
use Rattle.sim_parser.proofs.Along.{closed-by}
use Rattle.sim_parser.proofs.BlockSteps.{at_place, declares_more, declares_none, kept_one, part_ahead, to_closed, type_stops, unexpected}
use Rattle.sim_parser.proofs.BlockTables.{after_class, array_row, block_declares, block_named, class_row, cls_row, decl_class, decl_procedure, decl_typed, declaring_row, named_row, no_typed, plain_class_row, proc_row, procedure_row, type_begins, typed_array, typed_procedure, typed_row, typed_variables, variables_row}
use Rattle.sim_parser.specs.Parsing.{GivesDecl, GivesDeclaration, GivesDeclarations, GivesTyped, ReadsDeclarations, begins_declaration, declared}
use Rattle.sim_tree.proofs.DerivationLemmas.{map-append}
use Rattle.sim_tree.proofs.StatementLemmas.{derivation-Arrays, derivation-Class, derivation-Class-prefixed, derivation-Procedure, derivation-Procedure-typed, derivation-Variables, derivation-class, derivation-procedure}
use Rattle.sim_tree.specs.Grammar as g
use Rattle.sim_tree.specs.Grammar.{Once, Kept, is, just, one_of}
use Rattle.sim_tree.specs.Reading.{done, node, place, kind_at, reads-done, bare_leaf}
use Rattle.sim_tree.specs.Derivation.{identifier, row}
use Rattle.sim_tree.specs.ProgramDerivation.{statement_derivation, class_derivation, declaration_derivation, heading_derivation, procedure_derivation, protection_derivation, segments_derivation, type_derivation, variables_derivation, virtuals_derivation}
use Rattle.sim_parser.proofs.statement.+statement.Goals as goal

pub declarations-loop-list-init : goal.declarations-loop-list-init
declarations-loop-list-init u c =
    let ws = c.args.source.now in
    let d = c.args.depth in
    let i = c.args.start in
    subst (λ z. ReadsDeclarations ws d i (map declaration_derivation z) i) (sym c.new-list.ensures.items) (declares_none c.requires.within)

pub declarations-returns-in_err-declared : goal.declarations-returns-in_err-declared
declarations-returns-in_err-declared u c =
    let ws = c.args.source.now in
    let d = c.args.depth in
    let i = c.args.start in
    let e = c.in_err-declared.field-0.0 in
    let r = c.from_residual in
    exit (λ r. GivesDeclarations ws d i r) r.result e r.ensures.1
    (c.loop-list.invariant.fails e c.in_err-declared.ensures)

pub declarations-loop-list-preserved : goal.declarations-loop-list-preserved
declarations-loop-list-preserved u c =
    let ws = c.args.source.now in
    let d = c.args.depth in
    let i = c.args.start in
    let l = c.loop-list in
    let x = c.in-Some.declared in
    let got = subst (λ r. GivesDeclaration ws d l.at (Ok r)) c.in-Some.is c.in_ok-declared.ensures in
    subst (λ z. ReadsDeclarations ws d i z c.in-Some.next) (sym (ap (map declaration_derivation) c.in_ok-push.ensures.items ∙ map-append declaration_derivation l.list.items x))
    (declares_more (map declaration_derivation l.list.items) (declaration_derivation x) l.invariant got.1)

pub declarations-returns : goal.declarations-returns
declarations-returns u c =
    let ws = c.args.source.now in
    let d = c.args.depth in
    let i = c.args.start in
    let l = c.loop-list in
    (l.invariant, subst (λ r. GivesDeclaration ws d l.at (Ok r)) c.in_default.is c.in_ok-declared.ensures)

pub declaration-returns-in_err-prefix : goal.declaration-returns-in_err-prefix
declaration-returns-in_err-prefix u c =
    let ws = c.args.source.now in
    let d = c.args.depth in
    let i = c.args.at in
    let j = c.in-Some.word in
    let f = c.in-Some.ensures in
    let w0 = opened ws d i g.Block named_row refl (by_test g.Block (kind_at ws i) k.Identifier named_row f.0 block_named) c.requires.within in
    let e = c.in_err-prefix.field-0.0 in
    let r = c.from_residual in
    exit (λ r. GivesDeclaration ws d i r) r.result e r.ensures.1
    (stops w0 e (c.in_err-prefix.ensures d))

pub declaration-returns-in_err-next : goal.declaration-returns-in_err-next
declaration-returns-in_err-next u c =
    let ws = c.args.source.now in
    let d = c.args.depth in
    let i = c.args.at in
    absurd (false≢true (sym c.in_err-next.ensures.0 ∙ c.in-Some.ensures.3))

pub declaration-returns-in_err-class : goal.declaration-returns-in_err-class
declaration-returns-in_err-class u c =
    let ws = c.args.source.now in
    let d = c.args.depth in
    let i = c.args.at in
    let j = c.in-Some.word in
    let f = c.in-Some.ensures in
    let w0 = opened ws d i g.Block named_row refl (by_test g.Block (kind_at ws i) k.Identifier named_row f.0 block_named) c.requires.within in
    let x = c.in_ok-prefix.ensures d in
    let same = kept_one (x.reads [] done _ reads-done) in
    let w1 = to w0 (subst (λ z. ReadsTo ws d (Kept (just k.Identifier)) i (identifier c.in_ok-prefix.prefix) z) (same ∙ sym f.1) x) in
    let m0 = opened ws d j g.AfterIdentifier class_row refl (by_test g.AfterIdentifier (kind_at ws j) k.Class class_row f.3 after_class) f.2 in
    let m1 = to m0 (kept j refl (took_one ws j c.in_ok-next.next k.Class refl c.in_ok-next.ensures)) in
    let e = c.in_err-class.field-0.0 in
    let r = c.from_residual-in_err-class in
    exit (λ r. GivesDeclaration ws d i r) r.result e r.ensures.1
    (stops w1 e (stops-in Once m1 e (once-stops ws d c.in_ok-next.next g.Class e c.in_err-class.ensures)))

pub declaration-returns-in_err-end : goal.declaration-returns-in_err-end
declaration-returns-in_err-end u c =
    let ws = c.args.source.now in
    let d = c.args.depth in
    let i = c.args.at in
    let j = c.in-Some.word in
    let f = c.in-Some.ensures in
    let w0 = opened ws d i g.Block named_row refl (by_test g.Block (kind_at ws i) k.Identifier named_row f.0 block_named) c.requires.within in
    let x = c.in_ok-prefix.ensures d in
    let same = kept_one (x.reads [] done _ reads-done) in
    let w1 = to w0 (subst (λ z. ReadsTo ws d (Kept (just k.Identifier)) i (identifier c.in_ok-prefix.prefix) z) (same ∙ sym f.1) x) in
    let m0 = opened ws d j g.AfterIdentifier class_row refl (by_test g.AfterIdentifier (kind_at ws j) k.Class class_row f.3 after_class) f.2 in
    let m1 = to m0 (kept j refl (took_one ws j c.in_ok-next.next k.Class refl c.in_ok-next.ensures)) in
    let m2 = to m1 (once c.in_ok-class.ensures) in
    let e = c.in_err-end.field-0.0 in
    let r = c.from_residual-in_err-end in
    exit (λ r. GivesDeclaration ws d i r) r.result e r.ensures.1
    (stops w1 e (stops-in Once m2 e (c.in_err-end.ensures d)))

pub declaration-returns-in-Some : goal.declaration-returns-in-Some
declaration-returns-in-Some u c =
    let ws = c.args.source.now in
    let d = c.args.depth in
    let i = c.args.at in
    let j = c.in-Some.word in
    let f = c.in-Some.ensures in
    let w0 = opened ws d i g.Block named_row refl (by_test g.Block (kind_at ws i) k.Identifier named_row f.0 block_named) c.requires.within in
    let x = c.in_ok-prefix.ensures d in
    let same = kept_one (x.reads [] done _ reads-done) in
    let w1 = to w0 (subst (λ z. ReadsTo ws d (Kept (just k.Identifier)) i (identifier c.in_ok-prefix.prefix) z) (same ∙ sym f.1) x) in
    let m0 = opened ws d j g.AfterIdentifier class_row refl (by_test g.AfterIdentifier (kind_at ws j) k.Class class_row f.3 after_class) f.2 in
    let n = c.token_no-token.result in
    let m1 = to m0 (kept n.0 c.token_no-token.ensures (took_one ws j c.in_ok-next.next k.Class refl c.in_ok-next.ensures)) in
    let m2 = to m1 (once c.in_ok-class.ensures) in
    let closed = c.in_ok-end.ensures d in
    let m3 = to_closed m2 closed in
    let derivation_of = derivation-Class-prefixed c.in_ok-prefix.prefix n c.in_ok-class.class in (
      omega (arith, f.1, m2.ahead, closed.0),
      record {
        reads = λ f m p. gone (to w1 (once (gone (to m3 (once p)) _ refl))) _ (sym (ap (λ z. declared (z ∷ []) f) derivation_of));
        fails = λ e q. stops w1 e (stops-at Once m3 e q);
        ahead = omega (arith, f.1, m2.ahead, closed.0);
        within = closed.1;
      },
    )

pub declaration-returns-then-not-begins_declaration : goal.declaration-returns-then-not-begins_declaration
declaration-returns-then-not-begins_declaration u c =
    let ws = c.args.source.now in
    let d = c.args.depth in
    let i = c.args.at in
    record {
      plain = ap (one_of begins_declaration) (sym c.kind_at.ensures) ∙ sym c.if-not-begins_declaration.ensures;
      prefixed = c.in_default.ensures;
    }

pub declaration-returns-in_err-declared : goal.declaration-returns-in_err-declared
declaration-returns-in_err-declared u c =
    let ws = c.args.source.now in
    let d = c.args.depth in
    let i = c.args.at in
    let h = ap (one_of begins_declaration) (sym c.kind_at.ensures) ∙ sym c.if-not-begins_declaration.ensures in
    let w0 = opened ws d i g.Block declaring_row refl (block_declares (kind_at ws i) h) c.requires.within in
    let e = c.in_err-declared.field-0.0 in
    let r = c.from_residual-in_err-declared in
    exit (λ r. GivesDeclaration ws d i r) r.result e r.ensures.1
    (stops w0 e (once-stops ws d i g.Declaration e c.in_err-declared.ensures))

pub declaration-returns-in_err-end-2 : goal.declaration-returns-in_err-end-2
declaration-returns-in_err-end-2 u c =
    let ws = c.args.source.now in
    let d = c.args.depth in
    let i = c.args.at in
    let h = ap (one_of begins_declaration) (sym c.kind_at.ensures) ∙ sym c.if-not-begins_declaration.ensures in
    let w0 = opened ws d i g.Block declaring_row refl (block_declares (kind_at ws i) h) c.requires.within in
    let w1 = to w0 (once c.in_ok-declared.ensures.part) in
    let e = c.in_err-end-2.field-0.0 in
    let r = c.from_residual-in_err-end-2 in
    exit (λ r. GivesDeclaration ws d i r) r.result e r.ensures.1
    (stops w1 e (c.in_err-end-2.ensures d))

pub declaration-returns : goal.declaration-returns
declaration-returns u c =
    let ws = c.args.source.now in
    let d = c.args.depth in
    let i = c.args.at in
    let h = ap (one_of begins_declaration) (sym c.kind_at.ensures) ∙ sym c.if-not-begins_declaration.ensures in
    let w0 = opened ws d i g.Block declaring_row refl (block_declares (kind_at ws i) h) c.requires.within in
    let p = c.in_ok-declared.ensures in
    let w1 = to w0 (once p.part) in
    let closed = c.in_ok-end-2.ensures d in
    let w2 = to_closed w1 closed in (
      omega (arith, part_ahead ws d i c.in_ok-declared.next g.Declaration p.inside refl p.part, closed.0),
      record {
        reads = λ f m q. gone (to w2 (once q)) _ (sym (ap (λ z. declared (z ∷ []) f) p.derivation_is));
        fails = λ e q. stops-at Once w2 e q [];
        ahead = omega (arith, p.part.ahead, closed.0);
        within = closed.1;
      },
    )

pub plain_declaration-returns-in_err-procedure : goal.plain_declaration-returns-in_err-procedure
plain_declaration-returns-in_err-procedure u c =
    let ws = c.args.source.now in
    let d = c.args.depth in
    let i = c.args.at in
    let w0 = opened ws d i g.Declaration procedure_row refl (by_test g.Declaration (kind_at ws i) k.Procedure procedure_row c.in-Some.ensures.0 decl_procedure) c.requires.within in
    let w1 = to w0 (kept i refl (took_one ws i c.in-Some.next k.Procedure refl c.in-Some.ensures)) in
    let e = c.in_err-procedure.field-0.0 in
    let r = c.from_residual in
    exit (λ r. GivesDecl ws d i r) r.result e r.ensures.1
    (stops w1 e (once-stops ws d c.in-Some.next g.Procedure e c.in_err-procedure.ensures))

pub plain_declaration-returns-in-Some : goal.plain_declaration-returns-in-Some
plain_declaration-returns-in-Some u c =
    let ws = c.args.source.now in
    let d = c.args.depth in
    let i = c.args.at in
    let n = c.token_no-token.result in
    let w0 = opened ws d i g.Declaration procedure_row refl (by_test g.Declaration (kind_at ws i) k.Procedure procedure_row c.in-Some.ensures.0 decl_procedure) c.requires.within in
    let w1 = to w0 (kept n.0 c.token_no-token.ensures (took_one ws i c.in-Some.next k.Procedure refl c.in-Some.ensures)) in
    let p = c.in_ok-procedure.procedure in
    record { inside = bare_leaf n.0 k.Procedure (node g.Procedure (procedure_derivation p) done); derivation_is = derivation-Procedure n p; part = gone (to w1 (once c.in_ok-procedure.ensures)) _ refl }

pub plain_declaration-returns-in_err-class : goal.plain_declaration-returns-in_err-class
plain_declaration-returns-in_err-class u c =
    let ws = c.args.source.now in
    let d = c.args.depth in
    let i = c.args.at in
    let w0 = opened ws d i g.Declaration plain_class_row refl (by_test g.Declaration (kind_at ws i) k.Class plain_class_row c.in-Some-eat.ensures.0 decl_class) c.requires.within in
    let w1 = to w0 (kept i refl (took_one ws i c.in-Some-eat.next k.Class refl c.in-Some-eat.ensures)) in
    let e = c.in_err-class.field-0.0 in
    let r = c.from_residual-in_err-class in
    exit (λ r. GivesDecl ws d i r) r.result e r.ensures.1
    (stops w1 e (once-stops ws d c.in-Some-eat.next g.Class e c.in_err-class.ensures))

pub plain_declaration-returns-in-Some-eat : goal.plain_declaration-returns-in-Some-eat
plain_declaration-returns-in-Some-eat u c =
    let ws = c.args.source.now in
    let d = c.args.depth in
    let i = c.args.at in
    let n = c.token_no-token.result in
    let w0 = opened ws d i g.Declaration plain_class_row refl (by_test g.Declaration (kind_at ws i) k.Class plain_class_row c.in-Some-eat.ensures.0 decl_class) c.requires.within in
    let w1 = to w0 (kept n.0 c.token_no-token.ensures (took_one ws i c.in-Some-eat.next k.Class refl c.in-Some-eat.ensures)) in
    let p = c.in_ok-class.class in
    record { inside = bare_leaf n.0 k.Class (node g.Class (class_derivation p) done); derivation_is = derivation-Class n p; part = gone (to w1 (once c.in_ok-class.ensures)) _ refl }

pub plain_declaration-returns-in_err-name : goal.plain_declaration-returns-in_err-name
plain_declaration-returns-in_err-name u c =
    let ws = c.args.source.now in
    let d = c.args.depth in
    let i = c.args.at in
    let e = c.in_err-name.field-0.0 in
    let r = c.from_residual-in_err-name in
    exit (λ r. GivesDecl ws d i r) r.result e r.ensures.1
    (type_stops ws d i e c.in_default.ensures c.in_default-eat.ensures c.requires.within (c.in_err-name.ensures d))

pub plain_declaration-returns : goal.plain_declaration-returns
plain_declaration-returns u c =
    let ws = c.args.source.now in
    let d = c.args.depth in
    let i = c.args.at in
    let p = c.in_ok-name.ensures d in
    let w0 = opened ws d i g.Declaration typed_row refl (decl_typed (kind_at ws i) (type_begins (kind_at ws i) p.right p.begins)) c.requires.within in
    let w1 = to w0 (once p) in
    let x = c.in_ok-name.name in
    passed (GivesTyped x ws d c.in_ok-name.next) (GivesDecl ws d i)
    (λ r h. record { inside = node g.TypeName (type_derivation x) (node g.TypedDeclaration h.inside done); derivation_is = h.derivation_is; part = gone (to w1 (once h.part)) _ refl })
    (λ e h. stops w1 e (once-stops ws d c.in_ok-name.next g.TypedDeclaration e h)) c.typed_declaration.result c.typed_declaration.ensures

pub typed_declaration-returns-in_err-procedure : goal.typed_declaration-returns-in_err-procedure
typed_declaration-returns-in_err-procedure u c =
    let ws = c.args.source.now in
    let d = c.args.depth in
    let i = c.args.at in
    let x = c.args.type_name in
    let w0 = opened ws d i g.TypedDeclaration procedure_row refl (by_test g.TypedDeclaration (kind_at ws i) k.Procedure procedure_row c.in-Some.ensures.0 typed_procedure) c.requires.within in
    let w1 = to w0 (kept i refl (took_one ws i c.in-Some.next k.Procedure refl c.in-Some.ensures)) in
    let e = c.in_err-procedure.field-0.0 in
    let r = c.from_residual in
    exit (λ r. GivesTyped x ws d i r) r.result e r.ensures.1
    (stops w1 e (once-stops ws d c.in-Some.next g.Procedure e c.in_err-procedure.ensures))

pub typed_declaration-returns-in-Some : goal.typed_declaration-returns-in-Some
typed_declaration-returns-in-Some u c =
    let ws = c.args.source.now in
    let d = c.args.depth in
    let i = c.args.at in
    let n = c.token_no-token.result in
    let x = c.args.type_name in
    let w0 = opened ws d i g.TypedDeclaration procedure_row refl (by_test g.TypedDeclaration (kind_at ws i) k.Procedure procedure_row c.in-Some.ensures.0 typed_procedure) c.requires.within in
    let w1 = to w0 (kept n.0 c.token_no-token.ensures (took_one ws i c.in-Some.next k.Procedure refl c.in-Some.ensures)) in
    let p = c.in_ok-procedure.procedure in
    record { inside = bare_leaf n.0 k.Procedure (node g.Procedure (procedure_derivation p) done); derivation_is = derivation-Procedure-typed x n p; part = gone (to w1 (once c.in_ok-procedure.ensures)) _ refl }

pub typed_declaration-returns-in_err-segments : goal.typed_declaration-returns-in_err-segments
typed_declaration-returns-in_err-segments u c =
    let ws = c.args.source.now in
    let d = c.args.depth in
    let i = c.args.at in
    let x = c.args.type_name in
    let w0 = opened ws d i g.TypedDeclaration array_row refl (by_test g.TypedDeclaration (kind_at ws i) k.Array array_row c.in-Some-eat.ensures.0 typed_array) c.requires.within in
    let w1 = to w0 (kept i refl (took_one ws i c.in-Some-eat.next k.Array refl c.in-Some-eat.ensures)) in
    let e = c.in_err-segments.field-0.0 in
    let r = c.from_residual-in_err-segments in
    exit (λ r. GivesTyped x ws d i r) r.result e r.ensures.1
    (stops-at Once w1 e c.in_err-segments.ensures [])

pub typed_declaration-returns-in-Some-eat : goal.typed_declaration-returns-in-Some-eat
typed_declaration-returns-in-Some-eat u c =
    let ws = c.args.source.now in
    let d = c.args.depth in
    let i = c.args.at in
    let n = c.token_no-token.result in
    let x = c.args.type_name in
    let w0 = opened ws d i g.TypedDeclaration array_row refl (by_test g.TypedDeclaration (kind_at ws i) k.Array array_row c.in-Some-eat.ensures.0 typed_array) c.requires.within in
    let w1 = to w0 (kept n.0 c.token_no-token.ensures (took_one ws i c.in-Some-eat.next k.Array refl c.in-Some-eat.ensures)) in
    let v = c.in_ok-segments.segments in
    record { inside = bare_leaf n.0 k.Array (segments_derivation v.items); derivation_is = derivation-Arrays x n v; part = closed-by w1 (segments_derivation v.items) c.in_ok-segments.ensures _ refl }

pub typed_declaration-returns-in_err-expect : goal.typed_declaration-returns-in_err-expect
typed_declaration-returns-in_err-expect u c =
    let ws = c.args.source.now in
    let d = c.args.depth in
    let i = c.args.at in
    let x = c.args.type_name in
    let e = c.in_err-expect.field-0.0 in
    let r = c.from_residual-in_err-expect in
    exit (λ r. GivesTyped x ws d i r) r.result e r.ensures.1
    (unexpected ws d i g.TypedDeclaration e c.in_err-expect.ensures.1 (no_typed (kind_at ws i) c.in_default.ensures c.in_default-eat.ensures c.in_err-expect.ensures.0))

pub typed_declaration-returns-in_err-variables : goal.typed_declaration-returns-in_err-variables
typed_declaration-returns-in_err-variables u c =
    let ws = c.args.source.now in
    let d = c.args.depth in
    let i = c.args.at in
    let x = c.args.type_name in
    let w0 = opened ws d i g.TypedDeclaration variables_row refl (by_test g.TypedDeclaration (kind_at ws i) k.Identifier variables_row c.in_ok-expect.ensures.0 typed_variables) c.requires.within in
    let e = c.in_err-variables.field-0.0 in
    let r = c.from_residual-in_err-variables in
    exit (λ r. GivesTyped x ws d i r) r.result e r.ensures.1
    (stops-at Once w0 e (c.in_err-variables.ensures d) [])

pub typed_declaration-returns : goal.typed_declaration-returns
typed_declaration-returns u c =
    let ws = c.args.source.now in
    let d = c.args.depth in
    let i = c.args.at in
    let x = c.args.type_name in
    let w0 = opened ws d i g.TypedDeclaration variables_row refl (by_test g.TypedDeclaration (kind_at ws i) k.Identifier variables_row c.in_ok-expect.ensures.0 typed_variables) c.requires.within in
    let v = c.in_ok-variables.variables in
    record { inside = variables_derivation v.items; derivation_is = derivation-Variables x v; part = closed-by w0 (variables_derivation v.items) (c.in_ok-variables.ensures d) _ refl }

pub procedure-returns-in_err-name : goal.procedure-returns-in_err-name
procedure-returns-in_err-name u c =
    let r = c.from_residual in
    out_part c.args.source.now c.args.depth c.args.at g.Procedure proc_row refl (only g.Procedure proc_row (kind_at c.args.source.now c.args.at) refl) c.requires.within procedure_derivation r.result c.in_err-name.field-0.0 r.ensures.1
    (here (c.in_err-name.ensures c.args.depth))

pub procedure-returns-in_err-heading : goal.procedure-returns-in_err-heading
procedure-returns-in_err-heading u c =
    let r = c.from_residual-in_err-heading in
    out_part c.args.source.now c.args.depth c.args.at g.Procedure proc_row refl (only g.Procedure proc_row (kind_at c.args.source.now c.args.at) refl) c.requires.within procedure_derivation r.result c.in_err-heading.field-0.0 r.ensures.1
    (past_to (c.in_ok-name.ensures c.args.depth) (here_part (c.in_err-heading.ensures c.args.depth)))

pub procedure-returns-in_err-body : goal.procedure-returns-in_err-body
procedure-returns-in_err-body u c =
    let r = c.from_residual-in_err-body in
    out_part c.args.source.now c.args.depth c.args.at g.Procedure proc_row refl (only g.Procedure proc_row (kind_at c.args.source.now c.args.at) refl) c.requires.within procedure_derivation r.result c.in_err-body.field-0.0 r.ensures.1
    (past_to (c.in_ok-name.ensures c.args.depth) (past_part (c.in_ok-heading.ensures c.args.depth) (here_part c.in_err-body.ensures)))

pub procedure-returns : goal.procedure-returns
procedure-returns u c =
    let ws = c.args.source.now in
    let d = c.args.depth in
    let i = c.args.at in
    let w0 = opened ws d i g.Procedure proc_row refl (only g.Procedure proc_row (kind_at ws i) refl) c.requires.within in
    let w1 = to w0 (c.in_ok-name.ensures d) in
    let w2 = to w1 (once (c.in_ok-heading.ensures d)) in
    let x = c.in_ok-name.name in
    let h = c.in_ok-heading.heading in
    let b = c.in_ok-body-2.body in
    let front = heading_derivation h.parameters.items h.modes.items h.specifications.items in
    let w3 = to w2 (once c.in_ok-body.ensures) in
    let n = c.token_no-end.result in
    gone (to w3 (at_place n.0 c.token_no-end.ensures w3.within)) _
    (ap (λ z. identifier x (node g.Heading front (node g.Statement (statement_derivation z) (place n.0 done)))) (sym c.in_ok-body-2.ensures.ok) ∙ sym (derivation-procedure x h.parameters h.modes h.specifications b n))

pub class-returns-in_err-name : goal.class-returns-in_err-name
class-returns-in_err-name u c =
    let r = c.from_residual in
    out_part c.args.source.now c.args.depth c.args.at g.Class cls_row refl (only g.Class cls_row (kind_at c.args.source.now c.args.at) refl) c.requires.within class_derivation r.result c.in_err-name.field-0.0 r.ensures.1
    (here (c.in_err-name.ensures c.args.depth))

pub class-returns-in_err-heading : goal.class-returns-in_err-heading
class-returns-in_err-heading u c =
    let r = c.from_residual-in_err-heading in
    out_part c.args.source.now c.args.depth c.args.at g.Class cls_row refl (only g.Class cls_row (kind_at c.args.source.now c.args.at) refl) c.requires.within class_derivation r.result c.in_err-heading.field-0.0 r.ensures.1
    (past_to (c.in_ok-name.ensures c.args.depth) (here_part (c.in_err-heading.ensures c.args.depth)))

pub class-returns-in_err-protections : goal.class-returns-in_err-protections
class-returns-in_err-protections u c =
    let r = c.from_residual-in_err-protections in
    out_part c.args.source.now c.args.depth c.args.at g.Class cls_row refl (only g.Class cls_row (kind_at c.args.source.now c.args.at) refl) c.requires.within class_derivation r.result c.in_err-protections.field-0.0 r.ensures.1
    (past_to (c.in_ok-name.ensures c.args.depth) (past_part (c.in_ok-heading.ensures c.args.depth) (here (c.in_err-protections.ensures c.args.depth))))

pub class-returns-in_err-virtuals : goal.class-returns-in_err-virtuals
class-returns-in_err-virtuals u c =
    let r = c.from_residual-in_err-virtuals in
    out_part c.args.source.now c.args.depth c.args.at g.Class cls_row refl (only g.Class cls_row (kind_at c.args.source.now c.args.at) refl) c.requires.within class_derivation r.result c.in_err-virtuals.field-0.0 r.ensures.1
    (past_to (c.in_ok-name.ensures c.args.depth) (past_part (c.in_ok-heading.ensures c.args.depth) (past_to (c.in_ok-protections.ensures c.args.depth) (here (c.in_err-virtuals.ensures c.args.depth)))))

pub class-returns-in_err-body : goal.class-returns-in_err-body
class-returns-in_err-body u c =
    let r = c.from_residual-in_err-body in
    out_part c.args.source.now c.args.depth c.args.at g.Class cls_row refl (only g.Class cls_row (kind_at c.args.source.now c.args.at) refl) c.requires.within class_derivation r.result c.in_err-body.field-0.0 r.ensures.1
    (past_to (c.in_ok-name.ensures c.args.depth) (past_part (c.in_ok-heading.ensures c.args.depth) (past_to (c.in_ok-protections.ensures c.args.depth) (past_to (c.in_ok-virtuals.ensures c.args.depth) (here_part c.in_err-body.ensures)))))

pub class-returns : goal.class-returns
class-returns u c =
    let ws = c.args.source.now in
    let d = c.args.depth in
    let i = c.args.at in
    let w0 = opened ws d i g.Class cls_row refl (only g.Class cls_row (kind_at ws i) refl) c.requires.within in
    let w1 = to w0 (c.in_ok-name.ensures d) in
    let w2 = to w1 (once (c.in_ok-heading.ensures d)) in
    let w3 = to w2 (c.in_ok-protections.ensures d) in
    let w4 = to w3 (c.in_ok-virtuals.ensures d) in
    let w5 = to w4 (once c.in_ok-body.ensures) in
    let n = c.token_no-end.result in
    let w6 = to w5 (at_place n.0 c.token_no-end.ensures w5.within) in
    let x = c.in_ok-name.name in
    let h = c.in_ok-heading.heading in
    let b = c.in_ok-body-2.body in
    let front = heading_derivation h.parameters.items h.modes.items h.specifications.items in
    let rs = c.in_ok-protections.protections in
    let vs = c.in_ok-virtuals.virtuals in
    gone w6 _
    (ap (λ z. identifier x (node g.Heading front (row g.Protection (map protection_derivation rs.items) (virtuals_derivation vs.items (node g.Statement (statement_derivation z) (place n.0 done)))))) (sym c.in_ok-body-2.ensures.ok)
    ∙ sym (derivation-class x h.parameters h.modes h.specifications rs vs b n))

pub plain_declaration-typed_declaration-requires : goal.plain_declaration-typed_declaration-requires
plain_declaration-typed_declaration-requires u c =
    let q = c.in_ok-name.ensures 0 in
    (omega (arith, c.decreases), (q.within, c.requires.shallow))

pub procedure-heading_at-requires : goal.procedure-heading_at-requires
procedure-heading_at-requires u c = record { within = (c.in_ok-name.ensures 0).within }

pub class-heading_at-requires : goal.class-heading_at-requires
class-heading_at-requires u c = record { within = (c.in_ok-name.ensures 0).within }

pub procedure-statement-requires : goal.procedure-statement-requires
procedure-statement-requires u c =
    let q = c.in_ok-heading.ensures 0 in
    (omega (arith, c.decreases), (q.within, c.requires.shallow))

pub class-protections-requires : goal.class-protections-requires
class-protections-requires u c = record { within = (c.in_ok-heading.ensures 0).within }

pub class-virtuals-requires : goal.class-virtuals-requires
class-virtuals-requires u c = record { within = (c.in_ok-protections.ensures 0).within }

pub class-statement-requires : goal.class-statement-requires
class-statement-requires u c =
    let q = c.in_ok-virtuals.ensures 0 in
    (omega (arith, c.decreases), (q.within, c.requires.shallow))
