use Rattle.std.proofs.Common.{[], ◌∷◌, refl, sym}
use Rattle.sim_base.specs.declared.token.TokenKind.TheVariants as k
use Rattle.sim_tree.specs.declared.stmt.Stmt.TheVariants as s
use Rattle.sim_tree.specs.Grammar.{Kept, just}
use Rattle.sim_tree.specs.ProgramDerivation.{statement_derivation}
use Rattle.sim_tree.proofs.StatementLemmas.{derivation-Inner}
use Rattle.sim_expr_parser.proofs.Steps.{exit, kept, kept-stops}
use Rattle.sim_expr_parser.proofs.Tables.{just_is}
use Rattle.sim_expr_parser.proofs.Tokens.{took_one}
use Rattle.sim_parser.specs.Parsing.{GivesAll}
use Rattle.sim_parser.proofs.Along.{all, along, along-stops, past}
use Rattle.sim_parser.proofs.statement.inner_statement.Goals as goal

pub returns-in_err-end : goal.returns-in_err-end
returns-in_err-end c = λ d.
    let ws = c.args.source.now in
    let i = c.args.at in
    let e = c.in_err-end.field-0.0 in
    let r = c.from_residual in
    exit (λ r. GivesAll ws d (Kept (just k.Inner) ∷ []) i statement_derivation r) r.result e r.ensures.1
    (along-stops (along d i (Kept (just k.Inner) ∷ []) c.requires.within) e (kept-stops ws d i (just k.Inner) e (just_is _ _ _ c.in_err-end.ensures.0) c.in_err-end.ensures.1))

pub returns : goal.returns
returns c = λ d.
    let ws = c.args.source.now in
    let i = c.args.at in
    let n = c.token_no-token.result in
    all (past (along d i (Kept (just k.Inner) ∷ []) c.requires.within) (kept n.0 c.token_no-token.ensures (took_one ws i c.in_ok-end.end k.Inner refl c.in_ok-end.ensures)))
    (statement_derivation (s.Inner n)) (sym (derivation-Inner n))
