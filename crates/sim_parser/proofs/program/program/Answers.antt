use Rattle.std.proofs.Common.{◌+◌, ◌∙◌, refl, sym, ap, subst, true, false, [], ◌∷◌, map}
use Rattle.sim_base.specs.declared.token.TokenKind.TheVariants as k
use Rattle.sim_tree.specs.Grammar as g
use Rattle.sim_tree.specs.Grammar.{Any, Mark, is}
use Rattle.sim_tree.specs.Reading.{Reads, Unexpected, done, fails-mark, node, reads-done, reads-mark, kind_at}
use Rattle.sim_tree.specs.Claim.{one}
use Rattle.sim_tree.specs.ProgramDerivation.{block_derivation, prefixed}
use Rattle.sim_tree.specs.Tree.{limit, line}
use Rattle.sim_tree.proofs.Completion.{is_same}
use Rattle.sim_expr_parser.proofs.Tokens.{not_is}
use Rattle.sim_expr_parser.proofs.Steps.{exit, once, once-stops}
use Rattle.sim_parser.specs.Program.{GivesProgram, program_rest}
use Rattle.sim_parser.proofs.Along.{along, past}
use Rattle.sim_parser.proofs.ProgramSteps.{names-token, prefix-stops}
use Rattle.sim_parser.proofs.program.program.Goals as goal

pub returns-in_err-block : goal.returns-in_err-block
returns-in_err-block c =
    let ws = c.args.source.now in
    let before = c.in_ok-prefix.ensures in
    let at = c.in_ok-prefix.at in
    let e = c.in_err-block.field-0.0 in
    let r = c.from_residual-in_err-block in
    exit (GivesProgram ws) r.result e r.ensures.1 (
      prefix-stops ws before e (once-stops ws 0 at g.Compound e c.in_err-block.ensures (Any k.Semicolon ∷ Mark k.EndOfSource ∷ [])),
      names-token ws c.requires.source.source.ended 0 at (one g.Compound) e refl before.within c.in_err-block.ensures,
    )

pub kind_at-requires : goal.kind_at-requires
kind_at-requires c = record { within = (c.past_semicolons-end.ensures 0).within }

pub returns-then-ne : goal.returns-then-ne
returns-then-ne c =
    let before = c.in_ok-prefix.ensures in
    let end = c.past_semicolons-end.result in
    let w = past (past (along 0 c.in_ok-prefix.at program_rest before.within) (once c.in_ok-block.ensures)) (c.past_semicolons-end.ensures 0) in
    let other = ap (λ z. is z k.EndOfSource) (sym c.kind_at.ensures) ∙ not_is _ _ true c.if-ne.ensures in
    (before.fails (Unexpected end) (w.leads.fails (Unexpected end) (fails-mark other)), w.within)

pub returns : goal.returns
returns c =
    let ws = c.args.source.now in
    let before = c.in_ok-prefix.ensures in
    let end = c.past_semicolons-end.result in
    let w = past (past (along 0 c.in_ok-prefix.at program_rest before.within) (once c.in_ok-block.ensures)) (c.past_semicolons-end.ensures 0) in
    let is-end = ap (λ z. is z k.EndOfSource) (sym c.kind_at.ensures) ∙ not_is _ _ false c.if-ne.ensures in
    let f = node g.Compound (block_derivation c.in_ok-block.block) done in
    record {
      reads = subst (λ m. Reads limit ws 0 (one g.Program) 0 (node g.Program (prefixed c.in_ok-prefix.prefix f) done) m) (c.requires.source.only end w.within (is_same (kind_at ws end) k.EndOfSource is-end))
          (before.reads f (end + 1) (w.leads.reads done (end + 1) (reads-mark is-end reads-done)));
      lines = c.in_ok-lines.ensures ∙ ap (map line) c.tokens.ensures.tokens;
    }
