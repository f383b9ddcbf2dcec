use Rattle.std.proofs.Common.{◌∙◌, refl, sym, ap, true, false, [], ◌∷◌, map, subst}
use Rattle.sim_base.specs.declared.token.TokenKind.TheVariants as k
use Rattle.sim_tree.specs.Grammar as g
use Rattle.sim_tree.specs.Grammar.{Maybe, Of, Kept, is, just}
use Rattle.sim_tree.specs.Reading.{kind_at}
use Rattle.sim_tree.specs.Derivation.{arguments, identifier, derivation_of}
use Rattle.sim_expr_parser.proofs.Tokens.{not_is}
use Rattle.sim_expr_parser.proofs.Steps.{exit}
use Rattle.sim_parser.specs.Program.{GivesPrefix, NamesToken, program_rest}
use Rattle.sim_parser.proofs.Along.{along, past, along-stops}
use Rattle.sim_parser.proofs.ProgramSteps.{plain-row, no-row, prefixed-row, prefixed_symbols, program-reads, program-fails, program-stops, no-program, names-token, stays-identifier}
use Rattle.sim_parser.proofs.program.block_prefix.Goals as goal

pub returns-in_err-expect : goal.returns-in_err-expect
returns-in_err-expect c =
    let ws = c.args.source.now in
    let a = kind_at ws 0 in
    let e = c.in_err-expect.field-0.0 in
    let none = no-row a c.in_err-expect.ensures.0 (ap (λ z. is z k.Identifier) (sym c.kind_at.ensures) ∙ not_is _ _ true c.if-ne.ensures) in
    let stops = no-program ws e none c.in_err-expect.ensures.1 in
    exit (GivesPrefix ws) c.from_residual.result e c.from_residual.ensures.1
    (stops, subst (NamesToken ws) (sym c.in_err-expect.ensures.1) c.requires.source.source.ended.some)

pub returns-then-ne : goal.returns-then-ne
returns-then-ne c =
    let ws = c.args.source.now in
    let row = plain-row (kind_at ws 0) c.in_ok-expect.ensures.0 in
    record {
      reads = λ f m r. program-reads ws program_rest f m row r;
      fails = λ e r. program-fails ws program_rest e row r;
      within = c.requires.source.source.ended.some;
    }

pub returns-in_err-class : goal.returns-in_err-class
returns-in_err-class c =
    let ws = c.args.source.now in
    let ended = c.requires.source.source.ended in
    let row = prefixed-row (kind_at ws 0) (ap (λ z. is z k.Identifier) (sym c.kind_at.ensures) ∙ not_is _ _ false c.if-ne.ensures) in
    let e = c.in_err-class.field-0.0 in
    let r = c.from_residual-in_err-class in
    exit (GivesPrefix ws) r.result e r.ensures.1 (
      program-stops ws prefixed_symbols e row (along-stops (along 0 0 prefixed_symbols ended.some) e (c.in_err-class.ensures 0)),
      names-token ws ended 0 0 (Kept (just k.Identifier) ∷ []) e stays-identifier ended.some (c.in_err-class.ensures 0 []),
    )

pub arguments-requires-clause-within : goal.arguments-requires-clause-within
arguments-requires-clause-within c = (c.in_ok-class.ensures 0).within

pub returns-in_err-arguments : goal.returns-in_err-arguments
returns-in_err-arguments c =
    let ws = c.args.source.now in
    let ended = c.requires.source.source.ended in
    let row = prefixed-row (kind_at ws 0) (ap (λ z. is z k.Identifier) (sym c.kind_at.ensures) ∙ not_is _ _ false c.if-ne.ensures) in
    let w1 = past (along 0 0 prefixed_symbols ended.some) (c.in_ok-class.ensures 0) in
    let e = c.in_err-arguments.field-0.0 in
    let r = c.from_residual-in_err-arguments in
    exit (GivesPrefix ws) r.result e r.ensures.1 (
      program-stops ws prefixed_symbols e row (along-stops w1 e c.in_err-arguments.ensures),
      names-token ws ended 0 c.in_ok-class.next (Of Maybe g.Arguments ∷ []) e refl (c.in_ok-class.ensures 0).within (c.in_err-arguments.ensures []),
    )

pub returns : goal.returns
returns c =
    let ws = c.args.source.now in
    let ended = c.requires.source.source.ended in
    let row = prefixed-row (kind_at ws 0) (ap (λ z. is z k.Identifier) (sym c.kind_at.ensures) ∙ not_is _ _ false c.if-ne.ensures) in
    let w2 = past (past (along 0 0 prefixed_symbols ended.some) (c.in_ok-class.ensures 0)) c.in_ok-arguments.ensures in
    record {
      reads = λ f m r. program-reads ws prefixed_symbols (identifier c.in_ok-class.class (arguments (map derivation_of c.in_ok-arguments.arguments.items) f)) m row (w2.leads.reads f m r);
      fails = λ e r. program-fails ws prefixed_symbols e row (w2.leads.fails e r);
      within = w2.within;
    }
