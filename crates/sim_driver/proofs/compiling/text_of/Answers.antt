use Rattle.std.proofs.Common.{ℕ, Err, List, subst, sym}
use Rattle.std.proofs.lemmas.Result.{err_from_is_err_and}
use Rattle.std.specs.declared.alloc.Global.{Global}
use Rattle.std.specs.declared.vec.Vec.{Vec}
use Rattle.sim_base.specs.declared.token.Token.{Token}
use Rattle.sim_lexer.specs.Spelling.{Reads, Spelled}
use Rattle.sim_tree.specs.Tree.{IsTree}
use Rattle.sim_tree.specs.declared.program.Program.{Program as Tree}
use Rattle.command_line.specs.declared.words.Command.TheVariants.{Print}
use Rattle.sim_driver.specs.Compiling.{Answers, SourcePrints, SourceRejects, TokensReject}
use Rattle.sim_driver.proofs.Known.{printed_source, refusal_of, refused_source}
use Rattle.sim_driver.proofs.compiling.text_of.Goals as goal

pub returns-in_err-tokens : goal.returns-in_err-tokens
returns-in_err-tokens c =
    let source = c.args.source.now in
    let p = err_from_is_err_and c.from_residual.result c.from_residual.ensures.1 in
    rw (p.1, p.2)
    (refusal_of c.in_err-tokens.field-0.0
    (λ (tokens : Vec Token Global). Reads source (Spelled tokens.items))
    (λ (text : Vec ℕ Global). SourcePrints source text.items)
    (SourceRejects Print source)
    (SourceRejects Print source)
    (λ rule line rejects. rejects)
    (c.in_err-tokens.ensures.reads Print))

pub returns-in_err-tree : goal.returns-in_err-tree
returns-in_err-tree c =
    let source = c.args.source.now in
    let tokens = c.in_ok-tokens.tokens.items in
    let p = err_from_is_err_and c.from_residual-in_err-tree.result c.from_residual-in_err-tree.ensures.1 in
    rw (p.1, p.2)
    (refusal_of c.in_err-tree.field-0.0
    (λ (tree : Tree). IsTree tokens tree)
    (λ (text : Vec ℕ Global). SourcePrints source text.items)
    (TokensReject Print tokens)
    (SourceRejects Print source)
    (λ rule line rejects. refused_source Print source tokens rule line (c.in_ok-tokens.ensures.reads Print) rejects)
    (subst (λ (ts : List Token). Answers (λ (tree : Tree). IsTree ts tree) (TokensReject Print ts) (Err c.in_err-tree.field-0.0)) c.deref.ensures.value (c.in_err-tree.ensures Print)))

pub returns-in-Ok : goal.returns-in-Ok
returns-in-Ok c =
    let source = c.args.source.now in
    let tokens = c.in_ok-tokens.tokens.items in
    let tree = c.in_ok-tree.tree in
    let is = rw c.deref.ensures.value at (c.in_ok-tree.ensures Print) in
    subst (λ (text : List ℕ). SourcePrints source text) (sym c.in-Ok.ensures) (printed_source c.one_tree.ensures.syntax source tokens tree (c.in_ok-tokens.ensures.reads Print) is)
