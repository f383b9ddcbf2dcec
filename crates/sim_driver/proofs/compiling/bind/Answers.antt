use Rattle.std.proofs.Common.{Err, List, subst}
use Rattle.std.proofs.lemmas.Result.{err_from_is_err_and}
use Rattle.std.specs.declared.alloc.Global.{Global}
use Rattle.std.specs.declared.vec.Vec.{Vec}
use Rattle.sim_base.specs.declared.token.Token.{Token}
use Rattle.sim_lexer.specs.Spelling.{Reads, Spelled}
use Rattle.sim_scope.specs.declared.bound.Bound.{Bound}
use Rattle.sim_scope.specs.Source.{source_of}
use Rattle.sim_tree.specs.Tree.{IsTree}
use Rattle.sim_tree.specs.declared.program.Program.{Program as Tree}
use Rattle.sim_driver.specs.Compiling.{Answers, BindsAs, IsProgram, SourceRejects, TokensReject, TreeRejects}
use Rattle.sim_driver.proofs.Known.{answers_of, bound_source, refusal_of, refused_source, rejected_source}
use Rattle.sim_driver.proofs.compiling.bind.Goals as goal

pub returns-in_err-tree : goal.returns-in_err-tree
returns-in_err-tree c =
    let source = c.args.source.now in
    let command = c.args.command in
    let tokens = c.in_ok-tokens.tokens.items in
    let p = err_from_is_err_and c.from_residual-in_err-tree.result c.from_residual-in_err-tree.ensures.1 in
    rw (p.1, p.2)
    (refusal_of c.in_err-tree.field-0.0
    (λ (tree : Tree). IsTree tokens tree)
    (λ (b : Bound). IsProgram command source (source_of b))
    (TokensReject command tokens)
    (SourceRejects command source)
    (λ rule line rejects. refused_source command source tokens rule line (c.in_ok-tokens.ensures.reads command) rejects)
    (subst (λ (ts : List Token). Answers (λ (tree : Tree). IsTree ts tree) (TokensReject command ts) (Err c.in_err-tree.field-0.0)) c.deref.ensures.value (c.in_err-tree.ensures command)))

pub returns : goal.returns
returns c =
    let source = c.args.source.now in
    let command = c.args.command in
    let tokens = c.in_ok-tokens.tokens.items in
    let tree = c.in_ok-tree.tree in
    let one = c.one_tree.ensures.syntax in
    let is = rw c.deref.ensures.value at (c.in_ok-tree.ensures command) in
    answers_of c.bind_tree.result
    (λ (b : Bound). BindsAs command tokens tree (source_of b))
    (λ (b : Bound). IsProgram command source (source_of b))
    (TreeRejects command tokens tree)
    (SourceRejects command source)
    (λ b binds. (bound_source one command source tokens tree (source_of b) c.requires.binds (c.in_ok-tokens.ensures.reads command) is binds.0, binds.1 is))
    (λ rule line rejects. rejected_source one command source tokens tree rule line c.requires.binds (c.in_ok-tokens.ensures.reads command) is rejects)
    (rw c.deref-2.ensures.value at c.bind_tree.ensures)

pub returns-in_err-tokens : goal.returns-in_err-tokens
returns-in_err-tokens c =
    let source = c.args.source.now in
    let command = c.args.command in
    let p = err_from_is_err_and c.from_residual.result c.from_residual.ensures.1 in
    rw (p.1, p.2)
    (refusal_of c.in_err-tokens.field-0.0
    (λ (tokens : Vec Token Global). Reads source (Spelled tokens.items))
    (λ (b : Bound). IsProgram command source (source_of b))
    (SourceRejects command source)
    (SourceRejects command source)
    (λ rule line rejects. rejects)
    (c.in_err-tokens.ensures.reads command))
