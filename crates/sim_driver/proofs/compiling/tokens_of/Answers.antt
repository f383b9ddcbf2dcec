use Rattle.std.proofs.Common.{ℕ, arith, subst, sym}
use Rattle.sim_lexer.specs.Spelling.{Broken, Reads}
use Rattle.sim_lexer.proofs.Lines.{placed-reading}
use Rattle.sim_driver.specs.Compiling.{SourceRejects}
use Rattle.sim_driver.proofs.Known.{broken_source}
use Rattle.sim_driver.proofs.Whole.{whole_source}
use Rattle.sim_driver.proofs.compiling.tokens_of.Goals as goal

pub line_of-requires-clause-within : goal.line_of-requires-clause-within
line_of-requires-clause-within c =
    let reads : Reads c.args.source.now (Broken c.in-Err-Broken.rule c.in-Err-Broken.place) = rw c.in-Err-Broken.field-0-is at c.in-Err-Broken.ensures.sound in
    placed-reading reads

pub returns-in-Ok-clause-whole : goal.returns-in-Ok-clause-whole
returns-in-Ok-clause-whole c = whole_source c.in-Ok.tokens.items c.in-Ok.ensures.ended (omega (arith, c.in-Ok.ensures.few, c.requires))

pub returns-in-Err-Broken-clause-reads : goal.returns-in-Err-Broken-clause-reads
returns-in-Err-Broken-clause-reads c command =
    subst (λ (n : ℕ). SourceRejects command c.args.source.now c.in-Err-Broken.rule (record { 0 = n })) (sym c.line_of.ensures.line)
    (broken_source c.args.source.now c.in-Err-Broken.rule c.in-Err-Broken.place (rw c.in-Err-Broken.field-0-is at c.in-Err-Broken.ensures.sound) command)
