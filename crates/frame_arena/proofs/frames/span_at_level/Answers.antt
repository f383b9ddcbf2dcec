use Rattle.std.proofs.Common.{◌∙◌, ap, sym, subst, arith}
use Rattle.std.specs.Prelude.{Some}
use Rattle.frame_arena.specs.Frames.{Has}
use Rattle.frame_arena.proofs.Reading.{level_here, level_start}
use Rattle.frame_arena.proofs.frames.span_at_level.Goals as goal

pub returns-then-own-level-clause-level : goal.returns-then-own-level-clause-level
returns-then-own-level-clause-level c cells m h leads =
    let own = c.requires.own in
    let frames = c.args.frames.now in
    let home = c.args.home.stamp in
    ap Some c.if-own-home.true
    ∙ sym (level_start m c.args.level home
    ∙ level_here frames cells m c.args.own.region home home 0 c.args.level (omega arith) h (subst (λ n. Has frames c.args.own.region n) c.if-own-home.true own.has) (own.level ∙ c.if-own-level.true))

pub returns-clause-level : goal.returns-clause-level
returns-clause-level c cells m h leads = ap Some c.span_at.ensures.number ∙ c.in-Some.ensures.level cells m h leads
