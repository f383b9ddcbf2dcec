use Rattle.std.proofs.Common.{◌≡◌, ◌<◌, length, Result, Err, sym, subst}
use Rattle.sim_base.specs.declared.numbering.TokenNo.{TokenNo}
use Rattle.sim_base.specs.declared.rule.Rule.{Rule}
use Rattle.sim_tree.specs.declared.program.Program.{Program}
use Rattle.sim_tree.specs.Grammar as g
use Rattle.sim_tree.specs.Reading.{Fails, Unexpected, TooDeep}
use Rattle.sim_tree.specs.Claim.{Begins, IsFirstBad, one}
use Rattle.sim_tree.specs.Tree.{limit, IsTree}
use Rattle.sim_tree.proofs.Completion.{begun, first_bad}
use Rattle.sim_expr_parser.specs.declared.refusal.Stop.TheVariants as stop
use Rattle.sim_expr_parser.specs.declared.refusal.SyntaxRefusal.{SyntaxRefusal}
use Rattle.sim_expr_parser.specs.declared.refusal.SyntaxRefusal.TheVariants as refusal
use Rattle.sim_expr_parser.specs.Parsing.{Stops}
use Rattle.sim_parser.specs.Program.{NamesToken}
use Rattle.sim_parser.proofs.program.parse.Goals as goal

abbrev named : Rule → TokenNo → Result Program SyntaxRefusal
named rule token = Err (refusal.Broken rule token)

token-same : {r s : Rule} {a b : TokenNo} → named r a ≡ named s b → a ≡ b
token-same h = cc

pub returns-in-Ok-clause-answers : goal.returns-in-Ok-clause-answers
returns-in-Ok-clause-answers c = subst (λ ws. IsTree ws c.in-Ok.program) c.new.ensures c.in-Ok.ensures

pub returns-in-Err-Unexpected-clause-answers : goal.returns-in-Err-Unexpected-clause-answers
returns-in-Err-Unexpected-clause-answers c =
    let ws = c.args.tokens.now in
    let bad = c.in-Err-Unexpected.bad in
    let e = stop.Unexpected bad in
    let h = subst (λ w. Stops w 0 (one g.Program) 0 e × NamesToken w e) c.new.ensures (subst (λ z. Stops c.new.result 0 (one g.Program) 0 z × NamesToken c.new.result z) c.in-Err-Unexpected.field-0-is c.in-Err-Unexpected.ensures) in
    subst (λ z. Fails limit ws 0 (one g.Program) 0 (Unexpected z) × IsFirstBad ws (one g.Program) 0 z) (sym c.token_no.ensures) (h.0, first_bad limit 0 ws g.Program 0 bad h.0)

pub returns-in-Err-TooDeep-clause-answers : goal.returns-in-Err-TooDeep-clause-answers
returns-in-Err-TooDeep-clause-answers c =
    let ws = c.args.tokens.now in
    let deep = c.in-Err-TooDeep.deep in
    let e = stop.TooDeep deep in
    let h = subst (λ w. Stops w 0 (one g.Program) 0 e × NamesToken w e) c.new.ensures (subst (λ z. Stops c.new.result 0 (one g.Program) 0 z × NamesToken c.new.result z) c.in-Err-TooDeep.field-0-is c.in-Err-TooDeep.ensures) in
    subst (λ z. Fails limit ws 0 (one g.Program) 0 (TooDeep z) × Begins ws (one g.Program) 0 z) (sym c.token_no-in-Err-TooDeep.ensures) (h.0, begun limit 0 ws g.Program 0 (TooDeep deep) h.0)

pub returns-in-Err-Unexpected-clause-within : goal.returns-in-Err-Unexpected-clause-within
returns-in-Err-Unexpected-clause-within c rule k e =
    let bad = c.in-Err-Unexpected.bad in
    let h = subst (λ z. NamesToken c.new.result z) c.in-Err-Unexpected.field-0-is c.in-Err-Unexpected.ensures.1 in
    subst (λ z. z.0 < length c.args.tokens.now) (token-same e) (subst (λ z. z < length c.args.tokens.now) (sym c.token_no.ensures) (subst (λ ws. bad < length ws) c.new.ensures h))

pub returns-in-Err-TooDeep-clause-within : goal.returns-in-Err-TooDeep-clause-within
returns-in-Err-TooDeep-clause-within c rule k e =
    let bad = c.in-Err-TooDeep.deep in
    let h = subst (λ z. NamesToken c.new.result z) c.in-Err-TooDeep.field-0-is c.in-Err-TooDeep.ensures.1 in
    subst (λ z. z.0 < length c.args.tokens.now) (token-same e) (subst (λ z. z < length c.args.tokens.now) (sym c.token_no-in-Err-TooDeep.ensures) (subst (λ ws. bad < length ws) c.new.ensures h))
