use Rattle.std.proofs.Common.{◌≡◌, ◌∙◌, ◌-◌, ◌+◌, [], ap, arith, length, sym}
use Rattle.prefix_bind.specs.Classes.{chain_of, ends_chain}
use Rattle.prefix_bind.proofs.ChainLevels.{chain_ends, chain_goes, chain_less, chain_over, chain_stops}
use Rattle.prefix_bind.proofs.classes.chain.Goals as goal

pub loop-step-init : goal.loop-step-init
loop-step-init c =
    let s = c.args.scopes.now in
    let n = length s.blocks in
    let e : n ≡ n - 0 = omega arith in
    ap (λ m. chain_of s m [] c.args.block) e ∙ ap (λ z. chain_of s (n - 0) z c.args.block) (sym c.new-chain.ensures.items)

pub returns-then-ends_chain : goal.returns-then-ends_chain
returns-then-ends_chain c =
    let s = c.args.scopes.now in
    let l = c.loop-step in
    let n = length s.blocks in
    sym (l.invariant ∙ chain_less s n l.step l.chain.items l.level (omega arith)
    ∙ chain_stops s (n - (l.step + 1)) l.chain.items l.level (ap (λ z. ends_chain s z l.level) (sym c.deref.ensures.value) ∙ sym c.ends_chain.ensures ∙ c.if-ends_chain.true))

pub returns-in-None : goal.returns-in-None
returns-in-None c =
    let s = c.args.scopes.now in
    let l = c.loop-step in
    let n = length s.blocks in
    c.in_ok-push.ensures.items
    ∙ sym (l.invariant ∙ chain_less s n l.step l.chain.items l.level (omega arith)
    ∙ chain_ends s (n - (l.step + 1)) l.chain.items l.level (ap (λ z. ends_chain s z l.level) (sym c.deref.ensures.value) ∙ sym c.ends_chain.ensures ∙ c.if-ends_chain.false) (sym c.base.ensures ∙ c.in-None.is))

pub loop-step-preserved : goal.loop-step-preserved
loop-step-preserved c =
    let s = c.args.scopes.now in
    let l = c.loop-step in
    let n = length s.blocks in
    l.invariant ∙ chain_less s n l.step l.chain.items l.level (omega arith)
    ∙ chain_goes s (n - (l.step + 1)) l.chain.items l.level _ (ap (λ z. ends_chain s z l.level) (sym c.deref.ensures.value) ∙ sym c.ends_chain.ensures ∙ c.if-ends_chain.false) (sym c.base.ensures ∙ c.in-Some.is)
    ∙ ap (λ z. chain_of s (n - (l.step + 1)) z c.in-Some.next) (sym c.in_ok-push.ensures.items)

pub returns : goal.returns
returns c =
    let s = c.args.scopes.now in
    let l = c.loop-step in
    sym (l.invariant ∙ chain_over s (length s.blocks) l.step l.chain.items l.level (omega arith))
