use Rattle.std.proofs.Common.{rules, ◌≡◌, ◌-◌, ◌≤◌, length, arith}
use Rattle.std.specs.Prelude.{true, false, slice_index_or}
use Rattle.sim_chains.specs.Chains.{is_instance}
use Rattle.object_machine.specs.Transferring.{frame_of}
use Rattle.object_machine.proofs.Exchanging.{is_frame, last_one, only_one}
use Rattle.object_machine.proofs.chains.stand_alone.Goals as goal

pub returns-clause-yes : goal.returns-clause-yes
returns-clause-yes c = λ e.
    let kept = c.args.kept.now in
    let below = c.args.below.now in
    let one = slice_index_or kept 0 c.index-kept-0.result in
    let under = slice_index_or below (length below - 1) c.index-below-below.result in
    let single : length kept ≡ 1 = search rules in
    let some : length below ≡ 0 → ⊥ = λ z. (let more = c.if-below-eq0.false in omega (arith, z, more)) in
    let fits : one.registers.depth ≤ length one.stack.items = search rules in
    let stands : is_instance c.args.instance (frame_of under) ≡ true = search rules in
    let other : is_instance c.args.instance (frame_of c.args.top.now) ≡ false = search rules in
    let last = last_one below c.index-below-below.result some in
    record {
      one = one;
      is = only_one kept c.index-kept-0.result single;
      fits = fits;
      under = under;
      rest = last.0;
      next = last.1;
      own = is_frame c.args.instance (frame_of under) stands;
      other = other;
    }
