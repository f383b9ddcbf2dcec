use Rattle.std.proofs.Common.{◌∙◌, ap, arith, refl, sym, length, ◌<◌, ◌≤◌}
use Rattle.std.proofs.lemmas.List.{drop_all}
use Rattle.std.specs.Prelude.{slice_get}
use Rattle.sim_scope.specs.Runs.{run}
use Rattle.virtual_match.specs.Qualifying.{qualified, with_qualification}
use Rattle.virtual_match.proofs.Rows.{kept, one_written}
use Rattle.virtual_match.proofs.qualifying.qualify.Goals as goal

pub loop-number-init : goal.loop-number-init
unfolding qualified
loop-number-init c = record { same = refl; leads = refl }

pub loop-number-preserved : goal.loop-number-preserved
loop-number-preserved c =
    let l = c.loop-number in
    let e = ap length c.qualifications-number-end.ensures in
    let number : l.number < length c.args.scopes.now.qualifications = omega arith in
    record {
      same = ap (λ z. z.qualifications) c.qualify_written.ensures ∙ kept l.scopes (slice_get l.scopes.qualifications l.number) ∙ l.invariant.same;
      leads = sym (one_written c.args.scopes.now l.scopes c.qualify_written.new.scopes l.number l.invariant.same number c.qualify_written.ensures) ∙ l.invariant.leads;
    }

pub returns : goal.returns
unfolding run
returns c =
    let l = c.loop-number in
    let e = ap length c.qualifications-number-end.ensures in
    let past : length c.args.scopes.now.qualifications ≤ l.number = omega arith in
    ap (run with_qualification l.scopes) (sym (drop_all l.number c.args.scopes.now.qualifications past)) ∙ l.invariant.leads
