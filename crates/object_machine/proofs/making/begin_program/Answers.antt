use Rattle.std.proofs.Common.{◌≡◌, ◌∙◌, ap, subst, sym}
use Rattle.sim_code.specs.declared.code.BlockKind.TheVariants as block
use Rattle.sim_code.specs.Levels.{block_begun}
use Rattle.sim_code.specs.Rows.{program_begun}
use Rattle.object_machine.specs.Making.{Registered}
use Rattle.object_machine.proofs.Registrations.{program_as}
use Rattle.object_machine.proofs.Simulations.{then_ok}
use Rattle.object_machine.proofs.making.begin_program.Goals as goal

pub returns-in-Prefixed : goal.returns-in-Prefixed
returns-in-Prefixed c = record {
  same = c.begin_block.ensures.same;
  row = then_ok c.begin_block.result _ _ c.begin_block.ensures.row (λ u f code frames m o eb ec zero r all here.
      let b = c.args.block.now in
      let kind : b.kind ≡ block.Prefixed = ap (λ b. b.kind) (sym c.block.view_is) ∙ c.in-Prefixed.is in
      let is : program_begun code b o ≡ block_begun code c.block.inside.class c.args.home.stamp o =
      program_as code b block.Prefixed o kind ∙ ap (λ n. block_begun code n 0 o) (ap (λ b. b.class) (sym c.block.view_is)) ∙ ap (λ n. block_begun code c.block.inside.class n o) (sym zero) in
      subst (λ w. Registered frames m c.begin_block.new.storage w) (sym is) (f code frames m o eb ec r all here));
}
