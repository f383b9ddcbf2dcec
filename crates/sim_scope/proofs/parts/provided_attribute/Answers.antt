use Rattle.std.proofs.Common.{OnOk, Result, Ok, Err}
use Rattle.sim_scope.specs.Building.{marked}
use Rattle.sim_scope.specs.Declare.{provides_attribute}
use Rattle.sim_scope.specs.Runs.{Runs}
use Rattle.sim_scope.proofs.Declarations.{declare_provides, declare_provides_nothing}
use Rattle.sim_scope.proofs.parts.provided_attribute.Goals as goal

on_ok : {X E : Type 0} (r : Result X E) (P Q : Type 0) → (P → Q) → OnOk r P → OnOk r Q
on_ok (Ok x) P Q f p = f p
on_ok (Err e) P Q f p = p

pub returns-then-is_provided : goal.returns-then-is_provided
returns-then-is_provided c =
    on_ok c.provide.result _ _
    (λ h. declare_provides c.args.tables.now c.provide.new.self c.args.prefix c.args.token.0 c.args.name c.owner-owner.result c.is_provided.result c.class_owning.result c.owner-owner.ensures.owner c.is_provided.ensures c.if-is_provided.true c.class_owning.ensures h)
    c.provide.ensures

pub returns : goal.returns
returns c = declare_provides_nothing c.args.tables.now c.args.prefix c.args.token.0 c.args.name c.owner-owner.result c.is_provided.result c.owner-owner.ensures.owner c.is_provided.ensures c.if-is_provided.false
