use Rattle.std.proofs.Common.{◌-◌, Some, refl, sym, ap, ◌∙◌}
use Rattle.std.specs.Prelude.{slice_get}
use Rattle.codegen.specs.EmitProgram.{PutsClass}
use Rattle.codegen.proofs.Planned.{index_found, one_less_than}
use Rattle.codegen.proofs.texts.put_class.Goals as goal

pub returns : goal.returns
unfolding PutsClass
returns c =
    let place = c.args.class - 1 in record {
      draft = refl;
      blocks = refl;
      place = place;
      counts = one_less_than c.args.class c.if-class-eq0.false;
      none = ap (λ v. slice_get v place) (sym c.deref.ensures.value) ∙ index_found c.deref.result.now place _ c.in-Some-None.ensures.lookup.3.0 c.in-Some-None.ensures.lookup.1 ∙ ap Some c.in-Some-None.field-0-is;
      put = refl;
    }
