-- Objects that become linkages.
use Rattle.std.proofs.Common.{◌≡◌, [], ◌∷◌, ◌++◌, sym, subst, ap, ◌∙◌, List}
use Rattle.simset.specs.Instances.{Memberships, with_linkage}
use Rattle.simset.specs.Sets.{Linkage}
use Rattle.sim_values.specs.declared.value.FrameRef.{FrameRef}
use Rattle.sim_code.specs.Machine.{Frames}
use Rattle.frame_arena.specs.declared.frames.Frame.{Frame}
use Rattle.frame_arena.specs.Frames.{Leads}
use Rattle.object_machine.specs.declared.machine.Members.{Members}
use Rattle.object_machine.specs.Enrolling.{AllBelow, AllReach, Enrolled, Rises, stamps}
use Rattle.object_machine.proofs.OneMore.{one_more_reach, one_more_rises, one_more_stamp}

pub added : (frames : List Frame) (m : Frames) (k k2 : Members) (f : FrameRef) (linkage : Linkage) (o : Memberships) → k2.objects.items ≡ k.objects.items ++ f ∷ [] → k2.rings.sets ≡ k.rings.sets ++ linkage ∷ [] →
    Enrolled frames m k o → AllBelow f.stamp o.instances → Leads frames m f → Enrolled frames m k2 (with_linkage f.stamp linkage o)
added frames m k k2 f linkage o objects sets e all here =
    let ns = ap stamps objects ∙ one_more_stamp k.objects.items f in record {
      is = record {
        instances = ap (λ l. l ++ f.stamp ∷ []) e.is.instances ∙ sym ns;
        sets = ap (λ l. l ++ linkage ∷ []) e.is.sets ∙ sym sets;
      };
      rises = subst Rises (sym ns) (one_more_rises (stamps k.objects.items) f.stamp e.rises (subst (λ l. AllBelow f.stamp l) e.is.instances all));
      lead = subst (λ l. AllReach frames m l) (sym objects) (one_more_reach frames m k.objects.items f e.lead here);
    }
