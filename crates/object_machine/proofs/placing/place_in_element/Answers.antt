use Rattle.std.proofs.Common.{◌≡◌, ◌∙◌, [], ap, sym, subst}
use Rattle.std.specs.Prelude.{true, false}
use Rattle.sim_code.specs.Arrays.{element_set}
use Rattle.sim_code.specs.Events.{having}
use Rattle.sim_code.specs.Machine.{Machine, plain}
use Rattle.sim_code.specs.Outcome.{Run, World}
use Rattle.frame_arena.specs.Arrays.{ArrayLeads, ArraysAfter, ElementsLead, HoldsArrays, KeepLeadingAfter, names_array}
use Rattle.frame_arena.specs.Slots.{count_of, value_of}
use Rattle.object_machine.specs.Standing.{Stands}
use Rattle.object_machine.proofs.Having.{having_none, having_some}
use Rattle.object_machine.proofs.Putting.{element_class, not_plain, put_element_is, setting, setting_none, some_plain}
use Rattle.object_machine.proofs.placing.place_in_element.Goals as goal

pub returns-then-address-ne0 : goal.returns-then-address-ne0
returns-then-address-ne0 c = record {
  row = λ l p p2 r stack below before now o m e ep s la lv go.
      element_class o m (λ rest. go) c.args.address (value_of c.args.value) [] c.requires.kind c.if-address-ne0.true;
}

pub returns-then-not-is_plain : goal.returns-then-not-is_plain
returns-then-not-is_plain c = record {
  row = λ l p p2 r stack below before now o m e ep s la lv go.
      let v = value_of c.args.value in
      put_element_is o m (λ rest. go) c.args.address v [] c.requires.kind c.if-address-ne0.false ∙ having_none (plain v) o _ (not_plain v (sym c.if-not-is_plain.ensures));
}

pub returns-then-set_element : goal.returns-then-set_element
returns-then-set_element c = record {
  row = λ l p p2 r stack below before now o m e ep s la lv.
      let address = c.args.address in
      let v = value_of c.args.value in
      let j = count_of address.«data» in
      let es : c.stamp_of.result ≡ j = c.stamp_of.ensures in
      let x = some_plain v (sym c.if-not-is_plain.ensures) in
      let holds = subst (λ a. HoldsArrays a o.arrays) e s.stores.arrays in
      let lead = subst (λ n. ArrayLeads c.args.arrays.now.regions o.arrays (record { array = address.name; stamp = n })) (sym es) (subst (λ a. ArrayLeads a.regions o.arrays (record { array = address.name; stamp = j })) e (la.1 (ap names_array c.requires.kind))) in
      let elements = c.if-set_element.ensures.elements p.frames.items m (subst (λ a. ElementsLead p.frames.items m a.regions) e s.stores.elements) lv.0 in
      let after = subst (λ n. ArraysAfter true c.set_element.new.self (element_set o n address.more x.value)) es (c.if-set_element.ensures.holds o x.value holds lead x.is) in
      let keeps = subst (λ a. KeepLeadingAfter a o.arrays c.set_element.new.self (element_set o j address.more x.value)) (sym e) (subst (λ n. KeepLeadingAfter c.args.arrays.now o.arrays c.set_element.new.self (element_set o n address.more x.value)) es (c.if-set_element.ensures.leads o x.value holds)) in
      let t = setting l p r stack below before now o m c.set_element.new.self j address.more x.value s elements after keeps in
      record {
        world = t.world;
        memory = m;
        is = λ go. let T : World → Run Machine = λ w. go w m in
            put_element_is o m (λ rest. go) address v [] c.requires.kind c.if-address-ne0.false ∙ having_some (plain v) x.value o (λ p. having (element_set o j address.more p) o T) (sym (ap plain x.is)) ∙ having_some (element_set o j address.more x.value) t.world o T (sym t.there);
        stands = subst (λ z. Stands l z r stack below before now t.world m) (sym ep) t.stands;
      };
}

pub returns : goal.returns
returns c = record {
  row = λ l p p2 r stack below before now o m e ep s la lv go.
      let address = c.args.address in
      let v = value_of c.args.value in
      let j = count_of address.«data» in
      let es : c.stamp_of.result ≡ j = c.stamp_of.ensures in
      let x = some_plain v (sym c.if-not-is_plain.ensures) in
      let T : World → Run Machine = λ w. go w m in
      let holds = subst (λ a. HoldsArrays a o.arrays) e s.stores.arrays in
      let lead = subst (λ n. ArrayLeads c.args.arrays.now.regions o.arrays (record { array = address.name; stamp = n })) (sym es) (subst (λ a. ArrayLeads a.regions o.arrays (record { array = address.name; stamp = j })) e (la.1 (ap names_array c.requires.kind))) in
      let elements = c.if-set_element.ensures.elements p.frames.items m (subst (λ a. ElementsLead p.frames.items m a.regions) e s.stores.elements) lv.0 in
      let after = subst (λ n. ArraysAfter false c.set_element.new.self (element_set o n address.more x.value)) es (c.if-set_element.ensures.holds o x.value holds lead x.is) in
      put_element_is o m (λ rest. go) address v [] c.requires.kind c.if-address-ne0.false ∙ having_some (plain v) x.value o (λ p. having (element_set o j address.more p) o T) (sym (ap plain x.is))
      ∙ having_none (element_set o j address.more x.value) o T (sym (setting_none l p r stack below before now o m c.set_element.new.self j address.more x.value s elements after));
}
