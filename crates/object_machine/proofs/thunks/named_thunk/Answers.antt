use Rattle.std.proofs.Common.{rules, to_z, of_z, w64, ◌≡◌, ℕ, ◌∙◌, ap, sym, subst}
use Rattle.sim_code.specs.Events.{having}
use Rattle.sim_code.specs.Machine.{Machine, cell, level, number, thunk_in}
use Rattle.sim_code.specs.Outcome.{Run}
use Rattle.frame_arena.specs.Frames.{Holds, Leads, SlotLeads}
use Rattle.frame_arena.specs.Stacks.{slot_at}
use Rattle.object_machine.proofs.Places.{Then, at_cell, led_at, no_frame, no_number}
use Rattle.object_machine.proofs.ThunkRows.{home_leads}
use Rattle.object_machine.proofs.thunks.named_thunk.Goals as goal

pub returns-in_default : goal.returns-in_default
unfolding having
returns-in_default c = record {
  row = λ l before now o m a s led ea.
      let p = c.args.storage.now in
      let z = c.args.level in
      let w = c.args.cell in
      let elevel : to_z w64 (of_z w64 z) ≡ z = search rules in
      let h : Holds c.deref.result.now p.cells.items m = subst (λ f. Holds f p.cells.items m) (sym c.deref.ensures.value) s.frames in
      let home : Leads c.deref.result.now m c.args.home = subst (λ f. Leads f m c.args.home) (sym c.deref.ensures.value) led in
      let K : (ℕ × ℕ → Run Machine) → ℕ → ℕ → Run Machine = λ go j k. having (cell m j k) o (λ v. having (thunk_in v) o go) in
      let T : (ℕ × ℕ → Run Machine) → ℕ → Run Machine = λ go j. Then m a z w o (K go) j in
      (tt, λ go. no_frame m a z w o (K go) (ap (λ z. level m a z o (T go)) (sym elevel) ∙ c.in_default.ensures.row p.cells.items m a o (T go) h home ea));
}

pub returns-in_default-index : goal.returns-in_default-index
unfolding having
returns-in_default-index c = record {
  row = λ l before now o m a s led ea.
      let p = c.args.storage.now in
      let z = c.args.level in
      let w = c.args.cell in
      let elevel : to_z w64 (of_z w64 z) ≡ z = search rules in
      let h : Holds c.deref.result.now p.cells.items m = subst (λ f. Holds f p.cells.items m) (sym c.deref.ensures.value) s.frames in
      let home : Leads c.deref.result.now m c.args.home = subst (λ f. Leads f m c.args.home) (sym c.deref.ensures.value) led in
      let K : (ℕ × ℕ → Run Machine) → ℕ → ℕ → Run Machine = λ go j k. having (cell m j k) o (λ v. having (thunk_in v) o go) in
      let T : (ℕ × ℕ → Run Machine) → ℕ → Run Machine = λ go j. Then m a z w o (K go) j in
      let ecell : to_z w64 (of_z w64 w) ≡ w = search rules in
      (tt, λ go. no_number m a z w o (K go) c.in-Some.span.number (ap (λ z. level m a z o (T go)) (sym elevel) ∙ c.in-Some.ensures.row p.cells.items m a o (T go) h home ea) (c.in_default-index.ensures ∙ ap number ecell));
}

pub returns-in_default-cell_in : goal.returns-in_default-cell_in
unfolding having
returns-in_default-cell_in c = record {
  row = λ l before now o m a s led ea.
      let p = c.args.storage.now in
      let z = c.args.level in
      let w = c.args.cell in
      let elevel : to_z w64 (of_z w64 z) ≡ z = search rules in
      let h : Holds c.deref.result.now p.cells.items m = subst (λ f. Holds f p.cells.items m) (sym c.deref.ensures.value) s.frames in
      let home : Leads c.deref.result.now m c.args.home = subst (λ f. Leads f m c.args.home) (sym c.deref.ensures.value) led in
      let K : (ℕ × ℕ → Run Machine) → ℕ → ℕ → Run Machine = λ go j k. having (cell m j k) o (λ v. having (thunk_in v) o go) in
      let T : (ℕ × ℕ → Run Machine) → ℕ → Run Machine = λ go j. Then m a z w o (K go) j in
      let ecell : to_z w64 (of_z w64 w) ≡ w = search rules in
      let f = c.in-Some.span in
      let k = c.in-Some-index.number in
      let h2 : Holds c.deref.result.now c.deref-2.result.now m = subst (λ x. Holds c.deref.result.now x m) (sym c.deref-2.ensures.value) h in
      (tt, λ go. at_cell m a z w o (K go) f.number k (ap (λ z. level m a z o (T go)) (sym elevel) ∙ c.in-Some.ensures.row p.cells.items m a o (T go) h home ea) (c.in-Some-index.ensures ∙ ap number ecell) ∙ ap (λ q. having q o (λ v. having (thunk_in v) o go)) (sym (c.in_default-cell_in.ensures.value c.deref.result.now m h2 c.in-Some.ensures.span)));
}

pub returns : goal.returns
unfolding having
returns c = record {
  row = λ l before now o m a s led ea.
      let p = c.args.storage.now in
      let z = c.args.level in
      let w = c.args.cell in
      let elevel : to_z w64 (of_z w64 z) ≡ z = search rules in
      let h : Holds c.deref.result.now p.cells.items m = subst (λ f. Holds f p.cells.items m) (sym c.deref.ensures.value) s.frames in
      let home : Leads c.deref.result.now m c.args.home = subst (λ f. Leads f m c.args.home) (sym c.deref.ensures.value) led in
      let K : (ℕ × ℕ → Run Machine) → ℕ → ℕ → Run Machine = λ go j k. having (cell m j k) o (λ v. having (thunk_in v) o go) in
      let T : (ℕ × ℕ → Run Machine) → ℕ → Run Machine = λ go j. Then m a z w o (K go) j in
      let ecell : to_z w64 (of_z w64 w) ≡ w = search rules in
      let f = c.in-Some.span in
      let k = c.in-Some-index.number in
      let h2 : Holds c.deref.result.now c.deref-2.result.now m = subst (λ x. Holds c.deref.result.now x m) (sym c.deref-2.ensures.value) h in
      let slot = c.in-Some-cell_in.slot in
      let leads : SlotLeads p.frames.items m slot = led_at p.frames.items m c.deref-2.result.now slot (subst (λ v. (k : ℕ) → SlotLeads p.frames.items m (slot_at v k)) (sym c.deref-2.ensures.value) s.frames.links) c.in-Some-cell_in.ensures.lies in (
        home_leads c.thunk_of.result p.frames.items m slot c.thunk_of.ensures.leads leads,
        λ go. at_cell m a z w o (K go) f.number k (ap (λ z. level m a z o (T go)) (sym elevel) ∙ c.in-Some.ensures.row p.cells.items m a o (T go) h home ea) (c.in-Some-index.ensures ∙ ap number ecell) ∙ ap (λ q. having q o (λ v. having (thunk_in v) o go)) (sym (c.in-Some-cell_in.ensures.value c.deref.result.now m h2 c.in-Some.ensures.span)) ∙ ap (λ q. having q o go) (sym c.thunk_of.ensures.is),
      );
}
