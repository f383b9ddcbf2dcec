use Rattle.std.proofs.Common.{rules, to_z, of_z, w64, ◌≡◌, ◌∷◌, ℕ, List, ap, subst, sym, ◌∙◌}
use Rattle.sim_base.specs.declared.run_error.RunError.TheVariants.{AccessThroughNone}
use Rattle.sim_values.specs.Plain.{MainOf, Object, Plain}
use Rattle.sim_code.specs.Classes.{class_named, is_in, qualifying}
use Rattle.sim_code.specs.Events.{pop_reference}
use Rattle.sim_code.specs.Machine.{Machine, Of, Value, on, plain}
use Rattle.sim_code.specs.Outcome.{Run}
use Rattle.frame_arena.specs.Frames.{Holds, Leads, SlotLeads}
use Rattle.frame_arena.specs.Slots.{value_of}
use Rattle.frame_arena.specs.Stacks.{slot_at, values_of}
use Rattle.object_machine.specs.Standing.{Obeys, activation_at, below_of}
use Rattle.object_machine.proofs.ArrayRows.{top_at}
use Rattle.object_machine.proofs.ClassRows.{main_kept, main_leads, object_kept, object_leads, popping_reference, reference_of, reference_popped, with_named}
use Rattle.object_machine.proofs.Going.{along, faults, no_rule_in}
use Rattle.object_machine.proofs.Having.{having_none, having_some}
use Rattle.object_machine.proofs.objects.qua.Goals as goal

pub returns-in_default-clause-row : goal.returns-in_default-clause-row
unfolding Obeys
returns-in_default-clause-row c code l line p below now e1 e2 e3 before o m s =
    let en : to_z w64 (of_z w64 c.args.operand) ≡ c.args.operand = search rules in
    let r = c.args.regs.now in
    let stack = c.args.stack.now in
    let K : List Value → Run Machine = λ st. on o m (activation_at r stack) st (below_of below) in
    let go : ℕ → Plain → List Value → Run Machine = λ k v st. qualifying line (is_in code m k v) o (K (Of v ∷ st)) in
    let R : ℕ → Run Machine = λ k. pop_reference plain line (values_of r.depth stack) o (go k) in
    no_rule_in l line p p below before now _ _ _ _ o m s (having_none (class_named code c.args.operand) o R (c.in_default.ensures.row code e2 ∙ ap (class_named code) en))

pub returns-in_default-pop-clause-row : goal.returns-in_default-pop-clause-row
unfolding Obeys
returns-in_default-pop-clause-row c code l line p below now e1 e2 e3 before o m s =
    let en : to_z w64 (of_z w64 c.args.operand) ≡ c.args.operand = search rules in
    let r = c.args.regs.now in
    let stack = c.args.stack.now in
    let K : List Value → Run Machine = λ st. on o m (activation_at r stack) st (below_of below) in
    let go : ℕ → Plain → List Value → Run Machine = λ k v st. qualifying line (is_in code m k v) o (K (Of v ∷ st)) in
    let R : ℕ → Run Machine = λ k. pop_reference plain line (values_of r.depth stack) o (go k) in
    let k = c.in-Some.class in
    let named = having_some (class_named code c.args.operand) k o R (c.in-Some.ensures.row code e2 ∙ ap (class_named code) en) ∙ popping_reference line (values_of r.depth stack) o (go k) in
    no_rule_in l line p p below before now _ _ _ _ o m s (named ∙ c.in_default-pop.ensures.row o (reference_of line o (go k)))

pub returns-in-Object-clause-row : goal.returns-in-Object-clause-row
unfolding Obeys
returns-in-Object-clause-row c code l line p below now e1 e2 e3 before o m s =
    let en : to_z w64 (of_z w64 c.args.operand) ≡ c.args.operand = search rules in
    let r = c.args.regs.now in
    let stack = c.args.stack.now in
    let K : List Value → Run Machine = λ st. on o m (activation_at r stack) st (below_of below) in
    let go : ℕ → Plain → List Value → Run Machine = λ k v st. qualifying line (is_in code m k v) o (K (Of v ∷ st)) in
    let R : ℕ → Run Machine = λ k. pop_reference plain line (values_of r.depth stack) o (go k) in
    let k = c.in-Some.class in
    let named = having_some (class_named code c.args.operand) k o R (c.in-Some.ensures.row code e2 ∙ ap (class_named code) en) ∙ popping_reference line (values_of r.depth stack) o (go k) in
    let at = c.in-Some-pop.at in
    let v = value_of (slot_at stack at) in
    let rest = values_of at stack in
    let popped = named ∙ c.in-Some-pop.ensures.row o (reference_of line o (go k)) ∙ reference_popped line o (go k) c.reference_in.result v rest c.reference_in.ensures.is in
    let named_at = c.in-Object.object in
    let h : Holds c.args.frames.now p.cells.items m = subst (λ x. Holds x p.cells.items m) e3 s.stores.frames in
    let led : Leads c.args.frames.now m named_at = object_leads c.args.frames.now m c.reference_in.result named_at c.in-Object.is (c.reference_in.ensures.leads c.args.frames.now m (subst (λ x. SlotLeads x m (slot_at stack at)) e3 (s.top.slots at))) in
    let found = popped ∙ ap (λ q. with_named q line o (λ v. go k v rest)) c.in-Object.is in
    along l line p below before now _ _ _ _ _
    (found ∙ ap (λ q. qualifying line q o (K (Of (Object named_at.stamp) ∷ rest))) (sym (c.in_class-inside.ensures.row code p.cells.items m e1 e2 h led))
    ∙ ap (λ w. qualifying line c.in_class-inside.result o w) (object_kept K c.reference_in.result named_at v rest c.reference_in.ensures.is c.in-Object.is ∙ ap K (top_at r.depth at stack c.in-Some-pop.ensures.shallower c.requires.fits)))
    (c.qualified.ensures.row l line p stack below now before o m s)

pub returns-in-Main-clause-row : goal.returns-in-Main-clause-row
unfolding Obeys
returns-in-Main-clause-row c code l line p below now e1 e2 e3 before o m s =
    let en : to_z w64 (of_z w64 c.args.operand) ≡ c.args.operand = search rules in
    let r = c.args.regs.now in
    let stack = c.args.stack.now in
    let K : List Value → Run Machine = λ st. on o m (activation_at r stack) st (below_of below) in
    let go : ℕ → Plain → List Value → Run Machine = λ k v st. qualifying line (is_in code m k v) o (K (Of v ∷ st)) in
    let R : ℕ → Run Machine = λ k. pop_reference plain line (values_of r.depth stack) o (go k) in
    let k = c.in-Some.class in
    let named = having_some (class_named code c.args.operand) k o R (c.in-Some.ensures.row code e2 ∙ ap (class_named code) en) ∙ popping_reference line (values_of r.depth stack) o (go k) in
    let at = c.in-Some-pop.at in
    let v = value_of (slot_at stack at) in
    let rest = values_of at stack in
    let popped = named ∙ c.in-Some-pop.ensures.row o (reference_of line o (go k)) ∙ reference_popped line o (go k) c.reference_in.result v rest c.reference_in.ensures.is in
    let named_at = c.in-Main.block in
    let h : Holds c.args.frames.now p.cells.items m = subst (λ x. Holds x p.cells.items m) e3 s.stores.frames in
    let led : Leads c.args.frames.now m named_at = main_leads c.args.frames.now m c.reference_in.result named_at c.in-Main.is (c.reference_in.ensures.leads c.args.frames.now m (subst (λ x. SlotLeads x m (slot_at stack at)) e3 (s.top.slots at))) in
    let found = popped ∙ ap (λ q. with_named q line o (λ v. go k v rest)) c.in-Main.is in
    along l line p below before now _ _ _ _ _
    (found ∙ ap (λ q. qualifying line q o (K (Of (MainOf named_at.stamp) ∷ rest))) (sym (c.main_in_class-inside.ensures.row code p.cells.items m e1 e2 h led))
    ∙ ap (λ w. qualifying line c.main_in_class-inside.result o w) (main_kept K c.reference_in.result named_at v rest c.reference_in.ensures.is c.in-Main.is ∙ ap K (top_at r.depth at stack c.in-Some-pop.ensures.shallower c.requires.fits)))
    (c.qualified-in-Main.ensures.row l line p stack below now before o m s)

pub returns-in-IsNone-clause-row : goal.returns-in-IsNone-clause-row
unfolding Obeys
returns-in-IsNone-clause-row c code l line p below now e1 e2 e3 before o m s =
    let en : to_z w64 (of_z w64 c.args.operand) ≡ c.args.operand = search rules in
    let r = c.args.regs.now in
    let stack = c.args.stack.now in
    let K : List Value → Run Machine = λ st. on o m (activation_at r stack) st (below_of below) in
    let go : ℕ → Plain → List Value → Run Machine = λ k v st. qualifying line (is_in code m k v) o (K (Of v ∷ st)) in
    let R : ℕ → Run Machine = λ k. pop_reference plain line (values_of r.depth stack) o (go k) in
    let k = c.in-Some.class in
    let named = having_some (class_named code c.args.operand) k o R (c.in-Some.ensures.row code e2 ∙ ap (class_named code) en) ∙ popping_reference line (values_of r.depth stack) o (go k) in
    let at = c.in-Some-pop.at in
    let v = value_of (slot_at stack at) in
    let rest = values_of at stack in
    let popped = named ∙ c.in-Some-pop.ensures.row o (reference_of line o (go k)) ∙ reference_popped line o (go k) c.reference_in.result v rest c.reference_in.ensures.is in
    along l line p below before now _ _ _ _ _ (popped ∙ ap (λ q. with_named q line o (λ v. go k v rest)) c.in-IsNone.is) (faults l line p below before now AccessThroughNone r r stack stack o m s)

pub returns-in-Other-clause-row : goal.returns-in-Other-clause-row
unfolding Obeys
returns-in-Other-clause-row c code l line p below now e1 e2 e3 before o m s =
    let en : to_z w64 (of_z w64 c.args.operand) ≡ c.args.operand = search rules in
    let r = c.args.regs.now in
    let stack = c.args.stack.now in
    let K : List Value → Run Machine = λ st. on o m (activation_at r stack) st (below_of below) in
    let go : ℕ → Plain → List Value → Run Machine = λ k v st. qualifying line (is_in code m k v) o (K (Of v ∷ st)) in
    let R : ℕ → Run Machine = λ k. pop_reference plain line (values_of r.depth stack) o (go k) in
    let k = c.in-Some.class in
    let named = having_some (class_named code c.args.operand) k o R (c.in-Some.ensures.row code e2 ∙ ap (class_named code) en) ∙ popping_reference line (values_of r.depth stack) o (go k) in
    let at = c.in-Some-pop.at in
    let v = value_of (slot_at stack at) in
    let rest = values_of at stack in
    let popped = named ∙ c.in-Some-pop.ensures.row o (reference_of line o (go k)) ∙ reference_popped line o (go k) c.reference_in.result v rest c.reference_in.ensures.is in
    no_rule_in l line p p below before now _ _ _ _ o m s (popped ∙ ap (λ q. with_named q line o (λ v. go k v rest)) c.in-Other.is)
