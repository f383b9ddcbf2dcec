-- Each row of the machine's table leaves what is written.
use Rattle.std.proofs.Common.{◌≡◌, ℕ, zero, suc, List, [], ◌∷◌, ◌++◌, length, Option, Some, None, Bool, true, false, refl, sym, subst, ap, ◌∙◌}
use Rattle.std.specs.Prelude.{◌==◌, ◌*◌, ℤ, pos, negsuc, nat_lt, slice_get, slice_set, if◌then◌else◌, Result}
use Rattle.sim_base.specs.declared.limits.Limits.{Limits}
use Rattle.sim_base.specs.declared.run_error.RunError.{RunError}
use Rattle.sim_values.specs.declared.kind.Kind.{Kind}
use Rattle.sim_values.specs.declared.operators.Comparison.{Comparison}
use Rattle.sim_values.specs.declared.operators.Dyadic.{Dyadic}
use Rattle.sim_values.specs.declared.operators.Monadic.{Monadic}
use Rattle.sim_values.specs.declared.standard.Standard.{Standard}
use Rattle.sim_values.specs.declared.value.TextVal.{TextVal}
use Rattle.notices.specs.declared.next.Next.{Next}
use Rattle.notices.specs.declared.next.Next.TheVariants as next
use Rattle.notices.specs.declared.notice.Notice.{Notice}
use Rattle.notices.specs.Scheduling.{next_of}
use Rattle.sim_values.specs.Plain.{Plain, Integer, Truth, Character, Text, Object, MainOf, Nothing}
use Rattle.sim_values.specs.Store.{Store, image_at, with_image}
use Rattle.sim_values.specs.Texts.{copy, same_text}
use Rattle.simset.specs.Sets.{Linkage}
use Rattle.sim_chains.specs.Chains.{Cut, cut_at}
use Rattle.sim_chains.specs.Components.{AttachedObject, Components, DetachedObject, NoObject, ResumedObject, Standing, TerminatedObject}
use Rattle.sim_code.specs.declared.code.BlockKind.{BlockKind}
use Rattle.sim_code.specs.declared.code.BlockKind.TheVariants as block
use Rattle.sim_code.specs.declared.code.CodeActual.{CodeActual}
use Rattle.sim_code.specs.declared.code.CodeFormal.{CodeFormal}
use Rattle.sim_code.specs.declared.code.ThunkRecord.{ThunkRecord}
use Rattle.sim_code.specs.declared.instr.Instr.{Instr}
use Rattle.sim_code.specs.declared.instr.Instr.TheVariants as i
use Rattle.sim_code.specs.declared.instr.Lined.{Lined}
use Rattle.sim_code.specs.declared.stage.Stage.{Stage}
use Rattle.sim_code.specs.Code.{BlockOf, ClassOf, CodeOf}
use Rattle.sim_code.specs.Outcome.{ArrayOf, Going, Run, Simulation, World}
use Rattle.sim_code.specs.Events.{computing, having, image_moved, image_set, making_text, no_rule, text_val, with_texts}
use Rattle.sim_code.specs.Arrays.{element, element_set, element_set_in, giving_back, handed_over, live_array, owned_by, with_array}
use Rattle.sim_code.specs.Instances.{CellPlace, ElementPlace, ImagePlace, Place, at_level, encloser_of, ended_as, going_below, is_given_at_end, is_live, main_goes_on, object_ended, system_head}
use Rattle.sim_code.specs.Sets.{enrolled, is_set_name}
use Rattle.sim_code.specs.Simulations.{begun_in, is_process_name, is_simulation_name, joined, joined_at, located, with_simulation}
use Rattle.sim_code.specs.Scheduling.{Timing, component_of, deciding, going_to}
use Rattle.sim_code.specs.Transfers.{Calling, Detaching, Resuming, Transfer, component_in, transferred, transferring}
use Rattle.sim_code.specs.Machine.{Activation, Address, ArrayValue, Cells, Frames, Link, Machine, Of, ProcedureValue, ThunkValue, Value, array_in, arrays_among, arrays_by_value, block_at, cell, cell_at, cell_set, frame_in, has_cell, index, is_roomy, jumping, leaving, level, link_in, number, operand, own_block, owner, place_in, plain, procedure_in, pushing, pushing_any, same_kind, thunk_in, value_at, variable_in, waiting, with_result, words_of_block}
use Rattle.sim_code.specs.Classes.{admitting, class_named, in_process, is_in, is_of, may_stand, qualifying}
use Rattle.sim_code.specs.Levels.{after_declarations, at_inner, at_stage, class_at_level, declarations_done, ended_by_kind, ending_process, entering_prefixed, generating, inner_reached, is_process_class, is_simulation_class, leading, level_ended, levelled, linkage_of_class, objects_of, outermost_ended, own_levels, words_of_object}
use Rattle.sim_code.specs.Rows.{activation_of, checking, class_at, code_of, comparison_of, decided, element_kind, entering_frame, entering_procedure, entering_value, first_stage, mrun, mstep, no_class, on_chain, one_row, opening, parameter_row, program_begun, pushed, put_back, putting, qualified, row, standard_of, standard_row, storing, thunk_ended, thunk_given, thunk_pushed, truth_of, two_row, without_class}
use Rattle.sim_code.specs.Formals.{ArrayCopied, Copied, NothingCopied, TextCopied, all_fit, class_held, copied_for, copying_value, formal_in_hand, is_by_name, passing, procedure_of, running_thunk, runs_inside, suiting}
use Rattle.sim_code.specs.Thunks.{in_thunk, instruction_before, is_place, locating, using_name, value_given}
use Rattle.sim_code.specs.Virtuals.{counting, matching, with_match}
use Rattle.sim_code.specs.Growing.{Grown, OutputGrows, written}
use Rattle.sim_code.proofs.Growing.{Grows, after_grows, after_more, grown_same, grows_assigning, grows_choosing, grows_computing, grows_copying, grows_entering, grows_finding, grows_having, grows_if, grows_integers, grows_keeping, grows_making, grows_many, grows_no_rule, grows_object, grows_one, grows_performing, grows_plain, grows_popping, grows_reference, grows_set, grows_step, grows_stopping, grows_taking, grows_ticking, grows_truth, grows_two, grows_when}
use Rattle.sim_code.proofs.GrowingSimulations.{grows_activation, grows_process, grows_simulation}

-- going on here writes nothing
abbrev Here : World → Run Machine → Type 0
Here o r = Grows o.store.written r

going : (o : World) (s : Machine) → Here o (Going o s)
going o s = record { more = grown_same o.store.written }

pushed_grows : (room : ℕ) (stack : List Value) (v : Value) (o : World) (go : List Value → Run Machine) → ((s : List Value) → Here o (go s)) → Here o (pushing room stack v o go)
unfolding pushing
pushed_grows room stack v o go h = grows_when Machine _ o _ (h _)

any_grows : (room : ℕ) (stack : List Value) (v : Option Value) (o : World) (go : List Value → Run Machine) → ((s : List Value) → Here o (go s)) → Here o (pushing_any room stack v o go)
any_grows room stack None o go h = h stack
any_grows room stack (Some v) o go h = pushed_grows room stack v o go h

index_grows : (z : ℤ) (o : World) (go : ℕ → Run Machine) → ((n : ℕ) → Here o (go n)) → Here o (index z o go)
unfolding index
index_grows z o go h = grows_having Machine ℕ (number z) o _ (λ n _. h n)

level_grows : (m : Frames) (a : Activation) (z : ℤ) (o : World) (go : ℕ → Run Machine) → ((n : ℕ) → Here o (go n)) → Here o (level m a z o go)
unfolding level
level_grows m a z o go h = index_grows z o _ (λ l. grows_having Machine ℕ (at_level m l a.home) o _ (λ j _. h j))

cell_grows : (m : Frames) (a : Activation) (l c : ℤ) (o : World) (go : ℕ → ℕ → Run Machine) → ((j c : ℕ) → Here o (go j c)) → Here o (cell_at m a l c o go)
unfolding cell_at
cell_grows m a l c o go h = level_grows m a l o _ (λ j. index_grows c o _ (λ c. h j c))

jump_grows : (code : CodeOf) (pc : ℕ) (z : ℤ) (o : World) (go : ℕ → Run Machine) → ((q : ℕ) → Here o (go q)) → Here o (jumping code pc z o go)
unfolding jumping
jump_grows code pc z o go h = index_grows z o _ (λ q. grows_when Machine _ o _ (h q))

block_grows : (code : CodeOf) (kind : BlockKind) (z : ℤ) (o : World) (go : ℕ → BlockOf → Lined → Run Machine) → ((k : ℕ) (b : BlockOf) (x : Lined) → Here o (go k b x)) → Here o (block_at code kind z o go)
unfolding block_at
block_grows code kind z o go h = index_grows z o _ (λ k. grows_having Machine BlockOf _ o _ (λ b _. grows_when Machine (same_kind b.kind kind) o _ (grows_having Machine Lined _ o _ (λ x _. h k b x))))

own_grows : (code : CodeOf) (kind : BlockKind) (m : Frames) (a : Activation) (o : World) (go : BlockOf → Run Machine) → ((b : BlockOf) → Here o (go b)) → Here o (own_block code kind m a o go)
unfolding own_block
own_grows code kind m a o go h = grows_having Machine ℕ (owner a) o _ (λ j _. grows_having Machine ℕ _ o _ (λ k _. grows_having Machine BlockOf _ o _ (λ b _. grows_when Machine (same_kind b.kind kind) o _ (h b))))

result_grows : (b : BlockOf) (m : Frames) (j : ℕ) (o : World) (go : Option Value → Run Machine) → ((v : Option Value) → Here o (go v)) → Here o (with_result b m j o go)
unfolding with_result
result_grows b m j o go h = grows_if Machine _ o _ _ (h None) (grows_having Machine Value (cell m j 0) o _ (λ v _. h (Some v)))

-- ---- what changes the world and writes nothing

back_same : (o : World) (j words : ℕ) → (giving_back o j words).store.written ≡ o.store.written
unfolding giving_back
back_same o j words = refl

left_same : (c : Bool) (o : World) (j words : ℕ) → (if c then giving_back o j words else o).store.written ≡ o.store.written
left_same true o j words = back_same o j words
left_same false o j words = refl

handed_same : (owner : ℕ) (arrays : List ℕ) (o : World) → (handed_over owner arrays o).store.written ≡ o.store.written
unfolding handed_over
handed_same owner [] o = refl
handed_same owner (n ∷ rest) o = handed_same owner rest _ ∙ owned_same (slice_get o.arrays n) n owner o
  where
    owned_same : (a : Option ArrayOf) (n owner : ℕ) (o : World) → (owned_by owner a o n).store.written ≡ o.store.written
    owned_same None n owner o = refl
    owned_same (Some a) n owner o = refl

begun_same : (is_simulation : Bool) (block : ℕ) (o : World) → (begun_in is_simulation block o).store.written ≡ o.store.written
begun_same false b o = refl
begun_same true b o = refl

joined_same : (is_process : Bool) (block object : ℕ) (o : World) → (joined is_process block object o).store.written ≡ o.store.written
joined_same false b j o = refl
joined_same true b j o = at_place (located o.simulations b)
  where
    at_place : (x : Option (ℕ × Simulation)) → (joined_at j o x).store.written ≡ o.store.written
    at_place None = refl
    at_place (Some x) = refl

enrolled_same : (object : ℕ) (linkage : Option Linkage) (o : World) → (enrolled object linkage o).store.written ≡ o.store.written
enrolled_same object None o = refl
enrolled_same object (Some linkage) o = refl

leaving_grows : (b : BlockOf) (below : List Activation) (v : Option Value) (j : ℕ) (o : World) (m : Frames) → Here o (leaving b below v j o m)
unfolding leaving
leaving_grows b [] v j o m = grows_no_rule Machine o
leaving_grows b (a ∷ below) v j o m = any_grows a.room a.stack v o _ (λ stack. record { more = subst (λ w. Grown o.store.written w) (sym (left_same (is_given_at_end m j) o j (words_of_block b))) (grown_same o.store.written) })

set_same : (o : World) (n i : ℕ) (v : Plain) (p : World) → element_set o n i v ≡ Some p → p.store.written ≡ o.store.written
set_same o n i v p is = by_parts (live_array o n) (element o n i) is
  where
    by_parts : (a : Option ArrayOf) (old : Option Plain) → element_set_in o n i v a old ≡ Some p → p.store.written ≡ o.store.written
    by_parts (Some a) (Some old) is = let same : with_array o n (record a { elements = slice_set a.elements i v }) ≡ p = cc in ap (λ (w : World). w.store.written) (sym same)
    by_parts (Some a) None is = absurd (cc)
    by_parts None old is = absurd (cc)

image_same : (o : World) (n : ℕ) (v : Plain) (p : World) → image_set o n v ≡ Some p → p.store.written ≡ o.store.written
image_same o n v p is = by_image (image_at o.store n) (text_val v) is
  where
    with_same : (s : Store) (n : ℕ) (t : TextVal) → (with_image s n t).written ≡ s.written
    with_same s zero t = refl
    with_same s (suc zero) t = refl
    with_same s (suc (suc n)) t = refl

    if_moved : (b : Bool) (t : TextVal) → (if b then Some (record o { store = with_image o.store n t }) else None) ≡ Some p → p.store.written ≡ o.store.written
    if_moved true t is = let same : record o { store = with_image o.store n t } ≡ p = cc in ap (λ (w : World). w.store.written) (sym same) ∙ with_same o.store n t
    if_moved false t is = absurd (cc)

    by_image : (image moved : Option TextVal) → image_moved o n image moved ≡ Some p → p.store.written ≡ o.store.written
    by_image (Some image) (Some t) is = if_moved (same_text image t) t is
    by_image (Some image) None is = absurd (cc)
    by_image None (Some t) is = absurd (cc)
    by_image None None is = absurd (cc)

putting_grows : (p : Place ℕ ℕ) (v : Value) (o : World) (m : Frames) (go : World → Frames → Run Machine) → ((o : World) (m : Frames) → Here o (go o m)) → Here o (putting p v o m go)
unfolding putting
putting_grows (CellPlace j c zero) v o m go h = grows_having Machine Frames (cell_set m j c v) o _ (λ m _. h o m)
putting_grows (CellPlace j c (suc k)) v o m go h = grows_no_rule Machine o
putting_grows (ElementPlace a n zero) v o m go h = grows_having Machine Plain (plain v) o _ (λ p _. grows_having Machine World (element_set o a n p) o _ (λ q is. subst (λ w. Grows w (go q m)) (set_same o a n p q is) (h q m)))
putting_grows (ElementPlace a n (suc k)) v o m go h = grows_no_rule Machine o
putting_grows (ImagePlace n) v o m go h = grows_having Machine Plain (plain v) o _ (λ p _. grows_having Machine World (image_set o n p) o _ (λ q is. subst (λ w. Grows w (go q m)) (image_same o n p q is) (h q m)))

-- classes
qualified_grows : (code : CodeOf) (z : ℤ) (o : World) (go : ℕ → Run Machine) → ((q : ℕ) → Here o (go q)) → Here o (qualified code z o go)
qualified_grows code (pos zero) o go h = grows_having Machine (Unit {0}) (no_class (pos zero)) o _ (λ _ _. h 0)
qualified_grows code (pos (suc n)) o go h = grows_having Machine ℕ (class_named code (pos (suc n))) o go (λ q _. h q)
qualified_grows code (negsuc n) o go h = grows_having Machine ℕ (class_named code (negsuc n)) o go (λ q _. h q)

qualifying_grows : (line : ℕ) (holds : Option Bool) (o : World) (r : Run Machine) → Here o r → Here o (qualifying line holds o r)
qualifying_grows line holds o r h = grows_having Machine Bool holds o _ (λ b _. grows_choosing Machine b o r _ h (grows_stopping Machine _ o))

admitting_grows : (code : CodeOf) (m : Frames) (line class : ℕ) (v : Value) (o : World) (r : Run Machine) → Here o r → Here o (admitting code m line class v o r)
admitting_grows code m line zero v o r h = h
admitting_grows code m line (suc c) v o r h = qualifying_grows line (may_stand code m (suc c) (plain v)) o r h

storing_grows : (code : CodeOf) (line : ℕ) (p : Place ℕ ℕ) (v : Value) (o : World) (m : Frames) (go : World → Frames → Run Machine) → ((o : World) (m : Frames) → Here o (go o m)) → Here o (storing code line p v o m go)
storing_grows code line p v o m go h = admitting_grows code m line (class_at p) v o _ (putting_grows (without_class p) v o m go h)

back_grows : (v : Value) (t : TextVal) (o : World) (m : Frames) (go : World → Frames → Run Machine) → ((o : World) (m : Frames) → Here o (go o m)) → Here o (put_back v t o m go)
unfolding put_back
back_grows (Of p) t o m go h = h o m
back_grows (Link j) t o m go h = h o m
back_grows (Address p) t o m go h = putting_grows p (Of (Text t)) o m go h
back_grows (ArrayValue a) t o m go h = h o m
back_grows (ProcedureValue b p) t o m go h = h o m
back_grows (ThunkValue k j) t o m go h = h o m

-- ---- the rows

none : (o : World) → Here o (no_rule o)
none o = grows_no_rule Machine o

two_grows : (o : World) (m : Frames) (a : Activation) (below : List Activation) (line : ℕ) (op : Dyadic) → Here o (two_row o m a below line op)
two_grows o m a below line op = grows_two Machine Value plain op line a.stack o _ (λ z stack. going o _)

one_grows : (o : World) (m : Frames) (a : Activation) (below : List Activation) (line : ℕ) (op : Monadic) → Here o (one_row o m a below line op)
one_grows o m a below line op = grows_one Machine Value plain op line a.stack o _ (λ z stack. going o _)

push_grows : (o : World) (m : Frames) (a : Activation) (below : List Activation) (v : Value) → Here o (pushed o m a below v)
push_grows o m a below v = pushed_grows a.room a.stack v o _ (λ s. going o _)

frame_grows : (l : Limits) (o : World) (m : Frames) (a : Activation) (below : List Activation) (line k : ℕ) (b : BlockOf) (parent : ℕ) (values stack : List Value) → Here o (entering_frame l o m a below line k b parent values stack)
frame_grows l o m a below line k b parent values stack =
    grows_having Machine Cells _ o _ (λ cells _. grows_entering Machine l line (words_of_block b) o _ (λ p.
    record { more = subst (λ w. Grown p.store.written w) (sym (handed_same (length m.instances) (arrays_by_value b.formals values) p)) (grown_same p.store.written) }))

call_grows : (code : CodeOf) (l : Limits) (o : World) (m : Frames) (a : Activation) (below : List Activation) (line : ℕ) (k n : ℤ) → Here o (entering_procedure code l o m a below line k n)
call_grows code l o m a below line k n =
    index_grows n o _ (λ n. grows_many Machine Value plain n [] a.stack o _ (λ values stack. grows_popping Machine Value plain stack o _ (λ v stack. grows_having Machine ℕ (frame_in v) o _ (λ parent _. grows_when Machine (is_live m parent) o _ (
    block_grows code _ k o _ (λ k b x. frame_grows l o m a below line k b parent values stack))))))

-- procedures in hand
match_grows : (line : ℕ) (x : Option ℕ) (o : World) (go : ℕ → Run Machine) → ((k : ℕ) → Here o (go k)) → Here o (with_match line x o go)
match_grows line None o go h = grows_stopping Machine _ o
match_grows line (Some k) o go h = h k

matching_grows : (line : ℕ) (found : Option (Option ℕ)) (o : World) (go : ℕ → Run Machine) → ((k : ℕ) → Here o (go k)) → Here o (matching line found o go)
unfolding matching
matching_grows line found o go h = grows_having Machine (Option ℕ) found o _ (λ x _. match_grows line x o go h)

counting_grows : (line formals actuals : ℕ) (o : World) (r : Run Machine) → Here o r → Here o (counting line formals actuals o r)
unfolding counting
counting_grows line formals actuals o r h = grows_choosing Machine (formals == actuals) o r _ h (grows_stopping Machine _ o)

suiting_grows : (line : ℕ) (fits : Bool) (o : World) (r : Run Machine) → Here o r → Here o (suiting line fits o r)
unfolding suiting
suiting_grows line fits o r h = grows_choosing Machine fits o r _ h (grows_stopping Machine _ o)

checking_grows : (code : CodeOf) (o : World) (m : Frames) (a : Activation) (below : List Activation) (line : ℕ) (z : ℤ) → Here o (checking code o m a below line z)
checking_grows code o m a below line z =
    index_grows z o _ (λ n. grows_having Machine (List CodeActual) _ o _ (λ actuals _. grows_popping Machine Value plain a.stack o _ (λ v stack. grows_having Machine (ℕ × ℕ) (procedure_in v) o _ (λ q _.
    grows_having Machine BlockOf _ o _ (λ b _. grows_when Machine _ o _ (counting_grows line (length b.formals) (length actuals) o _ (suiting_grows line (all_fit code b.formals actuals) o _ (
    grows_having Machine Bool _ o _ (λ agree _. suiting_grows line agree o _ (going o _))))))))))

value_grows : (code : CodeOf) (l : Limits) (o : World) (m : Frames) (a : Activation) (below : List Activation) (line : ℕ) (n : ℤ) → Here o (entering_value code l o m a below line n)
value_grows code l o m a below line n =
    index_grows n o _ (λ n. grows_many Machine Value plain n [] a.stack o _ (λ values stack. grows_popping Machine Value plain stack o _ (λ v stack. grows_having Machine (ℕ × ℕ) (procedure_in v) o _ (λ q _. grows_when Machine (is_live m q.1) o _ (
    block_grows code _ (pos q.0) o _ (λ k b x. frame_grows l o m a below line k b q.1 values stack))))))

-- objects and prefixed blocks
leading_grows : (code : CodeOf) (q : ℕ) (o : World) (r : Run Machine) → Here o r → Here o (leading code q o r)
unfolding leading
leading_grows code q o r h = grows_having Machine Lined _ o _ (λ _ _. h)

levelled_grows : (code : CodeOf) (kind : BlockKind) (k : ℕ) (o : World) (go : BlockOf → ℕ → Run Machine) → ((b : BlockOf) (start : ℕ) → Here o (go b start)) → Here o (levelled code kind k o go)
unfolding levelled
levelled_grows code kind k o go h =
    grows_having Machine BlockOf _ o _ (λ b _. grows_when Machine _ o _ (grows_having Machine (List ℕ) _ o _ (λ cs _. grows_having Machine ClassOf _ o _ (λ x _. leading_grows code x.declarations o _ (h b x.declarations)))))

objects_grow : (code : CodeOf) (z : ℤ) (o : World) (go : ℕ → BlockOf → ℕ → Run Machine) → ((k : ℕ) (b : BlockOf) (start : ℕ) → Here o (go k b start)) → Here o (objects_of code z o go)
unfolding objects_of
objects_grow code z o go h =
    grows_having Machine ℕ _ o _ (λ c _. grows_having Machine ClassOf _ o _ (λ x _. levelled_grows code _ x.block o _ (λ b start. grows_when Machine _ o _ (h x.block b start))))

new_grows : (code : CodeOf) (l : Limits) (o : World) (m : Frames) (a : Activation) (below : List Activation) (line : ℕ) (z n : ℤ) → Here o (generating code l o m a below line z n)
new_grows code l o m a below line z n =
    index_grows n o _ (λ n. grows_many Machine Value plain n [] a.stack o _ (λ values stack. grows_popping Machine Value plain stack o _ (λ v stack. grows_having Machine ℕ (link_in v) o _ (λ parent _. grows_when Machine (is_live m parent) o _ (
    objects_grow code z o _ (λ k b start. grows_having Machine Cells _ o _ (λ cells _. pushed_grows a.room stack _ o _ (λ stack. grows_entering Machine l line (words_of_object code b) o _ (λ p.
    let j = length m.instances in
    let same = joined_same (is_process_class code b.class) parent j (enrolled j (linkage_of_class code b.class) (handed_over j (arrays_among values) p)) ∙ enrolled_same j (linkage_of_class code b.class) (handed_over j (arrays_among values) p) ∙ handed_same j (arrays_among values) p in
    record { more = subst (λ w. Grown p.store.written w) (sym same) (grown_same p.store.written) })))))))))

prefixed_grows : (code : CodeOf) (l : Limits) (o : World) (m : Frames) (a : Activation) (below : List Activation) (line : ℕ) (z n : ℤ) → Here o (entering_prefixed code l o m a below line z n)
prefixed_grows code l o m a below line z n =
    index_grows n o _ (λ n. grows_many Machine Value plain n [] a.stack o _ (λ values stack.
    index_grows z o _ (λ k. levelled_grows code _ k o _ (λ b start. grows_having Machine Cells _ o _ (λ cells _. grows_entering Machine l line (words_of_block b) o _ (λ p.
    record { more = subst (λ w. Grown p.store.written w) (sym (begun_same (is_simulation_class code b.class) (length m.instances) (handed_over (length m.instances) (arrays_among values) p) ∙ handed_same (length m.instances) (arrays_among values) p)) (grown_same p.store.written) }))))))

own_levels_grow : (code : CodeOf) (m : Frames) (a : Activation) (stage : Stage) (o : World) (go : List ℕ → Run Machine) → ((cs : List ℕ) → Here o (go cs)) → Here o (own_levels code m a stage o go)
unfolding own_levels
own_levels_grow code m a stage o go h = grows_when Machine _ o _ (grows_having Machine ℕ (owner a) o _ (λ j _. grows_having Machine (List ℕ) _ o go (λ cs _. h cs)))

stage_grows : (code : CodeOf) (o : World) (m : Frames) (a : Activation) (below : List Activation) (stage : Stage) (q : ℕ) → Here o (at_stage code o m a below stage q)
stage_grows code o m a below stage q = leading_grows code q o _ (going o _)

declared_grows : (code : CodeOf) (o : World) (m : Frames) (a : Activation) (below : List Activation) (n : ℕ) → Here o (declarations_done code o m a below n)
declared_grows code o m a below n = own_levels_grow code m a _ o _ (λ cs. by_next cs (class_at_level code cs (suc n)))
  where
    by_next : (cs : List ℕ) (next : Option ClassOf) → Here o (after_declarations code o m a below n cs next)
    by_next cs None = grows_having Machine ClassOf _ o _ (λ x _. stage_grows code o m a below _ x.statements)
    by_next cs (Some x) = stage_grows code o m a below _ x.declarations

inner_grows : (code : CodeOf) (o : World) (m : Frames) (a : Activation) (below : List Activation) (n : ℕ) → Here o (inner_reached code o m a below n)
inner_grows code o m a below n = own_levels_grow code m a _ o _ (λ cs. by_next (class_at_level code cs (suc n)))
  where
    by_next : (next : Option ClassOf) → Here o (at_inner code o m a below n next)
    by_next None = going o _
    by_next (Some x) = stage_grows code o m a below _ x.statements

below_grows : (o : World) (below : List Activation) (m : Frames) → Here o (going_below o below m)
below_grows o [] m = record { more = grown_same o.store.written }
below_grows o (a ∷ below) m = going o _

ended_grows : (o : World) (m : Frames) (j : ℕ) (below : List Activation) → Here o (object_ended owner o m j below)
unfolding object_ended
ended_grows o m j below = by_standing (slice_get m.standings j)
  where
    by_main : (s : ℕ) (k : Option (Cut Activation)) (x : Option (Standing Activation)) → Here o (main_goes_on owner o m j s k x)
    by_main s None x = record { more = grown_same o.store.written }
    by_main s (Some k) None = record { more = grown_same o.store.written }
    by_main s (Some k) (Some (NoObject None)) = record { more = grown_same o.store.written }
    by_main s (Some k) (Some (NoObject (Some main))) = below_grows o (main ++ k.here ∷ k.below) _
    by_main s (Some k) (Some AttachedObject) = record { more = grown_same o.store.written }
    by_main s (Some k) (Some (DetachedObject chain)) = record { more = grown_same o.store.written }
    by_main s (Some k) (Some ResumedObject) = record { more = grown_same o.store.written }
    by_main s (Some k) (Some TerminatedObject) = record { more = grown_same o.store.written }

    by_standing : (s : Option (Standing Activation)) → Here o (ended_as owner o m j below s)
    by_standing None = record { more = grown_same o.store.written }
    by_standing (Some (NoObject main)) = record { more = grown_same o.store.written }
    by_standing (Some AttachedObject) = below_grows o below _
    by_standing (Some (DetachedObject chain)) = record { more = grown_same o.store.written }
    by_standing (Some ResumedObject) = by_main (system_head m j) (cut_at owner (system_head m j) below) (slice_get m.standings (system_head m j))
    by_standing (Some TerminatedObject) = record { more = grown_same o.store.written }

transfer_grows : (t : Transfer) (line : ℕ) (o : World) (chain : List Activation) (m : Frames) (v : Plain) → Here o (transferring owner t line o chain m v)
unfolding transferring
transfer_grows t line o chain m v = by_value v
  where
    by_component : (y : Option (Option ℕ)) → Here o (having y o (λ y. having (transferred owner t (system_head m) (record { operating = chain; standings = m.standings }) y) o (λ r. computing line r o (λ c. going_below o c.operating (record m { standings = c.standings })))))
    by_component y = grows_having Machine (Option ℕ) y o _ (λ y _. grows_having Machine (Result (Components Activation) RunError) (transferred owner t (system_head m) _ y) o _ (λ r _.
        grows_computing Machine (Components Activation) line r o _ (λ c. below_grows o c.operating _)))

    by_value : (v : Plain) → Here o (transferring owner t line o chain m v)
    by_value (MainOf b) = grows_stopping Machine _ o
    by_value (Integer z) = by_component (component_in (Integer z))
    by_value (Truth b) = by_component (component_in (Truth b))
    by_value (Character c) = by_component (component_in (Character c))
    by_value (Text x) = by_component (component_in (Text x))
    by_value (Object j) = by_component (component_in (Object j))
    by_value Nothing = by_component (component_in Nothing)

-- who goes on after a scheduling procedure
going_grows : (line : ℕ) (o : World) (chain : List Activation) (m : Frames) (x : Simulation) (next : Next) → Here o (going_to owner line o chain m x next)
going_grows line o chain m x next.Stay = below_grows o chain m
going_grows line o chain m x (next.Resume p) =
    grows_having Machine (Option ℕ) (component_of x p.0) o _ (λ y _. grows_computing Machine (Components Activation) line _ o _ (λ c. below_grows o c.operating _))

decided_grows : (o : World) (m : Frames) (a : Activation) (below : List Activation) (line : ℕ) (p : World) (x : ℕ × Simulation) (r : Result (List Notice) RunError) (stack : List Value) → Here p (decided o m a below line p x r stack)
unfolding deciding
decided_grows o m a below line p x r stack =
    grows_computing Machine (List Notice) line r p _ (λ notices. grows_computing Machine Next line (next_of x.1.notices notices) p _ (λ next.
    going_grows line (with_simulation p x.0 (record x.1 { notices = notices })) (waiting a stack ∷ below) m x.1 next))

outermost_grows : (code : CodeOf) (l : Limits) (o : World) (m : Frames) (a : Activation) (below : List Activation) (j k : ℕ) → Here o (outermost_ended code l o m a below j k)
outermost_grows code l o m a below j k = grows_when Machine _ o _ (grows_having Machine BlockOf _ o _ (λ b _. by_kind b b.kind))
  where
    by_kind : (b : BlockOf) (kind : BlockKind) → Here o (ended_by_kind l o m below j b kind)
    by_kind b block.SubBlock = none o
    by_kind b block.Procedure = none o
    by_kind b block.Object = grows_ticking Machine l o _ (λ p. ended_grows p m j below)
    by_kind b block.Prefixed = leaving_grows b below None j o m

level_ends : (code : CodeOf) (l : Limits) (o : World) (m : Frames) (a : Activation) (below : List Activation) (n : ℕ) → Here o (level_ended code l o m a below n)
level_ends code l o m a below zero =
    grows_having Machine ℕ (owner a) o _ (λ j _. grows_having Machine ℕ _ o _ (λ k _. grows_choosing Machine (k == 0) o _ _ (grows_stopping Machine _ o) (outermost_grows code l o m a below j k)))
level_ends code l o m a below (suc n) = own_levels_grow code m a _ o _ (λ cs. grows_having Machine ClassOf _ o _ (λ x _. stage_grows code o m a below _ x.after_inner))

standard_grows : (code : CodeOf) (l : Limits) (o : World) (m : Frames) (a : Activation) (below : List Activation) (line : ℕ) (name : Standard) → Here o (standard_row code l o m a below line name)
standard_grows code l o m a below line name =
    grows_choosing Machine (is_set_name name) o _ _
    (grows_set Machine Value plain name a.stack o _ (λ p value stack. going p _))
    (grows_choosing Machine (is_process_name name) o _ _
    (grows_process Machine Value plain (encloser_of m) name line a.stack o _ (λ value stack. going o _))
    (grows_choosing Machine (is_simulation_name name) o _ _
    (grows_simulation Machine Value plain link_in (in_process code m) (ending_process code m a) name a.stack o _ _ (λ value stack. going o _) (decided_grows o m a below line))
    (grows_when Machine _ o _ (grows_performing Machine Value Frames operand put_back back_grows l line name a.stack o m _ (λ p m value stack. going p _)))))

-- ---- parameters by name

locating_grows : (line : ℕ) (place value_too : Bool) (o : World) (r : Run Machine) → Here o r → Here o (locating line place value_too o r)
unfolding locating
locating_grows line true value_too o r h = h
locating_grows line false true o r h = h
locating_grows line false false o r h = grows_stopping Machine _ o

thunk_begins : (code : CodeOf) (o : World) (m : Frames) (t home : ℕ) (below : List Activation) → Here o (in_thunk code o m t home below)
unfolding in_thunk
thunk_begins code o m t home below =
    grows_when Machine (is_live m home) o _ (grows_having Machine ThunkRecord (slice_get code.thunks t) o _ (λ x _. grows_having Machine Lined (slice_get code.instrs x.entry) o _ (λ y _. going o _)))

using_grows : (code : CodeOf) (l : Limits) (o : World) (m : Frames) (a : Activation) (below : List Activation) (j c : ℕ) → Here o (using_name code l o m a below j c)
using_grows code l o m a below j c = grows_having Machine Value (cell m j c) o _ (λ v _. grows_having Machine (ℕ × ℕ) (thunk_in v) o _ (λ t _. grows_when Machine (is_roomy a) o _ (grows_ticking Machine l o _ (λ p. thunk_begins code p m t.0 t.1 _))))

-- parameters of procedures in hand
text_grows : (l : Limits) (line : ℕ) (t : TextVal) (o : World) (go : TextVal → World → Run Machine) → ((t : TextVal) (p : World) → Here p (go t p)) → Here o (making_text l line (copy o.store.frames t) o go)
unfolding making_text
text_grows l line t o go h = grows_taking Machine l line _ o _ (λ p _. grows_computing Machine TextVal line _ (with_texts p (copy o.store.frames t).frames) _ (λ u. h u (with_texts p (copy o.store.frames t).frames)))

copies_grow : (l : Limits) (line owner : ℕ) (c : Copied) (v : Value) (o : World) (go : Value → World → Run Machine) → ((v : Value) (p : World) → Here p (go v p)) → Here o (copying_value Of plain ArrayValue array_in l line owner c v o go)
unfolding copying_value
copies_grow l line owner NothingCopied v o go h = h v o
copies_grow l line owner TextCopied v o go h = grows_having Machine Plain (plain v) o _ (λ p _. grows_having Machine TextVal (text_val p) o _ (λ t _. text_grows l line t o _ (λ u q. h (Of (Text u)) q)))
copies_grow l line owner ArrayCopied v o go h = grows_having Machine ℕ (array_in v) o _ (λ a _. grows_copying Machine l line owner a o _ (λ c p. h (ArrayValue c) p))

passing_grows : (code : CodeOf) (l : Limits) (line : ℕ) (f : CodeFormal) (b : Activation) (rest : List Activation) (v : Value) (o : World) (m : Frames) → Here o (passing code l line f b rest v o m)
unfolding passing
passing_grows code l line f b rest v o m = admitting_grows code m line (class_held f) v o _ (pushed_grows b.room b.stack v o _ (λ _. copies_grow l line b.home (copied_for f) v o _ (λ v p. going p _)))

thunk_goes : (code : CodeOf) (o : World) (m : Frames) (a : Activation) (below : List Activation) (z : ℤ) → Here o (thunk_pushed code o m a below z)
thunk_goes code o m a below z = index_grows z o _ (λ t. grows_having Machine ThunkRecord (slice_get code.thunks t) o _ (λ _ _. push_grows o m a below _))

thunk_runs : (code : CodeOf) (o : World) (m : Frames) (a : Activation) (below : List Activation) (z : ℤ) → Here o (running_thunk code o m a below z)
thunk_runs code o m a below z = index_grows z o _ (λ t. grows_when Machine (runs_inside a.thunk t) o _ (grows_when Machine (is_roomy a) o _ (thunk_begins code o m t a.home _)))

parameter_grows : (code : CodeOf) (o : World) (m : Frames) (a : Activation) (below : List Activation) (n t p : ℤ) → Here o (parameter_row code o m a below n t p)
parameter_grows code o m a below n t p =
    index_grows n o _ (λ n. grows_having Machine CodeFormal (formal_in_hand code n a.stack) o _ (λ f _.
    grows_choosing Machine (is_by_name f.mode) o _ _ (thunk_goes code o m a below _) (thunk_runs code o m a below _)))

given_grows : (code : CodeOf) (l : Limits) (o : World) (m : Frames) (b : Activation) (rest : List Activation) (v : Value) (line : ℕ) (x : Instr) → Here o (thunk_given code l o m b rest v line x)
given_grows code l o m b rest v line i.Halt = none o
given_grows code l o m b rest v line (i.Int z) = none o
given_grows code l o m b rest v line (i.Bool z) = none o
given_grows code l o m b rest v line (i.Char z) = none o
given_grows code l o m b rest v line (i.TextK z) = none o
given_grows code l o m b rest v line i.None = none o
given_grows code l o m b rest v line i.NoText = none o
given_grows code l o m b rest v line (i.Link z) = none o
given_grows code l o m b rest v line (i.This z) = none o
given_grows code l o m b rest v line (i.Addr z c class) = none o
given_grows code l o m b rest v line (i.AddrR c class) = none o
given_grows code l o m b rest v line (i.AddrImg z) = none o
given_grows code l o m b rest v line (i.Elem n class) = none o
given_grows code l o m b rest v line i.Fetch = none o
given_grows code l o m b rest v line i.Put = none o
given_grows code l o m b rest v line (i.Load z c) = none o
given_grows code l o m b rest v line (i.Store z c) = none o
given_grows code l o m b rest v line i.Dup = none o
given_grows code l o m b rest v line i.Pop = none o
given_grows code l o m b rest v line i.Swap = none o
given_grows code l o m b rest v line i.Neg = none o
given_grows code l o m b rest v line i.Add = none o
given_grows code l o m b rest v line i.Sub = none o
given_grows code l o m b rest v line i.Mul = none o
given_grows code l o m b rest v line i.Div = none o
given_grows code l o m b rest v line i.Pow = none o
given_grows code l o m b rest v line (i.Rel z) = none o
given_grows code l o m b rest v line (i.RelT z) = none o
given_grows code l o m b rest v line i.Same = none o
given_grows code l o m b rest v line i.SameT = none o
given_grows code l o m b rest v line i.Not = none o
given_grows code l o m b rest v line i.And = none o
given_grows code l o m b rest v line i.Or = none o
given_grows code l o m b rest v line i.Imp = none o
given_grows code l o m b rest v line i.Eqv = none o
given_grows code l o m b rest v line (i.Is z) = none o
given_grows code l o m b rest v line (i.In z) = none o
given_grows code l o m b rest v line (i.Qua z) = none o
given_grows code l o m b rest v line (i.Jump q) = none o
given_grows code l o m b rest v line (i.JumpF q) = none o
given_grows code l o m b rest v line i.Tick = none o
given_grows code l o m b rest v line i.StepTest = none o
given_grows code l o m b rest v line (i.Enter z) = none o
given_grows code l o m b rest v line i.Leave = none o
given_grows code l o m b rest v line (i.Call k n) = none o
given_grows code l o m b rest v line i.Return = none o
given_grows code l o m b rest v line (i.ProcVal z) = none o
given_grows code l o m b rest v line (i.Virt z) = none o
given_grows code l o m b rest v line (i.Check z) = none o
given_grows code l o m b rest v line (i.Param n t p) = index_grows n o _ (λ n. grows_having Machine CodeFormal (formal_in_hand code n b.stack) o _ (λ f _. grows_having Machine Value (value_given o m v) o _ (λ v _. passing_grows code l line f b rest v o m)))
given_grows code l o m b rest v line (i.CallV n) = none o
given_grows code l o m b rest v line (i.Thunk t) = none o
given_grows code l o m b rest v line (i.NameVal z c class) = qualified_grows code class o _ (λ q. grows_having Machine Value (value_given o m v) o _ (λ v _. admitting_grows code m line q v o _ (pushed_grows b.room b.stack v o _ (λ stack. going o _))))
given_grows code l o m b rest v line (i.NameAddr z c value) = grows_having Machine Bool (truth_of value) o _ (λ value_too _. locating_grows line (is_place v) value_too o _ (pushed_grows b.room b.stack v o _ (λ stack. going o _)))
given_grows code l o m b rest v line i.EndThunk = none o
given_grows code l o m b rest v line (i.New class n) = none o
given_grows code l o m b rest v line (i.Pref k n) = none o
given_grows code l o m b rest v line (i.NextDecl z) = none o
given_grows code l o m b rest v line (i.Inner z) = none o
given_grows code l o m b rest v line (i.EndLevel z) = none o
given_grows code l o m b rest v line (i.Array z n) = none o
given_grows code l o m b rest v line i.CopyArr = none o
given_grows code l o m b rest v line i.Keep = none o
given_grows code l o m b rest v line i.AssignT = none o
given_grows code l o m b rest v line (i.Std z) = none o
given_grows code l o m b rest v line (i.Act z) = none o
given_grows code l o m b rest v line i.Detach = none o
given_grows code l o m b rest v line i.Attach = none o
given_grows code l o m b rest v line i.Resume = none o
given_grows code l o m b rest v line i.NotNone = none o

thunk_ends : (code : CodeOf) (l : Limits) (o : World) (m : Frames) (v : Value) (below : List Activation) → Here o (thunk_ended code l o m v below)
thunk_ends code l o m v [] = none o
thunk_ends code l o m v (b ∷ rest) = grows_having Machine Lined (instruction_before code b.pc) o _ (λ x _. given_grows code l o m b rest v x.line.0 x.instr)

row_grows : (code : CodeOf) (l : Limits) (o : World) (m : Frames) (a : Activation) (below : List Activation) (line : ℕ) (x : Instr) → Here o (row code l o m a below line x)
row_grows code l o m a below line i.Halt = grows_stopping Machine _ o
row_grows code l o m a below line (i.Int z) = push_grows o m a below _
row_grows code l o m a below line (i.Bool z) = grows_having Machine Bool (truth_of z) o _ (λ b _. push_grows o m a below _)
row_grows code l o m a below line (i.Char z) = grows_having Machine ℕ (code_of z) o _ (λ c _. push_grows o m a below _)
row_grows code l o m a below line (i.TextK z) = index_grows z o _ (λ n. grows_having Machine (List ℕ) _ o _ (λ bytes _. push_grows o m a below _))
row_grows code l o m a below line i.None = push_grows o m a below _
row_grows code l o m a below line i.NoText = push_grows o m a below _
row_grows code l o m a below line (i.Link z) = level_grows m a z o _ (λ j. push_grows o m a below _)
row_grows code l o m a below line (i.This z) = level_grows m a z o _ (λ j. push_grows o m a below _)
row_grows code l o m a below line (i.Addr z c class) = qualified_grows code class o _ (λ q. cell_grows m a z c o _ (λ j c. grows_when Machine (has_cell m j c) o _ (push_grows o m a below _)))
row_grows code l o m a below line (i.AddrR c class) = qualified_grows code class o _ (λ q. grows_object Machine Value plain line a.stack o _ (λ j stack. index_grows c o _ (λ c. grows_when Machine (has_cell m j c) o _ (going o _))))
row_grows code l o m a below line (i.AddrImg z) = index_grows z o _ (λ n. grows_having Machine TextVal (image_at o.store n) o _ (λ _ _. push_grows o m a below _))
row_grows code l o m a below line (i.Elem n class) = qualified_grows code class o _ (λ q. index_grows n o _ (λ n. grows_finding Machine Value plain array_in n line a.stack o _ (λ array k stack. going o _)))
row_grows code l o m a below line i.Fetch = grows_popping Machine Value plain a.stack o _ (λ v stack. grows_having Machine (Place ℕ ℕ) (place_in v) o _ (λ p _. grows_having Machine Value (value_at o m p) o _ (λ v _. going o _)))
row_grows code l o m a below line i.Put = grows_popping Machine Value plain a.stack o _ (λ v stack. grows_popping Machine Value plain stack o _ (λ p stack. grows_having Machine (Place ℕ ℕ) (variable_in p) o _ (λ p _. storing_grows code line p v o m _ (λ o m. going o _))))
row_grows code l o m a below line (i.Load z c) = cell_grows m a z c o _ (λ j c. grows_having Machine Value (cell m j c) o _ (λ v _. push_grows o m a below v))
row_grows code l o m a below line (i.Store z c) = grows_popping Machine Value plain a.stack o _ (λ v stack. cell_grows m a z c o _ (λ j c. grows_having Machine Frames (cell_set m j c v) o _ (λ m _. going o _)))
row_grows code l o m a below line i.Dup = grows_popping Machine Value plain a.stack o _ (λ v stack. push_grows o m a below v)
row_grows code l o m a below line i.Pop = grows_popping Machine Value plain a.stack o _ (λ v stack. going o _)
row_grows code l o m a below line i.Swap = grows_popping Machine Value plain a.stack o _ (λ y stack. grows_popping Machine Value plain stack o _ (λ x stack. going o _))
row_grows code l o m a below line i.Neg = one_grows o m a below line _
row_grows code l o m a below line i.Add = two_grows o m a below line _
row_grows code l o m a below line i.Sub = two_grows o m a below line _
row_grows code l o m a below line i.Mul = two_grows o m a below line _
row_grows code l o m a below line i.Div = two_grows o m a below line _
row_grows code l o m a below line i.Pow = two_grows o m a below line _
row_grows code l o m a below line (i.Rel z) = grows_having Machine Comparison (comparison_of z) o _ (λ r _. two_grows o m a below line _)
row_grows code l o m a below line (i.RelT z) = grows_having Machine Comparison (comparison_of z) o _ (λ r _. two_grows o m a below line _)
row_grows code l o m a below line i.Same = two_grows o m a below line _
row_grows code l o m a below line i.SameT = two_grows o m a below line _
row_grows code l o m a below line i.Not = one_grows o m a below line _
row_grows code l o m a below line i.And = two_grows o m a below line _
row_grows code l o m a below line i.Or = two_grows o m a below line _
row_grows code l o m a below line i.Imp = two_grows o m a below line _
row_grows code l o m a below line i.Eqv = two_grows o m a below line _
row_grows code l o m a below line (i.Is z) = grows_having Machine ℕ (class_named code z) o _ (λ c _. grows_plain Machine Value plain a.stack o _ (λ v stack. grows_having Machine Bool (is_of code m c v) o _ (λ b _. going o _)))
row_grows code l o m a below line (i.In z) = grows_having Machine ℕ (class_named code z) o _ (λ c _. grows_plain Machine Value plain a.stack o _ (λ v stack. grows_having Machine Bool (is_in code m c v) o _ (λ b _. going o _)))
row_grows code l o m a below line (i.Qua z) = grows_having Machine ℕ (class_named code z) o _ (λ c _. grows_reference Machine Value plain line a.stack o _ (λ v stack. qualifying_grows line (is_in code m c v) o _ (going o _)))
row_grows code l o m a below line (i.Jump q) = jump_grows code a.pc q o _ (λ q. going o _)
row_grows code l o m a below line (i.JumpF q) = grows_truth Machine Value plain a.stack o _ (λ b stack. grows_choosing Machine b o _ _ (going o _) (jump_grows code a.pc q o _ (λ q. going o _)))
row_grows code l o m a below line i.Tick = grows_ticking Machine l o _ (λ p. going p _)
row_grows code l o m a below line i.StepTest = grows_step Machine Value plain line a.stack o _ (λ b stack. going o _)
row_grows code l o m a below line (i.Enter z) = block_grows code _ z o _ (λ k b x. grows_entering Machine l line (words_of_block b) o _ (λ p. going p _))
row_grows code l o m a below line i.Leave = own_grows code _ m a o _ (λ b. leaving_grows b below None a.home o m)
row_grows code l o m a below line (i.Call k n) = call_grows code l o m a below line k n
row_grows code l o m a below line i.Return = own_grows code _ m a o _ (λ b. result_grows b m a.home o _ (λ v. leaving_grows b below v a.home o m))
row_grows code l o m a below line (i.ProcVal z) = index_grows z o _ (λ k. grows_having Machine BlockOf (procedure_of code k) o _ (λ _ _. grows_popping Machine Value plain a.stack o _ (λ v stack. grows_having Machine ℕ (frame_in v) o _ (λ j _. going o _))))
row_grows code l o m a below line (i.Virt z) = index_grows z o _ (λ v. grows_object Machine Value plain line a.stack o _ (λ j stack. matching_grows line _ o _ (λ k. going o _)))
row_grows code l o m a below line (i.Check z) = checking_grows code o m a below line z
row_grows code l o m a below line (i.Param n t p) = parameter_grows code o m a below n t p
row_grows code l o m a below line (i.CallV n) = value_grows code l o m a below line n
row_grows code l o m a below line (i.Thunk z) = thunk_goes code o m a below z
row_grows code l o m a below line (i.NameVal z c class) = qualified_grows code class o _ (λ q. cell_grows m a z c o _ (λ j c. using_grows code l o m a below j c))
row_grows code l o m a below line (i.NameAddr z c value) = grows_having Machine Bool (truth_of value) o _ (λ value_too _. cell_grows m a z c o _ (λ j c. using_grows code l o m a below j c))
row_grows code l o m a below line i.EndThunk = grows_having Machine ℕ a.thunk o _ (λ t _. grows_popping Machine Value plain a.stack o _ (λ v stack. thunk_ends code l o m v below))
row_grows code l o m a below line (i.New class n) = new_grows code l o m a below line class n
row_grows code l o m a below line (i.Pref k n) = prefixed_grows code l o m a below line k n
row_grows code l o m a below line (i.NextDecl z) = index_grows z o _ (λ n. declared_grows code o m a below n)
row_grows code l o m a below line (i.Inner z) = index_grows z o _ (λ n. inner_grows code o m a below n)
row_grows code l o m a below line (i.EndLevel z) = index_grows z o _ (λ n. level_ends code l o m a below n)
row_grows code l o m a below line (i.Array z n) = grows_having Machine Kind (element_kind z) o _ (λ kind _. index_grows n o _ (λ n. grows_when Machine (nat_lt 0 n) o _ (grows_integers Machine Value plain (2 * n) [] a.stack o _ (λ bounds stack. grows_making Machine l line a.home kind _ o _ (λ array p. pushed_grows a.room stack _ p _ (λ s. going p _))))))
row_grows code l o m a below line i.CopyArr = grows_popping Machine Value plain a.stack o _ (λ v stack. grows_having Machine ℕ (array_in v) o _ (λ array _. grows_copying Machine l line a.home array o _ (λ copy p. going p _)))
row_grows code l o m a below line i.Keep = grows_popping Machine Value plain a.stack o _ (λ v stack. grows_having Machine ℕ (array_in v) o _ (λ array _. grows_keeping Machine array o _ (λ p. going p _)))
row_grows code l o m a below line i.AssignT = grows_assigning Machine Value plain line a.stack o _ (λ p stack. going p _)
row_grows code l o m a below line (i.Std z) = grows_having Machine Standard (standard_of z) o _ (λ name _. standard_grows code l o m a below line name)
row_grows code l o m a below line (i.Act z) = grows_having Machine (Bool × Timing) (activation_of z) o _ (λ f _. grows_activation Machine Value plain link_in (in_process code m) f.0 f.1 a.stack o _ (decided_grows o m a below line))
row_grows code l o m a below line i.Detach = grows_plain Machine Value plain a.stack o _ (λ v stack. transfer_grows Detaching line o _ m v)
row_grows code l o m a below line i.Attach = grows_plain Machine Value plain a.stack o _ (λ v stack. transfer_grows Calling line o _ m v)
row_grows code l o m a below line i.Resume = grows_plain Machine Value plain a.stack o _ (λ v stack. transfer_grows Resuming line o _ m v)
row_grows code l o m a below line i.NotNone = grows_reference Machine Value plain line a.stack o _ (λ v stack. going o _)

-- ---- runs

program_same : (code : CodeOf) (b : BlockOf) (kind : BlockKind) (o : World) → (program_begun code (record b { kind = kind }) o).store.written ≡ o.store.written
program_same code b block.SubBlock o = refl
program_same code b block.Procedure o = refl
program_same code b block.Object o = refl
program_same code b block.Prefixed o = begun_same (is_simulation_class code b.class) 0 o

step_grows : (code : CodeOf) (l : Limits) (o : World) (m : Frames) (chain : List Activation) → Here o (on_chain code l o m chain)
step_grows code l o m [] =
    grows_when Machine _ o _ (grows_having Machine BlockOf _ o _ (λ b _. grows_having Machine Stage (first_stage b.kind) o _ (λ s _. grows_having Machine Lined _ o _ (λ x _. grows_entering Machine l x.line.0 (words_of_block b) o _ (λ p.
    record { more = subst (λ w. Grown p.store.written w) (sym (program_same code b b.kind p)) (grown_same p.store.written) })))))
step_grows code l o m (a ∷ below) = grows_having Machine Lined (slice_get code.instrs a.pc) o _ (λ x _. row_grows code l o m a below x.line.0 x.instr)

pub output_grows : OutputGrows
output_grows code l input n k =
    let r : Run Machine = mrun code l input n in
    subst (λ q. Grown (written r) (written q)) (sym (after_more Machine (mstep code l) n k (opening code l input)))
    (after_grows Machine (mstep code l) (λ o s. step_grows code l o s.memory s.chain) k r)
