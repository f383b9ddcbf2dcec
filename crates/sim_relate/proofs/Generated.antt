-- The entry of an object.
use Rattle.std.proofs.Common.{◌≡◌, ℕ, true, List, [], ◌∷◌, ◌++◌, length, Some, refl, sym, ap, ◌∙◌, subst, arith}
use Rattle.std.specs.Prelude.{◌==◌, nat_lt, pos}
use Rattle.sim_base.specs.declared.limits.Limits.{Limits}
use Rattle.sim_chains.specs.Components.{AttachedObject}
use Rattle.sim_scope.specs.Source.{Source}
use Rattle.sim_values.specs.Plain.{Object}
use Rattle.sim_code.specs.declared.code.BlockKind.TheVariants as block_kind
use Rattle.sim_code.specs.declared.code.CodeType.TheVariants as type
use Rattle.sim_code.specs.declared.instr.Instr.TheVariants as i
use Rattle.sim_code.specs.Arrays.{handed_over}
use Rattle.sim_code.specs.Classes.{class_named, class_numbered, if_there}
use Rattle.sim_code.specs.Code.{BlockOf, ClassOf, CodeOf}
use Rattle.sim_code.specs.Events.{entering, having, no_rule, when}
use Rattle.sim_code.specs.Instances.{is_live}
use Rattle.sim_code.specs.Levels.{is_process_class, levelled, object_made as object_made_of_code, objects_of, supplied, words_of_object}
use Rattle.sim_code.specs.Machine.{Cells, Frames, Machine, Value, in_object, link_in, pushing, waiting}
use Rattle.sim_code.specs.Machine as machine
use Rattle.sim_code.specs.Outcome.{Run, World}
use Rattle.sim_code.specs.Rows.{on_top}
use Rattle.sim_code.proofs.Lifts.{EachAt, alike_found}
use Rattle.sim_code.proofs.Simulation.{Alike}
use Rattle.sim_meaning.specs.Levels.{is_process_text, levels, levels_of}
use Rattle.sim_meaning.specs.Meaning.{do_op}
use Rattle.sim_meaning.specs.Objects.{cells_of_levels, object_entered, object_made, origins}
use Rattle.sim_meaning.specs.Pending.{Activation, Configuration, EndObject, Instances, Item, NewOp, Op, Val, instance_in}
use Rattle.sim_meaning.specs.Pending as meaning
use Rattle.codegen_expr.specs.Sites.{block_number, class_number}
use Rattle.codegen.specs.Compiled.{Compiled, RecordOf}
use Rattle.sim_relate.proofs.Actuals.{counted_many}
use Rattle.sim_relate.proofs.ClassLevels.{class_levels, number_is}
use Rattle.sim_relate.proofs.ClassTexts.{ClassHas, class_has}
use Rattle.sim_relate.proofs.Ends.{chosen}
use Rattle.sim_relate.proofs.Entries.{call_row, found_left, same_hand, waits, when_equal}
use Rattle.sim_relate.proofs.Hands.{hand_popping, stack_length}
use Rattle.sim_relate.proofs.FirstCells.{first_cells_of, made_cells}
use Rattle.sim_relate.proofs.Here.{Here, act, at_row, kinds_as}
use Rattle.sim_relate.proofs.Known.{Any, HandAt, Kind, LinkTo, Runs, StackAt, Stands, ValAt, more_at, plain_at, site_at, Settled}
use Rattle.sim_relate.proofs.LevelCells.{CellsOf}
use Rattle.sim_relate.proofs.LevelEntries.{entry_alike, levels_laid, not_first}
use Rattle.sim_relate.proofs.OfClass.{class_owns}
use Rattle.sim_relate.proofs.Linkages.{object_same, process_record}
use Rattle.sim_relate.proofs.Reach.{equal_numbers}
use Rattle.sim_relate.proofs.Operations.{NewOpIs}
use Rattle.sim_relate.proofs.Relation.{ChainAt, OpAt, StateAt, WorkAt}
use Rattle.sim_relate.proofs.Stores.{is_live_same}
use Rattle.sim_relate.proofs.Waiting.{NoValue}

class_named_is : (code : CodeOf) (c : ℕ) (x : ClassOf) → class_numbered code c ≡ Some x → class_named code (pos c) ≡ Some c
class_named_is code c x e = ap (if_there c) e

module _ (s : Source) (code : CodeOf) (compiled : Compiled s code) (l : Limits) (o : World) (m : Instances) (inst : ℕ) (w : List Item) (vals : List Val) (rest : List Activation) (fs : Frames) (t : ℕ) (b : Runs) (pc : ℕ) (stack : List Value) (below : List machine.Activation) (ks : List Kind) (here : Here s code m fs inst rest t b ks vals stack) (u q : ℕ) (ks' : List Kind) (low : Settled s code t b u) (work : WorkAt s code m fs (λ v. ChainAt s code m fs rest v below) inst t b u w q ks') where
  abbrev Related : Configuration → Machine → Type 0
  Related = StateAt s code

  abbrev top : machine.Activation
  top = act inst pc stack b

  abbrev Follows : Op → Type 0
  Follows op = OpAt s code m fs inst (site_at t b u) op pc q ks ks' → Alike Related (do_op s l o m inst w vals rest op) (on_top code l o fs top below)

  module _ (g n line : ℕ) (x : ClassHas s code g) (object : x.kind ≡ block_kind.Object) (a : NewOpIs s code (site_at t b u) g n line pc q ks ks') (values : List Val) (values' : List Value) (each : EachAt (ValAt s code m) values values') (j : ℕ) (link : Stands s m j a.text) (vals2 : List Val) (stack2 : List Value) (left_hand : StackAt (HandAt s code m) a.left vals2 stack2) where
    abbrev reference : Val
    reference = meaning.Of (Object (length m.instances))

    abbrev chain : List Activation
    chain = record { instance = inst; work = w; values = reference ∷ vals2 } ∷ rest

    abbrev under : List machine.Activation
    under = waiting top (machine.Of (Object (length fs.instances)) ∷ stack2) ∷ below

    under_there : ChainAt s code m fs chain NoValue under
    under_there =
        waits s code compiled l o m inst w vals rest fs t b pc stack below ks here u q ks' low work NoValue (Any ∷ a.left) (reference ∷ vals2) (machine.Of (Object (length fs.instances)) ∷ stack2)
        (more_at (subst (λ z. ValAt s code m reference (machine.Of (Object z))) (here.store).as_many plain_at) left_hand) (λ no. absurd (cc)) tt a.out (a.is).on

    -- what the machine does with the block of the class
    abbrev NewGoes : ℕ → BlockOf → (start : ℕ) → Run Machine
    NewGoes c b' start =
        having (supplied code b'.class b' values') o (λ cells.
        pushing b.room stack2 (machine.Of (Object (length fs.instances))) o (λ stack.
        entering l line (words_of_object code b') o (λ p.
        in_object (object_made_of_code code b'.class j (length fs.instances) (handed_over (length fs.instances) (machine.arrays_among values') p)) fs c b' start j cells (waiting top stack ∷ below))))

    abbrev OfClass : BlockOf → (start : ℕ) → Run Machine
    OfClass b' start = when (b'.class == x.block.class) o (NewGoes (block_number s g) b' start)

    pushes_alike : (y : Run Configuration) (v : Value) (go : List Value → Run Machine) → Alike Related y (go (v ∷ stack2)) → Alike Related y (pushing b.room stack2 v o go)
    unfolding pushing when
    pushes_alike y v go h =
        let many = stack_length a.left vals2 stack2 left_hand in
        let fits = a.fits in
        let roomy = here.roomy in
        let less : nat_lt (length stack2) b.room ≡ true = grind (arith, many, fits, roomy) in
        chosen (λ z. Alike Related y z) (nat_lt (length stack2) b.room) _ (no_rule o) less h

    abbrev Filled : (start : ℕ) → Cells → Run Machine
    Filled start cells =
        entering l line (words_of_object code x.block) o (λ p.
        in_object (object_made_of_code code x.block.class j (length fs.instances) (handed_over (length fs.instances) (machine.arrays_among values') p)) fs (block_number s g) x.block start j cells under)

    follows : (start : ℕ) (cells : Cells) (y : Run Configuration) → supplied code x.block.class x.block values' ≡ Some cells → Alike Related y (Filled start cells) → Alike Related y (OfClass x.block start)
    unfolding when
    follows start cells y is h =
        chosen (λ z. Alike Related y z) (x.block.class == x.block.class) _ (no_rule o) (equal_numbers x.block.class x.block.class refl)
        (alike_found Configuration Machine Related Cells (supplied code x.block.class x.block values') cells o y _ is
        (pushes_alike y _ _ h))

    object_heads : RecordOf s code g block_kind.Object type.Nothing x.block
    object_heads = subst (λ z. RecordOf s code g z type.Nothing x.block) object x.has.heads

    -- the class that the instruction names
    objects_alike : (y : Run Configuration) → Alike Related y (levelled code x.kind (block_number s g) o OfClass) → Alike Related y (objects_of code (pos (class_number s code g)) o NewGoes)
    unfolding objects_of
    objects_alike y h =
        subst (λ z. Alike Related y (objects_of code (pos z) o NewGoes)) (sym (number_is s code compiled g x))
        (alike_found Configuration Machine Related ℕ (class_named code (pos x.block.class)) x.block.class o y _ (class_named_is code x.block.class x.has.class x.has.is.numbered)
        (alike_found Configuration Machine Related ClassOf (class_numbered code x.block.class) x.has.class o y _ x.has.is.numbered
        (subst (λ z. Alike Related y (levelled code block_kind.Object z o (λ b' start. when (b'.class == x.block.class) o (NewGoes z b' start)))) (sym x.has.is.of_block)
        (subst (λ z. Alike Related y (levelled code z (block_number s g) o OfClass)) object h))))

    -- it becomes the same linkage or process on both sides, if it is one
    made_same : (p : World) → object_made_of_code code x.block.class j (length fs.instances) p ≡ object_made s g j (length m.instances) p
    made_same p = ap (λ n. object_made_of_code code x.block.class j n p) (sym (here.store).as_many) ∙ object_same s code compiled g x j (length m.instances) p

    new_alike : Alike Related (having (levels s g) o (λ xs. object_entered s l o m inst w vals2 rest g line values j xs)) (objects_of code (pos (class_number s code g)) o NewGoes)
    new_alike =
        objects_alike _
        (entry_alike s code compiled l o m fs here.store here.parked g line x values values' each j a.text a.stands_in link (class_owns s compiled.agrees g a.class) (λ xs. cells_of_levels s xs ++ origins xs)
        (λ xs made. subst (λ z. CellsOf s code m g (z ++ origins xs) (machine.first_cells x.block)) (sym (made_cells s (levels_of s g) xs made)) (first_cells_of s code m compiled (levels_laid s code compiled) g x xs made)) (is_process_text s g) (is_process_class code x.block.class) (process_record s code compiled g x) (object_made s g j (length m.instances)) (object_made_of_code code x.block.class j (length fs.instances)) made_same EndObject AttachedObject AttachedObject refl chain under (λ m' fs' number is. record { own = g; is = is; class = a.class }) under_there
        (λ m' fs' there block limit temps t' p last at. record {
          levels = x.levels;
          not_first = not_first s code compiled g a.text x.levels a.stands_in;
          was = refl;
          block = x.block;
          found = x.found;
          ends = record { base = (refl, refl); last = last; at = at; heads = object_heads; none = refl; below = there };
        }) OfClass follows)

  made_at : (k n line : ℕ) (a : NewOpIs s code (site_at t b u) k n line pc q ks ks') (values : List Val) (values' : List Value) → EachAt (ValAt s code m) values values' → (v : Val) (x : Value) (vals2 : List Val) (stack2 : List Value) → HandAt s code m (LinkTo a.text) v x → StackAt (HandAt s code m) a.left vals2 stack2
      → Alike Related (having (instance_in v) o (λ j. when (is_live m j) o (having (levels s k) o (λ xs. object_entered s l o m inst w vals2 rest k line values j xs))))
      (having (link_in x) o (λ parent. when (is_live fs parent) o (objects_of code (pos (class_number s code k)) o (λ c b' start.
      having (supplied code b'.class b' values') o (λ cells.
      pushing b.room stack2 (machine.Of (Object (length fs.instances))) o (λ stack.
      entering l line (words_of_object code b') o (λ p.
      in_object (object_made_of_code code b'.class parent (length fs.instances) (handed_over (length fs.instances) (machine.arrays_among values') p)) fs c b' start parent cells (waiting top stack ∷ below))))))))
  made_at k n line a values values' each v x vals2 stack2 link h =
      let j = link.instance in
      found_left s code compiled l o m inst w vals rest fs t b pc stack below ks here u q ks' low work ℕ (instance_in v) j _ _ (ap instance_in link.is_val)
      (alike_found Configuration Machine Related ℕ (link_in x) j o _ _ (ap link_in link.is_value)
      (when_equal s code compiled l o (is_live m j) (is_live fs j) _ _ (sym (is_live_same s code m fs here.store j))
      (let x = class_has s code compiled k (class_levels s code compiled k a.class) in new_alike k n line x (x.of_class a.class) a values values' each j link.stands vals2 stack2 h)))

  pub new_op : (k n line : ℕ) → Follows (NewOp k n line)
  new_op k n line a =
      at_row s code l o fs top below _ (i.New (pos (class_number s code k)) (pos n)) line q a.is
      (call_row s code compiled l o m inst w vals rest fs t b pc stack below ks here u q ks' low work n _ _
      (counted_many Configuration Machine Related (HandAt s code m) n n (LinkTo a.text ∷ a.left) [] [] vals stack o _ _ (kinds_as s code a.«in» here.values) tt (omega arith) (λ values values' vals1 stack1 each counted h1.
      hand_popping Configuration Machine Related Val Value (HandAt s code m) meaning.plain machine.plain (same_hand s code compiled l o m inst w vals rest fs t b pc stack below ks here u q ks' low work) (LinkTo a.text) a.left vals1 stack1 o _ _ h1 (λ v x vals2 stack2 ev ex link h2.
      made_at k n line a values values' each v x vals2 stack2 link h2))))
