-- Values stay related in later stores, and so do an instance and its frame.
use Rattle.std.proofs.Common.{ℕ, Bool, true, false, List, [], ◌∷◌, Option, Some, None}
use Rattle.sim_scope.specs.Source.{Source}
use Rattle.sim_tree.specs.Syntax.{Expression}
use Rattle.sim_code.specs.Code.{CodeOf}
use Rattle.sim_code.specs.Instances.{Instance}
use Rattle.sim_code.specs.Machine.{Cells, Value}
use Rattle.sim_code.proofs.Lifts.{Both, EachAt}
use Rattle.sim_meaning.specs.Pending.{Held, Instances, Key, Val}
use Rattle.sim_relate.proofs.Known.{Later, SlotAt, ThunkIs, ValAt, actual_at, array_at, element_at, image_at, is_fixed, link_at, plain_at, procedure_at}
use Rattle.sim_relate.proofs.Relation.{InstanceAt}

module _ (s : Source) (code : CodeOf) (m m' : Instances) (e : Later s m m') where
  thunk_later : (home : ℕ) (as_procedure : Bool) (x : Expression) (number : ℕ) → ThunkIs s code m home as_procedure x number → ThunkIs s code m' home as_procedure x number
  thunk_later home as_procedure x number a = record {
    text = a.text;
    block = a.block;
    room = a.room;
    used = a.used;
    entry = a.entry;
    done = a.done;
    last = a.last;
    stands = e.stands home a.text a.stands;
    found = a.found;
    there = a.there;
    within = a.within;
    gives = a.gives;
    end = a.end;
  }

  pub value_later : (v : Val) (x : Value) → ValAt s code m v x → ValAt s code m' v x
  value_later _ _ plain_at = plain_at
  value_later _ _ link_at = link_at
  value_later _ _ array_at = array_at
  value_later _ _ element_at = element_at
  value_later _ _ image_at = image_at
  value_later _ _ (procedure_at {k} {j} h) = procedure_at (record { around = h.around; result = h.result; heading = h.heading; body = h.body; is = h.is; stands_in = h.stands_in; stands = e.stands j h.around h.stands })
  value_later _ _ (actual_at {home} {number} {as_procedure} {e = x} h) = actual_at (thunk_later home as_procedure x number h)

  both_later : (v : Option Val) (c : Option Value) → Both (ValAt s code m) v c → Both (ValAt s code m') v c
  both_later None None h = h
  both_later None (Some x) h = absurd h
  both_later (Some v) None h = absurd h
  both_later (Some v) (Some x) h = value_later v x h

  pub slot_later : (fixed : Bool) (key : Key) (v : Option Val) (c : Option Value) → SlotAt s code m fixed key v c → SlotAt s code m' fixed key v c
  slot_later true key v c h = h
  slot_later false key v c h = both_later v c h

  pub values_later : (vs : List Val) (xs : List Value) → EachAt (ValAt s code m) vs xs → EachAt (ValAt s code m') vs xs
  values_later [] [] h = h
  values_later [] (x ∷ xs) h = absurd h
  values_later (v ∷ vs) [] h = absurd h
  values_later (v ∷ vs) (x ∷ xs) h = (value_later v x h.0, values_later vs xs h.1)

  pub instance_later : (x : Instance (List Held)) (y : Instance Cells) → InstanceAt s code m x y → InstanceAt s code m' x y
  instance_later x y a = record {
    number = a.number;
    level = a.level;
    encloser = a.encloser;
    passing = a.passing;
    passes_so = a.passes_so;
    kept = a.kept;
    given_back = a.given_back;
    own = a.own;
    solid = a.solid;
    laid = a.laid;
    cells = λ t key levels has. slot_later (is_fixed s key) key _ _ (a.cells t key levels has);
    there = a.there;
    size = a.size;
  }

  pub pair_later : (x : Option (Instance (List Held))) (y : Option (Instance Cells)) → Both (InstanceAt s code m) x y → Both (InstanceAt s code m') x y
  pair_later None None h = h
  pair_later None (Some y) h = absurd h
  pair_later (Some x) None h = absurd h
  pair_later (Some x) (Some y) h = instance_later x y h
