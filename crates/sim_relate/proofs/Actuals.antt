-- What the entry of a procedure makes of its actual parameters and of what is below on the chain.
use Rattle.std.proofs.Common.{◌≡◌, ◌+◌, ℕ, zero, suc, Bool, true, false, List, [], ◌∷◌, length, map, Option, Some, None, refl, ap, ◌∙◌, arith}
use Rattle.std.specs.List.{list_any}
use Rattle.std.specs.Prelude.{◌&&◌, ◌||◌, not, if◌then◌else◌}
use Rattle.sim_scope.specs.declared.types.Formal.{Formal}
use Rattle.sim_scope.specs.declared.types.FormalKind.{FormalKind}
use Rattle.sim_scope.specs.declared.types.FormalKind.TheVariants as shape
use Rattle.sim_scope.specs.declared.types.Mode.{Mode}
use Rattle.sim_scope.specs.declared.types.Mode.TheVariants as mode
use Rattle.sim_scope.specs.Source.{Source}
use Rattle.sim_tree.specs.declared.stmt.TypeName.{TypeName}
use Rattle.sim_code.specs.declared.code.BlockKind.{BlockKind}
use Rattle.sim_code.specs.declared.code.CodeType.{CodeType}
use Rattle.sim_code.specs.Code.{BlockOf, CodeOf}
use Rattle.sim_code.specs.Events.{pop_many}
use Rattle.sim_code.specs.Instances.{kept_on}
use Rattle.sim_code.specs.Machine.{Frames, Value, frames_kept, is_nothing}
use Rattle.sim_code.specs.Machine as machine
use Rattle.sim_code.specs.Outcome.{Run, World}
use Rattle.sim_code.proofs.Lifts.{EachAt}
use Rattle.sim_code.proofs.Simulation.{Alike}
use Rattle.sim_meaning.specs.Entries.{arrays_among, arrays_by_value, formals_of, instances_kept, is_array_by_value, is_held, with_array_of}
use Rattle.sim_meaning.specs.Pending.{Activation, Instances, Val}
use Rattle.sim_meaning.specs.Pending as meaning
use Rattle.sim_meaning.specs.Texts.{is_class_free, text}
use Rattle.codegen.specs.Compiled.{RecordOf, code_formal, parameters_of, type_of_name}
use Rattle.sim_relate.proofs.Ends.{is_typed}
use Rattle.sim_relate.proofs.Heads.{kept_standings}
use Rattle.sim_relate.proofs.Known.{actual_at, Any, Every, Kind, StackAt, ValAt, anys, array_at, element_at, image_at, link_at, more_at, plain_at, procedure_at}
use Rattle.sim_relate.proofs.Relation.{Changed, StoreAt}
use Rattle.sim_relate.proofs.Slots.{results}
use Rattle.sim_relate.proofs.Stores.{SameOwners, keeps_kept, kept_long, later_kept, store_kept, unchanged}

-- ---- formal parameters, as the code says them

held_by : (s : Source) (code : CodeOf) (m : Mode) (k : FormalKind) (f : Formal) → f.mode ≡ m → f.kind ≡ k → machine.is_held (code_formal s code f) ≡ is_held f
held_by s code mode.ByName shape.Simple f em ek = rw em
held_by s code mode.ByName shape.Array f em ek = rw em
held_by s code mode.ByName shape.Procedure f em ek = rw em
held_by s code mode.ByValue shape.Simple f em ek = rw (em, ek)
held_by s code mode.ByValue shape.Array f em ek = rw (em, ek)
held_by s code mode.ByValue shape.Procedure f em ek = rw (em, ek)
held_by s code mode.ByReference shape.Simple f em ek = rw (em, ek)
held_by s code mode.ByReference shape.Array f em ek = rw (em, ek)
held_by s code mode.ByReference shape.Procedure f em ek = rw (em, ek)

any_held : (s : Source) (code : CodeOf) (fs : List Formal) → list_any machine.is_held (map (code_formal s code) fs) ≡ list_any is_held fs
any_held s code [] = refl
any_held s code (f ∷ fs) = ap (λ b. b || list_any machine.is_held (map (code_formal s code) fs)) (held_by s code f.mode f.kind f refl refl) ∙ ap (λ b. is_held f || b) (any_held s code fs)

array_by : (s : Source) (code : CodeOf) (m : Mode) (k : FormalKind) (f : Formal) → f.mode ≡ m → f.kind ≡ k → machine.is_array_by_value (code_formal s code f) ≡ is_array_by_value f.mode f.kind
array_by s code mode.ByName shape.Simple f em ek = rw em
array_by s code mode.ByName shape.Array f em ek = rw em
array_by s code mode.ByName shape.Procedure f em ek = rw em
array_by s code mode.ByValue shape.Simple f em ek = rw (em, ek)
array_by s code mode.ByValue shape.Array f em ek = rw (em, ek)
array_by s code mode.ByValue shape.Procedure f em ek = rw (em, ek)
array_by s code mode.ByReference shape.Simple f em ek = rw em
array_by s code mode.ByReference shape.Array f em ek = rw em
array_by s code mode.ByReference shape.Procedure f em ek = rw em

-- ---- actual parameters

array_same : {s : Source} {code : CodeOf} {m : Instances} (v : Val) (x : Value) (rest : List ℕ) → ValAt s code m v x → machine.with_array_of x rest ≡ with_array_of v rest
array_same _ _ rest plain_at = refl
array_same _ _ rest link_at = refl
array_same _ _ rest array_at = refl
array_same _ _ rest element_at = refl
array_same _ _ rest image_at = refl
array_same _ _ rest (actual_at h) = refl
array_same _ _ rest (procedure_at h) = refl

pub arrays_same : (s : Source) (code : CodeOf) (m : Instances) (fs : List Formal) (vs : List Val) (xs : List Value) → EachAt (ValAt s code m) vs xs → machine.arrays_by_value (map (code_formal s code) fs) xs ≡ arrays_by_value fs vs
arrays_same s code m [] vs xs e = refl
arrays_same s code m (f ∷ fs) [] [] e = refl
arrays_same s code m (f ∷ fs) [] (x ∷ xs) e = absurd e
arrays_same s code m (f ∷ fs) (v ∷ vs) [] e = absurd e
arrays_same s code m (f ∷ fs) (v ∷ vs) (x ∷ xs) e =
    let more = arrays_same s code m fs vs xs e.1 in
    ap (λ b. if b then machine.with_array_of x (machine.arrays_by_value (map (code_formal s code) fs) xs) else machine.arrays_by_value (map (code_formal s code) fs) xs) (array_by s code f.mode f.kind f refl refl) ∙
    ap (λ z. if is_array_by_value f.mode f.kind then machine.with_array_of x z else z) more ∙
    ap (λ z. if is_array_by_value f.mode f.kind then z else arrays_by_value fs vs) (array_same v x (arrays_by_value fs vs) e.0)

pub among_same : (s : Source) (code : CodeOf) (m : Instances) (vs : List Val) (xs : List Value) → EachAt (ValAt s code m) vs xs → machine.arrays_among xs ≡ arrays_among vs
among_same s code m [] [] e = refl
among_same s code m [] (x ∷ xs) e = absurd e
among_same s code m (v ∷ vs) [] e = absurd e
among_same s code m (v ∷ vs) (x ∷ xs) e = ap (machine.with_array_of x) (among_same s code m vs xs e.1) ∙ array_same v x (arrays_among vs) e.0

pub each_length : (s : Source) (code : CodeOf) (m : Instances) (vs : List Val) (xs : List Value) → EachAt (ValAt s code m) vs xs → length xs ≡ length vs
each_length s code m [] [] e = refl
each_length s code m [] (x ∷ xs) e = absurd e
each_length s code m (v ∷ vs) [] e = absurd e
each_length s code m (v ∷ vs) (x ∷ xs) e = ap suc (each_length s code m vs xs e.1)

-- as many values of either side, and how many they are
pub counted_many : (S M : Type 0) (R : S → M → Type 0) (W : Kind → Val → Value → Type 0) (m total : ℕ) (left : List Kind) (got : List Val) (got' : List Value) (vals : List Val) (stack : List Value) (o : World) (r : List Val → List Val → Run S) (q : List Value → List Value → Run M) → StackAt W (anys m left) vals stack → EachAt (W Any) got got' → m + length got ≡ total
    → ((values : List Val) (values' : List Value) (vals' : List Val) (stack' : List Value) → EachAt (W Any) values values' → length values ≡ total → StackAt W left vals' stack' → Alike R (r values vals') (q values' stack')) → Alike R (pop_many m got vals o r) (pop_many m got' stack o q)
unfolding pop_many
counted_many S M R W zero total left got got' vals stack o r q h g n a = a got got' vals stack g (omega (arith, n)) h
counted_many S M R W (suc m) total left got got' _ _ o r q (more_at {v = v} {vals = vals} {x = x} {stack = stack} w h) g n a = counted_many S M R W m total left (v ∷ got) (x ∷ got') vals stack o r q h (w, g) (omega (arith, n)) a

-- the cells of formals stand behind that of the result
pub behind_result : (result : Option TypeName) → (if is_nothing (type_of_name result) then 0 else 1) ≡ results result
behind_result None = refl
behind_result (Some type) = ap (λ b. if b then 0 else 1) (is_typed type)

-- ---- instances that are kept at the entry

module _ (s : Source) (code : CodeOf) where
  kept_alike : (m : Instances) (fs : Frames) → StoreAt s code m fs → (chain : List Activation) (below : List machine.Activation) → SameOwners s code chain below → (b b' : Bool) → b' ≡ b → Changed s code Every m fs (if b then kept_on meaning.owner chain m else m) (if b' then kept_on machine.owner below fs else fs)
  kept_alike m fs a chain below owners true true e = record {
    store = store_kept s code chain below owners m fs a;
    later = later_kept s m chain;
    keeps = keeps_kept s code m fs below;
    standings = kept_standings meaning.owner chain m;
    frame_standings = kept_standings machine.owner below fs;
    as_many = kept_long s m chain;
  }
  kept_alike m fs a chain below owners true false e = absurd (cc)
  kept_alike m fs a chain below owners false true e = absurd (cc)
  kept_alike m fs a chain below owners false false e = unchanged s code m fs a

  pub both_kept : (m : Instances) (fs : Frames) → StoreAt s code m fs → (chain : List Activation) (below : List machine.Activation) → SameOwners s code chain below → (k : ℕ) (kind : BlockKind) (result : CodeType) (b : BlockOf) → RecordOf s code k kind result b → parameters_of s k (text s k) ≡ formals_of s k → Changed s code Every m fs (instances_kept s k chain m) (frames_kept b below fs)
  both_kept m fs a chain below owners k kind result b heads own =
      kept_alike m fs a chain below owners (not (is_class_free s k) && list_any is_held (formals_of s k)) (not b.class_free && list_any machine.is_held b.formals)
      (ap (λ z. not z && list_any machine.is_held b.formals) heads.class_free ∙ ap (λ z. not (is_class_free s k) && list_any machine.is_held z) (heads.formals ∙ ap (map (code_formal s code)) own) ∙ ap (λ z. not (is_class_free s k) && z) (any_held s code (formals_of s k)))
