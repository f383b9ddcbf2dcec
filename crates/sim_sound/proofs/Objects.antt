-- Objects are generated and prefixed blocks are entered, and what is pending in them: declarations, levels and `inner`.
use Rattle.std.proofs.Common.{Bool, List, None, Option, Some, [], ap, arith, false, inl, length, refl, subst, suc, sym, true, ℕ, ◌++◌, ◌∙◌, ◌∷◌, ◌≡◌, ◌≤◌, map}
use Rattle.sim_base.specs.declared.limits.Limits.{Limits}
use Rattle.sim_base.specs.declared.numbering.DeclNo.{DeclNo}
use Rattle.sim_chains.specs.Components.{AttachedObject, NoObject, Standing}
use Rattle.sim_scope.specs.declared.types.Formal.{Formal}
use Rattle.sim_scope.specs.declared.types.FormalKind.{FormalKind}
use Rattle.sim_scope.specs.declared.types.FormalKind.TheVariants as shape
use Rattle.sim_scope.specs.declared.types.Mode.{Mode}
use Rattle.sim_scope.specs.declared.types.Mode.TheVariants as mode
use Rattle.sim_scope.specs.Access.{encloser}
use Rattle.sim_scope.specs.Scopes.{class_formals, entry_of}
use Rattle.sim_scope.specs.Source.{Source}
use Rattle.sim_tree.specs.Syntax.{Declarations}
use Rattle.simset.specs.Instances.{Memberships}
use Rattle.sim_values.specs.Plain.{Object, Integer}
use Rattle.sim_code.specs.Arrays.{handed_over}
use Rattle.sim_code.specs.Events.{entering, having, pop_many, popping, when}
use Rattle.sim_code.specs.Instances.{entered, is_live}
use Rattle.sim_code.specs.Outcome.{Going, Run, Simulation, World}
use Rattle.sim_meaning.specs.Attributes.{is_connection}
use Rattle.sim_meaning.specs.Closing.{class_parameters}
use Rattle.sim_meaning.specs.Entries.{arrays_among, is_array_by_value, new_instance, words_of_cells}
use Rattle.sim_meaning.specs.Levels.{has_levels, is_process_text, is_simulation_text, levels, linkage_of_text, is_class}
use Rattle.sim_meaning.specs.Meaning.{do_op}
use Rattle.sim_meaning.specs.Objects.{arrays_given, attributes_from, block_begun, cells_of_levels, filled_in, generated, inner_done, level_work, levels_work, object_entered, object_made, prefix_done, prefixed_entered, words_of_object, origins}
use Rattle.sim_meaning.specs.Pending.{Activation, Configuration, DeclareOp, EndLevel, EndObject, EndPrefixed, Held, Instances, Item, Level, LevelOp, Of, Val, instance_in, owner, Declared, Key, Origin, before, held, held_set, same_key}
use Rattle.sim_meaning.specs.Texts.{Text, is_class_free, text}
use Rattle.sim_sound.specs.Held.{Among, ArrayOf, ByName, Holds, Refers, Simply, entry_holds, first, later, Procedure}
use Rattle.sim_sound.specs.Typed.{ClassTyped, FormalsAre, Typed, arrays_of_block}
use Rattle.sim_sound.proofs.ArrayWork.{level_arrays}
use Rattle.sim_sound.proofs.Attributes.{Leveled, leveled}
use Rattle.sim_sound.proofs.Cells.{fine_at, site_whole}
use Rattle.sim_sound.proofs.ClassCells.{FilledIn, attributes_distinct, fill, none_waits}
use Rattle.sim_sound.proofs.ClassLevels.{AllLevels, all_levels_of, arrays_of_levels, cells_are, formals_among, level_among, levels_are, number_from, LevelIn, here_level, later_level}
use Rattle.sim_sound.proofs.Entering.{begun_new, below_handed, below_new, chain_first, chain_headed, chain_placed, enters_fine, inside_new, later_new, link_is, lives_is, same_arrays, stands_new, store_handed}
use Rattle.sim_sound.proofs.Evals.{IsFine, Work, goes_on, work_owner}
use Rattle.sim_sound.proofs.FirstCells.{ActualsAre, AllSome, ValsFine, all_taken, taken}
use Rattle.sim_sound.proofs.Handing.{Handed, classes_hand, hand_every, handed_members, handed_same, handed_simulations, marks_of}
use Rattle.sim_sound.proofs.Joining.{begun_members, begun_simulations, block_arrays, block_blocks, block_linked, block_members, block_started, joined_simulations, object_arrays, object_blocks, object_joined, object_linked, object_members}
use Rattle.sim_sound.proofs.Later.{All, Copies, Later, as_it_was, cells_later, hands_later, live_less, seated_later, work_later}
use Rattle.sim_sound.proofs.LevelWork.{cells_wait, keys, level_list, level_numbers, level_works, levels_there, made, works}
use Rattle.sim_sound.proofs.Lifts.{Goes, any_popped, enters, had, ran, whens}
use Rattle.sim_sound.proofs.Lists.{same_some}
use Rattle.sim_sound.proofs.Members.{MembersFine, enrolled_members}
use Rattle.sim_sound.proofs.Simulated.{SimulationsFine}
use Rattle.sim_sound.proofs.Moves.{Begins, knows_near, later_instances, marked, near_then, on_top}
use Rattle.sim_sound.proofs.Prefixes.{class_has, level_words, levels_solid}
use Rattle.sim_sound.proofs.Reach.{attribute_key}
use Rattle.sim_sound.proofs.Running.{Begun, ChainFine, Expected, IsRelease, Operates, Shown, StoreFine, WorkFine, awaited, footing, is_resumed, seat_on}
use Rattle.sim_sound.proofs.Sound.{DeclareFine, LevelsFine, NewOpFine, PrefixedOpFine, class_kinds, holds_of, kept_kinds}
use Rattle.sim_sound.proofs.Values.{AllArrays, CellsFine, Generated, HandsFine, Kinds, Knows, LinkTo, Marks, Seat, Sight, Takes, Waits, Whole, at_seat, no_further, outward, see, in_hand, HasOrigin, KeyAmong, first_key, later_key, key_of}
use Rattle.sim_sound.proofs.Chains.{Elsewhere}
use Rattle.sim_sound.proofs.Changes.{near_same, SetAt, set_at, set_here, set_later}
use Rattle.sim_scope.specs.declared.types.SimType.{SimType}
use Rattle.std.specs.Prelude.{pos, if◌then◌else◌}

-- ---- actual parameters of a class

some_kept : (f : Mode) (g : FormalKind) (b : Bool) (h : Holds) (hs : List (Option Kinds)) → AllSome hs → AllSome (kept_kinds f g (in_hand b (Some h)) ∷ hs)
some_kept mode.ByReference shape.Array true (ArrayOf h) hs a = (tt, a)
some_kept mode.ByReference shape.Array false (ArrayOf h) hs a = (tt, a)
some_kept mode.ByReference shape.Array true (Simply k) hs a = (tt, a)
some_kept mode.ByReference shape.Array false (Simply k) hs a = (tt, a)
some_kept mode.ByReference shape.Array true (Refers c) hs a = (tt, a)
some_kept mode.ByReference shape.Array true (Procedure k) hs a = (tt, a)
some_kept mode.ByReference shape.Array true (ByName k) hs a = (tt, a)
some_kept mode.ByReference shape.Array false (Refers c) hs a = (tt, a)
some_kept mode.ByReference shape.Array false (Procedure k) hs a = (tt, a)
some_kept mode.ByReference shape.Array false (ByName k) hs a = (tt, a)
some_kept mode.ByReference shape.Simple true (ArrayOf h) hs a = (tt, a)
some_kept mode.ByReference shape.Simple true (Simply h) hs a = (tt, a)
some_kept mode.ByReference shape.Simple true (Refers h) hs a = (tt, a)
some_kept mode.ByReference shape.Simple true (Procedure k) hs a = (tt, a)
some_kept mode.ByReference shape.Simple true (ByName k) hs a = (tt, a)
some_kept mode.ByReference shape.Simple false h hs a = (tt, a)
some_kept mode.ByReference shape.Procedure true (ArrayOf h) hs a = (tt, a)
some_kept mode.ByReference shape.Procedure true (Simply h) hs a = (tt, a)
some_kept mode.ByReference shape.Procedure true (Refers h) hs a = (tt, a)
some_kept mode.ByReference shape.Procedure true (Procedure k) hs a = (tt, a)
some_kept mode.ByReference shape.Procedure true (ByName k) hs a = (tt, a)
some_kept mode.ByReference shape.Procedure false h hs a = (tt, a)
some_kept mode.ByValue g true (ArrayOf h) hs a = (tt, a)
some_kept mode.ByValue g true (Simply h) hs a = (tt, a)
some_kept mode.ByValue g true (Refers h) hs a = (tt, a)
some_kept mode.ByValue g true (Procedure k) hs a = (tt, a)
some_kept mode.ByValue g true (ByName k) hs a = (tt, a)
some_kept mode.ByValue g false h hs a = (tt, a)
some_kept mode.ByName g true (ArrayOf h) hs a = (tt, a)
some_kept mode.ByName g true (Simply h) hs a = (tt, a)
some_kept mode.ByName g true (Refers h) hs a = (tt, a)
some_kept mode.ByName g true (Procedure k) hs a = (tt, a)
some_kept mode.ByName g true (ByName k) hs a = (tt, a)
some_kept mode.ByName g false h hs a = (tt, a)

classes_some : (s : Source) (ds : List DeclNo) (fs : List Formal) → FormalsAre s ds fs → AllSome (class_kinds s fs)
classes_some s [] [] a = tt
classes_some s [] (f ∷ fs) a = absurd a
classes_some s (d ∷ ds) [] a = absurd a
classes_some s (d ∷ ds) (f ∷ fs) a =
    subst (λ z. AllSome (kept_kinds f.mode f.kind (in_hand (is_array_by_value f.mode f.kind) z) ∷ class_kinds s fs)) (sym a.2) (some_kept f.mode f.kind (is_array_by_value f.mode f.kind) a.0 (class_kinds s fs) (classes_some s ds fs a.3))

-- what the cell of a formal parameter holds
formal_at : (s : Source) (c : Bool) (ds : List DeclNo) (fs : List Formal) → FormalsAre s ds fs → (d : DeclNo) → Among d ds → (h : Holds) × (entry_holds s c (entry_of s.tables d) ≡ Some h)
formal_at s c [] fs a d b = elim b [ ]
formal_at s c (x ∷ ds) [] a d b = absurd a
formal_at s c (x ∷ ds) (f ∷ fs) a _ first = (a.0, ap (entry_holds s c) a.1 ∙ a.2)
formal_at s c (x ∷ ds) (f ∷ fs) a d (later b) = formal_at s c ds fs a.3 d b

-- ---- cells beside those of declarations

pub key_left : (key : Key) (hs ks : List Held) → KeyAmong key (map key_of hs) → KeyAmong key (map key_of (hs ++ ks))
key_left key [] ks a = elim a [ ]
key_left key (h ∷ hs) ks first_key = first_key
key_left key (h ∷ hs) ks (later_key a) = later_key (key_left key hs ks a)

pub key_right : (key : Key) (hs ks : List Held) → KeyAmong key (map key_of ks) → KeyAmong key (map key_of (hs ++ ks))
key_right key [] ks a = a
key_right key (h ∷ hs) ks a = later_key (key_right key hs ks a)

held_left : (key : Key) (hs ks : List Held) → held key (hs ++ ks) ≡ None → held key hs ≡ None
held_left key [] ks e = refl
held_left key (h ∷ hs) ks e = by_flag (λ f. held_left key hs ks f) (same_key h.key key) e
  where
    by_flag : (held key (hs ++ ks) ≡ None → held key hs ≡ None) → (b : Bool) → (if b then h.value else held key (hs ++ ks)) ≡ None → (if b then h.value else held key hs) ≡ None
    by_flag more true e = e
    by_flag more false e = more e

set_left : (key : Key) (v : Val) (hs ks cells : List Held) → held_set key v hs ≡ Some cells → held_set key v (hs ++ ks) ≡ Some (cells ++ ks)
set_left key v [] ks cells e = absurd (cc)
set_left key v (h ∷ hs) ks cells e = by_set (λ rest f. set_left key v hs ks rest f) (set_at key v h hs cells e)
  where
    by_set : ((rest : List Held) → held_set key v hs ≡ Some rest → held_set key v (hs ++ ks) ≡ Some (rest ++ ks)) → SetAt key v h hs cells → held_set key v (h ∷ (hs ++ ks)) ≡ Some (cells ++ ks)
    by_set more (set_here b is) = ap (λ z. if z then Some (record { key = h.key; value = Some v } ∷ (hs ++ ks)) else before h (held_set key v (hs ++ ks))) b ∙ ap (λ z. Some (z ++ ks)) (sym is)
    by_set more (set_later rest b f is) = ap (λ z. if z then Some (record { key = h.key; value = Some v } ∷ (hs ++ ks)) else before h (held_set key v (hs ++ ks))) b ∙ ap (before h) (more rest f) ∙ ap (λ z. Some (z ++ ks)) (sym is)

filled_left : (vs : List Val) (hs ks : List Held) (ds : List DeclNo) (cells : List Held) → filled_in vs (Some hs) ds ≡ Some cells → filled_in vs (Some (hs ++ ks)) ds ≡ Some (cells ++ ks)
filled_left [] hs ks [] cells e = ap (λ z. Some (z ++ ks)) (let same : hs ≡ cells = cc in same)
filled_left [] hs ks (d ∷ ds) cells e = absurd (cc)
filled_left (v ∷ vs) hs ks [] cells e = absurd (cc)
filled_left (v ∷ vs) hs ks (d ∷ ds) cells e = by_set (λ more f. filled_left vs more ks ds cells f) (held_set (Declared d.0) v hs) refl e
  where
    none_filled : (vs : List Val) (ds : List DeclNo) → filled_in vs None ds ≡ Some cells → ⊥
    none_filled [] [] e = cc
    none_filled [] (d ∷ ds) e = cc
    none_filled (v ∷ vs) [] e = cc
    none_filled (v ∷ vs) (d ∷ ds) e = none_filled vs ds e

    by_set : ((more : List Held) → filled_in vs (Some more) ds ≡ Some cells → filled_in vs (Some (more ++ ks)) ds ≡ Some (cells ++ ks)) → (x : Option (List Held)) → held_set (Declared d.0) v hs ≡ x → filled_in vs x ds ≡ Some cells → filled_in (v ∷ vs) (Some (hs ++ ks)) (d ∷ ds) ≡ Some (cells ++ ks)
    by_set go None is f = absurd (none_filled vs ds f)
    by_set go (Some more) is f = ap (λ z. filled_in vs z ds) (set_left (Declared d.0) v hs ks more is) ∙ go more f

none_after : (hs : List Held) → hs ++ [] ≡ hs
none_after [] = refl
none_after (h ∷ hs) = ap (λ z. h ∷ z) (none_after hs)

cells_append : (s : Source) (o : AllArrays) (m : Instances) (j k : ℕ) (hs ks : List Held) → CellsFine s o m j k hs → CellsFine s o m j k ks → CellsFine s o m j k (hs ++ ks)
cells_append s o m j k [] ks a b = b
cells_append s o m j k (h ∷ hs) ks a b = (a.0, cells_append s o m j k hs ks a.1 b)

abbrev origin_cell : Held
origin_cell = record { key = Origin; value = Some (Of (Integer (pos 0))) }

origins_fine : (s : Source) (o : AllArrays) (m : Instances) (j k : ℕ) (xs : List Level) → CellsFine s o m j k (origins xs)
origins_fine s o m j k [] = tt
origins_fine s o m j k (x ∷ xs) = by_flag (origins_fine s o m j k xs) x.process
  where
    by_flag : CellsFine s o m j k (origins xs) → (b : Bool) → CellsFine s o m j k (if b then origin_cell ∷ origins xs else origins xs)
    by_flag more true = ((refl, tt), more)
    by_flag more false = more

origin_there : (xs : List Level) (x : Level) → LevelIn x xs → x.process ≡ true → KeyAmong Origin (map key_of (origins xs))
origin_there [] x i is = elim i [ ]
origin_there (_ ∷ xs) x here_level is = subst (λ z. KeyAmong Origin (map key_of (if z then origin_cell ∷ origins xs else origins xs))) (sym is) first_key
origin_there (y ∷ xs) x (later_level i) is = by_flag (origin_there xs x i is) y.process
  where
    by_flag : KeyAmong Origin (map key_of (origins xs)) → (b : Bool) → KeyAmong Origin (map key_of (if b then origin_cell ∷ origins xs else origins xs))
    by_flag more true = later_key more
    by_flag more false = more

module _ (s : Source) (ok : Typed s) (l : Limits) (o : World) (marks : Marks) (long : length marks.sights ≡ length o.arrays) (m : Instances) (i t : ℕ) (rest : List Activation) (top : Operates marks.beneath marks.seat m i rest) (w : List Item) where
  -- ---- a text with levels, with the actual parameters of its class in hand

  -- What enters it has these values in hand then, and waits. `z` says how the new instance stands, and its work ends with `end`. `made` says what the
  -- world becomes, with which linkages and simulation blocks.
  module _ (k line : ℕ) (has : has_levels (text s k) ≡ true) (vs vs' : List Val) (d j u : ℕ) (todo : List DeclNo) (left : List Kinds) (stands : encloser s.tables k ≡ Some u) (knows : Knows m i j) (whole : Whole s m j u) (acts : ActualsAre s (see marks o) m i d (class_kinds s (class_parameters s (Some k))) vs) (less : length vs' ≤ d) (b : Begun s (see marks o) m i t todo) (hands : HandsFine s (see marks o) m i left vs')
      (waits : Waits) (hold : List Val) (shown : Shown s (awaited marks.waiting (owner (record { instance = i; work = w; values = hold })) waits) hold vs') (expected : List Kinds) (expects : Expected s (awaited marks.waiting (owner (record { instance = i; work = w; values = hold })) waits) left expected) (work : Work s o marks long m i t rest top w todo expected) (z : Standing Activation) (begins : Begins z) (end : Item)
      (ends : (v : AllArrays) (c : List Held) → (v.seat).evaluations ≡ 0 → ChainFine s v (entered m (new_instance s k (Some j) c) z) (record { instance = i; work = w; values = hold } ∷ rest) waits → WorkFine s v (entered m (new_instance s k (Some j) c) z) (λ q. ChainFine s v (entered m (new_instance s k (Some j) c) z) (record { instance = i; work = w; values = hold } ∷ rest) q) ((record { instance = i; work = w; values = hold } ∷ rest) ≡ []) (length m.instances) k (end ∷ []) [] [])
      (extra firsts : List Held) (firsts_are : firsts ≡ cells_of_levels s (level_list s ok k has) ++ extra) (extra_fine : (v : AllArrays) (n : Instances) → CellsFine s v n (length m.instances) k extra) (has_origin : (cells : List Held) → HasOrigin s k (cells ++ extra))
      (words : ℕ) (made_then : World → World) (linkages_then : Memberships) (blocks_then : List Simulation) (made_arrays : (p : World) → (made_then p).arrays ≡ p.arrays) (made_members : (p : World) → p.members ≡ o.members → (made_then p).members ≡ linkages_then) (made_blocks : (p : World) → p.simulations ≡ o.simulations → (made_then p).simulations ≡ blocks_then)
      (joins : (c : List Held) → MembersFine s linkages_then (entered m (new_instance s k (Some j) c) z)) (starts : (c : List Held) → SimulationsFine s blocks_then (entered m (new_instance s k (Some j) c) z)) where
    abbrev own : Leveled s ok k
    own = leveled s ok k has

    abbrev X : Text
    X = own.words

    abbrev is : text s k ≡ Some X
    is = own.is

    abbrev N : ℕ
    N = length m.instances

    abbrev First : ℕ
    First = (marks.seat).owner

    -- its levels, with what they declare
    abbrev all : AllLevels s ok (length s.tables.blocks) k
    all = levels_there s ok k has

    abbrev xs : List Level
    xs = level_list s ok k has

    abbrev numbers : List DeclNo
    numbers = level_numbers s ok k has

    abbrev first_ones : List Held
    first_ones = attributes_from s numbers

    abbrev formals : List DeclNo
    formals = class_formals s.tables k

    abbrev fs : List Formal
    fs = class_parameters s (Some k)

    abbrev P : World
    P = handed_over N (arrays_among vs) o

    typed : ClassTyped s k own.declarations own.statements
    typed = own.typed

    solid : is_connection (text s k) ≡ false
    solid = levels_solid (text s k) has

    -- with these cells
    abbrev After : List Held → Instances
    After c = entered m (new_instance s k (Some j) c) z

    abbrev noted : Marks
    noted = marked marks N (Some First)

    later_with : (c : List Held) (q : List Sight) (p : World) → Later s (see (marks_of marks q) p) m (see (marks_of noted q) p) (After c) All
    later_with c q p = later_new s ok (see (marks_of marks q) p) m k (Some j) c z X is solid (Some First) p.members p.simulations

    -- none of its parameters is by name
    nameless : (e : DeclNo) (kd : Holds) → Among e formals → entry_holds s true (entry_of s.tables e) ≡ Some (ByName kd) → ⊥
    nameless e kd a held =
        let y = number_from s e xs (formals_among s ok k has e a) in
        (level_among s k y.0 xs all.are y.1).typed.not_by_name e kd y.2 held

    -- and none is a procedure
    no_procedures : (e : DeclNo) (q : Option SimType) → Among e formals → entry_holds s true (entry_of s.tables e) ≡ Some (Procedure q) → ⊥
    no_procedures e q a held =
        let y = number_from s e xs (formals_among s ok k has e a) in
        (level_among s k y.0 xs all.are y.1).typed.no_procedure e q y.2 held

    handed : (c : List Held) → Handed s m (After c) i N top.before marks noted (later_with c) o marks.sights d P (λ v. (kk : ℕ) → ValsFine s v (After c) N kk (holds_of s fs) vs)
    handed c = hand_every s m (After c) i N top.before marks noted (later_with c) fs (class_kinds s fs) (classes_hand s ⊥ formals fs typed.formals nameless no_procedures) vs o marks.sights long d acts

    filled : (c : List Held) → FilledIn s (see (marks_of noted (handed c).sights) P) (After c) N k vs first_ones formals
    filled c =
        let v = see (marks_of noted (handed c).sights) P in
        fill s v (After c) N k formals fs vs first_ones typed.formals ((handed c).values k)
        (λ e a. let f = formal_at s true formals fs typed.formals e a in attribute_key s numbers e true f.0 (formals_among s ok k has e a) f.1)
        (attributes_distinct s numbers all.distinct)
        (cells_wait s ok k has v (After c) N)

    abbrev Cells : List Held
    Cells = (filled first_ones).cells ++ extra

    abbrev G : Marks
    G = marks_of marks (handed Cells).sights

    abbrev V : AllArrays
    V = see G P

    abbrev V' : AllArrays
    V' = on_top V N (Some First) linkages_then blocks_then

    -- the same before it is made a linkage or a process
    abbrev seen_first : AllArrays
    seen_first = on_top V N (Some First) V.members V.simulations

    abbrev M : Instances
    M = After Cells

    same_cells : (filled Cells).cells ≡ (filled first_ones).cells
    same_cells = same_some (filled_in vs (Some first_ones) formals) (filled Cells).cells (filled first_ones).cells (filled Cells).filled_is (filled first_ones).filled_is

    fine_first : CellsFine s seen_first M N k Cells
    fine_first = subst (λ c. CellsFine s seen_first M N k (c ++ extra)) same_cells (cells_append s seen_first M N k (filled Cells).cells extra (none_waits s seen_first M N k (filled Cells).cells (filled Cells).waits) (extra_fine seen_first M))

    fine : CellsFine s V' M N k Cells
    fine = cells_later s seen_first M V' M All (later_instances s seen_first V' M M refl refl (λ q x e. e) (λ q x lives. record { now = x; lives = lives; grown = as_it_was x }) (λ q a. a) (λ q a. a) (λ q a. a)) N k tt Cells fine_first

    e : Later s (see marks o) m V m All
    e = (handed Cells).later marks m

    copies : (q : Seat) (n y : ℕ) → Elsewhere marks.seat q → Copies (at_seat (see marks o) q) (at_seat V q) n y
    copies q n y other z' kd c' small copy = (handed Cells).copies q n z' kd c' (λ same. absurd (other same)) copy

    linkages : P.members ≡ o.members
    linkages = handed_members N (arrays_among vs) o

    blocks : P.simulations ≡ o.simulations
    blocks = handed_simulations N (arrays_among vs) o

    store : StoreFine s V m
    store = store_handed s ok l o marks long m i t rest top w vs' P (handed Cells).sights e copies b.store (handed Cells).elements linkages blocks

    begun : Begun s V' M N k (arrays_of_levels s xs)
    begun =
        begun_new s ok V m k (Some j) Cells z X is solid (Some First) linkages_then blocks_then store begins (λ y at key a. key_left key (filled first_ones).cells extra (keys s ok k has (filled first_ones).cells (filled first_ones).same_keys (filled first_ones).got y at key a)) (has_origin (filled first_ones).cells) fine
        (inside_new s ok V m k (Some j) Cells z X is solid (Some First) linkages_then blocks_then j u First refl stands (live_less m j whole.now whole.lives) refl (near_then V m First i j (near_same (see marks o) V m First i refl (b.works).near) (knows_near s V m store i j knows)) store whole) (arrays_of_levels s xs) (λ y at e h is there none. made s ok k has (filled first_ones).cells (filled first_ones).same_keys (filled first_ones).got y at e h is there (held_left (Declared e.0) (filled first_ones).cells extra none)) (joins Cells) (starts Cells)

    abbrev Below : List Activation
    Below = record { instance = i; work = w; values = hold } ∷ rest

    -- what enters it waits
    chain : ChainFine s V m Below waits
    chain =
        let own = work_owner s o marks long m i t rest top w hold todo expected work in
        record {
          of_text = t;
          todo = todo;
          here = b.here;
          own = b.own;
          stands_on = λ x at. top.stands_on x (sym own ∙ at);
          seat = marks.seat;
          seated = ap (λ x. seat_on x (footing None rest)) own ∙ top.seated;
          works = seated_later s (see marks o) m V m All e marks.seat i tt b.works;
          vals = vs';
          shown = shown;
          kinds = left;
          hands = hands_later s (see marks o) m V m All e i tt left vs' (λ n kd c deep copy. (handed Cells).copies marks.seat i n kd c (λ q. omega (arith, deep, less)) copy) hands;
          expected = expected;
          expects = expects;
          goes = work_later s (see marks o) m V m All e i t tt refl (λ q. refl) (rest ≡ []) (rest ≡ []) (λ q. q) (λ q. ChainFine s (see marks o) m rest q) (λ q. ChainFine s V m rest q) (below_handed s ok l o marks long m i t rest top w vs' P (handed Cells).sights e copies b.store (handed Cells).elements linkages blocks) w todo expected work;
        }

    abbrev Wk : List Item → List DeclNo → List Kinds → Type 0
    Wk w todo ks = WorkFine s V' M (λ q. ChainFine s V' M Below q) (Below ≡ []) N k w todo ks

    at_end : Wk (end ∷ []) [] []
    at_end = ends V' Cells refl (below_new s ok V m k (Some j) Cells z X is solid (Some First) linkages_then blocks_then begins Below waits chain)

    pending : Wk (levels_work xs end) (arrays_of_levels s xs) []
    pending = works s ok V' M N k has (arrays_of_levels s xs) begun (λ q. ChainFine s V' M Below q) (Below ≡ []) end at_end

    filled_same : filled_in vs (Some firsts) formals ≡ Some Cells
    filled_same = ap (λ c. filled_in vs (Some c) formals) firsts_are ∙ ap (λ c. filled_in vs (Some (c ++ extra)) formals) (cells_are s xs) ∙ filled_left vs first_ones extra formals (filled first_ones).cells (filled first_ones).filled_is

    abbrev pub Entered : World → List Held → Run Configuration
    Entered p c = Going p (record { chain = record { instance = N; work = levels_work xs end; values = [] } ∷ Below; memory = After c })

    -- the world when copies have gone over and it is made
    abbrev Made_then : World
    Made_then = record P { members = linkages_then; simulations = blocks_then }

    given_members : (t' w' : ℕ) → (arrays_given N vs (ran o t' w')).members ≡ o.members
    given_members t' w' = handed_members N (arrays_among vs) (ran o t' w')

    given_blocks : (t' w' : ℕ) → (arrays_given N vs (ran o t' w')).simulations ≡ o.simulations
    given_blocks t' w' = handed_simulations N (arrays_among vs) (ran o t' w')

    pub entered_goes : Goes (IsFine s) (having (filled_in vs (Some firsts) formals) o (λ c. entering l line words o (λ p. Entered (made_then (arrays_given N vs p)) c)))
    entered_goes =
        had (IsFine s) (filled_in vs (Some firsts) formals) Cells o (λ c. entering l line words o (λ p. Entered (made_then (arrays_given N vs p)) c)) filled_same
        (enters (IsFine s) l line words o (λ p. Entered (made_then (arrays_given N vs p)) Cells) (λ t' w'.
        same_arrays Made_then (made_then (arrays_given N vs (ran o t' w'))) _
        (handed_same N (arrays_among vs) o (ran o t' w') refl ∙ sym (made_arrays (arrays_given N vs (ran o t' w'))))
        (sym (made_members (arrays_given N vs (ran o t' w')) (given_members t' w'))) (sym (made_blocks (arrays_given N vs (ran o t' w')) (given_blocks t' w')))
        (enters_fine s ok Made_then G (handed Cells).long m k (Some j) Cells z (arrays_of_levels s xs) begins (levels_work xs end) Below P (Some First) (chain_first s ok l o marks long m i t rest top w hold todo expected work hold) store (chain_placed s ok l o marks long m i t rest top w hold todo expected work hold) (chain_headed s ok l o marks long m i t rest top w hold todo expected work hold) (inl (let before = top.before in let many = (top.placed).as_many in omega (arith, before, many))) begun pending)))

  module _ (vals : List Val) where
    class_many : (fs : List Formal) → length (class_kinds s fs) ≡ length fs
    class_many [] = refl
    class_many (f ∷ fs) = ap suc (class_many fs)

    pub new_goes : (k n line : ℕ) (todo : List DeclNo) (before behind : List Kinds) → NewOpFine s k n before behind → Begun s (see marks o) m i t todo → HandsFine s (see marks o) m i before vals → Work s o marks long m i t rest top w todo behind → Goes (IsFine s) (generated s l o m i w vals rest k n line)
    new_goes k n line todo before behind c b h work =
        let q = c.class in
        let has : has_levels (text s k) ≡ true = class_has s ok k q.is in
        let own = leveled s ok k has in
        let xs = (all_levels_of s ok k has).list in
        let r = taken s (see marks o) m i (class_kinds s (class_parameters s (Some k))) (LinkTo c.around ∷ c.left) vals (classes_some s (class_formals s.tables k) (class_parameters s (Some k)) (own.typed).formals) (subst (λ z. HandsFine s (see marks o) m i z vals) (c.«in») h) in
        let many : n ≡ length r.values = c.count ∙ sym (class_many (class_parameters s (Some k))) ∙ sym r.count in
        subst (λ z. Goes (IsFine s) (pop_many z [] vals o next)) (sym many)
        (subst (λ z. Goes (IsFine s) (pop_many (length r.values) [] z o next)) (sym r.are)
        (subst (Goes (IsFine s)) (sym (all_taken r.values r.rest o next))
        (any_popped (IsFine s) s (see marks o) m i (LinkTo c.around) c.left r.rest o (λ v vs. having (instance_in v) o (λ j. when (is_live m j) o (having (levels s k) o (λ xs. object_entered s l o m i w vs rest k line r.values j xs)))) r.more (λ v vs same here more.
        link_is s ok l o marks long m i t rest top w vals c.around v (λ j. when (is_live m j) o (having (levels s k) o (λ xs. object_entered s l o m i w vs rest k line r.values j xs))) here (λ j near whole.
        whens (IsFine s) (is_live m j) o (having (levels s k) o (λ xs. object_entered s l o m i w vs rest k line r.values j xs)) (lives_is s ok l o marks long m i t rest top w vals j whole.now whole.lives)
        (had (IsFine s) (levels s k) xs o (λ xs. object_entered s l o m i w vs rest k line r.values j xs) (levels_are s ok k has)
        (entered_goes k line has r.values vs (length r.rest) j c.around todo c.left q.stands_in near whole r.fine (below_top r.rest v vs same) b more (Generated (length m.instances) k) (Of (Object (length m.instances)) ∷ vs) refl (c.kinds ∷ c.left) (c.kinds, c.made, refl) (subst (λ z. Work s o marks long m i t rest top w todo z) c.out work) AttachedObject tt EndObject (λ v hs own' x. object_at_end v hs own' (own.typed).stays has j (record { instance = i; work = w; values = Of (Object (length m.instances)) ∷ vs } ∷ rest) x)
        (origins xs) (cells_of_levels s xs ++ origins xs) refl (λ v n. origins_fine s v n (length m.instances) k xs) (λ cells class u at is. (let y = (all_levels_of s ok k has).covers u at in key_right Origin cells (origins xs) (origin_there xs y.0 y.2 ((level_among s k y.0 xs (all_levels_of s ok k has).are y.2).to_process (ap (text s) y.1 ∙ is)))))
        (words_of_object s k (cells_of_levels s xs)) (λ p. object_made s k j (length m.instances) p) (enrolled_members (length m.instances) (linkage_of_text s k) o.members) (joined_simulations (is_process_text s k) j (length m.instances) o.simulations)
        (λ p. object_arrays s k j (length m.instances) p) (λ p e. object_members s k j (length m.instances) p ∙ ap (enrolled_members (length m.instances) (linkage_of_text s k)) e) (λ p e. object_blocks s k j (length m.instances) p ∙ ap (joined_simulations (is_process_text s k) j (length m.instances)) e)
        (λ c'. object_linked s ok o marks m b.store k (Some j) c' AttachedObject has (Some i) q.single q.process j c.around refl q.stands_in whole) (λ c'. object_joined s ok o marks m b.store k (Some j) c' AttachedObject has (Some i) q.single q.process j c.around refl q.stands_in whole))))))))
      where
        -- it is an object, which ends as one
        object_at_end : (v : AllArrays) (hs : List Held) → (v.seat).evaluations ≡ 0 → is_class_free s k ≡ false → has_levels (text s k) ≡ true → (j : ℕ) → (below : List Activation) → ChainFine s v (entered m (new_instance s k (Some j) hs) AttachedObject) below (Generated (length m.instances) k) → WorkFine s v (entered m (new_instance s k (Some j) hs) AttachedObject) (λ q. ChainFine s v (entered m (new_instance s k (Some j) hs) AttachedObject) below q) (below ≡ []) (length m.instances) k (EndObject ∷ []) [] []
        object_at_end v hs own free has j below c =
            let stands = stands_new m (new_instance s k (Some j) hs) AttachedObject (top.placed).as_many in
            (refl, free, has, (AttachedObject, stands, tt), Generated (length m.instances) k, subst (λ b. IsRelease b (length m.instances) k (Generated (length m.instances) k)) (sym (ap is_resumed stands)) (refl, refl), c, (refl, own))

        next : List Val → List Val → Run Configuration
        next values vals = popping vals o (λ v vals. having (instance_in v) o (λ j. when (is_live m j) o (having (levels s k) o (λ xs. object_entered s l o m i w vals rest k line values j xs))))

        below_top : (rest : List Val) (v : Val) (vs : List Val) → rest ≡ v ∷ vs → length vs ≤ length rest
        below_top rest v vs e = let f : length rest ≡ suc (length vs) = ap length e in omega (arith, f)

    -- a prefixed block is entered
    pub prefixed_goes : (k n line : ℕ) (before behind : List Kinds) → PrefixedOpFine s m i k n before behind → Begun s (see marks o) m i t [] → HandsFine s (see marks o) m i before vals → Work s o marks long m i t rest top w [] behind → Goes (IsFine s) (prefix_done s l o m i w vals rest k n line)
    prefixed_goes k n line before behind c b h work =
        let has : has_levels (text s k) ≡ true = ap has_levels (c.block).is in
        let own = leveled s ok k has in
        let xs = (all_levels_of s ok k has).list in
        let r = taken s (see marks o) m i (class_kinds s (class_parameters s (Some k))) behind vals (classes_some s (class_formals s.tables k) (class_parameters s (Some k)) (own.typed).formals) (subst (λ z. HandsFine s (see marks o) m i z vals) (c.«in») h) in
        let many : n ≡ length r.values = c.count ∙ sym (class_many (class_parameters s (Some k))) ∙ sym r.count in
        subst (λ z. Goes (IsFine s) (pop_many z [] vals o next)) (sym many)
        (subst (λ z. Goes (IsFine s) (pop_many (length r.values) [] z o next)) (sym r.are)
        (subst (Goes (IsFine s)) (sym (all_taken r.values r.rest o next))
        (had (IsFine s) (levels s k) xs o (λ xs. prefixed_entered s l o m (record { instance = i; work = w; values = r.rest } ∷ rest) k line r.values (Some i) EndPrefixed xs) (levels_are s ok k has)
        (entered_goes k line has r.values r.rest (length r.rest) i c.around [] behind c.stands_in (outward no_further) (site_whole s (see marks o) m i t c.around b c.site) r.fine (omega arith) b r.more (Takes None) r.rest refl behind refl work (NoObject None) tt EndPrefixed (λ v hs own' x. ((None, stands_new m (new_instance s k (Some i) hs) (NoObject None) (top.placed).as_many), x, (refl, own')))
        [] (cells_of_levels s xs) (sym (none_after (cells_of_levels s xs))) (λ v n. tt) (λ cells class. absurd (let z : ◌≡◌ {A = Bool} true false = sym class ∙ ap is_class (c.block).is in cc))
        (words_of_cells (cells_of_levels s xs)) (λ p. block_begun s k (length m.instances) p) (begun_members (is_simulation_text s k) (length m.instances) o.members) (begun_simulations (is_simulation_text s k) (length m.instances) o.simulations)
        (λ p. block_arrays s k (length m.instances) p) (λ p e. block_members s k (length m.instances) p ∙ ap (begun_members (is_simulation_text s k) (length m.instances)) e) (λ p e. block_blocks s k (length m.instances) p ∙ ap (begun_simulations (is_simulation_text s k) (length m.instances)) e)
        (λ c'. block_linked s ok o marks m b.store k (Some i) c' (NoObject None) has (Some i) c.block) (λ c'. block_started s ok o marks m b.store k (Some i) c' (NoObject None) has (Some i) c.block)))))
      where
        next : List Val → List Val → Run Configuration
        next values vals = having (levels s k) o (λ xs. prefixed_entered s l o m (record { instance = i; work = w; values = vals } ∷ rest) k line values (Some i) EndPrefixed xs)

    -- ---- what is pending in an object or a prefixed block

    -- the arrays of a level are made, before those of the levels inside
    pub declare_goes : (ds : Declarations) (todo todo' : List DeclNo) (before behind : List Kinds) → DeclareFine s t ds todo todo' → before ≡ [] → behind ≡ [] → Begun s (see marks o) m i t todo → HandsFine s (see marks o) m i before vals → Work s o marks long m i t rest top w todo' behind → Goes (IsFine s) (do_op s l o m i w vals rest (DeclareOp ds))
    declare_goes ds todo todo' before behind d f g b h work =
        let p = b.here in
        let solid : is_connection (text s t) ≡ false = sym (ap (λ z. is_connection (text s z)) b.own) ∙ (fine_at s (see marks o) m i t todo b.store p).solid in
        let words = level_words s ok solid d.of_level p.words (sym (ap (text s) b.own) ∙ p.has_text) in
        let waits = arrays_of_block s ds ++ todo' in
        let begun : Begun s (see marks o) m i t waits = subst (Begun s (see marks o) m i t) d.waits b in
        goes_on s o marks long m i t rest top (Rattle.sim_meaning.specs.Entries.arrays_declared s m i ds w) vals waits [] begun (subst (λ z. HandsFine s (see marks o) m i z vals) f h)
        (level_arrays s ok (see marks o) m i t d.level d.of_level waits begun words.0 words.1 solid d.all_arrays (λ q. ChainFine s (see marks o) m rest q) (rest ≡ []) ds todo' w d.arrays d.distinct d.own (subst (λ z. Work s o marks long m i t rest top w todo' z) g work))

    -- a level's declarations are made, which does nothing
    pub level_goes : (k : ℕ) (todo todo' : List DeclNo) (before behind : List Kinds) → behind ≡ before → todo' ≡ todo → Begun s (see marks o) m i t todo → HandsFine s (see marks o) m i before vals → Work s o marks long m i t rest top w todo' behind → Goes (IsFine s) (do_op s l o m i w vals rest (LevelOp k))
    level_goes k todo todo' before behind e f b h work =
        goes_on s o marks long m i t rest top w vals todo before b h (subst (λ z. Work s o marks long m i t rest top w z before) f (subst (λ z. Work s o marks long m i t rest top w todo' z) e work))

    -- the statements of the levels inside
    pub inner_goes : (xs : List Level) (ks : List Kinds) → LevelsFine s m i t xs → Begun s (see marks o) m i t [] → HandsFine s (see marks o) m i ks vals → Work s o marks long m i t rest top w [] ks → Goes (IsFine s) (inner_done o m i w vals rest xs)
    inner_goes [] ks a b h work = goes_on s o marks long m i t rest top w vals [] ks b h work
    inner_goes (x ∷ xs) ks a b h work =
        goes_on s o marks long m i t rest top (level_work x xs (EndLevel x.text ∷ w)) vals [] ks b h (level_works s (see marks o) m i t (λ v. ChainFine s (see marks o) m rest v) (rest ≡ []) x xs (EndLevel x.text ∷ w) ks a work)
