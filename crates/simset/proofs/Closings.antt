-- what a method's write leaves in the vector, and the sets that it then stands for
use Rattle.std.proofs.Common.{◌≡◌, ◌≢◌, ℕ, ◌+◌, ◌<◌, ◌≤◌, List, [], ◌∷◌, ◌++◌, length, get_or, take, drop, not, arith, Bool, true, false, refl, ap, ◌∙◌, sym, subst}
use Rattle.std.specs.Prelude.{slice_get, Option, Some, None, IsSome}
use Rattle.std.specs.Bool.{OnTrue, OnFalse}
use Rattle.std.proofs.lemmas.Grind.{common_steps}
use Rattle.std.proofs.lemmas.Bool.Decides.{nat_tests, eqb_tells}
use Rattle.std.proofs.lemmas.Option.{slice_get-get_or, slice_get_past}
use Rattle.simset.specs.declared.rings.Node.{Node}
use Rattle.simset.specs.Sets.{Linkage, Link, Head, fresh, is_link_at, is_head_at, is_link, is_head, IsProper, times_in, places_from, each_from, put_after, put_before, out, suc_of, pred_of, prev_of}
use Rattle.simset.specs.Nodes.{head_in, next_in, previous_in, head_at, next_at, previous_at, HoldsLinkage, sets_of, IsNext, IsJoined, IsTakenOut, IsPutBehind, KeepsSets, link_beside, linkage_beside, is_in_ring}
use Rattle.simset.proofs.Walks.{proper-once}
use Rattle.simset.proofs.Keeps.{kept-out, kept-put_after, kept-put_before, by_itself, placed_apart, head_nowhere}
use Rattle.simset.proofs.Joins.{previous_of_joined}
use Rattle.simset.proofs.Changes.{places_from-head, places_from-link}
use Rattle.simset.proofs.Adds.{kept-push}
use Rattle.simset.proofs.Neighbours.{suc_of-kept, pred_of-kept, prev_of-kept, alone_nowhere}

-- the vector after a slice of all its items was written
written : (items new : List Node) (len : ℕ) → len ≡ length items → length new ≡ length items
    → take len (new ++ drop (length new) items) ≡ new
written items new len all same = grind (arith, common_steps)

-- the sets that contracts see are those that the nodes keep
pub kept-view : (nodes : List Node) (sets : List Linkage) → sets_of nodes ≡ sets → KeepsSets nodes (sets_of nodes)
    → KeepsSets nodes sets
kept-view nodes sets same kept = subst (KeepsSets nodes) same kept

-- in a proper list of sets a place is one place
places_one_at : (sets : List Linkage) (p : ℕ) (b : Bool) → IsProper sets → is_head_at sets p ≡ b
    → 0 < places_from p 0 sets → places_from p 0 sets ≡ 1
places_one_at sets p true proper is placed = places_from-head p 0 p sets (omega arith) is (head_nowhere sets p proper is)
places_one_at sets p false proper is placed = omega (arith, places_from-link p 0 p sets (omega arith) is, proper-once sets p proper)

pub places_one : (sets : List Linkage) (p : ℕ) → IsProper sets → 0 < places_from p 0 sets → places_from p 0 sets ≡ 1
places_one sets p proper placed = places_one_at sets p (is_head_at sets p) proper refl placed

pub written-out : (items old new : List Node) (len link : ℕ) (sets : List Linkage) → KeepsSets items sets
    → old ≡ items → len ≡ length items → is_link_at sets link ≡ true → IsTakenOut old new link
    → KeepsSets (take len (new ++ drop (length new) items)) (out sets link)
written-out items old new len link sets kept same all is_a_link gone =
    let P : List Node → Type 0 = λ m. IsTakenOut m new link in
    let moved : IsTakenOut items new link = subst P same gone in
    rw (written items new len all moved.count) (kept-out items new sets link kept is_a_link moved)

pub written-after : (items old new : List Node) (len link place : ℕ) (sets : List Linkage) → KeepsSets items sets
    → old ≡ items → len ≡ length items → is_link_at sets link ≡ true → times_in link sets ≡ 0 → place < length sets
    → 0 < places_from place 0 sets → IsPutBehind old new place link
    → KeepsSets (take len (new ++ drop (length new) items)) (each_from (put_after link place) 0 sets)
written-after items old new len link place sets kept same all is_a_link outside made placed put =
    let P : List Node → Type 0 = λ m. IsPutBehind m new place link in
    let moved : IsPutBehind items new place link = subst P same put in
    rw (written items new len all moved.count) (kept-put_after items new sets link place kept is_a_link outside (places_one sets place kept.proper placed) (omega (arith, kept.made)) moved)

pub written-before : (items old new : List Node) (len link before place : ℕ) (sets : List Linkage)
    → KeepsSets items sets → old ≡ items → len ≡ length items → is_link_at sets link ≡ true → times_in link sets ≡ 0
    → place < length sets → 0 < places_from place 0 sets → before ≡ previous_at items place
    → IsPutBehind old new before link
    → KeepsSets (take len (new ++ drop (length new) items)) (each_from (put_before link place) 0 sets)
written-before items old new len link before place sets kept same all is_a_link outside made placed in_front put =
    let P : List Node → Type 0 = λ m. IsPutBehind m new before link in
    let moved : IsPutBehind items new before link = subst P same put in
    let joined : IsJoined items place = kept.joined place (omega (arith, kept.made)) in
    rw (written items new len all moved.count)
    (kept-put_before items new sets before link place kept is_a_link outside (places_one sets place kept.proper placed) (rw in_front joined.previous_made) (rw in_front (previous_of_joined items place joined)) moved)

-- the node in front of a place is no link that is in no set
pub in_front_apart : (nodes : List Node) (sets : List Linkage) (link before place : ℕ) → KeepsSets nodes sets
    → is_link_at sets link ≡ true → times_in link sets ≡ 0 → place < length sets → 0 < places_from place 0 sets
    → before ≡ previous_at nodes place → before ≢ link
in_front_apart nodes sets link before place kept is_a_link outside made placed in_front same =
    let joined : IsJoined nodes place = kept.joined place (omega (arith, kept.made)) in
    let alone : IsNext nodes link link = by_itself nodes sets link kept is_a_link outside in
    let there : previous_at nodes place ≡ link = sym in_front ∙ same in
    placed_apart sets link place is_a_link outside (places_one sets place kept.proper placed) (sym joined.onward ∙ ap (next_at nodes) there ∙ alone.onward)

-- ---- what is read

pub read_head : (nodes : List Node) (x : ℕ) (node : Node) → x < length nodes → node ≡ get_or nodes x node
    → head_at nodes x ≡ node.head
read_head nodes x node within is = ap head_in (slice_get-get_or nodes x node within) ∙ ap (λ (n : Node). n.head) (sym is)

pub read_next : (nodes : List Node) (x : ℕ) (node : Node) → x < length nodes → node ≡ get_or nodes x node
    → next_at nodes x ≡ node.next
read_next nodes x node within is = ap next_in (slice_get-get_or nodes x node within) ∙ ap (λ (n : Node). n.next) (sym is)

pub read_previous : (nodes : List Node) (x : ℕ) (node : Node) → x < length nodes → node ≡ get_or nodes x node
    → previous_at nodes x ≡ node.previous
read_previous nodes x node within is = ap previous_in (slice_get-get_or nodes x node within) ∙ ap (λ (n : Node). n.previous) (sym is)

-- a node is a head exactly where its linkage is
is_head_held : (nodes : List Node) (x : ℕ) (o : Option Linkage)
    → ((linkage : Linkage) → o ≡ Some linkage → HoldsLinkage nodes x linkage) → IsSome o → head_at nodes x ≡ is_head o
is_head_held nodes x None held some = absurd (cc)
is_head_held nodes x (Some Link) held some = held Link refl
is_head_held nodes x (Some (Head xs)) held some = (held (Head xs) refl).0

is_link_held : (o : Option Linkage) → IsSome o → is_link o ≡ not (is_head o)
is_link_held None some = absurd (cc)
is_link_held (Some Link) some = refl
is_link_held (Some (Head xs)) some = refl

some_within : (sets : List Linkage) (x : ℕ) → x < length sets → IsSome (slice_get sets x)
some_within sets x within = rw (slice_get-get_or sets x Link within) refl

pub is_head_at-kept : (nodes : List Node) (sets : List Linkage) (x : ℕ) → KeepsSets nodes sets → x < length sets
    → head_at nodes x ≡ is_head_at sets x
is_head_at-kept nodes sets x kept within = is_head_held nodes x (slice_get sets x) (kept.held x) (some_within sets x within)

pub is_link_at-kept : (nodes : List Node) (sets : List Linkage) (x : ℕ) → KeepsSets nodes sets → x < length sets
    → not (head_at nodes x) ≡ is_link_at sets x
is_link_at-kept nodes sets x kept within = ap not (is_head_at-kept nodes sets x kept within) ∙ sym (is_link_held (slice_get sets x) (some_within sets x within))

pub is_head_at-past : (sets : List Linkage) (x : ℕ) → length sets ≤ x → is_head_at sets x ≡ false
is_head_at-past sets x past = ap is_head (slice_get_past sets x past)

pub is_link_at-past : (sets : List Linkage) (x : ℕ) → length sets ≤ x → is_link_at sets x ≡ false
is_link_at-past sets x past = ap is_link (slice_get_past sets x past)

pub next_is : (nodes : List Node) (x : ℕ) (d : Node) → x < length nodes → next_at nodes x ≡ (get_or nodes x d).next
next_is nodes x d within = ap next_in (slice_get-get_or nodes x d within)

pub previous_is : (nodes : List Node) (x : ℕ) (d : Node) → x < length nodes
    → previous_at nodes x ≡ (get_or nodes x d).previous
previous_is nodes x d within = ap previous_in (slice_get-get_or nodes x d within)

pub within_nodes : (nodes : List Node) (sets : List Linkage) (x : ℕ) → KeepsSets nodes sets → x < length sets
    → x < length nodes
within_nodes nodes sets x kept within = omega (arith, kept.made)

pub read-suc : (nodes old : List Node) (sets : List Linkage) (x : ℕ) (node : Node) (answer : Option ℕ)
    → KeepsSets nodes sets → x < length sets → old ≡ nodes → node ≡ get_or nodes x node
    → answer ≡ link_beside old x node.next → answer ≡ suc_of sets x
read-suc nodes old sets x node answer kept within same is read =
    let made : x < length nodes = within_nodes nodes sets x kept within in
    read ∙ ap (λ m. link_beside m x node.next) same ∙ ap (link_beside nodes x) (sym (read_next nodes x node made is)) ∙ sym (suc_of-kept nodes sets x kept made)

pub read-pred : (nodes old : List Node) (sets : List Linkage) (x : ℕ) (node : Node) (answer : Option ℕ)
    → KeepsSets nodes sets → x < length sets → old ≡ nodes → node ≡ get_or nodes x node
    → answer ≡ link_beside old x node.previous → answer ≡ pred_of sets x
read-pred nodes old sets x node answer kept within same is read =
    let made : x < length nodes = within_nodes nodes sets x kept within in
    read ∙ ap (λ m. link_beside m x node.previous) same ∙ ap (link_beside nodes x) (sym (read_previous nodes x node made is)) ∙ sym (pred_of-kept nodes sets x kept made)

pub read-prev : (nodes old : List Node) (sets : List Linkage) (x : ℕ) (answer : Option ℕ) → KeepsSets nodes sets
    → x < length sets → old ≡ nodes → answer ≡ linkage_beside old x → answer ≡ prev_of sets x
read-prev nodes old sets x answer kept within same read =
    read ∙ ap (λ m. linkage_beside m x) same ∙ sym (prev_of-kept nodes sets x kept (within_nodes nodes sets x kept within))

-- ---- whether a linkage is a place

in_ring_link : (nodes : List Node) (x : ℕ) → head_at nodes x ≡ false → is_in_ring nodes x ≡ true → next_at nodes x ≢ x
in_ring_link nodes x link in_ring same = let out_of_it : is_in_ring nodes x ≡ false = rw link (grind (arith, nat_tests, eqb_tells (next_at nodes x) x)) in cc

out_of_ring_at : (nodes : List Node) (x : ℕ) (b : Bool) → head_at nodes x ≡ b → is_in_ring nodes x ≡ false
    → (head_at nodes x ≡ false) × (next_at nodes x ≡ x)
out_of_ring_at nodes x true head out = absurd (cc (rw head at out))
out_of_ring_at nodes x false link out = (link, grind (arith, nat_tests, eqb_tells (next_at nodes x) x, rw link at out))

out_of_ring : (nodes : List Node) (x : ℕ) → is_in_ring nodes x ≡ false
    → (head_at nodes x ≡ false) × (next_at nodes x ≡ x)
out_of_ring nodes x out = out_of_ring_at nodes x (head_at nodes x) refl out

some_place : (sets : List Linkage) (x : ℕ) → is_head_at sets x ≡ false → (times_in x sets ≡ 0 → ⊥)
    → 0 < places_from x 0 sets
some_place sets x is some = grind (arith, places_from-link x 0 x sets (omega arith) is)

places-in_ring_at : (nodes : List Node) (sets : List Linkage) (x : ℕ) (b : Bool) → KeepsSets nodes sets
    → x < length sets → head_at nodes x ≡ b → is_in_ring nodes x ≡ true → 0 < places_from x 0 sets
places-in_ring_at nodes sets x true kept within head in_ring =
    let is : is_head_at sets x ≡ true = sym (is_head_at-kept nodes sets x kept within) ∙ head in
    omega (arith, places_from-head x 0 x sets (omega arith) is (head_nowhere sets x kept.proper is))
places-in_ring_at nodes sets x false kept within link in_ring =
    let is : is_head_at sets x ≡ false = sym (is_head_at-kept nodes sets x kept within) ∙ link in
    let is_a_link : is_link_at sets x ≡ true = sym (is_link_at-kept nodes sets x kept within) ∙ ap not link in
    some_place sets x is (λ nowhere. in_ring_link nodes x link in_ring (kept.alone x is_a_link nowhere))

pub places-in_ring : (nodes old : List Node) (sets : List Linkage) (x : ℕ) → KeepsSets nodes sets → x < length sets
    → old ≡ nodes → is_in_ring old x ≡ true → 0 < places_from x 0 sets
places-in_ring nodes old sets x kept within same in_ring = places-in_ring_at nodes sets x (head_at nodes x) kept within refl (ap (λ m. is_in_ring m x) (sym same) ∙ in_ring)

pub places-alone : (nodes old : List Node) (sets : List Linkage) (x : ℕ) → KeepsSets nodes sets → x < length sets
    → old ≡ nodes → is_in_ring old x ≡ false → places_from x 0 sets ≡ 0
places-alone nodes old sets x kept within same out =
    let by_itself : (head_at nodes x ≡ false) × (next_at nodes x ≡ x) = out_of_ring nodes x (ap (λ m. is_in_ring m x) (sym same) ∙ out) in
    let is : is_head_at sets x ≡ false = sym (is_head_at-kept nodes sets x kept within) ∙ by_itself.0 in
    let is_a_link : is_link_at sets x ≡ true = sym (is_link_at-kept nodes sets x kept within) ∙ ap not by_itself.0 in
    places_from-link x 0 x sets (omega arith) is ∙ alone_nowhere nodes sets x kept is_a_link by_itself.1

pub places-on : (nodes old : List Node) (sets : List Linkage) (x : ℕ) (answer : Bool) → KeepsSets nodes sets
    → x < length sets → old ≡ nodes → answer ≡ is_in_ring old x → OnTrue answer (0 < places_from x 0 sets)
places-on nodes old sets x true kept within same is = places-in_ring nodes old sets x kept within same (sym is)
places-on nodes old sets x false kept within same is = tt

pub places-off : (nodes old : List Node) (sets : List Linkage) (x : ℕ) (answer : Bool) → KeepsSets nodes sets
    → x < length sets → old ≡ nodes → answer ≡ is_in_ring old x → OnFalse answer (places_from x 0 sets ≡ 0)
places-off nodes old sets x true kept within same is = tt
places-off nodes old sets x false kept within same is = places-alone nodes old sets x kept within same (sym is)

-- ---- one more node

pub written-push : (items new : List Node) (sets : List Linkage) (node : Node) (head : Bool) → KeepsSets items sets
    → new ≡ items ++ node ∷ [] → length items + 1 < 4294967296 → node.next ≡ length items
    → node.previous ≡ length items → node.head ≡ head → KeepsSets new (sets ++ fresh head ∷ [])
written-push items new sets node head kept pushed room next previous is_head = rw pushed (kept-push items sets node head kept room next previous is_head)

pub read-is_head : (nodes : List Node) (sets : List Linkage) (x : ℕ) (node : Node) → KeepsSets nodes sets
    → x < length nodes → node ≡ get_or nodes x node → node.head ≡ is_head_at sets x
read-is_head nodes sets x node kept made is = sym (read_head nodes x node made is) ∙ is_head_at-kept nodes sets x kept (omega (arith, kept.made))

pub read-is_link : (nodes : List Node) (sets : List Linkage) (x : ℕ) (node : Node) → KeepsSets nodes sets
    → x < length nodes → node ≡ get_or nodes x node → not node.head ≡ is_link_at sets x
read-is_link nodes sets x node kept made is = ap not (sym (read_head nodes x node made is)) ∙ is_link_at-kept nodes sets x kept (omega (arith, kept.made))
