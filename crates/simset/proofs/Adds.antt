-- one more node keeps one more linkage
use Rattle.std.proofs.Common.{◌≡◌, ℕ, zero, suc, ◌+◌, ◌<◌, ◌≤◌, List, [], ◌∷◌, ◌++◌, length, arith, length-append, if◌then◌else◌, Bool, true, false, refl, ap, ◌∙◌, sym, subst, ◌⊎◌, inl, inr}
use Rattle.std.specs.Prelude.{slice_get, Some}
use Rattle.std.proofs.lemmas.Bool.{cases_lt}
use Rattle.std.proofs.lemmas.Option.{slice_get_within}
use Rattle.simset.specs.declared.rings.Node.{Node}
use Rattle.simset.specs.Sets.{Linkage, Link, Head, fresh, times_in, is_link, is_link_at, IsProper}
use Rattle.simset.specs.Nodes.{head_in, next_in, previous_in, head_at, next_at, previous_at, Links, HoldsLinkage, IsJoined, KeepsSets}
use Rattle.simset.proofs.Walks.{is_link_at-made, proper-none}

get-push_before : {A : Type 0} (xs : List A) (y : A) (i : ℕ) → i < length xs
    → slice_get (xs ++ y ∷ []) i ≡ slice_get xs i
get-push_before [] y i within = absurd (omega arith)
get-push_before (x ∷ xs) y zero within = refl
get-push_before (x ∷ xs) y (suc i) within = get-push_before xs y i (omega arith)

get-push_at : {A : Type 0} (xs : List A) (y : A) → slice_get (xs ++ y ∷ []) (length xs) ≡ Some y
get-push_at [] y = refl
get-push_at (x ∷ xs) y = get-push_at xs y

length-push : {A : Type 0} (xs : List A) (y : A) → length (xs ++ y ∷ []) ≡ length xs + 1
length-push xs y = omega (arith, length-append xs (y ∷ []))

times_in-push : (x : ℕ) (sets : List Linkage) (head : Bool) → times_in x (sets ++ fresh head ∷ []) ≡ times_in x sets
times_in-push x [] true = refl
times_in-push x [] false = refl
times_in-push x (Link ∷ rest) head = times_in-push x rest head
times_in-push x (Head xs ∷ rest) head = omega (arith, times_in-push x rest head)

Links-push_node : (old : List Node) (node : Node) (a : ℕ) (xs : List ℕ) (b : ℕ)
    → ((i : ℕ) → i < length old → IsJoined old i) → a < length old → b < length old → Links old a xs b
    → Links (old ++ node ∷ []) a xs b
Links-push_node old node a [] b joined within_a within_b l =
    record { onward = ap next_in (get-push_before old node a within_a) ∙ l.onward; back = ap previous_in (get-push_before old node b within_b) ∙ l.back }
Links-push_node old node a (x ∷ xs) b joined within_a within_b l =
    let within : x < length old = rw l.0.onward at ((joined a within_a).next_made) in (
      record { onward = ap next_in (get-push_before old node a within_a) ∙ l.0.onward; back = ap previous_in (get-push_before old node x within) ∙ l.0.back },
      ap head_in (get-push_before old node x within) ∙ l.1,
      Links-push_node old node x xs b joined within within_b l.2,
    )

held-push_before : (old : List Node) (node : Node) (i : ℕ) (linkage : Linkage)
    → ((i : ℕ) → i < length old → IsJoined old i) → i < length old → HoldsLinkage old i linkage
    → HoldsLinkage (old ++ node ∷ []) i linkage
held-push_before old node i Link joined within held = ap head_in (get-push_before old node i within) ∙ held
held-push_before old node i (Head xs) joined within held = (ap head_in (get-push_before old node i within) ∙ held.0, Links-push_node old node i xs i joined within within held.1)

-- the new node is its own neighbour
record IsSingle (old : List Node) (node : Node) : Type 0 where
  next : next_at (old ++ node ∷ []) (length old) ≡ length old
  previous : previous_at (old ++ node ∷ []) (length old) ≡ length old
  head : head_at (old ++ node ∷ []) (length old) ≡ node.head

single : (old : List Node) (node : Node) → node.next ≡ length old → node.previous ≡ length old → IsSingle old node
single old node next previous = record {
  next = ap next_in (get-push_at old node) ∙ next;
  previous = ap previous_in (get-push_at old node) ∙ previous;
  head = ap head_in (get-push_at old node);
}

held-push_at : (old : List Node) (node : Node) (head : Bool) → IsSingle old node → node.head ≡ head
    → HoldsLinkage (old ++ node ∷ []) (length old) (fresh head)
held-push_at old node true alone is_head = (alone.head ∙ is_head, record { onward = alone.next; back = alone.previous })
held-push_at old node false alone is_head = alone.head ∙ is_head

joined-push : (old : List Node) (node : Node) (i : ℕ) → IsSingle old node
    → ((i : ℕ) → i < length old → IsJoined old i) → i < length (old ++ node ∷ [])
    → (i < length old) ⊎ (length old ≤ i) → IsJoined (old ++ node ∷ []) i
joined-push old node i alone joined within (inl before) =
    let j : IsJoined old i = joined i before in
    let next : next_at (old ++ node ∷ []) i ≡ next_at old i = ap next_in (get-push_before old node i before) in
    let previous : previous_at (old ++ node ∷ []) i ≡ previous_at old i = ap previous_in (get-push_before old node i before) in
    record {
      next_made = rw next (omega (arith, j.next_made, length-push old node));
      previous_made = rw previous (omega (arith, j.previous_made, length-push old node));
      onward = rw previous (ap next_in (get-push_before old node (previous_at old i) j.previous_made) ∙ j.onward);
      back = rw next (ap previous_in (get-push_before old node (next_at old i) j.next_made) ∙ j.back);
    }
joined-push old node i alone joined within (inr past) =
    let here : i ≡ length old = omega (arith, length-push old node) in
    rw here record {
      next_made = rw alone.next (omega (arith, length-push old node));
      previous_made = rw alone.previous (omega (arith, length-push old node));
      onward = rw alone.previous alone.next;
      back = rw alone.next alone.previous;
    }

held-push : (old : List Node) (sets : List Linkage) (node : Node) (head : Bool) (i : ℕ) (linkage : Linkage)
    → KeepsSets old sets → IsSingle old node → node.head ≡ head → slice_get (sets ++ fresh head ∷ []) i ≡ Some linkage
    → (i < length sets) ⊎ (length sets ≤ i) → HoldsLinkage (old ++ node ∷ []) i linkage
held-push old sets node head i linkage kept alone is_head e (inl before) =
    held-push_before old node i linkage kept.joined (omega (arith, kept.made)) (kept.held i linkage (sym (get-push_before sets (fresh head) i before) ∙ e))
held-push old sets node head i linkage kept alone is_head e (inr past) =
    let within : i < length (sets ++ fresh head ∷ []) = slice_get_within (sets ++ fresh head ∷ []) i linkage e in
    let here : i ≡ length sets = omega (arith, length-push sets (fresh head)) in
    let P : ℕ → Type 0 = λ n. slice_get (sets ++ fresh head ∷ []) n ≡ Some linkage in
    let some : Some (fresh head) ≡ Some linkage = sym (get-push_at sets (fresh head)) ∙ subst P here e in
    let same : fresh head ≡ linkage = cc in
    let Q : Linkage → Type 0 = λ l. HoldsLinkage (old ++ node ∷ []) i l in
    let there : i ≡ length old = here ∙ sym kept.made in
    subst Q same (rw there (held-push_at old node head alone is_head))

proper-push_at : (sets : List Linkage) (head : Bool) (x : ℕ) → IsProper sets → (x < length sets) ⊎ (length sets ≤ x)
    → times_in x sets ≤ (if is_link_at (sets ++ fresh head ∷ []) x then 1 else 0)
proper-push_at sets head x proper (inl before) = rw (get-push_before sets (fresh head) x before) (proper x)
proper-push_at sets head x proper (inr past) = rw (proper-none sets x proper (λ link. omega (arith, is_link_at-made sets x link))) (omega arith)

alone-push : (old : List Node) (sets : List Linkage) (node : Node) (head : Bool) (i : ℕ) → KeepsSets old sets
    → IsSingle old node → is_link_at (sets ++ fresh head ∷ []) i ≡ true → times_in i sets ≡ 0
    → (i < length sets) ⊎ (length sets ≤ i) → next_at (old ++ node ∷ []) i ≡ i
alone-push old sets node head i kept alone link nowhere (inl before) =
    ap next_in (get-push_before old node i (omega (arith, kept.made))) ∙ kept.alone i (sym (ap is_link (get-push_before sets (fresh head) i before)) ∙ link) nowhere
alone-push old sets node head i kept alone link nowhere (inr past) =
    let here : i ≡ length old = omega (arith, kept.made, is_link_at-made (sets ++ fresh head ∷ []) i link, length-push sets (fresh head)) in
    rw here alone.next

pub kept-push : (old : List Node) (sets : List Linkage) (node : Node) (head : Bool) → KeepsSets old sets
    → length old + 1 < 4294967296 → node.next ≡ length old → node.previous ≡ length old → node.head ≡ head
    → KeepsSets (old ++ node ∷ []) (sets ++ fresh head ∷ [])
kept-push old sets node head kept room next previous is_head =
    let alone : IsSingle old node = single old node next previous in
    record {
      made = omega (arith, kept.made, length-push old node, length-push sets (fresh head));
      few = omega (arith, length-push old node);
      proper = λ x. rw (times_in-push x sets head) (proper-push_at sets head x kept.proper (cases_lt x (length sets)));
      joined = λ i within. joined-push old node i alone kept.joined within (cases_lt i (length old));
      held = λ i linkage e. held-push old sets node head i linkage kept alone is_head e (cases_lt i (length sets));
      alone = λ i link nowhere. alone-push old sets node head i kept alone link (sym (times_in-push i sets head) ∙ nowhere) (cases_lt i (length sets));
    }
