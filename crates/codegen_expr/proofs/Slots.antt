-- The number of a cell, and whether there is one.
use Rattle.std.proofs.Common.{◌≡◌, ◌<◌, ◌+◌, ℕ, suc, Bool, true, false, if◌then◌else◌, List, [], ◌∷◌, ◌++◌, length, Option, Some, None, refl, sym, ap, ◌∙◌, arith}
use Rattle.std.specs.Prelude.{◌&&◌, ◌==◌, slice_get}
use Rattle.sim_base.specs.declared.numbering.DeclNo.{DeclNo}
use Rattle.sim_scope.specs.declared.bound.Bound.{Bound}
use Rattle.sim_scope.specs.Source.{Source, block_of, source_of}
use Rattle.sim_scope.specs.Tables.{BlockOf}
use Rattle.sim_code.specs.Code.{CodeOf}
use Rattle.sim_meaning.specs.Levels.{is_process_itself}
use Rattle.sim_meaning.specs.Pending.{Declared, Held, Key, same_key}
use Rattle.sim_meaning.specs.Texts.{text}
use Rattle.codegen_expr.specs.Built.{place_from, slot_in}
use Rattle.codegen_expr.specs.Drafts.{PlannedOf, planned_at, planned_front, planned_in, planned_of, planned_start, size_of}
use Rattle.codegen_expr.specs.Known.{place_in}
use Rattle.codegen_expr.specs.Sites.{HasCell, block_in_front, block_number, block_of_text, cells_in, frame_text, hidden_before, hidden_from, hidden_in, is_connection, origin_in, own_part, place_of, prefix_of, slot_of, start_of}

-- the first place, counted from n on
counted : (n : ℕ) (key : Key) (hs : List Held) (k : ℕ) → place_from n key hs ≡ Some k → (k ≡ n + place_of key hs) × (place_of key hs < length hs)
counted n key [] k e = absurd (cc)
counted n key (h ∷ hs) k e = cases (same_key h.key key) e (counted (suc n) key hs k)
  where
    cases : (b : Bool) → (if b then Some n else place_from (suc n) key hs) ≡ Some k → (place_from (suc n) key hs ≡ Some k → (k ≡ suc n + place_of key hs) × (place_of key hs < length hs))
        → (k ≡ n + (if b then 0 else suc (place_of key hs))) × ((if b then 0 else suc (place_of key hs)) < suc (length hs))
    cases true e more = let is : n ≡ k = some_is n k e in (omega (arith, is), omega arith)
      where
        some_is : (x y : ℕ) → Some x ≡ Some y → x ≡ y
        some_is x y h = cc
    cases false e more = let r = more e in let at = r.0 in let le = r.1 in (omega (arith, at), omega (arith, le))

-- what stands in front of a text in a code that is as planned
pub front_planned : (s : Source) (c : CodeOf) (xs : List PlannedOf) (k : ℕ) → ((j : ℕ) → planned_in (slice_get c.blocks j) ≡ planned_at xs j) → planned_in (block_in_front s c k) ≡ planned_front s xs k
unfolding block_in_front planned_front
front_planned s c xs k known = cases (prefix_of s.tables k)
  where
    cases : (o : Option ℕ) → planned_in (block_of_text s c o) ≡ planned_of s xs o
    cases None = refl
    cases (Some u) = known (block_number s u)

pub start_planned : (s : Source) (c : CodeOf) (xs : List PlannedOf) (k : ℕ) → ((j : ℕ) → planned_in (slice_get c.blocks j) ≡ planned_at xs j) → start_of s c k ≡ planned_start s xs k
start_planned s c xs k known = ap (λ z. length z.types) (front_planned s c xs k known)

pub slot_found : (s : Source) (c : CodeOf) (xs : List PlannedOf) (k : ℕ) (key : Key) (n m : ℕ) → ((j : ℕ) → planned_in (slice_get c.blocks j) ≡ planned_at xs j) → slot_in s k key ≡ Some n → m ≡ planned_start s xs k + n → m ≡ slot_of s c k key
unfolding slot_in slot_of
slot_found s c xs k key n m known e em =
    let at = (counted 0 key (own_part s k) n e).0 in
    let first = start_planned s c xs k known in
    omega (arith, at, first, em)

pub slot_within : (s : Source) (k : ℕ) (key : Key) (n : ℕ) → slot_in s k key ≡ Some n → HasCell s k key
unfolding slot_in
slot_within s k key n e = (counted 0 key (own_part s k) n e).1

-- no declaration has the cell of a connection
none_hidden : (s : Source) (k x n m : ℕ) (bs : List BlockOf) → place_from n (Declared x) (hidden_from s k m bs) ≡ None
none_hidden s k x n m [] = none_origin (is_process_itself s k)
  where
    none_origin : (c : Bool) → place_from n (Declared x) (origin_in c) ≡ None
    none_origin true = refl
    none_origin false = refl
none_hidden s k x n m (b ∷ bs) = cases (is_connection b.kind && frame_text s m == k) (λ i. none_hidden s k x i (suc m) bs)
  where
    cases : (c : Bool) → ((i : ℕ) → place_from i (Declared x) (hidden_from s k (suc m) bs) ≡ None) → place_from n (Declared x) (hidden_before c b (hidden_from s k (suc m) bs)) ≡ None
    cases true more = more (suc n)
    cases false more = more n

declared_alone : (s : Source) (k x n : ℕ) (hs : List Held) → place_from n (Declared x) (hs ++ hidden_in s k) ≡ place_from n (Declared x) hs
unfolding hidden_in
declared_alone s k x n [] = none_hidden s k x n 0 s.tables.blocks
declared_alone s k x n (h ∷ hs) = ap (λ z. if same_key h.key (Declared x) then Some n else z) (declared_alone s k x (suc n) hs)

pub own_slot : (b : Bound) (d : DeclNo) (v : Option ℕ) → v ≡ place_in (source_of b) (block_of (source_of b) d) (Declared d.0) → v ≡ slot_in (source_of b) (block_of (source_of b) d) (Declared d.0)
unfolding slot_in place_in
own_slot b d v ev = ev ∙ sym (declared_alone (source_of b) (block_of (source_of b) d) d.0 0 (cells_in (source_of b) (block_of (source_of b) d) (text (source_of b) (block_of (source_of b) d))))

-- the number of a cell in the frames of its text
pub number_behind : (b : Bound) (xs : List PlannedOf) (k place u j size n : ℕ) (r : Option ℕ) → r ≡ prefix_of b.scopes k → r ≡ Some u → j ≡ block_number (source_of b) u → size ≡ size_of xs j → n ≡ size + place → n ≡ planned_start (source_of b) xs k + place
unfolding planned_front source_of
number_behind b xs k place u j size n r er some ej es en = en ∙ ap (λ z. z + place) (es ∙ ap (size_of xs) ej ∙ ap (λ z. length (planned_of (source_of b) xs z).types) (sym some ∙ er))

pub number_alone : (b : Bound) (xs : List PlannedOf) (k place : ℕ) (r : Option ℕ) → r ≡ prefix_of b.scopes k → r ≡ None → place ≡ planned_start (source_of b) xs k + place
unfolding planned_front source_of
number_alone b xs k place r er none = let e : place ≡ 0 + place = omega arith in e ∙ ap (λ z. z + place) (ap (λ z. length (planned_of (source_of b) xs z).types) (sym none ∙ er))

pub ruleset slots = (own_slot, number_behind, number_alone)
