-- The text in whose frames a connection has its cell, and which cell that is.
use Rattle.std.proofs.Common.{◌≡◌, ◌≢◌, ◌<◌, ◌≤◌, ◌+◌, ◌-◌, ℕ, zero, suc, Bool, true, false, if◌then◌else◌, List, [], ◌∷◌, ◌++◌, length, drop, Option, Some, None, refl, sym, ap, ◌∙◌, arith}
use Rattle.std.proofs.lemmas.List.{drop_all}
use Rattle.std.specs.Prelude.{◌&&◌, ◌==◌, slice_get}
use Rattle.sim_base.specs.declared.numbering.DeclNo.{DeclNo}
use Rattle.sim_scope.specs.declared.bound.Bound.{Bound}
use Rattle.sim_scope.specs.declared.types.Entry.{Entry}
use Rattle.sim_scope.specs.declared.types.Entry.TheVariants as entry
use Rattle.sim_scope.specs.Access.{encloser}
use Rattle.sim_scope.specs.Scopes.{entry_of}
use Rattle.sim_scope.specs.Source.{Source, source_of}
use Rattle.sim_scope.specs.Tables.{BlockOf, Tables}
use Rattle.sim_tree.specs.declared.stmt.TypeName.{TypeName}
use Rattle.sim_meaning.specs.Attributes.{cell_of_connection, first_in}
use Rattle.sim_meaning.specs.Entries.{cells_from, first_cells, numbers_of, with_cell, with_result}
use Rattle.sim_meaning.specs.Levels.{is_process_class, is_process_itself, is_standard_text}
use Rattle.sim_meaning.specs.Pending.{Connection, Held, Origin}
use Rattle.sim_meaning.specs.Texts.{BlockText, ClassText, ConnectionText, PrefixedText, ProcedureText, StandardText, Text, text}
use Rattle.codegen_expr.specs.Built.{place_from, slot_in}
use Rattle.codegen_expr.specs.Known.{OriginSlot, is_hidden}
use Rattle.codegen_expr.specs.Sites.{cells_in, connects, frame_text, frame_within, hidden_before, hidden_from, hidden_in, is_connected, origin_in, outward_or}
use Rattle.codegen_expr.proofs.Around.{neq-eqb}

-- ---- the walk outward

module _ (s : Tables) where
  frame_here : (n k : ℕ) → is_connected s k ≡ false → frame_within n s k ≡ k
  frame_here zero k other = refl
  frame_here (suc n) k other = ap (λ z. if z then outward_or (frame_within n s) k (encloser s k) else k) other

  frame_nowhere : (n k : ℕ) → encloser s k ≡ None → frame_within n s k ≡ k
  frame_nowhere zero k none = refl
  frame_nowhere (suc n) k none = ap (λ z. if is_connected s k then outward_or (frame_within n s) k z else k) none ∙ same (is_connected s k)
    where
      same : (c : Bool) → (if c then k else k) ≡ k
      same true = refl
      same false = refl

  frame_outward : (n k u : ℕ) → is_connected s k ≡ true → encloser s k ≡ Some u → frame_within (suc n) s k ≡ frame_within n s u
  frame_outward n k u is some = ap (λ z. if z then outward_or (frame_within n s) k (encloser s k) else k) is ∙ ap (λ z. outward_or (frame_within n s) k z) some

pub frame_first : (s : Tables) (k : ℕ) → frame_within k s k ≡ frame_within (k - 0) s k
frame_first s k = let e : k ≡ k - 0 = omega arith in ap (λ n. frame_within n s k) e

pub frame_on : (s : Tables) (k i t u : ℕ) → i < k → is_connected s t ≡ true → encloser s t ≡ Some u → frame_within k s k ≡ frame_within (k - i) s t → frame_within k s k ≡ frame_within (k - (i + 1)) s u
frame_on s k i t u le is some f = let e : k - i ≡ suc (k - (i + 1)) = omega arith in f ∙ ap (λ n. frame_within n s t) e ∙ frame_outward s (k - (i + 1)) t u is some

pub frame_stops : (b : Bound) (k i t : ℕ) → frame_within k b.scopes k ≡ frame_within (k - i) b.scopes t → is_connected b.scopes t ≡ false → t ≡ frame_text (source_of b) k
unfolding frame_text source_of
frame_stops b k i t f other = sym (f ∙ frame_here b.scopes (k - i) t other)

pub frame_ends : (b : Bound) (k i t : ℕ) → frame_within k b.scopes k ≡ frame_within (k - i) b.scopes t → encloser b.scopes t ≡ None → t ≡ frame_text (source_of b) k
unfolding frame_text source_of
frame_ends b k i t f none = sym (f ∙ frame_nowhere b.scopes (k - i) t none)

pub frame_spent : (b : Bound) (k i t : ℕ) → frame_within k b.scopes k ≡ frame_within (k - i) b.scopes t → k ≤ i → t ≡ frame_text (source_of b) k
unfolding frame_text source_of
frame_spent b k i t f le = let e : k - i ≡ 0 = omega arith in sym (f ∙ ap (λ n. frame_within n b.scopes t) e)

-- ---- whether a cell lies in a frame

pub kept_here : (b : Bound) (k block t : ℕ) (c : Bool) → c ≡ is_connected b.scopes block → c ≡ true → t ≡ frame_text (source_of b) block → (t == k) ≡ is_hidden (source_of b) k block
unfolding source_of
kept_here b k block t c ec is et = ap (λ z. z == k) et ∙ ap (λ z. z && frame_text (source_of b) block == k) (sym is ∙ ec)

pub kept_nowhere : (b : Bound) (k block : ℕ) (c : Bool) → c ≡ is_connected b.scopes block → c ≡ false → false ≡ is_hidden (source_of b) k block
unfolding source_of
kept_nowhere b k block c ec not' = ap (λ z. z && frame_text (source_of b) block == k) (sym not' ∙ ec)

-- ---- the place among the cells of connections

-- what a text declares is no connection
with_cells : (d : DeclNo) (e : Option Entry) (n c : ℕ) (hs rest : List Held) → ((i : ℕ) → place_from i (Connection c) (hs ++ rest) ≡ place_from (i + length hs) (Connection c) rest)
    → place_from n (Connection c) (with_cell d e hs ++ rest) ≡ place_from (n + length (with_cell d e hs)) (Connection c) rest
with_cells d None n c hs rest f = f n
with_cells d (Some (entry.Variable type)) n c hs rest f = f (suc n) ∙ (let e : suc n + length hs ≡ n + suc (length hs) = omega arith in ap (λ z. place_from z (Connection c) rest) e)
with_cells d (Some (entry.Constant type)) n c hs rest f = f (suc n) ∙ (let e : suc n + length hs ≡ n + suc (length hs) = omega arith in ap (λ z. place_from z (Connection c) rest) e)
with_cells d (Some (entry.Array element dimensions)) n c hs rest f = f (suc n) ∙ (let e : suc n + length hs ≡ n + suc (length hs) = omega arith in ap (λ z. place_from z (Connection c) rest) e)
with_cells d (Some (entry.Formal x)) n c hs rest f = f (suc n) ∙ (let e : suc n + length hs ≡ n + suc (length hs) = omega arith in ap (λ z. place_from z (Connection c) rest) e)
with_cells d (Some (entry.Procedure result block)) n c hs rest f = f n
with_cells d (Some (entry.Class block)) n c hs rest f = f n
with_cells d (Some (entry.Virtual result own)) n c hs rest f = f n
with_cells d (Some (entry.Unspecified written)) n c hs rest f = f n
with_cells d (Some (entry.Attribute name parameter result)) n c hs rest f = f n

past_cells : (s : Source) (c : ℕ) (rest : List Held) (ds : List DeclNo) (n : ℕ) → place_from n (Connection c) (cells_from s ds ++ rest) ≡ place_from (n + length (cells_from s ds)) (Connection c) rest
past_cells s c rest [] n = let e : n ≡ n + 0 = omega arith in ap (λ z. place_from z (Connection c) rest) e
past_cells s c rest (d ∷ ds) n = with_cells d (entry_of s.tables d) n c (cells_from s ds) rest (past_cells s c rest ds)

past_result : (r : Option TypeName) (c : ℕ) (hs rest : List Held) → ((n : ℕ) → place_from n (Connection c) (hs ++ rest) ≡ place_from (n + length hs) (Connection c) rest) → (n : ℕ) → place_from n (Connection c) (with_result r hs ++ rest) ≡ place_from (n + length (with_result r hs)) (Connection c) rest
past_result None c hs rest f n = f n
past_result (Some type) c hs rest f n = f (suc n) ∙ (let e : suc n + length hs ≡ n + suc (length hs) = omega arith in ap (λ z. place_from z (Connection c) rest) e)

from_zero : (c : ℕ) (rest : List Held) (n : ℕ) → place_from (0 + n) (Connection c) rest ≡ place_from n (Connection c) rest
from_zero c rest n = let e : 0 + n ≡ n = omega arith in ap (λ z. place_from z (Connection c) rest) e

past_declared : (s : Source) (k c : ℕ) (rest : List Held) (x : Option Text) → place_from 0 (Connection c) (cells_in s k x ++ rest) ≡ place_from (length (cells_in s k x)) (Connection c) rest
unfolding first_cells
past_declared s k c rest None = refl
past_declared s k c rest (Some (BlockText begin ds ss)) = past_cells s c rest (numbers_of s k) 0 ∙ from_zero c rest (length (cells_from s (numbers_of s k)))
past_declared s k c rest (Some (ProcedureText result h a)) = past_result result c (cells_from s (numbers_of s k)) rest (past_cells s c rest (numbers_of s k)) 0 ∙ from_zero c rest (length (with_result result (cells_from s (numbers_of s k))))
past_declared s k c rest (Some (ClassText prefix h ds ss)) = past_cells s c rest (numbers_of s k) 0 ∙ from_zero c rest (length (cells_from s (numbers_of s k)))
past_declared s k c rest (Some (PrefixedText class arguments ds ss)) = past_cells s c rest (numbers_of s k) 0 ∙ from_zero c rest (length (cells_from s (numbers_of s k)))
past_declared s k c rest (Some ConnectionText) = refl
past_declared s k c rest (Some (StandardText which)) = past_cells s c rest (numbers_of s k) 0 ∙ from_zero c rest (length (cells_from s (numbers_of s k)))

-- In a loop: the place that is searched for is among the connections that are left, where the next one has this place.
unfoldable pub Searched : Bound → (frame connection place done : ℕ) → Type 0
Searched b k c n i = slot_in (source_of b) k (cell_of_connection (source_of b) c) ≡ place_from n (cell_of_connection (source_of b) c) (hidden_from (source_of b) k i (drop i b.scopes.blocks))

pub searched_first : (b : Bound) (k c n : ℕ) → n ≡ length (cells_in (source_of b) k (text (source_of b) k)) → Searched b k c n 0
unfolding Searched slot_in hidden_in source_of
searched_first b k c n en =
    let s = source_of b in
    let x = first_in (slice_get b.scopes.blocks c) in
    past_declared s k x (hidden_from s k 0 b.scopes.blocks) (text s k) ∙ ap (λ z. place_from z (Connection x) (hidden_from s k 0 b.scopes.blocks)) (sym en)

block_there : (bs : List BlockOf) (i : ℕ) → i < length bs → (x : BlockOf) × (slice_get bs i ≡ Some x) × (drop i bs ≡ x ∷ drop (suc i) bs)
block_there [] i le = absurd (omega (arith, le))
block_there (x ∷ xs) zero le = (x, refl, refl)
block_there (x ∷ xs) (suc i) le = block_there xs i (omega (arith, le))

hidden_next : (b : Bound) (k i : ℕ) (x : BlockOf) (c : Bool) → slice_get b.scopes.blocks i ≡ Some x → drop i b.scopes.blocks ≡ x ∷ drop (suc i) b.scopes.blocks → c ≡ is_hidden (source_of b) k i → hidden_from (source_of b) k i (drop i b.scopes.blocks) ≡ hidden_before c x (hidden_from (source_of b) k (suc i) (drop (suc i) b.scopes.blocks))
unfolding is_connected source_of
hidden_next b k i x c is from ec =
    let s = source_of b in
    ap (hidden_from s k i) from ∙ ap (λ z. hidden_before z x (hidden_from s k (suc i) (drop (suc i) b.scopes.blocks))) (ap (λ z. connects z && frame_text s i == k) (sym is) ∙ sym ec)

pub searched_here : (b : Bound) (k c n i block x y : ℕ) (h : Bool) → k ≡ frame_text (source_of b) c → Searched b k c n i → i < length b.scopes.blocks → block ≡ i → h ≡ is_hidden (source_of b) k block → h ≡ true → x ≡ first_in (slice_get (source_of b).tables.blocks block) → y ≡ first_in (slice_get (source_of b).tables.blocks c) → x ≡ y → Some n ≡ slot_in (source_of b) (frame_text (source_of b) c) (cell_of_connection (source_of b) c)
unfolding Searched source_of
searched_here b k c n i block x y h ek f le eb eh is ex ey same =
    let s = source_of b in
    let r = block_there b.scopes.blocks i le in
    let key = cell_of_connection s c in
    let hs = hidden_from s k (suc i) (drop (suc i) b.scopes.blocks) in
    let first : r.0.first ≡ first_in (slice_get b.scopes.blocks c) = ap first_in (sym r.1) ∙ ap (λ z. first_in (slice_get b.scopes.blocks z)) (sym eb) ∙ sym ex ∙ same ∙ ey in
    let t : (r.0.first == first_in (slice_get b.scopes.blocks c)) ≡ true = Rattle.std.proofs.lemmas.Bool.eq-eqb r.0.first (first_in (slice_get b.scopes.blocks c)) first in
    sym (ap (λ z. slot_in s z key) (sym ek) ∙ f ∙ ap (place_from n key) (hidden_next b k i r.0 true r.1 r.2 (sym is ∙ eh ∙ ap (is_hidden s k) eb)) ∙ ap (λ z. if z then Some n else place_from (suc n) key hs) t)

pub searched_past : (b : Bound) (k c n m i block x y : ℕ) (h : Bool) → Searched b k c n i → i < length b.scopes.blocks → block ≡ i → h ≡ is_hidden (source_of b) k block → h ≡ true → x ≡ first_in (slice_get (source_of b).tables.blocks block) → y ≡ first_in (slice_get (source_of b).tables.blocks c) → x ≢ y → m ≡ suc n → Searched b k c m (i + 1)
unfolding Searched source_of
searched_past b k c n m i block x y h f le eb eh is ex ey other em =
    let s = source_of b in
    let r = block_there b.scopes.blocks i le in
    let key = cell_of_connection s c in
    let hs = hidden_from s k (suc i) (drop (suc i) b.scopes.blocks) in
    let first : r.0.first ≡ x = ap first_in (sym r.1) ∙ ap (λ z. first_in (slice_get b.scopes.blocks z)) (sym eb) ∙ sym ex in
    let t : (r.0.first == first_in (slice_get b.scopes.blocks c)) ≡ false = neq-eqb r.0.first (first_in (slice_get b.scopes.blocks c)) (λ e. other (sym first ∙ e ∙ sym ey)) in
    let next : suc i ≡ i + 1 = omega arith in
    f ∙ ap (place_from n key) (hidden_next b k i r.0 true r.1 r.2 (sym is ∙ eh ∙ ap (is_hidden s k) eb)) ∙ ap (λ z. if z then Some n else place_from (suc n) key hs) t ∙ ap (λ z. place_from z key hs) (sym em) ∙ ap (λ z. place_from m key (hidden_from s k z (drop z b.scopes.blocks))) next

pub searched_over : (b : Bound) (k c n i block : ℕ) (h : Bool) → Searched b k c n i → i < length b.scopes.blocks → block ≡ i → h ≡ is_hidden (source_of b) k block → h ≡ false → Searched b k c n (i + 1)
unfolding Searched source_of
searched_over b k c n i block h f le eb eh not' =
    let s = source_of b in
    let r = block_there b.scopes.blocks i le in
    let key = cell_of_connection s c in
    let next : suc i ≡ i + 1 = omega arith in
    f ∙ ap (place_from n key) (hidden_next b k i r.0 false r.1 r.2 (sym not' ∙ eh ∙ ap (is_hidden s k) eb)) ∙ ap (λ z. place_from n key (hidden_from s k z (drop z b.scopes.blocks))) next

pub searched_end : (b : Bound) (k c n i : ℕ) → k ≡ frame_text (source_of b) c → Searched b k c n i → length b.scopes.blocks ≤ i → None ≡ slot_in (source_of b) (frame_text (source_of b) c) (cell_of_connection (source_of b) c)
unfolding Searched
searched_end b k c n i ek f le =
    sym (ap (λ z. slot_in (source_of b) z (cell_of_connection (source_of b) c)) (sym ek) ∙ f ∙ ap (λ z. place_from n (cell_of_connection (source_of b) c) (hidden_from (source_of b) k i z)) (drop_all i b.scopes.blocks le) ∙ no_origin (is_process_itself (source_of b) k))
  where
    no_origin : (t : Bool) → place_from n (cell_of_connection (source_of b) c) (origin_in t) ≡ None
    no_origin true = refl
    no_origin false = refl

-- ---- the place of an origin

with_cells_behind : (d : DeclNo) (e : Option Entry) (n : ℕ) (hs rest : List Held) → ((i : ℕ) → place_from i Origin (hs ++ rest) ≡ place_from (i + length hs) Origin rest) → place_from n Origin (with_cell d e hs ++ rest) ≡ place_from (n + length (with_cell d e hs)) Origin rest
with_cells_behind d None n hs rest f = f n
with_cells_behind d (Some (entry.Variable type)) n hs rest f = f (suc n) ∙ (let e : suc n + length hs ≡ n + suc (length hs) = omega arith in ap (λ z. place_from z Origin rest) e)
with_cells_behind d (Some (entry.Constant type)) n hs rest f = f (suc n) ∙ (let e : suc n + length hs ≡ n + suc (length hs) = omega arith in ap (λ z. place_from z Origin rest) e)
with_cells_behind d (Some (entry.Array element dimensions)) n hs rest f = f (suc n) ∙ (let e : suc n + length hs ≡ n + suc (length hs) = omega arith in ap (λ z. place_from z Origin rest) e)
with_cells_behind d (Some (entry.Formal x)) n hs rest f = f (suc n) ∙ (let e : suc n + length hs ≡ n + suc (length hs) = omega arith in ap (λ z. place_from z Origin rest) e)
with_cells_behind d (Some (entry.Procedure result block)) n hs rest f = f n
with_cells_behind d (Some (entry.Class block)) n hs rest f = f n
with_cells_behind d (Some (entry.Virtual result own)) n hs rest f = f n
with_cells_behind d (Some (entry.Unspecified written)) n hs rest f = f n
with_cells_behind d (Some (entry.Attribute name parameter result)) n hs rest f = f n

cells_behind : (s : Source) (rest : List Held) (ds : List DeclNo) (n : ℕ) → place_from n Origin (cells_from s ds ++ rest) ≡ place_from (n + length (cells_from s ds)) Origin rest
cells_behind s rest [] n = let e : n ≡ n + 0 = omega arith in ap (λ z. place_from z Origin rest) e
cells_behind s rest (d ∷ ds) n = with_cells_behind d (entry_of s.tables d) n (cells_from s ds) rest (cells_behind s rest ds)

-- the class `process` has no result
standard_cells : (s : Source) (k : ℕ) (x : Option Text) → is_standard_text is_process_class x ≡ true → cells_in s k x ≡ cells_from s (numbers_of s k)
standard_cells s k (Some (StandardText which)) h = refl
standard_cells s k (Some (BlockText begin ds ss)) h = absurd (cc)
standard_cells s k (Some (ProcedureText result h' a)) h = absurd (cc)
standard_cells s k (Some (ClassText prefix h' ds ss)) h = absurd (cc)
standard_cells s k (Some (PrefixedText class arguments ds ss)) h = absurd (cc)
standard_cells s k (Some ConnectionText) h = absurd (cc)
standard_cells s k None h = absurd (cc)

-- In a loop: behind the connections that are left, the next of which has this place, is that of an origin.
unfoldable pub Counted : Bound → (text place done : ℕ) → Type 0
Counted b k n i = is_process_itself (source_of b) k ≡ true → slot_in (source_of b) k Origin ≡ place_from n Origin (hidden_from (source_of b) k i (drop i b.scopes.blocks))

pub counted_first : (b : Bound) (k n : ℕ) → n ≡ length (cells_in (source_of b) k (text (source_of b) k)) → Counted b k n 0
unfolding Counted slot_in hidden_in source_of is_process_itself
counted_first b k n en = λ is.
    let s = source_of b in
    let hs = hidden_from s k 0 b.scopes.blocks in
    let cells : cells_in s k (text s k) ≡ cells_from s (numbers_of s k) = standard_cells s k (text s k) is in
    let zero' : 0 + length (cells_from s (numbers_of s k)) ≡ n = (let z : 0 + length (cells_from s (numbers_of s k)) ≡ length (cells_from s (numbers_of s k)) = omega arith in z ∙ ap length (sym cells) ∙ sym en) in
    ap (λ z. place_from 0 Origin (z ++ hs)) cells ∙ cells_behind s hs (numbers_of s k) 0 ∙ ap (λ z. place_from z Origin hs) zero'

pub counted_past : (b : Bound) (k n m i block : ℕ) (h : Bool) → Counted b k n i → i < length b.scopes.blocks → block ≡ i → h ≡ is_hidden (source_of b) k block → h ≡ true → m ≡ suc n → Counted b k m (i + 1)
unfolding Counted source_of
counted_past b k n m i block h f le eb eh is em = λ process.
    let s = source_of b in
    let r = block_there b.scopes.blocks i le in
    let next : suc i ≡ i + 1 = omega arith in
    f process ∙ ap (place_from n Origin) (hidden_next b k i r.0 true r.1 r.2 (sym is ∙ eh ∙ ap (is_hidden s k) eb)) ∙ ap (λ z. place_from z Origin (hidden_from s k (suc i) (drop (suc i) b.scopes.blocks))) (sym em) ∙ ap (λ z. place_from m Origin (hidden_from s k z (drop z b.scopes.blocks))) next

pub counted_over : (b : Bound) (k n i block : ℕ) (h : Bool) → Counted b k n i → i < length b.scopes.blocks → block ≡ i → h ≡ is_hidden (source_of b) k block → h ≡ false → Counted b k n (i + 1)
unfolding Counted source_of
counted_over b k n i block h f le eb eh not' = λ process.
    let s = source_of b in
    let r = block_there b.scopes.blocks i le in
    let next : suc i ≡ i + 1 = omega arith in
    f process ∙ ap (place_from n Origin) (hidden_next b k i r.0 false r.1 r.2 (sym not' ∙ eh ∙ ap (is_hidden s k) eb)) ∙ ap (λ z. place_from n Origin (hidden_from s k z (drop z b.scopes.blocks))) next

pub counted_end : (b : Bound) (k n i : ℕ) → Counted b k n i → length b.scopes.blocks ≤ i → OriginSlot (source_of b) k n
unfolding Counted OriginSlot
counted_end b k n i f le = λ process. f process ∙ ap (λ z. place_from n Origin (hidden_from (source_of b) k i z)) (drop_all i b.scopes.blocks le) ∙ ap (λ z. place_from n Origin (origin_in z)) process

pub ruleset frames = (counted_first, counted_past, counted_over, counted_end, frame_first, frame_on, frame_stops, frame_ends, frame_spent, kept_here, kept_nowhere, searched_first, searched_here, searched_past, searched_over, searched_end)
