-- The cells of a new instance and of its frame.
use Rattle.std.proofs.Common.{◌≡◌, ◌<◌, ◌≤◌, ◌+◌, ℕ, suc, Bool, true, false, List, [], ◌∷◌, length, map, Option, None, refl, sym, ◌∙◌, subst, arith, length-append}
use Rattle.std.specs.Prelude.{◌==◌, ◌&&◌, nat_lt, slice_get}
use Rattle.sim_scope.specs.Source.{Source}
use Rattle.sim_scope.specs.Tables.{BlockOf}
use Rattle.sim_code.specs.Code.{CodeOf}
use Rattle.sim_code.specs.Machine.{Cells, Value, joined}
use Rattle.sim_code.proofs.Lifts.{Both}
use Rattle.sim_meaning.specs.Levels.{is_process_itself}
use Rattle.sim_meaning.specs.Pending.{Connection, Declared, Held, Instances, Key, Origin, Result, Val, held}
use Rattle.sim_meaning.specs.Texts.{text}
use Rattle.codegen_expr.specs.Sites.{HasCell, cells_in, hidden_before, frame_text, hidden_from, hidden_in, is_connection, origin_in, own_part, place_of}
use Rattle.codegen.specs.Agrees.{Agrees}
use Rattle.sim_relate.proofs.Known.{SlotAt, ValAt, is_declared, is_fixed}
use Rattle.sim_relate.proofs.Frames.{bool_cases, hidden_missing}
use Rattle.sim_relate.proofs.Slots.{AllEmpty, HeldAt, cells_read, key_of, keys_length, keys_place, not_held, place_behind, place_first}

less_is : (a b : ℕ) → nat_lt a b ≡ true → a < b
less_is a b e = grind (arith, e)

more_is : (a b : ℕ) → nat_lt a b ≡ false → b ≤ a
more_is a b e = grind (arith, e)

pub less_or : {A : Type 0} (a b : ℕ) → (a < b → A) → (b ≤ a → A) → A
less_or a b f g = bool_cases (nat_lt a b) (λ e. f (less_is a b e)) (λ e. g (more_is a b e))

pub undeclared_varies : (s : Source) (key : Key) → is_declared key ≡ false → is_fixed s key ≡ false
undeclared_varies s (Declared d) e = absurd (cc)
undeclared_varies s Result e = absurd (cc)
undeclared_varies s (Connection x) e = refl
undeclared_varies s Origin e = absurd (cc)

hidden_one_empty : (c : Bool) (b : BlockOf) (hs : List Held) → AllEmpty hs → AllEmpty (hidden_before c b hs)
hidden_one_empty true b hs a = (refl, a)
hidden_one_empty false b hs a = a

hidden_empty_from : (s : Source) (k n : ℕ) (bs : List BlockOf) → is_process_itself s k ≡ false → AllEmpty (hidden_from s k n bs)
hidden_empty_from s k n [] e = no_origin (is_process_itself s k) e
  where
    no_origin : (c : Bool) → c ≡ false → AllEmpty (origin_in c)
    no_origin false e = tt
    no_origin true e = absurd (cc (e))
hidden_empty_from s k n (b ∷ bs) e = hidden_one_empty (is_connection b.kind && frame_text s n == k) b (hidden_from s k (suc n) bs) (hidden_empty_from s k (suc n) bs e)

-- the hidden cells are empty at first, but for an origin
pub hidden_empty : (s : Source) (k : ℕ) → is_process_itself s k ≡ false → AllEmpty (hidden_in s k)
unfolding hidden_in
hidden_empty s k e = hidden_empty_from s k 0 s.tables.blocks e

-- an origin is in `process` itself alone
abbrev pub MayLie : Source → ℕ → Key → Type 0
MayLie s k key = key ≡ Origin → is_process_itself s k ≡ false

module _ (s : Source) (agrees : Agrees s) (k : ℕ) (hs : List Held) (keys : map key_of hs ≡ map key_of (cells_in s k (text s k))) where
  same_place : (key : Key) → place_of key hs ≡ place_of key (cells_in s k (text s k))
  same_place key = keys_place key hs (cells_in s k (text s k)) keys

  same_length : length hs ≡ length (cells_in s k (text s k))
  same_length = keys_length hs (cells_in s k (text s k)) keys

  parts_long : length (own_part s k) ≡ length (cells_in s k (text s k)) + length (hidden_in s k)
  parts_long = length-append (cells_in s k (text s k)) (hidden_in s k)

  undeclared : (key : Key) → HasCell s k key → length (cells_in s k (text s k)) ≤ place_of key (cells_in s k (text s k)) → is_declared key ≡ true → MayLie s k key → ⊥
  unfolding hidden_in
  undeclared key has le e f =
      let place = place_behind key (cells_in s k (text s k)) (hidden_in s k) le in
      let missing = hidden_missing s agrees key e k 0 f s.tables.blocks in
      let long = parts_long in
      omega (arith, has, place, missing, long)

  -- the declared cells are there
  pub declared_there : (key : Key) → HasCell s k key → is_declared key ≡ true → MayLie s k key → place_of key hs < length hs
  declared_there key has e f =
      let p = same_place key in
      let n = same_length in
      less_or (place_of key (cells_in s k (text s k))) (length (cells_in s k (text s k))) (λ lt. omega (arith, lt, p, n)) (λ le. absurd (undeclared key has le e f))

  pub cells_by_key : (code : CodeOf) (m : Instances) (cells : Cells) → HeldAt s code m hs cells → ((key : Key) → HasCell s k key → MayLie s k key → length (cells_in s k (text s k)) ≤ place_of key (own_part s k) → joined (slice_get cells (place_of key (own_part s k))) ≡ None) → (key : Key) → HasCell s k key → MayLie s k key → SlotAt s code m (is_fixed s key) key (held key hs) (joined (slice_get cells (place_of key (own_part s k))))
  cells_by_key code m cells at none key has f =
      let p = same_place key in
      let n = same_length in
      less_or (place_of key (cells_in s k (text s k))) (length (cells_in s k (text s k)))
      (λ lt. let first = place_first key (cells_in s k (text s k)) (hidden_in s k) lt in
      let there : place_of key hs < length hs = omega (arith, lt, p, n) in
      subst (λ z. SlotAt s code m (is_fixed s key) key (held key hs) (joined (slice_get cells z))) (p ∙ sym first) (cells_read s code m key hs cells at there))
      (λ le. let place = place_behind key (cells_in s k (text s k)) (hidden_in s k) le in
      let past : length (cells_in s k (text s k)) ≤ place_of key (own_part s k) = omega (arith, place) in
      let missing : held key hs ≡ None = not_held key hs (omega (arith, le, p, n)) in
      let empty = none key has f past in
      let varies : is_fixed s key ≡ false = bool_cases (is_declared key) (λ e. absurd (undeclared key has le e f)) (λ e. undeclared_varies s key e) in
      both_none (is_fixed s key) (held key hs) (joined (slice_get cells (place_of key (own_part s k)))) varies missing empty)
    where
      both_none : (f : Bool) (v : Option Val) (c : Option Value) → f ≡ false → v ≡ None → c ≡ None → SlotAt s code m f key v c
      both_none true v c e ev ec = absurd (cc)
      both_none false v c e ev ec = subst (λ z. Both (ValAt s code m) z c) (sym ev) (subst (λ z. Both (ValAt s code m) None z) (sym ec) tt)
