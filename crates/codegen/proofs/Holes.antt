-- Holes that stay open while other code is written, and are filled one by one.
use Rattle.std.proofs.Common.{◌≡◌, ◌<◌, ◌≤◌, ◌+◌, ℕ, zero, suc, pos, List, [], ◌∷◌, ◌++◌, length, Some, refl, sym, ap, ◌∙◌, subst, arith, length-append}
use Rattle.std.specs.Prelude.{⊤, slice_get, slice_set}
use Rattle.sim_code.specs.declared.instr.Instr.{Instr}
use Rattle.sim_code.specs.declared.instr.Instr.TheVariants as i
use Rattle.sim_code.specs.declared.instr.Lined.{Lined}
use Rattle.sim_code.specs.Code.{CodeOf}
use Rattle.codegen_expr.specs.declared.spot.Spot.{Spot}
use Rattle.codegen_expr.specs.Drafts.{Becomes, DraftOf, Emits, filled_in, with_hole, with_instr, with_push}
use Rattle.codegen_expr.specs.Sites.{Site, lined}
use Rattle.codegen_expr.proofs.Pieces.{Fronts, append_at, becomes_filled, becomes_later, fronts_le, fronts_set, fronts_then, get_front, later_emits, more_before, more_same, more_then, run_more, run_set, set_len, set_other, set_same, still_before, still_same, still_then}
use Rattle.codegen.specs.EmitShared.{OpenAt, Turns}

pub get_bound : {A : Type 0} (xs : List A) (k : ℕ) (x : A) → slice_get xs k ≡ Some x → k < length xs
get_bound [] k x e = absurd (cc)
get_bound (y ∷ ys) zero x e = omega arith
get_bound (y ∷ ys) (suc k) x e = let f = get_bound ys k x e in omega (arith, f)

pub open_front : (l m : List Lined) (low : ℕ) (hs : List ℕ) → Fronts l m → OpenAt l low hs → OpenAt m low hs
open_front l m low [] f h = tt
open_front l m low (k ∷ ks) f h = (h.0, ap (λ z. slice_get z k) f.1 ∙ get_front l f.0 k (lined i.Halt 0) h.1, open_front l m (suc k) ks f h.2)

pub open_set : (l : List Lined) (j low : ℕ) (hs : List ℕ) (x : Lined) → j < low → OpenAt l low hs → OpenAt (slice_set l j x) low hs
open_set l j low [] x le h = tt
open_set l j low (k ∷ ks) x le h =
    let after = h.0 in
    (h.0, set_other l j k x (λ e. (let f : ⊥ = omega (arith, le, after, e) in f)) ∙ h.1, open_set l j (suc k) ks x (omega (arith, le, after)) h.2)

pub open_low : (l : List Lined) (low lower : ℕ) (hs : List ℕ) → lower ≤ low → OpenAt l low hs → OpenAt l lower hs
open_low l low lower [] le h = tt
open_low l low lower (k ∷ ks) le h = let after = h.0 in (omega (arith, le, after), h.1, h.2)

-- no element more
pub turns_none : (t : Spot) (a : DraftOf) (low : ℕ) (H : CodeOf → Site → List ℕ → ℕ → ℕ → Type 0) → ((final : CodeOf) (site : Site) (p : ℕ) → H final site [] p p) → Turns t a a [] low ⊤ H
turns_none t a low H here = record {
  targets = [];
  longer = omega arith;
  roomier = omega arith;
  larger = omega arith;
  classed = refl;
  thunked = still_same refl;
  listed = more_same refl;
  built = λ _ w. w;
  before = λ w. w;
  only = λ w. tt;
  fits = λ h. h;
  keeps = λ x le f. f;
  becomes = λ final site g. g;
  jumps = λ final site g. tt;
  at = λ w final site g. here final site (length a.instrs);
}

-- an element, whose hole is filled, and the others
pub turns_more : (t : Spot) (a m c d : DraftOf) (h low on : ℕ) (hs : List ℕ) (E Q : Type 0) (One : CodeOf → Site → ℕ → ℕ → Type 0) (B H : CodeOf → Site → List ℕ → ℕ → ℕ → Type 0)
    → low ≤ h → slice_get a.instrs h ≡ Some (lined i.Halt 0) → Emits t a m E One → length a.instrs ≤ on → on ≤ length m.instrs → c ≡ filled_in m h (i.Jump (pos on)) → Turns t c d hs (suc h) Q B
    → ((final : CodeOf) (site : Site) (x : ℕ) (rs : List ℕ) (p q : ℕ) → One final site p x → B final site rs x q → H final site (on ∷ rs) p q) → Turns t a d (h ∷ hs) low (E × Q) H
unfolding filled_in
turns_more t a m c d h low on hs E Q One B H lh hole e la lm ec r both =
    let jump = lined (i.Jump (pos on)) 0 in
    let ei : c.instrs ≡ slice_set m.instrs h jump = ap (λ z. z.instrs) ec in
    let room : c.room ≡ m.room = ap (λ z. z.room) ec in
    let size : c.size ≡ m.size = ap (λ z. z.size) ec in
    let whole : c.whole ≡ m.whole = ap (λ z. z.whole) ec in
    let same : length c.instrs ≡ length m.instrs = ap length ei ∙ set_len m.instrs h jump in
    let f : Fronts a.instrs m.instrs = (e.rest, e.front) in
    let open_ : slice_get m.instrs h ≡ Some (lined i.Halt 0) = ap (λ z. slice_get z h) e.front ∙ get_front a.instrs e.rest h (lined i.Halt 0) hole in
    let put : slice_get c.instrs h ≡ Some jump = ap (λ z. slice_get z h) ei ∙ set_same m.instrs h (lined i.Halt 0) jump open_ in
    let bound : h < length a.instrs = get_bound a.instrs h (lined i.Halt 0) hole in
    let am : length a.instrs ≤ length m.instrs = fronts_le a.instrs m.instrs f in
    let cd = r.longer in
    let rm = e.roomier in
    let rd = r.roomier in
    let sm = e.larger in
    let sd = r.larger in
    record {
      targets = on ∷ r.targets;
      longer = omega (arith, am, same, cd);
      roomier = omega (arith, room, rm, rd);
      larger = omega (arith, size, sm, sd);
      classed = r.classed ∙ ap (λ z. z.classes) ec ∙ e.classed;
      thunked = still_then e.thunked (still_before (ap (λ z. z.thunks) ec) r.thunked);
      listed = more_then e.listed (more_before (ap (λ z. z.lists) ec) r.listed);
      built = λ p w. r.built p.1 (whole ∙ e.built p.0 w);
      before = λ w. e.before (sym whole ∙ r.before w);
      only = λ w. (e.only (sym whole ∙ r.before w), r.only w);
      fits = λ k. r.fits (run_set m.instrs c.instrs h jump ei refl (e.fits k));
      keeps = λ x le k. r.keeps x (omega (arith, le, lh)) (fronts_set x m.instrs c.instrs h jump (fronts_then x a.instrs m.instrs k f) (omega (arith, le, lh)) ei);
      becomes = λ final site g. becomes_later t a m final site (later_emits t a m E One e) (becomes_filled t m c final site h (i.Jump (pos on)) open_ ec (r.becomes final site g));
      jumps = λ final site g.
          let gc : Becomes t c final site = r.becomes final site g in
          let fs : length c.instrs < length final.instrs = gc.follows in
          (gc.grows.keeps h jump put (λ z. cc), record { forward = omega (arith, bound, la); there = omega (arith, fs, same, lm) }, r.jumps final site g);
      at = λ w final site g.
          let gm : Becomes t m final site = becomes_filled t m c final site h (i.Jump (pos on)) open_ ec (r.becomes final site g) in
          let one : One final site (length a.instrs) (length m.instrs) = e.at (sym whole ∙ r.before w) final site gm in
          both final site (length c.instrs) r.targets (length a.instrs) (length d.instrs) (subst (λ n. One final site (length a.instrs) n) (sym same) one) (r.at w final site g);
    }

-- ---- how long code is

pub longer : (t : Spot) (a c : DraftOf) (P : Type 0) (H : CodeOf → Site → ℕ → ℕ → Type 0) → Emits t a c P H → length a.instrs ≤ length c.instrs
longer t a c P H e = fronts_le a.instrs c.instrs (e.rest, e.front)

one_more : (a c : List Lined) (x : Lined) → c ≡ a ++ (x ∷ []) → length c ≡ suc (length a)
one_more a c x e = ap length e ∙ length-append a (x ∷ []) ∙ (let f : length a + length (x ∷ []) ≡ suc (length a) = omega arith in f)

pub longer_put : (a c : DraftOf) (x : Instr) (line : ℕ) → c ≡ with_instr a x line → length c.instrs ≡ suc (length a.instrs)
unfolding with_instr
longer_put a c x line e = one_more a.instrs c.instrs (lined x line) (ap (λ z. z.instrs) e)

pub longer_push : (a c : DraftOf) (n : ℕ) (x : Instr) (line : ℕ) → c ≡ with_push a n x line → length c.instrs ≡ suc (length a.instrs)
unfolding with_push
longer_push a c n x line e = one_more a.instrs c.instrs (lined x line) (ap (λ z. z.instrs) e)

pub longer_hole : (a c : DraftOf) → c ≡ with_hole a → length c.instrs ≡ suc (length a.instrs)
unfolding with_hole
longer_hole a c e = one_more a.instrs c.instrs (lined i.Halt 0) (ap (λ z. z.instrs) e)

pub hole_there : (a c : DraftOf) → c ≡ with_hole a → slice_get c.instrs (length a.instrs) ≡ Some (lined i.Halt 0)
unfolding with_hole
hole_there a c e = ap (λ z. slice_get z (length a.instrs)) (ap (λ z. z.instrs) e) ∙ append_at a.instrs (lined i.Halt 0)

pub as_long : (a c : DraftOf) (k : ℕ) (x : Instr) → c ≡ filled_in a k x → length c.instrs ≡ length a.instrs
unfolding filled_in
as_long a c k x e = ap length (ap (λ z. z.instrs) e) ∙ set_len a.instrs k (lined x 0)

-- a hole, of which nothing is known in the end
pub emits_hole : (t : Spot) (a c : DraftOf) → c ≡ with_hole a → Emits t a c ⊤ (λ final site p q. (q ≡ suc p) × (q < length final.instrs))
unfolding with_hole
emits_hole t a c e =
    let ei : c.instrs ≡ a.instrs ++ (lined i.Halt 0 ∷ []) = ap (λ z. z.instrs) e in
    let ew : c.whole ≡ a.whole = ap (λ z. z.whole) e in
    let er : c.room ≡ a.room = ap (λ z. z.room) e in
    let es : c.size ≡ a.size = ap (λ z. z.size) e in
    record {
      rest = lined i.Halt 0 ∷ [];
      front = ei;
      roomier = omega (arith, er);
      larger = omega (arith, es);
      classed = ap (λ z. z.classes) e;
      thunked = still_same (ap (λ z. z.thunks) e);
      listed = more_same (ap (λ z. z.lists) e);
      built = λ _ w. ew ∙ w;
      before = λ w. sym ew ∙ w;
      only = λ w. tt;
      fits = run_more a.instrs c.instrs (lined i.Halt 0) ei refl;
      at = λ w final site g. (one_more a.instrs c.instrs (lined i.Halt 0) ei, g.follows);
    }

-- said otherwise, where the code stands
pub emits_here : (t : Spot) (P : Type 0) (A B : CodeOf → Site → ℕ → ℕ → Type 0) (a c : DraftOf) → ((final : CodeOf) (site : Site) → site.text ≡ t.text → A final site (length a.instrs) (length c.instrs) → B final site (length a.instrs) (length c.instrs)) → Emits t a c P A → Emits t a c P B
emits_here t P A B a c f e = record { rest = e.rest; front = e.front; roomier = e.roomier; larger = e.larger; classed = e.classed; thunked = e.thunked; listed = e.listed; built = e.built; before = e.before; only = e.only; fits = e.fits; at = λ w final site g. f final site g.stands (e.at w final site g) }
