-- Parts of code with open holes, one behind another, and holes that are filled.
use Rattle.std.proofs.Common.{◌≡◌, ◌<◌, ◌≤◌, ℕ, suc, ℤ, pos, true, List, [], ◌∷◌, length, refl, sym, ap, ◌∙◌, subst, arith, append-nil}
use Rattle.std.specs.Prelude.{⊤, slice_get}
use Rattle.sim_code.specs.declared.instr.Instr.{Instr}
use Rattle.sim_code.specs.declared.instr.Instr.TheVariants as i
use Rattle.sim_code.specs.declared.instr.Lined.{Lined}
use Rattle.sim_code.specs.Code.{CodeOf}
use Rattle.sim_code.specs.Running.{AllRun}
use Rattle.codegen_expr.specs.declared.spot.Spot.{Spot}
use Rattle.codegen_expr.specs.Drafts.{Becomes, DraftOf, Emits, filled_in}
use Rattle.codegen_expr.specs.Sites.{Site, lined}
use Rattle.codegen_expr.proofs.Pieces.{Fronts, becomes_filled, becomes_later, fronts_set, fronts_then, get_front, later_emits, more_behind, more_same, more_then, run_set, set_same, still_behind, still_same, still_then}
use Rattle.codegen.specs.EmitConnections.{LeadTo, OpenEmits, all_filled}
use Rattle.codegen.specs.EmitShared.{OpenAt}
use Rattle.codegen.proofs.Holes.{as_long, get_bound, open_front, open_low, open_set}

-- ---- parts with open holes

pub open_then : (t : Spot) (P Q : Type 0) (A B : CodeOf → Site → ℕ → ℕ → ℕ → Type 0) (a b c : DraftOf) (h : ℕ) (hs : List ℕ) → OpenEmits t a b (h ∷ []) P A → OpenEmits t b c hs Q B
    → OpenEmits t a c (h ∷ hs) (P × Q) (λ final site target p q. (m : ℕ) × A final site target p m × B final site target m q)
open_then t P Q A B a b c h hs f g =
    let fr = fronts_then a.instrs b.instrs c.instrs (f.rest, f.front) (g.rest, g.front) in
    let r1 = f.roomier in
    let r2 = g.roomier in
    let s1 = f.larger in
    let s2 = g.larger in
    let bound : h < length b.instrs = get_bound b.instrs h (lined i.Halt 0) f.holes_open.1 in
    record {
      rest = fr.0;
      front = fr.1;
      roomier = omega (arith, r1, r2);
      larger = omega (arith, s1, s2);
      classed = g.classed ∙ f.classed;
      thunked = still_then f.thunked g.thunked;
      listed = more_then f.listed g.listed;
      built = λ p w. g.built p.1 (f.built p.0 w);
      before = λ w. f.before (g.before w);
      only = λ w. (f.only (g.before w), g.only w);
      fits = λ k. g.fits (f.fits k);
      holes_open = (f.holes_open.0, ap (λ l. slice_get l h) g.front ∙ get_front b.instrs g.rest h (lined i.Halt 0) f.holes_open.1, open_low c.instrs (length b.instrs) (suc h) hs (omega (arith, bound)) g.holes_open);
      at = λ w final site k target l.
          let kb = becomes_later t b c final site (record { front = (g.rest, g.front); roomier = g.roomier; larger = g.larger; classed = g.classed; thunked = g.thunked; listed = g.listed }) k in
          (length b.instrs, f.at (g.before w) final site kb target (l.0, l.1, tt), g.at w final site k target l.2);
    }

pub open_none : (t : Spot) (a : DraftOf) (A : CodeOf → Site → ℕ → ℕ → ℕ → Type 0) → ((final : CodeOf) (site : Site) (target p : ℕ) → A final site target p p) → OpenEmits t a a [] ⊤ A
open_none t a A f = record {
  rest = [];
  front = sym (append-nil a.instrs);
  roomier = omega arith;
  larger = omega arith;
  classed = refl;
  thunked = still_same refl;
  listed = more_same refl;
  built = λ h w. w;
  before = λ w. w;
  only = λ w. tt;
  fits = λ k. k;
  holes_open = tt;
  at = λ w final site k target l. f final site target (length a.instrs);
}

pub open_as : (t : Spot) (P Q : Type 0) (A B : CodeOf → Site → ℕ → ℕ → ℕ → Type 0) (a c : DraftOf) (hs ks : List ℕ) → hs ≡ ks → (Q → P) → (P → Q) → ((final : CodeOf) (site : Site) (target p q : ℕ) → A final site target p q → B final site target p q) → OpenEmits t a c hs P A → OpenEmits t a c ks Q B
open_as t P Q A B a c hs ks e f g h o = subst (λ z. OpenEmits t a c z Q B) e (record {
  rest = o.rest;
  front = o.front;
  roomier = o.roomier;
  larger = o.larger;
  classed = o.classed;
  thunked = o.thunked;
  listed = o.listed;
  built = λ q w. o.built (f q) w;
  before = o.before;
  only = λ w. g (o.only w);
  fits = o.fits;
  holes_open = o.holes_open;
  at = λ w final site k target l. h final site target _ _ (o.at w final site k target l);
})

-- ---- holes that are filled

all_long : (c : DraftOf) (hs : List ℕ) (x : Instr) → length (all_filled c hs x).instrs ≡ length c.instrs
all_long c [] x = refl
all_long c (h ∷ hs) x = all_long (filled_in c h x) hs x ∙ as_long c (filled_in c h x) h x refl

all_same : {A : Type 0} (f : DraftOf → A) (c : DraftOf) (hs : List ℕ) (x : Instr) → ((d : DraftOf) (h : ℕ) → f (filled_in d h x) ≡ f d) → f (all_filled c hs x) ≡ f c
all_same f c [] x e = refl
all_same f c (h ∷ hs) x e = all_same f (filled_in c h x) hs x e ∙ e c h

all_fronts : (xs : List Lined) (c : DraftOf) (low : ℕ) (hs : List ℕ) (x : Instr) → length xs ≤ low → OpenAt c.instrs low hs → Fronts xs c.instrs → Fronts xs (all_filled c hs x).instrs
unfolding filled_in
all_fronts xs c low [] x le o f = f
all_fronts xs c low (h ∷ hs) x le o f =
    let lh = o.0 in
    all_fronts xs (filled_in c h x) (suc h) hs x (omega (arith, le, lh)) (open_set c.instrs h (suc h) hs (lined x 0) (omega arith) o.2) (fronts_set xs c.instrs (filled_in c h x).instrs h (lined x 0) f (omega (arith, le, lh)) refl)

all_fit : (c : DraftOf) (hs : List ℕ) (target : ℕ) → AllRun c.instrs → AllRun (all_filled c hs (i.Jump (pos target))).instrs
unfolding filled_in
all_fit c [] target k = k
all_fit c (h ∷ hs) target k = all_fit (filled_in c h (i.Jump (pos target))) hs target (run_set c.instrs (filled_in c h (i.Jump (pos target))).instrs h (lined (i.Jump (pos target)) 0) refl refl k)

-- what it becomes, and where the jumps lead
all_become : (t : Spot) (c : DraftOf) (low : ℕ) (hs : List ℕ) (target : ℕ) (final : CodeOf) (site : Site) → OpenAt c.instrs low hs → length c.instrs ≡ target → Becomes t (all_filled c hs (i.Jump (pos target))) final site → Becomes t c final site × LeadTo final hs target
unfolding filled_in
all_become t c low [] target final site o e g = (g, tt)
all_become t c low (h ∷ hs) target final site o e g =
    let jump = i.Jump (pos target) in
    let d = filled_in c h jump in
    let same : length d.instrs ≡ length c.instrs = as_long c d h jump refl in
    let r = all_become t d (suc h) hs target final site (open_set c.instrs h (suc h) hs (lined jump 0) (omega arith) o.2) (same ∙ e) g in
    let gd = r.0 in
    let bound : h < length c.instrs = get_bound c.instrs h (lined i.Halt 0) o.1 in
    let fs : length d.instrs < length final.instrs = gd.follows in (
      becomes_filled t c d final site h jump o.1 refl gd,
      (gd.grows.keeps h (lined jump 0) (set_same c.instrs h (lined i.Halt 0) (lined jump 0) o.1) (λ z. cc), record { forward = omega (arith, bound, e); there = omega (arith, fs, same, e) }, r.1),
    )

-- a part with open holes, and another one, behind which the holes lead
pub open_filled : (t : Spot) (P Q : Type 0) (A : CodeOf → Site → ℕ → ℕ → ℕ → Type 0) (B : CodeOf → Site → ℕ → ℕ → Type 0) (a c d e : DraftOf) (hs : List ℕ) (target : ℤ) → OpenEmits t a c hs P A → Emits t c d Q B → target ≡ pos (length d.instrs) → e ≡ all_filled d hs (i.Jump target)
    → Emits t a e (P × Q) (λ final site p q. (m : ℕ) × A final site q p m × B final site m q)
unfolding filled_in
open_filled t P Q A B a c d e hs target f g et ee =
    let n = length d.instrs in
    let jump = i.Jump (pos n) in
    let is : e ≡ all_filled d hs jump = ee ∙ ap (λ z. all_filled d hs (i.Jump z)) et in
    let open_d : OpenAt d.instrs (length a.instrs) hs = open_front c.instrs d.instrs (length a.instrs) hs (g.rest, g.front) f.holes_open in
    let fr = fronts_then a.instrs c.instrs d.instrs (f.rest, f.front) (g.rest, g.front) in
    let front = all_fronts a.instrs d (length a.instrs) hs jump (omega arith) open_d fr in
    let room : (all_filled d hs jump).room ≡ d.room = all_same (λ z. z.room) d hs jump (λ z h. refl) in
    let size : (all_filled d hs jump).size ≡ d.size = all_same (λ z. z.size) d hs jump (λ z h. refl) in
    let whole : (all_filled d hs jump).whole ≡ d.whole = all_same (λ z. z.whole) d hs jump (λ z h. refl) in
    let classes : (all_filled d hs jump).classes ≡ d.classes = all_same (λ z. z.classes) d hs jump (λ z h. refl) in
    let long : length (all_filled d hs jump).instrs ≡ n = all_long d hs jump in
    let r1 = f.roomier in
    let r2 = g.roomier in
    let s1 = f.larger in
    let s2 = g.larger in
    subst (λ z. Emits t a z (P × Q) (λ final site p q. (m : ℕ) × A final site q p m × B final site m q)) (sym is)
    (record {
      rest = front.0;
      front = front.1;
      roomier = omega (arith, r1, r2, room);
      larger = omega (arith, s1, s2, size);
      classed = classes ∙ g.classed ∙ f.classed;
      thunked = still_behind (all_same (λ z. z.thunks) d hs jump (λ z h. refl)) (still_then f.thunked g.thunked);
      listed = more_behind (all_same (λ z. z.lists) d hs jump (λ z h. refl)) (more_then f.listed g.listed);
      built = λ h u. whole ∙ g.built h.1 (f.built h.0 u);
      before = λ u. f.before (g.before (sym whole ∙ u));
      only = λ u. (f.only (g.before (sym whole ∙ u)), g.only (sym whole ∙ u));
      fits = λ k. all_fit d hs n (g.fits (f.fits k));
      at = λ u final site k.
          let all = all_become t d (length a.instrs) hs n final site open_d refl k in
          let ud : d.whole ≡ true = sym whole ∙ u in
          let kc = becomes_later t c d final site (later_emits t c d Q B g) all.0 in
          subst (λ z. (m : ℕ) × A final site z (length a.instrs) m × B final site m z) (sym long) (length c.instrs, f.at (g.before ud) final site kc n all.1, g.at ud final site all.0);
    })
