-- Several left sides.
use Rattle.std.proofs.Common.{◌≡◌, ◌≢◌, ◌<◌, ◌≤◌, ◌+◌, ◌-◌, ℕ, zero, pos, suc, true, false, List, [], ◌∷◌, ◌++◌, length, map, reverse, drop, Some, Bor, refl, sym, ap, ◌∙◌, subst, arith}
use Rattle.std.specs.Prelude.{⊤, slice_get, slice_index_or}
use Rattle.std.proofs.lemmas.List.{reverse-append}
use Rattle.sim_base.specs.declared.numbering.DeclNo.{DeclNo}
use Rattle.sim_base.specs.declared.numbering.TokenNo.{TokenNo}
use Rattle.sim_scope.specs.declared.bound.Bound.{Bound}
use Rattle.sim_scope.specs.Assignments.{last_value, left_sides}
use Rattle.sim_scope.specs.Source.{Source, level_of, line_at, source_of}
use Rattle.sim_tree.specs.declared.expr.Expr.{Expr}
use Rattle.sim_tree.specs.declared.stmt.Assigned.{Assigned}
use Rattle.sim_tree.specs.Syntax.{Expression, Expressions, NoMore}
use Rattle.sim_tree.specs.SyntaxOf.{syntax_of}
use Rattle.sim_tree.specs.SyntaxOfProgram.{right_side_syntax}
use Rattle.sim_code.specs.declared.instr.Instr.{Instr}
use Rattle.sim_code.specs.declared.instr.Instr.TheVariants as i
use Rattle.sim_code.specs.Code.{CodeOf}
use Rattle.sim_meaning.specs.Pending.{ForPlace, Result}
use Rattle.codegen_expr.specs.declared.spot.Spot.{Spot}
use Rattle.codegen_expr.specs.Built.{IsBuilt, KeyBuilt, StandsIn}
use Rattle.codegen_expr.specs.CodeExpr.{ByNameAt, ExprAt, HeldAt}
use Rattle.codegen_expr.specs.EmitObjects.{WritesFit}
use Rattle.codegen_expr.specs.Drafts.{DraftOf, Emits, given_up, with_instr, with_push, with_temp}
use Rattle.codegen_expr.specs.Emit.{Puts, PutsPlace, Writes, WritesElement, WritesNamePlace, WritesPlace, WritesUse}
use Rattle.codegen_expr.specs.Sites.{At, Inside, Pushes, Site, class_number, slot_of}
use Rattle.codegen_expr.proofs.Around.{inside}
use Rattle.codegen_expr.proofs.Pieces.{emits_as, emits_at, emits_none, emits_nothing, emits_push, emits_temp, emits_then}
use Rattle.codegen.specs.declared.left.Left.{Left}
use Rattle.codegen.specs.declared.left.Left.TheVariants as left
use Rattle.codegen.specs.BuiltProgram.{AssignBuilt, LeftBuilt, LeftsBuilt}
use Rattle.codegen.specs.declared.several.Side.{Side}
use Rattle.codegen.specs.CodeLeft.{AssignAt, AtAddress, AtAttribute, GivesAt, GoesAt, InCell, LeftsAt, NoPlace, StoreAt, Stored, ToNamed, ToNamedReference, ToNamedText, ToReference, ToResult, ToText, below, each_stored, stored}
use Rattle.codegen.specs.Emit.{WritesAssignment}
use Rattle.codegen.specs.EmitLeft.{FindsSide, IsLeft, LoadsCell, StoresCell, WritesReferencePlace, operands_in}
use Rattle.codegen.specs.EmitSeveral.{EndsOn, GiveAt, HasGiven, OwesAddresses, SideOf, WritesAddress, WritesAddresses, WritesGive, WritesGives, after, side_in, sides, stored_all, stored_side}
use Rattle.codegen.proofs.Cells.{cell_there, emits_load, emits_store}

-- ---- the left sides

pub sides_length : (x : Expr) (rs : List Assigned) → length (sides x rs) ≡ length rs
sides_length x [] = refl
sides_length x (r ∷ rs) = ap suc (sides_length r.value rs)

abbrev side_with : Assigned → Expr → SideOf
side_with r x = record { sign = r.sign; token = r.token.0; left = x }

sides_stored : (s : Source) (x : Expr) (rs : List Assigned) → each_stored s (left_sides (syntax_of x) (map right_side_syntax rs)) ≡ stored_all s (sides x rs)
sides_stored s x [] = refl
sides_stored s x (r ∷ rs) = ap (λ z. stored s r.sign (line_at s r.token.0) (syntax_of x) ∷ z) (sides_stored s r.value rs)

first_side : (x : Expr) (rs : List Assigned) (y : Assigned) → 0 < length rs → y ≡ slice_index_or rs 0 y → slice_get (sides x rs) 0 ≡ Some (side_with y x)
first_side x [] y le is = absurd (omega (arith, le))
first_side x (r ∷ rs) y le is = ap (λ z. Some (side_with z x)) (sym is)

pub side_first : (x : Expr) (rs : List Assigned) (k : ℕ) (y : Assigned) → k < length rs → k ≡ 0 → y ≡ slice_index_or rs k y → slice_get (sides x rs) k ≡ Some (record { sign = y.sign; token = y.token.0; left = x })
side_first x rs zero y le z is = first_side x rs y le is
side_first x rs (suc k) y le z is = absurd (cc)

later_side : (x : Expr) (rs : List Assigned) (k : ℕ) (y z : Assigned) → suc k < length rs → y ≡ slice_index_or rs (suc k) y → z ≡ slice_index_or rs k z → slice_get (sides x rs) (suc k) ≡ Some (side_with y z.value)
later_side x [] k y z le is iz = absurd (omega (arith, le))
later_side x (r ∷ []) k y z le is iz = absurd (omega (arith, le))
later_side x (r ∷ q ∷ rs) zero y z le is iz = ap (λ u. Some (side_with u r.value)) (sym is) ∙ ap (λ u. Some (side_with y u.value)) (sym iz)
later_side x (r ∷ q ∷ rs) (suc k) y z le is iz = later_side r.value (q ∷ rs) k y z (omega (arith, le)) is iz

pub side_later : (x : Expr) (rs : List Assigned) (k m : ℕ) (y z : Assigned) → k < length rs → k ≢ 0 → y ≡ slice_index_or rs k y → m ≡ k - 1 → z ≡ slice_index_or rs m z → slice_get (sides x rs) k ≡ Some (record { sign = y.sign; token = y.token.0; left = z.value })
side_later x rs zero m y z le ne is em iz = absurd (ne refl)
side_later x rs (suc k) m y z le ne is em iz = later_side x rs k y z le is (subst (λ u. z ≡ slice_index_or rs u z) (let e : m ≡ k = omega (arith, em) in e) iz)

same_some : {A : Type 0} (x y : A) → Some x ≡ Some y → x ≡ y
same_some x y e = cc

from_get : {A : Type 0} (xs : List A) (k : ℕ) (x : A) → slice_get xs k ≡ Some x → drop k xs ≡ x ∷ drop (suc k) xs
from_get [] zero x e = absurd (cc)
from_get [] (suc k) x e = absurd (cc)
from_get (y ∷ ys) zero x e = ap (λ z. z ∷ ys) (same_some y x e)
from_get (y ∷ ys) (suc k) x e = from_get ys k x e

-- the sides that were given the value, before one more and after it
pub side_before : (x : Expr) (rs : List Assigned) (done : ℕ) (y : SideOf) → done < length rs → slice_get (sides x rs) (length rs - 1 - done) ≡ Some y → drop (length rs - (done + 1)) (sides x rs) ≡ y ∷ drop (length rs - done) (sides x rs)
side_before x rs done y le e =
    let back : length rs - (done + 1) ≡ length rs - 1 - done = omega arith in
    let on : suc (length rs - 1 - done) ≡ length rs - done = omega (arith, le) in
    ap (λ z. drop z (sides x rs)) back ∙ from_get (sides x rs) (length rs - 1 - done) y e ∙ ap (λ z. y ∷ drop z (sides x rs)) on

pub no_side : (x : Expr) (rs : List Assigned) → length (sides x rs) ≤ length rs - 0
no_side x rs = let e = sides_length x rs in omega (arith, e)

-- ---- the value

last_right : (x : Expr) (rs : List Assigned) (y : Assigned) → 0 < length rs → y ≡ slice_index_or rs (length rs - 1) y → last_value (syntax_of x) (map right_side_syntax rs) ≡ syntax_of y.value
last_right x [] y le is = absurd (omega (arith, le))
last_right x (r ∷ []) y le is = ap (λ z. syntax_of z.value) (sym is)
last_right x (r ∷ q ∷ rs) y le is = last_right r.value (q ∷ rs) y (omega arith) (subst (λ z. y ≡ slice_index_or (r ∷ q ∷ rs) z y) (let e : length (r ∷ q ∷ rs) - 1 ≡ suc (length (q ∷ rs) - 1) = omega arith in e) is)

-- the sides that are still to come, before one more and after it
pub side_next : (x : Expr) (rs : List Assigned) (k : ℕ) (y : SideOf) → slice_get (sides x rs) k ≡ Some y → drop k (sides x rs) ≡ y ∷ drop (k + 1) (sides x rs)
side_next x rs k y e = let on : suc k ≡ k + 1 = omega arith in from_get (sides x rs) k y e ∙ ap (λ z. y ∷ drop z (sides x rs)) on

pub all_sides : (x : Expr) (rs : List Assigned) (k : ℕ) → length rs ≤ k → length (sides x rs) ≤ k
all_sides x rs k le = let e = sides_length x rs in omega (arith, e, le)

pub none_left : (n k : ℕ) → n ≤ k → n - k ≡ 0
none_left n k le = omega (arith, le)

-- ---- one more left side

-- one left side, and those behind it
lefts_next : (s : Source) (code : CodeOf) (site : Site) (t : Stored) (ts : List Stored) (n k : ℕ) (End : ℕ → ℕ → ℕ → Type 0) (p x q : ℕ) → LeftsAt s code site n (t ∷ []) (EndsOn k) p x → LeftsAt s code site k ts End x q → LeftsAt s code site n (t ∷ ts) End p q
lefts_next s code site (InCell home key) ts n k End p x q f g = (f.0, f.1, subst (λ z. LeftsAt s code site z ts End p q) f.2.0 (subst (λ z. LeftsAt s code site k ts End z q) f.2.1 g))
lefts_next s code site (AtAddress d es line) ts n k End p x q f g = (f.0, f.1, subst (λ z. LeftsAt s code site z ts End f.0 q) f.2.0 (subst (λ z. LeftsAt s code site k ts End z q) f.2.1 g))
lefts_next s code site (AtAttribute e) ts n k End p x q f g = (f.0, f.1, subst (λ z. LeftsAt s code site z ts End f.0 q) f.2.0 (subst (λ z. LeftsAt s code site k ts End z q) f.2.1 g))
lefts_next s code site (ToReference e line) ts n k End p x q f g = (f.0, f.1, subst (λ z. LeftsAt s code site z ts End f.0 q) f.2.0 (subst (λ z. LeftsAt s code site k ts End z q) f.2.1 g))
lefts_next s code site (ToText e line) ts n k End p x q f g = (f.0, f.1, subst (λ z. LeftsAt s code site z ts End f.0 q) f.2.0 (subst (λ z. LeftsAt s code site k ts End z q) f.2.1 g))
lefts_next s code site (ToResult home line) ts n k End p x q f g = (f.0, f.1, subst (λ z. LeftsAt s code site z ts End f.0 q) f.2.0 (subst (λ z. LeftsAt s code site k ts End z q) f.2.1 g))
lefts_next s code site (ToNamed d line) ts n k End p x q f g = (f.0, f.1, subst (λ z. LeftsAt s code site z ts End f.0 q) f.2.0 (subst (λ z. LeftsAt s code site k ts End z q) f.2.1 g))
lefts_next s code site (ToNamedReference d class line) ts n k End p x q f g = (f.0, f.1, subst (λ z. LeftsAt s code site z ts End f.0 q) f.2.0 (subst (λ z. LeftsAt s code site k ts End z q) f.2.1 g))
lefts_next s code site (ToNamedText d line) ts n k End p x q f g = (f.0, f.1, f.2, f.3, subst (λ z. LeftsAt s code site z ts End f.1 q) f.4.0 (subst (λ z. LeftsAt s code site k ts End z q) f.4.1 g))
lefts_next s code site NoPlace ts n k End p x q f g = absurd f

-- the left sides, and what follows
lefts_then : (s : Source) (code : CodeOf) (site : Site) (ts : List Stored) (n m : ℕ) (End : ℕ → ℕ → ℕ → Type 0) (p x q : ℕ) → LeftsAt s code site n ts (EndsOn m) p x → End m x q → LeftsAt s code site n ts End p q
lefts_then s code site [] n m End p x q f g = subst (λ z. End z p q) f.0 (subst (λ z. End m z q) f.1 g)
lefts_then s code site (InCell home key ∷ ts) n m End p x q f g = (f.0, f.1, lefts_then s code site ts n m End p x q f.2 g)
lefts_then s code site (AtAddress d es line ∷ ts) n m End p x q f g = (f.0, f.1, lefts_then s code site ts (suc n) m End f.0 x q f.2 g)
lefts_then s code site (AtAttribute e ∷ ts) n m End p x q f g = (f.0, f.1, lefts_then s code site ts (suc n) m End f.0 x q f.2 g)
lefts_then s code site (ToReference e line ∷ ts) n m End p x q f g = (f.0, f.1, lefts_then s code site ts (suc n) m End f.0 x q f.2 g)
lefts_then s code site (ToText e line ∷ ts) n m End p x q f g = (f.0, f.1, lefts_then s code site ts (suc n) m End f.0 x q f.2 g)
lefts_then s code site (ToResult home line ∷ ts) n m End p x q f g = (f.0, f.1, lefts_then s code site ts (suc n) m End f.0 x q f.2 g)
lefts_then s code site (ToNamed d line ∷ ts) n m End p x q f g = (f.0, f.1, lefts_then s code site ts (suc n) m End f.0 x q f.2 g)
lefts_then s code site (ToNamedReference d class line ∷ ts) n m End p x q f g = (f.0, f.1, lefts_then s code site ts (suc n) m End f.0 x q f.2 g)
lefts_then s code site (ToNamedText d line ∷ ts) n m End p x q f g = (f.0, f.1, f.2, f.3, lefts_then s code site ts (suc n) m End f.1 x q f.4 g)
lefts_then s code site (NoPlace ∷ ts) n m End p x q f g = absurd f

after_more : (us : List Stored) (t : Stored) (n : ℕ) → after (us ++ (t ∷ [])) n ≡ below t (after us n)
after_more [] t n = refl
after_more (u ∷ us) t n = after_more us t (below u n)

gives_more : (s : Source) (code : CodeOf) (site : Site) (temp : ℕ) (us : List Stored) (t : Stored) (n m p x q : ℕ) → m ≡ after us n → GivesAt s code site temp n us p x → ((y : ℕ) × Pushes code site m (i.Load (pos (level_of s site.text)) (pos temp)) x y × StoreAt s code site m t y q) → GivesAt s code site temp n (us ++ (t ∷ [])) p q
gives_more s code site temp [] t n m p x q e f g = subst (λ z. GivesAt s code site temp z (t ∷ []) p q) e (subst (λ z. GivesAt s code site temp m (t ∷ []) z q) f (g.0, q, g.1, g.2, refl))
gives_more s code site temp (u ∷ us) t n m p x q e f g = (f.0, f.1, f.2, f.3, gives_more s code site temp us t (below u n) m f.1 x q e f.4 g)

-- an address is taken off
taken_off : (d : DeclNo) (es : Expressions) (line n m : ℕ) → m ≡ n - 1 → m ≡ below (AtAddress d es line) n
taken_off d es line zero m e = let f : m ≡ 0 = omega (arith, e) in f
taken_off d es line (suc n) m e = let f : m ≡ n = omega (arith, e) in f

attribute_off : (e : Expression) (n m : ℕ) → m ≡ n - 1 → m ≡ below (AtAttribute e) n
attribute_off e zero m h = let f : m ≡ 0 = omega (arith, h) in f
attribute_off e (suc n) m h = let f : m ≡ n = omega (arith, h) in f

reference_off : (e : Expression) (line n m : ℕ) → m ≡ n - 1 → m ≡ below (ToReference e line) n
reference_off e line zero m h = let f : m ≡ 0 = omega (arith, h) in f
reference_off e line (suc n) m h = let f : m ≡ n = omega (arith, h) in f

named_off : (d : DeclNo) (line n m : ℕ) → m ≡ n - 1 → m ≡ below (ToNamed d line) n
named_off d line zero m h = let f : m ≡ 0 = omega (arith, h) in f
named_off d line (suc n) m h = let f : m ≡ n = omega (arith, h) in f

named_text_off : (d : DeclNo) (line n m : ℕ) → m ≡ n - 1 → m ≡ below (ToNamedText d line) n
named_text_off d line zero m h = let f : m ≡ 0 = omega (arith, h) in f
named_text_off d line (suc n) m h = let f : m ≡ n = omega (arith, h) in f

named_reference_off : (d : DeclNo) (class line n m : ℕ) → m ≡ n - 1 → m ≡ below (ToNamedReference d class line) n
named_reference_off d class line zero m h = let f : m ≡ 0 = omega (arith, h) in f
named_reference_off d class line (suc n) m h = let f : m ≡ n = omega (arith, h) in f

text_off : (e : Expression) (line n m : ℕ) → m ≡ n - 1 → m ≡ below (ToText e line) n
text_off e line zero m h = let f : m ≡ 0 = omega (arith, h) in f
text_off e line (suc n) m h = let f : m ≡ n = omega (arith, h) in f

result_off : (home line n m : ℕ) → m ≡ n - 1 → m ≡ below (ToResult home line) n
result_off home line zero m h = let f : m ≡ 0 = omega (arith, h) in f
result_off home line (suc n) m h = let f : m ≡ n = omega (arith, h) in f

module _ (b : Bound) (w : Spot) where
  pub here : (s : Source) (home text : ℕ) → text ≡ w.text → StandsIn s w.text home → Inside s.tables text home
  here s home text stands h = subst (λ z. Inside s.tables z home) (sym stands) (inside s.tables home (length s.tables.blocks) w.text h.found)

  -- what comes never, where what stands before is whole
  given_nothing : (a c : DraftOf) (H : CodeOf → Site → ℕ → ℕ → Type 0) → (a.whole ≡ true → ⊥) → c ≡ given_up a → Emits w a c ⊤ H
  given_nothing a c H never ec =
      let e = emits_nothing w a c (a.whole ≡ true) H never ec in
      record { rest = e.rest; front = e.front; roomier = e.roomier; larger = e.larger; classed = e.classed; thunked = e.thunked; listed = e.listed; built = λ _ v. e.built v v; before = e.before; only = λ v. tt; fits = e.fits; at = e.at }

  -- ---- addresses

  pub at_side : (x : Side) (r r' : Left) → FindsSide b w x.sign x.left.now r → r ≡ r' → IsLeft (source_of b) w (syntax_of x.left.now) (line_at (source_of b) x.token.0) r' (stored_side (source_of b) (side_in x))
  unfolding FindsSide
  at_side x r r' f er = let s = source_of b in subst (λ z. IsLeft s w (syntax_of x.left.now) (line_at s x.token.0) z (stored_side s (side_in x))) er (f (line_at s x.token.0))

  pub address_cell : (a : DraftOf) (k : ℕ) (x : Side) (home place : ℕ) (r : Left) → FindsSide b w x.sign x.left.now r → r ≡ left.Cell home place → WritesAddress b w k a a k (side_in x)
  unfolding WritesAddress
  address_cell a k x home place r f er =
      let s = source_of b in
      let l = at_side x r (left.Cell home place) f er in
      let key = l.0 in
      let built : KeyBuilt s w.text home key = l.2 in
      subst (λ z. Emits w a a (LeftBuilt s w.text z) (λ final site p q. LeftsAt s final site k (z ∷ []) (EndsOn k) p q)) (sym l.1)
      (emits_as w _ _ _ _ a a (λ h. tt) (λ h. built) (λ final site p q stands _ g. (here s home site.text stands built.inside, cell_there s home key built.has, (refl, g))) (emits_none w a))

  pub address_element : (a c : DraftOf) (k m : ℕ) (x : Side) (token : TokenNo) (d : DeclNo) (es : Bor (List Expr)) (r : Left) → FindsSide b w x.sign x.left.now r → r ≡ left.Element token d es → WritesElement b w k a c 0 token d es.now → m ≡ suc k → WritesAddress b w k a c m (side_in x)
  unfolding WritesAddress WritesElement
  address_element a c k m x token d es r f er g em =
      let s = source_of b in
      let l = at_side x r (left.Element token d es) f er in
      subst (λ z. Emits w a c (LeftBuilt s w.text z) (λ final site p q. LeftsAt s final site k (z ∷ []) (EndsOn m) p q)) (sym l)
      (emits_as w _ _ _ _ a c (λ h. h) (λ h. h) (λ final site p q _ _ h. (q, h, (em, refl))) g)

  pub address_text : (a c : DraftOf) (k m : ℕ) (x : Side) (r : Left) → FindsSide b w x.sign x.left.now r → r ≡ left.Text → Writes b w k a c x.left.now → m ≡ suc k → WritesAddress b w k a c m (side_in x)
  unfolding WritesAddress Writes Puts
  address_text a c k m x r f er g em =
      let s = source_of b in
      let l = at_side x r left.Text f er in
      subst (λ z. Emits w a c (LeftBuilt s w.text z) (λ final site p q. LeftsAt s final site k (z ∷ []) (EndsOn m) p q)) (sym l)
      (emits_as w _ _ _ _ a c (λ h. h) (λ h. h) (λ final site p q _ _ h. (q, h, (em, refl))) g)

  pub address_result : (a c : DraftOf) (k m : ℕ) (x : Side) (home place : ℕ) (r : Left) → FindsSide b w x.sign x.left.now r → r ≡ left.Result home place → LoadsCell b k a c home place → m ≡ suc k → WritesAddress b w k a c m (side_in x)
  unfolding WritesAddress
  address_result a c k m x home place r f er ec em =
      let s = source_of b in
      let l = at_side x r (left.Result home place) f er in
      let built : KeyBuilt s w.text home Result = l.1 in
      subst (λ z. Emits w a c (LeftBuilt s w.text z) (λ final site p q. LeftsAt s final site k (z ∷ []) (EndsOn m) p q)) (sym l.0)
      (emits_as w ⊤ _ _ _ a c (λ h. tt) (λ h. built)
      (λ final site p q stands _ g. (q, record { load = g; inside = here s home site.text stands built.inside; within = cell_there s home Result built.has }, (em, refl)))
      (emits_load b w k a c home place Result l.2 ec))

  pub address_attribute : (a c : DraftOf) (k m : ℕ) (x : Side) (r : Left) → FindsSide b w x.sign x.left.now r → r ≡ left.Attribute → WritesPlace b w k a c 0 x.left.now → m ≡ suc k → WritesAddress b w k a c m (side_in x)
  unfolding WritesAddress WritesPlace PutsPlace
  address_attribute a c k m x r f er g em =
      let s = source_of b in
      let l = at_side x r left.Attribute f er in
      subst (λ z. Emits w a c (LeftBuilt s w.text z) (λ final site p q. LeftsAt s final site k (z ∷ []) (EndsOn m) p q)) (sym l)
      (emits_as w _ _ _ _ a c (λ h. h) (λ h. h) (λ final site p q _ _ h. (q, h, (em, refl))) g)

  pub address_reference : (a c : DraftOf) (k m : ℕ) (x : Side) (r : Left) → FindsSide b w x.sign x.left.now r → r ≡ left.Reference → WritesReferencePlace b w k a c x.left.now → m ≡ suc k → WritesAddress b w k a c m (side_in x)
  unfolding WritesAddress WritesReferencePlace
  address_reference a c k m x r f er g em =
      let s = source_of b in
      let l = at_side x r left.Reference f er in
      subst (λ z. Emits w a c (LeftBuilt s w.text z) (λ final site p q. LeftsAt s final site k (z ∷ []) (EndsOn m) p q)) (sym l)
      (emits_as w _ _ _ _ a c (λ h. h) (λ h. h) (λ final site p q _ _ h. (q, h, (em, refl))) g)

  pub address_named : (a c : DraftOf) (k m : ℕ) (x : Side) (d : DeclNo) (r : Left) → FindsSide b w x.sign x.left.now r → r ≡ left.Named d → WritesNamePlace b w k a c false x.token d → m ≡ suc k → WritesAddress b w k a c m (side_in x)
  unfolding WritesAddress WritesNamePlace WritesUse
  address_named a c k m x d r f er g em =
      let s = source_of b in
      let l = at_side x r (left.Named d) f er in
      subst (λ z. Emits w a c (LeftBuilt s w.text z) (λ final site p q. LeftsAt s final site k (z ∷ []) (EndsOn m) p q)) (sym l)
      (emits_as w _ _ _ _ a c (λ h. h) (λ h. h) (λ final site p q _ _ h. (q, h, (em, refl))) g)

  pub address_named_reference : (a c : DraftOf) (k m class : ℕ) (x : Side) (d : DeclNo) (r : Left) → FindsSide b w x.sign x.left.now r → r ≡ left.NamedReference d class → WritesNamePlace b w k a c false x.token d → m ≡ suc k → WritesAddress b w k a c m (side_in x)
  unfolding WritesAddress WritesNamePlace WritesUse
  address_named_reference a c k m class x d r f er g em =
      let s = source_of b in
      let l = at_side x r (left.NamedReference d class) f er in
      subst (λ z. Emits w a c (LeftBuilt s w.text z) (λ final site p q. LeftsAt s final site k (z ∷ []) (EndsOn m) p q)) (sym l)
      (emits_as w _ _ _ _ a c (λ h. h) (λ h. h) (λ final site p q _ _ h. (q, h, (em, refl))) g)

  pub address_named_text : (a c0 c : DraftOf) (k m : ℕ) (x : Side) (d : DeclNo) (r : Left) → FindsSide b w x.sign x.left.now r → r ≡ left.NamedText d → WritesNamePlace b w k a c0 false x.token d → c ≡ with_instr c0 i.Fetch 0 → m ≡ suc k → WritesAddress b w k a c m (side_in x)
  unfolding WritesAddress WritesNamePlace WritesUse
  address_named_text a c0 c k m x d r f er g ec em =
      let s = source_of b in
      let l = at_side x r (left.NamedText d) f er in
      subst (λ z. Emits w a c (LeftBuilt s w.text z) (λ final site p q. LeftsAt s final site k (z ∷ []) (EndsOn m) p q)) (sym l)
      (emits_as w _ _ _ _ a c (λ h. (h, tt)) (λ h. h.0) (λ final site p q _ _ h. (h.0, q, h.1, record { line = 0; is = h.2 }, (em, refl)))
      (emits_then w _ ⊤ (λ final site p q. ByNameAt s final site k d NoMore (ForPlace false (line_at s x.token.0)) p q) (λ final site p q. At final i.Fetch 0 p q) a c0 c g (emits_at w c0 c i.Fetch 0 ec (λ z. cc) refl)))

  pub address_unbuilt : (a c : DraftOf) (k m : ℕ) (x : Side) (r : Left) → FindsSide b w x.sign x.left.now r → r ≡ left.NoPlace → c ≡ given_up a → WritesAddress b w k a c m (side_in x)
  unfolding WritesAddress
  address_unbuilt a c k m x r f er ec = emits_nothing w a c _ _ (λ h. at_side x r left.NoPlace f er h) ec

  pub addresses_all : (a : DraftOf) (xs : List SideOf) → OwesAddresses b w a xs 0 a xs
  unfolding OwesAddresses
  addresses_all a xs end m f = f

  pub addresses_next : (a c d : DraftOf) (xs r r' : List SideOf) (x : SideOf) (n k : ℕ) → OwesAddresses b w a xs n c r → r ≡ x ∷ r' → WritesAddress b w n c d k x → OwesAddresses b w a xs k d r'
  unfolding OwesAddresses WritesAddresses WritesAddress
  addresses_next a c d xs r r' x n k f is g end m h =
      let s = source_of b in
      let t = stored_side s x in
      let ts = stored_all s r' in
      f end m (subst (WritesAddresses b w n c end m) (sym is)
      (emits_as w (LeftBuilt s w.text t × LeftsBuilt s w.text ts) _ _ _ c end (λ z. z) (λ z. z) (λ final site p q _ _ z. lefts_next s final site t ts n k (EndsOn m) p z.0 q z.1 z.2)
      (emits_then w (LeftBuilt s w.text t) (LeftsBuilt s w.text ts) (λ final site p q. LeftsAt s final site n (t ∷ []) (EndsOn k) p q) (λ final site p q. LeftsAt s final site k ts (EndsOn m) p q) c d end g h)))

  pub addresses_none : (a c : DraftOf) (xs r : List SideOf) (n : ℕ) → OwesAddresses b w a xs n c r → r ≡ [] → WritesAddresses b w 0 a c n xs
  unfolding OwesAddresses WritesAddresses
  addresses_none a c xs r n f is = f c n (subst (WritesAddresses b w n c c n) (sym is) (emits_as w ⊤ ⊤ (λ final site p q. q ≡ p) (λ final site p q. EndsOn n n p q) c c (λ h. h) (λ h. h) (λ final site p q _ _ g. (refl, g)) (emits_none w c)))

  -- ---- where the value goes

  pub give_cell : (a c d : DraftOf) (k : ℕ) (v : Side) (home place m : ℕ) (r : Left) (x : Instr) → FindsSide b w v.sign v.left.now r → r ≡ left.Cell home place → m ≡ level_of (source_of b) w.text → x ≡ i.Load (pos m) (pos w.used) → c ≡ with_push a k x 0 → StoresCell b c d home place → WritesGive b w k a d k (side_in v)
  unfolding WritesGive
  give_cell a c d k v home place m r x f er em ex ec ed =
      let s = source_of b in
      let l = at_side v r (left.Cell home place) f er in
      let key = l.0 in
      let load : x ≡ i.Load (pos (level_of s w.text)) (pos w.used) = ex ∙ ap (λ z. i.Load (pos z) (pos w.used)) em in
      subst (λ z. (a.whole ≡ true → LeftBuilt s w.text z) → Emits w a d ⊤ (λ final site p q. GiveAt s final site w.used k k z p q)) (sym l.1)
      (λ _. emits_as w _ _ _ _ a d (λ h. (tt, tt)) (λ h. tt) (λ final site p q stands _ g. (refl, (g.0, subst (λ z. Pushes final site k (i.Load (pos (level_of s z)) (pos w.used)) p g.0) (sym stands) g.1, record { line = 0; is = g.2 })))
      (emits_then w ⊤ ⊤ (λ final site p q. Pushes final site k (i.Load (pos (level_of s w.text)) (pos w.used)) p q) (λ final site p q. At final (i.Store (pos (level_of s home)) (pos (slot_of s final home key))) 0 p q) a c d
      (emits_push w a c k (i.Load (pos (level_of s w.text)) (pos w.used)) 0 (ec ∙ ap (λ z. with_push a k z 0) load) (λ z. cc) refl)
      (emits_store b w c d home place key l.3 ed)))

  pub give_element : (a c d : DraftOf) (k j : ℕ) (v : Side) (m : ℕ) (token : TokenNo) (u : DeclNo) (es : Bor (List Expr)) (r : Left) (x : Instr) → FindsSide b w v.sign v.left.now r → r ≡ left.Element token u es → m ≡ level_of (source_of b) w.text → x ≡ i.Load (pos m) (pos w.used) → c ≡ with_push a k x 0 → d ≡ with_instr c i.Put 0 → j ≡ k - 1 → WritesGive b w k a d j (side_in v)
  unfolding WritesGive
  give_element a c d k j v m token u es r x f er em ex ec ed ej =
      let s = source_of b in
      let l = at_side v r (left.Element token u es) f er in
      let load : x ≡ i.Load (pos (level_of s w.text)) (pos w.used) = ex ∙ ap (λ z. i.Load (pos z) (pos w.used)) em in
      subst (λ z. (a.whole ≡ true → LeftBuilt s w.text z) → Emits w a d ⊤ (λ final site p q. GiveAt s final site w.used k j z p q)) (sym l)
      (λ _. emits_as w _ _ _ _ a d (λ h. (tt, tt)) (λ h. tt) (λ final site p q stands _ g. (taken_off u (operands_in es.now) (line_at s token.0) k j ej, (g.0, subst (λ z. Pushes final site k (i.Load (pos (level_of s z)) (pos w.used)) p g.0) (sym stands) g.1, record { line = 0; is = g.2 })))
      (emits_then w ⊤ ⊤ (λ final site p q. Pushes final site k (i.Load (pos (level_of s w.text)) (pos w.used)) p q) (λ final site p q. At final i.Put 0 p q) a c d
      (emits_push w a c k (i.Load (pos (level_of s w.text)) (pos w.used)) 0 (ec ∙ ap (λ z. with_push a k z 0) load) (λ z. cc) refl)
      (emits_at w c d i.Put 0 ed (λ z. cc) refl)))

  pub give_text : (a c d : DraftOf) (k j : ℕ) (v : Side) (m line : ℕ) (r : Left) (x : Instr) → FindsSide b w v.sign v.left.now r → r ≡ left.Text → m ≡ level_of (source_of b) w.text → x ≡ i.Load (pos m) (pos w.used) → c ≡ with_push a k x 0 → line ≡ line_at (source_of b) v.token.0 → d ≡ with_instr c i.AssignT line → j ≡ k - 1 → WritesGive b w k a d j (side_in v)
  unfolding WritesGive
  give_text a c d k j v m line r x f er em ex ec el ed ej =
      let s = source_of b in
      let l = at_side v r left.Text f er in
      let load : x ≡ i.Load (pos (level_of s w.text)) (pos w.used) = ex ∙ ap (λ z. i.Load (pos z) (pos w.used)) em in
      subst (λ z. (a.whole ≡ true → LeftBuilt s w.text z) → Emits w a d ⊤ (λ final site p q. GiveAt s final site w.used k j z p q)) (sym l)
      (λ _. emits_as w _ _ _ _ a d (λ h. (tt, tt)) (λ h. tt) (λ final site p q stands _ g. (text_off (syntax_of v.left.now) (line_at s v.token.0) k j ej, (g.0, subst (λ z. Pushes final site k (i.Load (pos (level_of s z)) (pos w.used)) p g.0) (sym stands) g.1, g.2)))
      (emits_then w ⊤ ⊤ (λ final site p q. Pushes final site k (i.Load (pos (level_of s w.text)) (pos w.used)) p q) (λ final site p q. At final i.AssignT (line_at s v.token.0) p q) a c d
      (emits_push w a c k (i.Load (pos (level_of s w.text)) (pos w.used)) 0 (ec ∙ ap (λ z. with_push a k z 0) load) (λ z. cc) refl)
      (emits_at w c d i.AssignT (line_at s v.token.0) (ed ∙ ap (with_instr c i.AssignT) el) (λ z. cc) refl)))

  pub give_result : (a c d : DraftOf) (k j : ℕ) (v : Side) (m line home place : ℕ) (r : Left) (x : Instr) → FindsSide b w v.sign v.left.now r → r ≡ left.Result home place → m ≡ level_of (source_of b) w.text → x ≡ i.Load (pos m) (pos w.used) → c ≡ with_push a k x 0 → line ≡ line_at (source_of b) v.token.0 → d ≡ with_instr c i.AssignT line → j ≡ k - 1 → WritesGive b w k a d j (side_in v)
  unfolding WritesGive
  give_result a c d k j v m line home place r x f er em ex ec el ed ej =
      let s = source_of b in
      let l = at_side v r (left.Result home place) f er in
      let load : x ≡ i.Load (pos (level_of s w.text)) (pos w.used) = ex ∙ ap (λ z. i.Load (pos z) (pos w.used)) em in
      subst (λ z. (a.whole ≡ true → LeftBuilt s w.text z) → Emits w a d ⊤ (λ final site p q. GiveAt s final site w.used k j z p q)) (sym l.0)
      (λ _. emits_as w _ _ _ _ a d (λ h. (tt, tt)) (λ h. tt) (λ final site p q stands _ g. (result_off home (line_at s v.token.0) k j ej, (g.0, subst (λ z. Pushes final site k (i.Load (pos (level_of s z)) (pos w.used)) p g.0) (sym stands) g.1, g.2)))
      (emits_then w ⊤ ⊤ (λ final site p q. Pushes final site k (i.Load (pos (level_of s w.text)) (pos w.used)) p q) (λ final site p q. At final i.AssignT (line_at s v.token.0) p q) a c d
      (emits_push w a c k (i.Load (pos (level_of s w.text)) (pos w.used)) 0 (ec ∙ ap (λ z. with_push a k z 0) load) (λ z. cc) refl)
      (emits_at w c d i.AssignT (line_at s v.token.0) (ed ∙ ap (with_instr c i.AssignT) el) (λ z. cc) refl)))

  pub give_attribute : (a c d : DraftOf) (k j : ℕ) (v : Side) (m : ℕ) (r : Left) (x : Instr) → FindsSide b w v.sign v.left.now r → r ≡ left.Attribute → m ≡ level_of (source_of b) w.text → x ≡ i.Load (pos m) (pos w.used) → c ≡ with_push a k x 0 → d ≡ with_instr c i.Put 0 → j ≡ k - 1 → WritesGive b w k a d j (side_in v)
  unfolding WritesGive
  give_attribute a c d k j v m r x f er em ex ec ed ej =
      let s = source_of b in
      let l = at_side v r left.Attribute f er in
      let load : x ≡ i.Load (pos (level_of s w.text)) (pos w.used) = ex ∙ ap (λ z. i.Load (pos z) (pos w.used)) em in
      subst (λ z. (a.whole ≡ true → LeftBuilt s w.text z) → Emits w a d ⊤ (λ final site p q. GiveAt s final site w.used k j z p q)) (sym l)
      (λ _. emits_as w _ _ _ _ a d (λ h. (tt, tt)) (λ h. tt) (λ final site p q stands _ g. (attribute_off (syntax_of v.left.now) k j ej, (g.0, subst (λ z. Pushes final site k (i.Load (pos (level_of s z)) (pos w.used)) p g.0) (sym stands) g.1, record { line = 0; is = g.2 })))
      (emits_then w ⊤ ⊤ (λ final site p q. Pushes final site k (i.Load (pos (level_of s w.text)) (pos w.used)) p q) (λ final site p q. At final i.Put 0 p q) a c d
      (emits_push w a c k (i.Load (pos (level_of s w.text)) (pos w.used)) 0 (ec ∙ ap (λ z. with_push a k z 0) load) (λ z. cc) refl)
      (emits_at w c d i.Put 0 ed (λ z. cc) refl)))

  pub give_reference : (a c d : DraftOf) (k j : ℕ) (v : Side) (m line : ℕ) (r : Left) (x : Instr) → FindsSide b w v.sign v.left.now r → r ≡ left.Reference → m ≡ level_of (source_of b) w.text → x ≡ i.Load (pos m) (pos w.used) → c ≡ with_push a k x 0 → line ≡ line_at (source_of b) v.token.0 → d ≡ with_instr c i.Put line → j ≡ k - 1 → WritesGive b w k a d j (side_in v)
  unfolding WritesGive
  give_reference a c d k j v m line r x f er em ex ec el ed ej =
      let s = source_of b in
      let l = at_side v r left.Reference f er in
      let load : x ≡ i.Load (pos (level_of s w.text)) (pos w.used) = ex ∙ ap (λ z. i.Load (pos z) (pos w.used)) em in
      subst (λ z. (a.whole ≡ true → LeftBuilt s w.text z) → Emits w a d ⊤ (λ final site p q. GiveAt s final site w.used k j z p q)) (sym l)
      (λ _. emits_as w _ _ _ _ a d (λ h. (tt, tt)) (λ h. tt) (λ final site p q stands _ g. (reference_off (syntax_of v.left.now) (line_at s v.token.0) k j ej, (g.0, subst (λ z. Pushes final site k (i.Load (pos (level_of s z)) (pos w.used)) p g.0) (sym stands) g.1, g.2)))
      (emits_then w ⊤ ⊤ (λ final site p q. Pushes final site k (i.Load (pos (level_of s w.text)) (pos w.used)) p q) (λ final site p q. At final i.Put (line_at s v.token.0) p q) a c d
      (emits_push w a c k (i.Load (pos (level_of s w.text)) (pos w.used)) 0 (ec ∙ ap (λ z. with_push a k z 0) load) (λ z. cc) refl)
      (emits_at w c d i.Put (line_at s v.token.0) (ed ∙ ap (with_instr c i.Put) el) (λ z. cc) refl)))

  pub give_named : (a c d : DraftOf) (k j : ℕ) (v : Side) (d' : DeclNo) (m : ℕ) (r : Left) (x : Instr) → FindsSide b w v.sign v.left.now r → r ≡ left.Named d' → m ≡ level_of (source_of b) w.text → x ≡ i.Load (pos m) (pos w.used) → c ≡ with_push a k x 0 → d ≡ with_instr c i.Put 0 → j ≡ k - 1 → WritesGive b w k a d j (side_in v)
  unfolding WritesGive
  give_named a c d k j v d' m r x f er em ex ec ed ej =
      let s = source_of b in
      let l = at_side v r (left.Named d') f er in
      let load : x ≡ i.Load (pos (level_of s w.text)) (pos w.used) = ex ∙ ap (λ z. i.Load (pos z) (pos w.used)) em in
      subst (λ z. (a.whole ≡ true → LeftBuilt s w.text z) → Emits w a d ⊤ (λ final site p q. GiveAt s final site w.used k j z p q)) (sym l)
      (λ _. emits_as w _ _ _ _ a d (λ h. (tt, tt)) (λ h. tt) (λ final site p q stands _ g. (named_off d' (line_at s v.token.0) k j ej, (g.0, subst (λ z. Pushes final site k (i.Load (pos (level_of s z)) (pos w.used)) p g.0) (sym stands) g.1, record { line = 0; is = g.2 })))
      (emits_then w ⊤ ⊤ (λ final site p q. Pushes final site k (i.Load (pos (level_of s w.text)) (pos w.used)) p q) (λ final site p q. At final i.Put 0 p q) a c d
      (emits_push w a c k (i.Load (pos (level_of s w.text)) (pos w.used)) 0 (ec ∙ ap (λ z. with_push a k z 0) load) (λ z. cc) refl)
      (emits_at w c d i.Put 0 ed (λ z. cc) refl)))

  pub give_named_text : (a c d : DraftOf) (k j : ℕ) (v : Side) (d' : DeclNo) (m line : ℕ) (r : Left) (x : Instr) → FindsSide b w v.sign v.left.now r → r ≡ left.NamedText d' → m ≡ level_of (source_of b) w.text → x ≡ i.Load (pos m) (pos w.used) → c ≡ with_push a k x 0 → line ≡ line_at (source_of b) v.token.0 → d ≡ with_instr c i.AssignT line → j ≡ k - 1 → WritesGive b w k a d j (side_in v)
  unfolding WritesGive
  give_named_text a c d k j v d' m line r x f er em ex ec el ed ej =
      let s = source_of b in
      let l = at_side v r (left.NamedText d') f er in
      let load : x ≡ i.Load (pos (level_of s w.text)) (pos w.used) = ex ∙ ap (λ z. i.Load (pos z) (pos w.used)) em in
      subst (λ z. (a.whole ≡ true → LeftBuilt s w.text z) → Emits w a d ⊤ (λ final site p q. GiveAt s final site w.used k j z p q)) (sym l)
      (λ _. emits_as w _ _ _ _ a d (λ h. (tt, tt)) (λ h. tt) (λ final site p q stands _ g. (named_text_off d' (line_at s v.token.0) k j ej, (g.0, subst (λ z. Pushes final site k (i.Load (pos (level_of s z)) (pos w.used)) p g.0) (sym stands) g.1, g.2)))
      (emits_then w ⊤ ⊤ (λ final site p q. Pushes final site k (i.Load (pos (level_of s w.text)) (pos w.used)) p q) (λ final site p q. At final i.AssignT (line_at s v.token.0) p q) a c d
      (emits_push w a c k (i.Load (pos (level_of s w.text)) (pos w.used)) 0 (ec ∙ ap (λ z. with_push a k z 0) load) (λ z. cc) refl)
      (emits_at w c d i.AssignT (line_at s v.token.0) (ed ∙ ap (with_instr c i.AssignT) el) (λ z. cc) refl)))

  pub give_named_reference : (a c e d : DraftOf) (k j : ℕ) (v : Side) (d' : DeclNo) (class m line : ℕ) (r : Left) (x : Instr) → FindsSide b w v.sign v.left.now r → r ≡ left.NamedReference d' class → m ≡ level_of (source_of b) w.text → x ≡ i.Load (pos m) (pos w.used) → c ≡ with_push a k x 0 → WritesFit b w k c e v.token class → line ≡ line_at (source_of b) v.token.0 → d ≡ with_instr e i.Put line → j ≡ k - 1 → WritesGive b w k a d j (side_in v)
  unfolding WritesGive WritesFit
  give_named_reference a c e d k j v d' class m line r x f er em ex ec g el ed ej =
      let s = source_of b in
      let at = line_at s v.token.0 in
      let l = at_side v r (left.NamedReference d' class) f er in
      let load : x ≡ i.Load (pos (level_of s w.text)) (pos w.used) = ex ∙ ap (λ z. i.Load (pos z) (pos w.used)) em in
      subst (λ z. (a.whole ≡ true → LeftBuilt s w.text z) → Emits w a d ⊤ (λ final site p q. GiveAt s final site w.used k j z p q)) (sym l)
      (λ _. emits_as w _ _ _ _ a d (λ h. (tt, (tt, tt))) (λ h. tt) (λ final site p q stands _ g. (named_reference_off d' class at k j ej, (g.0, subst (λ z. Pushes final site k (i.Load (pos (level_of s z)) (pos w.used)) p g.0) (sym stands) g.1, (g.2.0, g.2.1, g.2.2))))
      (emits_then w ⊤ _ (λ final site p q. Pushes final site k (i.Load (pos (level_of s w.text)) (pos w.used)) p q) (λ final site p q. (u : ℕ) × HeldAt s final site k at (class_number s final class) p u × At final i.Put at u q) a c d
      (emits_push w a c k (i.Load (pos (level_of s w.text)) (pos w.used)) 0 (ec ∙ ap (λ z. with_push a k z 0) load) (λ z. cc) refl)
      (emits_then w ⊤ ⊤ (λ final site p q. HeldAt s final site k at (class_number s final class) p q) (λ final site p q. At final i.Put at p q) c e d g (emits_at w e d i.Put at (ed ∙ ap (with_instr e i.Put) el) (λ z. cc) refl))))

  pub give_unbuilt : (a c : DraftOf) (k m : ℕ) (v : Side) (r : Left) → FindsSide b w v.sign v.left.now r → r ≡ left.NoPlace → c ≡ given_up a → WritesGive b w k a c m (side_in v)
  unfolding WritesGive
  give_unbuilt a c k m v r f er ec = λ built. given_nothing a c _ (λ u. at_side v r left.NoPlace f er (built u)) ec

  pub gives_none : (a : DraftOf) (n : ℕ) (xs : List SideOf) → xs ≡ [] → HasGiven b w n a a n xs
  unfolding HasGiven
  gives_none a n xs is =
      let s = source_of b in
      subst (λ z. (a.whole ≡ true → LeftsBuilt s w.text (stored_all s z)) → Emits w a a ⊤ (λ final site p q. (n ≡ after (reverse (stored_all s z)) n) × GivesAt s final site w.used n (reverse (stored_all s z)) p q)) (sym is)
      (λ _. emits_as w _ _ _ _ a a (λ h. h) (λ h. h) (λ final site p q _ _ r. (refl, r)) (emits_none w a))

  pub gives_next : (a c d : DraftOf) (n m k : ℕ) (xs ys : List SideOf) (x : SideOf) → ys ≡ x ∷ xs → HasGiven b w n a c m xs → WritesGive b w m c d k x → HasGiven b w n a d k ys
  unfolding HasGiven WritesGive
  gives_next a c d n m k xs ys x is f g =
      let s = source_of b in
      let t = stored_side s x in
      let ts = stored_all s xs in
      let back : reverse (t ∷ ts) ≡ reverse ts ++ (t ∷ []) = reverse-append (t ∷ []) ts in
      subst (λ z. (a.whole ≡ true → LeftsBuilt s w.text (stored_all s z)) → Emits w a d ⊤ (λ final site p q. (k ≡ after (reverse (stored_all s z)) n) × GivesAt s final site w.used n (reverse (stored_all s z)) p q)) (sym is)
      (λ built.
      let f' : Emits w a c ⊤ (λ final site p q. (m ≡ after (reverse ts) n) × GivesAt s final site w.used n (reverse ts) p q) = f (λ v. (built v).1) in
      let g' : Emits w c d ⊤ (λ final site p q. GiveAt s final site w.used m k t p q) = g (λ v. (built (f'.before v)).0) in
      emits_as w _ _ _ _ a d (λ h. (tt, tt)) (λ h. tt)
      (λ final site p q _ _ r. subst (λ z. (k ≡ after z n) × GivesAt s final site w.used n z p q) (sym back)
      (r.2.0 ∙ ap (λ z. below t z) r.1.0 ∙ sym (after_more (reverse ts) t n), gives_more s final site w.used (reverse ts) t n m p r.0 q r.1.0 r.1.1 r.2.1))
      (emits_then w ⊤ ⊤ (λ final site p q. (m ≡ after (reverse ts) n) × GivesAt s final site w.used n (reverse ts) p q) (λ final site p q. GiveAt s final site w.used m k t p q) a c d f' g'))

  pub gives_done : (a c : DraftOf) (n m k : ℕ) (xs : List SideOf) → HasGiven b w n a c m (drop k xs) → k ≡ 0 → WritesGives b w n a c xs
  unfolding HasGiven WritesGives
  gives_done a c n m k xs f none = λ built.
      let s = source_of b in
      let g : HasGiven b w n a c m xs = subst (λ j. HasGiven b w n a c m (drop j xs)) none f in
      emits_as w ⊤ ⊤ (λ final site p q. (m ≡ after (reverse (stored_all s xs)) n) × GivesAt s final site w.used n (reverse (stored_all s xs)) p q) (λ final site p q. GivesAt s final site w.used n (reverse (stored_all s xs)) p q) a c (λ h. h) (λ h. h) (λ final site p q _ _ r. r.1) (g built)

  -- ---- all

  pub write_several : (a c1 c2 c3 c4 c5 : DraftOf) (x : Expr) (l : List Assigned) (y : Assigned) (k m j : ℕ) (n : Instr) → 1 < length l → k ≡ length l - 1 → y ≡ slice_index_or l k y → c1 ≡ with_temp a w.used → WritesAddresses b w 0 c1 c2 j (sides x l) → Writes b w j c2 c3 y.value → m ≡ level_of (source_of b) w.text → n ≡ i.Store (pos m) (pos w.used) → c4 ≡ with_instr c3 n 0
      → WritesGives b w j c4 c5 (sides x l) → WritesAssignment b w a c5 x l
  unfolding WritesAssignment WritesAddresses Writes Puts WritesGives
  write_several a c1 c2 c3 c4 c5 x [] y k m j n some ek is e1 d f em en e4 g = absurd (omega (arith, some))
  write_several a c1 c2 c3 c4 c5 x (q1 ∷ []) y k m j n some ek is e1 d f em en e4 g = absurd (omega (arith, some))
  write_several a c1 c2 c3 c4 c5 x (q1 ∷ q2 ∷ qs) y k m j n some ek is e1 d f em en e4 g =
      let s = source_of b in
      let l = q1 ∷ q2 ∷ qs in
      let ts = stored_all s (sides x l) in
      let value = syntax_of y.value in
      let store = i.Store (pos (level_of s w.text)) (pos w.used) in
      let right : last_value (syntax_of x) (map right_side_syntax l) ≡ value = last_right x l y (omega arith) (subst (λ z. y ≡ slice_index_or l z y) ek is) in
      let keep : Emits w c3 c4 ⊤ (λ final site p q. At final store 0 p q) = emits_at w c3 c4 store 0 (e4 ∙ ap (λ z. with_instr c3 z 0) (en ∙ ap (λ z. i.Store (pos z) (pos w.used)) em)) (λ z. cc) refl in
      let give : Emits w c4 c5 ⊤ (λ final site p q. GivesAt s final site w.used j (reverse ts) p q) = g (λ u. d.only (f.before (keep.before u))) in
      subst (λ z. Emits w a c5 (AssignBuilt s w.text z (last_value (syntax_of x) (map right_side_syntax l))) (λ final site p q. AssignAt s final site 0 z (last_value (syntax_of x) (map right_side_syntax l)) p q)) (sym (sides_stored s x l))
      (subst (λ z. Emits w a c5 (AssignBuilt s w.text ts z) (λ final site p q. AssignAt s final site 0 ts z p q)) (sym right)
      (emits_as w _ _ _ _ a c5 (λ h. (h.0, (h.1, (tt, tt)))) (λ h. (h.0, h.1.0))
      (λ final site p q stands _ r. lefts_then s final site ts 0 j (GoesAt s final site value ts) p r.2.0 q r.2.1
      (record { x = r.2.2.0; y = r.2.2.2.0; temp = w.used; behind = r.0; within = r.1; value = r.2.2.1; kept = record { line = 0; is = subst (λ z. At final (i.Store (pos (level_of s z)) (pos w.used)) 0 r.2.2.0 r.2.2.2.0) (sym stands) r.2.2.2.1 }; gives = r.2.2.2.2 }))
      (emits_temp w _ _ a c1 c5 w.used refl e1
      (emits_then w (LeftsBuilt s w.text ts) _ (λ final site p q. LeftsAt s final site 0 ts (EndsOn j) p q) (λ final site p q. (u : ℕ) × ExprAt s final site j value p u × ((o : ℕ) × At final store 0 u o × GivesAt s final site w.used j (reverse ts) o q)) c1 c2 c5 d
      (emits_then w (IsBuilt s w.text value) _ (λ final site p q. ExprAt s final site j value p q) (λ final site p q. (u : ℕ) × At final store 0 p u × GivesAt s final site w.used j (reverse ts) u q) c2 c3 c5 f
      (emits_then w ⊤ ⊤ (λ final site p q. At final store 0 p q) (λ final site p q. GivesAt s final site w.used j (reverse ts) p q) c3 c4 c5 keep give))))))

pub ruleset severals = (side_first, side_later, address_cell, address_element, address_text, address_result, address_attribute, address_reference, address_named, address_named_reference, address_named_text, address_unbuilt, give_cell, give_element, give_text, give_result, give_attribute, give_reference, give_named, give_named_text, give_named_reference, give_unbuilt, write_several)
