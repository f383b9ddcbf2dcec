-- Declared identifiers among the tokens of a derivation.
use Rattle.std.proofs.Common.{◌≡◌, ◌<◌, ◌≤◌, ◌+◌, ℕ, List, [], ◌∷◌, ◌++◌, sym, subst, append-nil, arith}
use Rattle.std.specs.List.{AllByRecursion}
use Rattle.sim_base.specs.declared.token.Token.{Token}
use Rattle.sim_scope.specs.Building.{Mark}
use Rattle.sim_scope.specs.Runs.{each}
use Rattle.sim_tree.specs.Grammar.{Symbol}
use Rattle.sim_tree.specs.Named.{IsAscending}
use Rattle.sim_tree.specs.Reading.{Forest, Reads, done, leaf, node, place, reads-any, reads-done, reads-here, reads-kept, reads-mark, reads-none, reads-part, reads-skip}
use Rattle.xref_order.specs.Declared.{own_token}

-- the tokens that a derivation keeps
abbrev pub leaves : Forest → List ℕ
leaves done = []
leaves (leaf i kind value f) = i ∷ leaves f
leaves (place i f) = leaves f
leaves (node n inside f) = leaves inside ++ leaves f

-- what marks declare is among these, in order
pub data Within : List Mark → List ℕ → Type 0 where
  none : Within [] []
  over : {ms : List Mark} {l : List ℕ} (i : ℕ) → Within ms l → Within ms (i ∷ l)
  quiet : {m : Mark} {ms : List Mark} {l : List ℕ} → own_token m ≡ [] → Within ms l → Within (m ∷ ms) l
  own : {m : Mark} {ms : List Mark} {l : List ℕ} {i : ℕ} → own_token m ≡ i ∷ [] → Within ms l → Within (m ∷ ms) (i ∷ l)

pub nothing : (l : List ℕ) → Within [] l
nothing [] = none
nothing (i ∷ l) = over i (nothing l)

pub both : {ms ns : List Mark} {l m : List ℕ} → Within ms l → Within ns m → Within (ms ++ ns) (l ++ m)
both none h = h
both (over i w) h = over i (both w h)
both (quiet e w) h = quiet e (both w h)
both (own e w) h = own e (both w h)

pub ahead : {ms : List Mark} (l : List ℕ) {m : List ℕ} → Within ms m → Within ms (l ++ m)
ahead [] w = w
ahead (i ∷ l) w = over i (ahead l w)

pub behind : {ms : List Mark} {l : List ℕ} (m : List ℕ) → Within ms l → Within ms (l ++ m)
behind m none = nothing m
behind m (over i w) = over i (behind m w)
behind m (quiet e w) = quiet e (behind m w)
behind m (own e w) = own e (behind m w)

pub also : {ms ns : List Mark} {l : List ℕ} → Within ms l → Within ns [] → Within (ms ++ ns) l
also {ms} {ns} {l} w h = subst (Within (ms ++ ns)) (append-nil l) (both w h)

-- ---- the tokens ascend

-- from one number up to another
abbrev Between : ℕ → ℕ → List ℕ → Type 0
Between i j [] = i ≤ j
Between i j (x ∷ l) = (i ≤ x) × Between (x + 1) j l

between_later : (h i j : ℕ) (l : List ℕ) → h ≤ i → Between i j l → Between h j l
between_later h i j [] le b = omega (arith, le, b)
between_later h i j (x ∷ l) le b = (omega (arith, le, b.0), b.1)

between_both : (i j k : ℕ) (l m : List ℕ) → Between i j l → Between j k m → Between i k (l ++ m)
between_both i j k [] m b c = between_later i j k m b c
between_both i j k (x ∷ l) m b c = (b.0, between_both (x + 1) j k l m b.1 c)

pub leaves_between : {most : ℕ} {ws : List Token} {d : ℕ} {s : List Symbol} {i : ℕ} {f : Forest} {j : ℕ} → Reads most ws d s i f j → Between i j (leaves f)
leaves_between reads-done = omega arith
leaves_between (reads-kept h r) = (omega arith, leaves_between r)
leaves_between (reads-mark {start = i} {end = j} {f = f} h r) = between_later i (i + 1) j (leaves f) (omega arith) (leaves_between r)
leaves_between (reads-any {start = i} {end = j} {f = f} h r) = between_later i (i + 1) j (leaves f) (omega arith) (leaves_between r)
leaves_between (reads-none h r) = leaves_between r
leaves_between (reads-here r) = leaves_between r
leaves_between (reads-part {start = i} {m = m} {end = j} {f = f} {g = g} h sh r q) = between_both i m j (leaves f) (leaves g) (leaves_between r) (leaves_between q)
leaves_between (reads-skip h may r) = leaves_between r

above_all : (x i j : ℕ) (l : List ℕ) → x < i → Between i j l → AllByRecursion (λ y. x < y) l
above_all x i j [] lt b = tt
above_all x i j (y ∷ l) lt b = (omega (arith, lt, b.0), above_all x (y + 1) j l (omega (arith, lt, b.0)) b.1)

ascending : (i j : ℕ) (l : List ℕ) → Between i j l → IsAscending l
ascending i j [] b = tt
ascending i j (x ∷ l) b = (above_all x (x + 1) j l (omega arith) b.1, ascending (x + 1) j l b.1)

among_all : (x : ℕ) {ms : List Mark} {l : List ℕ} → Within ms l → AllByRecursion (λ y. x < y) l → AllByRecursion (λ y. x < y) (each own_token ms)
among_all x none all = tt
among_all x (over i w) all = among_all x w all.1
among_all x (quiet {ms = ms} e w) all = subst (λ z. AllByRecursion (λ y. x < y) (z ++ each own_token ms)) (sym e) (among_all x w all)
among_all x (own {ms = ms} e w) all = subst (λ z. AllByRecursion (λ y. x < y) (z ++ each own_token ms)) (sym e) (all.0, among_all x w all.1)

pub within_ascend : {ms : List Mark} {l : List ℕ} → Within ms l → IsAscending l → IsAscending (each own_token ms)
within_ascend none h = tt
within_ascend (over i w) h = within_ascend w h.1
within_ascend (quiet {ms = ms} e w) h = subst (λ z. IsAscending (z ++ each own_token ms)) (sym e) (within_ascend w h)
within_ascend (own {ms = ms} {i = i} e w) h = subst (λ z. IsAscending (z ++ each own_token ms)) (sym e) (among_all i w h.0, within_ascend w h.1)

pub leaves_ascend : {most : ℕ} {ws : List Token} {d : ℕ} {s : List Symbol} {i : ℕ} {f : Forest} {j : ℕ} → Reads most ws d s i f j → IsAscending (leaves f)
leaves_ascend {i = i} {f = f} {j = j} r = ascending i j (leaves f) (leaves_between r)
