-- The matches that are listed, and the text of each class.
use Rattle.std.proofs.Common.{◌≡◌, ◌≢◌, ◌<◌, ◌≤◌, ◌+◌, ◌-◌, ℕ, zero, suc, Bool, true, false, List, [], ◌∷◌, ◌++◌, drop, length, map, Option, Some, None, refl, sym, ap, ◌∙◌, subst, arith, append_assoc, append-nil}
use Rattle.std.specs.Prelude.{slice_get, slice_set}
use Rattle.std.proofs.lemmas.List.{drop_all}
use Rattle.sim_base.specs.declared.numbering.DeclNo.{DeclNo}
use Rattle.sim_scope.specs.declared.bound.Bound.{Bound}
use Rattle.sim_scope.specs.declared.scopes.Declaration.{Declaration}
use Rattle.sim_scope.specs.declared.types.Entry.{Entry}
use Rattle.sim_scope.specs.Scopes.{entry_in, entry_is, entry_of, is_virtual}
use Rattle.sim_scope.specs.Source.{Source, source_of}
use Rattle.sim_code.specs.declared.code.Match.{Match}
use Rattle.sim_meaning.specs.Levels.{has_levels}
use Rattle.sim_meaning.specs.Texts.{text}
use Rattle.sim_meaning.specs.Virtuals.{match_in_text}
use Rattle.program_texts.specs.declared.tree.TextTree.{TextTree}
use Rattle.program_texts.specs.declared.tree.TextTree.TheVariants as tree
use Rattle.program_texts.specs.TextTrees.{AreTexts, block_text, class_text, heading_of, prefixed_text, text_in}
use Rattle.sim_tree.specs.declared.expr.Identifier.{Identifier}
use Rattle.sim_tree.specs.Syntax.{Begin, Block, Heading, Prefix}
use Rattle.sim_tree.specs.SyntaxOfProgram.{block_syntax, prefix_syntax}
use Rattle.codegen_expr.specs.Drafts.{DraftOf, class_of}
use Rattle.codegen_expr.specs.Sites.{block_number}
use Rattle.codegen.specs.Compiled.{match_listed, match_of_row, matches_from, matches_of}
use Rattle.codegen.specs.EmitMatches.{AreMatches, AreTextsOfClasses, AreVirtuals, class_if, joined, text_put, virtual_in, virtuals_from}
use Rattle.codegen.specs.Planning.{has_number}

-- ---- virtuals

pub virtual_added : (old new : List DeclNo) (d : DeclNo) (t o : Bool) → t ≡ o → t ≡ true → new ≡ old ++ (d ∷ []) → new ≡ old ++ virtual_in o d.0 []
virtual_added old new d t o e is en = en ∙ ap (λ z. old ++ virtual_in z d.0 []) (sym is ∙ e)

pub no_virtual : (old : List DeclNo) (d : DeclNo) (t o : Bool) → t ≡ o → t ≡ false → old ≡ old ++ virtual_in o d.0 []
no_virtual old d t o e is = sym (append-nil old) ∙ ap (λ z. old ++ virtual_in z d.0 []) (sym is ∙ e)

-- those that are found, and those of the rest
abbrev pub OwesVirtuals : Bound → List DeclNo → (done : ℕ) → Type 0
OwesVirtuals b ds i = ds ++ virtuals_from i (drop i b.scopes.declarations) ≡ virtuals_from 0 b.scopes.declarations

virtual_first : (t : Bool) (v : ℕ) (ds : List DeclNo) → virtual_in t v ds ≡ virtual_in t v [] ++ ds
virtual_first false v ds = refl
virtual_first true v ds = refl

drop_at : {A : Type 0} (xs : List A) (k : ℕ) → k < length xs → (x : A) × (slice_get xs k ≡ Some x) × (drop k xs ≡ x ∷ drop (suc k) xs)
drop_at [] k le = absurd (omega (arith, le))
drop_at (x ∷ xs) zero le = (x, refl, refl)
drop_at (x ∷ xs) (suc k) le = drop_at xs k (omega (arith, le))

entry_there : (b : Bound) (i : ℕ) (row : Declaration) → slice_get b.scopes.declarations i ≡ Some row → entry_is is_virtual (entry_of b.scopes (record { 0 = i })) ≡ is_virtual row.entry
unfolding entry_of
entry_there b i row e = ap (λ z. entry_is is_virtual (entry_in z)) e

pub virtuals_next : (b : Bound) (ds new : List DeclNo) (i n : ℕ) (o : Option Entry) → OwesVirtuals b ds i → i < length b.scopes.declarations → n ≡ i → o ≡ entry_of b.scopes (record { 0 = n }) → new ≡ ds ++ virtual_in (entry_is is_virtual o) n [] → OwesVirtuals b new (i + 1)
virtuals_next b ds new i n o f le en eo e =
    let rows = b.scopes.declarations in
    let row = drop_at rows i le in
    let rest = virtuals_from (suc i) (drop (suc i) rows) in
    let t = is_virtual row.0.entry in
    let added : new ≡ ds ++ virtual_in t i [] =
    e ∙ ap (λ z. ds ++ virtual_in (entry_is is_virtual z) n []) eo ∙ ap (λ z. ds ++ virtual_in (entry_is is_virtual (entry_of b.scopes (record { 0 = z }))) z []) en ∙ ap (λ z. ds ++ virtual_in z i []) (entry_there b i row.0 row.1) in
    let more : suc i ≡ i + 1 = omega arith in
    subst (OwesVirtuals b new) more
    (ap (λ z. z ++ rest) added ∙ append_assoc ds (virtual_in t i []) rest ∙ ap (λ z. ds ++ z) (sym (virtual_first t i rest)) ∙ ap (λ z. ds ++ virtuals_from i z) (sym row.2) ∙ f)

pub virtuals_last : (b : Bound) (ds : List DeclNo) (i : ℕ) → OwesVirtuals b ds i → length b.scopes.declarations ≤ i → AreVirtuals b ds
unfolding AreVirtuals source_of
virtuals_last b ds i f le = sym (append-nil ds) ∙ sym (ap (λ z. ds ++ virtuals_from i z) (drop_all i b.scopes.declarations le)) ∙ f

-- ---- matches

pub match_added : (s : Source) (old new : List Match) (v n found : ℕ) (e : Option (Option ℕ)) (o : Option ℕ) → o ≡ joined e → o ≡ Some found → n ≡ block_number s found → new ≡ old ++ (record { virtual_number = v; block = n } ∷ []) → new ≡ old ++ match_listed s v e []
match_added s old new v n found None o eo is en e = let clash : Some found ≡ None = sym is ∙ eo in absurd (cc)
match_added s old new v n found (Some None) o eo is en e = let clash : Some found ≡ None = sym is ∙ eo in absurd (cc)
match_added s old new v n found (Some (Some k)) o eo is en e =
    let same : found ≡ k = (let h : Some found ≡ Some k = sym is ∙ eo in cc) in
    e ∙ ap (λ z. old ++ (record { virtual_number = v; block = z } ∷ [])) (en ∙ ap (block_number s) same)

pub no_match : (s : Source) (old : List Match) (v : ℕ) (e : Option (Option ℕ)) (o : Option ℕ) → o ≡ joined e → o ≡ None → old ≡ old ++ match_listed s v e []
no_match s old v None o eo is = sym (append-nil old)
no_match s old v (Some None) o eo is = sym (append-nil old)
no_match s old v (Some (Some k)) o eo is = let clash : None ≡ Some k = sym is ∙ eo in absurd (cc)

-- the matches of virtuals that are numbered
abbrev pub listed_in : Source → (text : ℕ) → List DeclNo → List Match
listed_in s k [] = []
listed_in s k (d ∷ ds) = match_listed s d.0 (match_in_text s d.0 (Some k)) (listed_in s k ds)

listed_all : (s : Source) (k v : ℕ) (rows : List Declaration) → listed_in s k (virtuals_from v rows) ≡ matches_from s k v rows
listed_all s k v [] = refl
listed_all s k v (row ∷ rows) = more (is_virtual row.entry) (listed_all s k (suc v) rows)
  where
    more : (t : Bool) → listed_in s k (virtuals_from (suc v) rows) ≡ matches_from s k (suc v) rows → listed_in s k (virtual_in t v (virtuals_from (suc v) rows)) ≡ match_of_row s v k t (matches_from s k (suc v) rows)
    more false e = e
    more true e = ap (match_listed s v (match_in_text s v (Some k))) e

listed_first : (s : Source) (v : ℕ) (e : Option (Option ℕ)) (xs : List Match) → match_listed s v e xs ≡ match_listed s v e [] ++ xs
listed_first s v None xs = refl
listed_first s v (Some None) xs = refl
listed_first s v (Some (Some k)) xs = refl

abbrev pub OwesMatches : Bound → (text : ℕ) → List DeclNo → List Match → (rest : List DeclNo) → Type 0
OwesMatches b k ds xs r = xs ++ listed_in (source_of b) k r ≡ listed_in (source_of b) k ds

pub matches_next : (b : Bound) (k : ℕ) (ds r r' : List DeclNo) (d : DeclNo) (xs new : List Match) → OwesMatches b k ds xs r → r ≡ d ∷ r' → new ≡ xs ++ match_listed (source_of b) d.0 (match_in_text (source_of b) d.0 (Some k)) [] → OwesMatches b k ds new r'
matches_next b k ds r r' d xs new f is e =
    let s = source_of b in
    let m = match_in_text s d.0 (Some k) in
    ap (λ z. z ++ listed_in s k r') e ∙ append_assoc xs (match_listed s d.0 m []) (listed_in s k r') ∙ ap (λ z. xs ++ z) (sym (listed_first s d.0 m (listed_in s k r'))) ∙ ap (λ z. xs ++ listed_in s k z) (sym is) ∙ f

pub matches_last : (b : Bound) (k : ℕ) (ds r : List DeclNo) (xs : List Match) → OwesMatches b k ds xs r → r ≡ [] → AreVirtuals b ds → AreMatches b k xs
unfolding AreMatches AreVirtuals matches_of
matches_last b k ds r xs f none are =
    let s = source_of b in
    sym (append-nil xs) ∙ ap (λ z. xs ++ listed_in s k z) (sym none) ∙ f ∙ ap (listed_in s k) are ∙ listed_all s k 0 s.tables.declarations

-- ---- the texts of classes

pub class_counted : (t o : Bool) (class n : ℕ) → t ≡ o → t ≡ true → class ≡ n → class ≡ class_if o n
class_counted t o class n e is en = en ∙ ap (λ z. class_if z n) (sym is ∙ e)

pub class_of_none : (t o : Bool) (n : ℕ) → t ≡ o → t ≡ false → 0 ≡ class_if o n
class_of_none t o n e is = ap (λ z. class_if z n) (sym is ∙ e)

pub put_nowhere : (xs : List (Option ℕ)) (class k : ℕ) → class ≡ 0 → xs ≡ text_put class k xs
put_nowhere xs class k e = ap (λ z. text_put z k xs) (sym e)

set_past : {A : Type 0} (xs : List A) (p : ℕ) (v : A) → length xs ≤ p → xs ≡ slice_set xs p v
set_past [] p v le = refl
set_past (x ∷ xs) zero v le = absurd (omega (arith, le))
set_past (x ∷ xs) (suc p) v le = ap (λ z. x ∷ z) (set_past xs p v (omega (arith, le)))

pub put_past : (xs : List (Option ℕ)) (class k n : ℕ) → class ≢ 0 → n ≡ length xs → n ≤ class - 1 → xs ≡ text_put class k xs
put_past xs zero k n ne en le = refl
put_past xs (suc class) k n ne en le = set_past xs class (Some k) (omega (arith, en, le))

pub put_there : (xs new : List (Option ℕ)) (class k : ℕ) → class ≢ 0 → new ≡ slice_set xs (class - 1) (Some k) → new ≡ text_put class k xs
put_there xs new zero k ne e = absurd (ne refl)
put_there xs new (suc class) k ne e = let h : suc class - 1 ≡ class = omega arith in e ∙ ap (λ z. slice_set xs z (Some k)) h

set_length : {A : Type 0} (xs : List A) (p : ℕ) (v : A) → length (slice_set xs p v) ≡ length xs
set_length [] p v = refl
set_length (x ∷ xs) zero v = refl
set_length (x ∷ xs) (suc p) v = ap suc (set_length xs p v)

set_within : {A : Type 0} (xs : List A) (p : ℕ) (v : A) → p < length xs → slice_get (slice_set xs p v) p ≡ Some v
set_within [] p v le = absurd (omega (arith, le))
set_within (x ∷ xs) zero v le = refl
set_within (x ∷ xs) (suc p) v le = set_within xs p v (omega (arith, le))

set_beside : {A : Type 0} (xs : List A) (p j : ℕ) (v : A) → p ≢ j → slice_get (slice_set xs p v) j ≡ slice_get xs j
set_beside [] p j v ne = refl
set_beside (x ∷ xs) zero zero v ne = absurd (ne refl)
set_beside (x ∷ xs) zero (suc j) v ne = refl
set_beside (x ∷ xs) (suc p) zero v ne = refl
set_beside (x ∷ xs) (suc p) (suc j) v ne = set_beside xs p j v (λ e. ne (ap suc e))

put_length : (class k : ℕ) (xs : List (Option ℕ)) → length (text_put class k xs) ≡ length xs
put_length zero k xs = refl
put_length (suc class) k xs = set_length xs class (Some k)

put_beside : (class k j : ℕ) (xs : List (Option ℕ)) → class ≢ suc j → slice_get (text_put class k xs) j ≡ slice_get xs j
put_beside zero k j xs ne = refl
put_beside (suc class) k j xs ne = set_beside xs class j (Some k) (λ e. ne (ap suc e))

-- a text has a number as a class just where it has levels
block_levels : (z : Block) → false ≡ has_levels (Some (block_text z))
block_levels (Begin token ds ss end) = refl

class_levels : (prefix : Option Identifier) (h : Heading) (z : Block) → true ≡ has_levels (Some (class_text prefix h z))
class_levels prefix h (Begin token ds ss end) = refl

prefixed_levels : (p : Prefix) (z : Block) → true ≡ has_levels (Some (prefixed_text p z))
prefixed_levels p (Begin token ds ss end) = refl

numbered_levels : (x : TextTree) → has_number x ≡ has_levels (Some (text_in x))
numbered_levels (tree.Block p) = block_levels (block_syntax p.now)
numbered_levels (tree.Procedure r p) = refl
numbered_levels (tree.Class r c p) = class_levels r.now (heading_of c.now) (block_syntax p.now)
numbered_levels (tree.ClassOfStatement r c) = refl
numbered_levels (tree.Prefixed p q) = prefixed_levels (prefix_syntax p.now) (block_syntax q.now)
numbered_levels tree.Connection = refl
numbered_levels (tree.Standard which) = refl

-- no other text has the class of a text
abbrev Alone : Bound → DraftOf → (text class : ℕ) → Type 0
Alone b c k class = (l : ℕ) → has_levels (text (source_of b) l) ≡ true → class_of c.classes (block_number (source_of b) l) ≡ suc class → l ≡ k

-- the first texts are put
pub record TextsPut (b : Bound) (c : DraftOf) (count : ℕ) (xs : List (Option ℕ)) (done : ℕ) : Type 0 where
  pub long : length xs ≡ count
  pub each : (k class : ℕ) → k < done → has_levels (text (source_of b) k) ≡ true → class_of c.classes (block_number (source_of b) k) ≡ suc class → class < count → Alone b c k class → slice_get xs class ≡ Some (Some k)

pub put_none : (b : Bound) (c : DraftOf) (count : ℕ) (xs : List (Option ℕ)) → length xs ≡ count → TextsPut b c count xs 0
put_none b c count xs e = record { long = e; each = λ k class le. absurd (omega (arith, le)) }

tree_text : (b : Bound) (ts : List TextTree) (k : ℕ) (x : TextTree) → AreTexts b.program ts → slice_get ts k ≡ Some x → text (source_of b) k ≡ Some (text_in x)
unfolding AreTexts text source_of Rattle.sim_tree.specs.SyntaxOfProgram.program_syntax
tree_text b ts k x are is = sym (ap (λ z. slice_get z k) are) ∙ at_map ts k x is
  where
    at_map : (ts : List TextTree) (k : ℕ) (x : TextTree) → slice_get ts k ≡ Some x → slice_get (map text_in ts) k ≡ Some (text_in x)
    at_map [] k x e = absurd (cc)
    at_map (y ∷ ts) zero x e = (let h : y ≡ x = cc in ap (λ z. Some (text_in z)) h)
    at_map (y ∷ ts) (suc k) x e = at_map ts k x e

no_text : (b : Bound) (ts : List TextTree) (k : ℕ) → AreTexts b.program ts → length ts ≤ k → text (source_of b) k ≡ None
unfolding AreTexts text source_of Rattle.sim_tree.specs.SyntaxOfProgram.program_syntax
no_text b ts k are le = sym (ap (λ z. slice_get z k) are) ∙ past ts k le
  where
    past : (ts : List TextTree) (k : ℕ) → length ts ≤ k → slice_get (map text_in ts) k ≡ None
    past [] k le = refl
    past (y ∷ ts) zero le = absurd (omega (arith, le))
    past (y ∷ ts) (suc k) le = past ts k (omega (arith, le))

data Below (j k : ℕ) : Type 0 where
  lower : j < k → Below j k
  equal : j ≡ k → Below j k

below : (j k : ℕ) → j < k + 1 → Below j k
below zero zero le = equal refl
below zero (suc k) le = lower (omega arith)
below (suc j) zero le = absurd (omega (arith, le))
below (suc j) (suc k) le = up (below j k (omega (arith, le)))
  where
    up : Below j k → Below (suc j) (suc k)
    up (lower h) = lower (omega (arith, h))
    up (equal h) = equal (ap suc h)

data Compared (j k : ℕ) : Type 0 where
  alike : j ≡ k → Compared j k
  unlike : j ≢ k → Compared j k

compare : (j k : ℕ) → Compared j k
compare zero zero = alike refl
compare zero (suc k) = unlike (λ e. omega (arith, e))
compare (suc j) zero = unlike (λ e. omega (arith, e))
compare (suc j) (suc k) = up (compare j k)
  where
    up : Compared j k → Compared (suc j) (suc k)
    up (alike e) = alike (ap suc e)
    up (unlike ne) = unlike (λ e. ne (omega (arith, e)))

data Beside (j k : ℕ) : Type 0 where
  nearer : j < k → Beside j k
  farther : k ≤ j → Beside j k

beside : (j k : ℕ) → Beside j k
beside j zero = farther (omega arith)
beside zero (suc k) = nearer (omega arith)
beside (suc j) (suc k) = up (beside j k)
  where
    up : Beside j k → Beside (suc j) (suc k)
    up (nearer h) = nearer (omega (arith, h))
    up (farther h) = farther (omega (arith, h))

pub put_next : (b : Bound) (c : DraftOf) (ts : List TextTree) (count i n class : ℕ) (x : TextTree) (xs new : List (Option ℕ)) → TextsPut b c count xs i → AreTexts b.program ts → slice_get ts i ≡ Some x → n ≡ i
    → class ≡ class_if (has_number x) (class_of c.classes (block_number (source_of b) n)) → new ≡ text_put class n xs → TextsPut b c count new (i + 1)
put_next b c ts count i n class x xs new f are is en ec e = record {
  long = ap length put ∙ put_length class i xs ∙ f.long;
  each = λ k number le levels its inside alone. cases k number levels its inside alone (below k i le);
}
  where
    put : new ≡ text_put class i xs
    put = e ∙ ap (λ z. text_put class z xs) en

    here : text (source_of b) i ≡ Some (text_in x)
    here = tree_text b ts i x are is

    -- the class of this text
    its_class : has_levels (text (source_of b) i) ≡ true → class ≡ class_of c.classes (block_number (source_of b) i)
    its_class levels =
        let t : has_number x ≡ true = numbered_levels x ∙ ap has_levels (sym here) ∙ levels in
        ec ∙ ap (λ z. class_if z (class_of c.classes (block_number (source_of b) n))) t ∙ ap (λ z. class_of c.classes (block_number (source_of b) z)) en

    -- a class that is put is that of this text
    put_levels : (t : Bool) (number : ℕ) → has_number x ≡ t → class ≡ suc number → has_levels (text (source_of b) i) ≡ true
    put_levels true number h es = ap has_levels here ∙ sym (numbered_levels x) ∙ h
    put_levels false number h es = let clash : 0 ≡ suc number = sym (ap (λ z. class_if z (class_of c.classes (block_number (source_of b) n))) h) ∙ sym ec ∙ es in absurd (cc)

    cases : (k number : ℕ) → has_levels (text (source_of b) k) ≡ true → class_of c.classes (block_number (source_of b) k) ≡ suc number → number < count → Alone b c k number → Below k i → slice_get new number ≡ Some (Some k)
    cases k number levels its inside alone (equal eq) =
        let levels_here = subst (λ z. has_levels (text (source_of b) z) ≡ true) eq levels in
        let its_here : class ≡ suc number = its_class levels_here ∙ subst (λ z. class_of c.classes (block_number (source_of b) z) ≡ suc number) eq its in
        let long = f.long in
        ap (λ z. slice_get z number) put ∙ ap (λ z. slice_get (text_put z i xs) number) its_here ∙ set_within xs number (Some i) (omega (arith, long, inside)) ∙ ap (λ z. Some (Some z)) (sym eq)
    cases k number levels its inside alone (lower le) = apart (compare class (suc number))
      where
        apart : Compared class (suc number) → slice_get new number ≡ Some (Some k)
        apart (alike es) =
            let levels_here = put_levels (has_number x) number refl es in
            let eq : i ≡ k = alone i levels_here (sym (its_class levels_here) ∙ es) in
            absurd (omega (arith, eq, le))
        apart (unlike ne) = ap (λ z. slice_get z number) put ∙ put_beside class i number xs ne ∙ f.each k number le levels its inside alone

pub put_all : (b : Bound) (c : DraftOf) (ts : List TextTree) (count i : ℕ) (xs : List (Option ℕ)) → TextsPut b c count xs i → AreTexts b.program ts → length ts ≤ i → AreTextsOfClasses b c count xs
unfolding AreTextsOfClasses
put_all b c ts count i xs f are le = (f.long, λ k class levels its inside alone. cases k class levels its (let long = f.long in omega (arith, long, inside)) alone (beside k i))
  where
    cases : (k class : ℕ) → has_levels (text (source_of b) k) ≡ true → class_of c.classes (block_number (source_of b) k) ≡ suc class → class < count → Alone b c k class → Beside k i → slice_get xs class ≡ Some (Some k)
    cases k class levels its inside alone (nearer h) = f.each k class h levels its inside alone
    cases k class levels its inside alone (farther h) = let clash : false ≡ true = sym (ap has_levels (no_text b ts k are (omega (arith, le, h)))) ∙ levels in absurd (cc)

pub ruleset listed = (virtual_added, no_virtual, match_added, no_match, class_counted, class_of_none, put_nowhere, put_past, put_there)
