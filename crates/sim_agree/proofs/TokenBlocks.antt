-- What is known of the tokens of a program while its blocks are built: which texts are open, the innermost block around each token that is used,
-- and what was written last.
use Rattle.std.proofs.Common.{◌≡◌, ◌<◌, ◌≤◌, ◌+◌, ◌⊎◌, inl, inr, ℕ, false, List, [], ◌∷◌, length, Option, Some, None, refl, sym, ap, ◌∙◌, subst, arith}
use Rattle.std.specs.Prelude.{slice_get}
use Rattle.sim_tree.specs.declared.expr.Identifier.{Identifier}
use Rattle.sim_tree.specs.Syntax.{Declarations, Statement, Statements, Expressions}
use Rattle.sim_scope.specs.declared.scopes.Declaration.{Declaration}
use Rattle.sim_scope.specs.declared.scopes.Qualification.{Qualification}
use Rattle.sim_scope.specs.Building.{BuildingOf, Mark, marked}
use Rattle.sim_scope.specs.Runs.{run}
use Rattle.sim_scope.specs.Access.{around}
use Rattle.sim_meaning.specs.Attributes.{first_in}
use Rattle.sim_scope.specs.Tables.{BlockOf}
use Rattle.sim_meaning.specs.Texts.{BlockText, PrefixedText}
use Rattle.sim_agree.proofs.Laid.{AllRecent, Con, Frame, Held, Joined, Part, Recent, Sub, Use, Whole, text_held, used_held, Pre}
use Rattle.sim_agree.specs.TablesAgree.{IsOwn, is_attribute}
use Rattle.sim_scope.specs.Levels.{is_standard_class}
use Rattle.sim_agree.proofs.Steps.{Becomes, Changed, Fixed, fixed}
use Rattle.sim_agree.proofs.Unprefixed.{Unprefixed}
use Rattle.sim_agree.proofs.Groups.{Quals}
use Rattle.sim_agree.proofs.Latest.{InBlock, LatestIn, written_latest}

-- ---- the open texts

abbrev pub first_of_fixed : Fixed → ℕ
first_of_fixed None = 0
first_of_fixed (Some x) = x.first

pub first_is_fixed : (o : Option BlockOf) → first_of_fixed (fixed o) ≡ first_in o
first_is_fixed None = refl
first_is_fixed (Some row) = refl

pub same_first : (o p : Option BlockOf) → fixed o ≡ fixed p → first_in o ≡ first_in p
same_first o p e = sym (first_is_fixed o) ∙ ap first_of_fixed e ∙ first_is_fixed p

abbrev pub Stack : List BlockOf → List Held → (current : Option ℕ) → List Frame → Type 0
Stack bs hs current [] = current ≡ None
Stack bs hs current (o ∷ os) = (n : ℕ) × (current ≡ Some n) × ((h : Held) × (slice_get hs n ≡ Some h) × (text_held h ≡ o.text)) × Stack bs hs (around (slice_get bs n)) os

abbrev pub Keeps : List BlockOf → List BlockOf → List Held → List Held → Type 0
Keeps bs cs hs us = (n : ℕ) (x : Held) → slice_get hs n ≡ Some x → (around (slice_get cs n) ≡ around (slice_get bs n)) × (slice_get us n ≡ Some x) × (first_in (slice_get cs n) ≡ first_in (slice_get bs n))

pub stack_kept : (bs cs : List BlockOf) (hs us : List Held) → Keeps bs cs hs us → (os : List Frame) (current : Option ℕ) → Stack bs hs current os → Stack cs us current os
stack_kept bs cs hs us keep [] current h = h
stack_kept bs cs hs us keep (o ∷ os) current h =
    let k = keep h.0 h.2.0 h.2.1 in
    (h.0, h.1, (h.2.0, k.1, h.2.2), subst (λ z. Stack cs us z os) (sym k.0) (stack_kept bs cs hs us keep os (around (slice_get bs h.0)) h.3))

pub data Has (p : Part) : List Part → Type 0 where
  here : {ps : List Part} → Has p (p ∷ ps)
  there : {q : Part} {ps : List Part} → Has p ps → Has p (q ∷ ps)

pub has_cases : {p q : Part} {ps : List Part} → Has p (q ∷ ps) → (p ≡ q) ⊎ Has p ps
has_cases here = inl refl
has_cases (there h) = inr h

abbrev pub out : List BlockOf → Option ℕ → Option ℕ
out bs None = None
out bs (Some k) = around (slice_get bs k)

abbrev pub LeftAt : List BlockOf → (current : Option ℕ) → List Frame → (block : ℕ) → Part → Type 0
LeftAt bs current [] n p = ⊥
LeftAt bs current (o ∷ os) n p = ((current ≡ Some n) × Has p o.left) ⊎ LeftAt bs (out bs current) os n p

pub left_kept : (bs cs : List BlockOf) (ts us : List Held) → Keeps bs cs ts us → (os : List Frame) (current : Option ℕ) (n : ℕ) (p : Part) → Stack bs ts current os → LeftAt bs current os n p → LeftAt cs current os n p
left_kept bs cs ts us keep [] current n p s q = absurd q
left_kept bs cs ts us keep (o ∷ os) current n p s (inl q) = inl q
left_kept bs cs ts us keep (o ∷ os) current n p s (inr q) =
    let e : out bs current ≡ around (slice_get bs s.0) = ap (out bs) s.1 in
    let f : out cs current ≡ around (slice_get bs s.0) = ap (out cs) s.1 ∙ (keep s.0 s.2.0 s.2.1).0 in
    inr (subst (λ z. LeftAt cs z os n p) (sym f) (left_kept bs cs ts us keep os (around (slice_get bs s.0)) n p s.3 (subst (λ z. LeftAt bs z os n p) e q)))

-- ---- what is known of a token

-- The block around a token is this one; or the token has no place yet, and this block is the innermost one.
abbrev pub Here : BuildingOf → (from block token : ℕ) → Type 0
Here b from n i = (slice_get b.tables.places i ≡ Some (Some n)) ⊎ ((length b.tables.places ≤ i) × (i < from) × (b.current ≡ Some n))

-- a sub-block or a connection stands in the block
pub record Inner (b : BuildingOf) (hs : List Held) (from n i : ℕ) (x : Held) : Type 0 where
  pub number : ℕ
  pub text : slice_get hs number ≡ Some x
  pub around : around (slice_get b.tables.blocks number) ≡ Some n
  pub there : Here b from number i
  pub begins : first_in (slice_get b.tables.blocks number) ≡ i

abbrev pub Fact : BuildingOf → List Held → (from block : ℕ) → Part → Type 0
Fact b hs from n (Use i) = Here b from n i
Fact b hs from n (Sub i) = (ds : Declarations) × (ss : Statements) × Inner b hs from n i (Whole (BlockText i ds ss))
Fact b hs from n (Pre i) = (class : Identifier) × (es : Expressions) × (ds : Declarations) × (ss : Statements) × Inner b hs from n i (Whole (PrefixedText class es ds ss))
Fact b hs from n (Con i a) = Inner b hs from n i (Joined i a)

-- a block begins at its first token, but for the classes of SIMSET, which have no text
abbrev pub Firsts : BuildingOf → (from : ℕ) → Type 0
Firsts b from = (k : ℕ) (row : BlockOf) → slice_get b.tables.blocks k ≡ Some row → is_standard_class row.kind ≡ false → Here b from k row.first

pub own_was : (old row : Declaration) → Changed old row → IsOwn row → IsOwn old
own_was old row c o = (sym c.listed ∙ o.0, go c.entry)
  where
    go : Becomes old.entry row.entry → is_attribute old.entry ≡ false
    go (inl e) = ap is_attribute (sym e) ∙ o.1
    go (inr (inl q)) = ap is_attribute q.1
    go (inr (inr q)) = ap is_attribute q.2

-- a connection begins at its first token, and stands in a text
abbrev pub JoinsAt : List BlockOf → List Held → Type 0
JoinsAt bs hs = (n i : ℕ) (a : Statement) → slice_get hs n ≡ Some (Joined i a) → (first_in (slice_get bs n) ≡ i) × ((u : ℕ) × (around (slice_get bs n) ≡ Some u))

pub joins_kept : (bs cs : List BlockOf) (hs us : List Held) → Keeps bs cs hs us → JoinsAt bs hs → (n i : ℕ) (a : Statement) → slice_get hs n ≡ Some (Joined i a) → (first_in (slice_get cs n) ≡ i) × ((u : ℕ) × (around (slice_get cs n) ≡ Some u))
joins_kept bs cs hs us keep j n i a is = let k = keep n (Joined i a) is in let q = j n i a is in (k.2 ∙ q.0, (q.1.0, k.0 ∙ q.1.1))

-- The class that is written for references stands in the block of the declaration that is of them.
abbrev pub AllWritten : BuildingOf → (from : ℕ) → Type 0
AllWritten b from = (i : ℕ) (q : Qualification) → slice_get b.tables.qualifications i ≡ Some q → (n : ℕ) × Here b from n q.class.token.0 × InBlock b.tables q.declaration n

-- the tokens of classes since the last block that began or ended
abbrev pub AreRecent : BuildingOf → List ℕ → (from : ℕ) → Type 0
AreRecent b r from = (i : ℕ) → Recent r i → (length b.tables.places ≤ i) × (i < from)

pub none_recent : (b : BuildingOf) (from : ℕ) → AreRecent b [] from
none_recent b from i h = absurd h

pub later_recent : (b c : BuildingOf) (r : List ℕ) (from to : ℕ) → c.tables.places ≡ b.tables.places → from ≤ to → AreRecent b r from → AreRecent c r to
later_recent b c r from to same le h i q =
    let lo : length b.tables.places ≤ i = (h i q).0 in
    let lt : i < from = (h i q).1 in
    let e : length c.tables.places ≡ length b.tables.places = ap length same in ((let z : length c.tables.places ≤ i = omega arith in z), (let z : i < to = omega arith in z))

pub one_recent : (b : BuildingOf) (r : List ℕ) (from i : ℕ) → length b.tables.places ≤ from → from ≤ i → AreRecent b r from → AreRecent b (i ∷ r) (i + 1)
one_recent b r from i reach le h j (inl e) = ((let z : length b.tables.places ≤ j = omega arith in z), (let z : j < i + 1 = omega arith in z))
one_recent b r from i reach le h j (inr q) = later_recent b b r from (i + 1) refl (let z : from ≤ i + 1 = omega arith in z) h j q

-- what becomes of the classes that are written
abbrev pub WrittenBy : (b c : BuildingOf) → (from : ℕ) → Type 0
WrittenBy b c from = (i : ℕ) (q : Qualification) → slice_get c.tables.qualifications i ≡ Some q → (slice_get b.tables.qualifications i ≡ Some q) ⊎ ((n : ℕ) × Here c from n q.class.token.0 × InBlock c.tables q.declaration n)

pub written_none : (b c : BuildingOf) (from : ℕ) → c.tables.qualifications ≡ b.tables.qualifications → WrittenBy b c from
written_none b c from e i q at = inl (sym (ap (λ z. slice_get z i) e) ∙ at)

-- for a declaration of the innermost block
pub written_here : (b c d : BuildingOf) (recent : List ℕ) (R : Type 0) (quals : List Mark) (n from : ℕ) → Quals R quals → AllRecent recent quals → AreRecent b recent from → LatestIn c n → c.tables.qualifications ≡ b.tables.qualifications → d ≡ run marked c quals → d.tables.places ≡ b.tables.places → d.current ≡ Some n
    → WrittenBy b d from
written_here b c d recent R quals n from q all near late same is places cur i z at =
    go (written_latest recent c R quals q all n late i z (subst (λ (y : BuildingOf). slice_get y.tables.qualifications i ≡ Some z) is at))
  where
    go : (slice_get c.tables.qualifications i ≡ Some z) ⊎ (Recent recent z.class.token.0 × InBlock (run marked c quals).tables z.declaration n) → (slice_get b.tables.qualifications i ≡ Some z) ⊎ ((m : ℕ) × Here d from m z.class.token.0 × InBlock d.tables z.declaration m)
    go (inl w) = inl (sym (ap (λ y. slice_get y i) same) ∙ w)
    go (inr w) =
        let lo : length b.tables.places ≤ z.class.token.0 = (near z.class.token.0 w.0).0 in
        let e : length d.tables.places ≡ length b.tables.places = ap length places in
        inr (n, inr ((let y : length d.tables.places ≤ z.class.token.0 = omega arith in y), (near z.class.token.0 w.0).1, cur), subst (λ (y : BuildingOf). InBlock y.tables z.declaration n) (sym is) w.1)

-- The places reach to the one number, the tokens of declarations to the other.
pub record Lays (b : BuildingOf) (hs : List Held) (os : List Frame) (from high : ℕ) : Type 0 where
  pub size : length b.tables.blocks ≡ length hs
  pub stack : Stack b.tables.blocks hs b.current os
  pub reach : length b.tables.places ≤ from
  pub done : (n : ℕ) (x : Held) (p : Part) → slice_get hs n ≡ Some x → Has p (used_held x) → Fact b hs from n p ⊎ LeftAt b.tables.blocks b.current os n p
  pub firsts : Firsts b from
  pub joins : JoinsAt b.tables.blocks hs
  pub below : (d : ℕ) (row : Declaration) → slice_get b.tables.declarations d ≡ Some row → row.token.0 < high
  pub rising : (d e : ℕ) (row other : Declaration) → slice_get b.tables.declarations d ≡ Some row → slice_get b.tables.declarations e ≡ Some other → d < e → IsOwn other → row.token.0 < other.token.0
  pub bare : Unprefixed b.tables
  pub written : AllWritten b from

abbrev pub Lay : BuildingOf → List Held → List Frame → ℕ → Type 0
Lay b hs os from = Lays b hs os from from

-- from one state to a later one
abbrev pub Moves : BuildingOf → BuildingOf → (from to : ℕ) → Type 0
Moves b c from to = (n i : ℕ) → Here b from n i → Here c to n i

pub inner_moves : (b c : BuildingOf) (ts us : List Held) (from to : ℕ) → Keeps b.tables.blocks c.tables.blocks ts us → Moves b c from to → (n i : ℕ) (x : Held) → Inner b ts from n i x → Inner c us to n i x
inner_moves b c ts us from to keep m n i x f = let k = keep f.number x f.text in record { number = f.number; text = k.1; around = k.0 ∙ f.around; there = m f.number i f.there; begins = k.2 ∙ f.begins }

pub fact_moves : (b c : BuildingOf) (ts us : List Held) (from to : ℕ) → Keeps b.tables.blocks c.tables.blocks ts us → Moves b c from to → (n : ℕ) (p : Part) → Fact b ts from n p → Fact c us to n p
fact_moves b c ts us from to keep m n (Use i) f = m n i f
fact_moves b c ts us from to keep m n (Sub i) f = (f.0, f.1, inner_moves b c ts us from to keep m n i (Whole (BlockText i f.0 f.1)) f.2)
fact_moves b c ts us from to keep m n (Pre i) f = (f.0, f.1, f.2, f.3, inner_moves b c ts us from to keep m n i (Whole (PrefixedText f.0 f.1 f.2 f.3)) f.4)
fact_moves b c ts us from to keep m n (Con i v) f = inner_moves b c ts us from to keep m n i (Joined i v) f
