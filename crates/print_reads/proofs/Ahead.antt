-- The canonical tokens of a reading, and which of them stands first.
use Rattle.std.proofs.Common.{◌≡◌, ℕ, Bool, true, false, List, [], ◌∷◌, ◌++◌, Some, None, refl, sym, ◌∙◌, subst, if◌then◌else◌}
use Rattle.std.proofs.lemmas.Bool.{false≢true}
use Rattle.std.specs.Prelude.{◌&&◌, ◌||◌, not}
use Rattle.sim_base.specs.Lexeme.{bare}
use Rattle.sim_base.specs.declared.token.Lexeme.{Lexeme}
use Rattle.sim_base.specs.declared.token.Token.{Token}
use Rattle.sim_base.specs.declared.token.TokenKind.{TokenKind}
use Rattle.sim_base.specs.declared.token.TokenKind.TheVariants as k
use Rattle.sim_base.specs.declared.token.TokenValue.{TokenValue}
use Rattle.sim_tree.specs.Grammar as g
use Rattle.sim_tree.specs.Grammar.{Any, Here, Kept, Many, Mark, Maybe, Of, Once, Part, Symbol, Times, is, right_side, rows}
use Rattle.sim_tree.specs.Reading.{Forest, Reads, kind_at, reads-any, reads-done, reads-here, reads-kept, reads-mark, reads-none, reads-part, reads-skip, value_at}
use Rattle.sim_tree.proofs.Completion.{is_same, left_true, right_true, row_get}
use Rattle.sim_tree.proofs.Follow.{each_row}
use Rattle.print_reads.proofs.Carried.{lexeme}

-- `hidden` stands in front of `protected`
abbrev pub sorted : List Lexeme → List Lexeme
sorted (x ∷ y ∷ l) = if is x.kind k.Protected && is y.kind k.Hidden then y ∷ x ∷ l else x ∷ y ∷ l
sorted l = l

-- the canonical tokens of a part: one semicolon behind each declaration
abbrev pub written : Part → List Lexeme → List Lexeme
written g.AfterDeclaration l = bare k.Semicolon ∷ []
written g.Protection l = sorted l
written _ l = l

-- the canonical tokens of a reading: semicolons that say nothing are left out
abbrev pub canon : {most : ℕ} {ws : List Token} {d : ℕ} {s : List Symbol} {i : ℕ} {f : Forest} {j : ℕ} → Reads most ws d s i f j → List Lexeme
canon reads-done = []
canon {ws = ws} (reads-kept {start = i} h r) = lexeme (kind_at ws i) (value_at ws i) ∷ canon r
canon (reads-mark {a = a} h r) = bare a ∷ canon r
canon (reads-any h r) = canon r
canon (reads-none h r) = canon r
canon (reads-here r) = canon r
canon (reads-part {n = n} h sh r q) = written n (canon r) ++ canon q
canon (reads-skip h may r) = canon r

-- ---- what is known of the table

-- parts that have a token in any case
abbrev pub firm_part : Part → Bool
firm_part g.Program = true
firm_part g.Compound = true
firm_part g.Block = true
firm_part g.AfterDeclaration = true
firm_part g.AfterIdentifier = true
firm_part g.Declaration = true
firm_part g.TypeName = true
firm_part g.Heading = true
firm_part g.Class = true
firm_part _ = false

abbrev pub firm : List Symbol → Bool
firm [] = false
firm (Kept any ∷ s) = true
firm (Mark a ∷ s) = true
firm (Any a ∷ s) = firm s
firm (Here ∷ s) = firm s
firm (Of Once n ∷ s) = firm_part n || firm s
firm (Of Maybe n ∷ s) = firm s
firm (Of Many n ∷ s) = firm s

-- no semicolon that says nothing stands in front of the first token
abbrev pub calm : List Symbol → Bool
calm [] = true
calm (Kept any ∷ s) = true
calm (Mark a ∷ s) = true
calm (Any a ∷ s) = false
calm (Here ∷ s) = calm s
calm (Of Once n ∷ s) = firm_part n || calm s
calm (Of Maybe n ∷ s) = calm s
calm (Of Many n ∷ s) = calm s

-- parts whose first canonical token may be another
abbrev pub turns : Part → Bool
turns g.AfterDeclaration = true
turns g.Protection = true
turns _ = false

abbrev pub turn : List Symbol → Bool
turn [] = false
turn (Kept any ∷ s) = false
turn (Mark a ∷ s) = false
turn (Any a ∷ s) = turn s
turn (Here ∷ s) = turn s
turn (Of Once n ∷ s) = turns n || (not (firm_part n) && turn s)
turn (Of Maybe n ∷ s) = turns n || turn s
turn (Of Many n ∷ s) = turns n || turn s

-- parts behind whose last token nothing is looked at
abbrev pub closed : Part → Bool
closed g.Program = true
closed g.Compound = true
closed g.Block = true
closed g.AfterIdentifier = true
closed g.AfterDeclaration = true
closed _ = false

abbrev pub open_symbol : Symbol → Bool
open_symbol (Kept any) = false
open_symbol (Mark a) = false
open_symbol (Any a) = true
open_symbol Here = true
open_symbol (Of Once n) = not (closed n)
open_symbol (Of Maybe n) = true
open_symbol (Of Many n) = true

abbrev pub open_end : List Symbol → Bool
open_end [] = false
open_end (x ∷ []) = open_symbol x
open_end (x ∷ y ∷ s) = open_end (y ∷ s)

-- parts that `end` and `;` tell apart, or `hidden` and `protected`
abbrev pub exact : Part → Bool
exact g.NextStatement = true
exact g.Heading = true
exact g.Block = true
exact g.AndProtected = true
exact g.AndHidden = true
exact _ = false

abbrev pub is_after : Part → Bool
is_after g.AfterDeclaration = true
is_after _ = false

abbrev pub is_once : Times → Bool
is_once Once = true
is_once _ = false

abbrev pub suits : Times → Part → List Symbol → Bool
suits t n s =
    (not (exact n) || (firm (Of t n ∷ s) && not (turn (Of t n ∷ s))))
    && ((not (is_after n) || is_once t) && (calm s || (is_once t && closed n)))

abbrev pub well : List Symbol → Bool
well [] = true
well (Kept any ∷ s) = well s
well (Mark a ∷ s) = well s
well (Any a ∷ s) = firm s && (not (turn s) && (calm s && well s))
well (Here ∷ s) = well s
well (Of t n ∷ s) = well s && (calm (Of t n ∷ s) && suits t n s)

abbrev pub fine : Part → List Symbol → Bool
fine n right = (calm right && not (turn right)) && ((not (firm_part n) || (is_after n || firm right)) && (well right && (not (closed n) || not (open_end right))))

all_fine : (n : Part) → each_row (rows n) (fine n) ≡ true
all_fine g.Program = refl
all_fine _ = refl

pub row_fine : (n : Part) (a : TokenKind) (right : List Symbol) → right_side n a ≡ Some right → fine n right ≡ true
unfolding right_side
row_fine n a right is = row_get (rows n) (fine n) a right (all_fine n) is

-- ---- truth values

pub no_true : {A : Type 0} → false ≡ true → A
no_true e = absurd (false≢true e)

pub not_true : (b : Bool) → not b ≡ true → b ≡ false
not_true true e = no_true e
not_true false e = refl

pub left_false : (a b : Bool) → (a || b) ≡ false → a ≡ false
left_false true b e = no_true (sym e)
left_false false b e = refl

pub right_false : (a b : Bool) → (a || b) ≡ false → b ≡ false
right_false true b e = no_true (sym e)
right_false false b e = e

pub or_right : (a b : Bool) → (a || b) ≡ true → a ≡ false → b ≡ true
or_right true b e never = no_true (sym never)
or_right false b e never = e

pub must : (a b : Bool) → (not a || b) ≡ true → a ≡ true → b ≡ true
must true b e sure = e
must false b e sure = no_true sure

pub row_calm : (n : Part) (right : List Symbol) → fine n right ≡ true → calm right ≡ true
row_calm n right e = left_true (calm right) (not (turn right)) (left_true _ _ e)

pub row_straight : (n : Part) (right : List Symbol) → fine n right ≡ true → turn right ≡ false
row_straight n right e = not_true (turn right) (right_true (calm right) (not (turn right)) (left_true _ _ e))

pub row_firm : (n : Part) (right : List Symbol) → fine n right ≡ true → firm_part n ≡ true → (is_after n || firm right) ≡ true
row_firm n right e = must (firm_part n) (is_after n || firm right) (left_true _ _ (right_true _ _ e))

pub row_well : (n : Part) (right : List Symbol) → fine n right ≡ true → well right ≡ true
row_well n right e = left_true (well right) _ (right_true _ _ (right_true _ _ e))

pub row_closed : (n : Part) (right : List Symbol) → fine n right ≡ true → closed n ≡ true → open_end right ≡ false
row_closed n right e sure = not_true (open_end right) (must (closed n) (not (open_end right)) (right_true (well right) _ (right_true _ _ (right_true _ _ e))) sure)

-- ---- a token that stands there in any case

cons_not_none : {x : Lexeme} {l : List Lexeme} → x ∷ l ≡ [] → ⊥
cons_not_none e = cc

first_none : (xs ys : List Lexeme) → xs ++ ys ≡ [] → xs ≡ []
first_none [] ys e = refl
first_none (x ∷ xs) ys e = absurd (cons_not_none e)

second_none : (xs ys : List Lexeme) → xs ++ ys ≡ [] → ys ≡ []
second_none [] ys e = e
second_none (x ∷ xs) ys e = absurd (cons_not_none e)

sorted_none : (l : List Lexeme) → sorted l ≡ [] → l ≡ []
sorted_none [] e = refl
sorted_none (x ∷ []) e = e
sorted_none (x ∷ y ∷ l) e = absurd (by (is x.kind k.Protected && is y.kind k.Hidden) e)
  where
    by : (b : Bool) → (if b then y ∷ x ∷ l else x ∷ y ∷ l) ≡ [] → ⊥
    by true e = cons_not_none e
    by false e = cons_not_none e

written_none : (n : Part) (l : List Lexeme) → written n l ≡ [] → (is_after n ≡ false) × (l ≡ [])
written_none g.AfterDeclaration l e = absurd (cons_not_none e)
written_none g.Protection l e = (refl, sorted_none l e)
written_none _ l e = (refl, e)

module _ {most : ℕ} {ws : List Token} where
  pub firm_some : {d : ℕ} {s : List Symbol} {i : ℕ} {f : Forest} {j : ℕ} → (r : Reads most ws d s i f j) → firm s ≡ true → canon r ≡ [] → ⊥
  firm_some reads-done sure e = no_true sure
  firm_some (reads-kept h r) sure e = cons_not_none e
  firm_some (reads-mark h r) sure e = cons_not_none e
  firm_some (reads-any h r) sure e = firm_some r sure e
  firm_some (reads-none h r) sure e = firm_some r sure e
  firm_some (reads-here r) sure e = firm_some r sure e
  firm_some (reads-part {start = i} {t = Once} {n = n} {right = right} {s = s} h sh r q) sure e =
      let front = written_none n (canon r) (first_none (written n (canon r)) (canon q) e) in
      by (λ is. firm_some r (or_right (is_after n) (firm right) (row_firm n right (row_fine n (kind_at ws i) right h) is) front.0) front.1)
      (λ more. firm_some q more (second_none (written n (canon r)) (canon q) e)) (firm_part n) refl sure
    where
      by : (firm_part n ≡ true → ⊥) → (firm s ≡ true → ⊥) → (b : Bool) → firm_part n ≡ b → (b || firm s) ≡ true → ⊥
      by inside behind true is sure = inside is
      by inside behind false is sure = behind sure
  firm_some (reads-part {t = Maybe} {n = n} h sh r q) sure e = firm_some q sure (second_none (written n (canon r)) (canon q) e)
  firm_some (reads-part {t = Many} {n = n} h sh r q) sure e = firm_some q sure (second_none (written n (canon r)) (canon q) e)
  firm_some (reads-skip {t = Once} h may r) sure e = no_true may
  firm_some (reads-skip {t = Maybe} h may r) sure e = firm_some r sure e
  firm_some (reads-skip {t = Many} h may r) sure e = firm_some r sure e

-- ---- the first token

-- The same kind; or a semicolon where the source has the `end` behind its last declaration; or `hidden`, which the source has second.
pub data Like : TokenKind → TokenKind → Type 0 where
  alike : {a : TokenKind} → Like a a
  at_end : Like k.End k.Semicolon
  turned : Like k.Protected k.Hidden

pub like : {a b : TokenKind} → a ≡ b → Like a b
like {a} e = subst (Like a) e alike

-- The first canonical token is like the next one of the source; or there is none, and the source has none.
pub data Ahead (a : TokenKind) (turning : Bool) (i j : ℕ) : List Lexeme → Type 0 where
  shows : (x : Lexeme) (l : List Lexeme) → Like a x.kind → (turning ≡ false → a ≡ x.kind) → Ahead a turning i j (x ∷ l)
  vanishes : i ≡ j → Ahead a turning i j []

pub kind_kept : (a : TokenKind) (v : TokenValue) → (lexeme a v).kind ≡ a
kind_kept k.Identifier v = refl
kind_kept k.Integer v = refl
kind_kept k.Character v = refl
kind_kept k.Text v = refl
kind_kept _ v = refl

after_kinds : (a : TokenKind) (right : List Symbol) → right_side g.AfterDeclaration a ≡ Some right → Like a k.Semicolon
unfolding right_side is
after_kinds k.Semicolon right e = alike
after_kinds k.End right e = at_end
after_kinds _ right e = absurd (never e)
  where
    never : None ≡ Some right → ⊥
    never e = cc

weaken : {a : TokenKind} {t u : Bool} {i j : ℕ} {l : List Lexeme} → (u ≡ false → t ≡ false) → Ahead a t i j l → Ahead a u i j l
weaken less (shows x l h e) = shows x l h (λ never. e (less never))
weaken less (vanishes e) = vanishes e

sorted_ahead : {a : TokenKind} {i j : ℕ} (l : List Lexeme) → Ahead a false i j l → Ahead a true i j (sorted l)
sorted_ahead [] (vanishes e) = vanishes e
sorted_ahead (x ∷ []) (shows _ _ h e) = shows x [] h (λ never. no_true (sym never))
sorted_ahead {a} {i} {j} (x ∷ y ∷ l) (shows _ _ h e) = by (is x.kind k.Protected && is y.kind k.Hidden) refl
  where
    by : (b : Bool) → (is x.kind k.Protected && is y.kind k.Hidden) ≡ b → Ahead a true i j (if b then y ∷ x ∷ l else x ∷ y ∷ l)
    by true both =
        let first : a ≡ k.Protected = e refl ∙ is_same x.kind k.Protected (left_true _ _ both) in
        let second : y.kind ≡ k.Hidden = is_same y.kind k.Hidden (right_true (is x.kind k.Protected) (is y.kind k.Hidden) both) in
        shows y (x ∷ l) (subst (λ z. Like z y.kind) (sym first) (subst (Like k.Protected) (sym second) turned)) (λ never. no_true (sym never))
    by false both = shows x (y ∷ l) h (λ never. no_true (sym never))

-- the same from a later token on
from : (ws : List Token) {turning : Bool} {i m j : ℕ} {l : List Lexeme} → i ≡ m → Ahead (kind_at ws m) turning m j l → Ahead (kind_at ws i) turning i j l
from ws {turning} {j = j} {l} e h = subst (λ z. Ahead (kind_at ws z) turning z j l) (sym e) h

-- a part in front of what stands behind it
joined : (ws : List Token) {inner outer : Bool} {i m j : ℕ} {xs ys : List Lexeme} → Ahead (kind_at ws i) inner i m xs → (outer ≡ false → inner ≡ false)
    → (xs ≡ [] → Ahead (kind_at ws m) outer m j ys) → Ahead (kind_at ws i) outer i j (xs ++ ys)
joined ws {ys = ys} (shows x l h e) less rest = shows x (l ++ ys) h (λ straight. e (less straight))
joined ws (vanishes e) less rest = from ws e (rest refl)

plain_ahead : {a : TokenKind} {turning : Bool} {i m : ℕ} {xs : List Lexeme} → turning ≡ false → Ahead a turning i m xs → Ahead a false i m xs
plain_ahead straight h = weaken (λ e. straight) h

part_ahead : (n : Part) {a : TokenKind} {right : List Symbol} {i m : ℕ} (xs : List Lexeme) → right_side n a ≡ Some right → turn right ≡ false → Ahead a (turn right) i m xs → Ahead a (turns n) i m (written n xs)
part_ahead g.AfterDeclaration {a} {right} xs is straight h = shows (bare k.Semicolon) [] (after_kinds a right is) (λ never. no_true (sym never))
part_ahead g.Protection xs is straight h = sorted_ahead xs (plain_ahead straight h)
part_ahead _ xs is straight h = plain_ahead straight h

turn_first : (t : Times) (n : Part) (s : List Symbol) → turn (Of t n ∷ s) ≡ false → turns n ≡ false
turn_first Once n s e = left_false (turns n) _ e
turn_first Maybe n s e = left_false (turns n) _ e
turn_first Many n s e = left_false (turns n) _ e

turn_behind : (n : Part) (s : List Symbol) → firm_part n ≡ false → turn (Of Once n ∷ s) ≡ false → turn s ≡ false
turn_behind n s soft e = go (firm_part n) soft (right_false (turns n) _ e)
  where
    go : (b : Bool) → b ≡ false → (not b && turn s) ≡ false → turn s ≡ false
    go true soft e = no_true (sym soft)
    go false soft e = e

module _ {most : ℕ} {ws : List Token} where
  pub ahead : {d : ℕ} {s : List Symbol} {i : ℕ} {f : Forest} {j : ℕ} → (r : Reads most ws d s i f j) → calm s ≡ true → Ahead (kind_at ws i) (turn s) i j (canon r)
  ahead reads-done sure = vanishes refl
  ahead (reads-kept {start = i} h r) sure =
      let same : kind_at ws i ≡ (lexeme (kind_at ws i) (value_at ws i)).kind = sym (kind_kept (kind_at ws i) (value_at ws i)) in shows (lexeme (kind_at ws i) (value_at ws i)) (canon r) (like same) (λ straight. same)
  ahead (reads-mark {start = i} {a = a} h r) sure = let same : kind_at ws i ≡ a = is_same (kind_at ws i) a h in shows (bare a) (canon r) (like same) (λ straight. same)
  ahead (reads-any h r) sure = no_true sure
  ahead (reads-none h r) sure = no_true sure
  ahead (reads-here r) sure = ahead r sure
  ahead (reads-part {start = i} {m = m} {end = j} {t = Once} {n = n} {right = right} {s = s} h sh r q) sure =
      let known = row_fine n (kind_at ws i) right h in
      let straight = row_straight n right known in
      let front = part_ahead n (canon r) h straight (ahead r (row_calm n right known)) in
      joined ws front (turn_first Once n s)
      (λ gone. by (written_none n (canon r) gone) (λ is after none. firm_some r (or_right (is_after n) (firm right) (row_firm n right known is) after) none) (λ e. ahead q e) (firm_part n) refl sure)
    where
      by : (is_after n ≡ false) × (canon r ≡ []) → (firm_part n ≡ true → is_after n ≡ false → canon r ≡ [] → ⊥) → (calm s ≡ true → Ahead (kind_at ws m) (turn s) m j (canon q))
          → (b : Bool) → firm_part n ≡ b → (b || calm s) ≡ true → Ahead (kind_at ws m) (turn (Of Once n ∷ s)) m j (canon q)
      by none firmly rest true is sure = absurd (firmly is none.0 none.1)
      by none firmly rest false is sure = weaken (turn_behind n s is) (rest sure)
  ahead (reads-part {start = i} {t = Maybe} {n = n} {right = right} {s = s} h sh r q) sure =
      let known = row_fine n (kind_at ws i) right h in
      let straight = row_straight n right known in
      joined ws (part_ahead n (canon r) h straight (ahead r (row_calm n right known))) (turn_first Maybe n s) (λ gone. weaken (λ e. right_false (turns n) (turn s) e) (ahead q sure))
  ahead (reads-part {start = i} {t = Many} {n = n} {right = right} {s = s} h sh r q) sure =
      let known = row_fine n (kind_at ws i) right h in
      let straight = row_straight n right known in
      joined ws (part_ahead n (canon r) h straight (ahead r (row_calm n right known))) (turn_first Many n s) (λ gone. ahead q sure)
  ahead (reads-skip {t = Once} h may r) sure = no_true may
  ahead (reads-skip {t = Maybe} {n = n} {s = s} h may r) sure = weaken (λ straight. right_false (turns n) (turn s) straight) (ahead r sure)
  ahead (reads-skip {t = Many} {n = n} {s = s} h may r) sure = weaken (λ straight. right_false (turns n) (turn s) straight) (ahead r sure)
