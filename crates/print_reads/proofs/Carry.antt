-- What is read from tokens is read from its canonical tokens too, and gives the same but for numbers.
use Rattle.std.proofs.Common.{◌≡◌, ℕ, ◌+◌, Bool, true, false, List, [], ◌∷◌, ◌++◌, Option, Some, None, refl, sym, ap, ◌∙◌, subst, if◌then◌else◌}
use Rattle.std.specs.Prelude.{◌&&◌, ◌||◌, not, slice_index_or}
use Rattle.sim_base.specs.Lexeme.{bare, value_for}
use Rattle.sim_base.specs.declared.token.Lexeme.{Lexeme}
use Rattle.sim_base.specs.declared.token.Token.{Token}
use Rattle.sim_base.specs.declared.token.TokenKind.{TokenKind}
use Rattle.sim_base.specs.declared.token.TokenKind.TheVariants as k
use Rattle.sim_base.specs.declared.token.TokenValue.{TokenValue}
use Rattle.sim_tree.specs.Grammar as g
use Rattle.sim_tree.specs.Grammar.{Any, Here, Kept, Many, Mark, Maybe, Of, Once, Part, Symbol, Times, is, one_of, right_side, rows}
use Rattle.sim_tree.specs.Reading.{Forest, Reads, after, done, finish, inside_depth, is_too_deep, kind_at, leaf, may_skip, node, place, reads-any, reads-done, reads-here, reads-kept, reads-mark, reads-none, reads-part, reads-skip, value_at}
use Rattle.sim_tree.proofs.Completion.{is_same, is_self, left_true, right_true}
use Rattle.sim_tree.proofs.ReadBack.{Also, Item, Tok, item_of, items}
use Rattle.print_reads.proofs.Carried.{Among, Carried, InRows, Lists, any, behind, ended, first, here, here_at, kept, later, lexeme, mark, no_more, none, only, part, sort, unless}
use Rattle.print_reads.proofs.CarriedBlocks.{both_ways, hidden, protected}
use Rattle.print_reads.proofs.CarriedDeclarations.{is_choice, is_ref, type_name}
use Rattle.print_reads.proofs.CarriedParts.{gives, in_rows, is_plain}
use Rattle.print_reads.proofs.Ahead.{Ahead, Like, ahead, alike, at_end, calm, canon, closed, exact, firm, firm_part, firm_some, is_after, is_once, kind_kept, left_false, must, no_true, not_true, open_end, or_right, right_false, row_closed, row_fine, row_well, shows, sorted, suits, turn, turned, turns, vanishes, well, written}

-- the tokens from one index up to another have these lexemes
abbrev pub Spans : List Token → ℕ → List Lexeme → ℕ → Type 0
Spans us i [] j = i ≡ j
Spans us i (x ∷ l) j = ((slice_index_or us i finish).lexeme ≡ x) × Spans us (i + 1) l j

pub record Splits (us : List Token) (i : ℕ) (xs ys : List Lexeme) (j : ℕ) : Type 0 where
  pub middle : ℕ
  pub front : Spans us i xs middle
  pub rest : Spans us middle ys j

pub split : (us : List Token) (xs ys : List Lexeme) (i j : ℕ) → Spans us i (xs ++ ys) j → Splits us i xs ys j
split us [] ys i j h = record { middle = i; front = refl; rest = h }
split us (x ∷ xs) ys i j h =
    let more = split us xs ys (i + 1) j h.1 in record { middle = more.middle; front = (h.0, more.front); rest = more.rest }

-- symbols are read from canonical tokens, and give such items
pub record Again (most : ℕ) (us : List Token) (d : ℕ) (s : List Symbol) (i j : ℕ) (l : List Item) (ls : List Lexeme) : Type 0 where
  pub forest : Forest
  pub reads : Reads most us d s i forest j
  pub lists : Lists s l (items forest) ls

-- ---- tokens

value_kept : (a : TokenKind) (v : TokenValue) → value_for a (lexeme a (value_for a v)).value ≡ value_for a v
value_kept k.Identifier v = refl
value_kept k.Integer v = refl
value_kept k.Character v = refl
value_kept k.Text v = refl
value_kept _ v = refl

kind_there : (us : List Token) (i : ℕ) (x : Lexeme) → (slice_index_or us i finish).lexeme ≡ x → kind_at us i ≡ x.kind
unfolding kind_at
kind_there us i x e = ap (λ (y : Lexeme). y.kind) e

kept_there : (ws us : List Token) (i j : ℕ) → (slice_index_or us j finish).lexeme ≡ lexeme (kind_at ws i) (value_at ws i) → (kind_at us j ≡ kind_at ws i) × (value_at us j ≡ value_at ws i)
unfolding value_at
kept_there ws us i j e =
    let kind = kind_there us j (lexeme (kind_at ws i) (value_at ws i)) e ∙ kind_kept (kind_at ws i) (value_at ws i) in
    (kind, ap (λ z. value_for z (slice_index_or us j finish).lexeme.value) kind ∙ ap (λ (y : Lexeme). value_for (kind_at ws i) y.value) e ∙ value_kept (kind_at ws i) (slice_index_or ws i finish).lexeme.value)

among : (any : List TokenKind) (a : TokenKind) → one_of any a ≡ true → Among any a
among [] a h = no_true h
among (b ∷ []) a h = go (is a b) refl h
  where
    go : (c : Bool) → is a b ≡ c → (c || false) ≡ true → Among (b ∷ []) a
    go true same h = subst (Among (b ∷ [])) (sym (is_same a b same)) only
    go false same h = no_true h
among (b ∷ c ∷ others) a h = go (is a b) refl h (λ h. among (c ∷ others) a h)
  where
    go : (x : Bool) → is a b ≡ x → (x || one_of (c ∷ others) a) ≡ true → (one_of (c ∷ others) a ≡ true → Among (c ∷ others) a) → Among (b ∷ c ∷ others) a
    go true same h more = subst (Among (b ∷ c ∷ others)) (sym (is_same a b same)) first
    go false same h more = later (more h)

-- the item of a kept token, by kind and value
moved : {s : List Symbol} {l m : List Item} {ls : List Lexeme} (i j : ℕ) (a b : TokenKind) (v w : TokenValue) → b ≡ a → w ≡ v → Lists s (Tok i a v ∷ l) (Tok j a v ∷ m) ls → Lists s (Tok i a v ∷ l) (Tok j b w ∷ m) ls
moved {s} {l} {m} {ls} i j a b v w e h lists =
    subst (λ z. Lists s (Tok i a v ∷ l) (Tok j z w ∷ m) ls) (sym e) (subst (λ z. Lists s (Tok i a v ∷ l) (Tok j a z ∷ m) ls) (sym h) lists)

-- ---- what the table makes of two kinds that are alike

ends_alike : (n : Part) → exact n ≡ false → is_after n ≡ false → right_side n k.End ≡ right_side n k.Semicolon
unfolding right_side is
ends_alike g.NextStatement e h = no_true (sym e)
ends_alike g.Heading e h = no_true (sym e)
ends_alike g.Block e h = no_true (sym e)
ends_alike g.AfterDeclaration e h = no_true (sym h)
ends_alike _ e h = refl

turned_alike : (n : Part) → exact n ≡ false → turns n ≡ false → right_side n k.Protected ≡ right_side n k.Hidden
unfolding right_side is
turned_alike g.AndProtected e h = no_true (sym e)
turned_alike g.AndHidden e h = no_true (sym e)
turned_alike g.Protection e h = no_true (sym h)
turned_alike _ e h = refl

not_after : (n : Part) → turns n ≡ false → is_after n ≡ false
not_after g.AfterDeclaration e = e
not_after _ e = refl

same_side : (n : Part) {a b : TokenKind} → exact n ≡ false → turns n ≡ false → Like a b → right_side n a ≡ right_side n b
same_side n e h alike = refl
same_side n e h at_end = ends_alike n e (not_after n h)
same_side n e h turned = turned_alike n e h

-- a protection part that is not there stays away
no_protection : {a b : TokenKind} → Like a b → right_side g.Protection a ≡ None → right_side g.Protection b ≡ None
unfolding right_side is
no_protection alike e = e
no_protection at_end e = refl
no_protection turned e = absurd (some e)
  where
    some : {x : List Symbol} → Some x ≡ None → ⊥
    some e = cc

-- ---- where symbols end

open_tail : (x : Symbol) (s : List Symbol) → open_end s ≡ true → open_end (x ∷ s) ≡ true
open_tail x [] e = no_true e
open_tail x (y ∷ s) e = e

closed_firm : (n : Part) → firm_part n ≡ false → closed n ≡ false
closed_firm g.Program e = e
closed_firm g.Compound e = e
closed_firm g.Block e = e
closed_firm g.AfterDeclaration e = e
closed_firm g.AfterIdentifier e = e
closed_firm _ e = refl

firm_tail : (x : Symbol) (s : List Symbol) → firm (x ∷ s) ≡ false → firm s ≡ false
firm_tail (Kept kinds) s e = no_true (sym e)
firm_tail (Mark a) s e = no_true (sym e)
firm_tail (Any a) s e = e
firm_tail Here s e = e
firm_tail (Of Once n) s e = right_false (firm_part n) (firm s) e
firm_tail (Of Maybe n) s e = e
firm_tail (Of Many n) s e = e

-- symbols that need no token have an open end
open_soft : (x : Symbol) (s : List Symbol) → firm (x ∷ s) ≡ false → open_end (x ∷ s) ≡ true
open_soft (Kept kinds) [] e = no_true (sym e)
open_soft (Mark a) [] e = no_true (sym e)
open_soft (Any a) [] e = refl
open_soft Here [] e = refl
open_soft (Of Once n) [] e = ap not (closed_firm n (left_false (firm_part n) false e))
open_soft (Of Maybe n) [] e = refl
open_soft (Of Many n) [] e = refl
open_soft x (y ∷ s) e = open_soft y s (firm_tail x (y ∷ s) e)

-- what stands behind symbols, where it is looked at
abbrev pub Follows : (ws us : List Token) → List Symbol → ℕ → ℕ → Type 0
Follows ws us s j j' = open_end s ≡ true → Like (kind_at ws j) (kind_at us j')

-- the next tokens of both are alike
met : (ws us : List Token) {turning : Bool} {i j : ℕ} {l : List Lexeme} (i' j' : ℕ) → Ahead (kind_at ws i) turning i j l → Spans us i' l j' → (l ≡ [] → Like (kind_at ws j) (kind_at us j'))
    → Like (kind_at ws i) (kind_at us i')
met ws us {i = i} i' j' (shows x l h e) span rest = subst (Like (kind_at ws i)) (sym (kind_there us i' x span.0)) h
met ws us {j = j} i' j' (vanishes e) span rest = subst (λ z. Like (kind_at ws z) (kind_at us i')) (sym e) (subst (λ z. Like (kind_at ws j) (kind_at us z)) (sym span) (rest refl))

met_exactly : (ws us : List Token) {turning : Bool} {i j : ℕ} {l : List Lexeme} (i' j' : ℕ) → Ahead (kind_at ws i) turning i j l → Spans us i' l j' → (l ≡ [] → ⊥) → turning ≡ false
    → kind_at ws i ≡ kind_at us i'
met_exactly ws us i' j' (shows x l h e) span some straight = e straight ∙ sym (kind_there us i' x span.0)
met_exactly ws us i' j' (vanishes e) span some straight = absurd (some refl)

calm_after : (t : Times) (n : Part) (s : List Symbol) → calm s ≡ true → calm (after t n s) ≡ true
calm_after Once n s e = e
calm_after Maybe n s e = e
calm_after Many n s e = e

open_after : (t : Times) (n : Part) (s : List Symbol) → firm (after t n s) ≡ false → closed n ≡ false → open_end (Of t n ∷ s) ≡ true
open_after Once n [] e shut = ap not shut
open_after Once n (x ∷ s) e shut = open_soft x s e
open_after Maybe n [] e shut = refl
open_after Maybe n (x ∷ s) e shut = open_soft x s e
open_after Many n s e shut = open_soft (Of Many n) s e

well_after : (t : Times) (n : Part) (s : List Symbol) → well (Of t n ∷ s) ≡ true → well (after t n s) ≡ true
well_after Once n s e = left_true (well s) _ e
well_after Maybe n s e = left_true (well s) _ e
well_after Many n s e = e

follows_after : (ws us : List Token) (t : Times) (n : Part) (s : List Symbol) (j j' : ℕ) → Follows ws us (Of t n ∷ s) j j' → Follows ws us (after t n s) j j'
follows_after ws us Once n s j j' h = λ e. h (open_tail (Of Once n) s e)
follows_after ws us Maybe n s j j' h = λ e. h (open_tail (Of Maybe n) s e)
follows_after ws us Many n s j j' h = h

-- what is inside a part, and what the part gives
pub record Inside (most : ℕ) (us : List Token) (n : Part) (d i' m' : ℕ) (l : List Item) (ls : List Lexeme) : Type 0 where
  pub right : List Symbol
  pub forest : Forest
  pub side : right_side n (kind_at us i') ≡ Some right
  pub shallow : is_too_deep most n d right ≡ false
  pub reads : Reads most us (inside_depth n d) right i' forest m'
  pub item : Carried (sort n) (item_of n l) (item_of n (items forest)) ls

written_same : (n : Part) (l : List Lexeme) → turns n ≡ false → written n l ≡ l
written_same g.AfterDeclaration l e = no_true (sym e)
written_same g.Protection l e = no_true (sym e)
written_same _ l e = refl

abbrev choice : Option (List Symbol) → Bool
choice None = false
choice (Some right) = is_choice right

-- a type that begins with `ref` has a class behind it
not_ref : (a : TokenKind) (v : TokenValue) (i : ℕ) (l : List Item) (right : List Symbol) → right_side g.TypeName a ≡ Some right → is_choice right ≡ true → is_ref (Tok i a v ∷ l) ≡ false
unfolding right_side is
not_ref k.Ref v i l right e many = no_true (ap choice e ∙ many)
not_ref _ v i l right e many = refl

data Which : Part → Type 0 where
  after_one : Which g.AfterDeclaration
  protection_one : Which g.Protection
  type_one : Which g.TypeName
  other : {n : Part} → is_plain n ≡ true → turns n ≡ false → Which n

which : (n : Part) → Which n
which g.AfterDeclaration = after_one
which g.Protection = protection_one
which g.TypeName = type_one
which _ = other refl refl

-- inside of what ends a declaration there is a semicolon
after_side : right_side g.AfterDeclaration k.Semicolon ≡ Some (Mark k.Semicolon ∷ [])
unfolding right_side is
after_side = refl

after_inside : (most : ℕ) (us : List Token) {d : ℕ} (i' m' : ℕ) (l : List Item) → Spans us i' (bare k.Semicolon ∷ []) m' → Inside most us g.AfterDeclaration d i' m' l (bare k.Semicolon ∷ [])
after_inside most us {d} i' m' l span =
    let kind = kind_there us i' (bare k.Semicolon) span.0 in
    record {
      right = Mark k.Semicolon ∷ [];
      forest = done;
      side = ap (right_side g.AfterDeclaration) kind ∙ after_side;
      shallow = refl;
      reads = reads-mark (subst (λ z. is z k.Semicolon ≡ true) (sym kind) (is_self k.Semicolon)) (subst (λ z. Reads most us d [] (i' + 1) done z) span.1 reads-done);
      item = ended refl;
    }

-- ---- `hidden` and `protected`

single : (a b : TokenKind) → one_of (b ∷ []) a ≡ true → a ≡ b
single a b h = go (is a b) refl h
  where
    go : (c : Bool) → is a b ≡ c → (c || false) ≡ true → a ≡ b
    go true same h = is_same a b same
    go false same h = no_true h

hidden_stays : (a : TokenKind) (v : TokenValue) (l : List Lexeme) → a ≡ k.Hidden → sorted (lexeme a v ∷ l) ≡ lexeme a v ∷ l
unfolding is
hidden_stays a v l e = subst (λ z. sorted (lexeme z v ∷ l) ≡ lexeme z v ∷ l) (sym e) (stays l)
  where
    stays : (l : List Lexeme) → sorted (bare k.Hidden ∷ l) ≡ bare k.Hidden ∷ l
    stays [] = refl
    stays (y ∷ l) = refl

not_hidden : right_side g.AndHidden k.Hidden ≡ None → ⊥
unfolding right_side is
not_hidden e = some e
  where
    some : {x : List Symbol} → Some x ≡ None → ⊥
    some e = cc

protected_stays : {i j : ℕ} {a : TokenKind} (x : Lexeme) (l : List Lexeme) → Ahead a false i j l → right_side g.AndHidden a ≡ None → sorted (x ∷ l) ≡ x ∷ l
protected_stays x [] (vanishes e) away = refl
protected_stays {a = a} x (y ∷ l) (shows _ _ h e) away = by (is x.kind k.Protected && is y.kind k.Hidden) refl
  where
    by : (b : Bool) → (is x.kind k.Protected && is y.kind k.Hidden) ≡ b → (if b then y ∷ x ∷ l else x ∷ y ∷ l) ≡ x ∷ y ∷ l
    by true both =
        let kind : a ≡ k.Hidden = e refl ∙ is_same y.kind k.Hidden (right_true (is x.kind k.Protected) (is y.kind k.Hidden) both) in
        absurd (not_hidden (subst (λ z. right_side g.AndHidden z ≡ None) kind away))
    by false both = refl

both_sorted : (a b : TokenKind) (v w : TokenValue) (l : List Lexeme) → a ≡ k.Protected → b ≡ k.Hidden → sorted (lexeme a v ∷ lexeme b w ∷ l) ≡ bare k.Hidden ∷ bare k.Protected ∷ l
unfolding is
both_sorted a b v w l e h =
    ap (λ z. sorted (lexeme z v ∷ lexeme b w ∷ l)) e ∙ ap (λ z. sorted (bare k.Protected ∷ lexeme z w ∷ l)) h

hidden_side : right_side g.Protection k.Hidden ≡ Some (Kept (k.Hidden ∷ []) ∷ Of Maybe g.AndProtected ∷ Of Once g.Identifiers ∷ Mark k.Semicolon ∷ [])
unfolding right_side is
hidden_side = refl

protected_side : right_side g.Protection k.Protected ≡ Some (Kept (k.Protected ∷ []) ∷ Of Maybe g.AndHidden ∷ Of Once g.Identifiers ∷ Mark k.Semicolon ∷ [])
unfolding right_side is
protected_side = refl

and_protected_side : right_side g.AndProtected k.Protected ≡ Some (Kept (k.Protected ∷ []) ∷ [])
unfolding right_side is
and_protected_side = refl

kept_kind : (a b : TokenKind) → a ≡ b → one_of (b ∷ []) a ≡ true
kept_kind a b e = subst (λ z. one_of (b ∷ []) z ≡ true) (sym e) (ap (λ z. z || false) (is_self b))

skip_lists : (t : Times) (n : Part) (s : List Symbol) (l m : List Item) (ls : List Lexeme) → may_skip t ≡ true → Lists s l m ls → Lists (Of t n ∷ s) l m ls
skip_lists Once n s l m ls may lists = no_true may
skip_lists Maybe n s l m ls may lists = unless lists
skip_lists Many n s l m ls may lists = no_more lists

module _ {most : ℕ} {ws : List Token} (us : List Token) where
  soft : {d : ℕ} {s : List Symbol} {i : ℕ} {f : Forest} {j : ℕ} → (r : Reads most ws d s i f j) → canon r ≡ [] → firm s ≡ false
  soft {s = s} r e = go (firm s) refl
    where
      go : (b : Bool) → firm s ≡ b → firm s ≡ false
      go true h = absurd (firm_some r h e)
      go false h = h

  -- at the first of some symbols
  meets : {d : ℕ} {x : Symbol} {s : List Symbol} {i : ℕ} {f : Forest} {j : ℕ} → (r : Reads most ws d (x ∷ s) i f j) → calm (x ∷ s) ≡ true → (i' j' : ℕ) → Spans us i' (canon r) j' → Follows ws us (x ∷ s) j j'
      → Like (kind_at ws i) (kind_at us i')
  meets {x = x} {s} r sure i' j' span follow = met ws us i' j' (ahead r sure) span (λ e. follow (open_soft x s (soft r e)))

  exactly : {d : ℕ} {s : List Symbol} {i : ℕ} {f : Forest} {j : ℕ} → (r : Reads most ws d s i f j) → calm s ≡ true → firm s ≡ true → turn s ≡ false → (i' j' : ℕ) → Spans us i' (canon r) j'
      → kind_at ws i ≡ kind_at us i'
  exactly r sure some straight i' j' span = met_exactly ws us i' j' (ahead r sure) span (λ e. firm_some r some e) straight

  abbrev Goal : {d : ℕ} {s : List Symbol} {i : ℕ} {f : Forest} {j : ℕ} → Reads most ws d s i f j → Type 0
  Goal {d} {s} {i} {f} {j} r = well s ≡ true → (i' j' : ℕ) → Spans us i' (canon r) j' → Follows ws us s j j' → Again most us d s i' j' (items f) (canon r)

  abbrev Below : {d : ℕ} {s : List Symbol} {i : ℕ} {f : Forest} {j : ℕ} → Reads most ws d s i f j → Type 0
  Below reads-done = Unit {0}
  Below (reads-kept h r) = Goal r × Below r
  Below (reads-mark h r) = Goal r × Below r
  Below (reads-any h r) = Goal r × Below r
  Below (reads-none h r) = Goal r × Below r
  Below (reads-here r) = Goal r × Below r
  Below (reads-part h sh r q) = (Goal r × Below r) × (Goal q × Below q)
  Below (reads-skip h may r) = Goal r × Below r

  kept_again : {d i j : ℕ} {kinds : List TokenKind} {s : List Symbol} {f : Forest} (h : one_of kinds (kind_at ws i) ≡ true) (r : Reads most ws d s (i + 1) f j) → Goal r → Goal (reads-kept h r)
  kept_again {d} {i} {j} {kinds} {s} {f} h r goal fits i' j' span follow =
      let more = goal fits (i' + 1) j' span.1 (λ e. follow (open_tail (Kept kinds) s e)) in
      let there = kept_there ws us i i' span.0 in
      record {
        forest = leaf i' (kind_at us i') (value_at us i') more.forest;
        reads = reads-kept (subst (λ z. one_of kinds z ≡ true) (sym there.0) h) more.reads;
        lists = moved i i' (kind_at ws i) (kind_at us i') (value_at ws i) (value_at us i') there.0 there.1 (kept i i' (among kinds (kind_at ws i) h) more.lists);
      }

  mark_again : (i : ℕ) {d j : ℕ} {a : TokenKind} {s : List Symbol} {f : Forest} (h : is (kind_at ws i) a ≡ true) (r : Reads most ws d s (i + 1) f j) → Goal r → Goal (reads-mark h r)
  mark_again i {d} {j} {a} {s} h r goal fits i' j' span follow =
      let more = goal fits (i' + 1) j' span.1 (λ e. follow (open_tail (Mark a) s e)) in
      record { forest = more.forest; reads = reads-mark (subst (λ z. is z a ≡ true) (sym (kind_there us i' (bare a) span.0)) (is_self a)) more.reads; lists = mark more.lists }

  none_again : {d i j : ℕ} {a : TokenKind} {s : List Symbol} {f : Forest} (h : is (kind_at ws i) a ≡ false) (r : Reads most ws d s i f j) → Goal r → Goal (reads-none h r)
  none_again {d} {i} {j} {a} {s} h r goal fits i' j' span follow =
      let some : firm s ≡ true = left_true (firm s) _ fits in
      let rest = right_true (firm s) _ fits in
      let straight : turn s ≡ false = not_true (turn s) (left_true _ _ rest) in
      let sure : calm s ≡ true = left_true (calm s) _ (right_true (not (turn s)) _ rest) in
      let more = goal (right_true (calm s) _ (right_true (not (turn s)) _ rest)) i' j' span (λ e. follow (open_tail (Any a) s e)) in
      record { forest = more.forest; reads = reads-none (subst (λ z. is z a ≡ false) (exactly r sure some straight i' j' span) h) more.reads; lists = any more.lists }

  here_again : {d i j : ℕ} {s : List Symbol} {f : Forest} (r : Reads most ws d s i f j) → Goal r → Goal (reads-here r)
  here_again {d} {i} {j} {s} r goal fits i' j' span follow =
      let more = goal fits i' j' span (λ e. follow (open_tail Here s e)) in
      record { forest = place i' more.forest; reads = reads-here more.reads; lists = here i i' more.lists }

  -- behind a part
  behind_meets : (t : Times) (n : Part) (s : List Symbol) {d m j : ℕ} {f : Forest} → (q : Reads most ws d (after t n s) m f j) → calm s ≡ true → closed n ≡ false → (m' j' : ℕ) → Spans us m' (canon q) j'
      → Follows ws us (Of t n ∷ s) j j' → Like (kind_at ws m) (kind_at us m')
  behind_meets t n s q sure shut m' j' span follow = met ws us m' j' (ahead q (calm_after t n s sure)) span (λ e. follow (open_after t n s (soft q e) shut))

  -- the right side is the same
  side_again : (t : Times) (n : Part) (s : List Symbol) {d i j : ℕ} {f : Forest} → (r : Reads most ws d (Of t n ∷ s) i f j) → turns n ≡ false → well (Of t n ∷ s) ≡ true → (i' j' : ℕ) → Spans us i' (canon r) j'
      → Follows ws us (Of t n ∷ s) j j' → right_side n (kind_at us i') ≡ right_side n (kind_at ws i)
  side_again t n s {i = i} r straight fits i' j' span follow = by (exact n) refl
    where
      rest : (calm (Of t n ∷ s) && suits t n s) ≡ true
      rest = right_true (well s) _ fits

      sure : calm (Of t n ∷ s) ≡ true
      sure = left_true (calm (Of t n ∷ s)) _ rest

      by : (b : Bool) → exact n ≡ b → right_side n (kind_at us i') ≡ right_side n (kind_at ws i)
      by true is =
          let both = must (exact n) (firm (Of t n ∷ s) && not (turn (Of t n ∷ s))) (left_true _ _ (right_true (calm (Of t n ∷ s)) _ rest)) is in
          ap (right_side n) (sym (exactly r sure (left_true _ _ both) (not_true _ (right_true (firm (Of t n ∷ s)) _ both)) i' j' span))
      by false is = sym (same_side n is straight (meets r sure i' j' span follow))

  -- the first item, where it is one of several kinds
  first_plain : {d i j : ℕ} {s : List Symbol} {f : Forest} → Reads most ws d s i f j → right_side g.TypeName (kind_at ws i) ≡ Some s → is_choice s ≡ true → is_ref (items f) ≡ false
  first_plain reads-done side many = no_true many
  first_plain {i = i} (reads-kept {any = kinds} {s = s} {f = f} h more) side many = not_ref (kind_at ws i) (value_at ws i) i (items f) (Kept kinds ∷ s) side many
  first_plain (reads-mark h more) side many = no_true many
  first_plain (reads-any h more) side many = no_true many
  first_plain (reads-none h more) side many = no_true many
  first_plain (reads-here more) side many = no_true many
  first_plain (reads-part h sh more q) side many = no_true many
  first_plain (reads-skip h may more) side many = no_true many

  -- what a part gives
  item_again : (n : Part) → Which n → turns n ≡ false → {d i m : ℕ} {right : List Symbol} {f : Forest} → Reads most ws d right i f m → right_side n (kind_at ws i) ≡ Some right
      → (l : List Item) (ls : List Lexeme) → Lists right (items f) l ls → Carried (sort n) (item_of n (items f)) (item_of n l) ls
  unfolding right_side
  item_again n after_one straight more side l ls lists = no_true (sym straight)
  item_again n protection_one straight more side l ls lists = no_true (sym straight)
  item_again n type_one straight {i = i} {right = right} {f = f} more side l ls lists = type_name right (items f) l ls (in_rows (rows g.TypeName) (kind_at ws i) right side) (first_plain more side) lists
  item_again n (other plain straight') straight {i = i} {right = right} {f = f} more side l ls lists = gives n plain right (items f) l ls (in_rows (rows n) (kind_at ws i) right side) lists

  -- inside a part whose first token stays
  plain_inside : (t : Times) (n : Part) (s : List Symbol) {d i m j : ℕ} {right : List Symbol} {f f' : Forest} (h : right_side n (kind_at ws i) ≡ Some right) (sh : is_too_deep most n d right ≡ false)
      (more : Reads most ws (inside_depth n d) right i f m) (q : Reads most ws d (after t n s) m f' j) → Which n → turns n ≡ false → Goal more → well (Of t n ∷ s) ≡ true → (i' m' j' : ℕ)
      → Spans us i' (written n (canon more)) m' → Spans us m' (canon q) j' → Spans us i' (written n (canon more) ++ canon q) j' → Follows ws us (Of t n ∷ s) j j'
      → Inside most us n d i' m' (items f) (written n (canon more))
  plain_inside t n s {d} {i} {m} {j} {right} {f} {f'} h sh more q what straight goal fits i' m' j' front rest span follow =
      let known = row_fine n (kind_at ws i) right h in
      let here = subst (λ z. Spans us i' z m') (written_same n (canon more) straight) front in
      let again = goal (row_well n right known) i' m' here (λ wide. met_behind (closed n) refl wide) in
      record {
        right = right;
        forest = again.forest;
        side = side_again t n s (reads-part {t = t} {n = n} h sh more q) straight fits i' j' span follow ∙ h;
        shallow = sh;
        reads = again.reads;
        item = subst (Carried (sort n) (item_of n (items f)) (item_of n (items again.forest))) (sym (written_same n (canon more) straight))
            (item_again n what straight more h (items again.forest) (canon more) again.lists);
      }
    where
      suited : suits t n s ≡ true
      suited = right_true (calm (Of t n ∷ s)) _ (right_true (well s) _ fits)

      calm_behind : (b : Bool) → closed n ≡ false → calm s ≡ b → calm s ≡ true
      calm_behind true shut sure = sure
      calm_behind false shut soft = no_true (sym shut ∙ right_true (is_once t) (closed n) (or_right (calm s) (is_once t && closed n) (right_true _ _ (right_true _ _ suited)) soft))

      met_behind : (b : Bool) → closed n ≡ b → open_end right ≡ true → Like (kind_at ws m) (kind_at us m')
      met_behind true shut wide = no_true (sym (row_closed n right (row_fine n (kind_at ws i) right h) shut) ∙ wide)
      met_behind false shut wide = behind_meets t n s q (calm_behind (calm s) shut refl) shut m' j' rest follow

  hidden_inside : {d i m : ℕ} {f : Forest} (more : Reads most ws d (Kept (k.Hidden ∷ []) ∷ Of Maybe g.AndProtected ∷ Of Once g.Identifiers ∷ Mark k.Semicolon ∷ []) i f m) → Goal more
      → (i' m' : ℕ) → Spans us i' (sorted (canon more)) m' → Inside most us g.Protection d i' m' (items f) (sorted (canon more))
  hidden_inside (reads-kept {start = i} {f = f} h more) goal i' m' span =
      let kind = single (kind_at ws i) k.Hidden h in
      let stays = hidden_stays (kind_at ws i) (value_at ws i) (canon more) kind in
      let straight : Spans us i' (lexeme (kind_at ws i) (value_at ws i) ∷ canon more) m' = subst (λ z. Spans us i' z m') stays span in
      let again = goal refl i' m' straight (λ e. no_true e) in
      let there = kept_there ws us i i' straight.0 in
      record {
        right = Kept (k.Hidden ∷ []) ∷ Of Maybe g.AndProtected ∷ Of Once g.Identifiers ∷ Mark k.Semicolon ∷ [];
        forest = again.forest;
        side = ap (right_side g.Protection) (there.0 ∙ kind) ∙ hidden_side;
        shallow = refl;
        reads = again.reads;
        item = subst (Carried (sort g.Protection) (item_of g.Protection (Tok i (kind_at ws i) (value_at ws i) ∷ items f)) (item_of g.Protection (items again.forest))) (sym stays)
            (hidden (Tok i (kind_at ws i) (value_at ws i) ∷ items f) (items again.forest) (lexeme (kind_at ws i) (value_at ws i) ∷ canon more) again.lists);
      }

  -- `protected` alone
  protected_inside : {d m : ℕ} (i : ℕ) {f : Forest} (h : one_of (k.Protected ∷ []) (kind_at ws i) ≡ true) (away : right_side g.AndHidden (kind_at ws (i + 1)) ≡ None)
      (more : Reads most ws d (Of Once g.Identifiers ∷ Mark k.Semicolon ∷ []) (i + 1) f m) → Goal more → (i' m' : ℕ) → Spans us i' (sorted (lexeme (kind_at ws i) (value_at ws i) ∷ canon more)) m'
      → Inside most us g.Protection d i' m' (Tok i (kind_at ws i) (value_at ws i) ∷ items f) (sorted (lexeme (kind_at ws i) (value_at ws i) ∷ canon more))
  protected_inside i {f} h away more goal i' m' span =
      let kind = single (kind_at ws i) k.Protected h in
      let stays = protected_stays (lexeme (kind_at ws i) (value_at ws i)) (canon more) (ahead more refl) away in
      let straight : Spans us i' (lexeme (kind_at ws i) (value_at ws i) ∷ canon more) m' = subst (λ z. Spans us i' z m') stays span in
      let again = goal refl (i' + 1) m' straight.1 (λ e. no_true e) in
      let there = kept_there ws us i i' straight.0 in
      let lists = moved i i' (kind_at ws i) (kind_at us i') (value_at ws i) (value_at us i') there.0 there.1 (kept i i' (among (k.Protected ∷ []) (kind_at ws i) h) again.lists) in
      record {
        right = Kept (k.Protected ∷ []) ∷ Of Maybe g.AndHidden ∷ Of Once g.Identifiers ∷ Mark k.Semicolon ∷ [];
        forest = leaf i' (kind_at us i') (value_at us i') again.forest;
        side = ap (right_side g.Protection) (there.0 ∙ kind) ∙ protected_side;
        shallow = refl;
        reads = reads-kept (kept_kind (kind_at us i') k.Protected (there.0 ∙ kind)) (reads-skip (ap (right_side g.AndHidden) (sym (exactly more refl refl refl (i' + 1) m' straight.1)) ∙ away) refl again.reads);
        item = subst (Carried (sort g.Protection) (item_of g.Protection (Tok i (kind_at ws i) (value_at ws i) ∷ items f)) (item_of g.Protection (Tok i' (kind_at us i') (value_at us i') ∷ items again.forest))) (sym stays)
            (protected (Tok i (kind_at ws i) (value_at ws i) ∷ items f) (Tok i' (kind_at us i') (value_at us i') ∷ items again.forest) (lexeme (kind_at ws i) (value_at ws i) ∷ canon more) lists);
      }

  -- `protected hidden` is written the other way round
  turned_inside : {d m : ℕ} (i : ℕ) {f : Forest} (h : one_of (k.Protected ∷ []) (kind_at ws i) ≡ true) (h' : one_of (k.Hidden ∷ []) (kind_at ws (i + 1)) ≡ true)
      (more : Reads most ws d (Of Once g.Identifiers ∷ Mark k.Semicolon ∷ []) (i + 1 + 1) f m) → Goal more → (i' m' : ℕ)
      → Spans us i' (sorted (lexeme (kind_at ws i) (value_at ws i) ∷ lexeme (kind_at ws (i + 1)) (value_at ws (i + 1)) ∷ canon more)) m'
      → Inside most us g.Protection d i' m' (Tok i (kind_at ws i) (value_at ws i) ∷ Also (i + 1) ∷ items f) (sorted (lexeme (kind_at ws i) (value_at ws i) ∷ lexeme (kind_at ws (i + 1)) (value_at ws (i + 1)) ∷ canon more))
  turned_inside {d} i {f} h h' more goal i' m' span =
      let kind = single (kind_at ws i) k.Protected h in
      let kind' = single (kind_at ws (i + 1)) k.Hidden h' in
      let turns = both_sorted (kind_at ws i) (kind_at ws (i + 1)) (value_at ws i) (value_at ws (i + 1)) (canon more) kind kind' in
      let straight : Spans us i' (bare k.Hidden ∷ bare k.Protected ∷ canon more) m' = subst (λ z. Spans us i' z m') turns span in
      let again = goal refl (i' + 1 + 1) m' straight.1.1 (λ e. no_true e) in
      let first : kind_at us i' ≡ k.Hidden = kind_there us i' (bare k.Hidden) straight.0 in
      let second : kind_at us (i' + 1) ≡ k.Protected = kind_there us (i' + 1) (bare k.Protected) straight.1.0 in
      let gives = both_ways i (i + 1) i' (i' + 1) (value_at ws i) (value_at us i') (items f) (items again.forest) (canon more) again.lists in
      record {
        right = Kept (k.Hidden ∷ []) ∷ Of Maybe g.AndProtected ∷ Of Once g.Identifiers ∷ Mark k.Semicolon ∷ [];
        forest = leaf i' (kind_at us i') (value_at us i') (node g.AndProtected (leaf (i' + 1) (kind_at us (i' + 1)) (value_at us (i' + 1)) done) again.forest);
        side = ap (right_side g.Protection) first ∙ hidden_side;
        shallow = refl;
        reads = reads-kept (kept_kind (kind_at us i') k.Hidden first)
            (reads-part {t = Maybe} {n = g.AndProtected} {right = Kept (k.Protected ∷ []) ∷ []} (ap (right_side g.AndProtected) second ∙ and_protected_side) refl
            (reads-kept (kept_kind (kind_at us (i' + 1)) k.Protected second) reads-done) again.reads);
        item = subst (Carried (sort g.Protection) (item_of g.Protection (Tok i (kind_at ws i) (value_at ws i) ∷ Also (i + 1) ∷ items f)) (item_of g.Protection (Tok i' (kind_at us i') (value_at us i') ∷ Also (i' + 1) ∷ items again.forest))) (sym turns)
            (subst (λ z. Carried (sort g.Protection) (item_of g.Protection (Tok i z (value_at ws i) ∷ Also (i + 1) ∷ items f)) (item_of g.Protection (Tok i' (kind_at us i') (value_at us i') ∷ Also (i' + 1) ∷ items again.forest)) (bare k.Hidden ∷ bare k.Protected ∷ canon more)) (sym kind)
            (subst (λ z. Carried (sort g.Protection) (item_of g.Protection (Tok i k.Protected (value_at ws i) ∷ Also (i + 1) ∷ items f)) (item_of g.Protection (Tok i' z (value_at us i') ∷ Also (i' + 1) ∷ items again.forest)) (bare k.Hidden ∷ bare k.Protected ∷ canon more)) (sym first) gives));
      }

  both_inside : (i : ℕ) {d m m'' : ℕ} {right : List Symbol} {f f' : Forest} → InRows (rows g.AndHidden) right → (h : one_of (k.Protected ∷ []) (kind_at ws i) ≡ true)
      (one : Reads most ws d right (i + 1) f m'') (more : Reads most ws d (Of Once g.Identifiers ∷ Mark k.Semicolon ∷ []) m'' f' m) → Goal more → (i' m' : ℕ)
      → Spans us i' (sorted (lexeme (kind_at ws i) (value_at ws i) ∷ (canon one ++ canon more))) m'
      → Inside most us g.Protection d i' m' (Tok i (kind_at ws i) (value_at ws i) ∷ item_of g.AndHidden (items f) ∷ items f') (sorted (lexeme (kind_at ws i) (value_at ws i) ∷ (canon one ++ canon more)))
  both_inside i here_at h (reads-kept h' reads-done) more goal i' m' span = turned_inside i h h' more goal i' m' span

  protection_inside : {d i m : ℕ} {right : List Symbol} {f : Forest} → InRows (rows g.Protection) right → (more : Reads most ws d right i f m) → Goal more → Below more → (i' m' : ℕ)
      → Spans us i' (sorted (canon more)) m' → Inside most us g.Protection d i' m' (items f) (sorted (canon more))
  unfolding right_side
  protection_inside here_at more goal below i' m' span = hidden_inside more goal i' m' span
  protection_inside (behind here_at) (reads-kept {start = i} h (reads-skip away may more)) goal below i' m' span = protected_inside i h away more below.1.0 i' m' span
  protection_inside (behind here_at) (reads-kept {start = i} h (reads-part {right = right} h' sh one more)) goal below i' m' span =
      both_inside i (in_rows (rows g.AndHidden) (kind_at ws (i + 1)) right h') h one more below.1.1.0 i' m' span

  -- ---- a whole reading

  -- inside a part, whichever it is
  part_inside : (t : Times) (n : Part) (s : List Symbol) {d i m j : ℕ} {right : List Symbol} {f f' : Forest} (h : right_side n (kind_at ws i) ≡ Some right) (sh : is_too_deep most n d right ≡ false)
      (more : Reads most ws (inside_depth n d) right i f m) (q : Reads most ws d (after t n s) m f' j) → Which n → Goal more → Below more → well (Of t n ∷ s) ≡ true → (i' m' j' : ℕ)
      → Spans us i' (written n (canon more)) m' → Spans us m' (canon q) j' → Spans us i' (written n (canon more) ++ canon q) j' → Follows ws us (Of t n ∷ s) j j'
      → Inside most us n d i' m' (items f) (written n (canon more))
  unfolding right_side
  part_inside t n s {f = f} h sh more q after_one goal below fits i' m' j' front rest span follow = after_inside most us i' m' (items f) front
  part_inside t n s {i = i} {right = right} h sh more q protection_one goal below fits i' m' j' front rest span follow =
      protection_inside (in_rows (rows g.Protection) (kind_at ws i) right h) more goal below i' m' front
  part_inside t n s h sh more q type_one goal below fits i' m' j' front rest span follow = plain_inside t g.TypeName s h sh more q type_one refl goal fits i' m' j' front rest span follow
  part_inside t n s h sh more q (other plain straight) goal below fits i' m' j' front rest span follow =
      plain_inside t n s h sh more q (other plain straight) straight goal fits i' m' j' front rest span follow

  part_again : {t : Times} {n : Part} {s : List Symbol} {d i m j : ℕ} {right : List Symbol} {f f' : Forest} (h : right_side n (kind_at ws i) ≡ Some right) (sh : is_too_deep most n d right ≡ false)
      (more : Reads most ws (inside_depth n d) right i f m) (q : Reads most ws d (after t n s) m f' j) → Goal more → Below more → Goal q → Goal (reads-part {t = t} {n = n} {s = s} h sh more q)
  part_again {t} {n} {s} {d} {i} {m} {j} h sh more q goal below goal' fits i' j' span follow =
      let both = split us (written n (canon more)) (canon q) i' j' span in
      let inside = part_inside t n s h sh more q (which n) goal below fits i' both.middle j' both.front both.rest span follow in
      let rest = goal' (well_after t n s fits) both.middle j' both.rest (follows_after ws us t n s j j' follow) in
      record {
        forest = node n inside.forest rest.forest;
        reads = reads-part inside.side inside.shallow inside.reads rest.reads;
        lists = part inside.item rest.lists;
      }

  skip_side : (t : Times) (n : Part) (s : List Symbol) {d i j : ℕ} {f : Forest} → Which n → (h : right_side n (kind_at ws i) ≡ None) (may : may_skip t ≡ true) (q : Reads most ws d s i f j) → well (Of t n ∷ s) ≡ true → (i' j' : ℕ)
      → Spans us i' (canon q) j' → Follows ws us (Of t n ∷ s) j j' → right_side n (kind_at us i') ≡ None
  skip_side Once n s what h may q fits i' j' span follow = no_true may
  skip_side t n s (other plain straight) h may q fits i' j' span follow = side_again t n s (reads-skip {t = t} {n = n} h may q) straight fits i' j' span follow ∙ h
  skip_side t n s type_one h may q fits i' j' span follow = side_again t g.TypeName s (reads-skip {t = t} {n = g.TypeName} h may q) refl fits i' j' span follow ∙ h
  skip_side t n s protection_one h may q fits i' j' span follow =
      no_protection (meets (reads-skip {t = t} {n = g.Protection} h may q) (left_true (calm (Of t g.Protection ∷ s)) _ (right_true (well s) _ fits)) i' j' span follow) h
  skip_side Maybe n s after_one h may q fits i' j' span follow = no_true (right_true (calm (Of Maybe g.AfterDeclaration ∷ s)) (suits Maybe g.AfterDeclaration s) (right_true (well s) _ fits))
  skip_side Many n s after_one h may q fits i' j' span follow = no_true (right_true (calm (Of Many g.AfterDeclaration ∷ s)) (suits Many g.AfterDeclaration s) (right_true (well s) _ fits))

  skip_again : {t : Times} {n : Part} {s : List Symbol} {d i j : ℕ} {f : Forest} (h : right_side n (kind_at ws i) ≡ None) (may : may_skip t ≡ true) (q : Reads most ws d s i f j) → Goal q
      → Goal (reads-skip {t = t} {n = n} h may q)
  skip_again {t} {n} {s} {f = f} h may q goal fits i' j' span follow =
      let more = goal (left_true (well s) _ fits) i' j' span (λ e. follow (open_tail (Of t n) s e)) in
      record {
        forest = more.forest;
        reads = reads-skip (skip_side t n s (which n) h may q fits i' j' span follow) may more.reads;
        lists = skip_lists t n s (items f) (items more.forest) (canon q) may more.lists;
      }

  pub carry : {d : ℕ} {s : List Symbol} {i : ℕ} {f : Forest} {j : ℕ} → (more : Reads most ws d s i f j) → Goal more × Below more
  carry (reads-done {depth = d} {start = i}) = (λ fits i' j' span follow. record { forest = done; reads = subst (λ z. Reads most us d [] i' done z) span reads-done; lists = none }, tt)
  carry (reads-kept h more) = let all = carry more in (kept_again h more all.0, all)
  carry (reads-mark {start = i} h more) = let all = carry more in (mark_again i h more all.0, all)
  carry (reads-any h more) = let all = carry more in (all.0, all)
  carry (reads-none h more) = let all = carry more in (none_again h more all.0, all)
  carry (reads-here more) = let all = carry more in (here_again more all.0, all)
  carry (reads-part {t = t} {n = n} {s = s} h sh more q) = let all = carry more in let rest = carry q in (part_again {t = t} {n = n} {s = s} h sh more q all.0 all.1 rest.0, (all, rest))
  carry (reads-skip {t = t} {n = n} h may more) = let all = carry more in (skip_again {t = t} {n = n} h may more all.0, all)
