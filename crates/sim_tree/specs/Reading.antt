-- What the grammar makes of tokens. `Reads` gives the derivation of symbols, `Fails` the fault that reading them comes to. That the token which
-- `Fails` names is the first bad one, in words that know no reading, is the law `first_bad_token` of `src/grammar.rt`.
use Rattle.std.specs.Prelude.{◌≡◌, ℕ, ◌+◌, ◌-◌, Bool, true, false, not, ◌&&◌, nat_le, List, [], ◌∷◌, Some, None, slice_index_or, if◌then◌else◌}
use Rattle.sim_base.specs.declared.token.Token.{Token}
use Rattle.sim_base.specs.declared.token.TokenKind.{TokenKind}
use Rattle.sim_base.specs.declared.token.TokenKind.TheVariants as k
use Rattle.sim_base.specs.declared.token.TokenValue.{TokenValue}
use Rattle.sim_base.specs.declared.token.TokenValue.TheVariants as token_value
use Rattle.sim_base.specs.Lexeme.{bare, value_for}
use Rattle.sim_tree.specs.Grammar.{Part, Times, Once, Maybe, Many, Symbol, Kept, Mark, Any, Here, Of, is, one_of, right_side, is_counted, is_begun}

-- after the last token there is nothing but ends
abbrev pub finish : Token
finish = record { lexeme = bare k.EndOfSource; place = 0; line = record { 0 = 0 } }

unfoldable pub kind_at : List Token → ℕ → TokenKind
kind_at tokens at = (slice_index_or tokens at finish).lexeme.kind

unfoldable pub value_at : List Token → ℕ → TokenValue
value_at tokens at = value_for (kind_at tokens at) (slice_index_or tokens at finish).lexeme.value

-- Derivations in a row: a kept token with its number, kind and value, the number of a token that was not taken, a part with what is inside it.
pub data Forest : Type 0 where
  done : Forest
  leaf : (token : ℕ) → (kind : TokenKind) → (value : TokenValue) → (rest : Forest) → Forest
  place : (token : ℕ) → (rest : Forest) → Forest
  node : Part → (inside : Forest) → (rest : Forest) → Forest

-- a kept token that has no value
abbrev pub bare_leaf : (token : ℕ) → (kind : TokenKind) → (rest : Forest) → Forest
bare_leaf token kind rest = leaf token kind token_value.Absent rest

-- what is left to read after a part
abbrev pub after : Times → Part → List Symbol → List Symbol
after Once n s = s
after Maybe n s = s
after Many n s = Of Many n ∷ s

abbrev pub may_skip : Times → Bool
may_skip Once = false
may_skip Maybe = true
may_skip Many = true

-- no token is taken
abbrev pub is_empty : List Symbol → Bool
is_empty [] = true
is_empty (Here ∷ s) = is_empty s
is_empty (_ ∷ s) = false

-- the depth inside a part
abbrev pub inside_depth : Part → ℕ → ℕ
inside_depth n depth = if is_counted n then depth + 1 else depth

-- a token would begin a counted part deeper than the limit
abbrev pub is_too_deep : ℕ → Part → ℕ → List Symbol → Bool
is_too_deep limit n depth right = is_counted n && nat_le limit depth && not (is_empty right)

-- the first token of a part that is met at a token
abbrev pub first_of : Part → ℕ → ℕ
first_of n at = if is_begun n then at - 1 else at

-- The tokens from start up to end are symbols, and this is their derivation. Each choice is by the next token: a part that can begin with it is taken.
pub data Reads (limit : ℕ) (tokens : List Token) : ℕ → List Symbol → ℕ → Forest → ℕ → Type 0 where
  reads-done : {depth start : ℕ} → Reads limit tokens depth [] start done start
  reads-kept : {depth start end : ℕ} {any : List TokenKind} {s : List Symbol} {f : Forest} → one_of any (kind_at tokens start) ≡ true
      → Reads limit tokens depth s (start + 1) f end → Reads limit tokens depth (Kept any ∷ s) start (leaf start (kind_at tokens start) (value_at tokens start) f) end
  reads-mark : {depth start end : ℕ} {a : TokenKind} {s : List Symbol} {f : Forest} → is (kind_at tokens start) a ≡ true
      → Reads limit tokens depth s (start + 1) f end → Reads limit tokens depth (Mark a ∷ s) start f end
  reads-any : {depth start end : ℕ} {a : TokenKind} {s : List Symbol} {f : Forest} → is (kind_at tokens start) a ≡ true
      → Reads limit tokens depth (Any a ∷ s) (start + 1) f end → Reads limit tokens depth (Any a ∷ s) start f end
  reads-none : {depth start end : ℕ} {a : TokenKind} {s : List Symbol} {f : Forest} → is (kind_at tokens start) a ≡ false
      → Reads limit tokens depth s start f end → Reads limit tokens depth (Any a ∷ s) start f end
  reads-here : {depth start end : ℕ} {s : List Symbol} {f : Forest} → Reads limit tokens depth s start f end → Reads limit tokens depth (Here ∷ s) start (place start f) end
  reads-part : {depth start m end : ℕ} {t : Times} {n : Part} {right s : List Symbol} {f g : Forest}
      → right_side n (kind_at tokens start) ≡ Some right → is_too_deep limit n depth right ≡ false
      → Reads limit tokens (inside_depth n depth) right start f m → Reads limit tokens depth (after t n s) m g end
      → Reads limit tokens depth (Of t n ∷ s) start (node n f g) end
  reads-skip : {depth start end : ℕ} {t : Times} {n : Part} {s : List Symbol} {f : Forest}
      → right_side n (kind_at tokens start) ≡ None → may_skip t ≡ true
      → Reads limit tokens depth s start f end → Reads limit tokens depth (Of t n ∷ s) start f end

-- which fault, and its token
pub data Fault : Type 0 where
  Unexpected : ℕ → Fault
  TooDeep : ℕ → Fault

-- Reading symbols from start on comes to a fault.
pub data Fails (limit : ℕ) (tokens : List Token) : ℕ → List Symbol → ℕ → Fault → Type 0 where
  fails-kept : {depth start : ℕ} {any : List TokenKind} {s : List Symbol} → one_of any (kind_at tokens start) ≡ false
      → Fails limit tokens depth (Kept any ∷ s) start (Unexpected start)
  fails-mark : {depth start : ℕ} {a : TokenKind} {s : List Symbol} → is (kind_at tokens start) a ≡ false
      → Fails limit tokens depth (Mark a ∷ s) start (Unexpected start)
  fails-part : {depth start : ℕ} {t : Times} {n : Part} {s : List Symbol} → right_side n (kind_at tokens start) ≡ None → may_skip t ≡ false
      → Fails limit tokens depth (Of t n ∷ s) start (Unexpected start)
  fails-deep : {depth start : ℕ} {t : Times} {n : Part} {right s : List Symbol} → right_side n (kind_at tokens start) ≡ Some right
      → is_too_deep limit n depth right ≡ true → Fails limit tokens depth (Of t n ∷ s) start (TooDeep (first_of n start))
  fails-inside : {depth start : ℕ} {e : Fault} {t : Times} {n : Part} {right s : List Symbol} → right_side n (kind_at tokens start) ≡ Some right
      → is_too_deep limit n depth right ≡ false → Fails limit tokens (inside_depth n depth) right start e → Fails limit tokens depth (Of t n ∷ s) start e
  after-kept : {depth start : ℕ} {e : Fault} {any : List TokenKind} {s : List Symbol} → one_of any (kind_at tokens start) ≡ true
      → Fails limit tokens depth s (start + 1) e → Fails limit tokens depth (Kept any ∷ s) start e
  after-mark : {depth start : ℕ} {e : Fault} {a : TokenKind} {s : List Symbol} → is (kind_at tokens start) a ≡ true
      → Fails limit tokens depth s (start + 1) e → Fails limit tokens depth (Mark a ∷ s) start e
  after-any : {depth start : ℕ} {e : Fault} {a : TokenKind} {s : List Symbol} → is (kind_at tokens start) a ≡ true
      → Fails limit tokens depth (Any a ∷ s) (start + 1) e → Fails limit tokens depth (Any a ∷ s) start e
  after-none : {depth start : ℕ} {e : Fault} {a : TokenKind} {s : List Symbol} → is (kind_at tokens start) a ≡ false
      → Fails limit tokens depth s start e → Fails limit tokens depth (Any a ∷ s) start e
  after-here : {depth start : ℕ} {e : Fault} {s : List Symbol} → Fails limit tokens depth s start e → Fails limit tokens depth (Here ∷ s) start e
  after-part : {depth start m : ℕ} {e : Fault} {t : Times} {n : Part} {right s : List Symbol} {f : Forest} → right_side n (kind_at tokens start) ≡ Some right
      → is_too_deep limit n depth right ≡ false → Reads limit tokens (inside_depth n depth) right start f m
      → Fails limit tokens depth (after t n s) m e → Fails limit tokens depth (Of t n ∷ s) start e
  after-skip : {depth start : ℕ} {e : Fault} {t : Times} {n : Part} {s : List Symbol} → right_side n (kind_at tokens start) ≡ None → may_skip t ≡ true
      → Fails limit tokens depth s start e → Fails limit tokens depth (Of t n ∷ s) start e
