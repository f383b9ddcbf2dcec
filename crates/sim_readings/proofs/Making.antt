-- Boxes and vectors as values, the tokens of a kind, and the steps by which a derivation is that of a tree.
use Rattle.std.proofs.Common.{◌≡◌, ◌≤◌, ◌<◌, ℕ, ℤ, suc, Bool, true, false, List, [], ◌∷◌, length, map, refl, sym, ◌∙◌, ap, arith}
use Rattle.std.proofs.lemmas.Bool.{false≢true}
use Rattle.std.specs.Prelude.{◌^◌, ◌||◌, slice_index_or}
use denote.RawPtr.{null_ptr}
use Rattle.std.specs.declared.alloc.Global.{Global}
use Rattle.std.specs.declared.boxed.Box.{Box}
use Rattle.std.specs.declared.vec.Vec.{Vec}
use Rattle.sim_base.specs.declared.numbering.TokenNo.{TokenNo}
use Rattle.sim_base.specs.declared.token.Token.{Token}
use Rattle.sim_base.specs.declared.token.TokenKind.{TokenKind}
use Rattle.sim_base.specs.declared.token.TokenKind.TheVariants as k
use Rattle.sim_base.specs.declared.token.TokenValue.{TokenValue}
use Rattle.sim_base.specs.declared.token.TokenValue.TheVariants as token_value
use Rattle.sim_base.specs.Lexeme.{bytes_of, integer_of, value_for}
use Rattle.sim_tree.specs.declared.expr.Expr.{Expr}
use Rattle.sim_tree.specs.declared.expr.Identifier.{Identifier}
use Rattle.sim_tree.specs.Grammar.{Part, is, just, one_of}
use Rattle.sim_tree.specs.Reading.{Forest, bare_leaf, finish, kind_at, leaf, node, value_at}
use Rattle.sim_tree.specs.Derivation.{row, derivation_of}
use Rattle.sim_tree.proofs.DerivationLemmas.{raise-same}
use Rattle.sim_tree.proofs.Completion.{is_same}
use Rattle.sim_expr_parser.proofs.Tokens.{bare_value, is_bare}
use Rattle.sim_readings.proofs.Parts.{Good, Items, Levelled, Made}

abbrev pub boxed : {X : Type 0} → X → Box X Global
boxed x = record { ptr = null_ptr; alloc = record { memory = record { seal = tt } }; value = x }

pub as_many : (n : ℕ) → n ≤ n
as_many n = omega arith

abbrev pub listed : {X : Type 0} (xs : List X) → length xs < 2 ^ 63 → Vec X Global
listed xs h = record { ptr = null_ptr; len = length xs; cap = length xs; alloc = record { memory = record { seal = tt } }; items = xs; ok = (refl, as_many (length xs)); small = h }

abbrev pub at : ℕ → TokenNo
at i = record { 0 = i }

abbrev pub named : ℕ → List ℕ → Identifier
named i name = record { token = record { 0 = i }; name = name }

-- ---- the token of a kind, as the grammar takes it

-- what stands beside the kind of a token, where its kind may have no value
abbrev pub beside : List Token → ℕ → TokenValue
beside ws i = (slice_index_or ws i finish).lexeme.value

alone : (b : Bool) → (b || false) ≡ true → b ≡ true
alone true h = refl
alone false h = absurd (false≢true h)

pub word : (x kind : TokenKind) → one_of (just kind) x ≡ true → x ≡ kind
word x kind h = is_same x kind (alone (is x kind) h)

pub name_of : (ws : List Token) (i : ℕ) → one_of (just k.Identifier) (kind_at ws i) ≡ true → (v : List ℕ) × (kind_at ws i ≡ k.Identifier) × (value_at ws i ≡ token_value.Bytes v)
unfolding value_at
name_of ws i h = let same = word (kind_at ws i) k.Identifier h in (bytes_of (beside ws i), same, ap (λ x. value_for x (beside ws i)) same)

pub value_of : (ws : List Token) (i : ℕ) → one_of (just k.Integer) (kind_at ws i) ≡ true → (v : ℤ) × (kind_at ws i ≡ k.Integer) × (value_at ws i ≡ token_value.Integer v)
unfolding value_at
value_of ws i h = let same = word (kind_at ws i) k.Integer h in (integer_of (beside ws i), same, ap (λ x. value_for x (beside ws i)) same)

-- ---- equal derivations

pub node-is : (n : Part) {x y f h : Forest} → x ≡ y → f ≡ h → node n x f ≡ node n y h
node-is n {y = y} {f = f} p q = ap (λ z. node n z f) p ∙ ap (node n y) q

pub leaf-is : {i : ℕ} {a b : TokenKind} {v w : TokenValue} {f h : Forest} → a ≡ b → v ≡ w → f ≡ h → leaf i a v f ≡ leaf i b w h
leaf-is {i = i} {a = a} {b = b} {v = v} {w = w} {f = f} p q r = ap (λ z. leaf i z v f) p ∙ ap (λ z. leaf i b z f) q ∙ ap (leaf i b w) r

-- a kept token of a kind that has no value
pub bare-is : (ws : List Token) (i : ℕ) {kind : TokenKind} {f h : Forest} → kind_at ws i ≡ kind → is_bare kind ≡ true → f ≡ h → bare_leaf i kind f ≡ leaf i (kind_at ws i) (value_at ws i) h
bare-is ws i {kind = kind} same bare p = leaf-is (sym same) (sym (bare_value ws i kind bare same)) p

pub word-is : (ws : List Token) (i : ℕ) (kind : TokenKind) {f h : Forest} → is_bare kind ≡ true → one_of (just kind) (kind_at ws i) ≡ true → f ≡ h → bare_leaf i kind f ≡ leaf i (kind_at ws i) (value_at ws i) h
word-is ws i kind bare taken p = bare-is ws i (word (kind_at ws i) kind taken) bare p

pub row-is : (n : Part) {xs ys : List Forest} {f h : Forest} → xs ≡ ys → f ≡ h → row n xs f ≡ row n ys h
row-is n {ys = ys} {f = f} p q = ap (λ z. row n z f) p ∙ ap (row n ys) q

pub maps : {A B C : Type 0} (f : B → C) (h : A → B) (xs : List A) → map f (map h xs) ≡ map (λ x. f (h x)) xs
maps f h [] = refl
maps f h (x ∷ xs) = ap (λ l. f (h x) ∷ l) (maps f h xs)

-- an expression that stands for what is inside its level
pub level-made : (m : ℕ) (x : Expr) (h : Forest) {f : Forest} → derivation_of x ≡ record { level = m; inside = h } → h ≡ f → Levelled m f
level-made m x h says e = let same : (derivation_of x).level ≡ m = ap (λ s. s.level) says in (x, omega (arith, same), raise-same m (derivation_of x) same ∙ ap (λ s. s.inside) says ∙ e)

-- ---- what repeated parts gave

pub gather : (ws : List Token) {A : Type 0} (view : A → Forest) (n : Part) → ((i : ℕ) (f : Forest) → Good ws n i f → Made view f) → (xs : List Forest) → Items ws n xs
    → (l : List A) × (map view l ≡ xs) × (length l ≡ length xs)
gather ws view n each [] its = ([], refl, refl)
gather ws view n each (x ∷ xs) its =
    let made = each its.0.0 x its.0.1 in
    let others = gather ws view n each xs its.1 in
    (made.0 ∷ others.0, ap (λ y. y ∷ map view others.0) made.1 ∙ ap (λ l. x ∷ l) others.1, ap suc others.2)
