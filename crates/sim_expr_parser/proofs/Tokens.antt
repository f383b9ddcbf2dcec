-- Kinds and values of tokens.
use Rattle.std.proofs.Common.{◌≡◌, ◌<◌, ◌+◌, ◌-◌, ℕ, Bool, true, false, List, [], length, refl, sym, ap, ◌∙◌, arith}
use Rattle.std.proofs.lemmas.Bool.{false≢true}
use Rattle.std.specs.Prelude.{not, slice_index_or}
use native.Mathlib.Decide.{dec_lt}
use denote.Enum.Bare.{sameb}
use Rattle.sim_base.specs.declared.token.Token.{Token}
use Rattle.sim_base.specs.declared.token.TokenKind.{TokenKind}
use Rattle.sim_base.specs.declared.token.TokenKind.TheVariants as k
use Rattle.sim_base.specs.declared.token.TokenValue.{TokenValue}
use Rattle.sim_base.specs.declared.token.TokenValue.TheVariants as token_value
use Rattle.sim_base.specs.Lexeme.{value_for}
use Rattle.sim_base.specs.contracts.token.TokenKind.{the_type}
use Rattle.sim_tree.specs.Grammar.{is, one_of, just}
use Rattle.sim_tree.specs.Reading.{finish, kind_at, value_at}
use Rattle.sim_tree.specs.Tree.{IsEnded}
use Rattle.sim_tree.proofs.Completion.{is_same, is_self, one_itself}
use Rattle.sim_expr_parser.specs.Parsing.{Took, TookBare}

-- a token of this kind has no value
abbrev pub is_bare : TokenKind → Bool
is_bare k.Identifier = false
is_bare k.Integer = false
is_bare k.Character = false
is_bare k.Text = false
is_bare _ = true

no_value : (kind : TokenKind) (value : TokenValue) → is_bare kind ≡ true → value_for kind value ≡ token_value.Absent
no_value k.Identifier value h = absurd (false≢true h)
no_value k.Integer value h = absurd (false≢true h)
no_value k.Character value h = absurd (false≢true h)
no_value k.Text value h = absurd (false≢true h)
no_value _ value h = refl

pub bare_value : (ws : List Token) (i : ℕ) (kind : TokenKind) → is_bare kind ≡ true → kind_at ws i ≡ kind → value_at ws i ≡ token_value.Absent
unfolding value_at
bare_value ws i kind b e = ap (λ z. value_for z (slice_index_or ws i finish).lexeme.value) e ∙ no_value kind (slice_index_or ws i finish).lexeme.value b

-- a token that was taken for its kind
pub took : (ws : List Token) (i j : ℕ) (any : List TokenKind) (kind : TokenKind) → is_bare kind ≡ true → one_of any kind ≡ true
    → (is (kind_at ws i) kind ≡ true) × (j ≡ i + 1) × (j < length ws) → TookBare ws i any kind j
took ws i j any kind b among w =
    let same = is_same (kind_at ws i) kind w.0 in
    record { among = ap (one_of any) same ∙ among; kind_is = same; value_is = bare_value ws i kind b same; ahead = w.1; within = w.2 }

pub took_one : (ws : List Token) (i j : ℕ) (kind : TokenKind) → is_bare kind ≡ true
    → (is (kind_at ws i) kind ≡ true) × (j ≡ i + 1) × (j < length ws) → TookBare ws i (just kind) kind j
took_one ws i j kind b w = took ws i j (just kind) kind b (one_itself kind []) w

pub made_is : (a b : TokenKind) (r : Bool) → r ≡ sameb the_type a b → is a b ≡ r
unfolding is
made_is a b r h = sym h

-- a token that does not end the source has one after it
pub next_within : (ws : List Token) (i : ℕ) (a : TokenKind) → IsEnded ws → i < length ws → is k.EndOfSource a ≡ false → is (kind_at ws i) a ≡ true → i + 1 < length ws
next_within ws i a ended within not_end h = go (dec_lt (i + 1) (length ws))
  where
    at_end : i ≡ length ws - 1 → false ≡ true
    at_end e = sym not_end ∙ sym (ap (λ n. is (kind_at ws n) a) e ∙ ap (λ b. is b a) ended.last) ∙ h

    go : Dec (i + 1 < length ws) → i + 1 < length ws
    go (yes p) = p
    go (no n) = absurd (false≢true (at_end (omega (arith, n))))

pub took_valued : (ws : List Token) (i j : ℕ) (kind : TokenKind) (value : TokenValue) → value_at ws i ≡ value
    → (is (kind_at ws i) kind ≡ true) × (j ≡ i + 1) × (j < length ws) → Took ws i (just kind) kind value j
took_valued ws i j kind value held w =
    let same = is_same (kind_at ws i) kind w.0 in
    record { among = ap (one_of (just kind)) same ∙ one_itself kind []; kind_is = same; value_is = held; ahead = w.1; within = w.2 }

-- a token of a kind that ends no source was taken
pub took_kind : (ws : List Token) (i : ℕ) (any : List TokenKind) (kind : TokenKind) (value : TokenValue) → IsEnded ws → i < length ws → kind_at ws i ≡ kind → value_at ws i ≡ value
    → one_of any kind ≡ true → is k.EndOfSource kind ≡ false → Took ws i any kind value (i + 1)
took_kind ws i any kind value ended within e held among no_end = record {
  among = ap (one_of any) e ∙ among;
  kind_is = e;
  value_is = held;
  ahead = refl;
  within = next_within ws i kind ended within no_end (ap (λ z. is z kind) e ∙ is_self kind);
}

-- what a test for another kind tells
pub not_is : (a b : TokenKind) (r : Bool) → r ≡ not (sameb the_type a b) → is a b ≡ not r
unfolding is
not_is a b r h = back-again (sameb the_type a b) ∙ ap not (sym h)
  where
    back-again : (v : Bool) → v ≡ not (not v)
    back-again true = refl
    back-again false = refl
