-- The constants of declarations.
use Rattle.std.proofs.Common.{◌≡◌, ◌<◌, ◌+◌, ℕ, ℤ, Bool, true, false, List, [], ◌∷◌, length, Option, Some, None, refl, sym, ap, ◌∙◌, subst, if◌then◌else◌}
use Rattle.std.proofs.lemmas.Bool.{false≢true}
use Rattle.std.specs.Option.{is_some}
use Rattle.sim_base.specs.declared.numbering.TokenNo.{TokenNo}
use Rattle.sim_base.specs.declared.token.Token.{Token}
use Rattle.sim_base.specs.declared.token.TokenKind.{TokenKind}
use Rattle.sim_base.specs.declared.token.TokenKind.TheVariants as k
use Rattle.sim_base.specs.declared.token.TokenValue.TheVariants as token_value
use Rattle.sim_base.specs.declared.token.TokenValue.{TokenValue}
use Rattle.sim_tree.specs.declared.expr.LeadingSign.{LeadingSign}
use Rattle.sim_tree.specs.declared.stmt.Constant.{Constant}
use Rattle.sim_tree.specs.declared.stmt.Constant.TheVariants as constant
use Rattle.sim_tree.specs.Grammar as g
use Rattle.sim_tree.specs.Grammar.{Symbol, Kept, is, one_of, just, signs, right_side}
use Rattle.sim_tree.specs.Reading.{done, leaf, kind_at, Fails, fails-kept, fails-part, Unexpected, value_at}
use Rattle.sim_tree.specs.Claim.{one}
use Rattle.sim_tree.specs.ProgramDerivation.{constant_derivation}
use Rattle.sim_tree.specs.Tree.{limit, ReadsPart, IsEnded}
use Rattle.sim_expr_parser.specs.declared.refusal.Stop.TheVariants as stop
use Rattle.sim_expr_parser.specs.Parsing.{GivesSign, ReadsTo, Took}
use Rattle.sim_expr_parser.proofs.Steps.{opened, to, kept, gone, stops}
use Rattle.sim_expr_parser.proofs.Tokens.{took_kind}

abbrev pub constants : List TokenKind
constants = k.Integer ∷ k.Character ∷ k.Text ∷ k.True ∷ k.False ∷ []

abbrev signed_symbols : List Symbol
signed_symbols = Kept signs ∷ Kept (just k.Integer) ∷ []

abbrev plain_symbols : List Symbol
plain_symbols = Kept constants ∷ []

constant_row : (a : TokenKind) (v w : Bool) → one_of signs a ≡ v → one_of constants a ≡ w
    → right_side g.Constant a ≡ (if v then Some signed_symbols else (if w then Some plain_symbols else None))
unfolding right_side
constant_row a v w h e =
    ap (λ x. if x then Some signed_symbols else (if one_of constants a then Some plain_symbols else None)) h
    ∙ ap (λ x. if v then Some signed_symbols else (if x then Some plain_symbols else None)) e

pub no_constant : (x : TokenKind) → is x k.Integer ≡ false → (x ≡ k.Character → ⊥) → (x ≡ k.Text → ⊥) → (x ≡ k.True → ⊥) → (x ≡ k.False → ⊥) → one_of constants x ≡ false
unfolding is
no_constant k.Integer a b c d e = absurd (false≢true (sym a))
no_constant k.Character a b c d e = absurd (b refl)
no_constant k.Text a b c d e = absurd (c refl)
no_constant k.True a b c d e = absurd (d refl)
no_constant k.False a b c d e = absurd (e refl)
no_constant _ a b c d e = refl

reads_plain : (ws : List Token) (d i j : ℕ) (s : Option LeadingSign) (n : ℕ) (kind : TokenKind) (value : TokenValue) → i < length ws → GivesSign ws i s j → is_some s ≡ false → n ≡ j
    → Took ws j constants kind value (j + 1) → ReadsPart ws d g.Constant i (leaf n kind value done) (j + 1)
reads_plain ws d i j None n kind value within h none e took =
    gone (to (opened ws d i g.Constant plain_symbols refl (constant_row (kind_at ws i) false true h.0 (ap (λ z. one_of constants (kind_at ws z)) (sym h.1) ∙ took.among)) within)
    (subst (λ z. ReadsTo ws d (Kept constants) z (leaf n kind value) (j + 1)) h.1 (kept n e took))) (leaf n kind value done) refl
reads_plain ws d i j (Some s) n kind value within h none e took = absurd (false≢true (sym none))

pub reads_integer : (ws : List Token) (d i j : ℕ) (s : Option LeadingSign) (n : TokenNo) (v : ℤ) → IsEnded ws → i < length ws → j < length ws → GivesSign ws i s j → n.0 ≡ j
    → kind_at ws j ≡ k.Integer → value_at ws j ≡ token_value.Integer v → ReadsPart ws d g.Constant i (constant_derivation (constant.Integer s n v)) (j + 1)
unfolding is
reads_integer ws d i j None n v ended within there h e kind held =
    reads_plain ws d i j None n.0 k.Integer (token_value.Integer v) within h refl e (took_kind ws j constants k.Integer (token_value.Integer v) ended there kind held refl refl)
reads_integer ws d i j (Some s) n v ended within there h e kind held =
    gone (to (to (opened ws d i g.Constant signed_symbols refl (constant_row (kind_at ws i) true (one_of constants (kind_at ws i)) h.0.among refl) within) (kept s.token.0 h.1 h.0))
    (kept n.0 e (took_kind ws j (just k.Integer) k.Integer (token_value.Integer v) ended there kind held refl refl))) (constant_derivation (constant.Integer (Some s) n v)) refl

-- a constant without a sign, as the code makes it
pub reads_made : (ws : List Token) (d i j : ℕ) (s : Option LeadingSign) (n : TokenNo) (kind : TokenKind) (value : TokenValue) (e y : Constant) → IsEnded ws → i < length ws → j < length ws → GivesSign ws i s j
    → is_some s ≡ false → kind_at ws j ≡ kind → value_at ws j ≡ value → n.0 ≡ j → e ≡ y → constant_derivation y ≡ leaf n.0 kind value done → one_of constants kind ≡ true → is k.EndOfSource kind ≡ false
    → ReadsPart ws d g.Constant i (constant_derivation e) (j + 1)
reads_made ws d i j s n kind value e y ended within there h none is_kind held number same shape among no_end =
    subst (λ z. ReadsPart ws d g.Constant i z (j + 1)) (sym (ap constant_derivation same ∙ shape))
    (reads_plain ws d i j s n.0 kind value within h none number (took_kind ws j constants kind value ended there is_kind held among no_end))

-- no integer behind a sign
pub fails_signed : (ws : List Token) (d i j : ℕ) (s : Option LeadingSign) → i < length ws → GivesSign ws i s j → is_some s ≡ true → one_of (just k.Integer) (kind_at ws j) ≡ false
    → Fails limit ws d (one g.Constant) i (Unexpected j)
fails_signed ws d i j None within h some other = absurd (false≢true some)
fails_signed ws d i j (Some s) within h some other =
    stops (to (opened ws d i g.Constant signed_symbols refl (constant_row (kind_at ws i) true (one_of constants (kind_at ws i)) h.0.among refl) within) (kept s.token.0 h.1 h.0))
    (stop.Unexpected j) (λ r. fails-kept other)

-- neither a sign nor a constant
pub fails_plain : (ws : List Token) (d i j : ℕ) (s : Option LeadingSign) → GivesSign ws i s j → is_some s ≡ false → one_of constants (kind_at ws j) ≡ false
    → Fails limit ws d (one g.Constant) i (Unexpected j)
fails_plain ws d i j None h none other =
    subst (λ z. Fails limit ws d (one g.Constant) i (Unexpected z)) (sym h.1)
    (fails-part (constant_row (kind_at ws i) false false h.0 (ap (λ z. one_of constants (kind_at ws z)) (sym h.1) ∙ other)) refl)
fails_plain ws d i j (Some s) h none other = absurd (false≢true (sym none))
