use Rattle.std.proofs.Common.{◌≡◌, ◌<◌, ◌+◌, ℕ, List, length, refl, sym, ap, ◌∙◌, true, false, subst, rules, SFits, w64}
use Rattle.std.proofs.lemmas.Int.{to_z-of_z}
use Rattle.sim_base.specs.declared.token.Token.{Token}
use Rattle.sim_base.specs.declared.token.TokenKind.{TokenKind}
use Rattle.sim_base.specs.declared.token.TokenKind.TheVariants as k
use Rattle.sim_base.specs.declared.token.TokenValue.{TokenValue}
use Rattle.sim_base.specs.declared.token.TokenValue.TheVariants as token_value
use Rattle.sim_base.specs.declared.numbering.TokenNo.{TokenNo}
use Rattle.sim_tree.specs.declared.expr.Expr.{Expr}
use Rattle.sim_tree.specs.declared.expr.Expr.TheVariants as expr
use Rattle.sim_tree.specs.Grammar.{is, one_of, literals}
use Rattle.sim_tree.specs.Reading.{kind_at, value_at, leaf, done}
use Rattle.sim_tree.specs.Derivation.{Derivation, derivation_of}
use Rattle.sim_tree.specs.Tree.{IsEnded}
use Rattle.sim_tree.proofs.DerivationLemmas.{derivation-Integer, derivation-Character, derivation-Text, derivation-True, derivation-False, derivation-NoObject, derivation-Notext}
use Rattle.sim_expr_parser.specs.Parsing.{Took}
use Rattle.sim_expr_parser.proofs.Tokens.{bare_value, took_kind}
use Rattle.sim_expr_parser.proofs.source.Source.constant_at.Goals as goal
use Rattle.sim_expr_parser.proofs.source.Source.constant_at.Goals.{in-Integer, in-Character, in-Text+in_ok-bytes_at-in-Text, in-True, in-False, in-None, in-Notext}

made : (ws : List Token) (i : ℕ) (n : TokenNo) (kind : TokenKind) (value : TokenValue) (e y : Expr) → IsEnded ws → i < length ws → n.0 ≡ i → kind_at ws i ≡ kind → value_at ws i ≡ value
    → e ≡ y → derivation_of y ≡ record { level = 0; inside = leaf n.0 kind value done } → one_of literals kind ≡ true → is k.EndOfSource kind ≡ false
    → Took ws i literals (kind_at ws i) (value_at ws i) (i + 1) × (derivation_of e ≡ record { level = 0; inside = leaf i (kind_at ws i) (value_at ws i) done })
made ws i n kind value e y ended within number is held same shape among no_end =
    let took = took_kind ws i literals kind value ended within is held among no_end in (
      record { among = took.among; kind_is = refl; value_is = refl; ahead = took.ahead; within = took.within },
      ap derivation_of same ∙ shape ∙ ap (λ z. the z kind value) number ∙ ap (λ z. the i z value) (sym is) ∙ ap (the i (kind_at ws i)) (sym held),
    )
  where
    the : ℕ → TokenKind → TokenValue → Derivation
    the z kind value = record { level = 0; inside = leaf z kind value done }

pub returns : goal.returns
unfolding is
returns c =
    let ws = c.args.self.now in
    let i = c.args.at in
    let n = c.token_no-token.result in
    let e = c.match-kind_at_token.constant in
    let read : c.kind_at_token.result ≡ kind_at ws i = c.kind_at_token.ensures ∙ ap (λ l. kind_at l i) c.self.view_is in
    let ended = subst IsEnded c.self.view_is c.self.invariant.ended in
    let within = c.requires.within in
    let number = c.token_no-token.ensures in
    elim c.match-kind_at_token.branch [
      | in-Integer w ↦
          (let is : kind_at ws i ≡ k.Integer = sym read ∙ w.in-Integer.is in
          let v = w.integer_at.result in
          let fits : SFits w64 v = search rules in
          made ws i n k.Integer (token_value.Integer v) e _ ended within number is (w.integer_at.ensures is) (w.constant-is ∙ ap (expr.Integer n) (to_z-of_z w64 v fits)) (derivation-Integer n v) refl refl)
      | in-Character w ↦ (let is : kind_at ws i ≡ k.Character = sym read ∙ w.in-Character.is in made ws i n k.Character (token_value.Character w.character_at.result) e _ ended within number is (w.character_at.ensures is) w.constant-is (derivation-Character _ _) refl refl)
      | in-Text+in_ok-bytes_at-in-Text w ↦ (let is : kind_at ws i ≡ k.Text = sym read ∙ w.in-Text.is in made ws i n k.Text (token_value.Bytes w.in_ok-bytes_at-in-Text.field-0) e _ ended within number is (w.in_ok-bytes_at-in-Text.ensures.text is) w.constant-is (derivation-Text _ _) refl refl)
      | in-True w ↦ (let is : kind_at ws i ≡ k.True = sym read ∙ w.in-True.is in made ws i n k.True token_value.Absent e _ ended within number is (bare_value ws i k.True refl is) w.constant-is (derivation-True _) refl refl)
      | in-False w ↦ (let is : kind_at ws i ≡ k.False = sym read ∙ w.in-False.is in made ws i n k.False token_value.Absent e _ ended within number is (bare_value ws i k.False refl is) w.constant-is (derivation-False _) refl refl)
      | in-None w ↦ (let is : kind_at ws i ≡ k.None = sym read ∙ w.in-None.is in made ws i n k.None token_value.Absent e _ ended within number is (bare_value ws i k.None refl is) w.constant-is (derivation-NoObject _) refl refl)
      | in-Notext w ↦ (let is : kind_at ws i ≡ k.Notext = sym read ∙ w.in-Notext.is in made ws i n k.Notext token_value.Absent e _ ended within number is (bare_value ws i k.Notext refl is) w.constant-is (derivation-Notext _) refl refl)
    ]
