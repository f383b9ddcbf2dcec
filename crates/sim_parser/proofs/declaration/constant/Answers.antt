use Rattle.std.proofs.Common.{◌≡◌, ◌<◌, ◌+◌, length, refl, sym, ap, ◌∙◌, true, false, rules, SFits, subst, w64}
use Rattle.std.proofs.lemmas.Int.{to_z-of_z}
use Rattle.sim_base.specs.declared.token.TokenKind.TheVariants as k
use Rattle.sim_base.specs.declared.token.TokenValue.TheVariants as token_value
use Rattle.sim_tree.specs.declared.stmt.Constant.TheVariants as constant
use Rattle.sim_tree.specs.Grammar as g
use Rattle.sim_tree.specs.Grammar.{is, one_of}
use Rattle.sim_tree.specs.Reading.{kind_at}
use Rattle.sim_tree.specs.ProgramDerivation.{constant_derivation}
use Rattle.sim_tree.specs.Tree.{ReadsPart}
use Rattle.sim_tree.proofs.Completion.{is_same}
use Rattle.sim_expr_parser.proofs.Tables.{just_is}
use Rattle.sim_expr_parser.proofs.Tokens.{bare_value, made_is}
use Rattle.sim_parser.proofs.DeclarationConstants.{constants, no_constant, reads_integer, reads_made, fails_signed, fails_plain}
use Rattle.sim_parser.proofs.declaration.constant.Goals as goal
use Rattle.sim_parser.proofs.declaration.constant.Goals.{in-Character, in-Text+in_ok-bytes_at-in-Text, in-True, in-False}

pub returns-then-eq : goal.returns-then-eq
returns-then-eq c = λ d.
    let ws = c.args.source.now in
    let i = c.args.at in
    let s = c.leading_sign-sign.result.0 in
    let j = c.leading_sign-sign.result.1 in
    let n = c.token_no-token.result in
    let v = c.integer_at-value.result in
    let within : j < length ws = search rules in
    let fits : SFits w64 v = search rules in
    let read : c.kind_at_token-kind.result ≡ kind_at ws j = c.kind_at_token-kind.ensures ∙ ap (λ l. kind_at l j) c.tokens.ensures.tokens in
    let kind : kind_at ws j ≡ k.Integer = sym read ∙ is_same _ k.Integer (made_is _ _ true (sym c.if-eq.true ∙ c.eq.ensures)) in
    subst (λ z. ReadsPart ws d g.Constant i (constant_derivation (constant.Integer s n z)) (j + 1)) (sym (to_z-of_z w64 v fits))
    (reads_integer ws d i j s n v c.tokens.ensures.whole.ended c.requires.within within c.leading_sign-sign.ensures c.token_no-token.ensures kind (c.integer_at-value.ensures kind))

pub returns-then-is_some : goal.returns-then-is_some
returns-then-is_some c = λ d.
    let ws = c.args.source.now in
    let j = c.leading_sign-sign.result.1 in
    let read : c.kind_at_token-kind.result ≡ kind_at ws j = c.kind_at_token-kind.ensures ∙ ap (λ l. kind_at l j) c.tokens.ensures.tokens in
    let other : is (kind_at ws j) k.Integer ≡ false = ap (λ z. is z k.Integer) (sym read) ∙ made_is _ _ false (sym c.if-eq.false ∙ c.eq.ensures) in
    fails_signed ws d c.args.at j c.leading_sign-sign.result.0 c.requires.within c.leading_sign-sign.ensures (sym c.is_some.ensures ∙ c.if-is_some.true) (just_is _ _ _ other)

pub returns-in_default : goal.returns-in_default
returns-in_default c = λ d.
    let ws = c.args.source.now in
    let j = c.leading_sign-sign.result.1 in
    let x = c.kind_at_token-kind.result in
    let n = c.in_default in
    let read : x ≡ kind_at ws j = c.kind_at_token-kind.ensures ∙ ap (λ l. kind_at l j) c.tokens.ensures.tokens in
    let other : is x k.Integer ≡ false = made_is _ _ false (sym c.if-eq.false ∙ c.eq.ensures) in
    fails_plain ws d c.args.at j c.leading_sign-sign.result.0 c.leading_sign-sign.ensures (sym c.is_some.ensures ∙ c.if-is_some.false)
    (ap (one_of constants) (sym read) ∙ no_constant x other n.not-Character n.not-Text n.not-True n.not-False)

pub returns : goal.returns
unfolding is
returns c = λ d.
    let ws = c.args.source.now in
    let j = c.leading_sign-sign.result.1 in
    let n = c.token_no-token.result in
    let within : j < length ws = search rules in
    let e = c.match-kind.constant in
    let read : c.kind_at_token-kind.result ≡ kind_at ws j = c.kind_at_token-kind.ensures ∙ ap (λ l. kind_at l j) c.tokens.ensures.tokens in
    let none = sym c.is_some.ensures ∙ c.if-is_some.false in
    let ended = c.tokens.ensures.whole.ended in
    let sign = c.leading_sign-sign.ensures in
    let number = c.token_no-token.ensures in
    elim c.match-kind.branch [
      | in-Character w ↦
          (let is : kind_at ws j ≡ k.Character = sym read ∙ w.in-Character.is in
          let v = w.character_at.result in
          reads_made ws d c.args.at j c.leading_sign-sign.result.0 n k.Character (token_value.Character v) e (constant.Character n v) ended c.requires.within within sign none is (w.character_at.ensures is) number w.constant-is refl refl refl)
      | in-Text+in_ok-bytes_at-in-Text w ↦
          (let is : kind_at ws j ≡ k.Text = sym read ∙ w.in-Text.is in
          let v = w.in_ok-bytes_at-in-Text.field-0 in
          reads_made ws d c.args.at j c.leading_sign-sign.result.0 n k.Text (token_value.Bytes v) e (constant.Text n v) ended c.requires.within within sign none is (w.in_ok-bytes_at-in-Text.ensures.text is) number w.constant-is refl refl refl)
      | in-True w ↦
          (let is : kind_at ws j ≡ k.True = sym read ∙ w.in-True.is in
          reads_made ws d c.args.at j c.leading_sign-sign.result.0 n k.True token_value.Absent e (constant.True n) ended c.requires.within within sign none is (bare_value ws j k.True refl is) number w.constant-is refl refl refl)
      | in-False w ↦
          (let is : kind_at ws j ≡ k.False = sym read ∙ w.in-False.is in
          reads_made ws d c.args.at j c.leading_sign-sign.result.0 n k.False token_value.Absent e (constant.False n) ended c.requires.within within sign none is (bare_value ws j k.False refl is) number w.constant-is refl refl refl)
    ]
