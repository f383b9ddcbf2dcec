-- The trees of parts of declarations that derivations are those of.
use Rattle.std.proofs.Common.{◌≡◌, ◌≤◌, ◌<◌, ℕ, suc, ◌+◌, ◌⊎◌, inl, inr, true, false, if◌then◌else◌, List, [], ◌∷◌, length, Some, None, refl, sym, ◌∙◌, ap, arith}
use Rattle.std.proofs.lemmas.Bool.{false≢true}
use Rattle.std.proofs.lemmas.Bool.Decides.{nat_tests}
use Rattle.std.specs.Prelude.{◌^◌, nat_lt}
use Rattle.sim_base.specs.declared.token.Token.{Token}
use Rattle.sim_base.specs.declared.token.TokenKind.{TokenKind}
use Rattle.sim_base.specs.declared.token.TokenKind.TheVariants as k
use Rattle.sim_base.specs.declared.token.TokenValue.{TokenValue}
use Rattle.sim_base.specs.Lexeme.{bytes_of, character_of, integer_of, value_for}
use Rattle.sim_tree.specs.declared.stmt.Constant.{Constant}
use Rattle.sim_tree.specs.declared.stmt.Constant.TheVariants as constant
use Rattle.sim_tree.specs.declared.stmt.Mode.{Mode}
use Rattle.sim_tree.specs.declared.stmt.Mode.TheVariants as mode
use Rattle.sim_tree.specs.declared.stmt.Specifier.TheVariants as specifier
use Rattle.sim_tree.specs.declared.stmt.TypeName.{TypeName}
use Rattle.sim_tree.specs.declared.stmt.TypeName.TheVariants as type_name
use Rattle.sim_tree.specs.Grammar as g
use Rattle.sim_tree.specs.Grammar.{Kept, Many, Mark, Maybe, Of, Once, chosen, is, just, one_of, rows, signs, types}
use Rattle.sim_tree.specs.Reading.{Forest, done, kind_at, leaf, bare_leaf, value_at}
use Rattle.sim_tree.specs.ProgramDerivation.{constant_derivation, mode_kind, mode_derivation, next_bounds, next_id, specification_derivation, type_derivation, virtual_derivation}
use Rattle.sim_expr_parser.proofs.Tokens.{is_bare}
use Rattle.sim_readings.proofs.Expressions.{sign_in}
use Rattle.sim_readings.proofs.Making.{at, bare-is, beside, gather, leaf-is, listed, name_of, named, node-is, row-is, value_of, word-is}
use Rattle.sim_readings.proofs.Parts.{Good, Row, absent, kept, many, mark, nil, once, there}

-- ---- what tokens stand for

simple_type : (i : ℕ) (x : TokenKind) (held : TokenValue) → chosen (rows g.TypeName) x ≡ Some (Kept types ∷ []) → one_of types x ≡ true → (a : TypeName) × (type_derivation a ≡ leaf i x (value_for x held) done)
unfolding is
simple_type i k.IntegerWord held e h = (type_name.Integer (at i), refl)
simple_type i k.Boolean held e h = (type_name.Boolean (at i), refl)
simple_type i k.CharacterWord held e h = (type_name.Character (at i), refl)
simple_type i k.TextWord held e h = (type_name.Text (at i), refl)
simple_type i k.Ref held e h = absurd (cc)
simple_type i _ held e h = absurd (false≢true h)

constant_in : (i : ℕ) (x : TokenKind) (held : TokenValue) → one_of (k.Integer ∷ k.Character ∷ k.Text ∷ k.True ∷ k.False ∷ []) x ≡ true → (a : Constant) × (constant_derivation a ≡ leaf i x (value_for x held) done)
unfolding is
constant_in i k.Integer held h = (constant.Integer None (at i) (integer_of held), refl)
constant_in i k.Character held h = (constant.Character (at i) (character_of held), refl)
constant_in i k.Text held h = (constant.Text (at i) (bytes_of held), refl)
constant_in i k.True held h = (constant.True (at i), refl)
constant_in i k.False held h = (constant.False (at i), refl)
constant_in i _ held h = absurd (false≢true h)

mode_in : (x : TokenKind) → one_of (k.Value ∷ k.Name ∷ []) x ≡ true → (a : Mode) × (x ≡ mode_kind a) × (is_bare (mode_kind a) ≡ true)
unfolding is
mode_in k.Value h = (mode.Value, refl, refl)
mode_in k.Name h = (mode.Name, refl, refl)
mode_in _ h = absurd (false≢true h)

kind_in : (i : ℕ) (x : TokenKind) (held : TokenValue) → one_of (k.Array ∷ k.Procedure ∷ []) x ≡ true → (bare_leaf i k.Array done ≡ leaf i x (value_for x held) done) ⊎ (bare_leaf i k.Procedure done ≡ leaf i x (value_for x held) done)
unfolding is
kind_in i k.Array held h = inl refl
kind_in i k.Procedure held h = inr refl
kind_in i _ held h = absurd (false≢true h)

module _ (ws : List Token) (room : (n : ℕ) → n ≤ length ws + 1 → n < 2 ^ 63) where
  -- ---- types, constants, variables

  pub reference_type : {i : ℕ} {f : Forest} → Row ws (Kept (just k.Ref) ∷ Mark k.Open ∷ Kept (just k.Identifier) ∷ Mark k.Close ∷ []) i f → Good ws g.TypeName i f
  reference_type {i = i} (kept h (mark (kept c (mark nil)))) =
      let x = name_of ws (i + 1 + 1) c in (type_name.Reference (at i) (named (i + 1 + 1) x.0), word-is ws i k.Ref refl h (leaf-is (sym x.1) (sym x.2) refl))

  pub type_row : {i : ℕ} {f : Forest} → chosen (rows g.TypeName) (kind_at ws i) ≡ Some (Kept types ∷ []) → Row ws (Kept types ∷ []) i f → Good ws g.TypeName i f
  unfolding value_at
  type_row {i = i} e (kept h nil) = simple_type i (kind_at ws i) (beside ws i) e h

  pub signed_constant : {i : ℕ} {f : Forest} → Row ws (Kept signs ∷ Kept (just k.Integer) ∷ []) i f → Good ws g.Constant i f
  signed_constant {i = i} (kept h (kept c nil)) =
      let s = sign_in (kind_at ws i) h in
      let v = value_of ws (i + 1) c in (constant.Integer (Some (record { token = at i; sign = s.0 })) (at (i + 1)) v.0, bare-is ws i s.1 s.2 (leaf-is (sym v.1) (sym v.2) refl))

  pub constant_row : {i : ℕ} {f : Forest} → Row ws (Kept (k.Integer ∷ k.Character ∷ k.Text ∷ k.True ∷ k.False ∷ []) ∷ []) i f → Good ws g.Constant i f
  unfolding value_at
  constant_row {i = i} (kept h nil) = constant_in i (kind_at ws i) (beside ws i) h

  pub value_row : {i : ℕ} {f : Forest} → Row ws (Mark k.Equal ∷ Of Once g.Constant ∷ []) i f → Good ws g.Value i f
  value_row (mark (once a ahead took nil)) = (a.0, node-is g.Constant a.1 refl)

  pub variable_row : {i : ℕ} {f : Forest} → Row ws (Kept (just k.Identifier) ∷ Of Maybe g.Value ∷ []) i f → Good ws g.Variable i f
  variable_row {i = i} (kept h (absent nil)) = let x = name_of ws i h in (record { name = named i x.0; value = None }, leaf-is (sym x.1) (sym x.2) refl)
  variable_row {i = i} (kept h (there a nil)) = let x = name_of ws i h in (record { name = named i x.0; value = Some a.0 }, leaf-is (sym x.1) (sym x.2) (node-is g.Value a.1 refl))

  pub next_variable_row : {i : ℕ} {f : Forest} → Row ws (Mark k.Comma ∷ Of Once g.Variable ∷ []) i f → Good ws g.NextVariable i f
  next_variable_row (mark (once a ahead took nil)) = (a.0, node-is g.Variable a.1 refl)

  pub identifiers : {i : ℕ} {f : Forest} → Row ws (Kept (just k.Identifier) ∷ Of Many g.NextIdentifier ∷ []) i f → Good ws g.Identifiers i f
  identifiers {i = i} (kept h (many xs its small nil)) =
      let x = name_of ws i h in
      let l = gather ws next_id g.NextIdentifier (λ i f x. x) xs its in (named i x.0, l.0, omega (arith, l.2, small), leaf-is (sym x.1) (sym x.2) (row-is g.NextIdentifier l.1 refl))

  pub next_identifier : {i : ℕ} {f : Forest} → Row ws (Mark k.Comma ∷ Kept (just k.Identifier) ∷ []) i f → Good ws g.NextIdentifier i f
  next_identifier {i = i} (mark (kept h nil)) = let x = name_of ws (i + 1) h in (named (i + 1) x.0, leaf-is (sym x.1) (sym x.2) refl)

  -- ---- arrays

  pub bounds : {i : ℕ} {f : Forest} → Row ws (Of Once g.Expression ∷ Mark k.Colon ∷ Of Once g.Expression ∷ []) i f → Good ws g.Bounds i f
  bounds (once a ahead took (mark (once b ahead' took' nil))) = (record { lower = a.0; upper = b.0 }, node-is g.Expression a.2 (node-is g.Expression b.2 refl))

  pub next_bounds_row : {i : ℕ} {f : Forest} → Row ws (Mark k.Comma ∷ Of Once g.Bounds ∷ []) i f → Good ws g.NextBounds i f
  next_bounds_row (mark (once a ahead took nil)) = (a.0, node-is g.Bounds a.1 refl)

  pub segment : {i : ℕ} {f : Forest} → Row ws (Of Once g.Identifiers ∷ Mark k.Open ∷ Of Once g.Bounds ∷ Of Many g.NextBounds ∷ Mark k.Close ∷ []) i f → Good ws g.ArraySegment i f
  segment (once a ahead took (mark (once b ahead' took' (many xs its small (mark nil))))) =
      let l = gather ws next_bounds g.NextBounds (λ i f x. x) xs its in (
        record { names = listed (a.0 ∷ a.1) (room (suc (length a.1)) (omega (arith, a.2))); bounds = listed (b.0 ∷ l.0) (room (suc (length l.0)) (omega (arith, l.2, small))) },
        node-is g.Identifiers a.3 (node-is g.Bounds b.1 (row-is g.NextBounds l.1 refl)),
      )

  pub next_segment_row : {i : ℕ} {f : Forest} → Row ws (Mark k.Comma ∷ Of Once g.ArraySegment ∷ []) i f → Good ws g.NextArraySegment i f
  next_segment_row (mark (once a ahead took nil)) = (a.0, node-is g.ArraySegment a.1 refl)

  -- ---- formal parameters

  pub mode_row : {i : ℕ} {f : Forest} → Row ws (Kept (k.Value ∷ k.Name ∷ []) ∷ Of Once g.Identifiers ∷ Mark k.Semicolon ∷ []) i f → Good ws g.Mode i f
  mode_row {i = i} (kept h (once a ahead took (mark nil))) =
      let m = mode_in (kind_at ws i) h in
      (record { token = at i; mode = m.0; names = listed (a.0 ∷ a.1) (room (suc (length a.1)) (omega (arith, a.2))) }, bare-is ws i m.1 m.2 (node-is g.Identifiers a.3 refl))

  pub specified_kind : {i : ℕ} {f : Forest} → Row ws (Kept (k.Array ∷ k.Procedure ∷ []) ∷ []) i f → Good ws g.SpecifiedKind i f
  unfolding value_at
  specified_kind {i = i} (kept h nil) = kind_in i (kind_at ws i) (beside ws i) h

  pub typed_specification : {i : ℕ} {f : Forest} → Row ws (Of Once g.TypeName ∷ Of Maybe g.SpecifiedKind ∷ Of Once g.Identifiers ∷ Mark k.Semicolon ∷ []) i f → Good ws g.Specification i f
  typed_specification (once b ahead took (absent (once a ahead' took' (mark nil)))) =
      (record { specifier = specifier.Simple b.0; names = listed (a.0 ∷ a.1) (room (suc (length a.1)) (omega (arith, a.2))) }, node-is g.TypeName b.1 (node-is g.Identifiers a.3 refl))
  typed_specification (once {m = m} b ahead took (there (inl c) (once a ahead' took' (mark nil)))) = (
    record { specifier = specifier.Array b.0 (at m); names = listed (a.0 ∷ a.1) (room (suc (length a.1)) (omega (arith, a.2))) },
    node-is g.TypeName b.1 (node-is g.SpecifiedKind c (node-is g.Identifiers a.3 refl)),
  )
  typed_specification (once {m = m} b ahead took (there (inr c) (once a ahead' took' (mark nil)))) = (
    record { specifier = specifier.Procedure (Some b.0) (at m); names = listed (a.0 ∷ a.1) (room (suc (length a.1)) (omega (arith, a.2))) },
    node-is g.TypeName b.1 (node-is g.SpecifiedKind c (node-is g.Identifiers a.3 refl)),
  )

  pub procedure_specification : {i : ℕ} {f : Forest} → Row ws (Kept (just k.Procedure) ∷ Of Once g.Identifiers ∷ Mark k.Semicolon ∷ []) i f → Good ws g.Specification i f
  procedure_specification {i = i} (kept h (once a ahead took (mark nil))) = (
    record { specifier = specifier.Procedure None (at i); names = listed (a.0 ∷ a.1) (room (suc (length a.1)) (omega (arith, a.2))) },
    word-is ws i k.Procedure refl h (node-is g.Identifiers a.3 refl),
  )

  pub heading_row : {i : ℕ} {f : Forest} → Row ws (Mark k.Open ∷ Of Once g.Identifiers ∷ Mark k.Close ∷ Mark k.Semicolon ∷ Of Many g.Mode ∷ Of Once g.Specification ∷ Of Many g.Specification ∷ []) i f
      → Good ws g.Heading i f
  heading_row (mark (once a ahead took (mark (mark (many xs its small (once b ahead' took' (many ys its' small' nil))))))) =
      let ms = gather ws mode_derivation g.Mode (λ i f x. x) xs its in
      let ss = gather ws specification_derivation g.Specification (λ i f x. x) ys its' in (
        a.0 ∷ a.1,
        ms.0,
        b.0 ∷ ss.0,
        omega (arith, a.2),
        omega (arith, ms.2, small),
        omega (arith, ss.2, small'),
        node-is g.Identifiers a.3 (row-is g.Mode ms.1 (node-is g.Specification b.1 (row-is g.Specification ss.1 refl))),
      )

  pub empty_heading : {i : ℕ} {f : Forest} → Row ws (Mark k.Semicolon ∷ []) i f → Good ws g.Heading i f
  empty_heading (mark nil) = ([], [], [], omega arith, omega arith, omega arith, refl)

  -- ---- protection and virtual procedures

  pub and_protected : {i : ℕ} {f : Forest} → Row ws (Kept (just k.Protected) ∷ []) i f → Good ws g.AndProtected i f
  and_protected {i = i} (kept h nil) = word-is ws i k.Protected refl h refl

  pub and_hidden : {i : ℕ} {f : Forest} → Row ws (Kept (just k.Hidden) ∷ []) i f → Good ws g.AndHidden i f
  and_hidden {i = i} (kept h nil) = word-is ws i k.Hidden refl h refl

  first_of_two : (i : ℕ) (a b : Forest) → (if nat_lt i (i + 1) then a else b) ≡ a
  first_of_two i a b = let e : nat_lt i (i + 1) ≡ true = grind (arith, nat_tests) in ap (λ x. if x then a else b) e

  second_of_two : (i : ℕ) (a b : Forest) → (if nat_lt (i + 1) i then a else b) ≡ b
  second_of_two i a b = let e : nat_lt (i + 1) i ≡ false = grind (arith, nat_tests) in ap (λ x. if x then a else b) e

  pub hidden_row : {i : ℕ} {f : Forest} → Row ws (Kept (just k.Hidden) ∷ Of Maybe g.AndProtected ∷ Of Once g.Identifiers ∷ Mark k.Semicolon ∷ []) i f → Good ws g.Protection i f
  hidden_row {i = i} (kept h (absent (once a ahead took (mark nil)))) = (
    record { hidden = Some (at i); protected = None; names = listed (a.0 ∷ a.1) (room (suc (length a.1)) (omega (arith, a.2))) },
    word-is ws i k.Hidden refl h (node-is g.Identifiers a.3 refl),
  )
  hidden_row {i = i} (kept h (there b (once a ahead took (mark nil)))) = (
    record { hidden = Some (at i); protected = Some (at (i + 1)); names = listed (a.0 ∷ a.1) (room (suc (length a.1)) (omega (arith, a.2))) },
    first_of_two i _ _ ∙ word-is ws i k.Hidden refl h (node-is g.AndProtected b (node-is g.Identifiers a.3 refl)),
  )

  pub protected_row : {i : ℕ} {f : Forest} → Row ws (Kept (just k.Protected) ∷ Of Maybe g.AndHidden ∷ Of Once g.Identifiers ∷ Mark k.Semicolon ∷ []) i f → Good ws g.Protection i f
  protected_row {i = i} (kept h (absent (once a ahead took (mark nil)))) = (
    record { hidden = None; protected = Some (at i); names = listed (a.0 ∷ a.1) (room (suc (length a.1)) (omega (arith, a.2))) },
    word-is ws i k.Protected refl h (node-is g.Identifiers a.3 refl),
  )
  protected_row {i = i} (kept h (there b (once a ahead took (mark nil)))) = (
    record { hidden = Some (at (i + 1)); protected = Some (at i); names = listed (a.0 ∷ a.1) (room (suc (length a.1)) (omega (arith, a.2))) },
    second_of_two i _ _ ∙ word-is ws i k.Protected refl h (node-is g.AndHidden b (node-is g.Identifiers a.3 refl)),
  )

  pub typed_virtual : {i : ℕ} {f : Forest} → Row ws (Of Once g.TypeName ∷ Kept (just k.Procedure) ∷ Of Once g.Identifiers ∷ Mark k.Semicolon ∷ []) i f → Good ws g.VirtualSpecification i f
  typed_virtual (once {m = m} b ahead took (kept h (once a ahead' took' (mark nil)))) = (
    record { result = Some b.0; token = at m; names = listed (a.0 ∷ a.1) (room (suc (length a.1)) (omega (arith, a.2))) },
    node-is g.TypeName b.1 (word-is ws m k.Procedure refl h (node-is g.Identifiers a.3 refl)),
  )

  pub plain_virtual : {i : ℕ} {f : Forest} → Row ws (Kept (just k.Procedure) ∷ Of Once g.Identifiers ∷ Mark k.Semicolon ∷ []) i f → Good ws g.VirtualSpecification i f
  plain_virtual {i = i} (kept h (once a ahead took (mark nil))) = (
    record { result = None; token = at i; names = listed (a.0 ∷ a.1) (room (suc (length a.1)) (omega (arith, a.2))) },
    word-is ws i k.Procedure refl h (node-is g.Identifiers a.3 refl),
  )

  pub virtuals_row : {i : ℕ} {f : Forest} → Row ws (Mark k.Virtual ∷ Mark k.Colon ∷ Of Once g.VirtualSpecification ∷ Of Many g.VirtualSpecification ∷ []) i f → Good ws g.Virtuals i f
  virtuals_row (mark (mark (once a ahead took (many xs its small nil)))) =
      let l = gather ws virtual_derivation g.VirtualSpecification (λ i f x. x) xs its in
      (a.0 ∷ l.0, omega (arith, l.2, small), λ rest. node-is g.Virtuals (node-is g.VirtualSpecification a.1 (row-is g.VirtualSpecification l.1 refl)) refl)
