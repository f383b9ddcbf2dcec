-- Types.
use Rattle.std.proofs.Common.{◌≡◌, ◌<◌, ℕ, ◌+◌, Bool, true, false, List, [], ◌∷◌, length, Some, None, refl, subst, sym, ap, ◌∙◌, if◌then◌else◌}
use Rattle.std.proofs.lemmas.Bool.{false≢true}
use Rattle.std.specs.Prelude.{◌||◌}
use Rattle.sim_base.specs.declared.numbering.TokenNo.{TokenNo}
use Rattle.sim_base.specs.declared.token.Token.{Token}
use Rattle.sim_base.specs.declared.token.TokenKind.{TokenKind}
use Rattle.sim_base.specs.declared.token.TokenKind.TheVariants as k
use Rattle.sim_tree.specs.Grammar as g
use Rattle.sim_tree.specs.Grammar.{Part, Symbol, Kept, Mark, is, one_of, just, types, right_side}
use Rattle.sim_tree.specs.Reading.{Forest, done, kind_at, fails-part, bare_leaf}
use Rattle.sim_tree.specs.Claim.{one}
use Rattle.sim_tree.specs.Tree.{ReadsPart}
use Rattle.sim_tree.proofs.Steps.{leads-as}
use Rattle.sim_expr_parser.specs.declared.refusal.Stop.{Stop}
use Rattle.sim_expr_parser.specs.declared.refusal.Stop.TheVariants as stop
use Rattle.sim_expr_parser.specs.Parsing.{Stops}
use Rattle.sim_expr_parser.proofs.Steps.{Within, opened, to, gone, kept}
use Rattle.sim_expr_parser.proofs.Tables.{by_test}
use Rattle.sim_expr_parser.proofs.Tokens.{is_bare, took, took_one}

-- the same derivation in another form
pub within-as : {ws : List Token} {d i e j : ℕ} {n : Part} {s : List Symbol} (F G : Forest → Forest) → ((f : Forest) → F f ≡ G f) → Within ws d n i F e s j → Within ws d n i G e s j
within-as F G same w = record {
  right = w.right;
  begins = w.begins;
  shallow = w.shallow;
  depth = w.depth;
  leads = leads-as F G same w.leads;
  ahead = w.ahead;
  within = w.within;
}

-- Types.
abbrev pub ref_row : List Symbol
ref_row = Kept (just k.Ref) ∷ Mark k.Open ∷ Kept (just k.Identifier) ∷ Mark k.Close ∷ []

abbrev pub types_row : List Symbol
types_row = Kept types ∷ []

pub type_ref : right_side g.TypeName k.Ref ≡ Some ref_row
unfolding right_side is
type_ref = refl

pub simple-type : (ws : List Token) (d i j : ℕ) (kind : TokenKind) (n : TokenNo) → is_bare kind ≡ true → one_of types kind ≡ true → right_side g.TypeName kind ≡ Some types_row
    → (is (kind_at ws i) kind ≡ true) × (j ≡ i + 1) × (j < length ws) → n.0 ≡ i → i < length ws → ReadsPart ws d g.TypeName i (bare_leaf n.0 kind done) j
simple-type ws d i j kind n bare among r w number within =
    gone (to (opened ws d i g.TypeName types_row refl (by_test g.TypeName (kind_at ws i) kind types_row w.0 r) within) (kept n.0 number (took ws i j types kind bare among w)))
    (bare_leaf n.0 kind done) refl

pub type_row : (a : TokenKind) (v w : Bool) → is a k.Ref ≡ v → one_of types a ≡ w → right_side g.TypeName a ≡ (if v || false then Some ref_row else (if w then Some types_row else None))
unfolding right_side
type_row a v w h e =
    ap (λ x. if x || false then Some ref_row else (if one_of types a then Some types_row else None)) h
    ∙ ap (λ x. if v || false then Some ref_row else (if x then Some types_row else None)) e

pub no-type : (a : TokenKind) → one_of types a ≡ false → right_side g.TypeName a ≡ None
no-type a h = type_row a false false (last (is a k.IntegerWord) (is a k.Boolean) (is a k.CharacterWord) (is a k.TextWord) (is a k.Ref) h) h
  where
    last : (u v w x y : Bool) → (u || (v || (w || (x || (y || false))))) ≡ false → y ≡ false
    last true v w x y h = absurd (false≢true (sym h))
    last false true w x y h = absurd (false≢true (sym h))
    last false false true x y h = absurd (false≢true (sym h))
    last false false false true y h = absurd (false≢true (sym h))
    last false false false false true h = absurd (false≢true (sym h))
    last false false false false false h = refl

pub no-types : (a : TokenKind) → is a k.IntegerWord ≡ false → is a k.Boolean ≡ false → is a k.CharacterWord ≡ false → is a k.TextWord ≡ false → is a k.Ref ≡ false → one_of types a ≡ false
no-types a i b c x r =
    ap (λ z. z || (is a k.Boolean || (is a k.CharacterWord || (is a k.TextWord || (is a k.Ref || false))))) i
    ∙ ap (λ z. z || (is a k.CharacterWord || (is a k.TextWord || (is a k.Ref || false)))) b
    ∙ ap (λ z. z || (is a k.TextWord || (is a k.Ref || false))) c
    ∙ ap (λ z. z || (is a k.Ref || false)) x
    ∙ ap (λ z. z || false) r

pub opened-ref : (ws : List Token) (d i j : ℕ) (n : TokenNo) → (is (kind_at ws i) k.Ref ≡ true) × (j ≡ i + 1) × (j < length ws) → n.0 ≡ i → i < length ws
    → Within ws d g.TypeName i (bare_leaf n.0 k.Ref) d (Mark k.Open ∷ Kept (just k.Identifier) ∷ Mark k.Close ∷ []) j
opened-ref ws d i j n w number within =
    to (opened ws d i g.TypeName ref_row refl (by_test g.TypeName (kind_at ws i) k.Ref ref_row w.0 type_ref) within) (kept n.0 number (took_one ws i j k.Ref refl w))

pub no-type-stops : (ws : List Token) (d i : ℕ) (x : Stop) → one_of types (kind_at ws i) ≡ false → x ≡ stop.Unexpected i → Stops ws d (one g.TypeName) i x
no-type-stops ws d i x h e = subst (λ z. Stops ws d (one g.TypeName) i z) (sym e) (fails-part (no-type (kind_at ws i) h) refl)
