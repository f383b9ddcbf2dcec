-- The derivation that the tree of an expression stands for.
use Rattle.std.specs.Prelude.{ℕ, ◌+◌, List, [], ◌∷◌, map, Option, Some, None, nat_eq, if◌then◌else◌, zero, suc, slice_index_or}
use Rattle.sim_base.specs.declared.token.TokenKind.{TokenKind}
use Rattle.sim_base.specs.declared.token.TokenKind.TheVariants as k
use Rattle.sim_base.specs.declared.token.TokenValue.TheVariants as token_value
use Rattle.sim_base.specs.declared.numbering.TokenNo.{TokenNo}
use Rattle.sim_tree.specs.declared.expr.Identifier.{Identifier}
use Rattle.sim_tree.specs.declared.expr.Sign.{Sign}
use Rattle.sim_tree.specs.declared.expr.Sign.TheVariants as sign
use Rattle.sim_tree.specs.declared.expr.LeadingSign.{LeadingSign}
use Rattle.sim_tree.specs.declared.expr.Multiplication.{Multiplication}
use Rattle.sim_tree.specs.declared.expr.Multiplication.TheVariants as multiplication
use Rattle.sim_tree.specs.declared.expr.Relation.{Relation}
use Rattle.sim_tree.specs.declared.expr.Relation.TheVariants as relation
use Rattle.sim_tree.specs.declared.expr.Membership.{Membership}
use Rattle.sim_tree.specs.declared.expr.Membership.TheVariants as membership
use Rattle.sim_tree.specs.declared.expr.Expr.{Expr}
use Rattle.sim_tree.specs.declared.expr.Expr.TheOpen.{Expr-F, Operand-F, Term-F, Factor-F, Selector-F}
use Rattle.sim_tree.specs.declared.expr.Operand.{Operand}
use Rattle.sim_tree.specs.declared.expr.Term.{Term}
use Rattle.sim_tree.specs.declared.expr.Factor.{Factor}
use Rattle.sim_tree.specs.declared.expr.Selector.{Selector}
use Rattle.sim_tree.specs.declared.expr.Expr.TheFolds.{fold-Expr, fold-Operand, fold-Term, fold-Factor, fold-Selector}
use Rattle.sim_tree.specs.Grammar as g
use Rattle.sim_tree.specs.Grammar.{Part}
use Rattle.sim_tree.specs.Reading.{Forest, done, leaf, node, bare_leaf}

-- a derivation, and the level that it is inside of
pub record Derivation : Type 0 where
  pub level : ℕ
  pub inside : Forest

-- the levels from the innermost, 0 to 14
abbrev pub level_part : ℕ → Part
level_part level =
    slice_index_or
    (g.Primary ∷ g.Postfix ∷ g.Factor ∷ g.Term ∷ g.Sum ∷ g.Concatenation ∷ g.Relation ∷ g.Negation ∷ g.Conjunction ∷ g.Disjunction ∷ g.Implication ∷ g.Equivalence ∷ g.AndThen ∷ g.SimpleExpression ∷ [])
    level g.Expression

-- the same inside of a higher level: a level with a single operand makes no node in the tree
unfoldable pub raise : ℕ → Derivation → Forest
raise zero s = if nat_eq s.level 0 then s.inside else done
raise (suc m) s = if nat_eq s.level (suc m) then s.inside else node (level_part m) (raise m s) done

abbrev pub expr_level : ℕ
expr_level = 14

-- the inside of an expression
abbrev pub whole : Derivation → Forest
whole s = raise expr_level s

-- a tree that no tokens have
abbrev pub nothing : Derivation
nothing = record { level = expr_level; inside = done }

-- one part after the other, and then the rest
abbrev pub row : Part → List Forest → Forest → Forest
row n [] rest = rest
row n (f ∷ fs) rest = node n f (row n fs rest)

abbrev pub identifier : Identifier → Forest → Forest
identifier x rest = leaf x.token.0 k.Identifier (token_value.Bytes x.name) rest

abbrev pub argument : Derivation → Forest
argument s = node g.Expression (whole s) done

-- the actuals, where there are some
abbrev pub arguments : List Derivation → Forest → Forest
arguments [] rest = rest
arguments (s ∷ ss) rest = node g.Arguments (node g.Expression (whole s) (row g.NextArgument (map argument ss) done)) rest

abbrev pub sign_kind : Sign → TokenKind
sign_kind sign.Plus = k.Plus
sign_kind sign.Minus = k.Minus

abbrev pub multiplication_kind : Multiplication → TokenKind
multiplication_kind multiplication.Times = k.Times
multiplication_kind multiplication.Divide = k.Divide

abbrev pub relation_kind : Relation → TokenKind
relation_kind relation.Less = k.Less
relation_kind relation.LessEqual = k.LessEqual
relation_kind relation.Equal = k.Equal
relation_kind relation.GreaterEqual = k.GreaterEqual
relation_kind relation.Greater = k.Greater
relation_kind relation.NotEqual = k.NotEqual
relation_kind relation.SameReference = k.SameReference
relation_kind relation.OtherReference = k.OtherReference

abbrev pub membership_kind : Membership → TokenKind
membership_kind membership.Is = k.Is
membership_kind membership.In = k.In

-- an operator's token, and its operand
pub record Item : Type 0 where
  pub token : ℕ
  pub operand : Derivation

abbrev pub item : ℕ → TokenKind → Item → Forest
item level operator i = bare_leaf i.token operator (node (level_part level) (raise level i.operand) done)

-- the level above one, with the one operator that it has
abbrev pub operated : ℕ → TokenKind → Part → Derivation → List Item → Derivation
operated level operator many first [] = nothing
operated level operator many first (i ∷ is) = record {
  level = level + 1;
  inside = node (level_part level) (raise level first) (row many (map (item level operator) (i ∷ is)) done);
}

abbrev pub not_mark : TokenNo → Forest
not_mark i = bare_leaf i.0 k.Not done

abbrev pub negated : List TokenNo → Derivation → Derivation
negated [] operand = nothing
negated (i ∷ is) operand = record { level = 7; inside = row g.NotSign (map not_mark (i ∷ is)) (node g.Relation (raise 6 operand) done) }

abbrev pub summed : Option LeadingSign → Derivation → List Forest → Derivation
summed None first [] = nothing
summed None first (f ∷ fs) = record { level = 4; inside = node g.Term (raise 3 first) (row g.NextTerm (f ∷ fs) done) }
summed (Some s) first fs =
    record { level = 4; inside = node g.LeadingSign (bare_leaf s.token.0 (sign_kind s.sign) done) (node g.Term (raise 3 first) (row g.NextTerm fs done)) }

abbrev pub multiplied : Derivation → List Forest → Derivation
multiplied first [] = nothing
multiplied first (f ∷ fs) = record { level = 3; inside = node g.Factor (raise 2 first) (row g.NextFactor (f ∷ fs) done) }

abbrev pub selected : Derivation → List Forest → Derivation
selected primary [] = nothing
selected primary (f ∷ fs) = record { level = 1; inside = node g.Primary (raise 0 primary) (row g.Selection (f ∷ fs) done) }

abbrev pub operand_layer : Operand-F Derivation Forest Forest Item Forest → Item
operand_layer o = record { token = o.token.0; operand = o.operand }

abbrev pub term_layer : Term-F Derivation Forest Forest Item Forest → Forest
term_layer x = bare_leaf x.token.0 (sign_kind x.sign) (node g.Term (raise 3 x.term) done)

abbrev pub factor_layer : Factor-F Derivation Forest Forest Item Forest → Forest
factor_layer x = bare_leaf x.token.0 (multiplication_kind x.operator) (node g.Factor (raise 2 x.factor) done)

abbrev pub selector_layer : Selector-F Derivation Forest Forest Item Forest → Forest
selector_layer (Selector-F.Dot i name args) = bare_leaf i.0 k.Dot (identifier name (arguments args.items done))
selector_layer (Selector-F.Qua i class) = bare_leaf i.0 k.Qua (identifier class done)

abbrev pub expr_layer : Expr-F Derivation Forest Forest Item Forest → Derivation
expr_layer (Expr-F.If i condition first second) = record {
  level = 14;
  inside = bare_leaf i.0 k.If (node g.Expression (whole condition.value) (node g.SimpleExpression (raise 13 first.value) (node g.Expression (whole second.value) done)));
}
expr_layer (Expr-F.OrElse first rest) = operated 12 k.OrElse g.NextOrElse first.value rest.items
expr_layer (Expr-F.AndThen first rest) = operated 11 k.AndThen g.NextAndThen first.value rest.items
expr_layer (Expr-F.Eqv first rest) = operated 10 k.Eqv g.NextEquivalence first.value rest.items
expr_layer (Expr-F.Imp first rest) = operated 9 k.Imp g.NextImplication first.value rest.items
expr_layer (Expr-F.Or first rest) = operated 8 k.Or g.NextOr first.value rest.items
expr_layer (Expr-F.And first rest) = operated 7 k.And g.NextAnd first.value rest.items
expr_layer (Expr-F.Not tokens operand) = negated tokens.items operand.value
expr_layer (Expr-F.Related left i relation right) = record {
  level = 6;
  inside = node g.Concatenation (raise 5 left.value) (node g.RelationTail (bare_leaf i.0 (relation_kind relation) (node g.Concatenation (raise 5 right.value) done)) done);
}
expr_layer (Expr-F.Member object i membership class) = record {
  level = 6;
  inside = node g.Concatenation (raise 5 object.value) (node g.RelationTail (bare_leaf i.0 (membership_kind membership) (identifier class done)) done);
}
expr_layer (Expr-F.Concatenation first rest) = operated 4 k.Ampersand g.NextConcatenated first.value rest.items
expr_layer (Expr-F.Sum sign first rest) = summed sign first.value rest.items
expr_layer (Expr-F.Product first rest) = multiplied first.value rest.items
expr_layer (Expr-F.Power first rest) = operated 1 k.Power g.NextPower first.value rest.items
expr_layer (Expr-F.Postfix primary rest) = selected primary.value rest.items
expr_layer (Expr-F.Integer i value) = record { level = 0; inside = leaf i.0 k.Integer (token_value.Integer value) done }
expr_layer (Expr-F.Character i value) = record { level = 0; inside = leaf i.0 k.Character (token_value.Character value) done }
expr_layer (Expr-F.Text i value) = record { level = 0; inside = leaf i.0 k.Text (token_value.Bytes value) done }
expr_layer (Expr-F.True i) = record { level = 0; inside = bare_leaf i.0 k.True done }
expr_layer (Expr-F.False i) = record { level = 0; inside = bare_leaf i.0 k.False done }
expr_layer (Expr-F.NoObject i) = record { level = 0; inside = bare_leaf i.0 k.None done }
expr_layer (Expr-F.Notext i) = record { level = 0; inside = bare_leaf i.0 k.Notext done }
expr_layer (Expr-F.Named name args) = record { level = 0; inside = identifier name (arguments args.items done) }
expr_layer (Expr-F.This i class) = record { level = 0; inside = bare_leaf i.0 k.This (identifier class done) }
expr_layer (Expr-F.New i class args) = record { level = 0; inside = bare_leaf i.0 k.New (identifier class (arguments args.items done)) }
expr_layer (Expr-F.Parentheses i inner) = record { level = 0; inside = bare_leaf i.0 k.Open (node g.Expression (whole inner.value) done) }

abbrev pub derivation_of : Expr → Derivation
derivation_of = fold-Expr Derivation Forest Forest Item Forest expr_layer selector_layer factor_layer operand_layer term_layer

abbrev pub operand_derivation : Operand → Item
operand_derivation = fold-Operand Derivation Forest Forest Item Forest expr_layer selector_layer factor_layer operand_layer term_layer

abbrev pub term_derivation : Term → Forest
term_derivation = fold-Term Derivation Forest Forest Item Forest expr_layer selector_layer factor_layer operand_layer term_layer

abbrev pub factor_derivation : Factor → Forest
factor_derivation = fold-Factor Derivation Forest Forest Item Forest expr_layer selector_layer factor_layer operand_layer term_layer

abbrev pub selector_derivation : Selector → Forest
selector_derivation = fold-Selector Derivation Forest Forest Item Forest expr_layer selector_layer factor_layer operand_layer term_layer

-- the inside of the expression that a tree stands for
abbrev pub expression : Expr → Forest
expression e = whole (derivation_of e)
