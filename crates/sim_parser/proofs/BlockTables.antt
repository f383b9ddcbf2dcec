-- The rows of blocks, declarations and connection, at what the parser tests.
use Rattle.std.proofs.Common.{◌≡◌, Bool, true, false, List, [], ◌∷◌, Option, Some, None, refl, sym, ap, ◌∙◌, if◌then◌else◌}
use Rattle.std.proofs.lemmas.Bool.{false≢true}
use Rattle.std.specs.Prelude.{◌||◌}
use Rattle.sim_base.specs.declared.token.TokenKind.{TokenKind}
use Rattle.sim_base.specs.declared.token.TokenKind.TheVariants as k
use Rattle.sim_tree.specs.Grammar as g
use Rattle.sim_tree.specs.Grammar.{Symbol, Of, Once, Maybe, Many, Kept, Mark, Any, Here, is, one_of, just, types, begins_statement, right_side}
use Rattle.sim_parser.specs.Parsing.{begins_declaration, connection_row, statements_then, identified_row}

pub or_left : (a b : Bool) → (a || b) ≡ false → a ≡ false
or_left true b h = h
or_left false b h = refl

pub or_right : (a b : Bool) → (a || b) ≡ false → b ≡ false
or_right true b h = absurd (false≢true (sym h))
or_right false b h = h

pub or_other : (a b : Bool) → a ≡ false → (a || b) ≡ true → b ≡ true
or_other true b n h = absurd (false≢true (sym n))
or_other false b n h = h

-- Connection.
abbrev pub arms_row : List Symbol
arms_row = Of Once g.WhenArm ∷ Of Many g.WhenArm ∷ []

abbrev pub arm_row : List Symbol
arm_row = Kept (just k.When) ∷ Kept (just k.Identifier) ∷ connection_row

pub arms_do : right_side g.Arms k.Do ≡ Some connection_row
unfolding right_side is
arms_do = refl

pub arms_when : right_side g.Arms k.When ≡ Some arms_row
unfolding right_side is
arms_when = refl

pub no_arms : (a : TokenKind) → is a k.Do ≡ false → is a k.When ≡ false → right_side g.Arms a ≡ None
unfolding right_side
no_arms a h e =
    ap (λ x. if x || false then Some connection_row else (if is a k.When || false then Some arms_row else None)) h
    ∙ ap (λ x. if x || false then Some arms_row else None) e

pub same_do : (a : TokenKind) → is a k.Do ≡ false → a ≡ k.Do → ⊥
unfolding is
same_do a h e = false≢true (sym h ∙ ap (λ x. is x k.Do) e)

pub no_do : (a : TokenKind) → (a ≡ k.Do → ⊥) → is a k.Do ≡ false
unfolding is
no_do k.Do h = absurd (h refl)
no_do _ h = refl

-- Blocks.
abbrev pub compound_row : List Symbol
compound_row = Kept (just k.Begin) ∷ Any k.Semicolon ∷ Of Once g.Block ∷ []

abbrev pub closing_then_block : List Symbol
closing_then_block = Of Once g.AfterDeclaration ∷ Any k.Semicolon ∷ Of Once g.Block ∷ []

abbrev pub declaring_row : List Symbol
declaring_row = Of Once g.Declaration ∷ closing_then_block

abbrev pub named_row : List Symbol
named_row = Kept (just k.Identifier) ∷ Of Once g.AfterIdentifier ∷ []

abbrev pub end_row : List Symbol
end_row = Kept (just k.End) ∷ []

abbrev pub sequence_row : List Symbol
sequence_row = statements_then end_row

abbrev block_choice : Bool → Bool → Bool → Bool → Option (List Symbol)
block_choice v i e s = if v then Some declaring_row else (if i || false then Some named_row else (if e || false then Some end_row else (if s then Some sequence_row else None)))

block : (a : TokenKind) (v i e s : Bool) → one_of begins_declaration a ≡ v → is a k.Identifier ≡ i → is a k.End ≡ e → one_of begins_statement a ≡ s → right_side g.Block a ≡ block_choice v i e s
unfolding right_side
block a v i e s ev ei ee es =
    ap (λ x. block_choice x (is a k.Identifier) (is a k.End) (one_of begins_statement a)) ev
    ∙ ap (λ x. block_choice v x (is a k.End) (one_of begins_statement a)) ei
    ∙ ap (λ x. block_choice v i x (one_of begins_statement a)) ee
    ∙ ap (λ x. block_choice v i e x) es

pub block_declares : (a : TokenKind) → one_of begins_declaration a ≡ true → right_side g.Block a ≡ Some declaring_row
block_declares a h = block a true (is a k.Identifier) (is a k.End) (one_of begins_statement a) h refl refl refl

pub block_named : right_side g.Block k.Identifier ≡ Some named_row
unfolding right_side is
block_named = refl

pub block_ends : right_side g.Block k.End ≡ Some end_row
unfolding right_side is
block_ends = refl

pub block_sequence : (a : TokenKind) → one_of begins_declaration a ≡ false → is a k.Identifier ≡ false → is a k.End ≡ false → one_of begins_statement a ≡ true → right_side g.Block a ≡ Some sequence_row
block_sequence a v i e s = block a false false false true v i e s

pub no_block : (a : TokenKind) → one_of begins_declaration a ≡ false → is a k.Identifier ≡ false → is a k.End ≡ false → one_of begins_statement a ≡ false → right_side g.Block a ≡ None
no_block a v i e s = block a false false false false v i e s

-- What stands behind an identifier that begins a block's next item.
abbrev pub class_row : List Symbol
class_row = Kept (just k.Class) ∷ Of Once g.Class ∷ closing_then_block

abbrev pub behind : List Symbol
behind = Of Many g.NextStatement ∷ end_row

abbrev pub begun_row : List Symbol
begun_row = Of Once g.StatementOfIdentifier ∷ behind

abbrev pub begun_symbols : List Symbol
begun_symbols = Of Maybe g.Arguments ∷ Of Once g.AfterFirstOperand ∷ []

pub after_class : right_side g.AfterIdentifier k.Class ≡ Some class_row
unfolding right_side is
after_class = refl

pub after_other : (a : TokenKind) → is a k.Class ≡ false → right_side g.AfterIdentifier a ≡ Some begun_row
unfolding right_side
after_other a h = ap (λ x. if x || false then Some class_row else Some begun_row) h

pub statement_named : right_side g.Statement k.Identifier ≡ Some identified_row
unfolding right_side is
statement_named = refl

-- Declarations.
abbrev pub typed_row : List Symbol
typed_row = Of Once g.TypeName ∷ Of Once g.TypedDeclaration ∷ []

abbrev pub procedure_row : List Symbol
procedure_row = Kept (just k.Procedure) ∷ Of Once g.Procedure ∷ []

abbrev pub plain_class_row : List Symbol
plain_class_row = Kept (just k.Class) ∷ Of Once g.Class ∷ []

abbrev decl_choice : Bool → Bool → Bool → Option (List Symbol)
decl_choice v p c = if v then Some typed_row else (if p || false then Some procedure_row else (if c || false then Some plain_class_row else None))

decl : (a : TokenKind) (v p c : Bool) → one_of types a ≡ v → is a k.Procedure ≡ p → is a k.Class ≡ c → right_side g.Declaration a ≡ decl_choice v p c
unfolding right_side
decl a v p c ev ep ec =
    ap (λ x. decl_choice x (is a k.Procedure) (is a k.Class)) ev
    ∙ ap (λ x. decl_choice v x (is a k.Class)) ep
    ∙ ap (λ x. decl_choice v p x) ec

pub decl_typed : (a : TokenKind) → one_of types a ≡ true → right_side g.Declaration a ≡ Some typed_row
decl_typed a h = decl a true (is a k.Procedure) (is a k.Class) h refl refl

pub no_decl : (a : TokenKind) → one_of types a ≡ false → is a k.Procedure ≡ false → is a k.Class ≡ false → right_side g.Declaration a ≡ None
no_decl a v p c = decl a false false false v p c

pub decl_procedure : right_side g.Declaration k.Procedure ≡ Some procedure_row
unfolding right_side is
decl_procedure = refl

pub decl_class : right_side g.Declaration k.Class ≡ Some plain_class_row
unfolding right_side is
decl_class = refl

pub no_type : (a : TokenKind) → one_of types a ≡ false → right_side g.TypeName a ≡ None
unfolding right_side is
no_type k.IntegerWord h = absurd (false≢true (sym h))
no_type k.Boolean h = absurd (false≢true (sym h))
no_type k.CharacterWord h = absurd (false≢true (sym h))
no_type k.TextWord h = absurd (false≢true (sym h))
no_type k.Ref h = absurd (false≢true (sym h))
no_type _ h = refl

none_some : {l : List Symbol} → None ≡ Some l → ⊥
none_some e = cc

pub type_begins : (a : TokenKind) (right : List Symbol) → right_side g.TypeName a ≡ Some right → one_of types a ≡ true
type_begins a right e = go (one_of types a) refl
  where
    go : (v : Bool) → one_of types a ≡ v → one_of types a ≡ true
    go true h = h
    go false h = absurd (none_some (sym (no_type a h) ∙ e))

-- What stands behind a type.
abbrev pub array_row : List Symbol
array_row = Kept (just k.Array) ∷ Of Once g.ArraySegment ∷ Of Many g.NextArraySegment ∷ []

abbrev pub variables_row : List Symbol
variables_row = Of Once g.Variable ∷ Of Many g.NextVariable ∷ []

pub typed_procedure : right_side g.TypedDeclaration k.Procedure ≡ Some procedure_row
unfolding right_side is
typed_procedure = refl

pub typed_array : right_side g.TypedDeclaration k.Array ≡ Some array_row
unfolding right_side is
typed_array = refl

pub typed_variables : right_side g.TypedDeclaration k.Identifier ≡ Some variables_row
unfolding right_side is
typed_variables = refl

pub no_typed : (a : TokenKind) → is a k.Procedure ≡ false → is a k.Array ≡ false → is a k.Identifier ≡ false → right_side g.TypedDeclaration a ≡ None
unfolding right_side
no_typed a p r i =
    ap (λ x. if x || false then Some procedure_row else (if is a k.Array || false then Some array_row else (if is a k.Identifier || false then Some variables_row else None))) p
    ∙ ap (λ x. if x || false then Some array_row else (if is a k.Identifier || false then Some variables_row else None)) r
    ∙ ap (λ x. if x || false then Some variables_row else None) i

-- Procedures and classes.
abbrev pub proc_row : List Symbol
proc_row = Kept (just k.Identifier) ∷ Of Once g.Heading ∷ Of Once g.Statement ∷ Here ∷ []

abbrev pub cls_row : List Symbol
cls_row = Kept (just k.Identifier) ∷ Of Once g.Heading ∷ Of Many g.Protection ∷ Of Maybe g.Virtuals ∷ Of Once g.Statement ∷ Here ∷ []

-- What stands between statements.
abbrev pub next_row : List Symbol
next_row = Mark k.Semicolon ∷ Of Once g.Statement ∷ []
