-- Small token lists, for which the grammar can be seen at work.
use Rattle.std.specs.Prelude.{ℕ, ◌+◌, List, [], ◌∷◌, ◌++◌, length, map}
use Rattle.sim_base.specs.declared.token.Token.{Token}
use Rattle.sim_base.specs.declared.token.Lexeme.{Lexeme}
use Rattle.sim_base.specs.declared.token.TokenKind.TheVariants as k
use Rattle.sim_base.specs.Lexeme.{bare, named}
use Rattle.sim_tree.specs.Grammar as g
use Rattle.sim_tree.specs.Reading.{Forest, done, leaf, node, Reads, Fails, TooDeep, bare_leaf}
use Rattle.sim_tree.specs.Claim.{IsFirstBad, one}
use Rattle.sim_tree.specs.Derivation.{whole}
use Rattle.sim_tree.specs.Tree.{limit}

abbrev pub plain : Lexeme → Token
plain lexeme = record { lexeme = lexeme; place = 0; line = record { 0 = 1 } }

-- the tokens of a source of these lexemes, with its end
abbrev pub source : List Lexeme → List Token
source lexemes = map plain (lexemes ++ bare k.EndOfSource ∷ [])

-- the source is a program, with this inside
abbrev pub IsProgram : List Lexeme → Forest → Type 0
IsProgram lexemes f = Reads limit (source lexemes) 0 (one g.Program) 0 (node g.Program f done) (length lexemes + 1)

-- the source is no program, and this is its first bad token
abbrev pub IsBadAt : List Lexeme → ℕ → Type 0
IsBadAt lexemes k = IsFirstBad (source lexemes) (one g.Program) 0 k

-- with so many levels allowed, this token is the first that nests too deeply
abbrev pub IsDeepAt : ℕ → List Lexeme → ℕ → Type 0
IsDeepAt most lexemes k = Fails most (source lexemes) 0 (one g.Program) 0 (TooDeep k)

-- Two identifiers.
abbrev pub x : Lexeme
x = named (120 ∷ [])

abbrev pub y : Lexeme
y = named (121 ∷ [])

-- a lexeme that is kept
abbrev pub keep : ℕ → Lexeme → Forest → Forest
keep i lexeme rest = leaf i lexeme.kind lexeme.value rest

-- an expression of one token
abbrev pub operand : ℕ → Lexeme → Forest
operand i lexeme = whole (record { level = 0; inside = keep i lexeme done })

-- a call without actuals
abbrev pub call : ℕ → Lexeme → Forest
call i lexeme = keep i lexeme (node g.AfterFirstOperand done done)

-- a block from its first token on
abbrev pub block : Forest → Forest
block f = node g.Compound (bare_leaf 0 k.Begin (node g.Block f done)) done

abbrev pub end : ℕ → Forest
end i = bare_leaf i k.End done
