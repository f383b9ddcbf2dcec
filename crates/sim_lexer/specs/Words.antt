-- The words that are no identifiers: the keywords and the words left out, in lower case.
use Rattle.std.specs.Prelude.{ℕ, List, [], ◌∷◌, Option, Some, None, Bool, ◌||◌, codes, if◌then◌else◌}
use Rattle.std.specs.Str.{bytes_eq, str_eq_ignore_ascii_case}
use Rattle.sim_base.specs.declared.token.TokenKind.{TokenKind}
use Rattle.sim_base.specs.declared.token.TokenKind.TheVariants as k

-- a word beside the token that it spells
abbrev pub Row : Type 0
Row = List ℕ × TokenKind

-- the token of a word by a table
abbrev pub look_up : List Row → List ℕ → Option TokenKind
look_up [] word = None
look_up (row ∷ rows) word = if bytes_eq word row.0 then Some row.1 else look_up rows word

-- the keywords; the relations have words of their own
abbrev pub keywords : List Row
keywords =
    (codes "activate", k.Activate) ∷
    (codes "after", k.After) ∷
    (codes "and", k.And) ∷
    (codes "array", k.Array) ∷
    (codes "at", k.At) ∷
    (codes "before", k.Before) ∷
    (codes "begin", k.Begin) ∷
    (codes "boolean", k.Boolean) ∷
    (codes "character", k.CharacterWord) ∷
    (codes "class", k.Class) ∷
    (codes "delay", k.Delay) ∷
    (codes "do", k.Do) ∷
    (codes "else", k.Else) ∷
    (codes "end", k.End) ∷
    (codes "eq", k.Equal) ∷
    (codes "eqv", k.Eqv) ∷
    (codes "false", k.False) ∷
    (codes "for", k.For) ∷
    (codes "ge", k.GreaterEqual) ∷
    (codes "gt", k.Greater) ∷
    (codes "hidden", k.Hidden) ∷
    (codes "if", k.If) ∷
    (codes "imp", k.Imp) ∷
    (codes "in", k.In) ∷
    (codes "inner", k.Inner) ∷
    (codes "inspect", k.Inspect) ∷
    (codes "integer", k.IntegerWord) ∷
    (codes "is", k.Is) ∷
    (codes "le", k.LessEqual) ∷
    (codes "lt", k.Less) ∷
    (codes "name", k.Name) ∷
    (codes "ne", k.NotEqual) ∷
    (codes "new", k.New) ∷
    (codes "none", k.None) ∷
    (codes "not", k.Not) ∷
    (codes "notext", k.Notext) ∷
    (codes "or", k.Or) ∷
    (codes "otherwise", k.Otherwise) ∷
    (codes "prior", k.Prior) ∷
    (codes "procedure", k.Procedure) ∷
    (codes "protected", k.Protected) ∷
    (codes "qua", k.Qua) ∷
    (codes "reactivate", k.Reactivate) ∷
    (codes "ref", k.Ref) ∷
    (codes "step", k.Step) ∷
    (codes "text", k.TextWord) ∷
    (codes "then", k.Then) ∷
    (codes "this", k.This) ∷
    (codes "to", k.To) ∷
    (codes "true", k.True) ∷
    (codes "until", k.Until) ∷
    (codes "value", k.Value) ∷
    (codes "virtual", k.Virtual) ∷
    (codes "when", k.When) ∷
    (codes "while", k.While) ∷
    []

-- the token of a keyword in lower case; no other word has one
unfoldable pub keyword : List ℕ → Option TokenKind
keyword word = look_up keywords word

-- the words of the language that are left out
abbrev pub is_left_out : List ℕ → Bool
is_left_out word =
    bytes_eq word (codes "external")
    || bytes_eq word (codes "go")
    || bytes_eq word (codes "goto")
    || bytes_eq word (codes "label")
    || bytes_eq word (codes "long")
    || bytes_eq word (codes "real")
    || bytes_eq word (codes "short")
    || bytes_eq word (codes "switch")

-- the words that end what stands behind an `end`, in either case
abbrev pub is_stop_word : List ℕ → Bool
is_stop_word word =
    str_eq_ignore_ascii_case word (codes "end")
    || str_eq_ignore_ascii_case word (codes "else")
    || str_eq_ignore_ascii_case word (codes "when")
    || str_eq_ignore_ascii_case word (codes "otherwise")
