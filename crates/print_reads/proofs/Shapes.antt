-- How the word or the sign of each kind is read.
use Rattle.std.proofs.Common.{◌≡◌, ℕ, ◌+◌, Bool, false, List, [], ◌∷◌, ◌++◌, length, refl, sym, ap, ◌∙◌, add-zero}
use Rattle.std.proofs.lemmas.Bool.{false≢true}
use Rattle.std.specs.Prelude.{if◌then◌else◌, nat_eq, slice_index}
use Rattle.sim_base.specs.Lexeme.{bare}
use Rattle.sim_base.specs.declared.rule.Rule.TheVariants as x
use Rattle.sim_base.specs.declared.token.TokenKind.{TokenKind}
use Rattle.sim_base.specs.declared.token.TokenKind.TheVariants as k
use Rattle.sim_lexer.specs.Bytes.{is_digit}
use Rattle.sim_lexer.specs.Piece.{Piece, Fault, Lexeme as LexemePiece}
use Rattle.sim_lexer.specs.Pieces.{begun_by, comment_behind, piece}
use Rattle.sim_lexer.specs.Signs.{sign}
use Rattle.sim_lexer.specs.Words.{keyword}
use Rattle.sim_print.specs.Layout.{holds_on}
use Rattle.sim_print.specs.Words.{word}
use Rattle.print_reads.proofs.Behind.{Break, Blank, Line, Semicolon, Comma, Close, Open, Dot, Breaks, byte_of, no_word_byte}
use Rattle.print_reads.proofs.Fronts.{Worded, front-piece, word-piece}

-- a keyword that takes nothing along
pub record IsPlainWord (kind : TokenKind) : Type 0 where
  pub worded : Worded (word kind) (bare kind)
  pub alone : (rest : List ℕ) → comment_behind kind rest ≡ 0
  pub holds : holds_on kind ≡ false

-- a sign that is read in front of each byte that may stand behind it
pub record IsPlainSign (kind : TokenKind) : Type 0 where
  pub first : nat_eq (slice_index (word kind) 0) 37 ≡ false
  pub begun : (break : Break) (rest : List ℕ) → begun_by (slice_index (word kind) 0) (word kind ++ byte_of break ∷ rest) ≡ LexemePiece (bare kind) (length (word kind))
  pub some : nat_eq (length (word kind)) 0 ≡ false
  pub holds : holds_on kind ≡ false

pub data Shape : TokenKind → Type 0 where
  plain_word : {kind : TokenKind} → IsPlainWord kind → Shape kind
  plain_sign : {kind : TokenKind} → IsPlainSign kind → Shape kind
  ending : Shape k.End
  and_then : Shape k.AndThen
  or_else : Shape k.OrElse
  opening : Shape k.Open
  dotted : Shape k.Dot
  wordless : {kind : TokenKind} → length (word kind) ≡ 0 → Shape kind

pub plain-and : IsPlainWord k.And
unfolding word keyword
plain-and = record { worded = record { letter = refl; all = refl; lower = refl; comments = refl; left_out = refl; is = refl }; alone = λ rest. refl; holds = refl }

pub plain-then : IsPlainWord k.Then
unfolding word keyword
plain-then = record { worded = record { letter = refl; all = refl; lower = refl; comments = refl; left_out = refl; is = refl }; alone = λ rest. refl; holds = refl }

pub plain-or : IsPlainWord k.Or
unfolding word keyword
plain-or = record { worded = record { letter = refl; all = refl; lower = refl; comments = refl; left_out = refl; is = refl }; alone = λ rest. refl; holds = refl }

pub plain-else : IsPlainWord k.Else
unfolding word keyword
plain-else = record { worded = record { letter = refl; all = refl; lower = refl; comments = refl; left_out = refl; is = refl }; alone = λ rest. refl; holds = refl }

pub shape : (kind : TokenKind) → Shape kind
unfolding word keyword begun_by sign
shape k.Activate = plain_word {kind = k.Activate} (record { worded = record { letter = refl; all = refl; lower = refl; comments = refl; left_out = refl; is = refl }; alone = λ rest. refl; holds = refl })
shape k.After = plain_word {kind = k.After} (record { worded = record { letter = refl; all = refl; lower = refl; comments = refl; left_out = refl; is = refl }; alone = λ rest. refl; holds = refl })
shape k.And = plain_word {kind = k.And} plain-and
shape k.Array = plain_word {kind = k.Array} (record { worded = record { letter = refl; all = refl; lower = refl; comments = refl; left_out = refl; is = refl }; alone = λ rest. refl; holds = refl })
shape k.At = plain_word {kind = k.At} (record { worded = record { letter = refl; all = refl; lower = refl; comments = refl; left_out = refl; is = refl }; alone = λ rest. refl; holds = refl })
shape k.Before = plain_word {kind = k.Before} (record { worded = record { letter = refl; all = refl; lower = refl; comments = refl; left_out = refl; is = refl }; alone = λ rest. refl; holds = refl })
shape k.Begin = plain_word {kind = k.Begin} (record { worded = record { letter = refl; all = refl; lower = refl; comments = refl; left_out = refl; is = refl }; alone = λ rest. refl; holds = refl })
shape k.Boolean = plain_word {kind = k.Boolean} (record { worded = record { letter = refl; all = refl; lower = refl; comments = refl; left_out = refl; is = refl }; alone = λ rest. refl; holds = refl })
shape k.CharacterWord = plain_word {kind = k.CharacterWord} (record { worded = record { letter = refl; all = refl; lower = refl; comments = refl; left_out = refl; is = refl }; alone = λ rest. refl; holds = refl })
shape k.Class = plain_word {kind = k.Class} (record { worded = record { letter = refl; all = refl; lower = refl; comments = refl; left_out = refl; is = refl }; alone = λ rest. refl; holds = refl })
shape k.Delay = plain_word {kind = k.Delay} (record { worded = record { letter = refl; all = refl; lower = refl; comments = refl; left_out = refl; is = refl }; alone = λ rest. refl; holds = refl })
shape k.Do = plain_word {kind = k.Do} (record { worded = record { letter = refl; all = refl; lower = refl; comments = refl; left_out = refl; is = refl }; alone = λ rest. refl; holds = refl })
shape k.Else = plain_word {kind = k.Else} plain-else
shape k.Eqv = plain_word {kind = k.Eqv} (record { worded = record { letter = refl; all = refl; lower = refl; comments = refl; left_out = refl; is = refl }; alone = λ rest. refl; holds = refl })
shape k.False = plain_word {kind = k.False} (record { worded = record { letter = refl; all = refl; lower = refl; comments = refl; left_out = refl; is = refl }; alone = λ rest. refl; holds = refl })
shape k.For = plain_word {kind = k.For} (record { worded = record { letter = refl; all = refl; lower = refl; comments = refl; left_out = refl; is = refl }; alone = λ rest. refl; holds = refl })
shape k.Hidden = plain_word {kind = k.Hidden} (record { worded = record { letter = refl; all = refl; lower = refl; comments = refl; left_out = refl; is = refl }; alone = λ rest. refl; holds = refl })
shape k.If = plain_word {kind = k.If} (record { worded = record { letter = refl; all = refl; lower = refl; comments = refl; left_out = refl; is = refl }; alone = λ rest. refl; holds = refl })
shape k.Imp = plain_word {kind = k.Imp} (record { worded = record { letter = refl; all = refl; lower = refl; comments = refl; left_out = refl; is = refl }; alone = λ rest. refl; holds = refl })
shape k.In = plain_word {kind = k.In} (record { worded = record { letter = refl; all = refl; lower = refl; comments = refl; left_out = refl; is = refl }; alone = λ rest. refl; holds = refl })
shape k.Inner = plain_word {kind = k.Inner} (record { worded = record { letter = refl; all = refl; lower = refl; comments = refl; left_out = refl; is = refl }; alone = λ rest. refl; holds = refl })
shape k.Inspect = plain_word {kind = k.Inspect} (record { worded = record { letter = refl; all = refl; lower = refl; comments = refl; left_out = refl; is = refl }; alone = λ rest. refl; holds = refl })
shape k.IntegerWord = plain_word {kind = k.IntegerWord} (record { worded = record { letter = refl; all = refl; lower = refl; comments = refl; left_out = refl; is = refl }; alone = λ rest. refl; holds = refl })
shape k.Is = plain_word {kind = k.Is} (record { worded = record { letter = refl; all = refl; lower = refl; comments = refl; left_out = refl; is = refl }; alone = λ rest. refl; holds = refl })
shape k.Name = plain_word {kind = k.Name} (record { worded = record { letter = refl; all = refl; lower = refl; comments = refl; left_out = refl; is = refl }; alone = λ rest. refl; holds = refl })
shape k.New = plain_word {kind = k.New} (record { worded = record { letter = refl; all = refl; lower = refl; comments = refl; left_out = refl; is = refl }; alone = λ rest. refl; holds = refl })
shape k.None = plain_word {kind = k.None} (record { worded = record { letter = refl; all = refl; lower = refl; comments = refl; left_out = refl; is = refl }; alone = λ rest. refl; holds = refl })
shape k.Not = plain_word {kind = k.Not} (record { worded = record { letter = refl; all = refl; lower = refl; comments = refl; left_out = refl; is = refl }; alone = λ rest. refl; holds = refl })
shape k.Notext = plain_word {kind = k.Notext} (record { worded = record { letter = refl; all = refl; lower = refl; comments = refl; left_out = refl; is = refl }; alone = λ rest. refl; holds = refl })
shape k.Or = plain_word {kind = k.Or} plain-or
shape k.Otherwise = plain_word {kind = k.Otherwise} (record { worded = record { letter = refl; all = refl; lower = refl; comments = refl; left_out = refl; is = refl }; alone = λ rest. refl; holds = refl })
shape k.Prior = plain_word {kind = k.Prior} (record { worded = record { letter = refl; all = refl; lower = refl; comments = refl; left_out = refl; is = refl }; alone = λ rest. refl; holds = refl })
shape k.Procedure = plain_word {kind = k.Procedure} (record { worded = record { letter = refl; all = refl; lower = refl; comments = refl; left_out = refl; is = refl }; alone = λ rest. refl; holds = refl })
shape k.Protected = plain_word {kind = k.Protected} (record { worded = record { letter = refl; all = refl; lower = refl; comments = refl; left_out = refl; is = refl }; alone = λ rest. refl; holds = refl })
shape k.Qua = plain_word {kind = k.Qua} (record { worded = record { letter = refl; all = refl; lower = refl; comments = refl; left_out = refl; is = refl }; alone = λ rest. refl; holds = refl })
shape k.Reactivate = plain_word {kind = k.Reactivate} (record { worded = record { letter = refl; all = refl; lower = refl; comments = refl; left_out = refl; is = refl }; alone = λ rest. refl; holds = refl })
shape k.Ref = plain_word {kind = k.Ref} (record { worded = record { letter = refl; all = refl; lower = refl; comments = refl; left_out = refl; is = refl }; alone = λ rest. refl; holds = refl })
shape k.Step = plain_word {kind = k.Step} (record { worded = record { letter = refl; all = refl; lower = refl; comments = refl; left_out = refl; is = refl }; alone = λ rest. refl; holds = refl })
shape k.TextWord = plain_word {kind = k.TextWord} (record { worded = record { letter = refl; all = refl; lower = refl; comments = refl; left_out = refl; is = refl }; alone = λ rest. refl; holds = refl })
shape k.Then = plain_word {kind = k.Then} plain-then
shape k.This = plain_word {kind = k.This} (record { worded = record { letter = refl; all = refl; lower = refl; comments = refl; left_out = refl; is = refl }; alone = λ rest. refl; holds = refl })
shape k.True = plain_word {kind = k.True} (record { worded = record { letter = refl; all = refl; lower = refl; comments = refl; left_out = refl; is = refl }; alone = λ rest. refl; holds = refl })
shape k.Until = plain_word {kind = k.Until} (record { worded = record { letter = refl; all = refl; lower = refl; comments = refl; left_out = refl; is = refl }; alone = λ rest. refl; holds = refl })
shape k.Value = plain_word {kind = k.Value} (record { worded = record { letter = refl; all = refl; lower = refl; comments = refl; left_out = refl; is = refl }; alone = λ rest. refl; holds = refl })
shape k.Virtual = plain_word {kind = k.Virtual} (record { worded = record { letter = refl; all = refl; lower = refl; comments = refl; left_out = refl; is = refl }; alone = λ rest. refl; holds = refl })
shape k.When = plain_word {kind = k.When} (record { worded = record { letter = refl; all = refl; lower = refl; comments = refl; left_out = refl; is = refl }; alone = λ rest. refl; holds = refl })
shape k.While = plain_word {kind = k.While} (record { worded = record { letter = refl; all = refl; lower = refl; comments = refl; left_out = refl; is = refl }; alone = λ rest. refl; holds = refl })
shape k.To = plain_word {kind = k.To} (record { worded = record { letter = refl; all = refl; lower = refl; comments = refl; left_out = refl; is = refl }; alone = λ rest. refl; holds = refl })
shape k.Close = plain_sign {kind = k.Close} (record { first = refl; begun = elim [ Blank ↦ λ rest. refl | Line ↦ λ rest. refl | Semicolon ↦ λ rest. refl | Comma ↦ λ rest. refl | Close ↦ λ rest. refl | Open ↦ λ rest. refl | Dot ↦ λ rest. refl ]; some = refl; holds = refl })
shape k.Comma = plain_sign {kind = k.Comma} (record { first = refl; begun = elim [ Blank ↦ λ rest. refl | Line ↦ λ rest. refl | Semicolon ↦ λ rest. refl | Comma ↦ λ rest. refl | Close ↦ λ rest. refl | Open ↦ λ rest. refl | Dot ↦ λ rest. refl ]; some = refl; holds = refl })
shape k.Semicolon = plain_sign {kind = k.Semicolon} (record { first = refl; begun = elim [ Blank ↦ λ rest. refl | Line ↦ λ rest. refl | Semicolon ↦ λ rest. refl | Comma ↦ λ rest. refl | Close ↦ λ rest. refl | Open ↦ λ rest. refl | Dot ↦ λ rest. refl ]; some = refl; holds = refl })
shape k.Colon = plain_sign {kind = k.Colon} (record { first = refl; begun = elim [ Blank ↦ λ rest. refl | Line ↦ λ rest. refl | Semicolon ↦ λ rest. refl | Comma ↦ λ rest. refl | Close ↦ λ rest. refl | Open ↦ λ rest. refl | Dot ↦ λ rest. refl ]; some = refl; holds = refl })
shape k.Plus = plain_sign {kind = k.Plus} (record { first = refl; begun = elim [ Blank ↦ λ rest. refl | Line ↦ λ rest. refl | Semicolon ↦ λ rest. refl | Comma ↦ λ rest. refl | Close ↦ λ rest. refl | Open ↦ λ rest. refl | Dot ↦ λ rest. refl ]; some = refl; holds = refl })
shape k.Minus = plain_sign {kind = k.Minus} (record { first = refl; begun = elim [ Blank ↦ λ rest. refl | Line ↦ λ rest. refl | Semicolon ↦ λ rest. refl | Comma ↦ λ rest. refl | Close ↦ λ rest. refl | Open ↦ λ rest. refl | Dot ↦ λ rest. refl ]; some = refl; holds = refl })
shape k.Times = plain_sign {kind = k.Times} (record { first = refl; begun = elim [ Blank ↦ λ rest. refl | Line ↦ λ rest. refl | Semicolon ↦ λ rest. refl | Comma ↦ λ rest. refl | Close ↦ λ rest. refl | Open ↦ λ rest. refl | Dot ↦ λ rest. refl ]; some = refl; holds = refl })
shape k.Power = plain_sign {kind = k.Power} (record { first = refl; begun = elim [ Blank ↦ λ rest. refl | Line ↦ λ rest. refl | Semicolon ↦ λ rest. refl | Comma ↦ λ rest. refl | Close ↦ λ rest. refl | Open ↦ λ rest. refl | Dot ↦ λ rest. refl ]; some = refl; holds = refl })
shape k.Divide = plain_sign {kind = k.Divide} (record { first = refl; begun = elim [ Blank ↦ λ rest. refl | Line ↦ λ rest. refl | Semicolon ↦ λ rest. refl | Comma ↦ λ rest. refl | Close ↦ λ rest. refl | Open ↦ λ rest. refl | Dot ↦ λ rest. refl ]; some = refl; holds = refl })
shape k.Ampersand = plain_sign {kind = k.Ampersand} (record { first = refl; begun = elim [ Blank ↦ λ rest. refl | Line ↦ λ rest. refl | Semicolon ↦ λ rest. refl | Comma ↦ λ rest. refl | Close ↦ λ rest. refl | Open ↦ λ rest. refl | Dot ↦ λ rest. refl ]; some = refl; holds = refl })
shape k.Assign = plain_sign {kind = k.Assign} (record { first = refl; begun = elim [ Blank ↦ λ rest. refl | Line ↦ λ rest. refl | Semicolon ↦ λ rest. refl | Comma ↦ λ rest. refl | Close ↦ λ rest. refl | Open ↦ λ rest. refl | Dot ↦ λ rest. refl ]; some = refl; holds = refl })
shape k.AssignReference = plain_sign {kind = k.AssignReference} (record { first = refl; begun = elim [ Blank ↦ λ rest. refl | Line ↦ λ rest. refl | Semicolon ↦ λ rest. refl | Comma ↦ λ rest. refl | Close ↦ λ rest. refl | Open ↦ λ rest. refl | Dot ↦ λ rest. refl ]; some = refl; holds = refl })
shape k.Equal = plain_sign {kind = k.Equal} (record { first = refl; begun = elim [ Blank ↦ λ rest. refl | Line ↦ λ rest. refl | Semicolon ↦ λ rest. refl | Comma ↦ λ rest. refl | Close ↦ λ rest. refl | Open ↦ λ rest. refl | Dot ↦ λ rest. refl ]; some = refl; holds = refl })
shape k.SameReference = plain_sign {kind = k.SameReference} (record { first = refl; begun = elim [ Blank ↦ λ rest. refl | Line ↦ λ rest. refl | Semicolon ↦ λ rest. refl | Comma ↦ λ rest. refl | Close ↦ λ rest. refl | Open ↦ λ rest. refl | Dot ↦ λ rest. refl ]; some = refl; holds = refl })
shape k.OtherReference = plain_sign {kind = k.OtherReference} (record { first = refl; begun = elim [ Blank ↦ λ rest. refl | Line ↦ λ rest. refl | Semicolon ↦ λ rest. refl | Comma ↦ λ rest. refl | Close ↦ λ rest. refl | Open ↦ λ rest. refl | Dot ↦ λ rest. refl ]; some = refl; holds = refl })
shape k.Less = plain_sign {kind = k.Less} (record { first = refl; begun = elim [ Blank ↦ λ rest. refl | Line ↦ λ rest. refl | Semicolon ↦ λ rest. refl | Comma ↦ λ rest. refl | Close ↦ λ rest. refl | Open ↦ λ rest. refl | Dot ↦ λ rest. refl ]; some = refl; holds = refl })
shape k.LessEqual = plain_sign {kind = k.LessEqual} (record { first = refl; begun = elim [ Blank ↦ λ rest. refl | Line ↦ λ rest. refl | Semicolon ↦ λ rest. refl | Comma ↦ λ rest. refl | Close ↦ λ rest. refl | Open ↦ λ rest. refl | Dot ↦ λ rest. refl ]; some = refl; holds = refl })
shape k.Greater = plain_sign {kind = k.Greater} (record { first = refl; begun = elim [ Blank ↦ λ rest. refl | Line ↦ λ rest. refl | Semicolon ↦ λ rest. refl | Comma ↦ λ rest. refl | Close ↦ λ rest. refl | Open ↦ λ rest. refl | Dot ↦ λ rest. refl ]; some = refl; holds = refl })
shape k.GreaterEqual = plain_sign {kind = k.GreaterEqual} (record { first = refl; begun = elim [ Blank ↦ λ rest. refl | Line ↦ λ rest. refl | Semicolon ↦ λ rest. refl | Comma ↦ λ rest. refl | Close ↦ λ rest. refl | Open ↦ λ rest. refl | Dot ↦ λ rest. refl ]; some = refl; holds = refl })
shape k.NotEqual = plain_sign {kind = k.NotEqual} (record { first = refl; begun = elim [ Blank ↦ λ rest. refl | Line ↦ λ rest. refl | Semicolon ↦ λ rest. refl | Comma ↦ λ rest. refl | Close ↦ λ rest. refl | Open ↦ λ rest. refl | Dot ↦ λ rest. refl ]; some = refl; holds = refl })
shape k.End = ending
shape k.AndThen = and_then
shape k.OrElse = or_else
shape k.Open = opening
shape k.Dot = dotted
shape k.Identifier = wordless refl
shape k.Integer = wordless refl
shape k.Character = wordless refl
shape k.Text = wordless refl
shape k.EndOfSource = wordless refl

-- ---- in front

-- a word, whatever else is read so
pub plain_word-piece : {kind : TokenKind} → IsPlainWord kind → (rest : List ℕ) → Breaks rest → (b : Bool) → piece b (word kind ++ rest) ≡ LexemePiece (bare kind) (length (word kind))
plain_word-piece {kind} w rest breaks b = word-piece w.worded rest (no_word_byte rest breaks) b ∙ ap (LexemePiece (bare kind)) (ap (λ n. length (word kind) + n) (w.alone rest) ∙ add-zero (length (word kind)))

sign_in_front : (bytes rest : List ℕ) (found : Piece) → nat_eq (length bytes) 0 ≡ false → nat_eq (slice_index bytes 0) 37 ≡ false
    → begun_by (slice_index bytes 0) (bytes ++ rest) ≡ found → (b : Bool) → piece b (bytes ++ rest) ≡ found
sign_in_front [] rest found some first begun b = absurd (false≢true (sym some))
sign_in_front (byte ∷ bytes) rest found some first begun b = front-piece b byte (bytes ++ rest) first ∙ begun

pub plain_sign-piece : {kind : TokenKind} → IsPlainSign kind → (rest : List ℕ) → Breaks rest → (b : Bool) → piece b (word kind ++ rest) ≡ LexemePiece (bare kind) (length (word kind))
plain_sign-piece {kind} s rest breaks b =
    sign_in_front (word kind) rest (LexemePiece (bare kind) (length (word kind))) s.some s.first
    (ap (λ (l : List ℕ). begun_by (slice_index (word kind) 0) (word kind ++ l)) breaks.is ∙ s.begun breaks.break breaks.rest) b

pub open-piece : (rest : List ℕ) (b : Bool) → piece b (word k.Open ++ rest) ≡ LexemePiece (bare k.Open) (length (word k.Open))
unfolding word begun_by sign
open-piece rest b = front-piece b 40 rest refl

pub dot-piece : (rest : List ℕ) → is_digit (slice_index rest 0) ≡ false → (b : Bool) → piece b (word k.Dot ++ rest) ≡ LexemePiece (bare k.Dot) (length (word k.Dot))
unfolding word begun_by sign
dot-piece rest no_digit b = front-piece b 46 rest refl ∙ ap (λ c. if c then Fault x.RealConstant else LexemePiece (bare k.Dot) 1) no_digit
