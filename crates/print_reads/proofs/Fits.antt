-- Rows of lexemes that may stand side by side, whatever fits in front of them and behind them.
use Rattle.std.proofs.Common.{◌≡◌, Bool, true, false, List, [], ◌∷◌, ◌++◌, refl, sym, subst, append_assoc}
use Rattle.std.proofs.lemmas.Bool.{false≢true}
use Rattle.sim_base.specs.Lexeme.{bare}
use Rattle.sim_base.specs.declared.token.Lexeme.{Lexeme}
use Rattle.sim_base.specs.declared.token.TokenKind.{TokenKind}
use Rattle.sim_base.specs.declared.token.TokenKind.TheVariants as k
use Rattle.sim_print.specs.Spelling.{each}
use Rattle.sim_print.specs.Tokens.{behind_comma, listed, one}
use Rattle.print_reads.specs.Writable.{StandBehind, may_stand}

-- ---- kinds by what may stand behind them

-- anything
pub record Free (last : TokenKind) : Type 0 where
  pub may : (next : TokenKind) → may_stand last next ≡ true

-- what begins an expression
abbrev pub begins : TokenKind → Bool
begins k.If = true
begins k.Not = true
begins k.Plus = true
begins k.Minus = true
begins k.Integer = true
begins k.Character = true
begins k.Text = true
begins k.True = true
begins k.False = true
begins k.None = true
begins k.Notext = true
begins k.Identifier = true
begins k.This = true
begins k.New = true
begins k.Open = true
begins kind = false

-- an expression
pub record Opens (last : TokenKind) : Type 0 where
  pub may : (next : TokenKind) → begins next ≡ true → may_stand last next ≡ true

-- an identifier
pub record Names (last : TokenKind) : Type 0 where
  pub may : may_stand last k.Identifier ≡ true

-- what may stand behind a text: an expression ends with such a kind
pub record Closes (last : TokenKind) : Type 0 where
  pub may : (next : TokenKind) → may_stand k.Text next ≡ true → may_stand last next ≡ true

-- what may stand behind an `end`: a statement ends with such a kind, or is empty
pub record Ends (last : TokenKind) : Type 0 where
  pub may : (next : TokenKind) → may_stand k.End next ≡ true → may_stand last next ≡ true

pub free-opens : (last : TokenKind) → Free last → Opens last
free-opens last f = record { may = λ next b. f.may next }

pub free-names : (last : TokenKind) → Free last → Names last
free-names last f = record { may = f.may k.Identifier }

pub opens-names : (last : TokenKind) → Opens last → Names last
opens-names last o = record { may = o.may k.Identifier refl }

pub free-closes : (last : TokenKind) → Free last → Closes last
free-closes last f = record { may = λ next h. f.may next }

pub free-ends : (last : TokenKind) → Free last → Ends last
free-ends last f = record { may = λ next h. f.may next }

behind_end : (next : TokenKind) → may_stand k.End next ≡ true → may_stand k.Text next ≡ true
behind_end k.Text h = absurd (false≢true h)
behind_end _ h = refl

pub closes-ends : (last : TokenKind) → Closes last → Ends last
closes-ends last c = record { may = λ next h. c.may next (behind_end next h) }

-- ---- rows

-- behind what is such, the row may stand, and in front of what may stand behind each kind that it ends with
pub record Fits (before after : TokenKind → Type 0) (xs : List Lexeme) : Type 0 where
  pub stand : (last : TokenKind) → before last → (rest : List Lexeme) → ((end : TokenKind) → after end → StandBehind end rest) → StandBehind last (xs ++ rest)

pub empty : {before after : TokenKind → Type 0} → ((last : TokenKind) → before last → after last) → Fits before after []
empty more = record { stand = λ last b rest behind. behind last (more last b) }

pub lexeme : {before after : TokenKind → Type 0} (x : Lexeme) → ((last : TokenKind) → before last → may_stand last x.kind ≡ true) → after x.kind → Fits before after (x ∷ [])
lexeme x may ends = record { stand = λ last b rest behind. (may last b, behind x.kind ends) }

pub then : {before between after : TokenKind → Type 0} {xs ys : List Lexeme} → Fits before between xs → Fits between after ys → Fits before after (xs ++ ys)
then {xs = xs} {ys = ys} f h = record {
  stand = λ last b rest behind.
      subst (StandBehind last) (sym (append_assoc xs ys rest)) (f.stand last b (ys ++ rest) (λ end m. h.stand end m rest behind));
}

-- what is asked in front may be more
pub in_front : {before more after : TokenKind → Type 0} {xs : List Lexeme} → ((last : TokenKind) → more last → before last) → Fits before after xs → Fits more after xs
in_front less f = record { stand = λ last m rest behind. f.stand last (less last m) rest behind }

-- what is known behind may be less
pub at_end : {before after less : TokenKind → Type 0} {xs : List Lexeme} → ((last : TokenKind) → after last → less last) → Fits before after xs → Fits before less xs
at_end more f = record { stand = λ last b rest behind. f.stand last b rest (λ end a. behind end (more end a)) }

-- ---- a word or a sign

pub free_word : {after : TokenKind → Type 0} (kind : TokenKind) → after kind → Fits Free after (one kind)
free_word kind a = lexeme (bare kind) (λ last f. f.may kind) a

pub behind_expression : {after : TokenKind → Type 0} (kind : TokenKind) → may_stand k.Text kind ≡ true → after kind → Fits Closes after (one kind)
behind_expression kind may a = lexeme (bare kind) (λ last c. c.may kind may) a

pub behind_statement : {after : TokenKind → Type 0} (kind : TokenKind) → may_stand k.End kind ≡ true → after kind → Fits Ends after (one kind)
behind_statement kind may a = lexeme (bare kind) (λ last e. e.may kind may) a

pub begins_expression : {after : TokenKind → Type 0} (kind : TokenKind) → begins kind ≡ true → after kind → Fits Opens after (one kind)
begins_expression kind may a = lexeme (bare kind) (λ last o. o.may kind may) a

-- ---- lists

pub fits-each : {A : Type 0} {at : TokenKind → Type 0} (f : A → List Lexeme) → ((x : A) → Fits at at (f x)) → (xs : List A) → Fits at at (each f xs)
fits-each f fits [] = empty (λ last a. a)
fits-each f fits (x ∷ xs) = then (fits x) (fits-each f fits xs)

pub comma : Fits Closes Free (one k.Comma)
comma = behind_expression k.Comma refl (record { may = λ next. refl })

pub fits-listed : {A : Type 0} (f : A → List Lexeme) → ((x : A) → Fits Free Closes (f x)) → (xs : List A) → Fits Free Closes (listed f xs)
fits-listed f fits [] = empty free-closes
fits-listed f fits (x ∷ xs) = then (fits x) (fits-each (behind_comma f) (λ y. then comma (fits y)) xs)
