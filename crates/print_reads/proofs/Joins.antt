-- Tokens that pieces spell are joined to the lexemes that they were made of.
use Rattle.std.proofs.Common.{◌≡◌, ℕ, true, List, [], ◌∷◌, ◌++◌, map, Option, Some, None, refl, sym, ap, ◌∙◌, append_assoc}
use Rattle.std.proofs.lemmas.Bool.{false≢true}
use Rattle.std.specs.List.{fold}
use Rattle.sim_base.specs.Lexeme.{bare, bytes_of}
use Rattle.sim_base.specs.declared.token.Lexeme.{Lexeme}
use Rattle.sim_base.specs.declared.token.Token.{Token}
use Rattle.sim_base.specs.declared.token.TokenKind.{TokenKind}
use Rattle.sim_base.specs.declared.token.TokenKind.TheVariants as k
use Rattle.sim_lexer.specs.Spelling.{joined, joined_by, joined_lexeme, neighbours, with_next}
use Rattle.print_reads.specs.ReadBack.{lexeme_of}
use Rattle.print_reads.specs.Writable.{Stand, StandBehind, may_stand}

-- the end of the source
abbrev pub ending : Lexeme
ending = bare k.EndOfSource

-- tokens that spell lexemes, and then the end of the source: two words of one lexeme are two tokens
pub data Spell : List Token → List Lexeme → Type 0 where
  at_end : (t : Token) → t.lexeme ≡ ending → Spell (t ∷ []) []
  by_one : (t : Token) {ts : List Token} {xs : List Lexeme} (x : Lexeme) → t.lexeme ≡ x → Spell ts xs → Spell (t ∷ ts) (x ∷ xs)
  by_and_then : (t u : Token) {ts : List Token} {xs : List Lexeme} → t.lexeme ≡ bare k.And → u.lexeme ≡ bare k.Then → Spell ts xs → Spell (t ∷ u ∷ ts) (bare k.AndThen ∷ xs)
  by_or_else : (t u : Token) {ts : List Token} {xs : List Lexeme} → t.lexeme ≡ bare k.Or → u.lexeme ≡ bare k.Else → Spell ts xs → Spell (t ∷ u ∷ ts) (bare k.OrElse ∷ xs)

-- ---- neighbours that are not joined

stay : (first second : TokenKind) (bytes more : List ℕ) → may_stand first second ≡ true → joined_by first second bytes more ≡ None
stay k.Text k.Text bytes more stand = absurd (false≢true stand)
stay k.And k.Then bytes more stand = absurd (false≢true stand)
stay k.Or k.Else bytes more stand = absurd (false≢true stand)
stay _ _ bytes more stand = refl

stay_and : (first : TokenKind) (bytes more : List ℕ) → joined_by first k.And bytes more ≡ None
stay_and k.Text bytes more = refl
stay_and k.And bytes more = refl
stay_and k.Or bytes more = refl
stay_and _ bytes more = refl

stay_or : (first : TokenKind) (bytes more : List ℕ) → joined_by first k.Or bytes more ≡ None
stay_or k.Text bytes more = refl
stay_or k.And bytes more = refl
stay_or k.Or bytes more = refl
stay_or _ bytes more = refl

stay_ending : (first : TokenKind) (bytes more : List ℕ) → joined_by first k.EndOfSource bytes more ≡ None
stay_ending k.Text bytes more = refl
stay_ending k.And bytes more = refl
stay_ending k.Or bytes more = refl
stay_ending _ bytes more = refl

-- ---- one more token

behind_last : (before : List Token) (last next : Token) → with_next (before ++ last ∷ []) next ≡ before ++ neighbours (joined_lexeme last.lexeme next.lexeme) last next
behind_last [] last next = refl
behind_last (a ∷ []) last next = refl
behind_last (a ∷ c ∷ before) last next = ap (λ (l : List Token). a ∷ l) (behind_last (c ∷ before) last next)

kept : (before : List Token) (last next : Token) → joined_lexeme last.lexeme next.lexeme ≡ None → with_next (before ++ last ∷ []) next ≡ (before ++ last ∷ []) ++ next ∷ []
kept before last next apart =
    behind_last before last next ∙ ap (λ (j : Option Lexeme). before ++ neighbours j last next) apart ∙ sym (append_assoc before (last ∷ []) (next ∷ []))

abbrev with_lexeme : Token → Lexeme → Token
with_lexeme t x = record t { lexeme = x }

taken : (before : List Token) (last next : Token) (x : Lexeme) → joined_lexeme last.lexeme next.lexeme ≡ Some x → with_next (before ++ last ∷ []) next ≡ before ++ with_lexeme last x ∷ []
taken before last next x one = behind_last before last next ∙ ap (λ (j : Option Lexeme). before ++ neighbours j last next) one

two_lexemes : (t u : Token) (x y : Lexeme) (j : Option Lexeme) → t.lexeme ≡ x → u.lexeme ≡ y → joined_lexeme x y ≡ j → joined_lexeme t.lexeme u.lexeme ≡ j
two_lexemes t u x y j is also joins = ap (λ (w : Lexeme). joined_lexeme w u.lexeme) is ∙ ap (joined_lexeme x) also ∙ joins

-- ---- all

-- the tokens behind some, of which the last may still be joined
record Ends (before : List Token) (last : Token) (more : List Token) (lexemes : List Lexeme) : Type 0 where
  rest : List Token
  is : fold with_next (before ++ last ∷ []) more ≡ before ++ rest
  are : map lexeme_of rest ≡ lexemes

-- the last stays what it is
goes_on : (before : List Token) (last : Token) (w : Lexeme) (next : Token) (more : List Token) (lexemes : List Lexeme) → last.lexeme ≡ w
    → joined_lexeme last.lexeme next.lexeme ≡ None → Ends (before ++ last ∷ []) next more lexemes → Ends before last (next ∷ more) (w ∷ lexemes)
goes_on before last w next more lexemes is apart e = record {
  rest = last ∷ e.rest;
  is = ap (λ (l : List Token). fold with_next l more) (kept before last next apart) ∙ e.is ∙ append_assoc before (last ∷ []) e.rest;
  are = ap (λ (x : Lexeme). x ∷ map lexeme_of e.rest) is ∙ ap (λ (l : List Lexeme). w ∷ l) e.are;
}

becomes : (before : List Token) (last next : Token) (x : Lexeme) (more : List Token) (lexemes : List Lexeme)
    → joined_lexeme last.lexeme next.lexeme ≡ Some x → Ends before (with_lexeme last x) more lexemes → Ends before last (next ∷ more) lexemes
becomes before last next x more lexemes one e = record {
  rest = e.rest;
  is = ap (λ (l : List Token). fold with_next l more) (taken before last next x one) ∙ e.is;
  are = e.are;
}

abbrev with_end : List Lexeme → List Lexeme
with_end xs = xs ++ ending ∷ []

all_behind : {ts : List Token} {xs : List Lexeme} → Spell ts xs → (before : List Token) (last : Token) (w : Lexeme) → last.lexeme ≡ w → StandBehind w.kind xs
    → Ends before last ts (w ∷ with_end xs)
all_behind (at_end t e) before last w is stand =
    goes_on before last w t [] (ending ∷ []) is (two_lexemes last t w ending None is e (stay_ending w.kind (bytes_of w.value) []))
    (record { rest = t ∷ []; is = refl; are = ap (λ (x : Lexeme). x ∷ []) e })
all_behind (by_one t {ts = ts} {xs = xs} x e s) before last w is stand =
    goes_on before last w t ts (x ∷ with_end xs) is (two_lexemes last t w x None is e (stay w.kind x.kind (bytes_of w.value) (bytes_of x.value) stand.0))
    (all_behind s (before ++ last ∷ []) t x e stand.1)
all_behind (by_and_then t u {ts = ts} {xs = xs} e h s) before last w is stand =
    goes_on before last w t (u ∷ ts) (bare k.AndThen ∷ with_end xs) is (two_lexemes last t w (bare k.And) None is e (stay_and w.kind (bytes_of w.value) []))
    (becomes (before ++ last ∷ []) t u (bare k.AndThen) ts (bare k.AndThen ∷ with_end xs) (two_lexemes t u (bare k.And) (bare k.Then) (Some (bare k.AndThen)) e h refl)
    (all_behind s (before ++ last ∷ []) (with_lexeme t (bare k.AndThen)) (bare k.AndThen) refl stand.1))
all_behind (by_or_else t u {ts = ts} {xs = xs} e h s) before last w is stand =
    goes_on before last w t (u ∷ ts) (bare k.OrElse ∷ with_end xs) is (two_lexemes last t w (bare k.Or) None is e (stay_or w.kind (bytes_of w.value) []))
    (becomes (before ++ last ∷ []) t u (bare k.OrElse) ts (bare k.OrElse ∷ with_end xs) (two_lexemes t u (bare k.Or) (bare k.Else) (Some (bare k.OrElse)) e h refl)
    (all_behind s (before ++ last ∷ []) (with_lexeme t (bare k.OrElse)) (bare k.OrElse) refl stand.1))

whole : {last : Token} {more : List Token} {lexemes : List Lexeme} (e : Ends [] last more lexemes) → map lexeme_of (fold with_next (last ∷ []) more) ≡ lexemes
whole e = ap (λ (l : List Token). map lexeme_of l) e.is ∙ e.are

pub joined-are : {ts : List Token} {xs : List Lexeme} → Spell ts xs → Stand xs → map lexeme_of (joined ts) ≡ with_end xs
joined-are (at_end t e) stand = ap (λ (x : Lexeme). x ∷ []) e
joined-are (by_one t x e s) stand = whole (all_behind s [] t x e stand)
joined-are (by_and_then t u {ts = ts} {xs = xs} e h s) stand =
    whole
    (becomes [] t u (bare k.AndThen) ts (bare k.AndThen ∷ with_end xs) (two_lexemes t u (bare k.And) (bare k.Then) (Some (bare k.AndThen)) e h refl)
    (all_behind s [] (with_lexeme t (bare k.AndThen)) (bare k.AndThen) refl stand))
joined-are (by_or_else t u {ts = ts} {xs = xs} e h s) stand =
    whole
    (becomes [] t u (bare k.OrElse) ts (bare k.OrElse ∷ with_end xs) (two_lexemes t u (bare k.Or) (bare k.Else) (Some (bare k.OrElse)) e h refl)
    (all_behind s [] (with_lexeme t (bare k.OrElse)) (bare k.OrElse) refl stand))
