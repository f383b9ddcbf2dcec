-- The text of lexemes is read as these lexemes.
use Rattle.std.proofs.Common.{◌≡◌, ℕ, ◌<◌, ◌≤◌, Bool, true, false, List, [], ◌∷◌, ◌++◌, length, refl, sym, ap, ◌∙◌, subst, append_assoc, arith, Option}
use Rattle.std.specs.List.{AllByRecursion}
use Rattle.std.specs.Option.{option_map_or}
use Rattle.std.specs.Prelude.{pos}
use Rattle.sim_base.specs.Lexeme.{bare, character, named, text, whole_number}
use Rattle.sim_base.specs.declared.token.Lexeme.{Lexeme}
use Rattle.sim_base.specs.declared.token.Token.{Token}
use Rattle.sim_base.specs.declared.token.TokenKind.{TokenKind}
use Rattle.sim_base.specs.declared.token.TokenKind.TheVariants as k
use Rattle.sim_lexer.specs.Bytes.{is_separator}
use Rattle.sim_lexer.specs.Piece.{Lexeme as LexemePiece}
use Rattle.sim_lexer.specs.Pieces.{piece}
use Rattle.sim_lexer.specs.Spelling.{Spelled, Spells, ends, passes, gives, Writes, lexeme_writes, begins_line, joined, token, reads}
use Rattle.sim_print.specs.Layout.{holds_on, open_at, open_behind, text_of}
use Rattle.sim_print.specs.Spelling.{character_constant, spelling, text_constant}
use Rattle.sim_print.specs.Words.{word}
use Rattle.std.specs.Fmt.{decimal}
use Rattle.print_reads.specs.ReadBack.{ReadsAs}
use Rattle.print_reads.specs.Writable.{IsName, IsWritable, writes_word, writes_name, writes_number, writes_character, writes_text, Stand, StandBehind}
use Rattle.print_reads.proofs.Behind.{Blank, Breaks, no_quote, no_word_byte}
use Rattle.print_reads.proofs.Constants.{character-piece, text-writes}
use Rattle.print_reads.proofs.Ends.{end-piece}
use Rattle.print_reads.proofs.Fronts.{Worded, separator-piece, word-piece}
use Rattle.print_reads.proofs.Gaps.{IsGap, none, line, blank, breaks_behind, gap-is, gap_of, no_digit_behind, text_behind, text_from, whole_text}
use Rattle.print_reads.proofs.Joins.{Spell, at_end, by_one, by_and_then, by_or_else, ending, joined-are}
use Rattle.print_reads.proofs.Numbers.{decimal-piece}
use Rattle.print_reads.proofs.Shapes.{IsPlainWord, Shape, and_then, dot-piece, dotted, ending as ends_block, open-piece, opening, or_else, plain_sign, plain_sign-piece, plain-and, plain-else, plain-or, plain-then, plain_word, plain_word-piece, shape, wordless}

-- bytes that spell tokens which are these lexemes, behind the bytes before them
record ReadHere (before all : List ℕ) (xs : List Lexeme) : Type 0 where
  tokens : List Token
  spells : Spells before all (Spelled tokens)
  are : Spell tokens xs

-- whatever stands before them
abbrev Reading : List ℕ → List Lexeme → Type 0
Reading all xs = (before : List ℕ) → ReadHere before all xs

ended : Reading [] []
ended before = record { tokens = token before ending ∷ []; spells = ends; are = at_end (token before ending) refl }

pass : (byte : ℕ) {rest : List ℕ} {xs : List Lexeme} → is_separator byte ≡ true → Reading rest xs → Reading (byte ∷ rest) xs
pass byte {rest} {xs} is reading before =
    let next = reading (before ++ byte ∷ []) in
    record { tokens = next.tokens; spells = passes (byte ∷ []) rest refl (separator-piece (begins_line before) byte rest is) next.spells; are = next.are }

pass_gap : {gap : List ℕ} → IsGap gap → {rest : List ℕ} {xs : List Lexeme} → Reading rest xs → Reading (gap ++ rest) xs
pass_gap none reading = reading
pass_gap (line gap) reading = pass 10 refl (pass_gap gap reading)
pass_gap (blank gap) reading = pass 32 refl (pass_gap gap reading)

give : (x : Lexeme) (written : List ℕ) {rest : List ℕ} {xs : List Lexeme} → ((b : Bool) → Writes (piece b (written ++ rest)) written rest x) → Reading rest xs → Reading (written ++ rest) (x ∷ xs)
give x written {rest} {xs} writes reading before =
    let next = reading (before ++ written) in
    record { tokens = token before x ∷ next.tokens; spells = gives x written rest refl (writes (begins_line before)) next.spells; are = by_one (token before x) x refl next.are }

give_piece : (x : Lexeme) (written : List ℕ) {rest : List ℕ} {xs : List Lexeme} → ((b : Bool) → piece b (written ++ rest) ≡ LexemePiece x (length written)) → Reading rest xs → Reading (written ++ rest) (x ∷ xs)
give_piece x written is reading = give x written (λ b. lexeme_writes (is b)) reading

-- two words of one lexeme, with a blank between
record IsPair (first second whole : TokenKind) : Type 0 where
  one : IsPlainWord first
  other : IsPlainWord second
  spell : (t u : Token) {ts : List Token} {xs : List Lexeme} → t.lexeme ≡ bare first → u.lexeme ≡ bare second → Spell ts xs → Spell (t ∷ u ∷ ts) (bare whole ∷ xs)

give_pair : {first second both : TokenKind} → IsPair first second both → {rest : List ℕ} {xs : List Lexeme} → Breaks rest → Reading rest xs
    → Reading (word first ++ 32 ∷ (word second ++ rest)) (bare both ∷ xs)
give_pair {first} {second} {both} pair {rest} {xs} breaks reading before = record {
  tokens = token before (bare first) ∷ token there (bare second) ∷ next.tokens;
  spells =
      gives (bare first) (word first) (32 ∷ (word second ++ rest)) refl (lexeme_writes (plain_word-piece pair.one (32 ∷ (word second ++ rest)) at_blank (begins_line before)))
      (passes (32 ∷ []) (word second ++ rest) refl (separator-piece (begins_line (before ++ word first)) 32 (word second ++ rest) refl)
      (gives (bare second) (word second) rest refl (lexeme_writes (plain_word-piece pair.other rest breaks (begins_line there))) next.spells));
  are = pair.spell (token before (bare first)) (token there (bare second)) refl refl next.are;
}
  where
    there : List ℕ
    there = (before ++ word first) ++ 32 ∷ []

    next : ReadHere (there ++ word second) rest xs
    next = reading (there ++ word second)

    at_blank : Breaks (32 ∷ (word second ++ rest))
    at_blank = record { break = Blank; rest = word second ++ rest; is = refl; no_real = tt }

and_then_pair : IsPair k.And k.Then k.AndThen
and_then_pair = record { one = plain-and; other = plain-then; spell = λ t u e h s. by_and_then t u e h s }

or_else_pair : IsPair k.Or k.Else k.OrElse
or_else_pair = record { one = plain-or; other = plain-else; spell = λ t u e h s. by_or_else t u e h s }

-- ---- one lexeme in front of what is read

name_worded : (bytes : List ℕ) → IsName bytes → Worded bytes (named bytes)
name_worded bytes n = record {
  letter = n.letter;
  all = n.all;
  lower = n.lower;
  comments = n.comments;
  left_out = n.left_out;
  is = ap (λ (found : Option TokenKind). option_map_or bare found (named bytes)) n.keyword;
}

module _ (depth : ℕ) (xs : List Lexeme) (all : AllByRecursion IsWritable xs) (reading : Reading (text_from depth xs) xs) where
  -- what stands behind a lexeme of this kind
  behind_reading : (last : TokenKind) → Reading (text_behind depth last xs) xs
  behind_reading last = pass_gap (gap-is depth last xs) reading

  loosely : (last : TokenKind) → StandBehind last xs → holds_on last ≡ false → Breaks (text_behind depth last xs)
  loosely last stand loose = breaks_behind depth last xs all stand loose

  word_in_front : (kind : TokenKind) → 0 < length (word kind) → StandBehind kind xs → Shape kind → Reading (word kind ++ text_behind depth kind xs) (bare kind ∷ xs)
  unfolding word
  word_in_front kind some stand (plain_word w) = give_piece (bare kind) (word kind) (plain_word-piece w (text_behind depth kind xs) (loosely kind stand w.holds)) (behind_reading kind)
  word_in_front kind some stand (plain_sign s) = give_piece (bare kind) (word kind) (plain_sign-piece s (text_behind depth kind xs) (loosely kind stand s.holds)) (behind_reading kind)
  word_in_front kind some stand ends_block =
      subst (λ (l : List ℕ). Reading l (bare k.End ∷ xs)) (append_assoc (word k.End) (gap_of depth k.End xs) (text_from depth xs))
      (give_piece (bare k.End) (word k.End ++ gap_of depth k.End xs) (end-piece depth xs all stand) reading)
  word_in_front kind some stand and_then = give_pair and_then_pair (loosely k.AndThen stand refl) (behind_reading k.AndThen)
  word_in_front kind some stand or_else = give_pair or_else_pair (loosely k.OrElse stand refl) (behind_reading k.OrElse)
  word_in_front kind some stand opening = give_piece (bare k.Open) (word k.Open) (open-piece (text_behind depth k.Open xs)) (behind_reading k.Open)
  word_in_front kind some stand dotted =
      give_piece (bare k.Dot) (word k.Dot) (dot-piece (text_behind depth k.Dot xs) (no_digit_behind depth xs all stand)) (behind_reading k.Dot)
  word_in_front kind some stand (wordless none_written) = absurd (omega (arith, some, none_written))

  in_front : (x : Lexeme) → IsWritable x → StandBehind x.kind xs → Reading (spelling x ++ text_behind depth x.kind xs) (x ∷ xs)
  unfolding spelling
  in_front x (writes_word kind some) stand = word_in_front kind some stand (shape kind)
  in_front x (writes_name bytes is) stand =
      let rest = text_behind depth k.Identifier xs in
      give_piece (named bytes) bytes
      (λ b. word-piece (name_worded bytes is) rest (no_word_byte rest (loosely k.Identifier stand refl)) b ∙ ap (LexemePiece (named bytes)) (omega arith))
      (behind_reading k.Identifier)
  in_front x (writes_number value small) stand =
      let rest = text_behind depth k.Integer xs in
      give_piece (whole_number (pos value)) (decimal value) (decimal-piece value small rest (loosely k.Integer stand refl)) (behind_reading k.Integer)
  in_front x (writes_character code small) stand =
      give_piece (character code) (character_constant code) (character-piece code small (text_behind depth k.Character xs)) (behind_reading k.Character)
  in_front x (writes_text bytes small) stand =
      let rest = text_behind depth k.Text xs in
      give (text bytes) (text_constant bytes) (text-writes bytes small rest (no_quote rest (loosely k.Text stand refl))) (behind_reading k.Text)

-- ---- all of them

stand_on : (last : TokenKind) (xs : List Lexeme) → StandBehind last xs → Stand xs
stand_on last [] stand = tt
stand_on last (x ∷ xs) stand = stand.1

text-reading : (xs : List Lexeme) (depth : ℕ) → AllByRecursion IsWritable xs → Stand xs → Reading (text_from depth xs) xs
text-reading [] depth all stand = ended
text-reading (x ∷ xs) depth all stand =
    let below = open_behind x.kind (open_at x.kind depth) in
    in_front below xs all.1 (text-reading xs below all.1 (stand_on x.kind xs stand)) x all.0 stand

whole_reading : (xs : List Lexeme) → AllByRecursion IsWritable xs → Stand xs → Reading (text_of xs) xs
whole_reading [] all stand = pass 10 refl ended
whole_reading (x ∷ xs) all stand = subst (λ (l : List ℕ). Reading l (x ∷ xs)) (sym (whole_text x xs)) (text-reading (x ∷ xs) 0 all stand)

pub read_again : (xs : List Lexeme) → AllByRecursion IsWritable xs → Stand xs → length (text_of xs) ≤ 1048576 → ReadsAs (text_of xs) xs
read_again xs all stand within =
    let r = whole_reading xs all stand [] in
    record { tokens = joined r.tokens; reads = reads within r.spells; are = joined-are r.are stand }
