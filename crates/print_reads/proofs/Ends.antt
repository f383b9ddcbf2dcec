-- The comment behind an `end` is what stands up to the next lexeme.
use Rattle.std.proofs.Common.{◌≡◌, ℕ, ◌+◌, Bool, true, false, List, [], ◌∷◌, ◌++◌, suc, length, refl, sym, ap, ◌∙◌, arith, append_assoc, length-append}
use Rattle.std.proofs.lemmas.Bool.{false≢true}
use Rattle.std.specs.List.{AllByRecursion, list_all}
use Rattle.std.specs.Prelude.{if◌then◌else◌, nat_eq, ◌||◌}
use Rattle.sim_base.specs.Lexeme.{bare}
use Rattle.sim_base.specs.declared.token.Lexeme.{Lexeme}
use Rattle.sim_base.specs.declared.token.TokenKind.{TokenKind}
use Rattle.sim_base.specs.declared.token.TokenKind.TheVariants as k
use Rattle.sim_lexer.specs.Bytes.{is_word_byte}
use Rattle.sim_lexer.specs.EndComments.{comment_from, end_comment, is_directive, next_spot, stands_stop, stops}
use Rattle.sim_lexer.specs.Piece.{Lexeme as LexemePiece}
use Rattle.sim_lexer.specs.Pieces.{piece}
use Rattle.sim_lexer.specs.Scanning.{spot}
use Rattle.sim_lexer.specs.Words.{is_stop_word, keyword}
use Rattle.sim_print.specs.Layout.{holds_on, open_at, open_behind}
use Rattle.sim_print.specs.Spelling.{spelling}
use Rattle.sim_print.specs.Words.{word}
use Rattle.print_reads.specs.Writable.{IsWritable, writes_word, writes_name, writes_number, writes_character, writes_text, StandBehind, ends_comment}
use Rattle.print_reads.proofs.Behind.{Breaks, no_word_byte}
use Rattle.print_reads.proofs.Fronts.{Worded, takes_all, word-piece}
use Rattle.print_reads.proofs.Gaps.{IsGap, none, line, blank, breaks_behind, gap-is, gap_of, text_behind, text_from}

-- the comment stops here
abbrev Stops : List ℕ → Type 0
Stops next = (b : Bool) → comment_from (spot b) next ≡ 0

one_more : (n m : ℕ) → n ≡ m → 1 + n ≡ suc m
one_more n m same = omega arith

over_gap : {gap : List ℕ} → IsGap gap → (next : List ℕ) → Stops next → (b : Bool) → comment_from (spot b) (gap ++ next) ≡ length gap
over_gap none next stop b = stop b
over_gap (line {rest = rest} gap) next stop true = one_more (comment_from (spot true) (rest ++ next)) (length rest) (over_gap gap next stop true)
over_gap (line {rest = rest} gap) next stop false = one_more (comment_from (spot true) (rest ++ next)) (length rest) (over_gap gap next stop true)
over_gap (blank {rest = rest} gap) next stop true = one_more (comment_from (spot false) (rest ++ next)) (length rest) (over_gap gap next stop false)
over_gap (blank {rest = rest} gap) next stop false = one_more (comment_from (spot false) (rest ++ next)) (length rest) (over_gap gap next stop false)

-- ---- where it stops

at_word : (byte : ℕ) (bytes tail : List ℕ) → nat_eq byte 37 ≡ false → list_all is_word_byte (byte ∷ bytes) ≡ true → is_stop_word (byte ∷ bytes) ≡ true → Breaks tail → Stops (byte ∷ bytes ++ tail)
at_word byte bytes tail other word_bytes stop breaks b =
    ap (λ c. if c then 0 else 1 + comment_from (next_spot (spot b) byte) (bytes ++ tail)) (stops_here b)
  where
    or_true : (a : Bool) → (a || true) ≡ true
    or_true true = refl
    or_true false = refl

    stands : stands_stop (byte ∷ (bytes ++ tail)) ≡ true
    stands =
        ap (λ (l : List ℕ). nat_eq byte 59 || is_stop_word l) (takes_all is_word_byte (byte ∷ bytes) tail word_bytes (no_word_byte tail breaks))
        ∙ ap (λ c. nat_eq byte 59 || c) stop ∙ or_true (nat_eq byte 59)

    stops_here : (b : Bool) → stops (spot b) (byte ∷ (bytes ++ tail)) ≡ true
    stops_here true = ap (λ c. is_directive (byte ∷ (bytes ++ tail)) || c) stands ∙ or_true (is_directive (byte ∷ (bytes ++ tail)))
    stops_here false = stands

at_semicolon : (tail : List ℕ) → Stops (59 ∷ tail)
at_semicolon tail true = refl
at_semicolon tail false = refl

at_kind : (kind : TokenKind) → ends_comment kind ≡ true → (tail : List ℕ) → Breaks tail → Stops (word kind ++ tail)
unfolding word
at_kind k.Semicolon is tail breaks = at_semicolon tail
at_kind k.End is tail breaks = at_word 101 (110 ∷ 100 ∷ []) tail refl refl refl breaks
at_kind k.Else is tail breaks = at_word 101 (108 ∷ 115 ∷ 101 ∷ []) tail refl refl refl breaks
at_kind k.When is tail breaks = at_word 119 (104 ∷ 101 ∷ 110 ∷ []) tail refl refl refl breaks
at_kind k.Otherwise is tail breaks = at_word 111 (116 ∷ 104 ∷ 101 ∷ 114 ∷ 119 ∷ 105 ∷ 115 ∷ 101 ∷ []) tail refl refl refl breaks
at_kind _ is tail breaks = absurd (false≢true is)

at_lexeme : (y : Lexeme) → IsWritable y → ends_comment y.kind ≡ true → (tail : List ℕ) → Breaks tail → Stops (spelling y ++ tail)
unfolding spelling
at_lexeme y (writes_word kind some) is tail breaks = at_kind kind is tail breaks
at_lexeme y (writes_name bytes name) is tail breaks = absurd (false≢true is)
at_lexeme y (writes_number value small) is tail breaks = absurd (false≢true is)
at_lexeme y (writes_character code small) is tail breaks = absurd (false≢true is)
at_lexeme y (writes_text bytes small) is tail breaks = absurd (false≢true is)

loose : (kind : TokenKind) → ends_comment kind ≡ true → holds_on kind ≡ false
loose k.Open is = absurd (false≢true is)
loose k.Dot is = absurd (false≢true is)
loose _ is = refl

stops_next : (depth : ℕ) (xs : List Lexeme) → AllByRecursion IsWritable xs → StandBehind k.End xs → Stops (text_from depth xs)
stops_next depth [] all stand b = refl
stops_next depth (y ∷ ys) all stand b =
    let below = open_behind y.kind (open_at y.kind depth) in
    at_lexeme y all.0 stand.0 (text_behind below y.kind ys) (breaks_behind below y.kind ys all.1 stand.1 (loose y.kind stand.0)) b

-- ---- the word with its comment

end_worded : Worded (word k.End) (bare k.End)
unfolding word keyword
end_worded = record { letter = refl; all = refl; lower = refl; comments = refl; left_out = refl; is = refl }

pub end-piece : (depth : ℕ) (xs : List Lexeme) → AllByRecursion IsWritable xs → StandBehind k.End xs → (b : Bool)
    → piece b ((word k.End ++ gap_of depth k.End xs) ++ text_from depth xs) ≡ LexemePiece (bare k.End) (length (word k.End ++ gap_of depth k.End xs))
unfolding end_comment
end-piece depth xs all stand b =
    ap (piece b) (append_assoc (word k.End) (gap_of depth k.End xs) (text_from depth xs))
    ∙ word-piece end_worded (text_behind depth k.End xs) (no_word_byte (text_behind depth k.End xs) (breaks_behind depth k.End xs all stand refl)) b
    ∙ ap (λ n. LexemePiece (bare k.End) (length (word k.End) + n)) (over_gap (gap-is depth k.End xs) (text_from depth xs) (stops_next depth xs all stand) false)
    ∙ ap (LexemePiece (bare k.End)) (sym (length-append (word k.End) (gap_of depth k.End xs)))
