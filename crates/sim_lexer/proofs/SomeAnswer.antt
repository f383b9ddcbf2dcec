-- Every source reads as some answer.
use Rattle.std.proofs.Common.{◌≡◌, ℕ, ◌<◌, ◌≤◌, zero, suc, inl, inr, List, [], ◌∷◌, ◌++◌, length, take, drop, length-drop, refl, sym, ap, subst, ◌∙◌, arith}
use Rattle.std.proofs.lemmas.Bool.{cases_lt}
use Rattle.std.proofs.lemmas.List.{take-append-drop, length-take-le}
use Rattle.sim_base.specs.Lexeme.{bare, text}
use Rattle.sim_base.specs.declared.rule.Rule.TheVariants.{SourceTooLong, TextConstantNotClosed}
use Rattle.sim_base.specs.declared.token.Lexeme.{Lexeme}
use Rattle.sim_base.specs.declared.token.TokenKind.TheVariants as k
use Rattle.sim_lexer.specs.Piece.{Piece, Nothing, Separator, Lexeme as LexemePiece, Quote, Fault}
use Rattle.sim_lexer.specs.Pieces.{piece}
use Rattle.sim_lexer.specs.Spelling.{Lexed, Spelled, Broken, piece_breaks, text_breaks, Spells, ends, passes, gives, breaks, Reads, too_long, reads, Writes, lexeme_writes, text_writes, begins_line, token, with_token, with_joined}
use Rattle.sim_lexer.specs.Texts.{Content}
use Rattle.sim_lexer.specs.Within.{IsWithin}
use Rattle.sim_lexer.proofs.PiecesWithin.{within-piece}
use Rattle.sim_lexer.proofs.TextLemmas.{ContentOrNone, find_content, none, some, text_lexeme}

abbrev HasSpelling : List ℕ → List ℕ → Type 0
HasSpelling before all = (answer : Lexed) × Spells before all answer

split_at : (size : ℕ) (all : List ℕ) → all ≡ take size all ++ drop size all
split_at size all = sym (take-append-drop size all)

none_left : (all : List ℕ) → length all ≡ 0 → all ≡ []
none_left [] so = refl
none_left (byte ∷ rest) so = absurd (omega arith)

-- a rest has a spelling where every shorter one has
module _ (before all : List ℕ) (shorter : (next rest : List ℕ) → length rest < length all → HasSpelling next rest) where
  passed : (size : ℕ) → 0 < size → size ≤ length all → piece (begins_line before) all ≡ Separator size → HasSpelling before all
  passed size some_size within is =
      let rest = shorter (before ++ take size all) (drop size all) (omega (arith, length-drop size all)) in
      (rest.0, passes (take size all) (drop size all) (split_at size all) (is ∙ ap Separator (sym (length-take-le size all within))) rest.1)

  given : (lexeme : Lexeme) (size : ℕ) → 0 < size → size ≤ length all → Writes (piece (begins_line before) all) (take size all) (drop size all) lexeme → HasSpelling before all
  given lexeme size some_size within writes =
      let rest = shorter (before ++ take size all) (drop size all) (omega (arith, length-drop size all)) in
      (with_token (token before lexeme) rest.0, gives lexeme (take size all) (drop size all) (split_at size all) writes rest.1)

  quoted : piece (begins_line before) all ≡ Quote → ContentOrNone (drop 1 all) → HasSpelling before all
  quoted is (some bytes rest d) =
      let constant = text_lexeme all bytes rest d in
      given (text bytes) constant.size constant.some constant.within (text_writes is (subst (λ (bs : List ℕ). Content (drop 1 bs) bytes (drop constant.size all)) (split_at constant.size all) constant.content))
  quoted is (none never) = (Broken TextConstantNotClosed (length before), breaks TextConstantNotClosed (text_breaks is never))

  by_piece : (front : Piece) → piece (begins_line before) all ≡ front → IsWithin front all → HasSpelling before all
  by_piece Nothing is within = subst (HasSpelling before) (sym (none_left all within)) (Spelled (token before (bare k.EndOfSource) ∷ []), ends)
  by_piece (Separator size) is within = passed size within.some within.within is
  by_piece (LexemePiece lexeme size) is within =
      given lexeme size within.some within.within (lexeme_writes (is ∙ ap (LexemePiece lexeme) (sym (length-take-le size all within.within))))
  by_piece Quote is within = quoted is (find_content (drop 1 all))
  by_piece (Fault rule) is within = (Broken rule (length before), breaks rule (piece_breaks is))

spelled_in_front : (before all : List ℕ) → ((next rest : List ℕ) → length rest < length all → HasSpelling next rest) → HasSpelling before all
spelled_in_front before all shorter = by_piece before all shorter (piece (begins_line before) all) refl (within-piece (begins_line before) all)

some_spelling : (most : ℕ) (before all : List ℕ) → length all ≤ most → HasSpelling before all
some_spelling zero before all short = spelled_in_front before all (λ next rest less. absurd (omega arith))
some_spelling (suc most) before all short = spelled_in_front before all (λ next rest less. some_spelling most next rest (omega arith))

pub some_reading : (source : List ℕ) → (answer : Lexed) × Reads source answer
some_reading source =
    elim (cases_lt 1048576 (length source)) [
      | inl long ↦ (Broken SourceTooLong 1048576, too_long long)
      | inr short ↦ let spelled = some_spelling (length source) [] source (omega arith) in (with_joined spelled.0, reads short spelled.1)
    ]
