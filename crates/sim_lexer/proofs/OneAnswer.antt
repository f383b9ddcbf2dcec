-- A source reads as one answer at most.
use Rattle.std.proofs.Common.{◌≡◌, ℕ, Bool, List, [], ◌++◌, refl, ap, sym, ◌∙◌, subst, drop, take, length, length-append, arith}
use Rattle.std.proofs.lemmas.List.{take_at, drop_at}
use Rattle.sim_base.specs.Lexeme.{text}
use Rattle.sim_base.specs.declared.rule.Rule.{Rule}
use Rattle.sim_base.specs.declared.token.Lexeme.{Lexeme}
use Rattle.sim_lexer.specs.Piece.{Piece, Separator, Lexeme as LexemePiece, Fault}
use Rattle.sim_lexer.specs.Pieces.{piece}
use Rattle.sim_lexer.specs.Spelling.{Lexed, Broken, Breaks, piece_breaks, text_breaks, Reads, too_long, reads, Spells, ends, passes, gives, breaks, Writes, lexeme_writes, text_writes, begins_line, token, with_token, with_joined}
use Rattle.sim_lexer.specs.Texts.{Content}
use Rattle.sim_lexer.proofs.TextLemmas.{one_content}

-- what stands in front is one

same_size : {front : Piece} {m n : ℕ} → front ≡ Separator m → front ≡ Separator n → m ≡ n
same_size first second = cc

same_lexeme : {front : Piece} {k l : Lexeme} {m n : ℕ} → front ≡ LexemePiece k m → front ≡ LexemePiece l n → k ≡ l
same_lexeme first second = cc

same_length : {front : Piece} {k l : Lexeme} {m n : ℕ} → front ≡ LexemePiece k m → front ≡ LexemePiece l n → m ≡ n
same_length first second = cc

same_rule : {front : Piece} {r q : Rule} → front ≡ Fault r → front ≡ Fault q → r ≡ q
same_rule first second = cc

same_sizes : (p r q s : List ℕ) → p ++ r ≡ q ++ s → r ≡ s → length p ≡ length q
same_sizes p r q s whole rests = omega (arith, ap length whole, ap length rests, length-append p r, length-append q s)

same_written : {front : Piece} {all p r q s : List ℕ} {k l : Lexeme} → all ≡ p ++ r → all ≡ q ++ s → Writes front p r k → Writes front q s l → (k ≡ l) × (length p ≡ length q)
same_written first second (lexeme_writes e) (lexeme_writes f) = (same_lexeme e f, same_length e f)
same_written first second (lexeme_writes e) (text_writes f d) = cc
same_written first second (text_writes e d) (lexeme_writes f) = cc
same_written {p = p} {r = r} {q = q} {s = s} first second (text_writes {bytes = b} e d) (text_writes {bytes = c} f g) =
    let whole : q ++ s ≡ p ++ r = sym second ∙ first in
    let same = one_content d (subst (λ (bytes : List ℕ). Content (drop 1 bytes) c s) whole g) in
    (ap text same.0, same_sizes p r q s (sym whole) same.1)

same_broken : {front : Piece} {all : List ℕ} {r q : Rule} → Breaks front all r → Breaks front all q → r ≡ q
same_broken (piece_breaks e) (piece_breaks f) = same_rule e f
same_broken (piece_breaks e) (text_breaks f none) = cc
same_broken (text_breaks e none) (piece_breaks f) = cc
same_broken (text_breaks e none) (text_breaks f other) = refl

-- and only one of these stands there

no_separator_writes : {front : Piece} {n : ℕ} {written rest : List ℕ} {lexeme : Lexeme} → front ≡ Separator n → Writes front written rest lexeme → ⊥
no_separator_writes e (lexeme_writes f) = cc
no_separator_writes e (text_writes f d) = cc

no_separator_breaks : {front : Piece} {n : ℕ} {all : List ℕ} {rule : Rule} → front ≡ Separator n → Breaks front all rule → ⊥
no_separator_breaks e (piece_breaks f) = cc
no_separator_breaks e (text_breaks f none) = cc

no_written_breaks : {front : Piece} {all written rest : List ℕ} {lexeme : Lexeme} {rule : Rule} → all ≡ written ++ rest → Writes front written rest lexeme → Breaks front all rule → ⊥
no_written_breaks split (lexeme_writes e) (piece_breaks f) = cc
no_written_breaks split (lexeme_writes e) (text_breaks f none) = cc
no_written_breaks split (text_writes e d) (piece_breaks f) = cc
no_written_breaks {rest = rest} split (text_writes {bytes = bytes} e d) (text_breaks f none) =
    none bytes rest (subst (λ (bs : List ℕ). Content (drop 1 bs) bytes rest) (sym split) d)

none_separates : (b : Bool) (n : ℕ) → piece b [] ≡ Separator n → ⊥
unfolding piece
none_separates b n e = cc

none_writes : (b : Bool) {written rest : List ℕ} {lexeme : Lexeme} → Writes (piece b []) written rest lexeme → ⊥
unfolding piece
none_writes b (lexeme_writes e) = cc
none_writes b (text_writes e d) = cc

none_breaks : (b : Bool) {all : List ℕ} {rule : Rule} → Breaks (piece b []) all rule → ⊥
unfolding piece
none_breaks b (piece_breaks e) = cc
none_breaks b (text_breaks e none) = cc

-- a piece of one size is one, with what stands behind it
same_piece : {all : List ℕ} (p r q s : List ℕ) → all ≡ p ++ r → all ≡ q ++ s → length p ≡ length q → p ≡ q
same_piece {all} p r q s first second same =
    sym (ap (take (length p)) first ∙ take_at p r (length p) refl) ∙ ap (λ (size : ℕ). take size all) same ∙ (ap (take (length q)) second ∙ take_at q s (length q) refl)

same_rest : {all : List ℕ} (p r q s : List ℕ) → all ≡ p ++ r → all ≡ q ++ s → length p ≡ length q → r ≡ s
same_rest {all} p r q s first second same =
    sym (ap (drop (length p)) first ∙ drop_at p r (length p) refl) ∙ ap (λ (size : ℕ). drop size all) same ∙ (ap (drop (length q)) second ∙ drop_at q s (length q) refl)

-- a spelling behind the one piece is one behind the other
moved : (before p r q s : List ℕ) {answer : Lexed} → p ≡ q → r ≡ s → Spells (before ++ q) s answer → Spells (before ++ p) r answer
moved before p r q s {answer} pieces rests d =
    subst (λ (bytes : List ℕ). Spells (before ++ bytes) r answer) (sym pieces) (subst (λ (rest : List ℕ). Spells (before ++ q) rest answer) (sym rests) d)

pub one_spelling : {before all : List ℕ} {a b : Lexed} → Spells before all a → Spells before all b → a ≡ b
one_spelling ends ends = refl
one_spelling {before} ends (passes q s f is g) = absurd (none_separates (begins_line before) (length q) is)
one_spelling {before} ends (gives k q s f w g) = absurd (none_writes (begins_line before) w)
one_spelling {before} ends (breaks r f) = absurd (none_breaks (begins_line before) f)
one_spelling {before} (passes p r e is d) ends = absurd (none_separates (begins_line before) (length p) is)
one_spelling {before} (passes p r e is d) (passes q s f so g) =
    let size = same_size is so in one_spelling d (moved before p r q s (same_piece p r q s e f size) (same_rest p r q s e f size) g)
one_spelling (passes p r e is d) (gives k q s f w g) = absurd (no_separator_writes is w)
one_spelling (passes p r e is d) (breaks q f) = absurd (no_separator_breaks is f)
one_spelling {before} (gives k p r e v d) ends = absurd (none_writes (begins_line before) v)
one_spelling (gives k p r e v d) (passes q s f is g) = absurd (no_separator_writes is v)
one_spelling {before} (gives {answer = a} k p r e v d) (gives l q s f w g) =
    let same = same_written e f v w in
    let there = one_spelling d (moved before p r q s (same_piece p r q s e f same.1) (same_rest p r q s e f same.1) g) in
    ap (λ (lexeme : Lexeme). with_token (token before lexeme) a) same.0 ∙ ap (with_token (token before l)) there
one_spelling (gives k p r e v d) (breaks q f) = absurd (no_written_breaks e v f)
one_spelling {before} (breaks q e) ends = absurd (none_breaks (begins_line before) e)
one_spelling (breaks q e) (passes p s f is g) = absurd (no_separator_breaks is e)
one_spelling (breaks q e) (gives k p s f w g) = absurd (no_written_breaks f w e)
one_spelling {before} (breaks r e) (breaks q f) = ap (λ (rule : Rule). Broken rule (length before)) (same_broken e f)

pub one_reading : {source : List ℕ} {a b : Lexed} → Reads source a → Reads source b → a ≡ b
one_reading (too_long e) (too_long f) = refl
one_reading (too_long e) (reads f d) = absurd (omega arith)
one_reading (reads e d) (too_long f) = absurd (omega arith)
one_reading (reads e d) (reads f g) = ap with_joined (one_spelling d g)
