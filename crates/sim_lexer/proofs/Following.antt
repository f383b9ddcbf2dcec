-- What the rest of a source reads as, with the tokens before it, is what the source reads as.
use Rattle.std.proofs.Common.{◌≡◌, ℕ, ◌+◌, ◌<◌, ◌≤◌, Bool, true, List, [], ◌∷◌, ◌++◌, drop, take, length, ap, ◌∙◌, subst, sym, refl, Result, Ok, Err, arith, cond}
use Rattle.std.specs.Prelude.{MatchResult, nat_eq}
use Rattle.std.proofs.lemmas.Bool.Decides.{nat_tests}
use Rattle.std.proofs.lemmas.List.{take-append-drop, length-take-le, length-append}
use Rattle.std.proofs.lemmas.List.Sums.{fold-append, sum_by-append, sum_by-cons}
use Rattle.std.specs.List.{count_by, fold}
use Rattle.sim_base.specs.Lexeme.{bare}
use Rattle.sim_base.specs.declared.rule.Rule.{Rule}
use Rattle.sim_base.specs.declared.token.Lexeme.{Lexeme}
use Rattle.sim_base.specs.declared.token.Token.{Token}
use Rattle.sim_base.specs.declared.token.TokenKind.TheVariants as k
use Rattle.sim_lexer.specs.Bytes.{is_line_feed}
use Rattle.sim_lexer.specs.Claims.{IsNoEnd, Refused, Refuses}
use Rattle.sim_lexer.specs.Piece.{Piece, Separator, Lexeme as LexemePiece}
use Rattle.sim_lexer.specs.Pieces.{piece}
use Rattle.sim_lexer.specs.Scanning.{IsItem, is_piece, is_text, closed, unclosed, past, past_byte, token_at}
use Rattle.sim_lexer.specs.Spelling.{Lexed, Spelled, Broken, Breaks, piece_breaks, text_breaks, Spells, ends, passes, gives, breaks, Reads, reads, Writes, lexeme_writes, text_writes, begins_line, line_behind, token, with_next}
use Rattle.sim_lexer.specs.Texts.{Content}
use Rattle.sim_lexer.specs.Within.{IsWithin}
use Rattle.sim_lexer.proofs.OneAnswer.{one_reading}
use Rattle.sim_lexer.proofs.NoEnd.{no_end-written}
use Rattle.sim_lexer.proofs.PiecesWithin.{lexeme-some, within-piece}
use Rattle.sim_lexer.specs.declared.item.Item.TheVariants as item
use Rattle.sim_lexer.specs.declared.refusal.LexRefusal.{LexRefusal}
use Rattle.sim_lexer.specs.declared.refusal.LexRefusal.TheVariants as refusal
use Rattle.sim_lexer.specs.declared.position.Position.{Position}

-- ---- the position behind bytes

pub record IsAfter (before : List ℕ) (at : Position) : Type 0 where
  pub place : at.place ≡ length before
  pub line : at.line ≡ line_behind before
  pub fresh : at.begins_line ≡ begins_line before

past-place : (at : Position) (bytes : List ℕ) → (past at bytes).place ≡ at.place + length bytes
past-place at [] = omega arith
past-place at (byte ∷ bytes) = let there = past-place (past_byte at byte) bytes in omega (arith, there)

line_more : (at : Position) (byte : ℕ) → (past_byte at byte).line ≡ at.line + cond (nat_eq 10 byte) 1 0
line_more at byte = grind (arith, nat_tests)

past-line : (at : Position) (bytes : List ℕ) → (past at bytes).line ≡ at.line + count_by (nat_eq 10) bytes
past-line at [] = omega arith
past-line at (byte ∷ bytes) =
    let there = past-line (past_byte at byte) bytes in
    let here = line_more at byte in
    let count : count_by (nat_eq 10) (byte ∷ bytes) ≡ cond (nat_eq 10 byte) 1 0 + count_by (nat_eq 10) bytes = sum_by-cons (λ b. cond (nat_eq 10 b) 1 0) byte bytes in
    omega (arith, there, here, count)

past-fresh : (at : Position) (bytes : List ℕ) → (past at bytes).begins_line ≡ fold (λ begins byte. is_line_feed byte) at.begins_line bytes
past-fresh at [] = refl
past-fresh at (byte ∷ bytes) = past-fresh (past_byte at byte) bytes

after-past : (before piece : List ℕ) (at : Position) → IsAfter before at → IsAfter (before ++ piece) (past at piece)
after-past before piece at after = record {
  place = omega (arith, past-place at piece, after.place, length-append before piece);
  line = omega (arith, past-line at piece, after.line, sum_by-append (λ b. cond (nat_eq 10 b) 1 0) before piece);
  fresh =
      past-fresh at piece ∙ ap (λ (fresh : Bool). fold (λ begins byte. is_line_feed byte) fresh piece) after.fresh
      ∙ sym (fold-append (λ begins byte. is_line_feed byte) true before piece);
}

token-after : (before : List ℕ) (at : Position) (lexeme : Lexeme) → IsAfter before at → token_at at lexeme ≡ token before lexeme
token-after before at lexeme after =
    let T : ℕ → ℕ → Token = λ place line. record { lexeme = lexeme; place = place; line = record { 0 = line } } in
    ap (λ (place : ℕ). T place at.line) after.place ∙ ap (T (length before)) after.line

-- ---- what follows

-- an answer behind tokens, each joined to those before it
abbrev pub onto : List Token → Lexed → Lexed
onto tokens (Spelled more) = Spelled (fold with_next tokens more)
onto tokens (Broken rule place) = Broken rule place

-- the source was read up to a position, with these tokens, and this is the rest
pub record Follows (source : List ℕ) (tokens : List Token) (at : Position) (rest : List ℕ) : Type 0 where
  pub before : List ℕ
  pub after : IsAfter before at
  pub whole : (answer : Lexed) → Spells before rest answer → Reads source (onto tokens answer)

module _ {source : List ℕ} where
  pub follows-start : length source ≤ 1048576 → Follows source [] (record { place = 0; line = 1; begins_line = true }) source
  follows-start within = record { before = []; after = record { place = refl; line = refl; fresh = refl }; whole = from }
    where
      from : (answer : Lexed) → Spells [] source answer → Reads source (onto [] answer)
      from (Spelled tokens) spelled = reads within spelled
      from (Broken rule place) spelled = reads within spelled

split_at : (size : ℕ) (all : List ℕ) → all ≡ take size all ++ drop size all
split_at size all = sym (take-append-drop size all)

-- the piece of so many bytes in front, by the item that was found
separated : {front : Piece} {all : List ℕ} {size : ℕ} → IsItem front all (item.Skipped size) → IsWithin front all → (front ≡ Separator size) × (size ≤ length all)
separated {all = all} (is_piece e) within = let w = subst (λ p. IsWithin p all) e within in (e, w.within)
separated (is_text e found) within = elim found [ ]

written : {front : Piece} {all : List ℕ} {lexeme : Lexeme} {size : ℕ} → IsItem front all (item.Lexeme lexeme size) → IsWithin front all
    → Writes front (take size all) (drop size all) lexeme × (size ≤ length all)
written {all = all} {lexeme = lexeme} {size = size} (is_piece e) within =
    let w = subst (λ p. IsWithin p all) e within in
    (lexeme_writes (e ∙ ap (LexemePiece lexeme) (sym (length-take-le size all w.within))), w.within)
written {all = all} (is_text e (closed bytes size within d)) _ =
    (text_writes e (subst (λ (bs : List ℕ). Content (drop 1 bs) bytes (drop size all)) (split_at size all) d), within)

broken : {front : Piece} {all : List ℕ} {rule : Rule} → IsItem front all (item.Fault rule) → Breaks front all rule
broken (is_piece e) = piece_breaks e
broken (is_text e (unclosed none)) = text_breaks e none

module _ {source : List ℕ} {tokens : List Token} {at : Position} {rest : List ℕ} (follows : Follows source tokens at rest) where
  front_is : piece at.begins_line rest ≡ piece (begins_line follows.before) rest
  front_is = ap (λ (b : Bool). piece b rest) follows.after.fresh

  pub follows-passes : (size : ℕ) → IsItem (piece at.begins_line rest) rest (item.Skipped size)
      → Follows source tokens (past at (take size rest)) (drop size rest) × (size ≤ length rest)
  follows-passes size found =
      let is = separated found (within-piece at.begins_line rest) in (
        record {
          before = follows.before ++ take size rest;
          after = after-past follows.before (take size rest) at follows.after;
          whole = λ answer spelled.
              follows.whole answer (passes (take size rest) (drop size rest) (split_at size rest) (sym front_is ∙ is.0 ∙ ap Separator (sym (length-take-le size rest is.1))) spelled);
        },
        is.1,
      )

  pub follows-gives : (lexeme : Lexeme) (size : ℕ) → IsItem (piece at.begins_line rest) rest (item.Lexeme lexeme size)
      → Follows source (with_next tokens (token_at at lexeme)) (past at (take size rest)) (drop size rest) × (size ≤ length rest)
  follows-gives lexeme size found =
      (record { before = follows.before ++ take size rest; after = after-past follows.before (take size rest) at follows.after; whole = from }, is.1)
    where
      is : Writes (piece at.begins_line rest) (take size rest) (drop size rest) lexeme × (size ≤ length rest)
      is = written found (within-piece at.begins_line rest)

      here : Writes (piece (begins_line follows.before) rest) (take size rest) (drop size rest) lexeme
      here = subst (λ (front : Piece). Writes front (take size rest) (drop size rest) lexeme) front_is is.0

      same : token follows.before lexeme ≡ token_at at lexeme
      same = sym (token-after follows.before at lexeme follows.after)

      from : (answer : Lexed) → Spells (follows.before ++ take size rest) (drop size rest) answer → Reads source (onto (with_next tokens (token_at at lexeme)) answer)
      from (Spelled more) spelled =
          subst (λ (t : Token). Reads source (onto (with_next tokens t) (Spelled more))) same
          (follows.whole (Spelled (token follows.before lexeme ∷ more)) (gives lexeme (take size rest) (drop size rest) (split_at size rest) here spelled))
      from (Broken rule place) spelled = follows.whole (Broken rule place) (gives lexeme (take size rest) (drop size rest) (split_at size rest) here spelled)

  pub follows-ends : rest ≡ [] → Reads source (Spelled (with_next tokens (token_at at (bare k.EndOfSource))))
  follows-ends none =
      subst (λ (t : Token). Reads source (Spelled (with_next tokens t))) (sym (token-after follows.before at (bare k.EndOfSource) follows.after))
      (follows.whole (Spelled (token follows.before (bare k.EndOfSource) ∷ []))
      (subst (λ (r : List ℕ). Spells follows.before r (Spelled (token follows.before (bare k.EndOfSource) ∷ []))) (sym none) ends))

  pub follows-breaks : (rule : Rule) → IsItem (piece at.begins_line rest) rest (item.Fault rule) → Reads source (Broken rule at.place)
  follows-breaks rule found =
      subst (λ (place : ℕ). Reads source (Broken rule place)) (sym follows.after.place)
      (follows.whole (Broken rule (length follows.before)) (breaks rule (subst (λ (front : Piece). Breaks front rest rule) front_is (broken found))))

-- an item has some bytes, and no lexeme is the end of the source

pub passed-some : (fresh : Bool) (all : List ℕ) (size : ℕ) → IsItem (piece fresh all) all (item.Skipped size) → 0 < size
passed-some fresh all size (is_piece e) = let w = subst (λ p. IsWithin p all) e (within-piece fresh all) in w.some
passed-some fresh all size (is_text e found) = elim found [ ]

pub given-some : (fresh : Bool) (all : List ℕ) (lexeme : Lexeme) (size : ℕ) → IsItem (piece fresh all) all (item.Lexeme lexeme size) → 0 < size
given-some fresh all lexeme size found =
    let is = written found (within-piece fresh all) in
    omega (arith, lexeme-some fresh all (take size all) (drop size all) is.0, length-take-le size all is.1)

pub given-inside : (fresh : Bool) (all : List ℕ) (lexeme : Lexeme) (size : ℕ) → IsItem (piece fresh all) all (item.Lexeme lexeme size) → IsNoEnd lexeme.kind
given-inside fresh all lexeme size found = no_end-written fresh all (written found (within-piece fresh all)).0

pub none_left : (all : List ℕ) → length all ≡ 0 → all ≡ []
none_left [] so = refl
none_left (byte ∷ rest) so = absurd (omega arith)

-- the same facts at equal values
pub follows-same : {source : List ℕ} {tokens more : List Token} {at next : Position} {rest left : List ℕ}
    → Follows source tokens at rest → more ≡ tokens → next ≡ at → left ≡ rest → Follows source more next left
follows-same {source} {tokens} {more} {at} {next} {rest} {left} follows same_tokens same_at same_rest =
    subst (λ (ts : List Token). Follows source ts next left) (sym same_tokens)
    (subst (λ (p : Position). Follows source tokens p left) (sym same_at)
    (subst (λ (bs : List ℕ). Follows source tokens at bs) (sym same_rest) follows))

-- an answer that a source reads as is its only one
pub exact : {A : Type 0} (items : A → List Token) (source : List ℕ) (result : Result A LexRefusal)
    → MatchResult result (λ tokens. Reads source (Spelled (items tokens))) (Refuses source)
    → (answer : Lexed) → Reads source answer → MatchResult result (λ tokens. answer ≡ Spelled (items tokens)) (Refused answer)
exact items source (Ok tokens) sound answer reading = one_reading reading sound
exact items source (Err (refusal.Broken rule place)) sound answer reading = one_reading reading sound
exact items source (Err refusal.Memory) sound answer reading = tt
