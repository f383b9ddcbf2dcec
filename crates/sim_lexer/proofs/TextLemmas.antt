-- Text constants, read piece by piece.
use Rattle.std.proofs.Common.{◌≡◌, ℕ, ◌+◌, ◌≤◌, ◌<◌, Bool, true, false, List, [], ◌∷◌, ◌++◌, zero, suc, Option, Some, None, refl, ap, sym, ◌∙◌, subst, drop, length, length-drop, arith, append_assoc}
use Rattle.std.proofs.lemmas.Bool.{false≢true}
use Rattle.std.proofs.lemmas.Bool.Decides.{nat_tests}
use Rattle.std.proofs.lemmas.List.{drop-drop}
use Rattle.std.specs.List.{prefix_len, take_while}
use Rattle.std.specs.Prelude.{if◌then◌else◌, nat_eq, nat_lt, ◌||◌, not, slice_index}
use Rattle.sim_lexer.specs.Bytes.{is_digit_of, is_text_byte}
use Rattle.sim_lexer.specs.Constants.{Code, closed_form, code_form, number_value}
use Rattle.sim_lexer.specs.Scanning.{text_byte, text_piece}
use Rattle.sim_lexer.specs.Texts.{Content, closes, doubled, coded, plain}
use Rattle.sim_lexer.specs.declared.texts.TextPiece.{TextPiece}
use Rattle.sim_lexer.specs.declared.texts.TextPiece.TheVariants.{Closing, Means, Bad}

-- ---- which piece stands in front, by the case of the constant

closes-piece : (quote : ℕ) (rest : List ℕ) → nat_eq quote 34 ≡ true → nat_eq (slice_index rest 0) 34 ≡ false → text_piece (quote ∷ rest) ≡ Closing
closes-piece quote rest q n =
    ap (λ b. if b then (if nat_eq (slice_index rest 0) 34 then Means 34 2 else Closing) else text_byte (code_form (quote ∷ rest)) quote) q
    ∙ ap (λ b. if b then Means 34 2 else Closing) n

doubled-piece : (quote second : ℕ) (all : List ℕ) → nat_eq quote 34 ≡ true → nat_eq second 34 ≡ true → text_piece (quote ∷ second ∷ all) ≡ Means 34 2
doubled-piece quote second all q s =
    ap (λ b. if b then (if nat_eq second 34 then Means 34 2 else Closing) else text_byte (code_form (quote ∷ second ∷ all)) quote) q
    ∙ ap (λ b. if b then Means 34 2 else Closing) s

mark_no_quote : (byte : ℕ) → nat_eq byte 33 ≡ true → nat_eq byte 34 ≡ false
mark_no_quote byte mark = grind (arith, nat_tests)

code_no_quote : (byte : ℕ) (rest : List ℕ) (code : Code) → code_form (byte ∷ rest) ≡ Some code → nat_eq byte 34 ≡ false
code_no_quote byte rest code is = by (nat_eq byte 33) refl is
  where
    by : (b : Bool) → nat_eq byte 33 ≡ b
        → (if b then closed_form (take_while (is_digit_of 10) rest) (slice_index rest (prefix_len (is_digit_of 10) rest)) else None) ≡ Some code → nat_eq byte 34 ≡ false
    by true mark so = mark_no_quote byte mark
    by false other so = cc

no_quote-piece : (byte : ℕ) (rest : List ℕ) → nat_eq byte 34 ≡ false → text_piece (byte ∷ rest) ≡ text_byte (code_form (byte ∷ rest)) byte
no_quote-piece byte rest n =
    ap (λ b. if b then (if nat_eq (slice_index rest 0) 34 then Means 34 2 else Closing) else text_byte (code_form (byte ∷ rest)) byte) n

coded-piece : (all : List ℕ) (code : Code) → code_form all ≡ Some code → text_piece all ≡ Means code.byte code.size
coded-piece [] code is = cc
coded-piece (byte ∷ rest) code is = no_quote-piece byte rest (code_no_quote byte rest code is) ∙ ap (λ form. text_byte form byte) is

plain-piece : (byte : ℕ) (all : List ℕ) → nat_eq byte 34 ≡ false → code_form (byte ∷ all) ≡ None → is_text_byte byte ≡ true → text_piece (byte ∷ all) ≡ Means byte 1
plain-piece byte all n none text =
    no_quote-piece byte all n ∙ ap (λ form. text_byte form byte) none ∙ ap (λ b. if b then Means byte 1 else Bad) text

-- ---- a constant by the piece in front

abbrev pub ByPiece : TextPiece → (all bytes rest : List ℕ) → Type 0
ByPiece Closing all bytes rest = (bytes ≡ []) × (rest ≡ drop 1 all)
ByPiece (Means byte size) all bytes rest = (more : List ℕ) × (bytes ≡ byte ∷ more) × Content (drop size all) more rest
ByPiece Bad all bytes rest = ⊥

at_piece : (p : TextPiece) (all bytes rest : List ℕ) → text_piece all ≡ p → ByPiece p all bytes rest → ByPiece (text_piece all) all bytes rest
at_piece p all bytes rest is by = subst (λ q. ByPiece q all bytes rest) (sym is) by

pub by_piece : {all bytes rest : List ℕ} → Content all bytes rest → ByPiece (text_piece all) all bytes rest
by_piece {rest = rest} (closes {quote = quote} q n) = at_piece Closing (quote ∷ rest) [] rest (closes-piece quote rest q n) (refl, refl)
by_piece {rest = rest} (doubled {quote = quote} {second = second} {all = all} {bytes = bytes} q s d) =
    at_piece (Means 34 2) (quote ∷ second ∷ all) (34 ∷ bytes) rest (doubled-piece quote second all q s) (bytes, refl, d)
by_piece {all = all} {rest = rest} (coded {bytes = bytes} code is d) =
    at_piece (Means code.byte code.size) all (code.byte ∷ bytes) rest (coded-piece all code is) (bytes, refl, d)
by_piece {rest = rest} (plain {byte = byte} {all = all} {bytes = bytes} n none text d) =
    at_piece (Means byte 1) (byte ∷ all) (byte ∷ bytes) rest (plain-piece byte all n none text) (bytes, refl, d)

quoted : (quote : ℕ) (rest bytes left : List ℕ) (second : Bool) → nat_eq quote 34 ≡ true → nat_eq (slice_index rest 0) 34 ≡ second
    → ByPiece (if second then Means 34 2 else Closing) (quote ∷ rest) bytes left → Content (quote ∷ rest) bytes left
quoted quote rest bytes left false q n by =
    subst (λ (bs : List ℕ). Content (quote ∷ rest) bs left) (sym by.0) (subst (λ (r : List ℕ). Content (quote ∷ rest) [] r) (sym by.1) (closes q n))
quoted quote [] bytes left true q s by = absurd (false≢true s)
quoted quote (second ∷ rest) bytes left true q s (more, is, d) = subst (λ (bs : List ℕ). Content (quote ∷ second ∷ rest) bs left) (sym is) (doubled q s d)

unquoted : (byte : ℕ) (rest bytes left : List ℕ) (form : Option Code) (text : Bool) → nat_eq byte 34 ≡ false → code_form (byte ∷ rest) ≡ form → is_text_byte byte ≡ text
    → ByPiece (text_byte form byte) (byte ∷ rest) bytes left → Content (byte ∷ rest) bytes left
unquoted byte rest bytes left (Some code) text n is t (more, same, d) = subst (λ (bs : List ℕ). Content (byte ∷ rest) bs left) (sym same) (coded code is d)
unquoted byte rest bytes left None true n none t by =
    let piece : ByPiece (Means byte 1) (byte ∷ rest) bytes left = subst (λ b. ByPiece (if b then Means byte 1 else Bad) (byte ∷ rest) bytes left) t by in
    subst (λ (bs : List ℕ). Content (byte ∷ rest) bs left) (sym piece.1) (plain n none t piece.2)
unquoted byte rest bytes left None false n none t by = absurd (subst (λ b. ByPiece (if b then Means byte 1 else Bad) (byte ∷ rest) bytes left) t by)

pub from_piece : (all bytes rest : List ℕ) → ByPiece (text_piece all) all bytes rest → Content all bytes rest
from_piece [] bytes rest by = absurd by
from_piece (byte ∷ all) bytes rest by = by_quote (nat_eq byte 34) refl by
  where
    by_quote : (b : Bool) → nat_eq byte 34 ≡ b
        → ByPiece (if b then (if nat_eq (slice_index all 0) 34 then Means 34 2 else Closing) else text_byte (code_form (byte ∷ all)) byte) (byte ∷ all) bytes rest
        → Content (byte ∷ all) bytes rest
    by_quote true q p = quoted byte all bytes rest (nat_eq (slice_index all 0) 34) q refl p
    by_quote false n p = unquoted byte all bytes rest (code_form (byte ∷ all)) (is_text_byte byte) n refl refl p

-- the same where the piece is known
pub known_piece : {all bytes rest : List ℕ} {p : TextPiece} → text_piece all ≡ p → Content all bytes rest → ByPiece p all bytes rest
known_piece {all = all} {bytes = bytes} {rest = rest} is d = subst (λ q. ByPiece q all bytes rest) is (by_piece d)

pub of_piece : {all bytes rest : List ℕ} {p : TextPiece} → text_piece all ≡ p → ByPiece p all bytes rest → Content all bytes rest
of_piece {all = all} {bytes = bytes} {rest = rest} {p = p} is by = from_piece all bytes rest (at_piece p all bytes rest is by)

-- ---- a constant means one list of bytes, and ends at one place

pub one_content : {all b c r s : List ℕ} → Content all b r → Content all c s → (b ≡ c) × (r ≡ s)
one_content {r = r} (closes {quote = quote} q n) d = let by = known_piece (closes-piece quote r q n) d in (sym by.0, sym by.1)
one_content (doubled {quote = quote} {second = second} {all = all} q s d) e =
    let by = known_piece (doubled-piece quote second all q s) e in
    let same = one_content d by.2 in (ap (λ (bs : List ℕ). 34 ∷ bs) same.0 ∙ sym by.1, same.1)
one_content {all = all} (coded code is d) e =
    let by = known_piece (coded-piece all code is) e in
    let same = one_content d by.2 in (ap (λ (bs : List ℕ). code.byte ∷ bs) same.0 ∙ sym by.1, same.1)
one_content (plain {byte = byte} {all = all} n none text d) e =
    let by = known_piece (plain-piece byte all n none text) e in
    let same = one_content d by.2 in (ap (λ (bs : List ℕ). byte ∷ bs) same.0 ∙ sym by.1, same.1)

-- its closing quote stands in the source
pub content_within : {all bytes rest : List ℕ} → Content all bytes rest → length rest < length all
content_within (closes q n) = omega arith
content_within (doubled q s d) = omega (arith, content_within d)
content_within {all = all} (coded code is d) = omega (arith, content_within d, length-drop code.size all)
content_within (plain n none text d) = omega (arith, content_within d)

-- and so do the bytes that write it
record IsBehind (all rest : List ℕ) : Type 0 where
  size : ℕ
  some : 0 < size
  within : size ≤ length all
  is : rest ≡ drop size all

behind_content : {all bytes rest : List ℕ} → Content all bytes rest → IsBehind all rest
behind_content (closes q n) = record { size = 1; some = omega arith; within = omega arith; is = refl }
behind_content (doubled q s d) = let b = behind_content d in record { size = suc (suc b.size); some = omega arith; within = omega (arith, b.within); is = b.is }
behind_content {all = all} (coded code is d) =
    let b = behind_content d in
    record { size = code.size + b.size; some = omega (arith, b.some); within = omega (arith, b.some, b.within, length-drop code.size all); is = b.is ∙ drop-drop b.size code.size all }
behind_content (plain n none text d) = let b = behind_content d in record { size = suc b.size; some = omega arith; within = omega (arith, b.within); is = b.is }

-- the lexeme of a text constant, from its opening quote on
pub record TextLexeme (all bytes rest : List ℕ) : Type 0 where
  pub size : ℕ
  pub some : 0 < size
  pub within : size ≤ length all
  pub content : Content (drop 1 all) bytes (drop size all)

pub text_lexeme : (all bytes rest : List ℕ) → Content (drop 1 all) bytes rest → TextLexeme all bytes rest
text_lexeme all bytes rest d =
    let b = behind_content d in
    record {
      size = 1 + b.size;
      some = omega arith;
      within = omega (arith, b.some, b.within, length-drop 1 all);
      content = subst (λ (r : List ℕ). Content (drop 1 all) bytes r) (b.is ∙ drop-drop b.size 1 all) d;
    }

-- ---- a constant stands there, or none does

pub data ContentOrNone (all : List ℕ) : Type 0 where
  some : (bytes rest : List ℕ) → Content all bytes rest → ContentOrNone all
  none : ((bytes rest : List ℕ) → Content all bytes rest → ⊥) → ContentOrNone all

abbrev SomeBytes : TextPiece → Type 0
SomeBytes Closing = Unit {0}
SomeBytes (Means byte size) = 0 < size
SomeBytes Bad = Unit {0}

code_bytes : (all : List ℕ) (code : Code) → code_form all ≡ Some code → 0 < code.size
code_bytes [] code is = cc
code_bytes (mark ∷ rest) code is = by_mark (nat_eq mark 33) is
  where
    digits : List ℕ
    digits = take_while (is_digit_of 10) rest

    next : ℕ
    next = slice_index rest (prefix_len (is_digit_of 10) rest)

    by_form : (long small : Bool) → (if long then None else if small then Some (record { byte = number_value 10 digits; size = length digits + 2 }) else None) ≡ Some code → 0 < code.size
    by_form true small so = cc
    by_form false true so = let same : length digits + 2 ≡ code.size = ap size_of so in omega (arith, same)
      where
        size_of : Option Code → ℕ
        size_of None = 0
        size_of (Some c) = c.size
    by_form false false so = cc

    by_mark : (b : Bool) → (if b then closed_form digits next else None) ≡ Some code → 0 < code.size
    by_mark true so = by_form (nat_eq (length digits) 0 || nat_lt 3 (length digits) || not (nat_eq next 33)) (nat_lt (number_value 10 digits) 256) so
    by_mark false so = cc

some_bytes : (all : List ℕ) (p : TextPiece) → text_piece all ≡ p → SomeBytes p
some_bytes all p is = subst SomeBytes is (by all)
  where
    by_form : (all : List ℕ) (form : Option Code) (byte : ℕ) (text : Bool) → code_form all ≡ form → is_text_byte byte ≡ text → SomeBytes (text_byte form byte)
    by_form all (Some code) byte text is t = code_bytes all code is
    by_form all None byte text is t = by_text (is_text_byte byte)
      where
        by_text : (b : Bool) → SomeBytes (if b then Means byte 1 else Bad)
        by_text true = omega arith
        by_text false = tt

    by : (all : List ℕ) → SomeBytes (text_piece all)
    by [] = tt
    by (byte ∷ rest) = by_quote (nat_eq byte 34) (nat_eq (slice_index rest 0) 34)
      where
        by_quote : (b second : Bool) → SomeBytes (if b then (if second then Means 34 2 else Closing) else text_byte (code_form (byte ∷ rest)) byte)
        by_quote true true = omega arith
        by_quote true false = tt
        by_quote false second = by_form (byte ∷ rest) (code_form (byte ∷ rest)) byte (is_text_byte byte) refl refl

content_in_front : (all : List ℕ) → ((size : ℕ) → 0 < size → 0 < length all → ContentOrNone (drop size all)) → ContentOrNone all
content_in_front [] shorter = none (λ bytes rest d. by_piece d)
content_in_front (first ∷ others) shorter = by (text_piece (first ∷ others)) refl
  where
    further : (byte size : ℕ) → text_piece (first ∷ others) ≡ Means byte size → ContentOrNone (drop size (first ∷ others)) → ContentOrNone (first ∷ others)
    further byte size is (some bytes rest d) = some (byte ∷ bytes) rest (of_piece is (bytes, refl, d))
    further byte size is (none others_none) = none (λ bytes rest d. let by = known_piece is d in others_none by.0 rest by.2)

    by : (p : TextPiece) → text_piece (first ∷ others) ≡ p → ContentOrNone (first ∷ others)
    by Closing is = some [] others (of_piece is (refl, refl))
    by (Means byte size) is = further byte size is (shorter size (some_bytes (first ∷ others) (Means byte size) is) (omega arith))
    by Bad is = none (λ bytes rest d. known_piece is d)

content_or_none : (most : ℕ) (all : List ℕ) → length all ≤ most → ContentOrNone all
content_or_none zero all short = content_in_front all (λ size some_size some_all. absurd (omega arith))
content_or_none (suc most) all short =
    content_in_front all (λ size some_size some_all. content_or_none most (drop size all) (omega (arith, length-drop size all)))

pub find_content : (all : List ℕ) → ContentOrNone all
find_content all = content_or_none (length all) all (omega arith)

-- ---- a constant of which some pieces were read

pub record AreRead (all bytes behind : List ℕ) : Type 0 where
  pub there : (more rest : List ℕ) → Content behind more rest → Content all (bytes ++ more) rest
  pub back : (whole rest : List ℕ) → Content all whole rest → (more : List ℕ) × (whole ≡ bytes ++ more) × Content behind more rest

pub read-none : (all : List ℕ) → AreRead all [] all
read-none all = record { there = λ more rest d. d; back = λ whole rest d. (whole, refl, d) }

pub read-more : {all bytes behind : List ℕ} {byte size : ℕ} → AreRead all bytes behind → text_piece behind ≡ Means byte size
    → AreRead all (bytes ++ byte ∷ []) (drop size behind)
read-more {all} {bytes} {behind} {byte} {size} r is = record {
  there = λ more rest d. subst (λ (bs : List ℕ). Content all bs rest) (sym (append_assoc bytes (byte ∷ []) more)) (r.there (byte ∷ more) rest (of_piece is (more, refl, d)));
  back = λ whole rest d.
      let before = r.back whole rest d in
      let by = known_piece is before.2 in
      (by.0, before.1 ∙ ap (λ (bs : List ℕ). bytes ++ bs) by.1 ∙ sym (append_assoc bytes (byte ∷ []) by.0), by.2);
}

-- the same facts at equal lists
pub read-same : {all bytes more behind left : List ℕ} → AreRead all bytes behind → more ≡ bytes → left ≡ behind → AreRead all more left
read-same {all} {bytes} {more} {behind} {left} r same also =
    subst (λ (bs : List ℕ). AreRead all bs left) (sym same) (subst (λ (l : List ℕ). AreRead all bytes l) (sym also) r)
