-- Text constants.
use Rattle.std.specs.Prelude.{ℕ, ◌≡◌, List, [], ◌∷◌, Some, None, true, false, drop, nat_eq, slice_index}
use Rattle.sim_lexer.specs.Bytes.{is_text_byte}
use Rattle.sim_lexer.specs.Constants.{Code, code_form}

-- What stands behind the opening quote of a text constant: the bytes that the constant means, and the rest of the source
-- behind its closing quote. A quote with no second one behind it closes; two quotes mean one; a form `!n!` means the byte
-- of that code; and any other byte that a text may hold means itself.
pub data Content : (all bytes rest : List ℕ) → Type 0 where
  closes : {quote : ℕ} {rest : List ℕ} → nat_eq quote 34 ≡ true → nat_eq (slice_index rest 0) 34 ≡ false → Content (quote ∷ rest) [] rest
  doubled : {quote second : ℕ} {all bytes rest : List ℕ} → nat_eq quote 34 ≡ true → nat_eq second 34 ≡ true
      → Content all bytes rest → Content (quote ∷ second ∷ all) (34 ∷ bytes) rest
  coded : {all bytes rest : List ℕ} (code : Code) → code_form all ≡ Some code
      → Content (drop code.size all) bytes rest → Content all (code.byte ∷ bytes) rest
  plain : {byte : ℕ} {all bytes rest : List ℕ} → nat_eq byte 34 ≡ false → code_form (byte ∷ all) ≡ None → is_text_byte byte ≡ true
      → Content all bytes rest → Content (byte ∷ all) (byte ∷ bytes) rest
