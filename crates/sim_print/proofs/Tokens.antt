-- One token more.
use Rattle.std.proofs.Common.{◌≡◌, ℕ, ℤ, List, [], ◌∷◌, ◌++◌, Some, ap, ◌∙◌, append_assoc}
use Rattle.std.specs.Fmt.{signed_decimal}
use Rattle.sim_base.specs.Lexeme.{character, text, whole_number}
use Rattle.sim_base.specs.declared.token.TokenKind.{TokenKind}
use Rattle.sim_base.specs.declared.token.TokenKind.TheVariants as k
use Rattle.sim_tree.specs.declared.expr.Identifier.{Identifier}
use Rattle.sim_print.specs.Laid.{LaidOut, Prints, advanced, closed, gap, laid, opened, put}
use Rattle.sim_print.specs.Spelling.{each, in_character, in_text, spelling}
use Rattle.sim_print.specs.Tokens.{name, one}
use Rattle.sim_print.specs.Words.{word}

-- the margin of the line is set before, and that of the next one behind it
pub put_rule : (p q r t : LaidOut) (kind : TokenKind) (bytes written : List ℕ) → q ≡ record { text = p.text; margin = closed kind p.margin; last = p.last } → r ≡ advanced q kind → written ≡ r.text ++ bytes
    → t ≡ record { text = written; margin = opened kind r.margin; last = r.last } → t ≡ put p kind bytes
unfolding advanced
put_rule p q r t kind bytes written one two three four =
    let margin = closed kind p.margin in
    let front = gap margin p.last kind in
    let there : r ≡ record { text = p.text ++ front; margin = margin; last = Some kind } = two ∙ ap (λ z. advanced z kind) one in
    let all : written ≡ p.text ++ (front ++ bytes) = three ∙ ap (λ (z : LaidOut). z.text ++ bytes) there ∙ append_assoc p.text front bytes in
    four
    ∙ ap (λ w. let z : LaidOut = record { text = w; margin = opened kind r.margin; last = r.last } in z) all
    ∙ ap (λ (m : LaidOut). let z : LaidOut = record { text = p.text ++ (front ++ bytes); margin = opened kind m.margin; last = m.last } in z) there

pub put_word : (p t : LaidOut) (kind : TokenKind) (bytes : List ℕ) → bytes ≡ word kind → t ≡ put p kind bytes → Prints p t (one kind)
unfolding Prints laid spelling
put_word p t kind bytes is h = h ∙ ap (put p kind) is

pub put_name : (p t : LaidOut) (x : Identifier) (bytes : List ℕ) → bytes ≡ x.name → t ≡ put p k.Identifier bytes → Prints p t (name x)
unfolding Prints laid spelling
put_name p t x bytes is h = h ∙ ap (put p k.Identifier) is

pub put_integer : (p t : LaidOut) (number : ℤ) (bytes : List ℕ) → bytes ≡ signed_decimal number → t ≡ put p k.Integer bytes → Prints p t (whole_number number ∷ [])
unfolding Prints laid spelling
put_integer p t number bytes is h = h ∙ ap (put p k.Integer) is

-- a constant between its two marks
constant : (kind : TokenKind) (p r t : LaidOut) (mark : ℕ) (inside one two three : List ℕ) → r ≡ advanced p kind → one ≡ r.text ++ (mark ∷ []) → two ≡ one ++ inside → three ≡ two ++ (mark ∷ [])
    → t ≡ record { text = three; margin = r.margin; last = r.last } → t ≡ record { text = p.text ++ (gap p.margin p.last kind ++ (mark ∷ (inside ++ (mark ∷ [])))); margin = p.margin; last = Some kind }
unfolding advanced
constant kind p r t mark inside one two three start e f g is =
    let front = gap p.margin p.last kind in
    let close = mark ∷ [] in
    let before : r.text ≡ p.text ++ front = ap (λ (z : LaidOut). z.text) start in
    let all : three ≡ p.text ++ (front ++ (mark ∷ (inside ++ close))) =
    g ∙ ap (λ z. z ++ close) (f ∙ ap (λ z. z ++ inside) (e ∙ ap (λ z. z ++ close) before))
    ∙ append_assoc ((p.text ++ front) ++ close) inside close
    ∙ append_assoc (p.text ++ front) close (inside ++ close)
    ∙ append_assoc p.text front (mark ∷ (inside ++ close))
    in
    is
    ∙ ap (λ w. let z : LaidOut = record { text = w; margin = r.margin; last = r.last } in z) all
    ∙ ap (λ (m : LaidOut). let z : LaidOut = record { text = p.text ++ (front ++ (mark ∷ (inside ++ close))); margin = m.margin; last = m.last } in z) start

pub put_character : (p r t : LaidOut) (code : ℕ) (one two three : List ℕ) → r ≡ advanced p k.Character → one ≡ r.text ++ (39 ∷ []) → two ≡ one ++ in_character code → three ≡ two ++ (39 ∷ [])
    → t ≡ record { text = three; margin = r.margin; last = r.last } → Prints p t (character code ∷ [])
unfolding Prints laid spelling
put_character p r t code one two three start e f g is = constant k.Character p r t 39 (in_character code) one two three start e f g is

pub put_text : (p r t : LaidOut) (bytes one two three : List ℕ) → r ≡ advanced p k.Text → one ≡ r.text ++ (34 ∷ []) → two ≡ one ++ each in_text bytes → three ≡ two ++ (34 ∷ [])
    → t ≡ record { text = three; margin = r.margin; last = r.last } → Prints p t (text bytes ∷ [])
unfolding Prints laid spelling
put_text p r t bytes one two three start e f g is = constant k.Text p r t 34 (each in_text bytes) one two three start e f g is

pub ruleset token_rules = (put_rule, put_word, put_name, put_integer, put_character, put_text)
