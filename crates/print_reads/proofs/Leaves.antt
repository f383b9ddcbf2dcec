-- Where the tokens can be written, so can what a derivation keeps of them.
use Rattle.std.proofs.Common.{◌≡◌, ℕ, ◌<◌, Bool, true, false, List, [], ◌∷◌, ◌++◌, zero, suc, length, refl, arith}
use Rattle.std.proofs.lemmas.Bool.{false≢true}
use Rattle.std.specs.List.{AllByRecursion}
use Rattle.std.specs.Prelude.{nat_lt}
use Rattle.sim_base.specs.Lexeme.{bare, bytes_of, character, character_of, integer_of, named, text, value_for, whole_number}
use Rattle.sim_base.specs.declared.token.Lexeme.{Lexeme}
use Rattle.sim_base.specs.declared.token.Token.{Token}
use Rattle.sim_base.specs.declared.token.TokenKind.{TokenKind}
use Rattle.sim_base.specs.declared.token.TokenKind.TheVariants as k
use Rattle.sim_base.specs.declared.token.TokenValue.{TokenValue}
use Rattle.sim_print.specs.Tokens.{one}
use Rattle.sim_print.specs.Words.{word}
use Rattle.sim_tree.specs.Reading.{Forest, Reads, done, kind_at, leaf, node, place, reads-any, reads-done, reads-here, reads-kept, reads-mark, reads-none, reads-part, reads-skip, value_at}
use Rattle.sim_tree.specs.Grammar.{Symbol}
use Rattle.print_reads.specs.Writable.{CanBeWritten, IsWritable, IsWritableOrEnd, the_end, writable, writes_character, writes_name, writes_number, writes_text, writes_word}
use Rattle.print_reads.proofs.Sources.{below}

pub record AreWritable (xs : List Lexeme) : Type 0 where
  pub all : AllByRecursion IsWritable xs

pub nil : AreWritable []
nil = record { all = tt }

pub single : (x : Lexeme) → IsWritable x → AreWritable (x ∷ [])
single x h = record { all = (h, tt) }

both : (xs ys : List Lexeme) → AllByRecursion IsWritable xs → AllByRecursion IsWritable ys → AllByRecursion IsWritable (xs ++ ys)
both [] ys here there = there
both (x ∷ xs) ys here there = (here.0, both xs ys here.1 there)

pub app : {xs ys : List Lexeme} → AreWritable xs → AreWritable ys → AreWritable (xs ++ ys)
app {xs} {ys} here there = record { all = both xs ys here.all there.all }

-- ---- words and signs

abbrev is_spelled : TokenKind → Bool
is_spelled k.Identifier = false
is_spelled k.Integer = false
is_spelled k.Character = false
is_spelled k.Text = false
is_spelled k.EndOfSource = false
is_spelled kind = true

word_some : (kind : TokenKind) → is_spelled kind ≡ true → nat_lt 0 (length (word kind)) ≡ true
unfolding word
word_some k.Identifier is = absurd (false≢true is)
word_some k.Integer is = absurd (false≢true is)
word_some k.Character is = absurd (false≢true is)
word_some k.Text is = absurd (false≢true is)
word_some k.EndOfSource is = absurd (false≢true is)
word_some _ is = refl

pub w : (kind : TokenKind) → is_spelled kind ≡ true → AreWritable (one kind)
w kind is = single (bare kind) (writes_word kind (below 0 (length (word kind)) (word_some kind is)))

-- ---- what a derivation keeps

-- the value beside a kind can be written
abbrev pub Holds : TokenKind → TokenValue → Type 0
Holds k.Identifier value = IsWritable (named (bytes_of value))
Holds k.Integer value = IsWritable (whole_number (integer_of value))
Holds k.Character value = IsWritable (character (character_of value))
Holds k.Text value = IsWritable (text (bytes_of value))
Holds kind value = Unit {0}

abbrev pub Good : Forest → Type 0
Good done = Unit {0}
Good (leaf i kind value f) = Holds kind value × Good f
Good (place i f) = Good f
Good (node n inside f) = Good inside × Good f

holds-word : (kind : TokenKind) → 0 < length (word kind) → (value : TokenValue) → Holds kind value
unfolding word
holds-word k.Identifier some value = absurd (none some)
  where
    none : 0 < 0 → ⊥
    none h = omega (arith, h)
holds-word k.Integer some value = absurd (none some)
  where
    none : 0 < 0 → ⊥
    none h = omega (arith, h)
holds-word k.Character some value = absurd (none some)
  where
    none : 0 < 0 → ⊥
    none h = omega (arith, h)
holds-word k.Text some value = absurd (none some)
  where
    none : 0 < 0 → ⊥
    none h = omega (arith, h)
holds-word _ some value = tt

holds-lexeme : (x : Lexeme) → IsWritableOrEnd x → Holds x.kind (value_for x.kind x.value)
holds-lexeme x the_end = tt
holds-lexeme x (writable (writes_word kind some)) = holds-word kind some (value_for kind (bare kind).value)
holds-lexeme x (writable (writes_name bytes is)) = writes_name bytes is
holds-lexeme x (writable (writes_number value small)) = writes_number value small
holds-lexeme x (writable (writes_character code small)) = writes_character code small
holds-lexeme x (writable (writes_text bytes small)) = writes_text bytes small

holds-at : (ws : List Token) → AllByRecursion CanBeWritten ws → (i : ℕ) → Holds (kind_at ws i) (value_at ws i)
unfolding kind_at value_at
holds-at [] all i = tt
holds-at (t ∷ ws) all zero = holds-lexeme t.lexeme all.0
holds-at (t ∷ ws) all (suc i) = holds-at ws all.1 i

pub reads-good : {most : ℕ} {ws : List Token} {d i j : ℕ} {s : List Symbol} {f : Forest} → AllByRecursion CanBeWritten ws → Reads most ws d s i f j → Good f
reads-good all reads-done = tt
reads-good {ws = ws} all (reads-kept {start = i} h r) = (holds-at ws all i, reads-good all r)
reads-good all (reads-mark h r) = reads-good all r
reads-good all (reads-any h r) = reads-good all r
reads-good all (reads-none h r) = reads-good all r
reads-good all (reads-here r) = reads-good all r
reads-good all (reads-part b shallow r q) = (reads-good all r, reads-good all q)
reads-good all (reads-skip b may r) = reads-good all r
