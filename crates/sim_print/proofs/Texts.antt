-- What was laid out token by token is the text of the tokens.
use Rattle.std.proofs.Common.{◌≡◌, ◌≤◌, ◌+◌, ◌-◌, ◌*◌, ℕ, Bool, true, false, List, [], ◌∷◌, ◌++◌, Some, refl, ap, ◌∙◌, length, take, arith, append_assoc}
use Rattle.std.specs.Prelude.{replicate, if◌then◌else◌}
use Rattle.std.specs.List.{fold}
use Rattle.std.proofs.lemmas.List.{length-replicate, replicate-append-replicate, take-replicate}
use Rattle.sim_base.specs.declared.token.Lexeme.{Lexeme}
use Rattle.sim_base.specs.declared.token.TokenKind.{TokenKind}
use Rattle.sim_print.specs.Laid.{LaidOut, closed, laid, nothing, opened}
use Rattle.sim_print.specs.Layout.{behind, between, is_begin, is_end, line_of, open_at, open_behind, text_of}
use Rattle.sim_print.specs.Spelling.{spelling}

-- the blanks of so many depth `begin`
abbrev margin_of : ℕ → List ℕ
margin_of depth = replicate (2 * depth) 32

shorter : (depth : ℕ) → take (length (margin_of depth) - 2) (margin_of depth) ≡ margin_of (depth - 1)
shorter depth =
    let len = length-replicate (2 * depth) 32 in
    let less : 2 * depth - 2 ≤ 2 * depth = omega arith in
    let half : 2 * depth - 2 ≡ 2 * (depth - 1) = omega arith in
    ap (λ n. take (n - 2) (margin_of depth)) len ∙ take-replicate (2 * depth - 2) (2 * depth) 32 less ∙ ap (λ n. replicate n 32) half

longer : (depth : ℕ) → margin_of depth ++ (32 ∷ 32 ∷ []) ≡ margin_of (depth + 1)
longer depth =
    let more : 2 * depth + 2 ≡ 2 * (depth + 1) = omega arith in
    replicate-append-replicate (2 * depth) 2 32 ∙ ap (λ n. replicate n 32) more

closed_is : (kind : TokenKind) (depth : ℕ) → closed kind (margin_of depth) ≡ margin_of (open_at kind depth)
closed_is kind depth = by_test (is_end kind)
  where
    by_test : (b : Bool) → (if b then take (length (margin_of depth) - 2) (margin_of depth) else margin_of depth) ≡ margin_of (if b then depth - 1 else depth)
    by_test true = shorter depth
    by_test false = refl

opened_is : (kind : TokenKind) (depth : ℕ) → opened kind (margin_of depth) ≡ margin_of (open_behind kind depth)
opened_is kind depth = by_test (is_begin kind)
  where
    by_test : (b : Bool) → (if b then margin_of depth ++ (32 ∷ 32 ∷ []) else margin_of depth) ≡ margin_of (if b then depth + 1 else depth)
    by_test true = longer depth
    by_test false = refl

abbrev state : List ℕ → ℕ → TokenKind → LaidOut
state text depth last = record { text = text; margin = margin_of depth; last = Some last }

one_more : (text : List ℕ) (depth : ℕ) (last : TokenKind) (x : Lexeme)
    → laid (state text depth last) x ≡ state (text ++ (between (line_of (open_at x.kind depth)) last x.kind ++ spelling x)) (open_behind x.kind (open_at x.kind depth)) x.kind
unfolding laid
one_more text depth last x =
    ap (λ m. let p : LaidOut = record { text = text ++ (between (10 ∷ m) last x.kind ++ spelling x); margin = opened x.kind m; last = Some x.kind } in p) (closed_is x.kind depth)
    ∙ ap (λ m. let p : LaidOut = record { text = text ++ (between (line_of (open_at x.kind depth)) last x.kind ++ spelling x); margin = m; last = Some x.kind } in p) (opened_is x.kind (open_at x.kind depth))

lays_out : (text : List ℕ) (depth : ℕ) (last : TokenKind) (xs : List Lexeme) → (fold laid (state text depth last) xs).text ++ (10 ∷ []) ≡ text ++ behind depth last xs
lays_out text depth last [] = refl
lays_out text depth last (x ∷ xs) =
    let at = open_at x.kind depth in
    let gap = between (line_of at) last x.kind in
    let rest = behind (open_behind x.kind at) x.kind xs in
    ap (λ p. (fold laid p xs).text ++ (10 ∷ [])) (one_more text depth last x)
    ∙ lays_out (text ++ (gap ++ spelling x)) (open_behind x.kind at) x.kind xs
    ∙ append_assoc text (gap ++ spelling x) rest
    ∙ ap (λ z. text ++ z) (append_assoc gap (spelling x) rest)

first : (x : Lexeme) → laid nothing x ≡ state (spelling x) (open_behind x.kind 0) x.kind
unfolding laid
first x =
    ap (λ m. let p : LaidOut = record { text = spelling x; margin = opened x.kind m; last = Some x.kind } in p) (closed_is x.kind 0 ∙ ap margin_of (none_open (is_end x.kind)))
    ∙ ap (λ m. let p : LaidOut = record { text = spelling x; margin = m; last = Some x.kind } in p) (opened_is x.kind 0)
  where
    none_open : (b : Bool) → (if b then 0 - 1 else 0) ≡ 0
    none_open true = refl
    none_open false = refl

pub whole_text : (xs : List Lexeme) → (fold laid nothing xs).text ++ (10 ∷ []) ≡ text_of xs
whole_text [] = refl
whole_text (x ∷ xs) = ap (λ p. (fold laid p xs).text ++ (10 ∷ [])) (first x) ∙ lays_out (spelling x) (open_behind x.kind 0) x.kind xs
