-- The tokens that a source spells end once, and are no more than its bytes and one.
use Rattle.std.proofs.Common.{◌≡◌, ◌≤◌, ◌<◌, ◌+◌, ◌-◌, ℕ, false, List, [], ◌∷◌, ◌++◌, length, get_or, refl, sym, ap, ◌∙◌, subst, arith}
use Rattle.std.proofs.lemmas.Bool.{false≢true}
use Rattle.std.proofs.lemmas.List.{get_or_append_left, length-append}
use Rattle.std.proofs.lemmas.List.Elements.{All-cons, All-head, All-nil, All-tail}
use Rattle.std.proofs.Math.Seq.{get_or-append_seam}
use Rattle.std.specs.List.{All, fold}
use Rattle.std.specs.Prelude.{◌^◌}
use native.Mathlib.Decide.{dec_lt}
use Rattle.sim_base.specs.Lexeme.{bare}
use Rattle.sim_base.specs.declared.token.Token.{Token}
use Rattle.sim_base.specs.declared.token.TokenKind.{TokenKind}
use Rattle.sim_base.specs.declared.token.TokenKind.TheVariants as k
use Rattle.sim_lexer.specs.Claims.{IsEnded as EndsSource, IsNoEnd}
use Rattle.sim_lexer.specs.Spelling.{Broken, Lexed, Reads, Spelled, Spells, begins_line, breaks, ends, gives, joined, passes, reads, token, too_long, with_joined, with_next, with_token}
use Rattle.sim_lexer.proofs.JoiningLemmas.{end_behind, few}
use Rattle.sim_lexer.proofs.NoEnd.{inside-next, no_end-written}
use Rattle.sim_lexer.proofs.PiecesWithin.{lexeme-some}
use Rattle.sim_tree.specs.Grammar.{is}
use Rattle.sim_tree.specs.Reading.{finish, kind_at}
use Rattle.sim_readings.specs.Readable.{EndsOnce, SourceOutcome, TreeOrFault, fault, faulty, misspelt, program, tree}
use Rattle.sim_readings.proofs.Programs.{tree_or_fault}

abbrev IsInside : Token → Type 0
IsInside x = IsNoEnd x.lexeme.kind

-- ---- the tokens before neighbours are joined

abbrev Ended : List Token → ℕ → Type 0
Ended ws most = EndsSource ws × (length ws ≤ most + 1)

in_front : (x : Token) (ws : List Token) (most : ℕ) → IsInside x → Ended ws most → Ended (x ∷ ws) (most + 1)
in_front x ws most inside e = (
  record {
    before = x ∷ e.0.before;
    last = e.0.last;
    split = ap (λ (l : List Token). x ∷ l) e.0.split;
    end = e.0.end;
    only = All-cons IsInside x e.0.before inside e.0.only;
  },
  omega (arith, e.1),
)

alone : (x : Token) (most : ℕ) → x.lexeme.kind ≡ k.EndOfSource → Ended (x ∷ []) most
alone x most end = (record { before = []; last = x; split = refl; end = end; only = All-nil IsInside }, omega arith)

more : (ws : List Token) (few_bytes bytes : ℕ) → few_bytes ≤ bytes → Ended ws few_bytes → Ended ws bytes
more ws few_bytes bytes less e = (e.0, omega (arith, less, e.1))

at_tokens : {ws vs : List Token} (most : ℕ) → Spelled vs ≡ Spelled ws → Ended vs most → Ended ws most
at_tokens {ws = ws} {vs = vs} most e ended = let same : vs ≡ ws = cc in subst (λ l. Ended l most) same ended

spelt : {before all : List ℕ} {answer : Lexed} → Spells before all answer → (ws : List Token) → answer ≡ Spelled ws → Ended ws (length all)
spelt (ends {before = before}) ws e = at_tokens 0 e (alone (token before (bare k.EndOfSource)) 0 refl)
spelt {all = all} (passes separator rest split is next) ws e =
    more ws (length rest) (length all) (omega (arith, ap length split, length-append separator rest)) (spelt next ws e)
spelt {before = before} {all = all} (gives {answer = answer} lexeme written rest split writes next) ws e = by_answer answer e (λ vs same. spelt next vs same) refl
  where
    by_answer : (a : Lexed) → with_token (token before lexeme) a ≡ Spelled ws → ((vs : List Token) → answer ≡ Spelled vs → Ended vs (length rest)) → answer ≡ a → Ended ws (length all)
    by_answer (Spelled vs) h rec same =
        let inside : IsNoEnd lexeme.kind = no_end-written (begins_line before) all writes in
        let some = lexeme-some (begins_line before) all written rest writes in
        at_tokens (length all) h (more (token before lexeme ∷ vs) (length rest + 1) (length all) (omega (arith, some, ap length split, length-append written rest)) (in_front (token before lexeme) vs (length rest) inside (rec vs same)))
    by_answer (Broken rule place) h rec same = absurd (cc)
spelt (breaks rule is) ws e = absurd (cc)

-- ---- neighbours joined

folded_last : (front : List Token) (now : List Token) (last : Token) → fold with_next now (front ++ last ∷ []) ≡ with_next (fold with_next now front) last
folded_last [] now last = refl
folded_last (x ∷ front) now last = folded_last front (with_next now x) last

folded_inside : (front now : List Token) → All IsInside now → All IsInside front → All IsInside (fold with_next now front)
folded_inside [] now inside all = inside
folded_inside (x ∷ front) now inside all = folded_inside front (with_next now x) (inside-next now x inside (All-head IsInside x front all)) (All-tail IsInside x front all)

folded_few : (front now : List Token) → length (fold with_next now front) ≤ length now + length front
folded_few [] now = omega arith
folded_few (x ∷ front) now = omega (arith, folded_few front (with_next now x), few now x)

joined_ended : (ws : List Token) (most : ℕ) → Ended ws most → Ended (joined ws) most
joined_ended ws most e =
    let front = fold with_next [] e.0.before in (
      record {
        before = front;
        last = e.0.last;
        split = ap joined e.0.split ∙ folded_last e.0.before [] e.0.last ∙ end_behind front e.0.last e.0.end;
        end = e.0.end;
        only = folded_inside e.0.before [] (All-nil IsInside) e.0.only;
      },
      omega (arith, e.1, folded_few ws []),
    )

read : {source : List ℕ} {a : Lexed} → Reads source a → (ws : List Token) → a ≡ Spelled ws → EndsSource ws × (length ws < 2 ^ 32)
read (too_long long) ws e = absurd (cc)
read {source = source} (reads {answer = answer} short spelled) ws e = by_answer answer e (λ vs same. spelt spelled vs same) refl
  where
    by_answer : (a : Lexed) → with_joined a ≡ Spelled ws → ((vs : List Token) → answer ≡ Spelled vs → Ended vs (length source)) → answer ≡ a → EndsSource ws × (length ws < 2 ^ 32)
    by_answer (Spelled vs) h rec same = let all = at_tokens (length source) h (joined_ended vs (length source) (rec vs same)) in (all.0, omega (arith, all.1, short))
    by_answer (Broken rule place) h rec same = absurd (cc)

-- ---- the same in the words of the grammar

inside_kind : (kind : TokenKind) → IsNoEnd kind → is k.EndOfSource kind ≡ false
unfolding is
inside_kind k.EndOfSource inside = absurd inside
inside_kind _ inside = refl

module _ (tokens : List Token) (e : EndsSource tokens) where
  size : length tokens ≡ length e.before + 1
  size = ap length e.split ∙ length-append e.before (e.last ∷ [])

  last : kind_at tokens (length tokens - 1) ≡ k.EndOfSource
  unfolding kind_at
  last =
      let at : length tokens - 1 ≡ length e.before = omega (arith, size) in
      ap (λ i. (get_or tokens i finish).lexeme.kind) at
      ∙ ap (λ (l : List Token). (get_or l (length e.before) finish).lexeme.kind) e.split
      ∙ ap (λ (x : Token). x.lexeme.kind) (get_or-append_seam e.before e.last [] finish)
      ∙ e.end

  no_other : (i : ℕ) → i < length e.before → kind_at tokens i ≡ k.EndOfSource → ⊥
  unfolding kind_at is
  no_other i within at =
      let same : get_or tokens i finish ≡ get_or e.before i finish = ap (λ (l : List Token). get_or l i finish) e.split ∙ get_or_append_left e.before (e.last ∷ []) finish i within in
      false≢true
      (sym (inside_kind (get_or e.before i finish).lexeme.kind (e.only i finish within))
      ∙ sym (ap (λ (x : Token). is k.EndOfSource x.lexeme.kind) same) ∙ ap (is k.EndOfSource) at)

  only : (i : ℕ) → i < length tokens → kind_at tokens i ≡ k.EndOfSource → i + 1 ≡ length tokens
  only i within at = by_place (dec_lt i (length e.before))
    where
      by_place : Dec (i < length e.before) → i + 1 ≡ length tokens
      by_place (yes lt) = absurd (no_other i lt at)
      by_place (no h) = omega (arith, h, within, size)

  pub ends_once : EndsOnce tokens
  ends_once = record { ended = record { some = omega (arith, size); last = last }; only = only }

pub tokens_end : (source : List ℕ) (ws : List Token) → Reads source (Spelled ws) → EndsOnce ws × (length ws < 2 ^ 32)
tokens_end source ws r = let e = read r ws refl in (ends_once ws e.0, e.1)

pub outcome : (source : List ℕ) (answer : Lexed) → Reads source answer → SourceOutcome source
outcome source (Broken rule place) r = misspelt rule place r
outcome source (Spelled ws) r = let e = tokens_end source ws r in by_tokens (tree_or_fault ws e.0 e.1)
  where
    by_tokens : TreeOrFault ws → SourceOutcome source
    by_tokens (tree p is) = program ws p r is
    by_tokens (fault x fails) = faulty ws x r fails
