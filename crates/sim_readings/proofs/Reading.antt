-- Reading by the grammar comes to a derivation or to a fault.
use Rattle.std.proofs.Common.{◌≡◌, ◌≤◌, ◌<◌, ◌⊎◌, inl, inr, ℕ, zero, suc, ◌+◌, Bool, true, false, if◌then◌else◌, List, [], ◌∷◌, length, Option, Some, None, refl, ap, subst, arith}
use Rattle.std.proofs.lemmas.List.{get_or_past}
use Rattle.std.specs.Prelude.{◌&&◌, ◌||◌, not}
use Rattle.sim_base.specs.declared.token.Token.{Token}
use Rattle.sim_tree.proofs.Laws.{reads_ahead}
use Rattle.sim_base.specs.declared.token.TokenKind.{TokenKind}
use Rattle.sim_base.specs.declared.token.TokenKind.TheVariants as k
use Rattle.sim_tree.specs.Claim.{one}
use Rattle.sim_tree.specs.Grammar.{Any, Here, Kept, Many, Mark, Maybe, Of, Once, Part, Symbol, Times, is, one_of, right_side}
use Rattle.sim_tree.specs.Reading.{Forest, Reads, TooDeep, Unexpected, after, after-any, after-here, after-kept, after-mark, after-none, after-part, after-skip, done, fails-deep, fails-inside, fails-kept, fails-mark, fails-part, finish, first_of, inside_depth, is_too_deep, kind_at, leaf, may_skip, node, place, reads-any, reads-done, reads-here, reads-kept, reads-mark, reads-none, reads-part, reads-skip, value_at}
use Rattle.sim_readings.specs.Readable.{ReadsOrFails, fails, reads}
use Rattle.sim_readings.proofs.Table.{advances, at_end, rank, right_fine, surely, takes, weight}

pub split : (a b : ℕ) → (a < b) ⊎ (b ≤ a)
split zero zero = inr (omega arith)
split zero (suc b) = inl (omega arith)
split (suc a) zero = inr (omega arith)
split (suc a) (suc b) = more (split a b)
  where
    more : (a < b) ⊎ (b ≤ a) → (suc a < suc b) ⊎ (suc b ≤ suc a)
    more (inl h) = inl (omega (arith, h))
    more (inr h) = inr (omega (arith, h))

one_or_other : (a b : Bool) → (not a || b) ≡ true → (a ≡ false) ⊎ (b ≡ true)
one_or_other true b e = inr e
one_or_other false b e = inl refl

some_or_other : (a b : Bool) → (a || b) ≡ true → (a ≡ true) ⊎ (b ≡ true)
some_or_other true b e = inl refl
some_or_other false b e = inr e

pub both_true : (a b : Bool) → (a && b) ≡ true → (a ≡ true) × (b ≡ true)
both_true true b e = (refl, e)
both_true false b e = absurd (cc)

module _ (limit : ℕ) (ws : List Token) where
  -- behind the last token there is nothing but ends
  end_at : (i : ℕ) → length ws ≤ i → kind_at ws i ≡ k.EndOfSource
  unfolding kind_at
  end_at i h = ap (λ w. w.lexeme.kind) (get_or_past ws i finish h)

  -- ---- a token is taken

  abbrev Taken : ℕ → ℕ → Type 0
  Taken i m = (i < length ws) × (i < m)

  kept_there : (any : List TokenKind) (i : ℕ) → one_of any (kind_at ws i) ≡ true → at_end any ≡ false → i < length ws
  kept_there any i e none = by_place (split i (length ws))
    where
      by_place : (i < length ws) ⊎ (length ws ≤ i) → i < length ws
      by_place (inl h) = h
      by_place (inr h) = let at : at_end any ≡ true = subst (λ a. one_of any a ≡ true) (end_at i h) e in absurd (cc)

  mark_there : (a : TokenKind) (i : ℕ) → is (kind_at ws i) a ≡ true → is k.EndOfSource a ≡ false → i < length ws
  mark_there a i e none = by_place (split i (length ws))
    where
      by_place : (i < length ws) ⊎ (length ws ≤ i) → i < length ws
      by_place (inl h) = h
      by_place (inr h) = let at : is k.EndOfSource a ≡ true = subst (λ b. is b a ≡ true) (end_at i h) e in absurd (cc)

  pub taken : {d i m : ℕ} {s : List Symbol} {f : Forest} → Reads limit ws d s i f m → surely s ≡ true → Taken i m
  taken reads-done e = absurd (cc)
  taken {i = i} {m = m} (reads-kept {any = any} {s = s} h r) e = by_end (one_or_other (at_end any) (surely s) e) (λ more. taken r more)
    where
      by_end : (at_end any ≡ false) ⊎ (surely s ≡ true) → (surely s ≡ true → Taken (i + 1) m) → Taken i m
      by_end (inl none) more = (kept_there any i h none, omega (arith, reads_ahead limit ws r))
      by_end (inr some) more = let x = more some in (omega (arith, x.0), omega (arith, x.1))
  taken {i = i} {m = m} (reads-mark {a = a} {s = s} h r) e = by_end (one_or_other (is k.EndOfSource a) (surely s) e) (λ more. taken r more)
    where
      by_end : (is k.EndOfSource a ≡ false) ⊎ (surely s ≡ true) → (surely s ≡ true → Taken (i + 1) m) → Taken i m
      by_end (inl none) more = (mark_there a i h none, omega (arith, reads_ahead limit ws r))
      by_end (inr some) more = let x = more some in (omega (arith, x.0), omega (arith, x.1))
  taken (reads-any h r) e = let x = taken r e in (omega (arith, x.0), omega (arith, x.1))
  taken (reads-none h r) e = taken r e
  taken (reads-here r) e = taken r e
  taken {i = i} {m = m} (reads-part {m = middle} {t = Once} {n = n} {right = right} {s = s} b shallow r q) e = by_part (some_or_other (takes n) (surely s) e) (λ more. taken r more) (λ more. taken q more)
    where
      by_part : (takes n ≡ true) ⊎ (surely s ≡ true) → (surely right ≡ true → Taken i middle) → (surely s ≡ true → Taken middle m) → Taken i m
      by_part (inl some) first more = let x = first ((right_fine n (kind_at ws i) right b).taking some) in (x.0, omega (arith, x.1, reads_ahead limit ws q))
      by_part (inr some) first more = let x = more some in (omega (arith, x.0, reads_ahead limit ws r), omega (arith, x.1, reads_ahead limit ws r))
  taken (reads-part {t = Maybe} b shallow r q) e = let x = taken q e in (omega (arith, x.0, reads_ahead limit ws r), omega (arith, x.1, reads_ahead limit ws r))
  taken (reads-part {t = Many} b shallow r q) e = let x = taken q e in (omega (arith, x.0, reads_ahead limit ws r), omega (arith, x.1, reads_ahead limit ws r))
  taken (reads-skip {t = Once} b skip r) e = absurd (cc)
  taken (reads-skip {t = Maybe} b skip r) e = taken r e
  taken (reads-skip {t = Many} b skip r) e = taken r e

  -- ---- one symbol, where the rest comes to an outcome

  abbrev Outcome : ℕ → List Symbol → ℕ → Type 0
  Outcome d s i = ReadsOrFails limit ws d s i

  kept_out : (any : List TokenKind) (s : List Symbol) (d i : ℕ) → (one_of any (kind_at ws i) ≡ true → Outcome d s (i + 1)) → Outcome d (Kept any ∷ s) i
  kept_out any s d i more = by_token (one_of any (kind_at ws i)) refl
    where
      lifted : one_of any (kind_at ws i) ≡ true → Outcome d s (i + 1) → Outcome d (Kept any ∷ s) i
      lifted h (reads f j r) = reads (leaf i (kind_at ws i) (value_at ws i) f) j (reads-kept h r)
      lifted h (fails x r) = fails x (after-kept h r)

      by_token : (b : Bool) → one_of any (kind_at ws i) ≡ b → Outcome d (Kept any ∷ s) i
      by_token true h = lifted h (more h)
      by_token false h = fails (Unexpected i) (fails-kept h)

  mark_out : (a : TokenKind) (s : List Symbol) (d i : ℕ) → (is (kind_at ws i) a ≡ true → Outcome d s (i + 1)) → Outcome d (Mark a ∷ s) i
  mark_out a s d i more = by_token (is (kind_at ws i) a) refl
    where
      lifted : is (kind_at ws i) a ≡ true → Outcome d s (i + 1) → Outcome d (Mark a ∷ s) i
      lifted h (reads f j r) = reads f j (reads-mark h r)
      lifted h (fails x r) = fails x (after-mark h r)

      by_token : (b : Bool) → is (kind_at ws i) a ≡ b → Outcome d (Mark a ∷ s) i
      by_token true h = lifted h (more h)
      by_token false h = fails (Unexpected i) (fails-mark h)

  any_out : (a : TokenKind) (s : List Symbol) (d i : ℕ) → (is (kind_at ws i) a ≡ true → Outcome d (Any a ∷ s) (i + 1)) → Outcome d s i → Outcome d (Any a ∷ s) i
  any_out a s d i more behind = by_token (is (kind_at ws i) a) refl
    where
      lifted : is (kind_at ws i) a ≡ true → Outcome d (Any a ∷ s) (i + 1) → Outcome d (Any a ∷ s) i
      lifted h (reads f j r) = reads f j (reads-any h r)
      lifted h (fails x r) = fails x (after-any h r)

      passed : is (kind_at ws i) a ≡ false → Outcome d s i → Outcome d (Any a ∷ s) i
      passed h (reads f j r) = reads f j (reads-none h r)
      passed h (fails x r) = fails x (after-none h r)

      by_token : (b : Bool) → is (kind_at ws i) a ≡ b → Outcome d (Any a ∷ s) i
      by_token true h = lifted h (more h)
      by_token false h = passed h behind

  here_out : (s : List Symbol) (d i : ℕ) → Outcome d s i → Outcome d (Here ∷ s) i
  here_out s d i (reads f j r) = reads (place i f) j (reads-here r)
  here_out s d i (fails x r) = fails x (after-here r)

  part_out : (t : Times) (n : Part) (s : List Symbol) (d i : ℕ) → ((right : List Symbol) → right_side n (kind_at ws i) ≡ Some right → Outcome (inside_depth n d) right i)
      → ((m : ℕ) → i ≤ m → (takes n ≡ true → Taken i m) → Outcome d (after t n s) m) → (may_skip t ≡ true → Outcome d s i) → Outcome d (Of t n ∷ s) i
  part_out t n s d i inside onward skip = by_right (right_side n (kind_at ws i)) refl
    where
      behind : (right : List Symbol) → right_side n (kind_at ws i) ≡ Some right → is_too_deep limit n d right ≡ false → (f : Forest) (m : ℕ) → Reads limit ws (inside_depth n d) right i f m → Outcome d (after t n s) m → Outcome d (Of t n ∷ s) i
      behind right e shallow f m r (reads g j q) = reads (node n f g) j (reads-part e shallow r q)
      behind right e shallow f m r (fails x q) = fails x (after-part e shallow r q)

      around : (right : List Symbol) → right_side n (kind_at ws i) ≡ Some right → is_too_deep limit n d right ≡ false → Outcome (inside_depth n d) right i → Outcome d (Of t n ∷ s) i
      around right e shallow (reads f m r) =
          behind right e shallow f m r (onward m (reads_ahead limit ws r) (λ some. taken r ((right_fine n (kind_at ws i) right e).taking some)))
      around right e shallow (fails x r) = fails x (fails-inside e shallow r)

      by_depth : (right : List Symbol) → right_side n (kind_at ws i) ≡ Some right → (b : Bool) → is_too_deep limit n d right ≡ b → Outcome d (Of t n ∷ s) i
      by_depth right e true deep = fails (TooDeep (first_of n i)) (fails-deep e deep)
      by_depth right e false shallow = around right e shallow (inside right e)

      skipped : right_side n (kind_at ws i) ≡ None → may_skip t ≡ true → Outcome d s i → Outcome d (Of t n ∷ s) i
      skipped e may (reads f j r) = reads f j (reads-skip e may r)
      skipped e may (fails x r) = fails x (after-skip e may r)

      by_times : right_side n (kind_at ws i) ≡ None → (b : Bool) → may_skip t ≡ b → Outcome d (Of t n ∷ s) i
      by_times e true may = skipped e may (skip may)
      by_times e false must = fails (Unexpected i) (fails-part e must)

      by_right : (x : Option (List Symbol)) → right_side n (kind_at ws i) ≡ x → Outcome d (Of t n ∷ s) i
      by_right (Some right) e = by_depth right e (is_too_deep limit n d right) refl
      by_right None e = by_times e (may_skip t) refl

  -- behind a token that is there it is nearer to the end; behind an end less is left
  kept_on : (any : List TokenKind) (s : List Symbol) (d i w : ℕ) → weight (Kept any ∷ s) ≤ suc w → one_of any (kind_at ws i) ≡ true → (i < length ws → Outcome d s (i + 1)) → (weight s ≤ w → Outcome d s (i + 1)) → Outcome d s (i + 1)
  kept_on any s d i w light h near less = by_place (split i (length ws))
    where
      by_place : (i < length ws) ⊎ (length ws ≤ i) → Outcome d s (i + 1)
      by_place (inl there) = near there
      by_place (inr behind) =
          let at : at_end any ≡ true = subst (λ a. one_of any a ≡ true) (end_at i behind) h in
          let all : suc (weight s) ≤ suc w = subst (λ b. suc (if b then weight s else 0) ≤ suc w) at light in less (omega (arith, all))

  mark_on : (a : TokenKind) (s : List Symbol) (d i w : ℕ) → weight (Mark a ∷ s) ≤ suc w → is (kind_at ws i) a ≡ true → (i < length ws → Outcome d s (i + 1)) → (weight s ≤ w → Outcome d s (i + 1)) → Outcome d s (i + 1)
  mark_on a s d i w light h near less = by_place (split i (length ws))
    where
      by_place : (i < length ws) ⊎ (length ws ≤ i) → Outcome d s (i + 1)
      by_place (inl there) = near there
      by_place (inr behind) =
          let at : is k.EndOfSource a ≡ true = subst (λ b. is b a ≡ true) (end_at i behind) h in
          let all : suc (weight s) ≤ suc w = subst (λ b. suc (if b then weight s else 0) ≤ suc w) at light in less (omega (arith, all))

  once_on : (n : Part) (s : List Symbol) (d i m w : ℕ) → weight (Of Once n ∷ s) ≤ suc w → (takes n ≡ true → Taken i m) → (Taken i m → Outcome d s m) → (weight s ≤ w → Outcome d s m) → Outcome d s m
  once_on n s d i m w light took near less = by_part (takes n) refl
    where
      by_part : (b : Bool) → takes n ≡ b → Outcome d s m
      by_part true e = near (took e)
      by_part false e = let all : suc (rank n + weight s) ≤ suc w = subst (λ b. suc (rank n + (if b then 0 else weight s)) ≤ suc w) e light in less (omega (arith, all))

  rank_light : (n : Part) (s : List Symbol) (w : ℕ) → weight (Of Once n ∷ s) ≤ suc w → rank n ≤ w
  rank_light n s w light = omega (arith, light)

  -- ---- all symbols

  -- so many tokens are left at most, and `again` reads on behind a token that is there
  read_on : (tokens : ℕ) → (0 < tokens → (d i : ℕ) (s : List Symbol) → advances s ≡ true → length ws < i + tokens → Outcome d s i) → (w d i : ℕ) (s : List Symbol) → advances s ≡ true → length ws ≤ i + tokens → weight s ≤ w → Outcome d s i
  read_on tokens again w d i [] a left light = reads done i reads-done
  read_on tokens again zero d i (Kept any ∷ s) a left light = absurd (omega (arith, light))
  read_on tokens again zero d i (Mark x ∷ s) a left light = absurd (omega (arith, light))
  read_on tokens again zero d i (Any x ∷ s) a left light = absurd (omega (arith, light))
  read_on tokens again zero d i (Here ∷ s) a left light = absurd (omega (arith, light))
  read_on tokens again zero d i (Of Once n ∷ s) a left light = absurd (omega (arith, light))
  read_on tokens again zero d i (Of Maybe n ∷ s) a left light = absurd (omega (arith, light))
  read_on tokens again zero d i (Of Many n ∷ s) a left light = absurd (omega (arith, light))
  read_on tokens again (suc w) d i (Kept any ∷ s) a left light =
      kept_out any s d i (λ h. kept_on any s d i w light h (λ there. again (omega (arith, there, left)) d (i + 1) s a (omega (arith, there, left))) (λ less. read_on tokens again w d (i + 1) s a (omega (arith, left)) less))
  read_on tokens again (suc w) d i (Mark x ∷ s) a left light =
      mark_out x s d i (λ h. mark_on x s d i w light h (λ there. again (omega (arith, there, left)) d (i + 1) s a (omega (arith, there, left))) (λ less. read_on tokens again w d (i + 1) s a (omega (arith, left)) less))
  read_on tokens again (suc w) d i (Any x ∷ s) a left light =
      let parts = both_true (not (is k.EndOfSource x)) (advances s) a in
      any_out x s d i (λ h. let there = mark_there x i h (no_end (is k.EndOfSource x) parts.0) in again (omega (arith, there, left)) d (i + 1) (Any x ∷ s) a (omega (arith, there, left)))
      (read_on tokens again w d i s parts.1 left (omega (arith, light)))
    where
      no_end : (b : Bool) → not b ≡ true → b ≡ false
      no_end true e = absurd (cc)
      no_end false e = refl
  read_on tokens again (suc w) d i (Here ∷ s) a left light = here_out s d i (read_on tokens again w d i s a left (omega (arith, light)))
  read_on tokens again (suc w) d i (Of Once n ∷ s) a left light =
      part_out Once n s d i (λ right e. let f = right_fine n (kind_at ws i) right e in read_on tokens again w (inside_depth n d) i right f.advancing left (omega (arith, f.light, light)))
      (λ m ahead took. once_on n s d i m w light took (λ x. again (omega (arith, x.0, left)) d m s a (omega (arith, x.1, left))) (λ less. read_on tokens again w d m s a (omega (arith, left, ahead)) less))
      (λ may. absurd (cc))
  read_on tokens again (suc w) d i (Of Maybe n ∷ s) a left light =
      part_out Maybe n s d i (λ right e. let f = right_fine n (kind_at ws i) right e in read_on tokens again w (inside_depth n d) i right f.advancing left (omega (arith, f.light, light)))
      (λ m ahead took. read_on tokens again w d m s a (omega (arith, left, ahead)) (omega (arith, light)))
      (λ may. read_on tokens again w d i s a left (omega (arith, light)))
  read_on tokens again (suc w) d i (Of Many n ∷ s) a left light =
      let parts = both_true (takes n) (advances s) a in
      part_out Many n s d i (λ right e. let f = right_fine n (kind_at ws i) right e in read_on tokens again w (inside_depth n d) i right f.advancing left (omega (arith, f.light, light)))
      (λ m ahead took. let x = took parts.0 in again (omega (arith, x.0, left)) d m (Of Many n ∷ s) a (omega (arith, x.1, left)))
      (λ may. read_on tokens again w d i s parts.1 left (omega (arith, light)))

  with_tokens : (tokens d i : ℕ) (s : List Symbol) → advances s ≡ true → length ws ≤ i + tokens → Outcome d s i
  with_tokens zero d i s a left = read_on zero (λ some. absurd (omega (arith, some))) (weight s) d i s a left (omega arith)
  with_tokens (suc tokens) d i s a left = read_on (suc tokens) (λ some d' i' s' a' left'. with_tokens tokens d' i' s' a' (omega (arith, left'))) (weight s) d i s a left (omega arith)

pub reads_or_fails : (limit : ℕ) (ws : List Token) (d i : ℕ) (n : Part) → ReadsOrFails limit ws d (one n) i
reads_or_fails limit ws d i n = with_tokens limit ws (length ws) d i (one n) refl (omega arith)
