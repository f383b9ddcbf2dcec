-- How deep a derivation nests, from how deep its parts do.
use Rattle.std.proofs.Common.{◌≡◌, ◌≤◌, ◌<◌, ℕ, ◌+◌, max, Bool, true, false, zero, suc, List, [], ◌∷◌, Option, Some, None, map, drop, length, refl, sym, ap, ◌∙◌, arith, subst, if◌then◌else◌}
use Rattle.std.proofs.lemmas.Bool.{false≢true}
use Rattle.std.proofs.lemmas.List.{drop_more, drop_all}
use Rattle.std.specs.Prelude.{◌&&◌, not, nat_eq, slice_index_or}
use Rattle.sim_base.specs.declared.numbering.TokenNo.{TokenNo}
use Rattle.sim_base.specs.declared.token.TokenKind.{TokenKind}
use Rattle.sim_base.specs.declared.token.TokenKind.TheVariants as k
use Rattle.sim_base.specs.declared.token.TokenValue.{TokenValue}
use Rattle.sim_tree.specs.declared.expr.Expr.{Expr}
use Rattle.sim_tree.specs.declared.expr.LeadingSign.{LeadingSign}
use Rattle.sim_tree.specs.declared.expr.Operand.{Operand}
use Rattle.sim_tree.specs.Grammar as g
use Rattle.sim_tree.specs.Grammar.{Part, is_counted}
use Rattle.sim_tree.specs.Reading.{Forest, done, leaf, place, node}
use Rattle.sim_tree.specs.Tree.{is_bare, deepest}
use Rattle.sim_tree.specs.Derivation.{Derivation, Item, level_part, raise, whole, nothing, row, item, operated, negated, not_mark, summed, multiplied, selected, argument, arguments, derivation_of, operand_derivation}
use Rattle.sim_tree.specs.ProgramDerivation.{joined, acted, begun}
use Rattle.sim_tree.specs.Nesting.{capped, has_token, is_full, Nests, NestsInside, Largest, largest-none, largest-more}
use Rattle.sim_tree.proofs.Full.{all_true}

pub no_token : (b : Bool) → not b ≡ true → b ≡ false
no_token true e = absurd (false≢true e)
no_token false e = refl

-- the parts of a node
pub token_of : (a b c : Bool) → (a && b && c) ≡ true → a ≡ true
token_of true b c e = refl
token_of false b c e = absurd (false≢true e)

pub inside_of : (a b c : Bool) → (a && b && c) ≡ true → b ≡ true
inside_of true true c e = refl
inside_of true false c e = absurd (false≢true e)
inside_of false b c e = absurd (false≢true e)

pub rest_of : (a b c : Bool) → (a && b && c) ≡ true → c ≡ true
rest_of true true c e = e
rest_of true false c e = absurd (false≢true e)
rest_of false b c e = absurd (false≢true e)

pub same : {f : Forest} {a b : ℕ} → a ≡ b → Nests f a → Nests f b
same {f} e h = subst (λ n. Nests f n) e h

pub along : {f h : Forest} {a : ℕ} → f ≡ h → Nests h a → Nests f a
along {a = a} e x = subst (λ z. Nests z a) (sym e) x

pub along_inside : {s t : Derivation} {a : ℕ} → s ≡ t → NestsInside t a → NestsInside s a
along_inside {a = a} e x = subst (λ z. NestsInside z a) (sym e) x

pub nests_done : Nests done 0
nests_done = record { known = λ e. refl }

pub nests_leaf : {i : ℕ} {kind : TokenKind} {value : TokenValue} {f : Forest} {a : ℕ} → Nests f a → Nests (leaf i kind value f) a
nests_leaf h = record { known = h.known }

pub nests_place : {i : ℕ} {f : Forest} {a : ℕ} → Nests f a → Nests (place i f) a
nests_place h = record { known = h.known }

most_of : (a b x y : ℕ) → a ≡ capped x → b ≡ capped y → max a b ≡ capped (max x y)
most_of a b x y e f = omega (arith, e, f)

plain : (n : Part) (f g : Forest) → is_counted n ≡ false → deepest (node n f g) ≡ max (deepest f) (deepest g)
plain n f g e = ap (λ b. max (if b && not (is_bare f) then deepest f + 1 else deepest f) (deepest g)) e

-- a part that does not count, and what is behind it
pub nests_node : {n : Part} {f g : Forest} {a b : ℕ} → is_counted n ≡ false → Nests f a → Nests g b → Nests (node n f g) (max a b)
nests_node {n} {f} {g} {a} {b} e h r = record {
  known = λ full.
      most_of a b (deepest f) (deepest g) (h.known (inside_of (has_token n f) (is_full f) (is_full g) full)) (r.known (rest_of (has_token n f) (is_full f) (is_full g) full))
      ∙ ap capped (sym (plain n f g e));
}

-- the same with nothing behind it
pub nests_alone : {n : Part} {f : Forest} {a : ℕ} → is_counted n ≡ false → Nests f a → Nests (node n f done) a
nests_alone {a = a} e h = same (let z : max a 0 ≡ a = omega arith in z) (nests_node e h nests_done)

-- a part, and what is behind it
pub followed : {n : Part} {f g : Forest} {a b : ℕ} → Nests (node n f done) a → Nests g b → Nests (node n f g) (max a b)
followed {n} {f} {g} {a} {b} h r = record {
  known = λ full.
      let one = h.known (alone (has_token n f) (is_full f) (is_full g) full) in
      let x : ℕ = if is_counted n && not (is_bare f) then deepest f + 1 else deepest f in
      let e : a ≡ capped (max x 0) = one in
      let i : b ≡ capped (deepest g) = r.known (rest_of (has_token n f) (is_full f) (is_full g) full) in
      most_of a b x (deepest g) (e ∙ (let z : max x 0 ≡ x = omega arith in ap capped z)) i;
}
  where
    alone : (a b c : Bool) → (a && b && c) ≡ true → (a && b && true) ≡ true
    alone true true c e = refl
    alone true false c e = e
    alone false b c e = e

-- a part that counts
pub counted : {n : Part} {f : Forest} {a : ℕ} → is_counted n ≡ true → is_bare f ≡ false → (is_full f ≡ true → a ≡ capped (deepest f)) → Nests (node n f done) (capped (a + 1))
counted {n} {f} {a} e bare h = record {
  known = λ full.
      let one = h (inside_of (has_token n f) (is_full f) true full) in
      let deep = ap (λ b. max (if b && not (is_bare f) then deepest f + 1 else deepest f) 0) e ∙ ap (λ b. max (if not b then deepest f + 1 else deepest f) 0) bare in
      let two : capped (a + 1) ≡ capped (max (deepest f + 1) 0) = omega (arith, one) in
      two ∙ ap capped (sym deep);
}

-- A level inside of a higher one.
pub level_plain : (m : ℕ) → m < 14 → (is_counted (level_part m) ≡ false) × ((f : Forest) → has_token (level_part m) f ≡ not (is_bare f))
level_plain zero le = (refl, λ f. refl)
level_plain (suc zero) le = (refl, λ f. refl)
level_plain (suc (suc zero)) le = (refl, λ f. refl)
level_plain (suc (suc (suc zero))) le = (refl, λ f. refl)
level_plain (suc (suc (suc (suc zero)))) le = (refl, λ f. refl)
level_plain (suc (suc (suc (suc (suc zero))))) le = (refl, λ f. refl)
level_plain (suc (suc (suc (suc (suc (suc zero)))))) le = (refl, λ f. refl)
level_plain (suc (suc (suc (suc (suc (suc (suc zero))))))) le = (refl, λ f. refl)
level_plain (suc (suc (suc (suc (suc (suc (suc (suc zero)))))))) le = (refl, λ f. refl)
level_plain (suc (suc (suc (suc (suc (suc (suc (suc (suc zero))))))))) le = (refl, λ f. refl)
level_plain (suc (suc (suc (suc (suc (suc (suc (suc (suc (suc zero)))))))))) le = (refl, λ f. refl)
level_plain (suc (suc (suc (suc (suc (suc (suc (suc (suc (suc (suc zero))))))))))) le = (refl, λ f. refl)
level_plain (suc (suc (suc (suc (suc (suc (suc (suc (suc (suc (suc (suc zero)))))))))))) le = (refl, λ f. refl)
level_plain (suc (suc (suc (suc (suc (suc (suc (suc (suc (suc (suc (suc (suc zero))))))))))))) le = (refl, λ f. refl)
level_plain (suc (suc (suc (suc (suc (suc (suc (suc (suc (suc (suc (suc (suc (suc m)))))))))))))) le = absurd (omega (arith, le))

-- what is inside, raised to a level, where that has a token
raised : (m : ℕ) (s : Derivation) (a : ℕ) → m ≤ 14 → NestsInside s a → is_bare (raise m s) ≡ false → is_full (raise m s) ≡ true → a ≡ capped (deepest (raise m s))
unfolding raise
raised zero s a le h = go (nat_eq s.level 0)
  where
    go : (b : Bool) → is_bare (if b then s.inside else done) ≡ false → is_full (if b then s.inside else done) ≡ true → a ≡ capped (deepest (if b then s.inside else done))
    go true bare full = h.known bare full
    go false bare full = absurd (false≢true (sym bare))
raised (suc m) s a le h = go (nat_eq s.level (suc m)) (level_plain m (omega (arith, le))) (λ bare full. raised m s a (omega (arith, le)) h bare full)
  where
    go : (b : Bool) → (is_counted (level_part m) ≡ false) × ((f : Forest) → has_token (level_part m) f ≡ not (is_bare f))
        → (is_bare (raise m s) ≡ false → is_full (raise m s) ≡ true → a ≡ capped (deepest (raise m s)))
        → is_bare (if b then s.inside else node (level_part m) (raise m s) done) ≡ false
        → is_full (if b then s.inside else node (level_part m) (raise m s) done) ≡ true
        → a ≡ capped (deepest (if b then s.inside else node (level_part m) (raise m s) done))
    go true w later bare full = h.known bare full
    go false w later bare full =
        let f = raise m s in
        let one = later (no_token (is_bare f) (sym (w.1 f) ∙ token_of (has_token (level_part m) f) (is_full f) true full)) (inside_of (has_token (level_part m) f) (is_full f) true full) in
        let deep : deepest (node (level_part m) f done) ≡ max (deepest f) 0 = plain (level_part m) f done w.0 in
        omega (arith, one, deep)

pub nests_level : (m : ℕ) {s : Derivation} {a : ℕ} → m < 14 → NestsInside s a → Nests (node (level_part m) (raise m s) done) a
nests_level m {s} {a} le h = record {
  known = λ full.
      let f = raise m s in
      let w = level_plain m le in
      let one = raised m s a (omega (arith, le)) h (no_token (is_bare f) (sym (w.1 f) ∙ token_of (has_token (level_part m) f) (is_full f) true full)) (inside_of (has_token (level_part m) f) (is_full f) true full) in
      let deep : deepest (node (level_part m) f done) ≡ max (deepest f) 0 = plain (level_part m) f done w.0 in
      omega (arith, one, deep);
}

pub nests_argument : {s : Derivation} {a : ℕ} → NestsInside s a → Nests (argument s) (capped (a + 1))
nests_argument {s} {a} h = record {
  known = λ full.
      let f = whole s in
      let part : Nests (node g.Expression f done) (capped (a + 1)) =
      counted refl (no_token (is_bare f) (token_of (not (is_bare f)) (is_full f) true full)) (λ inner. raised 14 s a (omega arith) h (no_token (is_bare f) (token_of (not (is_bare f)) (is_full f) true full)) inner) in
      part.known full;
}

pub within : {s : Derivation} {a : ℕ} → Nests s.inside a → NestsInside s a
within h = record { known = λ bare full. h.known full }

-- what begins no part
vacant : (a : ℕ) → NestsInside nothing a
vacant a = record { known = λ bare full. absurd (false≢true (sym bare)) }

-- Lists.
pub rows : (n : Part) {fs : List Forest} {f : Forest} {a b : ℕ} → is_counted n ≡ false → Largest Nests fs a → Nests f b → Nests (row n fs f) (max a b)
rows n {b = b} e largest-none h = same (let z : b ≡ max 0 b = omega arith in z) h
rows n {b = b} e (largest-more {a = x} {b = y} one others) h = same (let z : max x (max y b) ≡ max (max x y) b = omega arith in z) (followed (nests_alone e one) (rows n e others h))

pub mapped : {A B : Type 0} {Fits : A → ℕ → Type 0} {Other : B → ℕ → Type 0} (h : A → B) {xs : List A} {n : ℕ} → ((x : A) (a : ℕ) → Fits x a → Other (h x) a) → Largest Fits xs n → Largest Other (map h xs) n
mapped h to largest-none = largest-none
mapped h to (largest-more one others) = largest-more (to _ _ one) (mapped h to others)

-- a row of parts without statements and expressions
pub flat_row : {A : Type 0} (n : Part) (h : A → Forest) {f : Forest} {b : ℕ} (xs : List A) → is_counted n ≡ false → ((x : A) → Nests (h x) 0) → Nests f b → Nests (row n (map h xs) f) b
flat_row n h [] e flat rest = rest
flat_row n h {b = b} (x ∷ xs) e flat rest = same (let z : max 0 b ≡ b = omega arith in z) (followed (nests_alone e (flat x)) (flat_row n h xs e flat rest))

-- in a loop, what belongs to the elements so far
abbrev pub SoFar : {A : Type 0} → (A → ℕ → Type 0) → List A → ℕ → ℕ → Type 0
SoFar Fits xs i a = (n : ℕ) → Largest Fits (drop i xs) n → Largest Fits xs (max n a)

pub begins : {A : Type 0} {Fits : A → ℕ → Type 0} (xs : List A) → SoFar Fits xs 0 0
begins {Fits = Fits} xs n h = subst (λ m. Largest Fits xs m) (let z : n ≡ max n 0 = omega arith in z) h

pub goes_on : {A : Type 0} {Fits : A → ℕ → Type 0} (xs : List A) (i : ℕ) (x : A) (a b next : ℕ) → i < length xs → x ≡ slice_index_or xs i x → Fits x a → next ≡ max a b → SoFar Fits xs i b → SoFar Fits xs (i + 1) next
goes_on {Fits = Fits} xs i x a b next le is fits e so n h =
    let from : drop i xs ≡ x ∷ drop (i + 1) xs = drop_more xs i x le ∙ ap (λ y. y ∷ drop (i + 1) xs) (sym is) in
    subst (λ m. Largest Fits xs m) (let z : max (max a n) b ≡ max n next = omega (arith, e) in z) (so (max a n) (subst (λ l. Largest Fits l (max a n)) (sym from) (largest-more fits h)))

pub ends : {A : Type 0} {Fits : A → ℕ → Type 0} (xs : List A) (i a : ℕ) → length xs ≤ i → SoFar Fits xs i a → Largest Fits xs a
ends {Fits = Fits} xs i a le so =
    subst (λ m. Largest Fits xs m) (let z : max 0 a ≡ a = omega arith in z) (so 0 (subst (λ l. Largest Fits l 0) (sym (drop_all i xs le)) largest-none))

-- Expressions.
nests_item : (l : ℕ) (w : TokenKind) (i : Item) (a : ℕ) → l < 14 → NestsInside i.operand a → Nests (item l w i) a
nests_item l w i a le h = nests_leaf (nests_level l le h)

pub in_operated : (l : ℕ) (w : TokenKind) (m : Part) {s : Derivation} {items : List Item} {a b : ℕ} → l < 14 → is_counted m ≡ false
    → NestsInside s a → Largest (λ i. NestsInside i.operand) items b → NestsInside (operated l w m s items) (max a b)
in_operated l w m {a = a} le e h largest-none = vacant (max a 0)
in_operated l w m {s} {a = a} {b = b} le e h (largest-more one others) =
    within (followed (nests_level l le h) (same (let z : max b 0 ≡ b = omega arith in z) (rows m e (mapped (item l w) (λ i n x. nests_item l w i n le x) (largest-more one others)) nests_done)))

pub in_negated : (tokens : List TokenNo) {s : Derivation} {a : ℕ} → NestsInside s a → NestsInside (negated tokens s) a
in_negated [] {a = a} h = vacant a
in_negated (i ∷ is) h = within (flat_row g.NotSign not_mark (i ∷ is) refl (λ x. nests_leaf nests_done) (nests_level 6 (omega arith) h))

pub in_summed : (sign : Option LeadingSign) {s : Derivation} {fs : List Forest} {a b : ℕ} → NestsInside s a → Largest Nests fs b → NestsInside (summed sign s fs) (max a b)
in_summed None {a = a} h largest-none = vacant (max a 0)
in_summed None {b = b} h (largest-more one others) =
    within (followed (nests_level 3 (omega arith) h) (same (let z : max b 0 ≡ b = omega arith in z) (rows g.NextTerm refl (largest-more one others) nests_done)))
in_summed (Some t) {a = a} {b = b} h fits =
    within (same (let z : max 0 (max a (max b 0)) ≡ max a b = omega arith in z) (nests_node refl (nests_leaf nests_done) (followed (nests_level 3 (omega arith) h) (rows g.NextTerm refl fits nests_done))))

pub in_multiplied : {s : Derivation} {fs : List Forest} {a b : ℕ} → NestsInside s a → Largest Nests fs b → NestsInside (multiplied s fs) (max a b)
in_multiplied {a = a} h largest-none = vacant (max a 0)
in_multiplied {b = b} h (largest-more one others) =
    within (followed (nests_level 2 (omega arith) h) (same (let z : max b 0 ≡ b = omega arith in z) (rows g.NextFactor refl (largest-more one others) nests_done)))

pub in_selected : {s : Derivation} {fs : List Forest} {a b : ℕ} → NestsInside s a → Largest Nests fs b → NestsInside (selected s fs) (max a b)
in_selected {a = a} h largest-none = vacant (max a 0)
in_selected {b = b} h (largest-more one others) =
    within (followed (nests_level 0 (omega arith) h) (same (let z : max b 0 ≡ b = omega arith in z) (rows g.Selection refl (largest-more one others) nests_done)))

pub in_arguments : {ss : List Derivation} {f : Forest} {a b : ℕ} → Largest (λ s. Nests (argument s)) ss a → Nests f b → Nests (arguments ss f) (max a b)
in_arguments {b = b} largest-none h = same (let z : b ≡ max 0 b = omega arith in z) h
in_arguments {b = b} (largest-more {a = x} {b = y} one others) h =
    same (let z : max (max x (max y 0)) b ≡ max (max x y) b = omega arith in z)
    (nests_node refl (followed one (rows g.NextArgument refl (mapped argument (λ s n w. w) others) nests_done)) h)

pub at_argument : {e h : Expr} {a : ℕ} → e ≡ h → Nests (argument (derivation_of e)) a → Nests (argument (derivation_of h)) a
at_argument {a = a} is x = subst (λ z. Nests (argument (derivation_of z)) a) is x

pub at_inside : {e h : Expr} {a : ℕ} → e ≡ h → NestsInside (derivation_of e) a → NestsInside (derivation_of h) a
at_inside {a = a} is x = subst (λ z. NestsInside (derivation_of z) a) is x

pub same_inside : {s : Derivation} {a b : ℕ} → a ≡ b → NestsInside s a → NestsInside s b
same_inside {s} e h = subst (λ n. NestsInside s n) e h

pub at_list : {A : Type 0} {Fits : A → ℕ → Type 0} {xs ys : List A} {a : ℕ} → xs ≡ ys → Largest Fits xs a → Largest Fits ys a
at_list {Fits = Fits} {a = a} is h = subst (λ z. Largest Fits z a) is h

-- the actual parameters, with nothing behind them
pub nests_actuals : (xs ys : List Expr) {a : ℕ} → xs ≡ ys → Largest (λ x. Nests (argument (derivation_of x))) xs a → Nests (arguments (map derivation_of ys) done) a
nests_actuals xs ys {a} is h = same (let z : max a 0 ≡ a = omega arith in z) (in_arguments (mapped derivation_of (λ x n w. w) (at_list is h)) nests_done)

-- an expression of a level that has one operator
pub answer_operated : (e : Expr) (l : ℕ) (w : TokenKind) (m : Part) (h y : Expr) (os ys : List Operand) (a b r : ℕ) → l < 14 → is_counted m ≡ false
    → derivation_of e ≡ operated l w m (derivation_of h) (map operand_derivation os) → y ≡ h → NestsInside (derivation_of y) a
    → ys ≡ os → Largest (λ x. NestsInside (operand_derivation x).operand) ys b → r ≡ max a b → NestsInside (derivation_of e) r
answer_operated e l w m h y os ys a b r le plain is same first all rest sum =
    let there = mapped operand_derivation (λ x n z. z) (at_list all rest) in
    same_inside (sym sum) (along_inside is (in_operated l w m le plain (at_inside same first) there))

-- Statements.
full_joined : (f h : Forest) → is_full (joined f h) ≡ true → (is_full f ≡ true) × (is_full h ≡ true)
full_joined done h e = (refl, e)
full_joined (leaf i kind value f) h e = full_joined f h e
full_joined (place i f) h e = full_joined f h e
full_joined (node n inside f) h e = go (has_token n inside) (is_full inside) e (λ x. full_joined f h x)
  where
    go : (a b : Bool) → (a && b && is_full (joined f h)) ≡ true → (is_full (joined f h) ≡ true → (is_full f ≡ true) × (is_full h ≡ true)) → ((a && b && is_full f) ≡ true) × (is_full h ≡ true)
    go true true e later = later e
    go true false e later = absurd (false≢true e)
    go false b e later = absurd (false≢true e)

deepest-joined : (f h : Forest) → deepest (joined f h) ≡ max (deepest f) (deepest h)
deepest-joined done h = let z : deepest h ≡ max 0 (deepest h) = omega arith in z
deepest-joined (leaf i kind value f) h = deepest-joined f h
deepest-joined (place i f) h = deepest-joined f h
deepest-joined (node n inside f) h =
    let x : ℕ = if is_counted n && not (is_bare inside) then deepest inside + 1 else deepest inside in
    let e = deepest-joined f h in
    let z : max x (deepest (joined f h)) ≡ max (max x (deepest f)) (deepest h) = omega (arith, e) in z

-- the statement that a left side or a call begins, where no identifier begins that
nests_postfix : {e f : Forest} {a b : ℕ} → (is_bare e ≡ false → is_full e ≡ true → a ≡ capped (deepest e)) → Nests f b → Nests (node g.Statement (node g.Postfix e f) done) (capped (max a b + 1))
nests_postfix {e} {f} {a} {b} known rest =
    counted refl refl (λ full.
    let left = known (no_token (is_bare e) (token_of (not (is_bare e)) (is_full e) (is_full f) full)) (inside_of (not (is_bare e)) (is_full e) (is_full f) full) in
    let right = rest.known (rest_of (not (is_bare e)) (is_full e) (is_full f) full) in
    omega (arith, left, right))

-- the statement that a left side or a call begins
pub nests_acted : (s : Derivation) {f : Forest} {a b : ℕ} → NestsInside s a → Nests f b → Nests (node g.Statement (acted (raise 1 s) f) done) (capped (max a b + 1))
nests_acted s {f} {a} {b} h rest = go (raise 1 s) (λ bare full. raised 1 s a (omega arith) h bare full)
  where
    go : (e : Forest) → (is_bare e ≡ false → is_full e ≡ true → a ≡ capped (deepest e)) → Nests (node g.Statement (acted e f) done) (capped (max a b + 1))
    go (node g.Primary (leaf i k.Identifier value actuals) selected) known =
        counted refl refl (λ full.
        let one = full_joined actuals (node g.AfterFirstOperand (joined selected f) done) full in
        let two = full_joined selected f (inside_of true (is_full (joined selected f)) true one.1) in
        let x = deepest actuals in
        let y = deepest selected in
        let z = deepest f in
        let left = known refl (all_true true (is_full actuals) (is_full selected) refl one.0 two.0) in
        let right = rest.known two.1 in
        let deep : deepest (joined actuals (node g.AfterFirstOperand (joined selected f) done)) ≡ max x (max (deepest (joined selected f)) 0) = deepest-joined actuals (node g.AfterFirstOperand (joined selected f) done) in
        let deep2 = deepest-joined selected f in
        omega (arith, left, right, deep, deep2))
    go e known = nests_postfix known rest

-- the first statement of a block
pub nests_begun : (f : Forest) {h : Forest} {a b : ℕ} → Nests (node g.Statement f done) a → Nests h b → Nests (begun f h) (max a b)
nests_begun (leaf i k.Identifier value f) {h} {a} {b} first rest = record {
  known = λ full.
      let inner = inside_of true ((not (is_bare f)) && is_full f && is_full h) true full in
      let bare = no_token (is_bare f) (token_of (not (is_bare f)) (is_full f) (is_full h) inner) in
      let left = first.known (all_true true (is_full f) true refl (inside_of (not (is_bare f)) (is_full f) (is_full h) inner) refl) in
      let right = rest.known (rest_of (not (is_bare f)) (is_full f) (is_full h) inner) in
      let deep = ap (λ z. max (max (if not z then deepest f + 1 else deepest f) (deepest h)) 0) bare in
      omega (arith, left, right, deep);
}
nests_begun f first rest = followed first rest

-- a statement without a token
pub nests_empty : (i : ℕ) → Nests (node g.Statement (place i done) done) 0
nests_empty i = record { known = λ full. refl }
