-- How a part is read, step by step from the left.
use Rattle.std.proofs.Common.{◌≡◌, ◌≤◌, ◌<◌, ℕ, ◌+◌, suc, true, false, List, [], ◌∷◌, ◌++◌, map, length, Some, None, Result, Ok, Err, refl, sym, subst, ap, ◌∙◌, arith, if◌then◌else◌}
use Rattle.std.specs.Result.{IsErrAnd}
use Rattle.std.specs.Prelude.{◌&&◌, nat_le, nat_eq, not}
use Rattle.std.proofs.lemmas.Bool.{false≢true}
use Rattle.sim_base.specs.declared.token.Token.{Token}
use Rattle.sim_base.specs.declared.token.TokenKind.{TokenKind}
use Rattle.sim_base.specs.declared.token.TokenValue.{TokenValue}
use Rattle.sim_tree.specs.declared.expr.Expr.{Expr}
use Rattle.sim_tree.specs.Grammar as g
use Rattle.sim_tree.specs.Grammar.{Part, Times, Once, Maybe, Many, Symbol, Kept, Mark, Of, is, one_of, right_side, is_counted}
use Rattle.sim_tree.specs.Reading.{Forest, done, leaf, node, kind_at, value_at, inside_depth, is_too_deep, is_empty, Reads, reads-done, reads-kept, reads-mark, reads-part, reads-skip, Fails, fails-part, fails-kept, fails-mark, fails-inside, after-kept, after-mark, after-part, after-skip, Unexpected, TooDeep}
use Rattle.sim_tree.specs.Claim.{one}
use Rattle.sim_tree.specs.Derivation.{Derivation, derivation_of, raise, row, level_part}
use Rattle.sim_tree.specs.Tree.{limit, ReadsPart}
use Rattle.sim_tree.proofs.Steps.{Leads, start, past-one, one-fails, leads-as}
use Rattle.sim_tree.proofs.DerivationLemmas.{raise-up, raise-same, row-append, map-append}
use Rattle.sim_expr_parser.specs.declared.refusal.Stop.{Stop}
use Rattle.sim_expr_parser.specs.declared.refusal.Stop.TheVariants as stop
use Rattle.sim_expr_parser.specs.Parsing.{Took, Stops, ReadsTo, ReadsList, listed}

-- Inside a part that begins at i: what stands in front of j was read, to which F adds the derivation of s.
pub record Within (ws : List Token) (d : ℕ) (n : Part) (i : ℕ) (F : Forest → Forest) (e : ℕ) (s : List Symbol) (j : ℕ) : Type 0 where
  pub right : List Symbol
  pub begins : right_side n (kind_at ws i) ≡ Some right
  pub shallow : is_too_deep limit n d right ≡ false
  pub depth : inside_depth n d ≡ e
  pub leads : Leads ws e right i F e s j
  pub ahead : i ≤ j
  pub within : j < length ws

pub opened : (ws : List Token) (d i : ℕ) (n : Part) (right : List Symbol) → is_counted n ≡ false → right_side n (kind_at ws i) ≡ Some right → i < length ws
    → Within ws d n i (λ f. f) d right i
opened ws d i n right plain b h = record {
  right = right;
  begins = b;
  shallow = ap (λ x. x && nat_le limit d && not (is_empty right)) plain;
  depth = ap (λ x. if x then d + 1 else d) plain;
  leads = start d right i;
  ahead = omega arith;
  within = h;
}

module _ {ws : List Token} {d i j e : ℕ} {n : Part} {F : Forest → Forest} where
  pub to : {first : Symbol} {s : List Symbol} {G : Forest → Forest} {m : ℕ} → Within ws d n i F e (first ∷ s) j → ReadsTo ws e first j G m
      → Within ws d n i (λ f. F (G f)) e s m
  to {first} {s} {G} {m} l r = record {
    right = l.right;
    begins = l.begins;
    shallow = l.shallow;
    depth = l.depth;
    leads = record { reads = λ f k q. l.leads.reads (G f) k (r.reads s f k q); fails = λ x q. l.leads.fails x (r.fails s x q) };
    ahead = omega (arith, l.ahead, r.ahead);
    within = r.within;
  }

  -- where the rest of a part stops
  pub stops-at : (t : Times) {s : List Symbol} → Within ws d n i F e s j → (x : Stop) → Stops ws e s j x → (rest : List Symbol) → Stops ws d (Of t n ∷ rest) i x
  stops-at t l (stop.Unexpected m) h rest = fails-inside l.begins l.shallow (subst (λ z. Fails limit ws z l.right i (Unexpected m)) (sym l.depth) (l.leads.fails (Unexpected m) h))
  stops-at t l (stop.TooDeep m) h rest = fails-inside l.begins l.shallow (subst (λ z. Fails limit ws z l.right i (TooDeep m)) (sym l.depth) (l.leads.fails (TooDeep m) h))
  stops-at t l stop.Memory h rest = tt

  pub stops-in : (t : Times) {first : Symbol} {s : List Symbol} → Within ws d n i F e (first ∷ s) j → (x : Stop) → ((s : List Symbol) → Stops ws e (first ∷ s) j x)
      → (rest : List Symbol) → Stops ws d (Of t n ∷ rest) i x
  stops-in t {first} {s} l x h rest = stops-at t l x (h s) rest

  pub stops : {first : Symbol} {s : List Symbol} → Within ws d n i F e (first ∷ s) j → (x : Stop) → ((s : List Symbol) → Stops ws e (first ∷ s) j x) → Stops ws d (one n) i x
  stops l x h = stops-in Once l x h []

  pub gone : Within ws d n i F e [] j → (h : Forest) → F done ≡ h → ReadsPart ws d n i h j
  gone l h same = record {
    right = l.right;
    begins = l.begins;
    shallow = l.shallow;
    inside = subst (λ x. Reads limit ws x l.right i h j) (sym l.depth) (subst (λ y. Reads limit ws e l.right i y j) same (l.leads.reads done j reads-done));
    ahead = l.ahead;
    within = l.within;
  }

module _ {ws : List Token} {d i j e : ℕ} {F : Forest → Forest} where
  -- a node of a level
  pub level-made : (l : ℕ) (x : Expr) (s : Derivation) → derivation_of x ≡ s → s.level ≡ l → Within ws d (level_part l) i F e [] j → F done ≡ s.inside
      → ((derivation_of x).level ≤ l) × ReadsPart ws d (level_part l) i (raise l (derivation_of x)) j
  level-made l x s made same w f = (omega (arith, ap (λ z. z.level) made, same), gone w (raise l (derivation_of x)) (f ∙ sym (ap (raise l) made ∙ raise-same l s same)))

  -- a level with a single operand makes no node
  pub level-up : (l : ℕ) (x : Expr) → (derivation_of x).level ≤ l → Within ws d (level_part (suc l)) i F e [] j → F done ≡ node (level_part l) (raise l (derivation_of x)) done
      → ((derivation_of x).level ≤ suc l) × ReadsPart ws d (level_part (suc l)) i (raise (suc l) (derivation_of x)) j
  level-up l x h w f = (omega (arith, h), gone w (raise (suc l) (derivation_of x)) (f ∙ sym (raise-up l (derivation_of x) h)))

module _ {ws : List Token} {d i j : ℕ} {n : Part} where
  pub once : {g : Forest} → ReadsPart ws d n i g j → ReadsTo ws d (Of Once n) i (node n g) j
  once p = record {
    reads = λ s f m q. reads-part p.begins p.shallow p.inside q;
    fails = λ s e q. after-part p.begins p.shallow p.inside q;
    ahead = p.ahead;
    within = p.within;
  }

  pub maybe : {g : Forest} → ReadsPart ws d n i g j → ReadsTo ws d (Of Maybe n) i (node n g) j
  maybe p = record {
    reads = λ s f m q. reads-part p.begins p.shallow p.inside q;
    fails = λ s e q. after-part p.begins p.shallow p.inside q;
    ahead = p.ahead;
    within = p.within;
  }

pub skipped : {ws : List Token} {d i : ℕ} {n : Part} → right_side n (kind_at ws i) ≡ None → i < length ws → ReadsTo ws d (Of Maybe n) i (λ f. f) i
skipped h within = record {
  reads = λ s f m q. reads-skip h refl q;
  fails = λ s e q. after-skip h refl q;
  ahead = omega arith;
  within = within;
}

-- the same, where an equation says that the index stays
pub marked : {ws : List Token} {d i j : ℕ} {a : TokenKind} → (is (kind_at ws i) a ≡ true) × (j ≡ i + 1) × (j < length ws) → ReadsTo ws d (Mark a) i (λ f. f) j
marked {ws} {d} {i} {j} {a} w = record {
  reads = λ s f m q. reads-mark w.0 (subst (λ z. Reads limit ws d s z f m) w.1 q);
  fails = λ s e q. after-mark w.0 (subst (λ z. Fails limit ws d s z e) w.1 q);
  ahead = omega (arith, w.1);
  within = w.2;
}

pub kept : {ws : List Token} {d i j : ℕ} {any : List TokenKind} {kind : TokenKind} {value : TokenValue} (x : ℕ) → x ≡ i → Took ws i any kind value j → ReadsTo ws d (Kept any) i (leaf x kind value) j
kept {ws} {d} {i} {j} {any} {kind} {value} x same w = record {
  reads = λ s f m q. subst (λ z. Reads limit ws d (Kept any ∷ s) i (leaf z kind value f) m) (sym same)
      (subst (λ z. Reads limit ws d (Kept any ∷ s) i z m) (ap (λ z. leaf i z (value_at ws i) f) w.kind_is ∙ ap (λ z. leaf i kind z f) w.value_is) (reads-kept w.among (subst (λ z. Reads limit ws d s z f m) w.ahead q)));
  fails = λ s e q. after-kept w.among (subst (λ z. Fails limit ws d s z e) w.ahead q);
  ahead = omega (arith, w.ahead);
  within = w.within;
}

-- the same derivation in another form
pub to-as : {ws : List Token} {d i j : ℕ} {first : Symbol} (G H : Forest → Forest) → ((f : Forest) → G f ≡ H f) → ReadsTo ws d first i G j → ReadsTo ws d first i H j
to-as {ws} {d} {i} {j} {first} G H same r = record {
  reads = λ s f m q. subst (λ z. Reads limit ws d (first ∷ s) i z m) (same f) (r.reads s f m q);
  fails = r.fails;
  ahead = r.ahead;
  within = r.within;
}

-- where a part stops, as the first of further symbols
pub once-stops : (ws : List Token) (d i : ℕ) (n : Part) (x : Stop) → Stops ws d (one n) i x → (s : List Symbol) → Stops ws d (Of Once n ∷ s) i x
once-stops ws d i n (stop.Unexpected m) h s = one-fails (start d (Of Once n ∷ s) i) (Unexpected m) h
once-stops ws d i n (stop.TooDeep m) h s = one-fails (start d (Of Once n ∷ s) i) (TooDeep m) h
once-stops ws d i n stop.Memory h s = tt

pub mark-stops : (ws : List Token) (d i : ℕ) (a : TokenKind) (x : Stop) → (is (kind_at ws i) a ≡ false) × (x ≡ stop.Unexpected i) → (s : List Symbol) → Stops ws d (Mark a ∷ s) i x
mark-stops ws d i a x h s = subst (λ z. Stops ws d (Mark a ∷ s) i z) (sym h.1) (fails-mark h.0)

pub memory-stops : (ws : List Token) (d i : ℕ) (s : List Symbol) (x : Stop) → x ≡ stop.Memory → Stops ws d s i x
memory-stops ws d i s x h = subst (λ z. Stops ws d s i z) (sym h) tt

-- the exits of a `?`
pub exit : {A : Type 0} (P : Result A Stop → Type 0) (r : Result A Stop) (e : Stop) → IsErrAnd r (λ y. y ≡ e) → P (Err e) → P r
exit P (Ok x) e h p = absurd h
exit P (Err y) e h p = subst (λ z. P (Err z)) (sym h) p

-- a call whose result is returned as it is
pub passed : {A : Type 0} (P : Result A Stop → Type 0) (Q : Result A Stop → Type 0) → ((x : A) → P (Ok x) → Q (Ok x)) → ((e : Stop) → P (Err e) → Q (Err e)) → (r : Result A Stop) → P r → Q r
passed P Q ok err (Ok x) h = ok x h
passed P Q ok err (Err e) h = err e h

-- a repeated part, as a loop reads it
abbrev pub Row : List Token → ℕ → Part → ℕ → List Forest → ℕ → Type 0
Row ws d n b fs at = (s : List Symbol) → Leads ws d (Of Many n ∷ s) b (row n fs) d (Of Many n ∷ s) at

module _ {A : Type 0} (view : A → Forest) {ws : List Token} {d b : ℕ} {n : Part} where
  pub row-start : (xs : List A) → xs ≡ [] → Row ws d n b (map view xs) b
  row-start xs none s = leads-as (λ f. f) (row n (map view xs)) (λ f. ap (λ l. row n (map view l) f) (sym none)) (start d (Of Many n ∷ s) b)

  pub row-more : {at end : ℕ} (xs ys : List A) (y : A) (f : Forest) → Row ws d n b (map view xs) at → ReadsPart ws d n at f end → ys ≡ xs ++ y ∷ [] → view y ≡ f → Row ws d n b (map view ys) end
  row-more {at} {end} xs ys y f l p same made s =
      leads-as (λ h. row n (map view xs) (node n f h)) (row n (map view ys))
      (λ h. sym (ap (λ z. row n (map view z) h) same ∙ ap (λ z. row n z h) (map-append view xs y) ∙ row-append n (map view xs) (view y) h ∙ ap (λ z. row n (map view xs) (node n z h)) made))
      (past-one (l s) p)

  pub row-end : {at : ℕ} (xs : List A) → Row ws d n b (map view xs) at → right_side n (kind_at ws at) ≡ None → b ≤ at → at < length ws
      → ReadsTo ws d (Of Many n) b (row n (map view xs)) at
  row-end {at} xs l none ahead within = record {
    reads = λ s f m q. (l s).reads f m (reads-skip none refl q);
    fails = λ s e q. (l s).fails e (after-skip none refl q);
    ahead = ahead;
    within = within;
  }

pub row-stops : (ws : List Token) (d b at : ℕ) (n : Part) (fs : List Forest) → Row ws d n b fs at → (x : Stop) → ((s : List Symbol) → Stops ws d (Of Many n ∷ s) at x)
    → (s : List Symbol) → Stops ws d (Of Many n ∷ s) b x
row-stops ws d b at n fs l (stop.Unexpected m) h s = (l s).fails (Unexpected m) (h s)
row-stops ws d b at n fs l (stop.TooDeep m) h s = (l s).fails (TooDeep m) (h s)
row-stops ws d b at n fs l stop.Memory h s = tt

pub no-items : {A : Type 0} (xs : List A) → length xs ≡ 0 → xs ≡ []
no-items [] h = refl
no-items (x ∷ xs) h = absurd (omega (arith, h))

pub map-twice : {A B C : Type 0} (f : B → C) (g : A → B) (xs : List A) → map (λ x. f (g x)) xs ≡ map f (map g xs)
map-twice f g [] = refl
map-twice f g (x ∷ xs) = ap (λ l. f (g x) ∷ l) (map-twice f g xs)

pub kept-stops : (ws : List Token) (d i : ℕ) (any : List TokenKind) (x : Stop) → one_of any (kind_at ws i) ≡ false → x ≡ stop.Unexpected i → (s : List Symbol) → Stops ws d (Kept any ∷ s) i x
kept-stops ws d i any x none h s = subst (λ z. Stops ws d (Kept any ∷ s) i z) (sym h) (fails-kept none)

pub some-items : {A : Type 0} (xs : List A) (n : ℕ) → n ≡ length xs → nat_eq n 0 ≡ false → 0 < length xs
some-items [] n e h = absurd (false≢true (sym h ∙ ap (λ m. nat_eq m 0) e))
some-items (x ∷ xs) n e h = omega arith

pub leads-stops : {ws : List Token} {d0 d i0 i : ℕ} {s0 s : List Symbol} {F : Forest → Forest} → Leads ws d0 s0 i0 F d s i → (x : Stop) → Stops ws d s i x → Stops ws d0 s0 i0 x
leads-stops l (stop.Unexpected m) h = l.fails (Unexpected m) h
leads-stops l (stop.TooDeep m) h = l.fails (TooDeep m) h
leads-stops l stop.Memory h = tt

-- past a list of actuals
pub to-list : {ws : List Token} {d i j e m : ℕ} {n : Part} {F : Forest → Forest} {s : List Symbol} {l : List Derivation} → Within ws d n i F e (Of Once g.Expression ∷ Of Many g.NextArgument ∷ s) j → ReadsList ws e j l m
    → Within ws d n i (λ f. F (listed l f)) e s m
to-list {s = s} {l = l} w r = record {
  right = w.right;
  begins = w.begins;
  shallow = w.shallow;
  depth = w.depth;
  leads = record { reads = λ f k q. w.leads.reads (listed l f) k (r.reads s f k q); fails = λ x q. w.leads.fails x (r.fails s x q) };
  ahead = omega (arith, w.ahead, r.ahead);
  within = r.within;
}

pub unexpected-primary : (ws : List Token) (d i : ℕ) (x : Stop) → x ≡ stop.Unexpected i → right_side g.Primary (kind_at ws i) ≡ None → Stops ws d (one g.Primary) i x
unexpected-primary ws d i x h none = subst (λ z. Stops ws d (one g.Primary) i z) (sym h) (fails-part none refl)
