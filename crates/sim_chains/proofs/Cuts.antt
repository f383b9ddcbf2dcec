-- Where a chain is cut.
use Rattle.std.proofs.Common.{◌≡◌, ◌+◌, ℕ, Bool, true, false, List, [], ◌∷◌, ◌++◌, Option, Some, None, refl, sym, ap, ◌∙◌, if◌then◌else◌}
use Rattle.std.proofs.lemmas.Bool.{eq-eqb, eqb-true, false≢true}
use Rattle.std.specs.Prelude.{◌||◌}
use Rattle.std.specs.Option.{option_map}
use Rattle.sim_chains.specs.Chains.{Cut, cut_at, joined, is_instance, once_if, stands_on, times_on, under}

pub some_is : {A : Type 0} {a b : A} → Some a ≡ Some b → a ≡ b
some_is e = cc

pub no_some : {A : Type 0} {a : A} → None ≡ Some a → ⊥
no_some e = cc

-- an owner that is tested to be an instance is it
pub instance_is : (x : ℕ) (o : Option ℕ) → is_instance x o ≡ true → o ≡ Some x
instance_is x None e = absurd (false≢true e)
instance_is x (Some y) e = ap (λ (k : ℕ). Some k) (eqb-true y x e)

pub is_itself : (x : ℕ) → is_instance x (Some x) ≡ true
is_itself x = eq-eqb x x refl

pub left_false : (a b : Bool) → (a || b) ≡ false → a ≡ false
left_false true b e = e
left_false false b e = refl

pub right_false : (a b : Bool) → (a || b) ≡ false → b ≡ false
right_false true b e = absurd (false≢true (sym e))
right_false false b e = e

module _ {A : Type 0} (owner : A → Option ℕ) where
  -- what is cut is joined to the chain that it was; the activation at the cut is that of the instance, which does not stand above
  pub record IsCut (x : ℕ) (l : List A) (k : Cut A) : Type 0 where
    pub chain : joined k ≡ l
    pub here : owner k.here ≡ Some x
    pub free : stands_on owner x k.above ≡ false

  pub cut_is : (x : ℕ) (l : List A) (k : Cut A) → cut_at owner x l ≡ Some k → IsCut x l k
  cut_is x [] k e = absurd (no_some e)
  cut_is x (a ∷ l) k e = here (cut_is x l) (is_instance x (owner a)) refl e
    where
      behind : ((d : Cut A) → cut_at owner x l ≡ Some d → IsCut x l d) → is_instance x (owner a) ≡ false → (o : Option (Cut A)) → cut_at owner x l ≡ o → option_map (under a) o ≡ Some k → IsCut x (a ∷ l) k
      behind rest other None is e = absurd (no_some e)
      behind rest other (Some d) is e =
          let inner = rest d is in
          let same : under a d ≡ k = some_is e in
          record {
            chain = ap (λ (z : Cut A). joined z) (sym same) ∙ ap (λ (z : List A). a ∷ z) inner.chain;
            here = ap (λ (z : Cut A). owner z.here) (sym same) ∙ inner.here;
            free = ap (λ (z : Cut A). stands_on owner x z.above) (sym same) ∙ ap (λ (b : Bool). b || stands_on owner x d.above) other ∙ inner.free;
          }

      here : ((d : Cut A) → cut_at owner x l ≡ Some d → IsCut x l d) → (b : Bool) → is_instance x (owner a) ≡ b
          → (if b then Some (record { above = []; here = a; below = l }) else option_map (under a) (cut_at owner x l)) ≡ Some k → IsCut x (a ∷ l) k
      here rest true is e =
          let same : ◌≡◌ {A = Cut A} (record { above = []; here = a; below = l }) k = some_is e in
          record {
            chain = ap (λ (z : Cut A). joined z) (sym same);
            here = ap (λ (z : Cut A). owner z.here) (sym same) ∙ instance_is x (owner a) is;
            free = ap (λ (z : Cut A). stands_on owner x z.above) (sym same);
          }
      here rest false is e = behind rest is (cut_at owner x l) refl e

  -- what is joined at an instance that does not stand above is cut there
  pub cuts : (x : ℕ) (k : Cut A) → owner k.here ≡ Some x → stands_on owner x k.above ≡ false → cut_at owner x (joined k) ≡ Some k
  cuts x k is free = go k.above k.here k.below is free
    where
      go : (above : List A) (a : A) (below : List A) → owner a ≡ Some x → stands_on owner x above ≡ false → cut_at owner x (above ++ a ∷ below) ≡ Some (record { above = above; here = a; below = below })
      go [] a below is free =
          ap (λ (b : Bool). if b then Some (record { above = []; here = a; below = below }) else option_map (under a) (cut_at owner x below)) (ap (is_instance x) is ∙ is_itself x)
      go (y ∷ ys) a below is free =
          ap (λ (b : Bool). if b then Some (record { above = []; here = y; below = ys ++ a ∷ below }) else option_map (under y) (cut_at owner x (ys ++ a ∷ below))) (left_false (is_instance x (owner y)) (stands_on owner x ys) free)
          ∙ ap (option_map (under y)) (go ys a below is (right_false (is_instance x (owner y)) (stands_on owner x ys) free))

  -- an instance that does not stand on a chain has no cut there, and stands there no time
  pub none : (x : ℕ) (l : List A) → stands_on owner x l ≡ false → cut_at owner x l ≡ None
  none x [] free = refl
  none x (y ∷ ys) free =
      ap (λ (b : Bool). if b then Some (record { above = []; here = y; below = ys }) else option_map (under y) (cut_at owner x ys)) (left_false (is_instance x (owner y)) (stands_on owner x ys) free)
      ∙ ap (option_map (under y)) (none x ys (right_false (is_instance x (owner y)) (stands_on owner x ys) free))

  pub some : (x : ℕ) (l : List A) → cut_at owner x l ≡ None → stands_on owner x l ≡ false
  some x [] e = refl
  some x (y ∷ ys) e = here (some x ys) (is_instance x (owner y)) refl e
    where
      behind : (cut_at owner x ys ≡ None → stands_on owner x ys ≡ false) → (k : Option (Cut A)) → cut_at owner x ys ≡ k → option_map (under y) k ≡ None → stands_on owner x ys ≡ false
      behind rest None is e = rest is
      behind rest (Some d) is e = absurd (no_some (sym e))

      here : (cut_at owner x ys ≡ None → stands_on owner x ys ≡ false) → (b : Bool) → is_instance x (owner y) ≡ b
          → (if b then Some (record { above = []; here = y; below = ys }) else option_map (under y) (cut_at owner x ys)) ≡ None → (is_instance x (owner y) || stands_on owner x ys) ≡ false
      here rest true t e = absurd (no_some (sym e))
      here rest false f e = ap (λ (b : Bool). b || stands_on owner x ys) f ∙ behind rest (cut_at owner x ys) refl e

  pub times-free : (x : ℕ) (l : List A) → stands_on owner x l ≡ false → times_on owner x l ≡ 0
  times-free x [] free = refl
  times-free x (a ∷ l) free =
      ap (λ (b : Bool). once_if b + times_on owner x l) (left_false (is_instance x (owner a)) (stands_on owner x l) free)
      ∙ ap (λ (n : ℕ). 0 + n) (times-free x l (right_false (is_instance x (owner a)) (stands_on owner x l) free))
