-- Left sides and what is assigned to them.
use Rattle.std.proofs.Common.{◌≡◌, ℕ, false, List, [], ◌∷◌, ◌++◌, reverse, Some, refl, sym, ap, ◌∙◌, subst}
use Rattle.std.proofs.lemmas.List.{reverse-append}
use Rattle.sim_scope.specs.Assignments.{LeftSide}
use Rattle.sim_scope.specs.Source.{Source, line_at}
use Rattle.sim_values.specs.declared.kind.Kind.{Kind}
use Rattle.sim_values.specs.declared.kind.Kind.TheVariants as kind
use Rattle.sim_meaning.specs.Closing.{Left, LeftAddress, LeftCell, LeftNamed, LeftReference, LeftText, NoLeftSide, close_left, is_text}
use Rattle.sim_meaning.specs.Pending.{Do, Eval, Instances, Item, Target, ToAddress, ToCell, ToNamed, ToReference, ToText}
use Rattle.sim_meaning.specs.Statements.{Lefts, assigning, lefts}
use Rattle.sim_meaning.specs.Statements as statements
use Rattle.sim_sound.specs.Held.{Simply}
use Rattle.sim_sound.specs.Statements.{LeftsAre}
use Rattle.sim_sound.specs.Typed.{Typed}
use Rattle.sim_sound.proofs.Lefts.{LeftFine, left_fine}
use Rattle.sim_sound.proofs.Running.{StoreFine, WorkFine}
use Rattle.sim_sound.proofs.Sound.{OpFine, TargetFine, TargetsFine, simple, value_stored}
use Rattle.sim_sound.proofs.Values.{Whichever, AllArrays, Kinds, ReferenceAddress, Value, Waits, Whole}

reverse_first : {A : Type 0} (x : A) (xs : List A) → reverse (x ∷ xs) ≡ reverse xs ++ x ∷ []
reverse_first x xs = reverse-append (x ∷ []) xs

module _ (s : Source) (ok : Typed s) (o : AllArrays) (m : Instances) (store : StoreFine s o m) (i t u : ℕ) (here : Whole s m i u) (Below : Waits → Type 0) (Outermost : Type 0) (k : Kind) where
  abbrev Wk : List Item → List Kinds → Type 0
  Wk w ks = WorkFine s o m Below Outermost i t w [] ks

  targets_append : (xs : List Target) (y : Target) (before middle behind : List Kinds) → TargetsFine s m i t xs (Simply k) before middle → TargetFine s m i t y (Simply k) middle behind → TargetsFine s m i t (xs ++ y ∷ []) (Simply k) before behind
  targets_append [] y before middle behind a b = (behind, subst (λ z. TargetFine s m i t y (Simply k) z behind) a b, refl)
  targets_append (x ∷ xs) y before middle behind a b = (a.0, a.1, targets_append xs y a.0 middle behind a.2 b)

  -- what is found of left sides: behind them something is in hand, to which a value is assigned from right to left
  pub record Found (es : List LeftSide) : Type 0 where
    pub is : Lefts
    pub found : lefts s m i es ≡ Some is
    pub kinds : List Kinds → List Kinds
    pub shared : (ks : List Kinds) → TargetsFine s m i t (reverse is.targets) (Simply k) (kinds ks) ks
    pub works : (w : List Item) (ks : List Kinds) → Wk w (kinds ks) → Wk (is.work ++ w) ks

  abbrev closed : LeftSide → Left
  closed e = close_left s m i e.sign (line_at s e.token) e.target

  -- one target more, in front
  shares : (x : Target) (xs : List Target) (all ks next : List Kinds) → TargetsFine s m i t (reverse xs) (Simply k) all next → TargetFine s m i t x (Simply k) next ks → TargetsFine s m i t (reverse (x ∷ xs)) (Simply k) all ks
  shares x xs all ks next a c = subst (λ z. TargetsFine s m i t z (Simply k) all ks) (sym (reverse_first x xs)) (targets_append (reverse xs) x all next ks a c)

  before_is : (x : Left) (es : List LeftSide) (e : LeftSide) → closed e ≡ x → LeftFine s ok o m store i t u here x k → Found es → Found (e ∷ es)
  before_is (LeftCell j key) es e is a f = record {
    is = record { work = (f.is).work; targets = ToCell j key ∷ (f.is).targets };
    found = ap (λ z. statements.before z (lefts s m i es)) is ∙ ap (statements.before (LeftCell j key)) f.found;
    kinds = f.kinds;
    shared = λ ks. shares (ToCell j key) (f.is).targets (f.kinds ks) ks ks (f.shared ks) (a, refl);
    works = f.works;
  }
  before_is (LeftAddress x) es e is a f = record {
    is = record { work = Do (Eval x) ∷ (f.is).work; targets = ToAddress ∷ (f.is).targets };
    found = ap (λ z. statements.before z (lefts s m i es)) is ∙ ap (statements.before (LeftAddress x)) f.found;
    kinds = λ ks. f.kinds (a.0 ∷ ks);
    shared = λ ks. shares ToAddress (f.is).targets (f.kinds (a.0 ∷ ks)) ks (a.0 ∷ ks) (f.shared (a.0 ∷ ks)) (a.0, a.1, refl);
    works = λ w ks h. ([], a.0 ∷ ks, (Some a.0, a.2, refl, refl), f.works w (a.0 ∷ ks) h);
  }
  before_is (LeftText line x) es e is a f = record {
    is = record { work = Do (Eval x) ∷ (f.is).work; targets = ToText line ∷ (f.is).targets };
    found = ap (λ z. statements.before z (lefts s m i es)) is ∙ ap (statements.before (LeftText line x)) f.found;
    kinds = λ ks. f.kinds (Value (Simply kind.Text) ∷ ks);
    shared = λ ks. shares (ToText line) (f.is).targets (f.kinds (Value (Simply kind.Text) ∷ ks)) ks (Value (Simply kind.Text) ∷ ks) (f.shared (Value (Simply kind.Text) ∷ ks)) (ap Simply a.0, refl);
    works = λ w ks h. ([], Value (Simply kind.Text) ∷ ks, (simple kind.Text, a.1, refl, refl), f.works w (Value (Simply kind.Text) ∷ ks) h);
  }
  before_is (LeftReference line x) es e is a f = record {
    is = record { work = Do (Eval x) ∷ (f.is).work; targets = ToReference line ∷ (f.is).targets };
    found = ap (λ z. statements.before z (lefts s m i es)) is ∙ ap (statements.before (LeftReference line x)) f.found;
    kinds = λ ks. f.kinds (ReferenceAddress a.1 ∷ ks);
    shared = λ ks. shares (ToReference line) (f.is).targets (f.kinds (ReferenceAddress a.1 ∷ ks)) ks (ReferenceAddress a.1 ∷ ks) (f.shared (ReferenceAddress a.1 ∷ ks)) (ap Simply a.0, a.1, refl);
    works = λ w ks h. ([], ReferenceAddress a.1 ∷ ks, (Some (ReferenceAddress a.1), a.2, refl, refl), f.works w (ReferenceAddress a.1 ∷ ks) h);
  }
  before_is (LeftNamed c line x) es e is a f = record {
    is = record { work = Do (Eval x) ∷ (f.is).work; targets = ToNamed c line ∷ (f.is).targets };
    found = ap (λ z. statements.before z (lefts s m i es)) is ∙ ap (statements.before (LeftNamed c line x)) f.found;
    kinds = λ ks. f.kinds (Whichever false kind.Reference ∷ ks);
    shared = λ ks. shares (ToNamed c line) (f.is).targets (f.kinds (Whichever false kind.Reference ∷ ks)) ks (Whichever false kind.Reference ∷ ks) (f.shared (Whichever false kind.Reference ∷ ks)) (ap Simply a.0, refl);
    works = λ w ks h. ([], Whichever false kind.Reference ∷ ks, (Some (Whichever false kind.Reference), a.1, refl, refl), f.works w (Whichever false kind.Reference ∷ ks) h);
  }
  before_is NoLeftSide es e is a f = absurd a

  pub lefts_found : (es : List LeftSide) → LeftsAre s u es k → Found es
  lefts_found [] a = record { is = record { work = []; targets = [] }; found = refl; kinds = λ ks. ks; shared = λ ks. refl; works = λ w ks h. h }
  lefts_found (e ∷ es) a = before_is (closed e) es e refl (left_fine s ok o m store i t u here (is_text s e.target) e.sign (line_at s e.token) e.target k a.0) (lefts_found es a.1)

  -- the value is in hand, on top of what was found
  pub assigning_fine : (xs : List Target) (all ks : List Kinds) → TargetsFine s m i t (reverse xs) (Simply k) all ks → OpFine s o m i t (assigning xs) [] [] (Value (Simply k) ∷ all) ks
  assigning_fine [] all ks a = (k, all, refl, a, refl, refl)
  assigning_fine (x ∷ []) all ks a = value_stored k all refl (subst (λ z. TargetFine s m i t x (Simply k) all z) (sym a.2) a.1) refl refl
  assigning_fine (x ∷ y ∷ ys) all ks a = (k, all, refl, a, refl, refl)
