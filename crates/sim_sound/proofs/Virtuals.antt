-- Procedures as values: what matches a virtual, and calls that are checked.
use Rattle.std.proofs.Common.{◌≡◌, ℕ, zero, suc, Bool, true, false, List, [], ◌∷◌, ◌++◌, ◌<◌, length, Option, Some, None, refl, sym, ap, ◌∙◌, subst, arith}
use Rattle.std.specs.Prelude.{◌==◌, ◌&&◌, ◌+◌, slice_get}
use Rattle.sim_base.specs.declared.limits.Limits.{Limits}
use Rattle.sim_base.specs.declared.numbering.DeclNo.{DeclNo}
use Rattle.sim_base.specs.declared.run_error.RunError.TheVariants.{NoMatch, WrongNumberOfParameters, WrongParameter}
use Rattle.sim_scope.specs.declared.types.Formal.{Formal}
use Rattle.sim_scope.specs.declared.types.FormalKind.{FormalKind}
use Rattle.sim_scope.specs.declared.types.FormalKind.TheVariants as shape
use Rattle.sim_scope.specs.declared.types.SimType.{SimType}
use Rattle.sim_scope.specs.declared.types.SimType.TheVariants as type
use Rattle.sim_scope.specs.Levels.{has_level}
use Rattle.sim_scope.specs.Operators.{is_reference}
use Rattle.sim_scope.specs.Source.{Source, block_of}
use Rattle.sim_tree.specs.declared.stmt.TypeName.{TypeName}
use Rattle.sim_tree.specs.Syntax.{Expressions, NoMore, Then}
use Rattle.sim_code.specs.Events.{choosing, having, pop_many, popping, stopping, when}
use Rattle.sim_code.specs.Formals.{and_then, each, holder_at, same_holder, suiting}
use Rattle.sim_code.specs.Instances.{is_live}
use Rattle.sim_code.specs.Outcome.{Run, RunFault, World}
use Rattle.sim_code.specs.Virtuals.{counting, matching}
use Rattle.sim_meaning.specs.Attributes.{has_type}
use Rattle.sim_meaning.specs.Checks.{Passed, PassedArray, PassedProcedure, PassedValue, agrees, alike, all_fit, all_passed, array_fits, fits, fits_as, holder_of, holders_agree, if_reference, is_within, on_chain, passed, result_fits, same_class, type_passed, value_fits}
use Rattle.sim_meaning.specs.Entries.{formals_of, numbers_of}
use Rattle.sim_meaning.specs.Levels.{qualification}
use Rattle.sim_meaning.specs.Meaning.{are_alike, do_op, formal_in, formal_in_hand, has_result, is_called_so, leaves_value, procedure_at, procedure_entered}
use Rattle.sim_meaning.specs.Pending.{Activation, Actual, Address, ArrayValue, CallValueOp, CheckOp, Configuration, Instances, Item, Link, Of, Op, ProcedureOp, ProcedureValue, Val, VirtualOp, instance_in, procedure_in}
use Rattle.sim_meaning.specs.Steps.{count_of, go}
use Rattle.sim_meaning.specs.Texts.{ProcedureText, text}
use Rattle.sim_meaning.specs.Virtuals.{match_at, match_if, match_in_text, match_of_text}
use Rattle.sim_sound.specs.Expressions.{ClassNear, DeclaredNear, ParametersAre}
use Rattle.sim_sound.specs.Held.{Holds, In, Place, Procedure, ResultFits, given_by, result_holds, result_type}
use Rattle.sim_sound.specs.Typed.{FormalsNear, ResultWritten, Typed, ProcedureTyped}
use Rattle.sim_sound.proofs.Attributes.{holds_result, procedure_in as declared_in}
use Rattle.sim_sound.proofs.Entering.{link_is, lives_is, procedure_goes}
use Rattle.sim_sound.proofs.Evals.{IsFine, Work, goes_on}
use Rattle.sim_sound.proofs.FirstCells.{all_taken, back, formals_some, taken}
use Rattle.sim_sound.proofs.Fitting.{text_there}
use Rattle.sim_sound.proofs.Lifts.{Goes, any_popped, had, stops, whens}
use Rattle.sim_sound.proofs.Lists.{equal_numbers, no_some, numbers_equal, same_some}
use Rattle.sim_sound.proofs.Moves.{knows_near}
use Rattle.sim_sound.proofs.Operators.{bare}
use Rattle.sim_sound.proofs.Prefixes.{level_has, level_is, level_then, levels_solid}
use Rattle.sim_sound.proofs.Reach.{instance_from}
use Rattle.sim_sound.proofs.References.{object_popped}
use Rattle.sim_sound.proofs.Results.{given_then, results_then}
use Rattle.sim_sound.proofs.Running.{Begun, Operates, StoreFine}
use Rattle.sim_sound.proofs.Sound.{OpFine, VirtualIn, for_formals, formal_kinds, onto}
use Rattle.sim_sound.proofs.Values.{AddressOf, AllArrays, Checked, Component, Conforms, Copied, DeepFine, ForFormal, HandsFine, HeldDeep, ImageAddress, Kinds, Lasting, LinkTo, Marks, NewObject, ObjectIn, ObjectOf, ProcedureFine, ReferenceAddress, Stands, ValFine, Value, Whichever, hand_of, held_kinds, in_text, near_staying, own_text, see, Whole}

-- ---- what a call is held against

-- two types that are alike have classes that pass the test, where the formal one is a reference
abbrev HasClass : SimType → Type 0
HasClass (type.Ref d) = Unit {0}
HasClass type.NoneType = Unit {0}
HasClass _ = ⊥

and_right : (b c : Bool) → (b && c) ≡ true → c ≡ true
and_right true c e = e
and_right false c e = absurd (cc)

alike_class : (x : Bool) (a b : SimType) → HasClass a → alike x a b ≡ true → x ≡ true
alike_class x (type.Ref d) b has e = and_right (is_reference b) x e
alike_class x type.NoneType b has e = and_right (is_reference b) x e
alike_class x type.Integer b has e = absurd has
alike_class x type.Boolean b has e = absurd has
alike_class x type.Character b has e = absurd has
alike_class x type.Text b has e = absurd has

chain_class : (s : Source) (f : Option ℕ) (a : ℕ) → on_chain s f (Some a) ≡ true → (c : ℕ) × (f ≡ Some c)
chain_class s None a e = absurd (cc)
chain_class s (Some c) a e = (c, refl)

same_has : (f : Option ℕ) (a : ℕ) → same_class f (Some a) ≡ true → (c : ℕ) × (f ≡ Some c)
same_has None a e = absurd (cc)
same_has (Some c) a e = (c, refl)

within_class : (s : Source) (f : Option ℕ) (a : ℕ) → is_within s f (Some a) ≡ true → (c : ℕ) × (f ≡ Some c)
within_class s None a e = absurd (cc)
within_class s (Some c) a e = (c, refl)

-- the formal parameter has a class where the actual one does, if they fit
abbrev ClassToo : Source → (formal given : Option SimType) → Type 0
ClassToo s None given = Unit {0}
ClassToo s (Some a) given = HasClass a → (k : ℕ) → qualification s given ≡ Some k → (c : ℕ) × (qualification s (Some a) ≡ Some c)

value_class : (s : Source) (formal given : Option SimType) → value_fits s formal given ≡ true → ClassToo s formal given
value_class s None given e = tt
value_class s (Some a) None e = absurd (cc)
value_class s (Some a) (Some b) e = λ has k is. chain_class s (qualification s (Some a)) k (subst (λ z. on_chain s (qualification s (Some a)) z ≡ true) is (alike_class (on_chain s (qualification s (Some a)) (qualification s (Some b))) a b has e))

array_class : (s : Source) (formal given : Option SimType) → array_fits s formal given ≡ true → ClassToo s formal given
array_class s None given e = tt
array_class s (Some a) None e = absurd (cc)
array_class s (Some a) (Some b) e = λ has k is. same_has (qualification s (Some a)) k (subst (λ z. same_class (qualification s (Some a)) z ≡ true) is (alike_class (same_class (qualification s (Some a)) (qualification s (Some b))) a b has e))

result_class : (s : Source) (formal given : Option SimType) → result_fits s formal given ≡ true → ClassToo s formal given
result_class s None given e = tt
result_class s (Some a) None e = absurd (cc)
result_class s (Some a) (Some b) e = λ has k is. within_class s (qualification s (Some a)) k (subst (λ z. is_within s (qualification s (Some a)) z ≡ true) is (alike_class (is_within s (qualification s (Some a)) (qualification s (Some b))) a b has e))

fits_class : (s : Source) (f : Formal) (p : Passed) → fits s f p ≡ true → ClassToo s f.ty (type_passed p)
unfolding fits
fits_class s f p e = by_kind f.kind p e
  where
    by_kind : (g : FormalKind) (p : Passed) → fits_as s g f.ty p ≡ true → ClassToo s f.ty (type_passed p)
    by_kind shape.Simple (PassedValue given is_variable) e = value_class s f.ty given e
    by_kind shape.Simple (PassedProcedure result zero) e = value_class s f.ty result e
    by_kind shape.Simple (PassedProcedure result (suc n)) e = absurd (cc)
    by_kind shape.Simple (PassedArray element) e = absurd (cc)
    by_kind shape.Array (PassedArray element) e = array_class s f.ty element e
    by_kind shape.Array (PassedProcedure result n) e = absurd (cc)
    by_kind shape.Array (PassedValue given is_variable) e = absurd (cc)
    by_kind shape.Procedure (PassedProcedure result n) e = result_class s f.ty result e
    by_kind shape.Procedure (PassedArray element) e = absurd (cc)
    by_kind shape.Procedure (PassedValue given is_variable) e = absurd (cc)

and_left : (b c : Bool) → (b && c) ≡ true → b ≡ true
and_left true c e = refl
and_left false c e = absurd (cc)

module _ (s : Source) (ok : Typed s) (o : AllArrays) (m : Instances) (store : StoreFine s o m) where
  -- the instance to which a class belongs is there
  held_in : (j : ℕ) (from : Place) → Stands s m j from → (c : ℕ) → DeclaredNear s from (Some c) → (h : ℕ) × (holder_of s m (Some c) j ≡ Some h)
  held_in j from at c near =
      let x = instance_from s ok o m store j from at near.0 near.1 in
      (x.0, ap (λ z. holder_at m z j) near.2 ∙ x.1)

  module _ (parent around home : ℕ) (from : Place) (whole : Whole s m parent around) (at : Stands s m home from) where
    both_held : (f a : ℕ) → DeclaredNear s (In around) (Some f) → DeclaredNear s from (Some a) → (b : Bool) × (holders_agree s m parent home (Some f) (Some a) ≡ Some b)
    both_held f a near far =
        let x = held_in parent (In around) (in_text whole) f near in
        let y = held_in home from at a far in
        ((x.0 == y.0), ap (λ z. same_holder z (holder_of s m (Some a) home)) x.1 ∙ ap (same_holder (Some x.0)) y.1)

    by_classes : (f a : Option ℕ) → DeclaredNear s (In around) f → DeclaredNear s from a → ((k : ℕ) → a ≡ Some k → (c : ℕ) × (f ≡ Some c)) → (b : Bool) × (holders_agree s m parent home f a ≡ Some b)
    by_classes f None near far too = (true, refl)
    by_classes None (Some a) near far too = let x = too a refl in absurd (no_some None x.0 refl x.1)
    by_classes (Some f) (Some a) near far too = both_held f a near far

    if_class : (ty given : Option SimType) → ClassNear s (In around) ty → ClassNear s from given → ClassToo s ty given → (b : Bool) × (if_reference ty (holders_agree s m parent home (qualification s ty) (qualification s given)) ≡ Some b)
    if_class None given near far too = (true, refl)
    if_class (Some (type.Ref d)) given near far too = by_classes (qualification s (Some (type.Ref d))) (qualification s given) near far (λ k is. too tt k is)
    if_class (Some type.NoneType) given near far too = by_classes (qualification s (Some type.NoneType)) (qualification s given) near far (λ k is. too tt k is)
    if_class (Some type.Integer) given near far too = (true, refl)
    if_class (Some type.Boolean) given near far too = (true, refl)
    if_class (Some type.Character) given near far too = (true, refl)
    if_class (Some type.Text) given near far too = (true, refl)

    agree_is : (f : Formal) (p : Passed) → ClassNear s (In around) f.ty → ClassNear s from (type_passed p) → fits s f p ≡ true → (b : Bool) × (agrees s m parent home f p ≡ Some b)
    unfolding agrees
    agree_is f p near far fit = if_class f.ty (type_passed p) near far (fits_class s f p fit)

    and_is : (x y : Option Bool) → (b : Bool) × (x ≡ Some b) → (b : Bool) × (y ≡ Some b) → (b : Bool) × (and_then x y ≡ Some b)
    and_is x y (false, e) g = (false, ap (λ z. and_then z y) e)
    and_is x y (true, e) g = (g.0, ap (λ z. and_then z y) e ∙ g.1)

    each_is : (fs : List Formal) (es : Expressions) → FormalsNear s around fs → ParametersAre s from es → all_fit s fs (all_passed s es) ≡ true → (b : Bool) × (each (agrees s m parent home) fs (all_passed s es) ≡ Some b)
    unfolding each
    each_is [] es near typed fit = (true, refl)
    each_is (f ∷ fs) NoMore near typed fit = (true, refl)
    each_is (f ∷ fs) (Then e es) near typed fit =
        and_is (agrees s m parent home f (passed s e)) (each (agrees s m parent home) fs (all_passed s es))
        (agree_is f (passed s e) near.0 typed.1 (and_left (fits s f (passed s e)) (all_fit s fs (all_passed s es)) fit))
        (each_is fs es near.1 typed.2 (and_right (fits s f (passed s e)) (all_fit s fs (all_passed s es)) fit))

-- ---- what is passed for the formal parameters of a procedure in hand

-- the first ones of a list
abbrev first_ones : ℕ → List Formal → List Formal
first_ones zero fs = []
first_ones (suc n) [] = []
first_ones (suc n) (f ∷ fs) = f ∷ first_ones n fs

one_longer : (n : ℕ) (fs : List Formal) (f : Formal) → slice_get fs n ≡ Some f → first_ones (suc n) fs ≡ first_ones n fs ++ f ∷ []
one_longer n [] f e = absurd (cc)
one_longer zero (g ∷ fs) f e = ap (λ z. z ∷ []) (same_some (Some g) g f refl e)
one_longer (suc n) (g ∷ fs) f e = ap (λ z. g ∷ z) (one_longer n fs f e)

all_ones : (fs : List Formal) → first_ones (length fs) fs ≡ fs
all_ones [] = refl
all_ones (f ∷ fs) = ap (λ z. f ∷ z) (all_ones fs)

kinds_longer : (s : Source) (fs : List Formal) (f : Formal) → formal_kinds s (fs ++ f ∷ []) ≡ formal_kinds s fs ++ hand_of s f ∷ []
kinds_longer s [] f = refl
kinds_longer s (g ∷ fs) f = ap (λ z. hand_of s g ∷ z) (kinds_longer s fs f)

onto_longer : (hs : List (Option Kinds)) (x : Kinds) (ks : List Kinds) → onto (hs ++ Some x ∷ []) ks ≡ x ∷ onto hs ks
onto_longer [] x ks = refl
onto_longer (None ∷ hs) x ks = onto_longer hs x ks
onto_longer (Some h ∷ hs) x ks = onto_longer hs x (h ∷ ks)

deep_of : (s : Source) (o : AllArrays) (m : Instances) (j : ℕ) (vs : List Val) (k : Kinds) (v : Val) → HeldDeep s o m j (length vs) k v → DeepFine s o m j vs k v
deep_of s o m j vs (Copied k) (ArrayValue a) f = f
deep_of s o m j vs (Copied k) (Of p) f = f
deep_of s o m j vs (Copied k) (Link z) f = f
deep_of s o m j vs (Copied k) (Address z) f = f
deep_of s o m j vs (Copied k) (ProcedureValue z y) f = f
deep_of s o m j vs (Copied k) (Actual home pr z) f = f
deep_of s o m j vs (ForFormal number) v f = absurd f
deep_of s o m j vs (Value h) v f = f
deep_of s o m j vs (AddressOf k) v f = f
deep_of s o m j vs (ReferenceAddress c) v f = f
deep_of s o m j vs ImageAddress v f = f
deep_of s o m j vs (LinkTo u) v f = f
deep_of s o m j vs (Lasting h) v f = f
deep_of s o m j vs Component v f = f
deep_of s o m j vs (ObjectIn c) v f = f
deep_of s o m j vs (Whichever b k) v f = f
deep_of s o m j vs (NewObject c) v f = f
deep_of s o m j vs (Checked es result) v f = f

module _ (s : Source) (o : AllArrays) (m : Instances) (j : ℕ) where
  pub record InHand (es : Expressions) (r : Option SimType) (n : ℕ) (vals : List Val) : Type 0 where
    pub text_of : ℕ
    pub instance : ℕ
    pub there : slice_get vals n ≡ Some (ProcedureValue text_of instance)
    pub fine : ProcedureFine s o m j r text_of instance
    pub conforms : Conforms s es text_of

  checked_is : (es : Expressions) (r : Option SimType) (vs : List Val) (v : Val) → DeepFine s o m j vs (Checked es r) v → (k : ℕ) × (e : ℕ) × (v ≡ ProcedureValue k e) × ProcedureFine s o m j r k e × Conforms s es k
  checked_is es r vs (ProcedureValue k e) f = (k, e, refl, f.0, f.1)
  checked_is es r vs (Of z) f = absurd f
  checked_is es r vs (Link z) f = absurd f
  checked_is es r vs (Address z) f = absurd f
  checked_is es r vs (ArrayValue z) f = absurd f
  checked_is es r vs (Actual home pr z) f = absurd f

  -- the procedure lies below what is passed for its formal parameters
  pub below_passed : (es : Expressions) (r : Option SimType) (left : List Kinds) (n : ℕ) (vals : List Val) → HandsFine s o m j (for_formals n (Checked es r ∷ left)) vals → InHand es r n vals
  below_passed es r left zero [] h = absurd h
  below_passed es r left zero (v ∷ vs) h = let x = checked_is es r vs v h.0 in record { text_of = x.0; instance = x.1; there = ap Some x.2; fine = x.3; conforms = x.4 }
  below_passed es r left (suc n) [] h = absurd h
  below_passed es r left (suc n) (v ∷ vs) h = let x = below_passed es r left n vs h.1 in record { text_of = x.text_of; instance = x.instance; there = x.there; fine = x.fine; conforms = x.conforms }

  formal_there : (k e n : ℕ) (vs : List Val) (f : Formal) → slice_get vs n ≡ Some (ProcedureValue k e) → formal_in_hand s n vs ≡ Some f → slice_get (formals_of s k) n ≡ Some f
  unfolding formal_in_hand
  formal_there k e n vs f there is = sym (ap (λ z. formal_in s n (procedure_at z)) there) ∙ is

  -- and so what is passed is in hand for them
  pub passed_kinds : (k e : ℕ) (base : List Kinds) (n : ℕ) (vals : List Val) → slice_get vals n ≡ Some (ProcedureValue k e) → HandsFine s o m j (for_formals n base) vals → HandsFine s o m j (onto (formal_kinds s (first_ones n (formals_of s k))) base) vals
  passed_kinds k e base zero vals there h = h
  passed_kinds k e base (suc n) [] there h = absurd h
  passed_kinds k e base (suc n) (v ∷ vs) there h =
      let p = h.0 in
      let fs = formals_of s k in
      let more : first_ones (suc n) fs ≡ first_ones n fs ++ p.formal ∷ [] = one_longer n fs p.formal (formal_there k e n vs p.formal there p.is) in
      let kinds : onto (formal_kinds s (first_ones (suc n) fs)) base ≡ p.kinds ∷ onto (formal_kinds s (first_ones n fs)) base =
      ap (λ z. onto (formal_kinds s z) base) more ∙ ap (λ z. onto z base) (kinds_longer s (first_ones n fs) p.formal) ∙ ap (λ z. onto (formal_kinds s (first_ones n fs) ++ z ∷ []) base) p.hand ∙ onto_longer (formal_kinds s (first_ones n fs)) p.kinds base in
      subst (λ z. HandsFine s o m j z (v ∷ vs)) (sym kinds) (deep_of s o m j vs p.kinds v p.fine, passed_kinds k e base n vs there h.1)

module _ (s : Source) (ok : Typed s) (l : Limits) (o : World) (g : Marks) (long : length g.sights ≡ length o.arrays) (m : Instances) (i t : ℕ) (rest : List Activation) (top : Operates g.beneath g.seat m i rest) (w : List Item) (vals : List Val) (todo todo' : List DeclNo) (before behind : List Kinds) (b : Begun s (see g o) m i t todo) (h : HandsFine s (see g o) m i before vals) (work : Work s o g long m i t rest top w todo' behind) where
  abbrev Stepped : Op → Type 0
  Stepped op = Goes (IsFine s) (do_op s l o m i w vals rest op)

  works : (ks : List Kinds) → behind ≡ ks → todo' ≡ todo → Work s o g long m i t rest top w todo ks
  works ks e f = subst (λ z. Work s o g long m i t rest top w z ks) f (subst (λ z. Work s o g long m i t rest top w todo' z) e work)

  hand : (ks : List Kinds) → before ≡ ks → HandsFine s (see g o) m i ks vals
  hand ks e = subst (λ z. HandsFine s (see g o) m i z vals) e h

  matched_goes : (line : ℕ) (found : Option (Option ℕ)) (y : Option ℕ) (f : ℕ → Run Configuration) → found ≡ Some y → ((k : ℕ) → y ≡ Some k → Goes (IsFine s) (f k)) → Goes (IsFine s) (matching line found o f)
  unfolding matching having
  matched_goes line None y f e fine = absurd (cc)
  matched_goes line (Some None) y f e fine = stops (IsFine s) (RunFault NoMatch line) o (λ q. cc)
  matched_goes line (Some (Some k)) y f e fine = fine k (let same : Some k ≡ y = cc in sym same)

  -- the match in the class of an object
  match_is : (v j c : ℕ) (p : ObjectOf s m j c) → has_level s.tables (p.now).text (block_of s (record { 0 = v })) ≡ true → match_at s m v j ≡ Some (match_of_text s v (p.now).text)
  unfolding match_at
  match_is v j c p e = ap (match_in_text s v) (text_there s m j p.now p.lives) ∙ ap (λ z. match_if z (match_of_text s v (p.now).text)) e

  -- what matches is a procedure of the object
  match_held : (v c j k : ℕ) (q : Option SimType) (x : VirtualIn s v c q) (p : ObjectOf s m j c) → has_level s.tables (p.now).text (block_of s (record { 0 = v })) ≡ true → match_of_text s v (p.now).text ≡ Some k → ProcedureFine s (see g o) m i q k j
  match_held v c j k q x p level is =
      let y = ok.matches (record { 0 = v }) x.result x.own (p.now).text k x.declares (ap (λ z. match_if z (match_of_text s v (p.now).text)) level ∙ ap Some is) in
      let d = y.declaration in
      record {
        around = block_of s d;
        near = near_staying (record { now = p.now; lives = p.lives; stays = p.stays });
        whole = record { now = p.now; lives = p.lives; stands = own_text (level_is s (p.now).text (block_of s d) y.level); words = p.words; has_text = p.has_text; made = p.made };
        procedure = declared_in s ok d y.own k y.declares;
        gives = subst (λ z. ResultFits s z (given_by s q)) (sym (holds_result s ok d y.own k y.declares)) (results_then s ok y.own x.result q y.gives x.fits);
      }

  pub virtual_op : (v line : ℕ) → OpFine s (see g o) m i t (VirtualOp v line) todo todo' before behind → Stepped (VirtualOp v line)
  virtual_op v line a =
      let x = a.3 in
      object_popped (IsFine s) s (see g o) m i a.0 line a.2 vals o (λ j vs. matching line (match_at s m v j) o (λ k. go o m i w (ProcedureValue k j ∷ vs) rest))
      (λ z y. bare s ok l o g long m i t rest top w vals todo todo' before behind b h work a.0 (block_of s (record { 0 = v })) x.level x.not_standard z y) (hand _ a.4) (λ j vs p more.
      let level = level_has s ok (p.now).text (block_of s (record { 0 = v })) (levels_solid (text s (p.now).text) p.object) (level_then s (level_is s (p.now).text a.0 p.levels) (level_is s a.0 (block_of s (record { 0 = v })) x.level)) in
      matched_goes line (match_at s m v j) (match_of_text s v (p.now).text) (λ k. go o m i w (ProcedureValue k j ∷ vs) rest) (match_is v j a.0 p level) (λ k is.
      goes_on s o g long m i t rest top w (ProcedureValue k j ∷ vs) todo (Value (Procedure a.1) ∷ a.2) b (match_held v a.0 j k a.1 x p level is, more) (works _ a.5 a.6)))

  -- a procedure that is declared in an instance in hand
  pub procedure_op : (k : ℕ) → OpFine s (see g o) m i t (ProcedureOp k) todo todo' before behind → Stepped (ProcedureOp k)
  procedure_op k a =
      let q = a.4 in
      any_popped (IsFine s) s (see g o) m i (LinkTo a.0) a.2 vals o (λ v vs. having (instance_in v) o (λ j. go o m i w (ProcedureValue k j ∷ vs) rest)) (hand _ a.5) (λ v vs is here more.
      link_is s ok l o g long m i t rest top w vals a.0 v (λ j. go o m i w (ProcedureValue k j ∷ vs) rest) here (λ j knows whole.
      goes_on s o g long m i t rest top w (ProcedureValue k j ∷ vs) todo (Value (Procedure q.0) ∷ a.2) b
      (record { around = a.0; near = knows_near s (see g o) m b.store i j knows; whole = whole; procedure = a.3; gives = q.1 }, more)
      (works _ (a.6 ∙ ap (λ z. z ∷ a.2) (kinds_same a.1 q.0 q.2)) a.7)))
    where
      kinds_same : (x : Kinds) (r : Option SimType) → Some (Value (Procedure r)) ≡ Some x → x ≡ Value (Procedure r)
      kinds_same x r e = sym (same_some (Some (Value (Procedure r))) (Value (Procedure r)) x refl e)

  -- ---- calls that are checked

  procedure_in_hand : (r : Option SimType) (vs : List Val) (v : Val) (f : ℕ × ℕ → Run Configuration) → ValFine s (see g o) m i (Procedure r) v → ((k e : ℕ) → v ≡ ProcedureValue k e → ProcedureFine s (see g o) m i r k e → Goes (IsFine s) (f (k, e))) → Goes (IsFine s) (having (procedure_in v) o f)
  procedure_in_hand r vs (ProcedureValue k e) f a fine = had (IsFine s) (Some (k, e)) (k, e) o f refl (fine k e refl a)
  procedure_in_hand r vs (Link j) f a fine = absurd a
  procedure_in_hand r vs (Of z) f a fine = absurd a
  procedure_in_hand r vs (Address z) f a fine = absurd a
  procedure_in_hand r vs (ArrayValue z) f a fine = absurd a
  procedure_in_hand r vs (Actual home pr z) f a fine = absurd a

  counted_as : (line : ℕ) (r : Run Configuration) (c : Bool) → (c ≡ true → Goes (IsFine s) r) → Goes (IsFine s) (choosing c r (stopping (RunFault WrongNumberOfParameters line) o))
  unfolding choosing
  counted_as line r true fine = fine refl
  counted_as line r false fine = stops (IsFine s) (RunFault WrongNumberOfParameters line) o (λ q. cc)

  counted : (line n k : ℕ) (r : Run Configuration) → (n ≡ k → Goes (IsFine s) r) → Goes (IsFine s) (counting line n k o r)
  unfolding counting
  counted line n k r fine = counted_as line r (n == k) (λ e. fine (numbers_equal n k e))

  suited : (line : ℕ) (c : Bool) (r : Run Configuration) → (c ≡ true → Goes (IsFine s) r) → Goes (IsFine s) (suiting line c o r)
  unfolding suiting choosing
  suited line true r fine = fine refl
  suited line false r fine = stops (IsFine s) (RunFault WrongParameter line) o (λ q. cc)

  formals_near : (r : Option SimType) (k e : ℕ) → (x : ProcedureFine s (see g o) m i r k e) → FormalsNear s x.around (formals_of s k)
  formals_near r k e x = let q = x.procedure in (ok.texts k (ProcedureText q.result q.heading q.body) q.is).near x.around q.stands_in

  pub check_op : (es : Expressions) (line : ℕ) → OpFine s (see g o) m i t (CheckOp es line) todo todo' before behind → Stepped (CheckOp es line)
  check_op es line a =
      any_popped (IsFine s) s (see g o) m i (Value (Procedure a.0)) a.1 vals o (λ v more. having (procedure_in v) o (λ q. Check q)) (hand _ a.5) (λ v vs is here more.
      procedure_in_hand a.0 vs v Check here (λ k e same x.
      counted line (length (formals_of s k)) (count_of es) (Suits (k, e)) (λ count.
      suited line (all_fit s (formals_of s k) (all_passed s es)) (Agrees (k, e)) (λ fit.
      let z = each_is s ok (see g o) m b.store e x.around i a.2 x.whole a.3 (formals_of s k) es (formals_near a.0 k e x) a.4 fit in
      had (IsFine s) (each (agrees s m e i) (formals_of s k) (all_passed s es)) z.0 o (λ agree. suiting line agree o (go o m i w vals rest)) z.1
      (suited line z.0 (go o m i w vals rest) (λ yes.
      goes_on s o g long m i t rest top w vals todo (Checked es a.0 ∷ a.1) b
      (subst (λ q. HandsFine s (see g o) m i (Checked es a.0 ∷ a.1) q) (sym is) (subst (λ q. DeepFine s (see g o) m i vs (Checked es a.0) q) (sym same) (x, record { count = count; fit = fit }), more))
      (works _ a.6 a.7)))))))
    where
      Agrees : ℕ × ℕ → Run Configuration
      Agrees q = having (each (agrees s m q.1 i) (formals_of s q.0) (all_passed s es)) o (λ agree. suiting line agree o (go o m i w vals rest))

      Suits : ℕ × ℕ → Run Configuration
      Suits q = suiting line (all_fit s (formals_of s q.0) (all_passed s es)) o (Agrees q)

      Check : ℕ × ℕ → Run Configuration
      Check q = counting line (length (formals_of s q.0)) (count_of es) o (Suits q)

  -- ---- the call

  -- it leaves a value where its call does
  leaves_alike : (r : Option SimType) (k : ℕ) (given : Option TypeName) → ResultWritten given (result_holds s k) → ResultFits s (result_holds s k) (given_by s r) → are_alike (has_type r) (has_result given) ≡ true
  leaves_alike r k given written fits = by_result r given (result_holds s k) written fits
    where
      by_result : (r : Option SimType) (given : Option TypeName) (h : Option Holds) → ResultWritten given h → ResultFits s h (given_by s r) → are_alike (has_type r) (has_result given) ≡ true
      by_result None None None w f = refl
      by_result (Some ty) (Some name) (Some h) w f = refl
      by_result None (Some name) (Some h) w f = absurd f
      by_result (Some ty) None None w f = absurd f
      by_result r None (Some h) w f = absurd w
      by_result r (Some name) None w f = absurd w

  and_both : (p q : Bool) → p ≡ true → q ≡ true → (p && q) ≡ true
  and_both true true e f = refl
  and_both true false e f = absurd (cc)
  and_both false q e f = absurd (cc)

  -- as many values as it has formal parameters are those that it takes
  pub call_value_op : (n : ℕ) (leaves : Bool) (line : ℕ) → OpFine s (see g o) m i t (CallValueOp n leaves line) todo todo' before behind → Stepped (CallValueOp n leaves line)
  call_value_op n leaves line a =
      let es = a.0 in
      let result = a.1 in
      let left = a.3 in
      let hands = hand _ a.7 in
      let x = below_passed s (see g o) m i es result left n vals hands in
      let k = x.text_of in
      let e = x.instance in
      let f = x.fine in
      let q = f.procedure in
      let typed : ProcedureTyped s k q.result q.body = ok.texts k (ProcedureText q.result q.heading q.body) q.is in
      let fs = formals_of s k in
      let many : n ≡ length fs = a.6 ∙ sym (x.conforms).count in
      let taken_kinds : HandsFine s (see g o) m i (onto (formal_kinds s fs) (Checked es result ∷ left)) vals =
      subst (λ z. HandsFine s (see g o) m i (onto (formal_kinds s z) (Checked es result ∷ left)) vals) (ap (λ z. first_ones z fs) many ∙ all_ones fs) (passed_kinds s (see g o) m i k e (Checked es result ∷ left) n vals x.there hands) in
      let r = taken s (see g o) m i (formal_kinds s fs) (Checked es result ∷ left) vals (formals_some s (numbers_of s k) fs typed.formals) taken_kinds in
      let as_many : n ≡ length r.values = many ∙ sym (formals_many fs) ∙ sym r.count in
      subst (λ z. Goes (IsFine s) (pop_many z [] vals o next)) (sym as_many)
      (subst (λ z. Goes (IsFine s) (pop_many (length r.values) [] z o next)) (sym r.are)
      (subst (Goes (IsFine s)) (sym (all_taken r.values r.rest o next))
      (any_popped (IsFine s) s (see g o) m i (Checked es result) left r.rest o (λ v vs. having (procedure_in v) o (λ q. Called r.values vs q)) r.more (λ v vs same here more.
      subst (λ z. Goes (IsFine s) (having (procedure_in z) o (λ q. Called r.values vs q))) (sym (its_value v vs r.values r.rest (ProcedureValue k e) same as_many r.are x.there))
      (had (IsFine s) (Some (k, e)) (k, e) o (λ q. Called r.values vs q) refl
      (whens (IsFine s) (is_live m e) o (when (is_called_so s k n leaves) o (procedure_entered s l o m i w vs rest k line r.values e (text s k))) (lives_is s ok l o g long m i t rest top w vals e (f.whole).now (f.whole).lives)
      (whens (IsFine s) (is_called_so s k n leaves) o (procedure_entered s l o m i w vs rest k line r.values e (text s k)) (called_so k result q.result typed.result f.gives (ap leaves_value q.is) a.5 many)
      (subst (λ z. Goes (IsFine s) (procedure_entered s l o m i w vs rest k line r.values e z)) (sym q.is)
      (procedure_goes s ok l o g long m i t rest top w vals k line q.result q.heading q.body r.values vs (length r.rest) e f.around todo left (held_kinds a.2) q.is q.stands_in f.near f.whole r.fine (below_top r.rest v vs same)
      (a.2, given_then s ok (result_type s k) result a.2 f.gives a.4, refl) b more (works _ a.8 a.9))))))))))
    where
      Called : List Val → List Val → ℕ × ℕ → Run Configuration
      Called values vs q = when (is_live m q.1) o (when (is_called_so s q.0 n leaves) o (procedure_entered s l o m i w vs rest q.0 line values q.1 (text s q.0)))

      next : List Val → List Val → Run Configuration
      next values vs = popping vs o (λ v vs. having (procedure_in v) o (λ q. Called values vs q))

      below_top : (rest : List Val) (v : Val) (vs : List Val) → rest ≡ v ∷ vs → length vs < length rest
      below_top rest v vs e = let f : length rest ≡ suc (length vs) = ap length e in omega (arith, f)

      formals_many : (fs : List Formal) → length (formal_kinds s fs) ≡ length fs
      formals_many [] = refl
      formals_many (f ∷ fs) = ap suc (formals_many fs)

      back_at : (values rest : List Val) (j : ℕ) → slice_get (back values rest) (length values + j) ≡ slice_get rest j
      back_at [] rest j = let same : 0 + j ≡ j = omega arith in ap (slice_get rest) same
      back_at (v ∷ values) rest j =
          let more : suc (length values) + j ≡ length values + suc j = omega arith in
          ap (λ z. slice_get (back values (v ∷ rest)) z) more ∙ back_at values (v ∷ rest) (suc j)

      its_value : (v : Val) (vs values rest : List Val) (x : Val) → rest ≡ v ∷ vs → n ≡ length values → vals ≡ back values rest → slice_get vals n ≡ Some x → v ≡ x
      its_value v vs values rest x same many are there =
          let at : n ≡ length values + 0 = omega (arith, many) in
          same_some (slice_get vals n) v x (ap (slice_get vals) at ∙ ap (λ z. slice_get z (length values + 0)) are ∙ back_at values rest 0 ∙ ap (λ z. slice_get z 0) same) there

      called_so : (k : ℕ) (r : Option SimType) (given : Option TypeName) → ResultWritten given (result_holds s k) → ResultFits s (result_holds s k) (given_by s r) → leaves_value (text s k) ≡ has_result given → leaves ≡ has_type r → n ≡ length (formals_of s k) → is_called_so s k n leaves ≡ true
      called_so k r given written fits value has many =
          and_both (length (formals_of s k) == n) (are_alike leaves (leaves_value (text s k))) (equal_numbers (length (formals_of s k)) n (sym many)) (ap (λ z. are_alike z (leaves_value (text s k))) has ∙ ap (are_alike (has_type r)) value ∙ leaves_alike r k given written fits)
