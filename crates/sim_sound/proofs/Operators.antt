-- Each operator of expressions and assignments goes on.
use Rattle.std.proofs.Common.{⊎_elim, ◌≡◌, ℕ, suc, Bool, true, false, List, [], ◌∷◌, ◌++◌, length, Option, Some, None, inr, refl, sym, ap, ◌∙◌, subst}
use Rattle.std.specs.Prelude.{◌*◌, ◌+◌, pos}
use Rattle.sim_base.specs.declared.limits.Limits.{Limits}
use Rattle.sim_base.specs.declared.numbering.DeclNo.{DeclNo}
use Rattle.sim_scope.specs.Levels.{has_level}
use Rattle.sim_scope.specs.Source.{Source}
use Rattle.sim_values.specs.declared.kind.Kind.{Kind}
use Rattle.sim_values.specs.declared.kind.Kind.TheVariants as kind
use Rattle.sim_values.specs.Standard.{row_of}
use Rattle.sim_code.specs.Outcome.{ArrayOf as OneArray, World}
use Rattle.sim_meaning.specs.Meaning.{do_op}
use Rattle.sim_meaning.specs.Steps.{go, putting, text_assigned, value_at, with_value}
use Rattle.sim_scope.specs.Access.{encloser}
use Rattle.sim_tree.specs.declared.expr.Membership.{Membership}
use Rattle.sim_tree.specs.Syntax.{Expression}
use Rattle.sim_values.specs.declared.operators.Dyadic.{Dyadic}
use Rattle.sim_values.specs.declared.operators.Dyadic.TheVariants as dyadic
use Rattle.sim_values.specs.declared.operators.Monadic.{Monadic}
use Rattle.sim_values.specs.declared.operators.Monadic.TheVariants as monadic
use Rattle.sim_values.specs.Plain.{Character, Integer, MainOf, Nothing, Object, Plain, Text, Truth, kind_of}
use Rattle.sim_code.specs.Arrays.{added, copying_array, keeping_array, live_array, making_array, pairs, with_array}
use Rattle.sim_code.specs.Events.{choosing, having, popping, qualifying, when}
use Rattle.sim_code.specs.Instances.{CellPlace, ElementPlace}
use Rattle.sim_meaning.specs.Levels.{belongs, has_procedure, has_levels, is_in, is_in_any, main_belongs, stands_in}
use Rattle.sim_meaning.specs.Objects.{is_member, putting_reference}
use Rattle.sim_meaning.specs.Closing.{close_passed}
use Rattle.sim_meaning.specs.Pending.{CloseOp, ToNamed, Activation, Address, AgainOp, array_in, ArrayOp, ArrayValue, AttributeOp, cell_set, Configuration, CopyOp, Declared, Do, DropOp, ElementOp, Eval, FetchOp, FitsOp, GiveOp, IfOp, Instances, Item, JoinOp, KeepOp, Key, Link, MemberOp, NotNoneOp, ObjectOp, Of, OneOp, Op, PastOp, place_in, QualifiedElementOp, QuaOp, ReferOp, ShareOp, StandardOp, StepOp, StoreOp, SwapOp, Target, Term, ToAddress, ToCell, ToPlace, ToReference, ToReferenceAt, ToText, ToTextAt, ToTextOf, TwoOp, Val, variable_in, OriginOp, Origin}
use Rattle.sim_meaning.specs.Texts.{text}
use Rattle.sim_sound.specs.Held.{ByName, ArrayOf, Holds, Refers, Simply, Procedure}
use Rattle.sim_sound.specs.Expressions.{TwoKinds, some_holds, standard_kind}
use Rattle.sim_sound.specs.Typed.{Typed}
use Rattle.sim_sound.proofs.ArrayEvents.{NewArray, added_fine, array_is, copied_array, copied_fine, found_element, made_array}
use Rattle.sim_sound.proofs.Cells.{target_lies, whichever_reference, whichever_value, none_among}
use Rattle.sim_sound.proofs.Changes.{copies_array, copies_replaced, elements_array, elements_replaced, later_array, later_replaced, more, new_lives, replaced}
use Rattle.sim_sound.proofs.Constants.{names_none}
use Rattle.sim_sound.proofs.Evals.{IsFine, Work, eval_goes, goes_on}
use Rattle.sim_sound.proofs.Fitting.{knows_object, object_in, main_up, object_levels, object_up, object_whole, plain_by_kind, val_fits, plain_fits, plain_val}
use Rattle.sim_sound.proofs.Later.{All, AllCopies, own_later, present_later}
use Rattle.sim_sound.proofs.Lifts.{Goes, any_popped, assigning_goes, chosen, had, integers_popped, joining_goes, known_popped, one_applied, plain_popped, ran, step_applied, truth_popped, two_applied, whens}
use Rattle.sim_sound.proofs.Lists.{set_len}
use Rattle.sim_sound.proofs.Moves.{same_ones}
use Rattle.sim_sound.proofs.Names.{ValueIs, performed}
use Rattle.sim_sound.proofs.Ops.{back_goes, fetched_goes, later_hands, later_with, putting_goes, putting_reference_goes, set_goes, store_with, stored_array, origin_goes}
use Rattle.sim_sound.proofs.Places.{passed_closed}
use Rattle.sim_sound.proofs.Prefixes.{level_is, level_then}
use Rattle.sim_sound.proofs.ProcessClasses.{main_bare}
use Rattle.sim_sound.proofs.References.{any_some_popped, held_reference_goes, object_popped, some_popped, new_popped}
use Rattle.sim_sound.proofs.Running.{Begun, Operates}
use Rattle.sim_sound.proofs.Sound.{TakesReference, TakesValue, actual_gives, ShowsObject, Addressed, IsAddress, IsCopy, Leads, NotStandard, OneKinds, OpFine, TermFine, array_stored, given, value_stored}
use Rattle.sim_sound.proofs.Values.{CellLies, Whichever, near_staying, ObjectIn, AddressOf, Component, Copied, CopyFine, DeepFine, HandFine, HandsFine, Hidden, ImageAddress, Kinds, Lasting, LinkTo, MainIn, Marks, ObjectOf, Open, PlainFine, ReferenceAddress, ReferenceFine, Sight, ValFine, Value, elements_of, see, held_kinds, Checked, ForFormal, NewObject}
use Rattle.sim_sound.proofs.Reach.{has_itself}

one_longer : (g : List Sight) (o : List OneArray) (z : Sight) (x : OneArray) → length (g ++ z ∷ []) ≡ suc (length g)
one_longer [] o z x = refl
one_longer (y ∷ g) o z x = ap suc (one_longer g o z x)

one_longer' : (o : List OneArray) (x : OneArray) → length (o ++ x ∷ []) ≡ suc (length o)
one_longer' [] x = refl
one_longer' (y ∷ o) x = ap suc (one_longer' o x)

-- an operator's value is no reference
one_no_reference : (op : Monadic) (k : Kind) → OneKinds op k → k ≡ kind.Reference → ⊥
one_no_reference monadic.Negate k a e = cc
one_no_reference monadic.Not k a e = cc

two_no_reference : (op : Dyadic) (k v : Kind) → TwoKinds op k v → v ≡ kind.Reference → ⊥
two_no_reference (dyadic.Calculate c) k v a e = let z = a.1 in cc
two_no_reference (dyadic.Compare r) k v a e = let z = a.1 in cc
two_no_reference (dyadic.CompareTexts r) k v a e = let z = a.1 in cc
two_no_reference (dyadic.Connect c) k v a e = let z = a.1 in cc
two_no_reference dyadic.SameObject k v a e = let z = a.1 in cc
two_no_reference dyadic.SameText k v a e = let z = a.1 in cc

module _ (s : Source) (ok : Typed s) (l : Limits) (o : World) (g : Marks) (long : length g.sights ≡ length o.arrays) (m : Instances) (i t : ℕ) (rest : List Activation) (top : Operates g.beneath g.seat m i rest) (w : List Item) (vals : List Val) (todo todo' : List DeclNo) (before behind : List Kinds) (b : Begun s (see g o) m i t todo) (h : HandsFine s (see g o) m i before vals) (work : Work s o g long m i t rest top w todo' behind) where
  abbrev P : World → Configuration → Type 0
  P = IsFine s

  abbrev pub Stepped : Op → Type 0
  Stepped op = Goes P (do_op s l o m i w vals rest op)

  -- the work behind, with what is known of it
  works : (ks : List Kinds) → behind ≡ ks → todo' ≡ todo → Work s o g long m i t rest top w todo ks
  works ks e f = subst (λ z. Work s o g long m i t rest top w z ks) f (subst (λ z. Work s o g long m i t rest top w todo' z) e work)

  hand : (ks : List Kinds) → before ≡ ks → HandsFine s (see g o) m i ks vals
  hand ks e = subst (λ z. HandsFine s (see g o) m i z vals) e h

  goes : (rest' : List Val) (ks : List Kinds) → HandsFine s (see g o) m i ks rest' → Work s o g long m i t rest top w todo ks → IsFine s o (record { chain = record { instance = i; work = w; values = rest' } ∷ rest; memory = m })
  goes vs ks x y = goes_on s o g long m i t rest top w vs todo ks b x y

  pub eval_op : (x : Term) → OpFine s (see g o) m i t (Eval x) todo todo' before behind → Stepped (Eval x)
  eval_op x a = eval_goes s o g long m i t rest top ok x a.0 w vals todo before b h a.1 (works (given a.0 before) a.2 a.3)

  pub one_op : (op : _) (line : ℕ) → OpFine s (see g o) m i t (OneOp op line) todo todo' before behind → Stepped (OneOp op line)
  one_op op line a = one_applied P s (see g o) m i op a.0 line a.1 vals o (λ z vs. go o m i w (Of z ∷ vs) rest) a.2 (hand _ a.3) (λ p vs e more. goes (Of p ∷ vs) (Value (Simply a.0) ∷ a.1) (plain_by_kind s m a.0 p e (one_no_reference op a.0 a.2), more) (works _ (a.4 ∙ a.3) a.5))

  pub two_op : (op : _) (line : ℕ) → OpFine s (see g o) m i t (TwoOp op line) todo todo' before behind → Stepped (TwoOp op line)
  two_op op line a = two_applied P s (see g o) m i op a.0 a.1 line a.2 vals o (λ z vs. go o m i w (Of z ∷ vs) rest) a.3 (hand _ a.4) (λ p vs e more. goes (Of p ∷ vs) (Value (Simply a.1) ∷ a.2) (plain_by_kind s m a.1 p e (two_no_reference op a.0 a.1 a.3), more) (works _ a.5 a.6))

  pub if_op : (x y : Term) → OpFine s (see g o) m i t (IfOp x y) todo todo' before behind → Stepped (IfOp x y)
  if_op x y a =
      truth_popped P s (see g o) m i a.1 vals o (λ c vs. choosing c (go o m i (Do (Eval x) ∷ Do PastOp ∷ w) vs rest) (go o m i (Do (Eval y) ∷ w) vs rest)) (hand _ a.4) (λ c vs more.
      chosen P c (go o m i (Do (Eval x) ∷ Do PastOp ∷ w) vs rest) (go o m i (Do (Eval y) ∷ w) vs rest)
      (goes_on s o g long m i t rest top (Do (Eval x) ∷ Do PastOp ∷ w) vs todo a.1 b more (todo, a.0 ∷ a.1, (Some a.0, a.2, refl, refl), (todo, a.0 ∷ a.1, (refl, refl), works _ a.5 a.6)))
      (goes_on s o g long m i t rest top (Do (Eval y) ∷ w) vs todo a.1 b more (todo, a.0 ∷ a.1, (Some a.0, a.3, refl, refl), works _ a.5 a.6)))

  pub element_op : (n line : ℕ) → OpFine s (see g o) m i t (ElementOp n line) todo todo' before behind → Stepped (ElementOp n line)
  element_op n line a = found_element P s m i a.0 n line a.1 vals o g (λ array index vs. go o m i w (Address (ElementPlace array index None) ∷ vs) rest) (hand _ a.2) (λ array index vs e more. goes (Address (ElementPlace array index None) ∷ vs) (AddressOf a.0 ∷ a.1) (e, more) (works _ a.3 a.4))

  pub fetch_op : OpFine s (see g o) m i t FetchOp todo todo' before behind → Stepped FetchOp
  fetch_op a =
      any_popped P s (see g o) m i a.1 a.2 vals o (λ v vs. having (place_in v) o (λ p. having (value_at o m p) o (λ v. go o m i w (v ∷ vs) rest))) (hand _ a.4) (λ v vs is e more.
      fetched_goes s ok l o g long m i t rest top a.0 a.1 v w vs todo a.2 a.3 (leading a.1 a.0 vs v a.3 e) b more (works _ a.5 a.6))
    where
      leading : (x : Kinds) (k : Holds) (d : List Val) (v : Val) → Leads s x k → DeepFine s (see g o) m i d x v → HandFine s (see g o) m i x v
      leading (AddressOf z) k d v is f = f
      leading ImageAddress k d v is f = f
      leading (Value z) k d v is f = absurd is
      leading (LinkTo z) k d v is f = absurd is
      leading (Copied z) k d v is f = absurd is
      leading (ReferenceAddress z) k d v is f = absurd is
      leading (Lasting z) k d v is f = absurd is
      leading Component k d v is f = absurd is
      leading (ObjectIn z) k d v is f = absurd is
      leading (NewObject z) k d v is f = absurd is
      leading (Checked es z) k d v is f = absurd is
      leading (ForFormal z) k d v is f = absurd is
      leading (Whichever value_too z) k d v is f = f

  pub join_op : (line : ℕ) → OpFine s (see g o) m i t (JoinOp line) todo todo' before behind → Stepped (JoinOp line)
  join_op line a = joining_goes P s (see g o) m i l line a.0 vals o (λ z p vs. go p m i w (Of z ∷ vs) rest) (hand _ a.1) (λ z t' w' frames vs more. goes (Of (Text z) ∷ vs) (Value (Simply kind.Text) ∷ a.0) ((refl, tt), more) (works _ a.2 a.3))

  -- an array more
  pub array_goes : (z : Sight) (c : Kinds) (vs : List Val) (left : List Kinds) → HandsFine s (see g o) m i left vs → (t' w' : ℕ) (x : OneArray) → NewArray s m i (elements_of z) x → DeepFine s (more (see g o) z x) m i vs c (ArrayValue (length o.arrays)) → Work s o g long m i t rest top w todo (c ∷ left) → IsFine s (added (ran o t' w') x) (record { chain = record { instance = i; work = w; values = ArrayValue (length o.arrays) ∷ vs } ∷ rest; memory = m })
  array_goes z c vs left hands t' w' x new f y =
      let e = later_array s (see g o) m z x in
      let seen : Marks = record g { sights = g.sights ++ z ∷ [] } in
      let longer : length seen.sights ≡ length (o.arrays ++ x ∷ []) = one_longer g.sights o.arrays z x ∙ ap suc long ∙ sym (one_longer' o.arrays x) in
      let copies : AllCopies (see g o) (more (see g o) z x) = copies_array (see g o) z x in
      let store = store_with s (see g o) (more (see g o) z x) m e refl refl copies (elements_array s (see g o) m z x long new.elements b.store.elements) b.store.members b.store.simulations b.store in
      later_with s ok l o g long m i t rest top seen (added (ran o t' w') x) longer refl refl refl m e copies (same_ones m) store w (ArrayValue (length o.arrays) ∷ vs) todo (c ∷ left) (present_later s (see g o) m (more (see g o) z x) m All e i t todo tt b.here) (own_later s (see g o) m (more (see g o) z x) m All e i t todo tt b.here ∙ b.own) b.works
      (f, later_hands s ok l o g long m i t rest top seen (added (ran o t' w') x) longer refl refl refl m e copies (same_ones m) store left vs hands) y

  pub copy_op : (line : ℕ) → OpFine s (see g o) m i t (CopyOp line) todo todo' before behind → Stepped (CopyOp line)
  copy_op line a =
      any_popped P s (see g o) m i (Value (ArrayOf a.0)) a.1 vals o (λ v vs. having (array_in v) o (λ array. copying_array l line i array o (λ copy p. go p m i w (ArrayValue copy ∷ vs) rest))) (hand _ a.4) (λ v vs is e hands.
      array_is P s (see g o) m i a.0 v o (λ array. copying_array l line i array o (λ copy p. go p m i w (ArrayValue copy ∷ vs) rest)) e (λ n f same.
      copied_array P l line i a.0 n o g (λ copy p. go p m i w (ArrayValue copy ∷ vs) rest) s m b.store f (λ t' w' x new. by_copy a.2 a.3 vs hands t' w' x new (works _ a.5 a.6))))
    where
      by_copy : (c : Kinds) → IsCopy a.0 c → (vs : List Val) → HandsFine s (see g o) m i a.1 vs → (t' w' : ℕ) (x : OneArray) → NewArray s m i a.0 x → Work s o g long m i t rest top w todo (c ∷ a.1) → IsFine s (added (ran o t' w') x) (record { chain = record { instance = i; work = w; values = ArrayValue (length o.arrays) ∷ vs } ∷ rest; memory = m })
      by_copy (Value h) is vs hands t' w' x new y = array_goes (Open a.0) (Value h) vs a.1 hands t' w' x new (subst (λ z. ValFine s (more (see g o) (Open a.0) x) m i z (ArrayValue (length o.arrays))) (sym is) (added_fine s (see g o) m i a.0 x long new)) y
      by_copy (Copied k) is vs hands t' w' x new y = array_goes (Hidden a.0 g.seat (length vs)) (Copied k) vs a.1 hands t' w' x new (subst (λ z. CopyFine (more (see g o) (Hidden a.0 g.seat (length vs)) x) i (length vs) z (length o.arrays)) (sym is) (copied_fine s (see g o) m i (length vs) a.0 x long new)) y
      by_copy (AddressOf k) is vs hands t' w' x new y = absurd is
      by_copy (ReferenceAddress k) is vs hands t' w' x new y = absurd is
      by_copy (Lasting k) is vs hands t' w' x new y = absurd is
      by_copy Component is vs hands t' w' x new y = absurd is
      by_copy (ObjectIn k) is vs hands t' w' x new y = absurd is
      by_copy (NewObject k) is vs hands t' w' x new y = absurd is
      by_copy (Checked es k) is vs hands t' w' x new y = absurd is
      by_copy (ForFormal k) is vs hands t' w' x new y = absurd is
      by_copy (Whichever value_too k) is vs hands t' w' x new y = absurd is
      by_copy ImageAddress is vs hands t' w' x new y = absurd is
      by_copy (LinkTo k) is vs hands t' w' x new y = absurd is

  pub array_op : (k : Kind) (n line : ℕ) → OpFine s (see g o) m i t (ArrayOp k n line) todo todo' before behind → Stepped (ArrayOp k n line)
  array_op k n line a =
      integers_popped P s (see g o) m i (2 * n) a.1 [] vals o (λ bounds vs. making_array l line i k (pairs bounds) o (λ array p. go p m i w (ArrayValue array ∷ vs) rest)) (hand _ a.3) (λ zs vs hands.
      made_array P l line i k (pairs zs) o (λ array p. go p m i w (ArrayValue array ∷ vs) rest) s m a.0 a.2 (λ t' w' x new. array_goes (Open a.0) (Value (ArrayOf a.0)) vs a.1 hands t' w' x new (added_fine s (see g o) m i a.0 x long new) (works _ a.4 a.5)))

  valued : (k : Option Kind) (v : Option Plain) (vs : List Val) (left : List Kinds) → ValueIs k v → HandsFine s (see g o) m i left vs → HandsFine s (see g o) m i (given (held_kinds (some_holds k)) left) (with_value v vs)
  valued None None vs left e more = more
  valued (Some k) (Some p) vs left e more = ((e.0, names_none s m p e.1), more)
  valued None (Some p) vs left e more = absurd e
  valued (Some k) None vs left e more = absurd e

  pub standard_op : (name : _) (line : ℕ) → OpFine s (see g o) m i t (StandardOp name line) todo todo' before behind → Stepped (StandardOp name line)
  standard_op name line a =
      performed P s o g m i b.store l line name a.0 a.1 vals (λ p m value vs. go p m i w (with_value value vs) rest) a.2 a.3 (hand _ a.4) (λ t' w' store first moved v vs back e more.
      back_goes s ok l o g long m i t rest top t' w' store w (with_value v vs) todo (given (held_kinds (some_holds (standard_kind (row_of name).result))) a.0) b (valued (standard_kind (row_of name).result) v vs a.0 e more) (works _ a.5 a.6) first moved back)

  pub drop_op : OpFine s (see g o) m i t DropOp todo todo' before behind → Stepped DropOp
  drop_op a = any_popped P s (see g o) m i a.0 behind vals o (λ v vs. go o m i w vs rest) (hand _ a.1) (λ v vs is e more. goes vs behind more (works behind refl a.2))

  pub again_op : OpFine s (see g o) m i t AgainOp todo todo' before behind → Stepped AgainOp
  again_op a = any_popped P s (see g o) m i (Value (Simply a.0)) a.1 vals o (λ v vs. go o m i w (v ∷ vals) rest) (hand _ a.2) (λ v vs is e more. goes (v ∷ vals) (Value (Simply a.0) ∷ before) (e, h) (works _ a.3 a.4))

  pub share_op : (ts : List Target) → OpFine s (see g o) m i t (ShareOp ts) todo todo' before behind → Stepped (ShareOp ts)
  share_op ts a =
      any_popped P s (see g o) m i (Value (Simply a.0)) a.1 vals o (λ v vs. go o m i (Do (GiveOp v ts) ∷ w) vs rest) (hand _ a.2) (λ v vs is e more.
      goes_on s o g long m i t rest top (Do (GiveOp v ts) ∷ w) vs todo a.1 b more (todo, behind, (a.0, e, a.3, a.4, refl), works behind refl a.5))

  pub give_op : (v : Val) (ts : List Target) → OpFine s (see g o) m i t (GiveOp v ts) todo todo' before behind → Stepped (GiveOp v ts)
  give_op v [] a = goes vals before h (works before a.2 a.4)
  give_op v (x ∷ xs) a =
      let ts = a.2 in
      goes_on s o g long m i t rest top (Do (StoreOp x) ∷ Do (GiveOp v xs) ∷ w) (v ∷ vals) todo (Value (Simply a.0) ∷ before) b (a.1, h)
      (todo, ts.0, value_stored a.0 before refl ts.1 a.3 refl, (todo, behind, (a.0, a.1, ts.2, a.3, refl), works behind refl a.4))

  text_stored : (line : ℕ) (k : Kind) (next : List Kinds) → before ≡ Value (Simply k) ∷ next → (Simply k ≡ Simply kind.Text) × (next ≡ Value (Simply kind.Text) ∷ behind) → todo' ≡ todo → Goes P (text_assigned o m i w vals rest line)
  text_stored line k next is a same =
      assigning_goes P s (see g o) m i line behind vals o (λ p vs. go p m i w vs rest)
      (hand _ (is ∙ ap (λ z. Value z ∷ next) a.0 ∙ ap (λ z. Value (Simply kind.Text) ∷ z) a.1))
      (λ frames vs more. goes vs behind more (works behind refl same))

  -- a tree of a statement, in which all arrays are made
  now_fine : (x : Term) (r : Option Kinds) → todo ≡ [] → TermFine s m i t [] x r → TermFine s m i t todo x r
  now_fine x r none a = subst (λ z. TermFine s m i t z x r) (sym none) a

  -- where a value goes
  takes_hand : (k : Kind) (x : Kinds) (d : List Val) (v : Val) → TakesValue (Simply k) x → DeepFine s (see g o) m i d x v → HandFine s (see g o) m i (AddressOf (Simply k)) v
  takes_hand k (AddressOf h) d v is f = subst (λ z. HandFine s (see g o) m i (AddressOf z) v) is f
  takes_hand k (Whichever false h) d v is f =
      let same : h ≡ k = let e = is.0 in cc in
      subst (λ z. HandFine s (see g o) m i (AddressOf (Simply z)) v) same (⊎_elim (λ a. a) (λ a. absurd (let e = a.0 in cc)) (whichever_value s (see g o) m i false h v is.1 f))
  takes_hand k _ d v is f = absurd is

  takes_address : (k : Kind) (x : Kinds) → TakesValue (Simply k) x → IsAddress x
  takes_address k (AddressOf h) is = tt
  takes_address k (Whichever false h) is = tt
  takes_address k _ is = absurd is

  -- and a reference
  reference_hand : (x : Kinds) (d : List Val) (v : Val) → TakesReference x → DeepFine s (see g o) m i d x v → (c : ℕ) × HandFine s (see g o) m i (ReferenceAddress c) v
  reference_hand (ReferenceAddress c) d v is f = (c, f)
  reference_hand (Whichever false k) d v is f = whichever_reference s (see g o) m i k v is f
  reference_hand _ d v is f = absurd is

  pub store_op : (x : Target) → OpFine s (see g o) m i t (StoreOp x) todo todo' before behind → Stepped (StoreOp x)
  store_op (ToCell j key) (value_stored k next is a none same) =
      any_popped P s (see g o) m i (Value (Simply k)) next vals o (λ v vs. having (cell_set m j key v) o (λ m. go o m i w vs rest)) (hand _ is) (λ v vs e here more.
      set_goes s ok l o g long m i t rest top j key (Simply k) v w vs todo next (target_lies s (see g o) m i j key (Simply k) b.store a.0) tt here b more (works next (sym a.1) same))
  store_op ToAddress (value_stored k next is a none same) =
      any_popped P s (see g o) m i (Value (Simply k)) next vals o (λ v vs. popping vs o (λ p vs. having (variable_in p) o (λ p. putting p v o m (λ o m. go o m i w vs rest)))) (hand _ is) (λ v vs e here more.
      any_popped P s (see g o) m i a.0 behind vs o (λ p vs. having (variable_in p) o (λ p. putting p v o m (λ o m. go o m i w vs rest))) (subst (λ z. HandsFine s (see g o) m i z vs) a.2 more) (λ p vs f there most.
      putting_goes s ok l o g long m i t rest top (Simply k) p v w vs todo behind tt (takes_hand k a.0 vs p a.1 there) here b most (works behind refl same)))
  store_op (ToText line) (value_stored k next is a none same) = text_stored line k next is a same
  store_op (ToTextOf j key line) (value_stored k next is a none same) = text_stored line k next is a same
  store_op (ToTextAt x line) (value_stored k next is a none same) = text_stored line k next is a same
  store_op (ToReference line) (value_stored k next is a none same) =
      goes_on s o g long m i t rest top (Do (ReferOp line) ∷ w) vals todo before b h
      (todo, behind, (ReferenceAddress a.1, tt, is ∙ ap (λ z. Value z ∷ next) a.0 ∙ ap (λ z. Value (Simply kind.Reference) ∷ z) a.2, refl), works behind refl same)
  store_op (ToNamed c line) (value_stored k next is a none same) =
      goes_on s o g long m i t rest top (Do (FitsOp c line) ∷ Do (ReferOp line) ∷ w) vals todo before b h (
        todo,
        Value (Simply kind.Reference) ∷ next,
        (Simply kind.Reference, next, refl, is ∙ ap (λ z. Value z ∷ next) a.0, refl, refl),
        (todo, behind, (Whichever false kind.Reference, refl, ap (λ z. Value (Simply kind.Reference) ∷ z) a.1, refl), works behind refl same),
      )
  store_op (ToPlace x) (value_stored k next is a none same) =
      goes_on s o g long m i t rest top (Do (Eval x) ∷ Do SwapOp ∷ Do (StoreOp ToAddress) ∷ w) vals todo before b h (
        todo,
        a.0 ∷ before,
        (Some a.0, now_fine x (Some a.0) none a.2, refl, refl),
        (
          todo,
          Value (Simply k) ∷ a.0 ∷ next,
          (a.0, k, next, takes_address k a.0 a.1, ap (λ z. a.0 ∷ z) is, refl, refl),
          (todo, next, value_stored k (a.0 ∷ next) refl (a.0, a.1, refl) none refl, works next (sym a.3) same),
        ),
      )
  store_op (ToReferenceAt x line) (value_stored k next is a none same) =
      goes_on s o g long m i t rest top (Do (Eval x) ∷ Do SwapOp ∷ Do (ReferOp line) ∷ w) vals todo before b h (
        todo,
        ReferenceAddress a.2 ∷ before,
        (Some (ReferenceAddress a.2), now_fine x (Some (ReferenceAddress a.2)) none a.3, refl, refl),
        (
          todo,
          Value (Simply k) ∷ ReferenceAddress a.2 ∷ next,
          (ReferenceAddress a.2, k, next, tt, ap (λ z. ReferenceAddress a.2 ∷ z) is, refl, refl),
          (todo, next, (ReferenceAddress a.2, tt, ap (λ z. Value z ∷ ReferenceAddress a.2 ∷ next) a.0, refl), works next (sym a.1) same),
        ),
      )
  store_op (ToCell j key) (array_stored a) =
      let d = a.declaration in
      let e = a.is in
      let is_i : j ≡ i = cc in
      let is_key : key ≡ Declared d.0 = cc in
      any_popped P s (see g o) m i (Value (ArrayOf a.element)) behind vals o (λ v vs. having (cell_set m j key v) o (λ m. go o m i w vs rest)) (hand _ (a.«in»)) (λ v vs f here more.
      subst (λ z. Goes P (having (cell_set m z key v) o (λ m. go o m i w vs rest))) (sym is_i)
      (subst (λ z. Goes P (having (cell_set m i z v) o (λ m. go o m i w vs rest))) (sym is_key)
      (stored_array s ok l o g long m i t rest top d a.element v w vs todo todo' behind a.level a.of_level a.holds a.there a.waits here b more work)))
  store_op ToAddress (array_stored a) = let e = a.is in absurd (cc)
  store_op (ToText line) (array_stored a) = let e = a.is in absurd (cc)
  store_op (ToTextOf j key line) (array_stored a) = let e = a.is in absurd (cc)
  store_op (ToReference line) (array_stored a) = let e = a.is in absurd (cc)
  store_op (ToNamed c line) (array_stored a) = let e = a.is in absurd (cc)
  store_op (ToPlace x) (array_stored a) = let e = a.is in absurd (cc)
  store_op (ToTextAt x line) (array_stored a) = let e = a.is in absurd (cc)
  store_op (ToReferenceAt x line) (array_stored a) = let e = a.is in absurd (cc)

  pub past_op : OpFine s (see g o) m i t PastOp todo todo' before behind → Stepped PastOp
  past_op a = goes vals before h (works before a.0 a.1)

  pub step_op : (line : ℕ) → OpFine s (see g o) m i t (StepOp line) todo todo' before behind → Stepped (StepOp line)
  step_op line a = step_applied P s (see g o) m i line a.0 vals o (λ z vs. go o m i w (Of z ∷ vs) rest) (hand _ a.1) (λ p vs e more. goes (Of p ∷ vs) (Value (Simply kind.Boolean) ∷ a.0) (plain_by_kind s m kind.Boolean p e (λ e. cc), more) (works _ a.2 a.3))

  -- ---- objects and references

  swap_goes : (x : Kinds) (v : Val) (u : Val) (k : Kind) (d e : List Val) → IsAddress x → DeepFine s (see g o) m i d x v → DeepFine s (see g o) m i e x v
  swap_goes (AddressOf z) v u k d e is f = f
  swap_goes (ReferenceAddress z) v u k d e is f = f
  swap_goes (Value z) v u k d e is f = absurd is
  swap_goes ImageAddress v u k d e is f = absurd is
  swap_goes (LinkTo z) v u k d e is f = absurd is
  swap_goes (Copied z) v u k d e is f = absurd is
  swap_goes (Lasting z) v u k d e is f = absurd is
  swap_goes Component v u k d e is f = absurd is
  swap_goes (ObjectIn z) v u k d e is f = absurd is
  swap_goes (NewObject z) v u k d e is f = absurd is
  swap_goes (Checked es z) v u k d e is f = absurd is
  swap_goes (ForFormal z) v u k d e is f = absurd is
  swap_goes (Whichever value_too z) v u k d e is f = f

  pub swap_op : OpFine s (see g o) m i t SwapOp todo todo' before behind → Stepped SwapOp
  swap_op a =
      any_popped P s (see g o) m i a.0 (Value (Simply a.1) ∷ a.2) vals o (λ v vs. popping vs o (λ u vs. go o m i w (u ∷ v ∷ vs) rest)) (hand _ a.4) (λ v vs is e more.
      any_popped P s (see g o) m i (Value (Simply a.1)) a.2 vs o (λ u vs. go o m i w (u ∷ v ∷ vs) rest) more (λ u us is' f most.
      goes (u ∷ v ∷ us) (Value (Simply a.1) ∷ a.0 ∷ a.2) (f, (swap_goes a.0 v u a.1 vs us a.3 e, most)) (works _ a.5 a.6)))

  -- an actual parameter by name is closed, in the instance in which it stands
  pub close_op : (p : Bool) (e : Expression) → OpFine s (see g o) m i t (CloseOp p e) todo todo' before behind → Stepped (CloseOp p e)
  close_op p e a =
      goes_on s o g long m i t rest top (Do (Eval (close_passed p s m i e)) ∷ w) vals todo before b h
      (todo, actual_gives s p e a.0 ∷ before, (Some (actual_gives s p e a.0), passed_closed s ok (see g o) m b.store i t todo a.1 a.2 p e a.0 a.3, refl, refl), works (actual_gives s p e a.0 ∷ before) a.4 a.5)

  -- an object of `process` itself keeps where it was generated
  pub origin_op : (k token line : ℕ) → OpFine s (see g o) m i t (OriginOp k token line) todo todo' before behind → Stepped (OriginOp k token line)
  origin_op k token line a =
      new_popped P s (see g o) m i k line a.1 vals o (λ j vs. when (is_in s m k j) o (having (cell_set m j Origin (Of (Integer (pos token)))) o (λ m. go o m i w (Of (Object j) ∷ vs) rest))) (hand _ a.3) (λ j vs p more.
      let q = p.object in
      let x = q.now in
      whens P (is_in s m k j) o (having (cell_set m j Origin (Of (Integer (pos token)))) o (λ m. go o m i w (Of (Object j) ∷ vs) rest)) (object_in s ok (see g o) m b.store j k k q (has_itself s ok k))
      (origin_goes s ok l o g long m i t rest top j (pos token) x q.lives ((b.store.instances j x q.lives).origins p.proper k (level_is s x.text k q.levels) (a.2).process) w (Of (Object j) ∷ vs) todo (Value a.0 ∷ a.1) b
      (plain_val s (see g o) m i a.0 (Object j) (plain_fits s ok (see g o) m b.store (Refers k) a.0 (Object j) (a.2).fits q), more) (works _ a.4 a.5)))

  -- no main program has an attribute of a class that is not one of the standard classes
  pub bare : (c u : ℕ) → has_level s.tables c u ≡ true → NotStandard s u → (z : ℕ) → MainIn s m z c → ⊥
  bare c u e own z x = main_bare s ok x.level u (x.block).simulates (level_then s (level_is s (x.level + 4) c x.levels) (level_is s c u e)) own

  pub attribute_op : (u : ℕ) (key : Key) (class : Option ℕ) (line : ℕ) → OpFine s (see g o) m i t (AttributeOp u key class line) todo todo' before behind → Stepped (AttributeOp u key class line)
  attribute_op u key class line a =
      object_popped P s (see g o) m i a.0 line a.3 vals o (λ j vs. when (is_in s m u j) o (go o m i w (Address (CellPlace j key class) ∷ vs) rest)) (λ b x. bare a.0 u (a.4).level (a.4).own b x) (hand _ a.6) (λ j vs p more.
      whens P (is_in s m u j) o (go o m i w (Address (CellPlace j key class) ∷ vs) rest) (object_in s ok (see g o) m b.store j a.0 u p (a.4).level)
      (goes (Address (CellPlace j key class) ∷ vs) (a.2 ∷ a.3) (address class a.1 a.2 vs j a.5 (target j vs p), more) (works _ a.7 a.8)))
    where
      target : (j : ℕ) (vs : List Val) → ObjectOf s m j a.0 → CellLies s (see g o) m i j key a.1
      target j vs p =
          let whole = object_whole s ok (see g o) m b.store j a.0 u p (a.4).level in
          let has : has_levels (text s u) ≡ true = object_levels s ok (see g o) m b.store j a.0 u p (a.4).level in
          record { around = u; near = near_staying (record { now = p.now; lives = p.lives; stays = p.stays }); todo = []; here = whole; ready = λ d e z. none_among d z; holds = (a.4).is has; there = (a.4).there has }

      address : (class : Option ℕ) (held : Holds) (x : Kinds) (d : List Val) (j : ℕ) → Addressed class held x → CellLies s (see g o) m i j key held → DeepFine s (see g o) m i d x (Address (CellPlace j key class))
      address None held x d j is c = subst (λ z. DeepFine s (see g o) m i d z (Address (CellPlace j key None))) is c
      address (Some k) held x d j is c = subst (λ z. DeepFine s (see g o) m i d z (Address (CellPlace j key (Some k)))) is.1 (refl, subst (λ z. CellLies s (see g o) m i j key z) is.0 c)

  has_the_procedure : (j k u : ℕ) → encloser s.tables k ≡ Some u → is_in s m u j ≡ true → has_procedure s m k j ≡ true
  unfolding has_procedure
  has_the_procedure j k u e is = ap (λ z. is_in_any s m z j) e ∙ is

  pub object_op : (k line : ℕ) → OpFine s (see g o) m i t (ObjectOp k line) todo todo' before behind → Stepped (ObjectOp k line)
  object_op k line a =
      object_popped P s (see g o) m i a.0 line a.2 vals o (λ j vs. when (has_procedure s m k j) o (go o m i w (Link j ∷ vs) rest)) (λ b x. bare a.0 a.1 a.3 a.4 b x) (hand _ a.6) (λ j vs p more.
      whens P (has_procedure s m k j) o (go o m i w (Link j ∷ vs) rest) (has_the_procedure j k a.1 a.5 (object_in s ok (see g o) m b.store j a.0 a.1 p a.3))
      (goes (Link j ∷ vs) (LinkTo a.1 ∷ a.2) ((knows_object s m i j a.0 p, object_whole s ok (see g o) m b.store j a.0 a.1 p a.3), more) (works _ a.7 a.8)))

  pub qualified_element_op : (n line c : ℕ) → OpFine s (see g o) m i t (QualifiedElementOp n line c) todo todo' before behind → Stepped (QualifiedElementOp n line c)
  qualified_element_op n line c a =
      found_element P s m i (Refers c) n line a.0 vals o g (λ array index vs. go o m i w (Address (ElementPlace array index (Some c)) ∷ vs) rest) (hand _ a.1) (λ array index vs e more.
      goes (Address (ElementPlace array index (Some c)) ∷ vs) (ReferenceAddress c ∷ a.0) ((refl, e), more) (works _ a.2 a.3))

  -- the object in hand; none ends the run
  pub not_none_op : (line : ℕ) → OpFine s (see g o) m i t (NotNoneOp line) todo todo' before behind → Stepped (NotNoneOp line)
  not_none_op line a = by_kind a.0 a.1 a.3 (hand _ a.4) (works _ a.5 a.6)
    where
      component : (p : Plain) → PlainFine s m (Simply kind.Reference) p → (p ≡ Nothing → ⊥) → (d : List Val) → DeepFine s (see g o) m i d Component (Of p)
      component (Object j) e some d = e.1
      component (MainOf z) e some d = e.1
      component Nothing e some d = absurd (some refl)
      component (Integer z) e some d = absurd (let f = e.0 in cc)
      component (Character z) e some d = absurd (let f = e.0 in cc)
      component (Truth z) e some d = absurd (let f = e.0 in cc)
      component (Text z) e some d = absurd (let f = e.0 in cc)

      in_class : (c k : ℕ) → has_level s.tables c k ≡ true → (p : Plain) → ReferenceFine s m c p → (p ≡ Nothing → ⊥) → (d : List Val) → DeepFine s (see g o) m i d (ObjectIn k) (Of p)
      in_class c k is (Object j) e some d = object_up s ok (see g o) m b.store j c k e is
      in_class c k is (MainOf z) e some d = main_up s ok (see g o) m b.store z c k e is
      in_class c k is Nothing e some d = absurd (some refl)
      in_class c k is (Integer z) e some d = absurd e
      in_class c k is (Character z) e some d = absurd e
      in_class c k is (Truth z) e some d = absurd e
      in_class c k is (Text z) e some d = absurd e

      by_kind : (h : Holds) (x : Kinds) → ShowsObject s h x → HandsFine s (see g o) m i (Value h ∷ a.2) vals → Work s o g long m i t rest top w todo (x ∷ a.2) → Stepped (NotNoneOp line)
      by_kind h Component is f y =
          any_some_popped P s (see g o) m i line a.2 vals o (λ p vs. go o m i w (Of p ∷ vs) rest) (subst (λ z. HandsFine s (see g o) m i (Value z ∷ a.2) vals) is f) (λ p vs e some more. goes (Of p ∷ vs) (Component ∷ a.2) (component p e some vs, more) y)
      by_kind (Refers c) (ObjectIn k) is f y =
          some_popped P s (see g o) m i c line a.2 vals o (λ p vs. go o m i w (Of p ∷ vs) rest) f (λ p vs e some more. goes (Of p ∷ vs) (ObjectIn k ∷ a.2) (in_class c k is p e some vs, more) y)
      by_kind (Simply q) (ObjectIn k) is f y = absurd is
      by_kind (ArrayOf q) (ObjectIn k) is f y = absurd is
      by_kind (Procedure q) (ObjectIn k) is f y = absurd is
      by_kind (ByName q) (ObjectIn k) is f y = absurd is
      by_kind h _ is f y = absurd is

  pub member_op : (member : Membership) (c : ℕ) → OpFine s (see g o) m i t (MemberOp member c) todo todo' before behind → Stepped (MemberOp member c)
  member_op member c a =
      plain_popped P s (see g o) m i kind.Reference a.0 vals o (λ p vs. having (is_member s m member c p) o (λ b. go o m i w (Of (Truth b) ∷ vs) rest)) (hand _ a.1) (λ p vs e more.
      let x = tested p e in
      had P (is_member s m member c p) x.0 o (λ b. go o m i w (Of (Truth b) ∷ vs) rest) x.1 (goes (Of (Truth x.0) ∷ vs) (Value (Simply kind.Boolean) ∷ a.0) ((refl, tt), more) (works _ a.2 a.3)))
    where
      tested : (p : Plain) → kind_of p ≡ kind.Reference → (b : Bool) × (is_member s m member c p ≡ Some b)
      tested (Object j) e = (belongs s m member c j, refl)
      tested (MainOf z) e = (main_belongs s m member c z, refl)
      tested Nothing e = (false, refl)
      tested (Integer z) e = absurd (cc)
      tested (Character z) e = absurd (cc)
      tested (Truth z) e = absurd (cc)
      tested (Text z) e = absurd (cc)

  pub qua_op : (c line : ℕ) → OpFine s (see g o) m i t (QuaOp c line) todo todo' before behind → Stepped (QuaOp c line)
  qua_op c line a =
      any_some_popped P s (see g o) m i line a.1 vals o (λ p vs. qualifying line (stands_in s m c) p o (go o m i w (Of p ∷ vs) rest)) (hand _ a.3) (λ p vs e some more.
      held_reference_goes P s m ok c line p o (go o m i w (Of p ∷ vs) rest) e (λ fine.
      goes (Of p ∷ vs) (Value a.0 ∷ a.1) (val_fits s ok (see g o) m b.store i (Refers c) a.0 (Of p) a.2 fine, more) (works _ a.4 a.5)))

  pub fits_op : (c line : ℕ) → OpFine s (see g o) m i t (FitsOp c line) todo todo' before behind → Stepped (FitsOp c line)
  fits_op c line a =
      known_popped P s (see g o) m i kind.Reference a.1 vals o (λ p vs. qualifying line (stands_in s m c) p o (go o m i w (Of p ∷ vs) rest)) (hand _ a.3) (λ p vs e more.
      held_reference_goes P s m ok c line p o (go o m i w (Of p ∷ vs) rest) e (λ fine.
      goes (Of p ∷ vs) (Value a.0 ∷ a.1) (val_fits s ok (see g o) m b.store i (Refers c) a.0 (Of p) a.2 fine, more) (works _ a.4 a.5)))

  -- an array that is kept stays
  pub keep_op : OpFine s (see g o) m i t KeepOp todo todo' before behind → Stepped KeepOp
  unfolding keeping_array
  keep_op a =
      any_popped P s (see g o) m i (Value (ArrayOf a.0)) a.1 vals o (λ v vs. having (array_in v) o (λ array. keeping_array array o (λ p. go p m i w (ArrayValue array ∷ vs) rest))) (hand _ a.2) (λ v vs is e hands.
      array_is P s (see g o) m i a.0 v o (λ array. keeping_array array o (λ p. go p m i w (ArrayValue array ∷ vs) rest)) e (λ n f same.
      had P (live_array o n) f.it o (λ x. go (with_array o n (record x { kept = true })) m i w (ArrayValue n ∷ vs) rest) f.lives (
      let now : OneArray = record f.it { kept = true } in
      let next = replaced (see g o) n f.it now f.lives refl (inr refl) (λ k. refl) refl refl in
      let e = later_replaced (see g o) n f.it now f.lives refl (inr refl) (λ k. refl) refl refl s m in
      let copies : AllCopies (see g o) next = copies_replaced (see g o) n f.it now f.lives refl (inr refl) (λ k. refl) refl refl a.0 f.known in
      let store = store_with s (see g o) next m e refl refl copies (elements_replaced (see g o) n f.it now f.lives refl (inr refl) (λ k. refl) refl refl s m (Open a.0) f.known (λ q p at. b.store.elements n q f.it (Open a.0) p f.lives f.known at) b.store.elements) b.store.members b.store.simulations b.store in
      later_with s ok l o g long m i t rest top g (with_array o n now) (long ∙ sym (set_len o.arrays n now)) refl refl refl m e copies (same_ones m) store w (ArrayValue n ∷ vs) todo (Lasting a.0 ∷ a.1) (present_later s (see g o) m next m All e i t todo tt b.here) (own_later s (see g o) m next m All e i t todo tt b.here ∙ b.own) b.works
      (record { it = now; lives = new_lives (see g o) n f.it now f.lives refl (inr refl) (λ k. refl) refl refl n refl; known = f.known; keeps = refl; count = f.count }, later_hands s ok l o g long m i t rest top g (with_array o n now) (long ∙ sym (set_len o.arrays n now)) refl refl refl m e copies (same_ones m) store a.1 vs hands) (works _ a.3 a.4))))

  pub refer_op : (line : ℕ) → OpFine s (see g o) m i t (ReferOp line) todo todo' before behind → Stepped (ReferOp line)
  refer_op line a =
      known_popped P s (see g o) m i kind.Reference (a.0 ∷ behind) vals o (λ p vs. popping vs o (λ v vs. having (place_in v) o (λ place. putting_reference s line place p o m (λ o m. go o m i w vs rest)))) (hand _ a.2) (λ p vs e more.
      any_popped P s (see g o) m i a.0 behind vs o (λ v vs. having (place_in v) o (λ place. putting_reference s line place p o m (λ o m. go o m i w vs rest))) more (λ v vs is f most.
      let x = reference_hand a.0 vs v a.1 f in
      putting_reference_goes s ok l o g long m i t rest top x.0 line v p w vs todo behind x.1 e b most (works behind refl a.3)))
