-- A standard name on operands of its kinds gives a value of its kind, and puts back no other text than its operand, moved.
use Rattle.std.proofs.Common.{⊎_elim, ◌≡◌, ℕ, zero, suc, Bool, true, false, List, [], ◌∷◌, length, Option, Some, None, refl, sym, ap, ◌∙◌, subst}
use Rattle.std.specs.Prelude.{ℤ, pos, negsuc, Result, Ok, Err, ◌==◌, ◌&&◌, ◌||◌}
use Rattle.sim_base.specs.declared.limits.Limits.{Limits}
use Rattle.sim_base.specs.declared.run_error.RunError.{RunError}
use Rattle.sim_scope.specs.Source.{Source}
use Rattle.sim_values.specs.declared.kind.Kind.{Kind}
use Rattle.sim_values.specs.declared.kind.Kind.TheVariants as kind
use Rattle.sim_values.specs.declared.standard.Standard.{Standard}
use Rattle.sim_values.specs.declared.standard.Standard.TheVariants as name
use Rattle.sim_values.specs.declared.value.TextVal.{TextVal}
use Rattle.sim_values.specs.Images.{OutputState, outchar, outimage, outint, outtext}
use Rattle.sim_values.specs.Plain.{Character, Integer, Plain, Text, Truth, kind_of}
use Rattle.sim_values.specs.Standard.{Function, applied, elsewhere, of_character, of_integer, of_integers, of_nothing, of_text, of_text_and_character, of_text_and_integer, of_text_and_integers, operands_of, row_of, standard_effect, take_character, take_integer, take_nothing, take_text}
use Rattle.sim_values.specs.Store.{Effect, Store, image_at, moves, output_of, unvalued, valued, writes}
use Rattle.sim_values.specs.Texts.{Frame, TextStep, at_position, characters, copy, getchar, getchar_refusal, getint, integer_item, integer_taken, moved, putchar, putchar_refusal, putint, putint_refusal, same_text, setpos, unless}
use Rattle.sim_code.specs.Arrays.{element, element_in}
use Rattle.sim_code.specs.Events.{computing, having, only_text, performing, pop_operands, putting_back, taking}
use Rattle.sim_code.specs.Instances.{CellPlace, ElementPlace, ImagePlace}
use Rattle.sim_code.specs.Outcome.{Run, World}
use Rattle.sim_code.specs.Running.{name_runs}
use Rattle.sim_code.specs.Sets.{is_attribute_name}
use Rattle.sim_code.specs.Simulations.{is_simulation_name}
use Rattle.sim_meaning.specs.Pending.{Address, ArrayValue, Configuration, Instances, Link, Of, ProcedureValue, Actual, Val, cell}
use Rattle.sim_meaning.specs.Steps.{of_plain, operand, plain_in, put_back}
use Rattle.sim_sound.specs.Held.{ByName, ArrayOf, Holds, Refers, Simply, Procedure}
use Rattle.sim_sound.specs.Expressions.{DoneAlone, standard_kind}
use Rattle.sim_sound.proofs.Cells.{lies_cell, val_up, whichever_value}
use Rattle.sim_sound.proofs.Constants.{NoReference}
use Rattle.sim_sound.proofs.Running.{StoreFine}
use Rattle.sim_sound.proofs.Sound.{OperandIs, OperandsAre, pushed}
use Rattle.sim_sound.proofs.Values.{Whichever, ObjectIn, AddressOf, Component, Copied, DeepFine, ElementFine, HandFine, HandsFine, ImageAddress, IsImage, Kinds, Lasting, LinkTo, Marks, Open, PlainFine, ReferenceAddress, ValFine, Value, see, Checked, ForFormal, NewObject}
use Rattle.sim_sound.proofs.Lifts.{Goes, Shape, a_char, a_text, an_int, any_popped, computed, had, ran, shape, took}
use Rattle.sim_sound.proofs.Lists.{equal_numbers, there_get}

-- ---- answers

abbrev pub ValueIs : Option Kind → Option Plain → Type 0
ValueIs None None = Unit {0}
ValueIs (Some k) (Some p) = (kind_of p ≡ k) × NoReference (Some p)
ValueIs _ _ = ⊥

-- an answer that is no error has a value of this kind, or has none
abbrev pub Valued : Option Kind → Result (Option Plain) RunError → Type 0
Valued k r = (v : Option Plain) → r ≡ Ok v → ValueIs k v

valued_is : (A : Type 0) (make : A → Plain) (k : Kind) (r : Result A RunError) → ((a : A) → (kind_of (make a) ≡ k) × NoReference (Some (make a))) → Valued (Some k) (valued make r)
valued_is A make k (Ok a) f v e = let g : Some (make a) ≡ v = cc in subst (ValueIs (Some k)) g (f a)
valued_is A make k (Err x) f v e = absurd (cc)

no_value : (v : Option Plain) → None ≡ v → ValueIs None v
no_value v e = subst (ValueIs None) e tt

unvalued_is : (r : Result (Unit {0}) RunError) → Valued None (unvalued r)
unvalued_is (Ok a) v e = no_value v (cc)
unvalued_is (Err x) v e = absurd (cc)

gives_is : (k : Kind) (p : Plain) → (kind_of p ≡ k) × NoReference (Some p) → Valued (Some k) (Ok (Some p))
gives_is k p h v e = let f : Some p ≡ v = cc in subst (ValueIs (Some k)) f h

writes_is : (r : Result OutputState RunError) (s : Store) → Valued None ((writes r s).answer)
writes_is (Ok o) s v e = no_value v (cc)
writes_is (Err x) s v e = absurd (cc)

writes_stays : (r : Result OutputState RunError) (s : Store) → (writes r s).moved ≡ None
writes_stays (Ok o) s = refl
writes_stays (Err x) s = refl

-- ---- texts that are moved

or_true : (b : Bool) → (b || true) ≡ true
or_true true = refl
or_true false = refl

all_true : (a b c : Bool) → a ≡ true → b ≡ true → c ≡ true → (a && b && c) ≡ true
all_true true true true e f g = refl
all_true true true false e f g = absurd (cc)
all_true true false c e f g = absurd (cc)
all_true false b c e f g = absurd (cc)

second_true : (a b : Bool) → b ≡ true → (a || b) ≡ true
second_true a true e = or_true a
second_true a false e = absurd (cc)

same_at : (t : TextVal) (p : ℕ) → same_text t (at_position t p) ≡ true
same_at t p = second_true (t.length == 0 && t.length == 0) (t.text_frame == t.text_frame && t.start == t.start && t.length == t.length) (all_true (t.text_frame == t.text_frame) (t.start == t.start) (t.length == t.length) (equal_numbers t.text_frame t.text_frame refl) (equal_numbers t.start t.start refl) (equal_numbers t.length t.length refl))

same_self : (t : TextVal) → same_text t t ≡ true
same_self t = same_at t t.pos

same_unless : {A : Type 0} (r : Option RunError) (frames : List Frame) (t : TextVal) (step : TextStep A) → same_text t step.text ≡ true → same_text t (unless r frames t step).text ≡ true
same_unless None frames t step e = e
same_unless (Some x) frames t step e = same_self t

same_moved : (t : TextVal) (i : ℤ) → same_text t (moved t i) ≡ true
same_moved t (pos n) = same_self t
same_moved t (negsuc n) = same_self t

same_taken : (frames : List Frame) (t : TextVal) (r : Result (ℤ × ℕ) RunError) → same_text t (integer_taken frames t r).text ≡ true
same_taken frames t (Ok (z, used)) = same_self t
same_taken frames t (Err x) = same_self t

-- ---- what a name does

abbrev pub SameImages : Store → Store → Type 0
SameImages s s' = (s'.sysin ≡ s.sysin) × (s'.sysout ≡ s.sysout)

abbrev pub FirstIs : Option TextVal → TextVal → Type 0
FirstIs None t = ⊥
FirstIs (Some first) t = same_text first t ≡ true

-- an answer as it should be; and what is moved is the text operand, and then no image is changed
pub record NameFine (k : Option Kind) (first : Option TextVal) (s : Store) (e : Effect) : Type 0 where
  pub value : Valued k e.answer
  pub back : (t : TextVal) → e.moved ≡ Some t → FirstIs first t × SameImages s e.store

stays : {k : Option Kind} {first : Option TextVal} {s : Store} {e : Effect} → Valued k e.answer → e.moved ≡ None → NameFine k first s e
stays a f = record { value = a; back = λ t g. absurd (cc) }

moves_fine : {A : Type 0} (k : Option Kind) (show : Result A RunError → Result (Option Plain) RunError) (t : TextVal) (step : TextStep A) (s : Store) → Valued k (show step.answer) → same_text t step.text ≡ true → NameFine k (Some t) s (moves show step s)
moves_fine k show t step s a e = record { value = a; back = λ u g. (subst (λ z. same_text t z ≡ true) (let f : step.text ≡ u = cc in f) e, (refl, refl)) }

abbrev AllFine : Option Kind → Function → Type 0
AllFine k (of_nothing f) = (s : Store) → NameFine k None s (f s)
AllFine k (of_integer f) = (i : ℤ) (s : Store) → NameFine k None s (f i s)
AllFine k (of_integers f) = (i j : ℤ) (s : Store) → NameFine k None s (f i j s)
AllFine k (of_character f) = (c : ℕ) (s : Store) → NameFine k None s (f c s)
AllFine k (of_text f) = (t : TextVal) (s : Store) → NameFine k (Some t) s (f t s)
AllFine k (of_text_and_integer f) = (t : TextVal) (i : ℤ) (s : Store) → NameFine k (Some t) s (f t i s)
AllFine k (of_text_and_integers f) = (t : TextVal) (i j : ℤ) (s : Store) → NameFine k (Some t) s (f t i j s)
AllFine k (of_text_and_character f) = (t : TextVal) (c : ℕ) (s : Store) → NameFine k (Some t) s (f t c s)
AllFine k elsewhere = ⊥

abbrev RowIs : Standard → Type 0
RowIs n = AllFine (standard_kind (row_of n).result) (row_of n).function

row_is : (n : Standard) → name_runs n ≡ true → is_attribute_name n ≡ false → is_simulation_name n ≡ false → RowIs n
unfolding row_of
row_is name.Abs e free bare = λ i s. stays (valued_is ℤ Integer kind.Integer _ (λ a. (refl, tt))) refl
row_is name.Sign e free bare = λ i s. stays (gives_is kind.Integer _ (refl, tt)) refl
row_is name.Min e free bare = λ i j s. stays (gives_is kind.Integer _ (refl, tt)) refl
row_is name.Max e free bare = λ i j s. stays (gives_is kind.Integer _ (refl, tt)) refl
row_is name.Mod e free bare = λ i j s. stays (valued_is ℤ Integer kind.Integer _ (λ a. (refl, tt))) refl
row_is name.Rem e free bare = λ i j s. stays (valued_is ℤ Integer kind.Integer _ (λ a. (refl, tt))) refl
row_is name.Maxint e free bare = λ s. stays (gives_is kind.Integer _ (refl, tt)) refl
row_is name.Minint e free bare = λ s. stays (gives_is kind.Integer _ (refl, tt)) refl
row_is name.Char e free bare = λ i s. stays (valued_is ℕ Character kind.Character _ (λ a. (refl, tt))) refl
row_is name.Rank e free bare = λ c s. stays (gives_is kind.Integer _ (refl, tt)) refl
row_is name.Isochar e free bare = λ i s. stays (valued_is ℕ Character kind.Character _ (λ a. (refl, tt))) refl
row_is name.Isorank e free bare = λ c s. stays (gives_is kind.Integer _ (refl, tt)) refl
row_is name.Digit e free bare = λ c s. stays (gives_is kind.Boolean _ (refl, tt)) refl
row_is name.Letter e free bare = λ c s. stays (gives_is kind.Boolean _ (refl, tt)) refl
row_is name.Blanks e free bare = λ i s. stays (valued_is TextVal Text kind.Text _ (λ a. (refl, tt))) refl
row_is name.Copy e free bare = λ t s. stays (valued_is TextVal Text kind.Text (copy s.frames t).answer (λ a. (refl, tt))) refl
row_is name.Upcase e free bare = λ t s. stays (valued_is TextVal Text kind.Text _ (λ a. (refl, tt))) refl
row_is name.Lowcase e free bare = λ t s. stays (valued_is TextVal Text kind.Text _ (λ a. (refl, tt))) refl
row_is name.TextConstant e free bare = λ t s. stays (gives_is kind.Boolean _ (refl, tt)) refl
row_is name.TextStart e free bare = λ t s. stays (gives_is kind.Integer _ (refl, tt)) refl
row_is name.TextLength e free bare = λ t s. stays (gives_is kind.Integer _ (refl, tt)) refl
row_is name.TextPos e free bare = λ t s. stays (gives_is kind.Integer _ (refl, tt)) refl
row_is name.TextMore e free bare = λ t s. stays (gives_is kind.Boolean _ (refl, tt)) refl
row_is name.TextMain e free bare = λ t s. stays (gives_is kind.Text _ (refl, tt)) refl
row_is name.TextSetpos e free bare = λ t i s. moves_fine None unvalued t (setpos s.frames t i) s (unvalued_is (setpos s.frames t i).answer) (same_moved t i)
row_is name.TextGetchar e free bare = λ t s. moves_fine (Some kind.Character) (valued Character) t (getchar s.frames t) s (valued_is ℕ Character kind.Character _ (λ a. (refl, tt))) (same_unless (getchar_refusal t) s.frames t _ (same_self t))
row_is name.TextPutchar e free bare = λ t c s. moves_fine None unvalued t (putchar s.frames t c) s (unvalued_is _) (same_unless (putchar_refusal s.frames t) s.frames t _ (same_self t))
row_is name.TextSub e free bare = λ t i j s. stays (valued_is TextVal Text kind.Text _ (λ a. (refl, tt))) refl
row_is name.TextStrip e free bare = λ t s. stays (gives_is kind.Text _ (refl, tt)) refl
row_is name.TextGetint e free bare = λ t s. moves_fine (Some kind.Integer) (valued Integer) t (getint s.frames t) s (valued_is ℤ Integer kind.Integer _ (λ a. (refl, tt))) (same_taken s.frames t (integer_item (characters s.frames t)))
row_is name.TextPutint e free bare = λ t i s. moves_fine None unvalued t (putint s.frames t i) s (unvalued_is _) (same_unless (putint_refusal s.frames t) s.frames t _ (same_self t))
row_is name.Inimage e free bare = λ s. stays (unvalued_is _) refl
row_is name.Inchar e free bare = λ s. stays (valued_is ℕ Character kind.Character _ (λ a. (refl, tt))) refl
row_is name.Inint e free bare = λ s. stays (valued_is ℤ Integer kind.Integer _ (λ a. (refl, tt))) refl
row_is name.Intext e free bare = λ i s. stays (valued_is TextVal Text kind.Text _ (λ a. (refl, tt))) refl
row_is name.Lastitem e free bare = λ s. stays (valued_is Bool Truth kind.Boolean _ (λ a. (refl, tt))) refl
row_is name.Endfile e free bare = λ s. stays (gives_is kind.Boolean _ (refl, tt)) refl
row_is name.Outimage e free bare = λ s. stays (writes_is (Ok (outimage (output_of s))) s) refl
row_is name.Outchar e free bare = λ c s. stays (writes_is (Ok (outchar (output_of s) c)) s) refl
row_is name.Outtext e free bare = λ t s. stays (writes_is (Ok (outtext (output_of s) t)) s) refl
row_is name.Outint e free bare = λ i w s. stays (writes_is (outint (output_of s) i w) s) (writes_stays (outint (output_of s) i w) s)
row_is _ e free bare = absurd (cc)

-- ---- operands

-- an element that an address in hand leads to
pub element_there : (s : Source) (g : Marks) (o : World) (m : Instances) (i a n : ℕ) (h : Holds) → StoreFine s (see g o) m → ElementFine (see g o) m i h a n → (p : Plain) × (element o a n ≡ Some p) × PlainFine s m h p
element_there s g o m i a n h store f =
    let w = there_get (f.array.it).elements n f.there in
    (w.0, ap (λ z. element_in z n) (f.array).lives ∙ w.1, store.elements a n (f.array).it (Open h) w.0 (f.array).lives (f.array).known w.1)

-- the image of a number
pub image_there : (s : Store) (n : ℕ) → IsImage n → (t : TextVal) × (image_at s n ≡ Some t)
image_there s zero is = (s.sysin, refl)
image_there s (suc zero) is = (s.sysout, refl)
image_there s (suc (suc n)) is = absurd is

image_same : (s s' : Store) (n : ℕ) → SameImages s s' → image_at s' n ≡ image_at s n
image_same s s' zero e = ap Some e.0
image_same s s' (suc zero) e = ap Some e.1
image_same s s' (suc (suc n)) e = refl

-- a plain value of a kind
pub plain_of : (s : Source) (g : Marks) (o : World) (m : Instances) (j : ℕ) (k : Kind) (v : Val) → ValFine s (see g o) m j (Simply k) v → (p : Plain) × (v ≡ Of p) × (kind_of p ≡ k)
plain_of s g o m j k (Of p) a = (p, refl, a.0)
plain_of s g o m j k (Link z) a = absurd a
plain_of s g o m j k (Address z) a = absurd a
plain_of s g o m j k (ArrayValue z) a = absurd a
plain_of s g o m j k (ProcedureValue z y) a = absurd a
plain_of s g o m j k (Actual home pr z) a = absurd a

module _ {S : Type 0} (P : World → S → Type 0) (s : Source) (o : World) (g : Marks) (m : Instances) (j : ℕ) where
  -- an operand that lies in an image is its text
  abbrev ReadAt : Val → Plain → Type 0
  ReadAt v p = (n : ℕ) → v ≡ Address (ImagePlace n) → (t : TextVal) × (p ≡ Text t) × (image_at o.store n ≡ Some t)

  abbrev Read : Kind → Val → Type 0
  Read k v = (p : Plain) × (operand o m v ≡ Some p) × (kind_of p ≡ k) × ReadAt v p

  text_read : (p : Plain) → Shape P p kind.Text → (t : TextVal) × (p ≡ Text t)
  text_read _ (a_text t) = (t, refl)

  place_read : (k : Kind) (v : Val) (q : Option Plain) (p : Plain) → k ≡ kind.Text → q ≡ Some p → kind_of p ≡ kind.Text → operand o m v ≡ only_text q → ((n : ℕ) → v ≡ Address (ImagePlace n) → ⊥) → Read k v
  place_read k v q p e at is reads no_image =
      let x = text_read p (shape P p kind.Text is) in
      (Text x.0, reads ∙ ap only_text at ∙ ap (λ z. only_text (Some z)) x.1, sym e, λ n f. absurd (no_image n f))

  -- what is no parameter by name
  abbrev Direct : Kinds → Type 0
  Direct (Whichever value_too k) = ⊥
  Direct _ = Unit {0}

  direct_read : StoreFine s (see g o) m → (k : Kind) (x : Kinds) (v : Val) → Direct x → OperandIs k x → HandFine s (see g o) m j x v → Read k v
  direct_read store k (Whichever value_too h) v direct is a = absurd direct
  direct_read store k (Value (Simply k')) v direct is a =
      let p = plain_of s g o m j k' v a in
      (p.0, ap (operand o m) p.1, p.2 ∙ (let f : k' ≡ k = cc in f), λ n f. absurd (cc))
  direct_read store k (Value (Refers c)) v direct is a = absurd (cc)
  direct_read store k (Value (ArrayOf k')) v direct is a = absurd (cc)
  direct_read store k (Value (Procedure k')) v direct is a = absurd (cc)
  direct_read store k (Value (ByName k')) v direct is a = absurd (cc)
  direct_read store k (AddressOf h) (Address (ElementPlace a n None)) direct is f =
      let q = element_there s g o m j a n h store f in
      let fine : PlainFine s m (Simply kind.Text) q.0 = subst (λ z. PlainFine s m z q.0) is.1 q.2 in
      place_read k (Address (ElementPlace a n None)) (plain_in (of_plain (element o a n))) q.0 is.0 (ap (λ z. plain_in (of_plain z)) q.1) fine.0 refl (λ i g. cc)
  direct_read store k (AddressOf k') (Address (CellPlace e key None)) direct is c =
      let q = lies_cell s (see g o) m j e key k' store c in
      let p = plain_of s g o m j kind.Text q.0 (subst (λ z. ValFine s (see g o) m j z q.0) is.1 (val_up s (see g o) m j e c.near k' q.0 q.2)) in
      place_read k (Address (CellPlace e key None)) (plain_in (cell m e key)) p.0 is.0 (ap plain_in q.1 ∙ ap (λ z. plain_in (Some z)) p.1) p.2 refl (λ i g. cc)
  direct_read store k (AddressOf k') (Address (ElementPlace a n (Some c))) direct is f = absurd f
  direct_read store k (AddressOf k') (Address (CellPlace a n (Some c))) direct is f = absurd f
  direct_read store k (AddressOf k') (Address (ImagePlace n)) direct is f = absurd f
  direct_read store k (AddressOf k') (Of z) direct is f = absurd f
  direct_read store k (AddressOf k') (Link z) direct is f = absurd f
  direct_read store k (AddressOf k') (ArrayValue z) direct is f = absurd f
  direct_read store k (AddressOf k') (ProcedureValue z y) direct is f = absurd f
  direct_read store k (AddressOf k') (Actual home pr z) direct is f = absurd f
  direct_read store k ImageAddress (Address (ImagePlace zero)) direct is f = (Text o.store.sysin, refl, sym is, λ n g. (o.store.sysin, refl, ap (image_at o.store) (let h : n ≡ 0 = cc in h)))
  direct_read store k ImageAddress (Address (ImagePlace (suc zero))) direct is f = (Text o.store.sysout, refl, sym is, λ n g. (o.store.sysout, refl, ap (image_at o.store) (let h : n ≡ 1 = cc in h)))
  direct_read store k ImageAddress (Address (ImagePlace (suc (suc n)))) direct is f = absurd f
  direct_read store k ImageAddress (Address (ElementPlace a n c)) direct is f = absurd f
  direct_read store k ImageAddress (Address (CellPlace a n c)) direct is f = absurd f
  direct_read store k ImageAddress (Of z) direct is f = absurd f
  direct_read store k ImageAddress (Link z) direct is f = absurd f
  direct_read store k ImageAddress (ArrayValue z) direct is f = absurd f
  direct_read store k ImageAddress (ProcedureValue z y) direct is f = absurd f
  direct_read store k ImageAddress (Actual home pr z) direct is f = absurd f
  direct_read store k (LinkTo t) v direct is f = absurd is
  direct_read store k (Copied t) v direct is f = absurd is
  direct_read store k (ReferenceAddress t) v direct is f = absurd is
  direct_read store k (Lasting t) v direct is f = absurd is
  direct_read store k Component v direct is f = absurd is
  direct_read store k (ObjectIn u) v direct is f = absurd is
  direct_read store k (NewObject h) v direct is f = absurd is
  direct_read store k (Checked es h) v direct is f = absurd is
  direct_read store k (ForFormal h) v direct is f = absurd is

  operand_read : StoreFine s (see g o) m → (k : Kind) (x : Kinds) (v : Val) → OperandIs k x → HandFine s (see g o) m j x v → Read k v
  operand_read store k (Whichever value_too h) v is a =
      ⊎_elim (λ f. direct_read store k (AddressOf (Simply kind.Text)) v tt (is.0, refl) f) (λ f. direct_read store k (Value (Simply kind.Text)) v tt (ap Simply (sym is.0)) f.1)
      (whichever_value s (see g o) m j value_too kind.Text v (λ e. cc) (subst (λ z. HandFine s (see g o) m j (Whichever value_too z) v) is.1 a))
  operand_read store k (Value h) v is a = direct_read store k (Value h) v tt is a
  operand_read store k (AddressOf h) v is a = direct_read store k (AddressOf h) v tt is a
  operand_read store k ImageAddress v is a = direct_read store k ImageAddress v tt is a
  operand_read store k _ v is a = absurd is

  -- an operand is no copy of an array
  at_hand : (k : Kind) (x : Kinds) (d : List Val) (v : Val) → OperandIs k x → DeepFine s (see g o) m j d x v → HandFine s (see g o) m j x v
  at_hand k (Value h) d v is f = f
  at_hand k (AddressOf z) d v is f = f
  at_hand k ImageAddress d v is f = f
  at_hand k (LinkTo z) d v is f = f
  at_hand k (Copied z) d v is f = absurd is
  at_hand k (ReferenceAddress z) d v is f = absurd is
  at_hand k (Lasting z) d v is f = absurd is
  at_hand k Component d v is f = absurd is
  at_hand k (ObjectIn u) d v is f = absurd is
  at_hand k (NewObject h) d v is f = absurd is
  at_hand k (Checked es h) d v is f = absurd is
  at_hand k (ForFormal h) d v is f = absurd is
  at_hand k (Whichever value_too h) d v is f = f

  -- a text operand that is put back: the place that it came from, which if it is an image is still the same text
  pub record Back (store : Store) (v : Val) (t : TextVal) : Type 0 where
    pub from : Kinds
    pub is : OperandIs kind.Text from
    pub hand : HandFine s (see g o) m j from v
    pub image : (n : ℕ) → v ≡ Address (ImagePlace n) → (x : TextVal) × (image_at store n ≡ Some x) × (same_text x t ≡ true)

  -- what is put back, if something is
  abbrev pub AllBack : Store → Option Val → Option TextVal → Type 0
  AllBack store first None = Unit {0}
  AllBack store None (Some t) = ⊥
  AllBack store (Some v) (Some t) = Back store v t

  -- the first operand: where it came from, and what it was
  abbrev Came : Option Val → Option TextVal → Type 0
  Came first None = Unit {0}
  Came None (Some t) = ⊥
  Came (Some v) (Some t) = (x : Kinds) × OperandIs kind.Text x × HandFine s (see g o) m j x v × ReadAt v (Text t)

  put_there : (store : Store) (v : Val) (t u : TextVal) → Came (Some v) (Some t) → SameImages o.store store → same_text t u ≡ true → Back store v u
  put_there store v t u c e f = record {
    from = c.0;
    is = c.1;
    hand = c.2;
    image = λ n g. let r = c.3 n g in let same : t ≡ r.0 = cc in (t, image_same o.store store n e ∙ r.2 ∙ ap Some (sym same), f);
  }

  all_back : (k : Option Kind) (first : Option Val) (text : Option TextVal) (e : Effect) (moved : Option TextVal) → e.moved ≡ moved → Came first text → NameFine k text o.store e → AllBack e.store first moved
  all_back k first text e None is c f = tt
  all_back k None text e (Some u) is c f = no_first text c (f.back u is)
    where
      no_first : (text : Option TextVal) → Came None text → FirstIs text u × SameImages o.store e.store → ⊥
      no_first None c g = g.0
      no_first (Some t) c g = c
  all_back k (Some v) text e (Some u) is c f = first_back text c (f.back u is)
    where
      first_back : (text : Option TextVal) → Came (Some v) text → FirstIs text u × SameImages o.store e.store → Back e.store v u
      first_back None c g = absurd g.0
      first_back (Some t) c g = put_there e.store v t u c g.1 g.0

  operand_popped : StoreFine s (see g o) m → (k : Kind) (x : Kinds) (ks : List Kinds) (n : ℕ) (first : Option Val) (vals : List Val) (f : List Plain → Option Val → List Val → Run S) → OperandIs k x → HandsFine s (see g o) m j (x ∷ ks) vals
      → ((v : Val) (p : Plain) (rest : List Val) → kind_of p ≡ k → HandFine s (see g o) m j x v → ReadAt v p → HandsFine s (see g o) m j ks rest → Goes P (pop_operands (operand o m) n (Some v) rest o (λ ps first rest. f (p ∷ ps) first rest))) → Goes P (pop_operands (operand o m) (suc n) first vals o f)
  unfolding pop_operands
  operand_popped store k x ks n first vals f is h go =
      any_popped P s (see g o) m j x ks vals o (λ v rest. having (operand o m v) o (λ p. pop_operands (operand o m) n (Some v) rest o (λ ps first rest. f (p ∷ ps) first rest))) h (λ v rest same here more.
      let hand = at_hand k x rest v is here in
      let r = operand_read store k x v is hand in
      had P (operand o m v) r.0 o (λ p. pop_operands (operand o m) n (Some v) rest o (λ ps first rest. f (p ∷ ps) first rest)) r.1 (go v r.0 rest r.2 hand r.3 more))

  module _ (store : StoreFine s (see g o) m) (left : List Kinds) (after : Effect → Option Val → List Val → Run S) (k : Option Kind) (goes : (e : Effect) (first : Option Val) (rest : List Val) → Valued k e.answer → AllBack e.store first e.moved → HandsFine s (see g o) m j left rest → Goes P (after e first rest)) where
    abbrev done : Function → List Plain → Option Val → List Val → Run S
    done f vs first rest = having (applied f vs o.store) o (λ e. after e first rest)

    finish : (e : Effect) (first : Option Val) (text : Option TextVal) (rest : List Val) → NameFine k text o.store e → Came first text → HandsFine s (see g o) m j left rest → Goes P (having (Some e) o (λ e. after e first rest))
    finish e first text rest f c more = had P (Some e) e o (λ e. after e first rest) refl (goes e first rest f.value (all_back k first text e e.moved refl c f) more)

    took_all : (f : Function) (xs : List Kinds) (vals : List Val) → AllFine k f → OperandsAre (operands_of f) xs → HandsFine s (see g o) m j (pushed xs left) vals → Goes P (pop_operands (operand o m) (length (operands_of f)) None vals o (done f))
    unfolding pop_operands take_nothing take_integer take_character take_text
    took_all (of_nothing f) [] vals all a h = finish (f o.store) None None vals (all o.store) tt h
    took_all (of_integer f) (x ∷ []) vals all a h = operand_popped store kind.Integer x left 0 None vals (done (of_integer f)) a.0 h (λ v p rest e here at more. one v p rest (shape P p kind.Integer e) more)
      where
        one : (v : Val) (p : Plain) (rest : List Val) → Shape P p kind.Integer → HandsFine s (see g o) m j left rest → Goes P (done (of_integer f) (p ∷ []) (Some v) rest)
        one v _ rest (an_int z) more = finish (f z o.store) (Some v) None rest (all z o.store) tt more
    took_all (of_character f) (x ∷ []) vals all a h = operand_popped store kind.Character x left 0 None vals (done (of_character f)) a.0 h (λ v p rest e here at more. one v p rest (shape P p kind.Character e) more)
      where
        one : (v : Val) (p : Plain) (rest : List Val) → Shape P p kind.Character → HandsFine s (see g o) m j left rest → Goes P (done (of_character f) (p ∷ []) (Some v) rest)
        one v _ rest (a_char z) more = finish (f z o.store) (Some v) None rest (all z o.store) tt more
    took_all (of_integers f) (x ∷ y ∷ []) vals all a h =
        operand_popped store kind.Integer y (x ∷ left) 1 None vals (done (of_integers f)) (a.1).0 h (λ u q rest d there at more.
        operand_popped store kind.Integer x left 0 (Some u) rest (λ ps first rest. done (of_integers f) (q ∷ ps) first rest) a.0 more (λ v p rest e here at most. two v p q rest (shape P p kind.Integer e) (shape P q kind.Integer d) most))
      where
        two : (v : Val) (p q : Plain) (rest : List Val) → Shape P p kind.Integer → Shape P q kind.Integer → HandsFine s (see g o) m j left rest → Goes P (done (of_integers f) (q ∷ p ∷ []) (Some v) rest)
        two v _ _ rest (an_int b) (an_int c) more = finish (f b c o.store) (Some v) None rest (all b c o.store) tt more
    took_all (of_text f) (x ∷ []) vals all a h = operand_popped store kind.Text x left 0 None vals (done (of_text f)) a.0 h (λ v p rest e here at more. one v p rest here at (shape P p kind.Text e) more)
      where
        one : (v : Val) (p : Plain) (rest : List Val) → HandFine s (see g o) m j x v → ReadAt v p → Shape P p kind.Text → HandsFine s (see g o) m j left rest → Goes P (done (of_text f) (p ∷ []) (Some v) rest)
        one v _ rest here at (a_text t) more = finish (f t o.store) (Some v) (Some t) rest (all t o.store) (x, a.0, here, at) more
    took_all (of_text_and_integer f) (x ∷ y ∷ []) vals all a h =
        operand_popped store kind.Integer y (x ∷ left) 1 None vals (done (of_text_and_integer f)) (a.1).0 h (λ u q rest d there at more.
        operand_popped store kind.Text x left 0 (Some u) rest (λ ps first rest. done (of_text_and_integer f) (q ∷ ps) first rest) a.0 more (λ v p rest e here at most. two v p q rest here at (shape P p kind.Text e) (shape P q kind.Integer d) most))
      where
        two : (v : Val) (p q : Plain) (rest : List Val) → HandFine s (see g o) m j x v → ReadAt v p → Shape P p kind.Text → Shape P q kind.Integer → HandsFine s (see g o) m j left rest → Goes P (done (of_text_and_integer f) (q ∷ p ∷ []) (Some v) rest)
        two v _ _ rest here at (a_text t) (an_int c) more = finish (f t c o.store) (Some v) (Some t) rest (all t c o.store) (x, a.0, here, at) more
    took_all (of_text_and_character f) (x ∷ y ∷ []) vals all a h =
        operand_popped store kind.Character y (x ∷ left) 1 None vals (done (of_text_and_character f)) (a.1).0 h (λ u q rest d there at more.
        operand_popped store kind.Text x left 0 (Some u) rest (λ ps first rest. done (of_text_and_character f) (q ∷ ps) first rest) a.0 more (λ v p rest e here at most. two v p q rest here at (shape P p kind.Text e) (shape P q kind.Character d) most))
      where
        two : (v : Val) (p q : Plain) (rest : List Val) → HandFine s (see g o) m j x v → ReadAt v p → Shape P p kind.Text → Shape P q kind.Character → HandsFine s (see g o) m j left rest → Goes P (done (of_text_and_character f) (q ∷ p ∷ []) (Some v) rest)
        two v _ _ rest here at (a_text t) (a_char c) more = finish (f t c o.store) (Some v) (Some t) rest (all t c o.store) (x, a.0, here, at) more
    took_all (of_text_and_integers f) (x ∷ y ∷ z ∷ []) vals all a h =
        operand_popped store kind.Integer z (y ∷ x ∷ left) 2 None vals (done (of_text_and_integers f)) ((a.1).1).0 h (λ u r rest c there at more.
        operand_popped store kind.Integer y (x ∷ left) 1 (Some u) rest (λ ps first rest. done (of_text_and_integers f) (r ∷ ps) first rest) (a.1).0 more (λ u q rest d there at most.
        operand_popped store kind.Text x left 0 (Some u) rest (λ ps first rest. done (of_text_and_integers f) (r ∷ q ∷ ps) first rest) a.0 most (λ v p rest e here at all_more. three v p q r rest here at (shape P p kind.Text e) (shape P q kind.Integer d) (shape P r kind.Integer c) all_more)))
      where
        three : (v : Val) (p q r : Plain) (rest : List Val) → HandFine s (see g o) m j x v → ReadAt v p → Shape P p kind.Text → Shape P q kind.Integer → Shape P r kind.Integer → HandsFine s (see g o) m j left rest → Goes P (done (of_text_and_integers f) (r ∷ q ∷ p ∷ []) (Some v) rest)
        three v _ _ _ rest here at (a_text t) (an_int b) (an_int c) more = finish (f t b c o.store) (Some v) (Some t) rest (all t b c o.store) (x, a.0, here, at) more
    took_all elsewhere xs vals all a h = absurd all
    took_all (of_nothing f) (x ∷ xs) vals all a h = absurd a
    took_all (of_integer f) [] vals all a h = absurd a
    took_all (of_integer f) (x ∷ y ∷ xs) vals all a h = absurd a.1
    took_all (of_character f) [] vals all a h = absurd a
    took_all (of_character f) (x ∷ y ∷ xs) vals all a h = absurd a.1
    took_all (of_text f) [] vals all a h = absurd a
    took_all (of_text f) (x ∷ y ∷ xs) vals all a h = absurd a.1
    took_all (of_integers f) [] vals all a h = absurd a
    took_all (of_integers f) (x ∷ []) vals all a h = absurd a.1
    took_all (of_integers f) (x ∷ y ∷ z ∷ xs) vals all a h = absurd (a.1).1
    took_all (of_text_and_integer f) [] vals all a h = absurd a
    took_all (of_text_and_integer f) (x ∷ []) vals all a h = absurd a.1
    took_all (of_text_and_integer f) (x ∷ y ∷ z ∷ xs) vals all a h = absurd (a.1).1
    took_all (of_text_and_character f) [] vals all a h = absurd a
    took_all (of_text_and_character f) (x ∷ []) vals all a h = absurd a.1
    took_all (of_text_and_character f) (x ∷ y ∷ z ∷ xs) vals all a h = absurd (a.1).1
    took_all (of_text_and_integers f) [] vals all a h = absurd a
    took_all (of_text_and_integers f) (x ∷ []) vals all a h = absurd a.1
    took_all (of_text_and_integers f) (x ∷ y ∷ []) vals all a h = absurd (a.1).1
    took_all (of_text_and_integers f) (x ∷ y ∷ z ∷ w ∷ xs) vals all a h = absurd ((a.1).1).1

module _ (P : World → Configuration → Type 0) (s : Source) (o : World) (g : Marks) (m : Instances) (j : ℕ) (fine : StoreFine s (see g o) m) where
  pub performed : (l : Limits) (line : ℕ) (n : Standard) (left xs : List Kinds) (vals : List Val) (f : World → Instances → Option Plain → List Val → Run Configuration) → DoneAlone n → OperandsAre (operands_of (row_of n).function) xs → HandsFine s (see g o) m j (pushed xs left) vals
      → ((t w : ℕ) (store : Store) (first : Option Val) (moved : Option TextVal) (v : Option Plain) (rest : List Val) → AllBack P s o g m j store first moved → ValueIs (standard_kind (row_of n).result) v → HandsFine s (see g o) m j left rest → Goes P (putting_back put_back first moved (record (ran o t w) { store = store }) m (λ p m. f p m v rest)))
      → Goes P (performing operand put_back l line n vals o m f)
  unfolding performing standard_effect
  performed l line n left xs vals f runs are h goes =
      took_all P s o g m j fine left (λ e first rest. taking l line e.wanted o (λ p. computing line e.answer (record p { store = e.store }) (λ value. putting_back put_back first e.moved (record p { store = e.store }) m (λ p m. f p m value rest)))) (standard_kind (row_of n).result)
      (λ e first rest is back more.
      took P l line e.wanted o (λ p. computing line e.answer (record p { store = e.store }) (λ value. putting_back put_back first e.moved (record p { store = e.store }) m (λ p m. f p m value rest))) (λ t w.
      computed P line e.answer (record (ran o t w) { store = e.store }) (λ value. putting_back put_back first e.moved (record (ran o t w) { store = e.store }) m (λ p m. f p m value rest)) (λ v d. goes t w e.store first e.moved v rest back (is v d) more)))
      (row_of n).function xs vals (row_is n runs.0 runs.1 runs.2) are h
