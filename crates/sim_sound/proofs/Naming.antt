-- Each configuration with a rule is one in which references name objects.
use Rattle.std.proofs.Common.{length, ◌≡◌, ℕ, true, false, List, [], ◌∷◌, Option, Some, None, ⊎_elim, inl, inr, sym, subst}
use Rattle.sim_scope.specs.Source.{Source}
use Rattle.sim_values.specs.Plain.{Character, Integer, MainOf, Nothing, Object, Text, Truth}
use Rattle.sim_values.specs.declared.value.TextVal.{TextVal}
use Rattle.sim_values.specs.Store.{image_at}
use Rattle.sim_code.specs.Arrays.{element}
use Rattle.sim_code.specs.Events.{text_of}
use Rattle.sim_code.specs.Instances.{CellPlace, ElementPlace, ImagePlace, Place}
use Rattle.sim_code.specs.Outcome.{World}
use Rattle.sim_meaning.specs.Pending.{Key, cell, Activation, Address, ArrayValue, Configuration, Instances, Link, Of, ProcedureValue, Actual, Val}
use Rattle.sim_meaning.specs.Steps.{of_plain, value_at}
use Rattle.sim_meaning.specs.Sane.{AllLead, Leads, AllName, IsObject, IsSimulation, Names, NamesOn}
use Rattle.sim_sound.specs.Held.{ByName, Holds, ArrayOf, Refers, Simply, Procedure}
use Rattle.sim_sound.specs.Typed.{Typed}
use Rattle.sim_sound.proofs.Cells.{lies_cell}
use Rattle.sim_sound.proofs.Fitting.{plain_val}
use Rattle.sim_sound.proofs.Later.{near_unseat}
use Rattle.sim_sound.proofs.Lists.{same_some}
use Rattle.sim_sound.proofs.Names.{element_there}
use Rattle.sim_sound.proofs.Running.{StoreFine, ChainFine, Fine, opens, runs}
use Rattle.sim_sound.proofs.Values.{ArrayFine, CellLies, ElementFine, Marks, Seat, Whichever, at_seat, see, ObjectIn, AddressOf, AllArrays, Component, Copied, HeldDeep, HandsFine, some_held, ImageAddress, Kinds, Lasting, LinkTo, ObjectOf, ReferenceAddress, Simulates, Takes, Value, Checked, ForFormal, NewObject}
use Rattle.sim_sound.proofs.ProcessClasses.{simulation_is}

module _ (s : Source) (ok : Typed s) (o : AllArrays) (m : Instances) where
  object_is : (j c : ℕ) → ObjectOf s m j c → IsObject s m j
  object_is j c p = record { instance = p.now; lives = p.lives; levels = p.object }

  simulation_is_named : (b k : ℕ) → Simulates s m b k → IsSimulation s m b
  simulation_is_named b k p = let x = p.lasts in record { instance = x.now; lives = x.lives; simulates = simulation_is s ok (x.now).text k x.solid x.level p.simulates }

  deep_names : (i d : ℕ) (k : Kinds) (j : ℕ) → HeldDeep s o m i d k (Of (Object j)) → IsObject s m j
  deep_names i d (Value (Simply k)) j a = let x = a.1 in object_is j x.0 x.1
  deep_names i d (Value (Refers c)) j a = object_is j c a
  deep_names i d (Value (ArrayOf h)) j a = absurd a
  deep_names i d (AddressOf h) j a = absurd a
  deep_names i d (ReferenceAddress c) j a = absurd a
  deep_names i d ImageAddress j a = absurd a
  deep_names i d (LinkTo u) j a = absurd a
  deep_names i d (Copied h) j a = absurd a
  deep_names i d (Lasting h) j a = absurd a
  deep_names i d Component j a = object_is j a.0 a.1
  deep_names i d (ObjectIn c) j a = object_is j c a
  deep_names i d (NewObject h) j a = object_is j h a.object
  deep_names i d (Checked es h) j a = absurd a
  deep_names i d (ForFormal h) j a = absurd a
  deep_names i d (Value (Procedure k)) j a = absurd a
  deep_names i d (Value (ByName k)) j a = absurd a
  deep_names i d (Whichever true k) j a = let x = a.1 in object_is j x.0 x.1
  deep_names i d (Whichever false k) j a = absurd a

  main_names : (i d : ℕ) (k : Kinds) (b : ℕ) → HeldDeep s o m i d k (Of (MainOf b)) → IsSimulation s m b
  main_names i d (Value (Simply k)) b a = let x = a.1 in simulation_is_named b x.0 x.1
  main_names i d (Value (Refers c)) b a = simulation_is_named b a.level a.block
  main_names i d (Value (ArrayOf h)) b a = absurd a
  main_names i d (AddressOf h) b a = absurd a
  main_names i d (ReferenceAddress c) b a = absurd a
  main_names i d ImageAddress b a = absurd a
  main_names i d (LinkTo u) b a = absurd a
  main_names i d (Copied h) b a = absurd a
  main_names i d (Lasting h) b a = absurd a
  main_names i d Component b a = simulation_is_named b a.0 a.1
  main_names i d (ObjectIn c) b a = simulation_is_named b a.level a.block
  main_names i d (NewObject h) b a = absurd a
  main_names i d (Checked es h) b a = absurd a
  main_names i d (ForFormal h) b a = absurd a
  main_names i d (Value (Procedure k)) b a = absurd a
  main_names i d (Value (ByName k)) b a = absurd a
  main_names i d (Whichever true k) b a = let x = a.1 in simulation_is_named b x.0 x.1
  main_names i d (Whichever false k) b a = absurd a

  value_names : (i d : ℕ) (k : Kinds) (v : Val) → HeldDeep s o m i d k v → Names s m v
  value_names i d k (Of (Object j)) a = deep_names i d k j a
  value_names i d k (Of (MainOf b)) a = main_names i d k b a
  value_names i d k (Of Nothing) a = tt
  value_names i d k (Of (Integer z)) a = tt
  value_names i d k (Of (Character z)) a = tt
  value_names i d k (Of (Truth z)) a = tt
  value_names i d k (Of (Text z)) a = tt
  value_names i d k (Link j) a = tt
  value_names i d k (Address p) a = tt
  value_names i d k (ArrayValue n) a = tt
  value_names i d k (ProcedureValue p q) a = tt
  value_names i d k (Actual home pr x) a = tt

  hands_name : (i : ℕ) (ks : List Kinds) (vals : List Val) → HandsFine s o m i ks vals → AllName s m vals
  hands_name i ks [] a = tt
  hands_name i [] (v ∷ vals) a = absurd a
  hands_name i (k ∷ ks) (v ∷ vals) a = let y = some_held s o m i vals k v a.0 in (value_names i (length vals) y.0 v y.1, hands_name i ks vals a.1)

-- what lies where a value in hand leads
module _ (s : Source) (ok : Typed s) (o : World) (g : Marks) (m : Instances) (store : StoreFine s (see g o) m) (q : Seat) where
  -- where the activation stands that has it in hand
  abbrev There : AllArrays
  There = at_seat (see g o) q

  array_unseat : (j : ℕ) (h : Holds) (a : ℕ) → ArrayFine There m j h a → ArrayFine (see g o) m j h a
  array_unseat j h a f = record { it = f.it; lives = f.lives; known = f.known; owned = ⊎_elim (λ k. inl k) (λ w. inr (near_unseat (see g o) q m j (f.it).owner w)) f.owned; count = f.count }

  element_leads : (j : ℕ) (h : Holds) (a n : ℕ) → ElementFine There m j h a n → (x : Val) → of_plain (element o a n) ≡ Some x → Names s m x
  unfolding array_unseat
  element_leads j h a n f x is =
      let y = element_there s g o m j a n h store (record { array = array_unseat j h a f.array; there = f.there }) in
      let same : Of y.0 ≡ x = let e = y.1 in cc in
      subst (Names s m) same (value_names s ok There m j 0 (Value h) (Of y.0) (plain_val s There m j h y.0 y.2))

  cell_leads : (j e : ℕ) (key : Key) (h : Holds) → CellLies s There m j e key h → (x : Val) → cell m e key ≡ Some x → Names s m x
  cell_leads j e key h c x is =
      let y = lies_cell s (see g o) m j e key h store (record { around = c.around; todo = c.todo; near = near_unseat (see g o) q m j e c.near; here = c.here; ready = c.ready; holds = c.holds; there = c.there }) in
      let same : y.0 ≡ x = same_some (cell m e key) y.0 x y.1 is in
      subst (Names s m) same (value_names s ok (see g o) m e 0 (Value h) y.0 y.2)

  text_leads : (t : Option TextVal) (x : Val) → of_plain (text_of t) ≡ Some x → Names s m x
  text_leads None x is = absurd (cc)
  text_leads (Some t) x is = let same : Of (Text t) ≡ x = cc in subst (Names s m) same tt

  place_leads : (j d : ℕ) (k : Kinds) (p : Place Key (Option ℕ)) → HeldDeep s There m j d k (Address p) → (x : Val) → value_at o m p ≡ Some x → Names s m x
  place_leads j d (AddressOf h) (ElementPlace a n None) f x is = element_leads j h a n f x is
  place_leads j d (AddressOf h) (CellPlace e key None) f x is = cell_leads j e key h f x is
  place_leads j d (ReferenceAddress c) (ElementPlace a n (Some k)) f x is = element_leads j (Refers c) a n f.1 x is
  place_leads j d (ReferenceAddress c) (CellPlace e key (Some k)) f x is = cell_leads j e key (Refers c) f.1 x is
  place_leads j d (Whichever value_too k) (ElementPlace a n None) f x is = element_leads j (Simply k) a n f.1 x is
  place_leads j d (Whichever value_too k) (CellPlace e key None) f x is = cell_leads j e key (Simply k) f.1 x is
  place_leads j d (Whichever value_too k) (ElementPlace a n (Some c)) f x is = element_leads j (Refers c) a n f.1 x is
  place_leads j d (Whichever value_too k) (CellPlace e key (Some c)) f x is = cell_leads j e key (Refers c) f.1 x is
  place_leads j d (Whichever value_too k) (ImagePlace n) f x is = absurd f
  place_leads j d ImageAddress (ImagePlace n) f x is = text_leads (image_at o.store n) x is
  place_leads j d ImageAddress (ElementPlace a n c) f x is = absurd f
  place_leads j d ImageAddress (CellPlace a n c) f x is = absurd f
  place_leads j d (AddressOf h) (ElementPlace a n (Some c)) f x is = absurd f
  place_leads j d (AddressOf h) (CellPlace e key (Some c)) f x is = absurd f
  place_leads j d (AddressOf h) (ImagePlace n) f x is = absurd f
  place_leads j d (ReferenceAddress c) (ElementPlace a n None) f x is = absurd f
  place_leads j d (ReferenceAddress c) (CellPlace e key None) f x is = absurd f
  place_leads j d (ReferenceAddress c) (ImagePlace n) f x is = absurd f
  place_leads j d (Value (Simply k)) p f x is = absurd f
  place_leads j d (Value (Refers c)) p f x is = absurd f
  place_leads j d (Value (ArrayOf h)) p f x is = absurd f
  place_leads j d (Value (Procedure k)) p f x is = absurd f
  place_leads j d (Value (ByName k)) p f x is = absurd f
  place_leads j d (LinkTo u) p f x is = absurd f
  place_leads j d (Copied h) p f x is = absurd f
  place_leads j d (Lasting h) p f x is = absurd f
  place_leads j d Component p f x is = absurd f
  place_leads j d (ObjectIn c) p f x is = absurd f
  place_leads j d (NewObject h) p f x is = absurd f
  place_leads j d (Checked es h) p f x is = absurd f
  place_leads j d (ForFormal h) p f x is = absurd f

  itself_leads : (j d : ℕ) (k : Kinds) (v : Val) → HeldDeep s There m j d k v → (x : Val) → Some v ≡ Some x → Names s m x
  itself_leads j d k v f x is = let same : v ≡ x = cc in subst (Names s m) same (value_names s ok There m j d k v f)

  value_leads : (j d : ℕ) (k : Kinds) (v : Val) → HeldDeep s There m j d k v → Leads s o m v
  value_leads j d k (Address p) f x is = place_leads j d k p f x is
  value_leads j d k (Of p) f x is = itself_leads j d k (Of p) f x is
  value_leads j d k (Link n) f x is = itself_leads j d k (Link n) f x is
  value_leads j d k (ArrayValue n) f x is = itself_leads j d k (ArrayValue n) f x is
  value_leads j d k (ProcedureValue t n) f x is = itself_leads j d k (ProcedureValue t n) f x is
  value_leads j d k (Actual home pr e) f x is = itself_leads j d k (Actual home pr e) f x is

  hands_lead : (j : ℕ) (ks : List Kinds) (vals : List Val) → HandsFine s There m j ks vals → AllLead s o m vals
  hands_lead j ks [] a = tt
  hands_lead j [] (v ∷ vals) a = absurd a
  hands_lead j (k ∷ ks) (v ∷ vals) a = let y = some_held s There m j vals k v a.0 in (value_leads j (length vals) y.0 v y.1, hands_lead j ks vals a.1)

  all_name : (j : ℕ) (ks : List Kinds) (vals : List Val) → HandsFine s There m j ks vals → AllName s m vals × AllLead s o m vals
  all_name j ks vals a = (hands_name s ok There m j ks vals a, hands_lead j ks vals a)

chain_names : (s : Source) → Typed s → (o : World) (g : Marks) (m : Instances) → StoreFine s (see g o) m → (chain : List Activation) → ChainFine s (see g o) m chain (Takes None) → NamesOn s o m chain
chain_names s ok o g m store [] c = tt
chain_names s ok o g m store (a ∷ rest) c = all_name s ok o g m store c.seat a.instance c.kinds a.values (subst (λ z. HandsFine s (at_seat (see g o) c.seat) m a.instance c.kinds z) (sym c.shown) c.hands)

pub fine_names : (s : Source) → Typed s → (o : World) (g : Marks) (c : Configuration) → Fine s (see g o) c → NamesOn s o c.memory c.chain
fine_names s ok o g c (opens none empty nobody unseen unnoted unmade unscheduled) = subst (NamesOn s o c.memory) (sym none) tt
fine_names s ok o g c (runs store placed headed f) = chain_names s ok o g c.memory store c.chain f
