-- What fits where something is wanted. A class is one of its own levels.
use Rattle.std.proofs.Common.{◌≡◌, ℕ, zero, suc, Bool, true, false, List, [], ◌∷◌, length, Option, Some, None, refl, sym, ap, ◌∙◌, subst, arith}
use Rattle.std.specs.Prelude.{◌+◌, ◌||◌, not, nat_eq, if◌then◌else◌, slice_get}
use Rattle.sim_scope.specs.Levels.{has_level, some_level_of}
use Rattle.sim_scope.specs.Source.{Source}
use Rattle.sim_scope.specs.Tables.{BlockOf}
use Rattle.sim_values.specs.declared.kind.Kind.{Kind}
use Rattle.sim_values.specs.declared.kind.Kind.TheVariants as kind
use Rattle.sim_values.specs.Plain.{Character, Integer, MainOf, Nothing, Object, Plain, Text, Truth, kind_of}
use Rattle.sim_code.specs.Instances.{Instance, live, unless_given}
use Rattle.sim_meaning.specs.Attributes.{is_connection}
use Rattle.sim_meaning.specs.Levels.{has_levels, is_in, process_at, process_in, stands_in, text_at, text_in, text_is_in}
use Rattle.sim_meaning.specs.Pending.{Held, Instances, Of, ProcedureValue, Val}
use Rattle.sim_meaning.specs.Texts.{has_class_in, is_class_free, text}
use Rattle.sim_sound.specs.Held.{ArrayOf, ByName, Fits, Holds, Procedure, Refers, Simply, result_type}
use Rattle.sim_sound.specs.Typed.{Typed}
use Rattle.sim_sound.proofs.Prefixes.{LevelOf, level_has, level_has_levels, level_is, level_then}
use Rattle.sim_sound.proofs.ProcessClasses.{process_class_is}
use Rattle.sim_sound.proofs.Results.{results_then}
use Rattle.sim_sound.proofs.Running.{StoreFine}
use Rattle.sim_sound.proofs.Values.{AllArrays, IsPlain, Knows, MainIn, NamesObject, ObjectOf, PlainFine, ReferenceFine, Simulates, ValFine, Whole, own_text, staying}

-- ---- levels

either_of : (p q : Bool) → p ≡ true → (p || q) ≡ true
either_of true q e = refl
either_of false q e = absurd (cc)

number_is : (a : ℕ) → nat_eq a a ≡ true
number_is a = grind arith

module _ (s : Source) where
  self_in : (n c u : ℕ) → some_level_of s.tables n (λ b. nat_eq b u) c ≡ true → some_level_of s.tables n (λ b. nat_eq b c) c ≡ true
  unfolding some_level_of
  self_in zero c u e = absurd (cc)
  self_in (suc n) c u e = either_of (nat_eq c c) _ (number_is c)

  -- what has a level has itself
  pub level_self : (c u : ℕ) → has_level s.tables c u ≡ true → has_level s.tables c c ≡ true
  unfolding has_level
  level_self c u e = self_in (length s.tables.blocks) c u e

  level_of_many : (bs : List BlockOf) (k : ℕ) (b : BlockOf) → slice_get bs k ≡ Some b → (n : ℕ) × (length bs ≡ suc n)
  level_of_many [] k b e = absurd (cc)
  level_of_many (x ∷ bs) k b e = (length bs, refl)

  itself_in : (n m k : ℕ) → n ≡ suc m → some_level_of s.tables n (λ b. nat_eq b k) k ≡ true
  unfolding some_level_of
  itself_in n m k e = subst (λ z. some_level_of s.tables z (λ b. nat_eq b k) k ≡ true) (sym e) (either_of (nat_eq k k) _ (number_is k))

  with_block : (k : ℕ) (x : Option BlockOf) → slice_get s.tables.blocks k ≡ x → not (has_class_in x s.tables.blocks) ≡ false → has_level s.tables k k ≡ true
  unfolding has_level
  with_block k None e f = absurd (cc)
  with_block k (Some b) e f = let x = level_of_many s.tables.blocks k b e in itself_in (length s.tables.blocks) x.0 k x.1

  -- a class is one of its own levels
  pub level_itself : (k : ℕ) → is_class_free s k ≡ false → has_level s.tables k k ≡ true
  unfolding is_class_free
  level_itself k e = with_block k (slice_get s.tables.blocks k) refl e

-- ---- objects

there_if : (z x : Instance (List Held)) (b : Bool) → (if b then None else Some z) ≡ Some x → z ≡ x
there_if z x true e = absurd (cc)
there_if z x false e = cc

slice_there : (y : Option (Instance (List Held))) (x : Instance (List Held)) → unless_given y ≡ Some x → y ≡ Some x
slice_there None x e = absurd (cc)
slice_there (Some z) x e = ap Some (there_if z x z.given_back e)

module _ (s : Source) (m : Instances) where
  pub text_there : (j : ℕ) (x : Instance (List Held)) → live m j ≡ Some x → text_at m j ≡ Some x.text
  text_there j x e = ap text_in (slice_there (slice_get m.instances j) x e)

  -- an object is in its class
  pub in_class : (j c u : ℕ) → (p : ObjectOf s m j c) → has_level s.tables (p.now).text u ≡ true → is_in s m u j ≡ true
  unfolding is_in
  in_class j c u p e = ap (text_is_in s u) (text_there j p.now p.lives) ∙ e

  -- an object that is in a class is one of the class
  pub of_class : (j c u : ℕ) → ObjectOf s m j c → is_in s m u j ≡ true → ObjectOf s m j u
  unfolding is_in
  of_class j c u p e = record {
    now = p.now;
    lives = p.lives;
    object = p.object;
    levels = sym (ap (text_is_in s u) (text_there j p.now p.lives)) ∙ e;
    stays = p.stays;
    words = p.words;
    has_text = p.has_text;
    made = p.made;
  }

  -- the class `process` of a simulation block
  pub process_is : Typed s → (b k : ℕ) → Simulates s m b k → process_at s m b ≡ Some (k + 4)
  process_is ok b k p =
      let x = p.lasts in
      ap (process_in s) (text_there b x.now x.lives) ∙ process_class_is s ok (x.now).text k x.solid x.level p.simulates

  -- a main program that is in a class is one of the class
  pub main_of_class : Typed s → (b k u : ℕ) → Simulates s m b k → stands_in s m u (MainOf b) ≡ true → MainIn s m b u
  unfolding stands_in
  main_of_class ok b k u p e = record { level = k; block = p; levels = sym (ap (text_is_in s u) (process_is ok b k p)) ∙ e }

  -- an object is known to all instances
  pub knows_object : (i j c : ℕ) → ObjectOf s m j c → Knows m i j
  knows_object i j c p = staying (record { now = p.now; lives = p.lives; stays = p.stays })

module _ (s : Source) (ok : Typed s) (o : AllArrays) (m : Instances) (store : StoreFine s o m) where
  -- an object of a class has the levels of the class
  object_level : (j c u : ℕ) → (p : ObjectOf s m j c) → has_level s.tables c u ≡ true → LevelOf s (p.now).text u
  object_level j c u p e = level_then s (level_is s (p.now).text c p.levels) (level_is s c u e)

  pub object_up : (j c u : ℕ) → ObjectOf s m j c → has_level s.tables c u ≡ true → ObjectOf s m j u
  object_up j c u p e = record {
    now = p.now;
    lives = p.lives;
    object = p.object;
    levels = level_has s ok (p.now).text u (store.instances j p.now p.lives).solid (object_level j c u p e);
    stays = p.stays;
    words = p.words;
    has_text = p.has_text;
    made = p.made;
  }

  pub main_up : (b c u : ℕ) → MainIn s m b c → has_level s.tables c u ≡ true → MainIn s m b u
  main_up b c u p e = record {
    level = p.level;
    block = p.block;
    levels = level_has s ok (p.level + 4) u (ap is_connection (ok.simulations p.level (p.block).simulates).process_is) (level_then s (level_is s (p.level + 4) c p.levels) (level_is s c u e));
  }

  -- these have levels
  pub object_levels : (j c u : ℕ) → ObjectOf s m j c → has_level s.tables c u ≡ true → has_levels (text s u) ≡ true
  object_levels j c u p e = level_has_levels s ok p.object (object_level j c u p e)

  -- it stands for each of them
  pub object_whole : (j c u : ℕ) → ObjectOf s m j c → has_level s.tables c u ≡ true → Whole s m j u
  object_whole j c u p e = record { now = p.now; lives = p.lives; stands = own_text (object_level j c u p e); words = p.words; has_text = p.has_text; made = p.made }

  -- an object of a class is in each level of the class
  pub object_in : (j c u : ℕ) → ObjectOf s m j c → has_level s.tables c u ≡ true → is_in s m u j ≡ true
  object_in j c u p e = let q = object_up j c u p e in in_class s m j u u q q.levels

  -- ---- what is held where something else is wanted

  pub reference_up : (c u : ℕ) (p : Plain) → has_level s.tables c u ≡ true → ReferenceFine s m c p → ReferenceFine s m u p
  reference_up c u Nothing e a = tt
  reference_up c u (Object j) e a = object_up j c u a e
  reference_up c u (MainOf b) e a = main_up b c u a e
  reference_up c u (Integer z) e a = absurd a
  reference_up c u (Truth z) e a = absurd a
  reference_up c u (Character z) e a = absurd a
  reference_up c u (Text z) e a = absurd a

  pub reference_known : (c : ℕ) (p : Plain) → ReferenceFine s m c p → PlainFine s m (Simply kind.Reference) p
  reference_known c Nothing a = (refl, tt)
  reference_known c (Object j) a = (refl, (c, a))
  reference_known c (MainOf b) a = (refl, (a.level, a.block))
  reference_known c (Integer z) a = absurd a
  reference_known c (Truth z) a = absurd a
  reference_known c (Character z) a = absurd a
  reference_known c (Text z) a = absurd a

  pub plain_fits : (h h' : Holds) (p : Plain) → Fits s h h' → PlainFine s m h p → PlainFine s m h' p
  plain_fits (Simply k) (Simply k') p e a = (a.0 ∙ e, a.1)
  plain_fits (Refers c) (Refers u) p e a = reference_up c u p e a
  plain_fits (Refers c) (Simply k) p e a = subst (λ z. PlainFine s m (Simply z) p) e (reference_known c p a)
  plain_fits (ArrayOf h) (ArrayOf h') p e a = absurd a
  plain_fits (Simply k) (Refers u) p e a = absurd e
  plain_fits (Simply k) (ArrayOf h') p e a = absurd e
  plain_fits (Refers c) (ArrayOf h') p e a = absurd e
  plain_fits (ArrayOf h) (Simply k) p e a = absurd e
  plain_fits (ArrayOf h) (Refers u) p e a = absurd e
  plain_fits (Simply k) (ByName h') p e a = absurd e
  plain_fits (Refers c) (ByName h') p e a = absurd e
  plain_fits (ArrayOf h) (ByName h') p e a = absurd e
  plain_fits (Simply k) (Procedure r) p e a = absurd e
  plain_fits (Refers c) (Procedure r) p e a = absurd e
  plain_fits (ArrayOf h) (Procedure r) p e a = absurd e
  plain_fits (Procedure r) h' p e a = absurd a
  plain_fits (ByName k) h' p e a = absurd a

  pub val_fits : (i : ℕ) (h h' : Holds) (v : Val) → Fits s h h' → ValFine s o m i h v → ValFine s o m i h' v
  val_fits i (Simply k) (Simply k') (Of p) e a = (a.0 ∙ e, a.1)
  val_fits i (Refers c) (Refers u) (Of p) e a = reference_up c u p e a
  val_fits i (Refers c) (Simply k) (Of p) e a = subst (λ z. PlainFine s m (Simply z) p) e (reference_known c p a)
  val_fits i (ArrayOf h) (ArrayOf h') v e a = subst (λ z. ValFine s o m i (ArrayOf z) v) e a
  val_fits i (Simply k) (Refers u) v e a = absurd e
  val_fits i (Simply k) (ArrayOf h') v e a = absurd e
  val_fits i (Refers c) (ArrayOf h') v e a = absurd e
  val_fits i (ArrayOf h) (Simply k) v e a = absurd e
  val_fits i (ArrayOf h) (Refers u) v e a = absurd e
  val_fits i (Simply k) (ByName h') v e a = absurd e
  val_fits i (Refers c) (ByName h') v e a = absurd e
  val_fits i (ArrayOf h) (ByName h') v e a = absurd e
  val_fits i (Simply k) (Procedure r) v e a = absurd e
  val_fits i (Refers c) (Procedure r) v e a = absurd e
  val_fits i (ArrayOf h) (Procedure r) v e a = absurd e
  val_fits i (Procedure r) (Procedure r') (ProcedureValue k j) e a = record { around = a.around; near = a.near; whole = a.whole; procedure = a.procedure; gives = results_then s ok (result_type s k) r r' a.gives e }
  val_fits i (Procedure r) (Procedure r') _ e a = absurd a
  val_fits i (Procedure r) (Simply k) v e a = absurd e
  val_fits i (Procedure r) (Refers u) v e a = absurd e
  val_fits i (Procedure r) (ArrayOf h') v e a = absurd e
  val_fits i (Procedure r) (ByName h') v e a = absurd e
  val_fits i (ByName k) h' v e a = absurd e
  val_fits i (Simply k) (Simply k') _ e a = absurd a
  val_fits i (Refers c) (Refers u) _ e a = absurd a
  val_fits i (Refers c) (Simply k) _ e a = absurd a

-- ---- values that are no objects by their kind

pub known_by_kind : (s : Source) (m : Instances) (k : Kind) (p : Plain) → kind_of p ≡ k → (k ≡ kind.Reference → ⊥) → NamesObject s m p
known_by_kind s m k (Object j) e other = absurd (other (sym e))
known_by_kind s m k (MainOf b) e other = absurd (other (sym e))
known_by_kind s m k Nothing e other = tt
known_by_kind s m k (Integer z) e other = tt
known_by_kind s m k (Truth z) e other = tt
known_by_kind s m k (Character z) e other = tt
known_by_kind s m k (Text z) e other = tt

pub plain_by_kind : (s : Source) (m : Instances) (k : Kind) (p : Plain) → kind_of p ≡ k → (k ≡ kind.Reference → ⊥) → PlainFine s m (Simply k) p
plain_by_kind s m k p e other = (e, known_by_kind s m k p e other)

-- ---- plain values

-- a plain value in hand
pub plain_val : (s : Source) (o : AllArrays) (m : Instances) (i : ℕ) (h : Holds) (p : Plain) → PlainFine s m h p → ValFine s o m i h (Of p)
plain_val s o m i (Simply k) p a = a
plain_val s o m i (Refers c) p a = a
plain_val s o m i (ArrayOf h) p a = absurd a
plain_val s o m i (Procedure r) p a = absurd a
plain_val s o m i (ByName k) p a = absurd a

-- what fits in a variable may be held by one
pub fits_plain : (s : Source) (h h' : Holds) → Fits s h h' → IsPlain h → IsPlain h'
fits_plain s (Simply k) (Simply k') e a = tt
fits_plain s (Refers c) (Refers u) e a = tt
fits_plain s (Refers c) (Simply k) e a = tt
fits_plain s (ArrayOf h) h' e a = absurd a
fits_plain s (Procedure r) h' e a = absurd a
fits_plain s (Simply k) (Procedure r) e a = absurd e
fits_plain s (Refers c) (Procedure r) e a = absurd e
fits_plain s (ByName k) h' e a = absurd a
fits_plain s (Simply k) (ByName h) e a = absurd e
fits_plain s (Refers c) (ByName h) e a = absurd e
fits_plain s (Simply k) (Refers c) e a = absurd e
fits_plain s (Simply k) (ArrayOf h) e a = absurd e
fits_plain s (Refers c) (ArrayOf h) e a = absurd e
