-- What is seen by a level from an instance outward is the instance of the text that is meant.
use Rattle.std.proofs.Common.{◌≡◌, ◌≢◌, ◌⊎◌, inl, inr, ℕ, zero, suc, ◌<◌, ◌≤◌, List, Option, Some, None, Bool, true, false, refl, sym, ap, ◌∙◌, subst, arith}
use Rattle.std.specs.Prelude.{◌==◌, if◌then◌else◌, slice_get}
use Rattle.sim_scope.specs.Access.{encloser}
use Rattle.sim_scope.specs.Source.{Source, level_of}
use Rattle.sim_scope.specs.Tables.{Tables}
use Rattle.sim_code.specs.Instances.{Instance, found_at, outward, encloser_in, encloser_of}
use Rattle.sim_meaning.specs.Pending.{Held, Instances}
use Rattle.sim_meaning.specs.Attributes.{is_connection}
use Rattle.sim_meaning.specs.Levels.{has_levels, is_class, text_at}
use Rattle.sim_meaning.specs.Texts.{BlockText, ClassText, ConnectionText, PrefixedText, ProcedureText, StandardText, Text, text}
use Rattle.codegen_expr.specs.Sites.{Inside, LevelOf, behind, frame_text, further, innermost, is_connected, itself, outer, prefix_of}
use Rattle.codegen.specs.Agrees.{Agrees, PrefixThere}
use Rattle.sim_relate.proofs.Frames.{bool_cases, frame_level, frame_out, frame_self, stands_same}
use Rattle.sim_relate.proofs.Known.{Reaches, Rooted, Stands, enclosed, inside, outermost, seen_at, seen_within}

pub equal_numbers : (a b : ℕ) → a ≡ b → (a == b) ≡ true
equal_numbers a b e = grind (arith, e)

pub other_numbers : (a b : ℕ) → a ≢ b → (a == b) ≡ false
other_numbers a b e = grind (arith, e)

pub if_true : {A : Type 0} (b : Bool) (x y : A) → b ≡ true → (if b then x else y) ≡ x
if_true true x y e = refl
if_true false x y e = absurd (cc)

pub if_false : {A : Type 0} (b : Bool) (x y : A) → b ≡ false → (if b then x else y) ≡ y
if_false true x y e = absurd (cc)
if_false false x y e = refl

pub same_some : {A : Type 0} (o : Option A) (a b : A) → o ≡ Some a → o ≡ Some b → a ≡ b
same_some o a b e f = cc

-- ---- levels of texts

pub level_trans : (tables : Tables) (a b c : ℕ) → LevelOf tables a b → LevelOf tables b c → LevelOf tables a c
level_trans tables a b c innermost q = q
level_trans tables a b c (outer {u = u} e p) q = outer e (level_trans tables u b c p q)

level_from : (tables : Tables) (own a b u : ℕ) → prefix_of tables own ≡ Some u → LevelOf tables u a → (LevelOf tables u b → LevelOf tables a b ⊎ LevelOf tables b a) → LevelOf tables own b → LevelOf tables a b ⊎ LevelOf tables b a
level_from tables own a b u e p more innermost = inr (outer e p)
level_from tables own a b u e p more (outer {u = v} e' q) = more (subst (λ z. LevelOf tables z b) (same_some (prefix_of tables own) v u e' e) q)

-- of two levels of a text one has the other as a level
pub level_either : (tables : Tables) (own a b : ℕ) → LevelOf tables own a → LevelOf tables own b → LevelOf tables a b ⊎ LevelOf tables b a
level_either tables own a b innermost q = inl q
level_either tables own a b (outer {u = u} e p) q = level_from tables own a b u e p (λ q'. level_either tables u a b p q') q

class_no_connection : (o : Option Text) → is_class o ≡ true → is_connection o ≡ false
class_no_connection None e = absurd (cc)
class_no_connection (Some (BlockText begin ds ss)) e = absurd (cc)
class_no_connection (Some (ProcedureText result h a)) e = absurd (cc)
class_no_connection (Some (ClassText prefix h ds ss)) e = refl
class_no_connection (Some (PrefixedText class arguments ds ss)) e = absurd (cc)
class_no_connection (Some ConnectionText) e = absurd (cc)
class_no_connection (Some (StandardText which)) e = refl

pub levels_no_connection : (o : Option Text) → has_levels o ≡ true → is_connection o ≡ false
levels_no_connection None e = absurd (cc)
levels_no_connection (Some (BlockText begin ds ss)) e = absurd (cc)
levels_no_connection (Some (ProcedureText result h a)) e = absurd (cc)
levels_no_connection (Some (ClassText prefix h ds ss)) e = refl
levels_no_connection (Some (PrefixedText class arguments ds ss)) e = refl
levels_no_connection (Some ConnectionText) e = absurd (cc)
levels_no_connection (Some (StandardText which)) e = refl

module _ (s : Source) (agrees : Agrees s) where
  -- a text that is no class is a level of itself alone
  pub alone : (own k : ℕ) → is_class (text s k) ≡ false → LevelOf s.tables own k → own ≡ k
  alone own k no_class innermost = refl
  alone own k no_class (outer {u = u} e p) =
      let same = alone u k no_class p in
      let class : is_class (text s k) ≡ true = ap (λ z. is_class (text s z)) (sym same) ∙ (agrees.prefixes own u e).class in
      absurd (cc (class, no_class))

  -- a class has frames of its own
  pub class_frame : (k : ℕ) → is_class (text s k) ≡ true → frame_text s k ≡ k
  class_frame k e = frame_self s agrees k (agrees.connected k ∙ class_no_connection (text s k) e)

  -- and so has each text with a prefix
  pub prefixed_frame : (k u : ℕ) → prefix_of s.tables k ≡ Some u → frame_text s k ≡ k
  prefixed_frame k u e = frame_self s agrees k (agrees.connected k ∙ levels_no_connection (text s k) (agrees.prefixes k u e).has)

  -- each level of a text is that text or a class
  pub level_cases : {A : Type 0} (own k : ℕ) → LevelOf s.tables own k → (own ≡ k → A) → (is_class (text s k) ≡ true → A) → A
  level_cases own k p f g = bool_cases (is_class (text s k)) g (λ e. f (alone own k e p))

  pub level_frame : (own k : ℕ) → LevelOf s.tables own k → frame_text s own ≡ own → frame_text s k ≡ k
  level_frame own k p e = level_cases own k p (λ same. subst (λ z. frame_text s z ≡ z) same e) (class_frame k)

-- ---- instances that stand for texts

module _ (s : Source) (m : Instances) where
  -- an instance that stands for a text
  pub record IsThere (j t : ℕ) : Type 0 where
    pub now : Instance (List Held)
    pub is : slice_get m.instances j ≡ Some now
    pub levels : LevelOf s.tables now.text (frame_text s t)
    pub level : now.level ≡ level_of s t

  pub is_there : {j t : ℕ} → Stands s m j t → IsThere j t
  is_there (outermost {x = x} is levels level rooted around) = record { now = x; is = is; levels = levels; level = level }
  is_there (inside {x = x} is levels level out around before stands) = record { now = x; is = is; levels = levels; level = level }

  -- it is there, with its enclosers
  pub stands_rooted : {j t : ℕ} → Stands s m j t → Rooted m (Some j)
  stands_rooted (outermost is levels level rooted around) = enclosed is rooted
  stands_rooted (inside is levels level out around before stands) = enclosed is (subst (Rooted m) (sym out) (stands_rooted stands))

  -- its encloser, where there is a text around
  pub record IsInside (j t u : ℕ) : Type 0 where
    pub now : Instance (List Held)
    pub is : slice_get m.instances j ≡ Some now
    pub level : now.level ≡ level_of s t
    pub out : ℕ
    pub encloser : now.encloser ≡ Some out
    pub before : out < j
    pub stands : Stands s m out u

  pub is_inside : {j t : ℕ} → Stands s m j t → frame_text s t ≡ t → (u : ℕ) → encloser s.tables t ≡ Some u → IsInside j t u
  is_inside {t = t} (outermost {x = x} is levels level rooted around) own u e = let no : encloser s.tables t ≡ None = sym (ap (encloser s.tables) own) ∙ around in absurd (cc)
  is_inside {t = t} (inside {e = out} {u = v} {x = x} is text level alone around before stands) own u e =
      let there : encloser s.tables t ≡ Some v = sym (ap (encloser s.tables) own) ∙ around in
      record { now = x; is = is; level = level; out = out; encloser = alone; before = before; stands = subst (λ z. Stands s m out z) (same_some (encloser s.tables t) v u there e) stands }

  module _ (agrees : Agrees s) where
    -- An instance stands for what is in front of a text for which it stands: its encloser stands for what is around that.
    in_front_stands : (j t v : ℕ) → ((e u w : ℕ) → e < j → Stands s m e u → LevelOf s.tables (frame_text s u) (frame_text s w) → Stands s m e w) → Stands s m j t → prefix_of s.tables (frame_text s t) ≡ Some v → Stands s m j v
    in_front_stands j t v ih st e = by_case st
      where
        front : PrefixThere s (frame_text s t) v
        front = agrees.prefixes (frame_text s t) v e

        own : frame_text s v ≡ v
        own = class_frame s agrees v front.class

        levels_are : (x : ℕ) → LevelOf s.tables x (frame_text s t) → LevelOf s.tables x (frame_text s v)
        levels_are x p = subst (LevelOf s.tables x) (sym own) (level_trans s.tables x (frame_text s t) v p (outer e innermost))

        level_is : (n : ℕ) → n ≡ level_of s t → n ≡ level_of s v
        level_is n l = l ∙ sym (frame_level s agrees t) ∙ sym front.level

        nothing : (o : Option ℕ) → encloser s.tables v ≡ o → encloser s.tables (frame_text s t) ≡ None → o ≡ None
        nothing None ev et = refl
        nothing (Some w) ev et = let a = front.around w ev in let there = a.is in absurd (cc (there, et))

        around_none : (o : Option ℕ) → encloser s.tables v ≡ o → o ≡ None → encloser s.tables (frame_text s v) ≡ None
        around_none o ev is = ap (encloser s.tables) own ∙ ev ∙ is

        further_out : (e u : ℕ) (x : Instance (List Held)) (o : Option ℕ) → encloser s.tables v ≡ o → slice_get m.instances j ≡ Some x → LevelOf s.tables x.text (frame_text s t) → x.level ≡ level_of s t → x.encloser ≡ Some e → encloser s.tables (frame_text s t) ≡ Some u → e < j → Stands s m e u → Stands s m j v
        further_out e u x None ev is levels level out around before stands =
            outermost is (levels_are x.text levels) (level_is x.level level) (subst (Rooted m) (sym out) (stands_rooted stands)) (ap (encloser s.tables) own ∙ ev)
        further_out e u x (Some w) ev is levels level out around before stands =
            let a = front.around w ev in
            let same : a.around ≡ u = same_some (encloser s.tables (frame_text s t)) a.around u a.is around in
            inside is (levels_are x.text levels) (level_is x.level level) out (ap (encloser s.tables) own ∙ ev) before (ih e u w before stands (subst (λ z. LevelOf s.tables (frame_text s z) (frame_text s w)) same a.level))

        by_case : Stands s m j t → Stands s m j v
        by_case (outermost {x = x} is levels level rooted around) =
            outermost is (levels_are x.text levels) (level_is x.level level) rooted (around_none (encloser s.tables v) refl (nothing (encloser s.tables v) refl around))
        by_case (inside {e = e} {u = u} {x = x} is levels level out around before stands) = further_out e u x (encloser s.tables v) refl is levels level out around before stands

    along : (j t u a b : ℕ) → ((e u w : ℕ) → e < j → Stands s m e u → LevelOf s.tables (frame_text s u) (frame_text s w) → Stands s m e w) → Stands s m j t → LevelOf s.tables a b → a ≡ frame_text s t → b ≡ frame_text s u → Stands s m j u
    along j t u a b ih st innermost ea eb =
        let frame : frame_text s u ≡ frame_text s t = sym eb ∙ ea in
        let level : level_of s u ≡ level_of s t = sym (frame_level s agrees u) ∙ ap (level_of s) frame ∙ frame_level s agrees t in
        stands_same s m j u t (record { frame = frame; level = level }) st
    along j t u a b ih st (outer {u = v} e p) ea eb =
        let e' : prefix_of s.tables (frame_text s t) ≡ Some v = ap (prefix_of s.tables) (sym ea) ∙ e in
        let own = class_frame s agrees v (agrees.prefixes (frame_text s t) v e').class in
        along j v u v b ih (in_front_stands j t v ih st e') p (sym own) eb

    stands_by : (n j t u : ℕ) → j < n → Stands s m j t → LevelOf s.tables (frame_text s t) (frame_text s u) → Stands s m j u
    stands_by zero j t u lt st p = absurd (omega (arith, lt))
    stands_by (suc n) j t u lt st p = along j t u (frame_text s t) (frame_text s u) (λ e v w before st' p'. stands_by n e v w (omega (arith, lt, before)) st' p') st p refl refl

    outward_levels : {t u : ℕ} → Inside s.tables t u → level_of s u ≤ level_of s t
    outward_levels itself = omega arith
    outward_levels (behind {t = t} {u = u} e i) = let b = outward_levels i in let a = (agrees.prefixes t u e).level in omega (arith, a, b)
    outward_levels (further {t = t} {u = u} e i) =
        let b = outward_levels i in
        bool_cases (is_connected s.tables t) (λ c. let a = agrees.same_level t u e c in omega (arith, a, b)) (λ c. let a = agrees.levels t u e c in omega (arith, a, b))

    here_found : (n level j : ℕ) (x : Instance (List Held)) → slice_get m.instances j ≡ Some x → x.level ≡ level → seen_within (suc n) m level j ≡ Some j
    here_found n level j x is e =
        ap (found_at level (seen_within n m level) j) is ∙ if_true (x.level == level) (Some j) (outward (seen_within n m level) x.encloser) (equal_numbers x.level level e)

    further_found : (n level j out : ℕ) (x : Instance (List Held)) → slice_get m.instances j ≡ Some x → x.level ≢ level → x.encloser ≡ Some out → seen_within (suc n) m level j ≡ seen_within n m level out
    further_found n level j out x is ne e =
        ap (found_at level (seen_within n m level) j) is ∙ if_false (x.level == level) (Some j) (outward (seen_within n m level) x.encloser) (other_numbers x.level level ne) ∙ ap (outward (seen_within n m level)) e

    -- with so many steps outward
    pub record Within (n i u : ℕ) : Type 0 where
      pub instance : ℕ
      pub found : seen_within n m (level_of s u) i ≡ Some instance
      pub stands : Stands s m instance u

    within : (n i : ℕ) {t u : ℕ} → i < n → Inside s.tables t u → Stands s m i t → Within n i u
    within zero i lt ins st = absurd (omega (arith, lt))
    within (suc n) i lt (itself {t = t}) st =
        let x = is_there st in
        record { instance = i; found = here_found n (level_of s t) i x.now x.is x.level; stands = st }
    within (suc n) i lt (behind {t = t} {u = v} e ins) st =
        let own = prefixed_frame s agrees t v e in
        let front = class_frame s agrees v (agrees.prefixes t v e).class in
        let levels : LevelOf s.tables (frame_text s t) (frame_text s v) = subst (λ z. LevelOf s.tables z (frame_text s v)) (sym own) (subst (LevelOf s.tables t) (sym front) (outer e innermost)) in
        within (suc n) i lt ins (stands_by (suc i) i t v (omega arith) st levels)
    within (suc n) i lt (further {t = t} {u = v} {k = k} e ins) st =
        bool_cases (is_connected s.tables t)
        (λ c. within (suc n) i lt ins (stands_same s m i v t (record { frame = sym (frame_out s agrees t v c e); level = sym (agrees.same_level t v e c) }) st))
        (λ c. let x = is_inside st (frame_self s agrees t c) v e in
        let deeper = agrees.levels t v e c in
        let above = outward_levels ins in
        let apart : x.now.level ≢ level_of s k = λ same. (let l = x.level in let f : ⊥ = omega (arith, same, l, deeper, above) in f) in
        let before = x.before in
        let shorter : x.out < n = omega (arith, lt, before) in
        let y = within n x.out shorter ins x.stands in
        record { instance = y.instance; found = further_found n (level_of s k) i x.out x.now x.is apart x.encloser ∙ y.found; stands = y.stands })

-- an instance that stands for a text stands for each level of it
pub stands_level : (s : Source) (m : Instances) → Agrees s → (j t u : ℕ) → Stands s m j t → LevelOf s.tables (frame_text s t) (frame_text s u) → Stands s m j u
stands_level s m agrees j t u st p = stands_by s m agrees (suc j) j t u (omega arith) st p

pub stands_as : (s : Source) (m : Instances) → Agrees s → (j own k : ℕ) → text_at m j ≡ Some own → Stands s m j own → LevelOf s.tables own k → frame_text s k ≡ k → frame_text s own ≡ own → Stands s m j k
stands_as s m agrees j own k at st p is is_own = stands_level s m agrees j own k st (subst (λ z. LevelOf s.tables z (frame_text s k)) (sym is_own) (subst (LevelOf s.tables own) (sym is) p))

pub reach : (s : Source) (m : Instances) (i t u : ℕ) → Agrees s → Stands s m i t → Inside s.tables t u → (j : ℕ) × Reaches s m i u j
unfolding seen_at
reach s m i t u a st ins =
    let x = within s m a (suc i) i (omega arith) ins st in
    (x.instance, record { found = x.found; stands = x.stands })

-- an instance is found at its own level
pub own_reaches : (s : Source) (m : Instances) (i t : ℕ) → Agrees s → Stands s m i t → Reaches s m i t i
unfolding seen_at
own_reaches s m i t a st =
    let x = is_there s m st in
    record { found = here_found s m a i (level_of s t) i x.now x.is x.level; stands = st }

-- the encloser of an instance is found at the level of the text around
pub record EncloserSeen (s : Source) (m : Instances) (i u : ℕ) : Type 0 where
  pub encloser : ℕ
  pub is : encloser_of m i ≡ Some encloser
  pub reaches : Reaches s m i u encloser

pub encloser_seen : (s : Source) (m : Instances) (i t u : ℕ) → Agrees s → Stands s m i t → frame_text s t ≡ t → is_connected s.tables t ≡ false → encloser s.tables t ≡ Some u → EncloserSeen s m i u
unfolding seen_at
encloser_seen s m i t u a st own solid e =
    let x = is_inside s m st own u e in
    let y = is_there s m x.stands in
    let deeper = a.levels t u e solid in
    let level = x.level in
    let apart : x.now.level ≢ level_of s u = λ same. (let f : ⊥ = omega (arith, same, level, deeper) in f) in
    let more = one_more i x.out x.before in
    let found : seen_within i m (level_of s u) x.out ≡ Some x.out = subst (λ n. seen_within n m (level_of s u) x.out ≡ Some x.out) (sym more.1) (here_found s m a more.0 (level_of s u) x.out y.now y.is y.level) in
    record { encloser = x.out; is = ap encloser_in x.is ∙ x.encloser; reaches = record { found = further_found s m a i (level_of s u) i x.out x.now x.is apart x.encloser ∙ found; stands = x.stands } }
  where
    one_more : (i j : ℕ) → j < i → (n : ℕ) × (i ≡ suc n)
    one_more zero j lt = absurd (omega (arith, lt))
    one_more (suc n) j lt = (n, refl)
