-- The linkages of a run: each object of a class of SIMSET has one, of its kind, and each main program of a simulation block; and what stands in a
-- set, with the head of the set, is of the classes that were brought together.
use Rattle.std.proofs.Common.{◌≡◌, ◌<◌, ◌≤◌, ℕ, zero, suc, Bool, true, false, List, [], ◌∷◌, ◌++◌, length, Option, Some, None, ◌⊎◌, inl, inr, ⊎_elim, refl, sym, ap, ◌∙◌, subst, arith}
use Rattle.std.specs.List.{list_any}
use Rattle.std.specs.Prelude.{◌+◌, ◌||◌, not, slice_get}
use Rattle.simset.specs.Instances.{Memberships, instance_of, linkage_of, with_linkage}
use Rattle.simset.specs.Sets.{Head, Link, Linkage, clear, each_from, emptied, follow, following, going_into, into, is_head, is_head_at, is_link, is_link_at, out, precede, preceding, pred_of, prev_of, suc_of, without}
use Rattle.sim_scope.specs.declared.types.StandardClass.TheVariants as standard
use Rattle.sim_scope.specs.Levels.{base, has_level, is_simulation_block}
use Rattle.sim_scope.specs.Source.{Source}
use Rattle.sim_code.specs.Instances.{Instance, live}
use Rattle.sim_values.specs.Plain.{MainOf, Object}
use Rattle.sim_code.specs.Outcome.{Simulation}
use Rattle.sim_code.specs.Sets.{linkage_by, named_or_none, object_at}
use Rattle.sim_code.specs.Simulations.{is_simulated, located, named_in}
use Rattle.sim_meaning.specs.Attributes.{is_connection}
use Rattle.sim_meaning.specs.Levels.{has_levels, has_standard_class, is_head_class, is_linkage_class, is_standard_text, levels_beyond, levels_from, levels_of, linkage_of_text}
use Rattle.sim_meaning.specs.Pending.{Held, Instances}
use Rattle.sim_meaning.specs.Texts.{BlockText, ClassText, ConnectionText, PrefixedText, ProcedureText, StandardText, Text, text}
use Rattle.sim_sound.specs.Typed.{Ends, SetClasses, Typed, outermost, prefixed}
use Rattle.sim_sound.proofs.Lists.{append_at, append_before, if_false, if_true, no_some, old_or_new, one_longer, same_some, there_is}
use Rattle.sim_sound.proofs.Prefixes.{LevelOf, level_has, level_is, level_then, levels_solid, only_level, prefix_level, same_is, same_level}
use Rattle.sim_sound.proofs.SetLists.{Near, Previous, PutAt, Stands, a_head_itself, a_link, cleared, each_head, each_link, each_long, followed, found_instance, found_new, found_still, gone_into, its_head, left_out, pred_near, preceded, prev_near, suc_near, was_head}
use Rattle.sim_sound.proofs.Simulated.{SimulationsFine}
use Rattle.sim_sound.proofs.SimulatedLists.{located_at, located_simulated, simulated_there}
use Rattle.sim_sound.proofs.Sound.{PrefixedAt}
use Rattle.sim_sound.proofs.Values.{Lasts, MainIn, ObjectOf, ReferenceFine, Simulates}

-- ---- what is fine

-- a linkage of this kind
abbrev pub KindAt : (head : Bool) → List Linkage → ℕ → Type 0
KindAt true sets n = is_head_at sets n ≡ true
KindAt false sets n = is_link_at sets n ≡ true

-- the linkage of an object
pub record LinkageMade (b : Memberships) (j : ℕ) (head : Bool) : Type 0 where
  pub number : ℕ
  pub is : linkage_of b.instances j ≡ Some number
  pub kind : KindAt head b.sets number

-- what a link is that of: an object of a class, or the main program of a simulation block
pub data Linked (s : Source) (m : Instances) (j class : ℕ) : Type 0 where
  by_object : ObjectOf s m j class → Linked s m j class
  by_main : MainIn s m j class → Linked s m j class

-- a linkage, and the head in whose set it stands
pub record Together (s : Source) (m : Instances) (instances : List ℕ) (x h : ℕ) : Type 0 where
  pub linkage : ℕ
  pub classes : SetClasses s linkage
  pub member : ℕ
  pub member_is : slice_get instances x ≡ Some member
  pub member_linked : Linked s m member (linkage + 1)
  pub head : ℕ
  pub head_is : slice_get instances h ≡ Some head
  pub head_object : ObjectOf s m head (linkage + 2)

pub record MembersFine (s : Source) (b : Memberships) (m : Instances) : Type 0 where
  pub same : length b.instances ≡ length b.sets
  pub there : (n j : ℕ) → slice_get b.instances n ≡ Some j → j < length m.instances
  pub made : (j : ℕ) (x : Instance (List Held)) → live m j ≡ Some x → (l : ℕ) → SetClasses s l → LevelOf s x.text l → LinkageMade b j (has_level s.tables x.text (l + 2))
  pub mains : (j k : ℕ) (x : Instance (List Held)) → live m j ≡ Some x → is_simulation_block s.tables k ≡ true → LevelOf s x.text k → LinkageMade b j false
  pub together : (h : ℕ) (xs : List ℕ) → slice_get b.sets h ≡ Some (Head xs) → (x : ℕ) → Stands x xs → Together s m b.instances x h

-- before the first step
abbrev pub no_members : Memberships
no_members = record { instances = []; sets = [] }

-- ---- the levels of the classes of SIMSET

-- the outermost level is one alone
pub one_outermost : (s : Source) {k a b : ℕ} → LevelOf s k a → LevelOf s k b → base s.tables a ≡ None → base s.tables b ≡ None → a ≡ b
one_outermost s same_level same_level e f = refl
one_outermost s {k = k} same_level (prefix_level {b = c} g y) e f = absurd (no_some (base s.tables k) c e g)
one_outermost s {k = k} (prefix_level {b = c} g x) same_level e f = absurd (no_some (base s.tables k) c f g)
one_outermost s {k = k} {a = a} {b = b} (prefix_level {b = c} g x) (prefix_level {b = d} h y) e f =
    one_outermost s x (subst (λ z. LevelOf s z b) (same_some (base s.tables k) d c h g) y) e f

-- of two levels one is a level of the other
along : (s : Source) {k a b : ℕ} → LevelOf s k a → LevelOf s k b → LevelOf s a b ⊎ LevelOf s b a
along s same_level y = inl y
along s x same_level = inr x
along s {k = k} {a = a} {b = b} (prefix_level {b = c} g x) (prefix_level {b = d} h y) = along s x (subst (λ z. LevelOf s z b) (same_some (base s.tables k) d c h g) y)

-- each of the three classes has the first for a level
abbrev pub Place : ℕ → Type 0
Place p = (p ≡ 0) ⊎ ((p ≡ 1) ⊎ (p ≡ 2))

pub linkage_place : Place 0
linkage_place = inl refl

pub link_place : Place 1
link_place = inr (inl refl)

pub head_place : Place 2
head_place = inr (inr refl)

pub to_linkage : (s : Source) (l p : ℕ) → SetClasses s l → Place p → LevelOf s (l + p) l
to_linkage s l p c place =
    ⊎_elim (λ e. subst (λ z. LevelOf s z l) (let q : l ≡ l + p = omega (arith, e) in q) same_level)
    (λ other. ⊎_elim (λ e. subst (λ z. LevelOf s (l + z) l) (sym e) (prefix_level c.link_prefix same_level)) (λ e. subst (λ z. LevelOf s (l + z) l) (sym e) (prefix_level c.head_prefix same_level)) other)
    place

-- classes of SIMSET that are levels of one class were brought together
pub brought_together : (s : Source) {k l l' p p' : ℕ} → SetClasses s l → SetClasses s l' → Place p → Place p' → LevelOf s k (l + p) → LevelOf s k (l' + p') → l ≡ l'
brought_together s {l = l} {l' = l'} {p = p} {p' = p'} c c' a a' x y =
    one_outermost s (level_then s x (to_linkage s l p c a)) (level_then s y (to_linkage s l' p' c' a')) c.first c'.first

-- a link is no head
link_no_head : (s : Source) (k l : ℕ) → SetClasses s l → LevelOf s k (l + 1) → LevelOf s k (l + 2) → ⊥
link_no_head s k l c x y = ⊎_elim (λ z. up z) (λ z. down z) (along s x y)
  where
    over : (u : ℕ) → LevelOf s l u → l ≡ u
    over _ same_level = refl
    over u (prefix_level {b = b} g z) = absurd (no_some (base s.tables l) b c.first g)

    up : LevelOf s (l + 1) (l + 2) → ⊥
    up z = by_level (l + 1) (l + 2) refl refl z
      where
        by_level : (u v : ℕ) → u ≡ l + 1 → v ≡ l + 2 → LevelOf s u v → ⊥
        by_level u _ e f same_level = omega (arith, e, f)
        by_level u v e f (prefix_level {b = b} g w) =
            let same : b ≡ l = same_some (base s.tables u) b l g (ap (base s.tables) e ∙ c.link_prefix) in
            let again : l ≡ v = over v (subst (λ q. LevelOf s q v) same w) in
            omega (arith, f, again)

    down : LevelOf s (l + 2) (l + 1) → ⊥
    down z = by_level (l + 2) (l + 1) refl refl z
      where
        by_level : (u v : ℕ) → u ≡ l + 2 → v ≡ l + 1 → LevelOf s u v → ⊥
        by_level u _ e f same_level = omega (arith, e, f)
        by_level u v e f (prefix_level {b = b} g w) =
            let same : b ≡ l = same_some (base s.tables u) b l g (ap (base s.tables) e ∙ c.head_prefix) in
            let again : l ≡ v = over v (subst (λ q. LevelOf s q v) same w) in
            omega (arith, f, again)

-- the class `process` of a simulation block has for levels the first two classes that were brought with it, and not the third
pub process_link : (s : Source) → Typed s → (k : ℕ) → is_simulation_block s.tables k ≡ true → LevelOf s (k + 4) (k + 1 + 1)
process_link s ok k is = prefix_level (ok.simulations k is).process_prefix (same_is s (k + 2) (k + 1 + 1) (omega arith))

-- so it is of the classes that are among its levels
pub process_brought : (s : Source) → Typed s → (k l p : ℕ) → is_simulation_block s.tables k ≡ true → SetClasses s l → Place p → LevelOf s (k + 4) (l + p) → k + 1 ≡ l
process_brought s ok k l p is c place at = brought_together s (ok.simulations k is).sets c link_place place (process_link s ok k is) at

pub process_no_head : (s : Source) → Typed s → (k l : ℕ) → is_simulation_block s.tables k ≡ true → SetClasses s l → LevelOf s (k + 4) (l + 2) → ⊥
process_no_head s ok k l is c at =
    let same = process_brought s ok k l 2 is c head_place at in
    link_no_head s (k + 4) l c (subst (λ z. LevelOf s (k + 4) (z + 1)) same (process_link s ok k is)) at

-- ---- later instances

pub no_less : (n : ℕ) → n ≤ n
no_less n = omega arith

-- the objects and the main programs are there as before, and all that lives has a text and an encloser as it had
pub record StillAll (s : Source) (m m' : Instances) : Type 0 where
  pub objects : (j c : ℕ) → ObjectOf s m j c → ObjectOf s m' j c
  pub lasts : (j u : ℕ) → Lasts s m j u → Lasts s m' j u
  pub more : length m.instances ≤ length m'.instances
  pub texts : (j : ℕ) (x : Instance (List Held)) → live m' j ≡ Some x → (y : Instance (List Held)) × (live m j ≡ Some y) × (y.text ≡ x.text) × (y.encloser ≡ x.encloser)

pub main_still : (s : Source) (m m' : Instances) → ((j u : ℕ) → Lasts s m j u → Lasts s m' j u) → (b c : ℕ) → MainIn s m b c → MainIn s m' b c
main_still s m m' lasts b c x = record { level = x.level; block = record { lasts = lasts b x.level (x.block).lasts; simulates = (x.block).simulates }; levels = x.levels }

pub linked_still : (s : Source) (m m' : Instances) → ((j c : ℕ) → ObjectOf s m j c → ObjectOf s m' j c) → ((j u : ℕ) → Lasts s m j u → Lasts s m' j u) → (j c : ℕ) → Linked s m j c → Linked s m' j c
linked_still s m m' objects lasts j c (by_object x) = by_object (objects j c x)
linked_still s m m' objects lasts j c (by_main x) = by_main (main_still s m m' lasts j c x)

together_later : (s : Source) (m m' : Instances) → ((j c : ℕ) → ObjectOf s m j c → ObjectOf s m' j c) → ((j u : ℕ) → Lasts s m j u → Lasts s m' j u) → (instances : List ℕ) (x h : ℕ) → Together s m instances x h → Together s m' instances x h
together_later s m m' objects lasts instances x h t = record {
  linkage = t.linkage;
  classes = t.classes;
  member = t.member;
  member_is = t.member_is;
  member_linked = linked_still s m m' objects lasts t.member (t.linkage + 1) t.member_linked;
  head = t.head;
  head_is = t.head_is;
  head_object = objects t.head (t.linkage + 2) t.head_object;
}

pub members_later : (s : Source) (b : Memberships) (m m' : Instances) → StillAll s m m' → MembersFine s b m → MembersFine s b m'
members_later s b m m' e f = record {
  same = f.same;
  there = λ n j is. (let less = f.there n j is in let more = e.more in omega (arith, less, more));
  made = λ j x lives l c at. (let y = e.texts j x lives in subst (λ z. LinkageMade b j (has_level s.tables z (l + 2))) y.2 (f.made j y.0 y.1 l c (subst (λ z. LevelOf s z l) (sym y.2) at)));
  mains = λ j k x lives is at. (let y = e.texts j x lives in f.mains j k y.0 y.1 is (subst (λ z. LevelOf s z k) (sym y.2) at));
  together = λ h xs is x at. together_later s m m' e.objects e.lasts b.instances x h (f.together h xs is x at);
}

-- ---- one instance more

-- it is the new one, or was there
pub record OneMore (s : Source) (m m' : Instances) (text : ℕ) (encloser : Option ℕ) : Type 0 where
  pub objects : (j c : ℕ) → ObjectOf s m j c → ObjectOf s m' j c
  pub lasts : (j u : ℕ) → Lasts s m j u → Lasts s m' j u
  pub count : length m'.instances ≡ suc (length m.instances)
  pub fresh : (j : ℕ) (x : Instance (List Held)) → live m j ≡ Some x → j ≡ length m.instances → ⊥
  pub texts : (j : ℕ) (x : Instance (List Held)) → live m' j ≡ Some x → (live m j ≡ Some x) ⊎ ((j ≡ length m.instances) × (text ≡ x.text) × (encloser ≡ x.encloser))

-- that has no class of SIMSET among its levels, and none that has `simulation` in front
abbrev pub NoLinkage : Source → ℕ → Type 0
NoLinkage s k = (l : ℕ) → SetClasses s l → LevelOf s k l → ⊥

abbrev pub NoSimulation : Source → ℕ → Type 0
NoSimulation s k = (u : ℕ) → is_simulation_block s.tables u ≡ true → LevelOf s k u → ⊥

pub members_more : (s : Source) (b : Memberships) (m m' : Instances) (k : ℕ) (out : Option ℕ) → OneMore s m m' k out → NoLinkage s k → NoSimulation s k → MembersFine s b m → MembersFine s b m'
members_more s b m m' k out e none single f = record {
  same = f.same;
  there = λ n j is. (let less = f.there n j is in let more = e.count in omega (arith, less, more));
  made = λ j x lives l c at. ⊎_elim (λ old. f.made j x old l c at) (λ new. absurd (none l c (subst (λ z. LevelOf s z l) (sym new.1) at))) (e.texts j x lives);
  mains = λ j u x lives is at. ⊎_elim (λ old. f.mains j u x old is at) (λ new. absurd (single u is (subst (λ z. LevelOf s z u) (sym new.1) at))) (e.texts j x lives);
  together = λ h xs is x at. together_later s m m' e.objects e.lasts b.instances x h (f.together h xs is x at);
}

-- What has no levels has no class of SIMSET among them, and neither has a prefixed block; and it has no simulation among them.
pub plain_no_simulation : (s : Source) → Typed s → (k : ℕ) → is_connection (text s k) ≡ false → has_levels (text s k) ≡ false → NoSimulation s k
plain_no_simulation s ok k solid none u is at = let same = only_level s ok solid none at in let yes : has_levels (text s k) ≡ true = ap (λ z. has_levels (text s z)) same ∙ (ok.simulations u is).has in cc

pub plain_no_linkage : (s : Source) → Typed s → (k : ℕ) → is_connection (text s k) ≡ false → has_levels (text s k) ≡ false → NoLinkage s k
plain_no_linkage s ok k solid none l c at = let same = only_level s ok solid none at in let yes : has_levels (text s k) ≡ true = ap (λ z. has_levels (text s z)) same ∙ ap has_levels c.linkage_is in cc

pub block_no_linkage : (s : Source) → Typed s → (k : ℕ) → PrefixedAt s k → NoLinkage s k
block_no_linkage s ok k p l c at = ok.no_set_block k l standard.Linkage p.class p.arguments p.declarations p.statements p.is (level_has s ok k l (ap is_connection p.is) at) c.linkage_is

-- ---- an object that is made

-- what it is made as
abbrev pub enrolled_members : (object : ℕ) → Option Linkage → Memberships → Memberships
enrolled_members j None b = b
enrolled_members j (Some linkage) b = with_linkage j linkage b

or_cases : (p q : Bool) → (p || q) ≡ true → (p ≡ true) ⊎ (q ≡ true)
or_cases true q e = inl refl
or_cases false q e = inr e

or_right : (p q : Bool) → q ≡ true → (p || q) ≡ true
or_right true q e = refl
or_right false q e = e

any_left : (test : ℕ → Bool) (xs ys : List ℕ) → list_any test xs ≡ true → list_any test (xs ++ ys) ≡ true
any_left test [] ys e = absurd (cc)
any_left test (x ∷ xs) ys e = ⊎_elim (λ f. ap (λ z. z || list_any test (xs ++ ys)) f) (λ f. or_right (test x) (list_any test (xs ++ ys)) (any_left test xs ys f)) (or_cases (test x) (list_any test xs) e)

any_last : (test : ℕ → Bool) (xs : List ℕ) (y : ℕ) → test y ≡ true → list_any test (xs ++ y ∷ []) ≡ true
any_last test [] y e = ap (λ z. z || false) e
any_last test (x ∷ xs) y e = or_right (test x) (list_any test (xs ++ y ∷ [])) (any_last test xs y e)

any_either : (test : ℕ → Bool) (xs : List ℕ) (y : ℕ) → list_any test (xs ++ y ∷ []) ≡ true → (list_any test xs ≡ true) ⊎ (test y ≡ true)
any_either test [] y e = ⊎_elim (λ f. inr f) (λ f. absurd (false_not_true f)) (or_cases (test y) false e)
  where
    false_not_true : false ≡ true → ⊥
    false_not_true f = cc
any_either test (x ∷ xs) y e =
    ⊎_elim (λ f. inl (ap (λ z. z || list_any test xs) f)) (λ f. ⊎_elim (λ g. inl (or_right (test x) (list_any test xs) g)) (λ g. inr g) (any_either test xs y f)) (or_cases (test x) (list_any test (xs ++ y ∷ [])) e)

-- a level that is so is one of the list, and the other way round
pub level_counted : (s : Source) (test : ℕ → Bool) (n k u : ℕ) → Ends s.tables n k → LevelOf s k u → test u ≡ true → list_any test (levels_from s.tables n k) ≡ true
level_counted s test zero k u ends at is = elim ends [ ]
level_counted s test (suc n) k _ ends same_level is = any_last test (levels_beyond (levels_from s.tables n) (base s.tables k)) k is
level_counted s test (suc n) k u (outermost none) (prefix_level {b = b} e at) is = absurd (no_some (base s.tables k) b none e)
level_counted s test (suc n) k u (prefixed {b = c} g ends) (prefix_level {b = b} e at) is =
    any_left test (levels_beyond (levels_from s.tables n) (base s.tables k)) (k ∷ []) (ap (λ z. list_any test (levels_beyond (levels_from s.tables n) z)) e ∙ level_counted s test n b u (subst (Ends s.tables n) (same_some (base s.tables k) c b g e) ends) at is)

pub level_among : (s : Source) (test : ℕ → Bool) (n k : ℕ) → list_any test (levels_from s.tables n k) ≡ true → (u : ℕ) × LevelOf s k u × (test u ≡ true)
level_among s test zero k e = absurd (cc)
level_among s test (suc n) k e =
    ⊎_elim (λ f. by_base (base s.tables k) refl (λ b g. level_among s test n b g) f) (λ f. (k, same_level, f)) (any_either test (levels_beyond (levels_from s.tables n) (base s.tables k)) k e)
  where
    by_base : (x : Option ℕ) → base s.tables k ≡ x → ((b : ℕ) → list_any test (levels_from s.tables n b) ≡ true → (u : ℕ) × LevelOf s b u × (test u ≡ true)) → list_any test (levels_beyond (levels_from s.tables n) x) ≡ true → (u : ℕ) × LevelOf s k u × (test u ≡ true)
    by_base None f go g = absurd (cc)
    by_base (Some b) f go g = let r = go b g in (r.0, prefix_level f r.1, r.2)

-- what is in a longer list
still_head : (sets : List Linkage) (linkage : Linkage) (n : ℕ) → is_head_at sets n ≡ true → is_head_at (sets ++ linkage ∷ []) n ≡ true
still_head [] linkage n e = absurd (cc)
still_head (x ∷ sets) linkage zero e = e
still_head (x ∷ sets) linkage (suc n) e = still_head sets linkage n e

still_link : (sets : List Linkage) (linkage : Linkage) (n : ℕ) → is_link_at sets n ≡ true → is_link_at (sets ++ linkage ∷ []) n ≡ true
still_link [] linkage n e = absurd (cc)
still_link (x ∷ sets) linkage zero e = e
still_link (x ∷ sets) linkage (suc n) e = still_link sets linkage n e

still_kind : (head : Bool) (sets : List Linkage) (linkage : Linkage) (n : ℕ) → KindAt head sets n → KindAt head (sets ++ linkage ∷ []) n
still_kind true sets linkage n e = still_head sets linkage n e
still_kind false sets linkage n e = still_link sets linkage n e

still_made : (b : Memberships) (i : ℕ) (linkage : Linkage) (j : ℕ) (head : Bool) → LinkageMade b j head → LinkageMade (with_linkage i linkage b) j head
still_made b i linkage j head x = record { number = x.number; is = found_still b.instances i j x.number x.is; kind = still_kind head b.sets linkage x.number x.kind }

still_together : (s : Source) (m : Instances) (xs : List ℕ) (i x h : ℕ) → Together s m xs x h → Together s m (xs ++ i ∷ []) x h
still_together s m xs i x h t = record {
  linkage = t.linkage;
  classes = t.classes;
  member = t.member;
  member_is = append_before xs i x (there_is xs x t.member t.member_is) ∙ t.member_is;
  member_linked = t.member_linked;
  head = t.head;
  head_is = append_before xs i h (there_is xs h t.head t.head_is) ∙ t.head_is;
  head_object = t.head_object;
}

-- a new linkage, which stands in no set and in whose set nothing stands
abbrev IsNew : Linkage → Type 0
IsNew linkage = (xs : List ℕ) → linkage ≡ Head xs → xs ≡ []

members_with : (s : Source) (b : Memberships) (m m' : Instances) (k : ℕ) (out : Option ℕ) → OneMore s m m' k out → (linkage : Linkage) → IsNew linkage → ((l : ℕ) → SetClasses s l → LevelOf s k l → (has_level s.tables k (l + 2) ≡ is_head (Some linkage)) × (is_link (Some linkage) ≡ not (is_head (Some linkage)))) → ((u : ℕ) → is_simulation_block s.tables u ≡ true → LevelOf s k u → is_link (Some linkage) ≡ true) → MembersFine s b m → MembersFine s (with_linkage (length m.instances) linkage b) m'
members_with s b m m' k out e linkage new kinds main f = record {
  same = one_longer b.instances (length m.instances) ∙ ap suc f.same ∙ sym (one_longer b.sets linkage);
  there = λ n j is. (let more = e.count in
      ⊎_elim (λ old. let less = f.there n j old in omega (arith, less, more)) (λ last. let same = last.1 in omega (arith, same, more)) (old_or_new b.instances (length m.instances) n j is));
  made = λ j x lives l c at.
      ⊎_elim (λ old. still_made b (length m.instances) linkage j (has_level s.tables x.text (l + 2)) (f.made j x old l c at))
      (λ last. subst (λ z. LinkageMade (with_linkage (length m.instances) linkage b) z (has_level s.tables x.text (l + 2))) (sym last.0) (subst (λ z. LinkageMade (with_linkage (length m.instances) linkage b) (length m.instances) (has_level s.tables z (l + 2))) last.1 (its_own l c (subst (λ z. LevelOf s z l) (sym last.1) at))))
      (e.texts j x lives);
  mains = λ j u x lives is at.
      ⊎_elim (λ old. still_made b (length m.instances) linkage j false (f.mains j u x old is at))
      (λ last. subst (λ z. LinkageMade (with_linkage (length m.instances) linkage b) z false) (sym last.0) (its_own_link (main u is (subst (λ z. LevelOf s z u) (sym last.1) at))))
      (e.texts j x lives);
  together = λ h xs is x at.
      ⊎_elim (λ old. still_together s m' b.instances (length m.instances) x h (together_later s m m' e.objects e.lasts b.instances x h (f.together h xs old x at)))
      (λ last. absurd (nothing x (subst (Stands x) (new xs last.1) at)))
      (old_or_new b.sets linkage h (Head xs) is);
}
  where
    nothing : (x : ℕ) → Stands x [] → ⊥
    nothing x a = elim a [ ]

    fresh_number : (n : ℕ) → slice_get b.instances n ≡ Some (length m.instances) → ⊥
    fresh_number n is = let less = f.there n (length m.instances) is in omega (arith, less)

    its_kind : (head : Bool) → head ≡ is_head (Some linkage) → is_link (Some linkage) ≡ not (is_head (Some linkage)) → KindAt head (b.sets ++ linkage ∷ []) (length b.sets)
    its_kind true is link = ap is_head (append_at b.sets linkage) ∙ sym is
    its_kind false is link = ap is_link (append_at b.sets linkage) ∙ link ∙ ap not (sym is)

    its_own : (l : ℕ) → SetClasses s l → LevelOf s k l → LinkageMade (with_linkage (length m.instances) linkage b) (length m.instances) (has_level s.tables k (l + 2))
    its_own l c at =
        let q = kinds l c at in
        record { number = length b.instances; is = found_new b.instances (length m.instances) fresh_number; kind = subst (KindAt (has_level s.tables k (l + 2)) (b.sets ++ linkage ∷ [])) (sym f.same) (its_kind (has_level s.tables k (l + 2)) q.0 q.1) }

    its_own_link : is_link (Some linkage) ≡ true → LinkageMade (with_linkage (length m.instances) linkage b) (length m.instances) false
    its_own_link link = record { number = length b.instances; is = found_new b.instances (length m.instances) fresh_number; kind = subst (λ z. is_link_at (b.sets ++ linkage ∷ []) z ≡ true) (sym f.same) (ap is_link (append_at b.sets linkage) ∙ link) }

-- nothing stands in the set of what is no head
link_new : (xs : List ℕ) → Link ≡ Head xs → xs ≡ []
link_new xs q = absurd (cc)

-- the main program of a block that has none of the classes in front is made a link
pub members_main : (s : Source) (b : Memberships) (m m' : Instances) (k : ℕ) (out : Option ℕ) → OneMore s m m' k out → NoLinkage s k → MembersFine s b m → MembersFine s (with_linkage (length m.instances) Link b) m'
members_main s b m m' k out e none f = members_with s b m m' k out e Link link_new (λ l c at. absurd (none l c at)) (λ u is at. refl) f

module _ (s : Source) (ok : Typed s) (k : ℕ) (solid : is_connection (text s k) ≡ false) where
  linkage_counted : (l : ℕ) → SetClasses s l → LevelOf s k l → has_standard_class s is_linkage_class k ≡ true
  unfolding levels_of
  linkage_counted l c at = level_counted s (λ u. is_standard_text is_linkage_class (text s u)) (length s.tables.blocks) k l ((ok.prefixes).ends k solid) at (ap (is_standard_text is_linkage_class) c.linkage_is)

  head_counted : (l : ℕ) → SetClasses s l → LevelOf s k (l + 2) → has_standard_class s is_head_class k ≡ true
  unfolding levels_of
  head_counted l c at = level_counted s (λ u. is_standard_text is_head_class (text s u)) (length s.tables.blocks) k (l + 2) ((ok.prefixes).ends k solid) at (ap (is_standard_text is_head_class) c.head_is)

  head_text : (u : ℕ) (x : Option Text) → text s u ≡ x → is_standard_text is_head_class x ≡ true → text s u ≡ Some (StandardText standard.Head)
  head_text u (Some (StandardText standard.Head)) e is = e
  head_text u (Some (StandardText standard.Linkage)) e is = absurd (cc)
  head_text u (Some (StandardText standard.Link)) e is = absurd (cc)
  head_text u (Some (StandardText standard.Process)) e is = absurd (cc)
  head_text u None e is = absurd (cc)
  head_text u (Some (BlockText begin ds ss)) e is = absurd (cc)
  head_text u (Some (ProcedureText result h a)) e is = absurd (cc)
  head_text u (Some (ClassText prefix h ds ss)) e is = absurd (cc)
  head_text u (Some (PrefixedText class es ds ss)) e is = absurd (cc)
  head_text u (Some ConnectionText) e is = absurd (cc)

  -- a head level, of classes that were brought together
  some_head : has_standard_class s is_head_class k ≡ true → (l : ℕ) × SetClasses s l × LevelOf s k (l + 2)
  unfolding levels_of
  some_head e =
      let r = level_among s (λ u. is_standard_text is_head_class (text s u)) (length s.tables.blocks) k e in
      let there = ok.set_classes r.0 standard.Head (head_text r.0 (text s r.0) refl r.2) in
      let two : there.place ≡ 2 = (let q = there.placed in cc) in
      (there.linkage, there.classes, subst (LevelOf s k) (there.is ∙ ap (λ z. there.linkage + z) two) r.1)

  head_level : (l : ℕ) → SetClasses s l → LevelOf s k l → has_standard_class s is_head_class k ≡ true → has_level s.tables k (l + 2) ≡ true
  head_level l c at e =
      let r = some_head e in
      let same : r.0 ≡ l = one_outermost s (level_then s r.2 (to_linkage s r.0 2 r.1 (inr (inr refl)))) at (r.1).first c.first in
      level_has s ok k (l + 2) solid (subst (λ z. LevelOf s k (z + 2)) same r.2)

  no_head_level : (l : ℕ) → SetClasses s l → has_standard_class s is_head_class k ≡ false → has_level s.tables k (l + 2) ≡ false
  no_head_level l c e = by_flag (has_level s.tables k (l + 2)) refl
    where
      by_flag : (q : Bool) → has_level s.tables k (l + 2) ≡ q → has_level s.tables k (l + 2) ≡ false
      by_flag false f = f
      by_flag true f = absurd (let yes = head_counted l c (level_is s k (l + 2) f) in cc)

  pub members_enrolled : (b : Memberships) (m m' : Instances) (out : Option ℕ) → OneMore s m m' k out → NoSimulation s k → MembersFine s b m → MembersFine s (enrolled_members (length m.instances) (linkage_of_text s k) b) m'
  unfolding linkage_of_text
  members_enrolled b m m' out e single f = by_kind (has_standard_class s is_head_class k) (has_standard_class s is_linkage_class k) refl refl
    where
      empty_new : (xs : List ℕ) → Head [] ≡ Head xs → xs ≡ []
      empty_new xs q = cc

      by_kind : (h l : Bool) → has_standard_class s is_head_class k ≡ h → has_standard_class s is_linkage_class k ≡ l → MembersFine s (enrolled_members (length m.instances) (linkage_by h l) b) m'
      by_kind true l is_head is_linkage = members_with s b m m' k out e (Head []) empty_new (λ l c at. (head_level l c at is_head, refl)) (λ u is at. absurd (single u is at)) f
      by_kind false true is_head is_linkage = members_with s b m m' k out e Link link_new (λ l c at. (no_head_level l c is_head, refl)) (λ u is at. absurd (single u is at)) f
      by_kind false false is_head is_linkage = members_more s b m m' k out e (λ l c at. let yes = linkage_counted l c at in cc) single f

-- ---- what the procedures find

module _ (s : Source) (ok : Typed s) (b : Memberships) (m : Instances) (f : MembersFine s b m) (sims : List Simulation) (q : SimulationsFine s sims m) where
  object_level : (j u : ℕ) (x : ObjectOf s m j u) → LevelOf s (x.now).text u
  object_level j u x = level_is s (x.now).text u x.levels

  main_level : (j u : ℕ) (x : MainIn s m j u) → LevelOf s (x.level + 4) u
  main_level j u x = level_is s (x.level + 4) u x.levels

  -- what is in one of the classes is in the first
  linkage_object : (j l p : ℕ) → SetClasses s l → Place p → ObjectOf s m j (l + p) → ObjectOf s m j l
  linkage_object j l p c place x = record {
    now = x.now;
    lives = x.lives;
    object = x.object;
    levels = level_has s ok (x.now).text l (levels_solid (text s (x.now).text) x.object) (level_then s (object_level j (l + p) x) (to_linkage s l p c place));
    stays = x.stays;
    words = x.words;
    has_text = x.has_text;
    made = x.made;
  }

  process_solid : (k : ℕ) → is_simulation_block s.tables k ≡ true → is_connection (text s (k + 4)) ≡ false
  process_solid k is = ap is_connection (ok.simulations k is).process_is

  linkage_main : (j l p : ℕ) → SetClasses s l → Place p → MainIn s m j (l + p) → MainIn s m j l
  linkage_main j l p c place x = record {
    level = x.level;
    block = x.block;
    levels = level_has s ok (x.level + 4) l (process_solid x.level (x.block).simulates) (level_then s (main_level j (l + p) x) (to_linkage s l p c place));
  }

  pub linkage_linked : (j l p : ℕ) → SetClasses s l → Place p → Linked s m j (l + p) → Linked s m j l
  linkage_linked j l p c place (by_object x) = by_object (linkage_object j l p c place x)
  linkage_linked j l p c place (by_main x) = by_main (linkage_main j l p c place x)

  -- no simulation block is an object of such a class
  no_main_object : (j l : ℕ) → SetClasses s l → (y : Instance (List Held)) → live m j ≡ Some y → LevelOf s y.text l → (k : ℕ) → Simulates s m j k → ⊥
  no_main_object j l c y lives at k x =
      let n = q.there j k (x.lasts).now (x.lasts).lives x.simulates (x.lasts).level in
      let w = q.each (n.0).0 (n.0).1 (located_at sims j n.0 n.1).0 in
      let its : w.now ≡ y = same_some (live m j) w.now y (ap (live m) (sym (located_at sims j n.0 n.1).1) ∙ w.lives) lives in
      block_no_linkage s ok y.text (subst (λ z. PrefixedAt s z.text) its w.prefixed) l c at

  same_brought : (j l l' : ℕ) → SetClasses s l → SetClasses s l' → Linked s m j l → Linked s m j l' → l ≡ l'
  same_brought j l l' c c' (by_object x) (by_object y) =
      one_outermost s (object_level j l x) (subst (λ z. LevelOf s z.text l') (same_some (live m j) y.now x.now y.lives x.lives) (object_level j l' y)) c.first c'.first
  same_brought j l l' c c' (by_object x) (by_main y) = absurd (no_main_object j l c x.now x.lives (object_level j l x) y.level y.block)
  same_brought j l l' c c' (by_main x) (by_object y) = absurd (no_main_object j l' c' y.now y.lives (object_level j l' y) x.level x.block)
  same_brought j l l' c c' (by_main x) (by_main y) =
      let its = same_some (live m j) ((y.block).lasts).now ((x.block).lasts).now ((y.block).lasts).lives ((x.block).lasts).lives in
      let same : x.level ≡ y.level = one_outermost s ((x.block).lasts).level (subst (λ z. LevelOf s z.text y.level) its ((y.block).lasts).level) (ok.simulations x.level (x.block).simulates).first (ok.simulations y.level (y.block).simulates).first in
      sym (main_brought j l c x) ∙ ap (λ z. z + 1) same ∙ main_brought j l' c' y
    where
      main_brought : (j l : ℕ) → SetClasses s l → (x : MainIn s m j l) → x.level + 1 ≡ l
      main_brought j l c x = process_brought s ok x.level l 0 (x.block).simulates c linkage_place (subst (LevelOf s (x.level + 4)) (let e : l ≡ l + 0 = omega arith in e) (main_level j l x))

  -- its linkage
  found : (j l : ℕ) → SetClasses s l → (x : ObjectOf s m j l) → LinkageMade b j (has_level s.tables (x.now).text (l + 2))
  found j l c x = f.made j x.now x.lives l c (object_level j l x)

  main_found : (j u : ℕ) → (x : MainIn s m j u) → LinkageMade b j false
  main_found j u x = f.mains j x.level ((x.block).lasts).now ((x.block).lasts).lives (x.block).simulates ((x.block).lasts).level

  pub any_found : (j l : ℕ) → SetClasses s l → Linked s m j l → (n : ℕ) × (linkage_of b.instances j ≡ Some n)
  any_found j l c (by_object x) = let r = found j l c x in (r.number, r.is)
  any_found j l c (by_main x) = let r = main_found j l x in (r.number, r.is)

  -- a main program is no head
  pub head_only : (j l : ℕ) → SetClasses s l → Linked s m j (l + 2) → ObjectOf s m j (l + 2)
  head_only j l c (by_object x) = x
  head_only j l c (by_main x) = absurd (process_no_head s ok x.level l (x.block).simulates c (main_level j (l + 2) x))

  pub head_found : (j l : ℕ) → SetClasses s l → ObjectOf s m j (l + 2) → (n : ℕ) × (linkage_of b.instances j ≡ Some n) × (is_head_at b.sets n ≡ true)
  unfolding linkage_object
  head_found j l c x = let r = found j l c (linkage_object j l 2 c head_place x) in (r.number, r.is, subst (λ z. KindAt z b.sets r.number) x.levels r.kind)

  pub link_found : (j l : ℕ) → SetClasses s l → Linked s m j (l + 1) → (n : ℕ) × (linkage_of b.instances j ≡ Some n) × (is_link_at b.sets n ≡ true)
  unfolding linkage_object
  link_found j l c (by_main x) = let r = main_found j (l + 1) x in (r.number, r.is, r.kind)
  link_found j l c (by_object x) = let r = found j l c (linkage_object j l 1 c link_place x) in (r.number, r.is, subst (λ z. KindAt z b.sets r.number) (by_flag (has_level s.tables (x.now).text (l + 2)) refl) r.kind)
    where
      by_flag : (q : Bool) → has_level s.tables (x.now).text (l + 2) ≡ q → has_level s.tables (x.now).text (l + 2) ≡ false
      by_flag false e = e
      by_flag true e = absurd (link_no_head s (x.now).text l c (object_level j (l + 1) x) (level_is s (x.now).text (l + 2) e))

  not_both : (y : Option Linkage) → is_link y ≡ true → is_head y ≡ true → ⊥
  not_both None p q = cc
  not_both (Some Link) p q = cc
  not_both (Some (Head xs)) p q = cc

  -- what is in the first class, and whose linkage is a head, is an object of the third
  head_object : (j l n : ℕ) → SetClasses s l → Linked s m j l → linkage_of b.instances j ≡ Some n → is_head_at b.sets n ≡ true → ObjectOf s m j (l + 2)
  head_object j l n c (by_main x) at is =
      let r = main_found j l x in
      absurd (not_both (slice_get b.sets n) (subst (λ z. is_link_at b.sets z ≡ true) (same_some (linkage_of b.instances j) r.number n r.is at) r.kind) is)
  head_object j l n c (by_object x) at is = by_flag (has_level s.tables (x.now).text (l + 2)) refl
    where
      by_flag : (q : Bool) → has_level s.tables (x.now).text (l + 2) ≡ q → ObjectOf s m j (l + 2)
      by_flag true e = record { now = x.now; lives = x.lives; object = x.object; levels = e; stays = x.stays; words = x.words; has_text = x.has_text; made = x.made }
      by_flag false e =
          let r = found j l c x in
          let same : r.number ≡ n = same_some (linkage_of b.instances j) r.number n r.is at in
          absurd (not_both (slice_get b.sets n) (subst (λ z. is_link_at b.sets z ≡ true) same (subst (λ z. KindAt z b.sets r.number) e r.kind)) is)

  -- ---- changes

  members_changed : (change : ℕ → List ℕ → List ℕ) → ((h : ℕ) (xs : List ℕ) → slice_get b.sets h ≡ Some (Head xs) → (z : ℕ) → Stands z (change h xs) → Stands z xs ⊎ Together s m b.instances z h) → MembersFine s (record b { sets = each_from change 0 b.sets }) m
  members_changed change stays = record {
    same = f.same ∙ sym (each_long change 0 b.sets);
    there = f.there;
    made = λ j x lives l c at. (let r = f.made j x lives l c at in record { number = r.number; is = r.is; kind = changed_kind (has_level s.tables x.text (l + 2)) r.number r.kind });
    mains = λ j k x lives is at. (let r = f.mains j k x lives is at in record { number = r.number; is = r.is; kind = changed_kind false r.number r.kind });
    together = λ h ys is z at. (let w = was_head change 0 b.sets h ys is in
        let same : ys ≡ change h w.links = w.became ∙ ap (λ q. change q w.links) (let q : 0 + h ≡ h = omega arith in q) in
        ⊎_elim (λ old. f.together h w.links w.is z old) (λ new. new) (stays h w.links w.is z (subst (Stands z) same at)));
  }
    where
      changed_kind : (head : Bool) (n : ℕ) → KindAt head b.sets n → KindAt head (each_from change 0 b.sets) n
      changed_kind true n e = each_head change 0 b.sets n ∙ e
      changed_kind false n e = each_link change 0 b.sets n ∙ e

  pub out_fine : (x : ℕ) → MembersFine s (record b { sets = out b.sets x }) m
  unfolding out
  out_fine x = members_changed (λ h xs. without x xs) (λ h xs is z at. inl (left_out z x xs at))

  pub clear_fine : (p : ℕ) → MembersFine s (record b { sets = clear b.sets p }) m
  unfolding clear
  clear_fine p = members_changed (emptied p) (λ h xs is z at. inl (cleared z p h xs at))

  pub follow_none : (x : ℕ) → MembersFine s (record b { sets = follow b.sets x None }) m
  unfolding follow
  follow_none x = members_changed (following x None) (λ h xs is z at. inl (left_out z x xs at))

  pub precede_none : (x : ℕ) → MembersFine s (record b { sets = precede b.sets x None }) m
  unfolding precede
  precede_none x = members_changed (preceding x None) (λ h xs is z at. inl (left_out z x xs at))

  pub into_none : (x : ℕ) → MembersFine s (record b { sets = into b.sets x None }) m
  unfolding into
  into_none x = members_changed (going_into x None) (λ h xs is z at. inl (left_out z x xs at))

  -- what is in the second class beside what is in the first
  module _ (l : ℕ) (c : SetClasses s l) (j x : ℕ) (at : linkage_of b.instances j ≡ Some x) (link : Linked s m j (l + 1)) (i p : ℕ) (there : linkage_of b.instances i ≡ Some p) (other : Linked s m i l) where
    -- in the set of that, or in which that stands
    beside_head : (h : ℕ) (xs : List ℕ) → slice_get b.sets h ≡ Some (Head xs) → h ≡ p → Together s m b.instances x h
    beside_head h xs is same = record {
      linkage = l;
      classes = c;
      member = j;
      member_is = found_instance b.instances j x at;
      member_linked = link;
      head = i;
      head_is = ap (slice_get b.instances) same ∙ found_instance b.instances i p there;
      head_object = head_object i l p c other there (subst (λ z. is_head_at b.sets z ≡ true) same (ap is_head is));
    }

    beside_link : (h : ℕ) (xs : List ℕ) → slice_get b.sets h ≡ Some (Head xs) → Stands p xs → Together s m b.instances x h
    beside_link h xs is stands =
        let t = f.together h xs is p stands in
        let same : t.member ≡ i = same_some (slice_get b.instances p) t.member i t.member_is (found_instance b.instances i p there) in
        let brought : t.linkage ≡ l = same_brought i t.linkage l t.classes c (linkage_linked i t.linkage 1 t.classes link_place (subst (λ z. Linked s m z (t.linkage + 1)) same t.member_linked)) other in
        record { linkage = l; classes = c; member = j; member_is = found_instance b.instances j x at; member_linked = link; head = t.head; head_is = t.head_is; head_object = subst (λ z. ObjectOf s m t.head (z + 2)) brought t.head_object }

    put_together : (h : ℕ) (xs : List ℕ) → slice_get b.sets h ≡ Some (Head xs) → (z : ℕ) → PutAt z x p h xs → Stands z xs ⊎ Together s m b.instances z h
    put_together h xs is z a = ⊎_elim (λ old. inl old) (λ new. inr (subst (λ q. Together s m b.instances q h) (sym new.0) (⊎_elim (λ same. beside_head h xs is same) (λ stands. beside_link h xs is stands) new.1))) a

    pub follow_fine : MembersFine s (record b { sets = follow b.sets x (Some p) }) m
    unfolding follow
    follow_fine = members_changed (following x (Some p)) (λ h xs is z a. put_together h xs is z (followed z x p h xs a))

    pub precede_fine : MembersFine s (record b { sets = precede b.sets x (Some p) }) m
    unfolding precede
    precede_fine = members_changed (preceding x (Some p)) (λ h xs is z a. put_together h xs is z (preceded z x p h xs a))

    pub into_fine : MembersFine s (record b { sets = into b.sets x (Some p) }) m
    unfolding into
    into_fine = members_changed (going_into x (Some p)) (λ h xs is z a. put_together h xs is z (gone_into z x p h xs a))

  -- ---- how a linkage is named

  simulated : (j : ℕ) → (x : ℕ × Simulation) → located sims j ≡ Some x → is_simulated sims j ≡ true
  simulated j x e = located_simulated sims j x e

  not_simulated : (j l p : ℕ) → SetClasses s l → Place p → ObjectOf s m j (l + p) → is_simulated sims j ≡ false
  not_simulated j l p c place x = by_flag (is_simulated sims j) refl
    where
      by_flag : (t : Bool) → is_simulated sims j ≡ t → is_simulated sims j ≡ false
      by_flag false e = e
      by_flag true e =
          let r = simulated_there sims j e in
          let w = q.each r.0 r.1 r.2 in
          let its : w.now ≡ x.now = same_some (live m j) w.now x.now (ap (live m) (sym r.3) ∙ w.lives) x.lives in
          absurd (block_no_linkage s ok (x.now).text (subst (λ z. PrefixedAt s z.text) its w.prefixed) l c (level_then s (object_level j (l + p) x) (to_linkage s l p c place)))

  pub linked_named : (j l p : ℕ) → SetClasses s l → Place p → Linked s m j (l + p) → ReferenceFine s m (l + p) (named_in sims j)
  linked_named j l p c place (by_object x) = subst (ReferenceFine s m (l + p)) (sym (if_false (is_simulated sims j) (MainOf j) (Object j) (not_simulated j l p c place x))) x
  linked_named j l p c place (by_main x) =
      let n = q.there j x.level ((x.block).lasts).now ((x.block).lasts).lives (x.block).simulates ((x.block).lasts).level in
      subst (ReferenceFine s m (l + p)) (sym (if_true (is_simulated sims j) (MainOf j) (Object j) (simulated j n.0 n.1))) x

  -- ---- neighbours

  module _ (l : ℕ) (c : SetClasses s l) (j x : ℕ) (at : linkage_of b.instances j ≡ Some x) (own : Linked s m j l) where
    itself : slice_get b.instances x ≡ Some j
    itself = found_instance b.instances j x at

    -- the classes of the set in which it stands, or whose head it is
    of_head : (h y : ℕ) → (t : Together s m b.instances y h) → x ≡ h → t.linkage ≡ l
    of_head h y t same =
        let is : t.head ≡ j = same_some (slice_get b.instances h) t.head j t.head_is (ap (slice_get b.instances) (sym same) ∙ itself) in
        same_brought j t.linkage l t.classes c (linkage_linked j t.linkage 2 t.classes head_place (by_object (subst (λ z. ObjectOf s m z (t.linkage + 2)) is t.head_object))) own

    of_member : (h : ℕ) → (t : Together s m b.instances x h) → t.linkage ≡ l
    of_member h t =
        let is : t.member ≡ j = same_some (slice_get b.instances x) t.member j t.member_is itself in
        same_brought j t.linkage l t.classes c (linkage_linked j t.linkage 1 t.classes link_place (subst (λ z. Linked s m z (t.linkage + 1)) is t.member_linked)) own

    of_neighbour : (h y : ℕ) → (t : Together s m b.instances y h) → (u : Together s m b.instances x h) → t.linkage ≡ l
    of_neighbour h y t u =
        let is : t.head ≡ u.head = same_some (slice_get b.instances h) t.head u.head t.head_is u.head_is in
        same_brought u.head t.linkage u.linkage t.classes u.classes (linkage_linked u.head t.linkage 2 t.classes head_place (by_object (subst (λ z. ObjectOf s m z (t.linkage + 2)) is t.head_object))) (linkage_linked u.head u.linkage 2 u.classes head_place (by_object u.head_object)) ∙ of_member h u

    -- what a linkage is that of, which is in a class
    abbrev Names : (class y : ℕ) → Type 0
    Names class y = (i : ℕ) × (instance_of b.instances y ≡ Some i) × ReferenceFine s m class (named_in sims i)

    near_link : (y : ℕ) → Near b.sets x y → (i : ℕ) × (instance_of b.instances y ≡ Some i) × Linked s m i (l + 1)
    near_link y n =
        let t = f.together n.head n.links n.is y n.here in
        let same : t.linkage ≡ l = ⊎_elim (λ e. of_head n.head y t e) (λ e. of_neighbour n.head y t (f.together n.head n.links n.is x e)) n.from in
        (t.member, t.member_is, subst (λ z. Linked s m t.member (z + 1)) same t.member_linked)

    near_names : (y : ℕ) → Near b.sets x y → Names (l + 1) y
    near_names y n = let r = near_link y n in (r.0, r.1, linked_named r.0 l 1 c link_place r.2)

    -- one of the first class
    first_named : (i : ℕ) → Linked s m i l → ReferenceFine s m l (named_in sims i)
    first_named i a = let none : l + 0 ≡ l = omega arith in subst (λ z. ReferenceFine s m z (named_in sims i)) none (linked_named i l 0 c linkage_place (subst (Linked s m i) (sym none) a))

    previous_names : (y : ℕ) → Previous b.sets x y → Names l y
    previous_names y (a_link n) = let r = near_link y n in (r.0, r.1, first_named r.0 (linkage_linked r.0 l 1 c link_place r.2))
    previous_names y (its_head w) =
        let t = f.together y w.links w.is x w.stands in
        let same : t.linkage ≡ l = of_member y t in
        (t.head, t.head_is, first_named t.head (linkage_linked t.head l 2 c head_place (by_object (subst (λ z. ObjectOf s m t.head (z + 2)) same t.head_object))))
    previous_names y (a_head_itself same) = (j, ap (slice_get b.instances) (sym same) ∙ itself, first_named j own)

    -- what a procedure gives that gives a linkage
    gives_named : (class : ℕ) (y : Option ℕ) → ((n : ℕ) → y ≡ Some n → Names class n) → ReferenceFine s m class (object_at (named_in sims) b y)
    gives_named class None go = tt
    gives_named class (Some n) go = let r = go n refl in subst (λ z. ReferenceFine s m class (named_or_none (named_in sims) z)) (sym r.1) r.2

    pub suc_fine : ReferenceFine s m (l + 1) (object_at (named_in sims) b (suc_of b.sets x))
    suc_fine = gives_named (l + 1) (suc_of b.sets x) (λ y e. near_names y (suc_near b.sets x y e))

    pub pred_fine : ReferenceFine s m (l + 1) (object_at (named_in sims) b (pred_of b.sets x))
    pred_fine = gives_named (l + 1) (pred_of b.sets x) (λ y e. near_names y (pred_near b.sets x y e))

    pub prev_fine : ReferenceFine s m l (object_at (named_in sims) b (prev_of b.sets x))
    prev_fine = gives_named l (prev_of b.sets x) (λ y e. previous_names y (prev_near b.sets x y e))
