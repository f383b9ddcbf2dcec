-- The levels of a class or a prefixed block, as they are made: the outermost prefix first, each as its text says.
use Rattle.std.proofs.Common.{◌≡◌, ℕ, zero, suc, Bool, true, false, List, [], ◌∷◌, ◌++◌, length, map, Option, Some, None, ◌⊎◌, inl, inr, ⊎_elim, refl, sym, ap, ◌∙◌, subst}
use Rattle.std.specs.Prelude.{◌==◌, if◌then◌else◌, slice_get, take}
use Rattle.sim_base.specs.declared.numbering.DeclNo.{DeclNo}
use Rattle.sim_scope.specs.declared.types.Entry.{Entry}
use Rattle.sim_scope.specs.declared.types.Entry.TheVariants as entry
use Rattle.sim_scope.specs.declared.types.StandardClass.TheVariants as standard
use Rattle.sim_scope.specs.Levels.{base}
use Rattle.sim_scope.specs.Scopes.{class_formals, class_formals_of, entry_of, formals_at, formals_beyond, formals_in}
use Rattle.sim_scope.specs.Source.{Source}
use Rattle.sim_scope.specs.Tables.{BlockOf}
use Rattle.sim_code.specs.Instances.{Instance, live}
use Rattle.sim_meaning.specs.Entries.{numbers_in, numbers_of}
use Rattle.sim_meaning.specs.Levels.{both, has_levels, level_made, levels, levels_beyond, levels_from, levels_inside, levels_made, levels_of}
use Rattle.sim_meaning.specs.Objects.{attributes_from, cells_of_levels, with_attribute}
use Rattle.sim_meaning.specs.Pending.{Held, Instances, Key, Level}
use Rattle.sim_meaning.specs.Texts.{StandardText, Text, text}
use Rattle.sim_sound.specs.Held.{Among, InBound, first, later}
use Rattle.sim_sound.specs.Typed.{ClassTyped, Distinct, Ends, Typed, arrays_of_block, outermost, prefixed}
use Rattle.sim_sound.proofs.ArrayWork.{arrays_are}
use Rattle.sim_sound.proofs.Attributes.{Leveled, leveled}
use Rattle.sim_sound.proofs.Lists.{no_some, same_some}
use Rattle.sim_sound.proofs.Prefixes.{LevelOf, class_has, class_solid, level_has, level_of_levels, levels_solid, prefix_level, same_level}
use Rattle.sim_sound.proofs.Running.{StoreFine}
use Rattle.sim_sound.proofs.Sound.{EntryIsArray, LevelsFine, ProcessText}
use Rattle.sim_sound.proofs.Values.{AllArrays, KeyAmong, first_key, key_of, later_key, own_cells, own_text}

-- ---- lists of declarations

none_more : {A : Type 0} (xs : List A) → xs ++ [] ≡ xs
none_more [] = refl
none_more (x ∷ xs) = ap (λ z. x ∷ z) (none_more xs)

append_then : {A : Type 0} (xs ys zs : List A) → (xs ++ ys) ++ zs ≡ xs ++ (ys ++ zs)
append_then [] ys zs = refl
append_then (x ∷ xs) ys zs = ap (λ z. x ∷ z) (append_then xs ys zs)

among_left : (d : DeclNo) (xs ys : List DeclNo) → Among d xs → Among d (xs ++ ys)
among_left d [] ys a = elim a [ ]
among_left _ (x ∷ xs) ys first = first
among_left d (x ∷ xs) ys (later a) = later (among_left d xs ys a)

among_right : (d : DeclNo) (xs ys : List DeclNo) → Among d ys → Among d (xs ++ ys)
among_right d [] ys a = a
among_right d (x ∷ xs) ys a = later (among_right d xs ys a)

among_either : (d : DeclNo) (xs ys : List DeclNo) → Among d (xs ++ ys) → Among d xs ⊎ Among d ys
among_either d [] ys a = inr a
among_either _ (x ∷ xs) ys first = inl first
among_either d (x ∷ xs) ys (later a) = ⊎_elim (λ l. inl (later l)) (λ r. inr r) (among_either d xs ys a)

distinct_both : (xs ys : List DeclNo) → Distinct xs → Distinct ys → ((d : DeclNo) → Among d xs → Among d ys → ⊥) → Distinct (xs ++ ys)
distinct_both [] ys a b apart = b
distinct_both (x ∷ xs) ys a b apart = ((λ q. ⊎_elim (λ l. a.0 l) (λ r. apart x first r) (among_either x xs ys q)), distinct_both xs ys a.1 b (λ d l r. apart d (later l) r))

pub distinct_right : (xs ys : List DeclNo) → Distinct (xs ++ ys) → Distinct ys
distinct_right [] ys a = a
distinct_right (x ∷ xs) ys a = distinct_right xs ys a.1

distinct_cross : (xs ys : List DeclNo) → Distinct (xs ++ ys) → (d : DeclNo) → Among d xs → Among d ys → ⊥
distinct_cross [] ys a d l r = elim l [ ]
distinct_cross (x ∷ xs) ys a _ first r = a.0 (among_right x xs ys r)
distinct_cross (x ∷ xs) ys a d (later l) r = distinct_cross xs ys a.1 d l r

-- ---- levels

-- a level of a text as the text of its class or of its block says
pub record LevelIs (s : Source) (k : ℕ) (x : Level) : Type 0 where
  pub level : LevelOf s k x.text
  pub has : has_levels (text s x.text) ≡ true
  pub words : Text
  pub is : text s x.text ≡ Some words
  pub own : own_cells s x.text words ≡ attributes_from s (numbers_of s x.text)
  pub typed : ClassTyped s x.text x.declarations x.statements
  pub of_process : x.process ≡ true → text s x.text ≡ Some (StandardText standard.Process)
  pub to_process : text s x.text ≡ Some (StandardText standard.Process) → x.process ≡ true

abbrev pub LevelsAre : Source → (text : ℕ) → List Level → Type 0
LevelsAre s k [] = Unit {0}
LevelsAre s k (x ∷ xs) = LevelIs s k x × LevelsAre s k xs

-- the class `process` is a level of processes alone
abbrev pub ProcessLevels : Source → (text : ℕ) → Type 0
ProcessLevels s t = (u : ℕ) → text s u ≡ Some (StandardText standard.Process) → LevelOf s t u → ProcessText s t

pub data LevelIn (x : Level) : List Level → Type 0 where
  here_level : {xs : List Level} → LevelIn x (x ∷ xs)
  later_level : {y : Level} {xs : List Level} → LevelIn x xs → LevelIn x (y ∷ xs)

pub level_among : (s : Source) (k : ℕ) (x : Level) (xs : List Level) → LevelsAre s k xs → LevelIn x xs → LevelIs s k x
level_among s k x [] a i = elim i [ ]
level_among s k _ (y ∷ xs) a here_level = a.0
level_among s k x (y ∷ xs) a (later_level i) = level_among s k x xs a.1 i

in_left : (x : Level) (xs ys : List Level) → LevelIn x xs → LevelIn x (xs ++ ys)
in_left x [] ys i = elim i [ ]
in_left _ (y ∷ xs) ys here_level = here_level
in_left x (y ∷ xs) ys (later_level i) = later_level (in_left x xs ys i)

in_last : (x : Level) (xs : List Level) → LevelIn x (xs ++ x ∷ [])
in_last x [] = here_level
in_last x (y ∷ xs) = later_level (in_last x xs)

are_more : (s : Source) (k : ℕ) (xs : List Level) (x : Level) → LevelsAre s k xs → LevelIs s k x → LevelsAre s k (xs ++ x ∷ [])
are_more s k [] x a i = (i, tt)
are_more s k (y ∷ xs) x a i = (a.0, are_more s k xs x a.1 i)

are_up : (s : Source) (k b : ℕ) → base s.tables k ≡ Some b → (xs : List Level) → LevelsAre s b xs → LevelsAre s k xs
are_up s k b e [] a = tt
are_up s k b e (x ∷ xs) a = let i = a.0 in (record { level = prefix_level e i.level; has = i.has; words = i.words; is = i.is; own = i.own; typed = i.typed; of_process = i.of_process; to_process = i.to_process }, are_up s k b e xs a.1)

-- those inside a level
inside_if : (s : Source) (k : ℕ) (b : Bool) (xs ys : List Level) → LevelsAre s k xs → LevelsAre s k ys → LevelsAre s k (if b then xs else ys)
inside_if s k true xs ys a b = a
inside_if s k false xs ys a b = b

pub inside_are : (s : Source) (k u : ℕ) (xs : List Level) → LevelsAre s k xs → LevelsAre s k (levels_inside u xs)
inside_are s k u [] a = tt
inside_are s k u (x ∷ xs) a = inside_if s k (x.text == u) xs (levels_inside u xs) a.1 (inside_are s k u xs a.1)

-- what they declare, and which arrays
abbrev pub numbers_of_levels : Source → List Level → List DeclNo
numbers_of_levels s [] = []
numbers_of_levels s (x ∷ xs) = numbers_of s x.text ++ numbers_of_levels s xs

abbrev pub arrays_of_levels : Source → List Level → List DeclNo
arrays_of_levels s [] = []
arrays_of_levels s (x ∷ xs) = arrays_of_block s x.declarations ++ arrays_of_levels s xs

numbers_append : (s : Source) (xs ys : List Level) → numbers_of_levels s (xs ++ ys) ≡ numbers_of_levels s xs ++ numbers_of_levels s ys
numbers_append s [] ys = refl
numbers_append s (x ∷ xs) ys = ap (λ z. numbers_of s x.text ++ z) (numbers_append s xs ys) ∙ sym (append_then (numbers_of s x.text) (numbers_of_levels s xs) (numbers_of_levels s ys))

pub number_from : (s : Source) (d : DeclNo) (xs : List Level) → Among d (numbers_of_levels s xs) → (x : Level) × LevelIn x xs × Among d (numbers_of s x.text)
number_from s d [] a = elim a [ ]
number_from s d (x ∷ xs) a = ⊎_elim (λ l. (x, here_level, l)) (λ r. let y = number_from s d xs r in (y.0, later_level y.1, y.2)) (among_either d (numbers_of s x.text) (numbers_of_levels s xs) a)

pub number_in : (s : Source) (d : DeclNo) (x : Level) (xs : List Level) → LevelIn x xs → Among d (numbers_of s x.text) → Among d (numbers_of_levels s xs)
number_in s d x [] i a = elim i [ ]
number_in s d _ (y ∷ xs) here_level a = among_left d (numbers_of s y.text) (numbers_of_levels s xs) a
number_in s d x (y ∷ xs) (later_level i) a = among_right d (numbers_of s y.text) (numbers_of_levels s xs) (number_in s d x xs i a)

pub arrays_in : (s : Source) (d : DeclNo) (x : Level) (xs : List Level) → LevelIn x xs → Among d (arrays_of_block s x.declarations) → Among d (arrays_of_levels s xs)
arrays_in s d x [] i a = elim i [ ]
arrays_in s d _ (y ∷ xs) here_level a = among_left d (arrays_of_block s y.declarations) (arrays_of_levels s xs) a
arrays_in s d x (y ∷ xs) (later_level i) a = among_right d (arrays_of_block s y.declarations) (arrays_of_levels s xs) (arrays_in s d x xs i a)

-- ---- their cells

with_append : (s : Source) (d : DeclNo) (e : Option Entry) (hs ks : List Held) → with_attribute s d e (hs ++ ks) ≡ with_attribute s d e hs ++ ks
with_append s d (Some (entry.Variable ty)) hs ks = refl
with_append s d (Some (entry.Constant ty)) hs ks = refl
with_append s d (Some (entry.Array ty n)) hs ks = refl
with_append s d (Some (entry.Formal f)) hs ks = refl
with_append s d (Some _) hs ks = refl
with_append s d None hs ks = refl

attributes_append : (s : Source) (ds es : List DeclNo) → attributes_from s (ds ++ es) ≡ attributes_from s ds ++ attributes_from s es
attributes_append s [] es = refl
attributes_append s (d ∷ ds) es = ap (with_attribute s d (entry_of s.tables d)) (attributes_append s ds es) ∙ with_append s d (entry_of s.tables d) (attributes_from s ds) (attributes_from s es)

pub cells_are : (s : Source) (xs : List Level) → cells_of_levels s xs ≡ attributes_from s (numbers_of_levels s xs)
cells_are s [] = refl
cells_are s (x ∷ xs) = ap (λ z. attributes_from s (numbers_of s x.text) ++ z) (cells_are s xs) ∙ sym (attributes_append s (numbers_of s x.text) (numbers_of_levels s xs))

key_left : (key : Key) (hs ks : List Held) → KeyAmong key (map key_of hs) → KeyAmong key (map key_of (hs ++ ks))
key_left key [] ks a = elim a [ ]
key_left _ (h ∷ hs) ks first_key = first_key
key_left key (h ∷ hs) ks (later_key a) = later_key (key_left key hs ks a)

key_right : (key : Key) (hs ks : List Held) → KeyAmong key (map key_of ks) → KeyAmong key (map key_of (hs ++ ks))
key_right key [] ks a = a
key_right key (h ∷ hs) ks a = later_key (key_right key hs ks a)

pub level_key : (s : Source) (key : Key) (x : Level) (xs : List Level) → LevelIn x xs → KeyAmong key (map key_of (attributes_from s (numbers_of s x.text))) → KeyAmong key (map key_of (attributes_from s (numbers_of_levels s xs)))
level_key s key x [] i a = elim i [ ]
level_key s key _ (y ∷ xs) here_level a =
    subst (λ z. KeyAmong key (map key_of z)) (sym (attributes_append s (numbers_of s y.text) (numbers_of_levels s xs))) (key_left key (attributes_from s (numbers_of s y.text)) (attributes_from s (numbers_of_levels s xs)) a)
level_key s key x (y ∷ xs) (later_level i) a =
    subst (λ z. KeyAmong key (map key_of z)) (sym (attributes_append s (numbers_of s y.text) (numbers_of_levels s xs))) (key_right key (attributes_from s (numbers_of s y.text)) (attributes_from s (numbers_of_levels s xs)) (level_key s key x xs i a))

module _ (s : Source) (ok : Typed s) where
  -- ---- their arrays

  pub level_arrays_are : (k : ℕ) (xs : List Level) → LevelsAre s k xs → (d : DeclNo) → Among d (arrays_of_levels s xs) → EntryIsArray s d
  level_arrays_are k [] a d q = elim q [ ]
  level_arrays_are k (x ∷ xs) a d q =
      ⊎_elim (λ l. arrays_are s (InBound x.text) x.declarations (a.0).typed.arrays d l) (λ r. level_arrays_are k xs a.1 d r) (among_either d (arrays_of_block s x.declarations) (arrays_of_levels s xs) q)

  level_arrays_own : (k : ℕ) (xs : List Level) → LevelsAre s k xs → (d : DeclNo) → Among d (arrays_of_levels s xs) → Among d (numbers_of_levels s xs)
  level_arrays_own k [] a d q = elim q [ ]
  level_arrays_own k (x ∷ xs) a d q =
      ⊎_elim (λ l. among_left d (numbers_of s x.text) (numbers_of_levels s xs) ((a.0).typed.own d l))
      (λ r. among_right d (numbers_of s x.text) (numbers_of_levels s xs) (level_arrays_own k xs a.1 d r)) (among_either d (arrays_of_block s x.declarations) (arrays_of_levels s xs) q)

  pub level_arrays_distinct : (k : ℕ) (xs : List Level) → LevelsAre s k xs → Distinct (numbers_of_levels s xs) → Distinct (arrays_of_levels s xs)
  level_arrays_distinct k [] a d = tt
  level_arrays_distinct k (x ∷ xs) a d =
      distinct_both (arrays_of_block s x.declarations) (arrays_of_levels s xs) (a.0).typed.distinct (level_arrays_distinct k xs a.1 (distinct_right (numbers_of s x.text) (numbers_of_levels s xs) d))
      (λ e l r. distinct_cross (numbers_of s x.text) (numbers_of_levels s xs) d e ((a.0).typed.own e l) (level_arrays_own k xs a.1 e r))

  -- an instance stands for each, and is a process where one is the class `process`
  pub levels_fine : (m : Instances) (i : ℕ) (y : Instance (List Held)) → live m i ≡ Some y → ProcessLevels s y.text → (xs : List Level) → LevelsAre s y.text xs → LevelsFine s m i y.text xs
  levels_fine m i y lives process [] a = tt
  levels_fine m i y lives process (x ∷ xs) a =
      let l = a.0 in
      (record { now = y; lives = lives; stands = own_text l.level }, l.typed.statements, (λ is. process x.text (l.of_process is) l.level), levels_fine m i y lives process xs a.1)

  pub process_levels : (o : AllArrays) (m : Instances) → StoreFine s o m → (i : ℕ) (y : Instance (List Held)) → live m i ≡ Some y → ProcessLevels s y.text
  process_levels o m store i y lives u is at =
      let w = store.simulations.joined i u y lives is at in
      let has : has_levels (text s y.text) ≡ true = level_of_levels s ok (store.instances i y lives).solid at (ap has_levels is) in
      record { block = w.level; simulates = (w.home).simulates; level = subst (LevelOf s y.text) w.is at; free = ((leveled s ok y.text has).typed).stays }

  -- ---- all levels of a class or a prefixed block

  abbrev MadeFrom : List ℕ → List Level → Type 0
  MadeFrom [] [] = Unit {0}
  MadeFrom [] (x ∷ xs) = ⊥
  MadeFrom (k ∷ ks) [] = ⊥
  MadeFrom (k ∷ ks) (x ∷ xs) = (level_made s k (text s k) ≡ Some x) × MadeFrom ks xs

  made_is : (ks : List ℕ) (xs : List Level) → MadeFrom ks xs → levels_made s ks ≡ Some xs
  made_is [] [] a = refl
  made_is [] (x ∷ xs) a = absurd a
  made_is (k ∷ ks) [] a = absurd a
  made_is (k ∷ ks) (x ∷ xs) a = ap (λ z. both z (levels_made s ks)) a.0 ∙ ap (both (Some x)) (made_is ks xs a.1)

  made_more : (ks : List ℕ) (xs : List Level) (k : ℕ) (x : Level) → MadeFrom ks xs → level_made s k (text s k) ≡ Some x → MadeFrom (ks ++ k ∷ []) (xs ++ x ∷ [])
  made_more [] [] k x a e = (e, tt)
  made_more [] (y ∷ ys) k x a e = absurd a
  made_more (j ∷ ks) [] k x a e = absurd a
  made_more (j ∷ ks) (y ∷ ys) k x a e = (a.0, made_more ks ys k x a.1 e)

  abbrev own : (k : ℕ) → Leveled s ok k → Level
  own k w = record { text = k; declarations = w.declarations; statements = w.statements; inner_last = w.last; process = w.process }

  own_is : (k : ℕ) → has_levels (text s k) ≡ true → (w : Leveled s ok k) → LevelIs s k (own k w)
  own_is k has w = record { level = same_level; has = has; words = w.words; is = w.is; own = w.own; typed = w.typed; of_process = w.of_process; to_process = w.to_process }

  own_made : (k : ℕ) (w : Leveled s ok k) → level_made s k (text s k) ≡ Some (own k w)
  own_made k w = ap (level_made s k) w.is ∙ w.made

  pub record AllLevels (n k : ℕ) : Type 0 where
    pub list : List Level
    pub made : MadeFrom (levels_from s.tables n k) list
    pub are : LevelsAre s k list
    pub covers : (u : ℕ) → LevelOf s k u → (x : Level) × (x.text ≡ u) × LevelIn x list
    pub distinct : Distinct (numbers_of_levels s list)

  covers_one : (k : ℕ) (x : Level) → x.text ≡ k → base s.tables k ≡ None → (u : ℕ) → LevelOf s k u → (y : Level) × (y.text ≡ u) × LevelIn y (x ∷ [])
  covers_one k x same none _ same_level = (x, same, here_level)
  covers_one k x same none u (prefix_level {b = b} e at) = absurd (no_some (base s.tables k) b none e)

  covers_more : (k b : ℕ) (x : Level) (xs : List Level) → x.text ≡ k → base s.tables k ≡ Some b → ((u : ℕ) → LevelOf s b u → (y : Level) × (y.text ≡ u) × LevelIn y xs) → (u : ℕ) → LevelOf s k u → (y : Level) × (y.text ≡ u) × LevelIn y (xs ++ x ∷ [])
  covers_more k b x xs same e go _ same_level = (x, same, in_last x xs)
  covers_more k b x xs same e go u (prefix_level {b = c} f at) =
      let y = go u (subst (λ z. LevelOf s z u) (same_some (base s.tables k) c b f e) at) in
      (y.0, y.1, in_left y.0 xs (x ∷ []) y.2)

  all_levels : (n k : ℕ) → Ends s.tables n k → has_levels (text s k) ≡ true → AllLevels n k
  all_levels zero k ends has = elim ends [ ]
  all_levels (suc n) k (outermost none) has =
      let w = leveled s ok k has in
      record {
        list = own k w ∷ [];
        made = subst (λ z. MadeFrom (levels_beyond (levels_from s.tables n) z ++ k ∷ []) (own k w ∷ [])) (sym none) (own_made k w, tt);
        are = (own_is k has w, tt);
        covers = covers_one k (own k w) refl none;
        distinct = subst Distinct (sym (none_more (numbers_of s k))) (w.typed).different;
      }
  all_levels (suc n) k (prefixed {b = b} e ends) has =
      let w = leveled s ok k has in
      let p = (ok.prefixes).prefixed_by k b (levels_solid (text s k) has) e in
      let r = all_levels n b ends (class_has s ok b p.prefix) in
      let apart : (d : DeclNo) → Among d (numbers_of_levels s r.list) → Among d (numbers_of s k ++ []) → ⊥ = λ d l q. (
      let y = number_from s d r.list l in
      let i = level_among s b y.0 r.list r.are y.1 in
      (ok.prefixes).apart k b (y.0).text d (levels_solid (text s k) has) e (level_has s ok b (y.0).text (class_solid (text s b) p.prefix) i.level) y.2 (subst (Among d) (none_more (numbers_of s k)) q)) in
      record {
        list = r.list ++ own k w ∷ [];
        made = subst (λ z. MadeFrom (levels_beyond (levels_from s.tables n) z ++ k ∷ []) (r.list ++ own k w ∷ [])) (sym e) (made_more (levels_from s.tables n b) r.list k (own k w) r.made (own_made k w));
        are = are_more s k r.list (own k w) (are_up s k b e r.list r.are) (own_is k has w);
        covers = covers_more k b (own k w) r.list refl e r.covers;
        distinct = subst Distinct (sym (numbers_append s r.list (own k w ∷ []))) (distinct_both (numbers_of_levels s r.list) (numbers_of s k ++ []) r.distinct (subst Distinct (sym (none_more (numbers_of s k))) (w.typed).different) apart);
      }

  pub all_levels_of : (k : ℕ) → has_levels (text s k) ≡ true → AllLevels (length s.tables.blocks) k
  all_levels_of k has = all_levels (length s.tables.blocks) k ((ok.prefixes).ends k (levels_solid (text s k) has)) has

  pub levels_are : (k : ℕ) (has : has_levels (text s k) ≡ true) → levels s k ≡ Some (all_levels_of k has).list
  unfolding levels levels_of
  levels_are k has = made_is (levels_from s.tables (length s.tables.blocks) k) (all_levels_of k has).list (all_levels_of k has).made

  -- ---- the formal parameters of all levels

  taken_among : (n : ℕ) (d : DeclNo) (xs : List DeclNo) → Among d (take n xs) → Among d xs
  taken_among zero d xs a = elim a [ ]
  taken_among (suc n) d [] a = elim a [ ]
  taken_among (suc n) _ (x ∷ xs) first = first
  taken_among (suc n) d (x ∷ xs) (later a) = later (taken_among n d xs a)

  block_among : (d : DeclNo) (b : Option BlockOf) → Among d (formals_in b) → Among d (numbers_in b)
  block_among d None a = a
  block_among d (Some b) a = taken_among b.formals d b.numbers a

  abbrev beyond : ℕ → Option ℕ → List DeclNo
  beyond n o = formals_beyond (λ b. class_formals_of s.tables n b) o

  abbrev FromLevel : ℕ → DeclNo → Type 0
  FromLevel k d = (u : ℕ) × LevelOf s k u × Among d (numbers_of s u)

  formals_from : (n k : ℕ) → Ends s.tables n k → (d : DeclNo) → Among d (class_formals_of s.tables n k) → FromLevel k d
  unfolding class_formals_of
  formals_from zero k ends d a = elim ends [ ]
  formals_from (suc n) k (outermost none) d a = ⊎_elim (λ l. nothing (subst (λ z. Among d (beyond n z)) none l)) (λ r. (k, same_level, block_among d (slice_get s.tables.blocks k) r)) (among_either d (beyond n (base s.tables k)) (formals_at s.tables (Some k)) a)
    where
      nothing : Among d [] → FromLevel k d
      nothing q = elim q [ ]
  formals_from (suc n) k (prefixed {b = b} e ends) d a =
      ⊎_elim (λ l. let r = formals_from n b ends d (subst (λ z. Among d (beyond n z)) e l) in (r.0, prefix_level e r.1, r.2)) (λ r. (k, same_level, block_among d (slice_get s.tables.blocks k) r)) (among_either d (beyond n (base s.tables k)) (formals_at s.tables (Some k)) a)

  -- however many levels are looked at, where they come to an end
  formals_same : (n m k : ℕ) → Ends s.tables n k → Ends s.tables m k → class_formals_of s.tables n k ≡ class_formals_of s.tables m k
  unfolding class_formals_of
  formals_same zero m k x y = elim x [ ]
  formals_same (suc n) zero k x y = elim y [ ]
  formals_same (suc n) (suc m) k (outermost none) (outermost other) = ap (λ z. beyond n z ++ formals_at s.tables (Some k)) none ∙ sym (ap (λ z. beyond m z ++ formals_at s.tables (Some k)) none)
  formals_same (suc n) (suc m) k (outermost none) (prefixed {b = b} e y) = absurd (no_some (base s.tables k) b none e)
  formals_same (suc n) (suc m) k (prefixed {b = b} e x) (outermost none) = absurd (no_some (base s.tables k) b none e)
  formals_same (suc n) (suc m) k (prefixed {b = b} e x) (prefixed {b = c} f y) =
      ap (λ z. beyond n z ++ formals_at s.tables (Some k)) e
      ∙ ap (λ z. z ++ formals_at s.tables (Some k)) (formals_same n m b x (subst (Ends s.tables m) (same_some (base s.tables k) c b f e) y))
      ∙ sym (ap (λ z. beyond m z ++ formals_at s.tables (Some k)) e)

  formals_up : (n k u : ℕ) → has_levels (text s k) ≡ true → Ends s.tables n k → LevelOf s k u → (d : DeclNo) → Among d (class_formals s.tables u) → Among d (class_formals_of s.tables n k)
  unfolding class_formals class_formals_of
  formals_up zero k u has ends at d a = elim ends [ ]
  formals_up (suc n) k _ has ends same_level d a = subst (Among d) (formals_same (length s.tables.blocks) (suc n) k ((ok.prefixes).ends k (levels_solid (text s k) has)) ends) a
  formals_up (suc n) k u has (outermost none) (prefix_level {b = b} e at) d a = absurd (no_some (base s.tables k) b none e)
  formals_up (suc n) k u has (prefixed {b = c} f ends) (prefix_level {b = b} e at) d a =
      let p = (ok.prefixes).prefixed_by k b (levels_solid (text s k) has) e in
      among_left d (beyond n (base s.tables k)) (formals_at s.tables (Some k)) (subst (λ z. Among d (beyond n z)) (sym e) (formals_up n b u (class_has s ok b p.prefix) (subst (Ends s.tables n) (same_some (base s.tables k) c b f e) ends) at d a))

  module _ (k : ℕ) (has : has_levels (text s k) ≡ true) where
    ends_here : Ends s.tables (length s.tables.blocks) k
    ends_here = (ok.prefixes).ends k (levels_solid (text s k) has)

    -- they are declared by its levels
    pub formals_among : (d : DeclNo) → Among d (class_formals s.tables k) → Among d (numbers_of_levels s (all_levels_of k has).list)
    unfolding class_formals
    formals_among d a =
        let f = formals_from (length s.tables.blocks) k ends_here d a in
        let y = (all_levels_of k has).covers f.0 f.1 in
        number_in s d y.0 (all_levels_of k has).list y.2 (subst (λ z. Among d (numbers_of s z)) (sym y.1) f.2)

    -- and all that its levels declare are among them
    pub level_formal : (u : ℕ) → LevelOf s k u → (d : DeclNo) → Among d (class_formals s.tables u) → Among d (class_formals s.tables k)
    unfolding class_formals
    level_formal u at d a = formals_up (length s.tables.blocks) k u has ends_here at d a
