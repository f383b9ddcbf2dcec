-- The arrays of a text are made one after the other.
use Rattle.std.proofs.Common.{◌≡◌, ℕ, zero, suc, false, List, [], ◌∷◌, ◌++◌, length, Option, Some, None, refl, sym, ap, ◌∙◌, subst, arith}
use Rattle.std.specs.Prelude.{◌*◌}
use Rattle.sim_base.specs.declared.numbering.DeclNo.{DeclNo}
use Rattle.sim_scope.specs.Scopes.{entry_of}
use Rattle.sim_scope.specs.Source.{Source, line_at}
use Rattle.sim_tree.specs.declared.expr.Identifier.{Identifier}
use Rattle.sim_tree.specs.Syntax.{Arrayed, Arrays, BoundPair, Declarations, DeclareClass, DeclareProcedure, Expression, NoDeclaration, Variables, With}
use Rattle.sim_values.specs.declared.kind.Kind.{Kind}
use Rattle.sim_values.specs.declared.kind.Kind.TheVariants as kind
use Rattle.sim_meaning.specs.Attributes.{is_connection}
use Rattle.sim_meaning.specs.Closing.{close}
use Rattle.sim_meaning.specs.Entries.{arrays_declared, arrays_of, bounds_of, first_array, further_arrays, numbers_of, segments_of}
use Rattle.sim_meaning.specs.Levels.{has_levels}
use Rattle.sim_meaning.specs.Pending.{ArrayOp, Declared, Do, Eval, Instances, Item, StoreOp, ToCell}
use Rattle.sim_meaning.specs.Texts.{Text, declared_at, kind_named, text}
use Rattle.sim_sound.specs.Expressions.{ExprIs}
use Rattle.sim_sound.specs.Held.{Among, ArrayOf, Holds, InBound, IsFixed, IsOfKind, Simply, entry_holds, first, key_holds, later}
use Rattle.sim_sound.specs.Typed.{ArrayIs, ArraysAre, ArraysTyped, BoundsAre, Distinct, SegmentsAre, SomeName, Typed, arrays_in_segments, arrays_named, arrays_of_block, of_option}
use Rattle.sim_sound.proofs.Closing.{expr_fine}
use Rattle.sim_sound.proofs.Prefixes.{LevelOf, level_solid}
use Rattle.sim_sound.proofs.Reach.{key_there}
use Rattle.sim_sound.proofs.Running.{Begun, WorkFine}
use Rattle.sim_sound.proofs.Sound.{EntryIsArray, array_stored, integers, own_made, simple}
use Rattle.sim_sound.proofs.Values.{AllArrays, KeyAmong, Kinds, Value, Waits, in_bound, keys_in}

-- ---- what is declared there is an array

is_array : (s : Source) (h : Holds) (x : Identifier) → ArrayIs s h x → (d : DeclNo) → declared_at s x.token.0 ≡ Some d → EntryIsArray s d
is_array s h x a d e =
    let same : a.declaration ≡ d = Rattle.sim_sound.proofs.Lists.same_some (declared_at s x.token.0) a.declaration d a.at e in
    subst (EntryIsArray s) same (a.element, a.dimensions, a.is)

named_are : (s : Source) (h : Holds) (xs : List Identifier) (more : List DeclNo) → ArraysAre s h xs → ((d : DeclNo) → Among d more → EntryIsArray s d) → (d : DeclNo) → Among d (arrays_named s xs more) → EntryIsArray s d
named_are s h [] more a f d among = f d among
named_are s h (x ∷ xs) more a f d among = by_option (λ z. named_are s h xs more a.1 f d z) (declared_at s x.token.0) refl among
  where
    by_option : (Among d (arrays_named s xs more) → EntryIsArray s d) → (o : Option DeclNo) → declared_at s x.token.0 ≡ o → Among d (of_option o (arrays_named s xs more)) → EntryIsArray s d
    by_option go None e z = go z
    by_option go (Some _) e first = is_array s h x a.0 d e
    by_option go (Some c) e (later z) = go z

segments_are : (s : Source) (h : Holds) (from : Rattle.sim_sound.specs.Held.Place) (as' : List Arrayed) (more : List DeclNo) → SegmentsAre s from h as' → ((d : DeclNo) → Among d more → EntryIsArray s d) → (d : DeclNo) → Among d (arrays_in_segments s as' more) → EntryIsArray s d
segments_are s h from [] more a f d among = f d among
segments_are s h from (p ∷ others) more a f d among = named_are s h p.names (arrays_in_segments s others more) a.3 (λ c z. segments_are s h from others more a.4 f c z) d among

pub arrays_are : (s : Source) (from : Rattle.sim_sound.specs.Held.Place) (ds : Declarations) → ArraysTyped s from ds → (d : DeclNo) → Among d (arrays_of_block s ds) → EntryIsArray s d
arrays_are s from NoDeclaration a d among = elim among [ ]
arrays_are s from (With (Arrays type token segments) ds) a d among = segments_are s a.0 from segments (arrays_of_block s ds) a.2 (λ c z. arrays_are s from ds a.3 c z) d among
arrays_are s from (With (Variables type vs) ds) a d among = arrays_are s from ds a d among
arrays_are s from (With (DeclareProcedure result token h body end) ds) a d among = arrays_are s from ds a d among
arrays_are s from (With (DeclareClass prefix token h interface body end) ds) a d among = arrays_are s from ds a d among

not_fixed : (s : Source) (d : DeclNo) → EntryIsArray s d → IsFixed (entry_of s.tables d) → ⊥
not_fixed s d a f = subst IsFixed a.2 f

named_append : (s : Source) (xs : List Identifier) (more rest : List DeclNo) → arrays_named s xs more ++ rest ≡ arrays_named s xs (more ++ rest)
named_append s [] more rest = refl
named_append s (x ∷ xs) more rest = option_append (declared_at s x.token.0) (arrays_named s xs more) ∙ ap (of_option (declared_at s x.token.0)) (named_append s xs more rest)
  where
    option_append : (o : Option DeclNo) (ds : List DeclNo) → of_option o ds ++ rest ≡ of_option o (ds ++ rest)
    option_append None ds = refl
    option_append (Some d) ds = refl

segments_append : (s : Source) (as' : List Arrayed) (more rest : List DeclNo) → arrays_in_segments s as' more ++ rest ≡ arrays_in_segments s as' (more ++ rest)
segments_append s [] more rest = refl
segments_append s (p ∷ others) more rest = named_append s p.names (arrays_in_segments s others more) rest ∙ ap (arrays_named s p.names) (segments_append s others more rest)

-- ---- they are made in an instance j of the text t, by its level k, where all of them are still to be made

module _ (s : Source) (ok : Typed s) (o : AllArrays) (m : Instances) (j t k : ℕ) (at : LevelOf s t k) (all : List DeclNo) (b : Begun s o m j t all) (x : Text) (is : text s k ≡ Some x) (solid : is_connection (text s t) ≡ false) (arrays : (d : DeclNo) → Among d all → EntryIsArray s d) (Below : Waits → Type 0) (Outermost : Type 0) where
  abbrev Wk : List Item → List DeclNo → List Kinds → Type 0
  Wk w todo ks = WorkFine s o m Below Outermost j t w todo ks

  -- these declarations are this level's own
  abbrev pub AllThere : List DeclNo → Type 0
  AllThere todo = (d : DeclNo) → Among d todo → Among d (numbers_of s k)

  bounds_eval : (e : Expression) (todo : List DeclNo) (w : List Item) (ks : List Kinds) → ExprIs s (InBound k) e (Simply kind.Integer) → Wk w todo (Value (Simply kind.Integer) ∷ ks) → Wk (Do (Eval (close s m j e)) ∷ w) todo ks
  bounds_eval e todo w ks a z =
      (todo, Value (Simply kind.Integer) ∷ ks, (simple kind.Integer, expr_fine s ok o m b.store j t todo (InBound k) (in_bound b.here b.own at (λ d f c. not_fixed s d (arrays d c) f) solid) e (Simply kind.Integer) a, refl, refl), z)

  integers_more : (n : ℕ) (ks : List Kinds) → integers n (Value (Simply kind.Integer) ∷ ks) ≡ Value (Simply kind.Integer) ∷ integers n ks
  integers_more zero ks = refl
  integers_more (suc n) ks = ap (λ z. Value (Simply kind.Integer) ∷ z) (integers_more n ks)

  two_more : (n : ℕ) (ks : List Kinds) → integers (2 * suc n) ks ≡ integers (2 * n) (Value (Simply kind.Integer) ∷ Value (Simply kind.Integer) ∷ ks)
  two_more n ks =
      let e : 2 * suc n ≡ suc (suc (2 * n)) = omega arith in
      ap (λ z. integers z ks) e ∙ ap (λ z. Value (Simply kind.Integer) ∷ z) (sym (integers_more (2 * n) ks)) ∙ sym (integers_more (2 * n) (Value (Simply kind.Integer) ∷ ks))

  bounds_work : (bs : List BoundPair) (todo : List DeclNo) (w : List Item) (ks : List Kinds) → BoundsAre s (InBound k) bs → Wk w todo (integers (2 * length bs) ks) → Wk (bounds_of s m j bs w) todo ks
  bounds_work [] todo w ks a z = z
  bounds_work (p ∷ bs) todo w ks a z =
      bounds_eval p.lower todo (Do (Eval (close s m j p.upper)) ∷ bounds_of s m j bs w) ks a.0
      (bounds_eval p.upper todo (bounds_of s m j bs w) (Value (Simply kind.Integer) ∷ ks) a.1
      (bounds_work bs todo w (Value (Simply kind.Integer) ∷ Value (Simply kind.Integer) ∷ ks) a.2 (subst (λ y. Wk w todo y) (two_more (length bs) ks) z)))

  -- what its cell holds, and that it is there
  array_holds : (h : Holds) (n : Identifier) (a : ArrayIs s h n) → key_holds s k (Declared (a.declaration).0) ≡ Some (ArrayOf h)
  array_holds h n a = ap (entry_holds s (has_levels (text s k))) a.is ∙ ap (λ z. Some (ArrayOf z)) a.holds

  array_key : (h : Holds) (n : Identifier) (a : ArrayIs s h n) → Among a.declaration (numbers_of s k) → KeyAmong (Declared (a.declaration).0) (keys_in s k (text s k))
  array_key h n a among = key_there s ok k x a.declaration (ArrayOf h) (has_levels (text s k)) (level_solid s ok solid at) is (array_holds h n a) among

  stored_work : (d : DeclNo) (h : Holds) (todo : List DeclNo) (w : List Item) → key_holds s k (Declared d.0) ≡ Some (ArrayOf h) → KeyAmong (Declared d.0) (keys_in s k (text s k)) → Wk w todo [] → Wk (Do (StoreOp (ToCell j (Declared d.0))) ∷ w) (d ∷ todo) (Value (ArrayOf h) ∷ [])
  stored_work d h todo w holds there z = (todo, [], array_stored (record { declaration = d; element = h; level = k; of_level = at; is = refl; holds = holds; there = there; waits = refl; «in» = refl }), z)

  named_later : (n : Identifier) (xs : List Identifier) (more : List DeclNo) (c d : DeclNo) → declared_at s n.token.0 ≡ Some d → Among c (arrays_named s xs more) → Among c (arrays_named s (n ∷ xs) more)
  named_later n xs more c d e z = subst (λ y. Among c (of_option y (arrays_named s xs more))) (sym e) (later z)

  further_work : (f : DeclNo) (h : Holds) (xs : List Identifier) (mine more : List DeclNo) (w : List Item) → key_holds s k (Declared f.0) ≡ Some (ArrayOf h) → KeyAmong (Declared f.0) (keys_in s k (text s k)) → ArraysAre s h xs → (Among f (arrays_named s xs more) → ⊥) → AllThere (arrays_named s xs mine) → Wk w more [] → Wk (further_arrays s j f xs w) (arrays_named s xs more) []
  further_work f h [] mine more w holds there a absent all z = z
  further_work f h (n ∷ xs) mine more w holds there a absent all z =
      let d = (a.0).declaration in
      let behind = further_work f h xs mine more w holds there a.1 (λ y. absent (named_later n xs more f (a.0).declaration (a.0).at y)) (λ c y. all c (named_later n xs mine c (a.0).declaration (a.0).at y)) z in
      rw (a.0).at ((
        d ∷ arrays_named s xs more,
        Value (ArrayOf h) ∷ [],
        (Some (Value (ArrayOf h)), (ArrayOf h, (ArrayOf h, refl, refl), own_made refl refl at holds there (λ y. absent (rw (a.0).at y))), refl, refl),
        (
          d ∷ arrays_named s xs more,
          Value (ArrayOf h) ∷ [],
          (h, [], Value (ArrayOf h), refl, refl, refl, refl),
          stored_work d h (arrays_named s xs more) (further_arrays s j f xs w) (array_holds h n a.0) (array_key h n a.0 (all d (rw (a.0).at first))) behind,
        ),
      ))

  arrays_work : (kd : Kind) (h : Holds) → IsOfKind h kd → (n : ℕ) (xs : List Identifier) (mine more : List DeclNo) (w : List Item) → SomeName xs → ArraysAre s h xs → Distinct (arrays_named s xs more) → AllThere (arrays_named s xs mine) → Wk w more [] → Wk (arrays_of s j kd n xs w) (arrays_named s xs more) (integers (2 * n) [])
  arrays_work kd h of n [] mine more w some a apart all z = absurd some
  arrays_work kd h of n (y ∷ xs) mine more w some a apart all z =
      let d = (a.0).declaration in
      let e = (a.0).at in
      let apart' : Distinct (d ∷ arrays_named s xs more) = subst (λ q. Distinct (of_option q (arrays_named s xs more))) e apart in
      let all' : AllThere (d ∷ arrays_named s xs mine) = subst (λ q. AllThere (of_option q (arrays_named s xs mine))) e all in
      let there = array_key h y a.0 (all' d first) in
      let behind = further_work d h xs mine more w (array_holds h y a.0) there a.1 apart'.0 (λ c q. all' c (later q)) z in
      subst (λ q. Wk (Do (ArrayOp kd n (line_at s y.token.0)) ∷ first_array s j q xs w) (of_option q (arrays_named s xs more)) (integers (2 * n) [])) (sym e)
      (d ∷ arrays_named s xs more, Value (ArrayOf h) ∷ [], (h, [], of, refl, refl, refl), stored_work d h (arrays_named s xs more) (further_arrays s j d xs w) (array_holds h y a.0) there behind)

  named_apart : (xs : List Identifier) (more : List DeclNo) → Distinct (arrays_named s xs more) → Distinct more
  named_apart [] more a = a
  named_apart (x ∷ xs) more a = named_apart xs more (of_apart (declared_at s x.token.0) a)
    where
      of_apart : (e : Option DeclNo) → Distinct (of_option e (arrays_named s xs more)) → Distinct (arrays_named s xs more)
      of_apart None a = a
      of_apart (Some d) a = a.1

  named_all : (xs : List Identifier) (more : List DeclNo) → AllThere (arrays_named s xs more) → AllThere more
  named_all [] more a = a
  named_all (x ∷ xs) more a = named_all xs more (of_all (declared_at s x.token.0) a)
    where
      of_all : (e : Option DeclNo) → AllThere (of_option e (arrays_named s xs more)) → AllThere (arrays_named s xs more)
      of_all None a = a
      of_all (Some d) a = λ c z. a c (later z)

  segments_work : (kd : Kind) (h : Holds) → IsOfKind h kd → (as' : List Arrayed) (mine more : List DeclNo) (w : List Item) → SegmentsAre s (InBound k) h as' → Distinct (arrays_in_segments s as' more) → AllThere (arrays_in_segments s as' mine) → Wk w more [] → Wk (segments_of s m j kd as' w) (arrays_in_segments s as' more) []
  segments_work kd h of [] mine more w a apart all z = z
  segments_work kd h of (p ∷ others) mine more w a apart all z =
      let tail = arrays_in_segments s others more in
      bounds_work p.bounds (arrays_named s p.names tail) (arrays_of s j kd (length p.bounds) p.names (segments_of s m j kd others w)) [] a.0
      (arrays_work kd h of (length p.bounds) p.names (arrays_in_segments s others mine) tail (segments_of s m j kd others w) a.2 a.3 apart all
      (segments_work kd h of others mine more w a.4 (named_apart p.names tail apart) (named_all p.names (arrays_in_segments s others mine) all) z))

  segments_apart : (as' : List Arrayed) (more : List DeclNo) → Distinct (arrays_in_segments s as' more) → Distinct more
  segments_apart [] more a = a
  segments_apart (p ∷ others) more a = segments_apart others more (named_apart p.names (arrays_in_segments s others more) a)

  segments_all : (as' : List Arrayed) (more : List DeclNo) → AllThere (arrays_in_segments s as' more) → AllThere more
  segments_all [] more a = a
  segments_all (p ∷ others) more a = segments_all others more (named_all p.names (arrays_in_segments s others more) a)

  pub level_arrays : (ds : Declarations) (more : List DeclNo) (w : List Item) → ArraysTyped s (InBound k) ds → Distinct (arrays_of_block s ds ++ more) → AllThere (arrays_of_block s ds) → Wk w more [] → Wk (arrays_declared s m j ds w) (arrays_of_block s ds ++ more) []
  level_arrays NoDeclaration more w a apart all z = z
  level_arrays (With (Variables type vs) ds) more w a apart all z = level_arrays ds more w a apart all z
  level_arrays (With (Arrays type token segments) ds) more w a apart all z =
      let mine = arrays_of_block s ds in
      let next = segments_append s segments mine more in
      let apart' : Distinct (arrays_in_segments s segments (mine ++ more)) = subst Distinct next apart in
      subst (λ q. Wk (segments_of s m j (kind_named type) segments (arrays_declared s m j ds w)) q []) (sym next)
      (segments_work (kind_named type) a.0 a.1 segments mine (mine ++ more) (arrays_declared s m j ds w) a.2 apart' all
      (level_arrays ds more w a.3 (segments_apart segments (mine ++ more) apart') (segments_all segments mine all) z))
  level_arrays (With (DeclareProcedure result token h body end) ds) more w a apart all z = level_arrays ds more w a apart all z
  level_arrays (With (DeclareClass prefix token h interface body end) ds) more w a apart all z = level_arrays ds more w a apart all z

  -- where no others wait
  none_more : (ds : List DeclNo) → ds ++ [] ≡ ds
  none_more [] = refl
  none_more (d ∷ ds) = ap (λ z. d ∷ z) (none_more ds)

  pub block_arrays : (ds : Declarations) (w : List Item) → ArraysTyped s (InBound k) ds → Distinct (arrays_of_block s ds) → AllThere (arrays_of_block s ds) → Wk w [] [] → Wk (arrays_declared s m j ds w) (arrays_of_block s ds) []
  block_arrays ds w a apart all z =
      let same = none_more (arrays_of_block s ds) in
      subst (λ q. Wk (arrays_declared s m j ds w) q []) same (level_arrays ds [] w a (subst Distinct (sym same) apart) all z)
