-- In the tables that are built each class has its block, once the block is open.
use Rattle.std.proofs.Common.{◌≡◌, ◌<◌, ◌≤◌, ◌+◌, ℕ, zero, suc, Bool, true, false, List, [], ◌∷◌, ◌++◌, length, map, Option, Some, None, refl, sym, ap, ◌∙◌, arith, if◌then◌else◌}
use Rattle.std.proofs.lemmas.List.{length-append}
use Rattle.std.specs.Prelude.{◌&&◌, nat_eq, nat_lt, not, slice_get, slice_set}
use Rattle.std.specs.List.{list_any}
use Rattle.std.specs.Str.{bytes_eq}
use Rattle.sim_base.specs.declared.numbering.DeclNo.{DeclNo}
use Rattle.sim_base.specs.declared.numbering.TokenNo.{TokenNo}
use Rattle.sim_base.specs.declared.rule.Rule.{Rule}
use Rattle.sim_base.specs.declared.rule.Rule.TheVariants as r
use Rattle.sim_tree.specs.declared.expr.Identifier.{Identifier}
use Rattle.sim_values.specs.declared.standard.Standard.{Standard}
use Rattle.sim_scope.specs.declared.scopes.Declaration.{Declaration}
use Rattle.sim_scope.specs.declared.types.BlockKind.{BlockKind}
use Rattle.sim_scope.specs.declared.types.Entry.{Entry}
use Rattle.sim_scope.specs.declared.types.Entry.TheVariants as entry
use Rattle.sim_scope.specs.declared.types.FormalKind.{FormalKind}
use Rattle.sim_scope.specs.declared.types.Mode.{Mode}
use Rattle.sim_scope.specs.declared.types.SimType.{SimType}
use Rattle.sim_scope.specs.declared.types.StandardClass.{StandardClass}
use Rattle.sim_scope.specs.declared.types.WrittenMode.{WrittenMode}
use Rattle.sim_scope.specs.Building.{Breaks, Brings, BuildingOf, Closes, Declares, DeclaresClass, DeclaresProcedure, Headed, Inner, Mark, Moded, Opens, Parameter, Prefixes, Protects, Provides, Qualifies, Specified, block_around, broken, broken_if, brings, brings_at, brings_new, changed, changed_row, closed, closed_at, counted, counted_in, counting, declared, declared_again, declared_at, declared_inside, declared_new, declared_twice, entered, first_brought, formal, found_in, guards, guards_at, headed, holding_class, in_class, inner, inner_at, inner_in, is_by_name, is_match, is_procedure, level_in, marked, matched, matching, mode_allowed, moded, moded_as, most_declarations, most_levels, name_of, place_of, prefixed_by, provided_alone, provided_in, provides, provides_in, qualified, row_matching, specified, specified_as, token_in, unspecified_at, unspecified_in, with_brought, with_entry, with_mode}
use Rattle.sim_scope.specs.Laws.{shape_of}
use Rattle.sim_scope.specs.Levels.{class_block, class_block_in}
use Rattle.sim_scope.specs.Runs.{run}
use Rattle.sim_scope.specs.Scopes.{declared_in, entry_of}
use Rattle.sim_scope.specs.Standard.{attribute_name}
use Rattle.sim_scope.specs.Tables.{BlockOf, Tables}
use Rattle.sim_scope.proofs.Quiet.{Quiet, quiet_stays}

-- the block of the class that a row declares
abbrev pub class_at : Option Declaration → Option ℕ
class_at None = None
class_at (Some row) = class_block_in (Some row.entry)

-- the class that is declared, if one is, has one of the first blocks
abbrev pub Fits : ℕ → Entry → Type 0
Fits n e = (k : ℕ) → class_block_in (Some e) ≡ Some k → k < n

abbrev pub In : ℕ → List Declaration → Type 0
In n ds = (i k : ℕ) → class_at (slice_get ds i) ≡ Some k → k < n

pub in_more : (n : ℕ) (ds : List Declaration) (x : Declaration) → In n ds → Fits n x.entry → In n (ds ++ x ∷ [])
in_more n [] x h new zero k e = new k e
in_more n [] x h new (suc i) k e = absurd (cc)
in_more n (y ∷ ds) x h new zero k e = h zero k e
in_more n (y ∷ ds) x h new (suc i) k e = in_more n ds x (λ i k e. h (suc i) k e) new i k e

pub in_set : (n : ℕ) (ds : List Declaration) (j : ℕ) (x : Declaration) → In n ds → Fits n x.entry → In n (slice_set ds j x)
in_set n [] j x h new i k e = h i k e
in_set n (y ∷ ds) zero x h new zero k e = new k e
in_set n (y ∷ ds) zero x h new (suc i) k e = h (suc i) k e
in_set n (y ∷ ds) (suc j) x h new zero k e = h zero k e
in_set n (y ∷ ds) (suc j) x h new (suc i) k e = in_set n ds j x (λ i k e. h (suc i) k e) new i k e

in_up : (m n : ℕ) (ds : List Declaration) → m ≤ n → In m ds → In n ds
in_up m n ds le h i k e = let less = h i k e in omega arith

pub length_set : {A : Type 0} (xs : List A) (j : ℕ) (x : A) → length (slice_set xs j x) ≡ length xs
length_set [] j x = refl
length_set (y ∷ xs) zero x = refl
length_set (y ∷ xs) (suc j) x = let deep = length_set xs j x in omega arith

length_map : {A B : Type 0} (f : A → B) (xs : List A) → length (map f xs) ≡ length xs
length_map f [] = refl
length_map f (x ∷ xs) = let deep = length_map f xs in omega arith

pub class_of_row : (s : Tables) (d : DeclNo) → class_block s d ≡ class_at (slice_get s.declarations d.0)
unfolding class_block
class_of_row s d = go (slice_get s.declarations d.0)
  where
    go : (o : Option Declaration) → class_block_in (elim o [ None ↦ None | Some row ↦ Some row.entry ]) ≡ class_at o
    go None = refl
    go (Some row) = refl

abbrev Are : ℕ → BuildingOf → Type 0
Are n b = In n b.tables.declarations

matching_fits : (n : ℕ) (e : Entry) (d : DeclNo) → Fits n e → Fits n (matching e d)
matching_fits n (entry.Virtual result own) d h = λ k is. absurd (cc)
matching_fits n e d h = h

module _ {n : ℕ} where
  if_broken : (c : Bool) (b : BuildingOf) (token : ℕ) (rule : Rule) → Are n b → Are n (broken_if c b token rule)
  if_broken true b token rule h = h
  if_broken false b token rule h = h

  if_are : (c : Bool) (b m : BuildingOf) → Are n b → Are n m → Are n (if c then b else m)
  if_are true b m h g = h
  if_are false b m h g = g

  counting_are : (b : BuildingOf) (x : Identifier) → Are n b → Are n (counting b x)
  counting_are b x h = if_broken (nat_eq b.own most_declarations) (record b { own = b.own + 1 }) x.token.0 r.TooManyDeclarations h

  matching_are : (ds : List Declaration) (d : DeclNo) (i : ℕ) (o : Option Declaration) → slice_get ds i ≡ o → In n ds → In n (row_matching o d ds i)
  matching_are ds d i None at h = h
  matching_are ds d i (Some row) at h =
      in_set n ds i (record row { entry = matching row.entry d }) h (matching_fits n row.entry d (λ k e. h i k (ap class_at at ∙ e)))

  again_are : (b : BuildingOf) (x : Identifier) (e : Entry) (block : ℕ) (o : Option DeclNo) → Fits n e → Are n b → Are n (declared_again b x e block o)
  again_are b x e block None fits h = h
  again_are b x e block (Some d) fits h = go (is_match e (entry_of b.tables d))
    where
      go : (z : Bool) → Are n (if z then matched b x e block d else declared_twice b x (Some d))
      go true = counting_are _ x (in_more n _ _ (matching_are b.tables.declarations _ d.0 (slice_get b.tables.declarations d.0) refl h) fits)
      go false = h

  declared_row : (b : BuildingOf) (x : Identifier) (e : Entry) (block : ℕ) (o : Option BlockOf) → Fits n e → Are n b → Are n (declared_at b x e block o)
  declared_row b x e block None fits h = h
  declared_row b x e block (Some row) fits h = go (list_any (bytes_eq x.name) row.names)
    where
      go : (c : Bool) → Are n (if c then declared_again b x e block (declared_in (Some row) x.name) else declared_new b x e block row)
      go true = again_are b x e block (declared_in (Some row) x.name) fits h
      go false = counting_are _ x (in_more n _ _ h fits)

  declared_are : (b : BuildingOf) (x : Identifier) (e : Entry) (o : Option ℕ) → Fits n e → Are n b → Are n (declared_inside b x e o)
  declared_are b x e None fits h = h
  declared_are b x e (Some block) fits h = declared_row b x e block (slice_get b.tables.blocks block) fits h

  changed_are : (b : BuildingOf) (change : BlockOf → BlockOf) (o : Option ℕ) → Are n b → Are n (changed b change o)
  changed_are b change None h = h
  changed_are b change (Some block) h = go (slice_get b.tables.blocks block)
    where
      go : (o : Option BlockOf) → Are n (changed_row b change block o)
      go None = h
      go (Some row) = h

  counted_are : (b : BuildingOf) (o : Option ℕ) → Are n b → Are n (counted_in b o)
  counted_are b None h = h
  counted_are b (Some block) h = go (slice_get b.tables.blocks block)
    where
      go : (o : Option BlockOf) → Are n (counted b block o)
      go None = h
      go (Some row) = h

  entry_are : (b : BuildingOf) (d : DeclNo) (e : Entry) → Fits n e → Are n b → Are n (with_entry b d e)
  entry_are b d e fits h = go (slice_get b.tables.declarations d.0)
    where
      go : (o : Option Declaration) → Are n (entered b d e o)
      go None = h
      go (Some row) = in_set n b.tables.declarations d.0 (record row { entry = e }) h fits

  moded_row : (b : BuildingOf) (token : TokenNo) (m : Mode) (d : DeclNo) (o : Option (Option WrittenMode)) → Are n b → Are n (moded_as b token m d o)
  moded_row b token m d None h = h
  moded_row b token m d (Some (Some written)) h = h
  moded_row b token m d (Some None) h =
      if_are (is_by_name m && in_class b) (broken b token.0 r.ModeNotAllowed) (with_entry b d (entry.Unspecified (Some (record { token = token; mode = m })))) h (entry_are b d _ (λ k is. absurd (cc)) h)

  moded_are : (b : BuildingOf) (token : TokenNo) (m : Mode) (o : Option DeclNo) → Are n b → Are n (moded b token m o)
  moded_are b token m None h = h
  moded_are b token m (Some d) h = moded_row b token m d (unspecified_in (entry_of b.tables d)) h

  with_mode_are : (b : BuildingOf) (d : DeclNo) (k : FormalKind) (ty : Option SimType) (o : Option WrittenMode) → Are n b → Are n (with_mode b d k ty o)
  with_mode_are b d k ty None h = entry_are b d _ (λ k is. absurd (cc)) h
  with_mode_are b d k ty (Some w) h =
      if_broken (not (mode_allowed w.mode k ty)) (with_entry b d (formal w.mode k ty)) w.token.0 r.ModeNotAllowed (entry_are b d (formal w.mode k ty) (λ k is. absurd (cc)) h)

  specified_row : (b : BuildingOf) (token : TokenNo) (k : FormalKind) (ty : Option SimType) (d : DeclNo) (o : Option (Option WrittenMode)) → Are n b → Are n (specified_as b token k ty d o)
  specified_row b token k ty d None h = h
  specified_row b token k ty d (Some written) h =
      if_broken (is_procedure k && in_class b) (with_mode b d k ty written) (token_in (slice_get b.tables.declarations d.0)) r.ModeNotAllowed (with_mode_are b d k ty written h)

  specified_are : (b : BuildingOf) (token : TokenNo) (k : FormalKind) (ty : Option SimType) (o : Option DeclNo) → Are n b → Are n (specified b token k ty o)
  specified_are b token k ty None h = h
  specified_are b token k ty (Some d) h = specified_row b token k ty d (unspecified_in (entry_of b.tables d)) h

  headed_are : (b : BuildingOf) (token : TokenNo) (o : Option (Option WrittenMode)) → Are n b → Are n (headed b token o)
  headed_are b token None h = h
  headed_are b token (Some written) h = h

  inner_in_are : (b : BuildingOf) (token block : ℕ) (row : BlockOf) (o : Option ℕ) → Are n b → Are n (inner_in b token block row o)
  inner_in_are b token block row None h = h
  inner_in_are b token block row (Some other) h = h

  inner_are : (b : BuildingOf) (token : ℕ) (o : Option ℕ) → Are n b → Are n (inner b token o)
  inner_are b token None h = h
  inner_are b token (Some block) h = go (slice_get b.tables.blocks block)
    where
      go : (o : Option BlockOf) → Are n (inner_at b token block o)
      go None = h
      go (Some row) = inner_in_are b token block row row.inner h

  qualified_are : (b : BuildingOf) (class : Identifier) (o : Option DeclNo) → Are n b → Are n (qualified b class o)
  qualified_are b class None h = h
  qualified_are b class (Some d) h = h

  alone_are : (b : BuildingOf) (name : Standard) (token : ℕ) (first : Option DeclNo) (block : ℕ) (o : Option BlockOf) → Are n b → Are n (provided_alone b name token first block o)
  alone_are b name token first block None h = h
  alone_are b name token first block (Some row) h = if_are (list_any (bytes_eq (attribute_name name)) row.brought_names) b _ h (in_more n _ _ h (λ k is. absurd (cc)))

  provided_are : (b : BuildingOf) (name : Standard) (token : ℕ) (first : Option DeclNo) (block : ℕ) (o : Option BlockOf) → Are n b → Are n (provided_in b name token first block o)
  provided_are b name token first block None h = h
  provided_are b name token first block (Some row) h = if_are (list_any (bytes_eq (attribute_name name)) row.names) b _ h (in_more n _ _ h (λ k is. absurd (cc)))

  provides_in_are : (b : BuildingOf) (which : Option StandardClass) (name : Standard) (token block : ℕ) (first : Option DeclNo) → Are n b → Are n (provides_in b which name token block first)
  provides_in_are b None name token block first h = alone_are b name token first block (slice_get b.tables.blocks block) h
  provides_in_are b (Some which) name token block first h = provided_are b name token first (block + 1 + place_of which) (slice_get b.tables.blocks (block + 1 + place_of which)) h

  provides_are : (b : BuildingOf) (which : Option StandardClass) (name : Standard) (token : ℕ) (o : Option ℕ) → Are n b → Are n (provides b which name token o)
  provides_are b which name token None h = h
  provides_are b which name token (Some block) h = provides_in_are b which name token block (first_brought (slice_get b.tables.blocks block)) h

  guards_are : (b : BuildingOf) (hides keeps : Bool) (x : Identifier) (o : Option ℕ) → Are n b → Are n (guards b hides keeps x o)
  guards_are b hides keeps x None h = h
  guards_are b hides keeps x (Some block) h = go (slice_get b.tables.blocks block)
    where
      go : (o : Option BlockOf) → Are n (guards_at b hides keeps x block o)
      go None = h
      go (Some row) = h

  closed_are : (b : BuildingOf) (token : ℕ) (o : Option ℕ) → Are n b → Are n (closed b token o)
  closed_are b token None h = h
  closed_are b token (Some block) h = go (slice_get b.tables.blocks block)
    where
      go : (o : Option BlockOf) → Are n (closed_at b token block o)
      go None = h
      go (Some row) = h

-- How many blocks there are.
quiet_blocks : (b : BuildingOf) (m : Mark) → Quiet m → length (marked b m).tables.blocks ≡ length b.tables.blocks
quiet_blocks b m q =
    let kept = quiet_stays b m q (record { shapes = refl; current = refl }) in
    sym (length_map shape_of (marked b m).tables.blocks) ∙ ap length kept.shapes ∙ length_map shape_of b.tables.blocks

broken_blocks : (c : Bool) (b : BuildingOf) (token : ℕ) (rule : Rule) → length (broken_if c b token rule).tables.blocks ≡ length b.tables.blocks
broken_blocks true b token rule = refl
broken_blocks false b token rule = refl

opened_blocks : (b : BuildingOf) (k : BlockKind) (text first : ℕ) → length (marked b (Opens k text first)).tables.blocks ≡ length b.tables.blocks + 1
unfolding marked
opened_blocks b k text first = broken_blocks (nat_lt most_levels (level_in k (block_around b.tables b.current))) _ text r.TooManyLevels ∙ length-append b.tables.blocks _

closed_blocks : (b : BuildingOf) (token : ℕ) (o : Option ℕ) → length (closed b token o).tables.blocks ≡ length b.tables.blocks
closed_blocks b token None = refl
closed_blocks b token (Some block) = go (slice_get b.tables.blocks block)
  where
    go : (o : Option BlockOf) → length (closed_at b token block o).tables.blocks ≡ length b.tables.blocks
    go None = refl
    go (Some row) = length_set b.tables.blocks block (record row { end = token })

changed_blocks : (b : BuildingOf) (change : BlockOf → BlockOf) (o : Option ℕ) → length (changed b change o).tables.blocks ≡ length b.tables.blocks
changed_blocks b change None = refl
changed_blocks b change (Some block) = go (slice_get b.tables.blocks block)
  where
    go : (o : Option BlockOf) → length (changed_row b change block o).tables.blocks ≡ length b.tables.blocks
    go None = refl
    go (Some row) = length_set b.tables.blocks block (change row)

-- each class has its block
abbrev pub Housed : BuildingOf → Type 0
Housed b = Are (length b.tables.blocks) b

moved : (b c : BuildingOf) → length c.tables.blocks ≡ length b.tables.blocks → Are (length b.tables.blocks) c → Housed c
moved b c same h i k e = let less = h i k e in omega arith

brought_blocks : (b : BuildingOf) (which : StandardClass) (token block : ℕ) (row : BlockOf) → length (brings_new b which token block row).tables.blocks ≡ length b.tables.blocks + 1
brought_blocks b which token block row =
    length-append (slice_set b.tables.blocks block (with_brought (name_of which) (record { 0 = length b.tables.declarations }) row)) _
    ∙ ap (λ m. m + 1) (length_set b.tables.blocks block (with_brought (name_of which) (record { 0 = length b.tables.declarations }) row))

brings_housed : (b : BuildingOf) (which : StandardClass) (token : ℕ) (o : Option ℕ) → Housed b → Housed (brings b which token o)
brings_housed b which token None h = h
brings_housed b which token (Some block) h = go (slice_get b.tables.blocks block)
  where
    new : (row : BlockOf) → Housed (brings_new b which token block row)
    new row =
        let long = brought_blocks b which token block row in
        in_more (length (brings_new b which token block row).tables.blocks) b.tables.declarations _ (in_up (length b.tables.blocks) _ b.tables.declarations (omega arith) h) (λ k is. (let at : k ≡ length b.tables.blocks = cc in omega arith))

    go : (o : Option BlockOf) → Housed (brings_at b which token block o)
    go None = h
    go (Some row) = test (list_any (bytes_eq (name_of which)) row.brought_names)
      where
        test : (c : Bool) → Housed (if c then b else brings_new b which token block row)
        test true = h
        test false = new row

-- marks that declare no class
abbrev pub Plain : Mark → Type 0
Plain (DeclaresClass x) = ⊥
Plain (Declares x e) = class_block_in (Some e) ≡ None
Plain _ = Unit {0}

opened_same : (b : BuildingOf) (k : BlockKind) (text first n : ℕ) → Are n b → Are n (marked b (Opens k text first))
unfolding marked
opened_same b k text first n h = if_broken (nat_lt most_levels (level_in k (block_around b.tables b.current))) _ text r.TooManyLevels h

opened_are : (b : BuildingOf) (k : BlockKind) (text first : ℕ) → Are (length b.tables.blocks + 1) b → Housed (marked b (Opens k text first))
opened_are b k text first h = in_of (opened_blocks b k text first) (opened_same b k text first (length b.tables.blocks + 1) h)
  where
    in_of : length (marked b (Opens k text first)).tables.blocks ≡ length b.tables.blocks + 1 → Are (length b.tables.blocks + 1) (marked b (Opens k text first)) → Housed (marked b (Opens k text first))
    in_of long a i k e = let less = a i k e in omega arith

plain_housed : (b : BuildingOf) (m : Mark) → Plain m → Housed b → Housed (marked b m)
unfolding marked
plain_housed b (Opens k text first) p h = opened_are b k text first (in_up (length b.tables.blocks) _ b.tables.declarations (omega arith) h)
plain_housed b (Closes end) p h = moved b (closed b end b.current) (closed_blocks b end b.current) (closed_are b end b.current h)
plain_housed b (Declares x e) p h = moved b (marked b (Declares x e)) (quiet_blocks b (Declares x e) tt) (declared_are b x e b.current (λ k is. absurd (let no = sym p ∙ is in cc)) h)
plain_housed b (DeclaresProcedure x result) p h = moved b (marked b (DeclaresProcedure x result)) (quiet_blocks b (DeclaresProcedure x result) tt) (declared_are b x (entry.Procedure result (length b.tables.blocks)) b.current (λ k is. absurd (cc)) h)
plain_housed b (DeclaresClass x) p h = absurd p
plain_housed b (Parameter x) p h = moved b (marked b (Parameter x)) (quiet_blocks b (Parameter x) tt) (counted_are (declared b x (entry.Unspecified None)) _ (declared_are b x (entry.Unspecified None) b.current (λ k is. absurd (cc)) h))
plain_housed b (Moded x m) p h = moved b (marked b (Moded x m)) (quiet_blocks b (Moded x m) tt) (moded_are b x.token m (found_in b.tables b.current x.name) h)
plain_housed b (Specified x k ty) p h = moved b (marked b (Specified x k ty)) (quiet_blocks b (Specified x k ty) tt) (let d = found_in b.tables b.current x.name in specified_are (record b { latest = d }) x.token k ty d h)
plain_housed b (Headed x) p h = moved b (marked b (Headed x)) (quiet_blocks b (Headed x) tt) (headed_are b x.token (unspecified_at b.tables (found_in b.tables b.current x.name)) h)
plain_housed b (Qualifies class) p h = moved b (marked b (Qualifies class)) (quiet_blocks b (Qualifies class) tt) (qualified_are b class b.latest h)
plain_housed b (Prefixes class) p h = moved b (changed b (prefixed_by class) b.current) (changed_blocks b (prefixed_by class) b.current) (changed_are b (prefixed_by class) b.current h)
plain_housed b (Brings which token) p h = brings_housed b which token b.current h
plain_housed b (Provides which name token) p h = moved b (marked b (Provides which name token)) (quiet_blocks b (Provides which name token) tt) (provides_are b which name token b.current h)
plain_housed b (Protects hides keeps x) p h = moved b (marked b (Protects hides keeps x)) (quiet_blocks b (Protects hides keeps x) tt) (guards_are b hides keeps x b.current h)
plain_housed b (Inner token) p h = moved b (marked b (Inner token)) (quiet_blocks b (Inner token) tt) (inner_are b token b.current h)
plain_housed b (Breaks token rule) p h = h

class_are : (b : BuildingOf) (x : Identifier) → Housed b → Are (length b.tables.blocks + 1) (marked b (DeclaresClass x))
unfolding marked
class_are b x h =
    let e : Entry = entry.Class (length b.tables.blocks) in
    changed_are (declared b x e) holding_class b.current
    (declared_are b x e b.current (λ k is. (let at : k ≡ length b.tables.blocks = cc in omega arith)) (in_up (length b.tables.blocks) _ b.tables.declarations (omega arith) h))

class_housed : (b : BuildingOf) (x : Identifier) (k : BlockKind) (text first : ℕ) → Housed b → Housed (marked (marked b (DeclaresClass x)) (Opens k text first))
class_housed b x k text first h = opened_are (marked b (DeclaresClass x)) k text first (in_of (quiet_blocks b (DeclaresClass x) tt) (class_are b x h))
  where
    in_of : length (marked b (DeclaresClass x)).tables.blocks ≡ length b.tables.blocks → Are (length b.tables.blocks + 1) (marked b (DeclaresClass x)) → Are (length (marked b (DeclaresClass x)).tables.blocks + 1) (marked b (DeclaresClass x))
    in_of same a i k e = let less = a i k e in omega arith

-- A list of marks, in which the block of each class opens directly behind the class.
pub data Opened : List Mark → Type 0 where
  none : Opened []
  plain : {m : Mark} {ms : List Mark} → Plain m → Opened ms → Opened (m ∷ ms)
  class : {x : Identifier} {k : BlockKind} {text first : ℕ} {ms : List Mark} → Opened ms → Opened (DeclaresClass x ∷ Opens k text first ∷ ms)

pub run_housed : (ms : List Mark) (b : BuildingOf) → Opened ms → Housed b → Housed (run marked b ms)
unfolding run
run_housed [] b none h = h
run_housed (m ∷ ms) b (plain p o) h = run_housed ms (marked b m) o (plain_housed b m p h)
run_housed (DeclaresClass x ∷ Opens k text first ∷ ms) b (class o) h = run_housed ms _ o (class_housed b x k text first h)
