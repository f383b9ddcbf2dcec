-- A clause in terms of what is known in front of a place is one in terms of the tables of that text.
use Rattle.std.proofs.Common.{◌≡◌, ◌<◌, ℕ, Bool, true, false, not, List, ◌∷◌, length, Option, Some, None, refl, sym, ap, ◌∙◌, subst}
use Rattle.std.specs.List.{list_any}
use Rattle.std.specs.Prelude.{◌&&◌, slice_get}
use Rattle.std.specs.Str.{bytes_eq}
use Rattle.sim_base.specs.declared.numbering.DeclNo.{DeclNo}
use Rattle.sim_tree.specs.declared.expr.Identifier.{Identifier}
use Rattle.sim_tree.specs.Syntax.{Program}
use Rattle.sim_scope.specs.Building.{BuildingOf, Mark, Opens, block_around, found_in, in_class, is_class, is_match, level_in, marked, most_declarations, most_levels, token_in, unspecified_at}
use Rattle.sim_scope.specs.Building as building
use Rattle.sim_scope.specs.Declare.{empty}
use Rattle.sim_scope.specs.Runs.{run}
use Rattle.sim_scope.specs.Scopes.{entry_in, entry_of}
use Rattle.sim_scope.specs.Tables.{BlockOf}
use Rattle.sim_scope.specs.declared.types.Entry.{Entry}
use Rattle.sim_scope.specs.declared.types.Entry.TheVariants as entry
use Rattle.sim_scope.specs.declared.types.WrittenMode.{WrittenMode}
use Rattle.static_rules.specs.FirstRound as first
use Rattle.static_rules.specs.Reading.{Absent, OpenBlock, Reading, Standing, Unspecified, double_in, is_double, is_in_class, is_procedure_entry, level_inside, new_in, nothing_read, read, standing, stands_as, unspecified, unspecified_in}
use Rattle.static_rules.specs.Reading as reading
use Rattle.static_rules.proofs.AfterMark.{double_is, is_unmatched, match_is, not_not, row_of_sort, something}
use Rattle.static_rules.proofs.BeforePlace.{absent_at, class_is, entry_at, entry_standing, in_front, level_is, present_at, unspecified_there}
use Rattle.static_rules.proofs.Chains.{any_number, is_some, number_of}
use Rattle.static_rules.proofs.InFront.{Agrees, Innermost, View, found_at, in_block, no_block, number_at, some_same, view}
use Rattle.static_rules.proofs.Meeting as meeting
use Rattle.static_rules.proofs.Tests.{and_both, and_first, and_second, not_false, not_true}

-- ---- places

known : (p : Program) (m : Mark) (b : BuildingOf) → meeting.Met p m b → (q : Reading) × reading.Met p m q × Agrees b q.blocks q.count
known p m b met = (
  run read nothing_read met.before,
  record { before = met.before; behind = met.behind; all = met.all; known = refl },
  subst (λ z. Agrees z (run read nothing_read met.before).blocks (run read nothing_read met.before).count) (sym met.known) (in_front met.before),
)

built : (p : Program) (m : Mark) (q : Reading) → reading.Met p m q → (b : BuildingOf) × meeting.Met p m b × Agrees b q.blocks q.count
built p m q met = (
  run marked empty met.before,
  record { before = met.before; behind = met.behind; all = met.all; known = refl },
  subst (λ (z : Reading). Agrees (run marked empty met.before) z.blocks z.count) (sym met.known) (in_front met.before),
)

-- ---- declarations

as_read : (b : BuildingOf) (m : Mark) (x : Identifier) (e : Entry) → meeting.IsDeclared b m x e → (f : Entry) × reading.IsDeclared m x f × (is_procedure_entry e ≡ is_procedure_entry f)
as_read b _ x e meeting.as_itself = (e, reading.as_itself, refl)
as_read b _ _ _ (meeting.as_procedure {x = x} {result = result}) = (entry.Procedure result 0, reading.as_procedure, refl)
as_read b _ x _ meeting.as_class = (entry.Class 0, reading.as_class, refl)
as_read b _ x _ meeting.as_parameter = (entry.Unspecified None, reading.as_parameter, refl)

as_built : (b : BuildingOf) (m : Mark) (x : Identifier) (f : Entry) → reading.IsDeclared m x f → (e : Entry) × meeting.IsDeclared b m x e × (is_procedure_entry e ≡ is_procedure_entry f)
as_built b _ x f reading.as_itself = (f, meeting.as_itself, refl)
as_built b _ _ _ (reading.as_procedure {x = x} {result = result}) = (entry.Procedure result (length b.tables.blocks), meeting.as_procedure, refl)
as_built b _ x _ reading.as_class = (entry.Class (length b.tables.blocks), meeting.as_class, refl)
as_built b _ x _ reading.as_parameter = (entry.Unspecified None, meeting.as_parameter, refl)

module _ {b : BuildingOf} {o : OpenBlock} {os : List OpenBlock} (v : Innermost b o os) where
  is_open : meeting.IsOpen b v.row
  is_open = record { block = v.block; current = v.current; is = v.at }

  same_row : (row : BlockOf) → meeting.IsOpen b row → v.row ≡ row
  same_row row w =
      let block : v.block ≡ w.block = some_same v.block w.block (sym v.current ∙ w.current) in
      some_same v.row row (sym v.at ∙ ap (slice_get b.tables.blocks) block ∙ w.is)

  double_test : (x : Identifier) (e f : Entry) → is_procedure_entry e ≡ is_procedure_entry f → is_double (standing o x.name) f ≡ (meeting.has_name v.row x.name && not (meeting.is_its_match b v.row x.name e))
  unfolding entry_of
  double_test x e f kinds = go (number_of v.row.names v.row.numbers x.name) refl
    where
      go : (q : Option DeclNo) → number_of v.row.names v.row.numbers x.name ≡ q → is_double (standing o x.name) f ≡ (meeting.has_name v.row x.name && not (meeting.is_its_match b v.row x.name e))
      go None q =
          let lacks : list_any (bytes_eq x.name) v.row.names ≡ false = any_number v.row.names v.row.numbers x.name v.is.long ∙ ap is_some q in
          ap (λ z. is_double z f) (absent_at v x q) ∙ sym (ap (λ z. z && not (meeting.is_its_match b v.row x.name e)) lacks)
      go (Some d) q =
          let has : list_any (bytes_eq x.name) v.row.names ≡ true = any_number v.row.names v.row.numbers x.name v.is.long ∙ ap is_some q in
          let w = v.is.owned x.name d q in
          let row = row_of_sort (slice_get b.tables.declarations d.0) w.x w.there in
          let test : not (is_double (standing o x.name) f) ≡ is_match e (entry_of b.tables d) =
          ap (λ z. not (is_double z f)) (present_at v x d row.0 q row.1) ∙ double_is f row.0.token.0 row.0.entry ∙ ap (λ z. z && is_unmatched row.0.entry) (sym kinds) ∙ sym (match_is e row.0.entry) ∙ sym (ap (λ z. is_match e (entry_in z)) row.1) in
          sym (not_not (is_double (standing o x.name) f)) ∙ ap not (test ∙ sym (ap (meeting.matches b e) (number_at v x.name ∙ q)))
          ∙ sym (ap (λ z. z && not (meeting.is_its_match b v.row x.name e)) has)

no_open : (b : BuildingOf) (row : BlockOf) → b.current ≡ None → meeting.IsOpen b row → ⊥
no_open b row none w = let clash : None ≡ Some w.block = sym none ∙ w.current in cc

double_from : (b : BuildingOf) (os : List OpenBlock) (m : Mark) (x : Identifier) → View b os → meeting.IsDouble b m x → (f : Entry) × reading.IsDeclared m x f × (double_in os x.name f ≡ true)
double_from b _ m x (no_block none) (meeting.double {row = row} is opened has fails) = absurd (no_open b row none opened)
double_from b _ m x (in_block {o = o} v) (meeting.double {e = e} {row = row} is opened has fails) =
    let d = as_read b m x e is in
    let same = same_row v row opened in (
      d.0,
      d.1,
      double_test v x e d.0 d.2 ∙ and_both (meeting.has_name v.row x.name) (not (meeting.is_its_match b v.row x.name e)) (ap (λ z. meeting.has_name z x.name) same ∙ has)
          (not_false (meeting.is_its_match b v.row x.name e) (ap (λ z. meeting.is_its_match b z x.name e) same ∙ fails)),
    )

double_to : (b : BuildingOf) (os : List OpenBlock) (m : Mark) (x : Identifier) (f : Entry) → View b os → reading.IsDeclared m x f → double_in os x.name f ≡ true → meeting.IsDouble b m x
double_to b _ m x f (no_block none) is double = absurd (cc)
double_to b _ m x f (in_block {o = o} v) is double =
    let d = as_built b m x f is in
    let both = sym (double_test v x d.0 f d.2) ∙ double in
    meeting.double d.1 (is_open v) (and_first (meeting.has_name v.row x.name) (not (meeting.is_its_match b v.row x.name d.0)) both)
    (not_true (meeting.is_its_match b v.row x.name d.0) (and_second (meeting.has_name v.row x.name) (not (meeting.is_its_match b v.row x.name d.0)) both))

pub twice_read : (p : Program) (token : ℕ) → meeting.DeclaredTwice p token → first.DeclaredTwice p token
twice_read p _ (meeting.declared_twice {m = m} {front = b} {x = x} met is) =
    let k = known p m b met in
    let d = double_from b k.0.blocks m x (view b k.0.blocks k.0.count k.2) is in first.declared_twice k.1 d.1 d.2

pub twice_built : (p : Program) (token : ℕ) → first.DeclaredTwice p token → meeting.DeclaredTwice p token
twice_built p _ (first.declared_twice {m = m} {front = q} {x = x} {e = f} met is double) =
    let k = built p m q met in meeting.declared_twice k.1 (double_to k.0 q.blocks m x f (view k.0 q.blocks q.count k.2) is double)

new_from : (b : BuildingOf) (os : List OpenBlock) (m : Mark) (x : Identifier) → View b os → meeting.IsNew b m x → (f : Entry) × reading.IsDeclared m x f × (new_in os x.name f ≡ true)
new_from b _ m x (no_block none) (meeting.first_one {row = row} is opened lacks) = absurd (no_open b row none opened)
new_from b _ m x (no_block none) (meeting.match {row = row} is opened has agrees) = absurd (no_open b row none opened)
new_from b _ m x (in_block {o = o} v) (meeting.first_one {e = e} {row = row} is opened lacks) =
    let d = as_read b m x e is in
    let same = same_row v row opened in
    (d.0, d.1, ap not (double_test v x e d.0 d.2 ∙ ap (λ z. z && not (meeting.is_its_match b v.row x.name e)) (ap (λ z. meeting.has_name z x.name) same ∙ lacks)))
new_from b _ m x (in_block {o = o} v) (meeting.match {e = e} {row = row} is opened has agrees) =
    let d = as_read b m x e is in
    let same = same_row v row opened in
    (d.0, d.1, ap not (double_test v x e d.0 d.2 ∙ ap (λ z. z && not (meeting.is_its_match b v.row x.name e)) (ap (λ z. meeting.has_name z x.name) same ∙ has) ∙ ap not (ap (λ z. meeting.is_its_match b z x.name e) same ∙ agrees)))

new_to : (b : BuildingOf) (os : List OpenBlock) (m : Mark) (x : Identifier) (f : Entry) → View b os → reading.IsDeclared m x f → new_in os x.name f ≡ true → meeting.IsNew b m x
new_to b _ m x f (no_block none) is fresh = absurd (cc)
new_to b _ m x f (in_block {o = o} v) is fresh =
    let d = as_built b m x f is in
    go d.0 d.1 (meeting.has_name v.row x.name) (meeting.is_its_match b v.row x.name d.0) refl refl (ap not (sym (double_test v x d.0 f d.2)) ∙ fresh)
  where
    go : (e : Entry) → meeting.IsDeclared b m x e → (h g : Bool) → meeting.has_name v.row x.name ≡ h → meeting.is_its_match b v.row x.name e ≡ g → not (h && not g) ≡ true → meeting.IsNew b m x
    go e is false g has agrees t = meeting.first_one is (is_open v) has
    go e is true true has agrees t = meeting.match is (is_open v) has agrees
    go e is true false has agrees t = absurd (cc)

pub many_read : (p : Program) (token : ℕ) → meeting.TooManyDeclarations p token → first.TooManyDeclarations p token
many_read p _ (meeting.one_more {m = m} {front = b} {x = x} met is most) =
    let k = known p m b met in
    let d = new_from b k.0.blocks m x (view b k.0.blocks k.0.count k.2) is in first.one_more k.1 d.1 d.2 (sym (k.2).count ∙ most)

pub many_built : (p : Program) (token : ℕ) → first.TooManyDeclarations p token → meeting.TooManyDeclarations p token
many_built p _ (first.one_more {m = m} {front = q} {x = x} {e = f} met is fresh most) =
    let k = built p m q met in meeting.one_more k.1 (new_to k.0 q.blocks m x f (view k.0 q.blocks q.count k.2) is fresh) ((k.2).count ∙ most)

-- ---- levels

pub levels_read : (p : Program) (token : ℕ) → meeting.TooManyLevels p token → first.TooManyLevels p token
levels_read p _ (meeting.too_deep {k = kind} {text = text} {first = first_token} {front = b} met deep) =
    let k = known p (Opens kind text first_token) b met in
    first.too_deep k.1 (subst (λ z. most_levels < z) (level_is b k.0.blocks kind (view b k.0.blocks k.0.count k.2)) deep)

pub levels_built : (p : Program) (token : ℕ) → first.TooManyLevels p token → meeting.TooManyLevels p token
levels_built p _ (first.too_deep {k = kind} {text = text} {first = first_token} {front = q} met deep) =
    let k = built p (Opens kind text first_token) q met in
    meeting.too_deep k.1 (subst (λ z. most_levels < z) (sym (level_is k.0 q.blocks kind (view k.0 q.blocks q.count k.2))) deep)

-- ---- headings

there_is : (b : BuildingOf) (os : List OpenBlock) (x : Identifier) → View b os → meeting.unspecified_there b x.name ≡ unspecified_in os x.name
there_is b _ x (no_block none) = ap (λ z. unspecified_at b.tables (found_in b.tables z x.name)) none
there_is b _ x (in_block v) = unspecified_there v x

in_class_is : (b : BuildingOf) (os : List OpenBlock) → View b os → in_class b ≡ is_in_class os
in_class_is b _ (no_block none) = ap (λ z. building.is_class_block (block_around b.tables z)) none
in_class_is b _ (in_block v) = class_is v

pub disagrees_read : (p : Program) (token : ℕ) → meeting.SpecificationDisagrees p token → first.SpecificationDisagrees p token
disagrees_read p _ (meeting.no_parameter {x = x} {k = kind} {ty = ty} {front = b} met none) =
    let k = known p (building.Specified x kind ty) b met in first.no_parameter k.1 (sym (there_is b k.0.blocks x (view b k.0.blocks k.0.count k.2)) ∙ none)
disagrees_read p _ (meeting.no_specification {x = x} {mode = w} {front = b} met is) =
    let k = known p (building.Headed x) b met in first.no_specification k.1 (sym (there_is b k.0.blocks x (view b k.0.blocks k.0.count k.2)) ∙ is)

pub disagrees_built : (p : Program) (token : ℕ) → first.SpecificationDisagrees p token → meeting.SpecificationDisagrees p token
disagrees_built p _ (first.no_parameter {x = x} {k = kind} {ty = ty} {front = q} met none) =
    let k = built p (building.Specified x kind ty) q met in meeting.no_parameter k.1 (there_is k.0 q.blocks x (view k.0 q.blocks q.count k.2) ∙ none)
disagrees_built p _ (first.no_specification {x = x} {mode = w} {front = q} met is) =
    let k = built p (building.Headed x) q met in meeting.no_specification k.1 (there_is k.0 q.blocks x (view k.0 q.blocks q.count k.2) ∙ is)

own_token : (token own : ℕ) (f : Entry) (w : Option WrittenMode) → stands_as token f ≡ Unspecified own w → token ≡ own
own_token token own (entry.Variable ty) w is = absurd (cc)
own_token token own (entry.Constant ty) w is = absurd (cc)
own_token token own (entry.Array element dimensions) w is = absurd (cc)
own_token token own (entry.Procedure result block) w is = absurd (cc)
own_token token own (entry.Class block) w is = absurd (cc)
own_token token own (entry.Virtual result None) w is = absurd (cc)
own_token token own (entry.Virtual result (Some d)) w is = absurd (cc)
own_token token own (entry.Formal f) w is = absurd (cc)
own_token token own (entry.Unspecified written) w is = cc
own_token token own (entry.Attribute name ty result) w is = absurd (cc)

module _ {b : BuildingOf} {o : OpenBlock} {os : List OpenBlock} (v : Innermost b o os) where
  standing_read : (x : Identifier) (d : DeclNo) (w : Option WrittenMode) → found_in b.tables b.current x.name ≡ Some d → meeting.unspecified_there b x.name ≡ Some w → standing o x.name ≡ Unspecified (token_in (slice_get b.tables.declarations d.0)) w
  standing_read x d w found is =
      let q : number_of v.row.names v.row.numbers x.name ≡ Some d = sym (found_at v x.name) ∙ found in
      let n = v.is.owned x.name d q in
      let row = row_of_sort (slice_get b.tables.declarations d.0) n.x n.there in
      let own : building.unspecified_in (Some row.0.entry) ≡ Some w = sym (ap building.unspecified_in (entry_at v d row.0 row.1)) ∙ sym (ap (unspecified_at b.tables) found) ∙ is in
      present_at v x d row.0 q row.1 ∙ entry_standing row.0.entry row.0.token.0 w own ∙ ap (λ z. Unspecified z w) (sym (ap token_in row.1))

  standing_built : (x : Identifier) (token : ℕ) (w : Option WrittenMode) → standing o x.name ≡ Unspecified token w
      → (d : DeclNo) × (found_in b.tables b.current x.name ≡ Some d) × (meeting.unspecified_there b x.name ≡ Some w) × (token_in (slice_get b.tables.declarations d.0) ≡ token)
  standing_built x token w is = go (number_of v.row.names v.row.numbers x.name) refl
    where
      go : (q : Option DeclNo) → number_of v.row.names v.row.numbers x.name ≡ q → (d : DeclNo) × (found_in b.tables b.current x.name ≡ Some d) × (meeting.unspecified_there b x.name ≡ Some w) × (token_in (slice_get b.tables.declarations d.0) ≡ token)
      go None q = absurd (let clash : Absent ≡ Unspecified token w = sym (absent_at v x q) ∙ is in cc)
      go (Some d) q =
          let n = v.is.owned x.name d q in
          let row = row_of_sort (slice_get b.tables.declarations d.0) n.x n.there in
          (d, found_at v x.name ∙ q, unspecified_there v x ∙ ap unspecified is, ap token_in row.1 ∙ own_token row.0.token.0 token row.0.entry w (sym (present_at v x d row.0 q row.1) ∙ is))

pub modes_read : (p : Program) (token : ℕ) → meeting.ModeNotAllowed p token → first.ModeNotAllowed p token
modes_read p _ (meeting.of_no_parameter {x = x} {m = m} {front = b} met none) =
    let k = known p (building.Moded x m) b met in first.of_no_parameter k.1 (sym (there_is b k.0.blocks x (view b k.0.blocks k.0.count k.2)) ∙ none)
modes_read p _ (meeting.twice {x = x} {m = m} {front = b} met is) =
    let k = known p (building.Moded x m) b met in first.twice k.1 (sym (there_is b k.0.blocks x (view b k.0.blocks k.0.count k.2)) ∙ is)
modes_read p _ (meeting.by_name_in_class {x = x} {m = m} {front = b} met is name class) =
    let k = known p (building.Moded x m) b met in
    let w = view b k.0.blocks k.0.count k.2 in first.by_name_in_class k.1 (sym (there_is b k.0.blocks x w) ∙ is) name (sym (in_class_is b k.0.blocks w) ∙ class)
modes_read p _ (meeting.not_so {x = x} {k = kind} {ty = ty} {front = b} met is no_way) =
    let k = known p (building.Specified x kind ty) b met in first.not_so k.1 (sym (there_is b k.0.blocks x (view b k.0.blocks k.0.count k.2)) ∙ is) no_way
modes_read p _ (meeting.procedure_of_class {x = x} {k = kind} {ty = ty} {front = b} {d = d} {mode = w} met found is procedure class) =
    let k = known p (building.Specified x kind ty) b met in go k.0 k.1 k.0.blocks refl (view b k.0.blocks k.0.count k.2)
  where
    go : (q : Reading) → reading.Met p (building.Specified x kind ty) q → (os : List OpenBlock) → q.blocks ≡ os → View b os → first.ModeNotAllowed p (token_in (slice_get b.tables.declarations d.0))
    go q there _ same (no_block none) = absurd (let clash : false ≡ true = sym (ap (λ z. building.is_class_block (block_around b.tables z)) none) ∙ class in cc)
    go q there _ same (in_block v) = first.procedure_of_class there same (standing_read v x d w found is) procedure (sym (class_is v) ∙ class)

pub modes_built : (p : Program) (token : ℕ) → first.ModeNotAllowed p token → meeting.ModeNotAllowed p token
modes_built p _ (first.of_no_parameter {x = x} {m = m} {front = q} met none) =
    let k = built p (building.Moded x m) q met in meeting.of_no_parameter k.1 (there_is k.0 q.blocks x (view k.0 q.blocks q.count k.2) ∙ none)
modes_built p _ (first.twice {x = x} {m = m} {front = q} met is) =
    let k = built p (building.Moded x m) q met in meeting.twice k.1 (there_is k.0 q.blocks x (view k.0 q.blocks q.count k.2) ∙ is)
modes_built p _ (first.by_name_in_class {x = x} {m = m} {front = q} met is name class) =
    let k = built p (building.Moded x m) q met in
    let w = view k.0 q.blocks q.count k.2 in meeting.by_name_in_class k.1 (there_is k.0 q.blocks x w ∙ is) name (in_class_is k.0 q.blocks w ∙ class)
modes_built p _ (first.not_so {x = x} {k = kind} {ty = ty} {front = q} met is no_way) =
    let k = built p (building.Specified x kind ty) q met in meeting.not_so k.1 (there_is k.0 q.blocks x (view k.0 q.blocks q.count k.2) ∙ is) no_way
modes_built p token (first.procedure_of_class {x = x} {k = kind} {ty = ty} {front = q} {o = o} {os = os} {mode = w} met blocks is procedure class) =
    let k = built p (building.Specified x kind ty) q met in go k.0 k.1 (o ∷ os) refl (subst (View k.0) blocks (view k.0 q.blocks q.count k.2))
  where
    go : (b : BuildingOf) → meeting.Met p (building.Specified x kind ty) b → (ps : List OpenBlock) → ps ≡ o ∷ os → View b ps → meeting.ModeNotAllowed p token
    go b there _ same (no_block none) = absurd (cc)
    go b there _ same (in_block {o = c} v) =
        let one : c ≡ o = cc in
        let d = standing_built v x token w (ap (λ z. standing z x.name) one ∙ is) in
        subst (meeting.ModeNotAllowed p) d.3 (meeting.procedure_of_class there d.1 d.2 procedure (class_is v ∙ ap (λ (z : OpenBlock). is_class z.kind) one ∙ class))

-- ---- `inner`

inner_known : (b : BuildingOf) (os : List OpenBlock) (row : BlockOf) (other : ℕ) → View b os → meeting.IsOpen b row → row.inner ≡ Some other → reading.inner_in os ≡ true
inner_known b _ row other (no_block none) opened at = absurd (no_open b row none opened)
inner_known b _ row other (in_block v) opened at = sym v.is.inner ∙ ap (λ (z : BlockOf). is_some z.inner) (same_row v row opened) ∙ ap is_some at

pub inner_read : (p : Program) (token : ℕ) → meeting.InnerOutOfPlace p token → first.InnerOutOfPlace p token
inner_read p token (meeting.second_one {other = other} {front = b} {row = row} met opened at) =
    let k = known p (building.Inner token) b met in first.second_one k.1 (inner_known b k.0.blocks row other (view b k.0.blocks k.0.count k.2) opened at)
inner_read p token (meeting.elsewhere {front = b} met) = let k = known p _ b met in first.elsewhere k.1

inner_row : (p : Program) (token : ℕ) (b : BuildingOf) (os : List OpenBlock) → View b os → meeting.Met p (building.Inner token) b → reading.inner_in os ≡ true → meeting.InnerOutOfPlace p token
inner_row p token b _ (no_block none) met is = absurd (cc)
inner_row p token b _ (in_block v) met is = let d = something v.row.inner (v.is.inner ∙ is) in meeting.second_one met (is_open v) d.1

pub inner_built : (p : Program) (token : ℕ) → first.InnerOutOfPlace p token → meeting.InnerOutOfPlace p token
inner_built p token (first.second_one {front = q} met is) = let k = built p (building.Inner token) q met in inner_row p token k.0 q.blocks (view k.0 q.blocks q.count k.2) k.1 is
inner_built p token (first.elsewhere {front = q} met) = let k = built p _ q met in meeting.elsewhere k.1
