-- The names of one array declaration hold arrays of one kind: what is written as their type, which for references is the class that the
-- identifier denotes, whichever of the names it is written for.
use Rattle.std.proofs.Common.{◌≡◌, ◌⊎◌, inl, inr, ℕ, false, List, [], ◌∷◌, length, Option, Some, None, refl, sym, ap, ◌∙◌, subst}
use Rattle.std.specs.Prelude.{slice_get}
use Rattle.sim_base.specs.declared.numbering.DeclNo.{DeclNo}
use Rattle.sim_base.specs.declared.numbering.TokenNo.{TokenNo}
use Rattle.sim_tree.specs.declared.expr.Identifier.{Identifier}
use Rattle.sim_tree.specs.declared.stmt.TypeName.{TypeName}
use Rattle.sim_tree.specs.declared.stmt.TypeName.TheVariants as type_name
use Rattle.sim_agree.specs.Order.{InOrder}
use Rattle.sim_tree.specs.Syntax.{Arrayed, Arrays, Declarations, DeclareClass, DeclareProcedure, NoDeclaration, Variables, With}
use Rattle.sim_scope.specs.declared.scopes.Declaration.{Declaration}
use Rattle.sim_scope.specs.declared.scopes.Denotation.TheVariants as denotation
use Rattle.sim_scope.specs.declared.scopes.Qualification.{Qualification}
use Rattle.sim_scope.specs.declared.types.Entry.{Entry}
use Rattle.sim_scope.specs.declared.types.Entry.TheVariants as entry
use Rattle.sim_scope.specs.declared.types.SimType.{SimType}
use Rattle.sim_scope.specs.declared.types.SimType.TheVariants as t
use Rattle.sim_scope.specs.Building.{Declares, Mark, Qualifies}
use Rattle.sim_scope.specs.Declare.{declared_by, qualified_marks, type_named}
use Rattle.sim_scope.specs.Runs.{each}
use Rattle.sim_scope.specs.Scopes.{binding, entry_of, found_in}
use Rattle.sim_scope.specs.Source.{Source}
use Rattle.sim_scope.specs.Tables.{Tables}
use Rattle.virtual_match.specs.Qualifying.{class_denoted, class_written, entry_to}
use Rattle.sim_static.specs.Check.{second_least}
use Rattle.sim_values.specs.declared.kind.Kind.{Kind}
use Rattle.sim_values.specs.declared.kind.Kind.TheVariants as kind
use Rattle.sim_meaning.specs.Attributes.{is_connection}
use Rattle.sim_meaning.specs.Levels.{qualification}
use Rattle.sim_meaning.specs.Texts.{BlockText, ClassText, Text, declared_at, kind_named, kind_of_type, program_texts, text, PrefixedText}
use Rattle.sim_sound.specs.Held.{Among, Holds, IsOfKind, Simply, first, held_by, reference_to}
use Rattle.sim_sound.specs.Typed.{ArrayIs, ArraysAre, Distinct, arrays_in_segments, arrays_named, arrays_of_block, of_option}
use Rattle.sim_agree.specs.TablesOf.{TablesOf}
use Rattle.sim_agree.proofs.ArrayNames.{declared_for, has_left, has_right, named_more, option_among, row_for, segments_more}
use Rattle.sim_agree.proofs.Clean.{OwedAt, RowFor, WrittenFor}
use Rattle.sim_agree.proofs.Completing.{Retyped}
use Rattle.sim_agree.proofs.Fine.{Alike}
use Rattle.sim_agree.proofs.Groups.{ArrayWritten, Has, NamedAmong, NamedIn, OfReferences, declared_in_text, here, own_array, own_marks, own_segment, own_variable, there}
use Rattle.sim_agree.proofs.Qualified as q
use Rattle.sim_agree.proofs.Tables as tables
use Rattle.sim_agree.proofs.TextOrder.{distinct, distinct_class, distinct_prefixed}

-- ---- what arrays hold by the type that is written

abbrev of_class : Source → Option DeclNo → Holds
of_class s None = Simply kind.Reference
of_class s (Some class) = held_by s (t.Ref class)

abbrev pub held_as : Source → TypeName → Holds
held_as s (type_name.Integer i) = Simply kind.Integer
held_as s (type_name.Boolean i) = Simply kind.Boolean
held_as s (type_name.Character i) = Simply kind.Character
held_as s (type_name.Text i) = Simply kind.Text
held_as s (type_name.Reference i class) = of_class s (class_written s.tables (record { declaration = record { 0 = 0 }; class = class }))

pub held_kind : (s : Source) (type : TypeName) → IsOfKind (held_as s type) (kind_named type)
held_kind s (type_name.Integer i) = refl
held_kind s (type_name.Boolean i) = refl
held_kind s (type_name.Character i) = refl
held_kind s (type_name.Text i) = refl
held_kind s (type_name.Reference i class) = go (class_written s.tables (record { declaration = record { 0 = 0 }; class = class }))
  where
    known : (o : Option ℕ) → IsOfKind (reference_to o) kind.Reference
    known None = refl
    known (Some k) = refl

    go : (o : Option DeclNo) → IsOfKind (of_class s o) kind.Reference
    go None = refl
    go (Some d) = known (qualification s (Some (t.Ref d)))

-- what is of no references holds plain values of its kind
plain_held : (s : Source) (ty : SimType) (k : Kind) → (k ≡ kind.Reference → ⊥) → k ≡ kind_of_type ty → held_by s ty ≡ Simply k
plain_held s t.Integer k other e = ap Simply (sym e)
plain_held s t.Boolean k other e = ap Simply (sym e)
plain_held s t.Character k other e = ap Simply (sym e)
plain_held s t.Text k other e = ap Simply (sym e)
plain_held s t.NoneType k other e = absurd (other e)
plain_held s (t.Ref class) k other e = absurd (other e)

-- ---- the arrays of a declaration are others than those of the declarations behind it

module _ (s : Source) where
  option_distinct : (o : Option DeclNo) (ds : List DeclNo) → Distinct (of_option o ds) → Distinct ds
  option_distinct None ds p = p
  option_distinct (Some d) ds p = p.1

  names_distinct : (xs : List Identifier) (more : List DeclNo) → Distinct (arrays_named s xs more) → Distinct more
  names_distinct [] more p = p
  names_distinct (x ∷ xs) more p = names_distinct xs more (option_distinct (declared_at s x.token.0) (arrays_named s xs more) p)

  segments_distinct : (as_ : List Arrayed) (more : List DeclNo) → Distinct (arrays_in_segments s as_ more) → Distinct more
  segments_distinct [] more p = p
  segments_distinct (a ∷ as_) more p = segments_distinct as_ more (names_distinct a.names (arrays_in_segments s as_ more) p)

  -- what is declared by one of the names is none of those behind
  name_apart : (xs : List Identifier) (y : Identifier) (d : DeclNo) (more : List DeclNo) → NamedAmong y xs → declared_at s y.token.0 ≡ Some d → Distinct (arrays_named s xs more) → Among d more → ⊥
  name_apart [] y d more n at p a = absurd n
  name_apart (x ∷ xs) y d more (inr n) at p a = name_apart xs y d more n at (option_distinct (declared_at s x.token.0) (arrays_named s xs more) p) a
  name_apart (x ∷ xs) y d more (inl e) at p a =
      (subst (λ o. Distinct (of_option o (arrays_named s xs more))) (ap (λ (z : Identifier). declared_at s z.token.0) (sym e) ∙ at) p).0 (named_more s xs d more a)

  apart : (as_ : List Arrayed) (y : Identifier) (d : DeclNo) (more : List DeclNo) → NamedIn y as_ → declared_at s y.token.0 ≡ Some d → Distinct (arrays_in_segments s as_ more) → Among d more → ⊥
  apart [] y d more n at p a = absurd n
  apart (x ∷ as_) y d more (inl n) at p a = name_apart x.names y d (arrays_in_segments s as_ more) n at p (segments_more s as_ d more a)
  apart (x ∷ as_) y d more (inr n) at p a = apart as_ y d more n at (names_distinct x.names (arrays_in_segments s as_ more) p) a

  name_listed : (xs : List Identifier) (y : Identifier) (d : DeclNo) (more : List DeclNo) → NamedAmong y xs → declared_at s y.token.0 ≡ Some d → Among d (arrays_named s xs more)
  name_listed [] y d more n at = absurd n
  name_listed (x ∷ xs) y d more (inr n) at = option_among (declared_at s x.token.0) d (arrays_named s xs more) (name_listed xs y d more n at)
  name_listed (x ∷ xs) y d more (inl e) at = subst (λ o. Among d (of_option o (arrays_named s xs more))) (sym (ap (λ (z : Identifier). declared_at s z.token.0) (sym e) ∙ at)) first

  segment_listed : (as_ : List Arrayed) (y : Identifier) (d : DeclNo) (more : List DeclNo) → NamedIn y as_ → declared_at s y.token.0 ≡ Some d → Among d (arrays_in_segments s as_ more)
  segment_listed [] y d more n at = absurd n
  segment_listed (x ∷ as_) y d more (inl n) at = name_listed x.names y d (arrays_in_segments s as_ more) n at
  segment_listed (x ∷ as_) y d more (inr n) at = named_more s x.names d (arrays_in_segments s as_ more) (segment_listed as_ y d more n at)

  written_listed : (ds : Declarations) (y : Identifier) (quals : List Mark) (d : DeclNo) → ArrayWritten y quals ds → declared_at s y.token.0 ≡ Some d → Among d (arrays_of_block s ds)
  written_listed NoDeclaration y quals d w at = absurd w
  written_listed (With (Arrays type token segments) ds) y quals d (inl w) at = segment_listed segments y d (arrays_of_block s ds) w.0 at
  written_listed (With (Arrays type token segments) ds) y quals d (inr w) at = segments_more s segments d (arrays_of_block s ds) (written_listed ds y quals d w at)
  written_listed (With (Variables type vs) ds) y quals d w at = written_listed ds y quals d w at
  written_listed (With (DeclareProcedure result token h a end) ds) y quals d w at = written_listed ds y quals d w at
  written_listed (With (DeclareClass prefix token h interface a end) ds) y quals d w at = written_listed ds y quals d w at

  -- an array that is written in the whole is written here, or declared by none of these
  abbrev Within : (whole ds : Declarations) → Type 0
  Within whole ds = (y : Identifier) (quals : List Mark) (d : DeclNo) → ArrayWritten y quals whole → declared_at s y.token.0 ≡ Some d → ArrayWritten y quals ds ⊎ (Among d (arrays_of_block s ds) → ⊥)

  behind : (whole : Declarations) (type : TypeName) (token : ℕ) (segments : List Arrayed) (ds : Declarations) → Distinct (arrays_in_segments s segments (arrays_of_block s ds)) → Within whole (With (Arrays type token segments) ds) → Within whole ds
  behind whole type token segments ds p within y quals d w at = go (within y quals d w at)
    where
      go : ((NamedIn y segments × (qualified_marks type ≡ quals)) ⊎ ArrayWritten y quals ds) ⊎ (Among d (arrays_in_segments s segments (arrays_of_block s ds)) → ⊥) → ArrayWritten y quals ds ⊎ (Among d (arrays_of_block s ds) → ⊥)
      go (inl (inl v)) = inr (apart segments y d (arrays_of_block s ds) v.0 at p)
      go (inl (inr v)) = inl v
      go (inr none) = inr (λ a. none (segments_more s segments d (arrays_of_block s ds) a))

  -- what is written behind the mark of a name is its type
  type_is : (whole : Declarations) (type : TypeName) (token : ℕ) (segments : List Arrayed) (ds : Declarations) → Distinct (arrays_in_segments s segments (arrays_of_block s ds)) → Within whole (With (Arrays type token segments) ds)
      → (x y : Identifier) (quals : List Mark) (d : DeclNo) → NamedIn x segments → declared_at s x.token.0 ≡ Some d → ArrayWritten y quals whole → declared_at s y.token.0 ≡ Some d → qualified_marks type ≡ quals
  type_is whole type token segments ds p within x y quals d named is w at = go (within y quals d w at)
    where
      go : ((NamedIn y segments × (qualified_marks type ≡ quals)) ⊎ ArrayWritten y quals ds) ⊎ (Among d (arrays_in_segments s segments (arrays_of_block s ds)) → ⊥) → qualified_marks type ≡ quals
      go (inl (inl v)) = v.1
      go (inl (inr v)) = absurd (apart segments x d (arrays_of_block s ds) named is p (written_listed ds y quals d v at))
      go (inr none) = absurd (none (segment_listed segments x d (arrays_of_block s ds) named is))

-- ---- each array of a text

-- the names of each declaration
abbrev pub SegmentsHold : Source → Holds → List Arrayed → Type 0
SegmentsHold s h [] = Unit {0}
SegmentsHold s h (a ∷ more) = ArraysAre s h a.names × SegmentsHold s h more

abbrev pub ArraysHold : Source → Declarations → Type 0
ArraysHold s NoDeclaration = Unit {0}
ArraysHold s (With (Arrays type token segments) ds) = SegmentsHold s (held_as s type) segments × ArraysHold s ds
ArraysHold s (With (Variables type vs) ds) = ArraysHold s ds
ArraysHold s (With (DeclareProcedure result token h a end) ds) = ArraysHold s ds
ArraysHold s (With (DeclareClass prefix token h interface a end) ds) = ArraysHold s ds

some_same : {A : Type 0} (a b : A) → Some a ≡ Some b → a ≡ b
some_same a b e = cc

-- an entry like an array is one
array_of : (ty : SimType) (n : ℕ) (f : Entry) → Alike (entry.Array ty n) f → (a : SimType) × (f ≡ entry.Array a n) × (kind_of_type ty ≡ kind_of_type a)
array_of ty n (entry.Array a m) l = (a, ap (entry.Array a) (sym l.1), l.0)
array_of ty n (entry.Variable a) l = absurd l
array_of ty n (entry.Constant a) l = absurd l
array_of ty n (entry.Procedure result m) l = absurd l
array_of ty n (entry.Class m) l = absurd l
array_of ty n (entry.Virtual result m) l = absurd l
array_of ty n (entry.Formal f) l = absurd l
array_of ty n (entry.Unspecified w) l = absurd l
array_of ty n (entry.Attribute name given result) l = absurd l

-- the class that is written is the same for each declaration
same_class : (T : Tables) (a : Qualification) (class : Identifier) → a.class ≡ class → class_written T (record { declaration = record { 0 = 0 }; class = class }) ≡ class_written T a
unfolding class_written
same_class T a class e = ap (λ (z : Identifier). class_denoted T (binding T z.token.0 z.name)) (sym e)

module _ (s : Source) (of : TablesOf s) (order : InOrder s.program)
    (second : second_least s.tables ≡ None)
    (outside : (token found : ℕ) (name : List ℕ) (d : DeclNo) (k : ℕ) → binding s.tables token name ≡ Some (denotation.Declared d) → entry_of s.tables d ≡ Some (entry.Class k) → found_in s.tables token name ≡ Some found → is_connection (text s found) ≡ false)
    (k : ℕ) (x : Text) (at : text s k ≡ Some x) where
  -- an array of plain values
  plain_array : (y : Identifier) (n : ℕ) (ty : SimType) → (kind_of_type ty ≡ kind.Reference → ⊥) → Has (Declares y (entry.Array ty n)) (own_marks (declared_in_text x)) → ArrayIs s (Simply (kind_of_type ty)) y
  plain_array y n ty other has =
      let r = row_for s of order k x at y (entry.Array ty n) has in
      let a = array_of ty n r.2.0 r.2.2 in
      record { declaration = r.0; at = r.1; element = a.0; dimensions = n; is = r.2.1 ∙ ap Some a.1; holds = plain_held s a.0 (kind_of_type ty) other a.2 }

  -- the class that is written behind the mark of a name
  abbrev Only : Identifier → Identifier → Type 0
  Only y class = (z : Identifier) (written : Identifier) (d : DeclNo) → declared_at s y.token.0 ≡ Some d → declared_at s z.token.0 ≡ Some d → ArrayWritten z (Qualifies written ∷ []) (declared_in_text x) → written ≡ class

  module _ (y : Identifier) (n : ℕ) (class : Identifier) (only : Only y class) (p : RowFor (declared_by s.program) k y (entry.Array t.NoneType n)) where
    abbrev number : DeclNo
    number = record { 0 = p.number }

    now : (new : Declaration) × (slice_get s.tables.declarations p.number ≡ Some new) × Retyped p.row new
    now = (tables.completed_tables s of order).rows.stays p.number p.row p.at

    declared : declared_at s y.token.0 ≡ Some number
    declared = declared_for s of order k y (entry.Array t.NoneType n) p

    covered : (i : ℕ) × (z : Qualification) × (slice_get (declared_by s.program).tables.qualifications i ≡ Some z) × (z.declaration.0 ≡ p.number)
    covered = tables.program_covered s.program of.unbroken p.number p.row p.at (subst OfReferences (sym p.entry) tt)

    set : q.IsSet s of order s.tables p.number
    set = subst (λ m. q.IsSet s of order s.tables m) covered.3 (q.set_there s of order second outside covered.0 covered.1 covered.2)

    entry_now : set.row.entry ≡ entry.Array (t.Ref set.class) n
    unfolding entry_to
    entry_now = set.is ∙ ap (entry_to set.class) (ap (λ (z : Declaration). z.entry) (some_same set.old p.row (sym set.was ∙ p.at)) ∙ p.entry)

    origin : WrittenFor (program_texts s.program.prefix s.program.block) p.row set.given.qualification.class
    origin = (tables.clean s of order).origins set.given.place set.given.qualification p.row t.NoneType n set.given.at (subst (λ m. slice_get (declared_by s.program).tables.declarations m ≡ Some p.row) (sym set.given.of_row) p.at) p.entry

    of_text : origin.text ≡ x
    unfolding text
    of_text = some_same origin.text x (sym origin.at ∙ ap (slice_get (program_texts s.program.prefix s.program.block)) p.block ∙ at)

    written_is : set.given.qualification.class ≡ class
    written_is =
        only origin.name set.given.qualification.class number declared (ap (λ (z : TokenNo). declared_at s z.0) (origin.token ∙ p.token) ∙ declared)
        (subst (λ z. ArrayWritten origin.name (Qualifies set.given.qualification.class ∷ []) (declared_in_text z)) of_text origin.written)

    reference_row : ArrayIs s (of_class s (class_written s.tables (record { declaration = record { 0 = 0 }; class = class }))) y
    reference_row = record {
      declaration = number;
      at = declared;
      element = t.Ref set.class;
      dimensions = n;
      is = tables.row_entry s of order number set.row set.at ∙ ap Some entry_now;
      holds = sym (ap (of_class s) (same_class s.tables set.given.qualification class written_is ∙ set.given.written));
    }

  -- an array of references
  reference_array : (y : Identifier) (n : ℕ) (class : Identifier) → Only y class → Has (Declares y (entry.Array t.NoneType n)) (own_marks (declared_in_text x))
      → ArrayIs s (of_class s (class_written s.tables (record { declaration = record { 0 = 0 }; class = class }))) y
  unfolding text
  reference_array y n class only has = go ((tables.clean s of order).complete k x at y (entry.Array t.NoneType n) has)
    where
      go : RowFor (declared_by s.program) k y (entry.Array t.NoneType n) ⊎ OwedAt (declared_by s.program).tables.blocks (declared_by s.program).current [] k (Declares y (entry.Array t.NoneType n))
          → ArrayIs s (of_class s (class_written s.tables (record { declaration = record { 0 = 0 }; class = class }))) y
      go (inr owed) = absurd owed
      go (inl p) = reference_row y n class only p

  -- no other marks stand behind that of a name than those of its type
  abbrev TypeIs : TypeName → Identifier → Type 0
  TypeIs type y = (z : Identifier) (quals : List Mark) (d : DeclNo) → declared_at s y.token.0 ≡ Some d → declared_at s z.token.0 ≡ Some d → ArrayWritten z quals (declared_in_text x) → qualified_marks type ≡ quals

  one_holds : (type : TypeName) (n : ℕ) (y : Identifier) → TypeIs type y → Has (Declares y (entry.Array (type_named type) n)) (own_marks (declared_in_text x)) → ArrayIs s (held_as s type) y
  unfolding type_named qualified_marks
  one_holds (type_name.Integer i) n y is has = plain_array y n t.Integer (λ e. (let f : kind.Integer ≡ kind.Reference = e in cc)) has
  one_holds (type_name.Boolean i) n y is has = plain_array y n t.Boolean (λ e. (let f : kind.Boolean ≡ kind.Reference = e in cc)) has
  one_holds (type_name.Character i) n y is has = plain_array y n t.Character (λ e. (let f : kind.Character ≡ kind.Reference = e in cc)) has
  one_holds (type_name.Text i) n y is has = plain_array y n t.Text (λ e. (let f : kind.Text ≡ kind.Reference = e in cc)) has
  one_holds (type_name.Reference i class) n y is has = reference_array y n class (λ z written d a b w. (let f : Qualifies class ∷ [] ≡ Qualifies written ∷ [] = is z (Qualifies written ∷ []) d a b w in cc)) has

  names_hold : (type : TypeName) (n : ℕ) (xs : List Identifier) → ((m : Mark) → Has m (each (own_array type n) xs) → Has m (own_marks (declared_in_text x))) → ((y : Identifier) → NamedAmong y xs → TypeIs type y) → ArraysAre s (held_as s type) xs
  unfolding own_array
  names_hold type n [] has is = tt
  names_hold type n (y ∷ xs) has is = (one_holds type n y (is y (inl refl)) (has (Declares y (entry.Array (type_named type) n)) here), names_hold type n xs (λ m p. has m (there p)) (λ z p. is z (inr p)))

  segments_hold : (type : TypeName) (as_ : List Arrayed) → ((m : Mark) → Has m (each (own_segment type) as_) → Has m (own_marks (declared_in_text x))) → ((y : Identifier) → NamedIn y as_ → TypeIs type y) → SegmentsHold s (held_as s type) as_
  segments_hold type [] has is = tt
  segments_hold type (a ∷ as_) has is = (
    names_hold type (length a.bounds) a.names (λ m p. has m (has_left (own_segment type a) (each (own_segment type) as_) p)) (λ y p. is y (inl p)),
    segments_hold type as_ (λ m p. has m (has_right (own_segment type a) (each (own_segment type) as_) p)) (λ y p. is y (inr p)),
  )

  declarations_hold : (ds : Declarations) → ((m : Mark) → Has m (own_marks ds) → Has m (own_marks (declared_in_text x))) → Distinct (arrays_of_block s ds) → Within s (declared_in_text x) ds → ArraysHold s ds
  declarations_hold NoDeclaration has p within = tt
  declarations_hold (With (Variables type vs) ds) has p within = declarations_hold ds (λ m h. has m (has_right (each (own_variable type) vs) (own_marks ds) h)) p within
  declarations_hold (With (Arrays type token segments) ds) has p within = (
    segments_hold type segments (λ m h. has m (has_left (each (own_segment type) segments) (own_marks ds) h)) (λ y named z quals d a b w. type_is s (declared_in_text x) type token segments ds p within y z quals d named a w b),
    declarations_hold ds (λ m h. has m (has_right (each (own_segment type) segments) (own_marks ds) h)) (segments_distinct s segments (arrays_of_block s ds) p) (behind s (declared_in_text x) type token segments ds p within),
  )
  declarations_hold (With (DeclareProcedure result token h a end) ds) has p within = declarations_hold ds has p within
  declarations_hold (With (DeclareClass prefix token h interface a end) ds) has p within = declarations_hold ds has p within

  distinct_in : (z : Text) → text s k ≡ Some z → Distinct (arrays_of_block s (declared_in_text z))
  distinct_in (BlockText i ds ss) e = distinct s order k i ds ss e
  distinct_in (ClassText prefix h ds ss) e = distinct_class s order k prefix h ds ss e
  distinct_in (PrefixedText class es ds ss) e = distinct_prefixed s order k class es ds ss e
  distinct_in _ e = tt

  -- each array that a text declares is one of what its declaration says
  pub arrays_hold : ArraysHold s (declared_in_text x)
  arrays_hold = declarations_hold (declared_in_text x) (λ m h. h) (distinct_in x at) (λ y quals d w is. inl w)
