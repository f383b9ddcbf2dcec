-- The formal parameters of a procedure or a class, as the rules and as the meaning count them.
use Rattle.std.proofs.Common.{◌≡◌, ℕ, zero, suc, List, [], ◌∷◌, length, Option, Some, None, refl, sym, ap, ◌∙◌, subst}
use Rattle.std.specs.Prelude.{slice_get, take}
use Rattle.sim_base.specs.declared.numbering.DeclNo.{DeclNo}
use Rattle.sim_scope.specs.declared.types.Entry.{Entry}
use Rattle.sim_scope.specs.declared.types.Entry.TheVariants as entry
use Rattle.sim_scope.specs.declared.types.Formal.{Formal}
use Rattle.sim_scope.specs.declared.types.SimType.{SimType}
use Rattle.sim_scope.specs.Scopes.{block_in, class_formal, class_formals, entry_of, formal_declared, formal_in, formal_of, formals_at, formals_in, formals_of}
use Rattle.sim_scope.specs.Source.{Source}
use Rattle.sim_scope.specs.Tables.{BlockOf}
use Rattle.sim_meaning.specs.Closing.{class_parameters}
use Rattle.sim_meaning.specs.Entries.{formal_before, formals_from, numbers_in}
use Rattle.sim_meaning.specs.Entries.{formals_of as meant_formals}
use Rattle.sim_sound.specs.Typed.{FormalsAre}
use Rattle.sim_agree.specs.Facts.{ProperFormal, Tabled}

-- these declarations are these formal parameters
abbrev Listed : Source → List DeclNo → List Formal → Type 0
Listed s [] [] = Unit {0}
Listed s [] (f ∷ fs) = ⊥
Listed s (d ∷ ds) [] = ⊥
Listed s (d ∷ ds) (f ∷ fs) = (entry_of s.tables d ≡ Some (entry.Formal f)) × Listed s ds fs

first_formal : (s : Source) (d : DeclNo) (ds : List DeclNo) (fs : List Formal) → FormalsAre s (d ∷ ds) fs → (f : Formal) × (entry_of s.tables d ≡ Some (entry.Formal f))
first_formal s d ds [] a = absurd a
first_formal s d ds (f ∷ fs) a = (f, a.1)

listed : (s : Source) (n : ℕ) (ds : List DeclNo) → FormalsAre s ds (formals_from s (take n ds)) → Listed s (take n ds) (formals_from s (take n ds))
listed s zero ds a = tt
listed s (suc n) [] a = tt
listed s (suc n) (d ∷ ds) a =
    let rest = formals_from s (take n ds) in
    let f = first_formal s d ds (formal_before (entry_of s.tables d) rest) a in
    let b = subst (λ o. FormalsAre s (d ∷ ds) (formal_before o rest)) f.1 a in
    subst (λ o. Listed s (d ∷ take n ds) (formal_before o rest)) (sym f.1) (f.1, listed s n ds b.3)

same_length : (s : Source) (ds : List DeclNo) (fs : List Formal) → Listed s ds fs → length ds ≡ length fs
same_length s [] [] a = refl
same_length s [] (f ∷ fs) a = absurd a
same_length s (d ∷ ds) [] a = absurd a
same_length s (d ∷ ds) (f ∷ fs) a = ap suc (same_length s ds fs a.1)

same_place : (s : Source) (ds : List DeclNo) (fs : List Formal) (place : ℕ) → Listed s ds fs → formal_declared s.tables (slice_get ds place) ≡ slice_get fs place
same_place s [] [] place a = refl
same_place s [] (f ∷ fs) place a = absurd a
same_place s (d ∷ ds) [] place a = absurd a
same_place s (d ∷ ds) (f ∷ fs) zero a = go (entry_of s.tables d) a.0
  where
    go : (o : Option Entry) → o ≡ Some (entry.Formal f) → formal_in o ≡ Some f
    go o e = subst (λ z. formal_in z ≡ Some f) (sym e) refl
same_place s (d ∷ ds) (f ∷ fs) (suc place) a = same_place s ds fs place a.1

abbrev pub AllProper : Source → List Formal → Type 0
AllProper s [] = Unit {0}
AllProper s (f ∷ fs) = ProperFormal s f.kind f.ty × AllProper s fs

all_proper : (s : Source) → Tabled s → (ds : List DeclNo) (fs : List Formal) → Listed s ds fs → AllProper s fs
all_proper s known [] [] a = tt
all_proper s known [] (f ∷ fs) a = absurd a
all_proper s known (d ∷ ds) [] a = absurd a
all_proper s known (d ∷ ds) (f ∷ fs) a = (known.proper d (entry.Formal f) a.0, all_proper s known ds fs a.1)

-- the heading of a declared procedure
pub record HeadingIs (s : Source) (d : DeclNo) (k : ℕ) : Type 0 where
  pub count : length (formals_of s.tables d) ≡ length (meant_formals s k)
  pub places : (place : ℕ) → formal_of s.tables d place ≡ slice_get (meant_formals s k) place
  pub proper : AllProper s (meant_formals s k)

in_block : (s : Source) (k : ℕ) (row : Option BlockOf) → slice_get s.tables.blocks k ≡ row → meant_formals s k ≡ formals_from s (formals_in row)
in_block s k None e = rw e refl
in_block s k (Some b) e = rw e refl

formals_are : (s : Source) (k : ℕ) (row : Option BlockOf) → slice_get s.tables.blocks k ≡ row → FormalsAre s (numbers_in row) (formals_from s (formals_in row)) → Listed s (formals_in row) (formals_from s (formals_in row))
formals_are s k None e a = tt
formals_are s k (Some b) e a = listed s b.formals b.numbers a

pub heading : (s : Source) → Tabled s → (d : DeclNo) (result : Option SimType) (k : ℕ) → entry_of s.tables d ≡ Some (entry.Procedure result k) → HeadingIs s d k
unfolding formals_of formal_of
heading s known d result k e =
    let row = slice_get s.tables.blocks k in
    let at : formals_of s.tables d ≡ formals_in row = ap (λ o. formals_at s.tables (block_in o)) e in
    let meant = in_block s k row refl in
    let both = formals_are s k row refl (subst (λ fs. FormalsAre s (numbers_in row) fs) meant (known.headings d result k e)) in
    let ds = formals_in row in
    let fs = formals_from s ds in
    record {
      count = ap length at ∙ same_length s ds fs both ∙ ap length (sym meant);
      places = λ place. ap (λ z. formal_declared s.tables (slice_get z place)) at ∙ same_place s ds fs place both ∙ ap (λ z. slice_get z place) (sym meant);
      proper = subst (AllProper s) (sym meant) (all_proper s known ds fs both);
    }

-- ---- those of a class

all_listed : (s : Source) (ds : List DeclNo) (fs : List Formal) → FormalsAre s ds fs → Listed s ds fs
all_listed s [] [] a = tt
all_listed s [] (f ∷ fs) a = absurd a
all_listed s (d ∷ ds) [] a = absurd a
all_listed s (d ∷ ds) (f ∷ fs) a = (a.1, all_listed s ds fs a.3)

-- the heading of a class
pub record ClassHeading (s : Source) (k : ℕ) : Type 0 where
  pub count : length (class_formals s.tables k) ≡ length (class_parameters s (Some k))
  pub places : (place : ℕ) → class_formal s.tables k place ≡ slice_get (class_parameters s (Some k)) place
  pub proper : AllProper s (class_parameters s (Some k))

pub class_heading : (s : Source) → Tabled s → (d : DeclNo) (k : ℕ) → entry_of s.tables d ≡ Some (entry.Class k) → ClassHeading s k
unfolding class_formal
class_heading s known d k e =
    let ds = class_formals s.tables k in
    let fs = class_parameters s (Some k) in
    let both = all_listed s ds fs (known.class_headings d k e) in
    record { count = same_length s ds fs both; places = λ place. same_place s ds fs place both; proper = all_proper s known ds fs both }
