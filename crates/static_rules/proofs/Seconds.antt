-- What the second round finds is what breaks a clause of it.
use Rattle.std.proofs.Common.{◌≡◌, inl, inr, ℕ, Bool, true, false, if◌then◌else◌, not, [], ◌++◌, Option, Some, None, refl, sym, ap, ◌∙◌, subst}
use Rattle.std.specs.Prelude.{◌||◌, slice_get}
use Rattle.sim_base.specs.declared.numbering.DeclNo.{DeclNo}
use Rattle.sim_base.specs.declared.rule.Rule.TheVariants as r
use Rattle.sim_tree.specs.Syntax.{Program}
use Rattle.sim_scope.specs.Access.{hides, protector}
use Rattle.sim_scope.specs.Found.{fault}
use Rattle.sim_scope.specs.Least.{Among, here}
use Rattle.sim_scope.specs.Levels.{base, class_block, holds, is_for_prefixing, some_level}
use Rattle.sim_scope.specs.Runs.{each}
use Rattle.sim_scope.specs.Scopes.{binding, entry_of, lookup}
use Rattle.sim_scope.specs.Tables.{Tables}
use Rattle.sim_scope.specs.declared.found.Fault.{Fault}
use Rattle.sim_scope.specs.declared.scopes.Declaration.{Declaration}
use Rattle.sim_scope.specs.declared.scopes.Denotation.{Denotation}
use Rattle.sim_scope.specs.declared.scopes.Denotation.TheVariants as denotation
use Rattle.sim_scope.specs.declared.scopes.Protection.{Protection}
use Rattle.sim_scope.specs.declared.scopes.Qualification.{Qualification}
use Rattle.sim_scope.specs.declared.types.Entry.{Entry}
use Rattle.sim_scope.specs.declared.types.Entry.TheVariants as entry
use Rattle.virtual_match.specs.Matching.{all_match_faults, fits_virtual, is_procedure, match_fault, match_faults, virtual_for}
use Rattle.virtual_match.specs.Protections.{hides_nothing, is_declared, is_hidden_outside, protection_faults, protects_nothing, second_faults}
use Rattle.virtual_match.specs.Qualifying.{class_denoted, class_unless, class_with_block, class_written, fault_unless, qualification_faults}
use Rattle.static_rules.specs.Rules.{Breaks, Second, s7, s8, s9}
use Rattle.static_rules.specs.SecondRound.{IsNoMatch, IsNoQualification, IsNotProtected, MatchDoesNotFit, ProtectionOfNoAttribute, QualificationIsNoClass, hidden_outside, in_protection, no_class, no_procedure, not_declared, not_of_level, not_protected, of_references, of_virtual, only_for_prefixing, other_result, standard_name, whole_tables}
use Rattle.static_rules.proofs.Lists.{among_either, among_left, among_one, among_right, each_has, from_row_test, some_each, to_row_test}
use Rattle.static_rules.proofs.Tests.{and_both, and_first, and_second, not_false, not_true, or_first, or_second, or_true}

-- ---- qualifications

no_qualification : (s : Tables) (o : Option Denotation) (token : ℕ) (y : Fault) → Among (fault_unless token (class_denoted s o)) y → IsNoQualification s o × (fault token r.QualificationIsNoClass ≡ y)
no_qualification s None token y h = (not_declared, among_one h)
no_qualification s (Some (denotation.Standard name)) token y h = (standard_name, among_one h)
no_qualification s (Some (denotation.Declared d)) token y h = go (class_block s d) refl h
  where
    with_block : (block : ℕ) → class_block s d ≡ Some block → (c : Bool) → is_for_prefixing s block ≡ c → Among (fault_unless token (class_unless d c)) y → IsNoQualification s (Some (denotation.Declared d)) × (fault token r.QualificationIsNoClass ≡ y)
    with_block block at true is k = (only_for_prefixing at is, among_one k)
    with_block block at false is k = elim k [ ]

    go : (o : Option ℕ) → class_block s d ≡ o → Among (fault_unless token (class_with_block s d o)) y → IsNoQualification s (Some (denotation.Declared d)) × (fault token r.QualificationIsNoClass ≡ y)
    go None at k = (no_class at, among_one k)
    go (Some block) at k = with_block block at (is_for_prefixing s block) refl k

qualification_from : (p : Program) (y : Fault) → Among (each (qualification_faults (whole_tables p)) (whole_tables p).qualifications) y → Breaks p Second y
unfolding qualification_faults class_written
qualification_from p y h =
    let s : Tables = whole_tables p in
    let d = some_each (qualification_faults s) s.qualifications y h in
    let q : Qualification = d.1 in
    let is = no_qualification s (binding s q.class.token.0 q.class.name) q.class.token.0 y d.3 in subst (Breaks p Second) is.1 (s7 (of_references d.0 d.2 is.0))

no_class_to : (s : Tables) (o : Option Denotation) → IsNoQualification s o → class_denoted s o ≡ None
no_class_to s _ not_declared = refl
no_class_to s _ standard_name = refl
no_class_to s _ (no_class {d = d} at) = ap (class_with_block s d) at
no_class_to s _ (only_for_prefixing {d = d} {block = block} at is) = ap (class_with_block s d) at ∙ ap (class_unless d) is

qualification_to : (p : Program) (token : ℕ) → QualificationIsNoClass p token → Among (each (qualification_faults (whole_tables p)) (whole_tables p).qualifications) (fault token r.QualificationIsNoClass)
unfolding qualification_faults class_written
qualification_to p _ (of_references i {q = q} at is) =
    let s : Tables = whole_tables p in
    let y : Fault = fault q.class.token.0 r.QualificationIsNoClass in
    each_has (qualification_faults s) s.qualifications i q y at (subst (λ o. Among (fault_unless q.class.token.0 o) y) (sym (no_class_to s (binding s q.class.token.0 q.class.name) is)) here)

-- ---- virtuals

unfit : (s : Tables) (virtual : Option Entry) (e : Entry) → fits_virtual s e virtual ≡ false → IsNoMatch s virtual e
unfit s virtual (entry.Variable ty) h = no_procedure refl
unfit s virtual (entry.Constant ty) h = no_procedure refl
unfit s virtual (entry.Array element dimensions) h = no_procedure refl
unfit s virtual (entry.Procedure result block) h = other_result h
unfit s virtual (entry.Class block) h = no_procedure refl
unfit s virtual (entry.Virtual result own) h = no_procedure refl
unfit s virtual (entry.Formal f) h = no_procedure refl
unfit s virtual (entry.Unspecified written) h = no_procedure refl
unfit s virtual (entry.Attribute name parameter result) h = no_procedure refl

not_fitting : (s : Tables) (virtual : Option Entry) (e : Entry) → is_procedure e ≡ false → fits_virtual s e virtual ≡ false
not_fitting s virtual (entry.Variable ty) h = refl
not_fitting s virtual (entry.Constant ty) h = refl
not_fitting s virtual (entry.Array element dimensions) h = refl
not_fitting s virtual (entry.Procedure result block) h = absurd (cc)
not_fitting s virtual (entry.Class block) h = refl
not_fitting s virtual (entry.Virtual result own) h = refl
not_fitting s virtual (entry.Formal f) h = refl
not_fitting s virtual (entry.Unspecified written) h = refl
not_fitting s virtual (entry.Attribute name parameter result) h = refl

unfit_to : (s : Tables) (virtual : Option Entry) (e : Entry) → IsNoMatch s virtual e → fits_virtual s e virtual ≡ false
unfit_to s virtual e (no_procedure h) = not_fitting s virtual e h
unfit_to s virtual _ (other_result h) = h

module _ (p : Program) (i : ℕ) (row : Declaration) (at : slice_get (whole_tables p).declarations i ≡ Some row) where
  fit_from : (y : Fault) → (row.listed || is_procedure row.entry) ≡ true → (o : Option DeclNo) → virtual_for (whole_tables p) row ≡ o → Among (match_fault (whole_tables p) row o) y → Breaks p Second y
  fit_from y may None is h = elim h [ ]
  fit_from y may (Some virtual) is h =
      let s : Tables = whole_tables p in
      let fits : Bool = fits_virtual s row.entry (entry_of s virtual) in
      let t = from_row_test (not fits) row.token.0 r.MatchDoesNotFit y h in subst (Breaks p Second) t.1 (s8 (of_virtual i at may is (unfit s (entry_of s virtual) row.entry (not_true fits t.0))))

  may_from : (y : Fault) (c : Bool) → (row.listed || is_procedure row.entry) ≡ c → Among (if c then match_fault (whole_tables p) row (virtual_for (whole_tables p) row) else []) y → Breaks p Second y
  may_from y true may h = fit_from y may (virtual_for (whole_tables p) row) refl h
  may_from y false may h = elim h [ ]

match_from : (p : Program) (y : Fault) → Among (all_match_faults (whole_tables p)) y → Breaks p Second y
unfolding match_faults
match_from p y h =
    let s : Tables = whole_tables p in
    let d = some_each (match_faults s) s.declarations y h in
    let row : Declaration = d.1 in may_from p d.0 row d.2 y (row.listed || is_procedure row.entry) refl d.3

match_to : (p : Program) (token : ℕ) → MatchDoesNotFit p token → Among (all_match_faults (whole_tables p)) (fault token r.MatchDoesNotFit)
unfolding match_faults
match_to p _ (of_virtual i {row = row} {virtual = virtual} at may is unfits) =
    let s : Tables = whole_tables p in
    let y : Fault = fault row.token.0 r.MatchDoesNotFit in
    let fits : Bool = fits_virtual s row.entry (entry_of s virtual) in
    each_has (match_faults s) s.declarations i row y at
    (subst (λ c. Among (if c then match_fault s row (virtual_for s row) else []) y) (sym may)
    (subst (λ o. Among (match_fault s row o) y) (sym is) (to_row_test (not fits) row.token.0 r.MatchDoesNotFit (not_false fits (unfit_to s (entry_of s virtual) row.entry unfits)))))

-- ---- protection parts

not_declared_here : (o : Option DeclNo) → not (is_declared o) ≡ true → o ≡ None
not_declared_here None h = refl
not_declared_here (Some d) h = absurd (cc)

outside_from : (s : Tables) (q : Protection) (level : ℕ) → q.hides ≡ true → protector s q.block q.attribute.name ≡ Some level → (o : Option ℕ) → base s q.block ≡ o → holds (λ b. some_level s (hides s level q.attribute.name) b) o ≡ true → IsNotProtected s q
outside_from s q level hidden at None is h = absurd (cc)
outside_from s q level hidden at (Some outside) is h = hidden_outside hidden at is h

hidden_from : (s : Tables) (q : Protection) → q.hides ≡ true → (o : Option ℕ) → protector s q.block q.attribute.name ≡ o → is_hidden_outside s q o ≡ true → IsNotProtected s q
hidden_from s q hidden None at h = not_protected hidden at
hidden_from s q hidden (Some level) at h = outside_from s q level hidden at (base s q.block) refl h

wrong_from : (s : Tables) (q : Protection) → (protects_nothing s q || hides_nothing s q) ≡ true → IsNotProtected s q
wrong_from s q h =
    let declared : Option DeclNo = lookup s q.block q.attribute.name in
    let outside : Bool = is_hidden_outside s q (protector s q.block q.attribute.name) in
    elim (or_true (protects_nothing s q) (hides_nothing s q) h) [
      | inl k ↦ not_of_level (and_first q.protects (not (is_declared declared)) k) (not_declared_here declared (and_second q.protects (not (is_declared declared)) k))
      | inr k ↦ hidden_from s q (and_first q.hides outside k) (protector s q.block q.attribute.name) refl (and_second q.hides outside k)
    ]

wrong_to : (s : Tables) (q : Protection) → IsNotProtected s q → (protects_nothing s q || hides_nothing s q) ≡ true
wrong_to s q (not_of_level keeps none) =
    or_first (protects_nothing s q) (hides_nothing s q) (and_both q.protects (not (is_declared (lookup s q.block q.attribute.name))) keeps (ap (λ o. not (is_declared o)) none))
wrong_to s q (not_protected hidden none) =
    or_second (protects_nothing s q) (hides_nothing s q) (and_both q.hides (is_hidden_outside s q (protector s q.block q.attribute.name)) hidden (ap (is_hidden_outside s q) none))
wrong_to s q (hidden_outside {level = level} hidden at is h) =
    or_second (protects_nothing s q) (hides_nothing s q) (and_both q.hides (is_hidden_outside s q (protector s q.block q.attribute.name)) hidden
    (ap (is_hidden_outside s q) at ∙ ap (holds (λ b. some_level s (hides s level q.attribute.name) b)) is ∙ h))

protection_from : (p : Program) (y : Fault) → Among (each (protection_faults (whole_tables p)) (whole_tables p).protections) y → Breaks p Second y
unfolding protection_faults
protection_from p y h =
    let s : Tables = whole_tables p in
    let d = some_each (protection_faults s) s.protections y h in
    let q : Protection = d.1 in
    let t = from_row_test (protects_nothing s q || hides_nothing s q) q.attribute.token.0 r.ProtectionOfNoAttribute y d.3 in subst (Breaks p Second) t.1 (s9 (in_protection d.0 d.2 (wrong_from s q t.0)))

protection_to : (p : Program) (token : ℕ) → ProtectionOfNoAttribute p token → Among (each (protection_faults (whole_tables p)) (whole_tables p).protections) (fault token r.ProtectionOfNoAttribute)
unfolding protection_faults
protection_to p _ (in_protection i {q = q} at is) =
    let s : Tables = whole_tables p in
    each_has (protection_faults s) s.protections i q (fault q.attribute.token.0 r.ProtectionOfNoAttribute) at (to_row_test (protects_nothing s q || hides_nothing s q) q.attribute.token.0 r.ProtectionOfNoAttribute (wrong_to s q is))

-- ---- the round

pub second_found : (p : Program) (y : Fault) → Among (second_faults (whole_tables p)) y → Breaks p Second y
unfolding second_faults
second_found p y h =
    let s : Tables = whole_tables p in
    elim (among_either (each (qualification_faults s) s.qualifications) (all_match_faults s ++ each (protection_faults s) s.protections) y h) [
      | inl l ↦ qualification_from p y l
      | inr k ↦ elim (among_either (all_match_faults s) (each (protection_faults s) s.protections) y k) [ inl l ↦ match_from p y l | inr l ↦ protection_from p y l ]
    ]

pub second_broken : (p : Program) (y : Fault) → Breaks p Second y → Among (second_faults (whole_tables p)) y
unfolding second_faults
second_broken p _ (s7 {token = t} h) = among_left (all_match_faults (whole_tables p) ++ each (protection_faults (whole_tables p)) (whole_tables p).protections) (qualification_to p t h)
second_broken p _ (s8 {token = t} h) =
    among_right (each (qualification_faults (whole_tables p)) (whole_tables p).qualifications) (among_left (each (protection_faults (whole_tables p)) (whole_tables p).protections) (match_to p t h))
second_broken p _ (s9 {token = t} h) =
    among_right (each (qualification_faults (whole_tables p)) (whole_tables p).qualifications) (among_right (all_match_faults (whole_tables p)) (protection_to p t h))
