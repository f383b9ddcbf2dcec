-- What holds of the attributes of `simulation` itself, which are found neither behind a dot nor through a connection.
use Rattle.std.proofs.Common.{◌≡◌, inl, inr, ℕ, zero, suc, Bool, true, false, length, Option, Some, None, refl, sym, ap, ◌∙◌, arith}
use Rattle.std.proofs.lemmas.Bool.{false≢true}
use Rattle.std.proofs.lemmas.Bool.Decides.{nat_tests}
use Rattle.std.specs.Prelude.{◌||◌, nat_eq, slice_get}
use Rattle.sim_base.specs.declared.numbering.DeclNo.{DeclNo}
use Rattle.sim_scope.specs.declared.types.Entry.{Entry}
use Rattle.sim_scope.specs.declared.types.Entry.TheVariants as entry
use Rattle.sim_scope.specs.declared.types.SimType.{SimType}
use Rattle.sim_scope.specs.declared.types.StandardPrefix.{StandardPrefix}
use Rattle.sim_scope.specs.declared.types.StandardPrefix.TheVariants as prefix
use Rattle.sim_scope.specs.Levels.{base, has_classes, has_level, holds, holds_class, holds_class_in, is_simulation, is_simulation_block, is_standard, some_level_of, standard_in}
use Rattle.sim_scope.specs.Scopes.{entry_of}
use Rattle.sim_scope.specs.Source.{Source}
use Rattle.sim_scope.specs.Tables.{BlockOf, Tables}
use Rattle.sim_values.specs.declared.standard.Standard.{Standard}
use Rattle.sim_code.specs.Sets.{is_attribute_name}
use Rattle.sim_code.specs.Simulations.{is_simulation_name}
use Rattle.sim_meaning.specs.Attributes.{is_connection}
use Rattle.sim_meaning.specs.Texts.{text}
use Rattle.sim_agree.specs.Facts.{IsAttribute, Tabled}

-- what holds of a level holds of some level
pub some_holds : (s : Tables) (n k b : ℕ) (test : ℕ → Bool) → test b ≡ true → some_level_of s n (λ x. nat_eq x b) k ≡ true → some_level_of s n test k ≡ true
unfolding some_level_of
some_holds s zero k b test h e = absurd (cc)
some_holds s (suc n) k b test h e = go (nat_eq k b) refl (base s k) e (λ c f. some_holds s n c b test h f)
  where
    or_true : (x y : Bool) → y ≡ true → (x || y) ≡ true
    or_true true y f = refl
    or_true false y f = f

    go : (z : Bool) → nat_eq k b ≡ z → (o : Option ℕ) → (z || holds (λ x. some_level_of s n (λ x. nat_eq x b) x) o) ≡ true → ((c : ℕ) → some_level_of s n (λ x. nat_eq x b) c ≡ true → some_level_of s n test c ≡ true) → (test k || holds (λ x. some_level_of s n test x) o) ≡ true
    go true is o f rest = let same : k ≡ b = grind (arith, nat_tests) in ap (λ z. z || holds (λ x. some_level_of s n test x) o) (ap test same ∙ h)
    go false is None f rest = absurd (cc)
    go false is (Some c) f rest = or_true (test k) _ (rest c f)

-- what has `simulation` in front declares classes
simulation_holds : (s : Tables) (k : ℕ) → is_simulation_block s k ≡ true → holds_class s k ≡ true
unfolding is_simulation_block holds_class
simulation_holds s k e = go (slice_get s.blocks k) e
  where
    or_true : (x y : Bool) → y ≡ true → (x || y) ≡ true
    or_true true y f = refl
    or_true false y f = f

    known : (o : Option StandardPrefix) → is_simulation o ≡ true → is_standard o ≡ true
    known None f = absurd (false≢true f)
    known (Some prefix.Simset) f = refl
    known (Some prefix.Simulation) f = refl

    go : (o : Option BlockOf) → is_simulation (standard_in o) ≡ true → holds_class_in o ≡ true
    go None f = absurd (false≢true f)
    go (Some row) f = or_true row.has_class (is_standard row.standard) (known row.standard f)

-- and so does what has it among its levels
pub level_classes : (s : Tables) (c k : ℕ) → has_level s c k ≡ true → is_simulation_block s k ≡ true → has_classes s c ≡ true
unfolding has_level has_classes
level_classes s c k level e = some_holds s (length s.blocks) c k (holds_class s) (simulation_holds s k e) level

-- so nothing that has it is connected
pub never_connected : (s : Source) → Tabled s → (b c k : ℕ) → is_connection (text s b) ≡ true → base s.tables b ≡ Some c → has_level s.tables c k ≡ true → is_simulation_block s.tables k ≡ true → ⊥
never_connected s known b c k is e level simulates = false≢true (sym (known.connected b c is e) ∙ level_classes s.tables c k level simulates)

-- ---- attributes

-- an attribute of a standard class, or no attribute
abbrev pub AttributeThere : Option Entry → Type 0
AttributeThere (Some (entry.Attribute name w result)) = is_attribute_name name ≡ true
AttributeThere _ = Unit {0}

-- an attribute is one of these
abbrev pub EitherAttribute : Option Entry → Type 0
EitherAttribute (Some (entry.Attribute name w result)) = IsAttribute name
EitherAttribute _ = Unit {0}

pub either_attribute : (s : Source) → Tabled s → (d : DeclNo) → EitherAttribute (entry_of s.tables d)
either_attribute s known d = go (entry_of s.tables d) refl
  where
    go : (o : Option Entry) → entry_of s.tables d ≡ o → EitherAttribute o
    go (Some (entry.Attribute name w result)) e = (known.proper d (entry.Attribute name w result) e).0
    go (Some (entry.Variable type)) e = tt
    go (Some (entry.Constant type)) e = tt
    go (Some (entry.Array type n)) e = tt
    go (Some (entry.Procedure result k)) e = tt
    go (Some (entry.Class k)) e = tt
    go (Some (entry.Virtual result own)) e = tt
    go (Some (entry.Formal f)) e = tt
    go (Some (entry.Unspecified w)) e = tt
    go None e = tt

-- what is none of `simulation` itself is one of a class
pub of_class : (name : Standard) → IsAttribute name → is_simulation_name name ≡ false → is_attribute_name name ≡ true
of_class name (inl e) other = e
of_class name (inr e) other = absurd (false≢true (sym other ∙ e))

-- none of `simulation` itself is there, if it would simulate what does not
pub attribute_there : (s : Source) → Tabled s → (d : DeclNo) → ((name : Standard) (w result : Option SimType) → is_simulation_name name ≡ true → (entry_of s.tables d ≡ Some (entry.Attribute name w result) → ⊥)) → AttributeThere (entry_of s.tables d)
attribute_there s known d never = go (entry_of s.tables d) refl (either_attribute s known d)
  where
    go : (o : Option Entry) → entry_of s.tables d ≡ o → EitherAttribute o → AttributeThere o
    go (Some (entry.Attribute name w result)) e a = test (is_simulation_name name) refl
      where
        test : (b : Bool) → is_simulation_name name ≡ b → is_attribute_name name ≡ true
        test true is = absurd (never name w result is e)
        test false is = of_class name a is
    go (Some (entry.Variable type)) e a = tt
    go (Some (entry.Constant type)) e a = tt
    go (Some (entry.Array type n)) e a = tt
    go (Some (entry.Procedure result k)) e a = tt
    go (Some (entry.Class k)) e a = tt
    go (Some (entry.Virtual result own)) e a = tt
    go (Some (entry.Formal f)) e a = tt
    go (Some (entry.Unspecified w)) e a = tt
    go None e a = tt
