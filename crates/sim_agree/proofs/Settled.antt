-- Tables that differ in what connections connect that are not around an expression: names denote the same in it.
use Rattle.std.proofs.Common.{◌≡◌, ℕ, zero, suc, Bool, true, false, List, ◌++◌, length, Option, Some, None, refl, sym, ap, ◌∙◌, if◌then◌else◌}
use Rattle.std.specs.Prelude.{◌&&◌, ◌||◌, nat_eq, not, slice_get}
use Rattle.std.specs.Option.{option_or}
use Rattle.sim_base.specs.declared.numbering.DeclNo.{DeclNo}
use Rattle.sim_base.specs.declared.rule.Rule.TheVariants as r
use Rattle.sim_scope.specs.declared.scopes.Declaration.{Declaration}
use Rattle.sim_scope.specs.declared.scopes.Denotation.{Denotation}
use Rattle.sim_scope.specs.declared.scopes.Denotation.TheVariants as denotation
use Rattle.sim_scope.specs.declared.standard.StandardName.{StandardName}
use Rattle.sim_scope.specs.declared.standard.StandardName.TheVariants as standard
use Rattle.sim_scope.specs.declared.types.Entry.{Entry}
use Rattle.sim_scope.specs.declared.types.Entry.TheVariants as entry
use Rattle.sim_scope.specs.declared.types.SimType.{SimType}
use Rattle.sim_scope.specs.declared.types.SimType.TheVariants as t
use Rattle.sim_scope.specs.declared.types.StandardPrefix.TheVariants as prefix
use Rattle.sim_scope.specs.Access.{around as around_in, block_at, encloser, holds_at, joined, kind_in, some_around, some_around_of, is_connection, is_kind}
use Rattle.sim_scope.specs.Along.{first_along, from_next}
use Rattle.sim_scope.specs.Calls.{attribute_in, detach_or_none}
use Rattle.sim_scope.specs.Levels.{base, base_in, both_blocks, class_block, class_block_in, has_classes, has_level, has_standard, holds, holds_class, holds_class_in, is_for_prefixing, is_in_chain, is_simulation, is_simulation_block, is_standard, level_beyond, on_one_chain, owner_in, owner_of_level, shared_class, shared_level_of, shared_of, some_level_of, standard_in}
use Rattle.sim_scope.specs.Operators.{common_type, misfit_of, reference_to}
use Rattle.sim_scope.specs.References.{block_of_class, is_this, level_is, this_block, this_of}
use Rattle.sim_scope.specs.Scopes.{beyond, binding, block_in, class_formal, class_formals, class_formals_of, declaration_from, declared_in, declared_or_standard, detach_in, ends_search, entry_in, entry_is, entry_of, formal_declared, formal_in, formal_of, formals_at, formals_beyond, formals_in, formals_of, found_in, if_found, is_detach, is_passed_over, is_procedure_entry, is_shown, is_virtual, level_shows, lookup, or_itself, outward, represented, represented_row, searched, shown, shown_of, shows_detach, standard_at, virtual_among, virtual_of}
use Rattle.sim_scope.specs.Standard.{standard_name}
use Rattle.sim_scope.specs.Tables.{Tables}
use Rattle.sim_agree.proofs.Completing.{bare_row}
use Rattle.sim_agree.proofs.Accessible.{shows_same, standing}

-- The same block: also what it connects.
abbrev pub Settled : Tables → Tables → ℕ → Type 0
Settled T C k = slice_get T.blocks k ≡ slice_get C.blocks k

-- Tables that are the same but for what some connections connect, none of which is one of these blocks; and what is around a block of these is one.
pub record Alike (T C : Tables) (Here : ℕ → Type 0) : Type 0 where
  pub size : length T.blocks ≡ length C.blocks
  pub places : T.places ≡ C.places
  pub declarations : T.declarations ≡ C.declarations
  pub kinds : (k : ℕ) → kind_in (slice_get T.blocks k) ≡ kind_in (slice_get C.blocks k)
  pub rows : (k : ℕ) → bare_row (slice_get T.blocks k) ≡ bare_row (slice_get C.blocks k)
  pub solid : (k : ℕ) → is_kind is_connection C k ≡ false → Settled T C k
  pub here : (k : ℕ) → Here k → Settled T C k
  pub outward : (k j : ℕ) → Here k → encloser T k ≡ Some j → Here j
  pub levels : (k j : ℕ) → Settled T C k → base T k ≡ Some j → Settled T C j
  pub bodies : (d : DeclNo) (k : ℕ) → block_in (entry_of T d) ≡ Some k → Settled T C k
  pub standards : (k : ℕ) → standard_in (slice_get T.blocks k) ≡ standard_in (slice_get C.blocks k)
  pub stand : (d : DeclNo) (row : Declaration) → slice_get T.declarations d.0 ≡ Some row → Settled T C row.block

module _ (T C : Tables) (Here : ℕ → Type 0) (a : Alike T C Here) where
  -- ---- declarations

  pub entry_same : (d : DeclNo) → entry_of T d ≡ entry_of C d
  unfolding entry_of
  entry_same d = ap (λ (ds : List Declaration). entry_in (slice_get ds d.0)) a.declarations

  pub class_same : (d : DeclNo) → class_block T d ≡ class_block C d
  unfolding class_block
  class_same d = ap (λ (ds : List Declaration). class_block_in (elim (slice_get ds d.0) [ None ↦ None | Some row ↦ Some row.entry ])) a.declarations

  pub class_settled : (d : DeclNo) (k : ℕ) → class_block T d ≡ Some k → Settled T C k
  unfolding class_block entry_of
  class_settled d k e = a.bodies d k (go (slice_get T.declarations d.0) e)
    where
      of_entry : (x : Entry) → class_block_in (Some x) ≡ Some k → block_in (Some x) ≡ Some k
      of_entry (entry.Class m) f = f
      of_entry (entry.Variable ty) f = absurd (cc)
      of_entry (entry.Constant ty) f = absurd (cc)
      of_entry (entry.Array ty m) f = absurd (cc)
      of_entry (entry.Procedure result m) f = absurd (cc)
      of_entry (entry.Virtual result m) f = absurd (cc)
      of_entry (entry.Formal x) f = absurd (cc)
      of_entry (entry.Unspecified w) f = absurd (cc)
      of_entry (entry.Attribute name given result) f = absurd (cc)

      go : (o : Option Declaration) → class_block_in (elim o [ None ↦ None | Some row ↦ Some row.entry ]) ≡ Some k → block_in (entry_in o) ≡ Some k
      go None f = absurd (cc)
      go (Some row) f = of_entry row.entry f

  pub formals_same : (d : DeclNo) → formals_of T d ≡ formals_of C d
  unfolding formals_of
  formals_same d = go (block_in (entry_of T d)) refl ∙ ap (λ z. formals_at C (block_in z)) (entry_same d)
    where
      go : (o : Option ℕ) → block_in (entry_of T d) ≡ o → formals_at T o ≡ formals_at C o
      go None at = refl
      go (Some k) at = ap formals_in (a.bodies d k at)

  formal_declared_same : (o : Option DeclNo) → formal_declared T o ≡ formal_declared C o
  formal_declared_same None = refl
  formal_declared_same (Some d) = ap formal_in (entry_same d)

  pub formal_same : (d : DeclNo) (place : ℕ) → formal_of T d place ≡ formal_of C d place
  unfolding formal_of
  formal_same d place = ap (λ (z : List DeclNo). formal_declared T (slice_get z place)) (formals_same d) ∙ formal_declared_same (slice_get (formals_of C d) place)

  -- ---- levels

  base_same : (k : ℕ) → Settled T C k → base T k ≡ base C k
  unfolding base
  base_same k e = ap base_in e

  some_level_same : (n : ℕ) (p q : ℕ → Bool) → ((k : ℕ) → Settled T C k → p k ≡ q k) → (k : ℕ) → Settled T C k → some_level_of T n p k ≡ some_level_of C n q k
  unfolding some_level_of
  some_level_same zero p q h k e = refl
  some_level_same (suc n) p q h k e =
      ap (λ z. z || holds (λ b. some_level_of T n p b) (base T k)) (h k e)
      ∙ ap (λ z. q k || z) (go (base T k) refl (λ j f. some_level_same n p q h j f) ∙ ap (λ z. holds (λ b. some_level_of C n q b) z) (base_same k e))
    where
      go : (o : Option ℕ) → base T k ≡ o → ((j : ℕ) → Settled T C j → some_level_of T n p j ≡ some_level_of C n q j) → holds (λ b. some_level_of T n p b) o ≡ holds (λ b. some_level_of C n q b) o
      go None at rest = refl
      go (Some j) at rest = rest j (a.levels k j e at)

  pub level_same : (k j : ℕ) → Settled T C k → has_level T k j ≡ has_level C k j
  unfolding has_level
  level_same k j e = ap (λ n. some_level_of T n (λ b. nat_eq b j) k) a.size ∙ some_level_same (length C.blocks) (λ b. nat_eq b j) (λ b. nat_eq b j) (λ i f. refl) k e

  pub classes_same : (k : ℕ) → Settled T C k → has_classes T k ≡ has_classes C k
  unfolding has_classes holds_class
  classes_same k e = ap (λ n. some_level_of T n (holds_class T) k) a.size ∙ some_level_same (length C.blocks) (holds_class T) (holds_class C) (λ i f. ap holds_class_in f) k e

  simulation_same : (k : ℕ) → Settled T C k → is_simulation_block T k ≡ is_simulation_block C k
  unfolding is_simulation_block
  simulation_same k e = ap (λ z. is_simulation (standard_in z)) e

  standard_block_same : (k : ℕ) → Settled T C k → has_standard T k ≡ has_standard C k
  unfolding has_standard
  standard_block_same k e = ap (λ z. is_standard (standard_in z)) e

  pub prefixing_same : (k : ℕ) → Settled T C k → is_for_prefixing T k ≡ is_for_prefixing C k
  unfolding is_for_prefixing
  prefixing_same k e = ap (λ n. some_level_of T n (is_simulation_block T) k) a.size ∙ some_level_same (length C.blocks) (is_simulation_block T) (is_simulation_block C) simulation_same k e

  class_formals_of_same : (n k : ℕ) → Settled T C k → class_formals_of T n k ≡ class_formals_of C n k
  unfolding class_formals_of
  class_formals_of_same zero k e = refl
  class_formals_of_same (suc n) k e =
      ap (λ z. z ++ formals_at T (Some k)) (go (base T k) refl (λ j f. class_formals_of_same n j f) ∙ ap (λ z. formals_beyond (λ b. class_formals_of C n b) z) (base_same k e))
      ∙ ap (λ z. formals_beyond (λ b. class_formals_of C n b) (base C k) ++ formals_in z) e
    where
      go : (o : Option ℕ) → base T k ≡ o → ((j : ℕ) → Settled T C j → class_formals_of T n j ≡ class_formals_of C n j) → formals_beyond (λ b. class_formals_of T n b) o ≡ formals_beyond (λ b. class_formals_of C n b) o
      go None at rest = refl
      go (Some j) at rest = rest j (a.levels k j e at)

  pub class_formals_same : (k : ℕ) → Settled T C k → class_formals T k ≡ class_formals C k
  unfolding class_formals
  class_formals_same k e = ap (λ n. class_formals_of T n k) a.size ∙ class_formals_of_same (length C.blocks) k e

  pub class_formal_same : (k place : ℕ) → Settled T C k → class_formal T k place ≡ class_formal C k place
  unfolding class_formal
  class_formal_same k place e = ap (λ (z : List DeclNo). formal_declared T (slice_get z place)) (class_formals_same k e) ∙ formal_declared_same (slice_get (class_formals C k) place)

  pub chain_same : (c d : DeclNo) → is_in_chain T c d ≡ is_in_chain C c d
  unfolding is_in_chain
  chain_same c d =
      go (class_block T c) (class_block T d) refl ∙ ap (λ z. both_blocks (has_level C) z (class_block T d)) (class_same c) ∙ ap (λ z. both_blocks (has_level C) (class_block C c) z) (class_same d)
    where
      go : (o q : Option ℕ) → class_block T c ≡ o → both_blocks (has_level T) o q ≡ both_blocks (has_level C) o q
      go None q at = refl
      go (Some k) None at = refl
      go (Some k) (Some j) at = level_same k j (class_settled c k at)

  pub one_chain_same : (c d : DeclNo) → on_one_chain T c d ≡ on_one_chain C c d
  unfolding on_one_chain
  one_chain_same c d = ap (λ z. z || is_in_chain T d c) (chain_same c d) ∙ ap (λ z. is_in_chain C c d || z) (chain_same d c)

  shared_level_same : (n other k : ℕ) → Settled T C other → Settled T C k → owner_of_level T (shared_level_of T n other k) ≡ owner_of_level C (shared_level_of C n other k)
  unfolding shared_level_of
  shared_level_same zero other k f e = refl
  shared_level_same (suc n) other k f e =
      go (has_level T other k) (base T k) refl (λ j g. shared_level_same n other j f g)
      ∙ ap (λ z. owner_of_level C (if z then Some k else level_beyond (λ b. shared_level_of C n other b) (base T k))) (level_same other k f)
      ∙ ap (λ z. owner_of_level C (if has_level C other k then Some k else level_beyond (λ b. shared_level_of C n other b) z)) (base_same k e)
    where
      go : (z : Bool) (o : Option ℕ) → base T k ≡ o → ((j : ℕ) → Settled T C j → owner_of_level T (shared_level_of T n other j) ≡ owner_of_level C (shared_level_of C n other j))
          → owner_of_level T (if z then Some k else level_beyond (λ b. shared_level_of T n other b) o) ≡ owner_of_level C (if z then Some k else level_beyond (λ b. shared_level_of C n other b) o)
      go true o at rest = ap owner_in e
      go false None at rest = refl
      go false (Some j) at rest = rest j (a.levels k j e at)

  shared_same : (c d : DeclNo) → shared_class T c d ≡ shared_class C c d
  unfolding shared_class
  shared_same c d =
      go (class_block T c) (class_block T d) refl refl ∙ ap (λ z. shared_of C z (class_block T d)) (class_same c) ∙ ap (λ z. shared_of C (class_block C c) z) (class_same d)
    where
      go : (o q : Option ℕ) → class_block T c ≡ o → class_block T d ≡ q → shared_of T o q ≡ shared_of C o q
      go None q at at' = refl
      go (Some k) None at at' = refl
      go (Some k) (Some j) at at' = ap (λ n. owner_of_level T (shared_level_of T n j k)) a.size ∙ shared_level_same (length C.blocks) j k (class_settled d j at') (class_settled c k at)

  pub misfit_same : (x y : SimType) → misfit_of T x y ≡ misfit_of C x y
  unfolding misfit_of
  misfit_same t.Integer y = refl
  misfit_same t.Boolean y = refl
  misfit_same t.Character y = refl
  misfit_same t.Text y = refl
  misfit_same t.NoneType y = refl
  misfit_same (t.Ref c) (t.Ref d) = ap (λ z. if z then None else Some r.DifferentChains) (one_chain_same c d)
  misfit_same (t.Ref c) t.Integer = refl
  misfit_same (t.Ref c) t.Boolean = refl
  misfit_same (t.Ref c) t.Character = refl
  misfit_same (t.Ref c) t.Text = refl
  misfit_same (t.Ref c) t.NoneType = refl

  pub common_same : (x y : SimType) → common_type T x y ≡ common_type C x y
  unfolding common_type
  common_same t.Integer y = refl
  common_same t.Boolean y = refl
  common_same t.Character y = refl
  common_same t.Text y = refl
  common_same t.NoneType t.Integer = refl
  common_same t.NoneType t.Boolean = refl
  common_same t.NoneType t.Character = refl
  common_same t.NoneType t.Text = refl
  common_same t.NoneType (t.Ref d) = refl
  common_same t.NoneType t.NoneType = refl
  common_same (t.Ref c) (t.Ref d) = ap reference_to (shared_same c d)
  common_same (t.Ref c) t.Integer = refl
  common_same (t.Ref c) t.Boolean = refl
  common_same (t.Ref c) t.Character = refl
  common_same (t.Ref c) t.Text = refl
  common_same (t.Ref c) t.NoneType = refl

  -- ---- what a block shows

  level_shows_same : (from : Option ℕ) (k : ℕ) (name : List ℕ) → level_shows T from k name ≡ level_shows C from k name
  level_shows_same from k name = shows_same T C (Settled T C) a.rows a.size a.places (λ d. ap (λ (ds : List Declaration). standing (slice_get ds d)) a.declarations) a.solid a.standards base_same a.levels from k name

  shown_of_same : (n : ℕ) (from : Option ℕ) (k : ℕ) (name : List ℕ) → Settled T C k → shown_of T n from k name ≡ shown_of C n from k name
  unfolding shown_of
  shown_of_same zero from k name e = refl
  shown_of_same (suc n) from k name e =
      ap (λ z. option_or z (beyond (λ b. shown_of T n from b name) (base T k))) (level_shows_same from k name)
      ∙ ap (λ z. option_or (level_shows C from k name) z) (go (base T k) refl (λ j f. shown_of_same n from j name f) ∙ ap (λ z. beyond (λ b. shown_of C n from b name) z) (base_same k e))
    where
      go : (o : Option ℕ) → base T k ≡ o → ((j : ℕ) → Settled T C j → shown_of T n from j name ≡ shown_of C n from j name) → beyond (λ b. shown_of T n from b name) o ≡ beyond (λ b. shown_of C n from b name) o
      go None at rest = refl
      go (Some j) at rest = rest j (a.levels k j e at)

  pub shown_same : (from : Option ℕ) (k : ℕ) (name : List ℕ) → Settled T C k → shown T from k name ≡ shown C from k name
  unfolding shown
  shown_same from k name e = ap (λ n. shown_of T n from k name) a.size ∙ shown_of_same (length C.blocks) from k name e

  virtual_among_same : (o : Option DeclNo) → virtual_among T o ≡ virtual_among C o
  virtual_among_same None = refl
  virtual_among_same (Some d) = ap (λ z. if entry_is is_virtual z then Some d else None) (entry_same d)

  lookup_same : (k : ℕ) (name : List ℕ) → Settled T C k → lookup T k name ≡ lookup C k name
  unfolding lookup
  lookup_same k name e = ap (λ o. declared_in o name) e

  virtual_of_same : (n k : ℕ) (name : List ℕ) → Settled T C k → virtual_of T n k name ≡ virtual_of C n k name
  unfolding virtual_of
  virtual_of_same zero k name e = refl
  virtual_of_same (suc n) k name e =
      ap (λ z. option_or z (beyond (λ b. virtual_of T n b name) (base T k))) (virtual_among_same (lookup T k name) ∙ ap (virtual_among C) (lookup_same k name e))
      ∙ ap (λ z. option_or (virtual_among C (lookup C k name)) z) (go (base T k) refl (λ j f. virtual_of_same n j name f) ∙ ap (λ z. beyond (λ b. virtual_of C n b name) z) (base_same k e))
    where
      go : (o : Option ℕ) → base T k ≡ o → ((j : ℕ) → Settled T C j → virtual_of T n j name ≡ virtual_of C n j name) → beyond (λ b. virtual_of T n b name) o ≡ beyond (λ b. virtual_of C n b name) o
      go None at rest = refl
      go (Some j) at rest = rest j (a.levels k j e at)

  represented_same : (d : DeclNo) → represented T d ≡ represented C d
  unfolding represented
  represented_same d = go (slice_get T.declarations d.0) refl ∙ ap (λ (ds : List Declaration). represented_row C d (slice_get ds d.0)) a.declarations
    where
      go : (o : Option Declaration) → slice_get T.declarations d.0 ≡ o → represented_row T d o ≡ represented_row C d o
      go None at = refl
      go (Some row) at = ap (λ z. if is_procedure_entry row.entry then or_itself z d else d) (ap (λ n. virtual_of T n row.block row.name) a.size ∙ virtual_of_same (length C.blocks) row.block row.name (a.stand d row at))

  declared_same : (o : Option DeclNo) (k : Option StandardName) → declared_or_standard T o k ≡ declared_or_standard C o k
  declared_same (Some d) k = ap (λ z. Some (denotation.Declared z)) (represented_same d)
  declared_same None (Some k) = refl
  declared_same None None = refl

  pub attribute_in_same : (token k : ℕ) (name : List ℕ) → Settled T C k → attribute_in T token k name ≡ attribute_in C token k name
  unfolding attribute_in
  attribute_in_same token k name e =
      ap (λ z. declared_or_standard T z (detach_or_none name)) (shown_same (Some token) k name e) ∙ declared_same (shown C (Some token) k name) (detach_or_none name)

  -- ---- outward

  detach_same : (k : ℕ) → Settled T C k → shows_detach T k ≡ shows_detach C k
  unfolding shows_detach
  detach_same k e = ap detach_in e

  ends_same : (k : ℕ) (name : List ℕ) → Settled T C k → ends_search T k name ≡ ends_search C k name
  unfolding ends_search
  ends_same k name e = ap (λ z. is_detach name && z) (detach_same k e)

  encloser_same : (k : ℕ) → Settled T C k → encloser T k ≡ encloser C k
  unfolding encloser
  encloser_same k e = ap around_in e

  outward_same : (k : ℕ) (name : List ℕ) → Settled T C k → outward T k name ≡ outward C k name
  unfolding outward
  outward_same k name e = ap (λ z. if z then None else encloser T k) (ends_same k name e) ∙ ap (λ z. if ends_search C k name then None else z) (encloser_same k e)

  goes_outward : (k j : ℕ) (name : List ℕ) → Here k → outward T k name ≡ Some j → Here j
  unfolding outward
  goes_outward k j name h e = go (ends_search T k name) e
    where
      go : (z : Bool) → (if z then None else encloser T k) ≡ Some j → Here j
      go true f = absurd (cc)
      go false f = a.outward k j h f

  searched_same : (from : Option ℕ) (n k : ℕ) (name : List ℕ) → Here k → searched T from n k name ≡ searched C from n k name
  unfolding searched
  searched_same from zero k name h = refl
  searched_same from (suc n) k name h =
      ap (λ z. option_or z (beyond (λ b. searched T from n b name) (outward T k name))) (shown_same from k name (a.here k h))
      ∙ ap (λ z. option_or (shown C from k name) z) (further (outward T k name) (λ j e. goes_outward k j name h e) (λ j g. searched_same from n j name g) ∙ ap (λ z. beyond (λ b. searched C from n b name) z) (outward_same k name (a.here k h)))
    where
      further : (o : Option ℕ) → ((j : ℕ) → o ≡ Some j → Here j) → ((j : ℕ) → Here j → searched T from n j name ≡ searched C from n j name) → beyond (λ b. searched T from n b name) o ≡ beyond (λ b. searched C from n b name) o
      further None g rest = refl
      further (Some j) g rest = rest j (g j refl)

  -- ---- at a token in one of the blocks

  pub record Stands (token : ℕ) : Type 0 where
    pub block : ℕ
    pub at : block_at T token ≡ Some block
    pub there : Here block

  pub place_same : (token : ℕ) → block_at T token ≡ block_at C token
  unfolding block_at
  place_same token = ap (λ (ps : List (Option ℕ)). joined (slice_get ps token)) a.places

  at_last : (token : ℕ) (w : Stands token) → block_at C token ≡ Some w.block
  at_last token w = sym (place_same token) ∙ w.at

  pub declaration_same : (token : ℕ) (from : Option ℕ) (name : List ℕ) → Stands token → declaration_from T from (block_at T token) name ≡ declaration_from C from (block_at C token) name
  unfolding declaration_from
  declaration_same token from name w =
      ap (λ o. declaration_from T from o name) w.at ∙ ap (λ n. searched T from n w.block name) a.size ∙ searched_same from (length C.blocks) w.block name w.there
      ∙ sym (ap (λ o. declaration_from C from o name) (at_last token w))

  some_around_of_same : (n k : ℕ) → Here k → some_around_of T n (shows_detach T) k ≡ some_around_of C n (shows_detach C) k
  unfolding some_around_of
  some_around_of_same zero k h = refl
  some_around_of_same (suc n) k h =
      ap (λ z. z || holds_at (λ b. some_around_of T n (shows_detach T) b) (encloser T k)) (detach_same k (a.here k h))
      ∙ ap (λ z. shows_detach C k || z) (further (encloser T k) refl (λ j g. some_around_of_same n j g) ∙ ap (λ z. holds_at (λ b. some_around_of C n (shows_detach C) b) z) (encloser_same k (a.here k h)))
    where
      further : (o : Option ℕ) → encloser T k ≡ o → ((j : ℕ) → Here j → some_around_of T n (shows_detach T) j ≡ some_around_of C n (shows_detach C) j) → holds_at (λ b. some_around_of T n (shows_detach T) b) o ≡ holds_at (λ b. some_around_of C n (shows_detach C) b) o
      further None at rest = refl
      further (Some j) at rest = rest j (a.outward k j h at)

  around_same : (token : ℕ) → Stands token → some_around T (shows_detach T) token ≡ some_around C (shows_detach C) token
  unfolding some_around
  around_same token w =
      ap (λ o. holds_at (λ b. some_around_of T (length T.blocks) (shows_detach T) b) o) w.at ∙ ap (λ n. some_around_of T n (shows_detach T) w.block) a.size ∙ some_around_of_same (length C.blocks) w.block w.there
      ∙ sym (ap (λ o. holds_at (λ b. some_around_of C (length C.blocks) (shows_detach C) b) o) (at_last token w))

  standard_same : (token : ℕ) (name : List ℕ) → Stands token → standard_at T token name ≡ standard_at C token name
  unfolding standard_at
  standard_same token name w = ap (λ z. if is_detach name && not z then None else standard_name name) (around_same token w)

  pub binding_same : (token : ℕ) (name : List ℕ) → Stands token → binding T token name ≡ binding C token name
  unfolding binding
  binding_same token name w =
      ap (λ z. declared_or_standard T z (standard_at T token name)) (declaration_same token (Some token) name w)
      ∙ ap (λ z. declared_or_standard T (declaration_from C (Some token) (block_at C token) name) z) (standard_same token name w)
      ∙ declared_same (declaration_from C (Some token) (block_at C token) name) (standard_at C token name)

  pub passed_same : (token : ℕ) (name : List ℕ) → Stands token → is_passed_over T token name ≡ is_passed_over C token name
  unfolding is_passed_over
  passed_same token name w = ap (λ (z : Option DeclNo). elim z [ None ↦ false | Some d ↦ true ]) (declaration_same token None name w)

  if_found_same : (token : ℕ) (name : List ℕ) (k : ℕ) → Settled T C k → if_found T token name k ≡ if_found C token name k
  unfolding if_found
  if_found_same token name k e =
      ap (λ z. if is_shown z || ends_search T k name then Some k else None) (shown_same (Some token) k name e)
      ∙ ap (λ z. if is_shown (shown C (Some token) k name) || z then Some k else None) (ends_same k name e)

  first_along_same : (token : ℕ) (name : List ℕ) (n k : ℕ) → Here k → first_along (encloser T) n (if_found T token name) k ≡ first_along (encloser C) n (if_found C token name) k
  unfolding first_along
  first_along_same token name zero k h = refl
  first_along_same token name (suc n) k h =
      ap (λ z. option_or z (from_next (λ b. first_along (encloser T) n (if_found T token name) b) (encloser T k))) (if_found_same token name k (a.here k h))
      ∙ ap (λ z. option_or (if_found C token name k) z) (further (encloser T k) refl (λ j g. first_along_same token name n j g) ∙ ap (λ z. from_next (λ b. first_along (encloser C) n (if_found C token name) b) z) (encloser_same k (a.here k h)))
    where
      further : (o : Option ℕ) → encloser T k ≡ o → ((j : ℕ) → Here j → first_along (encloser T) n (if_found T token name) j ≡ first_along (encloser C) n (if_found C token name) j)
          → from_next (λ b. first_along (encloser T) n (if_found T token name) b) o ≡ from_next (λ b. first_along (encloser C) n (if_found C token name) b) o
      further None at rest = refl
      further (Some j) at rest = rest j (a.outward k j h at)

  pub found_same : (token : ℕ) (name : List ℕ) → Stands token → found_in T token name ≡ found_in C token name
  unfolding found_in
  found_same token name w =
      ap (λ o. level_beyond (first_along (encloser T) (length T.blocks) (if_found T token name)) o) w.at ∙ ap (λ n. first_along (encloser T) n (if_found T token name) w.block) a.size ∙ first_along_same token name (length C.blocks) w.block w.there
      ∙ sym (ap (λ o. level_beyond (first_along (encloser C) (length C.blocks) (if_found C token name)) o) (at_last token w))

  -- ---- the object that `this` means

  pub block_of_class_same : (class : Denotation) → block_of_class T class ≡ block_of_class C class
  block_of_class_same (denotation.Declared d) = class_same d
  block_of_class_same (denotation.Standard name) = refl

  some_standard : (k : ℕ) → Settled T C k → some_level_of T (length T.blocks) (has_standard T) k ≡ some_level_of C (length C.blocks) (has_standard C) k
  some_standard k e = ap (λ n. some_level_of T n (has_standard T) k) a.size ∙ some_level_same (length C.blocks) (has_standard T) (has_standard C) standard_block_same k e

  level_is_same : (class : Denotation) (o : Option ℕ) (k : ℕ) → Settled T C k → level_is T class o k ≡ level_is C class o k
  level_is_same (denotation.Declared d) None k e = refl
  level_is_same (denotation.Declared d) (Some j) k e = level_same k j e
  level_is_same (denotation.Standard (standard.Prefix prefix.Simulation)) o k e = ap (λ n. some_level_of T n (is_simulation_block T) k) a.size ∙ some_level_same (length C.blocks) (is_simulation_block T) (is_simulation_block C) simulation_same k e
  level_is_same (denotation.Standard (standard.Prefix prefix.Simset)) o k e = some_standard k e
  level_is_same (denotation.Standard (standard.Procedure p)) o k e = some_standard k e
  level_is_same (denotation.Standard standard.Sysin) o k e = some_standard k e
  level_is_same (denotation.Standard standard.Sysout) o k e = some_standard k e

  is_this_same : (class : Denotation) (k : ℕ) → Settled T C k → is_this T class k ≡ is_this C class k
  unfolding is_this
  is_this_same class k e =
      ap (λ z. z && level_is T class (block_of_class T class) k) (detach_same k e)
      ∙ ap (λ z. shows_detach C k && z) (ap (λ z. level_is T class z k) (block_of_class_same class) ∙ level_is_same class (block_of_class C class) k e)

  this_of_same : (n : ℕ) (class : Denotation) (k : ℕ) → Here k → this_of T n class k ≡ this_of C n class k
  unfolding this_of
  this_of_same zero class k h = refl
  this_of_same (suc n) class k h =
      ap (λ z. if z then Some k else level_beyond (λ b. this_of T n class b) (encloser T k)) (is_this_same class k (a.here k h))
      ∙ ap (λ z. if is_this C class k then Some k else z) (further (encloser T k) refl (λ j g. this_of_same n class j g) ∙ ap (λ z. level_beyond (λ b. this_of C n class b) z) (encloser_same k (a.here k h)))
    where
      further : (o : Option ℕ) → encloser T k ≡ o → ((j : ℕ) → Here j → this_of T n class j ≡ this_of C n class j) → level_beyond (λ b. this_of T n class b) o ≡ level_beyond (λ b. this_of C n class b) o
      further None at rest = refl
      further (Some j) at rest = rest j (a.outward k j h at)

  pub this_block_same : (token : ℕ) (class : Denotation) → Stands token → this_block T token class ≡ this_block C token class
  unfolding this_block
  this_block_same token class w =
      ap (λ o. level_beyond (λ b. this_of T (length T.blocks) class b) o) w.at ∙ ap (λ n. this_of T n class w.block) a.size ∙ this_of_same (length C.blocks) class w.block w.there
      ∙ sym (ap (λ o. level_beyond (λ b. this_of C (length C.blocks) class b) o) (at_last token w))
