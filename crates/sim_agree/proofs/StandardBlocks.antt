-- What is known of the blocks of standard classes, and of the tables that are declared.
use Rattle.std.proofs.Common.{arith, ◌≡◌, ◌+◌, ℕ, true, List, Option, Some, None, refl, sym, ap, ◌∙◌, subst}
use Rattle.std.specs.Prelude.{slice_get}
use Rattle.sim_scope.specs.declared.types.BlockKind.{BlockKind}
use Rattle.sim_scope.specs.declared.types.BlockKind.TheVariants as kind
use Rattle.sim_scope.specs.declared.types.StandardClass.{StandardClass}
use Rattle.sim_scope.specs.declared.types.StandardClass.TheVariants as standard
use Rattle.sim_scope.specs.declared.types.StandardPrefix.{StandardPrefix}
use Rattle.sim_scope.specs.Access.{around}
use Rattle.sim_scope.specs.Building.{BuildingOf, place_of, standard_base}
use Rattle.sim_scope.specs.Levels.{base_in, standard_in}
use Rattle.sim_scope.specs.Tables.{BlockOf}
use Rattle.sim_meaning.specs.Texts.{BlockText, ClassText, ConnectionText, PrefixedText, ProcedureText, StandardText, Text}
use Rattle.sim_agree.proofs.Fine.{Fine, KindIs, base_by, own_base}
use Rattle.sim_agree.proofs.Groups.{Open, PlainKind}
use Rattle.sim_agree.proofs.StandardPrefixes.{IsBrought}
use Rattle.sim_agree.proofs.Unprefixed.{Extras, Showing, extras_in, is_prefixable}

some_same : {A : Type 0} (a b : A) → Some a ≡ Some b → a ≡ b
some_same a b e = cc

plain_other : (k : BlockKind) (which : StandardClass) → PlainKind k → k ≡ kind.StandardClass which → ⊥
plain_other kind.Program which p e = cc
plain_other kind.SubBlock which p e = cc
plain_other kind.Procedure which p e = p
plain_other kind.Class which p e = p
plain_other kind.Prefixed which p e = p
plain_other kind.Connection which p e = p
plain_other (kind.StandardClass other) which p e = p

-- a block of the kind of such a class is that of its text
pub standard_text : (row : BlockOf) (o : Option Text) (which : StandardClass) → KindIs (Some row) o → row.kind ≡ kind.StandardClass which → o ≡ Some (StandardText which)
standard_text row None which k e = absurd k
standard_text row (Some (BlockText i ds ss)) which k e = absurd (plain_other row.kind which k e)
standard_text row (Some (ProcedureText result h a)) which k e = absurd (let f : kind.Procedure ≡ kind.StandardClass which = sym k ∙ e in cc)
standard_text row (Some (ClassText prefix h ds ss)) which k e = absurd (let f : kind.Class ≡ kind.StandardClass which = sym k ∙ e in cc)
standard_text row (Some ConnectionText) which k e = absurd (let f : kind.Connection ≡ kind.StandardClass which = sym k ∙ e in cc)
standard_text row (Some (PrefixedText class es ds ss)) which k e = absurd (let f : kind.Prefixed ≡ kind.StandardClass which = sym k ∙ e in cc)
standard_text row (Some (StandardText other)) which k e = ap (λ w. Some (StandardText w)) (let f : kind.StandardClass other ≡ kind.StandardClass which = sym k ∙ e in cc)

-- what has a next level from the start: such a class, whose next level is another one of the same prefix
pub record StandardBase (ts : List Text) (k c : ℕ) (row : BlockOf) : Type 0 where
  pub which : StandardClass
  pub text : slice_get ts k ≡ Some (StandardText which)
  pub block : ℕ
  pub encloser : row.encloser ≡ Some block
  pub place : k ≡ block + 1 + place_of which
  pub above : StandardClass
  pub base : c ≡ block + 1 + place_of above
  pub above_text : slice_get ts c ≡ Some (StandardText above)
  pub no_process : above ≡ standard.Process → ⊥
  pub kind : row.kind ≡ kind.StandardClass which

module _ (b : BuildingOf) (ts : List Text) (os : List Open) (f : Fine b ts os) where
  pub standard_base_of : (k c : ℕ) → base_in (slice_get b.tables.blocks k) ≡ Some c → (row : BlockOf) × (slice_get b.tables.blocks k ≡ Some row) × StandardBase ts k c row
  standard_base_of k c e = go (slice_get b.tables.blocks k) refl (sym (f.based k) ∙ e)
    where
      first_place : (n : ℕ) → n + 1 ≡ n + 1 + 0
      first_place n = omega arith

      second_place : (n : ℕ) → n + 2 ≡ n + 1 + 1
      second_place n = omega arith

      no_linkage : standard.Linkage ≡ standard.Process → ⊥
      no_linkage e = cc

      no_link : standard.Link ≡ standard.Process → ⊥
      no_link e = cc

      base_above : (p : StandardPrefix) (which : StandardClass) (n : ℕ) → IsBrought p which → standard_base which n ≡ Some c → (above : StandardClass) × IsBrought p above × (c ≡ n + 1 + place_of above) × (above ≡ standard.Process → ⊥)
      base_above p standard.Linkage n is g = absurd (cc)
      base_above p standard.Link n is g = (standard.Linkage, tt, sym (some_same (n + 1) c g) ∙ first_place n, no_linkage)
      base_above p standard.Head n is g = (standard.Linkage, tt, sym (some_same (n + 1) c g) ∙ first_place n, no_linkage)
      base_above p standard.Process n is g = (standard.Link, tt, sym (some_same (n + 2) c g) ∙ second_place n, no_link)

      of_class : (row : BlockOf) → slice_get b.tables.blocks k ≡ Some row → (which : StandardClass) → row.kind ≡ kind.StandardClass which → (n : ℕ) → row.encloser ≡ Some n → standard_base which n ≡ Some c → StandardBase ts k c row
      of_class row at which is n around_is g =
          let text : slice_get ts k ≡ Some (StandardText which) = standard_text row (slice_get ts k) which (subst (λ o. KindIs o (slice_get ts k)) at (f.kinds k)) is in
          let q = f.standards k which text in
          let there : around (slice_get b.tables.blocks k) ≡ Some q.block = ap (λ m. around (slice_get b.tables.blocks m)) q.place ∙ q.group.around which q.is in
          let same : n ≡ q.block = some_same n q.block (sym around_is ∙ sym (ap around at) ∙ there) in
          let up = base_above q.prefix which n q.is g in
          let base : c ≡ q.block + 1 + place_of up.0 = up.2 ∙ ap (λ m. m + 1 + place_of up.0) same in
          record {
            which = which;
            text = text;
            block = q.block;
            encloser = around_is ∙ ap Some same;
            place = q.place;
            above = up.0;
            base = base;
            above_text = ap (slice_get ts) base ∙ q.group.texts up.0 up.1;
            no_process = up.3;
            kind = is;
          }

      by_kind : (row : BlockOf) → slice_get b.tables.blocks k ≡ Some row → (t : BlockKind) → row.kind ≡ t → (o : Option ℕ) → row.encloser ≡ o → base_by t o ≡ Some c → StandardBase ts k c row
      by_kind row at (kind.StandardClass which) is (Some n) around_is g = of_class row at which is n around_is g
      by_kind row at (kind.StandardClass which) is None around_is g = absurd (cc)
      by_kind row at kind.Program is o around_is g = absurd (cc)
      by_kind row at kind.SubBlock is o around_is g = absurd (cc)
      by_kind row at kind.Procedure is o around_is g = absurd (cc)
      by_kind row at kind.Class is o around_is g = absurd (cc)
      by_kind row at kind.Prefixed is o around_is g = absurd (cc)
      by_kind row at kind.Connection is o around_is g = absurd (cc)

      go : (o : Option BlockOf) → slice_get b.tables.blocks k ≡ o → own_base o ≡ Some c → (row : BlockOf) × (o ≡ Some row) × StandardBase ts k c row
      go None at g = absurd (cc)
      go (Some row) at g = (row, refl, by_kind row at row.kind refl row.encloser refl g)

  pub no_base : (k : ℕ) (row : BlockOf) → slice_get b.tables.blocks k ≡ Some row → is_prefixable row.kind ≡ true → base_in (slice_get b.tables.blocks k) ≡ None
  no_base k row at p = f.based k ∙ ap own_base at ∙ go row.kind p
    where
      go : (t : BlockKind) → is_prefixable t ≡ true → base_by t row.encloser ≡ None
      go kind.Program e = refl
      go kind.SubBlock e = refl
      go kind.Procedure e = refl
      go kind.Class e = refl
      go kind.Prefixed e = refl
      go kind.Connection e = refl
      go (kind.StandardClass which) e = absurd (cc)

  standard_extras : (o : Option BlockOf) → (extras_in o).standard ≡ standard_in o
  standard_extras None = refl
  standard_extras (Some row) = refl

  pub no_standard : (k : ℕ) → standard_in (slice_get b.tables.blocks k) ≡ None
  no_standard k = sym (standard_extras (slice_get b.tables.blocks k)) ∙ ap (λ (z : Extras). z.standard) (f.bare.blocks k)

  pub showing : Showing b.tables
  showing = record {
    right = λ k. ap (λ (z : Extras). z.wrong) (f.bare.blocks k);
    lists = λ k d a. (let o = f.own k d a in (o.0, o.1, o.2));
    brings = f.brought;
  }
