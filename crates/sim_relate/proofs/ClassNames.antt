-- Which texts are classes, by the declarations and types that name them.
use Rattle.std.proofs.Common.{◌≡◌, ℕ, Bool, true, false, Option, Some, None, refl, ap, ◌∙◌, subst}
use Rattle.std.specs.Prelude.{slice_get, if◌then◌else◌}
use Rattle.sim_base.specs.declared.numbering.DeclNo.{DeclNo}
use Rattle.sim_scope.specs.declared.scopes.Declaration.{Declaration}
use Rattle.sim_scope.specs.declared.scopes.Denotation.{Denotation}
use Rattle.sim_scope.specs.declared.scopes.Denotation.TheVariants as denotation
use Rattle.sim_scope.specs.declared.types.Entry.{Entry}
use Rattle.sim_scope.specs.declared.types.Entry.TheVariants as entry
use Rattle.sim_scope.specs.declared.types.FormalKind.{FormalKind}
use Rattle.sim_scope.specs.declared.types.FormalKind.TheVariants as shape
use Rattle.sim_scope.specs.declared.types.SimType.{SimType}
use Rattle.sim_scope.specs.declared.types.SimType.TheVariants as t
use Rattle.sim_scope.specs.Levels.{class_block, class_block_in}
use Rattle.sim_scope.specs.Scopes.{entry_in, entry_of}
use Rattle.sim_scope.specs.Source.{Source, denoted}
use Rattle.sim_meaning.specs.Attributes.{parameter_qualification}
use Rattle.sim_meaning.specs.Levels.{class_at, class_denoted, class_text, is_class, qualification}
use Rattle.sim_meaning.specs.Texts.{text}
use Rattle.sim_relate.proofs.Trees.{Classed}

module _ (s : Source) where
  -- the class that a declaration is
  pub class_found : (o : Option ℕ) (k : ℕ) → class_text s o ≡ Some k → (o ≡ Some k) × (is_class (text s k) ≡ true)
  class_found None k e = absurd (cc)
  class_found (Some t) k e = by_test (is_class (text s t)) refl e
    where
      by_test : (c : Bool) → is_class (text s t) ≡ c → (if c then Some t else None) ≡ Some k → (Some t ≡ Some k) × (is_class (text s k) ≡ true)
      by_test true h e = (e, subst (λ z. is_class (text s z) ≡ true) (cc (e)) h)
      by_test false h e = absurd (cc)

  entry_is : (o : Option Declaration) (k : ℕ) → class_block_in (elim o [ None ↦ None | Some row ↦ Some row.entry ]) ≡ Some k → entry_in o ≡ Some (entry.Class k)
  entry_is None k e = absurd (cc)
  entry_is (Some row) k e = by_entry row.entry refl
    where
      by_entry : (x : Entry) → row.entry ≡ x → Some row.entry ≡ Some (entry.Class k)
      by_entry (entry.Class t) h = ap Some h ∙ ap (λ z. Some (entry.Class z)) (cc (e, h))
      by_entry _ h = absurd (cc)

  pub declared_class : (d : DeclNo) (k : ℕ) → class_block s.tables d ≡ Some k → entry_of s.tables d ≡ Some (entry.Class k)
  unfolding class_block entry_of
  declared_class d k e = entry_is (slice_get s.tables.declarations d.0) k e

  pub class_is : (token : ℕ) → class_denoted s (denoted s token) ≡ class_at s token
  unfolding class_at
  class_is token = refl

  -- a class that is named
  pub denoted_classed : (u : Option Denotation) (k : ℕ) → class_denoted s u ≡ Some k → Classed s k
  denoted_classed (Some (denotation.Declared d)) k e = (class_found (class_block s.tables d) k e).1
  denoted_classed (Some (denotation.Standard name)) k e = absurd (cc)
  denoted_classed None k e = absurd (cc)

  pub qualification_classed : (type : Option SimType) (k : ℕ) → qualification s type ≡ Some k → Classed s k
  unfolding qualification
  qualification_classed None k e = absurd (cc)
  qualification_classed (Some t.Integer) k e = absurd (cc)
  qualification_classed (Some t.Boolean) k e = absurd (cc)
  qualification_classed (Some t.Character) k e = absurd (cc)
  qualification_classed (Some t.Text) k e = absurd (cc)
  qualification_classed (Some (t.Ref d)) k e = (class_found (class_block s.tables d) k e).1
  qualification_classed (Some t.NoneType) k e = absurd (cc)

  pub parameter_classed : (kind : FormalKind) (type : Option SimType) (k : ℕ) → parameter_qualification s kind type ≡ Some k → Classed s k
  parameter_classed shape.Simple type k e = qualification_classed type k e
  parameter_classed shape.Array type k e = absurd (cc)
  parameter_classed shape.Procedure type k e = absurd (cc)
