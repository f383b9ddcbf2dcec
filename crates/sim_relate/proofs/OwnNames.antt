-- A procedure of SIMSET that is seen without a dot is what its identifier denotes.
use Rattle.std.proofs.Common.{◌≡◌, ℕ, Bool, true, false, Option, Some, None, ap}
use Rattle.sim_base.specs.declared.numbering.DeclNo.{DeclNo}
use Rattle.sim_scope.specs.declared.scopes.Denotation.{Denotation}
use Rattle.sim_scope.specs.declared.scopes.Denotation.TheVariants as denotation
use Rattle.sim_scope.specs.Scopes.{entry_of}
use Rattle.sim_scope.specs.Source.{Source, denoted}
use Rattle.sim_meaning.specs.Attributes.{attribute_denoted, attribute_if, is_standard_attribute, own_attribute}

attribute_is : (c : Bool) (d e : DeclNo) → attribute_if c d ≡ Some e → d ≡ e
attribute_is true d e h = cc (h)
attribute_is false d e h = absurd (cc (h))

denoted_is : (s : Source) (u : Option Denotation) (d : DeclNo) → attribute_denoted s u ≡ Some d → u ≡ Some (denotation.Declared d)
denoted_is s (Some (denotation.Declared e)) d h = ap (λ z. Some (denotation.Declared z)) (attribute_is (is_standard_attribute (entry_of s.tables e)) e d h)
denoted_is s (Some (denotation.Standard name)) d h = absurd (cc (h))
denoted_is s None d h = absurd (cc (h))

pub own_denoted : (s : Source) (token : ℕ) (d : DeclNo) → own_attribute s token ≡ Some d → denoted s token ≡ Some (denotation.Declared d)
unfolding own_attribute
own_denoted s token d h = denoted_is s (denoted s token) d h
