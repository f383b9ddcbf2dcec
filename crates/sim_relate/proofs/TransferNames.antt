-- Which identifiers denote transfers of control: these give no value.
use Rattle.std.proofs.Common.{◌≡◌, ℕ, true, false, Option, Some, None, refl}
use Rattle.sim_scope.specs.declared.scopes.Denotation.{Denotation}
use Rattle.sim_scope.specs.declared.scopes.Denotation.TheVariants as denotation
use Rattle.sim_scope.specs.Source.{Source, denoted}
use Rattle.sim_values.specs.declared.standard.Standard.{Standard}
use Rattle.sim_values.specs.declared.standard.Standard.TheVariants as name_of
use Rattle.sim_values.specs.Standard.{row_of}
use Rattle.sim_code.specs.Transfers.{Transfer}
use Rattle.sim_meaning.specs.Attributes.{transfer_at, transfer_denoted, transfer_named}
use Rattle.sim_meaning.specs.Names.{procedure_named}
use Rattle.sim_meaning.specs.Statements.{denoted_leaves, standard_leaves}
use Rattle.codegen_expr.specs.CodeExpr.{gives}

named_gives : (name : Option Standard) → standard_leaves name ≡ true → transfer_named name ≡ None
unfolding row_of
named_gives None e = refl
named_gives (Some name_of.Detach) e = absurd (cc)
named_gives (Some name_of.Call) e = absurd (cc)
named_gives (Some name_of.Resume) e = absurd (cc)
named_gives (Some _) e = refl

denoted_gives : (s : Source) (u : Option Denotation) → gives s u ≡ true → transfer_denoted u ≡ None
denoted_gives s (Some (denotation.Standard name)) e = named_gives (procedure_named name) e
denoted_gives s (Some (denotation.Declared d)) e = refl
denoted_gives s None e = refl

-- what gives a value is no transfer
pub no_transfer : (s : Source) (token : ℕ) → gives s (denoted s token) ≡ true → transfer_at s token ≡ None
unfolding transfer_at
no_transfer s token e = denoted_gives s (denoted s token) e

named_leaves : (name : Option Standard) (way : Transfer) → transfer_named name ≡ Some way → standard_leaves name ≡ false
unfolding row_of
named_leaves None way e = absurd (cc)
named_leaves (Some name_of.Detach) way e = refl
named_leaves (Some name_of.Call) way e = refl
named_leaves (Some name_of.Resume) way e = refl
named_leaves (Some _) way e = absurd (cc)

transfer_leaves : (s : Source) (u : Option Denotation) (way : Transfer) → transfer_denoted u ≡ Some way → denoted_leaves s u ≡ false
transfer_leaves s (Some (denotation.Standard name)) way e = named_leaves (procedure_named name) way e
transfer_leaves s (Some (denotation.Declared d)) way e = absurd (cc)
transfer_leaves s None way e = absurd (cc)

-- a transfer gives none
pub no_value : (s : Source) (token : ℕ) (way : Transfer) → transfer_at s token ≡ Some way → denoted_leaves s (denoted s token) ≡ false
unfolding transfer_at
no_value s token way e = transfer_leaves s (denoted s token) way e
