-- Which calls transfer control: none that is typed as another one, and none of these leaves a value.
use Rattle.std.proofs.Common.{◌≡◌, ℕ, Bool, true, false, List, Option, Some, None, refl, ap, subst}
use Rattle.sim_base.specs.declared.numbering.DeclNo.{DeclNo}
use Rattle.sim_scope.specs.declared.scopes.Denotation.{Denotation}
use Rattle.sim_scope.specs.declared.scopes.Denotation.TheVariants as denotation
use Rattle.sim_scope.specs.declared.types.Formal.{Formal}
use Rattle.sim_scope.specs.Scopes.{entry_of}
use Rattle.sim_scope.specs.Source.{Source, denoted}
use Rattle.sim_tree.specs.Syntax.{Expressions}
use Rattle.sim_values.specs.declared.kind.Kind.{Kind}
use Rattle.sim_values.specs.declared.standard.Standard.{Standard}
use Rattle.sim_values.specs.declared.standard.Standard.TheVariants as name_of
use Rattle.sim_values.specs.Standard.{row_of}
use Rattle.sim_code.specs.Running.{name_runs}
use Rattle.sim_code.specs.Transfers.{Transfer}
use Rattle.sim_meaning.specs.Attributes.{attribute_denoted, attribute_if, is_standard_attribute, own_attribute, transfer_at, transfer_denoted, transfer_named, transfer_of}
use Rattle.sim_meaning.specs.Names.{procedure_named}
use Rattle.sim_meaning.specs.Statements.{denoted_leaves, standard_leaves}
use Rattle.sim_sound.specs.Held.{Holds, Place}
use Rattle.sim_sound.specs.Expressions.{BehindGives, DotGives, IdentifierGives, NamedGives, StandardGives}

-- ---- a name that is done transfers nothing

run_keeps_control : (n : Standard) → name_runs n ≡ true → transfer_of n ≡ None
run_keeps_control name_of.Detach e = absurd (cc)
run_keeps_control name_of.Call e = absurd (cc)
run_keeps_control name_of.Resume e = absurd (cc)
run_keeps_control _ e = refl

standard_keeps_control : (n : Option Standard) (Operands : List Kind → Type 0) (h : Option Holds) → StandardGives n Operands h → transfer_named n ≡ None
standard_keeps_control None Operands h a = absurd a
standard_keeps_control (Some name_of.Detach) Operands h a = run_keeps_control name_of.Detach ((a.0).0).0
standard_keeps_control (Some name_of.Call) Operands h a = run_keeps_control name_of.Call ((a.0).0).0
standard_keeps_control (Some name_of.Resume) Operands h a = run_keeps_control name_of.Resume ((a.0).0).0
standard_keeps_control (Some _) Operands h a = refl

behind_keeps_control : (stream : Option ℕ) (n : Option Standard) (Front : Type 0) (Operands : List Kind → Type 0) (h : Option Holds) → BehindGives stream n Front Operands h → transfer_named n ≡ None
behind_keeps_control (Some image) n Front Operands h a = standard_keeps_control n Operands h a
behind_keeps_control None None Front Operands h a = absurd a
behind_keeps_control None (Some n) Front Operands h a = run_keeps_control n (((a.1).0).0).0

-- ---- typed calls

named_keeps_control : (s : Source) (from : Place) (c : Option ℕ) (x : Option Denotation) (es : Expressions) (Indices Checked : Type 0) (Operands : List Kind → Type 0) (Actuals : List Formal → Type 0) (h : Option Holds) → NamedGives s from c x es Indices Checked Operands Actuals h → transfer_denoted x ≡ None
named_keeps_control s from c (Some (denotation.Declared d)) es Indices Checked Operands Actuals h a = refl
named_keeps_control s from None (Some (denotation.Standard n)) es Indices Checked Operands Actuals h a = standard_keeps_control (procedure_named n) Operands h a
named_keeps_control s from (Some k) (Some (denotation.Standard n)) es Indices Checked Operands Actuals h a = absurd a
named_keeps_control s from c None es Indices Checked Operands Actuals h a = refl

dot_keeps_control : (s : Source) (x : Option Denotation) (stream : Option ℕ) (Front : Type 0) (Object : ℕ → Type 0) (es : Expressions) (Indices Checked : Type 0) (Operands : List Kind → Type 0) (Actuals : List Formal → Type 0) (h : Option Holds) → DotGives s x stream Front Object es Indices Checked Operands Actuals h → transfer_denoted x ≡ None
dot_keeps_control s (Some (denotation.Declared d)) stream Front Object es Indices Checked Operands Actuals h a = refl
dot_keeps_control s (Some (denotation.Standard n)) stream Front Object es Indices Checked Operands Actuals h a = behind_keeps_control stream (procedure_named n) Front Operands h a
dot_keeps_control s None stream Front Object es Indices Checked Operands Actuals h a = refl

declared_transfers_not : (s : Source) (token : ℕ) (d : DeclNo) → denoted s token ≡ Some (denotation.Declared d) → transfer_at s token ≡ None
unfolding transfer_at
declared_transfers_not s token d e = ap transfer_denoted e

pub named_transfers_not : (s : Source) (from : Place) (c : Option ℕ) (token : ℕ) (es : Expressions) (Indices Checked : Type 0) (Operands : List Kind → Type 0) (Actuals : List Formal → Type 0) (h : Option Holds) → NamedGives s from c (denoted s token) es Indices Checked Operands Actuals h → transfer_at s token ≡ None
unfolding transfer_at
named_transfers_not s from c token es Indices Checked Operands Actuals h a = named_keeps_control s from c (denoted s token) es Indices Checked Operands Actuals h a

-- a procedure of SIMSET that is seen without a dot is declared
own_declared : (s : Source) (x : Option Denotation) (d : DeclNo) → attribute_denoted s x ≡ Some d → x ≡ Some (denotation.Declared d)
own_declared s None d e = absurd (cc)
own_declared s (Some (denotation.Standard n)) d e = absurd (cc)
own_declared s (Some (denotation.Declared c)) d e = by_flag (is_standard_attribute (entry_of s.tables c)) e
  where
    by_flag : (b : Bool) → attribute_if b c ≡ Some d → Some (denotation.Declared c) ≡ Some (denotation.Declared d)
    by_flag true f = let same : c ≡ d = cc in ap (λ z. Some (denotation.Declared z)) same
    by_flag false f = absurd (cc)

pub own_denoted : (s : Source) (token : ℕ) (d : DeclNo) → own_attribute s token ≡ Some d → denoted s token ≡ Some (denotation.Declared d)
unfolding own_attribute
own_denoted s token d e = own_declared s (denoted s token) d e

-- and is a procedure of SIMSET
own_entry : (s : Source) (x : Option Denotation) (d : DeclNo) → attribute_denoted s x ≡ Some d → is_standard_attribute (entry_of s.tables d) ≡ true
own_entry s None d e = absurd (cc)
own_entry s (Some (denotation.Standard n)) d e = absurd (cc)
own_entry s (Some (denotation.Declared c)) d e = by_flag (is_standard_attribute (entry_of s.tables c)) refl e
  where
    by_flag : (b : Bool) → is_standard_attribute (entry_of s.tables c) ≡ b → attribute_if b c ≡ Some d → is_standard_attribute (entry_of s.tables d) ≡ true
    by_flag true is f = let same : c ≡ d = cc in subst (λ z. is_standard_attribute (entry_of s.tables z) ≡ true) same is
    by_flag false is f = absurd (cc)

pub own_is_attribute : (s : Source) (token : ℕ) (d : DeclNo) → own_attribute s token ≡ Some d → is_standard_attribute (entry_of s.tables d) ≡ true
unfolding own_attribute
own_is_attribute s token d e = own_entry s (denoted s token) d e

-- what is seen otherwise is none
pub not_own : (s : Source) (token : ℕ) → own_attribute s token ≡ None → attribute_denoted s (denoted s token) ≡ None
unfolding own_attribute
not_own s token e = e

pub identifier_transfers_not : (s : Source) (from : Place) (c : Option ℕ) (token : ℕ) (es : Expressions) (Indices Checked : Type 0) (Operands : List Kind → Type 0) (Actuals : List Formal → Type 0) (h : Option Holds) → IdentifierGives s from token c (own_attribute s token) es Indices Checked Operands Actuals h → transfer_at s token ≡ None
identifier_transfers_not s from c token es Indices Checked Operands Actuals h a = by_own c (own_attribute s token) refl a
  where
    by_own : (c : Option ℕ) (own : Option DeclNo) → own_attribute s token ≡ own → IdentifierGives s from token c own es Indices Checked Operands Actuals h → transfer_at s token ≡ None
    by_own None None e x = named_transfers_not s from None token es Indices Checked Operands Actuals h x
    by_own (Some k) own e x = named_transfers_not s from (Some k) token es Indices Checked Operands Actuals h x
    by_own None (Some d) e x = declared_transfers_not s token d (own_denoted s token d e)

pub dot_transfers_not : (s : Source) (token : ℕ) (stream : Option ℕ) (Front : Type 0) (Object : ℕ → Type 0) (es : Expressions) (Indices Checked : Type 0) (Operands : List Kind → Type 0) (Actuals : List Formal → Type 0) (h : Option Holds) → DotGives s (denoted s token) stream Front Object es Indices Checked Operands Actuals h → transfer_at s token ≡ None
unfolding transfer_at
dot_transfers_not s token stream Front Object es Indices Checked Operands Actuals h a = dot_keeps_control s (denoted s token) stream Front Object es Indices Checked Operands Actuals h a

-- ---- a transfer leaves no value

transfer_gives_none : (n : Standard) (c : Transfer) → transfer_of n ≡ Some c → standard_leaves (Some n) ≡ false
unfolding row_of
transfer_gives_none name_of.Detach c e = refl
transfer_gives_none name_of.Call c e = refl
transfer_gives_none name_of.Resume c e = refl
transfer_gives_none _ c e = absurd (cc)

named_gives_none : (n : Option Standard) (c : Transfer) → transfer_named n ≡ Some c → standard_leaves n ≡ false
named_gives_none None c e = refl
named_gives_none (Some n) c e = transfer_gives_none n c e

denoted_gives_none : (s : Source) (x : Option Denotation) (c : Transfer) → transfer_denoted x ≡ Some c → denoted_leaves s x ≡ false
denoted_gives_none s None c e = refl
denoted_gives_none s (Some (denotation.Declared d)) c e = absurd (cc)
denoted_gives_none s (Some (denotation.Standard n)) c e = named_gives_none (procedure_named n) c e

pub transfer_leaves_none : (s : Source) (token : ℕ) (c : Transfer) → transfer_at s token ≡ Some c → denoted_leaves s (denoted s token) ≡ false
unfolding transfer_at
transfer_leaves_none s token c e = denoted_gives_none s (denoted s token) c e
