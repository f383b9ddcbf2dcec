-- The standard names, as the rules and as the meaning have them.
use Rattle.std.proofs.Common.{◌≡◌, ◌⊎◌, inl, inr, ℕ, Bool, true, false, List, [], ◌∷◌, Option, Some, None, refl, subst, if◌then◌else◌}
use Rattle.std.proofs.lemmas.Bool.{false≢true}
use Rattle.std.specs.Prelude.{◌||◌, ◌&&◌, codes}
use Rattle.std.specs.Str.{bytes_eq}
use Rattle.sim_scope.specs.declared.standard.Place.{Place}
use Rattle.sim_scope.specs.declared.standard.Place.TheVariants as place
use Rattle.sim_scope.specs.declared.standard.Signature.{Signature}
use Rattle.sim_scope.specs.declared.standard.StandardName.{StandardName}
use Rattle.sim_scope.specs.declared.standard.StandardName.TheVariants as found
use Rattle.sim_scope.specs.declared.types.SimType.{SimType}
use Rattle.sim_scope.specs.declared.types.StandardPrefix.{StandardPrefix}
use Rattle.sim_scope.specs.Scopes.{is_detach}
use Rattle.sim_scope.specs.Standard.{first_named, is_seen, named_beside, plain_or_none, prefix_or_none, procedure_or, signature, standard_name, standard_prefix, sysin_attribute, sysout_attribute, text_attribute}
use Rattle.sim_values.specs.declared.kind.Kind.{Kind}
use Rattle.sim_values.specs.declared.kind.Kind.TheVariants as kind
use Rattle.sim_values.specs.declared.standard.Standard.{Standard}
use Rattle.sim_values.specs.declared.standard.Standard.TheVariants as name
use Rattle.sim_values.specs.declared.standard.StandardType.{StandardType}
use Rattle.sim_values.specs.declared.standard.TheConstants.{STANDARD_NAMES}
use Rattle.sim_values.specs.Standard.{row_of}
use Rattle.sim_code.specs.Transfers.{Calling, Detaching, Resuming}
use Rattle.sim_meaning.specs.Attributes.{transfer_named, transfer_of}
use Rattle.sim_meaning.specs.Names.{procedure_named}
use Rattle.sim_meaning.specs.Statements.{has_value, standard_leaves}
use Rattle.sim_meaning.specs.Texts.{kind_of_type}
use Rattle.sim_sound.specs.Held.{Holds, Simply}
use Rattle.sim_sound.specs.Expressions.{AttributeGives, StandardGives}
use Rattle.sim_sound.specs.Statements.{is_given}
use Rattle.sim_agree.specs.Facts.{PlainGiven}

-- the kinds of the parameters of a name, and what it gives
abbrev pub second_kind : Option SimType → List Kind
second_kind None = []
second_kind (Some b) = kind_of_type b ∷ []

abbrev pub parameter_kinds : Option SimType → Option SimType → List Kind
parameter_kinds None b = []
parameter_kinds (Some a) b = kind_of_type a ∷ second_kind b

abbrev pub kinds_of : Signature → List Kind
kinds_of g = parameter_kinds g.first g.second

abbrev pub given_by : Option SimType → Option Holds
given_by None = None
given_by (Some ty) = Some (Simply (kind_of_type ty))

-- a name of the table that is seen alone
abbrev pub IsAlone : Standard → Type 0
IsAlone x = is_seen place.Alone (row_of x).owner ≡ true

-- a name that is no attribute of texts
abbrev pub NoAttribute : StandardName → Type 0
NoAttribute (found.Procedure x) = IsAlone x
NoAttribute found.Sysin = Unit {0}
NoAttribute found.Sysout = Unit {0}
NoAttribute (found.Prefix which) = Unit {0}

-- an attribute of texts
abbrev pub OfTexts : StandardName → Type 0
OfTexts (found.Procedure x) = is_seen place.Text (row_of x).owner ≡ true
OfTexts _ = ⊥

-- a procedure that is no attribute of texts and no transfer of control
abbrev pub IsProcedure : StandardName → Type 0
IsProcedure (found.Procedure x) = IsAlone x × (transfer_of x ≡ None)
IsProcedure _ = ⊥

-- what the table finds is seen there, and spelt so
abbrev Seen : Place → List ℕ → Standard → Type 0
Seen place name x = (is_seen place (row_of x).owner ≡ true) × (bytes_eq name (row_of x).spelling ≡ true)

first_seen : (place : Place) (name : List ℕ) (k : Standard) (xs : List Standard) → first_named place name xs ≡ Some k → Seen place name k
first_seen place name k [] e = absurd (cc)
first_seen place name k (x ∷ xs) e = go (λ h. first_seen place name k xs h) (is_seen place (row_of x).owner) (bytes_eq name (row_of x).spelling) refl refl e
  where
    go : (first_named place name xs ≡ Some k → Seen place name k) → (a b : Bool) → is_seen place (row_of x).owner ≡ a → bytes_eq name (row_of x).spelling ≡ b → (if a && b then Some x else first_named place name xs) ≡ Some k → Seen place name k
    go deep true true seen same e = let is : x ≡ k = cc in subst (Seen place name) is (seen, same)
    go deep true false seen same e = deep e
    go deep false b seen same e = deep e

found_behind : (P : StandardName → Type 0) (place : Place) (name : List ℕ) (k : StandardName) → ((x : Standard) → is_seen place (row_of x).owner ≡ true → P (found.Procedure x)) → procedure_or (first_named place name STANDARD_NAMES) None ≡ Some k → P k
found_behind P place name k all e = go (first_named place name STANDARD_NAMES) refl e
  where
    go : (o : Option Standard) → first_named place name STANDARD_NAMES ≡ o → procedure_or o None ≡ Some k → P k
    go None is e = absurd (cc)
    go (Some x) is e = let same : found.Procedure x ≡ k = cc in subst P same (all x (first_seen place name x STANDARD_NAMES is).0)

prefix_name : (o : Option StandardPrefix) (k : StandardName) → prefix_or_none o ≡ Some k → NoAttribute k
prefix_name None k e = absurd (cc)
prefix_name (Some which) k e = let same : found.Prefix which ≡ k = cc in subst NoAttribute same tt

beside_name : (name : List ℕ) (k : StandardName) → named_beside name ≡ Some k → NoAttribute k
beside_name name k e = go (bytes_eq name (codes "sysin")) (bytes_eq name (codes "sysout")) e
  where
    go : (a b : Bool) → (if a then Some found.Sysin else if b then Some found.Sysout else prefix_or_none (standard_prefix name)) ≡ Some k → NoAttribute k
    go true b e = let same : found.Sysin ≡ k = cc in subst NoAttribute same tt
    go false true e = let same : found.Sysout ≡ k = cc in subst NoAttribute same tt
    go false false e = prefix_name (standard_prefix name) k e

pub alone_name : (name : List ℕ) (k : StandardName) → standard_name name ≡ Some k → NoAttribute k
unfolding standard_name
alone_name name k e = go (first_named place.Alone name STANDARD_NAMES) refl e
  where
    go : (o : Option Standard) → first_named place.Alone name STANDARD_NAMES ≡ o → procedure_or o (named_beside name) ≡ Some k → NoAttribute k
    go None is e = beside_name name k e
    go (Some x) is e =
        let same : found.Procedure x ≡ k = cc in subst NoAttribute same (first_seen place.Alone name x STANDARD_NAMES is).0

pub text_name : (name : List ℕ) (k : StandardName) → text_attribute name ≡ Some k → OfTexts k
unfolding text_attribute
text_name name k e = found_behind OfTexts place.Text name k (λ x seen. seen) e

-- the names of sysin and sysout are seen alone
sysin_alone : (x : Standard) → is_seen place.Sysin (row_of x).owner ≡ true → IsProcedure (found.Procedure x)
unfolding row_of
sysin_alone name.Inimage seen = (refl, refl)
sysin_alone name.Inchar seen = (refl, refl)
sysin_alone name.Inint seen = (refl, refl)
sysin_alone name.Intext seen = (refl, refl)
sysin_alone name.Lastitem seen = (refl, refl)
sysin_alone name.Endfile seen = (refl, refl)
sysin_alone name.Image seen = (refl, refl)
sysin_alone name.Pos seen = (refl, refl)
sysin_alone name.Setpos seen = (refl, refl)
sysin_alone name.More seen = (refl, refl)
sysin_alone name.Length seen = (refl, refl)
sysin_alone _ seen = absurd (false≢true seen)

sysout_alone : (x : Standard) → is_seen place.Sysout (row_of x).owner ≡ true → IsProcedure (found.Procedure x)
unfolding row_of
sysout_alone name.Outimage seen = (refl, refl)
sysout_alone name.Outchar seen = (refl, refl)
sysout_alone name.Outtext seen = (refl, refl)
sysout_alone name.Outint seen = (refl, refl)
sysout_alone name.Image seen = (refl, refl)
sysout_alone name.Pos seen = (refl, refl)
sysout_alone name.Setpos seen = (refl, refl)
sysout_alone name.More seen = (refl, refl)
sysout_alone name.Length seen = (refl, refl)
sysout_alone _ seen = absurd (false≢true seen)

pub sysin_name : (name : List ℕ) (k : StandardName) → sysin_attribute name ≡ Some k → IsProcedure k
unfolding sysin_attribute
sysin_name name k e = found_behind IsProcedure place.Sysin name k sysin_alone e

pub sysout_name : (name : List ℕ) (k : StandardName) → sysout_attribute name ≡ Some k → IsProcedure k
unfolding sysout_attribute
sysout_name name k e = found_behind IsProcedure place.Sysout name k sysout_alone e

-- what a name alone, or behind `sysin` or `sysout`, gives
row_gives : (x : Standard) → IsProcedure (found.Procedure x) → (Operands : List Kind → Type 0) → Operands (kinds_of (signature (found.Procedure x))) → StandardGives (Some x) Operands (given_by (signature (found.Procedure x)).result)
unfolding signature row_of
row_gives name.Abs p Operands a = (((refl, refl, refl), refl), a)
row_gives name.Sign p Operands a = (((refl, refl, refl), refl), a)
row_gives name.Min p Operands a = (((refl, refl, refl), refl), a)
row_gives name.Max p Operands a = (((refl, refl, refl), refl), a)
row_gives name.Mod p Operands a = (((refl, refl, refl), refl), a)
row_gives name.Rem p Operands a = (((refl, refl, refl), refl), a)
row_gives name.Maxint p Operands a = (((refl, refl, refl), refl), a)
row_gives name.Minint p Operands a = (((refl, refl, refl), refl), a)
row_gives name.Char p Operands a = (((refl, refl, refl), refl), a)
row_gives name.Rank p Operands a = (((refl, refl, refl), refl), a)
row_gives name.Isochar p Operands a = (((refl, refl, refl), refl), a)
row_gives name.Isorank p Operands a = (((refl, refl, refl), refl), a)
row_gives name.Digit p Operands a = (((refl, refl, refl), refl), a)
row_gives name.Letter p Operands a = (((refl, refl, refl), refl), a)
row_gives name.Blanks p Operands a = (((refl, refl, refl), refl), a)
row_gives name.Copy p Operands a = (((refl, refl, refl), refl), a)
row_gives name.Upcase p Operands a = (((refl, refl, refl), refl), a)
row_gives name.Lowcase p Operands a = (((refl, refl, refl), refl), a)
row_gives name.Inimage p Operands a = (((refl, refl, refl), refl), a)
row_gives name.Inchar p Operands a = (((refl, refl, refl), refl), a)
row_gives name.Inint p Operands a = (((refl, refl, refl), refl), a)
row_gives name.Intext p Operands a = (((refl, refl, refl), refl), a)
row_gives name.Lastitem p Operands a = (((refl, refl, refl), refl), a)
row_gives name.Endfile p Operands a = (((refl, refl, refl), refl), a)
row_gives name.Outimage p Operands a = (((refl, refl, refl), refl), a)
row_gives name.Outchar p Operands a = (((refl, refl, refl), refl), a)
row_gives name.Outtext p Operands a = (((refl, refl, refl), refl), a)
row_gives name.Outint p Operands a = (((refl, refl, refl), refl), a)
row_gives name.Image p Operands a = (refl, a)
row_gives name.Pos p Operands a = (((refl, refl, refl), refl), [], refl, a)
row_gives name.Setpos p Operands a = (((refl, refl, refl), refl), kind.Integer ∷ [], refl, a)
row_gives name.More p Operands a = (((refl, refl, refl), refl), [], refl, a)
row_gives name.Length p Operands a = (((refl, refl, refl), refl), [], refl, a)
row_gives name.Detach p Operands a = absurd (let f : Some Detaching ≡ None = p.1 in cc)
row_gives name.Call p Operands a = absurd (let f : Some Calling ≡ None = p.1 in cc)
row_gives name.Resume p Operands a = absurd (let f : Some Resuming ≡ None = p.1 in cc)
row_gives _ p Operands a = absurd (false≢true p.0)

pub standard_gives : (k : StandardName) → IsProcedure k → (Operands : List Kind → Type 0) → Operands (kinds_of (signature k)) → StandardGives (procedure_named k) Operands (given_by (signature k).result)
standard_gives (found.Procedure x) p Operands a = row_gives x p Operands a
standard_gives _ p Operands a = absurd p

-- what an attribute of texts gives
row_of_text_gives : (x : Standard) → OfTexts (found.Procedure x) → (Object : Type 0) → Object → (Operands : List Kind → Type 0) → Operands (kinds_of (signature (found.Procedure x))) → AttributeGives (Some x) Object Operands (given_by (signature (found.Procedure x)).result)
unfolding signature row_of
row_of_text_gives name.TextConstant p Object t Operands a = (t, (((refl, refl, refl), refl), [], refl, a))
row_of_text_gives name.TextStart p Object t Operands a = (t, (((refl, refl, refl), refl), [], refl, a))
row_of_text_gives name.TextLength p Object t Operands a = (t, (((refl, refl, refl), refl), [], refl, a))
row_of_text_gives name.TextPos p Object t Operands a = (t, (((refl, refl, refl), refl), [], refl, a))
row_of_text_gives name.TextMore p Object t Operands a = (t, (((refl, refl, refl), refl), [], refl, a))
row_of_text_gives name.TextMain p Object t Operands a = (t, (((refl, refl, refl), refl), [], refl, a))
row_of_text_gives name.TextSetpos p Object t Operands a = (t, (((refl, refl, refl), refl), kind.Integer ∷ [], refl, a))
row_of_text_gives name.TextGetchar p Object t Operands a = (t, (((refl, refl, refl), refl), [], refl, a))
row_of_text_gives name.TextPutchar p Object t Operands a = (t, (((refl, refl, refl), refl), kind.Character ∷ [], refl, a))
row_of_text_gives name.TextSub p Object t Operands a = (t, (((refl, refl, refl), refl), kind.Integer ∷ kind.Integer ∷ [], refl, a))
row_of_text_gives name.TextStrip p Object t Operands a = (t, (((refl, refl, refl), refl), [], refl, a))
row_of_text_gives name.TextGetint p Object t Operands a = (t, (((refl, refl, refl), refl), [], refl, a))
row_of_text_gives name.TextPutint p Object t Operands a = (t, (((refl, refl, refl), refl), kind.Integer ∷ [], refl, a))
row_of_text_gives _ p Object t Operands a = absurd (false≢true p)

pub attribute_gives : (k : StandardName) → OfTexts k → (Object : Type 0) → Object → (Operands : List Kind → Type 0) → Operands (kinds_of (signature k)) → AttributeGives (procedure_named k) Object Operands (given_by (signature k).result)
attribute_gives (found.Procedure x) p Object t Operands a = row_of_text_gives x p Object t Operands a
attribute_gives _ p Object t Operands a = absurd p

-- whether it leaves something
leaves_given : (r : Option StandardType) → is_given (given_by (plain_or_none r)) ≡ has_value r
leaves_given None = refl
leaves_given (Some ty) = refl

pub standard_left : (k : StandardName) → is_given (given_by (signature k).result) ≡ standard_leaves (procedure_named k)
unfolding signature
standard_left (found.Procedure x) = leaves_given (row_of x).result
standard_left _ = refl

-- what is seen alone or behind a text gives no reference
row_proper : (x : Standard) → (is_seen place.Alone (row_of x).owner || is_seen place.Text (row_of x).owner) ≡ true → PlainGiven (plain_or_none (row_of x).result)
unfolding row_of
row_proper name.Suc seen = absurd (false≢true seen)
row_proper name.Pred seen = absurd (false≢true seen)
row_proper name.Prev seen = absurd (false≢true seen)
row_proper name.First seen = absurd (false≢true seen)
row_proper name.Last seen = absurd (false≢true seen)
row_proper name.Nextev seen = absurd (false≢true seen)
row_proper name.Current seen = absurd (false≢true seen)
row_proper name.Main seen = absurd (false≢true seen)
row_proper _ seen = tt

seen_first : (a b : Bool) → a ≡ true → (a || b) ≡ true
seen_first true b e = refl
seen_first false b e = absurd (false≢true e)

seen_second : (a b : Bool) → b ≡ true → (a || b) ≡ true
seen_second true b e = refl
seen_second false b e = e

pub alone_proper : (k : StandardName) → NoAttribute k → PlainGiven (signature k).result
unfolding signature
alone_proper (found.Procedure x) p = row_proper x (seen_first _ _ p)
alone_proper found.Sysin p = tt
alone_proper found.Sysout p = tt
alone_proper (found.Prefix which) p = tt

pub procedure_proper : (k : StandardName) → IsProcedure k → PlainGiven (signature k).result
unfolding signature
procedure_proper (found.Procedure x) p = row_proper x (seen_first _ _ p.0)
procedure_proper _ p = absurd p

pub attribute_proper : (k : StandardName) → OfTexts k → PlainGiven (signature k).result
unfolding signature
attribute_proper (found.Procedure x) p = row_proper x (seen_second _ _ p)
attribute_proper _ p = absurd p

-- ---- transfers of control

-- a name is `detach`, `call` or `resume`, or no transfer of control
pub which_transfer : (k : StandardName) → (k ≡ found.Procedure name.Detach) ⊎ ((k ≡ found.Procedure name.Call) ⊎ ((k ≡ found.Procedure name.Resume) ⊎ (transfer_named (procedure_named k) ≡ None)))
which_transfer (found.Procedure name.Detach) = inl refl
which_transfer (found.Procedure name.Call) = inr (inl refl)
which_transfer (found.Procedure name.Resume) = inr (inr (inl refl))
which_transfer (found.Procedure x) = inr (inr (inr refl))
which_transfer _ = inr (inr (inr refl))

-- a procedure and an attribute of texts are none
pub procedure_transfers_none : (k : StandardName) → IsProcedure k → transfer_named (procedure_named k) ≡ None
procedure_transfers_none (found.Procedure x) p = p.1
procedure_transfers_none _ p = absurd p

row_transfers_none : (x : Standard) → is_seen place.Text (row_of x).owner ≡ true → transfer_of x ≡ None
unfolding row_of
row_transfers_none name.Detach seen = absurd (false≢true seen)
row_transfers_none name.Call seen = absurd (false≢true seen)
row_transfers_none name.Resume seen = absurd (false≢true seen)
row_transfers_none _ seen = refl

pub attribute_transfers_none : (k : StandardName) → OfTexts k → transfer_named (procedure_named k) ≡ None
attribute_transfers_none (found.Procedure x) p = row_transfers_none x p
attribute_transfers_none _ p = absurd p

-- `detach` has no parameter, `call` and `resume` have a reference; none of them gives anything
pub detach_kinds : kinds_of (signature (found.Procedure name.Detach)) ≡ []
unfolding signature row_of
detach_kinds = refl

pub detach_result : (signature (found.Procedure name.Detach)).result ≡ None
unfolding signature row_of
detach_result = refl

pub call_kinds : kinds_of (signature (found.Procedure name.Call)) ≡ kind.Reference ∷ []
unfolding signature row_of
call_kinds = refl

pub call_result : (signature (found.Procedure name.Call)).result ≡ None
unfolding signature row_of
call_result = refl

pub resume_kinds : kinds_of (signature (found.Procedure name.Resume)) ≡ kind.Reference ∷ []
unfolding signature row_of
resume_kinds = refl

pub resume_result : (signature (found.Procedure name.Resume)).result ≡ None
unfolding signature row_of
resume_result = refl

pub detach_alone : NoAttribute (found.Procedure name.Detach)
unfolding row_of
detach_alone = refl

-- `detach` is spelt so
prefix_no_procedure : (o : Option StandardPrefix) (x : Standard) → prefix_or_none o ≡ Some (found.Procedure x) → ⊥
prefix_no_procedure None x e = cc
prefix_no_procedure (Some which) x e = cc

beside_no_procedure : (name : List ℕ) (x : Standard) → named_beside name ≡ Some (found.Procedure x) → ⊥
beside_no_procedure name x e = go (bytes_eq name (codes "sysin")) (bytes_eq name (codes "sysout")) e
  where
    go : (a b : Bool) → (if a then Some found.Sysin else if b then Some found.Sysout else prefix_or_none (standard_prefix name)) ≡ Some (found.Procedure x) → ⊥
    go true b e = cc
    go false true e = cc
    go false false e = prefix_no_procedure (standard_prefix name) x e

spelt_so : (n : List ℕ) (x : Standard) → standard_name n ≡ Some (found.Procedure x) → bytes_eq n (row_of x).spelling ≡ true
unfolding standard_name
spelt_so n x e = go (first_named place.Alone n STANDARD_NAMES) refl e
  where
    go : (o : Option Standard) → first_named place.Alone n STANDARD_NAMES ≡ o → procedure_or o (named_beside n) ≡ Some (found.Procedure x) → bytes_eq n (row_of x).spelling ≡ true
    go None is e = absurd (beside_no_procedure n x e)
    go (Some y) is e = let same : y ≡ x = cc in subst (λ z. bytes_eq n (row_of z).spelling ≡ true) same (first_seen place.Alone n y STANDARD_NAMES is).1

pub detach_spelt : (n : List ℕ) → standard_name n ≡ Some (found.Procedure name.Detach) → is_detach n ≡ true
unfolding is_detach row_of
detach_spelt n e = spelt_so n name.Detach e
