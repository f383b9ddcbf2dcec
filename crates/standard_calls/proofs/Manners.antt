-- Which names are done in a manner.
use Rattle.std.proofs.Common.{◌≡◌, refl, sym, subst}
use Rattle.standard_calls.specs.declared.calls.OfInteger.{OfInteger}
use Rattle.standard_calls.specs.declared.calls.OfInteger.TheVariants as integer
use Rattle.standard_calls.specs.declared.calls.OfIntegers.{OfIntegers}
use Rattle.standard_calls.specs.declared.calls.OfIntegers.TheVariants as integers
use Rattle.standard_calls.specs.declared.calls.OfTextAndInteger.{OfTextAndInteger}
use Rattle.standard_calls.specs.declared.calls.OfTextAndInteger.TheVariants as integer_to
use Rattle.standard_calls.specs.declared.manner.Manner.{Manner}
use Rattle.standard_calls.specs.declared.manner.Manner.TheVariants as manner
use Rattle.standard_calls.specs.Calls.{integer_name, integers_name, text_and_integer_name}
use Rattle.standard_calls.specs.Quiet.{manner_of}

abbrev IsPorts : Manner → Type 0
IsPorts manner.Ports = Unit {0}
IsPorts _ = ⊥

abbrev IsWhole : Manner → Type 0
IsWhole manner.Whole = Unit {0}
IsWhole _ = ⊥

abbrev IsScan : Manner → Type 0
IsScan manner.Scan = Unit {0}
IsScan _ = ⊥

pub loud_integer : (f : OfInteger) → manner_of (integer_name f) ≡ manner.Ports → f ≡ integer.Intext
loud_integer integer.Intext h = refl
loud_integer _ h = absurd (subst IsPorts (sym h) tt)

pub loud_integers : (f : OfIntegers) → manner_of (integers_name f) ≡ manner.Ports → f ≡ integers.Outint
loud_integers integers.Outint h = refl
loud_integers _ h = absurd (subst IsPorts (sym h) tt)

pub whole_integer : (f : OfInteger) → manner_of (integer_name f) ≡ manner.Whole → f ≡ integer.Blanks
whole_integer integer.Blanks h = refl
whole_integer _ h = absurd (subst IsWhole (sym h) tt)

pub whole_text_and_integer : (f : OfTextAndInteger) → manner_of (text_and_integer_name f) ≡ manner.Whole → f ≡ integer_to.Putint
whole_text_and_integer integer_to.Putint h = refl
whole_text_and_integer _ h = absurd (subst IsWhole (sym h) tt)

pub scan_text_and_integer : (f : OfTextAndInteger) → manner_of (text_and_integer_name f) ≡ manner.Scan → f ≡ integer_to.Setpos
scan_text_and_integer integer_to.Setpos h = refl
scan_text_and_integer _ h = absurd (subst IsScan (sym h) tt)
