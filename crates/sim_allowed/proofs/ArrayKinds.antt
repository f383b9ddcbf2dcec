-- The arrays that one declaration of an allowed program names are of one kind.
use Rattle.std.proofs.Common.{◌≡◌, ℕ, List, [], ◌∷◌, Option, Some}
use Rattle.sim_tree.specs.declared.expr.Identifier.{Identifier}
use Rattle.sim_tree.specs.Filled.{FilledDeclarations, FilledSegments, SomeIdentifier}
use Rattle.sim_tree.specs.Syntax.{Arrayed, Arrays, Declarations, DeclareClass, DeclareProcedure, Heading, NoDeclaration, Statements, Variables, With, Expressions}
use Rattle.sim_scope.specs.Source.{Source}
use Rattle.sim_meaning.specs.Texts.{BlockText, ClassText, Text, text, PrefixedText}
use Rattle.sim_sound.specs.Held.{Holds}
use Rattle.sim_sound.specs.Typed.{SomeName}
use Rattle.sim_agree.proofs.ArrayTypes.{ArraysHold, SegmentsHold, arrays_hold, held_as, held_kind}
use Rattle.sim_agree.proofs.Groups.{declared_in_text}
use Rattle.sim_allowed.proofs.Agreed as agreed
use Rattle.sim_allowed.proofs.Allowed.{AllowedIs}
use Rattle.sim_allowed.proofs.Bounds.{ArraysNamed, SegmentsNamed}
use Rattle.sim_allowed.proofs.TextsOf.{TextFine, constants_there, text_fine}

some_name : (xs : List Identifier) → SomeIdentifier xs → SomeName xs
some_name [] p = absurd p
some_name (x ∷ xs) p = tt

segments_named : (s : Source) (h : Holds) (segments : List Arrayed) → FilledSegments segments → SegmentsHold s h segments → SegmentsNamed s h segments
segments_named s h [] f p = tt
segments_named s h (a ∷ more) f p = (f.1, some_name a.names f.0, p.0, segments_named s h more f.2 p.1)

named : (s : Source) (ds : Declarations) → FilledDeclarations ds → ArraysHold s ds → ArraysNamed s ds
named s NoDeclaration f p = tt
named s (With (Arrays type token segments) ds) f p = (held_as s type, held_kind s type, segments_named s (held_as s type) segments f.0 p.0, named s ds f.1 p.1)
named s (With (Variables type vs) ds) f p = named s ds f.1 p
named s (With (DeclareProcedure result token h a end) ds) f p = named s ds f.1 p
named s (With (DeclareClass prefix token h interface a end) ds) f p = named s ds f.1 p

module _ (s : Source) (a : AllowedIs s) where
  fine_text : (k : ℕ) (x : Text) → text s k ≡ Some x → TextFine s x
  fine_text k x at = text_fine s a.filled (constants_there s) a.says k x at

  hold : (k : ℕ) (x : Text) → text s k ≡ Some x → ArraysHold s (declared_in_text x)
  hold k x at = arrays_hold s (agreed.tables_of s a) a.order a.second (agreed.not_found_outside s a) k x at

  pub arrays : (k i : ℕ) (ds : Declarations) (ss : Statements) → text s k ≡ Some (BlockText i ds ss) → ArraysNamed s ds
  arrays k i ds ss at = named s ds (fine_text k (BlockText i ds ss) at).2 (hold k (BlockText i ds ss) at)

  pub class_arrays : (k : ℕ) (prefix : Option Identifier) (h : Heading) (ds : Declarations) (ss : Statements) → text s k ≡ Some (ClassText prefix h ds ss) → ArraysNamed s ds
  class_arrays k prefix h ds ss at = named s ds (fine_text k (ClassText prefix h ds ss) at).2 (hold k (ClassText prefix h ds ss) at)

  pub prefixed_arrays : (k : ℕ) (class : Identifier) (es : Expressions) (ds : Declarations) (ss : Statements) → text s k ≡ Some (PrefixedText class es ds ss) → ArraysNamed s ds
  prefixed_arrays k class es ds ss at = named s ds (fine_text k (PrefixedText class es ds ss) at).2 (hold k (PrefixedText class es ds ss) at)
