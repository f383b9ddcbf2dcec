-- The bounds of the arrays that a text declares.
use Rattle.std.proofs.Common.{◌≡◌, ℕ, false, List, [], ◌∷◌, ◌++◌}
use Rattle.sim_scope.specs.declared.outcome.Extent.TheVariants as extent
use Rattle.sim_scope.specs.declared.types.SimType.TheVariants as t
use Rattle.sim_scope.specs.Runs.{each}
use Rattle.sim_scope.specs.Source.{Source}
use Rattle.sim_scope.specs.Statements.{array_events, judging, pair_events, required, type_events}
use Rattle.sim_scope.specs.Walk.{declaration_events, declarations_events}
use Rattle.sim_tree.specs.Filled.{SomeBounds}
use Rattle.sim_tree.specs.Syntax.{Arrayed, Arrays, BoundPair, Declarations, DeclareClass, DeclareProcedure, Expression, NoDeclaration, Variables, With}
use Rattle.sim_values.specs.declared.kind.Kind.TheVariants as kind
use Rattle.sim_meaning.specs.Attributes.{is_connection}
use Rattle.sim_meaning.specs.Constants.{bounds_constants, declaration_constants, declarations_constants, expression_constants, segments_constants}
use Rattle.sim_meaning.specs.Texts.{kind_named, text}
use Rattle.sim_sound.specs.Held.{Holds, InBound, IsOfKind, Simply}
use Rattle.sim_sound.specs.Expressions.{ExprIs}
use Rattle.sim_sound.specs.Typed.{ArraysAre, ArraysTyped, BoundsAre, SegmentsAre, SomeName}
use Rattle.sim_agree.specs.Facts.{Tabled}
use Rattle.sim_agree.specs.Places.{Each, PlacedArrays, PlacedBounds, PlacedExpression, PlacedSegment}
use Rattle.sim_allowed.proofs.Expressions.{AllThere, both_there, expression_known, AllNear}
use Rattle.sim_allowed.proofs.Said.{AllSay, both_say}
use Rattle.sim_allowed.proofs.Sights.{bound_sight}
use Rattle.sim_allowed.proofs.Statements.{required_is}

-- ---- bounds

-- each segment has bounds, and its arrays are there and hold what its type says
abbrev pub SegmentsNamed : Source → Holds → List Arrayed → Type 0
SegmentsNamed s h [] = Unit {0}
SegmentsNamed s h (a ∷ more) = SomeBounds a.bounds × SomeName a.names × ArraysAre s h a.names × SegmentsNamed s h more

abbrev pub ArraysNamed : Source → Declarations → Type 0
ArraysNamed s NoDeclaration = Unit {0}
ArraysNamed s (With (Arrays type token segments) ds) = (h : Holds) × IsOfKind h (kind_named type) × SegmentsNamed s h segments × ArraysNamed s ds
ArraysNamed s (With (Variables type vs) ds) = ArraysNamed s ds
ArraysNamed s (With (DeclareProcedure result token h a end) ds) = ArraysNamed s ds
ArraysNamed s (With (DeclareClass prefix token h interface a end) ds) = ArraysNamed s ds

module _ (s : Source) (known : Tabled s) (k : ℕ) (instance : is_connection (text s k) ≡ false) (near : AllNear s (InBound k)) where
  bound_is : (e : Expression) → PlacedExpression s.tables k e → AllThere s (expression_constants e) → AllSay s (required s.tables extent.Bound t.Integer e) → ExprIs s (InBound k) e (Simply kind.Integer)
  bound_is e l there said =
      let sight = bound_sight s known k instance in required_is s known (InBound k) sight t.Integer tt e (expression_known s known (InBound k) sight near e l there) said

  bounds_are : (bs : List BoundPair) → Each (PlacedBounds s.tables k) bs → AllThere s (bounds_constants bs) → AllSay s (each (pair_events s.tables) bs) → BoundsAre s (InBound k) bs
  bounds_are [] l there said = tt
  bounds_are (b ∷ bs) l there said =
      let c = both_there s (expression_constants b.lower ++ expression_constants b.upper) (bounds_constants bs) there in
      let d = both_there s (expression_constants b.lower) (expression_constants b.upper) c.0 in
      let parts = both_say s (pair_events s.tables b) (each (pair_events s.tables) bs) said in
      let pair = both_say s (required s.tables extent.Bound t.Integer b.lower) (required s.tables extent.Bound t.Integer b.upper) parts.0 in
      (bound_is b.lower l.0.0 d.0 pair.0, bound_is b.upper l.0.1 d.1 pair.1, bounds_are bs l.1 c.1 parts.1)

  segments_are : (h : Holds) (segments : List Arrayed) → Each (PlacedSegment s.tables k) segments → SegmentsNamed s h segments → AllThere s (segments_constants segments) → AllSay s (each (array_events s.tables) segments) → SegmentsAre s (InBound k) h segments
  segments_are h [] l n there said = tt
  segments_are h (a ∷ more) l n there said =
      let c = both_there s (bounds_constants a.bounds) (segments_constants more) there in
      let parts = both_say s (array_events s.tables a) (each (array_events s.tables) more) said in
      (bounds_are a.bounds l.0 c.0 parts.0, n.0, n.1, n.2, segments_are h more l.1 n.3 c.1 parts.1)

  pub arrays_typed : (ds : Declarations) → PlacedArrays s.tables k ds → ArraysNamed s ds → AllThere s (declarations_constants ds) → AllSay s (declarations_events (judging s.tables) ds) → ArraysTyped s (InBound k) ds
  unfolding judging
  arrays_typed NoDeclaration l n there said = tt
  arrays_typed (With (Arrays type i segments) ds) l n there said =
      let c = both_there s (segments_constants segments) (declarations_constants ds) there in
      let parts = both_say s (type_events s.tables type ++ each (array_events s.tables) segments) (declarations_events (judging s.tables) ds) said in
      let own = both_say s (type_events s.tables type) (each (array_events s.tables) segments) parts.0 in
      (n.0, n.1, segments_are n.0 segments l.0 n.2 c.0 own.1, arrays_typed ds l.1 n.3 c.1 parts.1)
  arrays_typed (With (Variables type vs) ds) l n there said =
      let c = both_there s (declaration_constants (Variables type vs)) (declarations_constants ds) there in
      let parts = both_say s (declaration_events (judging s.tables) (Variables type vs)) (declarations_events (judging s.tables) ds) said in
      arrays_typed ds l n c.1 parts.1
  arrays_typed (With (DeclareProcedure result i h a end) ds) l n there said =
      let c = both_there s (declaration_constants (DeclareProcedure result i h a end)) (declarations_constants ds) there in
      let parts = both_say s (declaration_events (judging s.tables) (DeclareProcedure result i h a end)) (declarations_events (judging s.tables) ds) said in
      arrays_typed ds l n c.1 parts.1
  arrays_typed (With (DeclareClass prefix i h interface a end) ds) l n there said =
      let c = both_there s (declaration_constants (DeclareClass prefix i h interface a end)) (declarations_constants ds) there in
      let parts = both_say s (declaration_events (judging s.tables) (DeclareClass prefix i h interface a end)) (declarations_events (judging s.tables) ds) said in
      arrays_typed ds l n c.1 parts.1
