-- The arrays of a block are pending where their code stands.
use Rattle.std.proofs.Common.{◌≡◌, ◌*◌, ℕ, suc, List, [], ◌∷◌, length, Option, Some, None, refl, sym, ap, ◌∙◌, subst, arith}
use Rattle.sim_base.specs.declared.numbering.DeclNo.{DeclNo}
use Rattle.sim_scope.specs.Source.{Source, line_at}
use Rattle.sim_tree.specs.declared.expr.Identifier.{Identifier}
use Rattle.sim_tree.specs.Syntax.{Arrayed, Arrays, BoundPair, Declarations, DeclareClass, DeclareProcedure, NoDeclaration, Variables, With}
use Rattle.sim_values.specs.declared.kind.Kind.{Kind as TypeKind}
use Rattle.sim_code.specs.declared.instr.Instr.TheVariants as i
use Rattle.sim_code.specs.Code.{CodeOf}
use Rattle.sim_code.specs.Machine.{Frames}
use Rattle.sim_meaning.specs.Closing.{close}
use Rattle.sim_meaning.specs.Entries.{arrays_declared, arrays_of, bounds_of, first_array, further_arrays, segments_of}
use Rattle.sim_meaning.specs.Pending.{ArrayOp, Cell, CopyOp, Declared, Do, Eval, Instances, Item, StoreOp, ToCell}
use Rattle.sim_meaning.specs.Texts.{declared_at, kind_named}
use Rattle.sim_meaning.specs.Sane.{Lives}
use Rattle.codegen_expr.specs.Sites.{Varies, At}
use Rattle.codegen.specs.Agrees.{Agrees}
use Rattle.codegen.specs.CodeArrays.{ArraysAt, BoundsAt, FurtherAt, KeepsArray, LoadsArray, MakesAt, SegmentsAt}
use Rattle.sim_relate.proofs.Closing.{close_at}
use Rattle.sim_relate.proofs.Frames.{own_frame}
use Rattle.sim_relate.proofs.Living.{reach_found}
use Rattle.sim_relate.proofs.Pending.{anys_more, evals, pends}
use Rattle.sim_relate.proofs.Reach.{own_reaches}
use Rattle.sim_relate.proofs.Known.{Any, Kind, Stands, anys, site_at, Runs, Settled}
use Rattle.sim_relate.proofs.Relation.{WorkAt}
use Rattle.sim_relate.proofs.Waiting.{Wait}

-- two values for each dimension
abbrev bounded : List BoundPair → List Kind → List Kind
bounded [] ks = ks
bounded (x ∷ xs) ks = bounded xs (Any ∷ Any ∷ ks)

bounded_is : (xs : List BoundPair) (ks : List Kind) → bounded xs ks ≡ anys (2 * length xs) ks
bounded_is [] ks = refl
bounded_is (x ∷ xs) ks =
    let twice : suc (suc (2 * length xs)) ≡ 2 * suc (length xs) = omega arith in
    bounded_is xs (Any ∷ Any ∷ ks) ∙ anys_more (2 * length xs) (Any ∷ ks) ∙ anys_more (suc (2 * length xs)) ks ∙ ap (λ n. anys n ks) twice

-- a further array whose declaration is known
further_some : (s : Source) (i : ℕ) (first : DeclNo) (x : Identifier) (xs : List Identifier) (w : List Item) (d : DeclNo) → declared_at s x.token.0 ≡ Some d
    → further_arrays s i first (x ∷ xs) w ≡ Do (Eval (Cell i (Declared first.0))) ∷ Do (CopyOp (line_at s x.token.0)) ∷ Do (StoreOp (ToCell i (Declared d.0))) ∷ further_arrays s i first xs w
further_some s i first x xs w d e = rw e

module _ (s : Source) (code : CodeOf) (agrees : Agrees s) (m : Instances) (fs : Frames) (Below : Wait → Type 0) (inst t : ℕ) (b : Runs) (u : ℕ) (low : Settled s code t b u) (st : Stands s m inst t) (lives : Lives m inst) where
  abbrev Work : List Item → ℕ → List Kind → Type 0
  Work w p ks = WorkAt s code m fs Below inst t b u w p ks

  array_stored : (w : List Item) (d : DeclNo) (p q : ℕ) → KeepsArray s code (site_at t b u) (Some d) p q → Work w q [] → Work (Do (StoreOp (ToCell inst (Declared d.0))) ∷ w) p (Any ∷ [])
  array_stored w d p q a k = pends s code m fs Below inst t b u low w (StoreOp (ToCell inst (Declared d.0))) p q (Any ∷ []) [] (record { text = t; is = a.2; reaches = own_reaches s m inst t agrees st; own = own_frame s agrees t (Declared d.0) a.0 refl; has = a.0; varies = a.1; declared = refl }, refl) k

  further_one : (w : List Item) (d : DeclNo) → Varies s d → (x : Identifier) (xs : List Identifier) (p y z q : ℕ) → LoadsArray s code (site_at t b u) (Some d) p y → At code i.CopyArr (line_at s x.token.0) y z → (o : Option DeclNo) → declared_at s x.token.0 ≡ o → KeepsArray s code (site_at t b u) o z q → Work (further_arrays s inst d xs w) q [] → Work (further_arrays s inst d (x ∷ xs) w) p []
  further_one w d varies x xs p y z q a c None e stored k = absurd stored
  further_one w d varies x xs p y z q a c (Some d') e stored k =
      let behind = further_arrays s inst d xs w in
      let store : List Item = Do (StoreOp (ToCell inst (Declared d'.0))) ∷ behind in
      subst (λ v. Work v p []) (sym (further_some s inst d x xs w d' e))
      (evals s code m fs Below inst t b u low (Do (CopyOp (line_at s x.token.0)) ∷ store) (Cell inst (Declared d.0)) p y [] (record { text = t; load = a.1; reaches = own_reaches s m inst t agrees st; own = own_frame s agrees t (Declared d.0) a.0 refl; has = a.0; varies = varies }, refl)
      (pends s code m fs Below inst t b u low store (CopyOp (line_at s x.token.0)) y z (Any ∷ []) (Any ∷ []) (record { is = c; left = []; «in» = refl; out = refl })
      (array_stored behind d' z q stored k)))

  further_at : (w : List Item) (d : DeclNo) → Varies s d → (xs : List Identifier) (p q : ℕ) → FurtherAt s code (site_at t b u) (Some d) xs p q → Work w q [] → Work (further_arrays s inst d xs w) p []
  further_at w d varies [] p q a k = subst (λ z. Work w z []) a k
  further_at w d varies (x ∷ xs) p q a k = further_one w d varies x xs p a.0 a.1 a.2 a.3 a.4 (declared_at s x.token.0) refl a.5 (further_at w d varies xs a.2 q a.6 k)

  first_at : (w : List Item) (o : Option DeclNo) (xs : List Identifier) (p y q : ℕ) → KeepsArray s code (site_at t b u) o p y → FurtherAt s code (site_at t b u) o xs y q → Work w q [] → Work (first_array s inst o xs w) p (Any ∷ [])
  first_at w None xs p y q a f k = absurd a
  first_at w (Some d) xs p y q a f k = array_stored (further_arrays s inst d xs w) d p y a (further_at w d a.1 xs y q f k)

  makes_at : (w : List Item) (kind : TypeKind) (n : ℕ) (xs : List Identifier) (p q : ℕ) (ks : List Kind) → ks ≡ anys (2 * n) [] → MakesAt s code (site_at t b u) kind n xs p q → Work w q [] → Work (arrays_of s inst kind n xs w) p ks
  makes_at w kind n [] p q ks e a k = absurd a
  makes_at w kind n (x ∷ xs) p q ks e a k =
      pends s code m fs Below inst t b u low (first_array s inst (declared_at s x.token.0) xs w) (ArrayOp kind n (line_at s x.token.0)) p a.0 ks (Any ∷ []) (record { is = a.4; some = a.2; left = []; fits = a.3; «in» = e; out = refl })
      (first_at w (declared_at s x.token.0) xs a.0 a.1 q a.5 a.6 k)

  bounds_at : (w : List Item) (xs : List BoundPair) (End : ℕ → ℕ → Type 0) (p q : ℕ) (ks : List Kind) → BoundsAt s code (site_at t b u) (length ks) xs End p q → ((y : ℕ) → End y q → Work w y (bounded xs ks)) → Work (bounds_of s m inst xs w) p ks
  bounds_at w [] End p q ks a f = f p a
  bounds_at w (x ∷ xs) End p q ks a f =
      let lower = close_at s code m inst (site_at t b u) agrees (λ v inside. reach_found s m inst t v agrees st lives inside) x.lower (length ks) p a.0 a.2 in
      let upper = close_at s code m inst (site_at t b u) agrees (λ v inside. reach_found s m inst t v agrees st lives inside) x.upper (suc (length ks)) a.0 a.1 a.3 in
      let more = bounds_of s m inst xs w in
      evals s code m fs Below inst t b u low (Do (Eval (close s m inst x.upper)) ∷ more) (close s m inst x.lower) p a.0 ks lower
      (evals s code m fs Below inst t b u low more (close s m inst x.upper) a.0 a.1 (Any ∷ ks) upper (bounds_at w xs End a.1 q (Any ∷ Any ∷ ks) a.4 f))

  segments_at : (w : List Item) (kind : TypeKind) (xs : List Arrayed) (p q : ℕ) → SegmentsAt s code (site_at t b u) kind xs p q → Work w q [] → Work (segments_of s m inst kind xs w) p []
  segments_at w kind [] p q a k = subst (λ z. Work w z []) a k
  segments_at w kind (x ∷ xs) p q a k =
      let more = segments_of s m inst kind xs w in
      bounds_at (arrays_of s inst kind (length x.bounds) x.names more) x.bounds (MakesAt s code (site_at t b u) kind (length x.bounds) x.names) p a.0 [] a.1
      (λ y end. makes_at more kind (length x.bounds) x.names y a.0 (bounded x.bounds []) (bounded_is x.bounds []) end (segments_at w kind xs a.0 q a.2 k))

  pub arrays_at : (w : List Item) (ds : Declarations) (p q : ℕ) → ArraysAt s code (site_at t b u) ds p q → Work w q [] → Work (arrays_declared s m inst ds w) p []
  arrays_at w NoDeclaration p q a k = subst (λ z. Work w z []) a k
  arrays_at w (With (Variables type vs) ds) p q a k = arrays_at w ds p q a k
  arrays_at w (With (Arrays type token segments) ds) p q a k = segments_at (arrays_declared s m inst ds w) (kind_named type) segments p a.0 a.1 (arrays_at w ds a.0 q a.2 k)
  arrays_at w (With (DeclareProcedure result token h x end) ds) p q a k = arrays_at w ds p q a k
  arrays_at w (With (DeclareClass prefix token h interface x end) ds) p q a k = arrays_at w ds p q a k
