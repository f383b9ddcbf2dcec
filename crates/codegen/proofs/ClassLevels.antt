-- The statements of a class, with what stands for `inner`.
use Rattle.std.proofs.Common.{◌≡◌, ◌<◌, ◌≤◌, ◌+◌, ◌-◌, ◌++◌, ℕ, zero, suc, pos, Bool, true, false, List, [], ◌∷◌, drop, length, map, Option, Some, None, refl, sym, ap, ◌∙◌, subst, arith, take, length-append}
use Rattle.std.specs.Prelude.{⊤, slice_get}
use Rattle.std.specs.declared.alloc.Global.{Global}
use Rattle.std.specs.declared.boxed.Box.{Box}
use Rattle.std.specs.declared.vec.Vec.{Vec}
use Rattle.sim_base.specs.declared.numbering.TokenNo.{TokenNo}
use Rattle.sim_scope.specs.declared.bound.Bound.{Bound}
use Rattle.sim_scope.specs.Access.{block_at}
use Rattle.sim_scope.specs.Source.{Source, block_around, source_of}
use Rattle.sim_tree.specs.declared.expr.Expr.{Expr}
use Rattle.sim_tree.specs.declared.expr.Identifier.{Identifier}
use Rattle.sim_tree.specs.declared.program.BlockPrefix.{BlockPrefix}
use Rattle.sim_tree.specs.declared.stmt.Activation.{Activation}
use Rattle.sim_tree.specs.declared.stmt.Assigned.{Assigned}
use Rattle.sim_tree.specs.declared.stmt.Block.{Block}
use Rattle.sim_tree.specs.declared.stmt.ForElement.{ForElement}
use Rattle.sim_tree.specs.declared.stmt.ReferenceElement.{ReferenceElement}
use Rattle.sim_tree.specs.declared.stmt.Stmt.{Stmt}
use Rattle.sim_tree.specs.declared.stmt.Stmt.TheVariants as t
use Rattle.sim_tree.specs.declared.stmt.Timing.{Timing}
use Rattle.sim_tree.specs.declared.stmt.When.{When}
use Rattle.sim_tree.specs.Syntax.{Statement, Statements, statements}
use Rattle.sim_tree.specs.SyntaxOfProgram.{statement_syntax}
use Rattle.sim_tree.proofs.ProgramSyntaxLemmas as v
use Rattle.sim_code.specs.declared.code.BlockKind.{BlockKind}
use Rattle.sim_code.specs.declared.code.BlockKind.TheVariants as kind
use Rattle.sim_code.specs.declared.instr.Instr.TheVariants as i
use Rattle.sim_code.specs.Code.{CodeOf}
use Rattle.sim_scope.specs.Levels.{base}
use Rattle.sim_meaning.specs.Levels.{levels_beyond, levels_from, levels_of, writes_inner}
use Rattle.codegen_expr.specs.declared.spot.Spot.{Spot}
use Rattle.codegen_expr.specs.Drafts.{DraftOf, Emits, given_up, with_instr}
use Rattle.codegen_expr.specs.Sites.{At, Site}
use Rattle.codegen_expr.proofs.Pieces.{emits_as, emits_at, emits_nothing, emits_then}
use Rattle.codegen.specs.declared.levels.InnerPlace.{InnerPlace}
use Rattle.codegen.specs.BuiltProgram.{InnerOrBuilt, LevelBuilt, StatementsBuilt, WithInnerBuilt}
use Rattle.codegen.specs.CodeStm.{InnerAt, InnerOrAt, LevelAt, StmsAt, WithInnerAt, inner_of}
use Rattle.codegen.specs.Emit.{WritesStatements}
use Rattle.codegen.specs.EmitProgram.{FirstInner, InnerThere, IsOwn, NoInnerTo, WritesAround, WritesLevel, inner_by_kind, token_number}

-- ---- which statements are `inner`

other : (x : Stmt) (y : Statement) → statement_syntax x ≡ y → inner_of y ≡ None → token_number None ≡ inner_of (statement_syntax x)
other x y e f = sym (ap inner_of e ∙ f)

pub inner_inner : (x : Stmt) (k : TokenNo) → x ≡ t.Inner k → token_number (Some k) ≡ inner_of (statement_syntax x)
inner_inner x k is = sym (ap inner_of (ap statement_syntax is ∙ v.syntax-Inner k))

pub other_empty : (x : Stmt) (k : TokenNo) → x ≡ t.Empty k → token_number None ≡ inner_of (statement_syntax x)
other_empty x k is = other x _ (ap statement_syntax is ∙ v.syntax-Empty k) refl

pub other_block : (x : Stmt) (k : Block) → x ≡ t.Block k → token_number None ≡ inner_of (statement_syntax x)
other_block x k is = other x _ (ap statement_syntax is ∙ v.syntax-Block k) refl

pub other_call : (x : Stmt) (k : Expr) → x ≡ t.Call k → token_number None ≡ inner_of (statement_syntax x)
other_call x k is = other x _ (ap statement_syntax is ∙ v.syntax-Call k) refl

pub other_assigned : (x : Stmt) (k : Expr) (l : Vec Assigned Global) → x ≡ t.Assignment k l → token_number None ≡ inner_of (statement_syntax x)
other_assigned x k l is = other x _ (ap statement_syntax is ∙ v.syntax-Assignment k l) refl

pub other_if : (x : Stmt) (k : TokenNo) (h : Expr) (p : Box Stmt Global) (o : Option (Box Stmt Global)) → x ≡ t.If k h p o → token_number None ≡ inner_of (statement_syntax x)
other_if x k h p o is = other x _ (ap statement_syntax is ∙ v.syntax-If k h p o) refl

pub other_while : (x : Stmt) (k : TokenNo) (h : Expr) (p : Box Stmt Global) → x ≡ t.While k h p → token_number None ≡ inner_of (statement_syntax x)
other_while x k h p is = other x _ (ap statement_syntax is ∙ v.syntax-While k h p) refl

pub other_for : (x : Stmt) (k : TokenNo) (y : Identifier) (n : TokenNo) (l : Vec ForElement Global) (p : Box Stmt Global) → x ≡ t.For k y n l p → token_number None ≡ inner_of (statement_syntax x)
other_for x k y n l p is = other x _ (ap statement_syntax is ∙ v.syntax-For k y n l p) refl

pub other_prefixed : (x : Stmt) (p : BlockPrefix) (k : Block) → x ≡ t.PrefixedBlock p k → token_number None ≡ inner_of (statement_syntax x)
other_prefixed x p k is = other x _ (ap statement_syntax is ∙ v.syntax-PrefixedBlock p k) refl

pub other_references : (x : Stmt) (k : TokenNo) (y : Identifier) (n : TokenNo) (l : Vec ReferenceElement Global) (p : Box Stmt Global) → x ≡ t.ForReference k y n l p → token_number None ≡ inner_of (statement_syntax x)
other_references x k y n l p is = other x _ (ap statement_syntax is ∙ v.syntax-ForReference k y n l p) refl

pub other_inspect : (x : Stmt) (k : TokenNo) (h : Expr) (n : TokenNo) (p : Box Stmt Global) (m : TokenNo) (o : Option (Box Stmt Global)) → x ≡ t.Inspect k h n p m o → token_number None ≡ inner_of (statement_syntax x)
other_inspect x k h n p m o is = other x _ (ap statement_syntax is ∙ v.syntax-Inspect k h n p m o) refl

pub other_inspect_when : (x : Stmt) (k : TokenNo) (h : Expr) (l : Vec When Global) (o : Option (Box Stmt Global)) → x ≡ t.InspectWhen k h l o → token_number None ≡ inner_of (statement_syntax x)
other_inspect_when x k h l o is = other x _ (ap statement_syntax is ∙ v.syntax-InspectWhen k h l o) refl

pub other_activation : (x : Stmt) (k : TokenNo) (n : Activation) (h : Expr) (o : Option Timing) → x ≡ t.Activation k n h o → token_number None ≡ inner_of (statement_syntax x)
other_activation x k n h o is = other x _ (ap statement_syntax is ∙ v.syntax-Activation k n h o) refl

pub ruleset inners = (inner_inner, other_empty, other_block, other_call, other_assigned, other_if, other_while, other_for, other_prefixed, other_references, other_inspect, other_inspect_when, other_activation)

-- ---- the first of them

none_number : (o : Option TokenNo) → o ≡ None → token_number o ≡ None
none_number o e = ap token_number e

pub none_yet : (xs : List Stmt) → NoInnerTo xs 0
unfolding NoInnerTo
none_yet xs k x le is = absurd (omega (arith, le))

data Less (k n : ℕ) : Type 0 where
  less : k < n → Less k n
  same : k ≡ n → Less k n

pub none_further : (xs : List Stmt) (n : ℕ) (x : Stmt) (o : Option TokenNo) → NoInnerTo xs n → slice_get xs n ≡ Some x → token_number o ≡ inner_of (statement_syntax x) → o ≡ None → NoInnerTo xs (n + 1)
unfolding NoInnerTo
none_further xs n x o f at en none k y le is = cases (le_cases k n le)
  where
    le_cases : (k n : ℕ) → k < n + 1 → Less k n
    le_cases zero zero le = same refl
    le_cases zero (suc n) le = less (omega arith)
    le_cases (suc k) zero le = absurd (omega (arith, le))
    le_cases (suc k) (suc n) le = up (le_cases k n (omega (arith, le)))
      where
        up : Less k n → Less (suc k) (suc n)
        up (less h) = less (omega (arith, h))
        up (same h) = same (ap suc h)

    some_same : (a b : Stmt) → Some a ≡ Some b → a ≡ b
    some_same a b e = cc

    cases : Less k n → inner_of (statement_syntax y) ≡ None
    cases (less h) = f k y h is
    cases (same h) = ap (λ z. inner_of (statement_syntax z)) (some_same y x (sym is ∙ ap (slice_get xs) h ∙ at)) ∙ sym en ∙ none_number o none

pub found_there : (xs : List Stmt) (n : ℕ) (x : Stmt) (o : Option TokenNo) (token : TokenNo) → NoInnerTo xs n → slice_get xs n ≡ Some x → token_number o ≡ inner_of (statement_syntax x) → o ≡ Some token → FirstInner xs (Some (record { place = n; token = token }))
unfolding FirstInner
found_there xs n x o token f at en is = record { none = f; statement = x; at = at; is = sym en ∙ ap token_number is }

pub found_none : (xs : List Stmt) (n : ℕ) → NoInnerTo xs n → length xs ≤ n → FirstInner xs None
unfolding FirstInner NoInnerTo
found_none xs n f le k x short is = f k x (omega (arith, le, short)) is

-- ---- in a text itself

some_number : (a b : ℕ) → Some a ≡ Some b → a ≡ b
some_number a b e = cc

pub own_found : (b : Bound) (k : ℕ) (token : TokenNo) (o : Option ℕ) (block : ℕ) (r : Bool) → o ≡ block_at b.scopes token.0 → o ≡ Some block → (r ≡ true → block ≡ k) → (r ≡ false → block ≡ k → ⊥) → IsOwn b k token r
unfolding IsOwn block_around block_at source_of
own_found b k token o block true eo is its another = sym eo ∙ is ∙ ap Some (its refl)
own_found b k token o block false eo is its another = λ h. another refl (some_number block k (sym is ∙ eo ∙ h))

pub own_nowhere : (b : Bound) (k : ℕ) (token : TokenNo) (o : Option ℕ) → o ≡ block_at b.scopes token.0 → o ≡ None → IsOwn b k token false
unfolding IsOwn block_around block_at source_of
own_nowhere b k token o eo is = λ h. clash (sym is ∙ eo ∙ h)
  where
    clash : None ≡ Some k → ⊥
    clash e = cc

pub ruleset owns = (own_found, own_nowhere)

-- ---- by the kind of the block

pub inner_of_class : (s : Source) (a : BlockKind) (k : ℕ) (r : Bool) → a ≡ kind.Object → r ≡ writes_inner s k → r ≡ inner_by_kind s a k
inner_of_class s a k r is e = e ∙ ap (λ z. inner_by_kind s z k) (sym is)

pub inner_of_prefixed : (s : Source) (a : BlockKind) (k : ℕ) → a ≡ kind.Prefixed → false ≡ inner_by_kind s a k
inner_of_prefixed s a k is = ap (λ z. inner_by_kind s z k) (sym is)

pub inner_of_sub_block : (s : Source) (a : BlockKind) (k : ℕ) → a ≡ kind.SubBlock → false ≡ inner_by_kind s a k
inner_of_sub_block s a k is = ap (λ z. inner_by_kind s z k) (sym is)

pub inner_of_procedure : (s : Source) (a : BlockKind) (k : ℕ) → a ≡ kind.Procedure → false ≡ inner_by_kind s a k
inner_of_procedure s a k is = ap (λ z. inner_by_kind s z k) (sym is)

pub ruleset kinds = (inner_of_class, inner_of_prefixed, inner_of_sub_block, inner_of_procedure)

-- ---- parts of the statements

abbrev stms : List Stmt → Statements
stms xs = statements (map statement_syntax xs)

none_next : (n : ℕ) (y : Stmt) (xs : List Stmt) → NoInnerTo (y ∷ xs) (suc n) → NoInnerTo xs n
unfolding NoInnerTo
none_next n y xs f k x le is = f (suc k) x (omega (arith, le)) is

none_first : (n : ℕ) (y : Stmt) (xs : List Stmt) → NoInnerTo (y ∷ xs) (suc n) → inner_of (statement_syntax y) ≡ None
unfolding NoInnerTo
none_first n y xs f = f 0 y (omega arith) refl

some_statement : (a b : Stmt) → Some a ≡ Some b → a ≡ b
some_statement a b e = cc

module _ (s : Source) where
  -- built as statements with `inner` among them, parts are built, and back
  parts_built : (k : ℕ) (xs : List Stmt) (n : ℕ) (x : Stmt) (token : ℕ) → NoInnerTo xs n → slice_get xs n ≡ Some x → inner_of (statement_syntax x) ≡ Some token → WithInnerBuilt s k (stms xs) → StatementsBuilt s k (stms (take n xs)) × (block_around s token ≡ Some k) × StatementsBuilt s k (stms (drop (suc n) xs))
  parts_built k [] n x token f at is h = absurd h
  parts_built k (y ∷ ys) zero x token f at is h =
      let e : inner_of (statement_syntax y) ≡ Some token = ap (λ z. inner_of (statement_syntax z)) (some_statement y x at) ∙ is in
      let g = subst (λ z. InnerOrBuilt s k z (statement_syntax y) (stms ys) (WithInnerBuilt s k (stms ys))) e h in
      (tt, g.0, g.1)
  parts_built k (y ∷ ys) (suc n) x token f at is h =
      let g = subst (λ z. InnerOrBuilt s k z (statement_syntax y) (stms ys) (WithInnerBuilt s k (stms ys))) (none_first n y ys f) h in
      let r = parts_built k ys n x token (none_next n y ys f) at is g.1 in
      ((g.0, r.0), r.1, r.2)

  built_parts : (k : ℕ) (xs : List Stmt) (n : ℕ) (x : Stmt) (token : ℕ) → NoInnerTo xs n → slice_get xs n ≡ Some x → inner_of (statement_syntax x) ≡ Some token → StatementsBuilt s k (stms (take n xs)) → block_around s token ≡ Some k → StatementsBuilt s k (stms (drop (suc n) xs)) → WithInnerBuilt s k (stms xs)
  built_parts k [] n x token f at is h own g = absurd (cc)
  built_parts k (y ∷ ys) zero x token f at is h own g =
      let e : inner_of (statement_syntax y) ≡ Some token = ap (λ z. inner_of (statement_syntax z)) (some_statement y x at) ∙ is in
      subst (λ z. InnerOrBuilt s k z (statement_syntax y) (stms ys) (WithInnerBuilt s k (stms ys))) (sym e) (own, g)
  built_parts k (y ∷ ys) (suc n) x token f at is h own g =
      subst (λ z. InnerOrBuilt s k z (statement_syntax y) (stms ys) (WithInnerBuilt s k (stms ys))) (sym (none_first n y ys f)) (h.0, built_parts k ys n x token (none_next n y ys f) at is h.1 own g)

  never_built : (k : ℕ) (xs : List Stmt) → NoInnerTo xs (length xs) → WithInnerBuilt s k (stms xs) → ⊥
  never_built k [] f h = h
  never_built k (y ∷ ys) f h = never_built k ys (none_next (length ys) y ys f) (subst (λ z. InnerOrBuilt s k z (statement_syntax y) (stms ys) (WithInnerBuilt s k (stms ys))) (none_first (length ys) y ys f) h).1

  parts_at : (final : CodeOf) (site : Site) (level after : ℕ) (xs : List Stmt) (n : ℕ) (x : Stmt) (token p a c q : ℕ) → NoInnerTo xs n → slice_get xs n ≡ Some x → inner_of (statement_syntax x) ≡ Some token → StmsAt s final site 0 (stms (take n xs)) p a → InnerAt s final site level after token a c → StmsAt s final site 0 (stms (drop (suc n) xs)) c q → WithInnerAt s final site level after (stms xs) p q
  parts_at final site level after [] n x token p a c q f at is h own g = absurd (cc)
  parts_at final site level after (y ∷ ys) zero x token p a c q f at is h own g =
      let e : inner_of (statement_syntax y) ≡ Some token = ap (λ z. inner_of (statement_syntax z)) (some_statement y x at) ∙ is in
      subst (λ z. InnerOrAt s final site level after z (statement_syntax y) (stms ys) (WithInnerAt s final site level after (stms ys)) p q) (sym e) (c, subst (λ z. InnerAt s final site level after token z c) h own, g)
  parts_at final site level after (y ∷ ys) (suc n) x token p a c q f at is h own g =
      subst (λ z. InnerOrAt s final site level after z (statement_syntax y) (stms ys) (WithInnerAt s final site level after (stms ys)) p q) (sym (none_first n y ys f)) (h.0, h.1, parts_at final site level after ys n x token h.0 a c q (none_next n y ys f) at is h.2 own g)

-- ---- how many levels are in front

pub place_first : (b : Bound) (k : ℕ) → length (levels_of (source_of b) k) ≡ 0 + length (levels_from b.scopes (length b.scopes.blocks - 0) k)
unfolding levels_of source_of
place_first b k =
    let e : length b.scopes.blocks ≡ length b.scopes.blocks - 0 = omega arith in
    let f : length (levels_of (source_of b) k) ≡ length (levels_from b.scopes (length b.scopes.blocks - 0) k) = ap (λ n. length (levels_from b.scopes n k)) e in
    f ∙ added (length (levels_from b.scopes (length b.scopes.blocks - 0) k))
  where
    added : (n : ℕ) → n ≡ 0 + n
    added n = omega arith

one_more : (n i : ℕ) → i < n → n - i ≡ suc (n - (i + 1))
one_more n i le = omega (arith, le)

pub place_further : (b : Bound) (n i m place level front x : ℕ) → i < n → base b.scopes level ≡ Some front → x ≡ place + length (levels_from b.scopes (n - i) level) → m ≡ suc place → x ≡ m + length (levels_from b.scopes (n - (i + 1)) front)
place_further b n i m place level front x le some f em =
    let s = b.scopes in
    let e : length (levels_from s (n - i) level) ≡ length (levels_from s (n - (i + 1)) front) + 1 =
    ap (λ z. length (levels_from s z level)) (one_more n i le) ∙ ap (λ z. length (levels_beyond (levels_from s (n - (i + 1))) z ++ (level ∷ []))) some ∙ length-append (levels_from s (n - (i + 1)) front) (level ∷ []) in
    omega (arith, e, f, em)

pub place_found : (b : Bound) (n i place level x : ℕ) → i < n → base b.scopes level ≡ None → x ≡ place + length (levels_from b.scopes (n - i) level) → suc place ≡ x
place_found b n i place level x le none f =
    let s = b.scopes in
    let e : length (levels_from s (n - i) level) ≡ 1 = ap (λ z. length (levels_from s z level)) (one_more n i le) ∙ ap (λ z. length (levels_beyond (levels_from s (n - (i + 1))) z ++ (level ∷ []))) none in
    omega (arith, e, f)

-- ---- what is written

module _ (b : Bound) (w : Spot) where
  -- what stands up to a place
  pub emits_to : (a c : DraftOf) (P : Type 0) (A : CodeOf → Site → ℕ → ℕ → Type 0) (n : ℕ) → n ≡ length c.instrs → Emits w a c P A → Emits w a c P (λ final site p q. A final site p q × (q ≡ n))
  emits_to a c P A n e f = record { rest = f.rest; front = f.front; roomier = f.roomier; larger = f.larger; classed = f.classed; thunked = f.thunked; listed = f.listed; built = f.built; before = f.before; only = f.only; fits = f.fits; at = λ h final site g. (f.at h final site g, sym e) }

  longer : (a c : DraftOf) (P : Type 0) (A : CodeOf → Site → ℕ → ℕ → Type 0) → Emits w a c P A → length a.instrs ≤ length c.instrs
  longer a c P A f = Rattle.codegen_expr.proofs.Pieces.fronts_le a.instrs c.instrs (f.rest, f.front)

  pub level_last : (level : ℕ) (old c2 c3 : DraftOf) (xs : List Stmt) (after : ℕ) (o : Bool) → o ≡ false → WritesStatements b w old c2 xs → c3 ≡ with_instr c2 (i.Inner (pos level)) 0 → after ≡ length c3.instrs → WritesLevel b w level o old c3 xs after
  unfolding WritesLevel WritesStatements
  level_last level old c2 c3 xs after o none f e en =
      let s = source_of b in
      let last : false ≡ o = sym none in (
        omega (arith, en),
        subst (λ z. Emits w old c3 (LevelBuilt s w.text z (stms xs)) (λ final site p q. LevelAt s final site level after z (stms xs) p q)) last
            (emits_as w (StatementsBuilt s w.text (stms xs) × ⊤) (StatementsBuilt s w.text (stms xs)) _ _ old c3 (λ h. (h, tt)) (λ h. h.0)
            (λ final site p q _ _ at. record { x = at.0; statements = at.1; inner = record { line = 0; is = subst (λ z. At final (i.Inner (pos level)) 0 at.0 z) at.2.1 at.2.0 }; on = at.2.1 })
            (emits_then w _ _ _ _ old c2 c3 f (emits_to c2 c3 ⊤ _ after en (emits_at w c2 c3 (i.Inner (pos level)) 0 e (λ z. cc) refl)))),
      )

  pub level_written : (level : ℕ) (old new : DraftOf) (xs : List Stmt) (after : ℕ) (o : Bool) → o ≡ true → WritesAround b w level old new xs after → WritesLevel b w level o old new xs after
  unfolding WritesLevel WritesAround
  level_written level old new xs after o one f =
      let s = source_of b in
      let written : true ≡ o = sym one in
      (f.0, subst (λ z. Emits w old new (LevelBuilt s w.text z (stms xs)) (λ final site p q. LevelAt s final site level after z (stms xs) p q)) written f.1)

  pub around_inner : (level : ℕ) (old c1 c2 c3 c4 : DraftOf) (xs front behind : List Stmt) (o : Option InnerPlace) (r : InnerPlace) (own : Bool) (after : ℕ) → FirstInner xs o → o ≡ Some r → IsOwn b w.text r.token own → own ≡ true
      → WritesStatements b w old c1 front → front ≡ take r.place xs → c2 ≡ with_instr c1 i.Tick 0 → c3 ≡ with_instr c2 (i.Inner (pos level)) 0 → after ≡ length c3.instrs → WritesStatements b w c3 c4 behind → behind ≡ drop (r.place + 1) xs → WritesAround b w level old c4 xs after
  unfolding WritesAround WritesStatements FirstInner IsOwn
  around_inner level old c1 c2 c3 c4 xs front behind o r own after fo is fown its_own f1 ef e2 e3 en f4 eb =
      let s = source_of b in
      let there : InnerThere xs r.place r.token = subst (FirstInner xs) is fo in
      let its : block_around s r.token.0 ≡ Some w.text = subst (IsOwn b w.text r.token) its_own fown in
      let next : r.place + 1 ≡ suc r.place = omega arith in
      let g1 = subst (λ z. Emits w old c1 (StatementsBuilt s w.text (stms z)) (λ final site p q. StmsAt s final site 0 (stms z) p q)) ef f1 in
      let g4 = subst (λ z. Emits w c3 c4 (StatementsBuilt s w.text (stms z)) (λ final site p q. StmsAt s final site 0 (stms z) p q)) (eb ∙ ap (λ n. drop n xs) next) f4 in
      let le = longer c3 c4 _ _ f4 in (
        omega (arith, en, le),
        emits_as w (StatementsBuilt s w.text (stms (take r.place xs)) × (⊤ × (⊤ × StatementsBuilt s w.text (stms (drop (suc r.place) xs))))) (WithInnerBuilt s w.text (stms xs)) _ _ old c4
            (λ h. let k = parts_built s w.text xs r.place there.statement r.token.0 there.none there.at there.is h in (k.0, (tt, (tt, k.2))))
            (λ h. built_parts s w.text xs r.place there.statement r.token.0 there.none there.at there.is h.0 its h.1.1.1)
            (λ final site p q et _ at. parts_at s final site level after xs r.place there.statement r.token.0 p at.0 at.2.2.0 q there.none there.at there.is at.1
            (record { x = at.2.0; its_own = its ∙ ap Some (sym et); tick = record { line = 0; is = at.2.1 }; inner = record { line = 0; is = subst (λ z. At final (i.Inner (pos level)) 0 at.2.0 z) at.2.2.1.1 at.2.2.1.0 }; on = at.2.2.1.1 })
            at.2.2.2)
            (emits_then w _ _ _ _ old c1 c4 g1 (emits_then w _ _ _ _ c1 c2 c4 (emits_at w c1 c2 i.Tick 0 e2 (λ z. cc) refl) (emits_then w _ _ _ _ c2 c3 c4 (emits_to c2 c3 ⊤ _ after en (emits_at w c2 c3 (i.Inner (pos level)) 0 e3 (λ z. cc) refl)) g4))),
      )

  pub around_none : (level : ℕ) (old new : DraftOf) (xs : List Stmt) (o : Option InnerPlace) (after : ℕ) → FirstInner xs o → o ≡ None → new ≡ given_up old → after ≡ length new.instrs → WritesAround b w level old new xs after
  unfolding WritesAround FirstInner
  around_none level old new xs o after fo is e en = (omega (arith, en), emits_nothing w old new _ _ (never_built (source_of b) w.text xs (subst (FirstInner xs) is fo)) e)

  pub around_other : (level : ℕ) (old new : DraftOf) (xs : List Stmt) (o : Option InnerPlace) (r : InnerPlace) (own : Bool) (after : ℕ) → FirstInner xs o → o ≡ Some r → IsOwn b w.text r.token own → own ≡ false → new ≡ given_up old → after ≡ length new.instrs → WritesAround b w level old new xs after
  unfolding WritesAround FirstInner IsOwn
  around_other level old new xs o r own after fo is fown none e en =
      let s = source_of b in
      let there : InnerThere xs r.place r.token = subst (FirstInner xs) is fo in
      let never : block_around s r.token.0 ≡ Some w.text → ⊥ = subst (IsOwn b w.text r.token) none fown in
      (omega (arith, en), emits_nothing w old new _ _ (λ h. never (parts_built s w.text xs r.place there.statement r.token.0 there.none there.at there.is h).1) e)

pub ruleset levels = (level_last, level_written, around_inner, around_none, around_other)
