-- What is planned is right: each text is planned behind what stands in front of it.
use Rattle.std.proofs.Common.{◌≡◌, ◌<◌, ◌≤◌, ◌≢◌, ◌+◌, ◌-◌, ◌++◌, max, ℕ, zero, suc, Bool, true, false, List, [], ◌∷◌, length, map, Option, Some, None, refl, sym, ap, ◌∙◌, subst, arith}
use Rattle.std.proofs.Math.Nat.{le-max_left, le-max_right}
use Rattle.std.proofs.lemmas.List.{same_from_push}
use Rattle.std.specs.Prelude.{option_to_list, slice_get, slice_index_or, slice_set}
use Rattle.sim_scope.specs.declared.bound.Bound.{Bound}
use Rattle.sim_scope.specs.Source.{Source, source_of}
use Rattle.sim_scope.specs.Tables.{BlockOf, Tables}
use Rattle.sim_code.specs.declared.code.CodeType.{CodeType}
use Rattle.sim_meaning.specs.Attributes.{is_connection}
use Rattle.sim_meaning.specs.Levels.{is_class}
use Rattle.sim_meaning.specs.Texts.{BlockText, ClassText, ConnectionText, PrefixedText, ProcedureText, StandardText, Text, program_texts, text}
use Rattle.program_texts.specs.declared.tree.TextTree.{TextTree}
use Rattle.program_texts.specs.TextTrees.{AreTexts, text_in}
use Rattle.codegen_expr.specs.Drafts.{PlannedOf, class_of, planned_at, planned_front, planned_of, planned_or_none}
use Rattle.codegen_expr.specs.Known.{truth_or_false}
use Rattle.codegen_expr.specs.Sites.{block_number, blocks_before, cells_in, connects, counted_unless, is_connected, own_part, prefix_of}
use Rattle.codegen_expr.specs.Sites as sites
use Rattle.codegen.specs.declared.plan.Planning.{Planning}
use Rattle.codegen.specs.Agrees.{Agrees, Ends, before as one_before, last as no_more}
use Rattle.codegen.specs.BuiltProgram.{texts_of}
use Rattle.codegen.specs.Compiled.{type_of_cell}
use Rattle.codegen.specs.EmitProgram.{PlanFor, is_planned}
use Rattle.codegen.specs.Planning.{AreBlank, AreTypesBehind, Chain, ChainOf, Fitting, FrontDone, IsFront, IsPlan, Links, More, NextClass, NoMarks, OwnTypes, PlannedBehind, PlannedTo, PlansChain, PlansLevel, PlansText, PlansTo, Put, PutsPlanned, Solid, further, is_done, start}
use Rattle.codegen.proofs.Planned.{index_found, map_at, numbered_class, own_is, planned_solid, row_at, set_here, set_length, set_other, within}

some_same : {A : Type 0} (x y : A) → Some x ≡ Some y → x ≡ y
some_same x y e = cc

-- ---- numbers of blocks

data Order (k m : ℕ) : Type 0 where
  lower : k < m → Order k m
  equal : k ≡ m → Order k m
  higher : m < k → Order k m

order : (k m : ℕ) → Order k m
order zero zero = equal refl
order zero (suc m) = lower (omega arith)
order (suc k) zero = higher (omega arith)
order (suc k) (suc m) = up (order k m)
  where
    up : Order k m → Order (suc k) (suc m)
    up (lower h) = lower (omega (arith, h))
    up (equal h) = equal (ap suc h)
    up (higher h) = higher (omega (arith, h))

counted_on : (c : Bool) (n k : ℕ) → n < k → counted_unless c n < counted_unless c k
counted_on true n k lt = lt
counted_on false n k lt = omega (arith, lt)

fewer_before : (t k : ℕ) (bs : List BlockOf) (b : BlockOf) → slice_get bs t ≡ Some b → sites.is_connection b.kind ≡ false → t < k → blocks_before t bs < blocks_before k bs
fewer_before t k [] b e c lt = absurd (cc)
fewer_before zero zero (x ∷ bs) b e c lt = absurd (omega (arith, lt))
fewer_before (suc t) zero (x ∷ bs) b e c lt = absurd (omega (arith, lt))
fewer_before zero (suc k) (x ∷ bs) b e c lt =
    let same : x ≡ b = cc in
    let counts : blocks_before (suc k) (x ∷ bs) ≡ suc (blocks_before k bs) = ap (λ z. counted_unless (sites.is_connection z.kind) (blocks_before k bs)) same ∙ ap (λ z. counted_unless z (blocks_before k bs)) c in
    omega (arith, counts)
fewer_before (suc t) (suc k) (x ∷ bs) b e c lt = counted_on (sites.is_connection x.kind) (blocks_before t bs) (blocks_before k bs) (fewer_before t k bs b e c (omega (arith, lt)))

text_before : (s : Source) (k : ℕ) → Solid s k → k < length (texts_of s)
unfolding text texts_of
text_before s k solid = within (program_texts s.program.prefix s.program.block) k solid.given solid.is

fewer : (s : Source) (k m : ℕ) → Agrees s → Solid s k → k < m → block_number s k < block_number s m
unfolding block_number is_connected texts_of
fewer s k m agrees solid lt =
    let inside : k < length (program_texts s.program.prefix s.program.block) = text_before s k solid in
    let many = agrees.as_many in
    let row = row_at s.tables.blocks k (omega (arith, inside, many)) in
    let same : sites.is_connection row.0.kind ≡ false = sym (ap connects row.1) ∙ agrees.connected k ∙ ap is_connection solid.is ∙ solid.solid in
    fewer_before k m s.tables.blocks row.0 row.1 same lt

-- ---- a text is planned

module _ (s : Source) (agrees : Agrees s) (old new : Planning) (k class : ℕ) (p : PlannedOf) (fit : Fitting s old) (fresh : is_done old (block_number s k) ≡ false) (solid : Solid s k) (put : Put old new (block_number s k) class p) (numbered : p.class ≡ class) where
  block_inside : block_number s k < block_number s (length (texts_of s))
  block_inside = fewer s k (length (texts_of s)) agrees solid (text_before s k solid)

  plan_inside : block_number s k < length old.plan.items
  plan_inside = let h = block_inside in let e = fit.plans in omega (arith, h, e)

  mark_inside : block_number s k < length old.done.items
  mark_inside = let h = block_inside in let e = fit.marks in omega (arith, h, e)

  -- another block is as before
  plan_kept : (i : ℕ) → i ≢ block_number s k → planned_at new.plan.items i ≡ planned_at old.plan.items i
  plan_kept i ne = ap (λ z. planned_at z i) put.plan ∙ ap planned_or_none (set_other old.plan.items (block_number s k) i p ne)

  mark_kept : (i : ℕ) → i ≢ block_number s k → is_done new i ≡ is_done old i
  unfolding is_done
  mark_kept i ne = ap (λ z. truth_or_false (slice_get z i)) put.done ∙ ap truth_or_false (set_other old.done.items (block_number s k) i true ne)

  not_this : (i : ℕ) → is_done old i ≡ true → i ≢ block_number s k
  not_this i e same = let f : true ≡ false = sym e ∙ ap (is_done old) same ∙ fresh in absurd (cc)

  -- this one is new
  plan_here : planned_at new.plan.items (block_number s k) ≡ p
  plan_here = ap (λ z. planned_at z (block_number s k)) put.plan ∙ ap planned_or_none (set_here old.plan.items (block_number s k) p plan_inside)

  mark_here : is_done new (block_number s k) ≡ true
  unfolding is_done
  mark_here = ap (λ z. truth_or_false (slice_get z (block_number s k))) put.done ∙ ap truth_or_false (set_here old.done.items (block_number s k) true mark_inside)

  marks_keep : (i : ℕ) → is_done old i ≡ true → is_done new i ≡ true
  marks_keep i e = mark_kept i (not_this i e) ∙ e

  front_keeps : (o : Option ℕ) → FrontDone s old o → FrontDone s new o
  unfolding FrontDone
  front_keeps o f u e = marks_keep (block_number s u) (f u e)

  front_kept : (o : Option ℕ) → FrontDone s old o → planned_of s new.plan.items o ≡ planned_of s old.plan.items o
  unfolding FrontDone
  front_kept None f = refl
  front_kept (Some u) f = plan_kept (block_number s u) (not_this (block_number s u) (f u refl))

  other_kept : (m : ℕ) (x : Text) → block_number s m ≢ block_number s k → FrontDone s old (prefix_of s.tables m) → PlanFor s old.plan.items m x → PlanFor s new.plan.items m x
  unfolding planned_front
  other_kept m x ne front f =
      let at = plan_kept (block_number s m) ne in
      let before = front_kept (prefix_of s.tables m) front in
      record {
        cells = ap (λ z. z.cells) at ∙ f.cells ∙ sym (ap (λ z. z.cells + length (cells_in s m (text s m))) before);
        temps = f.temps;
        types = ap (λ z. z.types) at ∙ f.types ∙ sym (ap (λ z. z.types ++ (map type_of_cell (own_part s m) ++ f.temps)) before);
        room = (let e = ap (λ z. z.room) at in let g = ap (λ z. z.room) before in let h = f.room in omega (arith, e, g, h));
        class = λ le. (let e = ap (λ z. z.class) at in let g = ap (λ z. z.class) before in let h = f.class le in omega (arith, e, g, h));
      }

  module _ (front : FrontDone s old (prefix_of s.tables k)) (this : (x : Text) → text s k ≡ Some x → is_planned x ≡ true → PlanFor s new.plan.items k x) where
    each_planned : (m : ℕ) (x : Text) → text s m ≡ Some x → is_planned x ≡ true → is_done new (block_number s m) ≡ true → PlanFor s new.plan.items m x × FrontDone s new (prefix_of s.tables m)
    each_planned m x is yes' done = cases (order m k)
      where
        there : Solid s m
        there = record { given = x; is = is; solid = planned_solid x yes' }

        other : block_number s m ≢ block_number s k → PlanFor s new.plan.items m x × FrontDone s new (prefix_of s.tables m)
        other ne =
            let r = fit.each m x is yes' (sym (mark_kept (block_number s m) ne) ∙ done) in
            (other_kept m x ne r.1 r.0, front_keeps (prefix_of s.tables m) r.1)

        cases : Order m k → PlanFor s new.plan.items m x × FrontDone s new (prefix_of s.tables m)
        cases (lower lt) = let h = fewer s m k agrees there lt in other (λ e. absurd (omega (arith, h, e)))
        cases (higher lt) = let h = fewer s k m agrees solid lt in other (λ e. absurd (omega (arith, h, e)))
        cases (equal e) = (
          subst (λ z. PlanFor s new.plan.items z x) (sym e) (this x (ap (text s) (sym e) ∙ is) yes'),
          subst (λ z. FrontDone s new (prefix_of s.tables z)) (sym e) (front_keeps (prefix_of s.tables k) front),
        )

    class_under : (i : ℕ) → class_of new.plan.items i ≤ new.last
    class_under i = cases (order i (block_number s k))
      where
        other : i ≢ block_number s k → class_of new.plan.items i ≤ new.last
        other ne =
            let e : class_of new.plan.items i ≡ class_of old.plan.items i = ap (λ z. z.class) (plan_kept i ne) in
            let under = fit.numbers i in
            let last = put.last in
            omega (arith, e, under, last)

        cases : Order i (block_number s k) → class_of new.plan.items i ≤ new.last
        cases (lower lt) = other (λ e. absurd (omega (arith, lt, e)))
        cases (higher lt) = other (λ e. absurd (omega (arith, lt, e)))
        cases (equal e) =
            let f : class_of new.plan.items i ≡ class = ap (class_of new.plan.items) e ∙ ap (λ z. z.class) plan_here ∙ numbered in
            let under = put.under in
            omega (arith, f, under)

    more_planned : More s old new k
    more_planned = record {
      fitting = record {
        plans = ap length put.plan ∙ set_length old.plan.items (block_number s k) p ∙ fit.plans;
        marks = ap length put.done ∙ set_length old.done.items (block_number s k) true ∙ fit.marks;
        each = each_planned;
        numbers = class_under;
      };
      keeps = marks_keep;
      done = mark_here;
    }

pub put_past : (p : Planning) (j class : ℕ) (x : PlannedOf) → length p.plan.items ≤ j → PutsPlanned p p j class x
unfolding PutsPlanned
put_past p j class x le inside marked = absurd (omega (arith, le, inside))

pub put_unmarked : (p : Planning) (j class : ℕ) (x : PlannedOf) → length p.done.items ≤ j → PutsPlanned p p j class x
unfolding PutsPlanned
put_unmarked p j class x le inside marked = absurd (omega (arith, le, marked))

pub put_there : (old new : Planning) (j class : ℕ) (x : PlannedOf) → new.plan.items ≡ slice_set old.plan.items j x → new.done.items ≡ slice_set old.done.items j true → new.last ≡ max old.last class → PutsPlanned old new j class x
unfolding PutsPlanned
put_there old new j class x ep ed el inside marked =
    let left = le-max_left old.last class in
    let right = le-max_right old.last class in
    record { plan = ep; done = ed; last = omega (arith, el, left); under = omega (arith, el, right) }

front_class_under : (s : Source) (p : Planning) (o : Option ℕ) → Fitting s p → (planned_of s p.plan.items o).class ≤ p.last
front_class_under s p None fit = omega arith
front_class_under s p (Some u) fit = fit.numbers (block_number s u)

pub text_planned : (b : Bound) (old new : Planning) (k j count class : ℕ) (x : TextTree) (own : List CodeType) (nothing front p : PlannedOf) → j ≡ block_number (source_of b) k → count ≡ length (cells_in (source_of b) k (text (source_of b) k)) → OwnTypes b k x own → NextClass old.last x class → nothing ≡ planned_or_none None
    → IsFront b old.plan.items nothing k front → PlannedBehind p front count own class → PutsPlanned old new j class p → PlansText b old new k x
unfolding PlansText PutsPlanned IsFront NextClass AreTypesBehind planned_front source_of
text_planned b old new k j count class x own nothing front p ej ec eo number none is_front f puts agrees is not_connection fit fresh done = more_planned s agrees old new k class p fit fresh solid put f.numbered done this
  where
    s : Source
    s = source_of b

    solid : Solid s k
    solid = record { given = text_in x; is = is; solid = not_connection }

    block_inside' : block_number s k < block_number s (length (texts_of s))
    block_inside' = fewer s k (length (texts_of s)) agrees solid (text_before s k solid)

    put : Put old new (block_number s k) class p
    put =
        let h = block_inside' in
        let plans = fit.plans in
        let marks = fit.marks in
        subst (λ z. Put old new z class p) ej (puts (omega (arith, ej, h, plans)) (omega (arith, ej, h, marks)))

    at : planned_at new.plan.items (block_number s k) ≡ p
    at = plan_here s agrees old new k class p fit fresh solid put f.numbered

    before : planned_of s new.plan.items (prefix_of b.scopes k) ≡ front
    before = front_kept s agrees old new k class p fit fresh solid put f.numbered (prefix_of b.scopes k) done ∙ sym (is_front none)

    under : front.class ≤ old.last
    under = let e = ap (λ z. z.class) (is_front none) in let low = front_class_under s old (prefix_of b.scopes k) fit in omega (arith, e, low)

    here : is_planned (text_in x) ≡ true → PlanFor s new.plan.items k (text_in x)
    here yes' =
        let own_part_is = own_is b k x own is yes' eo in
        record {
          cells = ap (λ z. z.cells) at ∙ f.cells ∙ ap (λ z. front.cells + z) ec ∙ sym (ap (λ z. z.cells + length (cells_in s k (text s k))) before);
          temps = f.types.0;
          types = ap (λ z. z.types) at ∙ f.types.1 ∙ ap (λ z. front.types ++ (z ++ f.types.0)) own_part_is ∙ sym (ap (λ z. z.types ++ (map type_of_cell (own_part s k) ++ f.types.0)) before);
          room = (let e = ap (λ z. z.room) at in let g = ap (λ z. z.room) before in let h = f.room in omega (arith, e, g, h));
          class = λ le.
              let e = ap (λ z. z.class) at in
              let g = ap (λ z. z.class) before in
              let h = f.numbered in
              let next = number (numbered_class x le) in
              let low = under in
              omega (arith, e, g, h, next, low);
        }

    this : (y : Text) → text s k ≡ Some y → is_planned y ≡ true → PlanFor s new.plan.items k y
    this y at' yes' = let same = some_same (text_in x) y (sym is ∙ at') in subst (PlanFor s new.plan.items k) same (here (ap is_planned same ∙ yes'))

-- ---- texts and parts of the tree

pub tree_text : (b : Bound) (ts : List TextTree) (k : ℕ) (x : TextTree) → AreTexts b.program ts → slice_get ts k ≡ Some x → text (source_of b) k ≡ Some (text_in x)
unfolding AreTexts text source_of Rattle.sim_tree.specs.SyntaxOfProgram.program_syntax
tree_text b ts k x are e = ap (λ z. slice_get z k) (sym are) ∙ map_at text_in ts k x e

mapped : {A B : Type 0} (f : A → B) (xs : List A) → length (map f xs) ≡ length xs
mapped f [] = refl
mapped f (x ∷ xs) = ap suc (mapped f xs)

as_many_trees : (b : Bound) (ts : List TextTree) → AreTexts b.program ts → length (texts_of (source_of b)) ≡ length ts
unfolding AreTexts texts_of source_of Rattle.sim_tree.specs.SyntaxOfProgram.program_syntax
as_many_trees b ts are = sym (ap length are) ∙ mapped text_in ts

class_solid : (x : Text) → is_class (Some x) ≡ true → is_connection (Some x) ≡ false
class_solid (ClassText prefix h ds ss) e = refl
class_solid (StandardText which) e = refl
class_solid (BlockText begin ds ss) e = absurd (cc)
class_solid (ProcedureText result h a) e = absurd (cc)
class_solid (PrefixedText class arguments ds ss) e = absurd (cc)
class_solid ConnectionText e = absurd (cc)

-- what stands in front of a text is no connection
front_solid : (s : Source) (k u : ℕ) → Agrees s → prefix_of s.tables k ≡ Some u → Solid s u
front_solid s k u agrees e = by_text (text s u) refl (agrees.prefixes k u e).class
  where
    by_text : (o : Option Text) → text s u ≡ o → is_class o ≡ true → Solid s u
    by_text None f is = absurd (cc)
    by_text (Some x) f is = record { given = x; is = f; solid = class_solid x is }

-- ---- a text, if it is not planned yet

pub level_done : (b : Bound) (p : Planning) (ts : List TextTree) (k j : ℕ) (c : Bool) → j ≡ block_number (source_of b) k → c ≡ is_done p j → c ≡ true → PlansLevel b p p ts k
unfolding PlansLevel
level_done b p ts k j c ej ec is agrees are solid fit front = record { fitting = fit; keeps = λ i e. e; done = sym (ec ∙ ap (is_done p) ej) ∙ is }

pub level_past : (b : Bound) (p : Planning) (ts : List TextTree) (k : ℕ) → length ts ≤ k → PlansLevel b p p ts k
unfolding PlansLevel
level_past b p ts k le agrees are solid fit front =
    let inside = text_before (source_of b) k solid in
    let many = as_many_trees b ts are in
    absurd (omega (arith, le, inside, many))

pub level_planned : (b : Bound) (old new : Planning) (ts : List TextTree) (k j : ℕ) (x : TextTree) (c : Bool) → j ≡ block_number (source_of b) k → c ≡ is_done old j → c ≡ false → slice_get ts k ≡ Some x → PlansText b old new k x → PlansLevel b old new ts k
unfolding PlansLevel PlansText
level_planned b old new ts k j x c ej ec none at f agrees are solid fit front =
    let is = tree_text b ts k x are at in
    f agrees is (subst (λ z. is_connection z ≡ false) (sym solid.is ∙ is) solid.solid) fit (sym (ec ∙ ap (is_done old) ej) ∙ none) front

-- ---- what stands in front of a text

-- some texts in front are found, and as many steps are left as there may be more
pub record Walked (s : Source) (text : ℕ) (chain : List ℕ) (next : Option ℕ) (left : ℕ) : Type 0 where
  pub links : Links s.tables text chain next
  pub ends : (u : ℕ) → next ≡ Some u → Ends s.tables left u

unfoldable pub WalksTo : Bound → (text : ℕ) → (chain : List ℕ) → (next : Option ℕ) → (steps : ℕ) → Type 0
WalksTo b k chain next n = Agrees (source_of b) → Walked (source_of b) k chain next (length b.scopes.blocks - n)

pub walk_first : (b : Bound) (k : ℕ) → WalksTo b k [] (Some k) 0
unfolding WalksTo source_of
walk_first b k agrees =
    let all : length b.scopes.blocks ≡ length b.scopes.blocks - 0 = omega arith in
    record {
      links = start refl;
      ends = λ u e. subst (Ends b.scopes (length b.scopes.blocks - 0)) (some_same k u e) (subst (λ z. Ends b.scopes z k) all (agrees.ends k));
    }

one_level : (tables : Tables) (n u w : ℕ) → Ends tables (suc n) u → prefix_of tables u ≡ Some w → Ends tables n w
one_level tables n u w (no_more e) f = let g : None ≡ Some w = sym e ∙ f in absurd (cc)
one_level tables n u w (one_before {u = v} e x) f = subst (Ends tables n) (some_same v w (sym e ∙ f)) x

pub walk_next : (b : Bound) (k n u : ℕ) (chain longer : List ℕ) (next further' : Option ℕ) → WalksTo b k chain next n → next ≡ Some u → n < length b.scopes.blocks → longer ≡ chain ++ (u ∷ []) → further' ≡ prefix_of b.scopes u → WalksTo b k longer further' (n + 1)
unfolding WalksTo source_of
walk_next b k n u chain longer next further' f some le el ef agrees =
    let r = f agrees in
    let many : length b.scopes.blocks - n ≡ suc (length b.scopes.blocks - (n + 1)) = omega (arith, le) in
    record {
      links = further (subst (Links b.scopes k chain) some r.links) el ef;
      ends = λ w e. one_level b.scopes (length b.scopes.blocks - (n + 1)) u w (subst (λ z. Ends b.scopes z u) many (r.ends u some)) (sym ef ∙ e);
    }

pub walk_ends : (b : Bound) (p : Planning) (k n : ℕ) (chain : List ℕ) (next : Option ℕ) → WalksTo b k chain next n → next ≡ None → ChainOf b p k chain
unfolding WalksTo ChainOf FrontDone
walk_ends b p k n chain next f none agrees = record { next = next; links = (f agrees).links; front = λ u e. (let g : None ≡ Some u = sym none ∙ e in absurd (cc)) }

pub walk_meets : (b : Bound) (p : Planning) (k n u j : ℕ) (chain : List ℕ) (next : Option ℕ) (c : Bool) → WalksTo b k chain next n → next ≡ Some u → j ≡ block_number (source_of b) u → c ≡ is_done p j → c ≡ true → ChainOf b p k chain
unfolding WalksTo ChainOf FrontDone
walk_meets b p k n u j chain next c f some ej ec is agrees = record {
  next = next;
  links = (f agrees).links;
  front = λ w e. ap (λ z. is_done p (block_number (source_of b) z)) (some_same w u (sym e ∙ some)) ∙ sym (ec ∙ ap (is_done p) ej) ∙ is;
}

no_level : (tables : Tables) (n u : ℕ) → Ends tables n u → n ≢ 0
no_level tables zero u e same = elim e [ ]
no_level tables (suc n) u (no_more e) same = absurd (cc)
no_level tables (suc n) u (one_before e x) same = absurd (cc)

pub walk_last : (b : Bound) (p : Planning) (k n : ℕ) (chain : List ℕ) (next : Option ℕ) → WalksTo b k chain next n → length b.scopes.blocks ≤ n → ChainOf b p k chain
unfolding WalksTo ChainOf FrontDone source_of
walk_last b p k n chain next f le agrees =
    let r = f agrees in
    record {
      next = next;
      links = r.links;
      front = λ u e. absurd (no_level b.scopes (length b.scopes.blocks - n) u (r.ends u e) (omega (arith, le)));
    }

-- ---- a text and what stands in front of it

link_solid : (s : Source) (k u : ℕ) (chain : List ℕ) (next : Option ℕ) → Agrees s → Solid s k → Links s.tables k chain next → next ≡ Some u → Solid s u
link_solid s k u _ next agrees solid (start e) f = subst (Solid s) (some_same k u (sym e ∙ f)) solid
link_solid s k u longer next agrees solid (further {u = v} l el ef) f = front_solid s v u agrees (sym ef ∙ f)

not_pushed : (xs : List ℕ) (x : ℕ) → [] ≢ xs ++ (x ∷ [])
not_pushed [] x e = absurd (cc)
not_pushed (y ∷ xs) x e = absurd (cc)

-- the last one goes
record Without (tables : Tables) (k u : ℕ) (chain : List ℕ) (next : Option ℕ) : Type 0 where
  links : Links tables k chain (Some u)
  front : next ≡ prefix_of tables u

without : (tables : Tables) (k u : ℕ) (chain longer : List ℕ) (next : Option ℕ) → Links tables k longer next → longer ≡ chain ++ (u ∷ []) → Without tables k u chain next
without tables k u chain _ next (start e) el = absurd (not_pushed chain u el)
without tables k u chain longer next (further {chain = shorter} {u = v} l e ef) el =
    let same = same_from_push shorter chain v u (sym e ∙ el) in
    record {
      links = subst (λ z. Links tables k chain (Some z)) same.1 (subst (λ z. Links tables k z (Some v)) same.0 l);
      front = ef ∙ ap (prefix_of tables) same.1;
    }

pub record Going (s : Source) (old now : Planning) (k : ℕ) (chain : List ℕ) : Type 0 where
  pub fitting : Fitting s now
  pub keeps : (j : ℕ) → is_done old j ≡ true → is_done now j ≡ true
  pub chained : Chain s now k chain

unfoldable pub GoesOn : Bound → (old now : Planning) → List TextTree → (text : ℕ) → (chain : List ℕ) → Type 0
GoesOn b old now ts k chain = Agrees (source_of b) → AreTexts b.program ts → Solid (source_of b) k → Fitting (source_of b) old → Going (source_of b) old now k chain

pub goes_first : (b : Bound) (p : Planning) (ts : List TextTree) (k : ℕ) (chain : List ℕ) → ChainOf b p k chain → GoesOn b p p ts k chain
unfolding GoesOn ChainOf
goes_first b p ts k chain f agrees are solid fit = record { fitting = fit; keeps = λ j e. e; chained = f agrees }

pub goes_next : (b : Bound) (old now new : Planning) (ts : List TextTree) (k u : ℕ) (chain longer : List ℕ) (r : Option ℕ) → GoesOn b old now ts k longer → longer ≡ chain ++ option_to_list r → r ≡ Some u → PlansLevel b now new ts u → GoesOn b old new ts k chain
unfolding GoesOn PlansLevel FrontDone source_of
goes_next b old now new ts k u chain longer r f el er g agrees are solid fit =
    let s = source_of b in
    let going = f agrees are solid fit in
    let rest = without s.tables k u chain longer going.chained.next going.chained.links (el ∙ ap (λ z. chain ++ option_to_list z) er) in
    let more = g agrees are (link_solid s k u chain (Some u) agrees solid rest.links refl) going.fitting (λ w e. going.chained.front w (rest.front ∙ e)) in
    record {
      fitting = more.fitting;
      keeps = λ j e. more.keeps j (going.keeps j e);
      chained = record { next = Some u; links = rest.links; front = λ w e. ap (λ z. is_done new (block_number s z)) (sym (some_same u w e)) ∙ more.done };
    }

first_link : (tables : Tables) (k : ℕ) (chain : List ℕ) (next : Option ℕ) → Links tables k chain next → chain ≡ [] → next ≡ Some k
first_link tables k _ next (start e) none = e
first_link tables k longer next (further {chain = shorter} {u = v} l el ef) none = absurd (not_pushed shorter v (sym none ∙ el))

none_left : (xs : List ℕ) → length xs ≡ 0 → xs ≡ []
none_left [] e = refl
none_left (x ∷ xs) e = absurd (omega (arith, e))

pub goes_last : (b : Bound) (old now : Planning) (ts : List TextTree) (k : ℕ) (chain : List ℕ) → GoesOn b old now ts k chain → length chain ≡ 0 → PlansChain b old now ts k
unfolding GoesOn PlansChain FrontDone source_of
goes_last b old now ts k chain f none agrees are solid fit =
    let going = f agrees are solid fit in
    record { fitting = going.fitting; keeps = going.keeps; done = going.chained.front k (first_link (source_of b).tables k chain going.chained.next going.chained.links (none_left chain none)) }

-- ---- all texts

pub plans_first : (b : Bound) (p : Planning) (ts : List TextTree) (n count : ℕ) → n ≡ length ts → count ≡ block_number (source_of b) n → AreBlank p.plan.items count → NoMarks p.done.items count → PlansTo b p ts 0
unfolding PlansTo AreBlank NoMarks is_done
plans_first b p ts n count en ec blank marks agrees are =
    let s = source_of b in
    let all : count ≡ block_number s (length (texts_of s)) = ec ∙ ap (block_number s) (en ∙ sym (as_many_trees b ts are)) in
    record {
      fitting = record {
        plans = blank.0 ∙ all;
        marks = marks.0 ∙ all;
        each = λ k x is yes' done. (let none = marks.1 (block_number s k) in let f : false ≡ true = sym none ∙ done in absurd (cc));
        numbers = λ j. (let e = blank.1 j in omega (arith, e));
      };
      first = λ k x le is yes'. absurd (omega (arith, le));
    }

planned_more : (b : Bound) (old new : Planning) (ts : List TextTree) (n : ℕ) (x : TextTree) → PlansTo b old ts n → slice_get ts n ≡ Some x → is_planned (text_in x) ≡ true → PlansChain b old new ts n → PlansTo b new ts (n + 1)
unfolding PlansTo PlansChain
planned_more b old new ts n x f at yes' g agrees are = record { fitting = more.fitting; first = first }
  where
    s : Source
    s = source_of b

    so_far : PlannedTo s old n
    so_far = f agrees are

    more : More s old new n
    more = g agrees are (record { given = text_in x; is = tree_text b ts n x are at; solid = planned_solid (text_in x) yes' }) so_far.fitting

    first : (k : ℕ) (y : Text) → k < n + 1 → text s k ≡ Some y → is_planned y ≡ true → is_done new (block_number s k) ≡ true
    first k y le is planned' = cases (order k n)
      where
        cases : Order k n → is_done new (block_number s k) ≡ true
        cases (lower lt) = more.keeps (block_number s k) (so_far.first k y lt is planned')
        cases (equal e) = ap (λ z. is_done new (block_number s z)) e ∙ more.done
        cases (higher lt) = absurd (omega (arith, lt, le))

pub plans_next : (b : Bound) (old new : Planning) (ts : List TextTree) (n m : ℕ) (x : TextTree) (c : Bool) → PlansTo b old ts n → n < length ts → x ≡ slice_index_or ts n x → c ≡ is_planned (text_in x) → c ≡ true → m ≡ n → PlansChain b old new ts m → PlansTo b new ts (n + 1)
plans_next b old new ts n m x c f le ex ec is em g = planned_more b old new ts n x f (index_found ts n x le ex) (sym ec ∙ is) (subst (PlansChain b old new ts) em g)

pub plans_over : (b : Bound) (p : Planning) (ts : List TextTree) (n : ℕ) (x : TextTree) (c : Bool) → PlansTo b p ts n → n < length ts → x ≡ slice_index_or ts n x → c ≡ is_planned (text_in x) → c ≡ false → PlansTo b p ts (n + 1)
unfolding PlansTo
plans_over b p ts n x c f le ex ec none agrees are = record { fitting = so_far.fitting; first = first }
  where
    s : Source
    s = source_of b

    so_far : PlannedTo s p n
    so_far = f agrees are

    here : text s n ≡ Some (text_in x)
    here = tree_text b ts n x are (index_found ts n x le ex)

    first : (k : ℕ) (y : Text) → k < n + 1 → text s k ≡ Some y → is_planned y ≡ true → is_done p (block_number s k) ≡ true
    first k y le' is planned' = cases (order k n)
      where
        cases : Order k n → is_done p (block_number s k) ≡ true
        cases (lower lt) = so_far.first k y lt is planned'
        cases (equal e) =
            let same = some_same (text_in x) y (sym here ∙ ap (text s) (sym e) ∙ is) in
            let never : false ≡ true = sym none ∙ ec ∙ ap is_planned same ∙ planned' in
            absurd (cc)
        cases (higher lt) = absurd (omega (arith, lt, le'))

pub plans_last : (b : Bound) (p : Planning) (ts : List TextTree) (n : ℕ) → PlansTo b p ts n → length ts ≤ n → IsPlan b p.plan.items ts
unfolding PlansTo IsPlan
plans_last b p ts n f le agrees are =
    let s = source_of b in
    let so_far = f agrees are in
    record {
      each = λ k x is yes'.
          let inside = text_before s k (record { given = x; is = is; solid = planned_solid x yes' }) in
          let many = as_many_trees b ts are in
          (so_far.fitting.each k x is yes' (so_far.first k x (omega (arith, inside, many, le)) is yes')).0;
      as_many = so_far.fitting.plans;
    }

pub ruleset steps = (put_past, put_unmarked, put_there, text_planned, level_done, level_past, level_planned, walk_first, walk_next, walk_ends, walk_meets, walk_last, goes_first, goes_next, goes_last, plans_first, plans_next, plans_over, plans_last)
