-- Processes, and the level of the class `process`.
use Rattle.std.proofs.Common.{◌≡◌, ◌<◌, ◌≤◌, ◌+◌, ◌-◌, ◌++◌, ℕ, zero, suc, ℤ, pos, Bool, true, false, List, [], ◌∷◌, length, map, Bor, Option, Some, None, refl, sym, ap, ◌∙◌, subst, arith, append_assoc, append-nil}
use Rattle.std.specs.Prelude.{⊤, ◌||◌, ◌&&◌, slice_get, slice_set}
use Rattle.std.specs.List.{list_any}
use Rattle.std.proofs.lemmas.List.Folds.{list_any-append}
use Rattle.sim_scope.specs.declared.bound.Bound.{Bound}
use Rattle.sim_scope.specs.declared.types.StandardClass.{StandardClass}
use Rattle.sim_scope.specs.Access.{encloser}
use Rattle.sim_scope.specs.Levels.{base, has_level}
use Rattle.sim_scope.specs.Source.{Source, level_of, source_of}
use Rattle.sim_tree.specs.declared.expr.Identifier.{Identifier}
use Rattle.sim_tree.specs.declared.program.BlockPrefix.{BlockPrefix}
use Rattle.sim_tree.specs.declared.stmt.Block.{Block as BlockTree}
use Rattle.sim_tree.specs.declared.stmt.Class.{Class}
use Rattle.sim_tree.specs.declared.stmt.Procedure.{Procedure}
use Rattle.sim_tree.specs.declared.stmt.TypeName.{TypeName}
use Rattle.sim_tree.specs.Syntax.{Begin, Block, Heading, Prefix}
use Rattle.sim_tree.specs.SyntaxOfProgram.{block_syntax, prefix_syntax}
use Rattle.sim_code.specs.declared.instr.Instr.{Instr}
use Rattle.sim_code.specs.declared.instr.Instr.TheVariants as i
use Rattle.sim_code.specs.Code.{CodeOf}
use Rattle.sim_meaning.specs.Levels.{is_process_class, is_process_itself, is_process_text, last_line, is_standard_text, levels_beyond, levels_from, levels_of}
use Rattle.sim_meaning.specs.Objects.{no_line}
use Rattle.sim_meaning.specs.Texts.{text}
use Rattle.program_texts.specs.declared.tree.TextTree.{TextTree}
use Rattle.program_texts.specs.declared.tree.TextTree.TheVariants as tree
use Rattle.program_texts.specs.TextTrees.{AreTexts, block_text, class_text, heading_of, prefixed_text, text_in}
use Rattle.codegen_expr.specs.declared.spot.Spot.{Spot}
use Rattle.codegen_expr.specs.Drafts.{DraftOf, class_of, filled_in, given_up, with_hole, with_instr, with_push}
use Rattle.codegen_expr.specs.Known.{OriginSlot}
use Rattle.codegen_expr.specs.Sites.{Ahead, At, Is, Pushes, Site, block_number, class_number, lined}
use Rattle.codegen_expr.proofs.Pieces.{becomes_later, emits_as, emits_at, emits_nothing, emits_push, emits_then, emits_when, fronts_le, later_emits, set_other}
use Rattle.codegen.specs.CodeStm.{EndOfAt, EndsAt, OriginsAt, is_class_text, is_subclass, origins, subclasses, subclasses_from, with_subclass}
use Rattle.codegen.specs.EmitConnections.{FillsAll}
use Rattle.codegen.specs.EmitProcesses.{EndsFrom, OpenEnds, OwesEnds, Stands, WritesDetached, WritesEnd, WritesEnds, WritesOrigins, WritesProcess}
use Rattle.codegen.proofs.ClassLevels.{emits_to}
use Rattle.codegen.proofs.Holes.{as_long, emits_hole, hole_there, longer, longer_hole}
use Rattle.codegen.proofs.Lying.{numbered}
use Rattle.codegen.proofs.Opened.{open_as, open_filled, open_none, open_then}
use Rattle.codegen.proofs.PlanSteps.{tree_text}

-- ---- which objects are processes

itself : (s : Source) (k : ℕ) → is_process_itself s k ≡ is_standard_text is_process_class (text s k)
unfolding is_process_itself
itself s k = refl

or_false : (a b : Bool) → b ≡ false → (a || b) ≡ a
or_false true b e = refl
or_false false b e = e

or_true : (a b : Bool) → b ≡ true → (a || b) ≡ true
or_true true b e = refl
or_true false b e = e

module _ (b : Bound) where
  -- whether `process` is among levels
  abbrev pub Among : List ℕ → Bool
  Among ks = list_any (λ level. is_standard_text is_process_class (text (source_of b) level)) ks

  abbrev pub From : (count level : ℕ) → Bool
  From n level = Among (levels_from b.scopes n level)

  pub has_first : (k : ℕ) → is_process_text (source_of b) k ≡ From (length b.scopes.blocks - 0) k
  unfolding is_process_text levels_of source_of
  has_first k = let e : length b.scopes.blocks ≡ length b.scopes.blocks - 0 = omega arith in ap (λ n. From n k) e

  less : (n i : ℕ) → i < n → n - i ≡ suc (n - (i + 1))
  less n i le = omega (arith, le)

  -- the level itself is the last of its levels
  split : (n i level : ℕ) (o : Option ℕ) (r : Bool) → i < n → base b.scopes level ≡ o → r ≡ is_process_itself (source_of b) level → From (n - i) level ≡ (Among (levels_beyond (levels_from b.scopes (n - (i + 1))) o) || r)
  split n i level o r le is er =
      let ks = levels_beyond (levels_from b.scopes (n - (i + 1))) o in
      let own : is_standard_text is_process_class (text (source_of b) level) ≡ r = sym (er ∙ itself (source_of b) level) in
      ap (λ m. From m level) (less n i le) ∙ ap (λ z. Among (levels_beyond (levels_from b.scopes (n - (i + 1))) z ++ (level ∷ []))) is ∙ list_any-append (λ l. is_standard_text is_process_class (text (source_of b) l)) ks (level ∷ [])
      ∙ ap (λ z. Among ks || z) (or_false (is_standard_text is_process_class (text (source_of b) level)) false refl ∙ own)

  pub has_found : (n i k level : ℕ) (r : Bool) → i < n → r ≡ is_process_itself (source_of b) level → r ≡ true → is_process_text (source_of b) k ≡ From (n - i) level → true ≡ is_process_text (source_of b) k
  has_found n i k level r le er is f = sym (f ∙ split n i level (base b.scopes level) r le refl er ∙ or_true (Among (levels_beyond (levels_from b.scopes (n - (i + 1))) (base b.scopes level))) r is)

  pub has_further : (n i k level front : ℕ) (r : Bool) → i < n → r ≡ is_process_itself (source_of b) level → r ≡ false → base b.scopes level ≡ Some front → is_process_text (source_of b) k ≡ From (n - i) level → is_process_text (source_of b) k ≡ From (n - (i + 1)) front
  has_further n i k level front r le er none is f = f ∙ split n i level (Some front) r le is er ∙ or_false (From (n - (i + 1)) front) r none

  pub has_none : (n i k level : ℕ) (r : Bool) → i < n → r ≡ is_process_itself (source_of b) level → r ≡ false → base b.scopes level ≡ None → is_process_text (source_of b) k ≡ From (n - i) level → false ≡ is_process_text (source_of b) k
  has_none n i k level r le er none is f = sym (f ∙ split n i level None r le is er ∙ none)

  pub has_ended : (n i k level : ℕ) → n ≤ i → is_process_text (source_of b) k ≡ From (n - i) level → false ≡ is_process_text (source_of b) k
  has_ended n i k level le f = let e : n - i ≡ 0 = omega (arith, le) in sym (f ∙ ap (λ m. From m level) e)

  -- ---- subclasses

  tree_class : (ts : List TextTree) (j : ℕ) (x : TextTree) (r : Bool) → AreTexts b.program ts → slice_get ts j ≡ Some x → r ≡ is_class_text (Some (text_in x)) → is_class_text (text (source_of b) j) ≡ r
  tree_class ts j x r are at er = sym (er ∙ ap is_class_text (sym (tree_text b ts j x are at)))

  pub subclass_of : (ts : List TextTree) (k j : ℕ) (x : TextTree) (r q : Bool) → AreTexts b.program ts → slice_get ts j ≡ Some x → r ≡ is_class_text (Some (text_in x)) → r ≡ true → q ≡ has_level b.scopes j k → q ≡ is_subclass (source_of b) k j
  unfolding source_of
  subclass_of ts k j x r q are at er is eq = eq ∙ ap (λ z. z && has_level b.scopes j k) (sym (tree_class ts j x r are at er ∙ is))

  pub subclass_other : (ts : List TextTree) (k j : ℕ) (x : TextTree) (r : Bool) → AreTexts b.program ts → slice_get ts j ≡ Some x → r ≡ is_class_text (Some (text_in x)) → r ≡ false → false ≡ is_subclass (source_of b) k j
  unfolding source_of
  subclass_other ts k j x r are at er is = ap (λ z. z && has_level b.scopes j k) (sym (tree_class ts j x r are at er ∙ is))

  pub subclass_none : (ts : List TextTree) (k j : ℕ) → AreTexts b.program ts → length ts ≤ j → false ≡ is_subclass (source_of b) k j
  unfolding AreTexts text source_of Rattle.sim_tree.specs.SyntaxOfProgram.program_syntax
  subclass_none ts k j are le = ap (λ z. is_class_text z && has_level b.scopes j k) (sym (ap (λ z. slice_get z j) (sym are) ∙ past text_in ts j le))
    where
      past : {A B : Type 0} (f : A → B) (xs : List A) (n : ℕ) → length xs ≤ n → slice_get (map f xs) n ≡ None
      past f [] n le = refl
      past f (y ∷ ys) zero le = absurd (omega (arith, le))
      past f (y ∷ ys) (suc n) le = past f ys n (omega (arith, le))

  -- those of the rest of the texts
  abbrev pub Rest : (class count from : ℕ) → List ℕ
  Rest k n j = subclasses_from (source_of b) k j (n - j)

  pub subclasses_first : (k : ℕ) → [] ++ Rest k (length b.scopes.blocks) 0 ≡ subclasses (source_of b) k
  unfolding subclasses source_of
  subclasses_first k = let e : length b.scopes.blocks - 0 ≡ length b.scopes.blocks = omega arith in ap (λ n. subclasses_from (source_of b) k 0 n) e

  rest_next : (k n j : ℕ) → j < n → Rest k n j ≡ with_subclass (is_subclass (source_of b) k j) j (Rest k n (j + 1))
  rest_next k n j le =
      let more : suc j ≡ j + 1 = omega arith in
      ap (λ m. subclasses_from (source_of b) k j m) (less n j le) ∙ ap (λ m. with_subclass (is_subclass (source_of b) k j) j (subclasses_from (source_of b) k m (n - (j + 1)))) more

  pub subclasses_more : (k n j t : ℕ) (xs ys : List ℕ) (r : Bool) → j < n → t ≡ j → r ≡ is_subclass (source_of b) k t → r ≡ true → ys ≡ xs ++ (t ∷ []) → xs ++ Rest k n j ≡ subclasses (source_of b) k → ys ++ Rest k n (j + 1) ≡ subclasses (source_of b) k
  subclasses_more k n j t xs ys r le et er is ey f =
      let here : is_subclass (source_of b) k j ≡ true = ap (is_subclass (source_of b) k) (sym et) ∙ sym er ∙ is in
      ap (λ z. z ++ Rest k n (j + 1)) (ey ∙ ap (λ z. xs ++ (z ∷ [])) et) ∙ append_assoc xs (j ∷ []) (Rest k n (j + 1)) ∙ ap (λ z. xs ++ z) (sym (rest_next k n j le ∙ ap (λ z. with_subclass z j (Rest k n (j + 1))) here)) ∙ f

  pub subclasses_same : (k n j t : ℕ) (xs : List ℕ) (r : Bool) → j < n → t ≡ j → r ≡ is_subclass (source_of b) k t → r ≡ false → xs ++ Rest k n j ≡ subclasses (source_of b) k → xs ++ Rest k n (j + 1) ≡ subclasses (source_of b) k
  subclasses_same k n j t xs r le et er is f =
      let here : is_subclass (source_of b) k j ≡ false = ap (is_subclass (source_of b) k) (sym et) ∙ sym er ∙ is in
      ap (λ z. xs ++ z) (sym (rest_next k n j le ∙ ap (λ z. with_subclass z j (Rest k n (j + 1))) here)) ∙ f

  pub subclasses_last : (k n j : ℕ) (xs : List ℕ) → n ≤ j → xs ++ Rest k n j ≡ subclasses (source_of b) k → xs ≡ subclasses (source_of b) k
  subclasses_last k n j xs le f = let e : n - j ≡ 0 = omega (arith, le) in sym (append-nil xs) ∙ ap (λ m. xs ++ subclasses_from (source_of b) k j m) (sym e) ∙ f

-- ---- classes among the parts of the tree

of_block : (k : Block) → false ≡ is_class_text (Some (block_text k))
of_block (Begin token ds ss end) = refl

of_prefixed : (p : Prefix) (k : Block) → false ≡ is_class_text (Some (prefixed_text p k))
of_prefixed p (Begin token ds ss end) = refl

of_class : (o : Option Identifier) (h : Heading) (k : Block) → true ≡ is_class_text (Some (class_text o h k))
of_class o h (Begin token ds ss end) = refl

tree_as : (x y : TextTree) (r : Bool) → x ≡ y → r ≡ is_class_text (Some (text_in y)) → r ≡ is_class_text (Some (text_in x))
tree_as x y r is e = e ∙ ap (λ z. is_class_text (Some (text_in z))) (sym is)

pub block_tree : (x : TextTree) (p : Bor BlockTree) → x ≡ tree.Block p → false ≡ is_class_text (Some (text_in x))
block_tree x p is = tree_as x (tree.Block p) false is (of_block (block_syntax p.now))

pub procedure_tree : (x : TextTree) (r : Bor (Option TypeName)) (p : Bor Procedure) → x ≡ tree.Procedure r p → false ≡ is_class_text (Some (text_in x))
procedure_tree x r p is = tree_as x (tree.Procedure r p) false is refl

pub class_tree : (x : TextTree) (r : Bor (Option Identifier)) (c : Bor Class) (p : Bor BlockTree) → x ≡ tree.Class r c p → true ≡ is_class_text (Some (text_in x))
class_tree x r c p is = tree_as x (tree.Class r c p) true is (of_class r.now (heading_of c.now) (block_syntax p.now))

pub statement_tree : (x : TextTree) (r : Bor (Option Identifier)) (c : Bor Class) → x ≡ tree.ClassOfStatement r c → true ≡ is_class_text (Some (text_in x))
statement_tree x r c is = tree_as x (tree.ClassOfStatement r c) true is refl

pub prefixed_tree : (x : TextTree) (p : Bor BlockPrefix) (q : Bor BlockTree) → x ≡ tree.Prefixed p q → false ≡ is_class_text (Some (text_in x))
prefixed_tree x p q is = tree_as x (tree.Prefixed p q) false is (of_prefixed (prefix_syntax p.now) (block_syntax q.now))

pub connection_tree : (x : TextTree) → x ≡ tree.Connection → false ≡ is_class_text (Some (text_in x))
connection_tree x is = tree_as x tree.Connection false is refl

pub standard_tree : (x : TextTree) (which : StandardClass) → x ≡ tree.Standard which → false ≡ is_class_text (Some (text_in x))
standard_tree x which is = tree_as x (tree.Standard which) false is refl

pub ruleset class_trees = (block_tree, procedure_tree, class_tree, statement_tree, prefixed_tree, connection_tree, standard_tree)

-- ---- the end of a process

-- what stands behind it
pub end_more : (s : Source) (code : CodeOf) (site : Site) (u k : ℕ) (M N : ℕ → ℕ → Type 0) (p q : ℕ) → ((m : ℕ) → M m q → N m q) → EndOfAt s code site u k M p q → EndOfAt s code site u k N p q
end_more s code site u k M N p q f r = record { a = r.a; b = r.b; c = r.c; d = r.d; e = r.e; y = r.y; this = r.this; test = r.test; jump = r.jump; leads = r.leads; link = r.link; number = r.number; numbered = r.numbered; done = r.done; over = r.over; past = r.past; more = f r.y r.more }

ends_at : (s : Source) (code : CodeOf) (site : Site) (u : ℕ) (ks ts : List ℕ) (p q m : ℕ) → OriginsAt s code site u ts m q → EndsFrom s code site u ks (λ n t. n ≡ m) p q → EndsAt s code site u ks ts p q
ends_at s code site u [] ts p q m o r = subst (λ z. OriginsAt s code site u ts z q) (sym r) o
ends_at s code site u (k ∷ ks) ts p q m o r = end_more s code site u k _ _ p q (λ n. ends_at s code site u ks ts n q m o) r

module _ (b : Bound) (w : Spot) where
  pub detached : (a c d : DraftOf) (n : ℕ) (x : Instr) → n ≡ level_of (source_of b) w.text → x ≡ i.This (pos n) → c ≡ with_push a 0 x 0 → d ≡ with_instr c i.Detach 1 → WritesDetached b w a d
  unfolding WritesDetached
  detached a c d n x en ex ec ed =
      let this = i.This (pos (level_of (source_of b) w.text)) in
      let same : x ≡ this = ex ∙ ap (λ z. i.This (pos z)) en in
      emits_as w (⊤ × ⊤) ⊤ _ _ a d (λ h. (h, h)) (λ h. h.0) (λ final site p q et _ r. (r.0, subst (λ z. Pushes final site 0 (i.This (pos (level_of (source_of b) z))) p r.0) (sym et) r.1, r.2))
      (emits_then w ⊤ ⊤ (λ final site p q. Pushes final site 0 this p q) (λ final site p q. At final i.Detach no_line p q) a c d (emits_push w a c 0 this 0 (ec ∙ ap (λ z. with_push a 0 z 0) same) (λ z. cc) refl) (emits_at w c d i.Detach no_line ed (λ z. cc) refl))

  pub end_put : (c0 c1 c2 c3 c4 c5 c6 c7 : DraftOf) (u k m number n l line jump over : ℕ) (start : ℤ) (x y z v : Instr) → m ≡ block_number (source_of b) k → number ≡ class_of c0.classes m → n ≡ level_of (source_of b) w.text → x ≡ i.This (pos n) → c1 ≡ with_push c0 0 x 0
      → y ≡ i.Is (pos number) → c2 ≡ with_instr c1 y 0 → jump ≡ length c2.instrs → c3 ≡ with_hole c2 → l ≡ level_of (source_of b) u → z ≡ i.Link (pos l) → c4 ≡ with_push c3 0 z 0 → v ≡ i.Std (pos 69) → line ≡ last_line (source_of b) k → c5 ≡ with_instr c4 v line
      → over ≡ length c5.instrs → c6 ≡ with_hole c5 → start ≡ pos (length c6.instrs) → c7 ≡ filled_in c6 jump (i.JumpF start) → WritesEnd b w u k c0 c7 over
  unfolding WritesEnd filled_in
  end_put c0 c1 c2 c3 c4 c5 c6 c7 u k m number n l line jump over start x y z v em en el ex e1 ey e2 ej e3 eu ez e4 ev eline e5 eo e6 es e7 =
      let s = source_of b in
      let this = i.This (pos (level_of s w.text)) in
      let link = i.Link (pos (level_of s u)) in
      let std = i.Std (pos 69) in
      let at_end = last_line s k in
      let p1 : c1 ≡ with_push c0 0 this 0 = e1 ∙ ap (λ o. with_push c0 0 o 0) (ex ∙ ap (λ o. i.This (pos o)) el) in
      let p2 : c2 ≡ with_instr c1 (i.Is (pos number)) 0 = e2 ∙ ap (λ o. with_instr c1 o 0) ey in
      let p4 : c4 ≡ with_push c3 0 link 0 = e4 ∙ ap (λ o. with_push c3 0 o 0) (ez ∙ ap (λ o. i.Link (pos o)) eu) in
      let p5 : c5 ≡ with_instr c4 std at_end = e5 ∙ ap (λ o. with_instr c4 o line) ev ∙ ap (λ o. with_instr c4 std o) eline in
      let test = emits_then w ⊤ ⊤ (λ final site p q. Pushes final site 0 this p q) (λ final site p q. At final (i.Is (pos number)) 0 p q) c0 c1 c2 (emits_push w c0 c1 0 this 0 p1 (λ o. cc) refl) (emits_at w c1 c2 (i.Is (pos number)) 0 p2 (λ o. cc) refl) in
      let pushed = emits_push w c3 c4 0 link 0 p4 (λ o. cc) refl in
      let done = emits_at w c4 c5 std at_end p5 (λ o. cc) refl in
      let last = emits_then w ⊤ ⊤ (λ final site p q. At final std at_end p q) (λ final site p q. (q ≡ suc p) × (q < length final.instrs)) c4 c5 c6 done (emits_hole w c5 c6 e6) in
      let first = emits_then w ⊤ (⊤ × ⊤) (λ final site p q. Pushes final site 0 link p q) (λ final site p q. (o : ℕ) × At final std at_end p o × ((q ≡ suc o) × (q < length final.instrs))) c3 c4 c6 pushed last in
      let all = emits_when w (⊤ × ⊤) (⊤ × (⊤ × ⊤)) _ _ c0 c2 c3 c6 c7 jump start test ej e3 first es e7 in
      let ei : c7.instrs ≡ slice_set c6.instrs jump (lined (i.JumpF start) 0) = ap (λ o. o.instrs) e7 in
      let n2 : length c0.instrs ≤ length c2.instrs = fronts_le c0.instrs c2.instrs (test.rest, test.front) in
      let n3 : length c3.instrs ≡ suc (length c2.instrs) = longer_hole c2 c3 e3 in
      let n4 : length c3.instrs ≤ length c4.instrs = longer w c3 c4 _ _ pushed in
      let n5 : length c4.instrs ≤ length c5.instrs = longer w c4 c5 _ _ done in
      let n6 : length c6.instrs ≡ suc (length c5.instrs) = longer_hole c5 c6 e6 in
      let n7 : length c7.instrs ≡ length c6.instrs = as_long c6 c7 jump (i.JumpF start) e7 in
      record {
        rest = all.rest;
        front = all.front;
        roomier = all.roomier;
        larger = all.larger;
        classed = all.classed;
        thunked = all.thunked;
        listed = all.listed;
        built = λ h o. all.built ((tt, tt), (tt, (tt, tt))) o;
        before = all.before;
        only = λ o. tt;
        fits = all.fits;
        holes_open = (omega (arith, eo, n2, n3, n4, n5), ap (λ o. slice_get o over) ei ∙ set_other c6.instrs jump over _ (λ e. (let e' : ⊥ = omega (arith, e, eo, ej, n3, n4, n5) in e')) ∙ subst (λ o. slice_get c6.instrs o ≡ Some (lined i.Halt 0)) (sym eo) (hole_there c5 c6 e6), tt);
        at = λ o final site g target t.
            let r = all.at o final site g in
            let is : number ≡ class_number s final k = numbered b w final site c0 k m number (becomes_later w c0 c7 final site (later_emits w c0 c7 _ _ all) g) em en in
            let q1 : length c7.instrs ≡ suc r.first.2.0 = r.first.2.2.0 in
            let place : r.first.2.0 ≡ over = omega (arith, q1, eo, n6, n7) in
            record {
              a = r.test.0;
              b = r.y;
              c = r.z;
              d = r.first.0;
              e = r.first.2.0;
              y = length c7.instrs;
              this = subst (λ o. Pushes final site 0 (i.This (pos (level_of s o))) (length c0.instrs) r.test.0) (sym g.stands) r.test.1;
              test = record { line = 0; is = subst (λ o. At final (i.Is (pos o)) 0 r.test.0 r.y) is r.test.2 };
              jump = r.jump;
              leads = r.leads;
              link = r.first.1;
              number = 69;
              numbered = refl;
              done = r.first.2.1;
              over = record { line = 0; is = record { at = subst (λ o. slice_get final.instrs o ≡ Some (lined (i.Jump (pos target)) 0)) (sym place) t.0; on = q1 } };
              past = subst (λ o. Ahead final o target) (sym place) t.1;
              more = refl;
            };
      }

  -- ---- classes one behind another

  pub ends_all : (u : ℕ) (a : DraftOf) (ks : List ℕ) → OwesEnds b w u a ks a [] ks
  unfolding OwesEnds
  ends_all u a ks end more f = f

  pub ends_next : (u : ℕ) (a c d : DraftOf) (ks r r' : List ℕ) (k : ℕ) (overs overs' : List ℕ) (over : ℕ) → OwesEnds b w u a ks c overs r → r ≡ k ∷ r' → WritesEnd b w u k c d over → overs' ≡ overs ++ (over ∷ []) → OwesEnds b w u a ks d overs' r'
  unfolding OwesEnds WritesEnd
  ends_next u a c d ks r r' k overs overs' over f is g eo end more rest =
      let s = source_of b in
      subst (λ z. OpenEnds b w u a end z ks) (sym (append_assoc overs (over ∷ []) more) ∙ ap (λ z. z ++ more) (sym eo))
      (f end (over ∷ more) (subst (λ z. OpenEnds b w u c end (over ∷ more) z) (sym is)
      (open_as w (⊤ × ⊤) ⊤ _ (λ final site target p q. EndsFrom s final site u (k ∷ r') (λ m t. m ≡ q) p target) c end (over ∷ more) (over ∷ more) refl (λ h. (h, h)) (λ h. h.0)
      (λ final site target p q o. end_more s final site u k (λ m t. m ≡ o.0) (EndsFrom s final site u r' (λ m t. m ≡ q)) p target (λ m e. subst (λ z. EndsFrom s final site u r' (λ m t. m ≡ q) z target) (sym e) o.2) o.1)
      (open_then w ⊤ ⊤ _ _ c d end over more g rest))))

  ends_done : (u : ℕ) (a c : DraftOf) (ks r : List ℕ) (overs : List ℕ) → OwesEnds b w u a ks c overs r → r ≡ [] → OpenEnds b w u a c overs ks
  unfolding OwesEnds
  ends_done u a c ks r overs f is =
      subst (λ z. OpenEnds b w u a c z ks) (append-nil overs)
      (f c [] (subst (λ z. OpenEnds b w u c c [] z) (sym is) (open_none w c _ (λ final site target p. refl))))

  pub ends_put : (u place : ℕ) (a c d e : DraftOf) (ks r ts : List ℕ) (overs : List ℕ) (target : ℤ) → OwesEnds b w u a ks c overs r → r ≡ [] → WritesOrigins b w u place ts c d → target ≡ pos (length d.instrs) → FillsAll d e overs target → WritesEnds b w u place ks ts a e
  unfolding FillsAll WritesEnds WritesOrigins
  ends_put u place a c d e ks r ts overs target f is g et ee = λ found.
      let s = source_of b in
      emits_as w (⊤ × ⊤) ⊤ _ _ a e (λ h. (h, h)) (λ h. h.0)
      (λ final site p q _ _ o. ends_at s final site u ks ts p q o.0 o.2 o.1)
      (open_filled w ⊤ ⊤ (λ final site target p q. EndsFrom s final site u ks (λ m t. m ≡ q) p target) (λ final site p q. OriginsAt s final site u ts p q) a c d e overs target (ends_done u a c ks r overs f is) (g found) et ee)

  -- ---- the level

  pub process_put : (level after u place : ℕ) (a c1 c2 d : DraftOf) (ks ts : List ℕ) (o : Option ℕ) → o ≡ encloser b.scopes w.text → o ≡ Some u → ks ≡ subclasses (source_of b) w.text → ts ≡ origins (source_of b) w.text → OriginSlot (source_of b) w.text place
      → WritesDetached b w a c1 → c2 ≡ with_instr c1 (i.Inner (pos level)) 0 → after ≡ length c2.instrs → WritesEnds b w u place ks ts c2 d → WritesProcess b w level a d after
  unfolding WritesProcess WritesDetached WritesEnds OriginSlot source_of
  process_put level after u place a c1 c2 d ks ts o eo some ek ets slot f e2 en g' = λ process.
      let s = source_of b in
      let g = g' (slot process) in
      let out : encloser b.scopes w.text ≡ Some u = sym eo ∙ some in
      let inner = emits_to b w c1 c2 ⊤ _ after en (emits_at w c1 c2 (i.Inner (pos level)) 0 e2 (λ z. cc) refl) in
      let le = longer w c2 d _ _ g in (
        omega (arith, en, le),
        emits_as w (⊤ × (⊤ × ⊤)) (Stands b.scopes w.text) _ _ a d (λ h. (tt, (tt, tt))) (λ h. (u, out))
            (λ final site p q et _ r. record {
              around = u;
              is_around = ap (encloser b.scopes) et ∙ out;
              a = r.1.0;
              b = r.0;
              this = r.1.1;
              detach = r.1.2;
              inner = record { line = 0; is = subst (λ z. At final (i.Inner (pos level)) 0 r.0 z) r.2.1.1 r.2.1.0 };
              ends =
                  subst (λ z. EndsAt s final site u z (origins s site.text) after q) (ek ∙ ap (subclasses s) (sym et)) (subst (λ z. EndsAt s final site u ks z after q) (ets ∙ ap (origins s) (sym et)) (subst (λ z. EndsAt s final site u ks ts z q) r.2.1.1 r.2.2));
            })
            (emits_then w ⊤ (⊤ × ⊤) _ _ a c1 d f (emits_then w ⊤ ⊤ _ _ c1 c2 d inner g)),
      )

  pub process_nowhere : (level after : ℕ) (a c : DraftOf) (o : Option ℕ) → o ≡ encloser b.scopes w.text → o ≡ None → c ≡ given_up a → after ≡ length c.instrs → WritesProcess b w level a c after
  unfolding WritesProcess source_of
  process_nowhere level after a c o eo none ec en = λ process. (omega (arith, en), emits_nothing w a c _ _ (λ h. let t : None ≡ Some h.0 = sym none ∙ eo ∙ h.1 in cc) ec)

pub ruleset processes = (detached, end_put, process_put, process_nowhere)
