-- What is planned of the blocks of the code.
use Rattle.std.proofs.Common.{◌≡◌, ◌<◌, ◌≤◌, ◌≢◌, ◌+◌, ◌-◌, ◌++◌, max, ℕ, zero, suc, Bool, true, false, List, [], ◌∷◌, length, map, Option, Some, None, Bor, refl, sym, ap, ◌∙◌, subst, arith, append_assoc, length-append}
use Rattle.std.proofs.Math.Nat.{le-max_left}
use Rattle.std.proofs.lemmas.Option.{slice_get_past}
use Rattle.std.specs.Prelude.{slice_get, slice_index_or, slice_set}
use Rattle.sim_scope.specs.declared.bound.Bound.{Bound}
use Rattle.sim_scope.specs.Source.{Source, source_of}
use Rattle.sim_tree.specs.declared.expr.Identifier.{Identifier}
use Rattle.sim_scope.specs.declared.types.StandardClass.{StandardClass}
use Rattle.sim_tree.specs.declared.stmt.Block.{Block}
use Rattle.sim_tree.specs.declared.program.BlockPrefix.{BlockPrefix}
use Rattle.sim_tree.specs.declared.stmt.Class.{Class}
use Rattle.sim_tree.specs.declared.stmt.Procedure.{Procedure}
use Rattle.sim_tree.specs.declared.stmt.TypeName.{TypeName}
use Rattle.sim_code.specs.declared.code.CodeType.{CodeType}
use Rattle.sim_tree.specs.Syntax as syntax
use Rattle.sim_tree.specs.SyntaxOfProgram.{block_syntax, prefix_syntax}
use Rattle.sim_meaning.specs.Attributes.{is_connection}
use Rattle.sim_meaning.specs.Entries.{cells_from, first_cells, numbers_of, with_result}
use Rattle.sim_meaning.specs.Texts.{BlockText, ClassText, ConnectionText, PrefixedText, ProcedureText, StandardText, Text, text}
use Rattle.program_texts.specs.declared.tree.TextTree.{TextTree}
use Rattle.program_texts.specs.declared.tree.TextTree.TheVariants as tree
use Rattle.program_texts.specs.TextTrees.{block_text, class_text, heading_of, prefixed_text, text_in}
use Rattle.codegen_expr.specs.Drafts.{PlannedOf, class_of, planned_at, planned_front, planned_of, planned_or_none, planned_start}
use Rattle.codegen_expr.specs.Known.{truth_or_false}
use Rattle.codegen_expr.specs.Sites.{block_number, cells_in, hidden_in, own_cells, own_part, prefix_of}
use Rattle.codegen.specs.Compiled.{type_of_cell}
use Rattle.codegen.specs.EmitProgram.{CellTypes, FrontClass, HidesCells, OwnEnd, Padded, classes_in, is_planned}
use Rattle.codegen.specs.Planning.{AreBlank, AreTypesBehind, IsFront, NextClass, NoMarks, OwnOf, OwnTypes, PlannedBehind, has_number, result_in}

mapped : {A B : Type 0} (f : A → B) (xs : List A) → length (map f xs) ≡ length xs
mapped f [] = refl
mapped f (x ∷ xs) = ap suc (mapped f xs)

map_append : {A B : Type 0} (f : A → B) (xs ys : List A) → map f (xs ++ ys) ≡ map f xs ++ map f ys
map_append f [] ys = refl
map_append f (x ∷ xs) ys = ap (λ z. f x ∷ z) (map_append f xs ys)

pub one_less_than : (n : ℕ) → n ≢ 0 → n ≡ suc (n - 1)
one_less_than zero ne = absurd (ne refl)
one_less_than (suc n) ne = omega arith

-- ---- parts of frames

pub end_found : (b : Bound) (plan : List PlannedOf) (k : ℕ) (start hidden : List CodeType) (count declared own end : ℕ) → start ≡ [] → HidesCells b start hidden k → count ≡ length hidden → declared ≡ length (cells_in (source_of b) k (text (source_of b) k)) → own ≡ declared + count
    → end ≡ planned_start (source_of b) plan k + own → OwnEnd b plan k end
unfolding HidesCells OwnEnd
end_found b plan k start hidden count declared own end es eh ec ed eo ee =
    let s = source_of b in
    let cells = cells_in s k (text s k) in
    let many : length hidden ≡ length (hidden_in s k) = ap length (eh ∙ ap (λ z. z ++ map type_of_cell (hidden_in s k)) es) ∙ mapped type_of_cell (hidden_in s k) in
    let all : length (own_part s k) ≡ length cells + length (hidden_in s k) = length-append cells (hidden_in s k) in
    omega (arith, ec, ed, eo, ee, many, all)

pub class_in_front : (b : Bound) (plan : List PlannedOf) (k u j c : ℕ) (r : Option ℕ) → r ≡ prefix_of b.scopes k → r ≡ Some u → j ≡ block_number (source_of b) u → c ≡ class_of plan j → FrontClass b plan k c
unfolding FrontClass planned_front source_of
class_in_front b plan k u j c r er some ej ec = ec ∙ ap (class_of plan) ej ∙ ap (λ z. (planned_of (source_of b) plan z).class) (sym some ∙ er)

pub class_of_none : (b : Bound) (plan : List PlannedOf) (k : ℕ) (r : Option ℕ) → r ≡ prefix_of b.scopes k → r ≡ None → FrontClass b plan k 0
unfolding FrontClass planned_front source_of
class_of_none b plan k r er none = ap (λ z. (planned_of (source_of b) plan z).class) (sym none ∙ er)

-- ---- types

pub copied_next : (ys ys' xs r r' : List CodeType) (x : CodeType) → ys ++ r ≡ xs → r ≡ x ∷ r' → ys' ≡ ys ++ (x ∷ []) → ys' ++ r' ≡ xs
copied_next ys ys' xs r r' x inv is e = ap (λ z. z ++ r') e ∙ append_assoc ys (x ∷ []) r' ∙ ap (λ z. ys ++ z) (sym is) ∙ inv

pub own_found : (b : Bound) (k : ℕ) (result : Option TypeName) (types all : List CodeType) → CellTypes b k result types → HidesCells b types all k → OwnOf b k result all
unfolding CellTypes HidesCells OwnOf
own_found b k result types all et eh =
    let s = source_of b in
    let cells = with_result result (cells_from s (numbers_of s k)) in
    eh ∙ ap (λ z. z ++ map type_of_cell (hidden_in s k)) et ∙ sym (map_append type_of_cell cells (hidden_in s k))

own_as : (b : Bound) (k : ℕ) (x : TextTree) (result : Option TypeName) (v : List CodeType) → result_in x ≡ result → OwnOf b k result v → OwnTypes b k x v
unfolding OwnTypes
own_as b k x result v e f = subst (λ z. OwnOf b k z v) (sym e) f

pub own_block : (b : Bound) (k : ℕ) (x : TextTree) (p : Bor Block) (v : List CodeType) → x ≡ tree.Block p → OwnOf b k None v → OwnTypes b k x v
own_block b k x p v is f = own_as b k x None v (ap result_in is) f

pub own_procedure : (b : Bound) (k : ℕ) (x : TextTree) (r : Bor (Option TypeName)) (p : Bor Procedure) (v : List CodeType) → x ≡ tree.Procedure r p → OwnOf b k r.now v → OwnTypes b k x v
own_procedure b k x r p v is f = own_as b k x r.now v (ap result_in is) f

pub own_class : (b : Bound) (k : ℕ) (x : TextTree) (r : Bor (Option Identifier)) (c : Bor Class) (p : Bor Block) (v : List CodeType) → x ≡ tree.Class r c p → OwnOf b k None v → OwnTypes b k x v
own_class b k x r c p v is f = own_as b k x None v (ap result_in is) f

pub own_statement : (b : Bound) (k : ℕ) (x : TextTree) (r : Bor (Option Identifier)) (c : Bor Class) (v : List CodeType) → x ≡ tree.ClassOfStatement r c → OwnOf b k None v → OwnTypes b k x v
own_statement b k x r c v is f = own_as b k x None v (ap result_in is) f

pub own_prefixed : (b : Bound) (k : ℕ) (x : TextTree) (p : Bor BlockPrefix) (q : Bor Block) (v : List CodeType) → x ≡ tree.Prefixed p q → OwnOf b k None v → OwnTypes b k x v
own_prefixed b k x p q v is f = own_as b k x None v (ap result_in is) f

pub own_connection : (b : Bound) (k : ℕ) (x : TextTree) (v : List CodeType) → x ≡ tree.Connection → OwnOf b k None v → OwnTypes b k x v
own_connection b k x v is f = own_as b k x None v (ap result_in is) f

pub own_standard : (b : Bound) (k : ℕ) (x : TextTree) (which : StandardClass) (v : List CodeType) → x ≡ tree.Standard which → OwnOf b k None v → OwnTypes b k x v
own_standard b k x which v is f = own_as b k x None v (ap result_in is) f

-- ---- places in lists

pub index_found : {A : Type 0} (xs : List A) (n : ℕ) (x : A) → n < length xs → x ≡ slice_index_or xs n x → slice_get xs n ≡ Some x
index_found [] n x le e = absurd (omega (arith, le))
index_found (y ∷ xs) zero x le e = ap Some (sym e)
index_found (y ∷ xs) (suc n) x le e = index_found xs n x (omega (arith, le)) e

pub set_here : {A : Type 0} (xs : List A) (j : ℕ) (x : A) → j < length xs → slice_get (slice_set xs j x) j ≡ Some x
set_here [] j x le = absurd (omega (arith, le))
set_here (y ∷ xs) zero x le = refl
set_here (y ∷ xs) (suc j) x le = set_here xs j x (omega (arith, le))

pub set_other : {A : Type 0} (xs : List A) (j k : ℕ) (x : A) → k ≢ j → slice_get (slice_set xs j x) k ≡ slice_get xs k
set_other [] j k x ne = refl
set_other (y ∷ xs) zero zero x ne = absurd (ne refl)
set_other (y ∷ xs) zero (suc k) x ne = refl
set_other (y ∷ xs) (suc j) zero x ne = refl
set_other (y ∷ xs) (suc j) (suc k) x ne = set_other xs j k x (λ e. ne (ap suc e))

pub set_length : {A : Type 0} (xs : List A) (j : ℕ) (x : A) → length (slice_set xs j x) ≡ length xs
set_length [] j x = refl
set_length (y ∷ xs) zero x = refl
set_length (y ∷ xs) (suc j) x = ap suc (set_length xs j x)

pub map_at : {A B : Type 0} (f : A → B) (xs : List A) (k : ℕ) (x : A) → slice_get xs k ≡ Some x → slice_get (map f xs) k ≡ Some (f x)
map_at f [] k x e = absurd (cc)
map_at {A} f (y ∷ xs) zero x e = ap (λ z. Some (f z)) (same y x e)
  where
    same : (a c : A) → Some a ≡ Some c → a ≡ c
    same a c h = cc
map_at f (y ∷ xs) (suc k) x e = map_at f xs k x e

pub within : {A : Type 0} (xs : List A) (k : ℕ) (x : A) → slice_get xs k ≡ Some x → k < length xs
within [] k x e = absurd (cc)
within (y ∷ xs) zero x e = omega arith
within (y ∷ xs) (suc k) x e = let le = within xs k x e in omega (arith, le)

pub row_at : {A : Type 0} (xs : List A) (k : ℕ) → k < length xs → (x : A) × (slice_get xs k ≡ Some x)
row_at [] k le = absurd (omega (arith, le))
row_at (x ∷ xs) zero le = (x, refl)
row_at (x ∷ xs) (suc k) le = row_at xs k (omega (arith, le))

-- ---- what is planned of a text

-- the own part of the text, if it is this one
pub own_is : (b : Bound) (k : ℕ) (x : TextTree) (own : List CodeType) → text (source_of b) k ≡ Some (text_in x) → is_planned (text_in x) ≡ true → OwnTypes b k x own → own ≡ map type_of_cell (own_part (source_of b) k)
unfolding OwnTypes OwnOf first_cells
own_is b k x own is yes' f = f ∙ ap (λ z. map type_of_cell (z ++ hidden_in s k)) (cells x yes' ∙ ap (cells_in s k) (sym is))
  where
    s : Source
    s = source_of b

    of_block : (z : syntax.Block) → cells_from s (numbers_of s k) ≡ own_cells s k (block_text z)
    of_block (syntax.Begin token ds ss end) = refl

    of_class : (r : Option Identifier) (h : syntax.Heading) (z : syntax.Block) → cells_from s (numbers_of s k) ≡ own_cells s k (class_text r h z)
    of_class r h (syntax.Begin token ds ss end) = refl

    of_prefixed : (p : syntax.Prefix) (z : syntax.Block) → cells_from s (numbers_of s k) ≡ own_cells s k (prefixed_text p z)
    of_prefixed p (syntax.Begin token ds ss end) = refl

    cells : (x : TextTree) → is_planned (text_in x) ≡ true → with_result (result_in x) (cells_from s (numbers_of s k)) ≡ cells_in s k (Some (text_in x))
    cells (tree.Block p) h = of_block (block_syntax p.now)
    cells (tree.Procedure r p) h = refl
    cells (tree.Class r c p) h = of_class r.now (heading_of c.now) (block_syntax p.now)
    cells (tree.ClassOfStatement r c) h = refl
    cells (tree.Prefixed p q) h = of_prefixed (prefix_syntax p.now) (block_syntax q.now)
    cells tree.Connection h = absurd (cc)
    cells (tree.Standard which) h = refl

-- ---- which texts are planned, and have numbers

block_planned : (z : syntax.Block) → is_planned (block_text z) ≡ true
block_planned (syntax.Begin token ds ss end) = refl

class_planned : (r : Option Identifier) (h : syntax.Heading) (z : syntax.Block) → is_planned (class_text r h z) ≡ true
class_planned r h (syntax.Begin token ds ss end) = refl

prefixed_planned : (p : syntax.Prefix) (z : syntax.Block) → is_planned (prefixed_text p z) ≡ true
prefixed_planned p (syntax.Begin token ds ss end) = refl

pub planned_block : (x : TextTree) (p : Bor Block) → x ≡ tree.Block p → true ≡ is_planned (text_in x)
planned_block x p is = sym (ap (λ z. is_planned (text_in z)) is ∙ block_planned (block_syntax p.now))

pub planned_procedure : (x : TextTree) (r : Bor (Option TypeName)) (p : Bor Procedure) → x ≡ tree.Procedure r p → true ≡ is_planned (text_in x)
planned_procedure x r p is = sym (ap (λ z. is_planned (text_in z)) is)

pub planned_class : (x : TextTree) (r : Bor (Option Identifier)) (c : Bor Class) (p : Bor Block) → x ≡ tree.Class r c p → true ≡ is_planned (text_in x)
planned_class x r c p is = sym (ap (λ z. is_planned (text_in z)) is ∙ class_planned r.now (heading_of c.now) (block_syntax p.now))

pub planned_statement : (x : TextTree) (r : Bor (Option Identifier)) (c : Bor Class) → x ≡ tree.ClassOfStatement r c → true ≡ is_planned (text_in x)
planned_statement x r c is = sym (ap (λ z. is_planned (text_in z)) is)

pub planned_prefixed : (x : TextTree) (p : Bor BlockPrefix) (q : Bor Block) → x ≡ tree.Prefixed p q → true ≡ is_planned (text_in x)
planned_prefixed x p q is = sym (ap (λ z. is_planned (text_in z)) is ∙ prefixed_planned (prefix_syntax p.now) (block_syntax q.now))

pub planned_connection : (x : TextTree) → x ≡ tree.Connection → false ≡ is_planned (text_in x)
planned_connection x is = sym (ap (λ z. is_planned (text_in z)) is)

pub planned_standard : (x : TextTree) (which : StandardClass) → x ≡ tree.Standard which → true ≡ is_planned (text_in x)
planned_standard x which is = sym (ap (λ z. is_planned (text_in z)) is)

no_class_in : (z : syntax.Block) → classes_in (block_text z) ≡ 0
no_class_in (syntax.Begin token ds ss end) = refl

pub numbered_class : (x : TextTree) → 0 < classes_in (text_in x) → has_number x ≡ true
numbered_class (tree.Block p) le = let e = no_class_in (block_syntax p.now) in absurd (omega (arith, le, e))
numbered_class (tree.Procedure r p) le = absurd (omega (arith, le))
numbered_class (tree.Class r c p) le = refl
numbered_class (tree.ClassOfStatement r c) le = refl
numbered_class (tree.Prefixed p q) le = refl
numbered_class tree.Connection le = absurd (omega (arith, le))
numbered_class (tree.Standard which) le = refl

pub planned_solid : (x : Text) → is_planned x ≡ true → is_connection (Some x) ≡ false
planned_solid (BlockText begin ds ss) e = refl
planned_solid (ProcedureText result h a) e = refl
planned_solid (ClassText prefix h ds ss) e = refl
planned_solid (PrefixedText class arguments ds ss) e = refl
planned_solid (StandardText which) e = refl
planned_solid ConnectionText e = absurd (cc)

-- ---- the parts of what is planned

pub class_next : (last : ℕ) (x : TextTree) (n : ℕ) → n ≡ suc last → NextClass last x n
unfolding NextClass
class_next last x n e is = e

pub class_none : (last : ℕ) (x : TextTree) (c : Bool) → c ≡ has_number x → c ≡ false → NextClass last x 0
unfolding NextClass
class_none last x c e none is = let f : false ≡ true = sym none ∙ e ∙ is in absurd (cc)

pub front_nothing : (b : Bound) (plan : List PlannedOf) (nothing : PlannedOf) (k : ℕ) (r : Option ℕ) → r ≡ prefix_of b.scopes k → r ≡ None → IsFront b plan nothing k nothing
unfolding IsFront planned_front source_of
front_nothing b plan nothing k r er none is = is ∙ ap (planned_of (source_of b) plan) (sym none ∙ er)

pub front_there : (b : Bound) (plan : List PlannedOf) (nothing front : PlannedOf) (k u j : ℕ) (r : Option ℕ) → r ≡ prefix_of b.scopes k → r ≡ Some u → j ≡ block_number (source_of b) u → slice_get plan j ≡ Some front → IsFront b plan nothing k front
unfolding IsFront planned_front source_of
front_there b plan nothing front k u j r er some ej at is = sym (ap planned_or_none at) ∙ ap (planned_at plan) ej ∙ ap (planned_of (source_of b) plan) (sym some ∙ er)

pub front_past : (b : Bound) (plan : List PlannedOf) (nothing : PlannedOf) (k u j : ℕ) (r : Option ℕ) → r ≡ prefix_of b.scopes k → r ≡ Some u → j ≡ block_number (source_of b) u → length plan ≤ j → IsFront b plan nothing k nothing
unfolding IsFront planned_front source_of
front_past b plan nothing k u j r er some ej le is = is ∙ sym (ap planned_or_none (slice_get_past plan j le)) ∙ ap (planned_at plan) ej ∙ ap (planned_of (source_of b) plan) (sym some ∙ er)

pub types_are : (front own copied added padded : List CodeType) (size : ℕ) → copied ≡ front → added ≡ copied ++ own → Padded added padded size → AreTypesBehind padded front own
unfolding Padded AreTypesBehind
types_are front own copied added padded size ec ea pad = (pad.0.0, pad.0.1 ∙ ap (λ z. z ++ pad.0.0) (ea ∙ ap (λ z. z ++ own) ec) ∙ append_assoc front own pad.0.0)

pub behind_is : (front : PlannedOf) (front_class front_cells front_room class cells count room other : ℕ) (front_types own types : List CodeType) → ◌≡◌ {A = PlannedOf} (record { class = front_class; cells = front_cells; room = front_room; types = front_types }) front
    → cells ≡ front_cells + count → room ≡ max front_room other → AreTypesBehind types front_types own → PlannedBehind (record { class = class; cells = cells; room = room; types = types }) front count own class
behind_is front front_class front_cells front_room class cells count room other front_types own types is ec er f =
    subst (λ z. PlannedBehind (record { class = class; cells = cells; room = room; types = types }) z count own class) is (record {
      numbered = refl;
      cells = ec;
      room = (let left = le-max_left front_room other in omega (arith, er, left));
      types = f;
    })

-- ---- blocks of which nothing is planned

pub blank_first : AreBlank [] 0
unfolding AreBlank
blank_first = (refl, λ j. refl)

blank_more : (plan : List PlannedOf) (p : PlannedOf) → ((j : ℕ) → class_of plan j ≡ 0) → p.class ≡ 0 → (j : ℕ) → class_of (plan ++ (p ∷ [])) j ≡ 0
blank_more [] p f e zero = e
blank_more [] p f e (suc j) = refl
blank_more (x ∷ plan) p f e zero = f 0
blank_more (x ∷ plan) p f e (suc j) = blank_more plan p (λ k. f (suc k)) e j

pub blank_next : (plan longer : List PlannedOf) (n : ℕ) (p : PlannedOf) → AreBlank plan n → p ≡ planned_or_none None → longer ≡ plan ++ (p ∷ []) → AreBlank longer (n + 1)
unfolding AreBlank
blank_next plan longer n p f e el =
    let many = f.0 in
    let longer_by = ap length el ∙ length-append plan (p ∷ []) in
    let all : length longer ≡ n + 1 = omega (arith, many, longer_by) in
    (all, λ j. ap (λ z. class_of z j) el ∙ blank_more plan p f.1 (ap (λ z. z.class) e) j)

pub marks_first : NoMarks [] 0
unfolding NoMarks
marks_first = (refl, λ j. refl)

marks_more : (done : List Bool) → ((j : ℕ) → truth_or_false (slice_get done j) ≡ false) → (j : ℕ) → truth_or_false (slice_get (done ++ (false ∷ [])) j) ≡ false
marks_more [] f zero = refl
marks_more [] f (suc j) = refl
marks_more (x ∷ done) f zero = f 0
marks_more (x ∷ done) f (suc j) = marks_more done (λ k. f (suc k)) j

pub marks_next : (done longer : List Bool) (n : ℕ) → NoMarks done n → longer ≡ done ++ (false ∷ []) → NoMarks longer (n + 1)
unfolding NoMarks
marks_next done longer n f el =
    let many = f.0 in
    let longer_by = ap length el ∙ length-append done (false ∷ []) in
    let all : length longer ≡ n + 1 = omega (arith, many, longer_by) in
    (all, λ j. ap (λ z. truth_or_false (slice_get z j)) el ∙ marks_more done f.1 j)

pub ruleset planned = (end_found, class_in_front, class_of_none, own_found, own_block, own_procedure, own_class, own_statement, own_prefixed, own_connection, own_standard, planned_block, planned_procedure, planned_class, planned_statement, planned_prefixed, planned_connection, planned_standard, class_next, class_none, front_nothing, front_past, types_are, behind_is, blank_first, blank_next, marks_first, marks_next)
