-- What the frames of a text hold.
use Rattle.std.proofs.Common.{◌≡◌, ◌<◌, ◌≤◌, ◌+◌, ℕ, zero, suc, Bool, true, false, List, [], ◌∷◌, ◌++◌, drop, length, map, Option, Some, None, refl, sym, ap, ◌∙◌, subst, arith, append_assoc, append-nil}
use Rattle.std.specs.Prelude.{◌&&◌, ◌==◌, slice_get, take}
use Rattle.sim_base.specs.declared.numbering.DeclNo.{DeclNo}
use Rattle.sim_scope.specs.declared.bound.Bound.{Bound}
use Rattle.sim_values.specs.declared.standard.Standard.{Standard}
use Rattle.sim_scope.specs.declared.types.Entry.{Entry}
use Rattle.sim_scope.specs.declared.types.Entry.TheVariants as entry
use Rattle.sim_scope.specs.declared.types.Formal.{Formal}
use Rattle.sim_scope.specs.declared.types.FormalKind.{FormalKind}
use Rattle.sim_scope.specs.declared.types.FormalKind.TheVariants as shape
use Rattle.sim_scope.specs.declared.types.Mode.{Mode}
use Rattle.sim_scope.specs.declared.types.Mode.TheVariants as mode
use Rattle.sim_scope.specs.declared.types.SimType.{SimType}
use Rattle.sim_scope.specs.declared.types.SimType.TheVariants as t
use Rattle.sim_scope.specs.declared.types.WrittenMode.{WrittenMode}
use Rattle.sim_scope.specs.Scopes.{entry_of, formal_in}
use Rattle.sim_scope.specs.Source.{Source, source_of}
use Rattle.sim_scope.specs.Tables.{BlockOf as TableBlock}
use Rattle.sim_tree.specs.declared.stmt.TypeName.{TypeName}
use Rattle.sim_tree.specs.declared.stmt.TypeName.TheVariants as type_name
use Rattle.sim_values.specs.Plain.{initial}
use Rattle.sim_code.specs.declared.code.CodeFormal.{CodeFormal}
use Rattle.sim_code.specs.declared.code.CodeMode.{CodeMode}
use Rattle.sim_code.specs.declared.code.CodeType.{CodeType}
use Rattle.sim_code.specs.declared.code.FormalShape.{FormalShape}
use Rattle.sim_code.specs.declared.code.CodeType.TheVariants as type
use Rattle.sim_code.specs.declared.code.BlockKind.{BlockKind}
use Rattle.sim_code.specs.declared.code.BlockKind.TheVariants as kind
use Rattle.sim_meaning.specs.Closing.{class_parameters, formals_from as formals_closed, formal_before as formal_before_closed}
use Rattle.sim_meaning.specs.Entries.{cells_from, formal_before, formals_from, formals_of, numbers_of, of_formal, with_cell, with_result}
use Rattle.sim_meaning.specs.Levels.{is_process_itself, qualification}
use Rattle.sim_meaning.specs.Pending.{Held}
use Rattle.sim_meaning.specs.Texts.{kind_named, kind_of_type}
use Rattle.codegen_expr.specs.Drafts.{DraftOf}
use Rattle.codegen_expr.specs.Emit.{formals_of_block}
use Rattle.codegen_expr.specs.Known.{is_hidden}
use Rattle.codegen_expr.specs.Sites.{connects, frame_text, hidden_before, hidden_from, hidden_in, is_connected, is_connection, origin_in}
use Rattle.codegen_expr.specs.Thunks.{ClassOrNone}
use Rattle.codegen_expr.specs.CodeExpr.{class_or_none, type_of}
use Rattle.codegen.specs.Compiled.{code_formal, code_mode, code_shape, type_of_cell, type_of_name, type_of_plain, type_of_value}
use Rattle.codegen.specs.EmitProgram.{CellTypes, FormalGiven, FormalsGiven, HidesCells, HidesConnections, OwesCells, OwesFormals, OwesHidden, PushesCell, PushesCells, PushesResult, formals_by_kind, type_of_formal, type_of_simple, with_hidden}

of_type : (x : SimType) → type_of (Some x) ≡ type_of_plain (initial (kind_of_type x))
of_type t.Integer = refl
of_type t.Boolean = refl
of_type t.Character = refl
of_type t.Text = refl
of_type (t.Ref class) = refl
of_type t.NoneType = refl

of_name : (x : TypeName) → type_of_name (Some x) ≡ type_of_plain (initial (kind_named x))
of_name (type_name.Integer i) = refl
of_name (type_name.Boolean i) = refl
of_name (type_name.Character i) = refl
of_name (type_name.Text i) = refl
of_name (type_name.Reference i class) = refl

pub push_variable : (old new : List CodeType) (o : Option Entry) (x : SimType) (k : CodeType) → o ≡ Some (entry.Variable x) → k ≡ type_of (Some x) → new ≡ old ++ (k ∷ []) → PushesCell old new o
unfolding PushesCell
push_variable old new o x k is ek en d = en ∙ ap (λ z. old ++ (z ∷ [])) (ek ∙ of_type x) ∙ ap (λ z. old ++ map type_of_cell (with_cell d z [])) (sym is)

pub push_constant : (old new : List CodeType) (o : Option Entry) (x : SimType) → o ≡ Some (entry.Constant x) → new ≡ old ++ (type.Nothing ∷ []) → PushesCell old new o
unfolding PushesCell
push_constant old new o x is en d = en ∙ ap (λ z. old ++ map type_of_cell (with_cell d z [])) (sym is)

pub push_array : (old new : List CodeType) (o : Option Entry) (x : SimType) (n : ℕ) → o ≡ Some (entry.Array x n) → new ≡ old ++ (type.Nothing ∷ []) → PushesCell old new o
unfolding PushesCell
push_array old new o x n is en d = en ∙ ap (λ z. old ++ map type_of_cell (with_cell d z [])) (sym is)

-- formal parameters
simple_is : (o : Option SimType) → type_of o ≡ type_of_value (of_formal mode.ByValue shape.Simple o)
simple_is None = refl
simple_is (Some x) = of_type x

formal_is : (m : Mode) (k : FormalKind) (o : Option SimType) → type_of_formal m k o ≡ type_of_value (of_formal m k o)
formal_is mode.ByName shape.Simple o = refl
formal_is mode.ByName shape.Array o = refl
formal_is mode.ByName shape.Procedure o = refl
formal_is mode.ByValue shape.Simple o = simple_is o
formal_is mode.ByValue shape.Array o = refl
formal_is mode.ByValue shape.Procedure o = refl
formal_is mode.ByReference shape.Simple None = refl
formal_is mode.ByReference shape.Simple (Some x) = of_type x
formal_is mode.ByReference shape.Array o = refl
formal_is mode.ByReference shape.Procedure o = refl

pub push_formal : (old new : List CodeType) (o : Option Entry) (x : Formal) (k : CodeType) → o ≡ Some (entry.Formal x) → k ≡ type_of_formal x.mode x.kind x.ty → new ≡ old ++ (k ∷ []) → PushesCell old new o
unfolding PushesCell
push_formal old new o x k is ek en d = en ∙ ap (λ z. old ++ (z ∷ [])) (ek ∙ formal_is x.mode x.kind x.ty) ∙ ap (λ z. old ++ map type_of_cell (with_cell d z [])) (sym is)

pub cell_by_name : (f : Formal) → f.mode ≡ mode.ByName → type.Nothing ≡ type_of_formal f.mode f.kind f.ty
cell_by_name f is = ap (λ z. type_of_formal z f.kind f.ty) (sym is)

pub cell_by_value : (f : Formal) (r : CodeType) → f.mode ≡ mode.ByValue → r ≡ type_of_simple f.kind f.ty → r ≡ type_of_formal f.mode f.kind f.ty
cell_by_value f r is er = er ∙ ap (λ z. type_of_formal z f.kind f.ty) (sym is)

pub cell_by_reference : (f : Formal) (r : CodeType) → f.mode ≡ mode.ByReference → r ≡ type_of_simple f.kind f.ty → r ≡ type_of_formal f.mode f.kind f.ty
cell_by_reference f r is er = er ∙ ap (λ z. type_of_formal z f.kind f.ty) (sym is)

pub cell_simple : (f : Formal) (r : CodeType) → f.kind ≡ shape.Simple → r ≡ type_of f.ty → r ≡ type_of_simple f.kind f.ty
cell_simple f r is er = er ∙ ap (λ z. type_of_simple z f.ty) (sym is)

pub cell_of_array : (f : Formal) → f.kind ≡ shape.Array → type.Nothing ≡ type_of_simple f.kind f.ty
cell_of_array f is = ap (λ z. type_of_simple z f.ty) (sym is)

pub cell_of_procedure : (f : Formal) → f.kind ≡ shape.Procedure → type.Nothing ≡ type_of_simple f.kind f.ty
cell_of_procedure f is = ap (λ z. type_of_simple z f.ty) (sym is)

pub ruleset formal_cells = (cell_by_name, cell_by_value, cell_by_reference, cell_simple, cell_of_array, cell_of_procedure)

pub push_procedure : (old : List CodeType) (o : Option Entry) (x : Option SimType) (n : ℕ) → o ≡ Some (entry.Procedure x n) → PushesCell old old o
unfolding PushesCell
push_procedure old o x n is d = sym (append-nil old) ∙ ap (λ z. old ++ map type_of_cell (with_cell d z [])) (sym is)

pub push_class : (old : List CodeType) (o : Option Entry) (n : ℕ) → o ≡ Some (entry.Class n) → PushesCell old old o
unfolding PushesCell
push_class old o n is d = sym (append-nil old) ∙ ap (λ z. old ++ map type_of_cell (with_cell d z [])) (sym is)

pub push_virtual : (old : List CodeType) (o : Option Entry) (x : Option SimType) (n : Option DeclNo) → o ≡ Some (entry.Virtual x n) → PushesCell old old o
unfolding PushesCell
push_virtual old o x n is d = sym (append-nil old) ∙ ap (λ z. old ++ map type_of_cell (with_cell d z [])) (sym is)

pub push_unspecified : (old : List CodeType) (o : Option Entry) (x : Option WrittenMode) → o ≡ Some (entry.Unspecified x) → PushesCell old old o
unfolding PushesCell
push_unspecified old o x is d = sym (append-nil old) ∙ ap (λ z. old ++ map type_of_cell (with_cell d z [])) (sym is)

pub push_attribute : (old : List CodeType) (o : Option Entry) (n : Standard) (x y : Option SimType) → o ≡ Some (entry.Attribute n x y) → PushesCell old old o
unfolding PushesCell
push_attribute old o n x y is d = sym (append-nil old) ∙ ap (λ z. old ++ map type_of_cell (with_cell d z [])) (sym is)

pub push_nothing : (old : List CodeType) (o : Option Entry) → o ≡ None → PushesCell old old o
unfolding PushesCell
push_nothing old o is d = sym (append-nil old) ∙ ap (λ z. old ++ map type_of_cell (with_cell d z [])) (sym is)

pub push_no_result : (old : List CodeType) (o : Option TypeName) → o ≡ None → PushesResult old old o
unfolding PushesResult
push_no_result old o is = sym (append-nil old) ∙ ap (λ z. old ++ map type_of_cell (with_result z [])) (sym is)

pub push_some_result : (old new : List CodeType) (o : Option TypeName) (x : TypeName) (k : CodeType) → o ≡ Some x → k ≡ type_of_name o → new ≡ old ++ (k ∷ []) → PushesResult old new o
unfolding PushesResult
push_some_result old new o x k is ek en = en ∙ ap (λ z. old ++ (z ∷ [])) (ek ∙ ap type_of_name is ∙ of_name x) ∙ ap (λ z. old ++ map type_of_cell (with_result z [])) (sym is)

-- ---- the cells of a text, one after the other

result_first : (o : Option TypeName) (hs : List Held) → map type_of_cell (with_result o hs) ≡ map type_of_cell (with_result o []) ++ map type_of_cell hs
result_first None hs = refl
result_first (Some x) hs = refl

cell_first : (d : DeclNo) (o : Option Entry) (hs : List Held) → map type_of_cell (with_cell d o hs) ≡ map type_of_cell (with_cell d o []) ++ map type_of_cell hs
cell_first d None hs = refl
cell_first d (Some (entry.Variable x)) hs = refl
cell_first d (Some (entry.Constant x)) hs = refl
cell_first d (Some (entry.Array x n)) hs = refl
cell_first d (Some (entry.Formal x)) hs = refl
cell_first d (Some (entry.Procedure x n)) hs = refl
cell_first d (Some (entry.Class n)) hs = refl
cell_first d (Some (entry.Virtual x n)) hs = refl
cell_first d (Some (entry.Unspecified x)) hs = refl
cell_first d (Some (entry.Attribute name parameter result)) hs = refl

pub cells_all : (b : Bound) (types : List CodeType) (ds : List DeclNo) → OwesCells b types ds types ds
unfolding OwesCells
cells_all b types ds = refl

pub cells_next : (b : Bound) (old : List CodeType) (ds r r' : List DeclNo) (types types' : List CodeType) (d : DeclNo) (x : Option Entry) → OwesCells b old ds types r → r ≡ d ∷ r' → x ≡ entry_of b.scopes d → PushesCell types types' x → OwesCells b old ds types' r'
unfolding PushesCell OwesCells source_of
cells_next b old ds r r' types types' d x f is ex g =
    let s = source_of b in
    ap (λ z. z ++ map type_of_cell (cells_from s r')) (g d) ∙ append_assoc types (map type_of_cell (with_cell d x [])) (map type_of_cell (cells_from s r')) ∙ ap (λ z. types ++ z) (sym (cell_first d x (cells_from s r')) ∙ ap (λ z. map type_of_cell (with_cell d z (cells_from s r'))) ex) ∙ ap (λ z. types ++ map type_of_cell (cells_from s z)) (sym is) ∙ f

pub cells_none : (b : Bound) (old : List CodeType) (ds r : List DeclNo) (types : List CodeType) → OwesCells b old ds types r → r ≡ [] → PushesCells b old types ds
unfolding OwesCells PushesCells
cells_none b old ds r types f is = sym (append-nil types) ∙ ap (λ z. types ++ map type_of_cell (cells_from (source_of b) z)) (sym is) ∙ f

pub cells_found : (b : Bound) (k : ℕ) (o : Option TypeName) (start types types' : List CodeType) (ds : List DeclNo) → start ≡ [] → PushesResult start types o → ds ≡ numbers_of (source_of b) k → PushesCells b types types' ds → CellTypes b k o types'
unfolding PushesResult PushesCells CellTypes
cells_found b k o start types types' ds e f ed g =
    g ∙ ap (λ z. z ++ map type_of_cell (cells_from (source_of b) ds)) (f ∙ ap (λ z. z ++ map type_of_cell (with_result o [])) e) ∙ ap (λ z. map type_of_cell (with_result o []) ++ map type_of_cell (cells_from (source_of b) z)) ed ∙ sym (result_first o (cells_from (source_of b) (numbers_of (source_of b) k)))

-- ---- formals

pub mapped_next : {A B : Type 0} (f : A → B) (ys ys' : List B) (xs r r' : List A) (x : A) (y : B) → ys ++ map f r ≡ map f xs → r ≡ x ∷ r' → y ≡ f x → ys' ≡ ys ++ (y ∷ []) → ys' ++ map f r' ≡ map f xs
mapped_next f ys ys' xs r r' x y inv is ey ee =
    ap (λ z. z ++ map f r') ee ∙ append_assoc ys (y ∷ []) (map f r') ∙ ap (λ z. ys ++ (z ∷ map f r')) ey ∙ ap (λ z. ys ++ map f z) (sym is) ∙ inv

same_before : (o : Option Entry) (fs : List Formal) → formal_before_closed (formal_in o) fs ≡ formal_before o fs
same_before None fs = refl
same_before (Some (entry.Variable x)) fs = refl
same_before (Some (entry.Constant x)) fs = refl
same_before (Some (entry.Array x n)) fs = refl
same_before (Some (entry.Formal x)) fs = refl
same_before (Some (entry.Procedure x n)) fs = refl
same_before (Some (entry.Class n)) fs = refl
same_before (Some (entry.Virtual x n)) fs = refl
same_before (Some (entry.Unspecified x)) fs = refl
same_before (Some (entry.Attribute name parameter result)) fs = refl

pub same_formals : (s : Source) (ds : List DeclNo) → formals_closed s ds ≡ formals_from s ds
same_formals s [] = refl
same_formals s (d ∷ ds) = ap (λ z. formal_before_closed (formal_in (entry_of s.tables d)) z) (same_formals s ds) ∙ same_before (entry_of s.tables d) (formals_from s ds)

pub formals_same : (s : Source) (k : ℕ) → formals_of_block s k ≡ formals_of s k
formals_same s k = cases (slice_get s.tables.blocks k) refl
  where
    cases : (o : Option TableBlock) → slice_get s.tables.blocks k ≡ o → formals_of_block s k ≡ formals_of s k
    cases None e = rw e refl
    cases (Some x) e = rw e (same_formals s (take x.formals x.numbers))

-- ---- parameters of classes

pub formals_of_class : (s : Source) (a : BlockKind) (k : ℕ) (fs : List Formal) → a ≡ kind.Object → fs ≡ class_parameters s (Some k) → fs ≡ formals_by_kind s a k
formals_of_class s a k fs is e = e ∙ ap (λ z. formals_by_kind s z k) (sym is)

pub formals_of_prefixed : (s : Source) (a : BlockKind) (k : ℕ) (fs : List Formal) → a ≡ kind.Prefixed → fs ≡ class_parameters s (Some k) → fs ≡ formals_by_kind s a k
formals_of_prefixed s a k fs is e = e ∙ ap (λ z. formals_by_kind s z k) (sym is)

pub formals_of_sub_block : (s : Source) (a : BlockKind) (k : ℕ) (fs : List Formal) → a ≡ kind.SubBlock → fs ≡ formals_of_block s k → fs ≡ formals_by_kind s a k
formals_of_sub_block s a k fs is e = e ∙ formals_same s k ∙ ap (λ z. formals_by_kind s z k) (sym is)

pub formals_of_procedure : (s : Source) (a : BlockKind) (k : ℕ) (fs : List Formal) → a ≡ kind.Procedure → fs ≡ formals_of_block s k → fs ≡ formals_by_kind s a k
formals_of_procedure s a k fs is e = e ∙ formals_same s k ∙ ap (λ z. formals_by_kind s z k) (sym is)

-- ---- hidden cells

drop_at : {A : Type 0} (xs : List A) (k : ℕ) → k < length xs → (x : A) × (slice_get xs k ≡ Some x) × (drop k xs ≡ x ∷ drop (suc k) xs)
drop_at [] k le = absurd (omega (arith, le))
drop_at (x ∷ xs) zero le = (x, refl, refl)
drop_at (x ∷ xs) (suc k) le = drop_at xs k (omega (arith, le))

drop_behind : {A : Type 0} (xs : List A) (k : ℕ) → length xs ≤ k → drop k xs ≡ []
drop_behind [] zero le = refl
drop_behind [] (suc k) le = refl
drop_behind (x ∷ xs) zero le = absurd (omega (arith, le))
drop_behind (x ∷ xs) (suc k) le = drop_behind xs k (omega (arith, le))

pub hidden_all : (b : Bound) (old : List CodeType) (k : ℕ) → OwesHidden b old k old 0
unfolding OwesHidden hidden_in source_of
hidden_all b old k = refl

hidden_from_next : (b : Bound) (k i : ℕ) (r : Bool) → i < length b.scopes.blocks → r ≡ is_hidden (source_of b) k i → (x : TableBlock) × (hidden_from (source_of b) k i (drop i b.scopes.blocks) ≡ hidden_before r x (hidden_from (source_of b) k (suc i) (drop (suc i) b.scopes.blocks)))
unfolding is_connected source_of
hidden_from_next b k i r le e =
    let s = source_of b in
    let row = drop_at b.scopes.blocks i le in
    let flag : (is_connection row.0.kind && frame_text s i == k) ≡ r = sym (ap (λ z. connects z && frame_text s i == k) row.1) ∙ sym e in
    (row.0, ap (hidden_from s k i) row.2 ∙ ap (λ z. hidden_before z row.0 (hidden_from s k (suc i) (drop (suc i) b.scopes.blocks))) flag)

hidden_more : (b : Bound) (old now new : List CodeType) (k i : ℕ) (r : Bool) → OwesHidden b old k now i → i < length b.scopes.blocks → r ≡ is_hidden (source_of b) k i → r ≡ true → new ≡ now ++ (type.Nothing ∷ []) → OwesHidden b old k new (i + 1)
unfolding OwesHidden
hidden_more b old now new k i r f le e one en =
    let s = source_of b in
    let next = hidden_from_next b k i r le e in
    let more : i + 1 ≡ suc i = omega arith in
    subst (λ z. new ++ map type_of_cell (hidden_from s k z (drop z b.scopes.blocks)) ≡ old ++ map type_of_cell (hidden_in s k)) (sym more)
    (ap (λ z. z ++ map type_of_cell (hidden_from s k (suc i) (drop (suc i) b.scopes.blocks))) en ∙ append_assoc now (type.Nothing ∷ []) (map type_of_cell (hidden_from s k (suc i) (drop (suc i) b.scopes.blocks)))
    ∙ sym (ap (λ z. now ++ map type_of_cell z) (next.1 ∙ ap (λ z. hidden_before z next.0 (hidden_from s k (suc i) (drop (suc i) b.scopes.blocks))) one)) ∙ f)

hidden_other : (b : Bound) (old now : List CodeType) (k i : ℕ) (r : Bool) → OwesHidden b old k now i → i < length b.scopes.blocks → r ≡ is_hidden (source_of b) k i → r ≡ false → OwesHidden b old k now (i + 1)
unfolding OwesHidden
hidden_other b old now k i r f le e none =
    let s = source_of b in
    let next = hidden_from_next b k i r le e in
    let more : i + 1 ≡ suc i = omega arith in
    subst (λ z. now ++ map type_of_cell (hidden_from s k z (drop z b.scopes.blocks)) ≡ old ++ map type_of_cell (hidden_in s k)) (sym more)
    (sym (ap (λ z. now ++ map type_of_cell z) (next.1 ∙ ap (λ z. hidden_before z next.0 (hidden_from s k (suc i) (drop (suc i) b.scopes.blocks))) none)) ∙ f)

pub hidden_one : (old new : List CodeType) (r o : Bool) → r ≡ o → r ≡ true → new ≡ old ++ (type.Nothing ∷ []) → new ≡ with_hidden o old
hidden_one old new r o e one en = en ∙ ap (λ z. with_hidden z old) (sym one ∙ e)

pub hidden_none : (old : List CodeType) (r o : Bool) → r ≡ o → r ≡ false → old ≡ with_hidden o old
hidden_none old r o e none = ap (λ z. with_hidden z old) (sym none ∙ e)

pub ruleset hides = (hidden_one, hidden_none)

pub hidden_next : (b : Bound) (old now new : List CodeType) (k i n count : ℕ) → OwesHidden b old k now i → count ≡ length b.scopes.blocks → i < count → n ≡ i → new ≡ with_hidden (is_hidden (source_of b) k n) now → OwesHidden b old k new (i + 1)
hidden_next b old now new k i n count f ec le en e = cases (is_hidden (source_of b) k i) refl
  where
    at : new ≡ with_hidden (is_hidden (source_of b) k i) now
    at = e ∙ ap (λ z. with_hidden (is_hidden (source_of b) k z) now) en

    inside : i < length b.scopes.blocks
    inside = omega (arith, ec, le)

    cases : (r : Bool) → is_hidden (source_of b) k i ≡ r → OwesHidden b old k new (i + 1)
    cases true h = hidden_more b old now new k i true f inside (sym h) refl (at ∙ ap (λ z. with_hidden z now) h)
    cases false h = subst (λ z. OwesHidden b old k z (i + 1)) (sym (at ∙ ap (λ z. with_hidden z now) h)) (hidden_other b old now k i false f inside (sym h) refl)

pub hidden_last : (b : Bound) (old now : List CodeType) (k i : ℕ) → OwesHidden b old k now i → length b.scopes.blocks ≤ i → HidesConnections b old now k
unfolding OwesHidden HidesConnections
hidden_last b old now k i f le = sym (ap (λ z. now ++ map type_of_cell (hidden_from (source_of b) k i z)) (drop_behind b.scopes.blocks i le)) ∙ f

-- the cell of an origin
pub hidden_origin : (b : Bound) (old now new : List CodeType) (k : ℕ) (r : Bool) → HidesConnections b old now k → r ≡ is_process_itself (source_of b) k → r ≡ true → new ≡ now ++ (type.Integer ∷ []) → HidesCells b old new k
unfolding HidesConnections HidesCells
hidden_origin b old now new k r f er is en = en ∙ ap (λ z. now ++ map type_of_cell (origin_in z)) (sym is ∙ er) ∙ f

pub hidden_no_origin : (b : Bound) (old now : List CodeType) (k : ℕ) (r : Bool) → HidesConnections b old now k → r ≡ is_process_itself (source_of b) k → r ≡ false → HidesCells b old now k
unfolding HidesConnections HidesCells
hidden_no_origin b old now k r f er is = sym (append-nil now) ∙ ap (λ z. now ++ map type_of_cell (origin_in z)) (sym is ∙ er) ∙ f

pub ruleset origins = (hidden_origin, hidden_no_origin)

-- ---- formals in each code that a draft may become

pub formal_given : (b : Bound) (c : DraftOf) (f : Formal) (class : Option ℕ) (cls : ℕ) (m : CodeMode) (h : FormalShape) (ty : CodeType) → class ≡ qualification (source_of b) f.ty → ClassOrNone b c class cls → m ≡ code_mode f.mode → h ≡ code_shape f.kind → ty ≡ type_of f.ty
    → FormalGiven b c f (record { mode = m; shape = h; code_type = ty; class = cls })
unfolding FormalGiven ClassOrNone
formal_given b c f class cls m h ty ec g em eh et final known =
    let s = source_of b in
    let number : cls ≡ class_or_none s final (qualification s f.ty) = g final known ∙ ap (class_or_none s final) ec in
    ap (λ z. record { mode = z; shape = h; code_type = ty; class = cls }) em
    ∙ ap (λ z. record { mode = code_mode f.mode; shape = z; code_type = ty; class = cls }) eh
    ∙ ap (λ z. record { mode = code_mode f.mode; shape = code_shape f.kind; code_type = z; class = cls }) et
    ∙ ap (λ z. record { mode = code_mode f.mode; shape = code_shape f.kind; code_type = type_of f.ty; class = z }) number

pub given_next : (b : Bound) (c : DraftOf) (ys ys' : List CodeFormal) (xs r r' : List Formal) (x : Formal) (y : CodeFormal) → OwesFormals b c xs ys r → r ≡ x ∷ r' → FormalGiven b c x y → ys' ≡ ys ++ (y ∷ []) → OwesFormals b c xs ys' r'
unfolding OwesFormals FormalGiven
given_next b c ys ys' xs r r' x y f is g ee final known = mapped_next (code_formal (source_of b) final) ys ys' xs r r' x y (f final known) is (g final known) ee

pub given_none : (b : Bound) (c : DraftOf) (ys : List CodeFormal) (xs r : List Formal) → OwesFormals b c xs ys r → r ≡ [] → FormalsGiven b c xs ys
unfolding OwesFormals FormalsGiven
given_none b c ys xs r f is final known = sym (append-nil ys) ∙ ap (λ z. ys ++ map (code_formal (source_of b) final) z) (sym is) ∙ f final known

pub given_all : (b : Bound) (c : DraftOf) (xs : List Formal) → OwesFormals b c xs [] xs
unfolding OwesFormals
given_all b c xs final known = refl

pub ruleset formals = (formal_given, formals_of_class, formals_of_prefixed, formals_of_sub_block, formals_of_procedure)

pub ruleset heads = (push_variable, push_constant, push_array, push_formal, push_procedure, push_class, push_virtual, push_unspecified, push_attribute, push_nothing, push_no_result, push_some_result, cells_found)
