-- The tables are those of the program.
use Rattle.std.proofs.Common.{◌≡◌, ◌≤◌, ◌+◌, ℕ, zero, suc, List, [], ◌∷◌, ◌++◌, length, map, Option, Some, None, refl, sym, ap, ◌∙◌, subst, arith}
use Rattle.std.specs.Prelude.{replicate, slice_get, option_map}
use Rattle.std.specs.declared.alloc.Global.{Global}
use Rattle.std.specs.declared.vec.Vec.{Vec}
use Rattle.sim_scope.specs.declared.bound.Bound.{Bound}
use Rattle.sim_scope.specs.declared.scopes.Declaration.{Declaration as Row}
use Rattle.sim_scope.specs.declared.types.Formal.{Formal}
use Rattle.sim_scope.specs.Levels.{base, base_in}
use Rattle.sim_scope.specs.Scopes.{class_formals, formals_at, formals_beyond, formals_in}
use Rattle.sim_scope.specs.Scopes.{class_formals_of as scope_formals_of}
use Rattle.sim_scope.specs.Source.{source_of}
use Rattle.sim_scope.specs.Tables.{BlockOf}
use Rattle.sim_meaning.specs.Closing.{class_parameters, formals_from}
use Rattle.codegen_expr.specs.declared.cells.Cells.{Cells}
use Rattle.codegen_expr.specs.Sites.{block_number, blocks_before}
use Rattle.codegen_expr.specs.Known.{Known, formals_or_none, number_or}
use Rattle.program_texts.specs.declared.tree.TextTree.{TextTree}
use Rattle.program_texts.specs.TextTrees.{AreTexts}
use Rattle.text_tables.specs.Constants.{ConstantsOf}
use Rattle.text_tables.specs.Making.{ClassFormals, FilledTo, Formals, Numbers, PlacedTo, formals_of, is_class_tree, is_connection_tree, is_process_tree, is_result, items_of, number_behind}
use Rattle.text_tables.specs.TokenTable.{AreNumbered}
use Rattle.text_tables.proofs.Gathering.{constants_known}
use Rattle.text_tables.proofs.Numbering.{number_at}
use Rattle.text_tables.proofs.Passing.{get_map}
use Rattle.text_tables.proofs.Placing.{classes_known, connections_known, counts_known, get_past, processes_known, results_known, slots_known}

numbers_known : (b : Bound) (numbers : List ℕ) (count : ℕ) → Numbers b.scopes.blocks numbers count → (k : ℕ) → number_or count (slice_get numbers k) ≡ block_number (source_of b) k
unfolding block_number source_of
numbers_known b numbers count f k =
    ap (λ z. number_or z (slice_get numbers k)) f.behind ∙ ap (λ z. number_or (number_behind 0 b.scopes.blocks) (slice_get z k)) f.all ∙ number_at 0 b.scopes.blocks k
    ∙ (let e : 0 + blocks_before k b.scopes.blocks ≡ blocks_before k b.scopes.blocks = omega arith in e)

formals_known : (b : Bound) (table : List (Vec Formal Global)) → Formals (source_of b) b.scopes.blocks table → (k : ℕ) → formals_or_none (slice_get table k) ≡ formals_from (source_of b) (formals_in (slice_get (source_of b).tables.blocks k))
unfolding Formals source_of
formals_known b table f k =
    item (slice_get table k) ∙ ap or_empty (sym (get_map items_of table k)) ∙ ap (λ z. or_empty (slice_get z k)) f ∙ ap or_empty (get_map (formals_of (source_of b)) b.scopes.blocks k) ∙ block (slice_get b.scopes.blocks k)
  where
    or_empty : Option (List Formal) → List Formal
    or_empty None = []
    or_empty (Some fs) = fs

    item : (o : Option (Vec Formal Global)) → formals_or_none o ≡ or_empty (option_map items_of o)
    item None = refl
    item (Some v) = refl

    block : (o : Option BlockOf) → or_empty (option_map (formals_of (source_of b)) o) ≡ formals_from (source_of b) (formals_in o)
    block None = refl
    block (Some x) = refl

-- beyond the blocks there is no class, which has no formal parameters
beyond : (b : Bound) (k : ℕ) → slice_get b.scopes.blocks k ≡ None → [] ≡ class_parameters (source_of b) (Some k)
unfolding class_formals scope_formals_of base source_of
beyond b k none = sym (ap (formals_from (source_of b)) (cases (length b.scopes.blocks)))
  where
    own : formals_at b.scopes (Some k) ≡ []
    own = ap formals_in none

    cases : (n : ℕ) → scope_formals_of b.scopes n k ≡ []
    cases zero = refl
    cases (suc n) = ap (λ z. formals_beyond (λ j. scope_formals_of b.scopes n j) (base_in z) ++ formals_at b.scopes (Some k)) none ∙ own

past : {A : Type 0} (xs : List A) (j : ℕ) → slice_get xs j ≡ None → length xs ≤ j
past [] j h = omega arith
past (x ∷ xs) zero h = absurd (cc)
past (x ∷ xs) (suc j) h = let le = past xs j h in omega (arith, le)

class_formals_known : (b : Bound) (table : List (Vec Formal Global)) → ClassFormals (source_of b) table (length b.scopes.blocks) → (k : ℕ) → formals_or_none (slice_get table k) ≡ class_parameters (source_of b) (Some k)
unfolding ClassFormals
class_formals_known b table f k = cases (slice_get table k) refl
  where
    cases : (o : Option (Vec Formal Global)) → slice_get table k ≡ o → formals_or_none o ≡ class_parameters (source_of b) (Some k)
    cases (Some v) is = f.1 k v is
    cases None is = beyond b k (get_past b.scopes.blocks k (let le = past table k is in let many = f.0 in omega (arith, le, many)))

pub known : (b : Bound) (w : Cells) (ts : List TextTree) (free : List (Option ℕ)) (n : ℕ) (rows : List Row) (blocks : List BlockOf) → AreTexts b.program ts → w.results.items ≡ map is_result ts → n ≡ length rows → rows ≡ b.scopes.declarations → free ≡ replicate n None → PlacedTo b ts free w.slots.items w.counts.items (length ts)
    → ConstantsOf ts rows w.constants.items → blocks ≡ b.scopes.blocks → Numbers blocks w.numbers.items w.block_count → Formals (source_of b) blocks w.formals.items → AreNumbered b w.texts.items → w.classes.items ≡ map is_class_tree ts → w.connections.items ≡ map is_connection_tree ts → w.processes.items ≡ map is_process_tree ts → ClassFormals (source_of b) w.class_formals.items (length b.scopes.blocks) → Known b w
unfolding Known PlacedTo AreNumbered
known b w ts free n rows blocks are er en erows ef placed constants eb numbers formals texts classes connections processes parameters =
    let there : FilledTo (source_of b) w.slots.items w.counts.items (length ts) = placed are (ef ∙ ap (λ z. replicate z None) (en ∙ ap length erows)) in
    let numbers' = subst (λ z. Numbers z w.numbers.items w.block_count) eb numbers in
    let formals' = subst (λ z. Formals (source_of b) z w.formals.items) eb formals in
    let constants' = subst (λ z. ConstantsOf ts z w.constants.items) erows constants in
    record {
      slots = slots_known b ts w.slots.items w.counts.items are there;
      constants = constants_known b ts w.constants.items are constants';
      texts = texts;
      results = results_known b ts w.results.items are er;
      classes = classes_known b ts w.classes.items are classes;
      connections = connections_known b ts w.connections.items are connections;
      processes = processes_known b ts w.processes.items are processes;
      counts = counts_known b ts w.slots.items w.counts.items are there;
      numbers = numbers_known b w.numbers.items w.block_count numbers';
      formals = formals_known b w.formals.items formals';
      class_formals = class_formals_known b w.class_formals.items parameters;
    }

-- the same, each table made of a view of the texts
pub known_from : (b : Bound) (w : Cells) (ts t1 t2 t3 t4 t5 t6 : List TextTree) (free : List (Option ℕ)) (rows1 rows2 : List Row) (blocks1 blocks2 : List BlockOf) → AreTexts b.program ts → t1 ≡ ts → w.results.items ≡ map is_result t1 → rows1 ≡ b.scopes.declarations → free ≡ replicate (length rows1) None → t2 ≡ ts → PlacedTo b t2 free w.slots.items w.counts.items (length t2)
    → t3 ≡ ts → rows2 ≡ b.scopes.declarations → ConstantsOf t3 rows2 w.constants.items → blocks1 ≡ b.scopes.blocks → Numbers blocks1 w.numbers.items w.block_count → blocks2 ≡ b.scopes.blocks → Formals (source_of b) blocks2 w.formals.items → AreNumbered b w.texts.items
    → t4 ≡ ts → w.classes.items ≡ map is_class_tree t4 → t5 ≡ ts → w.connections.items ≡ map is_connection_tree t5 → t6 ≡ ts → w.processes.items ≡ map is_process_tree t6 → ClassFormals (source_of b) w.class_formals.items (length b.scopes.blocks) → Known b w
known_from b w ts t1 t2 t3 t4 t5 t6 free rows1 rows2 blocks1 blocks2 are e1 er ed ef e2 placed e3 ed2 constants eb numbers eb2 formals texts e4 classes e5 connections e6 processes parameters =
    known b w ts free (length rows1) rows1 blocks1 are (er ∙ ap (map is_result) e1) refl ed ef (subst (λ z. PlacedTo b z free w.slots.items w.counts.items (length z)) e2 placed)
    (subst (λ z. ConstantsOf ts z w.constants.items) (ed2 ∙ sym ed) (subst (λ z. ConstantsOf z rows2 w.constants.items) e3 constants)) eb numbers (subst (λ z. Formals (source_of b) z w.formals.items) (eb2 ∙ sym eb) formals) texts
    (classes ∙ ap (map is_class_tree) e4) (connections ∙ ap (map is_connection_tree) e5) (processes ∙ ap (map is_process_tree) e6) parameters
