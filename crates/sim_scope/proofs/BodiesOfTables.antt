-- The blocks of the tables of a program are its bodies.
use Rattle.std.proofs.Common.{◌≡◌, ◌+◌, ℕ, zero, suc, Bool, true, false, List, [], ◌∷◌, ◌++◌, length, map, Option, Some, None, refl, sym, ap, ◌∙◌, subst, arith, if◌then◌else◌, append-nil, append_assoc, length-append}
use Rattle.std.specs.Prelude.{option_map, slice_get, slice_set}
use Rattle.std.specs.List.{list_any}
use Rattle.std.specs.Str.{bytes_eq}
use Rattle.std.proofs.lemmas.List.{length-map, map-append}
use Rattle.std.proofs.lemmas.Option.{slice_get-map}
use Rattle.sim_base.specs.declared.numbering.DeclNo.{DeclNo}
use Rattle.sim_base.specs.declared.rule.Rule.{Rule}
use Rattle.sim_base.specs.declared.rule.Rule.TheVariants as r
use Rattle.sim_tree.specs.declared.expr.Identifier.{Identifier}
use Rattle.sim_tree.specs.declared.stmt.Mode.{Mode as Word}
use Rattle.sim_tree.specs.declared.stmt.TypeName.{TypeName}
use Rattle.sim_tree.specs.declared.stmt.TypeName.TheVariants as type_name
use Rattle.sim_tree.specs.declared.stmt.Variable.{Variable}
use Rattle.sim_tree.specs.declared.stmt.Constant.{Constant}
use Rattle.sim_tree.specs.Syntax as s
use Rattle.sim_tree.specs.Syntax.{Arms, Arrayed, Begin, Block, Declaration, Declarations, Expressions, Heading, Interface, Prefix, Program, Specified as Specifier, Statement, Statements, NoDeclaration, With}
use Rattle.sim_values.specs.declared.standard.Standard.{Standard}
use Rattle.sim_values.specs.declared.standard.TheConstants.{STANDARD_NAMES}
use Rattle.sim_values.specs.Standard.{row_of}
use Rattle.sim_scope.specs.declared.types.Entry.TheVariants as entry
use Rattle.sim_scope.specs.declared.types.BlockKind.{BlockKind}
use Rattle.sim_scope.specs.declared.types.BlockKind.TheVariants as kind
use Rattle.sim_scope.specs.declared.types.Position.{Position}
use Rattle.sim_scope.specs.declared.types.Position.TheVariants.{ClassBody, ClassStatement, Inside}
use Rattle.sim_scope.specs.declared.types.StandardClass.{StandardClass}
use Rattle.sim_scope.specs.declared.types.StandardClass.TheVariants as class
use Rattle.sim_scope.specs.declared.types.StandardPrefix.{StandardPrefix}
use Rattle.sim_scope.specs.declared.types.StandardPrefix.TheVariants as prefix
use Rattle.sim_scope.specs.Bodies.{Around, Bodies, Body, OfBlock, OfClass, OfConnection, OfPrefixed, OfProcedure, Part, arms_bodies, block_bodies, bodies_of, classes_declared, declaration_bodies, declarations_bodies, no_body, one, prefix_bodies, prefixed_bodies, program_around, program_bodies, standard_bodies, standard_body, statement_bodies, statements_bodies, both}
use Rattle.sim_scope.specs.BodyExample.{WorkedBodies}
use Rattle.sim_scope.specs.Building.{Brings, BuildingOf, Closes, Declares, DeclaresClass, DeclaresProcedure, Mark, Opens, Prefixes, block_around, brings, brings_at, brings_new, broken_if, changed, changed_row, class_row, closed, closed_at, level_in, marked, name_of, owner_of, prefixed_by, with_brought, Provides}
use Rattle.sim_scope.specs.Declare.{array_marks, brings_class, brought_marks, class_marks, class_prefix_marks, declared_by, declaring, empty, first_of_class, first_of_procedure, headed_marks, heading_marks, inner_marks, interface_marks, is_written, marks_of_standard, mode_part_marks, moded_marks, parameter_marks, prefix_marks, prefixed_marks, procedure_marks, program_marks, protected_marks, protection_marks, provides_attribute, qualified_marks, qualified_result, result_named, segment_marks, specification_marks, specified_marks, standard_marks, type_named, variable_marks, virtual_marks, virtual_name_marks}
use Rattle.sim_scope.specs.Laws.{Shape, outline, shape_of}
use Rattle.sim_scope.specs.Runs.{each, run}
use Rattle.sim_scope.specs.Standard.{class_owning, is_provided, standard_prefix}
use Rattle.sim_scope.specs.Tables.{BlockOf, deeper}
use Rattle.sim_scope.specs.Walk.{begin_of, arms_events, block_events, declaration_events, declarations_events, program_events, statement_events, statements_events, whole_events}
use Rattle.sim_scope.proofs.Kept.{more_here, set_here}
use Rattle.sim_scope.proofs.Quiet.{AllQuiet, Stays, all_stay, map_set, quiet_both, quiet_each}
use Rattle.sim_scope.proofs.Walks.{run-append}

-- ---- lists

get_first : {A : Type 0} (xs ys : List A) (k : ℕ) (x : A) → slice_get xs k ≡ Some x → slice_get (xs ++ ys) k ≡ Some x
get_first [] ys k x e = absurd (cc)
get_first (y ∷ xs) ys zero x e = e
get_first (y ∷ xs) ys (suc k) x e = get_first xs ys k x e

get_behind : {A : Type 0} (xs ys : List A) (x : A) → slice_get (xs ++ x ∷ ys) (length xs) ≡ Some x
get_behind [] ys x = refl
get_behind (y ∷ xs) ys x = let e : length (y ∷ xs) ≡ suc (length xs) = omega arith in ap (slice_get ((y ∷ xs) ++ x ∷ ys)) e ∙ get_behind xs ys x

set_behind : {A : Type 0} (xs ys : List A) (x y : A) → slice_set (xs ++ x ∷ ys) (length xs) y ≡ xs ++ y ∷ ys
set_behind [] ys x y = refl
set_behind (z ∷ xs) ys x y = let e : length (z ∷ xs) ≡ suc (length xs) = omega arith in ap (λ n. slice_set ((z ∷ xs) ++ x ∷ ys) n y) e ∙ ap (λ w. z ∷ w) (set_behind xs ys x y)

map_set_any : {A B : Type 0} (f : A → B) (xs : List A) (k : ℕ) (x : A) → map f (slice_set xs k x) ≡ slice_set (map f xs) k (f x)
map_set_any f [] k x = refl
map_set_any f (y ∷ ys) zero x = refl
map_set_any f (y ∷ ys) (suc k) x = ap (λ z. f y ∷ z) (map_set_any f ys k x)

some_same : {A : Type 0} (x y : A) → Some x ≡ Some y → x ≡ y
some_same x y e = cc

-- the row of a shape
record RowOf (bs : List BlockOf) (k : ℕ) (x : Shape) : Type 0 where
  row : BlockOf
  at : slice_get bs k ≡ Some row
  alike : shape_of row ≡ x

row_of_shape : (bs : List BlockOf) (k : ℕ) (x : Shape) → slice_get (map shape_of bs) k ≡ Some x → RowOf bs k x
row_of_shape [] k x e = absurd (cc)
row_of_shape (b ∷ bs) zero x e = record { row = b; at = refl; alike = some_same _ _ e }
row_of_shape (b ∷ bs) (suc k) x e = let it = row_of_shape bs k x e in record { row = it.row; at = it.at; alike = it.alike }

-- ---- what a piece of program adds

-- the body around has this level
record HasLevel (ss : List Shape) (o : Around) : Type 0 where
  shape : Shape
  at : slice_get ss o.number ≡ Some shape
  level : shape.level ≡ o.level

Adds : Around → List Mark → Bodies → Type 0
Adds o es f = (b : BuildingOf) (ss : List Shape) → Stays ss (Some o.number) b → HasLevel ss o → Stays (ss ++ map outline (f (length ss))) (Some o.number) (run marked b es)

stays_as : {k : Option ℕ} {b : BuildingOf} (ss ts : List Shape) → ss ≡ ts → Stays ss k b → Stays ts k b
stays_as {k} {b} ss ts e a = subst (λ z. Stays z k b) e a

adds_quiet : (o : Around) (es : List Mark) → AllQuiet es → Adds o es no_body
unfolding Adds
adds_quiet o es q b ss a h = stays_as ss (ss ++ []) (sym (append-nil ss)) (all_stay b es q a)

still : (o : Around) (ss ts : List Shape) → HasLevel ss o → HasLevel (ss ++ ts) o
still o ss ts h = record { shape = h.shape; at = get_first ss ts o.number h.shape h.at; level = h.level }

adds_both : (o : Around) (es fs : List Mark) (f g : Bodies) → Adds o es f → Adds o fs g → Adds o (es ++ fs) (both f g)
unfolding Adds
adds_both o es fs f g p q b ss a h =
    let n = length ss in
    let ts = map outline (f n) in
    let first : Stays (ss ++ ts) (Some o.number) (run marked b es) = p b ss a h in
    let m : length (ss ++ ts) ≡ n + length (f n) = length-append ss ts ∙ ap (λ z. n + z) (length-map (f n) outline) in
    let next : Stays ((ss ++ ts) ++ map outline (g (length (ss ++ ts)))) (Some o.number) (run marked (run marked b es) fs) = q (run marked b es) (ss ++ ts) first (still o ss ts h) in
    subst (Stays (ss ++ map outline (both f g n)) (Some o.number)) (sym (run-append marked b es fs))
    (stays_as _ _ (append_assoc ss ts _ ∙ ap (λ z. ss ++ (ts ++ map outline (g z))) m ∙ ap (λ z. ss ++ z) (sym (map-append outline (f n) (g (n + length (f n)))))) next)

adds_as : (o : Around) (es fs : List Mark) (f : Bodies) → es ≡ fs → Adds o es f → Adds o fs f
adds_as o es fs f e p = subst (λ z. Adds o z f) e p

-- ---- a block

abbrev shape : BlockKind → (encloser : Option ℕ) → (level first end : ℕ) → Option Identifier → Shape
shape k encloser level first end prefix = record { kind = k; encloser = encloser; level = level; first = first; end = end; prefix = prefix }

-- a block has begun behind others, and nothing has been brought into it but these names
record Fresh (ss : List Shape) (x : Shape) (more : List Shape) (names : List (List ℕ)) (b : BuildingOf) : Type 0 where
  stays : Stays (ss ++ x ∷ more) (Some (length ss)) b
  row : BlockOf
  at : slice_get b.tables.blocks (length ss) ≡ Some row
  brought : row.brought_names ≡ names

abbrev new_row : BuildingOf → BlockKind → (first : ℕ) → BlockOf
new_row b k first = record {
  kind = k;
  first = first;
  end = first;
  encloser = b.current;
  level = level_in k (block_around b.tables b.current);
  owner = owner_of k b.latest;
  formals = 0;
  inner = None;
  prefix = None;
  base = None;
  standard = None;
  names = [];
  numbers = [];
  has_class = false;
  brought_names = [];
  brought = [];
  protected = [];
  hidden = [];
}

blocks_of_broken : (c : Bool) (b : BuildingOf) (token : ℕ) (rule : Rule) → (broken_if c b token rule).tables.blocks ≡ b.tables.blocks
blocks_of_broken true b token rule = refl
blocks_of_broken false b token rule = refl

current_of_broken : (c : Bool) (b : BuildingOf) (token : ℕ) (rule : Rule) → (broken_if c b token rule).current ≡ b.current
current_of_broken true b token rule = refl
current_of_broken false b token rule = refl

opened_blocks : (b : BuildingOf) (k : BlockKind) (text first : ℕ) → (marked b (Opens k text first)).tables.blocks ≡ b.tables.blocks ++ new_row b k first ∷ []
unfolding marked
opened_blocks b k text first = blocks_of_broken _ _ text r.TooManyLevels

opened_current : (b : BuildingOf) (k : BlockKind) (text first : ℕ) → (marked b (Opens k text first)).current ≡ Some (length b.tables.blocks)
unfolding marked
opened_current b k text first = current_of_broken _ _ text r.TooManyLevels

row_shape : (b : BuildingOf) (k : BlockKind) (o : Around) (first : ℕ) (x : Shape) → b.current ≡ Some o.number → RowOf b.tables.blocks o.number x → x.level ≡ o.level → shape_of (new_row b k first) ≡ shape k (Some o.number) (deeper k o.level) first first None
row_shape b k o first x is it same =
    let l : level_in k (block_around b.tables b.current) ≡ deeper k o.level =
    ap (λ z. level_in k (block_around b.tables z)) is ∙ ap (level_in k) it.at ∙ ap (deeper k) (ap (λ (z : Shape). z.level) it.alike ∙ same) in
    ap (λ z. shape k z (level_in k (block_around b.tables b.current)) first first None) is ∙ ap (λ z. shape k (Some o.number) z first first None) l

opens_fresh : (o : Around) (k : BlockKind) (text first : ℕ) (b : BuildingOf) (ss : List Shape) → Stays ss (Some o.number) b → HasLevel ss o → Fresh ss (shape k (Some o.number) (deeper k o.level) first first None) [] [] (marked b (Opens k text first))
opens_fresh o k text first b ss a h =
    let n : length b.tables.blocks ≡ length ss = sym (length-map b.tables.blocks shape_of) ∙ ap length a.shapes in
    let it : RowOf b.tables.blocks o.number h.shape = row_of_shape b.tables.blocks o.number h.shape (ap (λ z. slice_get z o.number) a.shapes ∙ h.at) in record {
      stays = record {
        shapes = ap (map shape_of) (opened_blocks b k text first) ∙ map-append shape_of b.tables.blocks (new_row b k first ∷ []) ∙ ap (λ z. z ++ shape_of (new_row b k first) ∷ []) a.shapes
            ∙ ap (λ z. ss ++ z ∷ []) (row_shape b k o first h.shape a.current it h.level);
        current = opened_current b k text first ∙ ap Some n;
      };
      row = new_row b k first;
      at = ap (λ z. slice_get z (length ss)) (opened_blocks b k text first) ∙ ap (slice_get (b.tables.blocks ++ new_row b k first ∷ [])) (sym n) ∙ more_here b.tables.blocks (new_row b k first);
      brought = refl;
    }

-- the end of a block
abbrev with_end : Shape → ℕ → Shape
with_end x end = record x { end = end }

closes_stays : (ss more : List Shape) (x : Shape) (end : ℕ) (b : BuildingOf) → Stays (ss ++ x ∷ more) (Some (length ss)) b → Stays (ss ++ with_end x end ∷ more) x.encloser (marked b (Closes end))
unfolding marked
closes_stays ss more x end b a = go (row_of_shape b.tables.blocks (length ss) x (ap (λ z. slice_get z (length ss)) a.shapes ∙ get_behind ss more x))
  where
    go : RowOf b.tables.blocks (length ss) x → Stays (ss ++ with_end x end ∷ more) x.encloser (closed b end b.current)
    go it =
        let new : BlockOf = record it.row { end = end } in
        subst (Stays (ss ++ with_end x end ∷ more) x.encloser) (sym (ap (closed b end) a.current ∙ ap (closed_at b end (length ss)) it.at)) (record {
          shapes = map_set_any shape_of b.tables.blocks (length ss) new ∙ ap (λ z. slice_set z (length ss) (shape_of new)) a.shapes ∙ set_behind ss more x (shape_of new)
              ∙ ap (λ z. ss ++ with_end z end ∷ more) it.alike;
          current = ap (λ (z : Shape). z.encloser) it.alike;
        })

-- what stands inside a block, from its begin to its end
abbrev Fills : BlockKind → (encloser : Option ℕ) → (level first : ℕ) → Option Identifier → List Mark → (Around → Bodies) → Type 0
Fills k encloser level first prefix es inside = (b : BuildingOf) (ss : List Shape) → Fresh ss (shape k encloser level first first None) [] [] b
    → Stays (ss ++ shape k encloser level first first prefix ∷ map outline (inside (record { number = length ss; level = level }) (length ss + 1))) (Some (length ss)) (run marked b es)

run_two : (b : BuildingOf) (m : Mark) (es : List Mark) (l : Mark) → run marked b (m ∷ (es ++ l ∷ [])) ≡ marked (run marked (marked b m) es) l
unfolding run
run_two b m es l = run-append marked (marked b m) es (l ∷ [])

adds_one : (k : BlockKind) (o : Around) (text first end : ℕ) (prefix : Option Identifier) (part : Part) (es : List Mark) (inside : Around → Bodies) → Fills k (Some o.number) (deeper k o.level) first prefix es inside
    → Adds o (Opens k text first ∷ (es ++ Closes end ∷ [])) (one k o first end prefix part inside)
unfolding Adds
adds_one k o text first end prefix part es inside f b ss a h =
    subst (Stays (ss ++ map outline (one k o first end prefix part inside (length ss))) (Some o.number)) (sym (run_two b (Opens k text first) es (Closes end)))
    (closes_stays ss (map outline (inside (record { number = length ss; level = deeper k o.level }) (length ss + 1))) (shape k (Some o.number) (deeper k o.level) first first prefix) end
    (run marked (marked b (Opens k text first)) es) (f (marked b (Opens k text first)) ss (opens_fresh o k text first b ss a h)))

-- inside a block that has begun
inside_level : (ss more : List Shape) (x : Shape) (level : ℕ) → x.level ≡ level → HasLevel (ss ++ x ∷ more) (record { number = length ss; level = level })
inside_level ss more x level e = record { shape = x; at = get_behind ss more x; level = e }

fills_plain : (k : BlockKind) (encloser : Option ℕ) (level first : ℕ) (es : List Mark) (inside : Around → Bodies) → ((i : Around) → Adds i es (inside i)) → Fills k encloser level first None es inside
unfolding Adds
fills_plain k encloser level first es inside p b ss f =
    let x = shape k encloser level first first None in
    let i : Around = record { number = length ss; level = level } in
    let n : length (ss ++ x ∷ []) ≡ length ss + 1 = length-append ss (x ∷ []) in
    stays_as _ _ (append_assoc ss (x ∷ []) _ ∙ ap (λ z. ss ++ x ∷ map outline (inside i z)) n) (p i b (ss ++ x ∷ []) f.stays (inside_level ss [] x level refl))

-- ---- standard classes

fresh_shape : (ss : List Shape) (x : Shape) (more : List Shape) (names : List (List ℕ)) (b : BuildingOf) (f : Fresh ss x more names b) → shape_of f.row ≡ x
fresh_shape ss x more names b f = some_same _ _ (sym (slice_get-map shape_of b.tables.blocks (length ss) ∙ ap (option_map shape_of) f.at) ∙ ap (λ z. slice_get z (length ss)) f.stays.shapes ∙ get_behind ss more x)

abbrev with_prefix : Shape → Identifier → Shape
with_prefix x class = record x { prefix = Some class }

prefixes_fresh : (ss : List Shape) (x : Shape) (class : Identifier) (b : BuildingOf) → Fresh ss x [] [] b → Fresh ss (with_prefix x class) [] [] (marked b (Prefixes class))
unfolding marked
prefixes_fresh ss x class b f =
    let new : BlockOf = prefixed_by class f.row in
    let same : changed b (prefixed_by class) b.current ≡ changed_row b (prefixed_by class) (length ss) (Some f.row) = ap (changed b (prefixed_by class)) f.stays.current ∙ ap (changed_row b (prefixed_by class) (length ss)) f.at in
    subst (Fresh ss (with_prefix x class) [] []) (sym same) (record {
      stays = record {
        shapes = map_set_any shape_of b.tables.blocks (length ss) new ∙ ap (λ z. slice_set z (length ss) (shape_of new)) f.stays.shapes ∙ set_behind ss [] x (shape_of new)
            ∙ ap (λ z. ss ++ with_prefix z class ∷ []) (fresh_shape ss x [] [] b f);
        current = f.stays.current;
      };
      row = new;
      at = set_here b.tables.blocks (length ss) f.row new f.at;
      brought = f.brought;
    })

abbrev standard_shape : (number level : ℕ) → StandardClass → Shape
standard_shape number level which = outline (standard_body (record { number = number; level = level }) which)

brings_fresh : (ss : List Shape) (x : Shape) (more : List Shape) (names : List (List ℕ)) (which : StandardClass) (token : ℕ) (b : BuildingOf) → list_any (bytes_eq (name_of which)) names ≡ false → Fresh ss x more names b
    → Fresh ss x (more ++ standard_shape (length ss) x.level which ∷ []) (names ++ name_of which ∷ []) (marked b (Brings which token))
unfolding marked
brings_fresh ss x more names which token b other f =
    let d : DeclNo = record { 0 = length b.tables.declarations } in
    let new : BlockOf = with_brought (name_of which) d f.row in
    let same : brings b which token b.current ≡ brings_new b which token (length ss) f.row =
    ap (brings b which token) f.stays.current ∙ ap (brings_at b which token (length ss)) f.at ∙ ap (λ z. if z then b else brings_new b which token (length ss) f.row) (ap (list_any (bytes_eq (name_of which))) f.brought ∙ other) in
    subst (Fresh ss x (more ++ standard_shape (length ss) x.level which ∷ []) (names ++ name_of which ∷ [])) (sym same) (record {
      stays = record {
        shapes = map-append shape_of (slice_set b.tables.blocks (length ss) new) (class_row which (length ss) f.row d ∷ [])
            ∙ ap (λ z. z ++ shape_of (class_row which (length ss) f.row d) ∷ []) (map_set shape_of b.tables.blocks (length ss) f.row new f.at refl ∙ f.stays.shapes)
            ∙ append_assoc ss (x ∷ more) _ ∙ ap (λ (z : Shape). ss ++ x ∷ (more ++ standard_shape (length ss) z.level which ∷ [])) (fresh_shape ss x more names b f);
        current = f.stays.current;
      };
      row = new;
      at = get_first (slice_set b.tables.blocks (length ss) new) _ (length ss) new (set_here b.tables.blocks (length ss) f.row new f.at);
      brought = ap (λ z. z ++ name_of which ∷ []) f.brought;
    })

quiet_test : (name : Standard) (token : ℕ) (c : Bool) → AllQuiet (if c then Provides (class_owning (row_of name).owner) name token ∷ [] else [])
quiet_test name token true = (tt, tt)
quiet_test name token false = tt

quiet_provides : (p : StandardPrefix) (token : ℕ) (name : Standard) → AllQuiet (provides_attribute p token name)
unfolding provides_attribute
quiet_provides p token name = quiet_test name token (is_provided p (row_of name).owner)

abbrev sets_shapes : (number level : ℕ) → List Shape
sets_shapes number level = standard_shape number level class.Linkage ∷ standard_shape number level class.Link ∷ standard_shape number level class.Head ∷ []

sets : (ss : List Shape) (x : Shape) (token : ℕ) (b : BuildingOf) → Fresh ss x [] [] b
    → Fresh ss x (sets_shapes (length ss) x.level) (name_of class.Linkage ∷ name_of class.Link ∷ name_of class.Head ∷ []) (marked (marked (marked b (Brings class.Linkage token)) (Brings class.Link token)) (Brings class.Head token))
sets ss x token b f =
    brings_fresh ss x (standard_shape (length ss) x.level class.Linkage ∷ standard_shape (length ss) x.level class.Link ∷ []) (name_of class.Linkage ∷ name_of class.Link ∷ []) class.Head token _ refl
    (brings_fresh ss x (standard_shape (length ss) x.level class.Linkage ∷ []) (name_of class.Linkage ∷ []) class.Link token _ refl
    (brings_fresh ss x [] [] class.Linkage token b refl f))

-- what a standard prefix declares in a block that has begun
brings_all : (ss : List Shape) (x : Shape) (token : ℕ) (p : Option StandardPrefix) (b : BuildingOf) → Fresh ss x [] [] b
    → Stays (ss ++ x ∷ map outline (map (standard_body (record { number = length ss; level = x.level })) (classes_declared p))) (Some (length ss)) (run marked b (marks_of_standard token p))
unfolding marks_of_standard brought_marks brings_class run
brings_all ss x token None b f = f.stays
brings_all ss x token (Some prefix.Simset) b f =
    all_stay _ (each (provides_attribute prefix.Simset token) STANDARD_NAMES) (quiet_each (provides_attribute prefix.Simset token) STANDARD_NAMES (quiet_provides prefix.Simset token)) (sets ss x token b f).stays
brings_all ss x token (Some prefix.Simulation) b f =
    all_stay _ (each (provides_attribute prefix.Simulation token) STANDARD_NAMES) (quiet_each (provides_attribute prefix.Simulation token) STANDARD_NAMES (quiet_provides prefix.Simulation token))
    (brings_fresh ss x (sets_shapes (length ss) x.level) (name_of class.Linkage ∷ name_of class.Link ∷ name_of class.Head ∷ []) class.Process token _ refl (sets ss x token b f)).stays

fills_prefix : (k : BlockKind) (encloser : Option ℕ) (level first token : ℕ) (class : Identifier) (es : List Mark) (inside : Around → Bodies) → ((i : Around) → Adds i es (inside i))
    → Fills k encloser level first (Some class) (prefix_marks token class ++ es) (λ i. both (standard_bodies i class.name) (inside i))
unfolding Adds prefix_marks standard_marks standard_bodies run
fills_prefix k encloser level first token class es inside p b ss f =
    let x = shape k encloser level first first (Some class) in
    let i : Around = record { number = length ss; level = level } in
    let std : List Body = map (standard_body i) (classes_declared (standard_prefix class.name)) in
    let c = marked b (Prefixes class) in
    let begun : Stays (ss ++ x ∷ map outline std) (Some (length ss)) (run marked c (marks_of_standard token (standard_prefix class.name))) =
    brings_all ss x token (standard_prefix class.name) c (prefixes_fresh ss (shape k encloser level first first None) class b f) in
    let e : length (ss ++ x ∷ map outline std) ≡ (length ss + 1) + length std = (let l : length (ss ++ x ∷ map outline std) ≡ length ss + suc (length (map outline std)) = length-append ss (x ∷ map outline std) in let m : length (map outline std) ≡ length std = length-map std outline in omega (arith, l, m)) in
    subst (Stays _ (Some (length ss))) (sym (run-append marked c (marks_of_standard token (standard_prefix class.name)) es))
    (stays_as _ _ (append_assoc ss (x ∷ map outline std) _ ∙ ap (λ z. ss ++ x ∷ (map outline std ++ map outline (inside i z))) e ∙ ap (λ z. ss ++ x ∷ z) (sym (map-append outline std _)))
    (p i _ (ss ++ x ∷ map outline std) begun (inside_level ss (map outline std) x level refl)))

adds_none_first : (o : Around) (es : List Mark) (f : Bodies) → Adds o es f → Adds o es (both no_body f)
unfolding Adds
adds_none_first o es f p b ss a h =
    let e : length ss ≡ length ss + 0 = omega arith in
    stays_as _ _ (ap (λ z. ss ++ map outline (f z)) e) (p b ss a h)

fills_optional : (k : BlockKind) (encloser : Option ℕ) (level first token : ℕ) (prefix : Option Identifier) (es : List Mark) (inside : Around → Bodies) → ((i : Around) → Adds i es (inside i))
    → Fills k encloser level first prefix (class_prefix_marks token prefix ++ es) (λ i. both (prefix_bodies i prefix) (inside i))
unfolding class_prefix_marks
fills_optional k encloser level first token None es inside p = fills_plain k encloser level first es (λ i. both no_body (inside i)) (λ i. adds_none_first i es (inside i) (p i))
fills_optional k encloser level first token (Some class) es inside p = fills_prefix k encloser level first token class es inside p

-- ---- what adds no body

adds_after : (o : Around) (es fs : List Mark) (f : Bodies) → AllQuiet es → Adds o fs f → Adds o (es ++ fs) f
unfolding Adds
adds_after o es fs f q p b ss a h = subst (Stays _ (Some o.number)) (sym (run-append marked b es fs)) (p (run marked b es) ss (all_stay b es q a) h)

quiet_qualified : (t : TypeName) → AllQuiet (qualified_marks t)
unfolding qualified_marks
quiet_qualified (type_name.Integer i) = tt
quiet_qualified (type_name.Boolean i) = tt
quiet_qualified (type_name.Character i) = tt
quiet_qualified (type_name.Text i) = tt
quiet_qualified (type_name.Reference i class) = (tt, tt)

quiet_result : (t : Option TypeName) → AllQuiet (qualified_result t)
unfolding qualified_result
quiet_result None = tt
quiet_result (Some t) = quiet_qualified t

quiet_variable : (t : TypeName) (v : Variable) → AllQuiet (variable_marks t v)
unfolding variable_marks
quiet_variable t v = go v.value
  where
    go : (o : Option Constant) → AllQuiet (elim o [ None ↦ Declares v.name (entry.Variable (type_named t)) ∷ qualified_marks t | Some c ↦ Declares v.name (entry.Constant (type_named t)) ∷ qualified_marks t ])
    go None = (tt, quiet_qualified t)
    go (Some c) = (tt, quiet_qualified t)

quiet_array : (t : TypeName) (n : ℕ) (x : Identifier) → AllQuiet (array_marks t n x)
unfolding array_marks
quiet_array t n x = (tt, quiet_qualified t)

quiet_segment : (t : TypeName) (a : Arrayed) → AllQuiet (segment_marks t a)
quiet_segment t a = quiet_each (array_marks t (length a.bounds)) a.names (quiet_array t (length a.bounds))

quiet_parameter : (x : Identifier) → AllQuiet (parameter_marks x)
unfolding parameter_marks
quiet_parameter x = (tt, tt)

quiet_moded : (m : Word) (x : Identifier) → AllQuiet (moded_marks m x)
unfolding moded_marks
quiet_moded m x = (tt, tt)

quiet_specified : (k : Specifier) (x : Identifier) → AllQuiet (specified_marks k x)
unfolding specified_marks
quiet_specified (s.Simple t) x = (tt, quiet_qualified t)
quiet_specified (s.Array t i) x = (tt, quiet_qualified t)
quiet_specified (s.Procedure t i) x = (tt, quiet_result t)

quiet_headed : (x : Identifier) → AllQuiet (headed_marks x)
unfolding headed_marks
quiet_headed x = (tt, tt)

quiet_heading : (h : Heading) → AllQuiet (heading_marks h)
quiet_heading h =
    quiet_both (each parameter_marks h.formals) _ (quiet_each parameter_marks h.formals quiet_parameter)
    (quiet_both (each mode_part_marks h.modes) _ (quiet_each mode_part_marks h.modes (λ m. quiet_each (moded_marks m.mode) m.names (quiet_moded m.mode)))
    (quiet_both (each specification_marks h.specifications) _ (quiet_each specification_marks h.specifications (λ x. quiet_each (specified_marks x.kind) x.names (quiet_specified x.kind)))
    (quiet_each headed_marks h.formals quiet_headed)))

quiet_protected : (hides keeps : Bool) (x : Identifier) → AllQuiet (protected_marks hides keeps x)
unfolding protected_marks
quiet_protected hides keeps x = (tt, tt)

quiet_virtual : (t : Option TypeName) (x : Identifier) → AllQuiet (virtual_name_marks t x)
unfolding virtual_name_marks
quiet_virtual t x = (tt, quiet_result t)

quiet_interface : (i : Interface) → AllQuiet (interface_marks i)
quiet_interface i =
    quiet_both (each protection_marks i.protections) _ (quiet_each protection_marks i.protections (λ p. quiet_each (protected_marks (is_written p.hidden) (is_written p.protected)) p.names (quiet_protected (is_written p.hidden) (is_written p.protected))))
    (quiet_each virtual_marks i.virtuals (λ v. quiet_each (virtual_name_marks v.result) v.names (quiet_virtual v.result)))

quiet_inner : (p : Position) (token : ℕ) → AllQuiet (inner_marks p token)
unfolding inner_marks
quiet_inner ClassStatement token = (tt, tt)
quiet_inner ClassBody token = (tt, tt)
quiet_inner Inside token = (tt, tt)

-- ---- the whole program

adds_connection : (o : Around) (opening end : ℕ) (es rest : List Mark) (inside : Around → Bodies) (f : Bodies) → ((i : Around) → Adds i es (inside i)) → Adds o rest f
    → Adds o (Opens kind.Connection opening opening ∷ (es ++ (Closes end ∷ rest))) (both (one kind.Connection o opening end None OfConnection inside) f)
adds_connection o opening end es rest inside f p q =
    adds_as o ((Opens kind.Connection opening opening ∷ (es ++ Closes end ∷ [])) ++ rest) _ _ (ap (λ z. Opens kind.Connection opening opening ∷ z) (append_assoc es (Closes end ∷ []) rest))
    (adds_both o (Opens kind.Connection opening opening ∷ (es ++ Closes end ∷ [])) rest _ f (adds_one kind.Connection o opening opening end None OfConnection es inside (fills_plain kind.Connection (Some o.number) o.level opening es inside p)) q)

abbrev NoClassBody : Position → Type 0
NoClassBody ClassBody = ⊥
NoClassBody _ = Unit {0}

class_adds : (o : Around) (prefix : Option Identifier) (i : ℕ) (h : Heading) (interface : Interface) (e : ℕ) (part : Part) (B : List Mark) (inside : Around → Bodies) → ((inner : Around) → Adds inner B (inside inner))
    → Adds o ((class_marks prefix i h.name ++ (heading_marks h ++ interface_marks interface)) ++ (B ++ Closes e ∷ [])) (one kind.Class o h.name.token.0 e prefix part (λ inner. both (prefix_bodies inner prefix) (inside inner)))
unfolding class_marks
class_adds o prefix i h interface e part B inside p =
    let P = DeclaresClass h.name in
    let O = Opens kind.Class (first_of_class prefix i) h.name.token.0 in
    let F = class_prefix_marks h.name.token.0 prefix in
    let H = heading_marks h ++ interface_marks interface in
    let C = Closes e ∷ [] in
    adds_as o ((P ∷ []) ++ (O ∷ ((F ++ (H ++ B)) ++ C))) _ _
    (ap (λ z. P ∷ O ∷ z) (append_assoc F (H ++ B) C ∙ ap (λ z. F ++ z) (append_assoc H B C) ∙ sym (append_assoc F H (B ++ C))))
    (adds_after o (P ∷ []) (O ∷ ((F ++ (H ++ B)) ++ C)) _ (tt, tt)
    (adds_one kind.Class o (first_of_class prefix i) h.name.token.0 e prefix part (F ++ (H ++ B)) (λ inner. both (prefix_bodies inner prefix) (inside inner))
    (fills_optional kind.Class (Some o.number) (o.level + 1) h.name.token.0 h.name.token.0 prefix (H ++ B) inside
    (λ inner. adds_after inner H B _ (quiet_both (heading_marks h) (interface_marks interface) (quiet_heading h) (quiet_interface interface)) (p inner)))))

mutual
  unfolding declaring prefixed_marks procedure_marks

  statement_adds : (o : Around) (p : Position) (a : Statement) → NoClassBody p → Adds o (statement_events declaring p a) (statement_bodies o a)
  statement_adds o p (s.Empty i) n = adds_quiet o [] tt
  statement_adds o ClassBody (s.Compound b) n = absurd n
  statement_adds o ClassStatement (s.Compound b) n = block_adds o b
  statement_adds o Inside (s.Compound b) n = block_adds o b
  statement_adds o p (s.Prefixed class es b) n = prefixed_adds o class es b
  statement_adds o p (s.Inner i) n = adds_quiet o (inner_marks p i) (quiet_inner p i)
  statement_adds o p (s.Call e) n = adds_quiet o [] tt
  statement_adds o p (s.Assign l rest) n = adds_quiet o [] tt
  statement_adds o p (s.Choose i e a b) n = adds_both o (statement_events declaring Inside a) (statements_events declaring Inside b) _ _ (statement_adds o Inside a tt) (statements_add o Inside b tt)
  statement_adds o p (s.Repeat i e a) n = statement_adds o Inside a tt
  statement_adds o p (s.For i x g j es a) n = statement_adds o Inside a tt
  statement_adds o p (s.Inspect i e j a k other) n = adds_connection o j k (statement_events declaring Inside a) (statements_events declaring Inside other) (λ inner. statement_bodies inner a) _ (λ inner. statement_adds inner Inside a tt) (statements_add o Inside other tt)
  statement_adds o p (s.InspectWhen i e arms other) n = adds_both o (arms_events declaring arms) (statements_events declaring Inside other) _ _ (arms_add o arms) (statements_add o Inside other tt)
  statement_adds o p (s.Activate i w e t) n = adds_quiet o [] tt

  statements_add : (o : Around) (p : Position) (ss : Statements) → NoClassBody p → Adds o (statements_events declaring p ss) (statements_bodies o ss)
  statements_add o p s.NoStatement n = adds_quiet o [] tt
  statements_add o p (s.Also a more) n = adds_both o (statement_events declaring p a) (statements_events declaring p more) _ _ (statement_adds o p a n) (statements_add o p more n)

  arms_add : (o : Around) (ws : Arms) → Adds o (arms_events declaring ws) (arms_bodies o ws)
  arms_add o s.NoArm = adds_quiet o [] tt
  arms_add o (s.When i x j a e others) =
      adds_both o (Opens kind.Connection j j ∷ (statement_events declaring Inside a ++ Closes e ∷ [])) (arms_events declaring others) _ _
      (adds_one kind.Connection o j j e None OfConnection (statement_events declaring Inside a) (λ inner. statement_bodies inner a) (fills_plain kind.Connection (Some o.number) o.level j _ (λ inner. statement_bodies inner a) (λ inner. statement_adds inner Inside a tt)))
      (arms_add o others)

  block_adds : (o : Around) (b : Block) → Adds o (block_events declaring b) (block_bodies o b)
  block_adds o (Begin i NoDeclaration ss e) = statements_add o Inside ss tt
  block_adds o (Begin i (With d ds) ss e) =
      adds_one kind.SubBlock o i i e None (OfBlock (With d ds) ss) (declarations_events declaring (With d ds) ++ statements_events declaring Inside ss) (λ inner. both (declarations_bodies inner (With d ds)) (statements_bodies inner ss))
      (fills_plain kind.SubBlock (Some o.number) (o.level + 1) i _ (λ inner. both (declarations_bodies inner (With d ds)) (statements_bodies inner ss))
      (λ inner. adds_both inner (declarations_events declaring (With d ds)) (statements_events declaring Inside ss) _ _ (declarations_add inner (With d ds)) (statements_add inner Inside ss tt)))

  prefixed_adds : (o : Around) (class : Identifier) (arguments : Expressions) (b : Block) → Adds o (prefixed_marks class (begin_of b) ++ whole_events declaring b) (prefixed_bodies o class arguments b)
  prefixed_adds o class arguments (Begin i ds ss e) =
      let D = declarations_events declaring ds in
      let S = statements_events declaring Inside ss in
      adds_as o (Opens kind.Prefixed class.token.0 i ∷ ((prefix_marks i class ++ (D ++ S)) ++ Closes e ∷ [])) _ _
      (ap (λ z. Opens kind.Prefixed class.token.0 i ∷ z) (append_assoc (prefix_marks i class) (D ++ S) (Closes e ∷ []) ∙ ap (λ z. prefix_marks i class ++ z) (append_assoc D S (Closes e ∷ []))))
      (adds_one kind.Prefixed o class.token.0 i e (Some class) (OfPrefixed arguments ds ss) (prefix_marks i class ++ (D ++ S)) (λ inner. both (standard_bodies inner class.name) (both (declarations_bodies inner ds) (statements_bodies inner ss)))
      (fills_prefix kind.Prefixed (Some o.number) (o.level + 1) i i class (D ++ S) (λ inner. both (declarations_bodies inner ds) (statements_bodies inner ss))
      (λ inner. adds_both inner D S _ _ (declarations_add inner ds) (statements_add inner Inside ss tt))))

  declarations_add : (o : Around) (ds : Declarations) → Adds o (declarations_events declaring ds) (declarations_bodies o ds)
  declarations_add o NoDeclaration = adds_quiet o [] tt
  declarations_add o (With d ds) = adds_both o (declaration_events declaring d) (declarations_events declaring ds) _ _ (declaration_adds o d) (declarations_add o ds)

  declaration_adds : (o : Around) (d : Declaration) → Adds o (declaration_events declaring d) (declaration_bodies o d)
  declaration_adds o (s.Variables t vs) = adds_quiet o (each (variable_marks t) vs) (quiet_each (variable_marks t) vs (quiet_variable t))
  declaration_adds o (s.Arrays t i segments) = adds_quiet o (each (segment_marks t) segments) (quiet_each (segment_marks t) segments (quiet_segment t))
  declaration_adds o (s.DeclareProcedure result i h a e) =
      let P = DeclaresProcedure h.name (result_named result) in
      let q = qualified_result result in
      let O = Opens kind.Procedure (first_of_procedure result i) h.name.token.0 in
      let H = heading_marks h in
      let B = statement_events declaring Inside a in
      let C = Closes e ∷ [] in
      adds_as o ((P ∷ q) ++ (O ∷ ((H ++ B) ++ C))) _ _
      (ap (λ z. P ∷ (q ++ (O ∷ z))) (append_assoc H B C) ∙ sym (ap (λ z. P ∷ z) (append_assoc (q ++ O ∷ []) H (B ++ C) ∙ append_assoc q (O ∷ []) (H ++ (B ++ C)))))
      (adds_after o (P ∷ q) (O ∷ ((H ++ B) ++ C)) _ (tt, quiet_result result)
      (adds_one kind.Procedure o (first_of_procedure result i) h.name.token.0 e None (OfProcedure result h a) (H ++ B) (λ inner. statement_bodies inner a)
      (fills_plain kind.Procedure (Some o.number) (o.level + 1) h.name.token.0 (H ++ B) (λ inner. statement_bodies inner a) (λ inner. adds_after inner H B _ (quiet_heading h) (statement_adds inner Inside a tt)))))
  declaration_adds o (s.DeclareClass prefix i h interface (s.Compound (Begin j ds ss k)) e) =
      class_adds o prefix i h interface e (OfClass h ds ss) (declarations_events declaring ds ++ statements_events declaring ClassStatement ss) (λ inner. both (declarations_bodies inner ds) (statements_bodies inner ss))
      (λ inner. adds_both inner (declarations_events declaring ds) (statements_events declaring ClassStatement ss) _ _ (declarations_add inner ds) (statements_add inner ClassStatement ss tt))
  declaration_adds o (s.DeclareClass prefix i h interface (s.Empty j) e) =
      class_adds o prefix i h interface e (OfClass h NoDeclaration (s.Also (s.Empty j) s.NoStatement)) (statement_events declaring ClassBody (s.Empty j)) (λ inner. statement_bodies inner (s.Empty j)) (λ inner. adds_quiet inner [] tt)
  declaration_adds o (s.DeclareClass prefix i h interface (s.Prefixed class es b) e) =
      class_adds o prefix i h interface e (OfClass h NoDeclaration (s.Also (s.Prefixed class es b) s.NoStatement)) (statement_events declaring ClassBody (s.Prefixed class es b)) (λ inner. statement_bodies inner (s.Prefixed class es b)) (λ inner. prefixed_adds inner class es b)
  declaration_adds o (s.DeclareClass prefix i h interface (s.Inner j) e) =
      class_adds o prefix i h interface e (OfClass h NoDeclaration (s.Also (s.Inner j) s.NoStatement)) (statement_events declaring ClassBody (s.Inner j)) (λ inner. statement_bodies inner (s.Inner j)) (λ inner. adds_quiet inner (inner_marks ClassBody j) (quiet_inner ClassBody j))
  declaration_adds o (s.DeclareClass prefix i h interface (s.Call x) e) =
      class_adds o prefix i h interface e (OfClass h NoDeclaration (s.Also (s.Call x) s.NoStatement)) (statement_events declaring ClassBody (s.Call x)) (λ inner. statement_bodies inner (s.Call x)) (λ inner. adds_quiet inner [] tt)
  declaration_adds o (s.DeclareClass prefix i h interface (s.Assign l rest) e) =
      class_adds o prefix i h interface e (OfClass h NoDeclaration (s.Also (s.Assign l rest) s.NoStatement)) (statement_events declaring ClassBody (s.Assign l rest)) (λ inner. statement_bodies inner (s.Assign l rest)) (λ inner. adds_quiet inner [] tt)
  declaration_adds o (s.DeclareClass prefix i h interface (s.Choose j x a b) e) =
      class_adds o prefix i h interface e (OfClass h NoDeclaration (s.Also (s.Choose j x a b) s.NoStatement)) (statement_events declaring ClassBody (s.Choose j x a b)) (λ inner. statement_bodies inner (s.Choose j x a b)) (λ inner. adds_both inner (statement_events declaring Inside a) (statements_events declaring Inside b) _ _ (statement_adds inner Inside a tt) (statements_add inner Inside b tt))
  declaration_adds o (s.DeclareClass prefix i h interface (s.Repeat j x a) e) =
      class_adds o prefix i h interface e (OfClass h NoDeclaration (s.Also (s.Repeat j x a) s.NoStatement)) (statement_events declaring ClassBody (s.Repeat j x a)) (λ inner. statement_bodies inner (s.Repeat j x a)) (λ inner. statement_adds inner Inside a tt)
  declaration_adds o (s.DeclareClass prefix i h interface (s.For j x g k es a) e) =
      class_adds o prefix i h interface e (OfClass h NoDeclaration (s.Also (s.For j x g k es a) s.NoStatement)) (statement_events declaring ClassBody (s.For j x g k es a)) (λ inner. statement_bodies inner (s.For j x g k es a)) (λ inner. statement_adds inner Inside a tt)
  declaration_adds o (s.DeclareClass prefix i h interface (s.Inspect j x d a k rest) e) =
      class_adds o prefix i h interface e (OfClass h NoDeclaration (s.Also (s.Inspect j x d a k rest) s.NoStatement)) (statement_events declaring ClassBody (s.Inspect j x d a k rest)) (λ inner. statement_bodies inner (s.Inspect j x d a k rest)) (λ inner. adds_connection inner d k (statement_events declaring Inside a) (statements_events declaring Inside rest) (λ within. statement_bodies within a) _ (λ within. statement_adds within Inside a tt) (statements_add inner Inside rest tt))
  declaration_adds o (s.DeclareClass prefix i h interface (s.InspectWhen j x arms rest) e) =
      class_adds o prefix i h interface e (OfClass h NoDeclaration (s.Also (s.InspectWhen j x arms rest) s.NoStatement)) (statement_events declaring ClassBody (s.InspectWhen j x arms rest)) (λ inner. statement_bodies inner (s.InspectWhen j x arms rest)) (λ inner. adds_both inner (arms_events declaring arms) (statements_events declaring Inside rest) _ _ (arms_add inner arms) (statements_add inner Inside rest tt))
  declaration_adds o (s.DeclareClass prefix i h interface (s.Activate j w x t) e) =
      class_adds o prefix i h interface e (OfClass h NoDeclaration (s.Also (s.Activate j w x t) s.NoStatement)) (statement_events declaring ClassBody (s.Activate j w x t)) (λ inner. statement_bodies inner (s.Activate j w x t)) (λ inner. adds_quiet inner [] tt)

opens_first : (k : BlockKind) (text first : ℕ) → Fresh [] (shape k None 1 first first None) [] [] (marked empty (Opens k text first))
unfolding marked
opens_first k text first = record { stays = record { shapes = refl; current = refl }; row = new_row empty k first; at = refl; brought = refl }

whole_program : (k : BlockKind) (text first end : ℕ) (prefix : Option Identifier) (es : List Mark) (inside : Around → Bodies) → Fills k None 1 first prefix es inside
    → map shape_of (run marked empty (Opens k text first ∷ (es ++ Closes end ∷ []))).tables.blocks ≡ shape k None 1 first end prefix ∷ map outline (inside program_around 1)
whole_program k text first end prefix es inside f =
    ap (λ (z : BuildingOf). map shape_of z.tables.blocks) (run_two empty (Opens k text first) es (Closes end))
    ∙ (closes_stays [] (map outline (inside program_around 1)) (shape k None 1 first first prefix) end (run marked (marked empty (Opens k text first)) es) (f (marked empty (Opens k text first)) [] (opens_first k text first))).shapes

program_blocks : (p : Option Prefix) (b : Block) → map shape_of (run marked empty (program_marks p (begin_of b) ++ whole_events declaring b)).tables.blocks ≡ map outline (bodies_of p b)
unfolding declaring program_marks prefixed_marks
program_blocks None (Begin i ds ss e) =
    let D = declarations_events declaring ds in
    let S = statements_events declaring Inside ss in
    ap (λ z. map shape_of (run marked empty (Opens kind.Program i i ∷ z)).tables.blocks) (sym (append_assoc D S (Closes e ∷ [])))
    ∙ whole_program kind.Program i i e None (D ++ S) (λ inner. both (declarations_bodies inner ds) (statements_bodies inner ss))
    (fills_plain kind.Program None 1 i (D ++ S) (λ inner. both (declarations_bodies inner ds) (statements_bodies inner ss)) (λ inner. adds_both inner D S _ _ (declarations_add inner ds) (statements_add inner Inside ss tt)))
program_blocks (Some p) (Begin i ds ss e) =
    let D = declarations_events declaring ds in
    let S = statements_events declaring Inside ss in
    let F = prefix_marks i p.class in
    ap (λ z. map shape_of (run marked empty (Opens kind.Prefixed p.class.token.0 i ∷ z)).tables.blocks) (sym (append_assoc F (D ++ S) (Closes e ∷ []) ∙ ap (λ z. F ++ z) (append_assoc D S (Closes e ∷ []))))
    ∙ whole_program kind.Prefixed p.class.token.0 i e (Some p.class) (F ++ (D ++ S)) (λ inner. both (standard_bodies inner p.class.name) (both (declarations_bodies inner ds) (statements_bodies inner ss)))
    (fills_prefix kind.Prefixed None 1 i i p.class (D ++ S) (λ inner. both (declarations_bodies inner ds) (statements_bodies inner ss)) (λ inner. adds_both inner D S _ _ (declarations_add inner ds) (statements_add inner Inside ss tt)))

pub blocks_are_bodies : (p : Program) → map shape_of (declared_by p).tables.blocks ≡ map outline (program_bodies p)
unfolding declared_by program_events declaring program_bodies
blocks_are_bodies p = program_blocks p.prefix p.block

pub worked_bodies : WorkedBodies
unfolding WorkedBodies program_bodies standard_bodies standard_prefix
worked_bodies = refl
