-- The cells with which an object begins, and those of its frame, level by level; and how many they are.
use Rattle.std.proofs.Common.{◌≡◌, ◌⊎◌, ◌<◌, ◌≤◌, ◌+◌, ◌++◌, inl, inr, ℕ, zero, suc, Bool, true, false, List, [], ◌∷◌, length, map, Option, Some, None, refl, sym, ap, ◌∙◌, subst, arith, length-append}
use Rattle.std.proofs.lemmas.List.{length-map}
use Rattle.std.specs.Prelude.{◌==◌, ◌&&◌, if◌then◌else◌, pos, slice_get}
use Rattle.sim_base.specs.declared.numbering.DeclNo.{DeclNo}
use Rattle.sim_scope.specs.declared.types.Entry.{Entry}
use Rattle.sim_scope.specs.declared.types.Entry.TheVariants as entry
use Rattle.sim_scope.specs.declared.types.StandardClass.TheVariants as standard
use Rattle.sim_scope.specs.Scopes.{entry_of}
use Rattle.sim_scope.specs.Tables.{BlockOf as BlockTable}
use Rattle.sim_values.specs.Plain.{Integer}
use Rattle.sim_code.proofs.Lifts.{Both}
use Rattle.sim_relate.proofs.Frames.{bool_cases}
use Rattle.sim_scope.specs.Source.{Source}
use Rattle.sim_code.specs.declared.code.CodeType.{CodeType}
use Rattle.sim_code.specs.Code.{BlockOf, CodeOf}
use Rattle.sim_code.specs.Machine.{Cells, first_value, joined}
use Rattle.sim_code.specs.Machine as machine
use Rattle.sim_meaning.specs.Entries.{cells_from, numbers_of, with_cell}
use Rattle.sim_meaning.specs.Levels.{has_levels, is_process_class, is_process_itself, is_standard_text, level_made, levels_made, levels_of, standard_level}
use Rattle.sim_meaning.specs.Objects.{attributes_from, cells_of_levels, origins}
use Rattle.sim_meaning.specs.Pending.{Connection, Declared, Held, Instances, Key, Level, Origin, Result, Val, held, same_key}
use Rattle.sim_meaning.specs.Pending as meaning
use Rattle.sim_meaning.specs.Texts.{BlockText, ClassText, ConnectionText, PrefixedText, ProcedureText, StandardText, Text, text}
use Rattle.codegen_expr.specs.Sites.{HasCell, LevelOf, block_in_front, block_of_text, cells_in, cells_of_block, frame_text, hidden_before, hidden_from, hidden_in, innermost, is_connection, origin_in, outer, own_part, place_of, prefix_of, slot_of, start_of, types_in}
use Rattle.codegen.specs.Agrees.{Agrees, Ends, before, last}
use Rattle.codegen.specs.Compiled.{Compiled, type_of_cell, type_of_value}
use Rattle.sim_relate.proofs.ClassLevels.{level_levels, levels_solid}
use Rattle.sim_relate.proofs.ClassTexts.{ClassHas, class_has}
use Rattle.sim_relate.proofs.Known.{SlotAt, ValAt, is_declared, is_fixed, plain_at}
use Rattle.sim_relate.proofs.Layouts.{MayLie, cells_by_key, declared_there, less_or}
use Rattle.sim_relate.proofs.LevelCells.{CellsOf}
use Rattle.sim_relate.proofs.LevelCode.{front_has, made_of, none_made}
use Rattle.sim_relate.proofs.LevelFormals.{get_before, get_behind}
use Rattle.sim_relate.proofs.LevelLists.{level_place, level_text, levels_behind, levels_first, levels_some, solid_level}
use Rattle.sim_relate.proofs.Reach.{same_some}
use Rattle.sim_relate.proofs.Relation.{Laid}
use Rattle.sim_relate.proofs.Slots.{HeldAt, Typed, attributes_at, attributes_keys, key_of, keys_length, keys_place, not_held, place_behind, place_first, typed_slot, types_split}

-- ---- lists

pub no_more : {A : Type 0} (xs : List A) → xs ++ [] ≡ xs
no_more [] = refl
no_more (x ∷ xs) = ap (λ z. x ∷ z) (no_more xs)

append_on : {A : Type 0} (xs ys zs : List A) → (xs ++ ys) ++ zs ≡ xs ++ (ys ++ zs)
append_on [] ys zs = refl
append_on (x ∷ xs) ys zs = ap (λ z. x ∷ z) (append_on xs ys zs)

map_both : {A B : Type 0} (f : A → B) (xs ys : List A) → map f (xs ++ ys) ≡ map f xs ++ map f ys
map_both f [] ys = refl
map_both f (x ∷ xs) ys = ap (λ z. f x ∷ z) (map_both f xs ys)

-- ---- cells in two lists

first_if : (b : Bool) (x v w : Option Val) (p n : ℕ) → (if b then 0 else suc p) < suc n → (p < n → v ≡ w) → (if b then x else v) ≡ (if b then x else w)
first_if true x v w p n lt f = refl
first_if false x v w p n lt f = f (omega (arith, lt))

held_first : (key : Key) (hs gs : List Held) → place_of key hs < length hs → held key (hs ++ gs) ≡ held key hs
held_first key [] gs lt = absurd (omega (arith, lt))
held_first key (h ∷ hs) gs lt = first_if (same_key h.key key) h.value (held key (hs ++ gs)) (held key hs) (place_of key hs) (length hs) lt (held_first key hs gs)

behind_if : (b : Bool) (x v w : Option Val) (p n : ℕ) → suc n ≤ (if b then 0 else suc p) → (n ≤ p → v ≡ w) → (if b then x else v) ≡ w
behind_if true x v w p n le f = absurd (omega (arith, le))
behind_if false x v w p n le f = f (omega (arith, le))

held_behind : (key : Key) (hs gs : List Held) → length hs ≤ place_of key hs → held key (hs ++ gs) ≡ held key gs
held_behind key [] gs le = refl
held_behind key (h ∷ hs) gs le = behind_if (same_key h.key key) h.value (held key (hs ++ gs)) (held key gs) (place_of key hs) (length hs) le (held_behind key hs gs)

there_first : (key : Key) (hs gs : List Held) → place_of key hs < length hs → place_of key (hs ++ gs) < length (hs ++ gs)
there_first key hs gs lt = let p = place_first key hs gs lt in let n = length-append hs gs in omega (arith, lt, p, n)

there_behind : (key : Key) (hs gs : List Held) → place_of key gs < length gs → place_of key (hs ++ gs) < length (hs ++ gs)
there_behind key hs gs lt = less_or (place_of key hs) (length hs) (there_first key hs gs) (λ le. let p = place_behind key hs gs le in let n = length-append hs gs in omega (arith, lt, p, n))

-- ---- origins

-- the value with which an origin begins
abbrev pub first_origin : Option Val
first_origin = Some (meaning.Of (Integer (pos 0)))

abbrev HasOrigin : List Held → Type 0
HasOrigin hs = (held Origin hs ≡ first_origin) × (place_of Origin hs < length hs)

with_origin : (b : Bool) (hs : List Held) → HasOrigin hs → HasOrigin (if b then record { key = Origin; value = first_origin } ∷ hs else hs)
with_origin true hs h = (refl, omega arith)
with_origin false hs h = h

process_level : (s : Source) (k : ℕ) (o : Option Text) (x : Level) → level_made s k o ≡ Some x → is_standard_text is_process_class o ≡ true → x.process ≡ true
process_level s k None x e f = absurd (cc (f))
process_level s k (Some (BlockText begin ds ss)) x e f = absurd (cc (f))
process_level s k (Some (ProcedureText result h a)) x e f = absurd (cc (f))
process_level s k (Some (ClassText prefix h ds ss)) x e f = absurd (cc (f))
process_level s k (Some (PrefixedText class es ds ss)) x e f = absurd (cc (f))
process_level s k (Some ConnectionText) x e f = absurd (cc (f))
process_level s k (Some (StandardText standard.Linkage)) x e f = absurd (cc (f))
process_level s k (Some (StandardText standard.Link)) x e f = absurd (cc (f))
process_level s k (Some (StandardText standard.Head)) x e f = absurd (cc (f))
process_level s k (Some (StandardText standard.Process)) x e f = let same : standard_level k standard.Process ≡ x = cc (e) in ap (λ z. z.process) (sym same)

-- a process has one
origins_there : (s : Source) (ks : List ℕ) (xs : List Level) → levels_made s ks ≡ Some xs → (t n : ℕ) → slice_get ks n ≡ Some t → is_process_itself s t ≡ true → HasOrigin (origins xs)
unfolding is_process_itself
origins_there s [] xs e t n h f = absurd (cc (h))
origins_there s (k ∷ ks) [] e t n h f = let none = none_made s (k ∷ ks) e in absurd (cc (none))
origins_there s (k ∷ ks) (x ∷ xs) e t zero h f =
    let p = made_of s (k ∷ ks) x xs e in
    let is = p.is in
    let number : p.number ≡ t = cc (is, h) in
    let process = process_level s p.number (text s p.number) x p.first (ap (λ z. is_standard_text is_process_class (text s z)) number ∙ f) in
    subst (λ b. HasOrigin (if b then record { key = Origin; value = first_origin } ∷ origins xs else origins xs)) (sym process) (refl, omega arith)
origins_there s (k ∷ ks) (x ∷ xs) e t (suc n) h f =
    let p = made_of s (k ∷ ks) x xs e in
    let is = p.is in
    let more : p.more ≡ ks = cc (is) in
    with_origin x.process (origins xs) (origins_there s ks xs (subst (λ z. levels_made s z ≡ Some xs) more p.rest) t n h f)

-- and nothing else lies there
origins_only : (key : Key) → (key ≡ Origin → ⊥) → (xs : List Level) → held key (origins xs) ≡ None
origins_only key other [] = refl
origins_only key other (x ∷ xs) = by x.process (origins_only key other xs)
  where
    here : (key : Key) → (key ≡ Origin → ⊥) → held key (origins xs) ≡ None → held key (record { key = Origin; value = first_origin } ∷ origins xs) ≡ None
    here (Declared d) other e = e
    here Result other e = e
    here (Connection token) other e = e
    here Origin other e = absurd (other refl)

    by : (b : Bool) → held key (origins xs) ≡ None → held key (if b then record { key = Origin; value = first_origin } ∷ origins xs else origins xs) ≡ None
    by true e = here key other e
    by false e = e

-- what is declared is none
undeclared_origin : (d : DeclNo) (o : Option Entry) (hs : List Held) → place_of Origin hs ≡ length hs → place_of Origin (with_cell d o hs) ≡ length (with_cell d o hs)
undeclared_origin d (Some (entry.Formal f)) hs e = ap suc e
undeclared_origin d (Some (entry.Variable type)) hs e = ap suc e
undeclared_origin d (Some (entry.Constant type)) hs e = ap suc e
undeclared_origin d (Some (entry.Array element dimensions)) hs e = ap suc e
undeclared_origin d _ hs e = e

no_origin_declared : (s : Source) (ds : List DeclNo) → place_of Origin (cells_from s ds) ≡ length (cells_from s ds)
no_origin_declared s [] = refl
no_origin_declared s (d ∷ ds) = undeclared_origin d (entry_of s.tables d) (cells_from s ds) (no_origin_declared s ds)

-- the hidden cells of a text
hidden_held_one : (key : Key) (c : Bool) (b : BlockTable) (hs : List Held) → held key hs ≡ None → held key (hidden_before c b hs) ≡ None
hidden_held_one key false b hs e = e
hidden_held_one key true b hs e = if_none (same_key (Connection b.first) key) (held key hs) e
  where
    if_none : (c : Bool) (v : Option Val) → v ≡ None → (if c then None else v) ≡ None
    if_none true v e = refl
    if_none false v e = e

hidden_held_from : (s : Source) (k n : ℕ) (key : Key) → MayLie s k key → (bs : List BlockTable) → held key (hidden_from s k n bs) ≡ None
hidden_held_from s k n key f [] = by key (is_process_itself s k) f
  where
    by : (key : Key) (c : Bool) → (key ≡ Origin → c ≡ false) → held key (origin_in c) ≡ None
    by key false f = refl
    by (Declared d) true f = refl
    by Result true f = refl
    by (Connection token) true f = refl
    by Origin true f = absurd (cc (f refl))
hidden_held_from s k n key f (b ∷ bs) = hidden_held_one key (is_connection b.kind && frame_text s n == k) b (hidden_from s k (suc n) bs) (hidden_held_from s k (suc n) key f bs)

hidden_held : (s : Source) (k : ℕ) (key : Key) → MayLie s k key → held key (hidden_in s k) ≡ None
unfolding hidden_in
hidden_held s k key f = hidden_held_from s k 0 key f s.tables.blocks

hidden_origin_one : (c : Bool) (b : BlockTable) (hs : List Held) → place_of Origin (hidden_before c b hs) < length (hidden_before c b hs) → (place_of Origin hs < length hs → held Origin hs ≡ first_origin) → held Origin (hidden_before c b hs) ≡ first_origin
hidden_origin_one false b hs lt f = f lt
hidden_origin_one true b hs lt f = f (omega (arith, lt))

hidden_origin_from : (s : Source) (k n : ℕ) (bs : List BlockTable) → place_of Origin (hidden_from s k n bs) < length (hidden_from s k n bs) → held Origin (hidden_from s k n bs) ≡ first_origin
hidden_origin_from s k n [] lt = by (is_process_itself s k) lt
  where
    by : (c : Bool) → place_of Origin (origin_in c) < length (origin_in c) → held Origin (origin_in c) ≡ first_origin
    by true lt = refl
    by false lt = absurd (omega (arith, lt))
hidden_origin_from s k n (b ∷ bs) lt = hidden_origin_one (is_connection b.kind && frame_text s n == k) b (hidden_from s k (suc n) bs) lt (hidden_origin_from s k (suc n) bs)

hidden_origin : (s : Source) (k : ℕ) → place_of Origin (hidden_in s k) < length (hidden_in s k) → held Origin (hidden_in s k) ≡ first_origin
unfolding hidden_in
hidden_origin s k lt = hidden_origin_from s k 0 s.tables.blocks lt

-- only `process` itself has one
origin_alone_from : (s : Source) (k n : ℕ) (bs : List BlockTable) → is_process_itself s k ≡ false → place_of Origin (hidden_from s k n bs) ≡ length (hidden_from s k n bs)
origin_alone_from s k n [] e = by (is_process_itself s k) e
  where
    by : (c : Bool) → c ≡ false → place_of Origin (origin_in c) ≡ length (origin_in c)
    by false e = refl
    by true e = absurd (cc (e))
origin_alone_from s k n (b ∷ bs) e = by (is_connection b.kind && frame_text s n == k) (origin_alone_from s k (suc n) bs e)
  where
    by : (c : Bool) → place_of Origin (hidden_from s k (suc n) bs) ≡ length (hidden_from s k (suc n) bs) → place_of Origin (hidden_before c b (hidden_from s k (suc n) bs)) ≡ length (hidden_before c b (hidden_from s k (suc n) bs))
    by true f = ap suc f
    by false f = f

origin_alone : (s : Source) (k : ℕ) → is_process_itself s k ≡ false → place_of Origin (hidden_in s k) ≡ length (hidden_in s k)
unfolding hidden_in
origin_alone s k e = origin_alone_from s k 0 s.tables.blocks e

-- ---- the cells of levels

abbrev pub attributes_of : Source → List ℕ → List Held
attributes_of s [] = []
attributes_of s (k ∷ ks) = attributes_from s (numbers_of s k) ++ attributes_of s ks

attributes_end : (s : Source) (ks : List ℕ) (k : ℕ) → attributes_of s (ks ++ k ∷ []) ≡ attributes_of s ks ++ attributes_from s (numbers_of s k)
attributes_end s [] k = no_more (attributes_from s (numbers_of s k))
attributes_end s (x ∷ ks) k =
    ap (λ z. attributes_from s (numbers_of s x) ++ z) (attributes_end s ks k) ∙ sym (append_on (attributes_from s (numbers_of s x)) (attributes_of s ks) (attributes_from s (numbers_of s k)))

pub made_cells : (s : Source) (ks : List ℕ) (xs : List Level) → levels_made s ks ≡ Some xs → cells_of_levels s xs ≡ attributes_of s ks
made_cells s [] xs e = let same : [] ≡ xs = cc (e) in ap (cells_of_levels s) (sym same)
made_cells s (k ∷ ks) [] e = let none = none_made s (k ∷ ks) e in absurd (cc (none))
made_cells s (k ∷ ks) (x ∷ xs) e =
    let p = made_of s (k ∷ ks) x xs e in
    let is = p.is in
    let number : p.number ≡ k = cc (is) in
    let more : p.more ≡ ks = cc (is) in
    let own : x.text ≡ k = level_text s p.number (text s p.number) x p.first ∙ number in
    ap (λ z. attributes_from s (numbers_of s z) ++ cells_of_levels s xs) own ∙ ap (λ z. attributes_from s (numbers_of s k) ++ z) (made_cells s ks xs (subst (λ z. levels_made s z ≡ Some xs) more p.rest))

module _ (s : Source) (code : CodeOf) (m : Instances) (compiled : Compiled s code) (laid : (k : ℕ) → has_levels (text s k) ≡ true → Laid s code k) where
  agrees : Agrees s
  agrees = compiled.agrees

  abbrev own_attributes : ℕ → List Held
  own_attributes k = attributes_from s (numbers_of s k)

  abbrev pub all_attributes : ℕ → List Held
  all_attributes k = attributes_of s (levels_of s k)

  all_first : (k : ℕ) → ClassHas s code k → prefix_of s.tables k ≡ None → all_attributes k ≡ own_attributes k
  all_first k x e = ap (attributes_of s) (levels_first s agrees k e (levels_solid s code compiled k x.levels)) ∙ no_more (own_attributes k)

  all_behind : (k u : ℕ) → prefix_of s.tables k ≡ Some u → all_attributes k ≡ all_attributes u ++ own_attributes k
  all_behind k u e = ap (attributes_of s) (levels_behind s agrees k u e) ∙ attributes_end s (levels_of s u) k

  front : (k u : ℕ) → prefix_of s.tables k ≡ Some u → ClassHas s code u
  front k u e = front_has s code compiled k u e

  -- ---- how many

  own_count : (k : ℕ) (x : ClassHas s code k) → length (cells_in s k (text s k)) ≡ length (own_attributes k)
  own_count k x = ap length x.cells ∙ sym (keys_length (own_attributes k) (cells_from s (numbers_of s k)) (attributes_keys s (numbers_of s k)))

  count_by : {n k : ℕ} → Ends s.tables n k → (x : ClassHas s code k) → x.block.cells ≡ length (all_attributes k)
  unfolding block_in_front
  count_by (last {k = k} e) x =
      let none : cells_of_block (block_in_front s code k) ≡ 0 = ap (λ z. cells_of_block (block_of_text s code z)) e in
      let c = x.has.heads.cells in
      let own = own_count k x in
      let all = ap length (all_first k x e) in
      omega (arith, none, c, own, all)
  count_by (before {k = k} {u = u} e more) x =
      let y = front k u e in
      let there : cells_of_block (block_in_front s code k) ≡ y.block.cells = ap (λ z. cells_of_block (block_of_text s code z)) e ∙ ap cells_of_block y.found in
      let c = x.has.heads.cells in
      let own = own_count k x in
      let inner = count_by more y in
      let all = ap length (all_behind k u e) in
      let long = length-append (all_attributes u) (own_attributes k) in
      omega (arith, there, c, own, inner, all, long)

  pub attributes_count : (k : ℕ) (x : ClassHas s code k) → x.block.cells ≡ length (all_attributes k)
  attributes_count k x = count_by (agrees.ends k) x

  -- ---- the own part

  own_keys : (k : ℕ) (x : ClassHas s code k) → map key_of (own_attributes k) ≡ map key_of (cells_in s k (text s k))
  own_keys k x = attributes_keys s (numbers_of s k) ∙ ap (map key_of) (sym x.cells)

  own_has : (k : ℕ) (x : ClassHas s code k) (key : Key) → place_of key (own_attributes k) < length (own_attributes k) → HasCell s k key
  own_has k x key lt =
      let place = keys_place key (own_attributes k) (cells_in s k (text s k)) (own_keys k x) in
      let many = keys_length (own_attributes k) (cells_in s k (text s k)) (own_keys k x) in
      there_first key (cells_in s k (text s k)) (hidden_in s k) (omega (arith, lt, place, many))

  -- what is among them is in one of the levels
  abbrev Among : ℕ → Key → Type 0
  Among k key = (t : ℕ) × LevelOf s.tables k t × HasCell s t key

  level_by : {n k : ℕ} → Ends s.tables n k → ClassHas s code k → (key : Key) → place_of key (all_attributes k) < length (all_attributes k) → Among k key
  level_by (last {k = k} e) x key lt = (k, innermost, own_has k x key (subst (λ z. place_of key z < length z) (all_first k x e) lt))
  level_by (before {k = k} {u = u} e more) x key lt =
      let both = subst (λ z. place_of key z < length z) (all_behind k u e) lt in
      less_or (place_of key (all_attributes u)) (length (all_attributes u))
      (λ less. let r = level_by more (front k u e) key less in (r.0, outer e r.1, r.2))
      (λ le. let p = place_behind key (all_attributes u) (own_attributes k) le in
      let n = length-append (all_attributes u) (own_attributes k) in
      (k, innermost, own_has k x key (omega (arith, both, p, n))))

  abbrev own_first : (k : ℕ) → ClassHas s code k → Cells
  own_first k x = map first_value (map type_of_cell (own_part s k) ++ x.has.heads.temps)

  module _ (k : ℕ) (x : ClassHas s code k) where
    abbrev behind_own : List CodeType
    behind_own = map type_of_cell (hidden_in s k) ++ x.has.heads.temps

    own_typed : own_first k x ≡ Typed s behind_own (cells_from s (numbers_of s k))
    own_typed = ap (map first_value) (types_split (cells_in s k (text s k)) (hidden_in s k) x.has.heads.temps) ∙ ap (Typed s behind_own) x.cells

    own_at : HeldAt s code m (own_attributes k) (own_first k x)
    own_at = subst (λ z. HeldAt s code m (own_attributes k) z) (sym own_typed) (attributes_at s code m behind_own (numbers_of s k))

    own_empty : (key : Key) → HasCell s k key → MayLie s k key → length (cells_in s k (text s k)) ≤ place_of key (own_part s k) → joined (slice_get (own_first k x) (place_of key (own_part s k))) ≡ None
    own_empty key has f le =
        let behind : length (cells_in s k (text s k)) ≤ place_of key (cells_in s k (text s k)) = less_or (place_of key (cells_in s k (text s k))) (length (cells_in s k (text s k))) (λ lt. let first = place_first key (cells_in s k (text s k)) (hidden_in s k) lt in absurd (omega (arith, lt, first, le))) (λ le. le) in
        typed_slot key (own_part s k) x.has.heads.temps has ∙ ap (λ v. first_value (type_of_value v)) (held_behind key (cells_in s k (text s k)) (hidden_in s k) behind ∙ hidden_held s k key f)

    own_origin : HasCell s k Origin → joined (slice_get (own_first k x) (place_of Origin (own_part s k))) ≡ Some (machine.Of (Integer (pos 0)))
    own_origin has =
        let none : place_of Origin (cells_in s k (text s k)) ≡ length (cells_in s k (text s k)) = ap (place_of Origin) x.cells ∙ no_origin_declared s (numbers_of s k) ∙ sym (ap length x.cells) in
        let place = place_behind Origin (cells_in s k (text s k)) (hidden_in s k) (omega (arith, none)) in
        let long = length-append (cells_in s k (text s k)) (hidden_in s k) in
        typed_slot Origin (own_part s k) x.has.heads.temps has ∙ ap (λ v. first_value (type_of_value v)) (held_behind Origin (cells_in s k (text s k)) (hidden_in s k) (omega (arith, none)) ∙ hidden_origin s k (omega (arith, place, long, has)))

    -- what has one is `process` itself
    origin_of_process : HasCell s k Origin → is_process_itself s k ≡ true
    origin_of_process has =
        let none : place_of Origin (cells_in s k (text s k)) ≡ length (cells_in s k (text s k)) = ap (place_of Origin) x.cells ∙ no_origin_declared s (numbers_of s k) ∙ sym (ap length x.cells) in
        let place = place_behind Origin (cells_in s k (text s k)) (hidden_in s k) (omega (arith, none)) in
        let long = length-append (cells_in s k (text s k)) (hidden_in s k) in
        bool_cases (is_process_itself s k) (λ e. e) (λ e. let alone = origin_alone s k e in absurd (omega (arith, place, long, has, alone)))

    own_slot : (key : Key) → HasCell s k key → MayLie s k key → SlotAt s code m (is_fixed s key) key (held key (own_attributes k)) (joined (slice_get (own_first k x) (place_of key (own_part s k))))
    own_slot key has f = cells_by_key s agrees k (own_attributes k) (own_keys k x) code m (own_first k x) own_at (λ key has f le. own_empty key has f le) key has f

  -- ---- all levels

  -- Each cell of each level but an origin, which begins with 0.
  pub record MostOf (own : ℕ) (hs : List Held) (frame : Cells) : Type 0 where
    pub cells : (t : ℕ) (key : Key) → LevelOf s.tables own t → HasCell s t key → (key ≡ Origin → ⊥) → SlotAt s code m (is_fixed s key) key (held key hs) (joined (slice_get frame (slot_of s code t key)))
    pub there : (t : ℕ) (key : Key) → LevelOf s.tables own t → HasCell s t key → is_declared key ≡ true → (key ≡ Origin → ⊥) → place_of key hs < length hs
    pub origin : (t : ℕ) → LevelOf s.tables own t → HasCell s t Origin → joined (slice_get frame (slot_of s code t Origin)) ≡ Some (machine.Of (Integer (pos 0)))

  first_long : (b : BlockOf) → length (machine.first_cells b) ≡ length b.types
  first_long b = length-map b.types first_value

  module _ (k : ℕ) (x : ClassHas s code k) (e : prefix_of s.tables k ≡ None) where
    only_types : machine.first_cells x.block ≡ own_first k x
    unfolding block_in_front
    only_types = ap (map first_value) (x.has.heads.types ∙ ap (λ z. types_in (block_of_text s code z) ++ (map type_of_cell (own_part s k) ++ x.has.heads.temps)) e)

    only_slot : (key : Key) → slot_of s code k key ≡ place_of key (own_part s k)
    unfolding slot_of block_in_front
    only_slot key = let none : start_of s code k ≡ 0 = ap (λ z. length (types_in (block_of_text s code z))) e in omega (arith, none)

    only_cells : MostOf k (all_attributes k) (machine.first_cells x.block)
    only_cells = record { cells = λ t key level has no. cell t level key has no; there = λ t key level has declared no. there t level key has declared no; origin = λ t level has. origin t level has }
      where
        cell : (t : ℕ) → LevelOf s.tables k t → (key : Key) → HasCell s t key → (key ≡ Origin → ⊥) → SlotAt s code m (is_fixed s key) key (held key (all_attributes k)) (joined (slice_get (machine.first_cells x.block) (slot_of s code t key)))
        cell t innermost key has other =
            subst (λ z. SlotAt s code m (is_fixed s key) key (held key z) (joined (slice_get (machine.first_cells x.block) (slot_of s code k key)))) (sym (all_first k x e))
            (subst (λ z. SlotAt s code m (is_fixed s key) key (held key (own_attributes k)) (joined (slice_get z (slot_of s code k key)))) (sym only_types)
            (subst (λ z. SlotAt s code m (is_fixed s key) key (held key (own_attributes k)) (joined (slice_get (own_first k x) z))) (sym (only_slot key)) (own_slot k x key has (λ same. absurd (other same)))))
        cell t (outer f level) key has other = absurd (cc)

        there : (t : ℕ) → LevelOf s.tables k t → (key : Key) → HasCell s t key → is_declared key ≡ true → (key ≡ Origin → ⊥) → place_of key (all_attributes k) < length (all_attributes k)
        there t innermost key has declared other = subst (λ z. place_of key z < length z) (sym (all_first k x e)) (declared_there s agrees k (own_attributes k) (own_keys k x) key has declared (λ same. absurd (other same)))
        there t (outer f level) key has declared other = absurd (cc)

        origin : (t : ℕ) → LevelOf s.tables k t → HasCell s t Origin → joined (slice_get (machine.first_cells x.block) (slot_of s code t Origin)) ≡ Some (machine.Of (Integer (pos 0)))
        origin t innermost has = ap (λ z. joined (slice_get z (slot_of s code k Origin))) only_types ∙ ap (λ n. joined (slice_get (own_first k x) n)) (only_slot Origin) ∙ own_origin k x has
        origin t (outer f level) has = absurd (cc)

  module _ (k u : ℕ) (x : ClassHas s code k) (y : ClassHas s code u) (e : prefix_of s.tables k ≡ Some u) (ends : (n : ℕ) × Ends s.tables n u) (inner : MostOf u (all_attributes u) (machine.first_cells y.block)) where
    laid_own : Laid s code k
    laid_own = laid k x.levels

    laid_front : Laid s code u
    laid_front = laid u y.levels

    both_types : machine.first_cells x.block ≡ machine.first_cells y.block ++ own_first k x
    unfolding block_in_front
    both_types =
        ap (map first_value) (x.has.heads.types ∙ ap (λ z. types_in (block_of_text s code z) ++ (map type_of_cell (own_part s k) ++ x.has.heads.temps)) e ∙ ap (λ z. types_in z ++ (map type_of_cell (own_part s k) ++ x.has.heads.temps)) y.found)
        ∙ map_both first_value y.block.types (map type_of_cell (own_part s k) ++ x.has.heads.temps)

    both_slot : (key : Key) → slot_of s code k key ≡ length y.block.types + place_of key (own_part s k)
    unfolding slot_of block_in_front
    both_slot key = ap (λ z. length (types_in (block_of_text s code z)) + place_of key (own_part s k)) e ∙ ap (λ z. length (types_in z) + place_of key (own_part s k)) y.found

    -- a text is no level of what is in front of it
    not_in_front : (key : Key) → LevelOf s.tables u k → HasCell s k key → ⊥
    not_in_front key level has = let lt = laid_front.fits k key y.block level has y.found in let slot = both_slot key in omega (arith, lt, slot)

    apart : (key : Key) → HasCell s k key → place_of key (all_attributes u) < length (all_attributes u) → ⊥
    apart key has lt =
        let r = level_by ends.1 y key lt in
        let same : k ≡ r.0 = laid_own.one_level k r.0 key innermost (outer e r.1) has r.2 in
        not_in_front key (subst (LevelOf s.tables u) (sym same) r.1) has

    inward : (v t : ℕ) → prefix_of s.tables k ≡ Some v → LevelOf s.tables v t → LevelOf s.tables u t
    inward v t f level = subst (λ z. LevelOf s.tables z t) (same_some (prefix_of s.tables k) v u f e) level

    held_same : (t : ℕ) → LevelOf s.tables u t → (key : Key) → HasCell s t key → held key (all_attributes u ++ own_attributes k) ≡ held key (all_attributes u)
    held_same t level key has =
        less_or (place_of key (all_attributes u)) (length (all_attributes u)) (held_first key (all_attributes u) (own_attributes k))
        (λ le. held_behind key (all_attributes u) (own_attributes k) le ∙ less_or (place_of key (own_attributes k)) (length (own_attributes k))
        (λ lt. let here = own_has k x key lt in
        let same : k ≡ t = laid_own.one_level k t key innermost (outer e level) here has in
        absurd (not_in_front key (subst (LevelOf s.tables u) (sym same) level) here))
        (λ past. not_held key (own_attributes k) past) ∙ sym (not_held key (all_attributes u) le))

    both_cells : MostOf k (all_attributes k) (machine.first_cells x.block)
    both_cells = record { cells = λ t key level has no. cell t level key has no; there = λ t key level has declared no. there t level key has declared no; origin = λ t level has. origin t level has }
      where
        as_both : (key : Key) (n : ℕ) → SlotAt s code m (is_fixed s key) key (held key (all_attributes u ++ own_attributes k)) (joined (slice_get (machine.first_cells y.block ++ own_first k x) n)) → SlotAt s code m (is_fixed s key) key (held key (all_attributes k)) (joined (slice_get (machine.first_cells x.block) n))
        as_both key n a =
            subst (λ z. SlotAt s code m (is_fixed s key) key (held key z) (joined (slice_get (machine.first_cells x.block) n))) (sym (all_behind k u e))
            (subst (λ z. SlotAt s code m (is_fixed s key) key (held key (all_attributes u ++ own_attributes k)) (joined (slice_get z n))) (sym both_types) a)

        cell : (t : ℕ) → LevelOf s.tables k t → (key : Key) → HasCell s t key → (key ≡ Origin → ⊥) → SlotAt s code m (is_fixed s key) key (held key (all_attributes k)) (joined (slice_get (machine.first_cells x.block) (slot_of s code t key)))
        cell t innermost key has other =
            let value : held key (all_attributes u ++ own_attributes k) ≡ held key (own_attributes k) = less_or (place_of key (all_attributes u)) (length (all_attributes u)) (λ lt. absurd (apart key has lt)) (held_behind key (all_attributes u) (own_attributes k)) in
            let slot = both_slot key in
            let long = first_long y.block in
            let at : slot_of s code k key ≡ length (machine.first_cells y.block) + place_of key (own_part s k) = omega (arith, slot, long) in
            as_both key (slot_of s code k key)
            (subst (λ z. SlotAt s code m (is_fixed s key) key z (joined (slice_get (machine.first_cells y.block ++ own_first k x) (slot_of s code k key)))) (sym value)
            (subst (λ z. SlotAt s code m (is_fixed s key) key (held key (own_attributes k)) (joined z)) (sym (get_behind (machine.first_cells y.block) (own_first k x) (place_of key (own_part s k)) (slot_of s code k key) at)) (own_slot k x key has (λ same. absurd (other same)))))
        cell t (outer {u = v} f level) key has other =
            let within = inward v t f level in
            let lt = laid_front.fits t key y.block within has y.found in
            let long = first_long y.block in
            as_both key (slot_of s code t key)
            (subst (λ z. SlotAt s code m (is_fixed s key) key z (joined (slice_get (machine.first_cells y.block ++ own_first k x) (slot_of s code t key)))) (sym (held_same t within key has))
            (subst (λ z. SlotAt s code m (is_fixed s key) key (held key (all_attributes u)) (joined z)) (sym (get_before (machine.first_cells y.block) (own_first k x) (slot_of s code t key) (omega (arith, lt, long)))) (inner.cells t key within has other)))

        there : (t : ℕ) → LevelOf s.tables k t → (key : Key) → HasCell s t key → is_declared key ≡ true → (key ≡ Origin → ⊥) → place_of key (all_attributes k) < length (all_attributes k)
        there t innermost key has declared other =
            subst (λ z. place_of key z < length z) (sym (all_behind k u e)) (there_behind key (all_attributes u) (own_attributes k) (declared_there s agrees k (own_attributes k) (own_keys k x) key has declared (λ same. absurd (other same))))
        there t (outer {u = v} f level) key has declared other =
            subst (λ z. place_of key z < length z) (sym (all_behind k u e)) (there_first key (all_attributes u) (own_attributes k) (inner.there t key (inward v t f level) has declared other))

        origin : (t : ℕ) → LevelOf s.tables k t → HasCell s t Origin → joined (slice_get (machine.first_cells x.block) (slot_of s code t Origin)) ≡ Some (machine.Of (Integer (pos 0)))
        origin t innermost has =
            let slot = both_slot Origin in
            let long = first_long y.block in
            let at : slot_of s code k Origin ≡ length (machine.first_cells y.block) + place_of Origin (own_part s k) = omega (arith, slot, long) in
            ap (λ z. joined (slice_get z (slot_of s code k Origin))) both_types ∙ ap joined (get_behind (machine.first_cells y.block) (own_first k x) (place_of Origin (own_part s k)) (slot_of s code k Origin) at) ∙ own_origin k x has
        origin t (outer {u = v} f level) has =
            let within = inward v t f level in
            let lt = laid_front.fits t Origin y.block within has y.found in
            let long = first_long y.block in
            ap (λ z. joined (slice_get z (slot_of s code t Origin))) both_types ∙ ap joined (get_before (machine.first_cells y.block) (own_first k x) (slot_of s code t Origin) (omega (arith, lt, long))) ∙ inner.origin t within has

  first_by : {n k : ℕ} → Ends s.tables n k → (x : ClassHas s code k) → MostOf k (all_attributes k) (machine.first_cells x.block)
  first_by (last {k = k} e) x = only_cells k x e
  first_by (before {n = n} {k = k} {u = u} e more) x = both_cells k u x (front k u e) e (n, more) (first_by more (front k u e))

  pub most_cells_of : (k : ℕ) (x : ClassHas s code k) → MostOf k (all_attributes k) (machine.first_cells x.block)
  most_cells_of k x = first_by (agrees.ends k) x

  origin_or : (key : Key) → (key ≡ Origin → ⊥) ⊎ (key ≡ Origin)
  origin_or (Declared d) = inl (λ e. absurd (cc (e)))
  origin_or Result = inl (λ e. absurd (cc (e)))
  origin_or (Connection token) = inl (λ e. absurd (cc (e)))
  origin_or Origin = inr refl

  class_of_level : (k t : ℕ) → ClassHas s code k → LevelOf s.tables k t → ClassHas s code t
  class_of_level k t x level = class_has s code compiled t (level_levels s code compiled k t level x.levels)

  -- what is no process has no origin
  module _ (k : ℕ) (x : ClassHas s code k) (other : (t : ℕ) → LevelOf s.tables k t → is_process_itself s t ≡ false) where
    not_there : (t : ℕ) → LevelOf s.tables k t → HasCell s t Origin → ⊥
    not_there t level has = let e = origin_of_process t (class_of_level k t x level) has in let f = other t level in absurd (cc (e, f))

    pub block_cells_of : CellsOf s code m k (all_attributes k) (machine.first_cells x.block)
    block_cells_of = record {
      cells = λ t key level has. by_cell t key level has (origin_or key);
      there = λ t key level has declared. by_there t key level has declared (origin_or key);
    }
      where
        most : MostOf k (all_attributes k) (machine.first_cells x.block)
        most = most_cells_of k x

        by_cell : (t : ℕ) (key : Key) → LevelOf s.tables k t → HasCell s t key → (key ≡ Origin → ⊥) ⊎ (key ≡ Origin) → SlotAt s code m (is_fixed s key) key (held key (all_attributes k)) (joined (slice_get (machine.first_cells x.block) (slot_of s code t key)))
        by_cell t key level has (inl other) = most.cells t key level has other
        by_cell t key level has (inr e) = absurd (not_there t level (subst (HasCell s t) e has))

        by_there : (t : ℕ) (key : Key) → LevelOf s.tables k t → HasCell s t key → is_declared key ≡ true → (key ≡ Origin → ⊥) ⊎ (key ≡ Origin) → place_of key (all_attributes k) < length (all_attributes k)
        by_there t key level has declared (inl other) = most.there t key level has declared other
        by_there t key level has declared (inr e) = absurd (not_there t level (subst (HasCell s t) e has))

  -- the cells of an object, with an origin if it is a process
  module _ (k : ℕ) (x : ClassHas s code k) (xs : List Level) (made : levels_made s (levels_of s k) ≡ Some xs) where
    most_of : MostOf k (all_attributes k) (machine.first_cells x.block)
    most_of = most_cells_of k x

    one_less : (n : ℕ) → 0 < n → (m : ℕ) × (suc m ≡ n)
    one_less zero lt = absurd (omega (arith, lt))
    one_less (suc n) lt = (n, refl)

    process_there : (t : ℕ) → LevelOf s.tables k t → HasCell s t Origin → HasOrigin (origins xs)
    process_there t level has =
        let solid = levels_solid s code compiled k x.levels in
        let some = levels_some s agrees t (solid_level s agrees k t level solid) in
        let n = one_less (length (levels_of s t)) some in
        origins_there s (levels_of s k) xs made t n.0 (level_place s agrees k t n.0 level solid n.1) (origin_of_process t (class_of_level k t x level) has)

    -- no attribute is an origin
    none_among : (ks : List ℕ) → place_of Origin (attributes_of s ks) ≡ length (attributes_of s ks)
    none_among [] = refl
    none_among (j ∷ ks) =
        let own : place_of Origin (attributes_from s (numbers_of s j)) ≡ length (attributes_from s (numbers_of s j)) =
        keys_place Origin (attributes_from s (numbers_of s j)) (cells_from s (numbers_of s j)) (attributes_keys s (numbers_of s j)) ∙ no_origin_declared s (numbers_of s j) ∙ sym (keys_length (attributes_from s (numbers_of s j)) (cells_from s (numbers_of s j)) (attributes_keys s (numbers_of s j))) in
        let behind = place_behind Origin (attributes_from s (numbers_of s j)) (attributes_of s ks) (omega (arith, own)) in
        let long = length-append (attributes_from s (numbers_of s j)) (attributes_of s ks) in
        let more = none_among ks in
        omega (arith, own, behind, long, more)

    pub first_cells_of : CellsOf s code m k (all_attributes k ++ origins xs) (machine.first_cells x.block)
    first_cells_of = record {
      cells = λ t key level has. by_cell t key level has (origin_or key);
      there = λ t key level has declared. by_there t key level has declared (origin_or key);
    }
      where
        unchanged : (key : Key) → (key ≡ Origin → ⊥) → held key (all_attributes k ++ origins xs) ≡ held key (all_attributes k)
        unchanged key other =
            less_or (place_of key (all_attributes k)) (length (all_attributes k)) (held_first key (all_attributes k) (origins xs))
            (λ le. held_behind key (all_attributes k) (origins xs) le ∙ origins_only key other xs ∙ sym (not_held key (all_attributes k) le))

        by_cell : (t : ℕ) (key : Key) → LevelOf s.tables k t → HasCell s t key → (key ≡ Origin → ⊥) ⊎ (key ≡ Origin) → SlotAt s code m (is_fixed s key) key (held key (all_attributes k ++ origins xs)) (joined (slice_get (machine.first_cells x.block) (slot_of s code t key)))
        by_cell t key level has (inl other) = subst (λ z. SlotAt s code m (is_fixed s key) key z (joined (slice_get (machine.first_cells x.block) (slot_of s code t key)))) (sym (unchanged key other)) (most_of.cells t key level has other)
        by_cell t key level has (inr e) =
            let has' = subst (HasCell s t) e has in
            let origin = process_there t level has' in
            let none = none_among (levels_of s k) in
            let value : held Origin (all_attributes k ++ origins xs) ≡ first_origin = held_behind Origin (all_attributes k) (origins xs) (omega (arith, none)) ∙ origin.0 in
            subst (λ y. SlotAt s code m (is_fixed s y) y (held y (all_attributes k ++ origins xs)) (joined (slice_get (machine.first_cells x.block) (slot_of s code t y)))) (sym e)
            (subst (λ z. Both (ValAt s code m) z (joined (slice_get (machine.first_cells x.block) (slot_of s code t Origin)))) (sym value)
            (subst (λ z. Both (ValAt s code m) first_origin z) (sym (most_of.origin t level has')) plain_at))

        by_there : (t : ℕ) (key : Key) → LevelOf s.tables k t → HasCell s t key → is_declared key ≡ true → (key ≡ Origin → ⊥) ⊎ (key ≡ Origin) → place_of key (all_attributes k ++ origins xs) < length (all_attributes k ++ origins xs)
        by_there t key level has declared (inl other) = there_first key (all_attributes k) (origins xs) (most_of.there t key level has declared other)
        by_there t key level has declared (inr e) =
            let origin = process_there t level (subst (HasCell s t) e has) in
            subst (λ y. place_of y (all_attributes k ++ origins xs) < length (all_attributes k ++ origins xs)) (sym e) (there_behind Origin (all_attributes k) (origins xs) origin.1)
