-- What is seen has a cell in a text around, and a connection has one where it stands.
use Rattle.std.proofs.Common.{◌≡◌, ◌<◌, ◌+◌, ◌⊎◌, inl, inr, ⊎_elim, ℕ, zero, suc, Bool, true, false, List, [], ◌∷◌, ◌++◌, length, map, Option, Some, None, refl, sym, ap, ◌∙◌, subst, arith}
use Rattle.std.proofs.lemmas.Bool.{eq-eqb}
use Rattle.std.specs.Prelude.{◌==◌, ◌&&◌, ◌||◌, nat_eq, slice_get, if◌then◌else◌}
use Rattle.sim_base.specs.declared.numbering.DeclNo.{DeclNo}
use Rattle.sim_scope.specs.declared.scopes.Declaration.{Declaration as Row}
use Rattle.sim_scope.specs.declared.types.Entry.{Entry}
use Rattle.sim_scope.specs.declared.types.Entry.TheVariants as entry
use Rattle.sim_scope.specs.declared.types.SimType.{SimType}
use Rattle.sim_scope.specs.Access.{encloser}
use Rattle.sim_scope.specs.Levels.{base, base_in, has_level, holds, some_level_of}
use Rattle.sim_scope.specs.Scopes.{entry_of}
use Rattle.sim_scope.specs.Source.{Source, block_of}
use Rattle.sim_scope.specs.Tables.{BlockOf, Tables}
use Rattle.sim_tree.specs.declared.stmt.Constant.{Constant}
use Rattle.sim_tree.specs.declared.stmt.Constant.TheVariants as constant
use Rattle.sim_tree.specs.declared.stmt.TypeName.{TypeName}
use Rattle.sim_tree.specs.declared.stmt.Variable.{Variable}
use Rattle.sim_tree.specs.Syntax.{Arrays, Declarations, DeclareClass, DeclareProcedure, Heading, NoDeclaration, Statement, Variables, With}
use Rattle.sim_values.specs.Plain.{Character, Integer, Plain, Truth}
use Rattle.sim_meaning.specs.Attributes.{cell_of_connection, first_in, is_connection}
use Rattle.sim_meaning.specs.Constants.{TextConstant, constant_from, text_constant, text_constants}
use Rattle.sim_meaning.specs.Entries.{cells_from, first_cells, numbers_in, numbers_of, with_cell, with_result}
use Rattle.sim_meaning.specs.Levels.{is_class}
use Rattle.sim_meaning.specs.Pending.{Connection, Declared, Held, Key, Result, same_key}
use Rattle.sim_meaning.specs.Texts.{BlockText, ClassText, ConnectionText, PrefixedText, ProcedureText, among_declarations, among_variables, constant_in, constant_of, constant_value, program_texts, row_constant, text, value_in}
use Rattle.sim_meaning.specs.Texts as texts
use Rattle.sim_sound.specs.Held.{Among, Around, Holds, entry_holds, first, further, held_by, itself, later, result_holds}
use Rattle.sim_sound.specs.Typed.{ResultWritten, TextTyped, Typed}
use Rattle.sim_sound.proofs.Attributes.{holds_result}
use Rattle.sim_sound.proofs.Changes.{equal_same}
use Rattle.sim_sound.proofs.Prefixes.{level_is}
use Rattle.sim_sound.proofs.Prefixes as prefixes
use Rattle.sim_sound.proofs.Lists.{numbers_equal, there_get, there_is}
use Rattle.sim_sound.proofs.Reach.{among_block}
use Rattle.sim_sound.proofs.Values.{KeyAmong, first_key, key_of, later_key}
use Rattle.codegen_expr.specs.Built.{HasBuilt, PlainBuilt, StandsIn, is_around, is_level, is_there, place_from, slot_in}
use Rattle.codegen_expr.specs.Sites.{cells_in, connects, frame_text, hidden_before, hidden_from, hidden_in, in_front, is_connected, own_cells, own_part, prefix_of}
use Rattle.codegen_expr.specs.Sites as sites
use Rattle.codegen_expr.proofs.Around.{found_here, found_outside, level_front, level_here}
use Rattle.sim_built.specs.Laid.{Laid}

-- ---- the search outward

module _ (s : Tables) (falls : (t u : ℕ) → encloser s t ≡ Some u → u < t) where
  -- a level of a text around
  around_found : (n t u k : ℕ) → t < n → Around s t u → is_level s (length s.blocks) u k ≡ true → is_around s n t k ≡ true
  around_found zero t u k lt a level = absurd (omega (arith, lt))
  around_found (suc n) t _ k lt itself level = found_here s k n t level
  around_found (suc n) t u k lt (further {u = w} e a) level = by_level (is_level s (length s.blocks) t k) refl (around_found n w u k (omega (arith, falls t w e, lt)) a level)
    where
      by_level : (c : Bool) → is_level s (length s.blocks) t k ≡ c → is_around s n w k ≡ true → is_around s (suc n) t k ≡ true
      by_level true is deep = found_here s k n t is
      by_level false is deep = found_outside s k n t w is e ∙ deep

-- ---- keys and places

key_split : (key k : Key) (ks : List Key) → KeyAmong key (k ∷ ks) → (k ≡ key) ⊎ KeyAmong key ks
key_split key _ ks first_key = inl refl
key_split key k ks (later_key a) = inr a

place_there : (n : ℕ) (key : Key) (hs : List Held) → KeyAmong key (map key_of hs) → is_there (place_from n key hs) ≡ true
place_there n key [] a = elim a [ ]
place_there n key (h ∷ hs) a = by_key (same_key h.key key) refl (key_split key h.key (map key_of hs) a) (λ more. place_there (suc n) key hs more)
  where
    by_key : (b : Bool) → same_key h.key key ≡ b → (h.key ≡ key) ⊎ KeyAmong key (map key_of hs) → (KeyAmong key (map key_of hs) → is_there (place_from (suc n) key hs) ≡ true) → is_there (if b then Some n else place_from (suc n) key hs) ≡ true
    by_key true e x more = refl
    by_key false e (inl same) more = let yes : same_key h.key key ≡ true = subst (λ z. same_key z key ≡ true) (sym same) (equal_same key) in absurd (cc)
    by_key false e (inr x) more = more x

-- ---- constants

text_plain : (n token : ℕ) (cs : List TextConstant) (v : Plain) → constant_from n token cs ≡ Some v → PlainBuilt v
text_plain n token [] v e = absurd (cc)
text_plain n token (c ∷ cs) v e = by_token (c.token == token) (λ f. text_plain (suc n) token cs v f) e
  where
    by_token : (b : Bool) → (constant_from (suc n) token cs ≡ Some v → PlainBuilt v) → (if b then Some (Rattle.sim_code.specs.Rows.text_value n c.bytes) else constant_from (suc n) token cs) ≡ Some v → PlainBuilt v
    by_token true more f = let same : Rattle.sim_code.specs.Rows.text_value n c.bytes ≡ v = cc in subst PlainBuilt same tt
    by_token false more f = more f

pub text_built : (s : Source) (token : ℕ) (v : Plain) → text_constant s token ≡ Some v → PlainBuilt v
unfolding text_constant
text_built s token v e = text_plain 0 token (text_constants s) v e

value_plain : (s : Source) (c : Constant) (v : Plain) → constant_value s c ≡ Some v → PlainBuilt v
value_plain s (constant.Integer sign token z) v e = let same : Integer (texts.with_sign sign z) ≡ v = cc in subst PlainBuilt same tt
value_plain s (constant.Character token c) v e = let same : Character c ≡ v = cc in subst PlainBuilt same tt
value_plain s (constant.Text token bytes) v e = text_built s token.0 v e
value_plain s (constant.True token) v e = let same : Truth true ≡ v = cc in subst PlainBuilt same tt
value_plain s (constant.False token) v e = let same : Truth false ≡ v = cc in subst PlainBuilt same tt

optional_plain : (s : Source) (c : Option Constant) (v : Plain) → value_in s c ≡ Some v → PlainBuilt v
optional_plain s None v e = absurd (cc)
optional_plain s (Some c) v e = value_plain s c v e

variables_plain : (s : Source) (token : ℕ) (vs : List Variable) (other : Option Plain) (v : Plain) → (other ≡ Some v → PlainBuilt v) → among_variables s token vs other ≡ Some v → PlainBuilt v
variables_plain s token [] other v more e = more e
variables_plain s token (x ∷ xs) other v more e = by_token (x.name.token.0 == token) (λ f. variables_plain s token xs other v more f) e
  where
    by_token : (b : Bool) → (among_variables s token xs other ≡ Some v → PlainBuilt v) → (if b then value_in s x.value else among_variables s token xs other) ≡ Some v → PlainBuilt v
    by_token true behind f = optional_plain s x.value v f
    by_token false behind f = behind f

declarations_plain : (s : Source) (token : ℕ) (ds : Declarations) (v : Plain) → among_declarations s token ds ≡ Some v → PlainBuilt v
declarations_plain s token NoDeclaration v e = absurd (cc)
declarations_plain s token (With (Variables type vs) ds) v e = variables_plain s token vs (among_declarations s token ds) v (λ f. declarations_plain s token ds v f) e
declarations_plain s token (With (Arrays type i segments) ds) v e = declarations_plain s token ds v e
declarations_plain s token (With (DeclareProcedure result i h a end) ds) v e = declarations_plain s token ds v e
declarations_plain s token (With (DeclareClass prefix i h interface a end) ds) v e = declarations_plain s token ds v e

in_text : (s : Source) (x : Option texts.Text) (token : ℕ) (v : Plain) → constant_in s x token ≡ Some v → PlainBuilt v
in_text s None token v e = absurd (cc)
in_text s (Some (BlockText begin ds ss)) token v e = declarations_plain s token ds v e
in_text s (Some (ClassText prefix h ds ss)) token v e = declarations_plain s token ds v e
in_text s (Some (PrefixedText class arguments ds ss)) token v e = declarations_plain s token ds v e
in_text s (Some _) token v e = absurd (cc)

row_plain : (s : Source) (r : Option Row) (v : Plain) → row_constant s r ≡ Some v → PlainBuilt v
row_plain s None v e = absurd (cc)
row_plain s (Some row) v e = in_text s (text s row.block) row.token.0 v e

pub constant_built : (s : Source) (d : DeclNo) (v : Plain) → constant_of s d ≡ Some v → PlainBuilt v
unfolding constant_of
constant_built s d v e = row_plain s (slice_get s.tables.declarations d.0) v e

-- ---- lists of cells

among_front : (key : Key) (xs ys : List Held) → KeyAmong key (map key_of xs) → KeyAmong key (map key_of (xs ++ ys))
among_front key [] ys a = elim a [ ]
among_front key (x ∷ xs) ys a =
    ⊎_elim (λ same. subst (λ k. KeyAmong k (x.key ∷ map key_of (xs ++ ys))) same first_key) (λ b. later_key (among_front key xs ys b)) (key_split key x.key (map key_of xs) a)

among_back : (key : Key) (xs ys : List Held) → KeyAmong key (map key_of ys) → KeyAmong key (map key_of (xs ++ ys))
among_back key [] ys a = a
among_back key (x ∷ xs) ys a = later_key (among_back key xs ys a)

-- what holds something has a cell
has_cell : (s : Source) (c : Bool) (d : DeclNo) (e : Option Entry) (hs : List Held) (h : Holds) → entry_holds s c e ≡ Some h → KeyAmong (Declared d.0) (map key_of (with_cell d e hs))
has_cell s c d (Some (entry.Variable type)) hs h e = first_key
has_cell s c d (Some (entry.Constant type)) hs h e = first_key
has_cell s c d (Some (entry.Array element dimensions)) hs h e = first_key
has_cell s c d (Some (entry.Formal f)) hs h e = first_key
has_cell s c d (Some _) hs h e = absurd (cc)
has_cell s c d None hs h e = absurd (cc)

cell_later : (d e : DeclNo) (x : Option Entry) (hs : List Held) → KeyAmong (Declared d.0) (map key_of hs) → KeyAmong (Declared d.0) (map key_of (with_cell e x hs))
cell_later d e (Some (entry.Variable type)) hs a = later_key a
cell_later d e (Some (entry.Constant type)) hs a = later_key a
cell_later d e (Some (entry.Array element dimensions)) hs a = later_key a
cell_later d e (Some (entry.Formal f)) hs a = later_key a
cell_later d e (Some _) hs a = a
cell_later d e None hs a = a

listed_key : (s : Source) (ds : List DeclNo) (d : DeclNo) (c : Bool) (h : Holds) → entry_holds s c (entry_of s.tables d) ≡ Some h → Among d ds → KeyAmong (Declared d.0) (map key_of (cells_from s ds))
listed_key s [] d c h e a = elim a [ ]
listed_key s (x ∷ ds) d c h e first = has_cell s c d (entry_of s.tables d) (cells_from s ds) h e
listed_key s (x ∷ ds) d c h e (later a) = cell_later d x (entry_of s.tables x) (cells_from s ds) (listed_key s ds d c h e a)

behind_result : (result : Option TypeName) (key : Key) (hs : List Held) → KeyAmong key (map key_of hs) → KeyAmong key (map key_of (with_result result hs))
behind_result None key hs a = a
behind_result (Some type) key hs a = later_key a

-- the cells of connections
hidden_more : (x : Bool) (b : BlockOf) (hs : List Held) (key : Key) → KeyAmong key (map key_of hs) → KeyAmong key (map key_of (hidden_before x b hs))
hidden_more true b hs key a = later_key a
hidden_more false b hs key a = a

hidden_here : (x : Bool) (b : BlockOf) (hs : List Held) → x ≡ true → KeyAmong (Connection b.first) (map key_of (hidden_before x b hs))
hidden_here true b hs e = first_key
hidden_here false b hs e = absurd (cc)

both_true : (a b : Bool) → a ≡ true → b ≡ true → (a && b) ≡ true
both_true true true e f = refl
both_true true false e f = absurd (cc)
both_true false b e f = absurd (cc)

hidden_there : (s : Source) (k n : ℕ) (bs : List BlockOf) (i : ℕ) (b : BlockOf) → slice_get bs i ≡ Some b → sites.is_connection b.kind ≡ true → frame_text s (n + i) ≡ k → KeyAmong (Connection b.first) (map key_of (hidden_from s k n bs))
hidden_there s k n [] i b at c f = absurd (cc)
hidden_there s k n (x ∷ bs) zero b at c f =
    let same : x ≡ b = cc in
    let number : n ≡ n + 0 = omega arith in
    let kind : sites.is_connection x.kind ≡ true = ap (λ (z : BlockOf). sites.is_connection z.kind) same ∙ c in
    let frame : frame_text s n ≡ k = ap (frame_text s) number ∙ f in
    subst (λ (z : BlockOf). KeyAmong (Connection z.first) (map key_of (hidden_from s k n (x ∷ bs)))) same
    (hidden_here (sites.is_connection x.kind && frame_text s n == k) x (hidden_from s k (suc n) bs) (both_true (sites.is_connection x.kind) (frame_text s n == k) kind (eq-eqb (frame_text s n) k frame)))
hidden_there s k n (x ∷ bs) (suc i) b at c f =
    let number : suc n + i ≡ n + suc i = omega arith in
    hidden_more (sites.is_connection x.kind && frame_text s n == k) x (hidden_from s k (suc n) bs) (Connection b.first) (hidden_there s k (suc n) bs i b at c (ap (frame_text s) number ∙ f))

-- ---- texts and their cells

pub class_is_solid : (x : Option texts.Text) → is_class x ≡ true → is_connection x ≡ false
class_is_solid None e = absurd (cc)
class_is_solid (Some (ClassText prefix h ds ss)) e = refl
class_is_solid (Some (texts.StandardText which)) e = refl
class_is_solid (Some (BlockText begin ds ss)) e = absurd (cc)
class_is_solid (Some (ProcedureText result h a)) e = absurd (cc)
class_is_solid (Some (PrefixedText class arguments ds ss)) e = absurd (cc)
class_is_solid (Some ConnectionText) e = absurd (cc)

module _ (s : Source) (ok : Typed s) (laid : Laid s) where
  pub text_before : (k : ℕ) (x : texts.Text) → text s k ≡ Some x → k < length s.tables.blocks
  unfolding text
  text_before k x e = subst (λ n. k < n) (sym laid.as_many) (there_is (program_texts s.program.prefix s.program.block) k x e)

  text_at : (k : ℕ) → k < length s.tables.blocks → (x : texts.Text) × (text s k ≡ Some x)
  unfolding text
  text_at k lt = there_get (program_texts s.program.prefix s.program.block) k (subst (λ n. k < n) laid.as_many lt)

  -- a text around is found
  pub stands : (t k : ℕ) (x : texts.Text) → text s t ≡ Some x → Around s.tables t k → StandsIn s t k
  stands t k x e a = record { found = around_found s.tables laid.falls (length s.tables.blocks) t k k (text_before t x e) a (level_here s.tables k (length s.tables.blocks) k refl) }

  -- what a class has in front of it is its prefix; a connection has nothing there
  pub front_is : (k : ℕ) → is_connection (text s k) ≡ false → prefix_of s.tables k ≡ base s.tables k
  unfolding prefix_of is_connected base
  front_is k solid = by_row (slice_get s.tables.blocks k) (laid.connected k)
    where
      by_row : (b : Option BlockOf) → connects b ≡ is_connection (text s k) → in_front b ≡ base_in b
      by_row None c = refl
      by_row (Some b) c = ap (λ z. if z then None else b.base) (c ∙ solid)

  pub no_front : (k : ℕ) → is_connection (text s k) ≡ true → prefix_of s.tables k ≡ None
  unfolding prefix_of is_connected
  no_front k is = by_row (slice_get s.tables.blocks k) (laid.connected k)
    where
      by_row : (b : Option BlockOf) → connects b ≡ is_connection (text s k) → in_front b ≡ None
      by_row None c = refl
      by_row (Some b) c = ap (λ z. if z then None else b.base) (c ∙ is)

  -- a level is found
  level_found : (n t v : ℕ) → is_connection (text s t) ≡ false → some_level_of s.tables n (λ b. nat_eq b v) t ≡ true → is_level s.tables n t v ≡ true
  unfolding some_level_of
  level_found zero t v solid e = absurd (cc)
  level_found (suc n) t v solid e = by_test (nat_eq t v) refl e (λ b f g. level_found n b v (class_is_solid (text s b) ((ok.prefixes).prefixed_by t b solid f).prefix) g)
    where
      by_base : (t == v) ≡ false → (o : Option ℕ) → base s.tables t ≡ o → holds (λ b. some_level_of s.tables n (λ b. nat_eq b v) b) o ≡ true → ((b : ℕ) → base s.tables t ≡ Some b → some_level_of s.tables n (λ b. nat_eq b v) b ≡ true → is_level s.tables n b v ≡ true) → is_level s.tables (suc n) t v ≡ true
      by_base other None is f deep = absurd (cc)
      by_base other (Some b) is f deep = level_front s.tables v n t b (λ same. (let yes : (t == v) ≡ true = eq-eqb t v same in cc)) (front_is t solid ∙ is) ∙ deep b is f

      by_test : (c : Bool) → nat_eq t v ≡ c → (c || holds (λ b. some_level_of s.tables n (λ b. nat_eq b v) b) (base s.tables t)) ≡ true → ((b : ℕ) → base s.tables t ≡ Some b → some_level_of s.tables n (λ b. nat_eq b v) b ≡ true → is_level s.tables n b v ≡ true) → is_level s.tables (suc n) t v ≡ true
      by_test true is f deep = level_here s.tables v (suc n) t (numbers_equal t v is)
      by_test false is f deep = by_base is (base s.tables t) refl f deep

  -- a level of a text around is found
  pub stands_level : (t u v : ℕ) (x : texts.Text) → text s t ≡ Some x → Around s.tables t u → is_connection (text s u) ≡ false → has_level s.tables u v ≡ true → StandsIn s t v
  unfolding has_level
  stands_level t u v x e a solid level = record { found = around_found s.tables laid.falls (length s.tables.blocks) t u v (text_before t x e) a (level_found (length s.tables.blocks) u v solid level) }

  slot_if : (u : ℕ) (key : Key) → KeyAmong key (map key_of (own_part s u)) → is_there (slot_in s u key) ≡ true
  unfolding slot_in
  slot_if u key a = place_there 0 key (own_part s u) a

  slot_of_text : (u : ℕ) (key : Key) (x : texts.Text) → text s u ≡ Some x → KeyAmong key (map key_of (own_cells s u x)) → is_there (slot_in s u key) ≡ true
  slot_of_text u key x e a = slot_if u key (among_front key (cells_in s u (text s u)) (hidden_in s u) (subst (λ z. KeyAmong key (map key_of (cells_in s u z))) (sym e) a))

  -- a connection has a cell where it stands
  pub connection_has : (k : ℕ) → is_connection (text s k) ≡ true → is_there (slot_in s (frame_text s k) (cell_of_connection s k)) ≡ true
  unfolding is_connected hidden_in
  connection_has k is = by_row (slice_get s.tables.blocks k) refl (laid.connected k ∙ is)
    where
      by_row : (b : Option BlockOf) → slice_get s.tables.blocks k ≡ b → connects b ≡ true → is_there (slot_in s (frame_text s k) (Connection (first_in b))) ≡ true
      by_row None at c = absurd (cc)
      by_row (Some b) at c =
          let number : 0 + k ≡ k = omega arith in
          slot_if (frame_text s k) (Connection b.first) (among_back (Connection b.first) (cells_in s (frame_text s k) (text s (frame_text s k))) (hidden_in s (frame_text s k)) (hidden_there s (frame_text s k) 0 s.tables.blocks k b at c (ap (frame_text s) number)))

  numbers_there : (k : ℕ) (d : DeclNo) (b : Option BlockOf) → slice_get s.tables.blocks k ≡ b → Among d (numbers_in b) → k < length s.tables.blocks
  numbers_there k d None e a = elim a [ ]
  numbers_there k d (Some b) e a = there_is s.tables.blocks k b e

  key_in_text : (u : ℕ) (d : DeclNo) (h : Holds) (c : Bool) (x : texts.Text) → is_connection (Some x) ≡ false → TextTyped s u x → entry_holds s c (entry_of s.tables d) ≡ Some h → Among d (numbers_of s u) → KeyAmong (Declared d.0) (map key_of (own_cells s u x))
  unfolding first_cells
  key_in_text u d h c (BlockText begin ds ss) solid typed e a = listed_key s (numbers_of s u) d c h e a
  key_in_text u d h c (ProcedureText result g b) solid typed e a = behind_result result (Declared d.0) (cells_from s (numbers_of s u)) (listed_key s (numbers_of s u) d c h e a)
  key_in_text u d h c (ClassText prefix g ds ss) solid typed e a = listed_key s (numbers_of s u) d c h e a
  key_in_text u d h c (PrefixedText class es ds ss) solid typed e a = listed_key s (numbers_of s u) d c h e a
  key_in_text u d h c (texts.StandardText which) solid typed e a = listed_key s (numbers_of s u) d c h e a
  key_in_text u d h c ConnectionText solid typed e a = absurd (cc)

  -- what is declared in a text has a cell in it
  pub slot_listed : (u : ℕ) (d : DeclNo) (h : Holds) (c : Bool) → is_connection (text s u) ≡ false → entry_holds s c (entry_of s.tables d) ≡ Some h → Among d (numbers_of s u) → is_there (slot_in s u (Declared d.0)) ≡ true
  slot_listed u d h c solid e a =
      let x = text_at u (numbers_there u d (slice_get s.tables.blocks u) refl a) in
      slot_of_text u (Declared d.0) x.0 x.1 (key_in_text u d h c x.0 (ap is_connection (sym x.1) ∙ solid) (ok.texts u x.0 x.1) e a)

  slot_of_result : (u : ℕ) (type : TypeName) (g : Heading) (b : Statement) → text s u ≡ Some (ProcedureText (Some type) g b) → is_there (slot_in s u Result) ≡ true
  unfolding first_cells
  slot_of_result u type g b e = slot_of_text u Result (ProcedureText (Some type) g b) e first_key

  -- the result of a declared procedure has a cell
  pub result_has : (d : DeclNo) (result : Option SimType) (k : ℕ) (h : Holds) → entry_of s.tables d ≡ Some (entry.Procedure result k) → result_holds s k ≡ Some h → is_there (slot_in s k Result) ≡ true
  result_has d result k h e holds = let y = ok.procedures d result k e in by_given y.given y.heading y.body y.is (subst (ResultWritten y.given) holds (ok.texts k (ProcedureText y.given y.heading y.body) y.is).result)
    where
      by_given : (given : Option TypeName) (g : Heading) (b : Statement) → text s k ≡ Some (ProcedureText given g b) → ResultWritten given (Some h) → is_there (slot_in s k Result) ≡ true
      by_given None g b is w = absurd w
      by_given (Some type) g b is w = slot_of_result k type g b is

  pub result_typed : (d : DeclNo) (type : SimType) (k : ℕ) → entry_of s.tables d ≡ Some (entry.Procedure (Some type) k) → is_there (slot_in s k Result) ≡ true
  result_typed d type k e = result_has d (Some type) k (held_by s type) e (holds_result s ok d (Some type) k e)

  among_held : (d : DeclNo) (h : Holds) (c : Bool) → entry_holds s c (entry_of s.tables d) ≡ Some h → Among d (numbers_of s (block_of s d))
  among_held d h c e = among_block s ok d c h e

  -- what holds something has a cell where it is declared
  pub declared_has : (d : DeclNo) (h : Holds) (c : Bool) → is_connection (text s (block_of s d)) ≡ false → entry_holds s c (entry_of s.tables d) ≡ Some h → HasBuilt s (block_of s d) (Declared d.0)
  declared_has d h c solid e = slot_listed (block_of s d) d h c solid e (among_held d h c e)

  -- a level of a text that is no connection is none
  pub level_solid : (t u : ℕ) → is_connection (text s t) ≡ false → has_level s.tables t u ≡ true → is_connection (text s u) ≡ false
  level_solid t u solid e = prefixes.level_solid s ok solid (level_is s t u e)
