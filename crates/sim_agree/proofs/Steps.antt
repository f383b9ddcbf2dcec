-- What one mark does to the tables, but for the beginning and the end of a block.
use Rattle.std.proofs.Common.{◌≡◌, ◌<◌, ◌+◌, ◌⊎◌, inl, inr, ℕ, zero, suc, Bool, true, false, List, [], ◌∷◌, ◌++◌, length, Option, Some, None, refl, sym, ap, ◌∙◌, subst, arith}
use Rattle.std.specs.Prelude.{◌||◌, cond, nat_eq, nat_lt, not, position, slice_get, slice_set}
use Rattle.std.specs.List.{list_any, position_or_len}
use Rattle.std.specs.Str.{bytes_eq}
use Rattle.std.proofs.lemmas.List.{length-append, length-set}
use Rattle.std.proofs.lemmas.Option.{slice_get_within}
use Rattle.std.proofs.lemmas.Slice.Eq.{bytes_eq-Decides}
use Rattle.std.proofs.lemmas.Bool.Decides.{nat_tests}
use Rattle.sim_base.specs.declared.numbering.DeclNo.{DeclNo}
use Rattle.sim_base.specs.declared.rule.Rule.{Rule}
use Rattle.sim_tree.specs.declared.expr.Identifier.{Identifier}
use Rattle.sim_scope.specs.declared.scopes.Declaration.{Declaration}
use Rattle.sim_scope.specs.declared.types.BlockKind.{BlockKind}
use Rattle.sim_scope.specs.declared.types.Entry.{Entry}
use Rattle.sim_scope.specs.declared.types.Entry.TheVariants as entry
use Rattle.sim_scope.specs.declared.types.SimType.{SimType}
use Rattle.sim_scope.specs.declared.types.StandardPrefix.{StandardPrefix}
use Rattle.sim_scope.specs.declared.types.WrittenMode.{WrittenMode}
use Rattle.sim_scope.specs.Building.{BuildingOf, broken_if, row_of, with_name}
use Rattle.sim_scope.specs.Scopes.{declared_in, is_procedure_entry, numbered}
use Rattle.sim_scope.specs.Tables.{BlockOf, Tables}
use Rattle.sim_scope.proofs.Kept.{kept_set, more_here, more_other, set_here, set_other}
use Rattle.sim_meaning.specs.Entries.{numbers_in}
use Rattle.sim_sound.specs.Held.{Among, first, later}
use Rattle.sim_agree.proofs.Groups.{TypedFormal}
use Rattle.sim_agree.proofs.Unprefixed.{Known, MatchOf, NamesFound, Unprefixed, extras_in, brings_of, spelt_before}

-- ---- lists of numbers

pub among_more : (d : DeclNo) (xs ys : List DeclNo) → Among d xs → Among d (xs ++ ys)
among_more d [] ys a = elim a [ ]
among_more d (x ∷ xs) ys first = first
among_more d (x ∷ xs) ys (later a) = later (among_more d xs ys a)

pub among_last : (d : DeclNo) (xs : List DeclNo) → Among d (xs ++ d ∷ [])
among_last d [] = first
among_last d (x ∷ xs) = later (among_last d xs)

pub among_before : (d e : DeclNo) (xs : List DeclNo) → Among d (xs ++ e ∷ []) → Among d xs ⊎ (d ≡ e)
among_before d e [] first = inr refl
among_before d e [] (later a) = absurd (elim a [ ])
among_before d e (x ∷ xs) first = inl first
among_before d e (x ∷ xs) (later a) = go (among_before d e xs a)
  where
    go : Among d xs ⊎ (d ≡ e) → Among d (x ∷ xs) ⊎ (d ≡ e)
    go (inl b) = inl (later b)
    go (inr b) = inr b

pub among_at : (ns : List DeclNo) (n : ℕ) (d : DeclNo) → slice_get ns n ≡ Some d → Among d ns
among_at [] n d e = absurd (cc)
among_at (m ∷ ns) zero d e = subst (λ z. Among d (z ∷ ns)) (let f : d ≡ m = cc in f) first
among_at (m ∷ ns) (suc n) d e = later (among_at ns n d e)

-- ---- rows

-- what no mark changes of a block, but that a block which ends gets its end
pub record FixedPart : Type 0 where
  pub kind : BlockKind
  pub encloser : Option ℕ
  pub level : ℕ
  pub owner : Option DeclNo
  pub first : ℕ
  pub base : Option ℕ

abbrev pub Fixed : Type 0
Fixed = Option FixedPart

abbrev pub fixed : Option BlockOf → Fixed
fixed None = None
fixed (Some row) = Some (record { kind = row.kind; encloser = row.encloser; level = row.level; owner = row.owner; first = row.first; base = row.base })

-- a parameter that is not specified yet, and one that is specified as something plain
abbrev pub Parametric : Entry → Type 0
Parametric (entry.Unspecified w) = Unit {0}
Parametric (entry.Formal f) = TypedFormal f.kind f.ty
Parametric _ = ⊥

-- ---- the declaration of an identifier in a block

-- as many identifiers as declarations
abbrev pub Even : Option BlockOf → Type 0
Even None = Unit {0}
Even (Some row) = length row.names ≡ length row.numbers

abbrev pub AllEven : List BlockOf → Type 0
AllEven bs = (j : ℕ) → Even (slice_get bs j)

module _ (p : List ℕ → Bool) where
  pub count_true : (x : List ℕ) (xs : List (List ℕ)) → p x ≡ true → position_or_len p (x ∷ xs) ≡ 0
  count_true x xs is = ap (λ c. cond (not c) (1 + position_or_len p xs) 0) is

  pub count_false : (x : List ℕ) (xs : List (List ℕ)) → p x ≡ false → position_or_len p (x ∷ xs) ≡ suc (position_or_len p xs)
  count_false x xs is = ap (λ c. cond (not c) (1 + position_or_len p xs) 0) is ∙ (let e : 1 + position_or_len p xs ≡ suc (position_or_len p xs) = omega arith in e)

  count_more : (xs ys : List (List ℕ)) → position_or_len p xs < length xs → position_or_len p (xs ++ ys) ≡ position_or_len p xs
  count_more [] ys lt = absurd (omega arith)
  count_more (x ∷ xs) ys lt = go (p x) refl (λ q. count_more xs ys q)
    where
      go : (c : Bool) → p x ≡ c → (position_or_len p xs < length xs → position_or_len p (xs ++ ys) ≡ position_or_len p xs) → position_or_len p ((x ∷ xs) ++ ys) ≡ position_or_len p (x ∷ xs)
      go true is rest = count_true x (xs ++ ys) is ∙ sym (count_true x xs is)
      go false is rest =
          let e : position_or_len p (x ∷ xs) ≡ suc (position_or_len p xs) = count_false x xs is in
          let n : length (x ∷ xs) ≡ suc (length xs) = omega arith in
          count_false x (xs ++ ys) is ∙ ap suc (rest (omega arith)) ∙ sym e

  count_new : (xs : List (List ℕ)) (y : List ℕ) → list_any p xs ≡ false → p y ≡ true → position_or_len p (xs ++ y ∷ []) ≡ length xs
  count_new [] y none is = count_true y [] is
  count_new (x ∷ xs) y none is = go (p x) refl (λ q. count_new xs y q is)
    where
      go : (c : Bool) → p x ≡ c → (list_any p xs ≡ false → position_or_len p (xs ++ y ∷ []) ≡ length xs) → position_or_len p ((x ∷ xs) ++ y ∷ []) ≡ length (x ∷ xs)
      go true at rest_is = absurd (let e : true ≡ false = sym (ap (λ c. c || list_any p xs) at) ∙ none in cc)
      go false at rest_is =
          let rest : list_any p xs ≡ false = sym (ap (λ c. c || list_any p xs) at) ∙ none in
          let n : length (x ∷ xs) ≡ suc (length xs) = omega arith in
          count_false x (xs ++ y ∷ []) at ∙ ap suc (rest_is rest) ∙ sym n

  pub found_at : (xs : List (List ℕ)) (ds : List DeclNo) (d : DeclNo) → numbered ds (position p xs) ≡ Some d → (position_or_len p xs < length xs) × (slice_get ds (position_or_len p xs) ≡ Some d)
  found_at xs ds d is = go (nat_lt (position_or_len p xs) (length xs)) refl is
    where
      go : (c : Bool) → nat_lt (position_or_len p xs) (length xs) ≡ c → numbered ds (cond c (Some (position_or_len p xs)) None) ≡ Some d → (position_or_len p xs < length xs) × (slice_get ds (position_or_len p xs) ≡ Some d)
      go true lt at = ((let P : position_or_len p xs < length xs = grind (arith, nat_tests) in P), at)
      go false lt at = absurd (cc)

  at_found : (xs : List (List ℕ)) (ds : List DeclNo) (d : DeclNo) → position_or_len p xs < length xs → slice_get ds (position_or_len p xs) ≡ Some d → numbered ds (position p xs) ≡ Some d
  at_found xs ds d lt at =
      let P : nat_lt (position_or_len p xs) (length xs) ≡ true = grind (arith, nat_tests) in
      ap (λ c. numbered ds (cond c (Some (position_or_len p xs)) None)) P ∙ at

pub get_more : {A : Type 0} (xs ys : List A) (n : ℕ) (x : A) → slice_get xs n ≡ Some x → slice_get (xs ++ ys) n ≡ Some x
get_more [] ys n x is = absurd (cc)
get_more (y ∷ xs) ys zero x is = is
get_more (y ∷ xs) ys (suc n) x is = get_more xs ys n x is

-- an identifier that was found is found in a block with one more
looked_more : (row : BlockOf) (name new : List ℕ) (d number : DeclNo) → declared_in (Some row) name ≡ Some d → declared_in (Some (with_name row new number)) name ≡ Some d
looked_more row name new d number is =
    let q = found_at (bytes_eq name) row.names row.numbers d is in
    let e : position_or_len (bytes_eq name) (row.names ++ new ∷ []) ≡ position_or_len (bytes_eq name) row.names = count_more (bytes_eq name) row.names (new ∷ []) q.0 in
    let n : length (row.names ++ new ∷ []) ≡ length row.names + 1 = length-append row.names (new ∷ []) in
    let lt : position_or_len (bytes_eq name) row.names < length row.names = q.0 in
    at_found (bytes_eq name) (row.names ++ new ∷ []) (row.numbers ++ number ∷ []) d (omega arith) (ap (slice_get (row.numbers ++ number ∷ [])) e ∙ get_more row.numbers (number ∷ []) (position_or_len (bytes_eq name) row.names) d q.1)

-- a new one is found
looked_new : (row : BlockOf) (name : List ℕ) (number : DeclNo) → length row.names ≡ length row.numbers → list_any (bytes_eq name) row.names ≡ false → declared_in (Some (with_name row name number)) name ≡ Some number
looked_new row name number even none =
    let e : position_or_len (bytes_eq name) (row.names ++ name ∷ []) ≡ length row.names = count_new (bytes_eq name) row.names name none ((bytes_eq-Decides name name).1 refl) in
    let n : length (row.names ++ name ∷ []) ≡ length row.names + 1 = length-append row.names (name ∷ []) in
    at_found (bytes_eq name) (row.names ++ name ∷ []) (row.numbers ++ number ∷ []) number (omega arith)
    (ap (slice_get (row.numbers ++ number ∷ [])) (e ∙ even) ∙ last_number row.numbers)
  where
    last_number : (xs : List DeclNo) → slice_get (xs ++ number ∷ []) (length xs) ≡ Some number
    last_number [] = refl
    last_number (x ∷ xs) = let m : length (x ∷ xs) ≡ suc (length xs) = omega arith in ap (slice_get ((x ∷ xs) ++ number ∷ [])) m ∙ last_number xs

-- a formal parameter, specified or not
abbrev pub IsParameter : Entry → Type 0
IsParameter (entry.Unspecified w) = Unit {0}
IsParameter (entry.Formal f) = Unit {0}
IsParameter _ = ⊥

-- what may become of an entry: a parameter is specified, and the match of a virtual becomes known
abbrev pub IsSpecified : (old new : Entry) → Type 0
IsSpecified old new = (w : Option WrittenMode) × (old ≡ entry.Unspecified w) × Parametric new × IsParameter new

abbrev pub IsMatched : (old new : Entry) → Type 0
IsMatched old new = (result : Option SimType) × (d : DeclNo) × (old ≡ entry.Virtual result None) × (new ≡ entry.Virtual result (Some d))

abbrev pub Becomes : (old new : Entry) → Type 0
Becomes old new = (new ≡ old) ⊎ (IsSpecified old new ⊎ IsMatched old new)

-- what may become of a row
pub record Changed (old new : Declaration) : Type 0 where
  pub name : new.name ≡ old.name
  pub token : new.token ≡ old.token
  pub block : new.block ≡ old.block
  pub listed : new.listed ≡ old.listed
  pub entry : Becomes old.entry new.entry

pub unchanged : (row : Declaration) → Changed row row
unchanged row = record { name = refl; token = refl; block = refl; listed = refl; entry = inl refl }

-- the declarations of a block: as before, or with the next one
abbrev pub Listed : (next : ℕ) → List DeclNo → List DeclNo → Type 0
Listed next old new = (new ≡ old) ⊎ (new ≡ old ++ record { 0 = next } ∷ [])

-- a declaration that is listed is found by its name
abbrev pub Finds : (before after : List BlockOf) → (d : ℕ) → Declaration → Type 0
Finds bs cs d row =
    row.listed ≡ true → Among (record { 0 = d }) (numbers_in (slice_get cs row.block)) × (AllEven bs → declared_in (slice_get cs row.block) row.name ≡ Some (record { 0 = d }))

-- a row is an old one, or new
abbrev pub Was : BuildingOf → ℕ → Declaration → Type 0
Was b d row = (old : Declaration) × (slice_get b.tables.declarations d ≡ Some old) × Changed old row

abbrev pub RowIs : (before after : BuildingOf) → (ℕ → Declaration → Type 0) → ℕ → Declaration → Type 0
RowIs b c New d row = Was b d row ⊎ (New d row × Finds b.tables.blocks c.tables.blocks d row)

-- what a mark does to the tables; of the blocks it changes the innermost one alone
pub record Step (b c : BuildingOf) (New : ℕ → Declaration → Type 0) : Type 0 where
  pub current : c.current ≡ b.current
  pub size : length c.tables.blocks ≡ length b.tables.blocks
  pub fixes : (j : ℕ) → fixed (slice_get c.tables.blocks j) ≡ fixed (slice_get b.tables.blocks j)
  pub others : (j : ℕ) → (b.current ≡ Some j → ⊥) → slice_get c.tables.blocks j ≡ slice_get b.tables.blocks j
  pub more : (j : ℕ) (d : DeclNo) → Among d (numbers_in (slice_get b.tables.blocks j)) → Among d (numbers_in (slice_get c.tables.blocks j))
  pub fewer : (j : ℕ) (d : DeclNo) → Among d (numbers_in (slice_get c.tables.blocks j)) → Among d (numbers_in (slice_get b.tables.blocks j)) ⊎ ((row : Declaration) × (slice_get c.tables.declarations d.0 ≡ Some row) × (row.block ≡ j) × (row.listed ≡ true))
  pub lists : (j : ℕ) → Listed (length b.tables.declarations) (numbers_in (slice_get b.tables.blocks j)) (numbers_in (slice_get c.tables.blocks j))
  pub rows : (d : ℕ) (row : Declaration) → slice_get c.tables.declarations d ≡ Some row → RowIs b c New d row
  pub places : c.tables.places ≡ b.tables.places
  pub evens : AllEven b.tables.blocks → AllEven c.tables.blocks
  pub looks : (j : ℕ) (name : List ℕ) (d : DeclNo) → declared_in (slice_get b.tables.blocks j) name ≡ Some d → declared_in (slice_get c.tables.blocks j) name ≡ Some d
  pub stays : (d : ℕ) (old : Declaration) → slice_get b.tables.declarations d ≡ Some old → (row : Declaration) × (slice_get c.tables.declarations d ≡ Some row) × Changed old row
  pub bare : Unprefixed b.tables → Unprefixed c.tables
  pub knows : NamesFound b.tables → Known b.tables.declarations → Known c.tables.declarations
  pub brings : (j : ℕ) → brings_of (slice_get c.tables.blocks j) ≡ brings_of (slice_get b.tables.blocks j)
  pub spells : (j : ℕ) (p : StandardPrefix) → spelt_before (slice_get c.tables.blocks j) ≡ Some p → spelt_before (slice_get b.tables.blocks j) ≡ Some p

-- nothing new
abbrev pub Nothing : ℕ → Declaration → Type 0
Nothing d row = ⊥

-- but a procedure that is the match of a virtual in its block is not listed there
abbrev pub Shows : Entry → (listed : Bool) → Type 0
Shows e listed = (listed ≡ true) ⊎ ((listed ≡ false) × (is_procedure_entry e ≡ true))

pub shown : (e : Entry) (listed : Bool) → is_procedure_entry e ≡ false → Shows e listed → listed ≡ true
shown e listed plain (inl l) = l
shown e listed plain (inr q) = absurd (let z : true ≡ false = sym q.1 ∙ plain in cc)

abbrev pub IsRow : Identifier → Entry → ℕ → Declaration → Type 0
IsRow x e n row = (row.name ≡ x.name) × (row.token ≡ x.token) × (row.block ≡ n) × (row.entry ≡ e) × Shows e row.listed

-- ---- steps that change no table

pub same_step : (b c : BuildingOf) (New : ℕ → Declaration → Type 0) → c.tables ≡ b.tables → c.current ≡ b.current → Step b c New
same_step b c New t k = record {
  current = k;
  size = ap (λ (s : Tables). length s.blocks) t;
  fixes = λ j. ap (λ (s : Tables). fixed (slice_get s.blocks j)) t;
  others = λ j e. ap (λ (s : Tables). slice_get s.blocks j) t;
  more = λ j d a. subst (λ (s : Tables). Among d (numbers_in (slice_get s.blocks j))) (sym t) a;
  fewer = λ j d a. inl (subst (λ (s : Tables). Among d (numbers_in (slice_get s.blocks j))) t a);
  lists = λ j. inl (ap (λ (s : Tables). numbers_in (slice_get s.blocks j)) t);
  rows = λ d row e. inl (row, sym (ap (λ (s : Tables). slice_get s.declarations d) t) ∙ e, unchanged row);
  places = ap (λ (s : Tables). s.places) t;
  evens = λ a j. subst (λ (s : Tables). Even (slice_get s.blocks j)) (sym t) (a j);
  looks = λ j name d e. subst (λ (s : Tables). declared_in (slice_get s.blocks j) name ≡ Some d) (sym t) e;
  stays = λ d old e. (old, ap (λ (s : Tables). slice_get s.declarations d) t ∙ e, unchanged old);
  bare = λ w. subst Unprefixed (sym t) w;
  knows = λ names w. subst (λ (s : Tables). Known s.declarations) (sym t) w;
  brings = λ j. ap (λ (s : Tables). brings_of (slice_get s.blocks j)) t;
  spells = λ j p e. ap (λ (s : Tables). spelt_before (slice_get s.blocks j)) (sym t) ∙ e;
}

-- a broken rule changes no table
pub broken_step : (a : Bool) (b c : BuildingOf) (token : ℕ) (rule : Rule) (New : ℕ → Declaration → Type 0) → Step b c New → Step b (broken_if a c token rule) New
broken_step true b c token rule New h = record { current = h.current; size = h.size; fixes = h.fixes; others = h.others; more = h.more; fewer = h.fewer; lists = h.lists; rows = h.rows; places = h.places; evens = h.evens; looks = h.looks; stays = h.stays; bare = h.bare; knows = h.knows; brings = h.brings; spells = h.spells }
broken_step false b c token rule New h = h

-- ---- a declaration

pub some_same : {A : Type 0} (a b : A) → Some a ≡ Some b → a ≡ b
some_same a b e = cc

number_same : (d : DeclNo) (n : ℕ) → d ≡ record { 0 = n } → d.0 ≡ n
number_same d n e = ap (λ (z : DeclNo). z.0) e

-- what is declared is no virtual that knows its match already
abbrev pub Unmatched : Entry → Type 0
Unmatched e = (result : Option SimType) (d : DeclNo) → e ≡ entry.Virtual result (Some d) → ⊥

match_more : (ds : List Declaration) (fresh row : Declaration) (d : DeclNo) → MatchOf ds row d → MatchOf (ds ++ fresh ∷ []) row d
match_more ds fresh row d m = record { row = m.row; at = get_more ds (fresh ∷ []) d.0 m.row m.at; name = m.name; block = m.block; procedure = m.procedure }

pub new_step : (b : BuildingOf) (x : Identifier) (e : Entry) (n : ℕ) (row : BlockOf) → Unmatched e → b.current ≡ Some n → slice_get b.tables.blocks n ≡ Some row → list_any (bytes_eq x.name) row.names ≡ false
    → Step b (record b { tables = record b.tables { blocks = slice_set b.tables.blocks n (with_name row x.name (record { 0 = length b.tables.declarations })); declarations = b.tables.declarations ++ row_of x e n true ∷ [] }; own = b.own + 1; latest = Some (record { 0 = length b.tables.declarations }) })
    (λ d row. (d ≡ length b.tables.declarations) × IsRow x e n row)
new_step b x e n row plain cur at fresh_name = record {
  current = refl;
  size = length-set bs n new;
  fixes = λ j. kept_set fixed bs n row new at refl j;
  others = λ j q. set_other bs n j new (differ j q (nat_eq n j) refl);
  more = λ j d a. more j d (nat_eq n j) refl a;
  fewer = λ j d a. fewer j d (nat_eq n j) refl a;
  lists = λ j. lists j (nat_eq n j) refl;
  rows = λ d found is. rows d found (nat_eq d (length ds)) refl is;
  places = refl;
  evens = λ a j. evens j (nat_eq n j) refl (a j);
  looks = λ j name d is. looks j name d (nat_eq n j) refl is;
  stays = λ d old is. (old, more_other ds fresh d (within d old is) ∙ is, unchanged old);
  bare = λ w. record { blocks = λ j. kept_set extras_in bs n row new at refl j ∙ w.blocks j };
  knows = λ names w v found result d is en. knows v found result d w (nat_eq v (length ds)) refl is en;
  brings = λ j. kept_set brings_of bs n row new at refl j;
  spells = λ j p e. sym (kept_set spelt_before bs n row new at refl j) ∙ e;
}
  where
    bs : List BlockOf
    bs = b.tables.blocks

    ds : List Declaration
    ds = b.tables.declarations

    number : DeclNo
    number = record { 0 = length ds }

    new : BlockOf
    new = with_name row x.name number

    fresh : Declaration
    fresh = row_of x e n true

    knows : (v : ℕ) (found : Declaration) (result : Option SimType) (d : DeclNo) → Known ds → (c : Bool) → nat_eq v (length ds) ≡ c → slice_get (ds ++ fresh ∷ []) v ≡ Some found → found.entry ≡ entry.Virtual result (Some d) → MatchOf (ds ++ fresh ∷ []) found d
    knows v found result d w true is at' en =
        let same : v ≡ length ds = grind (arith, nat_tests) in
        let f : fresh ≡ found = some_same fresh found (sym (more_here ds fresh) ∙ subst (λ z. slice_get (ds ++ fresh ∷ []) z ≡ Some found) same at') in
        absurd (plain result d (ap (λ (z : Declaration). z.entry) f ∙ en))
    knows v found result d w false is at' en = match_more ds fresh found d (w v found result d (sym (more_other ds fresh v is) ∙ at') en)

    differ : (j : ℕ) → (b.current ≡ Some j → ⊥) → (c : Bool) → nat_eq n j ≡ c → nat_eq n j ≡ false
    differ j q true is = absurd (q (cur ∙ ap Some (let P : n ≡ j = grind (arith, nat_tests) in P)))
    differ j q false is = is

    here : (j : ℕ) → nat_eq n j ≡ true → slice_get (slice_set bs n new) j ≡ Some new
    here j is = let same : n ≡ j = grind (arith, nat_tests) in subst (λ z. slice_get (slice_set bs n new) z ≡ Some new) same (set_here bs n row new at)

    old_here : (j : ℕ) → nat_eq n j ≡ true → slice_get bs j ≡ Some row
    old_here j is = let same : n ≡ j = grind (arith, nat_tests) in subst (λ z. slice_get bs z ≡ Some row) same at

    more : (j : ℕ) (d : DeclNo) (c : Bool) → nat_eq n j ≡ c → Among d (numbers_in (slice_get bs j)) → Among d (numbers_in (slice_get (slice_set bs n new) j))
    more j d true is a = subst (λ z. Among d (numbers_in z)) (sym (here j is)) (among_more d row.numbers (number ∷ []) (subst (λ z. Among d (numbers_in z)) (old_here j is) a))
    more j d false is a = subst (λ z. Among d (numbers_in z)) (sym (set_other bs n j new is)) a

    fewer : (j : ℕ) (d : DeclNo) (c : Bool) → nat_eq n j ≡ c → Among d (numbers_in (slice_get (slice_set bs n new) j))
        → Among d (numbers_in (slice_get bs j)) ⊎ ((found : Declaration) × (slice_get (ds ++ fresh ∷ []) d.0 ≡ Some found) × (found.block ≡ j) × (found.listed ≡ true))
    fewer j d true is a = pick (among_before d number row.numbers (subst (λ z. Among d (numbers_in z)) (here j is) a))
      where
        pick : Among d row.numbers ⊎ (d ≡ number) → Among d (numbers_in (slice_get bs j)) ⊎ ((found : Declaration) × (slice_get (ds ++ fresh ∷ []) d.0 ≡ Some found) × (found.block ≡ j) × (found.listed ≡ true))
        pick (inl q) = inl (subst (λ z. Among d (numbers_in z)) (sym (old_here j is)) q)
        pick (inr q) = inr (fresh, ap (slice_get (ds ++ fresh ∷ [])) (number_same d (length ds) q) ∙ more_here ds fresh, (let P : n ≡ j = grind (arith, nat_tests) in P), refl)
    fewer j d false is a = inl (subst (λ z. Among d (numbers_in z)) (set_other bs n j new is) a)

    lists : (j : ℕ) (c : Bool) → nat_eq n j ≡ c → Listed (length ds) (numbers_in (slice_get bs j)) (numbers_in (slice_get (slice_set bs n new) j))
    lists j true is = inr (ap numbers_in (here j is) ∙ ap (λ z. z ++ number ∷ []) (sym (ap numbers_in (old_here j is))))
    lists j false is = inl (ap numbers_in (set_other bs n j new is))

    evens : (j : ℕ) (c : Bool) → nat_eq n j ≡ c → Even (slice_get bs j) → Even (slice_get (slice_set bs n new) j)
    evens j true is a = subst Even (sym (here j is)) (length-append row.names (x.name ∷ []) ∙ (let e : length row.names ≡ length row.numbers = subst Even (old_here j is) a in ap (λ z. z + 1) e) ∙ sym (length-append row.numbers (number ∷ [])))
    evens j false is a = subst Even (sym (set_other bs n j new is)) a

    looks : (j : ℕ) (name : List ℕ) (d : DeclNo) (c : Bool) → nat_eq n j ≡ c → declared_in (slice_get bs j) name ≡ Some d → declared_in (slice_get (slice_set bs n new) j) name ≡ Some d
    looks j name d true is e = ap (λ z. declared_in z name) (here j is) ∙ looked_more row name x.name d number (sym (ap (λ z. declared_in z name) (old_here j is)) ∙ e)
    looks j name d false is e = ap (λ z. declared_in z name) (set_other bs n j new is) ∙ e

    within : (d : ℕ) (old : Declaration) → slice_get ds d ≡ Some old → nat_eq d (length ds) ≡ false
    within d old is = let lt : d < length ds = slice_get_within ds d old is in let P : nat_eq d (length ds) ≡ false = grind (arith, nat_tests) in P

    rows : (d : ℕ) (found : Declaration) (c : Bool) → nat_eq d (length ds) ≡ c → slice_get (ds ++ fresh ∷ []) d ≡ Some found
        → Was b d found ⊎ (((d ≡ length ds) × IsRow x e n found) × Finds bs (slice_set bs n new) d found)
    rows d found true is at' =
        let same : d ≡ length ds = grind (arith, nat_tests) in
        let f : fresh ≡ found = some_same fresh found (sym (more_here ds fresh) ∙ subst (λ z. slice_get (ds ++ fresh ∷ []) z ≡ Some found) same at') in
        inr (
          (same, (ap (λ (z : Declaration). z.name) (sym f), ap (λ (z : Declaration). z.token) (sym f), ap (λ (z : Declaration). z.block) (sym f), ap (λ (z : Declaration). z.entry) (sym f), inl (ap (λ (z : Declaration). z.listed) (sym f)))),
          λ l. (listed d found same f, λ a. named d found same f (a n)),
        )
      where
        listed : (d : ℕ) (found : Declaration) → d ≡ length ds → fresh ≡ found → Among (record { 0 = d }) (numbers_in (slice_get (slice_set bs n new) found.block))
        listed d found same f =
            subst (λ (z : Declaration). Among (record { 0 = d }) (numbers_in (slice_get (slice_set bs n new) z.block))) f
            (subst (λ z. Among (record { 0 = z }) (numbers_in (slice_get (slice_set bs n new) n))) (sym same)
            (subst (λ z. Among number (numbers_in z)) (sym (set_here bs n row new at)) (among_last number row.numbers)))

        even_here : Even (slice_get bs n) → length row.names ≡ length row.numbers
        even_here a = subst Even at a

        named : (d : ℕ) (found : Declaration) → d ≡ length ds → fresh ≡ found → Even (slice_get bs n) → declared_in (slice_get (slice_set bs n new) found.block) found.name ≡ Some (record { 0 = d })
        named d found same f a =
            subst (λ (z : Declaration). declared_in (slice_get (slice_set bs n new) z.block) z.name ≡ Some (record { 0 = d })) f
            (subst (λ z. declared_in (slice_get (slice_set bs n new) n) x.name ≡ Some (record { 0 = z })) (sym same)
            (ap (λ z. declared_in z x.name) (set_here bs n row new at) ∙ looked_new row x.name number (even_here a) fresh_name))
    rows d found false is at' = inl (found, sym (more_other ds fresh d is) ∙ at', unchanged found)
