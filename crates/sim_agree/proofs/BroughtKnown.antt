-- What is known of the blocks and the declarations that a standard prefix adds.
use Rattle.std.proofs.Common.{◌≡◌, ◌<◌, ◌+◌, ℕ, zero, suc, true, false, List, [], ◌∷◌, length, Some, None, refl, subst, arith}
use Rattle.std.specs.Prelude.{slice_get}
use Rattle.sim_base.specs.declared.numbering.DeclNo.{DeclNo}
use Rattle.sim_scope.specs.declared.scopes.Declaration.{Declaration}
use Rattle.sim_scope.specs.declared.types.BlockKind.TheVariants as kind
use Rattle.sim_scope.specs.declared.types.Entry.TheVariants as entry
use Rattle.sim_scope.specs.declared.types.StandardClass.{StandardClass}
use Rattle.sim_scope.specs.declared.types.StandardClass.TheVariants as standard
use Rattle.sim_scope.specs.declared.types.StandardPrefix.{StandardPrefix}
use Rattle.sim_scope.specs.declared.types.StandardPrefix.TheVariants as prefix
use Rattle.sim_scope.specs.Building.{attribute_entry, name_of, place_of, standard_base}
use Rattle.sim_scope.specs.Scopes.{declared_in}
use Rattle.sim_scope.specs.Standard.{class_owning}
use Rattle.sim_scope.specs.Tables.{BlockOf}
use Rattle.sim_values.specs.declared.standard.Standard.{Standard}
use Rattle.sim_values.specs.declared.standard.Standard.TheVariants as name
use Rattle.sim_values.specs.Standard.{row_of}
use Rattle.sim_code.specs.Sets.{is_attribute_name}
use Rattle.sim_code.specs.Simulations.{is_simulation_name}
use Rattle.sim_sound.specs.Held.{Among, first, later}
use Rattle.sim_agree.proofs.BroughtRows.{names_brought, added_declarations, added_number, added_rows, attribute_declared, class_declared, numbers_brought, own_declared}
use Rattle.sim_agree.proofs.Fine.{Rising}
use Rattle.sim_agree.proofs.StandardPrefixes.{IsBrought}
use Rattle.sim_agree.proofs.Unprefixed.{extras_in, no_extras}

-- ---- lists

-- each in a list is so, by its place
abbrev pub AllFrom : {A : Type 0} → (ℕ → A → Type 0) → ℕ → List A → Type 0
AllFrom P n [] = Unit {0}
AllFrom P n (x ∷ xs) = P n x × AllFrom P (suc n) xs

pub one_of : {A : Type 0} (P : ℕ → A → Type 0) (n : ℕ) (xs : List A) (i : ℕ) (x : A) → AllFrom P n xs → slice_get xs i ≡ Some x → P (n + i) x
one_of P n [] i x a e = absurd (cc)
one_of {A = A} P n (y ∷ xs) zero x a e = subst (P (n + 0)) (some_same y x e) (let z : n ≡ n + 0 = omega arith in subst (λ m. P m y) z a.0)
  where
    some_same : (u v : A) → Some u ≡ Some v → u ≡ v
    some_same u v q = cc
one_of P n (y ∷ xs) (suc i) x a e = let z : suc n + i ≡ n + suc i = omega arith in subst (λ m. P m x) z (one_of P (suc n) xs i x a.1 e)

abbrev pub AllNumbers : (DeclNo → Type 0) → List DeclNo → Type 0
AllNumbers P [] = Unit {0}
AllNumbers P (d ∷ ds) = P d × AllNumbers P ds

-- names, each with a number
abbrev AllPairs : (List ℕ → DeclNo → Type 0) → List (List ℕ) → List DeclNo → Type 0
AllPairs P [] ds = Unit {0}
AllPairs P (n ∷ ns) [] = Unit {0}
AllPairs P (n ∷ ns) (d ∷ ds) = P n d × AllPairs P ns ds

pair_at : (P : List ℕ → DeclNo → Type 0) (ns : List (List ℕ)) (ds : List DeclNo) (i : ℕ) (n : List ℕ) (d : DeclNo) → AllPairs P ns ds → slice_get ns i ≡ Some n → slice_get ds i ≡ Some d → P n d
pair_at P [] ds i n d all x y = absurd (cc)
pair_at P (m ∷ ns) [] i n d all x y = absurd (cc)
pair_at P (m ∷ ns) (e ∷ ds) zero n d all x y = subst (λ z. P z d) (let q : m ≡ n = cc in q) (subst (P m) (let q : e ≡ d = cc in q) all.0)
pair_at P (m ∷ ns) (e ∷ ds) (suc i) n d all x y = pair_at P ns ds i n d all.1 x y

pub among_all : (P : DeclNo → Type 0) (ds : List DeclNo) (d : DeclNo) → AllNumbers P ds → Among d ds → P d
among_all P [] d a q = elim q [ ]
among_all P (e ∷ ds) d a first = a.0
among_all P (e ∷ ds) d a (later q) = among_all P ds d a.1 q

numbers_at : (P : DeclNo → Type 0) (ds : List DeclNo) (n : ℕ) (d : DeclNo) → AllNumbers P ds → slice_get ds n ≡ Some d → P d
numbers_at P [] n d a e = absurd (cc)
numbers_at P (x ∷ ds) zero d a e = subst P (let f : x ≡ d = cc in f) a.0
numbers_at P (x ∷ ds) (suc n) d a e = numbers_at P ds n d a.1 e

-- numbers that rise
abbrev Above : ℕ → List DeclNo → Type 0
Above m ds = AllNumbers (λ e. m < e.0) ds

abbrev Sorted : List DeclNo → Type 0
Sorted [] = Unit {0}
Sorted (d ∷ ds) = Above d.0 ds × Sorted ds

sorted_rise : (ds : List DeclNo) → Sorted ds → Rising ds
sorted_rise [] s n m d e at to lt = absurd (cc)
sorted_rise (x ∷ ds) s zero zero d e at to lt = absurd (omega arith)
sorted_rise (x ∷ ds) s zero (suc m) d e at to lt = subst (λ (z : DeclNo). z.0 < e.0) (let f : x ≡ d = cc in f) (numbers_at (λ y. x.0 < y.0) ds m e s.0 to)
sorted_rise (x ∷ ds) s (suc n) zero d e at to lt = absurd (omega arith)
sorted_rise (x ∷ ds) s (suc n) (suc m) d e at to lt = sorted_rise ds s.1 n m d e at to (let z : n < m = omega arith in z)

less : (next i j : ℕ) → i < j → next + i < next + j
less next i j lt = omega arith

-- ---- declarations

-- a class
pub record ClassAdded (p : StandardPrefix) (n next at_token i : ℕ) (row : Declaration) : Type 0 where
  pub which : StandardClass
  pub is : IsBrought p which
  pub place : i ≡ place_of which
  pub block : row.block ≡ n
  pub entry : row.entry ≡ entry.Class (n + 1 + place_of which)
  pub token : row.token.0 ≡ at_token
  pub listed : row.listed ≡ false
  pub name : row.name ≡ name_of which

-- an attribute, which the block of its class lists
pub record AttributeAdded (p : StandardPrefix) (n next at_token i : ℕ) (rows : List BlockOf) (row : Declaration) : Type 0 where
  pub which : StandardClass
  pub is : IsBrought p which
  pub name : Standard
  pub owner : class_owning (row_of name).owner ≡ Some which
  pub is_attribute : is_attribute_name name ≡ true
  pub block : row.block ≡ n + 1 + place_of which
  pub entry : row.entry ≡ attribute_entry (Some (added_number next 0)) name
  pub token : row.token.0 ≡ at_token
  pub listed : row.listed ≡ true
  pub class_row : BlockOf
  pub at : slice_get rows (place_of which) ≡ Some class_row
  pub among : Among (added_number next i) class_row.numbers
  pub found : declared_in (Some class_row) row.name ≡ Some (added_number next i)

-- one of `simulation` itself, which no block lists
pub record OwnAdded (p : StandardPrefix) (n next at_token : ℕ) (row : Declaration) : Type 0 where
  pub name : Standard
  pub is_simulation : is_simulation_name name ≡ true
  pub simulates : p ≡ prefix.Simulation
  pub block : row.block ≡ n
  pub entry : row.entry ≡ attribute_entry (Some (added_number next 0)) name
  pub token : row.token.0 ≡ at_token
  pub listed : row.listed ≡ false

pub data Added (p : StandardPrefix) (n next at_token level i : ℕ) (row : Declaration) : Type 0 where
  a_class : ClassAdded p n next at_token i row → Added p n next at_token level i row
  an_attribute : AttributeAdded p n next at_token i (added_rows n next level p) row → Added p n next at_token level i row
  an_own : OwnAdded p n next at_token row → Added p n next at_token level i row

module _ (n next token level : ℕ) where
  class_added : (p : StandardPrefix) (which : StandardClass) → IsBrought p which → Added p n next token level (place_of which) (class_declared n next token which)
  class_added p which is = a_class (record { which = which; is = is; place = refl; block = refl; entry = refl; token = refl; listed = refl; name = refl })

  attribute_added : (p : StandardPrefix) (i : ℕ) (which : StandardClass) (is : IsBrought p which) (name : Standard) (row : BlockOf) → class_owning (row_of name).owner ≡ Some which → is_attribute_name name ≡ true → slice_get (added_rows n next level p) (place_of which) ≡ Some row
      → Among (added_number next i) row.numbers → declared_in (Some row) (attribute_declared n next token (record { class = which; name = name })).name ≡ Some (added_number next i) → Added p n next token level i (attribute_declared n next token (record { class = which; name = name }))
  attribute_added p i which is name row owner is_attribute at among found = an_attribute (record { which = which; is = is; name = name; owner = owner; is_attribute = is_attribute; block = refl; entry = refl; token = refl; listed = refl; class_row = row; at = at; among = among; found = found })

  own_added : (p : StandardPrefix) (i : ℕ) (name : Standard) → is_simulation_name name ≡ true → p ≡ prefix.Simulation → Added p n next token level i (own_declared n next token name)
  own_added p i name is simulates = an_own (record { name = name; is_simulation = is; simulates = simulates; block = refl; entry = refl; token = refl; listed = refl })

  pub all_added : (p : StandardPrefix) → AllFrom (Added p n next token level) 0 (added_declarations n next token p)
  unfolding row_of
  all_added prefix.Simset = (
    class_added prefix.Simset standard.Linkage tt,
    (
      class_added prefix.Simset standard.Link tt,
      (
        class_added prefix.Simset standard.Head tt,
        (
          attribute_added prefix.Simset 3 standard.Linkage tt name.Suc _ refl refl refl first refl,
          (
            attribute_added prefix.Simset 4 standard.Linkage tt name.Pred _ refl refl refl (later first) refl,
            (
              attribute_added prefix.Simset 5 standard.Linkage tt name.Prev _ refl refl refl (later (later first)) refl,
              (
                attribute_added prefix.Simset 6 standard.Link tt name.Out _ refl refl refl first refl,
                (
                  attribute_added prefix.Simset 7 standard.Link tt name.Follow _ refl refl refl (later first) refl,
                  (
                    attribute_added prefix.Simset 8 standard.Link tt name.Precede _ refl refl refl (later (later first)) refl,
                    (
                      attribute_added prefix.Simset 9 standard.Link tt name.Into _ refl refl refl (later (later (later first))) refl,
                      (
                        attribute_added prefix.Simset 10 standard.Head tt name.First _ refl refl refl first refl,
                        (
                          attribute_added prefix.Simset 11 standard.Head tt name.Last _ refl refl refl (later first) refl,
                          (
                            attribute_added prefix.Simset 12 standard.Head tt name.Empty _ refl refl refl (later (later first)) refl,
                            (
                              attribute_added prefix.Simset 13 standard.Head tt name.Cardinal _ refl refl refl (later (later (later first))) refl,
                              (
                                attribute_added prefix.Simset 14 standard.Head tt name.Clear _ refl refl refl (later (later (later (later first)))) refl,
                                tt,
                              ),
                            ),
                          ),
                        ),
                      ),
                    ),
                  ),
                ),
              ),
            ),
          ),
        ),
      ),
    ),
  )
  all_added prefix.Simulation = (
    class_added prefix.Simulation standard.Linkage tt,
    (
      class_added prefix.Simulation standard.Link tt,
      (
        class_added prefix.Simulation standard.Head tt,
        (
          class_added prefix.Simulation standard.Process refl,
          (
            attribute_added prefix.Simulation 4 standard.Linkage tt name.Suc _ refl refl refl first refl,
            (
              attribute_added prefix.Simulation 5 standard.Linkage tt name.Pred _ refl refl refl (later first) refl,
              (
                attribute_added prefix.Simulation 6 standard.Linkage tt name.Prev _ refl refl refl (later (later first)) refl,
                (
                  attribute_added prefix.Simulation 7 standard.Link tt name.Out _ refl refl refl first refl,
                  (
                    attribute_added prefix.Simulation 8 standard.Link tt name.Follow _ refl refl refl (later first) refl,
                    (
                      attribute_added prefix.Simulation 9 standard.Link tt name.Precede _ refl refl refl (later (later first)) refl,
                      (
                        attribute_added prefix.Simulation 10 standard.Link tt name.Into _ refl refl refl (later (later (later first))) refl,
                        (
                          attribute_added prefix.Simulation 11 standard.Head tt name.First _ refl refl refl first refl,
                          (
                            attribute_added prefix.Simulation 12 standard.Head tt name.Last _ refl refl refl (later first) refl,
                            (
                              attribute_added prefix.Simulation 13 standard.Head tt name.Empty _ refl refl refl (later (later first)) refl,
                              (
                                attribute_added prefix.Simulation 14 standard.Head tt name.Cardinal _ refl refl refl (later (later (later first))) refl,
                                (
                                  attribute_added prefix.Simulation 15 standard.Head tt name.Clear _ refl refl refl (later (later (later (later first)))) refl,
                                  (
                                    attribute_added prefix.Simulation 16 standard.Process refl name.Idle _ refl refl refl first refl,
                                    (
                                      attribute_added prefix.Simulation 17 standard.Process refl name.Terminated _ refl refl refl (later first) refl,
                                      (
                                        attribute_added prefix.Simulation 18 standard.Process refl name.Evtime _ refl refl refl (later (later first)) refl,
                                        (
                                          attribute_added prefix.Simulation 19 standard.Process refl name.Nextev _ refl refl refl (later (later (later first))) refl,
                                          (
                                            own_added prefix.Simulation 20 name.Time refl refl,
                                            (
                                              own_added prefix.Simulation 21 name.Current refl refl,
                                              (
                                                own_added prefix.Simulation 22 name.Main refl refl,
                                                (
                                                  own_added prefix.Simulation 23 name.Hold refl refl,
                                                  (
                                                    own_added prefix.Simulation 24 name.Passivate refl refl,
                                                    (
                                                      own_added prefix.Simulation 25 name.Wait refl refl,
                                                      (
                                                        own_added prefix.Simulation 26 name.Cancel refl refl,
                                                        tt,
                                                      ),
                                                    ),
                                                  ),
                                                ),
                                              ),
                                            ),
                                          ),
                                        ),
                                      ),
                                    ),
                                  ),
                                ),
                              ),
                            ),
                          ),
                        ),
                      ),
                    ),
                  ),
                ),
              ),
            ),
          ),
        ),
      ),
    ),
  )

  pub added : (p : StandardPrefix) (i : ℕ) (row : Declaration) → slice_get (added_declarations n next token p) i ≡ Some row → Added p n next token level i row
  added p i row at = let z : 0 + i ≡ i = omega arith in subst (λ m. Added p n next token level m row) z (one_of (Added p n next token level) 0 (added_declarations n next token p) i row (all_added p) at)

  -- ---- blocks

  -- a declaration that is added to a block
  abbrev pub AddedTo : StandardPrefix → (block : ℕ) → DeclNo → Type 0
  AddedTo p block d = (i : ℕ) × (row : Declaration) × (d ≡ added_number next i) × (slice_get (added_declarations n next token p) i ≡ Some row) × (row.block ≡ block)

  -- or that it lists
  abbrev pub Lists : StandardPrefix → (block : ℕ) → DeclNo → Type 0
  Lists p block d = (i : ℕ) × (row : Declaration) × (d ≡ added_number next i) × (slice_get (added_declarations n next token p) i ≡ Some row) × (row.block ≡ block) × (row.listed ≡ true)

  pub brought_known : (p : StandardPrefix) → AllNumbers (AddedTo p n) (numbers_brought p next)
  brought_known prefix.Simset = (
    (0, class_declared n next token standard.Linkage, refl, refl, refl),
    (
      (1, class_declared n next token standard.Link, refl, refl, refl),
      (
        (2, class_declared n next token standard.Head, refl, refl, refl),
        tt,
      ),
    ),
  )
  brought_known prefix.Simulation = (
    (0, class_declared n next token standard.Linkage, refl, refl, refl),
    (
      (1, class_declared n next token standard.Link, refl, refl, refl),
      (
        (2, class_declared n next token standard.Head, refl, refl, refl),
        (
          (3, class_declared n next token standard.Process, refl, refl, refl),
          (
            (20, own_declared n next token name.Time, refl, refl, refl),
            (
              (21, own_declared n next token name.Current, refl, refl, refl),
              (
                (22, own_declared n next token name.Main, refl, refl, refl),
                (
                  (23, own_declared n next token name.Hold, refl, refl, refl),
                  (
                    (24, own_declared n next token name.Passivate, refl, refl, refl),
                    (
                      (25, own_declared n next token name.Wait, refl, refl, refl),
                      (
                        (26, own_declared n next token name.Cancel, refl, refl, refl),
                        tt,
                      ),
                    ),
                  ),
                ),
              ),
            ),
          ),
        ),
      ),
    ),
  )

  -- and found by its name
  abbrev FoundBy : StandardPrefix → List ℕ → DeclNo → Type 0
  FoundBy p name d = (i : ℕ) × (row : Declaration) × (d ≡ added_number next i) × (slice_get (added_declarations n next token p) i ≡ Some row) × (row.name ≡ name)

  all_named : (p : StandardPrefix) → AllPairs (FoundBy p) (names_brought p) (numbers_brought p next)
  all_named prefix.Simset = (
    (0, class_declared n next token standard.Linkage, refl, refl, refl),
    (
      (1, class_declared n next token standard.Link, refl, refl, refl),
      (
        (2, class_declared n next token standard.Head, refl, refl, refl),
        tt,
      ),
    ),
  )
  all_named prefix.Simulation = (
    (0, class_declared n next token standard.Linkage, refl, refl, refl),
    (
      (1, class_declared n next token standard.Link, refl, refl, refl),
      (
        (2, class_declared n next token standard.Head, refl, refl, refl),
        (
          (3, class_declared n next token standard.Process, refl, refl, refl),
          (
            (20, own_declared n next token name.Time, refl, refl, refl),
            (
              (21, own_declared n next token name.Current, refl, refl, refl),
              (
                (22, own_declared n next token name.Main, refl, refl, refl),
                (
                  (23, own_declared n next token name.Hold, refl, refl, refl),
                  (
                    (24, own_declared n next token name.Passivate, refl, refl, refl),
                    (
                      (25, own_declared n next token name.Wait, refl, refl, refl),
                      (
                        (26, own_declared n next token name.Cancel, refl, refl, refl),
                        tt,
                      ),
                    ),
                  ),
                ),
              ),
            ),
          ),
        ),
      ),
    ),
  )

  pub brought_named : (p : StandardPrefix) (i : ℕ) (name : List ℕ) (d : DeclNo) → slice_get (names_brought p) i ≡ Some name → slice_get (numbers_brought p next) i ≡ Some d → FoundBy p name d
  brought_named p i name d x y = pair_at (FoundBy p) (names_brought p) (numbers_brought p next) i name d (all_named p) x y

  pub record RowAdded (p : StandardPrefix) (i : ℕ) (row : BlockOf) : Type 0 where
    pub which : StandardClass
    pub is : IsBrought p which
    pub place : i ≡ place_of which
    pub kind : row.kind ≡ kind.StandardClass which
    pub encloser : row.encloser ≡ Some n
    pub depth : row.level ≡ level + 1
    pub owner : row.owner ≡ Some (added_number next (place_of which))
    pub base : row.base ≡ standard_base which n
    pub extras : extras_in (Some row) ≡ no_extras
    pub unheaded : row.prefix ≡ None
    pub even : length row.names ≡ length row.numbers
    pub formals : row.formals ≡ 0
    pub begins : row.first ≡ 0
    pub stops : row.end ≡ 0
    pub brought : row.brought ≡ []
    pub lists : AllNumbers (Lists p (n + 1 + i)) row.numbers
    pub rising : Rising row.numbers

  -- a row of a class, with what it lists
  row_is : (p : StandardPrefix) (which : StandardClass) (row : BlockOf) → IsBrought p which → row.kind ≡ kind.StandardClass which → row.encloser ≡ Some n → row.level ≡ level + 1 → row.owner ≡ Some (added_number next (place_of which)) → row.base ≡ standard_base which n → extras_in (Some row) ≡ no_extras → row.prefix ≡ None → length row.names ≡ length row.numbers
      → row.formals ≡ 0 → row.first ≡ 0 → row.end ≡ 0 → row.brought ≡ [] → AllNumbers (Lists p (n + 1 + place_of which)) row.numbers → Sorted row.numbers → RowAdded p (place_of which) row
  row_is p which row is k out depth owner base extras unheaded even formals begins stops brought lists sorted =
      record { which = which; is = is; place = refl; kind = k; encloser = out; depth = depth; owner = owner; base = base; extras = extras; unheaded = unheaded; even = even; formals = formals; begins = begins; stops = stops; brought = brought; lists = lists; rising = sorted_rise row.numbers sorted }

  pub rows_added : (p : StandardPrefix) → AllFrom (RowAdded p) 0 (added_rows n next level p)
  unfolding row_of
  rows_added prefix.Simset = (
    row_is prefix.Simset standard.Linkage _ tt refl refl refl refl refl refl refl refl refl refl refl refl ((3, attribute_declared n next token (record { class = standard.Linkage; name = name.Suc }), refl, refl, refl, refl), ((4, attribute_declared n next token (record { class = standard.Linkage; name = name.Pred }), refl, refl, refl, refl), ((5, attribute_declared n next token (record { class = standard.Linkage; name = name.Prev }), refl, refl, refl, refl), tt))) ((less next 3 4 (omega arith), (less next 3 5 (omega arith), tt)), ((less next 4 5 (omega arith), tt), (tt, tt))),
    (
      row_is prefix.Simset standard.Link _ tt refl refl refl refl refl refl refl refl refl refl refl refl ((6, attribute_declared n next token (record { class = standard.Link; name = name.Out }), refl, refl, refl, refl), ((7, attribute_declared n next token (record { class = standard.Link; name = name.Follow }), refl, refl, refl, refl), ((8, attribute_declared n next token (record { class = standard.Link; name = name.Precede }), refl, refl, refl, refl), ((9, attribute_declared n next token (record { class = standard.Link; name = name.Into }), refl, refl, refl, refl), tt)))) ((less next 6 7 (omega arith), (less next 6 8 (omega arith), (less next 6 9 (omega arith), tt))), ((less next 7 8 (omega arith), (less next 7 9 (omega arith), tt)), ((less next 8 9 (omega arith), tt), (tt, tt)))),
      (
        row_is prefix.Simset standard.Head _ tt refl refl refl refl refl refl refl refl refl refl refl refl ((10, attribute_declared n next token (record { class = standard.Head; name = name.First }), refl, refl, refl, refl), ((11, attribute_declared n next token (record { class = standard.Head; name = name.Last }), refl, refl, refl, refl), ((12, attribute_declared n next token (record { class = standard.Head; name = name.Empty }), refl, refl, refl, refl), ((13, attribute_declared n next token (record { class = standard.Head; name = name.Cardinal }), refl, refl, refl, refl), ((14, attribute_declared n next token (record { class = standard.Head; name = name.Clear }), refl, refl, refl, refl), tt))))) ((less next 10 11 (omega arith), (less next 10 12 (omega arith), (less next 10 13 (omega arith), (less next 10 14 (omega arith), tt)))), ((less next 11 12 (omega arith), (less next 11 13 (omega arith), (less next 11 14 (omega arith), tt))), ((less next 12 13 (omega arith), (less next 12 14 (omega arith), tt)), ((less next 13 14 (omega arith), tt), (tt, tt))))),
        tt,
      ),
    ),
  )
  rows_added prefix.Simulation = (
    row_is prefix.Simulation standard.Linkage _ tt refl refl refl refl refl refl refl refl refl refl refl refl ((4, attribute_declared n next token (record { class = standard.Linkage; name = name.Suc }), refl, refl, refl, refl), ((5, attribute_declared n next token (record { class = standard.Linkage; name = name.Pred }), refl, refl, refl, refl), ((6, attribute_declared n next token (record { class = standard.Linkage; name = name.Prev }), refl, refl, refl, refl), tt))) ((less next 4 5 (omega arith), (less next 4 6 (omega arith), tt)), ((less next 5 6 (omega arith), tt), (tt, tt))),
    (
      row_is prefix.Simulation standard.Link _ tt refl refl refl refl refl refl refl refl refl refl refl refl ((7, attribute_declared n next token (record { class = standard.Link; name = name.Out }), refl, refl, refl, refl), ((8, attribute_declared n next token (record { class = standard.Link; name = name.Follow }), refl, refl, refl, refl), ((9, attribute_declared n next token (record { class = standard.Link; name = name.Precede }), refl, refl, refl, refl), ((10, attribute_declared n next token (record { class = standard.Link; name = name.Into }), refl, refl, refl, refl), tt)))) ((less next 7 8 (omega arith), (less next 7 9 (omega arith), (less next 7 10 (omega arith), tt))), ((less next 8 9 (omega arith), (less next 8 10 (omega arith), tt)), ((less next 9 10 (omega arith), tt), (tt, tt)))),
      (
        row_is prefix.Simulation standard.Head _ tt refl refl refl refl refl refl refl refl refl refl refl refl ((11, attribute_declared n next token (record { class = standard.Head; name = name.First }), refl, refl, refl, refl), ((12, attribute_declared n next token (record { class = standard.Head; name = name.Last }), refl, refl, refl, refl), ((13, attribute_declared n next token (record { class = standard.Head; name = name.Empty }), refl, refl, refl, refl), ((14, attribute_declared n next token (record { class = standard.Head; name = name.Cardinal }), refl, refl, refl, refl), ((15, attribute_declared n next token (record { class = standard.Head; name = name.Clear }), refl, refl, refl, refl), tt))))) ((less next 11 12 (omega arith), (less next 11 13 (omega arith), (less next 11 14 (omega arith), (less next 11 15 (omega arith), tt)))), ((less next 12 13 (omega arith), (less next 12 14 (omega arith), (less next 12 15 (omega arith), tt))), ((less next 13 14 (omega arith), (less next 13 15 (omega arith), tt)), ((less next 14 15 (omega arith), tt), (tt, tt))))),
        (
          row_is prefix.Simulation standard.Process _ refl refl refl refl refl refl refl refl refl refl refl refl refl ((16, attribute_declared n next token (record { class = standard.Process; name = name.Idle }), refl, refl, refl, refl), ((17, attribute_declared n next token (record { class = standard.Process; name = name.Terminated }), refl, refl, refl, refl), ((18, attribute_declared n next token (record { class = standard.Process; name = name.Evtime }), refl, refl, refl, refl), ((19, attribute_declared n next token (record { class = standard.Process; name = name.Nextev }), refl, refl, refl, refl), tt)))) ((less next 16 17 (omega arith), (less next 16 18 (omega arith), (less next 16 19 (omega arith), tt))), ((less next 17 18 (omega arith), (less next 17 19 (omega arith), tt)), ((less next 18 19 (omega arith), tt), (tt, tt)))),
          tt,
        ),
      ),
    ),
  )

  pub row_added : (p : StandardPrefix) (i : ℕ) (row : BlockOf) → slice_get (added_rows n next level p) i ≡ Some row → RowAdded p i row
  row_added p i row at = let z : 0 + i ≡ i = omega arith in subst (λ m. RowAdded p m row) z (one_of (RowAdded p) 0 (added_rows n next level p) i row (rows_added p) at)
