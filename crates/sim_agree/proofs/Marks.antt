-- What each mark does to the tables: declarations, matches of virtuals, parameters, prefixes and what stands beside them.
use Rattle.std.proofs.Common.{◌≡◌, ◌<◌, ◌+◌, ◌⊎◌, inl, inr, ℕ, zero, suc, Bool, true, false, List, [], ◌∷◌, ◌++◌, length, Option, Some, None, refl, sym, ap, ◌∙◌, subst, arith, if◌then◌else◌}
use Rattle.std.specs.Prelude.{◌&&◌, nat_eq, not, position, slice_get, slice_set}
use Rattle.std.specs.List.{list_any}
use Rattle.std.specs.Str.{bytes_eq}
use Rattle.std.proofs.lemmas.List.{length-set}
use Rattle.std.proofs.lemmas.Option.{slice_get_within}
use Rattle.std.proofs.lemmas.Bool.Decides.{nat_tests}
use Rattle.sim_base.specs.declared.numbering.DeclNo.{DeclNo}
use Rattle.sim_base.specs.declared.numbering.TokenNo.{TokenNo}
use Rattle.sim_base.specs.declared.rule.Rule.{Rule}
use Rattle.sim_base.specs.declared.rule.Rule.TheVariants as r
use Rattle.sim_tree.specs.declared.expr.Identifier.{Identifier}
use Rattle.sim_scope.specs.declared.scopes.Declaration.{Declaration}
use Rattle.sim_scope.specs.declared.types.Entry.{Entry}
use Rattle.sim_scope.specs.declared.types.Entry.TheVariants as entry
use Rattle.sim_scope.specs.declared.types.FormalKind.{FormalKind}
use Rattle.sim_scope.specs.declared.types.Mode.{Mode}
use Rattle.sim_scope.specs.declared.types.SimType.{SimType}
use Rattle.sim_scope.specs.declared.types.StandardPrefix.{StandardPrefix}
use Rattle.sim_scope.specs.declared.types.WrittenMode.{WrittenMode}
use Rattle.sim_scope.specs.Building.{BuildingOf, Mark, added, broken, broken_if, changed, changed_row, counted, counted_in, declared, declared_again, declared_at, declared_inside, declared_new, declared_twice, default_mode, entered, formal, headed, holding_class, in_class, inner, inner_at, inner_in, is_by_name, is_match, is_procedure, marked, matched, matching, mode_allowed, moded, moded_as, parameter, prefixed_by, qualified, row_matching, row_of, specified, specified_as, token_in, unspecified_in, with_entry, with_mode, guards, guards_at, protecting}
use Rattle.sim_scope.specs.Runs.{run}
use Rattle.sim_scope.specs.Scopes.{declared_in, entry_in, entry_of, is_procedure_entry, numbered}
use Rattle.sim_scope.specs.Standard.{standard_prefix}
use Rattle.sim_scope.specs.Tables.{BlockOf}
use Rattle.sim_scope.proofs.Kept.{kept_set, more_here, more_other, set_here, set_other}
use Rattle.sim_meaning.specs.Entries.{numbers_in}
use Rattle.sim_sound.specs.Held.{Among}
use Rattle.sim_agree.proofs.Groups.{Declarable, OwnEntry, TypedFormal, Quals, qualifies, unqualified}
use Rattle.sim_agree.proofs.Unprefixed.{Extras, Known, MatchOf, NamesFound, NoExtras, extras_in, is_wrong, no_extras, is_prefixable, brings_of, spelt_as, spelt_before}
use Rattle.sim_agree.proofs.Steps.{Changed, Even, Finds, IsParameter, IsRow, Listed, Nothing, Parametric, RowIs, Step, Unmatched, Was, broken_step, fixed, get_more, new_step, same_step, some_same, unchanged}

-- ---- a match of a virtual

match_cases : (e : Entry) (o : Option Declaration) → is_match e (entry_in o) ≡ true → (row : Declaration) × (wanted : Option SimType) × (o ≡ Some row) × (row.entry ≡ entry.Virtual wanted None) × (is_procedure_entry e ≡ true)
match_cases (entry.Variable ty) o h = absurd (cc)
match_cases (entry.Constant ty) o h = absurd (cc)
match_cases (entry.Array ty n) o h = absurd (cc)
match_cases (entry.Class n) o h = absurd (cc)
match_cases (entry.Virtual result own) o h = absurd (cc)
match_cases (entry.Formal f) o h = absurd (cc)
match_cases (entry.Attribute name parameter result) o h = absurd (cc)
match_cases (entry.Unspecified w) o h = absurd (cc)
match_cases (entry.Procedure result k) None h = absurd (cc)
match_cases (entry.Procedure result k) (Some row) h = go row.entry refl h
  where
    go : (y : Entry) → row.entry ≡ y → is_match (entry.Procedure result k) (Some y) ≡ true → (found : Declaration) × (wanted : Option SimType) × (Some row ≡ Some found) × (found.entry ≡ entry.Virtual wanted None) × (is_procedure_entry (entry.Procedure result k) ≡ true)
    go (entry.Virtual wanted None) f g = (row, wanted, refl, f, refl)
    go (entry.Virtual wanted (Some d)) f g = absurd (cc)
    go (entry.Variable ty) f g = absurd (cc)
    go (entry.Constant ty) f g = absurd (cc)
    go (entry.Array ty n) f g = absurd (cc)
    go (entry.Procedure other n) f g = absurd (cc)
    go (entry.Class n) f g = absurd (cc)
    go (entry.Formal p) f g = absurd (cc)
    go (entry.Attribute name parameter given) f g = absurd (cc)
    go (entry.Unspecified w) f g = absurd (cc)

-- the virtual knows the next declaration, which its block does not list
matched_step : (b : BuildingOf) (x : Identifier) (e : Entry) (n : ℕ) (v : DeclNo) (old : Declaration) (wanted : Option SimType) → slice_get b.tables.declarations v.0 ≡ Some old → old.entry ≡ entry.Virtual wanted None → is_procedure_entry e ≡ true → declared_in (slice_get b.tables.blocks n) x.name ≡ Some v
    → Step b (record b {
      tables = record b.tables { declarations = slice_set b.tables.declarations v.0 (record old { entry = matching old.entry (record { 0 = length b.tables.declarations }) }) ++ row_of x e n false ∷ [] };
      own = b.own + 1;
      latest = Some (record { 0 = length (slice_set b.tables.declarations v.0 (record old { entry = matching old.entry (record { 0 = length b.tables.declarations }) })) });
    })
    (λ d row. (d ≡ length b.tables.declarations) × IsRow x e n row)
matched_step b x e n v old wanted at is proc found = record {
  current = refl;
  size = refl;
  fixes = λ j. refl;
  others = λ j q. refl;
  more = λ j d a. a;
  fewer = λ j d a. inl a;
  lists = λ j. inl refl;
  rows = λ d row to. rows d row (nat_eq d (length ms)) refl to;
  places = refl;
  evens = λ a. a;
  looks = λ j name d to. to;
  stays = λ d row to. stays d row to (nat_eq v.0 d) refl;
  bare = λ w. record { blocks = w.blocks };
  knows = λ names w u row result d to en. knows names w u row result d (nat_eq u (length ms)) refl to en;
  brings = λ j. refl;
  spells = λ j p to. to;
}
  where
    ds : List Declaration
    ds = b.tables.declarations

    next : DeclNo
    next = record { 0 = length ds }

    new : Declaration
    new = record old { entry = matching old.entry next }

    ms : List Declaration
    ms = slice_set ds v.0 new

    fresh : Declaration
    fresh = row_of x e n false

    long : length ms ≡ length ds
    long = length-set ds v.0 new

    knowing : new.entry ≡ entry.Virtual wanted (Some next)
    knowing = ap (λ z. matching z next) is

    change : Changed old new
    change = record { name = refl; token = refl; block = refl; listed = refl; entry = inr (inr (wanted, next, is, knowing)) }

    here : (d : ℕ) → nat_eq v.0 d ≡ true → slice_get (slice_set ds v.0 new) d ≡ Some new
    here d z = let same : v.0 ≡ d = grind (arith, nat_tests) in subst (λ k. slice_get (slice_set ds v.0 new) k ≡ Some new) same (set_here ds v.0 old new at)

    old_here : (d : ℕ) → nat_eq v.0 d ≡ true → slice_get ds d ≡ Some old
    old_here d z = let same : v.0 ≡ d = grind (arith, nat_tests) in subst (λ k. slice_get ds k ≡ Some old) same at

    last_row : (d : ℕ) (row : Declaration) → nat_eq d (length ms) ≡ true → slice_get (ms ++ fresh ∷ []) d ≡ Some row → (d ≡ length ds) × (fresh ≡ row)
    last_row d row z to =
        let same : d ≡ length ms = grind (arith, nat_tests) in
        (same ∙ long, some_same fresh row (sym (more_here ms fresh) ∙ subst (λ k. slice_get (ms ++ fresh ∷ []) k ≡ Some row) same to))

    rows : (d : ℕ) (row : Declaration) (c : Bool) → nat_eq d (length ms) ≡ c → slice_get (ms ++ fresh ∷ []) d ≡ Some row → Was b d row ⊎ (((d ≡ length ds) × IsRow x e n row) × Finds b.tables.blocks b.tables.blocks d row)
    rows d row true z to =
        let q = last_row d row z to in
        let f = q.1 in
        inr (
          (q.0, (ap (λ (y : Declaration). y.name) (sym f), ap (λ (y : Declaration). y.token) (sym f), ap (λ (y : Declaration). y.block) (sym f), ap (λ (y : Declaration). y.entry) (sym f), inr (ap (λ (y : Declaration). y.listed) (sym f), proc))),
          λ l. absurd (let y : false ≡ true = ap (λ (y : Declaration). y.listed) f ∙ l in cc),
        )
    rows d row false z to = inl (was (nat_eq v.0 d) refl (sym (more_other ms fresh d z) ∙ to))
      where
        was : (c : Bool) → nat_eq v.0 d ≡ c → slice_get (slice_set ds v.0 new) d ≡ Some row → Was b d row
        was true y p = (old, old_here d y, subst (Changed old) (some_same new row (sym (here d y) ∙ p)) change)
        was false y p = (row, sym (set_other ds v.0 d new y) ∙ p, unchanged row)

    stays : (d : ℕ) (row : Declaration) → slice_get ds d ≡ Some row → (c : Bool) → nat_eq v.0 d ≡ c → (now : Declaration) × (slice_get (ms ++ fresh ∷ []) d ≡ Some now) × Changed row now
    stays d row to true z = (new, get_more ms (fresh ∷ []) d new (here d z), subst (λ y. Changed y new) (some_same old row (sym (old_here d z) ∙ to)) change)
    stays d row to false z = (row, get_more ms (fresh ∷ []) d row (set_other ds v.0 d new z ∙ to), unchanged row)

    knows : NamesFound b.tables → Known ds → (u : ℕ) (row : Declaration) (result : Option SimType) (d : DeclNo) (c : Bool) → nat_eq u (length ms) ≡ c → slice_get (ms ++ fresh ∷ []) u ≡ Some row → row.entry ≡ entry.Virtual result (Some d) → MatchOf (ms ++ fresh ∷ []) row d
    knows names w u row result d true z to en =
        let q = last_row u row z to in
        let f : e ≡ entry.Virtual result (Some d) = ap (λ (y : Declaration). y.entry) q.1 ∙ en in
        absurd (let y : true ≡ false = sym proc ∙ ap is_procedure_entry f in cc)
    knows names w u row result d false z to en = by_place (nat_eq v.0 u) refl (sym (more_other ms fresh u z) ∙ to)
      where
        same_match : (c d : DeclNo) → entry.Virtual wanted (Some c) ≡ entry.Virtual result (Some d) → c ≡ d
        same_match c d y = cc

        of_virtual : new ≡ row → MatchOf (ms ++ fresh ∷ []) row d
        of_virtual f =
            let number : next ≡ d = same_match next d (sym knowing ∙ ap (λ (y : Declaration). y.entry) f ∙ en) in
            let h = names n x.name v found in
            let one : h.0 ≡ old = some_same h.0 old (sym h.1 ∙ at) in
            subst (λ y. MatchOf (ms ++ fresh ∷ []) y d) f (record {
              row = fresh;
              at = ap (λ (y : DeclNo). slice_get (ms ++ fresh ∷ []) y.0) (sym number) ∙ ap (slice_get (ms ++ fresh ∷ [])) (sym long) ∙ more_here ms fresh;
              name = sym h.2 ∙ ap (λ (y : Declaration). y.name) one;
              block = sym h.3 ∙ ap (λ (y : Declaration). y.block) one;
              procedure = proc;
            })

        of_other : MatchOf ds row d → MatchOf (ms ++ fresh ∷ []) row d
        of_other m = go (nat_eq v.0 d.0) refl
          where
            go : (c : Bool) → nat_eq v.0 d.0 ≡ c → MatchOf (ms ++ fresh ∷ []) row d
            go true y =
                let one : old ≡ m.row = some_same old m.row (sym (old_here d.0 y) ∙ m.at) in
                absurd (let k : false ≡ true = sym (ap is_procedure_entry is) ∙ ap (λ (y : Declaration). is_procedure_entry y.entry) one ∙ m.procedure in cc)
            go false y = record { row = m.row; at = get_more ms (fresh ∷ []) d.0 m.row (set_other ds v.0 d.0 new y ∙ m.at); name = m.name; block = m.block; procedure = m.procedure }

        by_place : (c : Bool) → nat_eq v.0 u ≡ c → slice_get (slice_set ds v.0 new) u ≡ Some row → MatchOf (ms ++ fresh ∷ []) row d
        by_place true y p = of_virtual (some_same new row (sym (here u y) ∙ p))
        by_place false y p = of_other (w u row result d (sym (set_other ds v.0 u new y) ∙ p) en)

-- the new row is that of the mark
abbrev pub Declared : ℕ → Identifier → Entry → ℕ → ℕ → Declaration → Type 0
Declared next x e n d row = (d ≡ next) × IsRow x e n row

declared_row : (b : BuildingOf) (x : Identifier) (e : Entry) (n : ℕ) (o : Option BlockOf) → Unmatched e → b.current ≡ Some n → slice_get b.tables.blocks n ≡ o
    → Step b (declared_at b x e n o) (Declared (length b.tables.declarations) x e n)
unfolding entry_of
declared_row b x e n None alone cur at = same_step b b _ refl refl
declared_row b x e n (Some row) alone cur at = go (list_any (bytes_eq x.name) row.names) refl
  where
    next : DeclNo
    next = record { 0 = length b.tables.declarations }

    either : (d : DeclNo) → declared_in (Some row) x.name ≡ Some d → (c : Bool) → is_match e (entry_in (slice_get b.tables.declarations d.0)) ≡ c → Step b (if c then matched b x e n d else declared_twice b x (Some d)) (Declared (length b.tables.declarations) x e n)
    either d found false is = same_step b _ _ refl refl
    either d found true is =
        let m = match_cases e (slice_get b.tables.declarations d.0) is in
        subst (λ o. Step b (added (record b { tables = record b.tables { declarations = row_matching o next b.tables.declarations d.0 } }) x e n false) (Declared (length b.tables.declarations) x e n)) (sym m.2)
        (broken_step (nat_eq b.own 65535) b _ x.token.0 r.TooManyDeclarations _ (matched_step b x e n d m.0 m.1 m.2 m.3 m.4 (ap (λ z. declared_in z x.name) at ∙ found)))

    again : (o : Option DeclNo) → declared_in (Some row) x.name ≡ o → Step b (declared_again b x e n o) (Declared (length b.tables.declarations) x e n)
    again None found = same_step b _ _ refl refl
    again (Some d) found = either d found (is_match e (entry_in (slice_get b.tables.declarations d.0))) refl

    go : (c : Bool) → list_any (bytes_eq x.name) row.names ≡ c → Step b (if c then declared_again b x e n (declared_in (Some row) x.name) else declared_new b x e n row) (Declared (length b.tables.declarations) x e n)
    go true is = again (declared_in (Some row) x.name) refl
    go false is = broken_step (nat_eq b.own 65535) b _ x.token.0 r.TooManyDeclarations _ (new_step b x e n row alone cur at is)

pub declared_step : (b : BuildingOf) (x : Identifier) (e : Entry) (n : ℕ) → Unmatched e → b.current ≡ Some n → Step b (declared b x e) (Declared (length b.tables.declarations) x e n)
declared_step b x e n alone cur = subst (λ o. Step b (declared_inside b x e o) (Declared (length b.tables.declarations) x e n)) (sym cur) (declared_row b x e n (slice_get b.tables.blocks n) alone cur refl)

-- a new row is that of the declaration met last
within_not : (ds : List Declaration) (row : Declaration) → slice_get ds (length ds) ≡ Some row → ⊥
within_not ds row at = let lt : length ds < length ds = slice_get_within ds (length ds) row at in omega arith

if_latest : (a : Bool) (b : BuildingOf) (token : ℕ) (rule : Rule) → (broken_if a b token rule).latest ≡ b.latest
if_latest true b token rule = refl
if_latest false b token rule = refl

pub matching_length : (o : Option Declaration) (d : DeclNo) (ds : List Declaration) (i : ℕ) → length (row_matching o d ds i) ≡ length ds
matching_length None d ds i = refl
matching_length (Some row) d ds i = length-set ds i (record row { entry = matching row.entry d })

latest_row : (b : BuildingOf) (x : Identifier) (e : Entry) (n : ℕ) (o : Option BlockOf) (row : Declaration) → slice_get (declared_at b x e n o).tables.declarations (length b.tables.declarations) ≡ Some row
    → (declared_at b x e n o).latest ≡ Some (record { 0 = length b.tables.declarations })
latest_row b x e n None row at = absurd (within_not b.tables.declarations row at)
latest_row b x e n (Some found) row at = go (list_any (bytes_eq x.name) found.names) at
  where
    next : DeclNo
    next = record { 0 = length b.tables.declarations }

    either : (d : DeclNo) (c : Bool) → slice_get (if c then matched b x e n d else declared_twice b x (Some d)).tables.declarations (length b.tables.declarations) ≡ Some row
        → (if c then matched b x e n d else declared_twice b x (Some d)).latest ≡ Some (record { 0 = length b.tables.declarations })
    either d true at = if_latest (nat_eq b.own 65535) _ x.token.0 r.TooManyDeclarations ∙ ap (λ m. let w : DeclNo = record { 0 = m } in Some w) (matching_length (slice_get b.tables.declarations d.0) next b.tables.declarations d.0)
    either d false at = absurd (within_not b.tables.declarations row at)

    again : (o : Option DeclNo) → slice_get (declared_again b x e n o).tables.declarations (length b.tables.declarations) ≡ Some row → (declared_again b x e n o).latest ≡ Some (record { 0 = length b.tables.declarations })
    again None at = absurd (within_not b.tables.declarations row at)
    again (Some d) at = either d (is_match e (entry_of b.tables d)) at

    go : (c : Bool) → slice_get (if c then declared_again b x e n (declared_in (Some found) x.name) else declared_new b x e n found).tables.declarations (length b.tables.declarations) ≡ Some row
        → (if c then declared_again b x e n (declared_in (Some found) x.name) else declared_new b x e n found).latest ≡ Some (record { 0 = length b.tables.declarations })
    go true at = again (declared_in (Some found) x.name) at
    go false at = if_latest (nat_eq b.own 65535) _ x.token.0 r.TooManyDeclarations

pub declared_latest : (b : BuildingOf) (x : Identifier) (e : Entry) (n : ℕ) (row : Declaration) → b.current ≡ Some n → slice_get (declared b x e).tables.declarations (length b.tables.declarations) ≡ Some row
    → (declared b x e).latest ≡ Some (record { 0 = length b.tables.declarations })
declared_latest b x e n row cur at =
    subst (λ o. (declared_inside b x e o).latest ≡ Some (record { 0 = length b.tables.declarations })) (sym cur)
    (latest_row b x e n (slice_get b.tables.blocks n) row (subst (λ o. slice_get (declared_inside b x e o).tables.declarations (length b.tables.declarations) ≡ Some row) cur at))

pub own_unmatched : (e : Entry) → OwnEntry e → Unmatched e
own_unmatched e own result d is = subst OwnEntry is own

pub declarable_unmatched : (e : Entry) → Declarable e → Unmatched e
declarable_unmatched e may result d is = subst Declarable is may

pub unspecified_unmatched : (w : Option WrittenMode) → Unmatched (entry.Unspecified w)
unspecified_unmatched w result d is = cc

pub procedure_unmatched : (given : Option SimType) (k : ℕ) → Unmatched (entry.Procedure given k)
procedure_unmatched given k result d is = cc

pub class_unmatched : (k : ℕ) → Unmatched (entry.Class k)
class_unmatched k result d is = cc

pub virtual_unmatched : (wanted : Option SimType) → Unmatched (entry.Virtual wanted None)
virtual_unmatched wanted result d is = cc

-- ---- parameters

-- the formal parameters of the innermost block are counted
counted_step : (b c : BuildingOf) (n : ℕ) (o : Option BlockOf) (New : ℕ → Declaration → Type 0) → b.current ≡ Some n → slice_get c.tables.blocks n ≡ o → Step b c New → Step b (counted c n o) New
counted_step b c n None New cur at h = h
counted_step b c n (Some row) New cur at h = record {
  current = h.current;
  size = length-set bs n new ∙ h.size;
  fixes = λ j. kept_set fixed bs n row new at refl j ∙ h.fixes j;
  others = λ j q. set_other bs n j new (differ j q (nat_eq n j) refl) ∙ h.others j q;
  more = λ j d a. subst (λ z. Among d z) (sym (kept_set numbers_in bs n row new at refl j)) (h.more j d a);
  fewer = λ j d a. h.fewer j d (subst (λ z. Among d z) (kept_set numbers_in bs n row new at refl j) a);
  lists = λ j. subst (Listed (length b.tables.declarations) (numbers_in (slice_get b.tables.blocks j))) (sym (kept_set numbers_in bs n row new at refl j)) (h.lists j);
  rows = λ d found is. listed d found (h.rows d found is);
  places = h.places;
  evens = λ a j. even j (nat_eq n j) refl (h.evens a j);
  looks = λ j name d is. kept_set (λ o. declared_in o name) bs n row new at refl j ∙ h.looks j name d is;
  stays = h.stays;
  bare = λ w. let v = h.bare w in record { blocks = λ j. kept_set extras_in bs n row new at refl j ∙ v.blocks j };
  knows = h.knows;
  brings = λ j. kept_set brings_of bs n row new at refl j ∙ h.brings j;
  spells = λ j p e. h.spells j p (sym (kept_set spelt_before bs n row new at refl j) ∙ e);
}
  where
    bs : List BlockOf
    bs = c.tables.blocks

    new : BlockOf
    new = record row { formals = length row.numbers }

    differ : (j : ℕ) → (b.current ≡ Some j → ⊥) → (a : Bool) → nat_eq n j ≡ a → nat_eq n j ≡ false
    differ j q true is = absurd (q (cur ∙ ap Some (let P : n ≡ j = grind (arith, nat_tests) in P)))
    differ j q false is = is

    even : (j : ℕ) (c : Bool) → nat_eq n j ≡ c → Even (slice_get bs j) → Even (slice_get (slice_set bs n new) j)
    even j true is a =
        let same : n ≡ j = grind (arith, nat_tests) in
        subst (λ z. Even (slice_get (slice_set bs n new) z)) same (subst Even (sym (set_here bs n row new at)) (subst Even at (subst (λ z. Even (slice_get bs z)) (sym same) a)))
    even j false is a = subst Even (sym (set_other bs n j new is)) a

    listed : (d : ℕ) (found : Declaration) → RowIs b c New d found → Was b d found ⊎ (New d found × Finds b.tables.blocks (slice_set bs n new) d found)
    listed d found (inl q) = inl q
    listed d found (inr q) = inr (q.0, λ l. (subst (λ z. Among (record { 0 = d }) z) (sym (kept_set numbers_in bs n row new at refl found.block)) (q.1 l).0, λ a. kept_set (λ o. declared_in o found.name) bs n row new at refl found.block ∙ (q.1 l).1 a))

pub parameter_step : (b : BuildingOf) (x : Identifier) (n : ℕ) → b.current ≡ Some n → Step b (parameter b x) (Declared (length b.tables.declarations) x (entry.Unspecified None) n)
parameter_step b x n cur =
    let c : BuildingOf = declared b x (entry.Unspecified None) in
    let h : Step b c (Declared (length b.tables.declarations) x (entry.Unspecified None) n) = declared_step b x (entry.Unspecified None) n (unspecified_unmatched None) cur in
    subst (λ o. Step b (counted_in c o) (Declared (length b.tables.declarations) x (entry.Unspecified None) n)) (sym (h.current ∙ cur)) (counted_step b c n (slice_get c.tables.blocks n) _ cur refl h)

-- ---- what becomes known of a parameter

entry_step : (b : BuildingOf) (d : DeclNo) (w : Option WrittenMode) (e : Entry) (o : Option Declaration) → slice_get b.tables.declarations d.0 ≡ o → entry_in o ≡ Some (entry.Unspecified w) → Parametric e → IsParameter e → Step b (entered b d e o) Nothing
entry_step b d w e None at is fine param = absurd (cc)
entry_step b d w e (Some row) at is fine param = record {
  current = refl;
  size = refl;
  fixes = λ j. refl;
  others = λ j q. refl;
  more = λ j f a. a;
  fewer = λ j f a. inl a;
  lists = λ j. inl refl;
  rows = λ f found p. inl (rows f found (nat_eq d.0 f) refl p);
  places = refl;
  evens = λ a. a;
  looks = λ j name f p. p;
  stays = λ f old p. stays f old (nat_eq d.0 f) refl p;
  bare = λ v. record { blocks = v.blocks };
  knows = λ names known v found result f p en. knows v found result f known (nat_eq d.0 v) refl p en;
  brings = λ j. refl;
  spells = λ j p e. e;
}
  where
    ds : List Declaration
    ds = b.tables.declarations

    new : Declaration
    new = record row { entry = e }

    change : Changed row new
    change = record { name = refl; token = refl; block = refl; listed = refl; entry = inr (inl (w, some_same row.entry (entry.Unspecified w) is, fine, param)) }

    here : (f : ℕ) → nat_eq d.0 f ≡ true → slice_get (slice_set ds d.0 new) f ≡ Some new
    here f is = let same : d.0 ≡ f = grind (arith, nat_tests) in subst (λ z. slice_get (slice_set ds d.0 new) z ≡ Some new) same (set_here ds d.0 row new at)

    old_here : (f : ℕ) → nat_eq d.0 f ≡ true → slice_get ds f ≡ Some row
    old_here f is = let same : d.0 ≡ f = grind (arith, nat_tests) in subst (λ z. slice_get ds z ≡ Some row) same at

    knows : (v : ℕ) (found : Declaration) (result : Option SimType) (f : DeclNo) → Known ds → (c : Bool) → nat_eq d.0 v ≡ c → slice_get (slice_set ds d.0 new) v ≡ Some found → found.entry ≡ entry.Virtual result (Some f) → MatchOf (slice_set ds d.0 new) found f
    knows v found result f known true z p en =
        let one : new ≡ found = some_same new found (sym (here v z) ∙ p) in
        absurd (subst IsParameter (ap (λ (y : Declaration). y.entry) one ∙ en) param)
    knows v found result f known false z p en = other (known v found result f (sym (set_other ds d.0 v new z) ∙ p) en)
      where
        other : MatchOf ds found f → MatchOf (slice_set ds d.0 new) found f
        other m = go (nat_eq d.0 f.0) refl
          where
            go : (c : Bool) → nat_eq d.0 f.0 ≡ c → MatchOf (slice_set ds d.0 new) found f
            go true y =
                let one : row ≡ m.row = some_same row m.row (sym (old_here f.0 y) ∙ m.at) in
                absurd (let k : false ≡ true = sym (ap is_procedure_entry (some_same row.entry (entry.Unspecified w) is)) ∙ ap (λ (y : Declaration). is_procedure_entry y.entry) one ∙ m.procedure in cc)
            go false y = record { row = m.row; at = set_other ds d.0 f.0 new y ∙ m.at; name = m.name; block = m.block; procedure = m.procedure }

    rows : (f : ℕ) (found : Declaration) (c : Bool) → nat_eq d.0 f ≡ c → slice_get (slice_set ds d.0 new) f ≡ Some found → (old : Declaration) × (slice_get ds f ≡ Some old) × Changed old found
    rows f found true is p = (row, old_here f is, subst (Changed row) (some_same new found (sym (here f is) ∙ p)) change)
    rows f found false is p = (found, sym (set_other ds d.0 f new is) ∙ p, unchanged found)

    stays : (f : ℕ) (old : Declaration) (c : Bool) → nat_eq d.0 f ≡ c → slice_get ds f ≡ Some old → (found : Declaration) × (slice_get (slice_set ds d.0 new) f ≡ Some found) × Changed old found
    stays f old true is p = (new, here f is, subst (λ z. Changed z new) (some_same row old (sym (old_here f is) ∙ p)) change)
    stays f old false is p = (old, set_other ds d.0 f new is ∙ p, unchanged old)

pub is_unspecified : (o : Option Entry) (w : Option WrittenMode) → unspecified_in o ≡ Some w → o ≡ Some (entry.Unspecified w)
is_unspecified (Some (entry.Unspecified v)) w e = ap (λ z. Some (entry.Unspecified z)) (some_same v w e)
is_unspecified (Some (entry.Attribute name parameter result)) w e = absurd (cc)
is_unspecified None w e = absurd (cc)
is_unspecified (Some (entry.Variable ty)) w e = absurd (cc)
is_unspecified (Some (entry.Constant ty)) w e = absurd (cc)
is_unspecified (Some (entry.Array ty n)) w e = absurd (cc)
is_unspecified (Some (entry.Procedure ty n)) w e = absurd (cc)
is_unspecified (Some (entry.Class n)) w e = absurd (cc)
is_unspecified (Some (entry.Virtual ty n)) w e = absurd (cc)
is_unspecified (Some (entry.Formal f)) w e = absurd (cc)

with_entry_step : (b : BuildingOf) (d : DeclNo) (w : Option WrittenMode) (e : Entry) → unspecified_in (entry_of b.tables d) ≡ Some w → Parametric e → IsParameter e → Step b (with_entry b d e) Nothing
unfolding entry_of
with_entry_step b d w e is fine param = entry_step b d w e (slice_get b.tables.declarations d.0) refl (is_unspecified (entry_in (slice_get b.tables.declarations d.0)) w is) fine param

moded_row : (b : BuildingOf) (token : TokenNo) (m : Mode) (d : DeclNo) (o : Option (Option WrittenMode)) → unspecified_in (entry_of b.tables d) ≡ o → Step b (moded_as b token m d o) Nothing
moded_row b token m d None is = same_step b _ _ refl refl
moded_row b token m d (Some (Some w)) is = same_step b _ _ refl refl
moded_row b token m d (Some None) is = go (is_by_name m && in_class b)
  where
    go : (c : Bool) → Step b (if c then broken b token.0 r.ModeNotAllowed else with_entry b d (entry.Unspecified (Some (record { token = token; mode = m })))) Nothing
    go true = same_step b _ _ refl refl
    go false = with_entry_step b d None (entry.Unspecified (Some (record { token = token; mode = m }))) is tt tt

pub moded_step : (b : BuildingOf) (token : TokenNo) (m : Mode) (o : Option DeclNo) → Step b (moded b token m o) Nothing
moded_step b token m None = same_step b _ _ refl refl
moded_step b token m (Some d) = moded_row b token m d (unspecified_in (entry_of b.tables d)) refl

specified_mode : (b : BuildingOf) (d : DeclNo) (k : FormalKind) (ty : Option SimType) (w : Option WrittenMode) → unspecified_in (entry_of b.tables d) ≡ Some w → TypedFormal k ty → Step b (with_mode b d k ty w) Nothing
specified_mode b d k ty None is p = with_entry_step b d None (formal (default_mode k ty) k ty) is p tt
specified_mode b d k ty (Some w) is p = broken_step (not (mode_allowed w.mode k ty)) b _ w.token.0 r.ModeNotAllowed Nothing (with_entry_step b d (Some w) (formal w.mode k ty) is p tt)

specified_row : (b : BuildingOf) (token : TokenNo) (k : FormalKind) (ty : Option SimType) (d : DeclNo) (o : Option (Option WrittenMode)) → unspecified_in (entry_of b.tables d) ≡ o → TypedFormal k ty → Step b (specified_as b token k ty d o) Nothing
specified_row b token k ty d None is p = same_step b _ _ refl refl
specified_row b token k ty d (Some w) is p = broken_step (is_procedure k && in_class b) b _ (token_in (slice_get b.tables.declarations d.0)) r.ModeNotAllowed Nothing (specified_mode b d k ty w is p)

specified_step : (b : BuildingOf) (token : TokenNo) (k : FormalKind) (ty : Option SimType) (o : Option DeclNo) → TypedFormal k ty → Step b (specified b token k ty o) Nothing
specified_step b token k ty None p = same_step b _ _ refl refl
specified_step b token k ty (Some d) p = specified_row b token k ty d (unspecified_in (entry_of b.tables d)) refl p

-- which declaration was met last does not matter
abbrev pub met : BuildingOf → Option DeclNo → BuildingOf
met b o = record b { latest = o }

met_step : (b c : BuildingOf) (o : Option DeclNo) → Step (met b o) c Nothing → Step b c Nothing
met_step b c o h = record { current = h.current; size = h.size; fixes = h.fixes; others = h.others; more = h.more; fewer = h.fewer; lists = h.lists; rows = h.rows; places = h.places; evens = h.evens; looks = h.looks; stays = h.stays; bare = h.bare; knows = h.knows; brings = h.brings; spells = h.spells }

pub specified_met : (b : BuildingOf) (token : TokenNo) (k : FormalKind) (ty : Option SimType) (o : Option DeclNo) → TypedFormal k ty → Step b (specified (met b o) token k ty o) Nothing
specified_met b token k ty o p = met_step b (specified (met b o) token k ty o) o (specified_step (met b o) token k ty o p)

pub headed_step : (b : BuildingOf) (token : TokenNo) (o : Option (Option WrittenMode)) → Step b (headed b token o) Nothing
headed_step b token None = same_step b _ _ refl refl
headed_step b token (Some w) = same_step b _ _ refl refl

-- ---- what tables have beside

-- the class that is written for what was declared last
qualified_step : (b c : BuildingOf) (New : ℕ → Declaration → Type 0) (x : Identifier) (o : Option DeclNo) → Step b c New → Step b (qualified c x o) New
qualified_step b c New x None h = h
qualified_step b c New x (Some d) h = record {
  current = h.current;
  size = h.size;
  fixes = h.fixes;
  others = h.others;
  more = h.more;
  fewer = h.fewer;
  lists = h.lists;
  rows = h.rows;
  places = h.places;
  evens = h.evens;
  looks = h.looks;
  stays = h.stays;
  bare = λ w. let v = h.bare w in record { blocks = v.blocks };
  knows = h.knows;
  brings = h.brings;
  spells = h.spells;
}

pub quals_step : (b c : BuildingOf) (New : ℕ → Declaration → Type 0) (R : Type 0) (quals : List Mark) → Quals R quals → Step b c New → Step b (run marked c quals) New
unfolding run marked
quals_step b c New R quals (unqualified free) h = h
quals_step b c New R quals (qualifies x r) h = qualified_step b c New x c.latest h

-- a row of a block is replaced by one that declares the same
bare_row_step : (b c : BuildingOf) (New : ℕ → Declaration → Type 0) (n : ℕ) (row new : BlockOf) → b.current ≡ Some n → slice_get c.tables.blocks n ≡ Some row → fixed (Some new) ≡ fixed (Some row) → new.numbers ≡ row.numbers → new.names ≡ row.names → brings_of (Some new) ≡ brings_of (Some row)
    → (extras_in (Some row) ≡ no_extras → extras_in (Some new) ≡ no_extras) → ((p : StandardPrefix) → spelt_as new.prefix ≡ Some p → spelt_as row.prefix ≡ Some p)
    → Step b c New → Step b (record c { tables = record c.tables { blocks = slice_set c.tables.blocks n new } }) New
bare_row_step b c New n row new cur at alike numbers names brought extras spelt h = record {
  current = h.current;
  size = length-set bs n new ∙ h.size;
  fixes = λ j. kept_set fixed bs n row new at alike j ∙ h.fixes j;
  others = λ j q. set_other bs n j new (differ j q (nat_eq n j) refl) ∙ h.others j q;
  more = λ j d a. subst (λ z. Among d z) (sym (kept_set numbers_in bs n row new at numbers j)) (h.more j d a);
  fewer = λ j d a. h.fewer j d (subst (λ z. Among d z) (kept_set numbers_in bs n row new at numbers j) a);
  lists = λ j. subst (Listed (length b.tables.declarations) (numbers_in (slice_get b.tables.blocks j))) (sym (kept_set numbers_in bs n row new at numbers j)) (h.lists j);
  rows = λ d found is. listed d found (h.rows d found is);
  places = h.places;
  evens = λ a j. even j (nat_eq n j) refl (h.evens a j);
  looks = λ j name d is. kept_set (λ o. declared_in o name) bs n row new at (named name) j ∙ h.looks j name d is;
  stays = h.stays;
  bare = λ w. let v = h.bare w in record { blocks = λ j. bare_there v.blocks j (nat_eq n j) refl };
  knows = h.knows;
  brings = λ j. kept_set brings_of bs n row new at brought j ∙ h.brings j;
  spells = λ j p e. h.spells j p (spells j p (nat_eq n j) refl e);
}
  where
    bs : List BlockOf
    bs = c.tables.blocks

    bare_there : NoExtras bs → (j : ℕ) (a : Bool) → nat_eq n j ≡ a → extras_in (slice_get (slice_set bs n new) j) ≡ no_extras
    bare_there w j true is =
        let same : n ≡ j = grind (arith, nat_tests) in
        subst (λ z. extras_in (slice_get (slice_set bs n new) z) ≡ no_extras) same (ap extras_in (set_here bs n row new at) ∙ extras (sym (ap extras_in at) ∙ w n))
    bare_there w j false is = ap extras_in (set_other bs n j new is) ∙ w j

    differ : (j : ℕ) → (b.current ≡ Some j → ⊥) → (a : Bool) → nat_eq n j ≡ a → nat_eq n j ≡ false
    differ j q true is = absurd (q (cur ∙ ap Some (let P : n ≡ j = grind (arith, nat_tests) in P)))
    differ j q false is = is

    named : (name : List ℕ) → declared_in (Some new) name ≡ declared_in (Some row) name
    named name = ap (λ z. numbered z (position (bytes_eq name) new.names)) numbers ∙ ap (λ z. numbered row.numbers (position (bytes_eq name) z)) names

    spells : (j : ℕ) (p : StandardPrefix) (a : Bool) → nat_eq n j ≡ a → spelt_before (slice_get (slice_set bs n new) j) ≡ Some p → spelt_before (slice_get bs j) ≡ Some p
    spells j p true is e =
        let same : n ≡ j = grind (arith, nat_tests) in
        subst (λ z. spelt_before (slice_get bs z) ≡ Some p) same (ap spelt_before at ∙ spelt p (sym (ap spelt_before (set_here bs n row new at)) ∙ ap (λ z. spelt_before (slice_get (slice_set bs n new) z)) same ∙ e))
    spells j p false is e = sym (ap spelt_before (set_other bs n j new is)) ∙ e

    even : (j : ℕ) (c : Bool) → nat_eq n j ≡ c → Even (slice_get bs j) → Even (slice_get (slice_set bs n new) j)
    even j true is a =
        let same : n ≡ j = grind (arith, nat_tests) in
        subst (λ z. Even (slice_get (slice_set bs n new) z)) same
        (subst Even (sym (set_here bs n row new at)) (ap length names ∙ (let e : length row.names ≡ length row.numbers = subst Even at (subst (λ z. Even (slice_get bs z)) (sym same) a) in e) ∙ sym (ap length numbers)))
    even j false is a = subst Even (sym (set_other bs n j new is)) a

    listed : (d : ℕ) (found : Declaration) → RowIs b c New d found → Was b d found ⊎ (New d found × Finds b.tables.blocks (slice_set bs n new) d found)
    listed d found (inl q) = inl q
    listed d found (inr q) = inr (q.0, λ l. (subst (λ z. Among (record { 0 = d }) z) (sym (kept_set numbers_in bs n row new at numbers found.block)) (q.1 l).0, λ a. kept_set (λ o. declared_in o found.name) bs n row new at (named found.name) found.block ∙ (q.1 l).1 a))

pub row_step : (b c : BuildingOf) (New : ℕ → Declaration → Type 0) (n : ℕ) (row new : BlockOf) → b.current ≡ Some n → slice_get c.tables.blocks n ≡ Some row → fixed (Some new) ≡ fixed (Some row) → new.numbers ≡ row.numbers → new.names ≡ row.names → brings_of (Some new) ≡ brings_of (Some row) → extras_in (Some new) ≡ extras_in (Some row) → new.prefix ≡ row.prefix
    → Step b c New → Step b (record c { tables = record c.tables { blocks = slice_set c.tables.blocks n new } }) New
row_step b c New n row new cur at alike numbers names brought extras prefix h = bare_row_step b c New n row new cur at alike numbers names brought (λ e. extras ∙ e) (λ p e. ap spelt_as (sym prefix) ∙ e) h

changed_at : (b c : BuildingOf) (New : ℕ → Declaration → Type 0) (change : BlockOf → BlockOf) (n : ℕ) (o : Option BlockOf) → ((row : BlockOf) → (fixed (Some (change row)) ≡ fixed (Some row)) × ((change row).numbers ≡ row.numbers) × ((change row).names ≡ row.names) × (brings_of (Some (change row)) ≡ brings_of (Some row)) × (extras_in (Some (change row)) ≡ extras_in (Some row)) × ((change row).prefix ≡ row.prefix))
    → b.current ≡ Some n → slice_get c.tables.blocks n ≡ o → Step b c New → Step b (changed_row c change n o) New
changed_at b c New change n None alike cur at h = h
changed_at b c New change n (Some row) alike cur at h = let q = alike row in row_step b c New n row (change row) cur at q.0 q.1 q.2 q.3 q.4 q.5 h

-- the innermost block has a class
pub class_step : (b : BuildingOf) (x : Identifier) (k n : ℕ) → b.current ≡ Some n → Step b (changed (declared b x (entry.Class k)) holding_class b.current) (Declared (length b.tables.declarations) x (entry.Class k) n)
class_step b x k n cur =
    let c : BuildingOf = declared b x (entry.Class k) in
    let h : Step b c (Declared (length b.tables.declarations) x (entry.Class k) n) = declared_step b x (entry.Class k) n (class_unmatched k) cur in
    subst (λ o. Step b (changed c holding_class o) (Declared (length b.tables.declarations) x (entry.Class k) n)) (sym cur)
    (changed_at b c (Declared (length b.tables.declarations) x (entry.Class k) n) holding_class n (slice_get c.tables.blocks n) (λ row. (refl, refl, refl, refl, refl, refl)) cur refl h)

-- `inner` in the innermost block
inner_row : (b : BuildingOf) (token n : ℕ) (row : BlockOf) (o : Option ℕ) → b.current ≡ Some n → slice_get b.tables.blocks n ≡ Some row → Step b (inner_in b token n row o) Nothing
inner_row b token n row None cur at = row_step b b Nothing n row (record row { inner = Some token }) cur at refl refl refl refl refl refl (same_step b b Nothing refl refl)
inner_row b token n row (Some other) cur at = same_step b _ Nothing refl refl

inner_found : (b : BuildingOf) (token n : ℕ) (o : Option BlockOf) → b.current ≡ Some n → slice_get b.tables.blocks n ≡ o → Step b (inner_at b token n o) Nothing
inner_found b token n None cur at = same_step b b Nothing refl refl
inner_found b token n (Some row) cur at = inner_row b token n row row.inner cur at

pub inner_step : (b : BuildingOf) (token : ℕ) (o : Option ℕ) → b.current ≡ o → Step b (inner b token o) Nothing
inner_step b token None cur = same_step b b Nothing refl refl
inner_step b token (Some n) cur = inner_found b token n (slice_get b.tables.blocks n) cur refl

-- a prefix that is no standard one in front of the innermost block, which is a class or a block that may have one
prefix_found : (b : BuildingOf) (x : Identifier) (n : ℕ) (o : Option BlockOf) → b.current ≡ Some n → slice_get b.tables.blocks n ≡ o → standard_prefix x.name ≡ None → ((row : BlockOf) → o ≡ Some row → is_prefixable row.kind ≡ true) → Step b (changed_row b (prefixed_by x) n o) Nothing
prefix_found b x n None cur at plain class = same_step b b Nothing refl refl
prefix_found b x n (Some row) cur at plain class =
    bare_row_step b b Nothing n row (prefixed_by x row) cur at refl refl refl refl (λ e. ap (λ z. of_row z row) right ∙ ap without e) (λ p e. absurd (let f : None ≡ Some p = sym plain ∙ e in cc)) (same_step b b Nothing refl refl)
  where
    of_row : Bool → BlockOf → Extras
    of_row z row = record { wrong = z; standard = row.standard }

    without : Extras → Extras
    without z = record { wrong = false; standard = z.standard }

    right : is_wrong row.kind (Some x) ≡ false
    right = ap not (class row refl)

pub prefix_step : (b : BuildingOf) (x : Identifier) (n : ℕ) → b.current ≡ Some n → standard_prefix x.name ≡ None → ((row : BlockOf) → slice_get b.tables.blocks n ≡ Some row → is_prefixable row.kind ≡ true) → Step b (changed b (prefixed_by x) b.current) Nothing
prefix_step b x n cur plain class = subst (λ o. Step b (changed b (prefixed_by x) o) Nothing) (sym cur) (prefix_found b x n (slice_get b.tables.blocks n) cur refl plain class)

-- an attribute that the innermost block hides or protects
guards_found : (b : BuildingOf) (hides keeps : Bool) (x : Identifier) (n : ℕ) (o : Option BlockOf) → b.current ≡ Some n → slice_get b.tables.blocks n ≡ o → Step b (guards_at b hides keeps x n o) Nothing
guards_found b hides keeps x n None cur at = same_step b b Nothing refl refl
guards_found b hides keeps x n (Some row) cur at =
    let h = row_step b b Nothing n row (protecting hides keeps x.name row) cur at refl refl refl refl refl refl (same_step b b Nothing refl refl) in record {
      current = h.current;
      size = h.size;
      fixes = h.fixes;
      others = h.others;
      more = h.more;
      fewer = h.fewer;
      lists = h.lists;
      rows = h.rows;
      places = h.places;
      evens = h.evens;
      looks = h.looks;
      stays = h.stays;
      bare = λ w. let v = h.bare w in record { blocks = v.blocks };
      knows = h.knows;
      brings = h.brings;
      spells = h.spells;
    }

pub guards_step : (b : BuildingOf) (hides keeps : Bool) (x : Identifier) (o : Option ℕ) → b.current ≡ o → Step b (guards b hides keeps x o) Nothing
guards_step b hides keeps x None cur = same_step b b Nothing refl refl
guards_step b hides keeps x (Some n) cur = guards_found b hides keeps x n (slice_get b.tables.blocks n) cur refl

pub rule_step : (b : BuildingOf) (token : ℕ) (rule : Rule) → Step b (broken b token rule) Nothing
rule_step b token rule = same_step b _ Nothing refl refl

pub quals_latest : (b : BuildingOf) (R : Type 0) (quals : List Mark) → Quals R quals → (run marked b quals).latest ≡ b.latest
unfolding run marked
quals_latest b R quals (unqualified free) = refl
quals_latest b R quals (qualifies x r) = go b.latest
  where
    go : (o : Option DeclNo) → (qualified b x o).latest ≡ b.latest
    go None = refl
    go (Some d) = refl

pub last_cases : {A : Type 0} (xs : List A) (x : A) (n : ℕ) (y : A) → slice_get (xs ++ x ∷ []) n ≡ Some y → (slice_get xs n ≡ Some y) ⊎ ((n ≡ length xs) × (x ≡ y))
last_cases [] x zero y is = inr (refl, some_same x y is)
last_cases [] x (suc n) y is = absurd (cc)
last_cases (t ∷ xs) x zero y is = inl is
last_cases (t ∷ xs) x (suc n) y is = go (last_cases xs x n y is)
  where
    go : (slice_get xs n ≡ Some y) ⊎ ((n ≡ length xs) × (x ≡ y)) → (slice_get (t ∷ xs) (suc n) ≡ Some y) ⊎ ((suc n ≡ length (t ∷ xs)) × (x ≡ y))
    go (inl q) = inl q
    go (inr q) = inr ((let e : n ≡ length xs = q.0 in let f : length (t ∷ xs) ≡ suc (length xs) = omega arith in omega arith), q.1)
