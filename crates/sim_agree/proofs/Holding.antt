-- A block of a program in which a class is declared is said to have one.
use Rattle.std.proofs.Common.{◌≡◌, ◌<◌, ◌+◌, ◌⊎◌, inl, inr, ℕ, zero, suc, Bool, true, false, List, [], ◌∷◌, ◌++◌, length, Option, Some, None, refl, sym, ap, ◌∙◌, subst, arith, if◌then◌else◌}
use Rattle.std.specs.Prelude.{◌&&◌, ◌||◌, nat_eq, nat_lt, not, slice_get, slice_set}
use Rattle.std.specs.List.{list_any}
use Rattle.std.specs.Str.{bytes_eq}
use Rattle.std.proofs.lemmas.Bool.Decides.{nat_tests}
use Rattle.std.proofs.lemmas.Option.{slice_get_within}
use Rattle.sim_base.specs.declared.numbering.DeclNo.{DeclNo}
use Rattle.sim_base.specs.declared.numbering.TokenNo.{TokenNo}
use Rattle.sim_base.specs.declared.rule.Rule.{Rule}
use Rattle.sim_base.specs.declared.rule.Rule.TheVariants as r
use Rattle.sim_tree.specs.declared.expr.Identifier.{Identifier}
use Rattle.sim_agree.specs.Order.{InOrder}
use Rattle.sim_tree.specs.Syntax.{Program}
use Rattle.sim_scope.specs.declared.scopes.Declaration.{Declaration}
use Rattle.sim_scope.specs.declared.types.BlockKind.{BlockKind}
use Rattle.sim_scope.specs.declared.types.BlockKind.TheVariants as kind
use Rattle.sim_scope.specs.declared.types.Entry.{Entry}
use Rattle.sim_scope.specs.declared.types.Entry.TheVariants as entry
use Rattle.sim_scope.specs.declared.types.FormalKind.{FormalKind}
use Rattle.sim_scope.specs.declared.types.Mode.{Mode}
use Rattle.sim_scope.specs.declared.types.SimType.{SimType}
use Rattle.sim_scope.specs.declared.types.SimType.TheVariants as t
use Rattle.sim_scope.specs.declared.types.WrittenMode.{WrittenMode}
use Rattle.sim_scope.specs.Building.{BuildingOf, Mark, block_around, broken, broken_if, changed, changed_row, closed, closed_at, counted, counted_in, declared, declared_again, declared_at, declared_inside, declared_new, declared_twice, entered, headed, holding_class, in_class, inner, inner_at, inner_in, is_match, is_procedure, level_in, marked, matched, matching, mode_allowed, moded, moded_as, opened, parameter, qualified, row_matching, row_of, specified, specified_as, token_in, unspecified_in, with_entry, with_mode, with_name, found_in, unspecified_at, prefixed_by, guards, guards_at, protecting, is_by_name}
use Rattle.sim_scope.specs.Declare.{declared_by, empty, result_named}
use Rattle.sim_scope.specs.Levels.{holds_class, holds_class_in, is_standard}
use Rattle.sim_scope.specs.Runs.{run}
use Rattle.sim_scope.specs.Scopes.{declared_in, entry_of}
use Rattle.sim_scope.specs.Source.{Source, block_of}
use Rattle.sim_scope.specs.Tables.{BlockOf}
use Rattle.sim_scope.proofs.Kept.{kept_set, set_here, set_other}
use Rattle.virtual_match.specs.Qualifying.{entry_to, type_to}
use Rattle.sim_meaning.specs.Texts.{Text}
use Rattle.sim_agree.specs.TablesOf.{TablesOf}
use Rattle.sim_agree.proofs.Calm.{declared_calm}
use Rattle.sim_agree.proofs.Completing.{bare_row}
use Rattle.sim_agree.proofs.Tables as tables
use Rattle.sim_agree.proofs.Groups.{Grouped, OfReferences, Open, OwnEntry, Quals, block, breaks_rule, closes, connects, declares, declares_class, headed as headed_mark, inner_mark, moded as moded_mark, nothing, parameter as parameter_mark, procedure, program_grouped, qualifies, specified as specified_mark, specifies_virtual, unqualified, prefixes, guarded, prefixed_block, standard_block, standard_class, whole_prefix}
use Rattle.sim_agree.proofs.BroughtFine as brought
use Rattle.sim_agree.proofs.BroughtKnown as known
use Rattle.sim_agree.proofs.BroughtRows.{with_standard}
use Rattle.sim_agree.proofs.BroughtRuns.{FreshTop, brought_is, opened_top}
use Rattle.sim_agree.proofs.StandardPrefixes.{Spells}
use Rattle.sim_scope.specs.declared.types.StandardPrefix.{StandardPrefix}
use Rattle.sim_values.specs.declared.standard.Standard.{Standard}

-- a block is said to have a class
abbrev pub flag : Option BlockOf → Bool
flag None = false
flag (Some row) = row.has_class

-- each class that is declared and listed is declared in such a block
abbrev pub ClassesHeld : BuildingOf → Type 0
ClassesHeld b = (d n : ℕ) (row : Declaration) → slice_get b.tables.declarations d ≡ Some row → row.entry ≡ entry.Class n → row.listed ≡ true → flag (slice_get b.tables.blocks row.block) ≡ true

-- a class was declared before
record Old (b : BuildingOf) (d : ℕ) (row : Declaration) : Type 0 where
  number : ℕ
  old : Declaration
  at : slice_get b.tables.declarations d ≡ Some old
  is : old.entry ≡ entry.Class number
  block : old.block ≡ row.block
  listed : old.listed ≡ row.listed

-- what is new are classes in these blocks
record Grows (New : ℕ → Type 0) (b c : BuildingOf) : Type 0 where
  flags : (k : ℕ) → flag (slice_get b.tables.blocks k) ≡ true → flag (slice_get c.tables.blocks k) ≡ true
  rows : (d n : ℕ) (row : Declaration) → slice_get c.tables.declarations d ≡ Some row → row.entry ≡ entry.Class n → Old b d row ⊎ New row.block

abbrev Nowhere : ℕ → Type 0
Nowhere k = ⊥

held_on : (New : ℕ → Type 0) (b c : BuildingOf) → Grows New b c → ((k : ℕ) → New k → flag (slice_get c.tables.blocks k) ≡ true) → ClassesHeld b → ClassesHeld c
held_on New b c g new h d n row at is l = go (g.rows d n row at is)
  where
    go : Old b d row ⊎ New row.block → flag (slice_get c.tables.blocks row.block) ≡ true
    go (inl o) = g.flags row.block (subst (λ k. flag (slice_get b.tables.blocks k) ≡ true) o.block (h d o.number o.old o.at o.is (o.listed ∙ l)))
    go (inr q) = new row.block q

held_same : (b c : BuildingOf) → Grows Nowhere b c → ClassesHeld b → ClassesHeld c
held_same b c g h = held_on Nowhere b c g (λ k q. absurd q) h

same_rows : (New : ℕ → Type 0) (b : BuildingOf) (d n : ℕ) (row : Declaration) → slice_get b.tables.declarations d ≡ Some row → row.entry ≡ entry.Class n → Old b d row ⊎ New row.block
same_rows New b d n row at is = inl (record { number = n; old = row; at = at; is = is; block = refl; listed = refl })

stays : (New : ℕ → Type 0) (b : BuildingOf) → Grows New b b
stays New b = record { flags = λ k e. e; rows = same_rows New b }

if_grows : (New : ℕ → Type 0) (z : Bool) (b c : BuildingOf) (token : ℕ) (rule : Rule) → Grows New b c → Grows New b (broken_if z c token rule)
if_grows New true b c token rule g = record { flags = g.flags; rows = g.rows }
if_grows New false b c token rule g = g

-- a block is replaced by one of the same flag
row_grows : (New : ℕ → Type 0) (b : BuildingOf) (n : ℕ) (row new : BlockOf) → slice_get b.tables.blocks n ≡ Some row → flag (Some new) ≡ flag (Some row) → Grows New b (record b { tables = record b.tables { blocks = slice_set b.tables.blocks n new } })
row_grows New b n row new at alike = record { flags = λ k e. kept_set flag b.tables.blocks n row new at alike k ∙ e; rows = same_rows New b }

last_row : {A : Type 0} (xs : List A) (y x : A) (d : ℕ) → slice_get (xs ++ y ∷ []) d ≡ Some x → (slice_get xs d ≡ Some x) ⊎ (y ≡ x)
last_row [] y x zero e = inr (let q : y ≡ x = cc in q)
last_row [] y x (suc d) e = absurd (cc)
last_row (z ∷ xs) y x zero e = inl e
last_row (z ∷ xs) y x (suc d) e = last_row xs y x d e

row_within : {A : Type 0} (xs : List A) (k : ℕ) → k < length xs → (x : A) × (slice_get xs k ≡ Some x)
row_within [] k le = absurd (omega (arith, le))
row_within (x ∷ xs) zero le = (x, refl)
row_within (x ∷ xs) (suc k) le = row_within xs k (omega (arith, le))

some_same : {A : Type 0} (a b : A) → Some a ≡ Some b → a ≡ b
some_same a b e = cc

-- ---- a declaration

abbrev IsClass : Entry → Type 0
IsClass e = (n : ℕ) × (e ≡ entry.Class n)

abbrev NewIn : ℕ → Entry → ℕ → Type 0
NewIn k e j = (k ≡ j) × IsClass e

-- a row of another kind stays one
matching_class : (x : Entry) (d : DeclNo) (n : ℕ) → matching x d ≡ entry.Class n → x ≡ entry.Class n
matching_class (entry.Virtual result own) d n e = absurd (cc)
matching_class (entry.Variable ty) d n e = e
matching_class (entry.Constant ty) d n e = e
matching_class (entry.Array ty k) d n e = e
matching_class (entry.Procedure result k) d n e = e
matching_class (entry.Class k) d n e = e
matching_class (entry.Formal f) d n e = e
matching_class (entry.Unspecified w) d n e = e
matching_class (entry.Attribute name given result) d n e = e

known_rows : (b : BuildingOf) (v d : DeclNo) (o : Option Declaration) → slice_get b.tables.declarations v.0 ≡ o → (k n : ℕ) (row : Declaration) → slice_get (row_matching o d b.tables.declarations v.0) k ≡ Some row → row.entry ≡ entry.Class n → Old b k row
known_rows b v d None at k n row e is = record { number = n; old = row; at = e; is = is; block = refl; listed = refl }
known_rows b v d (Some old) at k n row e is = go (nat_eq v.0 k) refl
  where
    go : (z : Bool) → nat_eq v.0 k ≡ z → Old b k row
    go false z = record { number = n; old = row; at = sym (set_other b.tables.declarations v.0 k (record old { entry = matching old.entry d }) z) ∙ e; is = is; block = refl; listed = refl }
    go true z =
        let same : v.0 ≡ k = grind (arith, nat_tests, z) in
        let here : slice_get (slice_set b.tables.declarations v.0 (record old { entry = matching old.entry d })) k ≡ Some (record old { entry = matching old.entry d }) =
        subst (λ j. slice_get (slice_set b.tables.declarations v.0 (record old { entry = matching old.entry d })) j ≡ Some (record old { entry = matching old.entry d })) same (set_here b.tables.declarations v.0 old (record old { entry = matching old.entry d }) at) in
        let new : record old { entry = matching old.entry d } ≡ row = some_same (record old { entry = matching old.entry d }) row (sym here ∙ e) in
        record {
          number = n;
          old = old;
          at = subst (λ j. slice_get b.tables.declarations j ≡ Some old) same at;
          is = matching_class old.entry d n (ap (λ (z : Declaration). z.entry) new ∙ is);
          block = ap (λ (z : Declaration). z.block) new;
          listed = ap (λ (z : Declaration). z.listed) new;
        }

declared_row : (b : BuildingOf) (x : Identifier) (e : Entry) (k : ℕ) (o : Option BlockOf) → slice_get b.tables.blocks k ≡ o → Grows (NewIn k e) b (declared_at b x e k o)
declared_row b x e k None at = stays (NewIn k e) b
declared_row b x e k (Some row) at = go (list_any (bytes_eq x.name) row.names)
  where
    added_row : (listed : Bool) (d n : ℕ) (new : Declaration) → row_of x e k listed ≡ new → new.entry ≡ entry.Class n → NewIn k e new.block
    added_row listed d n new same is = (ap (λ (z : Declaration). z.block) same, (n, ap (λ (z : Declaration). z.entry) same ∙ is))

    either : (v : DeclNo) (c : Bool) → Grows (NewIn k e) b (if c then matched b x e k v else declared_twice b x (Some v))
    either v true = if_grows (NewIn k e) (nat_eq b.own 65535) b _ x.token.0 r.TooManyDeclarations (record {
      flags = λ j f. f;
      rows = λ d n new there is. choose d n new is (last_row (row_matching (slice_get b.tables.declarations v.0) (record { 0 = length b.tables.declarations }) b.tables.declarations v.0) (row_of x e k false) new d there);
    })
      where
        choose : (d n : ℕ) (new : Declaration) → new.entry ≡ entry.Class n → (slice_get (row_matching (slice_get b.tables.declarations v.0) (record { 0 = length b.tables.declarations }) b.tables.declarations v.0) d ≡ Some new) ⊎ (row_of x e k false ≡ new) → Old b d new ⊎ NewIn k e new.block
        choose d n new is (inl q) = inl (known_rows b v (record { 0 = length b.tables.declarations }) (slice_get b.tables.declarations v.0) refl d n new q is)
        choose d n new is (inr q) = inr (added_row false d n new q is)
    either v false = record { flags = λ j f. f; rows = same_rows (NewIn k e) b }

    again : (o : Option DeclNo) → Grows (NewIn k e) b (declared_again b x e k o)
    again None = record { flags = λ j f. f; rows = same_rows (NewIn k e) b }
    again (Some v) = either v (is_match e (entry_of b.tables v))

    go : (c : Bool) → Grows (NewIn k e) b (if c then declared_again b x e k (declared_in (Some row) x.name) else declared_new b x e k row)
    go true = again (declared_in (Some row) x.name)
    go false = if_grows (NewIn k e) (nat_eq b.own 65535) b _ x.token.0 r.TooManyDeclarations (record {
      flags = λ j f. kept_set flag b.tables.blocks k row (with_name row x.name (record { 0 = length b.tables.declarations })) at refl j ∙ f;
      rows = λ d n new there is. choose d n new is (last_row b.tables.declarations (row_of x e k true) new d there);
    })
      where
        choose : (d n : ℕ) (new : Declaration) → new.entry ≡ entry.Class n → (slice_get b.tables.declarations d ≡ Some new) ⊎ (row_of x e k true ≡ new) → Old b d new ⊎ NewIn k e new.block
        choose d n new is (inl q) = inl (record { number = n; old = new; at = q; is = is; block = refl; listed = refl })
        choose d n new is (inr q) = inr (added_row true d n new q is)

-- one that is no class
declared_other : (b : BuildingOf) (x : Identifier) (e : Entry) → (IsClass e → ⊥) → (o : Option ℕ) → Grows Nowhere b (declared_inside b x e o)
declared_other b x e other None = stays Nowhere b
declared_other b x e other (Some k) = let g = declared_row b x e k (slice_get b.tables.blocks k) refl in record { flags = g.flags; rows = λ d n row at is. none row (g.rows d n row at is) }
  where
    none : {d : ℕ} (row : Declaration) → Old b d row ⊎ NewIn k e row.block → Old b d row ⊎ ⊥
    none row (inl o) = inl o
    none row (inr q) = absurd (other q.1)

-- a class
class_row : (b : BuildingOf) (x : Identifier) (e : Entry) (k : ℕ) → ClassesHeld b → (p : Option BlockOf) → slice_get b.tables.blocks k ≡ p → length (declared_at b x e k p).tables.blocks ≡ length b.tables.blocks → (o : Option BlockOf) → slice_get (declared_at b x e k p).tables.blocks k ≡ o
    → ClassesHeld (changed_row (declared_at b x e k p) holding_class k o)
class_row b x e k h None before size None at = h
class_row b x e k h None before size (Some row) at = absurd (cc)
class_row b x e k h (Some old) before size None at =
    let lt = slice_get_within b.tables.blocks k old before in
    let row = row_within (declared_at b x e k (Some old)).tables.blocks k (omega (arith, lt, size)) in
    absurd (let f : None ≡ Some row.0 = sym at ∙ row.1 in cc)
class_row b x e k h (Some old) before size (Some row) at =
    held_on (NewIn k e) b (changed_row (declared_at b x e k (Some old)) holding_class k (Some row)) (record { flags = λ j f. kept j (nat_eq k j) refl (g.flags j f); rows = g.rows })
    (λ j q. subst (λ z. flag (slice_get (slice_set (declared_at b x e k (Some old)).tables.blocks k (holding_class row)) z) ≡ true) q.0 here) h
  where
    g : Grows (NewIn k e) b (declared_at b x e k (Some old))
    g = declared_row b x e k (Some old) before

    here : flag (slice_get (slice_set (declared_at b x e k (Some old)).tables.blocks k (holding_class row)) k) ≡ true
    here = ap flag (set_here (declared_at b x e k (Some old)).tables.blocks k row (holding_class row) at)

    kept : (j : ℕ) (z : Bool) → nat_eq k j ≡ z → flag (slice_get (declared_at b x e k (Some old)).tables.blocks j) ≡ true → flag (slice_get (slice_set (declared_at b x e k (Some old)).tables.blocks k (holding_class row)) j) ≡ true
    kept j false z f = ap flag (set_other (declared_at b x e k (Some old)).tables.blocks k j (holding_class row) z) ∙ f
    kept j true z f = let same : k ≡ j = grind (arith, nat_tests, z) in subst (λ i. flag (slice_get (slice_set (declared_at b x e k (Some old)).tables.blocks k (holding_class row)) i) ≡ true) same here

class_held : (b : BuildingOf) (x : Identifier) (e : Entry) (o : Option ℕ) → length (declared_inside b x e o).tables.blocks ≡ length b.tables.blocks → ClassesHeld b → ClassesHeld (changed (declared_inside b x e o) holding_class o)
class_held b x e None size h = h
class_held b x e (Some k) size h = class_row b x e k h (slice_get b.tables.blocks k) refl size (slice_get (declared_at b x e k (slice_get b.tables.blocks k)).tables.blocks k) refl

-- ---- the other steps

other_held : (b : BuildingOf) (x : Identifier) (e : Entry) → (IsClass e → ⊥) → (o : Option ℕ) → ClassesHeld b → ClassesHeld (declared_inside b x e o)
other_held b x e other o h = held_same b (declared_inside b x e o) (declared_other b x e other o) h

-- a row is set to what is no class
entered_grows : (b : BuildingOf) (d : DeclNo) (e : Entry) → (IsClass e → ⊥) → (o : Option Declaration) → slice_get b.tables.declarations d.0 ≡ o → Grows Nowhere b (entered b d e o)
entered_grows b d e other None at = stays Nowhere b
entered_grows b d e other (Some old) at = record { flags = λ k f. f; rows = λ k n row there is. go k n row there is (nat_eq d.0 k) refl }
  where
    go : (k n : ℕ) (row : Declaration) → slice_get (slice_set b.tables.declarations d.0 (record old { entry = e })) k ≡ Some row → row.entry ≡ entry.Class n → (z : Bool) → nat_eq d.0 k ≡ z → Old b k row ⊎ ⊥
    go k n row there is false z = inl (record { number = n; old = row; at = sym (set_other b.tables.declarations d.0 k (record old { entry = e }) z) ∙ there; is = is; block = refl; listed = refl })
    go k n row there is true z =
        let same : d.0 ≡ k = grind (arith, nat_tests, z) in
        let here : slice_get (slice_set b.tables.declarations d.0 (record old { entry = e })) k ≡ Some (record old { entry = e }) = subst (λ j. slice_get (slice_set b.tables.declarations d.0 (record old { entry = e })) j ≡ Some (record old { entry = e })) same (set_here b.tables.declarations d.0 old (record old { entry = e }) at) in
        let new : record old { entry = e } ≡ row = some_same (record old { entry = e }) row (sym here ∙ there) in
        absurd (other (n, ap (λ (y : Declaration). y.entry) new ∙ is))

entry_grows : (b : BuildingOf) (d : DeclNo) (e : Entry) → (IsClass e → ⊥) → Grows Nowhere b (with_entry b d e)
entry_grows b d e other = entered_grows b d e other (slice_get b.tables.declarations d.0) refl

rule_grows : (b : BuildingOf) (token : ℕ) (rule : Rule) → Grows Nowhere b (broken b token rule)
rule_grows b token rule = record { flags = λ k e. e; rows = same_rows Nowhere b }

moded_row_grows : (b : BuildingOf) (token : TokenNo) (m : Mode) (d : DeclNo) (o : Option (Option WrittenMode)) → Grows Nowhere b (moded_as b token m d o)
moded_row_grows b token m d None = rule_grows b token.0 r.ModeNotAllowed
moded_row_grows b token m d (Some (Some w)) = rule_grows b token.0 r.ModeNotAllowed
moded_row_grows b token m d (Some None) = go (is_by_name m && in_class b)
  where
    go : (c : Bool) → Grows Nowhere b (if c then broken b token.0 r.ModeNotAllowed else with_entry b d (entry.Unspecified (Some (record { token = token; mode = m }))))
    go true = rule_grows b token.0 r.ModeNotAllowed
    go false = entry_grows b d _ (λ q. absurd (let f : entry.Unspecified (Some (record { token = token; mode = m })) ≡ entry.Class q.0 = q.1 in cc))

moded_grows : (b : BuildingOf) (token : TokenNo) (m : Mode) (o : Option DeclNo) → Grows Nowhere b (moded b token m o)
moded_grows b token m None = rule_grows b token.0 r.ModeNotAllowed
moded_grows b token m (Some d) = moded_row_grows b token m d (unspecified_in (entry_of b.tables d))

mode_grows : (b : BuildingOf) (d : DeclNo) (k : FormalKind) (ty : Option SimType) (o : Option WrittenMode) → Grows Nowhere b (with_mode b d k ty o)
mode_grows b d k ty None = entry_grows b d _ (λ q. absurd (cc))
mode_grows b d k ty (Some w) = if_grows Nowhere (not (mode_allowed w.mode k ty)) b _ w.token.0 r.ModeNotAllowed (entry_grows b d _ (λ q. absurd (cc)))

specified_row_grows : (b : BuildingOf) (token : TokenNo) (k : FormalKind) (ty : Option SimType) (d : DeclNo) (o : Option (Option WrittenMode)) → Grows Nowhere b (specified_as b token k ty d o)
specified_row_grows b token k ty d None = rule_grows b token.0 r.SpecificationDisagrees
specified_row_grows b token k ty d (Some w) = if_grows Nowhere (is_procedure k && in_class b) b _ (token_in (slice_get b.tables.declarations d.0)) r.ModeNotAllowed (mode_grows b d k ty w)

specified_grows : (b : BuildingOf) (token : TokenNo) (k : FormalKind) (ty : Option SimType) (o : Option DeclNo) → Grows Nowhere b (specified b token k ty o)
specified_grows b token k ty None = rule_grows b token.0 r.SpecificationDisagrees
specified_grows b token k ty (Some d) = specified_row_grows b token k ty d (unspecified_in (entry_of b.tables d))

counted_held : (b : BuildingOf) (o : Option ℕ) → ClassesHeld b → ClassesHeld (counted_in b o)
counted_held b None h = h
counted_held b (Some k) h = go (slice_get b.tables.blocks k) refl
  where
    go : (o : Option BlockOf) → slice_get b.tables.blocks k ≡ o → ClassesHeld (counted b k o)
    go None at = h
    go (Some row) at = held_same b _ (row_grows Nowhere b k row (record row { formals = length row.numbers }) at refl) h

headed_held : (b : BuildingOf) (token : TokenNo) (o : Option (Option WrittenMode)) → ClassesHeld b → ClassesHeld (headed b token o)
headed_held b token None h = h
headed_held b token (Some w) h = h

prefix_found : (b : BuildingOf) (x : Identifier) (k : ℕ) (o : Option BlockOf) → slice_get b.tables.blocks k ≡ o → ClassesHeld b → ClassesHeld (changed_row b (prefixed_by x) k o)
prefix_found b x k None at h = h
prefix_found b x k (Some row) at h = held_same b _ (row_grows Nowhere b k row (prefixed_by x row) at refl) h

prefix_held : (b : BuildingOf) (x : Identifier) (o : Option ℕ) → ClassesHeld b → ClassesHeld (changed b (prefixed_by x) o)
prefix_held b x None h = h
prefix_held b x (Some k) h = prefix_found b x k (slice_get b.tables.blocks k) refl h

inner_held : (b : BuildingOf) (token : ℕ) (o : Option ℕ) → ClassesHeld b → ClassesHeld (inner b token o)
inner_held b token None h = h
inner_held b token (Some k) h = go (slice_get b.tables.blocks k) refl
  where
    one : (row : BlockOf) → slice_get b.tables.blocks k ≡ Some row → (o : Option ℕ) → ClassesHeld (inner_in b token k row o)
    one row at None = held_same b _ (row_grows Nowhere b k row (record row { inner = Some token }) at refl) h
    one row at (Some other) = h

    go : (o : Option BlockOf) → slice_get b.tables.blocks k ≡ o → ClassesHeld (inner_at b token k o)
    go None at = h
    go (Some row) at = one row at row.inner

guards_held : (b : BuildingOf) (hides keeps : Bool) (x : Identifier) (o : Option ℕ) → ClassesHeld b → ClassesHeld (guards b hides keeps x o)
guards_held b hides keeps x None h = h
guards_held b hides keeps x (Some k) h = go (slice_get b.tables.blocks k) refl
  where
    go : (o : Option BlockOf) → slice_get b.tables.blocks k ≡ o → ClassesHeld (guards_at b hides keeps x k o)
    go None at = h
    go (Some row) at = let g = row_grows Nowhere b k row (protecting hides keeps x.name row) at refl in held_same b (guards_at b hides keeps x k (Some row)) (record { flags = g.flags; rows = g.rows }) h

closed_held : (b : BuildingOf) (token : ℕ) (o : Option ℕ) → ClassesHeld b → ClassesHeld (closed b token o)
closed_held b token None h = h
closed_held b token (Some k) h = go (slice_get b.tables.blocks k) refl
  where
    go : (o : Option BlockOf) → slice_get b.tables.blocks k ≡ o → ClassesHeld (closed_at b token k o)
    go None at = h
    go (Some row) at = held_same b (closed_at b token k (Some row)) (record { flags = λ j e. kept_set flag b.tables.blocks k row (record row { end = token }) at refl j ∙ e; rows = same_rows Nowhere b }) h

opened_held : (b : BuildingOf) (k : BlockKind) (text first : ℕ) → ClassesHeld b → ClassesHeld (opened b k text first)
opened_held b k text first h = held_same b _ (if_grows Nowhere (nat_lt 64 (level_in k (block_around b.tables b.current))) b _ text r.TooManyLevels (record { flags = λ j e. flag_kept b.tables.blocks _ j e; rows = same_rows Nowhere b })) h
  where
    flag_kept : (bs cs : List BlockOf) (j : ℕ) → flag (slice_get bs j) ≡ true → flag (slice_get (bs ++ cs) j) ≡ true
    flag_kept [] cs j e = absurd (cc)
    flag_kept (x ∷ bs) cs zero e = e
    flag_kept (x ∷ bs) cs (suc j) e = flag_kept bs cs j e

qualified_held : (b : BuildingOf) (x : Identifier) (o : Option DeclNo) → ClassesHeld b → ClassesHeld (qualified b x o)
qualified_held b x None h = h
qualified_held b x (Some d) h = h

quals_held : (b : BuildingOf) (R : Type 0) (quals : List Mark) → Quals R quals → ClassesHeld b → ClassesHeld (run marked b quals)
unfolding run marked
quals_held b R quals (unqualified free) h = h
quals_held b R quals (qualifies x q) h = qualified_held b x b.latest h

-- ---- a whole program

run_both : (b : BuildingOf) (xs ys : List Mark) → run marked b (xs ++ ys) ≡ run marked (run marked b xs) ys
unfolding run
run_both b [] ys = refl
run_both b (x ∷ xs) ys = run_both (marked b x) xs ys

own_no_class : (e : Entry) → OwnEntry e → IsClass e → ⊥
own_no_class (entry.Variable ty) own q = absurd (let f : entry.Variable ty ≡ entry.Class q.0 = q.1 in cc)
own_no_class (entry.Constant ty) own q = absurd (let f : entry.Constant ty ≡ entry.Class q.0 = q.1 in cc)
own_no_class (entry.Array ty n) own q = absurd (let f : entry.Array ty n ≡ entry.Class q.0 = q.1 in cc)
own_no_class (entry.Procedure result n) own q = own
own_no_class (entry.Class n) own q = own
own_no_class (entry.Virtual result n) own q = own
own_no_class (entry.Formal f) own q = own
own_no_class (entry.Unspecified w) own q = own
own_no_class (entry.Attribute name given result) own q = own

-- a block gets what its prefix brings
flag_within : (bs : List BlockOf) (k : ℕ) → flag (slice_get bs k) ≡ true → k < length bs
flag_within bs k e = go (slice_get bs k) refl e
  where
    go : (o : Option BlockOf) → slice_get bs k ≡ o → flag o ≡ true → k < length bs
    go None at f = absurd (cc)
    go (Some row) at f = slice_get_within bs k row at

module _ (p : StandardPrefix) (front : Identifier) (spelt : Spells p front) where
  with_held : (b : BuildingOf) (t : FreshTop b) (token : ℕ) → ClassesHeld b → ClassesHeld (with_standard p b t.number token (prefixed_by front t.row))
  with_held b t token h d n row at is l = go (brought.row_part p front spelt b t.number token t.row t.last t.at [] d row at)
    where
      no_class : (name : Standard) (given result : Option SimType) → row.entry ≡ entry.Attribute name given result → ⊥
      no_class name given result e = let z : entry.Class n ≡ entry.Attribute name given result = sym is ∙ e in cc

      new : (i : ℕ) → known.Added p t.number (length b.tables.declarations) token (t.row).level i row → ⊥
      new i (known.a_class q) = let z : true ≡ false = sym l ∙ q.listed in cc
      new i (known.an_attribute q) = no_class q.name _ _ q.entry
      new i (known.an_own q) = no_class q.name _ _ q.entry

      go : ((d < length b.tables.declarations) × (slice_get b.tables.declarations d ≡ Some row)) ⊎ ((i : ℕ) × (d ≡ length b.tables.declarations + i) × known.Added p t.number (length b.tables.declarations) token (t.row).level i row)
          → flag (slice_get (with_standard p b t.number token (prefixed_by front t.row)).tables.blocks row.block) ≡ true
      go (inr q) = absurd (new q.0 q.2)
      go (inl q) =
          let was = h d n row q.1 is l in
          brought.old_same p front spelt b t.number token t.row t.last t.at [] flag refl row.block (flag_within b.tables.blocks row.block was) ∙ was

  standard_held : (b : BuildingOf) (t : FreshTop b) (token : ℕ) → ClassesHeld b → ClassesHeld (run marked b (whole_prefix p token front))
  standard_held b t token h = subst ClassesHeld (sym (brought_is p b t token front)) (with_held b t token h)

run_held : {os : List Open} {ms : List Mark} {xs : List Text} (b : BuildingOf) → Grouped os ms xs → ClassesHeld b → ClassesHeld (run marked b ms)
unfolding run marked
run_held b (nothing e) h = h
run_held b (block k text first i ds ss p g) h = run_held (opened b k text first) g (opened_held b k text first h)
run_held b (prefixed_block text first class es ds ss g) h = run_held (opened b kind.Prefixed text first) g (opened_held b kind.Prefixed text first h)
run_held b (standard_block {ms = ms} p text first class es ds ss e g) h =
    let c : BuildingOf = opened b kind.Prefixed text first in
    subst ClassesHeld (sym (run_both c (whole_prefix p first class) ms))
    (run_held (run marked c (whole_prefix p first class)) g (standard_held p class e c (opened_top b kind.Prefixed text first) first (opened_held b kind.Prefixed text first h)))
run_held b (connects text first g) h = run_held (opened b kind.Connection text first) g (opened_held b kind.Connection text first h)
run_held b (procedure text first x owed quals result hd a dx nh q g) h =
    let c : BuildingOf = declared b hd.name (entry.Procedure (result_named result) (length b.tables.blocks)) in
    let d : BuildingOf = run marked (declared b hd.name (entry.Procedure (result_named result) (length b.tables.blocks))) quals in
    subst ClassesHeld (sym (run_both (declared b hd.name (entry.Procedure (result_named result) (length b.tables.blocks))) quals _))
    (run_held (opened (run marked (declared b hd.name (entry.Procedure (result_named result) (length b.tables.blocks))) quals) kind.Procedure text first) g
    (opened_held (run marked (declared b hd.name (entry.Procedure (result_named result) (length b.tables.blocks))) quals) kind.Procedure text first
    (quals_held (declared b hd.name (entry.Procedure (result_named result) (length b.tables.blocks))) _ quals q (other_held b hd.name _ (λ z. absurd (let f : entry.Procedure (result_named result) (length b.tables.blocks) ≡ entry.Class z.0 = z.1 in cc)) b.current h))))
run_held b (declares_class text first x owed prefix hd ds ss dx nh g) h =
    let e : Entry = entry.Class (length b.tables.blocks) in
    run_held (opened (changed (declared b hd.name (entry.Class (length b.tables.blocks))) holding_class b.current) kind.Class text first) g
    (opened_held (changed (declared b hd.name (entry.Class (length b.tables.blocks))) holding_class b.current) kind.Class text first (class_held b hd.name (entry.Class (length b.tables.blocks)) b.current (declared_calm b hd.name (entry.Class (length b.tables.blocks))).size h))
run_held b (standard_class {ms = ms} p text first x owed y hd ds ss e dx nh g) h =
    let held : BuildingOf = changed (declared b hd.name (entry.Class (length b.tables.blocks))) holding_class b.current in
    let c : BuildingOf = opened held kind.Class text first in
    subst ClassesHeld (sym (run_both c (whole_prefix p first y) ms))
    (run_held (run marked c (whole_prefix p first y)) g
    (standard_held p y e c (opened_top held kind.Class text first) first
    (opened_held held kind.Class text first (class_held b hd.name (entry.Class (length b.tables.blocks)) b.current (declared_calm b hd.name (entry.Class (length b.tables.blocks))).size h))))
run_held b (declares x owed quals y e dx nh own q written g) h =
    subst ClassesHeld (sym (run_both (declared b y e) quals _)) (run_held (run marked (declared b y e) quals) g (quals_held (declared b y e) _ quals q (other_held b y e (own_no_class e own) b.current h)))
run_held b (specifies_virtual x owed quals y result dx nh q g) h =
    subst ClassesHeld (sym (run_both (declared b y (entry.Virtual (result_named result) None)) quals _))
    (run_held (run marked (declared b y (entry.Virtual (result_named result) None)) quals) g
    (quals_held (declared b y (entry.Virtual (result_named result) None)) _ quals q (other_held b y (entry.Virtual (result_named result) None) (λ z. absurd (let f : entry.Virtual (result_named result) None ≡ entry.Class z.0 = z.1 in cc)) b.current h)))
run_held b (parameter_mark x owed y tx has g) h = run_held (parameter b y) g (counted_held (declared b y (entry.Unspecified None)) (declared b y (entry.Unspecified None)).current (other_held b y (entry.Unspecified None) (λ z. absurd (let f : entry.Unspecified None ≡ entry.Class z.0 = z.1 in cc)) b.current h))
run_held b (moded_mark x owed y m takes g) h = run_held (moded b y.token m (found_in b.tables b.current y.name)) g (held_same b (moded b y.token m (found_in b.tables b.current y.name)) (moded_grows b y.token m (found_in b.tables b.current y.name)) h)
run_held b (specified_mark x owed quals y k ty written pf q g) h =
    let o : Option DeclNo = found_in b.tables b.current y.name in
    subst ClassesHeld (sym (run_both (specified (record b { latest = found_in b.tables b.current y.name }) y.token k ty (found_in b.tables b.current y.name)) quals _))
    (run_held (run marked (specified (record b { latest = found_in b.tables b.current y.name }) y.token k ty (found_in b.tables b.current y.name)) quals) g
    (quals_held (specified (record b { latest = found_in b.tables b.current y.name }) y.token k ty (found_in b.tables b.current y.name)) _ quals q
    (held_same (record b { latest = found_in b.tables b.current y.name }) _ (specified_grows (record b { latest = found_in b.tables b.current y.name }) y.token k ty (found_in b.tables b.current y.name)) h)))
run_held b (headed_mark x owed y g) h = run_held (headed b y.token (unspecified_at b.tables (found_in b.tables b.current y.name))) g (headed_held b y.token (unspecified_at b.tables (found_in b.tables b.current y.name)) h)
run_held b (prefixes x owed y q p g) h = run_held (changed b (prefixed_by y) b.current) g (prefix_held b y b.current h)
run_held b (inner_mark token g) h = run_held (inner b token b.current) g (inner_held b token b.current h)
run_held b (guarded hides keeps y g) h = run_held (guards b hides keeps y b.current) g (guards_held b hides keeps y b.current h)
run_held b (breaks_rule token rule g) h = run_held (broken b token rule) g h
run_held b (closes x end g) h = run_held (closed b end b.current) g (closed_held b end b.current h)

abbrev no_rows : List Declaration
no_rows = []

none_there : (d : ℕ) → slice_get no_rows d ≡ None
none_there zero = refl
none_there (suc d) = refl

pub classes_held : (p : Program) → ClassesHeld (declared_by p)
unfolding declared_by
classes_held p = run_held empty (program_grouped p) (λ d n row at is l. absurd (let f : None ≡ Some row = sym (none_there d) ∙ at in cc))

-- ---- in the complete tables

flag_bare : (o : Option BlockOf) → flag (bare_row o) ≡ flag o
flag_bare None = refl
flag_bare (Some row) = refl

class_before : (old new : Entry) (n : ℕ) → (new ≡ old) ⊎ (OfReferences old × ((class : DeclNo) × (new ≡ entry_to class old))) → new ≡ entry.Class n → old ≡ entry.Class n
unfolding entry_to
class_before old new n (inl f) g = sym f ∙ g
class_before (entry.Variable ty) new n (inr f) g = absurd (let h : entry.Variable (t.Ref f.1.0) ≡ entry.Class n = sym f.1.1 ∙ g in cc)
class_before (entry.Constant ty) new n (inr f) g = absurd (let h : entry.Constant (t.Ref f.1.0) ≡ entry.Class n = sym f.1.1 ∙ g in cc)
class_before (entry.Array ty m) new n (inr f) g = absurd (let h : entry.Array (t.Ref f.1.0) m ≡ entry.Class n = sym f.1.1 ∙ g in cc)
class_before (entry.Procedure result m) new n (inr f) g = absurd (let h : entry.Procedure (type_to f.1.0 result) m ≡ entry.Class n = sym f.1.1 ∙ g in cc)
class_before (entry.Class m) new n (inr f) g = absurd f.0
class_before (entry.Virtual result m) new n (inr f) g = absurd (let h : entry.Virtual (type_to f.1.0 result) m ≡ entry.Class n = sym f.1.1 ∙ g in cc)
class_before (entry.Formal x) new n (inr f) g = absurd (let h : entry.Formal (record x { ty = type_to f.1.0 x.ty }) ≡ entry.Class n = sym f.1.1 ∙ g in cc)
class_before (entry.Unspecified w) new n (inr f) g = absurd f.0
class_before (entry.Attribute name given result) new n (inr f) g = absurd f.0

pub class_in_block : (s : Source) → TablesOf s → InOrder s.program → (d : DeclNo) (n : ℕ) (row : Declaration) → slice_get s.tables.declarations d.0 ≡ Some row → row.entry ≡ entry.Class n → row.listed ≡ true
    → holds_class s.tables (block_of s d) ≡ true
unfolding holds_class
class_in_block s of order d n row at is l =
    let c = tables.completes s of order in
    let w = c.rows.was d.0 row at in
    let held = classes_held s.program d.0 n w.0 w.1 (class_before w.0.entry row.entry n w.2.entry is) (sym w.2.listed ∙ l) in
    let block : block_of s d ≡ w.0.block = tables.block_is s of order d row at ∙ w.2.block in
    let same : flag (slice_get s.tables.blocks w.0.block) ≡ flag (slice_get (declared_by s.program).tables.blocks w.0.block) = sym (flag_bare (slice_get s.tables.blocks w.0.block)) ∙ ap flag (c.blocks w.0.block) ∙ flag_bare (slice_get (declared_by s.program).tables.blocks w.0.block) in
    subst (λ k. holds_class_in (slice_get s.tables.blocks k) ≡ true) (sym block) (go (slice_get s.tables.blocks w.0.block) (same ∙ held))
  where
    go : (o : Option BlockOf) → flag o ≡ true → holds_class_in o ≡ true
    go None f = absurd (cc)
    go (Some row) f = ap (λ z. z || is_standard row.standard) f
