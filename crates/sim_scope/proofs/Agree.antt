-- The tables of a program agree with one another.
use Rattle.std.proofs.Common.{◌≡◌, ◌<◌, ◌+◌, ℕ, zero, suc, Bool, true, false, List, [], ◌∷◌, ◌++◌, length, Option, Some, None, refl, sym, ap, ◌∙◌, subst, arith, if◌then◌else◌, append-nil, append_assoc}
use Rattle.std.specs.Prelude.{◌&&◌, nat_eq, not, slice_get, slice_set}
use Rattle.std.specs.List.{list_any}
use Rattle.std.specs.Str.{bytes_eq}
use Rattle.std.proofs.lemmas.List.{length-set}
use Rattle.std.proofs.lemmas.Option.{slice_get_within}
use Rattle.std.proofs.lemmas.Bool.Decides.{nat_tests}
use Rattle.sim_base.specs.declared.numbering.DeclNo.{DeclNo}
use Rattle.sim_base.specs.declared.numbering.TokenNo.{TokenNo}
use Rattle.sim_base.specs.declared.rule.Rule.{Rule}
use Rattle.sim_base.specs.declared.rule.Rule.TheVariants as r
use Rattle.sim_tree.specs.declared.expr.Identifier.{Identifier}
use Rattle.sim_tree.specs.Syntax.{Program}
use Rattle.sim_scope.specs.declared.scopes.Declaration.{Declaration}
use Rattle.sim_values.specs.declared.standard.Standard.{Standard}
use Rattle.sim_scope.specs.declared.types.Entry.{Entry}
use Rattle.sim_scope.specs.declared.types.Entry.TheVariants as entry
use Rattle.sim_scope.specs.declared.types.FormalKind.{FormalKind}
use Rattle.sim_scope.specs.declared.types.Mode.{Mode}
use Rattle.sim_scope.specs.declared.types.SimType.{SimType}
use Rattle.sim_scope.specs.declared.types.StandardClass.{StandardClass}
use Rattle.sim_scope.specs.declared.types.WrittenMode.{WrittenMode}
use Rattle.sim_scope.specs.Building.{Breaks, Brings, BuildingOf, Closes, Declares, DeclaresClass, DeclaresProcedure, Headed, Inner, Mark, Moded, Opens, Parameter, Prefixes, Protects, Provides, Qualifies, Specified, attribute_entry, brings, brings_at, brings_new, broken, broken_if, changed, changed_row, class_row, closed, closed_at, counted, counted_in, counting, declared, declared_again, declared_at, declared_inside, declared_new, declared_twice, entered, first_brought, formal, found_in, guards, guards_at, headed, holding_class, in_class, inner, inner_at, inner_in, is_by_name, is_match, is_procedure, marked, match_known, matched, mode_allowed, moded, moded_as, most_declarations, name_of, place_of, prefixed_by, protecting, provided_alone, provided_in, provides, provides_in, qualified, row_matching, row_of, specified, specified_as, standard_row, token_in, unspecified_at, unspecified_in, with_brought, with_entry, with_mode, with_name}
use Rattle.sim_scope.specs.Declare.{declared_by, declaring, empty}
use Rattle.sim_scope.specs.Laws.{Named, Nested, names_in, names_of}
use Rattle.sim_scope.specs.Runs.{run}
use Rattle.sim_scope.specs.Access.{around}
use Rattle.sim_scope.specs.Scopes.{declared_in, entry_of}
use Rattle.sim_scope.specs.Standard.{attribute_name}
use Rattle.sim_scope.specs.Tables.{BlockOf}
use Rattle.sim_scope.specs.Walk.{program_events}
use Rattle.sim_scope.proofs.Kept.{kept_more, kept_set, more_here, more_other, set_here, set_other}

-- the innermost open block is one of the tables
Within : Option ℕ → List BlockOf → Type 0
Within current blocks = (c : ℕ) → current ≡ Some c → c < length blocks

record Agrees (b : BuildingOf) : Type 0 where
  nested : Nested b.tables.blocks
  named : Named b.tables.blocks b.tables.declarations
  within : Within b.current b.tables.blocks

-- only the blocks, the declarations and the innermost open block count
same_tables : (b c : BuildingOf) → c.tables.blocks ≡ b.tables.blocks → c.tables.declarations ≡ b.tables.declarations → c.current ≡ b.current → Agrees b → Agrees c
same_tables b c t d k a = record {
  nested = subst Nested (sym t) a.nested;
  named = subst (λ z. Named z c.tables.declarations) (sym t) (subst (λ z. Named b.tables.blocks z) (sym d) a.named);
  within = subst (λ z. Within c.current z) (sym t) (subst (λ o. Within o b.tables.blocks) (sym k) a.within);
}

if-broken : (c : Bool) (b : BuildingOf) (token : ℕ) (rule : Rule) → Agrees b → Agrees (broken_if c b token rule)
if-broken true b token rule a = same_tables b _ refl refl refl a
if-broken false b token rule a = a

if-agrees : (c : Bool) (b n : BuildingOf) → Agrees b → Agrees n → Agrees (if c then b else n)
if-agrees true b n a h = a
if-agrees false b n a h = h

-- a row is replaced by one that is alike
replaced : (b : BuildingOf) (j : ℕ) (row new : BlockOf) → slice_get b.tables.blocks j ≡ Some row → new.encloser ≡ row.encloser → new.names ≡ row.names → Agrees b
    → Nested (slice_set b.tables.blocks j new) × Named (slice_set b.tables.blocks j new) b.tables.declarations
unfolding Nested Named
replaced b j row new at out names a = (
  λ block outer is. a.nested block outer (sym (kept_set around b.tables.blocks j row new at out block) ∙ is),
  λ block. kept_set names_of b.tables.blocks j row new at names block ∙ a.named block,
)

still_within : (b : BuildingOf) (j : ℕ) (new : BlockOf) → Within b.current b.tables.blocks → Within b.current (slice_set b.tables.blocks j new)
unfolding Within
still_within b j new w c is = subst (λ n. c < n) (sym (length-set b.tables.blocks j new)) (w c is)

-- Blocks.
longer : (xs : List BlockOf) (x : BlockOf) → length xs < length (xs ++ x ∷ [])
longer [] x = omega arith
longer (y ∷ ys) x = let l : length ys < length (ys ++ x ∷ []) = longer ys x in omega arith

some-same : (m c : ℕ) → Some m ≡ Some c → m ≡ c
some-same m c e = cc

more_nested : (blocks : List BlockOf) (n : BlockOf) (o : Option ℕ) → n.encloser ≡ o → ((c : ℕ) → o ≡ Some c → c < length blocks) → Nested blocks → Nested (blocks ++ n ∷ [])
unfolding Nested
more_nested blocks n o out bound nested block outer is = go (nat_eq block (length blocks)) refl is
  where
    go : (c : Bool) → nat_eq block (length blocks) ≡ c → around (slice_get (blocks ++ n ∷ []) block) ≡ Some outer → outer < block
    go true e is =
        let same : block ≡ length blocks = grind (arith, nat_tests) in
        subst (λ m. outer < m) (sym same) (bound outer (sym out ∙ sym (ap around (ap (slice_get (blocks ++ n ∷ [])) same ∙ more_here blocks n)) ∙ is))
    go false e is = nested block outer (sym (ap around (more_other blocks n block e)) ∙ is)

opened-agrees : (b : BuildingOf) (n : BlockOf) (places : List (Option ℕ)) → n.encloser ≡ b.current → n.names ≡ [] → Agrees b
    → Agrees (record b { tables = record b.tables { blocks = b.tables.blocks ++ n ∷ []; places = places }; current = Some (length b.tables.blocks) })
unfolding Named Within
opened-agrees b n places out names a = record {
  nested = more_nested b.tables.blocks n b.current out a.within a.nested;
  named = λ block. kept_more names_of b.tables.blocks n names block ∙ a.named block;
  within = λ c is. (let e : length b.tables.blocks ≡ c = some-same (length b.tables.blocks) c is in subst (λ m. m < length (b.tables.blocks ++ n ∷ [])) e (longer b.tables.blocks n));
}

-- a block that does not stay open
block-agrees : (b : BuildingOf) (n : BlockOf) (k : ℕ) → n.encloser ≡ Some k → k < length b.tables.blocks → n.names ≡ [] → Agrees b → Agrees (record b { tables = record b.tables { blocks = b.tables.blocks ++ n ∷ [] } })
unfolding Named Within
block-agrees b n k out le names a = record {
  nested = more_nested b.tables.blocks n (Some k) out (λ c is. subst (λ m. m < length b.tables.blocks) (some-same k c is) le) a.nested;
  named = λ block. kept_more names_of b.tables.blocks n names block ∙ a.named block;
  within = λ c is. (let lt : c < length b.tables.blocks = a.within c is in let more : length b.tables.blocks < length (b.tables.blocks ++ n ∷ []) = longer b.tables.blocks n in omega arith);
}

closed-row : (b : BuildingOf) (token block : ℕ) (o : Option BlockOf) → slice_get b.tables.blocks block ≡ o → b.current ≡ Some block → Agrees b → Agrees (closed_at b token block o)
unfolding Within Nested
closed-row b token block None at is a = a
closed-row b token block (Some row) at is a =
    let new : BlockOf = record row { end = token } in
    let kept = replaced b block row new at refl refl a in record {
      nested = kept.0;
      named = kept.1;
      within = λ c out. (let le : block < length b.tables.blocks = a.within block is in let lt : c < block = a.nested block c (ap around at ∙ out) in subst (λ n. c < n) (sym (length-set b.tables.blocks block new)) (omega arith));
    }

closed-agrees : (b : BuildingOf) (token : ℕ) (o : Option ℕ) → b.current ≡ o → Agrees b → Agrees (closed b token o)
closed-agrees b token None is a = a
closed-agrees b token (Some block) is a = closed-row b token block (slice_get b.tables.blocks block) refl is a

-- Declarations.
name_in : (k : ℕ) → Declaration → List (List ℕ)
name_in k d = if nat_eq d.block k && d.listed then d.name ∷ [] else []

names_in-more : (k : ℕ) (ds : List Declaration) (d : Declaration) → names_in k (ds ++ d ∷ []) ≡ names_in k ds ++ name_in k d
unfolding name_in
names_in-more k [] d = append-nil _
names_in-more k (y ∷ ys) d = ap (λ z. name_in k y ++ z) (names_in-more k ys d) ∙ sym (append_assoc (name_in k y) (names_in k ys) (name_in k d))

names_in-set : (k : ℕ) (ds : List Declaration) (j : ℕ) (row : Declaration) (e : Entry) → slice_get ds j ≡ Some row → names_in k (slice_set ds j (record row { entry = e })) ≡ names_in k ds
unfolding name_in
names_in-set k [] j row e at = absurd (cc)
names_in-set k (d ∷ ds) zero row e at = let same : d ≡ row = cc in ap (λ z. name_in k z ++ names_in k ds) (sym same)
names_in-set k (d ∷ ds) (suc j) row e at = ap (λ z. name_in k d ++ z) (names_in-set k ds j row e at)

-- a declaration that its block does not list
not-listed : (k : ℕ) (d : Declaration) → d.listed ≡ false → name_in k d ≡ []
unfolding name_in
not-listed k d no_ = go (nat_eq d.block k)
  where
    go : (c : Bool) → (if c && d.listed then d.name ∷ [] else []) ≡ []
    go true = ap (λ z. if z then d.name ∷ [] else []) no_
    go false = refl

unlisted-agrees : (b : BuildingOf) (d : Declaration) → d.listed ≡ false → Agrees b → Agrees (record b { tables = record b.tables { declarations = b.tables.declarations ++ d ∷ [] } })
unfolding Named
unlisted-agrees b d no_ a = record {
  nested = a.nested;
  named = λ k. a.named k ∙ sym (names_in-more k b.tables.declarations d ∙ ap (λ z. names_in k b.tables.declarations ++ z) (not-listed k d no_) ∙ append-nil _);
  within = a.within;
}

-- one that its block lists
listed-here : (k : ℕ) (d : Declaration) → d.listed ≡ true → d.block ≡ k → name_in k d ≡ d.name ∷ []
unfolding name_in
listed-here k d yes_ at = let same : nat_eq d.block k ≡ true = grind (arith, nat_tests) in ap (λ z. if z && d.listed then d.name ∷ [] else []) same ∙ ap (λ z. if z then d.name ∷ [] else []) yes_

listed-elsewhere : (k : ℕ) (d : Declaration) → nat_eq d.block k ≡ false → name_in k d ≡ []
unfolding name_in
listed-elsewhere k d other = ap (λ z. if z && d.listed then d.name ∷ [] else []) other

new-agrees : (b : BuildingOf) (d : Declaration) (row : BlockOf) (number : DeclNo) → d.listed ≡ true → slice_get b.tables.blocks d.block ≡ Some row → Agrees b
    → Agrees (record b { tables = record b.tables { blocks = slice_set b.tables.blocks d.block (with_name row d.name number); declarations = b.tables.declarations ++ d ∷ [] } })
unfolding Nested Named
new-agrees b d row number yes_ at a = record {
  nested = λ k outer is. a.nested k outer (sym (kept_set around b.tables.blocks d.block row (with_name row d.name number) at refl k) ∙ is);
  named = λ k. go k (nat_eq d.block k) refl ∙ sym (names_in-more k b.tables.declarations d);
  within = still_within b d.block (with_name row d.name number) a.within;
}
  where
    go : (k : ℕ) (c : Bool) → nat_eq d.block k ≡ c → names_of (slice_get (slice_set b.tables.blocks d.block (with_name row d.name number)) k) ≡ names_in k b.tables.declarations ++ name_in k d
    go k true is =
        let same : d.block ≡ k = grind (arith, nat_tests) in
        ap (λ j. names_of (slice_get (slice_set b.tables.blocks d.block (with_name row d.name number)) j)) (sym same) ∙ ap names_of (set_here b.tables.blocks d.block row (with_name row d.name number) at)
        ∙ ap (λ z. z ++ d.name ∷ []) (sym (ap names_of at) ∙ a.named d.block ∙ ap (λ j. names_in j b.tables.declarations) same)
        ∙ ap (λ z. names_in k b.tables.declarations ++ z) (sym (listed-here k d yes_ same))
    go k false is =
        ap names_of (set_other b.tables.blocks d.block k (with_name row d.name number) is) ∙ a.named k ∙ sym (append-nil _)
        ∙ ap (λ z. names_in k b.tables.declarations ++ z) (sym (listed-elsewhere k d is))

matching-row : (b : BuildingOf) (virtual d : DeclNo) (o : Option Declaration) → slice_get b.tables.declarations virtual.0 ≡ o → Agrees b → Agrees (record b { tables = record b.tables { declarations = row_matching o d b.tables.declarations virtual.0 } })
unfolding Named
matching-row b virtual d None at a = same_tables b _ refl refl refl a
matching-row b virtual d (Some row) at a = record { nested = a.nested; named = λ k. a.named k ∙ sym (names_in-set k b.tables.declarations virtual.0 row _ at); within = a.within }

known-agrees : (b : BuildingOf) (virtual : DeclNo) → Agrees b → Agrees (match_known b virtual)
known-agrees b virtual a = matching-row b virtual (record { 0 = length b.tables.declarations }) (slice_get b.tables.declarations virtual.0) refl a

counting-agrees : (b : BuildingOf) (x : Identifier) → Agrees b → Agrees (counting b x)
counting-agrees b x a = if-broken (nat_eq b.own most_declarations) _ x.token.0 r.TooManyDeclarations (same_tables b _ refl refl refl a)

again-agrees : (b : BuildingOf) (x : Identifier) (e : Entry) (block : ℕ) (o : Option DeclNo) → Agrees b → Agrees (declared_again b x e block o)
again-agrees b x e block None a = same_tables b _ refl refl refl a
again-agrees b x e block (Some d) a = go (is_match e (entry_of b.tables d))
  where
    c : BuildingOf
    c = match_known b d

    go : (z : Bool) → Agrees (if z then matched b x e block d else declared_twice b x (Some d))
    go true =
        counting-agrees _ x (same_tables (record c { tables = record c.tables { declarations = c.tables.declarations ++ row_of x e block false ∷ [] } }) _ refl refl refl
        (unlisted-agrees c (row_of x e block false) refl (known-agrees b d a)))
    go false = same_tables b _ refl refl refl a

declared-row : (b : BuildingOf) (x : Identifier) (e : Entry) (block : ℕ) (o : Option BlockOf) → slice_get b.tables.blocks block ≡ o → Agrees b → Agrees (declared_at b x e block o)
declared-row b x e block None at a = a
declared-row b x e block (Some row) at a = go (list_any (bytes_eq x.name) row.names)
  where
    d : DeclNo
    d = record { 0 = length b.tables.declarations }

    go : (c : Bool) → Agrees (if c then declared_again b x e block (declared_in (Some row) x.name) else declared_new b x e block row)
    go true = again-agrees b x e block (declared_in (Some row) x.name) a
    go false =
        counting-agrees _ x (same_tables (record b { tables = record b.tables { blocks = slice_set b.tables.blocks block (with_name row x.name d); declarations = b.tables.declarations ++ row_of x e block true ∷ [] } }) _ refl refl refl
        (new-agrees b (row_of x e block true) row d refl at a))

declared-agrees : (b : BuildingOf) (x : Identifier) (e : Entry) (o : Option ℕ) → Agrees b → Agrees (declared_inside b x e o)
declared-agrees b x e None a = a
declared-agrees b x e (Some block) a = declared-row b x e block (slice_get b.tables.blocks block) refl a

-- Headings.
row_agrees : (b : BuildingOf) (block : ℕ) (row new : BlockOf) → slice_get b.tables.blocks block ≡ Some row → new.encloser ≡ row.encloser → new.names ≡ row.names → Agrees b
    → Agrees (record b { tables = record b.tables { blocks = slice_set b.tables.blocks block new } })
row_agrees b block row new at out names a =
    let kept = replaced b block row new at out names a in record { nested = kept.0; named = kept.1; within = still_within b block new a.within }

changed-row : (b : BuildingOf) (change : BlockOf → BlockOf) (block : ℕ) (o : Option BlockOf) → ((row : BlockOf) → (change row).encloser ≡ row.encloser) → ((row : BlockOf) → (change row).names ≡ row.names)
    → slice_get b.tables.blocks block ≡ o → Agrees b → Agrees (changed_row b change block o)
changed-row b change block None out names at a = a
changed-row b change block (Some row) out names at a = row_agrees b block row (change row) at (out row) (names row) a

changed-agrees : (b : BuildingOf) (change : BlockOf → BlockOf) (o : Option ℕ) → ((row : BlockOf) → (change row).encloser ≡ row.encloser) → ((row : BlockOf) → (change row).names ≡ row.names) → Agrees b → Agrees (changed b change o)
changed-agrees b change None out names a = a
changed-agrees b change (Some block) out names a = changed-row b change block (slice_get b.tables.blocks block) out names refl a

counted-row : (b : BuildingOf) (block : ℕ) (o : Option BlockOf) → slice_get b.tables.blocks block ≡ o → Agrees b → Agrees (counted b block o)
counted-row b block None at a = a
counted-row b block (Some row) at a = row_agrees b block row (record row { formals = length row.numbers }) at refl refl a

counted-agrees : (b : BuildingOf) (o : Option ℕ) → Agrees b → Agrees (counted_in b o)
counted-agrees b None a = a
counted-agrees b (Some block) a = counted-row b block (slice_get b.tables.blocks block) refl a

entered-row : (b : BuildingOf) (d : DeclNo) (e : Entry) (o : Option Declaration) → slice_get b.tables.declarations d.0 ≡ o → Agrees b → Agrees (entered b d e o)
unfolding Named
entered-row b d e None at a = a
entered-row b d e (Some row) at a = record { nested = a.nested; named = λ k. a.named k ∙ sym (names_in-set k b.tables.declarations d.0 row e at); within = a.within }

entry-agrees : (b : BuildingOf) (d : DeclNo) (e : Entry) → Agrees b → Agrees (with_entry b d e)
entry-agrees b d e a = entered-row b d e (slice_get b.tables.declarations d.0) refl a

moded-row : (b : BuildingOf) (token : TokenNo) (m : Mode) (d : DeclNo) (o : Option (Option WrittenMode)) → Agrees b → Agrees (moded_as b token m d o)
moded-row b token m d None a = same_tables b _ refl refl refl a
moded-row b token m d (Some (Some written)) a = same_tables b _ refl refl refl a
moded-row b token m d (Some None) a = go (is_by_name m && in_class b)
  where
    go : (c : Bool) → Agrees (if c then broken b token.0 r.ModeNotAllowed else with_entry b d (entry.Unspecified (Some (record { token = token; mode = m }))))
    go true = same_tables b _ refl refl refl a
    go false = entry-agrees b d _ a

moded-agrees : (b : BuildingOf) (token : TokenNo) (m : Mode) (o : Option DeclNo) → Agrees b → Agrees (moded b token m o)
moded-agrees b token m None a = same_tables b _ refl refl refl a
moded-agrees b token m (Some d) a = moded-row b token m d (unspecified_in (entry_of b.tables d)) a

with-mode : (b : BuildingOf) (d : DeclNo) (k : FormalKind) (ty : Option SimType) (o : Option WrittenMode) → Agrees b → Agrees (with_mode b d k ty o)
with-mode b d k ty None a = entry-agrees b d _ a
with-mode b d k ty (Some w) a = if-broken (not (mode_allowed w.mode k ty)) _ w.token.0 r.ModeNotAllowed (entry-agrees b d (formal w.mode k ty) a)

specified-row : (b : BuildingOf) (token : TokenNo) (k : FormalKind) (ty : Option SimType) (d : DeclNo) (o : Option (Option WrittenMode)) → Agrees b → Agrees (specified_as b token k ty d o)
specified-row b token k ty d None a = same_tables b _ refl refl refl a
specified-row b token k ty d (Some written) a =
    if-broken (is_procedure k && in_class b) _ (token_in (slice_get b.tables.declarations d.0)) r.ModeNotAllowed (with-mode b d k ty written a)

specified-agrees : (b : BuildingOf) (token : TokenNo) (k : FormalKind) (ty : Option SimType) (o : Option DeclNo) → Agrees b → Agrees (specified b token k ty o)
specified-agrees b token k ty None a = same_tables b _ refl refl refl a
specified-agrees b token k ty (Some d) a = specified-row b token k ty d (unspecified_in (entry_of b.tables d)) a

headed-agrees : (b : BuildingOf) (token : TokenNo) (o : Option (Option WrittenMode)) → Agrees b → Agrees (headed b token o)
headed-agrees b token None a = a
headed-agrees b token (Some written) a = same_tables b _ refl refl refl a

inner-in : (b : BuildingOf) (token block : ℕ) (row : BlockOf) (o : Option ℕ) → slice_get b.tables.blocks block ≡ Some row → Agrees b → Agrees (inner_in b token block row o)
inner-in b token block row None at a = row_agrees b block row (record row { inner = Some token }) at refl refl a
inner-in b token block row (Some other) at a = same_tables b _ refl refl refl a

inner-row : (b : BuildingOf) (token block : ℕ) (o : Option BlockOf) → slice_get b.tables.blocks block ≡ o → Agrees b → Agrees (inner_at b token block o)
inner-row b token block None at a = a
inner-row b token block (Some row) at a = inner-in b token block row row.inner at a

inner-agrees : (b : BuildingOf) (token : ℕ) (o : Option ℕ) → Agrees b → Agrees (inner b token o)
inner-agrees b token None a = a
inner-agrees b token (Some block) a = inner-row b token block (slice_get b.tables.blocks block) refl a

-- Standard classes.
qualified-agrees : (b : BuildingOf) (class : Identifier) (o : Option DeclNo) → Agrees b → Agrees (qualified b class o)
qualified-agrees b class None a = a
qualified-agrees b class (Some d) a = same_tables b _ refl refl refl a

brings-row : (b : BuildingOf) (which : StandardClass) (token block : ℕ) (o : Option BlockOf) → slice_get b.tables.blocks block ≡ o → Agrees b → Agrees (brings_at b which token block o)
brings-row b which token block None at a = a
brings-row b which token block (Some row) at a = if-agrees (list_any (bytes_eq (name_of which)) row.brought_names) b _ a fresh
  where
    d : DeclNo
    d = record { 0 = length b.tables.declarations }

    new : BlockOf
    new = with_brought (name_of which) d row

    m : BuildingOf
    m = record b { tables = record b.tables { blocks = slice_set b.tables.blocks block new } }

    le : block < length m.tables.blocks
    le = subst (λ n. block < n) (sym (length-set b.tables.blocks block new)) (slice_get_within b.tables.blocks block row at)

    fresh : Agrees (brings_new b which token block row)
    fresh = unlisted-agrees _ (standard_row (name_of which) token block (entry.Class (length b.tables.blocks)) false) refl
        (block-agrees m (class_row which block row d) block refl le refl (row_agrees b block row new at refl refl a))

brings-agrees : (b : BuildingOf) (which : StandardClass) (token : ℕ) (o : Option ℕ) → Agrees b → Agrees (brings b which token o)
brings-agrees b which token None a = a
brings-agrees b which token (Some block) a = brings-row b which token block (slice_get b.tables.blocks block) refl a

alone-row : (b : BuildingOf) (name : Standard) (token : ℕ) (first : Option DeclNo) (block : ℕ) (o : Option BlockOf) → slice_get b.tables.blocks block ≡ o → Agrees b → Agrees (provided_alone b name token first block o)
alone-row b name token first block None at a = a
alone-row b name token first block (Some row) at a =
    if-agrees (list_any (bytes_eq (attribute_name name)) row.brought_names) b _ a
    (unlisted-agrees _ (standard_row (attribute_name name) token block (attribute_entry first name) false) refl
    (row_agrees b block row (with_brought (attribute_name name) (record { 0 = length b.tables.declarations }) row) at refl refl a))

provided-row : (b : BuildingOf) (name : Standard) (token : ℕ) (first : Option DeclNo) (block : ℕ) (o : Option BlockOf) → slice_get b.tables.blocks block ≡ o → Agrees b → Agrees (provided_in b name token first block o)
provided-row b name token first block None at a = a
provided-row b name token first block (Some row) at a =
    if-agrees (list_any (bytes_eq (attribute_name name)) row.names) b _ a
    (new-agrees b (standard_row (attribute_name name) token block (attribute_entry first name) true) row (record { 0 = length b.tables.declarations }) refl at a)

provides-at : (b : BuildingOf) (which : Option StandardClass) (name : Standard) (token block : ℕ) (first : Option DeclNo) → Agrees b → Agrees (provides_in b which name token block first)
provides-at b None name token block first a = alone-row b name token first block (slice_get b.tables.blocks block) refl a
provides-at b (Some which) name token block first a = provided-row b name token first (block + 1 + place_of which) (slice_get b.tables.blocks (block + 1 + place_of which)) refl a

provides-agrees : (b : BuildingOf) (which : Option StandardClass) (name : Standard) (token : ℕ) (o : Option ℕ) → Agrees b → Agrees (provides b which name token o)
provides-agrees b which name token None a = a
provides-agrees b which name token (Some block) a = provides-at b which name token block (first_brought (slice_get b.tables.blocks block)) a

guards-row : (b : BuildingOf) (hides keeps : Bool) (x : Identifier) (block : ℕ) (o : Option BlockOf) → slice_get b.tables.blocks block ≡ o → Agrees b → Agrees (guards_at b hides keeps x block o)
guards-row b hides keeps x block None at a = a
guards-row b hides keeps x block (Some row) at a =
    let new : BlockOf = protecting hides keeps x.name row in
    same_tables (record b { tables = record b.tables { blocks = slice_set b.tables.blocks block new } }) _ refl refl refl (row_agrees b block row new at refl refl a)

guards-agrees : (b : BuildingOf) (hides keeps : Bool) (x : Identifier) (o : Option ℕ) → Agrees b → Agrees (guards b hides keeps x o)
guards-agrees b hides keeps x None a = a
guards-agrees b hides keeps x (Some block) a = guards-row b hides keeps x block (slice_get b.tables.blocks block) refl a

-- Whatever is met, the tables still agree.
marked-agrees : (b : BuildingOf) (m : Mark) → Agrees b → Agrees (marked b m)
unfolding marked
marked-agrees b (Opens k text first) a = if-broken _ _ text r.TooManyLevels (opened-agrees b _ _ refl refl a)
marked-agrees b (Closes end) a = closed-agrees b end b.current refl a
marked-agrees b (Declares x e) a = declared-agrees b x e b.current a
marked-agrees b (DeclaresProcedure x result) a = declared-agrees b x (entry.Procedure result (length b.tables.blocks)) b.current a
marked-agrees b (DeclaresClass x) a = changed-agrees (declared b x (entry.Class (length b.tables.blocks))) holding_class b.current (λ row. refl) (λ row. refl) (declared-agrees b x (entry.Class (length b.tables.blocks)) b.current a)
marked-agrees b (Parameter x) a = counted-agrees (declared b x (entry.Unspecified None)) _ (declared-agrees b x (entry.Unspecified None) b.current a)
marked-agrees b (Moded x m) a = moded-agrees b x.token m (found_in b.tables b.current x.name) a
marked-agrees b (Specified x k ty) a = let d = found_in b.tables b.current x.name in specified-agrees (record b { latest = d }) x.token k ty d (same_tables b _ refl refl refl a)
marked-agrees b (Headed x) a = headed-agrees b x.token (unspecified_at b.tables (found_in b.tables b.current x.name)) a
marked-agrees b (Qualifies class) a = qualified-agrees b class b.latest a
marked-agrees b (Prefixes class) a = changed-agrees b (prefixed_by class) b.current (λ row. refl) (λ row. refl) a
marked-agrees b (Brings which token) a = brings-agrees b which token b.current a
marked-agrees b (Provides which name token) a = provides-agrees b which name token b.current a
marked-agrees b (Protects hides keeps x) a = guards-agrees b hides keeps x b.current a
marked-agrees b (Inner token) a = inner-agrees b token b.current a
marked-agrees b (Breaks token rule) a = same_tables b _ refl refl refl a

run-agrees : (b : BuildingOf) (ms : List Mark) → Agrees b → Agrees (run marked b ms)
unfolding run
run-agrees b [] a = a
run-agrees b (m ∷ ms) a = run-agrees (marked b m) ms (marked-agrees b m a)

empty-agrees : Agrees empty
unfolding Nested Named Within
empty-agrees = record { nested = λ block outer is. absurd (cc); named = λ block. refl; within = λ c is. absurd (cc) }

pub tables_nested : (p : Program) → Nested (declared_by p).tables.blocks
unfolding declared_by
tables_nested p = (run-agrees empty (program_events declaring p) empty-agrees).nested

pub tables_named : (p : Program) → Named (declared_by p).tables.blocks (declared_by p).tables.declarations
unfolding declared_by
tables_named p = (run-agrees empty (program_events declaring p) empty-agrees).named
