-- Each class has its block also in the tables with the class of each prefix, of each reference and of each connection.
use Rattle.std.proofs.Common.{◌≡◌, ◌<◌, ◌+◌, ℕ, List, [], ◌∷◌, length, Option, Some, None, refl, sym, ap, ◌∙◌, subst}
use Rattle.std.specs.Prelude.{slice_get, slice_set}
use Rattle.sim_base.specs.declared.numbering.DeclNo.{DeclNo}
use Rattle.sim_tree.specs.Syntax.{Program}
use Rattle.sim_scope.specs.declared.scopes.Declaration.{Declaration}
use Rattle.sim_scope.specs.declared.scopes.Qualification.{Qualification}
use Rattle.sim_scope.specs.declared.types.Entry.{Entry}
use Rattle.sim_scope.specs.declared.types.Entry.TheVariants as entry
use Rattle.sim_scope.specs.declared.types.StandardPrefix.{StandardPrefix}
use Rattle.sim_scope.specs.Access.{around, block_at, encloser}
use Rattle.sim_scope.specs.Declare.{declared_by}
use Rattle.sim_scope.specs.Laws.{Nested}
use Rattle.sim_scope.specs.Levels.{class_block_in}
use Rattle.sim_scope.specs.Runs.{run}
use Rattle.sim_scope.specs.Scopes.{entry_in, entry_of}
use Rattle.sim_scope.specs.Tables.{BlockOf, Tables, with_base_at, with_declaration, with_entry_at, with_row, with_standard_at}
use Rattle.sim_scope.specs.Walk.{program_events}
use Rattle.sim_scope.proofs.Agree.{tables_nested}
use Rattle.sim_scope.proofs.Kept.{kept_set}
use Rattle.prefix_bind.specs.declared.prefixes.PrefixFound.{PrefixFound}
use Rattle.prefix_bind.specs.declared.prefixes.PrefixFound.TheVariants as prefix
use Rattle.prefix_bind.specs.Prefixes.{block_prefixed, deepest, level_prefixed, numbers_to, prefix_of_level, prefixed, with_prefix}
use Rattle.virtual_match.specs.Qualifying.{class_written, declaration_to, entry_to, qualified, qualified_to, with_qualification}
use Rattle.inspect_types.specs.Connecting.{Connecting, ConnectingOf, Connects, Looks, Names, connected, connected_at, connecting, connections}
use Rattle.scope_lists.specs.Classes.{HasBlocks}
use Rattle.scope_lists.specs.Lists.{Lists, of_block}
use Rattle.scope_lists.proofs.ClassBlocks.{declared_blocks}
use Rattle.scope_lists.proofs.ClassMarks.{class_at, class_of_row, length_set}
use Rattle.scope_lists.proofs.Repeated.{scopes_of_around}

-- each class has its block, and each block stands behind the one around it
abbrev pub Whole : Tables → Type 0
Whole s = HasBlocks s × Nested s.blocks

-- rows of blocks are changed
nested_kept : (s : Tables) (block : ℕ) (old row : BlockOf) → slice_get s.blocks block ≡ Some old → row.encloser ≡ old.encloser → Nested s.blocks → Nested (slice_set s.blocks block row)
unfolding Nested
nested_kept s block old row at alike nested b outer is = nested b outer (sym (kept_set around s.blocks block old row at alike b) ∙ is)

blocks_kept : (s : Tables) (block : ℕ) (row : BlockOf) → HasBlocks s → HasBlocks (with_row s block row)
blocks_kept s block row h d k is = subst (λ m. k < m) (sym (length_set s.blocks block row)) (h d k (class_of_row s d ∙ sym (class_of_row (with_row s block row) d) ∙ is))

row_kept : (s : Tables) (block : ℕ) (old row : BlockOf) → slice_get s.blocks block ≡ Some old → row.encloser ≡ old.encloser → Whole s → Whole (with_row s block row)
row_kept s block old row at alike h = (blocks_kept s block row h.0, nested_kept s block old row at alike h.1)

base_kept : (s : Tables) (block : ℕ) (base : Option ℕ) → Whole s → Whole (with_base_at s block base)
unfolding with_base_at
base_kept s block base h = go (slice_get s.blocks block) refl
  where
    go : (o : Option BlockOf) → slice_get s.blocks block ≡ o → Whole (elim o [ None ↦ s | Some row ↦ with_row s block (record row { base = base }) ])
    go None at = h
    go (Some row) at = row_kept s block row (record row { base = base }) at refl h

standard_kept : (s : Tables) (block : ℕ) (which : StandardPrefix) → Whole s → Whole (with_standard_at s block which)
unfolding with_standard_at
standard_kept s block which h = go (slice_get s.blocks block) refl
  where
    go : (o : Option BlockOf) → slice_get s.blocks block ≡ o → Whole (elim o [ None ↦ s | Some row ↦ with_row s block (record row { standard = Some which }) ])
    go None at = h
    go (Some row) at = row_kept s block row (record row { standard = Some which }) at refl h

-- a reference becomes one to a class
class_kept : (class : DeclNo) (e : Entry) → class_block_in (Some (entry_to class e)) ≡ class_block_in (Some e)
unfolding entry_to
class_kept class (entry.Variable ty) = refl
class_kept class (entry.Constant ty) = refl
class_kept class (entry.Array element dimensions) = refl
class_kept class (entry.Procedure result block) = refl
class_kept class (entry.Virtual result own) = refl
class_kept class (entry.Formal f) = refl
class_kept class e = refl

row_entry : (s : Tables) (d class : DeclNo) (e : Entry) → entry_of s d ≡ Some e → Whole s → Whole (with_entry_at s d.0 (entry_to class e))
unfolding with_entry_at entry_of
row_entry s d class e at h = go (slice_get s.declarations d.0) refl
  where
    go : (o : Option Declaration) → slice_get s.declarations d.0 ≡ o → Whole (elim o [ None ↦ s | Some row ↦ with_declaration s d.0 (record row { entry = entry_to class e }) ])
    go None is = h
    go (Some row) is =
        let same : Some row.entry ≡ Some e = sym (ap entry_in is) ∙ at in
        let alike : class_block_in (Some (entry_to class e)) ≡ class_block_in (Some row.entry) = class_kept class e ∙ sym (ap class_block_in same) in
        (entered row is alike, h.1)
      where
        entered : (row : Declaration) → slice_get s.declarations d.0 ≡ Some row → class_block_in (Some (entry_to class e)) ≡ class_block_in (Some row.entry) → HasBlocks (with_declaration s d.0 (record row { entry = entry_to class e }))
        entered row is alike c k has =
            h.0 c k (class_of_row s c ∙ sym (kept_set class_at s.declarations d.0 row (record row { entry = entry_to class e }) is alike c.0)
            ∙ sym (class_of_row (with_declaration s d.0 (record row { entry = entry_to class e })) c) ∙ has)

qualification_kept : (s : Tables) (q : Qualification) → Whole s → Whole (with_qualification s q)
unfolding with_qualification
qualification_kept s q h = to (class_written s q)
  where
    entered : (class : DeclNo) (o : Option Entry) → entry_of s q.declaration ≡ o → Whole (declaration_to s q.declaration class o)
    entered class None at = h
    entered class (Some e) at = row_entry s q.declaration class e at h

    to : (o : Option DeclNo) → Whole (qualified_to s q.declaration o)
    to None = h
    to (Some class) = entered class (entry_of s q.declaration) refl

run_kept : {E : Type 0} (step : Tables → E → Tables) → ((s : Tables) (e : E) → Whole s → Whole (step s e)) → (es : List E) (s : Tables) → Whole s → Whole (run step s es)
unfolding run
run_kept step kept [] s h = h
run_kept step kept (e ∷ es) s h = run_kept step kept es (step s e) (kept s e h)

qualified_kept : (s : Tables) → Whole s → Whole (qualified s)
unfolding qualified
qualified_kept s h = run_kept with_qualification qualification_kept s.qualifications s h

prefix_kept : (s : Tables) (block : ℕ) (x : PrefixFound) → Whole s → Whole (with_prefix s block x)
prefix_kept s block (prefix.Class b) h = base_kept s block (Some b) h
prefix_kept s block (prefix.Standard which) h = standard_kept s block which h
prefix_kept s block prefix.Nothing h = h

level_kept : (s : Tables) (level : ℕ) → Whole s → Whole (level_prefixed s level)
unfolding level_prefixed block_prefixed
level_kept s level h = run_kept (block_prefixed level) (λ t block g. prefix_kept t block (prefix_of_level level t (slice_get t.blocks block)) g) (numbers_to (length s.blocks)) s h

prefixed_kept : (s : Tables) → Whole s → Whole (prefixed s)
unfolding prefixed
prefixed_kept s h = run_kept level_prefixed level_kept (numbers_to (deepest s.blocks + 1)) s h

at_kept : (s : Tables) (o class : Option ℕ) → Whole s → Whole (connected_at s o class)
at_kept s None class h = h
at_kept s (Some block) class h = base_kept s block class h

connecting_kept : (c : ConnectingOf) (x : Connecting) → Whole c.tables → Whole (connecting c x).tables
unfolding connecting
connecting_kept c (Looks object) h = h
connecting_kept c (Names class) h = h
connecting_kept c (Connects opening) h = at_kept c.tables (block_at c.tables opening) c.next h

connections_kept : (xs : List Connecting) (c : ConnectingOf) → Whole c.tables → Whole (run connecting c xs).tables
unfolding run
connections_kept [] c h = h
connections_kept (x ∷ xs) c h = connections_kept xs (connecting c x) (connecting_kept c x h)

connected_kept : (s : Tables) (p : Program) → Whole s → Whole (connected s p)
unfolding connected
connected_kept s p h = connections_kept (program_events connections p) (record { tables = s; next = None }) h

pub whole : (p : Program) → Whole (connected (qualified (prefixed (declared_by p).tables)) p)
whole p = connected_kept _ p (qualified_kept _ (prefixed_kept _ (declared_blocks p, tables_nested p)))

pub completed_blocks : (p : Program) → HasBlocks (connected (qualified (prefixed (declared_by p).tables)) p)
completed_blocks p = (whole p).0

pub declared_scopes : (p : Program) (l : Lists (declared_by p).tables) (block : ℕ) → l.outward block ≡ block ∷ of_block l.outward (encloser (declared_by p).tables block)
declared_scopes p l block = scopes_of_around (declared_by p).tables l (tables_nested p) block

pub completed_scopes : (p : Program) (l : Lists (connected (qualified (prefixed (declared_by p).tables)) p)) (block : ℕ)
    → l.outward block ≡ block ∷ of_block l.outward (encloser (connected (qualified (prefixed (declared_by p).tables)) p) block)
completed_scopes p l block = scopes_of_around (connected (qualified (prefixed (declared_by p).tables)) p) l (whole p).1 block
