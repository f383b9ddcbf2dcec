-- Prefixes, references and connections become known; the source's own declarations stay.
use Rattle.std.proofs.Common.{◌≡◌, ℕ, true, Option, Some, None, length, refl, subst}
use Rattle.std.specs.Prelude.{slice_get, slice_set}
use Rattle.inspect_types.specs.Connecting as c
use Rattle.inspect_types.specs.Connecting.{Connecting, ConnectingOf, connected, connecting, connections}
use Rattle.prefix_bind.specs.Prefixes as p
use Rattle.prefix_bind.specs.Prefixes.{prefixed}
use Rattle.prefix_bind.specs.declared.prefixes.PrefixFound.{PrefixFound}
use Rattle.prefix_bind.specs.declared.prefixes.PrefixFound.TheVariants as found
use Rattle.sim_base.specs.declared.numbering.DeclNo.{DeclNo}
use Rattle.sim_scope.specs.Scopes.{entry_in, entry_of}
use Rattle.sim_scope.specs.Tables.{BlockOf, Tables, with_base_at, with_entry_at, with_standard_at}
use Rattle.sim_scope.specs.Walk.{program_events}
use Rattle.sim_scope.specs.declared.scopes.Declaration.{Declaration}
use Rattle.sim_scope.specs.declared.types.Entry.{Entry}
use Rattle.sim_scope.specs.declared.types.Entry.TheVariants as entry
use Rattle.sim_scope.specs.declared.types.StandardPrefix.{StandardPrefix}
use Rattle.sim_static.specs.Check.{completed}
use Rattle.sim_tree.specs.Syntax.{Program}
use Rattle.virtual_match.specs.Qualifying as q
use Rattle.virtual_match.specs.Qualifying.{qualified, with_qualification}
use Rattle.xref_order.proofs.OwnRows.{Quiet, Some_of, along, brought, own_of, own_rows, own_set, own_stand, run_quiet, same, stand_set}

block_quiet : (s : Tables) (block : ℕ) (row new : BlockOf) → slice_get s.blocks block ≡ Some row → new.kind ≡ row.kind → Some_of (own_rows (slice_set s.blocks block new) s.declarations) (own_of s)
block_quiet s block row new there kind = own_stand s.blocks (slice_set s.blocks block new) (stand_set s.blocks block row new there kind) s.declarations

base_quiet : (s : Tables) (block : ℕ) (base : Option ℕ) → Quiet s (with_base_at s block base)
unfolding with_base_at
base_quiet s block base = go (slice_get s.blocks block) refl
  where
    go : (o : Option BlockOf) → slice_get s.blocks block ≡ o → Quiet s (elim o [ None ↦ s | Some row ↦ record s { blocks = slice_set s.blocks block (record row { base = base }) } ])
    go None e = same (own_of s)
    go (Some row) e = block_quiet s block row (record row { base = base }) e refl

standard_quiet : (s : Tables) (block : ℕ) (which : StandardPrefix) → Quiet s (with_standard_at s block which)
unfolding with_standard_at
standard_quiet s block which = go (slice_get s.blocks block) refl
  where
    go : (o : Option BlockOf) → slice_get s.blocks block ≡ o → Quiet s (elim o [ None ↦ s | Some row ↦ record s { blocks = slice_set s.blocks block (record row { standard = Some which }) } ])
    go None e = same (own_of s)
    go (Some row) e = block_quiet s block row (record row { standard = Some which }) e refl

prefix_quiet : (s : Tables) (block : ℕ) (f : PrefixFound) → Quiet s (p.with_prefix s block f)
prefix_quiet s block (found.Class b) = base_quiet s block (Some b)
prefix_quiet s block (found.Standard which) = standard_quiet s block which
prefix_quiet s block found.Nothing = same (own_of s)

level_quiet : (s : Tables) (level : ℕ) → Quiet s (p.level_prefixed s level)
unfolding p.level_prefixed p.block_prefixed
level_quiet s level =
    run_quiet (p.block_prefixed level) (λ s. s) (λ s block. prefix_quiet s block (p.prefix_of_level level s (slice_get s.blocks block))) s (p.numbers_to (length s.blocks))

prefixed_quiet : (s : Tables) → Quiet s (prefixed s)
unfolding prefixed
prefixed_quiet s = run_quiet p.level_prefixed (λ s. s) level_quiet s _

-- ---- references

to_kept : (s : Tables) (class : DeclNo) (e : Entry) → brought s.blocks e ≡ true → brought s.blocks (q.entry_to class e) ≡ true
unfolding q.entry_to
to_kept s class (entry.Class n) h = h
to_kept s class (entry.Attribute name parameter result) h = h
to_kept s class (entry.Variable ty) h = h
to_kept s class (entry.Constant ty) h = h
to_kept s class (entry.Array ty n) h = h
to_kept s class (entry.Procedure result n) h = h
to_kept s class (entry.Virtual result n) h = h
to_kept s class (entry.Formal f) h = h
to_kept s class (entry.Unspecified w) h = h

entry_quiet : (s : Tables) (d class : DeclNo) (e : Entry) → entry_of s d ≡ Some e → Quiet s (with_entry_at s d.0 (q.entry_to class e))
unfolding with_entry_at entry_of
entry_quiet s d class e is = go (slice_get s.declarations d.0) refl is
  where
    go : (o : Option Declaration) → slice_get s.declarations d.0 ≡ o → entry_in o ≡ Some e
        → Quiet s (elim o [ None ↦ s | Some row ↦ record s { declarations = slice_set s.declarations d.0 (record row { entry = q.entry_to class e }) } ])
    go None there is = same (own_of s)
    go (Some row) there is =
        let held : row.entry ≡ e = cc in
        own_set s.blocks s.declarations d.0 row (record row { entry = q.entry_to class e }) there refl (λ h. to_kept s class e (subst (λ z. brought s.blocks z ≡ true) held h))

to_quiet : (s : Tables) (d : DeclNo) (class : Option DeclNo) → Quiet s (q.qualified_to s d class)
to_quiet s d None = same (own_of s)
to_quiet s d (Some class) = go (entry_of s d) refl
  where
    go : (o : Option Entry) → entry_of s d ≡ o → Quiet s (q.declaration_to s d class o)
    go None e = same (own_of s)
    go (Some x) e = entry_quiet s d class x e

qualified_quiet : (s : Tables) → Quiet s (qualified s)
unfolding qualified with_qualification
qualified_quiet s = run_quiet with_qualification (λ s. s) (λ s x. to_quiet s x.declaration (q.class_written s x)) s s.qualifications

-- ---- connections

at_quiet : (s : Tables) (block class : Option ℕ) → Quiet s (c.connected_at s block class)
at_quiet s None class = same (own_of s)
at_quiet s (Some block) class = base_quiet s block class

abbrev tables_in : ConnectingOf → Tables
tables_in x = x.tables

connecting_quiet : (x : ConnectingOf) (e : Connecting) → Quiet x.tables (connecting x e).tables
unfolding connecting
connecting_quiet x (c.Looks object) = same (own_of x.tables)
connecting_quiet x (c.Names class) = same (own_of x.tables)
connecting_quiet x (c.Connects opening) = at_quiet x.tables _ x.next

connected_quiet : (s : Tables) (program : Program) → Quiet s (connected s program)
unfolding connected
connected_quiet s program = run_quiet connecting tables_in connecting_quiet (record { tables = s; next = None }) (program_events connections program)

pub completed_quiet : (s : Tables) (program : Program) → Quiet s (completed s program)
unfolding completed
completed_quiet s program = along (connected_quiet (qualified (prefixed s)) program) (along (qualified_quiet (prefixed s)) (prefixed_quiet s))
