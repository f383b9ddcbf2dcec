-- What is found that `simulation` brought: its own attributes are those of a block that it is in front of, and the class `process` has its name.
use Rattle.std.proofs.Common.{◌≡◌, inl, inr, ℕ, true, false, List, length, Option, Some, None, refl, sym, ap, ◌∙◌, subst}
use Rattle.std.proofs.lemmas.Slice.Eq.{bytes_eq-Decides}
use Rattle.std.specs.Prelude.{position, slice_get}
use Rattle.std.specs.Option.{option_or}
use Rattle.std.specs.Str.{bytes_eq}
use Rattle.std.specs.List.{position_or_len}
use Rattle.sim_base.specs.declared.numbering.DeclNo.{DeclNo}
use Rattle.sim_values.specs.declared.standard.Standard.{Standard}
use Rattle.sim_agree.specs.Order.{InOrder}
use Rattle.sim_scope.specs.declared.scopes.Declaration.{Declaration}
use Rattle.sim_scope.specs.declared.scopes.Denotation.TheVariants as denotation
use Rattle.sim_scope.specs.declared.standard.StandardName.{StandardName}
use Rattle.sim_scope.specs.declared.types.Entry.TheVariants as entry
use Rattle.sim_scope.specs.declared.types.SimType.{SimType}
use Rattle.sim_scope.specs.declared.types.StandardClass.{StandardClass}
use Rattle.sim_scope.specs.declared.types.StandardClass.TheVariants as standard
use Rattle.sim_scope.specs.declared.types.StandardPrefix.{StandardPrefix}
use Rattle.sim_scope.specs.declared.types.StandardPrefix.TheVariants as prefix
use Rattle.sim_scope.specs.Access.{block_at, encloser}
use Rattle.sim_scope.specs.Building.{name_of, typed_or_none}
use Rattle.sim_scope.specs.Calls.{attribute_in, detach_or_none}
use Rattle.sim_scope.specs.Levels.{is_simulation, is_simulation_block, standard_in}
use Rattle.sim_scope.specs.Scopes.{binding, brought_by, brought_in, declared_or_standard, entry_is, entry_of, is_virtual, level_shows, lookup, numbered, represented, seen, shown}
use Rattle.sim_scope.specs.Source.{Source, block_of, block_of_row}
use Rattle.sim_scope.specs.Standard.{parameter_of, result_of}
use Rattle.sim_scope.specs.Tables.{BlockOf, Tables}
use Rattle.sim_code.specs.Sets.{is_attribute_name}
use Rattle.sim_code.specs.Simulations.{is_simulation_name}
use Rattle.sim_meaning.specs.Texts.{StandardText, text}
use Rattle.sim_sound.specs.Expressions.{ProcessClassThere}
use Rattle.sim_agree.specs.TablesOf.{TablesOf}
use Rattle.sim_agree.proofs.ClassBlocks as blocks
use Rattle.sim_agree.proofs.ClassBlocks.{brought_standard, from_level, shown_level}
use Rattle.sim_agree.proofs.Latest.{lookup_among}
use Rattle.sim_agree.proofs.Fine.{OfSimulation, name_there}
use Rattle.sim_agree.proofs.StandardPrefixes.{InFront, one_in_front}
use Rattle.sim_agree.proofs.Headings as headings
use Rattle.sim_agree.proofs.StandardRows as rows
use Rattle.sim_agree.proofs.StandardRows.{names_apart}
use Rattle.sim_agree.proofs.Steps.{found_at}
use Rattle.sim_agree.proofs.Tables as t
use Rattle.sim_agree.proofs.Tables.{Bs, Ts}
use Rattle.sim_agree.proofs.Unprefixed.{Named, brings_of, brought_stands, declared_is, seen_there, stands_alone}

some_same : {A : Type 0} (a b : A) → Some a ≡ Some b → a ≡ b
some_same a b e = cc

-- what is brought has the name by which it is found
brought_name : (T : Tables) → ((k : ℕ) → Named T.declarations (brings_of (slice_get T.blocks k))) → (k : ℕ) (name : List ℕ) (d : DeclNo) → brought_by T k name ≡ Some d → (row : Declaration) × (slice_get T.declarations d.0 ≡ Some row) × (row.name ≡ name)
unfolding brought_by
brought_name T named k name d e = go (slice_get T.blocks k) refl e
  where
    found : (row : BlockOf) → slice_get T.blocks k ≡ Some row → numbered row.brought (position (bytes_eq name) row.brought_names) ≡ Some d → (x : Declaration) × (slice_get T.declarations d.0 ≡ Some x) × (x.name ≡ name)
    found row at f =
        let q = found_at (bytes_eq name) row.brought_names row.brought d f in
        let n = name_there (bytes_eq name) row.brought_names q.0 in
        let named_row : Named T.declarations (brings_of (Some row)) = subst (λ o. Named T.declarations (brings_of o)) at (named k) in
        let x = named_row (position_or_len (bytes_eq name) row.brought_names) n.0 d n.1 q.1 in
        (x.0, x.1, x.2 ∙ sym ((bytes_eq-Decides name n.0).0 n.2))

    of_row : (row : BlockOf) → slice_get T.blocks k ≡ Some row → (p : Option StandardPrefix) → (elim p [ None ↦ None | Some which ↦ numbered row.brought (position (bytes_eq name) row.brought_names) ]) ≡ Some d → (x : Declaration) × (slice_get T.declarations d.0 ≡ Some x) × (x.name ≡ name)
    of_row row at None f = absurd (cc)
    of_row row at (Some which) f = found row at f

    go : (o : Option BlockOf) → slice_get T.blocks k ≡ o → brought_in o name ≡ Some d → (x : Declaration) × (slice_get T.declarations d.0 ≡ Some x) × (x.name ≡ name)
    go None at f = absurd (cc)
    go (Some row) at f = of_row row at row.standard f

module _ (s : Source) (of : TablesOf s) (order : InOrder s.program) where
  -- what a level shows, and does not list, is brought into it
  level_brought : (from : Option ℕ) (l : ℕ) (name : List ℕ) (d : DeclNo) → level_shows s.tables from l name ≡ Some d → ((row : Declaration) → slice_get s.tables.declarations d.0 ≡ Some row → row.listed ≡ false) → brought_by s.tables l name ≡ Some d
  unfolding level_shows
  level_brought from l name d e hidden = go (seen s.tables from (lookup s.tables l name)) refl e
    where
      listed : lookup s.tables l name ≡ Some d → ⊥
      listed at = let q = blocks.listed_there s of order l d (lookup_among s.tables l name d at) in let z : true ≡ false = sym q.2 ∙ hidden q.0 q.1 in cc

      go : (o : Option DeclNo) → seen s.tables from (lookup s.tables l name) ≡ o → option_or o (brought_by s.tables l name) ≡ Some d → brought_by s.tables l name ≡ Some d
      go (Some f) at h = absurd (listed (seen_there s.tables (t.shows s of order) from (lookup s.tables l name) d (at ∙ h)))
      go None at h = h

  -- ---- attributes of `simulation`

  simulation_row_of : (d : DeclNo) (n : Standard) (given result : Option SimType) → entry_of s.tables d ≡ Some (entry.Attribute n given result) → is_simulation_name n ≡ true
      → (row : Declaration) × (slice_get s.tables.declarations d.0 ≡ Some row) × OfSimulation (Bs s of order) (Ts s of order) row
  simulation_row_of d n given result e is_name =
      let r = t.entry_row s of order d (entry.Attribute n given result) e in go r.0 r.1 r.2 (rows.attribute_is s of order d.0 r.0 r.1 n given result r.2)
    where
      go : (row : Declaration) → slice_get s.tables.declarations d.0 ≡ Some row → row.entry ≡ entry.Attribute n given result → rows.AttributeRow s of order row
          → (found : Declaration) × (slice_get s.tables.declarations d.0 ≡ Some found) × OfSimulation (Bs s of order) (Ts s of order) found
      go row at is (inr p) = (row, at, p)
      go row at is (inl p) = absurd (names_apart n (subst (λ z. is_attribute_name z ≡ true) (same_name p.name n (typed_or_none (Some p.first) (parameter_of p.name)) given (typed_or_none (Some p.first) (result_of p.name)) result (sym p.entry ∙ is)) p.is_attribute) is_name)
        where
          same_name : (a b : Standard) (g h q r : Option SimType) → entry.Attribute a g q ≡ entry.Attribute b h r → a ≡ b
          same_name a b g h q r z = cc

  level_simulates : (from : Option ℕ) (l : ℕ) (name : List ℕ) (d : DeclNo) (n : Standard) (given result : Option SimType) → level_shows s.tables from l name ≡ Some d → entry_of s.tables d ≡ Some (entry.Attribute n given result) → is_simulation_name n ≡ true
      → is_simulation_block s.tables (block_of s d) ≡ true
  unfolding is_simulation_block block_of
  level_simulates from l name d n given result e is is_name =
      let x = simulation_row_of d n given result is is_name in
      let p = x.2 in
      let by = level_brought from l name d e (λ row at. ap (λ (z : Declaration). z.listed) (some_same row x.0 (sym at ∙ x.1)) ∙ p.listed) in
      let w = brought_standard s.tables l name d by in
      let r = (brought_stands s.tables (t.shows s of order) l name d by).0 in
      let block : (x.0).block ≡ l = ap (λ (z : Declaration). z.block) (some_same x.0 r.0 (sym x.1 ∙ r.1)) ∙ r.2 in
      let h = t.headed_now s of order l w.0 w.1 in
      let front = (h.1).host in
      let same_text : front.0 ≡ (p.group).host.0 = some_same front.0 (p.group).host.0 (sym front.1 ∙ ap (slice_get (Ts s of order)) (sym block) ∙ (p.group).host.1) in
      let one : w.0 ≡ prefix.Simulation = one_in_front w.0 prefix.Simulation (p.group).host.0 (subst (InFront w.0) same_text front.2) (p.group).host.2 in
      ap (λ o. is_simulation (standard_in (slice_get s.tables.blocks (block_of_row o)))) x.1 ∙ ap (λ m. is_simulation (standard_in (slice_get s.tables.blocks m))) block ∙ ap is_simulation (w.1 ∙ ap Some one)

  -- as an identifier, and behind a dot
  pub found_simulates : (token : ℕ) (name : List ℕ) (d : DeclNo) (n : Standard) (given result : Option SimType) → binding s.tables token name ≡ Some (denotation.Declared d) → entry_of s.tables d ≡ Some (entry.Attribute n given result) → is_simulation_name n ≡ true
      → is_simulation_block s.tables (block_of s d) ≡ true
  found_simulates token name d n given result binds is is_name =
      let l = from_level s.tables (Some token) name d (block_at s.tables token) (declared_is s.tables token name d (ap (entry_is is_virtual) is) binds) in
      level_simulates (Some token) l.0 name d n given result l.1 is is_name

  pub attribute_simulates : (token block : ℕ) (name : List ℕ) (d : DeclNo) (n : Standard) (given result : Option SimType) → attribute_in s.tables token block name ≡ Some (denotation.Declared d) → entry_of s.tables d ≡ Some (entry.Attribute n given result) → is_simulation_name n ≡ true
      → is_simulation_block s.tables (block_of s d) ≡ true
  unfolding attribute_in shown
  attribute_simulates token block name d n given result e is is_name = go (shown s.tables (Some token) block name) (detach_or_none name) refl e
    where
      go : (o : Option DeclNo) (k : Option StandardName) → shown s.tables (Some token) block name ≡ o → declared_or_standard s.tables o k ≡ Some (denotation.Declared d) → is_simulation_block s.tables (block_of s d) ≡ true
      go (Some f) k at g =
          let same : f ≡ d = stands_alone s.tables f d (ap (entry_is is_virtual) is) (let h : represented s.tables f ≡ d = cc in h) in
          let l = shown_level s.tables (Some token) name d (length s.tables.blocks) block (at ∙ ap Some same) in
          level_simulates (Some token) l.0 name d n given result l.1 is is_name
      go None (Some k) at g = absurd (cc)
      go None None at g = absurd (cc)

  -- ---- the class `process`

  -- a standard class that is found has its name
  pub found_named : (token : ℕ) (name : List ℕ) (d : DeclNo) (k : ℕ) (which : StandardClass) → binding s.tables token name ≡ Some (denotation.Declared d) → entry_of s.tables d ≡ Some (entry.Class k) → text s k ≡ Some (StandardText which) → name ≡ name_of which
  found_named token name d k which binds is at =
      let l = from_level s.tables (Some token) name d (block_at s.tables token) (declared_is s.tables token name d (ap (entry_is is_virtual) is) binds) in
      let r = t.entry_row s of order d (entry.Class k) is in
      let own = rows.class_row_of s of order d.0 k which r.0 r.1 r.2 at in
      let by = level_brought (Some token) l.0 name d l.1 (λ row there. ap (λ (z : Declaration). z.listed) (some_same row r.0 (sym there ∙ r.1)) ∙ own.0) in
      let x = brought_name s.tables (t.named_now s of order) l.0 name d by in
      sym x.2 ∙ ap (λ (z : Declaration). z.name) (some_same x.0 r.0 (sym x.1 ∙ r.1)) ∙ own.1

  -- a class `process` that is found was brought by `simulation`
  pub process_found : (token : ℕ) (name : List ℕ) (d : DeclNo) (k : ℕ) → binding s.tables token name ≡ Some (denotation.Declared d) → entry_of s.tables d ≡ Some (entry.Class k) → text s k ≡ Some (StandardText standard.Process) → ProcessClassThere s k
  process_found token name d k binds is at =
      let l = from_level s.tables (Some token) name d (block_at s.tables token) (declared_is s.tables token name d (ap (entry_is is_virtual) is) binds) in
      let r = t.entry_row s of order d (entry.Class k) is in
      let own = rows.class_row_of s of order d.0 k standard.Process r.0 r.1 r.2 at in
      let by = level_brought (Some token) l.0 name d l.1 (λ row there. ap (λ (z : Declaration). z.listed) (some_same row r.0 (sym there ∙ r.1)) ∙ own.0) in
      let stands = (brought_stands s.tables (t.shows s of order) l.0 name d by).0 in
      let block : (r.0).block ≡ l.0 = ap (λ (z : Declaration). z.block) (some_same r.0 stands.0 (sym r.1 ∙ stands.1)) ∙ stands.2 in
      let around : encloser s.tables k ≡ Some (block_of s d) = (headings.classes s of order d k is).0.around in
      rows.process_in s of order k at l.0 (around ∙ ap Some (t.block_is s of order d r.0 r.1 ∙ block)) (brought_standard s.tables l.0 name d by)
