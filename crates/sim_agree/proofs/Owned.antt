-- The text of a procedure and of a class belongs to its declaration: what each mark does to that.
use Rattle.std.proofs.Common.{◌≡◌, ◌<◌, ◌⊎◌, inl, inr, ℕ, Bool, true, false, List, [], ◌∷◌, ◌++◌, length, Option, Some, None, refl, sym, ap, ◌∙◌, subst, arith}
use Rattle.std.specs.Prelude.{nat_eq, nat_lt, slice_get}
use Rattle.std.proofs.lemmas.Option.{slice_get_within}
use Rattle.std.proofs.lemmas.Bool.Decides.{nat_tests}
use Rattle.sim_base.specs.declared.numbering.DeclNo.{DeclNo}
use Rattle.sim_base.specs.declared.rule.Rule.{Rule}
use Rattle.sim_base.specs.declared.rule.Rule.TheVariants as r
use Rattle.sim_scope.specs.declared.scopes.Declaration.{Declaration}
use Rattle.sim_scope.specs.declared.types.BlockKind.{BlockKind}
use Rattle.sim_scope.specs.declared.types.Entry.{Entry}
use Rattle.sim_scope.specs.declared.types.Entry.TheVariants as entry
use Rattle.sim_scope.specs.declared.types.SimType.{SimType}
use Rattle.sim_scope.specs.declared.types.WrittenMode.{WrittenMode}
use Rattle.sim_scope.specs.Building.{BuildingOf, block_around, broken_if, closed, closed_at, level_in, most_levels, opened, owner_of, placed}
use Rattle.sim_scope.specs.Declare.{result_named}
use Rattle.sim_scope.specs.Tables.{BlockOf}
use Rattle.sim_scope.proofs.Kept.{kept_set, more_here, more_other}
use Rattle.sim_meaning.specs.Texts.{BlockText, ClassText, ConnectionText, PrefixedText, ProcedureText, StandardText, Text}
use Rattle.sim_agree.proofs.Fine.{owner_in, same_owner}
use Rattle.sim_agree.proofs.Steps.{Becomes, Step}
use Rattle.sim_agree.proofs.Marks.{last_cases}

-- the declaration of the procedure or the class whose block this is
abbrev pub OwnerIs : BuildingOf → (owner : Option DeclNo) → Entry → Type 0
OwnerIs b owner e = (d : DeclNo) × (row : Declaration) × (owner ≡ Some d) × (slice_get b.tables.declarations d.0 ≡ Some row) × (row.entry ≡ e)

abbrev pub OwnedText : BuildingOf → (owner : Option DeclNo) → (block : ℕ) → Text → Type 0
OwnedText b owner n (ProcedureText result h a) = OwnerIs b owner (entry.Procedure (result_named result) n)
OwnedText b owner n (ClassText prefix h ds ss) = OwnerIs b owner (entry.Class n)
OwnedText b owner n (StandardText which) = OwnerIs b owner (entry.Class n)
OwnedText b owner n _ = Unit {0}

abbrev pub Owned : BuildingOf → List Text → Type 0
Owned b ts = (n : ℕ) (x : Text) → slice_get ts n ≡ Some x → OwnedText b (owner_in (slice_get b.tables.blocks n)) n x

-- what no specification and no match changes
abbrev pub Firm : Entry → Type 0
Firm e = ((w : Option WrittenMode) → e ≡ entry.Unspecified w → ⊥) × ((result : Option SimType) → e ≡ entry.Virtual result None → ⊥)

pub text_moves : (b c : BuildingOf) (o p : Option DeclNo) (n : ℕ) (x : Text) → ((e : Entry) → Firm e → OwnerIs b o e → OwnerIs c p e) → OwnedText b o n x → OwnedText c p n x
text_moves b c o p n (ProcedureText result h a) f q = f (entry.Procedure (result_named result) n) (λ w e. cc, λ given e. cc) q
text_moves b c o p n (ClassText prefix h ds ss) f q = f (entry.Class n) (λ w e. cc, λ given e. cc) q
text_moves b c o p n (BlockText i ds ss) f q = tt
text_moves b c o p n ConnectionText f q = tt
text_moves b c o p n (PrefixedText class es ds ss) f q = tt
text_moves b c o p n (StandardText which) f q = f (entry.Class n) (λ w e. cc, λ given e. cc) q

pub owned_step : (b c : BuildingOf) (New : ℕ → Declaration → Type 0) (ts : List Text) → Step b c New → Owned b ts → Owned c ts
owned_step b c New ts s v n x is = text_moves b c _ _ n x owner (v n x is)
  where
    owner : (e : Entry) → Firm e → OwnerIs b (owner_in (slice_get b.tables.blocks n)) e → OwnerIs c (owner_in (slice_get c.tables.blocks n)) e
    owner e firm q =
        let new = s.stays q.0.0 q.1 q.3 in
        (q.0, new.0, same_owner (slice_get c.tables.blocks n) (slice_get b.tables.blocks n) (s.fixes n) ∙ q.2, new.1, go q.1 new.0 q.4 new.2.entry)
      where
        go : (old row : Declaration) → old.entry ≡ e → Becomes old.entry row.entry → row.entry ≡ e
        go old row f (inl g) = g ∙ f
        go old row f (inr (inl g)) = absurd (firm.0 g.0 (sym f ∙ g.1))
        go old row f (inr (inr g)) = absurd (firm.1 g.0 (sym f ∙ g.2))

owned_if : (a : Bool) (c : BuildingOf) (token : ℕ) (rule : Rule) (ts : List Text) → Owned c ts → Owned (broken_if a c token rule) ts
owned_if true c token rule ts v = v
owned_if false c token rule ts v = v

begun_owned : (b c : BuildingOf) (new : BlockOf) (ts : List Text) (x : Text) → c.tables.declarations ≡ b.tables.declarations → c.tables.blocks ≡ b.tables.blocks ++ new ∷ [] → length b.tables.blocks ≡ length ts → OwnedText b new.owner (length b.tables.blocks) x → Owned b ts → Owned c (ts ++ x ∷ [])
begun_owned b c new ts x rows blocks size premise v n y is = go (last_cases ts x n y is)
  where
    go : (slice_get ts n ≡ Some y) ⊎ ((n ≡ length ts) × (x ≡ y)) → OwnedText c (owner_in (slice_get c.tables.blocks n)) n y
    go (inl e) =
        let lt : n < length ts = slice_get_within ts n y e in
        let other : slice_get (b.tables.blocks ++ new ∷ []) n ≡ slice_get b.tables.blocks n = more_other b.tables.blocks new n (let P : nat_eq n (length b.tables.blocks) ≡ false = grind (arith, nat_tests) in P) in
        text_moves b c _ _ n y (λ e firm q. (q.0, q.1, ap (λ z. owner_in (slice_get z n)) blocks ∙ ap owner_in other ∙ q.2, ap (λ z. slice_get z q.0.0) rows ∙ q.3, q.4)) (v n y e)
    go (inr e) =
        let here : n ≡ length b.tables.blocks = e.0 ∙ sym size in
        subst (λ m. OwnedText c (owner_in (slice_get c.tables.blocks m)) m y) (sym here)
        (subst (λ z. OwnedText c (owner_in (slice_get c.tables.blocks (length b.tables.blocks))) (length b.tables.blocks) z) e.1
        (text_moves b c _ _ (length b.tables.blocks) x
        (λ e firm q. (q.0, q.1, ap (λ z. owner_in (slice_get z (length b.tables.blocks))) blocks ∙ ap owner_in (more_here b.tables.blocks new) ∙ q.2, ap (λ z. slice_get z q.0.0) rows ∙ q.3, q.4)) premise))

pub opened_owned : (b : BuildingOf) (k : BlockKind) (text first : ℕ) (ts : List Text) (x : Text) → length b.tables.blocks ≡ length ts → OwnedText b (owner_of k b.latest) (length b.tables.blocks) x → Owned b ts → Owned (opened b k text first) (ts ++ x ∷ [])
opened_owned b k text first ts x size premise v =
    let new : BlockOf = record { kind = k; first = first; end = first; encloser = b.current; level = level_in k (block_around b.tables b.current); owner = owner_of k b.latest; formals = 0; inner = None; prefix = None; base = None; standard = None; names = []; numbers = []; has_class = false; brought_names = []; brought = []; protected = []; hidden = [] } in
    let c : BuildingOf = record b { tables = record b.tables { blocks = b.tables.blocks ++ new ∷ []; places = (placed b.tables b.current first).places }; current = Some (length b.tables.blocks) } in
    owned_if (nat_lt most_levels (level_in k (block_around b.tables b.current))) c text r.TooManyLevels (ts ++ x ∷ []) (begun_owned b c new ts x refl refl size premise v)

pub closed_owned : (b : BuildingOf) (end : ℕ) (o : Option ℕ) (ts : List Text) → Owned b ts → Owned (closed b end o) ts
closed_owned b end None ts v = v
closed_owned b end (Some m) ts v = go (slice_get b.tables.blocks m) refl
  where
    go : (o : Option BlockOf) → slice_get b.tables.blocks m ≡ o → Owned (closed_at b end m o) ts
    go None at = v
    go (Some row) at = λ n x is. text_moves b (closed_at b end m (Some row)) (owner_in (slice_get b.tables.blocks n)) (owner_in (slice_get (closed_at b end m (Some row)).tables.blocks n)) n x (λ e firm q. (q.0, q.1, kept_set owner_in b.tables.blocks m row (record row { end = end }) at refl n ∙ q.2, q.3, q.4)) (v n x is)
