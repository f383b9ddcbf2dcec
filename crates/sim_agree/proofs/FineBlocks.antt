-- Behind the end and the beginning of a block the tables still agree with the texts.
use Rattle.std.proofs.Common.{◌≡◌, ◌<◌, ℕ, zero, suc, Bool, true, false, List, [], ◌∷◌, ◌++◌, length, Option, Some, None, refl, sym, ap, ◌∙◌, subst, arith}
use Rattle.std.specs.Prelude.{nat_lt, slice_get, slice_set}
use Rattle.std.proofs.lemmas.Option.{slice_get_within}
use Rattle.sim_base.specs.declared.rule.Rule.{Rule}
use Rattle.sim_base.specs.declared.rule.Rule.TheVariants as r
use Rattle.sim_scope.specs.declared.types.BlockKind.{BlockKind}
use Rattle.sim_scope.specs.Building.{BuildingOf, Mark, block_around, broken_if, closed, closed_at, level_in, most_levels, opened, owner_of, placed}
use Rattle.sim_scope.specs.Access.{around}
use Rattle.sim_scope.specs.Source.{level_in as level_of_row}
use Rattle.sim_scope.specs.Tables.{BlockOf, deeper}
use Rattle.sim_meaning.specs.Texts.{Text}
use Rattle.sim_agree.proofs.Groups.{Open, item}
use Rattle.sim_agree.proofs.Steps.{Nothing, Step, same_step}
use Rattle.sim_agree.proofs.Marks.{row_step}
use Rattle.sim_agree.proofs.Fine.{Agree, Fine, KindIs, KindOf, Ordinary, Rows, Stack, some_eq, stack_kept, With, begun_fine, step_fine, step_keeps, step_rows}

closed_row : (b : BuildingOf) (end n : ℕ) (o : Option BlockOf) (ts : List Text) (x : Text) (os : List Open) → b.current ≡ Some n → slice_get b.tables.blocks n ≡ o → slice_get ts n ≡ Some x → Stack b.tables.blocks ts (around (slice_get b.tables.blocks n)) os
    → Agree b ts (item x [] ∷ os) → Agree (closed_at b end n o) ts os
closed_row b end n None ts x os cur at is under a = absurd (no_kind (subst (λ z. KindIs z (Some x)) at (subst (λ z. KindIs (slice_get b.tables.blocks n) z) is (a.fine.kinds n))))
  where
    no_kind : KindIs None (Some x) → ⊥
    no_kind k = k
closed_row b end n (Some row) ts x os cur at is under a =
    let new : BlockOf = record row { end = end } in
    let c : BuildingOf = record b { tables = record b.tables { blocks = slice_set b.tables.blocks n new } } in
    let s : Step b c Nothing = row_step b b Nothing n row new cur at refl refl refl refl refl refl (same_step b b Nothing refl refl) in
    let f : Fine c ts (item x [] ∷ os) = step_fine b c Nothing s ts (item x [] ∷ os) a.fine in
    let g : Rows c ts = step_rows b c Nothing s ts (λ d r q. absurd q) a.rows in record {
      fine = record { size = f.size; stack = subst (λ z. Stack c.tables.blocks ts z os) (ap around at) (stack_kept b.tables.blocks c.tables.blocks ts ts (step_keeps b c Nothing s ts) os (around (slice_get b.tables.blocks n)) under); nested = f.nested; levels = f.levels; tops = f.tops; kinds = f.kinds; listed = f.listed; evens = f.evens; finds = f.finds; own = f.own; rising = f.rising; based = f.based; bare = record { blocks = f.bare.blocks }; known = f.known; standards = f.standards; headed = f.headed; textless = f.textless; brought = f.brought; named = f.named };
      rows = g;
    }

pub closed_agrees : (b : BuildingOf) (end : ℕ) (ts : List Text) (x : Text) (os : List Open) → Agree b ts (item x [] ∷ os) → Agree (closed b end b.current) ts os
closed_agrees b end ts x os a =
    let h = a.fine.stack in
    subst (λ o. Agree (closed b end o) ts os) (sym h.1) (closed_row b end h.0 (slice_get b.tables.blocks h.0) ts x os h.1 refl h.2 h.3 a)

-- ---- a block begins

if_agrees : (c : Bool) (b : BuildingOf) (token : ℕ) (rule : Rule) (ts : List Text) (os : List Open) → Agree b ts os → Agree (broken_if c b token rule) ts os
if_agrees true b token rule ts os a = record { fine = record { size = a.fine.size; stack = a.fine.stack; nested = a.fine.nested; levels = a.fine.levels; tops = a.fine.tops; kinds = a.fine.kinds; listed = a.fine.listed; evens = a.fine.evens; finds = a.fine.finds; own = a.fine.own; rising = a.fine.rising; based = a.fine.based; bare = a.fine.bare; known = a.fine.known; standards = a.fine.standards; headed = a.fine.headed; textless = a.fine.textless; brought = a.fine.brought; named = a.fine.named }; rows = a.rows }
if_agrees false b token rule ts os a = a

abbrev pub fresh : BuildingOf → BlockKind → ℕ → BlockOf
fresh b k first = record { kind = k; first = first; end = first; encloser = b.current; level = level_in k (block_around b.tables b.current); owner = owner_of k b.latest; formals = 0; inner = None; prefix = None; base = None; standard = None; names = []; numbers = []; has_class = false; brought_names = []; brought = []; protected = []; hidden = [] }

-- the block around an open block is there
level_new : (k : BlockKind) (bs : List BlockOf) (u : ℕ) → u < length bs → level_in k (slice_get bs u) ≡ deeper k (level_of_row (slice_get bs u))
level_new k [] u lt = absurd (omega arith)
level_new k (b ∷ bs) zero lt = refl
level_new k (b ∷ bs) (suc u) lt = let e : length (b ∷ bs) ≡ suc (length bs) = omega arith in level_new k bs u (omega arith)

-- the innermost open block is there
pub current_within : (b : BuildingOf) (ts : List Text) (os : List Open) → Fine b ts os → (u : ℕ) → b.current ≡ Some u → u < length b.tables.blocks
current_within b ts os f u is = go os f.stack
  where
    go : (os : List Open) → Stack b.tables.blocks ts b.current os → u < length b.tables.blocks
    go [] h = absurd (let e : None ≡ Some u = sym h ∙ is in cc)
    go (o ∷ os) h =
        let same : h.0 ≡ u = some_eq h.0 u (sym h.1 ∙ is) in
        let lt : h.0 < length ts = slice_get_within ts h.0 o.text h.2 in
        let e : length b.tables.blocks ≡ length ts = f.size in omega arith

pub opened_agrees : (b : BuildingOf) (k : BlockKind) (text first : ℕ) (ts : List Text) (x : Text) (owed : List Mark) (os : List Open) → KindOf k x → Ordinary x
    → Fine b ts os → Rows (With b (fresh b k first) (placed b.tables b.current first).places ts x) (ts ++ x ∷ []) → Agree (opened b k text first) (ts ++ x ∷ []) (item x owed ∷ os)
opened_agrees b k text first ts x owed os fits ordinary f g =
    if_agrees (nat_lt most_levels (level_in k (block_around b.tables b.current))) (With b (fresh b k first) (placed b.tables b.current first).places ts x) text r.TooManyLevels (ts ++ x ∷ []) (item x owed ∷ os) (record {
      fine = begun_fine b (fresh b k first) (placed b.tables b.current first).places ts x owed os refl refl refl
          (λ u cur. subst (λ z. level_in k (block_around b.tables z) ≡ deeper k (level_of_row (slice_get b.tables.blocks u))) (sym cur) (level_new k b.tables.blocks u (current_within b ts os f u cur))) (λ none. ap (λ z. level_in k (block_around b.tables z)) none) fits refl refl refl refl ordinary f;
      rows = g;
    })
