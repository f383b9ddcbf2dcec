-- Blocks by their number.
use Rattle.std.proofs.Common.{◌≡◌, ℕ, ◌∙◌, ap, sym, Some, None}
use Rattle.std.specs.Prelude.{ℤ, true, false, Option, slice_get}
use Rattle.sim_code.specs.Code.{BlockOf, CodeOf}
use Rattle.sim_code.specs.declared.code.BlockKind.{BlockKind}
use Rattle.sim_code.specs.declared.instr.Lined.{Lined}
use Rattle.sim_code.specs.Events.{having, no_rule, when}
use Rattle.sim_code.specs.Machine.{Machine, block_at, index, number, same_kind}
use Rattle.sim_code.specs.Outcome.{World, Run}

module _ (code : CodeOf) (kind : BlockKind) (z : ℤ) (o : World) (go : ℕ → BlockOf → Lined → Run Machine) where
  abbrev Entry : ℕ → BlockOf → Run Machine
  Entry k b = having (slice_get code.instrs b.entry) o (λ x. go k b x)

  abbrev Block : ℕ → Run Machine
  Block k = having (slice_get code.blocks k) o (λ b. when (same_kind b.kind kind) o (Entry k b))

  pub block_no_index : None ≡ number z → block_at code kind z o go ≡ no_rule o
  unfolding block_at index having
  block_no_index e = ap (λ n. having n o Block) (sym e)

  at_number : (k : ℕ) (q : Option BlockOf) → Some k ≡ number z → slice_get code.blocks k ≡ q → block_at code kind z o go ≡ having q o (λ b. when (same_kind b.kind kind) o (Entry k b))
  unfolding block_at index having
  at_number k q e e2 = ap (λ n. having n o Block) (sym e) ∙ ap (λ y. having y o (λ b. when (same_kind b.kind kind) o (Entry k b))) e2

  pub no_block : (k : ℕ) → Some k ≡ number z → slice_get code.blocks k ≡ None → block_at code kind z o go ≡ no_rule o
  unfolding having
  no_block k e e2 = at_number k None e e2

  pub other_kind : (k : ℕ) (b : BlockOf) → Some k ≡ number z → slice_get code.blocks k ≡ Some b → same_kind b.kind kind ≡ false → block_at code kind z o go ≡ no_rule o
  unfolding having when
  other_kind k b e e2 h = at_number k (Some b) e e2 ∙ ap (λ c. when c o (Entry k b)) h

  pub entry_is : (k : ℕ) (b : BlockOf) (q : Option Lined) → Some k ≡ number z → slice_get code.blocks k ≡ Some b → same_kind b.kind kind ≡ true → slice_get code.instrs b.entry ≡ q → block_at code kind z o go ≡ having q o (λ x. go k b x)
  unfolding having when
  entry_is k b q e e2 h e3 = at_number k (Some b) e e2 ∙ ap (λ c. when c o (Entry k b)) h ∙ ap (λ y. having y o (λ x. go k b x)) e3

some_same : {X : Type 0} (d a b : X) → Some a ≡ Some b → a ≡ b
some_same {X} d a b e = ap out e
  where
    out : Option X → X
    out None = d
    out (Some x) = x

pub same_found : {X : Type 0} (xs : Option X) (a b : X) → xs ≡ Some a → xs ≡ Some b → a ≡ b
same_found xs a b e e2 = some_same a a b (sym e ∙ e2)
