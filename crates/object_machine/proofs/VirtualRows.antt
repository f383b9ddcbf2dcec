-- Matches of virtuals, and procedures in hand.
use Rattle.std.proofs.Common.{◌≡◌, ℕ, ◌+◌, ◌<◌, ◌≤◌, List, [], length, drop, sym, refl, ap, ◌∙◌, arith}
use Rattle.std.proofs.lemmas.List.{drop_all, drop_more}
use Rattle.std.specs.Prelude.{ℤ, Bool, true, false, ◌==◌, if◌then◌else◌, Option, Some, None, slice_get, slice_index_or}
use Rattle.sim_base.specs.declared.run_error.RunError.TheVariants.{NoMatch}
use Rattle.sim_code.specs.declared.code.BlockKind.TheVariants as block
use Rattle.sim_code.specs.declared.code.CodeActual.{CodeActual}
use Rattle.sim_code.specs.declared.code.Match.{Match}
use Rattle.sim_code.specs.Classes.{class_numbered, class_of}
use Rattle.sim_code.specs.Code.{BlockOf, ClassOf, CodeOf}
use Rattle.sim_code.specs.Events.{having, no_rule, pop_many, popping, stopping, when}
use Rattle.sim_code.specs.Formals.{of_procedure, procedure_of}
use Rattle.sim_code.specs.Instances.{is_live}
use Rattle.sim_code.specs.Machine.{Activation, Frames, Machine, Value, index, procedure_in, same_kind}
use Rattle.sim_code.specs.Outcome.{Run, RunFault, World}
use Rattle.sim_code.specs.Rows.{checking}
use Rattle.sim_code.specs.Virtuals.{match_found, matched, matched_in, matching, record_of}
use Rattle.frame_arena.specs.declared.slot.Slot.{Slot}
use Rattle.frame_arena.specs.declared.slot.SlotKind.{SlotKind}
use Rattle.frame_arena.specs.declared.slot.SlotKind.TheVariants as k
use Rattle.frame_arena.specs.Slots.{count_of, value_by, value_of}
use Rattle.object_machine.specs.Checking.{held_against}
use Rattle.object_machine.specs.Matching.{value_called}
use Rattle.object_machine.proofs.Having.{having_none, having_some}

-- ---- the first entry for a virtual

pub matched_here : (v : ℕ) (xs : List Match) (i : ℕ) (d : Match) → i < length xs → (slice_index_or xs i d).virtual_number ≡ v → matched v (drop i xs) ≡ Some (slice_index_or xs i d).block
matched_here v xs i d h e =
    let same : ((slice_index_or xs i d).virtual_number == v) ≡ true = grind (arith, e) in
    ap (matched v) (drop_more xs i d h) ∙ ap (λ b. if b then Some (slice_index_or xs i d).block else matched v (drop (i + 1) xs)) same

pub matched_behind : (v : ℕ) (xs : List Match) (i : ℕ) (d : Match) → i < length xs → ((slice_index_or xs i d).virtual_number ≡ v → ⊥) → matched v (drop i xs) ≡ matched v (drop (i + 1) xs)
matched_behind v xs i d h e =
    let other : ((slice_index_or xs i d).virtual_number == v) ≡ false = grind (arith, e) in
    ap (matched v) (drop_more xs i d h) ∙ ap (λ b. if b then Some (slice_index_or xs i d).block else matched v (drop (i + 1) xs)) other

pub none_matched : (v : ℕ) (xs : List Match) (i : ℕ) → length xs ≤ i → matched v (drop i xs) ≡ None
none_matched v xs i h = ap (matched v) (drop_all i xs h)

-- ---- the match in the class of an object

module _ (code : CodeOf) (m : Frames) (v j : ℕ) where
  pub no_class_there : None ≡ class_of code m j → None ≡ match_found code m v j
  unfolding match_found
  no_class_there e = ap (λ q. matched_in v (record_of code q)) e

  pub no_record_there : (c : ℕ) → Some c ≡ class_of code m j → class_numbered code c ≡ None → None ≡ match_found code m v j
  unfolding match_found
  no_record_there c e e2 = ap (matched_in v) (sym e2) ∙ ap (λ q. matched_in v (record_of code q)) e

  pub record_matched : (c : ℕ) (x : ClassOf) (r : Option ℕ) → Some c ≡ class_of code m j → class_numbered code c ≡ Some x → r ≡ matched v x.matches → Some r ≡ match_found code m v j
  unfolding match_found
  record_matched c x r e e2 e3 = ap (λ q. Some q) e3 ∙ ap (matched_in v) (sym e2) ∙ ap (λ q. matched_in v (record_of code q)) e

module _ (line : ℕ) (found : Option (Option ℕ)) (o : World) (go : ℕ → Run Machine) where
  pub match_unknown : None ≡ found → matching line found o go ≡ no_rule o
  unfolding matching having
  match_unknown e = ap (λ x. matching line x o go) (sym e)

  pub match_missing : Some None ≡ found → matching line found o go ≡ stopping (RunFault NoMatch line) o
  unfolding matching having
  match_missing e = ap (λ x. matching line x o go) (sym e)

  pub match_there : (n : ℕ) → Some (Some n) ≡ found → matching line found o go ≡ go n
  unfolding matching having
  match_there n e = ap (λ x. matching line x o go) (sym e)

-- ---- the procedure that a slot has

pub procedure_is : (s : Slot) → s.kind ≡ k.Procedure → Some (s.more, count_of s.«data») ≡ procedure_in (value_of s)
procedure_is s e = ap (λ j. procedure_in (value_by j s)) (sym e)

other_by : (j : SlotKind) (s : Slot) → (j ≡ k.Procedure → ⊥) → None ≡ procedure_in (value_by j s)
other_by k.Empty s h = refl
other_by k.Integer s h = refl
other_by k.Truth s h = refl
other_by k.Character s h = refl
other_by k.Text s h = refl
other_by k.Nothing s h = refl
other_by k.Object s h = refl
other_by k.Main s h = refl
other_by k.Link s h = refl
other_by k.Cell s h = refl
other_by k.Element s h = refl
other_by k.Image s h = refl
other_by k.Array s h = refl
other_by k.Procedure s h = absurd (h refl)
other_by k.Thunk s h = refl

pub no_procedure : (s : Slot) → (s.kind ≡ k.Procedure → ⊥) → None ≡ procedure_in (value_of s)
no_procedure s h = other_by s.kind s h

-- ---- the procedure in hand against a list

pub when_holds : (b : Bool) (o : World) (r : Run Machine) → b ≡ true → when b o r ≡ r
unfolding when
when_holds b o r e = ap (λ c. if c then r else no_rule o) e

pub when_fails : (b : Bool) (o : World) (r : Run Machine) → b ≡ false → when b o r ≡ no_rule o
unfolding when
when_fails b o r e = ap (λ c. if c then r else no_rule o) e

module _ (code : CodeOf) (o : World) (m : Frames) (a : Activation) (below : List Activation) (line : ℕ) where
  abbrev pub Held : List CodeActual → ℕ × ℕ → BlockOf → Run Machine
  Held actuals q b = held_against code o m a below line q.1 b.formals actuals

  abbrev pub HeldBlock : List CodeActual → ℕ × ℕ → Run Machine
  HeldBlock actuals q = having (slice_get code.blocks q.0) o (λ b. when (same_kind b.kind block.Procedure) o (Held actuals q b))

  abbrev pub HeldValue : List CodeActual → Value → List Value → Run Machine
  HeldValue actuals v rest = having (procedure_in v) o (λ q. HeldBlock actuals q)

  abbrev pub HeldList : ℕ → Run Machine
  HeldList n = having (slice_get code.actual_lists n) o (λ actuals. popping a.stack o (λ v rest. HeldValue actuals v rest))

  pub checking_is : (z : ℤ) → checking code o m a below line z ≡ index z o (λ n. HeldList n)
  checking_is z = refl

-- ---- the procedure of a number

module _ (code : CodeOf) (k : ℕ) (o : World) (r : Run Machine) where
  abbrev Procedure_then : Run Machine
  Procedure_then = having (procedure_of code k) o (λ _. r)

  pub procedure_missing : slice_get code.blocks k ≡ None → Procedure_then ≡ no_rule o
  procedure_missing e = having_none (procedure_of code k) o (λ _. r) (sym (ap of_procedure e))

  module _ (b : BlockOf) (e : slice_get code.blocks k ≡ Some b) where
    pub procedure_other : same_kind b.kind block.Procedure ≡ false → Procedure_then ≡ no_rule o
    procedure_other h = having_none (procedure_of code k) o (λ _. r) (sym (ap of_procedure e ∙ ap (λ c. if c then Some b else None) h))

    pub procedure_there : same_kind b.kind block.Procedure ≡ true → Procedure_then ≡ r
    procedure_there h = having_some (procedure_of code k) b o (λ _. r) (sym (ap of_procedure e ∙ ap (λ c. if c then Some b else None) h))

-- ---- what a call of the procedure in hand finds on the operand stack

module _ (m : Frames) (z : ℤ) (values : List Value) (o : World) (go : List Value → List Value → ℕ × ℕ → Run Machine) where
  abbrev pub InHand : List Value → List Value → ℕ × ℕ → Run Machine
  InHand vs rest q = when (is_live m q.1) o (go vs rest q)

  abbrev pub ValueBelow : List Value → List Value → Run Machine
  ValueBelow vs rest = popping rest o (λ v rest. having (procedure_in v) o (λ q. InHand vs rest q))

  abbrev pub ValuesOver : ℕ → Run Machine
  ValuesOver n = pop_many n [] values o (λ vs rest. ValueBelow vs rest)

  pub values_over : value_called m z values o go ≡ index z o (λ n. ValuesOver n)
  values_over = refl
