-- Procedures in hand, and their formal parameters: what is passed for one is held against its class, or copied, alike on both sides.
use Rattle.std.proofs.Common.{◌≡◌, ℕ, zero, suc, true, List, [], ◌∷◌, map, Option, Some, None, refl, sym, ap, ◌∙◌, subst}
use Rattle.std.specs.Prelude.{if◌then◌else◌, slice_get}
use Rattle.sim_base.specs.declared.limits.Limits.{Limits}
use Rattle.sim_scope.specs.declared.types.Formal.{Formal}
use Rattle.sim_scope.specs.declared.types.FormalKind.{FormalKind}
use Rattle.sim_scope.specs.declared.types.FormalKind.TheVariants as shape
use Rattle.sim_scope.specs.declared.types.Mode.{Mode}
use Rattle.sim_scope.specs.declared.types.Mode.TheVariants as mode
use Rattle.sim_scope.specs.declared.types.SimType.{SimType}
use Rattle.sim_scope.specs.declared.types.SimType.TheVariants as t
use Rattle.sim_scope.specs.Source.{Source}
use Rattle.sim_tree.specs.declared.stmt.TypeName.{TypeName}
use Rattle.sim_tree.specs.Syntax.{Heading, Statement}
use Rattle.sim_values.specs.declared.value.TextVal.{TextVal}
use Rattle.sim_values.specs.Plain.{Plain, Text}
use Rattle.sim_values.specs.Texts.{Making, copy}
use Rattle.sim_code.specs.declared.code.BlockKind.TheVariants as block_kind
use Rattle.sim_code.specs.Code.{BlockOf, CodeOf}
use Rattle.sim_code.specs.Events.{making_text, text_val, with_texts}
use Rattle.sim_code.specs.Formals.{ArrayCopied, Copied, NothingCopied, TextCopied, copying_value}
use Rattle.sim_code.specs.Formals as table
use Rattle.sim_code.specs.Machine.{Frames, Machine, Value, same_kind}
use Rattle.sim_code.specs.Machine as machine
use Rattle.sim_code.specs.Outcome.{Run, World}
use Rattle.sim_code.proofs.Lifts.{alike_computing, alike_copying, alike_equal, alike_taking}
use Rattle.sim_code.proofs.Simulation.{Alike}
use Rattle.sim_meaning.specs.Attributes.{parameter_qualification}
use Rattle.sim_meaning.specs.Checks.{copied_as, copied_for}
use Rattle.sim_meaning.specs.Entries.{formals_of}
use Rattle.sim_meaning.specs.Meaning.{formal_in, formal_in_hand, procedure_at as procedure_of_hand}
use Rattle.sim_meaning.specs.Pending.{Address, Instances, Val, array_in, plain, procedure_in}
use Rattle.sim_meaning.specs.Pending as meaning
use Rattle.sim_meaning.specs.Texts.{ProcedureText, text}
use Rattle.codegen_expr.specs.CodeExpr.{class_or_none}
use Rattle.codegen_expr.specs.Sites.{block_number}
use Rattle.codegen.specs.Compiled.{Compiled, code_formal, parameters_of}
use Rattle.sim_relate.proofs.Entering.{code_there}
use Rattle.sim_relate.proofs.Entries.{procedure_code}
use Rattle.sim_relate.proofs.Known.{Any, FixedOf, HandAt, Kind, LinkOf, LinkTo, Located, Named, NamedAt, OwnerOf, ProcedureHeld, Refers, RefersAt, StackAt, ValAt, actual_at, array_at, element_at, image_at, link_at, more_at, named_place, named_reference, named_value, none_at, plain_at, procedure_at, refers_cell, refers_element}

some_is : {A : Type 0} {x y : A} → Some x ≡ Some y → x ≡ y
some_is e = cc (e)

-- ---- the procedure in hand

module _ (s : Source) (code : CodeOf) (m : Instances) where
  -- the same procedure on both sides
  pub record HeldAlike (k j : ℕ) (x : Value) : Type 0 where
    pub held : ProcedureHeld s m k j
    pub is : machine.procedure_in x ≡ Some (block_number s k, j)

  value_held : (v : Val) (x : Value) → ValAt s code m v x → (k j : ℕ) → procedure_in v ≡ Some (k, j) → HeldAlike k j x
  value_held _ _ plain_at k j e = absurd (cc (e))
  value_held _ _ link_at k j e = absurd (cc (e))
  value_held _ _ array_at k j e = absurd (cc (e))
  value_held _ _ element_at k j e = absurd (cc (e))
  value_held _ _ image_at k j e = absurd (cc (e))
  value_held _ _ (actual_at h) k j e = absurd (cc (e))
  value_held _ _ (procedure_at {k} {j} h) k' j' e =
      let first : k ≡ k' = ap (λ (z : ℕ × ℕ). z.0) (some_is e) in
      let second : j ≡ j' = ap (λ (z : ℕ × ℕ). z.1) (some_is e) in
      subst (λ z. HeldAlike z j' (machine.ProcedureValue (block_number s k) j)) first (subst (λ z. HeldAlike k z (machine.ProcedureValue (block_number s k) j)) second (record { held = h; is = refl }))

  refers_held : (c : ℕ) (v : Val) (x : Value) → RefersAt s code m c v x → (k j : ℕ) → procedure_in v ≡ Some (k, j) → HeldAlike k j x
  refers_held c _ _ (refers_cell st own has varies declared) k j e = absurd (cc (e))
  refers_held c _ _ refers_element k j e = absurd (cc (e))

  pub hand_held : (kind : Kind) (v : Val) (x : Value) → HandAt s code m kind v x → (k j : ℕ) → procedure_in v ≡ Some (k, j) → HeldAlike k j x
  hand_held Any v x h k j e = value_held v x h k j e
  hand_held Located v x h k j e = absurd (cc (sym (ap procedure_in h.is_val) ∙ e))
  hand_held (LinkTo t) v x h k j e = absurd (cc (sym (ap procedure_in h.is_val) ∙ e))
  hand_held (OwnerOf t) v x h k j e = absurd (cc (sym (ap procedure_in h.is_val) ∙ e))
  hand_held (LinkOf i) v x h k j e = absurd (cc (sym (ap procedure_in h.0) ∙ e))
  hand_held (Refers c) v x h k j e = refers_held c v x h k j e
  hand_held (FixedOf d) v x h k j e = absurd (cc (sym (ap procedure_in h.is_val) ∙ e))
  hand_held Named v x h k j e = by_name v x h e
    where
      by_name : (v : Val) (x : Value) → NamedAt s code m v x → procedure_in v ≡ Some (k, j) → HeldAlike k j x
      by_name v x (named_value h) e = value_held v x h k j e
      by_name v x (named_place h) e = absurd (cc (sym (ap procedure_in h.is_val) ∙ e))
      by_name v x (named_reference c is h) e = refers_held c v x h k j e

  -- that below as many values
  pub record FoundAlike (n k j : ℕ) (stack : List Value) : Type 0 where
    pub held : ProcedureHeld s m k j
    pub is : table.procedure_at (slice_get stack n) ≡ Some (block_number s k, j)

  pub found_held : (n : ℕ) (ks : List Kind) (vals : List Val) (stack : List Value) → StackAt (HandAt s code m) ks vals stack → (k j : ℕ) → procedure_of_hand (slice_get vals n) ≡ Some (k, j) → FoundAlike n k j stack
  found_held n _ _ _ none_at k j e = absurd (cc (e))
  found_held zero _ _ _ (more_at {k = kind} {ks = ks} {v = v} {vals = vals} {x = x} {stack = stack} h more) k j e = let a = hand_held kind v x h k j e in record { held = a.held; is = a.is }
  found_held (suc n) _ _ _ (more_at {k = kind} {ks = ks} {v = v} {vals = vals} {x = x} {stack = stack} h more) k j e = let a = found_held n ks vals stack more k j e in record { held = a.held; is = a.is }

-- ---- its formal parameters

pub get_mapped : {A B : Type 0} (f : A → B) (xs : List A) (n : ℕ) (x : A) → slice_get xs n ≡ Some x → slice_get (map f xs) n ≡ Some (f x)
get_mapped f [] n x e = absurd (cc (e))
get_mapped f (y ∷ ys) zero x e = let same : y ≡ x = cc (e) in ap (λ z. Some (f z)) same
get_mapped f (y ∷ ys) (suc n) x e = get_mapped f ys n x e

module _ (s : Source) (code : CodeOf) (compiled : Compiled s code) where
  -- the record of a procedure, by its text
  pub record BlockHeld (k : ℕ) : Type 0 where
    pub block : BlockOf
    pub found : slice_get code.blocks (block_number s k) ≡ Some block
    pub is_procedure : same_kind block.kind block_kind.Procedure ≡ true
    pub formals : block.formals ≡ map (code_formal s code) (formals_of s k)

  pub block_is : (k : ℕ) (result : Option TypeName) (heading : Heading) (body : Statement) → text s k ≡ Some (ProcedureText result heading body) → BlockHeld k
  block_is k result heading body is =
      let c = code_there s code compiled k (ProcedureText result heading body) is refl in
      let has = procedure_code s code k result heading body c.block c.has in
      let heads = has.heads in
      record { block = c.block; found = c.found; is_procedure = ap (λ y. same_kind y block_kind.Procedure) heads.is_kind; formals = heads.formals ∙ ap (map (code_formal s code)) (ap (parameters_of s k) is) }

  pub procedure_there : (k : ℕ) (result : Option TypeName) (heading : Heading) (body : Statement) (is : text s k ≡ Some (ProcedureText result heading body)) → table.procedure_of code (block_number s k) ≡ Some (block_is k result heading body is).block
  procedure_there k result heading body is =
      let b = block_is k result heading body is in
      ap table.of_procedure b.found ∙ ap (λ c. if c then Some b.block else None) b.is_procedure

  pub block_held : {m : Instances} {k j : ℕ} → ProcedureHeld s m k j → BlockHeld k
  block_held {m} {k} {j} h = block_is k h.result h.heading h.body h.is

  pub block_of_held : {m : Instances} {k j : ℕ} (h : ProcedureHeld s m k j) → table.procedure_of code (block_number s k) ≡ Some (block_held h).block
  unfolding block_held
  block_of_held {m} {k} {j} h = procedure_there k h.result h.heading h.body h.is

  pub formal_found : {m : Instances} (ks : List Kind) (vals : List Val) (stack : List Value) → StackAt (HandAt s code m) ks vals stack → (n : ℕ) (f : Formal) → formal_in_hand s n vals ≡ Some f → table.formal_in_hand code n stack ≡ Some (code_formal s code f)
  unfolding formal_in_hand table.formal_in_hand
  formal_found {m} ks vals stack h n f e = by_procedure (procedure_of_hand (slice_get vals n)) refl e
    where
      by_procedure : (o : Option (ℕ × ℕ)) → procedure_of_hand (slice_get vals n) ≡ o → formal_in s n o ≡ Some f → table.formal_in n (table.procedure_block code (table.procedure_at (slice_get stack n))) ≡ Some (code_formal s code f)
      by_procedure None is e = absurd (cc (e))
      by_procedure (Some q) is e =
          let a = found_held s code m n ks vals stack h q.0 q.1 is in
          let b = block_held a.held in
          ap (λ z. table.formal_in n (table.procedure_block code z)) a.is ∙ ap (table.formal_in n) (block_of_held a.held) ∙ ap (λ fs. slice_get fs n) b.formals ∙ get_mapped (code_formal s code) (formals_of s q.0) n f e

-- ---- what is passed

pub held_class : (s : Source) (code : CodeOf) (f : Formal) → table.class_held (code_formal s code f) ≡ class_or_none s code (parameter_qualification s f.kind f.ty)
held_class s code f = by_kind f.kind
  where
    by_kind : (kind : FormalKind) → table.class_held (code_formal s code (record f { kind = kind })) ≡ class_or_none s code (parameter_qualification s kind f.ty)
    by_kind shape.Simple = refl
    by_kind shape.Array = refl
    by_kind shape.Procedure = refl

pub copied_same : (s : Source) (code : CodeOf) (f : Formal) → table.copied_for (code_formal s code f) ≡ copied_for f
unfolding copied_for
copied_same s code f = by_mode f.mode f.kind f.ty
  where
    by_type : (type : Option SimType) → table.copied_for (code_formal s code (record { mode = mode.ByValue; kind = shape.Simple; ty = type })) ≡ copied_as mode.ByValue shape.Simple type
    by_type None = refl
    by_type (Some t.Integer) = refl
    by_type (Some t.Boolean) = refl
    by_type (Some t.Character) = refl
    by_type (Some t.Text) = refl
    by_type (Some (t.Ref c)) = refl
    by_type (Some t.NoneType) = refl

    by_mode : (by : Mode) (kind : FormalKind) (type : Option SimType) → table.copied_for (code_formal s code (record { mode = by; kind = kind; ty = type })) ≡ copied_as by kind type
    by_mode mode.ByValue shape.Array type = refl
    by_mode mode.ByValue shape.Simple type = by_type type
    by_mode mode.ByValue shape.Procedure type = refl
    by_mode mode.ByReference kind type = refl
    by_mode mode.ByName kind type = refl

module _ (s : Source) (code : CodeOf) (m : Instances) (R : meaning.Configuration → Machine → Type 0) where
  plain_alike : (v : Val) (x : Value) → ValAt s code m v x → plain v ≡ machine.plain x
  plain_alike _ _ plain_at = refl
  plain_alike _ _ link_at = refl
  plain_alike _ _ array_at = refl
  plain_alike _ _ element_at = refl
  plain_alike _ _ image_at = refl
  plain_alike _ _ (actual_at h) = refl
  plain_alike _ _ (procedure_at h) = refl

  array_alike : (v : Val) (x : Value) → ValAt s code m v x → array_in v ≡ machine.array_in x
  array_alike _ _ plain_at = refl
  array_alike _ _ link_at = refl
  array_alike _ _ array_at = refl
  array_alike _ _ element_at = refl
  array_alike _ _ image_at = refl
  array_alike _ _ (actual_at h) = refl
  array_alike _ _ (procedure_at h) = refl

  text_made : (l : Limits) (line : ℕ) (making : Making) (o : World) (r : TextVal → World → Run meaning.Configuration) (q : TextVal → World → Run Machine) → ((x : TextVal) (p : World) → Alike R (r x p) (q x p)) → Alike R (making_text l line making o r) (making_text l line making o q)
  unfolding making_text
  text_made l line making o r q f =
      alike_taking meaning.Configuration Machine R l line making.wanted o _ _ (λ p.
      alike_computing meaning.Configuration Machine R TextVal line making.answer (with_texts p making.frames) _ _ (λ x. f x (with_texts p making.frames)))

  pub copies : (l : Limits) (line owner : ℕ) (c : Copied) (v : Val) (x : Value) → ValAt s code m v x → (o : World) (r : Val → World → Run meaning.Configuration) (q : Value → World → Run Machine) → ((v : Val) (x : Value) (p : World) → ValAt s code m v x → Alike R (r v p) (q x p))
      → Alike R (copying_value meaning.Of plain meaning.ArrayValue array_in l line owner c v o r) (copying_value machine.Of machine.plain machine.ArrayValue machine.array_in l line owner c x o q)
  unfolding copying_value
  copies l line owner NothingCopied v x h o r q f = f v x o h
  copies l line owner TextCopied v x h o r q f =
      alike_equal meaning.Configuration Machine R Plain (plain v) (machine.plain x) o _ _ (plain_alike v x h) (λ p.
      alike_equal meaning.Configuration Machine R TextVal (text_val p) (text_val p) o _ _ refl (λ a.
      text_made l line (copy o.store.frames a) o _ _ (λ a p. f (meaning.Of (Text a)) (machine.Of (Text a)) p plain_at)))
  copies l line owner ArrayCopied v x h o r q f =
      alike_equal meaning.Configuration Machine R ℕ (array_in v) (machine.array_in x) o _ _ (array_alike v x h) (λ a.
      alike_copying meaning.Configuration Machine R l line owner a o _ _ (λ n p. f (meaning.ArrayValue n) (machine.ArrayValue n) p array_at))
