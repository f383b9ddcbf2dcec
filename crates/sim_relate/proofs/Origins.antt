-- An object of `process` itself keeps where it was generated: the machine finds the place of its cell, and puts the token there.
use Rattle.std.proofs.Common.{◌≡◌, ℕ, suc, Bool, true, false, List, ◌∷◌, refl, arith}
use Rattle.std.specs.Prelude.{pos}
use Rattle.sim_base.specs.declared.limits.Limits.{Limits}
use Rattle.sim_scope.specs.Source.{Source}
use Rattle.sim_values.specs.Plain.{Character, Integer, MainOf, Nothing, Object, Text, Truth}
use Rattle.sim_code.specs.declared.instr.Instr.TheVariants as i
use Rattle.sim_code.specs.Code.{CodeOf}
use Rattle.sim_code.specs.Events.{having, no_rule, pop_object, pop_plain, popping, referring, when}
use Rattle.sim_code.specs.Instances.{CellPlace}
use Rattle.sim_code.specs.Machine.{Frames, Machine, Value, index}
use Rattle.sim_code.specs.Machine as machine
use Rattle.sim_code.specs.Outcome.{Ended, Going, NoRule, Run, World}
use Rattle.sim_code.specs.Rows.{mstep}
use Rattle.sim_code.specs.Rows as rows
use Rattle.sim_code.proofs.Lifts.{alike_having, alike_passes, alike_stopping}
use Rattle.sim_meaning.specs.Levels.{is_in}
use Rattle.sim_meaning.specs.Objects.{origin_kept}
use Rattle.sim_meaning.specs.Pending.{Activation, Configuration, Instances, Item, Origin, Val, cell_set}
use Rattle.sim_meaning.specs.Pending as meaning
use Rattle.sim_meaning.specs.Sane.{AllName, Names}
use Rattle.codegen_expr.specs.Sites.{slot_of}
use Rattle.codegen.specs.Compiled.{Compiled}
use Rattle.sim_relate.proofs.Assigns.{wrote_on}
use Rattle.sim_relate.proofs.Hands.{stack_length}
use Rattle.sim_relate.proofs.Here.{Here, act, kinds_as}
use Rattle.sim_relate.proofs.Known.{Any, Every, HandAt, Kind, Runs, Settled, StackAt, ValAt, actual_at, array_at, element_at, image_at, link_at, more_at, plain_at, procedure_at, site_at}
use Rattle.sim_relate.proofs.ObjectsHere.{object_here, of_text}
use Rattle.sim_relate.proofs.Operations.{OriginOpIs}
use Rattle.sim_relate.proofs.Ranked.{InEach, Meets, caught, simply}
use Rattle.sim_relate.proofs.Relation.{ChainAt, Changed, StateAt, WorkAt}
use Rattle.sim_relate.proofs.Silent.{matched, place_at, silent}
use Rattle.sim_relate.proofs.Stores.{cell_there, cell_write}
use Rattle.sim_relate.proofs.Straight.{RowIs, dup_row, int_row, step_at, tested}

module _ (code : CodeOf) (l : Limits) (inst : ℕ) (runs : Runs) (below : List machine.Activation) (line : ℕ) where
  place_row : (fs : Frames) (o : World) (pc j c : ℕ) (stack : List Value) → machine.has_cell fs j c ≡ true → RowIs code l line inst runs below (i.AddrR (pos c) (pos 0)) pc o (machine.Of (Object j) ∷ stack) fs (Going o (place_at code l inst runs below (suc pc) (machine.Address (CellPlace j c 0) ∷ stack) fs))
  unfolding pop_object pop_plain popping having referring index
  place_row fs o pc j c stack there = tested (machine.has_cell fs j c) o _ _ there refl

module _ (s : Source) (code : CodeOf) (coding : Compiled s code) (l : Limits) (o : World) (m : Instances) (inst : ℕ) (w : List Item) (vals : List Val) (rest : List Activation) (fs : Frames) (t : ℕ) (b : Runs) (pc : ℕ) (stack : List Value) (below : List machine.Activation) (ks : List Kind) (here : Here s code m fs inst rest t b ks vals stack) (u q : ℕ) (ks' : List Kind) (low : Settled s code t b u) (k : WorkAt s code m fs (λ v. ChainAt s code m fs rest v below) inst t b u w q ks') where
  abbrev R : Configuration → Machine → Type 0
  R = StateAt s code

  module _ (c token line : ℕ) (a : OriginOpIs s code (site_at t b u) c token line pc q ks ks') where
    abbrev Means : List Val → Run Configuration
    Means vs = origin_kept s o m inst w vs rest c token line

    abbrev at : ℕ → List Value → Machine
    at p stack' = place_at code l inst b below p stack' fs

    -- what goes on has passed its test
    passed_on : (b : Bool) (r : Run Configuration) → (when b o r ≡ Ended o NoRule → ⊥) → b ≡ true
    unfolding when no_rule
    passed_on true r ruled = refl
    passed_on false r ruled = absurd (ruled refl)

    by_value : (v : Val) (x : Value) (vals' : List Val) (stack' : List Value) → ValAt s code m v x → Names s m v → StackAt (HandAt s code m) a.left vals' stack' → ((p : World) → Means (v ∷ vals') ≡ Ended p NoRule → ⊥) → Meets (mstep code l) (InEach R) (Means (v ∷ vals')) o (at pc (x ∷ stack'))
    unfolding pop_object pop_plain popping having referring no_rule rows.putting
    by_value _ _ vals' stack' (plain_at {p = Object j}) n hs ruled =
        let is = a.is in
        let deep = stack_length a.left vals' stack' hs in
        let roomy = here.roomy in
        let fits = is.again.fits in
        let fits' = is.pushed.fits in
        let slot = slot_of s code c Origin in
        let h = passed_on (is_in s m c j) _ (ruled o) in
        let object = object_here s code coding m fs here.store j n in
        let stands = of_text s code coding m fs here.store j c object h in
        let there = cell_there s code m fs j c Origin here.store stands object.instance object.alive is.own is.has in
        silent code l inst b below R i.Dup is.again.is.is (dup_row code l is.again.is.line inst b below fs o pc (machine.Of (Object j)) stack' (omega (arith, deep, roomy, fits)))
        (silent code l inst b below R (i.AddrR (pos slot) (pos 0)) is.address (place_row code l inst b below line fs o is.x j slot (machine.Of (Object j) ∷ stack') there)
        (silent code l inst b below R (i.Int (pos token)) is.pushed.is.is (int_row code l is.pushed.is.line inst b below fs o is.y (machine.Address (CellPlace j slot 0) ∷ machine.Of (Object j) ∷ stack') (pos token) (omega (arith, deep, roomy, fits')))
        (matched code l inst b below R (having (machine.cell_set fs j slot (machine.Of (Integer (pos token)))) o (λ fs'. machine.on o fs' (act inst is.z (machine.Of (Integer (pos token)) ∷ machine.Address (CellPlace j slot 0) ∷ machine.Of (Object j) ∷ stack') b) (machine.Of (Object j) ∷ stack') below))
        (step_at code l is.put.line inst b below i.Put is.z q o (machine.Of (Integer (pos token)) ∷ machine.Address (CellPlace j slot 0) ∷ machine.Of (Object j) ∷ stack') fs _ is.put.is refl)
        (caught (simply ruled
        (alike_passes Configuration Machine R (is_in s m c j) o _ _ (λ _.
        alike_having Configuration Machine R Instances Frames (Changed s code Every m fs) (cell_set m j Origin (meaning.Of (Integer (pos token)))) (machine.cell_set fs j slot (machine.Of (Integer (pos token)))) o _ _
        (cell_write s code m fs j c Origin (meaning.Of (Integer (pos token))) (machine.Of (Integer (pos token))) here.store stands is.own is.has refl refl plain_at)
        (λ m' fs' em efs r. wrote_on s code l o m inst w vals rest fs t b pc stack below ks here u q ks' low k m' fs' r (Any ∷ a.left) (more_at plain_at hs) a.out (is.put.is).on))))))))
    by_value _ _ vals' stack' (plain_at {p = Nothing}) n hs ruled =
        let is = a.is in
        let deep = stack_length a.left vals' stack' hs in
        let roomy = here.roomy in
        let fits = is.again.fits in
        silent code l inst b below R i.Dup is.again.is.is (dup_row code l is.again.is.line inst b below fs o pc (machine.Of Nothing) stack' (omega (arith, deep, roomy, fits)))
        (matched code l inst b below R _ (step_at code l line inst b below (i.AddrR (pos (slot_of s code c Origin)) (pos 0)) is.x is.y o (machine.Of Nothing ∷ machine.Of Nothing ∷ stack') fs _ is.address refl)
        (caught (simply ruled (alike_stopping Configuration Machine R _ o))))
    by_value _ _ vals' stack' (plain_at {p = MainOf j}) n hs ruled = absurd (ruled o refl)
    by_value _ _ vals' stack' (plain_at {p = Integer z}) n hs ruled = absurd (ruled o refl)
    by_value _ _ vals' stack' (plain_at {p = Truth z}) n hs ruled = absurd (ruled o refl)
    by_value _ _ vals' stack' (plain_at {p = Character z}) n hs ruled = absurd (ruled o refl)
    by_value _ _ vals' stack' (plain_at {p = Text z}) n hs ruled = absurd (ruled o refl)
    by_value _ _ vals' stack' link_at n hs ruled = absurd (ruled o refl)
    by_value _ _ vals' stack' array_at n hs ruled = absurd (ruled o refl)
    by_value _ _ vals' stack' element_at n hs ruled = absurd (ruled o refl)
    by_value _ _ vals' stack' image_at n hs ruled = absurd (ruled o refl)
    by_value _ _ vals' stack' (actual_at h) n hs ruled = absurd (ruled o refl)
    by_value _ _ vals' stack' (procedure_at h) n hs ruled = absurd (ruled o refl)

    by_hand : (vs : List Val) (xs : List Value) → StackAt (HandAt s code m) (Any ∷ a.left) vs xs → AllName s m vs → ((p : World) → Means vs ≡ Ended p NoRule → ⊥) → Meets (mstep code l) (InEach R) (Means vs) o (at pc xs)
    by_hand _ _ (more_at {v = v} {vals = vs} {x = x} {stack = xs} h hs) n ruled = by_value v x vs xs h n.0 hs ruled

    pub keeps_origin : ((p : World) → Means vals ≡ Ended p NoRule → ⊥) → Meets (mstep code l) (InEach R) (Means vals) o (at pc stack)
    keeps_origin ruled = by_hand vals stack (kinds_as s code a.«in» here.values) here.names ruled
