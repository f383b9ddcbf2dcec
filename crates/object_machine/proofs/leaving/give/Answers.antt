use Rattle.std.proofs.Common.{rules, ◌≡◌, ◌-◌, ℕ, ◌∙◌, ap, sym, subst, refl}
use Rattle.std.specs.Prelude.{false, length}
use Rattle.std.specs.Vec.{with_items}
use Rattle.std.proofs.lemmas.List.{with_items_is, places}
use Rattle.sim_values.specs.declared.value.FrameRef.{FrameRef}
use Rattle.sim_values.specs.Words.{instance_words}
use Rattle.sim_code.specs.Arrays.{words_with}
use Rattle.sim_code.specs.Instances.{given, is_given_at_end}
use Rattle.sim_code.specs.Machine.{words_of_block}
use Rattle.frame_arena.specs.Frames.{Holds, KeptBefore, Leads, frame_at}
use Rattle.object_machine.specs.declared.machine.Storage.{Storage}
use Rattle.object_machine.proofs.Departures.{ends_given, ends_kept}
use Rattle.object_machine.proofs.Parks.{rooms_count}
use Rattle.object_machine.proofs.leaving.give.Goals as goal

pub returns-then-not-is_given_at_end-clause-row : goal.returns-then-not-is_given_at_end-clause-row
returns-then-not-is_given_at_end-clause-row c l b before now o m cells s =
    let p = c.args.storage.now in
    let j : ℕ = c.args.home.stamp in
    let h0 : Holds c.deref.result.now p.cells.items m = subst (λ f. Holds f p.cells.items m) (sym c.deref.ensures.value) s.frames in
    let same = c.is_given_at_end.ensures p.cells.items m h0 ∙ ap (λ f. is_given_at_end m (frame_at f c.args.home.frame).number) c.deref.ensures.value ∙ ap (λ n. is_given_at_end m n) c.requires.there.2 in
    ends_kept l p p b j before now o m (sym same ∙ c.if-not-is_given_at_end.true) s

pub returns-clause-row : goal.returns-clause-row
returns-clause-row c l b before now o m cells s =
    let p = c.args.storage.now in
    let j : ℕ = c.args.home.stamp in
    let p2 : Storage = record { frames = with_items p.frames c.give_back.new.frames; cells = p.cells; spares = with_items p.spares c.keep_stack.new.spares; idle = p.idle; parks = p.parks; heads = with_items p.heads c.give_back.new.heads; entered = p.entered; arrays = c.give_back_owned-storage.new.self; texts = p.texts; image = p.image; members = p.members; simulations = p.simulations; ticks = p.ticks; words = c.give_back_owned-storage.result; wanted = p.wanted } in
    let items : p2.frames.items ≡ c.give_back.new.frames = with_items_is p.frames c.give_back.new.frames (search (rules, places)) in
    let h0 : Holds c.deref.result.now p.cells.items m = subst (λ f. Holds f p.cells.items m) (sym c.deref.ensures.value) s.frames in
    let same = c.is_given_at_end.ensures p.cells.items m h0 ∙ ap (λ f. is_given_at_end m (frame_at f c.args.home.frame).number) c.deref.ensures.value ∙ ap (λ n. is_given_at_end m n) c.requires.there.2 in
    let words : c.words_instance.result ≡ words_of_block b = c.words_instance.ensures.words ∙ ap (λ n. instance_words n false) (sym cells) in
    let used : p2.words ≡ p.words - c.words_instance.result - words_with j o.arrays =
    c.give_back_owned-storage.ensures.words o.arrays s.arrays ∙ ap (λ n. n - words_with j o.arrays) (let e : c.saturating_sub-words.result ≡ p.words - c.words_instance.result = search rules in e) in
    let h1 : Holds c.deref_mut.result.now p.cells.items m = subst (λ f. Holds f p.cells.items m) (sym c.deref_mut.ensures.value) s.frames in
    let number : (frame_at c.deref_mut.result.now c.args.home.frame).number ≡ j = ap (λ f. (frame_at f c.args.home.frame).number) c.deref_mut.ensures.value ∙ c.requires.there.2 in
    let holds : Holds p2.frames.items p.cells.items (given m j) =
    subst (λ f. Holds f p.cells.items (given m j)) (sym items) (subst (λ n. Holds c.give_back.new.frames p.cells.items (given m n)) number (c.give_back.ensures.holds p.cells.items m h1)) in
    let leads : (r : FrameRef) → Leads p.frames.items m r → Leads p2.frames.items (given m j) r = λ r q.
    subst (λ f. Leads f (given m j) r) (sym items) (subst (λ n. Leads c.give_back.new.frames (given m n) r) number (c.give_back.ensures.leads p.cells.items m r h1 (subst (λ f. Leads f m r) (sym c.deref_mut.ensures.value) q))) in
    let before_kept : KeptBefore p.frames.items p2.frames.items = subst (λ f. KeptBefore p.frames.items f) (sym items) (subst (λ f. KeptBefore f c.give_back.new.frames) c.deref_mut.ensures.value c.give_back.ensures.chains) in
    let long : length p.frames.items ≡ length p2.frames.items = ap (λ f. length f) (sym c.deref_mut.ensures.value) ∙ rooms_count c.deref_mut.result.now c.give_back.new.frames c.give_back.ensures.stacks ∙ ap (λ f. length f) (sym items) in
    ends_given l p p2 b j before now o m leads (c.give_back_owned-storage.ensures.leads o.arrays s.arrays) c.words_instance.result (sym same ∙ c.if-not-is_given_at_end.false) words used refl refl refl refl refl refl refl holds (c.give_back_owned-storage.ensures.holds o.arrays s.arrays) (c.give_back_owned-storage.ensures.elements p.frames.items m s.elements) before_kept long refl s
