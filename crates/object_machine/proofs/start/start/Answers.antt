use Rattle.std.proofs.Common.{rules, ℕ, ◌≡◌, ◌+◌, List, [], ◌∷◌, ◌++◌, length, sym, subst, refl, ap, ◌∙◌, arith}
use Rattle.std.specs.Prelude.{false}
use Rattle.object_machine.specs.Enrolling.{AllReach, Rises, stamps}
use Rattle.object_machine.specs.Standing.{Ports, ports_of}
use Rattle.sim_values.specs.Store.{constant_frames, image_frame}
use Rattle.sim_values.specs.Texts.{Frame}
use Rattle.frame_arena.specs.Frames.{empty_memory}
use Rattle.object_machine.proofs.Parks.{parks_empty}
use Rattle.object_machine.proofs.Simulations.{simulating_none}
use Rattle.object_machine.proofs.Starting.{constants_count, count_behind, elements_empty, holds_empty, images_behind, leads_empty}
use Rattle.object_machine.proofs.Written.{append_nothing}
use Rattle.object_machine.proofs.start.start.Goals as goal

pub returns-clause-row : goal.returns-clause-row
returns-clause-row c before input =
    let cs = c.args.constants.now in
    let cf : List Frame = constant_frames cs in
    let a : Frame = image_frame c.args.limits.now.in_length in
    let b : Frame = image_frame c.args.limits.now.out_length in
    let e0 : c.add_constants.new.texts ≡ cf = c.in_ok-add_constants.ensures ∙ ap (λ l. l ++ cf) c.new-texts.ensures.empty in
    let e1 : c.new.new.texts ≡ cf ++ a ∷ [] = c.in_ok-input.ensures.ok ∙ ap (λ l. l ++ a ∷ []) e0 in
    let e2 : c.new-2.new.texts ≡ cf ++ (a ∷ b ∷ []) = c.in_ok-output.ensures.ok ∙ ap (λ l. l ++ b ∷ []) e1 ∙ images_behind cf a b in
    let n : length c.new.new.texts ≡ length cs + 1 = ap length e1 ∙ count_behind cf a ∙ ap (λ n. n + 1) (constants_count cs) in
    let P : ℕ → ℕ → Ports = λ j k. record {
      sysin = record { text_frame = j; start = 1; length = c.args.limits.now.in_length; pos = c.args.limits.now.in_length + 1 };
      endfile = false;
      left = input;
      sysout = record { text_frame = k; start = 1; length = c.args.limits.now.out_length; pos = 1 };
    } in
    let none : c.new-3.result.items ≡ [] = search rules in
    let none2 : c.new-4.result.items ≡ [] = search rules in
    let none3 : c.new-7.result.items ≡ [] = search rules in
    let none4 : c.new-10.result.items ≡ [] = search rules in
    let none5 : c.new-11.result.items ≡ [] = search rules in
    record {
      world = record {
        ticks = refl;
        words = refl;
        texts = sym e2;
        image = sym (ap (λ i. ports_of (record { input = i; output = c.in_ok-output.output }) input) c.in_ok-input.ensures.made
            ∙ ap (λ t. record { sysin = record { text_frame = length c.add_constants.new.texts; start = 1; length = c.args.limits.now.in_length; pos = c.args.limits.now.in_length + 1 }; endfile = false; left = input; sysout = t }) c.in_ok-output.ensures.made
            ∙ ap (λ k. P k (length c.new.new.texts)) (ap length e0 ∙ constants_count cs) ∙ ap (λ k. P (length cs) k) n);
        written = append_nothing before;
      };
      budget = omega arith;
      frames = holds_empty c.new-3.result.items c.new-4.result.items none none2;
      entered = refl;
      arrays = c.new-8.ensures.holds;
      cells = leads_empty c.new-8.result.regions [] c.new-4.result.items none2;
      elements = elements_empty c.new-3.result.items empty_memory c.new-8.result c.new-8.ensures.none;
      members = record {
        is = record { instances = sym (ap stamps none4); sets = sym c.new-9.ensures.sets };
        rises = subst Rises (sym (ap stamps none4)) (λ x y a b less i j. absurd (cc));
        lead = subst (λ w. AllReach c.new-3.result.items empty_memory w) (sym none4) (λ x f there. absurd (cc));
      };
      simulations = simulating_none c.new-3.result.items empty_memory c.new-11.result.items none5;
      parks = parks_empty c.new-3.result.items c.new-7.result.items empty_memory c.new-8.result.regions [] none none3;
    }
