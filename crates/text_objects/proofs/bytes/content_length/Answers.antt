use Rattle.std.proofs.Common.{◌≡◌, ℕ, ◌+◌, ◌-◌, ◌++◌, ◌∷◌, [], take, get_or, ap, ◌∙◌, sym, arith}
use Rattle.std.proofs.lemmas.List.{take_more, length-take-le}
use Rattle.sim_values.specs.Texts.{content_length}
use Rattle.text_objects.proofs.Blanks.{content_length-push_blank, content_length-push_other}
use Rattle.text_objects.proofs.bytes.content_length.Goals as goal

pub loop-end-preserved : goal.loop-end-preserved
loop-end-preserved c =
    let j : ℕ = c.loop-end.end - 1 in
    let bytes = c.args.bytes.now in
    let next : c.loop-end.end ≡ j + 1 = omega arith in
    let last : take c.loop-end.end bytes ≡ take j bytes ++ 32 ∷ [] =
    ap (λ (n : ℕ). take n bytes) next ∙ take_more bytes j 0 (omega arith) ∙ ap (λ (b : ℕ). take j bytes ++ b ∷ []) c.if-bytes-end-eq32.true
    in
    record {
      within = omega arith;
      same = sym (content_length-push_blank (take j bytes)) ∙ sym (ap content_length last) ∙ c.loop-end.invariant.same;
    }

pub returns-else-bytes-end-eq32-clause-count : goal.returns-else-bytes-end-eq32-clause-count
returns-else-bytes-end-eq32-clause-count c =
    let j : ℕ = c.loop-end.end - 1 in
    let bytes = c.args.bytes.now in
    let next : c.loop-end.end ≡ j + 1 = omega arith in
    let last : take c.loop-end.end bytes ≡ take j bytes ++ get_or bytes j 0 ∷ [] =
    ap (λ (n : ℕ). take n bytes) next ∙ take_more bytes j 0 (omega arith)
    in
    let count = content_length-push_other (take j bytes) (get_or bytes j 0) c.if-bytes-end-eq32.false in
    next
    ∙ ap (λ (n : ℕ). n + 1) (sym (length-take-le j bytes (omega arith)))
    ∙ sym count
    ∙ sym (ap content_length last)
    ∙ c.loop-end.invariant.same
