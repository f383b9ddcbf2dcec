-- What `inint` answers, from what `lastitem`, `sub` and `getint` have answered.
use Rattle.std.proofs.Common.{◌≡◌, ℕ, ◌+◌, ◌-◌, ◌≤◌, ◌==◌, Bool, true, false, cond, ltb, leb, ◌&&◌, ℤ, pos, List, length, take, drop, Option, Result, Ok, Err, refl, sym, ap, ◌∙◌, subst, arith}
use Rattle.std.proofs.lemmas.Bool.Decides.{nat_tests}
use Rattle.std.proofs.lemmas.List.{drop-take, drop-drop, drop_all, length-take}
use Rattle.sim_base.specs.declared.run_error.RunError.{RunError}
use Rattle.sim_base.specs.declared.run_error.RunError.TheVariants.{SubtextOutOfRange, NoItemBeforeEnd}
use Rattle.sim_values.specs.Texts.{Frame, TextStep, at_position, characters, frame_at, getint, integer_item, integer_taken, notext, outcome, part, sub}
use Rattle.sim_values.specs.Images.{InputState, InputStep, answers, characters_left, go_on, inint, item_taken, lastitem, refuses, with_position}
use Rattle.sim_values.specs.declared.value.TextVal.{TextVal}
use Rattle.basic_io.specs.Image.{IsImage}
use Rattle.basic_io.specs.declared.fault.IoFault.TheVariants as fault
use Rattle.basic_io.specs.Input.{HeldInput, Performs, Reading, WantsItem, input_state, reading}
use Rattle.basic_io.proofs.InputLines.{told_as}

-- the rest of an image from its position on
abbrev pub rest_of : TextVal → TextVal
rest_of t = part t t.pos (t.length + 1 - t.pos)

pub sub_is_rest : (frames : List Frame) (t rest : TextVal) (i n : ℤ) → IsImage frames t → i ≡ pos t.pos → n ≡ pos (t.length + 1 - t.pos) → Ok rest ≡ sub t i n → rest ≡ rest_of t
sub_is_rest frames t rest i n image is_i is_n given =
    let whole : sub t (pos t.pos) (pos (t.length + 1 - t.pos)) ≡ Ok (rest_of t) = taken (ltb 0 t.pos && leb (t.pos + (t.length + 1 - t.pos)) (t.length + 1)) (grind (arith, nat_tests)) in
    cc (is_i, is_n)
  where
    taken : (b : Bool) → b ≡ true → cond b (Ok (rest_of t)) (Err SubtextOutOfRange) ≡ Ok (rest_of t)
    taken true e = refl
    taken false e = cc

rest_characters : (frames : List Frame) (t : TextVal) → IsImage frames t → characters frames (rest_of t) ≡ characters_left frames t
rest_characters frames t image = by_length (t.length + 1 - t.pos) refl (t.length + 1 - t.pos == 0) refl
  where
    bs : List ℕ
    bs = (frame_at frames t.text_frame).bytes

    by_length : (n : ℕ) → n ≡ t.length + 1 - t.pos → (none : Bool) → (n == 0) ≡ none → characters frames (cond none notext (record { text_frame = t.text_frame; start = t.start + t.pos - 1; length = n; pos = 1 })) ≡ characters_left frames t
    by_length n is true e =
        let none : n ≡ 0 = grind (arith, nat_tests) in
        let l = length-take t.length (drop (t.start - 1) bs) in
        let short : length (take t.length (drop (t.start - 1) bs)) ≤ t.pos - 1 = omega arith in
        sym (drop_all (t.pos - 1) (take t.length (drop (t.start - 1) bs)) short)
    by_length n is false e =
        let p : ℕ = t.pos - 1 in
        let from : t.start + t.pos - 1 - 1 ≡ (t.start - 1) + p = omega arith in
        let all : p + n ≡ t.length = omega arith in
        ap (λ (k : ℕ). take n (drop k bs)) from
        ∙ ap (take n) (sym (drop-drop p (t.start - 1) bs))
        ∙ sym (drop-take p n (drop (t.start - 1) bs))
        ∙ ap (λ (k : ℕ). drop p (take k (drop (t.start - 1) bs))) all

-- `inint` behind what `lastitem` answered
inint_from : (s r : InputState) (last : Bool) → (lastitem s).answer ≡ Ok last → (lastitem s).after ≡ r → inint s ≡ cond last (refuses r NoItemBeforeEnd) (item_taken r (integer_item (characters_left r.frames r.image)))
inint_from s r last a n =
    let next : InputState → Bool → InputStep ℤ = λ q b. cond b (refuses q NoItemBeforeEnd) (item_taken q (integer_item (characters_left q.frames q.image))) in
    ap (λ (x : Result Bool RunError). go_on (lastitem s).after x next) a ∙ ap (λ (q : InputState). next q last) n

abbrev failed : RunError → Result ℤ RunError
failed e = Err e

abbrev failed_item : RunError → Result (ℤ × ℕ) RunError
failed_item e = Err e

took : (frames : List Frame) (item : Result (ℤ × ℕ) RunError) (rest new : TextVal) (value : ℤ) → integer_taken frames rest item ≡ outcome frames new (Ok value) → item ≡ Ok (value, new.pos - 1)
took frames (Ok (v, used)) rest new value e =
    let u : used ≡ new.pos - 1 = let p : used + 1 ≡ new.pos = ap (λ (step : TextStep ℤ). step.text.pos) e in omega arith in
    let w : Ok v ≡ Ok value = ap (λ (step : TextStep ℤ). step.answer) e in
    cc
took frames (Err x) rest new value e =
    let w : Err x ≡ Ok value = ap (λ (step : TextStep ℤ). step.answer) e in
    absurd (cc)

refused : (frames : List Frame) (item : Result (ℤ × ℕ) RunError) (rest new : TextVal) (x : RunError) → integer_taken frames rest item ≡ outcome frames new (Err x) → item ≡ Err x
refused frames (Ok (v, used)) rest new x e =
    let w : Ok v ≡ Err x = ap (λ (step : TextStep ℤ). step.answer) e in
    absurd (cc)
refused frames (Err y) rest new x e =
    err_same y x (ap (λ (step : TextStep ℤ). step.answer) e)
  where
    err_same : (a b : RunError) → failed a ≡ failed b → failed_item a ≡ failed_item b
    err_same a b e = cc

-- `lastitem` was false, and the input stands at the next item
item_begins : (old : Reading) (frames : List Frame) (i now : HeldInput) (source : Option (List ℕ)) (last : Bool) → i ≡ now → last ≡ false → Performs lastitem WantsItem old (reading frames now source) (Ok last) → Performs lastitem WantsItem old (reading frames i source) (Ok false)
item_begins old frames i now source last is item found =
    subst (λ (j : HeldInput). Performs lastitem WantsItem old (reading frames j source) (Ok false)) (sym is)
    (subst (λ (b : Bool). Performs lastitem WantsItem old (reading frames now source) (Ok b)) item found)

-- `getint` has read an integer from the rest of the image
pub item_read : (old : Reading) (frames : List Frame) (i now : HeldInput) (source : Option (List ℕ)) (last : Bool) (rest new : TextVal) (value : ℤ) → i ≡ now → last ≡ false → IsImage frames i.image → Performs lastitem WantsItem old (reading frames now source) (Ok last)
    → rest ≡ rest_of i.image → getint frames rest ≡ outcome frames new (Ok value)
    → Performs inint WantsItem old (reading frames (record { image = at_position i.image (i.image.pos + (new.pos - 1)); endfile = i.endfile; held = i.held }) source) (Ok value)
item_read old frames i now source last rest new value is item image found taken v =
    told_as old.source source (item_begins old frames i now source last is item found)
    (λ x y l.
    let s = input_state old.frames old.input x in
    let r = input_state frames i y in
    let read : integer_item (characters_left frames i.image) ≡ Ok (value, new.pos - 1) = ap integer_item (sym (rest_characters frames i.image image) ∙ ap (characters frames) (sym taken)) ∙ took frames _ rest new value v in
    let all : inint s ≡ answers (with_position r (r.image.pos + (new.pos - 1))) value = inint_from s r false l.0 l.1 ∙ ap (item_taken r) read in
    (ap (λ (step : InputStep ℤ). step.answer) all, ap (λ (step : InputStep ℤ). step.after) all))

-- `getint` was refused
pub item_refused : (old : Reading) (frames : List Frame) (i now : HeldInput) (source : Option (List ℕ)) (last : Bool) (rest new : TextVal) (e : RunError) → i ≡ now → last ≡ false → IsImage frames i.image → Performs lastitem WantsItem old (reading frames now source) (Ok last)
    → rest ≡ rest_of i.image → getint frames rest ≡ outcome frames new (Err e)
    → Performs inint WantsItem old (reading frames now source) (Err (fault.Run e))
item_refused old frames i now source last rest new e is item image found taken v =
    let refusal : Performs inint WantsItem old (reading frames i source) (Err (fault.Run e)) =
    told_as old.source source (item_begins old frames i now source last is item found)
    (λ x y l.
    let s = input_state old.frames old.input x in
    let r = input_state frames i y in
    let read : integer_item (characters_left frames i.image) ≡ Err e = ap integer_item (sym (rest_characters frames i.image image) ∙ ap (characters frames) (sym taken)) ∙ refused frames _ rest new e v in
    let all : inint s ≡ refuses r e = inint_from s r false l.0 l.1 ∙ ap (item_taken r) read in
    (ap (λ (step : InputStep ℤ). step.answer) all, ap (λ (step : InputStep ℤ). step.after) all))
    in
    subst (λ (j : HeldInput). Performs inint WantsItem old (reading frames j source) (Err (fault.Run e))) is refusal
