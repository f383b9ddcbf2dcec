-- What the output does: it carries what was written before it, and a line that is due begins what it writes.
use Rattle.std.proofs.Common.{◌≡◌, ℕ, zero, suc, ◌+◌, ◌-◌, List, [], ◌∷◌, ◌++◌, length, take, drop, sym, subst, refl, ap, ◌∙◌, arith}
use Rattle.std.specs.Prelude.{ℤ, Bool, true, false, Option, Some, None, Ok, Err, nat_lt, slice_index, if◌then◌else◌}
use Rattle.std.specs.Io.KnownBytes.{Appends}
use Rattle.sim_base.specs.declared.run_error.RunError.{RunError}
use Rattle.sim_base.specs.declared.run_error.RunError.TheVariants.{FieldTooLong}
use Rattle.sim_values.specs.declared.standard.Standard.{Standard}
use Rattle.sim_values.specs.declared.value.TextVal.{TextVal}
use Rattle.sim_values.specs.Images.{OutputState, all_placed, integer_field, is_used_up, outchar, outchars, outimage, outint, outtext, placed, with_room}
use Rattle.sim_values.specs.Plain.{Plain}
use Rattle.sim_values.specs.Store.{output_of, with_output, writes}
use Rattle.sim_values.specs.Texts.{Frame, characters}
use Rattle.basic_io.specs.declared.fault.IoFault.{IoFault}
use Rattle.basic_io.specs.declared.fault.IoFault.TheVariants as fault
use Rattle.basic_io.specs.Input.{HeldInput}
use Rattle.basic_io.specs.Output.{IsAt, IsCut, OutputCause, OutputStops, Performs, WritesInText, at_its_start, inside, lacks_room, line_of, output_state, text_begun, writing}
use Rattle.standard_calls.specs.declared.calls.OfNothing.{OfNothing}
use Rattle.standard_calls.specs.declared.calls.Call.TheVariants as call
use Rattle.standard_calls.specs.declared.came.Came.{Came}
use Rattle.standard_calls.specs.declared.came.Came.TheVariants as came
use Rattle.standard_calls.specs.Calls.{CameAs, CameSink, CameStops, Cut, EffectIs, GivesValue, IfCameMoved, NoValue, refused_as}
use Rattle.standard_calls.specs.Performed.{Parts, parts, store_of}
use Rattle.standard_calls.proofs.Gives.{appends_nothing, nothing_behind}

assoc : (xs ys zs : List ℕ) → (xs ++ ys) ++ zs ≡ xs ++ (ys ++ zs)
assoc [] ys zs = refl
assoc (x ∷ xs) ys zs = ap (λ l. x ∷ l) (assoc xs ys zs)

parted : (n : ℕ) (xs : List ℕ) → take n xs ++ drop n xs ≡ xs
parted zero [] = refl
parted zero (x ∷ xs) = refl
parted (suc n) [] = refl
parted (suc n) (x ∷ xs) = ap (λ l. x ∷ l) (parted n xs)

-- ---- what was written before

abbrev pub behind : List ℕ → OutputState → OutputState
behind w s = record s { written = w ++ s.written }

-- a call on the output does not look at what was written
abbrev pub Carries : (OutputState → OutputState) → Type 0
Carries f = (w : List ℕ) (s : OutputState) → f (behind w s) ≡ behind w (f s)

pub carries_outimage : Carries outimage
carries_outimage w s = ap (λ l. record (outimage s) { written = l }) (assoc w s.written _)

carries_if : (f : OutputState → OutputState) → Carries f → (w : List ℕ) (s : OutputState) (b : Bool) → (if b then f (behind w s) else behind w s) ≡ behind w (if b then f s else s)
carries_if f h w s true = h w s
carries_if f h w s false = refl

pub carries_outchar : (c : ℕ) → Carries (λ s. outchar s c)
carries_outchar c w s = ap (λ q. placed q c) (carries_if outimage carries_outimage w s (is_used_up s.image))

carries_with_room : (n : ℕ) → Carries (λ s. with_room s n)
carries_with_room n w s = carries_if outimage carries_outimage w s (nat_lt (s.image.length + 1) (s.image.pos + n))

carries_outchars : (n k : ℕ) (t : TextVal) → Carries (outchars n k t)
carries_outchars zero k t w s = refl
carries_outchars (suc n) k t w s =
    ap (outchars n (suc k) t) (carries_outchar (slice_index (characters s.frames t) k) w s) ∙ carries_outchars n (suc k) t w (outchar s (slice_index (characters s.frames t) k))

pub carries_outtext : (t : TextVal) → Carries (λ s. outtext s t)
carries_outtext t w s =
    ap (outchars t.length 0 t) (carries_if (λ s. with_room s t.length) (carries_with_room t.length) w s (nat_lt 1 s.image.pos))
    ∙ carries_outchars t.length 0 t w (text_begun s t)

carries_all_placed : (cs : List ℕ) → Carries (λ s. all_placed s cs)
carries_all_placed [] w s = refl
carries_all_placed (c ∷ cs) w s = carries_all_placed cs w (placed s c)

carries_field : (cs : List ℕ) → Carries (λ s. all_placed (with_room s (length cs)) cs)
carries_field cs w s = ap (λ q. all_placed q cs) (carries_with_room (length cs) w s) ∙ carries_all_placed cs w (with_room s (length cs))

-- ---- what is written grows

-- one state is behind another: what it wrote begins with what that wrote
abbrev pub Grows : OutputState → OutputState → Type 0
Grows s q = (more : List ℕ) × (q.written ≡ s.written ++ more)

grows_same : (s : OutputState) → Grows s s
grows_same s = ([], sym (nothing_behind s.written))

grows_twice : (s q r : OutputState) → Grows s q → Grows q r → Grows s r
grows_twice s q r a b = (a.0 ++ b.0, b.1 ∙ ap (λ l. l ++ b.0) a.1 ∙ assoc s.written a.0 b.0)

grows_if : (s : OutputState) (b : Bool) → Grows s (if b then outimage s else s)
grows_if s true = (line_of s, refl)
grows_if s false = grows_same s

grows_outchars : (n k : ℕ) (t : TextVal) (s : OutputState) → Grows s (outchars n k t s)
grows_outchars zero k t s = grows_same s
grows_outchars (suc n) k t s =
    grows_twice s (outchar s (slice_index (characters s.frames t) k)) (outchars (suc n) k t s) (grows_if s (is_used_up s.image)) (grows_outchars n (suc k) t (outchar s (slice_index (characters s.frames t) k)))

placed_written : (cs : List ℕ) (s : OutputState) → (all_placed s cs).written ≡ s.written
placed_written [] s = refl
placed_written (c ∷ cs) s = placed_written cs (placed s c)

-- a line that is due in a state begins what is written from there on
abbrev pub LineBegins : OutputState → OutputState → Type 0
LineBegins r q = (more : List ℕ) × (q.written ≡ r.written ++ (line_of r ++ more))

line_if : (s : OutputState) (b : Bool) → b ≡ true → (if b then outimage s else s).written ≡ s.written ++ line_of s
line_if s b e = ap (λ b. (if b then outimage s else s).written) e

line_then : (s q : OutputState) (b : Bool) → b ≡ true → Grows (if b then outimage s else s) q → LineBegins s q
line_then s q b e g = (g.0, g.1 ∙ ap (λ l. l ++ g.0) (line_if s b e) ∙ assoc s.written (line_of s) g.0)

pub line_outimage : (s : OutputState) → LineBegins s (outimage s)
line_outimage s = ([], ap (λ l. s.written ++ l) (sym (nothing_behind (line_of s))))

pub line_outchar : (s : OutputState) (c : ℕ) → is_used_up s.image ≡ true → LineBegins s (outchar s c)
line_outchar s c e = line_then s (outchar s c) (is_used_up s.image) e ([], sym (nothing_behind _))

line_field : (s : OutputState) (cs : List ℕ) → lacks_room s (length cs) ≡ true → LineBegins s (all_placed (with_room s (length cs)) cs)
line_field s cs e =
    line_then s (all_placed (with_room s (length cs)) cs) (lacks_room s (length cs)) e ([], placed_written cs (with_room s (length cs)) ∙ sym (nothing_behind _))

outchars_split : (n m k : ℕ) (t : TextVal) (s : OutputState) → outchars (n + m) k t s ≡ outchars m (k + n) t (outchars n k t s)
outchars_split zero m k t s = let e : 0 + m ≡ m = omega arith in let e2 : k ≡ k + 0 = omega arith in ap (λ j. outchars j k t s) e ∙ ap (λ j. outchars m j t s) e2
outchars_split (suc n) m k t s =
    let e : suc n + m ≡ suc (n + m) = omega arith in
    let e2 : suc k + n ≡ k + suc n = omega arith in
    ap (λ j. outchars j k t s) e
    ∙ outchars_split n m (suc k) t (outchar s (slice_index (characters s.frames t) k))
    ∙ ap (λ j. outchars m j t (outchars (suc n) k t s)) e2

line_within : (n m k : ℕ) (t : TextVal) (s : OutputState) → is_used_up (outchars n k t s).image ≡ true → LineBegins (outchars n k t s) (outchars (n + suc m) k t s)
line_within n m k t s e =
    let r = outchars n k t s in
    subst (λ q. LineBegins r q) (sym (outchars_split n (suc m) k t s))
    (line_then r (outchars (suc m) (k + n) t r) (is_used_up r.image) e (grows_outchars m (suc (k + n)) t (outchar r (slice_index (characters r.frames t) (k + n)))))

pub line_text : (s : OutputState) (t : TextVal) (r : OutputState) → WritesInText s t r → LineBegins r (outtext s t)
line_text s t r (at_its_start moved lacks) =
    line_then s (outtext s t) (lacks_room s t.length) lacks
    (subst (λ b. Grows (with_room s t.length) (outchars t.length 0 t (if b then with_room s t.length else s))) (sym moved) (grows_outchars t.length 0 t (with_room s t.length)))
line_text s t r (inside n below full) =
    let e : n + suc (t.length - n - 1) ≡ t.length = omega (arith, below) in
    subst (λ j. LineBegins (outchars n 0 t (text_begun s t)) (outchars j 0 t (text_begun s t))) e (line_within n (t.length - n - 1) 0 t (text_begun s t) full)

-- ---- what becomes of the name

module _ (n : Standard) (vs : List Plain) (budget words : ℕ) (input : HeldInput) (source : List ℕ) (old new : List Frame) (image image2 : TextVal) (sink sink2 : Option (List ℕ)) where
  abbrev before : Parts
  before = parts old input source image sink words

  abbrev after : Parts
  after = parts new input source image2 sink2 words

  abbrev from : OutputState
  from = output_state old image

  -- a call that is not refused
  module _ (f : OutputState → OutputState) (carries : Carries f) (e : EffectIs n vs before (λ written. writes (Ok (f (output_of (store_of before written)))) (store_of before written))) where
    begun : (written : List ℕ) → f (output_of (store_of before written)) ≡ behind written (f from)
    begun written = ap (λ w. f (record { frames = old; image = image; written = w })) (sym (nothing_behind written)) ∙ carries written from

    pub written_all : IsAt (f from) (f from).written (writing old image sink) (writing new image2 sink2) → CameAs (came.Done None None) budget n vs before after
    written_all at = (
      (f from).written,
      record {
        wanted = 0;
        sink = at.sink;
        words = omega arith;
        fits = λ h. h;
        effect = λ written.
            e written
            ∙ ap (λ s. Some (writes (Ok s) (store_of before written))) (begun written)
            ∙ ap (λ g. Some (record { wanted = 0; store = record (store_of before written) { frames = g; sysout = (f from).image; written = written ++ (f from).written }; moved = None; answer = Ok None })) (sym at.frames)
            ∙ ap (λ i. Some (record { wanted = 0; store = record (store_of before written) { frames = new; sysout = i; written = written ++ (f from).written }; moved = None; answer = Ok None })) (sym at.image);
      },
    )

    pub written_part : (Due : OutputState → Type 0) → ((r : OutputState) → Due r → LineBegins r (f from)) → (r : OutputState) → Due r → IsCut r (writing old image sink) (writing new image2 sink2) → Cut n vs before after
    written_part Due due r is cut =
        let line = due r is in
        record {
          bytes = r.written ++ take cut.0 (line_of r);
          sink = cut.1.sink;
          more = drop cut.0 (line_of r) ++ line.0;
          left = λ written. with_output (store_of before written) (f (output_of (store_of before written)));
          whole = λ written.
              ap (λ s. s.written) (begun written)
              ∙ ap (λ l. written ++ l) (
              line.1
              ∙ ap (λ l. r.written ++ (l ++ line.0)) (sym (parted cut.0 (line_of r)))
              ∙ ap (λ l. r.written ++ l) (assoc (take cut.0 (line_of r)) (drop cut.0 (line_of r)) line.0)
              ∙ sym (assoc r.written (take cut.0 (line_of r)) (drop cut.0 (line_of r) ++ line.0))
              );
          effect = e;
        }

    -- after the call
    pub output_done : (Due : OutputState → Type 0) (a : Unit {0}) → Performs (Ok (f from)) Due (writing old image sink) (writing new image2 sink2) (Ok a) → CameAs (came.Done None None) budget n vs before after
    output_done Due a p = written_all p

    pub output_refused : (Due : OutputState → Type 0) → ((r : OutputState) → Due r → LineBegins r (f from)) → (x : IoFault) →
        Performs {A = Unit {0}} (Ok (f from)) Due (writing old image sink) (writing new image2 sink2) (Err x) → CameAs (refused_as x) budget n vs before after
    output_refused Due due fault.WriteFault p = written_part Due due p.0 p.1 p.2
    output_refused Due due (fault.Run r) p = absurd p
    output_refused Due due fault.InputFault p = absurd p

  -- a call that is refused
  module _ (x : RunError) (e : EffectIs n vs before (λ written. writes (Err x) (store_of before written))) where
    pub kept_done : (Due : OutputState → Type 0) (a : Unit {0}) → Performs (Err x) Due (writing old image sink) (writing new image2 sink2) (Ok a) → CameAs (came.Done None None) budget n vs before after
    kept_done Due a p = absurd p

    pub kept_refused : (Due : OutputState → Type 0) (y : IoFault) → Performs {A = Unit {0}} (Err x) Due (writing old image sink) (writing new image2 sink2) (Err y) → CameAs (refused_as y) budget n vs before after
    kept_refused Due fault.WriteFault p = absurd p
    kept_refused Due fault.InputFault p = absurd p
    kept_refused Due (fault.Run y) p = (
      None,
      record {
        wanted = 0;
        sink = subst (λ w. Appends sink w.sink []) (sym p.1) (appends_nothing sink);
        words = omega arith;
        fits = λ h. h;
        effect = λ written.
            e written
            ∙ ap (λ z. Some (record { wanted = 0; store = store_of before written; moved = None; answer = Err z })) p.0
            ∙ ap (λ w. Some (record { wanted = 0; store = store_of (parts w.frames input source w.image sink words) written; moved = None; answer = Err y })) (sym p.1)
            ∙ ap (λ w. Some (record { wanted = 0; store = store_of after w; moved = None; answer = Err y })) (sym (nothing_behind written));
      },
    )

  -- an integer in a field
  module _ (i j : ℤ) (e : EffectIs n vs before (λ written. writes (outint (output_of (store_of before written)) i j) (store_of before written))) where
    abbrev places : List ℕ
    places = integer_field i j

    abbrev fielded : OutputState → OutputState
    fielded s = all_placed (with_room s (length places)) places

    abbrev Due : OutputState → Type 0
    Due r = (lacks_room from (length places) ≡ true) × (r ≡ from)

    due : (r : OutputState) → Due r → LineBegins r (fielded from)
    due r h = subst (λ q. LineBegins q (fielded from)) (sym h.1) (line_field from places h.0)

    done_by : (b : Bool) (a : Unit {0}) → EffectIs n vs before (λ written. writes (if b then Err FieldTooLong else Ok (fielded (output_of (store_of before written)))) (store_of before written)) →
        Performs (if b then Err FieldTooLong else Ok (fielded from)) Due (writing old image sink) (writing new image2 sink2) (Ok a) → CameAs (came.Done None None) budget n vs before after
    done_by true a e p = kept_done FieldTooLong e Due a p
    done_by false a e p = output_done fielded (carries_field places) e Due a p

    refused_by : (b : Bool) (x : IoFault) → EffectIs n vs before (λ written. writes (if b then Err FieldTooLong else Ok (fielded (output_of (store_of before written)))) (store_of before written)) →
        Performs {A = Unit {0}} (if b then Err FieldTooLong else Ok (fielded from)) Due (writing old image sink) (writing new image2 sink2) (Err x) → CameAs (refused_as x) budget n vs before after
    refused_by true x e p = kept_refused FieldTooLong e Due x p
    refused_by false x e p = output_refused fielded (carries_field places) e Due due x p

    pub outint_done : (a : Unit {0}) → Performs (outint from i j) Due (writing old image sink) (writing new image2 sink2) (Ok a) → CameAs (came.Done None None) budget n vs before after
    outint_done a p = done_by (nat_lt image.length (length places)) a e p

    pub outint_refused : (x : IoFault) → Performs {A = Unit {0}} (outint from i j) Due (writing old image sink) (writing new image2 sink2) (Err x) → CameAs (refused_as x) budget n vs before after
    outint_refused x p = refused_by (nat_lt image.length (length places)) x e p

-- ---- the faults of the output

pub refused_sink : (from now : ℕ) (x : IoFault) → OutputCause {A = Unit {0}} from now (Err x) → CameSink (refused_as x) from now
refused_sink from now (fault.Run r) h = h
refused_sink from now fault.WriteFault h = h
refused_sink from now fault.InputFault h = absurd h

pub refused_stops : {S : Type 0} (written : S → Option (List ℕ)) (faults : S → ℕ) (old new : S) (x : IoFault) → OutputStops {A = Unit {0}} written faults old new (Err x) → CameStops written faults old new (refused_as x)
refused_stops written faults old new (fault.Run r) h = tt
refused_stops written faults old new fault.WriteFault h = h
refused_stops written faults old new fault.InputFault h = tt

pub refused_still : (P : Type 0) (x : IoFault) → IfCameMoved (refused_as x) P
refused_still P (fault.Run r) = tt
refused_still P fault.WriteFault = tt
refused_still P fault.InputFault = tt

pub refused_no_value : (x : IoFault) → NoValue (refused_as x)
refused_no_value (fault.Run r) = tt
refused_no_value fault.WriteFault = tt
refused_no_value fault.InputFault = tt

pub gives_none : (f : OfNothing) (c : Came) → NoValue c → GivesValue (call.Nothing f) c
gives_none f (came.Done None moved) h = tt
gives_none f (came.Done (Some s) moved) h = absurd h
gives_none f (came.Fault e) h = tt
gives_none f (came.Full w) h = tt
gives_none f came.Memory h = tt
gives_none f came.WriteFault h = tt
gives_none f came.InputFault h = tt
