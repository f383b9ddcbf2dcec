-- A standard name gives a value where its row says so, and none where it has no result.
use Rattle.std.proofs.Common.{◌≡◌, ℕ, List, [], ◌∷◌, Option, Some, None, Bool, true, false, sym, ap, ◌∙◌}
use Rattle.std.specs.Prelude.{ℤ, Result, Ok, Err}
use Rattle.sim_base.specs.declared.run_error.RunError.{RunError}
use Rattle.sim_values.specs.declared.standard.Standard.{Standard}
use Rattle.sim_values.specs.declared.standard.Standard.TheVariants as name
use Rattle.sim_values.specs.declared.value.TextVal.{TextVal}
use Rattle.sim_values.specs.Images.{OutputState, outchar, outimage, outtext}
use Rattle.sim_values.specs.Plain.{Character, Integer, Plain, Text}
use Rattle.sim_values.specs.Standard.{Function, applied, elsewhere, of_character, of_integer, of_integers, of_nothing, of_text, of_text_and_character, of_text_and_integer, of_text_and_integers, row_of, standard_effect, take_character, take_integer, take_nothing, take_text}
use Rattle.sim_values.specs.Store.{Effect, Store, output_of, unvalued, valued, writes}
use Rattle.sim_values.specs.Texts.{copy, setpos}
use Rattle.sim_meaning.specs.Statements.{has_value}

abbrev pub is_some : {A : Type 0} → Option A → Bool
is_some None = false
is_some (Some a) = true

-- an answer that is no error has a value, or has none
abbrev Valued : Bool → Result (Option Plain) RunError → Type 0
Valued b r = (v : Option Plain) → r ≡ Ok v → is_some v ≡ b

valued_is : (A : Type 0) (make : A → Plain) (r : Result A RunError) → Valued true (valued make r)
valued_is A make (Ok a) v e = let f : Some (make a) ≡ v = cc in ap is_some (sym f)
valued_is A make (Err x) v e = absurd (cc)

unvalued_is : (r : Result (Unit {0}) RunError) → Valued false (unvalued r)
unvalued_is (Ok a) v e = let n : Option Plain = None in let f : n ≡ v = cc in ap is_some (sym f)
unvalued_is (Err x) v e = absurd (cc)

gives_is : (p : Plain) → Valued true (Ok (Some p))
gives_is p v e = let f : Some p ≡ v = cc in ap is_some (sym f)

writes_is : (r : Result OutputState RunError) (s : Store) → Valued false ((writes r s).answer)
writes_is (Ok o) s v e = let n : Option Plain = None in let f : n ≡ v = cc in ap is_some (sym f)
writes_is (Err x) s v e = absurd (cc)

-- of a function, whatever its operands are
abbrev AllValued : Bool → Function → Type 0
AllValued b (of_nothing f) = (s : Store) → Valued b (f s).answer
AllValued b (of_integer f) = (i : ℤ) (s : Store) → Valued b (f i s).answer
AllValued b (of_integers f) = (i j : ℤ) (s : Store) → Valued b (f i j s).answer
AllValued b (of_character f) = (c : ℕ) (s : Store) → Valued b (f c s).answer
AllValued b (of_text f) = (t : TextVal) (s : Store) → Valued b (f t s).answer
AllValued b (of_text_and_integer f) = (t : TextVal) (i : ℤ) (s : Store) → Valued b (f t i s).answer
AllValued b (of_text_and_integers f) = (t : TextVal) (i n : ℤ) (s : Store) → Valued b (f t i n s).answer
AllValued b (of_text_and_character f) = (t : TextVal) (c : ℕ) (s : Store) → Valued b (f t c s).answer
AllValued b elsewhere = Unit {0}

took_nothing : (vs : List Plain) (x e : Effect) → take_nothing vs x ≡ Some e → x ≡ e
unfolding take_nothing
took_nothing [] x e h = cc
took_nothing (v ∷ vs) x e h = absurd (cc)

took_integer : (vs : List Plain) (go : ℤ → List Plain → Option Effect) (e : Effect) → take_integer vs go ≡ Some e → (i : ℤ) × (rest : List Plain) × (go i rest ≡ Some e)
unfolding take_integer
took_integer [] go e h = absurd (cc)
took_integer (Integer z ∷ rest) go e h = (z, rest, h)
took_integer (_ ∷ rest) go e h = absurd (cc)

took_character : (vs : List Plain) (go : ℕ → List Plain → Option Effect) (e : Effect) → take_character vs go ≡ Some e → (c : ℕ) × (rest : List Plain) × (go c rest ≡ Some e)
unfolding take_character
took_character [] go e h = absurd (cc)
took_character (Character c ∷ rest) go e h = (c, rest, h)
took_character (_ ∷ rest) go e h = absurd (cc)

took_text : (vs : List Plain) (go : TextVal → List Plain → Option Effect) (e : Effect) → take_text vs go ≡ Some e → (t : TextVal) × (rest : List Plain) × (go t rest ≡ Some e)
unfolding take_text
took_text [] go e h = absurd (cc)
took_text (Text t ∷ rest) go e h = (t, rest, h)
took_text (_ ∷ rest) go e h = absurd (cc)

took_last : (b : Bool) (vs : List Plain) (x e : Effect) → Valued b x.answer → take_nothing vs x ≡ Some e → Valued b e.answer
took_last b vs x e a h v is = a v (ap (λ z. z.answer) (took_nothing vs x e h) ∙ is)

applied_valued : (b : Bool) (f : Function) (vs : List Plain) (s : Store) (e : Effect) → AllValued b f → applied f vs s ≡ Some e → Valued b e.answer
applied_valued b (of_nothing f) vs s e a h = took_last b vs (f s) e (a s) h
applied_valued b (of_integer f) vs s e a h = let x = took_integer vs _ e h in took_last b x.1 (f x.0 s) e (a x.0 s) x.2
applied_valued b (of_integers f) vs s e a h = let x = took_integer vs _ e h in let y = took_integer x.1 _ e x.2 in took_last b y.1 (f y.0 x.0 s) e (a y.0 x.0 s) y.2
applied_valued b (of_character f) vs s e a h = let x = took_character vs _ e h in took_last b x.1 (f x.0 s) e (a x.0 s) x.2
applied_valued b (of_text f) vs s e a h = let x = took_text vs _ e h in took_last b x.1 (f x.0 s) e (a x.0 s) x.2
applied_valued b (of_text_and_integer f) vs s e a h = let x = took_integer vs _ e h in let y = took_text x.1 _ e x.2 in took_last b y.1 (f y.0 x.0 s) e (a y.0 x.0 s) y.2
applied_valued b (of_text_and_integers f) vs s e a h =
    let x = took_integer vs _ e h in let y = took_integer x.1 _ e x.2 in let z = took_text y.1 _ e y.2 in took_last b z.1 (f z.0 y.0 x.0 s) e (a z.0 y.0 x.0 s) z.2
applied_valued b (of_text_and_character f) vs s e a h = let x = took_character vs _ e h in let y = took_text x.1 _ e x.2 in took_last b y.1 (f y.0 x.0 s) e (a y.0 x.0 s) y.2
applied_valued b elsewhere vs s e a h = absurd (cc)

row_valued : (name : Standard) → AllValued (has_value (row_of name).result) (row_of name).function
unfolding row_of
row_valued name.Abs = λ i s. valued_is _ _ _
row_valued name.Sign = λ i s. gives_is _
row_valued name.Min = λ i j s. gives_is _
row_valued name.Max = λ i j s. gives_is _
row_valued name.Mod = λ i j s. valued_is _ _ _
row_valued name.Rem = λ i j s. valued_is _ _ _
row_valued name.Maxint = λ s. gives_is _
row_valued name.Minint = λ s. gives_is _
row_valued name.Char = λ i s. valued_is _ _ _
row_valued name.Rank = λ c s. gives_is _
row_valued name.Isochar = λ i s. valued_is _ _ _
row_valued name.Isorank = λ c s. gives_is _
row_valued name.Digit = λ c s. gives_is _
row_valued name.Letter = λ c s. gives_is _
row_valued name.Blanks = λ i s. valued_is _ _ _
row_valued name.Copy = λ t s. valued_is TextVal Text (copy s.frames t).answer
row_valued name.Upcase = λ t s. valued_is _ _ _
row_valued name.Lowcase = λ t s. valued_is _ _ _
row_valued name.TextConstant = λ t s. gives_is _
row_valued name.TextStart = λ t s. gives_is _
row_valued name.TextLength = λ t s. gives_is _
row_valued name.TextPos = λ t s. gives_is _
row_valued name.TextMore = λ t s. gives_is _
row_valued name.TextMain = λ t s. gives_is _
row_valued name.TextSetpos = λ t i s. unvalued_is (setpos s.frames t i).answer
row_valued name.TextGetchar = λ t s. valued_is _ _ _
row_valued name.TextPutchar = λ t c s. unvalued_is _
row_valued name.TextSub = λ t i n s. valued_is _ _ _
row_valued name.TextStrip = λ t s. gives_is _
row_valued name.TextGetint = λ t s. valued_is _ _ _
row_valued name.TextPutint = λ t i s. unvalued_is _
row_valued name.Inimage = λ s. unvalued_is _
row_valued name.Inchar = λ s. valued_is _ _ _
row_valued name.Inint = λ s. valued_is _ _ _
row_valued name.Intext = λ i s. valued_is _ _ _
row_valued name.Lastitem = λ s. valued_is _ _ _
row_valued name.Endfile = λ s. gives_is _
row_valued name.Outimage = λ s. writes_is (Ok (outimage (output_of s))) s
row_valued name.Outchar = λ c s. writes_is (Ok (outchar (output_of s) c)) s
row_valued name.Outtext = λ t s. writes_is (Ok (outtext (output_of s) t)) s
row_valued name.Outint = λ i j s. writes_is _ s
row_valued name.Image = tt
row_valued name.Pos = tt
row_valued name.Setpos = tt
row_valued name.More = tt
row_valued name.Length = tt
row_valued name.Detach = tt
row_valued name.Call = tt
row_valued name.Resume = tt
row_valued name.Suc = tt
row_valued name.Pred = tt
row_valued name.Prev = tt
row_valued name.Out = tt
row_valued name.Follow = tt
row_valued name.Precede = tt
row_valued name.Into = tt
row_valued name.First = tt
row_valued name.Last = tt
row_valued name.Empty = tt
row_valued name.Cardinal = tt
row_valued name.Clear = tt
row_valued name.Idle = tt
row_valued name.Terminated = tt
row_valued name.Evtime = tt
row_valued name.Nextev = tt
row_valued name.Time = tt
row_valued name.Current = tt
row_valued name.Main = tt
row_valued name.Hold = tt
row_valued name.Passivate = tt
row_valued name.Wait = tt
row_valued name.Cancel = tt

pub standard_valued : (name : Standard) (vs : List Plain) (store : Store) (e : Effect) (v : Option Plain) → standard_effect name vs store ≡ Some e → e.answer ≡ Ok v → is_some v ≡ has_value (row_of name).result
unfolding standard_effect
standard_valued name vs store e v h is = applied_valued (has_value (row_of name).result) (row_of name).function vs store e (row_valued name) h v is
