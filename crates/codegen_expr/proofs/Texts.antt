-- Constants, and the addresses of images.
use Rattle.std.proofs.Common.{◌≡◌, ◌<◌, ◌+◌, ℕ, ℤ, suc, pos, Bool, true, false, if◌then◌else◌, List, [], ◌∷◌, map, Option, Some, None, refl, sym, ap, ◌∙◌, subst, arith}
use Rattle.std.specs.Prelude.{⊤, ◌==◌, slice_get}
use Rattle.sim_base.specs.declared.numbering.DeclNo.{DeclNo}
use Rattle.sim_base.specs.declared.numbering.TokenNo.{TokenNo}
use Rattle.sim_scope.specs.declared.bound.Bound.{Bound}
use Rattle.sim_scope.specs.Source.{Source, source_of}
use Rattle.sim_tree.specs.Syntax.{NoMore}
use Rattle.sim_values.specs.declared.value.TextVal.{TextVal}
use Rattle.sim_values.specs.Plain.{Plain, Integer, Truth, Character, Text, Object, MainOf, Nothing}
use Rattle.sim_code.specs.declared.instr.Instr.{Instr}
use Rattle.sim_code.specs.declared.instr.Instr.TheVariants as i
use Rattle.sim_code.specs.Rows.{text_value}
use Rattle.sim_meaning.specs.Constants.{TextConstant, bytes_of, constant_from, constants_of, text_constant, text_constants}
use Rattle.sim_meaning.specs.Texts.{constant_of}
use Rattle.codegen_expr.specs.declared.cells.ConstantValue.{ConstantValue}
use Rattle.codegen_expr.specs.declared.cells.ConstantValue.TheVariants as constant
use Rattle.codegen_expr.specs.declared.spot.Spot.{Spot}
use Rattle.codegen_expr.specs.Built.{ConstantBuilt, PlainBuilt}
use Rattle.codegen_expr.specs.CodeExpr.{ConstantAt, GivenAt, IsConstant, PlainAt}
use Rattle.codegen_expr.specs.Drafts.{DraftOf, Emits, given_up, with_push}
use Rattle.codegen_expr.specs.Emit.{FindsInstr, FoundInstr, PushesValue, WritesConstant, WritesImage, WritesTextAt}
use Rattle.codegen_expr.specs.Known.{number_in, plain_in, plain_of}
use Rattle.codegen_expr.specs.Sites.{Pushes}
use Rattle.codegen_expr.proofs.Pieces.{emits_as, emits_nothing, emits_push}

-- ---- text constants are listed

-- a value is the k-th constant of a list, whose numbers begin with n
pub record Listed (n : ℕ) (cs : List TextConstant) (v : Plain) : Type 0 where
  pub text : TextVal
  pub k : ℕ
  pub bytes : List ℕ
  pub is : v ≡ Text text
  pub number : text.text_frame ≡ n + k
  pub there : slice_get (map bytes_of cs) k ≡ Some bytes
  pub whole : Text text ≡ text_value text.text_frame bytes

listed : (n token : ℕ) (cs : List TextConstant) (v : Plain) → constant_from n token cs ≡ Some v → Listed n cs v
listed n token [] v e = absurd (cc)
listed n token (c ∷ cs) v e = cases (c.token == token) (listed (suc n) token cs v) e
  where
    cases : (q : Bool) → (constant_from (suc n) token cs ≡ Some v → Listed (suc n) cs v) → (if q then Some (text_value n c.bytes) else constant_from (suc n) token cs) ≡ Some v → Listed n (c ∷ cs) v
    cases true g e = let is : text_value n c.bytes ≡ v = cc in record { text = _; k = 0; bytes = c.bytes; is = sym is; number = (let z : n ≡ n + 0 = omega arith in z); there = refl; whole = refl }
    cases false g e =
        let r = g e in
        let rk = r.k in
        let z : suc n + rk ≡ n + suc rk = omega arith in
        record { text = r.text; k = suc rk; bytes = r.bytes; is = r.is; number = r.number ∙ z; there = r.there; whole = r.whole }

is_constant : (s : Source) (token : ℕ) (t : TextVal) → text_constant s token ≡ Some (Text t) → IsConstant s t
unfolding text_constant constants_of
is_constant s token t e =
    let r = listed 0 token (text_constants s) (Text t) e in
    let rk = r.k in
    let same : t ≡ r.text = (let q : Text t ≡ Text r.text = r.is in cc) in
    let at : t.text_frame ≡ rk = ap (λ z. z.text_frame) same ∙ r.number ∙ (let z : 0 + rk ≡ rk = omega arith in z) in
    record {
      bytes = r.bytes;
      listed = ap (slice_get (map bytes_of (text_constants s))) at ∙ r.there;
      whole = subst (λ z. Text z ≡ text_value z.text_frame r.bytes) (sym same) r.whole;
    }

only_texts : (s : Source) (token : ℕ) (v : Plain) → text_constant s token ≡ Some v → (t : TextVal) × (v ≡ Text t)
unfolding text_constant
only_texts s token v e = let r = listed 0 token (text_constants s) v e in (r.text, r.is)

found_text : (s : Source) (token : ℕ) (o : Option Plain) → text_constant s token ≡ o → (k : ℕ) (x : Instr) → Some k ≡ number_in o → x ≡ i.TextK (pos k) → FoundInstr s o (Some x)
found_text s token None e k x en ex = absurd (cc)
found_text s token (Some (Integer z)) e k x en ex = absurd (cc)
found_text s token (Some (Truth z)) e k x en ex = absurd (cc)
found_text s token (Some (Character z)) e k x en ex = absurd (cc)
found_text s token (Some (Text t)) e k x en ex = (is_constant s token t e, ex ∙ ap (λ z. i.TextK (pos z)) (let q : k ≡ t.text_frame = cc in q))
found_text s token (Some (Object z)) e k x en ex = absurd (cc)
found_text s token (Some (MainOf z)) e k x en ex = absurd (cc)
found_text s token (Some Nothing) e k x en ex = absurd (cc)

no_text : (s : Source) (token : ℕ) (o : Option Plain) → text_constant s token ≡ o → None ≡ number_in o → FoundInstr s o None
no_text s token None e en = tt
no_text s token (Some v) e en = let r = only_texts s token v e in absurd (other v r.0 r.1 en)
  where
    other : (v : Plain) (t : TextVal) → v ≡ Text t → None ≡ number_in (Some v) → ⊥
    other v t is en = let q : None ≡ Some t.text_frame = en ∙ ap (λ z. number_in (Some z)) is in cc

-- ---- instructions that push constants

pub text_found : (b : Bound) (token : TokenNo) (o : Option ℕ) (k : ℕ) (x : Instr) → o ≡ number_in (text_constant (source_of b) token.0) → o ≡ Some k → x ≡ i.TextK (pos k) → FindsInstr b (text_constant (source_of b) token.0) (Some x)
unfolding FindsInstr
text_found b token o k x eo some ex = found_text (source_of b) token.0 (text_constant (source_of b) token.0) refl k x (sym some ∙ eo) ex

pub text_not_found : (b : Bound) (token : TokenNo) (o : Option ℕ) → o ≡ number_in (text_constant (source_of b) token.0) → o ≡ None → FindsInstr b (text_constant (source_of b) token.0) None
unfolding FindsInstr
text_not_found b token o eo none = no_text (source_of b) token.0 (text_constant (source_of b) token.0) refl (sym none ∙ eo)

finds_as : (b : Bound) (v w : ConstantValue) (r : Option Instr) → v ≡ w → FindsInstr b (plain_of (source_of b) w) r → FindsInstr b (plain_of (source_of b) v) r
finds_as b v w r e f = subst (λ z. FindsInstr b (plain_of (source_of b) z) r) (sym e) f

pub instr_integer : (b : Bound) (v : ConstantValue) (z : ℤ) → v ≡ constant.Integer z → FindsInstr b (plain_of (source_of b) v) (Some (i.Int z))
unfolding FindsInstr
instr_integer b v z is = subst (λ u. FoundInstr (source_of b) (plain_of (source_of b) u) (Some (i.Int z))) (sym is) refl

pub instr_character : (b : Bound) (v : ConstantValue) (z : ℕ) (x : Instr) → v ≡ constant.Character z → x ≡ i.Char (pos z) → z < 256 → FindsInstr b (plain_of (source_of b) v) (Some x)
unfolding FindsInstr
instr_character b v z x is ex small = subst (λ u. FoundInstr (source_of b) (plain_of (source_of b) u) (Some x)) (sym is) (small, ex)

pub instr_true : (b : Bound) (v : ConstantValue) (t : Bool) → v ≡ constant.Truth t → t ≡ true → FindsInstr b (plain_of (source_of b) v) (Some (i.Bool (pos 1)))
unfolding FindsInstr
instr_true b v t is et = subst (λ u. FoundInstr (source_of b) (plain_of (source_of b) u) (Some (i.Bool (pos 1)))) (sym (is ∙ ap constant.Truth et)) refl

pub instr_false : (b : Bound) (v : ConstantValue) (t : Bool) → v ≡ constant.Truth t → t ≡ false → FindsInstr b (plain_of (source_of b) v) (Some (i.Bool (pos 0)))
unfolding FindsInstr
instr_false b v t is et = subst (λ u. FoundInstr (source_of b) (plain_of (source_of b) u) (Some (i.Bool (pos 0)))) (sym (is ∙ ap constant.Truth et)) refl

pub instr_text : (b : Bound) (v : ConstantValue) (token : TokenNo) (r : Option Instr) → v ≡ constant.Text token → FindsInstr b (text_constant (source_of b) token.0) r → FindsInstr b (plain_of (source_of b) v) r
instr_text b v token r is f = finds_as b v (constant.Text token) r is f

-- ---- what is written

module _ (b : Bound) (w : Spot) (n : ℕ) where
  value_emits : (v : Plain) (x : Instr) (a c : DraftOf) → PushesValue (source_of b) v x → c ≡ with_push a n x 0 → Emits w a c (PlainBuilt v) (λ final site p q. PlainAt (source_of b) final site n v p q)
  value_emits (Integer z) x a c ex ec = emits_push w a c n (i.Int z) 0 (ec ∙ ap (λ y. with_push a n y 0) ex) (λ z. cc) refl
  value_emits (Truth true) x a c ex ec = emits_push w a c n (i.Bool (pos 1)) 0 (ec ∙ ap (λ y. with_push a n y 0) ex) (λ z. cc) refl
  value_emits (Truth false) x a c ex ec = emits_push w a c n (i.Bool (pos 0)) 0 (ec ∙ ap (λ y. with_push a n y 0) ex) (λ z. cc) refl
  value_emits (Character z) x a c ex ec =
      emits_as w ⊤ ⊤ (λ final site p q. Pushes final site n (i.Char (pos z)) p q) _ a c (λ t. t) (λ t. t) (λ final site p q _ _ r. (ex.0, r)) (emits_push w a c n (i.Char (pos z)) 0 (ec ∙ ap (λ y. with_push a n y 0) ex.1) (λ z. cc) refl)
  value_emits (Text t) x a c ex ec =
      emits_as w ⊤ ⊤ (λ final site p q. Pushes final site n (i.TextK (pos t.text_frame)) p q) _ a c (λ t. t) (λ t. t) (λ final site p q _ _ r. (ex.0, r)) (emits_push w a c n (i.TextK (pos t.text_frame)) 0 (ec ∙ ap (λ y. with_push a n y 0) ex.1) (λ z. cc) refl)
  value_emits (Object z) x a c ex ec = absurd ex
  value_emits (MainOf z) x a c ex ec = absurd ex
  value_emits Nothing x a c ex ec = absurd ex

  constant_emits : (o : Option Plain) (x : Instr) (a c : DraftOf) → FoundInstr (source_of b) o (Some x) → c ≡ with_push a n x 0 → Emits w a c (ConstantBuilt o NoMore) (λ final site p q. GivenAt (source_of b) final site n o p q)
  constant_emits None x a c f ec = absurd f
  constant_emits (Some v) x a c f ec = value_emits v x a c f ec

  as_constant : (o : Option Plain) (a c : DraftOf) → Emits w a c (ConstantBuilt o NoMore) (λ final site p q. GivenAt (source_of b) final site n o p q) → Emits w a c (ConstantBuilt o NoMore) (λ final site p q. ConstantAt (source_of b) final site n o NoMore p q)
  as_constant None a c f = f
  as_constant (Some v) a c f = f

  no_constant : (o : Option Plain) → FoundInstr (source_of b) o None → ConstantBuilt o NoMore → ⊥
  no_constant None f h = h
  no_constant (Some v) f h = f h

  pub see_value : (a c : DraftOf) (d : DeclNo) (u : Option ConstantValue) (v : ConstantValue) (r : Option Instr) (x : Instr) → plain_in (source_of b) u ≡ constant_of (source_of b) d → u ≡ Some v → FindsInstr b (plain_of (source_of b) v) r → r ≡ Some x → c ≡ with_push a n x 0 → WritesConstant b w n a c d
  unfolding WritesConstant FindsInstr
  see_value a c d u v r x eu some f er ec =
      let s = source_of b in
      let is : plain_of s v ≡ constant_of s d = ap (plain_in s) (sym some) ∙ eu in
      subst (λ o. Emits w a c (ConstantBuilt o NoMore) (λ final site p q. ConstantAt s final site n o NoMore p q)) is
      (as_constant (plain_of s v) a c (constant_emits (plain_of s v) x a c (subst (FoundInstr s (plain_of s v)) er f) ec))

  pub see_no_instr : (a c : DraftOf) (d : DeclNo) (u : Option ConstantValue) (v : ConstantValue) (r : Option Instr) → plain_in (source_of b) u ≡ constant_of (source_of b) d → u ≡ Some v → FindsInstr b (plain_of (source_of b) v) r → r ≡ None → c ≡ given_up a → WritesConstant b w n a c d
  unfolding WritesConstant FindsInstr
  see_no_instr a c d u v r eu some f er ec =
      let s = source_of b in
      let is : plain_of s v ≡ constant_of s d = ap (plain_in s) (sym some) ∙ eu in
      emits_nothing w a c _ _ (λ h. no_constant (plain_of s v) (subst (FoundInstr s (plain_of s v)) er f) (subst (λ o. ConstantBuilt o NoMore) (sym is) h)) ec

  pub see_no_value : (a c : DraftOf) (d : DeclNo) (u : Option ConstantValue) → plain_in (source_of b) u ≡ constant_of (source_of b) d → u ≡ None → c ≡ given_up a → WritesConstant b w n a c d
  unfolding WritesConstant
  see_no_value a c d u eu none ec =
      let s = source_of b in
      let is : None ≡ constant_of s d = ap (plain_in s) (sym none) ∙ eu in
      emits_nothing w a c _ _ (λ h. subst (λ o. ConstantBuilt o NoMore) (sym is) h) ec

  pub see_text : (a c : DraftOf) (token : TokenNo) (r : Option Instr) (x : Instr) → FindsInstr b (text_constant (source_of b) token.0) r → r ≡ Some x → c ≡ with_push a n x 0 → WritesTextAt b w n a c token
  unfolding WritesTextAt FindsInstr
  see_text a c token r x f er ec = let s = source_of b in constant_emits (text_constant s token.0) x a c (subst (FoundInstr s (text_constant s token.0)) er f) ec

  pub see_no_text : (a c : DraftOf) (token : TokenNo) (r : Option Instr) → FindsInstr b (text_constant (source_of b) token.0) r → r ≡ None → c ≡ given_up a → WritesTextAt b w n a c token
  unfolding WritesTextAt FindsInstr
  see_no_text a c token r f er ec = let s = source_of b in emits_nothing w a c _ _ (λ h. no_constant (text_constant s token.0) (subst (FoundInstr s (text_constant s token.0)) er f) h) ec

pub see_image : (w : Spot) (n : ℕ) (a c : DraftOf) (image : ℕ) (x : Instr) → x ≡ i.AddrImg (pos image) → c ≡ with_push a n x 0 → WritesImage w n a c image
unfolding WritesImage
see_image w n a c image x ex ec = emits_push w a c n (i.AddrImg (pos image)) 0 (ec ∙ ap (λ y. with_push a n y 0) ex) (λ z. cc) refl

pub ruleset texts = (text_found, text_not_found, instr_integer, instr_character, instr_true, instr_false, instr_text, see_value, see_no_instr, see_no_value, see_text, see_no_text, see_image)
