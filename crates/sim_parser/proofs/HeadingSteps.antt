-- Headings: formal parameters, protection, virtual procedures.
use Rattle.std.proofs.Common.{◌≡◌, ◌≤◌, ◌<◌, ℕ, ◌+◌, Bool, true, false, List, [], ◌∷◌, ◌++◌, length, map, Option, Some, None, refl, subst, sym, ap, ◌∙◌, arith, if◌then◌else◌, ◌⊎◌, inl, inr, length-append}
use Rattle.std.proofs.lemmas.Bool.{false≢true, lt-ltb, le-ltb}
use Rattle.std.specs.Option.{is_some}
use Rattle.std.specs.Prelude.{◌||◌}
use Rattle.sim_base.specs.declared.numbering.TokenNo.{TokenNo}
use Rattle.sim_base.specs.declared.token.Token.{Token}
use Rattle.sim_base.specs.declared.token.TokenKind.{TokenKind}
use Rattle.sim_base.specs.declared.token.TokenKind.TheVariants as k
use Rattle.sim_tree.specs.declared.expr.Identifier.{Identifier}
use Rattle.sim_tree.specs.declared.stmt.ModePart.{ModePart}
use Rattle.sim_tree.specs.declared.stmt.Specification.{Specification}
use Rattle.sim_tree.specs.declared.stmt.VirtualSpecification.{VirtualSpecification}
use Rattle.sim_tree.specs.Grammar as g
use Rattle.sim_tree.specs.Grammar.{Part, Symbol, Kept, Mark, Of, Once, Maybe, Many, is, one_of, just, types, right_side, is_counted}
use Rattle.sim_tree.specs.Reading.{Forest, done, node, kind_at, reads-done, reads-skip, Fails, fails-part, fails-deep, fails-inside, after-part, after-skip, Fault, Unexpected, TooDeep, bare_leaf}
use Rattle.sim_tree.specs.Claim.{one}
use Rattle.sim_tree.specs.Derivation.{row}
use Rattle.sim_tree.specs.ProgramDerivation.{ids, heading_derivation, mode_derivation, specification_derivation, virtual_derivation, virtuals_derivation, protecting}
use Rattle.sim_tree.specs.Tree.{limit, ReadsPart}
use Rattle.sim_tree.proofs.DerivationLemmas.{row-append, map-append}
use Rattle.sim_tree.proofs.Steps.{Leads, start, past-one, leads-as}
use Rattle.sim_expr_parser.specs.declared.refusal.Stop.{Stop}
use Rattle.sim_expr_parser.specs.declared.refusal.Stop.TheVariants as stop
use Rattle.sim_expr_parser.specs.Parsing.{ReadsTo, Stops}
use Rattle.sim_expr_parser.proofs.Steps.{Within, opened, to, stops, stops-at, gone, once, maybe, skipped, marked, kept, once-stops, mark-stops}
use Rattle.sim_expr_parser.proofs.Tables.{one_row, by_test, just_is}
use Rattle.sim_expr_parser.proofs.Tokens.{is_bare, took, took_one}
use Rattle.sim_parser.specs.Parsing.{ReadsAll}
use Rattle.sim_parser.specs.Fronts.{ReadsFront, GivesWord, names_row}
use Rattle.sim_parser.proofs.Along.{all, along, along-stops, closed-by, past}
use Rattle.sim_parser.proofs.NameSteps.{within-as, no-type}

none≢some : {A : Type 0} {o : Option A} {x : A} → o ≡ None → o ≡ Some x → ⊥
none≢some none some = false≢true (sym (ap is_some none) ∙ ap is_some some)

-- Past what stands in front of the rest of a part.
pub front : {ws : List Token} {d i j : ℕ} {n : Part} {s : List Symbol} {F : Forest → Forest} → Within ws d n i F d s j → ReadsFront ws d n i F s j
front w = record {
  reads = λ f m r. closed-by w f r _ refl;
  fails = λ e h rest times. stops-at times w e h rest;
  ahead = w.ahead;
  within = w.within;
}

-- A part that stands there at least once.
abbrev pub Rows : List Token → ℕ → Part → ℕ → List Forest → ℕ → Type 0
Rows ws d n b fs at = Leads ws d (Of Once n ∷ Of Many n ∷ []) b (row n fs) d (Of Many n ∷ []) at

module _ {A : Type 0} (view : A → Forest) {ws : List Token} {d b : ℕ} {n : Part} where
  pub rows-start : {at : ℕ} (xs : List A) (x : A) → xs ≡ x ∷ [] → ReadsPart ws d n b (view x) at → Rows ws d n b (map view xs) at
  rows-start xs x e p = leads-as (node n (view x)) (row n (map view xs)) (λ f. sym (ap (λ l. row n (map view l) f) e)) (past-one (start d (Of Once n ∷ Of Many n ∷ []) b) p)

  pub rows-more : {at end : ℕ} (xs ys : List A) (y : A) → Rows ws d n b (map view xs) at → ReadsPart ws d n at (view y) end → ys ≡ xs ++ y ∷ [] → Rows ws d n b (map view ys) end
  rows-more xs ys y l p same =
      leads-as (λ h. row n (map view xs) (node n (view y) h)) (row n (map view ys))
      (λ h. sym (ap (λ z. row n (map view z) h) same ∙ ap (λ z. row n z h) (map-append view xs y) ∙ row-append n (map view xs) (view y) h))
      (past-one l p)

  pub rows-end : {at : ℕ} (xs : List A) → Rows ws d n b (map view xs) at → right_side n (kind_at ws at) ≡ None → b ≤ at → at < length ws
      → ReadsAll ws d (Of Once n ∷ Of Many n ∷ []) b (row n (map view xs) done) at
  rows-end {at} xs l none ahead within = record { reads = l.reads done at (reads-skip none refl reads-done); ahead = ahead; within = within }

pub more-some : {A : Type 0} (xs ys : List A) (y : A) → ys ≡ xs ++ y ∷ [] → 0 < length ys
more-some xs ys y e = omega (arith, ap length e, length-append xs (y ∷ []))

-- Identifiers with a semicolon behind them.
pub names-end : {ws : List Token} {d i j m : ℕ} (xs : List Identifier) → i < length ws → ReadsPart ws d g.Identifiers i (ids xs) j → (is (kind_at ws j) k.Semicolon ≡ true) × (m ≡ j + 1) × (m < length ws)
    → ReadsAll ws d names_row i (node g.Identifiers (ids xs) done) m
names-end {ws} {d} {i} xs within p w = all (past (past (along d i names_row within) (once p)) (marked w)) _ refl

pub names-first-stop : (ws : List Token) (d i : ℕ) (x : Stop) → Stops ws d (one g.Identifiers) i x → Stops ws d names_row i x
names-first-stop ws d i x h = once-stops ws d i g.Identifiers x h (Mark k.Semicolon ∷ [])

pub names-last-stop : {ws : List Token} {d i j : ℕ} {f : Forest} (x : Stop) → i < length ws → ReadsPart ws d g.Identifiers i f j → (is (kind_at ws j) k.Semicolon ≡ false) × (x ≡ stop.Unexpected j) → Stops ws d names_row i x
names-last-stop {ws} {d} {i} {j} x within p h = along-stops (past (along d i names_row within) (once p)) x (mark-stops ws d j k.Semicolon x h)

-- where a part stops whose row begins with another part, and that begins only where that one does
pub part-first-stops : (ws : List Token) (d i : ℕ) (n b : Part) (s : List Symbol) → is_counted n ≡ false → i < length ws
    → (right_side n (kind_at ws i) ≡ Some (Of Once b ∷ s)) ⊎ ((right_side n (kind_at ws i) ≡ None) × (right_side b (kind_at ws i) ≡ None))
    → (x : Stop) → Stops ws d (one b) i x → Stops ws d (one n) i x
part-first-stops ws d i n b s plain within (inl e) x h = stops (opened ws d i n (Of Once b ∷ s) plain e within) x (once-stops ws d i b x h)
part-first-stops ws d i n b s plain within (inr e) x h = other x h
  where
    apart : {r : List Symbol} → right_side b (kind_at ws i) ≡ Some r → ⊥
    apart q = none≢some e.1 q

    unexpected : {m : ℕ} → Fails limit ws d (one b) i (Unexpected m) → Fails limit ws d (one n) i (Unexpected m)
    unexpected (fails-part q may) = fails-part e.0 refl
    unexpected (fails-inside q sh r) = absurd (apart q)
    unexpected (after-part q sh r z) = absurd (apart q)
    unexpected (after-skip q may z) = absurd (false≢true may)

    deep : {m : ℕ} → Fails limit ws d (one b) i (TooDeep m) → Fails limit ws d (one n) i (TooDeep m)
    deep (fails-deep q sh) = absurd (apart q)
    deep (fails-inside q sh r) = absurd (apart q)
    deep (after-part q sh r z) = absurd (apart q)
    deep (after-skip q may z) = absurd (false≢true may)

    other : (x : Stop) → Stops ws d (one b) i x → Stops ws d (one n) i x
    other (stop.Unexpected m) q = unexpected q
    other (stop.TooDeep m) q = deep q
    other stop.Memory q = tt

-- a type begins with what begins types
pub type-began : {ws : List Token} {d i j : ℕ} {f : Forest} → ReadsPart ws d g.TypeName i f j → one_of types (kind_at ws i) ≡ true
type-began {ws} {d} {i} p = go (one_of types (kind_at ws i)) refl
  where
    go : (v : Bool) → one_of types (kind_at ws i) ≡ v → one_of types (kind_at ws i) ≡ true
    go true e = e
    go false e = absurd (none≢some (no-type (kind_at ws i) e) p.begins)

-- Formal parameters.
abbrev pub parameters_row : List Symbol
parameters_row = Mark k.Open ∷ Of Once g.Identifiers ∷ Mark k.Close ∷ Mark k.Semicolon ∷ Of Many g.Mode ∷ Of Once g.Specification ∷ Of Many g.Specification ∷ []

abbrev pub no_parameters_row : List Symbol
no_parameters_row = Mark k.Semicolon ∷ []

pub heading-row : (a : TokenKind) (v w : Bool) → is a k.Open ≡ v → is a k.Semicolon ≡ w
    → right_side g.Heading a ≡ (if v || false then Some parameters_row else (if w || false then Some no_parameters_row else None))
unfolding right_side
heading-row a v w h e =
    ap (λ x. if x || false then Some parameters_row else (if is a k.Semicolon || false then Some no_parameters_row else None)) h
    ∙ ap (λ x. if v || false then Some parameters_row else (if x || false then Some no_parameters_row else None)) e

pub heading_semicolon : right_side g.Heading k.Semicolon ≡ Some no_parameters_row
unfolding right_side is
heading_semicolon = refl

pub heading_open : right_side g.Heading k.Open ≡ Some parameters_row
unfolding right_side is
heading_open = refl

pub heading-none : (ps : List Identifier) (ms : List ModePart) (ss : List Specification) → ps ≡ [] → ms ≡ [] → ss ≡ [] → done ≡ heading_derivation ps ms ss
heading-none ps ms ss a b c = sym (ap (λ z. heading_derivation z ms ss) a ∙ ap (λ z. heading_derivation [] z ss) b ∙ ap (heading_derivation [] []) c)

pub heading-some : (ps : List Identifier) (ms : List ModePart) (ss : List Specification) → 0 < length ss
    → node g.Identifiers (ids ps) (row g.Mode (map mode_derivation ms) (row g.Specification (map specification_derivation ss) done)) ≡ heading_derivation ps ms ss
heading-some ps ms [] h = absurd (omega (arith, h))
heading-some [] [] (x ∷ ss) h = refl
heading-some [] (y ∷ ms) (x ∷ ss) h = refl
heading-some (z ∷ ps) [] (x ∷ ss) h = refl
heading-some (z ∷ ps) (y ∷ ms) (x ∷ ss) h = refl

abbrev pub mode_row : List Symbol
mode_row = Kept (k.Value ∷ k.Name ∷ []) ∷ names_row

-- Specifications.
abbrev pub typed_spec_row : List Symbol
typed_spec_row = Of Once g.TypeName ∷ Of Maybe g.SpecifiedKind ∷ names_row

abbrev pub procedure_row : List Symbol
procedure_row = Kept (just k.Procedure) ∷ names_row

abbrev pub kinds : List TokenKind
kinds = k.Array ∷ k.Procedure ∷ []

pub spec-row : (a : TokenKind) (v w : Bool) → one_of types a ≡ v → is a k.Procedure ≡ w
    → right_side g.Specification a ≡ (if v then Some typed_spec_row else (if w || false then Some procedure_row else None))
unfolding right_side
spec-row a v w h e =
    ap (λ x. if x then Some typed_spec_row else (if is a k.Procedure || false then Some procedure_row else None)) h
    ∙ ap (λ x. if v then Some typed_spec_row else (if x || false then Some procedure_row else None)) e

pub spec_procedure : right_side g.Specification k.Procedure ≡ Some procedure_row
unfolding right_side is
spec_procedure = refl

-- Virtual procedures.
abbrev pub virtual_row : List Symbol
virtual_row = Mark k.Virtual ∷ Mark k.Colon ∷ Of Once g.VirtualSpecification ∷ Of Many g.VirtualSpecification ∷ []

abbrev pub typed_virtual_row : List Symbol
typed_virtual_row = Of Once g.TypeName ∷ procedure_row

pub virtual-spec-row : (a : TokenKind) (v w : Bool) → one_of types a ≡ v → is a k.Procedure ≡ w
    → right_side g.VirtualSpecification a ≡ (if v then Some typed_virtual_row else (if w || false then Some procedure_row else None))
unfolding right_side
virtual-spec-row a v w h e =
    ap (λ x. if x then Some typed_virtual_row else (if is a k.Procedure || false then Some procedure_row else None)) h
    ∙ ap (λ x. if v then Some typed_virtual_row else (if x || false then Some procedure_row else None)) e

pub virtual_procedure : right_side g.VirtualSpecification k.Procedure ≡ Some procedure_row
unfolding right_side is
virtual_procedure = refl

pub virtuals-some : (vs : List VirtualSpecification) (f : Forest) → 0 < length vs → node g.Virtuals (row g.VirtualSpecification (map virtual_derivation vs) done) f ≡ virtuals_derivation vs f
virtuals-some [] f h = absurd (omega (arith, h))
virtuals-some (v ∷ vs) f h = refl

-- what the test for a specification tells
pub begins-neither : (a : TokenKind) → one_of (k.Procedure ∷ types) a ≡ false → (one_of types a ≡ false) × (is a k.Procedure ≡ false)
begins-neither a h = go (is a k.Procedure) (one_of types a) refl refl h
  where
    go : (v w : Bool) → is a k.Procedure ≡ v → one_of types a ≡ w → (v || w) ≡ false → (one_of types a ≡ false) × (is a k.Procedure ≡ false)
    go true w p q x = absurd (false≢true (sym x))
    go false true p q x = absurd (false≢true (sym x))
    go false false p q x = (q, p)

-- where a specification, or virtual procedures, stop at their type
pub type-stops : (ws : List Token) (d i : ℕ) → i < length ws → is (kind_at ws i) k.Procedure ≡ false → (x : Stop) → Stops ws d (one g.TypeName) i x → Stops ws d (one g.Specification) i x × Stops ws d (one g.VirtualSpecification) i x
type-stops ws d i within plain x h = go (one_of types (kind_at ws i)) refl
  where
    go : (v : Bool) → one_of types (kind_at ws i) ≡ v → Stops ws d (one g.Specification) i x × Stops ws d (one g.VirtualSpecification) i x
    go true e = (
      part-first-stops ws d i g.Specification g.TypeName (Of Maybe g.SpecifiedKind ∷ names_row) refl within (inl (spec-row (kind_at ws i) true false e plain)) x h,
      part-first-stops ws d i g.VirtualSpecification g.TypeName procedure_row refl within (inl (virtual-spec-row (kind_at ws i) true false e plain)) x h,
    )
    go false e = (
      part-first-stops ws d i g.Specification g.TypeName [] refl within (inr (spec-row (kind_at ws i) false false e plain, no-type (kind_at ws i) e)) x h,
      part-first-stops ws d i g.VirtualSpecification g.TypeName [] refl within (inr (virtual-spec-row (kind_at ws i) false false e plain, no-type (kind_at ws i) e)) x h,
    )

-- Protection.
abbrev pub hidden_row : List Symbol
hidden_row = Kept (just k.Hidden) ∷ Of Maybe g.AndProtected ∷ names_row

abbrev pub protected_row : List Symbol
protected_row = Kept (just k.Protected) ∷ Of Maybe g.AndHidden ∷ names_row

protection_hidden : right_side g.Protection k.Hidden ≡ Some hidden_row
unfolding right_side is
protection_hidden = refl

protection_protected : right_side g.Protection k.Protected ≡ Some protected_row
unfolding right_side is
protection_protected = refl

pub no-protection : (a : TokenKind) → is a k.Hidden ≡ false → is a k.Protected ≡ false → right_side g.Protection a ≡ None
unfolding right_side
no-protection a h e =
    ap (λ x. if x || false then Some hidden_row else (if is a k.Protected || false then Some protected_row else None)) h
    ∙ ap (λ x. if x || false then Some protected_row else None) e

pub word-within : (ws : List Token) (i j : ℕ) (a : TokenKind) (o : Option TokenNo) → GivesWord ws i a o j → i < length ws → j < length ws
word-within ws i j a None w h = omega (arith, w.1, h)
word-within ws i j a (Some x) w h = w.2

open-hidden : (ws : List Token) (d i j : ℕ) (h : TokenNo) → i < length ws → GivesWord ws i k.Hidden (Some h) j → Within ws d g.Protection i (bare_leaf h.0 k.Hidden) d (Of Maybe g.AndProtected ∷ names_row) j
open-hidden ws d i j h within a =
    to (opened ws d i g.Protection hidden_row refl (by_test g.Protection (kind_at ws i) k.Hidden hidden_row a.0 protection_hidden) within) (kept h.0 a.3 (took_one ws i j k.Hidden refl (a.0, a.1, a.2)))

open-protected : (ws : List Token) (d i j : ℕ) (p : TokenNo) → i < length ws → GivesWord ws i k.Protected (Some p) j → Within ws d g.Protection i (bare_leaf p.0 k.Protected) d (Of Maybe g.AndHidden ∷ names_row) j
open-protected ws d i j p within a =
    to (opened ws d i g.Protection protected_row refl (by_test g.Protection (kind_at ws i) k.Protected protected_row a.0 protection_protected) within) (kept p.0 a.3 (took_one ws i j k.Protected refl (a.0, a.1, a.2)))

pub hidden-front : (ws : List Token) (d i j m : ℕ) (h p : Option TokenNo) → i < length ws → GivesWord ws i k.Hidden h j → GivesWord ws j k.Protected p m → is_some h ≡ true → ReadsFront ws d g.Protection i (protecting h p) names_row m
hidden-front ws d i j m None p within a b some = absurd (false≢true some)
hidden-front ws d i j m (Some h) None within a b some =
    front (subst (λ z. Within ws d g.Protection i (bare_leaf h.0 k.Hidden) d names_row z) (sym b.1)
    (to (open-hidden ws d i j h within a) (skipped (one_row g.AndProtected (just k.Protected) (Kept (just k.Protected) ∷ []) (kind_at ws j) false refl (just_is _ _ _ b.0)) a.2)))
hidden-front ws d i j m (Some h) (Some p) within a b some =
    front (within-as (λ f. bare_leaf h.0 k.Hidden (node g.AndProtected (bare_leaf p.0 k.Protected done) f)) (protecting (Some h) (Some p))
    (λ f. sym (ap (λ z. if z then bare_leaf h.0 k.Hidden (node g.AndProtected (bare_leaf p.0 k.Protected done) f) else bare_leaf p.0 k.Protected (node g.AndHidden (bare_leaf h.0 k.Hidden done) f)) (lt-ltb h.0 p.0 (omega (arith, a.1, a.3, b.3)))))
    (to (open-hidden ws d i j h within a)
    (maybe (gone (to (opened ws d j g.AndProtected (Kept (just k.Protected) ∷ []) refl (one_row g.AndProtected (just k.Protected) (Kept (just k.Protected) ∷ []) (kind_at ws j) true refl (just_is _ _ _ b.0)) a.2)
    (kept p.0 b.3 (took_one ws j m k.Protected refl (b.0, b.1, b.2)))) (bare_leaf p.0 k.Protected done) refl))))

pub protected-front : (ws : List Token) (d i j m n : ℕ) (h p q : Option TokenNo) → i < length ws → GivesWord ws i k.Hidden h j → is_some h ≡ false → GivesWord ws j k.Protected p m → is_some p ≡ true
    → GivesWord ws m k.Hidden q n → ReadsFront ws d g.Protection i (protecting q p) names_row n
protected-front ws d i j m n (Some h) p q within a out b some c = absurd (false≢true (sym out))
protected-front ws d i j m n None None q within a out b some c = absurd (false≢true some)
protected-front ws d i j m n None (Some p) None within a out b some c =
    let b : GivesWord ws i k.Protected (Some p) m = subst (λ z. GivesWord ws z k.Protected (Some p) m) a.1 b in
    front (subst (λ z. Within ws d g.Protection i (bare_leaf p.0 k.Protected) d names_row z) (sym c.1)
    (to (open-protected ws d i m p within b) (skipped (one_row g.AndHidden (just k.Hidden) (Kept (just k.Hidden) ∷ []) (kind_at ws m) false refl (just_is _ _ _ c.0)) b.2)))
protected-front ws d i j m n None (Some p) (Some h) within a out b some c =
    let b : GivesWord ws i k.Protected (Some p) m = subst (λ z. GivesWord ws z k.Protected (Some p) m) a.1 b in
    front (within-as (λ f. bare_leaf p.0 k.Protected (node g.AndHidden (bare_leaf h.0 k.Hidden done) f)) (protecting (Some h) (Some p))
    (λ f. sym (ap (λ z. if z then bare_leaf h.0 k.Hidden (node g.AndProtected (bare_leaf p.0 k.Protected done) f) else bare_leaf p.0 k.Protected (node g.AndHidden (bare_leaf h.0 k.Hidden done) f)) (le-ltb h.0 p.0 (omega (arith, b.1, b.3, c.3)))))
    (to (open-protected ws d i m p within b)
    (maybe (gone (to (opened ws d m g.AndHidden (Kept (just k.Hidden) ∷ []) refl (one_row g.AndHidden (just k.Hidden) (Kept (just k.Hidden) ∷ []) (kind_at ws m) true refl (just_is _ _ _ c.0)) b.2)
    (kept h.0 c.3 (took_one ws m n k.Hidden refl (c.0, c.1, c.2)))) (bare_leaf h.0 k.Hidden done) refl))))

pub no-words : (ws : List Token) (i j m : ℕ) (h p : Option TokenNo) → GivesWord ws i k.Hidden h j → is_some h ≡ false → GivesWord ws j k.Protected p m → is_some p ≡ false → right_side g.Protection (kind_at ws i) ≡ None
no-words ws i j m (Some h) p a out b none = absurd (false≢true (sym out))
no-words ws i j m None (Some p) a out b none = absurd (false≢true (sym none))
no-words ws i j m None None a out b none = no-protection (kind_at ws i) a.0 (subst (λ z. is (kind_at ws z) k.Protected ≡ false) a.1 b.0)

-- the kind of a specification behind its type
pub spec-kind : (ws : List Token) (d i j : ℕ) (kind : TokenKind) (n : TokenNo) → is_bare kind ≡ true → one_of kinds kind ≡ true
    → (is (kind_at ws i) kind ≡ true) × (j ≡ i + 1) × (j < length ws) → n.0 ≡ i → i < length ws → ReadsTo ws d (Of Maybe g.SpecifiedKind) i (node g.SpecifiedKind (bare_leaf n.0 kind done)) j
spec-kind ws d i j kind n bare among w number within =
    let q = took ws i j kinds kind bare among w in
    maybe (gone (to (opened ws d i g.SpecifiedKind (Kept kinds ∷ []) refl (one_row g.SpecifiedKind kinds (Kept kinds ∷ []) (kind_at ws i) true refl q.among) within) (kept n.0 number q)) (bare_leaf n.0 kind done) refl)

pub no-spec-kind : (ws : List Token) (d i : ℕ) → is (kind_at ws i) k.Array ≡ false → is (kind_at ws i) k.Procedure ≡ false → i < length ws → ReadsTo ws d (Of Maybe g.SpecifiedKind) i (λ f. f) i
no-spec-kind ws d i h e within =
    skipped (one_row g.SpecifiedKind kinds (Kept kinds ∷ []) (kind_at ws i) false refl (ap (λ z. z || (is (kind_at ws i) k.Procedure || false)) h ∙ ap (λ z. z || false) e)) within

-- a repeated part stops where it stops once, since it begins there
pub many-stops : (ws : List Token) (d i : ℕ) (n : Part) (right : List Symbol) → right_side n (kind_at ws i) ≡ Some right → (x : Stop) → Stops ws d (one n) i x → (s : List Symbol) → Stops ws d (Of Many n ∷ s) i x
many-stops ws d i n right b x h s = go x h
  where
    nothing : {j : ℕ} {y : Fault} → Fails limit ws d [] j y → ⊥
    nothing r = elim r [ ]

    there : {y : Fault} → Fails limit ws d (one n) i y → Fails limit ws d (Of Many n ∷ s) i y
    there (fails-part q may) = absurd (none≢some q b)
    there (fails-deep q sh) = fails-deep q sh
    there (fails-inside q sh r) = fails-inside q sh r
    there (after-part q sh r z) = absurd (nothing z)
    there (after-skip q may z) = absurd (false≢true may)

    go : (x : Stop) → Stops ws d (one n) i x → Stops ws d (Of Many n ∷ s) i x
    go (stop.Unexpected m) q = there q
    go (stop.TooDeep m) q = there q
    go stop.Memory q = tt

-- what begins a specification, or virtual procedures, has a row
pub begins-spec : (a : TokenKind) → one_of (k.Procedure ∷ types) a ≡ true → (right : List Symbol) × (right_side g.Specification a ≡ Some right)
begins-spec a h = go (one_of types a) (is a k.Procedure) refl refl h
  where
    go : (v w : Bool) → one_of types a ≡ v → is a k.Procedure ≡ w → (w || v) ≡ true → (right : List Symbol) × (right_side g.Specification a ≡ Some right)
    go true w e p x = (typed_spec_row, spec-row a true w e p)
    go false true e p x = (procedure_row, spec-row a false true e p)
    go false false e p x = absurd (false≢true x)

pub begins-virtual : (a : TokenKind) → one_of (k.Procedure ∷ types) a ≡ true → (right : List Symbol) × (right_side g.VirtualSpecification a ≡ Some right)
begins-virtual a h = go (one_of types a) (is a k.Procedure) refl refl h
  where
    go : (v w : Bool) → one_of types a ≡ v → is a k.Procedure ≡ w → (w || v) ≡ true → (right : List Symbol) × (right_side g.VirtualSpecification a ≡ Some right)
    go true w e p x = (typed_virtual_row, virtual-spec-row a true w e p)
    go false true e p x = (procedure_row, virtual-spec-row a false true e p)
    go false false e p x = absurd (false≢true x)

-- past the parenthesis that begins formal parameters
pub open-parameters : (ws : List Token) (d i j : ℕ) → i < length ws → (is (kind_at ws i) k.Open ≡ true) × (j ≡ i + 1) × (j < length ws)
    → Within ws d g.Heading i (λ f. f) d (Of Once g.Identifiers ∷ Mark k.Close ∷ Mark k.Semicolon ∷ Of Many g.Mode ∷ Of Once g.Specification ∷ Of Many g.Specification ∷ []) j
open-parameters ws d i j within w = to (opened ws d i g.Heading parameters_row refl (by_test g.Heading (kind_at ws i) k.Open parameters_row w.0 heading_open) within) (marked w)

-- past the word that begins virtual procedures
pub open-virtual : (ws : List Token) (d i j : ℕ) → i < length ws → (is (kind_at ws i) k.Virtual ≡ true) × (j ≡ i + 1) × (j < length ws)
    → Within ws d g.Virtuals i (λ f. f) d (Mark k.Colon ∷ Of Once g.VirtualSpecification ∷ Of Many g.VirtualSpecification ∷ []) j
open-virtual ws d i j within w = to (opened ws d i g.Virtuals virtual_row refl (one_row g.Virtuals (just k.Virtual) virtual_row (kind_at ws i) true refl (just_is _ _ _ w.0)) within) (marked w)

pub no-virtual : (ws : List Token) (d i : ℕ) → is (kind_at ws i) k.Virtual ≡ false → i < length ws → ReadsTo ws d (Of Maybe g.Virtuals) i (λ f. f) i
no-virtual ws d i h within = skipped (one_row g.Virtuals (just k.Virtual) virtual_row (kind_at ws i) false refl (just_is _ _ _ h)) within
