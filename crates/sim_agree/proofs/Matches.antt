-- What matches a virtual of an allowed program in the class of a text: a procedure of one of its levels, whose result fits.
use Rattle.std.proofs.Common.{◌≡◌, ◌⊎◌, inl, inr, ℕ, zero, suc, Bool, true, false, List, [], ◌∷◌, ◌++◌, length, Option, Some, None, refl, sym, ap, ◌∙◌, subst, arith, if◌then◌else◌}
use Rattle.std.specs.Prelude.{◌||◌, nat_eq, not, slice_get}
use Rattle.std.specs.Option.{option_or}
use Rattle.std.proofs.lemmas.Bool.Decides.{nat_tests}
use Rattle.sim_base.specs.declared.numbering.DeclNo.{DeclNo}
use Rattle.sim_base.specs.declared.rule.Rule.TheVariants as r
use Rattle.sim_tree.specs.declared.expr.Identifier.{Identifier}
use Rattle.sim_scope.specs.declared.found.Fault.{Fault}
use Rattle.sim_scope.specs.declared.scopes.Declaration.{Declaration}
use Rattle.sim_scope.specs.declared.scopes.Denotation.TheVariants as denotation
use Rattle.sim_scope.specs.declared.types.Entry.{Entry}
use Rattle.sim_scope.specs.declared.types.Entry.TheVariants as entry
use Rattle.sim_scope.specs.declared.types.SimType.{SimType}
use Rattle.sim_scope.specs.Actuals.{result_in}
use Rattle.sim_scope.specs.Along.{first_along, from_next}
use Rattle.sim_scope.specs.Building.{attribute_entry}
use Rattle.sim_scope.specs.Calls as calls
use Rattle.sim_scope.specs.Calls.{match_seen}
use Rattle.sim_scope.specs.Declare.{result_named}
use Rattle.sim_scope.specs.Found.{fault}
use Rattle.sim_scope.specs.Levels.{base, has_level, holds, some_level_of}
use Rattle.sim_scope.specs.Runs.{each}
use Rattle.sim_scope.specs.Scopes.{beyond, binding, entry_is, entry_of, is_procedure_entry, is_virtual, lookup, virtual_among, virtual_of}
use Rattle.sim_scope.specs.Source.{Source, block_of}
use Rattle.sim_scope.specs.Tables.{Tables}
use Rattle.prefix_bind.specs.Prefixes.{where_true}
use Rattle.virtual_match.specs.Matching.{all_match_faults, declared_along, fits_virtual, is_procedure, match_at, match_fault, match_faults, match_in, match_of_declared, name_in, name_of, results_fit, virtual_for, virtual_from}
use Rattle.virtual_match.specs.Protections.{second_faults}
use Rattle.virtual_match.specs.Qualifying.{qualification_faults}
use Rattle.sim_static.specs.Check.{second_least}
use Rattle.sim_meaning.specs.Levels.{is_class}
use Rattle.sim_meaning.specs.Texts.{BlockText, ClassText, ConnectionText, PrefixedText, ProcedureText, StandardText, Text, text}
use Rattle.sim_meaning.specs.Virtuals.{match_if, match_in_text, match_of_text, procedure_text, text_of_procedure}
use Rattle.sim_sound.specs.Typed.{Ends, outermost, prefixed}
use Rattle.sim_agree.specs.Facts.{MatchFits}
use Rattle.sim_agree.specs.Order.{InOrder}
use Rattle.sim_agree.specs.TablesOf.{TablesOf}
use Rattle.sim_agree.proofs.Chains as chains
use Rattle.sim_agree.proofs.Fine.{Alike, RowIn, attribute_row, class_row, formal_row, own_row, procedure_row, simulation_row, virtual_row}
use Rattle.sim_agree.proofs.Groups.{Interfacing}
use Rattle.sim_agree.proofs.Prefixing.{Reaches, itself, through}
use Rattle.sim_agree.proofs.Qualified.{no_least}
use Rattle.sim_agree.proofs.Retypes.{like_virtual}
use Rattle.sim_agree.proofs.Steps.{Parametric}
use Rattle.sim_agree.proofs.Tables as t
use Rattle.sim_agree.proofs.Tables.{Bs, Ts}
use Rattle.sim_agree.proofs.Unprefixed as unprefixed
use Rattle.sim_agree.proofs.Unprefixed.{FoundIn, Stands, behind, denoted_by, here, matches, stands, virtual_found}

some_same : {A : Type 0} (a b : A) → Some a ≡ Some b → a ≡ b
some_same a b e = cc

-- ---- levels

reach_cases : {T : Tables} {k l : ℕ} → Reaches T k l → (k ≡ l) ⊎ ((b : ℕ) × (base T k ≡ Some b) × Reaches T b l)
reach_cases itself = inl refl
reach_cases (through {b = b} up r) = inr (b, up, r)

level_reaches : (T : Tables) (n k l : ℕ) → some_level_of T n (λ b. nat_eq b l) k ≡ true → Reaches T k l
unfolding some_level_of
level_reaches T zero k l e = absurd (cc)
level_reaches T (suc n) k l e = go (nat_eq k l) refl (base T k) refl e (λ b f. level_reaches T n b l f)
  where
    go : (c : Bool) → nat_eq k l ≡ c → (o : Option ℕ) → base T k ≡ o → (c || holds (λ b. some_level_of T n (λ d. nat_eq d l) b) o) ≡ true → ((b : ℕ) → some_level_of T n (λ d. nat_eq d l) b ≡ true → Reaches T b l) → Reaches T k l
    go true is o up f rest = let same : k ≡ l = grind (arith, nat_tests) in subst (λ z. Reaches T k z) same itself
    go false is None up f rest = absurd (cc)
    go false is (Some b) up f rest = through up (rest b f)

or_found : (o p : Option DeclNo) (x : DeclNo) → p ≡ Some x → (y : DeclNo) × (option_or o p ≡ Some y)
or_found (Some y) p x e = (y, refl)
or_found None p x e = (x, e)

-- what a level and the next ones declare of an identifier that a level further out declares
module _ (T : Tables) (name : List ℕ) (v : DeclNo) (l : ℕ) (found : lookup T l name ≡ Some v) where
  first_found : (n k : ℕ) (c : DeclNo) → Reaches T k l → first_along (base T) n (λ b. lookup T b name) k ≡ Some c → (b : ℕ) × Reaches T k b × Reaches T b l × (lookup T b name ≡ Some c)
  unfolding first_along
  first_found zero k c r e = absurd (cc)
  first_found (suc n) k c r e = go (lookup T k name) refl (reach_cases r) e (λ b q f. first_found n b c q f)
    where
      go : (o : Option DeclNo) → lookup T k name ≡ o → (k ≡ l) ⊎ ((b : ℕ) × (base T k ≡ Some b) × Reaches T b l) → option_or o (from_next (λ b. first_along (base T) n (λ b. lookup T b name) b) (base T k)) ≡ Some c
          → ((b : ℕ) → Reaches T b l → first_along (base T) n (λ b. lookup T b name) b ≡ Some c → (d : ℕ) × Reaches T b d × Reaches T d l × (lookup T d name ≡ Some c))
          → (b : ℕ) × Reaches T k b × Reaches T b l × (lookup T b name ≡ Some c)
      go (Some d) at q f rest = (k, itself, r, at ∙ f)
      go None at (inl same) f rest = absurd (let g : None ≡ Some v = sym at ∙ ap (λ z. lookup T z name) same ∙ found in cc)
      go None at (inr q) f rest =
          let w = rest q.0 q.2 (sym (ap (from_next (λ b. first_along (base T) n (λ b. lookup T b name) b)) q.1) ∙ f) in
          (w.0, through q.1 w.1, w.2, w.3)

  module _ (virtual : entry_is is_virtual (entry_of T v) ≡ true) where
    found_here : (m k : ℕ) → k ≡ l → virtual_of T (suc m) k name ≡ Some v
    unfolding virtual_of
    found_here m k same =
        ap (λ o. option_or (virtual_among T o) (beyond (λ b. virtual_of T m b name) (base T k))) (ap (λ z. lookup T z name) same ∙ found)
        ∙ ap (λ c. option_or (if c then Some v else None) (beyond (λ b. virtual_of T m b name) (base T k))) virtual

    found_further : (m k b : ℕ) (x : DeclNo) → base T k ≡ Some b → virtual_of T m b name ≡ Some x → (y : DeclNo) × (virtual_of T (suc m) k name ≡ Some y)
    unfolding virtual_of
    found_further m k b x up e = or_found (virtual_among T (lookup T k name)) (beyond (λ b. virtual_of T m b name) (base T k)) x (ap (beyond (λ b. virtual_of T m b name)) up ∙ e)

    -- some virtual is found
    virtual_reached : (n k : ℕ) → Ends T n k → Reaches T k l → (x : DeclNo) × (virtual_of T n k name ≡ Some x)
    virtual_reached n k (outermost {n = m} none) r = go (reach_cases r)
      where
        go : (k ≡ l) ⊎ ((b : ℕ) × (base T k ≡ Some b) × Reaches T b l) → (x : DeclNo) × (virtual_of T (suc m) k name ≡ Some x)
        go (inl same) = (v, found_here m k same)
        go (inr q) = absurd (let f : None ≡ Some q.0 = sym none ∙ q.1 in cc)
    virtual_reached n k (prefixed {n = m} {b = b} up ends) r = go (reach_cases r) (λ q. virtual_reached m b ends q)
      where
        go : (k ≡ l) ⊎ ((c : ℕ) × (base T k ≡ Some c) × Reaches T c l) → (Reaches T b l → (x : DeclNo) × (virtual_of T m b name ≡ Some x)) → (x : DeclNo) × (virtual_of T (suc m) k name ≡ Some x)
        go (inl same) rest = (v, found_here m k same)
        go (inr q) rest =
            let next : q.0 ≡ b = some_same q.0 b (sym q.1 ∙ up) in
            let x = rest (subst (λ z. Reaches T z l) next q.2) in found_further m k b x.0 up x.1

    -- this one, where no level inside declares another one
    module _ (inner : (b : ℕ) (w : DeclNo) (c : ℕ) → lookup T b name ≡ Some w → entry_is is_virtual (entry_of T w) ≡ true → base T b ≡ Some c → Reaches T c l → ⊥) where
      only_this : {w : DeclNo} {n b : ℕ} → FoundIn T name w n b → entry_is is_virtual (entry_of T w) ≡ true → Reaches T b l → w ≡ v
      only_this {w = w} {b = b} (here e) is r = go (reach_cases r)
        where
          go : (b ≡ l) ⊎ ((c : ℕ) × (base T b ≡ Some c) × Reaches T c l) → w ≡ v
          go (inl same) = some_same w v (sym e ∙ ap (λ z. lookup T z name) same ∙ found)
          go (inr q) = absurd (inner b w q.0 e is q.1 q.2)
      only_this {w = w} {b = b} (behind {c = c} none up f) is r = go (reach_cases r) (λ q. only_this f is q)
        where
          go : (b ≡ l) ⊎ ((c : ℕ) × (base T b ≡ Some c) × Reaches T c l) → (Reaches T c l → w ≡ v) → w ≡ v
          go (inl same) rest =
              absurd (let g : Some v ≡ None = sym (ap (λ o. virtual_among T o) (ap (λ z. lookup T z name) same ∙ found) ∙ ap (λ z. if z then Some v else None) virtual) ∙ none in cc)
          go (inr q) rest = let next : q.0 ≡ c = some_same q.0 c (sym q.1 ∙ up) in rest (subst (λ z. Reaches T z l) next q.2)

-- ---- no rule on matches is broken

both_none : (xs ys : List Fault) → xs ++ ys ≡ [] → (xs ≡ []) × (ys ≡ [])
both_none [] ys e = (refl, e)
both_none (x ∷ xs) ys e = absurd (cc)

each_none : {A : Type 0} (f : A → List Fault) (xs : List A) → each f xs ≡ [] → (i : ℕ) (x : A) → slice_get xs i ≡ Some x → f x ≡ []
each_none f [] e i x at = absurd (cc)
each_none f (y ∷ xs) e zero x at = subst (λ z. f z ≡ []) (some_same y x at) (both_none (f y) (each f xs) e).0
each_none f (y ∷ xs) e (suc i) x at = each_none f xs (both_none (f y) (each f xs) e).1 i x at

fits_where : (T : Tables) (row : Declaration) (w : DeclNo) → (row.listed || is_procedure row.entry) ≡ true → virtual_for T row ≡ Some w → match_faults T row ≡ [] → fits_virtual T row.entry (entry_of T w) ≡ true
unfolding match_faults
fits_where T row w shown is none = go (fits_virtual T row.entry (entry_of T w)) refl
  where
    nothing : match_fault T row (Some w) ≡ []
    nothing = sym (ap (λ c. if c then match_fault T row (virtual_for T row) else []) shown ∙ ap (match_fault T row) is) ∙ none

    go : (c : Bool) → fits_virtual T row.entry (entry_of T w) ≡ c → fits_virtual T row.entry (entry_of T w) ≡ true
    go true e = e
    go false e = absurd (let f : fault row.token.0 r.MatchDoesNotFit ∷ [] ≡ [] = sym (ap (λ c. where_true (not c) row.token.0 r.MatchDoesNotFit) e) ∙ nothing in cc)

or_right : (a b : Bool) → b ≡ true → (a || b) ≡ true
or_right true b e = refl
or_right false b e = e

virtual_shape : (e : Entry) → is_virtual e ≡ true → (result : Option SimType) × (own : Option DeclNo) × (e ≡ entry.Virtual result own)
virtual_shape (entry.Virtual result own) v = (result, own, refl)
virtual_shape (entry.Variable ty) v = absurd (cc)
virtual_shape (entry.Constant ty) v = absurd (cc)
virtual_shape (entry.Array ty n) v = absurd (cc)
virtual_shape (entry.Procedure result k) v = absurd (cc)
virtual_shape (entry.Class k) v = absurd (cc)
virtual_shape (entry.Formal f) v = absurd (cc)
virtual_shape (entry.Unspecified w) v = absurd (cc)
virtual_shape (entry.Attribute name given result) v = absurd (cc)

procedure_shape : (o : Option Entry) (match : ℕ) → procedure_text o ≡ Some match → (given : Option SimType) × (o ≡ Some (entry.Procedure given match))
procedure_shape (Some (entry.Procedure given k)) match e = (given, ap (λ z. Some (entry.Procedure given z)) (some_same k match e))
procedure_shape None match e = absurd (cc)
procedure_shape (Some (entry.Variable ty)) match e = absurd (cc)
procedure_shape (Some (entry.Constant ty)) match e = absurd (cc)
procedure_shape (Some (entry.Array ty n)) match e = absurd (cc)
procedure_shape (Some (entry.Class k)) match e = absurd (cc)
procedure_shape (Some (entry.Virtual result own)) match e = absurd (cc)
procedure_shape (Some (entry.Formal f)) match e = absurd (cc)
procedure_shape (Some (entry.Unspecified w)) match e = absurd (cc)
procedure_shape (Some (entry.Attribute name given result)) match e = absurd (cc)

-- what an identifier denotes is a virtual, or its own match
at_cases : (o : Option Entry) (c : DeclNo) → ((result : Option SimType) × (own : Option DeclNo) × (o ≡ Some (entry.Virtual result own)) × (match_at o c ≡ own)) ⊎ (match_at o c ≡ Some c)
at_cases (Some (entry.Virtual result own)) c = inl (result, own, refl, refl)
at_cases None c = inr refl
at_cases (Some (entry.Variable ty)) c = inr refl
at_cases (Some (entry.Constant ty)) c = inr refl
at_cases (Some (entry.Array ty n)) c = inr refl
at_cases (Some (entry.Procedure given k)) c = inr refl
at_cases (Some (entry.Class k)) c = inr refl
at_cases (Some (entry.Formal f)) c = inr refl
at_cases (Some (entry.Unspecified w)) c = inr refl
at_cases (Some (entry.Attribute name given result)) c = inr refl

if_cases : (c : Bool) (o : Option ℕ) (match : ℕ) → match_if c o ≡ Some (Some match) → (c ≡ true) × (o ≡ Some match)
if_cases true o match e = (refl, some_same o (Some match) e)
if_cases false o match e = absurd (cc)

procedure_entry : (e : Entry) → is_procedure_entry e ≡ true → (given : Option SimType) × (block : ℕ) × (e ≡ entry.Procedure given block)
procedure_entry (entry.Procedure given k) p = (given, k, refl)
procedure_entry (entry.Variable ty) p = absurd (cc)
procedure_entry (entry.Constant ty) p = absurd (cc)
procedure_entry (entry.Array ty n) p = absurd (cc)
procedure_entry (entry.Class k) p = absurd (cc)
procedure_entry (entry.Virtual result own) p = absurd (cc)
procedure_entry (entry.Formal f) p = absurd (cc)
procedure_entry (entry.Unspecified w) p = absurd (cc)
procedure_entry (entry.Attribute name given result) p = absurd (cc)

stands_cases : {T : Tables} {f w : DeclNo} → Stands T f w → (f ≡ w) ⊎ ((row : Declaration) × (slice_get T.declarations f.0 ≡ Some row) × (is_procedure_entry row.entry ≡ true) × FoundIn T row.name w (length T.blocks) row.block)
stands_cases unprefixed.itself = inl refl
stands_cases (matches row at proc is found) = inr (row, at, proc, found)

found_level : {T : Tables} {name : List ℕ} {w : DeclNo} (n b : ℕ) → FoundIn T name w n b → (l : ℕ) × Reaches T b l × (lookup T l name ≡ Some w)
found_level n b (here e) = (b, itself, e)
found_level n b (behind {n = m} {c = c} none up f) = let q = found_level m c f in (q.0, through up q.1, q.2)

module _ (s : Source) (of : TablesOf s) (order : InOrder s.program) where
  -- a virtual stands in the text of a class, which lists it
  virtual_stands : (d : ℕ) (row : Declaration) (result : Option SimType) (own : Option DeclNo) → slice_get s.tables.declarations d ≡ Some row → row.entry ≡ entry.Virtual result own → (x : Text) × (slice_get (Ts s of order) row.block ≡ Some x) × Interfacing x × (row.listed ≡ true)
  virtual_stands d row result own at is = let w = t.text_of_row s of order d row at in let q = go w.0 w.2 in (w.0, w.1, q.0, q.1)
    where
      go : (x : Text) → RowIn (Bs s of order) (Ts s of order) x d row → Interfacing x × (row.listed ≡ true)
      go x (virtual_row y p l) = (y, l)
      go x (own_row y p) = absurd (like_virtual p.entry result own (subst (Alike p.entry) is p.alike))
      go x (procedure_row y p) = absurd (subst (Alike (entry.Procedure (result_named p.result) p.number)) is p.entry)
      go x (class_row y p) = absurd (let f : entry.Class p.number ≡ entry.Virtual result own = sym p.entry ∙ is in cc)
      go x (formal_row y p l) = absurd (subst Parametric is p)
      go x (attribute_row y p) = absurd (let f : attribute_entry (Some p.first) p.name ≡ entry.Virtual result own = sym p.entry ∙ is in cc)
      go x (simulation_row y p) = absurd (let f : attribute_entry (Some p.first) p.name ≡ entry.Virtual result own = sym p.entry ∙ is in cc)

  interfacing_class : (x : Text) → Interfacing x → is_class (Some x) ≡ true
  interfacing_class (ClassText prefix h ds ss) q = refl
  interfacing_class (BlockText i ds ss) q = absurd q
  interfacing_class (ProcedureText result h a) q = absurd q
  interfacing_class ConnectionText q = absurd q
  interfacing_class (PrefixedText class es ds ss) q = absurd q
  interfacing_class (StandardText which) q = absurd q

  pub virtuals : (v : DeclNo) (result : Option SimType) (own : Option DeclNo) → entry_of s.tables v ≡ Some (entry.Virtual result own) → is_class (text s (block_of s v)) ≡ true
  unfolding text
  virtuals v result own is =
      let q = t.entry_row s of order v (entry.Virtual result own) is in
      let x = virtual_stands v.0 q.0 result own q.1 q.2 in
      ap (λ z. is_class (slice_get (Ts s of order) z)) (t.block_is s of order v q.0 q.1) ∙ ap is_class x.1 ∙ interfacing_class x.0 x.2

  module _ (second : second_least s.tables ≡ None) (v : DeclNo) (result : Option SimType) (own : Option DeclNo) (is : entry_of s.tables v ≡ Some (entry.Virtual result own)) where
    -- the procedure that matches a virtual in the class of a text
    pub record MatchFound (k match : ℕ) : Type 0 where
      pub declaration : DeclNo
      pub row : Declaration
      pub at : slice_get s.tables.declarations declaration.0 ≡ Some row
      pub given : Option SimType
      pub entry : row.entry ≡ entry.Procedure given match
      pub level : has_level s.tables k (block_of s declaration) ≡ true
      pub matches : virtual_for s.tables row ≡ Some v
      pub fits : results_fit s.tables result given ≡ true

    no_fault : (d : ℕ) (row : Declaration) → slice_get s.tables.declarations d ≡ Some row → match_faults s.tables row ≡ []
    unfolding second_faults
    no_fault d row at =
        let all = both_none (each (λ q. qualification_faults s.tables q) s.tables.qualifications) _ (no_least (second_faults s.tables) second) in
        each_none (match_faults s.tables) s.tables.declarations (both_none (all_match_faults s.tables) _ all.1).0 d row at

    its : (row : Declaration) × (slice_get s.tables.declarations v.0 ≡ Some row) × (row.entry ≡ entry.Virtual result own)
    its = t.entry_row s of order v (entry.Virtual result own) is

    is_one : entry_is is_virtual (entry_of s.tables v) ≡ true
    is_one = ap (entry_is is_virtual) is

    found : lookup s.tables its.0.block its.0.name ≡ Some v
    found = t.finds_now s of order v its.0 its.1 (virtual_stands v.0 its.0 result own its.1 its.2).3

    -- no level inside declares another virtual of the name
    inner : (b : ℕ) (w : DeclNo) (c : ℕ) → lookup s.tables b its.0.name ≡ Some w → entry_is is_virtual (entry_of s.tables w) ≡ true → base s.tables b ≡ Some c → Reaches s.tables c its.0.block → ⊥
    unfolding lookup virtual_for
    inner b w c at virtual up reach =
        let q = t.names_now s of order b its.0.name w at in
        let x = virtual_reached s.tables its.0.name v its.0.block found is_one (length s.tables.blocks) c (chains.all_end s of order c) reach in
        let one : is_virtual q.0.entry ≡ true = sym (ap (entry_is is_virtual) (t.row_entry s of order w q.0 q.1)) ∙ virtual in
        let e = virtual_shape q.0.entry one in
        let listed : q.0.listed ≡ true = (virtual_stands w.0 q.0 e.0 e.1 q.1 e.2).3 in
        let outside : virtual_for s.tables q.0 ≡ Some x.0 =
        ap (virtual_from s.tables q.0.name) (ap (λ z. if z then base s.tables q.0.block else Some q.0.block) one ∙ ap (base s.tables) q.3 ∙ up)
        ∙ ap (λ n. virtual_of s.tables (length s.tables.blocks) c n) q.2 ∙ x.1 in
        let fits = fits_where s.tables q.0 x.0 (ap (λ z. z || is_procedure q.0.entry) listed) outside (no_fault w.0 q.0 q.1) in
        let f : false ≡ true = sym (ap (λ z. fits_virtual s.tables z (entry_of s.tables x.0)) e.2) ∙ fits in cc

    this_one : (b : ℕ) → Reaches s.tables b its.0.block → virtual_of s.tables (length s.tables.blocks) b its.0.name ≡ Some v
    this_one b reach =
        let x = virtual_reached s.tables its.0.name v its.0.block found is_one (length s.tables.blocks) b (chains.all_end s of order b) reach in
        let q = virtual_found s.tables (length s.tables.blocks) b its.0.name x.0 x.1 in
        x.1 ∙ ap Some (only_this s.tables its.0.name v its.0.block found is_one inner q.0 q.1 reach)

    -- a procedure of the name at the virtual's level or inside matches it, and fits
    procedure_matches : (b match : ℕ) (row : Declaration) (given : Option SimType) → row.name ≡ its.0.name → row.block ≡ b → row.entry ≡ entry.Procedure given match → Reaches s.tables b its.0.block → virtual_for s.tables row ≡ Some v
    unfolding virtual_for
    procedure_matches b match row given name block e further =
        ap (virtual_from s.tables row.name) (ap (λ z. if is_virtual z then base s.tables row.block else Some row.block) e ∙ ap Some block)
        ∙ ap (λ n. virtual_of s.tables (length s.tables.blocks) b n) name ∙ this_one b further

    procedure_fits : (b match : ℕ) (d : DeclNo) (row : Declaration) (given : Option SimType) → slice_get s.tables.declarations d.0 ≡ Some row → row.name ≡ its.0.name → row.block ≡ b → row.entry ≡ entry.Procedure given match → Reaches s.tables b its.0.block → results_fit s.tables result given ≡ true
    procedure_fits b match d row given at name block e further =
        sym (ap (λ z. fits_virtual s.tables z (entry_of s.tables v)) e ∙ ap (λ z. results_fit s.tables (result_in z) given) is)
        ∙ fits_where s.tables row v (or_right row.listed (is_procedure row.entry) (ap is_procedure e)) (procedure_matches b match row given name block e further) (no_fault d.0 row at)

    procedure_found : (k b match : ℕ) (d : DeclNo) (row : Declaration) (given : Option SimType) → slice_get s.tables.declarations d.0 ≡ Some row → row.name ≡ its.0.name → row.block ≡ b → row.entry ≡ entry.Procedure given match → Reaches s.tables k b → Reaches s.tables b its.0.block → MatchFound k match
    unfolding has_level
    procedure_found k b match d row given at name block e reach further = record {
      declaration = d;
      row = row;
      at = at;
      given = given;
      entry = e;
      level = subst (λ z. some_level_of s.tables (length s.tables.blocks) (λ c. nat_eq c z) k ≡ true) (sym (t.block_is s of order d row at ∙ block)) (chains.reaches_level s.tables (length s.tables.blocks) k b (chains.all_end s of order k) reach);
      matches = procedure_matches b match row given name block e further;
      fits = procedure_fits b match d row given at name block e further;
    }

    declared_match : (k b match : ℕ) (c : DeclNo) → lookup s.tables b its.0.name ≡ Some c → text_of_procedure s (match_at (entry_of s.tables c) c) ≡ Some match → Reaches s.tables k b → Reaches s.tables b its.0.block → MatchFound k match
    unfolding lookup
    declared_match k b match c at gives reach further = go (at_cases (entry_of s.tables c) c)
      where
        same_own : (a z : Option SimType) (b d : Option DeclNo) → entry.Virtual a b ≡ entry.Virtual z d → b ≡ d
        same_own a z b d e = cc

        row_of : (d : DeclNo) (row : Declaration) (given : Option SimType) → slice_get s.tables.declarations d.0 ≡ Some row → entry_of s.tables d ≡ Some (entry.Procedure given match) → row.entry ≡ entry.Procedure given match
        row_of d row given there e = some_same row.entry (entry.Procedure given match) (sym (t.row_entry s of order d row there) ∙ e)

        -- the match that the virtual knows
        of_known : (o : Option DeclNo) → own ≡ o → text_of_procedure s o ≡ Some match → MatchFound k match
        of_known None knows e = absurd (cc)
        of_known (Some d) knows e =
            let p = procedure_shape (entry_of s.tables d) match e in
            let m = t.known s of order v.0 its.0 result d its.1 (its.2 ∙ ap (entry.Virtual result) knows) in
            procedure_found k its.0.block match d m.row p.0 m.at m.name m.block (row_of d m.row p.0 m.at p.1) (reaches_on reach further) itself
          where
            reaches_on : {i j n : ℕ} → Reaches s.tables i j → Reaches s.tables j n → Reaches s.tables i n
            reaches_on itself q = q
            reaches_on (through up p) q = through up (reaches_on p q)

        own_level : (r' : Option SimType) (o : Option DeclNo) → entry_of s.tables c ≡ Some (entry.Virtual r' o) → (b ≡ its.0.block) ⊎ ((n : ℕ) × (base s.tables b ≡ Some n) × Reaches s.tables n its.0.block) → c ≡ v
        own_level r' o e (inl same) = some_same c v (sym at ∙ ap (λ z. lookup s.tables z its.0.name) same ∙ found)
        own_level r' o e (inr q) = absurd (inner b c q.0 at (ap (entry_is is_virtual) e) q.1 q.2)

        go : ((r' : Option SimType) × (o : Option DeclNo) × (entry_of s.tables c ≡ Some (entry.Virtual r' o)) × (match_at (entry_of s.tables c) c ≡ o)) ⊎ (match_at (entry_of s.tables c) c ≡ Some c) → MatchFound k match
        go (inl q) =
            let same : c ≡ v = own_level q.0 q.1 q.2 (reach_cases further) in
            let knows : own ≡ q.1 = same_own result q.0 own q.1 (some_same (entry.Virtual result own) (entry.Virtual q.0 q.1) (sym is ∙ ap (entry_of s.tables) (sym same) ∙ q.2)) in
            of_known q.1 knows (ap (text_of_procedure s) (sym q.3) ∙ gives)
        go (inr q) =
            let p = procedure_shape (entry_of s.tables c) match (ap (text_of_procedure s) (sym q) ∙ gives) in
            let n = t.names_now s of order b its.0.name c at in
            procedure_found k b match c n.0 p.0 n.1 n.2 n.3 (row_of c n.0 p.0 n.1 p.1) reach further

    pub match_found : (k match : ℕ) → match_in_text s v.0 (Some k) ≡ Some (Some match) → MatchFound k match
    unfolding has_level match_of_text name_of
    match_found k match e =
        let c = if_cases (has_level s.tables k (block_of s v)) (match_of_text s v.0 k) match e in
        let reach = subst (λ z. Reaches s.tables k z) (t.block_is s of order v its.0 its.1) (level_reaches s.tables (length s.tables.blocks) k (block_of s v) c.0) in
        go (declared_along s.tables its.0.name k) refl reach (sym (ap (λ n. text_of_procedure s (match_in s.tables n (Some k))) (ap name_in its.1)) ∙ c.1)
      where
        go : (o : Option DeclNo) → declared_along s.tables its.0.name k ≡ o → Reaches s.tables k its.0.block → text_of_procedure s (match_of_declared s.tables o) ≡ Some match → MatchFound k match
        go None at reach f = absurd (cc)
        go (Some c) at reach f =
            let q = first_found s.tables its.0.name v its.0.block found (length s.tables.blocks) k c reach at in
            declared_match k q.0 match c q.3 f q.1 q.2

    -- ---- the match to which a search comes

    seen_match : (f q : DeclNo) → (f ≡ v) ⊎ ((row : Declaration) × (slice_get s.tables.declarations f.0 ≡ Some row) × (is_procedure_entry row.entry ≡ true) × FoundIn s.tables row.name v (length s.tables.blocks) row.block) → calls.match_at (entry_of s.tables f) (Some f) ≡ Some q → MatchFits s result q
    unfolding lookup
    seen_match f q (inl same) e = of_known (sym (ap (λ z. calls.match_at (entry_of s.tables z) (Some z)) same ∙ ap (λ o. calls.match_at o (Some v)) is) ∙ e)
      where
        of_known : own ≡ Some q → MatchFits s result q
        of_known e =
            let m = t.known s of order v.0 its.0 result q its.1 (its.2 ∙ ap (entry.Virtual result) e) in
            let p = procedure_entry m.row.entry m.procedure in
            record { given = p.0; block = p.1; declares = t.row_entry s of order q m.row m.at ∙ ap Some p.2; fits = procedure_fits its.0.block p.1 q m.row p.0 m.at m.name m.block p.2 itself }
    seen_match f q (inr w) e =
        let p = procedure_entry w.0.entry w.2 in
        let declares : entry_of s.tables f ≡ Some (entry.Procedure p.0 p.1) = t.row_entry s of order f w.0 w.1 ∙ ap Some p.2 in
        let same : f ≡ q = some_same f q (sym (ap (λ o. calls.match_at o (Some f)) declares) ∙ e) in
        let l = found_level (length s.tables.blocks) w.0.block w.3 in
        let n = t.names_now s of order l.0 w.0.name v l.2 in
        let one : n.0 ≡ its.0 = some_same n.0 its.0 (sym n.1 ∙ its.1) in
        let block : its.0.block ≡ l.0 = ap (λ (z : Declaration). z.block) (sym one) ∙ n.3 in
        let name : w.0.name ≡ its.0.name = sym n.2 ∙ ap (λ (z : Declaration). z.name) one in
        record {
          given = p.0;
          block = p.1;
          declares = ap (entry_of s.tables) (sym same) ∙ declares;
          fits = procedure_fits w.0.block p.1 f w.0 p.0 w.1 name refl p.2 (subst (λ z. Reaches s.tables w.0.block z) (sym block) l.1);
        }

    pub seen_fits : (x : Identifier) (q : DeclNo) → binding s.tables x.token.0 x.name ≡ Some (denotation.Declared v) → match_seen s.tables x ≡ Some q → MatchFits s result q
    unfolding match_seen
    seen_fits x q binds e =
        let f = denoted_by s.tables x.token.0 x.name v binds in
        seen_match f.0 q (stands_cases (stands s.tables f.0 v f.2)) (sym (ap (calls.match_found s.tables) f.1) ∙ e)
