-- The arrays that a block or a class declares are those of its tables.
use Rattle.std.proofs.Common.{◌≡◌, ◌⊎◌, inl, inr, ℕ, true, false, List, [], ◌∷◌, ◌++◌, length, Option, Some, None, refl, sym, ap, ◌∙◌, subst}
use Rattle.std.specs.Prelude.{slice_get}
use Rattle.sim_base.specs.declared.numbering.DeclNo.{DeclNo}
use Rattle.sim_base.specs.declared.numbering.TokenNo.{TokenNo}
use Rattle.sim_tree.specs.declared.expr.Identifier.{Identifier}
use Rattle.sim_tree.specs.declared.stmt.TypeName.{TypeName}
use Rattle.sim_tree.specs.declared.stmt.Variable.{Variable}
use Rattle.sim_agree.specs.Order.{InOrder}
use Rattle.sim_tree.specs.Syntax.{Arrayed, Arrays, Declarations, DeclareClass, DeclareProcedure, NoDeclaration, Variables, With}
use Rattle.sim_scope.specs.declared.scopes.Declaration.{Declaration}
use Rattle.sim_scope.specs.declared.types.Entry.{Entry}
use Rattle.sim_scope.specs.declared.types.Entry.TheVariants as entry
use Rattle.sim_scope.specs.declared.types.SimType.{SimType}
use Rattle.sim_scope.specs.Building.{Declares, Mark, typed_or_none}
use Rattle.sim_scope.specs.Standard.{parameter_of, result_of}
use Rattle.sim_scope.specs.Declare.{declared_by, result_named, type_named}
use Rattle.sim_scope.specs.Runs.{each}
use Rattle.sim_scope.specs.Scopes.{entry_of, is_virtual}
use Rattle.sim_scope.specs.Source.{Source}
use Rattle.sim_meaning.specs.Entries.{numbers_of}
use Rattle.sim_meaning.specs.Texts.{Text, declared_at, text}
use Rattle.sim_sound.specs.Held.{Among, first, later}
use Rattle.sim_sound.specs.Typed.{arrays_in_segments, arrays_named, arrays_of_block, of_option}
use Rattle.sim_agree.specs.TablesOf.{TablesOf}
use Rattle.sim_agree.proofs.Clean.{OwedAt, RowFor}
use Rattle.sim_agree.proofs.Constants.{has_split, only}
use Rattle.sim_agree.proofs.Fine.{Alike, RowIn, attribute_row, class_row, formal_row, own_row, procedure_row, simulation_row, virtual_row}
use Rattle.sim_agree.proofs.Groups.{Has, OwnEntry, declared_in_text, here, own_array, own_marks, own_segment, own_variable, there}
use Rattle.sim_agree.proofs.Steps.{Parametric}
use Rattle.sim_agree.proofs.Tables as t
use Rattle.sim_agree.proofs.ClassRows.{own_no_class}
use Rattle.sim_agree.specs.TablesAgree.{is_attribute}
use Rattle.sim_values.specs.declared.standard.Standard.{Standard as StandardName}
use Rattle.sim_scope.specs.Tables.{BlockOf}
use Rattle.sim_agree.proofs.Tables.{Bs, Ts}
use Rattle.sim_agree.proofs.Retypes.{alike_new}
use Rattle.sim_agree.proofs.Tokens.{token_declared}

-- ---- the marks of a block

pub has_left : {m : Mark} (xs ys : List Mark) → Has m xs → Has m (xs ++ ys)
has_left [] ys h = elim h [ ]
has_left (x ∷ xs) ys here = here
has_left (x ∷ xs) ys (there h) = there (has_left xs ys h)

pub has_right : {m : Mark} (xs ys : List Mark) → Has m ys → Has m (xs ++ ys)
has_right [] ys h = h
has_right (x ∷ xs) ys h = there (has_right xs ys h)

alike_itself : (e : Entry) → OwnEntry e → Alike e e
alike_itself (entry.Variable ty) o = refl
alike_itself (entry.Constant ty) o = refl
alike_itself (entry.Array ty n) o = (refl, refl)
alike_itself (entry.Procedure r n) o = absurd o
alike_itself (entry.Class n) o = absurd o
alike_itself (entry.Virtual r n) o = absurd o
alike_itself (entry.Formal f) o = absurd o
alike_itself (entry.Unspecified w) o = absurd o
alike_itself (entry.Attribute name given result) o = absurd o

pub own_no_attribute : (e : Entry) (name : StandardName) (given result : Option SimType) → OwnEntry e → Alike e (entry.Attribute name given result) → ⊥
own_no_attribute (entry.Variable ty) name given result o a = a
own_no_attribute (entry.Constant ty) name given result o a = a
own_no_attribute (entry.Array ty n) name given result o a = a
own_no_attribute (entry.Procedure r n) name given result o a = o
own_no_attribute (entry.Class n) name given result o a = o
own_no_attribute (entry.Virtual r n) name given result o a = o
own_no_attribute (entry.Formal f) name given result o a = o
own_no_attribute (entry.Unspecified w) name given result o a = o
own_no_attribute (entry.Attribute other taken given_back) name given result o a = o

own_no_procedure : (e f : Entry) (result : Option SimType) (k : ℕ) → OwnEntry e → Alike e f → Alike (entry.Procedure result k) f → ⊥
own_no_procedure (entry.Variable ty) (entry.Procedure r n) result k o a p = a
own_no_procedure (entry.Constant ty) (entry.Procedure r n) result k o a p = a
own_no_procedure (entry.Array ty m) (entry.Procedure r n) result k o a p = a
own_no_procedure (entry.Procedure q m) f result k o a p = o
own_no_procedure (entry.Class m) f result k o a p = o
own_no_procedure (entry.Virtual q m) f result k o a p = o
own_no_procedure (entry.Formal g) f result k o a p = o
own_no_procedure (entry.Unspecified w) f result k o a p = o
own_no_procedure (entry.Attribute name given q) f result k o a p = o
own_no_procedure e (entry.Variable ty) result k o a p = p
own_no_procedure e (entry.Constant ty) result k o a p = p
own_no_procedure e (entry.Array ty n) result k o a p = p
own_no_procedure e (entry.Class n) result k o a p = p
own_no_procedure e (entry.Virtual r n) result k o a p = p
own_no_procedure e (entry.Formal g) result k o a p = p
own_no_procedure e (entry.Unspecified w) result k o a p = p
own_no_procedure e (entry.Attribute name given r) result k o a p = p

-- what is declared in a text, and is neither a procedure nor a class, is listed and is no attribute
listed_own : (bs : List BlockOf) (ts : List Text) (x : Text) (d : ℕ) (row : Declaration) (e : Entry) → OwnEntry e → Alike e row.entry → RowIn bs ts x d row → row.listed ≡ true
listed_own bs ts x d row e o a (own_row y p) = p.listed
listed_own bs ts x d row e o a (procedure_row y p) = absurd (own_no_procedure e row.entry (result_named p.result) p.number o a p.entry)
listed_own bs ts x d row e o a (class_row y p) = absurd (own_no_class e p.number o (subst (Alike e) p.entry a))
listed_own bs ts x d row e o a (formal_row y p l) = l
listed_own bs ts x d row e o a (virtual_row y p l) = l
listed_own bs ts x d row e o a (attribute_row y p) = p.listed
listed_own bs ts x d row e o a (simulation_row y p) = absurd (own_no_attribute e p.name (typed_or_none (Some p.first) (parameter_of p.name)) (typed_or_none (Some p.first) (result_of p.name)) o (subst (Alike e) p.entry a))

no_attribute : (e f : Entry) → OwnEntry e → Alike e f → is_attribute f ≡ false
no_attribute e (entry.Variable ty) o a = refl
no_attribute e (entry.Constant ty) o a = refl
no_attribute e (entry.Array ty n) o a = refl
no_attribute e (entry.Procedure r n) o a = refl
no_attribute e (entry.Class n) o a = refl
no_attribute e (entry.Virtual r n) o a = refl
no_attribute e (entry.Formal f) o a = refl
no_attribute e (entry.Unspecified w) o a = refl
no_attribute e (entry.Attribute name given result) o a = absurd (own_no_attribute e name given result o a)

-- ---- arrays behind others

pub option_among : (o : Option DeclNo) (d : DeclNo) (more : List DeclNo) → Among d more → Among d (of_option o more)
option_among None d more a = a
option_among (Some e) d more a = later a

pub named_more : (s : Source) (xs : List Identifier) (d : DeclNo) (more : List DeclNo) → Among d more → Among d (arrays_named s xs more)
named_more s [] d more a = a
named_more s (x ∷ xs) d more a = option_among (declared_at s x.token.0) d (arrays_named s xs more) (named_more s xs d more a)

pub segments_more : (s : Source) (as_ : List Arrayed) (d : DeclNo) (more : List DeclNo) → Among d more → Among d (arrays_in_segments s as_ more)
segments_more s [] d more a = a
segments_more s (x ∷ as_) d more a = named_more s x.names d (arrays_in_segments s as_ more) (segments_more s as_ d more a)

module _ (s : Source) (of : TablesOf s) (order : InOrder s.program) where
  -- the row of what a block or a class declares itself has its token
  pub declared_for : (k : ℕ) (y : Identifier) (e : Entry) (q : RowFor (declared_by s.program) k y e) → declared_at s y.token.0 ≡ Some (record { 0 = q.number })
  declared_for k y e q =
      let d : DeclNo = record { 0 = q.number } in
      let n = (t.completed_tables s of order).rows.stays q.number q.row q.at in
      let own : OwnEntry e = q.own in
      let like : Alike e n.0.entry = alike_new q.row.entry n.0.entry n.2.entry e (subst (Alike e) (sym q.entry) (alike_itself e own)) in
      let w = t.text_of_row s of order q.number n.0 n.1 in
      let shown : n.0.listed ≡ true = listed_own (Bs s of order) (Ts s of order) w.0 q.number n.0 e own like w.2 in
      ap (λ (z : TokenNo). declared_at s z.0) (sym (n.2.token ∙ q.token)) ∙ token_declared s of order d n.0 n.1 (shown, no_attribute e n.0.entry own like)

  -- what a block or a class declares itself has a row at its token
  pub row_for : (k : ℕ) (x : Text) → text s k ≡ Some x → (y : Identifier) (e : Entry) → Has (Declares y e) (own_marks (declared_in_text x))
      → (d : DeclNo) × (declared_at s y.token.0 ≡ Some d) × ((f : Entry) × (entry_of s.tables d ≡ Some f) × Alike e f) × Among d (numbers_of s k)
  unfolding text
  row_for k x at y e has = go ((t.clean s of order).complete k x at y e has)
    where
      go : RowFor (declared_by s.program) k y e ⊎ OwedAt (declared_by s.program).tables.blocks (declared_by s.program).current [] k (Declares y e)
          → (d : DeclNo) × (declared_at s y.token.0 ≡ Some d) × ((f : Entry) × (entry_of s.tables d ≡ Some f) × Alike e f) × Among d (numbers_of s k)
      go (inr q) = absurd q
      go (inl q) =
          let d : DeclNo = record { 0 = q.number } in
          let n = (t.completed_tables s of order).rows.stays q.number q.row q.at in
          let own : OwnEntry e = q.own in
          let like : Alike e n.0.entry = alike_new q.row.entry n.0.entry n.2.entry e (subst (Alike e) (sym q.entry) (alike_itself e own)) in
          let w = t.text_of_row s of order q.number n.0 n.1 in
          let shown : n.0.listed ≡ true = listed_own (Bs s of order) (Ts s of order) w.0 q.number n.0 e own like w.2 in (
            d,
            declared_for k y e q,
            (n.0.entry, t.row_entry s of order d n.0 n.1, like),
            subst (λ z. Among d (numbers_of s z)) (n.2.block ∙ q.block) (t.listed s of order d n.0 n.1 shown),
          )

  module _ (k : ℕ) (x : Text) (at : text s k ≡ Some x) where
    -- ---- those that the block's tables have

    made_named : (type : TypeName) (n : ℕ) (xs : List Identifier) (x : Identifier) (e : Entry) (d : DeclNo) (more : List DeclNo) → Has (Declares x e) (each (own_array type n) xs) → declared_at s x.token.0 ≡ Some d → Among d (arrays_named s xs more)
    unfolding own_array
    made_named type n [] x e d more h at' = elim h [ ]
    made_named type n (y ∷ xs) x e d more h at' = go (cases h) (λ q. made_named type n xs x e d more q at')
      where
        cases : {m q : Mark} {ms : List Mark} → Has m (q ∷ ms) → (m ≡ q) ⊎ Has m ms
        cases here = inl refl
        cases (there q) = inr q

        same : Declares x e ≡ Declares y (entry.Array (type_named type) n) → x ≡ y
        same z = cc

        go : (Declares x e ≡ Declares y (entry.Array (type_named type) n)) ⊎ Has (Declares x e) (each (own_array type n) xs) → (Has (Declares x e) (each (own_array type n) xs) → Among d (arrays_named s xs more)) → Among d (arrays_named s (y ∷ xs) more)
        go (inr q) rest = option_among (declared_at s y.token.0) d (arrays_named s xs more) (rest q)
        go (inl q) rest = subst (λ o. Among d (of_option o (arrays_named s xs more))) (sym (ap (λ (z : Identifier). declared_at s z.token.0) (sym (same q)) ∙ at')) first

    made_segments : (type : TypeName) (as_ : List Arrayed) (x : Identifier) (e : Entry) (d : DeclNo) (more : List DeclNo) → Has (Declares x e) (each (own_segment type) as_) → declared_at s x.token.0 ≡ Some d → Among d (arrays_in_segments s as_ more)
    made_segments type [] x e d more h at' = elim h [ ]
    made_segments type (a ∷ as_) x e d more h at' = go (has_split (own_segment type a) (each (own_segment type) as_) h) (λ q. made_segments type as_ x e d more q at')
      where
        go : Has (Declares x e) (own_segment type a) ⊎ Has (Declares x e) (each (own_segment type) as_) → (Has (Declares x e) (each (own_segment type) as_) → Among d (arrays_in_segments s as_ more)) → Among d (arrays_in_segments s (a ∷ as_) more)
        go (inl q) rest = made_named type (length a.bounds) a.names x e d (arrays_in_segments s as_ more) q at'
        go (inr q) rest = named_more s a.names d (arrays_in_segments s as_ more) (rest q)

    variable_is : (type : TypeName) (v : Variable) (x : Identifier) (ty : SimType) (n : ℕ) → Has (Declares x (entry.Array ty n)) (own_variable type v) → ⊥
    unfolding own_variable
    variable_is type v x ty n = elim v.value as (λ o. Has (Declares x (entry.Array ty n)) (elim o [ None ↦ Declares v.name (entry.Variable (type_named type)) ∷ [] | Some c ↦ Declares v.name (entry.Constant (type_named type)) ∷ [] ]) → ⊥)
        [ None ↦ λ q. no_first (only v.name (entry.Variable (type_named type)) (Declares x (entry.Array ty n)) q) | Some c ↦ λ q. no_second (only v.name (entry.Constant (type_named type)) (Declares x (entry.Array ty n)) q) ]
      where
        no_first : Declares x (entry.Array ty n) ≡ Declares v.name (entry.Variable (type_named type)) → ⊥
        no_first e = cc

        no_second : Declares x (entry.Array ty n) ≡ Declares v.name (entry.Constant (type_named type)) → ⊥
        no_second e = cc

    no_variable : (type : TypeName) (vs : List Variable) (x : Identifier) (ty : SimType) (n : ℕ) → Has (Declares x (entry.Array ty n)) (each (own_variable type) vs) → ⊥
    no_variable type [] x ty n h = elim h [ ]
    no_variable type (v ∷ vs) x ty n h = go (has_split (own_variable type v) (each (own_variable type) vs) h) (λ q. no_variable type vs x ty n q)
      where
        go : Has (Declares x (entry.Array ty n)) (own_variable type v) ⊎ Has (Declares x (entry.Array ty n)) (each (own_variable type) vs) → (Has (Declares x (entry.Array ty n)) (each (own_variable type) vs) → ⊥) → ⊥
        go (inl q) rest = variable_is type v x ty n q
        go (inr q) rest = rest q

    made_from : (ds : Declarations) (x : Identifier) (ty : SimType) (n : ℕ) (d : DeclNo) → Has (Declares x (entry.Array ty n)) (own_marks ds) → declared_at s x.token.0 ≡ Some d → Among d (arrays_of_block s ds)
    made_from NoDeclaration x ty n d h e = elim h [ ]
    made_from (With (Variables type vs) ds) x ty n d h e = go (has_split (each (own_variable type) vs) (own_marks ds) h) (λ q. made_from ds x ty n d q e)
      where
        go : Has (Declares x (entry.Array ty n)) (each (own_variable type) vs) ⊎ Has (Declares x (entry.Array ty n)) (own_marks ds) → (Has (Declares x (entry.Array ty n)) (own_marks ds) → Among d (arrays_of_block s ds)) → Among d (arrays_of_block s ds)
        go (inl q) rest = absurd (no_variable type vs x ty n q)
        go (inr q) rest = rest q
    made_from (With (Arrays type token segments) ds) x ty n d h e = go (has_split (each (own_segment type) segments) (own_marks ds) h) (λ q. made_from ds x ty n d q e)
      where
        go : Has (Declares x (entry.Array ty n)) (each (own_segment type) segments) ⊎ Has (Declares x (entry.Array ty n)) (own_marks ds) → (Has (Declares x (entry.Array ty n)) (own_marks ds) → Among d (arrays_of_block s ds)) → Among d (arrays_in_segments s segments (arrays_of_block s ds))
        go (inl q) rest = made_segments type segments x (entry.Array ty n) d (arrays_of_block s ds) q e
        go (inr q) rest = segments_more s segments d (arrays_of_block s ds) (rest q)
    made_from (With (DeclareProcedure result token g a end) ds) x ty n d h e = made_from ds x ty n d h e
    made_from (With (DeclareClass prefix token g interface a end) ds) x ty n d h e = made_from ds x ty n d h e

    array_like : (e : Entry) (ty : SimType) (n : ℕ) → OwnEntry e → Alike e (entry.Array ty n) → (a : SimType) × (m : ℕ) × (e ≡ entry.Array a m)
    array_like (entry.Array a m) ty n o l = (a, m, refl)
    array_like (entry.Variable a) ty n o l = absurd l
    array_like (entry.Constant a) ty n o l = absurd l
    array_like (entry.Procedure q m) ty n o l = absurd o
    array_like (entry.Class m) ty n o l = absurd o
    array_like (entry.Virtual q m) ty n o l = absurd o
    array_like (entry.Formal f) ty n o l = absurd o
    array_like (entry.Unspecified w) ty n o l = absurd o
    array_like (entry.Attribute name given result) ty n o l = absurd o

    -- each array of its tables is declared in it
    pub made : (d : DeclNo) (ty : SimType) (n : ℕ) → Among d (numbers_of s k) → entry_of s.tables d ≡ Some (entry.Array ty n) → Among d (arrays_of_block s (declared_in_text x))
    unfolding text
    made d ty n a h =
        let q = t.owned s of order k d a in
        let w = t.text_of_row s of order d.0 q.0 q.1 in
        go q.0 q.1 (some_entry q.0.entry (entry.Array ty n) (sym (t.row_entry s of order d q.0 q.1) ∙ h)) w.0 (some_text w.0 x (sym w.1 ∙ ap (slice_get (Ts s of order)) q.2 ∙ at)) w.2
      where
        some_entry : (e f : Entry) → Some e ≡ Some f → e ≡ f
        some_entry e f z = cc

        some_text : (y z : Text) → Some y ≡ Some z → y ≡ z
        some_text y z e = cc

        go : (row : Declaration) → slice_get s.tables.declarations d.0 ≡ Some row → row.entry ≡ entry.Array ty n → (y : Text) → y ≡ x → RowIn (Bs s of order) (Ts s of order) y d.0 row → Among d (arrays_of_block s (declared_in_text x))
        go row e f y z (procedure_row u p) = absurd (subst (Alike (entry.Procedure (result_named p.result) p.number)) f p.entry)
        go row e f y z (class_row u p) = absurd (let g : entry.Class p.number ≡ entry.Array ty n = sym p.entry ∙ f in cc)
        go row e f y z (formal_row u p l) = absurd (subst Parametric f p)
        go row e f y z (virtual_row u p l) = absurd (let g : false ≡ true = sym (ap is_virtual f) ∙ p in cc)
        go row e f y z (attribute_row u p) = absurd (let g : entry.Attribute p.name (typed_or_none (Some p.first) (parameter_of p.name)) (typed_or_none (Some p.first) (result_of p.name)) ≡ entry.Array ty n = sym p.entry ∙ f in cc)
        go row e f y z (simulation_row u p) = absurd (let g : entry.Attribute p.name (typed_or_none (Some p.first) (parameter_of p.name)) (typed_or_none (Some p.first) (result_of p.name)) ≡ entry.Array ty n = sym p.entry ∙ f in cc)
        go row e f y z (own_row u p) =
            let q = array_like p.entry ty n p.fits (subst (Alike p.entry) f p.alike) in
            subst (λ v. Among d (arrays_of_block s (declared_in_text v))) z
            (made_from (declared_in_text y) p.name q.0 q.1 d (subst (λ v. Has (Declares p.name v) (own_marks (declared_in_text y))) q.2 p.mark) (ap (λ (z : TokenNo). declared_at s z.0) p.token ∙ token_declared s of order d row e (p.listed, ap is_attribute f)))

    -- each array that is declared in the block is one of its tables
    own_named : (type : TypeName) (n : ℕ) (xs : List Identifier) (d : DeclNo) (more : List DeclNo) → ((m : Mark) → Has m (each (own_array type n) xs) → Has m (own_marks (declared_in_text x))) → Among d (arrays_named s xs more) → Among d (numbers_of s k) ⊎ Among d more
    unfolding own_array
    own_named type n [] d more h a = inr a
    own_named type n (y ∷ xs) d more h a =
        let r = row_for k x at y (entry.Array (type_named type) n) (h (Declares y (entry.Array (type_named type) n)) here) in
        go r.0 r.3 (subst (λ o. Among d (of_option o (arrays_named s xs more))) r.1 a) (λ q. own_named type n xs d more (λ m p. h m (there p)) q)
      where
        go : (e : DeclNo) → Among e (numbers_of s k) → Among d (e ∷ arrays_named s xs more) → (Among d (arrays_named s xs more) → Among d (numbers_of s k) ⊎ Among d more) → Among d (numbers_of s k) ⊎ Among d more
        go e b first rest = inl b
        go e b (later c) rest = rest c

    own_segments : (type : TypeName) (as_ : List Arrayed) (d : DeclNo) (more : List DeclNo) → ((m : Mark) → Has m (each (own_segment type) as_) → Has m (own_marks (declared_in_text x))) → Among d (arrays_in_segments s as_ more) → Among d (numbers_of s k) ⊎ Among d more
    own_segments type [] d more h a = inr a
    own_segments type (y ∷ as_) d more h a =
        go (own_named type (length y.bounds) y.names d (arrays_in_segments s as_ more) (λ m q. h m (has_left (own_segment type y) (each (own_segment type) as_) q)) a)
        (λ q. own_segments type as_ d more (λ m p. h m (has_right (own_segment type y) (each (own_segment type) as_) p)) q)
      where
        go : Among d (numbers_of s k) ⊎ Among d (arrays_in_segments s as_ more) → (Among d (arrays_in_segments s as_ more) → Among d (numbers_of s k) ⊎ Among d more) → Among d (numbers_of s k) ⊎ Among d more
        go (inl q) rest = inl q
        go (inr q) rest = rest q

    own_from : (ds : Declarations) (d : DeclNo) → ((m : Mark) → Has m (own_marks ds) → Has m (own_marks (declared_in_text x))) → Among d (arrays_of_block s ds) → Among d (numbers_of s k)
    own_from NoDeclaration d h a = elim a [ ]
    own_from (With (Variables type vs) ds) d h a = own_from ds d (λ m q. h m (has_right (each (own_variable type) vs) (own_marks ds) q)) a
    own_from (With (Arrays type token segments) ds) d h a =
        go (own_segments type segments d (arrays_of_block s ds) (λ m q. h m (has_left (each (own_segment type) segments) (own_marks ds) q)) a) (λ q. own_from ds d (λ m p. h m (has_right (each (own_segment type) segments) (own_marks ds) p)) q)
      where
        go : Among d (numbers_of s k) ⊎ Among d (arrays_of_block s ds) → (Among d (arrays_of_block s ds) → Among d (numbers_of s k)) → Among d (numbers_of s k)
        go (inl q) rest = q
        go (inr q) rest = rest q
    own_from (With (DeclareProcedure result token g a' end) ds) d h a = own_from ds d h a
    own_from (With (DeclareClass prefix token g interface a' end) ds) d h a = own_from ds d h a

    pub own : (d : DeclNo) → Among d (arrays_of_block s (declared_in_text x)) → Among d (numbers_of s k)
    own d a = own_from (declared_in_text x) d (λ m q. q) a
