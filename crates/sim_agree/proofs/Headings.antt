-- The parameters of the procedures and classes of an allowed program, and to which texts these belong.
use Rattle.std.proofs.Common.{◌≡◌, ◌<◌, ◌≤◌, ℕ, zero, suc, List, [], ◌∷◌, length, take, Option, Some, None, refl, sym, ap, ◌∙◌, subst, arith, ◌++◌, false, true}
use Rattle.std.specs.Prelude.{slice_get}
use Rattle.std.proofs.lemmas.Option.{slice_get_within}
use Rattle.sim_base.specs.declared.numbering.DeclNo.{DeclNo}
use Rattle.sim_tree.specs.declared.stmt.TypeName.{TypeName}
use Rattle.sim_agree.specs.Order.{InOrder}
use Rattle.sim_tree.specs.Syntax.{Heading, Statement}
use Rattle.sim_scope.specs.declared.scopes.Declaration.{Declaration}
use Rattle.sim_scope.specs.declared.types.Entry.{Entry}
use Rattle.sim_scope.specs.declared.types.Entry.TheVariants as entry
use Rattle.sim_scope.specs.declared.types.Formal.{Formal}
use Rattle.sim_scope.specs.declared.types.FormalKind.{FormalKind}
use Rattle.sim_scope.specs.declared.types.FormalKind.TheVariants as shape
use Rattle.sim_scope.specs.declared.types.Mode.{Mode}
use Rattle.sim_scope.specs.declared.types.Mode.TheVariants as mode
use Rattle.sim_scope.specs.declared.types.SimType.{SimType}
use Rattle.sim_scope.specs.Access.{encloser}
use Rattle.sim_scope.specs.Access.{around as around_of}
use Rattle.sim_scope.specs.Declare.{result_named}
use Rattle.sim_scope.specs.Building.{typed_or_none}
use Rattle.sim_scope.specs.Levels.{owner_of_level, base}
use Rattle.sim_scope.specs.Standard.{parameter_of, result_of}
use Rattle.sim_meaning.specs.Levels.{is_class}
use Rattle.sim_agree.proofs.ClassRows.{own_no_class}
use Rattle.sim_scope.specs.Scopes.{class_formals, class_formals_of, entry_of, formals_beyond, formals_in, is_virtual}
use Rattle.sim_scope.specs.Source.{Source, block_of}
use Rattle.sim_scope.specs.Tables.{BlockOf}
use Rattle.sim_meaning.specs.Closing as closing
use Rattle.sim_meaning.specs.Closing.{class_parameters}
use Rattle.sim_meaning.specs.Entries.{formals_from, formals_of, numbers_in, numbers_of}
use Rattle.sim_meaning.specs.Texts.{ProcedureText, Text, kind_of_type, text}
use Rattle.sim_sound.specs.Held.{Among, ArrayOf, ByName, Holds, IsFormal, Simply, first, formal_holds, held_by, later}
use Rattle.sim_sound.specs.Held as held
use Rattle.sim_sound.specs.Typed.{ClassThere, Distinct, FormalsAre, NoFormal, NoFormals, ProcedureThere}
use Rattle.sim_agree.specs.TablesOf.{TablesOf}
use Rattle.sim_agree.proofs.Clean.{Counts}
use Rattle.sim_agree.proofs.Fine.{Alike, IsStandard, Rising, RowIn, attribute_row, class_row, formal_row, own_row, owner_in, procedure_row, simulation_row, virtual_row}
use Rattle.sim_agree.proofs.Groups.{Declaring, OwnEntry, TypedFormal, Prefixing, Taking, Interfacing}
use Rattle.sim_agree.proofs.Steps.{IsParameter, Parametric}
use Rattle.sim_agree.proofs.Tables as t
use Rattle.sim_agree.proofs.Tables.{Bs, Ts}

-- what is declared is no parameter
own_is_none : (e f : Entry) → OwnEntry e → Alike e f → IsParameter f → ⊥
own_is_none (entry.Variable ty) (entry.Formal x) o a p = a
own_is_none (entry.Constant ty) (entry.Formal x) o a p = a
own_is_none (entry.Array ty n) (entry.Formal x) o a p = a
own_is_none (entry.Procedure r n) (entry.Formal x) o a p = o
own_is_none (entry.Class n) (entry.Formal x) o a p = o
own_is_none (entry.Virtual r n) (entry.Formal x) o a p = o
own_is_none (entry.Formal y) (entry.Formal x) o a p = o
own_is_none (entry.Unspecified v) (entry.Formal x) o a p = o
own_is_none (entry.Attribute name given result) (entry.Formal x) o a p = o
own_is_none (entry.Variable ty) (entry.Unspecified w) o a p = a
own_is_none (entry.Constant ty) (entry.Unspecified w) o a p = a
own_is_none (entry.Array ty n) (entry.Unspecified w) o a p = a
own_is_none (entry.Procedure r n) (entry.Unspecified w) o a p = o
own_is_none (entry.Class n) (entry.Unspecified w) o a p = o
own_is_none (entry.Virtual r n) (entry.Unspecified w) o a p = o
own_is_none (entry.Formal y) (entry.Unspecified w) o a p = o
own_is_none (entry.Unspecified v) (entry.Unspecified w) o a p = o
own_is_none (entry.Attribute name given result) (entry.Unspecified w) o a p = o
own_is_none e (entry.Variable ty) o a p = p
own_is_none e (entry.Constant ty) o a p = p
own_is_none e (entry.Array ty n) o a p = p
own_is_none e (entry.Procedure r n) o a p = p
own_is_none e (entry.Class n) o a p = p
own_is_none e (entry.Virtual r n) o a p = p
own_is_none e (entry.Attribute name given result) o a p = p

procedure_is_none : (r : Option SimType) (n : ℕ) (f : Entry) → Alike (entry.Procedure r n) f → IsParameter f → ⊥
procedure_is_none r n (entry.Formal x) a p = a
procedure_is_none r n (entry.Unspecified w) a p = a
procedure_is_none r n (entry.Variable ty) a p = p
procedure_is_none r n (entry.Constant ty) a p = p
procedure_is_none r n (entry.Array ty m) a p = p
procedure_is_none r n (entry.Procedure q m) a p = p
procedure_is_none r n (entry.Class m) a p = p
procedure_is_none r n (entry.Virtual q m) a p = p
procedure_is_none r n (entry.Attribute name given result) a p = p

some_same : {A : Type 0} (a b : A) → Some a ≡ Some b → a ≡ b
some_same a b e = cc

-- the first of a list
taken_at : {A : Type 0} (m : ℕ) (xs : List A) (n : ℕ) (x : A) → slice_get (take m xs) n ≡ Some x → (slice_get xs n ≡ Some x) × (n < m)
taken_at zero xs n x at = absurd (cc)
taken_at (suc m) [] n x at = absurd (cc)
taken_at (suc m) (y ∷ ys) zero x at = (at, omega arith)
taken_at (suc m) (y ∷ ys) (suc n) x at = let q = taken_at m ys n x at in (q.0, (let lt : n < m = q.1 in omega arith))

at_among : (ns : List DeclNo) (n : ℕ) (d : DeclNo) → slice_get ns n ≡ Some d → Among d ns
at_among [] n d at = absurd (cc)
at_among (m ∷ ns) zero d at = subst (λ z. Among z (m ∷ ns)) (some_same m d at) first
at_among (m ∷ ns) (suc n) d at = later (at_among ns n d at)

virtual_is_none : (e : Entry) → is_virtual e ≡ true → IsParameter e → ⊥
virtual_is_none (entry.Variable ty) v q = q
virtual_is_none (entry.Constant ty) v q = q
virtual_is_none (entry.Array ty n) v q = q
virtual_is_none (entry.Procedure r n) v q = q
virtual_is_none (entry.Class n) v q = q
virtual_is_none (entry.Virtual r n) v q = q
virtual_is_none (entry.Formal f) v q = cc
virtual_is_none (entry.Unspecified w) v q = cc
virtual_is_none (entry.Attribute name given result) v q = q

taken : (ns : List DeclNo) (m : ℕ) → m ≡ length ns → take m ns ≡ ns
taken [] zero e = refl
taken [] (suc m) e = absurd (let f : suc m ≡ 0 = e in cc)
taken (n ∷ ns) zero e = absurd (let f : length (n ∷ ns) ≡ suc (length ns) = omega arith in let g : zero ≡ suc (length ns) = e ∙ f in cc)
taken (n ∷ ns) (suc m) e = let f : length (n ∷ ns) ≡ suc (length ns) = omega arith in ap (λ z. n ∷ z) (taken ns m (omega (arith, e, f)))

module _ (s : Source) (of : TablesOf s) (order : InOrder s.program) where
  -- each parameter has something to hold
  formal_has : (m : Mode) (k : FormalKind) (ty : Option SimType) → TypedFormal k ty → (h : Holds) × (formal_holds s m k ty ≡ Some h)
  formal_has mode.ByName shape.Simple (Some ty) q = (ByName (Simply (kind_of_type ty)), refl)
  formal_has mode.ByName shape.Array (Some ty) q = (ByName (ArrayOf (held_by s ty)), refl)
  formal_has mode.ByName shape.Procedure ty q = (ByName (held.Procedure ty), refl)
  formal_has mode.ByValue shape.Simple (Some ty) q = (held_by s ty, refl)
  formal_has mode.ByValue shape.Array (Some ty) q = (ArrayOf (held_by s ty), refl)
  formal_has mode.ByValue shape.Procedure ty q = (held.Procedure ty, refl)
  formal_has mode.ByReference shape.Simple (Some ty) q = (held_by s ty, refl)
  formal_has mode.ByReference shape.Array (Some ty) q = (ArrayOf (held_by s ty), refl)
  formal_has mode.ByReference shape.Procedure ty q = (held.Procedure ty, refl)
  formal_has m shape.Simple None q = absurd q
  formal_has m shape.Array None q = absurd q

  -- a parameter that is specified
  record IsSpecified (d : DeclNo) : Type 0 where
    formal : Formal
    entry : entry_of s.tables d ≡ Some (entry.Formal formal)
    holds : Holds
    is : formal_holds s formal.mode formal.kind formal.ty ≡ Some holds

  of_entry : (d : DeclNo) (row : Declaration) → slice_get s.tables.declarations d.0 ≡ Some row → Parametric row.entry → IsSpecified d
  of_entry d row at p = go row.entry refl p
    where
      go : (e : Entry) → row.entry ≡ e → Parametric e → IsSpecified d
      go (entry.Formal f) e q = let h = formal_has f.mode f.kind f.ty q in record { formal = f; entry = t.row_entry s of order d row at ∙ ap Some e; holds = h.0; is = h.1 }
      go (entry.Unspecified w) e q = absurd (t.specified_row s of order d.0 row at w e)
      go (entry.Variable ty) e q = absurd q
      go (entry.Constant ty) e q = absurd q
      go (entry.Array ty n) e q = absurd q
      go (entry.Procedure r n) e q = absurd q
      go (entry.Class n) e q = absurd q
      go (entry.Virtual r n) e q = absurd q
      go (entry.Attribute name given result) e q = absurd q

  pub param_in : (x : Text) (d : ℕ) (row : Declaration) → RowIn (Bs s of order) (Ts s of order) x d row → IsParameter row.entry → Parametric row.entry
  param_in x d row (own_row y p) q = absurd (own_is_none p.entry row.entry p.fits p.alike q)
  param_in x d row (procedure_row y p) q = absurd (procedure_is_none (result_named p.result) p.number row.entry p.entry q)
  param_in x d row (class_row y p) q = absurd (subst IsParameter p.entry q)
  param_in x d row (formal_row y p l) q = p
  param_in x d row (virtual_row y p l) q = absurd (virtual_is_none row.entry p q)
  param_in x d row (attribute_row y p) q = absurd (subst IsParameter p.entry q)
  param_in x d row (simulation_row y p) q = absurd (subst IsParameter p.entry q)

  -- a parameter is specified
  parameter_is : (d : DeclNo) (row : Declaration) → slice_get s.tables.declarations d.0 ≡ Some row → IsParameter row.entry → IsSpecified d
  parameter_is d row at q = let w = t.text_of_row s of order d.0 row at in of_entry d row at (param_in w.0 d.0 row w.2 q)

  formals_are : (ns : List DeclNo) → ((n : ℕ) (d : DeclNo) → slice_get ns n ≡ Some d → IsSpecified d) → FormalsAre s ns (formals_from s ns)
  formals_are [] h = tt
  formals_are (d ∷ ns) h = let i = h 0 d refl in rw i.entry (i.holds, i.entry, i.is, formals_are ns (λ n e at. h (suc n) e at))

  -- the same, as calls of classes read them
  parameters_are : (ns : List DeclNo) → ((n : ℕ) (d : DeclNo) → slice_get ns n ≡ Some d → IsSpecified d) → FormalsAre s ns (closing.formals_from s ns)
  parameters_are [] h = tt
  parameters_are (d ∷ ns) h = let i = h 0 d refl in rw i.entry (i.holds, i.entry, i.is, parameters_are ns (λ n e at. h (suc n) e at))

  -- those of a block come first
  in_front_specified : (k : ℕ) (row : BlockOf) → slice_get s.tables.blocks k ≡ Some row → (n : ℕ) (d : DeclNo) → slice_get (take row.formals row.numbers) n ≡ Some d → IsSpecified d
  in_front_specified k row at n d e =
      let q = taken_at row.formals row.numbers n d e in
      let among : Among d (numbers_of s k) = subst (λ z. Among d z) (sym (ap numbers_in at)) (at_among row.numbers n d q.0) in
      let r = t.owned s of order k d among in
      parameter_is d r.0 r.1 ((t.counts s of order k row at).front n d r.0 q.0 r.1 q.1)

  -- those in front are formal parameters
  pub parameters_formal : (k n : ℕ) (d : DeclNo) → slice_get (formals_in (slice_get s.tables.blocks k)) n ≡ Some d → (f : Formal) × (entry_of s.tables d ≡ Some (entry.Formal f))
  parameters_formal k n d e = go (slice_get s.tables.blocks k) refl e
    where
      go : (o : Option BlockOf) → slice_get s.tables.blocks k ≡ o → slice_get (formals_in o) n ≡ Some d → (f : Formal) × (entry_of s.tables d ≡ Some (entry.Formal f))
      go None at f = absurd (cc)
      go (Some row) at f = let i = in_front_specified k row at n d f in (i.formal, i.entry)

  -- and listed
  pub formal_listed : (k n : ℕ) (d : DeclNo) → slice_get (formals_in (slice_get s.tables.blocks k)) n ≡ Some d → Among d (numbers_of s k)
  formal_listed k n d e = go (slice_get s.tables.blocks k) e
    where
      go : (o : Option BlockOf) → slice_get (formals_in o) n ≡ Some d → Among d (numbers_in o)
      go None f = absurd (cc)
      go (Some row) f = at_among row.numbers n d (taken_at row.formals row.numbers n d f).0

  block_formals : (k : ℕ) (row : BlockOf) → slice_get s.tables.blocks k ≡ Some row → FormalsAre s (take row.formals row.numbers) (formals_from s (take row.formals row.numbers))
  block_formals k row at = formals_are (take row.formals row.numbers) (in_front_specified k row at)

  block_parameters : (k : ℕ) (row : BlockOf) → slice_get s.tables.blocks k ≡ Some row → FormalsAre s (take row.formals row.numbers) (closing.formals_from s (take row.formals row.numbers))
  block_parameters k row at = parameters_are (take row.formals row.numbers) (in_front_specified k row at)

  -- in a procedure nothing else is declared
  of_procedure : (k : ℕ) (result : Option TypeName) (h : Heading) (a : Statement) → text s k ≡ Some (ProcedureText result h a) → (d : DeclNo) (row : Declaration) → slice_get s.tables.declarations d.0 ≡ Some row → row.block ≡ k → Parametric row.entry
  unfolding text
  of_procedure k result h a is d row at e =
      let w = t.text_of_row s of order d.0 row at in
      go w.0 (sym w.1 ∙ ap (slice_get (Ts s of order)) e ∙ is) w.2
    where
      go : (x : Text) → Some x ≡ Some (ProcedureText result h a) → RowIn (Bs s of order) (Ts s of order) x d.0 row → Parametric row.entry
      go x f (own_row y p) = absurd (subst Declaring (some_same x (ProcedureText result h a) f) y)
      go x f (procedure_row y p) = absurd (subst Declaring (some_same x (ProcedureText result h a) f) y)
      go x f (class_row y p) = absurd (subst Declaring (some_same x (ProcedureText result h a) f) y)
      go x f (formal_row y p l) = p
      go x f (virtual_row y p l) = absurd (subst Interfacing (some_same x (ProcedureText result h a) f) y)
      go x f (attribute_row y p) = absurd (subst IsStandard (some_same x (ProcedureText result h a) f) y)
      go x f (simulation_row y p) = absurd (subst Prefixing (some_same x (ProcedureText result h a) f) y)

  parametric : (e : Entry) → Parametric e → IsParameter e
  parametric (entry.Formal f) q = tt
  parametric (entry.Unspecified w) q = tt
  parametric (entry.Variable ty) q = absurd q
  parametric (entry.Constant ty) q = absurd q
  parametric (entry.Array ty n) q = absurd q
  parametric (entry.Procedure r n) q = absurd q
  parametric (entry.Class n) q = absurd q
  parametric (entry.Virtual r n) q = absurd q
  parametric (entry.Attribute name given result) q = absurd q

  in_range : {A : Type 0} (xs : List A) (n : ℕ) → n < length xs → (x : A) × (slice_get xs n ≡ Some x)
  in_range {A = A} [] n lt = absurd (let e : length {A = A} [] ≡ 0 = refl in omega (arith, lt, e))
  in_range (x ∷ xs) zero lt = (x, refl)
  in_range (x ∷ xs) (suc n) lt = in_range xs n (let e : length (x ∷ xs) ≡ suc (length xs) = omega arith in omega (arith, lt, e))

  counted : (k : ℕ) (result : Option TypeName) (h : Heading) (a : Statement) → text s k ≡ Some (ProcedureText result h a) → (row : BlockOf) → slice_get s.tables.blocks k ≡ Some row → row.formals ≡ length row.numbers
  counted k result h a is row at = go (length row.numbers) refl
    where
      c : Counts s.tables.declarations row
      c = t.counts s of order k row at

      go : (m : ℕ) → length row.numbers ≡ m → row.formals ≡ length row.numbers
      go zero e = let le : row.formals ≤ length row.numbers = c.fits in omega (arith, le, e)
      go (suc m) e =
          let x = in_range row.numbers m (omega (arith, e)) in
          let among : Among x.0 (numbers_of s k) = subst (λ z. Among x.0 z) (sym (ap numbers_in at)) (at_among row.numbers m x.0 x.1) in
          let r = t.owned s of order k x.0 among in
          let lt : m < row.formals = c.back m x.0 r.0 x.1 r.1 (parametric r.0.entry (of_procedure k result h a is x.0 r.0 r.1 r.2)) in
          let le : row.formals ≤ length row.numbers = c.fits in omega (arith, le, e, lt)

  pub headings : (k : ℕ) (result : Option TypeName) (h : Heading) (a : Statement) → text s k ≡ Some (ProcedureText result h a) → FormalsAre s (numbers_of s k) (formals_of s k)
  headings k result h a is = go (slice_get s.tables.blocks k) refl
    where
      go : (o : Option BlockOf) → slice_get s.tables.blocks k ≡ o → FormalsAre s (numbers_of s k) (formals_of s k)
      go None e = rw e tt
      go (Some row) e =
          let all : take row.formals row.numbers ≡ row.numbers = taken row.numbers row.formals (counted k result h a is row e) in
          let body : FormalsAre s row.numbers (formals_from s row.numbers) = subst (λ z. FormalsAre s z (formals_from s z)) all (block_formals k row e) in
          rw (e, all) body

  both_specified : (xs ys : List DeclNo) → ((n : ℕ) (d : DeclNo) → slice_get xs n ≡ Some d → IsSpecified d) → ((n : ℕ) (d : DeclNo) → slice_get ys n ≡ Some d → IsSpecified d) → (n : ℕ) (d : DeclNo) → slice_get (xs ++ ys) n ≡ Some d → IsSpecified d
  both_specified [] ys a b n d e = b n d e
  both_specified (x ∷ xs) ys a b zero d e = a 0 d e
  both_specified (x ∷ xs) ys a b (suc n) d e = both_specified xs ys (λ m f at. a (suc m) f at) b n d e

  -- the parameters of a class are those of all its levels
  levels_specified : (m k n : ℕ) (d : DeclNo) → slice_get (class_formals_of s.tables m k) n ≡ Some d → IsSpecified d
  unfolding class_formals_of
  levels_specified zero k n d e = absurd (cc)
  levels_specified (suc m) k n d e =
      both_specified (formals_beyond (λ b. class_formals_of s.tables m b) (base s.tables k)) (formals_in (slice_get s.tables.blocks k)) (further (base s.tables k) (λ b i f at. levels_specified m b i f at)) (own (slice_get s.tables.blocks k) refl) n d e
    where
      further : (o : Option ℕ) → ((b i : ℕ) (f : DeclNo) → slice_get (class_formals_of s.tables m b) i ≡ Some f → IsSpecified f) → (i : ℕ) (f : DeclNo) → slice_get (formals_beyond (λ b. class_formals_of s.tables m b) o) i ≡ Some f → IsSpecified f
      further None h i f at = absurd (cc)
      further (Some b) h i f at = h b i f at

      own : (o : Option BlockOf) → slice_get s.tables.blocks k ≡ o → (i : ℕ) (f : DeclNo) → slice_get (formals_in o) i ≡ Some f → IsSpecified f
      own None at i f e = absurd (cc)
      own (Some row) at i f e = in_front_specified k row at i f e

  pub class_headings : (k : ℕ) → FormalsAre s (class_formals s.tables k) (class_parameters s (Some k))
  unfolding class_formals
  class_headings k = parameters_are (class_formals s.tables k) (λ n d e. levels_specified (length s.tables.blocks) k n d e)

  -- its own come last
  own_formals : (k : ℕ) (row : BlockOf) → slice_get s.tables.blocks k ≡ Some row → (d : DeclNo) → Among d (take row.formals row.numbers) → Among d (class_formals s.tables k)
  unfolding class_formals class_formals_of
  own_formals k row at d a =
      let lt : k < length s.tables.blocks = slice_get_within s.tables.blocks k row at in
      go (length s.tables.blocks) lt
    where
      behind : (xs ys : List DeclNo) → Among d ys → Among d (xs ++ ys)
      behind [] ys a = a
      behind (x ∷ xs) ys a = later (behind xs ys a)

      go : (m : ℕ) → k < m → Among d (class_formals_of s.tables m k)
      go zero lt = absurd (omega arith)
      go (suc m) lt = behind (formals_beyond (λ b. class_formals_of s.tables m b) (base s.tables k)) (formals_in (slice_get s.tables.blocks k)) (subst (λ o. Among d (formals_in o)) (sym at) a)

  -- and they are parameters
  pub parameters : (k : ℕ) (d : DeclNo) → Among d (numbers_of s k) → IsFormal (entry_of s.tables d) → Among d (class_formals s.tables k)
  parameters k d among formal = go (slice_get s.tables.blocks k) refl among
    where
      r : (row : Declaration) × (slice_get s.tables.declarations d.0 ≡ Some row) × (row.block ≡ k)
      r = t.owned s of order k d among

      is_parameter : (e : Entry) → IsFormal (Some e) → IsParameter e
      is_parameter (entry.Formal f) q = tt
      is_parameter (entry.Unspecified w) q = absurd q
      is_parameter (entry.Variable ty) q = absurd q
      is_parameter (entry.Constant ty) q = absurd q
      is_parameter (entry.Array ty n) q = absurd q
      is_parameter (entry.Procedure x n) q = absurd q
      is_parameter (entry.Class n) q = absurd q
      is_parameter (entry.Virtual x n) q = absurd q
      is_parameter (entry.Attribute name given x) q = absurd q

      parameter : IsParameter r.0.entry
      parameter = is_parameter r.0.entry (subst IsFormal (t.row_entry s of order d r.0 r.1) formal)

      place : (ns : List DeclNo) → Among d ns → (n : ℕ) × (slice_get ns n ≡ Some d)
      place [] a = elim a [ ]
      place (e ∷ ns) first = (0, refl)
      place (e ∷ ns) (later a) = let q = place ns a in (suc q.0, q.1)

      in_front : (ns : List DeclNo) (m n : ℕ) → n < m → slice_get ns n ≡ Some d → Among d (take m ns)
      in_front ns zero n lt at = absurd (omega arith)
      in_front [] (suc m) n lt at = absurd (cc)
      in_front (e ∷ ns) (suc m) zero lt at = subst (λ z. Among z (e ∷ take m ns)) (some_same e d at) first
      in_front (e ∷ ns) (suc m) (suc n) lt at = later (in_front ns m n (omega (arith, lt)) at)

      go : (o : Option BlockOf) → slice_get s.tables.blocks k ≡ o → Among d (numbers_in o) → Among d (class_formals s.tables k)
      go None at a = absurd (elim a [ ])
      go (Some row) at a =
          let q = place row.numbers a in
          let lt : q.0 < row.formals = (t.counts s of order k row at).back q.0 d r.0 q.1 r.1 parameter in
          own_formals k row at d (in_front row.numbers row.formals q.0 lt q.1)

  -- ---- what is listed

  -- each declaration is listed once
  pub different : (k : ℕ) → Distinct (numbers_of s k)
  different k = go (numbers_of s k) (t.rising s of order k)
    where
      place : (d : DeclNo) (ns : List DeclNo) → Among d ns → (n : ℕ) × (slice_get ns n ≡ Some d)
      place d [] a = elim a [ ]
      place d (e ∷ ns) first = (0, refl)
      place d (e ∷ ns) (later a) = let q = place d ns a in (suc q.0, q.1)

      go : (ns : List DeclNo) → Rising ns → Distinct ns
      go [] h = tt
      go (d ∷ ns) h = (λ a. (let q = place d ns a in let lt : d.0 < d.0 = h 0 (suc q.0) d d refl q.1 (omega arith) in omega (arith, lt)), go ns (λ n m e f at to lt. h (suc n) (suc m) e f at to (omega (arith, lt))))

  -- what takes none has no parameters
  pub no_formals : (k : ℕ) (z : Text) → (Taking z → ⊥) → text s k ≡ Some z → NoFormals s (numbers_of s k)
  unfolding text
  no_formals k z free is = each (numbers_of s k) (λ d a. a)
    where
      of_own : (o e : Entry) → OwnEntry o → Alike o e → NoFormal (Some e)
      of_own o (entry.Variable ty) q a = tt
      of_own o (entry.Constant ty) q a = tt
      of_own o (entry.Array ty n) q a = tt
      of_own o (entry.Procedure x n) q a = tt
      of_own o (entry.Class n) q a = tt
      of_own o (entry.Virtual x n) q a = tt
      of_own o (entry.Unspecified w) q a = tt
      of_own o (entry.Attribute name given x) q a = tt
      of_own o (entry.Formal f) q a = absurd (own_is_none o (entry.Formal f) q a tt)

      of_procedures : (x : Option SimType) (n : ℕ) (e : Entry) → Alike (entry.Procedure x n) e → NoFormal (Some e)
      of_procedures x n (entry.Variable ty) a = tt
      of_procedures x n (entry.Constant ty) a = tt
      of_procedures x n (entry.Array ty m) a = tt
      of_procedures x n (entry.Procedure y m) a = tt
      of_procedures x n (entry.Class m) a = tt
      of_procedures x n (entry.Virtual y m) a = tt
      of_procedures x n (entry.Unspecified w) a = tt
      of_procedures x n (entry.Attribute name given y) a = tt
      of_procedures x n (entry.Formal f) a = absurd a

      of_virtuals : (e : Entry) → is_virtual e ≡ true → NoFormal (Some e)
      of_virtuals (entry.Variable ty) v = tt
      of_virtuals (entry.Constant ty) v = tt
      of_virtuals (entry.Array ty m) v = tt
      of_virtuals (entry.Procedure y m) v = tt
      of_virtuals (entry.Class m) v = tt
      of_virtuals (entry.Virtual y m) v = tt
      of_virtuals (entry.Unspecified w) v = tt
      of_virtuals (entry.Attribute name given y) v = tt
      of_virtuals (entry.Formal f) v = absurd (cc)

      in_row : (x : Text) → Some x ≡ Some z → (d : ℕ) (row : Declaration) → RowIn (Bs s of order) (Ts s of order) x d row → NoFormal (Some row.entry)
      in_row x f d row (own_row y p) = of_own p.entry row.entry p.fits p.alike
      in_row x f d row (procedure_row y p) = of_procedures (result_named p.result) p.number row.entry p.entry
      in_row x f d row (class_row y p) = subst (λ z. NoFormal (Some z)) (sym p.entry) tt
      in_row x f d row (formal_row y p l) = absurd (free (subst Taking (some_same x z f) y))
      in_row x f d row (virtual_row y p l) = of_virtuals row.entry p
      in_row x f d row (attribute_row y p) = subst (λ z. NoFormal (Some z)) (sym p.entry) tt
      in_row x f d row (simulation_row y p) = subst (λ z. NoFormal (Some z)) (sym p.entry) tt

      one : (d : DeclNo) → Among d (numbers_of s k) → NoFormal (entry_of s.tables d)
      one d a =
          let r = t.owned s of order k d a in
          let w = t.text_of_row s of order d.0 r.0 r.1 in
          subst NoFormal (sym (t.row_entry s of order d r.0 r.1)) (in_row w.0 (sym w.1 ∙ ap (slice_get (Ts s of order)) r.2 ∙ is) d.0 r.0 w.2)

      each : (ns : List DeclNo) → ((d : DeclNo) → Among d ns → Among d (numbers_of s k)) → NoFormals s ns
      each [] h = tt
      each (d ∷ ns) h = (one d (h d first), each ns (λ e a. h e (later a)))

  -- ---- whose texts these are

  pub owner_at : (k : ℕ) (d : DeclNo) → owner_in (slice_get s.tables.blocks k) ≡ Some d → owner_of_level s.tables (Some k) ≡ Some d
  owner_at k d e = go (slice_get s.tables.blocks k) refl e
    where
      go : (o : Option BlockOf) → slice_get s.tables.blocks k ≡ o → owner_in o ≡ Some d → owner_of_level s.tables (Some k) ≡ Some d
      go None at f = absurd (cc)
      go (Some row) at f = rw at f

  pub procedures : (d : DeclNo) (result : Option SimType) (k : ℕ) → entry_of s.tables d ≡ Some (entry.Procedure result k) → ProcedureThere s d k
  unfolding text encloser
  procedures d result k e =
      let r = t.entry_row s of order d (entry.Procedure result k) e in
      let w = t.text_of_row s of order d.0 r.0 r.1 in
      go r.0 r.1 r.2 w.0 w.2
    where
      go : (row : Declaration) → slice_get s.tables.declarations d.0 ≡ Some row → row.entry ≡ entry.Procedure result k → (x : Text) → RowIn (Bs s of order) (Ts s of order) x d.0 row → ProcedureThere s d k
      go row at f x (own_row y p) = absurd (own_no_procedure p.entry p.fits (subst (Alike p.entry) f p.alike))
        where
          own_no_procedure : (o : Entry) → OwnEntry o → Alike o (entry.Procedure result k) → ⊥
          own_no_procedure (entry.Variable ty) q a = a
          own_no_procedure (entry.Constant ty) q a = a
          own_no_procedure (entry.Array ty n) q a = a
          own_no_procedure (entry.Procedure z n) q a = q
          own_no_procedure (entry.Class n) q a = q
          own_no_procedure (entry.Virtual z n) q a = q
          own_no_procedure (entry.Formal z) q a = q
          own_no_procedure (entry.Unspecified w) q a = q
          own_no_procedure (entry.Attribute name given z) q a = q
      go row at f x (procedure_row y p) =
          let same : p.number ≡ k = (subst (Alike (entry.Procedure (result_named p.result) p.number)) f p.entry).1 in
          let block : row.block ≡ block_of s d = sym (t.block_is s of order d row at) in
          record {
            given = p.result;
            heading = p.heading;
            body = p.body;
            is = subst (λ z. slice_get (Ts s of order) z ≡ Some (ProcedureText p.result p.heading p.body)) same p.text;
            around = subst (λ z. around_of (slice_get s.tables.blocks z) ≡ Some (block_of s d)) same (p.around ∙ ap Some block);
            owned = subst (λ z. owner_of_level s.tables (Some z) ≡ Some d) same (owner_at p.number d p.owner);
          }
      go row at f x (class_row y p) = absurd (let g : entry.Class p.number ≡ entry.Procedure result k = sym p.entry ∙ f in cc)
      go row at f x (formal_row y p l) = absurd (subst Parametric f p)
      go row at f x (virtual_row y p l) = absurd (let g : false ≡ true = sym (ap is_virtual f) ∙ p in cc)
      go row at f x (attribute_row y p) = absurd (let g : entry.Attribute p.name (typed_or_none (Some p.first) (parameter_of p.name)) (typed_or_none (Some p.first) (result_of p.name)) ≡ entry.Procedure result k = sym p.entry ∙ f in cc)
      go row at f x (simulation_row y p) = absurd (let g : entry.Attribute p.name (typed_or_none (Some p.first) (parameter_of p.name)) (typed_or_none (Some p.first) (result_of p.name)) ≡ entry.Procedure result k = sym p.entry ∙ f in cc)

  pub classes : (d : DeclNo) (k : ℕ) → entry_of s.tables d ≡ Some (entry.Class k) → ClassThere s d k × (owner_of_level s.tables (Some k) ≡ Some d)
  unfolding text encloser
  classes d k e =
      let r = t.entry_row s of order d (entry.Class k) e in
      let w = t.text_of_row s of order d.0 r.0 r.1 in
      go r.0 r.1 r.2 w.0 w.2
    where
      go : (row : Declaration) → slice_get s.tables.declarations d.0 ≡ Some row → row.entry ≡ entry.Class k → (x : Text) → RowIn (Bs s of order) (Ts s of order) x d.0 row → ClassThere s d k × (owner_of_level s.tables (Some k) ≡ Some d)
      go row at f x (own_row y p) = absurd (own_no_class p.entry k p.fits (subst (Alike p.entry) f p.alike))
      go row at f x (procedure_row y p) = absurd (subst (Alike (entry.Procedure (result_named p.result) p.number)) f p.entry)
      go row at f x (class_row y p) =
          let same : p.number ≡ k = number p.number k (sym p.entry ∙ f) in
          let block : row.block ≡ block_of s d = sym (t.block_is s of order d row at) in (
            record {
              is = ap is_class (subst (λ z. slice_get (Ts s of order) z ≡ Some p.class) same p.text) ∙ p.is;
              around = subst (λ z. around_of (slice_get s.tables.blocks z) ≡ Some (block_of s d)) same (p.around ∙ ap Some block);
            },
            subst (λ z. owner_of_level s.tables (Some z) ≡ Some d) same (owner_at p.number d p.owner),
          )
        where
          number : (m n : ℕ) → entry.Class m ≡ entry.Class n → m ≡ n
          number m n q = cc
      go row at f x (formal_row y p l) = absurd (subst Parametric f p)
      go row at f x (virtual_row y p l) = absurd (let g : false ≡ true = sym (ap is_virtual f) ∙ p in cc)
      go row at f x (attribute_row y p) = absurd (let g : entry.Attribute p.name (typed_or_none (Some p.first) (parameter_of p.name)) (typed_or_none (Some p.first) (result_of p.name)) ≡ entry.Class k = sym p.entry ∙ f in cc)
      go row at f x (simulation_row y p) = absurd (let g : entry.Attribute p.name (typed_or_none (Some p.first) (parameter_of p.name)) (typed_or_none (Some p.first) (result_of p.name)) ≡ entry.Class k = sym p.entry ∙ f in cc)
