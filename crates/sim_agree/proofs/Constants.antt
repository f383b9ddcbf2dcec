-- The value of a declared constant is the one that is written where it is declared.
use Rattle.std.proofs.Common.{◌≡◌, ◌<◌, ◌≤◌, ◌+◌, ◌⊎◌, inl, inr, ℕ, true, false, List, [], ◌∷◌, ◌++◌, length, Option, Some, None, refl, sym, ap, ◌∙◌, subst, arith}
use Rattle.std.specs.Prelude.{◌==◌, if◌then◌else◌, slice_get}
use Rattle.std.proofs.lemmas.Bool.Decides.{nat_tests}
use Rattle.sim_base.specs.declared.numbering.DeclNo.{DeclNo}
use Rattle.sim_base.specs.declared.numbering.TokenNo.{TokenNo}
use Rattle.sim_tree.specs.declared.expr.Identifier.{Identifier}
use Rattle.sim_tree.specs.declared.stmt.Constant.{Constant}
use Rattle.sim_tree.specs.declared.stmt.TypeName.{TypeName}
use Rattle.sim_tree.specs.declared.stmt.Variable.{Variable}
use Rattle.sim_tree.specs.Syntax.{Arrayed, Arrays, Declaration as Declared, Declarations, DeclareClass, DeclareProcedure, NoDeclaration, Variables, With}
use Rattle.sim_agree.specs.Order.{InOrder}
use Rattle.sim_scope.specs.declared.scopes.Declaration.{Declaration}
use Rattle.sim_scope.specs.declared.types.Entry.{Entry}
use Rattle.sim_scope.specs.declared.types.Entry.TheVariants as entry
use Rattle.sim_scope.specs.declared.types.SimType.{SimType}
use Rattle.sim_scope.specs.Building.{Declares, Mark, typed_or_none}
use Rattle.sim_scope.specs.Standard.{parameter_of, result_of}
use Rattle.sim_scope.specs.Declare.{result_named, type_named}
use Rattle.sim_scope.specs.Runs.{each}
use Rattle.sim_scope.specs.Scopes.{entry_of, is_virtual}
use Rattle.sim_scope.specs.Source.{Source}
use Rattle.sim_values.specs.Plain.{Plain as Value}
use Rattle.sim_meaning.specs.Texts.{BlockText, ClassText, ConnectionText, PrefixedText, ProcedureText, StandardText, Text, among_declarations, among_variables, constant_in, constant_of, constant_value, kind_of_type, row_constant, text, value_in}
use Rattle.sim_agree.specs.ConstantAt.{ConstantAt, InBlock, InClass, Lists, OneOf, at_first, further, head, tail, InPrefixed}
use Rattle.sim_agree.specs.TablesOf.{TablesOf}
use Rattle.sim_agree.proofs.Groups.{Has, OwnEntry, here, own_array, own_marks, own_segment, own_variable, there}
use Rattle.sim_agree.proofs.Steps.{Parametric}
use Rattle.sim_agree.proofs.Fine.{Alike, Own, RowIn, attribute_row, class_row, formal_row, own_row, procedure_row, simulation_row, virtual_row}
use Rattle.sim_agree.proofs.Tables as t
use Rattle.sim_agree.proofs.Tables.{Bs, Ts}
use Rattle.sim_agree.proofs.TextOrder.{Between, between_le, between_split, own_tokens, segment_tokens, text_in_order, variable_tokens}

-- one of two lists of marks has it
pub has_split : {m : Mark} (xs ys : List Mark) → Has m (xs ++ ys) → Has m xs ⊎ Has m ys
has_split [] ys h = inr h
has_split (x ∷ xs) ys here = inl here
has_split {m = m} (x ∷ xs) ys (there h) = go (has_split xs ys h)
  where
    go : Has m xs ⊎ Has m ys → Has m (x ∷ xs) ⊎ Has m ys
    go (inl q) = inl (there q)
    go (inr q) = inr q

pub only : (y : Identifier) (e : Entry) (m : Mark) → Has m (Declares y e ∷ []) → m ≡ Declares y e
only y e m here = refl
only y e m (there h) = elim h [ ]

cases : {m q : Mark} {ms : List Mark} → Has m (q ∷ ms) → (m ≡ q) ⊎ Has m ms
cases here = inl refl
cases (there q) = inr q

module _ (s : Source) (x : Identifier) (ty : SimType) where
  -- the mark of a variable that is this constant
  variable_is : (type : TypeName) (v : Variable) → Has (Declares x (entry.Constant ty)) (own_variable type v) → (c : Constant) × (v.value ≡ Some c) × (x ≡ v.name) × (type_named type ≡ ty)
  unfolding own_variable
  variable_is type v h = go v.value refl h
    where
      none : Declares x (entry.Constant ty) ≡ Declares v.name (entry.Variable (type_named type)) → ⊥
      none e = cc

      name : Declares x (entry.Constant ty) ≡ Declares v.name (entry.Constant (type_named type)) → x ≡ v.name
      name e = cc

      typed : Declares x (entry.Constant ty) ≡ Declares v.name (entry.Constant (type_named type)) → type_named type ≡ ty
      typed e = cc

      go : (o : Option Constant) → v.value ≡ o → Has (Declares x (entry.Constant ty)) (elim o [ None ↦ Declares v.name (entry.Variable (type_named type)) ∷ [] | Some c ↦ Declares v.name (entry.Constant (type_named type)) ∷ [] ])
          → (c : Constant) × (v.value ≡ Some c) × (x ≡ v.name) × (type_named type ≡ ty)
      go None e h = absurd (none (only v.name (entry.Variable (type_named type)) (Declares x (entry.Constant ty)) h))
      go (Some c) e h = let q = only v.name (entry.Constant (type_named type)) (Declares x (entry.Constant ty)) h in (c, e, name q, typed q)

  record InVariables (type : TypeName) (vs : List Variable) (other : Option Value) (i j : ℕ) : Type 0 where
    named : type_named type ≡ ty
    variable : Variable
    one : OneOf variable vs
    constant : Constant
    has : variable.value ≡ Some constant
    value : among_variables s x.token.0 vs other ≡ constant_value s constant
    low : i ≤ x.token.0
    high : x.token.0 < j

  in_variables : (type : TypeName) (vs : List Variable) (other : Option Value) (i j : ℕ) → Between i (variable_tokens vs) j → Has (Declares x (entry.Constant ty)) (each (own_variable type) vs) → InVariables type vs other i j
  in_variables type [] other i j b h = elim h [ ]
  in_variables type (v ∷ vs) other i j b h = go (has_split (own_variable type v) (each (own_variable type) vs) h) (λ q. in_variables type vs other (v.name.token.0 + 1) j b.1 q)
    where
      go : Has (Declares x (entry.Constant ty)) (own_variable type v) ⊎ Has (Declares x (entry.Constant ty)) (each (own_variable type) vs)
          → (Has (Declares x (entry.Constant ty)) (each (own_variable type) vs) → InVariables type vs other (v.name.token.0 + 1) j) → InVariables type (v ∷ vs) other i j
      go (inl q) rest =
          let r = variable_is type v q in
          let same : v.name.token.0 ≡ x.token.0 = ap (λ (z : Identifier). z.token.0) (sym r.2) in
          let P : (v.name.token.0 == x.token.0) ≡ true = grind (arith, nat_tests) in
          let up : v.name.token.0 + 1 ≤ j = between_le (variable_tokens vs) (v.name.token.0 + 1) j b.1 in
          let lo : i ≤ v.name.token.0 = b.0 in
          record {
            named = r.3;
            variable = v;
            one = head;
            constant = r.0;
            has = r.1;
            value = ap (λ c. if c then value_in s v.value else among_variables s x.token.0 vs other) P ∙ ap (value_in s) r.1;
            low = omega arith;
            high = omega arith;
          }
      go (inr q) rest =
          let r = rest q in
          let up : v.name.token.0 + 1 ≤ x.token.0 = r.low in
          let lo : i ≤ v.name.token.0 = b.0 in
          let P : (v.name.token.0 == x.token.0) ≡ false = grind (arith, nat_tests) in
          record {
            named = r.named;
            variable = r.variable;
            one = tail r.one;
            constant = r.constant;
            has = r.has;
            value = ap (λ c. if c then value_in s v.value else among_variables s x.token.0 vs other) P ∙ r.value;
            low = omega arith;
            high = r.high;
          }

  -- variables in front of it
  past_variables : (vs : List Variable) (other : Option Value) (i j : ℕ) → Between i (variable_tokens vs) j → j ≤ x.token.0 → among_variables s x.token.0 vs other ≡ other
  past_variables [] other i j b le = refl
  past_variables (v ∷ vs) other i j b le =
      let up : v.name.token.0 + 1 ≤ j = between_le (variable_tokens vs) (v.name.token.0 + 1) j b.1 in
      let P : (v.name.token.0 == x.token.0) ≡ false = grind (arith, nat_tests) in
      ap (λ c. if c then value_in s v.value else among_variables s x.token.0 vs other) P ∙ past_variables vs other (v.name.token.0 + 1) j b.1 le

  no_array : (type : TypeName) (n : ℕ) (xs : List Identifier) → Has (Declares x (entry.Constant ty)) (each (own_array type n) xs) → ⊥
  unfolding own_array
  no_array type n [] h = elim h [ ]
  no_array type n (y ∷ xs) h = go (cases h) (λ q. no_array type n xs q)
    where
      go : (Declares x (entry.Constant ty) ≡ Declares y (entry.Array (type_named type) n)) ⊎ Has (Declares x (entry.Constant ty)) (each (own_array type n) xs) → (Has (Declares x (entry.Constant ty)) (each (own_array type n) xs) → ⊥) → ⊥
      go (inl e) rest = cc
      go (inr q) rest = rest q

  no_segment : (type : TypeName) (as_ : List Arrayed) → Has (Declares x (entry.Constant ty)) (each (own_segment type) as_) → ⊥
  no_segment type [] h = elim h [ ]
  no_segment type (a ∷ as_) h = go (has_split (own_segment type a) (each (own_segment type) as_) h) (λ q. no_segment type as_ q)
    where
      go : Has (Declares x (entry.Constant ty)) (own_segment type a) ⊎ Has (Declares x (entry.Constant ty)) (each (own_segment type) as_) → (Has (Declares x (entry.Constant ty)) (each (own_segment type) as_) → ⊥) → ⊥
      go (inl q) rest = no_array type (length a.bounds) a.names q
      go (inr q) rest = rest q

  record InDeclarations (ds : Declarations) (i : ℕ) : Type 0 where
    type : TypeName
    named : type_named type ≡ ty
    variables : List Variable
    declared : Lists type variables ds
    variable : Variable
    one : OneOf variable variables
    constant : Constant
    has : variable.value ≡ Some constant
    value : among_declarations s x.token.0 ds ≡ constant_value s constant
    low : i ≤ x.token.0

  in_more : (d : Declared) (ds : Declarations) (i j : ℕ) → i ≤ j → among_declarations s x.token.0 (With d ds) ≡ among_declarations s x.token.0 ds → InDeclarations ds j → InDeclarations (With d ds) i
  in_more d ds i j le e r =
      let lo : j ≤ x.token.0 = r.low in
      record { type = r.type; named = r.named; variables = r.variables; declared = further r.declared; variable = r.variable; one = r.one; constant = r.constant; has = r.has; value = e ∙ r.value; low = omega arith }

  in_declarations : (ds : Declarations) (i j : ℕ) → Between i (own_tokens ds) j → Has (Declares x (entry.Constant ty)) (own_marks ds) → InDeclarations ds i
  in_declarations NoDeclaration i j b h = elim h [ ]
  in_declarations (With (Variables type vs) ds) i j b h = go (has_split (each (own_variable type) vs) (own_marks ds) h) (between_split (variable_tokens vs) (own_tokens ds) i j b) (λ k q c. in_declarations ds k j q c)
    where
      go : Has (Declares x (entry.Constant ty)) (each (own_variable type) vs) ⊎ Has (Declares x (entry.Constant ty)) (own_marks ds) → (k : ℕ) × Between i (variable_tokens vs) k × Between k (own_tokens ds) j
          → ((k : ℕ) → Between k (own_tokens ds) j → Has (Declares x (entry.Constant ty)) (own_marks ds) → InDeclarations ds k) → InDeclarations (With (Variables type vs) ds) i
      go (inl q) p rest =
          let r = in_variables type vs (among_declarations s x.token.0 ds) i p.0 p.1 q in
          record { type = type; named = r.named; variables = vs; declared = at_first; variable = r.variable; one = r.one; constant = r.constant; has = r.has; value = r.value; low = r.low }
      go (inr q) p rest =
          let r = rest p.0 p.2 q in
          in_more (Variables type vs) ds i p.0 (between_le (variable_tokens vs) i p.0 p.1) (past_variables vs (among_declarations s x.token.0 ds) i p.0 p.1 r.low) r
  in_declarations (With (Arrays type n segments) ds) i j b h = go (has_split (each (own_segment type) segments) (own_marks ds) h) (between_split (segment_tokens segments) (own_tokens ds) i j b) (λ k q c. in_declarations ds k j q c)
    where
      go : Has (Declares x (entry.Constant ty)) (each (own_segment type) segments) ⊎ Has (Declares x (entry.Constant ty)) (own_marks ds) → (k : ℕ) × Between i (segment_tokens segments) k × Between k (own_tokens ds) j
          → ((k : ℕ) → Between k (own_tokens ds) j → Has (Declares x (entry.Constant ty)) (own_marks ds) → InDeclarations ds k) → InDeclarations (With (Arrays type n segments) ds) i
      go (inl q) p rest = absurd (no_segment type segments q)
      go (inr q) p rest = in_more (Arrays type n segments) ds i p.0 (between_le (segment_tokens segments) i p.0 p.1) refl (rest p.0 p.2 q)
  in_declarations (With (DeclareProcedure result n g a e) ds) i j b h = in_more (DeclareProcedure result n g a e) ds i i (let z : i ≤ i = omega arith in z) refl (in_declarations ds i j b h)
  in_declarations (With (DeclareClass prefix n g interface a e) ds) i j b h = in_more (DeclareClass prefix n g interface a e) ds i i (let z : i ≤ i = omega arith in z) refl (in_declarations ds i j b h)

-- what is like a constant is one
constant_like : (e : Entry) (ty : SimType) → OwnEntry e → Alike e (entry.Constant ty) → (a : SimType) × (e ≡ entry.Constant a) × (kind_of_type a ≡ kind_of_type ty)
constant_like (entry.Constant a) ty o l = (a, refl, l)
constant_like (entry.Variable a) ty o l = absurd l
constant_like (entry.Array a n) ty o l = absurd l
constant_like (entry.Procedure r n) ty o l = absurd o
constant_like (entry.Class n) ty o l = absurd o
constant_like (entry.Virtual r n) ty o l = absurd o
constant_like (entry.Formal f) ty o l = absurd o
constant_like (entry.Unspecified w) ty o l = absurd o
constant_like (entry.Attribute name given result) ty o l = absurd o

pub constant_at : (s : Source) → TablesOf s → InOrder s.program → (d : DeclNo) (ty : SimType) → entry_of s.tables d ≡ Some (entry.Constant ty) → ConstantAt s d ty
unfolding text constant_of
constant_at s of order d ty e =
    let r = t.entry_row s of order d (entry.Constant ty) e in
    let w = t.text_of_row s of order d.0 r.0 r.1 in go r.0 r.1 r.2 w.0 w.1 w.2
  where
    -- among the declarations of a block or a class
    found : (row : Declaration) → slice_get s.tables.declarations d.0 ≡ Some row → row.entry ≡ entry.Constant ty → (ds : Declarations) (i j : ℕ) → Between i (own_tokens ds) j → Own ds row
        → InBlock s row.block ds ⊎ (InClass s row.block ds ⊎ InPrefixed s row.block ds) → ((token : ℕ) → constant_in s (text s row.block) token ≡ among_declarations s token ds) → ConstantAt s d ty
    found row at same ds i j b p place value =
        let c = constant_like p.entry ty p.fits (subst (Alike p.entry) same p.alike) in
        let q = in_declarations s p.name c.0 ds i j b (subst (λ z. Has (Declares p.name z) (own_marks ds)) c.1 p.mark) in record {
          block = row.block;
          declarations = ds;
          is = place;
          type = q.type;
          named = ap kind_of_type q.named ∙ c.2;
          variables = q.variables;
          declared = q.declared;
          variable = q.variable;
          one = q.one;
          constant = q.constant;
          has = q.has;
          value = ap (row_constant s) at ∙ value row.token.0 ∙ ap (λ (z : TokenNo). among_declarations s z.0 ds) (sym p.token) ∙ q.value;
        }

    go : (row : Declaration) → slice_get s.tables.declarations d.0 ≡ Some row → row.entry ≡ entry.Constant ty → (x : Text) → slice_get (Ts s of order) row.block ≡ Some x → RowIn (Bs s of order) (Ts s of order) x d.0 row → ConstantAt s d ty
    go row at same (BlockText i ds ss) there_ (own_row y p) =
        let o = text_in_order s order row.block (BlockText i ds ss) there_ in
        found row at same ds o.0 o.1 o.2 p (inl (record { begin = i; statements = ss; is = there_ })) (λ token. ap (λ z. constant_in s z token) there_)
    go row at same (ClassText prefix h ds ss) there_ (own_row y p) =
        let o = text_in_order s order row.block (ClassText prefix h ds ss) there_ in
        found row at same ds o.0 o.1 o.2 p (inr (inl (record { prefix = prefix; heading = h; statements = ss; is = there_ }))) (λ token. ap (λ z. constant_in s z token) there_)
    go row at same (ProcedureText result h a) there_ (own_row y p) = absurd y
    go row at same ConnectionText there_ (own_row y p) = absurd y
    go row at same (PrefixedText class es ds ss) there_ (own_row y p) =
        let o = text_in_order s order row.block (PrefixedText class es ds ss) there_ in
        found row at same ds o.0 o.1 o.2 p (inr (inr (record { class = class; arguments = es; statements = ss; is = there_ }))) (λ token. ap (λ z. constant_in s z token) there_)
    go row at same (StandardText which) there_ (own_row y p) = absurd y
    go row at same x there_ (procedure_row y p) = absurd (subst (Alike (entry.Procedure (result_named p.result) p.number)) same p.entry)
    go row at same x there_ (class_row y p) = absurd (let z : entry.Class p.number ≡ entry.Constant ty = sym p.entry ∙ same in cc)
    go row at same x there_ (formal_row y p l) = absurd (subst Parametric same p)
    go row at same x there_ (virtual_row y p l) = absurd (let z : false ≡ true = sym (ap is_virtual same) ∙ p in cc)
    go row at same x there_ (attribute_row y p) = absurd (let z : entry.Attribute p.name (typed_or_none (Some p.first) (parameter_of p.name)) (typed_or_none (Some p.first) (result_of p.name)) ≡ entry.Constant ty = sym p.entry ∙ same in cc)
    go row at same x there_ (simulation_row y p) = absurd (let z : entry.Attribute p.name (typed_or_none (Some p.first) (parameter_of p.name)) (typed_or_none (Some p.first) (result_of p.name)) ≡ entry.Constant ty = sym p.entry ∙ same in cc)
