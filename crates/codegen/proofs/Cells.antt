-- What left sides are.
use Rattle.std.proofs.Common.{◌≡◌, ◌≢◌, ◌&&◌, ◌||◌, ◌==◌, ◌+◌, ◌++◌, ℕ, suc, pos, Bool, true, false, List, [], ◌∷◌, length, Bor, Option, Some, None, if◌then◌else◌, refl, sym, ap, ◌∙◌, subst}
use Rattle.std.specs.List.{list_any}
use Rattle.sim_base.specs.declared.numbering.DeclNo.{DeclNo}
use Rattle.sim_base.specs.declared.numbering.TokenNo.{TokenNo}
use Rattle.sim_scope.specs.declared.bound.Bound.{Bound}
use Rattle.sim_scope.specs.declared.scopes.Denotation.{Denotation}
use Rattle.sim_scope.specs.declared.scopes.Denotation.TheVariants as denotation
use Rattle.sim_scope.specs.declared.standard.StandardName.{StandardName}
use Rattle.sim_values.specs.declared.standard.Standard.{Standard}
use Rattle.sim_scope.specs.declared.types.Entry.{Entry}
use Rattle.sim_scope.specs.declared.types.Entry.TheVariants as entry
use Rattle.sim_scope.specs.declared.types.Formal.{Formal}
use Rattle.sim_scope.specs.declared.types.FormalKind.{FormalKind}
use Rattle.sim_scope.specs.declared.types.FormalKind.TheVariants as shape
use Rattle.sim_scope.specs.declared.types.Mode.{Mode}
use Rattle.sim_scope.specs.declared.types.Mode.TheVariants as mode
use Rattle.sim_scope.specs.declared.types.SimType.{SimType}
use Rattle.sim_scope.specs.declared.types.WrittenMode.{WrittenMode}
use Rattle.sim_scope.specs.Scopes.{entry_of}
use Rattle.sim_scope.specs.Tables.{BlockOf as TableBlock}
use Rattle.sim_scope.specs.Source.{Source, block_of, denoted, level_of, line_at, source_of}
use Rattle.sim_tree.specs.declared.expr.Expr.{Expr}
use Rattle.sim_tree.specs.Syntax.{Expression, NoMore}
use Rattle.sim_meaning.specs.Entries.{cells_from, with_cell}
use Rattle.sim_meaning.specs.Levels.{is_process_itself}
use Rattle.sim_meaning.specs.Pending.{Declared, Held, Key, Result, same_key}
use Rattle.sim_meaning.specs.Texts.{BlockText, ClassText, ConnectionText, PrefixedText, ProcedureText, StandardText, Text, text}
use Rattle.codegen_expr.specs.declared.spot.Spot.{Spot}
use Rattle.codegen_expr.specs.Built.{KeyBuilt, is_around, is_there, place_from, slot_in}
use Rattle.codegen_expr.specs.Known.{has_result}
use Rattle.std.specs.Prelude.{⊤}
use Rattle.sim_code.specs.declared.instr.Instr.{Instr}
use Rattle.sim_code.specs.declared.instr.Instr.TheVariants as i
use Rattle.codegen_expr.specs.Drafts.{DraftOf, Emits, planned_start, with_instr, with_push}
use Rattle.codegen_expr.specs.Sites.{At, HasCell, Pushes, cells_in, frame_text, hidden_before, hidden_from, hidden_in, is_connection, origin_in, slot_of}
use Rattle.codegen_expr.proofs.Pieces.{emits_at, emits_classed, emits_push}
use Rattle.codegen_expr.proofs.Slots.{slot_found, slot_within}
use Rattle.codegen.specs.declared.left.Left.{Left}
use Rattle.codegen.specs.declared.left.Left.TheVariants as left
use Rattle.codegen.specs.CodeLeft.{AtAddress, InCell, NoPlace, Stored, stored_anew, stored_declared, stored_element, stored_formal, stored_named, stored_result, stored_variable}
use Rattle.codegen.specs.EmitLeft.{FindsDeclared, FindsElement, FindsFormal, FindsLeft, FindsOwn, FindsResult, FindsVariable, IsVariable, IsWhole, LoadsCell, StoresCell, operands_in}

-- ---- cells by key

pub cell_there : (s : Source) (t : ℕ) (key : Key) → is_there (slot_in s t key) ≡ true → HasCell s t key
cell_there s t key h = cases (slot_in s t key) refl h
  where
    cases : (o : Option ℕ) → slot_in s t key ≡ o → is_there o ≡ true → HasCell s t key
    cases None e h = absurd (cc)
    cases (Some k) e h = slot_within s t key k e

-- the code of a value that goes into a cell, and of the value of a cell
pub store_put : (b : Bound) (a c : DraftOf) (k place level slot : ℕ) (x : Instr) → slot ≡ planned_start (source_of b) a.classes k + place → level ≡ level_of (source_of b) k → x ≡ i.Store (pos level) (pos slot) → c ≡ with_instr a x 0 → StoresCell b a c k place
unfolding StoresCell
store_put b a c k place level slot x es el ex ec = ec ∙ ap (λ z. with_instr a z 0) (ex ∙ ap (λ z. i.Store (pos z) (pos slot)) el ∙ ap (λ z. i.Store (pos (level_of (source_of b) k)) (pos z)) es)

pub load_put : (b : Bound) (a c : DraftOf) (k place n level slot : ℕ) (x : Instr) → slot ≡ planned_start (source_of b) a.classes k + place → level ≡ level_of (source_of b) k → x ≡ i.Load (pos level) (pos slot) → c ≡ with_push a n x 0 → LoadsCell b n a c k place
unfolding LoadsCell
load_put b a c k place n level slot x es el ex ec = ec ∙ ap (λ z. with_push a n z 0) (ex ∙ ap (λ z. i.Load (pos z) (pos slot)) el ∙ ap (λ z. i.Load (pos (level_of (source_of b) k)) (pos z)) es)

pub ruleset places = (store_put, load_put)

pub emits_store : (b : Bound) (w : Spot) (a c : DraftOf) (home place : ℕ) (key : Key) → slot_in (source_of b) home key ≡ Some place → StoresCell b a c home place
    → Emits w a c ⊤ (λ final site p q. At final (i.Store (pos (level_of (source_of b) home)) (pos (slot_of (source_of b) final home key))) 0 p q)
unfolding StoresCell
emits_store b w a c home place key found ec =
    let s = source_of b in
    let x = i.Store (pos (level_of s home)) (pos (planned_start s a.classes home + place)) in
    emits_classed w ⊤ (λ final site p q. At final x 0 p q) _ a c
    (λ final site p q known r. subst (λ z. At final (i.Store (pos (level_of s home)) (pos z)) 0 p q) (slot_found s final a.classes home key place (planned_start s a.classes home + place) known found refl) r)
    (emits_at w a c x 0 ec (λ z. cc) refl)

pub emits_load : (b : Bound) (w : Spot) (n : ℕ) (a c : DraftOf) (home place : ℕ) (key : Key) → slot_in (source_of b) home key ≡ Some place → LoadsCell b n a c home place
    → Emits w a c ⊤ (λ final site p q. Pushes final site n (i.Load (pos (level_of (source_of b) home)) (pos (slot_of (source_of b) final home key))) p q)
unfolding LoadsCell
emits_load b w n a c home place key found ec =
    let s = source_of b in
    let x = i.Load (pos (level_of s home)) (pos (planned_start s a.classes home + place)) in
    emits_classed w ⊤ (λ final site p q. Pushes final site n x p q) _ a c
    (λ final site p q known r. subst (λ z. Pushes final site n (i.Load (pos (level_of s home)) (pos z)) p q) (slot_found s final a.classes home key place (planned_start s a.classes home + place) known found refl) r)
    (emits_push w a c n x 0 ec (λ z. cc) refl)

-- no declaration and no connection has the cell of a result
abbrev has_it : List Held → Bool
has_it hs = list_any (λ h. same_key h.key Result) hs

absent : (hs : List Held) (n : ℕ) → has_it hs ≡ false → place_from n Result hs ≡ None
absent [] n e = refl
absent (h ∷ hs) n e = cases (same_key h.key Result) e (absent hs (suc n))
  where
    cases : (c : Bool) → (c || has_it hs) ≡ false → (has_it hs ≡ false → place_from (suc n) Result hs ≡ None) → (if c then Some n else place_from (suc n) Result hs) ≡ None
    cases true e more = absurd (cc)
    cases false e more = more e

none_before : (d : DeclNo) (o : Option Entry) (hs : List Held) → has_it hs ≡ false → has_it (with_cell d o hs) ≡ false
none_before d None hs f = f
none_before d (Some (entry.Variable type)) hs f = f
none_before d (Some (entry.Constant type)) hs f = f
none_before d (Some (entry.Array element dimensions)) hs f = f
none_before d (Some (entry.Formal x)) hs f = f
none_before d (Some (entry.Procedure result block)) hs f = f
none_before d (Some (entry.Class block)) hs f = f
none_before d (Some (entry.Virtual result own)) hs f = f
none_before d (Some (entry.Unspecified written)) hs f = f
none_before d (Some (entry.Attribute name parameter result)) hs f = f

none_declared : (s : Source) (ds : List DeclNo) → has_it (cells_from s ds) ≡ false
none_declared s [] = refl
none_declared s (d ∷ ds) = none_before d (entry_of s.tables d) (cells_from s ds) (none_declared s ds)

none_hidden : (s : Source) (k m : ℕ) (bs : List TableBlock) → has_it (hidden_from s k m bs) ≡ false
none_hidden s k m [] = none_origin (is_process_itself s k)
  where
    none_origin : (c : Bool) → has_it (origin_in c) ≡ false
    none_origin true = refl
    none_origin false = refl
none_hidden s k m (x ∷ xs) = cases (is_connection x.kind && frame_text s m == k) (none_hidden s k (suc m) xs)
  where
    cases : (c : Bool) → has_it (hidden_from s k (suc m) xs) ≡ false → has_it (hidden_before c x (hidden_from s k (suc m) xs)) ≡ false
    cases true more = more
    cases false more = more

none_joined : (hs ms : List Held) → has_it hs ≡ false → has_it ms ≡ false → has_it (hs ++ ms) ≡ false
none_joined [] ms e f = f
none_joined (h ∷ hs) ms e f = cases (same_key h.key Result) e (λ z. none_joined hs ms z f)
  where
    cases : (c : Bool) → (c || has_it hs) ≡ false → (has_it hs ≡ false → has_it (hs ++ ms) ≡ false) → (c || has_it (hs ++ ms)) ≡ false
    cases true e more = absurd (cc)
    cases false e more = more e

-- the cell of a result is the first one, and only a procedure with a result has one
result_cell : (s : Source) (k : ℕ) (x : Option Text) → has_result x ≡ true → place_from 0 Result (cells_in s k x ++ hidden_in s k) ≡ Some 0
unfolding Rattle.sim_meaning.specs.Entries.first_cells
result_cell s k None h = absurd (cc)
result_cell s k (Some (BlockText begin ds ss)) h = absurd (cc)
result_cell s k (Some (ProcedureText None x a)) h = absurd (cc)
result_cell s k (Some (ProcedureText (Some type) x a)) h = refl
result_cell s k (Some _) h = absurd (cc)

no_result : (s : Source) (k : ℕ) (x : Option Text) → has_result x ≡ false → has_it (cells_in s k x) ≡ false
unfolding Rattle.sim_meaning.specs.Entries.first_cells
no_result s k None h = refl
no_result s k (Some (BlockText begin ds ss)) h = none_declared s _
no_result s k (Some (ProcedureText None x a)) h = none_declared s _
no_result s k (Some (ProcedureText (Some type) x a)) h = absurd (cc)
no_result s k (Some (ClassText prefix x ds ss)) h = none_declared s _
no_result s k (Some (PrefixedText class es ds ss)) h = none_declared s _
no_result s k (Some ConnectionText) h = refl
no_result s k (Some (StandardText which)) h = none_declared s _

result_none : (s : Source) (k : ℕ) (x : Option Text) → has_result x ≡ false → place_from 0 Result (cells_in s k x ++ hidden_in s k) ≡ None
unfolding hidden_in
result_none s k x h = absent (cells_in s k x ++ hidden_in s k) 0 (none_joined (cells_in s k x) (hidden_in s k) (no_result s k x h) (none_hidden s k 0 s.tables.blocks))

pub result_slot_first : (b : Bound) (k : ℕ) (t : Bool) → t ≡ has_result (text (source_of b) k) → t ≡ true → Some 0 ≡ slot_in (source_of b) k Result
unfolding slot_in source_of
result_slot_first b k t et is = sym (result_cell (source_of b) k (text (source_of b) k) (sym et ∙ is))

pub result_slot_none : (b : Bound) (k : ℕ) (t : Bool) → t ≡ has_result (text (source_of b) k) → t ≡ false → None ≡ slot_in (source_of b) k Result
unfolding slot_in source_of
result_slot_none b k t et is = sym (result_none (source_of b) k (text (source_of b) k) (sym et ∙ is))

-- ---- operands

no_operands : (es : List Expr) → length es ≡ 0 → operands_in es ≡ NoMore
no_operands [] e = refl
no_operands (x ∷ xs) e = absurd (cc)

variable_alone : (s : Source) (d : DeclNo) (es : List Expr) → length es ≢ 0 → NoPlace ≡ stored_variable s d (operands_in es)
variable_alone s d [] ne = absurd (ne refl)
variable_alone s d (x ∷ xs) ne = refl

result_alone : (k : ℕ) (es : List Expr) → length es ≢ 0 → NoPlace ≡ stored_result k (operands_in es)
result_alone k [] ne = absurd (ne refl)
result_alone k (x ∷ xs) ne = refl

element_of : (d : DeclNo) (es : List Expr) (line : ℕ) → length es ≢ 0 → stored_element d (operands_in es) line ≡ AtAddress d (operands_in es) line
element_of d [] line ne = absurd (ne refl)
element_of d (x ∷ xs) line ne = refl

module _ (b : Bound) (w : Spot) where
  -- what has no code is found to have none
  is_no_place : (t : Stored) → NoPlace ≡ t → IsVariable (source_of b) w left.NoPlace t
  is_no_place t e = subst (λ z. IsVariable (source_of b) w left.NoPlace z) e (λ h. h)

  -- ---- variables

  pub variable_subscripts : (d : DeclNo) (es : List Expr) → length es ≢ 0 → FindsVariable b w d es left.NoPlace
  unfolding FindsVariable
  variable_subscripts d es ne = is_no_place _ (variable_alone (source_of b) d es ne)

  cell_of : (d : DeclNo) (es : List Expr) → length es ≡ 0 → (r : Left) → IsVariable (source_of b) w r (InCell (block_of (source_of b) d) (Declared d.0)) → FindsVariable b w d es r
  unfolding FindsVariable
  cell_of d es none r f = subst (λ z. IsVariable (source_of b) w r (stored_variable (source_of b) d z)) (sym (no_operands es none)) f

  pub variable_no_slot : (d : DeclNo) (es : List Expr) (slot : Option ℕ) → length es ≡ 0 → slot ≡ slot_in (source_of b) (block_of (source_of b) d) (Declared d.0) → slot ≡ None → FindsVariable b w d es left.NoPlace
  variable_no_slot d es slot alone es' none = cell_of d es alone left.NoPlace (λ h. let k = h.has in let t : is_there (slot_in (source_of b) (block_of (source_of b) d) (Declared d.0)) ≡ is_there None = ap is_there (sym es' ∙ none) in absurd (let f : true ≡ false = sym k ∙ t in cc))

  pub variable_outside : (d : DeclNo) (es : List Expr) (block : ℕ) → length es ≡ 0 → block ≡ block_of (source_of b) d → is_around b.scopes (length b.scopes.blocks) w.text block ≡ false → FindsVariable b w d es left.NoPlace
  unfolding source_of
  variable_outside d es block none eb out = cell_of d es none left.NoPlace (λ h. let t : is_around b.scopes (length b.scopes.blocks) w.text block ≡ true = ap (λ z. is_around b.scopes (length b.scopes.blocks) w.text z) eb ∙ h.inside.found in cc)

  pub variable_cell : (d : DeclNo) (es : List Expr) (block k : ℕ) (slot : Option ℕ) → length es ≡ 0 → slot ≡ slot_in (source_of b) (block_of (source_of b) d) (Declared d.0) → slot ≡ Some k → block ≡ block_of (source_of b) d → is_around b.scopes (length b.scopes.blocks) w.text block ≡ true → FindsVariable b w d es (left.Cell block k)
  unfolding source_of
  variable_cell d es block k slot none es' some eb around =
      let s = source_of b in
      let here : slot_in s (block_of s d) (Declared d.0) ≡ Some k = sym es' ∙ some in
      let inside : is_around b.scopes (length b.scopes.blocks) w.text (block_of s d) ≡ true = ap (λ z. is_around b.scopes (length b.scopes.blocks) w.text z) (sym eb) ∙ around in
      subst (λ z. FindsVariable b w d es (left.Cell z k)) (sym eb) (cell_of d es none (left.Cell (block_of s d) k) (Declared d.0, refl, record { has = ap is_there here; inside = record { found = inside } }, here))

  -- ---- elements and results

  pub element_none : (token : TokenNo) (d : DeclNo) (es : List Expr) → length es ≡ 0 → FindsElement b w token d es left.NoPlace
  unfolding FindsElement
  element_none token d es none = is_no_place _ (sym (ap (λ z. stored_element d z (line_at (source_of b) token.0)) (no_operands es none)))

  pub element_found : (token : TokenNo) (d : DeclNo) (l : Bor (List Expr)) → length l.now ≢ 0 → FindsElement b w token d l.now (left.Element token d l)
  unfolding FindsElement
  element_found token d l ne = element_of d l.now (line_at (source_of b) token.0) ne

  pub result_subscripts : (k : ℕ) (es : List Expr) → length es ≢ 0 → FindsResult b w k es left.NoPlace
  unfolding FindsResult
  result_subscripts k es ne = is_no_place _ (result_alone k es ne)

  result_of : (k : ℕ) (es : List Expr) → length es ≡ 0 → (r : Left) → IsVariable (source_of b) w r (InCell k Result) → FindsResult b w k es r
  unfolding FindsResult
  result_of k es none r f = subst (λ z. IsVariable (source_of b) w r (stored_result k z)) (sym (no_operands es none)) f

  pub result_missing : (k : ℕ) (es : List Expr) (o : Option ℕ) → length es ≡ 0 → o ≡ slot_in (source_of b) k Result → o ≡ None → FindsResult b w k es left.NoPlace
  result_missing k es o none eo is = result_of k es none left.NoPlace (λ h. let x = h.has in let u : is_there (slot_in (source_of b) k Result) ≡ false = ap is_there (sym eo ∙ is) in cc)

  pub result_outside : (k : ℕ) (es : List Expr) → length es ≡ 0 → is_around b.scopes (length b.scopes.blocks) w.text k ≡ false → FindsResult b w k es left.NoPlace
  unfolding source_of
  result_outside k es none out = result_of k es none left.NoPlace (λ h. let t = h.inside.found in cc)

  -- the cell of a result that is there
  pub own_cell : (k place : ℕ) (o : Option ℕ) → o ≡ slot_in (source_of b) k Result → o ≡ Some place → is_around b.scopes (length b.scopes.blocks) w.text k ≡ true → KeyBuilt (source_of b) w.text k Result × (slot_in (source_of b) k Result ≡ Some place)
  unfolding source_of
  own_cell k place o eo is around = (record { has = ap is_there (sym eo ∙ is); inside = record { found = around } }, sym eo ∙ is)

  pub result_found : (k place : ℕ) (es : List Expr) (o : Option ℕ) → length es ≡ 0 → o ≡ slot_in (source_of b) k Result → o ≡ Some place → is_around b.scopes (length b.scopes.blocks) w.text k ≡ true → FindsResult b w k es (left.Cell k place)
  result_found k place es o none eo is around = let r = own_cell k place o eo is around in result_of k es none (left.Cell k place) (Result, refl, r.0, r.1)

  -- the text in it
  pub own_missing : (k : ℕ) (o : Option ℕ) → o ≡ slot_in (source_of b) k Result → o ≡ None → FindsOwn b w k left.NoPlace
  unfolding FindsOwn
  own_missing k o eo is e line h = let x = h.has in let u : is_there (slot_in (source_of b) k Result) ≡ false = ap is_there (sym eo ∙ is) in cc

  pub own_outside : (k : ℕ) → is_around b.scopes (length b.scopes.blocks) w.text k ≡ false → FindsOwn b w k left.NoPlace
  unfolding FindsOwn source_of
  own_outside k out e line h = let t = h.inside.found in cc

  pub own_found : (k place : ℕ) (o : Option ℕ) → o ≡ slot_in (source_of b) k Result → o ≡ Some place → is_around b.scopes (length b.scopes.blocks) w.text k ≡ true → FindsOwn b w k (left.Result k place)
  unfolding FindsOwn
  own_found k place o eo is around e line = let r = own_cell k place o eo is around in (refl, r.0, r.1)

  -- ---- formal parameters

  -- what is a variable is so as a whole
  pub whole_of : (e : Expression) (r : Left) (t : Stored) → IsVariable (source_of b) w r t → IsWhole (source_of b) w e r t
  whole_of e (left.Cell level slot) t f = f
  whole_of e (left.Element token d es) t f = f
  whole_of e left.Text t f = absurd f
  whole_of e (left.Result level slot) t f = absurd f
  whole_of e left.Attribute t f = absurd f
  whole_of e left.Reference t f = absurd f
  whole_of e (left.Named d) t f = absurd f
  whole_of e (left.NamedText d) t f = absurd f
  whole_of e (left.NamedReference d class) t f = absurd f
  whole_of e left.NoPlace t f = f

  as_formal : (token : TokenNo) (d : DeclNo) (m m' : Mode) (kind kind' : FormalKind) (es : List Expr) (r : Left) → m ≡ m' → kind ≡ kind' → ((e : Expression) → IsWhole (source_of b) w e r (stored_formal (source_of b) e d (operands_in es) (line_at (source_of b) token.0) m' kind')) → FindsFormal b w token d m kind es r
  unfolding FindsFormal
  as_formal token d m m' kind kind' es r em ek f e =
      let s = source_of b in
      subst (λ z. IsWhole s w e r (stored_formal s e d (operands_in es) (line_at s token.0) z kind)) (sym em) (subst (λ z. IsWhole s w e r (stored_formal s e d (operands_in es) (line_at s token.0) m' z)) (sym ek) (f e))

  pub name_simple : (token : TokenNo) (d : DeclNo) (m : Mode) (kind : FormalKind) (es : List Expr) → m ≡ mode.ByName → kind ≡ shape.Simple → FindsFormal b w token d m kind es left.NoPlace
  name_simple token d m kind es em ek = as_formal token d m mode.ByName kind shape.Simple es left.NoPlace em ek (λ e h. h)

  pub name_procedure : (token : TokenNo) (d : DeclNo) (m : Mode) (kind : FormalKind) (es : List Expr) → m ≡ mode.ByName → kind ≡ shape.Procedure → FindsFormal b w token d m kind es left.NoPlace
  name_procedure token d m kind es em ek = as_formal token d m mode.ByName kind shape.Procedure es left.NoPlace em ek (λ e h. h)

  pub name_array_alone : (token : TokenNo) (d : DeclNo) (m : Mode) (kind : FormalKind) (es : List Expr) → m ≡ mode.ByName → kind ≡ shape.Array → length es ≡ 0 → FindsFormal b w token d m kind es left.NoPlace
  name_array_alone token d m kind es em ek none = as_formal token d m mode.ByName kind shape.Array es left.NoPlace em ek (λ e. subst (λ z. IsWhole (source_of b) w e left.NoPlace (stored_anew e z)) (sym (no_operands es none)) (λ h. h))

  pub name_element : (token : TokenNo) (d : DeclNo) (m : Mode) (kind : FormalKind) (es : List Expr) → m ≡ mode.ByName → kind ≡ shape.Array → length es ≢ 0 → FindsFormal b w token d m kind es left.Attribute
  name_element token d m kind [] em ek some' = absurd (some' refl)
  name_element token d m kind (x ∷ xs) em ek some' = as_formal token d m mode.ByName kind shape.Array (x ∷ xs) left.Attribute em ek (λ e. refl)

  pub value_simple : (token : TokenNo) (d : DeclNo) (m : Mode) (kind : FormalKind) (es : List Expr) (r : Left) → m ≡ mode.ByValue → kind ≡ shape.Simple → FindsVariable b w d es r → FindsFormal b w token d m kind es r
  unfolding FindsVariable
  value_simple token d m kind es r em ek f = as_formal token d m mode.ByValue kind shape.Simple es r em ek (λ e. whole_of e r _ f)

  pub value_array : (token : TokenNo) (d : DeclNo) (m : Mode) (kind : FormalKind) (es : List Expr) (r : Left) → m ≡ mode.ByValue → kind ≡ shape.Array → FindsElement b w token d es r → FindsFormal b w token d m kind es r
  unfolding FindsElement
  value_array token d m kind es r em ek f = as_formal token d m mode.ByValue kind shape.Array es r em ek (λ e. whole_of e r _ f)

  pub value_procedure : (token : TokenNo) (d : DeclNo) (m : Mode) (kind : FormalKind) (es : List Expr) → m ≡ mode.ByValue → kind ≡ shape.Procedure → FindsFormal b w token d m kind es left.NoPlace
  value_procedure token d m kind es em ek = as_formal token d m mode.ByValue kind shape.Procedure es left.NoPlace em ek (λ e h. h)

  pub reference_simple : (token : TokenNo) (d : DeclNo) (m : Mode) (kind : FormalKind) (es : List Expr) (r : Left) → m ≡ mode.ByReference → kind ≡ shape.Simple → FindsVariable b w d es r → FindsFormal b w token d m kind es r
  unfolding FindsVariable
  reference_simple token d m kind es r em ek f = as_formal token d m mode.ByReference kind shape.Simple es r em ek (λ e. whole_of e r _ f)

  pub reference_array : (token : TokenNo) (d : DeclNo) (m : Mode) (kind : FormalKind) (es : List Expr) (r : Left) → m ≡ mode.ByReference → kind ≡ shape.Array → FindsElement b w token d es r → FindsFormal b w token d m kind es r
  unfolding FindsElement
  reference_array token d m kind es r em ek f = as_formal token d m mode.ByReference kind shape.Array es r em ek (λ e. whole_of e r _ f)

  pub reference_procedure : (token : TokenNo) (d : DeclNo) (m : Mode) (kind : FormalKind) (es : List Expr) → m ≡ mode.ByReference → kind ≡ shape.Procedure → FindsFormal b w token d m kind es left.NoPlace
  reference_procedure token d m kind es em ek = as_formal token d m mode.ByReference kind shape.Procedure es left.NoPlace em ek (λ e h. h)

  -- ---- declarations

  as_declared : (token : TokenNo) (d : DeclNo) (o o' : Option Entry) (es : List Expr) (r : Left) → o ≡ entry_of b.scopes d → o ≡ o' → ((e : Expression) → IsWhole (source_of b) w e r (stored_declared (source_of b) e d (operands_in es) (line_at (source_of b) token.0) o')) → FindsDeclared b w token d es r
  unfolding FindsDeclared source_of
  as_declared token d o o' es r eo is f e = subst (λ z. IsWhole (source_of b) w e r (stored_declared (source_of b) e d (operands_in es) (line_at (source_of b) token.0) z)) (sym is ∙ eo) (f e)

  pub declared_variable : (token : TokenNo) (d : DeclNo) (o : Option Entry) (t : SimType) (es : List Expr) (r : Left) → o ≡ entry_of b.scopes d → o ≡ Some (entry.Variable t) → FindsVariable b w d es r → FindsDeclared b w token d es r
  unfolding FindsVariable
  declared_variable token d o t es r eo is f = as_declared token d o _ es r eo is (λ e. whole_of e r _ f)

  pub declared_array : (token : TokenNo) (d : DeclNo) (o : Option Entry) (t : SimType) (m : ℕ) (es : List Expr) (r : Left) → o ≡ entry_of b.scopes d → o ≡ Some (entry.Array t m) → FindsElement b w token d es r → FindsDeclared b w token d es r
  unfolding FindsElement
  declared_array token d o t m es r eo is f = as_declared token d o _ es r eo is (λ e. whole_of e r _ f)

  pub declared_formal : (token : TokenNo) (d : DeclNo) (o : Option Entry) (x : Formal) (es : List Expr) (r : Left) → o ≡ entry_of b.scopes d → o ≡ Some (entry.Formal x) → FindsFormal b w token d x.mode x.kind es r → FindsDeclared b w token d es r
  unfolding FindsFormal
  declared_formal token d o x es r eo is f = as_declared token d o _ es r eo is f

  pub declared_result : (token : TokenNo) (d : DeclNo) (o : Option Entry) (t : Option SimType) (k : ℕ) (es : List Expr) (r : Left) → o ≡ entry_of b.scopes d → o ≡ Some (entry.Procedure t k) → FindsResult b w k es r → FindsDeclared b w token d es r
  unfolding FindsResult
  declared_result token d o t k es r eo is f = as_declared token d o _ es r eo is (λ e. whole_of e r _ f)

  pub declared_constant : (token : TokenNo) (d : DeclNo) (o : Option Entry) (t : SimType) (es : List Expr) → o ≡ entry_of b.scopes d → o ≡ Some (entry.Constant t) → FindsDeclared b w token d es left.NoPlace
  declared_constant token d o t es eo is = as_declared token d o _ es left.NoPlace eo is (λ e h. h)

  pub declared_class : (token : TokenNo) (d : DeclNo) (o : Option Entry) (k : ℕ) (es : List Expr) → o ≡ entry_of b.scopes d → o ≡ Some (entry.Class k) → FindsDeclared b w token d es left.NoPlace
  declared_class token d o k es eo is = as_declared token d o _ es left.NoPlace eo is (λ e h. h)

  pub declared_virtual : (token : TokenNo) (d : DeclNo) (o : Option Entry) (t : Option SimType) (own : Option DeclNo) (es : List Expr) → o ≡ entry_of b.scopes d → o ≡ Some (entry.Virtual t own) → FindsDeclared b w token d es left.NoPlace
  declared_virtual token d o t own es eo is = as_declared token d o _ es left.NoPlace eo is (λ e h. h)

  pub declared_unspecified : (token : TokenNo) (d : DeclNo) (o : Option Entry) (m : Option WrittenMode) (es : List Expr) → o ≡ entry_of b.scopes d → o ≡ Some (entry.Unspecified m) → FindsDeclared b w token d es left.NoPlace
  declared_unspecified token d o m es eo is = as_declared token d o _ es left.NoPlace eo is (λ e h. h)

  pub declared_attribute : (token : TokenNo) (d : DeclNo) (o : Option Entry) (n : Standard) (x y : Option SimType) (es : List Expr) → o ≡ entry_of b.scopes d → o ≡ Some (entry.Attribute n x y) → FindsDeclared b w token d es left.NoPlace
  declared_attribute token d o n x y es eo is = as_declared token d o _ es left.NoPlace eo is (λ e h. h)

  pub declared_nowhere : (token : TokenNo) (d : DeclNo) (o : Option Entry) (es : List Expr) → o ≡ entry_of b.scopes d → o ≡ None → FindsDeclared b w token d es left.NoPlace
  declared_nowhere token d o es eo is = as_declared token d o _ es left.NoPlace eo is (λ e h. h)

  -- ---- identifiers

  as_named : (token : TokenNo) (o o' : Option Denotation) (es : List Expr) (r : Left) → o ≡ denoted (source_of b) token.0 → o ≡ o' → ((e : Expression) → IsWhole (source_of b) w e r (stored_named (source_of b) e o' (operands_in es) (line_at (source_of b) token.0))) → FindsLeft b w token es r
  unfolding FindsLeft
  as_named token o o' es r eo is f e = subst (λ z. IsWhole (source_of b) w e r (stored_named (source_of b) e z (operands_in es) (line_at (source_of b) token.0))) (sym is ∙ eo) (f e)

  pub left_declared : (token : TokenNo) (o : Option Denotation) (d : DeclNo) (es : List Expr) (r : Left) → o ≡ denoted (source_of b) token.0 → o ≡ Some (denotation.Declared d) → FindsDeclared b w token d es r → FindsLeft b w token es r
  unfolding FindsDeclared
  left_declared token o d es r eo some f = as_named token o _ es r eo some f

  pub left_standard : (token : TokenNo) (o : Option Denotation) (k : StandardName) (es : List Expr) → o ≡ denoted (source_of b) token.0 → o ≡ Some (denotation.Standard k) → FindsLeft b w token es left.NoPlace
  left_standard token o k es eo some = as_named token o _ es left.NoPlace eo some (λ e h. h)

  pub left_nothing : (token : TokenNo) (o : Option Denotation) (es : List Expr) → o ≡ denoted (source_of b) token.0 → o ≡ None → FindsLeft b w token es left.NoPlace
  left_nothing token o es eo none = as_named token o _ es left.NoPlace eo none (λ e h. h)

pub ruleset lefts = (result_slot_first, result_slot_none, variable_subscripts, variable_no_slot, variable_outside, variable_cell, element_none, element_found, result_subscripts, result_missing, result_outside, result_found, name_simple, name_procedure, name_array_alone, name_element, value_simple, value_array, value_procedure, reference_simple, reference_array, reference_procedure, declared_variable, declared_array, declared_formal, declared_result, declared_constant, declared_class, declared_virtual, declared_unspecified, declared_attribute, declared_nowhere, left_declared, left_standard, left_nothing)
