-- The code of closed trees.
use Rattle.std.proofs.Common.{◌≡◌, ◌<◌, ℕ, suc, Bool, true, false, List, ◌∷◌, length, Option, Some}
use Rattle.std.specs.Prelude.{⊤, pos, slice_get}
use Rattle.sim_scope.specs.Access.{encloser}
use Rattle.sim_scope.specs.Scopes.{entry_is, entry_of, is_virtual}
use Rattle.sim_scope.specs.Source.{Source, level_of}
use Rattle.sim_tree.specs.declared.stmt.TypeName.{TypeName}
use Rattle.sim_tree.specs.Syntax.{Expression, Expressions, NoMore, Statement, Then}
use Rattle.sim_tree.specs.Syntax as syntax
use Rattle.sim_values.specs.declared.standard.Standard.{Standard}
use Rattle.sim_values.specs.declared.value.TextVal.{TextVal}
use Rattle.sim_values.specs.Plain.{Nothing, Object, Plain, Text as PlainText}
use Rattle.sim_values.specs.Texts.{notext}
use Rattle.sim_code.specs.declared.instr.Instr.{Instr}
use Rattle.sim_code.specs.declared.instr.Instr.TheVariants as i
use Rattle.sim_code.specs.Code.{CodeOf}
use Rattle.sim_code.specs.Names.{standard_names}
use Rattle.sim_code.specs.Sets.{is_set_name, parameter_count}
use Rattle.sim_code.specs.Simulations.{actual_count, is_process_name, is_simulation_name}
use Rattle.sim_code.specs.Transfers.{Calling, Detaching, Resuming, Transfer}
use Rattle.sim_meaning.specs.Levels.{is_class}
use Rattle.sim_meaning.specs.Pending.{ActualOf, AttributeOf, CallOf, Cell, CheckedOf, CopyOf, Either, ElementOf, FitsOf, ForValue, Further, Given, ImageOf, Instances, Joined, KeptOf, Key, MatchOf, MemberOf, NamedOf, NewOf, NoTerm, NotNoneOf, One, Origin, OriginOf, PlaceOf, ProcedureOf, ProcessOf, QuaOf, QualifiedElementOf, QualifiedPlaceOf, RemoteCallOf, RemoteProcedureOf, SetOf, SimulationOf, StandardOf, Term, Terms, TransferOf, Two, NoMeaning, Use, ValueAt, ForParameter}
use Rattle.sim_meaning.specs.Entries.{formals_of}
use Rattle.sim_meaning.specs.Checks.{passed}
use Rattle.sim_meaning.specs.Steps.{count, count_of}
use Rattle.sim_meaning.specs.Texts.{ProcedureText, constant_of, text}
use Rattle.sim_meaning.specs.Texts as Texts
use Rattle.codegen_expr.specs.Sites.{At, HasCell, IfAt, Is, Pushes, Site, block_number, class_number, frame_text, slot_of}
use Rattle.codegen_expr.specs.CodeExpr.{CheckAt, GivenAt, HeldAt, IsConstant, OneAt, ParameterAt, PlainAt, Stand, StandardIs, ThunkAt, join_instrs, line_of_use, member_instr, two_instr, use_instr}
use Rattle.sim_relate.proofs.Known.{ActualCode, Any, FixedOf, Kind, Located, Named, Reaches, Refers, attribute_kind, gives, is_declared, is_fixed, place_kind, reads, with_kind, IsImage}

-- the text of a class, which has a number
abbrev pub Classed : Source → ℕ → Type 0
Classed s k = is_class (Texts.text s k) ≡ true

-- the instruction of a transfer of control
abbrev pub transfer_instr : Transfer → Instr
transfer_instr Detaching = i.Detach
transfer_instr Calling = i.Attach
transfer_instr Resuming = i.Resume

abbrev pub IsVirtual : Source → ℕ → Type 0
IsVirtual s v = entry_is is_virtual (entry_of s.tables (record { 0 = v })) ≡ true

-- a value that is held against a class is held against one that has a number
abbrev pub UseClassed : Source → Use → Type 0
UseClassed s (ForValue (Some k) line) = Classed s k
UseClassed s wanted = ⊤

-- a use of a parameter by name
abbrev pub IsUse : Use → Type 0
IsUse (ForParameter number line) = ⊥
IsUse wanted = ⊤

module _ (s : Source) (code : CodeOf) where
  -- ---- closed trees

  pub record CellIs (m : Instances) (inst : ℕ) (site : Site) (n j : ℕ) (key : Key) (p q : ℕ) : Type 0 where
    pub text : ℕ
    pub load : Pushes code site n (i.Load (pos (level_of s text)) (pos (slot_of s code text key))) p q
    pub reaches : Reaches s m inst text j
    pub own : frame_text s text ≡ text
    pub has : HasCell s text key
    pub varies : is_fixed s key ≡ false

  -- with the class of a reference there
  pub record CellPlaceIs (m : Instances) (inst : ℕ) (site : Site) (n j : ℕ) (key : Key) (class p q : ℕ) : Type 0 where
    pub text : ℕ
    pub address : Pushes code site n (i.Addr (pos (level_of s text)) (pos (slot_of s code text key)) (pos class)) p q
    pub reaches : Reaches s m inst text j
    pub own : frame_text s text ≡ text
    pub has : HasCell s text key
    pub varies : is_fixed s key ≡ false
    pub declared : is_declared key ≡ true

  -- a text constant, or `notext`
  pub data TextIs (site : Site) (n : ℕ) (t : TextVal) (p q : ℕ) : Type 0 where
    listed : IsConstant s t → Pushes code site n (i.TextK (pos t.text_frame)) p q → TextIs site n t p q
    empty : t ≡ notext → Pushes code site n i.NoText p q → TextIs site n t p q

  -- the object of a text around
  pub record ThisIs (m : Instances) (inst : ℕ) (site : Site) (n j p q : ℕ) : Type 0 where
    pub text : ℕ
    pub push : Pushes code site n (i.This (pos (level_of s text))) p q
    pub reaches : Reaches s m inst text j

  abbrev pub GivenIs : Instances → (inst : ℕ) → Site → ℕ → Plain → ℕ → ℕ → Type 0
  GivenIs m inst site n (PlainText t) p q = TextIs site n t p q
  GivenIs m inst site n (Object j) p q = ThisIs m inst site n j p q
  GivenIs m inst site n Nothing p q = Pushes code site n i.None p q
  GivenIs m inst site n v p q = PlainAt s code site n v p q

  -- what `&` does with both texts on the stack, in the three temps of expressions
  pub record JoinsIs (site : Site) (n line p q : ℕ) : Type 0 where
    pub within : suc (suc site.temps) < site.size
    pub room : suc (suc n) < site.room
    pub joins : Stand code line (join_instrs (level_of s site.text) site.temps) p q

  -- the procedure of a text, and the text around it
  pub record ProcedureIs (k around : ℕ) : Type 0 where
    pub result : Option TypeName
    pub heading : syntax.Heading
    pub body : Statement
    pub is : text s k ≡ Some (ProcedureText result heading body)
    pub stands_in : encloser s.tables k ≡ Some around

  pub record CallIs (m : Instances) (inst : ℕ) (site : Site) (n j k many line : ℕ) (Actuals : ℕ → ℕ → Type 0) (p q : ℕ) : Type 0 where
    pub text : ℕ
    pub x : ℕ
    pub y : ℕ
    pub link : Pushes code site n (i.Link (pos (level_of s text))) p x
    pub reaches : Reaches s m inst text j
    pub actuals : Actuals x y
    pub call : At code (i.Call (pos (block_number s k)) (pos many)) line y q
    pub procedure : ProcedureIs k text
    pub as_many : many ≡ length (formals_of s k)

  -- a procedure of an object: the object is tested before the actuals
  pub record RemoteCallIs (site : Site) (n k many line : ℕ) (Object' Actuals : ℕ → ℕ → Type 0) (p q : ℕ) : Type 0 where
    pub text : ℕ
    pub x : ℕ
    pub y : ℕ
    pub z : ℕ
    pub object : Object' p x
    pub fits : n < site.room
    pub there : At code i.NotNone line x y
    pub actuals : Actuals y z
    pub call : At code (i.Call (pos (block_number s k)) (pos many)) line z q
    pub procedure : ProcedureIs k text
    pub as_many : many ≡ length (formals_of s k)

  -- a procedure as a value: one that is declared in an instance, one that an object has, and what matches a virtual in the class of an object
  pub record ProcedureValueIs (m : Instances) (inst : ℕ) (site : Site) (n j k p q : ℕ) : Type 0 where
    pub text : ℕ
    pub x : ℕ
    pub link : Pushes code site n (i.Link (pos (level_of s text))) p x
    pub reaches : Reaches s m inst text j
    pub value : Is code (i.ProcVal (pos (block_number s k))) x q
    pub procedure : ProcedureIs k text

  pub record RemoteProcedureIs (k line : ℕ) (Object' : ℕ → ℕ → Type 0) (p q : ℕ) : Type 0 where
    pub text : ℕ
    pub x : ℕ
    pub y : ℕ
    pub object : Object' p x
    pub there : At code i.NotNone line x y
    pub value : Is code (i.ProcVal (pos (block_number s k))) y q
    pub procedure : ProcedureIs k text

  pub record MatchOfIs (virtual line : ℕ) (Object' : ℕ → ℕ → Type 0) (p q : ℕ) : Type 0 where
    pub x : ℕ
    pub object : Object' p x
    pub declared : IsVirtual s virtual
    pub found : At code (i.Virt (pos virtual)) line x q

  -- what an actual parameter is passed as, which stands on n values
  abbrev pub PassesIs : Site → (n was number line : ℕ) → Expression → ℕ → ℕ → Type 0
  PassesIs site n was number line e p q = ParameterAt code site n line number (passed s e) (λ as_procedure inner x y. ActualCode s code (record inner { used = was }) as_procedure e x y) p q

  abbrev pub AllPassAt : Site → (n was number line : ℕ) → Expressions → ℕ → ℕ → Type 0
  AllPassAt site n was number line NoMore p q = q ≡ p
  AllPassAt site n was number line (Then e es) p q = (x : ℕ) × PassesIs site n was number line e p x × AllPassAt site (suc n) was (suc number) line es x q

  -- a call of a procedure as a value
  pub record CheckedIs (inst : ℕ) (site : Site) (n home line : ℕ) (es : Expressions) (Procedure : ℕ → ℕ → Type 0) (p q : ℕ) : Type 0 where
    pub x : ℕ
    pub y : ℕ
    pub z : ℕ
    pub was : ℕ
    pub here : home ≡ inst
    pub procedure : Procedure p x
    pub fits : n < site.room
    pub check : CheckAt s code line es x y
    pub passes : AllPassAt site (suc n) was 0 line es y z
    pub called : At code (i.CallV (pos (count_of es))) line z q

  -- an object of `process` itself on n values keeps a token
  pub record OriginIs (site : Site) (n k token line p q : ℕ) : Type 0 where
    pub x : ℕ
    pub y : ℕ
    pub z : ℕ
    pub again : Pushes code site (suc n) i.Dup p x
    pub address : At code (i.AddrR (pos (slot_of s code k Origin)) (pos 0)) line x y
    pub pushed : Pushes code site (suc (suc n)) (i.Int (pos token)) y z
    pub put : Is code i.Put z q
    pub own : frame_text s k ≡ k
    pub has : HasCell s k Origin

  -- a new object of the class of a text, which stands in the text of the link
  pub record NewIs (m : Instances) (inst : ℕ) (site : Site) (n j k many line : ℕ) (Actuals : ℕ → ℕ → Type 0) (p q : ℕ) : Type 0 where
    pub text : ℕ
    pub x : ℕ
    pub y : ℕ
    pub link : Pushes code site n (i.Link (pos (level_of s text))) p x
    pub reaches : Reaches s m inst text j
    pub actuals : Actuals x y
    pub new : At code (i.New (pos (class_number s code k)) (pos many)) line y q
    pub stands_in : encloser s.tables k ≡ Some text
    pub class : is_class (Texts.text s k) ≡ true

  -- where an attribute lies: its place, or for a constant the object itself
  pub record AttributeIs (text : ℕ) (key : Key) (class line p q : ℕ) : Type 0 where
    pub is : At code (i.AddrR (pos (slot_of s code text key)) (pos class)) line p q
    pub own : frame_text s text ≡ text
    pub has : HasCell s text key
    pub varies : is_fixed s key ≡ false
    pub declared : is_declared key ≡ true

  pub record ConstantIs (text : ℕ) (key : Key) (line p q : ℕ) : Type 0 where
    pub is : At code i.NotNone line p q
    pub own : frame_text s text ≡ text
    pub has : HasCell s text key

  -- where a reference lies, with its class
  pub record ReferenceIs (text : ℕ) (key : Key) (k line p q : ℕ) : Type 0 where
    pub is_class : Classed s k
    pub place : AttributeIs text key (class_number s code k) line p q

  abbrev pub FoundIs : (kind : Kind) → (text : ℕ) → Key → (line : ℕ) → (p q : ℕ) → Type 0
  FoundIs Located text key line p q = AttributeIs text key 0 line p q
  FoundIs (Refers k) text key line p q = ReferenceIs text key k line p q
  FoundIs (FixedOf d) text key line p q = ConstantIs text key line p q
  FoundIs _ text key line p q = ⊥

  -- the value that lies somewhere is fetched; a constant is pushed
  pub record ConstantPushed (site : Site) (n d p q : ℕ) : Type 0 where
    pub x : ℕ
    pub dropped : Is code i.Pop p x
    pub value : GivenAt s code site n (constant_of s (record { 0 = d })) x q

  abbrev pub FetchesAt : Site → ℕ → Kind → ℕ → ℕ → Type 0
  FetchesAt site n Any p q = Is code i.Fetch p q
  FetchesAt site n Named p q = Is code i.Fetch p q
  FetchesAt site n Located p q = Is code i.Fetch p q
  FetchesAt site n (Refers k) p q = Is code i.Fetch p q
  FetchesAt site n (FixedOf d) p q = ConstantPushed site n d p q
  FetchesAt site n _ p q = ⊥

  -- what is known of a value that is fetched from, if it is left
  pub record FetchIs (site : Site) (n : ℕ) (g : Bool) (place : Option Kind) (p q : ℕ) : Type 0 where
    pub kind : Kind
    pub left : (ks : List Kind) → with_kind g place ks ≡ kind ∷ ks
    pub fetches : FetchesAt site n kind p q

  -- a reference that is held against a class in a temp
  pub record FitsIs (site : Site) (n k line p q : ℕ) : Type 0 where
    pub is_class : Classed s k
    pub held : HeldAt s code site n line (class_number s code k) p q

  -- an actual parameter by name, for the instance that evaluates it
  pub record ActualIs (inst : ℕ) (site : Site) (n home : ℕ) (as_procedure : Bool) (e : Expression) (p q : ℕ) : Type 0 where
    pub was : ℕ
    pub here : home ≡ inst
    pub thunk : ThunkAt code site n (λ inner x y. ActualCode s code (record inner { used = was }) as_procedure e x y) p q

  -- a use of a parameter by name, whose cell is found outward
  pub record UseIs (m : Instances) (inst : ℕ) (site : Site) (n j : ℕ) (key : Key) (wanted : Use) (p q : ℕ) : Type 0 where
    pub text : ℕ
    pub use_is : At code (use_instr s code wanted (pos (level_of s text)) (pos (slot_of s code text key))) (line_of_use wanted) p q
    pub fits : n < site.room
    pub reaches : Reaches s m inst text j
    pub own : frame_text s text ≡ text
    pub has : HasCell s text key
    pub varies : is_fixed s key ≡ false
    pub classed : UseClassed s wanted
    pub is_use : IsUse wanted

  -- a procedure of SIMSET, behind its object and its actual parameter, if it has one
  pub record SetIs (name : Standard) (count p q : ℕ) : Type 0 where
    pub is_name : is_set_name name ≡ true
    pub as_many : count ≡ suc (parameter_count name)
    pub number : ℕ
    pub numbered : slice_get standard_names number ≡ Some name
    pub done : Is code (i.Std (pos number)) p q

  -- what a process tells
  pub record ProcessIs (name : Standard) (line p q : ℕ) : Type 0 where
    pub is_name : is_process_name name ≡ true
    pub number : ℕ
    pub numbered : slice_get standard_names number ≡ Some name
    pub done : At code (i.Std (pos number)) line p q

  -- a procedure of a simulation block, to which there is a link below the actual parameter, if there is one
  pub record SimulationNameIs (name : Standard) (count line p q : ℕ) : Type 0 where
    pub is_name : is_simulation_name name ≡ true
    pub as_many : count ≡ actual_count name
    pub number : ℕ
    pub numbered : slice_get standard_names number ≡ Some name
    pub done : At code (i.Std (pos number)) line p q

  pub record SimulationIs (m : Instances) (inst : ℕ) (site : Site) (n j : ℕ) (name : Standard) (many line : ℕ) (Actuals : ℕ → ℕ → Type 0) (p q : ℕ) : Type 0 where
    pub text : ℕ
    pub x : ℕ
    pub y : ℕ
    pub link : Pushes code site n (i.Link (pos (level_of s text))) p x
    pub reaches : Reaches s m inst text j
    pub actuals : Actuals x y
    pub is : SimulationNameIs name many line y q

  abbrev mutual
    -- the code from p to q, run for an instance, evaluates the closed tree on n values
    pub TermAt : Instances → (inst : ℕ) → Site → (n : ℕ) → Term → ℕ → ℕ → Type 0
    TermAt m inst site n (Given v) p q = GivenIs m inst site n v p q
    TermAt m inst site n (Cell j key) p q = CellIs m inst site n j key p q
    TermAt m inst site n (One op line a) p q = OneAt code op line (λ p q. TermAt m inst site n a p q × (gives s a ≡ true)) p q
    TermAt m inst site n (Two op line a b) p q =
        (x : ℕ) × (y : ℕ) × (TermAt m inst site n a p x × (gives s a ≡ true)) × (TermAt m inst site (suc n) b x y × (gives s b ≡ true)) × At code (two_instr op) line y q
    TermAt m inst site n (Either c a b) p q =
        IfAt code (λ p q. TermAt m inst site n c p q × (gives s c ≡ true)) (λ p q. TermAt m inst site n a p q × (gives s a ≡ true)) (λ p q. TermAt m inst site n b p q × (gives s b ≡ true)) p q
    TermAt m inst site n (ElementOf line a ts) p q =
        (x : ℕ) × (y : ℕ) × (TermAt m inst site n a p x × (gives s a ≡ true)) × TermsAt m inst site (suc n) ts x y × At code (i.Elem (pos (count ts)) (pos 0)) line y q
    TermAt m inst site n (ValueAt a) p q = (x : ℕ) × TermAt m inst site n a p x × FetchIs site n (gives s a) (place_kind s a) x q
    TermAt m inst site n (CopyOf line a) p q = (x : ℕ) × (TermAt m inst site n a p x × (gives s a ≡ true)) × At code i.CopyArr line x q
    TermAt m inst site n (CallOf j k ts line) p q = CallIs m inst site n j k (count ts) line (TermsAt m inst site (suc n) ts) p q
    TermAt m inst site n (StandardOf name ts line) p q =
        (x : ℕ) × ReadsAt m inst site n ts p x × StandardIs code site n line name (count ts) x q
    TermAt m inst site n (PlaceOf j key) p q = CellPlaceIs m inst site n j key 0 p q
    TermAt m inst site n (ImageOf image) p q = IsImage image × Pushes code site n (i.AddrImg (pos image)) p q
    TermAt m inst site n (Joined line a b) p q =
        (x : ℕ) × (y : ℕ) × (TermAt m inst site n a p x × (gives s a ≡ true)) × (TermAt m inst site (suc n) b x y × (gives s b ≡ true)) × JoinsIs site n line y q
    TermAt m inst site n (NewOf j k ts line) p q = NewIs m inst site n j k (count ts) line (TermsAt m inst site (suc n) ts) p q
    TermAt m inst site n (AttributeOf text key class line a) p q = (x : ℕ) × (TermAt m inst site n a p x × (gives s a ≡ true)) × FoundIs (attribute_kind s key class) text key line x q
    TermAt m inst site n (RemoteCallOf a k ts line) p q = RemoteCallIs site n k (count ts) line (λ p q. TermAt m inst site n a p q × (gives s a ≡ true)) (TermsAt m inst site (suc n) ts) p q
    TermAt m inst site n (QualifiedPlaceOf j key k) p q = Classed s k × CellPlaceIs m inst site n j key (class_number s code k) p q
    TermAt m inst site n (QualifiedElementOf line k a ts) p q =
        (x : ℕ) × (y : ℕ) × (TermAt m inst site n a p x × (gives s a ≡ true)) × TermsAt m inst site (suc n) ts x y × (Classed s k × At code (i.Elem (pos (count ts)) (pos (class_number s code k))) line y q)
    TermAt m inst site n (MemberOf member k a) p q = (x : ℕ) × (TermAt m inst site n a p x × (gives s a ≡ true)) × (Classed s k × Is code (member_instr member (class_number s code k)) x q)
    TermAt m inst site n (QuaOf k line a) p q = (x : ℕ) × (TermAt m inst site n a p x × (gives s a ≡ true)) × (Classed s k × At code (i.Qua (pos (class_number s code k))) line x q)
    TermAt m inst site n (FitsOf k line a) p q = (x : ℕ) × (TermAt m inst site n a p x × (gives s a ≡ true)) × FitsIs site n k line x q
    TermAt m inst site n (KeptOf a) p q = (x : ℕ) × (TermAt m inst site n a p x × (gives s a ≡ true)) × Is code i.Keep x q
    TermAt m inst site n (NotNoneOf line a) p q = (x : ℕ) × (TermAt m inst site n a p x × (gives s a ≡ true)) × At code i.NotNone line x q
    TermAt m inst site n (TransferOf t line a) p q = (x : ℕ) × (TermAt m inst site n a p x × (gives s a ≡ true)) × At code (transfer_instr t) line x q
    TermAt m inst site n (SetOf name ts) p q = (x : ℕ) × TermsAt m inst site n ts p x × SetIs name (count ts) x q
    TermAt m inst site n (ProcessOf name line a) p q = (x : ℕ) × (TermAt m inst site n a p x × (gives s a ≡ true)) × ProcessIs name line x q
    TermAt m inst site n (SimulationOf j name ts line) p q = SimulationIs m inst site n j name (count ts) line (TermsAt m inst site (suc n) ts) p q
    TermAt m inst site n (OriginOf k token line a) p q = (x : ℕ) × (TermAt m inst site n a p x × (gives s a ≡ true)) × OriginIs site n k token line x q
    TermAt m inst site n (ProcedureOf j k) p q = ProcedureValueIs m inst site n j k p q
    TermAt m inst site n (RemoteProcedureOf a k line) p q = RemoteProcedureIs k line (λ p q. TermAt m inst site n a p q × (gives s a ≡ true)) p q
    TermAt m inst site n (MatchOf a v line) p q = MatchOfIs v line (λ p q. TermAt m inst site n a p q × (gives s a ≡ true)) p q
    TermAt m inst site n (CheckedOf a leaves home es line) p q = CheckedIs inst site n home line es (λ p q. TermAt m inst site n a p q × (gives s a ≡ true)) p q
    TermAt m inst site n (ActualOf home as_procedure e) p q = ActualIs inst site n home as_procedure e p q
    TermAt m inst site n (NamedOf j key wanted) p q = UseIs m inst site n j key wanted p q
    TermAt m inst site n NoMeaning p q = ⊤

    -- one value after the other
    pub TermsAt : Instances → (inst : ℕ) → Site → (n : ℕ) → Terms → ℕ → ℕ → Type 0
    TermsAt m inst site n NoTerm p q = q ≡ p
    TermsAt m inst site n (Further t ts) p q = (x : ℕ) × (TermAt m inst site n t p x × (gives s t ≡ true)) × TermsAt m inst site (suc n) ts x q

    -- operands of a standard name, one after the other
    pub ReadsAt : Instances → (inst : ℕ) → Site → (n : ℕ) → Terms → ℕ → ℕ → Type 0
    ReadsAt m inst site n NoTerm p q = q ≡ p
    ReadsAt m inst site n (Further t ts) p q = (x : ℕ) × (TermAt m inst site n t p x × (reads s t ≡ true)) × ReadsAt m inst site (suc n) ts x q

  -- an operand leaves a value
  abbrev pub OperandAt : Instances → (inst : ℕ) → Site → (n : ℕ) → Term → ℕ → ℕ → Type 0
  OperandAt m inst site n t p q = TermAt m inst site n t p q × (gives s t ≡ true)
