-- The tables of a program agree with one another and with its texts, whatever rules its declarations break.
use Rattle.std.proofs.Common.{◌≡◌, ◌<◌, ◌+◌, ◌⊎◌, inl, inr, ℕ, zero, suc, Bool, true, false, List, [], ◌∷◌, ◌++◌, length, Option, Some, None, refl, sym, ap, ◌∙◌, subst, arith}
use Rattle.std.specs.Prelude.{nat_eq, nat_lt, slice_get}
use Rattle.std.specs.List.{position_or_len}
use Rattle.std.specs.Str.{bytes_eq}
use Rattle.std.proofs.lemmas.List.{length-append}
use Rattle.std.proofs.lemmas.Option.{slice_get_within}
use Rattle.std.proofs.lemmas.Bool.Decides.{nat_tests}
use Rattle.std.proofs.lemmas.Slice.Eq.{bytes_eq-Decides}
use Rattle.sim_base.specs.declared.numbering.DeclNo.{DeclNo}
use Rattle.sim_tree.specs.declared.expr.Identifier.{Identifier}
use Rattle.sim_tree.specs.declared.stmt.TypeName.{TypeName}
use Rattle.sim_tree.specs.Syntax.{Declarations, Heading, Statement}
use Rattle.sim_scope.specs.declared.scopes.Declaration.{Declaration}
use Rattle.sim_scope.specs.declared.types.BlockKind.{BlockKind}
use Rattle.sim_scope.specs.declared.types.BlockKind.TheVariants as kind
use Rattle.sim_scope.specs.declared.types.Entry.{Entry}
use Rattle.sim_scope.specs.declared.types.Entry.TheVariants as entry
use Rattle.sim_scope.specs.declared.types.SimType.{SimType}
use Rattle.sim_scope.specs.declared.types.StandardClass.{StandardClass}
use Rattle.sim_scope.specs.declared.types.StandardPrefix.{StandardPrefix}
use Rattle.sim_scope.specs.declared.types.StandardPrefix.TheVariants as prefixes
use Rattle.sim_scope.specs.declared.types.WrittenMode.{WrittenMode}
use Rattle.sim_scope.specs.Building.{BuildingOf, Declares, Mark, attribute_entry, name_of, parameter, place_of, standard_base}
use Rattle.sim_scope.specs.Declare.{result_named}
use Rattle.sim_scope.specs.Access.{around}
use Rattle.sim_scope.specs.Levels.{base_in}
use Rattle.sim_scope.specs.Scopes.{declared_in, is_virtual}
use Rattle.sim_scope.specs.Source.{level_in as level_of_row}
use Rattle.sim_scope.specs.Standard.{class_owning}
use Rattle.sim_scope.specs.Tables.{BlockOf, deeper}
use Rattle.sim_scope.proofs.Kept.{kept_more, more_here, more_other}
use Rattle.sim_values.specs.declared.standard.Standard.{Standard}
use Rattle.sim_values.specs.Standard.{row_of}
use Rattle.sim_code.specs.Sets.{is_attribute_name}
use Rattle.sim_code.specs.Simulations.{is_simulation_name}
use Rattle.sim_meaning.specs.Entries.{numbers_in}
use Rattle.sim_meaning.specs.Levels.{is_class}
use Rattle.sim_meaning.specs.Texts.{BlockText, ClassText, ConnectionText, ProcedureText, StandardText, Text, kind_of_type, PrefixedText}
use Rattle.sim_sound.specs.Held.{Among}
use Rattle.sim_agree.proofs.Groups.{Declaring, Has, Open, OwnEntry, Interfacing, PlainKind, Prefixing, Taking, declared_in_text, item, own_marks}
use Rattle.sim_agree.proofs.Steps.{AllEven, Becomes, Changed, Even, Fixed, Listed, Parametric, RowIs, Step, among_at, count_false, count_true, fixed, found_at}
use Rattle.sim_agree.proofs.Marks.{last_cases}
use Rattle.sim_agree.proofs.StandardPrefixes.{InFront, IsBrought}
use Rattle.sim_agree.proofs.Unprefixed.{Brings, Known, Named, NamesFound, Unprefixed, brings_numbers, brings_of, brought_of, extras_in, no_extras, spelt_as, spelt_before}

-- ---- the open texts

-- the innermost open block is the text on top, and the block around it those below
abbrev pub Stack : List BlockOf → List Text → (current : Option ℕ) → List Open → Type 0
Stack bs ts current [] = current ≡ None
Stack bs ts current (o ∷ os) = (n : ℕ) × (current ≡ Some n) × (slice_get ts n ≡ Some o.text) × Stack bs ts (around (slice_get bs n)) os

-- the texts keep their places, and their blocks what is fixed
abbrev pub Keeps : List BlockOf → List BlockOf → List Text → List Text → Type 0
Keeps bs cs ts us = (n : ℕ) (x : Text) → slice_get ts n ≡ Some x → (fixed (slice_get cs n) ≡ fixed (slice_get bs n)) × (slice_get us n ≡ Some x)

abbrev around_of : Fixed → Option ℕ
around_of None = None
around_of (Some x) = x.encloser

abbrev level_of_fixed : Fixed → ℕ
level_of_fixed None = 0
level_of_fixed (Some x) = x.level

abbrev owner_of_fixed : Fixed → Option DeclNo
owner_of_fixed None = None
owner_of_fixed (Some x) = x.owner

abbrev base_of_fixed : Fixed → Option ℕ
base_of_fixed None = None
base_of_fixed (Some x) = x.base

out_fixed : (o : Option BlockOf) → around_of (fixed o) ≡ around o
out_fixed None = refl
out_fixed (Some row) = refl

level_fixed : (o : Option BlockOf) → level_of_fixed (fixed o) ≡ level_of_row o
level_fixed None = refl
level_fixed (Some row) = refl

pub same_around : (o p : Option BlockOf) → fixed o ≡ fixed p → around o ≡ around p
same_around o p e = sym (out_fixed o) ∙ ap around_of e ∙ out_fixed p

same_level : (o p : Option BlockOf) → fixed o ≡ fixed p → level_of_row o ≡ level_of_row p
same_level o p e = sym (level_fixed o) ∙ ap level_of_fixed e ∙ level_fixed p

-- the procedure or class that a block belongs to
abbrev pub owner_in : Option BlockOf → Option DeclNo
owner_in None = None
owner_in (Some row) = row.owner

pub owner_fixed : (o : Option BlockOf) → owner_of_fixed (fixed o) ≡ owner_in o
owner_fixed None = refl
owner_fixed (Some row) = refl

-- the base of a block before the classes of prefixes are known: a standard class has it from the start
abbrev pub base_by : BlockKind → Option ℕ → Option ℕ
base_by (kind.StandardClass which) (Some n) = standard_base which n
base_by _ _ = None

abbrev pub own_base : Option BlockOf → Option ℕ
own_base None = None
own_base (Some row) = base_by row.kind row.encloser

abbrev own_base_of_fixed : Fixed → Option ℕ
own_base_of_fixed None = None
own_base_of_fixed (Some x) = base_by x.kind x.encloser

own_base_fixed : (o : Option BlockOf) → own_base_of_fixed (fixed o) ≡ own_base o
own_base_fixed None = refl
own_base_fixed (Some row) = refl

base_fixed : (o : Option BlockOf) → base_of_fixed (fixed o) ≡ base_in o
base_fixed None = refl
base_fixed (Some row) = refl

-- the level of a block in one of this level
abbrev pub deeper_in : Option BlockOf → ℕ → ℕ
deeper_in None n = n
deeper_in (Some row) n = deeper row.kind n

abbrev deeper_of_fixed : Fixed → ℕ → ℕ
deeper_of_fixed None n = n
deeper_of_fixed (Some x) n = deeper x.kind n

deeper_fixed : (o : Option BlockOf) (n : ℕ) → deeper_of_fixed (fixed o) n ≡ deeper_in o n
deeper_fixed None n = refl
deeper_fixed (Some row) n = refl

same_deeper : (o p : Option BlockOf) (n : ℕ) → fixed o ≡ fixed p → deeper_in o n ≡ deeper_in p n
same_deeper o p n e = sym (deeper_fixed o n) ∙ ap (λ z. deeper_of_fixed z n) e ∙ deeper_fixed p n

pub stack_kept : (bs cs : List BlockOf) (ts us : List Text) → Keeps bs cs ts us → (os : List Open) (current : Option ℕ) → Stack bs ts current os → Stack cs us current os
stack_kept bs cs ts us keep [] current h = h
stack_kept bs cs ts us keep (o ∷ os) current h =
    let k = keep h.0 o.text h.2 in
    (h.0, h.1, k.1, subst (λ z. Stack cs us z os) (sym (same_around (slice_get cs h.0) (slice_get bs h.0) k.0)) (stack_kept bs cs ts us keep os (around (slice_get bs h.0)) h.3))

-- ---- what is said of the tables

abbrev pub KindOf : BlockKind → Text → Type 0
KindOf k (BlockText i ds ss) = PlainKind k
KindOf k (ProcedureText result h a) = k ≡ kind.Procedure
KindOf k (ClassText prefix h ds ss) = k ≡ kind.Class
KindOf k (PrefixedText class es ds ss) = k ≡ kind.Prefixed
KindOf k ConnectionText = k ≡ kind.Connection
KindOf k (StandardText which) = k ≡ kind.StandardClass which

abbrev pub KindIs : Option BlockOf → Option Text → Type 0
KindIs (Some row) (Some x) = KindOf row.kind x
KindIs None None = Unit {0}
KindIs _ _ = ⊥

-- declarations are listed in their order
abbrev pub Rising : List DeclNo → Type 0
Rising ns = (n m : ℕ) (d e : DeclNo) → slice_get ns n ≡ Some d → slice_get ns m ≡ Some e → n < m → d.0 < e.0

-- the classes of a standard prefix, which are brought together into a block, and their declarations
pub record StandardGroup (p : StandardPrefix) (bs : List BlockOf) (ts : List Text) (n : ℕ) (first : DeclNo) : Type 0 where
  pub texts : (which : StandardClass) → IsBrought p which → slice_get ts (n + 1 + place_of which) ≡ Some (StandardText which)
  pub bases : (which : StandardClass) → IsBrought p which → base_in (slice_get bs (n + 1 + place_of which)) ≡ standard_base which n
  pub around : (which : StandardClass) → IsBrought p which → around (slice_get bs (n + 1 + place_of which)) ≡ Some n
  pub host : (x : Text) × (slice_get ts n ≡ Some x) × InFront p x
  pub owners : (which : StandardClass) → IsBrought p which → owner_in (slice_get bs (n + 1 + place_of which)) ≡ Some (record { 0 = first.0 + place_of which })

-- each of their texts is one of such a group
pub record InGroup (bs : List BlockOf) (ts : List Text) (k : ℕ) (which : StandardClass) : Type 0 where
  pub prefix : StandardPrefix
  pub block : ℕ
  pub first : DeclNo
  pub group : StandardGroup prefix bs ts block first
  pub is : IsBrought prefix which
  pub place : k ≡ block + 1 + place_of which

abbrev pub StandardTexts : List BlockOf → List Text → Type 0
StandardTexts bs ts = (k : ℕ) (which : StandardClass) → slice_get ts k ≡ Some (StandardText which) → InGroup bs ts k which

-- behind each block whose prefix is spelt as a standard one stands such a group
abbrev pub Headed : StandardPrefix → List BlockOf → List Text → ℕ → Type 0
Headed p bs ts n = (first : DeclNo) × StandardGroup p bs ts n first

abbrev pub AllHeaded : List BlockOf → List Text → Type 0
AllHeaded bs ts = (n : ℕ) (p : StandardPrefix) → spelt_before (slice_get bs n) ≡ Some p → Headed p bs ts n

-- they have no text
abbrev pub standard_first : BlockKind → (first : ℕ) → ℕ
standard_first (kind.StandardClass which) first = first
standard_first _ first = 0

abbrev pub first_or_none : Option BlockOf → ℕ
first_or_none None = 0
first_or_none (Some row) = standard_first row.kind row.first

abbrev pub Textless : List BlockOf → Type 0
Textless bs = (k : ℕ) → first_or_none (slice_get bs k) ≡ 0

-- what is brought into a block is declared in it
abbrev pub Brought : BuildingOf → Type 0
Brought b = (k : ℕ) (d : DeclNo) → Among d (brought_of (slice_get b.tables.blocks k)) → (row : Declaration) × (slice_get b.tables.declarations d.0 ≡ Some row) × (row.block ≡ k)

-- and is found by its name
abbrev pub NamedBrought : BuildingOf → Type 0
NamedBrought b = (k : ℕ) → Named b.tables.declarations (brings_of (slice_get b.tables.blocks k))

-- a block that none is around is on the first level
abbrev pub TopFixed : Fixed → Type 0
TopFixed None = Unit {0}
TopFixed (Some x) = x.encloser ≡ None → x.level ≡ 1

pub record Fine (b : BuildingOf) (ts : List Text) (os : List Open) : Type 0 where
  pub size : length b.tables.blocks ≡ length ts
  pub stack : Stack b.tables.blocks ts b.current os
  pub nested : (t u : ℕ) → around (slice_get b.tables.blocks t) ≡ Some u → u < t
  pub levels : (t u : ℕ) → around (slice_get b.tables.blocks t) ≡ Some u → level_of_row (slice_get b.tables.blocks t) ≡ deeper_in (slice_get b.tables.blocks t) (level_of_row (slice_get b.tables.blocks u))
  pub tops : (t : ℕ) → TopFixed (fixed (slice_get b.tables.blocks t))
  pub kinds : (t : ℕ) → KindIs (slice_get b.tables.blocks t) (slice_get ts t)
  pub listed : (d : ℕ) (row : Declaration) → slice_get b.tables.declarations d ≡ Some row → row.listed ≡ true → Among (record { 0 = d }) (numbers_in (slice_get b.tables.blocks row.block))
  pub evens : AllEven b.tables.blocks
  pub finds : (d : ℕ) (row : Declaration) → slice_get b.tables.declarations d ≡ Some row → row.listed ≡ true → declared_in (slice_get b.tables.blocks row.block) row.name ≡ Some (record { 0 = d })
  pub own : (k : ℕ) (d : DeclNo) → Among d (numbers_in (slice_get b.tables.blocks k)) → (row : Declaration) × (slice_get b.tables.declarations d.0 ≡ Some row) × (row.block ≡ k) × (row.listed ≡ true)
  pub rising : (k : ℕ) → Rising (numbers_in (slice_get b.tables.blocks k))
  pub based : (k : ℕ) → base_in (slice_get b.tables.blocks k) ≡ own_base (slice_get b.tables.blocks k)
  pub bare : Unprefixed b.tables
  pub known : Known b.tables.declarations
  pub standards : StandardTexts b.tables.blocks ts
  pub headed : AllHeaded b.tables.blocks ts
  pub textless : Textless b.tables.blocks
  pub brought : Brought b
  pub named : NamedBrought b

-- the same entry, but for the class that references are qualified by
abbrev pub AlikeTypes : SimType → SimType → Type 0
AlikeTypes a b = kind_of_type a ≡ kind_of_type b

abbrev pub AlikeResults : Option SimType → Option SimType → Type 0
AlikeResults None None = Unit {0}
AlikeResults (Some a) (Some b) = AlikeTypes a b
AlikeResults _ _ = ⊥

abbrev pub Alike : Entry → Entry → Type 0
Alike (entry.Variable a) (entry.Variable b) = AlikeTypes a b
Alike (entry.Constant a) (entry.Constant b) = AlikeTypes a b
Alike (entry.Array a n) (entry.Array b m) = AlikeTypes a b × (n ≡ m)
Alike (entry.Procedure a k) (entry.Procedure b j) = AlikeResults a b × (k ≡ j)
Alike (entry.Class k) (entry.Class j) = k ≡ j
Alike (entry.Formal f) (entry.Formal g) = (f.mode ≡ g.mode) × (f.kind ≡ g.kind) × AlikeResults f.ty g.ty
Alike (entry.Unspecified w) (entry.Unspecified v) = w ≡ v
Alike _ _ = ⊥

pub alike_results : (a : Option SimType) → AlikeResults a a
alike_results None = tt
alike_results (Some a) = refl

abbrev pub IsStandard : Text → Type 0
IsStandard (StandardText which) = Unit {0}
IsStandard _ = ⊥

-- a declaration of a block or a class: one of its own marks
pub record Own (ds : Declarations) (row : Declaration) : Type 0 where
  pub entry : Entry
  pub fits : OwnEntry entry
  pub alike : Alike entry row.entry
  pub name : Identifier
  pub named : name.name ≡ row.name
  pub token : name.token ≡ row.token
  pub listed : row.listed ≡ true
  pub mark : Has (Declares name entry) (own_marks ds)

-- or a procedure or a class, whose text stands in it
pub record OfProcedure (bs : List BlockOf) (ts : List Text) (d : ℕ) (row : Declaration) : Type 0 where
  pub result : Option TypeName
  pub heading : Heading
  pub body : Statement
  pub number : ℕ
  pub entry : Alike (entry.Procedure (result_named result) number) row.entry
  pub text : slice_get ts number ≡ Some (ProcedureText result heading body)
  pub around : around (slice_get bs number) ≡ Some row.block
  pub owner : owner_in (slice_get bs number) ≡ Some (record { 0 = d })

pub record OfClass (bs : List BlockOf) (ts : List Text) (d : ℕ) (row : Declaration) : Type 0 where
  pub class : Text
  pub is : is_class (Some class) ≡ true
  pub number : ℕ
  pub entry : row.entry ≡ entry.Class number
  pub listed : (row.listed ≡ true) ⊎ IsStandard class
  pub hidden : IsStandard class → row.listed ≡ false
  pub named : (which : StandardClass) → class ≡ StandardText which → row.name ≡ name_of which
  pub text : slice_get ts number ≡ Some class
  pub around : around (slice_get bs number) ≡ Some row.block
  pub owner : owner_in (slice_get bs number) ≡ Some (record { 0 = d })

-- an attribute of a standard class, by the first of the classes that were brought together
pub record OfAttribute (bs : List BlockOf) (ts : List Text) (row : Declaration) : Type 0 where
  pub name : Standard
  pub class : StandardClass
  pub owner : class_owning (row_of name).owner ≡ Some class
  pub is_attribute : is_attribute_name name ≡ true
  pub prefix : StandardPrefix
  pub block : ℕ
  pub first : DeclNo
  pub group : StandardGroup prefix bs ts block first
  pub is : IsBrought prefix class
  pub entry : row.entry ≡ attribute_entry (Some first) name
  pub listed : row.listed ≡ true
  pub stands : row.block ≡ block + 1 + place_of class

-- one of `simulation` itself, which the block in front of which it is does not list
pub record OfSimulation (bs : List BlockOf) (ts : List Text) (row : Declaration) : Type 0 where
  pub name : Standard
  pub is_simulation : is_simulation_name name ≡ true
  pub first : DeclNo
  pub group : StandardGroup prefixes.Simulation bs ts row.block first
  pub entry : row.entry ≡ attribute_entry (Some first) name
  pub listed : row.listed ≡ false

pub data RowIn (bs : List BlockOf) (ts : List Text) (x : Text) (d : ℕ) (row : Declaration) : Type 0 where
  own_row : Declaring x → Own (declared_in_text x) row → RowIn bs ts x d row
  procedure_row : Declaring x → OfProcedure bs ts d row → RowIn bs ts x d row
  class_row : Declaring x → OfClass bs ts d row → RowIn bs ts x d row
  formal_row : Taking x → Parametric row.entry → row.listed ≡ true → RowIn bs ts x d row
  virtual_row : Interfacing x → is_virtual row.entry ≡ true → row.listed ≡ true → RowIn bs ts x d row
  attribute_row : IsStandard x → OfAttribute bs ts row → RowIn bs ts x d row
  simulation_row : Prefixing x → OfSimulation bs ts row → RowIn bs ts x d row

abbrev pub RowOf : List BlockOf → List Text → Option Text → ℕ → Declaration → Type 0
RowOf bs ts None d row = ⊥
RowOf bs ts (Some x) d row = RowIn bs ts x d row

abbrev pub Rows : BuildingOf → List Text → Type 0
Rows b ts = (d : ℕ) (row : Declaration) → slice_get b.tables.declarations d ≡ Some row → RowOf b.tables.blocks ts (slice_get ts row.block) d row

-- ---- rows

abbrev KindFixed : Fixed → Option Text → Type 0
KindFixed (Some x) (Some y) = KindOf x.kind y
KindFixed None None = Unit {0}
KindFixed _ _ = ⊥

to_fixed : (o : Option BlockOf) (t : Option Text) → KindIs o t → KindFixed (fixed o) t
to_fixed (Some row) (Some x) k = k
to_fixed None None k = k
to_fixed (Some row) None k = absurd k
to_fixed None (Some x) k = absurd k

from_fixed : (o : Option BlockOf) (t : Option Text) → KindFixed (fixed o) t → KindIs o t
from_fixed (Some row) (Some x) k = k
from_fixed None None k = k
from_fixed (Some row) None k = absurd k
from_fixed None (Some x) k = absurd k

pub same_kind : (o p : Option BlockOf) (t : Option Text) → fixed o ≡ fixed p → KindIs p t → KindIs o t
same_kind o p t e k = from_fixed o t (subst (λ z. KindFixed z t) (sym e) (to_fixed p t k))

pub same_owner : (o p : Option BlockOf) → fixed o ≡ fixed p → owner_in o ≡ owner_in p
same_owner o p e = sym (owner_fixed o) ∙ ap owner_of_fixed e ∙ owner_fixed p

pub same_base : (o p : Option BlockOf) → fixed o ≡ fixed p → base_in o ≡ base_in p
same_base o p e = sym (base_fixed o) ∙ ap base_of_fixed e ∙ base_fixed p

abbrev textless_of_fixed : Fixed → ℕ
textless_of_fixed None = 0
textless_of_fixed (Some x) = standard_first x.kind x.first

textless_fixed : (o : Option BlockOf) → textless_of_fixed (fixed o) ≡ first_or_none o
textless_fixed None = refl
textless_fixed (Some row) = refl

pub same_textless : (o p : Option BlockOf) → fixed o ≡ fixed p → first_or_none o ≡ first_or_none p
same_textless o p e = sym (textless_fixed o) ∙ ap textless_of_fixed e ∙ textless_fixed p

same_own_base : (o p : Option BlockOf) → fixed o ≡ fixed p → own_base o ≡ own_base p
same_own_base o p e = sym (own_base_fixed o) ∙ ap own_base_of_fixed e ∙ own_base_fixed p

module _ (bs cs : List BlockOf) (ts us : List Text) (keep : Keeps bs cs ts us) where
  procedure_kept : (d : ℕ) (row : Declaration) → OfProcedure bs ts d row → OfProcedure cs us d row
  procedure_kept d row p =
      let k = keep p.number (ProcedureText p.result p.heading p.body) p.text in
      record { result = p.result; heading = p.heading; body = p.body; number = p.number; entry = p.entry; text = k.1; around = same_around (slice_get cs p.number) (slice_get bs p.number) k.0 ∙ p.around; owner = same_owner (slice_get cs p.number) (slice_get bs p.number) k.0 ∙ p.owner }

  class_kept : (d : ℕ) (row : Declaration) → OfClass bs ts d row → OfClass cs us d row
  class_kept d row p =
      let k = keep p.number p.class p.text in
      record { class = p.class; is = p.is; number = p.number; entry = p.entry; listed = p.listed; hidden = p.hidden; named = p.named; text = k.1; around = same_around (slice_get cs p.number) (slice_get bs p.number) k.0 ∙ p.around; owner = same_owner (slice_get cs p.number) (slice_get bs p.number) k.0 ∙ p.owner }

  pub group_kept : (p : StandardPrefix) (n : ℕ) (first : DeclNo) → StandardGroup p bs ts n first → StandardGroup p cs us n first
  group_kept p n first g = record {
    host = (g.host.0, (keep n g.host.0 g.host.1).1, g.host.2);
    texts = λ which is. (keep (n + 1 + place_of which) (StandardText which) (g.texts which is)).1;
    bases = λ which is. same_base (slice_get cs (n + 1 + place_of which)) (slice_get bs (n + 1 + place_of which)) (keep (n + 1 + place_of which) (StandardText which) (g.texts which is)).0 ∙ g.bases which is;
    around = λ which is. same_around (slice_get cs (n + 1 + place_of which)) (slice_get bs (n + 1 + place_of which)) (keep (n + 1 + place_of which) (StandardText which) (g.texts which is)).0 ∙ g.around which is;
    owners = λ which is. same_owner (slice_get cs (n + 1 + place_of which)) (slice_get bs (n + 1 + place_of which)) (keep (n + 1 + place_of which) (StandardText which) (g.texts which is)).0 ∙ g.owners which is;
  }

  pub in_group_kept : (k : ℕ) (which : StandardClass) → InGroup bs ts k which → InGroup cs us k which
  in_group_kept k which g = record { prefix = g.prefix; block = g.block; first = g.first; group = group_kept g.prefix g.block g.first g.group; is = g.is; place = g.place }

  attribute_kept : (row : Declaration) → OfAttribute bs ts row → OfAttribute cs us row
  attribute_kept row p = record { name = p.name; class = p.class; owner = p.owner; is_attribute = p.is_attribute; prefix = p.prefix; block = p.block; first = p.first; group = group_kept p.prefix p.block p.first p.group; is = p.is; entry = p.entry; listed = p.listed; stands = p.stands }

  pub headed_kept : (p : StandardPrefix) (n : ℕ) → Headed p bs ts n → Headed p cs us n
  headed_kept p n h = (h.0, group_kept p n h.0 h.1)

  simulation_kept : (row : Declaration) → OfSimulation bs ts row → OfSimulation cs us row
  simulation_kept row p = record { name = p.name; is_simulation = p.is_simulation; first = p.first; group = group_kept prefixes.Simulation row.block p.first p.group; entry = p.entry; listed = p.listed }

  row_at : (x : Text) (d : ℕ) (row : Declaration) → RowIn bs ts x d row → RowIn cs us x d row
  row_at x d row (attribute_row y p) = attribute_row y (attribute_kept row p)
  row_at x d row (simulation_row y p) = simulation_row y (simulation_kept row p)
  row_at x d row (own_row y p) = own_row y p
  row_at x d row (procedure_row y p) = procedure_row y (procedure_kept d row p)
  row_at x d row (class_row y p) = class_row y (class_kept d row p)
  row_at x d row (formal_row y p l) = formal_row y p l
  row_at x d row (virtual_row y p l) = virtual_row y p l

  pub row_kept : (d : ℕ) (row : Declaration) → RowOf bs ts (slice_get ts row.block) d row → RowOf cs us (slice_get us row.block) d row
  row_kept d row p = go (slice_get ts row.block) refl p
    where
      go : (o : Option Text) → slice_get ts row.block ≡ o → RowOf bs ts o d row → RowOf cs us (slice_get us row.block) d row
      go None is q = absurd q
      go (Some x) is q = subst (λ z. RowOf cs us z d row) (sym (keep row.block x is).1) (row_at x d row q)

-- what an entry that is not specified yet is like
alike_unspecified : (e : Entry) (w : Option WrittenMode) → OwnEntry e → Alike e (entry.Unspecified w) → ⊥
alike_unspecified (entry.Variable ty) w own a = a
alike_unspecified (entry.Constant ty) w own a = a
alike_unspecified (entry.Array ty n) w own a = a
alike_unspecified (entry.Procedure result k) w own a = own
alike_unspecified (entry.Class k) w own a = own
alike_unspecified (entry.Virtual result k) w own a = own
alike_unspecified (entry.Formal f) w own a = own
alike_unspecified (entry.Unspecified v) w own a = own
alike_unspecified (entry.Attribute name parameter result) w own a = own

-- a virtual is like nothing of these
alike_virtual : (e : Entry) (result : Option SimType) (known : Option DeclNo) → Alike e (entry.Virtual result known) → ⊥
alike_virtual (entry.Variable ty) result known a = a
alike_virtual (entry.Constant ty) result known a = a
alike_virtual (entry.Array ty n) result known a = a
alike_virtual (entry.Procedure given k) result known a = a
alike_virtual (entry.Class k) result known a = a
alike_virtual (entry.Virtual given k) result known a = a
alike_virtual (entry.Formal f) result known a = a
alike_virtual (entry.Unspecified v) result known a = a
alike_virtual (entry.Attribute name parameter given) result known a = a

changed_in : (bs : List BlockOf) (ts : List Text) (x : Text) (d : ℕ) (old row : Declaration) → Changed old row → RowIn bs ts x d old → RowIn bs ts x d row
changed_in bs ts x d old row c (own_row y p) = own_row y (go c.entry)
  where
    go : Becomes old.entry row.entry → Own (declared_in_text x) row
    go (inl e) = record { entry = p.entry; fits = p.fits; alike = subst (Alike p.entry) (sym e) p.alike; name = p.name; named = p.named ∙ sym c.name; token = p.token ∙ sym c.token; listed = c.listed ∙ p.listed; mark = p.mark }
    go (inr (inl q)) = absurd (alike_unspecified p.entry q.0 p.fits (subst (Alike p.entry) q.1 p.alike))
    go (inr (inr q)) = absurd (alike_virtual p.entry q.0 None (subst (Alike p.entry) q.2 p.alike))
changed_in bs ts x d old row c (procedure_row y p) = procedure_row y (go c.entry)
  where
    go : Becomes old.entry row.entry → OfProcedure bs ts d row
    go (inl e) = record { result = p.result; heading = p.heading; body = p.body; number = p.number; entry = subst (Alike (entry.Procedure (result_named p.result) p.number)) (sym e) p.entry; text = p.text; around = p.around ∙ ap Some (sym c.block); owner = p.owner }
    go (inr (inl q)) = absurd (subst (Alike (entry.Procedure (result_named p.result) p.number)) q.1 p.entry)
    go (inr (inr q)) = absurd (subst (Alike (entry.Procedure (result_named p.result) p.number)) q.2 p.entry)
changed_in bs ts x d old row c (class_row y p) = class_row y (go c.entry)
  where
    still : (old.listed ≡ true) ⊎ IsStandard p.class → (row.listed ≡ true) ⊎ IsStandard p.class
    still (inl l) = inl (c.listed ∙ l)
    still (inr q) = inr q

    go : Becomes old.entry row.entry → OfClass bs ts d row
    go (inl e) = record { class = p.class; is = p.is; number = p.number; entry = e ∙ p.entry; listed = still p.listed; hidden = λ q. c.listed ∙ p.hidden q; named = λ w q. c.name ∙ p.named w q; text = p.text; around = p.around ∙ ap Some (sym c.block); owner = p.owner }
    go (inr (inl q)) = absurd (let e : entry.Unspecified q.0 ≡ entry.Class p.number = sym q.1 ∙ p.entry in cc)
    go (inr (inr q)) = absurd (let e : entry.Virtual q.0 None ≡ entry.Class p.number = sym q.2 ∙ p.entry in cc)
changed_in bs ts x d old row c (formal_row y p l) = formal_row y (go c.entry) (c.listed ∙ l)
  where
    go : Becomes old.entry row.entry → Parametric row.entry
    go (inl e) = subst Parametric (sym e) p
    go (inr (inl q)) = q.2
    go (inr (inr q)) = absurd (subst Parametric q.2 p)
changed_in bs ts x d old row c (virtual_row y p l) = virtual_row y (go c.entry) (c.listed ∙ l)
  where
    go : Becomes old.entry row.entry → is_virtual row.entry ≡ true
    go (inl e) = ap is_virtual e ∙ p
    go (inr (inl q)) = absurd (let e : false ≡ true = sym (ap is_virtual q.1) ∙ p in cc)
    go (inr (inr q)) = ap is_virtual q.3
changed_in bs ts x d old row c (attribute_row y p) = attribute_row y (go c.entry)
  where
    go : Becomes old.entry row.entry → OfAttribute bs ts row
    go (inl e) = record { name = p.name; class = p.class; owner = p.owner; is_attribute = p.is_attribute; prefix = p.prefix; block = p.block; first = p.first; group = p.group; is = p.is; entry = e ∙ p.entry; listed = c.listed ∙ p.listed; stands = c.block ∙ p.stands }
    go (inr (inl q)) = absurd (let e : entry.Unspecified q.0 ≡ attribute_entry (Some p.first) p.name = sym q.1 ∙ p.entry in cc)
    go (inr (inr q)) = absurd (let e : entry.Virtual q.0 None ≡ attribute_entry (Some p.first) p.name = sym q.2 ∙ p.entry in cc)
changed_in bs ts x d old row c (simulation_row y p) = simulation_row y (go c.entry)
  where
    go : Becomes old.entry row.entry → OfSimulation bs ts row
    go (inl e) = record { name = p.name; is_simulation = p.is_simulation; first = p.first; group = subst (λ n. StandardGroup prefixes.Simulation bs ts n p.first) (sym c.block) p.group; entry = e ∙ p.entry; listed = c.listed ∙ p.listed }
    go (inr (inl q)) = absurd (let e : entry.Unspecified q.0 ≡ attribute_entry (Some p.first) p.name = sym q.1 ∙ p.entry in cc)
    go (inr (inr q)) = absurd (let e : entry.Virtual q.0 None ≡ attribute_entry (Some p.first) p.name = sym q.2 ∙ p.entry in cc)

pub changed_row : (bs : List BlockOf) (ts : List Text) (o : Option Text) (d : ℕ) (old row : Declaration) → Changed old row → RowOf bs ts o d old → RowOf bs ts o d row
changed_row bs ts None d old row c p = absurd p
changed_row bs ts (Some x) d old row c p = changed_in bs ts x d old row c p

-- ---- steps

-- the next declaration is behind those before
more_rise : (ds : List Declaration) (ns : List DeclNo) → Rising ns → ((d : DeclNo) → Among d ns → d.0 < length ds) → Rising (ns ++ record { 0 = length ds } ∷ [])
more_rise ds ns old under n m d e at to lt = go (last_cases ns (record { 0 = length ds }) n d at) (last_cases ns (record { 0 = length ds }) m e to)
  where
    next : DeclNo
    next = record { 0 = length ds }

    go : (slice_get ns n ≡ Some d) ⊎ ((n ≡ length ns) × (next ≡ d)) → (slice_get ns m ≡ Some e) ⊎ ((m ≡ length ns) × (next ≡ e)) → d.0 < e.0
    go (inl p) (inl q) = old n m d e p q lt
    go (inl p) (inr q) = let u : d.0 < length ds = under d (among_at ns n d p) in let f : length ds ≡ e.0 = ap (λ (z : DeclNo). z.0) q.1 in omega arith
    go (inr p) (inl q) = let u : m < length ns = slice_get_within ns m e q in let f : n ≡ length ns = p.0 in absurd (omega arith)
    go (inr p) (inr q) = let f : n ≡ length ns = p.0 in let g : m ≡ length ns = q.0 in absurd (omega arith)

-- the place of what is found has its name
pub name_there : (p : List ℕ → Bool) (names : List (List ℕ)) → position_or_len p names < length names → (n : List ℕ) × (slice_get names (position_or_len p names) ≡ Some n) × (p n ≡ true)
name_there p [] lt = absurd (omega arith)
name_there p (n ∷ ns) lt = go (p n) refl lt (λ q. name_there p ns q)
  where
    go : (c : Bool) → p n ≡ c → position_or_len p (n ∷ ns) < length (n ∷ ns) → (position_or_len p ns < length ns → (m : List ℕ) × (slice_get ns (position_or_len p ns) ≡ Some m) × (p m ≡ true))
        → (m : List ℕ) × (slice_get (n ∷ ns) (position_or_len p (n ∷ ns)) ≡ Some m) × (p m ≡ true)
    go true is lt rest = (n, ap (slice_get (n ∷ ns)) (count_true p n ns is), is)
    go false is lt rest =
        let e : position_or_len p (n ∷ ns) ≡ suc (position_or_len p ns) = count_false p n ns is in
        let z : length (n ∷ ns) ≡ suc (length ns) = omega arith in
        let q = rest (omega arith) in
        (q.0, ap (slice_get (n ∷ ns)) e ∙ q.1, q.2)

-- numbers that rise stand once
once : (ns : List DeclNo) → Rising ns → (n m : ℕ) (d : DeclNo) → slice_get ns n ≡ Some d → slice_get ns m ≡ Some d → n ≡ m
once ns rises n m d at to = go (nat_lt n m) refl (nat_lt m n) refl
  where
    go : (a : Bool) → nat_lt n m ≡ a → (c : Bool) → nat_lt m n ≡ c → n ≡ m
    go true lt c e = let P : n < m = grind (arith, nat_tests) in let z : d.0 < d.0 = rises n m d d at to P in absurd (omega arith)
    go false over true lt = let P : m < n = grind (arith, nat_tests) in let z : d.0 < d.0 = rises m n d d to at P in absurd (omega arith)
    go false over false under = let P : n ≡ m = grind (arith, nat_tests) in P

-- what a block finds has the name by which it is found
pub names_found : (b : BuildingOf) (ts : List Text) (os : List Open) → Fine b ts os → NamesFound b.tables
names_found b ts os f k name d is = go (slice_get b.tables.blocks k) refl is
  where
    go : (o : Option BlockOf) → slice_get b.tables.blocks k ≡ o → declared_in o name ≡ Some d → (row : Declaration) × (slice_get b.tables.declarations d.0 ≡ Some row) × (row.name ≡ name) × (row.block ≡ k)
    go None at found = absurd (cc)
    go (Some block) at found =
        let own = f.own k d (subst (λ o. Among d (numbers_in o)) (sym at) (among_at block.numbers (position_or_len (bytes_eq name) block.names) d q.1)) in
        (own.0, own.1, same own.0 (subst (λ o. declared_in o own.0.name ≡ Some d) at (subst (λ j. declared_in (slice_get b.tables.blocks j) own.0.name ≡ Some d) own.2 (f.finds d.0 own.0 own.1 own.3))), own.2)
      where
        q : (position_or_len (bytes_eq name) block.names < length block.names) × (slice_get block.numbers (position_or_len (bytes_eq name) block.names) ≡ Some d)
        q = found_at (bytes_eq name) block.names block.numbers d found

        same_name : (x y : List ℕ) → Some x ≡ Some y → x ≡ y
        same_name x y e = cc

        same : (own : Declaration) → declared_in (Some block) own.name ≡ Some d → own.name ≡ name
        same own named =
            let p = found_at (bytes_eq own.name) block.names block.numbers d named in
            let here = name_there (bytes_eq name) block.names q.0 in
            let there = name_there (bytes_eq own.name) block.names p.0 in
            let place : position_or_len (bytes_eq own.name) block.names ≡ position_or_len (bytes_eq name) block.names =
            once block.numbers (subst (λ o. Rising (numbers_in o)) at (f.rising k)) (position_or_len (bytes_eq own.name) block.names) (position_or_len (bytes_eq name) block.names) d p.1 q.1 in
            let one : there.0 ≡ here.0 = same_name there.0 here.0 (sym there.1 ∙ ap (slice_get block.names) place ∙ here.1) in
            (bytes_eq-Decides own.name there.0).0 there.2 ∙ one ∙ sym ((bytes_eq-Decides name here.0).0 here.2)

module _ (b c : BuildingOf) (New : ℕ → Declaration → Type 0) (s : Step b c New) (ts : List Text) where
  pub step_keeps : (n : ℕ) (x : Text) → slice_get ts n ≡ Some x → (fixed (slice_get c.tables.blocks n) ≡ fixed (slice_get b.tables.blocks n)) × (slice_get ts n ≡ Some x)
  step_keeps n x is = (s.fixes n, is)

  pub step_fine : (os : List Open) → Fine b ts os → Fine c ts os
  step_fine os f = record {
    size = s.size ∙ f.size;
    stack = subst (λ z. Stack c.tables.blocks ts z os) (sym s.current) (stack_kept b.tables.blocks c.tables.blocks ts ts step_keeps os b.current f.stack);
    nested = λ t u is. f.nested t u (sym (out t) ∙ is);
    levels = λ t u is.
        level t ∙ f.levels t u (sym (out t) ∙ is) ∙ ap (deeper_in (slice_get b.tables.blocks t)) (sym (level u))
        ∙ sym (same_deeper (slice_get c.tables.blocks t) (slice_get b.tables.blocks t) (level_of_row (slice_get c.tables.blocks u)) (s.fixes t));
    tops = λ t. subst TopFixed (sym (s.fixes t)) (f.tops t);
    kinds = λ t. same_kind (slice_get c.tables.blocks t) (slice_get b.tables.blocks t) (slice_get ts t) (s.fixes t) (f.kinds t);
    listed = λ d row is l. listed d row l (s.rows d row is);
    evens = s.evens f.evens;
    finds = λ d row is l. finds d row l (s.rows d row is);
    own = λ k d a. own k d (s.fewer k d a);
    rising = λ k. rising k (s.lists k);
    based = λ k. same_base (slice_get c.tables.blocks k) (slice_get b.tables.blocks k) (s.fixes k) ∙ f.based k ∙ sym (same_own_base (slice_get c.tables.blocks k) (slice_get b.tables.blocks k) (s.fixes k));
    bare = s.bare f.bare;
    known = s.knows (names_found b ts os f) f.known;
    standards = λ k which is. in_group_kept b.tables.blocks c.tables.blocks ts ts step_keeps k which (f.standards k which is);
    headed = λ n p e. headed_kept b.tables.blocks c.tables.blocks ts ts step_keeps p n (f.headed n p (s.spells n p e));
    textless = λ k. same_textless (slice_get c.tables.blocks k) (slice_get b.tables.blocks k) (s.fixes k) ∙ f.textless k;
    named = λ k i name d x y. (let old = f.named k i name d (subst (λ (z : Brings). slice_get z.names i ≡ Some name) (s.brings k) x) (subst (λ (z : Brings). slice_get z.numbers i ≡ Some d) (s.brings k) y) in let new = s.stays d.0 old.0 old.1 in (new.0, new.1, new.2.name ∙ old.2));
    brought = λ k d a. (let old = f.brought k d (subst (λ z. Among d z) (sym (brings_numbers (slice_get c.tables.blocks k)) ∙ ap (λ (z : Brings). z.numbers) (s.brings k) ∙ brings_numbers (slice_get b.tables.blocks k)) a) in let new = s.stays d.0 old.0 old.1 in (new.0, new.1, new.2.block ∙ old.2));
  }
    where
      out : (t : ℕ) → around (slice_get c.tables.blocks t) ≡ around (slice_get b.tables.blocks t)
      out t = same_around (slice_get c.tables.blocks t) (slice_get b.tables.blocks t) (s.fixes t)

      level : (t : ℕ) → level_of_row (slice_get c.tables.blocks t) ≡ level_of_row (slice_get b.tables.blocks t)
      level t = same_level (slice_get c.tables.blocks t) (slice_get b.tables.blocks t) (s.fixes t)

      listed : (d : ℕ) (row : Declaration) → row.listed ≡ true → RowIs b c New d row
          → Among (record { 0 = d }) (numbers_in (slice_get c.tables.blocks row.block))
      listed d row l (inl q) = s.more row.block (record { 0 = d }) (subst (λ z. Among (record { 0 = d }) (numbers_in (slice_get b.tables.blocks z))) (sym q.2.block) (f.listed d q.0 q.1 (sym q.2.listed ∙ l)))
      listed d row l (inr q) = (q.1 l).0

      finds : (d : ℕ) (row : Declaration) → row.listed ≡ true → RowIs b c New d row
          → declared_in (slice_get c.tables.blocks row.block) row.name ≡ Some (record { 0 = d })
      finds d row l (inl q) =
          subst (λ z. declared_in (slice_get c.tables.blocks z) row.name ≡ Some (record { 0 = d })) (sym q.2.block)
          (subst (λ z. declared_in (slice_get c.tables.blocks q.0.block) z ≡ Some (record { 0 = d })) (sym q.2.name) (s.looks q.0.block q.0.name (record { 0 = d }) (f.finds d q.0 q.1 (sym q.2.listed ∙ l))))
      finds d row l (inr q) = (q.1 l).1 f.evens

      own : (k : ℕ) (d : DeclNo) → Among d (numbers_in (slice_get b.tables.blocks k)) ⊎ ((row : Declaration) × (slice_get c.tables.declarations d.0 ≡ Some row) × (row.block ≡ k) × (row.listed ≡ true)) → (row : Declaration) × (slice_get c.tables.declarations d.0 ≡ Some row) × (row.block ≡ k) × (row.listed ≡ true)
      own k d (inl a) = let old = f.own k d a in let new = s.stays d.0 old.0 old.1 in (new.0, new.1, new.2.block ∙ old.2, new.2.listed ∙ old.3)
      own k d (inr q) = q

      rising : (k : ℕ) → Listed (length b.tables.declarations) (numbers_in (slice_get b.tables.blocks k)) (numbers_in (slice_get c.tables.blocks k)) → Rising (numbers_in (slice_get c.tables.blocks k))
      rising k (inl e) = subst Rising (sym e) (f.rising k)
      rising k (inr e) = subst Rising (sym e) (more_rise b.tables.declarations (numbers_in (slice_get b.tables.blocks k)) (f.rising k) (λ d a. let o = f.own k d a in slice_get_within b.tables.declarations d.0 o.0 o.1))

  pub step_rows : ((d : ℕ) (row : Declaration) → New d row → RowOf c.tables.blocks ts (slice_get ts row.block) d row) → Rows b ts → Rows c ts
  step_rows new f d row is = go (s.rows d row is)
    where
      go : RowIs b c New d row → RowOf c.tables.blocks ts (slice_get ts row.block) d row
      go (inl q) =
          subst (λ z. RowOf c.tables.blocks ts (slice_get ts z) d row) (sym q.2.block)
          (changed_row c.tables.blocks ts (slice_get ts q.0.block) d q.0 row q.2 (row_kept b.tables.blocks c.tables.blocks ts ts step_keeps d q.0 (f d q.0 q.1)))
      go (inr q) = new d row q.0

-- ---- a block begins

pub more_text : (ts us : List Text) (n : ℕ) (x : Text) → slice_get ts n ≡ Some x → slice_get (ts ++ us) n ≡ Some x
more_text [] us n x is = absurd (cc)
more_text (t ∷ ts) us zero x is = is
more_text (t ∷ ts) us (suc n) x is = more_text ts us n x is

pub row_text : (ts : List Text) (x : Text) → slice_get (ts ++ x ∷ []) (length ts) ≡ Some x
row_text [] x = refl
row_text (t ∷ ts) x = let e : length (t ∷ ts) ≡ suc (length ts) = omega arith in ap (slice_get ((t ∷ ts) ++ x ∷ [])) e ∙ row_text ts x

text_other : (ts : List Text) (x : Text) (k : ℕ) → nat_eq k (length ts) ≡ false → slice_get (ts ++ x ∷ []) k ≡ slice_get ts k
text_other [] x zero other = absurd (cc)
text_other [] x (suc k) other = refl
text_other (t ∷ ts) x zero other = refl
text_other (t ∷ ts) x (suc k) other = text_other ts x k (let e : length (t ∷ ts) ≡ suc (length ts) = omega arith in let P : nat_eq k (length ts) ≡ false = grind (arith, nat_tests) in P)

pub some_eq : {A : Type 0} (a b : A) → Some a ≡ Some b → a ≡ b
some_eq a b e = cc

-- what is no standard class has no base before the classes of prefixes are known
abbrev pub Ordinary : Text → Type 0
Ordinary (StandardText which) = ⊥
Ordinary _ = Unit {0}

plain_base : (k : BlockKind) (o : Option ℕ) → PlainKind k → base_by k o ≡ None
plain_base kind.Program o p = refl
plain_base kind.SubBlock o p = refl
plain_base kind.Procedure o p = absurd p
plain_base kind.Class o p = absurd p
plain_base kind.Prefixed o p = absurd p
plain_base kind.Connection o p = absurd p
plain_base (kind.StandardClass which) o p = absurd p

pub ordinary_base : (row : BlockOf) (x : Text) → KindOf row.kind x → Ordinary x → own_base (Some row) ≡ None
ordinary_base row (BlockText i ds ss) k o = plain_base row.kind row.encloser k
ordinary_base row (ProcedureText result h a) k o = ap (λ z. base_by z row.encloser) k
ordinary_base row (ClassText prefix h ds ss) k o = ap (λ z. base_by z row.encloser) k
ordinary_base row (PrefixedText class es ds ss) k o = ap (λ z. base_by z row.encloser) k
ordinary_base row ConnectionText k o = ap (λ z. base_by z row.encloser) k
ordinary_base row (StandardText which) k o = absurd o

plain_first : (k : BlockKind) (n : ℕ) → PlainKind k → standard_first k n ≡ 0
plain_first kind.Program n p = refl
plain_first kind.SubBlock n p = refl
plain_first kind.Procedure n p = absurd p
plain_first kind.Class n p = absurd p
plain_first kind.Prefixed n p = absurd p
plain_first kind.Connection n p = absurd p
plain_first (kind.StandardClass which) n p = absurd p

ordinary_first : (row : BlockOf) (x : Text) → KindOf row.kind x → Ordinary x → first_or_none (Some row) ≡ 0
ordinary_first row (BlockText i ds ss) k o = plain_first row.kind row.first k
ordinary_first row (ProcedureText result h a) k o = ap (λ z. standard_first z row.first) k
ordinary_first row (ClassText prefix h ds ss) k o = ap (λ z. standard_first z row.first) k
ordinary_first row (PrefixedText class es ds ss) k o = ap (λ z. standard_first z row.first) k
ordinary_first row ConnectionText k o = ap (λ z. standard_first z row.first) k
ordinary_first row (StandardText which) k o = absurd o

-- a new block inside the innermost open one, whose text comes next
module _ (b : BuildingOf) (new : BlockOf) (places : List (Option ℕ)) (ts : List Text) (x : Text) where
  abbrev pub With : BuildingOf
  With = record b { tables = record b.tables { blocks = b.tables.blocks ++ new ∷ []; places = places }; current = Some (length b.tables.blocks) }

  pub begun_keeps : (os : List Open) → Fine b ts os → (n : ℕ) (y : Text) → slice_get ts n ≡ Some y → (fixed (slice_get (b.tables.blocks ++ new ∷ []) n) ≡ fixed (slice_get b.tables.blocks n)) × (slice_get (ts ++ x ∷ []) n ≡ Some y)
  begun_keeps os f n y is =
      let lt : n < length ts = slice_get_within ts n y is in
      let same : length b.tables.blocks ≡ length ts = f.size in
      (ap fixed (more_other b.tables.blocks new n (let P : nat_eq n (length b.tables.blocks) ≡ false = grind (arith, nat_tests) in P)), more_text ts (x ∷ []) n y is)

  pub begun_fine : (owed : List Mark) (os : List Open) → new.encloser ≡ b.current → new.numbers ≡ [] → new.names ≡ [] → ((u : ℕ) → b.current ≡ Some u → new.level ≡ deeper new.kind (level_of_row (slice_get b.tables.blocks u))) → (b.current ≡ None → new.level ≡ 1) → KindIs (Some new) (Some x) → extras_in (Some new) ≡ no_extras → new.base ≡ None → brings_of (Some new) ≡ brings_of None → new.prefix ≡ None → Ordinary x
      → Fine b ts os → Fine With (ts ++ x ∷ []) (item x owed ∷ os)
  begun_fine owed os out none nameless level top fits without bottom unbrought unheaded ordinary f = record {
    size = length-append bs (new ∷ []) ∙ (let e : length bs ≡ length ts = f.size in ap (λ z. z + 1) e) ∙ sym (length-append ts (x ∷ []));
    stack = (length bs, refl, at, subst (λ z. Stack (bs ++ new ∷ []) (ts ++ x ∷ []) z os) (sym (here ∙ out)) (stack_kept bs (bs ++ new ∷ []) ts (ts ++ x ∷ []) (begun_keeps os f) os b.current f.stack));
    nested = λ t u is. nested t u (nat_eq t (length bs)) refl is;
    levels = λ t u is. levels t u (nat_eq t (length bs)) refl is;
    tops = λ t. tops t (nat_eq t (length bs)) refl;
    kinds = λ t. kinds t (nat_eq t (length bs)) refl;
    listed = λ d row is l. listed d row (nat_eq row.block (length bs)) refl (f.listed d row is l);
    evens = λ j. evens j (nat_eq j (length bs)) refl;
    finds = λ d row is l. finds row (record { 0 = d }) (nat_eq row.block (length bs)) refl (f.finds d row is l);
    own = λ k d a. own k d (nat_eq k (length bs)) refl a;
    rising = λ k. rising k (nat_eq k (length bs)) refl;
    based = λ k. kept_more base_in bs new bottom k ∙ f.based k ∙ sym (kept_more own_base bs new (ordinary_base new x fits ordinary) k);
    standards = λ k which is. standards k which (last_cases ts x k (StandardText which) is);
    headed = λ n p e. headed_kept bs (bs ++ new ∷ []) ts (ts ++ x ∷ []) (begun_keeps os f) p n (f.headed n p (sym (kept_more spelt_before bs new (ap spelt_as unheaded) n) ∙ e));
    textless = λ k. kept_more first_or_none bs new (ordinary_first new x fits ordinary) k ∙ f.textless k;
    brought = λ k d a. f.brought k d (subst (λ z. Among d z) (kept_more brought_of bs new (ap (λ (z : Brings). z.numbers) unbrought) k) a);
    named = λ k. subst (Named b.tables.declarations) (sym (kept_more brings_of bs new unbrought k)) (f.named k);
    bare = record { blocks = λ k. kept_more extras_in bs new without k ∙ f.bare.blocks k };
    known = f.known;
  }
    where
      bs : List BlockOf
      bs = b.tables.blocks

      at : slice_get (ts ++ x ∷ []) (length bs) ≡ Some x
      at = ap (slice_get (ts ++ x ∷ [])) f.size ∙ row_text ts x

      here : around (slice_get (bs ++ new ∷ []) (length bs)) ≡ new.encloser
      here = ap around (more_here bs new)

      is_new : (t : ℕ) → nat_eq t (length bs) ≡ true → slice_get (bs ++ new ∷ []) t ≡ Some new
      is_new t e = let same : t ≡ length bs = grind (arith, nat_tests) in ap (slice_get (bs ++ new ∷ [])) same ∙ more_here bs new

      within : (u : ℕ) → b.current ≡ Some u → u < length bs
      within u is = go os f.stack
        where
          go : (os : List Open) → Stack bs ts b.current os → u < length bs
          go [] h = absurd (let e : None ≡ Some u = sym h ∙ is in cc)
          go (o ∷ os) h =
              let same : h.0 ≡ u = some_eq h.0 u (sym h.1 ∙ is) in
              let lt : h.0 < length ts = slice_get_within ts h.0 o.text h.2 in
              let e : length bs ≡ length ts = f.size in omega arith

      nested : (t u : ℕ) (c : Bool) → nat_eq t (length bs) ≡ c → around (slice_get (bs ++ new ∷ []) t) ≡ Some u → u < t
      nested t u true e is =
          let same : t ≡ length bs = grind (arith, nat_tests) in
          let lt : u < length bs = within u (sym out ∙ sym (ap around (is_new t e)) ∙ is) in omega arith
      nested t u false e is = f.nested t u (sym (ap around (more_other bs new t e)) ∙ is)

      level_old : (u : ℕ) → u < length bs → level_of_row (slice_get (bs ++ new ∷ []) u) ≡ level_of_row (slice_get bs u)
      level_old u lt = ap level_of_row (more_other bs new u (let P : nat_eq u (length bs) ≡ false = grind (arith, nat_tests) in P))

      bounded : (t u : ℕ) → around (slice_get bs t) ≡ Some u → u < length bs
      bounded t u is = go (slice_get bs t) refl is
        where
          go : (o : Option BlockOf) → slice_get bs t ≡ o → around o ≡ Some u → u < length bs
          go None e is' = absurd (cc)
          go (Some row) e is' = let lt : t < length bs = slice_get_within bs t row e in let le : u < t = f.nested t u is in omega arith

      levels : (t u : ℕ) (c : Bool) → nat_eq t (length bs) ≡ c → around (slice_get (bs ++ new ∷ []) t) ≡ Some u → level_of_row (slice_get (bs ++ new ∷ []) t) ≡ deeper_in (slice_get (bs ++ new ∷ []) t) (level_of_row (slice_get (bs ++ new ∷ []) u))
      levels t u true e is =
          let cur : b.current ≡ Some u = sym out ∙ sym (ap around (is_new t e)) ∙ is in
          ap level_of_row (is_new t e) ∙ level u cur ∙ ap (deeper new.kind) (sym (level_old u (within u cur))) ∙ sym (ap (λ o. deeper_in o (level_of_row (slice_get (bs ++ new ∷ []) u))) (is_new t e))
      levels t u false e is =
          let was : around (slice_get bs t) ≡ Some u = sym (ap around (more_other bs new t e)) ∙ is in
          ap level_of_row (more_other bs new t e) ∙ f.levels t u was ∙ ap (deeper_in (slice_get bs t)) (sym (level_old u (bounded t u was)))
          ∙ sym (ap (λ o. deeper_in o (level_of_row (slice_get (bs ++ new ∷ []) u))) (more_other bs new t e))

      tops : (t : ℕ) (c : Bool) → nat_eq t (length bs) ≡ c → TopFixed (fixed (slice_get (bs ++ new ∷ []) t))
      tops t true e = subst (λ o. TopFixed (fixed o)) (sym (is_new t e)) (λ none. top (sym out ∙ none))
      tops t false e = subst (λ o. TopFixed (fixed o)) (sym (more_other bs new t e)) (f.tops t)

      kinds : (t : ℕ) (c : Bool) → nat_eq t (length bs) ≡ c → KindIs (slice_get (bs ++ new ∷ []) t) (slice_get (ts ++ x ∷ []) t)
      kinds t true e =
          let same : t ≡ length bs = grind (arith, nat_tests) in
          subst (λ z. KindIs z (slice_get (ts ++ x ∷ []) t)) (sym (is_new t e)) (subst (λ z. KindIs (Some new) z) (sym (ap (slice_get (ts ++ x ∷ [])) same ∙ at)) fits)
      kinds t false e =
          subst (λ z. KindIs z (slice_get (ts ++ x ∷ []) t)) (sym (more_other bs new t e)) (subst (λ z. KindIs (slice_get bs t) z) (sym (text_other ts x t (ap (nat_eq t) (sym f.size) ∙ e))) (f.kinds t))

      listed : (d : ℕ) (row : Declaration) (c : Bool) → nat_eq row.block (length bs) ≡ c → Among (record { 0 = d }) (numbers_in (slice_get bs row.block)) → Among (record { 0 = d }) (numbers_in (slice_get (bs ++ new ∷ []) row.block))
      listed d row true e a = absurd (beyond (slice_get bs row.block) refl a)
        where
          beyond : (o : Option BlockOf) → slice_get bs row.block ≡ o → Among (record { 0 = d }) (numbers_in o) → ⊥
          beyond None is a = elim a [ ]
          beyond (Some found) is a = let lt : row.block < length bs = slice_get_within bs row.block found is in let same : row.block ≡ length bs = grind (arith, nat_tests) in omega arith
      listed d row false e a = subst (λ z. Among (record { 0 = d }) (numbers_in z)) (sym (more_other bs new row.block e)) a

      evens : (j : ℕ) (c : Bool) → nat_eq j (length bs) ≡ c → Even (slice_get (bs ++ new ∷ []) j)
      evens j true e = subst Even (sym (is_new j e)) (ap length nameless ∙ sym (ap length none))
      evens j false e = subst Even (sym (more_other bs new j e)) (f.evens j)

      finds : (row : Declaration) (d : DeclNo) (c : Bool) → nat_eq row.block (length bs) ≡ c → declared_in (slice_get bs row.block) row.name ≡ Some d → declared_in (slice_get (bs ++ new ∷ []) row.block) row.name ≡ Some d
      finds row d true e is = absurd (beyond (slice_get bs row.block) refl is)
        where
          beyond : (o : Option BlockOf) → slice_get bs row.block ≡ o → declared_in o row.name ≡ Some d → ⊥
          beyond None at is = cc
          beyond (Some found) at is = let lt : row.block < length bs = slice_get_within bs row.block found at in let same : row.block ≡ length bs = grind (arith, nat_tests) in omega arith
      finds row d false e is = ap (λ z. declared_in z row.name) (more_other bs new row.block e) ∙ is

      standards : (k : ℕ) (which : StandardClass) → (slice_get ts k ≡ Some (StandardText which)) ⊎ ((k ≡ length ts) × (x ≡ StandardText which)) → InGroup (bs ++ new ∷ []) (ts ++ x ∷ []) k which
      standards k which (inl q) = in_group_kept bs (bs ++ new ∷ []) ts (ts ++ x ∷ []) (begun_keeps os f) k which (f.standards k which q)
      standards k which (inr q) = absurd (subst Ordinary q.1 ordinary)

      own : (k : ℕ) (d : DeclNo) (c : Bool) → nat_eq k (length bs) ≡ c → Among d (numbers_in (slice_get (bs ++ new ∷ []) k)) → (row : Declaration) × (slice_get b.tables.declarations d.0 ≡ Some row) × (row.block ≡ k) × (row.listed ≡ true)
      own k d true e a = let empty : Among d [] = subst (λ z. Among d z) none (subst (λ z. Among d (numbers_in z)) (is_new k e) a) in absurd (elim empty [ ])
      own k d false e a = f.own k d (subst (λ z. Among d (numbers_in z)) (more_other bs new k e) a)

      nothing_rises : Rising []
      nothing_rises n m d e at to lt = absurd (cc)

      rising : (k : ℕ) (c : Bool) → nat_eq k (length bs) ≡ c → Rising (numbers_in (slice_get (bs ++ new ∷ []) k))
      rising k true e = subst Rising (sym (ap numbers_in (is_new k e) ∙ none)) nothing_rises
      rising k false e = subst Rising (sym (ap numbers_in (more_other bs new k e))) (f.rising k)

  pub begun_rows : (os : List Open) → Fine b ts os → Rows b ts → Rows With (ts ++ x ∷ [])
  begun_rows os f g d row is = row_kept b.tables.blocks (b.tables.blocks ++ new ∷ []) ts (ts ++ x ∷ []) (begun_keeps os f) d row (g d row is)

-- both together
pub record Agree (b : BuildingOf) (ts : List Text) (os : List Open) : Type 0 where
  pub fine : Fine b ts os
  pub rows : Rows b ts
