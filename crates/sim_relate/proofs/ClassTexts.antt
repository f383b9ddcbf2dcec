-- What code has of a class or a prefixed block: the record of its block, and that of its class.
use Rattle.std.proofs.Common.{◌≡◌, ◌≢◌, ℕ, zero, suc, Bool, true, false, Option, Some, None, refl, sym, ap, ◌∙◌}
use Rattle.std.specs.Prelude.{not, slice_get}
use Rattle.sim_scope.specs.declared.types.StandardClass.{StandardClass}
use Rattle.sim_scope.specs.declared.types.StandardClass.TheVariants as standard
use Rattle.sim_scope.specs.Source.{Source}
use Rattle.sim_tree.specs.Syntax.{Declarations, NoDeclaration, NoStatement, Statements}
use Rattle.sim_code.specs.declared.code.BlockKind.{BlockKind}
use Rattle.sim_code.specs.declared.code.BlockKind.TheVariants as block_kind
use Rattle.sim_code.specs.declared.code.CodeType.TheVariants as type
use Rattle.sim_code.specs.Code.{BlockOf, ClassOf, CodeOf}
use Rattle.sim_code.specs.Machine as machine
use Rattle.sim_meaning.specs.Closing.{class_parameters}
use Rattle.sim_meaning.specs.Entries.{cells_from, numbers_of}
use Rattle.sim_meaning.specs.Entries as entries
use Rattle.sim_meaning.specs.Levels.{has_levels, is_class, is_process_class, is_standard_text, level_made, writes_inner}
use Rattle.sim_meaning.specs.Pending.{Level}
use Rattle.sim_meaning.specs.Texts.{BlockText, ClassText, ConnectionText, PrefixedText, ProcedureText, StandardText, Text, text}
use Rattle.codegen_expr.specs.Sites.{block_number, cells_in}
use Rattle.codegen.specs.Compiled.{ClassIs, ClassTextOf, CodeHas, Compiled, LevelOf, Marked, ProcessOf, RecordOf, StandardTextOf, mark_of, parameters_of}
use Rattle.sim_relate.proofs.Known.{is_process_in}

-- the kinds of blocks that have levels
abbrev pub of_levels : BlockKind → Bool
of_levels block_kind.Object = true
of_levels block_kind.Prefixed = true
of_levels block_kind.SubBlock = false
of_levels block_kind.Procedure = false

-- the code of a level, which is that of the class `process` or another
abbrev pub LevelHas : Source → CodeOf → (text : ℕ) → (process written : Bool) → Declarations → Statements → BlockOf → ClassOf → Type 0
LevelHas s code k false written ds ss b class = LevelOf s code k written ds ss b class
LevelHas s code k true written ds ss b class = ProcessOf s code k b class × (written ≡ false) × (ds ≡ NoDeclaration) × (ss ≡ NoStatement)

pub record HasCode (s : Source) (code : CodeOf) (k : ℕ) (kind : BlockKind) (process written : Bool) (ds : Declarations) (ss : Statements) (b : BlockOf) : Type 0 where
  pub heads : RecordOf s code k kind type.Nothing b
  pub marked : Marked kind (mark_of (text s k)) b.entry
  pub class : ClassOf
  pub is : ClassIs s code k b class
  pub level : LevelHas s code k process written ds ss b class

pub record ClassHas (s : Source) (code : CodeOf) (k : ℕ) : Type 0 where
  pub levels : has_levels (text s k) ≡ true
  pub kind : BlockKind
  pub levelled : of_levels kind ≡ true
  pub of_class : is_class (text s k) ≡ true → kind ≡ block_kind.Object
  pub of_block : is_class (text s k) ≡ false → kind ≡ block_kind.Prefixed
  pub written : Bool
  pub process : Bool
  pub process_is : is_process_in s k ≡ process
  pub declarations : Declarations
  pub statements : Statements
  pub made : (x : Level) → level_made s k (text s k) ≡ Some x → record { text = k; declarations = declarations; statements = statements; inner_last = not written; process = process } ≡ x
  pub cells : cells_in s k (text s k) ≡ cells_from s (numbers_of s k)
  pub parameters : parameters_of s k (text s k) ≡ class_parameters s (Some k)
  pub passes : (free : Bool) → entries.passes (text s k) free ≡ machine.passes kind free
  pub not_first : kind ≡ block_kind.Object → k ≢ 0
  pub block : BlockOf
  pub found : slice_get code.blocks (block_number s k) ≡ Some block
  pub has : HasCode s code k kind process written declarations statements block

some_level : (x y : Level) → Some x ≡ Some y → x ≡ y
some_level x y e = cc (e)

as_class : (s : Source) (code : CodeOf) (k : ℕ) (kind : BlockKind) (written : Bool) (ds : Declarations) (ss : Statements) (b : BlockOf) → ClassTextOf s code k kind written ds ss b → HasCode s code k kind false written ds ss b
as_class s code k kind written ds ss b x = record { heads = x.heads; marked = x.marked; class = x.class; is = x.is; level = x.level }

-- a class of SIMSET has the code of a class with nothing of its own, and `process` code of its own
standard_code : (s : Source) (code : CodeOf) (k : ℕ) (which : StandardClass) (b : BlockOf) → text s k ≡ Some (StandardText which) → StandardTextOf s code k which b → HasCode s code k block_kind.Object (is_process_class which) false NoDeclaration NoStatement b
standard_code s code k standard.Process b is x = record { heads = x.heads; marked = x.marked ∙ sym (ap mark_of is); class = x.class; is = x.is; level = (x.level, refl, refl, refl) }
standard_code s code k standard.Linkage b is x = as_class s code k block_kind.Object false NoDeclaration NoStatement b x
standard_code s code k standard.Link b is x = as_class s code k block_kind.Object false NoDeclaration NoStatement b x
standard_code s code k standard.Head b is x = as_class s code k block_kind.Object false NoDeclaration NoStatement b x

-- and the record of its block
pub standard_heads : (s : Source) (code : CodeOf) (k : ℕ) (which : StandardClass) (b : BlockOf) → StandardTextOf s code k which b → RecordOf s code k block_kind.Object type.Nothing b
standard_heads s code k standard.Process b x = x.heads
standard_heads s code k standard.Linkage b x = x.heads
standard_heads s code k standard.Link b x = x.heads
standard_heads s code k standard.Head b x = x.heads

pub class_has : (s : Source) (code : CodeOf) → Compiled s code → (k : ℕ) → has_levels (text s k) ≡ true → ClassHas s code k
class_has s code compiled k e = by k (text s k) refl e (slice_get code.blocks (block_number s k)) refl (λ y f. compiled.each k y f)
  where
    by : (k : ℕ) (x : Option Text) → text s k ≡ x → has_levels x ≡ true → (o : Option BlockOf) → slice_get code.blocks (block_number s k) ≡ o → ((y : Text) → text s k ≡ Some y → CodeHas s code k y o) → ClassHas s code k
    by k None is e o found has = absurd (cc)
    by k (Some (BlockText begin ds ss)) is e o found has = absurd (cc)
    by k (Some (ProcedureText result h' body)) is e o found has = absurd (cc)
    by k (Some ConnectionText) is e o found has = absurd (cc)
    by k (Some (StandardText which)) is e None found has = absurd (has (StandardText which) is)
    by zero (Some (StandardText which)) is e (Some c) found has = absurd (has (StandardText which) is)
    by (suc k) (Some (StandardText which)) is e (Some c) found has = record {
      levels = ap has_levels is;
      kind = block_kind.Object;
      levelled = refl;
      of_class = λ class. refl;
      of_block = λ none. (let other : true ≡ false = sym (ap is_class is) ∙ none in absurd (cc (other)));
      written = false;
      process = is_process_class which;
      process_is = ap (is_standard_text is_process_class) is;
      declarations = NoDeclaration;
      statements = NoStatement;
      made = λ x m. some_level _ x (sym (ap (level_made s (suc k)) is) ∙ m);
      cells = ap (cells_in s (suc k)) is;
      parameters = ap (parameters_of s (suc k)) is;
      passes = λ free. ap (λ z. entries.passes z free) is;
      not_first = λ object zero_is. absurd (cc (zero_is));
      block = c;
      found = found;
      has = standard_code s code (suc k) which c is (has (StandardText which) is);
    }
    by k (Some (ClassText prefix h' ds ss)) is e None found has = absurd (has (ClassText prefix h' ds ss) is)
    by zero (Some (ClassText prefix h' ds ss)) is e (Some c) found has = absurd (has (ClassText prefix h' ds ss) is)
    by (suc k) (Some (ClassText prefix h' ds ss)) is e (Some c) found has = record {
      levels = ap has_levels is;
      kind = block_kind.Object;
      levelled = refl;
      of_class = λ class. refl;
      of_block = λ none. (let other : true ≡ false = sym (ap is_class is) ∙ none in absurd (cc (other)));
      written = writes_inner s (suc k);
      process = false;
      process_is = ap (is_standard_text is_process_class) is;
      declarations = ds;
      statements = ss;
      made = λ x m. some_level _ x (sym (ap (level_made s (suc k)) is) ∙ m);
      cells = ap (cells_in s (suc k)) is;
      parameters = ap (parameters_of s (suc k)) is;
      passes = λ free. ap (λ z. entries.passes z free) is;
      not_first = λ object zero_is. absurd (cc (zero_is));
      block = c;
      found = found;
      has = as_class s code (suc k) block_kind.Object (writes_inner s (suc k)) ds ss c (has (ClassText prefix h' ds ss) is);
    }
    by k (Some (PrefixedText class arguments ds ss)) is e None found has = absurd (has (PrefixedText class arguments ds ss) is)
    by zero (Some (PrefixedText class arguments ds ss)) is e (Some c) found has =
        let program = has (PrefixedText class arguments ds ss) is in
        record {
          levels = ap has_levels is;
          kind = block_kind.Prefixed;
          levelled = refl;
          of_class = λ class. (let other : false ≡ true = sym (ap is_class is) ∙ class in absurd (cc (other)));
          of_block = λ none. refl;
          written = false;
          process = false;
          process_is = ap (is_standard_text is_process_class) is;
          declarations = ds;
          statements = ss;
          made = λ x m. some_level _ x (sym (ap (level_made s 0) is) ∙ m);
          cells = ap (cells_in s 0) is;
          parameters = ap (parameters_of s 0) is;
          passes = λ free. ap (λ z. entries.passes z free) is;
          not_first = λ object. absurd (cc (object));
          block = c;
          found = found;
          has = record { heads = program.heads; marked = tt; class = program.class; is = program.is; level = program.level };
        }
    by (suc k) (Some (PrefixedText class arguments ds ss)) is e (Some c) found has = record {
      levels = ap has_levels is;
      kind = block_kind.Prefixed;
      levelled = refl;
      of_class = λ class. (let other : false ≡ true = sym (ap is_class is) ∙ class in absurd (cc (other)));
      of_block = λ none. refl;
      written = false;
      process = false;
      process_is = ap (is_standard_text is_process_class) is;
      declarations = ds;
      statements = ss;
      made = λ x m. some_level _ x (sym (ap (level_made s (suc k)) is) ∙ m);
      cells = ap (cells_in s (suc k)) is;
      parameters = ap (parameters_of s (suc k)) is;
      passes = λ free. ap (λ z. entries.passes z free) is;
      not_first = λ object zero_is. absurd (cc (zero_is));
      block = c;
      found = found;
      has = as_class s code (suc k) block_kind.Prefixed false ds ss c (has (PrefixedText class arguments ds ss) is);
    }
