-- What a command makes of a source: for `run` a program that can be run, for `compile` and `list` one whose code is written, for `check` that no
-- rule refuses it, for `print` its canonical text, for `xref` its cross references, and for each the rule that refuses it, with the line. `print`
-- asks the rules of spelling and of the grammar alone.
use Rattle.std.specs.Prelude.{◌≡◌, ℕ, List, Result, Ok, Err, Option, slice_index_or, ⊤}
use Rattle.sim_base.specs.Place.{line_at}
use Rattle.sim_base.specs.declared.numbering.Line.{Line}
use Rattle.sim_base.specs.declared.rule.Rule.{Rule}
use Rattle.sim_base.specs.declared.rule.Rule.TheVariants.{UnexpectedToken, NestedTooDeeply}
use Rattle.sim_base.specs.declared.token.Token.{Token}
use Rattle.sim_lexer.specs.Spelling.{Lexed, Reads, Spelled, Broken}
use Rattle.sim_scope.specs.declared.scopes.Denotation.{Denotation}
use Rattle.sim_scope.specs.declared.types.SimType.{SimType}
use Rattle.sim_scope.specs.Source.{Source}
use Rattle.sim_scope.specs.Tables.{Tables}
use Rattle.sim_tree.specs.Claim.{Begins, IsFirstBad, one}
use Rattle.sim_tree.specs.Grammar as g
use Rattle.sim_tree.specs.Reading.{Fails, TooDeep, Unexpected, finish}
use Rattle.sim_tree.specs.Syntax.{Program}
use Rattle.sim_tree.specs.SyntaxOfProgram.{program_syntax}
use Rattle.sim_tree.specs.Tree.{IsTree, limit}
use Rattle.sim_tree.specs.declared.program.Program.{Program as Tree}
use Rattle.sim_print.specs.Canonical.{canonical_text}
use Rattle.sim_static.specs.Check.{Allowed, Checked, Refused, check_of}
use Rattle.sim_built.specs.Allowed.{IsChecked}
use Rattle.sim_run.specs.RunEnds.{IsRunnable}
use Rattle.sim_xref.specs.Text.{references_text}
use Rattle.sim_driver.specs.declared.compiling.Refusal.{Refusal}
use Rattle.sim_driver.specs.declared.compiling.Refusal.TheVariants as refusal
use Rattle.command_line.specs.declared.words.Command.{Command}
use Rattle.command_line.specs.declared.words.Command.TheVariants.{Compile, Listing, Print, References, Run}

pub data Compiled : Type 0 where
  Runnable : Source → Compiled
  -- its code is written, as a code file or as a listing
  Coded : Source → Compiled
  Listed : Source → Compiled
  -- no rule refuses it
  Sound : Compiled
  -- a text is written: its canonical text, or its cross references
  Printed : List ℕ → Compiled
  Rejected : Rule → Line → Compiled

abbrev pub token_line : List Token → ℕ → Line
token_line tokens token = (slice_index_or tokens token finish).line

-- what a command makes of a program that is not rejected
abbrev pub BoundCompiles : Command → Source → Compiled → Type 0
BoundCompiles Run s compiled = compiled ≡ Runnable s
BoundCompiles Compile s compiled = compiled ≡ Coded s
BoundCompiles Listing s compiled = compiled ≡ Listed s
BoundCompiles References s compiled = compiled ≡ Printed (references_text s)
BoundCompiles command s compiled = compiled ≡ Sound

-- a tree with its tables, what its identifiers denote and where they are found, and what its expressions are
abbrev pub source_with : Tree → Tables → (uses : List (Option Denotation)) → (found_in : List (Option ℕ)) → (types : List (Option SimType)) → Source
source_with tree tables uses found_in types = record { program = program_syntax tree; tables = tables; uses = uses; found_in = found_in; types = types; lines = tree.lines.items }

-- Of a checked tree: the first static rule that it breaks, at the line of the token that is to blame.
abbrev pub CheckedCompiles : Command → List Token → Tree → Checked → Compiled → Type 0
CheckedCompiles command tokens tree (Refused fault) compiled = compiled ≡ Rejected fault.rule (token_line tokens fault.token.0)
CheckedCompiles command tokens tree (Allowed tables uses found_in types) compiled = BoundCompiles command (source_with tree tables uses found_in types) compiled

-- what a command makes of a tree of these tokens, by the static rules
abbrev pub TreeCompiles : Command → List Token → Tree → Compiled → Type 0
TreeCompiles command tokens tree compiled = CheckedCompiles command tokens tree (check_of tree) compiled

-- what a command makes of a tree: `print` asks no rule of it
abbrev pub WholeCompiles : Command → List Token → Tree → Compiled → Type 0
WholeCompiles Print tokens tree compiled = compiled ≡ Printed (canonical_text (program_syntax tree))
WholeCompiles command tokens tree compiled = TreeCompiles command tokens tree compiled

-- each of two things where the other is
pub record Same (A B : Type 0) : Type 0 where
  pub there : A → B
  pub back : B → A

-- the tree is this program, which is not rejected
abbrev pub TreeBinds : Command → List Token → Tree → Source → Type 0
TreeBinds command tokens tree s = (compiled : Compiled) → Same (TreeCompiles command tokens tree compiled) (BoundCompiles command s compiled)

-- the command rejects the tree
abbrev pub TreeRejects : Command → List Token → Tree → Rule → Line → Type 0
TreeRejects command tokens tree rule line = (compiled : Compiled) → Same (TreeCompiles command tokens tree compiled) (compiled ≡ Rejected rule line)

-- The static rules allow the tree, and it is this program; it is the same for all commands.
abbrev pub CheckBinds : List Token → Tree → Source → Type 0
CheckBinds tokens tree s = (command : Command) (compiled : Compiled) → Same (CheckedCompiles command tokens tree (check_of tree) compiled) (BoundCompiles command s compiled)

abbrev pub CheckRejects : List Token → Tree → Rule → Line → Type 0
CheckRejects tokens tree rule line = (command : Command) (compiled : Compiled) → Same (CheckedCompiles command tokens tree (check_of tree) compiled) (compiled ≡ Rejected rule line)

-- what the grammar makes of tokens: the tree of a program, or the first bad token, or the first that nests too deeply
pub data Parsed : Type 0 where
  Whole : Tree → Parsed
  Bad : ℕ → Parsed
  Deep : ℕ → Parsed

-- Reading the tokens comes to a bad token. Those before it begin a program, and with it they begin none.
pub record IsBad (tokens : List Token) (bad : ℕ) : Type 0 where
  pub comes : Fails limit tokens 0 (one g.Program) 0 (Unexpected bad)
  pub first : IsFirstBad tokens (one g.Program) 0 bad

-- Reading the tokens comes to one that would begin a statement or an expression too deep. Those before it begin a program.
pub record IsDeep (tokens : List Token) (deep : ℕ) : Type 0 where
  pub comes : Fails limit tokens 0 (one g.Program) 0 (TooDeep deep)
  pub before : Begins tokens (one g.Program) 0 deep

abbrev pub IsParsed : List Token → Parsed → Type 0
IsParsed tokens (Whole program) = IsTree tokens program
IsParsed tokens (Bad bad) = IsBad tokens bad
IsParsed tokens (Deep deep) = IsDeep tokens deep

-- what is no program is rejected at the line of the token that is to blame
abbrev pub ParsedCompiles : Command → List Token → Parsed → Compiled → Type 0
ParsedCompiles command tokens (Whole program) compiled = WholeCompiles command tokens program compiled
ParsedCompiles command tokens (Bad bad) compiled = compiled ≡ Rejected UnexpectedToken (token_line tokens bad)
ParsedCompiles command tokens (Deep deep) compiled = compiled ≡ Rejected NestedTooDeeply (token_line tokens deep)

-- what a command makes of tokens
pub record TokensCompile (command : Command) (tokens : List Token) (compiled : Compiled) : Type 0 where
  pub parsed : Parsed
  pub parses : IsParsed tokens parsed
  pub gives : ParsedCompiles command tokens parsed compiled

-- what a command makes of a source that reads so: what it makes of its tokens, or it is rejected at the line of the place that breaks a rule
abbrev pub LexedCompiles : Command → List ℕ → Lexed → Compiled → Type 0
LexedCompiles command source (Spelled tokens) compiled = TokensCompile command tokens compiled
LexedCompiles command source (Broken rule place) compiled = compiled ≡ Rejected rule (record { 0 = line_at source place })

-- what a command makes of a source
pub record SourceCompiles (command : Command) (source : List ℕ) (compiled : Compiled) : Type 0 where
  pub lexed : Lexed
  pub reads : Reads source lexed
  pub compiles : LexedCompiles command source lexed compiled

-- the command rejects the source
abbrev pub SourceRejects : Command → List ℕ → Rule → Line → Type 0
SourceRejects command source rule line = (compiled : Compiled) → Same (SourceCompiles command source compiled) (compiled ≡ Rejected rule line)

abbrev pub TokensReject : Command → List Token → Rule → Line → Type 0
TokensReject command tokens rule line = (compiled : Compiled) → Same (TokensCompile command tokens compiled) (compiled ≡ Rejected rule line)

-- the source has this canonical text
abbrev pub SourcePrints : List ℕ → List ℕ → Type 0
SourcePrints source text = (compiled : Compiled) → Same (SourceCompiles Print source compiled) (compiled ≡ Printed text)

-- the source is this program, which breaks no rule
abbrev pub SourceBinds : Command → List ℕ → Source → Type 0
SourceBinds command source s = (compiled : Compiled) → Same (SourceCompiles command source compiled) (BoundCompiles command s compiled)

-- the static rules allow the tree, and this is its program
abbrev pub ChecksAs : List Token → Tree → Source → Type 0
ChecksAs tokens tree s = CheckBinds tokens tree s × IsChecked tree s

-- the tree is this program, which breaks no rule and can be run
abbrev pub BindsAs : Command → List Token → Tree → Source → Type 0
BindsAs command tokens tree s = TreeBinds command tokens tree s × (IsTree tokens tree → IsRunnable s)

-- the source is this program, which breaks no rule and can be run
abbrev pub IsProgram : Command → List ℕ → Source → Type 0
IsProgram command source s = SourceBinds command source s × IsRunnable s

-- What a step answers, by what is known of its source: the program, or the refusal. Want of memory says nothing of the source.
abbrev pub Answers : {A : Type 0} → (A → Type 0) → (Rule → Line → Type 0) → Result A Refusal → Type 0
Answers accepts rejects (Ok value) = accepts value
Answers accepts rejects (Err (refusal.Broken rule line)) = rejects rule line
Answers accepts rejects (Err refusal.Memory) = ⊤
