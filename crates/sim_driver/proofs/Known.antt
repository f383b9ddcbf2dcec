-- What a command makes of a source, step by step, and that it is one thing at most.
use Rattle.std.proofs.Common.{◌≡◌, ℕ, List, refl, length, Option, Result, OnOk, Ok, Err, subst, sym, ap, ◌∙◌}
use Rattle.sim_base.specs.Place.{line_at}
use Rattle.sim_base.specs.declared.numbering.Line.{Line}
use Rattle.sim_base.specs.declared.numbering.TokenNo.{TokenNo}
use Rattle.sim_base.specs.declared.rule.Rule.{Rule}
use Rattle.sim_base.specs.declared.rule.Rule.TheVariants as rule
use Rattle.sim_base.specs.declared.token.Token.{Token}
use Rattle.sim_expr_parser.specs.declared.refusal.SyntaxRefusal.TheVariants as syntax_refusal
use Rattle.sim_lexer.specs.Spelling.{Lexed, Broken, Reads, Spelled}
use Rattle.sim_lexer.proofs.OneAnswer as spelling
use Rattle.sim_parser.specs.Claim.{Parses}
use Rattle.sim_tree.specs.Reading.{TooDeep, Unexpected}
use Rattle.sim_tree.specs.Syntax.{Program}
use Rattle.sim_tree.specs.SyntaxOfProgram.{program_syntax}
use Rattle.sim_tree.specs.Tree.{IsTree, limit}
use Rattle.sim_tree.specs.declared.program.Program.{Program as Tree}
use Rattle.sim_tree.proofs.Laws.{never_both, one_fault}
use Rattle.sim_scope.specs.declared.bound.Bound.{Bound}
use Rattle.sim_scope.specs.declared.scopes.Denotation.{Denotation}
use Rattle.sim_scope.specs.declared.types.SimType.{SimType}
use Rattle.sim_scope.specs.Source.{Source, source_of}
use Rattle.sim_scope.specs.Tables.{Tables}
use Rattle.sim_print.specs.Canonical.{canonical_text}
use Rattle.sim_static.specs.Check.{Allowed, Checked, Refused, answer, check_of}
use Rattle.sim_built.specs.Allowed.{IsAllowed}
use Rattle.sim_run.specs.RunEnds.{IsRunnable}
use Rattle.sim_driver.specs.Compiling.{Answers, Bad, BindsAs, BoundCompiles, CheckBinds, CheckRejects, ChecksAs, CheckedCompiles, Compiled, Deep, IsBad, IsDeep, IsParsed, LexedCompiles, Parsed, ParsedCompiles, Printed, Rejected, Same, SourceBinds, SourceCompiles, SourcePrints, SourceRejects, TokensCompile, TokensReject, TreeBinds, TreeCompiles, TreeRejects, Whole, WholeCompiles, source_with, token_line}
use Rattle.sim_driver.specs.declared.compiling.Refusal.{Refusal}
use Rattle.sim_driver.specs.declared.compiling.Refusal.TheVariants as refusal
use Rattle.command_line.specs.declared.words.Command.{Command}
use Rattle.command_line.specs.declared.words.Command.TheVariants.{Check, Compile, Listing, Print, References, Run}

-- what holds, holds of an Ok
pub holds_on_ok : {T E P : Type 0} (r : Result T E) → P → OnOk r P
holds_on_ok (Ok x) p = p
holds_on_ok (Err e) p = tt

same_unexpected : (k m : ℕ) → Unexpected k ≡ Unexpected m → k ≡ m
same_unexpected k m e = cc

same_deep : (k m : ℕ) → TooDeep k ≡ TooDeep m → k ≡ m
same_deep k m e = cc

not_both : (k m : ℕ) → Unexpected k ≡ TooDeep m → ⊥
not_both k m e = cc

-- two trees of the same tokens have one syntax
abbrev pub OneSyntax : Type 0
OneSyntax = (tokens : List Token) (p q : Tree) → IsTree tokens p → IsTree tokens q → program_syntax p ≡ program_syntax q

same_checked : OneSyntax → (tokens : List Token) (p q : Tree) → IsTree tokens p → IsTree tokens q → check_of p ≡ check_of q
same_checked one tokens p q x y =
    ap (λ s. answer (length p.lines.items) s) (one tokens p q x y)
    ∙ ap (λ (l : List Line). answer (length l) (program_syntax q)) (x.lines ∙ sym y.lines)

-- they are one program
abbrev source_by : Program → Tables → List (Option Denotation) → List (Option ℕ) → List (Option SimType) → List Line → Source
source_by program tables uses found_in types lines = record { program = program; tables = tables; uses = uses; found_in = found_in; types = types; lines = lines }

abbrev SameSource : Tree → Tree → Type 0
SameSource p q = (tables : Tables) (uses : List (Option Denotation)) (found_in : List (Option ℕ)) (types : List (Option SimType)) → source_with p tables uses found_in types ≡ source_with q tables uses found_in types

same_source : OneSyntax → (tokens : List Token) (p q : Tree) → IsTree tokens p → IsTree tokens q → SameSource p q
same_source one tokens p q x y tables uses found_in types =
    ap (λ s. source_by s tables uses found_in types p.lines.items) (one tokens p q x y)
    ∙ ap (λ (l : List Line). source_by (program_syntax q) tables uses found_in types l) (x.lines ∙ sym y.lines)

-- ---- one thing where the other is

pub same_then : (A B C : Type 0) → Same A B → Same B C → Same A C
same_then A B C f g = record { there = λ a. g.there (f.there a); back = λ c. f.back (g.back c) }

-- where what a command makes is the same, by an equation
pub by_equation : {A : Type 0} (P : A → Type 0) (x y : A) → x ≡ y → Same (P x) (P y)
by_equation P x y e = record { there = λ p. subst P e p; back = λ p. subst P (sym e) p }

itself : (A : Type 0) → Same A A
itself A = record { there = λ a. a; back = λ a. a }

-- ---- trees of the same tokens

move_checked : (command : Command) (tokens : List Token) (p q : Tree) → SameSource p q → (checked : Checked) (c : Compiled) → CheckedCompiles command tokens p checked c → CheckedCompiles command tokens q checked c
move_checked command tokens p q same (Refused fault) c is = is
move_checked command tokens p q same (Allowed tables uses found_in types) c is = subst (λ s. BoundCompiles command s c) (same tables uses found_in types) is

-- a command makes the same of two trees of the same tokens
move_tree : OneSyntax → (command : Command) (tokens : List Token) (p q : Tree) → IsTree tokens p → IsTree tokens q → (c : Compiled) → TreeCompiles command tokens p c → TreeCompiles command tokens q c
move_tree one command tokens p q x y c is =
    subst (λ k. CheckedCompiles command tokens q k c) (same_checked one tokens p q x y) (move_checked command tokens p q (same_source one tokens p q x y) (check_of p) c is)

move_whole : OneSyntax → (command : Command) (tokens : List Token) (p q : Tree) → IsTree tokens p → IsTree tokens q → (c : Compiled) → WholeCompiles command tokens p c → WholeCompiles command tokens q c
move_whole one Run tokens p q x y c is = move_tree one Run tokens p q x y c is
move_whole one Check tokens p q x y c is = move_tree one Check tokens p q x y c is
move_whole one Compile tokens p q x y c is = move_tree one Compile tokens p q x y c is
move_whole one Listing tokens p q x y c is = move_tree one Listing tokens p q x y c is
move_whole one References tokens p q x y c is = move_tree one References tokens p q x y c is
move_whole one Print tokens p q x y c is = is ∙ ap (λ s. Printed (canonical_text s)) (one tokens p q x y)

-- The steps.

-- what a command makes of tokens that have a tree
of_parsed : OneSyntax → (command : Command) (tokens : List Token) (tree : Tree) → IsTree tokens tree → (m : Parsed) (c : Compiled) → IsParsed tokens m → ParsedCompiles command tokens m c → WholeCompiles command tokens tree c
of_parsed one command tokens tree is (Whole p) c x gives = move_whole one command tokens p tree x is c gives
of_parsed one command tokens tree is (Bad m) c x gives = absurd (never_both limit tokens is.reads x.comes)
of_parsed one command tokens tree is (Deep m) c x gives = absurd (never_both limit tokens is.reads x.comes)

pub tree_tokens : OneSyntax → (command : Command) (tokens : List Token) (tree : Tree) (c : Compiled) → IsTree tokens tree → Same (TokensCompile command tokens c) (WholeCompiles command tokens tree c)
tree_tokens one command tokens tree c is = record {
  there = λ t. of_parsed one command tokens tree is t.parsed c t.parses t.gives;
  back = λ gives. record { parsed = Whole tree; parses = is; gives = gives };
}

-- all commands but `print` ask the static rules of it
pub whole_tree : (command : Command) (tokens : List Token) (tree : Tree) (c : Compiled) → (command ≡ Print → ⊥) → Same (WholeCompiles command tokens tree c) (TreeCompiles command tokens tree c)
whole_tree Run tokens tree c asks = itself (TreeCompiles Run tokens tree c)
whole_tree Check tokens tree c asks = itself (TreeCompiles Check tokens tree c)
whole_tree Compile tokens tree c asks = itself (TreeCompiles Compile tokens tree c)
whole_tree Listing tokens tree c asks = itself (TreeCompiles Listing tokens tree c)
whole_tree References tokens tree c asks = itself (TreeCompiles References tokens tree c)
whole_tree Print tokens tree c asks = absurd (asks refl)

-- tokens that the parser refuses
of_bad : (command : Command) (tokens : List Token) (bad : ℕ) → IsBad tokens bad → (m : Parsed) (c : Compiled) → IsParsed tokens m → ParsedCompiles command tokens m c → c ≡ Rejected rule.UnexpectedToken (token_line tokens bad)
of_bad command tokens bad is (Whole p) c x gives = absurd (never_both limit tokens x.reads is.comes)
of_bad command tokens bad is (Bad m) c x gives = gives ∙ ap (λ n. Rejected rule.UnexpectedToken (token_line tokens n)) (same_unexpected m bad (one_fault limit tokens x.comes is.comes))
of_bad command tokens bad is (Deep m) c x gives = absurd (not_both bad m (one_fault limit tokens is.comes x.comes))

of_deep : (command : Command) (tokens : List Token) (deep : ℕ) → IsDeep tokens deep → (m : Parsed) (c : Compiled) → IsParsed tokens m → ParsedCompiles command tokens m c → c ≡ Rejected rule.NestedTooDeeply (token_line tokens deep)
of_deep command tokens deep is (Whole p) c x gives = absurd (never_both limit tokens x.reads is.comes)
of_deep command tokens deep is (Bad m) c x gives = absurd (not_both m deep (one_fault limit tokens x.comes is.comes))
of_deep command tokens deep is (Deep m) c x gives = gives ∙ ap (λ n. Rejected rule.NestedTooDeeply (token_line tokens n)) (same_deep m deep (one_fault limit tokens x.comes is.comes))

pub refused_tokens : (tokens : List Token) (r : Rule) (token : TokenNo) → Parses tokens (Err (syntax_refusal.Broken r token)) → (command : Command) → TokensReject command tokens r (token_line tokens token.0)
refused_tokens tokens rule.UnexpectedToken token says command c =
    let is : IsBad tokens token.0 = record { comes = says.0; first = says.1 } in
    record { there = λ t. of_bad command tokens token.0 is t.parsed c t.parses t.gives; back = λ gives. record { parsed = Bad token.0; parses = is; gives = gives } }
refused_tokens tokens rule.NestedTooDeeply token says command c =
    let is : IsDeep tokens token.0 = record { comes = says.0; before = says.1 } in
    record { there = λ t. of_deep command tokens token.0 is t.parsed c t.parses t.gives; back = λ gives. record { parsed = Deep token.0; parses = is; gives = gives } }
refused_tokens tokens _ token says command c = absurd says

-- a command makes of a source what it makes of its reading
lexed_source : (command : Command) (source : List ℕ) (lexed : Lexed) (c : Compiled) → Reads source lexed → Same (SourceCompiles command source c) (LexedCompiles command source lexed c)
lexed_source command source lexed c spells = record {
  there = λ s. subst (λ l. LexedCompiles command source l c) (spelling.one_reading s.reads spells) s.compiles;
  back = λ is. record { lexed = lexed; reads = spells; compiles = is };
}

pub spelled_source : (command : Command) (source : List ℕ) (tokens : List Token) (c : Compiled) → Reads source (Spelled tokens) → Same (SourceCompiles command source c) (TokensCompile command tokens c)
spelled_source command source tokens c spells = lexed_source command source (Spelled tokens) c spells

-- a source that breaks a rule of its spelling
pub broken_source : (source : List ℕ) (r : Rule) (place : ℕ) → Reads source (Broken r place) → (command : Command) → SourceRejects command source r (record { 0 = line_at source place })
broken_source source r place breaks command c = lexed_source command source (Broken r place) c breaks

-- the refusal of a step is one of the whole
pub refusal_of : {A B : Type 0} (why : Refusal) (accepts : A → Type 0) (also : B → Type 0) (rejects whole : Rule → Line → Type 0)
    → ((r : Rule) (line : Line) → rejects r line → whole r line) → Answers accepts rejects (Err why) → Answers also whole (Err why)
refusal_of (refusal.Broken r line) accepts also rejects whole step is = step r line is
refusal_of refusal.Memory accepts also rejects whole step is = tt

-- the same of a step that ends the whole
pub answers_of : {A : Type 0} (r : Result A Refusal) (accepts also : A → Type 0) (rejects whole : Rule → Line → Type 0)
    → ((x : A) → accepts x → also x) → ((r : Rule) (line : Line) → rejects r line → whole r line) → Answers accepts rejects r → Answers also whole r
answers_of (Ok x) accepts also rejects whole good bad is = good x is
answers_of (Err why) accepts also rejects whole good bad is = refusal_of why accepts also rejects whole bad is

-- the program that the static rules allow
pub bound_checked : (tokens : List Token) (p : Tree) (b : Bound) → b.program ≡ p → check_of p ≡ Allowed b.scopes b.uses.items b.found_in.items b.types.items → CheckBinds tokens p (source_of b)
unfolding source_of
bound_checked tokens p b same allowed command c =
    same_then (CheckedCompiles command tokens p (check_of p) c) (BoundCompiles command (source_with p b.scopes b.uses.items b.found_in.items b.types.items) c) (BoundCompiles command (source_with b.program b.scopes b.uses.items b.found_in.items b.types.items) c)
    (by_equation (λ k. CheckedCompiles command tokens p k c) (check_of p) (Allowed b.scopes b.uses.items b.found_in.items b.types.items) allowed)
    (by_equation (λ (q : Tree). BoundCompiles command (source_with q b.scopes b.uses.items b.found_in.items b.types.items) c) p b.program (sym same))

pub checks_as : (tokens : List Token) (p : Tree) (b : Bound) → b.program ≡ p → check_of p ≡ Allowed b.scopes b.uses.items b.found_in.items b.types.items → ChecksAs tokens p (source_of b)
unfolding source_of
checks_as tokens p b same allowed = (
  bound_checked tokens p b same allowed,
  record { allowed = allowed; program = ap program_syntax same; lines = ap (λ (t : Tree). t.lines.items) same },
)

-- the rule that they say it breaks
pub refused_checked : (tokens : List Token) (p : Tree) (r : Rule) (token : TokenNo) → check_of p ≡ Refused (record { token = token; rule = r }) → CheckRejects tokens p r (token_line tokens token.0)
refused_checked tokens p r token refused command c = by_equation (λ k. CheckedCompiles command tokens p k c) (check_of p) (Refused (record { token = token; rule = r })) refused

-- ---- the steps together

-- tokens that are refused, of a source
pub refused_source : (command : Command) (source : List ℕ) (tokens : List Token) (r : Rule) (line : Line) → Reads source (Spelled tokens) → TokensReject command tokens r line → SourceRejects command source r line
refused_source command source tokens r line spells rejects c =
    same_then (SourceCompiles command source c) (TokensCompile command tokens c) (c ≡ Rejected r line) (spelled_source command source tokens c spells) (rejects c)

whole_source_is : OneSyntax → (source : List ℕ) (tokens : List Token) (tree : Tree) → Reads source (Spelled tokens) → IsTree tokens tree → (command : Command) (c : Compiled) → Same (SourceCompiles command source c) (WholeCompiles command tokens tree c)
whole_source_is one source tokens tree spells is command c =
    same_then (SourceCompiles command source c) (TokensCompile command tokens c) (WholeCompiles command tokens tree c) (spelled_source command source tokens c spells) (tree_tokens one command tokens tree c is)

tree_source : OneSyntax → (command : Command) (source : List ℕ) (tokens : List Token) (tree : Tree) → (command ≡ Print → ⊥) → Reads source (Spelled tokens) → IsTree tokens tree → (c : Compiled) → Same (SourceCompiles command source c) (TreeCompiles command tokens tree c)
tree_source one command source tokens tree asks spells is c =
    same_then (SourceCompiles command source c) (WholeCompiles command tokens tree c) (TreeCompiles command tokens tree c) (whole_source_is one source tokens tree spells is command c) (whole_tree command tokens tree c asks)

pub printed_source : OneSyntax → (source : List ℕ) (tokens : List Token) (tree : Tree) → Reads source (Spelled tokens) → IsTree tokens tree → SourcePrints source (canonical_text (program_syntax tree))
printed_source one source tokens tree spells is c = whole_source_is one source tokens tree spells is Print c

pub bound_source : OneSyntax → (command : Command) (source : List ℕ) (tokens : List Token) (tree : Tree) (s : Source) → (command ≡ Print → ⊥) → Reads source (Spelled tokens) → IsTree tokens tree → TreeBinds command tokens tree s → SourceBinds command source s
bound_source one command source tokens tree s asks spells is binds c =
    same_then (SourceCompiles command source c) (TreeCompiles command tokens tree c) (BoundCompiles command s c) (tree_source one command source tokens tree asks spells is c) (binds c)

pub rejected_source : OneSyntax → (command : Command) (source : List ℕ) (tokens : List Token) (tree : Tree) (r : Rule) (line : Line) → (command ≡ Print → ⊥) → Reads source (Spelled tokens) → IsTree tokens tree → TreeRejects command tokens tree r line → SourceRejects command source r line
rejected_source one command source tokens tree r line asks spells is rejects c =
    same_then (SourceCompiles command source c) (TreeCompiles command tokens tree c) (c ≡ Rejected r line) (tree_source one command source tokens tree asks spells is c) (rejects c)

-- what breaks no rule can be run
pub binds_as : (command : Command) (tokens : List Token) (tree : Tree) (s : Source) → (IsAllowed tokens tree s → IsRunnable s) → ChecksAs tokens tree s → BindsAs command tokens tree s
binds_as command tokens tree s runs (binds, checked) = (binds command, λ reads. runs (record { reads = reads; checked = checked }))

pub rejected_tree : (command : Command) (tokens : List Token) (tree : Tree) (r : Rule) (line : Line) → CheckRejects tokens tree r line → TreeRejects command tokens tree r line
rejected_tree command tokens tree r line rejects = rejects command
