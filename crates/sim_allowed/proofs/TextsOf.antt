-- The texts of a program, with what the last round says of them.
use Rattle.std.proofs.Common.{◌≡◌, ℕ, zero, suc, Bool, true, false, List, [], ◌∷◌, ◌++◌, ◌⊎◌, inl, inr, Option, Some, None, refl, sym, subst, arith, if◌then◌else◌}
use Rattle.std.proofs.lemmas.Bool.Decides.{nat_tests}
use Rattle.std.specs.Prelude.{◌==◌, slice_get}
use Rattle.sim_scope.specs.declared.types.Position.{Position}
use Rattle.sim_scope.specs.declared.types.Position.TheVariants.{ClassBody, ClassStatement, Inside}
use Rattle.sim_scope.specs.declared.types.StandardPrefix.{StandardPrefix}
use Rattle.sim_scope.specs.declared.types.StandardPrefix.TheVariants as prefixes
use Rattle.sim_scope.specs.Found.{Event}
use Rattle.sim_scope.specs.Source.{Source}
use Rattle.sim_scope.specs.Statements.{judging, prefixed_events}
use Rattle.sim_scope.specs.Walk.{arm_classes, arms_events, begin_of, block_events, class_events, declaration_events, declarations_events, program_events, statement_events, statements_events, whole_events}
use Rattle.sim_tree.specs.declared.expr.Identifier.{Identifier}
use Rattle.sim_tree.specs.Filled.{Filled, FilledArms, FilledBlock, FilledDeclaration, FilledDeclarations, FilledStatement, FilledStatements}
use Rattle.sim_tree.specs.Syntax.{Also, Arms, Arrays, Begin, Block, Declaration, Declarations, DeclareClass, DeclareProcedure, Heading, Interface, NoArm, NoDeclaration, NoStatement, Prefix, Statement, Statements, Variables, When, With, Expressions}
use Rattle.sim_tree.specs.Syntax as syntax
use Rattle.sim_values.specs.declared.kind.Kind.TheVariants as kind
use Rattle.sim_values.specs.Plain.{Plain as Value, kind_of}
use Rattle.sim_code.specs.Rows.{text_value}
use Rattle.sim_meaning.specs.Constants.{TextConstant, arms_constants, block_constants, constant_from, declaration_constants, declarations_constants, elements_constants, expression_constants, prefix_constants, statement_constants, statements_constants, text_constant, text_constants, expressions_constants}
use Rattle.sim_meaning.specs.Texts.{BlockText, ClassText, ConnectionText, ProcedureText, StandardText, Text, arms_texts, block_texts, declaration_texts, declarations_texts, prefix_texts, program_texts, statement_texts, statements_texts, text, PrefixedText, prefixed_texts}
use Rattle.sim_allowed.proofs.Expressions.{AllThere, IsThere, both_there}
use Rattle.sim_allowed.proofs.Said.{AllSay, both_say}
use Rattle.sim_allowed.proofs.Statements.{InClass, NoBody, in_class}
use Rattle.sim_agree.proofs.StandardPrefixes.{behind_prefix, brought_texts}

-- what is known of a text: its text constants are there, and its events are as the source says
abbrev pub StatementFine : Source → Statement → Type 0
StatementFine s a = AllThere s (statement_constants a) × AllSay s (statement_events (judging s.tables) Inside a)

abbrev pub BlockFine : Source → Position → Declarations → Statements → Type 0
BlockFine s q ds ss = (AllThere s (declarations_constants ds) × AllSay s (declarations_events (judging s.tables) ds))
    × (AllThere s (statements_constants ss) × AllSay s (statements_events (judging s.tables) q ss)) × FilledDeclarations ds

abbrev pub TextFine : Source → Text → Type 0
TextFine s (BlockText i ds ss) = BlockFine s Inside ds ss
TextFine s (ProcedureText result h a) = StatementFine s a
TextFine s (ClassText prefix h ds ss) = BlockFine s ClassStatement ds ss
TextFine s (PrefixedText class es ds ss) = BlockFine s Inside ds ss
TextFine s ConnectionText = Unit {0}
TextFine s (StandardText which) = Unit {0}

abbrev AllFine : Source → List Text → Type 0
AllFine s [] = Unit {0}
AllFine s (x ∷ xs) = TextFine s x × AllFine s xs

both_fine : (s : Source) (xs ys : List Text) → AllFine s xs → AllFine s ys → AllFine s (xs ++ ys)
both_fine s [] ys a b = b
both_fine s (x ∷ xs) ys a b = (a.0, both_fine s xs ys a.1 b)

-- and so are the texts that a prefix brings
brought_fine : (s : Source) (p : StandardPrefix) (xs : List Text) → AllFine s xs → AllFine s (brought_texts p ++ xs)
brought_fine s prefixes.Simset xs a = (tt, (tt, (tt, a)))
brought_fine s prefixes.Simulation xs a = (tt, (tt, (tt, (tt, a))))

behind_fine : (s : Source) (prefix : Option Identifier) (xs : List Text) → AllFine s xs → AllFine s (prefix_texts prefix ++ xs)
behind_fine s prefix xs a = behind_prefix (AllFine s) prefix xs a (λ p. brought_fine s p xs a)

-- where a statement stands makes no difference to what is told of it, but for the body of a class
body_events : (s : Source) (a : Statement) → InClass ClassBody a → statement_events (judging s.tables) ClassBody a ≡ statement_events (judging s.tables) ClassStatement a
unfolding judging
body_events s (syntax.Compound b) c = absurd c
body_events s (syntax.Empty i) c = refl
body_events s (syntax.Prefixed class es b) c = refl
body_events s (syntax.Inner i) c = refl
body_events s (syntax.Call e) c = refl
body_events s (syntax.Assign e parts) c = refl
body_events s (syntax.Choose i e a b) c = refl
body_events s (syntax.Repeat i e a) c = refl
body_events s (syntax.For i x sign j es a) c = refl
body_events s (syntax.Inspect i e j a end b) c = refl
body_events s (syntax.InspectWhen i e arms b) c = refl
body_events s (syntax.Activate i word e schedule) c = refl

all_none : (s : Source) (xs : List TextConstant) → AllThere s xs → AllThere s (xs ++ [])
all_none s [] a = tt
all_none s (x ∷ xs) a = (a.0, all_none s xs a.1)

all_say_none : (s : Source) (xs : List Event) → AllSay s xs → AllSay s (xs ++ [])
all_say_none s [] a = tt
all_say_none s (x ∷ xs) a = (a.0, all_say_none s xs a.1)

-- a class whose body is no block
alone_fine : (s : Source) (prefix : Option Identifier) (h : Heading) (a : Statement) → InClass ClassBody a → FilledStatement a → AllThere s (statement_constants a) → AllSay s (statement_events (judging s.tables) ClassBody a)
    → AllFine s (statement_texts a) → AllFine s (ClassText prefix h NoDeclaration (Also a NoStatement) ∷ (prefix_texts prefix ++ statement_texts a))
alone_fine s prefix h a c q there said all = (
  ((tt, tt), (all_none s (statement_constants a) there, all_say_none s (statement_events (judging s.tables) ClassStatement a) (subst (λ z. AllSay s z) (body_events s a c) said)), tt),
  behind_fine s prefix (statement_texts a) all,
)

alone_texts : (prefix : Option Identifier) (a : Statement) → InClass ClassBody a → (i : ℕ) (h : Heading) (interface : Interface) (end : ℕ)
    → declaration_texts (DeclareClass prefix i h interface a end) ≡ ClassText prefix h NoDeclaration (Also a NoStatement) ∷ (prefix_texts prefix ++ statement_texts a)
alone_texts prefix (syntax.Compound b) c i h interface end = absurd c
alone_texts prefix (syntax.Empty j) c i h interface end = refl
alone_texts prefix (syntax.Prefixed class es b) c i h interface end = refl
alone_texts prefix (syntax.Inner j) c i h interface end = refl
alone_texts prefix (syntax.Call e) c i h interface end = refl
alone_texts prefix (syntax.Assign e parts) c i h interface end = refl
alone_texts prefix (syntax.Choose j e a b) c i h interface end = refl
alone_texts prefix (syntax.Repeat j e a) c i h interface end = refl
alone_texts prefix (syntax.For j x sign k es a) c i h interface end = refl
alone_texts prefix (syntax.Inspect j e k a m b) c i h interface end = refl
alone_texts prefix (syntax.InspectWhen j e arms b) c i h interface end = refl
alone_texts prefix (syntax.Activate j word e schedule) c i h interface end = refl

class_alone_fine : (s : Source) (prefix : Option Identifier) (i : ℕ) (h : Heading) (interface : Interface) (a : Statement) (end : ℕ) → InClass ClassBody a → FilledStatement a → AllThere s (statement_constants a)
    → AllSay s (declaration_events (judging s.tables) (DeclareClass prefix i h interface a end))
    → (FilledStatement a → AllThere s (statement_constants a) → AllSay s (statement_events (judging s.tables) ClassBody a) → AllFine s (statement_texts a)) → AllFine s (declaration_texts (DeclareClass prefix i h interface a end))
unfolding judging
class_alone_fine s prefix i h interface a end c q there said deep =
    let v = judging s.tables in
    let x = both_say s (v.class prefix i h interface) (statement_events v ClassBody a ++ v.leave end) said in
    let y = both_say s (statement_events v ClassBody a) (v.leave end) x.1 in
    subst (λ z. AllFine s z) (sym (alone_texts prefix a c i h interface end)) (alone_fine s prefix h a c q there y.0 (deep q there y.0))

mutual
  unfolding judging

  statement_fine : (s : Source) (q : Position) (a : Statement) → InClass q a → FilledStatement a → AllThere s (statement_constants a) → AllSay s (statement_events (judging s.tables) q a) → AllFine s (statement_texts a)
  statement_fine s q (syntax.Empty i) c f there said = tt
  statement_fine s ClassBody (syntax.Compound b) c f there said = absurd c
  statement_fine s ClassStatement (syntax.Compound b) c f there said = block_fine s b f there said
  statement_fine s Inside (syntax.Compound b) c f there said = block_fine s b f there said
  statement_fine s q (syntax.Inner i) c f there said = tt
  statement_fine s q (syntax.Call e) c f there said = tt
  statement_fine s q (syntax.Assign left parts) c f there said = tt
  statement_fine s q (syntax.Choose i e a b) c f there said =
      let v = judging s.tables in
      let h = both_there s (expression_constants e) (statement_constants a ++ statements_constants b) there in
      let j = both_there s (statement_constants a) (statements_constants b) h.1 in
      let x = both_say s (v.condition e) (statement_events v Inside a ++ statements_events v Inside b) said in
      let y = both_say s (statement_events v Inside a) (statements_events v Inside b) x.1 in
      both_fine s (statement_texts a) (statements_texts b) (statement_fine s Inside a tt f.0 j.0 y.0) (statements_fine s Inside b tt f.1 j.1 y.1)
  statement_fine s q (syntax.Repeat i e a) c f there said =
      let v = judging s.tables in
      let h = both_there s (expression_constants e) (statement_constants a) there in
      let x = both_say s (v.condition e) (statement_events v Inside a) said in
      statement_fine s Inside a tt f h.1 x.1
  statement_fine s q (syntax.For i x sign j es a) c f there said =
      let v = judging s.tables in
      let h = both_there s (elements_constants es) (statement_constants a) there in
      let y = both_say s (v.control x sign j es) (statement_events v Inside a) said in
      statement_fine s Inside a tt f.1 h.1 y.1
  statement_fine s q (syntax.Inspect i e opening a end other) c f there said =
      let v = judging s.tables in
      let h = both_there s (expression_constants e) (statement_constants a ++ statements_constants other) there in
      let j = both_there s (statement_constants a) (statements_constants other) h.1 in
      let x = both_say s (v.inspect i e) (statement_events v Inside a ++ statements_events v Inside other) said in
      let y = both_say s (statement_events v Inside a) (statements_events v Inside other) x.1 in
      (tt, both_fine s (statement_texts a) (statements_texts other) (statement_fine s Inside a tt f.0 j.0 y.0) (statements_fine s Inside other tt f.1 j.1 y.1))
  statement_fine s q (syntax.InspectWhen i e arms other) c f there said =
      let v = judging s.tables in
      let h = both_there s (expression_constants e) (arms_constants arms ++ statements_constants other) there in
      let j = both_there s (arms_constants arms) (statements_constants other) h.1 in
      let x = both_say s (v.inspect_when i e (arm_classes arms)) (arms_events v arms ++ statements_events v Inside other) said in
      let y = both_say s (arms_events v arms) (statements_events v Inside other) x.1 in
      both_fine s (arms_texts arms) (statements_texts other) (arms_fine s arms f.0 j.0 y.0) (statements_fine s Inside other tt f.1 j.1 y.1)
  statement_fine s q (syntax.Prefixed class es b) c f there said =
      let h = both_there s (expressions_constants es) (block_constants b) there in
      prefixed_fine s class es b f h.1 (both_say s (prefixed_events s.tables class es (begin_of b)) (whole_events (judging s.tables) b) said).1
  statement_fine s q (syntax.Activate i word e schedule) c f there said = tt

  arms_fine : (s : Source) (arms : Arms) → FilledArms arms → AllThere s (arms_constants arms) → AllSay s (arms_events (judging s.tables) arms) → AllFine s (arms_texts arms)
  arms_fine s NoArm f there said = tt
  arms_fine s (When i class opening a end more) f there said =
      let v = judging s.tables in
      let h = both_there s (statement_constants a) (arms_constants more) there in
      let x = both_say s (statement_events v Inside a ++ []) (arms_events v more) said in
      let y = both_say s (statement_events v Inside a) [] x.0 in
      (tt, both_fine s (statement_texts a) (arms_texts more) (statement_fine s Inside a tt f.0 h.0 y.0) (arms_fine s more f.1 h.1 x.1))

  statements_fine : (s : Source) (q : Position) (ss : Statements) → NoBody q → FilledStatements ss → AllThere s (statements_constants ss) → AllSay s (statements_events (judging s.tables) q ss) → AllFine s (statements_texts ss)
  statements_fine s q NoStatement c f there said = tt
  statements_fine s q (Also a more) c f there said =
      let v = judging s.tables in
      let h = both_there s (statement_constants a) (statements_constants more) there in
      let x = both_say s (statement_events v q a) (statements_events v q more) said in
      both_fine s (statement_texts a) (statements_texts more) (statement_fine s q a (in_class q a c) f.0 h.0 x.0) (statements_fine s q more c f.1 h.1 x.1)

  prefixed_fine : (s : Source) (class : Identifier) (es : Expressions) (b : Block) → FilledBlock b → AllThere s (block_constants b) → AllSay s (whole_events (judging s.tables) b) → AllFine s (prefixed_texts class es b)
  prefixed_fine s class es (Begin i ds ss end) q there said =
      let v = judging s.tables in
      let c = both_there s (declarations_constants ds) (statements_constants ss) there in
      let x = both_say s (declarations_events v ds) (statements_events v Inside ss ++ v.leave end) said in
      let y = both_say s (statements_events v Inside ss) (v.leave end) x.1 in (
        ((c.0, x.0), (c.1, y.0), q.0),
        behind_fine s (Some class) (declarations_texts ds ++ statements_texts ss) (both_fine s (declarations_texts ds) (statements_texts ss) (declarations_fine s ds q.0 c.0 x.0) (statements_fine s Inside ss tt q.1 c.1 y.0)),
      )

  block_fine : (s : Source) (b : Block) → FilledBlock b → AllThere s (block_constants b) → AllSay s (block_events (judging s.tables) b) → AllFine s (block_texts b)
  block_fine s (Begin i NoDeclaration ss end) q there said = statements_fine s Inside ss tt q.1 there said
  block_fine s (Begin i (With d ds) ss end) q there said =
      let v = judging s.tables in
      let h = both_there s (declarations_constants (With d ds)) (statements_constants ss) there in
      let x = both_say s (v.block i) ((declarations_events v (With d ds) ++ statements_events v Inside ss) ++ v.leave end) said in
      let y = both_say s (declarations_events v (With d ds) ++ statements_events v Inside ss) (v.leave end) x.1 in
      let z = both_say s (declarations_events v (With d ds)) (statements_events v Inside ss) y.0 in
      let g = both_there s (declaration_constants d) (declarations_constants ds) h.0 in
      let w = both_say s (declaration_events v d) (declarations_events v ds) z.0 in (
        ((h.0, z.0), (h.1, z.1), q.0),
        both_fine s (declaration_texts d) (declarations_texts ds ++ statements_texts ss) (declaration_fine s d q.0.0 g.0 w.0)
            (both_fine s (declarations_texts ds) (statements_texts ss) (declarations_fine s ds q.0.1 g.1 w.1) (statements_fine s Inside ss tt q.1 h.1 z.1)),
      )

  declarations_fine : (s : Source) (ds : Declarations) → FilledDeclarations ds → AllThere s (declarations_constants ds) → AllSay s (declarations_events (judging s.tables) ds) → AllFine s (declarations_texts ds)
  declarations_fine s NoDeclaration q there said = tt
  declarations_fine s (With d ds) q there said =
      let v = judging s.tables in
      let g = both_there s (declaration_constants d) (declarations_constants ds) there in
      let w = both_say s (declaration_events v d) (declarations_events v ds) said in
      both_fine s (declaration_texts d) (declarations_texts ds) (declaration_fine s d q.0 g.0 w.0) (declarations_fine s ds q.1 g.1 w.1)

  declaration_fine : (s : Source) (d : Declaration) → FilledDeclaration d → AllThere s (declaration_constants d) → AllSay s (declaration_events (judging s.tables) d) → AllFine s (declaration_texts d)
  declaration_fine s (Variables type vs) q there said = tt
  declaration_fine s (Arrays type i segments) q there said = tt
  declaration_fine s (DeclareProcedure result i h a end) q there said =
      let v = judging s.tables in
      let x = both_say s (v.procedure result i h) (statement_events v Inside a ++ v.leave end) said in
      let y = both_say s (statement_events v Inside a) (v.leave end) x.1 in
      ((there, y.0), statement_fine s Inside a tt q there y.0)
  declaration_fine s (DeclareClass prefix i h interface (syntax.Compound b) end) q there said =
      let v = judging s.tables in
      let x = both_say s (v.class prefix i h interface) (class_events v b ++ v.leave end) said in
      let y = both_say s (class_events v b) (v.leave end) x.1 in
      class_fine s prefix i h interface b end q there y.0
  declaration_fine s (DeclareClass prefix i h interface a end) q there said = class_alone_fine s prefix i h interface a end tt q there said (λ d t say. statement_fine s ClassBody a tt d t say)

  -- a class whose body is a block
  class_fine : (s : Source) (prefix : Option Identifier) (i : ℕ) (h : Heading) (interface : Interface) (b : Block) (end : ℕ) → FilledBlock b → AllThere s (block_constants b) → AllSay s (class_events (judging s.tables) b)
      → AllFine s (declaration_texts (DeclareClass prefix i h interface (syntax.Compound b) end))
  class_fine s prefix i h interface (Begin j ds ss e) end q there said =
      let v = judging s.tables in
      let c = both_there s (declarations_constants ds) (statements_constants ss) there in
      let x = both_say s (declarations_events v ds) (statements_events v ClassStatement ss) said in (
        ((c.0, x.0), (c.1, x.1), q.0),
        behind_fine s prefix (declarations_texts ds ++ statements_texts ss) (both_fine s (declarations_texts ds) (statements_texts ss) (declarations_fine s ds q.0 c.0 x.0) (statements_fine s ClassStatement ss tt q.1 c.1 x.1)),
      )

program_fine : (s : Source) (b : Block) → FilledBlock b → AllThere s (block_constants b) → AllSay s (whole_events (judging s.tables) b) → AllFine s (program_texts None b)
program_fine s (Begin i ds ss end) q there said =
    let v = judging s.tables in
    let h = both_there s (declarations_constants ds) (statements_constants ss) there in
    let x = both_say s (declarations_events v ds) (statements_events v Inside ss ++ v.leave end) said in
    let y = both_say s (statements_events v Inside ss) (v.leave end) x.1 in
    (((h.0, x.0), (h.1, y.0), q.0), both_fine s (declarations_texts ds) (statements_texts ss) (declarations_fine s ds q.0 h.0 x.0) (statements_fine s Inside ss tt q.1 h.1 y.0))

start_fine : (s : Source) (o : Option Prefix) (b : Block) → FilledBlock b → AllThere s (block_constants b) → AllSay s (whole_events (judging s.tables) b) → AllFine s (program_texts o b)
start_fine s None b q there said = program_fine s b q there said
start_fine s (Some x) (Begin i ds ss end) q there said = prefixed_fine s x.class x.arguments (Begin i ds ss end) q there said

fine_at : (s : Source) (xs : List Text) (k : ℕ) (x : Text) → AllFine s xs → slice_get xs k ≡ Some x → TextFine s x
fine_at s [] k x a e = absurd (cc)
fine_at s (y ∷ ys) zero x a e = let same : y ≡ x = cc in subst (TextFine s) same a.0
fine_at s (y ∷ ys) (suc k) x a e = fine_at s ys k x a.1 e

pub text_fine : (s : Source) → Filled s.program → AllThere s (text_constants s) → AllSay s (program_events (judging s.tables) s.program) → (k : ℕ) (x : Text) → text s k ≡ Some x → TextFine s x
unfolding text text_constants program_events
text_fine s q there said k x e =
    let v = judging s.tables in
    let b = s.program.block in
    let c = both_there s (prefix_constants s.program.prefix) (block_constants b) there in
    let y = both_say s (v.program s.program.prefix (begin_of b)) (whole_events v b) said in
    fine_at s (program_texts s.program.prefix b) k x (start_fine s s.program.prefix b q c.1 y.1) e

-- ---- text constants

-- each constant of the list is found at its token
abbrev Has : TextConstant → List TextConstant → Type 0
Has c [] = ⊥
Has c (x ∷ xs) = (c ≡ x) ⊎ Has c xs

found_from : (c : TextConstant) (n : ℕ) (xs : List TextConstant) → Has c xs → (v : Value) × (constant_from n c.token xs ≡ Some v) × (kind_of v ≡ kind.Text)
found_from c n [] h = absurd h
found_from c n (x ∷ xs) h = go (λ h. found_from c (suc n) xs h) (x.token == c.token) refl h
  where
    go : (Has c xs → (v : Value) × (constant_from (suc n) c.token xs ≡ Some v) × (kind_of v ≡ kind.Text)) → (b : Bool) → (x.token == c.token) ≡ b → (c ≡ x) ⊎ Has c xs
        → (v : Value) × ((if b then Some (text_value n x.bytes) else constant_from (suc n) c.token xs) ≡ Some v) × (kind_of v ≡ kind.Text)
    go deep true same h = (text_value n x.bytes, refl, refl)
    go deep false same (inr h) = deep h
    go deep false same (inl is) = absurd (never x.token (subst (λ (z : TextConstant). (x.token == z.token) ≡ false) is same))
      where
        never : (n : ℕ) → (n == n) ≡ false → ⊥
        never n e = grind (arith, nat_tests, e)

all_there : (s : Source) (xs : List TextConstant) → ((c : TextConstant) → Has c xs → IsThere s c) → AllThere s xs
all_there s [] h = tt
all_there s (x ∷ xs) h = (h x (inl refl), all_there s xs (λ c k. h c (inr k)))

pub constants_there : (s : Source) → AllThere s (text_constants s)
unfolding text_constant
constants_there s = all_there s (text_constants s) (λ c h. found_from c 0 (text_constants s) h)
