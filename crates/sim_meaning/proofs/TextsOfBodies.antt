-- The texts of a program are those of its bodies.
use Rattle.std.proofs.Common.{◌≡◌, ◌+◌, ℕ, List, [], ◌∷◌, ◌++◌, length, map, Option, Some, None, refl, ap, ◌∙◌, sym, append_assoc}
use Rattle.sim_tree.specs.declared.expr.Identifier.{Identifier}
use Rattle.sim_tree.specs.Syntax.{Expressions, Statement, Statements, Empty, Compound, Prefixed, Inner, Call, Assign, Choose, Repeat, For, Inspect, InspectWhen, Activate, NoStatement, Also, Arms, NoArm, When, Block, Begin, Declarations, NoDeclaration, With, Declaration, Variables, Arrays, DeclareProcedure, DeclareClass, Prefix, Program}
use Rattle.sim_scope.specs.declared.types.BlockKind.{BlockKind}
use Rattle.sim_scope.specs.declared.types.BlockKind.TheVariants as kind
use Rattle.sim_scope.specs.declared.types.StandardClass.{StandardClass}
use Rattle.sim_scope.specs.Bodies.{Around, Bodies, OfConnection, OfClass, Part, arms_bodies, block_bodies, bodies_of, both, classes_declared, declaration_bodies, declarations_bodies, one, prefix_bodies, prefixed_bodies, program_bodies, standard_bodies, standard_body, statement_bodies, statements_bodies, OfBlock, OfPrefixed, OfProcedure, program_around}
use Rattle.sim_scope.specs.Standard.{standard_prefix}
use Rattle.sim_scope.specs.Tables.{deeper}
use Rattle.sim_meaning.specs.Texts.{BlockText, ConnectionText, PrefixedText, StandardText, Text, arms_texts, block_texts, declaration_texts, declarations_texts, prefix_texts, prefixed_texts, program_texts, standard_texts, statement_texts, statements_texts, text_of, text_of_part}

map-append : {A B : Type 0} (f : A → B) (xs ys : List A) → map f (xs ++ ys) ≡ map f xs ++ map f ys
map-append f [] ys = refl
map-append f (x ∷ xs) ys = ap (λ z. f x ∷ z) (map-append f xs ys)

-- bodies with these texts, whatever the number of the first of them
abbrev Texts : Bodies → List Text → Type 0
Texts f xs = (next : ℕ) → map text_of (f next) ≡ map Some xs

texts_both : (f g : Bodies) (xs ys : List Text) → Texts f xs → Texts g ys → Texts (both f g) (xs ++ ys)
texts_both f g xs ys p q next =
    map-append text_of (f next) (g (next + length (f next))) ∙ ap (λ z. z ++ map text_of (g (next + length (f next)))) (p next)
    ∙ ap (λ z. map Some xs ++ z) (q (next + length (f next))) ∙ sym (map-append Some xs ys)

texts_one : (k : BlockKind) (o : Around) (first end : ℕ) (prefix : Option Identifier) (part : Part) (inside : Around → Bodies) (x : Text) (xs : List Text)
    → text_of_part k first prefix part ≡ Some x → ((i : Around) → Texts (inside i) xs) → Texts (one k o first end prefix part inside) (x ∷ xs)
texts_one k o first end prefix part inside x xs e h next =
    ap (λ z. z ∷ map text_of (inside (record { number = next; level = deeper k o.level }) (next + 1))) e ∙ ap (λ z. Some x ∷ z) (h (record { number = next; level = deeper k o.level }) (next + 1))

texts_standard : (o : Around) (name : List ℕ) → Texts (standard_bodies o name) (standard_texts name)
unfolding standard_bodies standard_texts
texts_standard o name next = go (classes_declared (standard_prefix name))
  where
    go : (ws : List StandardClass) → map text_of (map (standard_body o) ws) ≡ map Some (map StandardText ws)
    go [] = refl
    go (w ∷ ws) = ap (λ z. Some (StandardText w) ∷ z) (go ws)

texts_prefix : (o : Around) (prefix : Option Identifier) → Texts (prefix_bodies o prefix) (prefix_texts prefix)
texts_prefix o None next = refl
texts_prefix o (Some class) next = texts_standard o class.name next

mutual
  of_statement : (a : Statement) (o : Around) → Texts (statement_bodies o a) (statement_texts a)
  of_statement (Empty i) o next = refl
  of_statement (Compound b) o next = of_block b o next
  of_statement (Prefixed class arguments b) o next = of_prefixed b class arguments o next
  of_statement (Inner i) o next = refl
  of_statement (Call e) o next = refl
  of_statement (Assign left rest) o next = refl
  of_statement (Choose i e a b) o next = texts_both (statement_bodies o a) (statements_bodies o b) _ _ (of_statement a o) (of_statements b o) next
  of_statement (Repeat i e a) o next = of_statement a o next
  of_statement (For i x sign assign es a) o next = of_statement a o next
  of_statement (Inspect i e opening a end other) o next =
      texts_both (one kind.Connection o opening end None OfConnection (λ inner. statement_bodies inner a)) (statements_bodies o other) (ConnectionText ∷ statement_texts a) (statements_texts other)
      (texts_one kind.Connection o opening end None OfConnection (λ inner. statement_bodies inner a) ConnectionText (statement_texts a) refl (of_statement a)) (of_statements other o) next
  of_statement (InspectWhen i e arms other) o next = texts_both (arms_bodies o arms) (statements_bodies o other) _ _ (of_arms arms o) (of_statements other o) next
  of_statement (Activate i word e schedule) o next = refl

  of_statements : (ss : Statements) (o : Around) → Texts (statements_bodies o ss) (statements_texts ss)
  of_statements NoStatement o next = refl
  of_statements (Also a more) o next = texts_both (statement_bodies o a) (statements_bodies o more) _ _ (of_statement a o) (of_statements more o) next

  of_arms : (ws : Arms) (o : Around) → Texts (arms_bodies o ws) (arms_texts ws)
  of_arms NoArm o next = refl
  of_arms (When i class opening a end more) o next =
      texts_both (one kind.Connection o opening end None OfConnection (λ inner. statement_bodies inner a)) (arms_bodies o more) (ConnectionText ∷ statement_texts a) (arms_texts more)
      (texts_one kind.Connection o opening end None OfConnection (λ inner. statement_bodies inner a) ConnectionText (statement_texts a) refl (of_statement a)) (of_arms more o) next

  of_block : (b : Block) (o : Around) → Texts (block_bodies o b) (block_texts b)
  of_block (Begin i NoDeclaration ss end) o next = of_statements ss o next
  of_block (Begin i (With d ds) ss end) o next =
      texts_one kind.SubBlock o i end None (OfBlock (With d ds) ss) (λ inner. both (declarations_bodies inner (With d ds)) (statements_bodies inner ss)) _ _ refl
      (λ inner. texts_both (declarations_bodies inner (With d ds)) (statements_bodies inner ss) _ _ (of_declarations (With d ds) inner) (of_statements ss inner)) next
      ∙ ap (λ z. Some (BlockText i (With d ds) ss) ∷ map Some z) (append_assoc (declaration_texts d) (declarations_texts ds) (statements_texts ss))

  of_prefixed : (b : Block) (class : Identifier) (arguments : Expressions) (o : Around) → Texts (prefixed_bodies o class arguments b) (prefixed_texts class arguments b)
  of_prefixed (Begin i ds ss end) class arguments o next =
      texts_one kind.Prefixed o i end (Some class) (OfPrefixed arguments ds ss) (λ inner. both (standard_bodies inner class.name) (both (declarations_bodies inner ds) (statements_bodies inner ss))) _ _ refl
      (λ inner. texts_both (standard_bodies inner class.name) (both (declarations_bodies inner ds) (statements_bodies inner ss)) _ _ (texts_standard inner class.name)
      (texts_both (declarations_bodies inner ds) (statements_bodies inner ss) _ _ (of_declarations ds inner) (of_statements ss inner))) next

  of_declarations : (ds : Declarations) (o : Around) → Texts (declarations_bodies o ds) (declarations_texts ds)
  of_declarations NoDeclaration o next = refl
  of_declarations (With d ds) o next = texts_both (declaration_bodies o d) (declarations_bodies o ds) _ _ (of_declaration d o) (of_declarations ds o) next

  of_declaration : (d : Declaration) (o : Around) → Texts (declaration_bodies o d) (declaration_texts d)
  of_declaration (Variables type vs) o next = refl
  of_declaration (Arrays type i segments) o next = refl
  of_declaration (DeclareProcedure result i h a end) o next =
      texts_one kind.Procedure o h.name.token.0 end None (OfProcedure result h a) (λ inner. statement_bodies inner a) _ _ refl (of_statement a) next
  of_declaration (DeclareClass prefix i h interface (Compound (Begin token ds ss e)) end) o next =
      texts_one kind.Class o h.name.token.0 end prefix (OfClass h ds ss) (λ inner. both (prefix_bodies inner prefix) (both (declarations_bodies inner ds) (statements_bodies inner ss))) _ _ refl
      (λ inner. texts_both (prefix_bodies inner prefix) (both (declarations_bodies inner ds) (statements_bodies inner ss)) _ _ (texts_prefix inner prefix)
      (texts_both (declarations_bodies inner ds) (statements_bodies inner ss) _ _ (of_declarations ds inner) (of_statements ss inner))) next
  of_declaration (DeclareClass prefix i h interface a end) o next =
      texts_one kind.Class o h.name.token.0 end prefix (OfClass h NoDeclaration (Also a NoStatement)) (λ inner. both (prefix_bodies inner prefix) (statement_bodies inner a)) _ _ refl
      (λ inner. texts_both (prefix_bodies inner prefix) (statement_bodies inner a) _ _ (texts_prefix inner prefix) (of_statement a inner)) next

pub texts_are_bodies : (p : Program) → map text_of (program_bodies p) ≡ map Some (program_texts p.prefix p.block)
unfolding program_bodies
texts_are_bodies p = go p.prefix p.block
  where
    go : (o : Option Prefix) (b : Block) → map text_of (bodies_of o b) ≡ map Some (program_texts o b)
    go None (Begin i ds ss end) = ap (λ z. Some (BlockText i ds ss) ∷ z) (texts_both (declarations_bodies program_around ds) (statements_bodies program_around ss) _ _ (of_declarations ds program_around) (of_statements ss program_around) 1)
    go (Some p) (Begin i ds ss end) =
        ap (λ z. Some (PrefixedText p.class p.arguments ds ss) ∷ z)
        (texts_both (standard_bodies program_around p.class.name) (both (declarations_bodies program_around ds) (statements_bodies program_around ss)) _ _ (texts_standard program_around p.class.name)
        (texts_both (declarations_bodies program_around ds) (statements_bodies program_around ss) _ _ (of_declarations ds program_around) (of_statements ss program_around)) 1)
