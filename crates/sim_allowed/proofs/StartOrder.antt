-- The tokens of a program's own prefix stand in front of its block, and ascend.
use Rattle.std.proofs.Common.{◌≡◌, ◌≤◌, ◌<◌, ◌+◌, ℕ, List, [], ◌∷◌, ◌++◌, length, Option, Some, None, map, refl, sym, ap, ◌∙◌, subst, arith}
use Rattle.std.specs.Prelude.{option_map}
use Rattle.sim_base.specs.declared.token.Token.{Token}
use Rattle.sim_base.specs.declared.token.TokenKind.TheVariants as k
use Rattle.sim_tree.specs.declared.program.BlockPrefix.{BlockPrefix}
use Rattle.sim_tree.specs.declared.program.Program.{Program as Tree}
use Rattle.sim_tree.specs.declared.stmt.Block.{Block}
use Rattle.sim_tree.specs.Grammar as g
use Rattle.sim_tree.specs.Grammar.{Symbol}
use Rattle.sim_tree.specs.Named.{named}
use Rattle.sim_tree.specs.Reading.{Forest, Reads, bare_leaf, done, leaf, node, place, reads-any, reads-done, reads-here, reads-kept, reads-mark, reads-none, reads-part, reads-skip}
use Rattle.sim_tree.specs.Derivation.{Derivation, arguments, derivation_of, identifier}
use Rattle.sim_tree.specs.Order.{AllBelow, Ascends, Behind, Spot, Token as Mark, in_block, in_declarations, in_expression, in_statements, tokens}
use Rattle.sim_tree.specs.Syntax.{Block as BlockSyntax, Begin, Named, Prefix, Program, expressions}
use Rattle.sim_tree.specs.SyntaxOf.{syntax_of}
use Rattle.sim_tree.specs.SyntaxOfProgram as t
use Rattle.sim_tree.specs.SyntaxOfProgram.{block_syntax, program_syntax}
use Rattle.sim_tree.specs.ProgramDerivation as d
use Rattle.sim_tree.specs.ProgramDerivation.{block_derivation, program_derivation}
use Rattle.sim_tree.specs.Tree.{IsTree}
use Rattle.sim_tree.proofs.Full.{reads_full}
use Rattle.sim_tree.proofs.Induction as induction
use Rattle.sim_tree.proofs.Order.{in_order, in_text}
use Rattle.sim_tree.proofs.ReadExpressions.{Full, is_full-Full}
use Rattle.sim_allowed.proofs.NamedExpressions as n
use Rattle.sim_allowed.proofs.NamedExpressions.{Among, Puts, among-keep, among-none, among-skip, leaves}

-- a program's own prefix, and its block
abbrev pub in_start : Option Prefix → List Spot → List Spot
in_start None l = l
in_start (Some x) l = in_expression (Named x.class x.arguments) l

abbrev pub in_whole : Program → List Spot
in_whole p = in_start p.prefix (in_block p.block [])

-- ---- tokens in front of a block

-- what ascends up to a token, and what ascends from it
joined : (m i : ℕ) (xs : List ℕ) (l : List Spot) → Ascends m (tokens xs (Mark i ∷ [])) → Ascends (i + 1) l → Ascends m (tokens xs (Mark i ∷ l))
joined m i [] l a b = (a.0, b)
joined m i (x ∷ xs) l a b = (a.0, joined (x + 1) i xs l a.1 b)

-- they are below the token behind them
below : (m i : ℕ) (xs : List ℕ) → Ascends m (tokens xs (Mark i ∷ [])) → m ≤ i
below m i [] a = a.0
below m i (x ∷ xs) a = let low = a.0 in let deep = below (x + 1) i xs a.1 in omega (arith, low, deep)

all_below : (m n i : ℕ) (xs : List ℕ) (l : List Spot) → i < n → Ascends m (tokens xs (Mark i ∷ [])) → AllBelow n l → AllBelow n (tokens xs l)
all_below m n i [] l le a b = b
all_below m n i (x ∷ xs) l le a b = let low = below (x + 1) i xs a.1 in (omega (arith, low, le), all_below (x + 1) n i xs l le a.1 b)

-- ---- tokens that were read

weaker : (i j : ℕ) (l : List Spot) → i ≤ j → Ascends j l → Ascends i l
weaker i j [] le a = a
weaker i j (Mark x ∷ l) le a = let low = a.0 in (omega (arith, low, le), a.1)
weaker i j (Behind x ∷ l) le a = let low = a.0 in (omega (arith, low, le), a.1)

module _ {most : ℕ} {ws : List Token} where
  reads_ascend : {d i j : ℕ} {s : List Symbol} {f : Forest} → Reads most ws d s i f j → (q : List ℕ) → Ascends j (tokens q []) → Ascends i (tokens (leaves f q) [])
  reads_ascend reads-done q a = a
  reads_ascend (reads-kept {start = i} h r) q a = (let z : i ≤ i = omega arith in z, reads_ascend r q a)
  reads_ascend (reads-mark {start = i} {f = f} h r) q a = weaker i (i + 1) (tokens (leaves f q) []) (omega arith) (reads_ascend r q a)
  reads_ascend (reads-any {start = i} {f = f} h r) q a = weaker i (i + 1) (tokens (leaves f q) []) (omega arith) (reads_ascend r q a)
  reads_ascend (reads-none h r) q a = reads_ascend r q a
  reads_ascend (reads-here r) q a = reads_ascend r q a
  reads_ascend (reads-part {g = h} b sh r o) q a = reads_ascend r (leaves h q) (reads_ascend o q a)
  reads_ascend (reads-skip b may r) q a = reads_ascend r q a

among_ascend : (i : ℕ) (r q : List ℕ) → Among r q → Ascends i (tokens q []) → Ascends i (tokens r [])
among_ascend i _ _ among-none a = tt
among_ascend i r (x ∷ q) (among-skip h) a = let low = a.0 in among_ascend i r q h (weaker i (x + 1) (tokens q []) (omega (arith, low)) a.1)
among_ascend i (x ∷ r) _ (among-keep {q = q} h) a = (a.0, among_ascend (x + 1) r q h a.1)

among_both : (r q r' q' : List ℕ) → Among r q → Among r' q' → Among (r ++ r') (q ++ q')
among_both _ _ r' q' among-none b = b
among_both r _ r' q' (among-skip {q = q} a) b = among-skip (among_both r q r' q' a b)
among_both _ _ r' q' (among-keep {r = r} {q = q} a) b = among-keep (among_both r q r' q' a b)

nothing_among : (q : List ℕ) → Among [] q
nothing_among [] = among-none
nothing_among (x ∷ q) = among-skip (nothing_among q)

append_twice : (a b c : List ℕ) → (a ++ b) ++ c ≡ a ++ (b ++ c)
append_twice [] b c = refl
append_twice (x ∷ a) b c = ap (λ z. x ∷ z) (append_twice a b c)

leaves_append : (f : Forest) (q : List ℕ) → leaves f q ≡ leaves f [] ++ q
leaves_append done q = refl
leaves_append (leaf i kind value f) q = ap (λ z. i ∷ z) (leaves_append f q)
leaves_append (place i f) q = leaves_append f q
leaves_append (node n inside f) q =
    leaves_append inside (leaves f q) ∙ ap (λ z. leaves inside [] ++ z) (leaves_append f q) ∙ sym (append_twice (leaves inside []) (leaves f []) q) ∙ ap (λ z. z ++ q) (sym (leaves_append inside (leaves f [])))

last_token : (xs : List ℕ) (i : ℕ) → tokens (xs ++ (i ∷ [])) [] ≡ tokens xs (Mark i ∷ [])
last_token [] i = refl
last_token (x ∷ xs) i = ap (λ z. Mark x ∷ z) (last_token xs i)

-- ---- the tokens of the prefix

arguments_full : (xs : List Derivation) (f : Forest) → Full (arguments xs f) → Full (arguments xs done) × Full f
arguments_full [] f full = (tt, full)
arguments_full (x ∷ xs) f full = ((full.0, full.1, tt), full.2)

arguments_end : (xs : List Derivation) (f : Forest) (q : List ℕ) → leaves (arguments xs f) q ≡ leaves (arguments xs done) (leaves f q)
arguments_end [] f q = refl
arguments_end (x ∷ xs) f q = refl

abbrev pub token_of : BlockSyntax → ℕ
token_of (Begin i ds ss end) = i

-- the first token of a block is where it begins
abbrev BeginsAt : Forest → BlockSyntax → Type 0
BeginsAt f e = (rest : Forest) × (f ≡ bare_leaf (token_of e) k.Begin rest)

block_begins : (b : Block) → BeginsAt (block_derivation b) (block_syntax b)
block_begins =
    induction.each_block (λ f e. Unit {0}) (λ f e. Unit {0}) BeginsAt (λ f e. Unit {0}) (λ f e. Unit {0}) (λ f e. Unit {0})
    (λ y. tt) (λ y. tt) (λ y. (_, refl)) (λ y. tt) (λ y. tt) (λ y. tt)

block_among : (b : Block) → Among (token_of (block_syntax b) ∷ []) (leaves (node g.Compound (block_derivation b) done) [])
block_among b = let q = block_begins b in subst (λ f. Among (token_of (block_syntax b) ∷ []) (leaves (node g.Compound f done) [])) (sym q.1) (among-keep (nothing_among (leaves q.0 [])))

-- the prefix, and then where the block begins
start_among : (x : BlockPrefix) (b : Block) → Full (d.prefixed (Some x) (node g.Compound (block_derivation b) done))
    → Among (named (Named x.class (expressions (map syntax_of x.arguments.items))) [] ++ (token_of (block_syntax b) ∷ [])) (leaves (d.prefixed (Some x) (node g.Compound (block_derivation b) done)) [])
start_among x b full =
    let es = x.arguments.items in
    let f = node g.Compound (block_derivation b) done in
    let own = identifier x.class (arguments (map derivation_of es) done) in
    let e = Named x.class (expressions (map syntax_of es)) in
    let all = arguments_full (map derivation_of es) f full in
    let is_named : Puts (named e) (leaves own) = n.keep (n.arguments_named (map derivation_of es) (map syntax_of es) done (λ r. r) (n.each_expr es) all.0 (λ full. n.none)) in
    subst (λ z. Among (named e [] ++ (token_of (block_syntax b) ∷ [])) z) (sym (ap (λ z. x.class.token.0 ∷ z) (arguments_end (map derivation_of es) f []) ∙ leaves_append own (leaves f [])))
    (among_both (named e []) (leaves own []) (token_of (block_syntax b) ∷ []) (leaves f []) (is_named.puts [] [] among-none) (block_among b))

start_ascends : (ws : List Token) (p : Tree) → IsTree ws p → Ascends 0 (in_start (program_syntax p).prefix (Mark (token_of (program_syntax p).block) ∷ []))
unfolding program_syntax
start_ascends ws p tree =
    let f = node g.Program (program_derivation p) done in
    let full = is_full-Full f (reads_full tree.reads) in
    go p.prefix full.1 (reads_ascend tree.reads [] tt)
  where
    go : (o : Option BlockPrefix) → Full (d.prefixed o (node g.Compound (block_derivation p.block) done)) → Ascends 0 (tokens (leaves (d.prefixed o (node g.Compound (block_derivation p.block) done)) []) [])
        → Ascends 0 (in_start (option_map t.prefix_syntax o) (Mark (token_of (block_syntax p.block)) ∷ []))
    go None full a = among_ascend 0 (token_of (block_syntax p.block) ∷ []) (leaves (node g.Compound (block_derivation p.block) done) []) (block_among p.block) a
    go (Some x) full a =
        let e = Named x.class (expressions (map syntax_of x.arguments.items)) in
        let i = token_of (block_syntax p.block) in
        subst (Ascends 0) (last_token (named e []) i)
        (among_ascend 0 (named e [] ++ (i ∷ [])) (leaves (d.prefixed (Some x) (node g.Compound (block_derivation p.block) done)) []) (start_among x p.block full) a)

-- ---- the tokens of a whole program

ordered : (o : Option Prefix) (b : BlockSyntax) → Ascends 0 (in_start o (Mark (token_of b) ∷ [])) → Ascends 0 (in_block b []) → Ascends 0 (in_start o (in_block b []))
ordered None b start a = a
ordered (Some x) (Begin i ds ss end) start a = joined 0 i (named (Named x.class x.arguments) []) (in_declarations ds (in_statements ss (Behind end ∷ []))) start a.1

within : (n : ℕ) (o : Option Prefix) (b : BlockSyntax) → Ascends 0 (in_start o (Mark (token_of b) ∷ [])) → AllBelow n (in_block b []) → AllBelow n (in_start o (in_block b []))
within n None b start a = a
within n (Some x) (Begin i ds ss end) start a = all_below 0 n i (named (Named x.class x.arguments) []) (in_block (Begin i ds ss end) []) a.0 start a

pub whole_ascends : (ws : List Token) (p : Tree) → IsTree ws p → Ascends 0 (in_whole (program_syntax p))
whole_ascends ws p tree = ordered (program_syntax p).prefix (program_syntax p).block (start_ascends ws p tree) (in_order ws p tree)

pub whole_within : (ws : List Token) (p : Tree) → IsTree ws p → AllBelow (length ws) (in_whole (program_syntax p))
whole_within ws p tree = within (length ws) (program_syntax p).prefix (program_syntax p).block (start_ascends ws p tree) (in_text ws p tree)
