-- Blocks, declarations and programs of two derivations of one shape.
use Rattle.std.proofs.Common.{◌≡◌, ℕ, List, [], ◌∷◌, ◌++◌, Option, Some, None, refl, ap, ◌∙◌, append_assoc, map}
use Rattle.sim_base.specs.Lexeme.{bare, bytes_of}
use Rattle.sim_base.specs.declared.token.Lexeme.{Lexeme}
use Rattle.sim_base.specs.declared.token.TokenKind.TheVariants as k
use Rattle.sim_base.specs.declared.token.TokenValue.{TokenValue}
use Rattle.sim_tree.specs.declared.expr.Identifier.{Identifier}
use Rattle.sim_tree.specs.Grammar as g
use Rattle.sim_tree.specs.Grammar.{Here, Kept, Many, Mark, Maybe, Of, Once, Part, Symbol, rows}
use Rattle.sim_tree.specs.Syntax as s
use Rattle.sim_tree.specs.Syntax.{Block, Declaration, Expressions, Interface, Prefix, Program, Protected, Statement, Statements, Virtual}
use Rattle.sim_print.specs.Spelling.{each}
use Rattle.sim_print.specs.Tokens as token
use Rattle.sim_print.specs.Tokens.{name, one}
use Rattle.sim_print.specs.Unnumbered as u
use Rattle.sim_tree.proofs.ReadBack as r
use Rattle.sim_tree.proofs.ReadBack.{Contents, Item, item_of}
use Rattle.print_reads.proofs.Carried.{Carried, IsProtecting, Lists, SameContents, actuals, also, any, ap2, ap3, begun, behind, body, lead, class, contents_tokens, declaration, ended, head, here, here_at, here_else, inside, kept, kind, last, led, mark, names, no_more, none, of_name, of_type, only, part, procedure, protecting, statement, then, unless, virtuals, whole}
use Rattle.print_reads.proofs.CarriedExpressions.{Gives}

-- ---- procedures and classes

pub procedure_part : Gives g.Procedure
procedure_part _ _ _ _ here_else (kept i j {held = held} only (part (head f h) (part (statement e h') (here m n none)))) =
    let x = r.named_by i (bytes_of held) in
    let y = r.named_by j (bytes_of held) in
    procedure (λ t i. ap (λ z. token.result_tokens t ++ (one k.Procedure ++ z)) (then (f x) (last e))) (λ a b i j same. ap3 (λ t z w. s.DeclareProcedure t 0 z w 0) same (h x y refl) h')

-- attributes that a class hides and protects, in this order
pub hidden : (l m : List Item) (ls : List Lexeme) → Lists (Kept (k.Hidden ∷ []) ∷ Of Maybe g.AndProtected ∷ Of Once g.Identifiers ∷ Mark k.Semicolon ∷ []) l m ls
    → Carried IsProtecting (item_of g.Protection l) (item_of g.Protection m) ls
hidden l m ls (kept i j only (part (also e) (part (names e' h) (mark none)))) =
    protecting (lead (bare k.Hidden) (then e (then e' refl))) (ap (λ xs. let z : Protected = record { hidden = Some 0; protected = Some 0; names = xs } in z) h)
hidden l m ls (kept i j only (unless (part (names e h) (mark none)))) =
    protecting (lead (bare k.Hidden) (then e refl)) (ap (λ xs. let z : Protected = record { hidden = Some 0; protected = None; names = xs } in z) h)

-- or protects alone
pub protected : (l m : List Item) (ls : List Lexeme) → Lists (Kept (k.Protected ∷ []) ∷ Of Once g.Identifiers ∷ Mark k.Semicolon ∷ []) l m ls
    → Carried IsProtecting (item_of g.Protection l) (item_of g.Protection m) ls
protected l m ls (kept i j only (part (names e h) (mark none))) =
    protecting (lead (bare k.Protected) (then e refl)) (ap (λ xs. let z : Protected = record { hidden = None; protected = Some 0; names = xs } in z) h)

-- or both, the other way round in the first
pub both_ways : (i j i' j' : ℕ) (held held' : TokenValue) (l m : List Item) (ls : List Lexeme) → Lists (Of Once g.Identifiers ∷ Mark k.Semicolon ∷ []) l m ls
    → Carried IsProtecting (item_of g.Protection (r.Tok i k.Protected held ∷ r.Also j ∷ l)) (item_of g.Protection (r.Tok i' k.Hidden held' ∷ r.Also j' ∷ m)) (bare k.Hidden ∷ bare k.Protected ∷ ls)
both_ways i j i' j' held held' l m ls (part (names e h) (mark none)) =
    protecting (lead (bare k.Hidden) (lead (bare k.Protected) (then e refl))) (ap (λ xs. let z : Protected = record { hidden = Some 0; protected = Some 0; names = xs } in z) h)

abbrev interface_in : List Item → Interface
interface_in l = record { protections = r.protections l; virtuals = r.virtuals l }

-- what stands behind the heading of a class
pub record Classed (l m : List Item) (ls : List Lexeme) : Type 0 where
  pub tokens : (each token.protection_tokens (r.protections l) ++ token.virtual_part (r.virtuals l)) ++ token.statement (r.statement_in l) ≡ ls
  pub protections : map u.protected (r.protections l) ≡ map u.protected (r.protections m)
  pub virtuals : map u.virtually (r.virtuals l) ≡ map u.virtually (r.virtuals m)
  pub statement : u.statement (r.statement_in l) ≡ u.statement (r.statement_in m)

classed : {l m : List Item} {ls : List Lexeme} → Lists (Of Many g.Protection ∷ Of Maybe g.Virtuals ∷ Of Once g.Statement ∷ Here ∷ []) l m ls → Classed l m ls
classed (part {l = l} (protecting {a = a} e h) q) =
    let more = classed q in
    let first = token.protection_tokens a in
    let others = each token.protection_tokens (r.protections l) in
    let written = token.virtual_part (r.virtuals l) in
    let body = token.statement (r.statement_in l) in
    record {
      tokens = ap (λ z. z ++ body) (append_assoc first others written) ∙ append_assoc first (others ++ written) body ∙ then e more.tokens;
      protections = ap2 (λ x xs. x ∷ xs) h more.protections;
      virtuals = more.virtuals;
      statement = more.statement;
    }
classed (no_more (part (virtuals e h) (part (statement e' h') (here i j none)))) = record { tokens = then e (last e'); protections = refl; virtuals = h; statement = h' }
classed (no_more (unless (part (statement e h) (here i j none)))) = record { tokens = last e; protections = refl; virtuals = refl; statement = h }

abbrev classy : Option Identifier × s.Heading → Interface × Statement → Declaration
classy v w = s.DeclareClass v.0 0 v.1 w.0 w.1 0

abbrev interfaced : List Protected → List Virtual → Statement → Interface × Statement
interfaced ps vs x = (record { protections = ps; virtuals = vs }, x)

pub class_part : Gives g.Class
class_part _ _ _ _ here_else (kept i j {held = held} only (part (head f h) q)) =
    let x = r.named_by i (bytes_of held) in
    let y = r.named_by j (bytes_of held) in
    let more = classed q in
    class (λ t i. ap (λ z. token.class_prefix t ++ (one k.Class ++ z)) (then (f x) more.tokens))
    (λ a b i j same. ap2 classy (ap2 (λ t z. (t, z)) same (h x y refl)) (ap3 interfaced more.protections more.virtuals more.statement))

-- ---- declarations

pub declaration_part : Gives g.Declaration
declaration_part _ _ _ _ here_at (part (kind {a = a} {b = b} e h) (part (of_type f i) none)) = declaration (f a ∙ then e (last refl)) (i a b h)
declaration_part _ _ _ _ (behind here_at) (kept i j only (part (procedure f h) none)) = declaration (f None i ∙ lead (bare k.Procedure) (last refl)) (h None None i j refl)
declaration_part _ _ _ _ (behind (behind here_at)) (kept i j only (part (class f h) none)) = declaration (f None i ∙ lead (bare k.Class) (last refl)) (h None None i j refl)

-- ---- blocks

more_statements : {l m : List Item} {ls : List Lexeme} → Lists (Of Many g.NextStatement ∷ Kept (k.End ∷ []) ∷ []) l m ls
    → (token.further_statements (r.listed l) ++ one k.End ≡ ls) × (u.statements (r.listed l) ≡ u.statements (r.listed m))
more_statements (part {l = l} (led {a = a} e h) q) =
    let more = more_statements q in
    (ap (λ z. bare k.Semicolon ∷ z) (append_assoc (token.statement a) (token.further_statements (r.listed l)) (one k.End)) ∙ then e more.0, ap2 s.Also h more.1)
more_statements (no_more (kept i j only none)) = (refl, refl)

-- a declaration in front of what stands behind it
declared_written : (d : Declaration) (a : Contents) {front stop ls : List Lexeme} → token.declaration d ≡ front → one k.Semicolon ≡ stop → contents_tokens a ≡ ls
    → contents_tokens (r.also_declared d a) ≡ front ++ (stop ++ (ls ++ []))
declared_written d a e e' e'' =
    append_assoc (token.declaration d) (bare k.Semicolon ∷ token.declarations a.declarations) (token.statements a.statements ++ one k.End) ∙ then e (then e' (last e''))

declared_same : (d e : Declaration) (a b : Contents) → u.declaration d ≡ u.declaration e → SameContents a b → SameContents (r.also_declared d a) (r.also_declared e b)
declared_same d e a b h all = record { declarations = ap2 s.With h all.declarations; statements = all.statements }

-- a statement in front of those behind it
stated_written : (x : Statement) (l : List Item) {front ls : List Lexeme} → token.statement x ≡ front → token.further_statements (r.listed l) ++ one k.End ≡ ls → contents_tokens (r.stated x l) ≡ front ++ ls
stated_written x l e more = append_assoc (token.statement x) (token.further_statements (r.listed l)) (one k.End) ∙ then e more

stated_same : (x y : Statement) (l m : List Item) → u.statement x ≡ u.statement y → u.statements (r.listed l) ≡ u.statements (r.listed m) → SameContents (r.stated x l) (r.stated y m)
stated_same x y l m h more = record { declarations = refl; statements = ap2 s.Also h more }

pub block_part : Gives g.Block
block_part _ _ _ _ here_at (part (declaration {a = d} {b = d'} e h) (part (ended e') (any (part (inside {a = a} {b = b} e'' h'') none)))) =
    inside (declared_written d a e e' e'') (declared_same d d' a b h h'')
block_part _ _ _ _ (behind here_at) (kept i j {held = held} only (part (of_name f h) none)) =
    let x = r.named_by i (bytes_of held) in inside (f x ∙ ap (λ z. name x ++ z) (last refl)) (h x (r.named_by j (bytes_of held)) refl)
block_part _ _ _ _ (behind (behind here_at)) (kept i j only none) = inside refl (record { declarations = refl; statements = refl })
block_part _ _ _ _ (behind (behind (behind here_at))) (part {l = l} {m = m} (statement {a = a} {b = b} e h) q) =
    let more = more_statements q in inside (stated_written a l e more.0) (stated_same a b l m h more.1)

pub after_identifier : Gives g.AfterIdentifier
after_identifier _ _ _ _ here_at (kept i j only (part (class {f = f} {h = f'} e h) (part (ended e') (any (part (inside {a = a} {b = b} e'' h'') none))))) =
    of_name (λ x. declared_written (f (Some x) i) a (e (Some x) i) e' e'') (λ x y same. declared_same (f (Some x) i) (f' (Some y) j) a b (h (Some x) (Some y) i j (ap Some same)) h'')
after_identifier _ _ _ _ (behind here_else) (part {l = l} {m = m} (begun {f = f} {h = f'} e h) q) =
    let more = more_statements q in
    of_name (λ x. stated_written (f x) l (e x) more.0) (λ x y same. stated_same (f x) (f' y) l m (h x y same) more.1)

pub compound : Gives g.Compound
compound _ _ _ _ here_at (kept i j only (any (part (inside e h) none))) =
    body (lead (bare k.Begin) (last e)) (ap2 (λ ds xs. s.Begin 0 ds xs 0) h.declarations h.statements)

-- ---- programs

abbrev prefixed : Identifier → Expressions → Block → Program
prefixed x es b = record { prefix = Some (record { class = x; arguments = es }); block = b }

pub program : Gives g.Program
unfolding token.program u.unnumbered
program _ _ _ _ here_at (part (body e h) (any (mark none))) = whole (then e refl) (ap (λ b. let p : Program = record { prefix = None; block = b } in p) h)
program _ _ _ _ (behind here_at) (kept i j {held = held} only (part (actuals {a = es} e h) (part (body {a = b} e' h') (any (mark none))))) =
    let x = r.named_by i (bytes_of held) in
    whole (ap (λ z. name x ++ z) (append_assoc (token.actuals es) (token.block b) (one k.EndOfSource) ∙ then e (then e' refl))) (ap2 (prefixed (u.identifier x)) h h')
program _ _ _ _ (behind here_at) (kept i j {held = held} only (unless (part (body e h) (any (mark none))))) =
    let x = r.named_by i (bytes_of held) in
    whole (ap (λ z. name x ++ z) (then e refl)) (ap (prefixed (u.identifier x) s.NoMore) h)
