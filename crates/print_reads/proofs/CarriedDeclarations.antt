-- Parts of declarations of two derivations of one shape.
use Rattle.std.proofs.Common.{◌≡◌, Bool, true, false, List, [], ◌∷◌, ◌++◌, Option, Some, None, refl, sym, ap, ◌∙◌, append_assoc, map}
use Rattle.std.proofs.lemmas.Bool.{false≢true}
use Rattle.sim_base.specs.Lexeme.{bare, bytes_of}
use Rattle.sim_base.specs.declared.token.Lexeme.{Lexeme}
use Rattle.sim_base.specs.declared.token.TokenKind.TheVariants as k
use Rattle.sim_base.specs.declared.token.TokenValue.TheVariants as token_value
use Rattle.sim_tree.specs.declared.expr.Identifier.{Identifier}
use Rattle.sim_tree.specs.declared.stmt.Constant.{Constant}
use Rattle.sim_tree.specs.declared.stmt.TypeName.{TypeName}
use Rattle.sim_tree.specs.declared.stmt.Variable.{Variable}
use Rattle.sim_tree.specs.Grammar as g
use Rattle.sim_tree.specs.Grammar.{Here, Kept, Many, Mark, Maybe, Of, Once, Part, Symbol, rows}
use Rattle.sim_tree.specs.Syntax as s
use Rattle.sim_tree.specs.Syntax.{Arrayed, BoundPair, Heading, Interface, Moded, Protected, Specification, Specified, Virtual}
use Rattle.sim_print.specs.Spelling.{each}
use Rattle.sim_print.specs.Tokens as token
use Rattle.sim_print.specs.Tokens.{behind_comma, name, one}
use Rattle.sim_print.specs.Unnumbered as u
use Rattle.sim_tree.proofs.ReadBack as r
use Rattle.sim_tree.proofs.ReadBack.{Item, item_of}
use Rattle.print_reads.proofs.Carried.{Carried, InRows, Lists, also, ap2, ap3, behind, bound, lead, const, first, head, here_at, here_else, kept, kind, kind_of, last, later, mark, moding, names, next_bound, next_name, next_segment, next_variable, no_more, none, of_type, only, part, procedure, segment, sort, specifying, then, unless, value, valued, variable, virtually, virtuals}
use Rattle.print_reads.proofs.CarriedExpressions.{Gives}

-- ---- names

pub next_identifier : Gives g.NextIdentifier
next_identifier _ _ _ _ here_at (mark (kept i j only none)) = next_name refl refl

more_names : {l m : List Item} {ls : List Lexeme} → Lists (Of Many g.NextIdentifier ∷ []) l m ls
    → (each (behind_comma name) (r.more_names l) ≡ ls) × (map u.identifier (r.more_names l) ≡ map u.identifier (r.more_names m))
more_names (part (next_name e h) q) = let more = more_names q in (then e more.0, ap2 (λ x xs. x ∷ xs) h more.1)
more_names (no_more none) = (refl, refl)

pub identifiers : Gives g.Identifiers
identifiers _ _ _ _ here_at (kept i j {held = held} only q) =
    let more = more_names q in
    names (ap (λ z. name (r.named_by i (bytes_of held)) ++ z) more.0) (ap (λ z. u.identifier (r.named_by 0 (bytes_of held)) ∷ z) more.1)

-- ---- variables

-- `ref` stands in front of a class
abbrev pub is_ref : List Item → Bool
is_ref (r.Tok i k.Ref held ∷ l) = true
is_ref _ = false

abbrev pub is_choice : List Symbol → Bool
is_choice (Kept (a ∷ b ∷ others) ∷ x) = true
is_choice _ = false

pub type_name : (right : List Symbol) (l m : List Item) (ls : List Lexeme) → InRows (rows g.TypeName) right → (is_choice right ≡ true → is_ref l ≡ false) → Lists right l m ls
    → Carried (sort g.TypeName) (item_of g.TypeName l) (item_of g.TypeName m) ls
type_name _ _ _ _ here_at plain (kept i j only (mark (kept i' j' only (mark none)))) = kind refl refl
type_name _ _ _ _ (behind here_at) plain (kept i j first none) = kind refl refl
type_name _ _ _ _ (behind here_at) plain (kept i j (later first) none) = kind refl refl
type_name _ _ _ _ (behind here_at) plain (kept i j (later (later first)) none) = kind refl refl
type_name _ _ _ _ (behind here_at) plain (kept i j (later (later (later first))) none) = kind refl refl
type_name _ _ _ _ (behind here_at) plain (kept i j (later (later (later (later only)))) none) = absurd (false≢true (sym (plain refl)))

pub constant_part : Gives g.Constant
constant_part _ _ _ _ here_at (kept i j first (kept i' j' only none)) = const refl refl
constant_part _ _ _ _ here_at (kept i j (later only) (kept i' j' only none)) = const refl refl
constant_part _ _ _ _ (behind here_at) (kept i j first none) = const refl refl
constant_part _ _ _ _ (behind here_at) (kept i j (later first) none) = const refl refl
constant_part _ _ _ _ (behind here_at) (kept i j (later (later first)) none) = const refl refl
constant_part _ _ _ _ (behind here_at) (kept i j (later (later (later first))) none) = const refl refl
constant_part _ _ _ _ (behind here_at) (kept i j (later (later (later (later only)))) none) = const refl refl

pub value_part : Gives g.Value
value_part _ _ _ _ here_at (mark (part (const e h) none)) = valued (lead (bare k.Equal) (last e)) h

abbrev variable_with : Identifier → Option Constant → Variable
variable_with x held = record { name = x; value = held }

pub variable_part : Gives g.Variable
variable_part _ _ _ _ here_at (kept i j {held = held} only (part (valued e h) none)) =
    let x = r.named_by i (bytes_of held) in
    variable (ap (λ z. name x ++ z) (last e)) (ap (λ z. variable_with (u.identifier x) (Some z)) h)
variable_part _ _ _ _ here_at (kept i j only (unless none)) = variable refl refl

pub next_variable_part : Gives g.NextVariable
next_variable_part _ _ _ _ here_at (mark (part (variable e h) none)) = next_variable (lead (bare k.Comma) (last e)) h

more_variables : {l m : List Item} {ls : List Lexeme} → Lists (Of Many g.NextVariable ∷ []) l m ls
    → (each (behind_comma token.variable_tokens) (r.variables l) ≡ ls) × (map u.variable (r.variables l) ≡ map u.variable (r.variables m))
more_variables (part (next_variable e h) q) = let more = more_variables q in (then e more.0, ap2 (λ x xs. x ∷ xs) h more.1)
more_variables (no_more none) = (refl, refl)

-- ---- arrays

pub bounds_part : Gives g.Bounds
bounds_part _ _ _ _ here_else (part (value e h) (mark (part (value e' h') none))) =
    bound (then e (lead (bare k.Colon) (last e'))) (ap2 (λ x y. let z : BoundPair = record { lower = x; upper = y } in z) h h')

pub next_bounds_part : Gives g.NextBounds
next_bounds_part _ _ _ _ here_at (mark (part (bound e h) none)) = next_bound (lead (bare k.Comma) (last e)) h

more_bounds : {l m : List Item} {ls : List Lexeme} → Lists (Of Many g.NextBounds ∷ Mark k.Close ∷ []) l m ls
    → (each (behind_comma token.bound_tokens) (r.bounds l) ++ one k.Close ≡ ls) × (map u.bounds (r.bounds l) ≡ map u.bounds (r.bounds m))
more_bounds (part {l = l} (next_bound {a = b} e h) q) =
    let more = more_bounds q in
    (append_assoc (behind_comma token.bound_tokens b) (each (behind_comma token.bound_tokens) (r.bounds l)) (one k.Close) ∙ then e more.0, ap2 (λ x xs. x ∷ xs) h more.1)
more_bounds (no_more (mark none)) = (refl, refl)

pub array_segment : Gives g.ArraySegment
array_segment _ _ _ _ here_else (part (names e h) (mark (part {l = l} (bound {a = b} e' h') q))) =
    let more = more_bounds q in
    segment (then e (lead (bare k.Open) (append_assoc (token.bound_tokens b) (each (behind_comma token.bound_tokens) (r.bounds l)) (one k.Close) ∙ then e' more.0)))
    (ap3 (λ xs y ys. let z : Arrayed = record { names = xs; bounds = y ∷ ys } in z) h h' more.1)

pub next_array_segment : Gives g.NextArraySegment
next_array_segment _ _ _ _ here_at (mark (part (segment e h) none)) = next_segment (lead (bare k.Comma) (last e)) h

more_segments : {l m : List Item} {ls : List Lexeme} → Lists (Of Many g.NextArraySegment ∷ []) l m ls
    → (each (behind_comma token.array_tokens) (r.segments l) ≡ ls) × (map u.arrays (r.segments l) ≡ map u.arrays (r.segments m))
more_segments (part (next_segment e h) q) = let more = more_segments q in (then e more.0, ap2 (λ x xs. x ∷ xs) h more.1)
more_segments (no_more none) = (refl, refl)

pub typed_declaration : Gives g.TypedDeclaration
typed_declaration _ _ _ _ here_at (kept i j only (part (procedure e h) none)) =
    of_type (λ t. e (Some t) i ∙ ap (λ z. token.type_tokens t ++ (one k.Procedure ++ z)) (last refl)) (λ a b same. h (Some a) (Some b) i j (ap Some same))
typed_declaration _ _ _ _ (behind here_at) (kept i j only (part (segment e h) q)) =
    let more = more_segments q in
    of_type (λ t. ap (λ z. token.type_tokens t ++ (one k.Array ++ z)) (then e more.0)) (λ a b same. ap3 (λ t y ys. s.Arrays t 0 (y ∷ ys)) same h more.1)
typed_declaration _ _ _ _ (behind (behind here_at)) (part (variable e h) q) =
    let more = more_variables q in
    of_type (λ t. ap (λ z. token.type_tokens t ++ z) (then e more.0)) (λ a b same. ap3 (λ t y ys. s.Variables t (y ∷ ys)) same h more.1)

-- ---- headings

abbrev moded : Moded → List Identifier → Moded
moded m xs = record { token = 0; mode = m.mode; names = xs }

pub mode : Gives g.Mode
mode _ _ _ _ here_at (kept i j first (part {ls = ls} (names e h) (mark none))) =
    moding (lead (bare k.Value) (then e refl)) (ap (λ xs. moded (r.mode_of (r.Tok i k.Value token_value.Absent ∷ [])) xs) h)
mode _ _ _ _ here_at (kept i j (later only) (part (names e h) (mark none))) =
    moding (lead (bare k.Name) (then e refl)) (ap (λ xs. moded (r.mode_of (r.Tok i k.Name token_value.Absent ∷ [])) xs) h)

pub specified_kind : Gives g.SpecifiedKind
specified_kind _ _ _ _ here_at (kept i j first none) = kind_of (λ t. refl) (λ a b same. ap (λ t. s.Array t 0) same)
specified_kind _ _ _ _ here_at (kept i j (later only) none) = kind_of (λ t. refl) (λ a b same. ap (λ t. s.Procedure (Some t) 0) same)

abbrev specification_with : Specified → List Identifier → Specification
specification_with x xs = record { kind = x; names = xs }

pub specification : Gives g.Specification
specification _ _ _ _ here_at (part {front = w} (kind {a = a} {b = b} e h) (part {front = x} (kind_of {f = f} e' h') (part {front = y} (names e'' h'') (mark none)))) =
    specifying (then (e' a ∙ ap (λ z. z ++ x) e) (then e'' refl) ∙ append_assoc w x (y ++ one k.Semicolon)) (ap2 specification_with (h' a b h) h'')
specification _ _ _ _ here_at (part (kind e h) (unless (part (names e' h') (mark none)))) =
    specifying (then e (then e' refl)) (ap2 (λ t xs. specification_with (s.Simple t) xs) h h')
specification _ _ _ _ (behind here_at) (kept i j only (part (names e h) (mark none))) =
    specifying (lead (bare k.Procedure) (then e refl)) (ap (specification_with (s.Procedure None 0)) h)

-- the specifications of a heading
more_specifications : {l m : List Item} {ls : List Lexeme} → Lists (Of Many g.Specification ∷ []) l m ls
    → (each token.specification_tokens (r.specifications l) ≡ ls) × (map u.specification (r.specifications l) ≡ map u.specification (r.specifications m)) × (r.modes l ≡ []) × (r.modes m ≡ [])
more_specifications (part (specifying e h) q) = let more = more_specifications q in (then e more.0, ap2 (λ x xs. x ∷ xs) h more.1, more.2, more.3)
more_specifications (no_more none) = (refl, refl, refl, refl)

-- modes, and then specifications
pub record Headed (l m : List Item) (ls : List Lexeme) : Type 0 where
  pub tokens : each token.mode_tokens (r.modes l) ++ each token.specification_tokens (r.specifications l) ≡ ls
  pub modes : map u.moded (r.modes l) ≡ map u.moded (r.modes m)
  pub specifications : map u.specification (r.specifications l) ≡ map u.specification (r.specifications m)

modes_part : {l m : List Item} {ls : List Lexeme} → Lists (Of Many g.Mode ∷ Of Once g.Specification ∷ Of Many g.Specification ∷ []) l m ls → Headed l m ls
modes_part (part {l = l} (moding {a = x} e h) q) =
    let more = modes_part q in
    record {
      tokens = append_assoc (token.mode_tokens x) (each token.mode_tokens (r.modes l)) (each token.specification_tokens (r.specifications l)) ∙ then e more.tokens;
      modes = ap2 (λ x xs. x ∷ xs) h more.modes;
      specifications = more.specifications;
    }
modes_part (no_more (part {l = l} (specifying {a = x} e h) q)) =
    let more = more_specifications q in
    record {
      tokens = ap (λ z. each token.mode_tokens z ++ each token.specification_tokens (x ∷ r.specifications l)) more.2 ∙ then e more.0;
      modes = ap (map u.moded) (more.2 ∙ sym more.3);
      specifications = ap2 (λ x xs. x ∷ xs) h more.1;
    }

abbrev three : List Identifier → List Moded → List Specification → List Identifier × List Moded × List Specification
three xs ms ss = (xs, ms, ss)

pub heading : Gives g.Heading
heading _ _ _ _ here_at (mark (part {l = l} (names {a = a} {xs = xs} e h) (mark (mark q)))) =
    let more = modes_part q in
    let behind_formals = each token.mode_tokens (r.modes l) ++ each token.specification_tokens (r.specifications l) in
    head
    (λ x. ap (λ z. name x ++ (bare k.Open ∷ z)) (append_assoc (token.names (a ∷ xs)) (one k.Close) (bare k.Semicolon ∷ behind_formals) ∙ then e (ap (λ z. bare k.Close ∷ bare k.Semicolon ∷ z) more.tokens)))
    (λ x y same. ap2 (λ z w. let v : Heading = record { name = z; formals = w.0; modes = w.1; specifications = w.2 } in v) same (ap3 three h more.modes more.specifications))
heading _ _ _ _ (behind here_at) (mark none) = head (λ x. refl) (λ x y same. ap (λ z. let w : Heading = record { name = z; formals = []; modes = []; specifications = [] } in w) same)

-- ---- what a class declares

pub and_protected : Gives g.AndProtected
and_protected _ _ _ _ here_at (kept i j only none) = also refl

pub and_hidden : Gives g.AndHidden
and_hidden _ _ _ _ here_at (kept i j only none) = also refl

abbrev virtual_with : Option TypeName → List Identifier → Virtual
virtual_with result xs = record { result = result; token = 0; names = xs }

pub virtual_specification : Gives g.VirtualSpecification
virtual_specification _ _ _ _ here_at (part (kind e h) (kept i j only (part (names e' h') (mark none)))) =
    virtually (then e (lead (bare k.Procedure) (then e' refl))) (ap2 (λ t xs. virtual_with (Some t) xs) h h')
virtual_specification _ _ _ _ (behind here_at) (kept i j only (part (names e h) (mark none))) =
    virtually (lead (bare k.Procedure) (then e refl)) (ap (virtual_with None) h)

more_virtuals : {l m : List Item} {ls : List Lexeme} → Lists (Of Many g.VirtualSpecification ∷ []) l m ls
    → (each token.virtual_tokens (r.each_virtual l) ≡ ls) × (map u.virtually (r.each_virtual l) ≡ map u.virtually (r.each_virtual m))
more_virtuals (part (virtually e h) q) = let more = more_virtuals q in (then e more.0, ap2 (λ x xs. x ∷ xs) h more.1)
more_virtuals (no_more none) = (refl, refl)

pub virtuals_part : Gives g.Virtuals
virtuals_part _ _ _ _ here_at (mark (mark (part (virtually e h) q))) =
    let more = more_virtuals q in
    virtuals (lead (bare k.Virtual) (lead (bare k.Colon) (then e more.0))) (ap2 (λ x xs. x ∷ xs) h more.1)
