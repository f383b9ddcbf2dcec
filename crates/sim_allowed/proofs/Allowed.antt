-- What the static rules allow is typed.
use Rattle.std.proofs.Common.{◌≡◌, ◌≤◌, ◌<◌, ◌+◌, ℕ, Bool, true, false, List, [], ◌∷◌, length, Option, Some, None, refl, sym, ap, ◌∙◌, subst, arith, if◌then◌else◌}
use Rattle.std.proofs.lemmas.Bool.Decides.{nat_tests}
use Rattle.std.proofs.lemmas.List.{length-map}
use Rattle.std.specs.Prelude.{nat_eq}
use Rattle.sim_base.specs.declared.token.Token.{Token as Word}
use Rattle.sim_scope.specs.declared.found.Fault.{Fault}
use Rattle.sim_scope.specs.declared.scopes.Denotation.{Denotation}
use Rattle.sim_scope.specs.declared.types.SimType.{SimType}
use Rattle.sim_scope.specs.Declare.{declared_by}
use Rattle.sim_scope.specs.Source.{Source}
use Rattle.sim_scope.specs.Statements.{judging}
use Rattle.sim_scope.specs.Tables.{Tables}
use Rattle.sim_scope.specs.Walk.{program_events}
use Rattle.sim_tree.specs.declared.program.Program.{Program as Tree}
use Rattle.sim_tree.specs.Filled.{Filled}
use Rattle.sim_tree.specs.Order.{AllBelow, Ascends, Behind, Spot, Token}
use Rattle.sim_tree.specs.Syntax.{Program}
use Rattle.sim_tree.specs.SyntaxOfProgram.{program_syntax}
use Rattle.sim_tree.specs.Tree.{IsTree, line}
use Rattle.sim_tree.proofs.Filled.{filled as program_filled}
use Rattle.sim_static.specs.Check.{Allowed, answer, check_of, completed, first_answer, first_least, judged, last_answer, second_answer, second_least}
use Rattle.sim_sound.specs.Held.{Place}
use Rattle.sim_sound.specs.Typed.{Typed}
use Rattle.sim_agree.specs.Order.{InOrder}
use Rattle.sim_allowed.proofs.Counts.{About, told}
use Rattle.sim_allowed.proofs.Expressions.{AllNear}
use Rattle.sim_allowed.proofs.LastRound.{round_says}
use Rattle.sim_allowed.proofs.Ordered.{in_order}
use Rattle.sim_allowed.proofs.ToldProgram.{Fills, among}
use Rattle.sim_allowed.proofs.ToldStatements.{program_fills, told_once}
use Rattle.sim_allowed.proofs.Said.{AllSay}
use Rattle.sim_allowed.proofs.StartOrder.{in_whole, whole_ascends, whole_within}
use Rattle.sim_allowed.proofs.Whole.{Agreed, said_typed}

-- what an allowed program's check says: no round finds a broken rule, and what the last one tells is the source's
pub record Passed (s : Source) (n : ℕ) (p : Program) : Type 0 where
  pub tables_are : s.tables ≡ completed (declared_by p).tables p
  pub first : first_least (declared_by p) ≡ None
  pub second : second_least s.tables ≡ None
  pub clean : (judged n s.tables p).least ≡ None
  pub uses_are : s.uses ≡ (judged n s.tables p).uses
  pub places_are : s.found_in ≡ (judged n s.tables p).found_in
  pub types_are : s.types ≡ (judged n s.tables p).types

-- in these tables
record PassedIn (t : Tables) (n : ℕ) (p : Program) (uses : List (Option Denotation)) (found_in : List (Option ℕ)) (types : List (Option SimType)) : Type 0 where
  first : first_least (declared_by p) ≡ None
  second : second_least t ≡ None
  clean : (judged n t p).least ≡ None
  uses_are : uses ≡ (judged n t p).uses
  places_are : found_in ≡ (judged n t p).found_in
  types_are : types ≡ (judged n t p).types

pub passed : (n : ℕ) (p : Program) (s : Source) → answer n p ≡ Allowed s.tables s.uses s.found_in s.types → Passed s n p
unfolding answer
passed n p s e = first (first_least (declared_by p)) refl e
  where
    t : Tables
    t = completed (declared_by p).tables p

    last : first_least (declared_by p) ≡ None → second_least t ≡ None → (o : Option Fault) → (judged n t p).least ≡ o → last_answer t (judged n t p) o ≡ Allowed s.tables s.uses s.found_in s.types → Passed s n p
    last one two None clean e =
        let is : s.tables ≡ t = cc in
        let uses : s.uses ≡ (judged n t p).uses = cc in
        let places : s.found_in ≡ (judged n t p).found_in = cc in
        let types : s.types ≡ (judged n t p).types = cc in
        let all = subst (λ z. PassedIn z n p s.uses s.found_in s.types) (sym is) (record { first = one; second = two; clean = clean; uses_are = uses; places_are = places; types_are = types }) in
        record { tables_are = is; first = all.first; second = all.second; clean = all.clean; uses_are = all.uses_are; places_are = all.places_are; types_are = all.types_are }
    last one two (Some f) clean e = absurd (cc)

    second : first_least (declared_by p) ≡ None → (o : Option Fault) → second_least t ≡ o → second_answer n p t o ≡ Allowed s.tables s.uses s.found_in s.types → Passed s n p
    second one None two e = last one two (judged n t p).least refl e
    second one (Some f) two e = absurd (cc)

    first : (o : Option Fault) → first_least (declared_by p) ≡ o → first_answer n p (declared_by p).tables o ≡ Allowed s.tables s.uses s.found_in s.types → Passed s n p
    first None one e = second one (second_least t) refl e
    first (Some f) one e = absurd (cc)

-- a token of which something is told is one of the text
below : (n t : ℕ) (l : List Spot) → AllBelow n l → 1 ≤ among t l → t < n
below n t [] a le = absurd (omega (arith, le))
below n t (Token x ∷ l) a le = go (λ le. below n t l a.1 le) (nat_eq t x) refl le
  where
    go : (1 ≤ among t l → t < n) → (b : Bool) → nat_eq t x ≡ b → 1 ≤ (if b then 1 else 0) + among t l → t < n
    go deep true e le = let same : t ≡ x = grind (arith, nat_tests, e) in let low = a.0 in omega (arith, same, low)
    go deep false e le = deep (omega (arith, le))
below n t (Behind x ∷ l) a le = below n t l a le

within_text : (s : Tables) (p : Program) (n : ℕ) → AllBelow n (in_whole p) → (k : About) (i : ℕ) → 1 ≤ told k i (program_events (judging s) p) → i < n
unfolding Fills
within_text s p n all k i le = let most = program_fills s p k i in below n i (in_whole p) all (omega (arith, most, le))

-- What is known of an allowed program, beside what its tables say.
pub record AllowedIs (s : Source) : Type 0 where
  pub tables : s.tables ≡ completed (declared_by s.program).tables s.program
  pub first : first_least (declared_by s.program) ≡ None
  pub second : second_least s.tables ≡ None
  pub order : InOrder s.program
  pub filled : Filled s.program
  pub says : AllSay s (program_events (judging s.tables) s.program)

pub allowed_says : (ws : List Word) (tree : Tree) (s : Source) → IsTree ws tree → s.program ≡ program_syntax tree → check_of tree ≡ Allowed s.tables s.uses s.found_in s.types → AllowedIs s
unfolding judged
allowed_says ws tree s is same allowed =
    let n = length tree.lines.items in
    let x = subst (λ z. Passed s n z) (sym same) (passed n (program_syntax tree) s allowed) in
    let order = subst InOrder (sym same) (in_order ws tree is) in
    let ascends = subst (λ z. Ascends 0 (in_whole z)) (sym same) (whole_ascends ws tree is) in
    let lines : n ≡ length ws = ap length is.lines ∙ length-map ws line in
    let inside = subst (λ z. AllBelow z (in_whole s.program)) (sym lines) (subst (λ z. AllBelow (length ws) (in_whole z)) (sym same) (whole_within ws tree is)) in
    record {
      tables = x.tables_are;
      first = x.first;
      second = x.second;
      order = order;
      filled = subst Filled (sym same) (program_filled ws tree is);
      says = round_says s n (program_events (judging s.tables) s.program) x.clean x.uses_are x.places_are x.types_are (told_once s.tables s.program ascends) (within_text s.tables s.program n inside);
    }

-- an allowed program is typed where its tables agree with its texts, and the class of each type is declared around
pub allowed_typed_where : (s : Source) → AllowedIs s → Agreed s → ((f : Place) → AllNear s f) → Typed s
allowed_typed_where s a agreed near = said_typed s agreed a.filled a.says near
