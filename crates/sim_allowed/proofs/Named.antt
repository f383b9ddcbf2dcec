-- What identifiers and attributes behind dots are, with what stands behind them.
use Rattle.std.proofs.Common.{◌≡◌, ℕ, suc, ◌+◌, Bool, true, false, ◌⊎◌, inl, inr, length, Option, Some, None, refl, sym, ap, ◌∙◌, subst, arith, if◌then◌else◌}
use Rattle.std.proofs.lemmas.Bool.{false≢true}
use Rattle.std.proofs.lemmas.Bool.Decides.{nat_tests}
use Rattle.std.specs.Prelude.{nat_eq, not, ◌&&◌}
use Rattle.sim_base.specs.declared.numbering.DeclNo.{DeclNo}
use Rattle.sim_base.specs.declared.rule.Rule.TheVariants as r
use Rattle.sim_scope.specs.declared.outcome.Actuals.{Actuals}
use Rattle.sim_scope.specs.declared.outcome.Extent.{Extent}
use Rattle.sim_scope.specs.declared.outcome.Occurrence.{Occurrence}
use Rattle.sim_scope.specs.declared.outcome.Outcome.{Outcome}
use Rattle.sim_scope.specs.declared.outcome.Outcome.TheVariants as is
use Rattle.sim_scope.specs.declared.scopes.Denotation.{Denotation}
use Rattle.sim_scope.specs.declared.scopes.Denotation.TheVariants as denotation
use Rattle.sim_scope.specs.declared.standard.StandardName.{StandardName}
use Rattle.sim_scope.specs.declared.standard.StandardName.TheVariants as found
use Rattle.sim_scope.specs.declared.types.Entry.{Entry}
use Rattle.sim_scope.specs.declared.types.Entry.TheVariants as entry
use Rattle.sim_scope.specs.declared.types.SimType.{SimType}
use Rattle.sim_scope.specs.declared.types.SimType.TheVariants as t
use Rattle.sim_scope.specs.Actuals.{no_actuals, result_in as given_in}
use Rattle.sim_scope.specs.Access.{block_at}
use Rattle.sim_scope.specs.Calls.{alone, applied, applied_untyped, attribute, attribute_by_value, attribute_found, attribute_in, attribute_of_type, attribute_of_value, barred_if, declared_alone, declared_applied, if_own, is_barred, is_connection_at, is_inside, is_undotted, occurs, own_of, own_undotted, remote, remote_as, remote_at, remote_in, through_connection, used, used_or_barred, inside_match, match_seen}
use Rattle.sim_scope.specs.Judged.{Judged, bars, gives, next, telling}
use Rattle.sim_scope.specs.Levels.{class_block, has_classes}
use Rattle.sim_scope.specs.Outcomes.{side}
use Rattle.sim_scope.specs.Scopes.{binding, block_in, declared_or_standard, entry_of, formals_of, found_in, is_detach, result_in, result_of, shown, entry_is, is_virtual}
use Rattle.sim_scope.specs.Source.{Source, block_of, denoted, found_at, type_at}
use Rattle.sim_scope.specs.Standard.{signature, sysin_attribute, sysout_attribute, text_attribute}
use Rattle.sim_tree.specs.declared.expr.Identifier.{Identifier}
use Rattle.sim_tree.specs.Syntax.{Expression, Expressions, NoMore, Then}
use Rattle.sim_tree.specs.Syntax as syntax
use Rattle.sim_values.specs.declared.kind.Kind.TheVariants as kind
use Rattle.sim_values.specs.declared.standard.Standard.TheVariants as detach
use Rattle.sim_code.specs.Transfers.{Detaching}
use Rattle.sim_meaning.specs.Attributes.{connection_at, connection_in, is_connection, own_attribute, transfer_named}
use Rattle.sim_meaning.specs.Closing.{block_if, is_attribute_denoted, is_placed, own_block, own_block_denoted, own_result, result_meant, stream_denoted, stream_of, unless_connected, is_virtual_denoted, match_if_virtual, own_match, result_or_own, type_of_left}
use Rattle.sim_meaning.specs.Names.{procedure_named, stream_named}
use Rattle.sim_meaning.specs.Statements.{denoted_leaves}
use Rattle.sim_meaning.specs.Texts.{text}
use Rattle.sim_meaning.specs.Virtuals.{procedure_text, text_of_procedure}
use Rattle.sim_sound.specs.Held.{Around, Fits, In, InBound, Place, Refers, Simply, given_by as held_given, held_by, result_declared, result_holds, text_of}
use Rattle.sim_sound.specs.Expressions.{ActualsFit, AreIntegers, AreOf, BehindGives, DotGives, ExprIs, KnownAt, ObjectHas, ParametersAre, ThisFound}
use Rattle.sim_sound.specs.Statements.{LeftDeclared, LeftIs, LeftNamed, OwnText, ResultIs, LeftResultOr}
use Rattle.sim_agree.specs.Facts.{IsClass, PlainGiven, Tabled, MatchFits}
use Rattle.sim_meaning.specs.Checks.{denoted_passed, passed, value_passed}
use Rattle.sim_allowed.proofs.Actuals.{AllActuals, AllFit, size}
use Rattle.sim_allowed.proofs.Calls.{side_means}
use Rattle.sim_allowed.proofs.Classes.{class_held, class_row, own_level, simply}
use Rattle.sim_allowed.proofs.Declared.{UseIs, alone_means, with_means}
use Rattle.sim_allowed.proofs.Detached.{detach_stands}
use Rattle.sim_allowed.proofs.Matching.{result_kept}
use Rattle.sim_allowed.proofs.Meant.{CallGiven, CallsFor, InText, Means, OwnResult, ValueIs, MatchResult, NoOwn}
use Rattle.sim_allowed.proofs.Names.{IsProcedure, OfTexts, alone_proper, attribute_gives, attribute_proper, attribute_transfers_none, detach_alone, given_by, kinds_of, procedure_proper, procedure_transfers_none, standard_gives, standard_left, sysin_name, sysout_name, text_name}
use Rattle.sim_allowed.proofs.Nowhere.{is_nowhere}
use Rattle.sim_allowed.proofs.Said.{AllSay, next_says}
use Rattle.sim_allowed.proofs.Sights.{Sight}
use Rattle.sim_allowed.proofs.Simulations.{AttributeThere, attribute_there, either_attribute, level_classes}
use Rattle.sim_allowed.proofs.Uses.{BoundIs, KnownHere, bound_name, dot_calls, dot_detaches, dot_given, dot_use, known_here, named_use, own_declared, plain_given, standard_call, standard_transfers, standard_with, standard_without, unconnected_none, meant_without, no_match, standard_no_match, left_or}

pub from_zero : (n m : ℕ) → n ≡ 0 + m → n ≡ m
from_zero n m e = omega (arith, e)

nonzero : (n m : ℕ) → n ≡ 0 + suc m → nat_eq n 0 ≡ false
nonzero n m e = grind (arith, nat_tests, e)

same_token : (n : ℕ) → nat_eq n n ≡ true
same_token n = grind (arith, nat_tests)

-- a standard name that is no transfer of control is seen through no connection
plain_nowhere : (name : StandardName) → transfer_named (procedure_named name) ≡ None → is_nowhere (denotation.Standard name) ≡ true
plain_nowhere found.Sysin a = refl
plain_nowhere found.Sysout a = refl
plain_nowhere (found.Prefix which) a = refl
plain_nowhere (found.Procedure detach.Detach) a = absurd (let f : Some Detaching ≡ None = a in cc)
plain_nowhere (found.Procedure x) a = refl

unconnected : (s : Source) (e : Extent) (x : Identifier) (o : Occurrence) (b : BoundIs s e x o) (name : StandardName) → b.denotation ≡ denotation.Standard name → transfer_named (procedure_named name) ≡ None → connection_at s x.token.0 ≡ None
unfolding connection_at
unconnected s e x o b name is a = ap (connection_in s) (b.nowhere (ap is_nowhere is ∙ plain_nowhere name a))

-- ---- the result of a procedure, from its inside

module _ (s : Source) (known : Tabled s) (from : Place) (x : Identifier) (placed : block_at s.tables x.token.0 ≡ Some (text_of from)) (d : DeclNo) (says : denoted s x.token.0 ≡ Some (denotation.Declared d))
    (binds : binding s.tables x.token.0 x.name ≡ Some (denotation.Declared d)) (found_there : (block : ℕ) → found_in s.tables x.token.0 x.name ≡ Some block → found_at s x.token.0 ≡ Some block) where
  abbrev Alone : Expression
  Alone = syntax.Named x NoMore

  -- whether it is seen through a connection
  abbrev Connected : (c : Bool) → Type 0
  Connected c = (through_connection s.tables x ≡ c) × (c ≡ false → connection_at s x.token.0 ≡ None) × (c ≡ true → (k : ℕ) × (connection_at s x.token.0 ≡ Some k))

  connection_is : (c : Bool) × Connected c
  unfolding through_connection connection_at
  connection_is =
      let f = known.around x.token.0 (text_of from) x.name d placed binds in
      let at = found_there f.found f.at in
      go f.found f.at at (is_connection (text s f.found)) refl
    where
      go : (b : ℕ) → found_in s.tables x.token.0 x.name ≡ Some b → found_at s x.token.0 ≡ Some b → (c : Bool) → is_connection (text s b) ≡ c → (c : Bool) × Connected c
      go b here at true is = (true, (ap (is_connection_at s.tables) here ∙ known.connections b ∙ is, λ e. absurd (false≢true (sym e)), λ e. (b, ap (connection_in s) at ∙ ap (λ z. if z then Some b else None) is)))
      go b here at false is = (false, (ap (is_connection_at s.tables) here ∙ known.connections b ∙ is, λ e. ap (connection_in s) at ∙ ap (λ z. if z then Some b else None) is, λ e. absurd (false≢true e)))

  module _ (result : Option SimType) (k : ℕ) (there : entry_of s.tables d ≡ Some (entry.Procedure result k)) where
    meant : own_result s Alone ≡ block_if (is_inside s.tables x.token.0 k) k
    unfolding own_result
    meant = ap (own_block_denoted s x.token.0) says ∙ ap (own_block s x.token.0) there

    own_is : (c : Bool) → through_connection s.tables x ≡ c → own_of s.tables x (Some d) ≡ if_own (is_inside s.tables x.token.0 k && not c) (Some d)
    unfolding own_of
    own_is c is = ap (λ (z : Option Entry). if_own ((elim (block_in z) as (λ u. Bool) [ None ↦ false | Some block ↦ is_inside s.tables x.token.0 block ]) && not (through_connection s.tables x)) (Some d)) there ∙ ap (λ z. if_own (is_inside s.tables x.token.0 k && not z) (Some d)) is

    result_there : (type : SimType) → result ≡ Some type → result_holds s k ≡ Some (held_by s type)
    unfolding result_of
    result_there type same = ap (λ z. held_given s (result_declared s z)) (known.owned d result k there) ∙ ap (λ z. held_given s (result_in z)) there ∙ ap (held_given s) same

    -- it is no match
    unmatched : own_match s Alone ≡ None
    unmatched = no_match s x d NoMore says (ap (entry_is is_virtual) there)

    -- where it is outside, or seen through a connection, it is no result
    none_meant : (b : Bool) → is_inside s.tables x.token.0 k ≡ b → b ≡ false → NoOwn s Alone
    none_meant b inside outside = (meant_without s x NoMore unmatched ∙ ap (unless_connected (connection_at s x.token.0)) (meant ∙ ap (λ z. block_if z k) (inside ∙ outside)) ∙ unconnected_none (connection_at s x.token.0), unmatched)

    none_connected : (j : ℕ) → connection_at s x.token.0 ≡ Some j → NoOwn s Alone
    none_connected j is = (meant_without s x NoMore unmatched ∙ ap (λ z. unless_connected z (own_result s Alone)) is, unmatched)

    result_inside : is_inside s.tables x.token.0 k ≡ true → connection_at s x.token.0 ≡ None → result_meant s Alone ≡ Some k
    result_inside inside none = meant_without s x NoMore unmatched ∙ ap (λ z. unless_connected z (own_result s Alone)) none ∙ meant ∙ ap (λ z. block_if z k) inside

    left_inside : (t : ℕ) → Around s.tables t k → connection_at s x.token.0 ≡ None → (type : SimType) → result ≡ Some type → LeftIs s t Alone (held_by s type) × ResultIs s t k (held_by s type)
    left_inside t around none type same = (
      left_or s t (connection_at s x.token.0) (text_of_procedure s (own_match s Alone)) (held_by s type) (LeftNamed s t (connection_at s x.token.0) (denoted s x.token.0) NoMore (AreIntegers s (In t) NoMore) (held_by s type)) (ap (text_of_procedure s) unmatched)
          (subst (λ c. LeftNamed s t c (denoted s x.token.0) NoMore (AreIntegers s (In t) NoMore) (held_by s type)) (sym none)
          (subst (λ z. LeftNamed s t None z NoMore (AreIntegers s (In t) NoMore) (held_by s type)) (sym says)
          (subst (λ z. LeftDeclared s (KnownAt s (In t) None d) (OwnText s t None) NoMore (AreIntegers s (In t) NoMore) z (held_by s type)) (sym there)
          (subst (λ z. LeftDeclared s (KnownAt s (In t) None d) (OwnText s t None) NoMore (AreIntegers s (In t) NoMore) (Some (entry.Procedure z k)) (held_by s type)) (sym same) (refl, around))))),
      (around, result_there type same),
    )

    inside_means : (f : Place) → text_of f ≡ text_of from → is_inside s.tables x.token.0 k ≡ true → connection_at s x.token.0 ≡ None → OwnResult s f Alone (Some d) d result k
    inside_means (InBound t) same inside none = refl
    inside_means (In t) same inside none =
        (refl, result_inside inside none, unmatched, λ type is. left_inside t (subst (λ z. Around s.tables z k) (sym same) (known.inside x.token.0 (text_of from) k placed inside)) none type is)

    own_means : OwnResult s from Alone (own_undotted s.tables x (is_undotted x.token.0 x) (Some d)) d result k
    own_means = subst (λ z. OwnResult s from Alone (own_undotted s.tables x z (Some d)) d result k) (sym (same_token x.token.0)) (test (is_inside s.tables x.token.0 k) refl connection_is.0 connection_is.1)
      where
        test : (b : Bool) → is_inside s.tables x.token.0 k ≡ b → (c : Bool) → Connected c → OwnResult s from Alone (own_of s.tables x (Some d)) d result k
        test false inside c is = subst (λ z. OwnResult s from Alone z d result k) (sym (own_is c is.0 ∙ ap (λ z. if_own (z && not c) (Some d)) inside)) (none_meant false inside refl)
        test true inside true is =
            subst (λ z. OwnResult s from Alone z d result k) (sym (own_is true is.0 ∙ ap (λ z. if_own (z && false) (Some d)) inside)) (let j = is.2 refl in none_connected j.0 j.1)
        test true inside false is = subst (λ z. OwnResult s from Alone z d result k) (sym (own_is false is.0 ∙ ap (λ z. if_own (z && true) (Some d)) inside)) (inside_means from refl inside (is.1 refl))

  -- the result of a match, from its inside
  module _ (result : Option SimType) (own : Option DeclNo) (there : entry_of s.tables d ≡ Some (entry.Virtual result own)) where
    matched : own_match s Alone ≡ own_of s.tables x (match_seen s.tables x)
    unfolding own_match
    matched = ap (λ c. match_if_virtual c (own_of s.tables x (match_seen s.tables x))) (ap (is_virtual_denoted s) says ∙ ap (entry_is is_virtual) there)

    no_result : own_result s Alone ≡ None
    unfolding own_result
    no_result = ap (own_block_denoted s x.token.0) says ∙ ap (own_block s x.token.0) there

    meant_is : (o : Option DeclNo) → own_match s Alone ≡ o → result_meant s Alone ≡ unless_connected (connection_at s x.token.0) (result_or_own (text_of_procedure s o) None)
    unfolding result_meant
    meant_is o is = ap (λ m. unless_connected (connection_at s x.token.0) (result_or_own (text_of_procedure s m) (own_result s Alone))) is ∙ ap (λ r. unless_connected (connection_at s x.token.0) (result_or_own (text_of_procedure s o) r)) no_result

    -- the match that is meant is seen through no connection, inside its text
    record MatchMeant (q : DeclNo) : Type 0 where
      seen : match_seen s.tables x ≡ Some q
      inside : inside_match s.tables x.token.0 (Some q) ≡ true
      alone : through_connection s.tables x ≡ false

    match_meant : (q : DeclNo) → own_of s.tables x (match_seen s.tables x) ≡ Some q → MatchMeant q
    unfolding own_of
    match_meant q e = go (match_seen s.tables x) refl (inside_match s.tables x.token.0 (match_seen s.tables x)) refl (through_connection s.tables x) refl e
      where
        go : (p : Option DeclNo) → match_seen s.tables x ≡ p → (b : Bool) → inside_match s.tables x.token.0 (match_seen s.tables x) ≡ b → (c : Bool) → through_connection s.tables x ≡ c → if_own (b && not c) (match_seen s.tables x) ≡ Some q → MatchMeant q
        go p at true inside false alone e = record { seen = e; inside = sym (ap (inside_match s.tables x.token.0) e) ∙ inside; alone = alone }
        go p at true inside true alone e = absurd (cc)
        go p at false inside c alone e = absurd (cc)

    solid : (c : Bool) → Connected c → through_connection s.tables x ≡ false → connection_at s x.token.0 ≡ None
    solid false is alone = is.1 refl
    solid true is alone = absurd (false≢true (sym alone ∙ is.0))

    match_left : (f : Place) → text_of f ≡ text_of from → (q : DeclNo) → own_match s Alone ≡ Some q → MatchMeant q → MatchResult s f Alone result (Some q)
    match_left (InBound t) same q is_match m = tt
    match_left (In t) same q is_match m = record {
      there = fit;
      meant = meant_is (Some q) is_match ∙ ap (λ c. unless_connected c (result_or_own (text_of_procedure s (Some q)) None)) none ∙ ap (λ b. result_or_own b None) block;
      typed = ap (λ o. type_of_left s o (type_at s x.token.0)) is_match ∙ ap given_in fit.declares;
      left = λ type given. (let kept : ResultIs s t fit.block (held_by s type) = (around, result_kept s known q fit.given fit.block fit.declares type given) in (
        subst (λ c. LeftResultOr s t c (text_of_procedure s (own_match s Alone)) (held_by s type) (LeftNamed s t (connection_at s x.token.0) (denoted s x.token.0) NoMore (AreIntegers s (In t) NoMore) (held_by s type))) (sym none)
            (subst (λ o. LeftResultOr s t None o (held_by s type) (LeftNamed s t (connection_at s x.token.0) (denoted s x.token.0) NoMore (AreIntegers s (In t) NoMore) (held_by s type))) (sym (ap (text_of_procedure s) is_match ∙ block)) kept),
        kept,
      ));
    }
      where
        fit : MatchFits s result q
        fit = known.matches x d q result own binds there m.seen

        block : text_of_procedure s (Some q) ≡ Some (known.matches x d q result own binds there m.seen).block
        block = ap procedure_text fit.declares

        none : connection_at s x.token.0 ≡ None
        none = solid connection_is.0 connection_is.1 m.alone

        inside : is_inside s.tables x.token.0 (known.matches x d q result own binds there m.seen).block ≡ true
        inside = sym (ap (λ (z : Option Entry). (elim (block_in z) as (λ u. Bool) [ None ↦ false | Some k ↦ is_inside s.tables x.token.0 k ])) fit.declares) ∙ m.inside

        around : Around s.tables t (known.matches x d q result own binds there m.seen).block
        around = subst (λ z. Around s.tables z fit.block) (sym same) (known.inside x.token.0 (text_of from) fit.block placed inside)

    match_means : MatchResult s from Alone result (own_undotted s.tables x (is_undotted x.token.0 x) (match_seen s.tables x))
    match_means = subst (λ z. MatchResult s from Alone result (own_undotted s.tables x z (match_seen s.tables x))) (sym (same_token x.token.0)) (go (own_of s.tables x (match_seen s.tables x)) refl)
      where
        go : (o : Option DeclNo) → own_of s.tables x (match_seen s.tables x) ≡ o → MatchResult s from Alone result o
        go None e = (meant_is None (matched ∙ e) ∙ unconnected_none (connection_at s x.token.0), matched ∙ e)
        go (Some q) e = match_left from refl q (matched ∙ e) (match_meant q e)

-- a standard name is the result of no procedure
standard_owner : (s : Source) (x : Identifier) (es : Expressions) (name : StandardName) → denoted s x.token.0 ≡ Some (denotation.Standard name) → NoOwn s (syntax.Named x es)
unfolding own_result
standard_owner s x es name says = let m = standard_no_match s x es name says in (meant_without s x es m ∙ none es, m)
  where
    none : (es : Expressions) → unless_connected (connection_at s x.token.0) (own_result s (syntax.Named x es)) ≡ None
    none NoMore = ap (λ z. unless_connected (connection_at s x.token.0) (own_block_denoted s x.token.0 z)) says ∙ unconnected_none (connection_at s x.token.0)
    none (Then e es) = unconnected_none (connection_at s x.token.0)

standard_unplaced : (s : Source) (x : Identifier) (es : Expressions) (name : StandardName) → denoted s x.token.0 ≡ Some (denotation.Standard name) → is_placed s (syntax.Named x es) ≡ false
unfolding is_placed
standard_unplaced s x es name says = ap (λ z. is_attribute_denoted s z es) says

standard_shown : (s : Source) (x : Identifier) (es : Expressions) (name : StandardName) → denoted s x.token.0 ≡ Some (denotation.Standard name) → passed s (syntax.Named x es) ≡ value_passed s (syntax.Named x es)
unfolding passed
standard_shown s x NoMore name says = ap (λ z. denoted_passed s z (value_passed s (syntax.Named x NoMore))) says
standard_shown s x (Then e es) name says = refl

-- ---- an identifier

module _ (s : Source) (known : Tabled s) (from : Place) (e : Extent) (sight : Sight s from e) (x : Identifier) (placed : block_at s.tables x.token.0 ≡ Some (text_of from)) where
  -- what it denotes is known where it stands
  abbrev Here : DeclNo → Type 0
  Here d = KnownHere s from x.token.0 (connection_at s x.token.0) (own_attribute s x.token.0) d

  here : (d : DeclNo) → denoted s x.token.0 ≡ Some (denotation.Declared d) → binding s.tables x.token.0 x.name ≡ Some (denotation.Declared d) → is_barred s.tables e x.token.0 (denotation.Declared d) ≡ false
      → ((block : ℕ) → found_in s.tables x.token.0 x.name ≡ Some block → found_at s x.token.0 ≡ Some block) → Here d
  here d says binds open_to at =
      let seen = sight x.token.0 x.name d placed binds open_to at in
      known_here s from x.token.0 d (connection_at s x.token.0) (own_attribute s x.token.0) (own_declared s x.token.0 d says) seen.0 seen.1

  -- and how it is used
  use_of : (es : Expressions) (d : DeclNo) → denoted s x.token.0 ≡ Some (denotation.Declared d) → binding s.tables x.token.0 x.name ≡ Some (denotation.Declared d) → is_barred s.tables e x.token.0 (denotation.Declared d) ≡ false
      → ((block : ℕ) → found_in s.tables x.token.0 x.name ≡ Some block → found_at s x.token.0 ≡ Some block) → UseIs s from (syntax.Named x es) x.token.0 d es (Here d)
  use_of es d says binds open_to at = named_use s from x es d says (either_attribute s known d) (sight x.token.0 x.name d placed binds open_to at).2

  -- `detach` is found around
  detach_seen : (name : StandardName) → binding s.tables x.token.0 x.name ≡ Some (denotation.Standard name) → ((block : ℕ) → found_in s.tables x.token.0 x.name ≡ Some block → found_at s x.token.0 ≡ Some block)
      → name ≡ found.Procedure detach.Detach → InText from (λ t. ThisFound s (In t) (found_at s x.token.0) (Simply kind.Reference))
  detach_seen name binds at is = detach_stands s known from x.token.0 x.name placed (binds ∙ ap (λ z. Some (denotation.Standard z)) is) at

  pub named_alone : (o : Occurrence) → BoundIs s e x o → AllSay s (used s.tables x.token.0 x o no_actuals).events → Means true s from (syntax.Named x NoMore) (used s.tables x.token.0 x o no_actuals).value
  unfolding used alone stream_of
  named_alone o b said = subst (λ z. Means true s from (syntax.Named x NoMore) (used s.tables x.token.0 x z no_actuals).value) (sym b.is) (go b.denotation refl b.says b.binds b.open_to (subst (λ z. AllSay s (used s.tables x.token.0 x z no_actuals).events) b.is said))
    where
      go : (d : Denotation) → b.denotation ≡ d → denoted s x.token.0 ≡ Some d → binding s.tables x.token.0 x.name ≡ Some d → is_barred s.tables e x.token.0 d ≡ false → AllSay s (alone s.tables x.token.0 x d).events → Means true s from (syntax.Named x NoMore) (alone s.tables x.token.0 x d).value
      go (denotation.Declared d) is says binds open_to said =
          let t = known.there x.token.0 x.name d binds in
          subst (λ z. Means true s from (syntax.Named x NoMore) (declared_alone s.tables x.token.0 x d z).value) (sym t.1)
          (alone_means s known from (syntax.Named x NoMore) x.token.0 d (Here d) (here d says binds open_to b.found) (use_of NoMore d says binds open_to b.found) x t.0 t.1 (known.proper d t.0 t.1)
          (λ result k there. own_means s known from x placed d says binds b.found result k there) (λ result own there. match_means s known from x placed d says binds b.found result own there) (subst (λ z. AllSay s (declared_alone s.tables x.token.0 x d z).events) t.1 said))
      go (denotation.Standard name) is says binds open_to said =
          let alone = bound_name s x.token.0 x.name name binds in
          standard_without s from (syntax.Named x NoMore) name x.token.0 refl (ap stream_denoted says) (standard_owner s x NoMore name says) (standard_unplaced s x NoMore name says) (standard_shown s x NoMore name says) (alone_proper name alone) x.token
          (λ other class are. standard_call s from x NoMore name says (unconnected s e x o b name is) (detach_seen name binds b.found) alone other class (alone_proper name alone) are) said

  pub named_with : (first : Expression) (rest : Expressions) (o : Occurrence) → BoundIs s e x o → (a : Actuals) → AllActuals s from o.denotes (Then first rest) no_actuals a → AllSay s (used s.tables x.token.0 x o a).events
      → Means true s from (syntax.Named x (Then first rest)) (used s.tables x.token.0 x o a).value
  unfolding used applied stream_of
  named_with first rest o b a all said =
      subst (λ z. Means true s from (syntax.Named x (Then first rest)) (used s.tables x.token.0 x z a).value) (sym b.is)
      (subst (λ z. Means true s from (syntax.Named x (Then first rest)) (if z then alone s.tables x.token.0 x b.denotation else if a.typed then applied s.tables x.token.0 x.token.0 b.denotation a else applied_untyped x.token.0 b.denotation).value) (sym counted)
      (subst (λ z. Means true s from (syntax.Named x (Then first rest)) (if z then applied s.tables x.token.0 x.token.0 b.denotation a else applied_untyped x.token.0 b.denotation).value) (sym typed)
      (go b.denotation refl b.says b.binds b.open_to (λ h. subst (λ (z : Occurrence). AllFit s from z.denotes 0 (Then first rest)) b.is (all.fits h).1)
      (subst (λ z. AllSay s (if z then applied s.tables x.token.0 x.token.0 b.denotation a else applied_untyped x.token.0 b.denotation).events) typed
      (subst (λ z. AllSay s (if z then alone s.tables x.token.0 x b.denotation else if a.typed then applied s.tables x.token.0 x.token.0 b.denotation a else applied_untyped x.token.0 b.denotation).events) counted
      (subst (λ z. AllSay s (used s.tables x.token.0 x z a).events) b.is said))))))
    where
      counted : nat_eq a.count 0 ≡ false
      counted = nonzero a.count (size rest) all.count

      typed : a.typed ≡ true
      typed = all.typed refl

      go : (d : Denotation) → b.denotation ≡ d → denoted s x.token.0 ≡ Some d → binding s.tables x.token.0 x.name ≡ Some d → is_barred s.tables e x.token.0 d ≡ false → (a.misfit ≡ None → AllFit s from (Some d) 0 (Then first rest))
          → AllSay s (applied s.tables x.token.0 x.token.0 d a).events → Means true s from (syntax.Named x (Then first rest)) (applied s.tables x.token.0 x.token.0 d a).value
      go (denotation.Declared d) is says binds open_to fits said =
          let t = known.there x.token.0 x.name d binds in
          subst (λ z. Means true s from (syntax.Named x (Then first rest)) (declared_applied x.token.0 x.token.0 z (length (formals_of s.tables d)) a).value) (sym t.1)
          (with_means s known from (syntax.Named x (Then first rest)) x.token.0 d (Here d) (here d says binds open_to b.found) first rest (use_of (Then first rest) d says binds open_to b.found) a (from_zero a.count (suc (size rest)) all.count) fits
          x.token.0 t.0 t.1 (known.proper d t.0 t.1) (subst (λ z. AllSay s (declared_applied x.token.0 x.token.0 z (length (formals_of s.tables d)) a).events) t.1 said))
      go (denotation.Standard name) is says binds open_to fits said =
          let alone = bound_name s x.token.0 x.name name binds in
          standard_with s from (syntax.Named x (Then first rest)) name x.token.0 refl (ap stream_denoted says) (standard_owner s x (Then first rest) name says) (standard_unplaced s x (Then first rest) name says) (standard_shown s x (Then first rest) name says) (alone_proper name alone) (Then first rest)
          (λ other class are. standard_call s from x (Then first rest) name says (unconnected s e x o b name is) (detach_seen name binds b.found) alone other class (alone_proper name alone) are) a (from_zero a.count (suc (size rest)) all.count) fits x.token.0 said

-- ---- attributes behind dots

abbrev pub OfWhich : Source → Place → Expression → StandardName → Type 0
OfWhich s from a name =
    ((image : ℕ) × (stream_of s a ≡ Some image) × IsProcedure name) ⊎ (((stream_of s a ≡ None) × OfTexts name × ExprIs s from a (Simply kind.Text)) ⊎ ((name ≡ found.Procedure detach.Detach) × ExprIs s from a (Simply kind.Reference)))

-- what stands behind the dot: a name of sysin or sysout, an attribute of a text, or `detach` of an object; or a declared attribute of an object
pub data AttributeIs (s : Source) (from : Place) (a : Expression) (x : Identifier) (o : Occurrence) : Type 0 where
  standard : (name : StandardName) → o ≡ occurs (Some (denotation.Standard name)) false → denoted s x.token.0 ≡ Some (denotation.Standard name) → OfWhich s from a name → AttributeIs s from a x o
  declared : (d : DeclNo) → o ≡ occurs (Some (denotation.Declared d)) false → denoted s x.token.0 ≡ Some (denotation.Declared d) → (b : Entry) → entry_of s.tables d ≡ Some b → AttributeThere (entry_of s.tables d) → ObjectHas s (λ c. ExprIs s from a (Refers c)) d → AttributeIs s from a x o

module _ (s : Source) (known : Tabled s) (from : Place) (a : Expression) (e : Extent) (x : Identifier) where
  found_attribute : (P : StandardName → Type 0) → ((name : StandardName) → P name → OfWhich s from a name) → (o : Option StandardName) → ((name : StandardName) → o ≡ Some name → P name) → AllSay s (attribute_found x o).events → AttributeIs s from a x (attribute_found x o).value
  unfolding telling
  found_attribute P of_which None all said = absurd said.0
  found_attribute P of_which (Some name) all said = let says = said.0 in standard name refl says.0 (of_which name (all name refl))

  -- an attribute of an object
  remote_is : (class : DeclNo) (c : IsClass s class) → ValueIs s from a (t.Ref class) → AllSay s (remote s.tables e x class).events → AttributeIs s from a x (remote s.tables e x class).value
  unfolding remote next gives telling bars attribute_in
  remote_is class c v said =
      subst (λ z. AttributeIs s from a x (remote_in s.tables e x z).value) (sym row) (open_to (has_classes s.tables c.block) refl (subst (λ z. AllSay s (remote_in s.tables e x z).events) row said))
    where
      row : class_block s.tables class ≡ Some c.block
      row = class_row s.tables class c.block c.declares

      object : ExprIs s from a (Refers c.block)
      object = v.value (Refers c.block) (subst (λ z. Fits s z (Refers c.block)) (sym (class_held s class c)) (own_level s.tables c.block known.some_block))

      of : has_classes s.tables c.block ≡ false → (d : Denotation) → attribute_in s.tables x.token.0 c.block x.name ≡ Some d → denoted s x.token.0 ≡ Some d → AttributeIs s from a x (occurs (Some d) false)
      of none (denotation.Declared d) is says =
          let there = known.attributes x.token.0 c.block x.name d is in
          declared d refl says there.0 there.1
          (attribute_there s known d (λ n w result simulation at. false≢true (sym none ∙ level_classes s.tables c.block (block_of s d) there.2 (known.simulates_behind x.token.0 c.block x.name d n w result is at simulation))))
          (c.block, c.is, there.2, object)
      of none (denotation.Standard name) is says = standard name refl says (inr (inr (it (shown s.tables (Some x.token.0) c.block x.name) (is_detach x.name) is, simply s from a (t.Ref class) v)))
        where
          it : (o : Option DeclNo) (b : Bool) → declared_or_standard s.tables o (if b then Some (found.Procedure detach.Detach) else None) ≡ Some (denotation.Standard name) → name ≡ found.Procedure detach.Detach
          it None true is = (let same : found.Procedure detach.Detach ≡ name = cc in sym same)
          it None false is = absurd (cc)
          it (Some d) b is = absurd (cc)

      barred : has_classes s.tables c.block ≡ false → (d : Denotation) → attribute_in s.tables x.token.0 c.block x.name ≡ Some d → (b : Bool) → AllSay s (used_or_barred x.token.0 d b).events → AttributeIs s from a x (barred_if false (used_or_barred x.token.0 d b).value)
      barred none d is true said = absurd said.0
      barred none d is false said = let says = said.0 in of none d is says.0

      at : has_classes s.tables c.block ≡ false → (o : Option Denotation) → attribute_in s.tables x.token.0 c.block x.name ≡ o → AllSay s (remote_as s.tables e x c.block o).events → AttributeIs s from a x (barred_if false (remote_as s.tables e x c.block o).value)
      at none None is said = absurd said.0
      at none (Some d) is said = barred none d is (is_barred s.tables e x.token.0 d) said

      open_to : (b : Bool) → has_classes s.tables c.block ≡ b → AllSay s (next (bars b x.token.0 r.ClassWithClasses) (remote_at s.tables e x c.block)).events → AttributeIs s from a x (next (bars b x.token.0 r.ClassWithClasses) (remote_at s.tables e x c.block)).value
      open_to true is said = absurd said.0
      open_to false is said = at is (attribute_in s.tables x.token.0 c.block x.name) refl (next_says s (remote_as s.tables e x c.block (attribute_in s.tables x.token.0 c.block x.name)) (λ o. gives (barred_if false o)) said).0

  of_text : (first : ℕ) (type : SimType) → ValueIs s from a type → AllSay s (attribute_of_type s.tables e x first (Some type)).events → AttributeIs s from a x (attribute_of_type s.tables e x first (Some type)).value
  unfolding telling gives
  of_text first t.Text v said = found_attribute OfTexts (λ name p. inr (inl (v.stream, p, simply s from a t.Text v))) (text_attribute x.name) (λ name e. text_name x.name name e) said
  of_text first t.Integer v said = absurd said.0
  of_text first t.Boolean v said = absurd said.0
  of_text first t.Character v said = absurd said.0
  of_text first (t.Ref d) v said = remote_is d v.proper v said
  of_text first t.NoneType v said = absurd said.0

  by_value : (first : ℕ) (o : Outcome) → Means true s from a o → AllSay s (attribute_by_value s.tables e x first o).events → AttributeIs s from a x (attribute_by_value s.tables e x first o).value
  unfolding attribute_by_value next attribute_of_value
  by_value first o m said =
      let parts = next_says s (side s.tables first o) (attribute_of_value s.tables e x) said in
      let v = side_means s known from a first o m parts.0 in
      let y = (side s.tables first o).value in
      subst (λ z. AttributeIs s from a x (attribute_of_type s.tables e x y.first.0 z).value) (sym v.is) (of_text y.first.0 v.ty v.value (subst (λ z. AllSay s (attribute_of_type s.tables e x y.first.0 z).events) v.is parts.1))

  of_stream : (image : ℕ) → stream_of s a ≡ Some image → (name : StandardName) → IsProcedure name → OfWhich s from a name
  of_stream image e name p = inl (image, e, p)

  pub attribute_is : (first : ℕ) (o : Outcome) → Means true s from a o → AllSay s (attribute s.tables e x first o).events → AttributeIs s from a x (attribute s.tables e x first o).value
  unfolding attribute
  attribute_is first (is.Standard found.Sysin token) m said = found_attribute IsProcedure (of_stream 0 m.stream) (sysin_attribute x.name) (λ name e. sysin_name x.name name e) said
  attribute_is first (is.Standard found.Sysout token) m said = found_attribute IsProcedure (of_stream 1 m.stream) (sysout_attribute x.name) (λ name e. sysout_name x.name name e) said
  attribute_is first (is.Standard name token) m said = by_value first (is.Standard name token) m said
  attribute_is first is.Refused m said = by_value first is.Refused m said
  attribute_is first is.NoValue m said = by_value first is.NoValue m said
  attribute_is first is.NoValueInParentheses m said = by_value first is.NoValueInParentheses m said
  attribute_is first (is.Value type) m said = by_value first (is.Value type) m said
  attribute_is first (is.Called type) m said = by_value first (is.Called type) m said
  attribute_is first (is.Variable type) m said = by_value first (is.Variable type) m said
  attribute_is first (is.Constant type) m said = by_value first (is.Constant type) m said
  attribute_is first (is.Array type) m said = by_value first (is.Array type) m said
  attribute_is first (is.Procedure d token own) m said = by_value first (is.Procedure d token own) m said
  attribute_is first is.Class m said = by_value first is.Class m said
  attribute_is first (is.Barred b) m said = by_value first (is.Barred b) m said

-- ---- behind a dot: a standard name

procedure_none : (name : StandardName) → IsProcedure name → stream_named name ≡ None
procedure_none (found.Procedure x) p = refl
procedure_none _ p = absurd p

attribute_none : (name : StandardName) → OfTexts name → stream_named name ≡ None
attribute_none (found.Procedure x) p = refl
attribute_none _ p = absurd p

module _ (s : Source) (from : Place) (i : ℕ) (a : Expression) (x : Identifier) (name : StandardName) (says : denoted s x.token.0 ≡ Some (denotation.Standard name)) (which : OfWhich s from a name) where
  dot_proper : PlainGiven (signature name).result
  dot_proper = go which
    where
      go : OfWhich s from a name → PlainGiven (signature name).result
      go (inl y) = procedure_proper name y.2
      go (inr (inl y)) = attribute_proper name y.1
      go (inr (inr y)) = subst (λ z. PlainGiven (signature z).result) (sym y.0) (alone_proper (found.Procedure detach.Detach) detach_alone)

  dot_none : stream_named name ≡ None
  dot_none = go which
    where
      go : OfWhich s from a name → stream_named name ≡ None
      go (inl y) = procedure_none name y.2
      go (inr (inl y)) = attribute_none name y.1
      go (inr (inr y)) = ap stream_named y.0

  dot_call : (es : Expressions) → AreOf s from es (kinds_of (signature name)) → CallsFor s from (syntax.Dot i a x es) (signature name).result
  dot_call es are = go which
    where
      done : transfer_named (procedure_named name) ≡ None → BehindGives (stream_of s a) (procedure_named name) (ExprIs s from a (Simply kind.Text)) (λ ks. AreOf s from es ks) (given_by (signature name).result) → CallsFor s from (syntax.Dot i a x es) (signature name).result
      done none given =
          dot_calls s from i a x es (signature name).result (plain_given s (CallGiven s from (syntax.Dot i a x es)) (signature name).result dot_proper (
          dot_given s from i a x es (given_by (signature name).result) (standard_transfers s x.token.0 name says ∙ none)
          (subst (λ z. DotGives s z (stream_of s a) (ExprIs s from a (Simply kind.Text)) (λ c. ExprIs s from a (Refers c)) es (AreIntegers s from es) (ParametersAre s from es) (λ ks. AreOf s from es ks) (λ fs. ActualsFit s from es fs) (given_by (signature name).result)) (sym says) given)
          (ap (denoted_leaves s) says ∙ sym (standard_left name))
          ))

      go : OfWhich s from a name → CallsFor s from (syntax.Dot i a x es) (signature name).result
      go (inl y) =
          done (procedure_transfers_none name y.2)
          (subst (λ z. BehindGives z (procedure_named name) (ExprIs s from a (Simply kind.Text)) (λ ks. AreOf s from es ks) (given_by (signature name).result)) (sym y.1) (standard_gives name y.2 (λ ks. AreOf s from es ks) are))
      go (inr (inl y)) =
          done (attribute_transfers_none name y.1)
          (subst (λ z. BehindGives z (procedure_named name) (ExprIs s from a (Simply kind.Text)) (λ ks. AreOf s from es ks) (given_by (signature name).result)) (sym y.0)
          (attribute_gives name y.1 (ExprIs s from a (Simply kind.Text)) y.2 (λ ks. AreOf s from es ks) are))
      go (inr (inr y)) =
          subst (λ z. CallsFor s from (syntax.Dot i a x es) (signature z).result) (sym y.0)
          (dot_detaches s from i a x es (says ∙ ap (λ z. Some (denotation.Standard z)) y.0) y.1 (subst (λ z. AreOf s from es (kinds_of (signature z))) y.0 are))

  standard_alone : AllSay s (alone s.tables i x (denotation.Standard name)).events → Means true s from (syntax.Dot i a x NoMore) (alone s.tables i x (denotation.Standard name)).value
  unfolding alone is_placed own_match result_meant stream_of passed
  standard_alone said = standard_without s from (syntax.Dot i a x NoMore) name i refl (sym dot_none) (refl, refl) (ap (λ z. is_attribute_denoted s z NoMore) says) (ap (λ z. denoted_passed s z (value_passed s (syntax.Dot i a x NoMore))) says) dot_proper x.token (λ other class are. dot_call NoMore are) said

  standard_applies : (first : Expression) (rest : Expressions) (y : Actuals) → y.count ≡ size (Then first rest) → (y.misfit ≡ None → AllFit s from (Some (denotation.Standard name)) 0 (Then first rest))
      → AllSay s (applied s.tables i x.token.0 (denotation.Standard name) y).events → Means true s from (syntax.Dot i a x (Then first rest)) (applied s.tables i x.token.0 (denotation.Standard name) y).value
  unfolding applied is_placed own_match result_meant stream_of passed
  standard_applies first rest y count fits said =
      standard_with s from (syntax.Dot i a x (Then first rest)) name i refl (sym dot_none) (refl, refl) (ap (λ z. is_attribute_denoted s z (Then first rest)) says) refl dot_proper (Then first rest) (λ other class are. dot_call (Then first rest) are) y count fits x.token.0 said

-- ---- behind a dot: any attribute

declared_with : (s : Source) → Tabled s → (from : Place) (i : ℕ) (a : Expression) (x : Identifier) (d : DeclNo) → denoted s x.token.0 ≡ Some (denotation.Declared d) → (b : Entry) → entry_of s.tables d ≡ Some b → AttributeThere (entry_of s.tables d)
    → ObjectHas s (λ c. ExprIs s from a (Refers c)) d → (first : Expression) (rest : Expressions) (y : Actuals) → y.count ≡ size (Then first rest) → (y.misfit ≡ None → AllFit s from (Some (denotation.Declared d)) 0 (Then first rest))
    → AllSay s (applied s.tables i x.token.0 (denotation.Declared d) y).events → Means true s from (syntax.Dot i a x (Then first rest)) (applied s.tables i x.token.0 (denotation.Declared d) y).value
unfolding applied
declared_with s known from i a x d says b there plain has first rest y count fits said =
    subst (λ z. Means true s from (syntax.Dot i a x (Then first rest)) (declared_applied i x.token.0 z (length (formals_of s.tables d)) y).value) (sym there)
    (with_means s known from (syntax.Dot i a x (Then first rest)) i d (ObjectHas s (λ c. ExprIs s from a (Refers c)) d) has first rest (dot_use s from i a x (Then first rest) d says plain) y count fits x.token.0 b there (known.proper d b there)
    (subst (λ z. AllSay s (declared_applied i x.token.0 z (length (formals_of s.tables d)) y).events) there said))

module _ (s : Source) (known : Tabled s) (from : Place) (i : ℕ) (a : Expression) (x : Identifier) (apart : nat_eq i x.token.0 ≡ false) (o : Occurrence) where
  pub dot_alone : AttributeIs s from a x o → AllSay s (used s.tables i x o no_actuals).events → Means true s from (syntax.Dot i a x NoMore) (used s.tables i x o no_actuals).value
  unfolding used own_match result_meant alone
  dot_alone (standard name is says which) said =
      subst (λ z. Means true s from (syntax.Dot i a x NoMore) (used s.tables i x z no_actuals).value) (sym is) (standard_alone s from i a x name says which (subst (λ z. AllSay s (used s.tables i x z no_actuals).events) is said))
  dot_alone (declared d is says b there plain has) said =
      subst (λ z. Means true s from (syntax.Dot i a x NoMore) (used s.tables i x z no_actuals).value) (sym is)
      (subst (λ z. Means true s from (syntax.Dot i a x NoMore) (declared_alone s.tables i x d z).value) (sym there)
      (alone_means s known from (syntax.Dot i a x NoMore) i d (ObjectHas s (λ c. ExprIs s from a (Refers c)) d) has (dot_use s from i a x NoMore d says plain) x b there (known.proper d b there) (λ result k at. own result k) (λ result known at. match result)
      (subst (λ z. AllSay s (declared_alone s.tables i x d z).events) there (subst (λ z. AllSay s (used s.tables i x z no_actuals).events) is said))))
    where
      own : (result : Option SimType) (k : ℕ) → OwnResult s from (syntax.Dot i a x NoMore) (own_undotted s.tables x (is_undotted i x) (Some d)) d result k
      own result k = subst (λ z. OwnResult s from (syntax.Dot i a x NoMore) (own_undotted s.tables x z (Some d)) d result k) (sym apart) (refl, refl)

      match : (result : Option SimType) → MatchResult s from (syntax.Dot i a x NoMore) result (own_undotted s.tables x (is_undotted i x) (match_seen s.tables x))
      match result = subst (λ z. MatchResult s from (syntax.Dot i a x NoMore) result (own_undotted s.tables x z (match_seen s.tables x))) (sym apart) (refl, refl)

  pub dot_with : (first : Expression) (rest : Expressions) (y : Actuals) → AttributeIs s from a x o → AllActuals s from o.denotes (Then first rest) no_actuals y → AllSay s (used s.tables i x o y).events → Means true s from (syntax.Dot i a x (Then first rest)) (used s.tables i x o y).value
  unfolding used
  dot_with first rest y b all said = go b
    where
      counted : nat_eq y.count 0 ≡ false
      counted = nonzero y.count (size rest) all.count

      typed : y.typed ≡ true
      typed = all.typed refl

      -- what is used, when there are operands and each has a type
      used_is : (d : Denotation) → o ≡ occurs (Some d) false → used s.tables i x o y ≡ applied s.tables i x.token.0 d y
      used_is d is =
          ap (λ z. used s.tables i x z y) is ∙ ap (λ z. if z then alone s.tables i x d else if y.typed then applied s.tables i x.token.0 d y else applied_untyped x.token.0 d) counted
          ∙ ap (λ z. if z then applied s.tables i x.token.0 d y else applied_untyped x.token.0 d) typed

      fits : (d : Denotation) → o ≡ occurs (Some d) false → y.misfit ≡ None → AllFit s from (Some d) 0 (Then first rest)
      fits d is h = subst (λ (z : Occurrence). AllFit s from z.denotes 0 (Then first rest)) is (all.fits h).1

      declared_means : (d : DeclNo) → denoted s x.token.0 ≡ Some (denotation.Declared d) → (b : Entry) → entry_of s.tables d ≡ Some b → AttributeThere (entry_of s.tables d) → ObjectHas s (λ c. ExprIs s from a (Refers c)) d → (y.misfit ≡ None → AllFit s from (Some (denotation.Declared d)) 0 (Then first rest))
          → AllSay s (applied s.tables i x.token.0 (denotation.Declared d) y).events → Means true s from (syntax.Dot i a x (Then first rest)) (applied s.tables i x.token.0 (denotation.Declared d) y).value
      declared_means d says b there plain has fits said = declared_with s known from i a x d says b there plain has first rest y (from_zero y.count (suc (size rest)) all.count) fits said

      go : AttributeIs s from a x o → Means true s from (syntax.Dot i a x (Then first rest)) (used s.tables i x o y).value
      go (standard name is says which) =
          let d = denotation.Standard name in
          subst (λ (z : Judged Outcome). Means true s from (syntax.Dot i a x (Then first rest)) z.value) (sym (used_is d is)) (standard_applies s from i a x name says which first rest y (from_zero y.count (suc (size rest)) all.count) (fits d is) (subst (λ (z : Judged Outcome). AllSay s z.events) (used_is d is) said))
      go (declared d is says b there plain has) =
          let c = denotation.Declared d in
          subst (λ (z : Judged Outcome). Means true s from (syntax.Dot i a x (Then first rest)) z.value) (sym (used_is c is)) (declared_means d says b there plain has (fits c is) (subst (λ (z : Judged Outcome). AllSay s z.events) (used_is c is) said))
