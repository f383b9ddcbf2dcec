-- The actual parameters of a block prefix fit the parameters of its class.
use Rattle.std.proofs.Common.{◌≡◌, ◌⊎◌, inl, inr, ℕ, Bool, true, false, [], length, ◌+◌, Option, Some, None, refl, sym, ap, ◌∙◌, subst, arith, if◌then◌else◌}
use Rattle.std.proofs.lemmas.Bool.{false≢true}
use Rattle.std.proofs.lemmas.Bool.Decides.{nat_tests}
use Rattle.std.specs.Prelude.{nat_eq, slice_get}
use Rattle.sim_base.specs.declared.rule.Rule.TheVariants as r
use Rattle.sim_scope.specs.declared.found.Fault.{Fault}
use Rattle.sim_scope.specs.declared.outcome.Actuals.{Actuals}
use Rattle.sim_scope.specs.declared.outcome.Extent.TheVariants as extent
use Rattle.sim_scope.specs.declared.scopes.Denotation.{Denotation}
use Rattle.sim_scope.specs.declared.scopes.Denotation.TheVariants as denotation
use Rattle.sim_scope.specs.declared.standard.StandardName.TheVariants as standard
use Rattle.sim_scope.specs.Access.{block_at}
use Rattle.sim_scope.specs.Actuals.{formal_or_none, no_actuals, parameter_at, parameter_of}
use Rattle.sim_scope.specs.Assignments.{fine, told, wrong}
use Rattle.sim_scope.specs.Expressions.{actuals}
use Rattle.sim_scope.specs.Judged.{gives, next, telling}
use Rattle.sim_scope.specs.References.{formal_count, formal_count_of}
use Rattle.sim_scope.specs.Scopes.{class_formals}
use Rattle.sim_scope.specs.Source.{Source, block_around}
use Rattle.sim_scope.specs.Statements.{prefix_applied, prefix_at, prefix_of_block, prefix_used, prefixed_events, prefixed_with}
use Rattle.sim_tree.specs.declared.expr.Identifier.{Identifier}
use Rattle.sim_tree.specs.Syntax.{Expressions, NoMore, Then}
use Rattle.sim_meaning.specs.Closing.{class_parameters, formals_from}
use Rattle.sim_sound.specs.Held.{In}
use Rattle.sim_sound.specs.Expressions.{ActualsFit}
use Rattle.sim_agree.specs.Facts.{BlockPrefix, StandardPrefixed, Tabled}
use Rattle.sim_allowed.proofs.Actuals.{AllActuals, AllKnown, ReachedFrom, actuals_are, all_formals, size}
use Rattle.sim_allowed.proofs.Classes.{class_row}
use Rattle.sim_allowed.proofs.Headings.{class_heading}
use Rattle.sim_allowed.proofs.Said.{AllSay, next_says}

module _ (s : Source) (known : Tabled s) (k : ℕ) (reach : ReachedFrom s (In k)) (class : Identifier) (es : Expressions) (begin number : ℕ) (placed : block_around s begin ≡ Some number) (prefix : BlockPrefix s number) (all : AllKnown s (In k) extent.Statement es) where
  abbrev d : Denotation
  d = denotation.Declared prefix.declaration

  denotes : prefix_at s.tables begin ≡ Some (denotation.Declared prefix.declaration)
  unfolding prefix_at block_around block_at
  denotes = ap (prefix_of_block s.tables) placed ∙ prefix.denoted

  abbrev a : Actuals
  a = (actuals s.tables extent.Statement (Some (denotation.Declared prefix.declaration)) no_actuals es).value

  class_parameter : (i : ℕ) → parameter_at s.tables (Some (denotation.Declared prefix.declaration)) i ≡ formal_or_none (slice_get (class_parameters s (Some prefix.class.block)) i)
  unfolding parameter_at
  class_parameter i = ap (parameter_of s.tables prefix.declaration i) prefix.class.declares ∙ ap formal_or_none ((class_heading s known prefix.declaration prefix.class.block prefix.class.declares).places i)

  -- where no rule is broken each actual fits its parameter, and there are as many
  fits : AllActuals s (In k) (Some (denotation.Declared prefix.declaration)) es no_actuals (actuals s.tables extent.Statement (Some (denotation.Declared prefix.declaration)) no_actuals es).value
      → AllSay s (prefixed_with s.tables class.token.0 (Some (denotation.Declared prefix.declaration)) (actuals s.tables extent.Statement (Some (denotation.Declared prefix.declaration)) no_actuals es).value).events
      → ActualsFit s (In k) es (class_parameters s (Some number))
  unfolding prefixed_with fine wrong telling gives
  fits are said = typed a.typed refl said
    where
      counted : nat_eq (formal_count s.tables d) a.count ≡ true → (m : Option Fault) → a.misfit ≡ m → AllSay s (told m).events → ActualsFit s (In k) es (class_parameters s (Some number))
      counted same (Some f) is said = absurd said.0
      counted same None is said =
          let head = class_heading s known prefix.declaration prefix.class.block prefix.class.declares in
          let formals : formal_count s.tables d ≡ length (class_formals s.tables prefix.class.block) = ap (formal_count_of s.tables) (class_row s.tables prefix.declaration prefix.class.block prefix.class.declares) in
          let equal : formal_count s.tables d ≡ a.count = grind (arith, nat_tests) in
          let given : a.count ≡ 0 + size es = are.count in
          let none_before : 0 + size es ≡ size es = omega arith in
          subst (λ fs. ActualsFit s (In k) es fs) (sym prefix.parameters)
          (all_formals s (In k) (Some d) 0 es (class_parameters s (Some prefix.class.block))
          (λ j. (let zero_more : 0 + j ≡ j = omega arith in ap (parameter_at s.tables (Some d)) zero_more ∙ class_parameter j))
          head.proper (sym none_before ∙ sym given ∙ sym equal ∙ formals ∙ head.count) (are.fits is).1)

      number_fits : (b : Bool) → nat_eq (formal_count s.tables d) a.count ≡ b → AllSay s (if b then told a.misfit else wrong class.token.0 r.WrongNumber).events → ActualsFit s (In k) es (class_parameters s (Some number))
      number_fits true same said = counted same a.misfit refl said
      number_fits false same said = absurd said.0

      typed : (b : Bool) → a.typed ≡ b → AllSay s (if b then prefix_applied s.tables class.token.0 d a else fine).events → ActualsFit s (In k) es (class_parameters s (Some number))
      typed true is said = number_fits (nat_eq (formal_count s.tables d) a.count) refl said
      typed false is said = absurd (false≢true (sym is ∙ are.typed refl))

  class_fits : AllSay s (prefixed_events s.tables class es begin) → ActualsFit s (In k) es (class_parameters s (Some number))
  unfolding prefixed_events telling
  class_fits said =
      let events = subst (λ o. AllSay s (next (prefix_used class.token.0 o) (λ d. next (actuals s.tables extent.Statement d no_actuals es) (prefixed_with s.tables class.token.0 d))).events) denotes said in
      let parts = next_says s (prefix_used class.token.0 (Some (denotation.Declared prefix.declaration))) (λ d. next (actuals s.tables extent.Statement d no_actuals es) (prefixed_with s.tables class.token.0 d)) events in
      let more = next_says s (actuals s.tables extent.Statement (Some (denotation.Declared prefix.declaration)) no_actuals es) (prefixed_with s.tables class.token.0 (Some (denotation.Declared prefix.declaration))) parts.1 in
      fits (actuals_are s known (In k) reach extent.Statement (Some (denotation.Declared prefix.declaration)) es all no_actuals more.0) more.1

-- a standard prefix in front of a block has no parameters
module _ (s : Source) (known : Tabled s) (k : ℕ) (reach : ReachedFrom s (In k)) (class : Identifier) (es : Expressions) (begin number : ℕ) (placed : block_around s begin ≡ Some number) (prefix : StandardPrefixed s number) (all : AllKnown s (In k) extent.Statement es) where
  abbrev own : Denotation
  own = denotation.Standard (standard.Prefix prefix.which)

  standard_denotes : prefix_at s.tables begin ≡ Some own
  unfolding prefix_at block_around block_at
  standard_denotes = ap (prefix_of_block s.tables) placed ∙ prefix.denoted

  abbrev given : Actuals
  given = (actuals s.tables extent.Statement (Some own) no_actuals es).value

  nothing_given : (es : Expressions) → size es ≡ 0 → ActualsFit s (In k) es []
  nothing_given NoMore none = tt
  nothing_given (Then e es) none = absurd (omega (arith, none))

  nothing_fits : AllActuals s (In k) (Some own) es no_actuals given → AllSay s (prefixed_with s.tables class.token.0 (Some own) given).events → ActualsFit s (In k) es (class_parameters s (Some number))
  unfolding prefixed_with fine wrong telling gives
  nothing_fits are said = subst (λ ds. ActualsFit s (In k) es (formals_from s ds)) (sym prefix.parameters) (nothing_given es (none (typed given.typed refl said)))
    where
      counted : (b : Bool) → nat_eq 0 given.count ≡ b → AllSay s (if b then told given.misfit else wrong class.token.0 r.WrongNumber).events → given.count ≡ 0
      counted true same said = grind (arith, nat_tests)
      counted false same said = absurd said.0

      typed : (b : Bool) → given.typed ≡ b → AllSay s (if b then prefix_applied s.tables class.token.0 own given else fine).events → given.count ≡ 0
      typed true is said = counted (nat_eq 0 given.count) refl said
      typed false is said = absurd (false≢true (sym is ∙ are.typed refl))

      none : given.count ≡ 0 → size es ≡ 0
      none zero = let count = are.count in omega (arith, zero, count)

  standard_fits : AllSay s (prefixed_events s.tables class es begin) → ActualsFit s (In k) es (class_parameters s (Some number))
  unfolding prefixed_events telling
  standard_fits said =
      let events = subst (λ o. AllSay s (next (prefix_used class.token.0 o) (λ d. next (actuals s.tables extent.Statement d no_actuals es) (prefixed_with s.tables class.token.0 d))).events) standard_denotes said in
      let parts = next_says s (prefix_used class.token.0 (Some own)) (λ d. next (actuals s.tables extent.Statement d no_actuals es) (prefixed_with s.tables class.token.0 d)) events in
      let more = next_says s (actuals s.tables extent.Statement (Some own) no_actuals es) (prefixed_with s.tables class.token.0 (Some own)) parts.1 in
      nothing_fits (actuals_are s known (In k) reach extent.Statement (Some own) es all no_actuals more.0) more.1

pub prefix_fits : (s : Source) → Tabled s → (k : ℕ) → ReachedFrom s (In k) → (class : Identifier) (es : Expressions) (begin number : ℕ) → block_around s begin ≡ Some number → BlockPrefix s number ⊎ StandardPrefixed s number → AllKnown s (In k) extent.Statement es
    → AllSay s (prefixed_events s.tables class es begin) → ActualsFit s (In k) es (class_parameters s (Some number))
prefix_fits s known k reach class es begin number placed (inl prefix) all said = class_fits s known k reach class es begin number placed prefix all said
prefix_fits s known k reach class es begin number placed (inr prefix) all said = standard_fits s known k reach class es begin number placed prefix all said
