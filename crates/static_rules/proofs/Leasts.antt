-- The least of what is so, and that there is one at most.
use Rattle.std.proofs.Common.{◌≡◌, ◌⊎◌, inl, inr, ℕ, Bool, true, false, List, [], ◌∷◌, Option, Some, None, refl, sym, ap, ◌∙◌, subst, arith, nat_lt, nat_eq, if◌then◌else◌}
use Rattle.std.proofs.lemmas.Bool.Decides.{nat_tests}
use Rattle.std.specs.Prelude.{◌||◌, ◌&&◌, slice_get}
use Rattle.sim_base.specs.declared.rule.Rule.{Rule}
use Rattle.sim_base.specs.declared.rule.Rule.TheVariants as r
use Rattle.prefix_bind.specs.Prefixes as p
use Rattle.prefix_bind.specs.Prefixes.{least_of}
use Rattle.sim_scope.specs.Found.{fault, lesser, lesser_of, precedes, rank}
use Rattle.sim_scope.specs.Least.{Among, IsLeast, least, nothing}
use Rattle.sim_scope.specs.Runs.{run}
use Rattle.sim_scope.specs.declared.found.Fault.{Fault}
use Rattle.sim_scope.proofs.Leasts.{noted, noted-least}
use Rattle.static_rules.proofs.Lists.{among_none}

lex : (a b m n : ℕ) → Bool
lex a b m n = nat_lt a b || nat_eq a b && nat_lt m n

lex_not_both : (a b m n : ℕ) → lex a b m n ≡ true → lex b a n m ≡ false
unfolding lex
lex_not_both a b m n h = grind (arith, nat_tests)

lex_not_trans : (a b c m n k : ℕ) → lex b a n m ≡ false → lex c b k n ≡ false → lex c a k m ≡ false
unfolding lex
lex_not_trans a b c m n k h i = grind (arith, nat_tests)

lex_first : (a b m n : ℕ) → lex a b m n ≡ false → lex b a n m ≡ false → a ≡ b
unfolding lex
lex_first a b m n h i = grind (arith, nat_tests)

lex_second : (a b m n : ℕ) → lex a b m n ≡ false → lex b a n m ≡ false → m ≡ n
unfolding lex
lex_second a b m n h i = grind (arith, nat_tests)

not_both : (x y : Fault) → precedes x y ≡ true → precedes y x ≡ false
unfolding precedes lex
not_both x y h = lex_not_both x.token.0 y.token.0 (rank x.rule) (rank y.rule) h

not_trans : (x y z : Fault) → precedes y x ≡ false → precedes z y ≡ false → precedes z x ≡ false
unfolding precedes lex
not_trans x y z h i = lex_not_trans x.token.0 y.token.0 z.token.0 (rank x.rule) (rank y.rule) (rank z.rule) h i

-- ---- the least

pub data LeastIn (P : Fault → Type 0) : Option Fault → Type 0 where
  none_in : ((x : Fault) → P x → ⊥) → LeastIn P None
  least_in : {x : Fault} → P x → ((y : Fault) → P y → precedes y x ≡ false) → LeastIn P (Some x)

none_of : (xs : List Fault) → xs ≡ [] → (x : Fault) → Among xs x → ⊥
none_of xs e x h = among_none (subst (λ z. Among z x) e h)

pub of_list : (xs : List Fault) (o : Option Fault) → IsLeast xs o → LeastIn (Among xs) o
of_list xs None (nothing e) = none_in (none_of xs e)
of_list xs (Some x) (least h all) = least_in h all

noted-is : (f : Option Fault) (xs : List Fault) → run p.noted f xs ≡ noted f xs
unfolding run p.noted noted
noted-is f [] = refl
noted-is f (x ∷ xs) = noted-is (lesser f x) xs

pub of_faults : (xs : List Fault) → LeastIn (Among xs) (least_of xs)
unfolding least_of
of_faults xs = of_list xs (least_of xs) (subst (λ o. IsLeast xs o) (sym (noted-is None xs)) (noted-least xs))

pub along : (P Q : Fault → Type 0) (o : Option Fault) → ((x : Fault) → P x → Q x) → ((x : Fault) → Q x → P x) → LeastIn P o → LeastIn Q o
along P Q None f g (none_in empty) = none_in (λ x h. empty x (g x h))
along P Q (Some x) f g (least_in h all) = least_in (f x h) (λ y k. all y (g y k))

-- of one or the other
with_second : (P Q : Fault → Type 0) (x z : Fault) → precedes z x ≡ true → ((y : Fault) → P y → precedes y x ≡ false) → ((y : Fault) → Q y → precedes y z ≡ false) → (y : Fault) → P y ⊎ Q y → precedes y z ≡ false
with_second P Q x z less first second y (inl h) = not_trans z x y (not_both z x less) (first y h)
with_second P Q x z less first second y (inr h) = second y h

with_first : (P Q : Fault → Type 0) (x z : Fault) → precedes z x ≡ false → ((y : Fault) → P y → precedes y x ≡ false) → ((y : Fault) → Q y → precedes y z ≡ false) → (y : Fault) → P y ⊎ Q y → precedes y x ≡ false
with_first P Q x z less first second y (inl h) = first y h
with_first P Q x z less first second y (inr h) = not_trans x z y less (second y h)

either_none : (P Q : Fault → Type 0) → ((x : Fault) → P x → ⊥) → ((x : Fault) → Q x → ⊥) → (x : Fault) → P x ⊎ Q x → ⊥
either_none P Q empty none x (inl h) = empty x h
either_none P Q empty none x (inr h) = none x h

left_alone : (P Q : Fault → Type 0) (x : Fault) → ((x : Fault) → Q x → ⊥) → ((y : Fault) → P y → precedes y x ≡ false) → (y : Fault) → P y ⊎ Q y → precedes y x ≡ false
left_alone P Q x none all y (inl h) = all y h
left_alone P Q x none all y (inr h) = absurd (none y h)

right_alone : (P Q : Fault → Type 0) (x : Fault) → ((x : Fault) → P x → ⊥) → ((y : Fault) → Q y → precedes y x ≡ false) → (y : Fault) → P y ⊎ Q y → precedes y x ≡ false
right_alone P Q x none all y (inl h) = absurd (none y h)
right_alone P Q x none all y (inr h) = all y h

pub of_both : (P Q : Fault → Type 0) (a b : Option Fault) → LeastIn P a → LeastIn Q b → LeastIn (λ x. P x ⊎ Q x) (lesser_of a b)
of_both P Q None None (none_in empty) (none_in none) = none_in (either_none P Q empty none)
of_both P Q (Some x) None (least_in h all) (none_in none) = least_in (inl h) (left_alone P Q x none all)
of_both P Q None (Some z) (none_in empty) (least_in k every) = least_in (inr k) (right_alone P Q z empty every)
of_both P Q (Some x) (Some z) (least_in h all) (least_in k every) = go (precedes z x) refl
  where
    go : (c : Bool) → precedes z x ≡ c → LeastIn (λ y. P y ⊎ Q y) (if c then Some z else Some x)
    go true e = least_in (inr k) (with_second P Q x z e all every)
    go false e = least_in (inl h) (with_first P Q x z e all every)

-- ---- one at most

all_rules : List Rule
all_rules =
    r.ByteBeginsNoToken ∷ r.TextConstantNotClosed ∷ r.BadCharacterConstant ∷ r.RealConstant ∷ r.IntegerTooLarge ∷ r.CommentNotClosed ∷ r.Directive ∷ r.SourceTooLong ∷ r.WordLeftOut ∷ r.UnexpectedToken ∷ r.NestedTooDeeply ∷ r.DeclaredTwice
    ∷ r.PrefixIsNoClass ∷ r.ClassInItsOwnChain ∷ r.SpecificationDisagrees ∷ r.ModeNotAllowed ∷ r.InnerOutOfPlace ∷ r.TooManyLevels ∷ r.TooManyCells ∷ r.TooManyDeclarations ∷ r.QualificationIsNoClass ∷ r.MatchDoesNotFit ∷ r.ProtectionOfNoAttribute
    ∷ r.NotDeclared ∷ r.NotAccessible ∷ r.WrongKind ∷ r.WrongType ∷ r.LeftSideIsNoVariable ∷ r.WrongNumber ∷ r.DifferentChains ∷ r.ClassWithClasses ∷ r.ThisOutsideItsClass ∷ r.ControlledVariableNotSimple ∷ r.ActivationOutsideSimulation
    ∷ r.OnlyForPrefixing ∷ r.BoundDependsOnItsBlock ∷ r.StandardNameLeftOut ∷ r.RealFunction ∷ r.RandomDrawing ∷ r.FileOrLayout ∷ r.EnvironmentName ∷ []

ranked : (x : Rule) → slice_get all_rules (rank x) ≡ Some x
unfolding all_rules
ranked r.ByteBeginsNoToken = refl
ranked r.TextConstantNotClosed = refl
ranked r.BadCharacterConstant = refl
ranked r.RealConstant = refl
ranked r.IntegerTooLarge = refl
ranked r.CommentNotClosed = refl
ranked r.Directive = refl
ranked r.SourceTooLong = refl
ranked r.WordLeftOut = refl
ranked r.UnexpectedToken = refl
ranked r.NestedTooDeeply = refl
ranked r.DeclaredTwice = refl
ranked r.PrefixIsNoClass = refl
ranked r.ClassInItsOwnChain = refl
ranked r.SpecificationDisagrees = refl
ranked r.ModeNotAllowed = refl
ranked r.InnerOutOfPlace = refl
ranked r.TooManyLevels = refl
ranked r.TooManyCells = refl
ranked r.TooManyDeclarations = refl
ranked r.QualificationIsNoClass = refl
ranked r.MatchDoesNotFit = refl
ranked r.ProtectionOfNoAttribute = refl
ranked r.NotDeclared = refl
ranked r.NotAccessible = refl
ranked r.WrongKind = refl
ranked r.WrongType = refl
ranked r.LeftSideIsNoVariable = refl
ranked r.WrongNumber = refl
ranked r.DifferentChains = refl
ranked r.ClassWithClasses = refl
ranked r.ThisOutsideItsClass = refl
ranked r.ControlledVariableNotSimple = refl
ranked r.ActivationOutsideSimulation = refl
ranked r.OnlyForPrefixing = refl
ranked r.BoundDependsOnItsBlock = refl
ranked r.StandardNameLeftOut = refl
ranked r.RealFunction = refl
ranked r.RandomDrawing = refl
ranked r.FileOrLayout = refl
ranked r.EnvironmentName = refl

same_rule : (x y : Rule) → rank x ≡ rank y → x ≡ y
same_rule x y e = let same : Some x ≡ Some y = sym (ranked x) ∙ ap (slice_get all_rules) e ∙ ranked y in cc

same_fault : (x y : Fault) → precedes x y ≡ false → precedes y x ≡ false → x ≡ y
unfolding precedes lex
same_fault x y h i =
    let token : x.token.0 ≡ y.token.0 = lex_first x.token.0 y.token.0 (rank x.rule) (rank y.rule) h i in
    let rule : x.rule ≡ y.rule = same_rule x.rule y.rule (lex_second x.token.0 y.token.0 (rank x.rule) (rank y.rule) h i) in
    ap (λ z. fault z x.rule) token ∙ ap (fault y.token.0) rule

pub one_least : (P : Fault → Type 0) (a b : Option Fault) → LeastIn P a → LeastIn P b → a ≡ b
one_least P None None (none_in empty) (none_in none) = refl
one_least P None (Some y) (none_in empty) (least_in k every) = absurd (empty y k)
one_least P (Some x) None (least_in h all) (none_in none) = absurd (none x h)
one_least P (Some x) (Some y) (least_in h all) (least_in k every) = ap Some (same_fault x y (every x h) (all y k))
