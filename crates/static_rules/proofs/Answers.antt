-- The answer of the static rules is the least rule that is broken in the first round in which one is.
use Rattle.std.proofs.Common.{◌≡◌, ◌⊎◌, ℕ, Option, Some, None, refl, ap, length, subst}
use Rattle.std.specs.Prelude.{Err, Ok, Result, replicate}
use Rattle.sim_tree.specs.Syntax.{Program}
use Rattle.sim_tree.specs.SyntaxOfProgram.{program_syntax}
use Rattle.sim_tree.specs.declared.program.Program.{Program as Tree}
use Rattle.prefix_bind.specs.Prefixes.{least_of, prefix_faults}
use Rattle.sim_scope.specs.Breaks.{broken_by}
use Rattle.sim_scope.specs.Declare.{declared_by}
use Rattle.sim_scope.specs.Least.{Among, faults}
use Rattle.sim_scope.specs.Statements.{judging}
use Rattle.sim_scope.specs.Walk.{program_events}
use Rattle.sim_scope.specs.declared.bound.Bound.{Bound}
use Rattle.sim_scope.specs.declared.found.Fault.{Fault}
use Rattle.sim_scope.specs.declared.refusal.StaticRefusal.{StaticRefusal}
use Rattle.sim_scope.specs.declared.refusal.StaticRefusal.TheVariants as refusal
use Rattle.sim_scope.proofs.Breaking.{least_declared}
use Rattle.sim_scope.proofs.Leasts.{least_law}
use Rattle.sim_static.specs.Check.{Answers, answer, first_answer, first_least, judged, last_answer, second_answer, second_least}
use Rattle.virtual_match.specs.Protections.{second_faults}
use Rattle.static_rules.specs.Answer.{AnswersByRules, BreaksNone, Decides, IsDecided, IsLeastOf, in_first, in_last, in_none, in_second, refused_by}
use Rattle.static_rules.specs.FirstRound.{with_prefixes}
use Rattle.static_rules.specs.Rules.{Breaks, First, Last, Round, Second}
use Rattle.static_rules.specs.SecondRound.{whole_tables}
use Rattle.static_rules.proofs.Firsts.{first_broken, first_found}
use Rattle.static_rules.proofs.Lasts.{last_broken, last_found}
use Rattle.static_rules.proofs.Leasts.{LeastIn, along, least_in, none_in, of_both, of_faults, of_list, one_least}
use Rattle.static_rules.proofs.Seconds.{second_broken, second_found}

-- ---- each round

first_round : (p : Program) → LeastIn (Breaks p First) (first_least (declared_by p))
first_round p =
    let broken : Fault → Type 0 = Among (broken_by p) in
    let prefixes : Fault → Type 0 = Among (prefix_faults (with_prefixes p)) in
    along (λ x. broken x ⊎ prefixes x) (Breaks p First) (first_least (declared_by p)) (first_found p) (first_broken p)
    (of_both broken prefixes (declared_by p).least (least_of (prefix_faults (with_prefixes p))) (of_list (broken_by p) (declared_by p).least (least_declared p)) (of_faults (prefix_faults (with_prefixes p))))

second_round : (p : Program) → LeastIn (Breaks p Second) (second_least (whole_tables p))
second_round p = along (Among (second_faults (whole_tables p))) (Breaks p Second) (second_least (whole_tables p)) (second_found p) (second_broken p) (of_faults (second_faults (whole_tables p)))

last_round : (tokens : ℕ) (p : Program) → LeastIn (Breaks p Last) (judged tokens (whole_tables p) p).least
unfolding judged
last_round tokens p =
    let es = program_events (judging (whole_tables p)) p in
    along (Among (faults es)) (Breaks p Last) (judged tokens (whole_tables p) p).least (last_found p) (last_broken p)
    (of_list (faults es) (judged tokens (whole_tables p) p).least (least_law es (replicate tokens None) (replicate tokens None) (replicate tokens None)))

-- ---- the answer

module _ (tokens : ℕ) (p : Program) where
  by_last : BreaksNone p First → BreaksNone p Second → (o : Option Fault) → LeastIn (Breaks p Last) o → Decides p (refused_by (last_answer (whole_tables p) (judged tokens (whole_tables p) p) o))
  by_last first second None (none_in last) = in_none first second last
  by_last first second (Some x) (least_in h all) = in_last first second (record { is_broken = h; is_least = all })

  by_second : BreaksNone p First → (o : Option Fault) → LeastIn (Breaks p Second) o → Decides p (refused_by (second_answer tokens p (whole_tables p) o))
  by_second first None (none_in second) = by_last first second (judged tokens (whole_tables p) p).least (last_round tokens p)
  by_second first (Some x) (least_in h all) = in_second first (record { is_broken = h; is_least = all })

  by_first : (o : Option Fault) → LeastIn (Breaks p First) o → Decides p (refused_by (first_answer tokens p (declared_by p).tables o))
  by_first None (none_in first) = by_second first (second_least (whole_tables p)) (second_round p)
  by_first (Some x) (least_in h all) = in_first (record { is_broken = h; is_least = all })

  answered : Decides p (refused_by (answer tokens p))
  unfolding answer
  answered = by_first (first_least (declared_by p)) (first_round p)

-- ---- one answer

least_is : (p : Program) (round : Round) (x : Fault) → IsLeastOf p round x → LeastIn (Breaks p round) (Some x)
least_is p round x l = least_in l.is_broken l.is_least

same_least : (p : Program) (round : Round) (x y : Fault) → IsLeastOf p round x → IsLeastOf p round y → Some x ≡ Some y
same_least p round x y l m = one_least (Breaks p round) (Some x) (Some y) (least_is p round x l) (least_is p round y m)

one_decided : (p : Program) (a b : Option Fault) → Decides p a → Decides p b → a ≡ b
one_decided p _ _ (in_first {x = x} l) (in_first {x = y} m) = same_least p First x y l m
one_decided p _ _ (in_first {x = x} l) (in_second {x = y} first m) = absurd (first x l.is_broken)
one_decided p _ _ (in_first {x = x} l) (in_last {x = y} first second m) = absurd (first x l.is_broken)
one_decided p _ _ (in_first {x = x} l) (in_none first second last) = absurd (first x l.is_broken)
one_decided p _ _ (in_second {x = x} first l) (in_first {x = y} m) = absurd (first y m.is_broken)
one_decided p _ _ (in_second {x = x} first l) (in_second {x = y} none m) = same_least p Second x y l m
one_decided p _ _ (in_second {x = x} first l) (in_last {x = y} none second m) = absurd (second x l.is_broken)
one_decided p _ _ (in_second {x = x} first l) (in_none none second last) = absurd (second x l.is_broken)
one_decided p _ _ (in_last {x = x} first second l) (in_first {x = y} m) = absurd (first y m.is_broken)
one_decided p _ _ (in_last {x = x} first second l) (in_second {x = y} none m) = absurd (second y m.is_broken)
one_decided p _ _ (in_last {x = x} first second l) (in_last {x = y} none two m) = same_least p Last x y l m
one_decided p _ _ (in_last {x = x} first second l) (in_none none two last) = absurd (last x l.is_broken)
one_decided p _ _ (in_none first second last) (in_first {x = y} m) = absurd (first y m.is_broken)
one_decided p _ _ (in_none first second last) (in_second {x = y} none m) = absurd (second y m.is_broken)
one_decided p _ _ (in_none first second last) (in_last {x = y} none two m) = absurd (last y m.is_broken)
one_decided p _ _ (in_none first second last) (in_none none two three) = refl

pub decided : (p : Tree) → IsDecided p
decided p =
    let q : Program = program_syntax p in
    let tokens : ℕ = length p.lines.items in
    record {
      answers = answered tokens q;
      only = λ x d. one_decided q (refused_by (answer tokens q)) x (answered tokens q) d;
    }

pub by_rules : (p : Tree) (result : Result Bound StaticRefusal) → Answers p result → AnswersByRules p result
by_rules p (Ok b) a = subst (Decides (program_syntax p)) (ap refused_by a.1) (decided p).answers
by_rules p (Err (refusal.Broken rule token)) a = subst (Decides (program_syntax p)) (ap refused_by a) (decided p).answers
by_rules p (Err refusal.Memory) a = tt
