-- The evaluation of an actual parameter by name begins on top of the activation that asks for it, and ends with what that gets.
use Rattle.std.proofs.Common.{◌≡◌, ◌<◌, ℕ, suc, Bool, true, false, List, [], ◌∷◌, length, Option, Some, None, refl, sym, ap, ◌∙◌, subst, arith}
use Rattle.std.specs.Prelude.{if◌then◌else◌}
use Rattle.sim_base.specs.declared.limits.Limits.{Limits}
use Rattle.sim_base.specs.declared.numbering.DeclNo.{DeclNo}
use Rattle.sim_scope.specs.Source.{Source, type_at}
use Rattle.sim_tree.specs.Syntax.{Expression}
use Rattle.sim_values.specs.declared.kind.Kind.{Kind}
use Rattle.sim_code.specs.Events.{having, ticking, when}
use Rattle.sim_code.specs.Instances.{is_live}
use Rattle.sim_code.specs.Instances as instances
use Rattle.sim_code.specs.Outcome.{Run, World}
use Rattle.sim_meaning.specs.Closing.{by_name, is_placed, typed_token}
use Rattle.sim_meaning.specs.Levels.{qualification}
use Rattle.sim_meaning.specs.Meaning.{do_op, formal_in_hand}
use Rattle.sim_meaning.specs.Pending.{Activation, Actual, Address, ArrayValue, CloseOp, Configuration, Do, EndEvaluation, Instances, Item, Key, Link, NamedOp, Of, ProcedureValue, Use, Val, actual_in, cell, owner, ForParameter, ForPlace, ForValue, Passing}
use Rattle.sim_meaning.specs.Steps.{go}
use Rattle.sim_sound.specs.Held.{ByName, Place, ArrayOf, Holds, Procedure, Refers, Simply}
use Rattle.sim_sound.specs.Expressions.{ActualIs, ActualPassed, ExprIs, PlaceIs, NamedIs}
use Rattle.sim_sound.specs.Typed.{Typed}
use Rattle.sim_sound.proofs.Cells.{cell_found}
use Rattle.sim_sound.proofs.Chains.{evaluation_lower}
use Rattle.sim_sound.proofs.Entering.{chain_headed, chain_placed, waits_on}
use Rattle.sim_sound.proofs.Evals.{IsFine, Work, idle_evaluates, work_owner}
use Rattle.sim_sound.proofs.Heads.{headed_as, headed_with, headed_without}
use Rattle.sim_sound.proofs.Lifts.{Goes, had, ran, ticked, whens}
use Rattle.sim_sound.proofs.Moves.{near_then, placed_as, placed_with, placed_without}
use Rattle.sim_sound.proofs.Prefixes.{same_level}
use Rattle.sim_sound.proofs.Running.{Begun, ChainFine, Operates, footing, idle, runs, seat_on, Serves}
use Rattle.sim_sound.proofs.Sound.{Gets, Gives, OpFine, actual_gives, actual_gives_by, place_gives, GivesKind}
use Rattle.sim_sound.proofs.Values.{ActualFine, DeepFine, HandsFine, Kinds, Marks, Near, Present, Seat, Stands, Takes, ValFine, at_seat, in_bound, in_text, own_text, see, ForFormal, Passes, Waits}
use Rattle.sim_scope.specs.declared.types.Formal.{Formal}

-- what a closed actual gives is of what it means
value_given_so : (s : Source) (from : Place) (e : Expression) (k : Kind) → NamedIs s from e k → GivesKind k (actual_gives s false e (Simply k))
value_given_so s from e k a = by_flag (is_placed s e) a
  where
    by_class : (class : Option ℕ) (formal : Option DeclNo) → ActualPassed true class (ExprIs s from e) (PlaceIs s from e) k → GivesKind k (place_gives k class formal)
    by_class class (Some d) a = refl
    by_class None None a = (refl, a.0)
    by_class (Some c) None a = a.0

    by_flag : (b : Bool) → ActualPassed b (qualification s (type_at s (typed_token e))) (ExprIs s from e) (PlaceIs s from e) k → GivesKind k (actual_gives_by b s e k)
    by_flag true a = by_class (qualification s (type_at s (typed_token e))) (by_name s e) a
    by_flag false a = refl

pub actual_given : (s : Source) (from : Place) (p : Bool) (e : Expression) (h : Holds) → ActualIs s from p e h → Gives h (actual_gives s p e h)
actual_given s from false e (Simply k) a = value_given_so s from e k a
actual_given s from false e (ArrayOf h) a = refl
actual_given s from true e (Procedure r) a = refl
actual_given s from true e (Simply k) a = absurd a
actual_given s from true e (Refers c) a = absurd a
actual_given s from true e (ArrayOf h) a = absurd a
actual_given s from true e (ByName h) a = absurd a
actual_given s from false e (Refers c) a = absurd a
actual_given s from false e (Procedure r) a = absurd a
actual_given s from false e (ByName h) a = absurd a

-- no use asks for what is passed for a formal parameter
no_passing : (s : Source) (h : Holds) (number line : ℕ) (x : Kinds) → Gets s h (ForParameter number line) x → ⊥
no_passing s (Simply k) number line x a = a
no_passing s (Refers c) number line x a = a
no_passing s (ArrayOf h) number line x a = a
no_passing s (Procedure r) number line x a = a
no_passing s (ByName h) number line x a = a

use_serves : (s : Source) (Below : Waits → Type 0) (h : Holds) (wanted : Use) (y x : Kinds) → Gives h y → Gets s h wanted x → Below (Takes (Some x)) → Serves s Below wanted y
use_serves s Below h (ForValue class line) y x gives gets below = (h, gives, x, gets, below)
use_serves s Below h (ForPlace value_too line) y x gives gets below = (h, gives, x, gets, below)
use_serves s Below h (ForParameter number line) y x gives gets below = absurd (no_passing s h number line x gets)

-- an instance for which an expression stands, with its own text
pub record Home (s : Source) (m : Instances) (home : ℕ) : Type 0 where
  pub of_text : ℕ
  pub todo : List DeclNo
  pub here : Present s m home of_text todo
  pub own : (here.now).text ≡ of_text

pub home_of_stands : (s : Source) (m : Instances) (home : ℕ) (from : Place) → Stands s m home from → Home s m home
home_of_stands s m home _ (in_text p) = record { of_text = (p.now).text; todo = []; here = record { now = p.now; lives = p.lives; stands = own_text same_level; words = p.words; has_text = p.has_text; made = p.made }; own = refl }
home_of_stands s m home _ (in_bound {todo = todo} p own at ready solid) = record { of_text = (p.now).text; todo = todo; here = record { now = p.now; lives = p.lives; stands = own_text same_level; words = p.words; has_text = p.has_text; made = p.made }; own = refl }

module _ (s : Source) (ok : Typed s) (l : Limits) (o : World) (g : Marks) (long : length g.sights ≡ length o.arrays) (m : Instances) (i t : ℕ) (rest : List Activation) (top : Operates g.beneath g.seat m i rest) (w : List Item) (vals : List Val) (todo : List DeclNo) (ks : List Kinds) (b : Begun s (see g o) m i t todo) (h : HandsFine s (see g o) m i ks vals) where
  -- ---- it begins

  module _ (xs : List Kinds) (work : Work s o g long m i t rest top w todo xs) (means : Holds) (wanted : Use) (home : ℕ) (p : Bool) (e : Expression) (f : ActualFine s (see g o) m i means home p e) where
    abbrev Asks : Activation
    Asks = record { instance = i; work = w; values = vals }

    abbrev Evaluates : Activation
    Evaluates = record { instance = home; work = Do (CloseOp p e) ∷ EndEvaluation wanted ∷ []; values = [] }

    abbrev its : Home s m home
    its = home_of_stands s m home f.from f.stands

    abbrev seat : Seat
    seat = record { owner = (g.seat).owner; evaluations = suc (g.seat).evaluations; lower = i }

    asks_seated : seat_on (owner Asks) (footing None rest) ≡ Some g.seat
    asks_seated = ap (λ u. seat_on u (footing None rest)) (work_owner s o g long m i t rest top w vals todo xs work) ∙ top.seated

    module _ (serves : Serves s (λ v. ChainFine s (see g o) m (Asks ∷ rest) v) wanted (actual_gives s p e means)) where
      evaluation_fine : ChainFine s (see g o) m (Evaluates ∷ Asks ∷ rest) (Takes None)
      evaluation_fine = record {
        of_text = (its).of_text;
        todo = (its).todo;
        here = (its).here;
        own = (its).own;
        stands_on = λ j is. absurd (cc);
        seat = seat;
        seated = ap (λ y. Rattle.sim_sound.proofs.Running.evaluation_seat y (Some i)) asks_seated;
        works = record { near = near_then (see g o) m (g.seat).owner i home (b.works).near f.near; through = (b.works).near; lower = f.near };
        vals = [];
        shown = refl;
        kinds = [];
        hands = tt;
        expected = [];
        expects = refl;
        goes = (
          (its).todo,
          actual_gives s p e means ∷ [],
          (means, f.from, f.stands, f.typed, refl, refl),
          (refl, omega arith, actual_gives s p e means, refl, serves),
        );
      }

      pub begins : (t' w' : ℕ) → IsFine s (ran o t' w') (record { chain = Evaluates ∷ Asks ∷ rest; memory = m })
      begins t' w' =
          (g, long, runs b.store (placed_with m Evaluates (Asks ∷ rest) refl (chain_placed s ok l o g long m i t rest top w vals todo xs work vals)) (headed_with m Evaluates (Asks ∷ rest) (chain_headed s ok l o g long m i t rest top w vals todo xs work vals)) evaluation_fine)

      -- the same of the world as it is
      pub begins_here : IsFine s o (record { chain = Evaluates ∷ Asks ∷ rest; memory = m })
      begins_here =
          (g, long, runs b.store (placed_with m Evaluates (Asks ∷ rest) refl (chain_placed s ok l o g long m i t rest top w vals todo xs work vals)) (headed_with m Evaluates (Asks ∷ rest) (chain_headed s ok l o g long m i t rest top w vals todo xs work vals)) evaluation_fine)

    lives : is_live m home ≡ true
    lives = ap instances.is_live_in (its.here).lives

  -- an activation that waits for what is passed for a formal parameter of the procedure in its hand
  pub waits_passes : (number : ℕ) (formal : Formal) → formal_in_hand s number vals ≡ Some formal → (work : Work s o g long m i t rest top w todo (ForFormal number ∷ ks)) → ChainFine s (see g o) m (record { instance = i; work = w; values = vals } ∷ rest) (Passes number formal)
  waits_passes number formal is work =
      let own = work_owner s o g long m i t rest top w vals todo (ForFormal number ∷ ks) work in
      record { of_text = t; todo = todo; here = b.here; own = b.own; stands_on = λ j at. top.stands_on j (sym own ∙ at); seat = g.seat; seated = ap (λ u. seat_on u (footing None rest)) own ∙ top.seated; works = b.works; vals = vals; shown = (refl, is); kinds = ks; hands = h; expected = ForFormal number ∷ ks; expects = refl; goes = work }

  pub named_op : (e : ℕ) (key : Key) (wanted : Use) (todo' : List DeclNo) (behind : List Kinds) → OpFine s (see g o) m i t (NamedOp e key wanted) todo todo' ks behind → Work s o g long m i t rest top w todo' behind → Goes (IsFine s) (do_op s l o m i w vals rest (NamedOp e key wanted))
  named_op e key wanted todo' behind a work =
      let v = cell_found s ok (see g o) m i t todo e key (ByName a.0) b a.3 in
      had (IsFine s) (cell m e key) v.0 o _ v.1 (by_value v.0 v.2)
    where
      next : Passing → World → Run Configuration
      next q p = go p m q.home (Do (CloseOp q.as_procedure q.expression) ∷ EndEvaluation wanted ∷ []) [] (record { instance = i; work = w; values = vals } ∷ rest)

      by_value : (v : Val) → ValFine s (see g o) m i (ByName a.0) v → Goes (IsFine s) (having (actual_in v) o (λ q. when (is_live m q.home) o (ticking l o (next q))))
      by_value (Actual home pr x) f =
          let w' = subst (λ z. Work s o g long m i t rest top w z (a.1 ∷ ks)) a.5 (subst (Work s o g long m i t rest top w todo') a.4 work) in
          let q : Passing = record { home = home; as_procedure = pr; expression = x } in
          had (IsFine s) (Some q) q o (λ q. when (is_live m q.home) o (ticking l o (next q))) refl
          (whens (IsFine s) (is_live m home) o (ticking l o (next q)) (lives (a.1 ∷ ks) w' a.0 wanted home pr x f)
          (ticked (IsFine s) l o (next q) (λ t' n. begins (a.1 ∷ ks) w' a.0 wanted home pr x f (use_serves s (λ v. ChainFine s (see g o) m (record { instance = i; work = w; values = vals } ∷ rest) v) a.0 wanted (actual_gives s pr x a.0) a.1 (actual_given s f.from pr x a.0 f.typed) a.2 (waits_on s ok l o g long m i t rest top w vals vals todo ks (Some a.1) b h w')) t' n)))
      by_value (Of z) f = absurd f
      by_value (Link z) f = absurd f
      by_value (Address z) f = absurd f
      by_value (ArrayValue z) f = absurd f
      by_value (ProcedureValue z y) f = absurd f

-- ---- it ends

module _ (s : Source) (o : World) (g : Marks) (long : length g.sights ≡ length o.arrays) (m : Instances) (i t : ℕ) (a : Activation) (rest : List Activation) (top : Operates g.beneath g.seat m i (a ∷ rest)) (some : 0 < (g.seat).evaluations) (todo : List DeclNo) (b : Begun s (see g o) m i t todo) where
  pub no_owner : owner (idle g.seat i) ≡ None
  no_owner = ap (λ z. if z then None else Some i) (idle_evaluates (g.seat).evaluations some)

  -- the instance for which it worked is there for as long as that of the activation below
  pub given_near : Near (see g o) m a.instance i
  given_near = subst (λ z. Near (see g o) m z i) (evaluation_lower (footing None (a ∷ rest)).seat a.instance g.seat (ap (λ u. seat_on u (footing None (a ∷ rest))) (sym no_owner) ∙ top.seated)) (b.works).lower

  abbrev pub Goes_on : Val → Activation
  Goes_on v = record { instance = a.instance; work = a.work; values = v ∷ a.values }

  -- that gets a value, or where something lies, and goes on
  pub goes_on_with : (x : Kinds) (c : ChainFine s (see g o) m (a ∷ rest) (Takes (Some x))) (v : Val) → ((d : List Val) → DeepFine s (at_seat (see g o) c.seat) m a.instance d x v) → IsFine s o (record { chain = Goes_on v ∷ rest; memory = m })
  goes_on_with x c v fine = (
    g,
    long,
    runs b.store (placed_as m a (Goes_on v) rest refl (placed_without m (idle g.seat i) (a ∷ rest) no_owner top.placed)) (headed_as m a (Goes_on v) rest refl (headed_without m (idle g.seat i) (a ∷ rest) no_owner top.headed)) (record {
      of_text = c.of_text;
      todo = c.todo;
      here = c.here;
      own = c.own;
      stands_on = c.stands_on;
      seat = c.seat;
      seated = c.seated;
      works = c.works;
      vals = v ∷ c.vals;
      shown = ap (λ z. v ∷ z) c.shown;
      kinds = x ∷ c.kinds;
      hands = (fine c.vals, c.hands);
      expected = c.expected;
      expects = c.expects;
      goes = c.goes;
    }),
  )
