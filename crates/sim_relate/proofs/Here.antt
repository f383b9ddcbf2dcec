-- Related states, put together.
use Rattle.std.proofs.Common.{◌≡◌, ◌≤◌, ℕ, List, ◌∷◌, Some, None, refl, sym, ap, ◌∙◌, subst}
use Rattle.std.specs.Prelude.{slice_get}
use Rattle.sim_base.specs.declared.limits.Limits.{Limits}
use Rattle.sim_scope.specs.Source.{Source}
use Rattle.sim_code.specs.declared.instr.Instr.{Instr}
use Rattle.sim_code.specs.declared.instr.Lined.{Lined}
use Rattle.sim_code.specs.Code.{CodeOf}
use Rattle.sim_chains.specs.WellFormed.{IsWellFormed}
use Rattle.sim_code.specs.Instances.{system_head}
use Rattle.sim_code.specs.Outcome.{Going, Run, World}
use Rattle.sim_code.specs.Machine.{Frames, Machine, Value}
use Rattle.sim_code.specs.Machine as machine
use Rattle.sim_code.specs.Rows.{on_top, row}
use Rattle.sim_code.proofs.Lifts.{alike_found}
use Rattle.sim_code.proofs.Simulation.{Alike, going}
use Rattle.sim_meaning.specs.Levels.{text_at}
use Rattle.sim_meaning.specs.Pending.{Activation, Configuration, Instances, Item, Val, evaluates}
use Rattle.sim_meaning.specs.Pending as meaning
use Rattle.sim_meaning.specs.Steps.{go}
use Rattle.sim_meaning.specs.Sane.{AllName, Lives, Other, OwnersKept, OwnersOf}
use Rattle.codegen_expr.specs.Sites.{At, block_number, lined, frame_text}
use Rattle.sim_relate.proofs.Known.{HandAt, Kind, StackAt, Stands, Runs, SameFrame, is_some, owner_of}
use Rattle.sim_relate.proofs.Frames.{stands_same}
use Rattle.sim_relate.proofs.Waiting.{GetsIs, NoValue, suspended_by}
use Rattle.sim_relate.proofs.Relation.{ChainAt, StandingsAt, StateAt, StoreAt, WorkAt}

-- the activation of an instance or an evaluation
abbrev pub act : (inst pc : ℕ) → List Value → Runs → machine.Activation
act inst pc stack b = record { thunk = b.thunk; home = inst; pc = pc; stack = stack; room = b.room; stage = b.stage }

-- who owns it
pub act_owner : (inst pc : ℕ) (stack : List Value) (b : Runs) → b.thunk ≡ None → machine.owner (act inst pc stack b) ≡ Some inst
act_owner inst pc stack b e = ap (λ z. machine.owner (record { thunk = z; home = inst; pc = pc; stack = stack; room = b.room; stage = b.stage })) e

-- where both sides stand, apart from the work
pub record There (s : Source) (code : CodeOf) (m : Instances) (fs : Frames) (inst t : ℕ) (b : Runs) (ks : List Kind) (vals : List Val) (stack : List Value) : Type 0 where
  pub store : StoreAt s code m fs
  pub parked : StandingsAt s code m fs
  pub stands : Stands s m inst t
  pub own : text_at m inst ≡ Some b.own
  pub roomy : b.limit ≤ b.room
  pub found : slice_get code.blocks (block_number s (frame_text s t)) ≡ Some b.block
  pub values : StackAt (HandAt s code m) ks vals stack
  pub free : suspended_by m (owner_of b.thunk inst) ≡ None

-- The same of what operates: its instance lives with its enclosers, and stands at no other place of the chains if it operates itself; and the
-- components are well formed.
pub record Here (s : Source) (code : CodeOf) (m : Instances) (fs : Frames) (inst : ℕ) (rest : List Activation) (t : ℕ) (b : Runs) (ks : List Kind) (vals : List Val) (stack : List Value) : Type 0 where
  pub store : StoreAt s code m fs
  pub parked : StandingsAt s code m fs
  pub lives : Lives m inst
  pub alone : b.thunk ≡ None → OwnersOf (Other inst) rest
  pub kept_alone : b.thunk ≡ None → OwnersKept (Other inst) m
  pub formed : (w : List Item) (vals : List Val) → evaluates w ≡ is_some b.thunk → IsWellFormed meaning.owner (system_head m) (record { operating = record { instance = inst; work = w; values = vals } ∷ rest; standings = m.standings })
  pub names : AllName s m vals
  pub stands : Stands s m inst t
  pub own : text_at m inst ≡ Some b.own
  pub roomy : b.limit ≤ b.room
  pub found : slice_get code.blocks (block_number s (frame_text s t)) ≡ Some b.block
  pub values : StackAt (HandAt s code m) ks vals stack
  pub free : suspended_by m (owner_of b.thunk inst) ≡ None

module _ (s : Source) (code : CodeOf) where
  pub state_at : {m : Instances} {fs : Frames} {inst t : ℕ} {b : Runs} {ks : List Kind} {vals : List Val} {stack : List Value} {w : List Item} {rest : List Activation} {pc : ℕ} {below : List machine.Activation} (used p : ℕ) → There s code m fs inst t b ks vals stack → WorkAt s code m fs (λ v. ChainAt s code m fs rest v below) inst t b used w p ks → p ≡ pc
      → StateAt s code (record { chain = record { instance = inst; work = w; values = vals } ∷ rest; memory = m }) (record { chain = act inst pc stack b ∷ below; memory = fs })
  state_at {m} {fs} {inst} {t} {b} {ks} {vals} {stack} {w} {rest} {pc} {below} used p here work e = record {
    chain = record {
      home = refl;
      text = t;
      block = b;
      base = refl;
      found = here.found;
      stands = here.stands;
      own = here.own;
      roomy = here.roomy;
      room = refl;
      stage = refl;
      kinds = ks;
      values = here.values;
      gets = NoValue;
      gets_is = subst (λ z. GetsIs z NoValue NoValue) (sym here.free) refl;
      fits = λ no. absurd (cc);
      asked = tt;
      used = used;
      goes = subst (λ x. WorkAt s code m fs (λ v. ChainAt s code m fs rest v below) inst t b used w x ks) e work;
    };
    store = here.store;
    parked = here.parked;
  }

  pub goes : {o : World} {m : Instances} {fs : Frames} {inst t : ℕ} {b : Runs} {ks : List Kind} {vals : List Val} {stack : List Value} {w : List Item} {rest : List Activation} {pc : ℕ} {below : List machine.Activation} (used p : ℕ) → There s code m fs inst t b ks vals stack → WorkAt s code m fs (λ v. ChainAt s code m fs rest v below) inst t b used w p ks → p ≡ pc
      → Alike (StateAt s code) (go o m inst w vals rest) (Going o (record { chain = act inst pc stack b ∷ below; memory = fs }))
  goes used p here work e = going (state_at used p here work e)

  -- the row of the instruction that stands there
  pub at_row : (l : Limits) (o : World) (fs : Frames) (a : machine.Activation) (below : List machine.Activation) (r : Run Configuration) (x : Instr) (line q : ℕ) → At code x line a.pc q → Alike (StateAt s code) r (row code l o fs a below line x) → Alike (StateAt s code) r (on_top code l o fs a below)
  at_row l o fs a below r x line q is like = alike_found Configuration Machine (StateAt s code) Lined (slice_get code.instrs a.pc) (lined x line) o r (λ y. row code l o fs a below y.line.0 y.instr) is.at like

  pub there_of : {m : Instances} {fs : Frames} {inst : ℕ} {rest : List Activation} {t : ℕ} {b : Runs} {ks : List Kind} {vals : List Val} {stack : List Value} → Here s code m fs inst rest t b ks vals stack → There s code m fs inst t b ks vals stack
  there_of here = record { store = here.store; parked = here.parked; stands = here.stands; own = here.own; roomy = here.roomy; found = here.found; values = here.values; free = here.free }

  -- the same place with other values
  pub with_values : {m : Instances} {fs : Frames} {inst : ℕ} {rest : List Activation} {t : ℕ} {b : Runs} {ks ks' : List Kind} {vals vals' : List Val} {stack stack' : List Value} → Here s code m fs inst rest t b ks vals stack → StackAt (HandAt s code m) ks' vals' stack' → There s code m fs inst t b ks' vals' stack'
  with_values here h = record { store = here.store; parked = here.parked; stands = here.stands; own = here.own; roomy = here.roomy; found = here.found; values = h; free = here.free }

  pub kinds_as : {m : Instances} {ks ks' : List Kind} {vals : List Val} {stack : List Value} → ks ≡ ks' → StackAt (HandAt s code m) ks vals stack → StackAt (HandAt s code m) ks' vals stack
  kinds_as {m} {vals = vals} {stack = stack} e h = subst (λ k. StackAt (HandAt s code m) k vals stack) e h

  -- the same place, seen from another text with these frames
  pub here_at : {m : Instances} {fs : Frames} {inst : ℕ} {rest : List Activation} {t v : ℕ} {b : Runs} {ks : List Kind} {vals : List Val} {stack : List Value} → SameFrame s v t → Here s code m fs inst rest t b ks vals stack → Here s code m fs inst rest v b ks vals stack
  here_at {m} {inst = inst} {t = t} {v = v} {b = b} f here = record {
    store = here.store;
    parked = here.parked;
    lives = here.lives;
    alone = here.alone;
    kept_alone = here.kept_alone;
    formed = here.formed;
    names = here.names;
    stands = stands_same s m inst v t f here.stands;
    own = here.own;
    roomy = here.roomy;
    found = ap (λ z. slice_get code.blocks (block_number s z)) f.frame ∙ here.found;
    values = here.values;
    free = here.free;
  }
