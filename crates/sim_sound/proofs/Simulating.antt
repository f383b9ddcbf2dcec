-- What holds of simulation blocks goes on holding: as instances change, as one is entered, and as processes and notices come and go.
use Rattle.std.proofs.Common.{◌≡◌, ◌≢◌, ℕ, zero, suc, false, true, List, [], ◌∷◌, ◌++◌, length, Option, Some, ⊎_elim, refl, sym, ap, ◌∙◌, subst, arith}
use Rattle.std.proofs.lemmas.Bool.{cases_eq}
use Rattle.std.specs.Prelude.{◌&&◌, ◌+◌, not, slice_get, slice_set}
use Rattle.notices.specs.declared.notice.Notice.{Notice}
use Rattle.sim_scope.specs.declared.types.StandardClass.TheVariants as standard
use Rattle.sim_scope.specs.Levels.{base, is_simulation_block}
use Rattle.sim_scope.specs.Source.{Source}
use Rattle.sim_code.specs.Instances.{Instance, live}
use Rattle.sim_code.specs.Outcome.{Simulation}
use Rattle.sim_code.specs.Simulations.{begun, located, with_process}
use Rattle.sim_meaning.specs.Attributes.{is_connection}
use Rattle.sim_meaning.specs.Pending.{Held, Instances}
use Rattle.sim_meaning.specs.Texts.{StandardText, text}
use Rattle.sim_sound.specs.Typed.{Typed}
use Rattle.sim_sound.proofs.Lists.{append_at, append_before, old_or_new, same_some, set_other, set_same, there_is}
use Rattle.sim_sound.proofs.Members.{NoSimulation, OneMore, StillAll, one_outermost}
use Rattle.sim_sound.proofs.Prefixes.{LevelOf, level_then, prefix_level, same_level}
use Rattle.sim_sound.proofs.Simulated.{EachNotice, Joined, NumberFine, Processes, Scheduled, SimulationsFine}
use Rattle.sim_sound.proofs.SimulatedLists.{located_at, located_before, located_changed, located_other, some_located}
use Rattle.sim_sound.proofs.Sound.{PrefixedAt}
use Rattle.sim_sound.proofs.Values.{Lasts, ObjectOf, Simulates}

-- ---- notices

pub each_map : (P Q : ℕ → Type 0) → ((n : ℕ) → P n → Q n) → (ns : List Notice) → EachNotice P ns → EachNotice Q ns
each_map P Q f [] a = tt
each_map P Q f (n ∷ ns) a = (f n.process.0 a.0, each_map P Q f ns a.1)

-- a process is there still, where the objects are, and those of the simulation
pub number_still : (s : Source) (m m' : Instances) → ((j c : ℕ) → ObjectOf s m j c → ObjectOf s m' j c) → (x y : Simulation) → ((n j : ℕ) → slice_get x.processes n ≡ Some j → slice_get y.processes n ≡ Some j) → (k n : ℕ) → NumberFine s m x k n → NumberFine s m' y k n
number_still s m m' objects x y more k zero a = tt
number_still s m m' objects x y more k (suc n) a = (a.0, more n a.0 a.1, objects a.0 (k + 4) a.2)

-- ---- one simulation

block_solid : (s : Source) (k : ℕ) → PrefixedAt s k → is_connection (text s k) ≡ false
block_solid s k p = ap is_connection p.is

pub processes_still : (s : Source) (m m' : Instances) → ((j c : ℕ) → ObjectOf s m j c → ObjectOf s m' j c) → ((j u : ℕ) → Lasts s m j u → Lasts s m' j u) → (x : Simulation) (k : ℕ) → Processes s m x k → Processes s m' x k
processes_still s m m' objects lasts x k f = record {
  processes = λ n j is. lasts j (k + 4) (f.processes n j is);
  some = f.some;
  notices = each_map (NumberFine s m x k) (NumberFine s m' x k) (λ n a. number_still s m m' objects x x (λ p j e. e) k n a) x.notices f.notices;
}

-- it is as before
pub scheduled_still : (s : Source) (m m' : Instances) → ((j c : ℕ) → ObjectOf s m j c → ObjectOf s m' j c) → ((j u : ℕ) → Lasts s m j u → Lasts s m' j u) → ((j : ℕ) (y : Instance (List Held)) → live m j ≡ Some y → (z : Instance (List Held)) → live m' j ≡ Some z → y.text ≡ z.text) → (x : Simulation) → Scheduled s m x → Scheduled s m' x
scheduled_still s m m' objects lasts texts x f =
    let own : Lasts s m x.block (f.now).text = record { now = f.now; lives = f.lives; solid = block_solid s (f.now).text f.prefixed; level = same_level; stays = f.stays } in
    let block = lasts x.block (f.now).text own in
    let same : (f.now).text ≡ (block.now).text = texts x.block f.now f.lives block.now block.lives in
    record {
      now = block.now;
      lives = block.lives;
      stays = block.stays;
      prefixed = subst (PrefixedAt s) same f.prefixed;
      simulates = λ k is at. processes_still s m m' objects lasts x k (f.simulates k is (subst (λ z. LevelOf s z k) (sym same) at));
    }

-- a process is one of its block still
joined_still : (s : Source) (sims : List Simulation) (m m' : Instances) → ((j u : ℕ) → Lasts s m j u → Lasts s m' j u) → (j u : ℕ) (out : Option ℕ) → Joined s sims m j u out → Joined s sims m' j u out
joined_still s sims m m' lasts j u out w = record {
  level = w.level;
  is = w.is;
  block = w.block;
  home = record { lasts = lasts w.block w.level (w.home).lasts; simulates = (w.home).simulates };
  encloser = w.encloser;
  simulation = w.simulation;
  found = w.found;
  number = w.number;
  among = w.among;
}

-- ---- later instances

pub simulations_later : (s : Source) (sims : List Simulation) (m m' : Instances) → StillAll s m m' → SimulationsFine s sims m → SimulationsFine s sims m'
simulations_later s sims m m' e f = record {
  each = λ n x is. scheduled_still s m m' e.objects e.lasts texts x (f.each n x is);
  there = λ j k y lives is at. (let w = e.texts j y lives in f.there j k w.0 w.1 is (subst (λ z. LevelOf s z k) (sym w.2) at));
  joined = λ j u y lives is at. (let w = e.texts j y lives in subst (Joined s sims m' j u) w.3 (joined_still s sims m m' e.lasts j u (w.0).encloser (f.joined j u w.0 w.1 is (subst (λ z. LevelOf s z u) (sym w.2) at))));
}
  where
    texts : (j : ℕ) (y : Instance (List Held)) → live m j ≡ Some y → (z : Instance (List Held)) → live m' j ≡ Some z → y.text ≡ z.text
    texts j y lives z now = let w = e.texts j z now in ap (λ q. q.text) (same_some (live m j) y w.0 lives w.1) ∙ w.2

-- ---- one instance more

-- that has no class `process` among its levels
abbrev pub NoProcess : Source → ℕ → Type 0
NoProcess s k = (u : ℕ) → text s u ≡ Some (StandardText standard.Process) → LevelOf s k u → ⊥

module _ (s : Source) (sims : List Simulation) (m m' : Instances) (k : ℕ) (out : Option ℕ) (e : OneMore s m m' k out) (f : SimulationsFine s sims m) where
  scheduled_more : (x : Simulation) → Scheduled s m x → Scheduled s m' x
  scheduled_more x g = scheduled_still s m m' e.objects e.lasts texts x g
    where
      texts : (j : ℕ) (y : Instance (List Held)) → live m j ≡ Some y → (z : Instance (List Held)) → live m' j ≡ Some z → y.text ≡ z.text
      texts j y lives z now = ⊎_elim (λ old. ap (λ q. q.text) (same_some (live m j) y z lives old)) (λ new. absurd (fresh j y lives new.0)) (e.texts j z now)
        where
          fresh : (j : ℕ) (y : Instance (List Held)) → live m j ≡ Some y → j ≡ length m.instances → ⊥
          fresh j y lives same = e.fresh j y lives same

  pub simulations_more : NoSimulation s k → NoProcess s k → SimulationsFine s sims m'
  simulations_more single none = record {
    each = λ n x is. scheduled_more x (f.each n x is);
    there = λ j u y lives is at. ⊎_elim (λ old. f.there j u y old is at) (λ new. absurd (single u is (subst (λ z. LevelOf s z u) (sym new.1) at))) (e.texts j y lives);
    joined = λ j u y lives is at. ⊎_elim (λ old. joined_still s sims m m' e.lasts j u y.encloser (f.joined j u y old is at)) (λ new. absurd (none u is (subst (λ z. LevelOf s z u) (sym new.1) at))) (e.texts j y lives);
  }

  -- a simulation block is entered
  pub simulations_begun : (now : Instance (List Held)) → live m' (length m.instances) ≡ Some now → now.text ≡ k → (now.passing && not now.kept) ≡ false → PrefixedAt s k → NoProcess s k → SimulationsFine s (sims ++ begun (length m.instances) ∷ []) m'
  simulations_begun now lives its stays block none = record {
    each = λ n x at. ⊎_elim (λ old. scheduled_more x (f.each n x old)) (λ new. subst (Scheduled s m') new.1 first) (old_or_new sims (begun (length m.instances)) n x at);
    there = λ j v y here is at.
        ⊎_elim
        (λ old. let r = f.there j v y old is at in (r.0, located_before sims (begun (length m.instances)) j r.0 r.1))
        (λ new. subst (λ z. (x : ℕ × Simulation) × (located (sims ++ begun (length m.instances) ∷ []) z ≡ Some x)) (sym new.0) (some_located (sims ++ begun (length m.instances) ∷ []) (length sims) (begun (length m.instances)) (append_at sims (begun (length m.instances)))))
        (e.texts j y here);
    joined = λ j v y here is at. ⊎_elim (λ old. joined_before j v y.encloser (joined_still s sims m m' e.lasts j v y.encloser (f.joined j v y old is at))) (λ new. absurd (none v is (subst (λ z. LevelOf s z v) (sym new.1) at))) (e.texts j y here);
  }
    where
      nothing : (u n j : ℕ) → slice_get [] n ≡ Some j → Lasts s m' j (u + 4)
      nothing u n j e = absurd (cc)

      first : Scheduled s m' (begun (length m.instances))
      first = record {
        now = now;
        lives = lives;
        stays = stays;
        prefixed = subst (PrefixedAt s) (sym its) block;
        simulates = λ u is at. record { processes = λ n j e. nothing u n j e; some = tt; notices = (tt, tt) };
      }

      joined_before : (j v : ℕ) (out : Option ℕ) → Joined s sims m' j v out → Joined s (sims ++ begun (length m.instances) ∷ []) m' j v out
      joined_before j v out w = record { level = w.level; is = w.is; block = w.block; home = w.home; encloser = w.encloser; simulation = w.simulation; found = located_before sims (begun (length m.instances)) w.block w.simulation w.found; number = w.number; among = w.among }

-- ---- one simulation changes

module _ (s : Source) (sims : List Simulation) (n : ℕ) (old new : Simulation) (at : slice_get sims n ≡ Some old) (same : new.block ≡ old.block) (more : (p j : ℕ) → slice_get old.processes p ≡ Some j → slice_get new.processes p ≡ Some j) where
  abbrev pub Changed : List Simulation
  Changed = slice_set sims n new

  pub there_changed : (b : ℕ) (x : ℕ × Simulation) → located sims b ≡ Some x → (y : ℕ × Simulation) × (located Changed b ≡ Some y)
  there_changed b x is = ⊎_elim (λ e. ((n, new), located_changed sims n old new at same b x is e)) (λ differ. (x, located_other sims n old new at same b x is differ)) (cases_eq x.0 n)

  pub each_changed : (P : Simulation → Type 0) → ((q : ℕ) (x : Simulation) → slice_get sims q ≡ Some x → P x) → P new → (q : ℕ) (x : Simulation) → slice_get Changed q ≡ Some x → P x
  each_changed P f g q x is =
      ⊎_elim
      (λ e. subst P (same_some (slice_get Changed q) new x (ap (slice_get Changed) e ∙ set_same sims n old new at) is) g)
      (λ differ. f q x (sym (set_other sims n q new differ) ∙ is))
      (cases_eq q n)

  pub joined_changed : (m : Instances) (j u : ℕ) (out : Option ℕ) → Joined s sims m j u out → Joined s Changed m j u out
  joined_changed m j u out w = ⊎_elim here elsewhere (cases_eq (w.simulation).0 n)
    where
      here : (w.simulation).0 ≡ n → Joined s Changed m j u out
      here e =
          let r = located_at sims w.block w.simulation w.found in
          let is : (w.simulation).1 ≡ old = same_some (slice_get sims n) (w.simulation).1 old (sym (ap (slice_get sims) e) ∙ r.0) at in
          record { level = w.level; is = w.is; block = w.block; home = w.home; encloser = w.encloser; simulation = (n, new); found = located_changed sims n old new at same w.block w.simulation w.found e; number = w.number; among = more w.number j (sym (ap (λ z. slice_get z.processes w.number) is) ∙ w.among) }

      elsewhere : (w.simulation).0 ≢ n → Joined s Changed m j u out
      elsewhere differ = record { level = w.level; is = w.is; block = w.block; home = w.home; encloser = w.encloser; simulation = w.simulation; found = located_other sims n old new at same w.block w.simulation w.found differ; number = w.number; among = w.among }

  -- the instances are the same
  pub simulations_changed : (m : Instances) → SimulationsFine s sims m → Scheduled s m new → SimulationsFine s Changed m
  simulations_changed m f g = record {
    each = λ q x is. each_changed (Scheduled s m) f.each g q x is;
    there = λ j k y lives is level. (let r = f.there j k y lives is level in there_changed j r.0 r.1);
    joined = λ j u y lives is level. joined_changed m j u y.encloser (f.joined j u y lives is level);
  }

-- ---- a process is made

-- the levels of a process: `process` is one, brought with the classes of SIMSET behind it
pub process_level : (s : Source) (ok : Typed s) (k lv : ℕ) → is_simulation_block s.tables lv ≡ true → LevelOf s k (lv + 4) → LevelOf s k (lv + 1)
process_level s ok k lv is at =
    let c = ok.simulations lv is in
    level_then s at (prefix_level c.process_prefix (prefix_level (ap (base s.tables) (let q : lv + 2 ≡ lv + 1 + 1 = omega arith in q) ∙ (c.sets).link_prefix) same_level))

-- of one simulation alone
pub one_process : (s : Source) (ok : Typed s) (k lv lw : ℕ) → is_simulation_block s.tables lv ≡ true → is_simulation_block s.tables lw ≡ true → LevelOf s k (lv + 4) → LevelOf s k (lw + 4) → lv ≡ lw
one_process s ok k lv lw is iw at aw =
    let same = one_outermost s (process_level s ok k lv is at) (process_level s ok k lw iw aw) ((ok.simulations lv is).sets).first ((ok.simulations lw iw).sets).first in
    omega (arith, same)

module _ (s : Source) (ok : Typed s) (sims : List Simulation) (m m' : Instances) (k : ℕ) (out : Option ℕ) (e : OneMore s m m' k out) (f : SimulationsFine s sims m) (single : NoSimulation s k) (lv : ℕ) (is : is_simulation_block s.tables lv ≡ true) (only : (u : ℕ) → text s u ≡ Some (StandardText standard.Process) → LevelOf s k u → u ≡ lv + 4) (b : ℕ) (encloses : out ≡ Some b) (block : Simulates s m b lv) (lasts : Lasts s m' (length m.instances) (lv + 4)) (x : ℕ × Simulation) (found : located sims b ≡ Some x) where
  abbrev N : ℕ
  N = length m.instances

  abbrev New : Simulation
  New = with_process N x.1

  place : slice_get sims x.0 ≡ Some x.1
  place = (located_at sims b x found).0

  its : (x.1).block ≡ b
  its = (located_at sims b x found).1

  was : Scheduled s m x.1
  was = f.each x.0 x.1 place

  -- a level of the block is that one
  level_same : (z : ℕ) → (was.now).text ≡ z → (u : ℕ) → is_simulation_block s.tables u ≡ true → LevelOf s z u → u ≡ lv
  level_same z same u iu at =
      let now : was.now ≡ (block.lasts).now = same_some (live m b) was.now (block.lasts).now (ap (live m) (sym its) ∙ was.lives) (block.lasts).lives in
      one_outermost s at (subst (λ q. LevelOf s q lv) (sym (ap (λ q. q.text) now) ∙ same) (block.lasts).level) (ok.simulations u iu).first (ok.simulations lv is).first

  more : (p j : ℕ) → slice_get (x.1).processes p ≡ Some j → slice_get New.processes p ≡ Some j
  more p j at = append_before (x.1).processes N p (there_is (x.1).processes p j at) ∙ at

  grown : (u : ℕ) → u ≡ lv → Processes s m' x.1 u → Processes s m' New u
  grown u same g = record {
    processes = λ p j at. ⊎_elim (λ old. g.processes p j old) (λ new. subst (λ z. Lasts s m' z (u + 4)) new.1 (subst (λ z. Lasts s m' N (z + 4)) (sym same) lasts)) (old_or_new (x.1).processes N p j at);
    some = g.some;
    notices = each_map (NumberFine s m' x.1 u) (NumberFine s m' New u) (λ n a. number_still s m' m' (λ j c z. z) x.1 New more u n a) (x.1).notices g.notices;
  }

  now : Scheduled s m' New
  unfolding scheduled_more scheduled_still
  now =
      let g = scheduled_more s sims m m' k out e f x.1 was in
      record {
        now = g.now;
        lives = g.lives;
        stays = g.stays;
        prefixed = g.prefixed;
        simulates = λ u iu at. grown u (level_same (g.now).text (still_text g.now g.lives) u iu at) (g.simulates u iu at);
      }
    where
      still_text : (z : Instance (List Held)) → live m' (x.1).block ≡ Some z → (was.now).text ≡ z.text
      still_text z lives = ⊎_elim (λ old. ap (λ q. q.text) (same_some (live m (x.1).block) was.now z was.lives old)) (λ new. absurd (e.fresh (x.1).block was.now was.lives new.0)) (e.texts (x.1).block z lives)

  abbrev Then : List Simulation
  Then = slice_set sims x.0 New

  new_joined : (u : ℕ) → text s u ≡ Some (StandardText standard.Process) → LevelOf s k u → Joined s Then m' N u out
  new_joined u at level = record {
    level = lv;
    is = only u at level;
    block = b;
    home = record { lasts = e.lasts b lv block.lasts; simulates = is };
    encloser = encloses;
    simulation = (x.0, New);
    found = located_changed sims x.0 x.1 New place refl b x found refl;
    number = length (x.1).processes;
    among = append_at (x.1).processes N;
  }

  pub simulations_joined : SimulationsFine s Then m'
  simulations_joined = record {
    each = λ q y at. each_changed s sims x.0 x.1 New place refl more (Scheduled s m') (λ q y at. scheduled_more s sims m m' k out e f y (f.each q y at)) now q y at;
    there = λ j u y lives is level.
        ⊎_elim (λ old. let r = f.there j u y old is level in there_changed s sims x.0 x.1 New place refl more j r.0 r.1) (λ new. absurd (single u is (subst (λ z. LevelOf s z u) (sym new.1) level))) (e.texts j y lives);
    joined = λ j u y lives at level.
        ⊎_elim (λ old. joined_changed s sims x.0 x.1 New place refl more m' j u y.encloser (joined_still s sims m m' e.lasts j u y.encloser (f.joined j u y old at level)))
        (λ new. subst (λ z. Joined s Then m' z u y.encloser) (sym new.0) (subst (Joined s Then m' N u) new.2 (new_joined u at (subst (λ z. LevelOf s z u) (sym new.1) level))))
        (e.texts j y lives);
  }
