-- The names of processes and of simulation blocks: they are no other names, what they do is told elsewhere, and those of a process give a value.
use Rattle.std.proofs.Common.{◌≡◌, true, false, refl}
use Rattle.sim_values.specs.declared.standard.Standard.{Standard}
use Rattle.sim_values.specs.declared.standard.Standard.TheVariants as name
use Rattle.sim_values.specs.Standard.{elsewhere, row_of}
use Rattle.sim_code.specs.Sets.{is_set_name, parameter_count}
use Rattle.sim_code.specs.Simulations.{is_process_name, is_simulation_name}
use Rattle.sim_meaning.specs.Statements.{has_value}

pub process_elsewhere : (n : Standard) → is_process_name n ≡ true → (row_of n).function ≡ elsewhere
unfolding row_of
process_elsewhere name.Idle e = refl
process_elsewhere name.Terminated e = refl
process_elsewhere name.Evtime e = refl
process_elsewhere name.Nextev e = refl
process_elsewhere _ e = absurd (cc (e))

pub process_valued : (n : Standard) → is_process_name n ≡ true → has_value (row_of n).result ≡ true
unfolding row_of
process_valued name.Idle e = refl
process_valued name.Terminated e = refl
process_valued name.Evtime e = refl
process_valued name.Nextev e = refl
process_valued _ e = absurd (cc (e))

pub process_no_set : (n : Standard) → is_process_name n ≡ true → is_set_name n ≡ false
process_no_set name.Idle e = refl
process_no_set name.Terminated e = refl
process_no_set name.Evtime e = refl
process_no_set name.Nextev e = refl
process_no_set _ e = absurd (cc (e))

pub simulation_elsewhere : (n : Standard) → is_simulation_name n ≡ true → (row_of n).function ≡ elsewhere
unfolding row_of
simulation_elsewhere name.Time e = refl
simulation_elsewhere name.Current e = refl
simulation_elsewhere name.Main e = refl
simulation_elsewhere name.Hold e = refl
simulation_elsewhere name.Passivate e = refl
simulation_elsewhere name.Wait e = refl
simulation_elsewhere name.Cancel e = refl
simulation_elsewhere _ e = absurd (cc (e))

pub simulation_no_set : (n : Standard) → is_simulation_name n ≡ true → is_set_name n ≡ false
simulation_no_set name.Time e = refl
simulation_no_set name.Current e = refl
simulation_no_set name.Main e = refl
simulation_no_set name.Hold e = refl
simulation_no_set name.Passivate e = refl
simulation_no_set name.Wait e = refl
simulation_no_set name.Cancel e = refl
simulation_no_set _ e = absurd (cc (e))

pub simulation_no_process : (n : Standard) → is_simulation_name n ≡ true → is_process_name n ≡ false
simulation_no_process name.Time e = refl
simulation_no_process name.Current e = refl
simulation_no_process name.Main e = refl
simulation_no_process name.Hold e = refl
simulation_no_process name.Passivate e = refl
simulation_no_process name.Wait e = refl
simulation_no_process name.Cancel e = refl
simulation_no_process _ e = absurd (cc (e))

-- they take no parameter
pub process_alone : (n : Standard) → is_process_name n ≡ true → parameter_count n ≡ 0
process_alone name.Idle e = refl
process_alone name.Terminated e = refl
process_alone name.Evtime e = refl
process_alone name.Nextev e = refl
process_alone _ e = absurd (cc (e))
