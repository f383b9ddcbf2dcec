-- What the public readers and writers say, from what reading gives.
use Rattle.std.proofs.Common.{◌≡◌, ℕ, List, length, take, get_or, ◌<◌, Result, Ok, Err, refl, ap, arith}
use Rattle.std.specs.Prelude.{IfOk, IfErr}
use Rattle.sim_code.specs.Code.{CodeOf}
use Rattle.code_file.specs.declared.fault.CodeRefusal.{CodeRefusal}
use Rattle.code_file.specs.declared.fault.CodeRefusal.TheVariants.{Broken, Memory}
use Rattle.code_file.specs.declared.fault.Fault.{Fault}
use Rattle.code_file.specs.declared.fault.Fault.TheVariants as fault
use Rattle.code_file.specs.declared.rule.CodeRule.{CodeRule}
use Rattle.code_file.specs.Spelling.{Spells, largest}
use Rattle.code_file.specs.Faults.{Breaks}
use Rattle.code_file.specs.Reading.{Fails, LeavesWithin, Tells, file_at, limited, read_of}
use Rattle.code_file.specs.Laws.{Answers, IsTold, Refuses}
use Rattle.code_file.proofs.Lists.{small_from}
use Rattle.code_file.proofs.FileLaws.{file_broken, left_within, not_both, read_again, read_broken, read_found, read_refused, same_code, same_fault, seen_length, seen_small}

pub leaves_within : (f : Fault) (bytes : List ℕ) → ((i : ℕ) → get_or bytes i 0 < 256) → Fails f (file_at bytes) → LeavesWithin f (length bytes)
leaves_within fault.Memory bytes small e = tt
leaves_within (fault.Broken rule left) bytes small e = left_within bytes rule left (file_broken bytes rule left (small_from bytes small) e)

pub leaves_past : (f : Fault) (bytes : List ℕ) → ((i : ℕ) → get_or bytes i 0 < 256) → largest < length bytes → Fails f (file_at (take largest bytes)) → LeavesWithin (limited f) largest
leaves_past fault.Memory bytes small h e = tt
leaves_past (fault.Broken rule left) bytes small h e =
    let seen : List ℕ = take largest bytes in
    omega (arith, seen_length bytes h, left_within seen rule left (file_broken seen rule left (seen_small bytes (small_from bytes small)) e))

pub is_found : (bytes : List ℕ) (r : Result CodeOf CodeRefusal) → ((i : ℕ) → get_or bytes i 0 < 256) → Tells r (read_of bytes) → IfOk r (λ code. Spells bytes code)
is_found bytes (Ok code) small e = read_found bytes code (small_from bytes small) e
is_found bytes (Err refusal) small e = tt

pub is_only : (bytes : List ℕ) (r : Result CodeOf CodeRefusal) → Tells r (read_of bytes) → (code : CodeOf) → Spells bytes code → Answers code r
is_only bytes (Ok given) e code s = same_code (read_of bytes) given code e (read_again bytes code s)
is_only bytes (Err Memory) e code s = refl
is_only bytes (Err (Broken rule place)) e code s = absurd (not_both (read_of bytes) code (rule, place) (read_again bytes code s) e)

pub is_broken : (bytes : List ℕ) (r : Result CodeOf CodeRefusal) → ((i : ℕ) → get_or bytes i 0 < 256) → Tells r (read_of bytes) → IfErr r (λ refusal. IsTold bytes refusal)
is_broken bytes (Ok code) small e = tt
is_broken bytes (Err Memory) small e = tt
is_broken bytes (Err (Broken rule place)) small e = read_broken bytes rule place (small_from bytes small) e

pub is_refused : (bytes : List ℕ) (r : Result CodeOf CodeRefusal) → Tells r (read_of bytes) → (rule : CodeRule) (place : ℕ) → Breaks bytes rule place → Refuses rule place r
is_refused bytes (Ok code) e rule place b = not_both (read_of bytes) code (rule, place) e (read_refused bytes rule place b)
is_refused bytes (Err Memory) e rule place b = tt
is_refused bytes (Err (Broken other at)) e rule place b =
    let same : (other, at) ≡ (rule, place) = same_fault (read_of bytes) (other, at) (rule, place) e (read_refused bytes rule place b) in
    (ap (λ (p : CodeRule × ℕ). p.0) same, ap (λ (p : CodeRule × ℕ). p.1) same)
