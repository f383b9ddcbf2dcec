-- The number of each status and the line that it writes.
use Rattle.std.specs.Prelude.{ℕ, List, [], ◌∷◌, ◌++◌, codes, Bool, true, false}
use Rattle.std.specs.Fmt.{decimal}
use Rattle.sim_base.specs.Rule.{rule_text}
use Rattle.sim_base.specs.RunError.{run_error_text}
use Rattle.code_file.specs.Rules.{code_rule_text}
use Rattle.sim_driver.specs.declared.status.Ending.{Ending}
use Rattle.sim_driver.specs.declared.status.Status.{Status}
use Rattle.sim_driver.specs.declared.status.Status.TheVariants.{Normal, Refused, RunFault, StorageExhausted, TickLimit, Usage, FileFault, InputFault, WriteFault, Memory, BadCode, CodeRefused}

-- the status of each ending
abbrev pub status_of : Ending → Status
status_of Ending.Normal = Normal
status_of (Ending.Refused rule line) = Refused rule line
status_of (Ending.RunFault error line) = RunFault error line
status_of (Ending.StorageExhausted line used budget wanted) = StorageExhausted line used budget wanted
status_of (Ending.TickLimit ticks) = TickLimit ticks

-- the exit status
abbrev pub status_number : Status → ℕ
status_number Normal = 0
status_number (Refused rule line) = 1
status_number (RunFault error line) = 2
status_number (StorageExhausted line used budget wanted) = 3
status_number (TickLimit ticks) = 4
status_number Usage = 5
status_number FileFault = 6
status_number InputFault = 7
status_number WriteFault = 8
status_number Memory = 9
status_number (BadCode at) = 10
status_number (CodeRefused rule place) = 11

-- what is said of a line of the source
abbrev pub at_line : ℕ → List ℕ → List ℕ
at_line line text = codes "line " ++ (decimal line ++ (codes ": " ++ text))

-- what is said of exhausted storage
abbrev pub storage_text : (used budget wanted : ℕ) → List ℕ
storage_text used budget wanted =
    codes "storage exhausted, " ++ (decimal used ++ (codes " of " ++ (decimal budget ++ (codes " words used, " ++ (decimal wanted ++ codes " wanted")))))

-- what a status says; nothing at the normal end
abbrev pub status_text : Status → List ℕ
status_text Normal = []
status_text (Refused rule line) = at_line line.0 (rule_text rule)
status_text (RunFault error line) = at_line line.0 (run_error_text error)
status_text (StorageExhausted line used budget wanted) = at_line line.0 (storage_text used budget wanted)
status_text (TickLimit ticks) = codes "tick limit " ++ (decimal ticks ++ codes " reached")
status_text Usage = codes "usage: simula run|exec [--storage W] [--ticks N] [--in-length N] [--out-length N] FILE, check|compile|list|print|xref FILE, gen N"
status_text FileFault = codes "cannot read the file"
status_text InputFault = codes "input fault"
status_text WriteFault = codes "output fault"
status_text Memory = codes "want of memory"
status_text (BadCode at) = codes "code " ++ (decimal at ++ codes ": no rule")
status_text (CodeRefused rule place) = codes "code byte " ++ (decimal place ++ (codes ": " ++ code_rule_text rule))

-- the line that a status writes, with its line feed; none at the normal end
abbrev pub line_text : Status → List ℕ
line_text Normal = []
line_text status = status_text status ++ 10 ∷ []

-- no fault of the outside and no want of memory
abbrev pub is_answer : Status → Bool
is_answer FileFault = false
is_answer InputFault = false
is_answer WriteFault = false
is_answer Memory = false
is_answer _ = true

-- a status whose line is whole on the diagnostic output for sure
abbrev pub is_told : Status → Bool
is_told WriteFault = false
is_told Memory = false
is_told _ = true

-- a status of code that the machine has no rule for, or of a file that is no code file
abbrev pub is_of_code : Status → Bool
is_of_code (BadCode at) = true
is_of_code (CodeRefused rule place) = true
is_of_code _ = false
