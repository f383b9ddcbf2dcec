-- The text of the generated programs: simulations of n processes that hold three times each.
use Rattle.std.specs.Prelude.{ℕ, ◌+◌, ◌*◌, ◌%◌, List, ◌++◌, codes, decimal}
use Rattle.std.specs.List.{flat_map, range_with_len}

-- the lines before the processes are activated
abbrev pub first_lines : List ℕ
first_lines =
    codes "simulation begin\n"
    ++ (codes "integer done, total;\n"
    ++ (codes "process class p(k); integer k;\n"
    ++ (codes "begin\n"
    ++ (codes "integer j;\n"
    ++ (codes "for j := 1 step 1 until 3 do begin hold(k); total := total + time end;\n"
    ++ (codes "done := done + 1\n"
    ++ codes "end;\n"))))))

-- and those behind
abbrev pub last_lines : List ℕ
last_lines = codes "hold(100); outint(done, 8); outint(total, 8); outimage\n" ++ codes "end\n"

-- how long the i-th process holds
abbrev pub hold_time : ℕ → ℕ
hold_time i = 1 + (7 * i) % 10

-- the line that activates the i-th process
abbrev pub activation : ℕ → List ℕ
activation i = codes "activate new p(" ++ (decimal (hold_time i) ++ codes ");\n")

-- the program of n processes, each line with its line feed
abbrev pub generated_program : ℕ → List ℕ
generated_program n = first_lines ++ (flat_map activation (range_with_len 1 n) ++ last_lines)
