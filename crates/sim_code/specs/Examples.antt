-- Small codes. The line of an instruction is its place, counted from 1.
use Rattle.std.specs.Prelude.{◌≡◌, ℕ, ◌+◌, true, pos, negsuc, List, [], ◌∷◌, Option, Some, None, codes}
use Rattle.sim_base.specs.declared.limits.Limits.{Limits}
use Rattle.sim_base.specs.declared.run_error.RunError.TheVariants.{GetcharPastEnd, SubscriptOutOfBounds, TextTooLong, ZeroDivisor}
use Rattle.sim_code.specs.declared.code.BlockKind.{BlockKind}
use Rattle.sim_code.specs.declared.code.BlockKind.TheVariants as kind
use Rattle.sim_code.specs.declared.code.CodeType.{CodeType}
use Rattle.sim_code.specs.declared.code.CodeType.TheVariants as type
use Rattle.sim_code.specs.declared.instr.Instr.{Instr}
use Rattle.sim_code.specs.declared.instr.Instr.TheVariants as i
use Rattle.sim_code.specs.declared.instr.Lined.{Lined}
use Rattle.sim_code.specs.Code.{BlockOf, CodeOf}
use Rattle.sim_code.specs.Outcome.{Ending, Going, Ended, NoRule, Normal, Run, RunFault, Shown, StorageExhausted, TickLimit, shown}
use Rattle.sim_code.specs.Machine.{Machine}
use Rattle.sim_code.specs.Rows.{mrun, next_place}

abbrev pub at : (line : ℕ) → Instr → Lined
at line x = record { instr = x; line = record { 0 = line } }

abbrev pub block : BlockKind → (level cells : ℕ) → CodeType → List CodeType → (room entry : ℕ) → BlockOf
block kind level cells result_type types room entry = record {
  kind = kind;
  level = level;
  cells = cells;
  temps = 0;
  room = room;
  entry = entry;
  class_free = true;
  result_type = result_type;
  class = 0;
  types = types;
  formals = [];
}

-- the program's block, a sub-block of it, and a procedure in it
abbrev pub main : (cells : ℕ) → List CodeType → (room entry : ℕ) → BlockOf
main cells types room entry = block kind.SubBlock 1 cells type.Nothing types room entry

abbrev pub inner : (cells : ℕ) → List CodeType → (room entry : ℕ) → BlockOf
inner cells types room entry = block kind.SubBlock 2 cells type.Nothing types room entry

abbrev pub procedure : CodeType → (cells : ℕ) → List CodeType → (room entry : ℕ) → BlockOf
procedure result_type cells types room entry = block kind.Procedure 2 cells result_type types room entry

abbrev pub code_with_texts : List (List ℕ) → List BlockOf → List Lined → CodeOf
code_with_texts texts blocks instrs = record { texts = texts; blocks = blocks; classes = []; thunks = []; actual_lists = []; instrs = instrs }

abbrev pub code : List BlockOf → List Lined → CodeOf
code blocks instrs = code_with_texts [] blocks instrs

-- ((10 - 2 * 3) // 2) ** 3 in a field of four places, made on the stack in all sorts of ways
abbrev pub arithmetic : CodeOf
arithmetic = code (main 0 [] 3 0 ∷ []) (at 1 (i.Int (pos 3)) ∷ at 2 (i.Int (pos 2)) ∷ at 3 i.Swap ∷ at 4 i.Mul ∷ at 5 i.Neg ∷ at 6 (i.Int (pos 10)) ∷ at 7 i.Add ∷ at 8 (i.Int (pos 2)) ∷ at 9 i.Div ∷ at 10 (i.Int (pos 3)) ∷ at 11 i.Pow ∷ at 12 i.Dup ∷ at 13 i.Pop ∷ at 14 (i.Int (pos 4)) ∷ at 15 (i.Std (pos 40)) ∷ at 16 (i.EndLevel (pos 0)) ∷ [])

-- a loop over a variable that ends by a jump, with a tick each time; then what relations and connectives give
abbrev pub loop_code : CodeOf
loop_code = code (main 1 (type.Integer ∷ []) 3 0 ∷ []) (at 1 i.Tick ∷ at 2 (i.Load (pos 1) (pos 0)) ∷ at 3 (i.Int (pos 3)) ∷ at 4 (i.Rel (pos 0)) ∷ at 5 (i.JumpF (pos 10)) ∷ at 6 (i.Load (pos 1) (pos 0)) ∷ at 7 (i.Int (pos 1)) ∷ at 8 i.Add ∷ at 9 (i.Store (pos 1) (pos 0)) ∷ at 10 (i.Jump (pos 0)) ∷ at 11 (i.Bool (pos 1)) ∷ at 12 (i.Bool (pos 0)) ∷ at 13 i.Or ∷ at 14 (i.Char (pos 97)) ∷ at 15 (i.Char (pos 98)) ∷ at 16 (i.Rel (pos 5)) ∷ at 17 i.And ∷ at 18 i.Not ∷ at 19 (i.Bool (pos 1)) ∷ at 20 i.Imp ∷ at 21 (i.Bool (pos 1)) ∷ at 22 i.Eqv ∷ at 23 (i.JumpF (pos 25)) ∷ at 24 (i.Load (pos 1) (pos 0)) ∷ at 25 (i.Jump (pos 26)) ∷ at 26 (i.Int (pos 9)) ∷ at 27 (i.Int (pos 0)) ∷ at 28 (i.Std (pos 40)) ∷ at 29 (i.EndLevel (pos 0)) ∷ [])

-- a sub-block with two cells, which reads a cell of the block around it, and gives back its words
abbrev pub sub_block_code : CodeOf
sub_block_code = code (main 1 (type.Integer ∷ []) 2 0 ∷ inner 2 (type.Integer ∷ type.Boolean ∷ []) 2 5 ∷ []) (at 1 (i.Int (pos 7)) ∷ at 2 (i.Store (pos 1) (pos 0)) ∷ at 3 i.Tick ∷ at 4 (i.Enter (pos 1)) ∷ at 5 (i.EndLevel (pos 0)) ∷ at 6 (i.Load (pos 1) (pos 0)) ∷ at 7 (i.Int (pos 0)) ∷ at 8 (i.Std (pos 40)) ∷ at 9 i.Leave ∷ [])

-- a procedure of one value with a result, called with 5: its result is the value less one
abbrev pub procedure_code : CodeOf
procedure_code = code (main 0 [] 2 0 ∷ procedure (type.Integer) 2 (type.Integer ∷ type.Nothing ∷ []) 2 6 ∷ []) (at 1 (i.Link (pos 1)) ∷ at 2 (i.Int (pos 5)) ∷ at 3 (i.Call (pos 1) (pos 1)) ∷ at 4 (i.Int (pos 2)) ∷ at 5 (i.Std (pos 40)) ∷ at 6 (i.EndLevel (pos 0)) ∷ at 7 (i.Load (pos 2) (pos 1)) ∷ at 8 (i.Int (pos 1)) ∷ at 9 i.Sub ∷ at 10 (i.Store (pos 2) (pos 0)) ∷ at 11 i.Return ∷ [])

-- an array from 0 to 2, of which a copy is kept; an element of the first is changed, and that of the copy is not
abbrev pub array_code : CodeOf
array_code = code (main 2 (type.Nothing ∷ type.Nothing ∷ []) 3 0 ∷ []) (at 1 (i.Int (pos 0)) ∷ at 2 (i.Int (pos 2)) ∷ at 3 (i.Array (pos 1) (pos 1)) ∷ at 4 (i.Store (pos 1) (pos 0)) ∷ at 5 (i.Load (pos 1) (pos 0)) ∷ at 6 i.CopyArr ∷ at 7 i.Keep ∷ at 8 (i.Store (pos 1) (pos 1)) ∷ at 9 (i.Load (pos 1) (pos 0)) ∷ at 10 (i.Int (pos 1)) ∷ at 11 (i.Elem (pos 1) (pos 0)) ∷ at 12 (i.Int (pos 8)) ∷ at 13 i.Put ∷ at 14 (i.Load (pos 1) (pos 0)) ∷ at 15 (i.Int (pos 1)) ∷ at 16 (i.Elem (pos 1) (pos 0)) ∷ at 17 i.Fetch ∷ at 18 (i.Int (pos 0)) ∷ at 19 (i.Std (pos 40)) ∷ at 20 (i.Load (pos 1) (pos 1)) ∷ at 21 (i.Int (pos 1)) ∷ at 22 (i.Elem (pos 1) (pos 0)) ∷ at 23 i.Fetch ∷ at 24 (i.Int (pos 0)) ∷ at 25 (i.Std (pos 40)) ∷ at 26 (i.Load (pos 1) (pos 1)) ∷ at 27 (i.Int (pos 3)) ∷ at 28 (i.Elem (pos 1) (pos 0)) ∷ at 29 (i.EndLevel (pos 0)) ∷ [])

-- the test of a step element on unbounded numbers: the step, the variable, the limit
abbrev pub step_code : CodeOf
step_code = code (main 0 [] 3 0 ∷ []) (at 1 (i.Int (pos 2)) ∷ at 2 (i.Int (pos 9)) ∷ at 3 (i.Int (negsuc 8)) ∷ at 4 i.StepTest ∷ at 5 (i.JumpF (pos 6)) ∷ at 6 (i.Std (pos 37)) ∷ at 7 (i.Int (negsuc 0)) ∷ at 8 (i.Int (pos 9)) ∷ at 9 (i.Int (negsuc 8)) ∷ at 10 i.StepTest ∷ at 11 (i.JumpF (pos 12)) ∷ at 12 (i.Std (pos 37)) ∷ at 13 (i.Int (pos 1)) ∷ at 14 (i.Int (pos 0)) ∷ at 15 i.Div ∷ at 16 i.Halt ∷ [])

-- a copy of a constant in a cell, of which `getchar` and `putchar` get the address: its position moves; the value alone moves none
abbrev pub addresses : CodeOf
addresses = code_with_texts (codes "ab" ∷ []) (main 1 (type.Text ∷ []) 3 0 ∷ []) (at 1 (i.TextK (pos 0)) ∷ at 2 (i.Std (pos 15)) ∷ at 3 (i.Store (pos 1) (pos 0)) ∷ at 4 (i.Addr (pos 1) (pos 0) (pos 0)) ∷ at 5 (i.Std (pos 25)) ∷ at 6 (i.Std (pos 38)) ∷ at 7 (i.Addr (pos 1) (pos 0) (pos 0)) ∷ at 8 (i.Char (pos 88)) ∷ at 9 (i.Std (pos 26)) ∷ at 10 (i.Load (pos 1) (pos 0)) ∷ at 11 (i.Std (pos 39)) ∷ at 12 (i.Load (pos 1) (pos 0)) ∷ at 13 (i.Std (pos 21)) ∷ at 14 (i.Int (pos 0)) ∷ at 15 (i.Std (pos 40)) ∷ at 16 (i.Load (pos 1) (pos 0)) ∷ at 17 (i.Std (pos 25)) ∷ [])

-- a text of blanks that a shorter one is assigned to, which is not equal to that, and then a longer one
abbrev pub assignment : CodeOf
assignment = code_with_texts (codes "abc" ∷ codes "xyz12" ∷ []) (main 1 (type.Text ∷ []) 3 0 ∷ []) (at 1 (i.Int (pos 4)) ∷ at 2 (i.Std (pos 14)) ∷ at 3 (i.Store (pos 1) (pos 0)) ∷ at 4 (i.Load (pos 1) (pos 0)) ∷ at 5 (i.TextK (pos 0)) ∷ at 6 i.AssignT ∷ at 7 (i.Load (pos 1) (pos 0)) ∷ at 8 (i.Std (pos 39)) ∷ at 9 (i.Load (pos 1) (pos 0)) ∷ at 10 (i.TextK (pos 0)) ∷ at 11 (i.RelT (pos 2)) ∷ at 12 (i.JumpF (pos 13)) ∷ at 13 i.Halt ∷ at 14 (i.Load (pos 1) (pos 0)) ∷ at 15 (i.TextK (pos 1)) ∷ at 16 i.AssignT ∷ [])

-- the position of the image of sysout is set and read; that of sysin is behind its last character
abbrev pub image_code : CodeOf
image_code = code (main 0 [] 3 0 ∷ []) (at 1 (i.AddrImg (pos 1)) ∷ at 2 (i.Int (pos 3)) ∷ at 3 (i.Std (pos 24)) ∷ at 4 (i.Char (pos 99)) ∷ at 5 (i.Std (pos 38)) ∷ at 6 (i.AddrImg (pos 1)) ∷ at 7 i.Fetch ∷ at 8 (i.Std (pos 21)) ∷ at 9 (i.Int (pos 0)) ∷ at 10 (i.Std (pos 40)) ∷ at 11 (i.AddrImg (pos 0)) ∷ at 12 (i.Std (pos 21)) ∷ at 13 (i.Int (pos 3)) ∷ at 14 (i.Std (pos 40)) ∷ at 15 (i.EndLevel (pos 0)) ∷ [])

-- no text is put in the place of an image, also not its own, and there are two images
abbrev pub foreign_image : CodeOf
foreign_image = code (main 0 [] 2 0 ∷ []) (at 1 (i.AddrImg (pos 1)) ∷ at 2 (i.AddrImg (pos 1)) ∷ at 3 i.Fetch ∷ at 4 i.Put ∷ [])

abbrev pub third_image : CodeOf
third_image = code (main 0 [] 2 0 ∷ []) (at 1 (i.AddrImg (pos 2)) ∷ [])

-- the address of a cell that the frame has, although no value is in it, and of one that it has not
abbrev pub without_the_cell : CodeOf
without_the_cell = code (main 1 (type.Nothing ∷ []) 2 0 ∷ []) (at 1 (i.Addr (pos 1) (pos 0) (pos 0)) ∷ at 2 (i.Addr (pos 1) (pos 1) (pos 0)) ∷ [])

-- nothing to drop
abbrev pub empty_stack : CodeOf
empty_stack = code (main 0 [] 0 0 ∷ []) (at 1 i.Pop ∷ [])

-- a value more than there is room for
abbrev pub no_room : CodeOf
no_room = code (main 0 [] 1 0 ∷ []) (at 1 (i.Int (pos 1)) ∷ at 2 (i.Int (pos 2)) ∷ at 3 i.Halt ∷ [])

-- a jump back that leads to no tick
abbrev pub wild_jump : CodeOf
wild_jump = code (main 0 [] 1 0 ∷ []) (at 1 (i.Int (pos 1)) ∷ at 2 i.Pop ∷ at 3 (i.Jump (pos 0)) ∷ [])

-- control goes past the last instruction
abbrev pub no_way_out : CodeOf
no_way_out = code (main 0 [] 1 0 ∷ []) (at 1 i.Tick ∷ [])

-- ---- what a run shows

abbrev pub limits : (storage ticks : ℕ) → Limits
limits storage ticks = record { storage = storage; ticks = ticks; in_length = 80; out_length = 132 }

abbrev pub shows : List ℕ → (ticks words : ℕ) → Ending → Shown
shows output ticks words ending = record { output = output; ticks = ticks; words = words; ending = Some ending }

-- what is seen of code under limits after n steps, without input
abbrev pub seen : CodeOf → Limits → ℕ → Shown
seen c l n = shown (mrun c l [] n)

-- the place at which there is no rule, where that is so after n steps
abbrev pub place_without_rule : Run Machine → Run Machine → Option ℕ
place_without_rule (Going o s) (Ended p NoRule) = Some (next_place s)
place_without_rule _ _ = None

abbrev pub stops_at : CodeOf → ℕ → Option ℕ
stops_at c n = place_without_rule (mrun c (limits 1000 100) [] n) (mrun c (limits 1000 100) [] (n + 1))

-- The output, the ticks and the words at the end, and the ending of each; and where there is no rule.
pub record Worked : Type 0 where
  pub arithmetic_done : seen arithmetic (limits 1000 100) 100 ≡ shows (codes "   8\n") 1 4 Normal
  pub jumps_done : seen loop_code (limits 1000 100) 100 ≡ shows (codes "3\n") 5 5 Normal
  pub block_left : seen sub_block_code (limits 1000 100) 100 ≡ shows (codes "7\n") 3 5 Normal
  pub no_words_left : seen sub_block_code (limits 10 100) 100 ≡ shows (codes "") 3 5 (StorageExhausted 4 5 6)
  pub no_ticks_left : seen sub_block_code (limits 1000 2) 100 ≡ shows (codes "") 2 5 (TickLimit 2)
  pub result_given : seen procedure_code (limits 1000 100) 100 ≡ shows (codes " 4\n") 2 4 Normal
  pub copy_apart : seen array_code (limits 1000 100) 100 ≡ shows (codes "80\n") 1 22 (RunFault SubscriptOutOfBounds 28)
  pub step_tested : seen step_code (limits 1000 100) 100 ≡ shows (codes "\n") 1 4 (RunFault ZeroDivisor 15)
  pub address_moved : seen addresses (limits 1000 100) 100 ≡ shows (codes "aaX3\n") 1 8 (RunFault GetcharPastEnd 17)
  pub text_assigned : seen assignment (limits 1000 100) 100 ≡ shows (codes "abc\n") 1 8 (RunFault TextTooLong 16)
  pub image_moved : seen image_code (limits 1000 100) 100 ≡ shows (codes "  c4 81\n") 1 4 Normal
  pub not_an_image : stops_at foreign_image 4 ≡ Some 3
  pub no_third_image : stops_at third_image 1 ≡ Some 0
  pub no_such_cell : stops_at without_the_cell 2 ≡ Some 1
  pub without_value : stops_at empty_stack 1 ≡ Some 0
  pub without_room : stops_at no_room 2 ≡ Some 1
  pub without_tick : stops_at wild_jump 3 ≡ Some 2
  pub past_the_end : stops_at no_way_out 2 ≡ Some 1
