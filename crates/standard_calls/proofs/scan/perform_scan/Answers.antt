use Rattle.std.proofs.Common.{◌≡◌, ◌≤◌, ℕ, ◌-◌, length, set, sym, subst, refl, arith}
use Rattle.sim_values.specs.declared.standard.Standard.{Standard}
use Rattle.sim_values.specs.declared.standard.Standard.TheVariants as name
use Rattle.sim_values.specs.Standard.{operands_of, row_of}
use Rattle.standard_calls.specs.Calls.{Refuses}
use Rattle.standard_calls.proofs.Counts.{putchar_count, setpos_count}
use Rattle.standard_calls.proofs.ReadApart.{putchar_refused, setpos_refused}
use Rattle.standard_calls.proofs.scan.perform_scan.Goals as goal

-- the number of operands of a name that is known
deep_of : (n m : Standard) (k depth : ℕ) → n ≡ m → length (operands_of (row_of m).function) ≡ k → length (operands_of (row_of n).function) ≤ depth → k ≤ depth
deep_of n m k depth is count deep = subst (λ k. k ≤ depth) count (subst (λ n. length (operands_of (row_of n).function) ≤ depth) is deep)

pub overflow_sub-depth : goal.overflow_sub-depth
overflow_sub-depth c = let deep = deep_of c.args.name name.TextSetpos 2 c.args.depth c.in-TextSetpos.is setpos_count c.requires.deep in omega (arith, deep)

pub slice_copy_out-as_integer : goal.slice_copy_out-as_integer
slice_copy_out-as_integer c =
    let deep = deep_of c.args.name name.TextSetpos 2 c.args.depth c.in-TextSetpos.is setpos_count c.requires.deep in
    let fits = c.requires.fits in
    omega (arith, deep, fits)

pub returns-in-None-clause-row : goal.returns-in-None-clause-row
returns-in-None-clause-row c budget words input source image sink s is =
    let depth = c.args.depth in
    let stack = c.args.stack.now in
    let deep = deep_of c.args.name name.TextSetpos 2 depth c.in-TextSetpos.is setpos_count c.requires.deep in
    let refused : Refuses c.args.name depth (set stack (depth - length (operands_of (row_of c.args.name).function)) s) =
    subst (λ n. Refuses n depth (set stack (depth - length (operands_of (row_of n).function)) s)) (sym c.in-TextSetpos.is)
    (subst (λ k. Refuses name.TextSetpos depth (set stack (depth - k) s)) (sym setpos_count) (setpos_refused depth stack c.requires.fits s deep c.in-None.ensures)) in
    (refl, λ l line o go b a. refused l line o go)

pub overflow_sub-depth-in-TextPutchar : goal.overflow_sub-depth-in-TextPutchar
overflow_sub-depth-in-TextPutchar c = let deep = deep_of c.args.name name.TextPutchar 2 c.args.depth c.in-TextPutchar.is putchar_count c.requires.deep in omega (arith, deep)

pub slice_copy_out-as_character : goal.slice_copy_out-as_character
slice_copy_out-as_character c =
    let deep = deep_of c.args.name name.TextPutchar 2 c.args.depth c.in-TextPutchar.is putchar_count c.requires.deep in
    let fits = c.requires.fits in
    omega (arith, deep, fits)

pub returns-in-None-as_character-clause-row : goal.returns-in-None-as_character-clause-row
returns-in-None-as_character-clause-row c budget words input source image sink s is =
    let depth = c.args.depth in
    let stack = c.args.stack.now in
    let deep = deep_of c.args.name name.TextPutchar 2 depth c.in-TextPutchar.is putchar_count c.requires.deep in
    let refused : Refuses c.args.name depth (set stack (depth - length (operands_of (row_of c.args.name).function)) s) =
    subst (λ n. Refuses n depth (set stack (depth - length (operands_of (row_of n).function)) s)) (sym c.in-TextPutchar.is)
    (subst (λ k. Refuses name.TextPutchar depth (set stack (depth - k) s)) (sym putchar_count) (putchar_refused depth stack c.requires.fits s deep c.in-None-as_character.ensures)) in
    (refl, λ l line o go b a. refused l line o go)
