-- The tokens of the parts of statements, construct by construct.
use Rattle.std.proofs.Common.{◌≡◌, ◌<◌, ◌+◌, ℕ, List, ◌∷◌, Option, Some, None, refl, sym, ap, length}
use Rattle.std.specs.Prelude.{slice_index_or}
use Rattle.sim_base.specs.declared.numbering.TokenNo.{TokenNo}
use Rattle.sim_base.specs.declared.token.Lexeme.{Lexeme}
use Rattle.sim_base.specs.declared.token.TokenKind.TheVariants as k
use Rattle.sim_tree.specs.declared.expr.Expr.{Expr}
use Rattle.sim_tree.specs.declared.program.BlockPrefix.{BlockPrefix}
use Rattle.sim_tree.specs.declared.stmt.Assigned.{Assigned}
use Rattle.sim_tree.specs.declared.stmt.ForElement.{ForElement}
use Rattle.sim_tree.specs.declared.stmt.ForElement.TheVariants as for_element
use Rattle.sim_tree.specs.declared.stmt.ReferenceElement.{ReferenceElement}
use Rattle.sim_tree.specs.declared.stmt.ReferenceElement.TheVariants as reference_element
use Rattle.sim_tree.specs.declared.stmt.Timing.{Timing}
use Rattle.sim_tree.specs.declared.stmt.Timing.TheVariants as timing
use Rattle.sim_tree.specs.ProgramDerivation.{assignment_kind}
use Rattle.sim_tree.specs.SyntaxOfProgram.{element_syntax, reference_element_syntax, schedule_syntax}
use Rattle.sim_print.specs.Laid.{LaidOut, Owes, Prints}
use Rattle.sim_print.specs.Tokens as t
use Rattle.sim_print.specs.Tokens.{behind_comma, listed, name, one}
use Rattle.sim_print.specs.Trees.{of_actuals, of_assigned, of_element, of_elements, of_expr, of_mark, of_prefix, of_reference_element, of_reference_elements, of_timing}
use Rattle.sim_print.proofs.Steps.{both, five, none, nothing_listed, owes_all, owes_comma, owes_end, owes_next, owes_rest, prints_as, three}
use Rattle.sim_print.proofs.DeclarationParts.{listed_map, owes_as}

assigned : (b m c : LaidOut) (x : Assigned) → Prints b m (one (assignment_kind x.sign)) → Prints m c (of_expr x.value) → Prints b c (of_assigned x)
unfolding of_assigned of_expr
assigned b m c x f g = both b m c _ _ f g

pub owes_assigned : (a b m c : LaidOut) (u : List Lexeme) (xs : List Assigned) (i : ℕ) (x : Assigned) → Owes of_assigned a u xs b i → i < length xs → x ≡ slice_index_or xs i x
    → Prints b m (one (assignment_kind x.sign)) → Prints m c (of_expr x.value) → Owes of_assigned a u xs c (i + 1)
owes_assigned a b m c u xs i x owes le is f g = owes_next of_assigned a b c u xs i x owes le is (assigned b m c x f g)

pub print_value : (a b : LaidOut) (x : ForElement) (y : Expr) → x ≡ for_element.Value y → Prints a b (of_expr y) → Prints a b (of_element x)
unfolding of_element of_expr
print_value a b x y is f = prints_as a b _ _ (sym (ap (λ z. t.element (element_syntax z)) is)) f

pub print_step : (a b c d m n : LaidOut) (x : ForElement) (i : TokenNo) (y z u : Expr) → x ≡ for_element.Step y i z u
    → Prints a b (of_expr y) → Prints b c (one k.Step) → Prints c d (of_expr z) → Prints d m (one k.Until) → Prints m n (of_expr u) → Prints a n (of_element x)
unfolding of_element of_expr
print_step a b c d m n x i y z u is f g h j p = prints_as a n _ _ (sym (ap (λ s. t.element (element_syntax s)) is)) (five a b c d m n _ _ _ _ _ f g h j p)

pub print_while_element : (a b c d : LaidOut) (x : ForElement) (i : TokenNo) (y z : Expr) → x ≡ for_element.While y i z
    → Prints a b (of_expr y) → Prints b c (one k.While) → Prints c d (of_expr z) → Prints a d (of_element x)
unfolding of_element of_expr
print_while_element a b c d x i y z is f g h = prints_as a d _ _ (sym (ap (λ s. t.element (element_syntax s)) is)) (three a b c d _ _ _ f g h)

pub print_reference_value : (a b : LaidOut) (x : ReferenceElement) (y : Expr) → x ≡ reference_element.Value y → Prints a b (of_expr y) → Prints a b (of_reference_element x)
unfolding of_reference_element of_expr
print_reference_value a b x y is f = prints_as a b _ _ (sym (ap (λ z. t.element (reference_element_syntax z)) is)) f

pub print_reference_while : (a b c d : LaidOut) (x : ReferenceElement) (i : TokenNo) (y z : Expr) → x ≡ reference_element.While y i z
    → Prints a b (of_expr y) → Prints b c (one k.While) → Prints c d (of_expr z) → Prints a d (of_reference_element x)
unfolding of_reference_element of_expr
print_reference_while a b c d x i y z is f g h = prints_as a d _ _ (sym (ap (λ s. t.element (reference_element_syntax s)) is)) (three a b c d _ _ _ f g h)

elements_listed : (l : List ForElement) → listed of_element l ≡ of_elements l
unfolding of_elements of_element
elements_listed l = listed_map t.element element_syntax of_element (λ x. refl) l

pub owes_elements : (a b : LaidOut) (l xs : List ForElement) (x : ForElement) → l ≡ x ∷ xs → Prints a b (of_element x) → Owes (behind_comma of_element) a (of_elements l) xs b 0
owes_elements a b l xs x is h = owes_as (behind_comma of_element) a b _ _ xs (elements_listed l) (owes_rest of_element a b l xs x is h)

pub print_no_elements : (a : LaidOut) (l : List ForElement) → length l ≡ 0 → Prints a a (of_elements l)
print_no_elements a l e = prints_as a a _ _ (elements_listed l) (nothing_listed of_element a l e)

reference_elements_listed : (l : List ReferenceElement) → listed of_reference_element l ≡ of_reference_elements l
unfolding of_reference_elements of_reference_element
reference_elements_listed l = listed_map t.element reference_element_syntax of_reference_element (λ x. refl) l

pub owes_reference_elements : (a b : LaidOut) (l xs : List ReferenceElement) (x : ReferenceElement) → l ≡ x ∷ xs → Prints a b (of_reference_element x) → Owes (behind_comma of_reference_element) a (of_reference_elements l) xs b 0
owes_reference_elements a b l xs x is h = owes_as (behind_comma of_reference_element) a b _ _ xs (reference_elements_listed l) (owes_rest of_reference_element a b l xs x is h)

pub print_no_reference_elements : (a : LaidOut) (l : List ReferenceElement) → length l ≡ 0 → Prints a a (of_reference_elements l)
print_no_reference_elements a l e = prints_as a a _ _ (reference_elements_listed l) (nothing_listed of_reference_element a l e)

pub print_no_timing : (a : LaidOut) (x : Option Timing) → x ≡ None → Prints a a (of_timing x)
unfolding of_timing
print_no_timing a x is = prints_as a a _ _ (sym (ap (λ z. t.schedule (schedule_syntax z)) is)) (none a)

pub print_at : (a b c d : LaidOut) (x : Option Timing) (i : TokenNo) (y : Expr) (o : Option TokenNo) → x ≡ Some (timing.At i y o)
    → Prints a b (one k.At) → Prints b c (of_expr y) → Prints c d (of_mark k.Prior o) → Prints a d (of_timing x)
unfolding of_timing of_expr of_mark
print_at a b c d x i y o is f g h = prints_as a d _ _ (sym (ap (λ z. t.schedule (schedule_syntax z)) is)) (three a b c d _ _ _ f g h)

pub print_delay : (a b c d : LaidOut) (x : Option Timing) (i : TokenNo) (y : Expr) (o : Option TokenNo) → x ≡ Some (timing.Delay i y o)
    → Prints a b (one k.Delay) → Prints b c (of_expr y) → Prints c d (of_mark k.Prior o) → Prints a d (of_timing x)
unfolding of_timing of_expr of_mark
print_delay a b c d x i y o is f g h = prints_as a d _ _ (sym (ap (λ z. t.schedule (schedule_syntax z)) is)) (three a b c d _ _ _ f g h)

pub print_before : (a b c : LaidOut) (x : Option Timing) (i : TokenNo) (y : Expr) → x ≡ Some (timing.Before i y) → Prints a b (one k.Before) → Prints b c (of_expr y) → Prints a c (of_timing x)
unfolding of_timing of_expr
print_before a b c x i y is f g = prints_as a c _ _ (sym (ap (λ z. t.schedule (schedule_syntax z)) is)) (both a b c _ _ f g)

pub print_after : (a b c : LaidOut) (x : Option Timing) (i : TokenNo) (y : Expr) → x ≡ Some (timing.After i y) → Prints a b (one k.After) → Prints b c (of_expr y) → Prints a c (of_timing x)
unfolding of_timing of_expr
print_after a b c x i y is f g = prints_as a c _ _ (sym (ap (λ z. t.schedule (schedule_syntax z)) is)) (both a b c _ _ f g)

pub print_block_prefix : (a b c : LaidOut) (x : BlockPrefix) (es : List Expr) → es ≡ x.arguments.items → Prints a b (name x.class) → Prints b c (of_actuals es) → Prints a c (of_prefix x)
unfolding of_prefix
print_block_prefix a b c x es ee f g = both a b c _ _ f (prints_as b c _ _ (ap of_actuals ee) g)

pub ruleset statement_part_rules = (owes_all, owes_assigned, owes_elements, owes_reference_elements, owes_comma, owes_end, print_value, print_step, print_while_element, print_reference_value, print_reference_while, print_no_elements, print_no_reference_elements, print_no_timing, print_at, print_delay, print_before, print_after, print_block_prefix)
