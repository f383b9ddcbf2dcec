-- The tokens of the parts of declarations, construct by construct.
use Rattle.std.proofs.Common.{◌≡◌, ◌<◌, ℕ, ℤ, List, [], ◌∷◌, ◌++◌, Option, Some, None, refl, sym, ap, ◌∙◌, map, length, subst, arith}
use Rattle.std.specs.Prelude.{option_map}
use Rattle.sim_base.specs.Lexeme.{character, text, whole_number}
use Rattle.sim_base.specs.declared.numbering.TokenNo.{TokenNo}
use Rattle.sim_base.specs.declared.token.Lexeme.{Lexeme}
use Rattle.sim_base.specs.declared.token.TokenKind.{TokenKind}
use Rattle.sim_base.specs.declared.token.TokenKind.TheVariants as k
use Rattle.sim_tree.specs.declared.expr.Identifier.{Identifier}
use Rattle.sim_tree.specs.declared.expr.LeadingSign.{LeadingSign}
use Rattle.sim_tree.specs.declared.stmt.ArraySegment.{ArraySegment}
use Rattle.sim_tree.specs.declared.stmt.Bounds.{Bounds}
use Rattle.sim_tree.specs.declared.stmt.Constant.{Constant}
use Rattle.sim_tree.specs.declared.stmt.Constant.TheVariants as constant
use Rattle.sim_tree.specs.declared.stmt.ModePart.{ModePart}
use Rattle.sim_tree.specs.declared.stmt.Protection.{Protection}
use Rattle.sim_tree.specs.declared.stmt.Specification.{Specification}
use Rattle.sim_tree.specs.declared.stmt.Specifier.{Specifier}
use Rattle.sim_tree.specs.declared.stmt.Specifier.TheVariants as specifier
use Rattle.sim_tree.specs.declared.stmt.TypeName.{TypeName}
use Rattle.sim_tree.specs.declared.stmt.TypeName.TheVariants as type_name
use Rattle.sim_tree.specs.declared.stmt.Variable.{Variable}
use Rattle.sim_tree.specs.declared.stmt.VirtualSpecification.{VirtualSpecification}
use Rattle.sim_tree.specs.ProgramDerivation.{mode_kind}
use Rattle.sim_tree.specs.SyntaxOfProgram.{bound_pair_syntax, mode_syntax, number_of, segment_syntax, specification_syntax, specifier_syntax, virtual_syntax}
use Rattle.sim_print.specs.Laid.{LaidOut, Owes, Prints}
use Rattle.sim_print.specs.Spelling.{each}
use Rattle.sim_print.specs.Tokens as t
use Rattle.sim_print.specs.Tokens.{behind_comma, listed, name, one}
use Rattle.sim_print.specs.Trees.{of_bounds, of_class_prefix, of_constant, of_dimensions, of_expr, of_formals, of_heading, of_mark, of_mode, of_names, of_protection, of_result, of_segment, of_segments, of_sign, of_specification, of_specifier, of_type, of_variable, of_variables, of_virtual, of_virtuals}
use Rattle.sim_print.proofs.Steps.{both, five, four, none, nothing_listed, owes_all, owes_comma, owes_end, owes_from, owes_next, owes_rest, prints_as, three}

-- ---- names and types

pub owes_names : (a b : LaidOut) (l xs : List Identifier) (x : Identifier) → l ≡ x ∷ xs → Prints a b (name x) → Owes (behind_comma name) a (of_names l) xs b 0
unfolding of_names
owes_names a b l xs x is h = owes_rest name a b l xs x is h

pub print_no_names : (a : LaidOut) (l : List Identifier) → length l ≡ 0 → Prints a a (of_names l)
unfolding of_names
print_no_names a l e = nothing_listed name a l e

pub print_integer_type : (a b : LaidOut) (x : TypeName) (i : TokenNo) → x ≡ type_name.Integer i → Prints a b (one k.IntegerWord) → Prints a b (of_type x)
unfolding of_type
print_integer_type a b x i is h = prints_as a b _ _ (sym (ap t.type_tokens is)) h

pub print_boolean_type : (a b : LaidOut) (x : TypeName) (i : TokenNo) → x ≡ type_name.Boolean i → Prints a b (one k.Boolean) → Prints a b (of_type x)
unfolding of_type
print_boolean_type a b x i is h = prints_as a b _ _ (sym (ap t.type_tokens is)) h

pub print_character_type : (a b : LaidOut) (x : TypeName) (i : TokenNo) → x ≡ type_name.Character i → Prints a b (one k.CharacterWord) → Prints a b (of_type x)
unfolding of_type
print_character_type a b x i is h = prints_as a b _ _ (sym (ap t.type_tokens is)) h

pub print_text_type : (a b : LaidOut) (x : TypeName) (i : TokenNo) → x ≡ type_name.Text i → Prints a b (one k.TextWord) → Prints a b (of_type x)
unfolding of_type
print_text_type a b x i is h = prints_as a b _ _ (sym (ap t.type_tokens is)) h

pub print_reference_type : (a b c d m : LaidOut) (x : TypeName) (i : TokenNo) (n : Identifier) → x ≡ type_name.Reference i n
    → Prints a b (one k.Ref) → Prints b c (one k.Open) → Prints c d (name n) → Prints d m (one k.Close) → Prints a m (of_type x)
unfolding of_type
print_reference_type a b c d m x i n is f g h j = prints_as a m _ _ (sym (ap t.type_tokens is)) (four a b c d m _ _ _ _ f g h j)

pub print_result : (a b : LaidOut) (x : Option TypeName) (y : TypeName) → x ≡ Some y → Prints a b (of_type y) → Prints a b (of_result x)
unfolding of_result of_type
print_result a b x y is h = prints_as a b _ _ (sym (ap t.result_tokens is)) h

pub print_no_result : (a : LaidOut) (x : Option TypeName) → x ≡ None → Prints a a (of_result x)
unfolding of_result
print_no_result a x is = prints_as a a _ _ (sym (ap t.result_tokens is)) (none a)

-- ---- variables and arrays

pub print_integer_constant : (a b c : LaidOut) (x : Constant) (m : Option LeadingSign) (i : TokenNo) (z value : ℤ) → x ≡ constant.Integer m i z → value ≡ z → Prints a b (of_sign m) → Prints b c (whole_number value ∷ []) → Prints a c (of_constant x)
unfolding of_constant of_sign
print_integer_constant a b c x m i z value is same f g =
    prints_as a c _ _ (sym (ap t.constant_tokens is)) (both a b c _ _ f (prints_as b c _ _ (ap (λ u. whole_number u ∷ []) same) g))

pub print_character_constant : (a b : LaidOut) (x : Constant) (i : TokenNo) (z : ℕ) → x ≡ constant.Character i z → Prints a b (character z ∷ []) → Prints a b (of_constant x)
unfolding of_constant
print_character_constant a b x i z is h = prints_as a b _ _ (sym (ap t.constant_tokens is)) h

pub print_text_constant : (a b : LaidOut) (x : Constant) (i : TokenNo) (z : List ℕ) → x ≡ constant.Text i z → Prints a b (text z ∷ []) → Prints a b (of_constant x)
unfolding of_constant
print_text_constant a b x i z is h = prints_as a b _ _ (sym (ap t.constant_tokens is)) h

pub print_true_constant : (a b : LaidOut) (x : Constant) (i : TokenNo) → x ≡ constant.True i → Prints a b (one k.True) → Prints a b (of_constant x)
unfolding of_constant
print_true_constant a b x i is h = prints_as a b _ _ (sym (ap t.constant_tokens is)) h

pub print_false_constant : (a b : LaidOut) (x : Constant) (i : TokenNo) → x ≡ constant.False i → Prints a b (one k.False) → Prints a b (of_constant x)
unfolding of_constant
print_false_constant a b x i is h = prints_as a b _ _ (sym (ap t.constant_tokens is)) h

pub print_variable : (a b : LaidOut) (x : Variable) → x.value ≡ None → Prints a b (name x.name) → Prints a b (of_variable x)
unfolding of_variable
print_variable a b x is h = prints_as a b _ _ (sym (ap (λ z. name x.name ++ t.value_tokens z) is)) h

pub print_constant : (a b c d : LaidOut) (x : Variable) (y : Constant) → x.value ≡ Some y → Prints a b (name x.name) → Prints b c (one k.Equal) → Prints c d (of_constant y) → Prints a d (of_variable x)
unfolding of_variable of_constant
print_constant a b c d x y is f g h = prints_as a d _ _ (sym (ap (λ z. name x.name ++ t.value_tokens z) is)) (three a b c d _ _ _ f g h)

pub owes_variables : (a b : LaidOut) (l xs : List Variable) (x : Variable) → l ≡ x ∷ xs → Prints a b (of_variable x) → Owes (behind_comma of_variable) a (of_variables l) xs b 0
unfolding of_variables of_variable
owes_variables a b l xs x is h = owes_rest t.variable_tokens a b l xs x is h

pub print_no_variables : (a : LaidOut) (l : List Variable) → length l ≡ 0 → Prints a a (of_variables l)
unfolding of_variables
print_no_variables a l e = nothing_listed t.variable_tokens a l e

pub print_bounds : (a b c d : LaidOut) (x : Bounds) → Prints a b (of_expr x.lower) → Prints b c (one k.Colon) → Prints c d (of_expr x.upper) → Prints a d (of_bounds x)
unfolding of_bounds of_expr
print_bounds a b c d x f g h = three a b c d _ _ _ f g h

-- a list of what stands for something
each_map : {A B : Type 0} (f : B → List Lexeme) (g : A → B) (h : A → List Lexeme) → ((x : A) → f (g x) ≡ h x) → (xs : List A) → each (behind_comma h) xs ≡ each (behind_comma f) (map g xs)
each_map f g h e [] = refl
each_map f g h e (x ∷ xs) = ap (λ z. (one k.Comma ++ z) ++ each (behind_comma h) xs) (sym (e x)) ∙ ap (λ z. behind_comma f (g x) ++ z) (each_map f g h e xs)

pub listed_map : {A B : Type 0} (f : B → List Lexeme) (g : A → B) (h : A → List Lexeme) → ((x : A) → f (g x) ≡ h x) → (xs : List A) → listed h xs ≡ listed f (map g xs)
listed_map f g h e [] = refl
listed_map f g h e (x ∷ xs) = ap (λ z. z ++ each (behind_comma h) xs) (sym (e x)) ∙ ap (λ z. f (g x) ++ z) (each_map f g h e xs)

dimensions_listed : (l : List Bounds) → listed of_bounds l ≡ of_dimensions l
unfolding of_dimensions of_bounds
dimensions_listed l = listed_map t.bound_tokens bound_pair_syntax of_bounds (λ x. refl) l

pub owes_as : {A : Type 0} (f : A → List Lexeme) (a b : LaidOut) (s u : List Lexeme) (xs : List A) → s ≡ u → Owes f a s xs b 0 → Owes f a u xs b 0
owes_as f a b s u xs e h = subst (λ z. Owes f a z xs b 0) e h

pub owes_dimensions : (a b : LaidOut) (l xs : List Bounds) (x : Bounds) → l ≡ x ∷ xs → Prints a b (of_bounds x) → Owes (behind_comma of_bounds) a (of_dimensions l) xs b 0
owes_dimensions a b l xs x is h = owes_as (behind_comma of_bounds) a b _ _ xs (dimensions_listed l) (owes_rest of_bounds a b l xs x is h)

pub print_no_dimensions : (a : LaidOut) (l : List Bounds) → length l ≡ 0 → Prints a a (of_dimensions l)
print_no_dimensions a l e = prints_as a a _ _ (dimensions_listed l) (nothing_listed of_bounds a l e)

pub print_segment : (a b c d m : LaidOut) (x : ArraySegment) (ns : List Identifier) (bs : List Bounds) → ns ≡ x.names.items → bs ≡ x.bounds.items
    → Prints a b (of_names ns) → Prints b c (one k.Open) → Prints c d (of_dimensions bs) → Prints d m (one k.Close) → Prints a m (of_segment x)
unfolding of_segment of_names of_dimensions
print_segment a b c d m x ns bs en eb f g h j =
    four a b c d m _ _ _ _ (prints_as a b _ _ (ap t.names en) f) g (prints_as c d _ _ (ap (λ z. listed t.bound_tokens (map bound_pair_syntax z)) eb) h) j

segments_listed : (l : List ArraySegment) → listed of_segment l ≡ of_segments l
unfolding of_segments of_segment
segments_listed l = listed_map t.array_tokens segment_syntax of_segment (λ x. refl) l

pub owes_segments : (a b : LaidOut) (l xs : List ArraySegment) (x : ArraySegment) → l ≡ x ∷ xs → Prints a b (of_segment x) → Owes (behind_comma of_segment) a (of_segments l) xs b 0
owes_segments a b l xs x is h = owes_as (behind_comma of_segment) a b _ _ xs (segments_listed l) (owes_rest of_segment a b l xs x is h)

pub print_no_segments : (a : LaidOut) (l : List ArraySegment) → length l ≡ 0 → Prints a a (of_segments l)
print_no_segments a l e = prints_as a a _ _ (segments_listed l) (nothing_listed of_segment a l e)

-- ---- headings

pub print_mode : (a b c d : LaidOut) (x : ModePart) (ns : List Identifier) → ns ≡ x.names.items → Prints a b (one (mode_kind x.mode)) → Prints b c (of_names ns) → Prints c d (one k.Semicolon) → Prints a d (of_mode x)
unfolding of_mode of_names
print_mode a b c d x ns en f g h = three a b c d _ _ _ f (prints_as b c _ _ (ap t.names en) g) h

pub print_simple : (a b : LaidOut) (x : Specifier) (y : TypeName) → x ≡ specifier.Simple y → Prints a b (of_type y) → Prints a b (of_specifier x)
unfolding of_specifier of_type
print_simple a b x y is h = prints_as a b _ _ (sym (ap (λ z. t.specified_tokens (specifier_syntax z)) is)) h

pub print_array : (a b c : LaidOut) (x : Specifier) (y : TypeName) (i : TokenNo) → x ≡ specifier.Array y i → Prints a b (of_type y) → Prints b c (one k.Array) → Prints a c (of_specifier x)
unfolding of_specifier of_type
print_array a b c x y i is f g = prints_as a c _ _ (sym (ap (λ z. t.specified_tokens (specifier_syntax z)) is)) (both a b c _ _ f g)

pub print_procedure_formal : (a b c : LaidOut) (x : Specifier) (y : Option TypeName) (i : TokenNo) → x ≡ specifier.Procedure y i → Prints a b (of_result y) → Prints b c (one k.Procedure) → Prints a c (of_specifier x)
unfolding of_specifier of_result
print_procedure_formal a b c x y i is f g = prints_as a c _ _ (sym (ap (λ z. t.specified_tokens (specifier_syntax z)) is)) (both a b c _ _ f g)

pub print_specification : (a b c d : LaidOut) (x : Specification) (ns : List Identifier) → ns ≡ x.names.items → Prints a b (of_specifier x.specifier) → Prints b c (of_names ns) → Prints c d (one k.Semicolon) → Prints a d (of_specification x)
unfolding of_specification of_specifier of_names
print_specification a b c d x ns en f g h = three a b c d _ _ _ f (prints_as b c _ _ (ap t.names en) g) h

pub print_no_formals : (a : LaidOut) (l : List Identifier) → length l ≡ 0 → Prints a a (of_formals l)
unfolding of_formals
print_no_formals a [] e = none a
print_no_formals a (x ∷ xs) e = absurd (cc)

pub print_formals : (a b c d : LaidOut) (l : List Identifier) → 0 < length l → Prints a b (one k.Open) → Prints b c (of_names l) → Prints c d (one k.Close) → Prints a d (of_formals l)
unfolding of_formals of_names
print_formals a b c d [] some f g h = absurd (omega (arith, some))
print_formals a b c d (x ∷ xs) some f g h = three a b c d _ _ _ f g h

in_modes : (l : List ModePart) → each of_mode l ≡ each t.mode_tokens (map mode_syntax l)
unfolding of_mode
in_modes [] = refl
in_modes (x ∷ xs) = ap (λ z. of_mode x ++ z) (in_modes xs)

in_specifications : (l : List Specification) → each of_specification l ≡ each t.specification_tokens (map specification_syntax l)
unfolding of_specification
in_specifications [] = refl
in_specifications (x ∷ xs) = ap (λ z. of_specification x ++ z) (in_specifications xs)

pub print_heading : (a b c d m n : LaidOut) (x : Identifier) (l : List Identifier) (ms : List ModePart) (ss : List Specification)
    → Prints a b (name x) → Prints b c (of_formals l) → Prints c d (one k.Semicolon) → Prints d m (each of_mode ms) → Prints m n (each of_specification ss) → Prints a n (of_heading x l ms ss)
unfolding of_heading of_formals
print_heading a b c d m n x l ms ss f g h j p =
    five a b c d m n _ _ _ _ _ f g h (prints_as d m _ _ (in_modes ms) j) (prints_as m n _ _ (in_specifications ss) p)

-- ---- classes

pub print_mark : (kind : TokenKind) (a b : LaidOut) (x : Option TokenNo) (i : TokenNo) → x ≡ Some i → Prints a b (one kind) → Prints a b (of_mark kind x)
unfolding of_mark
print_mark kind a b x i is h = prints_as a b _ _ (sym (ap (λ z. t.mark_tokens kind (option_map number_of z)) is)) h

pub print_no_mark : (kind : TokenKind) (a : LaidOut) (x : Option TokenNo) → x ≡ None → Prints a a (of_mark kind x)
unfolding of_mark
print_no_mark kind a x is = prints_as a a _ _ (sym (ap (λ z. t.mark_tokens kind (option_map number_of z)) is)) (none a)

pub print_protection : (a b c d m : LaidOut) (x : Protection) (ns : List Identifier) → ns ≡ x.names.items
    → Prints a b (of_mark k.Hidden x.hidden) → Prints b c (of_mark k.Protected x.protected) → Prints c d (of_names ns) → Prints d m (one k.Semicolon) → Prints a m (of_protection x)
unfolding of_protection of_mark of_names
print_protection a b c d m x ns en f g h j = four a b c d m _ _ _ _ f g (prints_as c d _ _ (ap t.names en) h) j

pub print_virtual : (a b c d m : LaidOut) (x : VirtualSpecification) (ns : List Identifier) → ns ≡ x.names.items
    → Prints a b (of_result x.result) → Prints b c (one k.Procedure) → Prints c d (of_names ns) → Prints d m (one k.Semicolon) → Prints a m (of_virtual x)
unfolding of_virtual of_result of_names
print_virtual a b c d m x ns en f g h j = four a b c d m _ _ _ _ f g (prints_as c d _ _ (ap t.names en) h) j

pub print_no_virtuals : (a : LaidOut) (l : List VirtualSpecification) → length l ≡ 0 → Prints a a (of_virtuals l)
unfolding of_virtuals
print_no_virtuals a [] e = none a
print_no_virtuals a (x ∷ xs) e = absurd (cc)

in_virtuals : (l : List VirtualSpecification) → each of_virtual l ≡ each t.virtual_tokens (map virtual_syntax l)
unfolding of_virtual
in_virtuals [] = refl
in_virtuals (x ∷ xs) = ap (λ z. of_virtual x ++ z) (in_virtuals xs)

virtuals_from : (l : List VirtualSpecification) → 0 < length l → (one k.Virtual ++ one k.Colon) ++ each of_virtual l ≡ of_virtuals l
unfolding of_virtuals
virtuals_from [] some = absurd (omega (arith, some))
virtuals_from (x ∷ xs) some = ap (λ z. one k.Virtual ++ (one k.Colon ++ z)) (in_virtuals (x ∷ xs))

pub owes_virtuals : (a b c : LaidOut) (l : List VirtualSpecification) → 0 < length l → Prints a b (one k.Virtual) → Prints b c (one k.Colon) → Owes of_virtual a (of_virtuals l) l c 0
owes_virtuals a b c l some f g = owes_from of_virtual a c _ _ l (virtuals_from l some) (both a b c _ _ f g)

pub print_class_prefix : (a b : LaidOut) (x : Option Identifier) (y : Identifier) → x ≡ Some y → Prints a b (name y) → Prints a b (of_class_prefix x)
unfolding of_class_prefix
print_class_prefix a b x y is h = prints_as a b _ _ (sym (ap t.class_prefix is)) h

pub print_no_class_prefix : (a : LaidOut) (x : Option Identifier) → x ≡ None → Prints a a (of_class_prefix x)
unfolding of_class_prefix
print_no_class_prefix a x is = prints_as a a _ _ (sym (ap t.class_prefix is)) (none a)

pub ruleset part_rules = (owes_all, owes_names, owes_variables, owes_dimensions, owes_segments, owes_virtuals, owes_comma, owes_next, owes_end, print_no_names, print_integer_type, print_boolean_type, print_character_type, print_text_type, print_reference_type, print_result, print_no_result, print_integer_constant, print_character_constant, print_text_constant, print_true_constant, print_false_constant, print_variable, print_constant, print_no_variables, print_bounds, print_no_dimensions, print_segment, print_no_segments, print_mode, print_simple, print_array, print_procedure_formal, print_specification, print_no_formals, print_formals, print_heading, print_mark, print_no_mark, print_protection, print_virtual, print_no_virtuals, print_class_prefix, print_no_class_prefix)
