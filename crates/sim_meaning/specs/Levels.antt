-- Classes and their levels. A class has the attributes and the statements of its prefix, of the prefix of that, and so on: these are its
-- levels, the outermost prefix first and the class itself last. So has a prefixed block. An object is in each of the levels of its class.
use Rattle.std.specs.Prelude.{ℕ, zero, suc, ◌+◌, ◌-◌, Bool, true, false, not, ◌==◌, if◌then◌else◌, ℤ, pos, negsuc, List, [], ◌∷◌, ◌++◌, length, is_some, slice_get, Option, Some, None}
use Rattle.std.specs.List.{list_any}
use Rattle.sim_scope.specs.declared.scopes.Denotation.{Denotation}
use Rattle.sim_scope.specs.declared.scopes.Denotation.TheVariants as denotation
use Rattle.sim_scope.specs.declared.types.SimType.{SimType}
use Rattle.sim_scope.specs.declared.types.SimType.TheVariants as t
use Rattle.sim_scope.specs.declared.types.StandardClass.{StandardClass}
use Rattle.sim_scope.specs.declared.types.StandardClass.TheVariants as standard
use Rattle.sim_scope.specs.Access.{encloser}
use Rattle.sim_scope.specs.Levels.{base, class_block, has_level}
use Rattle.sim_scope.specs.Source.{Source, denoted, line_at}
use Rattle.sim_scope.specs.Tables.{BlockOf, Tables}
use Rattle.sim_tree.specs.declared.expr.Membership.{Membership}
use Rattle.sim_tree.specs.declared.expr.Membership.TheVariants as membership
use Rattle.sim_tree.specs.Syntax.{NoDeclaration, NoStatement}
use Rattle.simset.specs.Sets.{Linkage}
use Rattle.sim_code.specs.Instances.{Instance}
use Rattle.sim_code.specs.Sets.{linkage_by}
use Rattle.sim_values.specs.Plain.{Integer, MainOf, Object, Plain}
use Rattle.sim_meaning.specs.Pending.{Held, Instances, Level, Of, Origin, Val, cell}
use Rattle.sim_meaning.specs.Texts.{ClassText, PrefixedText, StandardText, Text, text}

-- ---- the levels of a text, by their numbers

abbrev pub levels_beyond : (ℕ → List ℕ) → Option ℕ → List ℕ
levels_beyond levels None = []
levels_beyond levels (Some k) = levels k

abbrev pub levels_from : Tables → ℕ → (text : ℕ) → List ℕ
levels_from tables zero k = []
levels_from tables (suc more) k = levels_beyond (levels_from tables more) (base tables k) ++ k ∷ []

-- of a class or a prefixed block
unfoldable pub levels_of : Source → (text : ℕ) → List ℕ
levels_of s k = levels_from s.tables (length s.tables.blocks) k

-- ---- what they are made of

abbrev pub written_in : Option BlockOf → Option ℕ
written_in None = None
written_in (Some b) = b.inner

abbrev pub is_written : Option ℕ → Bool
is_written None = false
is_written (Some token) = true

-- whether an `inner` is written in a class
abbrev pub writes_inner : Source → (text : ℕ) → Bool
writes_inner s k = is_written (written_in (slice_get s.tables.blocks k))

abbrev pub is_process_class : StandardClass → Bool
is_process_class standard.Process = true
is_process_class _ = false

-- The classes of SIMSET and SIMULATION have no declarations, and no statements but for what `process` does.
abbrev pub standard_level : (text : ℕ) → StandardClass → Level
standard_level k which = record { text = k; declarations = NoDeclaration; statements = NoStatement; inner_last = true; process = is_process_class which }

-- `simset` and `simulation` in front give no level of their own.
abbrev pub level_made : Source → (text : ℕ) → Option Text → Option Level
level_made s k (Some (ClassText prefix h ds ss)) = Some (record { text = k; declarations = ds; statements = ss; inner_last = not (writes_inner s k); process = false })
level_made s k (Some (PrefixedText class arguments ds ss)) = Some (record { text = k; declarations = ds; statements = ss; inner_last = true; process = false })
level_made s k (Some (StandardText which)) = Some (standard_level k which)
level_made s k _ = None

abbrev pub both : Option Level → Option (List Level) → Option (List Level)
both (Some x) (Some xs) = Some (x ∷ xs)
both _ _ = None

abbrev pub levels_made : Source → List ℕ → Option (List Level)
levels_made s [] = Some []
levels_made s (k ∷ ks) = both (level_made s k (text s k)) (levels_made s ks)

unfoldable pub levels : Source → (text : ℕ) → Option (List Level)
levels s k = levels_made s (levels_of s k)

-- those inside the level of a text
abbrev pub levels_inside : (text : ℕ) → List Level → List Level
levels_inside k [] = []
levels_inside k (x ∷ xs) = if x.text == k then xs else levels_inside k xs

-- objects and prefixed blocks have levels
abbrev pub has_levels : Option Text → Bool
has_levels (Some (ClassText prefix h ds ss)) = true
has_levels (Some (PrefixedText class arguments ds ss)) = true
has_levels (Some (StandardText which)) = true
has_levels _ = false

-- ---- the class of an object

abbrev pub text_in : Option (Instance (List Held)) → Option ℕ
text_in None = None
text_in (Some x) = Some x.text

-- the text of an instance
abbrev pub text_at : Instances → (instance : ℕ) → Option ℕ
text_at m j = text_in (slice_get m.instances j)

abbrev pub text_is_in : Source → (class : ℕ) → Option ℕ → Bool
text_is_in s class None = false
text_is_in s class (Some k) = has_level s.tables k class

-- an object is in a class where that is one of its levels
unfoldable pub is_in : Source → Instances → (class object : ℕ) → Bool
is_in s m class j = text_is_in s class (text_at m j)

abbrev pub text_is : (class : ℕ) → Option ℕ → Bool
text_is class None = false
text_is class (Some k) = k == class

-- it is of a class where that is its own
unfoldable pub is_of : Instances → (class object : ℕ) → Bool
is_of m class j = text_is class (text_at m j)

abbrev pub is_in_any : Source → Instances → (class : Option ℕ) → (object : ℕ) → Bool
is_in_any s m None j = false
is_in_any s m (Some class) j = is_in s m class j

-- an object has the procedure of a text where it is in the class around that
unfoldable pub has_procedure : Source → Instances → (text object : ℕ) → Bool
has_procedure s m k j = is_in_any s m (encloser s.tables k) j

-- ---- simulation blocks

-- whether a text is a standard class of a kind
abbrev pub is_standard_text : (StandardClass → Bool) → Option Text → Bool
is_standard_text test (Some (StandardText which)) = test which
is_standard_text test _ = false

-- The classes of `simulation` are the texts directly behind the level that has it in front of it, and `process` is the fourth.
abbrev pub process_if : Bool → ℕ → Option ℕ
process_if false k = None
process_if true k = Some k

abbrev pub process_behind : Source → (level : ℕ) → Option ℕ
process_behind s k = process_if (is_standard_text is_process_class (text s (k + 4))) (k + 4)

abbrev pub or_else : Option ℕ → Option ℕ → Option ℕ
or_else None other = other
or_else (Some k) other = Some k

abbrev pub process_among : Source → List ℕ → Option ℕ
process_among s [] = None
process_among s (k ∷ ks) = or_else (process_behind s k) (process_among s ks)

-- the class `process` of a simulation block, whose outermost level has it behind it
unfoldable pub process_class : Source → (text : ℕ) → Option ℕ
process_class s k = process_among s (levels_of s k)

abbrev pub is_simulation_text : Source → (text : ℕ) → Bool
is_simulation_text s k = is_some (process_class s k)

abbrev pub process_in : Source → Option ℕ → Option ℕ
process_in s None = None
process_in s (Some k) = process_class s k

-- the class `process` of an instance that is a simulation block; its main program is of that class
abbrev pub process_at : Source → Instances → (block : ℕ) → Option ℕ
process_at s m b = process_in s (text_at m b)

-- a reference names something in a class
unfoldable pub stands_in : Source → Instances → (class : ℕ) → Plain → Bool
stands_in s m class (Object j) = is_in s m class j
stands_in s m class (MainOf b) = text_is_in s class (process_at s m b)
stands_in s m class _ = false

-- it names something in the class `process` of a simulation block
abbrev pub in_process_class : Source → Instances → (class : Option ℕ) → Plain → Option Bool
in_process_class s m None p = None
in_process_class s m (Some k) p = Some (stands_in s m k p)

abbrev pub in_process : Source → Instances → (block : ℕ) → Plain → Option Bool
in_process s m b p = in_process_class s m (process_at s m b) p

-- `is` and `in`
abbrev pub main_belongs : Source → Instances → Membership → (class block : ℕ) → Bool
main_belongs s m membership.Is class b = text_is class (process_at s m b)
main_belongs s m membership.In class b = stands_in s m class (MainOf b)

unfoldable pub belongs : Source → Instances → Membership → (class object : ℕ) → Bool
belongs s m membership.Is class j = is_of m class j
belongs s m membership.In class j = is_in s m class j

-- ---- classes that are named

abbrev pub is_class : Option Text → Bool
is_class (Some (ClassText prefix h ds ss)) = true
is_class (Some (StandardText which)) = true
is_class _ = false

abbrev pub class_text : Source → Option ℕ → Option ℕ
class_text s None = None
class_text s (Some k) = if is_class (text s k) then Some k else None

abbrev pub class_denoted : Source → Option Denotation → Option ℕ
class_denoted s (Some (denotation.Declared d)) = class_text s (class_block s.tables d)
class_denoted s _ = None

-- the text of the class that an identifier denotes
unfoldable pub class_at : Source → (token : ℕ) → Option ℕ
class_at s token = class_denoted s (denoted s token)

-- the qualification of a reference, as the text of that class
unfoldable pub qualification : Source → Option SimType → Option ℕ
qualification s (Some (t.Ref d)) = class_text s (class_block s.tables d)
qualification s _ = None

-- ---- linkages

abbrev pub is_linkage_class : StandardClass → Bool
is_linkage_class standard.Linkage = true
is_linkage_class _ = false

abbrev pub is_head_class : StandardClass → Bool
is_head_class standard.Head = true
is_head_class _ = false

-- whether a standard class of a kind is one of the levels of a class
abbrev pub has_standard_class : Source → (StandardClass → Bool) → (text : ℕ) → Bool
has_standard_class s test k = list_any (λ level. is_standard_text test (text s level)) (levels_of s k)

-- what the objects of a class are made as, if they are linkages
unfoldable pub linkage_of_text : Source → (text : ℕ) → Option Linkage
linkage_of_text s k = linkage_by (has_standard_class s is_head_class k) (has_standard_class s is_linkage_class k)

-- ---- processes

-- whether the objects of a class are processes
unfoldable pub is_process_text : Source → (text : ℕ) → Bool
is_process_text s k = has_standard_class s is_process_class k

-- whether a text is the class `process` itself
unfoldable pub is_process_itself : Source → (text : ℕ) → Bool
is_process_itself s k = is_standard_text is_process_class (text s k)

abbrev pub end_in : Option BlockOf → ℕ
end_in None = 0
end_in (Some b) = b.end

-- the line of the last token of a class
abbrev pub last_line : Source → (class : ℕ) → ℕ
last_line s k = line_at s (end_in (slice_get s.tables.blocks k) - 1)

-- An object of `process` itself keeps the token of that class behind the `new` that made it, before control can come to its end. Its line is that of
-- the `new`. The code asks for each such token in turn; where the cell has none of them, the meaning and the code both take the line of the first
-- token.
abbrev pub line_before : (is_origin : Bool) → Source → (token : ℕ) → ℕ
line_before true s token = line_at s (token - 1)
line_before false s token = line_at s 0

abbrev pub origin_line : Source → (class : ℕ) → ℤ → ℕ
origin_line s k (pos token) = line_before (text_is k (class_at s token)) s token
origin_line s k (negsuc n) = line_at s 0

abbrev pub line_of_origin : Source → (class : ℕ) → Option Val → Option ℕ
line_of_origin s k (Some (Of (Integer z))) = Some (origin_line s k z)
line_of_origin s k _ = None

-- Any other process comes to its end at the last token of its own class.
abbrev pub end_line_if : (is_process_itself : Bool) → Source → (class : ℕ) → (origin : Option Val) → Option ℕ
end_line_if false s k origin = Some (last_line s k)
end_line_if true s k origin = line_of_origin s k origin

abbrev pub end_line_of : Source → (text : Option ℕ) → (origin : Option Val) → Option ℕ
end_line_of s None origin = None
end_line_of s (Some k) origin = end_line_if (is_process_itself s k) s k origin

abbrev pub end_line : Source → Instances → (process : ℕ) → Option ℕ
end_line s m i = end_line_of s (text_at m i) (cell m i Origin)
