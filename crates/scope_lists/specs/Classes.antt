-- Classes: the match of a virtual, the object that `this` means, and classes on one prefix chain.
use Rattle.std.specs.Prelude.{◌≡◌, ◌<◌, ℕ, Bool, false, ◌&&◌, nat_eq, List, [], length, reverse, Option, Some, None}
use Rattle.std.specs.List.{list_any}
use Rattle.sim_base.specs.declared.numbering.DeclNo.{DeclNo}
use Rattle.sim_scope.specs.declared.scopes.Denotation.{Denotation}
use Rattle.sim_scope.specs.declared.scopes.Denotation.TheVariants as denotation
use Rattle.sim_scope.specs.declared.standard.StandardName.TheVariants as standard
use Rattle.sim_scope.specs.declared.types.StandardPrefix.TheVariants as standard_prefix
use Rattle.sim_scope.specs.Levels.{both_blocks, class_block, has_standard, holds_class, is_simulation_block, owner_of_level}
use Rattle.sim_scope.specs.Scopes.{lookup, shows_detach}
use Rattle.sim_scope.specs.Tables.{Tables}
use Rattle.sim_scope.specs.Statements.{process_of}
use Rattle.prefix_bind.specs.Classes.{classes_of}
use Rattle.virtual_match.specs.Matching.{match_of_declared, name_of}
use Rattle.scope_lists.specs.Lists.{Lists, around, first, first_that}

-- The match of a virtual in a class is the procedure that the first of its levels declares, from itself outward, that declares the identifier;
-- where that is the virtual itself, the procedure of the virtual's own level that matches it.
abbrev pub matched_from : (s : Tables) → Lists s → List ℕ → Option ℕ → Option DeclNo
matched_from s l name None = None
matched_from s l name (Some block) = match_of_declared s (first (λ b. lookup s b name) (l.levels block))

unfoldable pub match_in_class : (s : Tables) → Lists s → (class virtual : DeclNo) → Option DeclNo
match_in_class s l class virtual = matched_from s l (name_of s virtual) (class_block s class)

-- whether a block is one of the levels of another
abbrev pub is_level : (s : Tables) → Lists s → (level block : ℕ) → Bool
is_level s l level block = list_any (λ b. nat_eq b level) (l.levels block)

-- A block is of a class that is one of its levels. It is of `simulation` where one of its levels is prefixed by that, and of `simset` where one is
-- prefixed by `simset` or `simulation`.
abbrev pub is_of_block : (s : Tables) → Lists s → Option ℕ → (block : ℕ) → Bool
is_of_block s l None block = false
is_of_block s l (Some class) block = is_level s l class block

abbrev pub is_of : (s : Tables) → Lists s → Denotation → (block : ℕ) → Bool
is_of s l (denotation.Declared class) block = is_of_block s l (class_block s class) block
is_of s l (denotation.Standard (standard.Prefix standard_prefix.Simulation)) block = list_any (is_simulation_block s) (l.levels block)
is_of s l (denotation.Standard name) block = list_any (has_standard s) (l.levels block)

-- `this C` means the object of the first scope around that is of C: a class, a prefixed block or a connection.
unfoldable pub this_means : (s : Tables) → Lists s → (token : ℕ) → Denotation → Option ℕ
this_means s l token class = first_that (λ b. shows_detach s b && is_of s l class b) (around s l token)

-- A class is a subclass of another, or is it, where the other is one of its levels.
unfoldable pub is_subclass : (s : Tables) → Lists s → (inner outer : DeclNo) → Bool
is_subclass s l inner outer = both_blocks (λ a b. is_level s l b a) (class_block s inner) (class_block s outer)

-- The class that two classes have in common is the first level of the one that is a level of the other too.
abbrev pub common_of : (s : Tables) → Lists s → Option ℕ → Option ℕ → Option DeclNo
common_of s l None b = None
common_of s l (Some a) None = None
common_of s l (Some a) (Some b) = owner_of_level s (first_that (λ level. is_level s l level b) (l.levels a))

unfoldable pub common_class : (s : Tables) → Lists s → (c d : DeclNo) → Option DeclNo
common_class s l c d = common_of s l (class_block s c) (class_block s d)

-- A class has classes, or is only for prefixing, where one of its levels declares a class, or is prefixed by `simulation`.
unfoldable pub has_classes_in : (s : Tables) → Lists s → (block : ℕ) → Bool
has_classes_in s l block = list_any (holds_class s) (l.levels block)

unfoldable pub only_for_prefixing : (s : Tables) → Lists s → (block : ℕ) → Bool
only_for_prefixing s l block = list_any (is_simulation_block s) (l.levels block)

-- The classes that are the levels of a class, from the outermost prefix inward.
abbrev pub classes_in : (s : Tables) → Lists s → Option ℕ → List DeclNo
classes_in s l None = []
classes_in s l (Some block) = classes_of s (reverse (l.levels block))

unfoldable pub classes_inward : (s : Tables) → Lists s → (class : DeclNo) → List DeclNo
classes_inward s l class = classes_in s l (class_block s class)

-- An activation is of the `process` of the first scope around with a level that is prefixed by `simulation`.
unfoldable pub simulation_level : (s : Tables) → Lists s → (block : ℕ) → Option ℕ
simulation_level s l block = first_that (is_simulation_block s) (l.levels block)

unfoldable pub process_around : (s : Tables) → Lists s → (token : ℕ) → Option DeclNo
process_around s l token = process_of s (first (simulation_level s l) (around s l token))

-- Each class has its block in the tables.
abbrev pub HasBlocks : Tables → Type 0
HasBlocks s = (class : DeclNo) (block : ℕ) → class_block s class ≡ Some block → block < length s.blocks
