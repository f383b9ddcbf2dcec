-- The value of a constant is no reference.
use Rattle.std.proofs.Common.{◌≡◌, ℕ, suc, Bool, true, false, List, [], ◌∷◌, Option, Some, None, refl, subst}
use Rattle.std.specs.Prelude.{◌==◌, if◌then◌else◌, slice_get}
use Rattle.sim_base.specs.declared.numbering.DeclNo.{DeclNo}
use Rattle.sim_scope.specs.declared.scopes.Declaration.{Declaration as Row}
use Rattle.sim_scope.specs.Source.{Source}
use Rattle.sim_tree.specs.declared.stmt.Constant.{Constant}
use Rattle.sim_tree.specs.declared.stmt.Constant.TheVariants as constant
use Rattle.sim_tree.specs.declared.stmt.Variable.{Variable}
use Rattle.sim_tree.specs.Syntax.{Arrays, Declarations, DeclareClass, DeclareProcedure, NoDeclaration, Variables, With}
use Rattle.sim_values.specs.Plain.{Character, Integer, MainOf, Nothing, Object, Plain, Text as TextOf, Truth, kind_of}
use Rattle.sim_meaning.specs.Constants.{TextConstant, constant_from, text_constant, text_constants}
use Rattle.sim_meaning.specs.Pending.{Instances}
use Rattle.sim_meaning.specs.Texts.{BlockText, ClassText, PrefixedText, Text, among_declarations, among_variables, constant_in, constant_of, constant_value, row_constant, text, value_in}
use Rattle.sim_sound.specs.Held.{Simply}
use Rattle.sim_sound.proofs.Values.{NamesObject, PlainFine}

abbrev pub NoReference : Option Plain → Type 0
NoReference None = Unit {0}
NoReference (Some (Object j)) = ⊥
NoReference (Some (MainOf b)) = ⊥
NoReference (Some Nothing) = ⊥
NoReference (Some p) = Unit {0}

either : (b : Bool) (x y : Option Plain) → NoReference x → NoReference y → NoReference (if b then x else y)
either true x y a c = a
either false x y a c = c

text_from : (n token : ℕ) (cs : List TextConstant) → NoReference (constant_from n token cs)
text_from n token [] = tt
text_from n token (c ∷ cs) = either (c.token == token) _ _ tt (text_from (suc n) token cs)

pub text_no_reference : (s : Source) (token : ℕ) → NoReference (text_constant s token)
unfolding text_constant
text_no_reference s token = text_from 0 token (text_constants s)

of_value : (s : Source) (c : Constant) → NoReference (constant_value s c)
of_value s (constant.Integer sign token z) = tt
of_value s (constant.Character token c) = tt
of_value s (constant.Text token bytes) = text_no_reference s token.0
of_value s (constant.True token) = tt
of_value s (constant.False token) = tt

of_given : (s : Source) (c : Option Constant) → NoReference (value_in s c)
of_given s None = tt
of_given s (Some c) = of_value s c

of_variables : (s : Source) (token : ℕ) (vs : List Variable) (other : Option Plain) → NoReference other → NoReference (among_variables s token vs other)
of_variables s token [] other a = a
of_variables s token (v ∷ vs) other a = either (v.name.token.0 == token) (value_in s v.value) (among_variables s token vs other) (of_given s v.value) (of_variables s token vs other a)

of_declarations : (s : Source) (token : ℕ) (ds : Declarations) → NoReference (among_declarations s token ds)
of_declarations s token NoDeclaration = tt
of_declarations s token (With (Variables type vs) ds) = of_variables s token vs (among_declarations s token ds) (of_declarations s token ds)
of_declarations s token (With (Arrays type i segments) ds) = of_declarations s token ds
of_declarations s token (With (DeclareProcedure result i h a end) ds) = of_declarations s token ds
of_declarations s token (With (DeclareClass prefix i h interface a end) ds) = of_declarations s token ds

of_text : (s : Source) (x : Option Text) (token : ℕ) → NoReference (constant_in s x token)
of_text s (Some (BlockText begin ds ss)) token = of_declarations s token ds
of_text s (Some (ClassText prefix h ds ss)) token = of_declarations s token ds
of_text s (Some (PrefixedText class arguments ds ss)) token = of_declarations s token ds
of_text s (Some _) token = tt
of_text s None token = tt

of_row : (s : Source) (x : Option Row) → NoReference (row_constant s x)
of_row s None = tt
of_row s (Some row) = of_text s (text s row.block) row.token.0

pub constant_no_reference : (s : Source) (d : DeclNo) → NoReference (constant_of s d)
unfolding constant_of
constant_no_reference s d = of_row s (slice_get s.tables.declarations d.0)

pub names_none : (s : Source) (m : Instances) (p : Plain) → NoReference (Some p) → NamesObject s m p
names_none s m (Object j) a = absurd a
names_none s m (MainOf b) a = absurd a
names_none s m Nothing a = tt
names_none s m (Integer z) a = tt
names_none s m (Character z) a = tt
names_none s m (Truth z) a = tt
names_none s m (TextOf z) a = tt

-- a value that is one of those
pub value_fine : (s : Source) (m : Instances) (x : Option Plain) (p : Plain) → NoReference x → x ≡ Some p → PlainFine s m (Simply (kind_of p)) p
value_fine s m x p a e = (refl, names_none s m p (subst NoReference e a))

pub constant_names : (s : Source) (m : Instances) (d : DeclNo) (p : Plain) → constant_of s d ≡ Some p → NamesObject s m p
constant_names s m d p e = names_none s m p (subst NoReference e (constant_no_reference s d))
