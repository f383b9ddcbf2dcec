-- What matches a virtual gives what the virtual gives.
use Rattle.std.proofs.Common.{◌≡◌, true, false, Option, Some, None, refl, sym, ap, ◌∙◌, subst, ℕ}
use Rattle.std.proofs.lemmas.Bool.{false≢true}
use Rattle.std.specs.Prelude.{◌||◌}
use Rattle.sim_base.specs.declared.numbering.DeclNo.{DeclNo}
use Rattle.sim_scope.specs.declared.types.Entry.TheVariants as entry
use Rattle.sim_scope.specs.declared.types.SimType.{SimType}
use Rattle.sim_scope.specs.declared.types.SimType.TheVariants as t
use Rattle.sim_scope.specs.Actuals.{result_fits, result_matches}
use Rattle.sim_scope.specs.Levels.{both_blocks, class_block, has_level, is_in_chain}
use Rattle.sim_scope.specs.Operators.{is_same}
use Rattle.sim_scope.specs.Scopes.{entry_of, result_in, result_of}
use Rattle.sim_scope.specs.Source.{Source}
use Rattle.virtual_match.specs.Matching.{is_unknown, results_fit}
use Rattle.sim_meaning.specs.Closing.{is_text_type}
use Rattle.sim_sound.specs.Held.{Refers, ResultFits, ValueFits, given_by, held_by, result_declared, result_holds}
use Rattle.sim_agree.specs.Facts.{IsClass, ProperResult, ProperType, Tabled}
use Rattle.sim_allowed.proofs.Classes.{class_held, class_row, own_level}
use Rattle.sim_allowed.proofs.Operators.{same_types}

-- ---- types that fit

not_unknown : (s : Source) (a : SimType) → ProperType s a → is_unknown (Some a) ≡ false
not_unknown s t.Integer p = refl
not_unknown s t.Boolean p = refl
not_unknown s t.Character p = refl
not_unknown s t.Text p = refl
not_unknown s (t.Ref d) p = refl
not_unknown s t.NoneType p = absurd p

known_fit : (s : Source) (a b : SimType) → ProperType s a → ProperType s b → results_fit s.tables (Some a) (Some b) ≡ true → result_fits s.tables a b ≡ true
known_fit s a b p q e =
    sym (ap (λ x. x || is_unknown (Some b) || result_matches s.tables (Some a) (Some b)) (not_unknown s a p) ∙ ap (λ x. x || result_matches s.tables (Some a) (Some b)) (not_unknown s b q)) ∙ e

chain_fits : (s : Source) (c d : DeclNo) (a : IsClass s c) (b : IsClass s d) → is_in_chain s.tables d c ≡ true → ValueFits s (held_by s (t.Ref d)) (held_by s (t.Ref c))
unfolding is_in_chain
chain_fits s c d a b e =
    subst (λ z. ValueFits s z (held_by s (t.Ref c))) (sym (class_held s d b)) (subst (λ z. ValueFits s (Refers b.block) z) (sym (class_held s c a)) (
    sym (ap (λ z. both_blocks (has_level s.tables) z (class_block s.tables c)) (class_row s.tables d b.block b.declares) ∙ ap (both_blocks (has_level s.tables) (Some b.block)) (class_row s.tables c a.block a.declares)) ∙ e))

plain_fits : (s : Source) (a b : SimType) → is_same a b ≡ true → ValueFits s (held_by s a) (held_by s a) → ValueFits s (held_by s b) (held_by s a)
plain_fits s a b e itself = subst (λ z. ValueFits s (held_by s z) (held_by s a)) (same_types a b e) itself

types_fit : (s : Source) (a b : SimType) → ProperType s a → ProperType s b → result_fits s.tables a b ≡ true → ValueFits s (held_by s b) (held_by s a)
types_fit s t.Integer b p q e = plain_fits s t.Integer b e refl
types_fit s t.Boolean b p q e = plain_fits s t.Boolean b e refl
types_fit s t.Character b p q e = plain_fits s t.Character b e refl
types_fit s t.Text b p q e = plain_fits s t.Text b e refl
types_fit s t.NoneType b p q e = absurd p
types_fit s (t.Ref c) (t.Ref d) p q e = chain_fits s c d p q e
types_fit s (t.Ref c) t.Integer p q e = absurd (false≢true e)
types_fit s (t.Ref c) t.Boolean p q e = absurd (false≢true e)
types_fit s (t.Ref c) t.Character p q e = absurd (false≢true e)
types_fit s (t.Ref c) t.Text p q e = absurd (false≢true e)
types_fit s (t.Ref c) t.NoneType p q e = absurd q

-- so does what is passed as a procedure
pub result_matched : (s : Source) (wanted given : Option SimType) → ProperResult s wanted → ProperResult s given → result_matches s.tables wanted given ≡ true → ResultFits s (given_by s given) (given_by s wanted)
result_matched s None None p q e = tt
result_matched s None (Some b) p q e = absurd (false≢true e)
result_matched s (Some a) None p q e = absurd (false≢true e)
result_matched s (Some a) (Some b) p q e = types_fit s a b p q e

-- and so does itself
pub result_itself : (s : Source) → Tabled s → (given : Option SimType) → ProperResult s given → ResultFits s (given_by s given) (given_by s given)
result_itself s known None p = tt
result_itself s known (Some t.Integer) p = refl
result_itself s known (Some t.Boolean) p = refl
result_itself s known (Some t.Character) p = refl
result_itself s known (Some t.Text) p = refl
result_itself s known (Some t.NoneType) p = absurd p
result_itself s known (Some (t.Ref d)) p = subst (λ z. ValueFits s z z) (sym (class_held s d p)) (own_level s.tables p.block known.some_block)

-- the match gives what the virtual gives, or a reference to a subclass
pub result_given : (s : Source) (wanted given : Option SimType) → ProperResult s wanted → ProperResult s given → results_fit s.tables wanted given ≡ true → ResultFits s (given_by s given) (given_by s wanted)
result_given s None None p q e = tt
result_given s None (Some b) p q e = absurd (false≢true (sym (ap (λ x. x || false) (not_unknown s b q)) ∙ e))
result_given s (Some a) None p q e = absurd (false≢true (sym (ap (λ x. x || false || false) (not_unknown s a p)) ∙ e))
result_given s (Some a) (Some b) p q e = types_fit s a b p q (known_fit s a b p q e)

texts_same : (s : Source) (a b : SimType) → ProperType s a → ProperType s b → result_fits s.tables a b ≡ true → is_text_type (Some a) ≡ is_text_type (Some b)
texts_same s t.Integer b p q e = ap (λ z. is_text_type (Some z)) (same_types t.Integer b e)
texts_same s t.Boolean b p q e = ap (λ z. is_text_type (Some z)) (same_types t.Boolean b e)
texts_same s t.Character b p q e = ap (λ z. is_text_type (Some z)) (same_types t.Character b e)
texts_same s t.Text b p q e = ap (λ z. is_text_type (Some z)) (same_types t.Text b e)
texts_same s t.NoneType b p q e = absurd p
texts_same s (t.Ref c) (t.Ref d) p q e = refl
texts_same s (t.Ref c) t.Integer p q e = refl
texts_same s (t.Ref c) t.Boolean p q e = refl
texts_same s (t.Ref c) t.Character p q e = refl
texts_same s (t.Ref c) t.Text p q e = absurd (false≢true e)
texts_same s (t.Ref c) t.NoneType p q e = absurd q

-- where a match has a type, so has the virtual, and both are texts or none is
pub record Typed (s : Source) (wanted : Option SimType) (type : SimType) : Type 0 where
  pub wanted_type : SimType
  pub is : wanted ≡ Some wanted_type
  pub texts : is_text_type (Some wanted_type) ≡ is_text_type (Some type)

pub typed_alike : (s : Source) (wanted : Option SimType) (b : SimType) → ProperResult s wanted → ProperType s b → results_fit s.tables wanted (Some b) ≡ true → Typed s wanted b
typed_alike s None b p q e = absurd (result_given s None (Some b) p q e)
typed_alike s (Some a) b p q e = record { wanted_type = a; is = refl; texts = texts_same s a b p q (known_fit s a b p q e) }

-- what a match holds as its result
pub result_kept : (s : Source) → Tabled s → (match : DeclNo) (given : Option SimType) (block : ℕ) → entry_of s.tables match ≡ Some (entry.Procedure given block) → (type : SimType) → given ≡ Some type → result_holds s block ≡ Some (held_by s type)
unfolding result_of
result_kept s known match given block there type same =
    ap (λ z. given_by s (result_declared s z)) (known.owned match given block there) ∙ ap (λ z. given_by s (result_in z)) there ∙ ap (given_by s) same
