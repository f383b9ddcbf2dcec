-- The match of a virtual in the class of an object is the same on both sides.
use Rattle.std.proofs.Common.{◌≡◌, ◌<◌, ℕ, zero, suc, Bool, true, false, List, [], ◌∷◌, Option, Some, None, refl, sym, ap, ◌∙◌, subst, arith}
use Rattle.std.specs.Option.{option_map}
use Rattle.std.specs.Prelude.{◌+◌, ◌==◌, if◌then◌else◌, slice_get}
use Rattle.sim_scope.specs.declared.scopes.Declaration.{Declaration}
use Rattle.sim_scope.specs.Scopes.{entry_in, entry_is, entry_of, is_virtual}
use Rattle.sim_scope.specs.Source.{Source}
use Rattle.sim_code.specs.declared.code.Match.{Match}
use Rattle.sim_code.specs.Code.{CodeOf}
use Rattle.sim_code.specs.Machine.{Frames}
use Rattle.sim_code.specs.Virtuals.{match_found, matched, matched_in, record_of}
use Rattle.sim_meaning.specs.Pending.{Instances}
use Rattle.sim_meaning.specs.Virtuals.{match_at, match_in_text}
use Rattle.codegen_expr.specs.Sites.{LevelOf, block_number}
use Rattle.codegen.specs.Compiled.{Compiled, match_listed, match_of_row, matches_from, matches_of}
use Rattle.sim_relate.proofs.ClassLevels.{levels_solid, numbered, own_class}
use Rattle.sim_relate.proofs.ClassTexts.{class_has}
use Rattle.sim_relate.proofs.Frames.{frame_self}
use Rattle.sim_relate.proofs.Known.{Stands}
use Rattle.sim_relate.proofs.LevelLists.{solid_level}
use Rattle.sim_relate.proofs.ObjectsHere.{ObjectHere, text_is_at}
use Rattle.sim_relate.proofs.Reach.{stands_as}
use Rattle.sim_relate.proofs.Relation.{StoreAt}
use Rattle.sim_relate.proofs.Trees.{IsVirtual}

module _ (s : Source) (k v : ℕ) where
  -- an entry for another virtual
  other_listed : (n : ℕ) (o : Option (Option ℕ)) (xs : List Match) → (n == v) ≡ false → matched v (match_listed s n o xs) ≡ matched v xs
  other_listed n None xs e = refl
  other_listed n (Some None) xs e = refl
  other_listed n (Some (Some text)) xs e = ap (λ b. if b then Some (block_number s text) else matched v xs) e

  other_row : (n : ℕ) (is : Bool) (xs : List Match) → (n == v) ≡ false → matched v (match_of_row s n k is xs) ≡ matched v xs
  other_row n false xs e = refl
  other_row n true xs e = other_listed n (match_in_text s n (Some k)) xs e

  -- there is none behind it
  past : (n : ℕ) (rows : List Declaration) → v < n → matched v (matches_from s k n rows) ≡ None
  past n [] le = refl
  past n (row ∷ rows) le =
      let differs : (n == v) ≡ false = grind (arith, le) in
      other_row n (is_virtual row.entry) (matches_from s k (suc n) rows) differs ∙ past (suc n) rows (omega (arith, le))

  own_listed : (o : Option (Option ℕ)) (found : Option ℕ) (xs : List Match) → o ≡ Some found → matched v xs ≡ None → matched v (match_listed s v o xs) ≡ option_map (block_number s) found
  own_listed None found xs e none = absurd (cc (e))
  own_listed (Some None) found xs e none = let same : None ≡ found = cc (e) in none ∙ ap (option_map (block_number s)) same
  own_listed (Some (Some text)) found xs e none =
      let same : Some text ≡ found = cc (e) in
      let itself : (v == v) ≡ true = grind (arith) in
      ap (λ b. if b then Some (block_number s text) else matched v xs) itself ∙ ap (option_map (block_number s)) same

  own_row : (is : Bool) (found : Option ℕ) (xs : List Match) → is ≡ true → match_in_text s v (Some k) ≡ Some found → matched v xs ≡ None → matched v (match_of_row s v k is xs) ≡ option_map (block_number s) found
  own_row false found xs h e none = absurd (cc (h))
  own_row true found xs h e none = own_listed (match_in_text s v (Some k)) found xs e none

  listed : (n i : ℕ) (rows : List Declaration) (found : Option ℕ) → entry_is is_virtual (entry_in (slice_get rows i)) ≡ true → n + i ≡ v → match_in_text s v (Some k) ≡ Some found → matched v (matches_from s k n rows) ≡ option_map (block_number s) found
  listed n i [] found h at e = absurd (cc (h))
  listed n zero (row ∷ rows) found h at e =
      let here : n ≡ v = omega (arith, at) in
      subst (λ z. matched v (match_of_row s z k (is_virtual row.entry) (matches_from s k (suc n) rows)) ≡ option_map (block_number s) found) (sym here)
      (own_row (is_virtual row.entry) found (matches_from s k (suc n) rows) h e (past (suc n) rows (omega (arith, here))))
  listed n (suc i) (row ∷ rows) found h at e =
      let differs : (n == v) ≡ false = grind (arith, at) in
      other_row n (is_virtual row.entry) (matches_from s k (suc n) rows) differs ∙ listed (suc n) i rows found h (omega (arith, at)) e

  -- in the list of matches of a class
  pub match_is : (found : Option ℕ) → IsVirtual s v → match_in_text s v (Some k) ≡ Some found → matched v (matches_of s k) ≡ option_map (block_number s) found
  unfolding matches_of entry_of
  match_is found h e =
      let at : 0 + v ≡ v = omega arith in
      listed 0 v s.tables.declarations found h at e

module _ (s : Source) (code : CodeOf) (coding : Compiled s code) (m : Instances) (fs : Frames) (store : StoreAt s code m fs) where
  -- an object stands for each of its levels
  pub match_stands : (j around : ℕ) (x : ObjectHere s code coding m fs store j) → LevelOf s.tables x.instance.text around → Stands s m j around
  match_stands j around x level =
      let own = x.instance.text in
      let solid = levels_solid s code coding own x.levels in
      let is = frame_self s coding.agrees around (solid_level s coding.agrees own around level solid) in
      stands_as s m coding.agrees j own around (text_is_at s code coding m fs store j x) (store.all j x.instance x.there) level is (frame_self s coding.agrees own solid)

  -- what is known of the match in the text of an object
  pub record MatchHere (v own j : ℕ) (found : Option ℕ) : Type 0 where
    pub is : match_in_text s v (Some own) ≡ Some found
    pub same : match_found code fs v j ≡ Some (option_map (block_number s) found)

  pub match_same : (v j : ℕ) (found : Option ℕ) (x : ObjectHere s code coding m fs store j) → IsVirtual s v → match_at s m v j ≡ Some found → MatchHere v x.instance.text j found
  unfolding match_at match_found
  match_same v j found x h e =
      let own = x.instance.text in
      let here : match_in_text s v (Some own) ≡ Some found = sym (ap (match_in_text s v) (text_is_at s code coding m fs store j x)) ∙ e in
      let c = class_has s code coding own x.levels in
      let class = numbered s code coding own c in
      record {
        is = here;
        same = ap (λ o. matched_in v (record_of code o)) (own_class s code coding fs j own x.frame x.lives x.number x.levels) ∙ ap (matched_in v) class ∙ ap (λ xs. Some (matched v xs)) (coding.matches own c.has.class x.levels class) ∙ ap Some (match_is s own v found h here);
      }
