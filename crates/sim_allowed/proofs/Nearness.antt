-- On which levels the classes of types are: the class of the type of what is seen in a text is of the level of those that are declared in it, or in a
-- text around.
use Rattle.std.proofs.Common.{◌≡◌, ◌≤◌, ◌<◌, ℕ, zero, suc, Bool, true, false, List, [], ◌∷◌, length, Option, Some, None, refl, sym, ap, ◌∙◌, subst, arith}
use Rattle.std.proofs.lemmas.Bool.{false≢true}
use Rattle.std.proofs.lemmas.Bool.Decides.{nat_tests}
use Rattle.std.proofs.lemmas.Option.{slice_get_within}
use Rattle.std.specs.Prelude.{nat_eq, slice_get}
use Rattle.sim_base.specs.declared.numbering.DeclNo.{DeclNo}
use Rattle.sim_scope.specs.declared.scopes.Denotation.TheVariants as denotation
use Rattle.sim_scope.specs.declared.types.Entry.{Entry}
use Rattle.sim_scope.specs.declared.types.Entry.TheVariants as entry
use Rattle.sim_scope.specs.declared.types.SimType.{SimType}
use Rattle.sim_scope.specs.declared.types.SimType.TheVariants as t
use Rattle.sim_scope.specs.Access.{around, block_at, encloser}
use Rattle.sim_scope.specs.Levels.{base, class_block, has_classes, has_level, holds_class}
use Rattle.sim_scope.specs.Scopes.{binding, entry_of}
use Rattle.sim_scope.specs.Source.{Source, block_of, level_in, level_of}
use Rattle.sim_scope.specs.Tables.{BlockOf}
use Rattle.sim_code.specs.Simulations.{is_simulation_name}
use Rattle.sim_values.specs.declared.standard.Standard.{Standard}
use Rattle.sim_meaning.specs.Attributes.{is_connection}
use Rattle.sim_meaning.specs.Levels.{is_class}
use Rattle.sim_meaning.specs.Texts.{text}
use Rattle.sim_static.specs.Check.{second_least}
use Rattle.sim_sound.specs.Held.{Around, further, itself}
use Rattle.sim_agree.specs.Facts.{FoundThrough, IsClass, PlainType, ProperEntry, Tabled}
use Rattle.sim_agree.specs.Order.{InOrder}
use Rattle.sim_agree.specs.TablesAgree.{TablesAgree}
use Rattle.sim_agree.specs.TablesOf.{TablesOf}
use Rattle.sim_agree.proofs.ClassBlocks.{found_class_held}
use Rattle.sim_agree.proofs.Tables as tables
use Rattle.sim_agree.proofs.WrittenTypes.{ResultIn, TypeIn, TypesIn, TypeStands, beside, inside, types_stand, written}
use Rattle.sim_allowed.proofs.Classes.{level_both, no_connection, row_class}
use Rattle.sim_allowed.proofs.Near.{level_number}
use Rattle.sim_allowed.proofs.Simulations.{level_classes, some_holds}

-- a class of a type is of no deeper level
abbrev pub LowType : Source → ℕ → SimType → Type 0
LowType s n (t.Ref d) = (k : ℕ) → class_block s.tables d ≡ Some k → level_of s k ≤ n
LowType s n ty = Unit {0}

abbrev pub LowResult : Source → ℕ → Option SimType → Type 0
LowResult s n None = Unit {0}
LowResult s n (Some ty) = LowType s n ty

-- nor is the type of what is declared, or of what it gives
abbrev pub LowEntry : Source → ℕ → Entry → Type 0
LowEntry s n (entry.Variable ty) = LowType s n ty
LowEntry s n (entry.Constant ty) = LowType s n ty
LowEntry s n (entry.Array ty dimensions) = LowType s n ty
LowEntry s n (entry.Procedure result k) = LowResult s n result
LowEntry s n (entry.Virtual result own) = LowResult s n result
LowEntry s n (entry.Formal f) = LowResult s n f.ty
LowEntry s n (entry.Attribute name parameter result) = LowResult s n result
LowEntry s n _ = Unit {0}

pub plain_low : (s : Source) (n : ℕ) (ty : SimType) → PlainType ty → LowType s n ty
plain_low s n t.Integer p = tt
plain_low s n t.Boolean p = tt
plain_low s n t.Character p = tt
plain_low s n t.Text p = tt
plain_low s n (t.Ref d) p = absurd p
plain_low s n t.NoneType p = absurd p

-- where the class of each type is so
module _ (s : Source) (n : ℕ) (d : DeclNo) (one : (class : DeclNo) → TypeStands s d class → LowType s n (t.Ref class)) where
  low_type : (ty : SimType) → TypeIn s d ty → LowType s n ty
  low_type (t.Ref class) stands = one class stands
  low_type t.Integer stands = tt
  low_type t.Boolean stands = tt
  low_type t.Character stands = tt
  low_type t.Text stands = tt
  low_type t.NoneType stands = tt

  pub low_result : (o : Option SimType) → ResultIn s d o → LowResult s n o
  low_result None stands = tt
  low_result (Some ty) stands = low_type ty stands

  low_entry : (e : Entry) → ProperEntry s e → TypesIn s d e → LowEntry s n e
  low_entry (entry.Variable ty) p stands = low_type ty stands
  low_entry (entry.Constant ty) p stands = plain_low s n ty p
  low_entry (entry.Array ty dimensions) p stands = low_type ty stands
  low_entry (entry.Procedure result k) p stands = low_result result stands
  low_entry (entry.Virtual result own) p stands = low_result result stands
  low_entry (entry.Formal f) p stands = low_result f.ty stands
  low_entry (entry.Attribute name parameter result) p stands = low_result result stands
  low_entry (entry.Class k) p stands = tt
  low_entry (entry.Unspecified w) p stands = tt

same_number : (o : Option ℕ) (a b : ℕ) → o ≡ Some a → o ≡ Some b → a ≡ b
same_number o a b e f = let z : Some a ≡ Some b = sym e ∙ f in cc

row_there : {A : Type 0} (xs : List A) (n m : ℕ) (x : A) → slice_get xs m ≡ Some x → n < m → (y : A) × (slice_get xs n ≡ Some y)
row_there xs n m x at lt = let le : m < length xs = slice_get_within xs m x at in go xs n (omega (arith, lt, le))
  where
    go : {A : Type 0} (xs : List A) (n : ℕ) → n < length xs → (y : A) × (slice_get xs n ≡ Some y)
    go [] n lt = absurd (omega (arith, lt))
    go (x ∷ xs) zero lt = (x, refl)
    go (x ∷ xs) (suc n) lt = go xs n (omega (arith, lt))

module _ (s : Source) (of : TablesOf s) (order : InOrder s.program) (g : TablesAgree s) (known : Tabled s) (second : second_least s.tables ≡ None) where
  -- ---- levels

  outward : (t u : ℕ) → encloser s.tables t ≡ Some u → (level_of s u ≤ level_of s t) × (level_of s t ≤ suc (level_of s u))
  outward t u e = go (is_connection (text s t)) refl
    where
      go : (c : Bool) → is_connection (text s t) ≡ c → (level_of s u ≤ level_of s t) × (level_of s t ≤ suc (level_of s u))
      go true is = let same = g.levels_of_connections t u is e in (omega (arith, same), omega (arith, same))
      go false is = let same = g.levels t u is e in (omega (arith, same), omega (arith, same))

  pub around_level : {t u : ℕ} → Around s.tables t u → level_of s u ≤ level_of s t
  around_level itself = omega arith
  around_level (further {t = t} {u = v} e way) = let one = (outward t v e).0 in let rest = around_level way in omega (arith, one, rest)

  same_level : (k u : ℕ) → is_connection (text s k) ≡ false → has_level s.tables k u ≡ true → level_of s k ≡ level_of s u
  same_level k u solid level = level_number s g.prefixes g.levels g.levels_of_connections k u solid level

  stands_solid : (d : DeclNo) (e : Entry) → entry_of s.tables d ≡ Some e → is_connection (text s (block_of s d)) ≡ false
  stands_solid d e there = go (is_connection (text s (block_of s d))) refl
    where
      go : (c : Bool) → is_connection (text s (block_of s d)) ≡ c → is_connection (text s (block_of s d)) ≡ false
      go false is = is
      go true is =
          let r = tables.entry_row s of order d e there in
          absurd (tables.nothing_stands_in_connections s of order (block_of s d) is d (r.0, r.1, sym (tables.block_is s of order d r.0 r.1)))

  class_solid : (d : DeclNo) (k : ℕ) → entry_of s.tables d ≡ Some (entry.Class k) → is_connection (text s k) ≡ false
  class_solid d k e = no_connection (text s k) (g.classes d k e).0.is

  class_level : (d : DeclNo) (k : ℕ) → entry_of s.tables d ≡ Some (entry.Class k) → level_of s k ≡ suc (level_of s (block_of s d))
  class_level d k e = g.levels k (block_of s d) (class_solid d k e) (g.classes d k e).0.around

  -- a class that an identifier denotes in a text is of the level of those that are declared there, or of a lesser one
  pub named_level : (token u : ℕ) (name : List ℕ) (d : DeclNo) (k : ℕ) → block_at s.tables token ≡ Some u → binding s.tables token name ≡ Some (denotation.Declared d) → entry_of s.tables d ≡ Some (entry.Class k) → level_of s k ≤ suc (level_of s u)
  named_level token u name d k placed binds e =
      let f = known.around token u name d placed binds in
      let solid = known.outside token f.found name d k binds e f.at in
      let level : has_level s.tables f.found (block_of s d) ≡ true = subst (λ c. FoundThrough s c f.found (block_of s d)) solid f.through in
      let own = class_level d k e in
      let same = same_level f.found (block_of s d) solid level in
      let le = around_level f.around in
      omega (arith, own, same, le)

  -- ---- the class of the type of a declaration

  open_type : (d : DeclNo) → is_connection (text s (block_of s d)) ≡ false → (class : DeclNo) → TypeStands s d class → LowType s (suc (level_of s (block_of s d))) (t.Ref class)
  open_type d solid class (written token name placed binds) = λ k e. named_level token (block_of s d) name class k placed binds (row_class s.tables class k e)
  open_type d solid class (beside k' block c out home) = λ k e. (
      let same : k' ≡ k = same_number (class_block s.tables class) k' k c e in
      let one = g.levels k block (class_solid class k (row_class s.tables class k e)) (subst (λ z. encloser s.tables z ≡ Some block) same out) in
      let other = g.levels (block_of s d) block solid home in
      omega (arith, one, other))
  open_type d solid class (inside k' name parameter result c out there is) = λ k e. (
      let same : k' ≡ k = same_number (class_block s.tables class) k' k c e in
      let one = g.levels k (block_of s d) (class_solid class k (row_class s.tables class k e)) (subst (λ z. encloser s.tables z ≡ Some (block_of s d)) same out) in
      omega (arith, one))

  -- no class is found in the block of a declaration itself
  abbrev pub NoClass : DeclNo → Type 0
  NoClass d = (token : ℕ) (name : List ℕ) (class : DeclNo) (k : ℕ) → binding s.tables token name ≡ Some (denotation.Declared class) → entry_of s.tables class ≡ Some (entry.Class k) → has_level s.tables (block_of s d) (block_of s class) ≡ true → ⊥

  -- and it is no attribute of `simulation` itself
  abbrev pub NoSimulation : DeclNo → Type 0
  NoSimulation d = (name : Standard) (parameter result : Option SimType) → entry_of s.tables d ≡ Some (entry.Attribute name parameter result) → is_simulation_name name ≡ true → ⊥

  pub closed_type : (d : DeclNo) → is_connection (text s (block_of s d)) ≡ false → NoClass d → NoSimulation d → (class : DeclNo) → TypeStands s d class → LowType s (level_of s (block_of s d)) (t.Ref class)
  closed_type d solid none never class (written token name placed binds) = λ k e. (
      let there = row_class s.tables class k e in
      let f = known.around token (block_of s d) name class placed binds in
      let other = known.outside token f.found name class k binds there f.at in
      let level : has_level s.tables f.found (block_of s class) ≡ true = subst (λ c. FoundThrough s c f.found (block_of s class)) other f.through in
      let own = class_level class k there in
      let same = same_level f.found (block_of s class) other level in
      let le = beyond f.found f.around (λ itself. none token name class k binds there (subst (λ z. has_level s.tables z (block_of s class) ≡ true) itself level)) in
      omega (arith, own, same, le))
    where
      beyond : (found : ℕ) → Around s.tables (block_of s d) found → (found ≡ block_of s d → ⊥) → suc (level_of s found) ≤ level_of s (block_of s d)
      beyond found itself never = absurd (never refl)
      beyond found (further {u = v} out way) never = let one = g.levels (block_of s d) v solid out in let rest = around_level way in omega (arith, one, rest)
  closed_type d solid none never class (beside k' block c out home) = λ k e. (
      let same : k' ≡ k = same_number (class_block s.tables class) k' k c e in
      let one = g.levels k block (class_solid class k (row_class s.tables class k e)) (subst (λ z. encloser s.tables z ≡ Some block) same out) in
      let other = g.levels (block_of s d) block solid home in
      omega (arith, one, other))
  closed_type d solid none never class (inside k' name parameter result c out there is) = absurd (never name parameter result there is)

  -- nothing in the levels of a class without classes has a class
  pub without_classes : (c : ℕ) (d : DeclNo) → is_connection (text s c) ≡ false → has_level s.tables c (block_of s d) ≡ true → has_classes s.tables c ≡ false → NoClass d
  unfolding has_level has_classes
  without_classes c d solid level none = λ token name class k binds e inner. (
      let whole = level_both s known c (block_of s d) (block_of s class) solid level inner in
      false≢true (sym none ∙ some_holds s.tables (length s.tables.blocks) c (block_of s class) (holds_class s.tables) (found_class_held s of order token name class k binds e) whole))

  types_in : (d : DeclNo) (e : Entry) → entry_of s.tables d ≡ Some e → TypesIn s d e
  types_in = types_stand s of order second known.outside

  -- behind a dot, or through a connection
  pub remote_low : (c n : ℕ) (d : DeclNo) (e : Entry) → entry_of s.tables d ≡ Some e → is_class (text s c) ≡ true → has_level s.tables c (block_of s d) ≡ true → has_classes s.tables c ≡ false → NoSimulation d → level_of s c ≤ n → LowEntry s n e
  remote_low c n d e there class level none never low =
      let solid = no_connection (text s c) class in
      let same = same_level c (block_of s d) solid level in
      low_entry s n d (λ x stands k is. (let le = closed_type d (stands_solid d e there) (without_classes c d solid level none) never x stands k is in omega (arith, le, same, low))) e (known.proper d e there) (types_in d e there)

  -- ---- what is found in a text

  -- the class that is connected is no deeper
  abbrev pub ConnectsNear : ℕ → Type 0
  ConnectsNear u = (k c : ℕ) → Around s.tables u k → is_connection (text s k) ≡ true → base s.tables k ≡ Some c → level_of s c ≤ suc (level_of s k)

  pub found_low : (u : ℕ) → ConnectsNear u → (token : ℕ) (name : List ℕ) (d : DeclNo) → block_at s.tables token ≡ Some u → binding s.tables token name ≡ Some (denotation.Declared d) → (e : Entry) → entry_of s.tables d ≡ Some e → LowEntry s (suc (level_of s u)) e
  found_low u near token name d placed binds e there = let f = known.around token u name d placed binds in go f.found f.around (is_connection (text s f.found)) refl f.through
    where
      go : (b : ℕ) → Around s.tables u b → (c : Bool) → is_connection (text s b) ≡ c → FoundThrough s c b (block_of s d) → LowEntry s (suc (level_of s u)) e
      go b way false is level =
          let same = same_level b (block_of s d) is level in
          let le = around_level way in
          low_entry s (suc (level_of s u)) d (λ x stands k e. (let one = open_type d (stands_solid d _ there) x stands k e in omega (arith, one, same, le))) e (known.proper d e there) (types_in d e there)
      go b way true is q =
          let low = near b q.0 way is q.1 in
          let le = around_level way in
          let none = known.connected b q.0 is q.1 in
          remote_low q.0 (suc (level_of s u)) d e there (known.connects b q.0 q.1) q.2 none
          (λ name' w result at sim. false≢true (sym none ∙ level_classes s.tables q.0 (block_of s d) q.2 (known.simulates token name d name' w result binds at sim))) (omega (arith, low, le))

  -- ---- a text around is on each level between

  top_level : (u : ℕ) → encloser s.tables u ≡ None → level_of s u ≤ 1
  unfolding level_of
  top_level u none = go (slice_get s.tables.blocks u) refl
    where
      go : (o : Option BlockOf) → slice_get s.tables.blocks u ≡ o → level_in (slice_get s.tables.blocks u) ≤ 1
      go None at = let e = ap level_in at in omega (arith, e)
      go (Some row) at = let e : level_in (slice_get s.tables.blocks u) ≡ 1 = tables.top_level s of order u row at none in omega (arith, e)

  -- what has a declaration is on some level
  some_level : (d : DeclNo) (k : ℕ) → entry_of s.tables d ≡ Some (entry.Class k) → 1 ≤ level_of s (block_of s d)
  unfolding encloser
  some_level d k e =
      let b = block_of s d in
      let out = (g.classes d k e).0.around in
      go (encloser s.tables (block_of s d)) refl (row (slice_get s.tables.blocks k) refl out)
    where
      row : (o : Option BlockOf) → slice_get s.tables.blocks k ≡ o → around o ≡ Some (block_of s d) → (x : BlockOf) × (slice_get s.tables.blocks (block_of s d) ≡ Some x)
      row None at out = absurd (cc)
      row (Some x) at out = row_there s.tables.blocks (block_of s d) k x at (g.nesting k (block_of s d) (g.classes d k e).0.around)

      go : (o : Option ℕ) → encloser s.tables (block_of s d) ≡ o → (x : BlockOf) × (slice_get s.tables.blocks (block_of s d) ≡ Some x) → 1 ≤ level_of s (block_of s d)
      go (Some u) out x = let one = g.levels (block_of s d) u (stands_solid d (entry.Class k) e) out in omega (arith, one)
      go None out x = let one = tables.top_level s of order (block_of s d) x.0 x.1 out in omega (arith, one)

  abbrev SameAround : (u b : ℕ) → Type 0
  SameAround u b = (v : ℕ) × Around s.tables u v × (level_of s b ≡ level_of s v)

  step : (u b : ℕ) → ((v : ℕ) → encloser s.tables u ≡ Some v → level_of s b ≤ level_of s v → SameAround v b) → 1 ≤ level_of s b → level_of s b ≤ level_of s u → SameAround u b
  step u b deep some low = go (nat_eq (level_of s b) (level_of s u)) refl
    where
      outside : level_of s b < level_of s u → (o : Option ℕ) → encloser s.tables u ≡ o → SameAround u b
      outside lt None out = absurd (let one = top_level u out in omega (arith, one, some, lt))
      outside lt (Some v) out =
          let one = (outward u v out).1 in
          let r = deep v out (omega (arith, lt, one)) in (r.0, further out r.1, r.2)

      go : (c : Bool) → nat_eq (level_of s b) (level_of s u) ≡ c → SameAround u b
      go true e = (u, itself, (let same : level_of s b ≡ level_of s u = grind (arith, nat_tests, e) in same))
      go false e = outside (let lt : level_of s b < level_of s u = grind (arith, nat_tests, e, low) in lt) (encloser s.tables u) refl

  climb : (n u b : ℕ) → u ≤ n → 1 ≤ level_of s b → level_of s b ≤ level_of s u → SameAround u b
  climb zero u b le some low = step u b (λ v out inner. absurd (let less = g.nesting u v out in omega (arith, less, le))) some low
  climb (suc n) u b le some low = step u b (λ v out inner. (let less = g.nesting u v out in climb n v b (omega (arith, less, le)) some inner)) some low

  -- so a class that is no deeper than those that are declared in a text is of the level of those that are declared in it or in one around
  pub reached : (u : ℕ) (d : DeclNo) (c : IsClass s d) → level_of s c.block ≤ suc (level_of s u) → (v : ℕ) × Around s.tables u v × (level_of s c.block ≡ suc (level_of s v))
  reached u d c low =
      let own = class_level d c.block c.declares in
      let r = climb u u (block_of s d) (omega arith) (some_level d c.block c.declares) (omega (arith, own, low)) in
      (r.0, r.1, own ∙ ap suc r.2)
