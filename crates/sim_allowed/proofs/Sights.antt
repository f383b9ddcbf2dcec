-- What is seen from where an expression stands.
use Rattle.std.proofs.Common.{◌≡◌, ℕ, Bool, true, false, length, Option, Some, None, refl, sym, ap, ◌∙◌, subst, if◌then◌else◌}
use Rattle.std.proofs.lemmas.Bool.{false≢true}
use Rattle.std.specs.Prelude.{◌&&◌, List, not, slice_get}
use Rattle.sim_base.specs.declared.numbering.DeclNo.{DeclNo}
use Rattle.sim_scope.specs.declared.outcome.Extent.{Extent}
use Rattle.sim_scope.specs.declared.outcome.Extent.TheVariants as extent
use Rattle.sim_scope.specs.declared.scopes.Declaration.{Declaration}
use Rattle.sim_scope.specs.declared.scopes.Denotation.TheVariants as denotation
use Rattle.sim_scope.specs.declared.types.Entry.{Entry}
use Rattle.sim_scope.specs.declared.types.Entry.TheVariants as entry
use Rattle.sim_scope.specs.Access.{block_at}
use Rattle.sim_scope.specs.Calls.{barred_declaration, is_barred, is_fixed, is_own_level}
use Rattle.sim_scope.specs.Levels.{has_level}
use Rattle.sim_scope.specs.Scopes.{binding, entry_in, entry_of, found_in}
use Rattle.sim_scope.specs.Source.{Source, block_of, block_of_row, found_at}
use Rattle.sim_code.specs.Simulations.{is_simulation_name}
use Rattle.sim_meaning.specs.Attributes.{connection_at, connection_in, is_connection, is_standard_attribute}
use Rattle.sim_meaning.specs.Levels.{has_levels, is_class}
use Rattle.sim_meaning.specs.Texts.{text}
use Rattle.sim_sound.specs.Held.{Around, In, InBound, IsFixed, Place, Refers, StandsAround, from_around, further, itself, own_fixed, text_of}
use Rattle.sim_sound.specs.Expressions.{KnownAt, OwnKnown, OwnNameGives, SimulationKnown, ThisFound, ThisIs}
use Rattle.sim_agree.specs.Facts.{FoundThrough, Tabled}
use Rattle.sim_allowed.proofs.Classes.{level_reached, levels_here, own_level}
use Rattle.sim_allowed.proofs.Simulations.{AttributeThere, EitherAttribute, attribute_there, either_attribute, never_connected, of_class}

-- An attribute that is seen without a connection is one of `simulation` itself, or of the object around.
abbrev pub OwnHere : Source → Place → (token : ℕ) → DeclNo → Option Entry → Type 0
OwnHere s from token d (Some (entry.Attribute name w result)) = OwnNameGives (is_simulation_name name) (SimulationKnown s from token d) (OwnKnown s from token d)
OwnHere s from token d _ = Unit {0}

abbrev pub OwnSeen : Source → Place → (token : ℕ) → DeclNo → Type 0
OwnSeen s from token d = is_standard_attribute (entry_of s.tables d) ≡ true → connection_at s token ≡ None → OwnHere s from token d (entry_of s.tables d)

-- and through a connection none of `simulation` itself is
abbrev pub ThroughSeen : Source → (token : ℕ) → DeclNo → Type 0
ThroughSeen s token d = (k : ℕ) → connection_at s token ≡ Some k → AttributeThere (entry_of s.tables d)

-- what is used is seen where it is found
abbrev pub Sight : Source → Place → Extent → Type 0
Sight s from x = (token : ℕ) (name : List ℕ) (d : DeclNo) → block_at s.tables token ≡ Some (text_of from) → binding s.tables token name ≡ Some (denotation.Declared d) → is_barred s.tables x token (denotation.Declared d) ≡ false
    → ((block : ℕ) → found_in s.tables token name ≡ Some block → found_at s token ≡ Some block) → KnownAt s from (connection_at s token) d × OwnSeen s from token d × ThroughSeen s token d

-- ---- standard attributes

-- the object in which it is found has its class among its levels
own_known : (s : Source) → Tabled s → (from : Place) (token : ℕ) (d : DeclNo) (b : ℕ) → found_at s token ≡ Some b → is_connection (text s b) ≡ false → StandsAround s from b → has_level s.tables b (block_of s d) ≡ true → is_class (text s (block_of s d)) ≡ true
    → OwnKnown s from token d
unfolding has_level
own_known s known from token d b at other stands level class =
    let k = block_of s d in (
      k,
      class,
      own_level s.tables k known.some_block,
      subst (λ z. ThisFound s from z (Refers k)) (sym at)
          (subst (λ z. ThisIs s from z (has_levels (text s b)) b (Refers k)) (sym other)
          (subst (λ z. ThisIs s from false z b (Refers k)) (sym (levels_here s known b k other class (level_reached s.tables (length s.tables.blocks) b k level))) (stands, level))),
    )

-- an attribute that is found in a text around that is no connection
own_here : (s : Source) → Tabled s → (from : Place) (token : ℕ) (name : List ℕ) (d : DeclNo) → binding s.tables token name ≡ Some (denotation.Declared d) → (b : ℕ) → found_at s token ≡ Some b → is_connection (text s b) ≡ false → StandsAround s from b → has_level s.tables b (block_of s d) ≡ true
    → OwnHere s from token d (entry_of s.tables d)
own_here s known from token name d binds b at other stands level = go (entry_of s.tables d) refl (either_attribute s known d)
  where
    go : (o : Option Entry) → entry_of s.tables d ≡ o → EitherAttribute o → OwnHere s from token d o
    go (Some (entry.Attribute n w result)) there a = test (is_simulation_name n) refl
      where
        test : (c : Bool) → is_simulation_name n ≡ c → OwnNameGives c (SimulationKnown s from token d) (OwnKnown s from token d)
        test true is = record { found = b; is_found = at; around = stands; solid = other; level = level; simulates = known.simulates token name d n w result binds there is }
        test false is = own_known s known from token d b at other stands level (known.attribute_owners d n w result there (of_class n a is))
    go (Some (entry.Variable type)) there a = tt
    go (Some (entry.Constant type)) there a = tt
    go (Some (entry.Array type n)) there a = tt
    go (Some (entry.Procedure result n)) there a = tt
    go (Some (entry.Class n)) there a = tt
    go (Some (entry.Virtual result own)) there a = tt
    go (Some (entry.Formal f)) there a = tt
    go (Some (entry.Unspecified w)) there a = tt
    go None there a = tt

-- one that is found in a connection
through_here : (s : Source) → Tabled s → (token : ℕ) (name : List ℕ) (d : DeclNo) → binding s.tables token name ≡ Some (denotation.Declared d) → (b : ℕ) → found_at s token ≡ Some b → FoundThrough s (is_connection (text s b)) b (block_of s d) → ThroughSeen s token d
unfolding connection_at
through_here s known token name d binds b at through k e = go (is_connection (text s b)) refl through
  where
    go : (c : Bool) → is_connection (text s b) ≡ c → FoundThrough s c b (block_of s d) → AttributeThere (entry_of s.tables d)
    go false is level = absurd (let z : None ≡ Some k = sym (ap (connection_in s) at ∙ ap (λ z. if z then Some b else None) is) ∙ e in cc)
    go true is t = attribute_there s known d (λ n w result simulation there. never_connected s known b t.0 (block_of s d) is t.1 t.2 (known.simulates token name d n w result binds there simulation))

-- what is found through a connection is seen through it
not_connected : (s : Source) (token b : ℕ) → found_at s token ≡ Some b → is_connection (text s b) ≡ true → connection_at s token ≡ None → ⊥
unfolding connection_at
not_connected s token b at is none = cc (ap (connection_in s) at, ap (λ z. if z then Some b else None) is)

pub statement_sight : (s : Source) → Tabled s → (k : ℕ) → Sight s (In k) extent.Statement
unfolding connection_at
statement_sight s known k token name d placed binds open_to found =
    let f = known.around token k name d placed binds in
    let at = found f.found f.at in (
      subst (λ z. KnownAt s (In k) (connection_in s z) d) (sym at) (go f.found f.around (is_connection (text s f.found)) refl f.through),
      (λ e none. own e none f.found at f.around (is_connection (text s f.found)) refl f.through),
      through_here s known token name d binds f.found at f.through,
    )
  where
    go : (b : ℕ) → Around s.tables k b → (c : Bool) → is_connection (text s b) ≡ c → FoundThrough s c b (block_of s d) → KnownAt s (In k) (if c then Some b else None) d
    go b around true is t = record { around = around; is = is; class = t.0; is_class = known.connects b t.0 t.1; connects = t.1; level = t.2 }
    go b around false is level = record { found = b; around = around; instance = is; level = level }

    own : is_standard_attribute (entry_of s.tables d) ≡ true → connection_at s token ≡ None → (b : ℕ) → found_at s token ≡ Some b → Around s.tables k b → (c : Bool) → is_connection (text s b) ≡ c → FoundThrough s c b (block_of s d) → OwnHere s (In k) token d (entry_of s.tables d)
    own e none b at around true is t = absurd (not_connected s token b at is none)
    own e none b at around false is level = own_here s known (In k) token name d binds b at is around level

-- what a bound uses of its own text is a formal parameter or a constant
own_is_fixed : (s : Source) (k token : ℕ) (d : DeclNo) → block_at s.tables token ≡ Some k → is_barred s.tables extent.Bound token (denotation.Declared d) ≡ false → has_level s.tables k (block_of s d) ≡ true
    → (e : Entry) → entry_of s.tables d ≡ Some e → IsFixed (entry_of s.tables d)
unfolding is_barred entry_of block_of
own_is_fixed s k token d placed open_to level e there = go (slice_get s.tables.declarations d.0) open_to level there
  where
    negated : (b : Bool) → not b ≡ false → b ≡ true
    negated true e = refl
    negated false e = absurd (false≢true (sym e))

    of_entry : (x : Entry) → is_fixed x ≡ true → IsFixed (Some x)
    of_entry (entry.Formal f) e = tt
    of_entry (entry.Constant type) e = tt
    of_entry (entry.Variable type) e = absurd (false≢true e)
    of_entry (entry.Array type n) e = absurd (false≢true e)
    of_entry (entry.Procedure result n) e = absurd (false≢true e)
    of_entry (entry.Class n) e = absurd (false≢true e)
    of_entry (entry.Virtual result own) e = absurd (false≢true e)
    of_entry (entry.Unspecified w) e = absurd (false≢true e)
    of_entry (entry.Attribute name w result) e = absurd (false≢true e)

    go : (row : Option Declaration) → barred_declaration s.tables token row ≡ false → has_level s.tables k (block_of_row row) ≡ true → entry_in row ≡ Some e → IsFixed (entry_in row)
    go None open_to level there = absurd (cc)
    go (Some row) open_to level there =
        of_entry row.entry (negated (is_fixed row.entry) (sym (ap (λ z. is_own_level s.tables z row.block && not (is_fixed row.entry)) placed ∙ ap (λ z. z && not (is_fixed row.entry)) level) ∙ open_to))

pub bound_sight : (s : Source) → Tabled s → (k : ℕ) → is_connection (text s k) ≡ false → Sight s (InBound k) extent.Bound
unfolding connection_at
bound_sight s known k instance token name d placed binds open_to found =
    let f = known.around token k name d placed binds in
    let there = known.there token name d binds in
    let at = found f.found f.at in (
      subst (λ z. KnownAt s (InBound k) (connection_in s z) d) (sym at) (go there.0 there.1 f.found f.around (is_connection (text s f.found)) refl f.through),
      (λ e none. own there.0 there.1 e none f.found at f.around (is_connection (text s f.found)) refl f.through),
      through_here s known token name d binds f.found at f.through,
    )
  where
    go : (e : Entry) → entry_of s.tables d ≡ Some e → (b : ℕ) → Around s.tables k b → (c : Bool) → is_connection (text s b) ≡ c → FoundThrough s c b (block_of s d) → KnownAt s (InBound k) (if c then Some b else None) d
    go e there b itself true is t = absurd (false≢true (sym instance ∙ is))
    go e there b itself false is level = own_fixed (own_is_fixed s k token d placed open_to level e there) level
    go e there b (further {u = u} out a) true is t = record { around = u; stands_in = out; seen = record { around = a; is = is; class = t.0; is_class = known.connects b t.0 t.1; connects = t.1; level = t.2 } }
    go e there b (further {u = u} out a) false is level = from_around out (record { found = b; around = a; instance = is; level = level })

    -- an attribute is none of these
    no_fixed : (o : Option Entry) → is_standard_attribute o ≡ true → IsFixed o → ⊥
    no_fixed (Some (entry.Formal f)) e fixed = false≢true e
    no_fixed (Some (entry.Constant type)) e fixed = false≢true e
    no_fixed (Some (entry.Attribute name w result)) e fixed = fixed
    no_fixed (Some (entry.Variable type)) e fixed = fixed
    no_fixed (Some (entry.Array type n)) e fixed = fixed
    no_fixed (Some (entry.Procedure result n)) e fixed = fixed
    no_fixed (Some (entry.Class n)) e fixed = fixed
    no_fixed (Some (entry.Virtual result own)) e fixed = fixed
    no_fixed (Some (entry.Unspecified w)) e fixed = fixed
    no_fixed None e fixed = fixed

    own : (e : Entry) → entry_of s.tables d ≡ Some e → is_standard_attribute (entry_of s.tables d) ≡ true → connection_at s token ≡ None → (b : ℕ) → found_at s token ≡ Some b → Around s.tables k b → (c : Bool) → is_connection (text s b) ≡ c → FoundThrough s c b (block_of s d)
        → OwnHere s (InBound k) token d (entry_of s.tables d)
    own e there is_one none b at around true is t = absurd (not_connected s token b at is none)
    own e there is_one none b at itself false is level = absurd (no_fixed (entry_of s.tables d) is_one (own_is_fixed s k token d placed open_to level e there))
    own e there is_one none b at (further {u = u} out a) false is level = own_here s known (InBound k) token name d binds b at is (record { next = u; stands_in = out; around = a }) level
