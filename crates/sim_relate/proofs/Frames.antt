-- The text in whose frames lies what a text has.
use Rattle.std.proofs.Common.{◌≡◌, ◌<◌, ◌≤◌, ℕ, zero, suc, Bool, true, false, List, [], ◌∷◌, ◌++◌, length, Option, Some, None, refl, sym, ap, ◌∙◌, subst, arith}
use Rattle.std.specs.Prelude.{◌==◌, ◌&&◌, if◌then◌else◌}
use Rattle.sim_scope.specs.Access.{encloser}
use Rattle.sim_scope.specs.Source.{Source, level_of}
use Rattle.sim_scope.specs.Tables.{BlockOf}
use Rattle.sim_meaning.specs.Attributes.{is_connection as is_connection_text}
use Rattle.sim_meaning.specs.Entries.{first_cells}
use Rattle.sim_meaning.specs.Levels.{is_process_class, is_process_itself, is_standard_text}
use Rattle.sim_meaning.specs.Pending.{Connection, Declared, Held, Instances, Key, Origin, Result}
use Rattle.sim_meaning.specs.Texts.{BlockText, ClassText, ConnectionText, PrefixedText, ProcedureText, StandardText, Text, text}
use Rattle.codegen_expr.specs.Sites.{HasCell, LevelOf, cells_in, frame_text, frame_within, hidden_before, hidden_from, hidden_in, is_connected, is_connection, origin_in, outward_or, own_part, place_of}
use Rattle.codegen.specs.Agrees.{Agrees}
use Rattle.sim_relate.proofs.Known.{SameFrame, Stands, inside, is_declared, outermost}

pub bool_cases : {A : Type 0} (b : Bool) → (b ≡ true → A) → (b ≡ false → A) → A
bool_cases true f g = f refl
bool_cases false f g = g refl

if_both : {A : Type 0} (b : Bool) (x y z : A) → x ≡ z → y ≡ z → (if b then x else y) ≡ z
if_both true x y z e f = e
if_both false x y z e f = f

if_then : {A : Type 0} (b : Bool) (x y : A) → b ≡ true → (if b then x else y) ≡ x
if_then true x y e = refl
if_then false x y e = absurd (cc)

if_else : {A : Type 0} (b : Bool) (x y : A) → b ≡ false → (if b then x else y) ≡ y
if_else true x y e = absurd (cc)
if_else false x y e = refl

outward_none : (f : ℕ → ℕ) (k : ℕ) (o : Option ℕ) → ((u : ℕ) → o ≡ Some u → ⊥) → outward_or f k o ≡ k
outward_none f k None h = refl
outward_none f k (Some u) h = absurd (h u refl)

outward_same : (f g : ℕ → ℕ) (k : ℕ) (o : Option ℕ) → ((u : ℕ) → o ≡ Some u → f u ≡ g u) → outward_or f k o ≡ outward_or g k o
outward_same f g k None h = refl
outward_same f g k (Some u) h = h u refl

module _ (s : Source) (agrees : Agrees s) where
  not_below : (u : ℕ) → encloser s.tables 0 ≡ Some u → ⊥
  not_below u e = let lt = agrees.nesting 0 u e in omega (arith, lt)

  none_more : (n : ℕ) → frame_within (suc n) s.tables 0 ≡ 0
  none_more n = if_both (is_connected s.tables 0) (outward_or (frame_within n s.tables) 0 (encloser s.tables 0)) 0 0 (outward_none (frame_within n s.tables) 0 (encloser s.tables 0) not_below) refl

  enough : (n m k : ℕ) → k ≤ n → k ≤ m → frame_within n s.tables k ≡ frame_within m s.tables k
  enough zero zero k a b = refl
  enough zero (suc m) zero a b = sym (none_more m)
  enough zero (suc m) (suc k) a b = absurd (omega (arith, a))
  enough (suc n) zero zero a b = none_more n
  enough (suc n) zero (suc k) a b = absurd (omega (arith, b))
  enough (suc n) (suc m) k a b =
      ap (λ z. if is_connected s.tables k then z else k) (outward_same (frame_within n s.tables) (frame_within m s.tables) k (encloser s.tables k) (λ u e.
      let lt = agrees.nesting k u e in
      enough n m u (omega (arith, lt, a)) (omega (arith, lt, b))))

  pub frame_self : (k : ℕ) → is_connected s.tables k ≡ false → frame_text s k ≡ k
  unfolding frame_text
  frame_self zero e = refl
  frame_self (suc k) e = if_else (is_connected s.tables (suc k)) (outward_or (frame_within k s.tables) (suc k) (encloser s.tables (suc k))) (suc k) e

  pub frame_out : (k u : ℕ) → is_connected s.tables k ≡ true → encloser s.tables k ≡ Some u → frame_text s k ≡ frame_text s u
  unfolding frame_text
  frame_out zero u c e = absurd (not_below u e)
  frame_out (suc k) u c e =
      let lt = agrees.nesting (suc k) u e in
      let le : u ≤ k = omega (arith, lt) in
      let same : u ≤ u = omega arith in
      if_then (is_connected s.tables (suc k)) (outward_or (frame_within k s.tables) (suc k) (encloser s.tables (suc k))) (suc k) c ∙ ap (outward_or (frame_within k s.tables) (suc k)) e ∙ enough k u u le same

  pub frame_alone : (k : ℕ) → encloser s.tables k ≡ None → frame_text s k ≡ k
  unfolding frame_text
  frame_alone zero e = refl
  frame_alone (suc k) e = if_both (is_connected s.tables (suc k)) (outward_or (frame_within k s.tables) (suc k) (encloser s.tables (suc k))) (suc k) (suc k) (ap (outward_or (frame_within k s.tables) (suc k)) e) refl

  idem_at : (n k : ℕ) (b : Bool) (o : Option ℕ) → is_connected s.tables k ≡ b → encloser s.tables k ≡ o → k ≤ n → (frame_text s (frame_text s k) ≡ frame_text s k) × (level_of s (frame_text s k) ≡ level_of s k)
  idem_at n k false o c e le = let f = frame_self k c in (ap (frame_text s) f, ap (level_of s) f)
  idem_at n k true None c e le = let f = frame_alone k e in (ap (frame_text s) f, ap (level_of s) f)
  idem_at zero k true (Some u) c e le = let lt = agrees.nesting k u e in absurd (omega (arith, lt, le))
  idem_at (suc n) k true (Some u) c e le =
      let lt = agrees.nesting k u e in
      let more = idem_at n u (is_connected s.tables u) (encloser s.tables u) refl refl (omega (arith, lt, le)) in
      let f = frame_out k u c e in
      (ap (frame_text s) f ∙ more.0 ∙ sym f, ap (level_of s) f ∙ more.1 ∙ sym (agrees.same_level k u e c))

  pub frame_idem : (k : ℕ) → frame_text s (frame_text s k) ≡ frame_text s k
  frame_idem k = let same : k ≤ k = omega arith in (idem_at k k (is_connected s.tables k) (encloser s.tables k) refl refl same).0

  pub frame_level : (k : ℕ) → level_of s (frame_text s k) ≡ level_of s k
  frame_level k = let same : k ≤ k = omega arith in (idem_at k k (is_connected s.tables k) (encloser s.tables k) refl refl same).1

  -- ---- what has a declared cell is no connection

  no_cells : (k : ℕ) (o : Option Text) → is_connection_text o ≡ true → cells_in s k o ≡ []
  unfolding first_cells
  no_cells k None e = refl
  no_cells k (Some (BlockText begin ds ss)) e = absurd (cc)
  no_cells k (Some (ProcedureText result h a)) e = absurd (cc)
  no_cells k (Some (ClassText prefix h ds ss)) e = absurd (cc)
  no_cells k (Some (PrefixedText class arguments ds ss)) e = absurd (cc)
  no_cells k (Some ConnectionText) e = refl
  no_cells k (Some (StandardText which)) e = absurd (cc)

  hidden_one : (key : Key) (c : Bool) (b : BlockOf) (hs : List Held) → is_declared key ≡ true → place_of key hs ≡ length hs → place_of key (hidden_before c b hs) ≡ length (hidden_before c b hs)
  hidden_one (Declared d) true b hs e f = ap suc f
  hidden_one Result true b hs e f = ap suc f
  hidden_one (Connection token) true b hs e f = absurd (cc)
  hidden_one Origin true b hs e f = ap suc f
  hidden_one key false b hs e f = f

  -- an origin is in `process` itself alone
  origin_missing : (key : Key) → is_declared key ≡ true → (c : Bool) → (key ≡ Origin → c ≡ false) → place_of key (origin_in c) ≡ length (origin_in c)
  origin_missing key e false f = refl
  origin_missing (Declared d) e true f = refl
  origin_missing Result e true f = refl
  origin_missing (Connection token) e true f = absurd (cc (e))
  origin_missing Origin e true f = absurd (cc (f refl))

  pub hidden_missing : (key : Key) → is_declared key ≡ true → (k n : ℕ) → (key ≡ Origin → is_process_itself s k ≡ false) → (bs : List BlockOf) → place_of key (hidden_from s k n bs) ≡ length (hidden_from s k n bs)
  hidden_missing key e k n f [] = origin_missing key e (is_process_itself s k) f
  hidden_missing key e k n f (b ∷ bs) = hidden_one key (is_connection b.kind && frame_text s n == k) b (hidden_from s k (suc n) bs) e (hidden_missing key e k (suc n) f bs)

  no_process : (o : Option Text) → is_connection_text o ≡ true → is_standard_text is_process_class o ≡ false
  no_process None e = refl
  no_process (Some (BlockText begin ds ss)) e = refl
  no_process (Some (ProcedureText result h a)) e = refl
  no_process (Some (ClassText prefix h ds ss)) e = refl
  no_process (Some (PrefixedText class arguments ds ss)) e = refl
  no_process (Some ConnectionText) e = refl
  no_process (Some (StandardText which)) e = absurd (cc (e))

  connection_itself : (k : ℕ) → is_connection_text (text s k) ≡ true → is_process_itself s k ≡ false
  unfolding is_process_itself
  connection_itself k e = no_process (text s k) e

  pub own_frame : (k : ℕ) (key : Key) → HasCell s k key → is_declared key ≡ true → frame_text s k ≡ k
  unfolding hidden_in
  own_frame k key has e =
      bool_cases (is_connected s.tables k)
      (λ c. let none = no_cells k (text s k) (sym (agrees.connected k) ∙ c) in
      let part : own_part s k ≡ hidden_in s k = ap (λ z. z ++ hidden_in s k) none in
      let missing = hidden_missing key e k 0 (λ same. connection_itself k (sym (agrees.connected k) ∙ c)) s.tables.blocks in
      let lt : place_of key (hidden_in s k) < length (hidden_in s k) = subst (λ z. place_of key z < length z) part has in
      absurd (omega (arith, missing, lt)))
      (λ c. frame_self k c)

-- ---- texts with the same frames

pub same_frame : (s : Source) (t : ℕ) → SameFrame s t t
same_frame s t = record { frame = refl; level = refl }

pub frame_trans : (s : Source) (a b c : ℕ) → SameFrame s a b → SameFrame s b c → SameFrame s a c
frame_trans s a b c p q = record { frame = p.frame ∙ q.frame; level = p.level ∙ q.level }

pub stands_same : (s : Source) (m : Instances) (j v t : ℕ) → SameFrame s v t → Stands s m j t → Stands s m j v
stands_same s m j v t f (outermost {x = x} is levels level rooted around) = outermost is (subst (LevelOf s.tables x.text) (sym f.frame) levels) (level ∙ sym f.level) rooted (ap (encloser s.tables) f.frame ∙ around)
stands_same s m j v t f (inside {x = x} is levels level out around before more) = inside is (subst (LevelOf s.tables x.text) (sym f.frame) levels) (level ∙ sym f.level) out (ap (encloser s.tables) f.frame ∙ around) before more
