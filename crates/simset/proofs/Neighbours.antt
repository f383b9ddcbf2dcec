-- the neighbours of a node are those of the definitions
use Rattle.std.proofs.Common.{◌≡◌, ◌≢◌, ℕ, suc, ◌+◌, ◌<◌, List, [], ◌∷◌, length, get_or, arith, if◌then◌else◌, true, false, refl, ap, ◌∙◌, sym, subst, ◌⊎◌, inl, inr}
use Rattle.std.specs.Prelude.{slice_get, Option, Some, None}
use Rattle.std.proofs.lemmas.Bool.Decides.{nat_tests, eqb_tells}
use Rattle.std.proofs.lemmas.Bool.{cases_eq}
use Rattle.std.proofs.lemmas.Option.{slice_get_within, slice_get-get_or}
use Rattle.simset.specs.declared.rings.Node.{Node}
use Rattle.simset.specs.Sets.{Linkage, Link, Head, times_among, times_in, is_link, is_head, is_link_at, links_in, links_of, head_from, head_of, first, last_or, after, before_or, next_link, link_before, linkage_before, suc_of, pred_of, prev_of}
use Rattle.simset.specs.Nodes.{head_at, next_at, previous_at, IsNext, Links, HoldsLinkage, IsJoined, KeepsSets, link_beside, linkage_beside}
use Rattle.simset.proofs.Keeps.{link_of}

-- ---- the list in which a number stands

pub record StandsIn (x k : ℕ) (sets : List Linkage) (h : ℕ) : Type 0 where
  pub at : ℕ
  pub number : h ≡ k + at
  pub links : List ℕ
  pub list : slice_get sets at ≡ Some (Head links)
  pub there : times_among x links ≡ 0 → ⊥

pub head_from-none : (x k : ℕ) (sets : List Linkage) → head_from x k sets ≡ None → times_in x sets ≡ 0
head_from-none x k [] e = refl
head_from-none x k (Link ∷ rest) e = head_from-none x (k + 1) rest e
head_from-none x k (Head xs ∷ rest) e = grind (arith, nat_tests, head_from-none x (k + 1) rest)

later : (x k : ℕ) (linkage : Linkage) (rest : List Linkage) (h : ℕ) → StandsIn x (k + 1) rest h
    → StandsIn x k (linkage ∷ rest) h
later x k linkage rest h s = record { at = suc s.at; number = omega (arith, s.number); links = s.links; list = s.list; there = s.there }

head_from-here : (x k : ℕ) (xs : List ℕ) (rest : List Linkage) (h : ℕ)
    → (times_among x xs ≡ 0) ⊎ (times_among x xs ≡ 0 → ⊥) → head_from x k (Head xs ∷ rest) ≡ Some h
    → (head_from x (k + 1) rest ≡ Some h → StandsIn x (k + 1) rest h) → StandsIn x k (Head xs ∷ rest) h
head_from-here x k xs rest h (inl none) e more = later x k (Head xs) rest h (more (grind (arith, nat_tests, eqb_tells (times_among x xs) 0)))
head_from-here x k xs rest h (inr some) e more = record { at = 0; number = grind (arith, nat_tests, eqb_tells (times_among x xs) 0); links = xs; list = refl; there = some }

pub head_from-some : (x k : ℕ) (sets : List Linkage) (h : ℕ) → head_from x k sets ≡ Some h → StandsIn x k sets h
head_from-some x k [] h e = absurd (cc)
head_from-some x k (Link ∷ rest) h e = later x k Link rest h (head_from-some x (k + 1) rest h e)
head_from-some x k (Head xs ∷ rest) h e = head_from-here x k xs rest h (cases_eq (times_among x xs) 0) e (λ found. head_from-some x (k + 1) rest h found)

-- ---- the neighbours in a ring

beside_link : (nodes : List Node) (x y : ℕ) → y ≢ x → head_at nodes y ≡ false → link_beside nodes x y ≡ Some y
beside_link nodes x y other link = rw link (grind (arith, nat_tests, eqb_tells y x))

beside_head : (nodes : List Node) (x y : ℕ) → head_at nodes y ≡ true → link_beside nodes x y ≡ None
beside_head nodes x y head = rw head (grind (arith, nat_tests, eqb_tells y x))

beside_itself : (nodes : List Node) (x y : ℕ) → y ≡ x → link_beside nodes x y ≡ None
beside_itself nodes x y same = grind (arith, nat_tests, eqb_tells y x)

-- a head and a link are two nodes
kinds_apart : (nodes : List Node) (x y : ℕ) → head_at nodes x ≡ true → head_at nodes y ≡ false → y ≢ x
kinds_apart nodes x y head link same = let e : head_at nodes y ≡ head_at nodes x = ap (head_at nodes) same in cc

first-ring : (nodes : List Node) (h : ℕ) (xs : List ℕ) → head_at nodes h ≡ true → Links nodes h xs h
    → first xs ≡ link_beside nodes h (next_at nodes h)
first-ring nodes h [] head l = sym (beside_itself nodes h (next_at nodes h) l.onward)
first-ring nodes h (y ∷ ys) head l = rw l.0.onward (sym (beside_link nodes h y (kinds_apart nodes h y head l.1) l.1))

last_or-Links : (nodes : List Node) (a : ℕ) (xs : List ℕ) (b : ℕ) → Links nodes a xs b
    → last_or (Some a) xs ≡ Some (previous_at nodes b)
last_or-Links nodes a [] b l = ap (λ n. Some n) (sym l.back)
last_or-Links nodes a (y ∷ ys) b l = last_or-Links nodes y ys b l.2

last_link : (nodes : List Node) (a : ℕ) (xs : List ℕ) (b : ℕ) → Links nodes a xs b → head_at nodes a ≡ false
    → head_at nodes (previous_at nodes b) ≡ false
last_link nodes a [] b l link = ap (head_at nodes) l.back ∙ link
last_link nodes a (y ∷ ys) b l link = last_link nodes y ys b l.2 l.1

last-ring : (nodes : List Node) (h : ℕ) (xs : List ℕ) → head_at nodes h ≡ true → Links nodes h xs h
    → last_or None xs ≡ link_beside nodes h (previous_at nodes h)
last-ring nodes h [] head l = sym (beside_itself nodes h (previous_at nodes h) l.back)
last-ring nodes h (y ∷ ys) head l =
    let link : head_at nodes (previous_at nodes h) ≡ false = last_link nodes y ys h l.2 l.1 in
    last_or-Links nodes y ys h l.2 ∙ sym (beside_link nodes h (previous_at nodes h) (kinds_apart nodes h (previous_at nodes h) head link) link)

-- ---- the neighbours of a link that stands in the list

-- what the nodes say of x among the links from a to b
record Beside (nodes : List Node) (x a : ℕ) (xs : List ℕ) : Type 0 where
  next : after x xs ≡ link_beside nodes x (next_at nodes x)
  previous : before_or (Some a) x xs ≡ Some (previous_at nodes x)
  not_itself : next_at nodes x ≡ x → ⊥
  link : head_at nodes a ≡ false → head_at nodes (previous_at nodes x) ≡ false

after_here : (x : ℕ) (ys : List ℕ) → after x (x ∷ ys) ≡ first ys
after_here x ys = grind (arith, nat_tests, eqb_tells x x)

after_there : (x y : ℕ) (ys : List ℕ) → y ≢ x → after x (y ∷ ys) ≡ after x ys
after_there x y ys other = grind (arith, nat_tests, eqb_tells y x)

before_here : (d : Option ℕ) (x : ℕ) (ys : List ℕ) → before_or d x (x ∷ ys) ≡ d
before_here d x ys = grind (arith, nat_tests, eqb_tells x x)

before_there : (d : Option ℕ) (x y : ℕ) (ys : List ℕ) → y ≢ x → before_or d x (y ∷ ys) ≡ before_or (Some y) x ys
before_there d x y ys other = grind (arith, nat_tests, eqb_tells y x)

first-behind : (nodes : List Node) (a x : ℕ) (ys : List ℕ) (b : ℕ) → IsNext nodes a x → Links nodes x ys b → a ≢ x
    → head_at nodes b ≡ true → head_at nodes x ≡ false
    → (first ys ≡ link_beside nodes x (next_at nodes x)) × (next_at nodes x ≡ x → ⊥)
first-behind nodes a x [] b here l other head link =
    (rw l.onward (sym (beside_head nodes x b head)), λ same. kinds_apart nodes b x head link (sym same ∙ l.onward))
first-behind nodes a x (z ∷ zs) b here l other head link =
    let apart : z ≢ x = λ same. other (sym here.back ∙ ap (previous_at nodes) (sym same) ∙ l.0.back) in
    (rw l.0.onward (sym (beside_link nodes x z apart l.1)), λ same. apart (sym l.0.onward ∙ same))

beside_at : (nodes : List Node) (x a y : ℕ) (ys : List ℕ) (b : ℕ) → (y ≡ x) ⊎ (y ≡ x → ⊥) → Links nodes a (y ∷ ys) b
    → head_at nodes b ≡ true → a ≢ x → (y ≢ x → Beside nodes x y ys) → Beside nodes x a (y ∷ ys)
beside_at nodes x a y ys b (inl same) l head other rest =
    let P : ℕ → Type 0 = λ n. Links nodes a (n ∷ ys) b in
    let moved : Links nodes a (x ∷ ys) b = subst P same l in
    let behind : (first ys ≡ link_beside nodes x (next_at nodes x)) × (next_at nodes x ≡ x → ⊥) = first-behind nodes a x ys b moved.0 moved.2 other head moved.1 in
    rw same (record { next = after_here x ys ∙ behind.0; previous = before_here (Some a) x ys ∙ ap (λ n. Some n) (sym moved.0.back); not_itself = behind.1; link = λ is_link. ap (head_at nodes) moved.0.back ∙ is_link })
beside_at nodes x a y ys b (inr apart) l head other rest =
    record { next = after_there x y ys apart ∙ (rest apart).next; previous = before_there (Some a) x y ys apart ∙ (rest apart).previous; not_itself = (rest apart).not_itself; link = λ _. (rest apart).link l.1 }

none_behind : (x y : ℕ) (ys : List ℕ) → (times_among x (y ∷ ys) ≡ 0 → ⊥) → y ≢ x → times_among x ys ≡ 0 → ⊥
none_behind x y ys some other none = some (grind (arith, nat_tests, eqb_tells y x))

beside : (nodes : List Node) (x a : ℕ) (xs : List ℕ) (b : ℕ) → Links nodes a xs b → head_at nodes b ≡ true → a ≢ x
    → (times_among x xs ≡ 0 → ⊥) → Beside nodes x a xs
beside nodes x a [] b l head other some = absurd (some refl)
beside nodes x a (y ∷ ys) b l head other some =
    beside_at nodes x a y ys b (cases_eq y x) l head other (λ apart. beside nodes x y ys b l.2 head apart (none_behind x y ys some apart))

-- before x in the list of a head
before-ring_at : (nodes : List Node) (x h y : ℕ) (ys : List ℕ) → (y ≡ x) ⊎ (y ≡ x → ⊥) → head_at nodes h ≡ true
    → head_at nodes x ≡ false → head_at nodes y ≡ false → Beside nodes x h (y ∷ ys) → (y ≢ x → Beside nodes x y ys)
    → (previous_at nodes x ≡ x → ⊥) → before_or None x (y ∷ ys) ≡ link_beside nodes x (previous_at nodes x)
before-ring_at nodes x h y ys (inl same) head link link_y both rest not_itself =
    let some : Some h ≡ Some (previous_at nodes x) = sym (before_here (Some h) x ys) ∙ (rw same at both).previous in
    let in_front : h ≡ previous_at nodes x = cc in
    rw same (before_here None x ys ∙ sym (beside_head nodes x (previous_at nodes x) (ap (head_at nodes) (sym in_front) ∙ head)))
before-ring_at nodes x h y ys (inr apart) head link link_y both rest not_itself =
    before_there None x y ys apart ∙ (rest apart).previous ∙ sym (beside_link nodes x (previous_at nodes x) not_itself ((rest apart).link link_y))

before-ring : (nodes : List Node) (x h : ℕ) (xs : List ℕ) → Links nodes h xs h → head_at nodes h ≡ true
    → head_at nodes x ≡ false → Beside nodes x h xs → (previous_at nodes x ≡ x → ⊥) → (times_among x xs ≡ 0 → ⊥)
    → before_or None x xs ≡ link_beside nodes x (previous_at nodes x)
before-ring nodes x h [] l head link both not_itself some = absurd (some refl)
before-ring nodes x h (y ∷ ys) l head link both not_itself some =
    before-ring_at nodes x h y ys (cases_eq y x) head link l.1 both (λ apart. beside nodes x y ys h l.2 head apart (none_behind x y ys some apart)) not_itself

-- ---- the neighbours of a linkage

link_apart : (nodes : List Node) (h x : ℕ) → head_at nodes h ≡ true → head_at nodes x ≡ false → h ≢ x
link_apart nodes h x head link same = let e : head_at nodes h ≡ head_at nodes x = ap (head_at nodes) same in cc

-- the list in which a link stands, and what the nodes say of it there
record Standing (nodes : List Node) (sets : List Linkage) (x h : ℕ) : Type 0 where
  links : List ℕ
  list : links_of sets h ≡ links
  ring : Links nodes h links h
  head : head_at nodes h ≡ true
  link : head_at nodes x ≡ false
  there : times_among x links ≡ 0 → ⊥
  both : Beside nodes x h links

standing : (nodes : List Node) (sets : List Linkage) (x h : ℕ) → KeepsSets nodes sets → slice_get sets x ≡ Some Link
    → head_from x 0 sets ≡ Some h → Standing nodes sets x h
standing nodes sets x h kept is_a_link e =
    let s : StandsIn x 0 sets h = head_from-some x 0 sets h e in
    let same : h ≡ s.at = omega (arith, s.number) in
    let P : ℕ → Type 0 = λ n. slice_get sets n ≡ Some (Head s.links) in
    let list : slice_get sets h ≡ Some (Head s.links) = subst P (sym same) s.list in
    let held : HoldsLinkage nodes h (Head s.links) = kept.held h (Head s.links) list in
    let link : head_at nodes x ≡ false = kept.held x Link is_a_link in
    record {
      links = s.links;
      list = ap links_in list;
      ring = held.1;
      head = held.0;
      link = link;
      there = s.there;
      both = beside nodes x h s.links h held.1 held.0 (link_apart nodes h x held.0 link) s.there;
    }

stays_by_itself : (nodes : List Node) (sets : List Linkage) (x : ℕ) → KeepsSets nodes sets
    → slice_get sets x ≡ Some Link → head_from x 0 sets ≡ None → next_at nodes x ≡ x
stays_by_itself nodes sets x kept link e = kept.alone x (ap is_link link) (head_from-none x 0 sets e)

joined_of : (nodes : List Node) (sets : List Linkage) (x : ℕ) (linkage : Linkage) → KeepsSets nodes sets
    → slice_get sets x ≡ Some linkage → IsJoined nodes x
joined_of nodes sets x linkage kept e = kept.joined x (omega (arith, kept.made, slice_get_within sets x linkage e))

previous_not_itself : (nodes : List Node) (x : ℕ) → IsJoined nodes x → (next_at nodes x ≡ x → ⊥)
    → previous_at nodes x ≡ x → ⊥
previous_not_itself nodes x joined not_itself same = not_itself (ap (next_at nodes) (sym same) ∙ joined.onward)

suc_link : (nodes : List Node) (sets : List Linkage) (x : ℕ) (o : Option ℕ) → KeepsSets nodes sets
    → slice_get sets x ≡ Some Link → head_from x 0 sets ≡ o
    → next_link sets x o ≡ link_beside nodes x (next_at nodes x)
suc_link nodes sets x None kept link e = sym (beside_itself nodes x (next_at nodes x) (stays_by_itself nodes sets x kept link e))
suc_link nodes sets x (Some h) kept link e =
    let s : Standing nodes sets x h = standing nodes sets x h kept link e in
    ap (after x) s.list ∙ s.both.next

unmade : (nodes : List Node) (sets : List Linkage) (x : ℕ) → KeepsSets nodes sets → x < length nodes
    → slice_get sets x ≡ None → ⊥
unmade nodes sets x kept made e = let some : slice_get sets x ≡ Some (get_or sets x Link) = slice_get-get_or sets x Link (omega (arith, kept.made)) in cc

suc_linkage : (nodes : List Node) (sets : List Linkage) (x : ℕ) (o : Option Linkage) → KeepsSets nodes sets
    → x < length nodes → slice_get sets x ≡ o
    → (if is_head o then first (links_in o) else next_link sets x (head_from x 0 sets)) ≡ link_beside nodes x (next_at nodes x)
suc_linkage nodes sets x None kept made e = absurd (unmade nodes sets x kept made e)
suc_linkage nodes sets x (Some Link) kept made e = suc_link nodes sets x (head_from x 0 sets) kept e refl
suc_linkage nodes sets x (Some (Head xs)) kept made e =
    let held : HoldsLinkage nodes x (Head xs) = kept.held x (Head xs) e in
    first-ring nodes x xs held.0 held.1

pub suc_of-kept : (nodes : List Node) (sets : List Linkage) (x : ℕ) → KeepsSets nodes sets → x < length nodes
    → suc_of sets x ≡ link_beside nodes x (next_at nodes x)
unfolding suc_of head_of
suc_of-kept nodes sets x kept made = suc_linkage nodes sets x (slice_get sets x) kept made refl

pred_link : (nodes : List Node) (sets : List Linkage) (x : ℕ) (o : Option ℕ) → KeepsSets nodes sets
    → slice_get sets x ≡ Some Link → head_from x 0 sets ≡ o
    → link_before sets x o ≡ link_beside nodes x (previous_at nodes x)
pred_link nodes sets x None kept link e =
    let next : next_at nodes x ≡ x = stays_by_itself nodes sets x kept link e in
    sym (beside_itself nodes x (previous_at nodes x) (ap (previous_at nodes) (sym next) ∙ (joined_of nodes sets x Link kept link).back))
pred_link nodes sets x (Some h) kept link e =
    let s : Standing nodes sets x h = standing nodes sets x h kept link e in
    ap (before_or None x) s.list
    ∙ before-ring nodes x h s.links s.ring s.head s.link s.both (previous_not_itself nodes x (joined_of nodes sets x Link kept link) s.both.not_itself) s.there

pred_linkage : (nodes : List Node) (sets : List Linkage) (x : ℕ) (o : Option Linkage) → KeepsSets nodes sets
    → x < length nodes → slice_get sets x ≡ o
    → (if is_head o then last_or None (links_in o) else link_before sets x (head_from x 0 sets)) ≡ link_beside nodes x (previous_at nodes x)
pred_linkage nodes sets x None kept made e = absurd (unmade nodes sets x kept made e)
pred_linkage nodes sets x (Some Link) kept made e = pred_link nodes sets x (head_from x 0 sets) kept e refl
pred_linkage nodes sets x (Some (Head xs)) kept made e =
    let held : HoldsLinkage nodes x (Head xs) = kept.held x (Head xs) e in
    last-ring nodes x xs held.0 held.1

pub pred_of-kept : (nodes : List Node) (sets : List Linkage) (x : ℕ) → KeepsSets nodes sets → x < length nodes
    → pred_of sets x ≡ link_beside nodes x (previous_at nodes x)
unfolding pred_of head_of
pred_of-kept nodes sets x kept made = pred_linkage nodes sets x (slice_get sets x) kept made refl

linkage_link : (nodes : List Node) (x : ℕ) → head_at nodes x ≡ false → (previous_at nodes x ≡ x → ⊥)
    → linkage_beside nodes x ≡ Some (previous_at nodes x)
linkage_link nodes x link not_itself = grind (arith, nat_tests, eqb_tells (previous_at nodes x) x)

linkage_alone : (nodes : List Node) (x : ℕ) → head_at nodes x ≡ false → previous_at nodes x ≡ x
    → linkage_beside nodes x ≡ None
linkage_alone nodes x link same = rw link (grind (arith, nat_tests, eqb_tells (previous_at nodes x) x))

linkage_head : (nodes : List Node) (x : ℕ) → head_at nodes x ≡ true
    → linkage_beside nodes x ≡ Some (previous_at nodes x)
linkage_head nodes x head = rw head (grind (arith, nat_tests, eqb_tells (previous_at nodes x) x))

prev_link : (nodes : List Node) (sets : List Linkage) (x : ℕ) (o : Option ℕ) → KeepsSets nodes sets
    → slice_get sets x ≡ Some Link → head_from x 0 sets ≡ o → linkage_before sets x o ≡ linkage_beside nodes x
prev_link nodes sets x None kept link e =
    let next : next_at nodes x ≡ x = stays_by_itself nodes sets x kept link e in
    sym (linkage_alone nodes x (kept.held x Link link) (ap (previous_at nodes) (sym next) ∙ (joined_of nodes sets x Link kept link).back))
prev_link nodes sets x (Some h) kept link e =
    let s : Standing nodes sets x h = standing nodes sets x h kept link e in
    ap (before_or (Some h) x) s.list ∙ s.both.previous
    ∙ sym (linkage_link nodes x s.link (previous_not_itself nodes x (joined_of nodes sets x Link kept link) s.both.not_itself))

prev_linkage : (nodes : List Node) (sets : List Linkage) (x : ℕ) (o : Option Linkage) → KeepsSets nodes sets
    → x < length nodes → slice_get sets x ≡ o
    → (if is_head o then last_or (Some x) (links_in o) else linkage_before sets x (head_from x 0 sets)) ≡ linkage_beside nodes x
prev_linkage nodes sets x None kept made e = absurd (unmade nodes sets x kept made e)
prev_linkage nodes sets x (Some Link) kept made e = prev_link nodes sets x (head_from x 0 sets) kept e refl
prev_linkage nodes sets x (Some (Head xs)) kept made e =
    let held : HoldsLinkage nodes x (Head xs) = kept.held x (Head xs) e in
    last_or-Links nodes x xs x held.1 ∙ sym (linkage_head nodes x held.0)

pub prev_of-kept : (nodes : List Node) (sets : List Linkage) (x : ℕ) → KeepsSets nodes sets → x < length nodes
    → prev_of sets x ≡ linkage_beside nodes x
unfolding prev_of head_of
prev_of-kept nodes sets x kept made = prev_linkage nodes sets x (slice_get sets x) kept made refl

alone_at : (nodes : List Node) (sets : List Linkage) (x : ℕ) (o : Option ℕ) → KeepsSets nodes sets
    → slice_get sets x ≡ Some Link → head_from x 0 sets ≡ o → next_at nodes x ≡ x → times_in x sets ≡ 0
alone_at nodes sets x None kept link e same = head_from-none x 0 sets e
alone_at nodes sets x (Some h) kept link e same = absurd ((standing nodes sets x h kept link e).both.not_itself same)

-- a link that is its own neighbour is in no set
pub alone_nowhere : (nodes : List Node) (sets : List Linkage) (x : ℕ) → KeepsSets nodes sets
    → is_link_at sets x ≡ true → next_at nodes x ≡ x → times_in x sets ≡ 0
alone_nowhere nodes sets x kept link same = alone_at nodes sets x (head_from x 0 sets) kept (link_of (slice_get sets x) link) refl same
