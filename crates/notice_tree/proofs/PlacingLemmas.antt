-- Where a notice is put: at a time, or beside another notice.
use Rattle.std.proofs.Common.{◌≡◌, ◌≢◌, ℕ, ℤ, ◌+◌, ◌<◌, ◌≤◌, max, Bool, true, false, not, cond, is_some, Option, Some, None, List, [], ◌∷◌, ◌++◌, length, refl, sym, ap, ◌∙◌, subst, arith}
use Rattle.std.specs.List.{All, AllPairs, sum_by, before_first, after_first}
use Rattle.std.specs.Option.{option_map}
use Rattle.std.proofs.lemmas.Bool.{true≢false, false_from_ne_true, not_from_true, not_from_false, ne_eqb, eqb-true, eq-eqb}
use Rattle.std.proofs.lemmas.List.{append_assoc, append-nil}
use Rattle.std.proofs.lemmas.List.Elements.{All-nil, All-cons, All-head, All-tail, All-weaker, filter-append, filter_agree}
use Rattle.std.proofs.lemmas.List.Kept.{AllPairs-cons}
use Rattle.std.proofs.lemmas.List.Sums.{sum_by-append}
use Rattle.notices.specs.declared.notice.Notice.{Notice}
use Rattle.notices.specs.declared.notice.ProcessNo.{ProcessNo}
use Rattle.notices.specs.Notices.{is_of, is_earlier_than, is_at_most, is_at_least, is_later_than, notice_of, has_notice, event_time, first_event, next_process, removed, placed_between, front_at, back_at, placed_at, placed_beside, placed_near}
use Rattle.notices.specs.Schedule.{IsOrdered, IsOnce, IsSchedule}
use Rattle.notices.proofs.ListLemmas.{AllPairs-nil, AllPairs-head, AllPairs-tail, AllPairs-across, AllPairs-back, filter-filter, filter-all, filter-none, filter-cons_yes}
use Rattle.notices.proofs.PlaceLemmas.{find-passes, find-parts, before_first-filter, after_first-filter, before_first-append, after_first-append, find-cons_yes}
use Rattle.notices.proofs.ScheduleLemmas.{NoLater, length-le_room, IsSchedule-removed, length-removed, front_at-back_at, earlier-split, at_most-split, earlier-down, at_most-down, notice_of-removed, placed_near-other}
use Rattle.notice_tree.specs.declared.node.Node.{Node}
use Rattle.notice_tree.specs.declared.spot.Spot.{Spot}
use Rattle.notice_tree.specs.declared.spot.Aim.{Aim}
use Rattle.notice_tree.specs.declared.spot.Aim.TheVariants.{First, Last, At}
use Rattle.notice_tree.specs.Nodes.{node_at}
use Rattle.notice_tree.specs.Trees.{Tree, Empty, Branch, in_order, height, top, total, one_of, one, Stands, NodeIs, Step, OnLeft, OnRight, before, after, way_total, IsWayBalanced, TellHeights, WayStands}
use Rattle.notice_tree.specs.Spots.{stands_in_front, front, back, IsParted, SideIs, IsSought, first_process}
use Rattle.notice_tree.specs.Held.{IsHeld, IsOpen, front_beside, back_beside}
use Rattle.notice_tree.proofs.ListLemmas.{none_removed, once_listed, sum_by-one, way_total-listed, after_first-lacks, lacks-from, first_process-get}
use Rattle.notice_tree.proofs.FindLemmas.{IsFound}
use Rattle.notice_tree.proofs.HeldLemmas.{IsAround, IsAround-found, find_held, total-le_room, count_from_has, lacks_from_has, notice_of-found}
use Rattle.notice_tree.proofs.RemoveLemmas.{front_first, back_first, front_last, back_last, IsParted-first, IsParted-last}

-- ---- an ordered tree is parted at each time

All-left : {X : Type 0} (P : X → Type 0) (xs ys : List X) → All P (xs ++ ys) → All P xs
All-left P [] ys a = All-nil P
All-left P (x ∷ xs) ys a = All-cons P x xs (All-head P x (xs ++ ys) a) (All-left P xs ys (All-tail P x (xs ++ ys) a))

AllPairs-front : {X : Type 0} (R : X → X → Type 0) (xs ys : List X) → AllPairs R (xs ++ ys) → AllPairs R xs
AllPairs-front R [] ys p = AllPairs-nil R
AllPairs-front R (x ∷ xs) ys p = AllPairs-cons R x xs (All-left (R x) xs ys (AllPairs-head R x (xs ++ ys) p)) (AllPairs-front R xs ys (AllPairs-tail R x (xs ++ ys) p))

IsParted-down : (aim : Aim) → ((m n : Notice) → NoLater m n → stands_in_front aim n ≡ true → stands_in_front aim m ≡ true) → (t : Tree) → IsOrdered (in_order t) → IsParted aim t
IsParted-down aim down Empty ordered = tt
IsParted-down aim down (Branch l n r) ordered =
    let earlier : All (λ m. NoLater m n) (in_order l) = AllPairs-across NoLater (in_order l) (in_order r) n ordered in
    let rest : AllPairs NoLater (n ∷ in_order r) = AllPairs-back NoLater (in_order l) (n ∷ in_order r) ordered in
    let later : All (NoLater n) (in_order r) = AllPairs-head NoLater n (in_order r) rest in (
      λ e. filter-all (stands_in_front aim) (in_order l) (All-weaker (λ m. NoLater m n) (λ m. stands_in_front aim m ≡ true) (λ m h. down m n h e) (in_order l) earlier),
      λ e. filter-none (λ m. not (stands_in_front aim m)) (in_order l) (All-weaker (λ m. NoLater m n) (λ m. not (stands_in_front aim m) ≡ false) (λ m h. not_from_true _ (down m n h e)) (in_order l) earlier),
      λ e. filter-none (stands_in_front aim) (in_order r) (All-weaker (NoLater n) (λ m. stands_in_front aim m ≡ false) (λ m h. behind n m h e) (in_order r) later),
      λ e. filter-all (λ m. not (stands_in_front aim m)) (in_order r) (All-weaker (NoLater n) (λ m. not (stands_in_front aim m) ≡ true) (λ m h. not_from_false _ (behind n m h e)) (in_order r) later),
      IsParted-down aim down l (AllPairs-front NoLater (in_order l) (n ∷ in_order r) ordered),
      IsParted-down aim down r (AllPairs-tail NoLater n (in_order r) rest),
    )
  where
    behind : (n m : Notice) → NoLater n m → stands_in_front aim n ≡ false → stands_in_front aim m ≡ false
    behind n m h e = false_from_ne_true (stands_in_front aim m) (λ k. true≢false (sym (down n m h k) ∙ e))

pub IsParted-at : (t : ℤ) (prior : Bool) (u : Tree) → IsOrdered (in_order u) → IsParted (At t prior) u
IsParted-at t true u ordered = IsParted-down (At t true) (earlier-down t) u ordered
IsParted-at t false u ordered = IsParted-down (At t false) (at_most-down t) u ordered

-- ---- the two parts at a time are those of the list

front-at : (t : ℤ) (prior : Bool) (l : List Notice) → front (At t prior) l ≡ front_at t prior l
front-at t true l = refl
front-at t false l = refl

back-at : (t : ℤ) (prior : Bool) (l : List Notice) → back (At t prior) l ≡ back_at t prior l
back-at t true l = filter_agree (λ n. not (is_earlier_than t n)) (is_at_least t) (λ n. sym (earlier-split t n)) l
back-at t false l = filter_agree (λ n. not (is_at_most t n)) (is_later_than t) (λ n. sym (at_most-split t n)) l

front_at-removed : (t : ℤ) (prior : Bool) (x : ℕ) (l : List Notice) → front_at t prior (removed x l) ≡ removed x (front_at t prior l)
front_at-removed t true x l = filter-filter (is_earlier_than t) (λ m. not (is_of x m)) l
front_at-removed t false x l = filter-filter (is_at_most t) (λ m. not (is_of x m)) l

back_at-removed : (t : ℤ) (prior : Bool) (x : ℕ) (l : List Notice) → back_at t prior (removed x l) ≡ removed x (back_at t prior l)
back_at-removed t true x l = filter-filter (is_at_least t) (λ m. not (is_of x m)) l
back_at-removed t false x l = filter-filter (is_later_than t) (λ m. not (is_of x m)) l

-- ---- an empty place of the whole tree

pub IsOpen-sought : (nodes : List Node) (root : Option ProcessNo) (l : List Notice) (aim : Aim) (spot : Spot) → (h : IsHeld nodes root l) → IsSought nodes None aim [] h.tree spot → IsOpen nodes spot (front aim l) (back aim l)
IsOpen-sought nodes root l aim spot h s = record {
  way = s.way;
  stands = s.stands;
  side = s.side;
  front_is = s.in_front ∙ ap (front aim) h.listed;
  back_is = s.behind ∙ append-nil (back aim (in_order h.tree)) ∙ ap (back aim) h.listed;
  balanced = s.balanced h.rooted.balanced tt;
  heights = s.heights tt;
  absent = λ x e. h.rooted.absent x (omega (arith, s.totals (one_of x)));
}

-- what an insertion leaves, where the notice of the process was removed before
abbrev pub Inserts : List Node → List Node → Spot → Option ProcessNo → ProcessNo → ℤ → Type 0
Inserts nodes new spot link x t =
    (front back : List Notice) → IsOpen nodes spot front back → x.0 < length nodes → IsOnce (front ++ back) → sum_by (one_of x.0) (front ++ back) ≡ 0 → length (front ++ back) < length nodes
    → IsHeld new link (front ++ record { time = t; process = x } ∷ back)

pub inserted : (nodes new : List Node) (spot : Spot) (link : Option ProcessNo) (x : ProcessNo) (t : ℤ) (l front back : List Notice) → Inserts nodes new spot link x t → IsOpen nodes spot front back → front ++ back ≡ removed x.0 l → IsSchedule l (length nodes) → x.0 < length nodes → IsHeld new link (front ++ record { time = t; process = x } ∷ back)
inserted nodes new spot link x t l front back ins place parts s within =
    ins front back place within
    (subst (λ (k : List Notice). IsOnce k) (sym parts) (IsSchedule-removed x.0 l (length nodes) s).once)
    (ap (sum_by (one_of x.0)) parts ∙ none_removed x.0 l)
    (subst (λ (k : List Notice). length k < length nodes) (sym parts) (length-removed x.0 l (length nodes) s within))

pub inserted_at : (nodes new : List Node) (root : Option ProcessNo) (spot : Spot) (link : Option ProcessNo) (x : ProcessNo) (t : ℤ) (prior : Bool) (l : List Notice) → (h : IsHeld nodes root (removed x.0 l)) → IsSought nodes None (At t prior) [] h.tree spot → Inserts nodes new spot link x t → IsSchedule l (length nodes) → x.0 < length nodes → IsHeld new link (placed_at t prior x.0 l)
inserted_at nodes new root spot link x t prior l h sought ins s within =
    let n : Notice = record { time = t; process = x } in
    let left : List Notice = removed x.0 l in
    let f : front (At t prior) left ≡ removed x.0 (front_at t prior l) = front-at t prior left ∙ front_at-removed t prior x.0 l in
    let b : back (At t prior) left ≡ removed x.0 (back_at t prior l) = back-at t prior left ∙ back_at-removed t prior x.0 l in
    let parts : front (At t prior) left ++ back (At t prior) left ≡ left =
    ap (λ (k : List Notice). k ++ back (At t prior) left) (front-at t prior left) ∙ ap (λ (k : List Notice). front_at t prior left ++ k) (back-at t prior left)
    ∙ front_at-back_at t prior left (IsSchedule-removed x.0 l (length nodes) s).ordered in
    let held : IsHeld new link (front (At t prior) left ++ n ∷ back (At t prior) left) =
    inserted nodes new spot link x t l (front (At t prior) left) (back (At t prior) left) ins (IsOpen-sought nodes root left (At t prior) spot h sought) parts s within in
    subst (λ (k : List Notice). IsHeld new link k)
    (ap (λ (k : List Notice). k ++ n ∷ back (At t prior) left) f ∙ ap (λ (k : List Notice). removed x.0 (front_at t prior l) ++ n ∷ k) b) held

-- ---- a place beside a notice

-- the two parts of a list around a notice
before_is : (x : ℕ) (l f b : List Notice) (n : Notice) → IsAround x l f b n → before_first (is_of x) l ≡ f
before_is x l f b n a = ap (before_first (is_of x)) (sym a.parts) ∙ before_first-append (is_of x) f b n a.front_lacks (eq-eqb _ _ a.is)

after_is : (x : ℕ) (l f b : List Notice) (n : Notice) → IsAround x l f b n → after_first (is_of x) l ≡ b
after_is x l f b n a = ap (after_first (is_of x)) (sym a.parts) ∙ after_first-append (is_of x) f b n a.front_lacks (eq-eqb _ _ a.is)

-- `seek` from a place, as its contract says it
abbrev pub Seeks : List Node → Option ProcessNo → Option ProcessNo → Bool → Aim → Spot → Type 0
Seeks nodes link parent on_left aim spot =
    (stop : Option ProcessNo) (way : List Step) (t : Tree) → WayStands nodes stop link way parent → SideIs on_left way → Stands nodes parent t → top t ≡ link → IsParted aim t → total one t ≤ length nodes → IsSought nodes stop aim way t spot

count_of_found : (x : ℕ) (l : List Notice) (m : Notice) → notice_of x l ≡ Some m → 1 ≤ sum_by (one_of x) l
count_of_found x l m found = count_from_has x l (ap (is_some {T = Notice}) found)

pub beside_before : (nodes : List Node) (root : Option ProcessNo) (l : List Notice) (y : ProcessNo) (m : Notice) (spot : Spot) (link : Option ProcessNo) → IsHeld nodes root l → IsSchedule l (length nodes) → notice_of y.0 l ≡ Some m → link ≡ (node_at nodes y.0).left → Seeks nodes link (Some y) true Last spot → IsOpen nodes spot (front_beside true y.0 m l) (back_beside true y.0 m l)
beside_before nodes root l y m spot link h s found at seeks =
    let f : IsFound nodes None y.0 l (λ v. total v h.tree) = find_held nodes root l y.0 h (count_of_found y.0 l m found) in
    let around = IsAround-found nodes None y.0 l (λ v. total v h.tree) f s.once in
    let is : f.notice.process ≡ y = (let make : ℕ → ProcessNo = λ k. record { 0 = k } in ap make f.is) in
    let same : f.notice ≡ m = cc (sym (notice_of-found y.0 l (before f.way ++ in_order f.left) (in_order f.right ++ after f.way) f.notice around) ∙ found) in
    let link_is : link ≡ top f.left = at ∙ subst (λ (p : ProcessNo). (node_at nodes p.0).left ≡ top f.left) is f.stands.0.left in
    let way : List Step = OnLeft f.notice f.right ∷ f.way in
    let small : total one f.left ≤ length nodes = omega (arith, f.totals one, total-le_room nodes root l h s) in
    let way_up : WayStands nodes None (Some f.notice.process) f.way (node_at nodes f.notice.process.0).parent =
    subst (λ (p : Option ProcessNo). WayStands nodes None (Some f.notice.process) f.way p) (sym f.stands.2) f.way_stands in
    let node : NodeIs nodes f.notice link (top f.right) = subst (λ (k : Option ProcessNo). NodeIs nodes f.notice k (top f.right)) (sym link_is) f.stands.0 in
    let sought : IsSought nodes None Last way f.left spot =
    seeks None way f.left (ap (λ (p : ProcessNo). Some p) (sym is), node, f.stands.4, way_up) refl
    (subst (λ (p : ProcessNo). Stands nodes (Some p) f.left) is f.stands.3) (sym link_is) (IsParted-last f.left) small in
    record {
      way = sought.way;
      stands = sought.stands;
      side = sought.side;
      front_is = sought.in_front ∙ ap (λ (k : List Notice). before f.way ++ k) (front_last (in_order f.left))
          ∙ sym (before_is y.0 l (before f.way ++ in_order f.left) (in_order f.right ++ after f.way) f.notice around);
      back_is = sought.behind ∙ ap (λ (k : List Notice). k ++ (f.notice ∷ in_order f.right ++ after f.way)) (back_last (in_order f.left))
          ∙ ap (λ (k : Notice). k ∷ (in_order f.right ++ after f.way)) same
          ∙ ap (λ (k : List Notice). m ∷ k) (sym (after_is y.0 l (before f.way ++ in_order f.left) (in_order f.right ++ after f.way) f.notice around));
      balanced = sought.balanced f.balanced.2 (f.balanced.0, f.balanced.1, f.balanced.3, f.way_balanced);
      heights = sought.heights (f.stands.1, f.way_heights);
      absent = λ x e. h.rooted.absent x (omega (arith, sought.totals (one_of x), f.totals (one_of x)));
    }

max_swap : (a b : ℕ) → max a b ≡ max b a
max_swap a b = omega arith

pub beside_after : (nodes : List Node) (root : Option ProcessNo) (l : List Notice) (y : ProcessNo) (m : Notice) (spot : Spot) (link : Option ProcessNo) → IsHeld nodes root l → IsSchedule l (length nodes) → notice_of y.0 l ≡ Some m → link ≡ (node_at nodes y.0).right → Seeks nodes link (Some y) false First spot → IsOpen nodes spot (front_beside false y.0 m l) (back_beside false y.0 m l)
beside_after nodes root l y m spot link h s found at seeks =
    let f : IsFound nodes None y.0 l (λ v. total v h.tree) = find_held nodes root l y.0 h (count_of_found y.0 l m found) in
    let around = IsAround-found nodes None y.0 l (λ v. total v h.tree) f s.once in
    let is : f.notice.process ≡ y = (let make : ℕ → ProcessNo = λ k. record { 0 = k } in ap make f.is) in
    let same : f.notice ≡ m = cc (sym (notice_of-found y.0 l (before f.way ++ in_order f.left) (in_order f.right ++ after f.way) f.notice around) ∙ found) in
    let link_is : link ≡ top f.right = at ∙ subst (λ (p : ProcessNo). (node_at nodes p.0).right ≡ top f.right) is f.stands.0.right in
    let way : List Step = OnRight f.left f.notice ∷ f.way in
    let small : total one f.right ≤ length nodes = omega (arith, f.totals one, total-le_room nodes root l h s) in
    let way_up : WayStands nodes None (Some f.notice.process) f.way (node_at nodes f.notice.process.0).parent =
    subst (λ (p : Option ProcessNo). WayStands nodes None (Some f.notice.process) f.way p) (sym f.stands.2) f.way_stands in
    let node : NodeIs nodes f.notice (top f.left) link = subst (λ (k : Option ProcessNo). NodeIs nodes f.notice (top f.left) k) (sym link_is) f.stands.0 in
    let sought : IsSought nodes None First way f.right spot =
    seeks None way f.right (ap (λ (p : ProcessNo). Some p) (sym is), node, f.stands.3, way_up) refl
    (subst (λ (p : ProcessNo). Stands nodes (Some p) f.right) is f.stands.4) (sym link_is) (IsParted-first f.right) small in
    record {
      way = sought.way;
      stands = sought.stands;
      side = sought.side;
      front_is = sought.in_front ∙ ap (λ (k : List Notice). (before f.way ++ in_order f.left ++ f.notice ∷ []) ++ k) (front_first (in_order f.right))
          ∙ append-nil (before f.way ++ in_order f.left ++ f.notice ∷ [])
          ∙ ap (λ (k : Notice). (before f.way ++ in_order f.left) ++ k ∷ []) same
          ∙ ap (λ (k : List Notice). k ++ m ∷ []) (sym (before_is y.0 l (before f.way ++ in_order f.left) (in_order f.right ++ after f.way) f.notice around));
      back_is = sought.behind ∙ ap (λ (k : List Notice). k ++ after f.way) (back_first (in_order f.right))
          ∙ sym (after_is y.0 l (before f.way ++ in_order f.left) (in_order f.right ++ after f.way) f.notice around);
      balanced = sought.balanced f.balanced.3 (f.balanced.1, f.balanced.0, f.balanced.2, subst (λ k. IsWayBalanced (k + 1) f.way) (max_swap (height f.left) (height f.right)) f.way_balanced);
      heights = sought.heights (f.stands.1 ∙ ap (λ k. k + 1) (max_swap (height f.left) (height f.right)), subst (λ k. TellHeights nodes (k + 1) f.way) (max_swap (height f.left) (height f.right)) f.way_heights);
      absent = λ x e. h.rooted.absent x (omega (arith, sought.totals (one_of x), f.totals (one_of x)));
    }

-- ---- the list with a notice put beside another

others_kept : (x y : ℕ) → x ≢ y → (m : Notice) → is_of y m ≡ true → not (is_of x m) ≡ true
others_kept x y other m e = not_from_false _ (ne_eqb m.process.0 x (λ k. other (sym k ∙ eqb-true _ _ e)))

pub parts_beside : (before : Bool) (y : ℕ) (m : Notice) (l : List Notice) → notice_of y l ≡ Some m → front_beside before y m l ++ back_beside before y m l ≡ l
parts_beside true y m l found = find-parts (is_of y) l m found
parts_beside false y m l found = append_assoc (before_first (is_of y) l) (m ∷ []) (after_first (is_of y) l) ∙ find-parts (is_of y) l m found

placed_beside-is : (before : Bool) (x y : ℕ) (l : List Notice) (m n : Notice) → x ≢ y → notice_of y l ≡ Some m → n ≡ record { time = m.time; process = record { 0 = x } } → front_beside before y m (removed x l) ++ n ∷ back_beside before y m (removed x l) ≡ placed_near before y x l
placed_beside-is before x y l m n other found is =
    let same : y ≡ m.process.0 = sym (eqb-true _ _ (find-passes (is_of y) l m found)) in
    let kept : not (is_of x m) ≡ true = others_kept x y other m (find-passes (is_of y) l m found) in
    let f : before_first (is_of y) (removed x l) ≡ removed x (before_first (is_of m.process.0) l) =
    before_first-filter (is_of y) (λ k. not (is_of x k)) (others_kept x y other) l ∙ ap (λ z. removed x (before_first (is_of z) l)) same in
    let b : after_first (is_of y) (removed x l) ≡ removed x (after_first (is_of m.process.0) l) =
    after_first-filter (is_of y) (λ k. not (is_of x k)) (others_kept x y other) l ∙ ap (λ z. removed x (after_first (is_of z) l)) same in
    by_side before x y l m n (before_first (is_of m.process.0) l) (after_first (is_of m.process.0) l) kept is f b
    ∙ sym (placed_near-other before x y other l ∙ ap (λ (o : Option Notice). placed_beside before o x l) found)
  where
    by_side : (before : Bool) (x y : ℕ) (l : List Notice) (m n : Notice) (f b : List Notice) → not (is_of x m) ≡ true → n ≡ record { time = m.time; process = record { 0 = x } } → before_first (is_of y) (removed x l) ≡ removed x f → after_first (is_of y) (removed x l) ≡ removed x b → front_beside before y m (removed x l) ++ n ∷ back_beside before y m (removed x l) ≡ cond before (placed_between f (record { time = m.time; process = record { 0 = x } }) (m ∷ b)) (placed_between (f ++ m ∷ []) (record { time = m.time; process = record { 0 = x } }) b)
    by_side true x y l m n f b kept is ef eb =
        ap (λ (k : List Notice). k ++ n ∷ (m ∷ after_first (is_of y) (removed x l))) ef
        ∙ ap (λ (k : List Notice). removed x f ++ n ∷ (m ∷ k)) eb
        ∙ ap (λ (k : List Notice). removed x f ++ n ∷ k) (sym (filter-cons_yes (λ p. not (is_of x p)) m b kept))
        ∙ ap (λ (k : Notice). removed x f ++ k ∷ removed x (m ∷ b)) is
    by_side false x y l m n f b kept is ef eb =
        ap (λ (k : List Notice). (k ++ m ∷ []) ++ n ∷ after_first (is_of y) (removed x l)) ef
        ∙ ap (λ (k : List Notice). (removed x f ++ m ∷ []) ++ n ∷ k) eb
        ∙ ap (λ (k : List Notice). (removed x f ++ k) ++ n ∷ removed x b) (sym (filter-cons_yes (λ p. not (is_of x p)) m [] kept))
        ∙ ap (λ (k : List Notice). k ++ n ∷ removed x b) (sym (filter-append (λ p. not (is_of x p)) f (m ∷ [])))
        ∙ ap (λ (k : Notice). removed x (f ++ m ∷ []) ++ k ∷ removed x b) is

pub inserted_near : (nodes new : List Node) (spot : Spot) (link : Option ProcessNo) (x y : ProcessNo) (before : Bool) (t : ℤ) (l : List Notice) (m : Notice) → x.0 ≢ y.0 → notice_of y.0 l ≡ Some m → m.time ≡ t → IsOpen nodes spot (front_beside before y.0 m (removed x.0 l)) (back_beside before y.0 m (removed x.0 l)) → Inserts nodes new spot link x t → IsSchedule l (length nodes) → x.0 < length nodes → IsHeld new link (placed_near before y.0 x.0 l)
inserted_near nodes new spot link x y before t l m other found time place ins s within =
    let n : Notice = record { time = t; process = x } in
    let left : List Notice = removed x.0 l in
    let is : n ≡ record { time = m.time; process = record { 0 = x.0 } } = (let make : ℤ → Notice = λ z. record { time = z; process = x } in ap make (sym time)) in
    let found' : notice_of y.0 left ≡ Some m = notice_of-removed x.0 y.0 other l ∙ found in
    subst (λ (k : List Notice). IsHeld new link k) (placed_beside-is before x.0 y.0 l m n other found is)
    (inserted nodes new spot link x t l (front_beside before y.0 m left) (back_beside before y.0 m left) ins place (parts_beside before y.0 m left found') s within)

-- beside a process without a notice there is no place
pub near_none : (before : Bool) (x y : ℕ) (l : List Notice) → x ≢ y → event_time y (removed x l) ≡ None → removed x l ≡ placed_near before y x l
near_none before x y l other e =
    let absent : notice_of y l ≡ None = sym (notice_of-removed x y other l) ∙ none_is (notice_of y (removed x l)) e in
    sym (placed_near-other before x y other l ∙ ap (λ (o : Option Notice). placed_beside before o x l) absent)
  where
    none_is : (o : Option Notice) → option_map (λ (n : Notice). n.time) o ≡ None → o ≡ None
    none_is None e = refl
    none_is (Some m) e = absurd (cc)

-- the notice whose time is known
pub record HasTime (o : Option Notice) (t : ℤ) : Type 0 where
  pub notice : Notice
  pub is : o ≡ Some notice
  pub time : notice.time ≡ t

pub HasTime-from : (o : Option Notice) (t : ℤ) → option_map (λ (n : Notice). n.time) o ≡ Some t → HasTime o t
HasTime-from None t e = absurd (cc)
HasTime-from (Some m) t e = record { notice = m; is = refl; time = cc }

-- ---- what the list tells first, and next

pub follower_of : (nodes : List Node) (spot : Spot) (front back : List Notice) (r : Option ProcessNo) → IsOpen nodes spot front back → IsSchedule (front ++ back) (length nodes) → ((link : Option ProcessNo) (way : List Step) → WayStands nodes None link way spot.parent → SideIs spot.on_left way → ((x : ℕ) → way_total (one_of x) way ≤ 1) → way_total one way ≤ length nodes → r ≡ first_process (after way)) → r ≡ first_process back
follower_of nodes spot front back r o s follows =
    let counted : (f : Notice → ℕ) → way_total f o.way ≡ sum_by f (front ++ back) =
    λ f. way_total-listed f o.way ∙ ap (λ (k : List Notice). sum_by f k + sum_by f (after o.way)) o.front_is ∙ ap (λ (k : List Notice). sum_by f front + sum_by f k) o.back_is ∙ sym (sum_by-append f front back) in
    follows None o.way o.stands o.side (λ x. omega (arith, counted (one_of x), once_listed x (front ++ back) s.once))
    (omega (arith, counted one, sum_by-one (front ++ back), length-le_room (front ++ back) (length nodes) s.once s.within))
    ∙ ap first_process o.back_is

pub next_is : (x : ℕ) (l : List Notice) → first_process (after_first (is_of x) l) ≡ next_process x l
next_is x l = sym (first_process-get (after_first (is_of x) l))

pub no_next : (x : ℕ) (l : List Notice) → has_notice x l ≡ false → None ≡ next_process x l
no_next x l has =
    ap first_process (sym (after_first-lacks x l (lacks-from x l (none_counted x l has)))) ∙ next_is x l
  where
    none_counted : (x : ℕ) (l : List Notice) → has_notice x l ≡ false → sum_by (one_of x) l ≡ 0
    none_counted x l has =
        subst (λ (k : List Notice). sum_by (one_of x) k ≡ 0) (lacks_from_has x l has) (none_removed x l)

pub no_event : (l : List Notice) → first_process l ≡ None → None ≡ first_event l
no_event [] e = refl
no_event (n ∷ l) e = absurd (cc)

pub event_is : (l : List Notice) (p : ProcessNo) (t : ℤ) → first_process l ≡ Some p → event_time p.0 l ≡ Some t → Some (t, p) ≡ first_event l
event_is [] p t e time = absurd (cc)
event_is (n ∷ l) p t e time =
    let same : n.process ≡ p = cc in
    let head : event_time p.0 (n ∷ l) ≡ Some n.time = ap (option_map (λ (k : Notice). k.time)) (find-cons_yes (is_of p.0) n l (eq-eqb _ _ (ap (λ (q : ProcessNo). q.0) same))) in
    let at : n.time ≡ t = cc (sym head ∙ time) in
    let pair : ℤ → ProcessNo → Option (ℤ × ProcessNo) = λ a b. Some (a, b) in
    sym (ap (λ a. pair a n.process) at ∙ ap (pair t) same)

pub event_has_time : (l : List Notice) (p : ProcessNo) → first_process l ≡ Some p → event_time p.0 l ≡ None → ⊥
event_has_time [] p e time = cc
event_has_time (n ∷ l) p e time =
    let same : n.process ≡ p = cc in
    let head : event_time p.0 (n ∷ l) ≡ Some n.time = ap (option_map (λ (k : Notice). k.time)) (find-cons_yes (is_of p.0) n l (eq-eqb _ _ (ap (λ (q : ProcessNo). q.0) same))) in
    let no : Some n.time ≡ None = sym head ∙ time in
    cc

pub record IsSomeNotice (o : Option Notice) : Type 0 where
  pub notice : Notice
  pub is : o ≡ Some notice

pub some_notice : (o : Option Notice) → is_some o ≡ true → IsSomeNotice o
some_notice None e = absurd (true≢false (sym e))
some_notice (Some m) e = record { notice = m; is = refl }

-- the first process, by the place before all
pub first_found : (nodes : List Node) (root : Option ProcessNo) (l : List Notice) (spot : Spot) (r : Option ProcessNo) → (h : IsHeld nodes root l) → IsSchedule l (length nodes) → Seeks nodes root None true First spot → ((link : Option ProcessNo) (way : List Step) → WayStands nodes None link way spot.parent → SideIs spot.on_left way → ((x : ℕ) → way_total (one_of x) way ≤ 1) → way_total one way ≤ length nodes → r ≡ first_process (after way)) → r ≡ first_process l
first_found nodes root l spot r h s seeks follows =
    let sought : IsSought nodes None First [] h.tree spot = seeks None [] h.tree refl tt h.rooted.stands h.rooted.top_is (IsParted-first h.tree) (total-le_room nodes root l h s) in
    let place : IsOpen nodes spot (front First l) (back First l) = IsOpen-sought nodes root l First spot h sought in
    let parts : front First l ++ back First l ≡ l = ap (λ (k : List Notice). k ++ back First l) (front_first l) ∙ back_first l in
    follower_of nodes spot (front First l) (back First l) r place (subst (λ (k : List Notice). IsSchedule k (length nodes)) (sym parts) s) follows ∙ ap first_process (back_first l)
