-- A new notice comes into an empty place.
use Rattle.std.proofs.Common.{◌≡◌, ◌≢◌, ℕ, zero, suc, ℤ, ◌+◌, ◌^◌, ◌<◌, ◌≤◌, Bool, true, false, inl, inr, Option, Some, None, List, [], ◌∷◌, ◌++◌, length, set, refl, sym, ap, ◌∙◌, subst, arith, length-set}
use Rattle.std.specs.List.{sum_by}
use Rattle.std.proofs.lemmas.Bool.{cond-true, cond-false, cases_eq, ne_eqb}
use Rattle.std.proofs.lemmas.List.Sums.{sum_by-append}
use Rattle.notices.specs.declared.notice.Notice.{Notice}
use Rattle.notices.specs.declared.notice.ProcessNo.{ProcessNo}
use Rattle.notices.specs.Schedule.{IsOnce}
use Rattle.notice_tree.specs.declared.node.Node.{Node}
use Rattle.notice_tree.specs.declared.spot.Spot.{Spot}
use Rattle.notice_tree.specs.Nodes.{node_at, hung, linked_at, leaf}
use Rattle.notice_tree.specs.Trees.{Tree, Empty, Branch, in_order, total, one_of, one, Step, OnLeft, OnRight, before, after, way_total, TellHeights, WayStands}
use Rattle.notice_tree.specs.Climb.{IsGap, IsWhole}
use Rattle.notice_tree.specs.Spots.{SideIs}
use Rattle.notice_tree.specs.Held.{IsHeld, IsOpen}
use Rattle.notice_tree.proofs.StandLemmas.{one_of-differs, node_at-set_other, node_at-set_same, Stands-kept, TellHeights-kept, WayStands-kept, Stands-hung, hung-kept}
use Rattle.notice_tree.proofs.ListLemmas.{way_total-listed, sum_by-one, once_listed, one_of-le, one_of-zero}

pub length-linked_at : (nodes : List Node) (parent : Option ProcessNo) (on_left : Bool) (x : ProcessNo) → length (linked_at nodes parent on_left x) ≡ length nodes
length-linked_at nodes None on_left x = refl
length-linked_at nodes (Some up) on_left x = length-set nodes up.0 _

-- the nodes that are not on the way stay
linked_at-kept : (nodes : List Node) (stop link parent : Option ProcessNo) (on_left : Bool) (x : ProcessNo) (way : List Step) (y : ℕ) → WayStands nodes None link way parent → way_total (one_of y) way ≡ 0 → node_at (linked_at nodes parent on_left x) y ≡ node_at nodes y
linked_at-kept nodes stop link parent on_left x [] y s e = ap (λ (p : Option ProcessNo). node_at (linked_at nodes p on_left x) y) s
linked_at-kept nodes stop link parent on_left x (OnLeft n u ∷ way) y s e =
    ap (λ (p : Option ProcessNo). node_at (linked_at nodes p on_left x) y) s.0 ∙ node_at-set_other nodes n.process.0 y _ (one_of-differs y n (omega arith))
linked_at-kept nodes stop link parent on_left x (OnRight u n ∷ way) y s e =
    ap (λ (p : Option ProcessNo). node_at (linked_at nodes p on_left x) y) s.0 ∙ node_at-set_other nodes n.process.0 y _ (one_of-differs y n (omega arith))

-- no height changes
set_height : (nodes : List Node) (x y : ℕ) (c : Node) → c.height ≡ (node_at nodes x).height → (node_at (set nodes x c) y).height ≡ (node_at nodes y).height
set_height [] x y c e = refl
set_height (d ∷ nodes) zero zero c e = e
set_height (d ∷ nodes) zero (suc y) c e = refl
set_height (d ∷ nodes) (suc x) zero c e = refl
set_height (d ∷ nodes) (suc x) (suc y) c e = set_height nodes x y c e

linked_height : (nodes : List Node) (parent : Option ProcessNo) (on_left : Bool) (x : ProcessNo) (y : ℕ) → (node_at (linked_at nodes parent on_left x) y).height ≡ (node_at nodes y).height
linked_height nodes None on_left x y = refl
linked_height nodes (Some up) true x y = set_height nodes up.0 y (record (node_at nodes up.0) { left = Some x }) refl
linked_height nodes (Some up) false x y = set_height nodes up.0 y (record (node_at nodes up.0) { right = Some x }) refl

-- the way leads from the new node
linked_way : (nodes : List Node) (parent : Option ProcessNo) (on_left : Bool) (x : ProcessNo) (way : List Step) → WayStands nodes None None way parent → SideIs on_left way → ((y : ℕ) → way_total (one_of y) way ≤ 1) → WayStands (linked_at nodes parent on_left x) None (Some x) way parent
linked_way nodes parent on_left x [] s side once = s
linked_way nodes parent on_left x (OnLeft n u ∷ way) s side once =
    let old : Node = node_at nodes n.process.0 in
    let c : Node = record old { left = Some x } in
    let new : List Node = set nodes n.process.0 c in
    let same : new ≡ linked_at nodes parent on_left x =
    ap (λ (d : Node). set nodes n.process.0 d) (sym (cond-true on_left c (record old { right = Some x }) side)) ∙ ap (λ (p : Option ProcessNo). linked_at nodes p on_left x) (sym s.0) in
    let here : node_at new n.process.0 ≡ c = node_at-set_same nodes n.process.0 c s.1.within in
    let len : length new ≡ length nodes = length-set nodes n.process.0 c in
    subst (λ (k : List Node). WayStands k None (Some x) (OnLeft n u ∷ way) parent) same (
      s.0,
      record {
        within = omega (arith, s.1.within);
        time = ap (λ (d : Node). d.time) here ∙ s.1.time;
        left = ap (λ (d : Node). d.left) here;
        right = ap (λ (d : Node). d.right) here ∙ s.1.right;
      },
      Stands-kept nodes new (Some n.process) u len (λ y h. node_at-set_other nodes n.process.0 y c (one_of-differs y n (omega (arith, once y)))) s.2,
      subst (λ (p : Option ProcessNo). WayStands new None (Some n.process) way p) (sym (ap (λ (d : Node). d.parent) here))
          (WayStands-kept nodes new None (Some n.process) way old.parent len (λ y h. node_at-set_other nodes n.process.0 y c (one_of-differs y n (omega (arith, once y)))) s.3),
    )
linked_way nodes parent on_left x (OnRight u n ∷ way) s side once =
    let old : Node = node_at nodes n.process.0 in
    let c : Node = record old { right = Some x } in
    let new : List Node = set nodes n.process.0 c in
    let same : new ≡ linked_at nodes parent on_left x =
    ap (λ (d : Node). set nodes n.process.0 d) (sym (cond-false on_left (record old { left = Some x }) c side)) ∙ ap (λ (p : Option ProcessNo). linked_at nodes p on_left x) (sym s.0) in
    let here : node_at new n.process.0 ≡ c = node_at-set_same nodes n.process.0 c s.1.within in
    let len : length new ≡ length nodes = length-set nodes n.process.0 c in
    subst (λ (k : List Node). WayStands k None (Some x) (OnRight u n ∷ way) parent) same (
      s.0,
      record {
        within = omega (arith, s.1.within);
        time = ap (λ (d : Node). d.time) here ∙ s.1.time;
        left = ap (λ (d : Node). d.left) here ∙ s.1.left;
        right = ap (λ (d : Node). d.right) here;
      },
      Stands-kept nodes new (Some n.process) u len (λ y h. node_at-set_other nodes n.process.0 y c (one_of-differs y n (omega (arith, once y)))) s.2,
      subst (λ (p : Option ProcessNo). WayStands new None (Some n.process) way p) (sym (ap (λ (d : Node). d.parent) here))
          (WayStands-kept nodes new None (Some n.process) way old.parent len (λ y h. node_at-set_other nodes n.process.0 y c (one_of-differs y n (omega (arith, once y)))) s.3),
    )

-- ---- the new node, and what is around it

pub record IsPut (nodes new : List Node) (spot : Spot) (x : ProcessNo) (t : ℤ) (way : List Step) : Type 0 where
  pub gap : IsGap new x (Some x) spot.parent None way (Branch Empty (record { time = t; process = x }) Empty) 0
  pub len : length new ≡ length nodes
  pub kept : (y : ℕ) → y ≢ x.0 → way_total (one_of y) way ≡ 0 → node_at new y ≡ node_at nodes y

pub IsPut-made : (nodes : List Node) (spot : Spot) (front back : List Notice) (x : ProcessNo) (t : ℤ) → (o : IsOpen nodes spot front back) → x.0 < length nodes → IsOnce (front ++ back) → sum_by (one_of x.0) (front ++ back) ≡ 0 → length (front ++ back) < length nodes → length nodes < 2 ^ 64 → IsPut nodes (linked_at (set nodes x.0 (leaf t)) spot.parent spot.on_left x) spot x t o.way
unfolding one
IsPut-made nodes spot front back x t o within once none room short =
    let n : Notice = record { time = t; process = x } in
    let first : List Node = set nodes x.0 (leaf t) in
    let new : List Node = linked_at first spot.parent spot.on_left x in
    let counted : (f : Notice → ℕ) → way_total f o.way ≡ sum_by f (front ++ back) =
    λ f. way_total-listed f o.way ∙ ap (λ (k : List Notice). sum_by f k + sum_by f (after o.way)) o.front_is ∙ ap (λ (k : List Notice). sum_by f front + sum_by f k) o.back_is ∙ sym (sum_by-append f front back) in
    let way_once : (y : ℕ) → way_total (one_of y) o.way ≤ 1 = λ y. omega (arith, counted (one_of y), once_listed y (front ++ back) once) in
    let gone : way_total (one_of x.0) o.way ≡ 0 = counted (one_of x.0) ∙ none in
    let apart : (y : ℕ) → 1 ≤ way_total (one_of y) o.way → y ≢ x.0 = λ y h e. absurd (let no : way_total (one_of y) o.way ≡ 0 = subst (λ z. way_total (one_of z) o.way ≡ 0) (sym e) gone in omega arith) in
    let len1 : length first ≡ length nodes = length-set nodes x.0 (leaf t) in
    let len2 : length new ≡ length first = length-linked_at first spot.parent spot.on_left x in
    let way1 : WayStands first None None o.way spot.parent = WayStands-kept nodes first None None o.way spot.parent len1 (λ y h. node_at-set_other nodes x.0 y (leaf t) (apart y h)) o.stands in
    let here : node_at new x.0 ≡ leaf t = linked_at-kept first None None spot.parent spot.on_left x o.way x.0 way1 gone ∙ node_at-set_same nodes x.0 (leaf t) within in
    record {
      gap = record {
        below_is = refl;
        old_parent = None;
        stands = (
          record {
            within = omega arith;
            time = ap (λ (d : Node). d.time) here;
            left = ap (λ (d : Node). d.left) here;
            right = ap (λ (d : Node). d.right) here;
          },
          ap (λ (d : Node). d.height) here,
          ap (λ (d : Node). d.parent) here,
          tt,
          tt,
        );
        way_stands = linked_way first spot.parent spot.on_left x o.way way1 o.side way_once;
        gone = gone;
        root = λ p e. absurd (cc);
        once = λ y. single y x t o.way gone (way_once y);
        small = omega (arith, counted one, sum_by-one (front ++ back));
        short = omega arith;
        balanced = (omega arith, omega arith, tt, tt);
        way_balanced = o.balanced;
        heights = TellHeights-kept nodes new 0 o.way (λ y h. linked_height first spot.parent spot.on_left x y ∙ ap (λ (d : Node). d.height) (node_at-set_other nodes x.0 y (leaf t) (apart y h))) o.heights;
        low = omega arith;
        high = omega arith;
      };
      len = len2 ∙ len1;
      kept = λ y other e. linked_at-kept first None None spot.parent spot.on_left x o.way y way1 e ∙ node_at-set_other nodes x.0 y (leaf t) other;
    }
  where
    single : (y : ℕ) (x : ProcessNo) (t : ℤ) (way : List Step) → way_total (one_of x.0) way ≡ 0 → way_total (one_of y) way ≤ 1 → total (one_of y) (Branch Empty (record { time = t; process = x }) Empty) + way_total (one_of y) way ≤ 1
    single y x t way gone once =
        elim (cases_eq x.0 y) [
          | inl e ↦ (let no : way_total (one_of y) way ≡ 0 = subst (λ z. way_total (one_of z) way ≡ 0) e gone in omega (arith, one_of-le y (record { time = t; process = x })))
          | inr d ↦ omega (arith, one_of-zero y (record { time = t; process = x }) (ne_eqb x.0 y d))
        ]

-- ---- the whole, hung up

-- what climbing leaves is the tree of the nodes once its root is under none
pub IsHeld-whole : (nodes last : List Node) (link : Option ProcessNo) (way : List Step) (t : Tree) (h : ℕ) (l : List Notice) → (w : IsWhole nodes last link way t h) → ((x : ℕ) → total (one_of x) t + way_total (one_of x) way ≤ 1) → before way ++ (in_order t ++ after way) ≡ l → ((x : ℕ) → total (one_of x) t + way_total (one_of x) way ≡ 0 → (node_at nodes x).time ≡ None) → IsHeld (hung last link None) link l
IsHeld-whole nodes last link way t h l w once listed absent =
    subst (λ (k : Option ProcessNo). IsHeld (hung last k None) link l) w.top_is (record {
      tree = w.tree;
      rooted = record {
        stands = Stands-hung last w.parent None w.tree (λ x. omega (arith, w.totals (one_of x), once x)) w.stands;
        top_is = w.top_is;
        balanced = w.balanced;
        absent = λ x e.
            ap (λ (d : Node). d.time) (hung-kept last w.tree None x e ∙ w.kept x (omega (arith, w.totals (one_of x)))) ∙ absent x (omega (arith, w.totals (one_of x)));
      };
      listed = w.listed ∙ listed;
    })

pub IsHeld-put : (nodes new last : List Node) (spot : Spot) (front back : List Notice) (x : ProcessNo) (t : ℤ) (link : Option ProcessNo) → (o : IsOpen nodes spot front back) → (p : IsPut nodes new spot x t o.way) → IsWhole new last link o.way (Branch Empty (record { time = t; process = x }) Empty) 0 → IsHeld (hung last link None) link (front ++ record { time = t; process = x } ∷ back)
IsHeld-put nodes new last spot front back x t link o p w =
    let n : Notice = record { time = t; process = x } in
    IsHeld-whole new last link o.way (Branch Empty n Empty) 0 (front ++ n ∷ back) w p.gap.once
    (ap (λ (k : List Notice). k ++ (n ∷ after o.way)) o.front_is ∙ ap (λ (k : List Notice). front ++ n ∷ k) o.back_is)
    (λ y e. ap (λ (d : Node). d.time) (p.kept y (one_of-differs y n (omega arith)) (omega arith)) ∙ o.absent y (omega arith))
