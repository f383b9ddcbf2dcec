-- A notice goes: the two trees under its node become one.
use Rattle.std.proofs.Common.{◌≡◌, ◌≢◌, ℕ, ◌+◌, ◌^◌, ◌<◌, ◌≤◌, max, inl, inr, Option, Some, None, List, [], ◌∷◌, ◌++◌, length, set, refl, sym, ap, ◌∙◌, subst, arith, length-append, length-set}
use Rattle.std.proofs.lemmas.Bool.{cases_eq, ne_eqb, true≢false}
use Rattle.std.proofs.lemmas.List.{append_assoc, append-nil}
use Rattle.notices.specs.declared.notice.Notice.{Notice}
use Rattle.notices.specs.declared.notice.ProcessNo.{ProcessNo}
use Rattle.notices.specs.Notices.{removed}
use Rattle.notices.specs.Schedule.{IsSchedule}
use Rattle.notice_tree.specs.declared.node.Node.{Node}
use Rattle.notice_tree.specs.declared.spot.Spot.{Spot}
use Rattle.notice_tree.specs.declared.spot.Aim.TheVariants.{First, Last}
use Rattle.notice_tree.specs.Nodes.{node_at, vacant, hung}
use Rattle.notice_tree.specs.Trees.{Tree, Empty, Branch, in_order, height, top, total, one_of, one, NodeIs, IsBalanced, Stands, Step, OnLeft, OnRight, before, after, way_total, way_height, IsWayBalanced, TellHeights, WayStands}
use Rattle.notice_tree.specs.Balance.{AreParts, AreJoined, AreMerged}
use Rattle.notice_tree.specs.Climb.{IsGap, IsWhole}
use Rattle.notice_tree.specs.Spots.{front, back, IsParted, IsSought}
use Rattle.notice_tree.specs.Held.{IsHeld}
use Rattle.notice_tree.proofs.StandLemmas.{one_of-self, node_at-set_other, node_at-set_same, Stands-kept, TellHeights-kept, WayStands-kept}
use Rattle.notice_tree.proofs.ClimbLemmas.{near}
use Rattle.notice_tree.proofs.SpotLemmas.{empty_by_top}
use Rattle.notice_tree.proofs.ListLemmas.{removed-around, one_of-zero}
use Rattle.notice_tree.proofs.FindLemmas.{IsFound}
use Rattle.notice_tree.proofs.HeldLemmas.{IsAround-found, total-le_room, once_held}
use Rattle.notice_tree.proofs.InsertLemmas.{IsHeld-whole}

-- ---- the place before all, and the place after all

pub front_first : (l : List Notice) → front First l ≡ []
front_first [] = refl
front_first (n ∷ l) = front_first l

pub back_first : (l : List Notice) → back First l ≡ l
back_first [] = refl
back_first (n ∷ l) = ap (λ k. n ∷ k) (back_first l)

pub front_last : (l : List Notice) → front Last l ≡ l
front_last [] = refl
front_last (n ∷ l) = ap (λ k. n ∷ k) (front_last l)

pub back_last : (l : List Notice) → back Last l ≡ []
back_last [] = refl
back_last (n ∷ l) = back_last l

pub IsParted-first : (t : Tree) → IsParted First t
IsParted-first Empty = tt
IsParted-first (Branch l n r) = (
  λ e. absurd (true≢false (sym e)),
  λ e. absurd (true≢false (sym e)),
  λ e. front_first (in_order r),
  λ e. back_first (in_order r),
  IsParted-first l,
  IsParted-first r,
)

pub IsParted-last : (t : Tree) → IsParted Last t
IsParted-last Empty = tt
IsParted-last (Branch l n r) = (
  λ e. front_last (in_order l),
  λ e. back_last (in_order l),
  λ e. absurd (true≢false e),
  λ e. absurd (true≢false e),
  IsParted-last l,
  IsParted-last r,
)

-- ---- the first node of a tree

pub record IsFirst (nodes : List Node) (stop : Option ProcessNo) (r : Tree) (parent : Option ProcessNo) : Type 0 where
  pub first : Notice
  pub under : Tree
  pub way : List Step
  pub parent_is : parent ≡ Some first.process
  pub node : NodeIs nodes first None (top under)
  pub under_stands : Stands nodes (Some first.process) under
  pub way_stands : WayStands nodes stop (Some first.process) way (node_at nodes first.process.0).parent
  pub listed : in_order r ≡ first ∷ before way ++ (in_order under ++ after way)
  pub totals : (w : Notice → ℕ) → w first + total w under + way_total w way ≡ total w r
  pub balanced : IsBalanced r → IsBalanced under × IsWayBalanced (max 0 (height under) + 1) way
  pub height_is : way_height (max 0 (height under) + 1) way ≡ height r
  pub heights : TellHeights nodes (max 0 (height under) + 1) way

pub IsFirst-sought : (nodes : List Node) (stop : Option ProcessNo) (r : Tree) (spot : Spot) → 1 ≤ total one r → IsSought nodes stop First [] r spot → IsFirst nodes stop r spot.parent
IsFirst-sought nodes stop r spot some s =
    by_way s.way s.stands (s.in_front ∙ front_first (in_order r)) (s.behind ∙ append-nil (back First (in_order r)) ∙ back_first (in_order r)) s.totals (λ b. s.balanced b tt) s.height_is (s.heights tt)
  where
    by_way : (way : List Step) → WayStands nodes stop None way spot.parent → before way ≡ [] → after way ≡ in_order r → ((w : Notice → ℕ) → way_total w way ≡ total w r + 0) → (IsBalanced r → IsWayBalanced 0 way) → way_height 0 way ≡ height r → TellHeights nodes 0 way → IsFirst nodes stop r spot.parent
    by_way [] ws f b totals bal h hs = absurd (omega (arith, totals one))
    by_way (OnRight u n ∷ way) ws f b totals bal h hs =
        absurd (let len : length (before way ++ in_order u ++ n ∷ []) ≡ 0 = ap length f in
        omega (arith, length-append (before way ++ in_order u) (n ∷ [])))
    by_way (OnLeft n u ∷ way) ws f b totals bal h hs = record {
      first = n;
      under = u;
      way = way;
      parent_is = ws.0;
      node = ws.1;
      under_stands = ws.2;
      way_stands = ws.3;
      listed = sym b ∙ ap (λ k. n ∷ k ++ (in_order u ++ after way)) (sym f);
      totals = λ w. omega (arith, totals w);
      balanced = λ br. ((bal br).2, (bal br).3);
      height_is = h;
      heights = hs.1;
    }

-- the gap that the first node leaves
pub first_gap : (nodes : List Node) (process : ProcessNo) (r : Tree) (parent : Option ProcessNo) → (f : IsFirst nodes (Some process) r parent) → ((x : ℕ) → total (one_of x) r ≤ 1) → total (one_of process.0) r ≡ 0 → total one r ≤ length nodes → length nodes < 2 ^ 64 → IsBalanced r → IsGap nodes f.first.process (top f.under) (node_at nodes f.first.process.0).parent (Some process) f.way f.under (max 0 (height f.under) + 1)
first_gap nodes process r parent f once apart small short b = record {
  below_is = refl;
  old_parent = Some f.first.process;
  stands = f.under_stands;
  way_stands = f.way_stands;
  gone = omega (arith, f.totals (one_of f.first.process.0), once f.first.process.0, one_of-self f.first);
  root = λ x e. (let same : process ≡ x = cc in subst (λ (y : ProcessNo). way_total (one_of y.0) f.way ≡ 0) same (omega (arith, f.totals (one_of process.0))));
  once = λ x. omega (arith, f.totals (one_of x), once x);
  small = omega (arith, f.totals one);
  short = short;
  balanced = (f.balanced b).0;
  way_balanced = (f.balanced b).1;
  heights = f.heights;
  low = omega arith;
  high = omega arith;
}

-- ---- the two trees under a node become one

pub AreMerged-none : (nodes : List Node) (parent : Option ProcessNo) (l r : Tree) (n : Notice) (process : ProcessNo) → Stands nodes parent (Branch l n r) → n.process ≡ process → IsBalanced (Branch l n r) → (node_at nodes process.0).right ≡ None → AreMerged nodes nodes l n r (node_at nodes process.0).left
AreMerged-none nodes parent l r n process s is b none =
    let no_top : top r ≡ None = sym s.0.right ∙ subst (λ (x : ProcessNo). (node_at nodes x.0).right ≡ None) (sym is) none in
    let empty : r ≡ Empty = empty_by_top r no_top in
    subst (λ (k : Tree). AreMerged nodes nodes l n k (node_at nodes process.0).left) (sym empty) (record {
      tree = l;
      parent = Some n.process;
      stands = s.3;
      top_is = sym (subst (λ (x : ProcessNo). (node_at nodes x.0).left ≡ top l) is s.0.left);
      listed = sym (append-nil (in_order l));
      totals = λ w. omega arith;
      balanced = b.2;
      low = (let flat : height r ≡ 0 = ap height empty in omega (arith, b.0, b.1));
      high = omega arith;
      len = refl;
      kept = λ x e. refl;
    })

-- the rest of the right tree and the left one, around the first node
pub merge_parts : (nodes second : List Node) (parent : Option ProcessNo) (l r : Tree) (n : Notice) (process : ProcessNo) (at rest : Option ProcessNo) → Stands nodes parent (Branch l n r) → n.process ≡ process → IsBalanced (Branch l n r) → ((x : ℕ) → total (one_of x) (Branch l n r) ≤ 1) → total one (Branch l n r) ≤ length nodes → length nodes < 2 ^ 64 → (f : IsFirst nodes (Some process) r at) → (w : IsWhole nodes second rest f.way f.under (max 0 (height f.under) + 1)) → AreParts second (node_at nodes process.0).left f.first.process rest l f.first w.tree
unfolding one
merge_parts nodes second parent l r n process at rest s is b once small short f w =
    let same : node_at second f.first.process.0 ≡ node_at nodes f.first.process.0 = w.kept f.first.process.0 (omega (arith, f.totals (one_of f.first.process.0), once f.first.process.0, one_of-self f.first)) in
    record {
      process_is = refl;
      left_is = sym (subst (λ (x : ProcessNo). (node_at nodes x.0).left ≡ top l) is s.0.left);
      right_is = w.top_is;
      left_parent = Some n.process;
      right_parent = w.parent;
      left_stands = Stands-kept nodes second (Some n.process) l w.len (λ x h. w.kept x (omega (arith, f.totals (one_of x), once x))) s.3;
      right_stands = w.stands;
      within = omega (arith, f.node.within, w.len);
      time = ap (λ (d : Node). d.time) same ∙ f.node.time;
      once = λ x. omega (arith, once x, f.totals (one_of x), w.totals (one_of x));
      small = omega (arith, f.totals one, w.totals one);
      left_balanced = b.2;
      right_balanced = w.balanced;
    }

pub AreMerged-joined : (nodes second last : List Node) (l r : Tree) (n : Notice) (process : ProcessNo) (at rest : Option ProcessNo) (root : ProcessNo) → IsBalanced (Branch l n r) → (f : IsFirst nodes (Some process) r at) → (w : IsWhole nodes second rest f.way f.under (max 0 (height f.under) + 1)) → AreJoined second last l f.first w.tree root → AreMerged nodes last l n r (Some root)
AreMerged-joined nodes second last l r n process at rest root b f w j =
    let close = near (height r) (height w.tree) (height l) (height j.tree) b.1 b.0 (omega (arith, w.low, f.height_is)) (omega (arith, w.high, f.height_is))
    (λ a c. j.even c a ∙ omega arith) (omega (arith, j.low)) (omega (arith, j.high)) in
    record {
      tree = j.tree;
      parent = j.parent;
      stands = j.stands;
      top_is = j.top_is;
      listed = j.listed ∙ ap (λ k. in_order l ++ f.first ∷ k) w.listed ∙ ap (λ k. in_order l ++ k) (sym f.listed);
      totals = λ v. omega (arith, j.totals v, w.totals v, f.totals v);
      balanced = j.balanced;
      low = omega (arith, close.0);
      high = omega (arith, close.1);
      len = j.len ∙ w.len;
      kept = λ x e. j.kept x (omega (arith, w.totals (one_of x), f.totals (one_of x))) ∙ w.kept x (omega (arith, f.totals (one_of x)));
    }

-- ---- the gap that a node leaves

differs_by_count : (w : ℕ → ℕ) (x y : ℕ) → 1 ≤ w x → w y ≡ 0 → x ≢ y
differs_by_count w x y some none e = absurd (let no : w x ≡ 0 = ap w e ∙ none in omega arith)

-- what a process that is found counts for in the parts of the tree
process_counts : (nodes : List Node) (root : Option ProcessNo) (l : List Notice) (process : ProcessNo) → (h : IsHeld nodes root l) → IsSchedule l (length nodes) → (f : IsFound nodes None process.0 l (λ v. total v h.tree)) → (total (one_of process.0) f.left + total (one_of process.0) f.right ≡ 0) × (way_total (one_of process.0) f.way ≡ 0)
process_counts nodes root l process h s f =
    let once : total (one_of process.0) h.tree ≤ 1 = once_held nodes root l h s.once process.0 in
    let here : one_of process.0 f.notice ≡ 1 = subst (λ y. one_of y f.notice ≡ 1) f.is (one_of-self f.notice) in
    (omega (arith, f.totals (one_of process.0)), omega (arith, f.totals (one_of process.0)))

pub removal_gap : (nodes second : List Node) (root : Option ProcessNo) (l : List Notice) (process : ProcessNo) (below : Option ProcessNo) → (h : IsHeld nodes root l) → IsSchedule l (length nodes) → length nodes < 2 ^ 64 → (f : IsFound nodes None process.0 l (λ v. total v h.tree)) → (m : AreMerged nodes second f.left f.notice f.right below) → IsGap (set second process.0 vacant) process below (node_at nodes process.0).parent None f.way m.tree (height (Branch f.left f.notice f.right))
removal_gap nodes second root l process below h s short f m =
    let new : List Node = set second process.0 vacant in
    let len : length new ≡ length second = length-set second process.0 vacant in
    let once : (x : ℕ) → total (one_of x) h.tree ≤ 1 = once_held nodes root l h s.once in
    let is : f.notice.process ≡ process = (let make : ℕ → ProcessNo = λ k. record { 0 = k } in ap make f.is) in
    let up : f.parent ≡ (node_at nodes process.0).parent = sym f.stands.2 ∙ ap (λ (x : ProcessNo). (node_at nodes x.0).parent) is in
    let counts = process_counts nodes root l process h s f in
    let gone : total (one_of process.0) m.tree ≡ 0 = omega (arith, counts.0, m.totals (one_of process.0)) in
    let way1 : WayStands second None (Some f.notice.process) f.way f.parent = WayStands-kept nodes second None (Some f.notice.process) f.way f.parent m.len (λ x e. m.kept x (omega (arith, f.totals (one_of x), once x))) f.way_stands in
    let way2 : WayStands new None (Some f.notice.process) f.way f.parent =
    WayStands-kept second new None (Some f.notice.process) f.way f.parent len (λ x e. node_at-set_other second process.0 x vacant (differs_by_count (λ y. way_total (one_of y) f.way) x process.0 e counts.1)) way1 in
    record {
      below_is = m.top_is;
      old_parent = m.parent;
      stands = Stands-kept second new m.parent m.tree len (λ x e. node_at-set_other second process.0 x vacant (differs_by_count (λ y. total (one_of y) m.tree) x process.0 e gone)) m.stands;
      way_stands = subst (λ (p : Option ProcessNo). WayStands new None (Some process) f.way p) up (subst (λ (x : ProcessNo). WayStands new None (Some x) f.way f.parent) is way2);
      gone = counts.1;
      root = λ x e. absurd (cc);
      once = λ x. omega (arith, f.totals (one_of x), once x, m.totals (one_of x));
      small = omega (arith, f.totals one, m.totals one, m.len, total-le_room nodes root l h s);
      short = omega (arith, m.len);
      balanced = m.balanced;
      way_balanced = f.way_balanced;
      heights = TellHeights-kept nodes new (height (Branch f.left f.notice f.right)) f.way
          (λ x e. ap (λ (d : Node). d.height) (node_at-set_other second process.0 x vacant (differs_by_count (λ y. way_total (one_of y) f.way) x process.0 e counts.1) ∙ m.kept x (omega (arith, f.totals (one_of x), once x)))) f.way_heights;
      low = m.low;
      high = m.high;
    }

regroup : (b l r a : List Notice) → (b ++ l) ++ (r ++ a) ≡ b ++ ((l ++ r) ++ a)
regroup b l r a = simp append_assoc

-- the tree without the node, which is vacant
pub IsHeld-removed : (nodes second third : List Node) (root : Option ProcessNo) (l : List Notice) (process : ProcessNo) (below link : Option ProcessNo) → (h : IsHeld nodes root l) → (s : IsSchedule l (length nodes)) → (f : IsFound nodes None process.0 l (λ v. total v h.tree)) → (m : AreMerged nodes second f.left f.notice f.right below) → IsWhole (set second process.0 vacant) third link f.way m.tree (height (Branch f.left f.notice f.right)) → IsHeld (hung third link None) link (removed process.0 l)
IsHeld-removed nodes second third root l process below link h s f m w =
    let new : List Node = set second process.0 vacant in
    let once : (x : ℕ) → total (one_of x) h.tree ≤ 1 = once_held nodes root l h s.once in
    let around = IsAround-found nodes None process.0 l (λ v. total v h.tree) f s.once in
    let gone : removed process.0 l ≡ (before f.way ++ in_order f.left) ++ (in_order f.right ++ after f.way) =
    ap (removed process.0) (sym around.parts) ∙ removed-around process.0 (before f.way ++ in_order f.left) (in_order f.right ++ after f.way) f.notice around.front_lacks around.back_lacks f.is in
    let listed : before f.way ++ (in_order m.tree ++ after f.way) ≡ removed process.0 l =
    ap (λ k. before f.way ++ (k ++ after f.way)) m.listed ∙ sym (regroup (before f.way) (in_order f.left) (in_order f.right) (after f.way)) ∙ sym gone in
    let within : process.0 < length second = omega (arith, m.len, subst (λ y. y < length nodes) f.is f.stands.0.within) in
    IsHeld-whole new third link f.way m.tree (height (Branch f.left f.notice f.right)) (removed process.0 l) w
    (λ x. omega (arith, f.totals (one_of x), once x, m.totals (one_of x)))
    listed
    (λ x e. elim (cases_eq x process.0) [
      | inl same ↦ subst (λ y. (node_at new y).time ≡ None) (sym same) (ap (λ (d : Node). d.time) (node_at-set_same second process.0 vacant within))
      | inr other ↦
          (let apart : one_of x f.notice ≡ 0 = one_of-zero x f.notice (ne_eqb f.notice.process.0 x (λ k. other (sym k ∙ f.is))) in
          ap (λ (d : Node). d.time) (node_at-set_other second process.0 x vacant other ∙ m.kept x (omega (arith, m.totals (one_of x))))
          ∙ h.rooted.absent x (omega (arith, f.totals (one_of x), m.totals (one_of x))))
    ])
