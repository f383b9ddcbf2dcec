-- One step up the way, and the whole way.
use Rattle.std.proofs.Common.{◌≡◌, ◌≢◌, ℕ, ◌+◌, ◌≤◌, max, Bool, true, false, Option, Some, None, inl, inr, List, [], ◌∷◌, ◌++◌, length, refl, sym, ap, ◌∙◌, subst, arith}
use Rattle.std.proofs.lemmas.Bool.{cases_lt, true≢false}
use Rattle.std.proofs.lemmas.List.{append_assoc, append-nil}
use Rattle.notices.specs.declared.notice.Notice.{Notice}
use Rattle.notices.specs.declared.notice.ProcessNo.{ProcessNo}
use Rattle.notice_tree.specs.declared.node.Node.{Node}
use Rattle.notice_tree.specs.Nodes.{node_at}
use Rattle.notice_tree.specs.Trees.{Tree, Empty, Branch, in_order, height, top, total, one_of, one, NodeIs, Stands, Step, OnLeft, OnRight, before, after, way_total}
use Rattle.notice_tree.specs.Balance.{AreParts, AreJoined}
use Rattle.notice_tree.specs.Climb.{IsGap, IsOneUp, IsSettled, IsUp, IsWhole}
use Rattle.notice_tree.proofs.StandLemmas.{one_of-self, TellHeights-kept, WayStands-kept}

-- a tree at whose root x is counts it
pub total-top : (x : ProcessNo) (t : Tree) → top t ≡ Some x → 1 ≤ total (one_of x.0) t
total-top x Empty e = absurd (cc)
total-top x (Branch l n r) e =
    let same : n.process ≡ x = cc in
    let here : one_of x.0 n ≡ 1 = subst (λ (y : ProcessNo). one_of y.0 n ≡ 1) same (one_of-self n) in
    omega arith

-- ---- the parts of a step

parts_on_left : (nodes : List Node) (from process : ProcessNo) (below stop : Option ProcessNo) (n : Notice) (u : Tree) (way : List Step) (t : Tree) (h : ℕ) → IsGap nodes from below (Some process) stop (OnLeft n u ∷ way) t h → AreParts nodes below process (node_at nodes process.0).right t n u
unfolding one
parts_on_left nodes from process below stop n u way t h g =
    let is : n.process ≡ process = cc (g.way_stands.0) in
    record {
      process_is = is;
      left_is = g.below_is;
      right_is = sym (subst (λ (x : ProcessNo). (node_at nodes x.0).right ≡ top u) is g.way_stands.1.right);
      left_parent = g.old_parent;
      right_parent = Some n.process;
      left_stands = g.stands;
      right_stands = g.way_stands.2;
      within = g.way_stands.1.within;
      time = g.way_stands.1.time;
      once = λ x. omega (arith, g.once x);
      small = omega (arith, g.small, g.short);
      left_balanced = g.balanced;
      right_balanced = g.way_balanced.2;
    }

parts_on_right : (nodes : List Node) (from process : ProcessNo) (below stop : Option ProcessNo) (u : Tree) (n : Notice) (way : List Step) (t : Tree) (h : ℕ) → IsGap nodes from below (Some process) stop (OnRight u n ∷ way) t h → AreParts nodes (node_at nodes process.0).left process below u n t
unfolding one
parts_on_right nodes from process below stop u n way t h g =
    let is : n.process ≡ process = cc (g.way_stands.0) in
    record {
      process_is = is;
      left_is = sym (subst (λ (x : ProcessNo). (node_at nodes x.0).left ≡ top u) is g.way_stands.1.left);
      right_is = g.below_is;
      left_parent = Some n.process;
      right_parent = g.old_parent;
      left_stands = g.way_stands.2;
      right_stands = g.stands;
      within = g.way_stands.1.within;
      time = g.way_stands.1.time;
      once = λ x. omega (arith, g.once x);
      small = omega (arith, g.small, g.short);
      left_balanced = g.way_balanced.2;
      right_balanced = g.balanced;
    }

-- the node that is gone was the left one
pub one_up_left : (nodes new : List Node) (from process root : ProcessNo) (below stop : Option ProcessNo) (step : Step) (way : List Step) (t : Tree) (h : ℕ) → IsGap nodes from below (Some process) stop (step ∷ way) t h → (node_at nodes process.0).left ≡ Some from → ((l r : Tree) (n : Notice) → AreParts nodes below process (node_at nodes process.0).right l n r → height l ≤ height r + 2 → height r ≤ height l + 2 → AreJoined nodes new l n r root) → IsOneUp nodes new step t root
one_up_left nodes new from process root below stop (OnLeft n u) way t h g link made =
    made t u n (parts_on_left nodes from process below stop n u way t h g) (omega (arith, g.low, g.high, g.way_balanced.0, g.way_balanced.1)) (omega (arith, g.low, g.high, g.way_balanced.0, g.way_balanced.1))
one_up_left nodes new from process root below stop (OnRight u n) way t h g link made =
    let is : n.process ≡ process = cc (g.way_stands.0) in
    let at_top : top u ≡ Some from = sym (subst (λ (x : ProcessNo). (node_at nodes x.0).left ≡ top u) is g.way_stands.1.left) ∙ link in
    absurd (omega (arith, total-top from u at_top, g.gone))

pub one_up_right : (nodes new : List Node) (from process root : ProcessNo) (below stop : Option ProcessNo) (step : Step) (way : List Step) (t : Tree) (h : ℕ) → IsGap nodes from below (Some process) stop (step ∷ way) t h → (node_at nodes process.0).left ≢ Some from → ((l r : Tree) (n : Notice) → AreParts nodes (node_at nodes process.0).left process below l n r → height l ≤ height r + 2 → height r ≤ height l + 2 → AreJoined nodes new l n r root) → IsOneUp nodes new step t root
one_up_right nodes new from process root below stop (OnLeft n u) way t h g link made =
    let is : n.process ≡ process = cc (g.way_stands.0) in
    absurd (link (subst (λ (x : ProcessNo). (node_at nodes x.0).left ≡ Some from) is g.way_stands.1.left))
one_up_right nodes new from process root below stop (OnRight u n) way t h g link made =
    made u t n (parts_on_right nodes from process below stop u n way t h g) (omega (arith, g.low, g.high, g.way_balanced.0, g.way_balanced.1)) (omega (arith, g.low, g.high, g.way_balanced.0, g.way_balanced.1))

-- ---- what is left of the way

pub near : (h t u k : ℕ) → h ≤ u + 1 → u ≤ h + 1 → h ≤ t + 1 → t ≤ h + 1 → (t ≤ u + 1 → u ≤ t + 1 → k ≡ max t u + 1) → max t u ≤ k → k ≤ max t u + 1 → (max h u + 1 ≤ k + 1) × (k ≤ max h u + 1 + 1)
near h t u k a b c d even low high =
    elim (cases_lt (u + 1) t) [
      | inl lt ↦ (omega arith, omega arith)
      | inr ge ↦ elim (cases_lt (t + 1) u) [
        | inl lt ↦ (omega arith, omega arith)
        | inr le ↦ (let e : k ≡ max t u + 1 = even (omega arith) (omega arith) in (omega arith, omega arith))
      ]
    ]

next_on_left : (nodes new : List Node) (from root : ProcessNo) (below parent stop : Option ProcessNo) (n : Notice) (u : Tree) (way : List Step) (t : Tree) (h : ℕ) → IsGap nodes from below parent stop (OnLeft n u ∷ way) t h → (j : AreJoined nodes new t n u root) → IsGap new n.process (Some root) (node_at nodes n.process.0).parent stop way j.tree (max h (height u) + 1)
next_on_left nodes new from root below parent stop n u way t h g j =
    let close = near h (height t) (height u) (height j.tree) g.way_balanced.0 g.way_balanced.1 g.low g.high j.even j.low j.high in
    record {
      below_is = j.top_is;
      old_parent = j.parent;
      stands = j.stands;
      way_stands = WayStands-kept nodes new stop (Some n.process) way (node_at nodes n.process.0).parent j.len (λ x e. j.kept x (omega (arith, g.once x))) g.way_stands.3;
      gone = omega (arith, g.once n.process.0, one_of-self n);
      root = λ x e. omega (arith, g.root x e);
      once = λ x. omega (arith, g.once x, j.totals (one_of x));
      small = omega (arith, g.small, j.totals one, j.len);
      short = omega (arith, g.short, j.len);
      balanced = j.balanced;
      way_balanced = g.way_balanced.3;
      heights = TellHeights-kept nodes new (max h (height u) + 1) way (λ x e. ap (λ (d : Node). d.height) (j.kept x (omega (arith, g.once x)))) g.heights.1;
      low = close.0;
      high = close.1;
    }

next_on_right : (nodes new : List Node) (from root : ProcessNo) (below parent stop : Option ProcessNo) (u : Tree) (n : Notice) (way : List Step) (t : Tree) (h : ℕ) → IsGap nodes from below parent stop (OnRight u n ∷ way) t h → (j : AreJoined nodes new u n t root) → IsGap new n.process (Some root) (node_at nodes n.process.0).parent stop way j.tree (max h (height u) + 1)
next_on_right nodes new from root below parent stop u n way t h g j =
    let close = near h (height t) (height u) (height j.tree) g.way_balanced.0 g.way_balanced.1 g.low g.high (λ a b. j.even b a ∙ omega arith) (omega (arith, j.low)) (omega (arith, j.high)) in
    record {
      below_is = j.top_is;
      old_parent = j.parent;
      stands = j.stands;
      way_stands = WayStands-kept nodes new stop (Some n.process) way (node_at nodes n.process.0).parent j.len (λ x e. j.kept x (omega (arith, g.once x))) g.way_stands.3;
      gone = omega (arith, g.once n.process.0, one_of-self n);
      root = λ x e. omega (arith, g.root x e);
      once = λ x. omega (arith, g.once x, j.totals (one_of x));
      small = omega (arith, g.small, j.totals one, j.len);
      short = omega (arith, g.short, j.len);
      balanced = j.balanced;
      way_balanced = g.way_balanced.3;
      heights = TellHeights-kept nodes new (max h (height u) + 1) way (λ x e. ap (λ (d : Node). d.height) (j.kept x (omega (arith, g.once x)))) g.heights.1;
      low = close.0;
      high = close.1;
    }

regroup_on_left : (b t a u : List Notice) (n : Notice) → b ++ ((t ++ n ∷ u) ++ a) ≡ b ++ (t ++ n ∷ (u ++ a))
regroup_on_left b t a u n = simp append_assoc

regroup_on_right : (b t a u : List Notice) (n : Notice) → b ++ ((u ++ n ∷ t) ++ a) ≡ (b ++ u ++ n ∷ []) ++ (t ++ a)
regroup_on_right b t a u n = simp append_assoc

whole_on_left : (nodes new last : List Node) (link : Option ProcessNo) (root : ProcessNo) (n : Notice) (u : Tree) (way : List Step) (t : Tree) (h : ℕ) → (j : AreJoined nodes new t n u root) → IsWhole new last link way j.tree (max h (height u) + 1) → IsWhole nodes last link (OnLeft n u ∷ way) t h
whole_on_left nodes new last link root n u way t h j w = record {
  tree = w.tree;
  parent = w.parent;
  stands = w.stands;
  top_is = w.top_is;
  listed = w.listed ∙ ap (λ k. before way ++ (k ++ after way)) j.listed ∙ regroup_on_left (before way) (in_order t) (after way) (in_order u) n;
  totals = λ f. omega (arith, w.totals f, j.totals f);
  balanced = w.balanced;
  low = w.low;
  high = w.high;
  len = w.len ∙ j.len;
  kept = λ x e. w.kept x (omega (arith, j.totals (one_of x))) ∙ j.kept x (omega arith);
}

whole_on_right : (nodes new last : List Node) (link : Option ProcessNo) (root : ProcessNo) (u : Tree) (n : Notice) (way : List Step) (t : Tree) (h : ℕ) → (j : AreJoined nodes new u n t root) → IsWhole new last link way j.tree (max h (height u) + 1) → IsWhole nodes last link (OnRight u n ∷ way) t h
whole_on_right nodes new last link root u n way t h j w = record {
  tree = w.tree;
  parent = w.parent;
  stands = w.stands;
  top_is = w.top_is;
  listed = w.listed ∙ ap (λ k. before way ++ (k ++ after way)) j.listed ∙ regroup_on_right (before way) (in_order t) (after way) (in_order u) n;
  totals = λ f. omega (arith, w.totals f, j.totals f);
  balanced = w.balanced;
  low = w.low;
  high = w.high;
  len = w.len ∙ j.len;
  kept = λ x e. w.kept x (omega (arith, j.totals (one_of x))) ∙ j.kept x (omega arith);
}

-- ---- a tree that is settled

-- the node of the root tells the height of the tree and what it is under
root_tells : (nodes : List Node) (parent : Option ProcessNo) (t : Tree) (x : ProcessNo) → top t ≡ Some x → Stands nodes parent t → ((node_at nodes x.0).parent ≡ parent) × ((node_at nodes x.0).height ≡ height t)
root_tells nodes parent Empty x e s = absurd (cc)
root_tells nodes parent (Branch l n r) x e s =
    let is : n.process ≡ x = cc in (
      subst (λ (y : ProcessNo). (node_at nodes y.0).parent ≡ parent) is s.2,
      subst (λ (y : ProcessNo). (node_at nodes y.0).height ≡ height (Branch l n r)) is s.1,
    )

-- what is above it stands already
pub settled_up : (nodes : List Node) (from process : ProcessNo) (below stop : Option ProcessNo) (step : Step) (way : List Step) (t : Tree) (h : ℕ) → IsGap nodes from below (Some process) stop (step ∷ way) t h → IsSettled nodes from (Some process) t h → IsUp nodes nodes step t process process h true
settled_up nodes from process below stop (OnLeft n u) way t h g s =
    let is : n.process ≡ process = cc (g.way_stands.0) in
    let node : NodeIs nodes n (top t) (top u) = subst (λ (k : Option ProcessNo). NodeIs nodes n k (top u)) (sym s.top_is) g.way_stands.1 in
    let high : (node_at nodes n.process.0).height ≡ max (height t) (height u) + 1 = g.heights.0 ∙ ap (λ k. max k (height u) + 1) (sym s.as_high) in
    let stands : Stands nodes (node_at nodes n.process.0).parent (Branch t n u) = (node, high, refl, subst (λ (x : ProcessNo). Stands nodes (Some x) t) (sym is) s.stands, g.way_stands.2) in
    record {
      up = record {
        tree = Branch t n u;
        parent = (node_at nodes n.process.0).parent;
        stands = stands;
        top_is = ap (λ (x : ProcessNo). Some x) is;
        listed = refl;
        totals = λ w. refl;
        balanced = (omega (arith, s.as_high, g.way_balanced.0), omega (arith, s.as_high, g.way_balanced.1), g.balanced, g.way_balanced.2);
        even = λ _ _. refl;
        low = omega arith;
        high = omega arith;
        len = refl;
        kept = λ x e. refl;
      };
      settles = λ _. record {
        stands = subst (λ (x : ProcessNo). Stands nodes (node_at nodes x.0).parent (Branch t n u)) is stands;
        top_is = ap (λ (x : ProcessNo). Some x) is;
        as_high = ap (λ k. max k (height u) + 1) s.as_high;
      };
    }
settled_up nodes from process below stop (OnRight u n) way t h g s =
    let is : n.process ≡ process = cc (g.way_stands.0) in
    let node : NodeIs nodes n (top u) (top t) = subst (λ (k : Option ProcessNo). NodeIs nodes n (top u) k) (sym s.top_is) g.way_stands.1 in
    let swap : max h (height u) + 1 ≡ max (height u) (height t) + 1 = omega (arith, s.as_high) in
    let high : (node_at nodes n.process.0).height ≡ max (height u) (height t) + 1 = g.heights.0 ∙ swap in
    let stands : Stands nodes (node_at nodes n.process.0).parent (Branch u n t) = (node, high, refl, g.way_stands.2, subst (λ (x : ProcessNo). Stands nodes (Some x) t) (sym is) s.stands) in
    record {
      up = record {
        tree = Branch u n t;
        parent = (node_at nodes n.process.0).parent;
        stands = stands;
        top_is = ap (λ (x : ProcessNo). Some x) is;
        listed = refl;
        totals = λ w. refl;
        balanced = (omega (arith, s.as_high, g.way_balanced.1), omega (arith, s.as_high, g.way_balanced.0), g.way_balanced.2, g.balanced);
        even = λ _ _. refl;
        low = omega arith;
        high = omega arith;
        len = refl;
        kept = λ x e. refl;
      };
      settles = λ _. record {
        stands = subst (λ (x : ProcessNo). Stands nodes (node_at nodes x.0).parent (Branch u n t)) is stands;
        top_is = ap (λ (x : ProcessNo). Some x) is;
        as_high = sym swap;
      };
    }

-- the root is the old one, under the same parent and as high as before
abbrev pub IsAsBefore : (nodes new : List Node) (root process : ProcessNo) → Type 0
IsAsBefore nodes new root process = (root ≡ process) × ((node_at new process.0).parent ≡ (node_at nodes process.0).parent) × ((node_at new process.0).height ≡ (node_at nodes process.0).height)

settles_by : (nodes new : List Node) (n : Notice) (process root : ProcessNo) (parent : Option ProcessNo) (tree : Tree) (high : ℕ) → n.process ≡ process → Stands new parent tree → top tree ≡ Some root → (node_at nodes n.process.0).height ≡ high → IsAsBefore nodes new root process → IsSettled new process (node_at nodes process.0).parent tree high
settles_by nodes new n process root parent tree high is stands top_is told w =
    let at_top : top tree ≡ Some process = top_is ∙ ap (λ (x : ProcessNo). Some x) w.0 in
    let root_is = root_tells new parent tree process at_top stands in
    record {
      stands = subst (λ (q : Option ProcessNo). Stands new q tree) (sym root_is.0 ∙ w.1) stands;
      top_is = at_top;
      as_high = sym root_is.1 ∙ w.2 ∙ subst (λ (x : ProcessNo). (node_at nodes x.0).height ≡ high) is told;
    }

pub joined_up : (nodes new : List Node) (from process root : ProcessNo) (below stop : Option ProcessNo) (step : Step) (way : List Step) (t : Tree) (h : ℕ) (settled : Bool) → IsGap nodes from below (Some process) stop (step ∷ way) t h → IsOneUp nodes new step t root → (settled ≡ true → IsAsBefore nodes new root process) → IsUp nodes new step t process root h settled
joined_up nodes new from process root below stop (OnLeft n u) way t h settled g j test = record {
  up = j;
  settles = λ e. settles_by nodes new n process root j.parent j.tree (max h (height u) + 1) (cc (g.way_stands.0)) j.stands j.top_is g.heights.0 (test e);
}
joined_up nodes new from process root below stop (OnRight u n) way t h settled g j test = record {
  up = j;
  settles = λ e. settles_by nodes new n process root j.parent j.tree (max h (height u) + 1) (cc (g.way_stands.0)) j.stands j.top_is g.heights.0 (test e);
}

-- ---- the loop

-- after i steps: what is left to do, and that it makes the whole
pub record IsClimbing (old nodes : List Node) (from : ProcessNo) (below parent stop : Option ProcessNo) (settled : Bool) (way : List Step) (t : Tree) (h i : ℕ) : Type 0 where
  pub rest : List Step
  pub tree : Tree
  pub hole : ℕ
  pub gap : IsGap nodes from below parent stop rest tree hole
  pub steps : length rest + i ≡ length way
  pub ends : (new : List Node) (link : Option ProcessNo) → IsWhole nodes new link rest tree hole → IsWhole old new link way t h
  pub settles : settled ≡ true → IsSettled nodes from parent tree hole

pub IsClimbing-begun : (nodes : List Node) (from : ProcessNo) (below parent stop : Option ProcessNo) (way : List Step) (t : Tree) (h : ℕ) → IsGap nodes from below parent stop way t h → IsClimbing nodes nodes from below parent stop false way t h 0
IsClimbing-begun nodes from below parent stop way t h g = record {
  rest = way;
  tree = t;
  hole = h;
  gap = g;
  steps = omega arith;
  ends = λ new link w. w;
  settles = λ e. absurd (true≢false (sym e));
}

-- a way is no longer than its notices are many
pub length-le_total : (way : List Step) → length way ≤ way_total one way
unfolding one
length-le_total [] = omega arith
length-le_total (OnLeft n u ∷ way) = omega (arith, length-le_total way)
length-le_total (OnRight u n ∷ way) = omega (arith, length-le_total way)

pub IsClimbing-more : (old nodes new : List Node) (from process root : ProcessNo) (below stop : Option ProcessNo) (settled settled2 : Bool) (way : List Step) (t : Tree) (h i : ℕ) → Some process ≢ stop → IsClimbing old nodes from below (Some process) stop settled way t h i → ((stop : Option ProcessNo) (step : Step) (way : List Step) (t : Tree) (h : ℕ) → IsGap nodes from below (Some process) stop (step ∷ way) t h → (settled ≡ true → IsSettled nodes from (Some process) t h) → IsUp nodes new step t process root h settled2) → IsClimbing old new process (Some root) (node_at nodes process.0).parent stop settled2 way t h (i + 1)
IsClimbing-more old nodes new from process root below stop settled settled2 way t h i on c made =
    by_rest c.rest c.tree c.hole c.gap c.steps c.ends c.settles
  where
    by_rest : (rest : List Step) (tree : Tree) (hole : ℕ) → IsGap nodes from below (Some process) stop rest tree hole → length rest + i ≡ length way → ((last : List Node) (link : Option ProcessNo) → IsWhole nodes last link rest tree hole → IsWhole old last link way t h) → (settled ≡ true → IsSettled nodes from (Some process) tree hole) → IsClimbing old new process (Some root) (node_at nodes process.0).parent stop settled2 way t h (i + 1)
    by_rest [] tree hole g steps ends settles = absurd (on g.way_stands)
    by_rest (OnLeft n u ∷ rest) tree hole g steps ends settles =
        let m : IsUp nodes new (OnLeft n u) tree process root hole settled2 = made stop (OnLeft n u) rest tree hole g settles in
        let j : AreJoined nodes new tree n u root = m.up in
        let is : n.process ≡ process = cc (g.way_stands.0) in
        record {
          rest = rest;
          tree = j.tree;
          hole = max hole (height u) + 1;
          gap = subst (λ (x : ProcessNo). IsGap new x (Some root) (node_at nodes x.0).parent stop rest j.tree (max hole (height u) + 1)) is (next_on_left nodes new from root below (Some process) stop n u rest tree hole g j);
          steps = omega arith;
          ends = λ last link w. ends last link (whole_on_left nodes new last link root n u rest tree hole j w);
          settles = m.settles;
        }
    by_rest (OnRight u n ∷ rest) tree hole g steps ends settles =
        let m : IsUp nodes new (OnRight u n) tree process root hole settled2 = made stop (OnRight u n) rest tree hole g settles in
        let j : AreJoined nodes new u n tree root = m.up in
        let is : n.process ≡ process = cc (g.way_stands.0) in
        record {
          rest = rest;
          tree = j.tree;
          hole = max hole (height u) + 1;
          gap = subst (λ (x : ProcessNo). IsGap new x (Some root) (node_at nodes x.0).parent stop rest j.tree (max hole (height u) + 1)) is (next_on_right nodes new from root below (Some process) stop u n rest tree hole g j);
          steps = omega arith;
          ends = λ last link w. ends last link (whole_on_right nodes new last link root u n rest tree hole j w);
          settles = m.settles;
        }

-- at the end of the way the tree is the whole
whole_at_end : (nodes : List Node) (from : ProcessNo) (below parent stop : Option ProcessNo) (t : Tree) (h : ℕ) → IsGap nodes from below parent stop [] t h → IsWhole nodes nodes below [] t h
whole_at_end nodes from below parent stop t h g = record {
  tree = t;
  parent = g.old_parent;
  stands = g.stands;
  top_is = g.below_is;
  listed = sym (append-nil (in_order t));
  totals = λ w. omega arith;
  balanced = g.balanced;
  low = g.low;
  high = g.high;
  len = refl;
  kept = λ x e. refl;
}

pub IsClimbing-ended : (old nodes : List Node) (from : ProcessNo) (below parent stop : Option ProcessNo) (settled : Bool) (way : List Step) (t : Tree) (h i : ℕ) → (c : IsClimbing old nodes from below parent stop settled way t h i) → c.rest ≡ [] → IsWhole old nodes below way t h
IsClimbing-ended old nodes from below parent stop settled way t h i c none =
    c.ends nodes below (subst (λ (r : List Step). IsWhole nodes nodes below r c.tree c.hole) (sym none)
    (whole_at_end nodes from below parent stop c.tree c.hole (subst (λ (r : List Step). IsGap nodes from below parent stop r c.tree c.hole) none c.gap)))

-- why the way is at its end
pub end_by_stop : (nodes : List Node) (from : ProcessNo) (below parent stop : Option ProcessNo) (way : List Step) (t : Tree) (h : ℕ) → IsGap nodes from below parent stop way t h → parent ≡ stop → way ≡ []
end_by_stop nodes from below parent stop [] t h g e = refl
end_by_stop nodes from below parent stop (OnLeft n u ∷ way) t h g e =
    absurd (omega (arith, g.root n.process (sym e ∙ g.way_stands.0), one_of-self n))
end_by_stop nodes from below parent stop (OnRight u n ∷ way) t h g e =
    absurd (omega (arith, g.root n.process (sym e ∙ g.way_stands.0), one_of-self n))

pub end_by_none : (nodes : List Node) (from : ProcessNo) (below parent stop : Option ProcessNo) (way : List Step) (t : Tree) (h : ℕ) → IsGap nodes from below parent stop way t h → parent ≡ None → way ≡ []
end_by_none nodes from below parent stop [] t h g e = refl
end_by_none nodes from below parent stop (OnLeft n u ∷ way) t h g e = absurd (let no : None ≡ Some n.process = sym e ∙ g.way_stands.0 in cc)
end_by_none nodes from below parent stop (OnRight u n ∷ way) t h g e = absurd (let no : None ≡ Some n.process = sym e ∙ g.way_stands.0 in cc)

pub end_by_length : (rest : List Step) → length rest ≡ 0 → rest ≡ []
end_by_length [] e = refl
end_by_length (s ∷ rest) e = absurd (omega arith)
