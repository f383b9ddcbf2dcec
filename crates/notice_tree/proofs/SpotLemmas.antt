-- The way down to an empty place, and the way up to the notice behind a place.
use Rattle.std.proofs.Common.{◌≡◌, ◌≢◌, ℕ, pos, eqb, ◌+◌, ◌≤◌, max, Bool, true, false, not, cond, Option, Some, None, List, [], ◌∷◌, ◌++◌, length, refl, sym, ap, ◌∙◌, subst, arith}
use Rattle.std.specs.List.{filter}
use Rattle.std.proofs.lemmas.Bool.{cond-true, cond-false, true≢false, true_from_ne_false, false_from_ne_true}
use Rattle.std.proofs.lemmas.List.{append_assoc, append-nil}
use Rattle.std.proofs.lemmas.List.Elements.{filter-append}
use Rattle.notices.specs.declared.notice.Notice.{Notice}
use Rattle.notices.specs.declared.notice.ProcessNo.{ProcessNo}
use Rattle.notice_tree.specs.declared.node.Node.{Node}
use Rattle.notice_tree.specs.declared.spot.Spot.{Spot}
use Rattle.notice_tree.specs.declared.spot.Aim.{Aim}
use Rattle.notice_tree.specs.Nodes.{node_at}
use Rattle.notice_tree.specs.Trees.{Tree, Empty, Branch, in_order, height, top, one_of, Stands, Step, OnLeft, OnRight, before, after, way_total, way_height, IsWayBalanced, TellHeights, WayStands}
use Rattle.notice_tree.specs.Spots.{stands_in_front, front, back, IsParted, SideIs, IsSought, first_process}
use Rattle.notice_tree.proofs.StandLemmas.{one_of-self}
use Rattle.notice_tree.proofs.ClimbLemmas.{total-top}

-- ---- the parts of a list around a notice

filter-yes : (p : Notice → Bool) (n : Notice) (l : List Notice) → p n ≡ true → filter p (n ∷ l) ≡ n ∷ filter p l
filter-yes p n l e = cond-true (p n) (n ∷ filter p l) (filter p l) e

filter-no : (p : Notice → Bool) (n : Notice) (l : List Notice) → p n ≡ false → filter p (n ∷ l) ≡ filter p l
filter-no p n l e = cond-false (p n) (n ∷ filter p l) (filter p l) e

not_true : (b : Bool) → b ≡ true → not b ≡ false
not_true b e = ap not e

not_false : (b : Bool) → b ≡ false → not b ≡ true
not_false b e = ap not e

front_beyond : (aim : Aim) (l r : List Notice) (n : Notice) → stands_in_front aim n ≡ true → front aim l ≡ l → front aim (l ++ n ∷ r) ≡ l ++ n ∷ front aim r
front_beyond aim l r n e f =
    filter-append (stands_in_front aim) l (n ∷ r) ∙ ap (λ k. k ++ front aim (n ∷ r)) f ∙ ap (λ k. l ++ k) (filter-yes (stands_in_front aim) n r e)

back_beyond : (aim : Aim) (l r : List Notice) (n : Notice) → stands_in_front aim n ≡ true → back aim l ≡ [] → back aim (l ++ n ∷ r) ≡ back aim r
back_beyond aim l r n e f =
    filter-append (λ m. not (stands_in_front aim m)) l (n ∷ r) ∙ ap (λ k. k ++ back aim (n ∷ r)) f ∙ filter-no (λ m. not (stands_in_front aim m)) n r (not_true _ e)

front_within : (aim : Aim) (l r : List Notice) (n : Notice) → stands_in_front aim n ≡ false → front aim r ≡ [] → front aim (l ++ n ∷ r) ≡ front aim l
front_within aim l r n e f =
    filter-append (stands_in_front aim) l (n ∷ r) ∙ ap (λ k. front aim l ++ k) (filter-no (stands_in_front aim) n r e ∙ f) ∙ append-nil (front aim l)

back_within : (aim : Aim) (l r : List Notice) (n : Notice) → stands_in_front aim n ≡ false → back aim r ≡ r → back aim (l ++ n ∷ r) ≡ back aim l ++ n ∷ r
back_within aim l r n e f =
    filter-append (λ m. not (stands_in_front aim m)) l (n ∷ r) ∙ ap (λ k. back aim l ++ k) (filter-yes (λ m. not (stands_in_front aim m)) n r (not_false _ e) ∙ ap (λ k. n ∷ k) f)

-- ---- one step down

pub record IsSeeking (nodes : List Node) (stop : Option ProcessNo) (aim : Aim) (spot : Spot) (link : Option ProcessNo) (way : List Step) (t : Tree) (i : ℕ) : Type 0 where
  pub here : List Step
  pub tree : Tree
  pub way_stands : WayStands nodes stop link here spot.parent
  pub side : SideIs spot.on_left here
  pub stands : Stands nodes spot.parent tree
  pub top_is : top tree ≡ link
  pub parted : IsParted aim tree
  pub steps : height tree + i ≤ height t
  pub ends : (last : Spot) → IsSought nodes stop aim here tree last → IsSought nodes stop aim way t last

pub IsSeeking-begun : (nodes : List Node) (stop : Option ProcessNo) (aim : Aim) (spot : Spot) (link : Option ProcessNo) (way : List Step) (t : Tree) → WayStands nodes stop link way spot.parent → SideIs spot.on_left way → Stands nodes spot.parent t → top t ≡ link → IsParted aim t → IsSeeking nodes stop aim spot link way t 0
IsSeeking-begun nodes stop aim spot link way t ws side s is parted = record {
  here = way;
  tree = t;
  way_stands = ws;
  side = side;
  stands = s;
  top_is = is;
  parted = parted;
  steps = omega arith;
  ends = λ last w. w;
}

regroup_front : (a l f : List Notice) (n : Notice) → (a ++ l ++ n ∷ []) ++ f ≡ a ++ (l ++ n ∷ f)
regroup_front a l f n = simp append_assoc

sought_right : (nodes : List Node) (stop : Option ProcessNo) (aim : Aim) (last : Spot) (l : Tree) (n : Notice) (r : Tree) (way : List Step) → (node_at nodes n.process.0).height ≡ max (height l) (height r) + 1 → IsParted aim (Branch l n r) → stands_in_front aim n ≡ true → IsSought nodes stop aim (OnRight l n ∷ way) r last → IsSought nodes stop aim way (Branch l n r) last
sought_right nodes stop aim last l n r way high parted e s = record {
  way = s.way;
  stands = s.stands;
  side = s.side;
  in_front = s.in_front ∙ regroup_front (before way) (in_order l) (front aim (in_order r)) n ∙ ap (λ k. before way ++ k) (sym (front_beyond aim (in_order l) (in_order r) n e (parted.0 e)));
  behind = s.behind ∙ ap (λ k. k ++ after way) (sym (back_beyond aim (in_order l) (in_order r) n e (parted.1 e)));
  totals = λ w. omega (arith, s.totals w);
  balanced = λ b z. s.balanced b.3 (omega (arith, b.0), omega (arith, b.1), b.2, subst (λ h. IsWayBalanced (h + 1) way) (max_swap (height l) (height r)) z);
  height_is = s.height_is ∙ ap (λ h. way_height (h + 1) way) (sym (max_swap (height l) (height r)));
  heights = λ z. s.heights (high ∙ ap (λ h. h + 1) (max_swap (height l) (height r)), subst (λ h. TellHeights nodes (h + 1) way) (max_swap (height l) (height r)) z);
}
  where
    max_swap : (a b : ℕ) → max a b ≡ max b a
    max_swap a b = omega arith

sought_left : (nodes : List Node) (stop : Option ProcessNo) (aim : Aim) (last : Spot) (l : Tree) (n : Notice) (r : Tree) (way : List Step) → (node_at nodes n.process.0).height ≡ max (height l) (height r) + 1 → IsParted aim (Branch l n r) → stands_in_front aim n ≡ false → IsSought nodes stop aim (OnLeft n r ∷ way) l last → IsSought nodes stop aim way (Branch l n r) last
sought_left nodes stop aim last l n r way high parted e s = record {
  way = s.way;
  stands = s.stands;
  side = s.side;
  in_front = s.in_front ∙ ap (λ k. before way ++ k) (sym (front_within aim (in_order l) (in_order r) n e (parted.2 e)));
  behind = s.behind ∙ sym (append_assoc (back aim (in_order l)) (n ∷ in_order r) (after way)) ∙ ap (λ k. k ++ after way) (sym (back_within aim (in_order l) (in_order r) n e (parted.3 e)));
  totals = λ w. omega (arith, s.totals w);
  balanced = λ b z. s.balanced b.2 (b.0, b.1, b.3, z);
  height_is = s.height_is;
  heights = λ z. s.heights (high, z);
}

pub IsSeeking-more : (nodes : List Node) (stop : Option ProcessNo) (aim : Aim) (spot : Spot) (process : ProcessNo) (way : List Step) (t : Tree) (i : ℕ) (on_left : Bool) → IsSeeking nodes stop aim spot (Some process) way t i → ((n : Notice) → (node_at nodes process.0).time ≡ Some n.time → on_left ≡ not (stands_in_front aim n)) → IsSeeking nodes stop aim (record { parent = Some process; on_left = on_left }) (cond on_left (node_at nodes process.0).left (node_at nodes process.0).right) way t (i + 1)
IsSeeking-more nodes stop aim spot process way t i on_left s test =
    by_tree s.tree s.here s.way_stands s.stands s.top_is s.parted s.steps s.ends
  where
    by_side : (b : Bool) (l : Tree) (n : Notice) (r : Tree) (here : List Step) → stands_in_front aim n ≡ b → n.process ≡ process → WayStands nodes stop (Some process) here spot.parent → Stands nodes spot.parent (Branch l n r) → IsParted aim (Branch l n r) → height (Branch l n r) + i ≤ height t → ((last : Spot) → IsSought nodes stop aim here (Branch l n r) last → IsSought nodes stop aim way t last) → IsSeeking nodes stop aim (record { parent = Some process; on_left = not b }) (cond (not b) (node_at nodes process.0).left (node_at nodes process.0).right) way t (i + 1)
    by_side true l n r here e is ws st parted steps ends = record {
      here = OnRight l n ∷ here;
      tree = r;
      way_stands = (
        ap (λ (x : ProcessNo). Some x) (sym is),
        record {
          within = st.0.within;
          time = st.0.time;
          left = st.0.left;
          right = subst (λ (x : ProcessNo). (node_at nodes n.process.0).right ≡ (node_at nodes x.0).right) is refl;
        },
        st.3,
        subst (λ (p : Option ProcessNo). WayStands nodes stop (Some n.process) here p) (sym st.2) (subst (λ (x : ProcessNo). WayStands nodes stop (Some x) here spot.parent) (sym is) ws),
      );
      side = refl;
      stands = subst (λ (x : ProcessNo). Stands nodes (Some x) r) is st.4;
      top_is = sym (subst (λ (x : ProcessNo). (node_at nodes x.0).right ≡ top r) is st.0.right);
      parted = parted.5;
      steps = omega arith;
      ends = λ last w. ends last (sought_right nodes stop aim last l n r here st.1 parted e w);
    }
    by_side false l n r here e is ws st parted steps ends = record {
      here = OnLeft n r ∷ here;
      tree = l;
      way_stands = (
        ap (λ (x : ProcessNo). Some x) (sym is),
        record {
          within = st.0.within;
          time = st.0.time;
          left = subst (λ (x : ProcessNo). (node_at nodes n.process.0).left ≡ (node_at nodes x.0).left) is refl;
          right = st.0.right;
        },
        st.4,
        subst (λ (p : Option ProcessNo). WayStands nodes stop (Some n.process) here p) (sym st.2) (subst (λ (x : ProcessNo). WayStands nodes stop (Some x) here spot.parent) (sym is) ws),
      );
      side = refl;
      stands = subst (λ (x : ProcessNo). Stands nodes (Some x) l) is st.3;
      top_is = sym (subst (λ (x : ProcessNo). (node_at nodes x.0).left ≡ top l) is st.0.left);
      parted = parted.4;
      steps = omega arith;
      ends = λ last w. ends last (sought_left nodes stop aim last l n r here st.1 parted e w);
    }

    by_tree : (tree : Tree) (here : List Step) → WayStands nodes stop (Some process) here spot.parent → Stands nodes spot.parent tree → top tree ≡ Some process → IsParted aim tree → height tree + i ≤ height t → ((last : Spot) → IsSought nodes stop aim here tree last → IsSought nodes stop aim way t last) → IsSeeking nodes stop aim (record { parent = Some process; on_left = on_left }) (cond on_left (node_at nodes process.0).left (node_at nodes process.0).right) way t (i + 1)
    by_tree Empty here ws st is parted steps ends = absurd (cc)
    by_tree (Branch l n r) here ws st is parted steps ends =
        let same : n.process ≡ process = cc in
        let time : (node_at nodes process.0).time ≡ Some n.time = subst (λ (x : ProcessNo). (node_at nodes x.0).time ≡ Some n.time) same st.0.time in
        subst (λ (b : Bool). IsSeeking nodes stop aim (record { parent = Some process; on_left = b }) (cond b (node_at nodes process.0).left (node_at nodes process.0).right) way t (i + 1)) (sym (test n time))
        (by_side (stands_in_front aim n) l n r here refl same ws st parted steps ends)

-- at the end the place is empty
pub IsSeeking-ended : (nodes : List Node) (stop : Option ProcessNo) (aim : Aim) (spot : Spot) (link : Option ProcessNo) (way : List Step) (t : Tree) (i : ℕ) → (s : IsSeeking nodes stop aim spot link way t i) → s.tree ≡ Empty → IsSought nodes stop aim way t spot
IsSeeking-ended nodes stop aim spot link way t i s none =
    s.ends spot (subst (λ (u : Tree). IsSought nodes stop aim s.here u spot) (sym none) (record {
      way = s.here;
      stands = subst (λ (k : Option ProcessNo). WayStands nodes stop k s.here spot.parent) (sym s.top_is ∙ ap top none) s.way_stands;
      side = s.side;
      in_front = sym (append-nil (before s.here));
      behind = refl;
      totals = λ w. omega arith;
      balanced = λ b z. z;
      height_is = refl;
      heights = λ z. z;
    }))

pub empty_by_top : (t : Tree) → top t ≡ None → t ≡ Empty
empty_by_top Empty e = refl
empty_by_top (Branch l n r) e = absurd (cc)

pub empty_by_height : (t : Tree) → height t ≡ 0 → t ≡ Empty
empty_by_height Empty e = refl
empty_by_height (Branch l n r) e = absurd (omega arith)

-- ---- up to the notice behind a place

-- the way from a place still to go, behind which the same notices stand
pub record IsFollowing (nodes : List Node) (spot : Spot) (way : List Step) (i : ℕ) : Type 0 where
  pub rest : List Step
  pub link : Option ProcessNo
  pub stands : WayStands nodes None link rest spot.parent
  pub side : SideIs spot.on_left rest
  pub once : (x : ℕ) → way_total (one_of x) rest ≤ 1
  pub steps : length rest + i ≡ length way
  pub ends : first_process (after rest) ≡ first_process (after way)

pub IsFollowing-begun : (nodes : List Node) (spot : Spot) (link : Option ProcessNo) (way : List Step) → WayStands nodes None link way spot.parent → SideIs spot.on_left way → ((x : ℕ) → way_total (one_of x) way ≤ 1) → IsFollowing nodes spot way 0
IsFollowing-begun nodes spot link way s side once = record {
  rest = way;
  link = link;
  stands = s;
  side = side;
  once = once;
  steps = omega arith;
  ends = refl;
}

-- the side of the next place, by the link of the node above it
side_by_link : (nodes : List Node) (process : ProcessNo) (spot : Spot) (rest : List Step) → WayStands nodes None (Some process) rest spot.parent → ((x : ℕ) → one_of x (record { time = pos 0; process = process }) + way_total (one_of x) rest ≤ 1) → ((up : ProcessNo) → spot.parent ≡ Some up → spot.on_left ≡ true → (node_at nodes up.0).left ≡ Some process) → ((up : ProcessNo) → spot.parent ≡ Some up → spot.on_left ≡ false → (node_at nodes up.0).left ≢ Some process) → SideIs spot.on_left rest
side_by_link nodes process spot [] s once left right = tt
side_by_link nodes process spot (OnLeft n u ∷ rest) s once left right =
    true_from_ne_false spot.on_left (λ e. right n.process s.0 e s.1.left)
side_by_link nodes process spot (OnRight u n ∷ rest) s once left right =
    false_from_ne_true spot.on_left (λ e. absurd (omega (arith, total-top process u (sym s.1.left ∙ left n.process s.0 e), once process.0, one_of-self (record { time = pos 0; process = process }))))

one_of-process : (x : ℕ) (n : Notice) (process : ProcessNo) → n.process ≡ process → one_of x (record { time = pos 0; process = process }) ≡ one_of x n
unfolding one_of
one_of-process x n process e = ap (λ (p : ProcessNo). cond (eqb p.0 x) 1 0) (sym e)

pub IsFollowing-more : (nodes : List Node) (spot new : Spot) (process : ProcessNo) (way : List Step) (i : ℕ) → IsFollowing nodes spot way i → spot.on_left ≡ false → spot.parent ≡ Some process → new.parent ≡ (node_at nodes process.0).parent → ((up : ProcessNo) → new.parent ≡ Some up → new.on_left ≡ true → (node_at nodes up.0).left ≡ Some process) → ((up : ProcessNo) → new.parent ≡ Some up → new.on_left ≡ false → (node_at nodes up.0).left ≢ Some process) → IsFollowing nodes new way (i + 1)
IsFollowing-more nodes spot new process way i f off at above left right =
    by_rest f.rest f.link f.stands f.side f.once f.steps f.ends
  where
    by_rest : (rest : List Step) (link : Option ProcessNo) → WayStands nodes None link rest spot.parent → SideIs spot.on_left rest → ((x : ℕ) → way_total (one_of x) rest ≤ 1) → length rest + i ≡ length way → first_process (after rest) ≡ first_process (after way) → IsFollowing nodes new way (i + 1)
    by_rest [] link s side once steps ends = absurd (let no : None ≡ Some process = sym s ∙ at in cc)
    by_rest (OnLeft n u ∷ rest) link s side once steps ends = absurd (true≢false (sym side ∙ off))
    by_rest (OnRight u n ∷ rest) link s side once steps ends =
        let is : n.process ≡ process = cc (sym s.0 ∙ at) in
        let up : WayStands nodes None (Some process) rest new.parent =
        subst (λ (p : Option ProcessNo). WayStands nodes None (Some process) rest p) (sym above)
        (subst (λ (x : ProcessNo). WayStands nodes None (Some x) rest (node_at nodes x.0).parent) is s.3) in
        record {
          rest = rest;
          link = Some process;
          stands = up;
          side = side_by_link nodes process new rest up (λ x. omega (arith, once x, one_of-process x n process is)) left right;
          once = λ x. omega (arith, once x);
          steps = omega arith;
          ends = ends;
        }

pub follows_on_left : (nodes : List Node) (spot : Spot) (way : List Step) (i : ℕ) → IsFollowing nodes spot way i → spot.on_left ≡ true → spot.parent ≡ first_process (after way)
follows_on_left nodes spot way i f on = by_rest f.rest f.link f.stands f.side ∙ f.ends
  where
    by_rest : (rest : List Step) (link : Option ProcessNo) → WayStands nodes None link rest spot.parent → SideIs spot.on_left rest → spot.parent ≡ first_process (after rest)
    by_rest [] link s side = s
    by_rest (OnLeft n u ∷ rest) link s side = s.0
    by_rest (OnRight u n ∷ rest) link s side = absurd (true≢false (sym on ∙ side))

pub follows_at_root : (nodes : List Node) (spot : Spot) (way : List Step) (i : ℕ) → IsFollowing nodes spot way i → spot.parent ≡ None → None ≡ first_process (after way)
follows_at_root nodes spot way i f none = by_rest f.rest f.link f.stands ∙ f.ends
  where
    by_rest : (rest : List Step) (link : Option ProcessNo) → WayStands nodes None link rest spot.parent → None ≡ first_process (after rest)
    by_rest [] link s = refl
    by_rest (OnLeft n u ∷ rest) link s = absurd (let no : None ≡ Some n.process = sym none ∙ s.0 in cc)
    by_rest (OnRight u n ∷ rest) link s = absurd (let no : None ≡ Some n.process = sym none ∙ s.0 in cc)

pub follows_at_end : (nodes : List Node) (spot : Spot) (way : List Step) (i : ℕ) → (f : IsFollowing nodes spot way i) → f.rest ≡ [] → spot.parent ≡ first_process (after way)
follows_at_end nodes spot way i f none =
    subst (λ (r : List Step). WayStands nodes None f.link r spot.parent) none f.stands
    ∙ ap (λ (r : List Step). first_process (after r)) (sym none) ∙ f.ends
