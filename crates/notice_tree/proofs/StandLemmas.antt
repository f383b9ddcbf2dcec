-- What is written beside a tree leaves it standing, and what joins two trees makes a tree stand.
use Rattle.std.proofs.Common.{◌≡◌, ◌≢◌, ℕ, ◌+◌, ◌-◌, ◌^◌, ◌<◌, ◌≤◌, max, min, Option, Some, None, List, [], ◌∷◌, length, set, refl, sym, ap, ◌∙◌, subst, arith, get_or-set_other, get_or-set_same, length-set}
use Rattle.std.proofs.lemmas.Bool.{eq-eqb, cond-true}
use Rattle.notices.specs.declared.notice.Notice.{Notice}
use Rattle.notices.specs.declared.notice.ProcessNo.{ProcessNo}
use Rattle.notices.specs.Notices.{is_of}
use Rattle.notice_tree.specs.declared.node.Node.{Node}
use Rattle.notice_tree.specs.Nodes.{node_at, height_at, vacant, hung, joined}
use Rattle.notice_tree.specs.Trees.{Tree, Empty, Branch, height, top, total, one_of, NodeIs, Stands, Step, OnLeft, OnRight, way_total, TellHeights, WayStands}

-- ---- counting

pub one_of-self : (n : Notice) → one_of n.process.0 n ≡ 1
unfolding one_of
one_of-self n = cond-true (is_of n.process.0 n) 1 0 (eq-eqb _ _ refl)

pub one_of-other : (x : ℕ) (n : Notice) → one_of x n ≡ 0 → n.process.0 ≢ x
one_of-other x n e same = absurd (let s : one_of x n ≡ 1 = subst (λ y. one_of y n ≡ 1) same (one_of-self n) in omega arith)

-- whoever counts in a tree, and not as its root, is another than the root
pub one_of-differs : (x : ℕ) (n : Notice) → one_of x n ≡ 0 → x ≢ n.process.0
one_of-differs x n e same = one_of-other x n e (sym same)

-- ---- what is read after a write

pub node_at-set_other : (nodes : List Node) (x y : ℕ) (c : Node) → y ≢ x → node_at (set nodes x c) y ≡ node_at nodes y
node_at-set_other nodes x y c other = get_or-set_other nodes x y c vacant other

pub node_at-set_same : (nodes : List Node) (x : ℕ) (c : Node) → x < length nodes → node_at (set nodes x c) x ≡ c
node_at-set_same nodes x c h = get_or-set_same nodes x c vacant h

-- ---- what stays

pub NodeIs-kept : (nodes new : List Node) (n : Notice) (left right : Option ProcessNo) → length new ≡ length nodes → node_at new n.process.0 ≡ node_at nodes n.process.0 → NodeIs nodes n left right → NodeIs new n left right
NodeIs-kept nodes new n left right len same is = record {
  within = omega (arith, is.within);
  time = ap (λ (c : Node). c.time) same ∙ is.time;
  left = ap (λ (c : Node). c.left) same ∙ is.left;
  right = ap (λ (c : Node). c.right) same ∙ is.right;
}

pub Stands-kept : (nodes new : List Node) (parent : Option ProcessNo) (t : Tree) → length new ≡ length nodes → ((x : ℕ) → 1 ≤ total (one_of x) t → node_at new x ≡ node_at nodes x) → Stands nodes parent t → Stands new parent t
Stands-kept nodes new parent Empty len same s = tt
Stands-kept nodes new parent (Branch l n r) len same s =
    let here : node_at new n.process.0 ≡ node_at nodes n.process.0 = same n.process.0 (omega (arith, one_of-self n)) in (
      NodeIs-kept nodes new n (top l) (top r) len here s.0,
      ap (λ (c : Node). c.height) here ∙ s.1,
      ap (λ (c : Node). c.parent) here ∙ s.2,
      Stands-kept nodes new (Some n.process) l len (λ x h. same x (omega arith)) s.3,
      Stands-kept nodes new (Some n.process) r len (λ x h. same x (omega arith)) s.4,
    )

pub WayStands-kept : (nodes new : List Node) (stop link : Option ProcessNo) (z : List Step) (parent : Option ProcessNo) → length new ≡ length nodes → ((x : ℕ) → 1 ≤ way_total (one_of x) z → node_at new x ≡ node_at nodes x) → WayStands nodes stop link z parent → WayStands new stop link z parent
WayStands-kept nodes new stop link [] parent len same s = s
WayStands-kept nodes new stop link (OnLeft n t ∷ z) parent len same s =
    let here : node_at new n.process.0 ≡ node_at nodes n.process.0 = same n.process.0 (omega (arith, one_of-self n)) in (
      s.0,
      NodeIs-kept nodes new n link (top t) len here s.1,
      Stands-kept nodes new (Some n.process) t len (λ x h. same x (omega arith)) s.2,
      subst (λ (p : Option ProcessNo). WayStands new stop (Some n.process) z p) (ap (λ (c : Node). c.parent) (sym here))
          (WayStands-kept nodes new stop (Some n.process) z (node_at nodes n.process.0).parent len (λ x h. same x (omega arith)) s.3),
    )
WayStands-kept nodes new stop link (OnRight t n ∷ z) parent len same s =
    let here : node_at new n.process.0 ≡ node_at nodes n.process.0 = same n.process.0 (omega (arith, one_of-self n)) in (
      s.0,
      NodeIs-kept nodes new n (top t) link len here s.1,
      Stands-kept nodes new (Some n.process) t len (λ x h. same x (omega arith)) s.2,
      subst (λ (p : Option ProcessNo). WayStands new stop (Some n.process) z p) (ap (λ (c : Node). c.parent) (sym here))
          (WayStands-kept nodes new stop (Some n.process) z (node_at nodes n.process.0).parent len (λ x h. same x (omega arith)) s.3),
    )

pub TellHeights-kept : (nodes new : List Node) (h : ℕ) (z : List Step) → ((x : ℕ) → 1 ≤ way_total (one_of x) z → (node_at new x).height ≡ (node_at nodes x).height) → TellHeights nodes h z → TellHeights new h z
TellHeights-kept nodes new h [] same s = s
TellHeights-kept nodes new h (OnLeft n t ∷ z) same s = (same n.process.0 (omega (arith, one_of-self n)) ∙ s.0, TellHeights-kept nodes new (max h (height t) + 1) z (λ x k. same x (omega arith)) s.1)
TellHeights-kept nodes new h (OnRight t n ∷ z) same s = (same n.process.0 (omega (arith, one_of-self n)) ∙ s.0, TellHeights-kept nodes new (max h (height t) + 1) z (λ x k. same x (omega arith)) s.1)

-- ---- a tree hangs under another parent

pub length-hung : (nodes : List Node) (link parent : Option ProcessNo) → length (hung nodes link parent) ≡ length nodes
length-hung nodes None parent = refl
length-hung nodes (Some x) parent = length-set nodes x.0 _

pub hung-kept : (nodes : List Node) (t : Tree) (parent : Option ProcessNo) (x : ℕ) → total (one_of x) t ≡ 0 → node_at (hung nodes (top t) parent) x ≡ node_at nodes x
hung-kept nodes Empty parent x e = refl
hung-kept nodes (Branch l n r) parent x e = node_at-set_other nodes n.process.0 x _ (one_of-differs x n (omega arith))

pub Stands-hung_other : (nodes : List Node) (parent parent' : Option ProcessNo) (s t : Tree) → ((x : ℕ) → total (one_of x) s + total (one_of x) t ≤ 1) → Stands nodes parent s → Stands (hung nodes (top t) parent') parent s
Stands-hung_other nodes parent parent' s t once st =
    Stands-kept nodes (hung nodes (top t) parent') parent s (length-hung nodes (top t) parent') (λ x h. hung-kept nodes t parent' x (omega (arith, once x))) st

pub Stands-hung : (nodes : List Node) (parent parent' : Option ProcessNo) (t : Tree) → ((x : ℕ) → total (one_of x) t ≤ 1) → Stands nodes parent t → Stands (hung nodes (top t) parent') parent' t
Stands-hung nodes parent parent' Empty once s = tt
Stands-hung nodes parent parent' (Branch l n r) once s =
    let old : Node = node_at nodes n.process.0 in
    let c : Node = record old { parent = parent' } in
    let new : List Node = set nodes n.process.0 c in
    let len : length new ≡ length nodes = length-set nodes n.process.0 c in
    let here : node_at new n.process.0 ≡ c = node_at-set_same nodes n.process.0 c s.0.within in (
      record {
        within = omega (arith, s.0.within);
        time = ap (λ (d : Node). d.time) here ∙ s.0.time;
        left = ap (λ (d : Node). d.left) here ∙ s.0.left;
        right = ap (λ (d : Node). d.right) here ∙ s.0.right;
      },
      ap (λ (d : Node). d.height) here ∙ s.1,
      ap (λ (d : Node). d.parent) here,
      Stands-kept nodes new (Some n.process) l len (λ x h. node_at-set_other nodes n.process.0 x c (one_of-differs x n (omega (arith, once x)))) s.3,
      Stands-kept nodes new (Some n.process) r len (λ x h. node_at-set_other nodes n.process.0 x c (one_of-differs x n (omega (arith, once x)))) s.4,
    )

pub height_at-is : (nodes : List Node) (parent : Option ProcessNo) (t : Tree) → Stands nodes parent t → height_at nodes (top t) ≡ height t
height_at-is nodes parent Empty s = refl
height_at-is nodes parent (Branch l n r) s = s.1

-- ---- two trees are joined

pub length-joined : (nodes : List Node) (left : Option ProcessNo) (x : ProcessNo) (right : Option ProcessNo) → length (joined nodes left x right) ≡ length nodes
unfolding joined
length-joined nodes left x right =
    length-set (hung (hung nodes left (Some x)) right (Some x)) x.0 _ ∙ length-hung (hung nodes left (Some x)) right (Some x) ∙ length-hung nodes left (Some x)

pub joined-kept : (nodes : List Node) (l : Tree) (n : Notice) (r : Tree) (x : ℕ) → total (one_of x) (Branch l n r) ≡ 0 → node_at (joined nodes (top l) n.process (top r)) x ≡ node_at nodes x
unfolding joined
joined-kept nodes l n r x e =
    node_at-set_other (hung (hung nodes (top l) (Some n.process)) (top r) (Some n.process)) n.process.0 x _ (one_of-differs x n (omega arith))
    ∙ hung-kept (hung nodes (top l) (Some n.process)) r (Some n.process) x (omega arith)
    ∙ hung-kept nodes l (Some n.process) x (omega arith)

pub Stands-joined : (nodes : List Node) (left right : Option ProcessNo) (l : Tree) (n : Notice) (r : Tree) → ((x : ℕ) → total (one_of x) (Branch l n r) ≤ 1) → height (Branch l n r) < 2 ^ 64 → n.process.0 < length nodes → (node_at nodes n.process.0).time ≡ Some n.time → Stands nodes left l → Stands nodes right r → Stands (joined nodes (top l) n.process (top r)) (node_at nodes n.process.0).parent (Branch l n r)
unfolding joined
Stands-joined nodes left right l n r once low within time sl sr =
    let p : Option ProcessNo = Some n.process in
    let first : List Node = hung nodes (top l) p in
    let second : List Node = hung first (top r) p in
    let new : List Node = joined nodes (top l) n.process (top r) in
    let len1 : length first ≡ length nodes = length-hung nodes (top l) p in
    let len2 : length second ≡ length first = length-hung first (top r) p in
    let len3 : length new ≡ length second = length-set second n.process.0 _ in
    let l1 : Stands first p l = Stands-hung nodes left p l (λ x. omega (arith, once x)) sl in
    let r1 : Stands first right r = Stands-hung_other nodes right p r l (λ x. omega (arith, once x)) sr in
    let l2 : Stands second p l = Stands-hung_other first p p l r (λ x. omega (arith, once x)) l1 in
    let r2 : Stands second p r = Stands-hung first right p r (λ x. omega (arith, once x)) r1 in
    let here2 : node_at second n.process.0 ≡ node_at nodes n.process.0 =
    hung-kept first r p n.process.0 (omega (arith, once n.process.0, one_of-self n)) ∙ hung-kept nodes l p n.process.0 (omega (arith, once n.process.0, one_of-self n)) in
    let within2 : n.process.0 < length second = omega arith in
    let here : node_at new n.process.0 ≡ record (node_at second n.process.0) { left = top l; right = top r; height = min (max (height_at second (top l)) (height_at second (top r)) + 1) (2 ^ 64 - 1) } =
    node_at-set_same second n.process.0 _ within2 in
    let hl : height_at second (top l) ≡ height l = height_at-is second p l l2 in
    let hr : height_at second (top r) ≡ height r = height_at-is second p r r2 in (
      record {
        within = omega arith;
        time = ap (λ (d : Node). d.time) here ∙ ap (λ (d : Node). d.time) here2 ∙ time;
        left = ap (λ (d : Node). d.left) here;
        right = ap (λ (d : Node). d.right) here;
      },
      ap (λ (d : Node). d.height) here ∙ ap (λ a. min (max a (height_at second (top r)) + 1) (2 ^ 64 - 1)) hl ∙ ap (λ a. min (max (height l) a + 1) (2 ^ 64 - 1)) hr ∙ omega arith,
      ap (λ (d : Node). d.parent) here ∙ ap (λ (d : Node). d.parent) here2,
      Stands-kept second new p l len3 (λ x h. node_at-set_other second n.process.0 x _ (one_of-differs x n (omega (arith, once x)))) l2,
      Stands-kept second new p r len3 (λ x h. node_at-set_other second n.process.0 x _ (one_of-differs x n (omega (arith, once x)))) r2,
    )
