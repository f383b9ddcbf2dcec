-- The tree of a set of notices: the empty one, after a step, and with more room.
use Rattle.std.proofs.Common.{◌≡◌, ℕ, ℤ, ◌+◌, ◌^◌, ◌<◌, ◌≤◌, true, inl, inr, Option, Some, None, List, [], ◌∷◌, ◌++◌, length, take, drop, get_or, refl, sym, ap, ◌∙◌, subst, arith}
use Rattle.std.specs.Option.{option_map}
use Rattle.std.proofs.lemmas.Bool.{cases_lt, eq-eqb}
use Rattle.std.proofs.lemmas.List.{get_or_past, take_all, drop_all, append-nil}
use Rattle.notices.specs.declared.notice.Notice.{Notice}
use Rattle.notices.specs.declared.notice.ProcessNo.{ProcessNo}
use Rattle.notices.specs.Notices.{is_of, event_time, placed_at, placed_direct}
use Rattle.notices.specs.Schedule.{IsOrdered, IsSchedule}
use Rattle.notices.proofs.PlaceLemmas.{find-cons_yes}
use Rattle.notices.proofs.LawLemmas.{direct_as_prior}
use Rattle.notices.proofs.ScheduleLemmas.{IsSchedule-nil, IsSchedule-room}
use Rattle.notice_tree.specs.declared.node.Node.{Node}
use Rattle.notice_tree.specs.Nodes.{node_at, height_at, vacant}
use Rattle.notice_tree.specs.First.{first_time}
use Rattle.notice_tree.specs.Spots.{first_process}
use Rattle.notice_tree.specs.Trees.{Tree, Empty, Branch, in_order, height, Stands}
use Rattle.notice_tree.specs.Held.{tree_at, IsNoticeTree, IsHeld}
use Rattle.notice_tree.proofs.StandLemmas.{height_at-is}
use Rattle.notice_tree.proofs.HeldLemmas.{seen_list, IsNoticeTree-held, IsHeld-from}
use Rattle.notice_tree.proofs.HeightLemmas.{low_height, full_height}

-- ---- the empty tree

pub IsHeld-none : (nodes : List Node) → nodes ≡ [] → IsHeld nodes None []
IsHeld-none nodes e = record {
  tree = Empty;
  rooted = record {
    stands = tt;
    top_is = refl;
    balanced = tt;
    absent = λ x _. ap (λ (d : Node). d.time) (get_or_past nodes x vacant (let none : length nodes ≡ 0 = ap length e in omega arith));
  };
  listed = refl;
}

pub none_is_tree : (nodes : List Node) → nodes ≡ [] → IsNoticeTree nodes None
none_is_tree nodes e = IsNoticeTree-held nodes None [] (IsHeld-none nodes e) (IsSchedule-nil (length nodes))

pub none_is_empty : (nodes : List Node) → nodes ≡ [] → in_order (tree_at nodes None) ≡ []
none_is_empty nodes e = seen_list nodes None [] (IsHeld-none nodes e) (IsSchedule-nil (length nodes))

-- ---- a step

pub record IsStep (nodes : List Node) (link : Option ProcessNo) (l : List Notice) : Type 0 where
  pub is_tree : IsNoticeTree nodes link
  pub list : in_order (tree_at nodes link) ≡ l

-- what a function does to the nodes, which are lent to it as a slice
pub IsStep-from : (items slice new : List Node) (root link : Option ProcessNo) (l : List Notice) → slice ≡ items → length new ≡ length slice → IsNoticeTree items root → (IsHeld slice root (in_order (tree_at items root)) → IsSchedule (in_order (tree_at items root)) (length slice) → IsHeld new link l) → IsSchedule l (length items) → IsStep new link l
IsStep-from items slice new root link l same len t does s =
    let held : IsHeld slice root (in_order (tree_at items root)) = subst (λ (k : List Node). IsHeld k root (in_order (tree_at items root))) (sym same) (IsHeld-from items root t) in
    let old_s : IsSchedule (in_order (tree_at items root)) (length slice) = subst (λ (k : List Node). IsSchedule (in_order (tree_at items root)) (length k)) (sym same) t.schedule in
    let new_held : IsHeld new link l = does held old_s in
    let len' : length new ≡ length items = len ∙ ap length same in
    let new_s : IsSchedule l (length new) = subst (λ r. IsSchedule l r) (sym len') s in
    record { is_tree = IsNoticeTree-held new link l new_held new_s; list = seen_list new link l new_held new_s }

-- what a function reads of the nodes
pub reads : (items slice : List Node) (root : Option ProcessNo) (P : List Notice → Type 0) → slice ≡ items → IsNoticeTree items root → ((l : List Notice) → IsHeld slice root l → IsSchedule l (length slice) → P l) → P (in_order (tree_at items root))
reads items slice root P same t read =
    read (in_order (tree_at items root))
    (subst (λ (k : List Node). IsHeld k root (in_order (tree_at items root))) (sym same) (IsHeld-from items root t))
    (subst (λ (k : List Node). IsSchedule (in_order (tree_at items root)) (length k)) (sym same) t.schedule)

-- ---- the place in front

pub direct_list : (l : List Notice) (x : ℕ) (t : ℤ) → IsOrdered l → Some t ≡ first_time l → placed_at t true x l ≡ placed_direct x l
direct_list [] x t ordered e = absurd (cc)
direct_list (n ∷ l) x t ordered e =
    let same : t ≡ n.time = cc in
    ap (λ (z : ℤ). placed_at z true x (n ∷ l)) same ∙ sym (direct_as_prior n l x ordered)

pub no_first : (l : List Notice) → None ≡ first_time l → l ≡ []
no_first [] e = refl
no_first (n ∷ l) e = absurd (cc)

-- ---- the slice is given back

pub written_back : (items new : List Node) (n : ℕ) → n ≡ length items → length new ≡ length items → take n (new ++ drop (length new) items) ≡ new
written_back items new n e len =
    let past : length items ≤ length new = omega arith in
    let all : length new ≤ n = omega arith in
    ap (λ (k : List Node). take n (new ++ k)) (drop_all (length new) items past) ∙ ap (take n) (append-nil new) ∙ take_all n new all

pub no_time : (l : List Notice) → first_process l ≡ None → None ≡ first_time l
no_time [] e = refl
no_time (n ∷ l) e = absurd (cc)

pub first_time_is : (l : List Notice) (p : ProcessNo) (o : Option ℤ) → first_process l ≡ Some p → o ≡ event_time p.0 l → o ≡ first_time l
first_time_is [] p o e time = absurd (cc)
first_time_is (n ∷ l) p o e time =
    let same : n.process ≡ p = cc in
    time ∙ ap (option_map (λ (k : Notice). k.time)) (find-cons_yes (is_of p.0) n l (eq-eqb _ _ (ap (λ (q : ProcessNo). q.0) same)))

-- ---- more room

Stands-grown : (nodes new : List Node) (parent : Option ProcessNo) (t : Tree) → length nodes ≤ length new → ((x : ℕ) → node_at new x ≡ node_at nodes x) → Stands nodes parent t → Stands new parent t
Stands-grown nodes new parent Empty more same s = tt
Stands-grown nodes new parent (Branch l n r) more same s =
    let here : node_at new n.process.0 ≡ node_at nodes n.process.0 = same n.process.0 in (
      record {
        within = omega (arith, s.0.within);
        time = ap (λ (d : Node). d.time) here ∙ s.0.time;
        left = ap (λ (d : Node). d.left) here ∙ s.0.left;
        right = ap (λ (d : Node). d.right) here ∙ s.0.right;
      },
      ap (λ (d : Node). d.height) here ∙ s.1,
      ap (λ (d : Node). d.parent) here ∙ s.2,
      Stands-grown nodes new (Some n.process) l more same s.3,
      Stands-grown nodes new (Some n.process) r more same s.4,
    )

pub IsStep-grown : (items new : List Node) (root : Option ProcessNo) → IsNoticeTree items root → length items ≤ length new → ((x : ℕ) → node_at new x ≡ node_at items x) → IsStep new root (in_order (tree_at items root))
IsStep-grown items new root t more same =
    let l : List Notice = in_order (tree_at items root) in
    let h : IsHeld new root l = record {
      tree = tree_at items root;
      rooted = record {
        stands = Stands-grown items new None (tree_at items root) more same t.rooted.stands;
        top_is = t.rooted.top_is;
        balanced = t.rooted.balanced;
        absent = λ x e. ap (λ (d : Node). d.time) (same x) ∙ t.rooted.absent x e;
      };
      listed = refl;
    } in
    let s : IsSchedule l (length new) = IsSchedule-room l (length items) (length new) t.schedule more in
    record { is_tree = IsNoticeTree-held new root l h s; list = seen_list new root l h s }

pub grown_same : (old new : List Node) (n : ℕ) → length old < n → length new ≡ n → ((k : ℕ) (d : Node) → k < n → k < length old → get_or new k d ≡ get_or old k d) → ((k : ℕ) (d : Node) → length old ≤ k → k < n → get_or new k d ≡ vacant) → (x : ℕ) → node_at new x ≡ node_at old x
grown_same old new n more len kept added x =
    elim (cases_lt x (length old)) [
      | inl lt ↦ kept x vacant (omega arith) lt
      | inr ge ↦ elim (cases_lt x n) [
        | inl below ↦ added x vacant ge below ∙ sym (get_or_past old x vacant ge)
        | inr above ↦ get_or_past new x vacant (omega arith) ∙ sym (get_or_past old x vacant ge)
      ]
    ]

-- ---- the height

height_is : (items slice : List Node) (root : Option ProcessNo) (h : ℕ) → slice ≡ items → IsNoticeTree items root → h ≡ height_at slice root → h ≡ height (tree_at items root)
height_is items slice root h same t e =
    e ∙ ap (λ (k : List Node). height_at k root) same ∙ ap (λ (k : Option ProcessNo). height_at items k) (sym t.rooted.top_is) ∙ height_at-is items None (tree_at items root) t.rooted.stands

pub height_low : (items slice : List Node) (root : Option ProcessNo) (h : ℕ) → slice ≡ items → IsNoticeTree items root → h ≡ height_at slice root → 2 ^ h ≤ (length (in_order (tree_at items root)) + 1) ^ 2
height_low items slice root h same t e =
    subst (λ k. 2 ^ k ≤ (length (in_order (tree_at items root)) + 1) ^ 2) (sym (height_is items slice root h same t e)) (low_height (tree_at items root) (in_order (tree_at items root)) refl t.rooted.balanced)

pub height_enough : (items slice : List Node) (root : Option ProcessNo) (h : ℕ) → slice ≡ items → IsNoticeTree items root → h ≡ height_at slice root → length (in_order (tree_at items root)) < 2 ^ h
height_enough items slice root h same t e =
    subst (λ k. length (in_order (tree_at items root)) < 2 ^ k) (sym (height_is items slice root h same t e)) (full_height (tree_at items root) (in_order (tree_at items root)) refl)
