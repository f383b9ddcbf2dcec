-- What the nodes tell of the list that they hold.
use Rattle.std.proofs.Common.{◌≡◌, ℕ, ℤ, pos, ◌+◌, ◌≤◌, zero, suc, true, false, inl, inr, is_some, Option, Some, None, unwrap_or, List, [], ◌∷◌, ◌++◌, length, refl, sym, ap, ◌∙◌, subst, arith}
use Rattle.std.specs.List.{All, sum_by}
use Rattle.std.specs.Option.{option_map}
use Rattle.std.proofs.lemmas.Bool.{cases_lt, true≢false}
use Rattle.std.proofs.lemmas.List.{append_assoc, append-nil}
use Rattle.std.proofs.lemmas.List.Sums.{sum_by-cons, sum_by-append}
use Rattle.notices.specs.declared.notice.Notice.{Notice}
use Rattle.notices.specs.declared.notice.ProcessNo.{ProcessNo}
use Rattle.notices.specs.Notices.{is_of, notice_of, has_notice, event_time, removed}
use Rattle.notices.specs.Schedule.{IsOnce, IsSchedule}
use Rattle.notices.proofs.ScheduleLemmas.{length-le_room, removed_none}
use Rattle.notice_tree.specs.declared.node.Node.{Node}
use Rattle.notice_tree.specs.Nodes.{node_at}
use Rattle.notice_tree.specs.Trees.{Tree, Empty, Branch, in_order, height, top, total, one_of, one, Stands, before, after}
use Rattle.notice_tree.specs.Held.{notice_at, tree_of, tree_at, IsRooted, IsNoticeTree, IsHeld}
use Rattle.notice_tree.proofs.StandLemmas.{one_of-self}
use Rattle.notice_tree.proofs.BalanceLemmas.{height-le_total}
use Rattle.notice_tree.proofs.ListLemmas.{total-listed, sum_by-one, once_listed, lacks-from, notice_of-lacks, notice_of-around}
use Rattle.notice_tree.proofs.FindLemmas.{IsFound, find_in}

-- ---- the tree that is read is the one that stands there

notice_at-is : (nodes : List Node) (n : Notice) → (node_at nodes n.process.0).time ≡ Some n.time → notice_at nodes n.process ≡ n
notice_at-is nodes n e = let make : Option ℤ → Notice = λ o. record { time = unwrap_or o (pos 0); process = n.process } in ap make e

pub tree_of-is : (depth : ℕ) (nodes : List Node) (parent : Option ProcessNo) (t : Tree) → Stands nodes parent t → height t ≤ depth → tree_of depth nodes (top t) ≡ t
tree_of-is zero nodes parent Empty s h = refl
tree_of-is (suc depth) nodes parent Empty s h = refl
tree_of-is zero nodes parent (Branch l n r) s h = absurd (omega arith)
tree_of-is (suc depth) nodes parent (Branch l n r) s h =
    ap (λ (k : Option ProcessNo). Branch (tree_of depth nodes k) (notice_at nodes n.process) (tree_of depth nodes (node_at nodes n.process.0).right)) s.0.left
    ∙ ap (λ (k : Option ProcessNo). Branch (tree_of depth nodes (top l)) (notice_at nodes n.process) (tree_of depth nodes k)) s.0.right
    ∙ ap (λ (k : Tree). Branch k (notice_at nodes n.process) (tree_of depth nodes (top r))) (tree_of-is depth nodes (Some n.process) l s.3 (omega arith))
    ∙ ap (λ (k : Tree). Branch l (notice_at nodes n.process) k) (tree_of-is depth nodes (Some n.process) r s.4 (omega arith))
    ∙ ap (λ (m : Notice). Branch l m r) (notice_at-is nodes n s.0.time)

-- a tree has no more notices than there are nodes
pub total-le_room : (nodes : List Node) (root : Option ProcessNo) (l : List Notice) → (h : IsHeld nodes root l) → IsSchedule l (length nodes) → total one h.tree ≤ length nodes
total-le_room nodes root l h s =
    let short : length l ≤ length nodes = length-le_room l (length nodes) s.once s.within in
    let same : sum_by one (in_order h.tree) ≡ sum_by one l = ap (sum_by one) h.listed in
    omega (arith, total-listed one h.tree, sum_by-one l)

pub tree_at-is : (nodes : List Node) (root : Option ProcessNo) (l : List Notice) → (h : IsHeld nodes root l) → IsSchedule l (length nodes) → tree_at nodes root ≡ h.tree
unfolding tree_at
tree_at-is nodes root l h s =
    let low : height h.tree ≤ length nodes = omega (arith, height-le_total h.tree, total-le_room nodes root l h s) in
    ap (λ (k : Option ProcessNo). tree_of (length nodes) nodes k) (sym h.rooted.top_is) ∙ tree_of-is (length nodes) nodes None h.tree h.rooted.stands low

pub seen_list : (nodes : List Node) (root : Option ProcessNo) (l : List Notice) → IsHeld nodes root l → IsSchedule l (length nodes) → in_order (tree_at nodes root) ≡ l
seen_list nodes root l h s = ap in_order (tree_at-is nodes root l h s) ∙ h.listed

pub IsNoticeTree-held : (nodes : List Node) (root : Option ProcessNo) (l : List Notice) → IsHeld nodes root l → IsSchedule l (length nodes) → IsNoticeTree nodes root
IsNoticeTree-held nodes root l h s = record {
  rooted = subst (λ (t : Tree). IsRooted nodes root t) (sym (tree_at-is nodes root l h s)) h.rooted;
  schedule = subst (λ (k : List Notice). IsSchedule k (length nodes)) (sym (seen_list nodes root l h s)) s;
}

pub IsHeld-from : (nodes : List Node) (root : Option ProcessNo) → IsNoticeTree nodes root → IsHeld nodes root (in_order (tree_at nodes root))
IsHeld-from nodes root t = record { tree = tree_at nodes root; rooted = t.rooted; listed = refl }

-- ---- a process of the list

pub once_held : (nodes : List Node) (root : Option ProcessNo) (l : List Notice) → (h : IsHeld nodes root l) → IsOnce l → (x : ℕ) → total (one_of x) h.tree ≤ 1
once_held nodes root l h once x =
    let same : sum_by (one_of x) (in_order h.tree) ≡ sum_by (one_of x) l = ap (sum_by (one_of x)) h.listed in
    omega (arith, total-listed (one_of x) h.tree, once_listed x l once)

pub find_held : (nodes : List Node) (root : Option ProcessNo) (l : List Notice) (x : ℕ) → (h : IsHeld nodes root l) → 1 ≤ sum_by (one_of x) l → IsFound nodes None x l (λ f. total f h.tree)
find_held nodes root l x h has =
    let same : sum_by (one_of x) (in_order h.tree) ≡ sum_by (one_of x) l = ap (sum_by (one_of x)) h.listed in
    find_in nodes None x l (λ f. total f h.tree) h.tree [] None (omega (arith, total-listed (one_of x) h.tree))
    refl h.rooted.stands (append-nil (in_order h.tree) ∙ h.listed) (λ f. omega arith) h.rooted.balanced tt tt

-- the list around a notice that is found
pub record IsAround (x : ℕ) (l front back : List Notice) (n : Notice) : Type 0 where
  pub is : n.process.0 ≡ x
  pub parts : front ++ n ∷ back ≡ l
  pub front_lacks : All (λ m. is_of x m ≡ false) front
  pub back_lacks : All (λ m. is_of x m ≡ false) back

regroup : (b l r a : List Notice) (n : Notice) → (b ++ l) ++ n ∷ (r ++ a) ≡ b ++ ((l ++ n ∷ r) ++ a)
regroup b l r a n = simp append_assoc

pub IsAround-found : (nodes : List Node) (stop : Option ProcessNo) (x : ℕ) (l : List Notice) (w : (Notice → ℕ) → ℕ) → (f : IsFound nodes stop x l w) → IsOnce l → IsAround x l (before f.way ++ in_order f.left) (in_order f.right ++ after f.way) f.notice
IsAround-found nodes stop x l w f once =
    let front : List Notice = before f.way ++ in_order f.left in
    let back : List Notice = in_order f.right ++ after f.way in
    let parts : front ++ f.notice ∷ back ≡ l = regroup (before f.way) (in_order f.left) (in_order f.right) (after f.way) f.notice ∙ f.listed in
    let here : one_of x f.notice ≡ 1 = subst (λ y. one_of y f.notice ≡ 1) f.is (one_of-self f.notice) in
    let all : sum_by (one_of x) (front ++ f.notice ∷ back) ≤ 1 = subst (λ (k : List Notice). sum_by (one_of x) k ≤ 1) (sym parts) (once_listed x l once) in
    let split : sum_by (one_of x) (front ++ f.notice ∷ back) ≡ sum_by (one_of x) front + sum_by (one_of x) (f.notice ∷ back) = sum_by-append (one_of x) front (f.notice ∷ back) in
    let split' : sum_by (one_of x) (f.notice ∷ back) ≡ one_of x f.notice + sum_by (one_of x) back = sum_by-cons (one_of x) f.notice back in
    record {
      is = f.is;
      parts = parts;
      front_lacks = lacks-from x front (omega arith);
      back_lacks = lacks-from x back (omega arith);
    }

pub notice_of-found : (x : ℕ) (l front back : List Notice) (n : Notice) → IsAround x l front back n → notice_of x l ≡ Some n
notice_of-found x l front back n a = ap (notice_of x) (sym a.parts) ∙ notice_of-around x front back n a.front_lacks a.is

-- the node of a process tells the time of its notice
pub time_held : (nodes : List Node) (root : Option ProcessNo) (l : List Notice) (x : ℕ) → IsHeld nodes root l → IsOnce l → (node_at nodes x).time ≡ event_time x l
time_held nodes root l x h once =
    elim (cases_lt 0 (sum_by (one_of x) l)) [
      | inl has ↦
          (let f = find_held nodes root l x h (omega arith) in
          let around = IsAround-found nodes None x l (λ f. total f h.tree) f once in
          subst (λ y. (node_at nodes y).time ≡ Some f.notice.time) f.is f.stands.0.time
          ∙ ap (option_map (λ (n : Notice). n.time)) (sym (notice_of-found x l (before f.way ++ in_order f.left) (in_order f.right ++ after f.way) f.notice around)))
      | inr none ↦
          (let lacks : sum_by (one_of x) l ≡ 0 = omega arith in
          let same : sum_by (one_of x) (in_order h.tree) ≡ sum_by (one_of x) l = ap (sum_by (one_of x)) h.listed in
          h.rooted.absent x (omega (arith, total-listed (one_of x) h.tree))
          ∙ ap (option_map (λ (n : Notice). n.time)) (sym (notice_of-lacks x l (lacks-from x l lacks))))
    ]

-- a process has a notice exactly where its node has a time
pub has_held : (nodes : List Node) (root : Option ProcessNo) (l : List Notice) (x : ℕ) → IsHeld nodes root l → IsOnce l → is_some (node_at nodes x).time ≡ has_notice x l
has_held nodes root l x h once = ap (is_some {T = ℤ}) (time_held nodes root l x h once) ∙ is_some-map (notice_of x l)
  where
    is_some-map : (o : Option Notice) → is_some (option_map (λ (n : Notice). n.time) o) ≡ is_some o
    is_some-map None = refl
    is_some-map (Some n) = refl

pub count_from_has : (x : ℕ) (l : List Notice) → has_notice x l ≡ true → 1 ≤ sum_by (one_of x) l
count_from_has x l has =
    elim (cases_lt 0 (sum_by (one_of x) l)) [
      | inl h ↦ omega arith
      | inr none ↦
          absurd (let lacks : sum_by (one_of x) l ≡ 0 = omega arith in
          let no : has_notice x l ≡ false = ap (is_some {T = Notice}) (notice_of-lacks x l (lacks-from x l lacks)) in
          true≢false (sym has ∙ no))
    ]

pub lacks_from_has : (x : ℕ) (l : List Notice) → has_notice x l ≡ false → removed x l ≡ l
lacks_from_has x l has = removed_none x l (none_is (notice_of x l) has)
  where
    none_is : (o : Option Notice) → is_some o ≡ false → o ≡ None
    none_is None e = refl
    none_is (Some n) e = absurd (true≢false e)
