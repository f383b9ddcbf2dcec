-- The node of a process in a tree: the way to it, and the tree under it.
use Rattle.std.proofs.Common.{◌≡◌, ℕ, ◌+◌, ◌≤◌, max, Bool, true, false, inl, inr, Option, Some, List, [], ◌∷◌, ◌++◌, refl, sym, ap, ◌∙◌, subst, arith}
use Rattle.std.proofs.lemmas.Bool.{eqb-true, cases_lt}
use Rattle.std.proofs.lemmas.List.{append_assoc}
use Rattle.notices.specs.declared.notice.Notice.{Notice}
use Rattle.notices.specs.declared.notice.ProcessNo.{ProcessNo}
use Rattle.notices.specs.Notices.{is_of}
use Rattle.notice_tree.specs.declared.node.Node.{Node}
use Rattle.notice_tree.specs.Trees.{Tree, Empty, Branch, in_order, height, top, total, one_of, IsBalanced, Stands, Step, OnLeft, OnRight, before, after, way_total, IsWayBalanced, TellHeights, WayStands}
use Rattle.notice_tree.proofs.ListLemmas.{one_of-zero}

pub record IsFound (nodes : List Node) (stop : Option ProcessNo) (x : ℕ) (l : List Notice) (w : (Notice → ℕ) → ℕ) : Type 0 where
  pub way : List Step
  pub left : Tree
  pub notice : Notice
  pub right : Tree
  pub parent : Option ProcessNo
  pub is : notice.process.0 ≡ x
  pub way_stands : WayStands nodes stop (Some notice.process) way parent
  pub stands : Stands nodes parent (Branch left notice right)
  pub listed : before way ++ ((in_order left ++ notice ∷ in_order right) ++ after way) ≡ l
  pub totals : (f : Notice → ℕ) → way_total f way + total f (Branch left notice right) ≡ w f
  pub balanced : IsBalanced (Branch left notice right)
  pub way_balanced : IsWayBalanced (height (Branch left notice right)) way
  pub way_heights : TellHeights nodes (height (Branch left notice right)) way

regroup_left : (b l r a : List Notice) (n : Notice) → b ++ (l ++ (n ∷ r ++ a)) ≡ b ++ ((l ++ n ∷ r) ++ a)
regroup_left b l r a n = simp append_assoc

regroup_right : (b l r a : List Notice) (n : Notice) → (b ++ l ++ n ∷ []) ++ (r ++ a) ≡ b ++ ((l ++ n ∷ r) ++ a)
regroup_right b l r a n = simp append_assoc

pub find_in : (nodes : List Node) (stop : Option ProcessNo) (x : ℕ) (l : List Notice) (w : (Notice → ℕ) → ℕ) (t : Tree) (way : List Step) (parent : Option ProcessNo) → 1 ≤ total (one_of x) t → WayStands nodes stop (top t) way parent → Stands nodes parent t → before way ++ (in_order t ++ after way) ≡ l → ((f : Notice → ℕ) → way_total f way + total f t ≡ w f) → IsBalanced t → IsWayBalanced (height t) way → TellHeights nodes (height t) way → IsFound nodes stop x l w
find_in nodes stop x l w Empty way parent has ws st listed totals b wb wh = absurd (omega arith)
find_in nodes stop x l w (Branch a n c) way parent has ws st listed totals b wb wh =
    elim (cases_lt 0 (total (one_of x) a)) [
      | inl on_left ↦
          find_in nodes stop x l w a (OnLeft n c ∷ way) (Some n.process) (omega arith)
          (refl, st.0, st.4, subst (λ (p : Option ProcessNo). WayStands nodes stop (Some n.process) way p) (sym st.2) ws)
          st.3
          (regroup_left (before way) (in_order a) (in_order c) (after way) n ∙ listed)
          (λ f. omega (arith, totals f))
          b.2
          (b.0, b.1, b.3, wb)
          (st.1, wh)
      | inr none ↦ elim (cases_lt 0 (total (one_of x) c)) [
        | inl on_right ↦
            find_in nodes stop x l w c (OnRight a n ∷ way) (Some n.process) (omega arith)
            (refl, st.0, st.3, subst (λ (p : Option ProcessNo). WayStands nodes stop (Some n.process) way p) (sym st.2) ws)
            st.4
            (regroup_right (before way) (in_order a) (in_order c) (after way) n ∙ listed)
            (λ f. omega (arith, totals f))
            b.3
            (b.1, b.0, b.2, subst (λ h. IsWayBalanced (h + 1) way) (max_swap (height a) (height c)) wb)
            (st.1 ∙ ap (λ h. h + 1) (max_swap (height a) (height c)), subst (λ h. TellHeights nodes (h + 1) way) (max_swap (height a) (height c)) wh)
        | inr nor ↦ record {
          way = way;
          left = a;
          notice = n;
          right = c;
          parent = parent;
          is = found x n (omega arith);
          way_stands = ws;
          stands = st;
          listed = listed;
          totals = totals;
          balanced = b;
          way_balanced = wb;
          way_heights = wh;
        }
      ]
    ]
  where
    max_swap : (a b : ℕ) → max a b ≡ max b a
    max_swap a b = omega arith

    found : (x : ℕ) (n : Notice) → 1 ≤ one_of x n → n.process.0 ≡ x
    found x n h = by_test (is_of x n) refl
      where
        by_test : (b : Bool) → is_of x n ≡ b → n.process.0 ≡ x
        by_test true e = eqb-true _ _ e
        by_test false e = absurd (omega (arith, one_of-zero x n e))
