-- Each rotation makes a balanced tree with the same list.
use Rattle.std.proofs.Common.{◌≡◌, ℕ, ◌+◌, ◌^◌, ◌<◌, ◌≤◌, Option, Some, None, List, ◌∷◌, ◌++◌, length, refl, sym, ap, ◌∙◌, subst, arith}
use Rattle.std.proofs.lemmas.List.{append_assoc}
use Rattle.notices.specs.declared.notice.Notice.{Notice}
use Rattle.notices.specs.declared.notice.ProcessNo.{ProcessNo}
use Rattle.notice_tree.specs.declared.node.Node.{Node}
use Rattle.notice_tree.specs.Nodes.{node_at, height_at, joined}
use Rattle.notice_tree.specs.Trees.{Tree, Empty, Branch, in_order, height, top, total, one_of, one, Stands}
use Rattle.notice_tree.specs.Balance.{AreParts, AreJoined}
use Rattle.notice_tree.proofs.StandLemmas.{one_of-self, height_at-is, length-joined, joined-kept, Stands-joined, Stands-kept}

-- a tree is no higher than its notices are many
pub height-le_total : (t : Tree) → height t ≤ total one t
unfolding one
height-le_total Empty = omega arith
height-le_total (Branch l n r) = omega (arith, height-le_total l, height-le_total r)

-- a notice that is in no tree: its node
pub record IsFree (nodes : List Node) (n : Notice) : Type 0 where
  pub within : n.process.0 < length nodes
  pub time : (node_at nodes n.process.0).time ≡ Some n.time

pub IsFree-from : (nodes : List Node) (parent : Option ProcessNo) (l r : Tree) (n : Notice) → Stands nodes parent (Branch l n r) → IsFree nodes n
IsFree-from nodes parent l r n s = record { within = s.0.within; time = s.0.time }

IsFree-kept : (nodes new : List Node) (n : Notice) → length new ≡ length nodes → node_at new n.process.0 ≡ node_at nodes n.process.0 → IsFree nodes n → IsFree new n
IsFree-kept nodes new n len same f = record { within = omega (arith, f.within); time = ap (λ (c : Node). c.time) same ∙ f.time }

-- ---- one step

-- two trees stand apart and are joined; what else stands goes on standing
Stands-beside : (nodes : List Node) (parent : Option ProcessNo) (s l r : Tree) (n : Notice) → ((x : ℕ) → total (one_of x) s + (total (one_of x) l + one_of x n + total (one_of x) r) ≤ 1) → Stands nodes parent s → Stands (joined nodes (top l) n.process (top r)) parent s
Stands-beside nodes parent s l r n once st =
    Stands-kept nodes (joined nodes (top l) n.process (top r)) parent s (length-joined nodes (top l) n.process (top r)) (λ x h. joined-kept nodes l n r x (omega (arith, once x))) st

IsFree-beside : (nodes : List Node) (k : Notice) (l r : Tree) (n : Notice) → ((x : ℕ) → one_of x k + (total (one_of x) l + one_of x n + total (one_of x) r) ≤ 1) → IsFree nodes k → IsFree (joined nodes (top l) n.process (top r)) k
IsFree-beside nodes k l r n once f =
    IsFree-kept nodes (joined nodes (top l) n.process (top r)) k (length-joined nodes (top l) n.process (top r))
    (joined-kept nodes l n r k.process.0 (omega (arith, once k.process.0, one_of-self k))) f

Stands-made : (nodes : List Node) (left right : Option ProcessNo) (l r : Tree) (n : Notice) → ((x : ℕ) → total (one_of x) l + one_of x n + total (one_of x) r ≤ 1) → total one l + one n + total one r < 2 ^ 64 → IsFree nodes n → Stands nodes left l → Stands nodes right r → Stands (joined nodes (top l) n.process (top r)) (node_at nodes n.process.0).parent (Branch l n r)
Stands-made nodes left right l r n once small free sl sr =
    Stands-joined nodes left right l n r once (let h : height (Branch l n r) ≤ total one (Branch l n r) = height-le_total (Branch l n r) in omega arith) free.within free.time sl sr

-- ---- two steps and three steps

-- a m (b n c)
pub record Made (nodes new : List Node) (t : Tree) : Type 0 where
  pub parent : Option ProcessNo
  pub stands : Stands new parent t
  pub len : length new ≡ length nodes
  pub kept : (x : ℕ) → total (one_of x) t ≡ 0 → node_at new x ≡ node_at nodes x

pub made_once : (nodes : List Node) (pl pr : Option ProcessNo) (l r : Tree) (n : Notice) → ((x : ℕ) → total (one_of x) (Branch l n r) ≤ 1) → total one (Branch l n r) < 2 ^ 64 → IsFree nodes n → Stands nodes pl l → Stands nodes pr r → Made nodes (joined nodes (top l) n.process (top r)) (Branch l n r)
made_once nodes pl pr l r n once small free sl sr = record {
  parent = (node_at nodes n.process.0).parent;
  stands = Stands-made nodes pl pr l r n once small free sl sr;
  len = length-joined nodes (top l) n.process (top r);
  kept = λ x e. joined-kept nodes l n r x e;
}

pub made_right : (nodes : List Node) (pa pb pc : Option ProcessNo) (a b c : Tree) (m n : Notice) → ((x : ℕ) → total (one_of x) (Branch a m (Branch b n c)) ≤ 1) → total one (Branch a m (Branch b n c)) < 2 ^ 64 → IsFree nodes m → IsFree nodes n → Stands nodes pa a → Stands nodes pb b → Stands nodes pc c → Made nodes (joined (joined nodes (top b) n.process (top c)) (top a) m.process (Some n.process)) (Branch a m (Branch b n c))
made_right nodes pa pb pc a b c m n once small fm fn sa sb sc =
    let first : List Node = joined nodes (top b) n.process (top c) in
    let one_step : Made nodes first (Branch b n c) = made_once nodes pb pc b c n (λ x. omega (arith, once x)) (omega arith) fn sb sc in
    let fm1 : IsFree first m = IsFree-beside nodes m b c n (λ x. omega (arith, once x)) fm in
    let sa1 : Stands first pa a = Stands-beside nodes pa a b c n (λ x. omega (arith, once x)) sa in
    let two : Made first (joined first (top a) m.process (Some n.process)) (Branch a m (Branch b n c)) = made_once first pa one_step.parent a (Branch b n c) m once small fm1 sa1 one_step.stands in
    record {
      parent = two.parent;
      stands = two.stands;
      len = two.len ∙ one_step.len;
      kept = λ x e. two.kept x e ∙ one_step.kept x (omega arith);
    }

pub made_left : (nodes : List Node) (pa pb pc : Option ProcessNo) (a b c : Tree) (n m : Notice) → ((x : ℕ) → total (one_of x) (Branch (Branch a n b) m c) ≤ 1) → total one (Branch (Branch a n b) m c) < 2 ^ 64 → IsFree nodes n → IsFree nodes m → Stands nodes pa a → Stands nodes pb b → Stands nodes pc c → Made nodes (joined (joined nodes (top a) n.process (top b)) (Some n.process) m.process (top c)) (Branch (Branch a n b) m c)
made_left nodes pa pb pc a b c n m once small fn fm sa sb sc =
    let first : List Node = joined nodes (top a) n.process (top b) in
    let one_step : Made nodes first (Branch a n b) = made_once nodes pa pb a b n (λ x. omega (arith, once x)) (omega arith) fn sa sb in
    let fm1 : IsFree first m = IsFree-beside nodes m a b n (λ x. omega (arith, once x)) fm in
    let sc1 : Stands first pc c = Stands-beside nodes pc c a b n (λ x. omega (arith, once x)) sc in
    let two : Made first (joined first (Some n.process) m.process (top c)) (Branch (Branch a n b) m c) = made_once first one_step.parent pc (Branch a n b) c m once small fm1 one_step.stands sc1 in
    record {
      parent = two.parent;
      stands = two.stands;
      len = two.len ∙ one_step.len;
      kept = λ x e. two.kept x e ∙ one_step.kept x (omega arith);
    }

pub made_twice : (nodes : List Node) (pa pb pc pd : Option ProcessNo) (a b c d : Tree) (m k n : Notice) → ((x : ℕ) → total (one_of x) (Branch (Branch a m b) k (Branch c n d)) ≤ 1) → total one (Branch (Branch a m b) k (Branch c n d)) < 2 ^ 64 → IsFree nodes m → IsFree nodes k → IsFree nodes n → Stands nodes pa a → Stands nodes pb b → Stands nodes pc c → Stands nodes pd d → Made nodes (joined (joined (joined nodes (top a) m.process (top b)) (top c) n.process (top d)) (Some m.process) k.process (Some n.process)) (Branch (Branch a m b) k (Branch c n d))
made_twice nodes pa pb pc pd a b c d m k n once small fm fk fn sa sb sc sd =
    let first : List Node = joined nodes (top a) m.process (top b) in
    let second : List Node = joined first (top c) n.process (top d) in
    let step1 : Made nodes first (Branch a m b) = made_once nodes pa pb a b m (λ x. omega (arith, once x)) (omega arith) fm sa sb in
    let fk1 : IsFree first k = IsFree-beside nodes k a b m (λ x. omega (arith, once x)) fk in
    let fn1 : IsFree first n = IsFree-beside nodes n a b m (λ x. omega (arith, once x)) fn in
    let sc1 : Stands first pc c = Stands-beside nodes pc c a b m (λ x. omega (arith, once x)) sc in
    let sd1 : Stands first pd d = Stands-beside nodes pd d a b m (λ x. omega (arith, once x)) sd in
    let step2 : Made first second (Branch c n d) = made_once first pc pd c d n (λ x. omega (arith, once x)) (omega arith) fn1 sc1 sd1 in
    let fk2 : IsFree second k = IsFree-beside first k c d n (λ x. omega (arith, once x)) fk1 in
    let sm2 : Stands second step1.parent (Branch a m b) = Stands-beside first step1.parent (Branch a m b) c d n (λ x. omega (arith, once x)) step1.stands in
    let step3 : Made second (joined second (Some m.process) k.process (Some n.process)) (Branch (Branch a m b) k (Branch c n d)) = made_once second step1.parent step2.parent (Branch a m b) (Branch c n d) k once small fk2 sm2 step2.stands in
    record {
      parent = step3.parent;
      stands = step3.stands;
      len = step3.len ∙ step2.len ∙ step1.len;
      kept = λ x e. step3.kept x e ∙ step2.kept x (omega arith) ∙ step1.kept x (omega arith);
    }

-- ---- the cases

-- the code reads the links of the nodes; the two trees have no others
pub joined_even : (nodes : List Node) (left right : Option ProcessNo) (process : ProcessNo) (l r : Tree) (n : Notice) → AreParts nodes left process right l n r → height l ≤ height r + 1 → height r ≤ height l + 1 → AreJoined nodes (joined nodes left process right) l n r process
joined_even nodes left right process l r n p hl hr =
    let made : Made nodes (joined nodes (top l) n.process (top r)) (Branch l n r) =
    made_once nodes p.left_parent p.right_parent l r n p.once p.small (record { within = p.within; time = p.time }) p.left_stands p.right_stands in
    let same : joined nodes (top l) n.process (top r) ≡ joined nodes left process right = ap (λ (a : Option ProcessNo). joined nodes a n.process (top r)) p.left_is ∙ ap (λ (x : ProcessNo). joined nodes left x (top r)) p.process_is ∙ ap (λ (b : Option ProcessNo). joined nodes left process b) p.right_is in
    let made' : Made nodes (joined nodes left process right) (Branch l n r) = subst (λ (new : List Node). Made nodes new (Branch l n r)) same made in
    record {
      tree = Branch l n r;
      parent = made'.parent;
      stands = made'.stands;
      top_is = ap (λ (x : ProcessNo). Some x) p.process_is;
      listed = refl;
      totals = λ w. refl;
      balanced = (hl, hr, p.left_balanced, p.right_balanced);
      even = λ _ _. refl;
      low = omega arith;
      high = omega arith;
      len = made'.len;
      kept = λ x e. made'.kept x e;
    }

pub rotated_right : (nodes : List Node) (top_no process : ProcessNo) (right : Option ProcessNo) (a b r : Tree) (m n : Notice) → AreParts nodes (Some top_no) process right (Branch a m b) n r → height (Branch a m b) ≡ height r + 2 → height_at nodes (node_at nodes top_no.0).right ≤ height_at nodes (node_at nodes top_no.0).left → AreJoined nodes (joined (joined nodes (node_at nodes top_no.0).right process right) (node_at nodes top_no.0).left top_no (Some process)) (Branch a m b) n r top_no
rotated_right nodes top_no process right a b r m n p high low =
    let is_top : m.process ≡ top_no = cc (p.left_is) in
    let s = p.left_stands in
    let la : (node_at nodes top_no.0).left ≡ top a = subst (λ (x : ProcessNo). (node_at nodes x.0).left ≡ top a) is_top s.0.left in
    let rb : (node_at nodes top_no.0).right ≡ top b = subst (λ (x : ProcessNo). (node_at nodes x.0).right ≡ top b) is_top s.0.right in
    let ha : height_at nodes (node_at nodes top_no.0).left ≡ height a = ap (height_at nodes) la ∙ height_at-is nodes (Some m.process) a s.3 in
    let hb : height_at nodes (node_at nodes top_no.0).right ≡ height b = ap (height_at nodes) rb ∙ height_at-is nodes (Some m.process) b s.4 in
    let made = made_right nodes (Some m.process) (Some m.process) p.right_parent a b r m n (λ x. omega (arith, p.once x)) (omega (arith, p.small)) (IsFree-from nodes p.left_parent a b m s) (record { within = p.within; time = p.time }) s.3 s.4 p.right_stands in
    let same : joined (joined nodes (top b) n.process (top r)) (top a) m.process (Some n.process) ≡ joined (joined nodes (node_at nodes top_no.0).right process right) (node_at nodes top_no.0).left top_no (Some process) =
    ap (λ (x : Option ProcessNo). joined (joined nodes x n.process (top r)) (top a) m.process (Some n.process)) (sym rb)
    ∙ ap (λ (x : ProcessNo). joined (joined nodes (node_at nodes top_no.0).right x (top r)) (top a) m.process (Some x)) p.process_is
    ∙ ap (λ (x : Option ProcessNo). joined (joined nodes (node_at nodes top_no.0).right process x) (top a) m.process (Some process)) p.right_is
    ∙ ap (λ (x : Option ProcessNo). joined (joined nodes (node_at nodes top_no.0).right process right) x m.process (Some process)) (sym la)
    ∙ ap (λ (x : ProcessNo). joined (joined nodes (node_at nodes top_no.0).right process right) (node_at nodes top_no.0).left x (Some process)) is_top in
    let made' : Made nodes (joined (joined nodes (node_at nodes top_no.0).right process right) (node_at nodes top_no.0).left top_no (Some process)) (Branch a m (Branch b n r)) = subst (λ (new : List Node). Made nodes new (Branch a m (Branch b n r))) same made in
    let balanced_l = p.left_balanced in
    record {
      tree = Branch a m (Branch b n r);
      parent = made'.parent;
      stands = made'.stands;
      top_is = ap (λ (x : ProcessNo). Some x) is_top;
      listed = sym (append_assoc (in_order a) (m ∷ in_order b) (n ∷ in_order r));
      totals = λ w. omega arith;
      balanced = (omega arith, omega arith, balanced_l.2, (omega arith, omega arith, balanced_l.3, p.right_balanced));
      even = λ h1 h2. absurd (omega arith);
      low = omega arith;
      high = omega arith;
      len = made'.len;
      kept = λ x e. made'.kept x (omega arith);
    }

pub rotated_left : (nodes : List Node) (left : Option ProcessNo) (process top_no : ProcessNo) (l b d : Tree) (n m : Notice) → AreParts nodes left process (Some top_no) l n (Branch b m d) → height (Branch b m d) ≡ height l + 2 → height_at nodes (node_at nodes top_no.0).left ≤ height_at nodes (node_at nodes top_no.0).right → AreJoined nodes (joined (joined nodes left process (node_at nodes top_no.0).left) (Some process) top_no (node_at nodes top_no.0).right) l n (Branch b m d) top_no
rotated_left nodes left process top_no l b d n m p high low =
    let is_top : m.process ≡ top_no = cc (p.right_is) in
    let s = p.right_stands in
    let lb : (node_at nodes top_no.0).left ≡ top b = subst (λ (x : ProcessNo). (node_at nodes x.0).left ≡ top b) is_top s.0.left in
    let rd : (node_at nodes top_no.0).right ≡ top d = subst (λ (x : ProcessNo). (node_at nodes x.0).right ≡ top d) is_top s.0.right in
    let hb : height_at nodes (node_at nodes top_no.0).left ≡ height b = ap (height_at nodes) lb ∙ height_at-is nodes (Some m.process) b s.3 in
    let hd : height_at nodes (node_at nodes top_no.0).right ≡ height d = ap (height_at nodes) rd ∙ height_at-is nodes (Some m.process) d s.4 in
    let made = made_left nodes p.left_parent (Some m.process) (Some m.process) l b d n m (λ x. omega (arith, p.once x)) (omega (arith, p.small)) (record { within = p.within; time = p.time }) (IsFree-from nodes p.right_parent b d m s) p.left_stands s.3 s.4 in
    let same : joined (joined nodes (top l) n.process (top b)) (Some n.process) m.process (top d) ≡ joined (joined nodes left process (node_at nodes top_no.0).left) (Some process) top_no (node_at nodes top_no.0).right =
    ap (λ (x : Option ProcessNo). joined (joined nodes x n.process (top b)) (Some n.process) m.process (top d)) p.left_is
    ∙ ap (λ (x : ProcessNo). joined (joined nodes left x (top b)) (Some x) m.process (top d)) p.process_is
    ∙ ap (λ (x : Option ProcessNo). joined (joined nodes left process x) (Some process) m.process (top d)) (sym lb)
    ∙ ap (λ (x : ProcessNo). joined (joined nodes left process (node_at nodes top_no.0).left) (Some process) x (top d)) is_top
    ∙ ap (λ (x : Option ProcessNo). joined (joined nodes left process (node_at nodes top_no.0).left) (Some process) top_no x) (sym rd) in
    let made' : Made nodes (joined (joined nodes left process (node_at nodes top_no.0).left) (Some process) top_no (node_at nodes top_no.0).right) (Branch (Branch l n b) m d) = subst (λ (new : List Node). Made nodes new (Branch (Branch l n b) m d)) same made in
    let balanced_r = p.right_balanced in
    record {
      tree = Branch (Branch l n b) m d;
      parent = made'.parent;
      stands = made'.stands;
      top_is = ap (λ (x : ProcessNo). Some x) is_top;
      listed = append_assoc (in_order l) (n ∷ in_order b) (m ∷ in_order d);
      totals = λ w. omega arith;
      balanced = (omega arith, omega arith, (omega arith, omega arith, p.left_balanced, balanced_r.2), balanced_r.3);
      even = λ h1 h2. absurd (omega arith);
      low = omega arith;
      high = omega arith;
      len = made'.len;
      kept = λ x e. made'.kept x (omega arith);
    }

regroup_right : (a b c d : List Notice) (m k n : Notice) → (a ++ m ∷ b) ++ k ∷ (c ++ n ∷ d) ≡ (a ++ m ∷ (b ++ k ∷ c)) ++ n ∷ d
regroup_right a b c d m k n = simp append_assoc

regroup_left : (a b c d : List Notice) (n k m : Notice) → (a ++ n ∷ b) ++ k ∷ (c ++ m ∷ d) ≡ a ++ n ∷ ((b ++ k ∷ c) ++ m ∷ d)
regroup_left a b c d n k m = simp append_assoc

pub rotated_right_twice : (nodes : List Node) (top_no process middle : ProcessNo) (right : Option ProcessNo) (a b r : Tree) (m n : Notice) → AreParts nodes (Some top_no) process right (Branch a m b) n r → height (Branch a m b) ≡ height r + 2 → (node_at nodes top_no.0).right ≡ Some middle → height_at nodes (node_at nodes top_no.0).left + 0 < height_at nodes (node_at nodes top_no.0).right → AreJoined nodes (joined (joined (joined nodes (node_at nodes top_no.0).left top_no (node_at nodes middle.0).left) (node_at nodes middle.0).right process right) (Some top_no) middle (Some process)) (Branch a m b) n r middle
rotated_right_twice nodes top_no process middle right a Empty r m n p high link low =
    absurd (let is_top : m.process ≡ top_no = cc (p.left_is) in
    let s = p.left_stands in
    let rb : (node_at nodes top_no.0).right ≡ None = subst (λ (x : ProcessNo). (node_at nodes x.0).right ≡ None) is_top s.0.right in
    let no : Some middle ≡ None = sym link ∙ rb in cc)
rotated_right_twice nodes top_no process middle right a (Branch b k c) r m n p high link low =
    let is_top : m.process ≡ top_no = cc (p.left_is) in
    let s = p.left_stands in
    let la : (node_at nodes top_no.0).left ≡ top a = subst (λ (x : ProcessNo). (node_at nodes x.0).left ≡ top a) is_top s.0.left in
    let rb : (node_at nodes top_no.0).right ≡ Some k.process = subst (λ (x : ProcessNo). (node_at nodes x.0).right ≡ Some k.process) is_top s.0.right in
    let is_middle : k.process ≡ middle = cc (sym rb ∙ link) in
    let lb : (node_at nodes middle.0).left ≡ top b = subst (λ (x : ProcessNo). (node_at nodes x.0).left ≡ top b) is_middle s.4.0.left in
    let rc : (node_at nodes middle.0).right ≡ top c = subst (λ (x : ProcessNo). (node_at nodes x.0).right ≡ top c) is_middle s.4.0.right in
    let ha : height_at nodes (node_at nodes top_no.0).left ≡ height a = ap (height_at nodes) la ∙ height_at-is nodes (Some m.process) a s.3 in
    let hb : height_at nodes (node_at nodes top_no.0).right ≡ height (Branch b k c) = ap (height_at nodes) rb ∙ height_at-is nodes (Some m.process) (Branch b k c) s.4 in
    let made = made_twice nodes (Some m.process) (Some k.process) (Some k.process) p.right_parent a b c r m k n (λ x. omega (arith, p.once x)) (omega (arith, p.small)) (IsFree-from nodes p.left_parent a (Branch b k c) m s) (IsFree-from nodes (Some m.process) b c k s.4) (record { within = p.within; time = p.time }) s.3 s.4.3 s.4.4 p.right_stands in
    let same : joined (joined (joined nodes (top a) m.process (top b)) (top c) n.process (top r)) (Some m.process) k.process (Some n.process) ≡ joined (joined (joined nodes (node_at nodes top_no.0).left top_no (node_at nodes middle.0).left) (node_at nodes middle.0).right process right) (Some top_no) middle (Some process) =
    ap (λ (x : Option ProcessNo). joined (joined (joined nodes x m.process (top b)) (top c) n.process (top r)) (Some m.process) k.process (Some n.process)) (sym la)
    ∙ ap (λ (x : ProcessNo). joined (joined (joined nodes (node_at nodes top_no.0).left x (top b)) (top c) n.process (top r)) (Some x) k.process (Some n.process)) is_top
    ∙ ap (λ (x : Option ProcessNo). joined (joined (joined nodes (node_at nodes top_no.0).left top_no x) (top c) n.process (top r)) (Some top_no) k.process (Some n.process)) (sym lb)
    ∙ ap (λ (x : Option ProcessNo). joined (joined (joined nodes (node_at nodes top_no.0).left top_no (node_at nodes middle.0).left) x n.process (top r)) (Some top_no) k.process (Some n.process)) (sym rc)
    ∙ ap (λ (x : ProcessNo). joined (joined (joined nodes (node_at nodes top_no.0).left top_no (node_at nodes middle.0).left) (node_at nodes middle.0).right x (top r)) (Some top_no) k.process (Some x)) p.process_is
    ∙ ap (λ (x : Option ProcessNo). joined (joined (joined nodes (node_at nodes top_no.0).left top_no (node_at nodes middle.0).left) (node_at nodes middle.0).right process x) (Some top_no) k.process (Some process)) p.right_is
    ∙ ap (λ (x : ProcessNo). joined (joined (joined nodes (node_at nodes top_no.0).left top_no (node_at nodes middle.0).left) (node_at nodes middle.0).right process right) (Some top_no) x (Some process)) is_middle in
    let made' : Made nodes (joined (joined (joined nodes (node_at nodes top_no.0).left top_no (node_at nodes middle.0).left) (node_at nodes middle.0).right process right) (Some top_no) middle (Some process)) (Branch (Branch a m b) k (Branch c n r)) =
    subst (λ (new : List Node). Made nodes new (Branch (Branch a m b) k (Branch c n r))) same made in
    let balanced_l = p.left_balanced in
    record {
      tree = Branch (Branch a m b) k (Branch c n r);
      parent = made'.parent;
      stands = made'.stands;
      top_is = ap (λ (x : ProcessNo). Some x) is_middle;
      listed = regroup_right (in_order a) (in_order b) (in_order c) (in_order r) m k n;
      totals = λ w. omega arith;
      balanced = (omega arith, omega arith, (omega arith, omega arith, balanced_l.2, balanced_l.3.2), (omega arith, omega arith, balanced_l.3.3, p.right_balanced));
      even = λ h1 h2. absurd (omega arith);
      low = omega arith;
      high = omega arith;
      len = made'.len;
      kept = λ x e. made'.kept x (omega arith);
    }

pub rotated_left_twice : (nodes : List Node) (left : Option ProcessNo) (process top_no middle : ProcessNo) (l b d : Tree) (n m : Notice) → AreParts nodes left process (Some top_no) l n (Branch b m d) → height (Branch b m d) ≡ height l + 2 → (node_at nodes top_no.0).left ≡ Some middle → height_at nodes (node_at nodes top_no.0).right + 0 < height_at nodes (node_at nodes top_no.0).left → AreJoined nodes (joined (joined (joined nodes left process (node_at nodes middle.0).left) (node_at nodes middle.0).right top_no (node_at nodes top_no.0).right) (Some process) middle (Some top_no)) l n (Branch b m d) middle
rotated_left_twice nodes left process top_no middle l Empty d n m p high link low =
    absurd (let is_top : m.process ≡ top_no = cc (p.right_is) in
    let s = p.right_stands in
    let lb : (node_at nodes top_no.0).left ≡ None = subst (λ (x : ProcessNo). (node_at nodes x.0).left ≡ None) is_top s.0.left in
    let no : Some middle ≡ None = sym link ∙ lb in cc)
rotated_left_twice nodes left process top_no middle l (Branch b k c) d n m p high link low =
    let is_top : m.process ≡ top_no = cc (p.right_is) in
    let s = p.right_stands in
    let lb : (node_at nodes top_no.0).left ≡ Some k.process = subst (λ (x : ProcessNo). (node_at nodes x.0).left ≡ Some k.process) is_top s.0.left in
    let rd : (node_at nodes top_no.0).right ≡ top d = subst (λ (x : ProcessNo). (node_at nodes x.0).right ≡ top d) is_top s.0.right in
    let is_middle : k.process ≡ middle = cc (sym lb ∙ link) in
    let bl : (node_at nodes middle.0).left ≡ top b = subst (λ (x : ProcessNo). (node_at nodes x.0).left ≡ top b) is_middle s.3.0.left in
    let rc : (node_at nodes middle.0).right ≡ top c = subst (λ (x : ProcessNo). (node_at nodes x.0).right ≡ top c) is_middle s.3.0.right in
    let hb : height_at nodes (node_at nodes top_no.0).left ≡ height (Branch b k c) = ap (height_at nodes) lb ∙ height_at-is nodes (Some m.process) (Branch b k c) s.3 in
    let hd : height_at nodes (node_at nodes top_no.0).right ≡ height d = ap (height_at nodes) rd ∙ height_at-is nodes (Some m.process) d s.4 in
    let made = made_twice nodes p.left_parent (Some k.process) (Some k.process) (Some m.process) l b c d n k m (λ x. omega (arith, p.once x)) (omega (arith, p.small)) (record { within = p.within; time = p.time }) (IsFree-from nodes (Some m.process) b c k s.3) (IsFree-from nodes p.right_parent (Branch b k c) d m s) p.left_stands s.3.3 s.3.4 s.4 in
    let same : joined (joined (joined nodes (top l) n.process (top b)) (top c) m.process (top d)) (Some n.process) k.process (Some m.process) ≡ joined (joined (joined nodes left process (node_at nodes middle.0).left) (node_at nodes middle.0).right top_no (node_at nodes top_no.0).right) (Some process) middle (Some top_no) =
    ap (λ (x : Option ProcessNo). joined (joined (joined nodes x n.process (top b)) (top c) m.process (top d)) (Some n.process) k.process (Some m.process)) p.left_is
    ∙ ap (λ (x : ProcessNo). joined (joined (joined nodes left x (top b)) (top c) m.process (top d)) (Some x) k.process (Some m.process)) p.process_is
    ∙ ap (λ (x : Option ProcessNo). joined (joined (joined nodes left process x) (top c) m.process (top d)) (Some process) k.process (Some m.process)) (sym bl)
    ∙ ap (λ (x : Option ProcessNo). joined (joined (joined nodes left process (node_at nodes middle.0).left) x m.process (top d)) (Some process) k.process (Some m.process)) (sym rc)
    ∙ ap (λ (x : ProcessNo). joined (joined (joined nodes left process (node_at nodes middle.0).left) (node_at nodes middle.0).right x (top d)) (Some process) k.process (Some x)) is_top
    ∙ ap (λ (x : Option ProcessNo). joined (joined (joined nodes left process (node_at nodes middle.0).left) (node_at nodes middle.0).right top_no x) (Some process) k.process (Some top_no)) (sym rd)
    ∙ ap (λ (x : ProcessNo). joined (joined (joined nodes left process (node_at nodes middle.0).left) (node_at nodes middle.0).right top_no (node_at nodes top_no.0).right) (Some process) x (Some top_no)) is_middle in
    let made' : Made nodes (joined (joined (joined nodes left process (node_at nodes middle.0).left) (node_at nodes middle.0).right top_no (node_at nodes top_no.0).right) (Some process) middle (Some top_no)) (Branch (Branch l n b) k (Branch c m d)) =
    subst (λ (new : List Node). Made nodes new (Branch (Branch l n b) k (Branch c m d))) same made in
    let balanced_r = p.right_balanced in
    record {
      tree = Branch (Branch l n b) k (Branch c m d);
      parent = made'.parent;
      stands = made'.stands;
      top_is = ap (λ (x : ProcessNo). Some x) is_middle;
      listed = regroup_left (in_order l) (in_order b) (in_order c) (in_order d) n k m;
      totals = λ w. omega arith;
      balanced = (omega arith, omega arith, (omega arith, omega arith, p.left_balanced, balanced_r.2.2), (omega arith, omega arith, balanced_r.2.3, balanced_r.3));
      even = λ h1 h2. absurd (omega arith);
      low = omega arith;
      high = omega arith;
      len = made'.len;
      kept = λ x e. made'.kept x (omega arith);
    }

-- ---- which tree is too high

pub rotates_right : (nodes new : List Node) (top_no process root : ProcessNo) (right : Option ProcessNo) (l r : Tree) (n : Notice) → AreParts nodes (Some top_no) process right l n r → ((a b r : Tree) (m n : Notice) → AreParts nodes (Some top_no) process right (Branch a m b) n r → height (Branch a m b) ≡ height r + 2 → AreJoined nodes new (Branch a m b) n r root) → height_at nodes right + 1 < height_at nodes (Some top_no) → height l ≤ height r + 2 → AreJoined nodes new l n r root
rotates_right nodes new top_no process root right Empty r n p rotated higher high = absurd (let no = p.left_is in cc)
rotates_right nodes new top_no process root right (Branch a m b) r n p rotated higher high =
    let hl : height_at nodes (Some top_no) ≡ height (Branch a m b) = sym (ap (height_at nodes) p.left_is) ∙ height_at-is nodes p.left_parent (Branch a m b) p.left_stands in
    let hr : height_at nodes right ≡ height r = sym (ap (height_at nodes) p.right_is) ∙ height_at-is nodes p.right_parent r p.right_stands in
    rotated a b r m n p (omega arith)

pub rotates_left : (nodes new : List Node) (left : Option ProcessNo) (process top_no root : ProcessNo) (l r : Tree) (n : Notice) → AreParts nodes left process (Some top_no) l n r → ((l b d : Tree) (n m : Notice) → AreParts nodes left process (Some top_no) l n (Branch b m d) → height (Branch b m d) ≡ height l + 2 → AreJoined nodes new l n (Branch b m d) root) → height_at nodes left + 1 < height_at nodes (Some top_no) → height r ≤ height l + 2 → AreJoined nodes new l n r root
rotates_left nodes new left process top_no root l Empty n p rotated higher high = absurd (let no = p.right_is in cc)
rotates_left nodes new left process top_no root l (Branch b m d) n p rotated higher high =
    let hr : height_at nodes (Some top_no) ≡ height (Branch b m d) = sym (ap (height_at nodes) p.right_is) ∙ height_at-is nodes p.right_parent (Branch b m d) p.right_stands in
    let hl : height_at nodes left ≡ height l = sym (ap (height_at nodes) p.left_is) ∙ height_at-is nodes p.left_parent l p.left_stands in
    rotated l b d n m p (omega arith)

pub stays_even : (nodes : List Node) (left right : Option ProcessNo) (process : ProcessNo) (l r : Tree) (n : Notice) → AreParts nodes left process right l n r → height_at nodes left ≤ height_at nodes right + 1 → height_at nodes right ≤ height_at nodes left + 1 → AreJoined nodes (joined nodes left process right) l n r process
stays_even nodes left right process l r n p h1 h2 =
    let hr : height_at nodes right ≡ height r = sym (ap (height_at nodes) p.right_is) ∙ height_at-is nodes p.right_parent r p.right_stands in
    let hl : height_at nodes left ≡ height l = sym (ap (height_at nodes) p.left_is) ∙ height_at-is nodes p.left_parent l p.left_stands in
    joined_even nodes left right process l r n p (omega arith) (omega arith)
