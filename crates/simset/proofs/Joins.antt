-- what stays and what comes when a node is taken out of its ring, or put into one
use Rattle.std.proofs.Common.{◌≡◌, ◌≢◌, ℕ, suc, ◌<◌, ◌≤◌, List, [], ◌∷◌, ◌++◌, length, arith, false, refl, ap, ◌∙◌, sym, subst, ◌⊎◌, inl, inr}
use Rattle.std.proofs.lemmas.Bool.Decides.{nat_tests, eqb_tells}
use Rattle.std.proofs.lemmas.Bool.{cases_eq}
use Rattle.simset.specs.declared.rings.Node.{Node}
use Rattle.simset.specs.Sets.{times_among, without, insert_after, insert_before}
use Rattle.simset.specs.Nodes.{head_at, next_at, previous_at, IsNext, Links, IsJoined, IsTied, IsTakenOut, IsPutBehind}
use Rattle.simset.proofs.Lists.{insert_after-absent}

-- ---- taking a node out

pub taken_out : (old between new : List Node) (x : ℕ) → IsJoined old x
    → IsTied old between (previous_at old x) (next_at old x) → IsTied between new x x → IsTakenOut old new x
taken_out old between new x joined first second = record {
  count = omega (arith, first.count, second.count);
  heads = λ i. second.heads i ∙ first.heads i;
  others = λ u v other_u other_v before. record {
    onward = grind (arith, nat_tests, first.onward u, second.onward u, before.onward, before.back, joined.onward, joined.back);
    back = grind (arith, nat_tests, first.back v, second.back v, before.onward, before.back, joined.onward, joined.back);
  };
  across = λ u v other_u here there. record {
    onward = grind (arith, nat_tests, first.onward u, second.onward u, here.back, there.onward);
    back = grind (arith, nat_tests, first.back v, second.back v, here.onward, here.back, there.onward, there.back);
  };
  alone = record {
    onward = grind (arith, nat_tests, second.onward x);
    back = grind (arith, nat_tests, second.back x);
  };
}

without_here : (x : ℕ) (xs : List ℕ) → without x (x ∷ xs) ≡ without x xs
without_here x xs = grind (arith, nat_tests, eqb_tells x x)

without_there : (x y : ℕ) (xs : List ℕ) → y ≢ x → without x (y ∷ xs) ≡ y ∷ without x xs
without_there x y xs other = grind (arith, nat_tests, eqb_tells y x)

-- the links up to b lose x: along from a node before x, and across from the node in front of it
pub record Cut (old new : List Node) (x : ℕ) (xs : List ℕ) (b : ℕ) : Type 0 where
  pub along : (a : ℕ) → Links old a xs b → a ≢ x → Links new a (without x xs) b
  pub across : (a : ℕ) → IsNext old a x → Links old x xs b → a ≢ x → Links new a (without x xs) b

cut_at : (old new : List Node) (x a y : ℕ) (ys : List ℕ) (b : ℕ) → (y ≡ x) ⊎ (y ≡ x → ⊥) → IsTakenOut old new x
    → Cut old new x ys b → Links old a (y ∷ ys) b → a ≢ x → Links new a (without x (y ∷ ys)) b
cut_at old new x a y ys b (inl same) gone rest l other =
    let P : ℕ → Type 0 = λ n. Links old a (n ∷ ys) b in
    let moved : Links old a (x ∷ ys) b = subst P same l in
    rw (same, without_here x ys) (rest.across a moved.0 moved.2 other)
cut_at old new x a y ys b (inr apart) gone rest l other =
    rw (without_there x y ys apart) (gone.others a y other apart l.0, gone.heads y ∙ l.1, rest.along y l.2 apart)

cut_across : (old new : List Node) (x a y : ℕ) (ys : List ℕ) (b : ℕ) → IsTakenOut old new x → Cut old new x ys b
    → IsNext old a x → Links old x (y ∷ ys) b → a ≢ x → Links new a (without x (y ∷ ys)) b
cut_across old new x a y ys b gone rest here l other =
    let apart : y ≢ x = λ same. other (sym here.back ∙ ap (previous_at old) (sym same) ∙ l.0.back) in
    rw (without_there x y ys apart) (gone.across a y other here l.0, gone.heads y ∙ l.1, rest.along y l.2 apart)

pub Links-without : (old new : List Node) (x : ℕ) (xs : List ℕ) (b : ℕ) → IsTakenOut old new x → b ≢ x
    → Cut old new x xs b
Links-without old new x [] b gone other_b = record {
  along = λ a l other. gone.others a b other other_b l;
  across = λ a here l other. gone.across a b other here l;
}
Links-without old new x (y ∷ ys) b gone other_b = record {
  along = λ a l other. cut_at old new x a y ys b (cases_eq y x) gone (Links-without old new x ys b gone other_b) l other;
  across = λ a here l other. cut_across old new x a y ys b gone (Links-without old new x ys b gone other_b) here l other;
}

joined_between : (nodes : List Node) (u i v : ℕ) → u < length nodes → v < length nodes → IsNext nodes u i
    → IsNext nodes i v → IsJoined nodes i
joined_between nodes u i v made_u made_v before behind = record {
  next_made = rw behind.onward made_v;
  previous_made = rw before.back made_u;
  onward = ap (next_at nodes) before.back ∙ before.onward;
  back = ap (previous_at nodes) behind.onward ∙ behind.back;
}

next_of_joined : (nodes : List Node) (i : ℕ) → IsJoined nodes i → IsNext nodes i (next_at nodes i)
next_of_joined nodes i joined = record { onward = refl; back = joined.back }

pub previous_of_joined : (nodes : List Node) (i : ℕ) → IsJoined nodes i → IsNext nodes (previous_at nodes i) i
previous_of_joined nodes i joined = record { onward = joined.onward; back = refl }

-- a node that is the next of i, and one that is the previous, once x is out
record Neighbour (nodes : List Node) (made : ℕ) (R : ℕ → Type 0) : Type 0 where
  at : ℕ
  within : at < made
  holds : R at

next_when_out : (old new : List Node) (x i : ℕ) → IsTakenOut old new x → IsJoined old x → IsJoined old i → i ≢ x
    → (next_at old i ≡ x) ⊎ (next_at old i ≡ x → ⊥) → Neighbour new (length new) (λ v. IsNext new i v)
next_when_out old new x i gone joined_x joined other (inl same) =
    let P : ℕ → Type 0 = λ n. IsNext old i n in
    record { at = next_at old x; within = rw gone.count joined_x.next_made; holds = gone.across i (next_at old x) other (subst P same (next_of_joined old i joined)) (next_of_joined old x joined_x) }
next_when_out old new x i gone joined_x joined other (inr apart) =
    record { at = next_at old i; within = rw gone.count joined.next_made; holds = gone.others i (next_at old i) other apart (next_of_joined old i joined) }

previous_when_out : (old new : List Node) (x i : ℕ) → IsTakenOut old new x → IsJoined old x → IsJoined old i → i ≢ x
    → (previous_at old i ≡ x) ⊎ (previous_at old i ≡ x → ⊥) → Neighbour new (length new) (λ u. IsNext new u i)
previous_when_out old new x i gone joined_x joined other (inl same) =
    let P : ℕ → Type 0 = λ n. IsNext old n i in
    let apart : previous_at old x ≢ x = λ alone. other (sym joined.onward ∙ ap (next_at old) (same ∙ sym alone) ∙ joined_x.onward) in
    record { at = previous_at old x; within = rw gone.count joined_x.previous_made; holds = gone.across (previous_at old x) i apart (previous_of_joined old x joined_x) (subst P same (previous_of_joined old i joined)) }
previous_when_out old new x i gone joined_x joined other (inr apart) =
    record { at = previous_at old i; within = rw gone.count joined.previous_made; holds = gone.others (previous_at old i) i apart other (previous_of_joined old i joined) }

joined_when_out_at : (old new : List Node) (x i : ℕ) → IsTakenOut old new x → x < length old → IsJoined old x
    → IsJoined old i → (i ≡ x) ⊎ (i ≡ x → ⊥) → IsJoined new i
joined_when_out_at old new x i gone made joined_x joined (inl same) =
    let within : x < length new = rw gone.count made in
    rw same (joined_between new x x x within within gone.alone gone.alone)
joined_when_out_at old new x i gone made joined_x joined (inr other) =
    let v : Neighbour new (length new) (λ n. IsNext new i n) = next_when_out old new x i gone joined_x joined other (cases_eq (next_at old i) x) in
    let u : Neighbour new (length new) (λ n. IsNext new n i) = previous_when_out old new x i gone joined_x joined other (cases_eq (previous_at old i) x) in
    joined_between new u.at i v.at u.within v.within u.holds v.holds

pub joined_when_out : (old new : List Node) (x i : ℕ) → IsTakenOut old new x → x < length old → IsJoined old x
    → IsJoined old i → IsJoined new i
joined_when_out old new x i gone made joined_x joined = joined_when_out_at old new x i gone made joined_x joined (cases_eq i x)

-- ---- putting a node into a ring

pub put_behind : (old between new : List Node) (a x : ℕ) → IsJoined old a → IsNext old x x → a ≢ x
    → IsTied old between a x → IsTied between new x (next_at old a) → IsPutBehind old new a x
put_behind old between new a x joined alone apart first second =
    let other_end : next_at old a ≢ x = λ same. apart (sym joined.back ∙ ap (previous_at old) same ∙ alone.back) in
    record {
      count = omega (arith, first.count, second.count);
      heads = λ i. second.heads i ∙ first.heads i;
      others = λ u v other_a other_x before. record {
        onward = grind (arith, nat_tests, first.onward u, second.onward u, before.onward);
        back = grind (arith, nat_tests, first.back v, second.back v, before.onward, before.back, joined.onward, joined.back, alone.back);
      };
      first = record {
        onward = grind (arith, nat_tests, first.onward a, second.onward a);
        back = grind (arith, nat_tests, first.back x, second.back x);
      };
      second = λ b here. record {
        onward = grind (arith, nat_tests, second.onward x, here.onward);
        back = grind (arith, nat_tests, second.back b, here.onward);
      };
    }

next_when_put : (old new : List Node) (a x i : ℕ) → IsPutBehind old new a x → x < length old → IsJoined old i → i ≢ x
    → (i ≡ a) ⊎ (i ≡ a → ⊥) → Neighbour new (length new) (λ v. IsNext new i v)
next_when_put old new a x i put made joined other (inl same) =
    record { at = x; within = rw put.count made; holds = rw same put.first }
next_when_put old new a x i put made joined other (inr apart) =
    record { at = next_at old i; within = rw put.count joined.next_made; holds = put.others i (next_at old i) apart other (next_of_joined old i joined) }

previous_when_put : (old new : List Node) (a x i : ℕ) → IsPutBehind old new a x → x < length old → IsNext old x x
    → IsJoined old i → i ≢ x → (previous_at old i ≡ a) ⊎ (previous_at old i ≡ a → ⊥)
    → Neighbour new (length new) (λ u. IsNext new u i)
previous_when_put old new a x i put made alone joined other (inl same) =
    let P : ℕ → Type 0 = λ n. IsNext old n i in
    record { at = x; within = rw put.count made; holds = put.second i (subst P same (previous_of_joined old i joined)) }
previous_when_put old new a x i put made alone joined other (inr apart) =
    let other_x : previous_at old i ≢ x = λ same. other (sym joined.onward ∙ ap (next_at old) same ∙ alone.onward) in
    record { at = previous_at old i; within = rw put.count joined.previous_made; holds = put.others (previous_at old i) i apart other_x (previous_of_joined old i joined) }

joined_when_put_at : (old new : List Node) (a x i : ℕ) → IsPutBehind old new a x → a < length old → x < length old
    → IsJoined old a → IsNext old x x → IsJoined old i → (i ≡ x) ⊎ (i ≡ x → ⊥) → (i ≡ a) ⊎ (i ≡ a → ⊥)
    → (previous_at old i ≡ a) ⊎ (previous_at old i ≡ a → ⊥) → IsJoined new i
joined_when_put_at old new a x i put made_a made_x joined_a alone joined (inl same) at_a at_b =
    rw same (joined_between new a x (next_at old a) (rw put.count made_a) (rw put.count joined_a.next_made) put.first (put.second (next_at old a) (next_of_joined old a joined_a)))
joined_when_put_at old new a x i put made_a made_x joined_a alone joined (inr other) at_a at_b =
    let v : Neighbour new (length new) (λ n. IsNext new i n) = next_when_put old new a x i put made_x joined other at_a in
    let u : Neighbour new (length new) (λ n. IsNext new n i) = previous_when_put old new a x i put made_x alone joined other at_b in
    joined_between new u.at i v.at u.within v.within u.holds v.holds

pub joined_when_put : (old new : List Node) (a x i : ℕ) → IsPutBehind old new a x → a < length old → x < length old
    → IsJoined old a → IsNext old x x → IsJoined old i → IsJoined new i
joined_when_put old new a x i put made_a made_x joined_a alone joined =
    joined_when_put_at old new a x i put made_a made_x joined_a alone joined (cases_eq i x) (cases_eq i a) (cases_eq (previous_at old i) a)

-- ---- the links when x is put directly behind p

times_first : (y : ℕ) (ys : List ℕ) → times_among y (y ∷ ys) ≡ suc (times_among y ys)
times_first y ys = grind (arith, nat_tests, eqb_tells y y)

first_apart : (x y : ℕ) (ys : List ℕ) → times_among x (y ∷ ys) ≡ 0 → y ≢ x
first_apart x y ys none same = let P : ℕ → Type 0 = λ n. times_among n (y ∷ ys) ≡ 0 in omega (arith, subst P (sym same) none, times_first y ys)

rest_none : (x y : ℕ) (ys : List ℕ) → times_among x (y ∷ ys) ≡ 0 → times_among x ys ≡ 0
rest_none x y ys none = omega arith

rest_once : (x y : ℕ) (ys : List ℕ) → times_among x (y ∷ ys) ≤ 1 → times_among x ys ≤ 1
rest_once x y ys once = omega arith

rest_of_it : (y : ℕ) (ys : List ℕ) → times_among y (y ∷ ys) ≤ 1 → times_among y ys ≡ 0
rest_of_it y ys once = omega (arith, times_first y ys)

insert_after_here : (x p : ℕ) (ys : List ℕ) → insert_after x p (p ∷ ys) ≡ p ∷ x ∷ insert_after x p ys
insert_after_here x p ys = grind (arith, nat_tests, eqb_tells p p)

insert_after_there : (x p y : ℕ) (ys : List ℕ) → y ≢ p → insert_after x p (y ∷ ys) ≡ y ∷ insert_after x p ys
insert_after_there x p y ys other = grind (arith, nat_tests, eqb_tells y p)

-- along from a node before p, and from x itself behind p
pub record Grown (old new : List Node) (x p : ℕ) (xs : List ℕ) (b : ℕ) : Type 0 where
  pub along : (c : ℕ) → Links old c xs b → c ≢ p → c ≢ x → Links new c (insert_after x p xs) b
  pub behind : Links old p xs b → times_among p xs ≡ 0 → Links new x xs b

grown_at : (old new : List Node) (x p c y : ℕ) (ys : List ℕ) (b : ℕ) → (y ≡ p) ⊎ (y ≡ p → ⊥) → IsPutBehind old new p x
    → head_at old x ≡ false → times_among x (y ∷ ys) ≡ 0 → times_among p (y ∷ ys) ≤ 1 → Grown old new x p ys b
    → Links old c (y ∷ ys) b → c ≢ p → c ≢ x → Links new c (insert_after x p (y ∷ ys)) b
grown_at old new x p c y ys b (inl same) put link none once rest l other_p other_x =
    let P : ℕ → Type 0 = λ n. Links old c (n ∷ ys) b in
    let moved : Links old c (p ∷ ys) b = subst P same l in
    let Q : ℕ → Type 0 = λ n. times_among p (n ∷ ys) ≤ 1 in
    let no_more : times_among p ys ≡ 0 = rest_of_it p ys (subst Q same once) in
    rw (same, insert_after_here x p ys, insert_after-absent x p ys no_more)
    (put.others c p other_p other_x moved.0, put.heads p ∙ moved.1, (put.first, put.heads x ∙ link, rest.behind moved.2 no_more))
grown_at old new x p c y ys b (inr apart) put link none once rest l other_p other_x =
    rw (insert_after_there x p y ys apart)
    (put.others c y other_p other_x l.0, put.heads y ∙ l.1, rest.along y l.2 apart (first_apart x y ys none))

grown_behind : (old new : List Node) (x p y : ℕ) (ys : List ℕ) (b : ℕ) → IsPutBehind old new p x
    → times_among x (y ∷ ys) ≡ 0 → times_among p (y ∷ ys) ≡ 0 → Grown old new x p ys b → Links old p (y ∷ ys) b
    → Links new x (y ∷ ys) b
grown_behind old new x p y ys b put none nowhere rest l =
    let same : insert_after x p ys ≡ ys = insert_after-absent x p ys (rest_none p y ys nowhere) in
    let P : List ℕ → Type 0 = λ zs. Links new y zs b in
    (put.second y l.0, put.heads y ∙ l.1, subst P same (rest.along y l.2 (first_apart p y ys nowhere) (first_apart x y ys none)))

pub Links-insert_after : (old new : List Node) (x p : ℕ) (xs : List ℕ) (b : ℕ) → IsPutBehind old new p x
    → head_at old x ≡ false → times_among x xs ≡ 0 → times_among p xs ≤ 1 → Grown old new x p xs b
Links-insert_after old new x p [] b put link none once = record {
  along = λ c l other_p other_x. put.others c b other_p other_x l;
  behind = λ l nowhere. put.second b l;
}
Links-insert_after old new x p (y ∷ ys) b put link none once =
    let rest : Grown old new x p ys b = Links-insert_after old new x p ys b put link (rest_none x y ys none) (rest_once p y ys once) in
    record {
      along = λ c l other_p other_x. grown_at old new x p c y ys b (cases_eq y p) put link none once rest l other_p other_x;
      behind = λ l nowhere. grown_behind old new x p y ys b put none nowhere rest l;
    }

-- ---- the links when x is put directly before p, behind the node a in front of p

-- what is put behind a stands before p
record IsPutBefore (old new : List Node) (x p : ℕ) : Type 0 where
  heads : (i : ℕ) → head_at new i ≡ head_at old i
  others : (u v : ℕ) → u ≢ x → v ≢ p → IsNext old u v → IsNext new u v
  first : (u : ℕ) → IsNext old u p → IsNext new u x
  second : IsNext new x p

put_before_from : (old new : List Node) (a x p : ℕ) → IsPutBehind old new a x → IsNext old a p
    → IsPutBefore old new x p
put_before_from old new a x p put here = record {
  heads = put.heads;
  others = λ u v other_x other_p before. put.others u v (λ same. other_p (sym before.onward ∙ ap (next_at old) same ∙ here.onward)) other_x before;
  first = λ u before. let P : ℕ → Type 0 = λ n. IsNext new n x in subst P (sym here.back ∙ before.back) put.first;
  second = put.second p here;
}

insert_before_here : (x p : ℕ) (ys : List ℕ) → insert_before x p (p ∷ ys) ≡ x ∷ p ∷ insert_before x p ys
insert_before_here x p ys = grind (arith, nat_tests, eqb_tells p p)

insert_before_there : (x p y : ℕ) (ys : List ℕ) → y ≢ p → insert_before x p (y ∷ ys) ≡ y ∷ insert_before x p ys
insert_before_there x p y ys other = grind (arith, nat_tests, eqb_tells y p)

before_at : (old new : List Node) (x p c y : ℕ) (ys : List ℕ) (b : ℕ) → (y ≡ p) ⊎ (y ≡ p → ⊥)
    → IsPutBefore old new x p → head_at old x ≡ false → p ≢ x → y ≢ x → Links old c (y ∷ ys) b → c ≢ x
    → (y ≢ x → Links new y (insert_before x p ys) b) → Links new c (insert_before x p (y ∷ ys)) b
before_at old new x p c y ys b (inl same) put link other_p other_y l other_x rest =
    let P : ℕ → Type 0 = λ n. Links old c (n ∷ ys) b in
    let moved : Links old c (p ∷ ys) b = subst P same l in
    let Q : ℕ → Type 0 = λ n. Links new n (insert_before x p ys) b in
    rw (same, insert_before_here x p ys)
    (put.first c moved.0, put.heads x ∙ link, (put.second, put.heads p ∙ moved.1, subst Q same (rest other_y)))
before_at old new x p c y ys b (inr apart) put link other_p other_y l other_x rest =
    rw (insert_before_there x p y ys apart) (put.others c y other_x apart l.0, put.heads y ∙ l.1, rest other_y)

along_before : (old new : List Node) (x p c : ℕ) (xs : List ℕ) (b : ℕ) → IsPutBefore old new x p
    → head_at old x ≡ false → times_among x xs ≡ 0 → p ≢ x → b ≢ p → Links old c xs b → c ≢ x
    → Links new c (insert_before x p xs) b
along_before old new x p c [] b put link none other_p other_b l other_x = put.others c b other_x other_b l
along_before old new x p c (y ∷ ys) b put link none other_p other_b l other_x =
    before_at old new x p c y ys b (cases_eq y p) put link other_p (first_apart x y ys none) l other_x
    (λ other_y. along_before old new x p y ys b put link (rest_none x y ys none) other_p other_b l.2 other_y)

along_last : (old new : List Node) (x p c : ℕ) (xs : List ℕ) → IsPutBefore old new x p → head_at old x ≡ false
    → times_among x xs ≡ 0 → times_among p xs ≡ 0 → Links old c xs p → c ≢ x → Links new c (xs ++ x ∷ []) p
along_last old new x p c [] put link none nowhere l other_x = (put.first c l, put.heads x ∙ link, put.second)
along_last old new x p c (y ∷ ys) put link none nowhere l other_x =
    (put.others c y other_x (first_apart p y ys nowhere) l.0, put.heads y ∙ l.1, along_last old new x p y ys put link (rest_none x y ys none) (rest_none p y ys nowhere) l.2 (first_apart x y ys none))

pub Links-insert_before : (old new : List Node) (a x p c : ℕ) (xs : List ℕ) (b : ℕ) → IsPutBehind old new a x
    → IsNext old a p → head_at old x ≡ false → times_among x xs ≡ 0 → p ≢ x → b ≢ p → Links old c xs b → c ≢ x
    → Links new c (insert_before x p xs) b
Links-insert_before old new a x p c xs b put here link none other_p other_b l other_x =
    along_before old new x p c xs b (put_before_from old new a x p put here) link none other_p other_b l other_x

pub Links-push : (old new : List Node) (a x p c : ℕ) (xs : List ℕ) → IsPutBehind old new a x → IsNext old a p
    → head_at old x ≡ false → times_among x xs ≡ 0 → times_among p xs ≡ 0 → Links old c xs p → c ≢ x
    → Links new c (xs ++ x ∷ []) p
Links-push old new a x p c xs put here link none nowhere l other_x =
    along_last old new x p c xs (put_before_from old new a x p put here) link none nowhere l other_x
