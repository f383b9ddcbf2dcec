-- Lists with commas, as a loop reads them.
use Rattle.std.proofs.Common.{◌≡◌, ◌≤◌, ◌<◌, ℕ, ◌+◌, true, false, List, [], ◌∷◌, ◌++◌, map, length, None, Result, refl, sym, ap, ◌∙◌, subst, arith}
use Rattle.std.specs.declared.alloc.Global.{Global}
use Rattle.std.specs.declared.vec.Vec.{Vec}
use Rattle.sim_base.specs.declared.token.Token.{Token}
use Rattle.sim_base.specs.declared.token.TokenKind.TheVariants as k
use Rattle.sim_tree.specs.Grammar.{Part, Symbol, Of, Once, Many, is, just, right_side}
use Rattle.sim_tree.specs.Reading.{Forest, done, node, kind_at, Reads, reads-done, reads-skip, after-skip}
use Rattle.sim_tree.specs.Derivation.{row}
use Rattle.sim_tree.specs.Tree.{limit}
use Rattle.sim_tree.proofs.Steps.{Leads, past-one, leads-as}
use Rattle.sim_tree.proofs.DerivationLemmas.{row-append, map-append}
use Rattle.sim_expr_parser.specs.declared.refusal.Stop.{Stop}
use Rattle.sim_expr_parser.specs.Parsing.{Stops, ReadsTo, GivesTo}
use Rattle.sim_expr_parser.proofs.Steps.{Within, opened, to, marked, gone, stops-in, leads-stops, once, once-stops, passed}
use Rattle.sim_expr_parser.proofs.Tables.{one_row, just_is}
use Rattle.sim_parser.specs.CommaLists.{further, IsFurther, listed_with, ReadsItems, GivesItems}
use Rattle.sim_parser.specs.Parsing.{ReadsAll, GivesAll, GivesPart}

abbrev pub Comma : List Token → ℕ → ℕ → Type 0
Comma ws i j = (is (kind_at ws i) k.Comma ≡ true) × (j ≡ i + 1) × (j < length ws)

-- what a loop over such a list has read up to j
pub record Listed {A : Type 0} (view : A → Forest → Forest) (ws : List Token) (d : ℕ) (item : Symbol) (next : Part) (i : ℕ) (xs : List A) (j : ℕ) : Type 0 where
  pub goes : (s : List Symbol) → Leads ws d (item ∷ Of Many next ∷ s) i (listed_with view next xs) d (Of Many next ∷ s) j
  pub some : 0 < length xs

list-grows : {A : Type 0} (view : A → Forest → Forest) (next : Part) (xs ys : List A) (y : A) (h : Forest) → 0 < length xs → ys ≡ xs ++ y ∷ []
    → listed_with view next xs (node next (view y done) h) ≡ listed_with view next ys h
list-grows view next [] ys y h some e = absurd (omega (arith, some))
list-grows view next (x ∷ xs) ys y h some e =
    sym (ap (λ l. listed_with view next l h) e ∙ ap (λ l. view x (row next l h)) (map-append (λ z. view z done) xs y)
    ∙ ap (view x) (row-append next (map (λ z. view z done) xs) (view y done) h))

opened-further : (ws : List Token) (d at after : ℕ) (item : Symbol) (next : Part) → IsFurther item next → Comma ws at after → at < length ws → Within ws d next at (λ f. f) d (item ∷ []) after
opened-further ws d at after item next f comma within =
    to (opened ws d at next (further item) f.1 (one_row next (just k.Comma) (further item) (kind_at ws at) true f.0 (just_is (kind_at ws at) k.Comma true comma.0)) within) (marked comma)

module _ {A : Type 0} (view : A → Forest → Forest) {ws : List Token} {d i j : ℕ} {item : Symbol} {next : Part} where
  pub list-first : (xs ys : List A) (y : A) → ReadsTo ws d item i (view y) j → xs ≡ [] → ys ≡ xs ++ y ∷ [] → Listed view ws d item next i ys j
  list-first xs ys y p none same =
      let e : ys ≡ y ∷ [] = same ∙ ap (λ l. l ++ y ∷ []) none in
      record {
        goes = λ s. leads-as (view y) (listed_with view next ys) (λ f. ap (λ l. listed_with view next l f) (sym e))
            (record { reads = λ f m q. p.reads (Of Many next ∷ s) f m q; fails = λ x q. p.fails (Of Many next ∷ s) x q });
        some = omega (arith, ap length e);
      }

  pub list-more : {after end : ℕ} (xs ys : List A) (y : A) → IsFurther item next → Listed view ws d item next i xs j → j < length ws → Comma ws j after → ReadsTo ws d item after (view y) end → ys ≡ xs ++ y ∷ []
      → Listed view ws d item next i ys end
  list-more {after} xs ys y f l within comma p same =
      let part = gone (to (opened-further ws d j after item next f comma within) p) (view y done) refl in
      record {
        goes = λ s. leads-as (λ h. listed_with view next xs (node next (view y done) h)) (listed_with view next ys) (λ h. list-grows view next xs ys y h l.some same) (past-one (l.goes s) part);
        some = omega (arith, ap length same, l.some, length-grows xs y);
      }
    where
      length-grows : (xs : List A) (y : A) → 0 < length (xs ++ y ∷ [])
      length-grows [] y = omega arith
      length-grows (x ∷ xs) y = omega arith

  pub list-stops : {after : ℕ} (xs : List A) → IsFurther item next → Listed view ws d item next i xs j → j < length ws → Comma ws j after → (e : Stop) → ((s : List Symbol) → Stops ws d (item ∷ s) after e)
      → (s : List Symbol) → Stops ws d (item ∷ Of Many next ∷ s) i e
  list-stops {after} xs f l within comma e h s = leads-stops (l.goes s) e (stops-in Many (opened-further ws d j after item next f comma within) e h s)

  pub list-ends : (xs : List A) → IsFurther item next → Listed view ws d item next i xs j → is (kind_at ws j) k.Comma ≡ false → i ≤ j → j < length ws → ReadsItems view ws d item next i xs j
  list-ends xs f l over ahead within =
      let none : right_side next (kind_at ws j) ≡ None = one_row next (just k.Comma) (further item) (kind_at ws j) false f.0 (just_is (kind_at ws j) k.Comma false over) in
      record {
        reads = λ s h k q. (l.goes s).reads h k (reads-skip none refl q);
        fails = λ s e q. (l.goes s).fails e (after-skip none refl q);
        ahead = ahead;
        within = within;
      }

-- an item that is a part
pub item-part : {A : Type 0} (ws : List Token) (d i : ℕ) (n : Part) (view : A → Forest) (r : Result (A × ℕ) Stop) → GivesPart ws d n i view r → GivesTo ws d (Of Once n) i (λ x. node n (view x)) r
item-part ws d i n view r h =
    passed (GivesPart ws d n i view) (GivesTo ws d (Of Once n) i (λ x. node n (view x))) (λ x p. once p) (λ e p. once-stops ws d i n e p) r h

-- a list as all that is left inside a part
pub items-all : {A : Type 0} (ws : List Token) (d i : ℕ) (item : Symbol) (next : Part) (view : A → Forest → Forest) (whole : Vec A Global → Forest) → ((v : Vec A Global) → listed_with view next v.items done ≡ whole v)
    → (r : Result (Vec A Global × ℕ) Stop) → GivesItems ws d item next i view r → GivesAll ws d (item ∷ Of Many next ∷ []) i whole r
items-all {A} ws d i item next view whole same r h =
    passed (GivesItems ws d item next i view) (GivesAll ws d (item ∷ Of Many next ∷ []) i whole) all (λ e p. p []) r h
  where
    all : (x : Vec A Global × ℕ) → ReadsItems view ws d item next i x.0.items x.1 → ReadsAll ws d (item ∷ Of Many next ∷ []) i (whole x.0) x.1
    all x p = record {
      reads = subst (λ z. Reads limit ws d (item ∷ Of Many next ∷ []) i z x.1) (same x.0) (p.reads [] done x.1 reads-done);
      ahead = p.ahead;
      within = p.within;
    }

-- past a list, inside a part
pub to-items : {A : Type 0} {view : A → Forest → Forest} {ws : List Token} {d i j e m : ℕ} {n next : Part} {item : Symbol} {F : Forest → Forest} {s : List Symbol} {xs : List A} → Within ws d n i F e (item ∷ Of Many next ∷ s) j
    → ReadsItems view ws e item next j xs m → Within ws d n i (λ f. F (listed_with view next xs f)) e s m
to-items {view = view} {next = next} {s = s} {xs = xs} w r = record {
  right = w.right;
  begins = w.begins;
  shallow = w.shallow;
  depth = w.depth;
  leads = record { reads = λ f k q. w.leads.reads (listed_with view next xs f) k (r.reads s f k q); fails = λ x q. w.leads.fails x (r.fails s x q) };
  ahead = omega (arith, w.ahead, r.ahead);
  within = r.within;
}
