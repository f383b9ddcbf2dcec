-- How blocks, declarations and rows of statements are read.
use Rattle.std.proofs.Common.{◌≡◌, ◌≤◌, ◌<◌, ℕ, ◌+◌, Bool, true, false, List, [], ◌∷◌, ◌++◌, length, map, Some, None, Ok, refl, sym, subst, ap, ◌∙◌, arith}
use Rattle.std.proofs.lemmas.Bool.{false≢true}
use Rattle.std.specs.Prelude.{◌||◌, not}
use Rattle.sim_base.specs.declared.token.Token.{Token}
use Rattle.sim_base.specs.declared.token.TokenKind.TheVariants as k
use Rattle.sim_base.specs.declared.token.TokenKind.{TokenKind}
use Rattle.sim_tree.specs.Grammar as g
use Rattle.sim_tree.specs.Grammar.{Part, Symbol, Of, Once, Maybe, Many, Kept, Mark, Any, Here, is, one_of, just, rows, right_side, begins_statement, types}
use Rattle.sim_tree.specs.Reading.{Forest, done, leaf, place, node, kind_at, inside_depth, is_too_deep, Reads, reads-done, reads-kept, reads-mark, reads-any, reads-none, reads-here, reads-part, reads-skip, Fails, Fault, Unexpected, TooDeep, fails-kept, fails-part, fails-deep, fails-inside, after-kept, after-here, after-part, after-skip, bare_leaf, value_at}
use Rattle.sim_tree.specs.Claim.{one}
use Rattle.sim_tree.specs.Derivation.{row}
use Rattle.sim_tree.specs.ProgramDerivation.{Declared, begun, next_statement, statements}
use Rattle.sim_tree.specs.Tree.{limit, ReadsPart}
use Rattle.sim_tree.proofs.Follow.{each_row}
use Rattle.sim_tree.proofs.Completion.{row_get}
use Rattle.sim_tree.proofs.Laws.{reads_ahead}
use Rattle.sim_expr_parser.specs.declared.refusal.Stop.{Stop}
use Rattle.sim_expr_parser.specs.declared.refusal.Stop.TheVariants as stop
use Rattle.sim_expr_parser.specs.Parsing.{Stops, ReadsTo}
use Rattle.sim_expr_parser.proofs.Steps.{Within, once-stops, opened, stops}
use Rattle.sim_expr_parser.proofs.Tables.{by_test, just_is, only}
use Rattle.sim_parser.specs.Parsing.{Closes, ReadsDeclarations, NoDeclaration, begins, declared, identified_row, statement_list}
use Rattle.sim_parser.proofs.BlockShapes.{begun_named, begun_other, declared-append}
use Rattle.sim_parser.proofs.BlockTables.{decl_typed, no_decl, no_type, typed_row, behind, begun_row, begun_symbols, named_row, sequence_row, after_other, block_named, block_sequence, statement_named, or_other}

none_some : {l : List Symbol} → None ≡ Some l → ⊥
none_some e = cc

some_same : {a b : List Symbol} → Some a ≡ Some b → a ≡ b
some_same e = cc

-- the place of the next token
pub at_place : {ws : List Token} {d i : ℕ} (x : ℕ) → x ≡ i → i < length ws → ReadsTo ws d Here i (place x) i
at_place {ws} {d} {i} x same within = record {
  reads = λ s f m q. subst (λ z. Reads limit ws d (Here ∷ s) i (place z f) m) (sym same) (reads-here q);
  fails = λ s e q. after-here q;
  ahead = omega arith;
  within = within;
}

pub unexpected : (ws : List Token) (d i : ℕ) (n : Part) (x : Stop) → x ≡ stop.Unexpected i → right_side n (kind_at ws i) ≡ None → Stops ws d (one n) i x
unexpected ws d i n x h none = subst (λ z. Stops ws d (one n) i z) (sym h) (fails-part none refl)

-- two parts that can't begin here
module _ {ws : List Token} {d i : ℕ} {n : Part} where
  begins_not : {s : List Symbol} {e : Fault} → right_side n (kind_at ws i) ≡ None → Fails limit ws d (Of Once n ∷ s) i e → e ≡ Unexpected i
  begins_not none (fails-part b may) = refl
  begins_not none (fails-deep b deep) = absurd (none_some (sym none ∙ b))
  begins_not none (fails-inside b sh r) = absurd (none_some (sym none ∙ b))
  begins_not none (after-part b sh r q) = absurd (none_some (sym none ∙ b))
  begins_not none (after-skip b may r) = absurd (false≢true may)

  -- A repeated part that begins here stands at least once.
  pub many_reads : {right s : List Symbol} {f : Forest} {j : ℕ} → right_side n (kind_at ws i) ≡ Some right → Reads limit ws d (Of Many n ∷ s) i f j → Reads limit ws d (Of Once n ∷ Of Many n ∷ s) i f j
  many_reads e (reads-part b sh r q) = reads-part b sh r q
  many_reads e (reads-skip b may r) = absurd (none_some (sym b ∙ e))

  many_fails : {right s : List Symbol} {e : Fault} → right_side n (kind_at ws i) ≡ Some right → Fails limit ws d (Of Many n ∷ s) i e → Fails limit ws d (Of Once n ∷ Of Many n ∷ s) i e
  many_fails e (fails-part b may) = absurd (false≢true (sym may))
  many_fails e (fails-deep b deep) = fails-deep b deep
  many_fails e (fails-inside b sh r) = fails-inside b sh r
  many_fails e (after-part b sh r q) = after-part b sh r q
  many_fails e (after-skip b may r) = absurd (none_some (sym b ∙ e))

pub neither : (ws : List Token) (d i : ℕ) (n m : Part) → right_side n (kind_at ws i) ≡ None → right_side m (kind_at ws i) ≡ None → (x : Stop) → Stops ws d (one n) i x → Stops ws d (one m) i x
neither ws d i n m none other (stop.Unexpected y) h = subst (λ z. Fails limit ws d (one m) i z) (sym (begins_not none h)) (fails-part other refl)
neither ws d i n m none other (stop.TooDeep y) h = subst (λ z. Fails limit ws d (one m) i z) (sym (begins_not none h)) (fails-part other refl)
neither ws d i n m none other stop.Memory h = tt

pub many_stops : (ws : List Token) (d i : ℕ) (n : Part) (right s : List Symbol) → right_side n (kind_at ws i) ≡ Some right → (x : Stop) → Stops ws d (Of Many n ∷ s) i x → Stops ws d (Of Once n ∷ Of Many n ∷ s) i x
many_stops ws d i n right s e (stop.Unexpected m) h = many_fails e h
many_stops ws d i n right s e (stop.TooDeep m) h = many_fails e h
many_stops ws d i n right s e stop.Memory h = tt

-- where one of a repeated part stops
one_fails : {ws : List Token} {d i : ℕ} {n : Part} {right s : List Symbol} {e : Fault} → right_side n (kind_at ws i) ≡ Some right → Fails limit ws d (one n) i e → Fails limit ws d (Of Many n ∷ s) i e
one_fails e (fails-part b may) = absurd (none_some (sym b ∙ e))
one_fails e (fails-deep b deep) = fails-deep b deep
one_fails e (fails-inside b sh r) = fails-inside b sh r
one_fails {ws} {d} e (after-part b sh r q) = absurd (nothing q)
  where
    nothing : {m : ℕ} {x : Fault} → Fails limit ws d [] m x → ⊥
    nothing q = elim q [ ]
one_fails e (after-skip b may r) = absurd (false≢true may)

pub many_of_one : (ws : List Token) (d i : ℕ) (n : Part) (right : List Symbol) → right_side n (kind_at ws i) ≡ Some right → (x : Stop) → Stops ws d (one n) i x → (s : List Symbol) → Stops ws d (Of Many n ∷ s) i x
many_of_one ws d i n right e (stop.Unexpected m) h s = one_fails e h
many_of_one ws d i n right e (stop.TooDeep m) h s = one_fails e h
many_of_one ws d i n right e stop.Memory h s = tt

-- where the type of a declaration stops
pub type_stops : (ws : List Token) (d i : ℕ) (x : Stop) → is (kind_at ws i) k.Procedure ≡ false → is (kind_at ws i) k.Class ≡ false → i < length ws → Stops ws d (one g.TypeName) i x → Stops ws d (one g.Declaration) i x
type_stops ws d i x p c within h = go (one_of types (kind_at ws i)) refl
  where
    go : (v : Bool) → one_of types (kind_at ws i) ≡ v → Stops ws d (one g.Declaration) i x
    go true e = stops (opened ws d i g.Declaration typed_row refl (decl_typed (kind_at ws i) e) within) x (once-stops ws d i g.TypeName x h)
    go false e = neither ws d i g.TypeName g.Declaration (no_type (kind_at ws i) e) (no_decl (kind_at ws i) e p c) x h

-- one token that is kept is one token
pub kept_one : {ws : List Token} {d i j : ℕ} {any : List TokenKind} {f : Forest} → Reads limit ws d (Kept any ∷ []) i f j → j ≡ i + 1
kept_one (reads-kept h reads-done) = refl

-- the parts that begin with a token that is kept
abbrev taker : Part → Bool
taker g.TypeName = true
taker g.Declaration = true
taker g.WhenArm = true
taker _ = false

abbrev takes : List Symbol → Bool
takes (Kept any ∷ s) = true
takes (Of Once n ∷ s) = taker n
takes _ = false

rows_take : (n : Part) → (not (taker n) || each_row (rows n) takes) ≡ true
rows_take g.Declaration = refl
rows_take _ = refl

inside_takes : (n : Part) (ws : List Token) (i : ℕ) (right : List Symbol) → taker n ≡ true → right_side n (kind_at ws i) ≡ Some right → takes right ≡ true
unfolding right_side
inside_takes n ws i right h e = row_get (rows n) takes (kind_at ws i) right (sym (ap (λ b. not b || each_row (rows n) takes) h) ∙ rows_take n) e

forward : {ws : List Token} {d i j : ℕ} {s : List Symbol} {f : Forest} → takes s ≡ true → Reads limit ws d s i f j → i < j
forward e reads-done = absurd (false≢true e)
forward {ws} e (reads-kept h r) = omega (arith, reads_ahead limit ws r)
forward e (reads-mark h r) = absurd (false≢true e)
forward e (reads-any h r) = absurd (false≢true e)
forward e (reads-none h r) = absurd (false≢true e)
forward e (reads-here r) = absurd (false≢true e)
forward {ws} e (reads-part {start = i} {t = Once} {n = n} {right = right} b sh r q) = omega (arith, forward (inside_takes n ws i right e b) r, reads_ahead limit ws q)
forward e (reads-part {t = Maybe} b sh r q) = absurd (false≢true e)
forward e (reads-part {t = Many} b sh r q) = absurd (false≢true e)
forward e (reads-skip {t = Once} b may r) = absurd (false≢true may)
forward e (reads-skip {t = Maybe} b may r) = absurd (false≢true e)
forward e (reads-skip {t = Many} b may r) = absurd (false≢true e)

pub part_ahead : (ws : List Token) (d i j : ℕ) (n : Part) (f : Forest) → taker n ≡ true → ReadsPart ws d n i f j → i < j
part_ahead ws d i j n f h p = forward (inside_takes n ws i p.right h p.begins) p.inside

-- past what ends a declaration
pub to_closed : {ws : List Token} {d i j e m : ℕ} {n : Part} {F : Forest → Forest} {s : List Symbol} → Within ws d n i F e (Of Once g.AfterDeclaration ∷ Any k.Semicolon ∷ s) j → Closes ws e j (Ok m)
    → Within ws d n i (λ f. F (node g.AfterDeclaration done f)) e s m
to_closed {ws} {d} {i} {j} {e} {m} {n} {F} {s} w c = record {
  right = w.right;
  begins = w.begins;
  shallow = w.shallow;
  depth = w.depth;
  leads = record { reads = λ f k q. w.leads.reads (node g.AfterDeclaration done f) k (c.2 s f k q); fails = λ x q. w.leads.fails x (there x q) };
  ahead = omega (arith, w.ahead, c.0);
  within = c.1;
}
  where
    there : (x : Fault) → Fails limit ws e s m x → Fails limit ws e (Of Once g.AfterDeclaration ∷ Any k.Semicolon ∷ s) j x
    there (Unexpected y) q = c.3 s (stop.Unexpected y) q
    there (TooDeep y) q = c.3 s (stop.TooDeep y) q

-- Declarations.
pub declares_none : {ws : List Token} {d i : ℕ} → i < length ws → ReadsDeclarations ws d i [] i
declares_none within = record { reads = λ f m p. p; fails = λ e h. h; ahead = omega arith; within = within }

pub declares_more : {ws : List Token} {d i j m : ℕ} (ds : List Declared) (x : Declared) → ReadsDeclarations ws d i ds j → ReadsDeclarations ws d j (x ∷ []) m → ReadsDeclarations ws d i (ds ++ x ∷ []) m
declares_more {ws} {d} {i} {j} {m} ds x a b = record {
  reads = λ f k p. subst (λ z. ReadsPart ws d g.Block i z k) (sym (declared-append ds x f)) (a.reads (declared (x ∷ []) f) k (b.reads f k p));
  fails = λ e h. a.fails e (b.fails e h);
  ahead = omega (arith, a.ahead, b.ahead);
  within = b.within;
}

-- The statements of a block.

-- a reading of a part that stands once, taken apart
record Parted (ws : List Token) (d : ℕ) (n : Part) (s : List Symbol) (i : ℕ) (h : Forest) (m : ℕ) : Type 0 where
  pub inner : Forest
  pub rest : Forest
  pub middle : ℕ
  pub right : List Symbol
  pub shape : h ≡ node n inner rest
  pub begins : right_side n (kind_at ws i) ≡ Some right
  pub shallow : is_too_deep limit n d right ≡ false
  pub reads : Reads limit ws (inside_depth n d) right i inner middle
  pub others : Reads limit ws d s middle rest m

parted : {ws : List Token} {d i m : ℕ} {n : Part} {s : List Symbol} {h : Forest} → Reads limit ws d (Of Once n ∷ s) i h m → Parted ws d n s i h m
parted (reads-part {m = middle} {right = right} {f = f} {g = rest} b sh r q) = record { inner = f; rest = rest; middle = middle; right = right; shape = refl; begins = b; shallow = sh; reads = r; others = q }
parted (reads-skip b may r) = absurd (false≢true may)

abbrev inner_of : Forest → Forest
inner_of (node n f rest) = f
inner_of _ = done

abbrev rest_of : Forest → Forest
rest_of (node n f rest) = rest
rest_of _ = done

-- what makes a derivation that its first token or part begins
abbrev fronts : List Symbol → Bool
fronts (Kept any ∷ s) = true
fronts (Of Once n ∷ s) = true
fronts (Here ∷ s) = true
fronts _ = false

statement_fronts : each_row (rows g.Statement) fronts ≡ true
statement_fronts = refl

fronted : (ws : List Token) (i : ℕ) (right : List Symbol) → right_side g.Statement (kind_at ws i) ≡ Some right → fronts right ≡ true
unfolding right_side
fronted ws i right e = row_get (rows g.Statement) fronts (kind_at ws i) right statement_fronts e

kind_tested : (ws : List Token) (i : ℕ) (v : Bool) → is (kind_at ws i) k.Identifier ≡ v → is (kind_at ws i) k.Identifier ≡ v
unfolding kind_at
kind_tested ws i v h = h

begun_unnamed : {ws : List Token} {d i m : ℕ} {s : List Symbol} {f : Forest} (h : Forest) → is (kind_at ws i) k.Identifier ≡ false → fronts s ≡ true → Reads limit ws d s i f m → begun f h ≡ node g.Statement f h
begun_unnamed h e o reads-done = absurd (false≢true o)
begun_unnamed {ws = ws} {i = i} h e o (reads-kept {f = f} a r) = begun_other i (kind_at ws i) (value_at ws i) f h (kind_tested ws i false e)
begun_unnamed h e o (reads-mark a r) = absurd (false≢true o)
begun_unnamed h e o (reads-any a r) = absurd (false≢true o)
begun_unnamed h e o (reads-none a r) = absurd (false≢true o)
begun_unnamed h e o (reads-here r) = refl
begun_unnamed h e o (reads-part b sh r q) = refl
begun_unnamed h e o (reads-skip {t = Once} b may r) = absurd (false≢true may)
begun_unnamed h e o (reads-skip {t = Maybe} b may r) = absurd (false≢true o)
begun_unnamed h e o (reads-skip {t = Many} b may r) = absurd (false≢true o)

-- Where an identifier begins it: the same, one token later.
later_row : (ws : List Token) (i : ℕ) → right_side g.StatementOfIdentifier (kind_at ws i) ≡ Some begun_symbols
later_row ws i = only g.StatementOfIdentifier begun_symbols (kind_at ws i) refl

later_shallow : (d : ℕ) (right : List Symbol) (v : Bool) → right ≡ identified_row → is_too_deep limit g.Statement d right ≡ v → is_too_deep limit g.StatementOfIdentifier d begun_symbols ≡ v
later_shallow d right v same h = sym (ap (λ z. is_too_deep limit g.Statement d z) same) ∙ h

record Taken (ws : List Token) (d : ℕ) (i : ℕ) (f : Forest) (m : ℕ) : Type 0 where
  pub rest : Forest
  pub shape : f ≡ leaf i (kind_at ws i) (value_at ws i) rest
  pub reads : Reads limit ws (d + 1) begun_symbols (i + 1) rest m

taken : {ws : List Token} {d i m : ℕ} {f : Forest} → Reads limit ws (d + 1) identified_row i f m → Taken ws d i f m
taken (reads-kept {f = f} h r) = record { rest = f; shape = refl; reads = r }

module _ (ws : List Token) (d i : ℕ) (named : is (kind_at ws i) k.Identifier ≡ true) where
  statement_here : right_side g.Statement (kind_at ws i) ≡ Some identified_row
  statement_here = by_test g.Statement (kind_at ws i) k.Identifier identified_row named statement_named

  taken_fails : {e : Fault} → Fails limit ws (d + 1) identified_row i e → Fails limit ws (d + 1) begun_symbols (i + 1) e
  taken_fails (fails-kept h) = absurd (false≢true (sym h ∙ just_is (kind_at ws i) k.Identifier true named))
  taken_fails (after-kept h r) = r

  later_fails : {e : Fault} → Fails limit ws d sequence_row i e → Fails limit ws d begun_row (i + 1) e
  later_fails (fails-part b may) = absurd (none_some (sym b ∙ statement_here))
  later_fails (fails-deep {right = right} b deep) =
      subst (λ z. Fails limit ws d begun_row (i + 1) (TooDeep z)) (omega arith) (fails-deep (later_row ws (i + 1)) (later_shallow d right true (some_same (sym b ∙ statement_here)) deep))
  later_fails {e} (fails-inside {right = right} b sh r) =
      let same = some_same (sym b ∙ statement_here) in
      fails-inside (later_row ws (i + 1)) (later_shallow d right false same sh) (taken_fails (subst (λ z. Fails limit ws (d + 1) z i e) same r))
  later_fails {e} (after-part {m = m} {right = right} {f = f} b sh r q) =
      let same = some_same (sym b ∙ statement_here) in
      after-part (later_row ws (i + 1)) (later_shallow d right false same sh) (taken (subst (λ z. Reads limit ws (d + 1) z i f m) same r)).reads q
  later_fails (after-skip b may r) = absurd (false≢true may)

  block_row : right_side g.Block (kind_at ws i) ≡ Some named_row
  block_row = by_test g.Block (kind_at ws i) k.Identifier named_row named block_named

  named_kept : one_of (just k.Identifier) (kind_at ws i) ≡ true
  named_kept = just_is (kind_at ws i) k.Identifier true named

  module _ (other : is (kind_at ws (i + 1)) k.Class ≡ false) where
    after_row : right_side g.AfterIdentifier (kind_at ws (i + 1)) ≡ Some begun_row
    after_row = after_other (kind_at ws (i + 1)) other

    pub named_fails : {e : Fault} → Fails limit ws d sequence_row i e → Fails limit ws d (one g.Block) i e
    named_fails r = fails-inside block_row refl (after-kept named_kept (fails-inside after_row refl (later_fails r)))

    pub named_reads : {m : ℕ} (f h : Forest) → Reads limit ws d sequence_row i (node g.Statement f h) m → i ≤ m → m < length ws → ReadsPart ws d g.Block i (begun f h) m
    unfolding parted
    named_reads {m} f h r ahead within =
        let p = parted r in
        let same = some_same (sym p.begins ∙ statement_here) in
        let k = taken (subst (λ z. Reads limit ws (d + 1) z i p.inner p.middle) same p.reads) in
        let shape : f ≡ leaf i (kind_at ws i) (value_at ws i) k.rest = ap inner_of p.shape ∙ k.shape in
        let others = subst (λ z. Reads limit ws d behind p.middle z m) (sym (ap rest_of p.shape)) p.others in
        let made = sym (ap (λ z. begun z h) shape ∙ begun_named i (kind_at ws i) (value_at ws i) k.rest h (kind_tested ws i true named)) in
        record {
          right = named_row;
          begins = block_row;
          shallow = refl;
          inside = subst (λ z. Reads limit ws d named_row i z m) made
              (reads-kept named_kept (reads-part after_row refl (reads-part (later_row ws (i + 1)) (later_shallow d p.right false same p.shallow) k.reads others) reads-done));
          ahead = ahead;
          within = within;
        }

-- The statements of a block where no declaration begins, and its `end`.
module _ (ws : List Token) (d i : ℕ) (no : NoDeclaration ws i) (some : one_of begins (kind_at ws i) ≡ true) (more : is (kind_at ws i) k.End ≡ false) where
  other_row : is (kind_at ws i) k.Identifier ≡ false → right_side g.Block (kind_at ws i) ≡ Some sequence_row
  other_row h = block_sequence (kind_at ws i) no.plain h more (or_other (is (kind_at ws i) k.Identifier) (one_of begins_statement (kind_at ws i)) h some)

  sequence_fails : {e : Fault} → Fails limit ws d sequence_row i e → Fails limit ws d (one g.Block) i e
  sequence_fails {e} r = go (is (kind_at ws i) k.Identifier) refl
    where
      go : (v : Bool) → is (kind_at ws i) k.Identifier ≡ v → Fails limit ws d (one g.Block) i e
      go true h = named_fails ws d i h (no.prefixed h) r
      go false h = fails-inside (other_row h) refl r

  pub sequence_stops : (x : Stop) → Stops ws d sequence_row i x → Stops ws d (one g.Block) i x
  sequence_stops (stop.Unexpected y) h = sequence_fails h
  sequence_stops (stop.TooDeep y) h = sequence_fails h
  sequence_stops stop.Memory h = tt

  first_reads : {m : ℕ} (f h : Forest) → Reads limit ws d sequence_row i (node g.Statement f h) m → i ≤ m → m < length ws → ReadsPart ws d g.Block i (begun f h) m
  unfolding parted
  first_reads {m} f h r ahead within = go (is (kind_at ws i) k.Identifier) refl
    where
      go : (v : Bool) → is (kind_at ws i) k.Identifier ≡ v → ReadsPart ws d g.Block i (begun f h) m
      go true e = named_reads ws d i e (no.prefixed e) f h r ahead within
      go false e =
          let p = parted r in
          let here = ap inner_of p.shape in
          let made = ap (λ z. begun z h) here ∙ begun_unnamed h e (fronted ws i p.right p.begins) p.reads ∙ ap (λ z. node g.Statement z h) (sym here) in
          record {
            right = sequence_row;
            begins = other_row e;
            shallow = refl;
            inside = subst (λ z. Reads limit ws d sequence_row i z m) (sym made) r;
            ahead = ahead;
            within = within;
          }

  pub sequence_reads : {m : ℕ} (fs : List Forest) (end : ℕ) → 0 < length fs → Reads limit ws d sequence_row i (statement_list fs (bare_leaf end k.End done)) m → i ≤ m → m < length ws
      → ReadsPart ws d g.Block i (statements fs end) m
  sequence_reads [] end n r ahead within = absurd (omega (arith, n))
  sequence_reads (f ∷ fs) end n r ahead within = first_reads f (row g.NextStatement (map next_statement fs) (bare_leaf end k.End done)) r ahead within
