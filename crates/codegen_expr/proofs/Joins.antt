-- Instructions one behind another, and the code of `&`.
use Rattle.std.proofs.Common.{◌≡◌, ◌≢◌, ◌<◌, ◌≤◌, ℕ, suc, Bool, true, false, List, [], ◌∷◌, length, drop, refl, sym, ap, ◌∙◌, subst}
use Rattle.std.proofs.lemmas.List.{drop_all}
use Rattle.std.specs.Prelude.{⊤, ◌&&◌, not}
use Rattle.sim_base.specs.declared.numbering.TokenNo.{TokenNo}
use Rattle.sim_scope.specs.declared.bound.Bound.{Bound}
use Rattle.sim_scope.specs.Source.{level_of, line_at, source_of}
use Rattle.sim_code.specs.declared.instr.Instr.{Instr}
use Rattle.sim_code.specs.declared.instr.Instr.TheVariants as i
use Rattle.sim_code.specs.Running.{runs}
use Rattle.codegen_expr.specs.declared.spot.Spot.{Spot}
use Rattle.codegen_expr.specs.CodeExpr.{Stand, join_instrs, joined_in}
use Rattle.codegen_expr.specs.Drafts.{DraftOf, Emits, with_instr, with_room, with_temp}
use Rattle.codegen_expr.specs.Emit.{WritesAll, WritesJoin, all_fit, is_hole}
use Rattle.codegen_expr.specs.Sites.{At}
use Rattle.codegen_expr.proofs.Pieces.{emits_as, emits_at, emits_none, emits_room, emits_temp_behind, emits_temps, emits_then}

-- in a loop: what is written of the rest is written of the whole
unfoldable pub OwesAll : (w : Spot) → (old : DraftOf) → List Instr → (line : ℕ) → (now : DraftOf) → List Instr → Type 0
OwesAll w old xs line now rest =
    all_fit xs ≡ true
    → (all_fit rest ≡ true) × ((end : DraftOf) → Emits w now end ⊤ (λ final site p q. Stand final line rest p q) → Emits w old end ⊤ (λ final site p q. Stand final line xs p q))

pub all_first : (w : Spot) (a : DraftOf) (xs : List Instr) (line : ℕ) → OwesAll w a xs line a xs
unfolding OwesAll
all_first w a xs line fit = (fit, λ end f. f)

both : (p q : Bool) → (p && q) ≡ true → (p ≡ true) × (q ≡ true)
both true true e = (refl, refl)
both true false e = absurd (cc)
both false q e = absurd (cc)

no_hole : (x : Instr) → not (is_hole x) ≡ true → x ≢ i.Halt
no_hole x e h = let q : not (is_hole x) ≡ false = ap (λ z. not (is_hole z)) h in cc

pub all_next : (w : Spot) (a c d : DraftOf) (xs r r' : List Instr) (line : ℕ) (x : Instr) → OwesAll w a xs line c r → r ≡ x ∷ r' → d ≡ with_instr c x line → OwesAll w a xs line d r'
unfolding OwesAll
all_next w a c d xs r r' line x f is ed fit =
    let g = f fit in
    let now : ((not (is_hole x) && runs x) && all_fit r') ≡ true = ap all_fit (sym is) ∙ g.0 in
    let one = both (not (is_hole x) && runs x) (all_fit r') now in
    let two = both (not (is_hole x)) (runs x) one.0 in (
      one.1,
      λ end rest.
          g.1 end (subst (λ z. Emits w c end ⊤ (λ final site p q. Stand final line z p q)) (sym is)
          (emits_as w _ _ _ _ c end (λ t. (tt, tt)) (λ t. tt) (λ final site p q _ _ t. t)
          (emits_then w _ _ (λ final site. At final x line) (λ final site p q. Stand final line r' p q) c d end (emits_at w c d x line ed (no_hole x two.0) two.1) rest))),
    )

pub all_end : (w : Spot) (a c : DraftOf) (xs r : List Instr) (line : ℕ) → OwesAll w a xs line c r → r ≡ [] → WritesAll w a c xs line
unfolding OwesAll WritesAll
all_end w a c xs r line f is fit =
    let g = f fit in
    g.1 c (subst (λ z. Emits w c c ⊤ (λ final site p q. Stand final line z p q)) (sym is) (emits_none w c))

pub join_all : (b : Bound) (w : Spot) (n : ℕ) (a c0 c1 c : DraftOf) (token : TokenNo) (right new inside above level line : ℕ) (xs ys : List Instr) → right ≡ suc w.temps → new ≡ suc right → inside ≡ suc n → above ≡ suc inside → c0 ≡ with_temp a new → c1 ≡ with_room c0 above → level ≡ level_of (source_of b) w.text → xs ≡ joined_in level w.temps right new → ys ≡ xs → line ≡ line_at (source_of b) token.0 → WritesAll w c1 c ys line → WritesJoin b w n a c token
unfolding WritesJoin WritesAll
join_all b w n a c0 c1 c token right new inside above level line xs ys er en ei ea e0 e1 el ex ey eline f =
    let s = source_of b in
    let new' : new ≡ suc (suc w.temps) = en ∙ ap suc er in
    let above' : above ≡ suc (suc n) = ea ∙ ap suc ei in
    let same : ys ≡ join_instrs (level_of s w.text) w.temps = ey ∙ ex ∙ ap (λ z. joined_in z w.temps right new) el ∙ ap (λ z. joined_in (level_of s w.text) w.temps z new) er ∙ ap (λ z. joined_in (level_of s w.text) w.temps (suc w.temps) z) new' in
    let g = f (ap all_fit same) in
    let g' = subst (λ z. Emits w c1 c ⊤ (λ final site p q. Stand final z ys p q)) eline g in
    let g2 = subst (λ z. Emits w c1 c ⊤ (λ final site p q. Stand final (line_at s token.0) z p q)) same g' in
    emits_temps w ⊤ (λ final site p q. (suc (suc w.temps) < site.size) × (suc (suc n) < site.room) × Stand final (line_at s token.0) (join_instrs (level_of s site.text) w.temps) p q) _ a c
    (λ final site p q temps r. subst (λ z. (suc (suc z) < site.size) × (suc (suc n) < site.room) × Stand final (line_at s token.0) (join_instrs (level_of s site.text) z) p q) (sym temps) r)
    (emits_as w _ _ _ _ a c (λ t. t) (λ t. t)
    (λ final site p q stands taken r. (subst (λ z. z < site.size) new' r.0, subst (λ z. z < site.room) above' r.1.0, subst (λ z. Stand final (line_at s token.0) (join_instrs (level_of s z) w.temps) p q) (sym stands) r.1.1))
    (emits_temp_behind w _ _ a c0 c new e0 (emits_room w _ _ c0 c1 c above e1 g2)))

pub all_end_of : (w : Spot) (a c : DraftOf) (xs : List Instr) (line i : ℕ) → OwesAll w a xs line c (drop i xs) → length xs ≤ i → WritesAll w a c xs line
all_end_of w a c xs line i f le = all_end w a c xs (drop i xs) line f (drop_all i xs le)

pub ruleset joins = (all_first, all_end_of, join_all)
