-- Arms one behind another, and the jumps behind their statements.
use Rattle.std.proofs.Common.{◌≡◌, ◌++◌, ℕ, ℤ, pos, List, [], ◌∷◌, length, map, Option, Some, None, refl, sym, ap, ◌∙◌, subst, append_assoc, append-nil}
use Rattle.std.specs.declared.alloc.Global.{Global}
use Rattle.std.specs.declared.boxed.Box.{Box}
use Rattle.sim_scope.specs.declared.bound.Bound.{Bound}
use Rattle.sim_scope.specs.Source.{Source, block_around, source_of}
use Rattle.sim_tree.specs.declared.stmt.Stmt.{Stmt}
use Rattle.sim_tree.specs.declared.stmt.When.{When}
use Rattle.sim_tree.specs.SyntaxOfProgram.{Arm, arm_syntax, arms, branch_syntax}
use Rattle.sim_code.specs.declared.instr.Instr.TheVariants as i
use Rattle.sim_code.specs.Code.{CodeOf}
use Rattle.sim_meaning.specs.Levels.{class_at}
use Rattle.codegen_expr.specs.declared.spot.Spot.{Spot}
use Rattle.codegen_expr.specs.Drafts.{DraftOf, filled_in}
use Rattle.codegen_expr.specs.Sites.{Is, Site}
use Rattle.codegen_expr.proofs.Pieces.{emits_as}
use Rattle.codegen.specs.BuiltProgram.{ArmsBuilt, StatementsBuilt}
use Rattle.codegen.specs.CodeStm.{ArmOfAt, ArmsAt, ConnectsAt, StmAt, StmsAt}
use Rattle.codegen.specs.EmitConnections.{AllBuilt, ArmFrom, ArmsFrom, FillsAll, OpenArms, OwesArms, OwesFilled, WritesArm, WritesOpenArms, WritesOtherwise, all_filled}
use Rattle.codegen.proofs.Inspected.{WritesArms}
use Rattle.codegen.proofs.Opened.{open_as, open_filled, open_none, open_then}

-- ---- what stands behind an arm

arm_more : (s : Source) (code : CodeOf) (site : Site) (a : Arm) (M N : ℕ → ℕ → Type 0) (p q : ℕ) → ((m : ℕ) → M m q → N m q) → ArmFrom s code site a M p q → ArmFrom s code site a N p q
arm_more s code site a M N p q f r = cases (class_at s a.class.token.0) (ConnectsAt s code site a.opening (block_around s a.opening) (λ site. StmAt s code site 0 a.body)) r
  where
    cases : (o : Option ℕ) (C : ℕ → ℕ → Type 0) → ArmOfAt s code site 0 o C M p q → ArmOfAt s code site 0 o C N p q
    cases None C r = absurd r
    cases (Some k) C r = record { a = r.a; b = r.b; c = r.c; d = r.d; y = r.y; again = r.again; test = r.test; jump = r.jump; leads = r.leads; connected = r.connected; over = r.over; past = r.past; more = f r.y r.more }

arms_more : (s : Source) (code : CodeOf) (site : Site) (xs : List Arm) (M N : ℕ → ℕ → Type 0) (p q : ℕ) → ((m : ℕ) → M m q → N m q) → ArmsFrom s code site xs M p q → ArmsFrom s code site xs N p q
arms_more s code site [] M N p q f r = f p r
arms_more s code site (a ∷ xs) M N p q f r = arm_more s code site a _ _ p q (λ m. arms_more s code site xs M N m q f) r

arms_at : (s : Source) (code : CodeOf) (site : Site) (xs : List Arm) (Other : ℕ → ℕ → Type 0) (p q : ℕ) → ArmsFrom s code site xs (λ m t. (y : ℕ) × Is code i.Pop m y × Other y t) p q → ArmsAt s code site 0 (arms xs) Other p q
arms_at s code site [] Other p q r = r
arms_at s code site (a ∷ xs) Other p q r = arm_more s code site a _ _ p q (λ m. arms_at s code site xs Other m q) r

arms_built : (s : Source) (t : ℕ) (xs : List Arm) → ArmsBuilt s t (arms xs) → AllBuilt s t xs
arms_built s t [] h = tt
arms_built s t (a ∷ xs) h = ((h.0, h.1), arms_built s t xs h.2)

built_arms : (s : Source) (t : ℕ) (xs : List Arm) → AllBuilt s t xs → ArmsBuilt s t (arms xs)
built_arms s t [] h = tt
built_arms s t (a ∷ xs) h = (h.0.0, h.0.1, built_arms s t xs h.1)

-- ---- loops

pub filled_first : (a : DraftOf) (hs : List ℕ) (target : ℤ) → OwesFilled a hs target a hs
unfolding OwesFilled
filled_first a hs target = refl

pub filled_next : (a c d : DraftOf) (hs r r' : List ℕ) (h : ℕ) (target : ℤ) → OwesFilled a hs target c r → r ≡ h ∷ r' → d ≡ filled_in c h (i.Jump target) → OwesFilled a hs target d r'
unfolding OwesFilled
filled_next a c d hs r r' h target f is e = ap (λ z. all_filled z r' (i.Jump target)) e ∙ ap (λ z. all_filled c z (i.Jump target)) (sym is) ∙ f

pub filled_last : (a c : DraftOf) (hs r : List ℕ) (target : ℤ) → OwesFilled a hs target c r → r ≡ [] → FillsAll a c hs target
unfolding OwesFilled FillsAll
filled_last a c hs r target f is = ap (λ z. all_filled c z (i.Jump target)) (sym is) ∙ f

module _ (b : Bound) (w : Spot) where
  pub arms_all : (a : DraftOf) (xs : List When) → OwesArms b w a xs a [] xs
  unfolding OwesArms
  arms_all a xs end more f = f

  pub arms_next : (a c d : DraftOf) (xs r r' : List When) (x : When) (overs overs' : List ℕ) (over : ℕ) → OwesArms b w a xs c overs r → r ≡ x ∷ r' → WritesArm b w c d x over → overs' ≡ overs ++ (over ∷ []) → OwesArms b w a xs d overs' r'
  unfolding OwesArms WritesArm
  arms_next a c d xs r r' x overs overs' over f is g eo end more rest =
      let s = source_of b in
      let ys = map arm_syntax r' in
      let y = arm_syntax x in
      subst (λ z. OpenArms b w a end z (map arm_syntax xs)) (sym (append_assoc overs (over ∷ []) more) ∙ ap (λ z. z ++ more) (sym eo))
      (f end (over ∷ more) (subst (λ z. OpenArms b w c end (over ∷ more) (map arm_syntax z)) (sym is)
      (open_as w _ _ _ (λ final site target p q. ArmsFrom s final site (y ∷ ys) (λ m t. m ≡ q) p target) c end (over ∷ more) (over ∷ more) refl (λ h. h) (λ h. h)
      (λ final site target p q k. arm_more s final site y (λ m t. m ≡ k.0) (ArmsFrom s final site ys (λ m t. m ≡ q)) p target (λ m e. subst (λ z. ArmsFrom s final site ys (λ m t. m ≡ q) z target) (sym e) k.2) k.1)
      (open_then w _ _ _ _ c d end over more g rest))))

  arms_done : (a c : DraftOf) (xs r : List When) (overs : List ℕ) → OwesArms b w a xs c overs r → r ≡ [] → OpenArms b w a c overs (map arm_syntax xs)
  unfolding OwesArms
  arms_done a c xs r overs f is =
      subst (λ z. OpenArms b w a c z (map arm_syntax xs)) (append-nil overs)
      (f c [] (subst (λ z. OpenArms b w c c [] (map arm_syntax z)) (sym is) (open_none w c _ (λ final site target p. refl))))

  pub arms_open : (a c : DraftOf) (xs r : List When) (overs : List ℕ) → OwesArms b w a xs c overs r → r ≡ [] → WritesOpenArms b w a c xs overs
  unfolding WritesOpenArms
  arms_open a c xs r overs f is = arms_done a c xs r overs f is

  pub write_arms_all : (a c d e : DraftOf) (xs : List When) (o : Option (Box Stmt Global)) (overs : List ℕ) (target : ℤ) → WritesOpenArms b w a c xs overs → WritesOtherwise b w c d o → target ≡ pos (length d.instrs) → FillsAll d e overs target → WritesArms b w a e xs o
  unfolding WritesOpenArms WritesOtherwise FillsAll WritesArms
  write_arms_all a c d e xs o overs target f g et ee =
      let s = source_of b in
      let ys = map arm_syntax xs in
      emits_as w _ _ _ _ a e (λ h. (arms_built s w.text ys h.0, h.1)) (λ h. (built_arms s w.text ys h.0, h.1))
      (λ final site p q _ _ r. arms_at s final site ys (StmsAt s final site 0 (branch_syntax o)) p q (arms_more s final site ys (λ m t. m ≡ r.0) _ p q (λ m k. subst (λ z. (y : ℕ) × Is final i.Pop z y × StmsAt s final site 0 (branch_syntax o) y q) (sym k) r.2) r.1))
      (open_filled w (AllBuilt s w.text ys) (StatementsBuilt s w.text (branch_syntax o)) (λ final site target p q. ArmsFrom s final site ys (λ m t. m ≡ q) p target) (λ final site p q. (y : ℕ) × Is final i.Pop p y × StmsAt s final site 0 (branch_syntax o) y q) a c d e overs target f g et ee)
