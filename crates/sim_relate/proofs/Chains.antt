-- Chains that are cut and joined, on both sides at the same place.
use Rattle.std.proofs.Common.{◌≡◌, ℕ, Bool, true, false, List, [], ◌∷◌, ◌++◌, Option, Some, None, refl, sym, ap, ◌∙◌, subst}
use Rattle.std.specs.Option.{option_map}
use Rattle.std.specs.Prelude.{if◌then◌else◌}
use Rattle.sim_chains.specs.Chains.{Cut, cut_at, is_instance, outermost, under, upper}
use Rattle.sim_scope.specs.Source.{Source}
use Rattle.sim_code.specs.Code.{CodeOf}
use Rattle.sim_code.specs.Machine.{Frames}
use Rattle.sim_code.specs.Machine as machine
use Rattle.sim_code.proofs.Lifts.{Both}
use Rattle.sim_meaning.specs.Levels.{has_levels, text_at}
use Rattle.sim_meaning.specs.Pending.{Activation, Do, EndBlock, EndEvaluation, EndLevel, EndObject, EndPrefixed, EndProcedure, EndProgram, Instances, Item, Op}
use Rattle.sim_meaning.specs.Pending as meaning
use Rattle.sim_meaning.specs.Texts.{text}
use Rattle.codegen_expr.specs.Sites.{frame_text}
use Rattle.codegen.specs.Compiled.{Compiled}
use Rattle.sim_relate.proofs.Carried.{same_owner, stage_thunk, top_owner}
use Rattle.sim_relate.proofs.ClassLevels.{class_levels, level_levels}
use Rattle.sim_relate.proofs.Known.{Kind, Runs, Spot, Stands, owner_of, site_at}
use Rattle.sim_relate.proofs.Relation.{AtLevel, Bottom, ChainAt, ChainOn, DeclaredTo, InStage, LevelEnds, ObjectIs, OpAt, StoreAt, WorkAt, declares, inner_here, inner_last, stays, to_first, to_next, with_inner, ends_process}
use Rattle.sim_relate.proofs.Stores.{own_levels}
use Rattle.sim_relate.proofs.Waiting.{NoValue, Wait, demand, gives_value}

-- who owns an activation is told by its thunk
pub is_owned : (o : Option ℕ) (j x : ℕ) → owner_of o j ≡ Some x → (o ≡ None) × (j ≡ x)
is_owned None j x e = let same : j ≡ x = cc (e) in (refl, same)
is_owned (Some n) j x e = absurd (cc (e))

module _ (s : Source) (code : CodeOf) where
  -- ---- texts in the frames of a text with levels

  abbrev Levelled : ℕ → Type 0
  Levelled t = has_levels (text s (frame_text s t)) ≡ true

  level_is : (t : ℕ) → frame_text s t ≡ t → has_levels (text s t) ≡ true → Levelled t
  level_is t frame has = ap (λ z. has_levels (text s z)) frame ∙ has

  declared_level : (b : Runs) (place : ℕ) (c : Spot) (q : ℕ) → DeclaredTo s code b place c q → Levelled c.text
  declared_level b place c q (to_next x) = subst (λ z. Levelled z.text) (sym x.goes_on) (level_is x.text (x.level).frame (x.level).has)
  declared_level b place c q (to_first x) = subst (λ z. Levelled z.text) (sym x.goes_on) (level_is x.text (x.level).frame (x.level).has)

  inner_level : (v : ℕ) (b : Runs) (u : ℕ) (c : Spot) (place after : ℕ) (ks ks' : List Kind) → AtLevel s code (site_at v b u) b c place after ks ks' → Levelled v → Levelled c.text
  inner_level v b u c place after ks ks' x h = subst (λ z. Levelled z.text) (sym x.goes_on) h

  ended_level : (b : Runs) (c : Spot) (p q : ℕ) (ks : List Kind) → LevelEnds s code b c p q ks → Levelled c.text
  ended_level b c p q ks x = subst (λ z. Levelled z.text) (sym x.goes_on) (level_is x.text (x.level).frame (x.level).has)

  -- the work behind an operator goes on in such a text
  stage_level : (Stays : Op → (p q : ℕ) → (before behind : List Kind) → Type 0) (v : ℕ) (b : Runs) (u : ℕ) (op : Op) (c : Spot) (p q : ℕ) (ks ks' : List Kind) → InStage s code Stays (site_at v b u) op b c p q ks ks' → Levelled v → Levelled c.text
  stage_level Stays v b u op c p q ks ks' (stays a calm g) h = subst (λ z. Levelled z.text) (sym g) h
  stage_level Stays v b u op c p q ks ks' (declares k e a) h = declared_level b a.place c q a.to
  stage_level Stays v b u op c p q ks ks' (inner_last xs e a) h = inner_level v b u c a.place q ks ks' a.at h
  stage_level Stays v b u op c p q ks ks' (inner_here token e a) h = inner_level v b u c a.place q ks ks' a.at h
  stage_level Stays v b u op c p q ks ks' (with_inner ss e a) h = inner_level v b u c a.place a.after ks ks' a.at h
  stage_level Stays v b u op c p q ks ks' (ends_process e a) h = subst (λ z. Levelled z.text) (sym a.goes_on) h

  -- the end of an instance of a text with levels gives no value
  levels_give : (m : Instances) (fs : Frames) (Below : Wait → Type 0) (inst t : ℕ) → Levelled t → (b : Runs) → b.thunk ≡ None → (used : ℕ) (w : List Item) (p : ℕ) (ks : List Kind) → WorkAt s code m fs Below inst t b used w p ks → gives_value w ≡ NoValue
  levels_give m fs Below inst t h b base used [] p ks a = absurd a
  levels_give m fs Below inst t h b base used (Do op ∷ w) p ks a =
      let c = a.5 in
      let frame = a.6 in
      let here : Levelled a.4 = ap (λ z. has_levels (text s z)) frame.frame ∙ h in
      levels_give m fs Below inst c.text (stage_level (OpAt s code m fs inst (site_at a.4 b a.1)) a.4 b a.1 op c a.0 a.2 ks a.3 a.10 here) c.runs (stage_thunk s code (OpAt s code m fs inst (site_at a.4 b a.1)) (site_at a.4 b a.1) op b c a.0 a.2 ks a.3 a.10 ∙ base) c.used w a.2 a.3 a.11
  levels_give m fs Below inst t h b base used (EndProcedure v ∷ w) p ks a = let none = ap has_levels (a.2).is in absurd (cc (none, h))
  levels_give m fs Below inst t h b base used (EndLevel k ∷ w) p ks a = let c = a.2 in levels_give m fs Below inst c.text (ended_level b c a.0 a.1 ks a.4) c.runs (ap (λ z. z.runs.thunk) (a.4).goes_on ∙ base) c.used w a.1 [] a.5
  levels_give m fs Below inst t h b base used (EndBlock ∷ w) p ks a = refl
  levels_give m fs Below inst t h b base used (EndProgram ∷ w) p ks a = refl
  levels_give m fs Below inst t h b base used (EndObject ∷ w) p ks a = refl
  levels_give m fs Below inst t h b base used (EndPrefixed ∷ w) p ks a = refl
  levels_give m fs Below inst t h b base used (EndEvaluation wanted ∷ w) p ks a = let is = (a.2).is_thunk in absurd (cc (base, is))

  module _ (m : Instances) (fs : Frames) where
    -- ---- what is below on a chain

    pub work_below : (Below : Wait → Type 0) (inst t : ℕ) (b : Runs) (used : ℕ) (w : List Item) (p : ℕ) (ks : List Kind) → WorkAt s code m fs Below inst t b used w p ks → Below (gives_value w)
    work_below Below inst t b used [] p ks a = absurd a
    work_below Below inst t b used (Do op ∷ w) p ks a = work_below Below inst (a.5).text (a.5).runs (a.5).used w a.2 a.3 a.11
    work_below Below inst t b used (EndBlock ∷ w) p ks a = ((a.2).1).below
    work_below Below inst t b used (EndProcedure leaves ∷ w) p ks a = ((a.2).ends).below
    work_below Below inst t b used (EndProgram ∷ w) p ks a = (a.2).below
    work_below Below inst t b used (EndObject ∷ w) p ks a = ((a.2).ends).below
    work_below Below inst t b used (EndPrefixed ∷ w) p ks a = ((a.2).ends).below
    work_below Below inst t b used (EndEvaluation wanted ∷ w) p ks a = (a.2).below
    work_below Below inst t b used (EndLevel k ∷ w) p ks a = work_below Below inst (a.2).text (a.2).runs (a.2).used w a.1 [] a.5

    -- the same work on something else
    work_on : (Below Below' : Wait → Type 0) (inst t : ℕ) (b : Runs) (used : ℕ) (w : List Item) (p : ℕ) (ks : List Kind) → Below' (gives_value w) → WorkAt s code m fs Below inst t b used w p ks → WorkAt s code m fs Below' inst t b used w p ks
    work_on Below Below' inst t b used [] p ks f a = absurd a
    work_on Below Below' inst t b used (Do op ∷ w) p ks f a = (a.0, a.1, a.2, a.3, a.4, a.5, a.6, a.7, a.8, a.9, a.10, work_on Below Below' inst (a.5).text (a.5).runs (a.5).used w a.2 a.3 f a.11)
    work_on Below Below' inst t b used (EndBlock ∷ w) p ks f a = let e = a.2 in let x = e.1 in (a.0, a.1, (e.0, record { base = x.base; last = x.last; at = x.at; heads = x.heads; none = x.none; below = f }))
    work_on Below Below' inst t b used (EndProcedure leaves ∷ w) p ks f a =
        let e = a.2 in
        let x = e.ends in
        (a.0, a.1, record { result = e.result; heading = e.heading; body = e.body; is = e.is; same = e.same; ends = record { base = x.base; last = x.last; at = x.at; heads = x.heads; none = x.none; below = f } })
    work_on Below Below' inst t b used (EndProgram ∷ w) p ks f a = let x = a.2 in (a.0, a.1, record { base = x.base; first = x.first; last = x.last; at = x.at; none = x.none; below = f })
    work_on Below Below' inst t b used (EndObject ∷ w) p ks f a =
        let e = a.2 in
        let x = e.ends in
        (a.0, a.1, record { levels = e.levels; not_first = e.not_first; was = e.was; block = e.block; found = e.found; ends = record { base = x.base; last = x.last; at = x.at; heads = x.heads; none = x.none; below = f } })
    work_on Below Below' inst t b used (EndPrefixed ∷ w) p ks f a =
        let e = a.2 in
        let x = e.ends in
        (a.0, a.1, record { levels = e.levels; not_first = e.not_first; was = e.was; block = e.block; found = e.found; ends = record { base = x.base; last = x.last; at = x.at; heads = x.heads; none = x.none; below = f } })
    work_on Below Below' inst t b used (EndEvaluation wanted ∷ w) p ks f a =
        let x = a.2 in (a.0, a.1, record { number = x.number; is_thunk = x.is_thunk; alone = x.alone; last = x.last; at = x.at; kind = x.kind; given = x.given; one = x.one; below = f })
    work_on Below Below' inst t b used (EndLevel k ∷ w) p ks f a = (a.0, a.1, a.2, a.3, a.4, work_on Below Below' inst (a.2).text (a.2).runs (a.2).used w a.1 [] f a.5)

    -- an instance on a chain, with something else below
    abbrev Below : (Ground : Wait → List machine.Activation → Type 0) → List Activation → List machine.Activation → Wait → Type 0
    Below Ground rest below v = ChainOn s code Ground m fs rest v below

    pub below_top : (Ground : Wait → List machine.Activation → Type 0) (a : Activation) (rest : List Activation) (v : Wait) (x : machine.Activation) (below : List machine.Activation) → ChainOn s code Ground m fs (a ∷ rest) v (x ∷ below) → ChainOn s code Ground m fs rest (gives_value a.work) below
    below_top Ground a rest v x below c = work_below (Below Ground rest below) a.instance c.text c.block c.used a.work x.pc _ c.goes

    top_on : (Ground Ground' : Wait → List machine.Activation → Type 0) (a : Activation) (rest rest' : List Activation) (v : Wait) (x : machine.Activation) (below below' : List machine.Activation) → ChainOn s code Ground m fs (a ∷ rest) v (x ∷ below) → ChainOn s code Ground' m fs rest' (gives_value a.work) below' → ChainOn s code Ground' m fs (a ∷ rest') v (x ∷ below')
    top_on Ground Ground' a rest rest' v x below below' c d = record {
      home = c.home;
      text = c.text;
      block = c.block;
      base = c.base;
      found = c.found;
      stands = c.stands;
      own = c.own;
      roomy = c.roomy;
      room = c.room;
      stage = c.stage;
      kinds = c.kinds;
      values = c.values;
      gets = c.gets;
      gets_is = c.gets_is;
      fits = c.fits;
      asked = c.asked;
      used = c.used;
      goes = work_on (Below Ground rest below) (Below Ground' rest' below') a.instance c.text c.block c.used a.work x.pc _ d c.goes;
    }

    -- ---- chains that are joined

    -- a chain that stands on nothing, whose end gives what the other one is given
    pub on_ground : (d : Wait) (op : List Activation) (ops : List machine.Activation) → ChainAt s code m fs op d ops → (w : Wait) (b : List machine.Activation) → Bottom s code d w b → ChainAt s code m fs op w (b ++ ops)
    on_ground d op ops c w b g = subst (λ z. ChainAt s code m fs op z (b ++ ops)) (sym g.still) (subst (λ z. ChainAt s code m fs op d (z ++ ops)) (sym g.is) c)

    pub chain_join : (d : Wait) (op : List Activation) (ops : List machine.Activation) → ChainAt s code m fs op d ops → (chain : List Activation) (v : Wait) (below : List machine.Activation) → ChainOn s code (Bottom s code d) m fs chain v below → ChainAt s code m fs (chain ++ op) v (below ++ ops)
    chain_join d op ops c [] v below a = on_ground d op ops c v below a
    chain_join d op ops c (x ∷ rest) v [] a = absurd a
    chain_join d op ops c (x ∷ rest) v (y ∷ below) a =
        top_on (Bottom s code d) (Bottom s code NoValue) x rest (rest ++ op) v y below (below ++ ops) a (chain_join d op ops c rest (gives_value x.work) below (below_top (Bottom s code d) x rest v y below a))

    -- ---- chains that are cut

    -- Both are cut at the same place. The part above stands on nothing, and its end gives what the other part is given.
    abbrev pub CutIs : Wait → Cut Activation → Cut machine.Activation → Type 0
    CutIs v k k' = ChainOn s code (Bottom s code (demand v k.above)) m fs k.above v k'.above × ChainAt s code m fs (k.here ∷ k.below) (demand v k.above) (k'.here ∷ k'.below)

    -- with one activation more above the cut
    one_more : (a : Activation) (rest : List Activation) (y : machine.Activation) (below : List machine.Activation) (v : Wait) → ChainAt s code m fs (a ∷ rest) v (y ∷ below) → (k : Option (Cut Activation)) (k' : Option (Cut machine.Activation)) → Both (CutIs (gives_value a.work)) k k' → Both (CutIs v) (option_map (under a) k) (option_map (under y) k')
    one_more a rest y below v c None None r = tt
    one_more a rest y below v c None (Some k') r = absurd r
    one_more a rest y below v c (Some k) None r = absurd r
    one_more a rest y below v c (Some k) (Some k') r =
        (top_on (Bottom s code NoValue) (Bottom s code (demand (gives_value a.work) k.above)) a rest k.above v y below k'.above c r.0, r.1)

    module _ (x : ℕ) where
      cut_by : (a : Activation) (rest : List Activation) (y : machine.Activation) (below : List machine.Activation) (v : Wait) → ChainAt s code m fs (a ∷ rest) v (y ∷ below) → Both (CutIs (gives_value a.work)) (cut_at meaning.owner x rest) (cut_at machine.owner x below) → (g : Bool)
          → Both (CutIs v) (if g then Some (record { above = []; here = a; below = rest }) else option_map (under a) (cut_at meaning.owner x rest)) (if g then Some (record { above = []; here = y; below = below }) else option_map (under y) (cut_at machine.owner x below))
      cut_by a rest y below v c r true = (record { still = refl; is = refl }, c)
      cut_by a rest y below v c r false = one_more a rest y below v c (cut_at meaning.owner x rest) (cut_at machine.owner x below) r

      pub chain_cut : (chain : List Activation) (v : Wait) (below : List machine.Activation) → ChainAt s code m fs chain v below → Both (CutIs v) (cut_at meaning.owner x chain) (cut_at machine.owner x below)
      chain_cut [] v [] c = tt
      chain_cut [] v (y ∷ below) c = absurd (cc (c.is))
      chain_cut (a ∷ rest) v [] c = absurd c
      chain_cut (a ∷ rest) v (y ∷ below) c =
          subst (λ z. Both (CutIs v) (cut_at meaning.owner x (a ∷ rest)) (if is_instance x z then Some (record { above = []; here = y; below = below }) else option_map (under y) (cut_at machine.owner x below))) (sym (same_owner s code (Bottom s code NoValue) m fs a rest v y below c))
          (cut_by a rest y below v c (chain_cut rest (gives_value a.work) below (below_top (Bottom s code NoValue) a rest v y below c)) (is_instance x (meaning.owner a)))

    -- the outermost activations of a chain that stands on nothing are of the same instance
    pub outermost_same : (d : Wait) (chain : List Activation) (v : Wait) (below : List machine.Activation) → ChainOn s code (Bottom s code d) m fs chain v below → outermost machine.owner below ≡ outermost meaning.owner chain
    outermost_same d [] v [] c = refl
    outermost_same d [] v (x ∷ below) c = absurd (cc (c.is))
    outermost_same d (a ∷ rest) v [] c = absurd c
    outermost_same d (a ∷ []) v (x ∷ []) c = same_owner s code (Bottom s code d) m fs a [] v x [] c
    outermost_same d (a ∷ []) v (x ∷ y ∷ below) c = let r = below_top (Bottom s code d) a [] v x (y ∷ below) c in absurd (cc (r.is))
    outermost_same d (a ∷ b ∷ rest) v (x ∷ []) c = absurd (below_top (Bottom s code d) a (b ∷ rest) v x [] c)
    outermost_same d (a ∷ b ∷ rest) v (x ∷ y ∷ below) c = outermost_same d (b ∷ rest) (gives_value a.work) (y ∷ below) (below_top (Bottom s code d) a (b ∷ rest) v x (y ∷ below) c)

  -- ---- chains that are cut at objects

  module _ (compiled : Compiled s code) (m : Instances) (fs : Frames) (store : StoreAt s code m fs) (x : ℕ) (object : ObjectIs s code m x) where
    -- the text in which the object goes on has levels
    object_levels : (inst t own : ℕ) → text_at m inst ≡ Some own → Stands s m inst t → inst ≡ x → Levelled t
    object_levels inst t own is st e =
        let one = object.is in
        let same : text_at m inst ≡ Some object.own = ap (text_at m) e ∙ one in
        let texts : object.own ≡ own = cc (is, same) in
        level_levels s code compiled own (frame_text s t) (own_levels s code m fs store inst own t is st)
        (ap (λ z. has_levels (text s z)) (sym texts) ∙ class_levels s code compiled object.own object.class)

    -- The object leaves with what is above it: both stand on nothing then, and what is below is given no value.
    pub object_leaves : (v : Wait) (k : Cut Activation) (k' : Cut machine.Activation) → CutIs m fs v k k' → meaning.owner k.here ≡ Some x → ChainAt s code m fs (upper k) v (upper k') × ChainAt s code m fs k.below NoValue k'.below
    object_leaves v k k' r e =
        let c = r.1 in
        let own = is_owned c.block.thunk k.here.instance x (sym (top_owner s code (Bottom s code NoValue) m fs k.here k.below (demand v k.above) k'.here k'.below c) ∙ e) in
        let none : gives_value k.here.work ≡ NoValue = levels_give m fs (Below m fs (Bottom s code NoValue) k.below k'.below) k.here.instance c.text (object_levels k.here.instance c.text c.block.own c.own c.stands own.1) c.block own.0 c.used k.here.work k'.here.pc _ c.goes in
        let alone = top_on m fs (Bottom s code NoValue) (Bottom s code NoValue) k.here k.below [] (demand v k.above) k'.here k'.below [] c (record { still = none; is = refl }) in
        (chain_join m fs (demand v k.above) (k.here ∷ []) (k'.here ∷ []) alone k.above v k'.above r.0, subst (λ z. ChainAt s code m fs k.below z k'.below) none (below_top m fs (Bottom s code NoValue) k.here k.below (demand v k.above) k'.here k'.below c))
