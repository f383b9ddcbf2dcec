-- The tables of typed programs agree, as far as code rests on it.
use Rattle.std.proofs.Common.{◌≡◌, ◌<◌, ◌≤◌, ◌+◌, ℕ, zero, suc, Bool, if◌then◌else◌, true, false, List, [], ◌∷◌, length, Option, Some, None, refl, sym, ap, ◌∙◌, subst, arith}
use Rattle.std.specs.Prelude.{slice_get}
use Rattle.sim_base.specs.declared.numbering.DeclNo.{DeclNo}
use Rattle.sim_scope.specs.declared.types.Entry.{Entry}
use Rattle.sim_scope.specs.declared.types.Entry.TheVariants as entry
use Rattle.sim_scope.specs.declared.types.SimType.{SimType}
use Rattle.sim_scope.specs.declared.types.StandardClass.{StandardClass}
use Rattle.sim_scope.specs.declared.types.StandardClass.TheVariants as standard
use Rattle.sim_scope.specs.Access.{encloser}
use Rattle.sim_scope.specs.Actuals.{result_in}
use Rattle.sim_scope.specs.Levels.{base}
use Rattle.sim_scope.specs.Scopes.{entry_is, entry_of, is_virtual}
use Rattle.sim_scope.specs.Source.{Source, block_of, level_of}
use Rattle.sim_tree.specs.declared.stmt.TypeName.{TypeName}
use Rattle.sim_meaning.specs.Attributes.{is_connection}
use Rattle.sim_meaning.specs.Closing.{has_type}
use Rattle.sim_meaning.specs.Entries.{numbers_of}
use Rattle.sim_meaning.specs.Levels.{has_levels, is_class}
use Rattle.sim_meaning.specs.Meaning.{has_result}
use Rattle.sim_meaning.specs.Texts.{BlockText, ClassText, ConnectionText, PrefixedText, ProcedureText, StandardText, Text, text}
use Rattle.sim_meaning.specs.Virtuals.{match_in_text}
use Rattle.sim_sound.specs.Held.{Among, ResultFits, first, given_by, later}
use Rattle.sim_sound.specs.Typed as typed
use Rattle.sim_sound.specs.Typed.{ConnectionTyped, Distinct, Ends as BaseEnds, Home, ResultWritten, Typed, connected, outermost, prefixed, set_place, stands}
use Rattle.sim_sound.proofs.Attributes.{holds_result}
use Rattle.sim_sound.proofs.Lists.{same_some}
use Rattle.sim_sound.proofs.Prefixes.{level_has, level_is, level_number, levels_solid, prefix_level, same_level as own_level}
use Rattle.sim_sound.proofs.Prefixes as prefixes
use Rattle.codegen_expr.specs.Sites.{LevelOf, frame_text, frame_within, innermost, is_connected, outer, outward_or, prefix_of}
use Rattle.codegen.specs.Agrees.{Agrees, Ends, MatchThere, PrefixThere, ProcedureThere, ProcessBrought, before, is_prefixed, last}
use Rattle.sim_built.specs.Laid.{Laid}
use Rattle.sim_built.proofs.Cells.{class_is_solid, front_is, level_solid, no_front}

among_at : (ds : List DeclNo) (n : ℕ) (d : DeclNo) → slice_get ds n ≡ Some d → Among d ds
among_at [] n d e = absurd (cc)
among_at (x ∷ ds) zero d e = let same : x ≡ d = cc in subst (λ z. Among z (x ∷ ds)) same first
among_at (x ∷ ds) (suc n) d e = later (among_at ds n d e)

once : (ds : List DeclNo) (n m : ℕ) (d : DeclNo) → Distinct ds → slice_get ds n ≡ Some d → slice_get ds m ≡ Some d → n ≡ m
once [] n m d a e f = absurd (cc)
once (x ∷ ds) zero zero d a e f = refl
once (x ∷ ds) zero (suc m) d a e f = let same : d ≡ x = cc in absurd (a.0 (subst (λ z. Among z ds) same (among_at ds m d f)))
once (x ∷ ds) (suc n) zero d a e f = let same : d ≡ x = cc in absurd (a.0 (subst (λ z. Among z ds) same (among_at ds n d e)))
once (x ∷ ds) (suc n) (suc m) d a e f = ap suc (once ds n m d a.1 e f)

connection_text : (x : Option Text) → is_connection x ≡ true → x ≡ Some ConnectionText
connection_text None e = absurd (cc)
connection_text (Some ConnectionText) e = refl
connection_text (Some (BlockText begin ds ss)) e = absurd (cc)
connection_text (Some (ProcedureText result h a)) e = absurd (cc)
connection_text (Some (ClassText prefix h ds ss)) e = absurd (cc)
connection_text (Some (PrefixedText class arguments ds ss)) e = absurd (cc)
connection_text (Some (StandardText which)) e = absurd (cc)

both_given : (s : Source) (given : Option TypeName) (result : Option SimType) → ResultWritten given (given_by s result) → has_result given ≡ has_type result
both_given s None None w = refl
both_given s (Some t) (Some ty) w = refl
both_given s None (Some ty) w = absurd w
both_given s (Some t) None w = absurd w

place_same : (which : StandardClass) (m n : ℕ) → set_place which ≡ Some m → set_place which ≡ Some n → m ≡ n
place_same which m n e f = let same : Some m ≡ Some n = sym e ∙ f in cc

module _ (s : Source) (ok : Typed s) (laid : Laid s) where
  connection_typed : (k : ℕ) → is_connected s.tables k ≡ true → ConnectionTyped s k
  connection_typed k c = ok.texts k ConnectionText (connection_text (text s k) (sym (laid.connected k) ∙ c))

  same_level : (t u : ℕ) → encloser s.tables t ≡ Some u → is_connected s.tables t ≡ true → level_of s t ≡ level_of s u
  same_level t u e c = let a = (connection_typed t c).stands in let around = a.1 in let same : a.0 ≡ u = cc in a.2 ∙ ap (level_of s) same

  procedure : (d : DeclNo) (result : Option SimType) (k : ℕ) → entry_of s.tables d ≡ Some (entry.Procedure result k) → ProcedureThere s d result k
  procedure d result k e =
      let p = ok.procedures d result k e in
      let body = ok.texts k (ProcedureText p.given p.heading p.body) p.is in record {
        given = p.given;
        heading = p.heading;
        body = p.body;
        is = p.is;
        around = p.around;
        same = both_given s p.given result (subst (ResultWritten p.given) (holds_result s ok d result k e) body.result);
      }

  -- what matches a virtual in a text with levels stands in one of these
  fits_both : (own result : Option SimType) → ResultFits s (given_by s own) (given_by s result) → has_type own ≡ has_type result
  fits_both None None f = refl
  fits_both (Some t) (Some u) f = refl
  fits_both None (Some u) f = absurd f
  fits_both (Some t) None f = absurd f

  match_typed : (v k match : ℕ) (y : Option Entry) → entry_of s.tables (record { 0 = v }) ≡ y → entry_is is_virtual y ≡ true → match_in_text s v (Some k) ≡ Some (Some match) → typed.MatchThere s (result_in y) k match
  match_typed v k match (Some (entry.Virtual result own)) at is e = ok.matches (record { 0 = v }) result own k match at e
  match_typed v k match None at is e = absurd (cc)
  match_typed v k match (Some _) at is e = absurd (cc)

  -- a text that is no connection has its own frames
  own_frame : (k : ℕ) → is_connection (text s k) ≡ false → frame_text s k ≡ k
  unfolding frame_text
  own_frame k solid = within k
    where
      within : (n : ℕ) → frame_within n s.tables k ≡ k
      within zero = refl
      within (suc n) = ap (λ z. if z then outward_or (frame_within n s.tables) k (encloser s.tables k) else k) (laid.connected k ∙ solid)

  -- its levels are those in front of it
  front_level : {t v : ℕ} → is_connection (text s t) ≡ false → prefixes.LevelOf s t v → LevelOf s.tables t v
  front_level solid own_level = innermost
  front_level {t = t} solid (prefix_level {b = b} e x) = outer (front_is s ok laid t solid ∙ e) (front_level (class_is_solid (text s b) ((ok.prefixes).prefixed_by t b solid e).prefix) x)

  solid_frame : (n k : ℕ) → is_connection (text s k) ≡ false → frame_within n s.tables k ≡ k
  solid_frame zero k solid = refl
  solid_frame (suc n) k solid = ap (λ z. if z then outward_or (frame_within n s.tables) k (encloser s.tables k) else k) (laid.connected k ∙ solid)

  -- the frames of a connection are those of the text around
  connected_frame : (n k u h : ℕ) → encloser s.tables k ≡ Some u → is_connection (text s k) ≡ true → k ≤ n → ((m : ℕ) → u ≤ m → frame_within m s.tables u ≡ h) → frame_within n s.tables k ≡ h
  connected_frame zero k u h e c le f = (let lt = laid.falls k u e in absurd (let none : ⊥ = omega (arith, lt, le) in none))
  connected_frame (suc n) k u h e c le f =
      let lt = laid.falls k u e in
      ap (λ z. if z then outward_or (frame_within n s.tables) k (encloser s.tables k) else k) (laid.connected k ∙ c) ∙ ap (outward_or (frame_within n s.tables) k) e ∙ f n (omega (arith, lt, le))

  -- the text around has the frames of the nearest one that is no connection
  framed : {k h : ℕ} → Home s k h → (u : ℕ) × (encloser s.tables k ≡ Some u) × ((n : ℕ) → u ≤ n → frame_within n s.tables u ≡ h)
  framed (stands {u = u} e solid) = (u, e, λ n le. solid_frame n u solid)
  framed (connected {u = u} e c more) = (let r = framed more in (u, e, λ n le. connected_frame n u r.0 _ r.1 c le r.2))

  -- what has a next level and is no connection has its prefix in front of it
  prefix_there : (k front : ℕ) → is_connection (text s k) ≡ false → base s.tables k ≡ Some front → PrefixThere s k front
  unfolding frame_text
  prefix_there k front solid e =
      let p = (ok.prefixes).prefixed_by k front solid e in
      let home = framed p.around in
      let frame : frame_text s home.0 ≡ p.outer = home.2 home.0 (omega arith) in record {
        has = p.has;
        class = p.prefix;
        level = sym (level_number s ok solid (prefix_level e own_level));
        around = λ u f. (let same : p.outer_prefix ≡ u = same_some (encloser s.tables front) p.outer_prefix u p.around_prefix f in record {
          around = home.0;
          is = home.1;
          level = subst (λ z. LevelOf s.tables (frame_text s home.0) (frame_text s z)) same (
              subst (λ z. LevelOf s.tables z (frame_text s p.outer_prefix)) (sym frame) (subst (λ z. LevelOf s.tables p.outer z) (sym (own_frame p.outer_prefix (level_solid s ok laid p.outer p.outer_prefix p.solid p.declared))) (front_level p.solid (level_is s p.outer p.outer_prefix p.declared)))
              );
        });
      }

  front_there : (k front : ℕ) → prefix_of s.tables k ≡ Some front → PrefixThere s k front
  front_there k front e = by_text (is_connection (text s k)) refl
    where
      by_text : (c : Bool) → is_connection (text s k) ≡ c → PrefixThere s k front
      by_text true is = let none = no_front s ok laid k is in absurd (cc)
      by_text false is = prefix_there k front is (sym (front_is s ok laid k is) ∙ e)

  -- the levels of a text that is no connection come to an end
  solid_ends : {n k : ℕ} → is_connection (text s k) ≡ false → BaseEnds s.tables n k → Ends s.tables n k
  solid_ends {k = k} solid (outermost none) = last (front_is s ok laid k solid ∙ none)
  solid_ends {k = k} solid (prefixed {b = b} e more) = before (front_is s ok laid k solid ∙ e) (solid_ends (class_is_solid (text s b) ((ok.prefixes).prefixed_by k b solid e).prefix) more)

  one_level : (n k : ℕ) → 0 < n → prefix_of s.tables k ≡ None → Ends s.tables n k
  one_level zero k lt none = absurd (let e : ⊥ = omega (arith, lt) in e)
  one_level (suc n) k lt none = last none

  all_end : (k : ℕ) → Ends s.tables (length s.tables.blocks) k
  all_end k = by_text (is_connection (text s k)) refl
    where
      by_text : (c : Bool) → is_connection (text s k) ≡ c → Ends s.tables (length s.tables.blocks) k
      by_text true is = one_level (length s.tables.blocks) k ok.some_block (no_front s ok laid k is)
      by_text false is = solid_ends is ((ok.prefixes).ends k is)

  -- ---- standard classes

  -- what is in front of a text that is no connection is one of its levels
  level_back : {u v : ℕ} → is_connection (text s u) ≡ false → LevelOf s.tables u v → prefixes.LevelOf s u v
  level_back solid innermost = own_level
  level_back {u = u} solid (outer {u = b} e l) =
      let based : base s.tables u ≡ Some b = sym (front_is s ok laid u solid) ∙ e in
      prefix_level based (level_back (class_is_solid (text s b) ((ok.prefixes).prefixed_by u b solid based).prefix) l)

  -- no block has one among its levels
  blocks : (k u : ℕ) (which : StandardClass) → is_prefixed s.tables k ≡ true → LevelOf s.tables k u → text s u ≡ Some (StandardText which) → ⊥
  blocks k u which e l is = let q = laid.prefixed k e in by_text (text s k) refl q.0 q.1
    where
      by_text : (x : Option Text) → text s k ≡ x → has_levels x ≡ true → is_class x ≡ false → ⊥
      by_text (Some (PrefixedText class es ds ss)) at a b = let solid : is_connection (text s k) ≡ false = ap is_connection at in ok.no_set_block k u which class es ds ss at (level_has s ok k u solid (level_back solid l)) is
      by_text (Some (BlockText begin ds ss)) at a b = absurd (cc)
      by_text (Some (ProcedureText result h x)) at a b = absurd (cc)
      by_text (Some (ClassText prefix h ds ss)) at a b = absurd (cc)
      by_text (Some ConnectionText) at a b = absurd (cc)
      by_text (Some (StandardText other)) at a b = absurd (cc)
      by_text None at a b = absurd (cc)

  solid_standard : (k : ℕ) (which : StandardClass) → text s k ≡ Some (StandardText which) → is_connection (text s k) ≡ false
  solid_standard k which e = ap is_connection e

  other_text : (k : ℕ) (a b : StandardClass) → text s k ≡ Some (StandardText a) → text s k ≡ Some (StandardText b) → a ≡ b
  other_text k a b e f = let same : Some (StandardText a) ≡ Some (StandardText b) = sym e ∙ f in cc

  -- `linkage` has no other level, `link` and `head` have `linkage`
  under_linkage : (j k : ℕ) → text s j ≡ Some (StandardText standard.Linkage) → base s.tables j ≡ None → text s k ≡ Some (StandardText standard.Process) → prefixes.LevelOf s j k → ⊥
  under_linkage j k e none p own_level = let same = other_text j standard.Linkage standard.Process e p in cc
  under_linkage j k e none p (prefix_level {b = b} f l) = let same : None ≡ Some b = sym none ∙ f in cc

  under_class : (j k linkage : ℕ) (which : StandardClass) → text s j ≡ Some (StandardText which) → (which ≡ standard.Process → ⊥) → base s.tables j ≡ Some linkage → text s linkage ≡ Some (StandardText standard.Linkage) → base s.tables linkage ≡ None
      → text s k ≡ Some (StandardText standard.Process) → prefixes.LevelOf s j k → ⊥
  under_class j k linkage which e other based front none p own_level = other (other_text j which standard.Process e p)
  under_class j k linkage which e other based front none p (prefix_level {b = b} f l) =
      let same : linkage ≡ b = same_some (base s.tables j) linkage b based f in
      under_linkage linkage k front none p (subst (λ z. prefixes.LevelOf s z k) (sym same) l)

  no_link : standard.Link ≡ standard.Process → ⊥
  no_link f = cc

  no_head : standard.Head ≡ standard.Process → ⊥
  no_head f = cc

  -- `process` has `link`
  under_process : (j k : ℕ) → text s j ≡ Some (StandardText standard.Process) → text s k ≡ Some (StandardText standard.Process) → prefixes.LevelOf s j k → j ≡ k
  under_process j k e p own_level = refl
  under_process j k e p (prefix_level {b = b} f l) =
      let there = laid.processes j e in
      let sets = there.sets in
      let same : there.block + 2 ≡ b = same_some (base s.tables j) (there.block + 2) b there.base f in
      let link_at : there.block + 1 + 1 ≡ b = next there.block ∙ same in
      absurd (under_class b k (there.block + 1) standard.Link (ap (text s) (sym link_at) ∙ sets.link_is) no_link (ap (base s.tables) (sym link_at) ∙ sets.link_prefix) sets.linkage_is sets.first p l)
    where
      next : (n : ℕ) → n + 1 + 1 ≡ n + 2
      next n = omega arith

  standards : (j k : ℕ) (which : StandardClass) → text s j ≡ Some (StandardText which) → text s k ≡ Some (StandardText standard.Process) → LevelOf s.tables j k → j ≡ k
  standards j k which e p l = go which e (level_back (solid_standard j which e) l)
    where
      -- its place among those that were brought together
      linkage : text s j ≡ Some (StandardText standard.Linkage) → prefixes.LevelOf s j k → j ≡ k
      linkage e l =
          let there = ok.set_classes j standard.Linkage e in
          let zero_ : 0 ≡ there.place = place_same standard.Linkage 0 there.place refl there.placed in
          let c = there.classes in
          let same : j ≡ there.linkage = there.is ∙ at_place there.linkage there.place zero_ in
          absurd (under_linkage j k e (ap (base s.tables) same ∙ c.first) p l)
        where
          at_place : (n m : ℕ) → 0 ≡ m → n + m ≡ n
          at_place n m z = omega (arith, z)

      link : text s j ≡ Some (StandardText standard.Link) → prefixes.LevelOf s j k → j ≡ k
      link e l =
          let there = ok.set_classes j standard.Link e in
          let one : 1 ≡ there.place = place_same standard.Link 1 there.place refl there.placed in
          let c = there.classes in
          let same : j ≡ there.linkage + 1 = there.is ∙ ap (λ m. there.linkage + m) (sym one) in
          absurd (under_class j k there.linkage standard.Link e no_link (ap (base s.tables) same ∙ c.link_prefix) c.linkage_is c.first p l)

      head : text s j ≡ Some (StandardText standard.Head) → prefixes.LevelOf s j k → j ≡ k
      head e l =
          let there = ok.set_classes j standard.Head e in
          let two : 2 ≡ there.place = place_same standard.Head 2 there.place refl there.placed in
          let c = there.classes in
          let same : j ≡ there.linkage + 2 = there.is ∙ ap (λ m. there.linkage + m) (sym two) in
          absurd (under_class j k there.linkage standard.Head e no_head (ap (base s.tables) same ∙ c.head_prefix) c.linkage_is c.first p l)

      go : (w : StandardClass) → text s j ≡ Some (StandardText w) → prefixes.LevelOf s j k → j ≡ k
      go standard.Linkage e l = linkage e l
      go standard.Link e l = link e l
      go standard.Head e l = head e l
      go standard.Process e l = under_process j k e p l

  -- a class `process` is the fourth of those that were brought together
  process_brought : (k : ℕ) → text s k ≡ Some (StandardText standard.Process) → ProcessBrought s k
  process_brought k e =
      let there = laid.processes k e in
      let sets = there.sets in record {
        block = there.block;
        is = there.is;
        has = there.has;
        linkage = sets.linkage_is;
        link = ap (text s) (sym (second there.block)) ∙ sets.link_is;
        head = ap (text s) (sym (third there.block)) ∙ sets.head_is;
        around = there.around;
      }
    where
      second : (n : ℕ) → n + 1 + 1 ≡ n + 2
      second n = omega arith

      third : (n : ℕ) → n + 1 + 2 ≡ n + 3
      third n = omega arith

  matches : (v k match : ℕ) → entry_is is_virtual (entry_of s.tables (record { 0 = v })) ≡ true → has_levels (text s k) ≡ true → match_in_text s v (Some k) ≡ Some (Some match) → MatchThere s v k match
  matches v k match is has e =
      let p = match_typed v k match (entry_of s.tables (record { 0 = v })) refl is e in
      let d = p.declaration in
      let there = procedure d p.own match p.declares in record {
        around = block_of s d;
        is = there.around;
        level = front_level (levels_solid (text s k) has) (level_is s k (block_of s d) p.level);
        given = there.given;
        heading = there.heading;
        body = there.body;
        procedure = there.is;
        same = there.same ∙ fits_both p.own (result_in (entry_of s.tables (record { 0 = v }))) p.gives;
      }

  pub agrees : Agrees s
  agrees = record {
    outermost = ok.outermost;
    as_many = laid.as_many;
    connected = laid.connected;
    nesting = laid.falls;
    levels = λ t u e c. ok.levels t u (sym (laid.connected t) ∙ c) e;
    same_level = same_level;
    begun = λ k c. (connection_typed k c).around;
    prefixed = laid.prefixed;
    prefixes = front_there;
    ends = all_end;
    owned = λ k n d e. laid.owned k d (among_at (numbers_of s k) n d e);
    once = λ k n m d e f. once (numbers_of s k) n m d (laid.different k) e f;
    formals = laid.formals;
    classes = λ d k e. (ok.classes d k e).around;
    procedures = procedure;
    matches = matches;
    processes = process_brought;
    blocks = blocks;
    standards = standards;
  }
