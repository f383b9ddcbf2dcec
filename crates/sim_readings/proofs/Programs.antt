-- Each list of tokens that ends once has a tree, or comes to a fault.
use Rattle.std.proofs.Common.{◌≡◌, ◌≤◌, ◌<◌, ℕ, suc, ◌+◌, ◌-◌, ◌⊎◌, inl, inr, Bool, true, false, if◌then◌else◌, List, [], ◌∷◌, length, map, Some, None, refl, sym, ◌∙◌, ap, subst, arith}
use Rattle.std.proofs.lemmas.Bool.{false≢true}
use Rattle.std.specs.Prelude.{◌^◌, ◌&&◌, not}
use Rattle.std.specs.declared.alloc.Global.{Global}
use Rattle.std.specs.declared.vec.Vec.{Vec}
use Rattle.sim_base.specs.declared.numbering.Line.{Line}
use Rattle.sim_base.specs.declared.token.Token.{Token}
use Rattle.sim_tree.specs.declared.program.Program.{Program}
use Rattle.sim_base.specs.declared.token.TokenKind.{TokenKind}
use Rattle.sim_base.specs.declared.token.TokenKind.TheVariants as k
use Rattle.sim_tree.specs.Claim.{one}
use Rattle.sim_tree.specs.Grammar as g
use Rattle.sim_tree.specs.Grammar.{Any, At, Else, Here, Kept, Many, Mark, Maybe, Of, Once, Part, Symbol, chosen, is, just, one_of, right_side, rows}
use Rattle.sim_tree.specs.Reading.{Forest, Reads, done, kind_at, node, reads-any, reads-done, reads-here, reads-kept, reads-mark, reads-none, reads-part, reads-skip}
use Rattle.sim_tree.specs.Tree.{limit, line}
use Rattle.sim_tree.proofs.Completion.{is_same}
use Rattle.sim_tree.proofs.Laws.{reads_ahead}
use Rattle.sim_readings.specs.Readable.{EndsOnce, ReadsOrFails, TreeOrFault, fails, fault, reads, tree}
use Rattle.sim_readings.proofs.Declarations as d
use Rattle.sim_readings.proofs.Expressions as x
use Rattle.sim_readings.proofs.Making.{listed}
use Rattle.sim_readings.proofs.Parts.{Good, Row, absent, here, kept, many, mark, nil, once, passed, there}
use Rattle.sim_readings.proofs.Reading.{both_true, reads_or_fails, split, taken}
use Rattle.sim_readings.proofs.Statements as s
use Rattle.sim_readings.proofs.Table.{advances, at_end, right_fine, takes}

-- ---- from the rows of a part to what it stands for

abbrev Handles : List Token → Part → List g.Row → Type 0
Handles ws n [] = Unit {0}
Handles ws n (At next right ∷ rest) = ((i : ℕ) (f : Forest) → chosen (rows n) (kind_at ws i) ≡ Some right → Row ws right i f → Good ws n i f) × Handles ws n rest
Handles ws n (Else right ∷ rest) = (i : ℕ) (f : Forest) → chosen (rows n) (kind_at ws i) ≡ Some right → Row ws right i f → Good ws n i f

handled : (ws : List Token) (n : Part) (rs : List g.Row) (i : ℕ) (right : List Symbol) (f : Forest) → Handles ws n rs → chosen rs (kind_at ws i) ≡ Some right → chosen (rows n) (kind_at ws i) ≡ Some right
    → Row ws right i f → Good ws n i f
handled ws n [] i right f hs e all r = absurd (cc)
handled ws n (Else y ∷ rest) i right f hs e all r = let same : right ≡ y = cc in hs i f (all ∙ ap Some same) (subst (λ z. Row ws z i f) same r)
handled ws n (At next y ∷ rest) i right f hs e all r = by_test (one_of next (kind_at ws i)) e (λ h. handled ws n rest i right f hs.1 h all r)
  where
    by_test : (b : Bool) → (if b then Some y else chosen rest (kind_at ws i)) ≡ Some right → (chosen rest (kind_at ws i) ≡ Some right → Good ws n i f) → Good ws n i f
    by_test true h later = let same : right ≡ y = cc in hs.0 i f (all ∙ ap Some same) (subst (λ z. Row ws z i f) same r)
    by_test false h later = later h

module _ (ws : List Token) (room : (n : ℕ) → n ≤ length ws + 1 → n < 2 ^ 63) where
  handles : (n : Part) → Handles ws n (rows n)
  handles g.Program = ((λ i f e r. s.plain_program ws room r), ((λ i f e r. s.prefixed_program ws room r), tt))
  handles g.Compound = ((λ i f e r. s.compound ws room r), tt)
  handles g.Block = ((λ i f e r. s.declared_row ws room r), ((λ i f e r. s.identified_row ws room r), ((λ i f e r. s.end_row ws room r), ((λ i f e r. s.statement_list ws room e r), tt))))
  handles g.AfterDeclaration = ((λ i f e r. s.ended_by_semicolon ws room r), ((λ i f e r. s.ended_by_end ws room r), tt))
  handles g.AfterIdentifier = ((λ i f e r. s.prefixed_class ws room r), (λ i f e r. s.identified_statements ws room r))
  handles g.Declaration = ((λ i f e r. s.typed_row ws room r), ((λ i f e r. s.procedure_row ws room r), ((λ i f e r. s.class_row ws room r), tt)))
  handles g.TypedDeclaration = ((λ i f e r. s.typed_procedure ws room r), ((λ i f e r. s.arrays ws room r), ((λ i f e r. s.variables ws room r), tt)))
  handles g.NextArraySegment = ((λ i f e r. d.next_segment_row ws room r), tt)
  handles g.NextVariable = ((λ i f e r. d.next_variable_row ws room r), tt)
  handles g.TypeName = ((λ i f e r. d.reference_type ws room r), ((λ i f e r. d.type_row ws room e r), tt))
  handles g.Variable = ((λ i f e r. d.variable_row ws room r), tt)
  handles g.Value = ((λ i f e r. d.value_row ws room r), tt)
  handles g.Constant = ((λ i f e r. d.signed_constant ws room r), ((λ i f e r. d.constant_row ws room r), tt))
  handles g.Identifiers = ((λ i f e r. d.identifiers ws room r), tt)
  handles g.NextIdentifier = ((λ i f e r. d.next_identifier ws room r), tt)
  handles g.ArraySegment = (λ i f e r. d.segment ws room r)
  handles g.Bounds = (λ i f e r. d.bounds ws room r)
  handles g.NextBounds = ((λ i f e r. d.next_bounds_row ws room r), tt)
  handles g.Procedure = (λ i f e r. s.procedure ws room r)
  handles g.Heading = ((λ i f e r. d.heading_row ws room r), ((λ i f e r. d.empty_heading ws room r), tt))
  handles g.Mode = ((λ i f e r. d.mode_row ws room r), tt)
  handles g.Specification = ((λ i f e r. d.typed_specification ws room r), ((λ i f e r. d.procedure_specification ws room r), tt))
  handles g.SpecifiedKind = ((λ i f e r. d.specified_kind ws room r), tt)
  handles g.Class = (λ i f e r. s.class ws room r)
  handles g.Protection = ((λ i f e r. d.hidden_row ws room r), ((λ i f e r. d.protected_row ws room r), tt))
  handles g.AndProtected = ((λ i f e r. d.and_protected ws room r), tt)
  handles g.AndHidden = ((λ i f e r. d.and_hidden ws room r), tt)
  handles g.Virtuals = ((λ i f e r. d.virtuals_row ws room r), tt)
  handles g.VirtualSpecification = ((λ i f e r. d.typed_virtual ws room r), ((λ i f e r. d.plain_virtual ws room r), tt))
  handles g.NextStatement = ((λ i f e r. s.next_statement_row ws room r), tt)
  handles g.Statement = ((λ i f e r. s.begin_row ws room r), ((λ i f e r. s.identifier_row ws room r), ((λ i f e r. s.inner_row ws room r), ((λ i f e r. s.operand_statement ws room e r), ((λ i f e r. s.if_row ws room r), ((λ i f e r. s.while_row ws room r), ((λ i f e r. s.for_row ws room r), ((λ i f e r. s.inspect_row ws room r), ((λ i f e r. s.activate_row ws room r), (λ i f e r. s.empty_row ws room r))))))))))
  handles g.StatementOfIdentifier = (λ i f e r. s.of_identifier ws room r)
  handles g.AfterFirstOperand = ((λ i f e r. s.prefixed_block ws room r), (λ i f e r. s.operated_row ws room r))
  handles g.Assigned = ((λ i f e r. s.assigned_row ws room r), tt)
  handles g.ElseBranch = ((λ i f e r. s.else_row ws room r), tt)
  handles g.ForList = ((λ i f e r. s.value_list ws room r), ((λ i f e r. s.reference_list ws room r), tt))
  handles g.NextForElement = ((λ i f e r. s.next_element ws room r), tt)
  handles g.NextReferenceElement = ((λ i f e r. s.next_reference ws room r), tt)
  handles g.Arms = ((λ i f e r. s.do_row ws room r), ((λ i f e r. s.arms_row ws room r), tt))
  handles g.OtherwiseBranch = ((λ i f e r. s.otherwise_row ws room r), tt)
  handles g.ForElement = (λ i f e r. s.element ws room r)
  handles g.ForElementTail = ((λ i f e r. s.step_row ws room r), ((λ i f e r. s.while_tail ws room r), tt))
  handles g.ReferenceElement = (λ i f e r. s.reference ws room r)
  handles g.ReferenceElementTail = ((λ i f e r. s.while_reference ws room r), tt)
  handles g.WhenArm = ((λ i f e r. s.when_row ws room r), tt)
  handles g.Timing = ((λ i f e r. s.time_row ws room r), ((λ i f e r. s.place_row ws room r), tt))
  handles g.PriorMark = ((λ i f e r. s.prior_row ws room r), tt)
  handles g.Expression = ((λ i f e r. x.if_row ws room r), ((λ i f e r. x.simple_row ws room r), tt))
  handles g.SimpleExpression = (λ i f e r. x.simple_expression ws room r)
  handles g.NextOrElse = ((λ i f e r. x.next_or_else ws room r), tt)
  handles g.AndThen = (λ i f e r. x.and_then ws room r)
  handles g.NextAndThen = ((λ i f e r. x.next_and_then ws room r), tt)
  handles g.Equivalence = (λ i f e r. x.equivalence ws room r)
  handles g.NextEquivalence = ((λ i f e r. x.next_equivalence ws room r), tt)
  handles g.Implication = (λ i f e r. x.implication ws room r)
  handles g.NextImplication = ((λ i f e r. x.next_implication ws room r), tt)
  handles g.Disjunction = (λ i f e r. x.disjunction ws room r)
  handles g.NextOr = ((λ i f e r. x.next_or ws room r), tt)
  handles g.Conjunction = (λ i f e r. x.conjunction ws room r)
  handles g.NextAnd = ((λ i f e r. x.next_and ws room r), tt)
  handles g.Negation = (λ i f e r. x.negation ws room r)
  handles g.NotSign = ((λ i f e r. x.not_sign ws room r), tt)
  handles g.Relation = (λ i f e r. x.relation_row ws room r)
  handles g.RelationTail = ((λ i f e r. x.related ws room r), ((λ i f e r. x.tested ws room r), tt))
  handles g.Concatenation = (λ i f e r. x.concatenation ws room r)
  handles g.NextConcatenated = ((λ i f e r. x.next_concatenated ws room r), tt)
  handles g.Sum = (λ i f e r. x.sum ws room r)
  handles g.LeadingSign = ((λ i f e r. x.leading_sign ws room r), tt)
  handles g.NextTerm = ((λ i f e r. x.next_term ws room r), tt)
  handles g.Term = (λ i f e r. x.term ws room r)
  handles g.NextFactor = ((λ i f e r. x.next_factor ws room r), tt)
  handles g.Factor = (λ i f e r. x.factor ws room r)
  handles g.NextPower = ((λ i f e r. x.next_power ws room r), tt)
  handles g.Postfix = (λ i f e r. x.postfix ws room r)
  handles g.Selection = ((λ i f e r. x.dot_row ws room r), ((λ i f e r. x.qua_row ws room r), tt))
  handles g.Primary = ((λ i f e r. x.literal ws room r), ((λ i f e r. x.identifier_row ws room r), ((λ i f e r. x.this_row ws room r), ((λ i f e r. x.new_row ws room r), ((λ i f e r. x.open_row ws room r), tt)))))
  handles g.Arguments = ((λ i f e r. x.arguments_row ws room r), tt)
  handles g.NextArgument = ((λ i f e r. x.next_argument ws room r), tt)

  -- one more token that is passed, one more part of a list
  pass : {i : ℕ} {a : TokenKind} {s : List Symbol} {f : Forest} → Row ws (Any a ∷ s) (i + 1) f → Row ws (Any a ∷ s) i f
  pass (passed ahead r) = passed (omega (arith, ahead)) r

  add : {i m : ℕ} {n : Part} {s : List Symbol} {y f : Forest} → Good ws n i y → (i < length ws) × (i < m) → Row ws (Of Many n ∷ s) m f → Row ws (Of Many n ∷ s) i (node n y f)
  add {i = i} {y = y} a some (many xs its small r) = many (y ∷ xs) ((i, a), its) (omega (arith, some.0, some.1, small)) r

  all_rows : {most d i j : ℕ} {s : List Symbol} {f : Forest} → Reads most ws d s i f j → advances s ≡ true → Row ws s i f
  unfolding right_side
  all_rows reads-done a = nil
  all_rows (reads-kept h r) a = kept h (all_rows r a)
  all_rows (reads-mark h r) a = mark (all_rows r a)
  all_rows (reads-any h r) a = pass (all_rows r a)
  all_rows (reads-none {a = x} {s = s} h r) a = passed (omega arith) (all_rows r (both_true (not (is k.EndOfSource x)) (advances s) a).1)
  all_rows (reads-here r) a = here (all_rows r a)
  all_rows {most = most} {i = i} (reads-part {t = Once} {n = n} {right = right} {f = f} b shallow r q) a =
      let fine = right_fine n (kind_at ws i) right b in
      once (handled ws n (rows n) i right f (handles n) b b (all_rows r fine.advancing)) (reads_ahead most ws r) (λ some. taken most ws r (fine.taking some)) (all_rows q a)
  all_rows {i = i} (reads-part {t = Maybe} {n = n} {right = right} {f = f} b shallow r q) a =
      let fine = right_fine n (kind_at ws i) right b in there (handled ws n (rows n) i right f (handles n) b b (all_rows r fine.advancing)) (all_rows q a)
  all_rows {most = most} {i = i} (reads-part {t = Many} {n = n} {right = right} {s = s} {f = f} b shallow r q) a =
      let fine = right_fine n (kind_at ws i) right b in
      add (handled ws n (rows n) i right f (handles n) b b (all_rows r fine.advancing)) (taken most ws r (fine.taking (both_true (takes n) (advances s) a).0)) (all_rows q a)
  all_rows (reads-skip {t = Once} b skip r) a = absurd (false≢true skip)
  all_rows (reads-skip {t = Maybe} b skip r) a = absent (all_rows r a)
  all_rows (reads-skip {t = Many} {n = n} {s = s} b skip r) a = many [] tt (omega arith) (all_rows r (both_true (takes n) (advances s) a).1)

-- ---- where a program ends

-- the end of the source is nowhere taken
abbrev is_program : Part → Bool
is_program g.Program = true
is_program _ = false

abbrev endless : List Symbol → Bool
endless [] = true
endless (Kept any ∷ s) = not (at_end any) && endless s
endless (Mark a ∷ s) = not (is k.EndOfSource a) && endless s
endless (Any a ∷ s) = not (is k.EndOfSource a) && endless s
endless (Here ∷ s) = endless s
endless (Of times n ∷ s) = not (is_program n) && endless s

abbrev all_endless : List g.Row → Bool
all_endless [] = true
all_endless (At next right ∷ others) = endless right && all_endless others
all_endless (Else right ∷ others) = endless right && all_endless others

rows_endless : (n : Part) → is_program n ≡ false → all_endless (rows n) ≡ true
unfolding is
rows_endless g.Program h = absurd (false≢true (sym h))
rows_endless g.Compound h = refl
rows_endless g.Block h = refl
rows_endless g.AfterDeclaration h = refl
rows_endless g.AfterIdentifier h = refl
rows_endless g.Declaration h = refl
rows_endless g.TypedDeclaration h = refl
rows_endless g.NextArraySegment h = refl
rows_endless g.NextVariable h = refl
rows_endless g.TypeName h = refl
rows_endless g.Variable h = refl
rows_endless g.Value h = refl
rows_endless g.Constant h = refl
rows_endless g.Identifiers h = refl
rows_endless g.NextIdentifier h = refl
rows_endless g.ArraySegment h = refl
rows_endless g.Bounds h = refl
rows_endless g.NextBounds h = refl
rows_endless g.Procedure h = refl
rows_endless g.Heading h = refl
rows_endless g.Mode h = refl
rows_endless g.Specification h = refl
rows_endless g.SpecifiedKind h = refl
rows_endless g.Class h = refl
rows_endless g.Protection h = refl
rows_endless g.AndProtected h = refl
rows_endless g.AndHidden h = refl
rows_endless g.Virtuals h = refl
rows_endless g.VirtualSpecification h = refl
rows_endless g.NextStatement h = refl
rows_endless g.Statement h = refl
rows_endless g.StatementOfIdentifier h = refl
rows_endless g.AfterFirstOperand h = refl
rows_endless g.Assigned h = refl
rows_endless g.ElseBranch h = refl
rows_endless g.ForList h = refl
rows_endless g.NextForElement h = refl
rows_endless g.NextReferenceElement h = refl
rows_endless g.Arms h = refl
rows_endless g.OtherwiseBranch h = refl
rows_endless g.ForElement h = refl
rows_endless g.ForElementTail h = refl
rows_endless g.ReferenceElement h = refl
rows_endless g.ReferenceElementTail h = refl
rows_endless g.WhenArm h = refl
rows_endless g.Timing h = refl
rows_endless g.PriorMark h = refl
rows_endless g.Expression h = refl
rows_endless g.SimpleExpression h = refl
rows_endless g.NextOrElse h = refl
rows_endless g.AndThen h = refl
rows_endless g.NextAndThen h = refl
rows_endless g.Equivalence h = refl
rows_endless g.NextEquivalence h = refl
rows_endless g.Implication h = refl
rows_endless g.NextImplication h = refl
rows_endless g.Disjunction h = refl
rows_endless g.NextOr h = refl
rows_endless g.Conjunction h = refl
rows_endless g.NextAnd h = refl
rows_endless g.Negation h = refl
rows_endless g.NotSign h = refl
rows_endless g.Relation h = refl
rows_endless g.RelationTail h = refl
rows_endless g.Concatenation h = refl
rows_endless g.NextConcatenated h = refl
rows_endless g.Sum h = refl
rows_endless g.LeadingSign h = refl
rows_endless g.NextTerm h = refl
rows_endless g.Term h = refl
rows_endless g.NextFactor h = refl
rows_endless g.Factor h = refl
rows_endless g.NextPower h = refl
rows_endless g.Postfix h = refl
rows_endless g.Selection h = refl
rows_endless g.Primary h = refl
rows_endless g.Arguments h = refl
rows_endless g.NextArgument h = refl

row_endless : (rs : List g.Row) (a : TokenKind) (right : List Symbol) → all_endless rs ≡ true → chosen rs a ≡ Some right → endless right ≡ true
row_endless [] a right e h = absurd (cc)
row_endless (Else y ∷ rest) a right e h = let same : y ≡ right = cc in ap endless (sym same) ∙ (both_true (endless y) (all_endless rest) e).0
row_endless (At next y ∷ rest) a right e h = by_test (one_of next a) h (λ later. row_endless rest a right (both_true (endless y) (all_endless rest) e).1 later)
  where
    by_test : (b : Bool) → (if b then Some y else chosen rest a) ≡ Some right → (chosen rest a ≡ Some right → endless right ≡ true) → endless right ≡ true
    by_test true h later = let same : y ≡ right = cc in ap endless (sym same) ∙ (both_true (endless y) (all_endless rest) e).0
    by_test false h later = later h

right_endless : (n : Part) (a : TokenKind) (right : List Symbol) → is_program n ≡ false → right_side n a ≡ Some right → endless right ≡ true
unfolding right_side
right_endless n a right other h = row_endless (rows n) a right (rows_endless n other) h

is_not : (b : Bool) → not b ≡ true → b ≡ false
is_not true e = absurd (false≢true e)
is_not false e = refl

module _ (ws : List Token) (source : EndsOnce ws) where
  -- a token that does not end the source has one after it
  goes_on : (i : ℕ) → i < length ws → (kind_at ws i ≡ k.EndOfSource → ⊥) → i + 1 < length ws
  goes_on i within not_end = by_place (split (i + 1) (length ws))
    where
      by_place : (i + 1 < length ws) ⊎ (length ws ≤ i + 1) → i + 1 < length ws
      by_place (inl h) = h
      by_place (inr h) = let last : length ws - 1 ≡ i = omega (arith, within, h) in absurd (not_end (ap (kind_at ws) (sym last) ∙ source.ended.last))

  kept_goes_on : (any : List TokenKind) (i : ℕ) → one_of any (kind_at ws i) ≡ true → not (at_end any) ≡ true → i < length ws → i + 1 < length ws
  kept_goes_on any i h e within = goes_on i within (λ end. false≢true (sym (is_not (at_end any) e) ∙ ap (one_of any) (sym end) ∙ h))

  mark_goes_on : (a : TokenKind) (i : ℕ) → is (kind_at ws i) a ≡ true → not (is k.EndOfSource a) ≡ true → i < length ws → i + 1 < length ws
  mark_goes_on a i h e within = goes_on i within (λ end. false≢true (sym (is_not (is k.EndOfSource a) e) ∙ ap (λ z. is z a) (sym end) ∙ h))

  in_front : {most d i j : ℕ} {s : List Symbol} {f : Forest} → Reads most ws d s i f j → endless s ≡ true → i < length ws → j < length ws
  in_front reads-done e w = w
  in_front {i = i} (reads-kept {any = any} {s = s} h r) e w = let both = both_true (not (at_end any)) (endless s) e in in_front r both.1 (kept_goes_on any i h both.0 w)
  in_front {i = i} (reads-mark {a = a} {s = s} h r) e w = let both = both_true (not (is k.EndOfSource a)) (endless s) e in in_front r both.1 (mark_goes_on a i h both.0 w)
  in_front {i = i} (reads-any {a = a} {s = s} h r) e w = let both = both_true (not (is k.EndOfSource a)) (endless s) e in in_front r e (mark_goes_on a i h both.0 w)
  in_front (reads-none {a = a} {s = s} h r) e w = in_front r (both_true (not (is k.EndOfSource a)) (endless s) e).1 w
  in_front (reads-here r) e w = in_front r e w
  in_front {i = i} (reads-part {t = Once} {n = n} {right = right} {s = s} b shallow r q) e w =
      let both = both_true (not (is_program n)) (endless s) e in in_front q both.1 (in_front r (right_endless n (kind_at ws i) right (is_not (is_program n) both.0) b) w)
  in_front {i = i} (reads-part {t = Maybe} {n = n} {right = right} {s = s} b shallow r q) e w =
      let both = both_true (not (is_program n)) (endless s) e in in_front q both.1 (in_front r (right_endless n (kind_at ws i) right (is_not (is_program n) both.0) b) w)
  in_front {i = i} (reads-part {t = Many} {n = n} {right = right} {s = s} b shallow r q) e w =
      let both = both_true (not (is_program n)) (endless s) e in in_front q e (in_front r (right_endless n (kind_at ws i) right (is_not (is_program n) both.0) b) w)
  in_front (reads-skip {n = n} {s = s} b skip r) e w = in_front r (both_true (not (is_program n)) (endless s) e).1 w

  abbrev closing : List Symbol
  closing = Any k.Semicolon ∷ Mark k.EndOfSource ∷ []

  at_closing : {most d i j : ℕ} {f : Forest} → Reads most ws d closing i f j → i < length ws → j ≡ length ws
  unfolding is
  at_closing {i = i} (reads-any h r) w = at_closing r (mark_goes_on k.Semicolon i h refl w)
  at_closing {i = i} (reads-none h (reads-mark e reads-done)) w = source.only i w (is_same (kind_at ws i) k.EndOfSource e)

  at_block : {most d i j : ℕ} {f : Forest} → Reads most ws d (Of Once g.Compound ∷ closing) i f j → i < length ws → j ≡ length ws
  at_block {i = i} (reads-part {right = right} b shallow r q) w = at_closing q (in_front r (right_endless g.Compound (kind_at ws i) right refl b) w)
  at_block (reads-skip b skip r) w = absurd (false≢true skip)

  at_prefix : {most d i j : ℕ} {f : Forest} → Reads most ws d (Of Maybe g.Arguments ∷ Of Once g.Compound ∷ closing) i f j → i < length ws → j ≡ length ws
  at_prefix {i = i} (reads-part {right = right} b shallow r q) w = at_block q (in_front r (right_endless g.Arguments (kind_at ws i) right refl b) w)
  at_prefix (reads-skip b skip r) w = at_block r w

  at_identifier : {most d i j : ℕ} {f : Forest} → Reads most ws d (Kept (just k.Identifier) ∷ Of Maybe g.Arguments ∷ Of Once g.Compound ∷ closing) i f j → i < length ws → j ≡ length ws
  unfolding is
  at_identifier {i = i} (reads-kept h r) w = at_prefix r (kept_goes_on (just k.Identifier) i h refl w)

  two_rows : (b c : Bool) (y z right : List Symbol) → (if b then Some y else (if c then Some z else None)) ≡ Some right → (right ≡ y) ⊎ (right ≡ z)
  two_rows true c y z right e = inl (cc)
  two_rows false true y z right e = inr (cc)
  two_rows false false y z right e = absurd (cc)

  at_program : {most d i j : ℕ} (right : List Symbol) {f : Forest} → right_side g.Program (kind_at ws i) ≡ Some right → Reads most ws d right i f j → i < length ws → j ≡ length ws
  unfolding right_side
  at_program {most = most} {d = d} {i = i} {j = j} right {f = f} b r w =
      by_row (two_rows (one_of (just k.Begin) (kind_at ws i)) (one_of (just k.Identifier) (kind_at ws i)) (Of Once g.Compound ∷ closing) (Kept (just k.Identifier) ∷ Of Maybe g.Arguments ∷ Of Once g.Compound ∷ closing) right b)
    where
      by_row : (right ≡ (Of Once g.Compound ∷ closing)) ⊎ (right ≡ (Kept (just k.Identifier) ∷ Of Maybe g.Arguments ∷ Of Once g.Compound ∷ closing)) → j ≡ length ws
      by_row (inl same) = at_block (subst (λ z. Reads most ws d z i f j) same r) w
      by_row (inr same) = at_identifier (subst (λ z. Reads most ws d z i f j) same r) w

  -- ---- the tree

  as_many : (us : List Token) → length (map line us) ≡ length us
  as_many [] = refl
  as_many (u ∷ us) = ap suc (as_many us)

  whole : length ws < 2 ^ 32 → {f : Forest} {j : ℕ} → Reads limit ws 0 (one g.Program) 0 f j → TreeOrFault ws
  whole few {f = f} {j = j} r = from r (all_rows ws (λ n small. omega (arith, few, small)) r refl)
    where
      ended : {h : Forest} {m : ℕ} → Reads limit ws 0 (one g.Program) 0 h m → m ≡ length ws
      ended (reads-part {right = right} b shallow q reads-done) = at_program right b q source.ended.some
      ended (reads-skip b skip q) = absurd (false≢true skip)

      from : {h : Forest} {m : ℕ} → Reads limit ws 0 (one g.Program) 0 h m → Row ws (one g.Program) 0 h → TreeOrFault ws
      from {h = h} {m = m} q (once a ahead took nil) =
          let lines : Vec Line Global = listed (map line ws) (omega (arith, few, as_many ws)) in
          let p : Program = record { prefix = a.0; block = a.1; lines = lines } in
          tree p (record { reads = subst (λ z. Reads limit ws 0 (one g.Program) 0 (node g.Program z done) (length ws)) (sym a.2) (subst (λ z. Reads limit ws 0 (one g.Program) 0 h z) (ended q) q); lines = refl })

  pub tree_or_fault : length ws < 2 ^ 32 → TreeOrFault ws
  tree_or_fault few = by_outcome (reads_or_fails limit ws 0 0 g.Program)
    where
      by_outcome : ReadsOrFails limit ws 0 (one g.Program) 0 → TreeOrFault ws
      by_outcome (reads f j r) = whole few r
      by_outcome (fails e r) = fault e r
