-- Each declaration of an allowed program is found by the token of its identifier.
use Rattle.std.proofs.Common.{◌≡◌, ◌<◌, ◌+◌, ◌⊎◌, inl, inr, ℕ, zero, suc, true, false, List, [], ◌∷◌, Some, refl, sym, ap, ◌∙◌, arith}
use Rattle.std.specs.Prelude.{◌==◌, if◌then◌else◌, slice_get}
use Rattle.std.proofs.lemmas.Bool.Decides.{nat_tests}
use Rattle.sim_base.specs.declared.numbering.DeclNo.{DeclNo}
use Rattle.sim_base.specs.declared.numbering.TokenNo.{TokenNo}
use Rattle.sim_agree.specs.Order.{InOrder}
use Rattle.sim_scope.specs.declared.scopes.Declaration.{Declaration}
use Rattle.sim_scope.specs.Source.{Source}
use Rattle.sim_meaning.specs.Texts.{declared_at, number_from}
use Rattle.sim_agree.specs.TablesOf.{TablesOf}
use Rattle.sim_scope.specs.declared.types.Entry.{Entry}
use Rattle.sim_scope.specs.declared.types.Entry.TheVariants as entry
use Rattle.virtual_match.specs.Qualifying.{entry_to}
use Rattle.sim_agree.proofs.Completing.{Retyped}
use Rattle.sim_agree.proofs.Groups.{OfReferences}
use Rattle.sim_agree.specs.TablesAgree.{IsOwn, is_attribute}
use Rattle.sim_agree.proofs.Tables as t
use Rattle.sim_agree.proofs.Tables.{program_final}

number_at : (ds : List Declaration) (n d token : ℕ) (row : Declaration) → slice_get ds d ≡ Some row → row.token.0 ≡ token → ((e : ℕ) (other : Declaration) → slice_get ds e ≡ Some other → e < d → other.token.0 < token)
    → number_from n token ds ≡ Some (record { 0 = n + d })
number_at [] n d token row at same before = absurd (cc)
number_at (y ∷ ds) n zero token row at same before =
    let e : y.token.0 ≡ token = ap (λ (z : Declaration). z.token.0) (let f : y ≡ row = cc in f) ∙ same in
    let P : (y.token.0 == token) ≡ true = grind (arith, nat_tests) in
    ap (λ c. if c then Some (record { 0 = n }) else number_from (n + 1) token ds) P ∙ (let z : n ≡ n + 0 = omega arith in ap (λ m. let q : DeclNo = record { 0 = m } in Some q) z)
number_at (y ∷ ds) n (suc d) token row at same before =
    let lt : y.token.0 < token = before 0 y refl (omega arith) in
    let P : (y.token.0 == token) ≡ false = grind (arith, nat_tests) in
    ap (λ c. if c then Some (record { 0 = n }) else number_from (n + 1) token ds) P
    ∙ number_at ds (n + 1) d token row at same (λ e other is' le. before (suc e) other is' (let z : e < d = le in omega arith)) ∙ (let z : n + 1 + d ≡ n + suc d = omega arith in ap (λ m. let q : DeclNo = record { 0 = m } in Some q) z)

-- the classes of references change neither
own_before : (old new : Declaration) → Retyped old new → IsOwn new → IsOwn old
own_before old new r o = (sym r.listed ∙ o.0, go r.entry)
  where
    back : (e : Entry) (class : DeclNo) → OfReferences e → is_attribute e ≡ false
    back (entry.Variable ty) class q = refl
    back (entry.Constant ty) class q = refl
    back (entry.Array ty n) class q = refl
    back (entry.Procedure result n) class q = refl
    back (entry.Class n) class q = refl
    back (entry.Virtual result n) class q = refl
    back (entry.Formal f) class q = refl
    back (entry.Unspecified w) class q = refl
    back (entry.Attribute name given result) class q = absurd q

    go : (new.entry ≡ old.entry) ⊎ (OfReferences old.entry × ((class : DeclNo) × (new.entry ≡ entry_to class old.entry))) → is_attribute old.entry ≡ false
    go (inl e) = ap is_attribute (sym e) ∙ o.1
    go (inr q) = back old.entry q.1.0 q.0

module _ (s : Source) (of : TablesOf s) (order : InOrder s.program) where
  -- the tokens of declarations ascend
  ascending : (d e : ℕ) (row other : Declaration) → slice_get s.tables.declarations d ≡ Some row → slice_get s.tables.declarations e ≡ Some other → d < e → IsOwn other → row.token.0 < other.token.0
  ascending d e row other at to lt own =
      let v = (t.completed_tables s of order).rows.was d row at in
      let w = (t.completed_tables s of order).rows.was e other to in
      let r : v.0.token.0 < w.0.token.0 = (program_final s.program order).laid.rising d e v.0 w.0 v.1 w.1 lt (own_before w.0 other w.2 own) in
      let x : row.token.0 ≡ v.0.token.0 = ap (λ (z : TokenNo). z.0) v.2.token in
      let y : other.token.0 ≡ w.0.token.0 = ap (λ (z : TokenNo). z.0) w.2.token in
      omega (arith, r, x, y)

  -- what the program declares itself
  pub token_declared : (d : DeclNo) (row : Declaration) → slice_get s.tables.declarations d.0 ≡ Some row → IsOwn row → declared_at s row.token.0 ≡ Some d
  unfolding declared_at
  token_declared d row at own =
      number_at s.tables.declarations 0 d.0 row.token.0 row at refl (λ e other to lt. ascending e d.0 other row to at lt own) ∙ (let z : 0 + d.0 ≡ d.0 = omega arith in ap (λ m. let q : DeclNo = record { 0 = m } in Some q) z)
