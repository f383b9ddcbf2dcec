-- Matches of virtual procedures.
use Rattle.std.proofs.Common.{ℕ, pos, refl}
use Rattle.std.specs.Prelude.{⊤}
use Rattle.sim_base.specs.declared.numbering.DeclNo.{DeclNo}
use Rattle.sim_base.specs.declared.numbering.TokenNo.{TokenNo}
use Rattle.sim_scope.specs.declared.bound.Bound.{Bound}
use Rattle.sim_scope.specs.Source.{line_at, source_of}
use Rattle.sim_code.specs.declared.instr.Instr.TheVariants as i
use Rattle.sim_code.specs.Code.{CodeOf}
use Rattle.codegen_expr.specs.declared.spot.Spot.{Spot}
use Rattle.codegen_expr.specs.CodeExpr.{MatchAt}
use Rattle.codegen_expr.specs.Drafts.{DraftOf, Emits}
use Rattle.codegen_expr.specs.EmitVirtuals.{WritesMatch}
use Rattle.codegen_expr.specs.Sites.{At, Site}
use Rattle.codegen_expr.proofs.Pieces.{emits_as, emits_at, emits_then}

-- what matches is found behind an object
pub match_found : (b : Bound) (w : Spot) (P : Type 0) (A : CodeOf → Site → ℕ → ℕ → Type 0) (start a c : DraftOf) (token : TokenNo) (d : DeclNo) → Emits w start a P A → WritesMatch b a c token d
    → Emits w start c P (λ final site p q. MatchAt final (line_at (source_of b) token.0) d.0 (A final site) p q)
unfolding WritesMatch
match_found b w P A start a c token d f is =
    let line = line_at (source_of b) token.0 in
    emits_as w (P × ⊤) P _ _ start c (λ t. (t, tt)) (λ t. t.0) (λ final site p q _ _ r. record { x = r.0; object = r.1; found = r.2 })
    (emits_then w P ⊤ A (λ z site. At z (i.Virt (pos d.0)) line) start a c f (emits_at w a c (i.Virt (pos d.0)) line is (λ z. cc) refl))
