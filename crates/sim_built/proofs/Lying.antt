-- Tables that agree with the texts of a program lie as code needs them.
use Rattle.std.proofs.Common.{◌≡◌, true, false, Option, Some, None, refl, sym, ap, ◌∙◌}
use Rattle.std.specs.Prelude.{slice_get}
use Rattle.sim_scope.specs.declared.types.BlockKind.{BlockKind}
use Rattle.sim_scope.specs.declared.types.BlockKind.TheVariants as kind
use Rattle.sim_scope.specs.Access.{is_connection as is_connection_kind, is_kind, is_so, kind_in}
use Rattle.sim_scope.specs.Source.{Source}
use Rattle.sim_scope.specs.Tables.{BlockOf}
use Rattle.sim_meaning.specs.Levels.{has_levels, is_class}
use Rattle.sim_meaning.specs.Texts.{BlockText, ClassText, ConnectionText, PrefixedText, ProcedureText, StandardText, Text, text}
use Rattle.prefix_bind.specs.Prefixes.{is_prefixed_block}
use Rattle.codegen_expr.specs.Sites.{connects, is_connected}
use Rattle.codegen_expr.specs.Sites as sites
use Rattle.codegen.specs.Agrees.{is_prefixed, is_prefixed_kind}
use Rattle.sim_agree.specs.Inners.{Inners}
use Rattle.sim_agree.specs.TablesAgree.{TablesAgree, is_prefixed_text}
use Rattle.sim_built.specs.Laid.{Laid}

same_kind : (k : BlockKind) → sites.is_connection k ≡ is_connection_kind k
same_kind kind.Program = refl
same_kind kind.SubBlock = refl
same_kind kind.Procedure = refl
same_kind kind.Class = refl
same_kind kind.Prefixed = refl
same_kind kind.Connection = refl
same_kind (kind.StandardClass which) = refl

in_row : (b : Option BlockOf) → connects b ≡ is_so is_connection_kind (kind_in b)
in_row None = refl
in_row (Some b) = same_kind b.kind

-- the blocks with a prefix
same_prefixed : (k : BlockKind) → is_prefixed_kind k ≡ is_prefixed_block k
same_prefixed kind.Program = refl
same_prefixed kind.SubBlock = refl
same_prefixed kind.Procedure = refl
same_prefixed kind.Class = refl
same_prefixed kind.Prefixed = refl
same_prefixed kind.Connection = refl
same_prefixed (kind.StandardClass which) = refl

prefixed_in_row : (b : Option BlockOf) → is_so is_prefixed_kind (kind_in b) ≡ is_so is_prefixed_block (kind_in b)
prefixed_in_row None = refl
prefixed_in_row (Some b) = same_prefixed b.kind

prefixed_text : (x : Option Text) → is_prefixed_text x ≡ true → (has_levels x ≡ true) × (is_class x ≡ false)
prefixed_text (Some (PrefixedText class es ds ss)) e = (refl, refl)
prefixed_text None e = absurd (cc)
prefixed_text (Some (BlockText begin ds ss)) e = absurd (cc)
prefixed_text (Some (ProcedureText result h a)) e = absurd (cc)
prefixed_text (Some (ClassText prefix h ds ss)) e = absurd (cc)
prefixed_text (Some (StandardText which)) e = absurd (cc)
prefixed_text (Some ConnectionText) e = absurd (cc)

pub lies : (s : Source) → TablesAgree s → Inners s → Laid s
unfolding is_connected is_kind is_prefixed
lies s a inners = record {
  as_many = a.as_many;
  connected = λ k. in_row (slice_get s.tables.blocks k) ∙ a.connections k;
  falls = a.nesting;
  prefixed = λ k e. prefixed_text (text s k) (sym (a.prefixed_kinds k) ∙ sym (prefixed_in_row (slice_get s.tables.blocks k)) ∙ e);
  with_prefix = λ k class es ds ss e. prefixed_in_row (slice_get s.tables.blocks k) ∙ a.prefixed_kinds k ∙ ap is_prefixed_text e;
  processes = a.processes_brought;
  owned = a.owned;
  different = a.different;
  formals = a.parameters;
  inners = inners;
}
