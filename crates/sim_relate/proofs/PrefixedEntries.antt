-- The entry of a prefixed block.
use Rattle.std.proofs.Common.{◌≡◌, ℕ, false, List, [], ◌∷◌, length, Some, None, refl, sym, ap, ◌∙◌, subst, arith}
use Rattle.std.specs.Prelude.{pos}
use Rattle.sim_base.specs.declared.limits.Limits.{Limits}
use Rattle.sim_chains.specs.Components.{NoObject}
use Rattle.sim_scope.specs.Source.{Source}
use Rattle.sim_code.specs.declared.code.BlockKind.TheVariants as block_kind
use Rattle.sim_code.specs.declared.code.CodeType.TheVariants as type
use Rattle.sim_code.specs.declared.instr.Instr.TheVariants as i
use Rattle.sim_code.specs.Arrays.{handed_over}
use Rattle.sim_code.specs.Code.{BlockOf, CodeOf}
use Rattle.sim_code.specs.Events.{entering, having}
use Rattle.sim_code.specs.Levels.{block_begun as block_begun_of_code, levelled, supplied}
use Rattle.sim_code.specs.Machine.{Cells, Frames, Machine, Value, in_prefixed, waiting, words_of_block}
use Rattle.sim_code.specs.Machine as machine
use Rattle.sim_code.specs.Outcome.{Run, World}
use Rattle.sim_code.specs.Rows.{on_top}
use Rattle.sim_code.proofs.Lifts.{EachAt, alike_found}
use Rattle.sim_code.proofs.Simulation.{Alike}
use Rattle.sim_meaning.specs.Levels.{levels, levels_of}
use Rattle.sim_meaning.specs.Meaning.{do_op}
use Rattle.sim_meaning.specs.Objects.{block_begun, cells_of_levels, prefixed_entered}
use Rattle.sim_meaning.specs.Pending.{Activation, Configuration, EndPrefixed, Instances, Item, Op, PrefixedOp, Val}
use Rattle.codegen_expr.specs.Sites.{block_number}
use Rattle.codegen.specs.Compiled.{Compiled, RecordOf}
use Rattle.sim_relate.proofs.Actuals.{counted_many}
use Rattle.sim_relate.proofs.ClassTexts.{ClassHas, class_has}
use Rattle.sim_relate.proofs.Entries.{call_row, waits}
use Rattle.sim_relate.proofs.FirstCells.{block_cells_of, made_cells}
use Rattle.sim_relate.proofs.Here.{Here, act, at_row, kinds_as}
use Rattle.sim_relate.proofs.Known.{HandAt, Kind, Runs, StackAt, ValAt, site_at, Settled}
use Rattle.sim_relate.proofs.LevelCells.{CellsOf}
use Rattle.sim_relate.proofs.LevelEntries.{entry_alike, levels_laid, not_first}
use Rattle.sim_relate.proofs.Linkages.{block_same}
use Rattle.sim_relate.proofs.OfClass.{block_ordinary, block_owns}
use Rattle.sim_relate.proofs.Operations.{PrefixedOpIs}
use Rattle.sim_relate.proofs.Relation.{ChainAt, OpAt, StateAt, WorkAt}
use Rattle.sim_relate.proofs.Waiting.{NoValue}

module _ (s : Source) (code : CodeOf) (compiled : Compiled s code) (l : Limits) (o : World) (m : Instances) (inst : ℕ) (w : List Item) (vals : List Val) (rest : List Activation) (fs : Frames) (t : ℕ) (b : Runs) (pc : ℕ) (stack : List Value) (below : List machine.Activation) (ks : List Kind) (here : Here s code m fs inst rest t b ks vals stack) (u q : ℕ) (ks' : List Kind) (low : Settled s code t b u) (work : WorkAt s code m fs (λ v. ChainAt s code m fs rest v below) inst t b u w q ks') where
  abbrev Related : Configuration → Machine → Type 0
  Related = StateAt s code

  abbrev top : machine.Activation
  top = act inst pc stack b

  abbrev Follows : Op → Type 0
  Follows op = OpAt s code m fs inst (site_at t b u) op pc q ks ks' → Alike Related (do_op s l o m inst w vals rest op) (on_top code l o fs top below)

  module _ (g n line : ℕ) (x : ClassHas s code g) (a : PrefixedOpIs s code (site_at t b u) g n line pc q ks ks') (values : List Val) (values' : List Value) (each : EachAt (ValAt s code m) values values') (vals1 : List Val) (stack1 : List Value) (left_hand : StackAt (HandAt s code m) ks' vals1 stack1) where
    abbrev chain : List Activation
    chain = record { instance = inst; work = w; values = vals1 } ∷ rest

    abbrev under : List machine.Activation
    under = waiting top stack1 ∷ below

    under_there : ChainAt s code m fs chain NoValue under
    under_there = waits s code compiled l o m inst w vals rest fs t b pc stack below ks here u q ks' low work NoValue ks' vals1 stack1 left_hand (λ no. absurd (cc)) tt refl (a.is).on

    -- what the machine does with the block
    abbrev Goes : BlockOf → (start : ℕ) → Run Machine
    Goes b' start =
        having (supplied code b'.class b' values') o (λ cells.
        entering l line (words_of_block b') o (λ p.
        in_prefixed (block_begun_of_code code b'.class (length fs.instances) (handed_over (length fs.instances) (machine.arrays_among values') p)) fs (block_number s g) b' start inst cells under))

    abbrev Filled : (start : ℕ) → Cells → Run Machine
    Filled start cells =
        entering l line (words_of_block x.block) o (λ p.
        in_prefixed (block_begun_of_code code x.block.class (length fs.instances) (handed_over (length fs.instances) (machine.arrays_among values') p)) fs (block_number s g) x.block start inst cells under)

    follows : (start : ℕ) (cells : Cells) (y : Run Configuration) → supplied code x.block.class x.block values' ≡ Some cells → Alike Related y (Filled start cells) → Alike Related y (Goes x.block start)
    follows start cells y is h = alike_found Configuration Machine Related Cells (supplied code x.block.class x.block values') cells o y _ is h

    block_heads : RecordOf s code g block_kind.Prefixed type.Nothing x.block
    block_heads = subst (λ z. RecordOf s code g z type.Nothing x.block) (x.of_block a.no_class) x.has.heads

    -- both sides begin a simulation, or neither
    begun_same : (p : World) → block_begun_of_code code x.block.class (length fs.instances) p ≡ block_begun s g (length m.instances) p
    begun_same p = ap (λ n. block_begun_of_code code x.block.class n p) (sym (here.store).as_many) ∙ block_same s code compiled g x (length m.instances) p

    prefixed_alike : Alike Related (having (levels s g) o (λ xs. prefixed_entered s l o m chain g line values (Some inst) EndPrefixed xs)) (levelled code block_kind.Prefixed (block_number s g) o Goes)
    prefixed_alike =
        subst (λ z. Alike Related (having (levels s g) o (λ xs. prefixed_entered s l o m chain g line values (Some inst) EndPrefixed xs)) (levelled code z (block_number s g) o Goes)) (x.of_block a.no_class)
        (entry_alike s code compiled l o m fs here.store here.parked g line x values values' each inst t a.stands_in here.stands (block_owns s compiled.agrees g a.prefixed) (cells_of_levels s)
        (λ xs made. subst (λ z. CellsOf s code m g z (machine.first_cells x.block)) (sym (made_cells s (levels_of s g) xs made)) (block_cells_of s code m compiled (levels_laid s code compiled) g x (block_ordinary s compiled.agrees g a.prefixed))) false false refl (block_begun s g (length m.instances)) (block_begun_of_code code x.block.class (length fs.instances)) begun_same EndPrefixed (NoObject None) (NoObject None) refl chain under (λ m' fs' number is. tt) under_there
        (λ m' fs' there block limit temps t' p last at. record {
          levels = x.levels;
          not_first = not_first s code compiled g t x.levels a.stands_in;
          was = refl;
          block = x.block;
          found = x.found;
          ends = record { base = (refl, refl); last = last; at = at; heads = block_heads; none = refl; below = there };
        }) Goes follows)

  pub prefixed_op : (k n line : ℕ) → Follows (PrefixedOp k n line)
  prefixed_op k n line a =
      at_row s code l o fs top below _ (i.Pref (pos (block_number s k)) (pos n)) line q a.is
      (call_row s code compiled l o m inst w vals rest fs t b pc stack below ks here u q ks' low work n _ _
      (counted_many Configuration Machine Related (HandAt s code m) n n ks' [] [] vals stack o _ _ (kinds_as s code a.«in» here.values) tt (omega arith) (λ values values' vals1 stack1 each counted h1.
      call_row s code compiled l o m inst w vals rest fs t b pc stack below ks here u q ks' low work (block_number s k) _ _
      (prefixed_alike k n line (class_has s code compiled k a.has) a values values' each vals1 stack1 h1))))
