-- The tables of an allowed program agree with its texts.
use Rattle.std.proofs.Common.{ap}
use Rattle.sim_agree.specs.Order.{InOrder}
use Rattle.sim_scope.specs.Source.{Source}
use Rattle.sim_meaning.specs.Levels.{has_levels}
use Rattle.sim_meaning.specs.Texts.{BlockText, ClassText, PrefixedText, StandardText}
use Rattle.sim_agree.specs.TablesAgree.{TablesAgree}
use Rattle.sim_agree.specs.TablesOf.{TablesOf}
use Rattle.sim_agree.proofs.ArrayNames as a
use Rattle.sim_agree.proofs.BlockPrefixes as b
use Rattle.sim_agree.proofs.Chains as c
use Rattle.sim_agree.proofs.Findings as f
use Rattle.sim_agree.proofs.Headings as h
use Rattle.sim_agree.proofs.Insides as i
use Rattle.sim_agree.proofs.Matches as m
use Rattle.sim_agree.proofs.SetLevels as l
use Rattle.sim_agree.proofs.StandardRows as r
use Rattle.sim_agree.proofs.Tables as t
use Rattle.sim_agree.proofs.TextOrder as o
use Rattle.sim_agree.proofs.Tokens as n

pub tables_agree : (s : Source) → TablesOf s → InOrder s.program → TablesAgree s
tables_agree s of order =
    record {
      starts = b.starts s of order;
      outermost = t.outermost s of order;
      as_many = t.as_many s of order;
      some_block = t.some_block s of order;
      nesting = t.nesting s of order;
      levels = t.levels s of order;
      levels_of_connections = t.levels_of_connections s of order;
      begins = i.begins s of order;
      inside = i.inside s of order;
      connections = i.connections s of order;
      prefixed_kinds = i.prefixed_kinds s of order;
      prefixes = c.prefixes s of order;
      connects = t.connects s of order;
      nothing_in_connections = t.nothing_in_connections s of order;
      outward = i.outward s of order;
      listed = t.listed s of order;
      unlisted = r.unlisted s of order;
      owned = t.owned_block s of order;
      tokens = n.token_declared s of order;
      different = h.different s of order;
      parameters = h.parameters_formal s of order;
      by_name = t.by_name_outside s of order;
      virtuals = m.virtuals s of order;
      procedures = h.procedures s of order;
      classes = h.classes s of order;
      class_levels = t.class_levels s of order;
      level_kinds = i.level_kinds s of order;
      owners = c.owners s of order;
      blocks = λ k begin ds ss is. record {
        no_formals = h.no_formals s of order k (BlockText begin ds ss) (λ z. z) is;
        arrays = record { distinct = o.distinct s order k begin ds ss is; made = a.made s of order k (BlockText begin ds ss) is; own = a.own s of order k (BlockText begin ds ss) is };
      };
      bodies = h.headings s of order;
      class_texts = λ k prefix head ds ss is. record {
        formals = h.class_headings s of order k;
        parameters = h.parameters s of order k;
        arrays = record { distinct = o.distinct_class s order k prefix head ds ss is; made = a.made s of order k (ClassText prefix head ds ss) is; own = a.own s of order k (ClassText prefix head ds ss) is };
        stays = i.stays s of order k (ap has_levels is);
      };
      prefixed_texts = λ k class es ds ss is. record {
        formals = h.class_headings s of order k;
        parameters = h.parameters s of order k;
        arrays = record { distinct = o.distinct_prefixed s order k class es ds ss is; made = a.made s of order k (PrefixedText class es ds ss) is; own = a.own s of order k (PrefixedText class es ds ss) is };
        stays = i.stays s of order k (ap has_levels is);
      };
      standard_texts = λ k which is. record {
        formals = h.class_headings s of order k;
        parameters = h.parameters s of order k;
        arrays = record { distinct = tt; made = a.made s of order k (StandardText which) is; own = a.own s of order k (StandardText which) is };
        stays = i.stays s of order k (ap has_levels is);
      };
      set_classes = r.class_there s of order;
      attribute_names = r.attribute_names s of order;
      set_procedures = r.procedure_there s of order;
      bare = r.bare s of order;
      processes_brought = r.process_brought s of order;
      simulations = r.simulation_classes s of order;
      processes = r.process_there s of order;
      simulation_procedures = r.simulation_there s of order;
      block_prefixes = b.block_prefix s of order;
      no_set_block = λ k u which class es ds ss is level at. l.no_set_level s of order k class es ds ss is u which level at;
      there = f.there s of order;
      around = f.around s of order;
      attributes = f.attributes s of order;
    }
