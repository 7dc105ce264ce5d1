use Rattle.std.proofs.Common.{sym, ◌∙◌, rules}
use Rattle.std.proofs.lemmas.Iterator.Adapters.{option_map_id}
use Rattle.std.proofs.lemmas.Iterator.{YieldsList-from_slice, YieldsList-from_map}
use Rattle.std.proofs.lemmas.Iterator.Consumers.{min_from_yields_List}
use Rattle.tables.proofs.Words.{least_start_is}
use Rattle.tables.proofs.dirty.DirtyTable.least_start.Goals as goal

pub returns : goal.returns
returns c = rw least_start_is (sym (option_map_id c.min.result) ∙ min_from_yields_List _ c.min.result c.min.ensures.ran (YieldsList-from_map _ (λ x. x.start) (YieldsList-from_slice c.args.self.now cc) c.map.ensures.closure (λ x r q k. search rules)))
