use Rattle.std.proofs.Common.{arith, subst}
use Rattle.lg_vread.specs.Reading.{module_at, Reads}
use Rattle.lg_vread.proofs.Limits.{found_within, found_only, none_within}
use Rattle.lg_vread.proofs.read.read_module.Goals as goal

pub returns-clause-found : goal.returns-clause-found
returns-clause-found c = found_within c.args.bytes.now (omega arith) c.module.result (subst (λ ts. Reads c.module.result (module_at 100 ts)) c.new-reader.ensures c.module.ensures)

pub returns-clause-only : goal.returns-clause-only
returns-clause-only c = found_only c.args.bytes.now (omega arith) c.module.result (subst (λ ts. Reads c.module.result (module_at 100 ts)) c.new-reader.ensures c.module.ensures)

pub returns-clause-not_subset : goal.returns-clause-not_subset
returns-clause-not_subset c = none_within c.args.bytes.now (omega arith) c.module.result (subst (λ ts. Reads c.module.result (module_at 100 ts)) c.new-reader.ensures c.module.ensures)
